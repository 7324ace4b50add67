-- What operators, prefixes and conversions make of values of their operands' types.
use Rattle.check_rules.proofs.Untold.{standing_none}
use Rattle.std.proofs.lemmas.Bool.{not-false}
use Rattle.plain_values.proofs.Plain.{option_or_parts}
use Rattle.std.proofs.Common.{List, [], ◌∷◌, Bool, None, Option, Some, false, true, refl, ap, sym, subst, ℕ, ℤ, pos, negsuc, ◌≡◌, ◌∙◌, ◌||◌, not}
use Rattle.regent_tree.specs.Accesses.{converted, standing}
use Rattle.regent_tree.specs.Numbers.{computed, wider}
use Rattle.regent_tree.specs.Operators.{all_signed, arithmetic, as_number, cast_to, negated, operand, space_of_size, unless_divided}
use Rattle.std.specs.Prelude.{nat_le}
use Rattle.regent_tree.specs.declared.outcome.FaultKind.TheVariants.{BadSize}
use Rattle.regent_tree.specs.Running.{Here, Result, Run, State, and_then, fails, fault, given, gives, if_true}
use Rattle.regent_tree.specs.StaticTypes.{Reach, number_type}
use Rattle.regent_tree.specs.Typing.{arithmetic_type, counting_as, signed_type}
use Rattle.regent_tree.specs.Values.{Region, Value, a_number, a_partition, a_pointer, a_region, a_space, a_truth, an_index, null_target, number_of, point_target}
use Rattle.regent_tree.specs.declared.expression.Arithmetic.{Arithmetic}
use Rattle.regent_tree.specs.declared.expression.Sign.{Sign}
use Rattle.regent_tree.specs.declared.expression.Sign.TheVariants.{Minus, Not}
use Rattle.regent_tree.specs.declared.types.Kind.{Kind}
use Rattle.regent_tree.specs.declared.types.NumberTerm.{NumberTerm}
use Rattle.regent_tree.specs.declared.types.NumberTerm.TheVariants as number
use Rattle.regent_tree.specs.declared.typing.StaticType.{StaticType}
use Rattle.regent_tree.specs.declared.typing.StaticType.TheVariants.{Index as index_type, Integer as integer_type, Ispace as ispace_type, Nothing as no_type, Partition as partition_type, Pointer as pointer_type, Region as region_type, Truth as truth_type, Unknown as unknown_type}
use Rattle.regent_tree.specs.Scopes.{Scope}
use Rattle.check_rules.specs.first.FirstInExpressions.{first_of_signs}
use Rattle.check_rules.specs.types.KnownTypes.{known_type_after_signs}
use Rattle.check_rules.specs.rules.Places.{is_value_type}
use Rattle.check_rules.specs.types.Sorts.{is_number as numeric, is_region, is_truth as truthful, is_unknown_type, may_be}
use Rattle.check_rules.specs.rules.Standing.{number_spot, stands, truth_spot}
use Rattle.check_rules.specs.rules.Types.{computes_with}
use Rattle.check_laws.specs.SoundScopes.{IsKnown}
use Rattle.check_laws.proofs.Parts.{after_signs, surely, unless_false}
use Rattle.expression_laws.specs.Kinds.{GoInto, IsOfType, is_index, is_number, is_pointer, is_space, is_truth, number_stood_for}
use Rattle.fact_laws.specs.Regions.{Interpretation}
use Rattle.expression_laws.specs.Sound.{Instance, IsPassed, IsSoundState, KeepsSound}

-- ---- steps in order

pub after : {x : Instance} {m : Interpretation} {s : Scope} {A B : Type 0} {Is : A → Type 0} (Js : B → Type 0) (r : Result A) (more : A → Run B) →
    KeepsSound x m s Is r → ((a : A) (u : State) → IsSoundState x m s u → Is a → KeepsSound x m s Js (more a u)) → KeepsSound x m s Js (and_then r more)
after Js (gives a u) more stays next = next a u stays.0 stays.1
after Js (fails f u) more stays next = stays

pub weaker : (x : Instance) (m : Interpretation) (s : Scope) {A : Type 0} {Is Js : A → Type 0} (r : Result A) →
    KeepsSound x m s Is r → ((a : A) → Is a → Js a) → KeepsSound x m s Js r
weaker x m s (gives a u) stays more = (stays.0, more a stays.1)
weaker x m s (fails f u) stays more = stays

pub chosen : (x : Instance) (m : Interpretation) (s : Scope) {A : Type 0} (Is : A → Type 0) (b : Bool) (this that : Run A) (u : State) →
    KeepsSound x m s Is (this u) → KeepsSound x m s Is (that u) → KeepsSound x m s Is (if_true b this that u)
chosen x m s Is true this that u a b = a
chosen x m s Is false this that u a b = b

module _ (x : Instance) (m : Interpretation) (s : Scope) (h : Here) where
  -- ---- what a value stands for

  pub standing_any : (v : Value) (u : State) → IsSoundState x m s u → KeepsSound x m s (λ a. Unit {0}) (standing h v u)
  standing_any (a_pointer null_target rs) u st = record { covered = st.covered; depth = λ e. absurd cc }
  standing_any (a_pointer (point_target n i) rs) u st = (st, tt)
  standing_any (a_number w z) u st = (st, tt)
  standing_any (a_truth b) u st = (st, tt)
  standing_any (an_index z) u st = (st, tt)
  standing_any (a_space n) u st = (st, tt)
  standing_any (a_region r) u st = (st, tt)
  standing_any (a_partition p) u st = (st, tt)

  pub operand_any : (b : Bool) (v : Value) (u : State) → IsSoundState x m s u → KeepsSound x m s (λ a. Unit {0}) (operand h b v u)
  operand_any true v u st = (st, tt)
  operand_any false v u st = standing_any v u st

  pub standing_is : (t : StaticType) (v : Value) (u : State) → is_value_type t ≡ true → IsOfType m t v → IsSoundState x m s u →
      KeepsSound x m s (λ a. IsOfType m (counting_as t) a × (number_of a ≡ number_stood_for v)) (standing h v u)
  standing_is (integer_type w) v u e is_number st = (st, (is_number, refl))
  standing_is truth_type v u e is_truth st = (st, (is_truth, refl))
  standing_is (index_type k) v u e is_index st = (st, (is_index, refl))
  standing_is (pointer_type k sp args terms) v u e (is_pointer {t = null_target} go) st = record { covered = st.covered; depth = λ e. absurd cc }
  standing_is (pointer_type k sp args terms) v u e (is_pointer {t = point_target n i} go) st = (st, (is_index, refl))
  standing_is (ispace_type k) v u e is st = absurd cc
  standing_is (region_type k sp args t) v u e is st = absurd cc
  standing_is (partition_type d r p) v u e is st = absurd cc
  standing_is no_type v u e is st = absurd cc
  standing_is unknown_type v u e is st = absurd cc

  -- ---- arithmetic

  divided : (Is : Value → Type 0) (made : ℤ → Value) (r : Option ℤ) (u : State) → ((z : ℤ) → Is (made z)) → IsSoundState x m s u →
      KeepsSound x m s Is (unless_divided h made r u)
  divided Is made (Some z) u is st = (st, is z)
  divided Is made None u is st = record { covered = st.covered; depth = λ e. absurd cc }

  pub arithmetic_is : (t v : StaticType) (o : Arithmetic) (a b : Value) (u : State) → numeric t ≡ true → numeric v ≡ true →
      IsOfType m (counting_as t) a → IsOfType m (counting_as v) b → IsSoundState x m s u →
      KeepsSound x m s (IsOfType m (arithmetic_type (counting_as t) (counting_as v))) (arithmetic h o a b u)
  arithmetic_is (integer_type w) (integer_type y) o a b u e f (is_number {z = i}) (is_number {z = j}) st =
      divided (IsOfType m (integer_type (wider w y))) (λ z. a_number (wider w y) z) (computed o (wider w y) i j) u (λ z. is_number) st
  arithmetic_is (integer_type w) (index_type k) o a b u e f (is_number {z = i}) (is_index {z = j}) st =
      divided (IsOfType m (index_type k)) (λ z. an_index z) _ u (λ z. is_index) st
  arithmetic_is (integer_type w) (pointer_type k sp args terms) o a b u e f (is_number {z = i}) (is_index {z = j}) st =
      divided (IsOfType m (index_type k)) (λ z. an_index z) _ u (λ z. is_index) st
  arithmetic_is (index_type k) v o a b u e f (is_index {z = i}) is st =
      divided (IsOfType m (index_type k)) (λ z. an_index z) _ u (λ z. is_index) st
  arithmetic_is (pointer_type k sp args terms) v o a b u e f (is_index {z = i}) is st =
      divided (IsOfType m (index_type k)) (λ z. an_index z) _ u (λ z. is_index) st
  arithmetic_is (integer_type w) truth_type o a b u e f is js st = absurd cc
  arithmetic_is (integer_type w) (ispace_type k) o a b u e f is js st = absurd cc
  arithmetic_is (integer_type w) (region_type k sp args t) o a b u e f is js st = absurd cc
  arithmetic_is (integer_type w) (partition_type d r p) o a b u e f is js st = absurd cc
  arithmetic_is (integer_type w) no_type o a b u e f is js st = absurd cc
  arithmetic_is (integer_type w) unknown_type o a b u e f is js st = absurd cc
  arithmetic_is truth_type v o a b u e f is js st = absurd cc
  arithmetic_is (ispace_type k) v o a b u e f is js st = absurd cc
  arithmetic_is (region_type k sp args t) v o a b u e f is js st = absurd cc
  arithmetic_is (partition_type d r p) v o a b u e f is js st = absurd cc
  arithmetic_is no_type v o a b u e f is js st = absurd cc
  arithmetic_is unknown_type v o a b u e f is js st = absurd cc

  pub size_is : (k : Kind) (z : ℤ) (u : State) → IsSoundState x m s u → KeepsSound x m s (IsOfType m (ispace_type k)) (space_of_size h z u)
  size_is k (pos n) u st = chosen x m s (IsOfType m (ispace_type k)) (nat_le n 4194304) (given (a_space n)) (fault h BadSize) u (st, is_space) (record { covered = st.covered; depth = λ e. absurd cc })
  size_is k (negsuc n) u st = record { covered = st.covered; depth = λ e. absurd cc }

  -- a conversion leaves a region as it is
  pub converted_passes : (from wanted : StaticType) (rs : List Region) (v : Value) (u : State) → IsSoundState x m s u →
      KeepsSound x m s (λ a. is_region wanted ≡ true → a ≡ v) (converted h from wanted rs v u)
  converted_passes from (integer_type w) rs v u st = (st, λ e. absurd cc)
  converted_passes from truth_type rs v u st = (st, λ e. refl)
  converted_passes from (index_type k) rs v u st =
      after (λ a. is_region (index_type k) ≡ true → a ≡ v) (standing h v u) _ (standing_any v u st) (λ a w st is. (st, λ e. absurd cc))
  converted_passes from (pointer_type k sp args terms) rs v u st = (st, λ e. absurd cc)
  converted_passes from (ispace_type k) rs v u st = (st, λ e. refl)
  converted_passes from (region_type k sp args t) rs v u st = (st, λ e. refl)
  converted_passes from (partition_type d r p) rs v u st = (st, λ e. refl)
  converted_passes from no_type rs v u st = (st, λ e. refl)
  converted_passes from unknown_type rs v u st = (st, λ e. refl)

-- what is given to a parameter
pub passed_is : (x : Instance) (m : Interpretation) (s : Scope) (h : Here) (from wanted : StaticType) (v : Value) (u : State) → IsOfType m from v → IsSoundState x m s u →
    KeepsSound x m s (IsPassed m from wanted) (converted h from wanted [] v u)
passed_is x m s h from (integer_type w) v u is st = (st, (_, refl))
passed_is x m s h from (index_type k) v u is st = after (IsPassed m from (index_type k)) (standing h v u) _ (standing_any x m s h v u st) (λ a w st k. (st, (_, refl)))
passed_is x m s h from (pointer_type k sp args terms) v u is st = (st, (_, refl))
passed_is x m s h from truth_type v u is st = (st, is)
passed_is x m s h from (ispace_type k) v u is st = (st, is)
passed_is x m s h from (region_type k sp args t) v u is st = (st, is)
passed_is x m s h from (partition_type d r p) v u is st = (st, is)
passed_is x m s h from no_type v u is st = (st, is)
passed_is x m s h from unknown_type v u is st = (st, is)

-- operands of arithmetic are numbers
beside_number : (v : StaticType) → is_unknown_type v ≡ false → may_be numeric (counting_as v) ≡ true → numeric v ≡ true
beside_number (integer_type y) l e = refl
beside_number (index_type k) l e = refl
beside_number (pointer_type k sp args terms) l e = refl
beside_number truth_type l e = absurd cc
beside_number (ispace_type k) l e = absurd cc
beside_number (region_type k sp args t) l e = absurd cc
beside_number (partition_type d r p) l e = absurd cc
beside_number no_type l e = absurd cc
beside_number unknown_type l e = absurd cc

beside_index : (j : Kind) (v : StaticType) → is_unknown_type v ≡ false → computes_with (index_type j) (counting_as v) ≡ true → numeric v ≡ true
beside_index j (integer_type y) l e = refl
beside_index j (index_type k) l e = refl
beside_index j (pointer_type k sp args terms) l e = refl
beside_index j truth_type l e = absurd cc
beside_index j (ispace_type k) l e = absurd cc
beside_index j (region_type k sp args t) l e = absurd cc
beside_index j (partition_type d r p) l e = absurd cc
beside_index j no_type l e = absurd cc
beside_index j unknown_type l e = absurd cc

pub computes_numbers : (t v : StaticType) → is_unknown_type t ≡ false → is_unknown_type v ≡ false →
    computes_with (counting_as t) (counting_as v) ≡ true → (numeric t ≡ true) × (numeric v ≡ true)
computes_numbers (integer_type w) v k l e = (refl, beside_number v l e)
computes_numbers (index_type j) v k l e = (refl, beside_index j v l e)
computes_numbers (pointer_type j sp args terms) v k l e = (refl, beside_index j v l e)
computes_numbers truth_type v k l e = absurd cc
computes_numbers (ispace_type j) v k l e = absurd cc
computes_numbers (region_type j sp args t) v k l e = absurd cc
computes_numbers (partition_type d r p) v k l e = absurd cc
computes_numbers no_type v k l e = absurd cc
computes_numbers unknown_type v k l e = absurd cc

pub value_from_number : (t : StaticType) → numeric t ≡ true → is_value_type t ≡ true
value_from_number t e = ap (λ b. b || truthful t) e

pub as_truth : (m : Interpretation) (t : StaticType) (v : Value) → truthful t ≡ true → IsOfType m t v → IsOfType m truth_type v
as_truth m truth_type v e is = is
as_truth m (integer_type w) v e is = absurd cc
as_truth m (index_type k) v e is = absurd cc
as_truth m (pointer_type k sp args terms) v e is = absurd cc
as_truth m (ispace_type k) v e is = absurd cc
as_truth m (region_type k sp args t) v e is = absurd cc
as_truth m (partition_type d r p) v e is = absurd cc
as_truth m no_type v e is = absurd cc
as_truth m unknown_type v e is = absurd cc

pub as_number_is : (m : Interpretation) (t : NumberTerm) (v : Value) → IsOfType m (number_type t) (as_number t v)
as_number_is m number.Int32 v = is_number
as_number_is m number.Int64 v = is_number
as_number_is m (number.Index k) v = is_index

pub cast_is : (m : Interpretation) (k : Kind) (sp : ℕ) (args terms : List Reach) (rs : List Region) (v : Value) → GoInto m terms rs →
    IsOfType m (pointer_type k sp args terms) (cast_to rs v)
cast_is m k sp args terms rs (a_pointer t qs) go = is_pointer go
cast_is m k sp args terms rs (a_number w z) go = is_pointer go
cast_is m k sp args terms rs (a_truth b) go = is_pointer go
cast_is m k sp args terms rs (an_index z) go = is_pointer go
cast_is m k sp args terms rs (a_space n) go = is_pointer go
cast_is m k sp args terms rs (a_region r) go = is_pointer go
cast_is m k sp args terms rs (a_partition p) go = is_pointer go

-- ---- prefixes

pub counted_twice : (t : StaticType) → counting_as (counting_as t) ≡ counting_as t
counted_twice (integer_type w) = refl
counted_twice truth_type = refl
counted_twice (index_type k) = refl
counted_twice (pointer_type k sp args terms) = refl
counted_twice (ispace_type k) = refl
counted_twice (region_type k sp args t) = refl
counted_twice (partition_type d r p) = refl
counted_twice no_type = refl
counted_twice unknown_type = refl

negated_is : (m : Interpretation) (t : StaticType) (v : Value) → numeric t ≡ true → IsOfType m (counting_as t) v → IsOfType m (counting_as t) (negated v)
negated_is m (integer_type w) v e is_number = is_number
negated_is m (index_type k) v e is_index = is_index
negated_is m (pointer_type k sp args terms) v e is_index = is_index
negated_is m truth_type v e is = absurd cc
negated_is m (ispace_type k) v e is = absurd cc
negated_is m (region_type k sp args t) v e is = absurd cc
negated_is m (partition_type d r p) v e is = absurd cc
negated_is m no_type v e is = absurd cc
negated_is m unknown_type v e is = absurd cc

pub signed_is : (m : Interpretation) (s : Scope) (signs : List Sign) (t : StaticType) (a : Value) → IsKnown s t → first_of_signs signs t ≡ None →
    IsOfType m (counting_as t) a → IsOfType m (counting_as (known_type_after_signs signs t)) (all_signed signs a)
signed_is m s [] t a known e is = is
signed_is m s (Not ∷ signs) t a known e is =
    let parts = option_or_parts (first_of_signs signs t) _ e in
    let sign = surely truthful (known_type_after_signs signs t) (after_signs s signs t known parts.0).known
    (not-false _ (standing_none [] (stands (known_type_after_signs signs t) truth_spot) parts.1).1) in
    subst (λ v. IsOfType m (counting_as v) (all_signed (Not ∷ signs) a)) (sym (unless_false (not (truthful (known_type_after_signs signs t))) truth_type (ap not sign))) is_truth
signed_is m s (Minus ∷ signs) t a known e is =
    let parts = option_or_parts (first_of_signs signs t) _ e in
    let inner = known_type_after_signs signs t in
    let sign = surely numeric inner (after_signs s signs t known parts.0).known
    (not-false _ (standing_none [] (stands inner number_spot) parts.1).1) in
    subst (λ v. IsOfType m (counting_as v) (all_signed (Minus ∷ signs) a)) (sym (unless_false (not (numeric inner)) (counting_as inner) (ap not sign)))
    (subst (λ v. IsOfType m v (all_signed (Minus ∷ signs) a)) (sym (counted_twice inner))
    (negated_is m inner (all_signed signs a) sign (signed_is m s signs t a known parts.0 is)))

-- the innermost prefix stands before a number or a truth
pub signs_value : (s : Scope) (sign : Sign) (signs : List Sign) (t : StaticType) → IsKnown s t → first_of_signs (sign ∷ signs) t ≡ None → is_value_type t ≡ true
signs_value s Not [] t known e =
    let is = surely truthful t known.known (not-false _ (standing_none [] (stands t truth_spot) e).1) in
    ap (λ b. numeric t || b) is ∙ or_true (numeric t)
  where
    or_true : (b : Bool) → (b || true) ≡ true
    or_true true = refl
    or_true false = refl
signs_value s Minus [] t known e =
    value_from_number t (surely numeric t known.known (not-false _ (standing_none [] (stands t number_spot) e).1))
signs_value s sign (next ∷ signs) t known e = signs_value s next signs t known (option_or_parts (first_of_signs (next ∷ signs) t) _ e).0

pub signed_counted : (sign : Sign) (signs : List Sign) (t : StaticType) → counting_as (signed_type (sign ∷ signs) t) ≡ signed_type (sign ∷ signs) t
signed_counted Not signs t = refl
signed_counted Minus signs t = counted_twice t
