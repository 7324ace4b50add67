-- A value that is assigned to a variable is of its type, and no other name has its place.
use Rattle.std.proofs.Common.{arith, Bool, List, [], ◌∷◌, None, false, true, not, refl, ap, sym, subst, ℕ, ◌≡◌, ◌≢◌, ◌∙◌, ◌<◌, ◌==◌, ◌||◌, ◌&&◌, ◌⊎◌, inl, inr, cond, get_or, length}
use Rattle.std.proofs.lemmas.Bool.{eqb-true, not-false, or_parts}
use Rattle.std.proofs.lemmas.List.{get_or-set_other, get_or-set_same, length-set}
use Rattle.std.specs.List.{list_any}
use Rattle.std.specs.Prelude.{nat_lt, slice_set}
use Rattle.plain_values.proofs.Plain.{option_or_parts}
use Rattle.regent_tree.specs.Accesses.{converted, standing}
use Rattle.regent_tree.specs.Evaluation.{typed, value}
use Rattle.regent_tree.specs.Execution.{right_side, updated, with_regions_of, write_name}
use Rattle.regent_tree.specs.Lookup.{is_bound}
use Rattle.regent_tree.specs.Running.{Here, State}
use Rattle.regent_tree.specs.Scopes.{Scope, bound_as, bound_to, unbound}
use Rattle.regent_tree.specs.Syntax.{Expression, Name, assign_form, no_step}
use Rattle.regent_tree.specs.Typing.{reaches_of}
use Rattle.regent_tree.specs.Values.{Region, Value, a_truth}
use Rattle.regent_tree.specs.declared.facts.Known.{Known}
use Rattle.regent_tree.specs.declared.statement.How.{How}
use Rattle.regent_tree.specs.declared.statement.How.TheVariants as how
use Rattle.regent_tree.specs.declared.typing.Bound.{Bound}
use Rattle.regent_tree.specs.declared.typing.StaticType.{StaticType}
use Rattle.regent_tree.specs.declared.typing.StaticType.TheVariants.{Index as index_type, Integer as integer_type, Ispace as ispace_type, Nothing as no_type, Partition as partition_type, Pointer as pointer_type, Region as region_type, Truth as truth_type, Unknown as unknown_type}
use Rattle.regent_tree.specs.Syntax.{TaskTree}
use Rattle.check_rules.proofs.Untold.{rule_none}
use Rattle.check_rules.specs.declared.rule.Rule.TheVariants as rule
use Rattle.check_rules.specs.first.FirstInExpressions.{first_in_expression}
use Rattle.check_rules.specs.first.FirstInStatements.{first_of_form}
use Rattle.check_rules.specs.first.Rules.{rule_if}
use Rattle.check_rules.specs.rules.Standing.{stands, typed_spot}
use Rattle.check_rules.specs.rules.Statements.{standing_in_form}
use Rattle.check_rules.specs.rules.Targets.{is_fixed, is_no_integer, mistargets}
use Rattle.check_rules.specs.rules.Types.{is_ill_typed_at_place}
use Rattle.check_rules.specs.types.Fitting.{fits}
use Rattle.check_rules.specs.types.KnownTypes.{known_type}
use Rattle.check_rules.specs.types.Params.{type_unless}
use Rattle.check_rules.specs.types.Sorts.{is_collection, is_integer, is_unknown_type}
use Rattle.check_laws.proofs.Parts.{contrary, surely}
use Rattle.check_laws.proofs.Scopes.{found_by_number}
use Rattle.check_laws.proofs.Variables.{parts_of_form}
use Rattle.fact_laws.specs.Regions.{Interpretation}
use Rattle.expression_laws.specs.Kinds.{GoInto, IsBoundTo, IsOfType, NamesFit, is_index, is_nothing, is_number, is_partition_of, is_pointer, is_region_of, is_space, is_truth}
use Rattle.expression_laws.specs.Sound.{Instance, IsSoundState, KeepsSound}
use Rattle.expression_laws.specs.Writing.{IsWritten}
use Rattle.expression_laws.proofs.Knowing.{known_as_meant}
use Rattle.expression_laws.proofs.Names.{named_fits}
use Rattle.expression_laws.proofs.Operators.{after, standing_any, weaker}
use Rattle.statement_laws.specs.Places.{FormGoes, IsReady}
use Rattle.statement_laws.specs.Steady.{ArePlaced}
use Rattle.statement_laws.proofs.Going.{stays_goes, then_goes}
use Rattle.statement_laws.proofs.Leaves.{form_parts}
use Rattle.statement_laws.proofs.Returns.{truth_from}
use Rattle.statement_laws.proofs.Loops.{evaluates}
use Rattle.statement_laws.proofs.States.{placed_below, unbound_fits}

-- ---- conversions

-- nothing fits what a call without a result gives
nothing_from : (known : List Known) (from : StaticType) → is_unknown_type from ≡ false → fits known from no_type ≡ true → ⊥
nothing_from known truth_type k e = absurd cc
nothing_from known (integer_type w) k e = absurd cc
nothing_from known (index_type j) k e = absurd cc
nothing_from known (pointer_type j s args terms) k e = absurd cc
nothing_from known (ispace_type j) k e = absurd cc
nothing_from known (region_type j s args t) k e = absurd cc
nothing_from known (partition_type d r p) k e = absurd cc
nothing_from known no_type k e = absurd cc
nothing_from known unknown_type k e = absurd cc

-- a value that is converted to a type that it fits, and that is no collection's, is of that type
pub converted_is : (x : Instance) (m : Interpretation) (s : Scope) (h : Here) (known : List Known) (from wanted : StaticType) (rs : List Region) (v : Value) (u : State) →
    is_unknown_type from ≡ false → is_unknown_type wanted ≡ false → is_collection wanted ≡ false → fits known from wanted ≡ true →
    GoInto m (reaches_of wanted) rs → IsOfType m from v → IsSoundState x m s u → KeepsSound x m s (IsOfType m wanted) (converted h from wanted rs v u)
converted_is x m s h known from (integer_type w) rs v u k l c e go is st = (st, is_number)
converted_is x m s h known from truth_type rs v u k l c e go is st = (st, truth_from m known from v k e is)
converted_is x m s h known from (index_type j) rs v u k l c e go is st =
    after (IsOfType m (index_type j)) (standing h v u) _ (standing_any x m s h v u st) (λ a w st is. (st, is_index))
converted_is x m s h known from (pointer_type j sp args terms) rs v u k l c e go is st = (st, is_pointer go)
converted_is x m s h known from no_type rs v u k l c e go is st = absurd (nothing_from known from k e)
converted_is x m s h known from (ispace_type j) rs v u k l c e go is st = absurd cc
converted_is x m s h known from (region_type j sp args t) rs v u k l c e go is st = absurd cc
converted_is x m s h known from (partition_type d r p) rs v u k l c e go is st = absurd cc
converted_is x m s h known from unknown_type rs v u k l c e go is st = absurd cc

-- ---- what a variable has then

set_is : (m : Interpretation) (t : StaticType) (old v : Value) → is_unknown_type t ≡ false → IsOfType m t old → IsOfType m t v → IsOfType m t (with_regions_of old v)
set_is m (pointer_type k s args terms) old v l (is_pointer go) (is_pointer other) = is_pointer go
set_is m (integer_type w) old v l was is_number = is_number
set_is m truth_type old v l was is_truth = is_truth
set_is m (index_type k) old v l was is_index = is_index
set_is m (ispace_type k) old v l was is_space = is_space
set_is m (region_type k s args t) old v l was (is_region_of stands) = is_region_of stands
set_is m (partition_type d r p) old v l was (is_partition_of same) = is_partition_of same
set_is m no_type old v l was is_nothing = is_nothing
set_is m unknown_type old v l was is = absurd cc

reduced_is : (m : Interpretation) (t : StaticType) (o : _) (old v : Value) → is_integer t ≡ true → IsOfType m t old → IsOfType m t (updated (how.Reduce o) old v)
reduced_is m (integer_type w) o old v e is_number = is_number
reduced_is m truth_type o old v e is = absurd cc
reduced_is m (index_type k) o old v e is = absurd cc
reduced_is m (pointer_type k s args terms) o old v e is = absurd cc
reduced_is m (ispace_type k) o old v e is = absurd cc
reduced_is m (region_type k s args t) o old v e is = absurd cc
reduced_is m (partition_type d r p) o old v e is = absurd cc
reduced_is m no_type o old v e is = absurd cc
reduced_is m unknown_type o old v e is = absurd cc

-- ---- places of names

-- bindings of one place are one binding
pub same_place : (names : List Bound) → ArePlaced names → (i j : ℕ) → (bound_as names i).place ≡ (bound_as names j).place →
    (bound_as names i ≡ bound_as names j) ⊎ ((bound_as names i ≡ unbound) ⊎ (bound_as names j ≡ unbound))
same_place [] placed i j e = inl refl
same_place (b ∷ bs) placed i j e = here (b.number == i) (b.number == j) e (same_place bs placed.1 i j)
  where
    apart : (k : ℕ) → b.place ≡ (bound_as bs k).place → bound_as bs k ≡ unbound
    apart k e = elim (placed_below bs placed.1 k) [
      | inl l ↦ let p = placed.0 in absurd (omega (arith, e, l, p))
      | inr g ↦ g
    ]

    here : (c d : Bool) → (cond c b (bound_as bs i)).place ≡ (cond d b (bound_as bs j)).place →
        ((bound_as bs i).place ≡ (bound_as bs j).place → (bound_as bs i ≡ bound_as bs j) ⊎ ((bound_as bs i ≡ unbound) ⊎ (bound_as bs j ≡ unbound))) →
        (cond c b (bound_as bs i) ≡ cond d b (bound_as bs j)) ⊎ ((cond c b (bound_as bs i) ≡ unbound) ⊎ (cond d b (bound_as bs j) ≡ unbound))
    here true true e rest = inl refl
    here true false e rest = inr (inr (apart j e))
    here false true e rest = inr (inl (apart i (sym e)))
    here false false e rest = rest e

unlike : (a b : ℕ) → (a == b) ≡ false → a ≢ b
unlike a b e same = let f = same in absurd (search (arith, e, f))

-- one name's value changes to another of its type
set_fits : (m : Interpretation) (s : Scope) (names : List Value) (b : Bound) (v : Value) → ArePlaced s.names → length names ≡ length s.names → bound_as s.names b.number ≡ b →
    is_unknown_type b.static_type ≡ false → b.by_loop ≡ false → IsOfType m b.static_type v → NamesFit m s names → NamesFit m s (slice_set names b.place v)
set_fits m s names b v placed counted found known by_name is fit i = here ((bound_as s.names i).place == b.place) refl
  where
    never : {A : Type 0} → b ≡ unbound → A
    never e = absurd (contrary (sym (ap (λ (c : Bound). is_unknown_type c.static_type) e) ∙ known))

    here : (c : Bool) → ((bound_as s.names i).place == b.place) ≡ c →
        IsBoundTo m i (bound_as s.names i) (get_or (slice_set names b.place v) (bound_as s.names i).place (a_truth false))
    here false q = subst (IsBoundTo m i (bound_as s.names i)) (sym (get_or-set_other names b.place (bound_as s.names i).place v (a_truth false) (unlike _ _ q))) (fit i)
    here true q =
        let same = eqb-true (bound_as s.names i).place b.place q in
        elim (same_place s.names placed i b.number (same ∙ sym (ap (λ (c : Bound). c.place) found))) [
          | inl e ↦ elim (placed_below s.names placed b.number) [
            | inl l ↦
                let short : b.place < length names = subst (λ k. b.place < k) (sym counted) (subst (λ (c : Bound). c.place < length s.names) found l) in
                subst (λ (c : Bound). IsBoundTo m i c (get_or (slice_set names b.place v) c.place (a_truth false))) (sym (e ∙ found))
                (subst (IsBoundTo m i b) (sym (get_or-set_same names b.place v (a_truth false) short))
                (record { is_of = is; colour = λ r. absurd (contrary (sym r ∙ by_name)) }))
            | inr g ↦ never (sym found ∙ g)
          ]
          | inr (inl g) ↦ unbound_fits m i (bound_as s.names i) _ g
          | inr (inr g) ↦ never (sym found ∙ g)
        ]

-- ---- the statement

module _ (task : TaskTree) (args : List Value) (roots : ℕ) where
  abbrev inst : Here → Instance
  inst h = record { tree = h.tree; calls = h.calls; task = task; args = args; roots = roots }

  -- a variable that may be assigned
  record IsTarget (h : Here) (n : Name) (k : How) (y : Expression) : Type 0 where
    bound : is_bound h.scope.names n ≡ true
    free : mistargets task h.scope.names n no_step k (bound_to h.scope.names n).static_type ≡ false
    known : is_unknown_type (bound_to h.scope.names n).static_type ≡ false
    by_name : (bound_to h.scope.names n).by_loop ≡ false
    plain : is_collection (bound_to h.scope.names n).static_type ≡ false
    number : is_no_integer k (bound_to h.scope.names n).static_type ≡ false
    right : first_in_expression h.tree task h.scope y ≡ None

  target_of : (h : Here) (m : Interpretation) (n : Name) (k : How) (y : Expression) → IsReady task args roots m h → first_of_form h.tree task h.scope (assign_form n no_step k y) ≡ None → IsTarget h n k y
  target_of h m n k y r e =
      let parts = form_parts h.tree task h.scope (assign_form n no_step k y) e in
      let b = bound_to h.scope.names n in
      let targets = option_or_parts (rule_if (not (is_bound h.scope.names n)) rule.Name) _ parts.targets in
      let bound = not-false (is_bound h.scope.names n) (rule_none _ rule.Name targets.0) in
      let both = or_parts (is_bound h.scope.names n && is_fixed task b) _ parts.targeted in
      let fixed : is_fixed task b ≡ false = sym (λ j. bound j && is_fixed task b) ∙ both.0 in
      let first = or_parts (b.by_loop || nat_lt b.number (length task.params)) (is_collection b.static_type) fixed in record {
        bound = bound;
        free = parts.targeted;
        known = (r.scope.types n bound).known;
        by_name = (or_parts b.by_loop (nat_lt b.number (length task.params)) first.0).0;
        plain = first.1;
        number = both.1;
        right = (option_or_parts (first_in_expression h.tree task h.scope y) _ parts.heads).0;
      }

  -- what is put there is of the variable's type
  right_is : (k : How) (n : Name) (y : Expression) (h : Here) (m : Interpretation) → IsReady task args roots m h → IsTarget h n k y →
      list_any (is_ill_typed_at_place h.scope.known) (standing_in_form h.tree task h.scope (assign_form n no_step k y)) ≡ false → IsWritten y → (u : State) → IsSoundState (inst h) m h.scope u →
      KeepsSound (inst h) m h.scope (λ v. (old : Value) → IsOfType m (bound_to h.scope.names n).static_type old → IsOfType m (bound_to h.scope.names n).static_type (updated k old (with_regions_of old v)))
      (right_side h n no_step k y u)
  right_is (how.Reduce o) n y h m r t stand wr u st =
      let type = (bound_to h.scope.names n).static_type in
      weaker (inst h) m h.scope (value h y u) (evaluates task args roots h m y r wr t.right u st)
      (λ v is old was. reduced_is m type o old (with_regions_of old v) (surely is_integer type t.known (not-false _ t.number)) was)
  right_is how.Set n y h m r t stand wr u st =
      let type = (bound_to h.scope.names n).static_type in
      let meant = known_as_meant h.tree task h.scope y r.sound r.scope t.right in
      let fit = not-false _ (or_parts (is_ill_typed_at_place h.scope.known (stands (known_type h.tree h.scope y) (typed_spot (type_unless (mistargets task h.scope.names n no_step how.Set type) type)))) false stand).0 in
      let plain : fits h.scope.known (known_type h.tree h.scope y) type ≡ true =
      sym (λ j. fits h.scope.known (known_type h.tree h.scope y) (type_unless (t.free j) type)) ∙ fit in
      after (λ v. (old : Value) → IsOfType m type old → IsOfType m type (with_regions_of old v)) (value h y u) (λ v. converted h (typed h y) type [] v)
      (evaluates task args roots h m y r wr t.right u st) (λ v w st is.
      weaker (inst h) m h.scope (converted h (typed h y) type [] v w)
      (converted_is (inst h) m h.scope h h.scope.known (typed h y) type [] v w (subst (λ f. is_unknown_type f ≡ false) meant.1 meant.0.known) t.known t.plain
      (subst (λ f. fits h.scope.known f type ≡ true) meant.1 plain) tt is.is_of st)
      (λ a is old was. set_is m type old a t.known was is))

  pub set_goes : (n : Name) (k : How) (y : Expression) (h : Here) → FormGoes task args roots h (assign_form n no_step k y)
  set_goes n k y h m r e w wr u st =
      let t = target_of h m n k y r e in
      let b = bound_to h.scope.names n in
      let parts = parts_of_form h.tree task h.scope r.sound r.scope (assign_form n no_step k y) e in
      let found = (found_by_number h.scope.next h.scope.names n r.scope.numbers t.bound).0 in
      then_goes (inst h) m h.scope h.scope.next h.scope (right_side h n no_step k y u) (λ v. write_name h n k v)
      (right_is k n y h m r t parts.4 wr.0 u st) (λ v w st is.
      stays_goes (inst h) m h.scope (write_name h n k v w) r.place (
        record {
          names = set_fits m h.scope w.names b (updated k (get_or w.names b.place (a_truth false)) (with_regions_of (get_or w.names b.place (a_truth false)) v))
              r.static.placed st.counted found t.known t.by_name
              (is (get_or w.names b.place (a_truth false)) (named_fits h.scope r.scope m w.names st.names n t.bound).is_of) st.names;
          counted = length-set w.names b.place _ ∙ st.counted;
          rooted = st.rooted;
          grown = st.grown;
          covered = st.covered;
        },
        refl,
      ))
