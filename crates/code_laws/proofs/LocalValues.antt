-- What expressions give where nothing is told of their types: numbers, truths, indices and index spaces, and where they
-- are kept also pointers into regions that have names.
use Rattle.std.proofs.Common.{◌≡◌, Bool, List, [], ◌∷◌, false, true, refl, ap, subst, sym, ℕ, ◌∙◌, ◌||◌, cond, not, inl, inr, ⊎_elim, ◌&&◌, ◌⊎◌}
use Rattle.std.proofs.lemmas.Bool.{and_parts}
use Rattle.regent_tree.specs.Scopes.{known_of_type}
use Rattle.regent_tree.specs.StaticTypes.{Reach}
use Rattle.regent_tree.specs.Syntax.{Expression}
use Rattle.regent_tree.specs.Typing.{are_pointers, counting_as, is_pointer, known_of_child, operated, owned}
use Rattle.regent_tree.specs.declared.expression.Arithmetic.{Arithmetic}
use Rattle.regent_tree.specs.declared.expression.Comparison.{Comparison}
use Rattle.regent_tree.specs.declared.expression.Comparison.TheVariants as comparison
use Rattle.regent_tree.specs.declared.expression.Operator.{Operator}
use Rattle.regent_tree.specs.declared.expression.Operator.TheVariants.{Compute}
use Rattle.regent_tree.specs.declared.facts.Known.{Known}
use Rattle.regent_tree.specs.declared.types.Kind.{Kind}
use Rattle.regent_tree.specs.declared.types.NumberTerm.{NumberTerm}
use Rattle.regent_tree.specs.declared.typing.Bound.{Bound}
use Rattle.regent_tree.specs.declared.typing.StaticType.{StaticType}
use Rattle.regent_tree.specs.declared.typing.StaticType.TheVariants.{Index as index_type, Pointer as pointer_type, Unknown as unknown_type}
use Rattle.check_rules.specs.rules.Standing.{param_spot, stands}
use Rattle.check_rules.specs.rules.Types.{compares_with, computes_with, has_equality_with, has_order_with, may_stand, operates_on}
use Rattle.check_rules.specs.types.Fitting.{fits}
use Rattle.check_rules.specs.types.KnownTypes.{known_type_after_operator}
use Rattle.check_rules.specs.types.Sorts.{is_collection, is_integer, is_number, is_partition, is_region, is_space, is_truth, is_unknown_type, may_be}
use Rattle.check_rules.specs.types.TypedForms.{computing}
use Rattle.code_rules.specs.Slots.{Where, typed}
use Rattle.code_laws.specs.Pointers.{Assigned, BeginsAs, BeginsWith, ConvertsTo, CountsAs, FillsInto, GoesInto, IsAssigned, IsCompared, IsPointer, IsRead, Passes, PassesInto, passes_plain, assigned_plain, assigned_pointer, begins_plain, compared_different, compared_equal, compared_left, compared_plain, compared_right, a_pointer_type, counts_number, counts_pointer, filled_plain, fills_alike, fills_index, into_index, into_plain, itself_plain, term_integer, zero_scalar}
use Rattle.code_laws.specs.Simple.{AreAlike, AreComparable, IsInteger, IsIntegerTerm, IsNumber, IsRegion, IsScalar, IsSimple, IsSpace, IsTruth, a_region_type, number_index, number_integer, scalar_integer, scalar_truth, simple_index, simple_integer, simple_space, simple_truth, IsPartition, a_partition_type}
use Rattle.code_laws.specs.Typed.{IsKeepable, LoopsOver, IsLooped, LoopsOverPart}
use Rattle.code_laws.proofs.LocalTypes.{either, number_is, operated_simple, owned_simple, param_fitting, simple_as_domain, simple_as_integer, simple_as_number, simple_as_space, simple_as_truth, simple_compared, simple_computed, simple_fitting, simple_for_region, simple_is_no_region, simple_known, simple_no_partition}
use Rattle.code_laws.proofs.Typing.{no_way, no_way_back}
pub use Rattle.code_laws.proofs.LocalGoals.{AreAmong, AreGoals, IsCutAmong, IsRegionAmong, among_goals, among_there, bound_among, found_among, goals_aims, goals_among, goals_behind, names_aims, names_among, region_behind}

-- ---- values

-- the type of what an expression gives
pub data IsValue (keeping : Bool) (bs : List Bound) : StaticType → Type 0 where
  value_simple : (t : StaticType) → IsSimple t → IsValue keeping bs t
  value_pointer : (k : Kind) (sp : ℕ) (args rs : List Reach) → keeping ≡ true → AreGoals bs sp rs → IsValue keeping bs (pointer_type k sp args rs)

pub counts_is : (keeping : Bool) (t : StaticType) → CountsAs keeping t → is_number t ≡ true
counts_is false t c = number_is t c
counts_is true t (counts_number _ n) = number_is t n
counts_is true _ (counts_pointer k sp args rs) = refl

pub number_counts : (keeping : Bool) (t : StaticType) → IsNumber t → CountsAs keeping t
number_counts false t n = n
number_counts true t n = counts_number t n

module _ (keeping : Bool) (bs : List Bound) where
  abbrev Value : StaticType → Type 0
  Value t = IsValue keeping bs t

  pub value_behind : (b : Bound) (t : StaticType) → Value t → IsValue keeping (b ∷ bs) t
  value_behind b t (value_simple _ a) = value_simple t a
  value_behind b _ (value_pointer k sp args i q r) = value_pointer k sp args i q (goals_behind b bs sp i r)

  -- ---- what may be of a sort is of it

  pub value_integer : (t : StaticType) → Value t → may_be is_integer t ≡ true → IsInteger t
  value_integer t (value_simple _ a) e = simple_as_integer t a e
  value_integer _ (value_pointer k sp args i q r) e = absurd (no_way_back e)

  pub value_truth : (t : StaticType) → Value t → may_be is_truth t ≡ true → IsTruth t
  value_truth t (value_simple _ a) e = simple_as_truth t a e
  value_truth _ (value_pointer k sp args i q r) e = absurd (no_way_back e)

  pub value_space : (t : StaticType) → Value t → may_be is_space t ≡ true → IsSpace t
  value_space t (value_simple _ a) e = simple_as_space t a e
  value_space _ (value_pointer k sp args i q r) e = absurd (no_way_back e)

  pub value_domain : (t : StaticType) → Value t → may_be (λ u. is_region u || is_space u) t ≡ true → IsSpace t
  value_domain t (value_simple _ a) e = simple_as_domain t a e
  value_domain _ (value_pointer k sp args i q r) e = absurd (no_way_back e)

  pub value_known : (t : StaticType) → Value t → is_unknown_type t ≡ false
  value_known t (value_simple _ a) = simple_known t a
  value_known _ (value_pointer k sp args i q r) = refl

  pub owned_value : (n : ℕ) (t : StaticType) → Value t → owned n t ≡ t
  owned_value n t (value_simple _ a) = owned_simple n t a
  owned_value n _ (value_pointer k sp args i q r) = refl

  pub value_no_partition : (t : StaticType) → Value t → may_be is_partition t ≡ false
  value_no_partition t (value_simple _ a) = simple_no_partition t a
  value_no_partition _ (value_pointer k sp args i q r) = refl

  pub value_not_partition : (t : StaticType) → Value t → IsPartition t → ⊥
  value_not_partition _ a (a_partition_type d r p) = no_way (value_no_partition _ a)

  pub value_is_no_region : (t : StaticType) → Value t → may_be is_region t ≡ false
  value_is_no_region t (value_simple _ a) = simple_is_no_region t a
  value_is_no_region _ (value_pointer k sp args i q r) = refl

  -- none of these is a region
  pub value_other : (t : StaticType) → Value t → IsRegion t → ⊥
  value_other _ a (a_region_type k sp args r) = no_way (value_is_no_region _ a)

  -- and none tells anything
  pub value_tells : (n : ℕ) (t : StaticType) → Value t → (known_of_child n t ≡ []) × (known_of_type (owned n t) ≡ []) × (known_of_type t ≡ [])
  value_tells n _ (value_simple _ (simple_integer w)) = (refl, refl, refl)
  value_tells n _ (value_simple _ simple_truth) = (refl, refl, refl)
  value_tells n _ (value_simple _ (simple_index k)) = (refl, refl, refl)
  value_tells n _ (value_simple _ (simple_space k)) = (refl, refl, refl)
  value_tells n _ (value_pointer k sp args i q r) = (refl, refl, refl)

  -- ---- what fits a number or truth

  pub value_fitting : (known : List Known) (t wanted : StaticType) → Value t → IsScalar wanted → fits known t wanted ≡ true → AreAlike t wanted
  value_fitting known t wanted (value_simple _ a) s e = simple_fitting known t wanted a s e
  value_fitting known _ _ (value_pointer k sp args i q r) (scalar_integer w) e = absurd (no_way_back e)
  value_fitting known _ _ (value_pointer k sp args i q r) scalar_truth e = absurd (no_way_back e)

  pub value_param : (known : List Known) (t wanted : StaticType) → Value t → IsScalar wanted → may_stand known (stands t (param_spot wanted)) ≡ true →
      AreAlike t wanted
  value_param known t wanted (value_simple _ a) s e = param_fitting known t wanted a s e
  value_param known _ _ (value_pointer k sp args i q r) (scalar_integer w) e = absurd (no_way_back e)
  value_param known _ _ (value_pointer k sp args i q r) scalar_truth e = absurd (no_way_back e)

  pub value_for_region : (known : List Known) (t wanted : StaticType) → Value t → IsRegion wanted →
      may_stand known (stands t (param_spot wanted)) ≡ true → ⊥
  value_for_region known t wanted (value_simple _ a) r e = simple_for_region known t wanted a r e
  value_for_region known _ _ (value_pointer k sp args i q r) (a_region_type j s brgs u) e = no_way_back e

  -- ---- operators

  pub value_truths : (t u : StaticType) → Value t → Value u → (may_be is_truth t && may_be is_truth u) ≡ true → IsTruth t × IsTruth u
  value_truths t u a b e =
      let p = and_parts (may_be is_truth t) (may_be is_truth u) e in (value_truth t a p.0, value_truth u b p.1)

  pub value_after : (o : Operator) (t u : StaticType) → Value t → Value u → operates_on o t u ≡ true →
      known_type_after_operator (computing o t u) ≡ operated o t u
  value_after o t u a b e =
      ap (λ c. cond (c || is_unknown_type u || not (operates_on o t u)) unknown_type (operated o t u)) (value_known t a)
      ∙ ap (λ c. cond (c || not (operates_on o t u)) unknown_type (operated o t u)) (value_known u b)
      ∙ ap (λ c. cond (not c) unknown_type (operated o t u)) e

  pub value_operated : (o : Arithmetic) (t u : StaticType) → Value t → Value u → computes_with (counting_as t) (counting_as u) ≡ true →
      IsSimple (operated (Compute o) t u)
  value_operated o t u (value_simple _ a) (value_simple _ b) e = let n = simple_computed t u a b e in operated_simple o t u n.0 n.1
  value_operated o t _ (value_simple _ a) (value_pointer k sp args i q r) e =
      let n = simple_computed t (index_type k) a (simple_index k) e in operated_simple o t (index_type k) n.0 n.1
  value_operated o _ u (value_pointer k sp args i q r) (value_simple _ b) e =
      let n = simple_computed (index_type k) u (simple_index k) b e in operated_simple o (index_type k) u n.0 n.1
  value_operated o _ _ (value_pointer k sp args i q r) (value_pointer j s brgs h p u) e = simple_index k

pub simple_no_pointer : (t : StaticType) → IsSimple t → is_pointer t ≡ false
simple_no_pointer _ (simple_integer w) = refl
simple_no_pointer _ simple_truth = refl
simple_no_pointer _ (simple_space k) = refl
simple_no_pointer _ (simple_index k) = refl

-- ---- where pointers are kept or not

pub value_counts : (keeping : Bool) (bs : List Bound) (t : StaticType) → IsValue keeping bs t → may_be is_number t ≡ true → CountsAs keeping t
value_counts false bs t (value_simple _ a) e = simple_as_number t a e
value_counts false bs _ (value_pointer k sp args i q r) e = absurd (no_way_back q)
value_counts true bs t (value_simple _ a) e = counts_number t (simple_as_number t a e)
value_counts true bs _ (value_pointer k sp args i q r) e = counts_pointer k sp args _

pub value_computed : (keeping : Bool) (bs : List Bound) (t u : StaticType) → IsValue keeping bs t → IsValue keeping bs u →
    computes_with (counting_as t) (counting_as u) ≡ true → CountsAs keeping t × CountsAs keeping u
value_computed keeping bs t u (value_simple _ a) (value_simple _ b) e =
    let n = simple_computed t u a b e in (number_counts keeping t n.0, number_counts keeping u n.1)
value_computed keeping bs t _ (value_simple _ a) (value_pointer k sp args i q r) e =
    let n = simple_computed t (index_type k) a (simple_index k) e in
    (number_counts keeping t n.0, value_counts keeping bs _ (value_pointer k sp args i q r) refl)
value_computed keeping bs _ u (value_pointer k sp args i q r) (value_simple _ b) e =
    let n = simple_computed (index_type k) u (simple_index k) b e in
    (value_counts keeping bs _ (value_pointer k sp args i q r) refl, number_counts keeping u n.1)
value_computed keeping bs _ _ (value_pointer k sp args i q r) (value_pointer j s brgs h p u) e =
    (value_counts keeping bs _ (value_pointer k sp args i q r) refl, value_counts keeping bs _ (value_pointer j s brgs h p u) refl)

equal_numbers : (t u : StaticType) → (may_be is_truth t && may_be is_truth u) ≡ false → has_equality_with t u ≡ true →
    (may_be is_number t ≡ true) × (may_be is_number u ≡ true)
equal_numbers t u none e = ⊎_elim (λ h. and_parts (may_be is_number t) (may_be is_number u) h) (λ h. absurd (no_way (sym h ∙ none)))
    (either (may_be is_number t && may_be is_number u) (may_be is_truth t && may_be is_truth u) e)

ordered_numbers : (t u : StaticType) → has_order_with t u ≡ true → (may_be is_number t ≡ true) × (may_be is_number u ≡ true)
ordered_numbers t u e =
    and_parts (may_be is_number t) (may_be is_number u) (and_parts (may_be is_number t && may_be is_number u) (not (are_pointers t u)) e).0

plain_compared : (keeping : Bool) (c : Comparison) (t u : StaticType) → AreComparable t u → IsCompared keeping c t u
plain_compared false c t u a = a
plain_compared true c t u a = compared_plain c t u a

-- what is compared and isn't two truths is two numbers
compared_numbers : (c : Comparison) (t u : StaticType) → (may_be is_truth t && may_be is_truth u) ≡ false → compares_with c t u ≡ true →
    (may_be is_number t ≡ true) × (may_be is_number u ≡ true)
compared_numbers comparison.Equal t u none e = equal_numbers t u none e
compared_numbers comparison.NotEqual t u none e = equal_numbers t u none e
compared_numbers comparison.Less t u none e = ordered_numbers t u e
compared_numbers comparison.AtMost t u none e = ordered_numbers t u e
compared_numbers comparison.Greater t u none e = ordered_numbers t u e
compared_numbers comparison.AtLeast t u none e = ordered_numbers t u e

and_none : (b : Bool) → (b && false) ≡ false
and_none true = refl
and_none false = refl

pub value_compared : (keeping : Bool) (bs : List Bound) (c : Comparison) (t u : StaticType) → IsValue keeping bs t → IsValue keeping bs u →
    compares_with c t u ≡ true → IsCompared keeping c t u
value_compared keeping bs c t u (value_simple _ a) (value_simple _ b) e = plain_compared keeping c t u (simple_compared c t u a b e)
value_compared false bs c t _ (value_simple _ a) (value_pointer k sp args i q r) e = absurd (no_way_back q)
value_compared false bs c _ u (value_pointer k sp args i q r) b e = absurd (no_way_back q)
value_compared true bs c t _ (value_simple _ a) (value_pointer k sp args i q r) e =
    compared_right c t k sp args _ (simple_as_number t a (compared_numbers c t (pointer_type k sp args i) (and_none (may_be is_truth t)) e).0)
value_compared true bs c _ u (value_pointer k sp args i q r) (value_simple _ b) e =
    compared_left c k sp args _ u (simple_as_number u b (compared_numbers c (pointer_type k sp args i) u refl e).1)
value_compared true bs comparison.Equal _ _ (value_pointer k sp args i q r) (value_pointer j s brgs h p u) e =
    compared_equal _ _ (a_pointer_type k sp args i (goals_aims bs sp i r)) (a_pointer_type j s brgs h (goals_aims bs s h u))
value_compared true bs comparison.NotEqual _ _ (value_pointer k sp args i q r) (value_pointer j s brgs h p u) e =
    compared_different _ _ (a_pointer_type k sp args i (goals_aims bs sp i r)) (a_pointer_type j s brgs h (goals_aims bs s h u))
value_compared true bs comparison.Less _ _ (value_pointer k sp args i q r) (value_pointer j s brgs h p u) e = absurd (no_way_back e)
value_compared true bs comparison.AtMost _ _ (value_pointer k sp args i q r) (value_pointer j s brgs h p u) e = absurd (no_way_back e)
value_compared true bs comparison.Greater _ _ (value_pointer k sp args i q r) (value_pointer j s brgs h p u) e = absurd (no_way_back e)
value_compared true bs comparison.AtLeast _ _ (value_pointer k sp args i q r) (value_pointer j s brgs h p u) e = absurd (no_way_back e)

-- ---- what is asked where pointers aren't kept holds where they may be

pub alike_passes : (b : Bool) (t u p : StaticType) → AreAlike t u → u ≡ p → PassesInto b t u p
alike_passes false t u p a e = (a, e)
alike_passes true t u p a e = subst (Passes t u) e (passes_plain t u (into_plain t u (fills_alike t u a)))

pub alike_filled : (b : Bool) (t u : StaticType) → AreAlike t u → FillsInto b t u
alike_filled false t u p = p
alike_filled true t u p = filled_plain t u (fills_alike t u p)

pub alike_begins : (b : Bool) (bs : List Bound) (t u : StaticType) → AreAlike t u → BeginsWith b bs t u
alike_begins false bs t u p = p
alike_begins true bs t u p = begins_plain t u (into_plain t u (fills_alike t u p))

pub alike_assigned : (b : Bool) (t u : StaticType) → AreAlike t u → IsAssigned b t u
alike_assigned false t u p = p
alike_assigned true t u p = assigned_plain t u (into_plain t u (fills_alike t u p))

-- what fits an index goes into it
pub index_goes : (b : Bool) (bs : List Bound) (known : List Known) (from : StaticType) (k : Kind) → IsValue b bs from → fits known from (index_type k) ≡ true →
    GoesInto from (index_type k)
index_goes b bs known _ k (value_simple _ (simple_integer w)) e = into_plain _ _ (fills_index _ k (number_integer w))
index_goes b bs known _ k (value_simple _ (simple_index j)) e = into_plain _ _ (fills_index _ k (number_index j))
index_goes b bs known _ k (value_simple _ simple_truth) e = absurd (no_way_back e)
index_goes b bs known _ k (value_simple _ (simple_space j)) e = absurd (no_way_back e)
index_goes b bs known _ k (value_pointer j sp args i h r) e = into_index j sp args _ k

-- what fits a variable that is no index space may be assigned to it, where pointers are kept
kept_assigned : (bs : List Bound) (known : List Known) (t u : StaticType) → IsValue true bs t → IsValue true bs u → is_collection u ≡ false →
    fits known t u ≡ true → Assigned t u
kept_assigned bs known t _ a (value_simple _ (simple_integer w)) c e =
    alike_assigned true t _ (value_fitting true bs known t _ a (scalar_integer w) e)
kept_assigned bs known t _ a (value_simple _ simple_truth) c e = alike_assigned true t _ (value_fitting true bs known t _ a scalar_truth e)
kept_assigned bs known t _ a (value_simple _ (simple_space k)) c e = absurd (no_way c)
kept_assigned bs known _ _ (value_simple _ (simple_integer w)) (value_simple _ (simple_index k)) c e =
    assigned_plain _ _ (into_plain _ _ (fills_index _ k (number_integer w)))
kept_assigned bs known _ _ (value_simple _ (simple_index j)) (value_simple _ (simple_index k)) c e =
    assigned_plain _ _ (into_plain _ _ (fills_index _ k (number_index j)))
kept_assigned bs known _ _ (value_pointer j sp args i q r) (value_simple _ (simple_index k)) c e = assigned_plain _ _ (into_index j sp args _ k)
kept_assigned bs known _ _ (value_simple _ simple_truth) (value_simple _ (simple_index k)) c e = absurd (no_way_back e)
kept_assigned bs known _ _ (value_simple _ (simple_space j)) (value_simple _ (simple_index k)) c e = absurd (no_way_back e)
kept_assigned bs known _ _ (value_pointer j s brgs h p u) (value_pointer k sp args i q r) c e =
    assigned_pointer _ _ (a_pointer_type j s brgs h (goals_aims bs s h u)) (a_pointer_type k sp args i (goals_aims bs sp i r))
kept_assigned bs known _ _ (value_simple _ (simple_integer w)) (value_pointer k sp args i q r) c e = absurd (no_way_back e)
kept_assigned bs known _ _ (value_simple _ (simple_index j)) (value_pointer k sp args i q r) c e = absurd (no_way_back e)
kept_assigned bs known _ _ (value_simple _ simple_truth) (value_pointer k sp args i q r) c e = absurd (no_way_back e)
kept_assigned bs known _ _ (value_simple _ (simple_space j)) (value_pointer k sp args i q r) c e = absurd (no_way_back e)

-- and else to one that is a number or truth
pub value_assigned : (keeping : Bool) (bs : List Bound) (known : List Known) (t u : StaticType) → IsValue keeping bs t → IsValue keeping bs u →
    (keeping ≡ true) ⊎ IsScalar u → is_collection u ≡ false → fits known t u ≡ true → IsAssigned keeping t u
value_assigned keeping bs known t u a b (inr s) c e = alike_assigned keeping t u (value_fitting keeping bs known t u a s e)
value_assigned false bs known t u a b (inl q) c e = absurd (no_way_back q)
value_assigned true bs known t u a b (inl q) c e = kept_assigned bs known t u a b c e

-- what fits a pointer is one
pub pointer_fitting : (b : Bool) (bs : List Bound) (known : List Known) (from u : StaticType) → IsValue b bs from → IsPointer u → fits known from u ≡ true → IsPointer from
pointer_fitting b bs known _ _ (value_simple _ (simple_integer w)) (a_pointer_type k sp args rs ns) e = absurd (no_way_back e)
pointer_fitting b bs known _ _ (value_simple _ (simple_index j)) (a_pointer_type k sp args rs ns) e = absurd (no_way_back e)
pointer_fitting b bs known _ _ (value_simple _ simple_truth) (a_pointer_type k sp args rs ns) e = absurd (no_way_back e)
pointer_fitting b bs known _ _ (value_simple _ (simple_space j)) (a_pointer_type k sp args rs ns) e = absurd (no_way_back e)
pointer_fitting b bs known _ _ (value_pointer j sq brgs i h r) u e = a_pointer_type j sq brgs i (goals_aims bs sq i r)

pub scalar_begins : (b : Bool) (bs : List Bound) (t : StaticType) → IsScalar t → BeginsAs b bs t
scalar_begins false bs t p = p
scalar_begins true bs t p = itself_plain t (zero_scalar t p)

pub integer_converts : (b : Bool) (t : NumberTerm) → IsIntegerTerm t → ConvertsTo b t
integer_converts false t p = p
integer_converts true t p = term_integer t p

pub simple_read : (b : Bool) (t : StaticType) → IsSimple t → IsRead b t
simple_read false t p = p
simple_read true t p = tt

pub value_read : (b : Bool) (bs : List Bound) (t : StaticType) → IsValue b bs t → IsRead b t
value_read b bs t (value_simple _ p) = simple_read b t p
value_read false bs _ (value_pointer k sp args i q r) = absurd (no_way_back q)
value_read true bs _ (value_pointer k sp args i q r) = tt

pub simple_keepable : (b : Bool) (w : Where) (e : Expression) → IsSimple (typed w e) → IsKeepable b w e
simple_keepable false w e p = p
simple_keepable true w e p = inl p

pub space_looped : (b : Bool) (w : Where) (e : Expression) → IsSpace (typed w e) → LoopsOver b w e
space_looped false w e p = p
space_looped true w e p = inl p

-- what a loop goes over, with its body
plain_looped : (b : Bool) (w : Where) (e : Expression) (Typed Part Body : Type 0) → LoopsOver b w e → Typed → Body → IsLooped b w e Typed Part Body
plain_looped false w e Typed Part Body over is body = (over, is, body)
plain_looped true w e Typed Part Body over is body = inl (over, is, body)

part_looped : (b : Bool) (w : Where) (e : Expression) (Typed Part Body : Type 0) → b ≡ true → LoopsOverPart w e Part → Body → IsLooped b w e Typed Part Body
part_looped false w e Typed Part Body q over body = absurd (no_way_back q)
part_looped true w e Typed Part Body q over body = inr (over, body)

pub any_looped : (b : Bool) (w : Where) (e : Expression) (Typed Part Body : Type 0) →
    (LoopsOver b w e × Typed) ⊎ ((b ≡ true) × LoopsOverPart w e Part) → Body → IsLooped b w e Typed Part Body
any_looped b w e Typed Part Body (inl o) body = plain_looped b w e Typed Part Body o.0 o.1 body
any_looped b w e Typed Part Body (inr o) body = part_looped b w e Typed Part Body o.0 o.1 body
