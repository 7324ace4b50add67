-- Expressions over scalars of which no breach is told are typed.
use Rattle.code_laws.specs.Programs.{scalar_forms}
use Rattle.code_laws.proofs.Values.{scalar_simple}
use Rattle.std.proofs.Common.{◌≡◌, Bool, List, [], ◌∷◌, ◌++◌, None, false, true, refl, ap, subst, ◌∙◌, inl, inr, cond, not}
use Rattle.check_laws.proofs.Blocks.{head_known}
use Rattle.check_laws.specs.SoundScopes.{IsSoundScope}
use Rattle.std.specs.List.{list_any}
use Rattle.regent_tree.specs.Numbers.{wider}
use Rattle.regent_tree.specs.declared.expression.Arithmetic.{Arithmetic}
use Rattle.regent_tree.specs.declared.expression.Operator.{Operator}
use Rattle.regent_tree.specs.declared.facts.Known.{Known}
use Rattle.std.specs.Prelude.{bytes_eq, ◌||◌, ◌&&◌}
use Rattle.std.proofs.lemmas.Bool.{and_parts, not-false, or_parts}
use Rattle.plain_values.proofs.Plain.{option_or_parts}
use Rattle.regent_tree.specs.Limits.{literal, nodes, parts_of_expression, parts_of_expressions, parts_of_links, node}
use Rattle.regent_tree.specs.Lookup.{is_bound}
use Rattle.regent_tree.specs.Scopes.{bound_to}
use Rattle.regent_tree.specs.Syntax.{Expression, Expressions, Links, Name, TaskTree, a_link, access_expr, an_expr, at_step, call_expr, cast_expr, chain_expr, convert_expr, field_step, is_null_expr, no_expr, no_link, no_step, null_expr, number_expr, prefix_expr, space_expr, truth_expr}
use Rattle.regent_tree.specs.Typing.{counting_as, linked_type, operated}
use Rattle.regent_tree.specs.declared.expression.Comparison.{Comparison}
use Rattle.regent_tree.specs.declared.expression.Comparison.TheVariants as comparison
use Rattle.regent_tree.specs.declared.expression.Operator.TheVariants.{And, Compare, Compute, Or}
use Rattle.regent_tree.specs.declared.typing.Bound.{Bound}
use Rattle.regent_tree.specs.declared.typing.StaticType.{StaticType}
use Rattle.regent_tree.specs.declared.typing.StaticType.TheVariants.{Unknown as unknown_type}
use Rattle.check_rules.specs.first.FirstInExpressions.{first_in_args, first_in_expression, first_in_links, first_of_operator, first_of_signs, first_of_standing}
use Rattle.check_rules.specs.first.Rules.{rule_if}
use Rattle.check_rules.specs.rules.Standing.{number_spot, stands}
use Rattle.check_rules.specs.rules.Types.{compares_with, computes_with, operates_on}
use Rattle.check_rules.specs.scopes.Sound.{IsSound}
use Rattle.check_rules.specs.types.Fitting.{fits}
use Rattle.check_rules.specs.types.KnownTypes.{known_type, known_type_after_operator, known_types}
use Rattle.check_rules.specs.types.Sorts.{is_integer, is_number, is_truth, may_be, is_unknown_type}
use Rattle.check_rules.specs.types.TypedForms.{computing}
use Rattle.check_rules.specs.declared.rule.Rule.TheVariants as rule
use Rattle.check_rules.proofs.Untold.{rule_none}
use Rattle.code_rules.specs.Slots.{Where, typed}
use Rattle.code_laws.specs.Simple.{AreComparable, compare_numbers, compare_truths, IsNumber, number_integer, AreAlike, IsInteger, IsScalar, IsTruth, a_truth_type, an_integer, scalar_integer, scalar_truth, two_integers, two_truths}
use Rattle.code_laws.specs.Typed.{AreNumbers, AreTypedLinks, IsTyped}
use Rattle.scalar_form.specs.ScalarForm.{are_scalar_expressions, are_scalar_links, is_scalar_expression, is_scalar_number}
use Rattle.code_laws.proofs.Typing.{AllScalar, AreKept, integer_term, kept_behind, kept_left, kept_right, no_way_back, number_scalar, operates, signed_scalar, signs_fit, stands_well}
use Rattle.check_laws.proofs.Widths.{literal_fits}

-- ---- types

-- what may be an integer, a truth or a number among scalars
integer_number : (t : StaticType) → IsInteger t → IsNumber t
integer_number _ (an_integer w) = number_integer w

alike_comparable : (t u : StaticType) → AreAlike t u → AreComparable t u
alike_comparable _ _ (two_integers v w) = compare_numbers _ _ (number_integer v) (number_integer w)
alike_comparable _ _ two_truths = compare_truths

pub as_integer : (t : StaticType) → IsScalar t → may_be is_integer t ≡ true → IsInteger t
as_integer _ (scalar_integer w) e = an_integer w
as_integer _ scalar_truth e = absurd (no_way_back e)

pub as_truth : (t : StaticType) → IsScalar t → may_be is_truth t ≡ true → IsTruth t
as_truth _ (scalar_integer w) e = absurd (no_way_back e)
as_truth _ scalar_truth e = a_truth_type

as_number_type : (t : StaticType) → IsScalar t → may_be is_number t ≡ true → IsInteger t
as_number_type _ (scalar_integer w) e = an_integer w
as_number_type _ scalar_truth e = absurd (no_way_back e)

-- types that fit are alike
pub fitting : (known : List Known) (t wanted : StaticType) → IsScalar t → IsScalar wanted → fits known t wanted ≡ true → AreAlike t wanted
fitting known _ _ (scalar_integer v) (scalar_integer w) e = two_integers v w
fitting known _ _ (scalar_integer v) scalar_truth e = absurd (no_way_back e)
fitting known _ _ scalar_truth (scalar_integer w) e = absurd (no_way_back e)
fitting known _ _ scalar_truth scalar_truth e = two_truths

-- what is compared is alike
compared : (c : Comparison) (t u : StaticType) → IsScalar t → IsScalar u → compares_with c t u ≡ true → AreAlike t u
compared c _ _ (scalar_integer v) (scalar_integer w) e = two_integers v w
compared comparison.Equal _ _ (scalar_integer v) scalar_truth e = absurd (no_way_back e)
compared comparison.NotEqual _ _ (scalar_integer v) scalar_truth e = absurd (no_way_back e)
compared comparison.Less _ _ (scalar_integer v) scalar_truth e = absurd (no_way_back e)
compared comparison.AtMost _ _ (scalar_integer v) scalar_truth e = absurd (no_way_back e)
compared comparison.Greater _ _ (scalar_integer v) scalar_truth e = absurd (no_way_back e)
compared comparison.AtLeast _ _ (scalar_integer v) scalar_truth e = absurd (no_way_back e)
compared comparison.Equal _ _ scalar_truth (scalar_integer w) e = absurd (no_way_back e)
compared comparison.NotEqual _ _ scalar_truth (scalar_integer w) e = absurd (no_way_back e)
compared comparison.Less _ _ scalar_truth (scalar_integer w) e = absurd (no_way_back e)
compared comparison.AtMost _ _ scalar_truth (scalar_integer w) e = absurd (no_way_back e)
compared comparison.Greater _ _ scalar_truth (scalar_integer w) e = absurd (no_way_back e)
compared comparison.AtLeast _ _ scalar_truth (scalar_integer w) e = absurd (no_way_back e)
compared c _ _ scalar_truth scalar_truth e = two_truths

computed : (t u : StaticType) → IsScalar t → IsScalar u → computes_with (counting_as t) (counting_as u) ≡ true →
    IsInteger t × IsInteger u
computed _ _ (scalar_integer v) (scalar_integer w) e = (an_integer v, an_integer w)
computed _ _ (scalar_integer v) scalar_truth e = absurd (no_way_back e)
computed _ _ scalar_truth (scalar_integer w) e = absurd (no_way_back e)
computed _ _ scalar_truth scalar_truth e = absurd (no_way_back e)

both_truths : (t u : StaticType) → IsScalar t → IsScalar u → (may_be is_truth t && may_be is_truth u) ≡ true → IsTruth t × IsTruth u
both_truths t u a b e =
    let p = and_parts (may_be is_truth t) (may_be is_truth u) e in
    (as_truth t a p.0, as_truth u b p.1)

-- ---- names

pub named_scalar : (bs : List Bound) (n : Name) → AllScalar bs → is_bound bs n ≡ true → IsScalar (bound_to bs n).static_type
named_scalar [] n a h = absurd (no_way_back h)
named_scalar (b ∷ bs) n a h = chosen (bytes_eq b.name n) (named_scalar bs n a.1) h
  where
    chosen : (c : Bool) → (is_bound bs n ≡ true → IsScalar (bound_to bs n).static_type) →
        (c || is_bound bs n) ≡ true → IsScalar (cond c b (bound_to bs n)).static_type
    chosen true more e = a.0
    chosen false more e = more e

-- ---- operators

known_scalar : (t : StaticType) → IsScalar t → is_unknown_type t ≡ false
known_scalar _ (scalar_integer w) = refl
known_scalar _ scalar_truth = refl

after_known : (o : Operator) (t u : StaticType) → IsScalar t → IsScalar u → operates_on o t u ≡ true →
    known_type_after_operator (computing o t u) ≡ operated o t u
after_known o t u a b e =
    ap (λ c. cond (c || is_unknown_type u || not (operates_on o t u)) unknown_type (operated o t u)) (known_scalar t a)
    ∙ ap (λ c. cond (c || not (operates_on o t u)) unknown_type (operated o t u)) (known_scalar u b)
    ∙ ap (λ c. cond (not c) unknown_type (operated o t u)) e

operated_scalar : (o : Arithmetic) (t u : StaticType) → IsInteger t → IsInteger u → IsScalar (operated (Compute o) t u)
operated_scalar o _ _ (an_integer v) (an_integer w) = scalar_integer (wider v w)

-- ---- expressions

module _ (task : TaskTree) (w : Where) (sound : IsSound w.tree) (scope : IsSoundScope w.scope) (names : AllScalar w.scope.names) where
  pub record IsScalarWell (e : Expression) : Type 0 where
    pub is : IsTyped scalar_forms w e
    pub scalar : IsScalar (typed w e)

  record AreWell (t : StaticType) (ls : Links) : Type 0 where
    pub are : AreTypedLinks scalar_forms w t ls
    pub scalar : IsScalar (linked_type w.tree w.scope t ls)

  -- the checker's type is the meaning's
  known_typed : (e : Expression) → first_in_expression w.tree task w.scope e ≡ None → known_type w.tree w.scope e ≡ typed w e
  known_typed e none = (head_known w.tree task sound w.scope scope e none).1

  -- behind an operator
  by_operator : (o : Operator) (t : StaticType) (e : Expression) (rest : Links) → IsScalar t → IsScalarWell e →
      operates_on o t (typed w e) ≡ true → (IsScalar (operated o t (typed w e)) → AreWell (operated o t (typed w e)) rest) →
      AreWell t (a_link o e rest)
  by_operator Or t e rest scalar a does more =
      let both = both_truths t (typed w e) scalar a.scalar does in
      let r = more scalar_truth in
      record { are = (both.0, both.1, a.is, r.are); scalar = r.scalar }
  by_operator And t e rest scalar a does more =
      let both = both_truths t (typed w e) scalar a.scalar does in
      let r = more scalar_truth in
      record { are = (both.0, both.1, a.is, r.are); scalar = r.scalar }
  by_operator (Compare c) t e rest scalar a does more =
      let r = more scalar_truth in
      record { are = (alike_comparable t (typed w e) (compared c t (typed w e) scalar a.scalar does), a.is, r.are); scalar = r.scalar }
  by_operator (Compute o) t e rest scalar a does more =
      let both = computed t (typed w e) scalar a.scalar does in
      let r = more (operated_scalar o t (typed w e) both.0 both.1) in
      record { are = (integer_number t both.0, integer_number (typed w e) both.1, a.is, r.are); scalar = r.scalar }

  mutual
    pub well : (e : Expression) → is_scalar_expression e ≡ true → AreKept (parts_of_expression e) →
        first_in_expression w.tree task w.scope e ≡ None → IsScalarWell e
    well (number_expr z v) sc k e = record { is = literal_fits z v (k (literal z v) (inr (inl refl))); scalar = scalar_integer v }
    well (truth_expr b) sc k e = record { is = tt; scalar = scalar_truth }
    well (chain_expr first rest) sc k e =
        let s = and_parts (is_scalar_expression first) (are_scalar_links rest) sc in
        let told = option_or_parts (first_in_expression w.tree task w.scope first) _ e in
        let parts = kept_behind node (parts_of_expression first ++ parts_of_links rest) k in
        let a = well first s.0 (kept_left (parts_of_expression first) (parts_of_links rest) parts) told.0 in
        let l = links (typed w first) rest s.1 (kept_right (parts_of_expression first) (parts_of_links rest) parts) a.scalar
        (subst (λ t. first_in_links w.tree task w.scope t rest ≡ None) (known_typed first told.0) told.1) in
        record { is = (a.is, l.are); scalar = l.scalar }
    well (prefix_expr signs e) sc k none =
        let told = option_or_parts (first_in_expression w.tree task w.scope e) _ none in
        let parts = kept_right (nodes signs) (parts_of_expression e) (kept_behind node (nodes signs ++ parts_of_expression e) k) in
        let a = well e sc parts told.0 in
        let fit = signs_fit (typed w e) signs a.scalar (subst (λ t. first_of_signs signs t ≡ None) (known_typed e told.0) told.1) in
        record { is = (a.is, fit); scalar = signed_scalar (typed w e) signs fit }
    well (access_expr n no_step) sc k e =
        let told = option_or_parts (rule_if (not (is_bound w.scope.names n)) rule.Name) _ e in
        let bound = not-false (is_bound w.scope.names n) (rule_none (not (is_bound w.scope.names n)) rule.Name told.0) in
        let scalar = named_scalar w.scope.names n names bound in
        record { is = (bound, scalar_simple _ scalar); scalar = scalar }
    well (access_expr n (field_step _ _)) sc k e = absurd (no_way_back sc)
    well (access_expr n (at_step _ _)) sc k e = absurd (no_way_back sc)
    well (convert_expr t e) sc k none =
        let s = and_parts (is_scalar_number t) (is_scalar_expression e) sc in
        let told = option_or_parts (first_in_expression w.tree task w.scope e) _ none in
        let a = well e s.1 (kept_behind node (parts_of_expression e) k) told.0 in
        let may = stands_well [] (typed w e) number_spot
        (subst (λ u. first_of_standing [] (stands u number_spot) ≡ None) (known_typed e told.0) told.1) in
        let term = integer_term t s.0 in
        record { is = (a.is, integer_number (typed w e) (as_number_type (typed w e) a.scalar may), term); scalar = number_scalar t term }
    well (call_expr _ _) sc k e = absurd (no_way_back sc)
    well (is_null_expr _) sc k e = absurd (no_way_back sc)
    well (null_expr _) sc k e = absurd (no_way_back sc)
    well (cast_expr _ _) sc k e = absurd (no_way_back sc)
    well (space_expr _ _) sc k e = absurd (no_way_back sc)

    links : (t : StaticType) (ls : Links) → are_scalar_links ls ≡ true → AreKept (parts_of_links ls) → IsScalar t →
        first_in_links w.tree task w.scope t ls ≡ None → AreWell t ls
    links t no_link sc k scalar e = record { are = tt; scalar = scalar }
    links t (a_link o e rest) sc k scalar none =
        let s = and_parts (is_scalar_expression e) (are_scalar_links rest) sc in
        let told = option_or_parts (first_in_expression w.tree task w.scope e) _ none in
        let a = well e s.0 (kept_left (parts_of_expression e) (parts_of_links rest) k) told.0 in
        let u = typed w e in
        let more = option_or_parts (first_of_operator (computing o t (known_type w.tree w.scope e))) _ told.1 in
        let known = known_typed e told.0 in
        let does = operates o t u (subst (λ v. first_of_operator (computing o t v) ≡ None) known more.0) in
        let next = subst (λ v. first_in_links w.tree task w.scope v rest ≡ None)
        (ap (λ v. known_type_after_operator (computing o t v)) known ∙ after_known o t u scalar a.scalar does) more.1 in
        by_operator o t e rest scalar a does
        (λ operand. links (operated o t u) rest s.1 (kept_right (parts_of_expression e) (parts_of_links rest) k) operand next)

  -- numbers that are printed
  pub numbers_well : (es : Expressions) → are_scalar_expressions es ≡ true → AreKept (parts_of_expressions es) →
      first_in_args w.tree task w.scope es ≡ None →
      list_any (λ t. not (may_be is_integer t)) (known_types w.tree w.scope es) ≡ false → AreNumbers scalar_forms w es
  numbers_well no_expr sc k e whole = tt
  numbers_well (an_expr e es) sc k none whole =
      let s = and_parts (is_scalar_expression e) (are_scalar_expressions es) sc in
      let told = option_or_parts (first_in_expression w.tree task w.scope e) _ none in
      let a = well e s.0 (kept_left (parts_of_expression e) (parts_of_expressions es) k) told.0 in
      let both = or_parts (not (may_be is_integer (known_type w.tree w.scope e))) _ whole in
      let may = subst (λ t. may_be is_integer t ≡ true) (known_typed e told.0) (not-false _ both.0) in (
        as_integer (typed w e) a.scalar may,
        a.is,
        numbers_well es s.1 (kept_right (parts_of_expression e) (parts_of_expressions es) k) told.1 both.1,
      )
