-- An expression of which nothing is told and whose value is a partition is a name: so it is known as one of
-- its parent, and is of its parent's root.
use Rattle.check_rules.proofs.Untold.{rule_none}
use Rattle.plain_values.proofs.Plain.{option_or_parts}
use Rattle.std.proofs.Common.{arith, Bool, List, [], ◌∷◌, None, Some, false, true, refl, ap, sym, subst, ℕ, zero, suc, ◌+◌, ◌≡◌, ◌∙◌, bytes_eq, cond, get_or, map, not}
use Rattle.std.proofs.lemmas.Bool.{not-false, or_parts}
use Rattle.regent_tree.specs.Lookup.{has_field, has_param, is_bound, type_named}
use Rattle.regent_tree.specs.Scopes.{Scope, bound_as, bound_to}
use Rattle.regent_tree.specs.StaticTypes.{Looking, Reach, among_args, field_place, field_term, field_type, place_in, space_at, task_named, type_said}
use Rattle.regent_tree.specs.Syntax.{Expression, Links, Name, Steps, TaskTree, Tree, a_link, access_expr, at_step, call_expr, cast_expr, chain_expr, convert_expr, field_step, is_null_expr, no_link, no_step, null_expr, number_expr, prefix_expr, space_expr, truth_expr}
use Rattle.regent_tree.specs.Typing.{arithmetic_type, child_type, colour_of, counting_as, operated, result_type, stepped_type, type_of, type_of_element, type_of_field}
use Rattle.regent_tree.specs.declared.expression.Operator.{Operator}
use Rattle.regent_tree.specs.declared.expression.Operator.TheVariants.{And, Compare, Compute, Or}
use Rattle.regent_tree.specs.declared.expression.Sign.{Sign}
use Rattle.regent_tree.specs.declared.expression.Sign.TheVariants.{Minus, Not}
use Rattle.regent_tree.specs.declared.facts.Known.{Known}
use Rattle.regent_tree.specs.declared.facts.Term.{Term}
use Rattle.regent_tree.specs.declared.facts.Term.TheVariants as term
use Rattle.regent_tree.specs.declared.types.NumberTerm.TheVariants as number
use Rattle.regent_tree.specs.declared.types.Param.{Param}
use Rattle.regent_tree.specs.declared.types.TypeTerm.{TypeTerm}
use Rattle.regent_tree.specs.declared.types.TypeTerm.TheVariants as typed
use Rattle.regent_tree.specs.declared.typing.Bound.{Bound}
use Rattle.regent_tree.specs.declared.typing.StaticType.{StaticType}
use Rattle.regent_tree.specs.declared.typing.StaticType.TheVariants.{Index as index_type, Integer as integer_type, Ispace as ispace_type, Nothing as no_type, Partition as partition_type, Pointer as pointer_type, Region as region_type, Truth as truth_type, Unknown as unknown_type}
use Rattle.check_rules.specs.first.FirstInExpressions.{first_in_expression, first_in_links, first_of_operator}
use Rattle.check_rules.specs.first.Rules.{rule_if}
use Rattle.check_rules.specs.scopes.Sound.{IsSound}
use Rattle.check_rules.specs.types.Declarations.{is_no_field_type, is_no_result_type}
use Rattle.check_rules.specs.types.KnownTypes.{known_type, known_type_after_links, known_type_after_operator, known_type_after_sign, known_type_after_signs}
use Rattle.check_rules.specs.types.Params.{term_at}
use Rattle.check_rules.specs.types.Sorts.{is_collection, is_partition}
use Rattle.check_rules.specs.types.TypedForms.{computing}
use Rattle.check_rules.specs.declared.rule.Rule.TheVariants as rule
use Rattle.check_laws.proofs.Parameters.{place_step}
use Rattle.check_laws.proofs.Parts.{contrary}
use Rattle.check_laws.proofs.Scopes.{found_by_number}
use Rattle.check_laws.specs.SoundScopes.{IsSoundScope}
use Rattle.fact_laws.specs.Regions.{Interpretation}
use Rattle.expression_laws.proofs.Knowing.{known_as_meant}
use Rattle.expression_laws.specs.Sound.{IsOfParent}
use Rattle.expression_laws.specs.Writing.{IsWritten}

-- ---- types that are no partition's

unless_plain : (b : Bool) (t : StaticType) → is_partition t ≡ false → is_partition (cond b unknown_type t) ≡ false
unless_plain true t e = refl
unless_plain false t e = e

counted_plain : (t : StaticType) → is_collection t ≡ false → is_partition (counting_as t) ≡ false
counted_plain (pointer_type k s args terms) e = refl
counted_plain (integer_type w) e = refl
counted_plain truth_type e = refl
counted_plain (index_type k) e = refl
counted_plain (ispace_type k) e = refl
counted_plain (region_type k s args t) e = refl
counted_plain (partition_type d r p) e = absurd (contrary e)
counted_plain no_type e = refl
counted_plain unknown_type e = refl

arithmetic_plain : (t u : StaticType) → is_partition t ≡ false → is_partition u ≡ false → is_partition (arithmetic_type t u) ≡ false
arithmetic_plain (integer_type w) (integer_type v) e f = refl
arithmetic_plain (integer_type w) truth_type e f = refl
arithmetic_plain (integer_type w) (index_type k) e f = refl
arithmetic_plain (integer_type w) (pointer_type k s args terms) e f = refl
arithmetic_plain (integer_type w) (ispace_type k) e f = refl
arithmetic_plain (integer_type w) (region_type k s args t) e f = refl
arithmetic_plain (integer_type w) (partition_type d r p) e f = f
arithmetic_plain (integer_type w) no_type e f = refl
arithmetic_plain (integer_type w) unknown_type e f = refl
arithmetic_plain truth_type u e f = refl
arithmetic_plain (index_type k) u e f = refl
arithmetic_plain (pointer_type k s args terms) u e f = refl
arithmetic_plain (ispace_type k) u e f = refl
arithmetic_plain (region_type k s args t) u e f = refl
arithmetic_plain (partition_type d r p) u e f = e
arithmetic_plain no_type u e f = refl
arithmetic_plain unknown_type u e f = refl

operated_plain : (o : Operator) (t u : StaticType) → is_collection t ≡ false → is_collection u ≡ false → is_partition (operated o t u) ≡ false
operated_plain (Compute o) t u e f = arithmetic_plain (counting_as t) (counting_as u) (counted_plain t e) (counted_plain u f)
operated_plain (Compare o) t u e f = refl
operated_plain And t u e f = refl
operated_plain Or t u e f = refl

sign_plain : (sign : Sign) (t : StaticType) → is_partition (known_type_after_sign sign t) ≡ false
sign_plain Not t = unless_plain _ truth_type refl
sign_plain Minus (integer_type w) = refl
sign_plain Minus truth_type = refl
sign_plain Minus (index_type k) = refl
sign_plain Minus (pointer_type k s args terms) = refl
sign_plain Minus (ispace_type k) = refl
sign_plain Minus (region_type k s args t) = refl
sign_plain Minus (partition_type d r p) = refl
sign_plain Minus no_type = refl
sign_plain Minus unknown_type = refl

said_plain : (tree : Tree) (look : Looking) (own : ℕ) (t : TypeTerm) → is_no_field_type t ≡ false → is_partition (type_said tree look own t) ≡ false
said_plain tree look own (typed.Number number.Int32) e = refl
said_plain tree look own (typed.Number number.Int64) e = refl
said_plain tree look own (typed.Number (number.Index k)) e = refl
said_plain tree look own typed.Truth e = refl
said_plain tree look own (typed.Pointer p) e = refl
said_plain tree look own (typed.Ispace k) e = refl
said_plain tree look own (typed.Region k u) e = refl
said_plain tree look own (typed.Partition d r c) e = absurd (contrary e)

result_plain : (tree : Tree) (r : _) → is_no_result_type r ≡ false → is_partition (result_type tree r) ≡ false
result_plain tree None e = refl
result_plain tree (Some (typed.Number number.Int32)) e = refl
result_plain tree (Some (typed.Number number.Int64)) e = refl
result_plain tree (Some (typed.Number (number.Index k))) e = refl
result_plain tree (Some typed.Truth) e = refl
result_plain tree (Some (typed.Pointer p)) e = refl
result_plain tree (Some (typed.Ispace k)) e = refl
result_plain tree (Some (typed.Region k u)) e = refl
result_plain tree (Some (typed.Partition d r c)) e = absurd (contrary e)

-- a field that isn't there has the type that stands for none
lacking_term : (params : List Param) (f : Name) → has_param params f ≡ false → get_or (map (λ (p : Param). p.term) params) (place_in params f) typed.Truth ≡ typed.Truth
lacking_term [] f e = no_term (place_in [] f)
  where
    no_term : (i : ℕ) → get_or (map (λ (p : Param). p.term) []) i typed.Truth ≡ typed.Truth
    no_term zero = refl
    no_term (suc i) = refl
lacking_term (p ∷ ps) f e =
    let parts = or_parts (bytes_eq p.name f) (has_param ps f) e in
    let place : place_in (p ∷ ps) f ≡ suc (place_in ps f) = place_step p ps f false parts.0 ∙ one_more (place_in ps f) in
    ap (λ i. get_or (map (λ (q : Param). q.term) (p ∷ ps)) i typed.Truth) place ∙ lacking_term ps f parts.1
  where
    one_more : (n : ℕ) → (1 + n) ≡ suc n
    one_more n = omega (arith)

field_plain : (tree : Tree) → IsSound tree → (sp : ℕ) (args : List Reach) (f : Name) → is_partition (field_type tree sp args f) ≡ false
field_plain tree sound sp args f = by (has_field tree sp f) refl
  where
    by : (b : Bool) → has_field tree sp f ≡ b → is_partition (field_type tree sp args f) ≡ false
    by true e = said_plain tree (among_args (space_at tree sp).params args) 0 (field_term tree sp (field_place tree sp f)) (or_parts (is_no_field_type (term_at (space_at tree sp).fields (field_place tree sp f))) _ (sound.fields sp f e)).0
    by false e = ap (λ t. is_partition (type_said tree (among_args (space_at tree sp).params args) 0 t)) (lacking_term (space_at tree sp).fields f e)

taken_plain : (tree : Tree) → IsSound tree → (t : StaticType) (f : Name) → is_partition (type_of_field tree t f) ≡ false
taken_plain tree sound (pointer_type k s args terms) f = field_plain tree sound s args f
taken_plain tree sound (integer_type w) f = refl
taken_plain tree sound truth_type f = refl
taken_plain tree sound (index_type k) f = refl
taken_plain tree sound (ispace_type k) f = refl
taken_plain tree sound (region_type k s args t) f = refl
taken_plain tree sound (partition_type d r p) f = refl
taken_plain tree sound no_type f = refl
taken_plain tree sound unknown_type f = refl

child_plain : (t : StaticType) (q : Term) → is_partition (child_type t q) ≡ false
child_plain (pointer_type k s args terms) q = refl
child_plain (integer_type w) q = refl
child_plain truth_type q = refl
child_plain (index_type k) q = refl
child_plain (ispace_type k) q = refl
child_plain (region_type k s args t) q = refl
child_plain (partition_type d r p) q = refl
child_plain no_type q = refl
child_plain unknown_type q = refl

element_plain : (s : Scope) (t : StaticType) (e : Expression) → is_partition (type_of_element s t e) ≡ false
element_plain s (partition_type d r p) e = child_plain (bound_as s.names r).static_type (term.Child p (colour_of s e))
element_plain s (pointer_type k sp args terms) e = refl
element_plain s (integer_type w) e = refl
element_plain s truth_type e = refl
element_plain s (index_type k) e = refl
element_plain s (ispace_type k) e = refl
element_plain s (region_type k sp args t) e = refl
element_plain s no_type e = refl
element_plain s unknown_type e = refl

steps_plain : (tree : Tree) (s : Scope) → IsSound tree → (t : StaticType) (steps : Steps) → is_partition t ≡ false → is_partition (stepped_type tree s t steps) ≡ false
steps_plain tree s sound t no_step e = e
steps_plain tree s sound t (field_step f rest) e = steps_plain tree s sound (type_of_field tree t f) rest (taken_plain tree sound t f)
steps_plain tree s sound t (at_step y rest) e = steps_plain tree s sound (type_of_element s t y) rest (element_plain s t y)

-- what is no partition has no parent
no_parent : (m : Interpretation) (known : List Known) (t : StaticType) → is_partition t ≡ false → IsOfParent m known t
no_parent m known (partition_type d r p) e = absurd (contrary e)
no_parent m known (pointer_type k s args terms) e = tt
no_parent m known (integer_type w) e = tt
no_parent m known truth_type e = tt
no_parent m known (index_type k) e = tt
no_parent m known (ispace_type k) e = tt
no_parent m known (region_type k s args t) e = tt
no_parent m known no_type e = tt
no_parent m known unknown_type e = tt

module _ (tree : Tree) (task : TaskTree) (s : Scope) (sound : IsSound tree) (scope : IsSoundScope s) where
  links_plain : (t : StaticType) (rest : Links) → is_partition t ≡ false → first_in_links tree task s t rest ≡ None → is_partition (known_type_after_links tree s t rest) ≡ false
  links_plain t no_link e told = e
  links_plain t (a_link o y rest) e told =
      let parts = option_or_parts (first_in_expression tree task s y) _ told in
      let more = option_or_parts (first_of_operator (computing o t (known_type tree s y))) _ parts.1 in
      let operands = or_parts (is_collection t) (is_collection (known_type tree s y)) (rule_none _ rule.Place (option_or_parts _ _ more.0).0) in
      links_plain (known_type_after_operator (computing o t (known_type tree s y))) rest
      (unless_plain _ (operated o t (known_type tree s y)) (operated_plain o t (known_type tree s y) operands.0 operands.1)) more.1

  -- a type that is known is the one that the meaning gives
  as_meant : (e : Expression) → first_in_expression tree task s e ≡ None → is_partition (known_type tree s e) ≡ false → is_partition (type_of tree s e) ≡ false
  as_meant e told plain = ap is_partition (sym (known_as_meant tree task s e sound scope told).1) ∙ plain

  pub type_parent : (m : Interpretation) → ((i : ℕ) → IsOfParent m s.known (bound_as s.names i).static_type) → (e : Expression) → IsWritten e → first_in_expression tree task s e ≡ None →
      IsOfParent m s.known (type_of tree s e)
  type_parent m are (number_expr z w) wr told = tt
  type_parent m are (truth_expr b) wr told = tt
  type_parent m are (chain_expr first no_link) wr told = type_parent m are first wr.0 (option_or_parts (first_in_expression tree task s first) _ told).0
  type_parent m are (chain_expr first (a_link o y rest)) wr told =
      let parts = option_or_parts (first_in_expression tree task s first) _ told in
      let inner = option_or_parts (first_in_expression tree task s y) _ parts.1 in
      let more = option_or_parts (first_of_operator (computing o (known_type tree s first) (known_type tree s y))) _ inner.1 in
      let operands = or_parts (is_collection (known_type tree s first)) (is_collection (known_type tree s y)) (rule_none _ rule.Place (option_or_parts _ _ more.0).0) in
      no_parent m s.known _ (as_meant (chain_expr first (a_link o y rest)) told
      (links_plain (known_type_after_operator (computing o (known_type tree s first) (known_type tree s y))) rest
      (unless_plain _ (operated o (known_type tree s first) (known_type tree s y)) (operated_plain o (known_type tree s first) (known_type tree s y) operands.0 operands.1)) more.1))
  type_parent m are (prefix_expr [] y) wr told = absurd wr
  type_parent m are (prefix_expr (sign ∷ signs) y) wr told =
      no_parent m s.known _ (as_meant (prefix_expr (sign ∷ signs) y) told (sign_plain sign (known_type_after_signs signs (known_type tree s y))))
  type_parent m are (call_expr name es) wr told = no_parent m s.known _ (result_plain tree (task_named tree name).result (sound.results name))
  type_parent m are (access_expr n no_step) wr told =
      let parts = option_or_parts (rule_if (not (is_bound s.names n)) rule.Name) _ told in
      let bound = not-false (is_bound s.names n) (rule_none _ rule.Name parts.0) in
      subst (λ (b : Bound). IsOfParent m s.known b.static_type) (found_by_number s.next s.names n scope.numbers bound).0 (are (bound_to s.names n).number)
  type_parent m are (access_expr n (field_step f rest)) wr told =
      no_parent m s.known _ (steps_plain tree s sound (type_of_field tree (type_named s.names n) f) rest (taken_plain tree sound (type_named s.names n) f))
  type_parent m are (access_expr n (at_step y rest)) wr told =
      no_parent m s.known _ (steps_plain tree s sound (type_of_element s (type_named s.names n) y) rest (element_plain s (type_named s.names n) y))
  type_parent m are (convert_expr (number.Int32) y) wr told = tt
  type_parent m are (convert_expr (number.Int64) y) wr told = tt
  type_parent m are (convert_expr (number.Index k) y) wr told = tt
  type_parent m are (is_null_expr y) wr told = tt
  type_parent m are (null_expr p) wr told = tt
  type_parent m are (cast_expr p y) wr told = tt
  type_parent m are (space_expr k y) wr told = tt
