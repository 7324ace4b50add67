-- Types of expressions of which nothing is told speak of what is in scope.
use Rattle.check_rules.proofs.Untold.{rule_none}
use Rattle.plain_values.proofs.Plain.{option_or_parts}
use Rattle.std.proofs.Common.{arith, Bool, List, [], ◌∷◌, None, Option, Some, false, true, refl, ap, sym, subst, ℕ, ◌≡◌, ◌∙◌, ◌<◌, ◌≤◌, ◌==◌, cond, length, map, not, suc}
use Rattle.std.proofs.lemmas.Bool.{eqb-true, or_parts, not-false}
use Rattle.regent_tree.specs.Lookup.{has_field, is_bound, type_named}
use Rattle.regent_tree.specs.Scopes.{Scope, bound_as, in_scope, with_name}
use Rattle.regent_tree.specs.StaticTypes.{Looking, Reach, field_place, field_term, looked_up, number_type, space_at, task_named, type_said, written_pointer}
use Rattle.regent_tree.specs.Syntax.{Expression, Links, Name, Steps, TaskTree, Tree, a_link, access_expr, at_step, call_expr, cast_expr, chain_expr, convert_expr, field_step, is_null_expr, no_link, no_step, null_expr, number_expr, prefix_expr, space_expr, truth_expr}
use Rattle.regent_tree.specs.Typing.{arithmetic_type, child_type, colour_of, counting_as, linked_type, operated, result_type, signed_type, stepped_type, type_of, type_of_element, type_of_field}
use Rattle.regent_tree.specs.declared.expression.Operator.{Operator}
use Rattle.regent_tree.specs.declared.expression.Operator.TheVariants.{And, Compare, Compute, Or}
use Rattle.regent_tree.specs.declared.expression.Sign.{Sign}
use Rattle.regent_tree.specs.declared.expression.Sign.TheVariants.{Minus, Not}
use Rattle.regent_tree.specs.declared.facts.Colour.TheVariants.{Loop, Unknown as UnknownColour}
use Rattle.regent_tree.specs.declared.facts.Term.{Term}
use Rattle.regent_tree.specs.declared.facts.Term.TheVariants as term
use Rattle.regent_tree.specs.declared.types.NumberTerm.{NumberTerm}
use Rattle.regent_tree.specs.declared.types.NumberTerm.TheVariants as number
use Rattle.regent_tree.specs.declared.types.TypeTerm.{TypeTerm}
use Rattle.regent_tree.specs.declared.types.TypeTerm.TheVariants as typed
use Rattle.regent_tree.specs.declared.typing.Bound.{Bound}
use Rattle.regent_tree.specs.declared.typing.StaticType.{StaticType}
use Rattle.regent_tree.specs.declared.typing.StaticType.TheVariants.{Index as index_type, Integer as integer_type, Ispace as ispace_type, Nothing as no_type, Partition as partition_type, Pointer as pointer_type, Region as region_type, Truth as truth_type, Unknown as unknown_type}
use Rattle.check_rules.specs.types.Declarations.{is_no_field_type, is_no_result_type}
use Rattle.check_rules.specs.first.FirstInExpressions.{first_in_expression, first_in_steps, first_in_type, first_of_standing, first_of_step, first_of_taking}
use Rattle.check_rules.specs.types.KnownTypes.{known_type}
use Rattle.check_rules.specs.rules.Names.{is_unknown_field, unbound_name_in_type}
use Rattle.check_rules.specs.types.Params.{term_at}
use Rattle.check_rules.specs.first.Rules.{rule_if}
use Rattle.check_rules.specs.types.TypedForms.{element_of, field_of}
use Rattle.check_rules.specs.types.Sorts.{is_region}
use Rattle.check_rules.specs.scopes.Sound.{IsSound}
use Rattle.check_rules.specs.rules.Standing.{number_spot, stands}
use Rattle.check_rules.specs.declared.rule.Rule.TheVariants as rule
use Rattle.check_laws.specs.SoundScopes.{Falls, IsKnown, IsSoundScope}
use Rattle.expression_laws.proofs.Knowing.{known_as_meant}
use Rattle.check_laws.proofs.Parts.{contrary, element_known, field_known}
use Rattle.check_laws.proofs.Scopes.{differ, found_by_number}
use Rattle.expression_laws.specs.Kinds.{ArgumentsInScope, AreArguments, ColourBelow, IsArgument, IsNamedByOwnNumber, IsWellScopedBinding, IsWellScoped, TermBelow, TermsBelow, TypeBelow}
use Rattle.statement_laws.specs.Steady.{IsTypeInScope}
use Rattle.statement_laws.proofs.Agree.{type_up}
use Rattle.regent_tree.specs.Typing.{reaches_of}
use Rattle.regent_tree.specs.declared.expression.Arithmetic.TheVariants.{Subtract}
use Rattle.check_rules.specs.first.FirstInExpressions.{first_in_links, first_of_operator}
use Rattle.check_rules.specs.types.KnownTypes.{known_type_after_operator}
use Rattle.check_rules.specs.rules.Partitions.{is_difference}
use Rattle.check_rules.specs.first.Rules.{first_in}
use Rattle.check_rules.specs.types.TypedForms.{computing}
use Rattle.check_rules.specs.scopes.Variables.{members_of}
use Rattle.expression_laws.proofs.Names.{field_args, pointer_args, said_named}
use Rattle.check_laws.proofs.Forms.{unflawed}

-- ---- numbers of regions in scope

pub bound_below : (next : ℕ) (names : List Bound) → Falls next names → (j : ℕ) → is_region (bound_as names j).static_type ≡ true → j < next
bound_below next [] falls j e = absurd cc
bound_below next (b ∷ bs) falls j e = here (b.number == j) refl (bound_below b.number bs falls.1 j) e
  where
    here : (c : Bool) → (b.number == j) ≡ c → (is_region (bound_as bs j).static_type ≡ true → j < b.number) →
        is_region (cond c b (bound_as bs j)).static_type ≡ true → j < next
    here true q rest e = let same = eqb-true b.number j q in let less = falls.0 in omega (arith, same, less)
    here false q rest e = let l = rest e in let less = falls.0 in omega (arith, l, less)

-- arguments in a scope are arguments where its regions are in scope still
module _ (s t : Scope) (more : (j : ℕ) → is_region (bound_as s.names j).static_type ≡ true → is_region (bound_as t.names j).static_type ≡ true) where
  arg_too : (a : Reach) → IsArgument s a → IsArgument t a
  arg_too None h = tt
  arg_too (Some (term.Name i)) h = more i h
  arg_too (Some (term.Child p c)) h = absurd h

  args_too : (args : List Reach) → AreArguments s args → AreArguments t args
  args_too [] h = tt
  args_too (a ∷ args) h = (arg_too a h.0, args_too args h.1)

  pub args_in_too : (k : StaticType) → ArgumentsInScope s k → ArgumentsInScope t k
  args_in_too (pointer_type k sp args terms) h = args_too args h
  args_in_too (region_type k sp args r) h = args_too args h
  args_in_too (partition_type d r p) h = tt
  args_in_too (integer_type w) h = tt
  args_in_too truth_type h = tt
  args_in_too (index_type k) h = tt
  args_in_too (ispace_type k) h = tt
  args_in_too no_type h = tt
  args_in_too unknown_type h = tt

-- the same names behind a block
pub said_past : (s t : Scope) → t.names ≡ s.names → s.next ≤ t.next → IsWellScoped s → IsWellScoped t
said_past s t same less well_scoped i = record {
  args = args_in_too s t (λ j e. ap (λ names. is_region (bound_as names j).static_type) same ∙ e) (bound_as t.names i).static_type
      (ap_args (well_scoped i).args);
  own = subst (λ names. IsNamedByOwnNumber i (bound_as names i).static_type) (sym same) (well_scoped i).own;
  below = subst (λ names. TypeBelow t.next (bound_as names i).static_type) (sym same) (type_up s.next t.next (bound_as s.names i).static_type less (well_scoped i).below);
}
  where
    ap_args : ArgumentsInScope s (bound_as s.names i).static_type → ArgumentsInScope s (bound_as t.names i).static_type
    ap_args h = subst (λ names. ArgumentsInScope s (bound_as names i).static_type) (sym same) h

-- one more name
pub said_more : (s : Scope) (n : Name) (t : StaticType) (by_loop : Bool) → IsSoundScope s → IsWellScoped s → ArgumentsInScope s t → IsNamedByOwnNumber s.next t →
    TypeBelow (suc s.next) t → IsWellScoped (with_name s n t by_loop)
said_more s n t by_loop scope well_scoped args own below i = here (s.next == i) refl
  where
    new : Bound
    new = record { name = n; number = s.next; place = length s.names; static_type = t; by_loop = by_loop }

    still : (j : ℕ) → is_region (bound_as s.names j).static_type ≡ true → is_region (bound_as (with_name s n t by_loop).names j).static_type ≡ true
    still j e =
        ap (λ c. is_region (cond c (record { name = n; number = s.next; place = length s.names; static_type = t; by_loop = by_loop }) (bound_as s.names j)).static_type)
        (differ s.next j (bound_below s.next s.names scope.numbers j e)) ∙ e

    here : (c : Bool) → (s.next == i) ≡ c →
        IsWellScopedBinding (with_name s n t by_loop) i (cond c (record { name = n; number = s.next; place = length s.names; static_type = t; by_loop = by_loop }) (bound_as s.names i))
    here true q = record { args = args_in_too s (with_name s n t by_loop) still t args; own = subst (λ k. IsNamedByOwnNumber k t) (eqb-true s.next i q) own; below = below }
    here false q = record { args = args_in_too s (with_name s n t by_loop) still (bound_as s.names i).static_type (well_scoped i).args; own = (well_scoped i).own; below = type_up s.next (suc s.next) (bound_as s.names i).static_type (omega (arith)) (well_scoped i).below }

-- ---- types of expressions

pub args_below : (s : Scope) → IsSoundScope s → (terms : List Reach) → AreArguments s terms → TermsBelow s.next terms
args_below s scope [] are = tt
args_below s scope (None ∷ terms) are = args_below s scope terms are.1
args_below s scope (Some (term.Name i) ∷ terms) are = (bound_below s.next s.names scope.numbers i are.0, args_below s scope terms are.1)
args_below s scope (Some (term.Child p c) ∷ terms) are = absurd are.0

module _ (tree : Tree) (task : TaskTree) (s : Scope) (sound : IsSound tree) (scope : IsSoundScope s) (well_scoped : IsWellScoped s) where
  pub named_in : (n : Name) → is_bound s.names n ≡ true → IsTypeInScope s (type_named s.names n)
  named_in n b =
      let is = said_named s scope well_scoped n b in record {
        args = is.args;
        below = is.below;
      }

  -- types of neither a region nor a partition, without arguments
  abbrev IsBare : StaticType → Type 0
  IsBare (region_type k sp args r) = ⊥
  IsBare (partition_type d r p) = ⊥
  IsBare (pointer_type k sp args terms) = ⊥
  IsBare t = Unit {0}

  bare_in : (t : StaticType) → IsBare t → IsTypeInScope s t
  bare_in (integer_type w) h = record { args = tt; below = tt }
  bare_in truth_type h = record { args = tt; below = tt }
  bare_in (index_type k) h = record { args = tt; below = tt }
  bare_in (ispace_type k) h = record { args = tt; below = tt }
  bare_in no_type h = record { args = tt; below = tt }
  bare_in unknown_type h = record { args = tt; below = tt }
  bare_in (region_type k sp args r) h = absurd h
  bare_in (partition_type d r p) h = absurd h
  bare_in (pointer_type k sp args terms) h = absurd h

  counted_in : (t : StaticType) → IsTypeInScope s t → IsTypeInScope s (counting_as t)
  counted_in (pointer_type k sp args terms) h = record { args = tt; below = tt }
  counted_in (integer_type w) h = h
  counted_in truth_type h = h
  counted_in (index_type k) h = h
  counted_in (ispace_type k) h = h
  counted_in (region_type k sp args r) h = h
  counted_in (partition_type d r p) h = h
  counted_in no_type h = h
  counted_in unknown_type h = h

  beside_in : (w : _) (t : StaticType) → IsTypeInScope s t → IsTypeInScope s (arithmetic_type (integer_type w) t)
  beside_in w (integer_type v) h = record { args = tt; below = tt }
  beside_in w truth_type h = h
  beside_in w (index_type k) h = h
  beside_in w (pointer_type k sp args terms) h = h
  beside_in w (ispace_type k) h = h
  beside_in w (region_type k sp args r) h = h
  beside_in w (partition_type d r p) h = h
  beside_in w no_type h = h
  beside_in w unknown_type h = h

  arithmetic_in : (t u : StaticType) → IsTypeInScope s t → IsTypeInScope s u → IsTypeInScope s (arithmetic_type t u)
  arithmetic_in (integer_type w) u h g = beside_in w u g
  arithmetic_in truth_type u h g = h
  arithmetic_in (index_type k) u h g = h
  arithmetic_in (pointer_type k sp args terms) u h g = h
  arithmetic_in (ispace_type k) u h g = h
  arithmetic_in (region_type k sp args r) u h g = h
  arithmetic_in (partition_type d r p) u h g = h
  arithmetic_in no_type u h g = h
  arithmetic_in unknown_type u h g = h

  operated_in : (o : Operator) (t u : StaticType) → IsTypeInScope s t → IsTypeInScope s u → IsTypeInScope s (operated o t u)
  operated_in (Compute o) t u h g = arithmetic_in (counting_as t) (counting_as u) (counted_in t h) (counted_in u g)
  operated_in (Compare o) t u h g = bare_in truth_type tt
  operated_in And t u h g = bare_in truth_type tt
  operated_in Or t u h g = bare_in truth_type tt

  signed_in : (signs : List Sign) (t : StaticType) → IsTypeInScope s t → IsTypeInScope s (signed_type signs t)
  signed_in [] t h = h
  signed_in (Not ∷ signs) t h = bare_in truth_type tt
  signed_in (Minus ∷ signs) t h = counted_in t h

  number_in : (t : NumberTerm) → IsTypeInScope s (number_type t)
  number_in number.Int32 = bare_in _ tt
  number_in number.Int64 = bare_in _ tt
  number_in (number.Index k) = bare_in _ tt

  result_in : (r : Option TypeTerm) → is_no_result_type r ≡ false → IsTypeInScope s (result_type tree r)
  result_in None e = bare_in no_type tt
  result_in (Some (typed.Number t)) e = number_in t
  result_in (Some typed.Truth) e = bare_in truth_type tt
  result_in (Some (typed.Pointer p)) e = absurd (contrary e)
  result_in (Some (typed.Ispace k)) e = absurd (contrary e)
  result_in (Some (typed.Region k u)) e = absurd (contrary e)
  result_in (Some (typed.Partition d r c)) e = absurd (contrary e)

  written_in : (p : _) → first_in_type tree s.names (typed.Pointer p) ≡ None → IsTypeInScope s (written_pointer tree (in_scope s) p)
  written_in p e = record {
    args = (pointer_args s scope tree p (rule_none (unbound_name_in_type tree s.names (typed.Pointer p)) rule.Name (option_or_parts _ _ e).0)).0;
    below = args_below s scope (map (looked_up (in_scope s)) p.regions)
        (pointer_args s scope tree p (rule_none (unbound_name_in_type tree s.names (typed.Pointer p)) rule.Name (option_or_parts _ _ e).0)).1;
  }

  said_bare : (look : Looking) (t : TypeTerm) → is_no_field_type t ≡ false → AreArguments s (reaches_of (type_said tree look 0 t)) → TypeBelow s.next (type_said tree look 0 t)
  said_bare look (typed.Number number.Int32) e are = tt
  said_bare look (typed.Number number.Int64) e are = tt
  said_bare look (typed.Number (number.Index k)) e are = tt
  said_bare look typed.Truth e are = tt
  said_bare look (typed.Pointer p) e are = args_below s scope (map (looked_up look) p.regions) are
  said_bare look (typed.Ispace k) e are = absurd (contrary e)
  said_bare look (typed.Region k u) e are = absurd (contrary e)
  said_bare look (typed.Partition d r c) e are = absurd (contrary e)

  field_in : (t : StaticType) (f : Name) → first_of_taking tree (field_of t f) ≡ None → IsTypeInScope s t → IsTypeInScope s (type_of_field tree t f)
  field_in (pointer_type k sp args terms) f e h =
      let there = not-false (has_field tree sp f) (rule_none (is_unknown_field tree (field_of (pointer_type k sp args terms) f)) rule.Name (option_or_parts _ _ e).0) in
      let is = (or_parts (is_no_field_type (term_at (space_at tree sp).fields (field_place tree sp f))) _ (sound.fields sp f there)).0 in
      record { args = (field_args s tree sp args f is h.args).0; below = said_bare _ (field_term tree sp (field_place tree sp f)) is (field_args s tree sp args f is h.args).1 }
  field_in (partition_type d r p) f e h = bare_in _ tt
  field_in (integer_type w) f e h = bare_in unknown_type tt
  field_in truth_type f e h = bare_in unknown_type tt
  field_in (index_type k) f e h = bare_in unknown_type tt
  field_in (ispace_type k) f e h = bare_in unknown_type tt
  field_in (region_type k sp args r) f e h = bare_in unknown_type tt
  field_in no_type f e h = bare_in unknown_type tt
  field_in unknown_type f e h = bare_in unknown_type tt

  child_in : (b : StaticType) (t : Term) → ArgumentsInScope s b → TermBelow s.next t → IsTypeInScope s (child_type b t)
  child_in (region_type k sp args r) t h l = record { args = h; below = l }
  child_in (pointer_type k sp args terms) t h l = bare_in unknown_type tt
  child_in (partition_type d r p) t h l = bare_in unknown_type tt
  child_in (integer_type w) t h l = bare_in unknown_type tt
  child_in truth_type t h l = bare_in unknown_type tt
  child_in (index_type k) t h l = bare_in unknown_type tt
  child_in (ispace_type k) t h l = bare_in unknown_type tt
  child_in no_type t h l = bare_in unknown_type tt
  child_in unknown_type t h l = bare_in unknown_type tt

  named_colour : (b : Bool) (i : ℕ) → i < s.next → ColourBelow s.next (cond b (Loop i) UnknownColour)
  named_colour true i l = l
  named_colour false i l = tt

  colour_in : (e : Expression) → first_in_expression tree task s e ≡ None → ColourBelow s.next (colour_of s e)
  colour_in (access_expr n no_step) e =
      let b = not-false (is_bound s.names n) (rule_none _ rule.Name (option_or_parts (rule_if (not (is_bound s.names n)) rule.Name) _ e).0) in
      named_colour _ _ (found_by_number s.next s.names n scope.numbers b).1
  colour_in (access_expr n (field_step f rest)) e = tt
  colour_in (access_expr n (at_step y rest)) e = tt
  colour_in (number_expr z w) e = tt
  colour_in (truth_expr b) e = tt
  colour_in (chain_expr first rest) e = tt
  colour_in (prefix_expr signs y) e = tt
  colour_in (call_expr t args) e = tt
  colour_in (convert_expr t y) e = tt
  colour_in (is_null_expr y) e = tt
  colour_in (null_expr p) e = tt
  colour_in (cast_expr p y) e = tt
  colour_in (space_expr k y) e = tt

  element_in : (t : StaticType) (e : Expression) → first_in_expression tree task s e ≡ None → IsTypeInScope s t → IsTypeInScope s (type_of_element s t e)
  element_in (region_type k sp args r) e told h = record { args = h.args; below = (h.below, tt) }
  element_in (partition_type d r p) e told h = child_in (bound_as s.names r).static_type (term.Child p (colour_of s e)) (well_scoped r).args (h.below, colour_in e told)
  element_in (integer_type w) e told h = bare_in unknown_type tt
  element_in truth_type e told h = bare_in unknown_type tt
  element_in (index_type k) e told h = bare_in unknown_type tt
  element_in (pointer_type k sp args terms) e told h = bare_in unknown_type tt
  element_in (ispace_type k) e told h = bare_in unknown_type tt
  element_in no_type e told h = bare_in unknown_type tt
  element_in unknown_type e told h = bare_in unknown_type tt

  steps_in : (t : StaticType) (steps : Steps) → IsKnown s t → first_in_steps tree task s t steps ≡ None → IsTypeInScope s t → IsTypeInScope s (stepped_type tree s t steps)
  steps_in t no_step k e h = h
  steps_in t (field_step f rest) k e h =
      let parts = option_or_parts (first_of_step tree task s (field_of t f)) _ e in
      let here = option_or_parts (first_of_taking tree (field_of t f)) _ parts.0 in
      let next = field_known tree s t f sound k here.0 in
      let same = unflawed _ (type_of_field tree t f) next.known in
      steps_in (type_of_field tree t f) rest (subst (IsKnown s) same next) (subst (λ q. first_in_steps tree task s q rest ≡ None) same parts.1) (field_in t f here.0 h)
  steps_in t (at_step y rest) k e h =
      let parts = option_or_parts (first_in_expression tree task s y) _ e in
      let more = option_or_parts (first_of_step tree task s (element_of t (known_type tree s y))) _ parts.1 in
      let here = option_or_parts (first_of_taking tree (element_of t (known_type tree s y))) _ more.0 in
      let key = known_as_meant tree task s y sound scope parts.0 in
      let next = element_known tree s t (known_type tree s y) y k key.0.known here.0 in
      let same = unflawed _ (type_of_element s t y) next.known in
      steps_in (type_of_element s t y) rest (subst (IsKnown s) same next) (subst (λ q. first_in_steps tree task s q rest ≡ None) same more.1) (element_in t y parts.0 h)

  -- the types of what stands in the links of a chain
  abbrev AreIn : Links → Type 0
  AreIn no_link = Unit {0}
  AreIn (a_link o y rest) = IsTypeInScope s (type_of tree s y) × AreIn rest

  steps_of_links : (t : StaticType) (k : StaticType) (rest : Links) → IsTypeInScope s t → AreIn rest → IsTypeInScope s (linked_type tree s t rest)
  steps_of_links t k no_link h are = h
  steps_of_links t k (a_link o y rest) h are = steps_of_links (operated o t (type_of tree s y)) k rest (operated_in o t (type_of tree s y) h are.0) are.1

  mutual
    pub type_in : (e : Expression) → first_in_expression tree task s e ≡ None → IsTypeInScope s (type_of tree s e)
    type_in (number_expr z w) e = bare_in (integer_type w) tt
    type_in (truth_expr b) e = bare_in truth_type tt
    type_in (chain_expr first rest) e =
        let parts = option_or_parts (first_in_expression tree task s first) _ e in
        steps_of_links (type_of tree s first) (type_of tree s first) rest (type_in first parts.0) (links_in (known_type tree s first) rest parts.1)
    type_in (prefix_expr signs y) e = signed_in signs (type_of tree s y) (type_in y (option_or_parts (first_in_expression tree task s y) _ e).0)
    type_in (call_expr t args) e = result_in (task_named tree t).result (sound.results t)
    type_in (access_expr n steps) e =
        let parts = option_or_parts (rule_if (not (is_bound s.names n)) rule.Name) _ e in
        let b = not-false (is_bound s.names n) (rule_none _ rule.Name parts.0) in
        steps_in (type_named s.names n) steps (scope.types n b) parts.1 (named_in n b)
    type_in (convert_expr t y) e = number_in t
    type_in (is_null_expr y) e = bare_in truth_type tt
    type_in (null_expr p) e = written_in p e
    type_in (cast_expr p y) e =
        let parts = option_or_parts (first_in_expression tree task s y) _ e in
        written_in p (option_or_parts (first_of_standing [] (stands (known_type tree s y) number_spot)) _ parts.1).1
    type_in (space_expr k y) e = bare_in (ispace_type k) tt

    links_in : (k : StaticType) (rest : Links) → first_in_links tree task s k rest ≡ None → AreIn rest
    links_in k no_link e = tt
    links_in k (a_link o y rest) e =
        let parts = option_or_parts (first_in_expression tree task s y) _ e in
        let more = option_or_parts (first_of_operator (computing o k (known_type tree s y))) _ parts.1 in
        (type_in y parts.0, links_in (known_type_after_operator (computing o k (known_type tree s y))) rest more.1)

  -- the whole of a start value, or the two partitions of a difference
  pub plain_in : (e : Expression) (is : Bool) → is_difference s.names e ≡ is →
      first_in (first_in_expression tree task s) (cond is (members_of e) (e ∷ [])) ≡ None → IsTypeInScope s (type_of tree s e)
  plain_in e false d heads = type_in e (option_or_parts (first_in_expression tree task s e) _ heads).0
  plain_in (chain_expr (access_expr p no_step) (a_link (Compute Subtract) (access_expr q no_step) no_link)) true d heads =
      let parts = option_or_parts (first_in_expression tree task s (access_expr p no_step)) _ heads in
      operated_in (Compute Subtract) _ _ (type_in (access_expr p no_step) parts.0)
      (type_in (access_expr q no_step) (option_or_parts (first_in_expression tree task s (access_expr q no_step)) _ parts.1).0)
  plain_in e true d heads = absurd (contrary (sym d))
