-- The types of expressions of which nothing is told have field space arguments as declared.
use Rattle.std.proofs.Common.{List, [], ◌∷◌, ◌++◌, None, Some, false, true, refl, ap, subst, ◌≡◌, ◌∙◌, ◌||◌, not}
use Rattle.std.proofs.lemmas.Bool.{not-false, or_parts}
use Rattle.std.specs.List.{All}
use Rattle.plain_values.proofs.Plain.{option_or_parts}
use Rattle.regent_tree.specs.Evaluation.{typed}
use Rattle.regent_tree.specs.Laws.{Shape}
use Rattle.regent_tree.specs.Limits.{KeepsLimit, node, parts_of_expression, parts_of_links, parts_of_pointer}
use Rattle.regent_tree.specs.Lookup.{is_bound, type_named}
use Rattle.regent_tree.specs.Running.{Here}
use Rattle.regent_tree.specs.Scopes.{bound_to}
use Rattle.regent_tree.specs.StaticTypes.{number_type, task_named}
use Rattle.regent_tree.specs.Syntax.{Expression, Links, Name, Steps, TaskTree, Tree, a_link, access_expr, at_step, call_expr, cast_expr, chain_expr, convert_expr, field_step, is_null_expr, no_link, no_step, null_expr, number_expr, prefix_expr, space_expr, truth_expr}
use Rattle.regent_tree.specs.Typing.{arithmetic_type, counting_as, linked_type, operated, result_type, stepped_type, type_of, type_of_element, type_of_field}
use Rattle.regent_tree.specs.declared.expression.Operator.{Operator}
use Rattle.regent_tree.specs.declared.expression.Operator.TheVariants.{And, Compare, Compute, Or}
use Rattle.regent_tree.specs.declared.expression.Sign.TheVariants.{Minus, Not}
use Rattle.regent_tree.specs.declared.types.NumberTerm.{NumberTerm}
use Rattle.regent_tree.specs.declared.types.NumberTerm.TheVariants as number
use Rattle.regent_tree.specs.declared.types.TypeTerm.TheVariants as typed_as
use Rattle.regent_tree.specs.declared.typing.Bound.{Bound}
use Rattle.regent_tree.specs.declared.typing.StaticType.{StaticType}
use Rattle.regent_tree.specs.declared.typing.StaticType.TheVariants.{Index as index_type, Integer as integer_type, Ispace as ispace_type, Nothing as no_type, Partition as partition_type, Pointer as pointer_type, Region as region_type, Truth as truth_type, Unknown as unknown_type}
use Rattle.check_rules.proofs.Untold.{rule_none, standing_none}
use Rattle.check_rules.specs.first.FirstInExpressions.{first_in_expression, first_in_links, first_in_steps, first_of_operator, first_of_standing, first_of_step, first_of_taking}
use Rattle.check_rules.specs.first.Rules.{rule_if}
use Rattle.check_rules.specs.rules.Places.{is_value_type}
use Rattle.check_rules.specs.rules.Standing.{number_spot, stands}
use Rattle.check_rules.specs.types.Declarations.{is_no_result_type}
use Rattle.check_rules.specs.types.KnownTypes.{known_type}
use Rattle.check_rules.specs.types.Sorts.{is_collection, is_number as numeric, is_unknown_type}
use Rattle.check_rules.specs.types.TypedForms.{computing, element_of, field_of}
use Rattle.check_rules.specs.declared.rule.Rule.TheVariants as rule
use Rattle.check_laws.proofs.Parts.{after_operator, contrary, element_known, field_known, surely}
use Rattle.check_laws.proofs.Scopes.{found_by_number}
use Rattle.check_laws.specs.SoundScopes.{IsKnown}
use Rattle.expression_laws.proofs.Knowing.{known_as_meant}
use Rattle.expression_laws.proofs.Operators.{signs_value}
use Rattle.check_laws.proofs.Forms.{unflawed}
use Rattle.value_laws.specs.Laws.{IsPlaceOfFit}
use Rattle.value_laws.specs.Spaces.{IsSpaced}
use Rattle.value_laws.proofs.Accesses.{element_is_spaced, field_is_spaced, taking_parts}
use Rattle.value_laws.proofs.Limits.{all_behind, all_left}
use Rattle.value_laws.proofs.Spaced.{HasNoArguments, no_arguments, written_spaced}

-- ---- types of values

pub number_plain : (n : NumberTerm) → HasNoArguments (number_type n)
number_plain number.Int32 = tt
number_plain number.Int64 = tt
number_plain (number.Index k) = tt

pub result_plain : (tree : Tree) (r : _) → is_no_result_type r ≡ false → HasNoArguments (result_type tree r)
result_plain tree None e = tt
result_plain tree (Some (typed_as.Number n)) e = number_plain n
result_plain tree (Some typed_as.Truth) e = tt
result_plain tree (Some (typed_as.Pointer p)) e = absurd (contrary e)
result_plain tree (Some (typed_as.Ispace k)) e = absurd (contrary e)
result_plain tree (Some (typed_as.Region k u)) e = absurd (contrary e)
result_plain tree (Some (typed_as.Partition d r c)) e = absurd (contrary e)

pub counted_plain : (t : StaticType) → is_collection t ≡ false → HasNoArguments (counting_as t)
counted_plain (integer_type w) e = tt
counted_plain truth_type e = tt
counted_plain (index_type k) e = tt
counted_plain (pointer_type k sp args terms) e = tt
counted_plain (ispace_type k) e = tt
counted_plain (region_type k sp args t) e = absurd cc
counted_plain (partition_type d r p) e = absurd cc
counted_plain no_type e = tt
counted_plain unknown_type e = tt

pub operated_plain : (o : Operator) (t u : StaticType) → is_collection t ≡ false → is_collection u ≡ false → HasNoArguments (operated o t u)
operated_plain (Compute o) t u e f = by t e
  where
    beside : (w : _) (u : StaticType) → is_collection u ≡ false → HasNoArguments (arithmetic_type (integer_type w) (counting_as u))
    beside w (integer_type v) e = tt
    beside w truth_type e = tt
    beside w (index_type k) e = tt
    beside w (pointer_type k sp args terms) e = tt
    beside w (ispace_type k) e = tt
    beside w (region_type k sp args t) e = absurd cc
    beside w (partition_type d r p) e = absurd cc
    beside w no_type e = tt
    beside w unknown_type e = tt

    by : (t : StaticType) → is_collection t ≡ false → HasNoArguments (arithmetic_type (counting_as t) (counting_as u))
    by (integer_type w) e = beside w u f
    by truth_type e = tt
    by (index_type k) e = tt
    by (pointer_type k sp args terms) e = tt
    by (ispace_type k) e = tt
    by (region_type k sp args t) e = absurd cc
    by (partition_type d r p) e = absurd cc
    by no_type e = tt
    by unknown_type e = tt
operated_plain (Compare c) t u e f = tt
operated_plain And t u e f = tt
operated_plain Or t u e f = tt

pub value_collection : (t : StaticType) → is_value_type t ≡ true → is_collection t ≡ false
value_collection (integer_type w) e = refl
value_collection truth_type e = refl
value_collection (index_type k) e = refl
value_collection (pointer_type k sp args terms) e = refl
value_collection (ispace_type k) e = absurd cc
value_collection (region_type k sp args t) e = absurd cc
value_collection (partition_type d r p) e = absurd cc
value_collection no_type e = absurd cc
value_collection unknown_type e = absurd cc

module _ (task : TaskTree) (roots : List Shape) (h : Here) (place : IsPlaceOfFit roots h) where
  abbrev told : Expression → Type 0
  told e = first_in_expression h.tree task h.scope e ≡ None

  abbrev Limited : Expression → Type 0
  Limited e = All KeepsLimit (parts_of_expression e)

  abbrev Spaced : StaticType → Type 0
  Spaced t = IsSpaced h.tree h.scope.names t

  pub known : (e : Expression) → told e → IsKnown h.scope (known_type h.tree h.scope e) × (known_type h.tree h.scope e ≡ type_of h.tree h.scope e)
  known e none = known_as_meant h.tree task h.scope e place.sound place.scope none

  pub known_meant : (e : Expression) → told e → IsKnown h.scope (type_of h.tree h.scope e)
  known_meant e none = let k = known e none in subst (IsKnown h.scope) k.1 k.0

  -- the name that an access begins with
  pub name_spaced : (n : Name) → is_bound h.scope.names n ≡ true → Spaced (type_named h.scope.names n)
  name_spaced n b = subst (λ (c : Bound). Spaced c.static_type) (found_by_number h.scope.next h.scope.names n place.scope.numbers b).0
      (place.spaced (bound_to h.scope.names n).number)

  -- an element is taken at a number
  pub element_number : (t k : StaticType) → is_unknown_type k ≡ false → first_of_taking h.tree (element_of t k) ≡ None → numeric k ≡ true
  element_number t k is e =
      let stand = (taking_parts h.tree (element_of t k) e).2 in
      surely numeric k is (not-false _ (standing_none [] (stands k number_spot) (option_or_parts (first_of_standing [] (stands k number_spot)) _ stand).0).1)

  abbrev Told_steps : StaticType → Steps → Type 0
  Told_steps t steps = first_in_steps h.tree task h.scope t steps ≡ None

  abbrev Told_links : StaticType → Links → Type 0
  Told_links t rest = first_in_links h.tree task h.scope t rest ≡ None

  -- ---- a step of an access of which nothing is told

  pub record IsTakenField (t : StaticType) (f : Name) (rest : Steps) : Type 0 where
    pub taken : first_of_taking h.tree (field_of t f) ≡ None
    pub known : IsKnown h.scope (type_of_field h.tree t f)
    pub spaced : Spaced (type_of_field h.tree t f)
    pub told : Told_steps (type_of_field h.tree t f) rest

  pub field_taken : (t : StaticType) (f : Name) (rest : Steps) → IsKnown h.scope t → Spaced t → Told_steps t (field_step f rest) → IsTakenField t f rest
  field_taken t f rest k spaced e =
      let parts = option_or_parts (first_of_step h.tree task h.scope (field_of t f)) _ e in
      let here = option_or_parts (first_of_taking h.tree (field_of t f)) _ parts.0 in
      let next = field_known h.tree h.scope t f place.sound k here.0 in
      let same = unflawed _ (type_of_field h.tree t f) next.known in record {
        taken = here.0;
        known = subst (IsKnown h.scope) same next;
        spaced = field_is_spaced roots h place t f here.0 spaced;
        told = subst (λ k. Told_steps k rest) same parts.1;
      }

  pub record IsTakenElement (t : StaticType) (y : Expression) (rest : Steps) : Type 0 where
    pub told_index : told y
    pub taken : first_of_taking h.tree (element_of t (known_type h.tree h.scope y)) ≡ None
    pub number : numeric (typed h y) ≡ true
    pub known : IsKnown h.scope (type_of_element h.scope t y)
    pub spaced : Spaced (type_of_element h.scope t y)
    pub told : Told_steps (type_of_element h.scope t y) rest

  pub element_taken : (t : StaticType) (y : Expression) (rest : Steps) → IsKnown h.scope t → Spaced t → Told_steps t (at_step y rest) → IsTakenElement t y rest
  element_taken t y rest k spaced e =
      let parts = option_or_parts (first_in_expression h.tree task h.scope y) _ e in
      let key = known y parts.0 in
      let more = option_or_parts (first_of_step h.tree task h.scope (element_of t (known_type h.tree h.scope y))) _ parts.1 in
      let here = option_or_parts (first_of_taking h.tree (element_of t (known_type h.tree h.scope y))) _ more.0 in
      let next = element_known h.tree h.scope t (known_type h.tree h.scope y) y k key.0.known here.0 in
      let same = unflawed _ (type_of_element h.scope t y) next.known in record {
        told_index = parts.0;
        taken = here.0;
        number = subst (λ k. numeric k ≡ true) key.1 (element_number t (known_type h.tree h.scope y) key.0.known here.0);
        known = subst (IsKnown h.scope) same next;
        spaced = element_is_spaced roots h place t y spaced;
        told = subst (λ k. Told_steps k rest) same more.1;
      }

  -- a link of a chain of which nothing is told
  pub record IsLink (o : Operator) (t : StaticType) (y : Expression) (rest : Links) : Type 0 where
    pub right : told y
    pub operates : first_of_operator (computing o t (typed h y)) ≡ None
    pub known : IsKnown h.scope (operated o t (typed h y))
    pub told : Told_links (operated o t (typed h y)) rest

  pub linking : (o : Operator) (t : StaticType) (y : Expression) (rest : Links) → IsKnown h.scope t → Told_links t (a_link o y rest) → IsLink o t y rest
  linking o t y rest k e =
      let parts = option_or_parts (first_in_expression h.tree task h.scope y) _ e in
      let right = known y parts.0 in
      let more = option_or_parts (first_of_operator (computing o t (known_type h.tree h.scope y))) _ parts.1 in
      let next = after_operator h.scope o t (known_type h.tree h.scope y) k.known right.0.known more.0 in
      let same = unflawed _ (operated o t (known_type h.tree h.scope y)) next.known ∙ ap (operated o t) right.1 in record {
        right = parts.0;
        operates = subst (λ k. first_of_operator (computing o t k) ≡ None) right.1 more.0;
        known = subst (IsKnown h.scope) same next;
        told = subst (λ k. Told_links k rest) same more.1;
      }

  -- ---- types are spaced

  pub steps_spaced : (t : StaticType) (steps : Steps) → IsKnown h.scope t → Spaced t → Told_steps t steps → Spaced (stepped_type h.tree h.scope t steps)
  steps_spaced t no_step k spaced e = spaced
  steps_spaced t (field_step f rest) k spaced e =
      let taken = field_taken t f rest k spaced e in
      steps_spaced (type_of_field h.tree t f) rest taken.known taken.spaced taken.told
  steps_spaced t (at_step y rest) k spaced e =
      let taken = element_taken t y rest k spaced e in
      steps_spaced (type_of_element h.scope t y) rest taken.known taken.spaced taken.told

  links_spaced : (t : StaticType) (rest : Links) → IsKnown h.scope t → Spaced t → Told_links t rest → Spaced (linked_type h.tree h.scope t rest)
  links_spaced t no_link k spaced e = spaced
  links_spaced t (a_link o y rest) k spaced e =
      let link = linking o t y rest k e in
      let none = or_parts (is_collection t) (is_collection (typed h y)) (rule_none (is_collection t || is_collection (typed h y)) rule.Place (option_or_parts _ _ link.operates).0) in
      links_spaced (operated o t (typed h y)) rest link.known
      (no_arguments h.tree h.scope.names (operated o t (typed h y)) (operated_plain o t (typed h y) none.0 none.1)) link.told

  pub type_spaced : (e : Expression) → Limited e → told e → Spaced (type_of h.tree h.scope e)
  type_spaced (number_expr z w) l e = no_arguments h.tree h.scope.names _ tt
  type_spaced (truth_expr b) l e = no_arguments h.tree h.scope.names _ tt
  type_spaced (chain_expr first rest) l e =
      let parts = option_or_parts (first_in_expression h.tree task h.scope first) _ e in
      let limits = all_left KeepsLimit (parts_of_expression first) (parts_of_links rest) (all_behind KeepsLimit node _ l) in
      links_spaced (typed h first) rest (known_meant first parts.0) (type_spaced first limits parts.0)
      (subst (λ t. Told_links t rest) (known first parts.0).1 parts.1)
  type_spaced (prefix_expr [] y) l e =
      let parts = option_or_parts (first_in_expression h.tree task h.scope y) _ e in type_spaced y (all_behind KeepsLimit node _ l) parts.0
  type_spaced (prefix_expr (Not ∷ signs) y) l e = no_arguments h.tree h.scope.names _ tt
  type_spaced (prefix_expr (Minus ∷ signs) y) l e =
      let parts = option_or_parts (first_in_expression h.tree task h.scope y) _ e in
      let k = known y parts.0 in
      let is = subst (λ t. is_value_type t ≡ true) k.1 (signs_value h.scope Minus signs (known_type h.tree h.scope y) k.0 parts.1) in
      no_arguments h.tree h.scope.names (counting_as (typed h y)) (counted_plain (typed h y) (value_collection (typed h y) is))
  type_spaced (call_expr name es) l e =
      no_arguments h.tree h.scope.names (result_type h.tree (task_named h.tree name).result) (result_plain h.tree (task_named h.tree name).result (place.sound.results name))
  type_spaced (access_expr n steps) l e =
      let parts = option_or_parts (rule_if (not (is_bound h.scope.names n)) rule.Name) _ e in
      let bound = not-false (is_bound h.scope.names n) (rule_none _ rule.Name parts.0) in
      steps_spaced (type_named h.scope.names n) steps (place.scope.types n bound) (name_spaced n bound) parts.1
  type_spaced (convert_expr t y) l e = no_arguments h.tree h.scope.names (number_type t) (number_plain t)
  type_spaced (is_null_expr y) l e = no_arguments h.tree h.scope.names _ tt
  type_spaced (null_expr p) l e = (written_spaced h.tree h.scope place.scope p place.declared (all_behind KeepsLimit node (parts_of_pointer p) l) e).spaced
  type_spaced (cast_expr p y) l e =
      let parts = option_or_parts (first_in_expression h.tree task h.scope y) _ e in
      let more = option_or_parts (first_of_standing [] (stands (known_type h.tree h.scope y) number_spot)) _ parts.1 in
      (written_spaced h.tree h.scope place.scope p place.declared (all_left KeepsLimit (parts_of_pointer p) (parts_of_expression y) (all_behind KeepsLimit node (parts_of_pointer p ++ parts_of_expression y) l)) more.1).spaced
  type_spaced (space_expr k y) l e = no_arguments h.tree h.scope.names _ tt
