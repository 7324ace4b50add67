-- The types after operators, prefixes and steps of which nothing is told.
use Rattle.std.proofs.Common.{Bool, List, None, Option, Some, [], ◌∷◌, ◌&&◌, ◌||◌, ◌≡◌, ap, cond, false, not, refl, subst, sym, true, ◌∙◌, ℕ}
use Rattle.std.proofs.lemmas.Bool.{or_parts}
use Rattle.std.specs.List.{list_any}
use Rattle.std.specs.Prelude.{is_none}
use Rattle.regent_tree.specs.Scopes.{Scope, bound_as}
use Rattle.regent_tree.specs.StaticTypes.{Looking, among_args, field_place, field_term, field_type, number_type, space_at, task_named, type_said}
use Rattle.regent_tree.specs.Syntax.{Expression, Name, TaskTree, Tree}
use Rattle.regent_tree.specs.Typing.{arithmetic_type, child_type, counting_as, operated, result_type, type_of_element, type_of_field}
use Rattle.regent_tree.specs.declared.expression.Operator.{Operator}
use Rattle.regent_tree.specs.declared.expression.Operator.TheVariants.{And, Compare, Compute, Or}
use Rattle.regent_tree.specs.declared.expression.Sign.{Sign}
use Rattle.regent_tree.specs.declared.expression.Sign.TheVariants.{Minus, Not}
use Rattle.regent_tree.specs.declared.types.Kind.TheVariants.{Int1d}
use Rattle.regent_tree.specs.declared.types.NumberTerm.{NumberTerm}
use Rattle.regent_tree.specs.declared.types.NumberTerm.TheVariants as number
use Rattle.regent_tree.specs.declared.types.TypeTerm.{TypeTerm}
use Rattle.regent_tree.specs.declared.types.TypeTerm.TheVariants as typed
use Rattle.regent_tree.specs.declared.typing.StaticType.{StaticType}
use Rattle.regent_tree.specs.declared.typing.StaticType.TheVariants.{Integer as integer_type, Truth as truth_type, Index as index_type, Pointer as pointer_type, Ispace as ispace_type, Region as region_type, Partition as partition_type, Nothing as no_type, Unknown as unknown_type}
use Rattle.check_rules.specs.types.Declarations.{is_no_field_type, is_no_result_type, params_of}
use Rattle.check_rules.specs.first.FirstInExpressions.{first_of_call, first_of_operator, first_of_signs, first_of_standing, first_of_taking}
use Rattle.check_rules.specs.types.KnownTypes.{is_flawed_call, takes_unknown, type_of_call, known_type_after_operator, known_type_after_sign, known_type_after_signs, known_type_after_step}
use Rattle.check_rules.specs.rules.Counts.{miscounts_call}
use Rattle.check_rules.specs.rules.Names.{is_unknown_field, is_unknown_task}
use Rattle.check_rules.specs.rules.Partitions.{mispartitions_call}
use Rattle.check_rules.specs.rules.Spaces.{misfits_call}
use Rattle.check_rules.specs.types.Params.{term_at}
use Rattle.check_rules.specs.rules.Pointers.{takes_of_wild}
use Rattle.check_rules.specs.first.Rules.{first_in}
use Rattle.check_rules.specs.types.TypedForms.{Calling, Taking, computing, element_of, field_of}
use Rattle.check_rules.specs.types.Sorts.{is_collection, is_number, is_region, is_truth, is_unknown_type, may_be}
use Rattle.check_rules.specs.scopes.Sound.{IsSound}
use Rattle.check_rules.specs.rules.Standing.{number_spot, spot_of_sign, standing_in_call, standing_in_step, stands, truth_spot}
use Rattle.check_rules.specs.rules.Types.{has_no_result, is_ill_typed_operation, is_ill_typed_step}
use Rattle.check_rules.specs.declared.rule.Rule.TheVariants as rule
use Rattle.check_laws.specs.SoundScopes.{IsKnown}
use Rattle.plain_values.proofs.Plain.{option_or_parts}
use Rattle.check_rules.proofs.Untold.{rule_none, stand_none, standing_none}
use Rattle.std.proofs.lemmas.Bool.{not-false}

-- ---- where nothing is told

pub contrary : true ≡ false → ⊥
contrary e = absurd cc

-- what is of a sort as far as is known, and known, is of the sort
pub surely : (sort : StaticType → Bool) (t : StaticType) → is_unknown_type t ≡ false → may_be sort t ≡ true → sort t ≡ true
surely sort t known e = sym (ap (λ b. b || sort t) known) ∙ e

pub unless_false : (b : Bool) (t : StaticType) → b ≡ false → cond b unknown_type t ≡ t
unless_false b t e = ap (λ x. cond x unknown_type t) e

-- ---- types that are no partition's

abbrev pub IsValue : StaticType → Type 0
IsValue (partition_type d r p) = ⊥
IsValue t = Unit {0}

pub value_known : (s : Scope) (t : StaticType) → is_unknown_type t ≡ false → IsValue t → IsKnown s t
value_known s (partition_type d r p) known v = absurd v
value_known s (integer_type w) known v = record { known = known; placed = tt }
value_known s truth_type known v = record { known = known; placed = tt }
value_known s (index_type k) known v = record { known = known; placed = tt }
value_known s (pointer_type k sp args regions) known v = record { known = known; placed = tt }
value_known s (ispace_type k) known v = record { known = known; placed = tt }
value_known s (region_type k sp args r) known v = record { known = known; placed = tt }
value_known s no_type known v = record { known = known; placed = tt }
value_known s unknown_type known v = absurd cc

-- ---- operators

no_collection : (a b c : StaticType → Bool) (t : StaticType) → (a t || b t || c t) ≡ false → (a t ≡ false) × (b t ≡ false)
no_collection a b c t e =
    let ab = or_parts (a t || b t) (c t) e in or_parts (a t) (b t) ab.0

pub operated_known : (s : Scope) (o : Operator) (t u : StaticType) → is_unknown_type t ≡ false → is_unknown_type u ≡ false →
    is_collection t ≡ false → is_collection u ≡ false → IsKnown s (operated o t u)
operated_known s (Compute o) t u k l c d = computed t u k l c d
  where
    beside : (w : _) (u : StaticType) → is_unknown_type u ≡ false → is_collection u ≡ false →
        IsKnown s (arithmetic_type (integer_type w) (counting_as u))
    beside w (integer_type v) l d = value_known s _ refl tt
    beside w truth_type l d = value_known s _ refl tt
    beside w (index_type i) l d = value_known s _ refl tt
    beside w (pointer_type i sp args regions) l d = value_known s _ refl tt
    beside w (ispace_type i) l d = absurd cc
    beside w (region_type i sp args r) l d = absurd cc
    beside w (partition_type e r p) l d = absurd cc
    beside w no_type l d = value_known s _ refl tt
    beside w unknown_type l d = absurd cc

    computed : (t u : StaticType) → is_unknown_type t ≡ false → is_unknown_type u ≡ false → is_collection t ≡ false →
        is_collection u ≡ false → IsKnown s (arithmetic_type (counting_as t) (counting_as u))
    computed (integer_type w) u k l c d = beside w u l d
    computed truth_type u k l c d = value_known s _ refl tt
    computed (index_type i) u k l c d = value_known s _ refl tt
    computed (pointer_type i sp args regions) u k l c d = value_known s _ refl tt
    computed (ispace_type i) u k l c d = absurd cc
    computed (region_type i sp args r) u k l c d = absurd cc
    computed (partition_type e r p) u k l c d = absurd cc
    computed no_type u k l c d = value_known s _ refl tt
    computed unknown_type u k l c d = absurd cc
operated_known s (Compare o) t u k l c d = value_known s _ refl tt
operated_known s And t u k l c d = value_known s _ refl tt
operated_known s Or t u k l c d = value_known s _ refl tt

pub after_operator : (s : Scope) (o : Operator) (t u : StaticType) → is_unknown_type t ≡ false → is_unknown_type u ≡ false →
    first_of_operator (computing o t u) ≡ None → IsKnown s (known_type_after_operator (computing o t u))
after_operator s o t u k l e =
    let parts = option_or_parts _ _ e in
    let none = or_parts (is_collection t) (is_collection u) (rule_none (is_collection t || is_collection u) rule.Place parts.0) in
    let right = rule_none (is_ill_typed_operation (computing o t u)) rule.Type (option_or_parts _ _ parts.1).0 in
    let flawless : (is_unknown_type t || is_unknown_type u || is_ill_typed_operation (computing o t u)) ≡ false = λ j. k j || l j || right j in
    subst (IsKnown s) (sym (unless_false _ (operated o t u) flawless)) (operated_known s o t u k l none.0 none.1)

-- ---- prefixes

counted_known : (s : Scope) (t : StaticType) → is_unknown_type t ≡ false → is_number t ≡ true → IsKnown s (counting_as t)
counted_known s (integer_type w) k n = value_known s _ refl tt
counted_known s (index_type i) k n = value_known s _ refl tt
counted_known s (pointer_type i sp args regions) k n = value_known s _ refl tt
counted_known s truth_type k n = absurd cc
counted_known s (ispace_type i) k n = absurd cc
counted_known s (region_type i sp args r) k n = absurd cc
counted_known s (partition_type e r p) k n = absurd cc
counted_known s no_type k n = absurd cc
counted_known s unknown_type k n = absurd cc

after_sign : (s : Scope) (sign : Sign) (t : StaticType) → is_unknown_type t ≡ false →
    first_of_standing [] (stands t (spot_of_sign sign)) ≡ None → IsKnown s (known_type_after_sign sign t)
after_sign s Not t k e =
    let is = surely is_truth t k (not-false _ (standing_none [] (stands t truth_spot) e).1) in
    subst (IsKnown s) (sym (unless_false (not (is_truth t)) truth_type (ap not is))) (value_known s truth_type refl tt)
after_sign s Minus t k e =
    let is = surely is_number t k (not-false _ (standing_none [] (stands t number_spot) e).1) in
    subst (IsKnown s) (sym (unless_false (not (is_number t)) (counting_as t) (ap not is))) (counted_known s t k is)

pub after_signs : (s : Scope) (signs : List Sign) (t : StaticType) → IsKnown s t → first_of_signs signs t ≡ None →
    IsKnown s (known_type_after_signs signs t)
after_signs s [] t k e = k
after_signs s (sign ∷ signs) t k e =
    let parts = option_or_parts (first_of_signs signs t) _ e in
    after_sign s sign (known_type_after_signs signs t) (after_signs s signs t k parts.0).known parts.1

-- ---- steps

pub number_known : (s : Scope) (n : NumberTerm) → IsKnown s (number_type n)
number_known s number.Int32 = value_known s _ refl tt
number_known s number.Int64 = value_known s _ refl tt
number_known s (number.Index k) = value_known s _ refl tt

-- what a field may be declared as
said_known : (tree : Tree) (s : Scope) (look : Looking) (own : ℕ) (t : TypeTerm) → is_no_field_type t ≡ false →
    IsKnown s (type_said tree look own t)
said_known tree s look own (typed.Number n) e = number_known s n
said_known tree s look own typed.Truth e = value_known s _ refl tt
said_known tree s look own (typed.Pointer p) e = value_known s _ refl tt
said_known tree s look own (typed.Ispace k) e = absurd cc
said_known tree s look own (typed.Region k u) e = absurd cc
said_known tree s look own (typed.Partition d r c) e = absurd cc

child_known : (s : Scope) (b : StaticType) (t : _) → is_region b ≡ true → IsKnown s (child_type b t)
child_known s (region_type k sp args r) t e = value_known s _ refl tt
child_known s (partition_type d r p) t e = absurd cc
child_known s (integer_type w) t e = absurd cc
child_known s truth_type t e = absurd cc
child_known s (index_type k) t e = absurd cc
child_known s (pointer_type k sp args regions) t e = absurd cc
child_known s (ispace_type k) t e = absurd cc
child_known s no_type t e = absurd cc
child_known s unknown_type t e = absurd cc

-- what isn't told of a step
taking_none : (tree : Tree) (taking : Taking) → first_of_taking tree taking ≡ None →
    (is_unknown_field tree taking ≡ false) × (is_ill_typed_step taking ≡ false)
    × (first_in (first_of_standing []) (standing_in_step taking) ≡ None) × (takes_of_wild taking ≡ false)
taking_none tree taking e =
    let a = option_or_parts _ _ e in
    let b = option_or_parts _ _ a.1 in
    let c = option_or_parts _ _ b.1 in (
      rule_none (is_unknown_field tree taking) rule.Name a.0,
      rule_none (is_ill_typed_step taking) rule.Type b.0,
      c.0,
      rule_none (takes_of_wild taking) rule.Pointer (option_or_parts _ _ c.1).0,
    )

step_type : (tree : Tree) (s : Scope) (taking : Taking) (u : StaticType) → takes_unknown tree taking ≡ false →
    first_of_taking tree taking ≡ None → IsKnown s u → IsKnown s (known_type_after_step tree taking u)
step_type tree s taking u known e k =
    let n = taking_none tree taking e in
    let flawless : (takes_unknown tree taking || is_unknown_field tree taking || is_ill_typed_step taking || takes_of_wild taking) ≡ false =
    λ j. known j || n.0 j || n.1 j || n.3 j in
    subst (IsKnown s) (sym (unless_false _ u flawless)) k

pub field_known : (tree : Tree) (s : Scope) (t : StaticType) (f : Name) → IsSound tree → IsKnown s t →
    first_of_taking tree (field_of t f) ≡ None → IsKnown s (known_type_after_step tree (field_of t f) (type_of_field tree t f))
field_known tree s (pointer_type k sp args regions) f sound known e =
    let none = taking_none tree (field_of (pointer_type k sp args regions) f) e in
    let flawless = sound.fields sp f (not-false _ none.0) in
    let declared = (or_parts (is_no_field_type (term_at (space_at tree sp).fields (field_place tree sp f))) _ flawless).0 in
    step_type tree s (field_of (pointer_type k sp args regions) f) (field_type tree sp args f) flawless e
    (said_known tree s (among_args (space_at tree sp).params args) 0 (field_term tree sp (field_place tree sp f)) declared)
field_known tree s (partition_type d r p) f sound known e =
    step_type tree s (field_of (partition_type d r p) f) (ispace_type Int1d) refl e (value_known s _ refl tt)
field_known tree s (integer_type w) f sound known e = absurd (contrary (taking_none tree (field_of (integer_type w) f) e).1)
field_known tree s truth_type f sound known e = absurd (contrary (taking_none tree (field_of truth_type f) e).1)
field_known tree s (index_type k) f sound known e = absurd (contrary (taking_none tree (field_of (index_type k) f) e).1)
field_known tree s (ispace_type k) f sound known e = absurd (contrary (taking_none tree (field_of (ispace_type k) f) e).1)
field_known tree s (region_type k sp args r) f sound known e = absurd (contrary (taking_none tree (field_of (region_type k sp args r) f) e).1)
field_known tree s no_type f sound known e = absurd (contrary (taking_none tree (field_of no_type f) e).1)
field_known tree s unknown_type f sound known e = absurd (contrary known.known)

pub element_known : (tree : Tree) (s : Scope) (t u : StaticType) (e : Expression) → IsKnown s t → is_unknown_type u ≡ false →
    first_of_taking tree (element_of t u) ≡ None → IsKnown s (known_type_after_step tree (element_of t u) (type_of_element s t e))
element_known tree s t u e known place none =
    let parts = taking_none tree (element_of t u) none in
    let stands_there = standing_none [] (stands u number_spot) (option_or_parts _ _ parts.2).0 in
    let is = surely is_number u place (not-false _ stands_there.1) in
    step_type tree s (element_of t u) (type_of_element s t e) (λ j. known.known j || not (is j)) none (of_type t known parts.1)
  where
    of_type : (t : StaticType) → IsKnown s t → is_ill_typed_step (element_of t u) ≡ false → IsKnown s (type_of_element s t e)
    of_type (region_type k sp args r) known m = value_known s _ refl tt
    of_type (partition_type d r p) known m = child_known s (bound_as s.names r).static_type _ known.placed.0
    of_type (integer_type w) known m = absurd (contrary m)
    of_type truth_type known m = absurd (contrary m)
    of_type (index_type k) known m = absurd (contrary m)
    of_type (pointer_type k sp args regions) known m = absurd (contrary m)
    of_type (ispace_type k) known m = absurd (contrary m)
    of_type no_type known m = absurd (contrary m)
    of_type unknown_type known m = absurd (contrary known.known)

-- ---- calls

pub result_known : (tree : Tree) (s : Scope) (r : Option TypeTerm) → is_no_result_type r ≡ false → is_none r ≡ false →
    IsKnown s (result_type tree r)
result_known tree s None e n = absurd (contrary n)
result_known tree s (Some (typed.Number n)) e f = number_known s n
result_known tree s (Some typed.Truth) e f = value_known s _ refl tt
result_known tree s (Some (typed.Pointer p)) e f = absurd (contrary e)
result_known tree s (Some (typed.Ispace k)) e f = absurd (contrary e)
result_known tree s (Some (typed.Region k u)) e f = absurd (contrary e)
result_known tree s (Some (typed.Partition d r c)) e f = absurd (contrary e)

pub call_known : (tree : Tree) (task : TaskTree) (s : Scope) (c : Calling) → IsSound tree → first_of_call tree task s c ≡ None →
    has_no_result tree c ≡ false → list_any is_unknown_type c.args ≡ false → IsKnown s (type_of_call tree s.known c)
call_known tree task s c sound e result args =
    let a = option_or_parts _ _ e in
    let b = option_or_parts _ _ a.1 in
    let d = option_or_parts _ _ b.1 in
    let f = option_or_parts _ _ d.1 in
    let g = option_or_parts _ _ f.1 in
    let named = rule_none (is_unknown_task tree c) rule.Name a.0 in
    let counted = rule_none (miscounts_call tree c) rule.Count b.0 in
    let stand = stand_none s.known (standing_in_call tree c) d.0 in
    let fits = rule_none (misfits_call (params_of tree c.task) c) rule.Spaces f.0 in
    let parted = rule_none (mispartitions_call (params_of tree c.task) c) rule.Partition g.0 in
    let sound_result = sound.results c.task in
    let there : is_none (task_named tree c.task).result ≡ false =
    ap (λ b. b && is_none (task_named tree c.task).result) (sym (not-false _ named)) ∙ result in
    let flawless : is_flawed_call tree s.known c ≡ false =
    λ j. named j || result j || counted j || stand j || fits j || parted j || args j || sound_result j in
    subst (IsKnown s) (sym (unless_false _ (result_type tree (task_named tree c.task).result) flawless))
    (result_known tree s (task_named tree c.task).result sound_result there)
