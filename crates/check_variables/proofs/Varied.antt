-- What is told of a `var`, and the type by which it is bound where nothing is told of it.
use Rattle.std.proofs.Common.{Bool, List, None, Option, [], ◌&&◌, ◌++◌, ◌∷◌, ◌||◌, ◌≡◌, ap, false, refl, subst, sym, true, ◌∙◌}
use Rattle.std.specs.Prelude.{Some}
use Rattle.std.specs.List.{list_any}
use Rattle.std.specs.Option.{option_or}
use Rattle.std.proofs.lemmas.List.{append-nil}
use Rattle.std.proofs.Math.Bool.{or-false}
use Rattle.regent_tree.specs.Scopes.{Scope, in_scope}
use Rattle.regent_tree.specs.StaticTypes.{type_said}
use Rattle.regent_tree.specs.declared.types.TypeTerm.{TypeTerm}
use Rattle.regent_tree.specs.Syntax.{Name, Initializer, TaskTree, Tree, var_form}
use Rattle.regent_tree.specs.declared.typing.StaticType.{StaticType}
use Rattle.regent_tree.specs.declared.typing.StaticType.TheVariants.{Integer as integer_type, Truth as truth_type, Index as index_type, Pointer as pointer_type, Ispace as ispace_type, Region as region_type, Partition as partition_type, Nothing as no_type, Unknown as unknown_type}
use Rattle.check_rules.specs.rules.Counts.{miscounts_in_type}
use Rattle.check_rules.specs.types.Declarations.{names_unknown}
use Rattle.check_rules.specs.types.Params.{type_unless}
use Rattle.check_rules.specs.first.FirstInExpressions.{first_in_expression, first_in_type, first_of_standing}
use Rattle.check_rules.specs.first.FirstInStatements.{first_of_form, first_of_initializer}
use Rattle.check_rules.specs.rules.Names.{unbound_name_in_type}
use Rattle.check_rules.specs.rules.Places.{has_wrong_initializer, misplaces}
use Rattle.check_rules.specs.rules.Pointers.{wrong_region_in_type}
use Rattle.check_rules.specs.first.Rules.{first_in, rule_if}
use Rattle.check_rules.specs.rules.Spaces.{misfits_in_type}
use Rattle.check_rules.specs.rules.Standing.{Standing, stands, typed_spot}
use Rattle.check_rules.specs.rules.Types.{is_ill_typed_at_place}
use Rattle.check_rules.specs.declared.rule.Rule.{Rule}
use Rattle.check_rules.specs.declared.rule.Rule.TheVariants as rule
use Rattle.static_types.specs.Telling.{IsTold}
use Rattle.static_types.specs.declared.stop.Stop.{Stop}
use Rattle.check_variables.specs.Beginning.{first_in_initializer}
use Rattle.check_variables.specs.Variables.{first_of_begun, first_by_both, first_by_type, first_by_initializer, first_of_var}
use Rattle.check_rules.specs.rules.Partitions.{miscolours_in_type}
use Rattle.check_rules.specs.types.Sorts.{is_collection, is_unknown_type}
use Rattle.check_rules.specs.scopes.Variables.{bound_type, declared_type, expressions_in_initializer, known_initializer, standing_in_initializer}
use Rattle.plain_values.proofs.Plain.{option_or_none}
use Rattle.check_rules.proofs.Untold.{rule_none}

-- ---- declared types

unflawed : (a b c d e l : Bool) (q r t u v : Rule) →
    option_or (rule_if a q) (option_or (rule_if b r) (option_or (rule_if c t) (option_or (rule_if d u) (option_or (rule_if e v) None)))) ≡ None →
    (a || b || c || d || l) ≡ l
unflawed true b c d e l q r t u v h = absurd cc
unflawed false true c d e l q r t u v h = absurd cc
unflawed false false true d e l q r t u v h = absurd cc
unflawed false false false true e l q r t u v h = absurd cc
unflawed false false false false e l q r t u v h = refl

-- a type of which nothing is told is what it says, unless it names what is unknown
pub said_soundly : (tree : Tree) (s : Scope) (t : TypeTerm) → first_in_type tree s.names t ≡ None →
    type_unless (names_unknown s.names t) (type_said tree (in_scope s) s.next t) ≡ declared_type tree s t
said_soundly tree s t none =
    ap (λ b. type_unless b (type_said tree (in_scope s) s.next t))
    (sym (unflawed (unbound_name_in_type tree s.names t) (miscounts_in_type tree t) (wrong_region_in_type tree s.names t)
    (misfits_in_type tree s.names t) (miscolours_in_type s.names t) (names_unknown s.names t) rule.Name rule.Count rule.Pointer rule.Spaces rule.Partition none))

-- ---- what is told of a `var`

-- of what is told in order: a type, expressions, an initializer, what stands there, how it begins
one_by_one : (h fs st m : Option Rule) →
    option_or h (option_or (option_or fs None) (option_or st (option_or m None)))
    ≡ option_or (option_or h (option_or fs st)) (option_or m None)
one_by_one None None st m = refl
one_by_one None (Some x) st m = refl
one_by_one (Some x) fs st m = refl

entry_first : (tree : Tree) (task : TaskTree) (s : Scope) (n : Name) (i : Initializer) →
    first_of_form tree task s (var_form n None (Some i)) ≡ first_by_initializer tree task s i
entry_first tree task s n i =
    let t = known_initializer tree s i in
    let heads = first_in (first_in_expression tree task s) (expressions_in_initializer s.names i) in
    let initializer = first_of_initializer tree task s i in
    let stand = first_in (first_of_standing s.known) (standing_in_initializer tree s i) in
    ap (λ ss. option_or heads (option_or (option_or initializer None) (option_or (first_in (first_of_standing s.known) ss)
    (option_or (rule_if (has_wrong_initializer s.names t t i || false) rule.Place) None)))) (append-nil (standing_in_initializer tree s i))
    ∙ ap (λ b. option_or heads (option_or (option_or initializer None) (option_or stand (option_or (rule_if b rule.Place) None))))
    (or-false (has_wrong_initializer s.names t t i))
    ∙ one_by_one heads initializer stand (rule_if (has_wrong_initializer s.names t t i) rule.Place)

declared_first : (tree : Tree) (task : TaskTree) (s : Scope) (n : Name) (t : TypeTerm) →
    first_of_form tree task s (var_form n (Some t) None) ≡ first_by_type tree task s t
declared_first tree task s n t =
    ap (λ o. option_or o (option_or (rule_if (is_collection (declared_type tree s t) || false) rule.Place) None))
    (option_or_none (first_in_type tree s.names t))
    ∙ ap (λ b. option_or (first_in_type tree s.names t) (option_or (rule_if b rule.Place) None))
    (or-false (is_collection (declared_type tree s t)))

first_in_append : (f : Standing → Option Rule) (xs ys : List Standing) →
    first_in f (xs ++ ys) ≡ option_or (first_in f xs) (first_in f ys)
first_in_append f [] ys = refl
first_in_append f (x ∷ xs) ys = ap (option_or (f x)) (first_in_append f xs ys) ∙ grouped (f x) (first_in f xs) (first_in f ys)
  where
    grouped : (a b c : Option Rule) → option_or a (option_or b c) ≡ option_or (option_or a b) c
    grouped None b c = refl
    grouped (Some x) b c = refl

all_by_one : (d h fs st w m : Option Rule) →
    option_or (option_or d None) (option_or h (option_or (option_or fs None) (option_or (option_or st (option_or w None)) (option_or m None))))
    ≡ option_or d (option_or (option_or h (option_or fs st)) (option_or (option_or w (option_or m None)) None))
all_by_one None None None None None None = refl
all_by_one None None None None None (Some x) = refl
all_by_one None None None None (Some x) m = refl
all_by_one None None None (Some x) w m = refl
all_by_one None None (Some x) st w m = refl
all_by_one None (Some x) fs st w m = refl
all_by_one (Some x) h fs st w m = refl

both_first : (tree : Tree) (task : TaskTree) (s : Scope) (n : Name) (t : TypeTerm) (i : Initializer) →
    first_of_form tree task s (var_form n (Some t) (Some i)) ≡ first_by_both tree task s t i
both_first tree task s n t i =
    let wanted = declared_type tree s t in
    let known = known_initializer tree s i in
    let declared = first_in_type tree s.names t in
    let heads = first_in (first_in_expression tree task s) (expressions_in_initializer s.names i) in
    let initializer = first_of_initializer tree task s i in
    let stand = first_in (first_of_standing s.known) (standing_in_initializer tree s i) in
    let fits = first_of_standing s.known (stands known (typed_spot wanted)) in
    ap (λ o. option_or (option_or declared None) (option_or heads (option_or (option_or initializer None) (option_or o
    (option_or (rule_if (has_wrong_initializer s.names wanted known i || false) rule.Place) None)))))
    (first_in_append (first_of_standing s.known) (standing_in_initializer tree s i) (stands known (typed_spot wanted) ∷ []))
    ∙ ap (λ b. option_or (option_or declared None) (option_or heads (option_or (option_or initializer None)
    (option_or (option_or stand (option_or fits None)) (option_or (rule_if b rule.Place) None)))))
    (or-false (has_wrong_initializer s.names wanted known i))
    ∙ all_by_one declared heads initializer stand fits (rule_if (has_wrong_initializer s.names wanted known i) rule.Place)

pub var_first : (tree : Tree) (task : TaskTree) (s : Scope) (n : Name) (t : Option TypeTerm) (i : Option Initializer) →
    first_of_form tree task s (var_form n t i) ≡ first_of_var tree task s t i
var_first tree task s n None None = refl
var_first tree task s n None (Some i) = entry_first tree task s n i
var_first tree task s n (Some t) None = declared_first tree task s n t
var_first tree task s n (Some t) (Some i) = both_first tree task s n t i

-- ---- a `var` of which nothing is told

-- with an initializer alone
pub by_initializer_none : (tree : Tree) (task : TaskTree) (s : Scope) (i : Initializer) (t : StaticType) →
    first_in_initializer tree task s i ≡ None → t ≡ known_initializer tree s i → rule_if (has_wrong_initializer s.names t t i) rule.Place ≡ None →
    first_by_initializer tree task s i ≡ None
by_initializer_none tree task s i t entry_name begun right =
    (λ j. option_or (entry_name j) (option_or (rule_if (has_wrong_initializer s.names (sym begun j) (sym begun j) i) rule.Place) None))
    ∙ ap (λ r. option_or r None) right

pub by_initializer_bound : (tree : Tree) (s : Scope) (i : Initializer) (t : StaticType) → t ≡ known_initializer tree s i →
    rule_if (has_wrong_initializer s.names t t i) rule.Place ≡ None → t ≡ bound_type tree s None (Some i)
by_initializer_bound tree s i t begun right =
    told t (has_wrong_initializer s.names t t i) (rule_none (has_wrong_initializer s.names t t i) rule.Place right)
    ∙ (λ j. type_unless (is_collection (begun j) && (is_unknown_type (begun j) || false || has_wrong_initializer s.names (begun j) (begun j) i)) (begun j))
  where
    told : (t : StaticType) (m : Bool) → m ≡ false → t ≡ type_unless (is_collection t && (is_unknown_type t || false || m)) t
    told (region_type k s args r) m e = λ j. type_unless (sym e j) (region_type k s args r)
    told (partition_type d r p) m e = λ j. type_unless (sym e j) (partition_type d r p)
    told (integer_type w) m e = refl
    told truth_type m e = refl
    told (index_type k) m e = refl
    told (pointer_type k s args regions) m e = refl
    told (ispace_type k) m e = λ j. type_unless (sym e j) (ispace_type k)
    told no_type m e = refl
    told unknown_type m e = refl

-- with a declared type alone
pub by_type_none : (tree : Tree) (task : TaskTree) (s : Scope) (t : TypeTerm) (d : StaticType) →
    first_in_type tree s.names t ≡ None → d ≡ declared_type tree s t → rule_if (is_collection d) rule.Place ≡ None →
    first_by_type tree task s t ≡ None
by_type_none tree task s t d typed declared right =
    (λ j. option_or (typed j) (option_or (rule_if (is_collection (sym declared j)) rule.Place) None))
    ∙ ap (λ r. option_or r None) right

pub by_type_bound : (tree : Tree) (s : Scope) (t : TypeTerm) (d : StaticType) → d ≡ declared_type tree s t →
    rule_if (is_collection d) rule.Place ≡ None → d ≡ bound_type tree s (Some t) None
by_type_bound tree s t d declared right =
    (λ j. type_unless (sym (rule_none (is_collection d) rule.Place right) j && true) d)
    ∙ (λ j. type_unless (is_collection (declared j) && true) (declared j))

-- with both
leads : (misplaced ill_typed misbegun collection unknown : Bool) →
    option_or (option_or (rule_if misplaced rule.Place) (option_or (rule_if ill_typed rule.Type) None))
    (option_or (rule_if misbegun rule.Place) None) ≡ None →
    (collection && unknown) ≡ (collection && (unknown || (ill_typed || false) || misbegun))
leads true ms mb r u e = absurd cc
leads false true mb r u e = absurd cc
leads false false true r u e = absurd cc
leads false false false r u e = ap (λ b. r && b) (sym (or-false u) ∙ sym (or-false (u || false)))

pub by_both_bound : (tree : Tree) (s : Scope) (t : TypeTerm) (i : Initializer) (declared begun : StaticType) →
    declared ≡ declared_type tree s t → begun ≡ known_initializer tree s i → first_of_begun s declared begun i ≡ None →
    type_unless (is_collection declared && is_unknown_type begun) declared ≡ bound_type tree s (Some t) (Some i)
by_both_bound tree s t i declared begun d b none =
    let stands_there : StaticType → StaticType → Standing = λ u w. stands u (typed_spot w) in
    ap (λ x. type_unless x declared) (leads (misplaces (stands_there begun declared)) (is_ill_typed_at_place s.known (stands_there begun declared))
    (has_wrong_initializer s.names declared begun i) (is_collection declared) (is_unknown_type begun) none)
    ∙ (λ j. type_unless (is_collection (d j) && (is_unknown_type (b j) || list_any (is_ill_typed_at_place s.known) (stands_there (b j) (d j) ∷ [])
    || has_wrong_initializer s.names (d j) (b j) i)) (d j))

both_parts : (tree : Tree) (task : TaskTree) (s : Scope) (t : TypeTerm) (i : Initializer) (declared begun : StaticType) →
    declared ≡ declared_type tree s t → begun ≡ known_initializer tree s i →
    first_in_type tree s.names t ≡ None → first_in_initializer tree task s i ≡ None →
    first_of_begun s declared begun i ≡ first_by_both tree task s t i
both_parts tree task s t i declared begun d b typed entry_name =
    sym (option_or_none (first_of_begun s declared begun i))
    ∙ (λ j. option_or (sym typed j) (option_or (sym entry_name j) (option_or (first_of_begun s (d j) (b j) i) None)))

pub both_stop : (tree : Tree) (task : TaskTree) (s : Scope) (t : TypeTerm) (i : Initializer) (declared begun : StaticType) (stop : Stop) →
    declared ≡ declared_type tree s t → begun ≡ known_initializer tree s i →
    first_in_type tree s.names t ≡ None → first_in_initializer tree task s i ≡ None →
    IsTold stop (first_of_begun s declared begun i) → IsTold stop (first_by_both tree task s t i)
both_stop tree task s t i declared begun stop d b typed entry_name told =
    subst (IsTold stop) (both_parts tree task s t i declared begun d b typed entry_name) told

pub both_none : (tree : Tree) (task : TaskTree) (s : Scope) (t : TypeTerm) (i : Initializer) (declared begun : StaticType) →
    declared ≡ declared_type tree s t → begun ≡ known_initializer tree s i →
    first_in_type tree s.names t ≡ None → first_in_initializer tree task s i ≡ None →
    first_of_begun s declared begun i ≡ None → first_by_both tree task s t i ≡ None
both_none tree task s t i declared begun d b typed entry_name none =
    sym (both_parts tree task s t i declared begun d b typed entry_name) ∙ none
