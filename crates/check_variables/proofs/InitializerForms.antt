-- What a variable is by an initializer in which no rule is breached.
use Rattle.std.proofs.Common.{◌≡◌, subst, inl, inr, Bool, true, false, List, [], ◌∷◌, None, Some, Option, Result, Ok, Err, cond, map, refl, ap, sym, ◌∙◌, ◌||◌, ℕ}
use Rattle.std.specs.Option.{option_or}
use Rattle.std.specs.Prelude.{option_to_list}
use Rattle.regent_tree.specs.Scopes.{Scope, in_scope}
use Rattle.regent_tree.specs.StaticTypes.{looked_up, place_of_space}
use Rattle.regent_tree.specs.Syntax.{Expression, Initializer, TaskTree, Tree, plain_initializer, region_initializer}
use Rattle.regent_tree.specs.Typing.{kind_of_ispace, known_of_child, known_of_initializer, owned, type_of}
use Rattle.regent_tree.specs.declared.facts.Known.{Known}
use Rattle.regent_tree.specs.declared.facts.Known.TheVariants.{Made}
use Rattle.regent_tree.specs.declared.facts.Term.TheVariants as term
use Rattle.regent_tree.specs.declared.types.Kind.TheVariants.{Int1d}
use Rattle.regent_tree.specs.declared.types.SpaceUse.{SpaceUse}
use Rattle.regent_tree.specs.declared.types.TypeTerm.TheVariants as typed
use Rattle.regent_tree.specs.declared.typing.StaticType.{StaticType}
use Rattle.regent_tree.specs.declared.typing.StaticType.TheVariants.{Integer as integer_type, Truth as truth_type, Index as index_type, Pointer as pointer_type, Ispace as ispace_type, Region as region_type, Partition as partition_type, Nothing as no_type, Unknown as unknown_type}
use Rattle.check_rules.specs.rules.Counts.{miscounts_in_type}
use Rattle.check_rules.specs.types.Declarations.{is_flawed_type, names_unknown}
use Rattle.check_rules.specs.types.Params.{type_unless}
use Rattle.check_rules.specs.first.FirstInExpressions.{first_in_expression, first_in_type, first_of_standing}
use Rattle.check_rules.specs.types.KnownTypes.{known_type}
use Rattle.check_rules.specs.rules.Names.{unbound_name_in_type}
use Rattle.check_rules.specs.rules.Partitions.{is_difference, miscolours_in_type}
use Rattle.check_rules.specs.rules.Pointers.{wrong_region_in_type}
use Rattle.check_rules.specs.first.Rules.{first_of, rule_if}
use Rattle.check_rules.specs.types.Sorts.{is_unknown_type}
use Rattle.check_rules.specs.rules.Spaces.{misfits_in_type}
use Rattle.check_rules.specs.rules.Standing.{space_spot, stands}
use Rattle.check_rules.specs.rules.Types.{is_ill_typed_at_place}
use Rattle.check_rules.specs.scopes.Variables.{is_flawed_initializer, known_initializer}
use Rattle.check_rules.specs.declared.rule.Rule.{Rule}
use Rattle.check_rules.specs.declared.rule.Rule.TheVariants as rule
use Rattle.check_rules.proofs.Laws.{types_as_meant}
use Rattle.static_types.specs.Telling.{Tells}
use Rattle.static_types.specs.declared.stop.Stop.{Stop}
use Rattle.check_variables.specs.Beginning.{IsBegun, begun_by, first_in_initializer}
use Rattle.check_variables.specs.declared.initializers.Beginning.{Beginning}
use Rattle.check_variables.proofs.Differences.{operands_none}
use Rattle.plain_values.proofs.Plain.{option_or_none, option_or_parts}

-- ---- what is told

pub tells_as : {A : Type 0} (Found Also : A → Type 0) (result : Result A Stop) (first all : Option Rule) →
    all ≡ first → ((x : A) → first ≡ None → Found x → Also x) →
    Tells Found result first → Tells Also result all
tells_as Found Also (Ok x) first all e also told = (e ∙ told.0, also x told.0 told.1)
tells_as Found Also (Err stop) first all e also told = rw e told

-- ---- types

-- what is given by a type that isn't unknown is given by the type that is meant
by_type : {A : Type 0} (tree : Tree) (s : Scope) (e : Expression) (nothing : A) (give : StaticType → A) →
    cond (is_unknown_type (known_type tree s e)) nothing (give (known_type tree s e))
    ≡ cond (is_unknown_type (known_type tree s e)) nothing (give (type_of tree s e))
by_type {A = A} tree s e nothing give = elim (types_as_meant tree s e) [
  | inl h ↦ ap (λ t. cond (is_unknown_type (known_type tree s e)) nothing (give t)) h
  | inr h ↦ unknown_gives (known_type tree s e) (give (known_type tree s e)) (give (type_of tree s e)) h
]
  where
    unknown_gives : (t : StaticType) (x y : A) → t ≡ unknown_type →
        cond (is_unknown_type t) nothing x ≡ cond (is_unknown_type t) nothing y
    unknown_gives t x y h = rw h refl

-- ---- new regions

sound_type : (a b c d m l : Bool) → first_of (rule_if a rule.Name ∷ rule_if b rule.Count
    ∷ rule_if c rule.Pointer ∷ rule_if d rule.Spaces ∷ rule_if m rule.Partition ∷ []) ≡ None →
    ((a || b) || c || d || l) ≡ l
sound_type true b c d m l e = absurd cc
sound_type false true c d m l e = absurd cc
sound_type false false true d m l e = absurd cc
sound_type false false false true m l e = absurd cc
sound_type false false false false m l e = refl

sound_space : (b : Bool) → option_or (rule_if b rule.Type) None ≡ None → b ≡ false
sound_space true e = absurd cc
sound_space false e = refl

unknown_alone : (u st fl l : Bool) → st ≡ false → fl ≡ l →
    ((u || false) || false || (st || false) || (fl || false) || false || false || false) ≡ (u || l)
unknown_alone true st fl l e f = refl
unknown_alone false st fl true e f = rw (e, f) refl
unknown_alone false st fl false e f = rw (e, f) refl

flawed_region : (tree : Tree) (s : Scope) (e : Expression) (u : SpaceUse) →
    first_in_type tree s.names (typed.Region Int1d u) ≡ None →
    first_of_standing [] (stands (known_type tree s e) space_spot) ≡ None →
    is_flawed_initializer tree s (region_initializer e u)
    ≡ (is_unknown_type (known_type tree s e) || names_unknown s.names (typed.Region Int1d u))
flawed_region tree s e u type space = unknown_alone (is_unknown_type (known_type tree s e))
    (is_ill_typed_at_place s.known (stands (known_type tree s e) space_spot))
    (is_flawed_type tree s.names (typed.Region Int1d u))
    (names_unknown s.names (typed.Region Int1d u))
    (sound_space (is_ill_typed_at_place s.known (stands (known_type tree s e) space_spot)) space)
    (sound_type (unbound_name_in_type tree s.names (typed.Region Int1d u))
    (miscounts_in_type tree (typed.Region Int1d u))
    (wrong_region_in_type tree s.names (typed.Region Int1d u))
    (misfits_in_type tree s.names (typed.Region Int1d u))
    (miscolours_in_type s.names (typed.Region Int1d u))
    (names_unknown s.names (typed.Region Int1d u)) type)

unknown_either : {A : Type 0} (u l : Bool) (nothing x : A) → cond (u || l) nothing x ≡ cond l nothing (cond u nothing x)
unknown_either true true nothing x = refl
unknown_either true false nothing x = refl
unknown_either false true nothing x = refl
unknown_either false false nothing x = refl

-- what is told of a new region, behind the size
pub first_of_region : (tree : Tree) (task : TaskTree) (s : Scope) (e : Expression) (u : SpaceUse) →
    first_in_expression tree task s e ≡ None →
    first_in_initializer tree task s (region_initializer e u)
    ≡ option_or (first_in_type tree s.names (typed.Region Int1d u))
    (first_of_standing [] (stands (known_type tree s e) space_spot))
first_of_region tree task s e u none = rw none (after (first_in_type tree s.names (typed.Region Int1d u))
    (first_of_standing [] (stands (known_type tree s e) space_spot)))
  where
    after : (a b : Option Rule) →
        option_or (option_or (option_or a None) None) (option_or b None) ≡ option_or a b
    after None b = option_or_none b
    after (Some r) b = refl

pub region_begun : (tree : Tree) (s : Scope) (e : Expression) (u : SpaceUse) (b : Beginning) →
    option_or (first_in_type tree s.names (typed.Region Int1d u))
    (first_of_standing [] (stands (known_type tree s e) space_spot)) ≡ None →
    b.static_type ≡ type_unless (is_unknown_type (known_type tree s e) || names_unknown s.names (typed.Region Int1d u))
    (region_type (kind_of_ispace (known_type tree s e)) (place_of_space tree u.name)
    (map (looked_up (in_scope s)) u.args) (term.Name s.next)) →
    option_to_list b.known
    ≡ cond (is_unknown_type (known_type tree s e) || names_unknown s.names (typed.Region Int1d u)) [] (Made s.next ∷ []) →
    IsBegun tree s (region_initializer e u) b
region_begun tree s e u b told type known =
    let parts = option_or_parts (first_in_type tree s.names (typed.Region Int1d u))
    (first_of_standing [] (stands (known_type tree s e) space_spot)) told in
    let flawed = flawed_region tree s e u parts.0 parts.1 in
    let give : StaticType → StaticType = λ t. region_type (kind_of_ispace t)
    (place_of_space tree u.name) (map (looked_up (in_scope s)) u.args) (term.Name s.next) in
    let unknown = is_unknown_type (known_type tree s e) in
    let lost = names_unknown s.names (typed.Region Int1d u) in
    rw flawed (
      type ∙ unknown_either unknown lost unknown_type (give (known_type tree s e))
          ∙ ap (λ t. cond lost unknown_type t) (by_type tree s e unknown_type give)
          ∙ sym (unknown_either unknown lost unknown_type (give (type_of tree s e))),
      known,
    )

-- ---- expressions

owned_alone : (own : ℕ) (t : StaticType) →
    owned own t ≡ cond (is_unknown_type t) unknown_type (owned own t)
owned_alone own (integer_type w) = refl
owned_alone own truth_type = refl
owned_alone own (index_type k) = refl
owned_alone own (pointer_type k s args regions) = refl
owned_alone own (ispace_type k) = refl
owned_alone own (region_type k s args r) = refl
owned_alone own (partition_type d r p) = refl
owned_alone own no_type = refl
owned_alone own unknown_type = refl

child_alone : (own : ℕ) (t : StaticType) →
    known_of_child own t ≡ cond (is_unknown_type t) [] (known_of_child own t)
child_alone own (integer_type w) = refl
child_alone own truth_type = refl
child_alone own (index_type k) = refl
child_alone own (pointer_type k s args regions) = refl
child_alone own (ispace_type k) = refl
child_alone own (region_type k s args r) = refl
child_alone own (partition_type d r p) = refl
child_alone own no_type = refl
child_alone own unknown_type = refl

-- what is told of an expression that isn't the difference of two partitions
pub first_of_plain : (tree : Tree) (task : TaskTree) (s : Scope) (e : Expression) →
    is_difference s.names e ≡ false →
    first_in_initializer tree task s (plain_initializer e) ≡ first_in_expression tree task s e
first_of_plain tree task s e other = rw (other, operands_none s.names e other)
    (option_or_none (option_or (first_in_expression tree task s e) None) ∙ option_or_none (first_in_expression tree task s e))

flawed_plain : (tree : Tree) (s : Scope) (e : Expression) → is_difference s.names e ≡ false →
    is_flawed_initializer tree s (plain_initializer e) ≡ is_unknown_type (known_type tree s e)
flawed_plain tree s e other = rw (other, operands_none s.names e other) (alone (is_unknown_type (known_type tree s e)))
  where
    alone : (u : Bool) →
        ((u || false) || false || false || false || false || false || false) ≡ u
    alone true = refl
    alone false = refl

pub plain_begun : (tree : Tree) (s : Scope) (e : Expression) (b : Beginning) →
    is_difference s.names e ≡ false → b.static_type ≡ owned s.next (known_type tree s e) →
    option_to_list b.known ≡ known_of_child s.next (known_type tree s e) →
    IsBegun tree s (plain_initializer e) b
plain_begun tree s e b other type known = rw (flawed_plain tree s e other) (
  type ∙ owned_alone s.next (known_type tree s e) ∙ by_type tree s e unknown_type (owned s.next),
  known ∙ child_alone s.next (known_type tree s e) ∙ by_type tree s e [] (known_of_child s.next),
)

-- ---- partitions

-- a partition operation tells nothing of regions
pub nothing_either : (flawed : Bool) → [] ≡ cond {A = List Known} flawed [] []
nothing_either true = refl
nothing_either false = refl

pub begun_tells : (tree : Tree) (s : Scope) (i : Initializer) (t : Result StaticType Stop) (r : Result Beginning Stop) (first : Option Rule) →
    r ≡ begun_by t → known_of_initializer tree s s.next (Some i) ≡ [] →
    Tells (λ u. u ≡ known_initializer tree s i) t first → Tells (IsBegun tree s i) r first
begun_tells tree s i (Ok t) r first is nothing told = subst (λ q. Tells (IsBegun tree s i) q first) (sym is) (
  told.0,
  (
    told.1,
    nothing_either (is_flawed_initializer tree s i)
        ∙ ap (λ (ks : List Known). cond (is_flawed_initializer tree s i) [] ks) (sym nothing),
  ),
)
begun_tells tree s i (Err stop) r first is nothing told =
    subst (λ q. Tells (IsBegun tree s i) q first) (sym is) told
