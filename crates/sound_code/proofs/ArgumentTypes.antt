-- The types of arguments that are names or parts of partitions, and the terms that these types have.
use Rattle.std.proofs.Common.{◌≡◌, inl, inr, ℕ, zero, suc, List, [], ◌∷◌, Some, true, false, refl, sym, ap, ◌∙◌}
use Rattle.std.proofs.lemmas.Bool.{eqb-true, false≢true, not-false}
use Rattle.std.proofs.lemmas.Option.{none-some}
use Rattle.regent_tree.specs.Facts.{are_disjoint, is_subregion}
use Rattle.regent_tree.specs.Scopes.{bound_as}
use Rattle.regent_tree.specs.Syntax.{access_expr, an_expr, at_step, Expression, Expressions, Name, no_expr, no_step}
use Rattle.regent_tree.specs.Typing.{child_type, colour_of, parent_of, type_of_element}
use Rattle.regent_tree.proofs.Members.{Has}
use Rattle.check_rules.specs.rules.Constraints.{are_not_apart, is_not_within}
use Rattle.check_rules.specs.rules.Partitions.{is_parent}
use Rattle.check_rules.specs.types.Sorts.{type_at}
use Rattle.regent_tree.specs.declared.facts.Known.{Known}
use Rattle.regent_tree.specs.declared.facts.Term.{Term}
use Rattle.regent_tree.specs.declared.typing.StaticType.{StaticType}
use Rattle.regent_tree.specs.declared.typing.StaticType.TheVariants.{Integer as integer_type, Truth as truth_type, Index as index_type, Pointer as pointer_type, Ispace as ispace_type, Region as region_type, Partition as partition_type, Nothing as no_type, Unknown as unknown_type}
use Rattle.code_rules.specs.Slots.{bound, typed, Where}
use Rattle.code_laws.specs.Simple.{a_partition_type, a_region_type, IsPartition, IsRegion, term_in}
use Rattle.code_laws.specs.Arguments.{name_at, part_at}
use Rattle.code_laws.proofs.Arguments.{named_typed, part_is}
use Rattle.sound_code.proofs.Scoped.{IsScoped}
use Rattle.regent_tree.specs.declared.facts.Term.TheVariants as term

-- the type of an argument
abbrev pub ArgumentIs : Where → Expressions → ℕ → StaticType → Type 0
ArgumentIs w no_expr k u = ⊥
ArgumentIs w (an_expr e es) zero u = typed w e ≡ u
ArgumentIs w (an_expr e es) (suc k) u = ArgumentIs w es k u

pub name_is : (w : Where) (es : Expressions) (k : ℕ) (n : Name) → name_at es k ≡ Some n → ArgumentIs w es k (bound w n).static_type
name_is w no_expr k n h = absurd (none-some n h)
name_is w (an_expr e es) zero n h = named_typed w e n h
name_is w (an_expr e es) (suc k) n h = name_is w es k n h

pub part_is_at : (w : Where) (es : Expressions) (k : ℕ) (q : Name × Expression) → part_at es k ≡ Some q →
    ArgumentIs w es k (typed w (access_expr q.0 (at_step q.1 no_step)))
part_is_at w no_expr k q h = absurd (none-some q h)
part_is_at w (an_expr e es) zero q h = ap (typed w) (part_is e q h)
part_is_at w (an_expr e es) (suc k) q h = part_is_at w es k q h

-- the term of a part: its partition's number and its colour
pub child_named : (v : StaticType) (r : Term) → IsRegion (child_type v r) → term_in (child_type v r) ≡ r
child_named (region_type k sp args q) r h = refl
child_named (integer_type w) r h = elim h [ ]
child_named truth_type r h = elim h [ ]
child_named (index_type k) r h = elim h [ ]
child_named (pointer_type k sp args rs) r h = elim h [ ]
child_named (ispace_type k) r h = elim h [ ]
child_named (partition_type d q p) r h = elim h [ ]
child_named no_type r h = elim h [ ]
child_named unknown_type r h = elim h [ ]

pub element_term : (w : Where) (u : StaticType) (number : ℕ) (e : Expression) → IsPartition u → IsScoped w.scope.names number u →
    IsRegion (type_of_element w.scope u e) → term_in (type_of_element w.scope u e) ≡ term.Child number (colour_of w.scope e)
element_term w _ number e (a_partition_type d r p) own is =
    child_named (bound_as w.scope.names r).static_type (term.Child p (colour_of w.scope e)) is ∙ ap (λ n. term.Child n (colour_of w.scope e)) own

pub part_term : (w : Where) (n : Name) (e : Expression) → IsPartition (bound w n).static_type → IsScoped w.scope.names (bound w n).number (bound w n).static_type →
    IsRegion (typed w (access_expr n (at_step e no_step))) → term_in (typed w (access_expr n (at_step e no_step))) ≡ term.Child (bound w n).number (colour_of w.scope e)
part_term w n e is own region = element_term w (bound w n).static_type (bound w n).number e is own region

-- the region of which the partition of a part is
child_region : (v : StaticType) (r : Term) → IsRegion (child_type v r) → IsRegion v
child_region (region_type k sp args q) r h = a_region_type k sp args q
child_region (integer_type w) r h = elim h [ ]
child_region truth_type r h = elim h [ ]
child_region (index_type k) r h = elim h [ ]
child_region (pointer_type k sp args rs) r h = elim h [ ]
child_region (ispace_type k) r h = elim h [ ]
child_region (partition_type d q p) r h = elim h [ ]
child_region no_type r h = elim h [ ]
child_region unknown_type r h = elim h [ ]

element_parent : (w : Where) (u : StaticType) (e : Expression) → IsPartition u → IsRegion (type_of_element w.scope u e) →
    IsRegion (bound_as w.scope.names (parent_of u)).static_type
element_parent w _ e (a_partition_type d r p) h = child_region (bound_as w.scope.names r).static_type (term.Child p (colour_of w.scope e)) h

pub part_parent : (w : Where) (n : Name) (e : Expression) → IsPartition (bound w n).static_type → IsRegion (typed w (access_expr n (at_step e no_step))) →
    IsRegion (bound_as w.scope.names (parent_of (bound w n).static_type)).static_type
part_parent w n e is h = element_parent w (bound w n).static_type e is h

-- a partition's type at a place is one of the types
pub type_has : (ts : List StaticType) (k : ℕ) → IsPartition (type_at ts k) → Has ts (type_at ts k)
type_has [] zero h = elim h [ ]
type_has [] (suc k) h = elim h [ ]
type_has (t ∷ ts) zero h = inl refl
type_has (t ∷ ts) (suc k) h = inr (type_has ts k h)

-- the region of which a partition is has a name
pub parent_is : (i : ℕ) (u : StaticType) → IsRegion u → is_parent i u ≡ true → term_in u ≡ term.Name i
parent_is i _ (a_region_type k sp args (term.Name j)) e = ap term.Name (sym (eqb-true i j e))
parent_is i _ (a_region_type k sp args (term.Child p c)) e = absurd (false≢true e)

-- of two regions, where nothing is told
pub lies_within : (known : List Known) (t u : StaticType) → IsRegion t → IsRegion u → is_not_within known t u ≡ false →
    is_subregion known (term_in t) (term_in u) ≡ true
lies_within known _ _ (a_region_type k sp args r) (a_region_type l sq brgs q) e = not-false (is_subregion known r q) e

pub lies_apart : (known : List Known) (t u : StaticType) → IsRegion t → IsRegion u → are_not_apart known t u ≡ false →
    are_disjoint known (term_in t) (term_in u) ≡ true
lies_apart known _ _ (a_region_type k sp args r) (a_region_type l sq brgs q) e = not-false (are_disjoint known r q) e
