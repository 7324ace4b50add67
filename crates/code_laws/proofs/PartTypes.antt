-- The type of a part of a partition that has a name, and that of a pointer into it.
use Rattle.std.proofs.Common.{◌≡◌, ℕ, List, [], ◌∷◌, Some, refl, sym, ap, ◌∙◌, subst}
use Rattle.regent_tree.specs.Accesses.{space_in}
use Rattle.regent_tree.specs.Scopes.{bound_as}
use Rattle.regent_tree.specs.StaticTypes.{Reach}
use Rattle.regent_tree.specs.Syntax.{Name, Expression, access_expr, no_step, at_step}
use Rattle.regent_tree.specs.Typing.{child_type, colour_of, parent_of, type_of_element}
use Rattle.regent_tree.specs.declared.facts.Colour.{Colour}
use Rattle.regent_tree.specs.declared.facts.Term.{Term}
use Rattle.regent_tree.specs.declared.facts.Term.TheVariants as term
use Rattle.regent_tree.specs.declared.types.Kind.{Kind}
use Rattle.regent_tree.specs.declared.typing.StaticType.{StaticType}
use Rattle.regent_tree.specs.declared.typing.StaticType.TheVariants.{Integer as integer_type, Truth as truth_type, Index as index_type, Pointer as pointer_type, Ispace as ispace_type, Region as region_type, Partition as partition_type, Nothing as no_type, Unknown as unknown_type}
use Rattle.code_rules.specs.Slots.{Where, bound, typed}
use Rattle.code_laws.specs.Pointers.{IsPointer, a_pointer_type}
use Rattle.code_laws.specs.Simple.{IsRegion}
use Rattle.code_laws.specs.Typed.{IsOwnCut, IsPiece, part_element}

-- ---- the type of a part

-- the region that a part is
pub record IsChild (t parent : StaticType) (u : Term) : Type 0 where
  pub kind : Kind
  pub space : ℕ
  pub args : List Reach
  pub is : t ≡ region_type kind space args u
  pub of_space : space ≡ space_in parent

child_is : (parent : StaticType) (u : Term) → IsRegion (child_type parent u) → IsChild (child_type parent u) parent u
child_is (region_type k sp args r) u region = record { kind = k; space = sp; args = args; is = refl; of_space = refl }
child_is (integer_type w) u region = absurd (elim region [ ])
child_is truth_type u region = absurd (elim region [ ])
child_is (index_type k) u region = absurd (elim region [ ])
child_is (pointer_type k sp args rs) u region = absurd (elim region [ ])
child_is (ispace_type k) u region = absurd (elim region [ ])
child_is (partition_type d r p) u region = absurd (elim region [ ])
child_is no_type u region = absurd (elim region [ ])
child_is unknown_type u region = absurd (elim region [ ])

pub part_is : (w : Where) (n : Name) (e : Expression) → IsOwnCut w n → IsRegion (typed w (access_expr n (at_step e no_step))) →
    IsChild (typed w (access_expr n (at_step e no_step))) (bound_as w.scope.names (parent_of (bound w n).static_type)).static_type
    (term.Child (bound w n).number (colour_of w.scope e))
part_is w n e own region =
    let u = term.Child (bound w n).number (colour_of w.scope e) in
    let parent = (bound_as w.scope.names (parent_of (bound w n).static_type)).static_type in
    let is : typed w (access_expr n (at_step e no_step)) ≡ child_type parent u = ap (λ t. type_of_element w.scope t e) own in
    let c = child_is parent u (subst IsRegion is region) in
    record { kind = c.kind; space = c.space; args = c.args; is = is ∙ c.is; of_space = c.of_space }

-- the type of a pointer into a part of the partition that has a number, with its field space
pub data IsPartPointer : StaticType → ℕ → ℕ → Type 0 where
  a_part_pointer : (k : Kind) (sp : ℕ) (args : List Reach) (own : ℕ) (c : Colour) →
      IsPartPointer (pointer_type k sp args (Some (term.Child own c) ∷ [])) own sp

pub part_pointer : (w : Where) (n : Name) (e i : Expression) → IsPiece w n e →
    IsPartPointer (part_element w n e i) (bound w n).number (space_in (bound_as w.scope.names (parent_of (bound w n).static_type)).static_type)
part_pointer w n e i piece =
    let kind = part_is w n e piece.1 piece.2 in
    let number = (bound w n).number in
    subst (IsPartPointer (part_element w n e i) number) kind.of_space
    (subst (λ rt. IsPartPointer (type_of_element w.scope rt i) number kind.space) (sym kind.is)
    (a_part_pointer kind.kind kind.space kind.args number _))

pub is_pointer_type : (t : StaticType) (own sp : ℕ) → IsPartPointer t own sp → IsPointer t
is_pointer_type _ _ _ (a_part_pointer k sp args own c) = a_pointer_type k sp args (Some (term.Child own c) ∷ []) refl
