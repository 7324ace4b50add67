-- The colour of an access, and what of a scope the type of an element asks for.
use Rattle.std.proofs.Common.{◌≡◌, List, [], ◌∷◌, length, refl, ap}
use Rattle.regent_tree.specs.Plain.{steps_in}
use Rattle.regent_tree.specs.Scopes.{Scope, bound_as, bound_to}
use Rattle.regent_tree.specs.Syntax.{Expression, Name, access_expr, at_step, call_expr, cast_expr, chain_expr, convert_expr, field_step, is_null_expr, no_step, null_expr, number_expr, prefix_expr, space_expr, truth_expr}
use Rattle.regent_tree.specs.Typing.{child_type, colour_named, colour_of, type_of_element}
use Rattle.regent_tree.specs.declared.expression.Step.{Step, Field, At}
use Rattle.regent_tree.specs.declared.facts.Colour.TheVariants.{Unknown}
use Rattle.regent_tree.specs.declared.facts.Term.TheVariants.{Child}
use Rattle.regent_tree.specs.declared.typing.StaticType.{StaticType}
use Rattle.regent_tree.specs.declared.typing.StaticType.TheVariants as type
use Rattle.static_types.specs.Scopes.{scope_naming}

pub colour_with_steps : (s : Scope) (n : Name) (steps : List Step) → (length steps ≡ 0 → ⊥) →
    colour_of s (access_expr n (steps_in steps)) ≡ Unknown
colour_with_steps s n [] h = absurd (h refl)
colour_with_steps s n (Field f ∷ rest) h = refl
colour_with_steps s n (At e ∷ rest) h = refl

pub colour_without : (s : Scope) (n : Name) (steps : List Step) → length steps ≡ 0 →
    colour_of s (access_expr n (steps_in steps)) ≡ colour_named (bound_to s.names n)
colour_without s n [] h = refl
colour_without s n (x ∷ rest) h = absurd cc

colour_by_names : (s : Scope) (e : Expression) → colour_of (scope_naming s.names) e ≡ colour_of s e
colour_by_names s (number_expr z w) = refl
colour_by_names s (truth_expr b) = refl
colour_by_names s (chain_expr e rest) = refl
colour_by_names s (prefix_expr signs e) = refl
colour_by_names s (call_expr n args) = refl
colour_by_names s (access_expr n no_step) = refl
colour_by_names s (access_expr n (field_step f rest)) = refl
colour_by_names s (access_expr n (at_step e rest)) = refl
colour_by_names s (convert_expr n e) = refl
colour_by_names s (is_null_expr e) = refl
colour_by_names s (null_expr p) = refl
colour_by_names s (cast_expr p e) = refl
colour_by_names s (space_expr k e) = refl

pub element_by_names : (s : Scope) (t : StaticType) (e : Expression) →
    type_of_element (scope_naming s.names) t e ≡ type_of_element s t e
element_by_names s (type.Integer w) e = refl
element_by_names s type.Truth e = refl
element_by_names s (type.Index k) e = refl
element_by_names s (type.Pointer k sp args regions) e = refl
element_by_names s (type.Ispace k) e = refl
element_by_names s (type.Region k sp args r) e = refl
element_by_names s (type.Partition d r p) e =
    ap (λ c. child_type (bound_as s.names r).static_type (Child p c)) (colour_by_names s e)
element_by_names s type.Nothing e = refl
element_by_names s type.Unknown e = refl
