-- What stands where in an expression.
use Rattle.std.specs.Prelude.{List, [], flat_map, map, ◌∷◌}
use Rattle.regent_tree.specs.declared.typing.StaticType.{StaticType}
use Rattle.regent_tree.specs.Syntax.{Tree}
use Rattle.regent_tree.specs.Typing.{put_in}
use Rattle.regent_tree.specs.declared.expression.Sign.{Sign}
use Rattle.regent_tree.specs.declared.expression.Sign.TheVariants.{Minus, Not}
use Rattle.check_rules.specs.types.Declarations.{params_of}
use Rattle.check_rules.specs.types.TypedForms.{Calling, Computing, TypedForm, Signing, Taking, typed_access, typed_call, typed_cast, typed_chain, typed_constant, typed_convert, element_of, field_of, typed_is_null, typed_null, typed_prefix, typed_space}

-- What may stand at a place: an integer; a truth; a number, that is an integer, index or pointer; a
-- pointer; any number, truth or pointer; an index space; a region or index space, which a loop goes
-- over; what fits a type; what fits a parameter's type.
pub data Spot : Type 0 where
  integer_spot : Spot
  truth_spot : Spot
  number_spot : Spot
  pointer_spot : Spot
  value_spot : Spot
  space_spot : Spot
  domain_spot : Spot
  typed_spot : StaticType → Spot
  param_spot : StaticType → Spot

-- a type, and the place at which an expression of that type stands
pub record Standing : Type 0 where
  pub type : StaticType
  pub spot : Spot

abbrev pub stands : StaticType → Spot → Standing
stands t spot = record { type = t; spot = spot }

-- arguments at the places of parameters, whose pointer types are read with the arguments
abbrev pub stand_at : List StaticType → List StaticType → List StaticType → List Standing
stand_at types [] ts = []
stand_at types (p ∷ ps) [] = []
stand_at types (p ∷ ps) (t ∷ ts) = stands t (param_spot (put_in types p)) ∷ stand_at types ps ts

abbrev pub standing_in_call : Tree → Calling → List Standing
standing_in_call tree c = stand_at c.args (params_of tree c.task) c.args

abbrev pub spot_of_sign : Sign → Spot
spot_of_sign Not = truth_spot
spot_of_sign Minus = number_spot

abbrev pub standing_in_step : Taking → List Standing
standing_in_step (field_of t f) = []
standing_in_step (element_of t e) = stands e number_spot ∷ []

abbrev pub standing_in_chain : Computing → List Standing
standing_in_chain c = stands c.left value_spot ∷ stands c.right value_spot ∷ []

abbrev pub standing_in : Tree → TypedForm → List Standing
standing_in tree typed_constant = []
standing_in tree (typed_chain cs) = flat_map standing_in_chain cs
standing_in tree (typed_prefix ss) =
    map (λ (s : Signing). stands s.operand (spot_of_sign s.sign)) ss
standing_in tree (typed_call c) = standing_in_call tree c
standing_in tree (typed_access n ts) = flat_map standing_in_step ts
standing_in tree (typed_convert t) = stands t number_spot ∷ []
standing_in tree (typed_is_null t) = stands t pointer_spot ∷ []
standing_in tree (typed_null p) = []
standing_in tree (typed_cast p t) = stands t number_spot ∷ []
standing_in tree (typed_space t) = stands t integer_spot ∷ []
