-- The dump of a run that finished: the contents of the roots that its entry task made.
use Rattle.std.specs.Prelude.{◌==◌, ◌&&◌, ◌+◌, ℕ, ℤ, pos, List, [], ◌∷◌, ◌++◌, Bool, true, false, not, codes, get_or, length, nat_lt}
use Rattle.std.specs.Fmt.{decimal, signed_decimal}
use Rattle.std.specs.List.{list_all}
use Rattle.std.specs.Ordering.{int_eq}
use Rattle.lane_kernels.specs.declared.numbers.FieldKind.{FieldKind}
use Rattle.lane_kernels.specs.declared.numbers.FieldKind.TheVariants.{Index, Int32, Int64, Pointer, Truth}
use Rattle.regent_tree.specs.declared.outcome.Ending.{Ending}
use Rattle.regent_tree.specs.declared.outcome.Ending.TheVariants.{Broken, Faulted, Finished}
use Rattle.regent_tree.specs.declared.outcome.Outcome.{Outcome}
use Rattle.regent_tree.specs.declared.outcome.RootImage.{RootImage}
use Rattle.regent_tree.specs.Values.{Target, null_target, point_target, target_kept}
use Rattle.task_code.specs.declared.code.Code.{Code}
use Rattle.task_code.specs.declared.code.FieldCode.{FieldCode}
use Rattle.task_code.specs.declared.code.SpaceCode.{SpaceCode}

-- ---- values

abbrev pub truth_text : Bool → List ℕ
truth_text true = codes "true"
truth_text false = codes "false"

-- null, or POINT@POSITION
abbrev pub target_text : Target → List ℕ
target_text null_target = codes "null"
target_text (point_target n i) = decimal n ++ codes "@" ++ decimal i

-- the meaning of a kept number in a field of a kind
abbrev pub value_text : FieldKind → ℤ → List ℕ
value_text Int32 z = signed_decimal z
value_text Int64 z = signed_decimal z
value_text Index z = signed_decimal z
value_text Truth z = truth_text (not (int_eq z (pos 0)))
value_text Pointer z = target_text (target_kept z)

-- for each point in ascending order a blank (32) and the value
abbrev pub values_text : FieldKind → List ℤ → List ℕ
values_text kind [] = []
values_text kind (z ∷ zs) = 32 ∷ value_text kind z ++ values_text kind zs

-- ---- lines, each with a line feed (10)

-- a field's name and its values
abbrev pub field_line : FieldCode → List ℤ → List ℕ
field_line field numbers = field.name ++ values_text field.kind numbers ++ 10 ∷ []

-- a line for each field, in the order in which they are declared
abbrev pub field_lines : List FieldCode → List (List ℤ) → List ℕ
field_lines [] columns = []
field_lines (field ∷ fields) [] = []
field_lines (field ∷ fields) (numbers ∷ columns) =
    field_line field numbers ++ field_lines fields columns

-- `region K SPACE COUNT`: the root's place from 0, the name of its field space, the number of its
-- points
abbrev pub region_line : ℕ → List ℕ → ℕ → List ℕ
region_line place name count =
    codes "region " ++ decimal place ++ 32 ∷ name ++ 32 ∷ decimal count ++ 10 ∷ []

abbrev pub no_space : SpaceCode
no_space = record { name = []; fields = [] }

abbrev pub space_of : List SpaceCode → RootImage → SpaceCode
space_of spaces root = get_or spaces root.space no_space

abbrev pub root_lines : List SpaceCode → ℕ → RootImage → List ℕ
root_lines spaces place root =
    region_line place (space_of spaces root).name root.count
    ++ field_lines (space_of spaces root).fields root.fields

-- the roots in the order in which they were made, from a place on
abbrev pub roots_from : ℕ → List SpaceCode → List RootImage → List ℕ
roots_from place spaces [] = []
roots_from place spaces (root ∷ roots) =
    root_lines spaces place root ++ roots_from (place + 1) spaces roots

-- ---- the whole

-- a run that didn't finish leaves no roots
abbrev pub roots_of : Ending → List RootImage
roots_of (Finished roots) = roots
roots_of (Faulted fault) = []
roots_of Broken = []

abbrev pub dump_text : Code → Outcome → List ℕ
dump_text code outcome = roots_from 0 code.spaces (roots_of outcome.ending)

-- ---- outcomes that fit the field spaces of code

-- a number for each point
abbrev pub has_points : ℕ → List (List ℤ) → Bool
has_points count columns = list_all (λ numbers. length numbers == count) columns

-- a root is of one of the field spaces, and has for each of its fields a number for each point
abbrev pub is_of_space : List SpaceCode → RootImage → Bool
is_of_space spaces root = nat_lt root.space (length spaces)
    && (length root.fields == length (space_of spaces root).fields
    && has_points root.count root.fields)

abbrev pub fits_spaces : Code → Outcome → Bool
fits_spaces code outcome = list_all (is_of_space code.spaces) (roots_of outcome.ending)
