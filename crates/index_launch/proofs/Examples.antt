-- What the definitions say of a few loops and launches, by computing.
use Rattle.std.proofs.Common.{◌≡◌, ◌∷◌, [], List, false, pos, refl, true, ℕ}
use Rattle.lane_kernels.specs.declared.numbers.Mode.{Mode}
use Rattle.lane_kernels.specs.declared.numbers.Mode.TheVariants.{Read, Reduce, Write}
use Rattle.lane_kernels.specs.declared.numbers.Op.TheVariants.{Least, Sum}
use Rattle.index_launch.specs.Points.{calls_of}
use Rattle.index_launch.specs.Shapes.{reasons, shape}
use Rattle.index_launch.specs.declared.points.LaunchArg.TheVariants as launch
use Rattle.index_launch.specs.declared.points.PointArg.TheVariants as point
use Rattle.index_launch.specs.declared.view.ArgKind.{ArgKind}
use Rattle.index_launch.specs.declared.view.ArgKind.TheVariants.{Child, Fixed, Other, Point}
use Rattle.index_launch.specs.declared.view.ArgView.{ArgView}
use Rattle.index_launch.specs.declared.view.LaunchShape.TheVariants.{Launch, Plain}
use Rattle.index_launch.specs.declared.view.LoopView.{LoopView}
use Rattle.index_launch.specs.declared.view.Reason.TheVariants.{Argument, Interferes, NotOneCall, NotOverSpace}

-- an argument of space 0, and a loop over a space with one call
abbrev arg : ArgKind → List (ℕ × Mode) → ArgView
arg kind uses = record { kind = kind; space = 0; uses = uses }

abbrev loop : List ArgView → List (ℕ × ℕ) → LoopView
loop args apart = record { over_space = true; one_call = true; args = args; apart = apart }

abbrev writes : List (ℕ × Mode)
writes = (0, Write) ∷ []

-- a child of a partition that isn't disjoint meets itself at another colour, one of a disjoint one doesn't
aliased_child : shape (loop (arg (Child 1 false) writes ∷ []) []) ≡ Plain (Interferes 0 0)
aliased_child = refl

disjoint_child : shape (loop (arg (Child 1 true) writes ∷ []) []) ≡ Launch
disjoint_child = refl

-- the loop's own reasons come first, whatever its arguments
more_than_a_call : shape (record { over_space = true; one_call = false; args = arg Other writes ∷ []; apart = [] }) ≡ Plain NotOneCall
more_than_a_call = refl

over_numbers : shape (record { over_space = false; one_call = false; args = []; apart = [] }) ≡ Plain NotOverSpace
over_numbers = refl

-- a form comes before pairs, and all that speaks against a loop is listed in order
all_reasons : reasons (loop (arg (Child 1 false) writes ∷ arg Other [] ∷ arg Fixed writes ∷ []) [])
    ≡ Argument 1 ∷ Interferes 0 0 ∷ Interferes 0 2 ∷ Interferes 2 2 ∷ []
all_reasons = refl

-- the pair of two partitions is apart, in either order; each is disjoint for itself
two_partitions : shape (loop (arg (Child 1 true) writes ∷ arg (Child 2 true) writes ∷ []) ((1, 0) ∷ [])) ≡ Launch
two_partitions = refl

unknown_partitions : shape (loop (arg (Child 1 true) writes ∷ arg (Child 2 true) writes ∷ []) []) ≡ Plain (Interferes 0 1)
unknown_partitions = refl

-- reading, and reducing with one operator, don't interfere; two operators do, and other fields don't
readers : shape (loop (arg Fixed ((0, Read) ∷ []) ∷ arg (Child 1 false) ((0, Read) ∷ (1, Reduce Sum) ∷ []) ∷ []) []) ≡ Launch
readers = refl

two_operators : shape (loop (arg Fixed ((0, Reduce Sum) ∷ []) ∷ arg Point [] ∷ arg Fixed ((0, Reduce Least) ∷ []) ∷ []) []) ≡ Plain (Interferes 0 2)
two_operators = refl

other_fields : shape (loop (arg (Child 1 true) writes ∷ arg (Child 2 true) ((1, Write) ∷ []) ∷ []) []) ≡ Launch
other_fields = refl

-- two calls, of a child and of what is kept; none at no colour
two_calls : calls_of 2 (launch.Child 0 ∷ launch.Keep 2 ∷ [])
    ≡ (point.Child 0 0 ∷ point.Keep 2 ∷ []) ∷ (point.Child 0 1 ∷ point.Keep 2 ∷ []) ∷ []
two_calls = refl

numbers : calls_of 2 (launch.Point ∷ launch.Number (pos 7) ∷ [])
    ≡ (point.Number (pos 0) ∷ point.Number (pos 7) ∷ []) ∷ (point.Number (pos 1) ∷ point.Number (pos 7) ∷ []) ∷ []
numbers = refl

no_calls : calls_of 0 (launch.Point ∷ []) ≡ []
no_calls = refl
