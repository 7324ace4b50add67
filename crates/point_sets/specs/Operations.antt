-- The operations that make a set of two.
use Rattle.std.specs.Prelude.{ℕ, Bool, not, ◌&&◌, ◌||◌, List}
use Rattle.plain_values.specs.Points.{union_of, meet_of, minus_of}
use Rattle.point_sets.specs.declared.operation.Operation.{Operation}
use Rattle.point_sets.specs.declared.operation.Operation.TheVariants.{Union, Meet, Minus}

-- whether an operation keeps a point that is or isn't in each of the sets
abbrev pub kept : Operation → Bool → Bool → Bool
kept Union in_left in_right = in_left || in_right
kept Meet in_left in_right = in_left && in_right
kept Minus in_left in_right = in_left && not in_right

-- what an operation makes of two sets
abbrev pub combined_of : Operation → List ℕ → List ℕ → List ℕ
combined_of Union xs ys = union_of xs ys
combined_of Meet xs ys = meet_of xs ys
combined_of Minus xs ys = minus_of xs ys
