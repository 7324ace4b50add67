-- The operations on two sets.
use Rattle.std.specs.Prelude.{ℕ, List}
use Rattle.plain_values.specs.Points.{union_of, meet_of, minus_of}
use Rattle.partitions.specs.declared.pairwise.Operation.{Operation}
use Rattle.partitions.specs.declared.pairwise.Operation.TheVariants.{Both, Either, Without}

abbrev pub made_by : Operation → List ℕ → List ℕ → List ℕ
made_by Both xs ys = meet_of xs ys
made_by Either xs ys = union_of xs ys
made_by Without xs ys = minus_of xs ys
