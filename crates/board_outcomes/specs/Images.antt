-- What the fields of a root hold.
use Rattle.std.specs.Prelude.{ℤ, List, map}
use Rattle.logical_map.specs.Maps.{Column}

abbrev pub numbers_in : List Column → List (List ℤ)
numbers_in cs = map (λ (c : Column). c.numbers) cs
