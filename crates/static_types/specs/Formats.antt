-- The text of a `printf`, a byte after the other.
use Rattle.std.specs.Prelude.{List, None, Option, Some, ℕ, ◌+◌}
use Rattle.check_rules.specs.rules.Formats.{after_l, after_percent, after_two_l, numbers_in, one_more}
use Rattle.static_types.specs.declared.formats.Reading.{Reading}
use Rattle.static_types.specs.declared.formats.Reading.TheVariants as reading
use Rattle.static_types.specs.declared.formats.Spot.{Spot}
use Rattle.static_types.specs.declared.formats.Spot.TheVariants.{OneL, Percent, Text, TwoL}

-- how many numbers are printed from a spot on
abbrev pub counted_at : Spot → List ℕ → Option ℕ
counted_at Text cs = numbers_in cs
counted_at Percent cs = after_percent cs
counted_at OneL cs = after_l cs
counted_at TwoL cs = after_two_l cs

-- how many are printed by a byte that was read and what follows it
abbrev pub counted_by : Reading → List ℕ → Option ℕ
counted_by (reading.Leads spot) cs = counted_at spot cs
counted_by reading.Number cs = one_more (numbers_in cs)
counted_by reading.Wrong cs = None

-- so many more
abbrev pub added : ℕ → Option ℕ → Option ℕ
added n None = None
added n (Some m) = Some (n + m)
