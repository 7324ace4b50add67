-- The worked rows, computed.
use Rattle.std.proofs.Common.{refl}
use Rattle.region_walk.specs.Rows.{WalkRows}

pub walk_rows : WalkRows
walk_rows = record {
  fourth_colour = refl;
  fourth_colour_steps = refl;
  root = refl;
  root_steps = refl;
  aliased = refl;
  aliased_steps = refl;
}
