-- Room for the reductions of parts.
use Rattle.std.specs.Prelude.{◌≤◌, ℕ, List}
use Rattle.region_tree.specs.declared.piece.Part.{Part}
use Rattle.logical_map.specs.Gives.{reductions_on}
use Rattle.logical_map.specs.Maps.{IsThere}
use Rattle.physical_instances.specs.Kept.{RootContents, map_of, spare_of}

-- each field that is there takes the reductions that parts have on it
abbrev pub HasRoom : List RootContents → List Part → Type 0
HasRoom roots parts = (root field : ℕ) → IsThere (map_of roots) root field → reductions_on parts root field ≤ spare_of roots root field
