-- What the run in order makes and fetches is what is asked of it.
use Rattle.std.specs.Prelude.{◌≡◌, ℕ, List, Bool, map, true, Some}
use Rattle.lane_kernels.specs.declared.numbers.Mode.{Mode}
use Rattle.plain_values.specs.Points.{points}
use Rattle.region_tree.specs.Requirements.{mode_at}
use Rattle.task_code.specs.declared.code.TaskCode.{TaskCode}
use Rattle.machine_terms.specs.declared.order.Contents.{Contents}
use Rattle.machine_terms.specs.declared.value.RegionValue.{RegionValue}
use Rattle.machine_terms.specs.Contents.{kept_at}
use Rattle.machine_terms.specs.Copies.{part_from}
use Rattle.machine_terms.specs.Makes.{fields_needed, region_with, root_needs}
use Rattle.fit_rules.specs.Shapes.{NumberIs, World}
use Rattle.fit_rules.specs.Fits.{Program, AreClaims, claims, PartFits, root_claims, shape_at}
use Rattle.fit_rules.specs.Ends.{IsMadeOf}
use Rattle.fit_laws.specs.Segments.{AgreesWith}

-- the needs on a new root are Write on each of its fields
abbrev pub RootsAreClaimed : Type 0
RootsAreClaimed = (g : Program) (root sp n : ℕ) →
    AreClaims (root_needs root (fields_needed g.code n sp)) (root_claims g root sp (points n))

-- a partition is made of its sets
abbrev pub PartitionsAreMade : Type 0
PartitionsAreMade = (r : RegionValue) (sets : List (List ℕ)) (flag : Bool) →
    IsMadeOf r.root.0 flag sets (record {
      root = r.root;
      disjoint = flag;
      children = map (region_with r.root.0) sets;
    })

-- a part that is fetched fits, where the numbers that are kept at the points of the claims fit
abbrev pub PartsAreFetched : Type 0
PartsAreFetched = (g : Program) (x : World) (t : TaskCode) (contents : Contents) (root f : ℕ) → AgreesWith x contents → x.there root ≡ true →
    ((p : ℕ) (m : Mode) → mode_at (claims g x t) root f p ≡ Some m → NumberIs (shape_at g (x.spaces root) f) (kept_at contents root f p)) →
    PartFits g x t root f (part_from g.code contents (claims g x t) root f)
