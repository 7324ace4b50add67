-- The touches of a segment: the reads, writes and reductions of a field at a point that its
-- instructions make, in order.
use Rattle.std.specs.Prelude.{ℕ, zero, suc, List, [], ◌∷◌, ◌++◌, true, false, Option, Some, None, slice_get, length, ◌==◌}
use Rattle.lane_kernels.specs.declared.numbers.Mode.{Mode}
use Rattle.lane_kernels.specs.declared.numbers.Mode.TheVariants as mode
use Rattle.regent_tree.specs.Store.{Touch, touch_all}
use Rattle.regent_tree.specs.Values.{target_kept}
use Rattle.task_code.specs.declared.code.Code.{Code}
use Rattle.task_code.specs.declared.code.Line.{Line}
use Rattle.task_code.specs.declared.code.TaskCode.{TaskCode}
use Rattle.task_code.specs.declared.instr.Instr.{Instr}
use Rattle.task_code.specs.declared.instr.Instr.TheVariants as instr
use Rattle.machine_terms.specs.declared.frame.Before.{Before}
use Rattle.machine_terms.specs.declared.outcome.Yield.{Yield}
use Rattle.machine_terms.specs.declared.outcome.Yield.TheVariants as yield
use Rattle.machine_terms.specs.declared.value.RegionValue.{RegionValue}
use Rattle.machine_terms.specs.declared.value.Value.{Value}
use Rattle.machine_terms.specs.declared.value.Value.TheVariants.{Number}
use Rattle.machine_terms.specs.Jumps.{fetch}
use Rattle.machine_terms.specs.Machine.{Machine, Stepped, goes, prints, stops}
use Rattle.machine_terms.specs.Pointers.{Aimed, aims, fails, nowhere, aim, region_slot}
use Rattle.machine_terms.specs.Segments.{step, enough, opened}

-- what an access touches where it aims at a point
abbrev pub touch_of : Mode → ℕ → Aimed → List Touch
touch_of a f (aims root n) = record { root = root; field = f; point = n; access = a } ∷ []
touch_of a f (fails k) = []
touch_of a f nowhere = []

abbrev pub touch_through : Mode → List ℕ → ℕ → Machine → List Value → List Touch
touch_through a rs f m (Number z ∷ st) = touch_of a f (aim m rs (target_kept z))
touch_through a rs f m _ = []

-- a field at each point of a region
abbrev pub touch_region : Mode → ℕ → Option RegionValue → List Touch
touch_region a f (Some r) = touch_all r.root.0 f a r.points
touch_region a f None = []

-- what an instruction touches where it goes on
abbrev pub touched_by : Instr → Machine → List Touch
touched_by (instr.Read rs f) m = touch_through mode.Read rs f m m.frame.stack
touched_by (instr.Write rs f w) m = touch_through mode.Write rs f m m.frame.stack
touched_by (instr.Reduce rs f o w) m = touch_through (mode.Reduce o) rs f m m.frame.stack
touched_by (instr.Fill s f w) m = touch_region mode.Write f (region_slot m s)
touched_by (instr.ByField s f) m = touch_region mode.Read f (region_slot m s)
touched_by (instr.Image s p r f) m = touch_region mode.Read f (region_slot m r)
touched_by (instr.Preimage s p r f) m = touch_region mode.Read f (region_slot m r)
touched_by _ m = []

abbrev pub touched_at : Option Line → Machine → List Touch
touched_at None m = []
touched_at (Some l) m = touched_by l.instr m

-- an instruction that waits, faults or breaks makes no touch; one that has something made does
abbrev pub made_in : Yield → List Touch → List Touch
made_in (yield.Make m) ts = ts
made_in _ ts = []

abbrev pub touches_after : Stepped → List Touch → (Machine → List Touch) → List Touch
touches_after (goes m) ts more = ts ++ more m
touches_after (prints t m) ts more = ts ++ more m
touches_after (stops y m) ts more = made_in y ts

-- of at most so many steps
abbrev pub run_touches : Code → List Line → ℕ → Machine → List Touch
run_touches code body zero m = []
run_touches code body (suc k) m =
    touches_after (step code body m) (touched_at (fetch body m.frame.pc) m)
    (run_touches code body k)

abbrev pub touches_in : Option TaskCode → Code → Machine → List Touch
touches_in None code m = []
touches_in (Some t) code m = elim (length m.frame.slots == t.slots) [
  | true ↦ elim m.frame.later [
    | None ↦ run_touches code t.body (enough t.body m.frame) m
    | Some f ↦ []
  ]
  | false ↦ []
]

abbrev pub segment_touches : Before → List Touch
segment_touches b = touches_in (slice_get b.code.tasks b.frame.task) b.code (opened b)
