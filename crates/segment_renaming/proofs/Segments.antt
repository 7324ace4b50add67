-- The segment of a frame with other numbers of roots and nodes is the segment, renamed.
use Rattle.std.proofs.Common.{◌≡◌, ℕ, zero, suc, List, [], ◌++◌, Bool, true, false, Option, Some, None, refl, ap, ◌∙◌, map, option_map, ◌==◌}
use Rattle.std.specs.Prelude.{slice_get, length}
use Rattle.std.proofs.lemmas.List.{length-map}
use Rattle.regent_tree.specs.declared.outcome.Fault.{Fault}
use Rattle.task_code.specs.declared.code.Code.{Code}
use Rattle.task_code.specs.declared.code.Line.{Line}
use Rattle.task_code.specs.declared.code.TaskCode.{TaskCode}
use Rattle.machine_terms.specs.declared.frame.Before.{Before}
use Rattle.machine_terms.specs.declared.frame.Frame.{Frame}
use Rattle.machine_terms.specs.declared.outcome.Yield.{Yield}
use Rattle.machine_terms.specs.declared.outcome.Yield.TheVariants as yield
use Rattle.machine_terms.specs.Machine.{Machine, Stepped, goes, prints, stops}
use Rattle.machine_terms.specs.Segments.{step, run, on_stop, enough, Stopped, frame_after, after, opened, stopped_by, stopped_in, stop_of, segment}
use Rattle.segment_renaming.specs.Renaming.{Names, IsOneToOne, frame_to, machine_to, part_to, yield_to, stepped_to, stopped_to, before_to, after_to, SegmentsRunRenamed}
use Rattle.segment_renaming.proofs.Instructions.{step_same}

module _ (n : Names) (one : IsOneToOne n) where
  stop_same : (s : Stepped) (text : List ℕ) (more : List ℕ → Machine → Stopped) →
      ((t : List ℕ) (m : Machine) → more t (machine_to n m) ≡ stopped_to n (more t m)) →
      on_stop (stepped_to n s) text more ≡ stopped_to n (on_stop s text more)
  stop_same (goes m) text more k = k text m
  stop_same (prints t m) text more k = k (text ++ t) m
  stop_same (stops y m) text more k = refl

  run_same : (code : Code) (body : List Line) (k : ℕ) (text : List ℕ) (m : Machine) →
      run code body k text (machine_to n m) ≡ stopped_to n (run code body k text m)
  run_same code body zero text m = refl
  run_same code body (suc k) text m = ap (λ s. on_stop s text (run code body k)) (step_same n one code body m)
      ∙ stop_same (step code body m) text (run code body k) (λ t x. run_same code body k t x)

  by_same : (o : Option Fault) (code : Code) (t : TaskCode) (m : Machine) →
      stopped_by o code t (machine_to n m) ≡ stopped_to n (stopped_by o code t m)
  by_same None code t m = run_same code t.body (enough t.body m.frame) [] m
  by_same (Some f) code t m = refl

  in_same : (o : Option TaskCode) (code : Code) (m : Machine) →
      stopped_in o code (machine_to n m) ≡ stopped_to n (stopped_in o code m)
  in_same None code m = refl
  in_same (Some t) code m = (λ i. fits (length-map m.frame.slots (Rattle.segment_renaming.specs.Renaming.value_to n) i == t.slots) (machine_to n m))
      ∙ choice (length m.frame.slots == t.slots)
    where
      fits : Bool → Machine → Stopped
      fits b x = elim b [
        | true ↦ stopped_by x.frame.later code t x
        | false ↦ record { ends = yield.MachineFault; machine = x; text = [] }
      ]

      choice : (b : Bool) → fits b (machine_to n m) ≡ stopped_to n (fits b m)
      choice true = by_same m.frame.later code t m
      choice false = refl

  frame_same : (y : Yield) (f : Frame) → frame_after (yield_to n y) (frame_to n f) ≡ option_map (frame_to n) (frame_after y f)
  frame_same (yield.Calls cs) f = refl
  frame_same (yield.Want r g) f = refl
  frame_same (yield.Await i) f = refl
  frame_same (yield.Make d) f = refl
  frame_same (yield.End v) f = refl
  frame_same (yield.Fault k) f = refl
  frame_same yield.MachineFault f = refl

  after_same : (s : Stopped) → after (stopped_to n s) ≡ after_to n (after s)
  after_same s = λ i. record {
    frame = frame_same s.ends s.machine.frame i;
    parts = map (part_to n) s.machine.parts;
    text = s.text;
    ends = yield_to n s.ends;
  }

  pub stop_of_same : (b : Before) → stop_of (before_to n b) ≡ stopped_to n (stop_of b)
  stop_of_same b = in_same (slice_get b.code.tasks b.frame.task) b.code (opened b)

  pub segment_same : (b : Before) → segment (before_to n b) ≡ after_to n (segment b)
  segment_same b = ap after (stop_of_same b) ∙ after_same (stop_of b)

pub segment_renamed : SegmentsRunRenamed
segment_renamed n one b = segment_same n one b
