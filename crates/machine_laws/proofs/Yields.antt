-- Every segment yields at a step.
use Rattle.std.proofs.Common.{◌≡◌, ℕ, zero, suc, ◌<◌, List, [], ◌++◌, Bool, true, false, ap, ◌∙◌, arith}
use Rattle.std.specs.Prelude.{slice_get, length}
use Rattle.std.proofs.lemmas.Bool.{eq-eqb}
use Rattle.task_code.specs.declared.code.Code.{Code}
use Rattle.task_code.specs.declared.code.Line.{Line}
use Rattle.task_code.specs.declared.code.TaskCode.{TaskCode}
use Rattle.machine_terms.specs.declared.frame.Before.{Before}
use Rattle.machine_terms.specs.declared.outcome.Yield.{Yield}
use Rattle.machine_terms.specs.declared.outcome.Yield.TheVariants as yield
use Rattle.machine_terms.specs.Machine.{Machine, stops}
use Rattle.machine_terms.specs.Segments.{Stopped, step, on_stop, run, enough, stopped_by, stopped_in, after, opened}
use Rattle.machine_terms.proofs.Fuel.{Halts, halts_now, halts_later, halts_printing, stops_in_fuel}
use Rattle.machine_laws.specs.Yields.{Begins, Comes, comes_here, comes_going, comes_printing, SegmentsYield}

module _ (code : Code) (body : List Line) where
  -- a run from a text and a machine, with its last step
  record Ends (steps : ℕ) (text : List ℕ) (m : Machine) : Type 0 where
    last : Machine
    left : Machine
    last_text : List ℕ
    why : Yield
    comes : Comes code body steps text m last_text last
    stops : step code body last ≡ stops why left
    more_steps : (k : ℕ) → steps < k →
        run code body k text m ≡ record { ends = why; machine = left; text = last_text }

  ends_at_step : (steps : ℕ) (text : List ℕ) (m : Machine) → Halts code body m steps → Ends steps text m
  ends_at_step _ text m (halts_now _ n y e) = record {
    last = m;
    left = n;
    last_text = text;
    why = y;
    comes = comes_here text m;
    stops = e;
    more_steps = fuel;
  }
    where
      fuel : (k : ℕ) → 0 < k → run code body k text m ≡ record { ends = y; machine = n; text = text }
      fuel zero l = absurd (omega (arith, l))
      fuel (suc k) l = ap (λ s. on_stop s text (run code body k)) e
  ends_at_step _ text m (halts_later _ n s e h) =
      let r = ends_at_step s text n h in record {
        last = r.last;
        left = r.left;
        last_text = r.last_text;
        why = r.why;
        comes = comes_going s text r.last_text m n r.last e r.comes;
        stops = r.stops;
        more_steps = fuel r;
      }
    where
      fuel : (r : Ends s text n) (k : ℕ) → suc s < k →
          run code body k text m ≡ record { ends = r.why; machine = r.left; text = r.last_text }
      fuel r zero l = absurd (omega (arith, l))
      fuel r (suc k) l = ap (λ s. on_stop s text (run code body k)) e ∙ r.more_steps k (omega (arith, l))
  ends_at_step _ text m (halts_printing _ n t s e h) =
      let r = ends_at_step s (text ++ t) n h in record {
        last = r.last;
        left = r.left;
        last_text = r.last_text;
        why = r.why;
        comes = comes_printing s text t r.last_text m n r.last e r.comes;
        stops = r.stops;
        more_steps = fuel r;
      }
    where
      fuel : (r : Ends s (text ++ t) n) (k : ℕ) → suc s < k →
          run code body k text m ≡ record { ends = r.why; machine = r.left; text = r.last_text }
      fuel r zero l = absurd (omega (arith, l))
      fuel r (suc k) l = ap (λ s. on_stop s text (run code body k)) e ∙ r.more_steps k (omega (arith, l))

-- by whether the slots are as many as the task's
abbrev by_slots : Bool → Before → TaskCode → Stopped
by_slots q b t = elim q [
  | true ↦ stopped_by b.frame.later b.code t (opened b)
  | false ↦ record { ends = yield.MachineFault; machine = opened b; text = [] }
]

-- the segment of a frame that begins is its run
begun : (b : Before) (t : TaskCode) → Begins b t →
    stopped_in (slice_get b.code.tasks b.frame.task) b.code (opened b)
    ≡ run b.code t.body (enough t.body b.frame) [] (opened b)
begun b t h =
    ap (λ o. stopped_in o b.code (opened b)) h.task
    ∙ ap (λ q. by_slots q b t) (eq-eqb (length b.frame.slots) t.slots h.slots)
    ∙ ap (λ o. stopped_by o b.code t (opened b)) h.later

pub segments_yield : SegmentsYield
segments_yield b t h =
    let f = stops_in_fuel b.code t.body (opened b) in
    let r = ends_at_step b.code t.body f.steps [] (opened b) f.halts in
    record {
      steps = f.steps;
      last = r.last;
      left = r.left;
      text = r.last_text;
      yield = r.why;
      comes = r.comes;
      stops = r.stops;
      segment = ap after (begun b t h ∙ r.more_steps (enough t.body b.frame) f.few);
      more_steps = r.more_steps;
    }
