-- What an instance is given where its machine stops for no child, as it is and as it is seen.
use Rattle.std.proofs.Common.{◌≡◌, ℕ, suc, ◌<◌, ℤ, List, [], ◌∷◌, ◌++◌, Bool, true, false, cond, Option, Some, None, refl, sym, ap, ◌∙◌, subst, map}
use Rattle.std.specs.Prelude.{length}
use Rattle.task_code.specs.declared.code.Line.{Line}
use Rattle.machine_terms.specs.declared.order.Ended.{Ended}
use Rattle.machine_terms.specs.declared.order.Ended.TheVariants.{Broke, CameBack}
use Rattle.machine_terms.specs.declared.order.Instance.{Instance}
use Rattle.machine_terms.specs.declared.order.Resumed.{Resumed}
use Rattle.machine_terms.specs.declared.order.Resumed.TheVariants.{GoesOn, IsOver}
use Rattle.machine_terms.specs.declared.outcome.Made.TheVariants as made
use Rattle.machine_terms.specs.declared.outcome.Yield.{Yield}
use Rattle.machine_terms.specs.declared.outcome.Yield.TheVariants as yield
use Rattle.machine_terms.specs.Machine.{Machine, Stepped, goes, prints, stops}
use Rattle.machine_terms.specs.Makes.{is_sound, make_partition}
use Rattle.machine_terms.specs.Orders.{breaks, resume_in}
use Rattle.machine_terms.specs.Segments.{frame_after}
use Rattle.machine_terms.specs.Jumps.{fetch}
use Rattle.eager_laws.specs.Steps.{Running, has_machine, known, on_step}
use Rattle.eager_laws.specs.Pendings.{AreSettled, Suits, seen, settled_stack}
use Rattle.eager_laws.proofs.Seeing.{all_settled, eager_machine, eager_step}
use Rattle.eager_laws.proofs.Words.{Fine, IsMet, StepsFine}

-- with no child on the stack an instance is seen by its slots alone
pub seen_settled : (j : Instance) → AreSettled j.frame.stack →
    record j { frame = record j.frame { slots = map (known j.results) j.frame.slots } } ≡ seen j
seen_settled j c = λ k. record j {
  frame = record j.frame {
    slots = map (known j.results) j.frame.slots;
    stack = sym (all_settled j.results j.frame.stack c) k;
  };
}

module _ (x : Running) (for_results : ℕ → Bool) where
  -- both go on, or both are over
  abbrev pub Alike : Resumed → Resumed → Type 0
  Alike (GoesOn f) (GoesOn j) = (f ≡ seen j) × Suits for_results x.body j
  Alike (IsOver d) (IsOver e) = d ≡ e
  Alike _ _ = ⊥

  pub suits_settled : (j : Instance) → Fine j.results for_results (record { frame = j.frame; parts = j.parts }) → Suits for_results x.body j
  suits_settled j f = record {
    slots = f.slots;
    stack = settled_stack j.frame.stack f.stack;
    children = f.children;
  }

  goes_alike : (j : Instance) → Fine j.results for_results (record { frame = j.frame; parts = j.parts }) →
      Alike (GoesOn (record j { frame = record j.frame { slots = map (known j.results) j.frame.slots } })) (GoesOn j)
  goes_alike j f = (seen_settled j f.stack, suits_settled j f)

  met_stop : (i : Instance) (y : Yield) (m : Machine) → Fine i.results for_results m → IsMet y →
      Alike (on_step x (seen i) (stops y (eager_machine i.results m))) (on_step x i (stops y m))
  met_stop i (yield.Calls cs) m f q = absurd q
  met_stop i (yield.Await n) m f q = absurd q
  met_stop i (yield.Want r g) m f q = goes_alike _ (record { stack = f.stack; slots = f.slots; children = f.children })
  met_stop i (yield.Make (made.Root size space)) m f q =
      goes_alike _ (record { stack = (refl, f.stack); slots = f.slots; children = f.children })
  met_stop i (yield.Make (made.Partition r sets d)) m f q = by (is_sound r.points sets d)
    where
      j' : Instance
      j' = has_machine (eager_machine i.results m) (seen i)

      j : Instance
      j = has_machine m i

      by : (b : Bool) → Alike (cond b (GoesOn (make_partition r sets d j')) (breaks j')) (cond b (GoesOn (make_partition r sets d j)) (breaks j))
      by true = goes_alike _ (record { stack = (refl, f.stack); slots = f.slots; children = f.children })
      by false = refl
  met_stop i (yield.End v) m f q = refl
  met_stop i (yield.Fault k) m f q = refl
  met_stop i yield.MachineFault m f q = refl

  pub met : (i : Instance) (s : Stepped) → StepsFine i.results for_results s →
      Alike (on_step x (seen i) (eager_step i.results s)) (on_step x i s)
  met i (goes m) f = goes_alike (has_machine m i) (record { stack = f.stack; slots = f.slots; children = f.children })
  met i (prints t m) f = goes_alike (record (has_machine m i) { text = i.text ++ t }) (record { stack = f.stack; slots = f.slots; children = f.children })
  met i (stops y m) f = met_stop i y m f.0 f.1
