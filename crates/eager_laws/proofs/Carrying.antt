-- An instance that ends in the eager run ends the same way on the machine.
use Rattle.std.proofs.Common.{◌≡◌, ℕ, zero, suc, ◌+◌, ℤ, pos, List, [], ◌∷◌, ◌++◌, Bool, true, false, Option, Some, None, refl, sym, ap, ◌∙◌, subst, map, arith}
use Rattle.std.specs.Prelude.{slice_get, length, replicate, ◌-◌}
use Rattle.std.proofs.lemmas.Bool.{false≢true}
use Rattle.region_tree.specs.Requirements.{Requirement}
use Rattle.task_code.specs.declared.code.Line.{Line}
use Rattle.task_code.specs.declared.code.TaskCode.{TaskCode}
use Rattle.machine_terms.specs.declared.order.Contents.{Contents}
use Rattle.machine_terms.specs.declared.order.Ended.{Ended}
use Rattle.machine_terms.specs.declared.order.Instance.{Instance}
use Rattle.machine_terms.specs.declared.order.Resumed.{Resumed}
use Rattle.machine_terms.specs.declared.order.Resumed.TheVariants.{GoesOn, IsOver}
use Rattle.machine_terms.specs.declared.value.Value.{Value}
use Rattle.machine_terms.specs.declared.value.Value.TheVariants.{Number, Space, Region, Partition, Pending}
use Rattle.machine_terms.specs.Calls.{is_pending}
use Rattle.machine_terms.specs.Opening.{opening}
use Rattle.machine_terms.specs.Orders.{begun, until_over}
use Rattle.eager_laws.specs.Steps.{Ends, Running, advance, advance_eager, known, run_by}
use Rattle.eager_laws.specs.Pendings.{ArePutAway, AreSettled, IsTidy, Suits, seen, settled_stack}
use Rattle.eager_laws.specs.Laws.{InstancesBegin, IsWhole, EagerRunsCarry, EagerRunsGive}
use Rattle.eager_laws.proofs.Seeing.{all_settled}
use Rattle.eager_laws.proofs.Segments.{segments_give}
use Rattle.eager_laws.proofs.Slots.{waits}
use Rattle.eager_laws.proofs.Following.{Follows, Reaches, follows, reaches_now, reaches_on}

-- an end that is reached is an end, with any number of further steps
pub reached : (advances : Instance → Resumed) (e : Ended) (i : Instance) → Reaches advances e i → Ends advances i e
reached advances e _ (reaches_now i d) = record {
  steps = 1;
  by = λ k n q. let one : n ≡ suc k = omega (arith, q) in
      ap (λ m. run_by advances m i) one ∙ ap (λ r. until_over r (run_by advances k)) d;
}
reached advances e _ (reaches_on i j d r) =
    let more = reached advances e j r in
    record {
      steps = suc more.steps;
      by = λ k n q. let one : n ≡ suc (more.steps + k) = omega (arith, q) in
          ap (λ m. run_by advances m i) one ∙ ap (λ r. until_over r (run_by advances (more.steps + k))) d
          ∙ more.by k (more.steps + k) refl;
    }

module _ (x : Running) (for_results : ℕ → Bool) (tidy : IsTidy for_results x.body) (e : Ended) (whole : IsWhole e) where
  carries : (steps : ℕ) (i : Instance) → Suits for_results x.body i →
      ((k n : ℕ) → n ≡ steps + k → run_by (advance_eager x) n (seen i) ≡ e) → Reaches (advance x) e i
  carries zero i h by = absurd (whole i.text (sym (by 0 0 refl)))
  carries (suc steps) i h by = on (advance_eager x (seen i)) (follows x for_results tidy i h)
      (λ k n q. by k (suc n) (omega (arith, q))) (λ j g c. carries steps j g c)
    where
      on : (r : Resumed) → Follows x for_results i r →
          ((k n : ℕ) → n ≡ steps + k → until_over r (run_by (advance_eager x) n) ≡ e) →
          ((j : Instance) → Suits for_results x.body j → ((k n : ℕ) → n ≡ steps + k → run_by (advance_eager x) n (seen j) ≡ e) → Reaches (advance x) e j) →
          Reaches (advance x) e i
      on (GoesOn f) a ends more = a.1 e (more a.0 a.3 (λ k n q. ap (run_by (advance_eager x) n) (sym a.2) ∙ ends k n q))
      on (IsOver d) a ends more = subst (λ b. Reaches (advance x) b i) (ends 0 (steps + 0) refl) a

pub eager_runs_carry : EagerRunsCarry
eager_runs_carry x for_results tidy i h e whole ends =
    reached (advance x) e i (carries x for_results tidy e whole ends.steps i h ends.by)

pub eager_runs_give : EagerRunsGive
eager_runs_give x for_results tidy t i is h e whole ends =
    segments_give x t e i is (eager_runs_carry x for_results tidy i h e whole ends)

-- ---- how an instance begins

none_put : (for_results : ℕ → Bool) (vs : List Value) → AreSettled vs → ArePutAway for_results 0 vs
none_put for_results [] c s n e = absurd (Rattle.std.proofs.lemmas.Option.none-some (Pending n) e)
none_put for_results (v ∷ vs) c zero n e = absurd (false≢true (sym c.0 ∙ ap waits e))
none_put for_results (v ∷ vs) c (suc s) n e = none_put (λ k. for_results (suc k)) vs c.1 s n e

zeros_settled : (n : ℕ) → AreSettled (replicate n (Number (pos 0)))
zeros_settled zero = tt
zeros_settled (suc n) = (refl, zeros_settled n)

both_settled : (vs ws : List Value) → AreSettled vs → AreSettled ws → AreSettled (vs ++ ws)
both_settled [] ws c d = d
both_settled (v ∷ vs) ws c d = (c.0, both_settled vs ws c.1 d)

pub instances_begin : InstancesBegin
instances_begin for_results body turns depth task t vs needs contents c =
    let i = begun (opening turns depth task t vs) needs contents in
    let slots = both_settled vs (replicate (t.slots - length vs) (Number (pos 0))) c (zeros_settled (t.slots - length vs)) in (
      record {
        slots = none_put for_results i.frame.slots slots;
        stack = settled_stack [] tt;
        children = refl;
      },
      λ k. record i { frame = record i.frame { slots = all_settled [] i.frame.slots slots k } },
    )
