-- A segment of sound code stops well, and its touches are covered.
use Rattle.std.proofs.Common.{◌≡◌, ℕ, suc, ◌<◌, List, [], ◌∷◌, ◌++◌, Bool, true, false, not, ◌&&◌, Option, Some, None, refl, sym, ap, ◌∙◌, subst, arith, length}
use Rattle.std.specs.Prelude.{slice_get, get_or}
use Rattle.std.specs.List.{list_all}
use Rattle.std.proofs.lemmas.Bool.{eq-eqb}
use Rattle.plain_values.specs.Points.{meets}
use Rattle.partitions.specs.Laws.{NoneShared}
use Rattle.regent_tree.specs.declared.outcome.Fault.{Fault}
use Rattle.task_code.specs.declared.code.TaskCode.{TaskCode}
use Rattle.machine_terms.specs.declared.frame.Before.{Before}
use Rattle.machine_terms.specs.declared.outcome.Made.TheVariants as made
use Rattle.machine_terms.specs.declared.outcome.Yield.{Yield}
use Rattle.machine_terms.specs.declared.outcome.Yield.TheVariants as yield
use Rattle.machine_terms.specs.Machine.{Machine, goes, prints, stops}
use Rattle.machine_terms.specs.Makes.{are_apart, is_sound}
use Rattle.machine_terms.specs.Segments.{step, Stopped, enough, opened, stop_from, stopped_by, stopped_in, stop_of, after}
use Rattle.machine_terms.specs.Touches.{segment_touches, touches_in, run_touches}
use Rattle.machine_terms.proofs.Fuel.{Halts, halts_now, halts_later, halts_printing, stops_in_fuel}
use Rattle.machine_terms.proofs.Ending.{goes_on, prints_on, stops_there}
use Rattle.fit_rules.specs.Shapes.{World}
use Rattle.fit_rules.specs.Fits.{Program, BeforeFits, Fits}
use Rattle.fit_rules.specs.Sound.{IsSound}
use Rattle.fit_rules.specs.Ends.{SetsFit, StopsWell, Safe, safe_goes, safe_prints, safe_stops, AfterFits}
use Rattle.fit_laws.specs.Segments.{SegmentsKeepFitting, NoSegmentBreaks, TouchesAreCovered, ChildrenAreWithin, PartitionsAreSound}
use Rattle.fit_laws.proofs.Lookup.{as_long}
use Rattle.fit_laws.proofs.Making.{all_within}
use Rattle.fit_laws.proofs.Steps.{step_safe}
use Rattle.fit_laws.proofs.Touching.{AreCovered, run_covered}

module _ (g : Program) (x : World) (t : TaskCode) (k : ℕ) (sound : IsSound g t k) where
  gone : (n : Machine) → Safe g x t k (goes n) → Fits g x t k n
  gone _ (safe_goes n f) = f

  printed : (text : List ℕ) (n : Machine) → Safe g x t k (prints text n) → Fits g x t k n
  printed _ _ (safe_prints text n f) = f

  stopped : (y : Yield) (n : Machine) → Safe g x t k (stops y n) → StopsWell g x t k y n
  stopped _ _ (safe_stops y n f) = f

  safe : (m : Machine) → Fits g x t k m → Safe g x t k (step g.code t.body m)
  safe m fit = step_safe g x t k m fit sound.short sound.valid

  abbrev WellStopped : Stopped → Type 0
  WellStopped s = StopsWell g x t k s.ends s.machine

  run_well : (text : List ℕ) (m : Machine) (n : ℕ) → Halts g.code t.body m n → Fits g x t k m →
      WellStopped (stop_from g.code t.body text m)
  run_well text m _ (halts_now _ n y e) fit = subst WellStopped (sym (stops_there g.code t.body m n text y e))
      (stopped y n (subst (Safe g x t k) e (safe m fit)))
  run_well text m _ (halts_later _ n j e h) fit = subst WellStopped (sym (goes_on g.code t.body m n text e))
      (run_well text n j h (gone n (subst (Safe g x t k) e (safe m fit))))
  run_well text m _ (halts_printing _ n u j e h) fit = subst WellStopped (sym (prints_on g.code t.body m n text u e))
      (run_well (text ++ u) n j h (printed u n (subst (Safe g x t k) e (safe m fit))))

  module _ (b : Before) (fit : BeforeFits g x t k b) where
    slots_are : length b.frame.slots ≡ t.slots
    slots_are = as_long x _ b.frame.slots fit.machine.suits.slots ∙ sound.slots b.frame.pc

    task_there : slice_get b.code.tasks b.frame.task ≡ Some t
    task_there = ap (λ c. slice_get c.tasks b.frame.task) fit.code
        ∙ ap (slice_get g.code.tasks) fit.machine.beside.task ∙ sound.there

    by_later : (o : Option Fault) → WellStopped (stopped_by o b.code t (opened b))
    by_later (Some f) = (fit.machine.beside.parts, tt)
    by_later None = subst (λ c. WellStopped (stop_from c t.body [] (opened b))) (sym fit.code)
        (run_well [] (opened b) _ (stops_in_fuel g.code t.body (opened b)).halts fit.machine)

    -- what the machine stops for may be waited for
    pub segment_well : WellStopped (stop_of b)
    segment_well = subst (λ o. WellStopped (stopped_in o b.code (opened b))) (sym task_there)
        (subst (λ y. WellStopped (elim y [
          | true ↦ stopped_by b.frame.later b.code t (opened b)
          | false ↦ record { ends = yield.MachineFault; machine = opened b; text = [] }
        ])) (sym (eq-eqb (length b.frame.slots) t.slots slots_are)) (by_later b.frame.later))

    touches_later : (o : Option Fault) → AreCovered g x t k (elim o [
      | None ↦ run_touches b.code t.body (enough t.body b.frame) (opened b)
      | Some f ↦ []
    ])
    touches_later (Some f) = tt
    touches_later None = subst (λ c. AreCovered g x t k (run_touches c t.body (enough t.body b.frame) (opened b))) (sym fit.code)
        (run_covered g x t k sound.short sound.valid (enough t.body b.frame) (opened b) fit.machine)

    -- and its touches are covered
    pub segment_covered : AreCovered g x t k (segment_touches b)
    segment_covered = subst (λ o. AreCovered g x t k (touches_in o b.code (opened b))) (sym task_there)
        (subst (λ y. AreCovered g x t k (elim y [
          | true ↦ elim b.frame.later [
            | None ↦ run_touches b.code t.body (enough t.body b.frame) (opened b)
            | Some f ↦ []
          ]
          | false ↦ []
        ])) (sym (eq-eqb (length b.frame.slots) t.slots slots_are)) (touches_later b.frame.later))

-- what a machine leaves that stopped well
left_well : (g : Program) (x : World) (t : TaskCode) (k : ℕ) (y : Yield) (m : Machine) (text : List ℕ) →
    StopsWell g x t k y m → AfterFits g x t k (after (record { ends = y; machine = m; text = text }))
left_well g x t k (yield.Calls cs) m text h = h
left_well g x t k (yield.Want root f) m text h = h
left_well g x t k (yield.Await i) m text h = h
left_well g x t k (yield.Make (made.Root n sp)) m text h = h
left_well g x t k (yield.Make (made.Partition r sets flag)) m text h = h
left_well g x t k (yield.End v) m text h = h
left_well g x t k (yield.Fault f) m text h = h
left_well g x t k yield.MachineFault m text h = absurd h.1

pub segments_keep_fitting : SegmentsKeepFitting
segments_keep_fitting g x t k b sound fit = left_well g x t k (stop_of b).ends (stop_of b).machine (stop_of b).text
    (segment_well g x t k sound b fit)

pub no_segment_breaks : NoSegmentBreaks
no_segment_breaks g x t k b sound fit e =
    (subst (λ y. StopsWell g x t k y (stop_of b).machine) e (segment_well g x t k sound b fit)).1

pub touches_are_covered : TouchesAreCovered
touches_are_covered g x t k b sound fit = segment_covered g x t k sound b fit

pub children_are_within : ChildrenAreWithin
children_are_within g x t k b sound fit cs e =
    (subst (λ y. StopsWell g x t k y (stop_of b).machine) e (segment_well g x t k sound b fit)).1.0

-- ---- the test of the run in order

none_met : (s : List ℕ) (sets : List (List ℕ)) → ((d : ℕ) → d < length sets → meets s (get_or sets d []) ≡ false) →
    list_all (λ u. not (meets s u)) sets ≡ true
none_met s [] h = refl
none_met s (u ∷ sets) h = ap (λ b. not b && list_all (λ u. not (meets s u)) sets) (h 0 (omega arith))
    ∙ none_met s sets (λ d l. h (suc d) (omega (arith, l)))

all_apart : (sets : List (List ℕ)) → NoneShared sets → are_apart sets ≡ true
all_apart [] h = refl
all_apart (s ∷ sets) h =
    ap (λ b. b && are_apart sets) (none_met s sets (λ d l. h 0 (suc d) (omega arith) (omega (arith, l))))
    ∙ all_apart sets (λ c d l k. h (suc c) (suc d) (omega (arith, l)) (omega (arith, k)))

sets_sound : (parent : List ℕ) (sets : List (List ℕ)) (flag : Bool) → SetsFit parent flag sets →
    is_sound parent sets flag ≡ true
sets_sound parent sets false h = ap (λ b. b && true) (all_within parent sets h.parts)
sets_sound parent sets true h = ap (λ b. b && are_apart sets) (all_within parent sets h.parts)
    ∙ all_apart sets (h.apart refl)

pub partitions_are_sound : PartitionsAreSound
partitions_are_sound g x t k b sound fit r sets flag e = sets_sound r.points sets flag
    (subst (λ y. StopsWell g x t k y (stop_of b).machine) e (segment_well g x t k sound b fit)).1.0
