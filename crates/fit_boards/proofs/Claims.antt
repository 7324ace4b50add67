-- A claim, a copy and a claim that is taken back keep that a state fits.
use Rattle.std.proofs.Common.{◌≡◌, inl, inr, ℕ, ◌<◌, List, Bool, true, false, cond, Some, None, Option, refl, sym, subst, length}
use Rattle.std.specs.Prelude.{◌==◌, set}
use Rattle.std.proofs.lemmas.Option.{none-some, same_Some}
use Rattle.region_tree.specs.Requirements as required
use Rattle.logical_map.specs.Fills.{Filling as Fill, elements_of, started}
use Rattle.logical_map.specs.Maps.{columns_of}
use Rattle.dependence_graph.specs.Graphs.{Waits}
use Rattle.task_code.specs.declared.job.Job.{Job}
use Rattle.machine_terms.specs.declared.outcome.CallOut.{CallOut}
use Rattle.machine_terms.specs.Parts.{is_needed}
use Rattle.board_terms.specs.declared.claim.Claim.{Claim}
use Rattle.board_terms.specs.declared.operation.Activity.{Activity}
use Rattle.board_terms.specs.declared.operation.Activity.TheVariants as activity
use Rattle.board_terms.specs.declared.operation.Operation.{Operation}
use Rattle.board_terms.specs.declared.operation.Wait.{Wait}
use Rattle.board_terms.specs.declared.operation.Wait.TheVariants as wait
use Rattle.board_terms.specs.Claims.{activity_behind, backed, back_in, before_of, claim_made, claim_on, claimed, copied, copied_in, fill_for, moved_on, taken_back}
use Rattle.board_terms.specs.Stages.{may_be_claimed}
use Rattle.board_terms.specs.States.{State, operation_at}
use Rattle.fit_rules.specs.Shapes.{Shape}
use Rattle.fit_rules.specs.Fits.{Program}
use Rattle.fit_boards.specs.Fitting.{DoesFit, FillsFor, fits_by, Gives, Going, MayGoOn, StateFits}
use Rattle.fit_boards.specs.Steps.{IsFilling, IsKnown}
use Rattle.fit_boards.proofs.Filling.{fill_moves, fill_starts}
use Rattle.fit_boards.proofs.Outgoing.{out_fits, wanted_there}
use Rattle.fit_boards.proofs.Rows.{going_open, IsBusy, IsOpen, now_does, one_fits, one_stays, open_fits, open_gives, within_by}
use Rattle.fit_boards.proofs.Staying.{nodes_same, roots_same}

module _ (g : Program) (log : List CallOut) (s : State) (fits : StateFits g log s) (k : ℕ) where
  abbrev o : Operation
  o = operation_at s k

  abbrev now : Activity → Operation
  now a = record o { activity = a }

  abbrev now_in : Activity → Waits → ℕ → State
  now_in a w n = record s { operations = set s.operations k (now a); waits = w; turns = n }

  -- the operation does something else, and all that is beside it stays
  does_fit : (a : Activity) (w : Waits) (n : ℕ) → k < length s.operations → IsOpen o.activity → IsOpen a → (h : Going g log s k o) → DoesFit g h.world h.task (now a) a →
      StateFits g log (now_in a w n)
  does_fit a w n within was is h does =
      let gives : (sh : Shape) → Gives g sh o → Gives g sh (now a) = λ sh q. open_gives g sh o (now a) was is refl q in
      let stays = one_stays g log s (now_in a w n) k (now a) within refl (nodes_same s.tree) (roots_same s.roots) gives in
      one_fits g log s (now_in a w n) k (now a) within refl (nodes_same s.tree) (roots_same s.roots) gives fits fits.counted fits.map
      (open_fits g log (now_in a w n) k (now a) a (now_does g log s (now_in a w n) stays k o a h does))

  is_going : (a : Activity) → o.activity ≡ a → IsOpen a → k < length s.operations → Going g log s k o
  is_going a e q within = going_open g log s k o a q (subst (fits_by g log s k o) e (fits.operations k within))

  open_by : (a : Activity) → o.activity ≡ a → IsOpen a → IsOpen o.activity
  open_by a e q = subst IsOpen (sym e) q

  busy_by : (a : Activity) → o.activity ≡ a → IsBusy a → k < length s.operations
  busy_by a e q = within_by s k (subst IsBusy (sym e) q)

  -- ---- claims

  module _ (h : Going g log s k o) (live : (root field : ℕ) → is_needed o.frame.needs.items root field ≡ true → field < length (columns_of s.map root)) where
    started_fits : (w : Wait) → MayGoOn g h.world h.task o.frame.task w (record { frame = o.frame; parts = o.parts }) → FillsFor g h.world h.task w (fill_for s o w)
    started_fits wait.Beginning m = tt
    started_fits wait.Nothing m = tt
    started_fits (wait.Child n) m = tt
    started_fits (wait.Part root field) (fit, needed, none, met) =
        subst (λ rs. FillsFor g h.world h.task (wait.Part root field) (Some (started root.0 field (required.part_of rs root.0 field) s.map))) (sym h.required)
        (fill_starts g h.world h.task s.roots s.map fits.map root.0 field
        (h.roots root.0 (wanted_there g h.world h.task o.frame.task o.frame o.parts root.0 field fit needed)).1 (live root.0 field needed))

    -- ---- copies

    moved_fits : (w : Wait) (fill : Option Fill) → MayGoOn g h.world h.task o.frame.task w (record { frame = o.frame; parts = o.parts }) → FillsFor g h.world h.task w fill →
        FillsFor g h.world h.task w (moved_on s fill)
    moved_fits wait.Beginning None m f = f
    moved_fits wait.Beginning (Some q) m f = absurd f
    moved_fits wait.Nothing None m f = f
    moved_fits wait.Nothing (Some q) m f = absurd f
    moved_fits (wait.Child n) None m f = f
    moved_fits (wait.Child n) (Some q) m f = absurd f
    moved_fits (wait.Part root field) None m f = absurd f
    moved_fits (wait.Part root field) (Some q) (fit, needed, none, met) f =
        fill_moves g h.world h.task s.roots s.map fits.map root.0 field
        (h.roots root.0 (wanted_there g h.world h.task o.frame.task o.frame o.parts root.0 field fit needed)).1 (live root.0 field needed) q f

    module _ (job : Job) (same : job.code ≡ g.code) (c : Claim) where
      behind_open : (fill : Option Fill) → IsOpen (activity_behind job.code s o c fill)
      behind_open None = tt
      behind_open (Some f) = of (f.moved == elements_of f.pieces)
        where
          of : (b : Bool) → IsOpen (cond b (activity.Out c (before_of job.code s o (Some f))) (activity.Filling c (Some f)))
          of true = tt
          of false = tt

      behind_fits : (fill : Option Fill) → FillsFor g h.world h.task o.wait fill →
          DoesFit g h.world h.task (now (activity_behind job.code s o c fill)) (activity_behind job.code s o c fill)
      behind_fits None f = out_fits g log job.code same s k o h c None f (before_of job.code s o None) refl
      behind_fits (Some q) f = of (q.moved == elements_of q.pieces)
        where
          Next : Bool → Activity
          Next b = cond b (activity.Out c (before_of job.code s o (Some q))) (activity.Filling c (Some q))

          of : (b : Bool) → DoesFit g h.world h.task (now (cond b (activity.Out c (before_of job.code s o (Some q))) (activity.Filling c (Some q))))
              (cond b (activity.Out c (before_of job.code s o (Some q))) (activity.Filling c (Some q)))
          of true = out_fits g log job.code same s k o h c (Some q) f (before_of job.code s o (Some q)) refl
          of false = f

      copy_fits : (fill : Option Fill) → o.activity ≡ activity.Filling c fill → FillsFor g h.world h.task o.wait fill →
          StateFits g log (now_in (activity_behind job.code s o c (moved_on s fill)) s.waits s.turns)
      copy_fits fill e f = does_fit (activity_behind job.code s o c (moved_on s fill)) s.waits s.turns (busy_by (activity.Filling c fill) e tt)
          (open_by (activity.Filling c fill) e tt) (behind_open (moved_on s fill)) h (behind_fits (moved_on s fill) (moved_fits o.wait fill h.waits f))

  -- ---- the steps

  pub claims_fit : IsKnown s → (seat : ℕ) (u : State) → claimed s k seat ≡ Some u → StateFits g log u
  claims_fit known seat u e = of (may_be_claimed s k) refl e
    where
      of : (b : Bool) → may_be_claimed s k ≡ b → cond b (Some (claim_made s k seat)) None ≡ Some u → StateFits g log u
      of false q d = absurd (none-some u d)
      of true q d =
          let free = known.idle k q in
          let h = is_going activity.Idle free.1 tt free.0 in
          subst (StateFits g log) (same_Some (claim_made s k seat) u d)
          (does_fit (activity.Filling (claim_on s k seat) (fill_for s o o.wait)) (claim_made s k seat).waits (claim_made s k seat).turns free.0
          (open_by activity.Idle free.1 tt) tt h (started_fits h (known.fields k (inl q)) o.wait h.waits))

  pub copies_fit : IsKnown s → (job : Job) → job.code ≡ g.code → (seat : ℕ) (u : State) → copied job.code s k seat ≡ Some u → StateFits g log u
  copies_fit known job same seat u e = of o.activity refl e
    where
      by_seat : (c : Claim) (fill : Option Fill) (b : Bool) → o.activity ≡ activity.Filling c fill →
          cond b (Some (now_in (activity_behind job.code s o c (moved_on s fill)) s.waits s.turns)) None ≡ Some u → StateFits g log u
      by_seat c fill false q d = absurd (none-some u d)
      by_seat c fill true q d =
          let h = is_going (activity.Filling c fill) q tt (busy_by (activity.Filling c fill) q tt) in
          subst (StateFits g log) (same_Some _ u d)
          (copy_fits h (known.fields k (inr (subst IsFilling (sym q) tt))) job same c fill q
          (subst (DoesFit g h.world h.task o) q h.does))

      of : (a : Activity) → o.activity ≡ a → copied_in job.code s k seat a ≡ Some u → StateFits g log u
      of (activity.Filling c fill) q d = by_seat c fill (c.seat == seat) q d
      of activity.Idle q d = absurd (none-some u d)
      of (activity.Out c b) q d = absurd (none-some u d)
      of (activity.Closing x) q d = absurd (none-some u d)

  pub backs_fit : (seat : ℕ) (u : State) → backed s k seat ≡ Some u → StateFits g log u
  backs_fit seat u e = of o.activity refl e
    where
      by_seat : (a : Activity) → o.activity ≡ a → IsOpen a → IsBusy a → (b : Bool) → cond b (Some (taken_back s k)) None ≡ Some u → StateFits g log u
      by_seat a q i j false d = absurd (none-some u d)
      by_seat a q i j true d = subst (StateFits g log) (same_Some (taken_back s k) u d)
          (does_fit activity.Idle (taken_back s k).waits s.turns (busy_by a q j) (open_by a q i) tt (is_going a q i (busy_by a q j)) tt)

      of : (a : Activity) → o.activity ≡ a → back_in s k seat a ≡ Some u → StateFits g log u
      of (activity.Filling c fill) q d = by_seat (activity.Filling c fill) q tt tt (c.seat == seat) d
      of (activity.Out c b) q d = by_seat (activity.Out c b) q tt tt (c.seat == seat) d
      of activity.Idle q d = absurd (none-some u d)
      of (activity.Closing x) q d = absurd (none-some u d)
