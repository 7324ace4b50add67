-- Whatever a segment yields, the state that it leaves fits.
use Rattle.std.proofs.Common.{◌≡◌, ℕ, ◌<◌, ◌^◌, ◌-◌, pos, List, [], ◌++◌, Bool, true, false, cond, Some, None, Option, refl, sym, ap, ◌∙◌, subst, length, append-nil, arith}
use Rattle.std.specs.Prelude.{◌==◌, take}
use Rattle.std.proofs.lemmas.List.{length-append}
use Rattle.std.proofs.lemmas.Option.{none-some, same_Some}
use Rattle.region_tree.specs.declared.piece.Part.{Part}
use Rattle.machine_terms.specs.declared.frame.Before.{Before}
use Rattle.machine_terms.specs.declared.frame.Frame.{Frame}
use Rattle.machine_terms.specs.declared.outcome.CallOut.{CallOut}
use Rattle.machine_terms.specs.declared.outcome.Made.TheVariants as made
use Rattle.machine_terms.specs.declared.outcome.Yield.{Yield}
use Rattle.machine_terms.specs.declared.outcome.Yield.TheVariants as yield
use Rattle.machine_terms.specs.Segments.{segment}
use Rattle.segment_regions.proofs.Frames.{segments_keep_frames}
use Rattle.board_terms.specs.declared.claim.Claim.{Claim}
use Rattle.board_terms.specs.declared.operation.Activity.{Activity}
use Rattle.board_terms.specs.declared.operation.Activity.TheVariants as activity
use Rattle.board_terms.specs.declared.operation.Ending.TheVariants as ending
use Rattle.board_terms.specs.declared.operation.Operation.{Operation}
use Rattle.board_terms.specs.declared.operation.Said.{Said}
use Rattle.board_terms.specs.declared.operation.Wait.TheVariants as wait
use Rattle.board_terms.specs.Gives.{also_said, given, given_after, given_in, yielded}
use Rattle.board_terms.specs.States.{State, operation_at}
use Rattle.fit_rules.specs.Shapes.{Each, NumberIs}
use Rattle.fit_rules.specs.Fits.{Program}
use Rattle.fit_rules.specs.Ends.{AfterFits, IsLeft}
use Rattle.fit_boards.specs.Fitting.{fits_by, Going, DoesFit, OutFits, StateFits}
use Rattle.fit_boards.specs.Steps.{ArePlaced, calls_in, calls_out, IsKnown, IsSoundJob, issued_by}
use Rattle.task_code.specs.declared.job.Job.{Job}
use Rattle.task_code.specs.declared.code.Code.{Code}
use Rattle.fit_laws.proofs.Segments.{segments_keep_fitting}
use Rattle.fit_boards.proofs.Calls.{calls_fit, issued_now, these_issued}
use Rattle.fit_boards.proofs.Closing.{followed_fits}
use Rattle.fit_boards.proofs.Given.{behind_of, ends_fit, HasRun, IsLike, value_fits, waits_fit}
use Rattle.fit_boards.proofs.Making.{partition_fits, root_fits}
use Rattle.fit_boards.proofs.Once.{left_once}
use Rattle.fit_boards.proofs.Rows.{going_open, IsBusy, IsOpen, within_by}

-- A state fits behind what a segment yields, with the calls by which operations came: the first of those that it hands over.
pub record Yielded (g : Program) (log : List CallOut) (y : Yield) (u : State) : Type 0 where
  pub more : List CallOut
  pub these : more ≡ take (length more) (calls_in y)
  pub fits : StateFits g (log ++ more) u

none_came : (g : Program) (log : List CallOut) (y : Yield) (u : State) → StateFits g log u → Yielded g log y u
none_came g log y u fits = record { more = []; these = refl; fits = subst (λ l. StateFits g l u) (sym (append-nil log)) fits }

module _ (g : Program) (zeros : (n : ℕ) → NumberIs (g.results n) (pos 0)) (turns : ℕ) (few : turns < 2 ^ 64) (log : List CallOut) (s : State) (k : ℕ) (ps : List Part)
    (run : HasRun g log s k ps) (said : List Said) where
  abbrev place : ℕ
  place = (operation_at s k).frame.task

  yields_fit : (fo : Option Frame) (y : Yield) → IsLeft g run.going.world run.going.task place y fo ps → ((f : Frame) → fo ≡ Some f → IsLike (operation_at s k) f) →
      ((cs : List CallOut) → y ≡ yield.Calls cs → Each (λ (c : CallOut). ArePlaced s.tree c.args) cs) →
      Yielded g log y (yielded g.code turns (behind_of s k ps said fo) k y)
  yields_fit (Some f) (yield.Want root field) left like placed =
      none_came g log _ _ (waits_fit g log s k ps run said f (like f refl) (wait.Part root field) left _)
  yields_fit (Some f) (yield.Await n) left like placed =
      none_came g log _ _ (waits_fit g log s k ps run said f (like f refl) (wait.Child n) left _)
  yields_fit (Some f) (yield.Calls cs) (well, fit) like placed =
      record {
        more = issued_now g zeros turns few log s k ps run said f (like f refl) cs well (placed cs refl) fit;
        these = these_issued g zeros turns few log s k ps run said f (like f refl) cs well (placed cs refl) fit;
        fits = calls_fit g zeros turns few log s k ps run said f (like f refl) cs well (placed cs refl) fit;
      }
  yields_fit (Some f) (yield.Make (made.Root size sp)) (small, (n, met)) like placed =
      none_came g log _ _ (root_fits g log s k ps run said f (like f refl) size sp n met)
  yields_fit (Some f) (yield.Make (made.Partition r sets flag)) (sound, met) like placed =
      none_came g log _ _ (partition_fits g log s k ps run said f (like f refl) r sets flag met)
  yields_fit (Some f) (yield.End v) left like placed = none_came g log _ _ (value_fits g log s k ps run said v left (Some f))
  yields_fit (Some f) (yield.Fault x) left like placed = none_came g log _ _ (ends_fit g log s k ps run said (ending.Fault x) (λ v e. absurd cc) (Some f))
  yields_fit (Some f) yield.MachineFault left like placed = absurd left
  yields_fit None (yield.End v) left like placed = none_came g log _ _ (value_fits g log s k ps run said v left None)
  yields_fit None (yield.Fault x) left like placed = none_came g log _ _ (ends_fit g log s k ps run said (ending.Fault x) (λ v e. absurd cc) None)
  yields_fit None yield.MachineFault left like placed = absurd left
  yields_fit None (yield.Want root field) left like placed = absurd left
  yields_fit None (yield.Await n) left like placed = absurd left
  yields_fit None (yield.Calls cs) left like placed = absurd left
  yields_fit None (yield.Make m) left like placed = absurd left

-- ---- a give

module _ (g : Program) (job : Job) (is : IsSoundJob g job) (log : List CallOut) (s : State) (known : IsKnown s) (fits : StateFits g log s) (k : ℕ) where
  abbrev o : Operation
  o = operation_at s k

  module _ (c : Claim) (b : Before) (act : o.activity ≡ activity.Out c b) where
    pub within : k < length s.operations
    within = within_by s k (subst IsBusy (sym act) tt)

    pub going : Going g log s k o
    going = going_open g log s k o (activity.Out c b) tt (subst (fits_by g log s k o) act (fits.operations k within))

    pub out : OutFits g going.world going.task o b
    out = subst (DoesFit g going.world going.task o) act going.does

    pub after : AfterFits g going.world going.task o.frame.task (segment b)
    after = segments_keep_fitting g going.world going.task o.frame.task b (is.sound.tasks o.frame.task going.task going.there) out.fits

    abbrev has_run : HasRun g log s k (segment b).parts
    has_run = record {
      fits = fits;
      within = within;
      was = subst IsOpen (sym act) tt;
      going = going;
      knows = out.fits.machine.beside.roots;
      once = left_once b out.once;
      parts = after.0;
    }

    pub is_like : (f : Frame) → (segment b).frame ≡ Some f → IsLike o f
    is_like f e =
        let same = segments_keep_frames b f e in
        (same.needs ∙ out.needs, same.task ∙ out.fits.machine.beside.task)

    given_fits : Yielded g log (segment b).ends (given_after g.code job.turns s k (segment b))
    given_fits =
        let here = yields_fit g is.sound.zeros job.turns is.turns log s k (segment b).parts has_run
        (also_said (length o.children) (segment b).text o.said) (segment b).frame (segment b).ends after.1 is_like (λ cs e. known.regions k c b act cs e) in record {
          more = here.more;
          these = here.these;
          fits = followed_fits g (log ++ here.more)
              (yielded g.code job.turns (behind_of s k (segment b).parts (also_said (length o.children) (segment b).text o.said) (segment b).frame) k (segment b).ends) k here.fits;
        }

    -- with the calls that it issued
    issued_fits : (u : State) → Yielded g log (segment b).ends u → StateFits g (log ++ issued_by s k u) u
    issued_fits u y =
        let both = length-append log y.more in
        let new : length y.more ≡ length u.operations - length s.operations = omega (arith, both, y.fits.issued, fits.issued) in
        subst (λ more. StateFits g (log ++ more) u)
        (y.these ∙ ap (λ n. take n (calls_in (segment b).ends)) new ∙ ap (λ a. take (length u.operations - length s.operations) (calls_out a)) (sym act)) y.fits

  pub gives_fit : (seat : ℕ) (u : State) → given job.code job.turns s k seat ≡ Some u → StateFits g (log ++ issued_by s k u) u
  gives_fit seat u e = of o.activity refl e
    where
      by_seat : (c : Claim) (b : Before) (q : Bool) → o.activity ≡ activity.Out c b → cond q (Some (given_after job.code job.turns s k (segment b))) None ≡ Some u → StateFits g (log ++ issued_by s k u) u
      by_seat c b false act d = absurd (none-some u d)
      by_seat c b true act d = issued_fits c b act u (subst (Yielded g log (segment b).ends) (same_Some (given_after job.code job.turns s k (segment b)) u d)
          (subst (λ (z : Code). Yielded g log (segment b).ends (given_after z job.turns s k (segment b))) (sym is.code) (given_fits c b act)))

      of : (a : Activity) → o.activity ≡ a → given_in job.code job.turns s k seat a ≡ Some u → StateFits g (log ++ issued_by s k u) u
      of (activity.Out c b) act d = by_seat c b (c.seat == seat) act d
      of activity.Idle act d = absurd (none-some u d)
      of (activity.Filling c fill) act d = absurd (none-some u d)
      of (activity.Closing x) act d = absurd (none-some u d)
