-- A new board fits, each step keeps that, and what is handed out of a board that fits does.
use Rattle.std.proofs.Common.{◌≡◌, ℕ, zero, suc, ◌<◌, ◌-◌, List, [], ◌∷◌, ◌++◌, Bool, true, false, cond, None, Some, Option, refl, sym, ap, ◌∙◌, subst, arith, length, map, append-nil}
use Rattle.std.specs.Prelude.{slice_get, take}
use Rattle.std.proofs.lemmas.Bool.{false≢true}
use Rattle.std.proofs.lemmas.Option.{none-some, same_Some}
use Rattle.region_tree.specs.Needs.{requirements_of}
use Rattle.region_tree.specs.Trees.{empty_tree}
use Rattle.region_tree.specs.declared.needs.Need.{Need}
use Rattle.region_tree.specs.declared.needs.Needs.{Needs}
use Rattle.region_tree.specs.declared.tree.OpNumber.{OpNumber}
use Rattle.region_tree.specs.declared.tree.RootId.{RootId}
use Rattle.dependence_graph.specs.Knots.{number}
use Rattle.run_journal.specs.declared.entry.StepKind.TheVariants.{Back, Claim, Copy, Give}
use Rattle.task_code.specs.declared.code.Code.{Code}
use Rattle.task_code.specs.declared.code.NeedCode.{NeedCode}
use Rattle.task_code.specs.declared.code.TaskCode.{TaskCode}
use Rattle.task_code.specs.declared.job.Job.{Job}
use Rattle.machine_terms.specs.declared.outcome.CallOut.{CallOut}
use Rattle.machine_terms.specs.declared.value.Value.{Value}
use Rattle.machine_terms.specs.declared.value.Value.TheVariants.{Number}
use Rattle.machine_terms.specs.Jobs.{first_frame, may_start}
use Rattle.machine_terms.specs.Opening.{needs_on}
use Rattle.board_terms.specs.declared.operation.Activity.TheVariants as activity
use Rattle.board_terms.specs.States.{State, called_by, opened_with, operation_at, void_state, with_main}
use Rattle.fit_rules.specs.Shapes.{Each, Shape}
use Rattle.fit_rules.specs.Fits.{declared_claims, Program}
use Rattle.fit_rules.specs.Ends.{called}
use Rattle.fit_boards.specs.Fitting.{ChildGives, DoesFit, fits_by, Going, IsOfCall, OutFits, StateFits}
use Rattle.fit_boards.specs.Steps.{calls_out, first_call, FirstFits, IsSoundJob, issued_by, NewBoardsFit, OutsFit, StepsKeepFitting}
use Rattle.fit_boards.proofs.Claims.{backs_fit, claims_fit, copies_fit}
use Rattle.fit_boards.proofs.Rows.{going_open, IsBusy, within_by}
use Rattle.fit_boards.proofs.Yields.{gives_fit}

-- no operation came where the calls are the same
none_issued : (g : Program) (log : List CallOut) (s u : State) (k : ℕ) → StateFits g log s → StateFits g log u → StateFits g (log ++ issued_by s k u) u
none_issued g log s u k old new =
    let none : length u.operations - length s.operations ≡ 0 = omega (arith, old.issued, new.issued) in
    subst (λ n. StateFits g (log ++ take n (calls_out (operation_at s k).activity)) u) (sym none) (subst (λ l. StateFits g l u) (sym (append-nil log)) new)

pub steps_keep_fitting : StepsKeepFitting
steps_keep_fitting g job is log s known fits Claim k seat u e = none_issued g log s u k fits (claims_fit g log s fits k known seat u e)
steps_keep_fitting g job is log s known fits Copy k seat u e = none_issued g log s u k fits (copies_fit g log s fits k known job is.code seat u e)
steps_keep_fitting g job is log s known fits Give k seat u e = gives_fit g job is log s known fits k seat u e
steps_keep_fitting g job is log s known fits Back k seat u e = none_issued g log s u k fits (backs_fit g log s fits k seat u e)

-- ---- a new board

pub void_fits : (g : Program) (c : CallOut) → StateFits g (c ∷ []) void_state
void_fits g c = record { issued = refl; counted = refl; map = λ r f l. absurd (omega (arith, l)); operations = of }
  where
    of : (k : ℕ) → k < 1 → fits_by g (c ∷ []) void_state k (operation_at void_state k) (operation_at void_state k).activity
    of zero l = tt
    of (suc k) l = absurd (omega (arith, l))

-- what needs nothing needs no regions
none_needed : (ns : List NeedCode) (vs : List Value) → ns ≡ [] → Each (λ (n : Need). n.node.0 < 0) (needs_on ns vs) × (requirements_of empty_tree (needs_on ns vs) ≡ declared_claims ns vs)
none_needed [] vs e = (tt, refl)
none_needed (n ∷ ns) vs e = absurd cc

module _ (g : Program) (job : Job) (t : TaskCode) (is : IsSoundJob g job) (first : FirstFits g job t) where
  abbrev begun : State
  begun = with_main (first_frame job t)

  abbrev log : List CallOut
  log = first_call job ∷ []

  main_going : Going g log begun 0 (called_by (number 0) (first_frame job t))
  main_going =
      let needs = none_needed t.needs (map Number job.inputs) first.needs in record {
        world = called first.world (map Number job.inputs);
        task = t;
        there = ap (λ (c : Code). slice_get c.tasks job.code.start) (sym is.code) ∙ first.there;
        call = first_call job;
        issued = refl;
        named = refl;
        args = refl;
        roots = λ r e. absurd (false≢true (sym (first.none r) ∙ e));
        nodes = needs.0;
        required = needs.1 ∙ sym (append-nil (declared_claims t.needs (map Number job.inputs)));
        once = tt;
        count = refl;
        results = λ n l. absurd (omega (arith, l));
        waits = first.fits;
        does = tt;
      }

  main_fits : StateFits g log begun
  main_fits = record { issued = refl; counted = refl; map = λ r f l. absurd (omega (arith, l)); operations = of }
    where
      of : (k : ℕ) → k < 1 → fits_by g log begun k (operation_at begun k) (operation_at begun k).activity
      of zero l = main_going
      of (suc k) l = absurd (omega (arith, l))

  pub board_fits : StateFits g log (opened_with job (slice_get job.code.tasks job.code.start))
  board_fits = subst (λ o. StateFits g log (opened_with job o)) (sym first.there) (of (may_start job t))
    where
      of : (b : Bool) → StateFits g log (cond b begun void_state)
      of true = main_fits
      of false = void_fits g (first_call job)

pub new_boards_fit : NewBoardsFit
new_boards_fit g job t is first = board_fits g job t is first

-- ---- what is handed out

-- a child's result is what its task gives
child_of : (g : Program) (log : List CallOut) (s : State) (sh : Shape) (o : Option OpNumber) (c : OpNumber) → ChildGives g log s sh o → o ≡ Some c → IsOfCall g log sh c.0
child_of g log s sh None c h e = absurd h
child_of g log s sh (Some d) c (low, gives, of_call) e = subst (λ (n : OpNumber). IsOfCall g log sh n.0) (same_Some d c e) of_call

-- a child has a place below their count
child_low : (cs : List OpNumber) (n : ℕ) (c : OpNumber) → slice_get cs n ≡ Some c → n < length cs
child_low [] n c e = absurd (none-some c e)
child_low (d ∷ cs) zero c e = omega arith
child_low (d ∷ cs) (suc n) c e = let l = child_low cs n c e in omega (arith, l)

pub outs_fit : OutsFit
outs_fit g log s fits k c b act =
    let o = operation_at s k in
    let within = within_by s k (subst IsBusy (sym act) tt) in
    let going : Going g log s k o = going_open g log s k o (activity.Out c b) tt (subst (fits_by g log s k o) act (fits.operations k within)) in
    let out : OutFits g going.world going.task o b = subst (DoesFit g going.world going.task o) act going.does in record {
      world = going.world;
      task = going.task;
      there = going.there;
      fits = out.fits;
      call = going.call;
      issued = going.issued;
      named = going.named;
      args = going.args;
      roots = going.roots;
      own = sym out.fits.machine.beside.own ∙ ap (map (λ (r : RootId). r.0)) out.own;
      needs = out.needs;
      required = ap (λ (n : Needs). requirements_of s.tree n.items) out.needs ∙ going.required;
      count = going.count;
      results = λ n d e. let low = child_low o.children n d e in
          child_of g log s (going.world.results n) (slice_get o.children n) d (going.results n (omega (arith, low, going.count))) e;
    }
