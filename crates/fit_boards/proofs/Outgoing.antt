-- What a segment is run from fits, where what its operation waited for has come.
use Rattle.std.proofs.Common.{◌≡◌, ℕ, pos, List, ◌++◌, true, Some, None, Option, refl, sym, ap, ◌∙◌, subst, append-nil}
use Rattle.std.specs.Prelude.{slice_get}
use Rattle.region_tree.specs.declared.piece.Part.{Part}
use Rattle.region_tree.specs.declared.tree.OpNumber.{OpNumber}
use Rattle.logical_map.specs.Fills.{Filling as Fill}
use Rattle.task_code.specs.declared.code.Code.{Code}
use Rattle.task_code.specs.declared.code.TaskCode.{TaskCode}
use Rattle.machine_terms.specs.declared.frame.Before.{Before}
use Rattle.machine_terms.specs.declared.frame.Frame.{Frame}
use Rattle.machine_terms.specs.declared.outcome.CallOut.{CallOut}
use Rattle.machine_terms.specs.Parts.{is_needed, part_of}
use Rattle.board_terms.specs.declared.claim.Claim.{Claim}
use Rattle.board_terms.specs.declared.operation.Activity.{Activity}
use Rattle.board_terms.specs.declared.operation.Activity.TheVariants as activity
use Rattle.board_terms.specs.declared.operation.Ending.TheVariants as ending
use Rattle.board_terms.specs.declared.operation.Operation.{Operation}
use Rattle.board_terms.specs.declared.operation.Wait.{Wait}
use Rattle.board_terms.specs.declared.operation.Wait.TheVariants as wait
use Rattle.board_terms.specs.Claims.{before_of, filled_parts, frame_behind, part_filled, value_at, value_of}
use Rattle.board_terms.specs.States.{State, operation_at}
use Rattle.fit_rules.specs.Shapes.{NumberIs, Shape, World}
use Rattle.fit_rules.specs.Fits.{Fits, Program}
use Rattle.fit_runs.proofs.Claiming.{needed_there}
use Rattle.fit_boards.specs.Fitting.{AreOnce, ChildGives, FillsFor, gives_by, Going, MayGoOn, OutFits}
use Rattle.fit_boards.proofs.Filling.{part_fits, part_once}
use Rattle.fit_boards.proofs.Once.{once_more}

-- ---- a child's value

value_fits : (g : Program) (sh : Shape) (k : ℕ) (a : Activity) → NumberIs sh (pos 0) → gives_by g sh k a → NumberIs sh (value_of a)
value_fits g sh k activity.Idle none h = none
value_fits g sh k (activity.Filling c fill) none h = none
value_fits g sh k (activity.Out c b) none h = none
value_fits g sh k (activity.Closing (ending.Value None)) none h = none
value_fits g sh k (activity.Closing (ending.Value (Some z))) none h = h
value_fits g sh k (activity.Closing (ending.Fault f)) none h = none
value_fits g sh k (activity.Closing ending.Broken) none h = none

child_fits : (g : Program) (log : List CallOut) (s : State) (sh : Shape) (c : Option OpNumber) → ChildGives g log s sh c → NumberIs sh (value_at s c)
child_fits g log s sh None h = absurd h
child_fits g log s sh (Some c) (low, gives, of_call) = value_fits g sh (operation_at s c.0).frame.task (operation_at s c.0).activity gives.0 gives.1

-- ---- what is wanted

-- a root of which a field is wanted is one that the operation knows
pub wanted_there : (g : Program) (x : World) (t : TaskCode) (k : ℕ) (f : Frame) (parts : List Part) (root field : ℕ) →
    Fits g x t k (record { frame = f; parts = parts }) → is_needed f.needs.items root field ≡ true → x.there root ≡ true
wanted_there g x t k f parts root field h e = needed_there g x t h.beside.roots f.needs.items h.beside.needs root field e

module _ (g : Program) (log : List CallOut) (code : Code) (same : code ≡ g.code) (s : State) (n : ℕ) (o : Operation) (a : Going g log s n o) where
  abbrev x : World
  x = a.world

  abbrev t : TaskCode
  t = a.task

  abbrev k : ℕ
  k = o.frame.task

  -- ---- the machine

  machine_fits : (w : Wait) (fill : Option Fill) → MayGoOn g x t k w (record { frame = o.frame; parts = o.parts }) → FillsFor g x t w fill →
      Fits g x t k (record { frame = frame_behind s o w; parts = o.parts ++ filled_parts fill })
  machine_fits wait.Beginning None h f = subst (λ ps. Fits g x t k (record { frame = o.frame; parts = ps })) (sym (append-nil o.parts)) h
  machine_fits wait.Beginning (Some q) h f = absurd f
  machine_fits wait.Nothing None h f = subst (λ ps. Fits g x t k (record { frame = o.frame; parts = ps })) (sym (append-nil o.parts)) h
  machine_fits wait.Nothing (Some q) h f = absurd f
  machine_fits (wait.Child n) None (fit, low, met) f =
      subst (λ ps. Fits g x t k (record { frame = frame_behind s o (wait.Child n); parts = ps })) (sym (append-nil o.parts))
      (met (value_at s (slice_get o.children n)) (child_fits g log s (x.results n) (slice_get o.children n) (a.results n low)))
  machine_fits (wait.Child n) (Some q) h f = absurd f
  machine_fits (wait.Part root field) None h f = absurd f
  machine_fits (wait.Part root field) (Some q) (fit, needed, none, met) f =
      met (part_filled q) f.root_is f.field_is (part_fits g x t root.0 field q (wanted_there g x t k o.frame o.parts root.0 field fit needed) f)

  -- ---- its parts and needs

  parts_once : (w : Wait) (fill : Option Fill) → MayGoOn g x t k w (record { frame = o.frame; parts = o.parts }) → FillsFor g x t w fill →
      AreOnce (o.parts ++ filled_parts fill)
  parts_once w None h f = subst AreOnce (sym (append-nil o.parts)) a.once
  parts_once wait.Beginning (Some q) h f = absurd f
  parts_once wait.Nothing (Some q) h f = absurd f
  parts_once (wait.Child n) (Some q) h f = absurd f
  parts_once (wait.Part root field) (Some q) (fit, needed, none, met) f =
      once_more o.parts (part_filled q) a.once (part_once g x t root.0 field q f)
      (ap (λ r. part_of o.parts r q.field) f.root_is ∙ ap (part_of o.parts root.0) f.field_is ∙ none)

  needs_same : (w : Wait) → (frame_behind s o w).needs ≡ o.frame.needs
  needs_same wait.Beginning = refl
  needs_same wait.Nothing = refl
  needs_same (wait.Part root field) = refl
  needs_same (wait.Child n) = refl

  own_same : (w : Wait) → (frame_behind s o w).own ≡ o.frame.own
  own_same wait.Beginning = refl
  own_same wait.Nothing = refl
  own_same (wait.Part root field) = refl
  own_same (wait.Child n) = refl

  pub out_fits : (c : Claim) (fill : Option Fill) → FillsFor g x t o.wait fill → (b : Before) → b ≡ before_of code s o fill →
      OutFits g x t (record o { activity = activity.Out c b }) b
  out_fits c fill f b e = subst (λ (q : Before). OutFits g x t (record o { activity = activity.Out c q }) q) (sym e) (record {
    fits = record { code = same; machine = machine_fits o.wait fill a.waits f };
    needs = needs_same o.wait;
    own = own_same o.wait;
    once = parts_once o.wait fill a.waits f;
  })
