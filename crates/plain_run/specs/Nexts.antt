-- What follows for an instance that is changed in place.
use Rattle.std.specs.Prelude.{◌≡◌, Bool, List, None, Option, Some, cond, false, true}
use Rattle.region_tree.specs.Requirements.{Requirement, is_within}
use Rattle.machine_terms.specs.declared.frame.Frame.{Frame}
use Rattle.machine_terms.specs.declared.order.Ended.{Ended}
use Rattle.machine_terms.specs.declared.order.Instance.{Instance}
use Rattle.machine_terms.specs.declared.order.Resumed.{Resumed}
use Rattle.machine_terms.specs.declared.order.Resumed.TheVariants.{GoesOn, IsOver}
use Rattle.machine_terms.specs.declared.outcome.After.{After}
use Rattle.machine_terms.specs.declared.outcome.Yield.{Yield}
use Rattle.machine_terms.specs.Orders.{Runner, after_call, breaks, with_parts}
use Rattle.plain_store.specs.declared.holder.Holder.{Holder}

-- the instance goes on, unless it is over
abbrev pub resumed_as : Option Ended → Instance → Resumed
resumed_as None i = GoesOn i
resumed_as (Some e) i = IsOver e

-- the frame that a segment left; where it left none, the roots of the frame before are kept
abbrev pub FrameLeft : Option Frame → Bool → Frame → Frame → Type 0
FrameLeft (Some f) goes_on old new = (goes_on ≡ true) × (new ≡ f)
FrameLeft None goes_on old new = (goes_on ≡ false) × (new.own ≡ old.own)

-- a segment was run in an instance, and stopped so
pub record HasRun (a : After) (goes_on : Bool) (ends : Yield) (old new : Instance) : Type 0 where
  pub stops : ends ≡ a.ends
  pub frame : FrameLeft a.frame goes_on old.frame new.frame
  pub rest : new ≡ record (with_parts a old) { frame = new.frame }

-- what follows behind a call whose child runs in this instance; without one the run breaks
abbrev pub called : Runner → Option Holder → Instance → Resumed
called child (Some h) i = after_call (child h.instance) i
called child None i = breaks i

-- what a call needs, if that is within what its caller needs
abbrev pub needed : Option (List Requirement) → List Requirement → Option (List Requirement)
needed None held = None
needed (Some needs) held = cond (is_within needs held) (Some needs) None
