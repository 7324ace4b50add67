-- What a segment leaves of what it was run from.
use Rattle.std.specs.Prelude.{IfSome}
use Rattle.std.proofs.Common.{◌≡◌}
use Rattle.region_tree.specs.declared.needs.Needs.{Needs}
use Rattle.machine_terms.specs.declared.frame.Before.{Before}
use Rattle.machine_terms.specs.declared.frame.Frame.{Frame}
use Rattle.machine_terms.specs.declared.outcome.Yield.{Yield}
use Rattle.machine_terms.specs.declared.outcome.Yield.TheVariants as yield
use Rattle.machine_terms.specs.Segments.{frame_after, segment, stop_of}
use Rattle.machine_terms.proofs.Kept.{stop_fixed}

needs_in : (y : Yield) (f : Frame) (needs : Needs) → f.needs ≡ needs → IfSome (frame_after y f) (λ g. g.needs ≡ needs)
needs_in (yield.Calls cs) f needs e = e
needs_in (yield.Want root field) f needs e = e
needs_in (yield.Await n) f needs e = e
needs_in (yield.Make m) f needs e = e
needs_in (yield.End v) f needs e = tt
needs_in (yield.Fault k) f needs e = tt
needs_in yield.MachineFault f needs e = tt

-- the frame needs what it needed before
pub segment_needs : (b : Before) → IfSome (segment b).frame (λ g. g.needs ≡ b.frame.needs)
segment_needs b = needs_in (stop_of b).ends (stop_of b).machine.frame b.frame.needs (stop_fixed b).needs
