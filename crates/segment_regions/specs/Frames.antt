-- What of a frame a segment leaves as it is.
use Rattle.std.specs.Prelude.{◌≡◌, Some}
use Rattle.machine_terms.specs.declared.frame.Before.{Before}
use Rattle.machine_terms.specs.declared.frame.Frame.{Frame}
use Rattle.machine_terms.specs.Segments.{segment}

-- the frame is of the same task at the same depth, with the needs and the roots that it had
pub record IsSameFrame (f g : Frame) : Type 0 where
  pub task : g.task ≡ f.task
  pub depth : g.depth ≡ f.depth
  pub needs : g.needs ≡ f.needs
  pub own : g.own ≡ f.own

abbrev pub SegmentsKeepFrames : Type 0
SegmentsKeepFrames = (b : Before) (g : Frame) → (segment b).frame ≡ Some g → IsSameFrame b.frame g
