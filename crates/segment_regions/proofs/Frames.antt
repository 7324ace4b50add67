-- A segment leaves what it leaves of its frame as it was.
use Rattle.std.proofs.Common.{◌∙◌, ap, sym}
use Rattle.machine_terms.specs.declared.frame.Frame.{Frame}
use Rattle.machine_terms.specs.Segments.{stop_of}
use Rattle.machine_terms.proofs.Kept.{stop_fixed}
use Rattle.segment_regions.specs.Frames.{SegmentsKeepFrames}
use Rattle.segment_regions.proofs.Values.{frame_is}

pub segments_keep_frames : SegmentsKeepFrames
segments_keep_frames b g e =
    let same = frame_is (stop_of b).ends (stop_of b).machine.frame g e in
    let kept = stop_fixed b in
    record {
      task = ap (λ (f : Frame). f.task) (sym same) ∙ kept.task;
      depth = ap (λ (f : Frame). f.depth) (sym same) ∙ kept.depth;
      needs = ap (λ (f : Frame). f.needs) (sym same) ∙ kept.needs;
      own = ap (λ (f : Frame). f.own) (sym same) ∙ kept.own;
    }
