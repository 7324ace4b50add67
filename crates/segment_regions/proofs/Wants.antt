-- What a segment wants is needed.
use Rattle.std.proofs.Common.{◌∙◌, ap, sym, subst}
use Rattle.machine_terms.specs.declared.frame.Frame.{Frame}
use Rattle.machine_terms.specs.declared.outcome.Yield.{Yield}
use Rattle.machine_terms.specs.Parts.{is_needed}
use Rattle.machine_terms.specs.Segments.{stop_of}
use Rattle.machine_terms.proofs.KeptParts.{IsMissing}
use Rattle.segment_regions.specs.Wants.{WantsAreNeeded}
use Rattle.segment_regions.proofs.Asked.{IsAsked, segments_ask}
use Rattle.segment_regions.proofs.Values.{frame_is}

pub wants_are_needed : WantsAreNeeded
wants_are_needed b root field e =
    let missing : IsMissing (stop_of b).machine root.0 field = subst (λ (y : Yield). IsAsked y (stop_of b).machine) e (segments_ask b) in
    record {
      needed = λ f same. ap (λ (g : Frame). is_needed g.needs.items root.0 field) (sym (frame_is (stop_of b).ends (stop_of b).machine.frame f same)) ∙ missing.needed;
      none = missing.none;
    }
