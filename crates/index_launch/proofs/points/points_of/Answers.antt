use Rattle.std.proofs.Common.{◌∙◌, ap, map}
use Rattle.std.proofs.lemmas.List.{map-append}
use Rattle.index_launch.proofs.Calls.{one_call_more}
use Rattle.index_launch.proofs.points.points_of.Goals as goal

pub loop-colour-preserved : goal.loop-colour-preserved
loop-colour-preserved c =
    one_call_more c.args.args.now c.loop-colour.colour c.args.colours c.in_ok-call_at.field-0.items _ _ _
    c.loop-colour-test.true c.in_ok-call_at.ensures
    (ap (map (λ call. call.items)) c.in_ok-push.ensures.items ∙ map-append (λ call. call.items) c.loop-colour.calls.items _)
    c.loop-colour.invariant
