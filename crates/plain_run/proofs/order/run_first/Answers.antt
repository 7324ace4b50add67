use Rattle.std.proofs.Common.{◌≡◌, [], List, sym, ap, ◌∙◌}
use Rattle.std.proofs.lemmas.Result.{IfOk-weaker}
use Rattle.region_tree.specs.Requirements.{Requirement}
use Rattle.task_code.specs.declared.code.Code.{Code}
use Rattle.machine_terms.specs.declared.frame.Frame.{Frame}
use Rattle.machine_terms.specs.declared.order.Contents.{Contents}
use Rattle.machine_terms.specs.declared.order.Ended.{Ended}
use Rattle.machine_terms.specs.Contents.{no_contents}
use Rattle.machine_terms.specs.Jobs.{first_frame, outcome}
use Rattle.machine_terms.specs.Orders.{begun, runs}
use Rattle.plain_store.specs.declared.holder.Holder.{Holder}
use Rattle.plain_run.proofs.Calling.{first_run}
use Rattle.plain_run.proofs.order.run_first.Goals as goal

pub returns : goal.returns
returns c =
    let job = c.args.job.now in
    let t = c.args.task.now in
    let empty = c.no_contents.result in
    let ended : c.in_ok-ended.ended
    ≡ runs job.code job.turns 64 (begun (first_frame job t) [] no_contents) =
    c.in_ok-ended.ensures
    ∙ ap (λ (code : Code). runs code job.turns 64 c.begun-first.result.instance) c.get.ensures ∙
    ap (λ (h : Holder). runs job.code job.turns 64 h.instance) c.begun-first.ensures ∙
    ap (λ (f : Frame). runs job.code job.turns 64 (begun f c.new.result empty)) c.in_ok-frame.ensures ∙
    ap (λ (rs : List Requirement). runs job.code job.turns 64 (begun (first_frame job t) rs empty)) c.new.ensures ∙
    ap (λ (k : Contents). runs job.code job.turns 64 (begun (first_frame job t) [] k)) c.no_contents.ensures in
    IfOk-weaker c.outcome.result _ _
    (λ o e. first_run job t o (sym c.may_start.ensures ∙ c.if-not-may_start.false)
    (e ∙ ap (λ (x : Ended). outcome x) ended)) c.outcome.ensures
