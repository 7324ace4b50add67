use Rattle.std.proofs.Common.{◌≡◌, List, ap, ◌∙◌}
use Rattle.std.proofs.lemmas.Result.{IfOk-weaker}
use Rattle.region_tree.specs.declared.piece.Part.{Part}
use Rattle.machine_terms.specs.declared.frame.Frame.{Frame}
use Rattle.machine_terms.specs.Segments.{segment}
use Rattle.plain_run.proofs.segments.run_taken.Goals as goal

pub returns-clause-after : goal.returns-clause-after
returns-clause-after c =
    let i = c.args.instance.now in
    IfOk-weaker c.run.result _ _ (λ a e. e
    ∙ ap (λ (f : Frame). segment (record { code = c.args.code.now; frame = f; parts = c.replace-parts.result })) c.replace-frame.ensures.value
    ∙ ap (λ (ps : List Part). segment (record { code = c.args.code.now; frame = i.frame; parts = ps })) c.replace-parts.ensures.value)
    c.run.ensures
