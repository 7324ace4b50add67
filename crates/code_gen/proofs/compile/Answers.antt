use Rattle.std.proofs.Common.{◌≡◌, ◌∙◌, IfOk, List, ap, subst}
use Rattle.regent_tree.specs.PlainProgram.{tree_of}
use Rattle.regent_tree.specs.declared.program.Program.{Program}
use Rattle.task_code.specs.declared.code.Code.{Code}
use Rattle.check_rules.specs.declared.loop_shape.LoopShape.{LoopShape}
use Rattle.code_rules.specs.Programs.{code_of}
use Rattle.code_gen.specs.Shaped.{code_by}
use Rattle.code_gen.proofs.Shapes.{code_as}
use Rattle.code_gen.proofs.compile.Goals as goal

pub returns : goal.returns
returns c =
    let tree = tree_of c.args.accepted.now in
    let whole : code_by c.loops.result.now (tree_of c.program.result.now) ≡ code_of tree =
    ap (λ (p : Program). code_by c.loops.result.now (tree_of p)) c.program.ensures
    ∙ ap (λ (ls : List LoopShape). code_by ls tree) c.loops.ensures.all ∙ code_as tree c.loops.ensures.sound in
    subst (λ (k : Code). IfOk c.code_of.result (λ code. code ≡ k)) whole c.code_of.ensures
