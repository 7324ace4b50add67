use Rattle.std.proofs.Common.{ap, ◌∙◌}
use Rattle.std.proofs.lemmas.Result.{err_from_is_err_and}
use Rattle.regent_tree.specs.PlainProgram.{tree_of}
use Rattle.regent_tree.specs.declared.program.Program.{Program}
use Rattle.check_rules.specs.Acceptance.{input_widths}
use Rattle.check_rules.specs.launches.Shapes.{loops}
use Rattle.type_check.proofs.Whole.{bodies_none, bodies_stop, items_sound, items_stop}
use Rattle.type_check.proofs.checked.Goals as goal

pub new-declared-requires : goal.new-declared-requires
new-declared-requires c = items_sound (tree_of c.in_ok-tables.tables) c.in_ok-inputs.ensures.0

pub returns-in_err-inputs : goal.returns-in_err-inputs
returns-in_err-inputs c =
    let p = err_from_is_err_and c.from_residual-in_err-inputs.result c.from_residual-in_err-inputs.ensures.1 in
    rw (p.1, p.2) (items_stop c.in_err-inputs.field-0.0 c.args.program.now c.in_ok-tables.tables
    c.in_ok-tables.ensures c.in_err-inputs.ensures)

pub returns-in_err-loops : goal.returns-in_err-loops
returns-in_err-loops c =
    let p = err_from_is_err_and c.from_residual-in_err-loops.result c.from_residual-in_err-loops.ensures.1 in
    rw (p.1, p.2) (bodies_stop c.in_err-loops.field-0.0 c.args.program.now c.in_ok-tables.tables c.new-declared.result
    c.in_ok-tables.ensures c.new-declared.ensures c.in_ok-inputs.ensures.0 c.in_err-loops.ensures)

pub returns : goal.returns
returns c = (
  bodies_none c.args.program.now c.in_ok-tables.tables c.new-declared.result
      c.in_ok-tables.ensures c.new-declared.ensures c.in_ok-inputs.ensures.0 c.in_ok-loops.ensures.0,
  (
    c.in_ok-inputs.ensures.1 ∙ ap (λ (p : Program). input_widths (tree_of p)) c.in_ok-tables.ensures,
    c.in_ok-loops.ensures.1 ∙ ap (λ (p : Program). loops (tree_of p)) (c.new-declared.ensures ∙ c.in_ok-tables.ensures),
  ),
)
