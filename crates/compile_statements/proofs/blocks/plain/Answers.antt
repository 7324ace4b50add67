use Rattle.std.proofs.Common.{◌≡◌, ◌∙◌, OnOk, ap, subst, sym}
use Rattle.regent_tree.specs.PlainProgram.{form_of}
use Rattle.code_rules.specs.Emitted.{emitted}
use Rattle.code_rules.specs.Pieces.{Piece}
use Rattle.code_rules.specs.Slots.{Where}
use Rattle.code_rules.specs.Statements.{form_code}
use Rattle.compile_statements.specs.Scopes.{where_in}
use Rattle.compile_statements.proofs.Forms.{plain_by}
use Rattle.compile_statements.proofs.blocks.plain.Goals as goal

pub returns-clause-code : goal.returns-clause-code
returns-clause-code c shapes =
    let form = form_of c.args.what.now in
    let whole = ap (λ (w : Where). form_code w form) c.here.ensures
    ∙ sym (plain_by shapes (where_in c.args.at.now c.args.scope.now) form c.requires) in
    subst (λ (p : Piece). OnOk c.without_block.result (c.without_block.new.body ≡ emitted c.args.body.now p)) whole c.without_block.ensures
