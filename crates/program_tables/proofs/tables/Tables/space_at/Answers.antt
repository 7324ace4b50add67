use Rattle.std.proofs.Common.{◌≡◌, ap, ◌∙◌, slice_get}
use Rattle.regent_tree.specs.PlainProgram.{tree_of}
use Rattle.regent_tree.specs.StaticTypes.{space_at}
use Rattle.regent_tree.specs.declared.program.FieldSpace.{FieldSpace}
use Rattle.program_tables.proofs.ByKind.{get_found, get_is, get_missing, copied_then, spaces_are}
use Rattle.program_tables.proofs.tables.Tables.space_at.Goals as goal

pub returns-clause-found : goal.returns-clause-found
returns-clause-found c =
    let are = spaces_are _ c.args.self.now _ c.self.view_is c.self.invariant.spaces_ok in
    rw (← are) (get_found _ c.args.place c.get.result c.get.ensures)

pub returns-clause-space : goal.returns-clause-space
returns-clause-space c =
    let are = spaces_are _ c.args.self.now _ c.self.view_is c.self.invariant.spaces_ok in
    copied_then (λ (s : FieldSpace). s ≡ space_at (tree_of c.args.self.now) c.args.place) c.get.result _
    (c.get.ensures ∙ ap (λ l. slice_get l c.args.place) are) (get_is _ c.args.place _)

pub returns-clause-missing : goal.returns-clause-missing
returns-clause-missing c =
    let are = spaces_are _ c.args.self.now _ c.self.view_is c.self.invariant.spaces_ok in
    rw (← are) (get_missing _ c.args.place _ c.get.result c.get.ensures)
