use Rattle.std.proofs.Common.{◌≡◌, ◌∙◌, ℕ, ap, true}
use Rattle.regent_tree.specs.Scopes.{Scope, with_name}
use Rattle.regent_tree.specs.Syntax.{Name, no_statement}
use Rattle.code_rules.specs.Emitted.{emitted}
use Rattle.code_rules.specs.Launches.{launch_code}
use Rattle.code_rules.specs.Statements.{looping, on_line}
use Rattle.compile_types.specs.Here.{where_at}
use Rattle.compile_statements.specs.Scopes.{seen, tree_at, where_in}
use Rattle.compile_statements.specs.Shaped.{call_of}
use Rattle.compile_statements.proofs.Grows.{block_left, loop_names}
use Rattle.compile_statements.proofs.launches.in_one_step.Goals as goal

pub returns-clause-scope : goal.returns-clause-scope
returns-clause-scope c =
    let s = seen c.args.scope.now in
    let n = c.args.name.now in
    let t = c.args.taken.static_type in
    let inner : seen c.bind.new.self ≡ with_name s n t true =
    c.in_ok-bind.ensures ∙ ap (λ (m : Name). with_name s m t true) c.in_ok-copy_name.ensures in
    block_left s (with_name s n t true) c.bind.new.self c.leave.new.self inner
    (loop_names (tree_at c.args.at.now) s n t no_statement) (rw c.mark-mark.ensures at c.leave.ensures)

pub returns-clause-code : goal.returns-clause-code
returns-clause-code c =
    let at = c.args.at.now in
    let w = where_in at c.args.scope.now in
    let s = seen c.args.scope.now in
    let n = c.args.name.now in
    let t = c.args.taken.static_type in
    let b = c.args.body.now in
    let call = call_of c.args.call.now in
    let inner : seen c.bind.new.self ≡ with_name s n t true =
    c.in_ok-bind.ensures ∙ ap (λ (m : Name). with_name s m t true) c.in_ok-copy_name.ensures in
    c.in_ok-launch_in.ensures
    ∙ ap (λ (u : Scope). emitted b (launch_code w (where_at at.site.now u call.line) n c.in_ok-space.space call)) inner
    ∙ ap (λ (x : ℕ). emitted b (launch_code w (on_line (looping w n t) call.line) n x call)) c.in_ok-space.ensures
