use Rattle.std.proofs.lemmas.Result.{err_from_is_err_and}
use Rattle.std.proofs.Common.{◌∙◌}
use Rattle.regent_tree.specs.Plain.{initializer_of}
use Rattle.check_expressions.specs.Seen.{seen}
use Rattle.check_expressions.specs.Sites.{task_at, tree_at}
use Rattle.check_variables.proofs.Varied.{both_none, both_stop, by_both_bound}
use Rattle.check_variables.proofs.variables.by_both.Goals as goal

pub returns-in_err-check_begun : goal.returns-in_err-check_begun
returns-in_err-check_begun c =
    let tree = tree_at c.args.site.now in
    let s = seen c.args.scope.now in
    let i = initializer_of c.args.init.now in
    let begun = c.in_ok-begun.begun.static_type in
    let declared = c.in_ok-declared.declared in
    let p = err_from_is_err_and c.from_residual-in_err-check_begun.result c.from_residual-in_err-check_begun.ensures.1 in
    rw (p.1, p.2) (both_stop tree (task_at c.args.site.now) s c.args.term.now i declared begun
    c.in_err-check_begun.field-0.0 c.in_ok-declared.ensures.1 c.in_ok-begun.ensures.1.0 c.in_ok-declared.ensures.0
    c.in_ok-begun.ensures.0 c.in_err-check_begun.ensures)

pub returns : goal.returns
returns c =
    let tree = tree_at c.args.site.now in
    let s = seen c.args.scope.now in
    let i = initializer_of c.args.init.now in
    let begun = c.in_ok-begun.begun.static_type in
    let declared = c.in_ok-declared.declared in (
      both_none tree (task_at c.args.site.now) s c.args.term.now i declared begun c.in_ok-declared.ensures.1
          c.in_ok-begun.ensures.1.0 c.in_ok-declared.ensures.0 c.in_ok-begun.ensures.0 c.in_ok-check_begun.ensures.0,
      (
        c.unless_begun_unknown.ensures
            ∙ by_both_bound tree s c.args.term.now i declared begun c.in_ok-declared.ensures.1 c.in_ok-begun.ensures.1.0
            c.in_ok-check_begun.ensures.0,
        c.in_ok-begun.ensures.1.1,
      ),
    )
