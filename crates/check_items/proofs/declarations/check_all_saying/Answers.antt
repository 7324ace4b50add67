use Rattle.std.proofs.Common.{ap, subst, ◌∙◌, sym}
use Rattle.std.specs.Option.{option_or}
use Rattle.std.proofs.lemmas.Result.{err_from_is_err_and}
use Rattle.regent_tree.specs.PlainProgram.{tree_of}
use Rattle.check_rules.specs.first.FirstInItems.{first_of_saying}
use Rattle.check_rules.specs.first.Rules.{first_in}
use Rattle.static_types.specs.Telling.{Anything}
use Rattle.check_items.specs.Declaring.{declared_with}
use Rattle.check_items.specs.Halting.{TellsAt}
use Rattle.check_items.proofs.Declaring.{saying_split, told_here}
use Rattle.check_items.proofs.declarations.check_all_saying.Goals as goal

pub returns-in_err-check_saying : goal.returns-in_err-check_saying
returns-in_err-check_saying c =
    let whole = saying_split (tree_of c.args.tables.now) c.args.names.now c.args.params.now c.args.more.now c.requires in
    let p = err_from_is_err_and c.from_residual.result c.from_residual.ensures.1 in
    rw (p.1, p.2) (told_here _ _ _ _ whole c.in_err-check_saying.ensures)

pub returns : goal.returns
returns c =
    let whole = saying_split (tree_of c.args.tables.now) c.args.names.now c.args.params.now c.args.more.now c.requires in
    let rest = first_in (first_of_saying (tree_of c.args.tables.now)) (declared_with c.args.names.now c.args.more.now) in
    subst (TellsAt Anything c.check_saying-2.result) (sym (ap (λ o. option_or o rest) c.in_ok-check_saying.ensures.0) ∙ whole) c.check_saying-2.ensures
