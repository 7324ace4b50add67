use Rattle.std.proofs.Common.{refl}
use Rattle.std.specs.Option.{option_map}
use Rattle.regent_tree.specs.Plain.{expression_of, expressions_in, initializer_of}
use Rattle.check_expressions.specs.Seen.{seen}
use Rattle.check_expressions.specs.Sites.{task_at, tree_at}
use Rattle.type_check.proofs.Blocks.{found_by, told_by}
use Rattle.check_forms.proofs.ByForm.{call_first, fill_first, print_first}
use Rattle.check_variables.proofs.Varied.{var_first}
use Rattle.type_check.proofs.statements.without_block.Goals as goal

pub returns-in-Var : goal.returns-in-Var
returns-in-Var c =
    rw c.in-Var.is
    (told_by _ c.variable.result _ _
    (var_first (tree_at c.args.site.now) (task_at c.args.site.now) (seen c.args.scope.now) c.in-Var.name c.in-Var.term (option_map initializer_of c.in-Var.init))
    c.variable.ensures)

pub returns-in-Fill : goal.returns-in-Fill
returns-in-Fill c =
    let told = rw c.as_slice.ensures at c.fill.ensures in
    rw c.in-Fill.is
    (found_by _ c.fill.result _ _
    (fill_first (tree_at c.args.site.now) (task_at c.args.site.now) (seen c.args.scope.now) c.in-Fill.region c.in-Fill.fields (expression_of c.in-Fill.value))
    (λ _. refl) told)

pub returns-in-Print : goal.returns-in-Print
returns-in-Print c =
    let told = rw (c.as_slice-in-Print.ensures, c.as_slice-in-Print-2.ensures.value) at c.print.ensures in
    rw c.in-Print.is
    (found_by _ c.print.result _ _
    (print_first (tree_at c.args.site.now) (task_at c.args.site.now) (seen c.args.scope.now) c.in-Print.alias c.in-Print.format (expressions_in c.in-Print.args.items))
    (λ _. refl) told)

pub returns-in-Call : goal.returns-in-Call
returns-in-Call c =
    let told = rw c.as_slice-in-Call.ensures.value at c.call_alone.ensures in
    rw c.in-Call.is
    (found_by _ c.call_alone.result _ _
    (call_first (tree_at c.args.site.now) (task_at c.args.site.now) (seen c.args.scope.now) c.in-Call.task (expressions_in c.in-Call.args.items))
    (λ _. refl) told)
