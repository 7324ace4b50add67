-- What a vector inside a tree means is what the list of its items means.
use Rattle.std.proofs.Common.{◌≡◌, Option, Some, None, refl, ap, sym, ◌∙◌}
use Rattle.std.specs.declared.alloc.Global.{Global}
use Rattle.std.specs.declared.vec.Vec.{Vec}
use Rattle.regent_tree.specs.declared.expression.Expr.{Expr, Row_of-Link, end_of-Link, more_of-Link, items-the_row-Link, items_hidden-the_row-Link-0, Row_of-Expr, end_of-Expr, more_of-Expr, items-the_row-Expr, items_hidden-the_row-Expr-1, Row_of-Step, end_of-Step, more_of-Step, items-the_row-Step, items_hidden-the_row-Step-2}
use Rattle.regent_tree.specs.declared.expression.Expr.TheBlock.{hidden-the_row-Link-0, hidden-the_row-Expr-1, hidden-the_row-Step-2}
use Rattle.regent_tree.specs.declared.expression.Link.{Link}
use Rattle.regent_tree.specs.declared.expression.Step.{Step, Field, At}
use Rattle.regent_tree.specs.declared.statement.What.{Row_of-Stmt, end_of-Stmt, more_of-Stmt, items-the_row-Stmt, items_hidden-the_row-Stmt-1, Row_of-Arm, end_of-Arm, more_of-Arm, items-the_row-Arm, items_hidden-the_row-Arm-0}
use Rattle.regent_tree.specs.declared.statement.What.TheBlock.{hidden-the_row-Arm-0, hidden-the_row-Stmt-1, back-What-If-1}
use Rattle.regent_tree.specs.declared.statement.Arm.{Arm, Arm', out-Arm, items_shown-the_row-Stmt-1}
use Rattle.regent_tree.specs.declared.statement.Stmt.{Stmt}
use Rattle.regent_tree.specs.Syntax.{Arms, an_arm, else_block, a_link, an_expr, field_step, at_step, a_statement, then_statement}
use Rattle.regent_tree.specs.Plain.{expression_of, links_of, links_in, expressions_of, expressions_in, steps_of, steps_in}
use Rattle.regent_tree.specs.PlainProgram.{form_of, block_of, block_in, arms_of, arm_before, arms_in, otherwise_of, otherwise_in}

links_of_row : {m : _} (row : Row_of-Link m) → links_of row ≡ links_in (items-the_row-Link m row)
links_of_row end_of-Link = refl
links_of_row (more_of-Link operator operand rest) = ap (a_link operator (expression_of operand)) (links_of_row rest)

pub links_of_vec : (rest : Vec Link Global) → links_of (hidden-the_row-Link-0 rest) ≡ links_in rest.items
links_of_vec rest = links_of_row (hidden-the_row-Link-0 rest) ∙ ap links_in (items_hidden-the_row-Link-0 rest)

expressions_of_row : {m : _} (row : Row_of-Expr m) → expressions_of row ≡ expressions_in (items-the_row-Expr m row)
expressions_of_row end_of-Expr = refl
expressions_of_row (more_of-Expr e rest) = ap (an_expr (expression_of e)) (expressions_of_row rest)

pub expressions_of_vec : (args : Vec Expr Global) → expressions_of (hidden-the_row-Expr-1 args) ≡ expressions_in args.items
expressions_of_vec args = expressions_of_row (hidden-the_row-Expr-1 args) ∙ ap expressions_in (items_hidden-the_row-Expr-1 args)

steps_of_row : {m : _} (row : Row_of-Step m) → steps_of row ≡ steps_in (items-the_row-Step m row)
steps_of_row end_of-Step = refl
steps_of_row (more_of-Step (Field name) rest) = ap (field_step name) (steps_of_row rest)
steps_of_row (more_of-Step (At e) rest) = ap (at_step (expression_of e)) (steps_of_row rest)

pub steps_of_vec : (steps : Vec Step Global) → steps_of (hidden-the_row-Step-2 steps) ≡ steps_in steps.items
steps_of_vec steps = steps_of_row (hidden-the_row-Step-2 steps) ∙ ap steps_in (items_hidden-the_row-Step-2 steps)

pub block_of_row : {m : _} (row : Row_of-Stmt m) → block_of row ≡ block_in (items-the_row-Stmt m row)
block_of_row end_of-Stmt = refl
block_of_row (more_of-Stmt line what rest) = ap (then_statement (a_statement line (form_of what))) (block_of_row rest)

pub block_of_vec : (body : Vec Stmt Global) → block_of (hidden-the_row-Stmt-1 body) ≡ block_in body.items
block_of_vec body = block_of_row (hidden-the_row-Stmt-1 body) ∙ ap block_in (items_hidden-the_row-Stmt-1 body)

arms_of_row : {m : _} (row : Row_of-Arm m) → arms_of row ≡ arms_in (items-the_row-Arm m row)
arms_of_row end_of-Arm = refl
arms_of_row (more_of-Arm (Arm' test shape body) rest) = ap (an_arm (expression_of test) (block_of body)) (arms_of_row rest)

pub arms_of_vec : (arms : Vec Arm Global) → arms_of (hidden-the_row-Arm-0 arms) ≡ arms_in arms.items
arms_of_vec arms = arms_of_row (hidden-the_row-Arm-0 arms) ∙ ap arms_in (items_hidden-the_row-Arm-0 arms)

pub otherwise_of_option : (other : Option (Vec Stmt Global)) → otherwise_of (back-What-If-1 other) ≡ otherwise_in other
otherwise_of_option None = refl
otherwise_of_option (Some body) = ap else_block (block_of_vec body)

-- an arm means what its parts mean
pub arm_read : (a : Arm) (rest : Arms) → arm_before a rest ≡ an_arm (expression_of (out-Arm a).test) (block_in (out-Arm a).body.items) rest
unfolding out-Arm denote.Hole.Carrier.out
arm_read (Arm' test shape body) rest =
    ap (λ b. an_arm (expression_of test) b rest) (block_of_row body ∙ ap block_in (sym (items_shown-the_row-Stmt-1 shape body)))
