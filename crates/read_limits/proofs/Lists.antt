-- The lists that the loops go through.
use Rattle.std.proofs.Common.{◌≡◌, List, ◌∷◌, ◌++◌, refl, ap, sym, ◌∙◌, append_assoc}
use Rattle.regent_tree.specs.declared.expression.Expr.{Expr}
use Rattle.regent_tree.specs.declared.expression.Link.{Link}
use Rattle.regent_tree.specs.declared.expression.Step.{Step, Field, At}
use Rattle.regent_tree.specs.declared.statement.Arm.{Arm, out-Arm}
use Rattle.regent_tree.specs.declared.statement.Stmt.{Stmt}
use Rattle.regent_tree.specs.declared.types.Param.{Param}
use Rattle.regent_tree.specs.PlainProgram.{form_of, block_in, arms_in}
use Rattle.regent_tree.specs.Plain.{expression_of, links_in, expressions_in, steps_in}
use Rattle.regent_tree.specs.Limits.{node, parts_of_expression, parts_of_links, parts_of_expressions, parts_of_steps, parts_of_term, parts_of_params, parts_of_form, parts_of_block, parts_of_arms}
use Rattle.regent_tree.proofs.Rows.{arm_read}
use Rattle.std.specs.Prelude.{map}
use Rattle.regent_tree.specs.declared.program.Item.{Item}
use Rattle.regent_tree.specs.PlainProgram.{item_of, item_tree_of}
use Rattle.regent_tree.specs.Limits.{parts_of_item, parts_of_items}
use Rattle.read_limits.specs.Parts.{parts_of_step, parts_of_arm}
use Rattle.read_limits.proofs.Laws.{PartsOfItems}

pub links_listed : PartsOfItems (λ (l : Link). parts_of_expression (expression_of l.operand)) (λ ls. parts_of_links (links_in ls))
links_listed = record { one_more = λ l ls. refl }

pub expressions_listed : PartsOfItems (λ (e : Expr). parts_of_expression (expression_of e)) (λ es. parts_of_expressions (expressions_in es))
expressions_listed = record { one_more = λ e es. refl }

steps_one_more : (s : Step) (ss : List Step) → parts_of_steps (steps_in (s ∷ ss)) ≡ parts_of_step s ++ parts_of_steps (steps_in ss)
steps_one_more (Field name) ss = refl
steps_one_more (At e) ss = refl

pub steps_listed : PartsOfItems parts_of_step (λ ss. parts_of_steps (steps_in ss))
steps_listed = record { one_more = steps_one_more }

pub params_listed : PartsOfItems (λ (p : Param). parts_of_term p.term) parts_of_params
params_listed = record { one_more = λ p ps. refl }

pub statements_listed : PartsOfItems (λ (s : Stmt). node ∷ parts_of_form (form_of s.what)) (λ ss. parts_of_block (block_in ss))
statements_listed = record { one_more = λ s ss. refl }

arms_one_more : (a : Arm) (rest : List Arm) → parts_of_arms (arms_in (a ∷ rest)) ≡ parts_of_arm a ++ parts_of_arms (arms_in rest)
arms_one_more a rest =
    ap parts_of_arms (arm_read a (arms_in rest))
    ∙ sym (append_assoc (parts_of_expression (expression_of (out-Arm a).test)) (parts_of_block (block_in (out-Arm a).body.items)) (parts_of_arms (arms_in rest)))

pub arms_listed : PartsOfItems parts_of_arm (λ arms. parts_of_arms (arms_in arms))
arms_listed = record { one_more = arms_one_more }

pub items_listed : PartsOfItems (λ (i : Item). parts_of_item (item_of i.what)) (λ is. parts_of_items (map item_tree_of is))
items_listed = record { one_more = λ i is. refl }
