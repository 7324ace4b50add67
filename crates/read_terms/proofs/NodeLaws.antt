-- The code's nodes in lists.
use Rattle.std.proofs.Common.{◌≡◌, false, List, [], ◌∷◌, length, map, refl, ap}
use Rattle.std.specs.Prelude.{◌==◌}
use Rattle.regent_tree.specs.declared.expression.Expr.{Expr}
use Rattle.regent_tree.specs.declared.expression.Link.{Link}
use Rattle.regent_tree.specs.declared.expression.Sign.{Sign}
use Rattle.regent_tree.specs.declared.expression.Step.{Step, Field, At}
use Rattle.regent_tree.specs.Syntax.{Expression, chain_expr, prefix_expr, an_expr, a_link, field_step, at_step}
use Rattle.regent_tree.specs.Plain.{expression_of, links_in, expressions_in, steps_in}
use Rattle.regent_grammar.specs.Nodes.{links_from, chain_of, prefix_of, expressions_from, steps_from}
use Rattle.read_terms.specs.Nodes.{joined_of, stepped_of}

pub links_of_map : (links : List Link) → links_from (map joined_of links) ≡ links_in links
links_of_map [] = refl
links_of_map (l ∷ ls) = ap (a_link l.operator (expression_of l.operand)) (links_of_map ls)

pub chain_of_links : (e : Expression) (links : List Link) → (length links == 0) ≡ false → chain_of e (map joined_of links) ≡ chain_expr e (links_in links)
chain_of_links e [] h = absurd cc
chain_of_links e (l ∷ ls) h = ap (chain_expr e) (links_of_map (l ∷ ls))

pub prefix_of_signs : (signs : List Sign) (e : Expression) → (length signs == 0) ≡ false → prefix_of signs e ≡ prefix_expr signs e
prefix_of_signs [] e h = absurd cc
prefix_of_signs (s ∷ ss) e h = refl

pub expressions_of_map : (es : List Expr) → expressions_from (map expression_of es) ≡ expressions_in es
expressions_of_map [] = refl
expressions_of_map (e ∷ es) = ap (an_expr (expression_of e)) (expressions_of_map es)

pub steps_of_map : (ss : List Step) → steps_from (map stepped_of ss) ≡ steps_in ss
steps_of_map [] = refl
steps_of_map (Field name ∷ ss) = ap (field_step name) (steps_of_map ss)
steps_of_map (At e ∷ ss) = ap (at_step (expression_of e)) (steps_of_map ss)
