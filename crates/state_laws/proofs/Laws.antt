-- The laws, from the inductions.
use Rattle.std.proofs.Common.{List, [], ◌∷◌, Bool, None, Option, Some, false, true, refl, subst, ◌≡◌, cond}
use Rattle.std.specs.List.{All}
use Rattle.regent_tree.specs.Laws.{Shape}
use Rattle.regent_tree.specs.Limits.{KeepsLimit, parts_of_expression, parts_of_type}
use Rattle.regent_tree.specs.Running.{Here}
use Rattle.regent_tree.specs.Syntax.{Expression, Initializer, Name, TaskTree, both_initializer, by_field_initializer, either_initializer, equal_initializer, image_initializer, plain_initializer, preimage_initializer, region_initializer, var_form}
use Rattle.regent_tree.specs.declared.types.TypeTerm.{TypeTerm}
use Rattle.check_rules.specs.first.FirstInExpressions.{first_in_expression}
use Rattle.check_rules.specs.first.Rules.{first_in}
use Rattle.check_rules.specs.rules.Partitions.{is_difference}
use Rattle.check_rules.specs.scopes.Variables.{members_of}
use Rattle.check_laws.proofs.Parts.{contrary}
use Rattle.check_laws.proofs.Variables.{parts_of_form as parts_told}
use Rattle.expression_laws.specs.Writing.{IsWritten}
use Rattle.state_laws.specs.Going.{IsPlaceOfRun}
use Rattle.state_laws.specs.Laws.{FormFits, StatementsFit}
use Rattle.state_laws.proofs.Partitioned.{difference_evaluates, difference_rooted, operation_fits}
use Rattle.state_laws.proofs.Statements.{form_fits}
use Rattle.state_laws.proofs.VariableTypes.{variable_spaced}
use Rattle.state_laws.proofs.Variables.{Evaluates, IsRooted, plain_fits, region_begun, typed_fits, unset_fits, whole_evaluates, whole_rooted}
use Rattle.value_laws.proofs.Limits.{all_right}

module _ (task : TaskTree) where
  -- an expression that stands as a start value, a difference of partitions too
  start_evaluates : (roots : List Shape) (h : Here) (r : IsPlaceOfRun task roots h) (y : Expression) (b : Bool) → is_difference h.scope.names y ≡ b → IsWritten y → All KeepsLimit (parts_of_expression y) →
      first_in (first_in_expression h.tree task h.scope) (cond (is_difference h.scope.names y) (members_of y) (y ∷ [])) ≡ None → Evaluates task roots h y
  start_evaluates roots h r y false d wr limits heads = whole_evaluates task roots h r y d wr limits heads
  start_evaluates roots h r y true d wr limits heads =
      difference_evaluates task roots h r y (is_difference h.scope.names y) refl d (subst (λ b. first_in (first_in_expression h.tree task h.scope) (cond b (members_of y) (y ∷ [])) ≡ None) d heads)

  start_rooted : (roots : List Shape) (h : Here) (r : IsPlaceOfRun task roots h) (y : Expression) (b : Bool) → is_difference h.scope.names y ≡ b → IsWritten y →
      first_in (first_in_expression h.tree task h.scope) (cond (is_difference h.scope.names y) (members_of y) (y ∷ [])) ≡ None → IsRooted task roots h y
  start_rooted roots h r y false d wr heads = whole_rooted task roots h r y d wr heads
  start_rooted roots h r y true d wr heads =
      difference_rooted task roots h r y (is_difference h.scope.names y) refl d (subst (λ b. first_in (first_in_expression h.tree task h.scope) (cond b (members_of y) (y ∷ [])) ≡ None) d heads)

  pub variable_fits : (n : Name) (t : Option TypeTerm) (start : Option Initializer) → FormFits task (var_form n t start)
  variable_fits n (Some t) None roots h r e w wr limits u st = unset_fits task n t roots h r e w wr limits u st
  variable_fits n None None roots h r e w wr limits u st = absurd (contrary (parts_told h.tree task h.scope r.place.sound r.place.scope (var_form n None None) e).1)
  variable_fits n t (Some (region_initializer y s)) roots h r e w wr limits u st = region_begun task n t y s roots h r e w wr limits u st
  variable_fits n t (Some (equal_initializer q y)) roots h r e w wr limits u st =
      operation_fits task roots h r n t (equal_initializer q y) (wr, all_right KeepsLimit (parts_of_type t) (parts_of_expression y) limits) refl e limits u st
  variable_fits n t (Some (by_field_initializer q f y)) roots h r e w wr limits u st =
      operation_fits task roots h r n t (by_field_initializer q f y) (wr, all_right KeepsLimit (parts_of_type t) (parts_of_expression y) limits) refl e limits u st
  variable_fits n t (Some (image_initializer parent p q f)) roots h r e w wr limits u st = operation_fits task roots h r n t (image_initializer parent p q f) tt refl e limits u st
  variable_fits n t (Some (preimage_initializer parent p q f)) roots h r e w wr limits u st = operation_fits task roots h r n t (preimage_initializer parent p q f) tt refl e limits u st
  variable_fits n t (Some (both_initializer p q)) roots h r e w wr limits u st = operation_fits task roots h r n t (both_initializer p q) tt refl e limits u st
  variable_fits n t (Some (either_initializer p q)) roots h r e w wr limits u st = operation_fits task roots h r n t (either_initializer p q) tt refl e limits u st
  variable_fits n None (Some (plain_initializer y)) roots h r e w wr limits u st =
      let parts = parts_told h.tree task h.scope r.place.sound r.place.scope (var_form n None (Some (plain_initializer y))) e in
      plain_fits task n y roots h r e limits (start_evaluates roots h r y (is_difference h.scope.names y) refl wr limits parts.2)
      (start_rooted roots h r y (is_difference h.scope.names y) refl wr parts.2) u st
  variable_fits n (Some t) (Some (plain_initializer y)) roots h r e w wr limits u st =
      let parts = parts_told h.tree task h.scope r.place.sound r.place.scope (var_form n (Some t) (Some (plain_initializer y))) e in
      typed_fits task n t y roots h r e limits
      (start_evaluates roots h r y (is_difference h.scope.names y) refl wr (all_right KeepsLimit (parts_of_type (Some t)) (parts_of_expression y) limits) parts.2)
      (start_rooted roots h r y (is_difference h.scope.names y) refl wr parts.2) u st

pub statements_fit : StatementsFit
statements_fit task form =
    form_fits task (variable_fits task) (λ roots h n t start r e limits. variable_spaced task roots h r n t start e limits) form
