-- The code of a variable or an assignment is that of a call whose result is kept as it comes, or the other one.
use Rattle.std.proofs.Common.{◌≡◌, ℕ, Bool, true, false, cond, Option, Some, None, refl, ap}
use Rattle.regent_tree.specs.Syntax.{Name, Expression, number_expr, truth_expr, chain_expr, prefix_expr, call_expr, access_expr, convert_expr, is_null_expr, null_expr, cast_expr, space_expr, Expressions, Steps, no_step, field_step, at_step, Initializer, region_initializer, equal_initializer, by_field_initializer, image_initializer, preimage_initializer, both_initializer, either_initializer, plain_initializer}
use Rattle.regent_tree.specs.declared.statement.How.{How}
use Rattle.regent_tree.specs.declared.statement.How.TheVariants as how
use Rattle.regent_tree.specs.declared.typing.StaticType.{StaticType}
use Rattle.code_rules.specs.Instructions.{keeps_number}
use Rattle.code_rules.specs.Pieces.{Piece}
use Rattle.code_rules.specs.Slots.{Where, bound, typed}
use Rattle.code_rules.specs.Statements.{is_still, call_assigned, call_begun, call_kept, kept_or, put_call}

module _ (Q : Piece → Type 0) (w : Where) (s : ℕ) (other : Piece) (h : Q other) where
  pub kept_either : (t : StaticType) (e : Expression) → ((task : Name) (args : Expressions) → e ≡ call_expr task args →
      keeps_number (typed w (call_expr task args)) t ≡ true → Q (put_call w s task args)) →
      Q (kept_or w s (call_kept w t e) other)
  kept_either t (call_expr task args) k = chosen (keeps_number (typed w (call_expr task args)) t) refl
    where
      chosen : (b : Bool) → keeps_number (typed w (call_expr task args)) t ≡ b → Q (kept_or w s (cond b (Some (task, args)) None) other)
      chosen true e = k task args refl e
      chosen false e = h
  kept_either t (number_expr z v) k = h
  kept_either t (truth_expr b) k = h
  kept_either t (chain_expr first rest) k = h
  kept_either t (prefix_expr signs e) k = h
  kept_either t (access_expr n steps) k = h
  kept_either t (convert_expr u e) k = h
  kept_either t (is_null_expr e) k = h
  kept_either t (null_expr u) k = h
  kept_either t (cast_expr u e) k = h
  kept_either t (space_expr u e) k = h

  pub begun_either : (t : StaticType) (i : Option Initializer) →
      ((task : Name) (args : Expressions) → i ≡ Some (plain_initializer (call_expr task args)) → Q (put_call w s task args)) →
      Q (kept_or w s (call_begun w t i) other)
  begun_either t None k = h
  begun_either t (Some (plain_initializer e)) k = kept_either t e (λ task args q keeps. k task args (ap (λ e. Some (plain_initializer e)) q))
  begun_either t (Some (region_initializer e u)) k = h
  begun_either t (Some (equal_initializer r e)) k = h
  begun_either t (Some (by_field_initializer r f e)) k = h
  begun_either t (Some (image_initializer q p r f)) k = h
  begun_either t (Some (preimage_initializer q p r f)) k = h
  begun_either t (Some (both_initializer p q)) k = h
  begun_either t (Some (either_initializer p q)) k = h

  pub assigned_either : (n : Name) (steps : Steps) (a : How) (e : Expression) →
      ((task : Name) (args : Expressions) → e ≡ call_expr task args → keeps_number (typed w (call_expr task args)) (bound w n).static_type ≡ true →
      is_still w.params (bound w n) ≡ false → Q (put_call w s task args)) →
      Q (kept_or w s (call_assigned w n steps a e) other)
  assigned_either n no_step how.Set e k = chosen (is_still w.params (bound w n)) refl
    where
      chosen : (b : Bool) → is_still w.params (bound w n) ≡ b → Q (kept_or w s (cond b None (call_kept w (bound w n).static_type e)) other)
      chosen true still = h
      chosen false still = kept_either (bound w n).static_type e (λ task args q keeps. k task args q keeps still)
  assigned_either n no_step (how.Reduce o) e k = h
  assigned_either n (field_step f rest) a e k = h
  assigned_either n (at_step y rest) a e k = h
