-- An expression as the difference of two names, or as another one.
use Rattle.std.proofs.Common.{◌≡◌, ◌⊎◌, inl, inr, Bool, true, false, List, [], ◌∷◌, None, Some, Option, cond, refl, ap, sym, ◌∙◌}
use Rattle.regent_tree.specs.Syntax.{Expression, Name, a_link, access_expr, at_step, call_expr, cast_expr, chain_expr, convert_expr, field_step, is_null_expr, no_link, no_step, null_expr, number_expr, plain_initializer, prefix_expr, space_expr, truth_expr}
use Rattle.regent_tree.specs.declared.expression.Arithmetic.TheVariants.{Add, Divide, Multiply, Remainder, Subtract}
use Rattle.regent_tree.specs.declared.expression.Operator.TheVariants.{And, Compare, Compute, Or}
use Rattle.regent_tree.specs.declared.typing.Bound.{Bound}
use Rattle.check_rules.specs.rules.Partitions.{is_difference, may_be_partitions, operands_of}
use Rattle.check_variables.specs.Differences.{names_subtracted, subtracted}

abbrev IsOther : Expression → Type 0
IsOther e = (names_subtracted e ≡ None) × ((names : List Bound) →
    (is_difference names e ≡ false) × (operands_of names (plain_initializer e) ≡ []))

seen_as : (e : Expression) → ((p : Name) × (q : Name) × (e ≡ subtracted p q)) ⊎ IsOther e
seen_as (number_expr z w) = inr (refl, λ names. (refl, refl))
seen_as (truth_expr b) = inr (refl, λ names. (refl, refl))
seen_as (prefix_expr signs e) = inr (refl, λ names. (refl, refl))
seen_as (call_expr t args) = inr (refl, λ names. (refl, refl))
seen_as (access_expr n steps) = inr (refl, λ names. (refl, refl))
seen_as (convert_expr t e) = inr (refl, λ names. (refl, refl))
seen_as (is_null_expr e) = inr (refl, λ names. (refl, refl))
seen_as (null_expr t) = inr (refl, λ names. (refl, refl))
seen_as (cast_expr t e) = inr (refl, λ names. (refl, refl))
seen_as (space_expr k e) = inr (refl, λ names. (refl, refl))
seen_as (chain_expr (number_expr z w) rest) = inr (refl, λ names. (refl, refl))
seen_as (chain_expr (truth_expr b) rest) = inr (refl, λ names. (refl, refl))
seen_as (chain_expr (chain_expr one more) rest) = inr (refl, λ names. (refl, refl))
seen_as (chain_expr (prefix_expr signs e) rest) = inr (refl, λ names. (refl, refl))
seen_as (chain_expr (call_expr t args) rest) = inr (refl, λ names. (refl, refl))
seen_as (chain_expr (convert_expr t e) rest) = inr (refl, λ names. (refl, refl))
seen_as (chain_expr (is_null_expr e) rest) = inr (refl, λ names. (refl, refl))
seen_as (chain_expr (null_expr t) rest) = inr (refl, λ names. (refl, refl))
seen_as (chain_expr (cast_expr t e) rest) = inr (refl, λ names. (refl, refl))
seen_as (chain_expr (space_expr k e) rest) = inr (refl, λ names. (refl, refl))
seen_as (chain_expr (access_expr p (field_step f steps)) rest) = inr (refl, λ names. (refl, refl))
seen_as (chain_expr (access_expr p (at_step e steps)) rest) = inr (refl, λ names. (refl, refl))
seen_as (chain_expr (access_expr p no_step) no_link) = inr (refl, λ names. (refl, refl))
seen_as (chain_expr (access_expr p no_step) (a_link Or e rest)) = inr (refl, λ names. (refl, refl))
seen_as (chain_expr (access_expr p no_step) (a_link And e rest)) = inr (refl, λ names. (refl, refl))
seen_as (chain_expr (access_expr p no_step) (a_link (Compare c) e rest)) = inr (refl, λ names. (refl, refl))
seen_as (chain_expr (access_expr p no_step) (a_link (Compute Add) e rest)) = inr (refl, λ names. (refl, refl))
seen_as (chain_expr (access_expr p no_step) (a_link (Compute Multiply) e rest)) = inr (refl, λ names. (refl, refl))
seen_as (chain_expr (access_expr p no_step) (a_link (Compute Divide) e rest)) = inr (refl, λ names. (refl, refl))
seen_as (chain_expr (access_expr p no_step) (a_link (Compute Remainder) e rest)) = inr (refl, λ names. (refl, refl))
seen_as (chain_expr (access_expr p no_step) (a_link (Compute Subtract) (number_expr z w) no_link)) = inr (refl, λ names. (refl, refl))
seen_as (chain_expr (access_expr p no_step) (a_link (Compute Subtract) (number_expr z w) (a_link o d rest))) = inr (refl, λ names. (refl, refl))
seen_as (chain_expr (access_expr p no_step) (a_link (Compute Subtract) (truth_expr b) no_link)) = inr (refl, λ names. (refl, refl))
seen_as (chain_expr (access_expr p no_step) (a_link (Compute Subtract) (truth_expr b) (a_link o d rest))) = inr (refl, λ names. (refl, refl))
seen_as (chain_expr (access_expr p no_step) (a_link (Compute Subtract) (chain_expr one more) no_link)) = inr (refl, λ names. (refl, refl))
seen_as (chain_expr (access_expr p no_step) (a_link (Compute Subtract) (chain_expr one more) (a_link o d rest))) = inr (refl, λ names. (refl, refl))
seen_as (chain_expr (access_expr p no_step) (a_link (Compute Subtract) (prefix_expr signs e) no_link)) = inr (refl, λ names. (refl, refl))
seen_as (chain_expr (access_expr p no_step) (a_link (Compute Subtract) (prefix_expr signs e) (a_link o d rest))) = inr (refl, λ names. (refl, refl))
seen_as (chain_expr (access_expr p no_step) (a_link (Compute Subtract) (call_expr t args) no_link)) = inr (refl, λ names. (refl, refl))
seen_as (chain_expr (access_expr p no_step) (a_link (Compute Subtract) (call_expr t args) (a_link o d rest))) = inr (refl, λ names. (refl, refl))
seen_as (chain_expr (access_expr p no_step) (a_link (Compute Subtract) (convert_expr t e) no_link)) = inr (refl, λ names. (refl, refl))
seen_as (chain_expr (access_expr p no_step) (a_link (Compute Subtract) (convert_expr t e) (a_link o d rest))) = inr (refl, λ names. (refl, refl))
seen_as (chain_expr (access_expr p no_step) (a_link (Compute Subtract) (is_null_expr e) no_link)) = inr (refl, λ names. (refl, refl))
seen_as (chain_expr (access_expr p no_step) (a_link (Compute Subtract) (is_null_expr e) (a_link o d rest))) = inr (refl, λ names. (refl, refl))
seen_as (chain_expr (access_expr p no_step) (a_link (Compute Subtract) (null_expr t) no_link)) = inr (refl, λ names. (refl, refl))
seen_as (chain_expr (access_expr p no_step) (a_link (Compute Subtract) (null_expr t) (a_link o d rest))) = inr (refl, λ names. (refl, refl))
seen_as (chain_expr (access_expr p no_step) (a_link (Compute Subtract) (cast_expr t e) no_link)) = inr (refl, λ names. (refl, refl))
seen_as (chain_expr (access_expr p no_step) (a_link (Compute Subtract) (cast_expr t e) (a_link o d rest))) = inr (refl, λ names. (refl, refl))
seen_as (chain_expr (access_expr p no_step) (a_link (Compute Subtract) (space_expr k e) no_link)) = inr (refl, λ names. (refl, refl))
seen_as (chain_expr (access_expr p no_step) (a_link (Compute Subtract) (space_expr k e) (a_link o d rest))) = inr (refl, λ names. (refl, refl))
seen_as (chain_expr (access_expr p no_step) (a_link (Compute Subtract) (access_expr q (field_step f steps)) no_link)) = inr (refl, λ names. (refl, refl))
seen_as (chain_expr (access_expr p no_step) (a_link (Compute Subtract) (access_expr q (field_step f steps)) (a_link o d rest))) = inr (refl, λ names. (refl, refl))
seen_as (chain_expr (access_expr p no_step) (a_link (Compute Subtract) (access_expr q (at_step e steps)) no_link)) = inr (refl, λ names. (refl, refl))
seen_as (chain_expr (access_expr p no_step) (a_link (Compute Subtract) (access_expr q (at_step e steps)) (a_link o d rest))) = inr (refl, λ names. (refl, refl))
seen_as (chain_expr (access_expr p no_step) (a_link (Compute Subtract) (access_expr q no_step) (a_link o e rest))) = inr (refl, λ names. (refl, refl))
seen_as (chain_expr (access_expr p no_step) (a_link (Compute Subtract) (access_expr q no_step) no_link)) =
    inl (p, q, refl)

-- what isn't the difference of two names isn't that of two partitions
pub other_is_none : (names : List Bound) (e : Expression) → names_subtracted e ≡ None →
    is_difference names e ≡ false
other_is_none names e h = elim (seen_as e) [
  | inl s ↦ absurd (none_is_some (sym h ∙ ap names_subtracted s.2))
  | inr s ↦ (s.1 names).0
]
  where
    none_is_some : {pq : Name × Name} → None ≡ Some pq → ⊥
    none_is_some h = absurd cc

-- the operands of what isn't the difference of two partitions
pub operands_none : (names : List Bound) (e : Expression) → is_difference names e ≡ false →
    operands_of names (plain_initializer e) ≡ []
operands_none names e h = elim (seen_as e) [
  | inl s ↦ ap (λ d. operands_of names (plain_initializer d)) s.2
      ∙ unless (may_be_partitions names s.0 s.1) ((s.0, s.1) ∷ []) (sym (ap (is_difference names) s.2) ∙ h)
  | inr s ↦ (s.1 names).1
]
  where
    unless : (b : Bool) (xs : List (Name × Name)) → b ≡ false → cond b xs [] ≡ []
    unless true xs e = absurd cc
    unless false xs e = refl

-- an expression with names that are subtracted is just that
pub subtracted_is : (e : Expression) (p q : Name) → names_subtracted e ≡ Some (p, q) →
    e ≡ subtracted p q
subtracted_is e p q h = elim (seen_as e) [
  | inl s ↦ s.2 ∙ ap (λ (o : Option (Name × Name)). put o) (sym (ap names_subtracted s.2) ∙ h)
  | inr s ↦ absurd (none_is_some (sym s.0 ∙ h))
]
  where
    put : Option (Name × Name) → Expression
    put None = access_expr [] no_step
    put (Some (p, q)) = subtracted p q

    none_is_some : {pq : Name × Name} → None ≡ Some pq → ⊥
    none_is_some h = absurd cc
