-- What is known of bodies and of breaches.
use Rattle.std.proofs.Common.{◌≡◌, ◌≤◌, List, [], ◌∷◌, None, Option, length, refl, subst, sym, arith}
use Rattle.std.specs.Option.{option_or}
use Rattle.regent_tree.specs.PlainProgram.{block_in}
use Rattle.regent_tree.specs.declared.statement.Stmt.{Stmt}
use Rattle.check_rules.specs.declared.rule.Rule.{Rule}
use Rattle.check_rules.specs.launches.Views.{only_call}

-- a body of more than one statement isn't one call
pub longer_is_none : (body : List Stmt) → 2 ≤ length body → only_call (block_in body) ≡ None
longer_is_none [] h = absurd (omega (arith, h))
longer_is_none (a ∷ []) h = absurd (omega (arith, h))
longer_is_none (a ∷ b ∷ rest) h = refl

-- no rule is breached where neither is
pub neither : (first second : Option Rule) → first ≡ None → second ≡ None → option_or first second ≡ None
neither first second a b = subst (λ f. option_or f second ≡ None) (sym a) b
