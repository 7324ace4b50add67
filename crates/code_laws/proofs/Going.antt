-- A write goes on, and so a statement is done.
use Rattle.std.proofs.Common.{◌≡◌, ℕ, [], sym, subst}
use Rattle.regent_tree.specs.Execution.{Going, goes_on, returned}
use Rattle.regent_tree.specs.Running.{Here, Result, gives, fails}
use Rattle.regent_tree.specs.Values.{Value}
use Rattle.machine_terms.specs.declared.order.Instance.{Instance}
use Rattle.code_laws.specs.Steps.{Setting, placed}
use Rattle.code_laws.specs.Standing.{Aside, Comes, Does, SlotsFit}
use Rattle.code_laws.proofs.Writes.{GoesOn}

abbrev IsGoing : Going → Type 0
IsGoing goes_on = Unit {0}
IsGoing (returned v) = ⊥

no_return : (v : Value) → returned v ≡ goes_on → ⊥
no_return v e = subst IsGoing (sym e) tt

module _ (x : Setting) (params slots : ℕ) (fit : SlotsFit x slots) (aside : Aside 0) where
  -- what goes on is done
  pub does_come : (pc : ℕ) (h : Here) (i : Instance) (r : Result Going) →
      Comes x i (λ g j. placed pc [] j) (GoesOn x params slots fit aside h) r → Does x params slots aside i pc h r
  does_come pc h i (gives goes_on s) c = (c.0, c.1, c.2.1)
  does_come pc h i (gives (returned v) s) c = absurd (no_return v c.2.0)
  does_come pc h i (fails f s) c = c
