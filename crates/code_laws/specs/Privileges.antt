-- What the rules allow a task to do with a region that it took, its code needs.
use Rattle.std.specs.Prelude.{◌≡◌, Bool, ℕ, ◌<◌, ◌≤◌, List, Some, true, length}
use Rattle.std.specs.List.{Contains}
use Rattle.lane_kernels.specs.declared.numbers.Mode.TheVariants as mode
use Rattle.lane_kernels.specs.declared.numbers.Op.{Op}
use Rattle.regent_tree.specs.Scopes.{scope_of}
use Rattle.regent_tree.specs.Syntax.{TaskTree, Tree}
use Rattle.regent_tree.specs.declared.facts.Known.{Known}
use Rattle.regent_tree.specs.declared.facts.Colour.{Colour}
use Rattle.regent_tree.specs.declared.facts.Known.TheVariants.{Made, PartOf, Within}
use Rattle.regent_tree.specs.declared.facts.Term.{Term}
use Rattle.regent_tree.specs.declared.facts.Term.TheVariants as term
use Rattle.regent_tree.specs.declared.rights.Access.TheVariants as access
use Rattle.check_rules.specs.rules.Privileges.{may_do, rights_declared, wanting}
use Rattle.check_rules.specs.scopes.Sound.{IsSoundTask}
use Rattle.code_laws.specs.Handing.{takes_by, taking_of}
use Rattle.code_laws.specs.Taking.{MayDo, pairs_in}

-- What is known of a region with a number that began as a part of one with another: that it lies within parts of a partition of
-- that one, and no more; and it wasn't made.
pub record BeganAsPart (known : List Known) (i r : ℕ) : Type 0 where
  pub upper : (b : Term) → Contains known (Within (term.Name i) b) →
      (p : ℕ) × (c : Colour) × (b ≡ term.Child p c) × ((q : ℕ) (d : Bool) → Contains known (PartOf p q d) → q ≡ r)
  pub made : Contains known (Made i) → ⊥

-- What is known at a place of a task's body: that parameters' regions lie within others, as its head tells and no
-- more; regions that were made are behind the parameters; so are those that began as parts; and nothing is known of parts.
pub record IsKnownBehind (tree : Tree) (task : TaskTree) (known : List Known) : Type 0 where
  pub within : (i : ℕ) (b : Term) → i < length task.params → Contains known (Within (term.Name i) b) →
      (j : ℕ) × (b ≡ term.Name j) × (j < length task.params) × Contains (pairs_in (scope_of tree task).known) (i, j)
  pub made : (s : ℕ) → Contains known (Made s) → length task.params ≤ s
  pub parts : (i r : ℕ) → length task.params ≤ i → (taking_of tree task).above i ≡ Some r → BeganAsPart known i r
  pub lower : (p : ℕ) (c : Colour) (b : Term) → Contains known (Within (term.Child p c) b) → ⊥

-- an access that is allowed of a region may be made
pub record MayBeDone (tree : Tree) (task : TaskTree) (known : List Known) (i field : ℕ) : Type 0 where
  pub reads : may_do (rights_declared tree task) known (wanting field access.Read (term.Name i)) ≡ true →
      MayDo (takes_by true tree task) (term.Name i) field mode.Read
  pub writes : may_do (rights_declared tree task) known (wanting field access.Write (term.Name i)) ≡ true →
      MayDo (takes_by true tree task) (term.Name i) field mode.Write
  pub reduces : (o : Op) → may_do (rights_declared tree task) known (wanting field (access.Reduce o) (term.Name i)) ≡ true →
      MayDo (takes_by true tree task) (term.Name i) field (mode.Reduce o)

abbrev pub AllowedIsNeeded : Type 0
AllowedIsNeeded = (tree : Tree) (task : TaskTree) (known : List Known) → IsSoundTask tree task → IsKnownBehind tree task known →
    (i field : ℕ) → MayBeDone tree task known i field
