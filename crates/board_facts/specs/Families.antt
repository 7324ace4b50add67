-- Who was called by whom, and which roots are whose.
use Rattle.std.specs.Prelude.{◌≡◌, ◌<◌, ◌≤◌, ◌+◌, ℕ, List, [], All, length, sum_by}
use Rattle.plain_values.specs.Points.{points}
use Rattle.region_tree.specs.declared.tree.OpNumber.{OpNumber}
use Rattle.region_tree.specs.declared.tree.RootId.{RootId}
use Rattle.logical_map.specs.Maps.{columns_of}
use Rattle.board_terms.specs.declared.operation.Activity.{Activity}
use Rattle.board_terms.specs.declared.operation.Activity.TheVariants.{Out}
use Rattle.board_terms.specs.declared.operation.Operation.{Operation}
use Rattle.board_terms.specs.States.{State}

-- what the children of an operation weigh
abbrev pub of_children : (ℕ → ℕ) → Operation → ℕ
of_children w o = sum_by (λ (c : OpNumber). w c.0) o.children

-- Each operation but main is the child of one, and once: whatever operations weigh, main and all children weigh as
-- much as all operations.
abbrev pub IsFamily : List Operation → Type 0
IsFamily os = (w : ℕ → ℕ) → w 0 + sum_by (of_children w) os ≡ sum_by w (points (length os))

-- what is out was lent with the roots that its operation made
abbrev pub IsLentOwnBy : List RootId → Activity → Type 0
IsLentOwnBy own (Out claim before) = before.frame.own ≡ own
IsLentOwnBy own _ = Unit {0}

abbrev pub IsLentOwn : Operation → Type 0
IsLentOwn o = IsLentOwnBy o.frame.own o.activity

-- roots that were made
abbrev pub AreMade : ℕ → List RootId → Type 0
AreMade n rs = All (λ (r : RootId). r.0 < n) rs

abbrev pub HasMadeOwn : ℕ → Operation → Type 0
HasMadeOwn n o = AreMade n o.frame.own

-- Operations are a family; what is out was lent with its own roots; each operation's roots were made, and a root
-- that wasn't made holds nothing; each root has an extent.
pub record IsSound (s : State) : Type 0 where
  pub family : IsFamily s.operations
  pub lent : All IsLentOwn s.operations
  pub own : All (HasMadeOwn s.tree.roots) s.operations
  pub extents : length s.roots ≡ s.tree.roots
  pub live : (root : ℕ) → s.tree.roots ≤ root → columns_of s.map root ≡ []
