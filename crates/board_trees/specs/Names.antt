-- How the laws of boards name the roots that a state numbers in order of making.
use Rattle.std.specs.Prelude.{◌≡◌, ◌<◌, ℕ, List, [], ◌∷◌, All, get_or}
use Rattle.region_tree.specs.Requirements.{Requirement}
use Rattle.region_tree.specs.declared.tree.RootId.{RootId}
use Rattle.machine_terms.specs.Opening.{with_points}
use Rattle.regent_boards.specs.RegentMachine.{root_of}
use Rattle.segment_renaming.specs.Renaming.{Names}
use Rattle.board_terms.specs.declared.extent.Extent.{Extent}
use Rattle.board_terms.specs.States.{no_extent}

-- a root's field space, its size, and how many makings there were before it
abbrev pub name_of : List Extent → (ℕ → ℕ) → ℕ → ℕ
name_of extents who r = root_of (get_or extents r no_extent).space (get_or extents r no_extent).count (who r)

-- the roots came one after the other, among so many makings
pub record AreMade (roots : ℕ) (who : ℕ → ℕ) (makings : ℕ) : Type 0 where
  pub below : (r : ℕ) → r < roots → who r < makings
  pub rising : (a b : ℕ) → a < b → b < roots → who a < who b

-- No two roots have one name, and these have the names of the board. What holds for all such namings speaks of no
-- other root.
pub record IsNaming (extents : List Extent) (who : ℕ → ℕ) (roots : List RootId) (name : ℕ → ℕ) : Type 0 where
  pub one : (a b : ℕ) → name a ≡ name b → a ≡ b
  pub known : All (λ (r : RootId). name r.0 ≡ name_of extents who r.0) roots

-- roots by their names, and regions without nodes
abbrev pub named : (ℕ → ℕ) → Names
named name = record { root = name; node = λ n. 0 }

abbrev pub requirement_named : (ℕ → ℕ) → Requirement → Requirement
requirement_named name r = record r { root = name r.root }

-- what is needed of no points isn't needed
abbrev pub pointed : List Requirement → List Requirement
pointed [] = []
pointed (r ∷ rs) = with_points r.points r (pointed rs)
