-- Memory for the outcome of a board, which is taken before a step is made.
use Rattle.std.specs.Prelude.{◌≡◌, ◌≤◌, ℕ, zero, List, [], ◌∷◌, Option, Some, None, get_or, length, map}
use Rattle.region_tree.specs.declared.tree.RootId.{RootId}
use Rattle.regent_tree.specs.declared.outcome.Outcome.{Outcome}
use Rattle.regent_tree.specs.declared.outcome.RootImage.{RootImage}
use Rattle.task_code.specs.declared.code.Code.{Code}
use Rattle.machine_terms.specs.declared.outcome.Made.TheVariants as made
use Rattle.machine_terms.specs.declared.outcome.Yield.{Yield}
use Rattle.machine_terms.specs.declared.outcome.Yield.TheVariants as yield
use Rattle.board_terms.specs.States.{State, no_extent, operation_at}
use Rattle.board_facts.specs.Rooms.{IsRoomFor, shape_made}
use Rattle.board_facts.specs.Texts.{said_in}

-- an image of a root's extent, with room for what the root holds
abbrev pub IsRoomOf : State → RootId → RootImage → Type 0
IsRoomOf s r x =
    (x.space ≡ (get_or s.roots r.0 no_extent).space)
    × ((x.count ≡ (get_or s.roots r.0 no_extent).count) × IsRoomFor s.map r.0 x.fields)

-- one for each root
abbrev pub AreRooms : State → List RootId → List RootImage → Type 0
AreRooms s [] [] = Unit {0}
AreRooms s (r ∷ rs) (x ∷ xs) = IsRoomOf s r x × AreRooms s rs xs
AreRooms s _ _ = ⊥

-- Room for the text of all that operations said, and for what main's own roots hold.
pub record HasOutcomeRoom (s : State) (printed : ℕ) (text : List ℕ) (capacity : ℕ) (rooms : List RootImage) : Type 0 where
  pub said : printed ≡ said_in s.operations
  pub empty : text ≡ []
  pub room : printed ≤ capacity
  pub images : AreRooms s (operation_at s 0).frame.own rooms

-- until there is an outcome, there is room for it
abbrev pub IsReady : Option Outcome → State → ℕ → List ℕ → ℕ → List RootImage → Type 0
IsReady outcome s said text capacity images = outcome ≡ None → HasOutcomeRoom s said text capacity images

-- an image for a root that main makes
abbrev pub IsImageOf : Code → ℕ → ℕ → RootImage → Type 0
IsImageOf code size space x =
    (x.space ≡ space) × ((x.count ≡ size) × ((length x.fields ≤ 256) × (map length x.fields ≡ shape_made code size space)))

-- the size and the field space of a root that main makes
abbrev pub main_makes : ℕ → Yield → Option (ℕ × ℕ)
main_makes zero (yield.Make (made.Root size space)) = Some (size, space)
main_makes _ _ = None

-- there is an image exactly where main makes a root
abbrev pub IsImageFor : Code → Option (ℕ × ℕ) → Option RootImage → Type 0
IsImageFor code None None = Unit {0}
IsImageFor code (Some w) (Some x) = IsImageOf code w.0 w.1 x
IsImageFor code _ _ = ⊥

-- an image behind the others, if there is one
abbrev pub listed : Option RootImage → List RootImage
listed None = []
listed (Some x) = x ∷ []
