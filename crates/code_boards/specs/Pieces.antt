-- The elements of a part: piece by piece, and by the points of a piece.
use Rattle.std.specs.Prelude.{◌≡◌, ◌++◌, ℕ, ℤ, List, [], ◌∷◌, false}
use Rattle.lane_kernels.specs.declared.numbers.Mode.{Mode}
use Rattle.region_tree.specs.declared.piece.Part.{Part}
use Rattle.region_tree.specs.Pieces.{Held}
use Rattle.region_tree.specs.Requirements.{same_mode}
use Rattle.task_code.specs.declared.code.Code.{Code}
use Rattle.board_rules.specs.Running.{Element}
use Rattle.regent_boards.specs.RegentMachine.{as_held, regent_ground}
use Rattle.code_boards.specs.Views.{part_with, parts_in, spaces_of}

module _ (code : Code) (root field : ℕ) where
  abbrev pub elements : Mode → List ℕ → List ℤ → List (Element (regent_ground (spaces_of code)))
  elements m (p ∷ ps) (z ∷ zs) = record {
    location = record { root = root; field = field; point = p };
    mode = as_held (spaces_of code) root field m;
    number = z;
  } ∷ elements m ps zs
  elements m _ _ = []

  abbrev pub all_elements : List Held → List (Element (regent_ground (spaces_of code)))
  all_elements [] = []
  all_elements (h ∷ hs) = elements h.mode h.points h.values ++ all_elements hs

  -- pieces that follow one another are in different modes, and have points, each with a number
  abbrev pub Differs : Mode → List Held → Type 0
  Differs m [] = Unit {0}
  Differs m (h ∷ hs) = same_mode m h.mode ≡ false

  abbrev pub AreNumbered : List ℕ → List ℤ → Type 0
  AreNumbered [] [] = Unit {0}
  AreNumbered (p ∷ ps) (z ∷ zs) = AreNumbered ps zs
  AreNumbered _ _ = ⊥

  abbrev pub IsPiece : List ℕ → List ℤ → Type 0
  IsPiece (p ∷ ps) (z ∷ zs) = AreNumbered ps zs
  IsPiece _ _ = ⊥

  abbrev pub ArePieces : List Held → Type 0
  ArePieces [] = Unit {0}
  ArePieces (h ∷ hs) = IsPiece h.points h.values × Differs h.mode hs × ArePieces hs

  abbrev pub grouped : List Held → List Part
  grouped [] = []
  grouped (h ∷ hs) = part_with code root field (h ∷ hs) ∷ []

-- the elements of pieces that have points, each with a number, and of which no two neighbours are held in one mode,
-- come to these pieces again
abbrev pub PiecesRegroup : Type 0
PiecesRegroup = (code : Code) (root field : ℕ) (hs : List Held) → ArePieces code root field hs →
    parts_in code (all_elements code root field hs) ≡ grouped code root field hs
