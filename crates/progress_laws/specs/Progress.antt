-- What is so of every board with operations, seats and roots by numbers, whatever steps lead to it: operations
-- in progress that are no ancestors of each other never interfere, what an operation was issued with it still
-- needs, what it holds conflicts with no need of its unfinished children, what a claim has filled is what stands in
-- the map, and where there is no claim and the first task isn't over, some operation can be claimed.
--
-- Needs are read at locations of the numbered roots.
use Rattle.std.specs.Prelude.{◌≡◌, All, List, Some, [], false, is_some, true, ℕ}
use Rattle.board_rules.specs.Apart.{ApartWhileOpen, begins, children_of, claimed_by, filled_by, find, in_progress, needs_now, parts_of}
use Rattle.board_rules.specs.Boards.{Operation, claim, is_over, needs_of, stage_of}
use Rattle.board_rules.specs.ByNumber.{Differ}
use Rattle.board_rules.specs.Ground.{Ground}
use Rattle.board_rules.specs.Journals.{Job}
use Rattle.board_rules.specs.NumberedBoards.{Board, Step, after_step, board_of}
use Rattle.board_rules.specs.Processes.{Apart, Inside}
use Rattle.board_rules.specs.Renaming.{Base, Renames, Roots}
use Rattle.board_rules.specs.Running.{Machine, filled, spots}

-- However numbers are named, as long as no two are named alike, renamed needs are at a renamed location what
-- the needs are at the location.
abbrev pub NeedsAreRenamed : (B : Base) (X Y : Roots B) → ((ℕ → List ℕ) → (ℕ → ℕ) → Renames B X Y) → Type 0
NeedsAreRenamed B X Y rename = (maker : ℕ → List ℕ) (making : ℕ → ℕ) → Differ maker making → (N : X.Needs) (l : X.Location) →
    Y.at ((rename maker making).needs N) ((rename maker making).loc l) ≡ X.at N l

-- ---- one board

module _ (G : Ground) where
  -- Where neither of two ways begins the other, and both lead to operations in progress, what the two need now is
  -- apart at each location.
  abbrev pub ProgressIsApart : Board G → Type 0
  ProgressIsApart b = (v w : List ℕ) (a c : Operation G) → find G v b.state.tree ≡ Some a → find G w b.state.tree ≡ Some c → begins G v w ≡ false → begins G w v ≡ false →
      in_progress G a ≡ true → in_progress G c ≡ true → (l : G.Location) → Apart G (G.at (needs_now G a) l) (G.at (needs_now G c) l)

  -- What an operation was issued with is at each location what it needs now, or within it.
  abbrev pub IssuedIsNeeded : Board G → Type 0
  IssuedIsNeeded b = (way : List ℕ) (a : Operation G) → find G way b.state.tree ≡ Some a → (l : G.Location) → Inside G (G.at (needs_of G a) l) (G.at (needs_now G a) l)

  -- What an operation holds, and what it is being filled with, is apart from what its unfinished children need.
  abbrev pub HeldIsApart : Board G → Type 0
  HeldIsApart b = (way : List ℕ) (a : Operation G) → find G way b.state.tree ≡ Some a →
      All (ApartWhileOpen G (spots G (parts_of G a))) (children_of G a) × All (ApartWhileOpen G (claimed_by G (stage_of G a))) (children_of G a)

  -- what was filled of an operation so far, while it is Filling and while it is Out, is what would be filled now
  abbrev pub FilledIsMap : (ℕ → Machine G) → Board G → Type 0
  FilledIsMap M b = (way : List ℕ) (a : Operation G) → find G way b.state.tree ≡ Some a →
      filled G (M 0) (spots G (filled_by G (stage_of G a))) b.state.map ≡ filled_by G (stage_of G a)

  -- Where the first task isn't over and there is no claim, some operation can be claimed, by each seat.
  abbrev pub SomeIsReady : (ℕ → Machine G) → Board G → Type 0
  SomeIsReady M b = is_over G (stage_of G b.state.tree) ≡ false → b.claims ≡ [] →
      (n : ℕ) × ((seat : ℕ) → is_some (after_step G M (Some b) (record { kind = claim; number = n; seat = seat })) ≡ true)

-- ---- the laws

module _ (G : Ground) (M : ℕ → Machine G) (IsJob : Job G → Type 0) where
  -- whatever steps were made, by whichever seats
  abbrev pub OfEachBoard : (Board G → Type 0) → Type 0
  OfEachBoard P = (job : Job G) → IsJob job → (steps : List Step) (b : Board G) → board_of G M job steps ≡ Some b → P b

  abbrev pub InProgressApartByNumber : Type 0
  InProgressApartByNumber = OfEachBoard (ProgressIsApart G)

  abbrev pub IssuedByNumber : Type 0
  IssuedByNumber = OfEachBoard (IssuedIsNeeded G)

  abbrev pub HeldApartByNumber : Type 0
  HeldApartByNumber = OfEachBoard (HeldIsApart G)

  abbrev pub FilledByNumber : Type 0
  FilledByNumber = OfEachBoard (FilledIsMap G M)

  abbrev pub SomeReadyByNumber : Type 0
  SomeReadyByNumber = OfEachBoard (SomeIsReady G M)
