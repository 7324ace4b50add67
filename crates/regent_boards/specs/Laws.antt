-- The laws of Regent boards, over every segment that gives back the parts that it was given.
use Rattle.std.specs.Prelude.{◌≡◌, List, [], pos, ℕ}
use Rattle.board_rules.specs.Journals.{FinishedAsOrdered, Job}
use Rattle.board_rules.specs.Known.{SettledByNumber}
use Rattle.board_rules.specs.Ready.{SomeReady}
use Rattle.board_rules.specs.Running.{After, Element, Machine, spots}
use Rattle.regent_boards.specs.RegentMachine.{base, name_of, regent_ground, regent_machine, regent_roots}
use Rattle.regent_boards.specs.RootRenaming.{IsOneToOne, renamed_frame, renaming}
use Rattle.regent_boards.specs.Frames.{Frame, Location, Spaces}
use Rattle.board_rules.specs.Apart.{FilledFromMap, HeldApart, InProgressApart}
use Rattle.board_rules.specs.Backs.{TakenBack}
use Rattle.board_rules.specs.ByNumber.{FinishedByNumber}
use Rattle.board_rules.specs.Renaming.{Renames, after_to, elements}

module _ (spaces : Spaces) (segment : Frame → List (Element (regent_ground spaces)) → After (regent_ground spaces)) where
  -- a segment gives back the parts that it was given, but for their numbers
  abbrev pub KeepsParts : Type 0
  KeepsParts = (f : Frame) (ps : List (Element (regent_ground spaces))) → spots (regent_ground spaces) (segment f ps).parts ≡ spots (regent_ground spaces) ps

  -- the segment of what is renamed, no two roots alike, is the segment, renamed
  abbrev pub RunsRenamed : Type 0
  RunsRenamed = (name : ℕ → ℕ) → IsOneToOne name → (f : Frame) (ps : List (Element (regent_ground spaces))) →
      segment (renamed_frame name f) (elements base (regent_roots spaces) (regent_roots spaces) (renaming name spaces) ps)
      ≡ after_to base (regent_roots spaces) (regent_roots spaces) (renaming name spaces) (segment f ps)

  -- with roots by the places of their makers
  abbrev pub by_maker : Machine (regent_ground spaces)
  by_maker = regent_machine spaces name_of segment

  -- with roots by numbers: a new one has the number of those that were made before it
  abbrev pub by_number : ℕ → Machine (regent_ground spaces)
  by_number n = regent_machine spaces (λ p i. n) segment

  -- A finished board has the outcome of the run in order; operations in progress, neither the other's ancestor,
  -- don't interfere; an unfinished board without claims has a ready operation; what an operation holds conflicts
  -- with no need of its unfinished children; what a claim has filled so far equals the map; and a claim that is
  -- taken back leaves the state as it was.
  pub record KeepsOrder : Type 0 where
    pub finished : FinishedAsOrdered (regent_ground spaces) by_maker
    pub in_progress : InProgressApart (regent_ground spaces) by_maker
    pub ready : SomeReady (regent_ground spaces) by_maker
    pub held : HeldApart (regent_ground spaces) by_maker
    pub filled : FilledFromMap (regent_ground spaces) by_maker
    pub taken_back : TakenBack (regent_ground spaces) by_maker

  -- ---- roots by numbers

  -- a main task whose frame names no root, with no needs, on a map of zeros
  pub record IsMain (job : Job (regent_ground spaces)) : Type 0 where
    pub frame : (name : ℕ → ℕ) → job.frame ≡ renamed_frame name job.frame
    pub needs : job.needs ≡ []
    pub map : (l : Location) → job.map l ≡ pos 0

  -- each number is renamed to the name that its maker and making have
  abbrev pub to_makers : (ℕ → List ℕ) → (ℕ → ℕ) → Renames base (regent_roots spaces) (regent_roots spaces)
  to_makers maker making = renaming (λ n. name_of (maker n) (making n)) spaces

  -- whatever steps the seats made, a finished board has the outcome of the run in order, though the two number
  -- their roots differently
  abbrev pub FinishedInOrder : Type 0
  FinishedInOrder = FinishedByNumber base (regent_roots spaces) (regent_roots spaces) by_number by_maker to_makers IsMain

  -- and one on which a fault comes before all that isn't over tells how the run in order ends
  abbrev pub SettledInOrder : Type 0
  SettledInOrder = SettledByNumber base (regent_roots spaces) by_number IsMain

abbrev pub RegentBoards : Type 0
RegentBoards = (spaces : Spaces) (segment : Frame → List (Element (regent_ground spaces)) → After (regent_ground spaces)) →
    KeepsParts spaces segment → KeepsOrder spaces segment

abbrev pub RegentByNumber : Type 0
RegentByNumber = (spaces : Spaces) (segment : Frame → List (Element (regent_ground spaces)) → After (regent_ground spaces)) →
    KeepsParts spaces segment → RunsRenamed spaces segment → FinishedInOrder spaces segment

abbrev pub RegentSettled : Type 0
RegentSettled = (spaces : Spaces) (segment : Frame → List (Element (regent_ground spaces)) → After (regent_ground spaces)) →
    KeepsParts spaces segment → RunsRenamed spaces segment → SettledInOrder spaces segment
