-- A finished board with roots by numbers has the outcome of the run in order with roots by numbers.
--
-- The two number roots as they make them, and so differently. Roots are compared by who made them: the
-- place of the maker and which of its roots it is.
use Rattle.std.specs.Prelude.{◌≡◌, ◌<◌, List, None, Option, Some, [], suc, true, ℕ}
use Rattle.board_rules.specs.Processes.{Map}
use Rattle.board_rules.specs.Running.{Machine}
use Rattle.board_rules.specs.Boards.{is_over, stage_of}
use Rattle.board_rules.specs.Journals.{Entry, Job, Outcome, State, answered, faulted, finished, opened, told, unfinished}
use Rattle.board_rules.specs.NumberedBoards.{Board, Step, board_of, entries, start}
use Rattle.board_rules.specs.NumberedRuns.{Making, numbered_order_run, numbered_run}
use Rattle.board_rules.specs.Renaming.{Base, Renamed, Renames, Roots, ground_over}
use Rattle.board_rules.specs.RootNames.{names, pick, total}
use Rattle.board_rules.specs.RootNumbers.{made_in, turned_onto}

-- no two numbers have one maker and one making
abbrev pub Differ : (ℕ → List ℕ) → (ℕ → ℕ) → Type 0
Differ maker making = (n m : ℕ) → n < m → maker n ≡ maker m → making n ≡ making m → ⊥

module _ (B : Base) (X Y : Roots B) (M : ℕ → Machine (ground_over B X)) (K : Machine (ground_over B Y)) (rename : (ℕ → List ℕ) → (ℕ → ℕ) → Renames B X Y) where
  -- However numbers are named, as long as no two are named alike, the machine over names does to what is
  -- renamed what the machine over numbers does, renamed; and the two jobs are the same but for that.
  pub record Renamable (job : Job (ground_over B X)) (named : Job (ground_over B Y)) : Type 0 where
    pub renamed : (maker : ℕ → List ℕ) (making : ℕ → ℕ) → Differ maker making → Renamed B X Y M K (rename maker making) maker making
    pub frame : (maker : ℕ → List ℕ) (making : ℕ → ℕ) → named.frame ≡ (rename maker making).frame job.frame
    pub needs : (maker : ℕ → List ℕ) (making : ℕ → ℕ) → named.needs ≡ (rename maker making).needs job.needs
    pub map : (maker : ℕ → List ℕ) (making : ℕ → ℕ) (l : X.Location) → named.map ((rename maker making).loc l) ≡ job.map l

  -- ---- the names of locations

  abbrev pub board_maker : Job (ground_over B X) → List Entry → State (ground_over B X) → ℕ → List ℕ
  board_maker job journal t n = turned_onto (ground_over B X) M (names (ground_over B X) M (suc (made_in (ground_over B X) M t.tree)) journal (Some (opened (ground_over B X) (M 0) job)) n).way []

  abbrev pub board_making : Job (ground_over B X) → List Entry → State (ground_over B X) → ℕ → ℕ
  board_making job journal t n = (names (ground_over B X) M (suc (made_in (ground_over B X) M t.tree)) journal (Some (opened (ground_over B X) (M 0) job)) n).making

  -- of the board that a journal leads to
  abbrev pub on_board : Job (ground_over B X) → List Entry → State (ground_over B X) → X.Location → Y.Location
  on_board job journal t = (rename (board_maker job journal t) (board_making job journal t)).loc

  -- what the run in order makes, in order
  abbrev pub made_in_order : ℕ → Job (ground_over B X) → List Making
  made_in_order k job = (numbered_run (ground_over B X) M k [] job.needs 0 job.frame [] [] 0 job.map).made

  abbrev pub run_maker : ℕ → Job (ground_over B X) → ℕ → List ℕ
  run_maker k job n = (pick (suc (total (made_in_order k job))) (made_in_order k job) n).maker

  abbrev pub run_making : ℕ → Job (ground_over B X) → ℕ → ℕ
  run_making k job n = (pick (suc (total (made_in_order k job))) (made_in_order k job) n).making

  -- of the run in order
  abbrev pub in_order : ℕ → Job (ground_over B X) → X.Location → Y.Location
  in_order k job = (rename (run_maker k job) (run_making k job)).loc

  -- ---- the law

  -- Text, fault and the first task's answer are those of the run in order; and at locations of the two that have one
  -- name the numbers are the same.
  abbrev pub Agrees : Option B.Fault → List B.Byte → B.Answer → Map (ground_over B X) → (X.Location → Y.Location) → (X.Location → Y.Location) → Outcome (ground_over B X) → Type 0
  Agrees x t a m one two (finished s v n) = (x ≡ None) × (t ≡ s) × (a ≡ v) × ((l o : X.Location) → one l ≡ two o → m l ≡ n o)
  Agrees x t a m one two (faulted s y) = (x ≡ Some y) × (t ≡ s)
  Agrees x t a m one two unfinished = ⊥

  -- whatever steps were made, by whichever seats, where the run in order comes to an end
  abbrev pub FinishedByNumber : (Job (ground_over B X) → Type 0) → Type 0
  FinishedByNumber IsJob = (job : Job (ground_over B X)) → IsJob job → (steps : List Step) (b : Board (ground_over B X)) (k : ℕ) →
      board_of (ground_over B X) M job steps ≡ Some b → is_over (ground_over B X) (stage_of (ground_over B X) b.state.tree) ≡ true →
      ¬ (numbered_order_run (ground_over B X) M k job ≡ unfinished) →
      Agrees (told (ground_over B X) (M 0) b.state.tree).fault (told (ground_over B X) (M 0) b.state.tree).text
      (answered (ground_over B X) (M 0) b.state.tree) b.state.map
      (on_board job (entries (ground_over B X) M (Some (start (ground_over B X) M job)) steps) b.state) (in_order k job)
      (numbered_order_run (ground_over B X) M k job)
