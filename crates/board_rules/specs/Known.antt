-- What is known of a board's outcome before it has finished: in program order, everything up to the first operation that isn't over.
use Rattle.std.specs.Prelude.{◌≡◌, ◌++◌, List, Some, [], ℕ}
use Rattle.board_rules.specs.Ground.{Ground}
use Rattle.board_rules.specs.Running.{Machine}
use Rattle.board_rules.specs.Boards.{Ending, Items, Operation, Stage, at_fault, by, closing, dropped, ending, filling, idle, child_op, no_item, op, out, over, said, stopped}
use Rattle.board_rules.specs.Journals.{Entry, Job, State, faulted, order_run, replay, unfinished}
use Rattle.board_rules.specs.NumberedBoards.{Board, Step, board_of}
use Rattle.board_rules.specs.NumberedRuns.{numbered_order_run}
use Rattle.board_rules.specs.Renaming.{Base, Roots, ground_over}

-- All of an operation is known, with its text; or it ends at a fault, with the text before that; or it depends on what
-- isn't over.
pub data Known (Byte Fault : Type 0) : Type 0 where
  whole : List Byte → Known Byte Fault
  stops_at : Fault → List Byte → Known Byte Fault
  unknown : Known Byte Fault

module _ (Byte Fault : Type 0) where
  -- text first, and then what stands behind it
  abbrev pub with_text : List Byte → Known Byte Fault → Known Byte Fault
  with_text t (whole u) = whole (t ++ u)
  with_text t (stops_at x u) = stops_at x (t ++ u)
  with_text t unknown = unknown

  abbrev pub known_then : Known Byte Fault → Known Byte Fault → Known Byte Fault
  known_then (whole t) next = with_text t next
  known_then (stops_at x t) next = stops_at x t
  known_then unknown next = unknown

module _ (G : Ground) where
  abbrev pub known_ending : Ending G → Known G.Byte G.Fault
  known_ending (by v) = whole []
  known_ending (at_fault x) = stops_at x []
  known_ending stopped = stops_at G.broken []

  -- an operation's own work, behind its children
  abbrev pub known_stage : Stage G → Known G.Byte G.Fault
  known_stage (closing e) = known_ending e
  known_stage (over e) = known_ending e
  known_stage dropped = stops_at G.broken []
  known_stage _ = unknown

  abbrev mutual
    pub known : Operation G → Known G.Byte G.Fault
    known (op D N i f ps st is) = known_then G.Byte G.Fault (known_items is) (known_stage st)

    pub known_items : Items G → Known G.Byte G.Fault
    known_items no_item = whole []
    known_items (said t is) = with_text G.Byte G.Fault t (known_items is)
    known_items (child_op n is) = known_then G.Byte G.Fault (known n) (known_items is)

module _ (G : Ground) (M : Machine G) where
  -- Where a fault comes before all that isn't over, the run in order ends at it, whatever the seats do next.
  abbrev pub SettledAsOrdered : Type 0
  SettledAsOrdered = (job : Job G) (journal : List Entry) (s : State G) (k : ℕ) (x : G.Fault) (t : List G.Byte) → replay G M job journal ≡ Some s →
      known G s.tree ≡ stops_at x t → ¬ (order_run G M k job ≡ unfinished) → order_run G M k job ≡ faulted t x

-- The same with operations, seats and roots by numbers.
module _ (B : Base) (X : Roots B) (M : ℕ → Machine (ground_over B X)) where
  abbrev pub SettledByNumber : (Job (ground_over B X) → Type 0) → Type 0
  SettledByNumber IsJob = (job : Job (ground_over B X)) → IsJob job → (steps : List Step) (b : Board (ground_over B X)) (k : ℕ) (x : B.Fault) (t : List B.Byte) →
      board_of (ground_over B X) M job steps ≡ Some b → known (ground_over B X) b.state.tree ≡ stops_at x t →
      ¬ (numbered_order_run (ground_over B X) M k job ≡ unfinished) → numbered_order_run (ground_over B X) M k job ≡ faulted t x
