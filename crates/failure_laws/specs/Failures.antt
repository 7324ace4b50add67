-- Why an operation of a board has failed without a fault of its own.
--
-- One that was dropped waited for a sibling that was called before it and has failed. One that was stopped waited for a
-- child that has failed, or came to its end and has a child that has failed. So where such an operation is read by
-- place, the fault of another one has been read before.
use Rattle.std.specs.Prelude.{◌≡◌, ◌||◌, Bool, List, Some, false, true, ℕ}
use Rattle.board_rules.specs.Ground.{Ground}
use Rattle.board_rules.specs.Running.{Machine}
use Rattle.board_rules.specs.Boards.{Items, Operation, Stage, child_op, closing, dropped, has_failed, no_item, op, over, said, stage_of, stopped}
use Rattle.board_rules.specs.Journals.{Job}
use Rattle.board_rules.specs.NumberedBoards.{Board, Step, board_of}

module _ (G : Ground) where
  -- some child has failed
  abbrev pub any_failed : Items G → Bool
  any_failed no_item = false
  any_failed (said t is) = any_failed is
  any_failed (child_op n is) = has_failed G (stage_of G n) || any_failed is

  abbrev pub IsDropped : Stage G → Type 0
  IsDropped dropped = Unit {0}
  IsDropped _ = ⊥

  abbrev pub StopIsTold : Stage G → Items G → Type 0
  StopIsTold (closing stopped) is = any_failed is ≡ true
  StopIsTold (over stopped) is = any_failed is ≡ true
  StopIsTold _ is = Unit {0}

  -- of an operation and all below it; failed says whether a sibling before these has failed
  abbrev mutual
    pub FailuresTold : Operation G → Type 0
    FailuresTold (op D N i f ps st is) = StopIsTold st is × ChildrenTold false is

    pub ChildrenTold : Bool → Items G → Type 0
    ChildrenTold failed no_item = Unit {0}
    ChildrenTold failed (said t is) = ChildrenTold failed is
    ChildrenTold failed (child_op n is) =
        (IsDropped (stage_of G n) → failed ≡ true) × FailuresTold n × ChildrenTold (failed || has_failed G (stage_of G n)) is

-- Of every board, over any machine, whatever steps its seats make. The first task, which waits for nobody, is never
-- dropped.
abbrev pub FailuresAreTold : (G : Ground) → (ℕ → Machine G) → Type 0
FailuresAreTold G M = (job : Job G) (steps : List Step) (b : Board G) → board_of G M job steps ≡ Some b →
    FailuresTold G b.state.tree × ¬ IsDropped G (stage_of G b.state.tree)
