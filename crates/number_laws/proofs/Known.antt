-- What is known of a board with roots by numbers that hasn't finished is so in the order run with roots by numbers.
use Rattle.std.proofs.Common.{◌≡◌, ◌∷◌, ◌∙◌, List, Option, Some, [], ap, refl, subst, sym, true, ℕ}
use Rattle.board_rules.specs.Ground.{Ground}
use Rattle.board_rules.specs.Running.{Laws, Machine}
use Rattle.board_rules.specs.Boards.{Ending, Items, Operation, Stage, at_fault, by, closing, dropped, filling, idle, child_op, no_item, op, out, over, said, stopped}
use Rattle.board_rules.specs.Journals.{Entry, Job, Outcome, State, faulted, finished, order_run, unfinished}
use Rattle.board_rules.specs.Known.{Known, SettledByNumber, known, known_ending, known_items, known_stage, known_then, stops_at, with_text}
use Rattle.board_rules.specs.ByNumber.{Renamable, board_maker, board_making, in_order}
use Rattle.board_rules.specs.NumberedBoards.{Board, Step, entries, start}
use Rattle.board_rules.specs.NumberedRuns.{numbered_order_run}
use Rattle.board_rules.specs.Renaming.{Base, Renames, Roots, ground_over, items_to, node_to, stage_to}
use Rattle.board_rules.specs.RootNumbers.{replay_numbered}
use Rattle.board_laws.proofs.KnownOutcomes.{settled_as_ordered}
use Rattle.number_laws.proofs.ByNumber.{steps_reach}
use Rattle.number_laws.proofs.Naming.{reached_by_name}
use Rattle.number_laws.proofs.Outcomes.{SameOutcome, order_runs_same, same_ended}

-- what is known of operations doesn't depend on the names of roots
module _ (B : Base) (X Y : Roots B) (R : Renames B X Y) where
  stage_alike : (st : Stage (ground_over B X)) → known_stage (ground_over B Y) (stage_to B X Y R st) ≡ known_stage (ground_over B X) st
  stage_alike (idle w) = refl
  stage_alike (filling w d l) = refl
  stage_alike (out w d) = refl
  stage_alike (closing (by v)) = refl
  stage_alike (closing (at_fault x)) = refl
  stage_alike (closing stopped) = refl
  stage_alike (over (by v)) = refl
  stage_alike (over (at_fault x)) = refl
  stage_alike (over stopped) = refl
  stage_alike dropped = refl

  mutual
    pub known_alike : (a : Operation (ground_over B X)) → known (ground_over B Y) (node_to B X Y R a) ≡ known (ground_over B X) a
    known_alike (op D N i f ps st is) = λ r. known_then B.Byte B.Fault (items_alike is r) (stage_alike st r)

    items_alike : (is : Items (ground_over B X)) → known_items (ground_over B Y) (items_to B X Y R is) ≡ known_items (ground_over B X) is
    items_alike no_item = refl
    items_alike (said t is) = λ r. with_text B.Byte B.Fault t (items_alike is r)
    items_alike (child_op a is) = λ r. known_then B.Byte B.Fault (known_alike a r) (items_alike is r)

module _ (B : Base) (X Y : Roots B) (M : ℕ → Machine (ground_over B X)) (K : Machine (ground_over B Y)) (rename : (ℕ → List ℕ) → (ℕ → ℕ) → Renames B X Y) where
  -- the runs of one job end at the same fault
  fault_same : (loc : X.Location → Y.Location) (q : Outcome (ground_over B X)) (s : Outcome (ground_over B Y)) (t : List B.Byte) (x : B.Fault) →
      SameOutcome B X Y M K rename loc q s → s ≡ faulted t x → q ≡ faulted t x
  fault_same loc (finished u a m) (finished w b n) t x h e = absurd cc
  fault_same loc (finished u a m) (faulted w y) t x h e = absurd h
  fault_same loc (finished u a m) unfinished t x h e = absurd h
  fault_same loc (faulted u y) (finished w b n) t x h e = absurd h
  fault_same loc (faulted u y) (faulted w z) t x h e =
      (λ i. faulted (h.0 i) (h.1 i)) ∙ ap (again w z) e
    where
      again : List B.Byte → B.Fault → Outcome (ground_over B Y) → Outcome (ground_over B X)
      again d f (finished t a m) = faulted d f
      again d f (faulted t y) = faulted t y
      again d f unfinished = faulted d f
  fault_same loc (faulted u y) unfinished t x h e = absurd h
  fault_same loc unfinished (finished w b n) t x h e = absurd h
  fault_same loc unfinished (faulted w y) t x h e = absurd h
  fault_same loc unfinished unfinished t x h e = absurd cc

  -- whatever steps were made, by whichever seats
  pub settled_by_number : Laws (ground_over B Y) K → (IsJob : Job (ground_over B X) → Type 0) →
      ((job : Job (ground_over B X)) → IsJob job → (named : Job (ground_over B Y)) × Renamable B X Y M K rename job named) → SettledByNumber B X M IsJob
  settled_by_number laws IsJob can job is steps b k x t made settled ended =
      let n = can job is in
      let journal = entries (ground_over B X) M (Some (start (ground_over B X) M job)) steps in
      let R = rename (board_maker B X Y M K rename job journal b.state) (board_making B X Y M K rename job journal b.state) in
      let run = order_runs_same B X Y M K rename job n.0 n.1 k in
      let reached = reached_by_name B X Y M K rename job n.0 journal b.state (steps_reach (ground_over B X) M steps (start (ground_over B X) M job) b made) n.1 in
      fault_same (in_order B X Y M K rename k job) (numbered_order_run (ground_over B X) M k job) (order_run (ground_over B Y) K k n.0) t x run
      (settled_as_ordered (ground_over B Y) K laws n.0 journal _ k x t reached.2 (known_alike B X Y R b.state.tree ∙ settled)
      (same_ended B X Y M K rename (in_order B X Y M K rename k job) (numbered_order_run (ground_over B X) M k job) (order_run (ground_over B Y) K k n.0) run ended))
