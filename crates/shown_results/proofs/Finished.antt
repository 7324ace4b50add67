-- A table has finished exactly where the first task is over in the tree that it shows.
use Rattle.std.proofs.Common.{◌≡◌, ◌<◌, ◌≤◌, ◌+◌, ◌++◌, ◌∷◌, ◌∙◌, ◌&&◌, ℕ, zero, suc, Bool, List, Some, [], ap, arith, false, length, refl, subst, sym, true}
use Rattle.std.specs.Prelude.{slice_get}
use Rattle.std.specs.List.{list_all}
use Rattle.std.proofs.lemmas.Bool.{and_parts, false≢true}
use Rattle.std.proofs.lemmas.Option.{none-some, same_Some}
use Rattle.plain_values.specs.Points.{counted_from, points}
use Rattle.region_tree.specs.declared.tree.OpNumber.{OpNumber}
use Rattle.region_tree.specs.declared.tree.RootId.{RootId}
use Rattle.dependence_graph.specs.Knots.{number}
use Rattle.task_code.specs.declared.job.Job.{Job}
use Rattle.board_rules.specs.Boards.{Items, Operation as Node, Stage as BoardStage, all_over, child_op, closing, dropped, filling, idle, is_over as over_in_tree, no_item, op, out, over, said, stage_of}
use Rattle.board_rules.specs.Ground.{Ground}
use Rattle.board_rules.specs.NumberedBoards.{Board, way_of}
use Rattle.regent_boards.specs.RegentMachine.{regent_ground}
use Rattle.code_boards.specs.Laws.{machine_of}
use Rattle.code_boards.specs.Views.{spaces_of}
use Rattle.board_terms.specs.Stages.{has_finished, is_over, stage_at}
use Rattle.board_terms.specs.States.{State, operation_at}
use Rattle.board_trees.specs.Shows.{Leads, Shows, ShowsBoard, ShowsChildren}
use Rattle.board_trees.specs.Stages.{ChildrenAre}
use Rattle.board_trees.specs.Waits.{Sibling}
use Rattle.board_trees.proofs.Settled.{children_over, node_told}

-- a test that each of so many numbers passes
all_counted : (f : ℕ → Bool) (a n : ℕ) → ((k : ℕ) → a ≤ k → k < a + n → f k ≡ true) → list_all f (counted_from a n) ≡ true
all_counted f a zero h = refl
all_counted f a (suc n) h =
    ap (λ b. b && list_all f (counted_from (suc a) n)) (h a (omega arith) (omega arith))
    ∙ all_counted f (suc a) n (λ k l m. h k (omega (arith, l)) (omega (arith, m)))

module _ (job : Job) where
  abbrev G : Ground
  G = regent_ground (spaces_of job.code)

  module _ (s : State) (who : ℕ → ℕ) (ways : List (List ℕ)) where
    -- what is over has children that are over
    over_below : (way : List ℕ) (k : ℕ) (earlier : List Sibling) (above : List RootId) (D N : _) (i : ℕ) (f : _) (ps : _) (st : BoardStage G) (is : Items G) →
        Shows job s who ways way k earlier above (op D N i f ps st is) → over_in_tree G st ≡ true → (c j : ℕ) →
        slice_get (operation_at s k).children c ≡ Some (number j) → all_over G is ≡ true
    over_below way k earlier above D N i f ps st is h e c j there = by_stage st e h.0.children_are
      where
        by_stage : (st : BoardStage G) → over_in_tree G st ≡ true → ChildrenAre job.code s (operation_at s k).children st → all_over G is ≡ true
        by_stage (over x) e g = sym (children_over job s who ways way k 0 [] (above ++ (operation_at s k).frame.own) (operation_at s k).children is h.1) ∙ g
        by_stage dropped e g = absurd (none-some (number j) (sym (ap (λ ks. slice_get ks c) g) ∙ there))
        by_stage (idle w) e g = absurd (false≢true e)
        by_stage (filling w x y) e g = absurd (false≢true e)
        by_stage (out w x) e g = absurd (false≢true e)
        by_stage (closing x) e g = absurd (false≢true e)

    -- each operation that a way leads to is over
    mutual
      led_over : (path : List ℕ) (way : List ℕ) (k : ℕ) (earlier : List Sibling) (above : List RootId) (n : Node G) → Shows job s who ways way k earlier above n →
          over_in_tree G (stage_of G n) ≡ true → (j : ℕ) → Leads job s k path j → is_over (stage_at s j) ≡ true
      led_over [] way k earlier above n h e j l = subst (λ i. is_over (stage_at s i) ≡ true) l ((node_told job s who ways way k earlier above n h).is_over ∙ e)
      led_over (c ∷ path) way k earlier above (op D N i f ps st is) h e j l =
          led_among path c way k 0 [] (above ++ (operation_at s k).frame.own) (operation_at s k).children is h.1
          (over_below way k earlier above D N i f ps st is h e c l.0 l.1) l.0 l.1 j l.2

      led_among : (path : List ℕ) (c : ℕ) (way : List ℕ) (k d : ℕ) (earlier : List Sibling) (roots : List RootId) (ks : List OpNumber) (is : Items G) →
          ShowsChildren job s who ways way k d earlier roots ks is → all_over G is ≡ true → (i : ℕ) → slice_get ks c ≡ Some (number i) →
          (j : ℕ) → Leads job s i path j → is_over (stage_at s j) ≡ true
      led_among path c way k d earlier roots ks no_item h e i there j l = absurd (none-some (number i) (sym (ap (λ xs. slice_get xs c) h) ∙ there))
      led_among path c way k d earlier roots ks (said t is) h e i there j l = led_among path c way k d earlier roots ks is h e i there j l
      led_among path c way k d earlier roots [] (child_op n is) h e i there j l = absurd h
      led_among path zero way k d earlier roots (q ∷ ks) (child_op n is) h e i there j l =
          led_over path (way ++ d ∷ []) q.0 earlier roots n h.1 (and_parts (over_in_tree G (stage_of G n)) (all_over G is) e).0 j
          (subst (λ (x : OpNumber). Leads job s x.0 path j) (sym (same_Some q (number i) there)) l)
      led_among path (suc c) way k d earlier roots (q ∷ ks) (child_op n is) h e i there j l =
          led_among path c way k (suc d) _ roots ks is h.2 (and_parts (over_in_tree G (stage_of G n)) (all_over G is) e).1 i (behind there) j l
        where
          behind : slice_get (q ∷ ks) (suc c) ≡ Some (number i) → slice_get ks c ≡ Some (number i)
          behind e = e

  -- there is a way to each operation
  way_there : (ways : List (List ℕ)) (k : ℕ) → k < length ways → (way : List ℕ) × (way_of G (machine_of job) ways k ≡ Some way)
  way_there [] k l = absurd (omega (arith, l))
  way_there (w ∷ ws) zero l = (w, refl)
  way_there (w ∷ ws) (suc k) l = way_there ws k (omega (arith, l))

  pub finished_is_over : (s : State) (b : Board G) → ShowsBoard job s b → 0 < length s.operations → has_finished s ≡ over_in_tree G (stage_of G b.state.tree)
  finished_is_over s b h some = by_over (over_in_tree G (stage_of G b.state.tree)) refl
    where
      first_told : is_over (stage_at s 0) ≡ over_in_tree G (stage_of G b.state.tree)
      first_told = (node_told job s h.who b.ways [] 0 [] [] b.state.tree h.shows).is_over

      all_are : over_in_tree G (stage_of G b.state.tree) ≡ true → has_finished s ≡ true
      all_are e = all_counted (λ k. is_over (stage_at s k)) 0 (length s.operations)
          (λ k m l. let w = way_there b.ways k (omega (arith, l, h.ways)) in
          led_over s h.who b.ways w.0 [] 0 [] [] b.state.tree h.shows e k (h.leads k w.0 w.1))

      one_is_open : (n : ℕ) → 0 < n → is_over (stage_at s 0) ≡ false → list_all (λ k. is_over (stage_at s k)) (points n) ≡ false
      one_is_open zero l e = absurd (omega (arith, l))
      one_is_open (suc n) l e = ap (λ b. b && list_all (λ k. is_over (stage_at s k)) (counted_from 1 n)) e

      by_over : (c : Bool) → over_in_tree G (stage_of G b.state.tree) ≡ c → has_finished s ≡ over_in_tree G (stage_of G b.state.tree)
      by_over true e = all_are e ∙ sym e
      by_over false e = one_is_open (length s.operations) some (first_told ∙ e) ∙ sym e
