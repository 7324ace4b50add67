-- What holds of every board that a journal leads to: operations in progress that are no ancestors of each
-- other never interfere, what an operation holds conflicts with no need of its unfinished children, and
-- what a claim has filled is what stands in the map.
use Rattle.std.specs.Prelude.{◌≡◌, ◌++◌, ◌∷◌, ◌&&◌, All, Bool, List, None, Option, Some, [], false, nat_eq, not, suc, true, zero, ℕ}
use Rattle.board_rules.specs.Ground.{Ground}
use Rattle.board_rules.specs.Processes.{Apart}
use Rattle.board_rules.specs.Running.{Element, Machine, Spot, filled, spots}
use Rattle.board_rules.specs.Boards.{Items, Operation, Stage, child_op, filling, is_over, is_waiting, no_item, op, out, said, stage_of}
use Rattle.board_rules.specs.Journals.{Entry, Job, State, replay}

module _ (G : Ground) where
  abbrev mutual
    -- the operation to which a way leads
    pub find : List ℕ → Operation G → Option (Operation G)
    find [] (op D N i f ps st is) = Some (op D N i f ps st is)
    find (c ∷ way) (op D N i f ps st is) = find_among c way is

    pub find_among : ℕ → List ℕ → Items G → Option (Operation G)
    find_among c way no_item = None
    find_among c way (said t is) = find_among c way is
    find_among zero way (child_op n is) = find way n
    find_among (suc c) way (child_op n is) = find_among c way is

  abbrev pub begins : List ℕ → List ℕ → Bool
  begins [] w = true
  begins (c ∷ v) [] = false
  begins (c ∷ v) (d ∷ w) = nat_eq c d && begins v w

  -- what it needs now, its own roots included
  abbrev pub needs_now : Operation G → G.Needs
  needs_now (op D N i f ps st is) = N

  abbrev pub in_progress : Operation G → Bool
  in_progress n = not (is_waiting G (stage_of G n)) && not (is_over G (stage_of G n))

  abbrev pub InProgressApart : Machine G → Type 0
  InProgressApart M = (job : Job G) (journal : List Entry) (s : State G) → replay G M job journal ≡ Some s → (v w : List ℕ) (a b : Operation G) →
      find v s.tree ≡ Some a → find w s.tree ≡ Some b → begins v w ≡ false → begins w v ≡ false → in_progress a ≡ true → in_progress b ≡ true →
      (l : G.Location) → Apart G (G.at (needs_now a) l) (G.at (needs_now b) l)

  -- ---- what an operation holds

  abbrev pub parts_of : Operation G → List (Element G)
  parts_of (op D N i f ps st is) = ps

  -- the elements that a claim has filled so far
  abbrev pub filled_by : Stage G → List (Element G)
  filled_by (filling w d l) = d
  filled_by (out w d) = d
  filled_by _ = []

  -- those, and where it has still to fill some
  abbrev pub claimed_by : Stage G → List (Spot G)
  claimed_by (filling w d l) = spots G d ++ l
  claimed_by (out w d) = spots G d
  claimed_by _ = []

  abbrev pub children_in : Items G → List (Operation G)
  children_in no_item = []
  children_in (said t is) = children_in is
  children_in (child_op n is) = n ∷ children_in is

  abbrev pub children_of : Operation G → List (Operation G)
  children_of (op D N i f ps st is) = children_in is

  -- the spots conflict with nothing that the operation needs, while it is unfinished
  abbrev pub ApartWhileOpen : List (Spot G) → Operation G → Type 0
  ApartWhileOpen xs b = is_over G (stage_of G b) ≡ false → All (λ (x : Spot G). Apart G (Some x.mode) (G.at (needs_now b) x.location)) xs

  -- What an operation holds, and what it is being filled with, conflicts with no need of its unfinished
  -- children.
  abbrev pub HeldApart : Machine G → Type 0
  HeldApart M = (job : Job G) (journal : List Entry) (s : State G) → replay G M job journal ≡ Some s → (way : List ℕ) (a : Operation G) → find way s.tree ≡ Some a →
      All (ApartWhileOpen (spots G (parts_of a))) (children_of a) × All (ApartWhileOpen (claimed_by (stage_of G a))) (children_of a)

  -- what was filled so far, while an operation is Filling and while it is Out, is what would be filled now
  abbrev pub FilledFromMap : Machine G → Type 0
  FilledFromMap M = (job : Job G) (journal : List Entry) (s : State G) → replay G M job journal ≡ Some s → (way : List ℕ) (a : Operation G) → find way s.tree ≡ Some a →
      filled G M (spots G (filled_by (stage_of G a))) s.map ≡ filled_by (stage_of G a)
