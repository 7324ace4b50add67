-- Who made the roots of a board, by their numbers: the way to the maker, and which of its roots it is.
use Rattle.std.specs.Prelude.{◌+◌, ◌++◌, ◌∷◌, ◌&&◌, Bool, List, None, Option, Some, [], cond, false, nat_eq, suc, zero, ℕ}
use Rattle.board_rules.specs.Ground.{Ground}
use Rattle.board_rules.specs.Running.{Machine, Yield, make}
use Rattle.board_rules.specs.Boards.{Items, Kind, Operation, awaited, child_op, give, met_by, no_item, op, out, said}
use Rattle.board_rules.specs.Journals.{Entry, State}
use Rattle.board_rules.specs.NumberedRuns.{Making}
use Rattle.board_rules.specs.RootNumbers.{after_numbered, count_at, made_in}

module _ (G : Ground) (M : Machine G) where
  -- whether a step makes something
  abbrev pub makes_now : Yield G → Bool
  makes_now (make d) = M.sound d
  makes_now _ = false

  abbrev pub makes_own : Kind → Operation G → Bool
  makes_own give (op D N i f ps (out w d) is) = makes_now (M.segment (met_by G M w f (awaited G M w is)) (ps ++ d)).yields
  makes_own _ _ = false

  abbrev mutual
    pub makes_in : Kind → List ℕ → Operation G → Bool
    makes_in k [] (op D N i f ps st is) = makes_own k (op D N i f ps st is)
    makes_in k (c ∷ way) (op D N i f ps st is) = makes_among k c way is

    pub makes_among : Kind → ℕ → List ℕ → Items G → Bool
    makes_among k c way no_item = false
    makes_among k c way (said t is) = makes_among k c way is
    makes_among k zero way (child_op a is) = makes_in k way a
    makes_among k (suc c) way (child_op a is) = makes_among k c way is

-- the way to a maker, outermost place first, and which of its roots it made
pub record Name : Type 0 where
  pub way : List ℕ
  pub making : ℕ

module _ (G : Ground) (F : ℕ → Machine G) (c : ℕ) where
  abbrev pub made : State G → ℕ
  made s = made_in G F s.tree

  abbrev pub makes : Entry → State G → Bool
  makes e s = makes_in G (F (made s)) e.kind e.way s.tree

  -- the names of the roots that a journal makes from a state on; numbers that it doesn't make get names
  -- that no journal of so few makings gives
  abbrev pub names : List Entry → Option (State G) → ℕ → Name
  names [] o n = record { way = []; making = c + n }
  names (e ∷ es) None n = record { way = []; making = c + n }
  names (e ∷ es) (Some s) n = cond (makes e s && nat_eq n (made s)) (record { way = e.way; making = count_at G F e.way s.tree }) (names es (after_numbered G F (Some s) e) n)

-- the making of a number in a list; past it, makings beyond a bound
abbrev pub pick : ℕ → List Making → ℕ → Making
pick b [] n = record { maker = []; making = b + n }
pick b (x ∷ xs) zero = x
pick b (x ∷ xs) (suc n) = pick b xs n

abbrev pub total : List Making → ℕ
total [] = 0
total (x ∷ xs) = x.making + total xs
