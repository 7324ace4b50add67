-- The board as its users see it: operations by their numbers in order of issue, claims by seats, roots by
-- numbers in order of making.
--
-- By place, and so the same on each schedule: operations by the ways that lead to them, and roots by their
-- maker's place and which of its roots they are. By number, and so as the schedule has it: operations in the
-- order in which they were issued, roots in the order in which they were made, and claims by how many there
-- were before. The outcome is read by place.
use Rattle.std.specs.Prelude.{◌++◌, ◌-◌, ◌∷◌, ◌&&◌, ◌||◌, Bool, List, None, Option, Some, [], cond, false, nat_eq, suc, true, unwrap_or, zero, ℕ}
use Rattle.board_rules.specs.Ground.{Ground}
use Rattle.board_rules.specs.Running.{Machine}
use Rattle.board_rules.specs.Boards.{Items, Kind, Operation, back, claim, copy, give, child_op, child_count, no_item, op, said}
use Rattle.board_rules.specs.Journals.{Entry, Job, State, opened}
use Rattle.board_rules.specs.RootNumbers.{after_numbered}

pub record Step : Type 0 where
  pub kind : Kind
  pub number : ℕ
  pub seat : ℕ

-- an operation that a seat has claimed, and how many claims there were before
pub record Claim : Type 0 where
  pub number : ℕ
  pub seat : ℕ
  pub turn : ℕ

-- the ways to the operations in order of issue, and the claims that are out
pub record Board (G : Ground) : Type 0 where
  pub state : State G
  pub ways : List (List ℕ)
  pub claims : List Claim
  pub turns : ℕ

module _ (G : Ground) (M : ℕ → Machine G) where
  abbrev pub way_of : List (List ℕ) → ℕ → Option (List ℕ)
  way_of [] n = None
  way_of (w ∷ ws) zero = Some w
  way_of (w ∷ ws) (suc n) = way_of ws n

  abbrev mutual
    pub children_at : List ℕ → Operation G → ℕ
    children_at [] (op D N i f ps st is) = child_count G is
    children_at (c ∷ way) (op D N i f ps st is) = children_among c way is

    pub children_among : ℕ → List ℕ → Items G → ℕ
    children_among c way no_item = 0
    children_among c way (said t is) = children_among c way is
    children_among zero way (child_op n is) = children_at way n
    children_among (suc c) way (child_op n is) = children_among c way is

  -- the ways to so many more children, from a place on
  abbrev pub more_ways : List ℕ → ℕ → ℕ → List (List ℕ)
  more_ways way c zero = []
  more_ways way c (suc n) = (way ++ c ∷ []) ∷ more_ways way (suc c) n

  abbrev pub holds_claim : ℕ → ℕ → List Claim → Bool
  holds_claim n seat [] = false
  holds_claim n seat (c ∷ cs) = nat_eq c.number n && nat_eq c.seat seat || holds_claim n seat cs

  abbrev pub without : ℕ → List Claim → List Claim
  without n [] = []
  without n (c ∷ cs) = cond (nat_eq c.number n) (without n cs) (c ∷ without n cs)

  -- whose step it may be
  abbrev pub may_step : Step → List Claim → Bool
  may_step s cs = elim s.kind [ claim ↦ true | copy ↦ holds_claim s.number s.seat cs | give ↦ holds_claim s.number s.seat cs | back ↦ holds_claim s.number s.seat cs ]

  abbrev pub claims_after : Step → ℕ → List Claim → List Claim
  claims_after s turn cs = elim s.kind [
    | claim ↦ record { number = s.number; seat = s.seat; turn = turn } ∷ cs
    | copy ↦ cs
    | give ↦ without s.number cs
    | back ↦ without s.number cs
  ]

  abbrev pub turns_after : Kind → ℕ → ℕ
  turns_after claim n = suc n
  turns_after _ n = n

  abbrev pub moved : Board G → Step → List ℕ → Option (State G) → Option (Board G)
  moved b s way None = None
  moved b s way (Some t) = Some (record {
    state = t;
    ways = b.ways ++ more_ways way (children_at way b.state.tree) (children_at way t.tree - children_at way b.state.tree);
    claims = claims_after s b.turns b.claims;
    turns = turns_after s.kind b.turns;
  })

  abbrev pub by_way : Board G → Step → Option (List ℕ) → Option (Board G)
  by_way b s None = None
  by_way b s (Some way) = moved b s way (after_numbered G M (Some b.state) (record { kind = s.kind; way = way }))

  abbrev pub after_step : Option (Board G) → Step → Option (Board G)
  after_step None s = None
  after_step (Some b) s = cond (may_step s b.claims) (by_way b s (way_of b.ways s.number)) None

  abbrev pub after_steps : Option (Board G) → List Step → Option (Board G)
  after_steps o [] = o
  after_steps o (s ∷ ss) = after_steps (after_step o s) ss

  -- main alone, which waits
  abbrev pub start : Job G → Board G
  start job = record { state = opened G (M 0) job; ways = [] ∷ []; claims = []; turns = 0 }

  abbrev pub board_of : Job G → List Step → Option (Board G)
  board_of job steps = after_steps (Some (start job)) steps

  -- ---- the journal by ways of steps by numbers

  abbrev pub entry_of : Board G → Step → Entry
  entry_of b s = record { kind = s.kind; way = unwrap_or (way_of b.ways s.number) [] }

  abbrev pub entries : Option (Board G) → List Step → List Entry
  entries None ss = []
  entries (Some b) [] = []
  entries (Some b) (s ∷ ss) = entry_of b s ∷ entries (after_step (Some b) s) ss
