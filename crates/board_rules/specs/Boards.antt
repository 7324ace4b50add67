-- The board: a tree of operations with one map, and the steps of a journal.
--
-- A step goes down to its operation and settles each operation on the way back up: what waits for a failed
-- operation is dropped or stopped, and what has nothing left to wait for is closed.
use Rattle.std.specs.Prelude.{◌++◌, ◌∷◌, ◌||◌, ◌&&◌, Bool, List, None, Option, Some, [], cond, drop, false, is_some, not, suc, take, true, unwrap_or, zero, ℕ}
use Rattle.board_rules.specs.Ground.{Ground}
use Rattle.board_rules.specs.Processes.{Effect, Map, Process, bind, faults, gives, says}
use Rattle.board_rules.specs.Running.{After, Call, Element, Machine, Path, Spot, Yield, answer_at, await, calls, ends, filled, make, puts, run_on, stops, want}

-- what an operation waits for: for its beginning, for nothing, for a part, for a child's answer
pub data Wait (G : Ground) : Type 0 where
  first : Wait G
  nothing : Wait G
  part : G.Key → Wait G
  child : ℕ → Wait G

-- how an operation has ended its own work
pub data Ending (G : Ground) : Type 0 where
  by : G.Answer → Ending G
  at_fault : G.Fault → Ending G
  stopped : Ending G

-- Waiting is idle for its beginning, and Parked is idle for anything else. A claimed operation keeps
-- what it waited for, the elements that were filled, and while it is Filling the spots that are left.
-- Ended is over by an answer, and Failed over otherwise.
pub data Stage (G : Ground) : Type 0 where
  idle : Wait G → Stage G
  filling : Wait G → List (Element G) → List (Spot G) → Stage G
  out : Wait G → List (Element G) → Stage G
  closing : Ending G → Stage G
  over : Ending G → Stage G
  dropped : Stage G

-- An operation has the needs that it was issued with, its needs with those of its own roots, the number
-- of its makings, its frame, its parts, its stage, and its text with its children in order.
mutual
  pub data Operation (G : Ground) : Type 0 where
    op : G.Needs → G.Needs → ℕ → G.Frame → List (Element G) → Stage G → Items G → Operation G

  pub data Items (G : Ground) : Type 0 where
    no_item : Items G
    said : List G.Byte → Items G → Items G
    child_op : Operation G → Items G → Items G

pub data Kind : Type 0 where
  claim : Kind
  copy : Kind
  give : Kind
  back : Kind

-- what a step leaves of an operation, and what it does to the map
pub record Stepped (G : Ground) (A : Type 0) : Type 0 where
  pub left : A
  pub effects : List (Effect G)

module _ (G : Ground) where
  abbrev pub needs_of : Operation G → G.Needs
  needs_of (op D N i f ps st is) = D

  abbrev pub stage_of : Operation G → Stage G
  stage_of (op D N i f ps st is) = st

  abbrev pub is_over : Stage G → Bool
  is_over (over e) = true
  is_over dropped = true
  is_over _ = false

  abbrev pub is_ended : Stage G → Bool
  is_ended (over (by v)) = true
  is_ended _ = false

  -- Failed or Dropped
  abbrev pub has_failed : Stage G → Bool
  has_failed (over (at_fault x)) = true
  has_failed (over stopped) = true
  has_failed dropped = true
  has_failed _ = false

  abbrev pub is_waiting : Stage G → Bool
  is_waiting (idle first) = true
  is_waiting _ = false

  infixr 50 ◌+++◌
  abbrev pub ◌+++◌ : Items G → Items G → Items G
  no_item +++ js = js
  said t is +++ js = said t (is +++ js)
  child_op n is +++ js = child_op n (is +++ js)

  abbrev pub child_count : Items G → ℕ
  child_count no_item = 0
  child_count (said t is) = child_count is
  child_count (child_op n is) = suc (child_count is)

  abbrev pub all_over : Items G → Bool
  all_over no_item = true
  all_over (said t is) = all_over is
  all_over (child_op n is) = is_over (stage_of n) && all_over is

  abbrev pub all_ended : Items G → Bool
  all_ended no_item = true
  all_ended (said t is) = all_ended is
  all_ended (child_op n is) = is_ended (stage_of n) && all_ended is

module _ (G : Ground) (M : Machine G) where
  abbrev pub wants : G.Needs → Wait G → List (Spot G)
  wants N (part k) = M.wanted N k
  wants N _ = []

  -- ---- what waits for what

  abbrev pub given_by : Stage G → Option G.Answer
  given_by (over (by v)) = Some v
  given_by _ = None

  -- the answer of a child that is Ended
  abbrev pub answer_of : Items G → ℕ → Option G.Answer
  answer_of no_item c = Some M.no_answer
  answer_of (said t is) c = answer_of is c
  answer_of (child_op n is) zero = given_by (stage_of G n)
  answer_of (child_op n is) (suc c) = answer_of is c

  -- each child that meets these needs is Ended
  abbrev pub clear_of : G.Needs → Items G → Bool
  clear_of Q no_item = true
  clear_of Q (said t is) = clear_of Q is
  clear_of Q (child_op n is) = (is_ended G (stage_of G n) || not (M.meets (needs_of G n) Q)) && clear_of Q is

  -- some child that meets these needs has failed
  abbrev pub failed_on : G.Needs → Items G → Bool
  failed_on Q no_item = false
  failed_on Q (said t is) = failed_on Q is
  failed_on Q (child_op n is) = has_failed G (stage_of G n) && M.meets (needs_of G n) Q || failed_on Q is

  abbrev pub failed_at : Items G → ℕ → Bool
  failed_at no_item c = false
  failed_at (said t is) c = failed_at is c
  failed_at (child_op n is) zero = has_failed G (stage_of G n)
  failed_at (child_op n is) (suc c) = failed_at is c

  -- what an operation waits for has come; of one that waits for its beginning its parent knows
  abbrev pub is_ready : Bool → G.Needs → Wait G → Items G → Bool
  is_ready before N first is = before
  is_ready before N nothing is = true
  is_ready before N (part k) is = clear_of (M.narrowed N k) is
  is_ready before N (child c) is = is_some (answer_of is c)

  abbrev pub waits_for_failed : G.Needs → Wait G → Items G → Bool
  waits_for_failed N first is = false
  waits_for_failed N nothing is = false
  waits_for_failed N (part k) is = failed_on (M.narrowed N k) is
  waits_for_failed N (child c) is = failed_at is c

  abbrev pub meets_any : List G.Needs → G.Needs → Bool
  meets_any [] Q = false
  meets_any (N ∷ Ns) Q = M.meets N Q || meets_any Ns Q

  -- ---- what follows a step

  abbrev pub as_dropped : Operation G → Operation G
  as_dropped (op D N i f ps st is) = op D N i f ps dropped is

  -- children that wait for one that failed are dropped; bad are the needs of those that failed before
  abbrev pub sweep : List G.Needs → Items G → Items G
  sweep bad no_item = no_item
  sweep bad (said t is) = said t (sweep bad is)
  sweep bad (child_op n is) =
      cond (is_waiting G (stage_of G n) && meets_any bad (needs_of G n))
      (child_op (as_dropped n) (sweep (needs_of G n ∷ bad) is))
      (child_op n (sweep (cond (has_failed G (stage_of G n)) (needs_of G n ∷ bad) bad) is))

  abbrev pub stop : G.Needs → Stage G → Items G → Stage G
  stop N (idle w) is = cond (waits_for_failed N w is) (closing stopped) (idle w)
  stop N st is = st

  abbrev pub ending_with : Ending G → Bool → Ending G
  ending_with (by v) true = by v
  ending_with (by v) false = stopped
  ending_with e b = e

  abbrev pub close : Stage G → Items G → Stage G
  close (closing e) is = cond (all_over G is) (over (ending_with e (all_ended G is))) (closing e)
  close st is = st

  abbrev pub settled : G.Needs → G.Needs → ℕ → G.Frame → List (Element G) → Stage G → Items G → Operation G
  settled D N i f ps st is = op D N i f ps (close (stop N st is) is) is

  abbrev pub settle : Operation G → Operation G
  settle (op D N i f ps st is) = settled D N i f ps st (sweep [] is)

  -- ---- the steps

  -- the children that are issued: those before the first that may not be made or whose needs aren't within the caller's
  abbrev pub issued : G.Needs → List (Call G) → Items G
  issued N [] = no_item
  issued N (x ∷ xs) = cond (x.may && M.inside x.needs N) (child_op (op x.needs x.needs 0 x.frame [] (idle first) no_item) (issued N xs)) no_item

  abbrev pub all_issued : G.Needs → List (Call G) → Bool
  all_issued N [] = true
  all_issued N (x ∷ xs) = (x.may && M.inside x.needs N) && all_issued N xs

  abbrev pub met_by : Wait G → G.Frame → Option G.Answer → G.Frame
  met_by (child c) f a = M.met f c (unwrap_or a M.no_answer)
  met_by _ f a = f

  abbrev pub awaited : Wait G → Items G → Option G.Answer
  awaited (child c) is = answer_of is c
  awaited _ is = None

  abbrev pub given : Path G → G.Needs → G.Needs → ℕ → Items G → List G.Byte → G.Frame → List (Element G) → Yield G → Stepped G (Operation G)
  given p D N i is t f ps (calls xs) = record {
    left = op D N i f [] (cond (all_issued N xs) (idle nothing) (closing (at_fault G.broken))) (◌+++◌ G is (said t (issued N xs)));
    effects = puts G M ps;
  }
  given p D N i is t f ps (want k) = record { left = op D N i f ps (idle (part k)) (◌+++◌ G is (said t no_item)); effects = [] }
  given p D N i is t f ps (await c) = record { left = op D N i f ps (idle (child c)) (◌+++◌ G is (said t no_item)); effects = [] }
  given p D N i is t f ps (make d) = cond (M.sound d)
      (record { left = op D (M.grown p i d N) (suc i) (M.pushed p i d f) ps (idle nothing) (◌+++◌ G is (said t no_item)); effects = M.zeros p i d })
      (record { left = op D N i f [] (closing (at_fault G.broken)) (◌+++◌ G is (said t no_item)); effects = [] })
  given p D N i is t f ps (ends v) = record { left = op D N i f [] (closing (by v)) (◌+++◌ G is (said t no_item)); effects = puts G M ps }
  given p D N i is t f ps (stops x) = record { left = op D N i f [] (closing (at_fault x)) (◌+++◌ G is (said t no_item)); effects = [] }

  abbrev pub after_segment : Path G → G.Needs → G.Needs → ℕ → Items G → After G → Stepped G (Operation G)
  after_segment p D N i is a = given p D N i is a.text a.frame a.parts a.yields

  abbrev pub settle_stepped : Stepped G (Operation G) → Stepped G (Operation G)
  settle_stepped s = record { left = settle s.left; effects = s.effects }

  -- nothing is left to be filled, or some is
  abbrev pub copied : Wait G → List (Element G) → List (Spot G) → Stage G
  copied w d [] = out w d
  copied w d (x ∷ l) = filling w d (x ∷ l)

  abbrev pub unchanged : Operation G → Option (Stepped G (Operation G))
  unchanged n = Some (record { left = n; effects = [] })

  abbrev pub own_step : Kind → Path G → Bool → Map G → Operation G → Option (Stepped G (Operation G))
  own_step claim p before m (op D N i f ps (idle w) is) =
      cond (is_ready before N w is) (unchanged (op D N i f ps (filling w [] (wants N w)) is)) None
  own_step copy p before m (op D N i f ps (filling w d l) is) =
      unchanged (op D N i f ps (copied w (d ++ filled G M (take M.chunk l) m) (drop M.chunk l)) is)
  own_step give p before m (op D N i f ps (out w d) is) =
      Some (settle_stepped (after_segment p D N i is (M.segment (met_by w f (awaited w is)) (ps ++ d))))
  own_step back p before m (op D N i f ps (filling w d l) is) = unchanged (op D N i f ps (idle w) is)
  own_step back p before m (op D N i f ps (out w d) is) = unchanged (op D N i f ps (idle w) is)
  own_step _ _ _ _ _ = None

  abbrev pub in_op : G.Needs → G.Needs → ℕ → G.Frame → List (Element G) → Stage G → Option (Stepped G (Items G)) → Option (Stepped G (Operation G))
  in_op D N i f ps st None = None
  in_op D N i f ps st (Some s) = Some (record { left = settle (op D N i f ps st s.left); effects = s.effects })

  abbrev pub behind : (Items G → Items G) → Option (Stepped G (Items G)) → Option (Stepped G (Items G))
  behind g None = None
  behind g (Some s) = Some (record { left = g s.left; effects = s.effects })

  abbrev pub as_child : Items G → Option (Stepped G (Operation G)) → Option (Stepped G (Items G))
  as_child is None = None
  as_child is (Some s) = Some (record { left = child_op s.left is; effects = s.effects })

  abbrev pub still_open : Operation G → List G.Needs → List G.Needs
  still_open n Ns = cond (is_ended G (stage_of G n)) Ns (needs_of G n ∷ Ns)

  -- A step of the operation that a way from here leads to: the places of children, outermost first. No
  -- step is in an operation that is over. Here is p, before says whether all that the operation waits
  -- for among its earlier siblings is Ended, and Ns are the needs of the earlier children that aren't.
  abbrev mutual
    pub step_in : Kind → List ℕ → Path G → Bool → Map G → Operation G → Option (Stepped G (Operation G))
    step_in k [] p before m (op D N i f ps st is) = own_step k p before m (op D N i f ps st is)
    step_in k (c ∷ way) p before m (op D N i f ps st is) =
        cond (is_over G st) None (in_op D N i f ps st (step_among k c way p 0 [] m is))

    pub step_among : Kind → ℕ → List ℕ → Path G → ℕ → List G.Needs → Map G → Items G → Option (Stepped G (Items G))
    step_among k c way p j Ns m no_item = None
    step_among k c way p j Ns m (said t is) = behind (said t) (step_among k c way p j Ns m is)
    step_among k zero way p j Ns m (child_op n is) = as_child is (step_in k way (j ∷ p) (not (meets_any Ns (needs_of G n))) m n)
    step_among k (suc c) way p j Ns m (child_op n is) = behind (child_op n) (step_among k c way p (suc j) (still_open n Ns) m is)

  -- ---- finish: all that is unfinished runs on in program order

  abbrev pub ending : Ending G → Process G G.Answer
  ending (by v) = gives G v
  ending (at_fault x) = faults G x
  ending stopped = faults G G.broken

  abbrev pub heard : Wait G → List G.Answer → Option G.Answer
  heard (child c) vs = Some (answer_at G M vs c)
  heard _ vs = None

  abbrev pub resume : ℕ → Path G → G.Needs → ℕ → G.Frame → List (Element G) → List G.Answer → Wait G → List (Element G) → List (Spot G) → Process G G.Answer
  resume K p N i f ps vs w d l = λ m. run_on G M K p N i (met_by w f (heard w vs)) (ps ++ (d ++ filled G M l m)) vs m

  abbrev pub remaining : ℕ → Path G → G.Needs → ℕ → G.Frame → List (Element G) → Stage G → List G.Answer → Process G G.Answer
  remaining K p N i f ps (idle w) vs = resume K p N i f ps vs w [] (wants N w)
  remaining K p N i f ps (filling w d l) vs = resume K p N i f ps vs w d l
  remaining K p N i f ps (out w d) vs = resume K p N i f ps vs w d []
  remaining K p N i f ps (closing e) vs = ending e
  remaining K p N i f ps (over e) vs = ending e
  remaining K p N i f ps dropped vs = faults G G.broken

  abbrev mutual
    pub finish : ℕ → Path G → Operation G → Process G G.Answer
    finish K p (op D N i f ps st is) = bind G (finish_items K p 0 is) (λ vs. remaining K p N i f ps st vs)

    pub finish_items : ℕ → Path G → ℕ → Items G → Process G (List G.Answer)
    finish_items K p j no_item = gives G []
    finish_items K p j (said t is) = says G t (finish_items K p j is)
    finish_items K p j (child_op n is) =
        bind G (finish K (j ∷ p) n) (λ v. bind G (finish_items K p (suc j) is) (λ vs. gives G (v ∷ vs)))
