-- Journals, the states that they lead to, and the outcomes of finished states.
use Rattle.std.specs.Prelude.{◌≡◌, ◌++◌, ◌∷◌, List, None, Option, Some, [], true, unwrap_or, ℕ}
use Rattle.board_rules.specs.Ground.{Ground}
use Rattle.board_rules.specs.Processes.{Map, Result, done, fails, run_all, spent}
use Rattle.board_rules.specs.Running.{Machine, run_on}
use Rattle.board_rules.specs.Boards.{Items, Kind, Operation, Stage, Stepped, at_fault, by, first, given_by, idle, is_over, child_op, no_item, op, over, said, stage_of, step_in}

pub record State (G : Ground) : Type 0 where
  pub tree : Operation G
  pub map : Map G

-- which step, and the way to the operation: the places of children that lead there, outermost first
pub record Entry : Type 0 where
  pub kind : Kind
  pub way : List ℕ

-- what is read of an operation by place: its text, and the fault that decides
pub record Told (G : Ground) : Type 0 where
  pub text : List G.Byte
  pub fault : Option G.Fault

-- a job that came to its end has its first task's answer
pub data Outcome (G : Ground) : Type 0 where
  finished : List G.Byte → G.Answer → Map G → Outcome G
  faulted : List G.Byte → G.Fault → Outcome G
  unfinished : Outcome G

-- a main task: its frame, its needs, which are none, and the map on which it begins
pub record Job (G : Ground) : Type 0 where
  pub frame : G.Frame
  pub needs : G.Needs
  pub map : Map G
  pub needs_nothing : (l : G.Location) → G.at needs l ≡ None

module _ (G : Ground) (M : Machine G) where
  abbrev pub opened : Job G → State G
  opened job = record { tree = op job.needs job.needs 0 job.frame [] (idle first) no_item; map = job.map }

  abbrev pub stepped : Map G → Option (Stepped G (Operation G)) → Option (State G)
  stepped m None = None
  stepped m (Some s) = Some (record { tree = s.left; map = run_all G s.effects m })

  abbrev pub after_entry : Option (State G) → Entry → Option (State G)
  after_entry None e = None
  after_entry (Some s) e = stepped s.map (step_in G M e.kind e.way [] true s.map s.tree)

  abbrev pub after_entries : Option (State G) → List Entry → Option (State G)
  after_entries o [] = o
  after_entries o (e ∷ es) = after_entries (after_entry o e) es

  abbrev pub replay : Job G → List Entry → Option (State G)
  replay job journal = after_entries (Some (opened job)) journal

  -- ---- outcomes

  abbrev pub joined : Option G.Fault → List G.Byte → Told G → Told G
  joined (Some x) t b = record { text = t; fault = Some x }
  joined None t b = record { text = t ++ b.text; fault = b.fault }

  abbrev pub own_fault : Stage G → Option G.Fault
  own_fault (over (by v)) = None
  own_fault (over (at_fault x)) = Some x
  own_fault _ = Some G.broken

  abbrev mutual
    pub told : Operation G → Told G
    told (op D N i f ps st is) = joined (told_items is).fault (told_items is).text (record { text = []; fault = own_fault st })

    pub told_items : Items G → Told G
    told_items no_item = record { text = []; fault = None }
    told_items (said t is) = record { text = t ++ (told_items is).text; fault = (told_items is).fault }
    told_items (child_op n is) = joined (told n).fault (told n).text (told_items is)

  -- the answer of an operation that has ended
  abbrev pub answered : Operation G → G.Answer
  answered n = unwrap_or (given_by G M (stage_of G n)) M.no_answer

  abbrev pub outcome_with : Option G.Fault → List G.Byte → G.Answer → Map G → Outcome G
  outcome_with None t a m = finished t a m
  outcome_with (Some x) t a m = faulted t x

  -- the outcome of a finished state
  abbrev pub outcome : State G → Outcome G
  outcome s = outcome_with (told s.tree).fault (told s.tree).text (answered s.tree) s.map

  abbrev pub shown : Result G G.Answer → Outcome G
  shown (done a t m) = finished t a m
  shown (fails x t) = faulted t x
  shown spent = unfinished

  -- main run whole in program order, for at most so many segments one within or behind another
  abbrev pub order_run : ℕ → Job G → Outcome G
  order_run k job = shown (run_on G M k [] job.needs 0 job.frame [] [] job.map)

  -- A finished board has the outcome of the order run, where the order run comes to one.
  abbrev pub FinishedAsOrdered : Type 0
  FinishedAsOrdered = (job : Job G) (journal : List Entry) (s : State G) (k : ℕ) → replay job journal ≡ Some s → is_over G (stage_of G s.tree) ≡ true →
      ¬ (order_run k job ≡ unfinished) → outcome s ≡ order_run k job
