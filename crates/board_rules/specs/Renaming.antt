-- One machine over roots by numbers, in order of making, and one over roots by their makers; a renaming
-- from the numbers to the names.
use Rattle.std.specs.Prelude.{◌≡◌, ◌∷◌, Bool, List, Option, [], ℕ}
use Rattle.board_rules.specs.Ground.{Ground, Mode}
use Rattle.board_rules.specs.Processes.{Effect, fold_in, put}
use Rattle.board_rules.specs.Running.{After, Call, Element, Machine, Spot, Yield, await, calls, ends, make, stops, want}
use Rattle.board_rules.specs.Boards.{Ending, Items, Operation, Stage, Stepped, Wait, child, closing, dropped, filling, first, idle, child_op, no_item, nothing, op, out, over, part, said, step_in}

-- what knows no root
pub record Base : Type 1 where
  pub Number : Type 0
  pub Op : Type 0
  pub Byte : Type 0
  pub Fault : Type 0
  pub Answer : Type 0
  pub applied : Op → Number → Number → Number
  pub identity : Op → Number
  pub broken : Fault

-- what names roots
pub record Roots (B : Base) : Type 1 where
  pub Location : Type 0
  pub Needs : Type 0
  pub Frame : Type 0
  pub Key : Type 0
  pub Made : Type 0
  pub same : Location → Location → Bool
  pub at : Needs → Location → Option (Mode B.Op)
  pub maker : Location → List ℕ
  pub making : Location → ℕ

abbrev pub ground_over : (B : Base) → Roots B → Ground
ground_over B X = record {
  Location = X.Location;
  Number = B.Number;
  Op = B.Op;
  Byte = B.Byte;
  Fault = B.Fault;
  Answer = B.Answer;
  Needs = X.Needs;
  Frame = X.Frame;
  Key = X.Key;
  Made = X.Made;
  same = X.same;
  applied = B.applied;
  identity = B.identity;
  broken = B.broken;
  at = X.at;
  maker = X.maker;
  making = X.making;
}

-- how what names roots is renamed
pub record Renames (B : Base) (X Y : Roots B) : Type 0 where
  pub loc : X.Location → Y.Location
  pub needs : X.Needs → Y.Needs
  pub frame : X.Frame → Y.Frame
  pub key : X.Key → Y.Key
  pub made : X.Made → Y.Made

module _ (B : Base) (X Y : Roots B) (R : Renames B X Y) where
  abbrev pub element : Element (ground_over B X) → Element (ground_over B Y)
  element x = record { location = R.loc x.location; mode = x.mode; number = x.number }

  abbrev pub elements : List (Element (ground_over B X)) → List (Element (ground_over B Y))
  elements [] = []
  elements (x ∷ xs) = element x ∷ elements xs

  abbrev pub spots_to : List (Spot (ground_over B X)) → List (Spot (ground_over B Y))
  spots_to [] = []
  spots_to (x ∷ xs) = record { location = R.loc x.location; mode = x.mode } ∷ spots_to xs

  abbrev pub effect : Effect (ground_over B X) → Effect (ground_over B Y)
  effect (put l v) = put (R.loc l) v
  effect (fold_in o l v) = fold_in o (R.loc l) v

  abbrev pub effects_to : List (Effect (ground_over B X)) → List (Effect (ground_over B Y))
  effects_to [] = []
  effects_to (e ∷ es) = effect e ∷ effects_to es

  abbrev pub calls_to : List (Call (ground_over B X)) → List (Call (ground_over B Y))
  calls_to [] = []
  calls_to (x ∷ xs) = record { may = x.may; needs = R.needs x.needs; frame = R.frame x.frame } ∷ calls_to xs

  abbrev pub yield_to : Yield (ground_over B X) → Yield (ground_over B Y)
  yield_to (calls xs) = calls (calls_to xs)
  yield_to (want k) = want (R.key k)
  yield_to (await c) = await c
  yield_to (make d) = make (R.made d)
  yield_to (ends v) = ends v
  yield_to (stops x) = stops x

  abbrev pub after_to : After (ground_over B X) → After (ground_over B Y)
  after_to a = record { text = a.text; frame = R.frame a.frame; parts = elements a.parts; yields = yield_to a.yields }

  abbrev pub wait_to : Wait (ground_over B X) → Wait (ground_over B Y)
  wait_to first = first
  wait_to nothing = nothing
  wait_to (part k) = part (R.key k)
  wait_to (child c) = child c

  abbrev pub ending_to : Ending (ground_over B X) → Ending (ground_over B Y)
  ending_to (Rattle.board_rules.specs.Boards.by v) = Rattle.board_rules.specs.Boards.by v
  ending_to (Rattle.board_rules.specs.Boards.at_fault x) = Rattle.board_rules.specs.Boards.at_fault x
  ending_to Rattle.board_rules.specs.Boards.stopped = Rattle.board_rules.specs.Boards.stopped

  abbrev pub stage_to : Stage (ground_over B X) → Stage (ground_over B Y)
  stage_to (idle w) = idle (wait_to w)
  stage_to (filling w d l) = filling (wait_to w) (elements d) (spots_to l)
  stage_to (out w d) = out (wait_to w) (elements d)
  stage_to (closing e) = closing (ending_to e)
  stage_to (over e) = over (ending_to e)
  stage_to dropped = dropped

  abbrev mutual
    pub node_to : Operation (ground_over B X) → Operation (ground_over B Y)
    node_to (op D N i f ps st is) = op (R.needs D) (R.needs N) i (R.frame f) (elements ps) (stage_to st) (items_to is)

    pub items_to : Items (ground_over B X) → Items (ground_over B Y)
    items_to no_item = no_item
    items_to (said t is) = said t (items_to is)
    items_to (child_op n is) = child_op (node_to n) (items_to is)

-- The machine over names does to what is renamed what the machine over numbers does, renamed. Of the
-- machines over numbers, the one at n makes the root n.
pub record Renamed (B : Base) (X Y : Roots B) (M : ℕ → Machine (ground_over B X)) (K : Machine (ground_over B Y)) (R : Renames B X Y) (maker : ℕ → List ℕ) (making : ℕ → ℕ) : Type 0 where
  pub same : (a b : X.Location) → Y.same (R.loc a) (R.loc b) ≡ X.same a b
  pub segment : (n : ℕ) (f : X.Frame) (ps : List (Element (ground_over B X))) → K.segment (R.frame f) (elements B X Y R ps) ≡ after_to B X Y R ((M n).segment f ps)
  pub met : (n : ℕ) (f : X.Frame) (c : ℕ) (v : B.Answer) → K.met (R.frame f) c v ≡ R.frame ((M n).met f c v)
  pub no_answer : (n : ℕ) → K.no_answer ≡ (M n).no_answer
  pub meets : (n : ℕ) (a b : X.Needs) → K.meets (R.needs a) (R.needs b) ≡ (M n).meets a b
  pub inside : (n : ℕ) (a b : X.Needs) → K.inside (R.needs a) (R.needs b) ≡ (M n).inside a b
  pub wanted : (n : ℕ) (N : X.Needs) (k : X.Key) → K.wanted (R.needs N) (R.key k) ≡ spots_to B X Y R ((M n).wanted N k)
  pub narrowed : (n : ℕ) (N : X.Needs) (k : X.Key) → K.narrowed (R.needs N) (R.key k) ≡ R.needs ((M n).narrowed N k)
  pub chunk : (n : ℕ) → K.chunk ≡ (M n).chunk
  pub sound : (n : ℕ) (d : X.Made) → K.sound (R.made d) ≡ (M n).sound d
  pub pushed : (n i : ℕ) (p : List ℕ) (d : X.Made) (f : X.Frame) → maker n ≡ p → making n ≡ i → K.pushed p i (R.made d) (R.frame f) ≡ R.frame ((M n).pushed p i d f)
  pub grown : (n i : ℕ) (p : List ℕ) (d : X.Made) (N : X.Needs) → maker n ≡ p → making n ≡ i → K.grown p i (R.made d) (R.needs N) ≡ R.needs ((M n).grown p i d N)
  pub zeros : (n i : ℕ) (p : List ℕ) (d : X.Made) → maker n ≡ p → making n ≡ i → K.zeros p i (R.made d) ≡ effects_to B X Y R ((M n).zeros p i d)
