-- What the laws of boards are said over: locations of numbers, operators, needs, frames and faults. Nothing
-- is known of them but what the fields say.
--
-- A location is a root's field at a point. The needs of an operation are its region requirements. Text is a
-- list of bytes.
use Rattle.std.specs.Prelude.{◌≡◌, ℕ, Bool, true, Option, List}

-- how a number is held: it is read, written, or folded into by an operator
pub data Mode (Op : Type 0) : Type 0 where
  reads : Mode Op
  writes : Mode Op
  reduces : Op → Mode Op

-- what an operation is made of, and how its needs are read
pub record Ground : Type 1 where
  pub Location : Type 0
  pub Number : Type 0
  pub Op : Type 0
  pub Byte : Type 0
  pub Fault : Type 0
  pub Answer : Type 0
  pub Needs : Type 0
  pub Frame : Type 0
  pub Key : Type 0
  pub Made : Type 0
  pub same : Location → Location → Bool
  pub applied : Op → Number → Number → Number
  pub identity : Op → Number
  -- the fault of a run that is Broken: a child's needs aren't within its caller's, say
  pub broken : Fault
  -- the join of all that is needed at a location
  pub at : Needs → Location → Option (Mode Op)
  -- the place in the tree of the operation that made the root, innermost first, and which of its roots it is
  pub maker : Location → List ℕ
  pub making : Location → ℕ

-- What is asked of locations and operators: equality is decided, and two folds of one operator swap.
pub record Sound (G : Ground) : Type 0 where
  pub same_is : (a b : G.Location) → G.same a b ≡ true → a ≡ b
  pub same_self : (a : G.Location) → G.same a a ≡ true
  pub swaps : (o : G.Op) (a b c : G.Number) → G.applied o (G.applied o a b) c ≡ G.applied o (G.applied o a c) b
