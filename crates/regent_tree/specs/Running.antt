-- A task instance while it runs: its state, and steps that give something or fault.
use Rattle.std.specs.Prelude.{ℕ, zero, suc, List, [], ◌∷◌, ◌++◌, Bool, true, false}
use Rattle.lane_kernels.specs.declared.numbers.Mode.{Mode}
use Rattle.regent_tree.specs.declared.outcome.Fault.{Fault}
use Rattle.regent_tree.specs.declared.outcome.FaultKind.{FaultKind}
use Rattle.regent_tree.specs.declared.outcome.FaultKind.TheVariants.{Turns}
use Rattle.regent_tree.specs.Syntax.{Name, Tree}
use Rattle.regent_tree.specs.Values.{Value}
use Rattle.regent_tree.specs.Store.{Store, Touch}
use Rattle.regent_tree.specs.declared.typing.StaticType.{StaticType}
use Rattle.regent_tree.specs.Scopes.{Scope}

-- what a task instance has while it runs: the values of its names by their places, the store, the
-- turns that are left, the text printed so far, and the touches that the instance itself made
pub record State : Type 0 where
  pub names : List Value
  pub store : Store
  pub turns : ℕ
  pub text : List ℕ
  pub touches : List Touch

-- something with the state after it, or a fault with the state up to it
pub data Result (A : Type 0) : Type 0 where
  gives : A → State → Result A
  fails : Fault → State → Result A

-- a step: from a state to a result
abbrev pub Run : Type 0 → Type 0
Run A = State → Result A

-- what a call gives: a value with the store and the text printed in it, or a fault with that text
pub data Called : Type 0 where
  came_back : Value → Store → List ℕ → Called
  broke : Fault → List ℕ → Called

-- what calls give, by the line of the call, the task, its arguments and the store
abbrev pub Calls : Type 0
Calls = ℕ → Name → List Value → Store → Called

-- where a construct stands: in which program and with what calls, in which scope, in a task with
-- which result, and on which line its statement begins
pub record Here : Type 0 where
  pub tree : Tree
  pub calls : Calls
  pub scope : Scope
  pub result : StaticType
  pub line : ℕ

-- a step that gives something and changes nothing
abbrev pub given : {A : Type 0} → A → Run A
given a s = gives a s

-- what follows a result: the next step from its state, or nothing after a fault
abbrev pub and_then : {A B : Type 0} → Result A → (A → Run B) → Result B
and_then (gives a s) more = more a s
and_then (fails f s) more = fails f s

infixl 20 ◌>>=◌
-- one step and then the next, as `do` writes it
abbrev pub ◌>>=◌ : {A B : Type 0} → Run A → (A → Run B) → Run B
(step >>= more) s = and_then (step s) more

-- the state now, and a change of it
abbrev pub state : Run State
state s = gives s s

abbrev pub change : (State → State) → Run (Unit {0})
change f s = gives tt (f s)

-- a fault on the line of the statement
abbrev pub fault : {A : Type 0} → Here → FaultKind → Run A
fault h k s = fails (record { kind = k; line = h.line }) s

-- the one step or the other
abbrev pub if_true : {A : Type 0} → Bool → Run A → Run A → Run A
if_true true this that = this
if_true false this that = that

-- one turn is paid, or there is none left
abbrev pub pay_from : ℕ → Here → Run (Unit {0})
pay_from zero h = fault h Turns
pay_from (suc n) h = change (λ s. record s { turns = n })

abbrev pub pay : Here → Run (Unit {0})
pay h s = pay_from s.turns h s

-- touches are added
abbrev pub touch : List Touch → Run (Unit {0})
touch more = change (λ s. record s { touches = s.touches ++ more })

-- an access of a field at one point
abbrev pub touch_at : ℕ → ℕ → ℕ → Mode → Run (Unit {0})
touch_at root field point access =
    touch (record { root = root; field = field; point = point; access = access } ∷ [])
