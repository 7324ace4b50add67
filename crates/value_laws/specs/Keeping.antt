-- What a state keeps at a place of a body, and what calls give.
use Rattle.std.specs.Prelude.{List, [], length, ◌∷◌, ℕ, ◌≡◌}
use Rattle.regent_tree.specs.Laws.{Shape}
use Rattle.regent_tree.specs.Running.{Called, Calls, Result, State, broke, came_back}
use Rattle.regent_tree.specs.Scopes.{scope_of}
use Rattle.regent_tree.specs.StaticTypes.{task_named}
use Rattle.regent_tree.specs.Store.{Store}
use Rattle.regent_tree.specs.Syntax.{Name, TaskTree, Tree}
use Rattle.regent_tree.specs.Typing.{param_types, result_type}
use Rattle.regent_tree.specs.Values.{Value}
use Rattle.regent_tree.specs.declared.typing.Bound.{Bound}
use Rattle.regent_tree.specs.declared.typing.StaticType.{StaticType}
use Rattle.expression_laws.specs.Sound.{EndsIn}
use Rattle.value_laws.specs.Fitting.{Fits, NamesFit, RootsAgree}
use Rattle.value_laws.specs.Shapes.{AreRootsOfSpaces, StoreFits}

-- the names' values fit their types, and the store's numbers theirs
pub record StateFits (tree : Tree) (roots : List Shape) (bound : List Bound) (u : State) : Type 0 where
  pub names : NamesFit roots bound u.names
  pub counted : length u.names ≡ length bound
  pub agree : RootsAgree bound u.names
  pub store : StoreFits tree roots u.store

-- a step gives something of which a claim holds, in a state that fits; where it faults, the store fits
abbrev pub KeepsFit : {A : Type 0} → Tree → List Shape → List Bound → (A → Type 0) → Result A → Type 0
KeepsFit tree roots names Is r =
    EndsIn (λ a u. StateFits tree roots names u × Is a) (λ f u. StoreFits tree roots u.store) r

-- ---- calls

-- values fit types, one for each
abbrev pub AreFit : List Shape → List Bound → List StaticType → List Value → Type 0
AreFit roots names [] [] = Unit {0}
AreFit roots names (t ∷ types) (v ∷ vs) = Fits roots names t v × AreFit roots names types vs
AreFit roots names types vs = ⊥

-- values fit a task's parameters, and partitions are of their parents' roots
abbrev pub ArgumentsFit : Tree → List Shape → TaskTree → List Value → Type 0
ArgumentsFit tree roots task vs =
    AreFit roots (scope_of tree task).names (param_types tree task) vs × RootsAgree (scope_of tree task).names vs

-- what a call gives fits the task's result type, and the caller's roots stay with numbers that fit
abbrev pub AnswerFits : Tree → List Shape → TaskTree → Called → Type 0
AnswerFits tree roots task (came_back v store text) =
    Fits roots [] (result_type tree task.result) v × StoreFits tree roots store
AnswerFits tree roots task (broke f text) = Unit {0}

-- calls do so, of arguments and a store that fit
abbrev pub AnswersFit : Tree → Calls → Type 0
AnswersFit tree calls = (roots : List Shape) (line : ℕ) (task : Name) (vs : List Value) (store : Store) →
    AreRootsOfSpaces tree roots → StoreFits tree roots store → ArgumentsFit tree roots (task_named tree task) vs →
    AnswerFits tree roots (task_named tree task) (calls line task vs store)
