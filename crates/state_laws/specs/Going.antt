-- What fits behind a statement: roots may have been made.
use Rattle.std.specs.Prelude.{List, [], false, ◌≡◌}
use Rattle.regent_tree.specs.Execution.{Going, goes_on, returned}
use Rattle.regent_tree.specs.Laws.{Extends, Shape}
use Rattle.regent_tree.specs.Running.{Here, Result, State, fails, gives}
use Rattle.regent_tree.specs.Store.{Store}
use Rattle.regent_tree.specs.Syntax.{TaskTree, Tree}
use Rattle.regent_tree.specs.Typing.{result_type}
use Rattle.regent_tree.specs.declared.typing.Bound.{Bound}
use Rattle.regent_tree.specs.declared.typing.StaticType.{StaticType}
use Rattle.check_rules.specs.types.Declarations.{is_no_result_type}
use Rattle.statement_laws.specs.Steady.{ArePlaced}
use Rattle.value_laws.specs.Fitting.{Fits}
use Rattle.value_laws.specs.Keeping.{StateFits}
use Rattle.value_laws.specs.Laws.{IsPlaceOfFit}
use Rattle.value_laws.specs.Shapes.{AreRootsOfSpaces, StoreFits}

-- a store fits, with roots behind those that were there
pub record StoreStays (tree : Tree) (roots : List Shape) (store : Store) : Type 0 where
  pub after : List Shape
  pub extends : Extends roots after
  pub rooted : AreRootsOfSpaces tree after
  pub store_fits : StoreFits tree after store

-- a state fits so
pub record StateStays (tree : Tree) (roots : List Shape) (names : List Bound) (u : State) : Type 0 where
  pub after : List Shape
  pub extends : Extends roots after
  pub rooted : AreRootsOfSpaces tree after
  pub state_fits : StateFits tree after names u

-- a run goes on in a state that fits, with these names, or it returns what fits the result type, or it faults,
-- with a store that fits
abbrev pub GoesOnFit : Tree → List Shape → List Bound → StaticType → Result Going → Type 0
GoesOnFit tree roots names result (gives goes_on u) = StateStays tree roots names u
GoesOnFit tree roots names result (gives (returned v) u) = StoreStays tree roots u.store × Fits [] [] result v
GoesOnFit tree roots names result (fails f u) = StoreStays tree roots u.store

-- a place of a task's body at which a statement stands
pub record IsPlaceOfRun (task : TaskTree) (roots : List Shape) (h : Here) : Type 0 where
  pub place : IsPlaceOfFit roots h
  pub placed : ArePlaced h.scope.names
  pub result : h.result ≡ result_type h.tree task.result
  pub sound_result : is_no_result_type task.result ≡ false
