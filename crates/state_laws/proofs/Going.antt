-- Statements in order, where each goes on with what fits.
use Rattle.std.proofs.Common.{List, Bool, true, false, ℕ, ◌≡◌, ◌≤◌, sym, subst, arith}
use Rattle.std.proofs.lemmas.List.{length-take-le}
use Rattle.std.specs.Prelude.{length, take}
use Rattle.regent_tree.specs.Execution.{Going, goes_on, going_on, leaving, returned}
use Rattle.regent_tree.specs.Laws.{Extends, Shape}
use Rattle.regent_tree.specs.Running.{Result, Run, State, and_then, fails, gives, if_true}
use Rattle.regent_tree.specs.Store.{Store}
use Rattle.regent_tree.specs.Syntax.{Tree}
use Rattle.regent_tree.specs.declared.typing.Bound.{Bound}
use Rattle.regent_tree.specs.declared.typing.StaticType.{StaticType}
use Rattle.statement_laws.specs.Steady.{ArePlaced}
use Rattle.state_laws.specs.Going.{GoesOnFit, StateStays, StoreStays}
use Rattle.regent_tree.proofs.Laws.{extends_twice}
use Rattle.state_laws.proofs.Growing.{StaysBound, extends_none, names_left}
use Rattle.state_laws.proofs.Rooted.{roots_left}
use Rattle.value_laws.specs.Keeping.{KeepsFit, StateFits}
use Rattle.value_laws.specs.Shapes.{AreRootsOfSpaces, StoreFits}
use Rattle.value_laws.specs.Spaces.{AreSpaced}

module _ (tree : Tree) (roots : List Shape) (rooted : AreRootsOfSpaces tree roots) where
  -- no root more
  pub store_here : (store : Store) → StoreFits tree roots store → StoreStays tree roots store
  store_here store fit = record { after = roots; extends = extends_none roots; rooted = rooted; store_fits = fit }

  pub state_here : (names : List Bound) (u : State) → StateFits tree roots names u → StateStays tree roots names u
  state_here names u fit = record { after = roots; extends = extends_none roots; rooted = rooted; state_fits = fit }

  -- a step and then a statement
  pub then_fits : (names others : List Bound) (t : StaticType) {A : Type 0} {Is : A → Type 0} (r : Result A) (more : A → Run Going) →
      KeepsFit tree roots names Is r → ((a : A) (u : State) → StateFits tree roots names u → Is a → GoesOnFit tree roots others t (more a u)) →
      GoesOnFit tree roots others t (and_then r more)
  then_fits names others t (gives a u) more fit next = next a u fit.0 fit.1
  then_fits names others t (fails f u) more fit next = store_here u.store fit

  pub either_fits : (names : List Bound) (t : StaticType) (b : Bool) (this that : Run Going) (u : State) → GoesOnFit tree roots names t (this u) →
      GoesOnFit tree roots names t (that u) → GoesOnFit tree roots names t (if_true b this that u)
  either_fits names t true this that u a b = a
  either_fits names t false this that u a b = b

-- what fits with more roots than some that were there, fits with more than those before
pub fits_further : (tree : Tree) (roots after : List Shape) (names : List Bound) (t : StaticType) (r : Result Going) → Extends roots after →
    GoesOnFit tree after names t r → GoesOnFit tree roots names t r
fits_further tree roots after names t (gives goes_on u) more s =
    record { after = s.after; extends = extends_twice roots after s.after more s.extends; rooted = s.rooted; state_fits = s.state_fits }
fits_further tree roots after names t (gives (returned v) u) more s = (
  record { after = s.0.after; extends = extends_twice roots after s.0.after more s.0.extends; rooted = s.0.rooted; store_fits = s.0.store_fits },
  s.1,
)
fits_further tree roots after names t (fails f u) more s =
    record { after = s.after; extends = extends_twice roots after s.after more s.extends; rooted = s.rooted; store_fits = s.store_fits }

-- one statement and then the next
pub in_order : (tree : Tree) (roots : List Shape) (names others : List Bound) (t : StaticType) (r : Result Going) (more : Run Going) → GoesOnFit tree roots names t r →
    ((after : List Shape) (u : State) → Extends roots after → AreRootsOfSpaces tree after → StateFits tree after names u → GoesOnFit tree after others t (more u)) →
    GoesOnFit tree roots others t (and_then r (going_on more))
in_order tree roots names others t (gives goes_on u) more s next =
    fits_further tree roots s.after others t (more u) s.extends (next s.after u s.extends s.rooted s.state_fits)
in_order tree roots names others t (gives (returned v) u) more s next = s
in_order tree roots names others t (fails f u) more s next = s

-- behind a block its names are gone
pub leaves_fit : (tree : Tree) (roots : List Shape) (names inner : List Bound) (n : ℕ) (t : StaticType) (r : Result Going) → n ≡ length names → StaysBound names inner →
    length names ≤ length inner → ArePlaced names → AreSpaced tree names → GoesOnFit tree roots inner t r → GoesOnFit tree roots names t (leaving n r)
leaves_fit tree roots names inner n t (gives goes_on u) same stays longer placed spaced s =
    let counted = s.state_fits.counted in record {
      after = s.after;
      extends = s.extends;
      rooted = s.rooted;
      state_fits = subst (λ k. StateFits tree s.after names (record u { names = take k u.names })) (sym same) (record {
        names = names_left tree s.after names inner u.names stays placed spaced s.state_fits.names;
        counted = length-take-le (length names) u.names (omega (arith, longer, counted));
        agree = roots_left tree names inner u.names stays placed spaced s.state_fits.agree;
        store = s.state_fits.store;
      });
    }
leaves_fit tree roots names inner n t (gives (returned v) u) same stays longer placed spaced s = s
leaves_fit tree roots names inner n t (fails f u) same stays longer placed spaced s = s
