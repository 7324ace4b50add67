-- Steps in order, where each keeps what fits.
use Rattle.std.proofs.Common.{List, Bool, true, false}
use Rattle.regent_tree.specs.Laws.{Shape}
use Rattle.regent_tree.specs.Running.{Result, Run, State, and_then, fails, gives, if_true}
use Rattle.regent_tree.specs.Syntax.{Tree}
use Rattle.regent_tree.specs.declared.typing.Bound.{Bound}
use Rattle.value_laws.specs.Keeping.{KeepsFit, StateFits}

pub after : {tree : Tree} {roots : List Shape} {names : List Bound} {A B : Type 0} {Is : A → Type 0} (Js : B → Type 0) (r : Result A) (more : A → Run B) →
    KeepsFit tree roots names Is r → ((a : A) (u : State) → StateFits tree roots names u → Is a → KeepsFit tree roots names Js (more a u)) →
    KeepsFit tree roots names Js (and_then r more)
after Js (gives a u) more fit next = next a u fit.0 fit.1
after Js (fails f u) more fit next = fit

pub weaker : (tree : Tree) (roots : List Shape) (names : List Bound) {A : Type 0} {Is Js : A → Type 0} (r : Result A) →
    KeepsFit tree roots names Is r → ((a : A) → Is a → Js a) → KeepsFit tree roots names Js r
weaker tree roots names (gives a u) fit more = (fit.0, more a fit.1)
weaker tree roots names (fails f u) fit more = fit

pub chosen : (tree : Tree) (roots : List Shape) (names : List Bound) {A : Type 0} (Is : A → Type 0) (b : Bool) (this that : Run A) (u : State) →
    KeepsFit tree roots names Is (this u) → KeepsFit tree roots names Is (that u) → KeepsFit tree roots names Is (if_true b this that u)
chosen tree roots names Is true this that u a b = a
chosen tree roots names Is false this that u a b = b
