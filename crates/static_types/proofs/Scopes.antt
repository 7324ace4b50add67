-- Names that aren't bound.
use Rattle.std.proofs.Common.{◌≡◌, List, [], ◌∷◌, true, false, bytes_eq, Bool, cond, ◌||◌, refl}
use Rattle.regent_tree.specs.declared.typing.Bound.{Bound}
use Rattle.regent_tree.specs.Syntax.{Name}
use Rattle.regent_tree.specs.Scopes.{bound_to, unbound}
use Rattle.regent_tree.specs.Lookup.{is_bound}

other : (found : Bool) (b c : Bound) (more : Bool) → (found || more) ≡ false →
    (more ≡ false → c ≡ unbound) → cond found b c ≡ unbound
other true b c more e h = absurd cc
other false b c more e h = h e

pub bound_to_none : (names : List Bound) (n : Name) → is_bound names n ≡ false → bound_to names n ≡ unbound
bound_to_none [] n e = refl
bound_to_none (b ∷ bs) n e =
    other (bytes_eq b.name n) b (bound_to bs n) (is_bound bs n) e (bound_to_none bs n)
