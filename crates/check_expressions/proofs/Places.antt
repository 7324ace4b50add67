-- A name that is among parameters has a place among them, and what stands there.
use Rattle.std.proofs.Common.{◌≡◌, ◌<◌, ◌+◌, ℕ, zero, suc, List, [], ◌∷◌, true, false, Bool, ◌||◌, not, cond, length, map, get_or, bytes_eq, ap, arith}
use Rattle.regent_tree.specs.declared.types.Param.{Param}
use Rattle.regent_tree.specs.declared.types.TypeTerm.{TypeTerm}
use Rattle.regent_tree.specs.Lookup.{has_param}
use Rattle.regent_tree.specs.StaticTypes.{place_in}
use Rattle.regent_tree.specs.Syntax.{Name}

within : (found more : Bool) (k l : ℕ) → (found || more) ≡ true → (more ≡ true → k < l) →
    cond (not found) (1 + k) 0 < suc l
within true more k l e h = omega arith
within false more k l e h = let below = h e in omega (arith, below)

pub place_within : (params : List Param) (n : Name) → has_param params n ≡ true →
    place_in params n < length params
place_within [] n e = absurd cc
place_within (p ∷ ps) n e =
    within (bytes_eq p.name n) (has_param ps n) (place_in ps n) (length ps) e (place_within ps n)

pub term_at_place : (params : List Param) (i : ℕ) (p : Param) (d : TypeTerm) → i < length params →
    p ≡ get_or params i p → p.term ≡ get_or (map (λ (q : Param). q.term) params) i d
term_at_place [] i p d l e = absurd (omega (arith, l))
term_at_place (q ∷ qs) zero p d l e = ap (λ (r : Param). r.term) e
term_at_place (q ∷ qs) (suc i) p d l e = term_at_place qs i p d (omega (arith, l)) e
