-- Where a region lies by its origin: within one that began as no part, that of an argument or a root that the task made.
use Rattle.std.proofs.Common.{◌≡◌, ℕ, Bool, true, false, cond, None, Option, Some, refl, sym, ◌∙◌, subst}
use Rattle.std.specs.Prelude.{nat_le}
use Rattle.regent_tree.specs.declared.facts.Term.TheVariants.{Name}
use Rattle.regent_tree.specs.Syntax.{TaskTree}
use Rattle.machine_terms.specs.declared.value.RegionValue.{RegionValue}
use Rattle.fit_rules.specs.Shapes.{argument, ComesFrom, LiesIn, own_as, part, World}
use Rattle.sound_code.specs.Ways.{by_rules, origin_behind, origin_in, Tops, whole_origin}
use Rattle.sound_code.proofs.Grounds.{top_behind, top_in}

-- it lies within the region with a number
pub record LiesUnder (x : World) (params k : ℕ) (r : RegionValue) : Type 0 where
  pub whole : RegionValue
  pub from : ComesFrom x (whole_origin params k) whole
  pub inside : LiesIn r whole

pub lies_through : (p q r : RegionValue) → LiesIn p q → LiesIn q r → LiesIn p r
lies_through p q r a b = (a.0 ∙ b.0, λ n y. b.1 n (a.1 n y))

-- so does what lies within it
pub under_inside : (x : World) (params k : ℕ) (r q : RegionValue) → LiesIn r q → LiesUnder x params k q → LiesUnder x params k r
under_inside x params k r q inside u = record { whole = u.whole; from = u.from; inside = lies_through r q u.whole inside u.inside }

-- a region by its name's origin, and a part of it
pub under_in : (tops : Tops) (task : TaskTree) (params i : ℕ) (x : World) (r : RegionValue) → ComesFrom x (origin_in (by_rules tops task) params (Name i)) r →
    LiesUnder x params (top_in params (tops task) i) r
under_in tops task params i x r c = of (nat_le params i) refl (tops task i) c
  where
    of : (b : Bool) → nat_le params i ≡ b → (o : Option (ℕ × ℕ)) → ComesFrom x (cond b (origin_behind params i o) (argument i)) r →
        LiesUnder x params (cond b (top_behind i o) i) r
    of true e None c = record { whole = r; from = subst (λ d. ComesFrom x (cond d (own_as i) (argument i)) r) (sym e) c; inside = (refl, λ p y. y) }
    of true e (Some k) c = record { whole = c.0; from = c.1; inside = c.2 }
    of false e o c = record { whole = r; from = subst (λ d. ComesFrom x (cond d (own_as i) (argument i)) r) (sym e) c; inside = (refl, λ p y. y) }

pub under_part : (tops : Tops) (task : TaskTree) (params i : ℕ) (x : World) (r : RegionValue) → ComesFrom x (part (origin_in (by_rules tops task) params (Name i))) r →
    LiesUnder x params (top_in params (tops task) i) r
under_part tops task params i x r c = under_inside x params (top_in params (tops task) i) r c.0 c.2 (under_in tops task params i x c.0 c.1)

-- a region that lies so under the one with a number comes from there
pub from_under : (x : World) (params k : ℕ) (r : RegionValue) → LiesUnder x params k r → ComesFrom x (part (whole_origin params k)) r
from_under x params k r u = (u.whole, u.from, u.inside)
