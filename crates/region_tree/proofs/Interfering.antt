-- Interference, point by point.
use Rattle.std.proofs.Common.{◌≡◌, ℕ, suc, zero, Bool, true, not, ◌&&◌, eqb, inl, inr, ⊎_elim, List}
use Rattle.std.proofs.Common.{[], ◌∷◌, refl, sym, ap, ◌∙◌, subst, arith}
use Rattle.std.proofs.lemmas.Bool.{cases_Bool, eqb-true, eq-eqb, false≢true, or_left, or_right}
use Rattle.std.proofs.lemmas.Bool.{or_cases, and_parts, and_from}
use Rattle.std.specs.List.{Contains, list_any}
use Rattle.lane_kernels.specs.Modes.{Commute, in_conflict, same_op}
use Rattle.lane_kernels.specs.declared.numbers.Mode.{Mode}
use Rattle.lane_kernels.specs.declared.numbers.Mode.TheVariants.{Read, Write, Reduce}
use Rattle.lane_kernels.specs.declared.numbers.Op.{Op}
use Rattle.plain_values.specs.Points.{has, meets}
use Rattle.point_sets.proofs.Rising.{meets_at, meets_where}
use Rattle.region_tree.specs.Requirements.{Requirement, InterfereSomewhere, conflict, interfere}
use Rattle.region_tree.specs.Requirements.{is_of, is_at, modes_at}
use Rattle.lane_kernels.proofs.SameOps.{same_op-itself, same_op-tells}
use Rattle.region_tree.proofs.Joins.{modes_at-here, modes_at-not}

-- ---- modes in conflict

reductions : (p q : Op) → Commute (Reduce p) (Reduce q) → p ≡ q
reductions p q (inl e) = absurd cc
reductions p q (inr e) = cc

not_commuting : (m n : Mode) → in_conflict m n ≡ true → ¬ Commute m n
not_commuting Read Read e c = absurd (false≢true e)
not_commuting Read Write e (inl c) = absurd cc
not_commuting Read Write e (inr c) = absurd cc
not_commuting Read (Reduce q) e (inl c) = absurd cc
not_commuting Read (Reduce q) e (inr c) = absurd cc
not_commuting Write Read e (inl c) = absurd cc
not_commuting Write Read e (inr c) = absurd cc
not_commuting Write Write e (inl c) = absurd cc
not_commuting Write Write e (inr c) = absurd cc
not_commuting Write (Reduce q) e (inl c) = absurd cc
not_commuting Write (Reduce q) e (inr c) = absurd cc
not_commuting (Reduce p) Read e (inl c) = absurd cc
not_commuting (Reduce p) Read e (inr c) = absurd cc
not_commuting (Reduce p) Write e (inl c) = absurd cc
not_commuting (Reduce p) Write e (inr c) = absurd cc
not_commuting (Reduce p) (Reduce q) e c =
    let same : same_op p q ≡ true = ap (same_op p) (sym (reductions p q c)) ∙ same_op-itself p in
    false≢true (ap not (sym same) ∙ e)

conflicting : (m n : Mode) → ¬ Commute m n → in_conflict m n ≡ true
conflicting Read Read h = absurd (h (inl (refl, refl)))
conflicting Read Write h = refl
conflicting Read (Reduce q) h = refl
conflicting Write Read h = refl
conflicting Write Write h = refl
conflicting Write (Reduce q) h = refl
conflicting (Reduce p) Read h = refl
conflicting (Reduce p) Write h = refl
conflicting (Reduce p) (Reduce q) h =
    ⊎_elim (λ e. absurd (h (inr (q, ap Reduce (same_op-tells p q e), refl)))) (λ e. ap not e)
    (cases_Bool (same_op p q))

-- ---- modes of a list

contains_cons : (ms : List Mode) (m n : Mode) → Contains ms n → Contains (m ∷ ms) n
contains_cons ms m n c = (suc c.0, omega (arith, c.1), c.2)

modes_cons : (r : Requirement) (rs : List Requirement) (root field point : ℕ) (m : Mode) →
    Contains (modes_at rs root field point) m → Contains (modes_at (r ∷ rs) root field point) m
modes_cons r rs root field point m c =
    ⊎_elim (λ e. subst (λ (ms : List Mode). Contains ms m)
    (sym (modes_at-here r rs root field point e))
    (contains_cons (modes_at rs root field point) r.mode m c))
    (λ e. subst (λ (ms : List Mode). Contains ms m) (sym (modes_at-not r rs root field point e))
    c) (cases_Bool (is_at root field point r))

mode_first : (r : Requirement) (rs : List Requirement) (root field point : ℕ) →
    is_at root field point r ≡ true → Contains (modes_at (r ∷ rs) root field point) r.mode
mode_first r rs root field point e =
    subst (λ (ms : List Mode). Contains ms r.mode) (sym (modes_at-here r rs root field point e))
    (0, omega arith, refl)

-- a test that holds of each requirement for the point in this mode finds one
found_by_mode : (test : Requirement → Bool) (rs : List Requirement) (root field point : ℕ)
    (m : Mode) → ((r : Requirement) → is_at root field point r ≡ true → r.mode ≡ m →
    test r ≡ true) → Contains (modes_at rs root field point) m → list_any test rs ≡ true
found_by_mode test [] root field point m h c = absurd (omega (arith, c.1))
found_by_mode test (r ∷ rs) root field point m h c =
    ⊎_elim (λ e. here (found_by_mode test rs root field point m h) e
    (subst (λ (ms : List Mode). Contains ms m) (modes_at-here r rs root field point e) c))
    (λ e. or_right (test r) (list_any test rs)
    (found_by_mode test rs root field point m h
    (subst (λ (ms : List Mode). Contains ms m) (modes_at-not r rs root field point e) c)))
    (cases_Bool (is_at root field point r))
  where
    here : (Contains (modes_at rs root field point) m → list_any test rs ≡ true) →
        is_at root field point r ≡ true → Contains (r.mode ∷ modes_at rs root field point) m →
        list_any test (r ∷ rs) ≡ true
    here later e (zero, l, same) = or_left (test r) (list_any test rs) (h r e same)
    here later e (suc k, l, same) =
        or_right (test r) (list_any test rs) (later (k, omega arith, same))

-- ---- a conflict is somewhere

is_at-from : (a : Requirement) (root field point : ℕ) → a.root ≡ root → a.field ≡ field →
    has a.points point ≡ true → is_at root field point a ≡ true
is_at-from a root field point e f h =
    and_from (is_of root field a) (has a.points point)
    (and_from (eqb a.root root) (eqb a.field field) (eq-eqb a.root root e)
    (eq-eqb a.field field f)) h

-- what a conflict is made of
pub record IsConflict (a b : Requirement) : Type 0 where
  pub root : a.root ≡ b.root
  pub field : a.field ≡ b.field
  pub modes : in_conflict a.mode b.mode ≡ true
  pub point : ℕ
  pub in_first : has a.points point ≡ true
  pub in_second : has b.points point ≡ true

conflict_parts : (a b : Requirement) → conflict a b ≡ true → IsConflict a b
conflict_parts a b h =
    let outer = and_parts (eqb a.root b.root && eqb a.field b.field && in_conflict a.mode b.mode)
    (meets a.points b.points) h in
    let inner = and_parts (eqb a.root b.root && eqb a.field b.field) (in_conflict a.mode b.mode)
    outer.0 in
    let names = and_parts (eqb a.root b.root) (eqb a.field b.field) inner.0 in
    let at = meets_where a.points b.points outer.1 in
    let points = and_parts (has a.points at.0) (has b.points at.0) at.1 in
    record {
      root = eqb-true a.root b.root names.0;
      field = eqb-true a.field b.field names.1;
      modes = inner.1;
      point = at.0;
      in_first = points.0;
      in_second = points.1;
    }

conflict_from : (a b : Requirement) → IsConflict a b → conflict a b ≡ true
conflict_from a b h =
    and_from (eqb a.root b.root && eqb a.field b.field && in_conflict a.mode b.mode)
    (meets a.points b.points) (and_from (eqb a.root b.root && eqb a.field b.field)
    (in_conflict a.mode b.mode) (and_from (eqb a.root b.root) (eqb a.field b.field)
    (eq-eqb a.root b.root h.root) (eq-eqb a.field b.field h.field)) h.modes)
    (meets_at a.points b.points h.point
    (and_from (has a.points h.point) (has b.points h.point) h.in_first h.in_second))

conflict_found : (a : Requirement) (bs : List Requirement) → list_any (conflict a) bs ≡ true →
    (p : ℕ) × (m : Mode) × (has a.points p ≡ true) × Contains (modes_at bs a.root a.field p) m ×
    (in_conflict a.mode m ≡ true)
conflict_found a [] h = absurd (false≢true h)
conflict_found a (b ∷ bs) h =
    ⊎_elim (λ e. let parts = conflict_parts a b e in (
      parts.point,
      b.mode,
      parts.in_first,
      mode_first b bs a.root a.field parts.point
          (is_at-from b a.root a.field parts.point (sym parts.root) (sym parts.field)
          parts.in_second),
      parts.modes,
    )) (λ e. let rest = conflict_found a bs e in
    (rest.0, rest.1, rest.2, modes_cons b bs a.root a.field rest.0 rest.1 rest.3, rest.4))
    (or_cases (conflict a b) (list_any (conflict a) bs) h)

somewhere : (ours theirs : List Requirement) → interfere ours theirs ≡ true →
    InterfereSomewhere ours theirs
somewhere [] theirs h = absurd (false≢true h)
somewhere (a ∷ rest) theirs h =
    ⊎_elim (λ e. let at = conflict_found a theirs e in record {
      root = a.root;
      field = a.field;
      point = at.0;
      one = a.mode;
      other = at.1;
      first_has = mode_first a rest a.root a.field at.0
          (is_at-from a a.root a.field at.0 refl refl at.2);
      second_has = at.3;
      conflicts = not_commuting a.mode at.1 at.4;
    }) (λ e. let at = somewhere rest theirs e in record {
      root = at.root;
      field = at.field;
      point = at.point;
      one = at.one;
      other = at.other;
      first_has = modes_cons a rest at.root at.field at.point at.one at.first_has;
      second_has = at.second_has;
      conflicts = at.conflicts;
    }) (or_cases (list_any (conflict a) theirs) (interfere rest theirs) h)

from_somewhere : (ours theirs : List Requirement) → InterfereSomewhere ours theirs →
    interfere ours theirs ≡ true
from_somewhere ours theirs s =
    found_by_mode (λ a. list_any (conflict a) theirs) ours s.root s.field s.point s.one
    (λ a at e. found_by_mode (conflict a) theirs s.root s.field s.point s.other
    (λ b at' e'. conflict_from a b (both a b at e at' e')) s.second_has) s.first_has
  where
    both : (a b : Requirement) → is_at s.root s.field s.point a ≡ true → a.mode ≡ s.one →
        is_at s.root s.field s.point b ≡ true → b.mode ≡ s.other → IsConflict a b
    both a b at e at' e' =
        let one = and_parts (is_of s.root s.field a) (has a.points s.point) at in
        let other = and_parts (is_of s.root s.field b) (has b.points s.point) at' in
        let names = and_parts (eqb a.root s.root) (eqb a.field s.field) one.0 in
        let names' = and_parts (eqb b.root s.root) (eqb b.field s.field) other.0 in
        record {
          root = eqb-true a.root s.root names.0 ∙ sym (eqb-true b.root s.root names'.0);
          field = eqb-true a.field s.field names.1 ∙ sym (eqb-true b.field s.field names'.1);
          modes = ap (λ m. in_conflict m b.mode) e ∙ ap (in_conflict s.one) e' ∙
              conflicting s.one s.other s.conflicts;
          point = s.point;
          in_first = one.1;
          in_second = other.1;
        }

pub interfere_tells : (r : Bool) (ours theirs : List Requirement) → r ≡ interfere ours theirs →
    (r ≡ true → InterfereSomewhere ours theirs) × (InterfereSomewhere ours theirs → r ≡ true)
interfere_tells r ours theirs e =
    (λ h. somewhere ours theirs (sym e ∙ h), λ s. e ∙ from_somewhere ours theirs s)
