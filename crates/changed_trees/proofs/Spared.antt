-- Whoever interferes with what a later sibling writes over interferes with that sibling, which interferes with it too.
use Rattle.std.proofs.Common.{◌≡◌, ◌∷◌, ◌∙◌, ◌&&◌, ◌==◌, ⊎_elim, ℕ, Bool, List, [], ap, eq-eqb, eqb-true, refl, sym, true}
use Rattle.std.specs.Prelude.{All}
use Rattle.std.specs.List.{Contains, list_all, list_any}
use Rattle.std.proofs.lemmas.Bool.{and_from, and_parts, false≢true, or_cases, or_left, or_right}
use Rattle.std.proofs.lemmas.List.Elements.{All-contains, All-contains_itself, All-cons, All-head, All-nil, All-weaker, Contains-append_left, Contains-append_right}
use Rattle.lane_kernels.specs.Modes.{in_conflict}
use Rattle.lane_kernels.specs.declared.numbers.Mode.{Mode}
use Rattle.lane_kernels.specs.declared.numbers.Mode.TheVariants.{Read, Reduce, Write}
use Rattle.plain_values.specs.Points.{has, meets, within}
use Rattle.region_tree.specs.Requirements.{Requirement, conflict, interfere, same_mode}
use Rattle.machine_terms.specs.Opening.{with_points}
use Rattle.board_trees.specs.Names.{pointed}
use Rattle.board_trees.specs.Waits.{Sibling, is_written_over, writes_over}

-- ---- elements that pass a test

module _ {A : Type 0} (p : A → Bool) where
  pub record Passes (xs : List A) : Type 0 where
    pub one : A
    pub there : Contains xs one
    pub passes : p one ≡ true

  pub passing : (xs : List A) → list_any p xs ≡ true → Passes xs
  passing [] e = absurd (false≢true e)
  passing (x ∷ xs) e = ⊎_elim
      (λ t. record { one = x; there = Contains-append_left (x ∷ []) xs x (All-head (Contains (x ∷ [])) x [] (All-contains_itself (x ∷ []))); passes = t })
      (λ t. let more = passing xs t in record { one = more.one; there = Contains-append_right (x ∷ []) xs more.one more.there; passes = more.passes })
      (or_cases (p x) (list_any p xs) e)

  any_of : (xs : List A) → All (λ (y : A). p y ≡ true → list_any p xs ≡ true) xs
  any_of [] = All-nil (λ (y : A). p y ≡ true → list_any p [] ≡ true)
  any_of (x ∷ xs) = All-cons (λ (y : A). p y ≡ true → list_any p (x ∷ xs) ≡ true) x xs (λ t. or_left (p x) (list_any p xs) t)
      (All-weaker (λ (y : A). p y ≡ true → list_any p xs ≡ true) (λ (y : A). p y ≡ true → list_any p (x ∷ xs) ≡ true)
      (λ y h t. or_right (p x) (list_any p xs) (h t)) xs (any_of xs))

  pub any_there : (xs : List A) (x : A) → Contains xs x → p x ≡ true → list_any p xs ≡ true
  any_there xs x c t = All-contains (λ (y : A). p y ≡ true → list_any p xs ≡ true) xs x (any_of xs) c t

  all_of : (xs : List A) → list_all p xs ≡ true → All (λ (y : A). p y ≡ true) xs
  all_of [] e = All-nil (λ (y : A). p y ≡ true)
  all_of (x ∷ xs) e =
      let parts = and_parts (p x) (list_all p xs) e in
      All-cons (λ (y : A). p y ≡ true) x xs parts.0 (all_of xs parts.1)

  pub all_there : (xs : List A) (x : A) → list_all p xs ≡ true → Contains xs x → p x ≡ true
  all_there xs x e c = All-contains (λ (y : A). p y ≡ true) xs x (all_of xs e) c

-- ---- more needs interfere with more

pub more_interferes : (D E Q : List Requirement) → All (Contains D) E → interfere E Q ≡ true → interfere D Q ≡ true
more_interferes D E Q h e =
    let r = passing (λ (r : Requirement). list_any (conflict r) Q) E e in
    any_there (λ (r : Requirement). list_any (conflict r) Q) D r.one (All-contains (Contains D) E r.one h r.there) r.passes

pub pointed_in : (D : List Requirement) → All (Contains D) (pointed D)
pointed_in [] = All-nil (Contains [])
pointed_in (r ∷ rs) = by_points r.points (All-weaker (Contains rs) (Contains (r ∷ rs)) (λ x c. Contains-append_right (r ∷ []) rs x c) (pointed rs) (pointed_in rs))
  where
    by_points : (xs : List ℕ) → All (Contains (r ∷ rs)) (pointed rs) → All (Contains (r ∷ rs)) (with_points xs r (pointed rs))
    by_points [] more = more
    by_points (x ∷ xs) more = All-cons (Contains (r ∷ rs)) r (pointed rs) (All-head (Contains (r ∷ rs)) r rs (All-contains_itself (r ∷ rs))) more

-- ---- one that is written over

is_write : (m : Mode) → same_mode m Write ≡ true → m ≡ Write
is_write Read e = absurd (false≢true e)
is_write Write e = refl
is_write (Reduce p) e = absurd (false≢true e)

write_left : (m : Mode) → in_conflict Write m ≡ true
write_left Read = refl
write_left Write = refl
write_left (Reduce p) = refl

write_right : (m : Mode) → in_conflict m Write ≡ true
write_right Read = refl
write_right Write = refl
write_right (Reduce p) = refl

module _ (r w q : Requirement) (over : writes_over r w ≡ true) (conflicts : conflict r q ≡ true) where
  both_conflict : (conflict w q ≡ true) × (conflict r w ≡ true)
  both_conflict =
      let c = and_parts (same_mode w.mode Write && (w.root == r.root) && (w.field == r.field)) (within r.points w.points) over in
      let b = and_parts (same_mode w.mode Write && (w.root == r.root)) (w.field == r.field) c.0 in
      let a = and_parts (same_mode w.mode Write) (w.root == r.root) b.0 in
      let f = and_parts ((r.root == q.root) && (r.field == q.field) && in_conflict r.mode q.mode) (meets r.points q.points) conflicts in
      let e = and_parts ((r.root == q.root) && (r.field == q.field)) (in_conflict r.mode q.mode) f.0 in
      let d = and_parts (r.root == q.root) (r.field == q.field) e.0 in
      let mode = is_write w.mode a.0 in
      let root = eqb-true w.root r.root a.1 in
      let field = eqb-true w.field r.field b.1 in
      let x = passing (has q.points) r.points f.1 in
      let there = all_there (has w.points) r.points x.one c.1 x.there in
      let y = passing (λ (z : ℕ). x.one == z) w.points there in
      let at_y : has q.points y.one ≡ true = ap (has q.points) (sym (eqb-true x.one y.one y.passes)) ∙ x.passes in (
        and_from ((w.root == q.root) && (w.field == q.field) && in_conflict w.mode q.mode) (meets w.points q.points)
            (and_from ((w.root == q.root) && (w.field == q.field)) (in_conflict w.mode q.mode)
            (and_from (w.root == q.root) (w.field == q.field)
            (eq-eqb w.root q.root (root ∙ eqb-true r.root q.root d.0))
            (eq-eqb w.field q.field (field ∙ eqb-true r.field q.field d.1)))
            (ap (λ m. in_conflict m q.mode) mode ∙ write_left q.mode))
            (any_there (has q.points) w.points y.one y.there at_y),
        and_from ((r.root == w.root) && (r.field == w.field) && in_conflict r.mode w.mode) (meets r.points w.points)
            (and_from ((r.root == w.root) && (r.field == w.field)) (in_conflict r.mode w.mode)
            (and_from (r.root == w.root) (r.field == w.field) (eq-eqb r.root w.root (sym root)) (eq-eqb r.field w.field (sym field)))
            (ap (in_conflict r.mode) mode ∙ write_right r.mode))
            (any_there (has w.points) r.points x.one x.there there),
      )

-- so the sibling that writes over it is waited for, and waits for it
pub written_spares : (D Q : List Requirement) (later : List Sibling) (r : Requirement) → Contains D r → list_any (conflict r) Q ≡ true → is_written_over later r ≡ true →
    list_any (λ (y : Sibling). interfere y.needs Q && interfere D y.needs) later ≡ true
written_spares D Q later r c e o =
    let y = passing (λ (y : Sibling). list_any (writes_over r) y.needs) later o in
    let w = passing (writes_over r) y.one.needs y.passes in
    let q = passing (conflict r) Q e in
    let both = both_conflict r w.one q.one w.passes q.passes in
    any_there (λ (y : Sibling). interfere y.needs Q && interfere D y.needs) later y.one y.there
    (and_from (interfere y.one.needs Q) (interfere D y.one.needs)
    (any_there (λ (a : Requirement). list_any (conflict a) Q) y.one.needs w.one w.there (any_there (conflict w.one) Q q.one q.there both.0))
    (any_there (λ (a : Requirement). list_any (conflict a) y.one.needs) D r c (any_there (conflict r) y.one.needs w.one w.there both.1)))
