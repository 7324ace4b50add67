-- Requirements within others.
use Rattle.std.proofs.Common.{◌≡◌, ℕ, suc, zero, ◌+◌, ◌<◌, Bool, true, ◌&&◌, eqb, ◌⊎◌, inl, inr}
use Rattle.std.proofs.Common.{⊎_elim, Option, Some, None, List, [], ◌∷◌, length, get_or, drop}
use Rattle.std.proofs.Common.{slice_get, refl, sym, ap, ◌∙◌, subst, arith}
use Rattle.std.proofs.lemmas.Bool.{cases_Bool, cases_lt, eqb-true, false≢true, or_left, or_right}
use Rattle.std.proofs.lemmas.Bool.{or_cases, and_parts, and_from}
use Rattle.std.proofs.lemmas.List.{at_drop_more}
use Rattle.std.proofs.lemmas.Option.{slice_get-get_or, slice_get_past}
use Rattle.std.specs.List.{list_all}
use Rattle.lane_kernels.specs.declared.numbers.Mode.{Mode}
use Rattle.lane_kernels.specs.declared.numbers.Mode.TheVariants.{Write}
use Rattle.plain_values.specs.Points.{has}
use Rattle.point_sets.proofs.Rising.{within_each, has_head, has_tail, has-cons_cases}
use Rattle.region_tree.specs.Needs.{requirement_of, requirements_of}
use Rattle.region_tree.specs.Requirements.{Requirement, IsWithin, is_of}
use Rattle.region_tree.specs.Requirements.{is_at, modes_at, mode_at, join_from, same_mode}
use Rattle.region_tree.specs.Requirements.{is_subsumed, covers, is_within}
use Rattle.region_tree.specs.Trees.{RegionTree}
use Rattle.region_tree.specs.declared.needs.Need.{Need}
use Rattle.region_tree.proofs.Joins.{join-with_writer, same_mode-itself, same_mode-tells}
use Rattle.region_tree.proofs.Joins.{modes_at-not}
use Rattle.region_tree.specs.Modes.{WritesAll}

-- ---- all members pass

pub list_all-from_each : (f : ℕ → Bool) (xs : List ℕ) → ((x : ℕ) → has xs x ≡ true → f x ≡ true) →
    list_all f xs ≡ true
list_all-from_each f [] h = refl
list_all-from_each f (x ∷ xs) h =
    and_from (f x) (list_all f xs) (h x (has_head x xs))
    (list_all-from_each f xs (λ y m. h y (has_tail y x xs m)))

pub each-from_list_all : (f : ℕ → Bool) (xs : List ℕ) → list_all f xs ≡ true → (x : ℕ) →
    has xs x ≡ true → f x ≡ true
each-from_list_all f [] h x m = absurd (false≢true m)
each-from_list_all f (y ∷ ys) h x m =
    let parts = and_parts (f y) (list_all f ys) h in
    ⊎_elim (λ e. subst (λ z. f z ≡ true) (sym e) parts.0) (λ n. each-from_list_all f ys parts.1 x n)
    (has-cons_cases x y ys m)

-- one place on in a list
pub all_more : (f : ℕ → Bool) (xs : List ℕ) (i p : ℕ) → slice_get xs i ≡ Some p →
    list_all f (drop i xs) ≡ (f p && list_all f (drop (i + 1) xs))
all_more f [] i p e = let none : None ≡ Some p = sym (slice_get_past [] i (omega arith)) ∙ e in
    absurd cc
all_more f (x ∷ xs) i p e =
    ⊎_elim (λ l. at_drop_more (list_all f) (x ∷ xs) i p l ∙
    ap (λ y. f y && list_all f (drop (i + 1) (x ∷ xs)))
    (let same : Some (get_or (x ∷ xs) i p) ≡ Some p = sym (slice_get-get_or (x ∷ xs) i p l) ∙
    e in cc)) (λ l. let none : None ≡ Some p = sym (slice_get_past (x ∷ xs) i l) ∙ e in
    absurd cc) (cases_lt i (length (x ∷ xs)))

-- ---- covered modes

abbrev pub covered_at : List Requirement → List Requirement → ℕ → ℕ → ℕ → Bool
covered_at ours theirs root field p =
    is_subsumed (mode_at ours root field p) (mode_at theirs root field p)

pub covered_by_Write : (o : Option Mode) → is_subsumed o (Some Write) ≡ true
covered_by_Write None = refl
covered_by_Write (Some m) = or_right (same_mode m Write) true refl

covered-itself : (o : Option Mode) → is_subsumed o o ≡ true
covered-itself None = refl
covered-itself (Some m) = or_left (same_mode m m) (same_mode m Write) (same_mode-itself m)

covered_tells : (o n : Option Mode) → is_subsumed o n ≡ true → (o ≡ None) ⊎
    ((o ≡ n) ⊎ (n ≡ Some Write))
covered_tells None n h = inl refl
covered_tells (Some m) None h = absurd (false≢true h)
covered_tells (Some m) (Some n) h =
    inr (⊎_elim (λ e. inl (ap Some (same_mode-tells m n e)))
    (λ e. inr (ap Some (same_mode-tells n Write e)))
    (or_cases (same_mode m n) (same_mode n Write) h))

covered_from : (o n : Option Mode) → (o ≡ None) ⊎ ((o ≡ n) ⊎ (n ≡ Some Write)) →
    is_subsumed o n ≡ true
covered_from o n h =
    ⊎_elim (λ e. ap (λ x. is_subsumed x n) e)
    (λ g. ⊎_elim (λ e. ap (λ x. is_subsumed o x) (sym e) ∙ covered-itself o)
    (λ e. ap (is_subsumed o) e ∙ covered_by_Write o) g) h

-- ---- a need that writes all points of another

pub covers-from_writer : (ours theirs : List Requirement) (r : Requirement) (i : ℕ)
    (d : Requirement) → i < length theirs → WritesAll (get_or theirs i d) r →
    covers ours theirs r ≡ true
covers-from_writer ours theirs r i d l h =
    list_all-from_each (λ p. is_subsumed (mode_at ours r.root r.field p)
    (mode_at theirs r.root r.field p)) r.points
    (λ p m. ap (is_subsumed (mode_at ours r.root r.field p))
    (join-with_writer theirs i d r.root r.field p None l
    (and_from (is_of r.root r.field (get_or theirs i d)) (has (get_or theirs i d).points p)
    h.same_field (within_each r.points (get_or theirs i d).points h.points p m)) h.writes) ∙
    covered_by_Write (mode_at ours r.root r.field p))

pub requirement_read : (t : RegionTree) (ns : List Need) (i : ℕ) (d : Need) → i < length ns →
    (i < length (requirements_of t ns)) ×
    (get_or (requirements_of t ns) i (requirement_of t d) ≡ requirement_of t (get_or ns i d))
requirement_read t [] i d l = absurd (omega arith)
requirement_read t (n ∷ ns) zero d l = (omega arith, refl)
requirement_read t (n ∷ ns) (suc i) d l =
    let rest = requirement_read t ns i d (omega arith) in
    (omega (arith, rest.0), rest.1)

pub covers-from_writing_need : (t : RegionTree) (ns : List Need) (i : ℕ) (d : Need)
    (r : Requirement) → i < length ns → WritesAll (requirement_of t (get_or ns i d)) r →
    (ours : List Requirement) → covers ours (requirements_of t ns) r ≡ true
covers-from_writing_need t ns i d r l h ours =
    let read = requirement_read t ns i d l in
    covers-from_writer ours (requirements_of t ns) r i (requirement_of t d) read.0
    (subst (λ (x : Requirement). WritesAll x r) (sym read.1) h)

-- ---- within, at each point

-- no requirement is for the point, or the test holds of one that is
none_or_covered : (test : Requirement → Bool) (rs : List Requirement) (root field point : ℕ) →
    list_all test rs ≡ true → (modes_at rs root field point ≡ []) ⊎
    ((r : Requirement) × (is_at root field point r ≡ true) × (test r ≡ true))
none_or_covered test [] root field point h = inl refl
none_or_covered test (r ∷ rs) root field point h =
    let parts = and_parts (test r) (list_all test rs) h in
    ⊎_elim (λ e. inr (r, e, parts.0)) (λ e. ⊎_elim
    (λ none. inl (modes_at-not r rs root field point e ∙ none)) (λ some. inr some)
    (none_or_covered test rs root field point parts.1)) (cases_Bool (is_at root field point r))

pub within_at : (ours theirs : List Requirement) → is_within ours theirs ≡ true →
    IsWithin ours theirs
within_at ours theirs h root field point =
    ⊎_elim (λ none. inl (ap (join_from None) none)) (λ some. at some.0 some.1 some.2)
    (none_or_covered (covers ours theirs) ours root field point h)
  where
    at : (r : Requirement) → is_at root field point r ≡ true → covers ours theirs r ≡ true →
        (mode_at ours root field point ≡ None) ⊎
        ((mode_at ours root field point ≡ mode_at theirs root field point) ⊎
        (mode_at theirs root field point ≡ Some Write))
    at r here covered =
        let parts = and_parts (is_of root field r) (has r.points point) here in
        let same = and_parts (eqb r.root root) (eqb r.field field) parts.0 in
        let one = each-from_list_all (λ p. is_subsumed (mode_at ours r.root r.field p)
        (mode_at theirs r.root r.field p)) r.points covered point parts.1 in
        covered_tells (mode_at ours root field point) (mode_at theirs root field point)
        (subst (λ k. is_subsumed (mode_at ours k field point) (mode_at theirs k field point) ≡
        true) (eqb-true r.root root same.0)
        (subst (λ k. is_subsumed (mode_at ours r.root k point) (mode_at theirs r.root k point) ≡
        true) (eqb-true r.field field same.1) one))

covers-from_each : (ours theirs rs : List Requirement) → IsWithin ours theirs →
    list_all (covers ours theirs) rs ≡ true
covers-from_each ours theirs [] h = refl
covers-from_each ours theirs (r ∷ rs) h =
    and_from (covers ours theirs r) (list_all (covers ours theirs) rs)
    (list_all-from_each (λ p. is_subsumed (mode_at ours r.root r.field p)
    (mode_at theirs r.root r.field p)) r.points
    (λ p m. covered_from (mode_at ours r.root r.field p) (mode_at theirs r.root r.field p)
    (h r.root r.field p))) (covers-from_each ours theirs rs h)

pub within_tells : (ours theirs : List Requirement) →
    (is_within ours theirs ≡ true → IsWithin ours theirs) ×
    (IsWithin ours theirs → is_within ours theirs ≡ true)
within_tells ours theirs = (within_at ours theirs, covers-from_each ours theirs ours)
