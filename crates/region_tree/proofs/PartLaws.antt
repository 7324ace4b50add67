-- The parts of a field share no point, and each has the points of its mode.
use Rattle.std.proofs.Common.{◌≡◌, ◌≢◌, ℕ, suc, zero, ◌<◌, Bool, true, false, not, ◌&&◌, Option}
use Rattle.std.proofs.Common.{Some, None, ◌⊎◌, inl, inr, List, [], ◌∷◌, length, get_or, All, refl}
use Rattle.std.proofs.Common.{sym, ap, ◌∙◌, subst, arith}
use Rattle.std.proofs.lemmas.Bool.{false≢true, false_from_ne_true, and_parts, or_parts, not-true}
use Rattle.std.proofs.lemmas.List.Elements.{All-nil, All-cons, All-weaker}
use Rattle.std.specs.List.{list_any}
use Rattle.lane_kernels.specs.declared.numbers.Mode.{Mode}
use Rattle.plain_values.specs.Points.{has, meets}
use Rattle.point_sets.proofs.Rising.{meets_where}
use Rattle.region_tree.specs.Requirements.{Requirement, IsPartOf, PartsAreApart, all_modes, is_mode}
use Rattle.region_tree.specs.Requirements.{mode_at, no_part, part_of, part_of_mode, parts_of_modes}
use Rattle.region_tree.specs.Requirements.{points_joined, same_mode}
use Rattle.region_tree.proofs.Dividing.{has-points_joined}
use Rattle.region_tree.proofs.Joins.{same_mode-itself, same_mode-tells}

-- one of the modes
abbrev IsOneOf : List Mode → Mode → Type 0
IsOneOf [] n = ⊥
IsOneOf (m ∷ ms) n = (m ≡ n) ⊎ IsOneOf ms n

-- no mode twice
abbrev AreDifferent : List Mode → Type 0
AreDifferent [] = Unit {0}
AreDifferent (m ∷ ms) = (¬ IsOneOf ms m) × AreDifferent ms

-- a part of one of these modes
abbrev IsListed : List Requirement → ℕ → ℕ → List Mode → List ℕ × Mode → Type 0
IsListed rs root field ms q =
    IsOneOf ms q.1 × (q.0 ≡ points_joined rs root field q.1) × (0 < length q.0)

added_listed : (rs : List Requirement) (root field : ℕ) (m : Mode) (ms : List Mode) (xs : List ℕ)
    (parts : List (List ℕ × Mode)) → xs ≡ points_joined rs root field m →
    All (IsListed rs root field ms) parts →
    All (IsListed rs root field (m ∷ ms)) (part_of_mode xs m parts)
added_listed rs root field m ms [] parts e h =
    All-weaker (IsListed rs root field ms) (IsListed rs root field (m ∷ ms))
    (λ q l. (inr l.0, l.1, l.2)) parts h
added_listed rs root field m ms (x ∷ xs) parts e h =
    All-cons (IsListed rs root field (m ∷ ms)) (x ∷ xs, m) parts (inl refl, e, omega arith)
    (All-weaker (IsListed rs root field ms) (IsListed rs root field (m ∷ ms))
    (λ q l. (inr l.0, l.1, l.2)) parts h)

parts_listed : (rs : List Requirement) (root field : ℕ) (ms : List Mode) →
    All (IsListed rs root field ms) (parts_of_modes rs root field ms)
parts_listed rs root field [] = All-nil (IsListed rs root field [])
parts_listed rs root field (m ∷ ms) =
    added_listed rs root field m ms (points_joined rs root field m)
    (parts_of_modes rs root field ms) refl (parts_listed rs root field ms)

pub parts_exact : (rs : List Requirement) (root field : ℕ) →
    All (IsPartOf rs root field) (part_of rs root field)
parts_exact rs root field =
    All-weaker (IsListed rs root field all_modes) (IsPartOf rs root field)
    (λ q l. record {
      some = l.2;
      exact = λ p. ap (λ xs. has xs p) l.1 ∙
          has-points_joined rs root field q.1 p;
    }) (part_of rs root field)
    (parts_listed rs root field all_modes)

-- two modes to which the modes at a point join are one
one_mode : (m n : Mode) (o : Option Mode) → is_mode m o ≡ true → is_mode n o ≡ true → m ≡ n
one_mode m n None e f = absurd (false≢true e)
one_mode m n (Some k) e f = same_mode-tells m k e ∙ sym (same_mode-tells n k f)

joined_apart : (rs : List Requirement) (root field : ℕ) (m n : Mode) (xs ys : List ℕ) → m ≢ n →
    xs ≡ points_joined rs root field m → ys ≡ points_joined rs root field n → meets xs ys ≡ false
joined_apart rs root field m n xs ys ne e f =
    false_from_ne_true (meets xs ys) (λ h. let at = meets_where xs ys h in
    let parts = and_parts (has xs at.0) (has ys at.0) at.1 in
    ne (one_mode m n (mode_at rs root field at.0)
    (sym (has-points_joined rs root field m at.0) ∙ ap (λ l. has l at.0) (sym e) ∙ parts.0)
    (sym (has-points_joined rs root field n at.0) ∙ ap (λ l. has l at.0) (sym f) ∙ parts.1)))

added_apart : (rs : List Requirement) (root field : ℕ) (m : Mode) (ms : List Mode) (xs : List ℕ)
    (parts : List (List ℕ × Mode)) → ¬ IsOneOf ms m → xs ≡ points_joined rs root field m →
    All (IsListed rs root field ms) parts → PartsAreApart parts →
    PartsAreApart (part_of_mode xs m parts)
added_apart rs root field m ms [] parts new e h apart i j l k = apart i j l k
added_apart rs root field m ms (x ∷ xs) parts new e h apart zero zero l k = absurd (omega arith)
added_apart rs root field m ms (x ∷ xs) parts new e h apart zero (suc j) l k =
    let other = h j no_part (omega arith) in
    let ne : m ≢ (get_or parts j no_part).1 = λ same. new
    (subst (IsOneOf ms) (sym same) other.0) in (
      joined_apart rs root field m (get_or parts j no_part).1 (x ∷ xs) (get_or parts j no_part).0 ne
          e other.1,
      ne,
    )
added_apart rs root field m ms (x ∷ xs) parts new e h apart (suc i) zero l k = absurd (omega arith)
added_apart rs root field m ms (x ∷ xs) parts new e h apart (suc i) (suc j) l k =
    apart i j (omega arith) (omega arith)

parts_apart : (rs : List Requirement) (root field : ℕ) (ms : List Mode) → AreDifferent ms →
    PartsAreApart (parts_of_modes rs root field ms)
parts_apart rs root field [] d = λ i j l k. absurd (omega arith)
parts_apart rs root field (m ∷ ms) d =
    added_apart rs root field m ms (points_joined rs root field m) (parts_of_modes rs root field ms)
    d.0 refl (parts_listed rs root field ms) (parts_apart rs root field ms d.1)

differ : (m n : Mode) → same_mode m n ≡ false → m ≢ n
differ m n e same = false≢true (sym e ∙ ap (same_mode m) (sym same) ∙ same_mode-itself m)

-- a test that tells a mode from each of a list
tells_apart : (m : Mode) (ms : List Mode) → list_any (same_mode m) ms ≡ false → ¬ IsOneOf ms m
tells_apart m [] e h = h
tells_apart m (n ∷ ms) e (inl same) =
    differ m n (or_parts (same_mode m n) (list_any (same_mode m) ms) e).0 (sym same)
tells_apart m (n ∷ ms) e (inr h) =
    tells_apart m ms (or_parts (same_mode m n) (list_any (same_mode m) ms) e).1 h

-- the same, by a test that computes
abbrev different_from : List Mode → Bool
different_from [] = true
different_from (m ∷ ms) = not (list_any (same_mode m) ms) && different_from ms

different : (ms : List Mode) → different_from ms ≡ true → AreDifferent ms
different [] e = tt
different (m ∷ ms) e =
    let parts = and_parts (not (list_any (same_mode m) ms)) (different_from ms) e in
    (tells_apart m ms (not-true (list_any (same_mode m) ms) parts.0), different ms parts.1)

pub part_apart : (rs : List Requirement) (root field : ℕ) → PartsAreApart (part_of rs root field)
part_apart rs root field = parts_apart rs root field all_modes (different all_modes refl)
