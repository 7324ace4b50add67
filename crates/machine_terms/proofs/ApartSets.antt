-- The sets of a partition share no point, as regions tell it and as the machine does.
use Rattle.std.specs.Prelude.{◌&&◌, not}
use Rattle.std.specs.List.{list_all}
use Rattle.std.proofs.Common.{◌≡◌, ◌<◌, ℕ, zero, suc, Bool, true, false, List, [], ◌∷◌, ap, arith, get_or, length, refl}
use Rattle.std.proofs.lemmas.Bool.{and_from, and_right}
use Rattle.std.proofs.lemmas.List.Folds.{list_all_at}
use Rattle.plain_values.specs.Points.{has, meets}
use Rattle.point_sets.proofs.Rising.{meets_at}
use Rattle.region_tree.specs.Sharing.{AreDisjoint, AreSharing, set_of_colour}
use Rattle.machine_terms.specs.Makes.{are_apart}

pub all_by : (p : List ℕ → Bool) (xs : List (List ℕ)) → ((c : ℕ) → c < length xs → p (get_or xs c []) ≡ true) → list_all p xs ≡ true
all_by p [] f = refl
all_by p (x ∷ xs) f = and_from (p x) (list_all p xs) (f 0 (omega arith)) (all_by p xs (λ c b. f (suc c) (omega (arith, b))))

pub apart_by : (sets : List (List ℕ)) → AreDisjoint sets → are_apart sets ≡ true
apart_by [] d = refl
apart_by (s ∷ ss) d = and_from (list_all (λ t. not (meets s t)) ss) (are_apart ss)
    (all_by (λ t. not (meets s t)) ss (λ c b. ap not (d 0 (suc c) (omega arith) (omega (arith, b)))))
    (apart_by ss (λ i j l b. d (suc i) (suc j) (omega (arith, l)) (omega (arith, b))))

meeting_not_apart : (sets : List (List ℕ)) (a b : ℕ) → a < b → b < length sets →
    meets (set_of_colour sets a) (set_of_colour sets b) ≡ true → are_apart sets ≡ false
meeting_not_apart [] a b l h m = absurd (omega (arith, h))
meeting_not_apart (s ∷ ss) a zero l h m = absurd (omega (arith, l))
meeting_not_apart (s ∷ ss) zero (suc b) l h m =
    ap (λ (c : Bool). c && are_apart ss) (list_all_at (λ t. not (meets s t)) ss b [] (omega (arith, h)) (ap not m))
meeting_not_apart (s ∷ ss) (suc a) (suc b) l h m =
    and_right (list_all (λ t. not (meets s t)) ss) (are_apart ss) (meeting_not_apart ss a b (omega (arith, l)) (omega (arith, h)) m)

pub sharing_not_apart : (sets : List (List ℕ)) (a b point : ℕ) → AreSharing sets a b point → are_apart sets ≡ false
sharing_not_apart sets a b point h = meeting_not_apart sets a b h.order h.below
    (meets_at (set_of_colour sets a) (set_of_colour sets b) point
    (and_from (has (set_of_colour sets a) point) (has (set_of_colour sets b) point) h.in_first h.in_second))
