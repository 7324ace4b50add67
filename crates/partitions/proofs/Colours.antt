-- Lists with one set for each colour.
use Rattle.std.proofs.Common.{◌&&◌, ◌≡◌, ℕ, ◌+◌, ◌<◌, ◌≤◌, true, List, [], ◌∷◌, ◌++◌, length, length-take}
use Rattle.std.proofs.Common.{length-drop, get_or, take, drop, map, All, refl, sym, ap, ◌∙◌, arith}
use Rattle.std.proofs.Common.{⊎_elim, get_or-take, get_or-drop}
use Rattle.std.proofs.lemmas.Bool.{cases_Bool, cases_lt, cases_order, false≢true, and_parts, and_from}
use Rattle.std.proofs.lemmas.List.{map_push, get_or-map, get_or_past, length-map}
use Rattle.std.proofs.lemmas.List.Elements.{All-head, All-tail, All-take, All-drop, All-from_get_or}
use Rattle.plain_values.specs.Points.{IsPoints, points, has, meets}
use Rattle.point_sets.proofs.Rising.{counted_from-+, get_or-counted_from, length-counted_from}
use Rattle.point_sets.proofs.Rising.{meets_at, meets_where}
use Rattle.partitions.specs.Laws.{colour, NoneShared}

pub map_agree : {X Y : Type 0} (P : X → Type 0) (f g : X → Y) → ((x : X) → P x → f x ≡ g x) →
    (xs : List X) → All P xs → map f xs ≡ map g xs
map_agree P f g h [] a = refl
map_agree P f g h (x ∷ xs) a = let e = h x (All-head P x xs a) in
    let t = map_agree P f g h xs (All-tail P x xs a) in rw (e, t) refl

pub colours_more : {X : Type 0} (f : ℕ → X) (n : ℕ) →
    map f (points (n + 1)) ≡ map f (points n) ++ f n ∷ []
colours_more f n =
    let zero_plus : 0 + n ≡ n = omega arith in
    ap (map f) (counted_from-+ 0 n 1 ∙ ap (λ k. points n ++ k ∷ []) zero_plus)
    ∙ map_push f (points n) n

pub colours_agree : {X : Type 0} (f g : ℕ → X) (n : ℕ) → ((c : ℕ) → c < n → f c ≡ g c) →
    map f (points n) ≡ map g (points n)
colours_agree f g n h = map_agree (λ c. c < n) f g h (points n) below
  where
    below : All (λ c. c < n) (points n)
    below k d l =
        let under : k < n = omega (arith, length-counted_from 0 n) in
        rw (get_or-counted_from 0 n k d under) (omega arith)

-- ---- parts of a rising list

pub part_points : (bound : ℕ) (xs : List ℕ) (j k : ℕ) → IsPoints bound xs →
    IsPoints bound (take k (drop j xs))
part_points bound xs j k p = record {
  rising = λ i l.
      let n = length-take k (drop j xs) in
      let m = length-drop j xs in
      let here : i < k = omega arith in
      let next : i + 1 < k = omega arith in
      let r = p.rising (j + i) (omega arith) in
      let a : get_or (take k (drop j xs)) i 0 ≡ get_or xs (j + i) 0 = get_or-take k
      (drop j xs) i 0 here ∙ get_or-drop j xs i 0 in
      let b : get_or (take k (drop j xs)) (i + 1) 0 ≡ get_or xs (j + (i + 1)) 0 = get_or-take k
      (drop j xs) (i + 1) 0 next ∙ get_or-drop j xs (i + 1) 0 in
      let s : j + (i + 1) ≡ j + i + 1 = omega arith in
      rw (a, b, s) r;
  below = All-take (λ x. x < bound) k (drop j xs) (All-drop (λ x. x < bound) j xs p.below);
}

-- ---- the set of a colour

pub colour_made : (f : ℕ → List ℕ) (n c : ℕ) → c < n → colour (map f (points n)) c ≡ f c
colour_made f n c l =
    let m = length-counted_from 0 n in
    get_or-map f (points n) c 0 [] (omega arith)
    ∙ ap f (get_or-counted_from 0 n c 0 l ∙ omega arith)

pub colour_lacking : (sets : List (List ℕ)) (c : ℕ) → length sets ≤ c → colour sets c ≡ []
colour_lacking sets c l = get_or_past sets c [] l

-- a colour with a point is there
pub colour_there : (sets : List (List ℕ)) (c x : ℕ) → has (colour sets c) x ≡ true → c < length sets
colour_there sets c x h =
    ⊎_elim (λ l. l) (λ g.
    absurd (false≢true (sym (ap (λ s. has s x) (colour_lacking sets c g)) ∙ h)))
    (cases_lt c (length sets))

pub length_made : (f : ℕ → List ℕ) (n : ℕ) → length (map f (points n)) ≡ n
length_made f n = length-map (points n) f ∙ length-counted_from 0 n

pub all_made : (P : List ℕ → Type 0) (f : ℕ → List ℕ) (n : ℕ) → ((c : ℕ) → c < n → P (f c)) →
    All P (map f (points n))
all_made P f n h =
    All-from_get_or P (map f (points n)) [] (λ c l. let under : c < n = omega
    (arith, length_made f n) in rw (colour_made f n c under) (h c under))

-- each point is in one colour at most
abbrev pub InOneAtMost : List (List ℕ) → Type 0
InOneAtMost sets =
    (c d x : ℕ) → has (colour sets c) x ≡ true → has (colour sets d) x ≡ true → c ≡ d

pub none_shared : (sets : List (List ℕ)) → InOneAtMost sets → NoneShared sets
none_shared sets one c d l l' =
    ⊎_elim (λ e. absurd (twice (meets_where (colour sets c) (colour sets d) e))) (λ e. e)
    (cases_Bool (meets (colour sets c) (colour sets d)))
  where
    twice : (x : ℕ) × ((has (colour sets c) x && has (colour sets d) x) ≡ true) → ⊥
    twice w =
        let both = and_parts (has (colour sets c) w.0) (has (colour sets d) w.0) w.1 in
        let same = one c d w.0 both.0 both.1 in
        absurd (omega arith)

pub in_one_at_most : (sets : List (List ℕ)) → NoneShared sets → InOneAtMost sets
in_one_at_most sets apart c d x a b =
    ⊎_elim (λ e. e) (λ o. absurd (⊎_elim (λ l. shared c d a b l) (λ l. shared d c b a l) o))
    (cases_order c d)
  where
    shared : (c d : ℕ) → has (colour sets c) x ≡ true → has (colour sets d) x ≡ true → c < d → ⊥
    shared c d a b l =
        let both = and_from (has (colour sets c) x) (has (colour sets d) x) a b in
        let meet = meets_at (colour sets c) (colour sets d) x both in
        false≢true (sym (apart c d l (colour_there sets d x b)) ∙ meet)

pub none_shared_made : (f : ℕ → List ℕ) (n : ℕ) →
    ((c d x : ℕ) → c < n → d < n → has (f c) x ≡ true → has (f d) x ≡ true → c ≡ d) →
    NoneShared (map f (points n))
none_shared_made f n h = none_shared (map f (points n)) one
  where
    one : InOneAtMost (map f (points n))
    one c d x a b =
        let m = length_made f n in
        let l : c < n = omega (arith, colour_there (map f (points n)) c x a) in
        let l' : d < n = omega (arith, colour_there (map f (points n)) d x b) in
        h c d x l l' (sym (ap (λ s. has s x) (colour_made f n c l)) ∙ a)
        (sym (ap (λ s. has s x) (colour_made f n d l')) ∙ b)

-- a function of each set
pub colour_mapped : (f : List ℕ → List ℕ) (sets : List (List ℕ)) (c x : ℕ) →
    has (colour (map f sets) c) x ≡ true → has (f (colour sets c)) x ≡ true
colour_mapped f sets c x h =
    let l : c < length sets = omega (arith, colour_there (map f sets) c x h, length-map sets f) in
    sym (ap (λ s. has s x) (get_or-map f sets c [] [] l)) ∙ h
