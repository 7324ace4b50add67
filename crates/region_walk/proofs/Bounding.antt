-- As many users are near a need as needs of the listed operations.
use Rattle.std.specs.Prelude.{filter}
use Rattle.std.proofs.Common.{◌≡◌, ◌==◌, ◌+◌, ◌++◌, ◌&&◌, ◌∷◌, [], ◌∙◌, ℕ, Bool, true, false, cond, List, ap, sym, refl, arith, length, map, suc, length-append}
use Rattle.std.proofs.lemmas.List.Elements.{filter-append}
use Rattle.std.proofs.lemmas.List.Sorted.{length_permutation}
use Rattle.region_finder.specs.Listings.{Listed, PlacedNeed, needs_in}
use Rattle.region_tree.specs.Trees.{RegionTree}
use Rattle.region_tree.specs.declared.needs.Need.{Need}
use Rattle.region_tree.specs.declared.tree.OpNumber.{OpNumber}
use Rattle.region_walk.specs.Near.{are_near, is_near, near_pairs, near_users, needs_of_context}
use Rattle.region_walk.specs.Users.{IsIndexed, ListedNeed, listed_need, users_in, users_of}
use Rattle.region_walk.proofs.Permuting.{perm_filter}

-- how many pass a test
abbrev counted : {X : Type 0} → (X → Bool) → List X → ℕ
counted p xs = length (filter p xs)

counted_append : {X : Type 0} (p : X → Bool) (xs ys : List X) → counted p (xs ++ ys) ≡ counted p xs + counted p ys
counted_append p xs ys = ap length (filter-append p xs ys) ∙ length-append (filter p xs) (filter p ys)

-- one more, if it passes
one_more : {X Y : Type 0} (b : Bool) (x : X) (y : Y) (xs : List X) (ys : List Y) → length xs ≡ length ys →
    length (cond b (x ∷ xs) xs) ≡ length (cond b (y ∷ ys) ys)
one_more true x y xs ys e = ap suc e
one_more false x y xs ys e = e

-- the users of one operation
near_same : (f : Need → Bool) (k o : OpNumber) (ms : List PlacedNeed) →
    counted (λ (u : ListedNeed). f u.placed.need) (map (listed_need k o) ms)
    ≡ counted f (map (λ (m : PlacedNeed). m.need) ms)
near_same f k o [] = refl
near_same f k o (m ∷ ms) = one_more (f m.need) (listed_need k o m) m.need _ _ (near_same f k o ms)

near_none : (k o : OpNumber) (ms : List PlacedNeed) → counted (λ (u : ListedNeed). false) (map (listed_need k o) ms) ≡ 0
near_none k o [] = refl
near_none k o (m ∷ ms) = near_none k o ms

near_flag : (b : Bool) (f : Need → Bool) (k o : OpNumber) (ms : List PlacedNeed) →
    counted (λ (u : ListedNeed). b && f u.placed.need) (map (listed_need k o) ms)
    ≡ cond b (counted f (map (λ (m : PlacedNeed). m.need) ms)) 0
near_flag true f k o ms = near_same f k o ms
near_flag false f k o ms = near_none k o ms

-- every user of an operation has its context
near_in : (t : RegionTree) (c : ℕ) (n : Need) (k o : OpNumber) (ms : List PlacedNeed) →
    counted (is_near t c n) (map (listed_need k o) ms)
    ≡ counted (λ (u : ListedNeed). (k.0 == c) && are_near t n u.placed.need) (map (listed_need k o) ms)
near_in t c n k o [] = refl
near_in t c n k o (m ∷ ms) =
    one_more (is_near t c n (listed_need k o m)) (listed_need k o m) (listed_need k o m) _ _ (near_in t c n k o ms)

no_more : (a b : ℕ) → a ≡ 0 → a + b ≡ b
no_more a b e = omega (arith, e)

near_split : (b : Bool) (t : RegionTree) (n : Need) (xs ys : List Need) →
    cond b (counted (are_near t n) xs) 0 + counted (are_near t n) ys ≡ counted (are_near t n) (cond b (xs ++ ys) ys)
near_split true t n xs ys = sym (counted_append (are_near t n) xs ys)
near_split false t n xs ys = no_more 0 _ refl

near_of : (t : RegionTree) (c : ℕ) (n : Need) (ls : List Listed) →
    counted (is_near t c n) (users_of ls) ≡ counted (are_near t n) (needs_of_context ls c)
near_of t c n [] = refl
near_of t c n (l ∷ ls) =
    counted_append (is_near t c n) (users_in l) (users_of ls)
    ∙ ap (λ (k : ℕ). k + counted (is_near t c n) (users_of ls))
    (near_in t c n l.context l.op l.needs ∙ near_flag (l.context.0 == c) (are_near t n) l.context l.op l.needs)
    ∙ ap (λ (k : ℕ). cond (l.context.0 == c) (counted (are_near t n) (needs_in l)) 0 + k) (near_of t c n ls)
    ∙ near_split (l.context.0 == c) t n (needs_in l) (needs_of_context ls c)

near_one : (t : RegionTree) (c : ℕ) (n : Need) (ls : List Listed) (us : List ListedNeed) → IsIndexed ls us →
    counted (is_near t c n) us ≡ counted (are_near t n) (needs_of_context ls c)
near_one t c n ls us i =
    length_permutation _ _ (perm_filter (is_near t c n) (users_of ls) us i.users) ∙ near_of t c n ls

pub near_all : (t : RegionTree) (c : ℕ) (ns : List Need) (ls : List Listed) (us : List ListedNeed) → IsIndexed ls us →
    near_users t c ns us ≡ near_pairs t ns (needs_of_context ls c)
near_all t c [] ls us i = refl
near_all t c (n ∷ ns) ls us i =
    ap (λ (k : ℕ). k + near_users t c ns us) (near_one t c n ls us i)
    ∙ ap (λ (k : ℕ). counted (are_near t n) (needs_of_context ls c) + k) (near_all t c ns ls us i)
