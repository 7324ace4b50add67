-- Roots by their places and their numbers: numbers rise, so that each place has a number of its own.
use Rattle.std.proofs.Common.{◌≡◌, ⊎_elim, ℕ, zero, suc, ◌<◌, List, [], ◌∷◌, true, refl, sym, ap, ◌∙◌, subst, arith}
use Rattle.std.specs.Prelude.{All, cond, get_or, length, map, ◌==◌}
use Rattle.std.specs.List.{AllByRecursion}
use Rattle.std.specs.List.Sorted.{IsStrictlyIncreasing}
use Rattle.std.proofs.lemmas.Bool.{cases_order, eq-eqb, ne_eqb}
use Rattle.std.proofs.lemmas.List.{length-map}
use Rattle.std.proofs.lemmas.List.Elements.{All-contains, All-from_recursion, All-get_or}
use Rattle.plain_values.specs.Points.{IsPoints, has}
use Rattle.point_sets.proofs.Rising.{Contains-from_has, Each, has_head, has_tail, rising_head, rising_tail}
use Rattle.regent_tree.specs.declared.outcome.RootImage.{RootImage}
use Rattle.regent_tree.specs.Store.{no_root}
use Rattle.machine_terms.specs.declared.order.Contents.{Contents}
use Rattle.machine_terms.specs.declared.order.Root.{Root}
use Rattle.machine_terms.specs.Contents.{image_in, image_of}
use Rattle.memory_laws.specs.Places.{numbers, number_at}

-- ---- members below a bound

pub each_below : (n : ℕ) (xs : List ℕ) → All (λ x. x < n) xs → Each (λ x. x < n) xs
each_below n xs low x e = All-contains (λ y. y < n) xs x low (Contains-from_has xs x e)

pub all_below : (n : ℕ) (xs : List ℕ) → Each (λ x. x < n) xs → All (λ x. x < n) xs
all_below n xs low = All-from_recursion (λ x. x < n) xs (by xs low)
  where
    by : (xs : List ℕ) → Each (λ x. x < n) xs → AllByRecursion (λ x. x < n) xs
    by [] low = tt
    by (x ∷ xs) low = (low x (has_head x xs), by xs (λ y e. low y (has_tail y x xs e)))

-- ---- places of rising numbers, with a number above them beyond their end

-- what each member and the number beyond are above
above : (n d : ℕ) (xs : List ℕ) → Each (λ y. n < y) xs → n < d → (i : ℕ) → n < get_or xs i d
above n d [] low l i = l
above n d (x ∷ xs) low l zero = low x (has_head x xs)
above n d (x ∷ xs) low l (suc i) = above n d xs (λ y e. low y (has_tail y x xs e)) l i

rises : (xs : List ℕ) (d i j : ℕ) → IsStrictlyIncreasing xs → Each (λ y. y < d) xs → i < length xs → i < j →
    get_or xs i d < get_or xs j d
rises [] d i j up low l k = absurd (omega (arith, l))
rises (x ∷ xs) d i zero up low l k = absurd (omega (arith, k))
rises (x ∷ xs) d zero (suc j) up low l k = above x d xs (rising_head x xs up) (low x (has_head x xs)) j
rises (x ∷ xs) d (suc i) (suc j) up low l k = rises xs d i j (rising_tail x xs up)
    (λ y e. low y (has_tail y x xs e)) (omega (arith, l)) (omega (arith, k))

-- a number tells its place
pub one_place : (xs : List ℕ) (d i j : ℕ) → IsStrictlyIncreasing xs → Each (λ y. y < d) xs → i < length xs →
    (get_or xs i d == get_or xs j d) ≡ (i == j)
one_place xs d i j up low l = ⊎_elim same (λ more. ⊎_elim below over more) (cases_order i j)
  where
    same : i ≡ j → (get_or xs i d == get_or xs j d) ≡ (i == j)
    same e = eq-eqb _ _ (ap (λ k. get_or xs k d) e) ∙ sym (eq-eqb i j e)

    below : i < j → (get_or xs i d == get_or xs j d) ≡ (i == j)
    below k = ne_eqb _ _ (λ q. omega (arith, q, rises xs d i j up low l k))
        ∙ sym (ne_eqb i j (λ q. omega (arith, q, k)))

    over : j < i → (get_or xs i d == get_or xs j d) ≡ (i == j)
    over k = ne_eqb _ _ (λ q. omega (arith, q, rises xs d j i up low (omega (arith, l, k)) k))
        ∙ sym (ne_eqb i j (λ q. omega (arith, q, k)))

-- ---- the root at a place

abbrev pub images : Contents → List RootImage
images c = map (λ (r : Root). r.image) c.roots

image_by : (rs : List Root) (d i : ℕ) → IsStrictlyIncreasing (map (λ (r : Root). r.id.0) rs) →
    Each (λ y. y < d) (map (λ (r : Root). r.id.0) rs) →
    image_in rs (get_or (map (λ (r : Root). r.id.0) rs) i d)
    ≡ get_or (map (λ (r : Root). r.image) rs) i no_root
image_by [] d i up low = refl
image_by (k ∷ rs) d zero up low =
    ap (λ b. cond b k.image (image_in rs k.id.0)) (eq-eqb k.id.0 k.id.0 refl)
image_by (k ∷ rs) d (suc i) up low =
    let ns = map (λ (r : Root). r.id.0) rs in
    let here : k.id.0 < d = low k.id.0 (has_head k.id.0 ns) in
    let later = λ (y : ℕ) (e : has ns y ≡ true). low y (has_tail y k.id.0 ns e) in
    let more : k.id.0 < get_or ns i d = above k.id.0 d ns (rising_head k.id.0 ns up) here i in
    ap (λ b. cond b k.image (image_in rs (get_or ns i d)))
    (ne_eqb k.id.0 (get_or ns i d) (λ q. omega (arith, q, more)))
    ∙ image_by rs d i (rising_tail k.id.0 ns up) later

pub image_at : (c : Contents) (place : ℕ) → IsPoints c.made (numbers c) →
    image_of c (number_at c place) ≡ get_or (images c) place no_root
image_at c place p = image_by c.roots c.made place p.rising (each_below c.made (numbers c) p.below)

-- two places have one number where they are one
pub is_number : (c : Contents) (place p : ℕ) → IsPoints c.made (numbers c) → place < length c.roots →
    (number_at c place == number_at c p) ≡ (place == p)
is_number c place p n l = one_place (numbers c) c.made place p n.rising
    (each_below c.made (numbers c) n.below) (subst (λ k. place < k) (sym (length-map c.roots (λ (r : Root). r.id.0))) l)

-- the number of a root that is there was given
pub number_below : (c : Contents) (place : ℕ) → IsPoints c.made (numbers c) → place < length c.roots →
    number_at c place < c.made
number_below c place n l = All-get_or (λ x. x < c.made) (numbers c) place c.made
    (subst (λ k. place < k) (sym (length-map c.roots (λ (r : Root). r.id.0))) l) n.below

-- a number that was given to no root
pub image_beyond : (rs : List Root) (n : ℕ) → Each (λ y. y < n) (map (λ (r : Root). r.id.0) rs) →
    image_in rs n ≡ no_root
image_beyond [] n low = refl
image_beyond (k ∷ rs) n low =
    let ns = map (λ (r : Root). r.id.0) rs in
    let here : k.id.0 < n = low k.id.0 (has_head k.id.0 ns) in
    ap (λ b. cond b k.image (image_in rs n)) (ne_eqb k.id.0 n (λ q. omega (arith, q, here)))
    ∙ image_beyond rs n (λ y e. low y (has_tail y k.id.0 ns e))
