-- Members of rising lists.
use Rattle.std.proofs.Common.{◌≡◌, ◌≢◌, ℕ, zero, suc, ◌+◌, ◌<◌, ◌≤◌, Bool, true, false, not, ◌&&◌, ◌||◌, ◌⊎◌, cond, eqb, ltb, leb, List, [], ◌∷◌, ◌++◌, length, get_or, take, All, filter, refl, sym, ap, ◌∙◌, Some, None, subst, arith, ⊎_elim, inl, inr}
use Rattle.std.proofs.lemmas.Bool.{cases_Bool, cases_eq, cases_order, false≢true, or_cases, or_parts, eqb-true, eq-eqb, ne_eqb, cond_both, ltb-true, ltb-false, eqb-false, or_left, or_right, and_parts, and_from, cond-true, cond-false, both_ways, not-true, not-false}
use Rattle.std.proofs.lemmas.Bool.Decides.{nat_tests}
use Rattle.std.proofs.lemmas.List.Kept.{IsStrictlyIncreasing-filter, AllPairs-from_increasing}
use Rattle.std.proofs.lemmas.List.{length-take-le, get_or_default, get_or-take}
use Rattle.std.specs.Bool.{Decides}
use Rattle.std.specs.List.{Contains, position_from}
use Rattle.std.specs.List.Sorted.{IsStrictlyIncreasing}
use Rattle.plain_values.specs.Points.{has, with_point, union_of, meet_of, minus_of, meets, within, counted_from}

-- Each member of a list satisfies a fact.
abbrev pub Each : (ℕ → Type 0) → List ℕ → Type 0
Each P xs = (x : ℕ) → has xs x ≡ true → P x

pub has_head : (x : ℕ) (xs : List ℕ) → has (x ∷ xs) x ≡ true
has_head x xs = grind (arith, nat_tests)

pub has_tail : (x y : ℕ) (xs : List ℕ) → has xs x ≡ true → has (y ∷ xs) x ≡ true
has_tail x y xs h = grind (arith, nat_tests)

pub has-cons_cases : (x y : ℕ) (xs : List ℕ) → has (y ∷ xs) x ≡ true → (x ≡ y) ⊎ (has xs x ≡ true)
has-cons_cases x y xs h = ⊎_elim (λ e. inl (eqb-true x y e)) inr (or_cases (eqb x y) (has xs x) h)

pub has_other : (x y : ℕ) (xs : List ℕ) → x ≢ y → has (y ∷ xs) x ≡ has xs x
has_other x y xs ne = rw (ne_eqb x y ne) refl

pub has_get_or : (xs : List ℕ) (k : ℕ) → k < length xs → has xs (get_or xs k 0) ≡ true
has_get_or [] k l = absurd (omega arith)
has_get_or (x ∷ xs) zero l = has_head x xs
has_get_or (x ∷ xs) (suc k) l = has_tail (get_or xs k 0) x xs (has_get_or xs k (omega arith))

-- ---- rising lists

pub rising_tail : (x : ℕ) (xs : List ℕ) → IsStrictlyIncreasing (x ∷ xs) → IsStrictlyIncreasing xs
rising_tail x xs h k l = let g = h (suc k) in grind (arith)

pub rising_head : (x : ℕ) (xs : List ℕ) → IsStrictlyIncreasing (x ∷ xs) → Each (λ y. x < y) xs
rising_head x [] h y e = absurd (false≢true e)
rising_head x (z ∷ zs) h y e =
    let first : x < z = h 0 (omega arith) in
    ⊎_elim (λ q. omega arith) (λ m. let later : z < y = rising_head z zs (rising_tail x (z ∷ zs) h) y m in omega arith) (has-cons_cases y z zs e)

pub rising_cons : (x : ℕ) (xs : List ℕ) → Each (λ y. x < y) xs → IsStrictlyIncreasing xs → IsStrictlyIncreasing (x ∷ xs)
rising_cons x [] above up k l = absurd (omega arith)
rising_cons x (z ∷ zs) above up zero l = above z (has_head z zs)
rising_cons x (z ∷ zs) above up (suc k) l = let g = up k in grind (arith)

-- what is not above the bound that each member is above is no member
pub absent : (x : ℕ) (xs : List ℕ) → Each (λ y. x < y) xs → (z : ℕ) → z ≤ x → has xs z ≡ false
absent x xs above z l =
    ⊎_elim (λ m. let over : x < z = above z m in absurd (omega arith)) (λ e. e) (cases_Bool (has xs z))

pub absent_below : (x : ℕ) (xs : List ℕ) → Each (λ y. x ≤ y) xs → (z : ℕ) → z < x → has xs z ≡ false
absent_below x xs above z l =
    ⊎_elim (λ m. let over : x ≤ z = above z m in absurd (omega arith)) (λ e. e) (cases_Bool (has xs z))

-- ---- membership decides

tails_agree : (x : ℕ) (xs ys : List ℕ) → Each (λ y. x < y) xs → Each (λ y. x < y) ys → ((z : ℕ) → has (x ∷ xs) z ≡ has (x ∷ ys) z) → (z : ℕ) → has xs z ≡ has ys z
tails_agree x xs ys above above' same z =
    ⊎_elim (λ e. absent x xs above z (omega arith) ∙ sym (absent x ys above' z (omega arith))) (λ ne. sym (has_other z x xs ne) ∙ same z ∙ has_other z x ys ne) (cases_eq z x)

missing_head : (x y : ℕ) (xs ys : List ℕ) → IsStrictlyIncreasing (y ∷ ys) → x < y → has (x ∷ xs) x ≡ has (y ∷ ys) x → ⊥
missing_head x y xs ys up l same =
    let ne : x ≢ y = omega arith in
    let out : has ys x ≡ false = absent y ys (rising_head y ys up) x (omega arith) in
    false≢true (sym out ∙ sym (has_other x y ys ne) ∙ sym same ∙ has_head x xs)

pub members_decide : (xs ys : List ℕ) → IsStrictlyIncreasing xs → IsStrictlyIncreasing ys → ((x : ℕ) → has xs x ≡ has ys x) → xs ≡ ys
members_decide [] [] _ _ _ = refl
members_decide [] (y ∷ ys) _ _ same = absurd (false≢true (same y ∙ has_head y ys))
members_decide (x ∷ xs) [] _ _ same = absurd (false≢true (sym (same x) ∙ has_head x xs))
members_decide (x ∷ xs) (y ∷ ys) up up' same =
    ⊎_elim (λ e. same_heads x y xs ys e up up' same (members_decide xs ys (rising_tail x xs up) (rising_tail y ys up'))) (λ o. absurd (⊎_elim (λ l. missing_head x y xs ys up' l (same x)) (λ l. missing_head y x ys xs up l (sym (same y))) o)) (cases_order x y)
  where
    same_heads : (x y : ℕ) (xs ys : List ℕ) → x ≡ y → IsStrictlyIncreasing (x ∷ xs) → IsStrictlyIncreasing (y ∷ ys) → ((z : ℕ) → has (x ∷ xs) z ≡ has (y ∷ ys) z) → (((z : ℕ) → has xs z ≡ has ys z) → xs ≡ ys) → (x ∷ xs) ≡ (y ∷ ys)
    same_heads x y xs ys e up up' same rest =
        let P : ℕ → Type 0 = λ v. IsStrictlyIncreasing (v ∷ ys) → ((z : ℕ) → has (x ∷ xs) z ≡ has (v ∷ ys) z) → (x ∷ xs) ≡ (v ∷ ys) in
        subst P e (λ up'' same'. ap (λ l. x ∷ l) (rest (tails_agree x xs ys (rising_head x xs up) (rising_head x ys up'') same'))) up' same

-- ---- a union

has-with_point : (x : ℕ) (ys : List ℕ) (z : ℕ) → has (with_point x ys) z ≡ (eqb z x || has ys z)
has-with_point x [] z = refl
has-with_point x (y ∷ ys) z = let h = has-with_point x ys z in grind (arith, nat_tests)

with_point_below : (x y : ℕ) (ys : List ℕ) → x < y → IsStrictlyIncreasing (y ∷ ys) → Each (λ z. x < z) (y ∷ ys)
with_point_below x y ys l up z m =
    ⊎_elim (λ e. omega arith) (λ h. let over : y < z = rising_head y ys up z h in omega arith) (has-cons_cases z y ys m)

with_point_above : (x y : ℕ) (ys : List ℕ) → y ≤ x → x ≢ y → IsStrictlyIncreasing (y ∷ ys) → Each (λ z. y < z) (with_point x ys)
with_point_above x y ys l ne up z m =
    ⊎_elim (λ e. let same : z ≡ x = eqb-true z x e in omega arith) (rising_head y ys up z) (or_cases (eqb z x) (has ys z) (sym (has-with_point x ys z) ∙ m))

rising-with_point : (x : ℕ) (ys : List ℕ) → IsStrictlyIncreasing ys → IsStrictlyIncreasing (with_point x ys)
rising-with_point x [] up = rising_cons x [] (λ z e. absurd (false≢true e)) up
rising-with_point x (y ∷ ys) up =
    cond_both (ltb x y) (x ∷ y ∷ ys) (cond (eqb x y) (y ∷ ys) (y ∷ with_point x ys)) IsStrictlyIncreasing (λ e. rising_cons x (y ∷ ys) (with_point_below x y ys (ltb-true x y e) up) up) (λ e. cond_both (eqb x y) (y ∷ ys) (y ∷ with_point x ys) IsStrictlyIncreasing (λ _. up) (λ ne. rising_cons y (with_point x ys) (with_point_above x y ys (ltb-false x y e) (eqb-false x y ne) up) (rising-with_point x ys (rising_tail y ys up))))

pub has-union_of : (xs ys : List ℕ) (z : ℕ) → has (union_of xs ys) z ≡ (has xs z || has ys z)
has-union_of [] ys z = refl
has-union_of (x ∷ xs) ys z = let h = has-union_of xs ys z in let g = has-with_point x (union_of xs ys) z in grind (arith, nat_tests)

pub rising-union_of : (xs ys : List ℕ) → IsStrictlyIncreasing ys → IsStrictlyIncreasing (union_of xs ys)
rising-union_of [] ys up = up
rising-union_of (x ∷ xs) ys up = rising-with_point x (union_of xs ys) (rising-union_of xs ys up)

-- ---- a part of a list that passes a test

pub has-filter : (p : ℕ → Bool) (xs : List ℕ) (z : ℕ) → has (filter p xs) z ≡ (has xs z && p z)
has-filter p [] z = refl
has-filter p (x ∷ xs) z =
    let h = has-filter p xs z in
    let at : z ≡ x → p z ≡ p x = ap p in
    grind (arith, nat_tests)

pub has-meet_of : (xs ys : List ℕ) (z : ℕ) → has (meet_of xs ys) z ≡ (has xs z && has ys z)
has-meet_of xs ys = has-filter (has ys) xs

pub has-minus_of : (xs ys : List ℕ) (z : ℕ) → has (minus_of xs ys) z ≡ (has xs z && not (has ys z))
has-minus_of xs ys = has-filter (λ x. not (has ys x)) xs

pub rising-filter : (p : ℕ → Bool) (xs : List ℕ) → IsStrictlyIncreasing xs → IsStrictlyIncreasing (filter p xs)
rising-filter p xs up = IsStrictlyIncreasing-filter p xs up

-- ---- the tests for shared members and for members of another

pub meets_at : (xs ys : List ℕ) (x : ℕ) → (has xs x && has ys x) ≡ true → meets xs ys ≡ true
meets_at [] ys x h = absurd (false≢true h)
meets_at (z ∷ xs) ys x h =
    ⊎_elim (λ e. or_left (has ys z) (meets xs ys) (subst (λ v. has ys v ≡ true) e (and_parts (has (z ∷ xs) x) (has ys x) h).1)) (λ m. or_right (has ys z) (meets xs ys) (meets_at xs ys x (and_from (has xs x) (has ys x) m (and_parts (has (z ∷ xs) x) (has ys x) h).1))) (has-cons_cases x z xs (and_parts (has (z ∷ xs) x) (has ys x) h).0)

pub meets_where : (xs ys : List ℕ) → meets xs ys ≡ true → (x : ℕ) × ((has xs x && has ys x) ≡ true)
meets_where [] ys h = absurd (false≢true h)
meets_where (z ∷ xs) ys h =
    ⊎_elim (λ e. (z, and_from (has (z ∷ xs) z) (has ys z) (has_head z xs) e)) (λ m. let rest = meets_where xs ys m in let parts = and_parts (has xs rest.0) (has ys rest.0) rest.1 in (rest.0, and_from (has (z ∷ xs) rest.0) (has ys rest.0) (has_tail rest.0 z xs parts.0) parts.1)) (or_cases (has ys z) (meets xs ys) h)

pub within_each : (xs ys : List ℕ) → within xs ys ≡ true → (x : ℕ) → has xs x ≡ true → has ys x ≡ true
within_each [] ys h x m = absurd (false≢true m)
within_each (z ∷ xs) ys h x m =
    let parts = and_parts (has ys z) (within xs ys) h in
    ⊎_elim (λ e. subst (λ v. has ys v ≡ true) (sym e) parts.0) (within_each xs ys parts.1 x) (has-cons_cases x z xs m)

pub within_from_each : (xs ys : List ℕ) → ((x : ℕ) → has xs x ≡ true → has ys x ≡ true) → within xs ys ≡ true
within_from_each [] ys h = refl
within_from_each (z ∷ xs) ys h =
    and_from (has ys z) (within xs ys) (h z (has_head z xs)) (within_from_each xs ys (λ x m. h x (has_tail x z xs m)))

-- ---- the test for a member, and the fact

pub Contains-from_has : (xs : List ℕ) (x : ℕ) → has xs x ≡ true → Contains xs x
Contains-from_has [] x h = absurd (false≢true h)
Contains-from_has (y ∷ ys) x h =
    ⊎_elim (λ e. (0, omega arith, sym e)) (λ m. let rest = Contains-from_has ys x m in (suc rest.0, omega arith, rest.2)) (has-cons_cases x y ys h)

pub has-from_Contains : (xs : List ℕ) (x : ℕ) → Contains xs x → has xs x ≡ true
has-from_Contains [] x c = absurd (omega arith)
has-from_Contains (y ∷ ys) x c = found (has-from_Contains ys x) c.0 c.1 c.2
  where
    found : (Contains ys x → has ys x ≡ true) → (k : ℕ) → k < length (y ∷ ys) → get_or (y ∷ ys) k x ≡ x → has (y ∷ ys) x ≡ true
    found rest zero l e = or_left (eqb x y) (has ys x) (eq-eqb x y (sym e))
    found rest (suc k) l e = or_right (eqb x y) (has ys x) (rest (k, omega arith, e))

pub has_decides : (xs : List ℕ) (x : ℕ) → Decides (has xs x) (Contains xs x)
has_decides xs x = (Contains-from_has xs x, has-from_Contains xs x)

-- ---- lists joined, and numbers counted

pub has-append : (xs ys : List ℕ) (z : ℕ) → has (xs ++ ys) z ≡ (has xs z || has ys z)
has-append [] ys z = refl
has-append (x ∷ xs) ys z = let h = has-append xs ys z in grind (arith, nat_tests)

pub has-counted_from : (first n z : ℕ) → has (counted_from first n) z ≡ (leb first z && ltb z (first + n))
has-counted_from first zero z = grind (arith, nat_tests)
has-counted_from first (suc n) z = let h = has-counted_from (suc first) n z in grind (arith, nat_tests)

pub length-counted_from : (first n : ℕ) → length (counted_from first n) ≡ n
length-counted_from first zero = refl
length-counted_from first (suc n) = ap suc (length-counted_from (suc first) n)

pub get_or-counted_from : (first n k d : ℕ) → k < n → get_or (counted_from first n) k d ≡ first + k
get_or-counted_from first zero k d l = absurd (omega arith)
get_or-counted_from first (suc n) zero d l = omega arith
get_or-counted_from first (suc n) (suc k) d l =
    get_or-counted_from (suc first) n k d (omega arith) ∙ omega arith

pub counted_from-+ : (first m n : ℕ) → counted_from first (m + n) ≡ counted_from first m ++ counted_from (first + m) n
counted_from-+ first zero n = let e : 0 + n ≡ n = omega arith in let g : first + 0 ≡ first = omega arith in rw (e, g) refl
counted_from-+ first (suc m) n =
    let e : suc m + n ≡ suc (m + n) = omega arith in
    let g : first + suc m ≡ suc first + m = omega arith in
    rw (e, g) (ap (λ l. first ∷ l) (counted_from-+ (suc first) m n))

pub rising-counted_from : (first n : ℕ) → IsStrictlyIncreasing (counted_from first n)
rising-counted_from first zero = λ k l. absurd (omega arith)
rising-counted_from first (suc n) =
    rising_cons first (counted_from (suc first) n) (λ z m. counted_above z m) (rising-counted_from (suc first) n)
  where
    counted_above : (z : ℕ) → has (counted_from (suc first) n) z ≡ true → first < z
    counted_above z m = let h = has-counted_from (suc first) n z in grind (arith, nat_tests)

-- what is joined at a number that parts the two lists is rising
pub rising-append : (cut : ℕ) (xs ys : List ℕ) → Each (λ x. x < cut) xs → Each (λ y. cut ≤ y) ys → IsStrictlyIncreasing xs → IsStrictlyIncreasing ys → IsStrictlyIncreasing (xs ++ ys)
rising-append cut [] ys low high up up' = up'
rising-append cut (x ∷ xs) ys low high up up' =
    rising_cons x (xs ++ ys) (λ z m. ⊎_elim (rising_head x xs up z) (λ h. later z h) (or_cases (has xs z) (has ys z) (sym (has-append xs ys z) ∙ m))) (rising-append cut xs ys (λ z m. low z (has_tail z x xs m)) high (rising_tail x xs up) up')
  where
    later : (z : ℕ) → has ys z ≡ true → x < z
    later z h = let a : cut ≤ z = high z h in let b : x < cut = low x (has_head x xs) in omega arith

-- ---- the place of a member

pub position_absent : (x i : ℕ) (xs : List ℕ) → has xs x ≡ false → position_from (λ y. eqb y x) i xs ≡ None
position_absent x i [] h = refl
position_absent x i (y ∷ ys) h =
    let parts = or_parts (eqb x y) (has ys x) h in
    let other : eqb y x ≡ false = ne_eqb y x (λ e. eqb-false x y parts.0 (sym e)) in
    cond-false (eqb y x) (Some i) (position_from (λ z. eqb z x) (i + 1) ys) other ∙ position_absent x (i + 1) ys parts.1

pub position_at : (i : ℕ) (xs : List ℕ) (k x : ℕ) → IsStrictlyIncreasing xs → k < length xs → get_or xs k 0 ≡ x → position_from (λ y. eqb y x) i xs ≡ Some (i + k)
position_at i [] k x up l e = absurd (omega arith)
position_at i (y ∷ ys) zero x up l e =
    cond-true (eqb y x) (Some i) (position_from (λ z. eqb z x) (i + 1) ys) (eq-eqb y x e) ∙ ap Some (omega arith)
position_at i (y ∷ ys) (suc k) x up l e =
    let l' : k < length ys = omega arith in
    let there : has ys x ≡ true = subst (λ v. has ys v ≡ true) e (has_get_or ys k l') in
    let above : y < x = rising_head y ys up x there in
    cond-false (eqb y x) (Some i) (position_from (λ z. eqb z x) (i + 1) ys) (ne_eqb y x (λ q. omega arith)) ∙ position_at (i + 1) ys k x (rising_tail y ys up) l' e ∙ ap Some (omega arith)

-- the points before a place are below the one that stands there
pub take_below : (xs : List ℕ) (i : ℕ) → IsStrictlyIncreasing xs → i < length xs → All (λ x. x < get_or xs i 0) (take i xs)
take_below xs i up l k d m =
    let under : k < i = omega (arith, length-take-le i xs (omega arith)) in
    rw (get_or-take i xs k d under, get_or_default xs i 0 d l) (AllPairs-from_increasing xs up k i d under l)

-- a test that finds what is in both, or misses it
pub meets_is : (r : Bool) (xs ys : List ℕ) → (r ≡ true → (z : ℕ) × ((has xs z && has ys z) ≡ true)) → (r ≡ false → (z : ℕ) → (has xs z && has ys z) ≡ false) → r ≡ meets xs ys
meets_is true xs ys some none = let z = some refl in sym (meets_at xs ys z.0 z.1)
meets_is false xs ys some none =
    ⊎_elim (λ e. let z = meets_where xs ys e in absurd (false≢true (sym (none refl z.0) ∙ z.1))) (λ e. sym e) (cases_Bool (meets xs ys))

-- a test that finds what is in the first alone, or misses it
pub within_is : (r : Bool) (xs ys : List ℕ) → (r ≡ true → (z : ℕ) × ((has xs z && not (has ys z)) ≡ true)) → (r ≡ false → (z : ℕ) → (has xs z && not (has ys z)) ≡ false) → not r ≡ within xs ys
within_is true xs ys some none =
    let z = some refl in
    let parts = and_parts (has xs z.0) (not (has ys z.0)) z.1 in
    ⊎_elim (λ e. absurd (both_ways (has ys z.0) (not-true (has ys z.0) parts.1) (within_each xs ys e z.0 parts.0))) (λ e. sym e) (cases_Bool (within xs ys))
within_is false xs ys some none =
    sym (within_from_each xs ys (λ z m. not-false (has ys z) (sym (ap (λ b. b && not (has ys z)) m) ∙ none refl z)))
