-- Marks beside points, and how many of each there are.
use Rattle.std.proofs.Common.{◌≡◌, ◌≢◌, ◌∙◌, ◌≤◌, ◌<◌, ◌+◌, ◌++◌, ◌==◌, Bool, true, false, cond, List, [], ◌∷◌, Some, ap, arith, drop, eq-eqb, get_or, length, refl, subst, suc, sym, take, zero, ℕ, ◌⊎◌, inl, inr, ⊎_elim}
use Rattle.std.specs.Prelude.{Contains, replicate, slice_get, slice_set}
use Rattle.std.specs.List.Sorted.{IsStrictlyIncreasing}
use Rattle.std.proofs.lemmas.Bool.{cases_Bool, false≢true, eqb-true, eqb-false, ne_eqb}
use Rattle.std.proofs.lemmas.Option.{get_or_from_slice_get, slice_get_within}
use Rattle.std.proofs.lemmas.List.{drop_all, drop_more, get_or-set_other, get_or-set_same, length-set}
use Rattle.plain_values.specs.Points.{has}
use Rattle.point_sets.proofs.Rising.{Contains-from_has, absent, has_head, has_other, has_tail, rising_head, rising_tail}
use Rattle.physical_instances.specs.Instances.{AreCounts, count_of, marked}

-- ---- lists of points

pub next_of : {A : Type 0} (xs : List A) (place : ℕ) (x : A) → slice_get xs place ≡ Some x → drop place xs ≡ x ∷ drop (place + 1) xs
next_of xs place x e = drop_more xs place x (slice_get_within xs place x e) ∙ ap (λ y. y ∷ drop (place + 1) xs) (get_or_from_slice_get xs place x x e)

pub has_at : (xs : List ℕ) (k x : ℕ) → slice_get xs k ≡ Some x → has xs x ≡ true
has_at [] k x e = absurd cc
has_at (y ∷ ys) zero x e = let same : y ≡ x = search (e) in ap (λ z. has (z ∷ ys) x) same ∙ has_head x ys
has_at (y ∷ ys) (suc k) x e = has_tail x y ys (has_at ys k x e)

pub lacks : (xs : List ℕ) (x : ℕ) → ¬ Contains xs x → has xs x ≡ false
lacks xs x n = by_case (cases_Bool (has xs x))
  where
    by_case : (has xs x ≡ true) ⊎ (has xs x ≡ false) → has xs x ≡ false
    by_case (inl e) = absurd (n (Contains-from_has xs x e))
    by_case (inr e) = e

-- what is written over all items of a vector stands there
pub stored : {A : Type 0} (n : ℕ) (new old is : List A) → length old ≡ n → length is ≡ length old → new ≡ is →
    take n (new ++ drop (length new) old) ≡ is
stored n new old is e l same = ap (λ (k : ℕ). take k (new ++ drop (length new) old)) (omega (arith, e, l, ap length same)) ∙ seam new (drop (length new) old) ∙ same
  where
    seam : {A : Type 0} (xs ys : List A) → take (length xs) (xs ++ ys) ≡ xs
    seam [] ys = refl
    seam (x ∷ xs) ys = ap (λ zs. x ∷ zs) (seam xs ys)

-- ---- marks

pub marked_nothing : (w : ℕ) (ps vs : List ℕ) → marked w [] ps vs ≡ vs
marked_nothing w [] vs = refl
marked_nothing w (p ∷ ps) [] = refl
marked_nothing w (p ∷ ps) (v ∷ vs) = ap (λ ws. v ∷ ws) (marked_nothing w ps vs)

pub length_marked : (w : ℕ) (xs ps vs : List ℕ) → length (marked w xs ps vs) ≡ length vs
length_marked w xs [] vs = refl
length_marked w xs (p ∷ ps) [] = refl
length_marked w xs (p ∷ ps) (v ∷ vs) = ap suc (length_marked w xs ps vs)

-- a point that the root lacks marks nothing
pub marked_lacked : (w x : ℕ) (xs ps vs : List ℕ) → has ps x ≡ false → marked w (x ∷ xs) ps vs ≡ marked w xs ps vs
marked_lacked w x xs [] vs l = refl
marked_lacked w x xs (p ∷ ps) [] l = refl
marked_lacked w x xs (p ∷ ps) (v ∷ vs) l =
    let other : p ≢ x = λ e. false≢true (sym l ∙ ap (λ q. has (q ∷ ps) x) e ∙ has_head x ps) in
    ap (λ b. cond b w v ∷ marked w (x ∷ xs) ps vs) (has_other p x xs other) ∙
    ap (λ ws. cond (has xs p) w v ∷ ws) (marked_lacked w x xs ps vs (sym (has_other x p ps (λ e. other (sym e))) ∙ l))

-- a point of the root is marked, and then the others
pub marked_next : (w x : ℕ) (xs ps vs : List ℕ) (i : ℕ) → IsStrictlyIncreasing ps → slice_get ps i ≡ Some x → i < length vs →
    marked w (x ∷ xs) ps vs ≡ marked w xs ps (slice_set vs i w)
marked_next w x xs [] vs i r at l = absurd cc
marked_next w x xs (p ∷ ps) [] i r at l = absurd (omega (arith, l))
marked_next w x xs (p ∷ ps) (v ∷ vs) zero r at l =
    let e : p ≡ x = search (at) in
    let here : has (x ∷ xs) p ≡ true = ap (has (x ∷ xs)) e ∙ has_head x xs in
    ap (λ b. cond b w v ∷ marked w (x ∷ xs) ps vs) here ∙
    ap (λ ws. w ∷ ws) (marked_lacked w x xs ps vs (absent p ps (rising_head p ps r) x (omega (arith, e)))) ∙
    ap (λ u. u ∷ marked w xs ps vs) (same (has xs p))
  where
    same : (b : Bool) → w ≡ cond b w w
    same true = refl
    same false = refl
marked_next w x xs (p ∷ ps) (v ∷ vs) (suc i) r at l =
    let other : p ≢ x = λ e. false≢true (sym (absent p ps (rising_head p ps r) x (omega (arith, e))) ∙ has_at ps i x at) in
    ap (λ b. cond b w v ∷ marked w (x ∷ xs) ps vs) (has_other p x xs other) ∙
    ap (λ ws. cond (has xs p) w v ∷ ws) (marked_next w x xs ps vs i (rising_tail p ps r) at (omega (arith, l)))

-- ---- counts

pub one_is_there : (vs : List ℕ) (i d : ℕ) → i < length vs → 0 < count_of (get_or vs i d) vs
one_is_there [] i d l = absurd (omega (arith, l))
one_is_there (v ∷ vs) zero d l = by_case (v == v) (eq_self v)
  where
    eq_self : (n : ℕ) → (n == n) ≡ true
    eq_self n = eq-eqb n n refl

    by_case : (b : Bool) → b ≡ true → 0 < cond b (suc (count_of v vs)) (count_of v vs)
    by_case true e = omega arith
    by_case false e = absurd cc
one_is_there (v ∷ vs) (suc i) d l = by_case (v == get_or vs i d) (one_is_there vs i d (omega (arith, l)))
  where
    by_case : (b : Bool) → 0 < count_of (get_or vs i d) vs → 0 < cond b (suc (count_of (get_or vs i d) vs)) (count_of (get_or vs i d) vs)
    by_case true h = omega arith
    by_case false h = h

pub count_bounded : (v : ℕ) (vs : List ℕ) → count_of v vs ≤ length vs
count_bounded v [] = omega arith
count_bounded v (w ∷ ws) = by_case (w == v) (count_bounded v ws)
  where
    by_case : (b : Bool) → count_of v ws ≤ length ws → cond b (suc (count_of v ws)) (count_of v ws) ≤ suc (length ws)
    by_case true h = omega (arith, h)
    by_case false h = omega (arith, h)

-- one mark is replaced
pub count_set : (v w d : ℕ) (vs : List ℕ) (i : ℕ) → i < length vs →
    count_of v (slice_set vs i w) + cond (get_or vs i d == v) 1 0 ≡ count_of v vs + cond (w == v) 1 0
count_set v w d [] i l = absurd (omega (arith, l))
count_set v w d (u ∷ vs) zero l = by_case (w == v) (u == v)
  where
    by_case : (a b : Bool) → cond a (suc (count_of v vs)) (count_of v vs) + cond b 1 0 ≡ cond b (suc (count_of v vs)) (count_of v vs) + cond a 1 0
    by_case true true = refl
    by_case true false = omega arith
    by_case false true = omega arith
    by_case false false = refl
count_set v w d (u ∷ vs) (suc i) l = by_case (u == v) (count_set v w d vs i (omega (arith, l)))
  where
    by_case : (b : Bool) → count_of v (slice_set vs i w) + cond (get_or vs i d == v) 1 0 ≡ count_of v vs + cond (w == v) 1 0 →
        cond b (suc (count_of v (slice_set vs i w))) (count_of v (slice_set vs i w)) + cond (get_or vs i d == v) 1 0
        ≡ cond b (suc (count_of v vs)) (count_of v vs) + cond (w == v) 1 0
    by_case true h = omega (arith, h)
    by_case false h = h

-- where one is taken from the old mark's count and added to the new one's, they count again
module _ (counts vs : List ℕ) (i w x y : ℕ) (l : i < length vs) (k : w < length counts) (a : AreCounts counts vs) where
  old_below : get_or vs i 0 < length counts
  old_below = chosen (inside counts (get_or vs i 0))
    where
      inside : (cs : List ℕ) (n : ℕ) → (n < length cs) ⊎ (get_or cs n 0 ≡ 0)
      inside [] n = inr refl
      inside (c ∷ cs) zero = inl (omega arith)
      inside (c ∷ cs) (suc n) = ⊎_elim (λ h. inl (omega (arith, h))) (λ h. inr h) (inside cs n)

      chosen : (get_or vs i 0 < length counts) ⊎ (get_or counts (get_or vs i 0) 0 ≡ 0) → get_or vs i 0 < length counts
      chosen (inl h) = h
      chosen (inr h) = absurd (omega (arith, h, a (get_or vs i 0), one_is_there vs i 0 l))

  pub old_is_counted : 0 < get_or counts (get_or vs i 0) 0
  old_is_counted = omega (arith, a (get_or vs i 0), one_is_there vs i 0 l)

  pub old_inside : get_or vs i 0 < length counts
  old_inside = old_below

  pub counts_again : x + 1 ≡ get_or counts (get_or vs i 0) 0 → y ≡ get_or (slice_set counts (get_or vs i 0) x) w 0 + 1 →
      AreCounts (slice_set (slice_set counts (get_or vs i 0) x) w y) (slice_set vs i w)
  counts_again ex ey v = by_case (cases_Bool (w == v)) (cases_Bool (get_or vs i 0 == v))
    where
      by_case : ((w == v) ≡ true) ⊎ ((w == v) ≡ false) → ((get_or vs i 0 == v) ≡ true) ⊎ ((get_or vs i 0 == v) ≡ false) →
          get_or (slice_set (slice_set counts (get_or vs i 0) x) w y) v 0 ≡ count_of v (slice_set vs i w)
      by_case (inl e) (inl f) =
          let is = eqb-true w v e in
          let was = eqb-true (get_or vs i 0) v f in
          let sum = count_set v w 0 vs i l in
          let put : get_or (slice_set (slice_set counts (get_or vs i 0) x) w y) v 0 ≡ y =
          ap (λ n. get_or (slice_set (slice_set counts (get_or vs i 0) x) w y) n 0) (sym is)
          ∙ get_or-set_same (slice_set counts (get_or vs i 0) x) w y 0 (subst (λ n. w < n) (sym (length-set counts (get_or vs i 0) x)) k) in
          let mid : get_or (slice_set counts (get_or vs i 0) x) w 0 ≡ x =
          ap (λ n. get_or (slice_set counts (get_or vs i 0) x) n 0) (is ∙ sym was) ∙ get_or-set_same counts (get_or vs i 0) x 0 old_below in
          let one : ◌≡◌ {A = ℕ} (cond (w == v) 1 0) 1 = ap (λ b. cond b 1 0) e in
          let other : ◌≡◌ {A = ℕ} (cond (get_or vs i 0 == v) 1 0) 1 = ap (λ b. cond b 1 0) f in
          let had : get_or counts (get_or vs i 0) 0 ≡ count_of v vs = a (get_or vs i 0) ∙ ap (λ n. count_of n vs) was in
          omega (arith, put, mid, one, other, had, sum, ex, ey)
      by_case (inl e) (inr f) =
          let is = eqb-true w v e in
          let sum = count_set v w 0 vs i l in
          let put : get_or (slice_set (slice_set counts (get_or vs i 0) x) w y) v 0 ≡ y =
          ap (λ n. get_or (slice_set (slice_set counts (get_or vs i 0) x) w y) n 0) (sym is)
          ∙ get_or-set_same (slice_set counts (get_or vs i 0) x) w y 0 (subst (λ n. w < n) (sym (length-set counts (get_or vs i 0) x)) k) in
          let mid : get_or (slice_set counts (get_or vs i 0) x) w 0 ≡ get_or counts w 0 =
          get_or-set_other counts (get_or vs i 0) w x 0 (λ q. eqb-false (get_or vs i 0) v f (sym q ∙ is)) in
          let one : ◌≡◌ {A = ℕ} (cond (w == v) 1 0) 1 = ap (λ b. cond b 1 0) e in
          let other : ◌≡◌ {A = ℕ} (cond (get_or vs i 0 == v) 1 0) 0 = ap (λ b. cond b 1 0) f in
          let had : get_or counts w 0 ≡ count_of v vs = a w ∙ ap (λ n. count_of n vs) is in
          omega (arith, put, mid, one, other, had, sum, ey)
      by_case (inr e) (inl f) =
          let was = eqb-true (get_or vs i 0) v f in
          let sum = count_set v w 0 vs i l in
          let put : get_or (slice_set (slice_set counts (get_or vs i 0) x) w y) v 0 ≡ get_or (slice_set counts (get_or vs i 0) x) v 0 =
          get_or-set_other (slice_set counts (get_or vs i 0) x) w v y 0 (λ q. eqb-false w v e (sym q)) in
          let mid : get_or (slice_set counts (get_or vs i 0) x) v 0 ≡ x =
          ap (λ n. get_or (slice_set counts (get_or vs i 0) x) n 0) (sym was) ∙ get_or-set_same counts (get_or vs i 0) x 0 old_below in
          let one : ◌≡◌ {A = ℕ} (cond (w == v) 1 0) 0 = ap (λ b. cond b 1 0) e in
          let other : ◌≡◌ {A = ℕ} (cond (get_or vs i 0 == v) 1 0) 1 = ap (λ b. cond b 1 0) f in
          let had : get_or counts (get_or vs i 0) 0 ≡ count_of v vs = a (get_or vs i 0) ∙ ap (λ n. count_of n vs) was in
          omega (arith, put, mid, one, other, had, sum, ex)
      by_case (inr e) (inr f) =
          let sum = count_set v w 0 vs i l in
          let put : get_or (slice_set (slice_set counts (get_or vs i 0) x) w y) v 0 ≡ get_or (slice_set counts (get_or vs i 0) x) v 0 =
          get_or-set_other (slice_set counts (get_or vs i 0) x) w v y 0 (λ q. eqb-false w v e (sym q)) in
          let mid : get_or (slice_set counts (get_or vs i 0) x) v 0 ≡ get_or counts v 0 =
          get_or-set_other counts (get_or vs i 0) v x 0 (λ q. eqb-false (get_or vs i 0) v f (sym q)) in
          let one : ◌≡◌ {A = ℕ} (cond (w == v) 1 0) 0 = ap (λ b. cond b 1 0) e in
          let other : ◌≡◌ {A = ℕ} (cond (get_or vs i 0 == v) 1 0) 0 = ap (λ b. cond b 1 0) f in
          let had : get_or counts v 0 ≡ count_of v vs = a v in
          omega (arith, put, mid, one, other, had, sum)

  -- the new one's count is no more than there are marks
  pub new_count_fits : x + 1 ≡ get_or counts (get_or vs i 0) 0 → get_or (slice_set counts (get_or vs i 0) x) w 0 < length vs
  new_count_fits ex = by_case (cases_Bool (get_or vs i 0 == w))
    where
      by_case : ((get_or vs i 0 == w) ≡ true) ⊎ ((get_or vs i 0 == w) ≡ false) → get_or (slice_set counts (get_or vs i 0) x) w 0 < length vs
      by_case (inl f) =
          let mid : get_or (slice_set counts (get_or vs i 0) x) w 0 ≡ x =
          ap (λ n. get_or (slice_set counts (get_or vs i 0) x) n 0) (sym (eqb-true (get_or vs i 0) w f)) ∙ get_or-set_same counts (get_or vs i 0) x 0 old_below in
          omega (arith, mid, ex, a (get_or vs i 0), count_bounded (get_or vs i 0) vs)
      by_case (inr f) =
          let mid : get_or (slice_set counts (get_or vs i 0) x) w 0 ≡ get_or counts w 0 =
          get_or-set_other counts (get_or vs i 0) w x 0 (λ q. eqb-false (get_or vs i 0) w f (sym q)) in
          let sum = count_set w w 0 vs i l in
          let one : ◌≡◌ {A = ℕ} (cond (w == w) 1 0) 1 = ap (λ b. cond b 1 0) (eq-eqb w w refl) in
          let other : ◌≡◌ {A = ℕ} (cond (get_or vs i 0 == w) 1 0) 0 = ap (λ b. cond b 1 0) f in
          omega (arith, mid, a w, sum, one, other, count_bounded w (slice_set vs i w), length-set vs i w)

-- one mark alone
count_none : (v n : ℕ) → count_of (suc v) (replicate n 0) ≡ 0
count_none v zero = refl
count_none v (suc n) = ap (λ b. cond b (suc (count_of (suc v) (replicate n 0))) (count_of (suc v) (replicate n 0))) (ne_eqb 0 (suc v) (λ e. absurd cc)) ∙ count_none v n

count_all : (n : ℕ) → count_of 0 (replicate n 0) ≡ n
count_all zero = refl
count_all (suc n) = ap suc (count_all n)

pub first_counts : (n k : ℕ) → AreCounts (slice_set (replicate (suc k) 0) 0 n) (replicate n 0)
first_counts n k zero = sym (count_all n)
first_counts n k (suc v) = none k v ∙ sym (count_none v n)
  where
    none : (j u : ℕ) → ◌≡◌ {A = ℕ} (get_or (replicate j 0) u 0) 0
    none zero u = refl
    none (suc j) zero = refl
    none (suc j) (suc u) = none j u

-- ---- one point more

-- a point that the root has
pub mark_found : (w : ℕ) (xs ps : List ℕ) (place point i : ℕ) (now new all : List ℕ) → slice_get xs place ≡ Some point →
    IsStrictlyIncreasing ps → slice_get ps i ≡ Some point → i < length now → new ≡ slice_set now i w →
    marked w (drop place xs) ps now ≡ all → marked w (drop (place + 1) xs) ps new ≡ all
mark_found w xs ps place point i now new all at r found l is done =
    ap (marked w (drop (place + 1) xs) ps) is ∙ sym (marked_next w point (drop (place + 1) xs) ps now i r found l) ∙
    ap (λ ys. marked w ys ps now) (sym (next_of xs place point at)) ∙ done

-- one that it lacks
pub mark_lacked : (w : ℕ) (xs ps : List ℕ) (place point : ℕ) (now new all : List ℕ) → slice_get xs place ≡ Some point →
    ¬ Contains ps point → new ≡ now → marked w (drop place xs) ps now ≡ all → marked w (drop (place + 1) xs) ps new ≡ all
mark_lacked w xs ps place point now new all at lack is done =
    ap (marked w (drop (place + 1) xs) ps) is ∙ sym (marked_lacked w point (drop (place + 1) xs) ps now (lacks ps point lack)) ∙
    ap (λ ys. marked w ys ps now) (sym (next_of xs place point at)) ∙ done

-- none is left
pub mark_end : (w : ℕ) (xs ps : List ℕ) (place : ℕ) (now all : List ℕ) → length xs ≤ place →
    marked w (drop place xs) ps now ≡ all → now ≡ all
mark_end w xs ps place now all l done =
    sym (marked_nothing w ps now) ∙ ap (λ ys. marked w ys ps now) (sym (drop_all place xs l)) ∙ done

-- a count of nothing tells that none is marked so
pub free_is_unmarked : (counts vs : List ℕ) (w : ℕ) → AreCounts counts vs → w < length counts → get_or counts w 1 ≡ 0 → count_of w vs ≡ 0
free_is_unmarked counts vs w a l e = sym (a w) ∙ same counts w l e
  where
    same : (cs : List ℕ) (k : ℕ) → k < length cs → ◌≡◌ {A = ℕ} (get_or cs k 1) 0 → ◌≡◌ {A = ℕ} (get_or cs k 0) 0
    same [] k h q = absurd (omega (arith, h))
    same (c ∷ cs) zero h q = q
    same (c ∷ cs) (suc k) h q = same cs k (omega (arith, h)) q
