-- Current numbers beside points.
use Rattle.std.proofs.Common.{◌≡◌, ◌≢◌, ◌∙◌, ◌≤◌, ◌<◌, ◌+◌, ◌-◌, ◌==◌, ◌++◌, Bool, true, false, cond, List, [], ◌∷◌, None, Option, Some, ap, arith, drop, eq-eqb, get_or, length, pos, refl, subst, suc, sym, take, zero, ℕ, ℤ, ◌⊎◌, inl, inr}
use Rattle.std.specs.Prelude.{Contains, nat_lt, replicate, slice_get, slice_set, unwrap_or}
use Rattle.std.specs.List.Sorted.{IsStrictlyIncreasing}
use Rattle.std.proofs.lemmas.Bool.{cases_Bool, false≢true, lt-ltb, ne_eqb}
use Rattle.std.proofs.lemmas.List.{drop_all, get_or-set_other, get_or-set_same, take_all}
use Rattle.plain_values.specs.Points.{has}
use Rattle.point_sets.proofs.Rising.{absent, has_head, has_other, rising_head, rising_tail}
use Rattle.region_tree.specs.Pieces.{Held}
use Rattle.logical_map.specs.Maps.{number_beside}
use Rattle.logical_map.proofs.Beside.{beside_more}
use Rattle.logical_map.proofs.Reading.{lacked}
use Rattle.physical_instances.proofs.Marking.{has_at, lacks, next_of}
use Rattle.physical_instances.specs.Instances.{AreCounts, count_of, current, current_beside, marked, number_held, trimmed, written}

-- ---- one number

pub held_none : (h : Held) (p : ℕ) (z : ℤ) → has h.points p ≡ false → number_held (Some h) p z ≡ z
held_none h p z l = ap (λ o. unwrap_or o z) (lacked h.points h.values p l)

-- a point of a piece has a number, whatever stood there
pub held_same : (xs : List ℕ) (vs : List ℤ) (p : ℕ) (y z : ℤ) → length xs ≡ length vs → has xs p ≡ true →
    unwrap_or (number_beside xs vs p) y ≡ unwrap_or (number_beside xs vs p) z
held_same [] vs p y z l h = absurd cc
held_same (x ∷ xs) [] p y z l h = absurd (omega (arith, l))
held_same (x ∷ xs) (v ∷ vs) p y z l h =
    ap (λ o. unwrap_or o y) (beside_more x p xs v vs) ∙
    by_case (cases_Bool (x == p)) (λ k. held_same xs vs p y z (omega (arith, l)) k) ∙
    sym (ap (λ o. unwrap_or o z) (beside_more x p xs v vs))
  where
    by_case : ((x == p) ≡ true) ⊎ ((x == p) ≡ false) →
        (has xs p ≡ true → unwrap_or (number_beside xs vs p) y ≡ unwrap_or (number_beside xs vs p) z) →
        unwrap_or (cond (x == p) (Some v) (number_beside xs vs p)) y ≡ unwrap_or (cond (x == p) (Some v) (number_beside xs vs p)) z
    by_case (inl e) rest = ap (λ b. unwrap_or (cond b (Some v) (number_beside xs vs p)) y) e ∙ sym (ap (λ b. unwrap_or (cond b (Some v) (number_beside xs vs p)) z) e)
    by_case (inr e) rest = ap (λ b. unwrap_or (cond b (Some v) (number_beside xs vs p)) y) e
        ∙ rest (sym (has_other p x xs (λ q. false≢true (sym e ∙ eq-eqb x p (sym q)))) ∙ h)
        ∙ sym (ap (λ b. unwrap_or (cond b (Some v) (number_beside xs vs p)) z) e)

-- ---- a piece that is written

pub written_nothing : (h : Held) (ps : List ℕ) (zs : List ℤ) → h.points ≡ [] → written h ps zs ≡ zs
written_nothing h [] zs e = refl
written_nothing h (p ∷ ps) [] e = refl
written_nothing h (p ∷ ps) (z ∷ zs) e =
    ap (λ y. y ∷ written h ps zs) (held_none h p z (ap (λ xs. has xs p) e)) ∙ ap (λ ys. z ∷ ys) (written_nothing h ps zs e)

pub length_written : (h : Held) (ps : List ℕ) (zs : List ℤ) → length (written h ps zs) ≡ length zs
length_written h [] zs = refl
length_written h (p ∷ ps) [] = refl
length_written h (p ∷ ps) (z ∷ zs) = ap suc (length_written h ps zs)

module _ (h g : Held) (x : ℕ) (v : ℤ) (is : h.points ≡ x ∷ g.points) (values : h.values ≡ v ∷ g.values) where
  held_now : (p : ℕ) (z : ℤ) → number_held (Some h) p z ≡ unwrap_or (cond (x == p) (Some v) (number_beside g.points g.values p)) z
  held_now p z = ap (λ xs. unwrap_or (number_beside xs h.values p) z) is ∙ ap (λ vs. unwrap_or (number_beside (x ∷ g.points) vs p) z) values
      ∙ ap (λ o. unwrap_or o z) (beside_more x p g.points v g.values)

  held_here : (p : ℕ) (z : ℤ) → p ≡ x → number_held (Some h) p z ≡ v
  held_here p z e = held_now p z ∙ ap (λ b. unwrap_or (cond b (Some v) (number_beside g.points g.values p)) z) (eq-eqb x p (sym e))

  held_there : (p : ℕ) (z : ℤ) → p ≢ x → number_held (Some h) p z ≡ number_held (Some g) p z
  held_there p z e = held_now p z ∙ ap (λ b. unwrap_or (cond b (Some v) (number_beside g.points g.values p)) z) (ne_eqb x p (λ q. e (sym q)))

  -- a point that the root lacks gets nothing
  pub written_lacked : (ps : List ℕ) (zs : List ℤ) → has ps x ≡ false → written h ps zs ≡ written g ps zs
  written_lacked [] zs l = refl
  written_lacked (p ∷ ps) [] l = refl
  written_lacked (p ∷ ps) (z ∷ zs) l =
      let other : p ≢ x = λ e. false≢true (sym l ∙ ap (λ q. has (q ∷ ps) x) e ∙ has_head x ps) in
      ap (λ y. y ∷ written h ps zs) (held_there p z other) ∙
      ap (λ ys. number_held (Some g) p z ∷ ys) (written_lacked ps zs (sym (has_other x p ps (λ e. other (sym e))) ∙ l))

  -- a point of the root gets its number, and then the others
  pub written_next : (ps : List ℕ) (zs : List ℤ) (i : ℕ) → has g.points x ≡ false → IsStrictlyIncreasing ps → slice_get ps i ≡ Some x →
      written h ps zs ≡ written g ps (slice_set zs i v)
  written_next [] zs i a r at = absurd cc
  written_next (p ∷ ps) [] i a r at = refl
  written_next (p ∷ ps) (z ∷ zs) zero a r at =
      let e : p ≡ x = search (at) in
      ap (λ y. y ∷ written h ps zs) (held_here p z e ∙ sym (held_none g p v (ap (has g.points) e ∙ a))) ∙
      ap (λ ys. number_held (Some g) p v ∷ ys) (written_lacked ps zs (absent p ps (rising_head p ps r) x (omega (arith, e))))
  written_next (p ∷ ps) (z ∷ zs) (suc i) a r at =
      let other : p ≢ x = λ e. false≢true (sym (absent p ps (rising_head p ps r) x (omega (arith, e))) ∙ has_at ps i x at) in
      ap (λ y. y ∷ written h ps zs) (held_there p z other) ∙
      ap (λ ys. number_held (Some g) p z ∷ ys) (written_next ps zs i a (rising_tail p ps r) at)

-- ---- one point more of a piece

abbrev rest_of : Held → ℕ → Held
rest_of h place = record { points = drop place h.points; mode = h.mode; values = drop place h.values }

-- a point that the root has
pub write_found : (h : Held) (ps : List ℕ) (place point i : ℕ) (value : ℤ) (now new all : List ℤ) → IsStrictlyIncreasing h.points →
    slice_get h.points place ≡ Some point → slice_get h.values place ≡ Some value → IsStrictlyIncreasing ps →
    slice_get ps i ≡ Some point → new ≡ slice_set now i value →
    written (rest_of h place) ps now ≡ all → written (rest_of h (place + 1)) ps new ≡ all
write_found h ps place point i value now new all rise at there r found is done =
    let points = next_of h.points place point at in
    let behind : has (drop (place + 1) h.points) point ≡ false =
    absent point (drop (place + 1) h.points) (rising_head point _ (subst IsStrictlyIncreasing points (rising_drop place h.points rise))) point (omega arith) in
    ap (written (rest_of h (place + 1)) ps) is ∙
    sym (written_next (rest_of h place) (rest_of h (place + 1)) point value points (next_of h.values place value there) ps now i behind r found) ∙ done
  where
    rising_drop : (k : ℕ) (xs : List ℕ) → IsStrictlyIncreasing xs → IsStrictlyIncreasing (drop k xs)
    rising_drop zero xs r = r
    rising_drop (suc k) [] r = r
    rising_drop (suc k) (x ∷ xs) r = rising_drop k xs (rising_tail x xs r)

-- one that it lacks
pub write_lacked : (h : Held) (ps : List ℕ) (place point : ℕ) (value : ℤ) (now new all : List ℤ) →
    slice_get h.points place ≡ Some point → slice_get h.values place ≡ Some value → ¬ Contains ps point → new ≡ now →
    written (rest_of h place) ps now ≡ all → written (rest_of h (place + 1)) ps new ≡ all
write_lacked h ps place point value now new all at there lack is done =
    ap (written (rest_of h (place + 1)) ps) is ∙
    sym (written_lacked (rest_of h place) (rest_of h (place + 1)) point value (next_of h.points place point at) (next_of h.values place value there) ps now (lacks ps point lack)) ∙
    done

-- none is left
pub write_end : (h : Held) (ps : List ℕ) (place : ℕ) (now all : List ℤ) → length h.points ≤ place →
    written (rest_of h place) ps now ≡ all → now ≡ all
write_end h ps place now all l done = sym (written_nothing (rest_of h place) ps now (drop_all place h.points l)) ∙ done

-- ---- a piece that comes back

-- none is marked so
abbrev pub Unmarked : ℕ → List ℕ → Type 0
Unmarked w vs = count_of w vs ≡ 0

head_other : (w v : ℕ) (vs : List ℕ) → Unmarked w (v ∷ vs) → (v ≢ w) × Unmarked w vs
head_other w v vs u = by_case (cases_Bool (v == w))
  where
    by_case : ((v == w) ≡ true) ⊎ ((v == w) ≡ false) → (v ≢ w) × Unmarked w vs
    by_case (inl e) = absurd (omega (arith, u, ap (λ b. cond b (suc (count_of w vs)) (count_of w vs)) e))
    by_case (inr e) = (λ q. false≢true (sym e ∙ eq-eqb v w q), sym (ap (λ b. cond b (suc (count_of w vs)) (count_of w vs)) e) ∙ u)

-- what another further place holds doesn't matter
pub current_other : (fs : List (Option Held)) (k v p : ℕ) (o : Option Held) (z : ℤ) → v ≢ suc k →
    current (slice_set fs k o) v p z ≡ current fs v p z
current_other fs k zero p o z d = refl
current_other fs k (suc j) p o z d = ap (λ h. number_held h p z) (get_or-set_other fs k j o None (λ e. d (ap suc e)))

-- as a further instance at a place that is current nowhere
pub put_further : (fs : List (Option Held)) (k : ℕ) (h : Held) (ps vs : List ℕ) (zs : List ℤ) → k < length fs →
    length h.points ≡ length h.values → Unmarked (suc k) vs → length vs ≡ length ps → length zs ≡ length ps →
    current_beside (slice_set fs k (Some h)) ps (marked (suc k) h.points ps vs) zs ≡ written h ps (current_beside fs ps vs zs)
put_further fs k h [] vs zs l c u a b = refl
put_further fs k h (p ∷ ps) [] zs l c u a b = absurd (omega (arith, a))
put_further fs k h (p ∷ ps) (v ∷ vs) [] l c u a b = absurd (omega (arith, b))
put_further fs k h (p ∷ ps) (v ∷ vs) (z ∷ zs) l c u a b =
    ap (λ y. y ∷ current_beside (slice_set fs k (Some h)) ps (marked (suc k) h.points ps vs) zs) (by_case (cases_Bool (has h.points p))) ∙
    ap (λ ys. number_held (Some h) p (current fs v p z) ∷ ys)
    (put_further fs k h ps vs zs l c (head_other (suc k) v vs u).1 (omega (arith, a)) (omega (arith, b)))
  where
    by_case : (has h.points p ≡ true) ⊎ (has h.points p ≡ false) →
        current (slice_set fs k (Some h)) (cond (has h.points p) (suc k) v) p z ≡ number_held (Some h) p (current fs v p z)
    by_case (inl e) = ap (λ t. current (slice_set fs k (Some h)) (cond t (suc k) v) p z) e
        ∙ ap (λ o. number_held o p z) (get_or-set_same fs k (Some h) None l)
        ∙ held_same h.points h.values p z (current fs v p z) c e
    by_case (inr e) = ap (λ t. current (slice_set fs k (Some h)) (cond t (suc k) v) p z) e
        ∙ current_other fs k v p (Some h) z (head_other (suc k) v vs u).0 ∙ sym (held_none h p (current fs v p z) e)

-- into the base
pub put_base : (fs : List (Option Held)) (h : Held) (ps vs : List ℕ) (zs : List ℤ) → length h.points ≡ length h.values →
    length vs ≡ length ps → length zs ≡ length ps →
    current_beside fs ps (marked 0 h.points ps vs) (written h ps zs) ≡ written h ps (current_beside fs ps vs zs)
put_base fs h [] vs zs c a b = refl
put_base fs h (p ∷ ps) [] zs c a b = absurd (omega (arith, a))
put_base fs h (p ∷ ps) (v ∷ vs) [] c a b = absurd (omega (arith, b))
put_base fs h (p ∷ ps) (v ∷ vs) (z ∷ zs) c a b =
    ap (λ y. y ∷ current_beside fs ps (marked 0 h.points ps vs) (written h ps zs)) (by_case (cases_Bool (has h.points p))) ∙
    ap (λ ys. number_held (Some h) p (current fs v p z) ∷ ys) (put_base fs h ps vs zs c (omega (arith, a)) (omega (arith, b)))
  where
    by_case : (has h.points p ≡ true) ⊎ (has h.points p ≡ false) →
        current fs (cond (has h.points p) 0 v) p (number_held (Some h) p z) ≡ number_held (Some h) p (current fs v p z)
    by_case (inl e) = ap (λ t. current fs (cond t 0 v) p (number_held (Some h) p z)) e ∙ held_same h.points h.values p z (current fs v p z) c e
    by_case (inr e) = ap (λ t. current fs (cond t 0 v) p (number_held (Some h) p z)) e
        ∙ ap (current fs v p) (held_none h p z e) ∙ sym (held_none h p (current fs v p z) e)

-- further instances that agree wherever they are current
abbrev pub AgreeAt : List (Option Held) → List (Option Held) → ℕ → Type 0
AgreeAt fs gs v = (p : ℕ) (z : ℤ) → current fs v p z ≡ current gs v p z

pub agree_beside : (fs gs : List (Option Held)) (ps vs : List ℕ) (zs : List ℤ) →
    ((v : ℕ) → 0 < count_of v vs → AgreeAt fs gs v) → current_beside fs ps vs zs ≡ current_beside gs ps vs zs
agree_beside fs gs [] vs zs a = refl
agree_beside fs gs (p ∷ ps) [] zs a = refl
agree_beside fs gs (p ∷ ps) (v ∷ vs) [] a = refl
agree_beside fs gs (p ∷ ps) (v ∷ vs) (z ∷ zs) a =
    ap (λ y. y ∷ current_beside fs ps vs zs) (a v (some (v == v) (eq-eqb v v refl)) p z) ∙
    ap (λ ys. current gs v p z ∷ ys) (agree_beside fs gs ps vs zs (λ w l. a w (more (v == w) w l)))
  where
    some : (b : Bool) → b ≡ true → 0 < cond b (suc (count_of v vs)) (count_of v vs)
    some true e = omega arith
    some false e = absurd cc

    more : (b : Bool) (w : ℕ) → 0 < count_of w vs → 0 < cond b (suc (count_of w vs)) (count_of w vs)
    more true w l = omega arith
    more false w l = l

-- those that are dropped are current nowhere
pub get_trimmed : (cs : List ℕ) (fs : List (Option Held)) (k : ℕ) → 0 < get_or cs k 0 → get_or (trimmed cs fs) k None ≡ get_or fs k None
get_trimmed [] fs k l = refl
get_trimmed (c ∷ cs) [] k l = refl
get_trimmed (c ∷ cs) (f ∷ fs) zero l = ap (λ b. cond b f None) (kept c l)
  where
    kept : (n : ℕ) → 0 < n → nat_lt 0 n ≡ true
    kept zero h = absurd (omega (arith, h))
    kept (suc n) h = lt-ltb 0 (suc n) h
get_trimmed (c ∷ cs) (f ∷ fs) (suc k) l = get_trimmed cs fs k l

-- ---- the base alone

pub base_current : (fs : List (Option Held)) (n : ℕ) (ps : List ℕ) (zs : List ℤ) → current_beside fs ps (replicate n 0) zs ≡ zs
base_current fs n [] zs = refl
base_current fs zero (p ∷ ps) zs = refl
base_current fs (suc n) (p ∷ ps) [] = refl
base_current fs (suc n) (p ∷ ps) (z ∷ zs) = ap (λ ys. z ∷ ys) (base_current fs n ps zs)

pub length_current : (fs : List (Option Held)) (ps vs : List ℕ) (zs : List ℤ) → length (current_beside fs ps vs zs) ≡ length zs
length_current fs [] vs zs = refl
length_current fs (p ∷ ps) [] zs = refl
length_current fs (p ∷ ps) (v ∷ vs) [] = refl
length_current fs (p ∷ ps) (v ∷ vs) (z ∷ zs) = ap suc (length_current fs ps vs zs)

-- ---- the base takes the current numbers, one place more of the first

pub gather_more : (fs : List (Option Held)) (ps vs : List ℕ) (zs : List ℤ) (place point v : ℕ) (z : ℤ) → slice_get ps place ≡ Some point →
    slice_get vs place ≡ Some v → slice_get zs place ≡ Some z →
    take (suc place) (slice_set zs place (current fs v point z))
    ++ current_beside fs (drop (suc place) ps) (drop (suc place) vs) (drop (suc place) (slice_set zs place (current fs v point z)))
    ≡ take place zs ++ current_beside fs (drop place ps) (drop place vs) (drop place zs)
gather_more fs [] vs zs place point v z a b c = absurd cc
gather_more fs (p ∷ ps) [] zs place point v z a b c = absurd cc
gather_more fs (p ∷ ps) (u ∷ vs) [] place point v z a b c = absurd cc
gather_more fs (p ∷ ps) (u ∷ vs) (y ∷ zs) zero point v z a b c = cc
gather_more fs (p ∷ ps) (u ∷ vs) (y ∷ zs) (suc place) point v z a b c = ap (λ ys. y ∷ ys) (gather_more fs ps vs zs place point v z a b c)

pub trim_kept : (n : ℕ) (fs new : List (Option Held)) (place : ℕ) → n ≢ 0 → new ≡ fs → new ≡ cond (nat_lt 0 n) fs (slice_set fs place None)
trim_kept zero fs new place d is = absurd (d refl)
trim_kept (suc n) fs new place d is = is ∙ sym (ap (λ b. cond b fs (slice_set fs place None)) (lt-ltb 0 (suc n) (omega arith)))

pub trim_dropped : (n : ℕ) (fs new : List (Option Held)) (place : ℕ) → n ≡ 0 → new ≡ slice_set fs place None →
    new ≡ cond (nat_lt 0 n) fs (slice_set fs place None)
trim_dropped zero fs new place e is = is
trim_dropped (suc n) fs new place e is = absurd (omega (arith, e))

-- one place more is looked at
pub trim_more : (cs : List ℕ) (fs : List (Option Held)) (place : ℕ) (new : List (Option Held)) (all : List (Option Held)) → place < length fs →
    length cs ≡ length fs → new ≡ cond (nat_lt 0 (get_or cs place 0)) fs (slice_set fs place None) →
    take place fs ++ trimmed (drop place cs) (drop place fs) ≡ all →
    take (suc place) new ++ trimmed (drop (suc place) cs) (drop (suc place) new) ≡ all
trim_more cs fs place new all l k is done = ap (λ gs. take (suc place) gs ++ trimmed (drop (suc place) cs) (drop (suc place) gs)) is ∙ step cs fs place l k ∙ done
  where
    step : (cs : List ℕ) (fs : List (Option Held)) (place : ℕ) → place < length fs → length cs ≡ length fs →
        take (suc place) (cond (nat_lt 0 (get_or cs place 0)) fs (slice_set fs place None))
        ++ trimmed (drop (suc place) cs) (drop (suc place) (cond (nat_lt 0 (get_or cs place 0)) fs (slice_set fs place None)))
        ≡ take place fs ++ trimmed (drop place cs) (drop place fs)
    step cs [] place l k = absurd (omega (arith, l))
    step [] (f ∷ fs) place l k = absurd (omega (arith, k))
    step (c ∷ cs) (f ∷ fs) zero l k = by_case (nat_lt 0 c)
      where
        by_case : (b : Bool) → take 1 (cond b (f ∷ fs) (None ∷ fs)) ++ trimmed cs (drop 1 (cond b (f ∷ fs) (None ∷ fs))) ≡ cond b f None ∷ trimmed cs fs
        by_case true = refl
        by_case false = refl
    step (c ∷ cs) (f ∷ fs) (suc place) l k = by_case (nat_lt 0 (get_or cs place 0)) (step cs fs place (omega (arith, l)) (omega (arith, k)))
      where
        by_case : (b : Bool) → take (suc place) (cond b fs (slice_set fs place None)) ++ trimmed (drop (suc place) cs) (drop (suc place) (cond b fs (slice_set fs place None)))
            ≡ take place fs ++ trimmed (drop place cs) (drop place fs) →
            take (suc (suc place)) (cond b (f ∷ fs) (f ∷ slice_set fs place None)) ++ trimmed (drop (suc place) cs) (drop (suc (suc place)) (cond b (f ∷ fs) (f ∷ slice_set fs place None)))
            ≡ f ∷ (take place fs ++ trimmed (drop place cs) (drop place fs))
        by_case true e = ap (λ gs. f ∷ gs) e
        by_case false e = ap (λ gs. f ∷ gs) e

-- ---- the number at a place

pub current_at : (fs : List (Option Held)) (ps vs : List ℕ) (zs : List ℤ) (place point : ℕ) → IsStrictlyIncreasing ps →
    slice_get ps place ≡ Some point → length vs ≡ length ps → length zs ≡ length ps →
    number_beside ps (current_beside fs ps vs zs) point ≡ Some (current fs (get_or vs place 0) point (get_or zs place (pos 0)))
current_at fs [] vs zs place point r at a b = absurd cc
current_at fs (p ∷ ps) [] zs place point r at a b = absurd (omega (arith, a))
current_at fs (p ∷ ps) (v ∷ vs) [] place point r at a b = absurd (omega (arith, b))
current_at fs (p ∷ ps) (v ∷ vs) (z ∷ zs) zero point r at a b =
    let e : p ≡ point = search (at) in
    beside_more p point ps (current fs v p z) (current_beside fs ps vs zs)
    ∙ ap (λ t. cond t (Some (current fs v p z)) (number_beside ps (current_beside fs ps vs zs) point)) (eq-eqb p point e)
    ∙ ap (λ q. Some (current fs v q z)) e
current_at fs (p ∷ ps) (v ∷ vs) (z ∷ zs) (suc place) point r at a b =
    let other : p ≢ point = λ e. false≢true (sym (absent p ps (rising_head p ps r) point (omega (arith, e))) ∙ has_at ps place point at) in
    beside_more p point ps (current fs v p z) (current_beside fs ps vs zs)
    ∙ ap (λ t. cond t (Some (current fs v p z)) (number_beside ps (current_beside fs ps vs zs) point)) (ne_eqb p point other)
    ∙ current_at fs ps vs zs place point (rising_tail p ps r) at (omega (arith, a)) (omega (arith, b))

-- what is dropped changes no number
pub trimmed_same : (counts : List ℕ) (fs : List (Option Held)) (ps vs : List ℕ) (zs : List ℤ) → AreCounts counts vs →
    current_beside (trimmed (take (length counts - 1) (drop 1 counts)) fs) ps vs zs ≡ current_beside fs ps vs zs
trimmed_same counts fs ps vs zs a = agree_beside (trimmed (take (length counts - 1) (drop 1 counts)) fs) fs ps vs zs agrees
  where
    behind_first : (cs : List ℕ) (k : ℕ) → get_or (take (length cs - 1) (drop 1 cs)) k 0 ≡ get_or cs (suc k) 0
    behind_first [] k = refl
    behind_first (c ∷ cs) k =
        let one : suc (length cs) - 1 ≡ length cs = omega arith in
        ap (λ (n : ℕ). get_or (take n cs) k 0) one ∙ ap (λ ds. get_or ds k 0) (take_all (length cs) cs (omega arith))

    agrees : (v : ℕ) → 0 < count_of v vs → AgreeAt (trimmed (take (length counts - 1) (drop 1 counts)) fs) fs v
    agrees zero l p z = refl
    agrees (suc k) l p z =
        let some : 0 < get_or (take (length counts - 1) (drop 1 counts)) k 0 = omega (arith, behind_first counts k, a (suc k), l) in
        ap (λ o. number_held o p z) (get_trimmed (take (length counts - 1) (drop 1 counts)) fs k some)
