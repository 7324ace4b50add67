-- What links lead to, in the words of the meaning.
use Rattle.std.proofs.Common.{◌≡◌, ℕ, ℤ, ◌<◌, ◌≤◌, Bool, true, false, ◌&&◌, ◌||◌, eqb, cond, List}
use Rattle.std.proofs.Common.{[], ◌∷◌, map, filter, Option, Some, None, refl, sym, ap, ◌∙◌, subst}
use Rattle.std.proofs.Common.{arith, ⊎_elim}
use Rattle.std.specs.List.{flat_map, list_any}
use Rattle.std.specs.List.Sorted.{IsPermutation, IsStrictlyIncreasing}
use Rattle.std.proofs.lemmas.Bool.{cases_Bool, cases_eq, cases_lt, lt-ltb, le-ltb, eqb-true, ne_eqb}
use Rattle.std.proofs.lemmas.Bool.{and_left, and_right, and_parts, and_from, or_cases, false≢true}
use Rattle.std.proofs.lemmas.Bool.Decides.{nat_tests}
use Rattle.std.proofs.lemmas.List.Elements.{All-contains}
use Rattle.std.proofs.lemmas.List.Folds.{list_any_none, list_any-append}
use Rattle.std.proofs.lemmas.List.Sorted.{list_any-IsPermutation}
use Rattle.plain_values.specs.Points.{IsPoints, has}
use Rattle.point_sets.specs.declared.TheConstants.{POINT_LIMIT}
use Rattle.point_sets.proofs.Rising.{Contains-from_has, has-append, has-filter, has-cons_cases}
use Rattle.point_sets.proofs.Rising.{has_tail, has_head, members_decide, rising-filter, rising_head}
use Rattle.point_sets.proofs.Rising.{rising_tail, rising_cons}
use Rattle.regent_tree.specs.Partitions.{point_named, is_point, is_among, numbers_at, points_where}
use Rattle.partitions.specs.Links.{in_range, link, links_at, links_of, leads_from, targets_at}
use Rattle.partitions.specs.Links.{targets_of}
use Rattle.partitions.specs.declared.links.Link.{Link}
use Rattle.partitions.specs.declared.links.Direction.TheVariants.{Forward, Backward}
use Rattle.partitions.proofs.Gathering.{has-set_of, rising-set_of}

-- ---- tests

shared : (a b t : Bool) → ((a && t) || (b && t)) ≡ ((a || b) && t)
shared true true true = refl
shared true true false = refl
shared true false true = refl
shared true false false = refl
shared false b t = refl

spread : (p a b : Bool) → ((p && a) || (p && b)) ≡ (p && (a || b))
spread true a b = refl
spread false a b = refl

-- a test at a point, beside the test for that point
at_point : (f : ℕ → Bool) (s : Bool) (x y : ℕ) → (f y && (s && eqb x y)) ≡ (f x && (s && eqb x y))
at_point f s x y =
    ⊎_elim (λ e. ap (λ v. f v && (s && eqb x y)) (sym e)) (λ ne. let no = ne_eqb x y ne in
    rw no (both_none (f y) (f x))) (cases_eq x y)
  where
    none : (a : Bool) → (a && (s && false)) ≡ false
    none a = and_right a (s && false) (and_right s false refl)

    both_none : (a b : Bool) → (a && (s && false)) ≡ (b && (s && false))
    both_none a b = none a ∙ sym (none b)

module _ {X : Type 0} (f g : X → Bool) where
  list_any-or : (xs : List X) → list_any (λ x. f x || g x) xs ≡ (list_any f xs || list_any g xs)
  list_any-or [] = refl
  list_any-or (x ∷ xs) = let h = list_any-or xs in grind arith

  list_any-agree : ((x : X) → f x ≡ g x) → (xs : List X) → list_any f xs ≡ list_any g xs
  list_any-agree h [] = refl
  list_any-agree h (x ∷ xs) = let e = h x in let r = list_any-agree h xs in rw (e, r) refl

pub below_bound : (bound : ℕ) (xs : List ℕ) → IsPoints bound xs → (x : ℕ) → has xs x ≡ true →
    x < bound
below_bound bound xs p x h = All-contains (λ y. y < bound) xs x p.below (Contains-from_has xs x h)

-- ---- where links lead

-- whether a link leads from a point of a set to a point
abbrev reaches : List ℕ → ℕ → Link → Bool
reaches set x l = has set l.from && eqb x l.to

has-targets_at : (links : List Link) (y x : ℕ) →
    has (targets_at links y) x ≡ list_any (λ (l : Link). leads_from y l && eqb x l.to) links
has-targets_at [] y x = refl
has-targets_at (l ∷ ls) y x =
    kept (leads_from y l) ∙ ap (λ b. (leads_from y l && eqb x l.to) || b) (has-targets_at ls y x)
  where
    rest : List Link
    rest = filter (leads_from y) ls

    kept : (b : Bool) → has (map (λ (k : Link). k.to) (cond b (l ∷ rest) rest)) x
        ≡ ((b && eqb x l.to) || has (map (λ (k : Link). k.to) rest) x)
    kept true = refl
    kept false = refl

has-targets : (links : List Link) (ys : List ℕ) (x : ℕ) →
    has (flat_map (targets_at links) ys) x ≡ list_any (reaches ys x) links
has-targets links [] x = sym (list_any_none (reaches [] x) links (λ k d m. refl))
has-targets links (y ∷ ys) x =
    has-append (targets_at links y) (flat_map (targets_at links) ys) x
    ∙ ap (λ b. b || has (flat_map (targets_at links) ys) x) (has-targets_at links y x)
    ∙ ap (λ b. list_any (λ (l : Link). leads_from y l && eqb x l.to) links || b)
    (has-targets links ys x)
    ∙ sym (list_any-or (λ (l : Link). leads_from y l && eqb x l.to) (reaches ys x) links)
    ∙ list_any-agree (λ (l : Link). (leads_from y l && eqb x l.to) || reaches ys x l)
    (reaches (y ∷ ys) x) (λ l. shared (leads_from y l) (has ys l.from) (eqb x l.to)) links

module _ (parent set : List ℕ) (x y : ℕ) where
  kept_link : (b : Bool) (l : Link) → list_any (reaches set x) (cond b (l ∷ []) []) ≡
      (b && reaches set x l)
  kept_link true l = one (reaches set x l)
    where
      one : (b : Bool) → (b || false) ≡ b
      one true = refl
      one false = refl
  kept_link false l = refl

  none_left : (a b : Bool) → false ≡ (a && (b && false))
  none_left a b = sym (and_right a (b && false) (and_right b false refl))

  at_forward : (o : Option ℕ) → (has parent x ≡ true → x < POINT_LIMIT) →
      list_any (reaches set x) (links_at Forward parent y (in_range o)) ≡
      (has parent x && (has set y && is_point x o))
  at_forward None low = none_left (has parent x) (has set y)
  at_forward (Some n) low =
      ⊎_elim (λ l. rw (lt-ltb n POINT_LIMIT l)
      (kept_link (has parent n) (link Forward y n) ∙ at_point (has parent) (has set y) x n))
      (λ g. rw (le-ltb n POINT_LIMIT g) (sym (past g))) (cases_lt n POINT_LIMIT)
    where
      past : POINT_LIMIT ≤ n → (has parent x && (has set y && eqb x n)) ≡ false
      past g =
          ⊎_elim (λ h. let other = ne_eqb x n (λ e. let l = low h in absurd (omega arith)) in
          and_right (has parent x) (has set y && eqb x n)
          (and_right (has set y) (eqb x n) other))
          (and_left (has parent x) (has set y && eqb x n)) (cases_Bool (has parent x))

  at_backward : (o : Option ℕ) → ((n : ℕ) → has set n ≡ true → n < POINT_LIMIT) →
      list_any (reaches set x) (links_at Backward parent y (in_range o)) ≡
      (has parent x && (is_among set o && eqb x y))
  at_backward None low = sym (and_right (has parent x) false refl)
  at_backward (Some n) low =
      ⊎_elim (λ l. rw (lt-ltb n POINT_LIMIT l)
      (kept_link (has parent y) (link Backward y n) ∙ at_point (has parent) (has set n) x y))
      (λ g. rw (le-ltb n POINT_LIMIT g) (sym (past g))) (cases_lt n POINT_LIMIT)
    where
      past : POINT_LIMIT ≤ n → (has parent x && (has set n && eqb x y)) ≡ false
      past g =
          and_right (has parent x) (has set n && eqb x y)
          (⊎_elim (λ h. let l = low n h in absurd (omega arith))
          (and_left (has set n) (eqb x y)) (cases_Bool (has set n)))

-- ---- image and preimage

in_image : (parent set : List ℕ) (x : ℕ) (p : Bool) → (has parent x ≡ true → x < POINT_LIMIT) →
    (r : List ℕ) (zs : List ℤ) → list_any (reaches set x) (links_of Forward parent p r zs) ≡
    (has parent x && list_any (λ z. is_point x (point_named p z)) (numbers_at set r zs))
in_image parent set x p low [] zs = sym (and_right (has parent x) false refl)
in_image parent set x p low (y ∷ ys) [] = sym (and_right (has parent x) false refl)
in_image parent set x p low (y ∷ ys) (z ∷ zs) =
    list_any-append (reaches set x) (links_at Forward parent y (in_range (point_named p z)))
    (links_of Forward parent p ys zs)
    ∙ ap (λ b. b || list_any (reaches set x) (links_of Forward parent p ys zs))
    (at_forward parent set x y (point_named p z) low)
    ∙ ap (λ b. (has parent x && (has set y && named z)) || b) (in_image parent set x p low ys zs)
    ∙ spread (has parent x) (has set y && named z) (list_any named (numbers_at set ys zs))
    ∙ ap (λ b. has parent x && b) (sym (kept (has set y)))
  where
    named : ℤ → Bool
    named v = is_point x (point_named p v)

    kept : (b : Bool) → list_any named (cond b (z ∷ numbers_at set ys zs) (numbers_at set ys zs)) ≡
        ((b && named z) || list_any named (numbers_at set ys zs))
    kept true = refl
    kept false = refl

pub has-where : (test : ℤ → Bool) (x y : ℕ) (z : ℤ) (ys : List ℕ) (zs : List ℤ) →
    has (points_where test (y ∷ ys) (z ∷ zs)) x ≡
    ((test z && eqb x y) || has (points_where test ys zs) x)
has-where test x y z ys zs = kept (test z)
  where
    kept : (b : Bool) → has (cond b (y ∷ points_where test ys zs) (points_where test ys zs)) x ≡
        ((b && eqb x y) || has (points_where test ys zs) x)
    kept true = refl
    kept false = refl

in_preimage : (parent set : List ℕ) (x : ℕ) (p : Bool) →
    ((n : ℕ) → has set n ≡ true → n < POINT_LIMIT) → (r : List ℕ) (zs : List ℤ) →
    list_any (reaches set x) (links_of Backward parent p r zs) ≡
    (has parent x && has (points_where (λ z. is_among set (point_named p z)) r zs) x)
in_preimage parent set x p low [] zs = sym (and_right (has parent x) false refl)
in_preimage parent set x p low (y ∷ ys) [] = sym (and_right (has parent x) false refl)
in_preimage parent set x p low (y ∷ ys) (z ∷ zs) =
    let test = λ (v : ℤ). is_among set (point_named p v) in
    list_any-append (reaches set x) (links_at Backward parent y (in_range (point_named p z)))
    (links_of Backward parent p ys zs)
    ∙ ap (λ b. b || list_any (reaches set x) (links_of Backward parent p ys zs))
    (at_backward parent set x y (point_named p z) low)
    ∙ ap (λ b. (has parent x && (test z && eqb x y)) || b)
    (in_preimage parent set x p low ys zs)
    ∙ spread (has parent x) (test z && eqb x y) (has (points_where test ys zs) x)
    ∙ ap (λ b. has parent x && b) (sym (has-where test x y z ys zs))

has-targets_of : (made links : List Link) → IsPermutation made links → (set : List ℕ) (x : ℕ) →
    has (targets_of links set) x ≡ list_any (reaches set x) made
has-targets_of made links moved set x =
    has-set_of (flat_map (targets_at links) set) x ∙ has-targets links set x
    ∙ sym (list_any-IsPermutation (reaches set x) made links moved)

module _ (parent r : List ℕ) (zs : List ℤ) (p : Bool) (links : List Link)
    (points : IsPoints POINT_LIMIT parent) where
  pub image_is : IsPermutation (links_of Forward parent p r zs) links → (set : List ℕ) →
      targets_of links set
      ≡ filter (λ x. list_any (λ z. is_point x (point_named p z)) (numbers_at set r zs)) parent
  image_is moved set =
      let test = λ (x : ℕ). list_any (λ z. is_point x (point_named p z)) (numbers_at set r zs) in
      members_decide (targets_of links set) (filter test parent)
      (rising-set_of (flat_map (targets_at links) set))
      (rising-filter test parent points.rising)
      (λ x. has-targets_of (links_of Forward parent p r zs) links moved set x
      ∙ in_image parent set x p (below_bound POINT_LIMIT parent points x) r zs
      ∙ sym (has-filter test parent x))

  pub preimage_is : IsPermutation (links_of Backward parent p r zs) links → (set : List ℕ) →
      IsPoints POINT_LIMIT set → targets_of links set
      ≡ filter (has (points_where (λ z. is_among set (point_named p z)) r zs)) parent
  preimage_is moved set inside =
      let test = has (points_where (λ z. is_among set (point_named p z)) r zs) in
      members_decide (targets_of links set) (filter test parent)
      (rising-set_of (flat_map (targets_at links) set))
      (rising-filter test parent points.rising)
      (λ x. has-targets_of (links_of Backward parent p r zs) links moved set x
      ∙ in_preimage parent set x p (below_bound POINT_LIMIT set inside) r zs
      ∙ sym (has-filter test parent x))

-- ---- by field

module _ (test : ℤ → Bool) where
  pub where_within : (r : List ℕ) (zs : List ℤ) (x : ℕ) → has (points_where test r zs) x ≡ true →
      has r x ≡ true
  where_within [] zs x h = h
  where_within (y ∷ ys) [] x h = absurd (false≢true h)
  where_within (y ∷ ys) (z ∷ zs) x h =
      ⊎_elim (λ e. let same = eqb-true x y (and_parts (test z) (eqb x y) e).1 in
      subst (λ v. has (y ∷ ys) v ≡ true) (sym same) (has_head y ys))
      (λ m. has_tail x y ys (where_within ys zs x m))
      (or_cases (test z && eqb x y) (has (points_where test ys zs) x)
      (sym (has-where test x y z ys zs) ∙ h))

  pub rising-where : (r : List ℕ) (zs : List ℤ) → IsStrictlyIncreasing r →
      IsStrictlyIncreasing (points_where test r zs)
  rising-where [] zs up = up
  rising-where (y ∷ ys) [] up = λ k l. absurd (omega arith)
  rising-where (y ∷ ys) (z ∷ zs) up = kept (rising-where ys zs (rising_tail y ys up)) (test z)
    where
      kept : IsStrictlyIncreasing (points_where test ys zs) → (b : Bool) →
          IsStrictlyIncreasing (cond b (y ∷ points_where test ys zs) (points_where test ys zs))
      kept rest true = rising_cons y (points_where test ys zs)
          (λ x m. rising_head y ys up x (where_within ys zs x m)) rest
      kept rest false = rest

  within_all : (r : List ℕ) (zs : List ℤ) (x : ℕ) →
      (has r x && has (points_where test r zs) x) ≡ has (points_where test r zs) x
  within_all r zs x =
      ⊎_elim (λ e. and_from (has r x) (has (points_where test r zs) x) (where_within r zs x e) e
      ∙ sym e) (λ e. and_right (has r x) (has (points_where test r zs) x) e ∙ sym e)
      (cases_Bool (has (points_where test r zs) x))

where_agree : (f g : ℤ → Bool) → ((z : ℤ) → f z ≡ g z) → (r : List ℕ) (zs : List ℤ) →
    points_where f r zs ≡ points_where g r zs
where_agree f g h [] zs = refl
where_agree f g h (y ∷ ys) [] = refl
where_agree f g h (y ∷ ys) (z ∷ zs) = let e = h z in let t = where_agree f g h ys zs in
    rw (e, t) refl

among_one : (c : ℕ) (o : Option ℕ) → is_among (c ∷ []) o ≡ is_point c o
among_one c None = refl
among_one c (Some n) = grind (arith, nat_tests)

pub field_is : (r : List ℕ) (zs : List ℤ) (links : List Link) → IsPoints POINT_LIMIT r →
    IsPermutation (links_of Backward r false r zs) links → (c : ℕ) → c < POINT_LIMIT →
    targets_of links (c ∷ []) ≡ points_where (λ z. is_point c (point_named false z)) r zs
field_is r zs links points moved c low =
    let test = λ (z : ℤ). is_point c (point_named false z) in
    let among = λ (z : ℤ). is_among (c ∷ []) (point_named false z) in
    members_decide (targets_of links (c ∷ [])) (points_where test r zs)
    (rising-set_of (flat_map (targets_at links) (c ∷ [])))
    (rising-where test r zs points.rising)
    (λ x. has-targets_of (links_of Backward r false r zs) links moved (c ∷ []) x
    ∙ in_preimage r (c ∷ []) x false only r zs
    ∙ ap (λ l. has r x && has l x) (where_agree among test
    (λ z. among_one c (point_named false z)) r zs) ∙ within_all test r zs x)
  where
    only : (n : ℕ) → has (c ∷ []) n ≡ true → n < POINT_LIMIT
    only n h =
        ⊎_elim (λ e. subst (λ v. v < POINT_LIMIT) (sym e) low) (λ m. absurd (false≢true m))
        (has-cons_cases n c [] h)
