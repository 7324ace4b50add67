-- Users in the order of their keys.
use Rattle.std.specs.Prelude.{filter}
use Rattle.std.specs.List.Sorted.{IsPartitionPoint, IsPartitionedBy}
use Rattle.std.proofs.Common.{◌≡◌, ◌<◌, ◌≤◌, ◌==◌, ◌++◌, ◌&&◌, ◌∷◌, [], ◌∙◌, ℕ, suc, zero, Bool, true, false, cond, not, List, All, inl, inr, ⊎_elim, ap, sym, refl, subst, arith, drop, get_or, length, take}
use Rattle.std.proofs.lemmas.List.{take-append-drop}
use Rattle.std.proofs.lemmas.Bool.{cases_Bool, cases_order, eq-eqb, eqb-true, false≢true, le-ltb, lt-ltb, ltb-true, ne_eqb}
use Rattle.std.proofs.lemmas.List.Elements.{All-cons, All-filter, All-from_get_or, All-get_or, All-head, All-nil, All-tail, filter-append}
use Rattle.region_finder.specs.Forests.{Upward}
use Rattle.region_tree.specs.declared.needs.Need.{Need}
use Rattle.region_walk.specs.Sides.{AreByKey, AtMost, IsPlaceByKey, is_beside, is_less, is_of, is_on_side, key, least_key, leaves, numbers_of, way_down}
use Rattle.region_walk.specs.Users.{ListedNeed, is_of_another}

-- ---- the order of lists of numbers

pub most_itself : (xs : List ℕ) → AtMost xs xs
most_itself [] = tt
most_itself (x ∷ xs) = inr (refl, most_itself xs)

pub most_on : (xs ys zs : List ℕ) → AtMost xs ys → AtMost ys zs → AtMost xs zs
most_on [] ys zs a b = tt
most_on (x ∷ xs) [] zs a b = absurd a
most_on (x ∷ xs) (y ∷ ys) [] a b = absurd b
most_on (x ∷ xs) (y ∷ ys) (z ∷ zs) (inl p) (inl q) = inl (omega (arith, p, q))
most_on (x ∷ xs) (y ∷ ys) (z ∷ zs) (inl p) (inr q) = inl (omega (arith, p, q.0))
most_on (x ∷ xs) (y ∷ ys) (z ∷ zs) (inr p) (inl q) = inl (omega (arith, p.0, q))
most_on (x ∷ xs) (y ∷ ys) (z ∷ zs) (inr p) (inr q) = inr (p.0 ∙ q.0, most_on xs ys zs p.1 q.1)

-- not less is at least
pub most_from : (xs ys : List ℕ) → is_less ys xs ≡ false → AtMost xs ys
most_from [] ys h = tt
most_from (x ∷ xs) [] h = absurd (false≢true (sym h))
most_from (x ∷ xs) (y ∷ ys) h = ⊎_elim
    (λ e. inr (
      e,
      most_from xs ys
          (sym (ap (λ (b : Bool). cond b true (cond (y == x) (is_less ys xs) false)) (le-ltb y x (omega (arith, e)))
          ∙ ap (λ (b : Bool). cond b (is_less ys xs) false) (eq-eqb y x (sym e))) ∙ h),
    ))
    (λ d. ⊎_elim (λ l. inl l)
    (λ g. absurd (false≢true (sym h ∙ ap (λ (b : Bool). cond b true (cond (y == x) (is_less ys xs) false)) (lt-ltb y x g)))) d)
    (cases_order x y)

pub most_not : (xs ys : List ℕ) → AtMost xs ys → is_less ys xs ≡ false
most_not [] [] a = refl
most_not [] (y ∷ ys) a = refl
most_not (x ∷ xs) [] a = absurd a
most_not (x ∷ xs) (y ∷ ys) (inl p) =
    ap (λ (b : Bool). cond b true (cond (y == x) (is_less ys xs) false)) (le-ltb y x (omega (arith, p)))
    ∙ ap (λ (b : Bool). cond b (is_less ys xs) false) (ne_eqb y x (λ e. omega (arith, p, e)))
most_not (x ∷ xs) (y ∷ ys) (inr p) =
    ap (λ (b : Bool). cond b true (cond (y == x) (is_less ys xs) false)) (le-ltb y x (omega (arith, p.0)))
    ∙ ap (λ (b : Bool). cond b (is_less ys xs) false) (eq-eqb y x (sym p.0))
    ∙ most_not xs ys p.1

pub most_less : (xs ys : List ℕ) → is_less xs ys ≡ true → AtMost xs ys
most_less [] ys h = tt
most_less (x ∷ xs) [] h = absurd (false≢true h)
most_less (x ∷ xs) (y ∷ ys) h = ⊎_elim
    (λ e. inr (
      e,
      most_less xs ys
          (sym (ap (λ (b : Bool). cond b true (cond (x == y) (is_less xs ys) false)) (le-ltb x y (omega (arith, e)))
          ∙ ap (λ (b : Bool). cond b (is_less xs ys) false) (eq-eqb x y e)) ∙ h),
    ))
    (λ d. ⊎_elim (λ l. inl l)
    (λ g. absurd (false≢true (sym (ap (λ (b : Bool). cond b true (cond (x == y) (is_less xs ys) false)) (le-ltb x y (omega (arith, g)))
    ∙ ap (λ (b : Bool). cond b (is_less xs ys) false) (ne_eqb x y (λ e. omega (arith, g, e)))) ∙ h))) d)
    (cases_order x y)

-- ---- users by key

pub keyed_up : (us : List ListedNeed) (i j : ℕ) (d : ListedNeed) → AreByKey us → i ≤ j → j < length us →
    AtMost (key (get_or us i d)) (key (get_or us j d))
keyed_up [] i j d a l b = absurd (omega (arith, b))
keyed_up (u ∷ us) zero zero d a l b = most_itself (key u)
keyed_up (u ∷ us) (suc i) zero d a l b = absurd (omega (arith, l))
keyed_up (u ∷ us) zero (suc j) d a l b = All-get_or (λ (v : ListedNeed). AtMost (key u) (key v)) us j d (omega (arith, b)) a.0
keyed_up (u ∷ us) (suc i) (suc j) d a l b = keyed_up us i j d a.1 (omega (arith, l)) (omega (arith, b))

pub keyed_drop : (k : ℕ) (us : List ListedNeed) → AreByKey us → AreByKey (drop k us)
keyed_drop zero us a = a
keyed_drop (suc k) [] a = tt
keyed_drop (suc k) (u ∷ us) a = keyed_drop k us a.1

-- less than a key
pub parted_below : (k : List ℕ) (us : List ListedNeed) → AreByKey us → IsPartitionedBy (λ (u : ListedNeed). is_less (key u) k) us
parted_below k us a i j d l b h = ⊎_elim
    (λ t. t)
    (λ f. absurd (false≢true (sym (most_not k (key (get_or us j d))
    (most_on k (key (get_or us i d)) (key (get_or us j d)) (most_from k (key (get_or us i d)) f) (keyed_up us i j d a l b))) ∙ h)))
    (cases_Bool (is_less (key (get_or us i d)) k))

not_is : (b : Bool) → not b ≡ true → b ≡ false
not_is true h = absurd (false≢true h)
not_is false h = refl

not_isnt : (b : Bool) → not b ≡ false → b ≡ true
not_isnt true h = refl
not_isnt false h = absurd (false≢true (sym h))

-- at most a key
pub parted_most : (k : List ℕ) (us : List ListedNeed) → AreByKey us → IsPartitionedBy (λ (u : ListedNeed). not (is_less k (key u))) us
parted_most k us a i j d l b h =
    ap not (most_not (key (get_or us i d)) k
    (most_on (key (get_or us i d)) (key (get_or us j d)) k (keyed_up us i j d a l b) (most_from (key (get_or us j d)) k (not_is (is_less k (key (get_or us j d))) h))))

-- ---- a user between two that leave a way so

on_side_between : (side : Bool) (c x y z : ℕ) → is_on_side side c x ≡ true → is_on_side side c z ≡ true → x ≤ y → y ≤ z →
    is_on_side side c y ≡ true
on_side_between true c x y z a b l m = lt-ltb y c (omega (arith, m, ltb-true z c b))
on_side_between false c x y z a b l m = lt-ltb c y (omega (arith, l, ltb-true c x a))

pub and_both : (a b : Bool) → (a && b) ≡ true → (a ≡ true) × (b ≡ true)
and_both true b h = (refl, h)
and_both false b h = absurd (false≢true h)

most_head : (x y : ℕ) (xs ys : List ℕ) → AtMost (x ∷ xs) (y ∷ ys) → x ≤ y
most_head x y xs ys (inl p) = omega (arith, p)
most_head x y xs ys (inr p) = omega (arith, p.0)

most_tail : (x y : ℕ) (xs ys : List ℕ) → AtMost (x ∷ xs) (y ∷ ys) → x ≡ y → AtMost xs ys
most_tail x y xs ys (inl p) e = absurd (omega (arith, p, e))
most_tail x y xs ys (inr p) e = p.1

-- the heads of three lists are one number, where those of the outer ones are; and then the tails are in order
pub record Within (x y z : ℕ) (xs ys zs : List ℕ) : Type 0 where
  pub head : x ≡ y
  pub low : AtMost xs ys
  pub high : AtMost ys zs

pub within_one : (x y z : ℕ) (xs ys zs : List ℕ) → x ≡ z → AtMost (x ∷ xs) (y ∷ ys) → AtMost (y ∷ ys) (z ∷ zs) → Within x y z xs ys zs
within_one x y z xs ys zs e a b =
    let low = most_head x y xs ys a in
    let high = most_head y z ys zs b in
    let same : x ≡ y = omega (arith, low, high, e) in
    let last : y ≡ z = omega (arith, low, high, e) in
    record { head = same; low = most_tail x y xs ys a same; high = most_tail y z ys zs b last }

leaves_between : (k : ℕ) (side : Bool) (n a b c : List Upward) → leaves k side n a ≡ true → leaves k side n c ≡ true →
    AtMost (numbers_of a) (numbers_of b) → AtMost (numbers_of b) (numbers_of c) → leaves k side n b ≡ true
leaves_between k side [] a b c p q l m = absurd (false≢true p)
leaves_between k side (s ∷ ss) [] b c p q l m = absurd (false≢true p)
leaves_between k side (s ∷ ss) (x ∷ xs) [] c p q l m = absurd l
leaves_between k side (s ∷ ss) (x ∷ xs) (y ∷ ys) [] p q l m = absurd (false≢true q)
leaves_between zero side (s ∷ ss) (x ∷ xs) (y ∷ ys) (z ∷ zs) p q l m =
    let p2 = and_both (s.0.0 == x.0.0) (is_on_side side s.1 x.1) p in
    let q2 = and_both (s.0.0 == z.0.0) (is_on_side side s.1 z.1) q in
    let sx = eqb-true s.0.0 x.0.0 p2.0 in
    let sz = eqb-true s.0.0 z.0.0 q2.0 in
    let w = within_one x.0.0 y.0.0 z.0.0 (x.1 ∷ numbers_of xs) (y.1 ∷ numbers_of ys) (z.1 ∷ numbers_of zs) (sym sx ∙ sz) l m in
    ap (λ (b : Bool). b && is_on_side side s.1 y.1) (eq-eqb s.0.0 y.0.0 (sx ∙ w.head))
    ∙ on_side_between side s.1 x.1 y.1 z.1 p2.1 q2.1
    (most_head x.1 y.1 (numbers_of xs) (numbers_of ys) w.low) (most_head y.1 z.1 (numbers_of ys) (numbers_of zs) w.high)
leaves_between (suc k) side (s ∷ ss) (x ∷ xs) (y ∷ ys) (z ∷ zs) p q l m =
    let p2 = and_both (s.0.0 == x.0.0) ((s.1 == x.1) && leaves k side ss xs) p in
    let q2 = and_both (s.0.0 == z.0.0) ((s.1 == z.1) && leaves k side ss zs) q in
    let p3 = and_both (s.1 == x.1) (leaves k side ss xs) p2.1 in
    let q3 = and_both (s.1 == z.1) (leaves k side ss zs) q2.1 in
    let sx = eqb-true s.0.0 x.0.0 p2.0 in
    let cx = eqb-true s.1 x.1 p3.0 in
    let w = within_one x.0.0 y.0.0 z.0.0 (x.1 ∷ numbers_of xs) (y.1 ∷ numbers_of ys) (z.1 ∷ numbers_of zs) (sym sx ∙ eqb-true s.0.0 z.0.0 q2.0) l m in
    let v = within_one x.1 y.1 z.1 (numbers_of xs) (numbers_of ys) (numbers_of zs) (sym cx ∙ eqb-true s.1 z.1 q3.0) w.low w.high in
    ap (λ (b : Bool). b && ((s.1 == y.1) && leaves k side ss ys)) (eq-eqb s.0.0 y.0.0 (sx ∙ w.head))
    ∙ ap (λ (b : Bool). b && leaves k side ss ys) (eq-eqb s.1 y.1 (cx ∙ v.head))
    ∙ leaves_between k side ss xs ys zs p3.1 q3.1 v.low v.high

-- ---- users between two of one root and field

-- a key behind the context, and behind the root
abbrev root_on : ListedNeed → List ℕ
root_on u = u.placed.need.root.0 ∷ u.placed.need.field ∷ numbers_of (way_down u)

abbrev field_on : ListedNeed → List ℕ
field_on u = u.placed.need.field ∷ numbers_of (way_down u)

pub record Has (c : ℕ) (n : Need) (u : ListedNeed) : Type 0 where
  pub context : u.context.0 ≡ c
  pub root : n.root.0 ≡ u.placed.need.root.0
  pub field : n.field ≡ u.placed.need.field

pub has_of : (c : ℕ) (n : Need) (u : ListedNeed) → is_of c n u ≡ true → Has c n u
has_of c n u h =
    let a = and_both (u.context.0 == c) _ h in
    let b = and_both (n.root.0 == u.placed.need.root.0) (n.field == u.placed.need.field) a.1 in
    record {
      context = eqb-true u.context.0 c a.0;
      root = eqb-true n.root.0 u.placed.need.root.0 b.0;
      field = eqb-true n.field u.placed.need.field b.1;
    }

of_has : (c : ℕ) (n : Need) (u : ListedNeed) → Has c n u → is_of c n u ≡ true
of_has c n u h =
    ap (λ (b : Bool). b && ((n.root.0 == u.placed.need.root.0) && (n.field == u.placed.need.field))) (eq-eqb u.context.0 c h.context)
    ∙ ap (λ (b : Bool). b && (n.field == u.placed.need.field)) (eq-eqb n.root.0 u.placed.need.root.0 h.root)
    ∙ eq-eqb n.field u.placed.need.field h.field

pub beside_between : (c : ℕ) (n : Need) (way : List Upward) (k : ℕ) (side : Bool) (u v w : ListedNeed) →
    is_beside c n way k side u ≡ true → is_beside c n way k side w ≡ true → AtMost (key u) (key v) → AtMost (key v) (key w) →
    is_beside c n way k side v ≡ true
beside_between c n way k side u v w p q l m =
    let p2 = and_both (is_of c n u) (leaves k side way (way_down u)) p in
    let q2 = and_both (is_of c n w) (leaves k side way (way_down w)) q in
    let a = has_of c n u p2.0 in
    let b = has_of c n w q2.0 in
    let first = within_one u.context.0 v.context.0 w.context.0 (root_on u) (root_on v) (root_on w) (a.context ∙ sym b.context) l m in
    let second = within_one u.placed.need.root.0 v.placed.need.root.0 w.placed.need.root.0 (field_on u) (field_on v) (field_on w) (sym a.root ∙ b.root) first.low first.high in
    let third = within_one u.placed.need.field v.placed.need.field w.placed.need.field (numbers_of (way_down u)) (numbers_of (way_down v)) (numbers_of (way_down w)) (sym a.field ∙ b.field) second.low second.high in
    ap (λ (t : Bool). t && leaves k side way (way_down v))
    (of_has c n v (record {
      context = sym first.head ∙ a.context;
      root = a.root ∙ second.head;
      field = a.field ∙ third.head;
    }))
    ∙ leaves_between k side way (way_down u) (way_down v) (way_down w) p2.1 q2.1 third.low third.high

-- those that leave a way as the first one does are the first ones
pub parted_beside : (c : ℕ) (n : Need) (way : List Upward) (k : ℕ) (side : Bool) (us : List ListedNeed) → AreByKey us →
    ((d : ListedNeed) → is_beside c n way k side (get_or us 0 d) ≡ true) →
    IsPartitionedBy (is_beside c n way k side) us
parted_beside c n way k side us a f i j d l b h =
    beside_between c n way k side (get_or us 0 d) (get_or us i d) (get_or us j d) (f d) h
    (keyed_up us 0 i d a (omega arith) (omega (arith, l, b))) (keyed_up us i j d a l b)

-- ---- before and behind a root and field

-- a user with a less key isn't of the root and field
pub below_not_of : (c : ℕ) (n : Need) (u : ListedNeed) → is_less (key u) (least_key c n) ≡ true → is_of c n u ≡ false
below_not_of c n u h = ⊎_elim
    (λ t. let a = has_of c n u t in
    absurd (false≢true (sym (most_not (least_key c n) (key u) (inr (sym a.context, inr (a.root, inr (a.field, tt))))) ∙ h)))
    (λ f. f)
    (cases_Bool (is_of c n u))

-- a user between the least key and one of the root and field is of them
between_of : (c : ℕ) (n : Need) (u v : ListedNeed) → Has c n v → AtMost (least_key c n) (key u) → AtMost (key u) (key v) → Has c n u
between_of c n u v a low l =
    let first = within_one c u.context.0 v.context.0 (n.root.0 ∷ n.field ∷ []) (root_on u) (root_on v) (sym a.context) low l in
    let second = within_one n.root.0 u.placed.need.root.0 v.placed.need.root.0 (n.field ∷ []) (field_on u) (field_on v) a.root first.low first.high in
    let third = within_one n.field u.placed.need.field v.placed.need.field [] (numbers_of (way_down u)) (numbers_of (way_down v)) a.field second.low second.high in
    record { context = sym first.head; root = second.head; field = third.head }

-- nor is one behind another that isn't and whose key isn't less
pub behind_not_of : (c : ℕ) (n : Need) (u v : ListedNeed) → is_less (key u) (least_key c n) ≡ false → is_of c n u ≡ false →
    AtMost (key u) (key v) → is_of c n v ≡ false
behind_not_of c n u v h e l = ⊎_elim
    (λ t. absurd (false≢true (sym e ∙ of_has c n u (between_of c n u v (has_of c n v t) (most_from (least_key c n) (key u) h) l))))
    (λ f. f)
    (cases_Bool (is_of c n v))

-- ---- one more user

all_put : (P : ListedNeed → Type 0) (i : ℕ) (u : ListedNeed) (us : List ListedNeed) → P u → All P us → All P (take i us ++ u ∷ drop i us)
all_put P zero u us h a = All-cons P u us h a
all_put P (suc i) u [] h a = All-cons P u [] h (All-nil P)
all_put P (suc i) u (v ∷ us) h a =
    All-cons P v (take i us ++ u ∷ drop i us) (All-head P v us a) (all_put P i u us h (All-tail P v us a))

-- behind those that are at most its key, before those that aren't
keyed_by : (i : ℕ) (u : ListedNeed) (us : List ListedNeed) → AreByKey us →
    ((k : ℕ) (d : ListedNeed) → k < i → AtMost (key (get_or us k d)) (key u)) →
    ((k : ℕ) (d : ListedNeed) → i ≤ k → k < length us → AtMost (key u) (key (get_or us k d))) →
    i ≤ length us → AreByKey (take i us ++ u ∷ drop i us)
keyed_by zero u us a b c l = (All-from_get_or (λ (v : ListedNeed). AtMost (key u) (key v)) us u (λ k m. c k u (omega arith) m), a)
keyed_by (suc i) u [] a b c l = absurd (omega (arith, l))
keyed_by (suc i) u (v ∷ us) a b c l = (
  all_put (λ (w : ListedNeed). AtMost (key v) (key w)) i u us (b 0 v (omega arith)) a.0,
  keyed_by i u us a.1 (λ k d m. b (suc k) d (omega (arith, m))) (λ k d m o. c (suc k) d (omega (arith, m)) (omega (arith, o))) (omega (arith, l)),
)

pub keyed_insert : (i : ℕ) (u : ListedNeed) (us : List ListedNeed) → AreByKey us → IsPlaceByKey u us i → i ≤ length us →
    AreByKey (take i us ++ u ∷ drop i us)
keyed_insert i u us a p l = keyed_by i u us a p.before p.behind l

-- a place that a binary search tells
pub placed_by_key : (u : ListedNeed) (us : List ListedNeed) (i : ℕ) →
    IsPartitionPoint (λ (v : ListedNeed). not (is_less (key u) (key v)) ≡ true) (λ (v : ListedNeed). not (is_less (key u) (key v)) ≡ false) us i →
    IsPlaceByKey u us i
placed_by_key u us i p = record {
  before = λ k d l. most_from (key (get_or us k d)) (key u) (not_is (is_less (key u) (key (get_or us k d))) (p.0 k d (omega arith) l));
  behind = λ k d l m. most_less (key u) (key (get_or us k d)) (not_isnt (is_less (key u) (key (get_or us k d))) (p.1 k d l m));
}

-- to the others it makes no difference
pub insert_others : (i : ℕ) (u : ListedNeed) (us : List ListedNeed) →
    filter (is_of_another u.op.0) (take i us ++ u ∷ drop i us) ≡ filter (is_of_another u.op.0) us
insert_others i u us =
    let p = is_of_another u.op.0 in
    filter-append p (take i us) (u ∷ drop i us)
    ∙ ap (λ (xs : List ListedNeed). filter p (take i us) ++ xs)
    (ap (λ (b : Bool). cond (not b) (u ∷ filter p (drop i us)) (filter p (drop i us))) (eq-eqb u.op.0 u.op.0 refl))
    ∙ sym (filter-append p (take i us) (drop i us))
    ∙ ap (filter p) (take-append-drop i us)

-- ---- some taken out

pub keyed_filter : (p : ListedNeed → Bool) (us : List ListedNeed) → AreByKey us → AreByKey (filter p us)
keyed_filter p [] a = tt
keyed_filter p (u ∷ us) a = ⊎_elim
    (λ e. subst AreByKey (sym (ap (λ (b : Bool). cond b (u ∷ filter p us) (filter p us)) e))
    (All-filter p (λ (v : ListedNeed). AtMost (key u) (key v)) us a.0, keyed_filter p us a.1))
    (λ e. subst AreByKey (sym (ap (λ (b : Bool). cond b (u ∷ filter p us) (filter p us)) e)) (keyed_filter p us a.1))
    (cases_Bool (p u))
