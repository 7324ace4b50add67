-- The place of a root, and sets of all points.
use Rattle.std.proofs.Common.{◌≡◌, ◌<◌, ◌≤◌, ◌+◌, ◌&&◌, ◌||◌, ℕ, zero, suc, ℤ, Bool, true, false, cond, not, ltb, ◌-◌, List, [], ◌∷◌, Option, Some, None, refl, sym, ap, subst, ◌∙◌, map, length, length-drop, get_or, take, drop, arith, ⊎_elim}
use Rattle.std.specs.Prelude.{slice_set}
use Rattle.std.specs.List.{list_any}
use Rattle.std.proofs.lemmas.Bool.{cases_lt, true≢false, le-leb, lt-ltb, le-ltb}
use Rattle.std.specs.Prelude.{is_some}
use Rattle.std.proofs.lemmas.List.{take_all}
use Rattle.plain_values.specs.Points.{IsPoints, counted_from, has}
use Rattle.point_sets.specs.Stretches.{IsStretchFrom}
use Rattle.point_sets.proofs.Rising.{has-counted_from, members_decide, rising-counted_from}
use Rattle.machine_terms.specs.declared.order.Root.{Root}
use Rattle.machine_terms.specs.Contents.{image_in}
use Rattle.plain_store.specs.Columns.{IsPlaceOf, is_alone, is_place, is_root, with_column}
use Rattle.plain_store.proofs.ColumnLaws.{absent_kept, not_true}

pub and_first : (a b : Bool) → (a && b) ≡ true → a ≡ true
and_first true b e = refl
and_first false b e = e

pub and_second : (a b : Bool) → (a && b) ≡ true → b ≡ true
and_second true b e = e
and_second false b e = absurd (true≢false (sym e))

or_first : (a b : Bool) → (a || b) ≡ false → a ≡ false
or_first true b e = e
or_first false b e = refl

or_second : (a b : Bool) → (a || b) ≡ false → b ≡ false
or_second true b e = absurd (true≢false e)
or_second false b e = e

-- ---- the only root with a number

place_is : (rs : List Root) (root i : ℕ) (d : Root) → i < length rs →
    list_any (is_root root) (take i rs) ≡ false → is_root root (get_or rs i d) ≡ true →
    list_any (is_root root) (drop (suc i) rs) ≡ false → is_place rs root i ≡ true
place_is [] root i d l a e b = absurd (omega (arith, l))
place_is (r ∷ rs) root zero d l a e b =
    ap (λ (x : Bool). x && not (list_any (is_root root) rs)) e ∙ ap not b
place_is (r ∷ rs) root (suc i) d l a e b =
    ap (λ (x : Bool). not x && is_place rs root i)
    (or_first (is_root root r) (list_any (is_root root) (take i rs)) a) ∙
    place_is rs root i d (omega (arith, l))
    (or_second (is_root root r) (list_any (is_root root) (take i rs)) a) e b

below : (rs : List Root) (root k : ℕ) → is_place rs root k ≡ true → k < length rs
below [] root k e = absurd (true≢false (sym e))
below (r ∷ rs) root zero e = omega arith
below (r ∷ rs) root (suc k) e =
    let h = below rs root k (and_second (not (is_root root r)) (is_place rs root k) e) in omega (arith, h)

alone : (rs : List Root) (root k : ℕ) → is_place rs root k ≡ true → is_alone rs root ≡ true
alone [] root k e = absurd (true≢false (sym e))
alone (r ∷ rs) root zero e =
    ap (λ (x : Bool). cond x (not (list_any (is_root root) rs)) (is_alone rs root))
    (and_first (is_root root r) (not (list_any (is_root root) rs)) e) ∙
    and_second (is_root root r) (not (list_any (is_root root) rs)) e
alone (r ∷ rs) root (suc k) e =
    ap (λ (x : Bool). cond x (not (list_any (is_root root) rs)) (is_alone rs root))
    (not_true (is_root root r) (and_first (not (is_root root r)) (is_place rs root k) e)) ∙
    alone rs root k (and_second (not (is_root root r)) (is_place rs root k) e)

image : (rs : List Root) (root k : ℕ) → is_place rs root k ≡ true → (d : Root) →
    (get_or rs k d).image ≡ image_in rs root
image [] root k e d = absurd (true≢false (sym e))
image (r ∷ rs) root zero e d = sym (ap (λ (x : Bool). cond x r.image (image_in rs root))
    (and_first (is_root root r) (not (list_any (is_root root) rs)) e))
image (r ∷ rs) root (suc k) e d =
    image rs root k (and_second (not (is_root root r)) (is_place rs root k) e) d ∙
    sym (ap (λ (x : Bool). cond x r.image (image_in rs root))
    (not_true (is_root root r) (and_first (not (is_root root r)) (is_place rs root k) e)))

abbrev with_field : ℕ → List ℤ → Root → Root
with_field f zs r = record r { image = record r.image { fields = slice_set r.image.fields f zs } }

put : (rs : List Root) (root k : ℕ) → is_place rs root k ≡ true → (f : ℕ) (zs : List ℤ) (x d : Root) →
    x ≡ get_or rs k d → slice_set rs k (with_field f zs x) ≡ map (with_column root f zs) rs
put [] root k e f zs x d is = absurd (true≢false (sym e))
put (r ∷ rs) root zero e f zs x d is =
    let this = and_first (is_root root r) (not (list_any (is_root root) rs)) e in
    let others = not_true (list_any (is_root root) rs)
    (and_second (is_root root r) (not (list_any (is_root root) rs)) e) in
    ap (λ (y : Root). with_field f zs y ∷ rs) is ∙
    sym (ap (λ (b : Bool). cond b (with_field f zs r) r ∷ map (with_column root f zs) rs) this ∙
    ap (λ (ys : List Root). with_field f zs r ∷ ys) (absent_kept rs root f zs others))
put (r ∷ rs) root (suc k) e f zs x d is =
    let this = not_true (is_root root r) (and_first (not (is_root root r)) (is_place rs root k) e) in
    ap (λ (ys : List Root). r ∷ ys)
    (put rs root k (and_second (not (is_root root r)) (is_place rs root k) e) f zs x d is) ∙
    sym (ap (λ (b : Bool). cond b (with_field f zs r) r ∷ map (with_column root f zs) rs) this)

pub place_found : (rs : List Root) (root i : ℕ) (d : Root) → i < length rs →
    list_any (is_root root) (take i rs) ≡ false → is_root root (get_or rs i d) ≡ true →
    list_any (is_root root) (take (length rs - (i + 1)) (drop (i + 1) rs)) ≡ false → IsPlaceOf rs root i
place_found rs root i d l a e b =
    let one : (i + 1) ≡ suc i = omega arith in
    let rest = take_all (length rs - (i + 1)) (drop (i + 1) rs) (grind (arith, length-drop)) in
    let others = subst (λ (n : ℕ). list_any (is_root root) (drop n rs) ≡ false) one
    (ap (list_any (is_root root)) (sym rest) ∙ b) in
    let h = place_is rs root i d l a e others in record {
      below = l;
      alone = alone rs root i h;
      image = image rs root i h;
      put = put rs root i h;
    }

-- ---- all points of an index space

pub none_of : {A : Type 0} (o : Option A) (b : Bool) → is_some o ≡ not b → b ≡ true → o ≡ None
none_of None b e h = refl
none_of (Some x) b e h = absurd (true≢false (e ∙ ap not h))

pub none_is : {A : Type 0} (o : Option A) (b : Bool) → is_some o ≡ not b → ((x : A) → o ≡ Some x → ⊥) → b ≡ true
none_is None true e h = refl
none_is None false e h = absurd (true≢false (sym e))
none_is (Some x) b e h = absurd (h x refl)

has_below : (n z : ℕ) → z < n → has (counted_from 0 n) z ≡ true
has_below n z l = has-counted_from 0 n z ∙ ap (λ (b : Bool). b && ltb z (0 + n)) (le-leb 0 z (omega arith)) ∙ lt-ltb z (0 + n) (omega (arith, l))

has_behind : (n z : ℕ) → n ≤ z → has (counted_from 0 n) z ≡ false
has_behind n z l = has-counted_from 0 n z ∙ ap (λ (b : Bool). b && ltb z (0 + n)) (le-leb 0 z (omega arith)) ∙ le-ltb z (0 + n) (omega (arith, l))

pub all_points : (xs : List ℕ) (bound n : ℕ) → IsPoints bound xs → IsStretchFrom xs 0 0 n →
    ((z : ℕ) → n ≤ z → has xs z ≡ false) → xs ≡ counted_from 0 n
all_points xs bound n p s none =
    members_decide xs (counted_from 0 n) p.rising (rising-counted_from 0 n) (λ z. same z)
  where
    same : (z : ℕ) → has xs z ≡ has (counted_from 0 n) z
    same z = ⊎_elim
        (λ (l : z < n). s.full z (omega arith) l ∙ sym (has_below n z l))
        (λ (l : n ≤ z). none z l ∙ sym (has_behind n z l))
        (cases_lt z n)

-- so are no points at all
pub no_points : (xs : List ℕ) (bound n : ℕ) → IsPoints bound xs → length xs ≡ n →
    ((z : ℕ) → 0 ≤ z → has xs z ≡ false) → xs ≡ counted_from 0 n
no_points xs bound n p counted none = subst (λ k. xs ≡ counted_from 0 k) (sym (ap length empty) ∙ counted) empty
  where
    empty : xs ≡ []
    empty = members_decide xs (counted_from 0 0) p.rising (rising-counted_from 0 0) (λ z. none z (omega arith))

-- the first stretch of all points begins at 0 and ends behind them, and there is none further on
pub stretch_of_all : (n start end : ℕ) → IsStretchFrom (counted_from 0 n) 0 start end → (start ≡ 0) × (end ≡ n)
stretch_of_all n start end s = (first, last)
  where
    below : start < n
    below = ⊎_elim (λ (l : start < n). l)
        (λ (l : n ≤ start). absurd (true≢false (sym (s.full start (omega arith) s.some) ∙ has_behind n start l)))
        (cases_lt start n)

    first : start ≡ 0
    first = ⊎_elim
        (λ (l : 0 < start). absurd (true≢false (sym (has_below n 0 (omega (arith, below))) ∙ s.gap 0 (omega arith) l)))
        (λ (l : start ≤ 0). omega (arith, l))
        (cases_lt 0 start)

    upto : n ≤ end
    upto = ⊎_elim
        (λ (l : end < n). absurd (true≢false (sym (has_below n end l) ∙ s.ends)))
        (λ (l : n ≤ end). l)
        (cases_lt end n)

    last : end ≡ n
    last = ⊎_elim
        (λ (l : n < end). absurd (true≢false (sym (s.full n (omega (arith, below)) l) ∙ has_behind n n (omega arith))))
        (λ (l : end ≤ n). omega (arith, l, upto))
        (cases_lt n end)

pub none_behind : (n start end : ℕ) → IsStretchFrom (counted_from 0 n) n start end → ⊥
none_behind n start end s = true≢false (sym (s.full start (omega arith) s.some) ∙ has_behind n start s.ahead)
