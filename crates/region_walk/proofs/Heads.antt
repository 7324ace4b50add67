-- Lists of numbers that begin with another one, and users under a need.
use Rattle.std.specs.Prelude.{None, Option, Some, reverse}
use Rattle.std.specs.List.{list_any}
use Rattle.std.specs.List.Sorted.{IsPartitionPoint, IsPartitionedBy}
use Rattle.std.proofs.Common.{◌≡◌, ◌≢◌, ◌<◌, ◌≤◌, ◌+◌, ◌-◌, ◌==◌, ◌++◌, ◌&&◌, ◌||◌, ◌∷◌, [], ◌∙◌, ℕ, suc, zero, Bool, true, false, List, inr, ⊎_elim, ap, sym, refl, subst, arith, drop, get_or, length}
use Rattle.std.proofs.lemmas.Bool.{cases_Bool, eq-eqb, eqb-true, false≢true, ne_eqb}
use Rattle.std.proofs.Math.ListN.{drop_of_length-le}
use Rattle.std.proofs.lemmas.List.{get_or-drop, length-drop, reverse-append}
use Rattle.region_finder.specs.Forests.{IsForest, StandsAbove, Upward, above, way_up}
use Rattle.region_finder.specs.Listings.{covers, placed}
use Rattle.region_tree.specs.Trees.{RegionTree, IsNode}
use Rattle.region_tree.specs.declared.needs.Need.{Need}
use Rattle.region_tree.specs.declared.tree.OpNumber.{OpNumber}
use Rattle.region_walk.specs.Covering.{is_dominated}
use Rattle.region_walk.specs.Ranges.{IsRange, IsStart, begins, is_under}
use Rattle.region_walk.specs.Sides.{AreByKey, AtMost, is_less, key, numbers_of}
use Rattle.region_walk.specs.Users.{IsUser, ListedNeed, listed_need}
use Rattle.region_walk.proofs.Climbing.{way_ends, way_step}
use Rattle.region_walk.proofs.Keys.{and_both, keyed_drop, keyed_up, most_from, most_not, within_one}

begins_itself : (xs : List ℕ) → begins xs xs ≡ true
begins_itself [] = refl
begins_itself (x ∷ xs) = ap (λ (b : Bool). b && begins xs xs) (eq-eqb x x refl) ∙ begins_itself xs

begins_on : (xs ys zs : List ℕ) → begins xs ys ≡ true → begins xs (ys ++ zs) ≡ true
begins_on [] ys zs h = refl
begins_on (x ∷ xs) [] zs h = absurd (false≢true h)
begins_on (x ∷ xs) (y ∷ ys) zs h =
    let both = and_both (x == y) (begins xs ys) h in
    ap (λ (b : Bool). b && begins xs (ys ++ zs)) both.0 ∙ begins_on xs ys zs both.1

begins_most : (xs ys : List ℕ) → begins xs ys ≡ true → AtMost xs ys
begins_most [] ys h = tt
begins_most (x ∷ xs) [] h = absurd (false≢true h)
begins_most (x ∷ xs) (y ∷ ys) h =
    let both = and_both (x == y) (begins xs ys) h in
    inr (eqb-true x y both.0, begins_most xs ys both.1)

-- between a list and one that begins with it all do
begins_between : (xs ys zs : List ℕ) → AtMost xs ys → AtMost ys zs → begins xs zs ≡ true → begins xs ys ≡ true
begins_between [] ys zs a b h = refl
begins_between (x ∷ xs) [] zs a b h = absurd a
begins_between (x ∷ xs) (y ∷ ys) [] a b h = absurd b
begins_between (x ∷ xs) (y ∷ ys) (z ∷ zs) a b h =
    let both = and_both (x == z) (begins xs zs) h in
    let w = within_one x y z xs ys zs (eqb-true x z both.0) a b in
    ap (λ (t : Bool). t && begins xs ys) (eq-eqb x y w.head) ∙ begins_between xs ys zs w.low w.high both.1

numbers_append : (ss ts : List Upward) → numbers_of (ss ++ ts) ≡ numbers_of ss ++ numbers_of ts
numbers_append [] ts = refl
numbers_append (s ∷ ss) ts = ap (λ (xs : List ℕ). s.0.0 ∷ s.1 ∷ xs) (numbers_append ss ts)

-- ---- places

-- the users from a place on that are under one stand before the others
pub parted_under : (top : ListedNeed) (us : List ListedNeed) (from : ℕ) → AreByKey us → IsStart top us from →
    IsPartitionedBy (is_under top) (drop from us)
parted_under top us from a s i j d l b e =
    begins_between (key top) (key (get_or (drop from us) i d)) (key (get_or (drop from us) j d))
    (most_from (key top) (key (get_or (drop from us) i d))
    (subst (λ (u : ListedNeed). is_less (key u) (key top) ≡ false) (sym (get_or-drop from us i d))
    (s.behind (from + i) d (omega arith) (omega (arith, l, b, length-drop from us)))))
    (keyed_up (drop from us) i j d (keyed_drop from us a) l b) e

none_under : (top u : ListedNeed) → is_less (key u) (key top) ≡ true → is_under top u ≡ false
none_under top u h = ⊎_elim
    (λ t. absurd (false≢true (sym (most_not (key top) (key u) (begins_most (key top) (key u) t)) ∙ h)))
    (λ f. f)
    (cases_Bool (is_under top u))

pub range_to : (top : ListedNeed) (us : List ListedNeed) (from count : ℕ) → IsStart top us from →
    IsPartitionPoint (λ (u : ListedNeed). is_under top u ≡ true) (λ (u : ListedNeed). is_under top u ≡ false) (drop from us) count →
    IsRange top us from (from + count)
range_to top us from count s p = record {
  before = λ i d l. none_under top (get_or us i d) (s.before i d l);
  behind = λ i d g l. subst (λ (j : ℕ). is_under top (get_or us j d) ≡ false)
      (let e : from + (i - from) ≡ i = omega (arith, g) in e)
      (subst (λ (u : ListedNeed). is_under top u ≡ false) (get_or-drop from us (i - from) d)
      (p.1 (i - from) d (omega (arith, g)) (omega (arith, g, l, length-drop from us))));
}

-- ---- what is covered is under the need that covers it

or_other : (a b : Bool) → (a || b) ≡ true → a ≡ false → b ≡ true
or_other a b h e = sym (ap (λ (x : Bool). x || b) e) ∙ h

or_nothing : (a : Bool) → (a || false) ≡ a
or_nothing true = refl
or_nothing false = refl

abbrev Follows : RegionTree → ℕ → ℕ → Type 0
Follows t n m = begins (numbers_of (reverse (way_up t n))) (numbers_of (reverse (way_up t m))) ≡ true

abbrev stands : ℕ → List Upward → Bool
stands n way = list_any (λ (s : Upward). s.0.0 == n) way

follows_same : (t : RegionTree) (n m : ℕ) → n ≡ m → Follows t n m
follows_same t n m e = subst (Follows t n) e (begins_itself (numbers_of (reverse (way_up t n))))

follows_of : (t : RegionTree) (n m : ℕ) → IsForest t → IsNode t m →
    ((s : Upward) → StandsAbove t m s → stands n (way_up t s.0.0) ≡ true → Follows t n s.0.0) →
    (o : Option Upward) → above t m ≡ o → stands n (way_up t m) ≡ true → Follows t n m
follows_of t n m f i next None e h = absurd (false≢true (sym (ap (stands n) (way_ends t m e)) ∙ h))
follows_of t n m f i next (Some s) e h =
    let step = way_step t m s f i e in
    let at : ((s.0.0 == n) || stands n (way_up t s.0.0)) ≡ true = sym (ap (stands n) step) ∙ h in
    let first : Follows t n s.0.0 = ⊎_elim
    (λ same. follows_same t n s.0.0 (sym (eqb-true s.0.0 n same)))
    (λ other. next s (f.upward m s i e) (or_other (s.0.0 == n) (stands n (way_up t s.0.0)) at other))
    (cases_Bool (s.0.0 == n)) in
    let from = numbers_of (reverse (way_up t n)) in
    let to = reverse (way_up t s.0.0) in
    let way : numbers_of (reverse (way_up t m)) ≡ numbers_of to ++ numbers_of (s ∷ []) =
    ap (λ (ss : List Upward). numbers_of (reverse ss)) step
    ∙ ap numbers_of (reverse-append (s ∷ []) (way_up t s.0.0)) ∙ numbers_append to (s ∷ []) in
    subst (λ (xs : List ℕ). begins from xs ≡ true) (sym way) (begins_on from (numbers_of to) (numbers_of (s ∷ [])) first)

follows_by : (t : RegionTree) (k n m : ℕ) → IsForest t → IsNode t m → m < k → stands n (way_up t m) ≡ true → Follows t n m
follows_by t zero n m f i l h = absurd (omega (arith, l))
follows_by t (suc k) n m f i l h =
    follows_of t n m f i
    (λ s up g. follows_by t k n s.0.0 f (omega (arith, i, up.smaller)) (omega (arith, l, up.smaller)) g)
    (above t m) refl h

all_four : (a b c d : Bool) → a ≡ true → b ≡ true → c ≡ true → d ≡ true → (a && (b && (c && d))) ≡ true
all_four a b c d e f g h =
    ap (λ (x : Bool). x && (b && (c && d))) e ∙ ap (λ (x : Bool). x && (c && d)) f ∙ ap (λ (x : Bool). x && d) g ∙ h

pub dominated_under : (t : RegionTree) (context op : OpNumber) (n : Need) (u : ListedNeed) → IsForest t → IsUser t u →
    is_dominated context.0 op.0 (n ∷ []) u ≡ true → is_under (listed_need context op (placed t n)) u ≡ true
dominated_under t context op n u f i h =
    let m = u.placed.need in
    let both = and_both _ _ h in
    let first = and_both _ _ both.0 in
    let covered : covers u.placed n ≡ true = sym (or_nothing (covers u.placed n)) ∙ both.1 in
    let parts = and_both _ _ covered in
    let fields = and_both _ _ parts.0 in
    let roots = and_both _ _ fields.0 in
    let follows : Follows t n.node.0 m.node.0 = ⊎_elim
    (λ same. follows_same t n.node.0 m.node.0 (eqb-true n.node.0 m.node.0 same))
    (λ other. follows_by t (suc m.node.0) n.node.0 m.node.0 f i.there.region.there (let g : m.node.0 < suc m.node.0 = omega arith in g)
    (subst (λ (w : List Upward). stands n.node.0 w ≡ true) i.way (or_other (n.node.0 == m.node.0) (stands n.node.0 u.placed.way) parts.1 other)))
    (cases_Bool (n.node.0 == m.node.0)) in
    let ways : begins (numbers_of (reverse (way_up t n.node.0))) (numbers_of (reverse u.placed.way)) ≡ true =
    subst (λ (w : List Upward). begins (numbers_of (reverse (way_up t n.node.0))) (numbers_of (reverse w)) ≡ true) (sym i.way) follows in
    all_four (context.0 == u.context.0) (n.root.0 == m.root.0) (n.field == m.field) _
    (eq-eqb context.0 u.context.0 (sym (eqb-true u.context.0 context.0 first.0))) roots.1 fields.1 ways

-- so what is not under it isn't covered
pub outside_whole : (t : RegionTree) (context op : OpNumber) (n : Need) (top u : ListedNeed) → IsForest t →
    top ≡ listed_need context op (placed t n) → IsUser t u → is_under top u ≡ false → is_dominated context.0 op.0 (n ∷ []) u ≡ false
outside_whole t context op n top u f e i h = ⊎_elim
    (λ d. absurd (false≢true (sym h ∙ subst (λ (v : ListedNeed). is_under v u ≡ true) (sym e) (dominated_under t context op n u f i d))))
    (λ d. d)
    (cases_Bool (is_dominated context.0 op.0 (n ∷ []) u))

-- ---- ways, one step at a time

begins_at : (a b c d : List Upward) → a ≡ c → b ≡ d → begins (numbers_of a) (numbers_of b) ≡ begins (numbers_of c) (numbers_of d)
begins_at a b c d e f = ap (λ (xs : List Upward). begins (numbers_of xs) (numbers_of b)) e ∙ ap (λ (xs : List Upward). begins (numbers_of c) (numbers_of xs)) f

and_never : (a : Bool) → (a && false) ≡ false
and_never true = refl
and_never false = refl

-- behind the same step
pub begins_step : (a b c d : List Upward) (x y : Upward) → a ≡ x ∷ c → b ≡ y ∷ d → x.0.0 ≡ y.0.0 → x.1 ≡ y.1 →
    begins (numbers_of c) (numbers_of d) ≡ begins (numbers_of a) (numbers_of b)
begins_step a b c d x y e f s n =
    sym (begins_at a b (x ∷ c) (y ∷ d) e f
    ∙ ap (λ (p : Bool). p && ((x.1 == y.1) && begins (numbers_of c) (numbers_of d))) (eq-eqb x.0.0 y.0.0 s)
    ∙ ap (λ (p : Bool). p && begins (numbers_of c) (numbers_of d)) (eq-eqb x.1 y.1 n))

-- at another node
pub begins_node : (a b c d : List Upward) (x y : Upward) → a ≡ x ∷ c → b ≡ y ∷ d → x.0.0 ≢ y.0.0 →
    begins (numbers_of a) (numbers_of b) ≡ false
begins_node a b c d x y e f n =
    begins_at a b (x ∷ c) (y ∷ d) e f
    ∙ ap (λ (p : Bool). p && ((x.1 == y.1) && begins (numbers_of c) (numbers_of d))) (ne_eqb x.0.0 y.0.0 n)

-- at another colour
pub begins_colour : (a b c d : List Upward) (x y : Upward) → a ≡ x ∷ c → b ≡ y ∷ d → x.1 ≢ y.1 →
    begins (numbers_of a) (numbers_of b) ≡ false
begins_colour a b c d x y e f n =
    begins_at a b (x ∷ c) (y ∷ d) e f
    ∙ ap (λ (p : Bool). (x.0.0 == y.0.0) && (p && begins (numbers_of c) (numbers_of d))) (ne_eqb x.1 y.1 n)
    ∙ and_never (x.0.0 == y.0.0)

-- nothing longer is at the head
pub begins_short : (a b : List Upward) → length b < length a → begins (numbers_of a) (numbers_of b) ≡ false
begins_short [] b l = absurd (omega (arith, l))
begins_short (x ∷ a) [] l = refl
begins_short (x ∷ a) (y ∷ b) l =
    ap (λ (p : Bool). (x.0.0 == y.0.0) && ((x.1 == y.1) && p)) (begins_short a b (omega (arith, l)))
    ∙ ap (λ (p : Bool). (x.0.0 == y.0.0) && p) (and_never (x.1 == y.1)) ∙ and_never (x.0.0 == y.0.0)

-- all of it was gone along
pub begins_end : (a b : List Upward) (k : ℕ) → length a ≤ k → begins (numbers_of (drop k a)) (numbers_of (drop k b)) ≡ true
begins_end a b k l = ap (λ (xs : List Upward). begins (numbers_of xs) (numbers_of (drop k b))) (drop_of_length-le a l)
