-- Users that are passed without a test.
use Rattle.std.specs.Prelude.{filter, reverse}
use Rattle.std.specs.List.Sorted.{IsPartitionPoint, IsPartitionedBy}
use Rattle.std.proofs.Common.{◌≡◌, ◌<◌, ◌≤◌, ◌+◌, ◌-◌, ◌&&◌, ◌⊎◌, ◌∷◌, [], ◌∙◌, ℕ, suc, zero, Bool, true, false, cond, List, All, inl, inr, ⊎_elim, ap, sym, refl, subst, arith, drop, get_or, length}
use Rattle.std.proofs.lemmas.Bool.{cases_Bool, cases_eq, cases_order, false≢true}
use Rattle.std.proofs.lemmas.List.{drop_more, get_or-drop, length-drop}
use Rattle.std.proofs.lemmas.List.Elements.{All-head, All-tail}
use Rattle.region_finder.specs.Forests.{IsForest, Upward, way_up}
use Rattle.region_tree.specs.Needs.{IsNeed}
use Rattle.region_tree.specs.Trees.{RegionTree}
use Rattle.region_tree.specs.declared.needs.Need.{Need}
use Rattle.region_walk.specs.Near.{is_met, is_near}
use Rattle.region_walk.specs.Sides.{AreByKey, ArePassed, AtMost, LeaveAlike, is_beside, is_less, is_of, key, least_key}
use Rattle.region_walk.specs.Users.{IsUser, ListedNeed}
use Rattle.region_walk.proofs.Descending.{beside_far, not_of_far}
use Rattle.region_walk.proofs.Keys.{behind_not_of, below_not_of, keyed_drop, keyed_up, parted_beside}
use Rattle.region_walk.proofs.Nearness.{met_among}
use Rattle.region_walk.proofs.Skipping.{filter_between, filter_both, filter_skips}

-- the default is of no matter within a list
pub get_alike : (i : ℕ) (us : List ListedNeed) (d e : ListedNeed) → i < length us → get_or us i d ≡ get_or us i e
get_alike i [] d e l = absurd (omega (arith, l))
get_alike zero (u ∷ us) d e l = refl
get_alike (suc i) (u ∷ us) d e l = get_alike i us d e (omega (arith, l))

-- ---- places

pub pass_none : (c : ℕ) (n : Need) (way : List Upward) (place end : ℕ) (us : List ListedNeed) → end ≡ place + 1 → ArePassed c n way place end us
pass_none c n way place end us e = record { each = λ i d l m. absurd (omega (arith, e, l, m)) }

-- all that are left, behind the last of a root and field
pub pass_end : (c : ℕ) (n : Need) (way : List Upward) (place end : ℕ) (us : List ListedNeed) (e : ListedNeed) → AreByKey us →
    place < length us → end ≤ length us → is_less (key (get_or us place e)) (least_key c n) ≡ false → is_of c n (get_or us place e) ≡ false →
    ArePassed c n way place end us
pass_end c n way place end us e a b x h o = record {
  each = λ i d l m. inl (behind_not_of c n (get_or us place e) (get_or us i d) h o
      (subst (λ u. AtMost (key u) (key (get_or us i d))) (get_alike place us d e b) (keyed_up us place i d a (omega (arith, l)) (omega (arith, m, x)))));
}

-- those that leave the way as the first one does
pub pass_beside : (c : ℕ) (n : Need) (way : List Upward) (k : ℕ) (side : Bool) (place count : ℕ) (us : List ListedNeed) (e : ListedNeed) →
    place < length us → is_beside c n way k side (get_or us place e) ≡ true →
    IsPartitionPoint (λ (u : ListedNeed). is_beside c n way k side u ≡ true) (λ (u : ListedNeed). is_beside c n way k side u ≡ false) (drop place us) count →
    ArePassed c n way place (place + count) us
pass_beside c n way k side place count us e b h p = record {
  each = λ i d l m. inr (record {
    steps = k;
    side = side;
    one = subst (λ u. is_beside c n way k side u ≡ true) (get_alike place us e d b) h;
    other = subst (λ (j : ℕ). is_beside c n way k side (get_or us j d) ≡ true)
        (let g : place + (i - place) ≡ i = omega (arith, l) in g)
        (subst (λ u. is_beside c n way k side u ≡ true) (get_or-drop place us (i - place) d)
        (p.0 (i - place) d (omega arith) (omega (arith, l, m))));
  });
}

-- the first one is of them
pub beside_first : (c : ℕ) (n : Need) (way : List Upward) (k : ℕ) (side : Bool) (place : ℕ) (us : List ListedNeed) (e d : ListedNeed) →
    place < length us → is_beside c n way k side (get_or us place e) ≡ true → is_beside c n way k side (get_or (drop place us) 0 d) ≡ true
beside_first c n way k side place us e d b h =
    ap (is_beside c n way k side) (get_or-drop place us 0 d
    ∙ ap (λ (j : ℕ). get_or us j d) (let g : place + 0 ≡ place = omega arith in g) ∙ get_alike place us d e b) ∙ h

pub parted_from : (c : ℕ) (n : Need) (way : List Upward) (k : ℕ) (side : Bool) (place : ℕ) (us : List ListedNeed) (e : ListedNeed) →
    AreByKey us → place < length us → is_beside c n way k side (get_or us place e) ≡ true →
    IsPartitionedBy (is_beside c n way k side) (drop place us)
parted_from c n way k side place us e a b h =
    parted_beside c n way k side (drop place us) (keyed_drop place us a) (λ d. beside_first c n way k side place us e d b h)

-- so it is among them
pub pass_some : (c : ℕ) (n : Need) (way : List Upward) (k : ℕ) (side : Bool) (place count : ℕ) (us : List ListedNeed) (e : ListedNeed) →
    place < length us → is_beside c n way k side (get_or us place e) ≡ true →
    IsPartitionPoint (λ (u : ListedNeed). is_beside c n way k side u ≡ true) (λ (u : ListedNeed). is_beside c n way k side u ≡ false) (drop place us) count →
    0 < count
pass_some c n way k side place count us e b h p = ⊎_elim
    (λ z. absurd (false≢true (sym (p.1 0 e (omega (arith, z)) (omega (arith, b, length-drop place us)))
    ∙ ap (is_beside c n way k side) (get_or-drop place us 0 e ∙ ap (λ (j : ℕ). get_or us j e) (let g : place + 0 ≡ place = omega arith in g)) ∙ h)))
    (λ z. omega (arith, z))
    (cases_eq count 0)

-- ---- what is passed isn't near

among_tail : (P : ListedNeed → Type 0) (p : ListedNeed → Bool) (u : ListedNeed) (us : List ListedNeed) → All P (filter p (u ∷ us)) → All P (filter p us)
among_tail P p u us a = ⊎_elim
    (λ h. All-tail P u (filter p us) (subst (λ (b : Bool). All P (cond b (u ∷ filter p us) (filter p us))) h a))
    (λ h. subst (λ (b : Bool). All P (cond b (u ∷ filter p us) (filter p us))) h a)
    (cases_Bool (p u))

pub among_get : (P : ListedNeed → Type 0) (p : ListedNeed → Bool) (us : List ListedNeed) (i : ℕ) (d : ListedNeed) → All P (filter p us) →
    i < length us → p (get_or us i d) ≡ true → P (get_or us i d)
among_get P p [] i d a l h = absurd (omega (arith, l))
among_get P p (u ∷ us) zero d a l h = All-head P u (filter p us) (subst (λ (b : Bool). All P (cond b (u ∷ filter p us) (filter p us))) h a)
among_get P p (u ∷ us) (suc i) d a l h = among_get P p us i d (among_tail P p u us a) (omega (arith, l)) h

among_drop : (P : ListedNeed → Type 0) (p : ListedNeed → Bool) (i : ℕ) (us : List ListedNeed) → All P (filter p us) → All P (filter p (drop i us))
among_drop P p zero us a = a
among_drop P p (suc i) [] a = a
among_drop P p (suc i) (u ∷ us) a = among_drop P p i us (among_tail P p u us a)

-- one that passes the first of two tests fails the other
none_near : (a b : Bool) → (a ≡ true → b ≡ false) → (a && b) ≡ false
none_near true b h = h refl
none_near false b h = refl

pub pass_all : (t : RegionTree) (c : ℕ) (n : Need) (p : ListedNeed → Bool) (place end : ℕ) (us : List ListedNeed) (d : ListedNeed) →
    IsForest t → IsNeed t n → All (IsUser t) (filter p us) → p (get_or us place d) ≡ true → is_near t c n (get_or us place d) ≡ false →
    ArePassed c n (reverse (way_up t n.node.0)) place end us → place < end → end ≤ length us →
    filter (is_near t c n) (filter p (drop end us)) ≡ filter (is_near t c n) (filter p (drop place us))
pass_all t c n p place end us d f a b live h q l m =
    filter_both (is_near t c n) p (drop end us)
    ∙ ap (λ (k : ℕ). filter (λ (u : ListedNeed). p u && is_near t c n u) (drop k us)) (let e : end ≡ place + (end - place) = omega (arith, l) in e)
    ∙ filter_between (λ (u : ListedNeed). p u && is_near t c n u) place (end - place) us d
    (λ i x y. none_near (p (get_or us i d)) (is_near t c n (get_or us i d)) (⊎_elim
    (λ e g. subst (λ (k : ℕ). is_near t c n (get_or us k d) ≡ false) e h)
    (λ e. ⊎_elim
    (λ g. far i (omega (arith, y, l)) (q.each i d g (omega (arith, y, l))))
    (λ g. absurd (omega (arith, x, g))) e)
    (cases_order place i)))
    (omega (arith, l, m))
    ∙ sym (filter_both (is_near t c n) p (drop place us))
  where
    far : (i : ℕ) → i < end → (is_of c n (get_or us i d) ≡ false) ⊎ LeaveAlike c n (reverse (way_up t n.node.0)) (get_or us place d) (get_or us i d) →
        p (get_or us i d) ≡ true → is_near t c n (get_or us i d) ≡ false
    far i y r g = ⊎_elim
        (λ e. not_of_far t c n (get_or us i d) e)
        (λ s. beside_far t c n s.steps s.side (get_or us place d) (get_or us i d) f a
        (among_get (IsUser t) p us place d b (omega (arith, l, m)) live) (among_get (IsUser t) p us i d b (omega (arith, y, m)) g) h s.one s.other)
        r

-- a user of a need, to name one
abbrev pub nobody : Need → ListedNeed
nobody n = record { context = record { 0 = 0 }; op = record { 0 = 0 }; placed = record { need = n; way = [] } }

-- those before the first of a root and field
pub pass_first : (t : RegionTree) (c : ℕ) (n : Need) (p : ListedNeed → Bool) (place : ℕ) (us : List ListedNeed) (d : ListedNeed) → place ≤ length us →
    ((i : ℕ) → i < place → is_less (key (get_or us i d)) (least_key c n) ≡ true) →
    filter (is_near t c n) (filter p (drop place us)) ≡ filter (is_near t c n) (filter p us)
pass_first t c n p place us d l q =
    filter_both (is_near t c n) p (drop place us)
    ∙ filter_skips (λ (u : ListedNeed). p u && is_near t c n u) place us d
    (λ i m. none_near (p (get_or us i d)) (is_near t c n (get_or us i d)) (λ g. not_of_far t c n (get_or us i d) (below_not_of c n (get_or us i d) (q i m)))) l
    ∙ sym (filter_both (is_near t c n) p us)

-- where none that is near was passed, none that conflicts was
pub pass_met : (t : RegionTree) (c : ℕ) (n : Need) (p : ListedNeed → Bool) (i j : ℕ) (us : List ListedNeed) → IsForest t → IsNeed t n →
    All (IsUser t) (filter p us) →
    filter (is_near t c n) (filter p (drop i us)) ≡ filter (is_near t c n) (filter p (drop j us)) →
    filter (is_met t c n) (filter p (drop i us)) ≡ filter (is_met t c n) (filter p (drop j us))
pass_met t c n p i j us f a b e =
    sym (met_among t c n (filter p (drop i us)) f a (among_drop (IsUser t) p i us b))
    ∙ ap (filter (is_met t c n)) e
    ∙ met_among t c n (filter p (drop j us)) f a (among_drop (IsUser t) p j us b)

-- ---- one user on

-- one that fails the test is passed
pub pass_stale : (p : ListedNeed → Bool) (place : ℕ) (us : List ListedNeed) (d : ListedNeed) → place < length us →
    p (get_or us place d) ≡ false → filter p (drop (place + 1) us) ≡ filter p (drop place us)
pass_stale p place us d l h =
    let rest = filter p (drop (place + 1) us) in
    sym (ap (filter p) (drop_more us place d l) ∙ ap (λ (b : Bool). cond b (get_or us place d ∷ rest) rest) h)

-- one that passes it comes before those behind it
pub pass_live : (p : ListedNeed → Bool) (place : ℕ) (us : List ListedNeed) (d : ListedNeed) → place < length us →
    p (get_or us place d) ≡ true → filter p (drop place us) ≡ get_or us place d ∷ filter p (drop (place + 1) us)
pass_live p place us d l h =
    let rest = filter p (drop (place + 1) us) in
    ap (filter p) (drop_more us place d l) ∙ ap (λ (b : Bool). cond b (get_or us place d ∷ rest) rest) h
