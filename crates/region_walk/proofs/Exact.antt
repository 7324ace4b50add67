-- What is found by users is what interferes among the listed operations.
use Rattle.std.specs.Prelude.{filter}
use Rattle.std.specs.List.{list_any}
use Rattle.std.proofs.Common.{◌≡◌, ◌<◌, ◌==◌, ◌&&◌, ◌||◌, ◌∷◌, [], ◌∙◌, ℕ, Bool, true, false, cond, List, All, ap, sym, refl, map}
use Rattle.std.proofs.lemmas.List.Elements.{All-map}
use Rattle.std.proofs.lemmas.List.Folds.{list_any-append}
use Rattle.std.proofs.lemmas.List.Sorted.{list_any-IsPermutation}
use Rattle.region_finder.specs.Listings.{Listed, PlacedNeed, earlier, interferes_in, is_op, listed_ops, needs_in}
use Rattle.region_tree.specs.Needs.{requirement_of, requirements_of}
use Rattle.region_tree.specs.Requirements.{Requirement, conflict}
use Rattle.region_tree.specs.Trees.{RegionTree}
use Rattle.region_tree.specs.declared.needs.Need.{Need}
use Rattle.region_tree.specs.declared.tree.OpNumber.{OpNumber}
use Rattle.region_walk.specs.Found.{AreOrdered, put_all, put_met}
use Rattle.region_walk.specs.Near.{is_met}
use Rattle.region_walk.specs.Placing.{AreBehind, IsRising}
use Rattle.region_walk.specs.Users.{IsIndexed, ListedNeed, listed_need, users_in, users_of}
use Rattle.region_walk.proofs.Ordering.{has, has_put, ordered_put, ordered_same}
use Rattle.region_walk.proofs.Rising.{rising_filter}

-- ---- whether some element passes a test

any_alike : {X : Type 0} (p q : X → Bool) (xs : List X) → ((x : X) → p x ≡ q x) → list_any p xs ≡ list_any q xs
any_alike p q [] h = refl
any_alike p q (x ∷ xs) h = ap (λ (b : Bool). b || list_any p xs) (h x) ∙ ap (λ (b : Bool). q x || b) (any_alike p q xs h)

any_never : {X : Type 0} (xs : List X) → list_any (λ (x : X). false) xs ≡ false
any_never [] = refl
any_never (x ∷ xs) = any_never xs

any_cond : {X : Type 0} (q : X → Bool) (b : Bool) (x : X) (xs : List X) → list_any q (cond b (x ∷ xs) xs) ≡ ((b && q x) || list_any q xs)
any_cond q true x xs = refl
any_cond q false x xs = refl

any_filter : {X : Type 0} (p q : X → Bool) (xs : List X) → list_any q (filter p xs) ≡ list_any (λ (x : X). p x && q x) xs
any_filter p q [] = refl
any_filter p q (x ∷ xs) = any_cond q (p x) x (filter p xs) ∙ ap (λ (b : Bool). (p x && q x) || b) (any_filter p q xs)

any_map : {X Y : Type 0} (f : X → Y) (p : Y → Bool) (xs : List X) → list_any p (map f xs) ≡ list_any (λ (x : X). p (f x)) xs
any_map f p [] = refl
any_map f p (x ∷ xs) = ap (λ (b : Bool). p (f x) || b) (any_map f p xs)

four : (a b c d : Bool) → ((a || b) || (c || d)) ≡ ((a || c) || (b || d))
four true b c d = refl
four false true true d = refl
four false true false d = refl
four false false c d = refl

any_either : {X : Type 0} (p q : X → Bool) (xs : List X) →
    list_any (λ (x : X). p x || q x) xs ≡ (list_any p xs || list_any q xs)
any_either p q [] = refl
any_either p q (x ∷ xs) =
    ap (λ (b : Bool). (p x || q x) || b) (any_either p q xs) ∙ four (p x) (q x) (list_any p xs) (list_any q xs)

-- ---- what was put

or_more : (a b c : Bool) → (a || (b || c)) ≡ ((b || a) || c)
or_more true true c = refl
or_more true false c = refl
or_more false true c = refl
or_more false false c = refl

has_put_all : (us : List ListedNeed) (found : List OpNumber) (x : ℕ) →
    has (put_all us found) x ≡ (list_any (λ (u : ListedNeed). u.op.0 == x) us || has found x)
has_put_all [] found x = refl
has_put_all (u ∷ us) found x =
    has_put_all us _ x
    ∙ ap (λ (b : Bool). list_any (λ (v : ListedNeed). v.op.0 == x) us || b) (has_put u.op found x)
    ∙ or_more (list_any (λ (v : ListedNeed). v.op.0 == x) us) (u.op.0 == x) (has found x)

ordered_put_all : (us : List ListedNeed) (found : List OpNumber) → AreOrdered found → AreOrdered (put_all us found)
ordered_put_all [] found a = a
ordered_put_all (u ∷ us) found a = ordered_put_all us _ (ordered_put u.op found a)

-- a user of the operation conflicts with a need
abbrev is_hit : RegionTree → ℕ → ℕ → Need → ListedNeed → Bool
is_hit t c x n u = is_met t c n u && (u.op.0 == x)

has_put_met : (t : RegionTree) (c : ℕ) (ns : List Need) (us : List ListedNeed) (found : List OpNumber) (x : ℕ) →
    has (put_met t c ns us found) x ≡ (list_any (λ (n : Need). list_any (is_hit t c x n) us) ns || has found x)
has_put_met t c [] us found x = refl
has_put_met t c (n ∷ ns) us found x =
    has_put_met t c ns us _ x
    ∙ ap (λ (b : Bool). list_any (λ (m : Need). list_any (is_hit t c x m) us) ns || b)
    (has_put_all (filter (is_met t c n) us) found x
    ∙ ap (λ (b : Bool). b || has found x) (any_filter (is_met t c n) (λ (u : ListedNeed). u.op.0 == x) us))
    ∙ or_more (list_any (λ (m : Need). list_any (is_hit t c x m) us) ns) (list_any (is_hit t c x n) us) (has found x)

ordered_put_met : (t : RegionTree) (c : ℕ) (ns : List Need) (us : List ListedNeed) (found : List OpNumber) →
    AreOrdered found → AreOrdered (put_met t c ns us found)
ordered_put_met t c [] us found a = a
ordered_put_met t c (n ∷ ns) us found a = ordered_put_met t c ns us _ (ordered_put_all (filter (is_met t c n) us) found a)

-- ---- the listing

and_true : (b : Bool) → (b && true) ≡ b
and_true true = refl
and_true false = refl

and_false : (b : Bool) → (b && false) ≡ false
and_false true = refl
and_false false = refl

-- two flags on each pair are flags on all
flags_out : (a b : Bool) (f : Need → PlacedNeed → Bool) (ns : List Need) (ms : List PlacedNeed) →
    list_any (λ (n : Need). list_any (λ (m : PlacedNeed). (a && f n m) && b) ms) ns
    ≡ ((a && list_any (λ (n : Need). list_any (f n) ms) ns) && b)
flags_out false b f ns ms = any_alike _ (λ (n : Need). false) ns (λ n. any_never ms) ∙ any_never ns
flags_out true true f ns ms =
    any_alike _ (λ (n : Need). list_any (f n) ms) ns (λ n. any_alike _ (f n) ms (λ m. and_true (f n m)))
    ∙ sym (and_true (list_any (λ (n : Need). list_any (f n) ms) ns))
flags_out true false f ns ms =
    any_alike _ (λ (n : Need). false) ns (λ n. any_alike _ (λ (m : PlacedNeed). false) ms (λ m. and_false (f n m)) ∙ any_never ms)
    ∙ any_never ns ∙ sym (and_false (list_any (λ (n : Need). list_any (f n) ms) ns))

-- the requirement of a listed need conflicts with that of a need
abbrev against : RegionTree → Need → PlacedNeed → Bool
against t n m = conflict (requirement_of t n) (requirement_of t m.need)

interferes_is : (t : RegionTree) (c : ℕ) (ns : List Need) (l : Listed) →
    interferes_in t c ns l ≡ ((l.context.0 == c) && list_any (λ (n : Need). list_any (against t n) l.needs) ns)
interferes_is t c ns l = ap (λ (b : Bool). (l.context.0 == c) && b)
    (any_map (requirement_of t) (λ (r : Requirement). list_any (conflict r) (requirements_of t (needs_in l))) ns
    ∙ any_alike _ (λ (n : Need). list_any (against t n) l.needs) ns
    (λ n. any_map (requirement_of t) (conflict (requirement_of t n)) (needs_in l)
    ∙ any_map (λ (m : PlacedNeed). m.need) (λ (m : Need). conflict (requirement_of t n) (requirement_of t m)) l.needs))

hit_in : (t : RegionTree) (c x : ℕ) (ns : List Need) (l : Listed) →
    list_any (λ (n : Need). list_any (is_hit t c x n) (users_in l)) ns ≡ (interferes_in t c ns l && is_op x l)
hit_in t c x ns l =
    any_alike _ (λ (n : Need). list_any (λ (m : PlacedNeed). ((l.context.0 == c) && against t n m) && (l.op.0 == x)) l.needs) ns
    (λ n. any_map (listed_need l.context l.op) (is_hit t c x n) l.needs)
    ∙ flags_out (l.context.0 == c) (l.op.0 == x) (against t) ns l.needs
    ∙ ap (λ (b : Bool). b && (l.op.0 == x)) (sym (interferes_is t c ns l))

hit_of : (t : RegionTree) (c x : ℕ) (ns : List Need) (ls : List Listed) →
    list_any (λ (n : Need). list_any (is_hit t c x n) (users_of ls)) ns
    ≡ list_any (λ (l : Listed). interferes_in t c ns l && is_op x l) ls
hit_of t c x ns [] = any_never ns
hit_of t c x ns (l ∷ ls) =
    any_alike _ (λ (n : Need). list_any (is_hit t c x n) (users_in l) || list_any (is_hit t c x n) (users_of ls)) ns
    (λ n. list_any-append (is_hit t c x n) (users_in l) (users_of ls))
    ∙ any_either (λ (n : Need). list_any (is_hit t c x n) (users_in l)) (λ (n : Need). list_any (is_hit t c x n) (users_of ls)) ns
    ∙ ap (λ (b : Bool). b || list_any (λ (n : Need). list_any (is_hit t c x n) (users_of ls)) ns) (hit_in t c x ns l)
    ∙ ap (λ (b : Bool). (interferes_in t c ns l && is_op x l) || b) (hit_of t c x ns ls)

has_earlier : (t : RegionTree) (c : ℕ) (ns : List Need) (ls : List Listed) (x : ℕ) →
    has (earlier t ls c ns) x ≡ list_any (λ (l : Listed). interferes_in t c ns l && is_op x l) ls
has_earlier t c ns ls x =
    any_map (λ (l : Listed). l.op) (λ (o : OpNumber). o.0 == x) (filter (interferes_in t c ns) ls)
    ∙ any_filter (interferes_in t c ns) (is_op x) ls

ordered_ops : (ls : List Listed) → IsRising ls → AreOrdered (listed_ops ls)
ordered_ops [] r = tt
ordered_ops (l ∷ ls) r = (all_ops l.op.0 ls r.0, ordered_ops ls r.1)
  where
    all_ops : (k : ℕ) (ms : List Listed) → AreBehind k ms → All (λ (o : OpNumber). k < o.0) (listed_ops ms)
    all_ops k ms a = All-map (λ (o : OpNumber). k < o.0) (λ (m : Listed). m.op) ms a

or_nothing : (b : Bool) → (b || false) ≡ b
or_nothing true = refl
or_nothing false = refl

pub found_exactly : (t : RegionTree) (c : ℕ) (ns : List Need) (ls : List Listed) (us : List ListedNeed) → IsIndexed ls us →
    put_met t c ns us [] ≡ earlier t ls c ns
found_exactly t c ns ls us i =
    ordered_same (put_met t c ns us []) (earlier t ls c ns) (ordered_put_met t c ns us [] tt)
    (ordered_ops (filter (interferes_in t c ns) ls) (rising_filter (interferes_in t c ns) ls i.rising))
    (λ x. has_put_met t c ns us [] x ∙ or_nothing (list_any (λ (n : Need). list_any (is_hit t c x n) us) ns)
    ∙ any_alike _ (λ (n : Need). list_any (is_hit t c x n) (users_of ls)) ns
    (λ n. sym (list_any-IsPermutation (is_hit t c x n) (users_of ls) us i.users))
    ∙ hit_of t c x ns ls ∙ sym (has_earlier t c ns ls x))
