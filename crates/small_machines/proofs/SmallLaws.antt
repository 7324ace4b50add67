-- Laws of the small machine.
use Rattle.std.proofs.Common.{◌≡◌, ◌∙◌, ◌++◌, ◌∷◌, ◌||◌, ◌⊎◌, Bool, List, None, Option, Some, [], ap, arith, cond, eq-eqb, eqb-true, false, inl, inr, nat_eq, not, refl, subst, suc, sym, true, zero, ℕ}
use Rattle.std.proofs.lemmas.Bool.{and_from, and_parts}
use Rattle.board_rules.specs.Ground.{Mode, reads, reduces, writes}
use Rattle.board_rules.specs.Processes.{Apart, Inside}
use Rattle.board_rules.specs.Running.{After, Element, Held, Laws, MadeAt, spots, want}
use Rattle.small_machines.specs.Small.{Code, Location, Needs, Op, applied, call, clash, covered, each, ended, failed, greatest, hear, inside, join, joined, load, meets, need, needed, new_needs, new_root, new_zeros, nothing, number_at, one_need, one_spot, print, same_list, same_loc, same_mode, same_op, segment, set, store, store_at, sum, small_ground, small_machine, yields}
use Rattle.board_laws.proofs.Reaching.{by_test}

pub same_list_is : (p q : List ℕ) → same_list p q ≡ true → p ≡ q
same_list_is [] [] e = refl
same_list_is [] (b ∷ q) e = absurd cc
same_list_is (a ∷ p) [] e = absurd cc
same_list_is (a ∷ p) (b ∷ q) e = let parts = and_parts (nat_eq a b) (same_list p q) e in λ i. eqb-true a b parts.0 i ∷ same_list_is p q parts.1 i

pub same_list_self : (p : List ℕ) → same_list p p ≡ true
same_list_self [] = refl
same_list_self (a ∷ p) = and_from _ _ (eq-eqb a a refl) (same_list_self p)

pub same_loc_is : (a b : Location) → same_loc a b ≡ true → a ≡ b
same_loc_is a b e = let x = and_parts (nat_eq a.point b.point) _ e in let y = and_parts (nat_eq a.making b.making) _ x.1 in
    λ i. record { maker = same_list_is a.maker b.maker y.1 i; making = eqb-true a.making b.making y.0 i; point = eqb-true a.point b.point x.0 i }

pub same_loc_self : (a : Location) → same_loc a a ≡ true
same_loc_self a = and_from _ _ (eq-eqb a.point a.point refl) (and_from _ _ (eq-eqb a.making a.making refl) (same_list_self a.maker))

pub applied_swaps : (o : Op) (a b c : ℕ) → applied o (applied o a b) c ≡ applied o (applied o a c) b
applied_swaps sum a b c = omega arith
applied_swaps greatest a b c = omega arith

pub same_op_is : (p q : Op) → same_op p q ≡ true → p ≡ q
same_op_is sum sum e = refl
same_op_is greatest greatest e = refl
same_op_is sum greatest e = absurd cc
same_op_is greatest sum e = absurd cc

each_at : (f : Location → Bool) (N : Needs) (l : Location) → each f N ≡ true → (needed N l ≡ None) ⊎ (f l ≡ true)
each_at f nothing l e = inl refl
each_at f (need k a N) l e = let x = and_parts (f k) (each f N) e in by_test (same_loc k l) (λ b. (cond b (join a (needed N l)) (needed N l) ≡ None) ⊎ (f l ≡ true))
    (λ s. inr (subst (λ y. f y ≡ true) (same_loc_is k l s) x.0)) (λ s. each_at f N l x.1)

clear_apart : (a b : Option (Mode Op)) → not (clash a b) ≡ true → Apart small_ground a b
clear_apart None b e = tt
clear_apart (Some a) None e = tt
clear_apart (Some reads) (Some reads) e = tt
clear_apart (Some reads) (Some writes) e = absurd cc
clear_apart (Some reads) (Some (reduces q)) e = absurd cc
clear_apart (Some writes) (Some reads) e = absurd cc
clear_apart (Some writes) (Some writes) e = absurd cc
clear_apart (Some writes) (Some (reduces q)) e = absurd cc
clear_apart (Some (reduces p)) (Some reads) e = absurd cc
clear_apart (Some (reduces p)) (Some writes) e = absurd cc
clear_apart (Some (reduces p)) (Some (reduces q)) e = same_op_is p q (twice (same_op p q) e)
  where
    twice : (b : Bool) → not (not b) ≡ true → b ≡ true
    twice true e = refl
    twice false e = absurd cc

pub mode_same : (a b : Mode Op) → same_mode a b ≡ true → b ≡ a
mode_same reads reads e = refl
mode_same writes writes e = refl
mode_same (reduces p) (reduces q) e = ap (λ x. reduces x) (sym (same_op_is p q e))
mode_same reads writes e = absurd cc
mode_same reads (reduces q) e = absurd cc
mode_same writes reads e = absurd cc
mode_same writes (reduces q) e = absurd cc
mode_same (reduces p) reads e = absurd cc
mode_same (reduces p) writes e = absurd cc

covered_inside : (a b : Option (Mode Op)) → covered a b ≡ true → Inside small_ground a b
covered_inside None b e = tt
covered_inside (Some a) None e = absurd cc
covered_inside (Some a) (Some b) e = by_test (same_mode a b) (λ t. same_mode a b ≡ t → (t || same_mode writes b) ≡ true → Inside small_ground (Some a) (Some b))
    (λ t k h. inl (ap (λ x. Some x) (mode_same a b k))) (λ t k h. inr (ap (λ x. Some x) (mode_same writes b h))) refl e

pub meets_apart : (a b : Needs) → meets a b ≡ false → (l : Location) → Apart small_ground (needed a l) (needed b l)
meets_apart a b e l = elim (each_at (λ k. not (clash (needed a k) (needed b k))) a l (positive _ e)) [
  | inl n ↦ subst (λ x. Apart small_ground x (needed b l)) (sym n) tt
  | inr t ↦ clear_apart (needed a l) (needed b l) t
]
  where
    positive : (t : Bool) → not t ≡ false → t ≡ true
    positive true e = refl
    positive false e = absurd cc

pub inside_is : (a b : Needs) → inside a b ≡ true → (l : Location) → Inside small_ground (needed a l) (needed b l)
inside_is a b e l = elim (each_at (λ k. covered (needed a k) (needed b k)) a l e) [
  | inl n ↦ subst (λ x. Inside small_ground x (needed b l)) (sym n) tt
  | inr t ↦ covered_inside (needed a l) (needed b l) t
]

pub one_held : (f : Location → Option (Mode Op)) (l : Location) (o : Option (Mode Op)) → f l ≡ o → Held small_ground f (one_spot l o)
one_held f l None e = tt
one_held f l (Some a) e = (inl e, tt)

pub one_needed : (l : Location) (o : Option (Mode Op)) → needed (one_need l o) l ≡ o
one_needed l None = refl
one_needed l (Some a) = ap (λ b. cond b (Some a) None) (same_loc_self l)

pub zeros_mine : (p : List ℕ) (i n : ℕ) → MadeAt small_ground p i (new_zeros p i n)
zeros_mine p i zero = tt
zeros_mine p i (suc n) = (refl, refl, zeros_mine p i n)

pub new_more : (p : List ℕ) (i n : ℕ) (N : Needs) (l : Location) → Inside small_ground (needed N l) (needed (new_needs p i n N) l)
new_more p i zero N l = self (needed N l)
  where
    self : (a : Option (Mode Op)) → Inside small_ground a a
    self None = tt
    self (Some a) = inl refl
new_more p i (suc n) N l = by_test (same_loc (record { maker = p; making = i; point = n }) l) (λ b. Inside small_ground (needed N l) (cond b (join writes (needed (new_needs p i n N) l)) (needed (new_needs p i n N) l)))
    (λ s. written (needed N l) (needed (new_needs p i n N) l)) (λ s. new_more p i n N l)
  where
    joined_writes : (b : Mode Op) → joined writes b ≡ writes
    joined_writes reads = refl
    joined_writes writes = refl
    joined_writes (reduces q) = refl

    written : (a b : Option (Mode Op)) → Inside small_ground a (join writes b)
    written None b = tt
    written (Some a) None = inr refl
    written (Some a) (Some b) = inr (ap (λ x. Some x) (joined_writes b))

pub new_at : (p : List ℕ) (i n : ℕ) (N : Needs) (l : Location) → (needed (new_needs p i n N) l ≡ needed N l) ⊎ ((l.maker ≡ p) × (l.making ≡ i))
new_at p i zero N l = inl refl
new_at p i (suc n) N l = by_test (same_loc (record { maker = p; making = i; point = n }) l)
    (λ b. (cond b (join writes (needed (new_needs p i n N) l)) (needed (new_needs p i n N) l) ≡ needed N l) ⊎ ((l.maker ≡ p) × (l.making ≡ i)))
    (λ s. inr (mine (same_loc_is _ l s))) (λ s. new_at p i n N l)
  where
    mine : record { maker = p; making = i; point = n } ≡ l → (l.maker ≡ p) × (l.making ≡ i)
    mine e = (λ j. (e' (sym e) j).maker, λ j. (e' (sym e) j).making)
      where
        e' : l ≡ record { maker = p; making = i; point = n } → l ≡ record { maker = p; making = i; point = n }
        e' x = x

store_spots : (l : Location) (n : ℕ) (xs : List (Element small_ground)) → spots small_ground (store_at l n xs) ≡ spots small_ground xs
store_spots l n [] = refl
store_spots l n (x ∷ xs) = ap (λ ys. record { location = x.location; mode = x.mode } ∷ ys) (store_spots l n xs)

pub segment_keeps : (c : Code) (t : List ℕ) (n : ℕ) (ps : List (Element small_ground)) → spots small_ground (segment c t n ps).parts ≡ spots small_ground ps
segment_keeps ended t n ps = refl
segment_keeps (failed x) t n ps = refl
segment_keeps (print k) t n ps = segment_keeps k (t ++ n ∷ []) n ps
segment_keeps (set v k) t n ps = segment_keeps k t v ps
segment_keeps (load l k) t n ps = loaded (λ v. segment_keeps k t v ps) (number_at l ps)
  where
    loaded : ((v : ℕ) → spots small_ground (segment k t v ps).parts ≡ spots small_ground ps) → (o : Option ℕ) →
        spots small_ground (elim o as (λ x. After small_ground) [ Some v ↦ segment k t v ps | None ↦ yields t (load l k) n ps (want l) ]).parts ≡ spots small_ground ps
    loaded h (Some v) = h v
    loaded h None = refl
segment_keeps (store l k) t n ps = saved (segment_keeps k t n (store_at l n ps) ∙ store_spots l n ps) (number_at l ps)
  where
    saved : spots small_ground (segment k t n (store_at l n ps)).parts ≡ spots small_ground ps → (o : Option ℕ) →
        spots small_ground (elim o as (λ x. After small_ground) [ Some v ↦ segment k t n (store_at l n ps) | None ↦ yields t (store l k) n ps (want l) ]).parts ≡ spots small_ground ps
    saved h (Some v) = h
    saved h None = refl
segment_keeps (call N c k) t n ps = refl
segment_keeps (hear c k) t n ps = refl
segment_keeps (new_root size k) t n ps = refl

pub small_laws : Laws small_ground small_machine
small_laws = record {
  terms = record { same_is = same_loc_is; same_self = same_loc_self; swaps = applied_swaps };
  segment_keeps = λ f ps. segment_keeps f.code [] f.number ps;
  apart = meets_apart;
  is_inside = inside_is;
  wanted_held = λ N l. one_held (needed N) l (needed N l) refl;
  narrowed_held = λ N l. one_held (needed (one_need l (needed N l))) l (needed N l) (one_needed l (needed N l));
  zeros_mine = zeros_mine;
  grown_more = new_more;
  grown_at = new_at;
}
