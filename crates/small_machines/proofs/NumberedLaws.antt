-- Laws of the small machine over names of roots.
use Rattle.std.proofs.Common.{◌≡◌, ◌∙◌, ◌++◌, ◌∷◌, ◌||◌, ◌⊎◌, Bool, List, None, Option, Some, [], ap, cond, eq-eqb, eqb-true, false, inl, inr, nat_eq, not, refl, subst, suc, sym, true, zero, ℕ}
use Rattle.std.proofs.lemmas.Bool.{and_from, and_parts}
use Rattle.board_rules.specs.Ground.{Ground, Mode, reads, reduces, writes}
use Rattle.board_rules.specs.Processes.{Apart, Inside}
use Rattle.board_rules.specs.Running.{After, Element, Held, Laws, MadeAt, spots, want, stops}
use Rattle.board_rules.specs.Renaming.{ground_over}
use Rattle.small_machines.specs.Small.{Op, clash, covered, join, joined, same_mode, same_op}
use Rattle.small_machines.specs.NumberedMachines.{Code, Location, Needs, Touch, base, call, each, ended, failed, hear, inside, load, machine, meets, meets_number, need, needed, new_needs, new_root, new_zeros, no_part, no_root, nothing, one_need, one_spot, print, roots, same_loc, segment, set, store, store_at, touch, yields}
use Rattle.board_laws.proofs.Reaching.{by_test}
use Rattle.small_machines.proofs.SmallLaws.{applied_swaps, mode_same, same_op_is}

module _ (A : Type 0) (sr : A → A → Bool) (is : (a b : A) → sr a b ≡ true → a ≡ b) (self : (a : A) → sr a a ≡ true) (am : A → List ℕ) (an : A → ℕ) (nm : List ℕ → ℕ → A)
    (am_nm : (p : List ℕ) (i : ℕ) → am (nm p i) ≡ p) (an_nm : (p : List ℕ) (i : ℕ) → an (nm p i) ≡ i) where
  abbrev T : Ground
  T = ground_over base (roots A sr am an)

  loc_is : (a b : Location A) → same_loc A sr a b ≡ true → a ≡ b
  loc_is a b e = let x = and_parts (nat_eq a.point b.point) (sr a.root b.root) e in λ i. record { root = is a.root b.root x.1 i; point = eqb-true a.point b.point x.0 i }

  loc_self : (a : Location A) → same_loc A sr a a ≡ true
  loc_self a = and_from _ _ (eq-eqb a.point a.point refl) (self a.root)

  each_at : (f : Location A → Bool) (N : Needs A) (l : Location A) → each A sr am an nm f N ≡ true → (needed A sr N l ≡ None) ⊎ (f l ≡ true)
  each_at f nothing l e = inl refl
  each_at f (need k a N) l e = let x = and_parts (f k) (each A sr am an nm f N) e in by_test (same_loc A sr k l) (λ b. (cond b (join a (needed A sr N l)) (needed A sr N l) ≡ None) ⊎ (f l ≡ true))
      (λ s. inr (subst (λ y. f y ≡ true) (loc_is k l s) x.0)) (λ s. each_at f N l x.1)

  clear_apart : (a b : Option (Mode Op)) → not (clash a b) ≡ true → Apart T a b
  clear_apart None b e = tt
  clear_apart (Some a) None e = tt
  clear_apart (Some reads) (Some reads) e = tt
  clear_apart (Some reads) (Some writes) e = absurd cc
  clear_apart (Some reads) (Some (reduces q)) e = absurd cc
  clear_apart (Some writes) (Some reads) e = absurd cc
  clear_apart (Some writes) (Some writes) e = absurd cc
  clear_apart (Some writes) (Some (reduces q)) e = absurd cc
  clear_apart (Some (reduces p)) (Some reads) e = absurd cc
  clear_apart (Some (reduces p)) (Some writes) e = absurd cc
  clear_apart (Some (reduces p)) (Some (reduces q)) e = same_op_is p q (twice (same_op p q) e)
    where
      twice : (b : Bool) → not (not b) ≡ true → b ≡ true
      twice true e = refl
      twice false e = absurd cc

  covered_inside : (a b : Option (Mode Op)) → covered a b ≡ true → Inside T a b
  covered_inside None b e = tt
  covered_inside (Some a) None e = absurd cc
  covered_inside (Some a) (Some b) e = by_test (same_mode a b) (λ t. same_mode a b ≡ t → (t || same_mode writes b) ≡ true → Inside T (Some a) (Some b))
      (λ t k h. inl (ap (λ x. Some x) (mode_same a b k))) (λ t k h. inr (ap (λ x. Some x) (mode_same writes b h))) refl e

  meets_apart : (a b : Needs A) → meets A sr am an nm a b ≡ false → (l : Location A) → Apart T (needed A sr a l) (needed A sr b l)
  meets_apart a b e l = elim (each_at (λ k. not (clash (needed A sr a k) (needed A sr b k))) a l (positive _ e)) [
    | inl n ↦ subst (λ x. Apart T x (needed A sr b l)) (sym n) tt
    | inr t ↦ clear_apart (needed A sr a l) (needed A sr b l) t
  ]
    where
      positive : (t : Bool) → not t ≡ false → t ≡ true
      positive true e = refl
      positive false e = absurd cc

  inside_is : (a b : Needs A) → inside A sr am an nm a b ≡ true → (l : Location A) → Inside T (needed A sr a l) (needed A sr b l)
  inside_is a b e l = elim (each_at (λ k. covered (needed A sr a k) (needed A sr b k)) a l e) [
    | inl n ↦ subst (λ x. Inside T x (needed A sr b l)) (sym n) tt
    | inr t ↦ covered_inside (needed A sr a l) (needed A sr b l) t
  ]

  one_held : (f : Location A → Option (Mode Op)) (l : Location A) (o : Option (Mode Op)) → f l ≡ o → Held T f (one_spot A sr am an nm l o)
  one_held f l None e = tt
  one_held f l (Some a) e = (inl e, tt)

  one_needed : (l : Location A) (o : Option (Mode Op)) → needed A sr (one_need A sr am an nm l o) l ≡ o
  one_needed l None = refl
  one_needed l (Some a) = ap (λ b. cond b (Some a) None) (loc_self l)

  zeros_mine : (p : List ℕ) (i n : ℕ) → MadeAt T p i (new_zeros A sr am an nm (nm p i) n)
  zeros_mine p i zero = tt
  zeros_mine p i (suc n) = (am_nm p i, an_nm p i, zeros_mine p i n)

  new_more : (r : A) (n : ℕ) (N : Needs A) (l : Location A) → Inside T (needed A sr N l) (needed A sr (new_needs A sr am an nm r n N) l)
  new_more r zero N l = same (needed A sr N l)
    where
      same : (a : Option (Mode Op)) → Inside T a a
      same None = tt
      same (Some a) = inl refl
  new_more r (suc n) N l = by_test (same_loc A sr (record { root = r; point = n }) l) (λ b. Inside T (needed A sr N l) (cond b (join writes (needed A sr (new_needs A sr am an nm r n N) l)) (needed A sr (new_needs A sr am an nm r n N) l)))
      (λ s. written (needed A sr N l) (needed A sr (new_needs A sr am an nm r n N) l)) (λ s. new_more r n N l)
    where
      joined_writes : (b : Mode Op) → joined writes b ≡ writes
      joined_writes reads = refl
      joined_writes writes = refl
      joined_writes (reduces q) = refl

      written : (a b : Option (Mode Op)) → Inside T a (join writes b)
      written None b = tt
      written (Some a) None = inr refl
      written (Some a) (Some b) = inr (ap (λ x. Some x) (joined_writes b))

  new_at : (r : A) (n : ℕ) (N : Needs A) (l : Location A) → (needed A sr (new_needs A sr am an nm r n N) l ≡ needed A sr N l) ⊎ (r ≡ l.root)
  new_at r zero N l = inl refl
  new_at r (suc n) N l = by_test (same_loc A sr (record { root = r; point = n }) l)
      (λ b. (cond b (join writes (needed A sr (new_needs A sr am an nm r n N) l)) (needed A sr (new_needs A sr am an nm r n N) l) ≡ needed A sr N l) ⊎ (r ≡ l.root))
      (λ s. inr (is r l.root (and_parts (nat_eq n l.point) (sr r l.root) s).1)) (λ s. new_at r n N l)

  store_spots : (l : Location A) (n : ℕ) (xs : List (Element T)) → spots T (store_at A sr am an nm l n xs) ≡ spots T xs
  store_spots l n [] = refl
  store_spots l n (x ∷ xs) = ap (λ ys. record { location = x.location; mode = x.mode } ∷ ys) (store_spots l n xs)

  keeps : (c : Code) (t : List ℕ) (n : ℕ) (rs : List A) (ps : List (Element T)) → spots T (segment A sr am an nm c t n rs ps).parts ≡ spots T ps
  keeps ended t n rs ps = refl
  keeps (failed x) t n rs ps = refl
  keeps (print k) t n rs ps = keeps k (t ++ n ∷ []) n rs ps
  keeps (set v k) t n rs ps = keeps k t v rs ps
  keeps (load c x k) t n rs ps = by_touch (λ v. keeps k t v rs ps) (touch A sr am an nm rs ps c x)
    where
      by_touch : ((v : ℕ) → spots T (segment A sr am an nm k t v rs ps).parts ≡ spots T ps) → (o : Touch A) → spots T (elim o as (λ y. After T) [
        | no_root ↦ yields A sr am an nm t ended n rs ps (stops 0)
        | no_part l ↦ yields A sr am an nm t (load c x k) n rs ps (want l)
        | meets_number l v ↦ segment A sr am an nm k t v rs ps
      ]).parts ≡ spots T ps
      by_touch h no_root = refl
      by_touch h (no_part l) = refl
      by_touch h (meets_number l v) = h v
  keeps (store c x k) t n rs ps = by_touch (λ l. keeps k t n rs (store_at A sr am an nm l n ps) ∙ store_spots l n ps) (touch A sr am an nm rs ps c x)
    where
      by_touch : ((l : Location A) → spots T (segment A sr am an nm k t n rs (store_at A sr am an nm l n ps)).parts ≡ spots T ps) → (o : Touch A) → spots T (elim o as (λ y. After T) [
        | no_root ↦ yields A sr am an nm t ended n rs ps (stops 0)
        | no_part l ↦ yields A sr am an nm t (store c x k) n rs ps (want l)
        | meets_number l v ↦ segment A sr am an nm k t n rs (store_at A sr am an nm l n ps)
      ]).parts ≡ spots T ps
      by_touch h no_root = refl
      by_touch h (no_part l) = refl
      by_touch h (meets_number l v) = h l
  keeps (call w c k) t n rs ps = refl
  keeps (hear c k) t n rs ps = refl
  keeps (new_root size k) t n rs ps = refl

  pub machine_laws : Laws T (machine A sr am an nm)
  machine_laws = record {
    terms = record { same_is = loc_is; same_self = loc_self; swaps = applied_swaps };
    segment_keeps = λ f ps. keeps f.code [] f.number f.roots ps;
    apart = meets_apart;
    is_inside = inside_is;
    wanted_held = λ N l. one_held (needed A sr N) l (needed A sr N l) refl;
    narrowed_held = λ N l. one_held (needed A sr (one_need A sr am an nm l (needed A sr N l))) l (needed A sr N l) (one_needed l (needed A sr N l));
    zeros_mine = zeros_mine;
    grown_more = λ p i d N l. new_more (nm p i) d N l;
    grown_at = λ p i d N l. elim (new_at (nm p i) d N l) [ inl e ↦ inl e | inr e ↦ inr (ap am (sym e) ∙ am_nm p i, ap an (sym e) ∙ an_nm p i) ];
  }
