-- Entries of the operations of a range of users, of which what is covered is taken out.
use Rattle.std.specs.Prelude.{filter, nat_lt}
use Rattle.std.proofs.Common.{◌≡◌, ◌<◌, ◌≤◌, ◌+◌, ◌-◌, ◌==◌, ◌++◌, ◌&&◌, ◌||◌, ◌⊎◌, ◌∷◌, [], ◌∙◌, ℕ, suc, zero, Bool, true, false, cond, not, List, All, inl, inr, ⊎_elim, ap, sym, refl, subst, arith, drop, get_or, length, map, set, take}
use Rattle.std.proofs.lemmas.Bool.{cases_Bool, cases_lt, eq-eqb, false≢true, ne_eqb}
use Rattle.std.proofs.lemmas.List.{get_or-drop, get_or-take, length-drop, length-take}
use Rattle.std.proofs.lemmas.List.Elements.{All-cons, All-head, All-nil, All-tail, filter_passes}
use Rattle.std.proofs.lemmas.List.Folds.{list_any_at}
use Rattle.std.proofs.lemmas.List.Sorted.{All-permutation, IsPermutation-sym}
use Rattle.region_finder.specs.Listings.{IsListingOf, Listed, PlacedNeed, all_uncovered, has_op, is_covered, is_op, uncovered}
use Rattle.region_tree.specs.Trees.{RegionTree}
use Rattle.region_tree.specs.declared.needs.Need.{Need}
use Rattle.region_tree.specs.declared.tree.OpNumber.{OpNumber}
use Rattle.region_walk.specs.Covering.{is_dominated, uncovered_entry}
use Rattle.region_walk.specs.Keeping.{AreKept, StandsAt, entries_of, is_listed, live, live_users}
use Rattle.region_walk.specs.Placing.{AreBehind, IsRising}
use Rattle.region_walk.specs.Ranges.{have_op, sifted, uncovered_among, uncovered_of}
use Rattle.region_walk.specs.Users.{IsUser, ListedNeed, listed_need, users_in, users_of}
use Rattle.region_walk.specs.declared.entries.Kept.{Kept}
use Rattle.region_walk.proofs.Covering.{is_left, kept_uncovered}
use Rattle.region_walk.proofs.Indexing.{users_placed}
use Rattle.region_walk.proofs.Keeping.{behind_get, behind_none}
use Rattle.region_walk.proofs.Passing.{among_get}
use Rattle.region_walk.proofs.Rising.{or_no}
use Rattle.region_walk.proofs.Sifting.{sifted_all, sifted_counts}
use Rattle.region_walk.proofs.Skipping.{filter_whole}

module _ (c op : ℕ) (ns : List Need) where
  abbrev bare : Listed → Listed
  bare l = record l { needs = filter (λ (m : PlacedNeed). not (is_covered ns m)) l.needs }

  abbrev is_before : Listed → Bool
  is_before l = (l.context.0 == c) && nat_lt l.op.0 op

  -- ---- once is enough

  twice : (l : Listed) → uncovered c op ns (uncovered c op ns l) ≡ uncovered c op ns l
  twice l = ⊎_elim
      (λ h. let e : uncovered c op ns l ≡ bare l = ap (λ (b : Bool). cond b (bare l) l) h in
      ap (uncovered c op ns) e
      ∙ ap (λ (b : Bool). cond b (bare (bare l)) (bare l)) h
      ∙ ap (λ (ps : List PlacedNeed). record l { needs = ps })
      (filter_whole (λ (m : PlacedNeed). not (is_covered ns m)) (bare l).needs (filter_passes (λ (m : PlacedNeed). not (is_covered ns m)) l.needs))
      ∙ sym e)
      (λ h. ap (uncovered c op ns) (ap (λ (b : Bool). cond b (bare l) l) h))
      (cases_Bool (is_before l))

  same_by : (b : Bool) (l m : Listed) → m.op ≡ l.op → (cond b m l).op ≡ l.op
  same_by true l m e = e
  same_by false l m e = refl

  same_entry : (k : Kept) → (uncovered_entry c op ns k).entry.op ≡ k.entry.op
  same_entry k = same_by (is_before k.entry) k.entry (bare k.entry) refl

  entry_twice : (k : Kept) → uncovered_entry c op ns (uncovered_entry c op ns k) ≡ uncovered_entry c op ns k
  entry_twice k = ap (λ (l : Listed). record { entry = l; ended = k.ended }) (twice k.entry)

  -- ---- one operation, found by its number

  of_nowhere : (one : ℕ) (ks : List Kept) → has_op (entries_of ks) one ≡ false → map (uncovered_of one c op ns) ks ≡ ks
  of_nowhere one [] h = refl
  of_nowhere one (k ∷ ks) h =
      let parts = or_no (is_op one k.entry) (has_op (entries_of ks) one) h in
      ap (λ (b : Bool). cond b (uncovered_entry c op ns k) k ∷ map (uncovered_of one c op ns) ks) parts.0
      ∙ ap (λ (js : List Kept). k ∷ js) (of_nowhere one ks parts.1)

  pub of_none : (one : ℕ) (ks : List Kept) → has_op (entries_of ks) one ≡ false → ks ≡ map (uncovered_of one c op ns) ks
  of_none one ks h = sym (of_nowhere one ks h)

  pub of_at : (one i : ℕ) (ks : List Kept) (d : Kept) → IsRising (entries_of ks) → StandsAt one ks i →
      set ks i (uncovered_entry c op ns (get_or ks i d)) ≡ map (uncovered_of one c op ns) ks
  of_at one i [] d r s = absurd (omega (arith, s.below))
  of_at one zero (k ∷ ks) d r s =
      ap (λ (b : Bool). cond b (uncovered_entry c op ns k) k ∷ ks) (sym (eq-eqb k.entry.op.0 one (s.number k)))
      ∙ ap (λ (js : List Kept). uncovered_of one c op ns k ∷ js)
      (of_none one ks (behind_none one (entries_of ks) (subst (λ (n : ℕ). AreBehind n (entries_of ks)) (s.number k) r.0)))
  of_at one (suc i) (k ∷ ks) d r s =
      let rest : StandsAt one ks i = record { below = omega (arith, s.below); number = s.number } in
      let first : k.entry.op.0 < one = subst (λ (n : ℕ). k.entry.op.0 < n) (s.number d) (behind_get k.entry.op.0 ks i d r.0 rest.below) in
      ap (λ (js : List Kept). k ∷ js) (of_at one i ks d r.1 rest)
      ∙ ap (λ (b : Bool). cond b (uncovered_entry c op ns k) k ∷ map (uncovered_of one c op ns) ks)
      (sym (ne_eqb k.entry.op.0 one (λ e. omega (arith, e, first))))

  -- ---- one user after the other

  among_one : (u : ListedNeed) (us : List ListedNeed) (k : Kept) →
      uncovered_among us c op ns (uncovered_of u.op.0 c op ns k) ≡ uncovered_among (u ∷ us) c op ns k
  among_one u us k = by (k.entry.op.0 == u.op.0)
    where
      bare_k : Kept
      bare_k = uncovered_entry c op ns k

      both : (b : Bool) → cond b (uncovered_entry c op ns bare_k) bare_k ≡ bare_k
      both true = entry_twice k
      both false = refl

      by : (b : Bool) → uncovered_among us c op ns (cond b bare_k k) ≡ cond (b || have_op us k.entry.op.0) bare_k k
      by true = both (have_op us bare_k.entry.op.0)
      by false = refl

  pub among_more : (u : ListedNeed) (us : List ListedNeed) (ks : List Kept) →
      map (uncovered_among us c op ns) (map (uncovered_of u.op.0 c op ns) ks) ≡ map (uncovered_among (u ∷ us) c op ns) ks
  among_more u us [] = refl
  among_more u us (k ∷ ks) =
      ap (λ (j : Kept). j ∷ map (uncovered_among us c op ns) (map (uncovered_of u.op.0 c op ns) ks)) (among_one u us k)
      ∙ ap (λ (js : List Kept). uncovered_among (u ∷ us) c op ns k ∷ js) (among_more u us ks)

  pub among_none : (ks : List Kept) → map (uncovered_among [] c op ns) ks ≡ ks
  among_none [] = refl
  among_none (k ∷ ks) = ap (λ (js : List Kept). k ∷ js) (among_none ks)

  -- ---- operations stay

  module _ (f : Kept → Kept) (same : (k : Kept) → (f k).entry.op ≡ k.entry.op) where
    has_moved : (ks : List Kept) (x : ℕ) → has_op (entries_of (map f ks)) x ≡ has_op (entries_of ks) x
    has_moved [] x = refl
    has_moved (k ∷ ks) x =
        ap (λ (o : OpNumber). (o.0 == x) || has_op (entries_of (map f ks)) x) (same k)
        ∙ ap (λ (b : Bool). is_op x k.entry || b) (has_moved ks x)

    behind_moved : (n : ℕ) (ks : List Kept) → AreBehind n (entries_of ks) → AreBehind n (entries_of (map f ks))
    behind_moved n [] a = All-nil (λ (l : Listed). n < l.op.0)
    behind_moved n (k ∷ ks) a =
        All-cons (λ (l : Listed). n < l.op.0) (f k).entry (entries_of (map f ks))
        (subst (λ (o : OpNumber). n < o.0) (sym (same k)) (All-head (λ (l : Listed). n < l.op.0) k.entry (entries_of ks) a))
        (behind_moved n ks (All-tail (λ (l : Listed). n < l.op.0) k.entry (entries_of ks) a))

    rising_moved : (ks : List Kept) → IsRising (entries_of ks) → IsRising (entries_of (map f ks))
    rising_moved [] r = tt
    rising_moved (k ∷ ks) r = (
      subst (λ (o : OpNumber). AreBehind o.0 (entries_of (map f ks))) (sym (same k)) (behind_moved k.entry.op.0 ks r.0),
      rising_moved ks r.1,
    )

  same_of : (one : ℕ) (k : Kept) → (uncovered_of one c op ns k).entry.op ≡ k.entry.op
  same_of one k = by (k.entry.op.0 == one)
    where
      by : (b : Bool) → (cond b (uncovered_entry c op ns k) k).entry.op ≡ k.entry.op
      by true = same_entry k
      by false = refl

  pub rising_of : (one : ℕ) (ks : List Kept) → IsRising (entries_of ks) → IsRising (entries_of (map (uncovered_of one c op ns) ks))
  rising_of one ks r = rising_moved (uncovered_of one c op ns) (same_of one) ks r

  same_among : (us : List ListedNeed) (k : Kept) → (uncovered_among us c op ns k).entry.op ≡ k.entry.op
  same_among us k = by (have_op us k.entry.op.0)
    where
      by : (b : Bool) → (cond b (uncovered_entry c op ns k) k).entry.op ≡ k.entry.op
      by true = same_entry k
      by false = refl

  -- ---- where users of a range alone are covered

  module _ (rs : List ListedNeed) where
    -- a user that is covered is in the range
    abbrev IsWithin : ListedNeed → Type 0
    IsWithin u = is_dominated c op ns u ≡ true → have_op rs u.op.0 ≡ true

    -- an operation without users in the range has nothing covered
    abbrev IsBare : Listed → Type 0
    IsBare l = have_op rs l.op.0 ≡ false → uncovered c op ns l ≡ l

    bare_needs : (context o : OpNumber) (ps : List PlacedNeed) → ((context.0 == c) && nat_lt o.0 op) ≡ true → have_op rs o.0 ≡ false →
        All IsWithin (map (listed_need context o) ps) → filter (λ (m : PlacedNeed). not (is_covered ns m)) ps ≡ ps
    bare_needs context o [] h g a = refl
    bare_needs context o (p ∷ ps) h g a =
        ap (λ (b : Bool). cond (not b) (p ∷ filter (λ (m : PlacedNeed). not (is_covered ns m)) ps) (filter (λ (m : PlacedNeed). not (is_covered ns m)) ps)) none
        ∙ ap (λ (qs : List PlacedNeed). p ∷ qs)
        (bare_needs context o ps h g (All-tail IsWithin (listed_need context o p) (map (listed_need context o) ps) a))
      where
        none : is_covered ns p ≡ false
        none = ⊎_elim
            (λ t. absurd (false≢true (sym g
            ∙ All-head IsWithin (listed_need context o p) (map (listed_need context o) ps) a (ap (λ (b : Bool). b && is_covered ns p) h ∙ t))))
            (λ f. f)
            (cases_Bool (is_covered ns p))

    bare_one : (l : Listed) → All IsWithin (users_in l) → IsBare l
    bare_one l a g = ⊎_elim
        (λ h. ap (λ (b : Bool). cond b (bare l) l) h
        ∙ ap (λ (ps : List PlacedNeed). record l { needs = ps }) (bare_needs l.context l.op l.needs h g a))
        (λ h. ap (λ (b : Bool). cond b (bare l) l) h)
        (cases_Bool (is_before l))

    front : (us vs : List ListedNeed) → All IsWithin (us ++ vs) → All IsWithin us × All IsWithin vs
    front [] vs a = (All-nil IsWithin, a)
    front (u ∷ us) vs a =
        let rest = front us vs (All-tail IsWithin u (us ++ vs) a) in
        (All-cons IsWithin u us (All-head IsWithin u (us ++ vs) a) rest.0, rest.1)

    bare_all : (ls : List Listed) → All IsWithin (users_of ls) → All IsBare ls
    bare_all [] a = All-nil IsBare
    bare_all (l ∷ ls) a =
        let parts = front (users_in l) (users_of ls) a in
        All-cons IsBare l ls (bare_one l parts.0) (bare_all ls parts.1)

    live_head : (k : Kept) → IsBare k.entry → (uncovered_among rs c op ns k).entry ≡ uncovered c op ns k.entry
    live_head k h = by (have_op rs k.entry.op.0) refl
      where
        by : (b : Bool) → have_op rs k.entry.op.0 ≡ b → (cond b (uncovered_entry c op ns k) k).entry ≡ uncovered c op ns k.entry
        by true e = refl
        by false e = sym (h e)

    same_end : (k : Kept) → (uncovered_among rs c op ns k).ended ≡ k.ended
    same_end k = by (have_op rs k.entry.op.0)
      where
        by : (b : Bool) → (cond b (uncovered_entry c op ns k) k).ended ≡ k.ended
        by true = refl
        by false = refl

    live_among : (ks : List Kept) → All IsBare (live ks) → live (map (uncovered_among rs c op ns) ks) ≡ all_uncovered c op ns (live ks)
    live_among [] a = refl
    live_among (k ∷ ks) a =
        ap (λ (b : Bool). cond b (live (map (uncovered_among rs c op ns) ks)) ((uncovered_among rs c op ns k).entry ∷ live (map (uncovered_among rs c op ns) ks))) (same_end k)
        ∙ by k.ended a (λ h. live_among ks h)
      where
        by : (b : Bool) → All IsBare (cond b (live ks) (k.entry ∷ live ks)) →
            (All IsBare (live ks) → live (map (uncovered_among rs c op ns) ks) ≡ all_uncovered c op ns (live ks)) →
            cond b (live (map (uncovered_among rs c op ns) ks)) ((uncovered_among rs c op ns k).entry ∷ live (map (uncovered_among rs c op ns) ks))
            ≡ all_uncovered c op ns (cond b (live ks) (k.entry ∷ live ks))
        by true h rest = rest h
        by false h rest =
            ap (λ (l : Listed). l ∷ live (map (uncovered_among rs c op ns) ks)) (live_head k (All-head IsBare k.entry (live ks) h))
            ∙ ap (λ (ls : List Listed). uncovered c op ns k.entry ∷ ls) (rest (All-tail IsBare k.entry (live ks) h))

  -- ---- both

  among_all : (P : ListedNeed → Type 0) (p : ListedNeed → Bool) (us : List ListedNeed) →
      ((i : ℕ) (d : ListedNeed) → i < length us → p (get_or us i d) ≡ true → P (get_or us i d)) → All P (filter p us)
  among_all P p [] h = All-nil P
  among_all P p (u ∷ us) h = by (p u) refl (among_all P p us (λ i d l g. h (suc i) d (omega (arith, l)) g))
    where
      by : (b : Bool) → p u ≡ b → All P (filter p us) → All P (cond b (u ∷ filter p us) (filter p us))
      by true e a = All-cons P u (filter p us) (h 0 u (omega arith) e) a
      by false e a = a

  module _ (t : RegionTree) (ks : List Kept) (us : List ListedNeed) (from to : ℕ) (kept : AreKept ks us) (listing : IsListingOf t (live ks))
      (order : from ≤ to) (below : to ≤ length us)
      (others : (i : ℕ) (d : ListedNeed) → i < length us → (i < from) ⊎ (to ≤ i) → IsUser t (get_or us i d) → is_dominated c op ns (get_or us i d) ≡ false) where
    abbrev range : List ListedNeed
    range = take (to - from) (drop from us)

    elsewhere : (i : ℕ) (d : ListedNeed) → i < length us → (i < from) ⊎ (to ≤ i) → is_listed (live ks) (get_or us i d) ≡ true →
        is_dominated c op ns (get_or us i d) ≡ false
    elsewhere i d l o h =
        others i d l o
        (among_get (IsUser t) (is_listed (live ks)) us i d
        (users_placed t (live ks) (live_users (live ks) us) kept.indexed listing) l h)

    within : (i : ℕ) (d : ListedNeed) → i < length us → is_listed (live ks) (get_or us i d) ≡ true → IsWithin range (get_or us i d)
    within i d l h g = ⊎_elim
        (λ low. absurd (false≢true (sym (elsewhere i d l (inl low) h) ∙ g)))
        (λ high. ⊎_elim
        (λ mid. list_any_at (λ (u : ListedNeed). (get_or us i d).op.0 == u.op.0) range (i - from) d
        (omega (arith, high, mid, below, length-drop from us, length-take (to - from) (drop from us)))
        (ap (λ (u : ListedNeed). (get_or us i d).op.0 == u.op.0)
        (get_or-take (to - from) (drop from us) (i - from) d (omega (arith, high, mid))
        ∙ get_or-drop from us (i - from) d ∙ ap (λ (j : ℕ). get_or us j d) (let e : from + (i - from) ≡ i = omega (arith, high) in e))
        ∙ eq-eqb (get_or us i d).op.0 (get_or us i d).op.0 refl))
        (λ late. absurd (false≢true (sym (elsewhere i d l (inr late) h) ∙ g)))
        (cases_lt i to))
        (cases_lt i from)

    pub live_ranged : live (map (uncovered_among range c op ns) ks) ≡ all_uncovered c op ns (live ks)
    live_ranged =
        live_among range ks
        (bare_all range (live ks)
        (All-permutation (IsWithin range) (live_users (live ks) us) (users_of (live ks))
        (IsPermutation-sym (users_of (live ks)) (live_users (live ks) us) kept.indexed.users)
        (among_all (IsWithin range) (is_listed (live ks)) us within)))

    pub kept_ranged : AreKept (map (uncovered_among range c op ns) ks) (sifted (is_left c op ns) from (to - from) us)
    kept_ranged =
        kept_uncovered c op ns ks (map (uncovered_among range c op ns) ks) us (sifted (is_left c op ns) from (to - from) us)
        (rising_moved (uncovered_among range c op ns) (same_among range) ks kept.rising)
        (λ x. has_moved (uncovered_among range c op ns) (same_among range) ks x)
        live_ranged
        (sifted_counts (is_left c op ns) (is_listed (live ks)) from (to - from) us
        (λ i d l o h. ap not (elsewhere i d l (⊎_elim (λ a. inl a) (λ b. inr (omega (arith, b, order))) o) h)))
        (sifted_all (is_left c op ns) (λ (u : ListedNeed). has_op (entries_of ks) u.op.0 ≡ true) from (to - from) us kept.known)
        kept
