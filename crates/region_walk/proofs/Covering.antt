-- What is left where needs are covered.
use Rattle.std.specs.Prelude.{IsPermutation, filter, nat_lt}
use Rattle.std.specs.List.{list_any}
use Rattle.std.proofs.Common.{◌≡◌, ◌<◌, ◌==◌, ◌++◌, ◌&&◌, ◌||◌, ◌∷◌, [], ◌∙◌, ℕ, Bool, true, false, cond, not, List, All, ap, sym, refl, subst, get_or, map}
use Rattle.std.proofs.lemmas.List.Elements.{All-filter, All-map, All-weaker, filter-append}
use Rattle.lane_kernels.specs.declared.numbers.Mode.TheVariants.{Write}
use Rattle.region_finder.specs.Forests.{Upward}
use Rattle.region_finder.specs.Listings.{ArePlaced, IsListingOf, IsPlaced, Listed, PlacedNeed, all_uncovered, covers, has_op, is_covered, is_op, uncovered}
use Rattle.region_tree.specs.Requirements.{same_mode}
use Rattle.region_tree.specs.Trees.{RegionTree}
use Rattle.region_tree.specs.declared.needs.Need.{Need}
use Rattle.region_tree.specs.declared.tree.OpNumber.{OpNumber}
use Rattle.region_walk.specs.Covering.{is_dominated, uncovered_entries}
use Rattle.region_walk.specs.Keeping.{AreKept, entries_of, is_listed, live, live_users}
use Rattle.region_walk.specs.Placing.{AreBehind, IsRising}
use Rattle.region_walk.specs.Users.{IsIndexed, ListedNeed, listed_need, users_in, users_of}
use Rattle.region_walk.specs.declared.entries.Kept.{Kept}
use Rattle.region_walk.proofs.Permuting.{perm_filter}
use Rattle.region_walk.proofs.Skipping.{filter_alike, filter_both, filter_whole}

-- whether a user stays
abbrev pub is_left : ℕ → ℕ → List Need → ListedNeed → Bool
is_left context op needs u = not (is_dominated context op needs u)

module _ (c op : ℕ) (ns : List Need) where
  -- ---- operations

  same_by : (b : Bool) (l m : Listed) → m.op ≡ l.op → (cond b m l).op ≡ l.op
  same_by true l m e = e
  same_by false l m e = refl

  same_op : (l : Listed) → (uncovered c op ns l).op ≡ l.op
  same_op l =
      same_by ((l.context.0 == c) && nat_lt l.op.0 op) l
      (record l { needs = filter (λ (m : PlacedNeed). not (is_covered ns m)) l.needs }) refl

  pub has_uncovered : (ls : List Listed) (x : ℕ) → has_op (all_uncovered c op ns ls) x ≡ has_op ls x
  has_uncovered [] x = refl
  has_uncovered (l ∷ ls) x =
      ap (λ (o : OpNumber). (o.0 == x) || has_op (all_uncovered c op ns ls) x) (same_op l)
      ∙ ap (λ (b : Bool). is_op x l || b) (has_uncovered ls x)

  behind_uncovered : (k : ℕ) (ls : List Listed) → AreBehind k ls → AreBehind k (all_uncovered c op ns ls)
  behind_uncovered k ls a =
      All-map (λ (l : Listed). k < l.op.0) (uncovered c op ns) ls
      (All-weaker (λ (l : Listed). k < l.op.0) (λ (l : Listed). k < (uncovered c op ns l).op.0)
      (λ l h. subst (λ (o : OpNumber). k < o.0) (sym (same_op l)) h) ls a)

  pub rising_uncovered : (ls : List Listed) → IsRising ls → IsRising (all_uncovered c op ns ls)
  rising_uncovered [] r = tt
  rising_uncovered (l ∷ ls) r = (
    subst (λ (o : OpNumber). AreBehind o.0 (all_uncovered c op ns ls)) (sym (same_op l)) (behind_uncovered l.op.0 ls r.0),
    rising_uncovered ls r.1,
  )

  -- ---- entries

  pub entries_uncovered : (ks : List Kept) → entries_of (uncovered_entries c op ns ks) ≡ all_uncovered c op ns (entries_of ks)
  entries_uncovered [] = refl
  entries_uncovered (k ∷ ks) = ap (λ (ls : List Listed). uncovered c op ns k.entry ∷ ls) (entries_uncovered ks)

  pub live_uncovered : (ks : List Kept) → live (uncovered_entries c op ns ks) ≡ all_uncovered c op ns (live ks)
  live_uncovered [] = refl
  live_uncovered (k ∷ ks) =
      ap (λ (ls : List Listed). cond k.ended ls (uncovered c op ns k.entry ∷ ls)) (live_uncovered ks) ∙ by k.ended
    where
      by : (b : Bool) → cond b (all_uncovered c op ns (live ks)) (uncovered c op ns k.entry ∷ all_uncovered c op ns (live ks))
          ≡ all_uncovered c op ns (cond b (live ks) (k.entry ∷ live ks))
      by true = refl
      by false = refl

  -- ---- users

  -- of a smaller operation of the context those stay that aren't covered
  left_within : (context o : OpNumber) (ps : List PlacedNeed) → ((context.0 == c) && nat_lt o.0 op) ≡ true →
      map (listed_need context o) (filter (λ (m : PlacedNeed). not (is_covered ns m)) ps)
      ≡ filter (is_left c op ns) (map (listed_need context o) ps)
  left_within context o [] h = refl
  left_within context o (p ∷ ps) h =
      by (is_covered ns p)
      ∙ ap (λ (us : List ListedNeed). cond (not (is_covered ns p)) (listed_need context o p ∷ us) us) (left_within context o ps h)
      ∙ ap (λ (b : Bool). cond (not b) (listed_need context o p ∷ rest) rest) (sym (ap (λ (a : Bool). a && is_covered ns p) h))
    where
      rest : List ListedNeed
      rest = filter (is_left c op ns) (map (listed_need context o) ps)

      by : (b : Bool) → map (listed_need context o)
          (cond (not b) (p ∷ filter (λ (m : PlacedNeed). not (is_covered ns m)) ps) (filter (λ (m : PlacedNeed). not (is_covered ns m)) ps))
          ≡ cond (not b) (listed_need context o p ∷ map (listed_need context o) (filter (λ (m : PlacedNeed). not (is_covered ns m)) ps))
          (map (listed_need context o) (filter (λ (m : PlacedNeed). not (is_covered ns m)) ps))
      by true = refl
      by false = refl

  left_without : (context o : OpNumber) (ps : List PlacedNeed) → ((context.0 == c) && nat_lt o.0 op) ≡ false →
      map (listed_need context o) ps ≡ filter (is_left c op ns) (map (listed_need context o) ps)
  left_without context o ps h =
      sym (filter_whole (is_left c op ns) (map (listed_need context o) ps)
      (All-map (λ (u : ListedNeed). is_left c op ns u ≡ true) (listed_need context o) ps
      (λ i d l. ap (λ (a : Bool). not (a && is_covered ns (get_or ps i d))) h)))

  users_left : (l : Listed) → users_in (uncovered c op ns l) ≡ filter (is_left c op ns) (users_in l)
  users_left l = by ((l.context.0 == c) && nat_lt l.op.0 op) refl
    where
      by : (b : Bool) → ((l.context.0 == c) && nat_lt l.op.0 op) ≡ b →
          users_in (cond b (record l { needs = filter (λ (m : PlacedNeed). not (is_covered ns m)) l.needs }) l)
          ≡ filter (is_left c op ns) (users_in l)
      by true h = left_within l.context l.op l.needs h
      by false h = left_without l.context l.op l.needs h

  pub users_uncovered : (ls : List Listed) → users_of (all_uncovered c op ns ls) ≡ filter (is_left c op ns) (users_of ls)
  users_uncovered [] = refl
  users_uncovered (l ∷ ls) =
      ap (λ (us : List ListedNeed). us ++ users_of (all_uncovered c op ns ls)) (users_left l)
      ∙ ap (λ (us : List ListedNeed). filter (is_left c op ns) (users_in l) ++ us) (users_uncovered ls)
      ∙ sym (filter-append (is_left c op ns) (users_in l) (users_of ls))

  listed_alike : (ls : List Listed) (us : List ListedNeed) → live_users (all_uncovered c op ns ls) us ≡ live_users ls us
  listed_alike ls us =
      filter_alike (is_listed (all_uncovered c op ns ls)) (is_listed ls) us (λ i d l. has_uncovered ls (get_or us i d).op.0)

  and_swap : (a b : Bool) → (a && b) ≡ (b && a)
  and_swap true true = refl
  and_swap true false = refl
  and_swap false true = refl
  and_swap false false = refl

  -- listed or not, those are left that are so
  pub live_left : (ls : List Listed) (us : List ListedNeed) →
      live_users ls (filter (is_left c op ns) us) ≡ filter (is_left c op ns) (live_users ls us)
  live_left ls us =
      filter_both (is_listed ls) (is_left c op ns) us
      ∙ filter_alike (λ (u : ListedNeed). is_left c op ns u && is_listed ls u) (λ (u : ListedNeed). is_listed ls u && is_left c op ns u) us
      (λ i d l. and_swap (is_left c op ns (get_or us i d)) (is_listed ls (get_or us i d)))
      ∙ sym (filter_both (is_left c op ns) (is_listed ls) us)

  -- ---- both

  -- entries of the same operations, of which those that haven't ended have what is left, with the users that are left
  pub kept_uncovered : (ks js : List Kept) (us vs : List ListedNeed) → IsRising (entries_of js) →
      ((x : ℕ) → has_op (entries_of js) x ≡ has_op (entries_of ks) x) → live js ≡ all_uncovered c op ns (live ks) →
      live_users (live ks) vs ≡ filter (is_left c op ns) (live_users (live ks) us) →
      All (λ (u : ListedNeed). has_op (entries_of ks) u.op.0 ≡ true) vs → AreKept ks us → AreKept js vs
  kept_uncovered ks js us vs r h e f k a = record {
    rising = r;
    known = All-weaker (λ (u : ListedNeed). has_op (entries_of ks) u.op.0 ≡ true) (λ (u : ListedNeed). has_op (entries_of js) u.op.0 ≡ true)
        (λ u g. h u.op.0 ∙ g) vs k;
    indexed = subst (λ (ls : List Listed). IsIndexed ls (live_users ls vs)) (sym e) (record {
      rising = rising_uncovered (live ks) a.indexed.rising;
      users = subst (λ (xs : List ListedNeed). IsPermutation (users_of (all_uncovered c op ns (live ks))) xs)
          (sym (listed_alike (live ks) vs ∙ f))
          (subst (λ (xs : List ListedNeed). IsPermutation xs (filter (is_left c op ns) (live_users (live ks) us)))
          (sym (users_uncovered (live ks)))
          (perm_filter (is_left c op ns) (users_of (live ks)) (live_users (live ks) us) a.indexed.users));
    });
  }

-- ---- one need after the other

pub listing_uncovered : (t : RegionTree) (c op : ℕ) (ns : List Need) (ls : List Listed) → IsListingOf t ls → IsListingOf t (all_uncovered c op ns ls)
listing_uncovered t c op ns ls a =
    All-map (ArePlaced t) (uncovered c op ns) ls
    (All-weaker (ArePlaced t) (λ (l : Listed). ArePlaced t (uncovered c op ns l))
    (λ l h. by l h ((l.context.0 == c) && nat_lt l.op.0 op)) ls a)
  where
    by : (l : Listed) → ArePlaced t l → (b : Bool) →
        ArePlaced t (cond b (record l { needs = filter (λ (m : PlacedNeed). not (is_covered ns m)) l.needs }) l)
    by l h true = All-filter (λ (m : PlacedNeed). not (is_covered ns m)) (IsPlaced t) l.needs h
    by l h false = h

-- needs that cover nothing leave all
left_whole : (c op : ℕ) (ns : List Need) (ls : List Listed) → ((m : PlacedNeed) → is_covered ns m ≡ false) → all_uncovered c op ns ls ≡ ls
left_whole c op ns [] h = refl
left_whole c op ns (l ∷ ls) h =
    ap (λ (m : Listed). m ∷ all_uncovered c op ns ls) (by ((l.context.0 == c) && nat_lt l.op.0 op))
    ∙ ap (λ (ms : List Listed). l ∷ ms) (left_whole c op ns ls h)
  where
    by : (b : Bool) → cond b (record l { needs = filter (λ (m : PlacedNeed). not (is_covered ns m)) l.needs }) l ≡ l
    by true = ap (λ (ps : List PlacedNeed). record l { needs = ps })
        (filter_whole (λ (m : PlacedNeed). not (is_covered ns m)) l.needs (λ i d b. ap not (h (get_or l.needs i d))))
    by false = refl

pub none_left_out : (c op : ℕ) (ls : List Listed) → all_uncovered c op [] ls ≡ ls
none_left_out c op ls = left_whole c op [] ls (λ m. refl)

-- one that doesn't write covers nothing
pub read_leaves : (c op : ℕ) (n : Need) (ls : List Listed) → same_mode n.mode Write ≡ false → all_uncovered c op (n ∷ []) ls ≡ ls
read_leaves c op n ls h =
    left_whole c op (n ∷ []) ls
    (λ m. ap (λ (w : Bool). (w && (n.root.0 == m.need.root.0) && (n.field == m.need.field)
    && ((n.node.0 == m.need.node.0) || list_any (λ (u : Upward). u.0.0 == n.node.0) m.way)) || false) h)

pub uncovered_more : (c op : ℕ) (n : Need) (ns : List Need) (ls : List Listed) →
    all_uncovered c op ns (all_uncovered c op (n ∷ []) ls) ≡ all_uncovered c op (n ∷ ns) ls
uncovered_more c op n ns [] = refl
uncovered_more c op n ns (l ∷ ls) =
    ap (λ (m : Listed). m ∷ all_uncovered c op ns (all_uncovered c op (n ∷ []) ls)) (by ((l.context.0 == c) && nat_lt l.op.0 op) refl)
    ∙ ap (λ (ms : List Listed). uncovered c op (n ∷ ns) l ∷ ms) (uncovered_more c op n ns ls)
  where
    keep : List Need → List PlacedNeed → List PlacedNeed
    keep by_these ps = filter (λ (m : PlacedNeed). not (is_covered by_these m)) ps

    both : (a b : Bool) → (not (a || false) && not b) ≡ not (a || b)
    both true b = refl
    both false b = refl

    needs : keep ns (keep (n ∷ []) l.needs) ≡ keep (n ∷ ns) l.needs
    needs =
        filter_both (λ (m : PlacedNeed). not (is_covered ns m)) (λ (m : PlacedNeed). not (is_covered (n ∷ []) m)) l.needs
        ∙ filter_alike (λ (m : PlacedNeed). not (is_covered (n ∷ []) m) && not (is_covered ns m)) (λ (m : PlacedNeed). not (is_covered (n ∷ ns) m)) l.needs
        (λ i d b. both (covers (get_or l.needs i d) n) (is_covered ns (get_or l.needs i d)))

    by : (b : Bool) → ((l.context.0 == c) && nat_lt l.op.0 op) ≡ b →
        uncovered c op ns (cond b (record l { needs = keep (n ∷ []) l.needs }) l) ≡ cond b (record l { needs = keep (n ∷ ns) l.needs }) l
    by true e =
        ap (λ (x : Bool). cond x (record l { needs = keep ns (keep (n ∷ []) l.needs) }) (record l { needs = keep (n ∷ []) l.needs })) e
        ∙ ap (λ (ps : List PlacedNeed). record l { needs = ps }) needs
    by false e = ap (λ (x : Bool). cond x (record l { needs = keep ns l.needs }) l) e
