-- The users of a listing, as it changes.
use Rattle.std.specs.Prelude.{IsPermutation, filter, nat_lt}
use Rattle.std.proofs.Common.{◌≡◌, ◌==◌, ◌++◌, ◌∷◌, [], ◌∙◌, ℕ, Bool, true, false, cond, not, List, All, ⊎_elim, ap, sym, subst, refl, append_assoc, map}
use Rattle.std.proofs.lemmas.Bool.{cases_Bool}
use Rattle.std.proofs.lemmas.List.Elements.{All-append, All-head, All-map, All-nil, All-tail, filter-append}
use Rattle.std.proofs.lemmas.List.Sorted.{All-permutation, IsPermutation-append_comm, IsPermutation-append_left, IsPermutation-append_right, IsPermutation-refl, IsPermutation-trans}
use Rattle.region_finder.specs.Listings.{ArePlaced, IsListingOf, Listed, PlacedNeed, has_op, inserted, is_op, without}
use Rattle.region_tree.specs.Trees.{RegionTree}
use Rattle.region_tree.specs.declared.tree.OpNumber.{OpNumber}
use Rattle.region_walk.specs.Users.{IsIndexed, IsUser, ListedNeed, is_of_another, listed_need, users_in, users_of}
use Rattle.region_walk.proofs.Permuting.{perm_filter}
use Rattle.region_walk.proofs.Rising.{rising_filter, rising_inserted}

-- ---- one more operation

-- the second list goes before the first
swap_front : (a b c : List ListedNeed) → IsPermutation (a ++ (b ++ c)) (b ++ (a ++ c))
swap_front a b c =
    subst (λ xs. IsPermutation xs (b ++ (a ++ c))) (append_assoc a b c)
    (subst (λ xs. IsPermutation ((a ++ b) ++ c) xs) (append_assoc b a c)
    (IsPermutation-append_left c (a ++ b) (b ++ a) (IsPermutation-append_comm a b)))

inserted_by : (e l : Listed) (ls ms : List Listed) → IsPermutation (users_of ms) (users_in e ++ users_of ls) →
    (b : Bool) → IsPermutation (users_of (cond b (e ∷ l ∷ ls) (l ∷ ms))) (users_in e ++ users_of (l ∷ ls))
inserted_by e l ls ms h true = IsPermutation-refl (users_in e ++ users_of (l ∷ ls))
inserted_by e l ls ms h false =
    IsPermutation-trans (users_in l ++ users_of ms) (users_in l ++ (users_in e ++ users_of ls)) (users_in e ++ (users_in l ++ users_of ls))
    (IsPermutation-append_right (users_in l) (users_of ms) (users_in e ++ users_of ls) h)
    (swap_front (users_in l) (users_in e) (users_of ls))

pub users_inserted : (e : Listed) (ls : List Listed) → IsPermutation (users_of (inserted e ls)) (users_in e ++ users_of ls)
users_inserted e [] = IsPermutation-refl (users_in e ++ [])
users_inserted e (l ∷ ls) = inserted_by e l ls (inserted e ls) (users_inserted e ls) (nat_lt e.op.0 l.op.0)

-- ---- one taken out

all_kept : (c o : OpNumber) (op : ℕ) (ns : List PlacedNeed) → not (o.0 == op) ≡ true →
    filter (is_of_another op) (map (listed_need c o) ns) ≡ map (listed_need c o) ns
all_kept c o op [] h = refl
all_kept c o op (n ∷ ns) h =
    ap (λ (b : Bool). cond b (listed_need c o n ∷ filter (is_of_another op) (map (listed_need c o) ns)) (filter (is_of_another op) (map (listed_need c o) ns))) h
    ∙ ap (λ (us : List ListedNeed). listed_need c o n ∷ us) (all_kept c o op ns h)

none_kept : (c o : OpNumber) (op : ℕ) (ns : List PlacedNeed) → not (o.0 == op) ≡ false →
    filter (is_of_another op) (map (listed_need c o) ns) ≡ []
none_kept c o op [] h = refl
none_kept c o op (n ∷ ns) h =
    ap (λ (b : Bool). cond b (listed_need c o n ∷ filter (is_of_another op) (map (listed_need c o) ns)) (filter (is_of_another op) (map (listed_need c o) ns))) h
    ∙ none_kept c o op ns h

pub users_without : (op : ℕ) (ls : List Listed) → users_of (without ls op) ≡ filter (is_of_another op) (users_of ls)
users_without op [] = refl
users_without op (l ∷ ls) =
    ⊎_elim
    (λ h. ap (λ (b : Bool). users_of (cond b (l ∷ without ls op) (without ls op))) h
    ∙ ap (λ (us : List ListedNeed). users_in l ++ us) (users_without op ls)
    ∙ ap (λ (us : List ListedNeed). us ++ filter (is_of_another op) (users_of ls)) (sym (all_kept l.context l.op op l.needs h))
    ∙ sym (filter-append (is_of_another op) (users_in l) (users_of ls)))
    (λ h. ap (λ (b : Bool). users_of (cond b (l ∷ without ls op) (without ls op))) h
    ∙ users_without op ls
    ∙ ap (λ (us : List ListedNeed). us ++ filter (is_of_another op) (users_of ls)) (sym (none_kept l.context l.op op l.needs h))
    ∙ sym (filter-append (is_of_another op) (users_in l) (users_of ls)))
    (cases_Bool (not (l.op.0 == op)))

-- ---- an index

pub indexed_inserted : (e : Listed) (ls : List Listed) (us vs : List ListedNeed) → has_op ls e.op.0 ≡ false →
    IsIndexed ls us → IsPermutation (users_in e ++ us) vs → IsIndexed (inserted e ls) vs
indexed_inserted e ls us vs h i p = record {
  rising = rising_inserted e ls i.rising h;
  users = IsPermutation-trans _ _ _ (users_inserted e ls)
      (IsPermutation-trans _ _ _ (IsPermutation-append_right (users_in e) (users_of ls) us i.users) p);
}

pub indexed_without : (op : ℕ) (ls : List Listed) (us : List ListedNeed) → IsIndexed ls us →
    IsIndexed (without ls op) (filter (is_of_another op) us)
indexed_without op ls us i = record {
  rising = rising_filter (λ (l : Listed). not (is_op op l)) ls i.rising;
  users = subst (λ vs. IsPermutation vs (filter (is_of_another op) us)) (sym (users_without op ls))
      (perm_filter (is_of_another op) (users_of ls) us i.users);
}

-- ---- what stands in a tree

all_placed : (t : RegionTree) (ls : List Listed) → IsListingOf t ls → All (IsUser t) (users_of ls)
all_placed t [] a = All-nil (IsUser t)
all_placed t (l ∷ ls) a =
    All-append (IsUser t) (users_in l) (users_of ls)
    (All-map (IsUser t) (listed_need l.context l.op) l.needs (All-head (ArePlaced t) l ls a))
    (all_placed t ls (All-tail (ArePlaced t) l ls a))

pub users_placed : (t : RegionTree) (ls : List Listed) (us : List ListedNeed) → IsIndexed ls us → IsListingOf t ls → All (IsUser t) us
users_placed t ls us i a = All-permutation (IsUser t) (users_of ls) us i.users (all_placed t ls a)
