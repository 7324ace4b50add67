-- Entries of which some are of operations that have ended, with the users of all.
use Rattle.std.specs.Prelude.{IsPermutation, filter}
use Rattle.std.proofs.Common.{◌≡◌, ◌≢◌, ◌==◌, ◌++◌, ◌&&◌, ◌||◌, ◌∷◌, [], ◌∙◌, ℕ, Bool, true, false, cond, not, List, All, ap, sym, refl, subst, get_or, map}
use Rattle.std.proofs.lemmas.Bool.{eq-eqb, eqb-true, false≢true, ne_eqb}
use Rattle.std.proofs.lemmas.List.Elements.{All-append, All-map, All-weaker, filter-append, filter_passes}
use Rattle.std.proofs.lemmas.List.Sorted.{All-permutation}
use Rattle.std.proofs.lemmas.Map.Views.{any-filter_same}
use Rattle.region_finder.specs.Listings.{Listed, has_op, inserted, is_op, without}
use Rattle.region_walk.specs.Keeping.{AreKept, end_op, entries_of, is_listed, is_live, live, live_users}
use Rattle.region_walk.specs.Placing.{IsRising}
use Rattle.region_walk.specs.Users.{IsIndexed, ListedNeed, is_of_another, listed_need, users_in}
use Rattle.region_walk.specs.declared.entries.Kept.{Kept}
use Rattle.region_walk.proofs.Indexing.{indexed_inserted, indexed_without}
use Rattle.region_walk.proofs.Keeping.{entries_ended, entries_tidied, live_ended, live_tidied, rising_live, unlisted}
use Rattle.region_walk.proofs.Permuting.{perm_filter}
use Rattle.region_walk.proofs.Rising.{rising_inserted}
use Rattle.region_walk.proofs.Skipping.{filter_alike, filter_both, filter_whole}

-- ---- operations of a listing

has_without : (ls : List Listed) (op x : ℕ) → has_op (without ls op) x ≡ (not (x == op) && has_op ls x)
has_without ls op x =
    any-filter_same (is_op x) (λ (l : Listed). not (is_op op l)) (not (x == op))
    (λ l h. ap (λ (n : ℕ). not (n == op)) (eqb-true l.op.0 x h)) ls

or_swap : (a b c : Bool) → (a || (b || c)) ≡ (b || (a || c))
or_swap true true c = refl
or_swap true false c = refl
or_swap false b c = refl

has_inserted : (e : Listed) (ls : List Listed) (x : ℕ) → has_op (inserted e ls) x ≡ (is_op x e || has_op ls x)
has_inserted e [] x = refl
has_inserted e (l ∷ ls) x = by _ (has_inserted e ls x)
  where
    by : (b : Bool) → has_op (inserted e ls) x ≡ (is_op x e || has_op ls x) →
        has_op (cond b (e ∷ l ∷ ls) (l ∷ inserted e ls)) x ≡ (is_op x e || (is_op x l || has_op ls x))
    by true h = refl
    by false h = ap (λ (b : Bool). is_op x l || b) h ∙ or_swap (is_op x l) (is_op x e) (has_op ls x)

-- an operation that isn't listed is another one than each that is
other_op : (ls : List Listed) (op x : ℕ) → has_op ls op ≡ false → has_op ls x ≡ true → op ≢ x
other_op ls op x h g e = false≢true (sym h ∙ ap (has_op ls) e ∙ g)

-- ---- users of a listing

and_swap : (a b : Bool) → (a && b) ≡ (b && a)
and_swap true true = refl
and_swap true false = refl
and_swap false true = refl
and_swap false false = refl

live_without : (ls : List Listed) (op : ℕ) (us : List ListedNeed) →
    live_users (without ls op) us ≡ filter (is_of_another op) (live_users ls us)
live_without ls op us =
    filter_alike (is_listed (without ls op)) (λ (u : ListedNeed). is_listed ls u && is_of_another op u) us
    (λ i d l. has_without ls op (get_or us i d).op.0 ∙ and_swap (not ((get_or us i d).op.0 == op)) (has_op ls (get_or us i d).op.0))
    ∙ sym (filter_both (is_of_another op) (is_listed ls) us)

or_true : (b : Bool) → (b || true) ≡ true
or_true true = refl
or_true false = refl

-- its own users, and no others, are those of one more operation
own_users : (e : Listed) (ls : List Listed) → All (λ (u : ListedNeed). is_listed (inserted e ls) u ≡ true) (users_in e)
own_users e ls =
    All-map (λ (u : ListedNeed). is_listed (inserted e ls) u ≡ true) (listed_need e.context e.op) e.needs
    (λ i d l. has_inserted e ls e.op.0 ∙ ap (λ (b : Bool). b || has_op ls e.op.0) (eq-eqb e.op.0 e.op.0 refl))

other_users : (e : Listed) (ls ms : List Listed) (us : List ListedNeed) → has_op ms e.op.0 ≡ false →
    All (λ (u : ListedNeed). has_op ms u.op.0 ≡ true) us → live_users (inserted e ls) us ≡ live_users ls us
other_users e ls ms us h a =
    filter_alike (is_listed (inserted e ls)) (is_listed ls) us
    (All-weaker (λ (u : ListedNeed). has_op ms u.op.0 ≡ true) (λ (u : ListedNeed). is_listed (inserted e ls) u ≡ is_listed ls u)
    (λ u g. has_inserted e ls u.op.0
    ∙ ap (λ (b : Bool). b || has_op ls u.op.0) (ne_eqb e.op.0 u.op.0 (other_op ms e.op.0 u.op.0 h g))) us a)

-- ---- what changes

pub kept_ended : (op : ℕ) (ks : List Kept) (us : List ListedNeed) → AreKept ks us → AreKept (map (end_op op) ks) us
kept_ended op ks us a = record {
  rising = subst IsRising (sym (entries_ended op ks)) a.rising;
  known = subst (λ (ls : List Listed). All (λ (u : ListedNeed). has_op ls u.op.0 ≡ true) us) (sym (entries_ended op ks)) a.known;
  indexed = subst (λ (ls : List Listed). IsIndexed ls (live_users ls us)) (sym (live_ended op ks))
      (subst (IsIndexed (without (live ks) op)) (sym (live_without (live ks) op us))
      (indexed_without op (live ks) (live_users (live ks) us) a.indexed));
}

pub kept_tidied : (ks : List Kept) (us : List ListedNeed) → AreKept ks us → AreKept (filter is_live ks) (live_users (live ks) us)
kept_tidied ks us a = record {
  rising = subst IsRising (sym (entries_tidied ks)) (rising_live ks a.rising);
  known = subst (λ (ls : List Listed). All (λ (u : ListedNeed). has_op ls u.op.0 ≡ true) (live_users (live ks) us)) (sym (entries_tidied ks))
      (filter_passes (is_listed (live ks)) us);
  indexed = subst (λ (ls : List Listed). IsIndexed ls (live_users ls (live_users (live ks) us))) (sym (live_tidied ks))
      (subst (IsIndexed (live ks)) (sym (filter_whole (is_listed (live ks)) (live_users (live ks) us) (filter_passes (is_listed (live ks)) us))) a.indexed);
}

pub kept_added : (e : Listed) (ks js : List Kept) (us vs : List ListedNeed) → has_op (entries_of ks) e.op.0 ≡ false →
    entries_of js ≡ inserted e (entries_of ks) → live js ≡ inserted e (live ks) → IsPermutation (users_in e ++ us) vs →
    AreKept ks us → AreKept js vs
kept_added e ks js us vs h p q perm a = record {
  rising = subst IsRising (sym p) (rising_inserted e (entries_of ks) a.rising h);
  known = subst (λ (ls : List Listed). All (λ (u : ListedNeed). has_op ls u.op.0 ≡ true) vs) (sym p)
      (All-permutation (known_by (entries_of ks)) (users_in e ++ us) vs perm
      (All-append (known_by (entries_of ks)) (users_in e) us (own_users e (entries_of ks))
      (All-weaker (λ (u : ListedNeed). has_op (entries_of ks) u.op.0 ≡ true) (known_by (entries_of ks))
      (λ u g. has_inserted e (entries_of ks) u.op.0 ∙ ap (λ (b : Bool). is_op u.op.0 e || b) g ∙ or_true (is_op u.op.0 e)) us a.known)));
  indexed = subst (λ (ls : List Listed). IsIndexed ls (live_users ls vs)) (sym q)
      (indexed_inserted e (live ks) (live_users (live ks) us) (live_users (inserted e (live ks)) vs) (unlisted e.op.0 ks h) a.indexed
      (subst (λ (xs : List ListedNeed). IsPermutation xs (live_users (inserted e (live ks)) vs)) users
      (perm_filter (is_listed (inserted e (live ks))) (users_in e ++ us) vs perm)));
}
  where
    known_by : List Listed → ListedNeed → Type 0
    known_by ls u = has_op (inserted e ls) u.op.0 ≡ true

    users : live_users (inserted e (live ks)) (users_in e ++ us) ≡ users_in e ++ live_users (live ks) us
    users =
        filter-append (is_listed (inserted e (live ks))) (users_in e) us
        ∙ ap (λ (xs : List ListedNeed). xs ++ live_users (inserted e (live ks)) us)
        (filter_whole (is_listed (inserted e (live ks))) (users_in e) (own_users e (live ks)))
        ∙ ap (λ (xs : List ListedNeed). users_in e ++ xs) (other_users e (live ks) (entries_of ks) us h a.known)

-- where one that has no entry was taken out again
pub kept_back : (op : ℕ) (ks : List Kept) (us vs : List ListedNeed) → has_op (entries_of ks) op ≡ false →
    filter (is_of_another op) vs ≡ filter (is_of_another op) us → AreKept ks us → AreKept ks (filter (is_of_another op) vs)
kept_back op ks us vs h e a =
    subst (AreKept ks) (sym (e ∙ filter_whole (is_of_another op) us
    (All-weaker (λ (u : ListedNeed). has_op (entries_of ks) u.op.0 ≡ true) (λ (u : ListedNeed). is_of_another op u ≡ true)
    (λ u g. ap not (ne_eqb u.op.0 op (λ s. other_op (entries_of ks) op u.op.0 h g (sym s)))) us a.known))) a
