-- An index of names stays one as its list grows.
use Rattle.std.proofs.Common.{◌≡◌, ℕ, ◌+◌, ◌<◌, List, [], ◌∷◌, ◌++◌, length, refl, sym, ap, ◌∙◌, subst, Bool, true, false, cond, eqb, ltb, Option, None, Some, is_some, arith, true≢false, not, slice_get}
use Rattle.std.specs.Prelude.{bytes_eq, position}
use Rattle.std.specs.Option.{option_and_then}
use Rattle.std.specs.List.{position_or_len, find}
use Rattle.std.specs.HashMap.{HashMap, get}
use Rattle.std.proofs.lemmas.Bool.{ltb-false}
use Rattle.std.proofs.lemmas.Option.{slice_get_past}
use Rattle.std.proofs.lemmas.Bool.Decides.{nat_tests}
use Rattle.std.proofs.lemmas.List.{length_push}
use Rattle.std.proofs.lemmas.List.Folds.{position_or_len_push, find_at}
use Rattle.std.proofs.lemmas.List.Sums.{prefix_len-le-length}
use Rattle.std.proofs.lemmas.Slice.Eq.{bytes_eq-Decides}
use Rattle.program_tables.specs.Lookups.{is_named, place_named, IsIndexOf}

-- the first that passes, or the next place
abbrev or_next : Option ℕ → Bool → ℕ → Option ℕ
or_next (Some i) b n = Some i
or_next None b n = cond b (Some n) None

place_by : (i n : ℕ) (b : Bool) → i < n + 1 → cond (ltb (cond (eqb i n) (n + cond b 0 1) i) (n + 1)) (Some (cond (eqb i n) (n + cond b 0 1) i)) None ≡ or_next (cond (ltb i n) (Some i) None) b n
place_by i n true h = grind (arith, nat_tests)
place_by i n false h = grind (arith, nat_tests)

-- the place in a list with one more item
pub position-push : {X : Type 0} (p : X → Bool) (xs : List X) (x : X) → position p (xs ++ x ∷ []) ≡ or_next (position p xs) (p x) (length xs)
position-push p xs x =
    let below : position_or_len p xs < length xs + 1 = omega (arith, prefix_len-le-length (λ y. not (p y)) xs) in
    rw (position_or_len_push p xs x, length_push xs x) (place_by (position_or_len p xs) (length xs) (p x) below)

next_kept : (o : Option ℕ) (b : Bool) (n : ℕ) → (b ≡ true → is_some o ≡ true) → o ≡ or_next o b n
next_kept (Some i) b n h = refl
next_kept None true n h = absurd (true≢false (sym (h refl)))
next_kept None false n h = refl

next_new : (o : Option ℕ) (b : Bool) (n : ℕ) → (b ≡ true → o ≡ None) → cond b (Some n) o ≡ or_next o b n
next_new o true n h = ap (λ r. or_next r true n) (sym (h refl))
next_new (Some i) false n h = refl
next_new None false n h = refl

none_from : (o : Option ℕ) → is_some o ≡ false → o ≡ None
none_from None h = refl
none_from (Some i) h = absurd (true≢false h)

module _ {X S : Type 0} (name : X → List ℕ) (index : HashMap (List ℕ) ℕ S) (xs : List X) (x : X) where
  -- an item whose name is there changes nothing
  pub IsIndexOf-kept : (m : List ℕ) → IsIndexOf name index xs → m ≡ name x → is_some (get bytes_eq index m) ≡ true → IsIndexOf name index (xs ++ x ∷ [])
  IsIndexOf-kept m is same there n =
      let some : bytes_eq (name x) n ≡ true → is_some (place_named name xs n) ≡ true = λ e.
      subst (λ k. is_some (place_named name xs k) ≡ true) (same ∙ (bytes_eq-Decides (name x) n).0 e) (ap is_some (sym (is m)) ∙ there) in
      is n ∙ next_kept (place_named name xs n) (bytes_eq (name x) n) (length xs) some ∙ sym (position-push (is_named name n) xs x)

  -- an item with a name of its own is put in
  pub IsIndexOf-added : (m : List ℕ) (i : ℕ) (new : HashMap (List ℕ) ℕ S) → IsIndexOf name index xs → m ≡ name x → is_some (get bytes_eq index m) ≡ false →
      ((n : List ℕ) → get bytes_eq new n ≡ cond (bytes_eq m n) (Some i) (get bytes_eq index n)) → i ≡ length xs → IsIndexOf name new (xs ++ x ∷ [])
  IsIndexOf-added m i new is same absent put at n =
      let none : bytes_eq (name x) n ≡ true → place_named name xs n ≡ None = λ e.
      subst (λ k. place_named name xs k ≡ None) (same ∙ (bytes_eq-Decides (name x) n).0 e) (sym (is m) ∙ none_from (get bytes_eq index m) absent) in
      put n ∙ (λ j. cond (bytes_eq (same j) n) (Some (at j)) (is n j)) ∙ next_new (place_named name xs n) (bytes_eq (name x) n) (length xs) none ∙ sym (position-push (is_named name n) xs x)

-- the first item with a name stands at its place
pub first_at_place : {X : Type 0} (p : X → Bool) (xs : List X) → find p xs ≡ option_and_then (slice_get xs) (position p xs)
first_at_place p xs = by (ltb (position_or_len p xs) (length xs)) refl
  where
    by : (b : Bool) → ltb (position_or_len p xs) (length xs) ≡ b → find p xs ≡ option_and_then (slice_get xs) (position p xs)
    by true e = find_at p xs ∙ sym (ap (λ t. option_and_then (slice_get xs) (cond t (Some (position_or_len p xs)) None)) e)
    by false e = find_at p xs ∙ slice_get_past xs (position_or_len p xs) (ltb-false (position_or_len p xs) (length xs) e)
        ∙ sym (ap (λ t. option_and_then (slice_get xs) (cond t (Some (position_or_len p xs)) None)) e)
