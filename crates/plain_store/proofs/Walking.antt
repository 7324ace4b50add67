-- Lists that are gone through place by place.
use Rattle.std.proofs.Common.{◌≡◌, ℕ, ◌+◌, Some, None, List, [], ◌∷◌, ◌++◌, length, get_or, drop, map, slice_get, sym, ap, ◌∙◌, ⊎_elim}
use Rattle.std.proofs.Common.{ℤ}
use Rattle.lane_kernels.specs.declared.numbers.FieldKind.{FieldKind}
use Rattle.lane_kernels.specs.declared.numbers.Mode.{Mode}
use Rattle.plain_store.specs.Columns.{number_given, points_given}
use Rattle.std.proofs.lemmas.Bool.{cases_lt}
use Rattle.std.proofs.lemmas.List.{append_assoc, drop_more}
use Rattle.std.proofs.lemmas.Option.{slice_get-get_or, slice_get_past}

-- the item at a place stands in front of what is left behind it
pub next_of : {A : Type 0} (xs : List A) (i : ℕ) (p : A) → Some p ≡ slice_get xs i →
    drop i xs ≡ p ∷ drop (i + 1) xs
next_of xs i p e = ⊎_elim
    (λ l. let same : Some (get_or xs i p) ≡ Some p = sym (slice_get-get_or xs i p l) ∙ sym e in
    let item : get_or xs i p ≡ p = cc in
    drop_more xs i p l ∙ ap (λ y. y ∷ drop (i + 1) xs) item)
    (λ l. let none : Some p ≡ None = e ∙ slice_get_past xs i l in absurd cc)
    (cases_lt i (length xs))

-- one more result of a function on a list's items
pub mapped_next : {A B : Type 0} (f : A → B) (xs : List A) (i : ℕ) (p : A) (y : B)
    (done after : List B) → Some p ≡ slice_get xs i → y ≡ f p → after ≡ done ++ y ∷ [] →
    done ++ map f (drop i xs) ≡ map f xs → after ++ map f (drop (i + 1) xs) ≡ map f xs
mapped_next f xs i p y done after e is pushed h =
    let rest = map f (drop (i + 1) xs) in
    ap (λ l. l ++ rest) (pushed ∙ ap (λ z. done ++ z ∷ []) is) ∙ append_assoc done (f p ∷ []) rest ∙
    ap (λ l. done ++ map f l) (sym (next_of xs i p e)) ∙ h

-- one more number that goes back
pub given_next : (kind : FieldKind) (m : Mode) (ps : List ℕ) (zs : List ℤ) (i p : ℕ) (z : ℤ)
    (given after all : List ℤ) → Some p ≡ slice_get ps i → drop i zs ≡ z ∷ drop (i + 1) zs →
    after ≡ number_given kind m p z given →
    points_given kind m (drop i ps) (drop i zs) given ≡ all →
    points_given kind m (drop (i + 1) ps) (drop (i + 1) zs) after ≡ all
given_next kind m ps zs i p z given after all e here is h =
    ap (points_given kind m (drop (i + 1) ps) (drop (i + 1) zs)) is ∙
    ap (λ l. points_given kind m l (z ∷ drop (i + 1) zs) given) (sym (next_of ps i p e)) ∙
    ap (λ l. points_given kind m (drop i ps) l given) (sym here) ∙ h
