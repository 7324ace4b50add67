-- The place of a point, and the point at a place.
use Rattle.std.proofs.Common.{◌≡◌, ◌↔◌, ℕ, ◌+◌, ◌≤◌, true, eqb, List, [], ◌∷◌, length, get_or, Option, Some, None, IfSome, slice_get, sym, ap, ◌∙◌, ⊎_elim}
use Rattle.std.proofs.lemmas.Bool.{cases_Bool, cases_lt, cond-true, cond-false, eqb-true, eqb-false, false≢true, false_from_ne_true}
use Rattle.std.proofs.lemmas.Option.{slice_get-get_or, slice_get_past}
use Rattle.std.proofs.lemmas.Iterator.Adapters.{position_from-zero}
use Rattle.std.proofs.lemmas.List.Quantifiers.{position-Some}
use Rattle.std.specs.List.{Contains, position, position_from}
use Rattle.plain_values.specs.Points.{has}
use Rattle.point_sets.proofs.Rising.{Contains-from_has, has-from_Contains, has_other, position_absent}

some_not_none : (r : Option ℕ) (a : ℕ) → r ≡ Some a → r ≡ None → ⊥
some_not_none r a some none = cc

pub none_at : (xs : List ℕ) (place : ℕ) (r : Option ℕ) → r ≡ slice_get xs place → (r ≡ None) ↔ (length xs ≤ place)
none_at xs place r e =
    (λ n. ⊎_elim (λ l. absurd (some_not_none r (get_or xs place 0) (e ∙ slice_get-get_or xs place 0 l) n)) (λ l. l) (cases_lt place (length xs)), λ l. e ∙ slice_get_past xs place l)

pub position_is : (xs : List ℕ) (x : ℕ) → position (λ y. eqb y x) xs ≡ position_from (λ y. eqb y x) 0 xs
position_is xs x = position_from-zero (λ y. eqb y x) xs

member_has_place : (x i : ℕ) (xs : List ℕ) → has xs x ≡ true → (k : ℕ) × (position_from (λ y. eqb y x) i xs ≡ Some k)
member_has_place x i [] h = absurd (false≢true h)
member_has_place x i (y ∷ ys) h =
    ⊎_elim (λ e. (i, cond-true (eqb y x) (Some i) (position_from (λ z. eqb z x) (i + 1) ys) e)) (λ ne. let later = member_has_place x (i + 1) ys (sym (has_other x y ys (λ q. eqb-false y x ne (sym q))) ∙ h) in (later.0, cond-false (eqb y x) (Some i) (position_from (λ z. eqb z x) (i + 1) ys) ne ∙ later.1)) (cases_Bool (eqb y x))

pub place_told : (xs : List ℕ) (x : ℕ) (r : Option ℕ) → r ≡ position (λ y. eqb y x) xs → IfSome r (λ place. slice_get xs place ≡ Some x)
place_told xs x None e = tt
place_told xs x (Some i) e =
    let found = position-Some (λ y. eqb y x) xs i 0 (sym e) in
    slice_get-get_or xs i 0 found.0 ∙ ap Some (eqb-true (get_or xs i 0) x found.1)

pub place_none : (xs : List ℕ) (x : ℕ) (r : Option ℕ) → r ≡ position (λ y. eqb y x) xs → (r ≡ None) ↔ (¬ Contains xs x)
place_none xs x r e =
    (λ n m. let found = member_has_place x 0 xs (has-from_Contains xs x m) in some_not_none r found.0 (e ∙ position_is xs x ∙ found.1) n, λ out. e ∙ position_is xs x ∙ position_absent x 0 xs (false_from_ne_true (has xs x) (λ m. out (Contains-from_has xs x m))))
