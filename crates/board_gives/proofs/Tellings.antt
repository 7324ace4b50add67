-- Text that is taken back.
use Rattle.std.proofs.Common.{◌≡◌, ◌<◌, ◌∙◌, ◌++◌, ℕ, List, [], ◌∷◌, ap, arith, length, refl, sym}
use Rattle.std.proofs.lemmas.List.{length_push}
use Rattle.board_terms.specs.declared.operation.Operation.{Operation}
use Rattle.board_terms.specs.declared.operation.Said.{Said}
use Rattle.board_gives.specs.Gives.{also_told}

longer : {A B : Type 0} (y : A) (xs : List A) → [] ≡ xs ++ y ∷ [] → B
longer y xs e = absurd (omega (arith, ap {B = ℕ} length e, length_push xs y))

abbrev first_of : {A : Type 0} → A → List A → A
first_of d [] = d
first_of d (x ∷ xs) = x

abbrev rest_of : {A : Type 0} → List A → List A
rest_of [] = []
rest_of (x ∷ xs) = xs

-- what stands before the last one
before_last : {A : Type 0} (xs ys : List A) (x y : A) → xs ++ x ∷ [] ≡ ys ++ y ∷ [] → xs ≡ ys
before_last [] [] x y e = refl
before_last [] (z ∷ ys) x y e = longer y ys (ap rest_of e)
before_last (z ∷ xs) [] x y e = longer x xs (sym (ap rest_of e))
before_last (z ∷ xs) (w ∷ ys) x y e =
    ap (λ (u : _). u ∷ xs) (ap (first_of z) e) ∙ ap (λ (us : _). w ∷ us) (before_last xs ys x y (ap rest_of e))

pub said_before : (now before : Operation) (left : List Said) (last : Said) (text : List ℕ) → 0 < length text → now ≡ also_told before text →
    now.said ≡ left ++ last ∷ [] → record now { said = left } ≡ before
said_before now before left last [] b e p = absurd (omega (arith, b))
said_before now before left last (c ∷ cs) b e p =
    let pieces : left ≡ before.said = before_last left before.said last
    (record { children = length before.children; text = c ∷ cs }) (sym p ∙ ap (λ (o : Operation). o.said) e) in
    ap (λ (o : Operation). record o { said = left }) e ∙ ap (λ (ps : List Said). record before { said = ps }) pieces
