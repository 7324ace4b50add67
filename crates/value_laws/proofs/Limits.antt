-- Parts of what keeps the limits keep them.
use Rattle.std.proofs.Common.{List, [], ◌∷◌, ◌++◌, suc, subst, arith}
use Rattle.std.proofs.lemmas.List.{get_or_append_left, length-append}
use Rattle.std.specs.List.{All}

pub all_left : {X : Type 0} (P : X → Type 0) (xs ys : List X) → All P (xs ++ ys) → All P xs
all_left P xs ys a i d l =
    let len = length-append xs ys in
    subst P (get_or_append_left xs ys d i l) (a i d (omega (arith, l, len)))

pub all_right : {X : Type 0} (P : X → Type 0) (xs ys : List X) → All P (xs ++ ys) → All P ys
all_right P [] ys a = a
all_right P (x ∷ xs) ys a = all_right P xs ys (λ i d l. a (suc i) d (omega (arith, l)))

pub all_behind : {X : Type 0} (P : X → Type 0) (x : X) (xs : List X) → All P (x ∷ xs) → All P xs
all_behind P x xs a i d l = a (suc i) d (omega (arith, l))
