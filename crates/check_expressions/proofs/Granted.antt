-- One more turn of a loop that adds to a list what each element gives.
use Rattle.std.proofs.Common.{◌≡◌, ◌<◌, ◌+◌, ◌++◌, ◌∷◌, [], ℕ, List, ap, flat_map, get_or, length, sym, take, ◌∙◌}
use Rattle.std.proofs.lemmas.List.{flat_map_more, take_more}

pub added : {X A : Type 0} (f : X → List A) (xs : List X) (i : ℕ) (x : X) (before so_far now : List A) →
    i < length xs → x ≡ get_or xs i x → so_far ≡ before ++ flat_map f (take i xs) → now ≡ so_far ++ f x →
    now ≡ before ++ flat_map f (take (i + 1) xs)
added {X = X} {A = A} f xs i x before so_far now lt is so step =
    step ∙ ap (λ (ys : List A). ys ++ f x) so ∙ flat_map_more f before (take i xs) x
    ∙ ap (λ (y : X). before ++ flat_map f (take i xs ++ y ∷ [])) is
    ∙ ap (λ (ys : List X). before ++ flat_map f ys) (sym (take_more xs i x lt))
