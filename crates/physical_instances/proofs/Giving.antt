-- Pieces that are given, point by point.
use Rattle.std.proofs.Common.{◌≡◌, ◌∙◌, ◌≤◌, ◌<◌, ◌+◌, ◌∷◌, ◌++◌, [], Bool, true, false, List, Some, ap, cond, drop, filter, get_or, length, refl, suc, sym, take, zero, ℕ, ℤ}
use Rattle.std.specs.Prelude.{slice_get, slice_set}
use Rattle.std.proofs.lemmas.List.{drop_all, drop_more}
use Rattle.lane_kernels.specs.declared.numbers.Width.{Width}
use Rattle.region_tree.specs.Pieces.{Held}
use Rattle.logical_map.proofs.Giving.{given_in_turn, given_nothing}
use Rattle.logical_map.specs.Gives.{given_at, given_beside}

-- a piece is given at a place: one more of the first
pub one_more : (w : Width) (h : Held) (points : List ℕ) (numbers : List ℤ) (place point : ℕ) (number : ℤ) →
    slice_get points place ≡ Some point → slice_get numbers place ≡ Some number →
    take (suc place) (slice_set numbers place (given_at w h point number))
    ++ given_beside w (h ∷ []) (drop (suc place) points) (drop (suc place) (slice_set numbers place (given_at w h point number)))
    ≡ take place numbers ++ given_beside w (h ∷ []) (drop place points) (drop place numbers)
one_more w h [] numbers place point number p v = absurd cc
one_more w h (q ∷ points) [] place point number p v = absurd cc
one_more w h (q ∷ points) (z ∷ numbers) zero point number p v = cc
one_more w h (q ∷ points) (z ∷ numbers) (suc place) point number p v =
    ap (λ zs. z ∷ zs) (one_more w h points numbers place point number p v)

-- ---- pieces of a kind, one after the other

filter_append : (t : Held → Bool) (hs gs : List Held) → filter t (hs ++ gs) ≡ filter t hs ++ filter t gs
filter_append t [] gs = refl
filter_append t (h ∷ hs) gs = by_case (t h) (filter_append t hs gs)
  where
    by_case : (b : Bool) → filter t (hs ++ gs) ≡ filter t hs ++ filter t gs →
        cond b (h ∷ filter t (hs ++ gs)) (filter t (hs ++ gs)) ≡ cond b (h ∷ filter t hs) (filter t hs) ++ filter t gs
    by_case true rest = ap (λ xs. h ∷ xs) rest
    by_case false rest = rest

-- one piece more of those that are left
pub give_next : (w : Width) (t : Held → Bool) (hs : List Held) (i : ℕ) (h : Held) (points : List ℕ) (now after all : List ℤ) →
    i < length hs → h ≡ get_or hs i h → after ≡ given_beside w (filter t (h ∷ [])) points now →
    given_beside w (filter t (drop i hs)) points now ≡ all →
    given_beside w (filter t (drop (i + 1) hs)) points after ≡ all
give_next w t hs i h points now after all below here is done =
    let rest : drop i hs ≡ h ∷ drop (i + 1) hs = drop_more hs i h below ∙ ap (λ y. y ∷ drop (i + 1) hs) (sym here) in
    ap (given_beside w (filter t (drop (i + 1) hs)) points) is ∙
    sym (given_in_turn w (filter t (h ∷ [])) (filter t (drop (i + 1) hs)) points now) ∙
    ap (λ gs. given_beside w gs points now) (sym (filter_append t (h ∷ []) (drop (i + 1) hs))) ∙
    ap (λ gs. given_beside w (filter t gs) points now) (sym rest) ∙ done

-- none is left
pub give_none : (w : Width) (t : Held → Bool) (hs : List Held) (i : ℕ) (points : List ℕ) (now all : List ℤ) →
    length hs ≤ i → given_beside w (filter t (drop i hs)) points now ≡ all → now ≡ all
give_none w t hs i points now all l done =
    sym (given_nothing w points now) ∙
    ap (λ gs. given_beside w (filter t gs) points now) (sym (drop_all i hs l)) ∙ done
