-- Pieces that are given one after the other.
use Rattle.std.proofs.Common.{◌≡◌, ◌∙◌, ◌++◌, List, [], ◌∷◌, ap, length, refl, suc, ℕ, ℤ}
use Rattle.lane_kernels.specs.Numbers.{width_of}
use Rattle.lane_kernels.specs.declared.numbers.Width.{Width}
use Rattle.region_tree.specs.Pieces.{Held}
use Rattle.logical_map.specs.Gives.{all_given_at, given_at, given_beside, with_pieces}
use Rattle.logical_map.specs.Maps.{Column}

pub given_nothing : (w : Width) (ps : List ℕ) (zs : List ℤ) → given_beside w [] ps zs ≡ zs
given_nothing w [] zs = refl
given_nothing w (p ∷ ps) [] = refl
given_nothing w (p ∷ ps) (z ∷ zs) = ap (λ ys. z ∷ ys) (given_nothing w ps zs)

all_in_turn : (w : Width) (hs gs : List Held) (p : ℕ) (z : ℤ) →
    all_given_at w (hs ++ gs) p z ≡ all_given_at w gs p (all_given_at w hs p z)
all_in_turn w [] gs p z = refl
all_in_turn w (h ∷ hs) gs p z = all_in_turn w hs gs p (given_at w h p z)

pub given_in_turn : (w : Width) (hs gs : List Held) (ps : List ℕ) (zs : List ℤ) →
    given_beside w (hs ++ gs) ps zs ≡ given_beside w gs ps (given_beside w hs ps zs)
given_in_turn w hs gs [] zs = refl
given_in_turn w hs gs (p ∷ ps) [] = refl
given_in_turn w hs gs (p ∷ ps) (z ∷ zs) =
    ap (λ y. y ∷ given_beside w (hs ++ gs) ps zs) (all_in_turn w hs gs p z) ∙
    ap (λ ys. all_given_at w gs p (all_given_at w hs p z) ∷ ys) (given_in_turn w hs gs ps zs)

pub length_given : (w : Width) (hs : List Held) (ps : List ℕ) (zs : List ℤ) →
    length (given_beside w hs ps zs) ≡ length zs
length_given w hs [] zs = refl
length_given w hs (p ∷ ps) [] = refl
length_given w hs (p ∷ ps) (z ∷ zs) = ap (λ n. suc n) (length_given w hs ps zs)

-- ---- of a column

pub no_pieces : (c : Column) → with_pieces [] c ≡ c
no_pieces c = ap (λ zs. record c { numbers = zs }) (given_nothing (width_of c.kind) c.points c.numbers)

pub pieces_in_turn : (hs gs : List Held) (c : Column) →
    with_pieces (hs ++ gs) c ≡ with_pieces gs (with_pieces hs c)
pieces_in_turn hs gs c =
    ap (λ zs. record c { numbers = zs }) (given_in_turn (width_of c.kind) hs gs c.points c.numbers)
