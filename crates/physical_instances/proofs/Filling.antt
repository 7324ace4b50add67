-- Elements that are moved in chunks.
use Rattle.std.proofs.Common.{◌≡◌, ◌∙◌, ◌+◌, ◌-◌, List, [], ◌∷◌, ap, arith, length, min, refl, sym, ℕ, ℤ}
use Rattle.std.proofs.lemmas.List.Sums.{sum_by-cons}
use Rattle.lane_kernels.specs.declared.numbers.Mode.{Mode}
use Rattle.region_tree.specs.Pieces.{Held}
use Rattle.logical_map.proofs.Moving.{only_there}
use Rattle.logical_map.specs.Fills.{elements_of, moved_beside, moved_piece, moved_pieces, number_for}
use Rattle.logical_map.specs.Maps.{Column}

-- pieces keep their points
pub same_elements : (c : Column) (behind next : ℕ) (hs : List Held) → elements_of (moved_pieces c behind next hs) ≡ elements_of hs
same_elements c behind next [] = refl
same_elements c behind next (h ∷ hs) =
    let rest = moved_pieces c (behind - length h.points) (next - (length h.points - behind)) hs in
    sum_by-cons (λ (g : Held). length g.points) (moved_piece c behind next h) rest ∙
    ap (λ n. length h.points + n) (same_elements c (behind - length h.points) (next - (length h.points - behind)) hs) ∙
    sym (sum_by-cons (λ (g : Held). length g.points) h hs)

-- a piece with other values
held_with : (h g : Held) (zs : List ℤ) → h.points ≡ g.points → h.mode ≡ g.mode → h.values ≡ zs → h ≡ record g { values = zs }
held_with h g zs p m v =
    ap (λ (ps : List ℕ). let x : Held = record { points = ps; mode = h.mode; values = h.values } in x) p ∙
    ap (λ (n : Mode). let x : Held = record { points = g.points; mode = n; values = h.values } in x) m ∙
    ap (λ (ys : List ℤ). let x : Held = record { points = g.points; mode = g.mode; values = ys } in x) v

-- all elements of a piece that are there are moved
pub piece_moved : (c : Column) (behind next first end : ℕ) (h g : Held) → length g.points ≡ length g.values →
    first ≡ min behind (length g.points) → end ≡ min (behind + next) (length g.points) →
    h.points ≡ g.points → h.mode ≡ g.mode →
    h.values ≡ moved_beside (number_for c g.mode) first (end - first) g.points g.values →
    h ≡ moved_piece c behind next g
piece_moved c behind next first end h g s f e p m v =
    held_with h g _ p m (v ∙ only_there (number_for c g.mode) first (end - first) behind next g.points g.values s f (omega (arith, f, e)))
