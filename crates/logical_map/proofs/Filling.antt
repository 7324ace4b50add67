-- Elements that are moved a chunk at a time.
use Rattle.std.proofs.Common.{◌≡◌, ◌∙◌, ◌+◌, ◌-◌, ◌≤◌, List, [], ◌∷◌, ap, arith, length, map, pos, refl, replicate, suc, sym, zero, ℕ, ℤ}
use Rattle.std.proofs.lemmas.List.Sums.{sum_by-cons}
use Rattle.lane_kernels.specs.declared.numbers.Mode.{Mode}
use Rattle.region_tree.specs.Pieces.{Held}
use Rattle.logical_map.proofs.Moving.{moved_none, moved_nowhere}
use Rattle.logical_map.specs.Fills.{blank, elements_of, moved_beside, moved_piece, moved_pieces, number_for}
use Rattle.logical_map.specs.Laws.{AllIsMoved, ChunksJoin, held_of}
use Rattle.logical_map.specs.Maps.{Column}

join_beside : (f : ℕ → ℤ) (a k n s t : ℕ) (ps : List ℕ) (zs : List ℤ) → s ≡ a + k → t ≡ k + n →
    moved_beside f s n ps (moved_beside f a k ps zs) ≡ moved_beside f a t ps zs
join_beside f a k n s t [] zs e g =
    moved_nowhere f s n (moved_beside f a k [] zs) ∙ moved_nowhere f a k zs ∙ sym (moved_nowhere f a t zs)
join_beside f a k n s t (p ∷ ps) [] e g =
    ap (moved_beside f s n (p ∷ ps)) (moved_none f a k (p ∷ ps)) ∙ moved_none f s n (p ∷ ps) ∙ sym (moved_none f a t (p ∷ ps))
join_beside f (suc a) k n (suc s) t (p ∷ ps) (z ∷ zs) e g =
    ap (λ ys. z ∷ ys) (join_beside f a k n s t ps zs (omega (arith, e)) g)
join_beside f (suc a) k n zero t (p ∷ ps) (z ∷ zs) e g = absurd (omega (arith, e))
join_beside f zero (suc k) n (suc s) (suc t) (p ∷ ps) (z ∷ zs) e g =
    ap (λ ys. f p ∷ ys) (join_beside f zero k n s t ps zs (omega (arith, e)) (omega (arith, g)))
join_beside f zero (suc k) n zero t (p ∷ ps) (z ∷ zs) e g = absurd (omega (arith, e))
join_beside f zero (suc k) n (suc s) zero (p ∷ ps) (z ∷ zs) e g = absurd (omega (arith, g))
join_beside f zero zero n zero t (p ∷ ps) (z ∷ zs) e g =
    let same : n ≡ t = omega (arith, g) in ap (λ (m : ℕ). moved_beside f zero m (p ∷ ps) (z ∷ zs)) same
join_beside f zero zero n (suc s) t (p ∷ ps) (z ∷ zs) e g = absurd (omega (arith, e))

join_pieces : (c : Column) (a k n s t : ℕ) (hs : List Held) → s ≡ a + k → t ≡ k + n →
    moved_pieces c s n (moved_pieces c a k hs) ≡ moved_pieces c a t hs
join_pieces c a k n s t [] e g = refl
join_pieces c a k n s t (h ∷ hs) e g =
    let size = length h.points in
    ap (λ (zs : List ℤ). record h { values = zs } ∷ moved_pieces c (s - size) (n - (size - s)) (moved_pieces c (a - size) (k - (size - a)) hs))
    (join_beside (number_for c h.mode) a k n s t h.points h.values e g) ∙
    ap (λ hs. moved_piece c a t h ∷ hs)
    (join_pieces c (a - size) (k - (size - a)) (n - (size - s)) (s - size) (t - (size - a)) hs (omega (arith, e)) (omega (arith, e, g)))

pub chunks_join : ChunksJoin
chunks_join c behind next more hs = join_pieces c behind next more (behind + next) (next + more) hs refl refl

-- ---- all

all_beside_moved : (f : ℕ → ℤ) (n : ℕ) (ps : List ℕ) (z : ℤ) → length ps ≤ n →
    moved_beside f zero n ps (replicate (length ps) z) ≡ map f ps
all_beside_moved f n [] z l = moved_nowhere f zero n []
all_beside_moved f zero (p ∷ ps) z l = absurd (omega (arith, l))
all_beside_moved f (suc n) (p ∷ ps) z l = ap (λ ys. f p ∷ ys) (all_beside_moved f n ps z (omega (arith, l)))

all_moved : (c : Column) (b n : ℕ) (ws : List (List ℕ × Mode)) → b ≡ 0 → elements_of (map blank ws) ≤ n →
    moved_pieces c b n (map blank ws) ≡ map (held_of c) ws
all_moved c b n [] e l = refl
all_moved c b n (w ∷ ws) e l =
    let size = length w.0 in
    let count = sum_by-cons (λ (h : Held). length h.points) (blank w) (map blank ws) in
    let first : moved_beside (number_for c w.1) b n w.0 (replicate size (pos 0)) ≡ map (number_for c w.1) w.0 =
    ap (λ (m : ℕ). moved_beside (number_for c w.1) m n w.0 (replicate size (pos 0))) e ∙
    all_beside_moved (number_for c w.1) n w.0 (pos 0) (omega (arith, count)) in
    ap (λ (zs : List ℤ). record (blank w) { values = zs } ∷ moved_pieces c (b - size) (n - (size - b)) (map blank ws)) first ∙
    ap (λ hs. held_of c w ∷ hs) (all_moved c (b - size) (n - (size - b)) ws (omega (arith, e)) (omega (arith, count, e)))

pub all_is_moved : AllIsMoved
all_is_moved c ws = all_moved c 0 (elements_of (map blank ws)) ws refl (omega arith)
