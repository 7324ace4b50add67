-- Elements that are moved one by one, and pieces one by one.
use Rattle.std.proofs.Common.{◌≡◌, ◌∙◌, ◌+◌, ◌-◌, ◌<◌, ◌++◌, List, [], ◌∷◌, ap, arith, drop, get_or, length, min, refl, suc, sym, take, zero, ℕ, ℤ}
use Rattle.std.specs.Prelude.{slice_set}
use Rattle.region_tree.specs.Pieces.{Held}
use Rattle.logical_map.specs.Fills.{moved_beside, moved_piece, moved_pieces}
use Rattle.logical_map.specs.Maps.{Column}

pub moved_nowhere : (f : ℕ → ℤ) (a k : ℕ) (zs : List ℤ) → moved_beside f a k [] zs ≡ zs
moved_nowhere f zero zero zs = refl
moved_nowhere f zero (suc k) zs = refl
moved_nowhere f (suc a) k zs = refl

pub moved_none : (f : ℕ → ℤ) (a k : ℕ) (ps : List ℕ) → moved_beside f a k ps [] ≡ []
moved_none f zero zero ps = refl
moved_none f zero (suc k) [] = refl
moved_none f zero (suc k) (p ∷ ps) = refl
moved_none f (suc a) k [] = refl
moved_none f (suc a) k (p ∷ ps) = refl

pub moved_nothing : (f : ℕ → ℤ) (a : ℕ) (ps : List ℕ) (zs : List ℤ) → moved_beside f a zero ps zs ≡ zs
moved_nothing f zero ps zs = refl
moved_nothing f (suc a) [] zs = refl
moved_nothing f (suc a) (p ∷ ps) [] = refl
moved_nothing f (suc a) (p ∷ ps) (z ∷ zs) = ap (λ ys. z ∷ ys) (moved_nothing f a ps zs)

-- one more element is moved
pub one_more : (f : ℕ → ℤ) (a k i : ℕ) (ps : List ℕ) (zs : List ℤ) (d : ℕ) → i ≡ a + k → i < length ps →
    length ps ≡ length zs →
    slice_set (moved_beside f a k ps zs) i (f (get_or ps i d)) ≡ moved_beside f a (suc k) ps zs
one_more f a k i [] zs d e l s = absurd (omega (arith, l))
one_more f a k i (p ∷ ps) [] d e l s = absurd (omega (arith, s))
one_more f (suc a) k (suc i) (p ∷ ps) (z ∷ zs) d e l s =
    ap (λ ys. z ∷ ys) (one_more f a k i ps zs d (omega (arith, e)) (omega (arith, l)) (omega (arith, s)))
one_more f (suc a) k zero (p ∷ ps) (z ∷ zs) d e l s = absurd (omega (arith, e))
one_more f zero (suc k) (suc i) (p ∷ ps) (z ∷ zs) d e l s =
    ap (λ ys. f p ∷ ys) (one_more f zero k i ps zs d (omega (arith, e)) (omega (arith, l)) (omega (arith, s)))
one_more f zero (suc k) zero (p ∷ ps) (z ∷ zs) d e l s = absurd (omega (arith, e))
one_more f zero zero zero (p ∷ ps) (z ∷ zs) d e l s = ap (λ ys. f p ∷ ys) (sym (moved_nothing f zero ps zs))
one_more f zero zero (suc i) (p ∷ ps) (z ∷ zs) d e l s = absurd (omega (arith, e))

-- only elements that are there are moved
pub only_there : (f : ℕ → ℤ) (a k b n : ℕ) (ps : List ℕ) (zs : List ℤ) → length ps ≡ length zs →
    a ≡ min b (length ps) → k ≡ min n (length ps - a) → moved_beside f a k ps zs ≡ moved_beside f b n ps zs
only_there f a k b n [] zs s l m = moved_nowhere f a k zs ∙ sym (moved_nowhere f b n zs)
only_there f a k b n (p ∷ ps) [] s l m = absurd (omega (arith, s))
only_there f (suc a) k (suc b) n (p ∷ ps) (z ∷ zs) s l m =
    ap (λ ys. z ∷ ys) (only_there f a k b n ps zs (omega (arith, s)) (omega (arith, l)) (omega (arith, l, m)))
only_there f zero k (suc b) n (p ∷ ps) (z ∷ zs) s l m = absurd (omega (arith, l))
only_there f (suc a) k zero n (p ∷ ps) (z ∷ zs) s l m = absurd (omega (arith, l))
only_there f zero (suc k) zero (suc n) (p ∷ ps) (z ∷ zs) s l m =
    ap (λ ys. f p ∷ ys) (only_there f zero k zero n ps zs (omega (arith, s)) (omega arith) (omega (arith, m)))
only_there f zero zero zero (suc n) (p ∷ ps) (z ∷ zs) s l m = absurd (omega (arith, m))
only_there f zero (suc k) zero zero (p ∷ ps) (z ∷ zs) s l m = absurd (omega (arith, m))
only_there f zero zero zero zero (p ∷ ps) (z ∷ zs) s l m = refl

-- ---- pieces

-- one more piece has its elements
pub one_more_piece : (c : Column) (behind next : ℕ) (hs : List Held) (place : ℕ) (h : Held) →
    place < length hs → h ≡ get_or hs place h →
    take (suc place) (slice_set hs place (moved_piece c behind next h))
    ++ moved_pieces c (behind - length h.points) (next - (length h.points - behind))
    (drop (suc place) (slice_set hs place (moved_piece c behind next h)))
    ≡ take place hs ++ moved_pieces c behind next (drop place hs)
one_more_piece c behind next [] place h l e = absurd (omega (arith, l))
one_more_piece c behind next (g ∷ hs) zero h l e =
    ap (λ (x : Held). moved_piece c behind next x
    ∷ moved_pieces c (behind - length x.points) (next - (length x.points - behind)) hs) e
one_more_piece c behind next (g ∷ hs) (suc place) h l e =
    ap (λ ys. g ∷ ys) (one_more_piece c behind next hs place h (omega (arith, l)) e)
