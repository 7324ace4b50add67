-- Pieces that go back into the numbers of one field.
use Rattle.std.proofs.Common.{◌≡◌, ◌<◌, ◌++◌, ℕ, suc, ℤ, pos, List, [], ◌∷◌, refl, sym, ap, ◌∙◌, map, length, get_or, append_assoc}
use Rattle.std.proofs.lemmas.List.{get_or_at, set_at}
use Rattle.lane_kernels.specs.declared.numbers.FieldKind.{FieldKind}
use Rattle.lane_kernels.specs.declared.numbers.Mode.{Mode}
use Rattle.lane_kernels.specs.declared.numbers.Mode.TheVariants as mode
use Rattle.lane_kernels.specs.Numbers.{applied, width_of}
use Rattle.plain_values.specs.Points.{counted_from}
use Rattle.point_sets.proofs.Rising.{length-counted_from}
use Rattle.region_tree.specs.Pieces.{Held}
use Rattle.machine_terms.specs.declared.order.Contents.{Contents}
use Rattle.machine_terms.specs.Contents.{image_of, keep}
use Rattle.machine_terms.specs.Copies.{give_back, give_pieces, give_points, piece_of}
use Rattle.plain_store.specs.Columns.{IsThere, column_of, number_given, piece_on, pieces_given, points_given, put_column}
use Rattle.plain_store.proofs.ColumnLaws.{column_put, keep_put, put_own}

module _ (kind : FieldKind) (root f : ℕ) (c : Contents) (inside : f < length (image_of c root).fields) where
  number_put : (m : Mode) (p : ℕ) (z : ℤ) (zs : List ℤ) →
      give_back kind m root f p z (put_column root f zs c) ≡ put_column root f (number_given kind m p z zs) c
  number_put mode.Read p z zs = refl
  number_put mode.Write p z zs = keep_put c root f p z zs
  number_put (mode.Reduce o) p z zs =
      ap (λ (ys : List ℤ). keep (put_column root f zs c) root f p
      (applied o (width_of kind) (get_or ys p (pos 0)) z)) (column_put c root f zs inside) ∙
      keep_put c root f p (applied o (width_of kind) (get_or zs p (pos 0)) z) zs

  points_put : (m : Mode) (xs : List ℕ) (ys zs : List ℤ) →
      give_points kind m root f xs ys (put_column root f zs c)
      ≡ put_column root f (points_given kind m xs ys zs) c
  points_put m [] ys zs = refl
  points_put m (x ∷ xs) [] zs = refl
  points_put m (x ∷ xs) (y ∷ ys) zs = ap (give_points kind m root f xs ys) (number_put m x y zs) ∙
      points_put m xs ys (number_given kind m x y zs)

  pieces_put : (hs : List Held) (zs : List ℤ) →
      give_pieces kind root f hs (put_column root f zs c)
      ≡ put_column root f (pieces_given kind hs zs) c
  pieces_put [] zs = refl
  pieces_put (h ∷ hs) zs = ap (give_pieces kind root f hs) (points_put h.mode h.points h.values zs) ∙
      pieces_put hs (points_given kind h.mode h.points h.values zs)

-- the pieces of a part go back as they do into the list of its field
pub pieces_go : (kind : FieldKind) (root f : ℕ) (hs : List Held) (c : Contents) → IsThere c root f →
    give_pieces kind root f hs c ≡ put_column root f (pieces_given kind hs (column_of c root f)) c
pieces_go kind root f hs c t = ap (give_pieces kind root f hs) (sym (put_own c root f t.alone)) ∙
    pieces_put kind root f c t.inside hs (column_of c root f)

-- ---- pieces over all points

longer : (xs : List ℤ) (z : ℤ) → length (xs ++ z ∷ []) ≡ suc (length xs)
longer [] z = refl
longer (x ∷ xs) z = ap suc (longer xs z)

-- behind the first numbers, the others are written over one by one
written_from : (kind : FieldKind) (zs ys front : List ℤ) → length ys ≡ length zs →
    points_given kind mode.Write (counted_from (length front) (length zs)) zs (front ++ ys) ≡ front ++ zs
written_from kind [] [] front e = refl
written_from kind [] (y ∷ ys) front e = absurd cc
written_from kind (z ∷ zs) [] front e = absurd cc
written_from kind (z ∷ zs) (y ∷ ys) front e =
    ap (points_given kind mode.Write (counted_from (suc (length front)) (length zs)) zs)
    (set_at front y ys z (length front) refl ∙ sym (append_assoc front (z ∷ []) ys)) ∙
    ap (λ (n : ℕ). points_given kind mode.Write (counted_from n (length zs)) zs ((front ++ z ∷ []) ++ ys))
    (sym (longer front z)) ∙
    written_from kind zs ys (front ++ z ∷ []) (cc) ∙ append_assoc front (z ∷ []) zs

pub all_written : (kind : FieldKind) (zs ys : List ℤ) → length ys ≡ length zs →
    points_given kind mode.Write (counted_from 0 (length zs)) zs ys ≡ zs
all_written kind zs ys e = written_from kind zs ys [] e

read_from : (ys front : List ℤ) →
    map (λ p. get_or (front ++ ys) p (pos 0)) (counted_from (length front) (length ys)) ≡ ys
read_from [] front = refl
read_from (y ∷ ys) front =
    ap (λ (v : ℤ). v ∷ map (λ p. get_or (front ++ y ∷ ys) p (pos 0)) (counted_from (suc (length front)) (length ys)))
    (get_or_at front y ys (pos 0) (length front) refl) ∙
    ap (λ (vs : List ℤ). y ∷ vs)
    (ap (λ (l : List ℤ). map (λ p. get_or l p (pos 0)) (counted_from (suc (length front)) (length ys)))
    (sym (append_assoc front (y ∷ []) ys)) ∙
    ap (λ (n : ℕ). map (λ p. get_or ((front ++ y ∷ []) ++ ys) p (pos 0)) (counted_from n (length ys)))
    (sym (longer front y)) ∙ read_from ys (front ++ y ∷ []))

pub all_read : (ys : List ℤ) → map (λ p. get_or ys p (pos 0)) (counted_from 0 (length ys)) ≡ ys
all_read ys = read_from ys []

-- an index space has as many points as its size says
pub all_counted : (n : ℕ) → length (counted_from 0 n) ≡ n
all_counted n = length-counted_from 0 n

-- a piece is of its field's numbers
pub piece_is : (kind : FieldKind) (c : Contents) (root f : ℕ) (m : Mode) (xs : List ℕ) →
    piece_of kind c root f m xs ≡ piece_on kind (column_of c root f) m xs
piece_is kind c root f mode.Read xs = refl
piece_is kind c root f mode.Write xs = refl
piece_is kind c root f (mode.Reduce o) xs = refl
