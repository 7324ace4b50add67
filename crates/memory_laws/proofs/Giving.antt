-- What the roots hold where the parts were given back: what was seen.
use Rattle.std.proofs.Common.{◌≡◌, ℕ, ◌<◌, ℤ, List, [], ◌∷◌, Bool, true, false, Option, Some, None, refl, sym, ap, ◌∙◌, subst, arith}
use Rattle.std.specs.Prelude.{cond, length, ◌==◌, ◌&&◌}
use Rattle.std.proofs.lemmas.Bool.{eqb-true, eqb-false, false≢true}
use Rattle.std.proofs.lemmas.Option.{none-some}
use Rattle.plain_values.specs.Points.{has}
use Rattle.point_sets.proofs.Rising.{has_head, has_tail, has_other}
use Rattle.lane_kernels.specs.declared.numbers.FieldKind.{FieldKind}
use Rattle.lane_kernels.specs.declared.numbers.Mode.{Mode}
use Rattle.lane_kernels.specs.declared.numbers.Mode.TheVariants as mode
use Rattle.lane_kernels.specs.Numbers.{applied, width_of}
use Rattle.region_tree.specs.declared.piece.Part.{Part}
use Rattle.region_tree.specs.Pieces.{Held}
use Rattle.machine_terms.specs.Parts.{Cell, value_beside, cell_of, cell_at, part_of}
use Rattle.machine_terms.specs.declared.order.Contents.{Contents}
use Rattle.machine_terms.specs.Contents.{kept_at}
use Rattle.machine_terms.specs.Copies.{give_back, give_points, give_pieces, give_parts}
use Rattle.memory_laws.specs.Places.{column_of, is_same}
use Rattle.memory_laws.proofs.Keeping.{kept_set, length_kept}

-- ---- what a number is after it was given back

abbrev pub given_value : FieldKind → Mode → ℤ → ℤ → ℤ
given_value kind mode.Read old z = old
given_value kind mode.Write old z = z
given_value kind (mode.Reduce o) old z = applied o (width_of kind) old z

abbrev given_number : FieldKind → Mode → ℤ → Option ℤ → ℤ
given_number kind m old None = old
given_number kind m old (Some z) = given_value kind m old z

abbrev pub given_cell : FieldKind → ℤ → Option Cell → ℤ
given_cell kind old None = old
given_cell kind old (Some c) = given_value kind c.mode old c.value

abbrev pub given_part : ℤ → ℕ → Option Part → ℤ
given_part old p None = old
given_part old p (Some q) = given_cell q.kind old (cell_at q.pieces p)

-- ---- what may be given

-- a list has no point twice
abbrev pub NoRepeat : List ℕ → Type 0
NoRepeat [] = Unit {0}
NoRepeat (x ∷ xs) = (has xs x ≡ false) × NoRepeat xs

-- pieces share no point, and have no point twice
abbrev pub AreApart : List Held → Type 0
AreApart [] = Unit {0}
AreApart (h ∷ hs) = NoRepeat h.points
    × ((p : ℕ) → has h.points p ≡ true → cell_at hs p ≡ None) × AreApart hs

-- all points are below a bound
abbrev pub AllBelow : ℕ → List ℕ → Type 0
AllBelow n [] = Unit {0}
AllBelow n (x ∷ xs) = (x < n) × AllBelow n xs

abbrev pub PiecesBelow : ℕ → List Held → Type 0
PiecesBelow n [] = Unit {0}
PiecesBelow n (h ∷ hs) = AllBelow n h.points × PiecesBelow n hs

-- ---- one number

back_at : (kind : FieldKind) (m : Mode) (root f x : ℕ) (z : ℤ) (c : Contents) (r g p : ℕ) →
    x < length (column_of c root f) →
    kept_at (give_back kind m root f x z c) r g p
    ≡ cond (is_same root f x r g p) (given_value kind m (kept_at c root f x) z) (kept_at c r g p)
back_at kind mode.Read root f x z c r g p l = chosen (root == r) (f == g) (x == p) refl refl refl
  where
    chosen : (a b d : Bool) → (root == r) ≡ a → (f == g) ≡ b → (x == p) ≡ d →
        kept_at c r g p ≡ cond (a && b && d) (kept_at c root f x) (kept_at c r g p)
    chosen true true true a b d = ap (λ k. kept_at c k g p) (sym (eqb-true root r a))
        ∙ ap (λ k. kept_at c root k p) (sym (eqb-true f g b)) ∙ ap (kept_at c root f) (sym (eqb-true x p d))
    chosen true true false a b d = refl
    chosen true false d a b _ = refl
    chosen false b d a _ _ = refl
back_at kind mode.Write root f x z c r g p l = kept_set c root f x z r g p l
back_at kind (mode.Reduce o) root f x z c r g p l = kept_set c root f x _ r g p l

back_length : (kind : FieldKind) (m : Mode) (root f x : ℕ) (z : ℤ) (c : Contents) (r g : ℕ) →
    x < length (column_of c root f) →
    length (column_of (give_back kind m root f x z c) r g) ≡ length (column_of c r g)
back_length kind mode.Read root f x z c r g l = refl
back_length kind mode.Write root f x z c r g l = length_kept c root f x z r g l
back_length kind (mode.Reduce o) root f x z c r g l = length_kept c root f x _ r g l

-- ---- a piece's numbers

-- what is given changes no length, and nothing of another field
abbrev pub SameLengths : Contents → Contents → Type 0
SameLengths c d = (r g : ℕ) → length (column_of d r g) ≡ length (column_of c r g)

abbrev pub SameElsewhere : ℕ → ℕ → Contents → Contents → Type 0
SameElsewhere root f c d =
    (r g p : ℕ) → ((root == r) && (f == g)) ≡ false → kept_at d r g p ≡ kept_at c r g p

not_place : (root f x r g p : ℕ) → ((root == r) && (f == g)) ≡ false → is_same root f x r g p ≡ false
not_place root f x r g p e = chosen (root == r) (f == g) e
  where
    chosen : (a b : Bool) → (a && b) ≡ false → (a && b && (x == p)) ≡ false
    chosen true true e = absurd (false≢true (sym e))
    chosen true false e = refl
    chosen false b e = refl

here_place : (root f x p : ℕ) → is_same root f x root f p ≡ (x == p)
here_place root f x p = chosen (root == root) (f == f) refl refl
  where
    chosen : (a b : Bool) → (root == root) ≡ a → (f == f) ≡ b → (a && b && (x == p)) ≡ (x == p)
    chosen true true a b = refl
    chosen true false a b = absurd (eqb-false f f b refl)
    chosen false b a _ = absurd (eqb-false root root a refl)

module _ (kind : FieldKind) (m : Mode) (root f : ℕ) where
  points_length : (xs : List ℕ) (zs : List ℤ) (n : ℕ) (c : Contents) → n ≡ length (column_of c root f) →
      AllBelow n xs → SameLengths c (give_points kind m root f xs zs c)
  points_length [] zs n c e l r g = refl
  points_length (x ∷ xs) [] n c e l r g = refl
  points_length (x ∷ xs) (z ∷ zs) n c e l r g =
      let low : x < length (column_of c root f) = omega (arith, l.0, e) in
      let d = give_back kind m root f x z c in
      points_length xs zs n d (e ∙ sym (back_length kind m root f x z c root f low)) l.1 r g
      ∙ back_length kind m root f x z c r g low

  points_elsewhere : (xs : List ℕ) (zs : List ℤ) (n : ℕ) (c : Contents) → n ≡ length (column_of c root f) →
      AllBelow n xs → SameElsewhere root f c (give_points kind m root f xs zs c)
  points_elsewhere [] zs n c e l r g p ne = refl
  points_elsewhere (x ∷ xs) [] n c e l r g p ne = refl
  points_elsewhere (x ∷ xs) (z ∷ zs) n c e l r g p ne =
      let low : x < length (column_of c root f) = omega (arith, l.0, e) in
      let d = give_back kind m root f x z c in
      points_elsewhere xs zs n d (e ∙ sym (back_length kind m root f x z c root f low)) l.1 r g p ne
      ∙ back_at kind m root f x z c r g p low
      ∙ ap (λ b. cond b (given_value kind m (kept_at c root f x) z) (kept_at c r g p)) (not_place root f x r g p ne)

  absent_beside : (xs : List ℕ) (zs : List ℤ) (p : ℕ) → has xs p ≡ false → value_beside xs zs p ≡ None
  absent_beside [] zs p e = refl
  absent_beside (x ∷ xs) [] p e = refl
  absent_beside (x ∷ xs) (z ∷ zs) p e = chosen (x == p) refl (absent_beside xs zs p)
    where
      chosen : (b : Bool) → (x == p) ≡ b → (has xs p ≡ false → value_beside xs zs p ≡ None) →
          cond b (Some z) (value_beside xs zs p) ≡ None
      chosen true d more = absurd (false≢true (sym e
          ∙ subst (λ k. has (x ∷ xs) k ≡ true) (eqb-true x p d) (has_head x xs)))
      chosen false d more = more
          (sym (has_other p x xs (λ q. eqb-false x p d (sym q))) ∙ e)

  points_here : (xs : List ℕ) (zs : List ℤ) (n : ℕ) (c : Contents) (p : ℕ) → n ≡ length (column_of c root f) →
      AllBelow n xs → NoRepeat xs →
      kept_at (give_points kind m root f xs zs c) root f p
      ≡ given_number kind m (kept_at c root f p) (value_beside xs zs p)
  points_here [] zs n c p e l once = refl
  points_here (x ∷ xs) [] n c p e l once = refl
  points_here (x ∷ xs) (z ∷ zs) n c p e l once =
      let low : x < length (column_of c root f) = omega (arith, l.0, e) in
      let d = give_back kind m root f x z c in
      points_here xs zs n d p (e ∙ sym (back_length kind m root f x z c root f low)) l.1 once.1
      ∙ ap (λ old. given_number kind m old (value_beside xs zs p))
      (back_at kind m root f x z c root f p low
      ∙ ap (λ b. cond b (given_value kind m (kept_at c root f x) z) (kept_at c root f p)) (here_place root f x p))
      ∙ chosen (x == p) refl
    where
      chosen : (b : Bool) → (x == p) ≡ b →
          given_number kind m (cond b (given_value kind m (kept_at c root f x) z) (kept_at c root f p))
          (value_beside xs zs p)
          ≡ given_number kind m (kept_at c root f p) (cond b (Some z) (value_beside xs zs p))
      chosen true q =
          ap (given_number kind m (given_value kind m (kept_at c root f x) z))
          (absent_beside xs zs p (subst (λ k. has xs k ≡ false) (eqb-true x p q) once.0))
          ∙ ap (λ k. given_value kind m (kept_at c root f k) z) (eqb-true x p q)
      chosen false q = refl

-- a number beside a point is that of one of the list
pub has_beside : (xs : List ℕ) (zs : List ℤ) (p : ℕ) (z : ℤ) → value_beside xs zs p ≡ Some z → has xs p ≡ true
has_beside [] zs p z e = absurd (none-some z e)
has_beside (x ∷ xs) [] p z e = absurd (none-some z e)
has_beside (x ∷ xs) (v ∷ zs) p z e = chosen (x == p) refl e (has_beside xs zs p z)
  where
    chosen : (b : Bool) → (x == p) ≡ b → cond b (Some v) (value_beside xs zs p) ≡ Some z →
        (value_beside xs zs p ≡ Some z → has xs p ≡ true) → has (x ∷ xs) p ≡ true
    chosen true q e more = subst (λ k. has (x ∷ xs) k ≡ true) (eqb-true x p q) (has_head x xs)
    chosen false q e more = has_tail p x xs (more e)

-- ---- a part's pieces

module _ (kind : FieldKind) (root f : ℕ) where
  pub pieces_length : (hs : List Held) (n : ℕ) (c : Contents) → n ≡ length (column_of c root f) →
      PiecesBelow n hs → SameLengths c (give_pieces kind root f hs c)
  pieces_length [] n c e l r g = refl
  pieces_length (h ∷ hs) n c e l r g =
      let d = give_points kind h.mode root f h.points h.values c in
      let same = points_length kind h.mode root f h.points h.values n c e l.0 in
      pieces_length hs n d (e ∙ sym (same root f)) l.1 r g ∙ same r g

  pub pieces_elsewhere : (hs : List Held) (n : ℕ) (c : Contents) → n ≡ length (column_of c root f) →
      PiecesBelow n hs → SameElsewhere root f c (give_pieces kind root f hs c)
  pieces_elsewhere [] n c e l r g p ne = refl
  pieces_elsewhere (h ∷ hs) n c e l r g p ne =
      let d = give_points kind h.mode root f h.points h.values c in
      let same = points_length kind h.mode root f h.points h.values n c e l.0 in
      pieces_elsewhere hs n d (e ∙ sym (same root f)) l.1 r g p ne
      ∙ points_elsewhere kind h.mode root f h.points h.values n c e l.0 r g p ne

  pub pieces_here : (hs : List Held) (n : ℕ) (c : Contents) (p : ℕ) → n ≡ length (column_of c root f) →
      PiecesBelow n hs → AreApart hs →
      kept_at (give_pieces kind root f hs c) root f p ≡ given_cell kind (kept_at c root f p) (cell_at hs p)
  pieces_here [] n c p e l apart = refl
  pieces_here (h ∷ hs) n c p e l apart =
      let d = give_points kind h.mode root f h.points h.values c in
      let same = points_length kind h.mode root f h.points h.values n c e l.0 in
      pieces_here hs n d p (e ∙ sym (same root f)) l.1 apart.2
      ∙ ap (λ old. given_cell kind old (cell_at hs p))
      (points_here kind h.mode root f h.points h.values n c p e l.0 apart.0)
      ∙ chosen (value_beside h.points h.values p) refl
    where
      chosen : (o : Option ℤ) → value_beside h.points h.values p ≡ o →
          given_cell kind (given_number kind h.mode (kept_at c root f p) o) (cell_at hs p)
          ≡ given_cell kind (kept_at c root f p) (cell_of h.mode o (cell_at hs p))
      chosen (Some z) q = ap (given_cell kind (given_value kind h.mode (kept_at c root f p) z))
          (apart.1 p (has_beside h.points h.values p z q))
      chosen None q = refl

-- ---- all parts

-- each part's pieces share no point, their points are the root's, and no field has two parts
abbrev pub CanGive : Contents → List Part → Type 0
CanGive c [] = Unit {0}
CanGive c (q ∷ qs) = AreApart q.pieces × PiecesBelow (length (column_of c q.root.0 q.field)) q.pieces
    × (part_of qs q.root.0 q.field ≡ None) × CanGive c qs

can_still : (c d : Contents) (qs : List Part) → SameLengths c d → CanGive c qs → CanGive d qs
can_still c d [] same can = tt
can_still c d (q ∷ qs) same can = (
  can.0,
  subst (λ n. PiecesBelow n q.pieces) (sym (same q.root.0 q.field)) can.1,
  can.2,
  can_still c d qs same can.3,
)

pub parts_given : (qs : List Part) (c : Contents) (r g p : ℕ) → CanGive c qs →
    kept_at (give_parts qs c) r g p ≡ given_part (kept_at c r g p) p (part_of qs r g)
parts_given [] c r g p can = refl
parts_given (q ∷ qs) c r g p can =
    let d = give_pieces q.kind q.root.0 q.field q.pieces c in
    let same = pieces_length q.kind q.root.0 q.field q.pieces _ c refl can.1 in
    parts_given qs d r g p (can_still c d qs same can.3)
    ∙ chosen (q.root.0 == r) (q.field == g) refl refl
  where
    here : given_part (kept_at (give_pieces q.kind q.root.0 q.field q.pieces c) q.root.0 q.field p) p
        (part_of qs q.root.0 q.field)
        ≡ given_cell q.kind (kept_at c q.root.0 q.field p) (cell_at q.pieces p)
    here = ap (given_part (kept_at (give_pieces q.kind q.root.0 q.field q.pieces c) q.root.0 q.field p) p) can.2
        ∙ pieces_here q.kind q.root.0 q.field q.pieces _ c p refl can.1 can.0

    chosen : (a b : Bool) → (q.root.0 == r) ≡ a → (q.field == g) ≡ b →
        given_part (kept_at (give_pieces q.kind q.root.0 q.field q.pieces c) r g p) p (part_of qs r g)
        ≡ given_part (kept_at c r g p) p (cond (a && b) (Some q) (part_of qs r g))
    chosen true true a b = subst (λ r. given_part (kept_at (give_pieces q.kind q.root.0 q.field q.pieces c) r g p) p (part_of qs r g)
        ≡ given_cell q.kind (kept_at c r g p) (cell_at q.pieces p)) (eqb-true q.root.0 r a)
        (subst (λ g. given_part (kept_at (give_pieces q.kind q.root.0 q.field q.pieces c) q.root.0 g p) p (part_of qs q.root.0 g)
        ≡ given_cell q.kind (kept_at c q.root.0 g p) (cell_at q.pieces p)) (eqb-true q.field g b) here)
    chosen true false a b = ap (λ old. given_part old p (part_of qs r g))
        (pieces_elsewhere q.kind q.root.0 q.field q.pieces _ c refl can.1 r g p
        (ap (λ d. d && (q.field == g)) a ∙ b))
    chosen false b a _ = ap (λ old. given_part old p (part_of qs r g))
        (pieces_elsewhere q.kind q.root.0 q.field q.pieces _ c refl can.1 r g p
        (ap (λ d. d && (q.field == g)) a))
