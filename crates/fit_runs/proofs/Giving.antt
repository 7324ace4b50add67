-- Parts that go back: what the roots hold stays as a world says. A segment leaves parts that may go back, where it began with such.
use Rattle.std.proofs.Common.{◌≡◌, ℕ, ℤ, ◌<◌, List, [], ◌∷◌, map, Bool, true, false, ◌&&◌, cond, Option, Some, None, refl, sym, ap, ◌∙◌, subst, arith}
use Rattle.std.specs.Prelude.{length, ◌==◌}
use Rattle.std.proofs.lemmas.List.{length-map}
use Rattle.std.proofs.lemmas.Option.{none-some}
use Rattle.lane_kernels.specs.declared.numbers.Mode.{Mode}
use Rattle.lane_kernels.specs.declared.numbers.Mode.TheVariants as mode
use Rattle.lane_kernels.specs.declared.numbers.FieldKind.{FieldKind}
use Rattle.plain_values.specs.Points.{has, points}
use Rattle.region_tree.specs.Pieces.{Held}
use Rattle.region_tree.specs.declared.piece.Part.{Part}
use Rattle.region_tree.specs.Requirements.{mode_at}
use Rattle.task_code.specs.declared.code.TaskCode.{TaskCode}
use Rattle.machine_terms.specs.declared.frame.Before.{Before}
use Rattle.machine_terms.specs.declared.order.Contents.{Contents}
use Rattle.machine_terms.specs.Contents.{kept_at}
use Rattle.machine_terms.specs.Copies.{give_parts}
use Rattle.machine_terms.specs.Parts.{Cell, cell_at, cell_of, is_part_of, part_of, value_beside}
use Rattle.machine_terms.specs.Segments.{segment, stop_of}
use Rattle.machine_terms.proofs.KeptParts.{bare_part, bare_piece}
use Rattle.machine_terms.proofs.Kept.{stop_fixed}
use Rattle.memory_laws.specs.Places.{column_of}
use Rattle.memory_laws.proofs.Giving.{AllBelow, AreApart, CanGive, given_cell, given_part, NoRepeat, parts_given, PiecesBelow, given_value}
use Rattle.memory_laws.proofs.Shapes.{alike_parts, length_same}
use Rattle.regent_tree.specs.Laws.{Shape as RootShape}
use Rattle.fit_rules.specs.Shapes.{Among, NumberIs, Shape, World}
use Rattle.fit_rules.specs.Fits.{CellFits, claims, PartsFit, Program, shape_at, CellNumber}
use Rattle.fit_runs.proofs.Standing.{Agrees, AreReached}

-- ---- parts of the same points

module _ (old new : Held) (e : bare_piece new ≡ bare_piece old) where
  same_points : new.points ≡ old.points
  same_points = ap (λ (h : Held). h.points) e

  same_mode : new.mode ≡ old.mode
  same_mode = ap (λ (h : Held). h.mode) e

  same_count : length new.values ≡ length old.values
  same_count = sym (length-map new.values _) ∙ ap (λ (h : Held). length h.values) e ∙ length-map old.values _

-- a point without a number has none among as many numbers
none_beside : (xs : List ℕ) (zs ys : List ℤ) (p : ℕ) → length ys ≡ length zs → value_beside xs zs p ≡ None → value_beside xs ys p ≡ None
none_beside [] zs ys p l e = refl
none_beside (x ∷ xs) zs [] p l e = refl
none_beside (x ∷ xs) [] (y ∷ ys) p l e = absurd (omega (arith, l))
none_beside (x ∷ xs) (z ∷ zs) (y ∷ ys) p l e = of (x == p) e (none_beside xs zs ys p (omega (arith, l)))
  where
    of : (b : Bool) → cond b (Some z) (value_beside xs zs p) ≡ None → (value_beside xs zs p ≡ None → value_beside xs ys p ≡ None) →
        cond b (Some y) (value_beside xs ys p) ≡ None
    of true e more = absurd (none-some z (sym e))
    of false e more = more e

cell_parts : (m : Mode) (o : Option ℤ) (rest : Option Cell) → cell_of m o rest ≡ None → (o ≡ None) × (rest ≡ None)
cell_parts m None rest e = (refl, e)
cell_parts m (Some z) rest e = absurd (none-some _ (sym e))

none_kept : (hs ks : List Held) → map bare_piece ks ≡ map bare_piece hs → (p : ℕ) → cell_at hs p ≡ None → cell_at ks p ≡ None
none_kept [] [] e p n = refl
none_kept [] (k ∷ ks) e p n = absurd cc
none_kept (h ∷ hs) [] e p n = absurd cc
none_kept (h ∷ hs) (k ∷ ks) e p n =
    let one : bare_piece k ≡ bare_piece h = cc in
    let rest : map bare_piece ks ≡ map bare_piece hs = cc in
    let c = cell_parts h.mode (value_beside h.points h.values p) (cell_at hs p) n in
    ap (λ xs. cell_of k.mode (value_beside xs k.values p) (cell_at ks p)) (same_points h k one)
    ∙ ap (λ o. cell_of k.mode o (cell_at ks p)) (none_beside h.points h.values k.values p (same_count h k one) c.0)
    ∙ none_kept hs ks rest p c.1

apart_kept : (hs ks : List Held) → map bare_piece ks ≡ map bare_piece hs → AreApart hs → AreApart ks
apart_kept [] [] e a = tt
apart_kept [] (k ∷ ks) e a = absurd cc
apart_kept (h ∷ hs) [] e a = absurd cc
apart_kept (h ∷ hs) (k ∷ ks) e a =
    let one : bare_piece k ≡ bare_piece h = cc in
    let rest : map bare_piece ks ≡ map bare_piece hs = cc in
    let points = same_points h k one in (
      subst NoRepeat (sym points) a.0,
      λ p i. none_kept hs ks rest p (a.1 p (subst (λ xs. has xs p ≡ true) points i)),
      apart_kept hs ks rest a.2,
    )

below_kept : (n : ℕ) (hs ks : List Held) → map bare_piece ks ≡ map bare_piece hs → PiecesBelow n hs → PiecesBelow n ks
below_kept n [] [] e a = tt
below_kept n [] (k ∷ ks) e a = absurd cc
below_kept n (h ∷ hs) [] e a = absurd cc
below_kept n (h ∷ hs) (k ∷ ks) e a =
    let one : bare_piece k ≡ bare_piece h = cc in
    let rest : map bare_piece ks ≡ map bare_piece hs = cc in (subst (AllBelow n) (sym (same_points h k one)) a.0, below_kept n hs ks rest a.1)

absent_kept : (ps qs : List Part) → map bare_part qs ≡ map bare_part ps → (r f : ℕ) → part_of ps r f ≡ None → part_of qs r f ≡ None
absent_kept [] [] e r f n = refl
absent_kept [] (q ∷ qs) e r f n = absurd cc
absent_kept (p ∷ ps) [] e r f n = absurd cc
absent_kept (p ∷ ps) (q ∷ qs) e r f n =
    let one : bare_part q ≡ bare_part p = cc in
    let root : q.root ≡ p.root = ap (λ (y : Part). y.root) one in
    let field : q.field ≡ p.field = ap (λ (y : Part). y.field) one in
    let test : is_part_of r f q ≡ is_part_of r f p = ap (λ y. (y.0 == r) && (q.field == f)) root ∙ ap (λ y. (p.root.0 == r) && (y == f)) field in
    let rest : map bare_part qs ≡ map bare_part ps = cc in
    ap (λ b. cond b (Some q) (part_of qs r f)) test ∙ of (is_part_of r f p) n (absent_kept ps qs rest r f)
  where
    of : (b : Bool) → cond b (Some p) (part_of ps r f) ≡ None → (part_of ps r f ≡ None → part_of qs r f ≡ None) →
        cond b (Some q) (part_of qs r f) ≡ None
    of true e more = absurd (none-some p (sym e))
    of false e more = more e

pub give_kept : (c : Contents) (ps qs : List Part) → map bare_part qs ≡ map bare_part ps → CanGive c ps → CanGive c qs
give_kept c [] [] e a = tt
give_kept c [] (q ∷ qs) e a = absurd cc
give_kept c (p ∷ ps) [] e a = absurd cc
give_kept c (p ∷ ps) (q ∷ qs) e a =
    let one : bare_part q ≡ bare_part p = cc in
    let root : q.root ≡ p.root = ap (λ (y : Part). y.root) one in
    let field : q.field ≡ p.field = ap (λ (y : Part). y.field) one in
    let rest : map bare_part qs ≡ map bare_part ps = cc in
    let pieces : map bare_piece q.pieces ≡ map bare_piece p.pieces = ap (λ (y : Part). y.pieces) one in
    let column : column_of c p.root.0 p.field ≡ column_of c q.root.0 q.field =
    ap (λ y. column_of c y.0 p.field) (sym root) ∙ ap (column_of c q.root.0) (sym field) in (
      apart_kept p.pieces q.pieces pieces a.0,
      subst (λ zs. PiecesBelow (length zs) q.pieces) column (below_kept (length (column_of c p.root.0 p.field)) p.pieces q.pieces pieces a.1),
      ap (λ y. part_of qs y.0 q.field) root ∙ ap (part_of qs p.root.0) field ∙ absent_kept ps qs rest p.root.0 p.field a.2,
      give_kept c ps qs rest a.3,
    )

-- a segment leaves parts that may go back
pub left_given : (c : Contents) (b : Before) → CanGive c b.parts → CanGive c (segment b).parts
left_given c b a = give_kept c b.parts (stop_of b).machine.parts (stop_fixed b).parts a

-- ---- what goes back

module _ (g : Program) (x : World) (t : TaskCode) (c : Contents) (ps : List Part) (fits : PartsFit g x t ps) (can : CanGive c ps) (agrees : Agrees g x c) where
  -- by the cell that a part has at a point
  by_cell : (kd : FieldKind) (s : Shape) (old : ℤ) (o : Option Cell) (m : Option Mode) → NumberIs s old → CellFits kd s o m → NumberIs s (given_cell kd old o)
  by_cell kd s old None m h f = h
  by_cell kd s old (Some b) None h f = absurd f
  by_cell kd s old (Some b) (Some m) h f =
      of b.mode (subst (λ y. CellNumber kd s y b.value) (sym f.0) f.1)
    where
      of : (md : Mode) → CellNumber kd s md b.value → NumberIs s (given_value kd md old b.value)
      of mode.Read n = h
      of mode.Write n = n
      of (mode.Reduce o) n = n.1 old h

  by_part : (r f p : ℕ) (o : Option Part) → part_of ps r f ≡ o → NumberIs (shape_at g (x.spaces r) f) (kept_at c r f p) →
      NumberIs (shape_at g (x.spaces r) f) (given_part (kept_at c r f p) p o)
  by_part r f p None e h = h
  by_part r f p (Some q) e h =
      let fit = fits r f q e in
      by_cell q.kind (shape_at g (x.spaces r) f) (kept_at c r f p) (cell_at q.pieces p) (mode_at (claims g x t) r f p) h
      (subst (λ k. CellFits k (shape_at g (x.spaces r) f) (cell_at q.pieces p) (mode_at (claims g x t) r f p)) (sym fit.kind) (fit.cells p))

  pub agrees_given : Agrees g x (give_parts ps c)
  agrees_given =
      let d = give_parts ps c in
      let alike = alike_parts ps c in record {
        given = λ r h. subst (λ n. r < n) (sym alike.1) (agrees.given r h);
        below = λ r h. subst (λ n. r < n) (sym alike.1) (agrees.below r (subst (λ ns. Among ns r) alike.0 h));
        present = λ r h. subst (λ ns. Among ns r) (sym alike.0) (agrees.present r h);
        spaces = λ r h. ap (λ (s : RootShape). s.space) (alike.2 r) ∙ agrees.spaces r h;
        points = λ r h. agrees.points r h ∙ ap (λ (s : RootShape). points s.count) (sym (alike.2 r));
        kept = λ r f p h. subst (NumberIs (shape_at g (x.spaces r) f)) (sym (parts_given ps c r f p can))
            (by_part r f p (part_of ps r f) refl (agrees.kept r f p h));
      }

-- the roots have as many points
pub reached_given : (c : Contents) (ps : List Part) (rs : List _) → AreReached c rs → AreReached (give_parts ps c) rs
reached_given c ps rs h r a p i =
    subst (λ n. p < n) (sym (length_same c (give_parts ps c) (alike_parts ps c).2 r.root r.field)) (h r a p i)
