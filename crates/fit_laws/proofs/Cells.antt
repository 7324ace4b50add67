-- A number that is set in a part: the point has it, in the mode that it had, and the other points are
-- as they were.
use Rattle.std.proofs.Common.{◌≡◌, ◌⊎◌, inl, inr, ℕ, ℤ, List, [], ◌∷◌, Bool, true, false, ◌&&◌, cond, Option, Some, None, refl, sym, ap, ◌∙◌}
use Rattle.std.proofs.lemmas.Option.{none-some, same_Some}
use Rattle.std.specs.Prelude.{◌==◌}
use Rattle.std.proofs.lemmas.Bool.{eqb-true}
use Rattle.region_tree.specs.declared.piece.Part.{Part}
use Rattle.region_tree.specs.Pieces.{Held}
use Rattle.machine_terms.specs.Parts.{Cell, value_beside, set_beside, cell_of, cell_at, set_in, set_cell, is_part_of, part_of, set_part}

-- ---- one list

other_at : (b : Bool) (x : ℕ) (xs : List ℕ) (w : ℤ) (zs : List ℤ) (p q : ℕ) (z : ℤ) → x == p ≡ b →
    p == q ≡ false → value_beside xs (set_beside xs zs p z) q ≡ value_beside xs zs q →
    value_beside (x ∷ xs) (cond b (z ∷ zs) (w ∷ set_beside xs zs p z)) q
    ≡ cond (x == q) (Some w) (value_beside xs zs q)
other_at true x xs w zs p q z e n h =
    let no : x == q ≡ false = ap (λ y. y == q) (eqb-true x p e) ∙ n in
    ap (λ c. cond c (Some z) (value_beside xs zs q)) no
    ∙ sym (ap (λ c. cond c (Some w) (value_beside xs zs q)) no)
other_at false x xs w zs p q z e n h = ap (cond (x == q) (Some w)) h

set_other : (xs : List ℕ) (zs : List ℤ) (p q : ℕ) (z : ℤ) → p == q ≡ false →
    value_beside xs (set_beside xs zs p z) q ≡ value_beside xs zs q
set_other [] zs p q z n = refl
set_other (x ∷ xs) [] p q z n = refl
set_other (x ∷ xs) (w ∷ zs) p q z n =
    other_at (x == p) x xs w zs p q z refl n (set_other xs zs p q z n)

same_at : (b : Bool) (x : ℕ) (xs : List ℕ) (w : ℤ) (zs : List ℤ) (p : ℕ) (y z : ℤ) → x == p ≡ b →
    (value_beside xs zs p ≡ Some y → value_beside xs (set_beside xs zs p z) p ≡ Some z) →
    cond b (Some w) (value_beside xs zs p) ≡ Some y →
    value_beside (x ∷ xs) (cond b (z ∷ zs) (w ∷ set_beside xs zs p z)) p ≡ Some z
same_at true x xs w zs p y z e h g = ap (λ c. cond c (Some z) (value_beside xs zs p)) e
same_at false x xs w zs p y z e h g =
    ap (λ c. cond c (Some w) (value_beside xs (set_beside xs zs p z) p)) e ∙ h g

set_same : (xs : List ℕ) (zs : List ℤ) (p : ℕ) (y z : ℤ) → value_beside xs zs p ≡ Some y →
    value_beside xs (set_beside xs zs p z) p ≡ Some z
set_same [] zs p y z e = absurd (none-some y e)
set_same (x ∷ xs) [] p y z e = absurd (none-some y e)
set_same (x ∷ xs) (w ∷ zs) p y z e =
    same_at (x == p) x xs w zs p y z refl (set_same xs zs p y z) e

-- ---- pieces

other_in : (o : Option ℤ) (h : Held) (hs rest : List Held) (p q : ℕ) (z : ℤ) → p == q ≡ false →
    cell_at rest q ≡ cell_at hs q → cell_at (set_in o h p z hs rest) q ≡ cell_at (h ∷ hs) q
other_in (Some y) h hs rest p q z n e =
    ap (λ o. cell_of h.mode o (cell_at hs q)) (set_other h.points h.values p q z n)
other_in None h hs rest p q z n e = ap (cell_of h.mode (value_beside h.points h.values q)) e

pub cell_other : (hs : List Held) (p q : ℕ) (z : ℤ) → p == q ≡ false →
    cell_at (set_cell hs p z) q ≡ cell_at hs q
cell_other [] p q z n = refl
cell_other (h ∷ hs) p q z n =
    other_in (value_beside h.points h.values p) h hs (set_cell hs p z) p q z n (cell_other hs p q z n)

abbrev pub valued : ℤ → Cell → Cell
valued z c = record c { value = z }

abbrev OrCell : Cell → Option Cell → Cell
OrCell d None = d
OrCell d (Some c) = c

same_in : (o : Option ℤ) (h : Held) (hs rest : List Held) (p : ℕ) (z : ℤ) (c : Cell) →
    value_beside h.points h.values p ≡ o →
    (cell_at hs p ≡ Some c → cell_at rest p ≡ Some (valued z c)) →
    cell_of h.mode o (cell_at hs p) ≡ Some c →
    cell_at (set_in o h p z hs rest) p ≡ Some (valued z c)
same_in (Some y) h hs rest p z c e more g =
    ap (λ o. cell_of h.mode o (cell_at hs p)) (set_same h.points h.values p y z e)
    ∙ ap (λ o. Some (valued z (OrCell c o))) g
same_in None h hs rest p z c e more g =
    ap (λ o. cell_of h.mode o (cell_at rest p)) e ∙ more g

pub cell_same : (hs : List Held) (p : ℕ) (z : ℤ) (c : Cell) → cell_at hs p ≡ Some c →
    cell_at (set_cell hs p z) p ≡ Some (valued z c)
cell_same [] p z c e = absurd (none-some c e)
cell_same (h ∷ hs) p z c e = same_in (value_beside h.points h.values p) h hs (set_cell hs p z) p z c refl
    (cell_same hs p z c) e

-- ---- parts

abbrev pub set_piece : ℕ → ℤ → Part → Part
set_piece p z q = record q { pieces = set_cell q.pieces p z }

-- where a part comes from once a number was set
pub record Origin (parts : List Part) (root f p : ℕ) (z : ℤ) (r i : ℕ) (q : Part) : Type 0 where
  pub old : Part
  pub was : part_of parts r i ≡ Some old
  pub now : (q ≡ old) ⊎ ((q ≡ set_piece p z old) × (r ≡ root) × (i ≡ f))

left_true : (a b : Bool) → a && b ≡ true → a ≡ true
left_true true b e = refl
left_true false b e = e

right_true : (a b : Bool) → a && b ≡ true → b ≡ true
right_true true b e = e
right_true false true e = refl
right_true false false e = e

pub same_root : (q : Part) (r i : ℕ) → is_part_of r i q ≡ true → q.root.0 ≡ r
same_root q r i e = eqb-true q.root.0 r (left_true (q.root.0 == r) (q.field == i) e)

pub same_field : (q : Part) (r i : ℕ) → is_part_of r i q ≡ true → q.field ≡ i
same_field q r i e = eqb-true q.field i (right_true (q.root.0 == r) (q.field == i) e)

-- the first part is the one that was set
set_first : (b : Bool) (q1 : Part) (qs : List Part) (root f p : ℕ) (z : ℤ) (r i : ℕ) (q : Part) →
    is_part_of root f q1 ≡ true → is_part_of r i q1 ≡ b →
    cond b (Some (set_piece p z q1)) (part_of qs r i) ≡ Some q → Origin (q1 ∷ qs) root f p z r i q
set_first true q1 qs root f p z r i q e g h = record {
  old = q1;
  was = ap (λ b. cond b (Some q1) (part_of qs r i)) g;
  now = inr (
    sym (same_Some _ _ h),
    sym (same_root q1 r i g) ∙ same_root q1 root f e,
    sym (same_field q1 r i g) ∙ same_field q1 root f e,
  );
}
set_first false q1 qs root f p z r i q e g h = record {
  old = q;
  was = ap (λ b. cond b (Some q1) (part_of qs r i)) g ∙ h;
  now = inl refl;
}

-- a later one
set_later : (b : Bool) (q1 : Part) (qs : List Part) (root f p : ℕ) (z : ℤ) (r i : ℕ) (q : Part) →
    is_part_of r i q1 ≡ b →
    (part_of (set_part qs root f p z) r i ≡ Some q → Origin qs root f p z r i q) →
    cond b (Some q1) (part_of (set_part qs root f p z) r i) ≡ Some q →
    Origin (q1 ∷ qs) root f p z r i q
set_later true q1 qs root f p z r i q g more h = record {
  old = q1;
  was = ap (λ b. cond b (Some q1) (part_of qs r i)) g;
  now = inl (sym (same_Some _ _ h));
}
set_later false q1 qs root f p z r i q g more h =
    let o = more h in
    record {
      old = o.old;
      was = ap (λ b. cond b (Some q1) (part_of qs r i)) g ∙ o.was;
      now = o.now;
    }

set_either : (b : Bool) (q1 : Part) (qs : List Part) (root f p : ℕ) (z : ℤ) (r i : ℕ) (q : Part) →
    is_part_of root f q1 ≡ b →
    (part_of (set_part qs root f p z) r i ≡ Some q → Origin qs root f p z r i q) →
    part_of (cond b (set_piece p z q1 ∷ qs) (q1 ∷ set_part qs root f p z)) r i ≡ Some q →
    Origin (q1 ∷ qs) root f p z r i q
set_either true q1 qs root f p z r i q e more h =
    set_first (is_part_of r i q1) q1 qs root f p z r i q e refl h
set_either false q1 qs root f p z r i q e more h =
    set_later (is_part_of r i q1) q1 qs root f p z r i q refl more h

pub origin : (parts : List Part) (root f p : ℕ) (z : ℤ) (r i : ℕ) (q : Part) →
    part_of (set_part parts root f p z) r i ≡ Some q → Origin parts root f p z r i q
origin [] root f p z r i q h = absurd (none-some q h)
origin (q1 ∷ qs) root f p z r i q h = set_either (is_part_of root f q1) q1 qs root f p z r i q refl
    (origin qs root f p z r i q) h
