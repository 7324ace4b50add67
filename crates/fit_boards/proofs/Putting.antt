-- Parts that go back: what the roots hold fits again.
use Rattle.std.proofs.Common.{◌≡◌, ⊎_elim, ℕ, suc, ℤ, ◌<◌, List, [], ◌∷◌, Bool, true, false, ◌&&◌, cond, Option, Some, None, refl, sym, ap, ◌∙◌, subst, arith, length, map, eq-eqb, eqb-true}
use Rattle.std.specs.Prelude.{filter, get_or, ◌==◌}
use Rattle.std.proofs.lemmas.Bool.{and_parts, cases_Bool, false≢true}
use Rattle.std.proofs.lemmas.Option.{none-some}
use Rattle.lane_kernels.specs.declared.numbers.FieldKind.{FieldKind}
use Rattle.lane_kernels.specs.declared.numbers.Mode.{Mode}
use Rattle.lane_kernels.specs.declared.numbers.Mode.TheVariants as mode
use Rattle.lane_kernels.specs.Numbers.{width_of}
use Rattle.plain_values.specs.Points.{has, meets}
use Rattle.point_sets.proofs.Rising.{meets_at}
use Rattle.region_tree.specs.Pieces.{Held}
use Rattle.region_tree.specs.Requirements.{PartsAreApart, mode_at, no_part}
use Rattle.region_tree.specs.declared.piece.Part.{Part}
use Rattle.logical_map.specs.Gives.{add_reduction, all_given_at, give_pieces, given, given_at, given_beside, is_reduction, is_write, with_pieces}
use Rattle.logical_map.specs.Maps.{LogicalMap, number_beside}
use Rattle.logical_map.proofs.Beside.{beside_more, beside_no_number}
use Rattle.logical_map.proofs.Reading.{lacked}
use Rattle.task_code.specs.declared.code.TaskCode.{TaskCode}
use Rattle.machine_terms.specs.Parts.{Cell, cell_at, cell_of, is_part_of, part_of, value_beside}
use Rattle.board_terms.specs.declared.extent.Extent.{Extent}
use Rattle.board_terms.specs.Gives.{with_part, with_parts}
use Rattle.fit_rules.specs.Shapes.{Each, NumberIs, Shape, World}
use Rattle.fit_rules.specs.Fits.{CellFits, CellNumber, claims, kind_at, PartFits, PartsFit, Program, shape_at}
use Rattle.fit_boards.specs.Fitting.{AreOnce, held_as, MapFits, space_at}
use Rattle.fit_boards.proofs.Columns.{column_fits}

-- ---- the number beside a point, by both its definitions

pub same_beside : (xs : List ℕ) (zs : List ℤ) (p : ℕ) → number_beside xs zs p ≡ value_beside xs zs p
same_beside [] zs p = refl
same_beside (x ∷ xs) [] p = beside_no_number (x ∷ xs) p
same_beside (x ∷ xs) (z ∷ zs) p = beside_more x p xs z zs ∙ ap (cond (x == p) (Some z)) (same_beside xs zs p)

pub value_none : (xs : List ℕ) (zs : List ℤ) (p : ℕ) → has xs p ≡ false → value_beside xs zs p ≡ None
value_none xs zs p e = sym (same_beside xs zs p) ∙ lacked xs zs p e

value_has : (xs : List ℕ) (zs : List ℤ) (p : ℕ) (z : ℤ) → value_beside xs zs p ≡ Some z → has xs p ≡ true
value_has xs zs p z e = ⊎_elim (λ h. h) (λ n. absurd (none-some z (sym (value_none xs zs p n) ∙ e))) (cases_Bool (has xs p))

-- ---- pieces

module _ (k : FieldKind) (s : Shape) where
  -- each number of a piece that stands beside a point fits
  abbrev pub PointsFit : Held → Type 0
  PointsFit h = (p : ℕ) (z : ℤ) → number_beside h.points h.values p ≡ Some z → CellNumber k s h.mode z

  abbrev CellIs : Option Cell → Type 0
  CellIs None = Unit {0}
  CellIs (Some c) = CellNumber k s c.mode c.value

  cell_is : (o : Option Cell) (m : Option Mode) → CellFits k s o m → CellIs o
  cell_is None m h = tt
  cell_is (Some c) None h = absurd h
  cell_is (Some c) (Some m) h = subst (λ n. CellNumber k s n c.value) (sym h.0) h.1

  -- where a point is one of a piece, those that share no point with it have no cell there
  no_cell : (xs : List ℕ) (hs : List Held) → ((j : ℕ) → j < length (map held_as hs) → meets xs (get_or (map held_as hs) j no_part).0 ≡ false) →
      (p : ℕ) → has xs p ≡ true → cell_at hs p ≡ None
  no_cell xs [] apart p e = refl
  no_cell xs (h ∷ hs) apart p e =
      let out : has h.points p ≡ false = ⊎_elim
      (λ i. absurd (false≢true (sym (apart 0 (omega arith)) ∙ meets_at xs h.points p (ap (λ b. b && has h.points p) e ∙ i))))
      (λ n. n) (cases_Bool (has h.points p)) in
      ap (λ o. cell_of h.mode o (cell_at hs p)) (value_none h.points h.values p out)
      ∙ no_cell xs hs (λ j l. apart (suc j) (omega (arith, l))) p e

  pub pieces_fit : (hs : List Held) → PartsAreApart (map held_as hs) → ((p : ℕ) → CellIs (cell_at hs p)) → Each PointsFit hs
  pieces_fit [] apart h = tt
  pieces_fit (x ∷ hs) apart h = (
    λ p z e. subst (λ o. CellIs (cell_of x.mode o (cell_at hs p))) (sym (same_beside x.points x.values p) ∙ e) (h p),
    pieces_fit hs (λ i j l m. apart (suc i) (suc j) (omega (arith, l)) (omega (arith, m)))
        (λ p. later p (value_beside x.points x.values p) refl (h p)),
  )
    where
      later : (p : ℕ) (o : Option ℤ) → value_beside x.points x.values p ≡ o → CellIs (cell_of x.mode o (cell_at hs p)) → CellIs (cell_at hs p)
      later p None e c = c
      later p (Some z) e c = subst CellIs (sym (no_cell x.points hs (λ j l. (apart 0 (suc j) (omega arith) (omega (arith, l))).0) p (value_has x.points x.values p z e))) tt

  -- ---- what they make of numbers

  one_given : (m : Mode) (o : Option ℤ) (z : ℤ) → ((y : ℤ) → o ≡ Some y → CellNumber k s m y) → NumberIs s z → NumberIs s (given (width_of k) m z o)
  one_given mode.Read None z h n = n
  one_given mode.Write None z h n = n
  one_given (mode.Reduce op) None z h n = n
  one_given mode.Read (Some y) z h n = n
  one_given mode.Write (Some y) z h n = h y refl
  one_given (mode.Reduce op) (Some y) z h n = (h y refl).1 z n

  all_given : (hs : List Held) → Each PointsFit hs → (p : ℕ) (z : ℤ) → NumberIs s z → NumberIs s (all_given_at (width_of k) hs p z)
  all_given [] h p z n = n
  all_given (x ∷ hs) h p z n = all_given hs h.1 p (given_at (width_of k) x p z) (one_given x.mode (number_beside x.points x.values p) z (h.0 p) n)

  beside_given : (hs : List Held) → Each PointsFit hs → (ps : List ℕ) (zs : List ℤ) → Each (NumberIs s) zs → Each (NumberIs s) (given_beside (width_of k) hs ps zs)
  beside_given hs h [] zs a = a
  beside_given hs h (p ∷ ps) [] a = a
  beside_given hs h (p ∷ ps) (z ∷ zs) a = (all_given hs h p z a.0, beside_given hs h ps zs a.1)

pub each_filter : {A : Type 0} (P : A → Type 0) (t : A → Bool) (xs : List A) → Each P xs → Each P (filter t xs)
each_filter P t [] h = tt
each_filter P t (x ∷ xs) h = of (t x) (each_filter P t xs h.1)
  where
    of : (b : Bool) → Each P (filter t xs) → Each P (cond b (x ∷ filter t xs) (filter t xs))
    of true more = (h.0, more)
    of false more = more

-- ---- parts

module _ (g : Program) (extents : List Extent) where
  abbrev pub PartHolds : Part → Type 0
  PartHolds q = Each (PointsFit (kind_at g (space_at extents q.root.0) q.field) (shape_at g (space_at extents q.root.0) q.field)) q.pieces

  pieces_back : (root field : ℕ) (hs : List Held) → Each (PointsFit (kind_at g (space_at extents root) field) (shape_at g (space_at extents root) field)) hs →
      (m : LogicalMap) → MapFits g extents m → MapFits g extents (give_pieces root field hs m)
  pieces_back root field hs h m fits = column_fits g extents root field (with_pieces hs) (λ c a. record {
    kind = a.kind;
    numbers = subst (λ k. Each (NumberIs (shape_at g (space_at extents root) field)) (given_beside (width_of k) hs c.points c.numbers)) (sym a.kind)
        (beside_given (kind_at g (space_at extents root) field) (shape_at g (space_at extents root) field) hs h c.points c.numbers a.numbers);
  }) m fits

  part_back : (q : Part) → PartHolds q → (m : LogicalMap) → MapFits g extents m → MapFits g extents (with_part q m)
  part_back q h m fits =
      let P = PointsFit (kind_at g (space_at extents q.root.0) q.field) (shape_at g (space_at extents q.root.0) q.field) in
      pieces_back q.root.0 q.field (filter is_write q.pieces) (each_filter P is_write q.pieces h) (add_reduction q m)
      (pieces_back q.root.0 q.field (filter is_reduction q.pieces) (each_filter P is_reduction q.pieces h) m fits)

  pub parts_back : (qs : List Part) → Each PartHolds qs → (m : LogicalMap) → MapFits g extents m → MapFits g extents (with_parts qs m)
  parts_back [] h m fits = fits
  parts_back (q ∷ qs) h m fits = parts_back qs h.1 (with_part q m) (part_back q h.0 m fits)

  -- ---- parts that fit

  module _ (x : World) (t : TaskCode) (roots : (r : ℕ) → x.there r ≡ true → x.spaces r ≡ space_at extents r) where
    -- the part of a field is the only one
    itself : (q : Part) → is_part_of q.root.0 q.field q ≡ true
    itself q = ap (λ b. b && (q.field == q.field)) (eq-eqb q.root.0 q.root.0 refl) ∙ eq-eqb q.field q.field refl

    later : (q : Part) (qs : List Part) → part_of qs q.root.0 q.field ≡ None → PartsFit g x t (q ∷ qs) → PartsFit g x t qs
    later q qs none h r f y e = h r f y (of (is_part_of r f q) refl)
      where
        of : (b : Bool) → is_part_of r f q ≡ b → part_of (q ∷ qs) r f ≡ Some y
        of true i =
            let a = and_parts (q.root.0 == r) (q.field == f) i in
            absurd (none-some y (sym none ∙ (λ j. part_of qs (eqb-true q.root.0 r a.0 j) (eqb-true q.field f a.1 j)) ∙ e))
        of false i = ap (λ b. cond b (Some q) (part_of qs r f)) i ∙ e

    part_holds : (q : Part) → PartsAreApart (map held_as q.pieces) → PartFits g x t q.root.0 q.field q → PartHolds q
    part_holds q apart h =
        let k = kind_at g (x.spaces q.root.0) q.field in
        let s = shape_at g (x.spaces q.root.0) q.field in
        subst (λ sp. Each (PointsFit (kind_at g sp q.field) (shape_at g sp q.field)) q.pieces) (roots q.root.0 h.there)
        (pieces_fit k s q.pieces apart (λ p. cell_is k s (cell_at q.pieces p) (mode_at (claims g x t) q.root.0 q.field p) (h.cells p)))

    pub parts_hold : (qs : List Part) → AreOnce qs → PartsFit g x t qs → Each PartHolds qs
    parts_hold [] once h = tt
    parts_hold (q ∷ qs) once h = (
      part_holds q once.0 (h q.root.0 q.field q (ap (λ b. cond b (Some q) (part_of qs q.root.0 q.field)) (itself q))),
      parts_hold qs once.2 (later q qs once.1 h),
    )
