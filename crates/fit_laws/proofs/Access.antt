-- Reads, writes and reductions through pointers: a touch that is covered is made, or its part is wanted.
use Rattle.std.proofs.Common.{◌≡◌, ◌⊎◌, inl, inr, ⊎_elim, ℕ, zero, suc, ◌<◌, ◌≤◌, ℤ, List, [], ◌∷◌, ◌++◌, Bool, true, false, cond, Option, Some, None, refl, sym, ap, ◌∙◌, subst, arith}
use Rattle.std.proofs.lemmas.Option.{same_Some}
use Rattle.std.specs.Prelude.{slice_get, length, ◌==◌}
use Rattle.std.proofs.lemmas.Bool.{eqb-true}
use Rattle.lane_kernels.specs.declared.numbers.FieldKind.{FieldKind}
use Rattle.lane_kernels.specs.declared.numbers.Mode.{Mode}
use Rattle.lane_kernels.specs.declared.numbers.Mode.TheVariants as mode
use Rattle.lane_kernels.specs.declared.numbers.Op.{Op}
use Rattle.lane_kernels.specs.declared.numbers.Width.{Width}
use Rattle.lane_kernels.specs.declared.numbers.Width.TheVariants.{W32, W64}
use Rattle.lane_kernels.specs.Numbers.{wrapped, applied, width_of}
use Rattle.lane_kernels.proofs.Operators.{closed}
use Rattle.plain_values.specs.Points.{has}
use Rattle.lane_kernels.proofs.SameOps.{same_op-itself}
use Rattle.region_tree.specs.declared.piece.Part.{Part}
use Rattle.region_tree.specs.Requirements.{mode_at}
use Rattle.regent_tree.specs.declared.outcome.FaultKind.{FaultKind}
use Rattle.regent_tree.specs.Values.{Target, null_target, point_target, target_kept}
use Rattle.task_code.specs.declared.code.TaskCode.{TaskCode}
use Rattle.machine_terms.specs.declared.outcome.Yield.TheVariants as yield
use Rattle.machine_terms.specs.declared.value.RegionValue.{RegionValue}
use Rattle.machine_terms.specs.declared.value.Value.{Value}
use Rattle.machine_terms.specs.Machine.{Machine, when, broken}
use Rattle.machine_terms.specs.Parts.{is_part_of, Cell, Found, refused, missing, found, found_cell, found_in, find, cell_at, part_of, set_part, is_needed}
use Rattle.machine_terms.specs.Pointers.{Aimed, aims, fails, aim, aim_in, aim_if, slot_at, region_slot, region_in, read_in, read_cell, read_at, read, written, set_found, set_cell, set_at, set, same_width}
use Rattle.fit_rules.specs.Shapes.{Each, Shape, integer, pointer, region, Numeric, numeric_pointer, NumberIs, World, position_of, IsRegion, Is, is_number, is_region, Are, Origin}
use Rattle.fit_rules.specs.Marks.{stacked}
use Rattle.fit_rules.specs.Fits.{Program, kind_at, shape_at, claims, Covers, CellNumber, CellFits, PartFits, PartsFit, Fits}
use Rattle.fit_rules.specs.Sound.{Allowed, Through, To}
use Rattle.fit_rules.specs.Ends.{StopsWell, Safe, safe_goes, safe_stops}
use Rattle.fit_laws.proofs.Held.{over}
use Rattle.fit_laws.proofs.Lookup.{value_at}
use Rattle.fit_laws.proofs.Numbers.{KeptAs, kept_int, kept_int64, kept_as_truth, kept_index, kept_pointer, is_kept, kept_is, kept_numeric}
use Rattle.fit_laws.proofs.Cover.{Permits, read_reads, write_reads, write_writes, reduce_reduces, write_reduces, Joined, covered_granted, claimed_needed}
use Rattle.fit_laws.proofs.Cells.{cell_same, cell_other, set_piece, origin, valued, same_root, same_field}
use Rattle.fit_laws.proofs.Straight.{beside_moved, pushed, safe_number, safe_two, suits_at}

-- ---- the width of an integer field

abbrev IsInt : Shape → Type 0
IsInt (integer v) = Unit {0}
IsInt _ = ⊥

reduced_is : (kd : FieldKind) (s : Shape) (w : Width) (o : Op) (a b : ℤ) → KeptAs kd s → s ≡ integer w →
    NumberIs s (applied o (width_of kd) a b)
reduced_is _ _ w o a b kept_int e = closed o W32 a b
reduced_is _ _ w o a b kept_int64 e = closed o W64 a b
reduced_is _ _ w o a b kept_as_truth e = absurd (subst IsInt (sym e) tt)
reduced_is _ _ w o a b kept_index e = absurd (subst IsInt (sym e) tt)
reduced_is _ _ w o a b (kept_pointer n) e = absurd (subst IsInt (sym e) tt)

-- ---- a number that is set

module _ (g : Program) (x : World) (t : TaskCode) where
  renew : (k : FieldKind) (s : Shape) (c : Cell) (z : ℤ) (o : Option Mode) → CellFits k s (Some c) o →
      CellNumber k s c.mode z → CellFits k s (Some (valued z c)) o
  renew k s c z None h n = absurd h
  renew k s c z (Some md) h n = (h.0, subst (λ y. CellNumber k s y z) h.0 n)

  set_fits : (root f p : ℕ) (z : ℤ) (q : Part) (c : Cell) → cell_at q.pieces p ≡ Some c →
      CellNumber (kind_at g (x.spaces root) f) (shape_at g (x.spaces root) f) c.mode z →
      PartFits g x t root f q → PartFits g x t root f (set_piece p z q)
  set_fits root f p z q c e n h = record {
    there = h.there;
    kind = h.kind;
    cells = λ y. cell_at_point y (p == y) refl;
  }
    where
      cell_at_point : (y : ℕ) (b : Bool) → p == y ≡ b →
          CellFits (kind_at g (x.spaces root) f) (shape_at g (x.spaces root) f)
          (cell_at (set_piece p z q).pieces y) (mode_at (claims g x t) root f y)
      cell_at_point y false ne = subst (λ o. CellFits (kind_at g (x.spaces root) f)
          (shape_at g (x.spaces root) f) o (mode_at (claims g x t) root f y))
          (sym (cell_other q.pieces p y z ne)) (h.cells y)
      cell_at_point y true eq = subst (λ (w : ℕ). CellFits (kind_at g (x.spaces root) f)
          (shape_at g (x.spaces root) f) (cell_at (set_piece p z q).pieces w) (mode_at (claims g x t) root f w))
          (eqb-true p y eq)
          (subst (λ o. CellFits (kind_at g (x.spaces root) f)
          (shape_at g (x.spaces root) f) o (mode_at (claims g x t) root f p))
          (sym (cell_same q.pieces p z c e))
          (renew (kind_at g (x.spaces root) f) (shape_at g (x.spaces root) f) c z (mode_at (claims g x t) root f p) (subst (λ o. CellFits (kind_at g (x.spaces root) f)
          (shape_at g (x.spaces root) f) o (mode_at (claims g x t) root f p)) e (h.cells p)) n))

  pub parts_set : (parts : List Part) (root f p : ℕ) (z : ℤ) (q : Part) (c : Cell) →
      part_of parts root f ≡ Some q → cell_at q.pieces p ≡ Some c →
      CellNumber (kind_at g (x.spaces root) f) (shape_at g (x.spaces root) f) c.mode z →
      PartsFit g x t parts → PartsFit g x t (set_part parts root f p z)
  parts_set parts root f p z q c ep ec n h r i new e =
      let o = origin parts root f p z r i new e in
      ⊎_elim (λ same. subst (PartFits g x t r i) (sym same) (h r i o.old o.was))
      (λ w.
      let er : root ≡ r = sym w.1 in
      let ei : f ≡ i = sym w.2 in
      let here : part_of parts root f ≡ Some o.old =
      ap (λ y. part_of parts y f) er ∙ ap (part_of parts r) ei ∙ o.was in
      let is_q : q ≡ o.old = same_Some _ _ (sym ep ∙ here) in
      subst (PartFits g x t r i) (sym w.0)
      (subst (λ y. PartFits g x t y i (set_piece p z o.old)) er
      (subst (λ y. PartFits g x t root y (set_piece p z o.old)) ei
      (subst (λ y. PartFits g x t root f (set_piece p z y)) is_q
      (set_fits root f p z q c ec n (h root f q ep)))))) o.now

-- a part behind others is found where none of them is
last_part : (parts : List Part) (q : Part) (r i : ℕ) (p : Part) → part_of (parts ++ q ∷ []) r i ≡ Some p →
    (part_of parts r i ≡ Some p) ⊎ ((q ≡ p) × (q.root.0 ≡ r) × (q.field ≡ i))
last_part [] q r i p e = of_test (is_part_of r i q) refl e
  where
    of_test : (b : Bool) → is_part_of r i q ≡ b → cond b (Some q) None ≡ Some p →
        (None ≡ Some p) ⊎ ((q ≡ p) × (q.root.0 ≡ r) × (q.field ≡ i))
    of_test true t e = inr (same_Some _ _ e, same_root q r i t, same_field q r i t)
    of_test false t e = inl e
last_part (a ∷ parts) q r i p e = of_first (is_part_of r i a) (last_part parts q r i p) e
  where
    of_first : (b : Bool) → (part_of (parts ++ q ∷ []) r i ≡ Some p →
        (part_of parts r i ≡ Some p) ⊎ ((q ≡ p) × (q.root.0 ≡ r) × (q.field ≡ i))) →
        cond b (Some a) (part_of (parts ++ q ∷ []) r i) ≡ Some p →
        (cond b (Some a) (part_of parts r i) ≡ Some p) ⊎ ((q ≡ p) × (q.root.0 ≡ r) × (q.field ≡ i))
    of_first true more e = inl e
    of_first false more e = more e

-- ---- what is aimed at, and what is found there

module _ (g : Program) (x : World) (t : TaskCode) (k : ℕ) (m : Machine) (fit : Fits g x t k m) where
  pub data AimedWell (sp f : ℕ) (a : Mode) : Aimed → Type 0 where
    aims_well : (root p : ℕ) → Covers g x t root f p a → x.spaces root ≡ sp →
        AimedWell sp f a (aims root p)
    fails_well : (y : FaultKind) → AimedWell sp f a (fails y)

  pub record RegionAt (sp : Option ℕ) (o : Origin) (s : ℕ) : Type 0 where
    pub region_there : RegionValue
    pub there : region_slot m s ≡ Some region_there
    pub is_region_there : IsRegion x sp o region_there

  pub region_at : (sp : Option ℕ) (o : Origin) (s : ℕ) →
      slice_get (g.marks k m.frame.pc).slots s ≡ Some (region sp o) → RegionAt sp o s
  region_at sp o s e =
      let v = value_at x _ _ s _ fit.suits.slots e in of_value v.value v.at v.of
    where
      of_value : (v : Value) → slice_get m.frame.slots s ≡ Some v → Is x (region sp o) v →
          RegionAt sp o s
      of_value _ e (is_region _ _ r i) = record { region_there = r; there = ap region_in e; is_region_there = i }
      of_value _ e (is_number _ z h) = absurd h

  pub record SlotAt (P : ℕ → Type 0) (rs : List ℕ) (i : ℕ) : Type 0 where
    pub slot : ℕ
    pub there : slice_get rs i ≡ Some slot
    pub holds : P slot

  pub slot_of : (P : ℕ → Type 0) (rs : List ℕ) (i : ℕ) → Each P rs → i < length rs → SlotAt P rs i
  slot_of P [] i h l = absurd (omega (arith, l))
  slot_of P (s ∷ rs) zero h l = record { slot = s; there = refl; holds = h.0 }
  slot_of P (s ∷ rs) (suc i) h l =
      let y = slot_of P rs i h.1 (omega (arith, l)) in record { slot = y.slot; there = y.there; holds = y.holds }

  aim_held : (sp f : ℕ) (a : Mode) (s p : ℕ) → Allowed g t (g.marks k m.frame.pc) sp f a s →
      AimedWell sp f a (aim_in (region_slot m s) p)
  aim_held sp f a s p h =
      let r = region_at (Some sp) h.origin s h.shape in
      subst (λ o. AimedWell sp f a (aim_in o p)) (sym r.there)
      (of_test (has r.region_there.points p) r.region_there r.is_region_there.space
      (λ e. h.covers x _ _ fit.suits r.region_there r.there p e) refl)
    where
      of_test : (b : Bool) (r : RegionValue) → x.spaces r.root.0 ≡ sp →
          (has r.points p ≡ true → Covers g x t r.root.0 f p a) → has r.points p ≡ b →
          AimedWell sp f a (aim_if b r p)
      of_test true r e c i = aims_well r.root.0 p (c i) e
      of_test false r e c i = fails_well _

  pub aim_well : (sp f : ℕ) (a : Mode) (n : ℕ) (rs : List ℕ) (to : Target) →
      Through g t (g.marks k m.frame.pc) sp f a n rs → position_of to ≤ n →
      AimedWell sp f a (aim m rs to)
  aim_well sp f a n rs null_target h l = fails_well _
  aim_well sp f a n rs (point_target p zero) h l = fails_well _
  aim_well sp f a n rs (point_target p (suc i)) h l =
      let s = slot_of (Allowed g t (g.marks k m.frame.pc) sp f a) rs i h.1 (omega (arith, l, h.0)) in
      subst (λ o. AimedWell sp f a (aim_in (slot_at m.frame.slots o) p)) (sym s.there) (aim_held sp f a s.slot p s.holds)

  pub data FoundWell (root f p : ℕ) (a : Mode) : Found → Type 0 where
    missing_well : part_of m.parts root f ≡ None → FoundWell root f p a missing
    found_well : (y : FieldKind) (c : Cell) (q : Part) → y ≡ kind_at g (x.spaces root) f →
        Permits a c.mode →
        CellNumber (kind_at g (x.spaces root) f) (shape_at g (x.spaces root) f) c.mode c.value →
        part_of m.parts root f ≡ Some q → cell_at q.pieces p ≡ Some c →
        FoundWell root f p a (found y c)

  pub needed : (root f p : ℕ) (a : Mode) → Covers g x t root f p a →
      is_needed m.frame.needs.items root f ≡ true
  needed root f p a c =
      let w = covered_granted g x t root f p a c in
      claimed_needed m.frame.needs.items (claims g x t) root f p a fit.beside.needs w.claim w.among w.at

  in_cell : (root f p : ℕ) (a : Mode) (q : Part) (o : Option Cell) → part_of m.parts root f ≡ Some q →
      cell_at q.pieces p ≡ o → Joined a (mode_at (claims g x t) root f p) →
      FoundWell root f p a (found_cell q.kind o)
  in_cell root f p a q o e eo j =
      of_cell o eo (subst (CellFits (kind_at g (x.spaces root) f) (shape_at g (x.spaces root) f) o) j.is (subst (λ y. CellFits (kind_at g (x.spaces root) f) (shape_at g (x.spaces root) f) y (mode_at (claims g x t) root f p)) eo
      ((fit.beside.parts root f q e).cells p)))
    where
      of_cell : (o : Option Cell) → cell_at q.pieces p ≡ o →
          CellFits (kind_at g (x.spaces root) f) (shape_at g (x.spaces root) f) o (Some j.held) →
          FoundWell root f p a (found_cell q.kind o)
      of_cell None eo h = absurd h
      of_cell (Some c) eo h = found_well q.kind c q (fit.beside.parts root f q e).kind
          (subst (Permits a) (sym h.0) j.permits)
          (subst (λ y. CellNumber (kind_at g (x.spaces root) f) (shape_at g (x.spaces root) f) y c.value) (sym h.0) h.1)
          e eo

  in_part : (root f p : ℕ) (a : Mode) (o : Option Part) → part_of m.parts root f ≡ o →
      Joined a (mode_at (claims g x t) root f p) → FoundWell root f p a (found_in o p)
  in_part root f p a None e j = missing_well e
  in_part root f p a (Some q) e j = in_cell root f p a q (cell_at q.pieces p) e refl j

  pub find_well : (root f p : ℕ) (a : Mode) → Covers g x t root f p a →
      FoundWell root f p a (find m.frame.needs.items m.parts root f p)
  find_well root f p a c =
      subst (λ b. FoundWell root f p a (cond b (found_in (part_of m.parts root f) p) refused))
      (sym (needed root f p a c))
      (in_part root f p a (part_of m.parts root f) refl (covered_granted g x t root f p a c).joined)

  -- ---- parts that are wanted

  pub wants_well : (root f : ℕ) → is_needed m.frame.needs.items root f ≡ true → part_of m.parts root f ≡ None →
      StopsWell g x t k (yield.Want (record { 0 = root }) f) m
  wants_well root f e none = (
    fit.beside.parts,
    (
      fit,
      e,
      none,
      λ q er ef h. record {
        inside = fit.inside;
        suits = fit.suits;
        beside = beside_moved g x t k m fit _ _ _ _ _ (omega arith)
            (λ r i p ep. part_added m.parts q root f er ef h none fit.beside.parts r i p ep);
      },
    ),
  )
    where
      part_added : (parts : List Part) (q : Part) (root f : ℕ) → q.root.0 ≡ root → q.field ≡ f → PartFits g x t root f q →
          part_of parts root f ≡ None → PartsFit g x t parts → PartsFit g x t (parts ++ q ∷ [])
      part_added parts q root f er ef h none fits r i p ep =
          ⊎_elim (λ old. fits r i p old)
          (λ w. subst (PartFits g x t r i) w.0
          (subst (λ y. PartFits g x t y i q) (er2 w.1) (subst (λ y. PartFits g x t root y q) (ef2 w.2) h)))
          (last_part parts q r i p ep)
        where
          er2 : q.root.0 ≡ r → root ≡ r
          er2 e = sym er ∙ e

          ef2 : q.field ≡ i → f ≡ i
          ef2 e = sym ef ∙ e

  -- ---- reads

  read_mode : (root f sp : ℕ) (ss : List Shape) (md : Mode) (z : ℤ) (st : List Value) →
      To g t k (stacked (g.marks k m.frame.pc) (shape_at g sp f ∷ ss)) (suc m.frame.pc) → Are (over g x k m) ss st →
      x.spaces root ≡ sp → Permits mode.Read md →
      CellNumber (kind_at g (x.spaces root) f) (shape_at g (x.spaces root) f) md z →
      Safe g x t k (read_in md z st m)
  read_mode root f sp ss _ z st h a e read_reads n =
      pushed g x t k m fit _ ss z st h (subst (λ y. NumberIs (shape_at g y f) z) e n) a
  read_mode root f sp ss _ z st h a e write_reads n =
      pushed g x t k m fit _ ss z st h (subst (λ y. NumberIs (shape_at g y f) z) e n) a

  read_found : (root f p sp : ℕ) (ss : List Shape) (o : Found) (st : List Value) →
      To g t k (stacked (g.marks k m.frame.pc) (shape_at g sp f ∷ ss)) (suc m.frame.pc) → Are (over g x k m) ss st →
      x.spaces root ≡ sp → is_needed m.frame.needs.items root f ≡ true →
      FoundWell root f p mode.Read o → Safe g x t k (read_cell root f o st m)
  read_found root f p sp ss _ st h a e i (missing_well none) = safe_stops _ _ (wants_well root f i none)
  read_found root f p sp ss _ st h a e i (found_well y c q ek pm n ep ec) =
      read_mode root f sp ss c.mode c.value st h a e pm n

  read_aimed : (sp f line : ℕ) (ss : List Shape) (o : Aimed) (st : List Value) →
      To g t k (stacked (g.marks k m.frame.pc) (shape_at g sp f ∷ ss)) (suc m.frame.pc) → Are (over g x k m) ss st →
      AimedWell sp f mode.Read o → Safe g x t k (read_at f line o st m)
  read_aimed sp f line ss _ st h a (aims_well root p c e) = read_found root f p sp ss _ st h a e
      (needed root f p mode.Read c) (find_well root f p mode.Read c)
  read_aimed sp f line ss _ st h a (fails_well y) = safe_stops _ _ (fit.beside.parts, tt)

  pub read_safe : (rs : List ℕ) (f sp n line : ℕ) (ss : List Shape) →
      Through g t (g.marks k m.frame.pc) sp f mode.Read n rs →
      To g t k (stacked (g.marks k m.frame.pc) (shape_at g sp f ∷ ss)) (suc m.frame.pc) →
      Are (over g x k m) (pointer n ∷ ss) m.frame.stack → Safe g x t k (read rs f line m)
  read_safe rs f sp n line ss r h a = safe_number g x t k m fit (pointer n) ss m.frame.stack _ (numeric_pointer n) a
      (λ z st i b. read_aimed sp f line ss _ st h b (aim_well sp f mode.Read n rs (target_kept z) r i.1))

  -- ---- writes and reductions

  pub same_width_itself : (w : Width) → same_width w w ≡ true
  same_width_itself W32 = refl
  same_width_itself W64 = refl

  set_safe_at : (root f p : ℕ) (z : ℤ) (q : Part) (c : Cell) (ss : List Shape) (st : List Value) →
      To g t k (stacked (g.marks k m.frame.pc) ss) (suc m.frame.pc) → Are (over g x k m) ss st →
      part_of m.parts root f ≡ Some q → cell_at q.pieces p ≡ Some c →
      CellNumber (kind_at g (x.spaces root) f) (shape_at g (x.spaces root) f) c.mode z →
      Safe g x t k (set_found root f p (Some z) st m)
  set_safe_at root f p z q c ss st h a ep ec n = safe_goes _ (record {
    inside = h.0;
    suits = suits_at g x t k m fit (suc m.frame.pc) ss st h a;
    beside = beside_moved g x t k m fit _ _ _ _ _ (omega arith) (parts_set g x t m.parts root f p z q c ep ec n fit.beside.parts);
  })

  -- what an access writes is of the field's shape
  pub data Writes (kd : FieldKind) (s : Shape) : Mode → ℤ → Type 0 where
    writes_value : (z : ℤ) → KeptAs kd s → NumberIs s z → Writes kd s mode.Write z
    reduces_value : (o : Op) (w : Width) (z : ℤ) → KeptAs kd s → s ≡ integer w → Writes kd s (mode.Reduce o) z

  set_mode : (root f p : ℕ) (a md : Mode) (z : ℤ) (q : Part) (c : Cell) (ss : List Shape) (st : List Value) →
      To g t k (stacked (g.marks k m.frame.pc) ss) (suc m.frame.pc) → Are (over g x k m) ss st → c.mode ≡ md →
      Writes (kind_at g (x.spaces root) f) (shape_at g (x.spaces root) f) a z → Permits a md →
      part_of m.parts root f ≡ Some q → cell_at q.pieces p ≡ Some c →
      Safe g x t k (set_found root f p (written a md (width_of (kind_at g (x.spaces root) f)) c.value z) st m)
  set_mode root f p _ _ z q c ss st h b em (writes_value _ kp i) write_writes ep ec =
      set_safe_at root f p _ q c ss st h b ep ec
      (subst (λ y. CellNumber (kind_at g (x.spaces root) f) (shape_at g (x.spaces root) f) y (wrapped (width_of (kind_at g (x.spaces root) f)) z)) (sym em) (kept_is _ _ z kp i))
  set_mode root f p _ _ z q c ss st h b em (reduces_value o w _ kp e) (write_reduces _) ep ec =
      set_safe_at root f p _ q c ss st h b ep ec
      (subst (λ y. CellNumber (kind_at g (x.spaces root) f) (shape_at g (x.spaces root) f) y (applied o (width_of (kind_at g (x.spaces root) f)) c.value (wrapped (width_of (kind_at g (x.spaces root) f)) z))) (sym em)
      (reduced_is _ _ w o _ _ kp e))
  set_mode root f p _ _ z q c ss st h b em (reduces_value o w _ kp e) (reduce_reduces _) ep ec =
      subst (λ y. Safe g x t k (set_found root f p (cond y (Some (applied o (width_of (kind_at g (x.spaces root) f)) c.value (wrapped (width_of (kind_at g (x.spaces root) f)) z))) None) st m))
      (sym (same_op-itself o))
      (set_safe_at root f p _ q c ss st h b ep ec
      (subst (λ y. CellNumber (kind_at g (x.spaces root) f) (shape_at g (x.spaces root) f) y (applied o (width_of (kind_at g (x.spaces root) f)) c.value (wrapped (width_of (kind_at g (x.spaces root) f)) z))) (sym em)
      (closed o (width_of (kind_at g (x.spaces root) f)) c.value _, λ y i. reduced_is _ _ w o y _ kp e)))

  set_found_safe : (root f p : ℕ) (a : Mode) (w : Width) (z : ℤ) (o : Found) (ss : List Shape) (st : List Value) →
      To g t k (stacked (g.marks k m.frame.pc) ss) (suc m.frame.pc) → Are (over g x k m) ss st →
      w ≡ width_of (kind_at g (x.spaces root) f) → is_needed m.frame.needs.items root f ≡ true →
      Writes (kind_at g (x.spaces root) f) (shape_at g (x.spaces root) f) a z → FoundWell root f p a o →
      Safe g x t k (set_cell a w root f p z o st m)
  set_found_safe root f p a w z _ ss st h b ew i wr (missing_well none) = safe_stops _ _ (wants_well root f i none)
  set_found_safe root f p a w z _ ss st h b ew i wr (found_well y c q ek pm n ep ec) =
      subst (λ v. Safe g x t k (when (same_width (width_of y) v) (set_found root f p (written a c.mode v c.value z) st m) (broken m)))
      (sym ew)
      (subst (λ v. Safe g x t k (when (same_width (width_of v) (width_of (kind_at g (x.spaces root) f)))
      (set_found root f p (written a c.mode (width_of (kind_at g (x.spaces root) f)) c.value z) st m) (broken m))) (sym ek)
      (subst (λ v. Safe g x t k (when v
      (set_found root f p (written a c.mode (width_of (kind_at g (x.spaces root) f)) c.value z) st m) (broken m)))
      (sym (same_width_itself (width_of (kind_at g (x.spaces root) f))))
      (set_mode root f p a c.mode z q c ss st h b refl wr pm ep ec)))

  set_aimed : (sp f line : ℕ) (a : Mode) (z : ℤ) (o : Aimed) (ss : List Shape) (st : List Value) →
      To g t k (stacked (g.marks k m.frame.pc) ss) (suc m.frame.pc) → Are (over g x k m) ss st →
      Writes (kind_at g sp f) (shape_at g sp f) a z → AimedWell sp f a o →
      Safe g x t k (set_at a (width_of (kind_at g sp f)) f line z o st m)
  set_aimed sp f line a z _ ss st h b wr (aims_well root p c e) =
      set_found_safe root f p a _ z _ ss st h b (ap (λ y. width_of (kind_at g y f)) (sym e))
      (needed root f p a c) (subst (λ y. Writes (kind_at g y f) (shape_at g y f) a z) (sym e) wr)
      (find_well root f p a c)
  set_aimed sp f line a z _ ss st h b wr (fails_well y) = safe_stops _ _ (fit.beside.parts, tt)

  pub write_safe : (rs : List ℕ) (f sp n line : ℕ) (ss : List Shape) →
      Through g t (g.marks k m.frame.pc) sp f mode.Write n rs →
      To g t k (stacked (g.marks k m.frame.pc) ss) (suc m.frame.pc) →
      Are (over g x k m) (pointer n ∷ shape_at g sp f ∷ ss) m.frame.stack →
      Safe g x t k (set mode.Write rs f (width_of (kind_at g sp f)) line m)
  write_safe rs f sp n line ss r h a = safe_two g x t k m fit (pointer n) (shape_at g sp f) ss m.frame.stack _ a
      (kept_numeric _ _ (is_kept g sp f)) (numeric_pointer n)
      (λ v p st iv ip b. set_aimed sp f line mode.Write v _ ss st h b (writes_value v (is_kept g sp f) iv)
      (aim_well sp f mode.Write n rs (target_kept p) r ip.1))

  pub reduce_safe : (rs : List ℕ) (f sp n line : ℕ) (o : Op) (w : Width) (s : Shape) (ss : List Shape) →
      shape_at g sp f ≡ integer w → Numeric s → Through g t (g.marks k m.frame.pc) sp f (mode.Reduce o) n rs →
      To g t k (stacked (g.marks k m.frame.pc) ss) (suc m.frame.pc) →
      Are (over g x k m) (pointer n ∷ s ∷ ss) m.frame.stack →
      Safe g x t k (set (mode.Reduce o) rs f (width_of (kind_at g sp f)) line m)
  reduce_safe rs f sp n line o w s ss e ns r h a = safe_two g x t k m fit (pointer n) s ss m.frame.stack _ a
      ns (numeric_pointer n)
      (λ v p st iv ip b. set_aimed sp f line (mode.Reduce o) v _ ss st h b (reduces_value o w v (is_kept g sp f) e)
      (aim_well sp f (mode.Reduce o) n rs (target_kept p) r ip.1))
