-- Fills: a number is written at each point of a region.
use Rattle.std.proofs.Common.{◌≡◌, inl, inr, ℕ, suc, ℤ, List, [], ◌∷◌, Bool, true, false, ◌||◌, Some, refl, sym, ap, ◌∙◌, subst, arith}
use Rattle.std.specs.Prelude.{◌==◌}
use Rattle.std.specs.List.{list_any}
use Rattle.std.proofs.lemmas.Bool.{eq-eqb}
use Rattle.lane_kernels.specs.declared.numbers.Mode.{Mode}
use Rattle.lane_kernels.specs.declared.numbers.Mode.TheVariants as mode
use Rattle.lane_kernels.specs.declared.numbers.Width.{Width}
use Rattle.lane_kernels.specs.Numbers.{wrapped, width_of}
use Rattle.region_tree.specs.declared.piece.Part.{Part}
use Rattle.plain_values.specs.Points.{has}
use Rattle.task_code.specs.declared.code.TaskCode.{TaskCode}
use Rattle.machine_terms.specs.declared.value.Value.{Value}
use Rattle.machine_terms.specs.Machine.{Machine, Stepped, on_number}
use Rattle.machine_terms.specs.Parts.{Cell, cell_at, part_of, Found, set_part, is_needed}
use Rattle.machine_terms.specs.Pointers.{same_width}
use Rattle.machine_terms.specs.Regions.{with_region, filled, fill_cell, fill_points, fill}
use Rattle.fit_rules.specs.Shapes.{Among, Shape, NumberIs, World, Are}
use Rattle.fit_rules.specs.Marks.{stacked}
use Rattle.fit_rules.specs.Fits.{Program, kind_at, shape_at, Covers, CellNumber, Fits}
use Rattle.fit_rules.specs.Sound.{Allowed, To}
use Rattle.fit_rules.specs.Ends.{Safe, safe_stops}
use Rattle.fit_laws.proofs.Held.{over}
use Rattle.fit_laws.proofs.Numbers.{is_kept, kept_is, kept_numeric}
use Rattle.fit_laws.proofs.Cover.{Permits, write_writes}
use Rattle.fit_laws.proofs.Straight.{beside_moved, safe_next, safe_number}
use Rattle.fit_laws.proofs.Access.{wants_well, FoundWell, missing_well, found_well, find_well, needed, parts_set, same_width_itself, region_at}

pub points_had : (xs : List ℕ) (p : ℕ) → Among xs p → has xs p ≡ true
points_had [] p h = absurd h
points_had (y ∷ xs) p (inl e) = ap (λ b. b || list_any (λ z. p == z) xs) (eq-eqb p y (sym e))
points_had (y ∷ xs) p (inr h) = ap (λ b. (p == y) || b) (points_had xs p h) ∙ or_true (p == y)
  where
    or_true : (b : Bool) → b || true ≡ true
    or_true true = refl
    or_true false = refl

module _ (g : Program) (x : World) (t : TaskCode) (k root f : ℕ) (z : ℤ) (ss : List Shape)
    (st : List Value) where
  abbrev width : Width
  width = width_of (kind_at g (x.spaces root) f)

  abbrev new : Machine → ℕ → Machine
  new m p = record m { parts = set_part m.parts root f p (wrapped width z) }

  new_fits : (m : Machine) (fit : Fits g x t k m) (p : ℕ) (q : Part) (c : Cell) → part_of m.parts root f ≡ Some q →
      cell_at q.pieces p ≡ Some c → c.mode ≡ mode.Write → NumberIs (shape_at g (x.spaces root) f) z →
      Fits g x t k (new m p)
  new_fits m fit p q c ep ec em i = record {
    inside = fit.inside;
    suits = fit.suits;
    beside = beside_moved g x t k m fit _ _ _ _ _ (omega arith) (parts_set g x t m.parts root f p (wrapped width z) q c ep ec
        (subst (λ y. CellNumber (kind_at g (x.spaces root) f) (shape_at g (x.spaces root) f) y (wrapped width z)) (sym em)
        (kept_is _ _ z (is_kept g (x.spaces root) f) i)) fit.beside.parts);
  }

  of_mode : (m n : Machine) (more : Machine → Stepped) (md : Mode) → Permits mode.Write md →
      (md ≡ mode.Write → Safe g x t k (more n)) → Safe g x t k (filled true md m n more)
  of_mode m n more _ write_writes h = h refl

  set_here : (m : Machine) (fit : Fits g x t k m) (p : ℕ) (o : Found) (more : Machine → Stepped) →
      is_needed m.frame.needs.items root f ≡ true →
      NumberIs (shape_at g (x.spaces root) f) z → FoundWell g x t k m fit root f p mode.Write o →
      (Fits g x t k (new m p) → Safe g x t k (more (new m p))) →
      Safe g x t k (fill_cell root f width p z o m more)
  set_here m fit p _ more e i (missing_well none) next = safe_stops _ _ (wants_well g x t k m fit root f e none)
  set_here m fit p _ more e i (found_well y c q ek pm n ep ec) next =
      subst (λ v. Safe g x t k (filled (same_width (width_of v) width) c.mode m (new m p) more)) (sym ek)
      (subst (λ v. Safe g x t k (filled v c.mode m (new m p) more)) (sym (same_width_itself g x t k m fit width))
      (of_mode m (new m p) more c.mode pm (λ em. next (new_fits m fit p q c ep ec em i))))

  filling : (xs : List ℕ) (m : Machine) → Fits g x t k m → NumberIs (shape_at g (x.spaces root) f) z →
      ((p : ℕ) → Among xs p → Covers g x t root f p mode.Write) →
      To g t k (stacked (g.marks k m.frame.pc) ss) (suc m.frame.pc) → Are (over g x k m) ss st →
      Safe g x t k (fill_points root f width z xs st m)
  filling [] m fit i c to a = safe_next g x t k m fit ss st to a
  filling (p ∷ xs) m fit i c to a = set_here m fit p _ (fill_points root f width z xs st)
      (needed g x t k m fit root f p mode.Write (c p (inl refl))) i
      (find_well g x t k m fit root f p mode.Write (c p (inl refl)))
      (λ h. filling xs (new m p) h i (λ q l. c q (inr l)) to a)

module _ (g : Program) (x : World) (t : TaskCode) (k : ℕ) (m : Machine) (fit : Fits g x t k m) where
  pub fill_safe : (s f sp : ℕ) (ss : List Shape) → Allowed g t (g.marks k m.frame.pc) sp f mode.Write s →
      To g t k (stacked (g.marks k m.frame.pc) ss) (suc m.frame.pc) → Are (over g x k m) (shape_at g sp f ∷ ss) m.frame.stack →
      Safe g x t k (fill s f (width_of (kind_at g sp f)) m)
  fill_safe s f sp ss h to a =
      let r = region_at g x t k m fit (Some sp) h.origin s h.shape in
      let same : x.spaces r.region_there.root.0 ≡ sp = r.is_region_there.space in
      subst (λ o. Safe g x t k (with_region o m (λ q. on_number m.frame.stack m (λ z st.
      fill_points q.root.0 f (width_of (kind_at g sp f)) z q.points st m)))) (sym r.there)
      (safe_number g x t k m fit (shape_at g sp f) ss m.frame.stack _ (kept_numeric _ _ (is_kept g sp f)) a
      (λ z st i b. subst (λ y. Safe g x t k (fill_points r.region_there.root.0 f (width_of (kind_at g y f)) z r.region_there.points st m))
      same
      (filling g x t k r.region_there.root.0 f z ss st r.region_there.points m fit
      (subst (λ y. NumberIs (shape_at g y f) z) (sym same) i)
      (λ p l. h.covers x _ _ fit.suits r.region_there r.there p (points_had r.region_there.points p l)) to b)))
