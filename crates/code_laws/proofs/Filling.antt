-- The fields of a region that has a name are filled.
use Rattle.std.proofs.Common.{◌≡◌, ◌⊎◌, ⊎_elim, inl, inr, ℕ, suc, ◌<◌, ℤ, List, [], ◌∷◌, ◌++◌, true, Some, refl, sym, ap, ◌∙◌, subst, arith}
use Rattle.std.specs.Prelude.{get_or, length, slice_get}
use Rattle.std.proofs.lemmas.Int.{int_wrap_fits}
use Rattle.std.proofs.lemmas.Option.{none-some, same_Some, slice_get-get_or}
use Rattle.plain_values.specs.Points.{has}
use Rattle.point_sets.proofs.Rising.{has_head, has_tail}
use Rattle.lane_kernels.specs.declared.numbers.Mode.TheVariants as mode
use Rattle.lane_kernels.specs.declared.numbers.Width.{Width}
use Rattle.lane_kernels.specs.Numbers.{std_width, width_of, wrapped}
use Rattle.region_tree.specs.declared.piece.Part.{Part}
use Rattle.regent_tree.specs.declared.typing.StaticType.{StaticType}
use Rattle.regent_tree.specs.Accesses.{args_in, space_in}
use Rattle.regent_tree.specs.Execution.{Going, fill_fields}
use Rattle.regent_tree.specs.Laws.{SameRoots}
use Rattle.regent_tree.specs.Running.{State, Here, Run, and_then}
use Rattle.regent_tree.specs.Scopes.{bound_to}
use Rattle.regent_tree.specs.StaticTypes.{field_kind, field_place, field_term, field_type}
use Rattle.regent_tree.specs.Store.{no_root, Store, touch_all, write_all, write_at}
use Rattle.regent_tree.specs.Syntax.{Name}
use Rattle.regent_tree.specs.Values.{Region, Value, a_region, kept_number}
use Rattle.regent_tree.proofs.Roots.{shapes_written}
use Rattle.task_code.specs.declared.instr.Instr.TheVariants as instr
use Rattle.machine_terms.specs.declared.order.Instance.{Instance}
use Rattle.machine_terms.specs.declared.value.Value.{Value as MachineValue}
use Rattle.machine_terms.specs.declared.value.Value.TheVariants as machine
use Rattle.machine_terms.specs.Contents.{kind_of}
use Rattle.machine_terms.specs.Machine.{Machine, next}
use Rattle.machine_terms.specs.Makes.{region_with}
use Rattle.machine_terms.specs.Numbers.{load}
use Rattle.machine_terms.specs.Parts.{part_of, set_part}
use Rattle.machine_terms.specs.Pointers.{region_in, same_width, written}
use Rattle.machine_terms.specs.Regions.{fill_cell, fill_points, filled, with_region}
use Rattle.machine_terms.specs.Segments.{act}
use Rattle.code_rules.specs.Assignments.{fill_code}
use Rattle.code_rules.specs.Instructions.{converted_code}
use Rattle.code_rules.specs.Pieces.{op, past}
use Rattle.code_rules.specs.Slots.{slot, slot_named, spare}
use Rattle.memory_laws.specs.Finding.{IsFound, IsMissing}
use Rattle.memory_laws.specs.Memory.{Holds, IsKept, memory_of}
use Rattle.memory_laws.specs.Places.{number_at}
use Rattle.memory_laws.specs.Touches.{IsCovered}
use Rattle.memory_laws.proofs.Cells.{part_set}
use Rattle.memory_laws.proofs.Finding.{covered_is_found}
use Rattle.memory_laws.proofs.Touching.{found_tells, set_cells_hold}
use Rattle.code_laws.specs.Simple.{IsRegion}
use Rattle.code_laws.specs.Steps.{Setting, machine_of, placed, on_step, Leads}
use Rattle.code_laws.specs.Standing.{Agrees, Aside, Comes, IsInside, IsOf, SlotsFit, Stands, blank, machine_value, nothing, where_of}
use Rattle.code_laws.specs.Typed.{AreFilled, MayFill}
use Rattle.code_laws.proofs.Accesses.{region_there}
use Rattle.code_laws.proofs.Kept.{kept_as, numbers_at_all}
use Rattle.code_laws.proofs.Moving.{BreaksAt, filled_at}
use Rattle.code_laws.proofs.Reaching.{kept_here, reached, region_lies_in, region_stays, rewritten}
use Rattle.code_laws.proofs.Runs.{comes_before, leads_by, leads_none, leads_twice}
use Rattle.code_laws.proofs.Touching.{parted, same_width-itself, touches}
use Rattle.code_laws.proofs.Values.{load_value}
use Rattle.code_laws.proofs.Wider.{any_field, filling}
use Rattle.code_laws.proofs.Writes.{ConvertedAt, GoesOn, field_value}

-- writes keep the shapes of roots
pub all_written : (store : Store) (root field : ℕ) (xs : List ℕ) (z : ℤ) → SameRoots store (write_all store root field xs z)
all_written store root field [] z = refl
all_written store root field (n ∷ xs) z =
    all_written (write_at store root field n z) root field xs z ∙ shapes_written store root field n z

-- ---- one instruction

module _ (x : Setting) (i : Instance) (pc : ℕ) (before : List MachineValue) (place f : ℕ) (w : Width) (z : ℤ) where
  -- the machine with other parts
  abbrev with_parts : List Part → Machine
  with_parts ps = machine_of (placed pc before (parted ps i))

  record Filled (store : Store) (xs : List ℕ) (st : List MachineValue) (ps : List Part) : Type 0 where
    parts : List Part
    is : fill_points (number_at i.contents place) f w z xs st (with_parts ps) ≡ next st (with_parts parts)
    holds : Holds x.code (write_all store place f xs (wrapped w z)) (memory_of (parted parts i))

  -- where the part is there
  fills_held : (xs : List ℕ) (st : List MachineValue) (ps : List Part) (q : Part) (store : Store) →
      Holds x.code store (memory_of (parted ps i)) → part_of ps (number_at i.contents place) f ≡ Some q →
      ((p : ℕ) → has xs p ≡ true → IsCovered i.contents i.needs (record { root = place; field = f; point = p; access = mode.Write })) →
      w ≡ width_of (kind_of x.code i.contents (number_at i.contents place) f) →
      IsKept (kind_of x.code i.contents (number_at i.contents place) f) (wrapped w z) → Filled store xs st ps
  fills_held [] st ps q store h there e wide kept = record { parts = ps; is = refl; holds = h }
  fills_held (n ∷ xs) st ps q store h there e wide kept =
      over (covered_is_found x.code store (memory_of (parted ps i)) (record { root = place; field = f; point = n; access = mode.Write })
      h (e n (has_head n xs)))
      (λ qs q2 h2 there2. fills_held xs st qs q2 (write_at store place f n (wrapped w z)) h2 there2 (λ p d. e p (has_tail p n xs d)) wide kept)
    where
      over : IsMissing (memory_of (parted ps i)) (number_at i.contents place) f n
          ⊎ IsFound x.code (memory_of (parted ps i)) mode.Write (number_at i.contents place) f n →
          ((qs : List Part) (q2 : Part) → Holds x.code (write_at store place f n (wrapped w z)) (memory_of (parted qs i)) →
          part_of qs (number_at i.contents place) f ≡ Some q2 → Filled (write_at store place f n (wrapped w z)) xs st qs) →
          Filled store (n ∷ xs) st ps
      over (inl miss) further = absurd (none-some q (sym miss.1 ∙ there))
      over (inr t) further =
          let root = number_at i.contents place in
          let y = wrapped w z in
          let m = with_parts ps in
          let wide2 : w ≡ width_of t.kind = wide ∙ ap width_of (sym t.kind_is) in
          let writes : t.cell.mode ≡ mode.Write = same_Some t.cell.mode mode.Write t.allows in
          let qs = set_part ps root f n y in
          let told = found_tells (memory_of (parted ps i)) root f n t.kind t.cell t.finds in
          let same : wrapped (width_of t.kind) z ≡ y = ap (λ u. wrapped u z) (sym wide2) in
          let h2 = subst (λ u. Holds x.code (write_at store place f n u) (memory_of (parted (set_part ps root f n u) i))) same
          (set_cells_hold x.code store (memory_of (parted ps i)) mode.Write place f n t.kind t.cell z (wrapped (width_of t.kind) z) h t.finds
          (ap (λ k. written mode.Write k (width_of t.kind) t.cell.value z) writes)
          (subst (λ k. IsKept k (wrapped (width_of t.kind) z)) (sym t.kind_is) (subst (IsKept (kind_of x.code i.contents root f)) (sym same) kept))) in
          let more = further qs _ h2 (part_set ps root f n y told.part told.is_part) in
          record {
            parts = more.parts;
            is = ap (λ b. fill_cell root f w n z b m (fill_points root f w z xs st)) t.finds
                ∙ ap (λ v. filled (same_width (width_of t.kind) v) t.cell.mode m (with_parts qs) (fill_points root f w z xs st)) wide2
                ∙ ap (λ b. filled b t.cell.mode m (with_parts qs) (fill_points root f w z xs st)) (same_width-itself (width_of t.kind))
                ∙ ap (λ k. filled true k m (with_parts qs) (fill_points root f w z xs st)) writes
                ∙ more.is;
            holds = more.holds;
          }

-- every number is in the store, and the parts stand for that
pub fills : (x : Setting) (i : Instance) (pc line s f place : ℕ) (w : Width) (z : ℤ) (st : List MachineValue) (xs : List ℕ)
    (store : Store) → region_in (slice_get i.frame.slots s) ≡ Some (region_with (number_at i.contents place) xs) →
    Holds x.code store (memory_of i) →
    ((p : ℕ) → has xs p ≡ true → IsCovered i.contents i.needs (record { root = place; field = f; point = p; access = mode.Write })
    × (w ≡ width_of (kind_of x.code i.contents (number_at i.contents place) f))
    × IsKept (kind_of x.code i.contents (number_at i.contents place) f) (wrapped w z)) →
    Stands x.body pc (op (instr.Fill s f w) line) →
    (ps : List Part) × Leads x (placed pc (machine.Number z ∷ st) i) (placed (suc pc) st (parted ps i))
    × Holds x.code (write_all store place f xs (wrapped w z)) (memory_of (parted ps i))
fills x i pc line s f place w z st xs store there h good stands = by_points xs refl there good
  where
    step : (ps : List Part) (xs : List ℕ) → region_in (slice_get i.frame.slots s) ≡ Some (region_with (number_at i.contents place) xs) →
        on_step x (placed pc (machine.Number z ∷ st) (parted ps i)) (act x.code x.body (instr.Fill s f w) line (machine_of (placed pc (machine.Number z ∷ st) (parted ps i))))
        ≡ on_step x (placed pc (machine.Number z ∷ st) (parted ps i)) (fill_points (number_at i.contents place) f w z xs st (machine_of (placed pc (machine.Number z ∷ st) (parted ps i))))
    step ps xs there =
        let m = machine_of (placed pc (machine.Number z ∷ st) (parted ps i)) in
        ap (λ o. on_step x (placed pc (machine.Number z ∷ st) (parted ps i)) (with_region o m (λ r. fill_points r.root.0 f w z r.points st m))) there

    by_points : (ys : List ℕ) → xs ≡ ys → region_in (slice_get i.frame.slots s) ≡ Some (region_with (number_at i.contents place) ys) →
        ((p : ℕ) → has ys p ≡ true → IsCovered i.contents i.needs (record { root = place; field = f; point = p; access = mode.Write })
        × (w ≡ width_of (kind_of x.code i.contents (number_at i.contents place) f))
        × IsKept (kind_of x.code i.contents (number_at i.contents place) f) (wrapped w z)) →
        (ps : List Part) × Leads x (placed pc (machine.Number z ∷ st) i) (placed (suc pc) st (parted ps i))
        × Holds x.code (write_all store place f xs (wrapped w z)) (memory_of (parted ps i))
    by_points [] q there good = (
      i.parts,
      leads_by x _ _ (instr.Fill s f w) line stands (step i.parts [] there),
      subst (λ ys. Holds x.code (write_all store place f ys (wrapped w z)) (memory_of i)) (sym q) h,
    )
    by_points (n ∷ ys) q there good =
        let one = good n (has_head n ys) in
        touches x i pc line place f n (machine.Number z ∷ st) (instr.Fill s f w) mode.Write store
        (λ k. (ps : List Part) × Leads x k (placed (suc pc) st (parted ps i))
        × Holds x.code (write_all store place f xs (wrapped w z)) (memory_of (parted ps i)))
        refl h one.0 stands
        (λ miss. step i.parts (n ∷ ys) there
        ∙ ap (λ b. on_step x (placed pc (machine.Number z ∷ st) i) (fill_cell (number_at i.contents place) f w n z b (machine_of (placed pc (machine.Number z ∷ st) i)) (fill_points (number_at i.contents place) f w z ys st))) miss)
        (λ j k l t. (t.0, leads_twice x l t.1, t.2))
        (λ ps h2 t.
        let told = found_tells (memory_of (parted ps i)) (number_at i.contents place) f n t.kind t.cell t.finds in
        let done = fills_held x i pc (machine.Number z ∷ st) place f w z (n ∷ ys) st ps told.part store h2 told.is_part
        (λ p d. (good p d).0) one.1 one.2 in (
          done.parts,
          leads_by x _ _ (instr.Fill s f w) line stands
              (step ps (n ∷ ys) there ∙ ap (on_step x (placed pc (machine.Number z ∷ st) (parted ps i))) done.is),
          subst (λ ys. Holds x.code (write_all store place f ys (wrapped w z)) (memory_of (parted done.parts i))) (sym q) done.holds,
        ))

-- ---- the fields of a statement

module _ (x : Setting) (params slots : ℕ) (fit : SlotsFit x slots) (aside : Aside 0) where
  pub fields_filled : (h : Here) (r : Name) (from : StaticType) (v : Value) (q : Region) (fs : List Name)
      (s : State) (pc : ℕ) (i : Instance) → AreFilled x.forms.keeps (where_of params h) r from fs → MayFill x.forms (where_of params h) r fs →
      IsRegion (bound_to h.scope.names r).static_type → IsOf from v →
      get_or s.names (bound_to h.scope.names r).place nothing ≡ a_region q →
      IsInside x s.store (bound_to h.scope.names r).static_type (a_region q) →
      (bound_to h.scope.names r).place < length s.names →
      get_or i.frame.slots (spare (where_of params h) 0) blank ≡ machine_value i.contents v →
      Agrees x params slots aside h s i →
      Stands x.body pc (fill_code (where_of params h) from (bound_to h.scope.names r).static_type
      (slot_named (where_of params h) r) fs) →
      Comes x (placed pc [] i)
      (λ g j. placed (past (fill_code (where_of params h) from (bound_to h.scope.names r).static_type
      (slot_named (where_of params h) r) fs) pc) [] j)
      (GoesOn x params slots fit aside h)
      (fill_fields h from v (bound_to h.scope.names r).static_type q fs s)
  fields_filled h r from v q [] s pc i fine may region o is lies low kept_there g stands = (i, leads_none x _, (refl, g))
  fields_filled h r from v q (f ∷ fs) s pc i fine may kind_is o is lies low kept_there g stands =
      let w = where_of params h in
      let t = (bound_to h.scope.names r).static_type in
      let p = (bound_to h.scope.names r).place in
      let place = field_place h.tree (space_in t) f in
      let kind = field_kind h.tree (space_in t) place in
      let out = field_type h.tree (space_in t) (args_in t) f in
      let k = spare w 0 in
      let there : slice_get i.frame.slots k ≡ Some (machine_value i.contents v) =
      slice_get-get_or i.frame.slots k blank (omega (arith, fit pc _ stands.0, g.slots_are)) ∙ ap (λ u. Some u) kept_there in
      let shape : Going → Instance → Instance = λ g j. placed (past (fill_code w from t (slot_named w r) (f ∷ fs)) pc) [] j in
      let rest : Value → Run Going = λ u. λ s1. fill_fields h from v t q fs (record s1 {
        store = write_all s1.store q.root place q.points (kept_number u);
        touches = s1.touches ++ touch_all q.root place mode.Write q.points;
      }) in
      let a = past (converted_code w from out) (suc pc) in
      let loaded = placed (suc pc) (machine_value i.contents v ∷ []) i in
      comes_before x shape (GoesOn x params slots fit aside h) (placed pc [] i) loaded _
      (leads_by x _ _ (instr.Load k) h.line stands.0
      (ap (λ u. on_step x (placed pc [] i) (load (machine_of (placed pc [] i)) u)) there
      ∙ ap (on_step x (placed pc [] i)) (load_value i.contents v (machine_of (placed pc [] i)))))
      (⊎_elim
      (λ (c : ConvertedAt x params slots fit aside h from out v s (suc pc) [] i).
      let u = c.value in
      let field = any_field x.forms.keeps w r f out fine.1 in
      let wide = width_of kind in
      let declared = field_term h.tree (space_in t) place in
      let sound = kept_as declared out u field.keeps c.typed in
      let fk : IsKept kind (kept_number u) = (sound.fits, sound.same) in
      let stays : wrapped wide (kept_number u) ≡ kept_number u = int_wrap_fits (std_width wide) (kept_number u) fk.0 in
      let fill_at = stands.1.1.0 in
      let room : slot w p < slots = omega (arith, fit a _ fill_at) in
      let region = region_there x params slots fit aside h s i p q is low room g in
      let filled = fills x i a h.line (slot w p) place q.root wide (kept_number u) [] q.points s.store
      (ap region_in region) g.memory
      (λ n b.
      let r = reached x params slots aside h s i q t kind_is place n mode.Write g lies may.0 field.field b in (
        r.covers,
        ap width_of (sym r.kind_is),
        subst (λ k. IsKept k (wrapped wide (kept_number u))) (sym r.kind_is) (subst (IsKept kind) (sym stays) fk),
      )) fill_at in
      let store = write_all s.store q.root place q.points (kept_number u) in
      let holds : Holds x.code store (memory_of (parted filled.0 i)) =
      subst (λ y. Holds x.code (write_all s.store q.root place q.points y) (memory_of (parted filled.0 i))) stays filled.2 in
      let ts = s.touches ++ touch_all q.root place mode.Write q.points in
      let roots = all_written s.store q.root place q.points (kept_number u) in
      let root_is : (get_or s.store q.root no_root).space ≡ space_in t = (region_lies_in x s.store t q kind_is lies).of_space in
      let kept = numbers_at_all h.tree s.store (kept_here x params slots aside h s i g) q.root place (space_in t) q.points (kept_number u) root_is sound in
      let g2 = rewritten x params slots aside h s i filled.0 ts store roots kept g holds in
      comes_before x shape (GoesOn x params slots fit aside h) loaded (placed a (machine_value i.contents u ∷ []) i) _ c.leads
      (subst (λ y. Comes x (placed a (y ∷ []) i) shape (GoesOn x params slots fit aside h) (fill_fields h from v t q (f ∷ fs) s))
      (sym (field_value i.contents declared out u field.keeps c.typed))
      (comes_before x shape (GoesOn x params slots fit aside h) (placed a (machine.Number (kept_number u) ∷ []) i)
      (placed (suc a) [] (parted filled.0 i)) _ filled.1
      (subst (λ y. Comes x (placed (suc a) [] (parted filled.0 i)) shape (GoesOn x params slots fit aside h) y)
      (sym (ap (λ y. and_then y rest) c.gives_it))
      (fields_filled h r from v q fs (record s { store = store; touches = ts }) (suc a) (parted filled.0 i) fine.2 may.1 kind_is o is
      (region_stays x s.store store t q kind_is roots lies) low kept_there g2 stands.1.1.1)))))
      (λ (b : BreaksAt x params slots fit aside h from out v s (suc pc) [] i).
      subst (λ y. Comes x loaded shape (GoesOn x params slots fit aside h) y) (sym (ap (λ y. and_then y rest) b.breaks_it)) b.ends)
      (filled_at x params slots fit aside h from out v s (suc pc) [] i g.text (filling x.forms.keeps from out fine.0) o stands.1.0))
