-- Fields of what a pointer goes to, by the regions that its type names.
use Rattle.std.proofs.Common.{◌≡◌, ℕ, zero, suc, ◌^◌, ◌<◌, ℤ, List, [], ◌∷◌, Bool, true, false, Some, None, refl, sym, ap, ◌∙◌, subst, arith, ⊎_elim}
use Rattle.std.specs.Prelude.{get_or, length, slice_get}
use Rattle.std.proofs.lemmas.Bool.{cases_lt}
use Rattle.std.proofs.lemmas.Option.{slice_get-get_or}
use Rattle.std.proofs.Math.ListN.{get_or-eq_default}
use Rattle.plain_values.specs.Points.{has}
use Rattle.lane_kernels.specs.Numbers.{width_of}
use Rattle.lane_kernels.specs.declared.numbers.Mode.{Mode}
use Rattle.lane_kernels.specs.declared.numbers.Mode.TheVariants as mode
use Rattle.lane_kernels.specs.declared.numbers.Op.{Op}
use Rattle.lane_kernels.specs.declared.numbers.Width.{Width}
use Rattle.regent_tree.specs.Accesses.{Aim, misses, aimed_in, aimed_through, read_field}
use Rattle.regent_tree.specs.Execution.{write_field}
use Rattle.regent_tree.specs.Running.{Here, State}
use Rattle.regent_tree.specs.Scopes.{bound_as}
use Rattle.regent_tree.specs.StaticTypes.{Reach, field_kind, field_place, field_term, space_at}
use Rattle.regent_tree.specs.Typing.{has_wild, parent_of}
use Rattle.regent_tree.specs.Store.{Store, column, no_root}
use Rattle.regent_tree.specs.Syntax.{Name, Tree}
use Rattle.regent_tree.specs.Values.{Region, Target, Value, a_number, a_region, kept_number, kept_target, no_region, null_target, point_target, target_kept}
use Rattle.regent_tree.specs.declared.facts.Term.TheVariants as term
use Rattle.regent_tree.specs.declared.outcome.FaultKind.{FaultKind}
use Rattle.regent_tree.specs.declared.outcome.FaultKind.TheVariants.{NullPointer, OutOfRegion}
use Rattle.regent_tree.specs.declared.statement.How.TheVariants as how
use Rattle.regent_tree.specs.declared.types.Kind.{Kind}
use Rattle.regent_tree.specs.declared.typing.StaticType.{StaticType}
use Rattle.regent_tree.specs.declared.typing.StaticType.TheVariants.{Integer as integer_type, Pointer as pointer_type}
use Rattle.task_code.specs.declared.instr.Instr.TheVariants as instr
use Rattle.machine_terms.specs.declared.order.Ended.TheVariants.{Broke}
use Rattle.machine_terms.specs.declared.order.Instance.{Instance}
use Rattle.machine_terms.specs.declared.order.Resumed.TheVariants.{IsOver}
use Rattle.machine_terms.specs.declared.value.Value.{Value as MachineValue}
use Rattle.machine_terms.specs.declared.value.Value.TheVariants as machine
use Rattle.machine_terms.specs.Makes.{region_with}
use Rattle.machine_terms.specs.Pointers.{aim_if, aim_in, aim_through, aims, fails, read_at, region_in, set_at, slot_at}
use Rattle.code_rules.specs.Assignments.{put_code}
use Rattle.code_rules.specs.Pieces.{op}
use Rattle.code_rules.specs.Slots.{slot_bound, slots_of}
use Rattle.memory_laws.specs.Places.{number_at}
use Rattle.value_laws.specs.Shapes.{IsPosition}
use Rattle.code_laws.proofs.Values.{not_true}
use Rattle.code_laws.specs.Pointers.{AreNames, AreReached, FieldKeeps, IsOfName, AreAims, IsOfPart}
use Rattle.code_laws.specs.Simple.{term_in}
use Rattle.code_laws.specs.Taking.{MayDo}
use Rattle.code_laws.specs.Typed.{MayReach}
use Rattle.code_laws.specs.Standing.{Agrees, Aside, IsInside, LiesIn, SlotsFit, Stands, blank, machine_value, where_of, IsOf}
use Rattle.code_laws.specs.Steps.{Setting, machine_of, on_step, placed}
use Rattle.code_laws.proofs.Accesses.{HasRegion, field_reads, kept_round}
use Rattle.code_laws.proofs.Good.{Gives}
use Rattle.code_laws.proofs.Pointing.{numbered}
use Rattle.code_laws.proofs.Reaching.{Reached, reached, region_lies_in}
use Rattle.code_laws.proofs.Runs.{ends_by}
use Rattle.code_laws.proofs.Writes.{Written, field_folds, field_writes}
use Rattle.regent_tree.specs.declared.facts.Colour.{Colour}
use Rattle.memory_laws.specs.Touches.{IsCovered}
use Rattle.machine_terms.specs.Contents.{kind_of}

-- a slot that has a region is there
pub region_slot_there : (xs : List MachineValue) (k : ℕ) (v : MachineValue) (q : Region) (n : ℕ) →
    v ≡ machine.Region (region_with n q.points) → get_or xs k blank ≡ v → slice_get xs k ≡ Some v
region_slot_there xs k v q n is e = ⊎_elim
    (λ l. slice_get-get_or xs k blank l ∙ ap (λ u. Some u) e)
    (λ l. absurd (other (sym (get_or-eq_default xs blank {n = k} l) ∙ e ∙ is)))
    (cases_lt k (length xs))
  where
    other : blank ≡ machine.Region (region_with n q.points) → ⊥
    other e = absurd cc

-- a field is reached at each point of a region
abbrev pub IsReached : Setting → Tree → Instance → Store → Region → ℕ → ℕ → Mode → Type 0
IsReached x tree i store q sp place a = (n : ℕ) → has q.points n ≡ true → Reached x tree i store q sp place n a

-- a position of a list of slots has its region
pub record PassesTo (x : Setting) (tree : Tree) (store : Store) (j : Instance) (sp place : ℕ) (a : Mode) (rs : List ℕ) (q : Region) (i : ℕ) : Type 0 where
  pub slot : ℕ
  pub at : slice_get rs i ≡ Some slot
  pub there : HasRegion j slot q
  pub touched : IsReached x tree j store q sp place a

module _ (x : Setting) (params slots : ℕ) (fit : SlotsFit x slots) {deep : ℕ} (aside : Aside deep) where
  -- what a region's name has lies in the store
  name_inside : (h : Here) (b sp : ℕ) (q : Region) (s : State) (j : Instance) →
      IsOfName (bound_as h.scope.names b) (length h.scope.names) s.names sp b q → Agrees x params slots aside h s j →
      IsInside x s.store (bound_as h.scope.names b).static_type (a_region q)
  name_inside h b sp q s j r g = subst (IsInside x s.store (bound_as h.scope.names b).static_type) r.value
      (numbered (IsInside x s.store) h.scope.names s.names b g.inside_store r.region).0

  -- a region that has a name is in the name's slot, and lies in the store
  pub name_there : (h : Here) (b sp : ℕ) (q : Region) (s : State) (j : Instance) →
      IsOfName (bound_as h.scope.names b) (length h.scope.names) s.names sp b q → Agrees x params slots aside h s j →
      HasRegion j (slot_bound (where_of params h) b) q × LiesIn x.code s.store sp q
  name_there h b sp q s j r g = (
    region_slot_there j.frame.slots (slot_bound (where_of params h) b) (machine_value j.contents (a_region q)) q (number_at j.contents q.root) refl
        (g.names (bound_as h.scope.names b).place (omega (arith, r.below, g.count)) ∙ ap (machine_value j.contents) r.value),
    subst (λ k. LiesIn x.code s.store k q) r.space
        (region_lies_in x s.store (bound_as h.scope.names b).static_type q r.region (name_inside h b sp q s j r g)),
  )

  -- its field is reached
  name_reached : (h : Here) (b sp place : ℕ) (a : Mode) (q : Region) (s : State) (j : Instance) →
      IsOfName (bound_as h.scope.names b) (length h.scope.names) s.names sp b q →
      MayDo x.forms.takes (term_in (bound_as h.scope.names b).static_type) place a → place < length (space_at h.tree sp).fields →
      Agrees x params slots aside h s j → IsReached x h.tree j s.store q sp place a
  name_reached h b sp place a q s j r may field g n e =
      let t = (bound_as h.scope.names b).static_type in
      subst (λ k. Reached x h.tree j s.store q k place n a) r.space
      (reached x params slots aside h s j q t r.region place n a g (name_inside h b sp q s j r g) may
      (subst (λ k. place < length (space_at h.tree k).fields) (sym r.space) field) e)

  -- the slots of the regions that a pointer's type names have the pointer's regions
  passes : (h : Here) (k : Kind) (own sp : ℕ) (args rs : List Reach) (place : ℕ) (a : Mode) (qs : List Region) (s : State) (j : Instance) (i : ℕ) → AreNames rs → has_wild rs ≡ false →
      AreReached h.scope.names s.names sp rs qs → MayReach x.forms (where_of params h) rs place a → i < length rs →
      place < length (space_at h.tree sp).fields → Agrees x params slots aside h s j →
      PassesTo x h.tree s.store j sp place a (slots_of (where_of params h) own (pointer_type k sp args rs)) (get_or qs i no_region) i
  passes h k own sp args [] place a qs s j i n c r may l field g = absurd (omega (arith, l))
  passes h k own sp args (Some (term.Name b) ∷ rs) place a (q ∷ qs) s j zero n c r may l field g =
      let touched = name_reached h b sp place a q s j r.0 may.0 field g in
      record { slot = slot_bound (where_of params h) b; at = refl; there = (name_there h b sp q s j r.0 g).0; touched = touched }
  passes h k own sp args (Some (term.Name b) ∷ rs) place a (q ∷ qs) s j (suc i) n c r may l field g =
      let m = passes h k own sp args rs place a qs s j i n c r.1 may.1 (omega (arith, l)) field g in
      record { slot = m.slot; at = m.at; there = m.there; touched = m.touched }
  passes h k own sp args (Some (term.Name b) ∷ rs) place a [] s j i n c r may l field g = absurd r
  passes h k own sp args (Some (term.Child p d) ∷ rs) place a qs s j i n c r may l field g = absurd n
  passes h k own sp args (None ∷ rs) place a qs s j i n c r may l field g = absurd (not_true (sym c))

  -- so has its own slot the part into which it goes
  abbrev pub OwnThere : Instance → ℕ → List Reach → List Region → Type 0
  OwnThere j own rs qs = (p : ℕ) (c : Colour) → rs ≡ Some (term.Child p c) ∷ [] → (q : Region) → qs ≡ q ∷ [] → HasRegion j own q

  -- a field of a part is reached as one of the whole
  part_reached : (h : Here) (p sp place : ℕ) (a : Mode) (q : Region) (s : State) (j : Instance) →
      IsOfPart h.scope.names (bound_as h.scope.names p) (length h.scope.names) s.names sp p q →
      MayDo x.forms.takes (term_in (bound_as h.scope.names (parent_of (bound_as h.scope.names p).static_type)).static_type) place a →
      place < length (space_at h.tree sp).fields → Agrees x params slots aside h s j → IsReached x h.tree j s.store q sp place a
  part_reached h p sp place a q s j r may field g n e =
      let root = sym r.root in
      let t = name_reached h (parent_of (bound_as h.scope.names p).static_type) sp place a r.parent s j r.is may field g n (r.within n e) in record {
        small = t.small;
        there = subst (λ k. n < length (column s.store k place)) root t.there;
        of_space = subst (λ k. (get_or s.store k no_root).space ≡ sp) root t.of_space;
        covers = subst (λ k. IsCovered j.contents j.needs (record { root = k; field = place; point = n; access = a })) root t.covers;
        kind_is = subst (λ k. kind_of x.code j.contents (number_at j.contents k) place ≡ field_kind h.tree sp place) root t.kind_is;
      }

  -- also where the type names a part
  aims_pass : (h : Here) (k : Kind) (own sp : ℕ) (args rs : List Reach) (place : ℕ) (a : Mode) (qs : List Region) (s : State) (j : Instance) (i : ℕ) → AreAims rs → has_wild rs ≡ false →
      AreReached h.scope.names s.names sp rs qs → OwnThere j own rs qs → MayReach x.forms (where_of params h) rs place a → i < length rs →
      place < length (space_at h.tree sp).fields → Agrees x params slots aside h s j →
      PassesTo x h.tree s.store j sp place a (slots_of (where_of params h) own (pointer_type k sp args rs)) (get_or qs i no_region) i
  aims_pass h k own sp args [] place a qs s j i n c r there may l field g = absurd (omega (arith, l))
  aims_pass h k own sp args (Some (term.Name b) ∷ rs) place a qs s j i n c r there may l field g =
      passes h k own sp args (Some (term.Name b) ∷ rs) place a qs s j i n c r may l field g
  aims_pass h k own sp args (None ∷ rs) place a qs s j i n c r there may l field g = passes h k own sp args (None ∷ rs) place a qs s j i n c r may l field g
  aims_pass h k own sp args (Some (term.Child p d) ∷ []) place a (q ∷ []) s j zero n c r there may l field g =
      record { slot = own; at = refl; there = there p d refl q refl; touched = part_reached h p sp place a q s j r.0 may.0 field g }
  aims_pass h k own sp args (Some (term.Child p d) ∷ []) place a (q ∷ []) s j (suc i) n c r there may l field g = absurd (omega (arith, l))
  aims_pass h k own sp args (Some (term.Child p d) ∷ []) place a [] s j i n c r there may l field g = absurd r
  aims_pass h k own sp args (Some (term.Child p d) ∷ []) place a (q ∷ (u ∷ us)) s j i n c r there may l field g = absurd r.1
  aims_pass h k own sp args (Some (term.Child p d) ∷ (u ∷ us)) place a qs s j i n c r there may l field g = absurd cc

  -- at what a pointer aims through a position
  passing : (tree : Tree) (store : Store) (j : Instance) (sp place : ℕ) (a : Mode) (rs : List ℕ) (q : Region) (n i : ℕ) (b : Bool) →
      PassesTo x tree store j sp place a rs q i →
      has q.points n ≡ b → n < 2 ^ 32 →
      aim_through j.frame.slots rs (target_kept (kept_target (point_target n (suc i))))
      ≡ aim_if b (region_with (number_at j.contents q.root) q.points) n
  passing tree store j sp place a rs q n i b p e low =
      ap (aim_through j.frame.slots rs) (kept_round n (suc i) low)
      ∙ ap (λ o. aim_in (slot_at j.frame.slots o) n) p.at
      ∙ ap (λ o. aim_in (region_in o) n) p.there
      ∙ ap (λ c. aim_if c (region_with (number_at j.contents q.root) q.points) n) e

  -- A pointer goes nowhere, or to a point of one of the regions: what is to be shown of it is shown of these.
  by_target : (h : Here) (k : Kind) (sp own : ℕ) (args rs : List Reach) (place : ℕ) (a : Mode) (tg : Target) (qs : List Region) (s : State)
      (i : Instance) (T : Aim → Type 0) → AreAims rs → has_wild rs ≡ false → AreReached h.scope.names s.names sp rs qs → OwnThere i own rs qs → IsPosition (length rs) tg →
      MayReach x.forms (where_of params h) rs place a → place < length (space_at h.tree sp).fields → Agrees x params slots aside h s i →
      ((fk : FaultKind) → aim_through i.frame.slots (slots_of (where_of params h) own (pointer_type k sp args rs)) (target_kept (kept_target tg)) ≡ fails fk →
      T (misses fk)) →
      ((n : ℕ) (q : Region) →
      aim_through i.frame.slots (slots_of (where_of params h) own (pointer_type k sp args rs)) (target_kept (kept_target tg))
      ≡ aims (number_at i.contents q.root) n → has q.points n ≡ true → Reached x h.tree i s.store q sp place n a → T (aimed_in (has q.points n) q n)) →
      T (aimed_through qs tg)
  by_target h k sp own args rs place a null_target qs s i T names certain reached_by there o may field g failing hitting = failing NullPointer refl
  by_target h k sp own args rs place a (point_target n zero) qs s i T names certain reached_by there o may field g failing hitting =
      failing OutOfRegion (ap (aim_through i.frame.slots (slots_of (where_of params h) own (pointer_type k sp args rs))) (kept_round n 0 o.0))
  by_target h k sp own args rs place a (point_target n (suc m)) qs s i T names certain reached_by there o may field g failing hitting =
      by_has (has (get_or qs m no_region).points n) refl
    where
      p : PassesTo x h.tree s.store i sp place a (slots_of (where_of params h) own (pointer_type k sp args rs)) (get_or qs m no_region) m
      p = aims_pass h k own sp args rs place a qs s i m names certain reached_by there may (omega (arith, o.1)) field g

      by_has : (b : Bool) → has (get_or qs m no_region).points n ≡ b →
          T (aimed_in (has (get_or qs m no_region).points n) (get_or qs m no_region) n)
      by_has false e = subst (λ b. T (aimed_in b (get_or qs m no_region) n)) (sym e)
          (failing OutOfRegion (passing h.tree s.store i sp place a _ (get_or qs m no_region) n m false p e o.0))
      by_has true e = hitting n (get_or qs m no_region) (passing h.tree s.store i sp place a _ (get_or qs m no_region) n m true p e o.0) e (p.touched n e)

  -- ---- reads, writes and reductions

  pub pointer_reads : (h : Here) (k : Kind) (sp own : ℕ) (args rs : List Reach) (f : Name) (tg : Target) (qs : List Region) (out : StaticType)
      (s : State) (pc : ℕ) (st : List MachineValue) (i : Instance) → AreAims rs → has_wild rs ≡ false → AreReached h.scope.names s.names sp rs qs → OwnThere i own rs qs →
      IsPosition (length rs) tg → field_place h.tree sp f < length (space_at h.tree sp).fields →
      MayReach x.forms (where_of params h) rs (field_place h.tree sp f) mode.Read →
      FieldKeeps (field_term h.tree sp (field_place h.tree sp f)) out → Agrees x params slots aside h s i →
      Stands x.body pc (op (instr.Read (slots_of (where_of params h) own (pointer_type k sp args rs)) (field_place h.tree sp f)) h.line) →
      Gives x params slots fit aside h out
      (op (instr.Read (slots_of (where_of params h) own (pointer_type k sp args rs)) (field_place h.tree sp f)) h.line) pc
      (machine.Number (kept_target tg) ∷ st) st i (read_field h (pointer_type k sp args rs) f (aimed_through qs tg) s)
  pointer_reads h k sp own args rs f tg qs out s pc st i names certain reached_by there o field may keeps g stands =
      let t = pointer_type k sp args rs in
      let ss = slots_of (where_of params h) own t in
      let place = field_place h.tree sp f in
      let j = placed pc (machine.Number (kept_target tg) ∷ st) i in
      by_target h k sp own args rs place mode.Read tg qs s i
      (λ a. Gives x params slots fit aside h out (op (instr.Read ss place) h.line) pc (machine.Number (kept_target tg) ∷ st) st i
      (read_field h t f a s)) names certain reached_by there o may field g
      (λ fk e. ends_by x _ _ (instr.Read ss place) h.line stands
      (ap (λ a. on_step x j (read_at place h.line a st (machine_of j))) e
      ∙ ap (λ u. IsOver (Broke (Some (record { kind = fk; line = h.line })) u)) g.text))
      (λ n q to e at_it. field_reads x params slots fit aside h t f place n (kept_target tg) ss q out s pc st i keeps to e refl at_it g stands)

  pub pointer_writes : (h : Here) (k : Kind) (sp own : ℕ) (args rs : List Reach) (f : Name) (tg : Target) (qs : List Region) (out : StaticType)
      (v : Value) (s : State) (pc : ℕ) (st : List MachineValue) (i : Instance) → AreAims rs → has_wild rs ≡ false → AreReached h.scope.names s.names sp rs qs → OwnThere i own rs qs →
      IsPosition (length rs) tg → field_place h.tree sp f < length (space_at h.tree sp).fields →
      MayReach x.forms (where_of params h) rs (field_place h.tree sp f) mode.Write →
      FieldKeeps (field_term h.tree sp (field_place h.tree sp f)) out → IsOf out v → Agrees x params slots aside h s i →
      Stands x.body pc (put_code (where_of params h) (pointer_type k sp args rs) own f how.Set) →
      Written x params slots fit aside pc h st (placed pc (machine.Number (kept_target tg) ∷ machine.Number (kept_number v) ∷ st) i)
      (write_field h (pointer_type k sp args rs) f how.Set v (aimed_through qs tg) s)
  pointer_writes h k sp own args rs f tg qs out v s pc st i names certain reached_by there o field may keeps ov g stands =
      let t = pointer_type k sp args rs in
      let ss = slots_of (where_of params h) own t in
      let place = field_place h.tree sp f in
      let w = width_of (field_kind h.tree sp place) in
      let j = placed pc (machine.Number (kept_target tg) ∷ machine.Number (kept_number v) ∷ st) i in
      by_target h k sp own args rs place mode.Write tg qs s i
      (λ a. Written x params slots fit aside pc h st j (write_field h t f how.Set v a s)) names certain reached_by there o may field g
      (λ fk e. ends_by x _ _ (instr.Write ss place w) h.line stands
      (ap (λ a. on_step x j (set_at mode.Write w place h.line (kept_number v) a st (machine_of j))) e
      ∙ ap (λ u. IsOver (Broke (Some (record { kind = fk; line = h.line })) u)) g.text))
      (λ n q to e at_it. field_writes x params slots fit aside h t f place n (kept_target tg) ss q out v s pc st i keeps ov to e refl at_it g stands)

  pub pointer_folds : (d : Op) (h : Here) (k : Kind) (sp own : ℕ) (args rs : List Reach) (f : Name) (tg : Target) (qs : List Region)
      (wd we : Width) (y : ℤ) (s : State) (pc : ℕ) (st : List MachineValue) (i : Instance) → AreAims rs → has_wild rs ≡ false →
      AreReached h.scope.names s.names sp rs qs → OwnThere i own rs qs →
      IsPosition (length rs) tg → field_place h.tree sp f < length (space_at h.tree sp).fields →
      MayReach x.forms (where_of params h) rs (field_place h.tree sp f) (mode.Reduce d) →
      FieldKeeps (field_term h.tree sp (field_place h.tree sp f)) (integer_type wd) → Agrees x params slots aside h s i →
      Stands x.body pc (put_code (where_of params h) (pointer_type k sp args rs) own f (how.Reduce d)) →
      Written x params slots fit aside pc h st (placed pc (machine.Number (kept_target tg) ∷ machine.Number y ∷ st) i)
      (write_field h (pointer_type k sp args rs) f (how.Reduce d) (a_number we y) (aimed_through qs tg) s)
  pointer_folds d h k sp own args rs f tg qs wd we y s pc st i names certain reached_by there o field may keeps g stands =
      let t = pointer_type k sp args rs in
      let ss = slots_of (where_of params h) own t in
      let place = field_place h.tree sp f in
      let w = width_of (field_kind h.tree sp place) in
      let j = placed pc (machine.Number (kept_target tg) ∷ machine.Number y ∷ st) i in
      by_target h k sp own args rs place (mode.Reduce d) tg qs s i
      (λ a. Written x params slots fit aside pc h st j (write_field h t f (how.Reduce d) (a_number we y) a s)) names certain reached_by there o may field g
      (λ fk e. ends_by x _ _ (instr.Reduce ss place d w) h.line stands
      (ap (λ a. on_step x j (set_at (mode.Reduce d) w place h.line y a st (machine_of j))) e
      ∙ ap (λ u. IsOver (Broke (Some (record { kind = fk; line = h.line })) u)) g.text))
      (λ n q to e at_it. field_folds x params slots fit aside d h t f place n (kept_target tg) ss q wd we y s pc st i keeps to e refl at_it g stands)
