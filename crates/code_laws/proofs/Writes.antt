-- Writing to a field of a region's point, and folding a number into it.
use Rattle.lane_kernels.specs.declared.numbers.Width.TheVariants.{W32, W64}
use Rattle.std.proofs.Common.{◌≡◌, ◌≢◌, ℕ, suc, ◌<◌, ℤ, pos, negsuc, List, [], ◌∷◌, ◌++◌, Bool, true, false, Some, refl, sym, ap, ◌∙◌, subst, arith}
use Rattle.std.specs.Prelude.{get_or, length}
use Rattle.std.proofs.lemmas.Int.{SFits-int_wrap, ints, int_wrap_fits}
use Rattle.plain_values.specs.Points.{has}
use Rattle.lane_kernels.specs.declared.numbers.FieldKind.{FieldKind}
use Rattle.lane_kernels.specs.declared.numbers.Mode.TheVariants as mode
use Rattle.lane_kernels.specs.declared.numbers.Op.{Op}
use Rattle.lane_kernels.specs.declared.numbers.Width.{Width}
use Rattle.lane_kernels.proofs.Operators.{closed}
use Rattle.lane_kernels.specs.Numbers.{applied, std_width, width_of, wrapped}
use Rattle.regent_tree.specs.declared.outcome.FaultKind.TheVariants.{NullPointer, OutOfRegion}
use Rattle.regent_tree.specs.declared.statement.How.TheVariants as how
use Rattle.regent_tree.specs.declared.typing.StaticType.{StaticType}
use Rattle.regent_tree.specs.declared.typing.StaticType.TheVariants.{Integer as integer_type, Region as region_type}
use Rattle.regent_tree.specs.Accesses.{aimed, aimed_in, converted, space_in, standing, take_element}
use Rattle.regent_tree.specs.Evaluation.{stepped, value}
use Rattle.regent_tree.specs.Execution.{Going, goes_on, updated, write_field}
use Rattle.regent_tree.specs.Laws.{Leaves, SameNames}
use Rattle.regent_tree.specs.Running.{State, Here, Run, Result, gives, fails, given, and_then, if_true, fault}
use Rattle.regent_tree.specs.StaticTypes.{field_kind, field_place, field_term, kind_said, space_at}
use Rattle.regent_tree.specs.declared.types.TypeTerm.{TypeTerm}
use Rattle.regent_tree.specs.Store.{read_at, write_at}
use Rattle.regent_tree.specs.Syntax.{Name, Expression, at_step, no_step}
use Rattle.regent_tree.specs.Typing.{type_of_element}
use Rattle.regent_tree.specs.Values.{Region, Value, a_number, a_pointer, a_region, a_truth, an_index, kept_number, kept_target, meant, null_target, number_of, point_target, target_kept}
use Rattle.regent_tree.proofs.Roots.{shapes_written}
use Rattle.task_code.specs.declared.instr.Instr.TheVariants as instr
use Rattle.machine_terms.specs.declared.order.Contents.{Contents}
use Rattle.machine_terms.specs.declared.order.Ended.TheVariants.{Broke}
use Rattle.machine_terms.specs.declared.order.Instance.{Instance}
use Rattle.machine_terms.specs.declared.order.Resumed.TheVariants.{IsOver}
use Rattle.machine_terms.specs.declared.value.Value.{Value as MachineValue}
use Rattle.machine_terms.specs.declared.value.Value.TheVariants as machine
use Rattle.machine_terms.specs.Machine.{faults, next, when}
use Rattle.machine_terms.specs.Makes.{region_with}
use Rattle.machine_terms.specs.Pointers.{aim_through, aims, element, point, region_in}
use Rattle.machine_terms.specs.Segments.{act}
use Rattle.code_rules.specs.Assignments.{put_code, slot_behind}
use Rattle.code_rules.specs.Expressions.{expr_code, steps_code}
use Rattle.code_rules.specs.Instructions.{converted_code, element_code, kept_code, load_code, slot_after, standing_code}
use Rattle.code_rules.specs.Pieces.{op, past, ◌⨟◌}
use Rattle.code_rules.specs.Slots.{own_slot, slot, slots_of, typed}
use Rattle.memory_laws.specs.Memory.{Holds, IsKept, memory_of}
use Rattle.memory_laws.specs.Places.{number_at}
use Rattle.code_laws.specs.Steps.{HasMore, Setting, machine_of, placed, on_step, Leads}
use Rattle.code_laws.specs.Standing.{Agrees, Aside, Comes, IsInside, IsOf, SlotsFit, Stands, machine_value, nothing, of_index, of_integer, of_pointer, of_region, of_truth, where_of}
use Rattle.code_laws.specs.Taking.{MayDo}
use Rattle.value_laws.specs.Shapes.{regions_listed}
use Rattle.code_laws.specs.Pointers.{FieldKeeps, Fills, IsCounting, KeepsAs, counts_number, counts_pointer, fills_alike, fills_index, keeps_index, keeps_plain, keeps_pointer}
use Rattle.code_laws.specs.Simple.{term_in, IsInteger, IsRegion, an_integer, number_index, number_integer, a_region_type, fits_32, fits_64, fits_truth, two_integers, two_truths}
use Rattle.code_laws.proofs.Accesses.{HasRegion, aims_first, index_fits, kept_round, region_there}
use Rattle.code_laws.proofs.Good.{valued, Gives}
use Rattle.code_laws.proofs.Kept.{integer_kept_as, kept_as, numbers_at}
use Rattle.code_laws.proofs.Reaching.{Reached, kept_here, reached, rewritten}
use Rattle.code_laws.proofs.Runs.{Said, comes_said, ends_by, leads_by, leads_none}
use Rattle.code_laws.proofs.Touching.{parted, sets}

-- ---- values that fields keep

pub field_value : (c : Contents) (declared : TypeTerm) (t : StaticType) (v : Value) → FieldKeeps declared t → IsOf t v →
    machine_value c v ≡ machine.Number (kept_number v)
field_value c declared t v fits o = by (kind_said declared) (regions_listed declared) t v fits o
  where
    by : (kind : FieldKind) (n : ℕ) (t : StaticType) (v : Value) → KeepsAs kind n t → IsOf t v → machine_value c v ≡ machine.Number (kept_number v)
    by _ _ _ _ (keeps_plain _ _ _ fits_32) (of_integer _ z f) = refl
    by _ _ _ _ (keeps_plain _ _ _ fits_64) (of_integer _ z f) = refl
    by _ _ _ _ (keeps_plain _ _ _ fits_truth) (of_truth b) = refl
    by _ _ _ _ (keeps_index n j) (of_index _ z f) = refl
    by _ _ _ _ (keeps_pointer k sp args rs names few) (of_pointer _ _ _ _ tg qs f) = refl

no_read : mode.Write ≢ mode.Read
no_read e = absurd cc

no_fold : (o : Op) → mode.Reduce o ≢ mode.Read
no_fold o e = absurd cc

module _ (x : Setting) (params slots : ℕ) (fit : SlotsFit x slots) {deep : ℕ} (aside : Aside deep) where
  -- an assignment went on
  abbrev pub GoesOn : Here → Going → State → Instance → Type 0
  GoesOn h g s j = (g ≡ goes_on) × Agrees x params slots aside h s j

  -- what a write comes to: the run goes on at the next place
  abbrev pub Written : ℕ → Here → List MachineValue → Instance → Result Going → Type 0
  Written pc h st i r = Comes x i (λ g j. placed (suc pc) st j) (GoesOn h) r

  pub field_writes : (h : Here) (t : StaticType) (f : Name) (place n : ℕ) (z : ℤ) (rs : List ℕ) (q : Region) (out : StaticType) (v : Value)
      (s : State) (pc : ℕ) (st : List MachineValue) (i : Instance) →
      FieldKeeps (field_term h.tree (space_in t) (field_place h.tree (space_in t) f)) out → IsOf out v →
      aim_through i.frame.slots rs (target_kept z) ≡ aims (number_at i.contents q.root) n →
      has q.points n ≡ true → place ≡ field_place h.tree (space_in t) f →
      Reached x h.tree i s.store q (space_in t) (field_place h.tree (space_in t) f) n mode.Write →
      Agrees x params slots aside h s i →
      Stands x.body pc (op (instr.Write rs place (width_of (field_kind h.tree (space_in t) place))) h.line) →
      Written pc h st (placed pc (machine.Number z ∷ machine.Number (kept_number v) ∷ st) i)
      (write_field h t f how.Set v (aimed_in (has q.points n) q n) s)
  field_writes h t f place n z rs q out v s pc st i fits o to e same r g stands =
      let p = field_place h.tree (space_in t) f in
      let kind = field_kind h.tree (space_in t) p in
      let w = width_of kind in
      let declared = field_term h.tree (space_in t) p in
      let is = kept_as declared out v fits o in
      let c : IsKept kind (kept_number v) = (is.fits, is.same) in
      let stays : wrapped w (kept_number v) ≡ kept_number v = int_wrap_fits (std_width w) (kept_number v) c.0 in
      let d = sets x mode.Write no_read i pc h.line q.root p n z (kept_number v) st rs w
      (instr.Write rs p w) s.store refl (λ m. refl) (ap width_of (sym r.kind_is))
      (subst (λ k. IsKept k (wrapped w (kept_number v))) (sym r.kind_is) (subst (IsKept kind) (sym stays) c))
      g.memory r.covers
      (subst (λ k. Stands x.body pc (op (instr.Write rs k (width_of (field_kind h.tree (space_in t) k))) h.line)) same stands) to in
      subst (λ b. Written pc h st (placed pc (machine.Number z ∷ machine.Number (kept_number v) ∷ st) i)
      (write_field h t f how.Set v (aimed_in b q n) s)) (sym e) (
        parted d.0 i,
        d.1,
        (
          refl,
          rewritten x params slots aside h s i d.0 _ (write_at s.store q.root p n (kept_number v))
              (shapes_written s.store q.root p n (kept_number v)) (numbers_at h.tree s.store (kept_here x params slots aside h s i g) q.root p n (space_in t) (kept_number v) r.of_space is) g
              (subst (λ y. Holds x.code (write_at s.store q.root p n y) (memory_of (parted d.0 i))) stays d.2),
        ),
      )

  -- a reduction, on a field of integers
  pub field_folds : (o : Op) (h : Here) (t : StaticType) (f : Name) (place n : ℕ) (z : ℤ) (rs : List ℕ) (q : Region) (wd we : Width) (y : ℤ)
      (s : State) (pc : ℕ) (st : List MachineValue) (i : Instance) →
      FieldKeeps (field_term h.tree (space_in t) (field_place h.tree (space_in t) f)) (integer_type wd) →
      aim_through i.frame.slots rs (target_kept z) ≡ aims (number_at i.contents q.root) n →
      has q.points n ≡ true → place ≡ field_place h.tree (space_in t) f →
      Reached x h.tree i s.store q (space_in t) (field_place h.tree (space_in t) f) n (mode.Reduce o) →
      Agrees x params slots aside h s i →
      Stands x.body pc (op (instr.Reduce rs place o (width_of (field_kind h.tree (space_in t) place))) h.line) →
      Written pc h st (placed pc (machine.Number z ∷ machine.Number y ∷ st) i)
      (write_field h t f (how.Reduce o) (a_number we y) (aimed_in (has q.points n) q n) s)
  field_folds o h t f place n z rs q wd we y s pc st i fits to e same r g stands =
      let p = field_place h.tree (space_in t) f in
      let kind = field_kind h.tree (space_in t) p in
      let w = width_of kind in
      let declared = field_term h.tree (space_in t) p in
      let new = applied o w (read_at s.store q.root p n) (wrapped w y) in
      let is = integer_kept_as declared wd new fits (closed o w _ _) in
      let d = sets x (mode.Reduce o) (no_fold o) i pc h.line q.root p n z y st rs w
      (instr.Reduce rs p o w) s.store refl (λ m. refl) (ap width_of (sym r.kind_is))
      (subst (λ k. IsKept k new) (sym r.kind_is) (is.fits, is.same))
      g.memory r.covers
      (subst (λ k. Stands x.body pc (op (instr.Reduce rs k o (width_of (field_kind h.tree (space_in t) k))) h.line)) same stands) to in
      subst (λ b. Written pc h st (placed pc (machine.Number z ∷ machine.Number y ∷ st) i)
      (write_field h t f (how.Reduce o) (a_number we y) (aimed_in b q n) s)) (sym e) (
        parted d.0 i,
        d.1,
        (
          refl,
          subst (λ v. Agrees x params slots aside h (record s { store = write_at s.store q.root p n v; touches = s.touches ++ (record { root = q.root; field = p; point = n; access = mode.Reduce o }) ∷ [] }) (parted d.0 i))
              (folded kind (regions_listed declared) wd (read_at s.store q.root p n) fits)
              (rewritten x params slots aside h s i d.0 (s.touches ++ (record { root = q.root; field = p; point = n; access = mode.Reduce o }) ∷ [])
              (write_at s.store q.root p n new) (shapes_written s.store q.root p n new)
              (numbers_at h.tree s.store (kept_here x params slots aside h s i g) q.root p n (space_in t) new r.of_space is) g d.2),
        ),
      )
    where
      folded : (kind : FieldKind) (m : ℕ) (wd : Width) (old : ℤ) → KeepsAs kind m (integer_type wd) →
          applied o (width_of kind) old (wrapped (width_of kind) y) ≡ kept_number (updated (how.Reduce o) (meant kind [] old) (a_number we y))
      folded _ _ _ old (keeps_plain _ _ _ fits_32) = refl
      folded _ _ _ old (keeps_plain _ _ _ fits_64) = refl

  -- what is to be shown where the index was evaluated
  abbrev PointsAt : {B : Type 0} → (Instance → Result B → Type 0) → (Value → Run B) → Here → ℕ → ℕ → Expression → Region → List MachineValue →
      StaticType → StaticType → Value → State → Instance → Type 0
  PointsAt T K h d sl e q st t ty u s1 j =
      HasRegion j sl q → Agrees x params slots aside h s1 j → (a : ℕ) →
      Stands x.body a (standing_code (where_of params h) ty ⨟ element_code (where_of params h) t sl
      ⨟ kept_code (where_of params h) d t no_step
      ⨟ steps_code (where_of params h) (suc d) (type_of_element h.scope t e) (slot_after (where_of params h) d t sl) no_step) →
      ((n : ℕ) → has q.points n ≡ true →
      T (placed (past (standing_code (where_of params h) ty ⨟ element_code (where_of params h) t sl
      ⨟ kept_code (where_of params h) d t no_step
      ⨟ steps_code (where_of params h) (suc d) (type_of_element h.scope t e) (slot_after (where_of params h) d t sl) no_step) a)
      (machine.Number (kept_target (point_target n 1)) ∷ st) j) (K (a_pointer (point_target n 1) (q ∷ [])) s1)) →
      T (valued a st u j)
      (and_then (and_then (standing h u s1) (λ z. λ s2. and_then (take_element h (number_of z) (a_region q) s2)
      (λ v. stepped h (type_of_element h.scope t e) v no_step))) K)

  -- A pointer to a point of a region on the stack, where the index runs, for what comes next.
  pub element_points : {B : Type 0} (T : Instance → Result B → Type 0) → Said x T → (h : Here) (d : ℕ) (t : StaticType)
      (sl : ℕ) (e : Expression) (q : Region) (s : State) (pc : ℕ) (st : List MachineValue) (i : Instance) (K : Value → Run B) →
      IsRegion t →
      Gives x params slots fit aside h (typed (where_of params h) e) (expr_code (where_of params h) d e) pc st st i (value h e s) →
      IsCounting (typed (where_of params h) e) → Leaves SameNames s (value h e s) →
      ((s1 : State) (j : Instance) → s1.names ≡ s.names → HasMore i.frame.own j.frame.own → Agrees x params slots aside h s1 j → HasRegion j sl q) →
      Stands x.body pc (steps_code (where_of params h) d t sl (at_step e no_step)) →
      ((n : ℕ) (s1 : State) (j : Instance) → s1.names ≡ s.names → has q.points n ≡ true → HasRegion j sl q → Agrees x params slots aside h s1 j →
      T (placed (past (steps_code (where_of params h) d t sl (at_step e no_step)) pc)
      (machine.Number (kept_target (point_target n 1)) ∷ st) j) (K (a_pointer (point_target n 1) (q ∷ [])) s1)) →
      T (placed pc st i) (and_then (stepped h t (a_region q) (at_step e no_step) s) K)
  element_points T said h d t sl e q s pc st i K region runs index same there stands more =
      by_value (value h e s) runs same
    where
      by_integer : (t : StaticType) → IsRegion t → (ty : StaticType) → IsInteger ty → (u : Value) → IsOf ty u →
          (s1 : State) (j : Instance) → PointsAt T K h d sl e q st t ty u s1 j
      by_integer _ (a_region_type k sp args r) _ (an_integer w) _ (of_integer _ (negsuc n) _) s1 j there g a stands go =
          said.failing _ _ s1 (ends_by x _ _ (instr.At sl) h.line stands.1.0
          (ap (λ o. on_step x (placed a (machine.Number (negsuc n) ∷ st) j) (element (region_in o) (negsuc n) h.line st (machine_of (placed a (machine.Number (negsuc n) ∷ st) j)))) there
          ∙ ap (λ t. IsOver (Broke (Some (record { kind = OutOfRegion; line = h.line })) t)) g.text))
      by_integer _ (a_region_type k sp args r) _ (an_integer w) _ (of_integer _ (pos n) _) s1 j there g a stands go =
          by_has (has q.points n) refl
        where
          at_acts : (b : Bool) → has q.points n ≡ b →
              on_step x (placed a (machine.Number (pos n) ∷ st) j) (act x.code x.body (instr.At sl) h.line (machine_of (placed a (machine.Number (pos n) ∷ st) j)))
              ≡ on_step x (placed a (machine.Number (pos n) ∷ st) j) (when b
              (next (machine.Number (kept_target (point_target n 1)) ∷ st) (machine_of (placed a (machine.Number (pos n) ∷ st) j)))
              (faults OutOfRegion h.line (machine_of (placed a (machine.Number (pos n) ∷ st) j))))
          at_acts b e =
              ap (λ o. on_step x (placed a (machine.Number (pos n) ∷ st) j) (element (region_in o) (pos n) h.line st (machine_of (placed a (machine.Number (pos n) ∷ st) j)))) there
              ∙ ap (λ b. on_step x (placed a (machine.Number (pos n) ∷ st) j) (when b
              (next (machine.Number (kept_target (point_target n 1)) ∷ st) (machine_of (placed a (machine.Number (pos n) ∷ st) j)))
              (faults OutOfRegion h.line (machine_of (placed a (machine.Number (pos n) ∷ st) j))))) e

          by_has : (b : Bool) → has q.points n ≡ b →
              T (placed a (machine.Number (pos n) ∷ st) j)
              (and_then (and_then (if_true b (given (a_pointer (point_target n 1) (q ∷ []))) (fault h OutOfRegion) s1)
              (λ v. stepped h (type_of_element h.scope (region_type k sp args r) e) v no_step)) K)
          by_has false c = said.failing _ _ s1 (ends_by x _ _ (instr.At sl) h.line stands.1.0
              (at_acts false c ∙ ap (λ t. IsOver (Broke (Some (record { kind = OutOfRegion; line = h.line })) t)) g.text))
          by_has true c = said.before _ _ _
              (leads_by x _ (placed (suc a) (machine.Number (kept_target (point_target n 1)) ∷ st) j) (instr.At sl) h.line stands.1.0 (at_acts true c))
              (go n c)

      by_index : (t : StaticType) → IsRegion t → (ty : StaticType) → IsCounting ty → (u : Value) → IsOf ty u →
          (s1 : State) (j : Instance) → PointsAt T K h d sl e q st t ty u s1 j
      by_index t region _ (counts_number _ (number_index k)) _ (of_index _ z p) s1 j there g a stands go =
          by_integer t region _ (an_integer W64) (a_number W64 z) (of_integer W64 z p) s1 j there g a stands go
      by_index t region _ (counts_number _ (number_integer w)) u o s1 j there g a stands go = by_integer t region _ (an_integer w) u o s1 j there g a stands go
      by_index t region _ (counts_pointer k sp args rs) _ (of_pointer _ _ _ _ null_target _ o) s1 j there g a stands go =
          said.failing _ _ s1 (ends_by x _ _ instr.Point h.line stands.0
          (ap (λ t. IsOver (Broke (Some (record { kind = NullPointer; line = h.line })) t)) g.text))
      by_index t region _ (counts_pointer k sp args rs) _ (of_pointer _ _ _ _ (point_target n m) _ o) s1 j there g a stands go =
          said.before _ _ _
          (leads_by x _ (placed (suc a) (machine.Number (pos n) ∷ st) j) instr.Point h.line stands.0
          (ap (λ t. on_step x (placed a (machine.Number (kept_target (point_target n m)) ∷ st) j)
          (point t h.line st (machine_of (placed a (machine.Number (kept_target (point_target n m)) ∷ st) j)))) (kept_round n m o.0)))
          (by_integer t region _ (an_integer W64) (a_number W64 (pos n)) (of_integer W64 (pos n) (omega (arith, ints, o.0)))
          s1 j there g (suc a) (tt, stands.1) go)

      by_value : (r : Result Value) →
          Gives x params slots fit aside h (typed (where_of params h) e) (expr_code (where_of params h) d e) pc st st i r →
          Leaves SameNames s r →
          T (placed pc st i) (and_then (and_then r (λ w s1. and_then (standing h w s1) (λ z. λ s2.
          and_then (take_element h (number_of z) (a_region q) s2)
          (λ v. stepped h (type_of_element h.scope t e) v no_step)))) K)
      by_value (gives u s1) c names = said.before _ _ _ c.1
          (by_index t region (typed (where_of params h) e) index u c.2.0 s1 c.0 (there s1 c.0 names c.1.own c.2.1) c.2.1
          (past (expr_code (where_of params h) d e) pc) stands.1 (λ n b. more n s1 c.0 names b (there s1 c.0 names c.1.own c.2.1) c.2.1))
      by_value (fails f s1) c names = said.failing _ f s1 c

  -- `r[e].f = v`, with the value on the stack
  pub access_writes : (h : Here) (t : StaticType) (p : ℕ) (v0 : Value) (e : Expression) (f : Name) (out : StaticType) (v : Value)
      (s : State) (pc : ℕ) (i : Instance) → IsRegion t → IsOf t v0 →
      get_or s.names p nothing ≡ v0 → p < length s.names →
      ((pc : ℕ) → Stands x.body pc (expr_code (where_of params h) 0 e) →
      Gives x params slots fit aside h (typed (where_of params h) e) (expr_code (where_of params h) 0 e) pc
      (machine.Number (kept_number v) ∷ []) (machine.Number (kept_number v) ∷ []) i (value h e s)) →
      IsCounting (typed (where_of params h) e) → Leaves SameNames s (value h e s) →
      slots_of (where_of params h) (slot (where_of params h) p) (type_of_element h.scope t e) ≡ slot (where_of params h) p ∷ [] →
      field_place h.tree (space_in t) f < length (space_at h.tree (space_in t)).fields →
      FieldKeeps (field_term h.tree (space_in t) (field_place h.tree (space_in t) f)) out → IsOf out v →
      ((s1 : State) (j : Instance) → Agrees x params slots aside h s1 j → IsInside x s1.store t (get_or s1.names p nothing)) →
      MayDo x.forms.takes (term_in t) (field_place h.tree (space_in t) f) mode.Write →
      Stands x.body pc ((load_code (where_of params h) t (slot (where_of params h) p) (at_step e no_step)
      ⨟ steps_code (where_of params h) 0 t (own_slot (where_of params h) t p) (at_step e no_step))
      ⨟ put_code (where_of params h) (type_of_element h.scope t e)
      (slot_behind (where_of params h) 0 t (own_slot (where_of params h) t p) (at_step e no_step)) f how.Set) →
      Comes x (placed pc (machine.Number (kept_number v) ∷ []) i)
      (λ g j. placed (past ((load_code (where_of params h) t (slot (where_of params h) p) (at_step e no_step)
      ⨟ steps_code (where_of params h) 0 t (own_slot (where_of params h) t p) (at_step e no_step))
      ⨟ put_code (where_of params h) (type_of_element h.scope t e)
      (slot_behind (where_of params h) 0 t (own_slot (where_of params h) t p) (at_step e no_step)) f how.Set) pc) [] j)
      (GoesOn h)
      (and_then (stepped h t v0 (at_step e no_step) s)
      (λ u. write_field h (type_of_element h.scope t e) f how.Set v (aimed u)))
  access_writes h _ p _ e f out v s pc i (a_region_type k sp args r) (of_region _ _ _ _ q) is low runs index same single field fits o lies may stands =
      let sl = slot (where_of params h) p in
      let room : sl < slots = omega (arith, fit _ _ stands.0.1.1.1.0) in
      let pt = type_of_element h.scope (region_type k sp args r) e in
      let place = field_place h.tree sp f in
      let a = past (steps_code (where_of params h) 0 (region_type k sp args r) sl (at_step e no_step)) pc in
      let there : (s1 : State) (j : Instance) → s1.names ≡ s.names → Agrees x params slots aside h s1 j → HasRegion j sl q =
      λ s1 j names g. region_there x params slots fit aside h s1 j p q (ap (λ ns. get_or ns p nothing) names ∙ is)
      (subst (λ ns. p < length ns) (sym names) low) room g in
      element_points _ (comes_said x _ (GoesOn h)) h 0 _ sl e q s pc (machine.Number (kept_number v) ∷ []) i _ (a_region_type k sp args r)
      (runs pc stands.0.1.0) index same (λ s1 j names more g. there s1 j names g) stands.0.1
      (λ n s1 j names b at_slot g.
      let lie = subst (IsInside x s1.store (region_type k sp args r)) (ap (λ ns. get_or ns p nothing) names ∙ is) (lies s1 j g) in
      field_writes h pt f place n (kept_target (point_target n 1)) (sl ∷ []) q out v s1 a [] j fits o
      (aims_first (machine_of j) sl n (region_with (number_at j.contents q.root) q.points) (lie.0.small n b) (ap region_in (there s1 j names g)) b)
      b refl (reached x params slots aside h s1 j q (region_type k sp args r) (a_region_type k sp args r) place n (mode.Write) g lie may field b) g
      (subst (λ rs. Stands x.body a (op (instr.Write rs place (width_of (field_kind h.tree sp place))) h.line)) single stands.1))

  -- `r[e].f o= y`
  pub access_folds : (o : Op) (h : Here) (t : StaticType) (p : ℕ) (v0 : Value) (e : Expression) (f : Name) (wd we : Width) (y : ℤ)
      (s : State) (pc : ℕ) (i : Instance) → IsRegion t → IsOf t v0 →
      get_or s.names p nothing ≡ v0 → p < length s.names →
      ((pc : ℕ) → Stands x.body pc (expr_code (where_of params h) 0 e) →
      Gives x params slots fit aside h (typed (where_of params h) e) (expr_code (where_of params h) 0 e) pc
      (machine.Number y ∷ []) (machine.Number y ∷ []) i (value h e s)) →
      IsCounting (typed (where_of params h) e) → Leaves SameNames s (value h e s) →
      slots_of (where_of params h) (slot (where_of params h) p) (type_of_element h.scope t e) ≡ slot (where_of params h) p ∷ [] →
      field_place h.tree (space_in t) f < length (space_at h.tree (space_in t)).fields →
      FieldKeeps (field_term h.tree (space_in t) (field_place h.tree (space_in t) f)) (integer_type wd) →
      ((s1 : State) (j : Instance) → Agrees x params slots aside h s1 j → IsInside x s1.store t (get_or s1.names p nothing)) →
      MayDo x.forms.takes (term_in t) (field_place h.tree (space_in t) f) (mode.Reduce o) →
      Stands x.body pc ((load_code (where_of params h) t (slot (where_of params h) p) (at_step e no_step)
      ⨟ steps_code (where_of params h) 0 t (own_slot (where_of params h) t p) (at_step e no_step))
      ⨟ put_code (where_of params h) (type_of_element h.scope t e)
      (slot_behind (where_of params h) 0 t (own_slot (where_of params h) t p) (at_step e no_step)) f (how.Reduce o)) →
      Comes x (placed pc (machine.Number y ∷ []) i)
      (λ g j. placed (past ((load_code (where_of params h) t (slot (where_of params h) p) (at_step e no_step)
      ⨟ steps_code (where_of params h) 0 t (own_slot (where_of params h) t p) (at_step e no_step))
      ⨟ put_code (where_of params h) (type_of_element h.scope t e)
      (slot_behind (where_of params h) 0 t (own_slot (where_of params h) t p) (at_step e no_step)) f (how.Reduce o)) pc) [] j)
      (GoesOn h)
      (and_then (stepped h t v0 (at_step e no_step) s)
      (λ u. write_field h (type_of_element h.scope t e) f (how.Reduce o) (a_number we y) (aimed u)))
  access_folds o h _ p _ e f wd we y s pc i (a_region_type k sp args r) (of_region _ _ _ _ q) is low runs index same single field fits lies may stands =
      let sl = slot (where_of params h) p in
      let room : sl < slots = omega (arith, fit _ _ stands.0.1.1.1.0) in
      let pt = type_of_element h.scope (region_type k sp args r) e in
      let place = field_place h.tree sp f in
      let a = past (steps_code (where_of params h) 0 (region_type k sp args r) sl (at_step e no_step)) pc in
      let there : (s1 : State) (j : Instance) → s1.names ≡ s.names → Agrees x params slots aside h s1 j → HasRegion j sl q =
      λ s1 j names g. region_there x params slots fit aside h s1 j p q (ap (λ ns. get_or ns p nothing) names ∙ is)
      (subst (λ ns. p < length ns) (sym names) low) room g in
      element_points _ (comes_said x _ (GoesOn h)) h 0 _ sl e q s pc (machine.Number y ∷ []) i _ (a_region_type k sp args r)
      (runs pc stands.0.1.0) index same (λ s1 j names more g. there s1 j names g) stands.0.1
      (λ n s1 j names b at_slot g.
      let lie = subst (IsInside x s1.store (region_type k sp args r)) (ap (λ ns. get_or ns p nothing) names ∙ is) (lies s1 j g) in
      field_folds o h pt f place n (kept_target (point_target n 1)) (sl ∷ []) q wd we y s1 a [] j fits
      (aims_first (machine_of j) sl n (region_with (number_at j.contents q.root) q.points) (lie.0.small n b) (ap region_in (there s1 j names g)) b)
      b refl (reached x params slots aside h s1 j q (region_type k sp args r) (a_region_type k sp args r) place n (mode.Reduce o) g lie may field b) g
      (subst (λ rs. Stands x.body a (op (instr.Reduce rs place o (width_of (field_kind h.tree sp place))) h.line)) single stands.1))

  -- ---- conversions

  -- a conversion where nothing else changes
  pub record ConvertedAt (h : Here) (from t : StaticType) (v : Value) (s : State) (pc : ℕ) (st : List MachineValue) (i : Instance) : Type 0 where
    pub value : Value
    pub gives_it : converted h from t [] v s ≡ gives value s
    pub leads : Leads x (valued pc st v i) (valued (past (converted_code (where_of params h) from t) pc) st value i)
    pub typed : IsOf t value

  pub converted_at : (h : Here) (from t : StaticType) (v : Value) (s : State) (pc : ℕ) (st : List MachineValue) (i : Instance) →
      Fills from t → IsOf from v → Stands x.body pc (converted_code (where_of params h) from t) →
      ConvertedAt h from t v s pc st i
  converted_at h _ _ _ s pc st i (fills_alike _ _ (two_integers W32 W32)) (of_integer _ z p) f = record {
    value = a_number W32 z;
    gives_it = ap (λ y. gives (a_number W32 y) s) (int_wrap_fits (std_width W32) z p);
    leads = leads_none x _;
    typed = of_integer W32 z p;
  }
  converted_at h _ _ _ s pc st i (fills_alike _ _ (two_integers W32 W64)) (of_integer _ z _) f = record {
    value = a_number W64 (wrapped W64 z);
    gives_it = refl;
    leads = leads_by x _ _ (instr.Wrap W64) h.line f refl;
    typed = of_integer W64 _ (SFits-int_wrap (std_width W64) z);
  }
  converted_at h _ _ _ s pc st i (fills_alike _ _ (two_integers W64 W32)) (of_integer _ z _) f = record {
    value = a_number W32 (wrapped W32 z);
    gives_it = refl;
    leads = leads_by x _ _ (instr.Wrap W32) h.line f refl;
    typed = of_integer W32 _ (SFits-int_wrap (std_width W32) z);
  }
  converted_at h _ _ _ s pc st i (fills_alike _ _ (two_integers W64 W64)) (of_integer _ z p) f = record {
    value = a_number W64 z;
    gives_it = ap (λ y. gives (a_number W64 y) s) (int_wrap_fits (std_width W64) z p);
    leads = leads_none x _;
    typed = of_integer W64 z p;
  }
  converted_at h _ _ _ s pc st i (fills_alike _ _ two_truths) (of_truth b) f = record {
    value = a_truth b;
    gives_it = refl;
    leads = leads_none x _;
    typed = of_truth b;
  }
  converted_at h _ _ _ s pc st i (fills_index _ j (number_integer w)) (of_integer _ z p) f = record {
    value = an_index z;
    gives_it = refl;
    leads = leads_none x _;
    typed = of_index j z (index_fits w z p);
  }
  converted_at h _ _ _ s pc st i (fills_index _ j (number_index k)) (of_index _ z p) f = record {
    value = an_index z;
    gives_it = refl;
    leads = leads_none x _;
    typed = of_index j z p;
  }
