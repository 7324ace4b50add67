-- Reading a field of a region's point.
use Rattle.std.proofs.Common.{◌≡◌, ℕ, suc, ◌+◌, ◌*◌, ◌^◌, ◌/◌, ◌<◌, ℤ, pos, negsuc, List, [], ◌∷◌, Bool, true, false, Some, refl, sym, ap, ◌∙◌, subst, arith}
use Rattle.std.specs.Prelude.{get_or, slice_get, length}
use Rattle.std.proofs.lemmas.Option.{slice_get-get_or}
use Rattle.std.proofs.lemmas.Int.{ints}
use Rattle.std.proofs.lemmas.Nat.{mod-mul-add, div-mul-add}
use Rattle.plain_values.specs.Points.{has}
use Rattle.lane_kernels.specs.declared.numbers.FieldKind.{FieldKind}
use Rattle.lane_kernels.specs.declared.numbers.Mode.TheVariants as mode
use Rattle.lane_kernels.specs.Numbers.{FitsWidth}
use Rattle.lane_kernels.specs.declared.numbers.Width.{Width}
use Rattle.lane_kernels.specs.declared.numbers.Width.TheVariants.{W32, W64}
use Rattle.regent_tree.specs.declared.outcome.FaultKind.TheVariants.{NullPointer, OutOfRegion}
use Rattle.regent_tree.specs.declared.typing.StaticType.{StaticType}
use Rattle.regent_tree.specs.declared.typing.StaticType.TheVariants.{Region as region_type}
use Rattle.regent_tree.specs.Accesses.{args_in, regions_reached, standing, take_element, read_field, aimed_in, space_in}
use Rattle.regent_tree.specs.Evaluation.{value, stepped}
use Rattle.regent_tree.specs.Laws.{Leaves, SameNames}
use Rattle.regent_tree.specs.Running.{State, Here, Run, Result, gives, fails, given, and_then, if_true, fault}
use Rattle.regent_tree.specs.StaticTypes.{field_kind, field_place, field_term, field_type, space_at}
use Rattle.regent_tree.specs.Store.{read_at}
use Rattle.regent_tree.specs.Syntax.{Name, Expression, no_step, field_step, at_step}
use Rattle.regent_tree.specs.Typing.{reaches_of, type_of_element}
use Rattle.regent_tree.specs.Values.{Value, a_number, a_pointer, a_region, Region, null_target, point_target, target_kept, kept_target, meant, number_of, target_of}
use Rattle.task_code.specs.declared.instr.Instr.TheVariants as instr
use Rattle.machine_terms.specs.declared.order.Contents.{Contents}
use Rattle.machine_terms.specs.declared.order.Ended.TheVariants.{Broke}
use Rattle.machine_terms.specs.declared.order.Instance.{Instance}
use Rattle.machine_terms.specs.declared.order.Resumed.TheVariants.{IsOver}
use Rattle.machine_terms.specs.declared.value.RegionValue.{RegionValue}
use Rattle.machine_terms.specs.declared.value.Value.{Value as MachineValue}
use Rattle.machine_terms.specs.declared.value.Value.TheVariants as machine
use Rattle.machine_terms.specs.Machine.{Machine, when, next, faults}
use Rattle.machine_terms.specs.Makes.{region_with}
use Rattle.machine_terms.specs.Pointers.{aims, aim, aim_in, aim_if, aim_through, region_in, element, point}
use Rattle.machine_terms.specs.Segments.{act}
use Rattle.code_rules.specs.Expressions.{expr_code, steps_code}
use Rattle.code_rules.specs.Instructions.{element_code, kept_code, load_code, slot_after, standing_code}
use Rattle.code_rules.specs.Pieces.{op, past, ◌⨟◌}
use Rattle.code_rules.specs.Slots.{own_slot, slot, slots_of, typed}
use Rattle.memory_laws.specs.Memory.{IsKept}
use Rattle.memory_laws.specs.Places.{number_at}
use Rattle.code_laws.specs.Steps.{Setting, machine_of, placed, on_step, Leads}
use Rattle.code_laws.specs.Standing.{Stands, machine_value, IsInside, IsOf, of_index, of_integer, of_truth, of_pointer, of_region, nothing, blank, Aside, SlotsFit, where_of, Agrees, Comes}
use Rattle.code_laws.specs.Taking.{MayDo}
use Rattle.value_laws.specs.Shapes.{IsKeptOf, IsPosition, regions_listed}
use Rattle.code_laws.specs.Pointers.{FieldKeeps, IsCounting, KeepsAs, counts_number, counts_pointer, keeps_index, keeps_plain, keeps_pointer}
use Rattle.code_laws.specs.Simple.{term_in, IsInteger, an_integer, number_index, number_integer, IsRegion, a_region_type, fits_32, fits_64, fits_truth}
use Rattle.code_laws.proofs.Good.{valued, Good, Gives}
use Rattle.code_laws.proofs.Reaching.{Reached, kept_here, reached, rewritten}
use Rattle.code_laws.proofs.Runs.{leads_by, ends_by, comes_before}
use Rattle.code_laws.proofs.Touching.{parted, reads}

-- ---- kept pointers

-- an integer of any width is an index
pub index_fits : (w : Width) (z : ℤ) → FitsWidth w z → FitsWidth W64 z
index_fits W32 z p = omega (arith, ints, p)
index_fits W64 z p = p

-- what a pointer is kept as means the pointer
pub kept_round : (n i : ℕ) → n < 2 ^ 32 → target_kept (kept_target (point_target n i)) ≡ point_target n i
kept_round n i l = ap (λ k. point_target k ((i * 2 ^ 32 + n) / 2 ^ 32)) (mod-mul-add i (2 ^ 32) n l)
    ∙ ap (point_target n) (div-mul-add i (2 ^ 32) n l)

-- such a pointer aims at the point of the region in the slot
pub aims_first : (m : Machine) (s n : ℕ) (r : RegionValue) → n < 2 ^ 32 →
    region_in (slice_get m.frame.slots s) ≡ Some r → has r.points n ≡ true →
    aim m (s ∷ []) (target_kept (kept_target (point_target n 1))) ≡ aims r.root.0 n
aims_first m s n r l there e = ap (aim m (s ∷ [])) (kept_round n 1 l)
    ∙ ap (λ o. aim_in o n) there ∙ ap (λ b. aim_if b r n) e

-- ---- the values of fields

meant_typed : (kind : FieldKind) (n : ℕ) (t : StaticType) (rs : List Region) (z : ℤ) → KeepsAs kind n t → IsKept kind z →
    IsPosition n (target_of (meant kind [] z)) → IsOf t (meant kind rs z)
meant_typed _ _ _ rs z (keeps_plain _ _ _ fits_32) k o = of_integer W32 z k.0
meant_typed _ _ _ rs z (keeps_plain _ _ _ fits_64) k o = of_integer W64 z k.0
meant_typed _ _ _ rs z (keeps_plain _ _ _ fits_truth) k o = of_truth _
meant_typed _ _ _ rs z (keeps_index n j) k o = of_index j z k.0
meant_typed _ _ _ rs z (keeps_pointer k sp args reaches names few) kept o = of_pointer k sp args reaches (target_kept z) rs o

meant_kept : (c : Contents) (kind : FieldKind) (n : ℕ) (t : StaticType) (rs : List Region) (z : ℤ) → KeepsAs kind n t → IsKept kind z →
    machine_value c (meant kind rs z) ≡ machine.Number z
meant_kept c _ _ _ rs z (keeps_plain _ _ _ fits_32) k = refl
meant_kept c _ _ _ rs z (keeps_plain _ _ _ fits_64) k = refl
meant_kept c _ _ _ rs z (keeps_plain _ _ _ fits_truth) k = ap (λ z. machine.Number z) k.1
meant_kept c _ _ _ rs z (keeps_index n j) k = refl
meant_kept c _ _ _ rs z (keeps_pointer k sp args reaches names few) kept = ap (λ z. machine.Number z) kept.1

-- what an expression leaves of a state is known where the run goes on
pub then_kept : (x : Setting) {A B : Type 0} (R : State → State → Type 0) (shape2 : B → Instance → Instance)
    (Good2 : B → State → Instance → Type 0) (shape : A → Instance → Instance)
    (Good1 : A → State → Instance → Type 0) (i : Instance) (s : State) (r : Result A) (k : A → Run B) →
    Leaves R s r → Comes x i shape Good1 r →
    ((a : A) (t : State) (j : Instance) → R s t → Good1 a t j → Comes x (shape a j) shape2 Good2 (k a t)) →
    Comes x i shape2 Good2 (and_then r k)
then_kept x R shape2 Good2 shape Good1 i s (gives a t) k kept c more =
    comes_before x shape2 Good2 i (shape a c.0) (k a t) c.1 (more a t c.0 kept c.2)
then_kept x R shape2 Good2 shape Good1 i s (fails f t) k kept c more = c

-- the region in a slot
abbrev pub HasRegion : Instance → ℕ → Region → Type 0
HasRegion i sl q = slice_get i.frame.slots sl ≡ Some (machine.Region (region_with (number_at i.contents q.root) q.points))

module _ (x : Setting) (params slots : ℕ) (fit : SlotsFit x slots) {deep : ℕ} (aside : Aside deep) where
  -- The field of a point at which a kept number aims.
  pub field_reads : (h : Here) (t : StaticType) (f : Name) (place n : ℕ) (z : ℤ) (rs : List ℕ) (q : Region) (out : StaticType)
      (s : State) (pc : ℕ) (st : List MachineValue) (i : Instance) →
      FieldKeeps (field_term h.tree (space_in t) (field_place h.tree (space_in t) f)) out →
      aim_through i.frame.slots rs (target_kept z) ≡ aims (number_at i.contents q.root) n →
      has q.points n ≡ true → place ≡ field_place h.tree (space_in t) f →
      Reached x h.tree i s.store q (space_in t) (field_place h.tree (space_in t) f) n mode.Read →
      Agrees x params slots aside h s i → Stands x.body pc (op (instr.Read rs place) h.line) →
      Gives x params slots fit aside h out (op (instr.Read rs place) h.line) pc
      (machine.Number z ∷ st) st i
      (read_field h t f (aimed_in (has q.points n) q n) s)
  field_reads h t f place n z rs q out s pc st i fits to e same r g stands =
      let p = field_place h.tree (space_in t) f in
      let kind = field_kind h.tree (space_in t) p in
      let d = reads x i pc h.line q.root p n z st rs s.store g.memory r.covers
      (subst (λ k. Stands x.body pc (op (instr.Read rs k) h.line)) same stands) to in
      let y = read_at s.store q.root p n in
      let declared = field_term h.tree (space_in t) p in
      let regions = regions_reached h.scope s.names (reaches_of (field_type h.tree (space_in t) (args_in t) f)) in
      let is : IsKeptOf declared y = subst (λ n. IsKeptOf (field_term h.tree n p) y) r.of_space (kept_here x params slots aside h s i g q.root p n) in
      let sound : IsKept kind y = (is.fits, is.same) in
      subst (λ b. Gives x params slots fit aside h out (op (instr.Read rs place) h.line) pc
      (machine.Number z ∷ st) st i (read_field h t f (aimed_in b q n) s)) (sym e) (
        parted d.0 i,
        subst (λ v. Leads x (placed pc (machine.Number z ∷ st) i) (placed (suc pc) (v ∷ st) (parted d.0 i)))
            (sym (meant_kept i.contents kind (regions_listed declared) out regions y fits sound)) d.1,
        (meant_typed kind (regions_listed declared) out regions y fits sound is.position, rewritten x params slots aside h s i d.0 _ s.store refl (kept_here x params slots aside h s i g) g d.2),
      )

  -- what is to be shown where the index was evaluated
  abbrev ReadsElement : Here → ℕ → ℕ → Expression → Name → Region → StaticType → List MachineValue →
      StaticType → StaticType → Value → State → Instance → Type 0
  ReadsElement h d sl e f q out st t ty u s1 j =
      HasRegion j sl q × IsInside x s1.store t (a_region q) →
      MayDo x.forms.takes (term_in t) (field_place h.tree (space_in t) f) mode.Read →
      slots_of (where_of params h) sl (type_of_element h.scope t e) ≡ sl ∷ [] →
      field_place h.tree (space_in t) f < length (space_at h.tree (space_in t)).fields →
      FieldKeeps (field_term h.tree (space_in t) (field_place h.tree (space_in t) f)) out →
      Agrees x params slots aside h s1 j → (a : ℕ) →
      Stands x.body a (standing_code (where_of params h) ty ⨟ element_code (where_of params h) t sl
      ⨟ kept_code (where_of params h) d t (field_step f no_step)
      ⨟ steps_code (where_of params h) (suc d) (type_of_element h.scope t e) (slot_after (where_of params h) d t sl) (field_step f no_step)) →
      Comes x (valued a st u j)
      (valued (past (standing_code (where_of params h) ty ⨟ element_code (where_of params h) t sl
      ⨟ kept_code (where_of params h) d t (field_step f no_step)
      ⨟ steps_code (where_of params h) (suc d) (type_of_element h.scope t e) (slot_after (where_of params h) d t sl) (field_step f no_step)) a) st)
      (Good x params slots fit aside h out)
      (and_then (standing h u s1) (λ z. λ s2. and_then (take_element h (number_of z) (a_region q) s2)
      (λ v. stepped h (type_of_element h.scope t e) v (field_step f no_step))))

  -- `r[e].f`, where the index runs, and the region stands in a slot still
  pub element_reads : (h : Here) (d : ℕ) (t : StaticType) (sl : ℕ) (e : Expression) (f : Name) (q : Region)
      (out : StaticType) (s : State) (pc : ℕ) (st : List MachineValue) (i : Instance) → IsRegion t →
      Gives x params slots fit aside h (typed (where_of params h) e) (expr_code (where_of params h) d e) pc st st i (value h e s) →
      IsCounting (typed (where_of params h) e) → Leaves SameNames s (value h e s) →
      ((s1 : State) (j : Instance) → s1.names ≡ s.names → Agrees x params slots aside h s1 j →
      HasRegion j sl q × IsInside x s1.store t (a_region q)) →
      MayDo x.forms.takes (term_in t) (field_place h.tree (space_in t) f) mode.Read →
      slots_of (where_of params h) sl (type_of_element h.scope t e) ≡ sl ∷ [] →
      field_place h.tree (space_in t) f < length (space_at h.tree (space_in t)).fields →
      FieldKeeps (field_term h.tree (space_in t) (field_place h.tree (space_in t) f)) out →
      Stands x.body pc (steps_code (where_of params h) d t sl (at_step e (field_step f no_step))) →
      Gives x params slots fit aside h out (steps_code (where_of params h) d t sl (at_step e (field_step f no_step))) pc st st i
      (stepped h t (a_region q) (at_step e (field_step f no_step)) s)
  element_reads h d t sl e f q out s pc st i region runs index same there may one field fits stands =
      then_kept x SameNames _ _ _ _ _ s (value h e s) _ same runs
      (λ u s1 j names k. by_index t region (typed (where_of params h) e) index u k.0 s1 j (there s1 j names k.1) may one field fits k.1
      (past (expr_code (where_of params h) d e) pc) stands.1)
    where
      by_integer : (t : StaticType) → IsRegion t → (ty : StaticType) → IsInteger ty → (u : Value) → IsOf ty u →
          (s1 : State) (j : Instance) → ReadsElement h d sl e f q out st t ty u s1 j
      by_integer _ (a_region_type k sp args r) _ (an_integer w) _ (of_integer _ (negsuc n) _) s1 j there may one field fits g a stands =
          ends_by x _ _ (instr.At sl) h.line stands.1.0
          (ap (λ o. on_step x (placed a (machine.Number (negsuc n) ∷ st) j) (element (region_in o) (negsuc n) h.line st (machine_of (placed a (machine.Number (negsuc n) ∷ st) j)))) there.0
          ∙ ap (λ t. IsOver (Broke (Some (record { kind = OutOfRegion; line = h.line })) t)) g.text)
      by_integer _ (a_region_type k sp args r) _ (an_integer w) _ (of_integer _ (pos n) _) s1 j there may one field fits g a stands =
          by_has (has q.points n) refl
        where
          at_acts : (b : Bool) → has q.points n ≡ b →
              on_step x (placed a (machine.Number (pos n) ∷ st) j) (act x.code x.body (instr.At sl) h.line (machine_of (placed a (machine.Number (pos n) ∷ st) j)))
              ≡ on_step x (placed a (machine.Number (pos n) ∷ st) j) (when b
              (next (machine.Number (kept_target (point_target n 1)) ∷ st) (machine_of (placed a (machine.Number (pos n) ∷ st) j)))
              (faults OutOfRegion h.line (machine_of (placed a (machine.Number (pos n) ∷ st) j))))
          at_acts b e =
              ap (λ o. on_step x (placed a (machine.Number (pos n) ∷ st) j) (element (region_in o) (pos n) h.line st (machine_of (placed a (machine.Number (pos n) ∷ st) j)))) there.0
              ∙ ap (λ b. on_step x (placed a (machine.Number (pos n) ∷ st) j) (when b
              (next (machine.Number (kept_target (point_target n 1)) ∷ st) (machine_of (placed a (machine.Number (pos n) ∷ st) j)))
              (faults OutOfRegion h.line (machine_of (placed a (machine.Number (pos n) ∷ st) j))))) e

          by_has : (b : Bool) → has q.points n ≡ b →
              Comes x (placed a (machine.Number (pos n) ∷ st) j) (valued (suc (suc a)) st) (Good x params slots fit aside h out)
              (and_then (if_true b (given (a_pointer (point_target n 1) (q ∷ []))) (fault h OutOfRegion) s1)
              (λ v. stepped h (type_of_element h.scope (region_type k sp args r) e) v (field_step f no_step)))
          by_has false c = ends_by x _ _ (instr.At sl) h.line stands.1.0
              (at_acts false c ∙ ap (λ t. IsOver (Broke (Some (record { kind = OutOfRegion; line = h.line })) t)) g.text)
          by_has true c =
              let pt = type_of_element h.scope (region_type k sp args r) e in
              let place = field_place h.tree (space_in pt) f in
              comes_before x (valued (suc (suc a)) st) (Good x params slots fit aside h out) _ _ _
              (leads_by x _ (placed (suc a) (machine.Number (kept_target (point_target n 1)) ∷ st) j) (instr.At sl) h.line stands.1.0 (at_acts true c))
              (given_on (read_field h pt f (aimed_in (has q.points n) q n) s1)
              (field_reads h pt f place n (kept_target (point_target n 1)) (sl ∷ []) q out s1 (suc a) st j fits
              (aims_first (machine_of j) sl n (region_with (number_at j.contents q.root) q.points) (there.1.0.small n c) (ap region_in there.0) c)
              c refl (reached x params slots aside h s1 j q (region_type k sp args r) (a_region_type k sp args r) place n mode.Read g there.1 may field c) g
              (subst (λ rs. Stands x.body (suc a) (op (instr.Read rs place) h.line)) one stands.1.1.1.0)))
            where
              given_on : (r : Result Value) →
                  Comes x (placed (suc a) (machine.Number (kept_target (point_target n 1)) ∷ st) j) (valued (suc (suc a)) st) (Good x params slots fit aside h out) r →
                  Comes x (placed (suc a) (machine.Number (kept_target (point_target n 1)) ∷ st) j) (valued (suc (suc a)) st) (Good x params slots fit aside h out)
                  (and_then r (λ v. given v))
              given_on (gives v s2) c = c
              given_on (fails f s2) c = c

      by_index : (t : StaticType) → IsRegion t → (ty : StaticType) → IsCounting ty → (u : Value) → IsOf ty u →
          (s1 : State) (j : Instance) → ReadsElement h d sl e f q out st t ty u s1 j
      by_index t region _ (counts_number _ (number_index k)) _ (of_index _ z p) s1 j there may one field fits g a stands =
          by_integer t region _ (an_integer W64) (a_number W64 z) (of_integer W64 z p) s1 j there may one field fits g a stands
      by_index t region _ (counts_number _ (number_integer w)) u o s1 j there may one field fits g a stands = by_integer t region _ (an_integer w) u o s1 j there may one field fits g a stands
      by_index t region _ (counts_pointer k sp args rs) _ (of_pointer _ _ _ _ null_target _ o) s1 j there may one field fits g a stands =
          ends_by x _ _ instr.Point h.line stands.0
          (ap (λ t. IsOver (Broke (Some (record { kind = NullPointer; line = h.line })) t)) g.text)
      by_index t region _ (counts_pointer k sp args rs) _ (of_pointer _ _ _ _ (point_target n m) _ o) s1 j there may one field fits g a stands =
          comes_before x _ (Good x params slots fit aside h out) _ (placed (suc a) (machine.Number (pos n) ∷ st) j) _
          (leads_by x _ _ instr.Point h.line stands.0
          (ap (λ t. on_step x (placed a (machine.Number (kept_target (point_target n m)) ∷ st) j)
          (point t h.line st (machine_of (placed a (machine.Number (kept_target (point_target n m)) ∷ st) j)))) (kept_round n m o.0)))
          (by_integer t region _ (an_integer W64) (a_number W64 (pos n)) (of_integer W64 (pos n) (omega (arith, ints, o.0)))
          s1 j there may one field fits g (suc a) (tt, stands.1))

  -- the region that a name has, where its slot is there
  pub region_there : (h : Here) (s1 : State) (j : Instance) (p : ℕ) (q : Region) →
      get_or s1.names p nothing ≡ a_region q → p < length s1.names → slot (where_of params h) p < slots →
      Agrees x params slots aside h s1 j → HasRegion j (slot (where_of params h) p) q
  region_there h s1 j p q is low room g =
      slice_get-get_or j.frame.slots (slot (where_of params h) p) blank (omega (arith, room, g.slots_are))
      ∙ ap (λ v. Some v) (g.names p low ∙ ap (machine_value j.contents) is)

  -- `r[e].f` of a name that has a region
  pub access_reads : (h : Here) (d : ℕ) (t : StaticType) (p : ℕ) (v : Value) (e : Expression) (f : Name) (out : StaticType)
      (s : State) (pc : ℕ) (st : List MachineValue) (i : Instance) → IsRegion t → IsOf t v →
      get_or s.names p nothing ≡ v → p < length s.names →
      ((pc : ℕ) → Stands x.body pc (expr_code (where_of params h) d e) →
      Gives x params slots fit aside h (typed (where_of params h) e) (expr_code (where_of params h) d e) pc st st i (value h e s)) →
      IsCounting (typed (where_of params h) e) → Leaves SameNames s (value h e s) →
      slots_of (where_of params h) (slot (where_of params h) p) (type_of_element h.scope t e) ≡ slot (where_of params h) p ∷ [] →
      field_place h.tree (space_in t) f < length (space_at h.tree (space_in t)).fields →
      FieldKeeps (field_term h.tree (space_in t) (field_place h.tree (space_in t) f)) out →
      ((s1 : State) (j : Instance) → Agrees x params slots aside h s1 j → IsInside x s1.store t (get_or s1.names p nothing)) →
      MayDo x.forms.takes (term_in t) (field_place h.tree (space_in t) f) mode.Read →
      Stands x.body pc (load_code (where_of params h) t (slot (where_of params h) p) (at_step e (field_step f no_step))
      ⨟ steps_code (where_of params h) d t (own_slot (where_of params h) t p) (at_step e (field_step f no_step))) →
      Gives x params slots fit aside h out
      (load_code (where_of params h) t (slot (where_of params h) p) (at_step e (field_step f no_step))
      ⨟ steps_code (where_of params h) d t (own_slot (where_of params h) t p) (at_step e (field_step f no_step))) pc st st i
      (stepped h t v (at_step e (field_step f no_step)) s)
  access_reads h d _ p _ e f out s pc st i (a_region_type k sp args r) (of_region _ _ _ _ q) is low runs index same single field fits lies may stands =
      let sl = slot (where_of params h) p in
      let room : sl < slots = omega (arith, fit _ _ stands.1.1.1.0) in
      element_reads h d _ sl e f q out s pc st i (a_region_type k sp args r) (runs pc stands.1.0) index same
      (λ s1 j names g. (
        region_there h s1 j p q (ap (λ ns. get_or ns p nothing) names ∙ is) (subst (λ ns. p < length ns) (sym names) low) room g,
        subst (IsInside x s1.store (region_type k sp args r)) (ap (λ ns. get_or ns p nothing) names ∙ is) (lies s1 j g),
      )) may single field fits stands.1
