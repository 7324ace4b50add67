-- Fields of what a name's pointer goes to, and a variable that begins as a name's pointer.
use Rattle.std.proofs.Common.{false, ◌≡◌, ℕ, suc, ◌<◌, List, [], ◌∷◌, Some, refl, sym, ap, ◌∙◌, subst, arith}
use Rattle.std.specs.Prelude.{get_or, length}
use Rattle.std.proofs.lemmas.Option.{slice_get-get_or}
use Rattle.lane_kernels.specs.declared.numbers.Mode.TheVariants as mode
use Rattle.lane_kernels.specs.declared.numbers.Op.{Op}
use Rattle.regent_tree.specs.Accesses.{aimed, aimed_through, read_field, space_in}
use Rattle.regent_tree.specs.Evaluation.{stepped, value}
use Rattle.regent_tree.specs.Execution.{Going, write_field, write_to}
use Rattle.regent_tree.specs.Running.{Here, Result, State, and_then, fails, given, gives}
use Rattle.regent_tree.specs.Scopes.{bound_to}
use Rattle.regent_tree.specs.StaticTypes.{field_place, field_term, space_at}
use Rattle.regent_tree.specs.Syntax.{Name, access_expr, field_step, no_step}
use Rattle.regent_tree.specs.Typing.{has_wild, reaches_of}
use Rattle.regent_tree.specs.Values.{Value, a_number, a_pointer, kept_number, a_region, regions_of}
use Rattle.regent_tree.specs.declared.statement.How.TheVariants as how
use Rattle.regent_tree.specs.declared.typing.StaticType.{StaticType}
use Rattle.regent_tree.specs.declared.typing.StaticType.TheVariants.{Pointer as pointer_type}
use Rattle.task_code.specs.declared.instr.Instr.TheVariants as instr
use Rattle.machine_terms.specs.Numbers.{load}
use Rattle.machine_terms.specs.declared.order.Instance.{Instance}
use Rattle.machine_terms.specs.declared.value.Value.{Value as MachineValue}
use Rattle.machine_terms.specs.declared.value.Value.TheVariants as machine
use Rattle.code_rules.specs.Assignments.{put_code, target_code}
use Rattle.code_rules.specs.Expressions.{expr_code, steps_code}
use Rattle.code_rules.specs.Instructions.{load_code}
use Rattle.code_rules.specs.Pieces.{op, past, ◌⨟◌}
use Rattle.code_rules.specs.Slots.{own_slot, slot, beside}
use Rattle.code_laws.specs.Pointers.{FieldKeeps, IsPointed, IsPointer, a_pointer_type}
use Rattle.code_laws.specs.Simple.{IsInteger, an_integer}
use Rattle.code_laws.specs.Standing.{Agrees, Aside, Comes, Does, IsOf, SlotsFit, Stands, blank, machine_value, nothing, of_integer, of_pointer, where_of, IsBeside}
use Rattle.code_laws.specs.Steps.{Leads, Setting, machine_of, on_step, placed}
use Rattle.code_laws.specs.Typed.{IsBehind, MayGo, MayReach}
use Rattle.code_laws.proofs.Going.{does_come}
use Rattle.code_laws.proofs.Good.{Gives, Good, valued}
use Rattle.code_laws.proofs.Pointing.{named_pointed}
use Rattle.code_laws.proofs.Runs.{comes_before, leads_by}
use Rattle.code_laws.proofs.Through.{pointer_folds, pointer_reads, pointer_writes, OwnThere, region_slot_there}
use Rattle.code_laws.proofs.Values.{load_value, named}
use Rattle.code_laws.proofs.Writes.{GoesOn, field_value}
use Rattle.code_laws.proofs.Besides.{beside_named}
use Rattle.memory_laws.specs.Places.{number_at}

module _ (x : Setting) (params slots : ℕ) (fit : SlotsFit x slots) {deep : ℕ} (aside : Aside deep) where
  -- a name's value is pushed
  pub loads : (h : Here) (p : ℕ) (v : Value) (s : State) (pc : ℕ) (st : List MachineValue) (i : Instance) →
      get_or s.names p nothing ≡ v → p < length s.names → Agrees x params slots aside h s i →
      Stands x.body pc (op (instr.Load (slot (where_of params h) p)) h.line) → Leads x (placed pc st i) (valued (suc pc) st v i)
  loads h p v s pc st i is low g f =
      let k = slot (where_of params h) p in
      let there : k < length i.frame.slots = omega (arith, fit pc _ f, g.slots_are) in
      leads_by x (placed pc st i) (valued (suc pc) st v i) (instr.Load k) h.line f
      (ap (λ o. on_step x (placed pc st i) (load (machine_of (placed pc st i)) o))
      (slice_get-get_or i.frame.slots k blank there ∙ ap (λ u. Some u) (g.names p low ∙ ap (machine_value i.contents) is))
      ∙ ap (on_step x (placed pc st i)) (load_value i.contents v (machine_of (placed pc st i))))

  pub then_given : (shape : Value → Instance → Instance) (P : Value → State → Instance → Type 0) (i : Instance) (r : Result Value) →
      Comes x i shape P r → Comes x i shape P (and_then r (λ v. given v))
  then_given shape P i (gives v s) c = c
  then_given shape P i (fails f s) c = c

  -- what stands beside a pointer is in its own slot
  own_there : (h : Here) (p : ℕ) (t : StaticType) (v : Value) (s : State) (i : Instance) →
      IsBeside (λ p. get_or i.frame.slots (beside (where_of params h) p) blank) i.contents params (length s.store) p t v →
      OwnThere x params slots fit aside i (beside (where_of params h) p) (reaches_of t) (regions_of v)
  own_there h p t v s i part r c into q to =
      region_slot_there i.frame.slots (beside (where_of params h) p) (machine_value i.contents (a_region q)) q (number_at i.contents q.root) refl
      (part q (record { partition = r; colour = c; into = into; regions = to })).1

  -- ---- reads

  through_reads : (h : Here) (d : ℕ) (t : StaticType) (p : ℕ) (v : Value) (f : Name) (out : StaticType) (s : State) (pc : ℕ)
      (st : List MachineValue) (i : Instance) → IsPointer t → has_wild (reaches_of t) ≡ false → IsOf t v → IsPointed h.scope.names s.names t v →
      IsBeside (λ p. get_or i.frame.slots (beside (where_of params h) p) blank) i.contents params (length s.store) p t v →
      get_or s.names p nothing ≡ v → p < length s.names →
      field_place h.tree (space_in t) f < length (space_at h.tree (space_in t)).fields →
      MayReach x.forms (where_of params h) (reaches_of t) (field_place h.tree (space_in t) f) mode.Read →
      FieldKeeps (field_term h.tree (space_in t) (field_place h.tree (space_in t) f)) out → Agrees x params slots aside h s i →
      Stands x.body pc (load_code (where_of params h) t (slot (where_of params h) p) (field_step f no_step)
      ⨟ steps_code (where_of params h) d t (own_slot (where_of params h) t p) (field_step f no_step)) →
      Gives x params slots fit aside h out
      (load_code (where_of params h) t (slot (where_of params h) p) (field_step f no_step)
      ⨟ steps_code (where_of params h) d t (own_slot (where_of params h) t p) (field_step f no_step)) pc st st i
      (stepped h t v (field_step f no_step) s)
  through_reads h d _ p _ f out s pc st i (a_pointer_type k sp args rs names) certain (of_pointer _ _ _ _ tg qs o) pointed part is low field may keeps g stands =
      let t = pointer_type k sp args rs in
      comes_before x (valued (suc (suc pc)) st) (Good x params slots fit aside h out) _ _ _
      (loads h p (a_pointer tg qs) s pc st i is low g stands.0)
      (then_given (valued (suc (suc pc)) st) (Good x params slots fit aside h out) _ (read_field h t f (aimed_through qs tg) s)
      (pointer_reads x params slots fit aside h k sp (own_slot (where_of params h) t p) args rs f tg qs out s (suc pc) st i names certain pointed
      (own_there h p (pointer_type k sp args rs) (a_pointer tg qs) s i part) o
      field may keeps g stands.1.0))

  -- `p.f`
  pub behind_reads : (h : Here) (d : ℕ) (n f : Name) (out : StaticType) (s : State) (pc : ℕ) (st : List MachineValue) (i : Instance) →
      IsBehind (where_of params h) n f out → MayGo x.forms (where_of params h) n f mode.Read → Agrees x params slots aside h s i →
      Stands x.body pc (expr_code (where_of params h) d (access_expr n (field_step f no_step))) →
      Gives x params slots fit aside h out (expr_code (where_of params h) d (access_expr n (field_step f no_step))) pc st st i
      (value h (access_expr n (field_step f no_step)) s)
  behind_reads h d n f out s pc st i b may g stands =
      let c = bound_to h.scope.names n in
      let m = named IsOf h.scope.names s.names n g.typed b.named in
      through_reads h d c.static_type c.place (get_or s.names c.place nothing) f out s pc st i b.pointer b.certain m.holding
      (named_pointed h.scope.next h.scope.names s.names n b.numbers g.pointed b.named)
      (beside_named (λ p. get_or i.frame.slots (beside (where_of params h) p) blank) i.contents params (length s.store) h.scope.names s.names n g.besides b.named) refl (omega (arith, m.below, g.count))
      b.field may b.keeps g stands

module _ (x : Setting) (params slots : ℕ) (fit : SlotsFit x slots) (aside : Aside 0) where
  -- ---- writes and reductions

  through_writes : (h : Here) (t : StaticType) (p : ℕ) (u : Value) (f : Name) (out : StaticType) (v : Value) (s : State) (pc : ℕ)
      (i : Instance) → IsPointer t → has_wild (reaches_of t) ≡ false → IsOf t u → IsPointed h.scope.names s.names t u →
      IsBeside (λ p. get_or i.frame.slots (beside (where_of params h) p) blank) i.contents params (length s.store) p t u → get_or s.names p nothing ≡ u →
      p < length s.names → field_place h.tree (space_in t) f < length (space_at h.tree (space_in t)).fields →
      MayReach x.forms (where_of params h) (reaches_of t) (field_place h.tree (space_in t) f) mode.Write →
      FieldKeeps (field_term h.tree (space_in t) (field_place h.tree (space_in t) f)) out → IsOf out v →
      Agrees x params slots aside h s i → Stands x.body pc (op (instr.Load (slot (where_of params h) p)) h.line) →
      Stands x.body (suc pc) (put_code (where_of params h) t (own_slot (where_of params h) t p) f how.Set) →
      Does x params slots aside (valued pc [] v i) (suc (suc pc)) h (write_field h t f how.Set v (aimed u) s)
  through_writes h _ p _ f out v s pc i (a_pointer_type k sp args rs names) certain (of_pointer _ _ _ _ tg qs o) pointed part is low field may keeps ov g at put =
      let t = pointer_type k sp args rs in
      let r = write_field h t f how.Set v (aimed_through qs tg) s in
      let shape : Going → Instance → Instance = λ c j. placed (suc (suc pc)) [] j in
      does_come x params slots fit aside (suc (suc pc)) h _ r
      (subst (λ y. Comes x (placed pc (y ∷ []) i) shape (GoesOn x params slots fit aside h) r)
      (sym (field_value i.contents (field_term h.tree sp (field_place h.tree sp f)) out v keeps ov))
      (comes_before x shape (GoesOn x params slots fit aside h) _ _ r
      (loads x params slots fit aside h p (a_pointer tg qs) s pc (machine.Number (kept_number v) ∷ []) i is low g at)
      (pointer_writes x params slots fit aside h k sp (own_slot (where_of params h) t p) args rs f tg qs out v s (suc pc) [] i names certain pointed
      (own_there x params slots fit aside h p (pointer_type k sp args rs) (a_pointer tg qs) s i part) o
      field may keeps ov g put)))

  -- `p.f = v`, with the value on the stack
  pub sets_behind : (h : Here) (n f : Name) (out : StaticType) (v : Value) (s : State) (pc : ℕ) (i : Instance) →
      IsBehind (where_of params h) n f out → MayGo x.forms (where_of params h) n f mode.Write → IsOf out v → Agrees x params slots aside h s i →
      Stands x.body pc (target_code (where_of params h) n (field_step f no_step) how.Set) →
      Does x params slots aside (valued pc [] v i) (past (target_code (where_of params h) n (field_step f no_step) how.Set) pc) h
      (write_to h n (field_step f no_step) how.Set v s)
  sets_behind h n f out v s pc i b may ov g stands =
      let c = bound_to h.scope.names n in
      let m = named IsOf h.scope.names s.names n g.typed b.named in
      through_writes h c.static_type c.place (get_or s.names c.place nothing) f out v s pc i b.pointer b.certain m.holding
      (named_pointed h.scope.next h.scope.names s.names n b.numbers g.pointed b.named)
      (beside_named (λ p. get_or i.frame.slots (beside (where_of params h) p) blank) i.contents params (length s.store) h.scope.names s.names n g.besides b.named) refl (omega (arith, m.below, g.count))
      b.field may b.keeps ov g stands.0.0 stands.1

  through_folds : (d : Op) (h : Here) (t : StaticType) (p : ℕ) (u : Value) (f : Name) (out from : StaticType) (v : Value) (s : State) (pc : ℕ)
      (i : Instance) → IsPointer t → has_wild (reaches_of t) ≡ false → IsOf t u → IsPointed h.scope.names s.names t u →
      IsBeside (λ p. get_or i.frame.slots (beside (where_of params h) p) blank) i.contents params (length s.store) p t u → get_or s.names p nothing ≡ u →
      p < length s.names → field_place h.tree (space_in t) f < length (space_at h.tree (space_in t)).fields →
      MayReach x.forms (where_of params h) (reaches_of t) (field_place h.tree (space_in t) f) (mode.Reduce d) →
      FieldKeeps (field_term h.tree (space_in t) (field_place h.tree (space_in t) f)) out → IsInteger out → IsInteger from → IsOf from v →
      Agrees x params slots aside h s i → Stands x.body pc (op (instr.Load (slot (where_of params h) p)) h.line) →
      Stands x.body (suc pc) (put_code (where_of params h) t (own_slot (where_of params h) t p) f (how.Reduce d)) →
      Does x params slots aside (valued pc [] v i) (suc (suc pc)) h (write_field h t f (how.Reduce d) v (aimed u) s)
  through_folds d h _ p _ f _ _ _ s pc i (a_pointer_type k sp args rs names) certain (of_pointer _ _ _ _ tg qs o) pointed part is low field may keeps
      (an_integer wd) (an_integer we) (of_integer _ y q) g at put =
      let t = pointer_type k sp args rs in
      let r = write_field h t f (how.Reduce d) (a_number we y) (aimed_through qs tg) s in
      let shape : Going → Instance → Instance = λ c j. placed (suc (suc pc)) [] j in
      does_come x params slots fit aside (suc (suc pc)) h _ r
      (comes_before x shape (GoesOn x params slots fit aside h) _ _ r
      (loads x params slots fit aside h p (a_pointer tg qs) s pc (machine.Number y ∷ []) i is low g at)
      (pointer_folds x params slots fit aside d h k sp (own_slot (where_of params h) t p) args rs f tg qs wd we y s (suc pc) [] i names certain pointed
      (own_there x params slots fit aside h p (pointer_type k sp args rs) (a_pointer tg qs) s i part) o
      field may keeps g put))

  -- `p.f o= v`
  pub folds_behind : (d : Op) (h : Here) (n f : Name) (out from : StaticType) (v : Value) (s : State) (pc : ℕ) (i : Instance) →
      IsBehind (where_of params h) n f out → MayGo x.forms (where_of params h) n f (mode.Reduce d) → IsInteger out → IsInteger from → IsOf from v → Agrees x params slots aside h s i →
      Stands x.body pc (target_code (where_of params h) n (field_step f no_step) (how.Reduce d)) →
      Does x params slots aside (valued pc [] v i) (past (target_code (where_of params h) n (field_step f no_step) (how.Reduce d)) pc) h
      (write_to h n (field_step f no_step) (how.Reduce d) v s)
  folds_behind d h n f out from v s pc i b may io ifrom ov g stands =
      let c = bound_to h.scope.names n in
      let m = named IsOf h.scope.names s.names n g.typed b.named in
      through_folds d h c.static_type c.place (get_or s.names c.place nothing) f out from v s pc i b.pointer b.certain m.holding
      (named_pointed h.scope.next h.scope.names s.names n b.numbers g.pointed b.named)
      (beside_named (λ p. get_or i.frame.slots (beside (where_of params h) p) blank) i.contents params (length s.store) h.scope.names s.names n g.besides b.named) refl (omega (arith, m.below, g.count))
      b.field may b.keeps io ifrom ov g stands.0.0 stands.1
