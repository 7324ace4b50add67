-- Reductions into variables.
use Rattle.std.proofs.Common.{◌≡◌, ℕ, suc, ◌+◌, ◌<◌, ◌≤◌, ℤ, pos, ◌+ℤ◌, ◌*ℤ◌, List, [], ◌∷◌, Bool, true, false, Some, refl, sym, ap, ◌∙◌, subst, arith}
use Rattle.std.specs.Prelude.{get_or, int_lt, length, slice_set}
use Rattle.std.specs.Int.{int_max, int_min}
use Rattle.std.proofs.Math.IntN.{+ℤ_comm, *ℤ_comm}
use Rattle.std.proofs.lemmas.Int.{SFits-int_wrap, clamps, int_wrap_fits, ints}
use Rattle.std.proofs.lemmas.List.{get_or-set_same, set-get_or}
use Rattle.std.proofs.lemmas.Option.{slice_get-get_or}
use Rattle.lane_kernels.specs.Numbers.{FitsWidth, applied, std_width, wrapped}
use Rattle.lane_kernels.specs.declared.numbers.Op.{Op}
use Rattle.lane_kernels.specs.declared.numbers.Op.TheVariants.{Greatest, Least, Product, Sum}
use Rattle.lane_kernels.specs.declared.numbers.Width.{Width}
use Rattle.regent_tree.specs.Execution.{goes_on, updated, with_regions_of, write_name}
use Rattle.regent_tree.specs.Lookup.{is_bound}
use Rattle.regent_tree.specs.Running.{Here, State, gives}
use Rattle.regent_tree.specs.Scopes.{bound_to}
use Rattle.regent_tree.specs.Syntax.{Name}
use Rattle.regent_tree.specs.Values.{Value, a_number, kept_truth}
use Rattle.regent_tree.specs.declared.statement.How.TheVariants as how
use Rattle.regent_tree.specs.declared.typing.StaticType.{StaticType}
use Rattle.regent_tree.specs.declared.typing.StaticType.TheVariants.{Integer as integer_type}
use Rattle.task_code.specs.declared.instr.Instr.{Instr}
use Rattle.task_code.specs.declared.instr.Instr.TheVariants as instr
use Rattle.machine_terms.specs.declared.order.Instance.{Instance}
use Rattle.machine_terms.specs.declared.value.Value.{Value as MachineValue}
use Rattle.machine_terms.specs.declared.value.Value.TheVariants as machine
use Rattle.machine_terms.specs.Numbers.{load}
use Rattle.code_rules.specs.Assignments.{fold_code, set_code}
use Rattle.code_rules.specs.Pieces.{op, over, past, ◌⨟◌}
use Rattle.code_rules.specs.Slots.{slot, slot_named, spare}
use Rattle.code_laws.specs.Simple.{IsInteger, an_integer, simple_integer}
use Rattle.code_laws.specs.Typed.{CountsDown}
use Rattle.code_laws.specs.Standing.{Agrees, Aside, Does, IsOf, SlotsFit, Stands, blank, machine_value, nothing, of_integer, where_of}
use Rattle.code_laws.specs.Steps.{Leads, Setting, machine_of, on_step, placed}
use Rattle.code_laws.proofs.Good.{valued}
use Rattle.code_laws.proofs.Runs.{leads_by, leads_twice}
use Rattle.code_laws.proofs.States.{aside_stored, changed, stored, stores}
use Rattle.code_laws.proofs.Pointing.{simple_no_region}
use Rattle.code_laws.proofs.Values.{jump_later, named, number_inside}
use Rattle.code_laws.proofs.Besides.{plain_alike}
use Rattle.code_laws.proofs.Pieced.{simple_uncut}
use Rattle.code_laws.specs.Taking.{MayChange}

-- ---- numbers

min_right : (w : Width) (z y : ℤ) → FitsWidth w y → int_lt y z ≡ true → wrapped w (int_min z y) ≡ y
min_right w z y p e =
    let same : int_min z y ≡ y = omega (arith, ints, clamps, e) in
    ap (wrapped w) same ∙ int_wrap_fits (std_width w) y p

min_left : (w : Width) (z y : ℤ) → FitsWidth w z → int_lt y z ≡ false → wrapped w (int_min z y) ≡ z
min_left w z y p e =
    let same : int_min z y ≡ z = omega (arith, ints, clamps, e) in
    ap (wrapped w) same ∙ int_wrap_fits (std_width w) z p

max_right : (w : Width) (z y : ℤ) → FitsWidth w y → int_lt z y ≡ true → wrapped w (int_max z y) ≡ y
max_right w z y p e =
    let same : int_max z y ≡ y = omega (arith, ints, clamps, e) in
    ap (wrapped w) same ∙ int_wrap_fits (std_width w) y p

max_left : (w : Width) (z y : ℤ) → FitsWidth w z → int_lt z y ≡ false → wrapped w (int_max z y) ≡ z
max_left w z y p e =
    let same : int_max z y ≡ z = omega (arith, ints, clamps, e) in
    ap (wrapped w) same ∙ int_wrap_fits (std_width w) z p

-- a name in scope that may be assigned
abbrev IsTarget : Setting → Here → Name → Type 0
IsTarget x h n = (is_bound h.scope.names n ≡ true) × MayChange x.forms.takes (bound_to h.scope.names n).by_loop

module _ (x : Setting) (params slots : ℕ) (fit : SlotsFit x slots) (counts : CountsDown) (aside : Aside 0) where
  -- a name's slot is pushed
  loads : (h : Here) (n : Name) (z : ℤ) (w : Width) (s : State) (pc line : ℕ) (st : List MachineValue) (i : Instance) →
      is_bound h.scope.names n ≡ true → get_or s.names (bound_to h.scope.names n).place nothing ≡ a_number w z →
      Agrees x params slots aside h s i → Stands x.body pc (op (instr.Load (slot_named (where_of params h) n)) line) →
      Leads x (placed pc st i) (placed (suc pc) (machine.Number z ∷ st) i)
  loads h n z w s pc line st i b is g f =
      let m = named IsOf h.scope.names s.names n g.typed b in
      let place = (bound_to h.scope.names n).place in
      let k = slot (where_of params h) place in
      let there : k < length i.frame.slots = omega (arith, fit pc _ f, g.slots_are) in
      let below : place < length s.names = omega (arith, m.below, g.count) in
      leads_by x (placed pc st i) _ (instr.Load k) line f
      (ap (λ o. on_step x (placed pc st i) (load (machine_of (placed pc st i)) o))
      (slice_get-get_or i.frame.slots k blank there ∙ ap Some (g.names place below ∙ ap (machine_value i.contents) is)))

  -- the number on the stack goes into the name's slot
  puts : (h : Here) (n : Name) (z : ℤ) (w : Width) (s : State) (pc line : ℕ) (i : Instance) →
      IsTarget x h n → (bound_to h.scope.names n).static_type ≡ integer_type w → FitsWidth w z →
      Agrees x params slots aside h s i → Stands x.body pc (op (instr.Store (slot_named (where_of params h) n)) line) →
      Does x params slots aside (placed pc (machine.Number z ∷ []) i) (suc pc) h
      (gives goes_on (record s { names = slice_set s.names (bound_to h.scope.names n).place (a_number w z) }))
  puts h n z w s pc line i b ty p g f =
      let k = slot_named (where_of params h) n in
      let room : k < slots = omega (arith, fit pc _ f) in (
        stored k (machine.Number z) i,
        stores x params slots fit k pc line (machine.Number z) [] i g.slots_are f,
        changed x params slots fit aside h s i n (a_number w z) b.0 b.1
            (simple_uncut (integer_type w) _ (simple_integer w)
            (subst (λ t. IsOf t (get_or s.names (bound_to h.scope.names n).place nothing)) ty (named IsOf h.scope.names s.names n g.typed b.0).holding)) room
            (subst (λ t. IsOf t (a_number w z)) (sym ty) (of_integer w z p))
            (number_inside x s.store _ w z (subst (λ t. IsOf t (a_number w z)) (sym ty) (of_integer w z p)))
            (simple_no_region (integer_type w) _ (simple_integer w)
            (subst (λ t. IsOf t (get_or s.names (bound_to h.scope.names n).place nothing)) ty (named IsOf h.scope.names s.names n g.typed b.0).holding))
            (λ bs names t q. tt) (λ t q goes. plain_alike t _ (a_number w z) q tt goes) g,
      )

  before : (pc : ℕ) (h : Here) (i j : Instance) (s : State) → Leads x i j →
      Does x params slots aside j pc h (gives goes_on s) → Does x params slots aside i pc h (gives goes_on s)
  before pc h i j s l d = (d.0, leads_twice x l d.1, d.2)

  -- the state after a reduction
  abbrev folded : Here → Name → Op → Width → ℤ → ℤ → State → State
  folded h n o w z y s = record s {
    names = slice_set s.names (bound_to h.scope.names n).place (a_number w (applied o w z (wrapped w y)));
  }

  abbrev Folds : Here → Name → Op → Width → ℤ → ℤ → State → ℕ → Instance → Type 0
  Folds h n o w z y s pc i = Does x params slots aside (placed pc (machine.Number y ∷ []) i)
      (past (fold_code (where_of params h) (slot_named (where_of params h) n) o w) pc) h
      (gives goes_on (folded h n o w z y s))

  wraps : (w : Width) (y : ℤ) (pc line : ℕ) (i : Instance) → Stands x.body pc (op (instr.Wrap w) line) →
      Leads x (placed pc (machine.Number y ∷ []) i) (placed (suc pc) (machine.Number (wrapped w y) ∷ []) i)
  wraps w y pc line i f = leads_by x _ _ (instr.Wrap w) line f refl

  -- sums and products
  computes : (o : Op) (k : Width → Instr) (h : Here) (n : Name) (w : Width) (z y r : ℤ) (s : State) (pc : ℕ) (i : Instance) →
      IsTarget x h n → (bound_to h.scope.names n).static_type ≡ integer_type w →
      get_or s.names (bound_to h.scope.names n).place nothing ≡ a_number w z → Agrees x params slots aside h s i →
      wrapped w r ≡ applied o w z (wrapped w y) →
      ((p : ℕ) → Stands x.body p (op (k w) h.line) →
      Leads x (placed p (machine.Number z ∷ machine.Number (wrapped w y) ∷ []) i) (placed (suc p) (machine.Number (wrapped w r) ∷ []) i)) →
      Stands x.body pc (op (instr.Wrap w) h.line ⨟ op (instr.Load (slot_named (where_of params h) n)) h.line
      ⨟ op (k w) h.line ⨟ op (instr.Store (slot_named (where_of params h) n)) h.line) →
      Does x params slots aside (placed pc (machine.Number y ∷ []) i) (suc (suc (suc (suc pc)))) h
      (gives goes_on (folded h n o w z y s))
  computes o k h n w z y r s pc i b ty is g same does f =
      subst (λ v. Does x params slots aside (placed pc (machine.Number y ∷ []) i) (suc (suc (suc (suc pc)))) h
      (gives goes_on (record s { names = slice_set s.names (bound_to h.scope.names n).place (a_number w v) }))) same
      (before (suc (suc (suc (suc pc)))) h _ _ _
      (leads_twice x (wraps w y pc h.line i f.0)
      (leads_twice x (loads h n z w s (suc pc) h.line (machine.Number (wrapped w y) ∷ []) i b.0 is g f.1.0)
      (does (suc (suc pc)) f.1.1.0)))
      (puts h n (wrapped w r) w s (suc (suc (suc pc))) h.line i b ty (SFits-int_wrap (std_width w) r) g f.1.1.1))

  -- ---- the least and the greatest

  -- a number is put aside
  put_aside : (h : Here) (u : ℤ) (s : State) (pc : ℕ) (i : Instance) → params ≤ length h.scope.names →
      Agrees x params slots aside h s i → Stands x.body pc (op (instr.Store (spare (where_of params h) 0)) h.line) →
      Leads x (placed pc (machine.Number u ∷ []) i) (placed (suc pc) [] (stored (spare (where_of params h) 0) (machine.Number u) i))
      × Agrees x params slots aside h s (stored (spare (where_of params h) 0) (machine.Number u) i)
  put_aside h u s pc i low g f =
      let w = where_of params h in
      let k = length h.scope.names in
      let same : slot w k + 2 ≡ spare w 0 = omega (arith) in (
        stores x params slots fit (spare w 0) pc h.line (machine.Number u) [] i g.slots_are f,
        subst (λ d. Agrees x params slots aside h s (stored d (machine.Number u) i)) same
            (aside_stored x params slots fit aside h s i k 2 (machine.Number u) low (omega (arith, g.inside, g.count))
            (omega (arith)) (omega (arith)) (omega (arith)) refl g),
      )

  -- and comes back
  takes_aside : (h : Here) (u : ℤ) (s : State) (pc : ℕ) (st : List MachineValue) (i : Instance) →
      Agrees x params slots aside h s (stored (spare (where_of params h) 0) (machine.Number u) i) →
      length i.frame.slots ≡ slots → Stands x.body pc (op (instr.Load (spare (where_of params h) 0)) h.line) →
      Leads x (placed pc st (stored (spare (where_of params h) 0) (machine.Number u) i))
      (placed (suc pc) (machine.Number u ∷ st) (stored (spare (where_of params h) 0) (machine.Number u) i))
  takes_aside h u s pc st i g long f =
      let k = spare (where_of params h) 0 in
      let j = stored k (machine.Number u) i in
      let there : k < length i.frame.slots = omega (arith, fit pc _ f, long) in
      let there2 : k < length j.frame.slots = omega (arith, fit pc _ f, g.slots_are) in
      leads_by x (placed pc st j) _ (instr.Load k) h.line f
      (ap (λ o. on_step x (placed pc st j) (load (machine_of (placed pc st j)) o))
      (slice_get-get_or j.frame.slots k blank there2 ∙ ap Some (get_or-set_same i.frame.slots k (machine.Number u) blank there)))

  -- a test that chooses between two numbers
  chooses : (h : Here) (n : Name) (w : Width) (z u r : ℤ) (test : Bool) (s : State) (pc : ℕ) (i : Instance) →
      IsTarget x h n → (bound_to h.scope.names n).static_type ≡ integer_type w →
      get_or s.names (bound_to h.scope.names n).place nothing ≡ a_number w z → FitsWidth w u →
      (test ≡ true → r ≡ u) → (test ≡ false → r ≡ z) → length i.frame.slots ≡ slots →
      Agrees x params slots aside h s (stored (spare (where_of params h) 0) (machine.Number u) i) →
      Stands x.body pc (over instr.JumpIfNot h.line
      (op (instr.Load (spare (where_of params h) 0)) h.line ⨟ op (instr.Store (slot_named (where_of params h) n)) h.line)) →
      Does x params slots aside (placed pc (machine.Number (kept_truth test) ∷ []) (stored (spare (where_of params h) 0) (machine.Number u) i))
      (suc (suc (suc pc))) h
      (gives goes_on (record s { names = slice_set s.names (bound_to h.scope.names n).place (a_number w r) }))
  chooses h n w z u r true s pc i b ty is p this that long g f =
      let j = stored (spare (where_of params h) 0) (machine.Number u) i in
      subst (λ k. Does x params slots aside (placed pc (machine.Number (pos 1) ∷ []) j) (suc (suc (suc pc))) h
      (gives goes_on (record s { names = slice_set s.names (bound_to h.scope.names n).place (a_number w k) }))) (sym (this refl))
      (before (suc (suc (suc pc))) h _ _ _
      (leads_twice x (leads_by x _ (placed (suc pc) [] j) (instr.JumpIfNot (suc (suc (suc pc)))) h.line f.0 refl)
      (takes_aside h u s (suc pc) [] i g long f.1.0))
      (puts h n u w s (suc (suc pc)) h.line j b ty p g f.1.1))
  chooses h n w z u r false s pc i b ty is p this that long g f =
      let j = stored (spare (where_of params h) 0) (machine.Number u) i in
      let place = (bound_to h.scope.names n).place in
      let kept : slice_set s.names place (a_number w r) ≡ s.names =
      ap (λ k. slice_set s.names place (a_number w k)) (that refl) ∙ ap (slice_set s.names place) (sym is)
      ∙ set-get_or s.names place nothing in
      subst (λ ns. Does x params slots aside (placed pc (machine.Number (pos 0) ∷ []) j) (suc (suc (suc pc))) h
      (gives goes_on (record s { names = ns }))) (sym kept) (
        j,
        leads_by x _ (placed (suc (suc (suc pc))) [] j) (instr.JumpIfNot (suc (suc (suc pc)))) h.line f.0
            (ap (on_step x (placed pc (machine.Number (pos 0) ∷ []) j))
            (jump_later x.body (suc (suc (suc pc))) [] (machine_of (placed pc (machine.Number (pos 0) ∷ []) j)) (omega (arith)))),
        g,
      )

  compares : (o : Op) (k : Instr) (test : Bool) (h : Here) (n : Name) (w : Width) (z y : ℤ) (s : State) (pc : ℕ) (i : Instance) →
      params ≤ length h.scope.names → IsTarget x h n →
      (bound_to h.scope.names n).static_type ≡ integer_type w → get_or s.names (bound_to h.scope.names n).place nothing ≡ a_number w z →
      (test ≡ true → applied o w z (wrapped w y) ≡ wrapped w y) → (test ≡ false → applied o w z (wrapped w y) ≡ z) →
      Agrees x params slots aside h s i →
      ((p : ℕ) (j : Instance) → Stands x.body p (op k h.line) →
      Leads x (placed p (machine.Number z ∷ machine.Number (wrapped w y) ∷ []) j) (placed (suc p) (machine.Number (kept_truth test) ∷ []) j)) →
      Stands x.body pc (op (instr.Wrap w) h.line ⨟ op (instr.Store (spare (where_of params h) 0)) h.line
      ⨟ op (instr.Load (spare (where_of params h) 0)) h.line ⨟ op (instr.Load (slot_named (where_of params h) n)) h.line
      ⨟ op k h.line ⨟ over instr.JumpIfNot h.line
      (op (instr.Load (spare (where_of params h) 0)) h.line ⨟ op (instr.Store (slot_named (where_of params h) n)) h.line)) →
      Does x params slots aside (placed pc (machine.Number y ∷ []) i)
      (suc (suc (suc (suc (suc (suc (suc (suc pc)))))))) h (gives goes_on (folded h n o w z y s))
  compares o k test h n w z y s pc i low b ty is this that g does f =
      let u = wrapped w y in
      let q = put_aside h u s (suc pc) i low g f.1.0 in
      let j = stored (spare (where_of params h) 0) (machine.Number u) i in
      let pc5 = suc (suc (suc (suc (suc pc)))) in
      before (suc (suc (suc pc5))) h _ _ _
      (leads_twice x (wraps w y pc h.line i f.0)
      (leads_twice x q.0
      (leads_twice x (takes_aside h u s (suc (suc pc)) [] i q.1 g.slots_are f.1.1.0)
      (leads_twice x (loads h n z w s (suc (suc (suc pc))) h.line (machine.Number u ∷ []) j b.0 is q.1 f.1.1.1.0)
      (does (suc (suc (suc (suc pc)))) j f.1.1.1.1.0)))))
      (chooses h n w z u (applied o w z u) test s pc5 i b ty is (SFits-int_wrap (std_width w) y) this that
      g.slots_are q.1 f.1.1.1.1.1)

  by_operator : (o : Op) (h : Here) (n : Name) (w : Width) (z y : ℤ) (s : State) (pc : ℕ) (i : Instance) →
      params ≤ length h.scope.names → IsTarget x h n → (bound_to h.scope.names n).static_type ≡ integer_type w →
      get_or s.names (bound_to h.scope.names n).place nothing ≡ a_number w z → FitsWidth w z → Agrees x params slots aside h s i →
      Stands x.body pc (fold_code (where_of params h) (slot_named (where_of params h) n) o w) → Folds h n o w z y s pc i
  by_operator Sum h n w z y s pc i low b ty is p g f = computes Sum instr.Add h n w z y (wrapped w y +ℤ z) s pc i b ty is g
      (ap (wrapped w) (+ℤ_comm (wrapped w y) z)) (λ p k. leads_by x _ _ (instr.Add w) h.line k refl) f
  by_operator Product h n w z y s pc i low b ty is p g f = computes Product instr.Mul h n w z y (wrapped w y *ℤ z) s pc i b ty is g
      (ap (wrapped w) (*ℤ_comm (wrapped w y) z)) (λ p k. leads_by x _ _ (instr.Mul w) h.line k refl) f
  by_operator Least h n w z y s pc i low b ty is p g f =
      compares Least instr.Lt (int_lt (wrapped w y) z) h n w z y s pc i low b ty is
      (min_right w z (wrapped w y) (SFits-int_wrap (std_width w) y)) (min_left w z (wrapped w y) p) g
      (λ p j k. leads_by x _ _ instr.Lt h.line k refl) f
  by_operator Greatest h n w z y s pc i low b ty is p g f =
      compares Greatest instr.Gt (int_lt z (wrapped w y)) h n w z y s pc i low b ty is
      (max_right w z (wrapped w y) (SFits-int_wrap (std_width w) y)) (max_left w z (wrapped w y) p) g
      (λ p j k. leads_by x _ _ instr.Gt h.line k refl) f

  -- by the types of the value and of the variable
  by_types : (o : Op) (h : Here) (n : Name) (t u : StaticType) (v old : Value) (s : State) (pc : ℕ) (i : Instance) →
      params ≤ length h.scope.names → IsTarget x h n → IsInteger t → IsInteger u → IsOf t v → IsOf u old →
      (bound_to h.scope.names n).static_type ≡ u → get_or s.names (bound_to h.scope.names n).place nothing ≡ old →
      Agrees x params slots aside h s i →
      Stands x.body pc (set_code (where_of params h) (slot_named (where_of params h) n) (how.Reduce o) u) →
      Does x params slots aside (valued pc [] v i)
      (past (set_code (where_of params h) (slot_named (where_of params h) n) (how.Reduce o) u) pc) h
      (gives goes_on (record s {
        names = slice_set s.names (bound_to h.scope.names n).place (updated (how.Reduce o) old (with_regions_of old v));
      }))
  by_types o h n _ _ _ _ s pc i low b (an_integer a) (an_integer w) (of_integer _ y _) (of_integer _ z p) ty is g f =
      by_operator o h n w z y s pc i low b ty is p g f

  -- `x o= e`
  pub folds : (h : Here) (n : Name) (o : Op) (t : StaticType) (v : Value) (s : State) (pc : ℕ) (i : Instance) →
      params ≤ length h.scope.names → IsInteger t → IsInteger (bound_to h.scope.names n).static_type → IsOf t v →
      IsTarget x h n → Agrees x params slots aside h s i →
      Stands x.body pc (set_code (where_of params h) (slot_named (where_of params h) n) (how.Reduce o) (bound_to h.scope.names n).static_type) →
      Does x params slots aside (valued pc [] v i)
      (past (set_code (where_of params h) (slot_named (where_of params h) n) (how.Reduce o) (bound_to h.scope.names n).static_type) pc) h
      (write_name h n (how.Reduce o) v s)
  folds h n o t v s pc i low ti ui o1 b g f =
      let m = named IsOf h.scope.names s.names n g.typed b.0 in
      by_types o h n t (bound_to h.scope.names n).static_type v (get_or s.names (bound_to h.scope.names n).place nothing) s pc i
      low b ti ui o1 m.holding refl refl g f
