-- New variables, new roots, and fills.
use Rattle.code_laws.proofs.States.{ready_value}
use Rattle.regent_tree.specs.StaticTypes.{Reach, place_of_space}
use Rattle.regent_tree.specs.declared.facts.Term.{Term}
use Rattle.regent_tree.specs.declared.types.Kind.{Kind}
use Rattle.regent_tree.specs.declared.types.SpaceUse.{SpaceUse}
use Rattle.machine_terms.specs.Makes.{make_root as make_instance}
use Rattle.code_laws.proofs.Making.{made_agrees, makes_root, new_inside}
use Rattle.regent_tree.specs.Store.{Store}
use Rattle.regent_tree.specs.Lookup.{is_bound}
use Rattle.code_laws.proofs.Writes.{GoesOn}
use Rattle.code_laws.proofs.Filling.{fields_filled}
use Rattle.code_laws.proofs.Going.{does_come}
use Rattle.regent_tree.specs.Initializers.{make_root, zero_of}
use Rattle.std.proofs.lemmas.Int.{ints}
use Rattle.lane_kernels.specs.declared.numbers.Width.TheVariants.{W32, W64}
use Rattle.lane_kernels.specs.Numbers.{FitsWidth}
use Rattle.regent_tree.specs.declared.types.TypeTerm.{TypeTerm}
use Rattle.code_laws.proofs.Rows.{does_before, same_scope}
use Rattle.std.proofs.Common.{◌≡◌, ℕ, suc, ◌+◌, ◌^◌, ◌<◌, ◌≤◌, List, true, pos, [], false, refl, sym, subst, arith, Option}
use Rattle.std.specs.Prelude.{get_or, length}
use Rattle.std.proofs.lemmas.List.{get_or-set_same}
use Rattle.lane_kernels.specs.declared.numbers.Width.{Width}
use Rattle.regent_tree.specs.declared.typing.StaticType.{StaticType}
use Rattle.regent_tree.specs.declared.typing.StaticType.TheVariants.{Index as index_type, Integer as integer_type, Region as region_type, Truth as truth_type}
use Rattle.regent_tree.specs.Scopes.{bound_to, with_name}
use Rattle.regent_tree.specs.Syntax.{Name, var_form, Initializer}
use Rattle.regent_tree.specs.Typing.{var_type}
use Rattle.regent_tree.specs.Values.{Region, Value, a_number, a_region, a_truth, an_index, region_of, size_of}
use Rattle.regent_tree.specs.Running.{State, Here, and_then, gives}
use Rattle.regent_tree.specs.Evaluation.{named_value}
use Rattle.regent_tree.specs.Execution.{fill_fields, bind, after_statement}
use Rattle.task_code.specs.declared.instr.Instr.TheVariants as instr
use Rattle.machine_terms.specs.declared.order.Instance.{Instance}
use Rattle.code_rules.specs.Pieces.{op, past}
use Rattle.code_rules.specs.Slots.{slot, slot_named, spare, beside}
use Rattle.code_rules.specs.Initializers.{new_place, zero_kept}
use Rattle.code_rules.specs.Assignments.{fill_code}
use Rattle.code_laws.specs.Steps.{Setting, placed}
use Rattle.code_laws.specs.Standing.{Stands, machine_value, Comes, IsInside, IsOf, IsUnder, nothing, of_index, of_integer, of_region, of_space, of_truth, blank, Aside, where_of, Agrees, SlotsFit, Does, GoesToPart}
use Rattle.code_laws.specs.Simple.{IsRegion, IsSpace, a_region_type, a_space_type, scalar_integer, scalar_truth}
use Rattle.code_laws.specs.Pointers.{HasZero, IsPointed, zero_index, zero_scalar}
use Rattle.code_laws.specs.Taking.{IsFresh}
use Rattle.code_laws.specs.Typed.{AreFilled, CountsDown, IsMakable, MayFill}
use Rattle.code_laws.proofs.Reaching.{a_region_there}
use Rattle.code_laws.proofs.Values.{named}
use Rattle.code_laws.proofs.Good.{valued, Gives, pushes}
use Rattle.code_laws.proofs.States.{stored, stores, bound_more, aside_stored}

-- 0 fits
pub zero_fits : (w : Width) → FitsWidth w (pos 0)
zero_fits W32 = omega (arith, ints)
zero_fits W64 = omega (arith, ints)

region_lies : (x : Setting) (store : Store) (t : StaticType) (v : Value) → IsRegion t → (q : Region) → v ≡ a_region q →
    IsInside x store t v → IsInside x store t (a_region q)
region_lies x store _ v (a_region_type k sp args r) q e l = subst (IsInside x store (region_type k sp args r)) e l

module _ (x : Setting) (params slots : ℕ) (fit : SlotsFit x slots) (counts : CountsDown) where
  -- ---- variables

  -- a new variable has the value that stands on the stack
  pub binds : (aside : Aside 0) (h : Here) (n : Name) (t : Option TypeTerm) (start : Option Initializer) (v : Value) (s : State)
      (pc : ℕ) (i : Instance) → params ≤ length h.scope.names → IsOf (var_type h.tree h.scope t start) v →
      IsInside x s.store (var_type h.tree h.scope t start) v → IsPointed h.scope.names s.names (var_type h.tree h.scope t start) v →
      IsUnder x.forms.takes h.scope.names s.names (var_type h.tree h.scope t start) v →
      ((q : Region) → GoesToPart (var_type h.tree h.scope t start) v q → (get_or i.frame.slots (beside (where_of params h) (length h.scope.names)) blank
      ≡ machine_value i.contents (a_region q)) × (q.root < length s.store)) →
      Agrees x params slots aside h s i → Stands x.body pc (op (instr.Store (slot (where_of params h) (new_place (where_of params h)))) h.line) →
      Does x params slots aside (valued pc [] v i) (suc pc) (after_statement h (var_form n t start)) (bind v s)
  binds aside h n t start v s pc i low ty inside pointed under part g f =
      let w = where_of params h in
      let k = slot w (new_place w) in
      let u = var_type h.tree h.scope t start in
      let room : k < slots = omega (arith, fit pc _ f) in (
        stored k (machine_value i.contents v) i,
        stores x params slots fit k pc h.line (machine_value i.contents v) [] i g.slots_are f,
        same_scope x params slots aside (record h { scope = with_name h.scope n u false }) _ _ _ (refl, refl)
            (bound_more x params slots fit aside h s i n u false v low room ty inside pointed under part g),
      )

  -- 0 or false
  pub zero_runs : (aside : Aside 0) (h : Here) (t : StaticType) (s : State) (pc : ℕ) (i : Instance) → HasZero t →
      Agrees x params slots aside h s i → Stands x.body pc (op (instr.Num (zero_kept t)) h.line) →
      Gives x params slots fit aside h t (op (instr.Num (zero_kept t)) h.line) pc [] [] i (gives (zero_of h.scope s.names t) s)
  zero_runs aside h _ s pc i (zero_scalar _ (scalar_integer w)) g f =
      pushes x params slots fit aside h (integer_type w) (a_number w (pos 0)) s pc [] [] i (instr.Num (pos 0)) h.line f
      (of_integer w (pos 0) (zero_fits w)) g refl
  zero_runs aside h _ s pc i (zero_scalar _ scalar_truth) g f =
      pushes x params slots fit aside h truth_type (a_truth false) s pc [] [] i (instr.Num (pos 0)) h.line f (of_truth false) g refl
  zero_runs aside h _ s pc i (zero_index k) g f =
      pushes x params slots fit aside h (index_type k) (an_index (pos 0)) s pc [] [] i (instr.Num (pos 0)) h.line f
      (of_index k (pos 0) (zero_fits W64)) g refl

  -- a value that may be a region
  abbrev pub GoodInside : Aside 0 → Here → StaticType → Value → State → Instance → Type 0
  GoodInside aside h t v s j = IsOf t v × IsInside x s.store t v × Agrees x params slots aside h s j

  -- a root of an index space's size
  pub region_runs : (aside : Aside 0) (h : Here) (from : StaticType) (v : Value) (u : SpaceUse) (s : State) (pc : ℕ) (i : Instance)
      (k : Kind) (args : List Reach) (r : Term) → x.forms.makes ≡ true → IsSpace from →
      IsMakable h.tree (place_of_space h.tree u.name) → IsFresh x.forms.takes r → IsOf from v → Agrees x params slots aside h s i →
      Stands x.body pc (op (instr.NewRoot (place_of_space h.tree u.name)) h.line) → suc pc < 2 ^ 32 →
      Comes x (valued pc [] v i) (valued (suc pc) []) (GoodInside aside h (region_type k (place_of_space h.tree u.name) args r))
      (make_root h u (size_of v) s)
  region_runs aside h _ _ u s pc i k args r makes (a_space_type kind) can fresh (of_space _ size small) g f near =
      let sp = place_of_space h.tree u.name in (
        make_instance x.code size sp i,
        makes_root x params slots aside h s i sp size pc h.line near can g f,
        (of_region k sp args r _, new_inside x params slots aside h s i sp size k args r fresh small g, made_agrees x params slots aside h s i sp size makes can small g),
      )

  -- the value is put aside, and the fields are filled with it
  pub fill_runs : (aside : Aside 0) (h : Here) (r : Name) (fs : List Name) (from : StaticType) (v : Value) (s : State) (pc : ℕ) (i : Instance) →
      params ≤ length h.scope.names → is_bound h.scope.names r ≡ true → IsRegion (bound_to h.scope.names r).static_type →
      AreFilled x.forms.keeps (where_of params h) r from fs → MayFill x.forms (where_of params h) r fs → IsOf from v → Agrees x params slots aside h s i →
      Stands x.body pc (op (instr.Store (spare (where_of params h) 0)) h.line) →
      Stands x.body (suc pc) (fill_code (where_of params h) from (bound_to h.scope.names r).static_type (slot_named (where_of params h) r) fs) →
      Does x params slots aside (valued pc [] v i)
      (past (fill_code (where_of params h) from (bound_to h.scope.names r).static_type (slot_named (where_of params h) r) fs) (suc pc)) h
      (and_then (named_value h r s) (λ u. fill_fields h from v (bound_to h.scope.names r).static_type (region_of u) fs))
  fill_runs aside h r fs from v s pc i low bound region fine may o g at code =
      let w = where_of params h in
      let b = bound_to h.scope.names r in
      let k = length h.scope.names in
      let m = named IsOf h.scope.names s.names r g.typed bound in
      let lies = (named (IsInside x s.store) h.scope.names s.names r g.inside_store bound).holding in
      let q = a_region_there b.static_type (get_or s.names b.place nothing) region m.holding in
      let put = machine_value i.contents v in
      let j = stored (spare w 0) put i in
      let same : slot w k + 2 ≡ spare w 0 = omega arith in
      let g2 = subst (λ d. Agrees x params slots aside h s (stored d put i)) same
      (aside_stored x params slots fit aside h s i k 2 put low (omega (arith, g.inside, g.count)) (omega arith) (omega arith) (omega arith) (ready_value i.contents v) g) in
      does_before x params slots fit counts aside _ h _ _ _ (stores x params slots fit (spare w 0) pc h.line put [] i g.slots_are at)
      (does_come x params slots fit aside _ h _ _
      (subst (λ u. Comes x (placed (suc pc) [] j)
      (λ g3 j3. placed (past (fill_code w from b.static_type (slot_named w r) fs) (suc pc)) [] j3) (GoesOn x params slots fit aside h)
      (fill_fields h from v b.static_type u fs s)) (sym q.1)
      (fields_filled x params slots fit aside h r from v q.0 fs s (suc pc) j fine may region o q.2
      (region_lies x s.store b.static_type (get_or s.names b.place nothing) region q.0 q.2 lies) (omega (arith, m.below, g.count))
      (get_or-set_same i.frame.slots (spare w 0) put blank (omega (arith, fit pc _ at, g.slots_are))) g2 code)))
