-- How variables begin.
use Rattle.std.proofs.Common.{◌≡◌, ◌⊎◌, inl, inr, ℕ, suc, ◌≤◌, List, [], ◌∷◌, negsuc, Some, None, refl, sym, ap, ◌∙◌, subst, ◌<◌, arith, ⊎_elim, true}
use Rattle.std.specs.Prelude.{get_or, length, slice_set}
use Rattle.std.proofs.lemmas.List.{get_or-set_same}
use Rattle.regent_tree.specs.Accesses.{regions_reached, space_in}
use Rattle.regent_tree.specs.Evaluation.{value}
use Rattle.regent_tree.specs.Execution.{after_statement, bind, exec}
use Rattle.regent_tree.specs.Initializers.{initial_value, zero_of}
use Rattle.regent_tree.specs.Running.{Here, State, gives}
use Rattle.regent_tree.specs.Scopes.{bound_to, Scope}
use Rattle.regent_tree.specs.Store.{Store}
use Rattle.regent_tree.specs.Syntax.{Name, Expression, number_expr, truth_expr, chain_expr, prefix_expr, call_expr, access_expr, convert_expr, is_null_expr, null_expr, cast_expr, space_expr, no_step, field_step, at_step, plain_initializer, var_form, Form}
use Rattle.regent_tree.specs.Typing.{owned, reaches_of, taken_from, var_type, type_of_element}
use Rattle.regent_tree.specs.Values.{Region, Value, a_pointer, a_region, null_target, regions_of}
use Rattle.regent_tree.specs.declared.facts.Term.TheVariants as term
use Rattle.regent_tree.specs.declared.types.TypeTerm.{TypeTerm}
use Rattle.regent_tree.specs.declared.typing.StaticType.{StaticType}
use Rattle.regent_tree.specs.declared.typing.StaticType.TheVariants.{Pointer as pointer_type}
use Rattle.task_code.specs.declared.code.Line.{Line}
use Rattle.task_code.specs.declared.instr.Instr.TheVariants as instr
use Rattle.machine_terms.specs.declared.order.Instance.{Instance}
use Rattle.code_rules.specs.Expressions.{expr_code}
use Rattle.code_rules.specs.Initializers.{beside_code, new_place, plain_code, zero_kept, initializer_code}
use Rattle.code_rules.specs.Instructions.{converted_code, one}
use Rattle.code_rules.specs.Pieces.{Piece, empty, op, past, ◌⨟◌}
use Rattle.code_rules.specs.Slots.{beside, slot, typed, Where, bound}
use Rattle.code_rules.specs.Statements.{begun_form, form_code}
use Rattle.code_laws.specs.Pointers.{AreThere, Begins, BeginsItself, IsPointed, IsPointer, IsWritten, a_pointer_type, begins_plain, begins_pointer, itself_null, itself_plain}
use Rattle.code_laws.specs.Simple.{IsRegion, IsSimple, a_region_type}
use Rattle.code_laws.specs.Standing.{AreOf, Agrees, Aside, Does, IsInside, IsOf, SlotsFit, Stands, nothing, of_pointer, where_of, GoesToPart, blank, machine_value}
use Rattle.code_laws.specs.Steps.{Setting, placed, machine_of, on_step, Forms}
use Rattle.code_laws.specs.Typed.{CountsDown, IsPartElement, IsPointing, IsTyped, element_field, field_behind}
use Rattle.code_laws.proofs.Written.{begins_written}
use Rattle.code_laws.proofs.Expressions.{value_runs}
use Rattle.code_laws.proofs.Good.{Gives, Good, pushes, valued}
use Rattle.code_laws.proofs.Counting.{into_runs}
use Rattle.code_laws.proofs.Knowing.{declared_pointed, pointing, then_known}
use Rattle.code_laws.proofs.Moving.{pointer_into}
use Rattle.code_laws.proofs.PartBegins.{part_element_begins}
use Rattle.code_laws.proofs.PointerValues.{there_reached}
use Rattle.code_laws.proofs.Pointing.{simple_pointed, named_pointed}
use Rattle.code_laws.proofs.Under.{pointer_not_region, simple_not_region, type_under}
use Rattle.code_laws.proofs.Wider.{into_simple, zero_simple}
use Rattle.code_laws.proofs.RegionLoops.{only_one}
use Rattle.code_laws.proofs.Rows.{does_before, does_said, owned_plain, plain_past, plain_stands}
use Rattle.code_laws.proofs.Runs.{comes_said, then, leads_by, leads_twice}
use Rattle.code_laws.proofs.Values.{named, simple_inside, load_value}
use Rattle.code_laws.proofs.Variables.{binds, zero_runs}
use Rattle.code_laws.proofs.Besides.{HasNoPart, beside_named, no_part_goes, simple_no_part, written_no_part, there_no_part}
use Rattle.regent_tree.specs.Lookup.{is_bound}
use Rattle.check_laws.specs.SoundScopes.{Falls}
use Rattle.regent_tree.specs.declared.types.Kind.{Kind}
use Rattle.regent_tree.specs.StaticTypes.{Reach}
use Rattle.regent_tree.specs.declared.facts.Colour.{Colour}
use Rattle.regent_tree.specs.declared.typing.Bound.{Bound}
use Rattle.machine_terms.specs.Numbers.{load}
use Rattle.code_laws.proofs.Behind.{loads}
use Rattle.code_laws.proofs.States.{aside_stored, stored, stores}
use Rattle.std.proofs.lemmas.Option.{slice_get-get_or}

-- ---- a name's pointer

pointer_owned : (n : ℕ) (t : StaticType) → IsPointer t → t ≡ owned n t
pointer_owned n _ (a_pointer_type k sp args rs names) = refl

-- a variable that begins as a pointer that goes into no part has no region beside it
pointer_beside : (params : ℕ) (h : Here) (t : StaticType) (e : Expression) → IsPointer t → HasNoPart t → beside_code (where_of params h) t e ≡ empty
pointer_beside params h _ (access_expr n no_step) (a_pointer_type k sp args [] names) none = refl
pointer_beside params h _ (access_expr n no_step) (a_pointer_type k sp args (Some (term.Name i) ∷ rs) names) none = refl
pointer_beside params h _ (access_expr n no_step) (a_pointer_type k sp args (Some (term.Child p c) ∷ rs) names) none =
    absurd (none p c (ap (λ us. Some (term.Child p c) ∷ us) names))
pointer_beside params h _ (access_expr n no_step) (a_pointer_type k sp args (None ∷ rs) names) none = refl
pointer_beside params h _ e (a_pointer_type k sp args rs names) none = refl

pointer_past : (params : ℕ) (h : Here) (t : StaticType) (e : Expression) (pc n : ℕ) → IsPointer t → HasNoPart t →
    past (plain_code (where_of params h) (owned n t) e) pc ≡ past (expr_code (where_of params h) 0 e) pc
pointer_past params h _ e pc n (a_pointer_type k sp args rs names) none =
    ap (λ p. past p (past (expr_code (where_of params h) 0 e) pc)) (pointer_beside params h (pointer_type k sp args rs) e (a_pointer_type k sp args rs names) none)

-- such a pointer goes into no part, or is a name's
name_no_part : (i p : ℕ) (c : Colour) → Some (term.Name i) ∷ [] ≡ Some (term.Child p c) ∷ [] → ⊥
name_no_part i p c e = absurd cc

element_no_part : (s : Scope) (t : StaticType) (e : Expression) (i : ℕ) → IsRegion t → reaches_of (taken_from t) ≡ Some (term.Name i) ∷ [] →
    HasNoPart (type_of_element s t e)
element_no_part s _ e i (a_region_type k sp args r) own p c d = name_no_part i p c (sym own ∙ d)

pointing_part : (forms : Forms) (w : Where) (e : Expression) → IsTyped forms w e → IsPointing w e →
    HasNoPart (typed w e) ⊎ ((m : Name) × (e ≡ access_expr m no_step))
pointing_part forms w (access_expr n no_step) fine at = inr (n, refl)
pointing_part forms w (access_expr n (at_step e no_step)) fine at = inl (element_no_part w.scope (bound w n).static_type e fine.5.number fine.4 fine.5.is)
pointing_part forms w (access_expr n (at_step e (field_step f no_step))) fine at = inl (there_no_part w.scope.names _ (element_field w n e f) at)
pointing_part forms w (access_expr n (field_step f no_step)) fine at = inl (there_no_part w.scope.names _ (field_behind w n f) at)
pointing_part forms w (null_expr t) fine at = inl (written_no_part w.scope.names (typed w (null_expr t)) fine.1)
pointing_part forms w (cast_expr t e) fine at = inl (written_no_part w.scope.names (typed w (cast_expr t e)) fine.1)
pointing_part forms w (access_expr n (field_step f (field_step g rest))) fine at =
    inl (there_no_part w.scope.names _ (typed w (access_expr n (field_step f (field_step g rest)))) at)
pointing_part forms w (access_expr n (field_step _ (at_step _ _))) fine at = absurd at
pointing_part forms w (access_expr n (at_step e (field_step f (field_step g rest)))) fine at =
    inl (there_no_part w.scope.names _ (typed w (access_expr n (at_step e (field_step f (field_step g rest))))) at)
pointing_part forms w (access_expr n (at_step _ (field_step _ (at_step _ _)))) fine at = absurd at
pointing_part forms w (access_expr n (at_step e (at_step i (field_step f rest)))) fine at =
    inl (there_no_part w.scope.names _ (typed w (access_expr n (at_step e (at_step i (field_step f rest))))) at)
pointing_part forms w (access_expr n (at_step _ (at_step _ no_step))) fine at = absurd at
pointing_part forms w (access_expr n (at_step _ (at_step _ (at_step _ _)))) fine at = absurd at
pointing_part forms w (number_expr _ _) fine at = absurd at
pointing_part forms w (truth_expr _) fine at = absurd at
pointing_part forms w (chain_expr _ _) fine at = absurd at
pointing_part forms w (prefix_expr _ _) fine at = absurd at
pointing_part forms w (call_expr _ _) fine at = absurd at
pointing_part forms w (convert_expr _ _) fine at = absurd at
pointing_part forms w (is_null_expr _) fine at = absurd at
pointing_part forms w (space_expr _ _) fine at = absurd at

-- the part into which a pointer goes
into_part : (bs : List Bound) (names : List Value) (k : Kind) (sp : ℕ) (args : List Reach) (p : ℕ) (c : Colour) (v : Value) →
    IsOf (pointer_type k sp args (Some (term.Child p c) ∷ [])) v → IsPointed bs names (pointer_type k sp args (Some (term.Child p c) ∷ [])) v →
    (q : Region) × (regions_of v ≡ q ∷ [])
into_part bs names k sp args p c _ (of_pointer _ _ _ _ tg [] o) a = absurd a
into_part bs names k sp args p c _ (of_pointer _ _ _ _ tg (q ∷ []) o) a = (q, refl)
into_part bs names k sp args p c _ (of_pointer _ _ _ _ tg (q ∷ (u ∷ us)) o) a = absurd a.1

pointer_stands : (body : List Line) (params : ℕ) (h : Here) (t : StaticType) (e : Expression) (pc n : ℕ) → IsPointer t →
    Stands body pc (plain_code (where_of params h) (owned n t) e) → Stands body pc (expr_code (where_of params h) 0 e)
pointer_stands body params h _ e pc n (a_pointer_type k sp args rs names) f = f.0

pointer_inside : (x : Setting) (store : Store) (t : StaticType) (v : Value) → IsPointer t → IsInside x store t v
pointer_inside x store _ v (a_pointer_type k sp args rs names) = tt

module _ (x : Setting) (params slots : ℕ) (fit : SlotsFit x slots) (counts : CountsDown) where
  -- ---- variables

  -- what begins a statement
  abbrev FormDoes : ℕ → Aside 0 → Here → Form → State → ℕ → Instance → Type 0
  FormDoes to aside h form s pc i = Does x params slots aside (placed pc [] i) to (after_statement h form) (exec h form s)

  -- `var n = e`, where e gives a pointer that goes into no part
  pointer_begins : (aside : Aside 0) (h : Here) (n : Name) (e : Expression) (s : State) (pc : ℕ) (i : Instance) → params ≤ length h.scope.names →
      IsPointer (typed (where_of params h) e) → HasNoPart (typed (where_of params h) e) → IsPointing (where_of params h) e → IsTyped x.forms (where_of params h) e →
      Agrees x params slots aside h s i →
      Stands x.body pc (begun_form (where_of params h) None (Some (plain_initializer e))) →
      FormDoes (past (begun_form (where_of params h) None (Some (plain_initializer e))) pc) aside h
      (var_form n None (Some (plain_initializer e))) s pc i
  pointer_begins aside h n e s pc i low p none at fine g f =
      let w = where_of params h in
      let form = var_form n None (Some (plain_initializer e)) in
      let t = typed w e in
      let a = past (expr_code w 0 e) pc in
      let own = pointer_owned h.scope.next t p in
      let there = pointer_past params h t e pc h.scope.next p none in
      let k = slot w (new_place w) in
      let f2 : Stands x.body a (op (instr.Store k) h.line) = subst (λ a. Stands x.body a (op (instr.Store k) h.line)) there f.1 in
      subst (λ a. FormDoes (suc a) aside h form s pc i) (sym there)
      (then_known x (λ i r. Does x params slots aside i (suc a) (after_statement h form) r)
      (does_said x params slots fit counts aside (suc a) (after_statement h form)) (λ v s1. IsPointed h.scope.names s1.names t v) (valued a [])
      (Good x params slots fit aside h t) (placed pc [] i) (value h e s) (λ v. bind v)
      (pointing x.forms params h e s fine at g.pointed g.typed g.count)
      (value_runs x params slots fit aside h 0 low e s pc [] i fine g (pointer_stands x.body params h t e pc h.scope.next p f.0))
      (λ v s1 j pt k1. binds x params slots fit counts aside h n None (Some (plain_initializer e)) v s1 a j low
      (subst (λ u. IsOf u v) own k1.0) (subst (λ u. IsInside x s1.store u v) own (pointer_inside x s1.store t v p))
      (subst (λ u. IsPointed h.scope.names s1.names u v) own pt)
      (type_under x.forms.takes h.scope.names s1.names (owned h.scope.next t) v (subst (λ u. IsRegion u → ⊥) own (pointer_not_region t p)))
      (no_part_goes _ j.contents (length s1.store) (owned h.scope.next t) v (subst HasNoPart own none)) k1.1 f2))

  -- `var n = m`, of a pointer that goes into no part
  other_begins : (aside : Aside 0) (h : Here) (n m : Name) (s : State) (pc : ℕ) (i : Instance) → params ≤ length h.scope.names →
      is_bound h.scope.names m ≡ true → Falls h.scope.next h.scope.names → (t : StaticType) → (bound_to h.scope.names m).static_type ≡ t → IsPointer t → HasNoPart t →
      IsTyped x.forms (where_of params h) (access_expr m no_step) → Agrees x params slots aside h s i →
      Stands x.body pc (begun_form (where_of params h) None (Some (plain_initializer (access_expr m no_step)))) →
      FormDoes (past (begun_form (where_of params h) None (Some (plain_initializer (access_expr m no_step)))) pc) aside h
      (var_form n None (Some (plain_initializer (access_expr m no_step)))) s pc i
  other_begins aside h n m s pc i low there falls t is p none fine g f =
      pointer_begins aside h n (access_expr m no_step) s pc i low (subst IsPointer (sym is) p) (subst HasNoPart (sym is) none) falls fine g f

  -- `var n = m`, where m has a pointer into a part: the part is copied, too
  part_begins : (aside : Aside 0) (h : Here) (n m : Name) (s : State) (pc : ℕ) (i : Instance) → params ≤ length h.scope.names →
      is_bound h.scope.names m ≡ true → Falls h.scope.next h.scope.names → (k : Kind) (sp : ℕ) (args : List Reach) (p : ℕ) (c : Colour) →
      (bound_to h.scope.names m).static_type ≡ pointer_type k sp args (Some (term.Child p c) ∷ []) → Agrees x params slots aside h s i →
      Stands x.body pc (begun_form (where_of params h) None (Some (plain_initializer (access_expr m no_step)))) →
      FormDoes (past (begun_form (where_of params h) None (Some (plain_initializer (access_expr m no_step)))) pc) aside h
      (var_form n None (Some (plain_initializer (access_expr m no_step)))) s pc i
  part_begins aside h n m s pc i low there falls kind sp args p c is g f =
      let w = where_of params h in
      let start = Some (plain_initializer (access_expr m no_step)) in
      let form = var_form n None start in
      let b = bound_to h.scope.names m in
      let t = pointer_type kind sp args (Some (term.Child p c) ∷ []) in
      let v = get_or s.names b.place nothing in
      let k = length h.scope.names in
      let l = beside w k in
      let from = beside w b.place in
      let is_var : var_type h.tree h.scope None start ≡ t = ap (owned h.scope.next) is in
      let code : initializer_code w None (var_type h.tree h.scope None start) start
      ≡ expr_code w 0 (access_expr m no_step) ⨟ (op (instr.Load from) h.line ⨟ op (instr.Store l) h.line) =
      ap (λ u. initializer_code w None u start) is_var in
      let past_it : past (initializer_code w None (var_type h.tree h.scope None start) start) pc ≡ suc (suc (suc pc)) = ap (λ d. past d pc) code in
      let st = subst (Stands x.body pc) code f.0 in
      let f2 : Stands x.body (suc (suc (suc pc))) (op (instr.Store (slot w k)) h.line) = subst (λ d. Stands x.body d (op (instr.Store (slot w k)) h.line)) past_it f.1 in
      let held = named IsOf h.scope.names s.names m g.typed there in
      let pointed = subst (λ u. IsPointed h.scope.names s.names u v) is (named_pointed h.scope.next h.scope.names s.names m falls g.pointed there) in
      let ty = subst (λ u. IsOf u v) is held.holding in
      let near = into_part h.scope.names s.names kind sp args p c v ty pointed in
      let q = near.0 in
      let goes : GoesToPart b.static_type v q = record { partition = p; colour = c; into = ap reaches_of is; regions = near.1 } in
      let was = beside_named (λ p. get_or i.frame.slots (beside w p) blank) i.contents params (length s.store) h.scope.names s.names m g.besides there q goes in
      let rv = machine_value i.contents (a_region q) in
      let below : from < length i.frame.slots = omega (arith, fit (suc pc) _ st.1.0, g.slots_are) in
      let room : l < length i.frame.slots = omega (arith, fit (suc (suc pc)) _ st.1.1, g.slots_are) in
      let pv = machine_value i.contents v in
      let g2 = aside_stored x params slots fit aside h s i k 2 rv low (omega (arith, g.inside, g.count)) (omega arith) (omega arith) (omega arith) refl g in
      let one = loads x params slots fit aside h b.place v s pc [] i refl (omega (arith, held.below, g.count)) g st.0.0 in
      let two = leads_by x (valued (suc pc) [] v i) (placed (suc (suc pc)) (rv ∷ pv ∷ []) i) (instr.Load from) h.line st.1.0
      (ap (λ o. on_step x (valued (suc pc) [] v i) (load (machine_of (valued (suc pc) [] v i)) o))
      (slice_get-get_or i.frame.slots from blank below ∙ ap (λ u. Some u) was.1)
      ∙ ap (on_step x (valued (suc pc) [] v i)) (load_value i.contents (a_region q) (machine_of (valued (suc pc) [] v i)))) in
      let three = stores x params slots fit l (suc (suc pc)) h.line rv (pv ∷ []) i g.slots_are st.1.1 in
      subst (λ d. FormDoes (suc d) aside h form s pc i) (sym past_it)
      (does_before x params slots fit counts aside (suc (suc (suc (suc pc)))) (after_statement h form) _ _ (bind v s) (leads_twice x one (leads_twice x two three))
      (binds x params slots fit counts aside h n None start v s (suc (suc (suc pc))) (stored l rv i) low (subst (λ u. IsOf u v) (sym is_var) ty)
      (subst (λ u. IsInside x s.store u v) (sym is_var) tt) (subst (λ u. IsPointed h.scope.names s.names u v) (sym is_var) pointed)
      (type_under x.forms.takes h.scope.names s.names (var_type h.tree h.scope None start) v (subst (λ u. IsRegion u → ⊥) (sym is_var) (λ r. elim r [ ])))
      (λ d to. subst (λ (e : Region). (get_or (slice_set i.frame.slots l rv) l blank ≡ machine_value i.contents (a_region e)) × (e.root < length s.store))
      (only_one q d (sym near.1 ∙ to.regions)) (get_or-set_same i.frame.slots l rv blank room, was.2)) g2 f2))

  -- so by the type
  name_begins : (aside : Aside 0) (h : Here) (n m : Name) (s : State) (pc : ℕ) (i : Instance) → params ≤ length h.scope.names →
      is_bound h.scope.names m ≡ true → Falls h.scope.next h.scope.names → (t : StaticType) → (bound_to h.scope.names m).static_type ≡ t → IsPointer t →
      IsTyped x.forms (where_of params h) (access_expr m no_step) → Agrees x params slots aside h s i →
      Stands x.body pc (begun_form (where_of params h) None (Some (plain_initializer (access_expr m no_step)))) →
      FormDoes (past (begun_form (where_of params h) None (Some (plain_initializer (access_expr m no_step)))) pc) aside h
      (var_form n None (Some (plain_initializer (access_expr m no_step)))) s pc i
  name_begins aside h n m s pc i low there falls _ is (a_pointer_type k sp args (Some (term.Child p c) ∷ []) names) fine g f =
      part_begins aside h n m s pc i low there falls k sp args p c is g f
  name_begins aside h n m s pc i low there falls _ is (a_pointer_type k sp args (Some (term.Child p c) ∷ (r ∷ rs)) names) fine g f = absurd cc
  name_begins aside h n m s pc i low there falls _ is (a_pointer_type k sp args [] names) fine g f =
      other_begins aside h n m s pc i low there falls _ is (a_pointer_type k sp args [] names) (λ p c e. absurd cc) fine g f
  name_begins aside h n m s pc i low there falls _ is (a_pointer_type k sp args (Some (term.Name r) ∷ rs) names) fine g f =
      other_begins aside h n m s pc i low there falls _ is (a_pointer_type k sp args (Some (term.Name r) ∷ rs) names) (λ p c e. absurd cc) fine g f
  name_begins aside h n m s pc i low there falls _ is (a_pointer_type k sp args (None ∷ rs) names) fine g f =
      other_begins aside h n m s pc i low there falls _ is (a_pointer_type k sp args (None ∷ rs) names) (λ p c e. absurd cc) fine g f

  -- `var n = e`
  pub begins_run : (aside : Aside 0) (h : Here) (n : Name) (e : Expression) (s : State) (pc : ℕ) (i : Instance) →
      params ≤ length h.scope.names → IsSimple (typed (where_of params h) e)
      ⊎ (IsPointer (typed (where_of params h) e) × (IsPointing (where_of params h) e ⊎ IsPartElement e)) →
      IsTyped x.forms (where_of params h) e → Agrees x params slots aside h s i →
      Stands x.body pc (begun_form (where_of params h) None (Some (plain_initializer e))) →
      Does x params slots aside (placed pc [] i) (past (begun_form (where_of params h) None (Some (plain_initializer e))) pc)
      (after_statement h (var_form n None (Some (plain_initializer e)))) (exec h (var_form n None (Some (plain_initializer e))) s)
  begins_run aside h n e s pc i low (inl simple) fine g f =
      let w = where_of params h in
      let t = typed w e in
      let code = expr_code w 0 e in
      let form = var_form n None (Some (plain_initializer e)) in
      let there = plain_past params h t e pc h.scope.next simple in
      let k = slot w (new_place w) in
      let own = owned_plain h.scope.next t simple in
      let f2 : Stands x.body (past code pc) (op (instr.Store k) h.line) =
      subst (λ p. Stands x.body p (op (instr.Store k) h.line)) there f.1 in
      subst (λ p. Does x params slots aside (placed pc [] i) (suc p) (after_statement h form) (exec h form s)) (sym there)
      (then x (does_said x params slots fit counts aside (suc (past code pc)) (after_statement h form)) _ _ _ (value h e s) _
      (value_runs x params slots fit aside h 0 low e s pc [] i fine g (plain_stands x.body params h t e pc h.scope.next simple f.0))
      (λ v s1 j k1. binds x params slots fit counts aside h n None (Some (plain_initializer e)) v s1 (past code pc) j low
      (subst (λ u. IsOf u v) own k1.0) (subst (λ u. IsInside x s1.store u v) own (simple_inside x s1.store t v simple))
      (subst (λ u. IsPointed h.scope.names s1.names u v) own (simple_pointed h.scope.names s1.names t v simple k1.0))
      (type_under x.forms.takes h.scope.names s1.names (owned h.scope.next t) v (subst (λ u. IsRegion u → ⊥) own (simple_not_region t simple)))
      (no_part_goes _ j.contents (length s1.store) (owned h.scope.next t) v (subst HasNoPart own (simple_no_part t simple))) k1.1 f2))
  begins_run aside h n e s pc i low (inr p) fine g f = ⊎_elim
      (λ at. ⊎_elim
      (λ none. pointer_begins aside h n e s pc i low p.0 none at fine g f)
      (λ m. subst (λ e. (IsTyped x.forms (where_of params h) e) → IsPointer (typed (where_of params h) e) → IsPointing (where_of params h) e →
      Stands x.body pc (begun_form (where_of params h) None (Some (plain_initializer e))) →
      FormDoes (past (begun_form (where_of params h) None (Some (plain_initializer e))) pc) aside h (var_form n None (Some (plain_initializer e))) s pc i)
      (sym m.1) (λ fine p falls f. name_begins aside h n m.0 s pc i low fine.0 falls (bound_to h.scope.names m.0).static_type refl p fine g f) fine p.0 at f)
      (pointing_part x.forms (where_of params h) e fine at))
      (λ is. part_element_begins x params slots fit counts aside h n e s pc i low is fine g f) p.1

  -- what it begins with is converted
  abbrev ConvertedCode : Here → TypeTerm → Expression → Piece
  ConvertedCode h t e =
      let w = where_of params h in
      (expr_code w 0 e ⨟ converted_code w (typed w e) (var_type h.tree h.scope (Some t) (Some (plain_initializer e))))
      ⨟ one w (instr.Store (slot w (new_place w)))

  converted_begins : (aside : Aside 0) (h : Here) (n : Name) (t : TypeTerm) (e : Expression) (s : State) (pc : ℕ) (i : Instance) →
      params ≤ length h.scope.names →
      Begins h.scope.names (typed (where_of params h) e) (var_type h.tree h.scope (Some t) (Some (plain_initializer e))) →
      IsTyped x.forms (where_of params h) e → Agrees x params slots aside h s i → Stands x.body pc (ConvertedCode h t e) →
      FormDoes (past (ConvertedCode h t e) pc) aside h (var_form n (Some t) (Some (plain_initializer e))) s pc i
  converted_begins aside h n t e s pc i low (begins_plain _ _ into) fine g f =
      let w = where_of params h in
      let from = typed w e in
      let form = var_form n (Some t) (Some (plain_initializer e)) in
      let u = var_type h.tree h.scope (Some t) (Some (plain_initializer e)) in
      let a = past (expr_code w 0 e) pc in
      let b = past (converted_code w from u) a in
      let simple = into_simple from u into in
      then x (does_said x params slots fit counts aside (suc b) (after_statement h form)) (valued b []) (Good x params slots fit aside h u) _
      (initial_value h (Some t) u (Some (plain_initializer e)) s) (λ v. bind v)
      (then x (comes_said x _ _) _ _ _ (value h e s) _ (value_runs x params slots fit aside h 0 low e s pc [] i fine g f.0.0)
      (λ v s1 j k. into_runs x params slots fit aside h from u (regions_reached h.scope s1.names (reaches_of u)) v s1 a [] j into k.0 k.1 f.0.1))
      (λ v s1 j k. binds x params slots fit counts aside h n (Some t) (Some (plain_initializer e)) v s1 b j low k.0
      (simple_inside x s1.store u v simple) (simple_pointed h.scope.names s1.names u v simple k.0)
      (type_under x.forms.takes h.scope.names s1.names u v (simple_not_region u simple))
      (no_part_goes _ j.contents (length s1.store) u v (simple_no_part u simple)) k.1 f.1)
  converted_begins aside h n t e s pc i low (begins_pointer _ _ p wr) fine g f =
      let w = where_of params h in
      let from = typed w e in
      let form = var_form n (Some t) (Some (plain_initializer e)) in
      let u = var_type h.tree h.scope (Some t) (Some (plain_initializer e)) in
      let a = past (expr_code w 0 e) pc in
      let b = past (converted_code w from u) a in
      then_known x (λ i r. Does x params slots aside i (suc b) (after_statement h form) r)
      (does_said x params slots fit counts aside (suc b) (after_statement h form)) (λ v s1. IsPointed h.scope.names s1.names u v) (valued b [])
      (Good x params slots fit aside h u) (placed pc [] i) (initial_value h (Some t) u (Some (plain_initializer e)) s) (λ v. bind v)
      (declared_pointed h from u e s wr g.typed g.count)
      (then x (comes_said x _ _) _ _ _ (value h e s) _ (value_runs x params slots fit aside h 0 low e s pc [] i fine g f.0.0)
      (λ v s1 j k. pointer_into x params slots fit aside h from u (regions_reached h.scope s1.names (reaches_of u)) v s1 a [] j p wr.0 k.0 k.1 f.0.1))
      (λ v s1 j pt k. binds x params slots fit counts aside h n (Some t) (Some (plain_initializer e)) v s1 b j low k.0
      (pointer_inside x s1.store u v wr.0) pt
      (type_under x.forms.takes h.scope.names s1.names u v (pointer_not_region u wr.0))
      (no_part_goes _ j.contents (length s1.store) u v (written_no_part h.scope.names u wr)) k.1 f.1)

  -- `var n : t = e`
  pub declares_run : (aside : Aside 0) (h : Here) (n : Name) (t : TypeTerm) (e : Expression) (s : State) (pc : ℕ) (i : Instance) →
      params ≤ length h.scope.names →
      Begins h.scope.names (typed (where_of params h) e) (var_type h.tree h.scope (Some t) (Some (plain_initializer e))) →
      IsTyped x.forms (where_of params h) e → Agrees x params slots aside h s i →
      Stands x.body pc (begun_form (where_of params h) (Some t) (Some (plain_initializer e))) →
      FormDoes (past (begun_form (where_of params h) (Some t) (Some (plain_initializer e))) pc) aside h
      (var_form n (Some t) (Some (plain_initializer e))) s pc i
  declares_run aside h n t e s pc i low begins fine g f =
      let w = where_of params h in
      let store = one w (instr.Store (slot w (new_place w))) in
      let same = begins_written h.scope.names w (typed w e) (var_type h.tree h.scope (Some t) (Some (plain_initializer e))) e begins in
      subst (λ (c : Piece). FormDoes (past (c ⨟ store) pc) aside h (var_form n (Some t) (Some (plain_initializer e))) s pc i) (sym same)
      (converted_begins aside h n t e s pc i low begins fine g (subst (λ (c : Piece). Stands x.body pc (c ⨟ store)) same f))

  -- null
  null_value : (aside : Aside 0) (h : Here) (t : StaticType) (s : State) (pc : ℕ) (i : Instance) → IsPointer t →
      Agrees x params slots aside h s i → Stands x.body pc (op (instr.Num (zero_kept t)) h.line) →
      Gives x params slots fit aside h t (op (instr.Num (zero_kept t)) h.line) pc [] [] i (gives (zero_of h.scope s.names t) s)
  null_value aside h _ s pc i (a_pointer_type k sp args rs names) g f =
      pushes x params slots fit aside h (pointer_type k sp args rs) (a_pointer null_target (regions_reached h.scope s.names rs)) s pc [] [] i
      (instr.Num (negsuc 0)) h.line f (of_pointer k sp args rs null_target _ tt) g refl

  null_pointed : (h : Here) (t : StaticType) (s : State) → IsWritten h.scope.names t → AreOf IsOf h.scope.names s.names →
      length s.names ≡ length h.scope.names → IsPointed h.scope.names s.names t (zero_of h.scope s.names t)
  null_pointed h t s wr o long = by t wr.0 wr.1
    where
      by : (t : StaticType) → IsPointer t → AreThere h.scope.names (space_in t) (reaches_of t) →
          IsPointed h.scope.names s.names t (zero_of h.scope s.names t)
      by _ (a_pointer_type k sp args rs names) there = there_reached h.scope s.names sp rs o long there

  -- `var n : t`
  pub itself_run : (aside : Aside 0) (h : Here) (n : Name) (t : TypeTerm) (s : State) (pc : ℕ) (i : Instance) → params ≤ length h.scope.names →
      BeginsItself h.scope.names (var_type h.tree h.scope (Some t) None) → Agrees x params slots aside h s i →
      Stands x.body pc (begun_form (where_of params h) (Some t) None) →
      FormDoes (past (begun_form (where_of params h) (Some t) None) pc) aside h (var_form n (Some t) None) s pc i
  itself_run aside h n t s pc i low (itself_plain _ zero) g f =
      let form = var_form n (Some t) None in
      let u = var_type h.tree h.scope (Some t) None in
      then x (does_said x params slots fit counts aside (suc (suc pc)) (after_statement h form)) (valued (suc pc) [])
      (Good x params slots fit aside h u) _ (initial_value h (Some t) u None s) (λ v. bind v)
      (zero_runs x params slots fit counts aside h u s pc i zero g f.0)
      (λ v s1 j k. binds x params slots fit counts aside h n (Some t) None v s1 (suc pc) j low k.0
      (simple_inside x s1.store u v (zero_simple u zero)) (simple_pointed h.scope.names s1.names u v (zero_simple u zero) k.0)
      (type_under x.forms.takes h.scope.names s1.names u v (simple_not_region u (zero_simple u zero)))
      (no_part_goes _ j.contents (length s1.store) u v (simple_no_part u (zero_simple u zero))) k.1 f.1)
  itself_run aside h n t s pc i low (itself_null _ wr) g f =
      let form = var_form n (Some t) None in
      let u = var_type h.tree h.scope (Some t) None in
      let r = null_value aside h u s pc i wr.0 g f.0 in
      let v = zero_of h.scope s.names u in
      does_before x params slots fit counts aside (suc (suc pc)) (after_statement h form) _ _ (exec h form s) r.1
      (binds x params slots fit counts aside h n (Some t) None v s (suc pc) r.0 low r.2.0 (pointer_inside x s.store u v wr.0)
      (null_pointed h u s wr g.typed g.count)
      (type_under x.forms.takes h.scope.names s.names u v (pointer_not_region u wr.0))
      (no_part_goes _ r.0.contents (length s.store) u v (written_no_part h.scope.names u wr)) r.2.1 f.1)
