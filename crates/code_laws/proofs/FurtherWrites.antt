-- Assignments to fields of what fields go to.
use Rattle.std.proofs.Common.{◌≡◌, ℕ, suc, ◌<◌, ◌≤◌, [], ◌∷◌, false, true, refl, sym, subst}
use Rattle.std.specs.Prelude.{length}
use Rattle.lane_kernels.specs.declared.numbers.Mode.TheVariants as mode
use Rattle.lane_kernels.specs.declared.numbers.Op.{Op}
use Rattle.regent_tree.specs.Accesses.{aimed, space_in}
use Rattle.regent_tree.specs.Evaluation.{value}
use Rattle.regent_tree.specs.Execution.{Going, before_last, exec, last_field, right_side, write_field}
use Rattle.regent_tree.specs.Running.{Here, State, and_then}
use Rattle.regent_tree.specs.Scopes.{Scope, bound_to}
use Rattle.regent_tree.specs.StaticTypes.{field_place, field_term, space_at}
use Rattle.regent_tree.specs.Syntax.{Expression, Name, Steps, Tree, access_expr, assign_form, at_step, field_step, no_step}
use Rattle.regent_tree.specs.Typing.{has_wild, reaches_of, stepped_type, type_of_element, type_of_field}
use Rattle.regent_tree.specs.Values.{Value, kept_number}
use Rattle.regent_tree.specs.declared.statement.How.TheVariants as how
use Rattle.regent_tree.specs.declared.typing.StaticType.{StaticType}
use Rattle.regent_tree.specs.declared.typing.StaticType.TheVariants.{Pointer as pointer_type}
use Rattle.machine_terms.specs.declared.order.Instance.{Instance}
use Rattle.machine_terms.specs.declared.value.Value.TheVariants as machine
use Rattle.code_rules.specs.Assignments.{put_code, right_code}
use Rattle.code_rules.specs.Expressions.{expr_code}
use Rattle.code_rules.specs.Pieces.{past, ◌⨟◌}
use Rattle.code_rules.specs.Slots.{Where, typed}
use Rattle.code_rules.specs.Statements.{form_code}
use Rattle.code_laws.specs.Fields.{are_fields}
use Rattle.code_laws.specs.Pointers.{Assigned, FieldKeeps, IsPointed, IsPointer, a_pointer_type}
use Rattle.code_laws.specs.Simple.{IsInteger, an_integer}
use Rattle.code_laws.specs.Standing.{Agrees, Aside, Comes, Does, IsOf, SlotsFit, Stands, machine_value, of_integer, of_pointer, where_of}
use Rattle.code_laws.specs.Steps.{Setting, placed}
use Rattle.code_laws.specs.Typed.{AreReachable, CountsDown, IsFurther, IsPointing, IsReducedThrough, IsSetThrough, IsTyped, MayReach}
use Rattle.code_laws.proofs.Besides.{there_no_part}
use Rattle.code_laws.proofs.Expressions.{value_runs}
use Rattle.code_laws.proofs.Going.{does_come}
use Rattle.code_laws.proofs.Good.{Good, valued}
use Rattle.code_laws.proofs.Knowing.{pointing, then_known}
use Rattle.code_laws.proofs.Moving.{assigned_runs}
use Rattle.code_laws.proofs.Rows.{does_said}
use Rattle.code_laws.proofs.Runs.{comes_said, then}
use Rattle.code_laws.proofs.Through.{pointer_folds, pointer_writes}
use Rattle.code_laws.proofs.Typing.{no_way_back}
use Rattle.code_laws.proofs.Writes.{GoesOn, field_value}

-- the type of the last field of what the ones before it go to
pub last_type : (tree : Tree) (s : Scope) (rest : Steps) (t : StaticType) (g : Name) → are_fields rest ≡ true →
    stepped_type tree s t (field_step g rest) ≡ type_of_field tree (stepped_type tree s t (before_last (field_step g rest))) (last_field (field_step g rest))
last_type tree s no_step t g lo = refl
last_type tree s (field_step f rest) t g lo = last_type tree s rest (type_of_field tree t g) f lo
last_type tree s (at_step e rest) t g lo = absurd (no_way_back lo)

-- the regions of a pointer are known that a field gives
pub front_pointing : (w : Where) (n f g : Name) (rest : Steps) → are_fields rest ≡ true →
    AreReachable w (typed w (access_expr n (before_last (field_step f (field_step g rest))))) →
    IsPointing w (access_expr n (before_last (field_step f (field_step g rest))))
front_pointing w n f g no_step lo there = there
front_pointing w n f g (field_step k rest) lo there = there
front_pointing w n f g (at_step e rest) lo there = absurd (no_way_back lo)

pub front_element_pointing : (w : Where) (n : Name) (e : Expression) (f g : Name) (rest : Steps) → are_fields rest ≡ true →
    AreReachable w (typed w (access_expr n (before_last (at_step e (field_step f (field_step g rest)))))) →
    IsPointing w (access_expr n (before_last (at_step e (field_step f (field_step g rest)))))
front_element_pointing w n e f g no_step lo there = there
front_element_pointing w n e f g (field_step k rest) lo there = there
front_element_pointing w n e f g (at_step i rest) lo there = absurd (no_way_back lo)

pub front_part_pointing : (w : Where) (n : Name) (e i : Expression) (f g : Name) (rest : Steps) → are_fields rest ≡ true →
    AreReachable w (typed w (access_expr n (before_last (at_step e (at_step i (field_step f (field_step g rest))))))) →
    IsPointing w (access_expr n (before_last (at_step e (at_step i (field_step f (field_step g rest))))))
front_part_pointing w n e i f g no_step lo there = there
front_part_pointing w n e i f g (field_step k rest) lo there = there
front_part_pointing w n e i f g (at_step y rest) lo there = absurd (no_way_back lo)

module _ (x : Setting) (params slots : ℕ) (fit : SlotsFit x slots) (aside : Aside 0) where
  -- through a pointer that stands on the stack
  sets_pointer : (h : Here) (t : StaticType) (own : ℕ) (f : Name) (out : StaticType) (u v : Value) (s : State) (pc : ℕ) (i : Instance) →
      IsPointer t → AreReachable (where_of params h) t → has_wild (reaches_of t) ≡ false →
      field_place h.tree (space_in t) f < length (space_at h.tree (space_in t)).fields →
      FieldKeeps (field_term h.tree (space_in t) (field_place h.tree (space_in t) f)) out →
      MayReach x.forms (where_of params h) (reaches_of t) (field_place h.tree (space_in t) f) mode.Write → IsOf t u →
      IsPointed h.scope.names s.names t u → IsOf out v → Agrees x params slots aside h s i → Stands x.body pc (put_code (where_of params h) t own f how.Set) →
      Comes x (placed pc (machine_value i.contents u ∷ machine.Number (kept_number v) ∷ []) i) (λ c j. placed (suc pc) [] j)
      (GoesOn x params slots fit aside h) (write_field h t f how.Set v (aimed u) s)
  sets_pointer h _ own f out _ v s pc i (a_pointer_type k sp args rs names) there certain field keeps may (of_pointer _ _ _ _ tg qs o) pointed ov g stands =
      pointer_writes x params slots fit aside h k sp own args rs f tg qs out v s pc [] i names certain pointed
      (λ p c is q to. absurd (there_no_part h.scope.names sp (pointer_type k sp args rs) there p c is)) o field may keeps ov g stands

  -- a field of what the pointer goes to that an expression gives, with the value on the stack
  pub sets_further : (h : Here) (e : Expression) (own : ℕ) (f : Name) (v : Value) (s : State) (pc : ℕ) (i : Instance) → params ≤ length h.scope.names →
      IsTyped x.forms (where_of params h) e → IsPointing (where_of params h) e →
      IsFurther x.forms (where_of params h) (typed (where_of params h) e) f mode.Write →
      IsOf (type_of_field h.tree (typed (where_of params h) e) f) v → Agrees x params slots aside h s i →
      Stands x.body pc (expr_code (where_of params h) 0 e ⨟ put_code (where_of params h) (typed (where_of params h) e) own f how.Set) →
      Does x params slots aside (valued pc [] v i) (suc (past (expr_code (where_of params h) 0 e) pc)) h
      (and_then (value h e s) (λ p. λ s1. write_field h (typed (where_of params h) e) f how.Set v (aimed p) s1))
  sets_further h e own f v s pc i low fine to far ov g stands =
      let w = where_of params h in
      let t = typed w e in
      let out = type_of_field h.tree t f in
      let a = past (expr_code w 0 e) pc in
      let st = machine.Number (kept_number v) ∷ [] in
      let shape : Going → Instance → Instance = λ c j. placed (suc a) [] j in
      let r = and_then (value h e s) (λ p. λ s1. write_field h t f how.Set v (aimed p) s1) in
      does_come x params slots fit aside (suc a) h _ r
      (subst (λ y. Comes x (placed pc (y ∷ []) i) shape (GoesOn x params slots fit aside h) r)
      (sym (field_value i.contents (field_term h.tree (space_in t) (field_place h.tree (space_in t) f)) out v far.keeps ov))
      (then_known x (λ i r. Comes x i shape (GoesOn x params slots fit aside h) r) (comes_said x _ _) (λ p s1. IsPointed h.scope.names s1.names t p)
      (valued a st) (Good x params slots fit aside h t) (placed pc st i) (value h e s) (λ p. λ s1. write_field h t f how.Set v (aimed p) s1)
      (pointing x.forms params h e s fine to g.pointed g.typed g.count)
      (value_runs x params slots fit aside h 0 low e s pc st i fine g stands.0)
      (λ p s1 j reached k. sets_pointer h t own f out p v s1 a j far.pointer far.reachable far.certain far.field far.keeps far.may k.0 reached ov k.1 stands.1)))

  folds_pointer : (d : Op) (h : Here) (t : StaticType) (own : ℕ) (f : Name) (out from : StaticType) (u v : Value) (s : State) (pc : ℕ) (i : Instance) →
      IsPointer t → AreReachable (where_of params h) t → has_wild (reaches_of t) ≡ false →
      field_place h.tree (space_in t) f < length (space_at h.tree (space_in t)).fields →
      FieldKeeps (field_term h.tree (space_in t) (field_place h.tree (space_in t) f)) out →
      MayReach x.forms (where_of params h) (reaches_of t) (field_place h.tree (space_in t) f) (mode.Reduce d) → IsOf t u →
      IsPointed h.scope.names s.names t u → IsInteger out → IsInteger from → IsOf from v → Agrees x params slots aside h s i →
      Stands x.body pc (put_code (where_of params h) t own f (how.Reduce d)) →
      Comes x (placed pc (machine_value i.contents u ∷ machine.Number (kept_number v) ∷ []) i) (λ c j. placed (suc pc) [] j)
      (GoesOn x params slots fit aside h) (write_field h t f (how.Reduce d) v (aimed u) s)
  folds_pointer d h _ own f _ _ _ _ s pc i (a_pointer_type k sp args rs names) there certain field keeps may (of_pointer _ _ _ _ tg qs o) pointed
      (an_integer wd) (an_integer we) (of_integer _ y q) g stands =
      pointer_folds x params slots fit aside d h k sp own args rs f tg qs wd we y s pc [] i names certain pointed
      (λ p c is q to. absurd (there_no_part h.scope.names sp (pointer_type k sp args rs) there p c is)) o field may keeps g stands

  number_kept : (i : Instance) (t : StaticType) (v : Value) → IsInteger t → IsOf t v → machine_value i.contents v ≡ machine.Number (kept_number v)
  number_kept i _ _ (an_integer w) (of_integer _ y q) = refl

  pub folds_further : (d : Op) (h : Here) (e : Expression) (own : ℕ) (f : Name) (from : StaticType) (v : Value) (s : State) (pc : ℕ) (i : Instance) →
      params ≤ length h.scope.names → IsTyped x.forms (where_of params h) e → IsPointing (where_of params h) e →
      IsFurther x.forms (where_of params h) (typed (where_of params h) e) f (mode.Reduce d) →
      IsInteger (type_of_field h.tree (typed (where_of params h) e) f) → IsInteger from → IsOf from v → Agrees x params slots aside h s i →
      Stands x.body pc (expr_code (where_of params h) 0 e ⨟ put_code (where_of params h) (typed (where_of params h) e) own f (how.Reduce d)) →
      Does x params slots aside (valued pc [] v i) (suc (past (expr_code (where_of params h) 0 e) pc)) h
      (and_then (value h e s) (λ p. λ s1. write_field h (typed (where_of params h) e) f (how.Reduce d) v (aimed p) s1))
  folds_further d h e own f from v s pc i low fine to far io ifrom ov g stands =
      let w = where_of params h in
      let t = typed w e in
      let a = past (expr_code w 0 e) pc in
      let st = machine.Number (kept_number v) ∷ [] in
      let shape : Going → Instance → Instance = λ c j. placed (suc a) [] j in
      let r = and_then (value h e s) (λ p. λ s1. write_field h t f (how.Reduce d) v (aimed p) s1) in
      does_come x params slots fit aside (suc a) h _ r
      (subst (λ y. Comes x (placed pc (y ∷ []) i) shape (GoesOn x params slots fit aside h) r) (sym (number_kept i from v ifrom ov))
      (then_known x (λ i r. Comes x i shape (GoesOn x params slots fit aside h) r) (comes_said x _ _) (λ p s1. IsPointed h.scope.names s1.names t p)
      (valued a st) (Good x params slots fit aside h t) (placed pc st i) (value h e s) (λ p. λ s1. write_field h t f (how.Reduce d) v (aimed p) s1)
      (pointing x.forms params h e s fine to g.pointed g.typed g.count)
      (value_runs x params slots fit aside h 0 low e s pc st i fine g stands.0)
      (λ p s1 j reached k. folds_pointer d h t own f (type_of_field h.tree t f) from p v s1 a j far.pointer far.reachable far.certain far.field far.keeps far.may
      k.0 reached io ifrom ov k.1 stands.1)))

  -- ---- assignments

  -- the value comes to the stack before the pointer
  set_runs : (counts : CountsDown) (h : Here) (n : Name) (steps : Steps) (e to : Expression) (own : ℕ) (f : Name) (s : State) (pc : ℕ) (i : Instance) →
      params ≤ length h.scope.names → Assigned (typed (where_of params h) e) (typed (where_of params h) (access_expr n steps)) →
      IsTyped x.forms (where_of params h) e → typed (where_of params h) (access_expr n steps) ≡ type_of_field h.tree (typed (where_of params h) to) f →
      IsTyped x.forms (where_of params h) to → IsPointing (where_of params h) to →
      IsFurther x.forms (where_of params h) (typed (where_of params h) to) f mode.Write → Agrees x params slots aside h s i →
      Stands x.body pc (right_code (where_of params h) n steps how.Set e
      ⨟ (expr_code (where_of params h) 0 to ⨟ put_code (where_of params h) (typed (where_of params h) to) own f how.Set)) →
      Does x params slots aside (placed pc [] i) (suc (past (expr_code (where_of params h) 0 to) (past (right_code (where_of params h) n steps how.Set e) pc))) h
      (and_then (right_side h n steps how.Set e s)
      (λ v. λ s1. and_then (value h to s1) (λ p. λ s2. write_field h (typed (where_of params h) to) f how.Set v (aimed p) s2)))
  set_runs counts h n steps e to own f s pc i low into fine same there points far g stands =
      let w = where_of params h in
      let t = typed w e in
      let u = typed w (access_expr n steps) in
      let a = past (right_code w n steps how.Set e) pc in
      then x (does_said x params slots fit counts aside (suc (past (expr_code w 0 to) a)) h) (valued a []) (Good x params slots fit aside h u) _
      (right_side h n steps how.Set e s) _
      (then x (comes_said x _ _) _ _ _ (value h e s) _ (value_runs x params slots fit aside h 0 low e s pc [] i fine g stands.0.0)
      (λ v s1 j k. assigned_runs x params slots fit aside h t u [] v s1 _ [] j into k.0 k.1 stands.0.1))
      (λ v s1 j k. sets_further h to own f v s1 a j low there points far (subst (λ t. IsOf t v) same k.0) k.1 stands.1)

  reduce_runs : (counts : CountsDown) (d : Op) (h : Here) (n : Name) (steps : Steps) (e to : Expression) (own : ℕ) (f : Name) (s : State) (pc : ℕ) (i : Instance) →
      params ≤ length h.scope.names → IsInteger (typed (where_of params h) e) → IsInteger (typed (where_of params h) (access_expr n steps)) →
      IsTyped x.forms (where_of params h) e → typed (where_of params h) (access_expr n steps) ≡ type_of_field h.tree (typed (where_of params h) to) f →
      IsTyped x.forms (where_of params h) to → IsPointing (where_of params h) to →
      IsFurther x.forms (where_of params h) (typed (where_of params h) to) f (mode.Reduce d) → Agrees x params slots aside h s i →
      Stands x.body pc (expr_code (where_of params h) 0 e
      ⨟ (expr_code (where_of params h) 0 to ⨟ put_code (where_of params h) (typed (where_of params h) to) own f (how.Reduce d))) →
      Does x params slots aside (placed pc [] i) (suc (past (expr_code (where_of params h) 0 to) (past (expr_code (where_of params h) 0 e) pc))) h
      (and_then (value h e s)
      (λ v. λ s1. and_then (value h to s1) (λ p. λ s2. write_field h (typed (where_of params h) to) f (how.Reduce d) v (aimed p) s2)))
  reduce_runs counts d h n steps e to own f s pc i low number out fine same there points far g stands =
      let w = where_of params h in
      let t = typed w e in
      let a = past (expr_code w 0 e) pc in
      then x (does_said x params slots fit counts aside (suc (past (expr_code w 0 to) a)) h) (valued a []) (Good x params slots fit aside h t) _ (value h e s) _
      (value_runs x params slots fit aside h 0 low e s pc [] i fine g stands.0)
      (λ v s1 j k. folds_further d h to own f t v s1 a j low there points far (subst IsInteger same out) number k.0 k.1 stands.1)

  -- `p.f.g = v`, and of such of elements
  pub behind_set : (counts : CountsDown) (h : Here) (n f g : Name) (rest : Steps) (e : Expression) (s : State) (pc : ℕ) (i : Instance) → params ≤ length h.scope.names →
      IsSetThrough x.forms (where_of params h) n (field_step f (field_step g rest)) rest e → Agrees x params slots aside h s i →
      Stands x.body pc (form_code (where_of params h) (assign_form n (field_step f (field_step g rest)) how.Set e)) →
      Does x params slots aside (placed pc [] i) (past (form_code (where_of params h) (assign_form n (field_step f (field_step g rest)) how.Set e)) pc) h
      (exec h (assign_form n (field_step f (field_step g rest)) how.Set e) s)
  behind_set counts h n f g rest e s pc i low fine agrees stands =
      let w = where_of params h in
      let steps = field_step f (field_step g rest) in
      set_runs counts h n steps e (access_expr n (before_last steps)) _ (last_field steps) s pc i low fine.1 fine.2
      (last_type h.tree h.scope (field_step g rest) (bound_to h.scope.names n).static_type f fine.3.0) fine.3.1
      (front_pointing w n f g rest fine.3.0 fine.3.2.reachable) fine.3.2 agrees stands

  pub element_set : (counts : CountsDown) (h : Here) (n : Name) (y : Expression) (f g : Name) (rest : Steps) (e : Expression) (s : State) (pc : ℕ) (i : Instance) →
      params ≤ length h.scope.names →
      IsSetThrough x.forms (where_of params h) n (at_step y (field_step f (field_step g rest))) rest e → Agrees x params slots aside h s i →
      Stands x.body pc (form_code (where_of params h) (assign_form n (at_step y (field_step f (field_step g rest))) how.Set e)) →
      Does x params slots aside (placed pc [] i) (past (form_code (where_of params h) (assign_form n (at_step y (field_step f (field_step g rest))) how.Set e)) pc) h
      (exec h (assign_form n (at_step y (field_step f (field_step g rest))) how.Set e) s)
  element_set counts h n y f g rest e s pc i low fine agrees stands =
      let w = where_of params h in
      let steps = at_step y (field_step f (field_step g rest)) in
      set_runs counts h n steps e (access_expr n (before_last steps)) _ (last_field steps) s pc i low fine.1 fine.2
      (last_type h.tree h.scope (field_step g rest) (type_of_element h.scope (bound_to h.scope.names n).static_type y) f fine.3.0) fine.3.1
      (front_element_pointing w n y f g rest fine.3.0 fine.3.2.reachable) fine.3.2 agrees stands

  -- `p.f.g o= v`, and of such of elements
  pub behind_reduced : (counts : CountsDown) (o : Op) (h : Here) (n f g : Name) (rest : Steps) (e : Expression) (s : State) (pc : ℕ) (i : Instance) →
      params ≤ length h.scope.names → IsReducedThrough x.forms (where_of params h) n (field_step f (field_step g rest)) rest o e → Agrees x params slots aside h s i →
      Stands x.body pc (form_code (where_of params h) (assign_form n (field_step f (field_step g rest)) (how.Reduce o) e)) →
      Does x params slots aside (placed pc [] i) (past (form_code (where_of params h) (assign_form n (field_step f (field_step g rest)) (how.Reduce o) e)) pc) h
      (exec h (assign_form n (field_step f (field_step g rest)) (how.Reduce o) e) s)
  behind_reduced counts o h n f g rest e s pc i low fine agrees stands =
      let w = where_of params h in
      let steps = field_step f (field_step g rest) in
      reduce_runs counts o h n steps e (access_expr n (before_last steps)) _ (last_field steps) s pc i low fine.1 fine.2 fine.3
      (last_type h.tree h.scope (field_step g rest) (bound_to h.scope.names n).static_type f fine.4.0) fine.4.1
      (front_pointing w n f g rest fine.4.0 fine.4.2.reachable) fine.4.2 agrees stands

  pub element_reduced : (counts : CountsDown) (o : Op) (h : Here) (n : Name) (y : Expression) (f g : Name) (rest : Steps) (e : Expression) (s : State) (pc : ℕ)
      (i : Instance) → params ≤ length h.scope.names →
      IsReducedThrough x.forms (where_of params h) n (at_step y (field_step f (field_step g rest))) rest o e → Agrees x params slots aside h s i →
      Stands x.body pc (form_code (where_of params h) (assign_form n (at_step y (field_step f (field_step g rest))) (how.Reduce o) e)) →
      Does x params slots aside (placed pc [] i) (past (form_code (where_of params h) (assign_form n (at_step y (field_step f (field_step g rest))) (how.Reduce o) e)) pc) h
      (exec h (assign_form n (at_step y (field_step f (field_step g rest))) (how.Reduce o) e) s)
  element_reduced counts o h n y f g rest e s pc i low fine agrees stands =
      let w = where_of params h in
      let steps = at_step y (field_step f (field_step g rest)) in
      reduce_runs counts o h n steps e (access_expr n (before_last steps)) _ (last_field steps) s pc i low fine.1 fine.2 fine.3
      (last_type h.tree h.scope (field_step g rest) (type_of_element h.scope (bound_to h.scope.names n).static_type y) f fine.4.0) fine.4.1
      (front_element_pointing w n y f g rest fine.4.0 fine.4.2.reachable) fine.4.2 agrees stands

  -- so of elements of parts that have no name
  pub part_set_further : (counts : CountsDown) (h : Here) (n : Name) (y y2 : Expression) (f g : Name) (rest : Steps) (e : Expression) (s : State) (pc : ℕ)
      (i : Instance) → params ≤ length h.scope.names →
      IsSetThrough x.forms (where_of params h) n (at_step y (at_step y2 (field_step f (field_step g rest)))) rest e → Agrees x params slots aside h s i →
      Stands x.body pc (form_code (where_of params h) (assign_form n (at_step y (at_step y2 (field_step f (field_step g rest)))) how.Set e)) →
      Does x params slots aside (placed pc [] i) (past (form_code (where_of params h) (assign_form n (at_step y (at_step y2 (field_step f (field_step g rest)))) how.Set e)) pc) h
      (exec h (assign_form n (at_step y (at_step y2 (field_step f (field_step g rest)))) how.Set e) s)
  part_set_further counts h n y y2 f g rest e s pc i low fine agrees stands =
      let w = where_of params h in
      let steps = at_step y (at_step y2 (field_step f (field_step g rest))) in
      set_runs counts h n steps e (access_expr n (before_last steps)) _ (last_field steps) s pc i low fine.1 fine.2
      (last_type h.tree h.scope (field_step g rest) (type_of_element h.scope (type_of_element h.scope (bound_to h.scope.names n).static_type y) y2) f fine.3.0)
      fine.3.1 (front_part_pointing w n y y2 f g rest fine.3.0 fine.3.2.reachable) fine.3.2 agrees stands

  pub part_reduced_further : (counts : CountsDown) (o : Op) (h : Here) (n : Name) (y y2 : Expression) (f g : Name) (rest : Steps) (e : Expression) (s : State) (pc : ℕ)
      (i : Instance) → params ≤ length h.scope.names →
      IsReducedThrough x.forms (where_of params h) n (at_step y (at_step y2 (field_step f (field_step g rest)))) rest o e → Agrees x params slots aside h s i →
      Stands x.body pc (form_code (where_of params h) (assign_form n (at_step y (at_step y2 (field_step f (field_step g rest)))) (how.Reduce o) e)) →
      Does x params slots aside (placed pc [] i) (past (form_code (where_of params h) (assign_form n (at_step y (at_step y2 (field_step f (field_step g rest)))) (how.Reduce o) e)) pc) h
      (exec h (assign_form n (at_step y (at_step y2 (field_step f (field_step g rest)))) (how.Reduce o) e) s)
  part_reduced_further counts o h n y y2 f g rest e s pc i low fine agrees stands =
      let w = where_of params h in
      let steps = at_step y (at_step y2 (field_step f (field_step g rest))) in
      reduce_runs counts o h n steps e (access_expr n (before_last steps)) _ (last_field steps) s pc i low fine.1 fine.2 fine.3
      (last_type h.tree h.scope (field_step g rest) (type_of_element h.scope (type_of_element h.scope (bound_to h.scope.names n).static_type y) y2) f fine.4.0)
      fine.4.1 (front_part_pointing w n y y2 f g rest fine.4.0 fine.4.2.reachable) fine.4.2 agrees stands
