-- Assignments to fields of elements of a part that has no name.
use Rattle.std.proofs.Common.{◌≡◌, ℕ, suc, ◌^◌, ◌<◌, ◌≤◌, [], ◌∷◌, Some, refl, sym, ap, ◌∙◌, subst, ℤ, arith}
use Rattle.std.specs.Prelude.{get_or, length}
use Rattle.lane_kernels.specs.declared.numbers.Mode.TheVariants as mode
use Rattle.lane_kernels.specs.declared.numbers.Op.{Op}
use Rattle.regent_tree.specs.Accesses.{aimed, space_in}
use Rattle.regent_tree.specs.Evaluation.{value}
use Rattle.regent_tree.specs.Execution.{Going, exec, right_side, write_field, write_to}
use Rattle.regent_tree.specs.Running.{Here, Run, State, and_then}
use Rattle.regent_tree.specs.Scopes.{bound_as, bound_to}
use Rattle.regent_tree.specs.StaticTypes.{field_place, field_term}
use Rattle.regent_tree.specs.Syntax.{Expression, Name, access_expr, assign_form, at_step, field_step, no_step}
use Rattle.regent_tree.specs.Typing.{type_of_element, type_of_field}
use Rattle.regent_tree.specs.Values.{Region, Value, a_pointer, kept_number, kept_target, no_region, point_target}
use Rattle.regent_tree.specs.declared.facts.Term.TheVariants as term
use Rattle.regent_tree.specs.declared.statement.How.{How}
use Rattle.regent_tree.specs.declared.statement.How.TheVariants as how
use Rattle.regent_tree.specs.declared.typing.StaticType.{StaticType}
use Rattle.regent_tree.specs.declared.typing.StaticType.TheVariants.{Pointer as pointer_type}
use Rattle.machine_terms.specs.declared.order.Instance.{Instance}
use Rattle.machine_terms.specs.declared.value.Value.TheVariants as machine
use Rattle.code_rules.specs.Assignments.{put_code, right_code, target_code}
use Rattle.code_rules.specs.Expressions.{expr_code}
use Rattle.code_rules.specs.Pieces.{past}
use Rattle.code_rules.specs.Slots.{own_slot, spare, typed}
use Rattle.code_rules.specs.Statements.{form_code}
use Rattle.code_laws.specs.Pointers.{FieldKeeps, IsCounting, IsOfPart}
use Rattle.code_laws.specs.Simple.{IsInteger, an_integer}
use Rattle.code_laws.specs.Standing.{Agrees, Aside, Comes, Does, IsOf, SlotsFit, Stands, machine_value, of_integer, where_of}
use Rattle.code_laws.specs.Steps.{Setting, placed}
use Rattle.code_laws.specs.Typed.{CountsDown, IsPiece, IsSetInPart, IsReducedInPart, IsTyped, MayUse, part_element}
use Rattle.code_laws.proofs.Accesses.{HasRegion}
use Rattle.code_laws.proofs.Expressions.{value_at, value_runs}
use Rattle.code_laws.proofs.Going.{does_come}
use Rattle.code_laws.proofs.Good.{Good, valued}
use Rattle.code_laws.proofs.Moving.{assigned_runs}
use Rattle.code_laws.proofs.PartElements.{IsPut, part_points, slot_put}
use Rattle.code_laws.proofs.PartTypes.{IsPartPointer, a_part_pointer, part_pointer}
use Rattle.code_laws.proofs.Rows.{does_said}
use Rattle.code_laws.proofs.Runs.{comes_said, then}
use Rattle.code_laws.proofs.Through.{pointer_folds, pointer_writes}
use Rattle.code_laws.proofs.Writes.{GoesOn, Written, field_value}

module _ (x : Setting) (params slots : ℕ) (fit : SlotsFit x slots) (aside : Aside 0) where
  -- a field of a point of the part in a slot is written
  put_writes : (h : Here) (t : StaticType) (own sp sl : ℕ) (f : Name) (v : Value) (m : ℕ) (q : Region) (s : State) (pc : ℕ) (j : Instance) →
      IsPartPointer t own sp → HasRegion j sl q → m < 2 ^ 32 →
      IsOfPart h.scope.names (bound_as h.scope.names own) (length h.scope.names) s.names sp own q →
      MayUse x.forms (where_of params h) t f mode.Write → IsOf (type_of_field h.tree t f) v → Agrees x params slots aside h s j →
      Stands x.body pc (put_code (where_of params h) t sl f how.Set) →
      Written x params slots fit aside pc h [] (placed pc (machine.Number (kept_target (point_target m 1)) ∷ machine.Number (kept_number v) ∷ []) j)
      (write_field h t f how.Set v (aimed (a_pointer (point_target m 1) (q ∷ []))) s)
  put_writes h _ _ _ sl f v m q s pc j (a_part_pointer k sp args own c) there small lies may ov g stands =
      let rs = Some (term.Child own c) ∷ [] in
      pointer_writes x params slots fit aside h k sp sl args rs f (point_target m 1) (q ∷ []) (type_of_field h.tree (pointer_type k sp args rs) f) v s pc [] j
      refl refl (lies, tt) (λ p c is u to. subst (λ qs. HasRegion j sl (get_or qs 0 no_region)) to there) (small, omega arith)
      may.field may.may may.keeps ov g stands

  -- or reduced
  put_folds : (o : Op) (h : Here) (t : StaticType) (own sp sl : ℕ) (f : Name) (out from : StaticType) (v : Value) (m : ℕ) (q : Region) (s : State) (pc : ℕ)
      (j : Instance) → IsPartPointer t own sp → HasRegion j sl q → m < 2 ^ 32 →
      IsOfPart h.scope.names (bound_as h.scope.names own) (length h.scope.names) s.names sp own q →
      MayUse x.forms (where_of params h) t f (mode.Reduce o) → type_of_field h.tree t f ≡ out → IsInteger out → IsInteger from → IsOf from v →
      Agrees x params slots aside h s j → Stands x.body pc (put_code (where_of params h) t sl f (how.Reduce o)) →
      Written x params slots fit aside pc h [] (placed pc (machine.Number (kept_target (point_target m 1)) ∷ machine.Number (kept_number v) ∷ []) j)
      (write_field h t f (how.Reduce o) v (aimed (a_pointer (point_target m 1) (q ∷ []))) s)
  put_folds o h _ _ _ sl f _ _ _ m q s pc j (a_part_pointer k sp args own c) there small lies may is (an_integer wd) (an_integer we) (of_integer _ y p) g stands =
      let rs = Some (term.Child own c) ∷ [] in
      pointer_folds x params slots fit aside o h k sp sl args rs f (point_target m 1) (q ∷ []) wd we y s pc [] j
      refl refl (lies, tt) (λ p c is u to. subst (λ qs. HasRegion j sl (get_or qs 0 no_region)) to there) (small, omega arith)
      may.field may.may (subst (FieldKeeps (field_term h.tree sp (field_place h.tree sp f))) is may.keeps) g stands

  -- a pointer to an element stands on the stack, above a number, and the part in its slot
  module _ (h : Here) (n : Name) (e i : Expression) (s : State) (pc : ℕ) (z : ℤ) (j0 : Instance) (low : params ≤ length h.scope.names)
      (piece : IsPiece (where_of params h) n e) (first : IsTyped x.forms (where_of params h) e × IsCounting (typed (where_of params h) e))
      (second : IsTyped x.forms (where_of params h) i × IsCounting (typed (where_of params h) i)) (g : Agrees x params slots aside h s j0) where
    -- the code of the target, to its end
    abbrev target_ends : Name → How → ℕ
    target_ends f how = past (target_code (where_of params h) n (at_step e (at_step i (field_step f no_step))) how) pc

    puts : (f : Name) (how : How) (v : Value) → Stands x.body pc (target_code (where_of params h) n (at_step e (at_step i (field_step f no_step))) how) →
        target_ends f how ≡ suc (past (expr_code (where_of params h) 0 (access_expr n (at_step e (at_step i no_step)))) pc) →
        ((m : ℕ) (q : Region) (s1 : State) (j : Instance) (a : ℕ) → IsPut x params slots fit aside h n 0 q s1 j → m < 2 ^ 32 → Agrees x params slots aside h s1 j →
        Stands x.body a (put_code (where_of params h) (part_element (where_of params h) n e i) (spare (where_of params h) 0) f how) →
        Written x params slots fit aside a h [] (placed a (machine.Number (kept_target (point_target m 1)) ∷ machine.Number z ∷ []) j)
        (write_field h (part_element (where_of params h) n e i) f how v (aimed (a_pointer (point_target m 1) (q ∷ []))) s1)) →
        Does x params slots aside (placed pc (machine.Number z ∷ []) j0) (target_ends f how) h
        (write_to h n (at_step e (at_step i (field_step f no_step))) how v s)
    puts f how v stands ends more =
        let w = where_of params h in
        let from = access_expr n (at_step e (at_step i no_step)) in
        let st = machine.Number z ∷ [] in
        let done = target_ends f how in
        let pt = part_element w n e i in
        let a = past (expr_code w 0 from) pc in
        let shape : Going → Instance → Instance = λ c j. placed done [] j in
        let K : Value → Run Going = λ p. write_field h pt f how v (aimed p) in
        let put_at = subst (λ sl. Stands x.body a (put_code w pt sl f how))
        (slot_put w 0 (bound_to h.scope.names n).static_type (type_of_element h.scope (bound_to h.scope.names n).static_type e)
        (own_slot w (bound_to h.scope.names n).static_type (bound_to h.scope.names n).place) piece.0.partition piece.2) stands.1 in
        does_come x params slots fit aside done h _ (and_then (value h from s) K)
        (part_points x params slots fit aside (comes_said x shape (GoesOn x params slots fit aside h)) h 0 n e i no_step s pc st j0 K (omega arith) low piece
        (λ b f1. value_runs x params slots fit aside h 0 low e s b st j0 first.0 g f1) first.1
        (λ more s1 j b g1 f1. value_at x params slots fit more h 1 (low, omega arith) i s1 b st j second.0 g1 f1) second.1 g stands.0
        (λ m q s1 j b put has_it g1 code at_end.
        subst (λ d. Comes x (placed b (machine.Number (kept_target (point_target m 1)) ∷ st) j) (λ c j. placed d [] j) (GoesOn x params slots fit aside h)
        (K (a_pointer (point_target m 1) (q ∷ [])) s1)) (ap suc at_end ∙ sym ends)
        (more m q s1 j b put (put.small m has_it) g1 (subst (λ a. Stands x.body a (put_code w pt (spare w 0) f how)) (sym at_end) put_at))))

  -- `p[e][i].f = v`, with the value on the stack
  sets_part : (h : Here) (n : Name) (e i : Expression) (f : Name) (v : Value) (s : State) (pc : ℕ) (j0 : Instance) → params ≤ length h.scope.names →
      IsPiece (where_of params h) n e → IsTyped x.forms (where_of params h) e × IsCounting (typed (where_of params h) e) →
      IsTyped x.forms (where_of params h) i × IsCounting (typed (where_of params h) i) →
      MayUse x.forms (where_of params h) (part_element (where_of params h) n e i) f mode.Write →
      IsOf (type_of_field h.tree (part_element (where_of params h) n e i) f) v → Agrees x params slots aside h s j0 →
      Stands x.body pc (target_code (where_of params h) n (at_step e (at_step i (field_step f no_step))) how.Set) →
      Does x params slots aside (valued pc [] v j0) (past (target_code (where_of params h) n (at_step e (at_step i (field_step f no_step))) how.Set) pc) h
      (write_to h n (at_step e (at_step i (field_step f no_step))) how.Set v s)
  sets_part h n e i f v s pc j0 low piece first second may ov g stands =
      let w = where_of params h in
      let pt = part_element w n e i in
      let done = past (target_code w n (at_step e (at_step i (field_step f no_step))) how.Set) pc in
      subst (λ u. Does x params slots aside (placed pc (u ∷ []) j0) done h (write_to h n (at_step e (at_step i (field_step f no_step))) how.Set v s))
      (sym (field_value j0.contents (field_term h.tree (space_in pt) (field_place h.tree (space_in pt) f)) (type_of_field h.tree pt f) v may.keeps ov))
      (puts h n e i s pc (kept_number v) j0 low piece first second g f how.Set v stands refl
      (λ m q s1 j a put small g1 put_at. put_writes h pt _ _ (spare w 0) f v m q s1 a j (part_pointer w n e i piece) put.there small put.lies may ov g1 put_at))

  number_kept : (j : Instance) (t : StaticType) (v : Value) → IsInteger t → IsOf t v → machine_value j.contents v ≡ machine.Number (kept_number v)
  number_kept j _ _ (an_integer w) (of_integer _ y q) = refl

  -- `p[e][i].f o= v`
  folds_part : (o : Op) (h : Here) (n : Name) (e i : Expression) (f : Name) (from : StaticType) (v : Value) (s : State) (pc : ℕ) (j0 : Instance) →
      params ≤ length h.scope.names → IsPiece (where_of params h) n e → IsTyped x.forms (where_of params h) e × IsCounting (typed (where_of params h) e) →
      IsTyped x.forms (where_of params h) i × IsCounting (typed (where_of params h) i) →
      MayUse x.forms (where_of params h) (part_element (where_of params h) n e i) f (mode.Reduce o) →
      IsInteger (type_of_field h.tree (part_element (where_of params h) n e i) f) → IsInteger from → IsOf from v → Agrees x params slots aside h s j0 →
      Stands x.body pc (target_code (where_of params h) n (at_step e (at_step i (field_step f no_step))) (how.Reduce o)) →
      Does x params slots aside (valued pc [] v j0) (past (target_code (where_of params h) n (at_step e (at_step i (field_step f no_step))) (how.Reduce o)) pc) h
      (write_to h n (at_step e (at_step i (field_step f no_step))) (how.Reduce o) v s)
  folds_part o h n e i f from v s pc j0 low piece first second may io ifrom ov g stands =
      let w = where_of params h in
      let pt = part_element w n e i in
      let done = past (target_code w n (at_step e (at_step i (field_step f no_step))) (how.Reduce o)) pc in
      subst (λ u. Does x params slots aside (placed pc (u ∷ []) j0) done h (write_to h n (at_step e (at_step i (field_step f no_step))) (how.Reduce o) v s))
      (sym (number_kept j0 from v ifrom ov))
      (puts h n e i s pc (kept_number v) j0 low piece first second g f (how.Reduce o) v stands refl
      (λ m q s1 j a put small g1 put_at. put_folds o h pt _ _ (spare w 0) f _ from v m q s1 a j (part_pointer w n e i piece) put.there small put.lies may refl io ifrom ov g1 put_at))

  -- ---- assignments, with the value first

  pub part_set : (counts : CountsDown) (h : Here) (n : Name) (e i : Expression) (f : Name) (y : Expression) (s : State) (pc : ℕ) (j0 : Instance) →
      params ≤ length h.scope.names → IsSetInPart x.forms (where_of params h) n e i f y → Agrees x params slots aside h s j0 →
      Stands x.body pc (form_code (where_of params h) (assign_form n (at_step e (at_step i (field_step f no_step))) how.Set y)) →
      Does x params slots aside (placed pc [] j0) (past (form_code (where_of params h) (assign_form n (at_step e (at_step i (field_step f no_step))) how.Set y)) pc) h
      (exec h (assign_form n (at_step e (at_step i (field_step f no_step))) how.Set y) s)
  part_set counts h n e i f y s pc j0 low fine g stands =
      let w = where_of params h in
      let steps = at_step e (at_step i (field_step f no_step)) in
      let t = typed w y in
      let u = type_of_field h.tree (part_element w n e i) f in
      then x (does_said x params slots fit counts aside (past (form_code w (assign_form n steps how.Set y)) pc) h)
      (valued (past (right_code w n steps how.Set y) pc) []) (Good x params slots fit aside h u) _ (right_side h n steps how.Set y s) _
      (then x (comes_said x _ _) _ _ _ (value h y s) _ (value_runs x params slots fit aside h 0 low y s pc [] j0 fine.2 g stands.0.0)
      (λ v s1 j k. assigned_runs x params slots fit aside h t u [] v s1 _ [] j fine.1 k.0 k.1 stands.0.1))
      (λ v s1 j k. sets_part h n e i f v s1 _ j low fine.3 fine.4 fine.5 fine.6 k.0 k.1 stands.1)

  pub part_reduced : (counts : CountsDown) (o : Op) (h : Here) (n : Name) (e i : Expression) (f : Name) (y : Expression) (s : State) (pc : ℕ) (j0 : Instance) →
      params ≤ length h.scope.names → IsReducedInPart x.forms (where_of params h) n e i f o y → Agrees x params slots aside h s j0 →
      Stands x.body pc (form_code (where_of params h) (assign_form n (at_step e (at_step i (field_step f no_step))) (how.Reduce o) y)) →
      Does x params slots aside (placed pc [] j0) (past (form_code (where_of params h) (assign_form n (at_step e (at_step i (field_step f no_step))) (how.Reduce o) y)) pc) h
      (exec h (assign_form n (at_step e (at_step i (field_step f no_step))) (how.Reduce o) y) s)
  part_reduced counts o h n e i f y s pc j0 low fine g stands =
      let w = where_of params h in
      let t = typed w y in
      then x (does_said x params slots fit counts aside (past (form_code w (assign_form n (at_step e (at_step i (field_step f no_step))) (how.Reduce o) y)) pc) h)
      (valued (past (expr_code w 0 y) pc) []) (Good x params slots fit aside h t) _ (value h y s) _
      (value_runs x params slots fit aside h 0 low y s pc [] j0 fine.3 g stands.0)
      (λ v s1 j k. folds_part o h n e i f t v s1 _ j low fine.4 fine.5 fine.6 fine.7 fine.2 fine.1 k.0 k.1 stands.1)
