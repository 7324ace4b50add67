-- Fields of elements of a part that has no name: they are reached through the spare slot in which the part is.
use Rattle.std.proofs.Common.{ℕ, suc, ◌^◌, ◌<◌, ◌≤◌, List, [], ◌∷◌, Some, refl, subst, arith}
use Rattle.std.specs.Prelude.{get_or, length}
use Rattle.lane_kernels.specs.declared.numbers.Mode.TheVariants as mode
use Rattle.regent_tree.specs.Accesses.{take_field}
use Rattle.regent_tree.specs.Evaluation.{stepped, value}
use Rattle.regent_tree.specs.Running.{Here, State}
use Rattle.regent_tree.specs.Scopes.{Scope, bound_as, bound_to}
use Rattle.regent_tree.specs.Syntax.{Expression, Name, Steps, access_expr, at_step, field_step, no_step}
use Rattle.regent_tree.specs.Typing.{stepped_type, type_of_element, type_of_field}
use Rattle.regent_tree.specs.Values.{Region, a_pointer, kept_target, no_region, point_target}
use Rattle.regent_tree.specs.declared.facts.Term.TheVariants as term
use Rattle.regent_tree.specs.declared.typing.StaticType.{StaticType}
use Rattle.regent_tree.specs.declared.typing.StaticType.TheVariants.{Pointer as pointer_type}
use Rattle.machine_terms.specs.declared.order.Instance.{Instance}
use Rattle.machine_terms.specs.declared.value.Value.{Value as MachineValue}
use Rattle.machine_terms.specs.declared.value.Value.TheVariants as machine
use Rattle.code_rules.specs.Expressions.{expr_code, steps_code}
use Rattle.code_rules.specs.Instructions.{field_code}
use Rattle.code_rules.specs.Pieces.{past}
use Rattle.code_rules.specs.Slots.{spare, typed}
use Rattle.code_laws.specs.Pointers.{IsCounting, IsOfPart, IsPointed}
use Rattle.code_laws.specs.Simple.{IsRegion, a_region_type}
use Rattle.code_laws.specs.Standing.{Agrees, Aside, Comes, IsOf, SlotsFit, Stands, nothing, of_pointer, where_of}
use Rattle.code_laws.specs.Steps.{Setting, placed}
use Rattle.code_laws.specs.Typed.{AreFurther, IsPiece, MayUse, part_element}
use Rattle.code_laws.proofs.Accesses.{HasRegion}
use Rattle.code_laws.proofs.Behind.{then_given}
use Rattle.code_laws.proofs.Further.{then_further}
use Rattle.code_laws.proofs.Good.{Gives, Good, valued}
use Rattle.code_laws.proofs.Knowing.{only_given, taken_pointed}
use Rattle.code_laws.proofs.PartElements.{RunsDeeper, after, elements_on, part_points}
use Rattle.code_laws.proofs.PartTypes.{IsPartPointer, a_part_pointer, is_pointer_type, part_pointer}
use Rattle.code_laws.proofs.Runs.{comes_said}
use Rattle.code_laws.proofs.Through.{pointer_reads}

-- a pointer to an element of a part is of its type
pub part_pointer_typed : (sc : Scope) (rt : StaticType) (i : Expression) (m : ℕ) (q : Region) → IsRegion rt → m < 2 ^ 32 →
    IsOf (type_of_element sc rt i) (a_pointer (point_target m 1) (q ∷ []))
part_pointer_typed sc _ i m q (a_region_type k sp args r) small = of_pointer k sp args (Some r ∷ []) (point_target m 1) (q ∷ []) (small, omega arith)

module _ (x : Setting) (params slots : ℕ) (fit : SlotsFit x slots) {deep : ℕ} (aside : Aside deep) where
  -- a field of a point of the part in a slot
  put_reads : (h : Here) (t : StaticType) (own sp sl : ℕ) (f : Name) (m : ℕ) (q : Region) (s : State) (pc : ℕ) (st : List MachineValue) (j : Instance) →
      IsPartPointer t own sp → HasRegion j sl q → m < 2 ^ 32 →
      IsOfPart h.scope.names (bound_as h.scope.names own) (length h.scope.names) s.names sp own q →
      MayUse x.forms (where_of params h) t f mode.Read → Agrees x params slots aside h s j → Stands x.body pc (field_code (where_of params h) t sl f) →
      Gives x params slots fit aside h (type_of_field h.tree t f) (field_code (where_of params h) t sl f) pc
      (machine.Number (kept_target (point_target m 1)) ∷ st) st j (take_field h t f (a_pointer (point_target m 1) (q ∷ [])) s)
  put_reads h _ _ _ sl f m q s pc st j (a_part_pointer k sp args own c) there small lies may g stands =
      let rs = Some (term.Child own c) ∷ [] in
      pointer_reads x params slots fit aside h k sp sl args rs f (point_target m 1) (q ∷ []) (type_of_field h.tree (pointer_type k sp args rs) f) s pc st j
      refl refl (lies, tt) (λ p c is u to. subst (λ qs. HasRegion j sl (get_or qs 0 no_region)) to there) (small, omega arith)
      may.field may.may may.keeps g stands

  -- and what comes behind it
  put_further : (h : Here) (d : ℕ) (t : StaticType) (own sp sl : ℕ) (f : Name) (rest : Steps) (m : ℕ) (q : Region) (s : State) (pc : ℕ)
      (st : List MachineValue) (j : Instance) → IsPartPointer t own sp → HasRegion j sl q → m < 2 ^ 32 →
      IsOfPart h.scope.names (bound_as h.scope.names own) (length h.scope.names) s.names sp own q →
      MayUse x.forms (where_of params h) t f mode.Read → AreFurther x.forms (where_of params h) (type_of_field h.tree t f) rest →
      Agrees x params slots aside h s j → Stands x.body pc (steps_code (where_of params h) d t sl (field_step f rest)) →
      Gives x params slots fit aside h (stepped_type h.tree h.scope t (field_step f rest)) (steps_code (where_of params h) d t sl (field_step f rest)) pc
      (machine.Number (kept_target (point_target m 1)) ∷ st) st j (stepped h t (a_pointer (point_target m 1) (q ∷ [])) (field_step f rest) s)
  put_further h d t own sp sl f no_step m q s pc st j is there small lies may fine g stands =
      let w = where_of params h in
      let u = type_of_field h.tree t f in
      then_given x params slots fit aside (valued (past (field_code w t sl f) pc) st) (Good x params slots fit aside h u)
      (placed pc (machine.Number (kept_target (point_target m 1)) ∷ st) j) (take_field h t f (a_pointer (point_target m 1) (q ∷ [])) s)
      (put_reads h t own sp sl f m q s pc st j is there small lies may g stands.0)
  put_further h d t own sp sl f (field_step more rest) m q s pc st j is there small lies may fine g stands =
      let w = where_of params h in
      let u = type_of_field h.tree t f in
      let v = a_pointer (point_target m 1) (q ∷ []) in
      then_further x params slots fit aside h d u more rest (placed pc (machine.Number (kept_target (point_target m 1)) ∷ st) j)
      (past (field_code w t sl f) pc) st (take_field h t f v s) fine
      (only_given (λ y s1. IsPointed h.scope.names s1.names u y) (take_field h t f v s)
      (taken_pointed h t f v s (is_pointer_type t own sp is) (g.typed, g.count, fine.0.reachable)))
      (put_reads h t own sp sl f m q s pc st j is there small lies may g stands.0) stands.1
  put_further h d t own sp sl f (at_step i rest) m q s pc st j is there small lies may fine g stands = absurd fine

  -- `p[e][i].f`, and what comes behind it
  pub part_reads : (h : Here) (d : ℕ) (n : Name) (e i : Expression) (f : Name) (rest : Steps) (s : State) (pc : ℕ) (st : List MachineValue) (j0 : Instance) →
      deep ≤ d → params ≤ length h.scope.names → IsPiece (where_of params h) n e →
      ((pc : ℕ) → Stands x.body pc (expr_code (where_of params h) d e) →
      Gives x params slots fit aside h (typed (where_of params h) e) (expr_code (where_of params h) d e) pc st st j0 (value h e s)) →
      IsCounting (typed (where_of params h) e) → RunsDeeper x params slots fit aside h d i st → IsCounting (typed (where_of params h) i) →
      MayUse x.forms (where_of params h) (part_element (where_of params h) n e i) f mode.Read →
      AreFurther x.forms (where_of params h) (type_of_field h.tree (part_element (where_of params h) n e i) f) rest → Agrees x params slots aside h s j0 →
      Stands x.body pc (expr_code (where_of params h) d (access_expr n (at_step e (at_step i (field_step f rest))))) →
      Gives x params slots fit aside h (typed (where_of params h) (access_expr n (at_step e (at_step i (field_step f rest)))))
      (expr_code (where_of params h) d (access_expr n (at_step e (at_step i (field_step f rest))))) pc st st j0
      (value h (access_expr n (at_step e (at_step i (field_step f rest)))) s)
  part_reads h d n e i f rest s pc st j0 within low piece runs index runs2 index2 may fine g stands =
      let w = where_of params h in
      let b0 = bound_to h.scope.names n in
      let from = access_expr n (at_step e (at_step i (field_step f rest))) in
      let pointer = part_pointer w n e i piece in
      let done = past (expr_code w d from) pc in
      subst (Comes x (placed pc st j0) (valued done st) (Good x params slots fit aside h (typed w from)))
      (elements_on h b0.static_type e i (field_step f rest) (get_or s.names b0.place nothing) s)
      (part_points x params slots fit aside (comes_said x (valued done st) (Good x params slots fit aside h (typed w from)))
      h d n e i (field_step f rest) s pc st j0 (after h b0.static_type e i (field_step f rest)) within low piece runs index runs2 index2 g stands
      (λ m q s1 j a put b g1 code ends.
      subst (λ c. Comes x (placed a (machine.Number (kept_target (point_target m 1)) ∷ st) j) (valued c st) (Good x params slots fit aside h (typed w from))
      (after h b0.static_type e i (field_step f rest) (a_pointer (point_target m 1) (q ∷ [])) s1)) ends
      (put_further h (suc (suc d)) (part_element w n e i) _ _ (spare w d) f rest m q s1 a st j pointer put.there (put.small m b) put.lies
      may fine g1 code)))
