-- A variable that begins as an element of a part that has no name: the part was put aside where it stands beside the variable.
use Rattle.std.proofs.Common.{◌≡◌, ℕ, suc, ◌≤◌, ◌<◌, [], ◌∷◌, List, None, Some, refl, sym, subst, arith}
use Rattle.std.specs.Prelude.{get_or, length}
use Rattle.std.proofs.lemmas.Option.{get_or_from_slice_get}
use Rattle.regent_tree.specs.Execution.{after_statement, bind, exec}
use Rattle.regent_tree.specs.Running.{Here, State}
use Rattle.regent_tree.specs.Scopes.{bound_as, bound_to}
use Rattle.regent_tree.specs.Store.{Store}
use Rattle.regent_tree.specs.Syntax.{Expression, Name, access_expr, at_step, no_step, plain_initializer, var_form}
use Rattle.regent_tree.specs.Typing.{owned, type_of_element}
use Rattle.regent_tree.specs.Values.{Region, Value, a_pointer, a_region, kept_target, point_target}
use Rattle.regent_tree.specs.declared.typing.Bound.{Bound}
use Rattle.regent_tree.specs.declared.typing.StaticType.{StaticType}
use Rattle.task_code.specs.declared.code.Line.{Line}
use Rattle.task_code.specs.declared.instr.Instr.TheVariants as instr
use Rattle.machine_terms.specs.declared.order.Instance.{Instance}
use Rattle.machine_terms.specs.declared.value.Value.TheVariants as machine
use Rattle.code_rules.specs.Expressions.{expr_code}
use Rattle.code_rules.specs.Initializers.{new_place, plain_code}
use Rattle.code_rules.specs.Pieces.{op, past}
use Rattle.code_rules.specs.Slots.{Where, beside, slot, spare, typed}
use Rattle.code_rules.specs.Statements.{begun_form, form_code}
use Rattle.code_laws.specs.Pointers.{IsOfPart, IsPointed}
use Rattle.code_laws.specs.Standing.{Agrees, Aside, Does, IsInside, IsOf, SlotsFit, Stands, blank, machine_value, where_of}
use Rattle.code_laws.specs.Steps.{Setting, placed}
use Rattle.code_laws.specs.Simple.{IsRegion}
use Rattle.code_laws.specs.Typed.{CountsDown, IsPartElement, IsTyped}
use Rattle.code_laws.proofs.Expressions.{value_at, value_runs}
use Rattle.code_laws.proofs.PartElements.{part_points}
use Rattle.code_laws.proofs.PartReads.{part_pointer_typed}
use Rattle.code_laws.proofs.PartTypes.{IsPartPointer, a_part_pointer, is_pointer_type, part_pointer}
use Rattle.code_laws.proofs.RegionLoops.{only_one}
use Rattle.code_laws.proofs.Rows.{does_said}
use Rattle.code_laws.proofs.Under.{pointer_not_region, type_under}
use Rattle.code_laws.proofs.Variables.{binds}

-- ---- a variable of the type of a pointer into a part

part_owned : (n : ℕ) (t : StaticType) (own sp : ℕ) → IsPartPointer t own sp → t ≡ owned n t
part_owned n _ _ _ (a_part_pointer k sp args own c) = refl

part_past : (w : Where) (n : ℕ) (t : StaticType) (own sp : ℕ) (p : Name) (e i : Expression) (pc : ℕ) → IsPartPointer t own sp →
    past (plain_code w (owned n t) (access_expr p (at_step e (at_step i no_step)))) pc ≡ past (expr_code w 0 (access_expr p (at_step e (at_step i no_step)))) pc
part_past w n _ _ _ p e i pc (a_part_pointer k sp args own c) = refl

part_stands : (body : List Line) (w : Where) (n : ℕ) (t : StaticType) (own sp : ℕ) (p : Name) (e i : Expression) (pc : ℕ) → IsPartPointer t own sp →
    Stands body pc (plain_code w (owned n t) (access_expr p (at_step e (at_step i no_step)))) →
    Stands body pc (expr_code w 0 (access_expr p (at_step e (at_step i no_step))))
part_stands body w n _ _ _ p e i pc (a_part_pointer k sp args own c) f = f.0

part_inside : (x : Setting) (store : Store) (t : StaticType) (own sp : ℕ) (v : Value) → IsPartPointer t own sp → IsInside x store t v
part_inside x store _ _ _ v (a_part_pointer k sp args own c) = tt

part_pointed : (bs : List Bound) (names : List Value) (t : StaticType) (own sp m : ℕ) (q : Region) → IsPartPointer t own sp →
    IsOfPart bs (bound_as bs own) (length bs) names sp own q → IsPointed bs names t (a_pointer (point_target m 1) (q ∷ []))
part_pointed bs names _ _ _ m q (a_part_pointer k sp args own c) lies = (lies, tt)

module _ (x : Setting) (params slots : ℕ) (fit : SlotsFit x slots) (counts : CountsDown) where
  element_begins : (aside : Aside 0) (h : Here) (n p : Name) (e i : Expression) (s : State) (pc : ℕ) (j0 : Instance) → params ≤ length h.scope.names →
      IsTyped x.forms (where_of params h) (access_expr p (at_step e (at_step i no_step))) → Agrees x params slots aside h s j0 →
      Stands x.body pc (begun_form (where_of params h) None (Some (plain_initializer (access_expr p (at_step e (at_step i no_step)))))) →
      Does x params slots aside (placed pc [] j0)
      (past (begun_form (where_of params h) None (Some (plain_initializer (access_expr p (at_step e (at_step i no_step)))))) pc)
      (after_statement h (var_form n None (Some (plain_initializer (access_expr p (at_step e (at_step i no_step)))))))
      (exec h (var_form n None (Some (plain_initializer (access_expr p (at_step e (at_step i no_step)))))) s)
  element_begins aside h n p e i s pc j0 low fine g f =
      let w = where_of params h in
      let from = access_expr p (at_step e (at_step i no_step)) in
      let form = var_form n None (Some (plain_initializer from)) in
      let t = typed w from in
      let next = h.scope.next in
      let is = part_pointer w p e i fine.1 in
      let own = part_owned next t _ _ is in
      let a = past (expr_code w 0 from) pc in
      let there = part_past w next t _ _ p e i pc is in
      let k = slot w (new_place w) in
      let f2 : Stands x.body a (op (instr.Store k) h.line) = subst (λ a. Stands x.body a (op (instr.Store k) h.line)) there f.1 in
      let near : spare w 0 ≡ beside w (length h.scope.names) = omega arith in
      subst (λ a. Does x params slots aside (placed pc [] j0) (suc a) (after_statement h form) (exec h form s)) (sym there)
      (part_points x params slots fit aside (does_said x params slots fit counts aside (suc a) (after_statement h form)) h 0 p e i no_step s pc [] j0 (λ v. bind v)
      (omega arith) low fine.1 (λ b st. value_runs x params slots fit aside h 0 low e s b [] j0 fine.2.0 g st) fine.2.1
      (λ more s1 j b g1 st. value_at x params slots fit more h 1 (low, omega arith) i s1 b [] j fine.3.0 g1 st) fine.3.1 g
      (part_stands x.body w next t _ _ p e i pc is f.0)
      (λ m q s1 j b put has_it g1 code ends.
      let v = a_pointer (point_target m 1) (q ∷ []) in
      subst (λ c. Does x params slots aside (placed c (machine.Number (kept_target (point_target m 1)) ∷ []) j) (suc a) (after_statement h form) (bind v s1)) (sym ends)
      (binds x params slots fit counts aside h n None (Some (plain_initializer from)) v s1 a j low
      (subst (λ u. IsOf u v) own (part_pointer_typed h.scope (type_of_element h.scope (bound_to h.scope.names p).static_type e) i m q fine.1.2 (put.small m has_it)))
      (subst (λ u. IsInside x s1.store u v) own (part_inside x s1.store t _ _ v is))
      (subst (λ u. IsPointed h.scope.names s1.names u v) own (part_pointed h.scope.names s1.names t _ _ m q is put.lies))
      (type_under x.forms.takes h.scope.names s1.names (owned next t) v (subst (λ u. IsRegion u → ⊥) own (pointer_not_region t (is_pointer_type t _ _ is))))
      (λ d to. subst (λ (r : Region). (get_or j.frame.slots (beside w (length h.scope.names)) blank ≡ machine_value j.contents (a_region r)) × (r.root < length s1.store))
      (only_one q d to.regions) (
        subst (λ l. get_or j.frame.slots l blank ≡ machine_value j.contents (a_region q)) near
            (get_or_from_slice_get j.frame.slots (spare w 0) (machine_value j.contents (a_region q)) blank put.there),
        put.low,
      )) g1 f2)))

  -- `var n = p[e][i]`
  pub part_element_begins : (aside : Aside 0) (h : Here) (n : Name) (y : Expression) (s : State) (pc : ℕ) (j0 : Instance) → params ≤ length h.scope.names →
      IsPartElement y → IsTyped x.forms (where_of params h) y → Agrees x params slots aside h s j0 →
      Stands x.body pc (begun_form (where_of params h) None (Some (plain_initializer y))) →
      Does x params slots aside (placed pc [] j0) (past (begun_form (where_of params h) None (Some (plain_initializer y))) pc)
      (after_statement h (var_form n None (Some (plain_initializer y)))) (exec h (var_form n None (Some (plain_initializer y))) s)
  part_element_begins aside h n (access_expr p (at_step e (at_step i no_step))) s pc j0 low is fine g f = element_begins aside h n p e i s pc j0 low fine g f
  part_element_begins aside h n _ s pc j0 low is fine g f = absurd is
