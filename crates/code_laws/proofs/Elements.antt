-- Assignments to fields of elements: the code does what the assignment means.
use Rattle.std.proofs.Common.{ℕ, ◌≤◌, [], ◌∷◌, refl, sym, subst, arith}
use Rattle.std.specs.Prelude.{get_or, length}
use Rattle.regent_tree.specs.declared.statement.How.TheVariants as how
use Rattle.regent_tree.specs.declared.typing.StaticType.{StaticType}
use Rattle.lane_kernels.specs.declared.numbers.Op.{Op}
use Rattle.lane_kernels.specs.declared.numbers.Mode.TheVariants as mode
use Rattle.regent_tree.specs.Accesses.{space_in}
use Rattle.regent_tree.specs.Execution.{write_to}
use Rattle.regent_tree.specs.Running.{State, Here}
use Rattle.regent_tree.specs.Scopes.{bound_to}
use Rattle.regent_tree.specs.StaticTypes.{field_place}
use Rattle.regent_tree.specs.Syntax.{Name, Expression, at_step, field_step, no_step}
use Rattle.regent_tree.specs.Values.{Value, kept_number}
use Rattle.regent_tree.proofs.Laws.{expressions_keep_names}
use Rattle.machine_terms.specs.declared.order.Instance.{Instance}
use Rattle.machine_terms.specs.declared.value.Value.TheVariants as machine
use Rattle.code_rules.specs.Assignments.{target_code}
use Rattle.code_rules.specs.Pieces.{past}
use Rattle.code_rules.specs.Slots.{typed}
use Rattle.code_laws.specs.Steps.{Setting, placed}
use Rattle.code_laws.specs.Standing.{Agrees, Aside, Comes, Does, IsInside, IsOf, SlotsFit, Stands, nothing, of_integer, where_of}
use Rattle.code_laws.specs.Pointers.{IsCounting}
use Rattle.code_laws.specs.Simple.{IsInteger, an_integer}
use Rattle.code_laws.specs.Typed.{GoesThrough, IsAnyField, IsTyped, MayTouch}
use Rattle.code_laws.proofs.Expressions.{value_runs}
use Rattle.code_laws.proofs.Good.{valued}
use Rattle.code_laws.proofs.Values.{named}
use Rattle.code_laws.proofs.Going.{does_come}
use Rattle.code_laws.proofs.Writes.{GoesOn, access_folds, access_writes, field_value}

module _ (x : Setting) (params slots : ℕ) (fit : SlotsFit x slots) (aside : Aside 0) where
  -- `r[e].f = v`, with the value on the stack
  pub sets_element : (h : Here) (n : Name) (e : Expression) (f : Name) (out : StaticType) (v : Value) (s : State) (pc : ℕ)
      (i : Instance) → params ≤ length h.scope.names → IsTyped x.forms (where_of params h) e → IsCounting (typed (where_of params h) e) →
      GoesThrough (where_of params h) n e → IsAnyField (where_of params h) n f out →
      MayTouch x.forms (where_of params h) n (field_place h.tree (space_in (bound_to h.scope.names n).static_type) f) mode.Write → IsOf out v →
      Agrees x params slots aside h s i →
      Stands x.body pc (target_code (where_of params h) n (at_step e (field_step f no_step)) how.Set) →
      Does x params slots aside (valued pc [] v i)
      (past (target_code (where_of params h) n (at_step e (field_step f no_step)) how.Set) pc) h
      (write_to h n (at_step e (field_step f no_step)) how.Set v s)
  sets_element h n e f out v s pc i low fine index through field may o g stands =
      let b = bound_to h.scope.names n in
      let m = named IsOf h.scope.names s.names n g.typed field.named in
      let done = past (target_code (where_of params h) n (at_step e (field_step f no_step)) how.Set) pc in
      does_come x params slots fit aside done h _ _
      (subst (λ u. Comes x (placed pc (u ∷ []) i) (λ g j. placed done [] j) (GoesOn x params slots fit aside h)
      (write_to h n (at_step e (field_step f no_step)) how.Set v s)) (sym (field_value i.contents _ out v field.keeps o))
      (access_writes x params slots fit aside h b.static_type b.place (get_or s.names b.place nothing) e f out v s pc i
      field.region m.holding refl (omega (arith, m.below, g.count))
      (λ a f1. value_runs x params slots fit aside h 0 low e s a (machine.Number (kept_number v) ∷ []) i fine g f1)
      index (expressions_keep_names h e s) through field.field field.keeps o
      (λ s1 j g1. (named (IsInside x s1.store) h.scope.names s1.names n g1.inside_store field.named).holding) may stands))

  -- `r[e].f o= v`
  pub folds_element : (o : Op) (h : Here) (n : Name) (e : Expression) (f : Name) (out t : StaticType) (v : Value) (s : State)
      (pc : ℕ) (i : Instance) → params ≤ length h.scope.names → IsTyped x.forms (where_of params h) e →
      IsCounting (typed (where_of params h) e) → GoesThrough (where_of params h) n e → IsAnyField (where_of params h) n f out →
      MayTouch x.forms (where_of params h) n (field_place h.tree (space_in (bound_to h.scope.names n).static_type) f) (mode.Reduce o) →
      IsInteger out → IsInteger t → IsOf t v → Agrees x params slots aside h s i →
      Stands x.body pc (target_code (where_of params h) n (at_step e (field_step f no_step)) (how.Reduce o)) →
      Does x params slots aside (valued pc [] v i)
      (past (target_code (where_of params h) n (at_step e (field_step f no_step)) (how.Reduce o)) pc) h
      (write_to h n (at_step e (field_step f no_step)) (how.Reduce o) v s)
  folds_element o h n e f _ _ _ s pc i low fine index through field may (an_integer wd) (an_integer we) (of_integer _ y p) g stands =
      let b = bound_to h.scope.names n in
      let m = named IsOf h.scope.names s.names n g.typed field.named in
      let done = past (target_code (where_of params h) n (at_step e (field_step f no_step)) (how.Reduce o)) pc in
      does_come x params slots fit aside done h _ _
      (access_folds x params slots fit aside o h b.static_type b.place (get_or s.names b.place nothing) e f wd we y s pc i
      field.region m.holding refl (omega (arith, m.below, g.count))
      (λ a f1. value_runs x params slots fit aside h 0 low e s a (machine.Number y ∷ []) i fine g f1)
      index (expressions_keep_names h e s) through field.field field.keeps
      (λ s1 j g1. (named (IsInside x s1.store) h.scope.names s1.names n g1.inside_store field.named).holding) may stands)
