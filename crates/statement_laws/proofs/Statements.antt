-- Statements without a breach keep what is so at a place, and each touch that they make is covered.
use Rattle.check_laws.proofs.Onward.{arm_next, block_next, else_next}
use Rattle.plain_values.proofs.Plain.{option_or_parts}
use Rattle.std.proofs.Common.{arith, List, None, true, refl, sym, subst, ℕ, ◌≡◌, ◌∙◌, length}
use Rattle.regent_tree.specs.Evaluation.{value}
use Rattle.regent_tree.specs.Execution.{Going, after_arm, after_arms, after_statement, exec, exec_arms, exec_block, exec_else, leaving, on_line, scoped}
use Rattle.regent_tree.specs.Running.{Here, Result, Run, State, fails, gives, if_true, ◌>>=◌}
use Rattle.regent_tree.specs.Scopes.{Scope, bound_as, past}
use Rattle.regent_tree.specs.Syntax.{Arms, Block, Form, Otherwise, TaskTree, a_statement, an_arm, assert_form, assign_form, call_form, do_form, else_block, fill_form, for_in_form, for_to_form, if_form, no_arm, no_else, no_statement, print_form, return_form, then_statement, var_form, while_form}
use Rattle.regent_tree.specs.Typing.{scope_after, scope_after_arms, scope_after_block, scope_after_else, type_of}
use Rattle.regent_tree.specs.Values.{Value, truth_of}
use Rattle.check_rules.specs.first.FirstInExpressions.{first_in_expression}
use Rattle.check_rules.specs.first.FirstInStatements.{first_in_arms, first_in_block, first_in_else}
use Rattle.check_laws.proofs.Variables.{parts_of_form}
use Rattle.expression_laws.specs.Kinds.{IsOfType, TypeBelow}
use Rattle.fact_laws.specs.Regions.{Interpretation}
use Rattle.expression_laws.specs.Sound.{IsOfParent, IsValueOf, Instance, IsSoundPlace, IsSoundState, KeepsSound}
use Rattle.statement_laws.specs.Steady.{AgreeBelow, GoesOnSound, IsStaticPlace, KnowsMore}
use Rattle.expression_laws.specs.WrittenStatements.{AreWrittenArms, IsWrittenBlock, IsWrittenElse}
use Rattle.statement_laws.proofs.Agree.{agree_less, emptied, emptied_agrees, emptied_in_store, grows_none, grows_then, in_left, parent_too, place_too}
use Rattle.check_rules.specs.first.Rules.{first_in}
use Rattle.check_rules.specs.types.Parts.{tests_of}
use Rattle.std.specs.List.{Contains}
use Rattle.regent_tree.specs.declared.facts.Known.TheVariants.{Made}
use Rattle.regent_tree.specs.Execution.{counting, items_of, looping, rounds}
use Rattle.regent_tree.specs.Numbers.{distance}
use Rattle.regent_tree.specs.Scopes.{with_name}
use Rattle.regent_tree.specs.Typing.{arithmetic_type, taken_from, width_of_type}
use Rattle.regent_tree.specs.Values.{a_number, number_of}
use Rattle.expression_laws.specs.Kinds.{is_number}
use Rattle.statement_laws.proofs.Scopes.{bounds_whole, count_next, domain_sort, loop_next, whole_sum}
use Rattle.statement_laws.proofs.Types.{type_in}
use Rattle.expression_laws.proofs.Operators.{weaker}
use Rattle.statement_laws.proofs.Scopes.{grows_past, names_arms, names_else, grown_arms, grown_block, grown_else, grown_form, more_block, said_arms, static_after, static_past}
use Rattle.statement_laws.proofs.States.{skipped, state_same, state_too}
use Rattle.statement_laws.specs.Places.{FormGoes, IsReady}
use Rattle.statement_laws.proofs.Going.{then_goes, either_goes, rebased, in_order, stays_here, leaves}
use Rattle.statement_laws.proofs.Loops.{evaluates, moved_on, turning_goes, rounds_go, counting_goes, items_are, taken_below, taken_unparted, static_bound, further}

module _ (task : TaskTree) (args : List Value) (roots : ℕ) where
  abbrev inst : Here → Instance
  inst h = record { tree = h.tree; calls = h.calls; task = task; args = args; roots = roots }

  -- the other forms: variables, loops over numbers, regions and spaces, and what has no block
  abbrev pub IsLeaf : Form → Type 0
  IsLeaf (if_form arms other) = ⊥
  IsLeaf (while_form test body) = ⊥
  IsLeaf (do_form body) = ⊥
  IsLeaf (for_in_form demanded n domain body) = ⊥
  IsLeaf (for_to_form demanded n from to body) = ⊥
  IsLeaf form = Unit {0}

  -- ---- tests of an `if`, in its own scope, where less is known

  narrowed : (x : Instance) (m b : Interpretation) (s t : Scope) → IsStaticPlace x s → AgreeBelow s.next m b → IsSoundPlace x m s → KnowsMore s t → IsSoundPlace x b t → IsSoundPlace x b s
  narrowed x m b s t static agree before more place = record {
    holds = λ k c. place.holds k (subst (λ ks. Contains ks k) (sym more.known) (in_left s.known more.more k c));
    own = λ i c. place.own i (subst (λ ks. Contains ks (Made i)) (sym more.known) (in_left s.known more.more (Made i) c));
    params = place.params;
    parents = λ i. parent_too s.next m b agree s.known static.below (bound_as s.names i).static_type (before.parents i);
  }

  named_alike : {A : Type 0} (Is : A → Type 0) (x : Instance) (m : Interpretation) (s t : Scope) (r : Result A) → t.names ≡ s.names → KeepsSound x m s Is r → KeepsSound x m t Is r
  named_alike Is x m s t (gives a u) same stays = (state_same x s t m u same stays.0, stays.1)
  named_alike Is x m s t (fails f u) same stays = stays

  module _ (leaf_goes : (form : Form) (h : Here) → IsLeaf form → FormGoes task args roots h form) where
    mutual
      pub form_goes : (form : Form) (h : Here) → FormGoes task args roots h form
      form_goes (if_form arms other) h m r e w wr u st =
          let next = else_next h.tree task r.sound h.scope arms other r.scope w in
          let s2 = scope_after_arms h.tree h.scope arms in
          let t = scope_after_else h.tree s2 other in
          let less = (grown_arms h.tree task r.sound h.scope arms r.scope r.static.well_scoped next.0).next in
          arms_goes arms h h.scope m r r (grows_none h.scope h.scope refl (omega (arith))) refl (exec_else (after_arms h arms) other) t next.0
          (parts_of_form h.tree task h.scope r.sound r.scope (if_form arms other) e).2 wr.0
          (grown_else h.tree task r.sound s2 other next.1 (said_arms h.tree task r.sound h.scope arms less r.static.well_scoped) next.2)
          (names_else h.tree task r.sound s2 other ∙ names_arms h.tree task r.sound h.scope arms)
          (λ b q u st. else_goes other (after_arms h arms) b q next.2 wr.1 u st) u st
      form_goes (while_form test body) h m r e w wr u st =
          let n = h.scope.next in
          let m0 = emptied n m in
          let t = scope_after_block h.tree h.scope body in
          let parts = parts_of_form h.tree task h.scope r.sound r.scope (while_form test body) e in
          let told = (option_or_parts (first_in_expression h.tree task h.scope test) _ parts.2).0 in
          let grown = grown_block h.tree task r.sound h.scope body r.scope r.static.well_scoped w in
          let less = grown.next in
          let r0 = moved_on task args roots h m m0 h.scope h.line r r.scope r.static (place_too n m m0 (emptied_agrees n m) (inst h) h.scope r.static refl r.place) in
          let st0 = state_too (inst h) h.scope m m0 u r.scope r.static.well_scoped (emptied_agrees n m) (emptied_in_store n m (length u.store) st.rooted) st in
          rebased (inst h) m m0 n n (past h.scope t) (exec h (while_form test body) u) (emptied_agrees n m) (omega (arith))
          (turning_goes task args roots h m t r0 (grows_past h.scope h.scope t refl (omega (arith)) grown) (value h test) (scoped (exec_block h body))
          (λ w st. weaker (inst h) m0 h.scope (value h test w) (evaluates task args roots h m0 test r0 wr.0 told w st) (λ a k. tt))
          (λ u st. leaves (inst h) m0 h.scope t (length u.names) n (exec_block h body u) r.scope r.static
          (more_block h.tree task r.sound h.scope body r.scope r.static.well_scoped w) st.counted (block_goes body h m0 r0 w wr.1 u st))
          u.turns u st0)
      form_goes (do_form body) h m r e w wr u st =
          leaves (inst h) m h.scope (scope_after_block h.tree h.scope body) (length u.names) h.scope.next (exec_block h body u) r.scope r.static
          (more_block h.tree task r.sound h.scope body r.scope r.static.well_scoped w) st.counted (block_goes body h m r w wr u st)
      form_goes (var_form n t start) h m r e w wr u st = leaf_goes (var_form n t start) h tt m r e w wr u st
      form_goes (for_in_form demanded n domain body) h m r e w wr u st =
          let k = h.scope.next in
          let m0 = emptied k m in
          let s = h.scope in
          let type = type_of h.tree s domain in
          let ty = taken_from type in
          let s1 = with_name s n ty true in
          let t = scope_after_block h.tree s1 body in
          let next = loop_next h.tree task r.sound s demanded n domain body r.scope r.static.well_scoped e w in
          let told = (option_or_parts (first_in_expression h.tree task s domain) _ (parts_of_form h.tree task s r.sound r.scope (for_in_form demanded n domain body) e).2).0 in
          let sort = domain_sort h.tree task r.sound s demanded n domain body r.scope e in
          let in_scope = type_in h.tree task s r.sound r.scope r.static.well_scoped domain told in
          let grown = grown_block h.tree task r.sound s1 body next.0 next.1 next.2 in
          let static1 = static_bound task args roots (inst h) s n ty r.static next.1 in
          let r0 = moved_on task args roots h m m0 s h.line r r.scope r.static (place_too k m m0 (emptied_agrees k m) (inst h) s r.static refl r.place) in
          let st0 = state_too (inst h) s m m0 u r.scope r.static.well_scoped (emptied_agrees k m) (emptied_in_store k m (length u.store) st.rooted) st in
          rebased (inst h) m m0 k k (past s t) (exec h (for_in_form demanded n domain body) u) (emptied_agrees k m) (omega (arith))
          (then_goes (inst h) m0 s k (past s t) (value h domain u) (λ v. rounds h (items_of v) (exec_block (looping h n ty) body))
          (evaluates task args roots h m0 domain r0 wr.0 told u st0) (λ v w st is.
          rounds_go task args roots h m r0 n ty (taken_below task args roots k type in_scope.below) (λ b. taken_unparted task args roots b s.known type) t (more_block h.tree task r.sound s1 body next.0 next.1 next.2)
          (grows_past s s1 t refl (omega (arith)) grown) (exec_block (looping h n ty) body)
          (λ b place w st. block_goes body (looping h n ty) b (moved_on task args roots h m b s1 h.line r next.0 static1 place) next.2 wr.1 w st)
          (items_of v) (items_are task args roots m0 type v sort is.is_of) w st))
      form_goes (for_to_form demanded n from to body) h m r e w wr u st =
          let k = h.scope.next in
          let m0 = emptied k m in
          let s = h.scope in
          let ty = arithmetic_type (type_of h.tree s from) (type_of h.tree s to) in
          let s1 = with_name s n ty true in
          let t = scope_after_block h.tree s1 body in
          let next = count_next h.tree task r.sound s demanded n from to body r.scope r.static.well_scoped e w in
          let heads = option_or_parts (first_in_expression h.tree task s from) _ (parts_of_form h.tree task s r.sound r.scope (for_to_form demanded n from to body) e).2 in
          let second = (option_or_parts (first_in_expression h.tree task s to) _ heads.1).0 in
          let whole = bounds_whole h.tree task r.sound s demanded n from to body r.scope e in
          let width = whole_sum (type_of h.tree s from) (type_of h.tree s to) whole.0 whole.1 in
          let grown = grown_block h.tree task r.sound s1 body next.0 next.1 next.2 in
          let static1 = static_bound task args roots (inst h) s n ty r.static next.1 in
          let r0 = moved_on task args roots h m m0 s h.line r r.scope r.static (place_too k m m0 (emptied_agrees k m) (inst h) s r.static refl r.place) in
          let st0 = state_too (inst h) s m m0 u r.scope r.static.well_scoped (emptied_agrees k m) (emptied_in_store k m (length u.store) st.rooted) st in
          rebased (inst h) m m0 k k (past s t) (exec h (for_to_form demanded n from to body) u) (emptied_agrees k m) (omega (arith))
          (then_goes (inst h) m0 s k (past s t) (value h from u) (λ a. value h to >>= λ b. counting h (distance (number_of a) (number_of b)) (width_of_type ty) (number_of a) (exec_block (looping h n ty) body))
          (evaluates task args roots h m0 from r0 wr.0 heads.0 u st0) (λ a w st is.
          then_goes (inst h) m0 s k (past s t) (value h to w) (λ b. counting h (distance (number_of a) (number_of b)) (width_of_type ty) (number_of a) (exec_block (looping h n ty) body))
          (evaluates task args roots h m0 to r0 wr.1 second w st) (λ b w st is.
          counting_goes task args roots h m r0 n ty (subst (TypeBelow k) (sym width.1) tt) (λ b. subst (IsOfParent b s.known) (sym width.1) tt) t (more_block h.tree task r.sound s1 body next.0 next.1 next.2)
          (grows_past s s1 t refl (omega (arith)) grown) (exec_block (looping h n ty) body)
          (λ b place w st. block_goes body (looping h n ty) b (moved_on task args roots h m b s1 h.line r next.0 static1 place) next.2 wr.2 w st)
          (width_of_type ty) (λ z. subst (λ q. IsOfType m0 q (a_number (width_of_type q) z)) (sym width.1) is_number)
          (distance (number_of a) (number_of b)) (number_of a) w st)))
      form_goes (fill_form f fields y) h m r e w wr u st = leaf_goes (fill_form f fields y) h tt m r e w wr u st
      form_goes (assert_form y) h m r e w wr u st = leaf_goes (assert_form y) h tt m r e w wr u st
      form_goes (print_form alias format es) h m r e w wr u st = leaf_goes (print_form alias format es) h tt m r e w wr u st
      form_goes (call_form f es) h m r e w wr u st = leaf_goes (call_form f es) h tt m r e w wr u st
      form_goes (assign_form n steps how y) h m r e w wr u st = leaf_goes (assign_form n steps how y) h tt m r e w wr u st
      form_goes (return_form y) h m r e w wr u st = leaf_goes (return_form y) h tt m r e w wr u st

      pub block_goes : (b : Block) (h : Here) (m : Interpretation) → IsReady task args roots m h → first_in_block h.tree task h.scope b ≡ None → IsWrittenBlock b →
          (u : State) → IsSoundState (inst h) m h.scope u → GoesOnSound (inst h) m h.scope.next (scope_after_block h.tree h.scope b) (exec_block h b u)
      block_goes no_statement h m r e wr u st = stays_here (inst h) m h.scope u r.place st
      block_goes (then_statement (a_statement line form) rest) h m r e wr u st =
          let next = block_next h.tree task r.sound h.scope line form rest r.scope e in
          let grown = grown_form h.tree task r.sound h.scope form r.scope r.static.well_scoped next.0 next.1 in
          let s1 = scope_after h.tree h.scope form in
          in_order (inst h) m h.scope.next s1.next s1 (scope_after_block h.tree s1 rest) (exec (on_line h line) form u) (exec_block (after_statement h form) rest) grown.next
          (form_goes form (on_line h line) m (moved_on task args roots h m m h.scope line r r.scope r.static r.place) next.0 next.1 wr.0 u st) (λ w b.
          block_goes rest (after_statement h form) b.meant
          (moved_on task args roots h m b.meant s1 h.line r next.2 (static_after h.tree task r.sound (inst h) h.scope form r.scope r.static next.0 next.1) b.place)
          next.3 wr.1 w b.state)

      arms_goes : (arms : Arms) (own : Here) (s : Scope) (m : Interpretation) → IsReady task args roots m own → IsReady task args roots m (record own { scope = s }) → KnowsMore own.scope s → s.names ≡ own.scope.names →
          (other : Run Going) (t : Scope) → first_in_arms own.tree task s arms ≡ None → first_in (first_in_expression own.tree task own.scope) (tests_of arms) ≡ None → AreWrittenArms arms →
          KnowsMore (scope_after_arms own.tree s arms) t → t.names ≡ s.names →
          ((b : Interpretation) → IsReady task args roots b (after_arms (record own { scope = s }) arms) → (u : State) → IsSoundState (inst own) b (scope_after_arms own.tree s arms) u →
          GoesOnSound (inst own) b (scope_after_arms own.tree s arms).next t (other u)) →
          (u : State) → IsSoundState (inst own) m s u → GoesOnSound (inst own) m s.next t (exec_arms own (record own { scope = s }) arms other u)
      arms_goes no_arm own s m ro r more alike other t e told wr grows same others u st = others m r u st
      arms_goes (an_arm test body rest) own s m ro r more alike other t e told wr grows same others u st =
          let n = s.next in
          let tb = scope_after_block own.tree s body in
          let s1 = past s tb in
          let next = arm_next own.tree task r.sound s test body rest r.scope e in
          let grown = grown_block own.tree task r.sound s body r.scope r.static.well_scoped next.0 in
          let wider = grows_past s s tb refl (omega (arith)) grown in
          let static1 = static_past own.tree task r.sound (inst own) s tb r.static grown in
          let rest_grown = grown_arms own.tree task r.sound s1 rest next.1 static1.well_scoped next.2 in
          let tests = option_or_parts (first_in_expression own.tree task own.scope test) _ told in
          then_goes (inst own) m s n t (value own test u) (λ v. if_true (truth_of v) (scoped (exec_block (record own { scope = s }) body)) (exec_arms own (after_arm (record own { scope = s }) body) rest other))
          (named_alike (IsValueOf m own.tree own.scope test) (inst own) m own.scope s (value own test u) alike (evaluates task args roots own m test ro wr.0 tests.0 u (state_same (inst own) s own.scope m u (sym alike) st))) (λ v w st is.
          either_goes (inst own) m s n t (truth_of v) (scoped (exec_block (record own { scope = s }) body)) (exec_arms own (after_arm (record own { scope = s }) body) rest other) w
          (further task args roots (inst own) m n s1 t (leaving (length w.names) (exec_block (record own { scope = s }) body w)) grown.next next.1 static1 (grows_then s1 (scope_after_arms own.tree s1 rest) t rest_grown grows) same
          (leaves (inst own) m s tb (length w.names) n (exec_block (record own { scope = s }) body w) r.scope r.static
          (more_block own.tree task r.sound s body r.scope r.static.well_scoped next.0) st.counted (block_goes body (record own { scope = s }) m r next.0 wr.1 w st)))
          (let b = skipped (inst own) m s s1 w r.scope r.static wider refl r.place st in
          let more1 = grows_then own.scope s s1 more wider in
          rebased (inst own) m b.meant n s1.next t (exec_arms own (after_arm (record own { scope = s }) body) rest other w) b.agree grown.next
          (arms_goes rest own s1 b.meant (moved_on task args roots own m b.meant own.scope own.line ro ro.scope ro.static (narrowed (inst own) m b.meant own.scope s1 ro.static (agree_less n own.scope.next m b.meant more.next b.agree) ro.place more1 b.place))
          (moved_on task args roots own m b.meant s1 own.line ro next.1 static1 b.place) more1 alike other t next.2 tests.1 wr.2 grows same others w b.state)))

      else_goes : (other : Otherwise) (h : Here) (m : Interpretation) → IsReady task args roots m h → first_in_else h.tree task h.scope other ≡ None → IsWrittenElse other →
          (u : State) → IsSoundState (inst h) m h.scope u → GoesOnSound (inst h) m h.scope.next (scope_after_else h.tree h.scope other) (exec_else h other u)
      else_goes no_else h m r e wr u st = stays_here (inst h) m h.scope u r.place st
      else_goes (else_block body) h m r e wr u st =
          leaves (inst h) m h.scope (scope_after_block h.tree h.scope body) (length u.names) h.scope.next (exec_block h body u) r.scope r.static
          (more_block h.tree task r.sound h.scope body r.scope r.static.well_scoped e) st.counted (block_goes body h m r e wr u st)
