-- Statements of which nothing is told keep what fits, by induction.
use Rattle.std.proofs.Common.{List, ◌∷◌, ◌++◌, None, true, refl, ap, sym, subst, ℕ, ◌≡◌, ◌∙◌}
use Rattle.std.specs.List.{All}
use Rattle.std.specs.Prelude.{length}
use Rattle.lane_kernels.specs.Numbers.{FitsWidth}
use Rattle.plain_values.proofs.Plain.{option_or_parts}
use Rattle.regent_tree.specs.Evaluation.{typed, value}
use Rattle.regent_tree.specs.Execution.{Going, after_arm, after_arms, after_statement, counting, exec, exec_arms, exec_block, exec_else, items_of, looping, on_line, rounds, scoped}
use Rattle.regent_tree.specs.Laws.{Shape}
use Rattle.regent_tree.specs.Limits.{KeepsLimit, node, parts_of_arms, parts_of_block, parts_of_expression, parts_of_form, parts_of_otherwise}
use Rattle.regent_tree.specs.Numbers.{distance, wider}
use Rattle.regent_tree.specs.Running.{Here, Run, State, if_true, ◌>>=◌}
use Rattle.regent_tree.specs.Scopes.{Scope, past, with_name}
use Rattle.regent_tree.specs.Syntax.{Arms, Block, Form, Name, Otherwise, TaskTree, a_statement, an_arm, assert_form, assign_form, call_form, do_form, else_block, fill_form, for_in_form, for_to_form, if_form, no_arm, no_else, no_statement, print_form, return_form, then_statement, var_form, while_form}
use Rattle.regent_tree.specs.Typing.{arithmetic_type, scope_after, scope_after_arms, scope_after_block, scope_after_else, taken_from, type_of, width_of_type}
use Rattle.regent_tree.specs.Values.{a_number, number_of, truth_of}
use Rattle.regent_tree.specs.declared.typing.Bound.{Bound}
use Rattle.regent_tree.specs.declared.typing.StaticType.{StaticType}
use Rattle.regent_tree.specs.declared.typing.StaticType.TheVariants.{Integer as integer_type}
use Rattle.check_rules.specs.first.FirstInExpressions.{first_in_expression}
use Rattle.check_rules.specs.first.FirstInStatements.{first_in_arms, first_in_block, first_in_else, first_of_form}
use Rattle.check_rules.specs.first.Rules.{first_in}
use Rattle.check_rules.specs.types.Parts.{tests_of}
use Rattle.check_rules.specs.types.Sorts.{is_collection}
use Rattle.check_laws.proofs.Blocks.{count_scope, loop_scope}
use Rattle.check_laws.proofs.Onward.{arm_next, block_next, else_next}
use Rattle.check_laws.proofs.Variables.{parts_of_form as parts_told}
use Rattle.check_laws.specs.SoundScopes.{IsSoundScope}
use Rattle.statement_laws.proofs.Scopes.{bounds_whole, domain_sort, is_whole, names_arms, names_else}
use Rattle.statement_laws.specs.Steady.{ArePlaced}
use Rattle.expression_laws.specs.WrittenStatements.{AreWrittenArms, IsWrittenBlock, IsWrittenElse}
use Rattle.state_laws.specs.Going.{GoesOnFit, IsPlaceOfRun}
use Rattle.state_laws.specs.Laws.{FormFits}
use Rattle.state_laws.proofs.Assignments.{assign_fits, filled}
use Rattle.state_laws.proofs.Counts.{distance_up_to}
use Rattle.state_laws.proofs.Going.{either_fits, in_order, leaves_fit, state_here, then_fits}
use Rattle.state_laws.proofs.Growing.{extends_none, spaced_new, spaced_stays, stays_bound}
use Rattle.state_laws.proofs.Items.{items_fit, lower_fits, taken_plain, taken_spaced, upper_fits}
use Rattle.state_laws.proofs.Leaves.{assert_fits, call_fits, evaluates, print_fits, return_fits}
use Rattle.state_laws.proofs.Loops.{counting_fits, rounds_fit, turning_fits}
use Rattle.state_laws.proofs.Scopes.{more_block, more_form}
use Rattle.value_laws.specs.Fitting.{Fits, fits_integer}
use Rattle.value_laws.specs.Keeping.{KeepsFit, StateFits}
use Rattle.value_laws.specs.Shapes.{AreRootsOfSpaces}
use Rattle.value_laws.specs.Spaces.{AreSpaced, IsSpaced}
use Rattle.value_laws.proofs.Limits.{all_behind, all_left, all_right}
use Rattle.value_laws.proofs.Spaced.{no_arguments}
use Rattle.value_laws.proofs.Types.{type_spaced}

module _ (task : TaskTree) where
  -- the same place with more roots, in another scope, on another line
  pub place_at : (roots after : List Shape) (h : Here) (s : Scope) (line : ℕ) → IsPlaceOfRun task roots h → AreRootsOfSpaces h.tree after → IsSoundScope s → AreSpaced h.tree s.names →
      ArePlaced s.names → IsPlaceOfRun task after (record { tree = h.tree; calls = h.calls; scope = s; result = h.result; line = line })
  place_at roots after h s line r rooted scope spaced placed = record {
    place = record { sound = r.place.sound; declared = r.place.declared; scope = scope; spaced = spaced; rooted = rooted; answers = r.place.answers };
    placed = placed;
    result = r.result;
    sound_result = r.sound_result;
  }

  place_on : (roots after : List Shape) (h : Here) (line : ℕ) → IsPlaceOfRun task roots h → AreRootsOfSpaces h.tree after →
      IsPlaceOfRun task after (record { tree = h.tree; calls = h.calls; scope = h.scope; result = h.result; line = line })
  place_on roots after h line r rooted = place_at roots after h h.scope line r rooted r.place.scope r.place.spaced r.placed

  module _ (var_fits : (n : Name) (t : _) (start : _) → FormFits task (var_form n t start))
      (var_spaced : (roots : List Shape) (h : Here) (n : Name) (t : _) (start : _) → IsPlaceOfRun task roots h → first_of_form h.tree task h.scope (var_form n t start) ≡ None →
      All KeepsLimit (parts_of_form (var_form n t start)) → AreSpaced h.tree (scope_after h.tree h.scope (var_form n t start)).names) where
    same_spaced : (h : Here) (names : List Bound) → names ≡ h.scope.names → AreSpaced h.tree h.scope.names → AreSpaced h.tree names
    same_spaced h names same spaced = subst (AreSpaced h.tree) (sym same) spaced

    -- the types of names behind a statement are spaced
    spaced_after : (roots : List Shape) (h : Here) (form : Form) → IsPlaceOfRun task roots h → first_of_form h.tree task h.scope form ≡ None → All KeepsLimit (parts_of_form form) →
        AreSpaced h.tree (scope_after h.tree h.scope form).names
    spaced_after roots h (var_form n t start) r e limits = var_spaced roots h n t start r e limits
    spaced_after roots h (if_form arms other) r e limits = same_spaced h _
        (names_else h.tree task r.place.sound (scope_after_arms h.tree h.scope arms) other ∙ names_arms h.tree task r.place.sound h.scope arms) r.place.spaced
    spaced_after roots h (while_form test body) r e limits = r.place.spaced
    spaced_after roots h (for_in_form demanded n domain body) r e limits = r.place.spaced
    spaced_after roots h (for_to_form demanded n from to body) r e limits = r.place.spaced
    spaced_after roots h (do_form body) r e limits = r.place.spaced
    spaced_after roots h (fill_form f fields x) r e limits = r.place.spaced
    spaced_after roots h (assert_form x) r e limits = r.place.spaced
    spaced_after roots h (print_form alias format args) r e limits = r.place.spaced
    spaced_after roots h (call_form t args) r e limits = r.place.spaced
    spaced_after roots h (assign_form n steps how x) r e limits = r.place.spaced
    spaced_after roots h (return_form x) r e limits = r.place.spaced

    -- a place in a loop's body
    looped : (roots after : List Shape) (h : Here) (n : Name) (ty : StaticType) → IsPlaceOfRun task roots h → AreRootsOfSpaces h.tree after → IsSoundScope (with_name h.scope n ty true) →
        IsSpaced h.tree h.scope.names ty → IsPlaceOfRun task after (looping h n ty)
    looped roots after h n ty r rooted scope spaced =
        let b : Bound = record { name = n; number = h.scope.next; place = length h.scope.names; static_type = ty; by_loop = true } in
        place_at roots after h (with_name h.scope n ty true) h.line r rooted scope
        (spaced_new h.tree h.scope.next h.scope.names b r.place.scope.numbers refl r.place.spaced
        (spaced_stays h.scope.names (b ∷ h.scope.names) (stays_bound h.scope.next h.scope.names b r.place.scope.numbers refl) h.tree ty spaced)) (refl, r.placed)

    mutual
      pub form_fits : (form : Form) → FormFits task form
      form_fits (var_form n t start) roots h r e w wr limits u st = var_fits n t start roots h r e w wr limits u st
      form_fits (if_form arms other) roots h r e w wr limits u st =
          let next = else_next h.tree task r.place.sound h.scope arms other r.place.scope w in
          let s2 = scope_after_arms h.tree h.scope arms in
          let same = names_arms h.tree task r.place.sound h.scope arms in
          let all = names_else h.tree task r.place.sound s2 other ∙ same in
          let at = place_at roots roots h s2 h.line r r.place.rooted next.1 (same_spaced h s2.names same r.place.spaced) (subst ArePlaced (sym same) r.placed) in
          subst (λ ns. GoesOnFit h.tree roots ns h.result (exec h (if_form arms other) u)) (sym all)
          (arms_fit arms h h.scope roots r r refl next.0 (parts_told h.tree task h.scope r.place.sound r.place.scope (if_form arms other) e).2 wr.0
          (all_left KeepsLimit (parts_of_arms arms) (parts_of_otherwise other) limits) (exec_else (after_arms h arms) other) (λ w st.
          subst (λ ns. GoesOnFit h.tree roots ns h.result (exec_else (after_arms h arms) other w)) all
          (else_fits other (after_arms h arms) roots at next.2 wr.1 (all_right KeepsLimit (parts_of_arms arms) (parts_of_otherwise other) limits) w
          (subst (λ ns. StateFits h.tree roots ns w) (sym same) st))) u st)
      form_fits (while_form test body) roots h r e w wr limits u st =
          let told = (option_or_parts (first_in_expression h.tree task h.scope test) _ (parts_told h.tree task h.scope r.place.sound r.place.scope (while_form test body) e).2).0 in
          let inner = more_block h.tree task r.place.sound h.scope body r.place.scope w in
          turning_fits h.tree h h.result roots h.scope.names (λ rs v. Fits rs h.scope.names (typed h test) v) (value h test) (scoped (exec_block h body))
          (λ after v more rooted st. evaluates task after h (place_on roots after h h.line r rooted) test wr.0 (all_left KeepsLimit (parts_of_expression test) (parts_of_block body) limits) told v st)
          (λ after v more rooted st.
          leaves_fit h.tree after h.scope.names (scope_after_block h.tree h.scope body).names (length v.names) h.result (exec_block h body v) st.counted inner.stays inner.longer r.placed r.place.spaced
          (block_fits body h after (place_on roots after h h.line r rooted) w wr.1 (all_right KeepsLimit (parts_of_expression test) (parts_of_block body) limits) v st))
          u.turns roots u (extends_none roots) r.place.rooted st
      form_fits (do_form body) roots h r e w wr limits u st =
          let inner = more_block h.tree task r.place.sound h.scope body r.place.scope w in
          leaves_fit h.tree roots h.scope.names (scope_after_block h.tree h.scope body).names (length u.names) h.result (exec_block h body u) st.counted inner.stays inner.longer r.placed r.place.spaced
          (block_fits body h roots r w wr limits u st)
      form_fits (for_in_form demanded n domain body) roots h r e w wr limits u st =
          let s = h.scope in
          let type = type_of h.tree s domain in
          let ty = taken_from type in
          let s1 = with_name s n ty true in
          let here = loop_scope h.tree task r.place.sound s demanded n domain body r.place.scope e in
          let scope = subst IsSoundScope here.0 here.1 in
          let told_body = subst (λ t. first_in_block h.tree task t body ≡ None) here.0 w in
          let told = (option_or_parts (first_in_expression h.tree task s domain) _ (parts_told h.tree task s r.place.sound r.place.scope (for_in_form demanded n domain body) e).2).0 in
          let sort = domain_sort h.tree task r.place.sound s demanded n domain body r.place.scope e in
          let limit = all_left KeepsLimit (parts_of_expression domain) (parts_of_block body) limits in
          let spaced = taken_spaced h.tree s.names type (type_spaced task roots h r.place domain limit told) in
          let b : Bound = record { name = n; number = s.next; place = length s.names; static_type = ty; by_loop = true } in
          then_fits h.tree roots r.place.rooted s.names s.names h.result (value h domain u) (λ v. rounds h (items_of v) (exec_block (looping h n ty) body))
          (evaluates task roots h r domain wr.0 limit told u st) (λ v w st is.
          rounds_fit h.tree h h.result s n ty r.place.scope r.placed r.place.spaced (taken_plain type) (scope_after_block h.tree s1 body).names (more_block h.tree task r.place.sound s1 body scope told_body) roots
          (exec_block (looping h n ty) body) (λ after v more rooted st.
          block_fits body (looping h n ty) after (looped roots after h n ty r rooted scope spaced) told_body wr.1 (all_right KeepsLimit (parts_of_expression domain) (parts_of_block body) limits) v st)
          (items_of v) roots w (extends_none roots) r.place.rooted st (items_fit h.tree roots r.place.rooted s.names (b ∷ s.names) type v sort is))
      form_fits (for_to_form demanded n from to body) roots h r e w wr limits u st =
          let s = h.scope in
          let ty = arithmetic_type (type_of h.tree s from) (type_of h.tree s to) in
          let s1 = with_name s n ty true in
          let here = count_scope h.tree task r.place.sound s demanded n from to body r.place.scope e in
          let scope = subst IsSoundScope here.0 here.1 in
          let told_body = subst (λ t. first_in_block h.tree task t body ≡ None) here.0 w in
          let heads = option_or_parts (first_in_expression h.tree task s from) _ (parts_told h.tree task s r.place.sound r.place.scope (for_to_form demanded n from to body) e).2 in
          let second = (option_or_parts (first_in_expression h.tree task s to) _ heads.1).0 in
          let whole = bounds_whole h.tree task r.place.sound s demanded n from to body r.place.scope e in
          let a = is_whole (type_of h.tree s from) whole.0 in
          let c = is_whole (type_of h.tree s to) whole.1 in
          let width : ty ≡ integer_type (wider a.0 c.0) = λ j. arithmetic_type (a.1 j) (c.1 j) in
          let behind = all_right KeepsLimit (parts_of_expression from) (parts_of_expression to ++ parts_of_block body) limits in
          let spaced : IsSpaced h.tree s.names ty = subst (IsSpaced h.tree s.names) (sym width) (no_arguments h.tree s.names (integer_type (wider a.0 c.0)) tt) in
          let b : Bound = record { name = n; number = s.next; place = length s.names; static_type = ty; by_loop = true } in
          let w0 = ap width_of_type width in
          then_fits h.tree roots r.place.rooted s.names s.names h.result (value h from u) (λ x. value h to >>= λ y. counting h (distance (number_of x) (number_of y)) (width_of_type ty) (number_of x) (exec_block (looping h n ty) body))
          (evaluates task roots h r from wr.0 (all_left KeepsLimit (parts_of_expression from) (parts_of_expression to ++ parts_of_block body) limits) heads.0 u st) (λ x w st low.
          then_fits h.tree roots r.place.rooted s.names s.names h.result (value h to w) (λ y. counting h (distance (number_of x) (number_of y)) (width_of_type ty) (number_of x) (exec_block (looping h n ty) body))
          (evaluates task roots h r to wr.1 (all_left KeepsLimit (parts_of_expression to) (parts_of_block body) behind) second w st) (λ y w st high.
          counting_fits h.tree h h.result s n ty r.place.scope r.placed r.place.spaced (ap is_collection width) (scope_after_block h.tree s1 body).names (more_block h.tree task r.place.sound s1 body scope told_body) roots
          (exec_block (looping h n ty) body) (λ after v more rooted st.
          block_fits body (looping h n ty) after (looped roots after h n ty r rooted scope spaced) told_body wr.2 (all_right KeepsLimit (parts_of_expression to) (parts_of_block body) behind) v st)
          (width_of_type ty) (number_of y) (subst (λ q. FitsWidth q (number_of y)) (sym w0) (upper_fits roots s.names a.0 c.0 y (subst (λ t. Fits roots s.names t y) c.1 high)))
          (λ after z f. subst (λ t. Fits after (b ∷ s.names) t (a_number (width_of_type t) z)) (sym width) (fits_integer (subst (λ q. FitsWidth q z) w0 f)))
          (distance (number_of x) (number_of y)) (number_of x) roots w (subst (λ q. FitsWidth q (number_of x)) (sym w0) (lower_fits roots s.names a.0 c.0 x (subst (λ t. Fits roots s.names t x) a.1 low)))
          (distance_up_to (number_of x) (number_of y) (distance (number_of x) (number_of y)) refl) (extends_none roots) r.place.rooted st))
      form_fits (fill_form f fields x) roots h r e w wr limits u st = filled task f fields x roots h r e w wr limits u st
      form_fits (assert_form x) roots h r e w wr limits u st = assert_fits task x roots h r e w wr limits u st
      form_fits (print_form alias format args) roots h r e w wr limits u st = print_fits task alias format args roots h r e w wr limits u st
      form_fits (call_form t args) roots h r e w wr limits u st = call_fits task t args roots h r e w wr limits u st
      form_fits (assign_form n steps how x) roots h r e w wr limits u st = assign_fits task n steps how x roots h r e w wr limits u st
      form_fits (return_form x) roots h r e w wr limits u st = return_fits task x roots h r e w wr limits u st

      pub block_fits : (b : Block) (h : Here) (roots : List Shape) → IsPlaceOfRun task roots h → first_in_block h.tree task h.scope b ≡ None → IsWrittenBlock b → All KeepsLimit (parts_of_block b) →
          (u : State) → StateFits h.tree roots h.scope.names u → GoesOnFit h.tree roots (scope_after_block h.tree h.scope b).names h.result (exec_block h b u)
      block_fits no_statement h roots r e wr limits u st = state_here h.tree roots r.place.rooted h.scope.names u st
      block_fits (then_statement (a_statement line form) rest) h roots r e wr limits u st =
          let next = block_next h.tree task r.place.sound h.scope line form rest r.place.scope e in
          let both = all_behind KeepsLimit node (parts_of_form form ++ parts_of_block rest) limits in
          let first = all_left KeepsLimit (parts_of_form form) (parts_of_block rest) both in
          let s1 = scope_after h.tree h.scope form in
          in_order h.tree roots s1.names (scope_after_block h.tree s1 rest).names h.result (exec (on_line h line) form u) (exec_block (after_statement h form) rest)
          (form_fits form roots (on_line h line) (place_on roots roots h line r r.place.rooted) next.0 next.1 wr.0 first u st) (λ after w more rooted st.
          block_fits rest (after_statement h form) after
          (place_at roots after h s1 h.line r rooted next.2 (spaced_after roots h form r next.0 first) ((more_form h.tree task r.place.sound h.scope form r.place.scope).placed r.placed))
          next.3 wr.1 (all_right KeepsLimit (parts_of_form form) (parts_of_block rest) both) w st)

      arms_fit : (arms : Arms) (own : Here) (s : Scope) (roots : List Shape) → IsPlaceOfRun task roots own → IsPlaceOfRun task roots (record own { scope = s }) → s.names ≡ own.scope.names →
          first_in_arms own.tree task s arms ≡ None → first_in (first_in_expression own.tree task own.scope) (tests_of arms) ≡ None → AreWrittenArms arms → All KeepsLimit (parts_of_arms arms) →
          (other : Run Going) → ((u : State) → StateFits own.tree roots s.names u → GoesOnFit own.tree roots s.names own.result (other u)) →
          (u : State) → StateFits own.tree roots s.names u → GoesOnFit own.tree roots s.names own.result (exec_arms own (record own { scope = s }) arms other u)
      arms_fit no_arm own s roots ro r alike e told wr limits other others u st = others u st
      arms_fit (an_arm test body rest) own s roots ro r alike e told wr limits other others u st =
          let next = arm_next own.tree task r.place.sound s test body rest r.place.scope e in
          let tests = option_or_parts (first_in_expression own.tree task own.scope test) _ told in
          let behind = all_right KeepsLimit (parts_of_expression test) (parts_of_block body ++ parts_of_arms rest) limits in
          let inner = more_block own.tree task r.place.sound s body r.place.scope next.0 in
          let s1 = past s (scope_after_block own.tree s body) in
          then_fits own.tree roots r.place.rooted s.names s.names own.result (value own test u)
          (λ v. if_true (truth_of v) (scoped (exec_block (record own { scope = s }) body)) (exec_arms own (after_arm (record own { scope = s }) body) rest other))
          (subst (λ ns. KeepsFit own.tree roots ns (Fits roots own.scope.names (typed own test)) (value own test u)) (sym alike)
          (evaluates task roots own ro test wr.0 (all_left KeepsLimit (parts_of_expression test) (parts_of_block body ++ parts_of_arms rest) limits) tests.0 u (subst (λ ns. StateFits own.tree roots ns u) alike st))) (λ v w st is.
          either_fits own.tree roots r.place.rooted s.names own.result (truth_of v) (scoped (exec_block (record own { scope = s }) body)) (exec_arms own (after_arm (record own { scope = s }) body) rest other) w
          (leaves_fit own.tree roots s.names (scope_after_block own.tree s body).names (length w.names) own.result (exec_block (record own { scope = s }) body w) st.counted inner.stays inner.longer r.placed r.place.spaced
          (block_fits body (record own { scope = s }) roots r next.0 wr.1 (all_left KeepsLimit (parts_of_block body) (parts_of_arms rest) behind) w st))
          (arms_fit rest own s1 roots ro (place_at roots roots own s1 own.line ro r.place.rooted next.1 r.place.spaced r.placed) alike next.2 tests.1 wr.2
          (all_right KeepsLimit (parts_of_block body) (parts_of_arms rest) behind) other others w st))

      else_fits : (other : Otherwise) (h : Here) (roots : List Shape) → IsPlaceOfRun task roots h → first_in_else h.tree task h.scope other ≡ None → IsWrittenElse other → All KeepsLimit (parts_of_otherwise other) →
          (u : State) → StateFits h.tree roots h.scope.names u → GoesOnFit h.tree roots (scope_after_else h.tree h.scope other).names h.result (exec_else h other u)
      else_fits no_else h roots r e wr limits u st = state_here h.tree roots r.place.rooted h.scope.names u st
      else_fits (else_block body) h roots r e wr limits u st =
          let inner = more_block h.tree task r.place.sound h.scope body r.place.scope e in
          leaves_fit h.tree roots h.scope.names (scope_after_block h.tree h.scope body).names (length u.names) h.result (exec_block h body u) st.counted inner.stays inner.longer r.placed r.place.spaced
          (block_fits body h roots r e wr limits u st)
