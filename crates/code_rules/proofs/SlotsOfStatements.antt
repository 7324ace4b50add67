-- The code of a statement names low slots: each node binds one name at most, or keeps one child more.
use Rattle.std.proofs.Common.{◌≡◌, ◌≤◌, ◌+◌, ◌*◌, ℕ, suc, List, [], ◌∷◌, ◌++◌, length, refl, sym, ap, subst, arith, Option, Some, None}
use Rattle.lane_kernels.specs.declared.numbers.Op.TheVariants.{Sum, Product, Least, Greatest}
use Rattle.lane_kernels.specs.declared.numbers.Op.{Op}
use Rattle.lane_kernels.specs.declared.numbers.Width.{Width}
use Rattle.regent_tree.specs.Accesses.{args_in, space_in}
use Rattle.regent_tree.specs.Execution.{before_last, last_field}
use Rattle.regent_tree.specs.Limits.{number_of_nodes, nodes, parts_of_arms, parts_of_block, parts_of_expression, parts_of_form, parts_of_init, parts_of_otherwise, parts_of_steps, parts_of_type}
use Rattle.regent_tree.specs.Scopes.{Scope, past}
use Rattle.regent_tree.specs.StaticTypes.{field_type, task_named}
use Rattle.regent_tree.specs.Syntax.{Name, Tree, Expression, number_expr, truth_expr, chain_expr, prefix_expr, call_expr, access_expr, convert_expr, is_null_expr, null_expr, cast_expr, space_expr, Steps, no_step, field_step, at_step, Initializer, region_initializer, equal_initializer, by_field_initializer, image_initializer, preimage_initializer, both_initializer, either_initializer, plain_initializer, a_statement, Form, var_form, if_form, while_form, for_in_form, for_to_form, do_form, fill_form, assert_form, print_form, call_form, assign_form, return_form, Block, no_statement, then_statement, Arms, no_arm, an_arm, Otherwise, no_else, else_block}
use Rattle.regent_tree.specs.Typing.{arithmetic_type, is_pointer, params_at, parent_of, reaches_of, scope_after, scope_after_arms, scope_after_block, scope_after_else, stepped_type, taken_from, type_of_element, type_of_field, var_type, width_of_type}
use Rattle.regent_tree.specs.declared.statement.How.{How}
use Rattle.regent_tree.specs.declared.statement.How.TheVariants as how
use Rattle.regent_tree.specs.declared.types.TypeTerm.{TypeTerm}
use Rattle.regent_tree.specs.declared.typing.StaticType.{StaticType}
use Rattle.task_code.specs.declared.instr.Instr.TheVariants as instr
use Rattle.check_rules.specs.launches.Shapes.{shape_of}
use Rattle.code_rules.specs.Assignments.{fill_code, fold_code, put_code, right_code, set_code, slot_behind, target_code}
use Rattle.code_rules.specs.Initializers.{beside_code, declared_code, initializer_code, names_child, new_place, plain_code}
use Rattle.code_rules.specs.Instructions.{one, slot_after}
use Rattle.code_rules.specs.Expressions.{expr_code}
use Rattle.std.specs.Prelude.{◌&&◌}
use Rattle.code_rules.specs.Launches.{is_launch}
use Rattle.check_rules.specs.types.Sorts.{is_space}
use Rattle.code_rules.specs.Pieces.{Piece, ◌⨟◌, empty}
use Rattle.code_rules.specs.Slots.{Where, beside, bound, counter, own_slot, slot, slot_bound, slot_named, spare, typed}
use Rattle.code_rules.specs.Statements.{after_arm, after_arms, after_form, arms_code, block_code, else_code, form_code, looping, on_line, points_code}
use Rattle.code_rules.specs.Used.{above_all}
use Rattle.code_rules.proofs.ExpressionSizes.{both_nodes}
use Rattle.code_rules.proofs.KeptCalls.{assigned_either, begun_either}
use Rattle.code_rules.proofs.LaunchCodes.{launch_fits}
use Rattle.code_rules.proofs.LowSlots.{Fits, IsLow, Placed, beside_low, bound_low, counter_low, either_fits, free, named_low, own_low, place_named, reaches_low, slot_low, spare_low, three_low}
use Rattle.code_rules.proofs.PlainCode.{plain_either, written_either}
use Rattle.code_rules.proofs.SlotsOfExpressions.{after_low, converted_fits, expr_fits, exprs_fits}
use Rattle.code_rules.proofs.StatementSizes.{before_nodes}

-- ---- initializers

beside_fits : (m : ℕ) (w : Where) (t : StaticType) (e : Expression) → Placed m w.scope.names →
    length w.scope.names ≤ m → Fits m (beside_code w t e)
beside_fits m w t (number_expr z v) p h = tt
beside_fits m w t (truth_expr b) p h = tt
beside_fits m w t (chain_expr first rest) p h = tt
beside_fits m w t (prefix_expr signs e) p h = tt
beside_fits m w t (call_expr task args) p h = tt
beside_fits m w t (convert_expr k e) p h = tt
beside_fits m w t (is_null_expr e) p h = tt
beside_fits m w t (null_expr k) p h = tt
beside_fits m w t (cast_expr k e) p h = tt
beside_fits m w t (space_expr k e) p h = tt
beside_fits m w t (access_expr n no_step) p h =
    let place = (bound w n).place in
    either_fits m (names_child (reaches_of t))
    (one w (instr.Load (beside w place)) ⨟ one w (instr.Store (beside w (new_place w)))) empty
    (beside_low m w place (place_named m w.scope.names n p), beside_low m w (new_place w) h) tt
beside_fits m w t (access_expr n (field_step f rest)) p h = tt
beside_fits m w t (access_expr n (at_step e rest)) p h = tt

two_low : (m : ℕ) (w : Where) (p q : Name) (s : ℕ) → Placed m w.scope.names → IsLow m s →
    above_all (slot_named w p ∷ slot_named w q ∷ s ∷ []) ≤ 3 * m + 3
two_low m w p q s placed l =
    three_low m (slot_named w p) (slot_named w q) s (named_low m w p placed) (named_low m w q placed) l

plain_fits : (m : ℕ) (w : Where) (t : StaticType) (e : Expression) → Placed m w.scope.names →
    length w.scope.names + number_of_nodes (parts_of_expression e) ≤ m → Fits m (plain_code w t e)
plain_fits m w t e placed h = plain_either w t e (Fits m)
    (expr_fits m w 0 e placed (omega (arith, h)), beside_fits m w t e placed (omega (arith, h)))
    (λ p q i. two_low m w p q (slot_bound w i) placed (bound_low m w i placed))

declared_fits : (m : ℕ) (w : Where) (term : Option TypeTerm) (t : StaticType) (e : Expression) →
    Placed m w.scope.names → length w.scope.names + number_of_nodes (parts_of_expression e) ≤ m →
    Fits m (declared_code w term t e)
declared_fits m w None t e p h = plain_fits m w t e p h
declared_fits m w (Some term) t e p h =
    written_either w t e (Fits m) (plain_fits m w t e p h) (expr_fits m w 0 e p (omega (arith, h)), converted_fits m w (typed w e) t)

initializer_fits : (m : ℕ) (w : Where) (term : Option TypeTerm) (t : StaticType) (i : Option Initializer) →
    Placed m w.scope.names → length w.scope.names + number_of_nodes (parts_of_init i) ≤ m →
    Fits m (initializer_code w term t i)
initializer_fits m w term t None p h = free m
initializer_fits m w term t (Some (region_initializer e u)) p h = (expr_fits m w 0 e p (omega (arith, h)), free m)
initializer_fits m w term t (Some (equal_initializer r e)) p h =
    (expr_fits m w 0 e p (omega (arith, h)), named_low m w r p)
initializer_fits m w term t (Some (by_field_initializer r f e)) p h =
    (expr_fits m w 0 e p (omega (arith, h)), named_low m w r p)
initializer_fits m w term t (Some (image_initializer s q r f)) p h =
    two_low m w s q (slot_named w r) p (named_low m w r p)
initializer_fits m w term t (Some (preimage_initializer s q r f)) p h =
    two_low m w s q (slot_named w r) p (named_low m w r p)
initializer_fits m w term t (Some (both_initializer q r)) p h =
    let i = parent_of (bound w q).static_type in
    two_low m w q r (slot_bound w i) p (bound_low m w i p)
initializer_fits m w term t (Some (either_initializer q r)) p h =
    let i = parent_of (bound w q).static_type in
    two_low m w q r (slot_bound w i) p (bound_low m w i p)
initializer_fits m w term t (Some (plain_initializer e)) p h = declared_fits m w term t e p (omega (arith, h))

-- ---- assignments

fold_fits : (m : ℕ) (w : Where) (x : ℕ) (o : Op) (v : Width) → IsLow m x → IsLow m (spare w 0) →
    Fits m (fold_code w x o v)
fold_fits m w x Sum v l h = (free m, (l, (free m, l)))
fold_fits m w x Product v l h = (free m, (l, (free m, l)))
fold_fits m w x Least v l h = (free m, (h, (h, (l, (free m, (λ to. free m, (h, l)))))))
fold_fits m w x Greatest v l h = (free m, (h, (h, (l, (free m, (λ to. free m, (h, l)))))))

set_fits : (m : ℕ) (w : Where) (x : ℕ) (h : How) (t : StaticType) → IsLow m x → IsLow m (spare w 0) →
    Fits m (set_code w x h t)
set_fits m w x how.Set t l k = l
set_fits m w x (how.Reduce o) t l k = fold_fits m w x o (width_of_type t) l k

put_fits : (m : ℕ) (w : Where) (t : StaticType) (s : ℕ) (f : Name) (h : How) → Placed m w.scope.names → IsLow m s →
    Fits m (put_code w t s f h)
put_fits m w t s f how.Set p l = reaches_low m w s (reaches_of t) p l
put_fits m w t s f (how.Reduce o) p l = reaches_low m w s (reaches_of t) p l

behind_low : (m : ℕ) (w : Where) (d : ℕ) (t : StaticType) (s : ℕ) (steps : Steps) → IsLow m s →
    length w.scope.names + d + number_of_nodes (parts_of_steps steps) ≤ m → IsLow m (slot_behind w d t s steps)
behind_low m w d t s no_step l h = l
behind_low m w d t s (field_step f rest) l h =
    behind_low m w d (type_of_field w.tree t f) 0 rest (omega arith) (omega (arith, h))
behind_low m w d t s (at_step e rest) l h =
    let n = both_nodes (parts_of_expression e) (parts_of_steps rest) in
    behind_low m w (suc d) (type_of_element w.scope t e) (slot_after w d t s) rest
    (after_low m w d t s l (spare_low m w d (omega (arith, h)))) (omega (arith, h, n))

-- where an access goes before its last step, and what is put there
stepped_fits : (m : ℕ) (w : Where) (n : Name) (steps : Steps) (h : How) → Placed m w.scope.names →
    suc (length w.scope.names + number_of_nodes (parts_of_steps steps)) ≤ m →
    let t = (bound w n).static_type in
    Fits m (expr_code w 0 (access_expr n (before_last steps))
    ⨟ put_code w (stepped_type w.tree w.scope t (before_last steps))
    (slot_behind w 0 t (own_slot w t (bound w n).place) (before_last steps)) (last_field steps) h)
stepped_fits m w n steps h p k =
    let t = (bound w n).static_type in
    let place = (bound w n).place in
    let few = before_nodes steps in
    let low = behind_low m w 0 t (own_slot w t place) (before_last steps)
    (own_low m w t place (place_named m w.scope.names n p)) (omega (arith, k, few)) in (
      expr_fits m w 0 (access_expr n (before_last steps)) p (omega (arith, k, few)),
      put_fits m w (stepped_type w.tree w.scope t (before_last steps))
          (slot_behind w 0 t (own_slot w t place) (before_last steps)) (last_field steps) h p low,
    )

target_fits : (m : ℕ) (w : Where) (n : Name) (steps : Steps) (h : How) → Placed m w.scope.names →
    suc (length w.scope.names + number_of_nodes (parts_of_steps steps)) ≤ m → Fits m (target_code w n steps h)
target_fits m w n no_step h p k =
    set_fits m w (slot_named w n) h (bound w n).static_type (named_low m w n p) (spare_low m w 0 (omega (arith, k)))
target_fits m w n (field_step f rest) h p k = stepped_fits m w n (field_step f rest) h p k
target_fits m w n (at_step e rest) h p k = stepped_fits m w n (at_step e rest) h p k

right_fits : (m : ℕ) (w : Where) (n : Name) (steps : Steps) (h : How) (e : Expression) → Placed m w.scope.names →
    length w.scope.names + number_of_nodes (parts_of_expression e) ≤ m → Fits m (right_code w n steps h e)
right_fits m w n steps how.Set e p h =
    (expr_fits m w 0 e p (omega (arith, h)), converted_fits m w (typed w e) (typed w (access_expr n steps)))
right_fits m w n steps (how.Reduce o) e p h = expr_fits m w 0 e p (omega (arith, h))

fill_fits : (m : ℕ) (w : Where) (from t : StaticType) (r : ℕ) (fs : List Name) → IsLow m r → IsLow m (spare w 0) →
    Fits m (fill_code w from t r fs)
fill_fits m w from t r [] l h = tt
fill_fits m w from t r (f ∷ fs) l h =
    let a = converted_fits m w from (field_type w.tree (space_in t) (args_in t) f) in
    (h, (a, (l, fill_fits m w from t r fs l h)))

-- ---- scopes

arms_names : (tree : Tree) (s : Scope) (arms : Arms) → (scope_after_arms tree s arms).names ≡ s.names
arms_names tree s no_arm = refl
arms_names tree s (an_arm test body rest) = arms_names tree (past s (scope_after_block tree s body)) rest

-- a statement binds at most one more name, at a place of its own
after_else : (m : ℕ) (tree : Tree) (s : Scope) (other : Otherwise) → Placed m s.names →
    Placed m (scope_after_else tree s other).names
after_else m tree s no_else p = p
after_else m tree s (else_block body) p = p

else_length : (tree : Tree) (s : Scope) (other : Otherwise) →
    length (scope_after_else tree s other).names ≡ length s.names
else_length tree s no_else = refl
else_length tree s (else_block body) = refl

after_placed : (m : ℕ) (tree : Tree) (s : Scope) (form : Form) → Placed m s.names → length s.names ≤ m →
    Placed m (scope_after tree s form).names
after_placed m tree s (var_form n term i) p h = (h, p)
after_placed m tree s (if_form arms other) p h =
    after_else m tree (scope_after_arms tree s arms) other (subst (Placed m) (sym (arms_names tree s arms)) p)
after_placed m tree s (while_form test body) p h = p
after_placed m tree s (for_in_form demanded n domain body) p h = p
after_placed m tree s (for_to_form demanded n from to body) p h = p
after_placed m tree s (do_form body) p h = p
after_placed m tree s (fill_form r fields e) p h = p
after_placed m tree s (assert_form e) p h = p
after_placed m tree s (print_form alias format args) p h = p
after_placed m tree s (call_form task args) p h = p
after_placed m tree s (assign_form n steps how e) p h = p
after_placed m tree s (return_form e) p h = p

after_length : (tree : Tree) (s : Scope) (form : Form) →
    length (scope_after tree s form).names ≤ suc (length s.names)
after_length tree s (var_form n term i) = omega arith
after_length tree s (if_form arms other) =
    let a = else_length tree (scope_after_arms tree s arms) other in
    let b = ap length (arms_names tree s arms) in
    omega (arith, a, b)
after_length tree s (while_form test body) = omega arith
after_length tree s (for_in_form demanded n domain body) = omega arith
after_length tree s (for_to_form demanded n from to body) = omega arith
after_length tree s (do_form body) = omega arith
after_length tree s (fill_form r fields e) = omega arith
after_length tree s (assert_form e) = omega arith
after_length tree s (print_form alias format args) = omega arith
after_length tree s (call_form task args) = omega arith
after_length tree s (assign_form n steps how e) = omega arith
after_length tree s (return_form e) = omega arith

-- ---- statements

mutual
  form_fits : (m : ℕ) (w : Where) (form : Form) → Placed m w.scope.names →
      suc (length w.scope.names + number_of_nodes (parts_of_form form)) ≤ m → Fits m (form_code w form)
  form_fits m w (var_form n term i) p h =
      let k = both_nodes (parts_of_type term) (parts_of_init i) in
      let low = slot_low m w (new_place w) (omega (arith, h)) in
      begun_either (Fits m) w (slot w (new_place w)) _ (initializer_fits m w term (var_type w.tree w.scope term i) i p (omega (arith, h, k)), low)
      (var_type w.tree w.scope term i) i
      (λ task args is. let same = ap (λ (j : Option Initializer). number_of_nodes (parts_of_init j)) is in
      let c = expr_fits m w 0 (call_expr task args) p (omega (arith, h, k, same)) in (c.0, (c.1.0, low)))
  form_fits m w (if_form arms other) p h =
      let n = both_nodes (parts_of_arms arms) (parts_of_otherwise other) in
      let same = arms_names w.tree w.scope arms in
      let long = ap length same in
      arms_fits m w w arms (else_code (after_arms w arms) other) p p
      (omega (arith, h, n)) (omega (arith, h, n))
      (else_fits m (after_arms w arms) other (subst (Placed m) (sym same) p) (omega (arith, h, n, long)))
  form_fits m w (while_form test body) p h =
      let n = both_nodes (parts_of_expression test) (parts_of_block body) in
      (expr_fits m w 0 test p (omega (arith, h, n)), block_fits m w body p (omega (arith, h, n)))
  form_fits m w (for_in_form demanded n domain body) p h =
      let k = both_nodes (parts_of_expression domain) (parts_of_block body) in
      let place = new_place w in
      let below : length w.scope.names ≤ m = omega (arith, h) in
      let x = slot_low m w place below in
      let c = counter_low m w place below in
      let s = beside_low m w place below in
      let a = expr_fits m w 0 domain p (omega (arith, h, k)) in
      let inner = looping w n (taken_from (typed w domain)) in
      let b = block_fits m inner body (below, p) (omega (arith, h, k)) in
      let head = three_low m (beside w place) (counter w place) (slot w place) s c x in
      let points = points_code w (is_pointer (taken_from (typed w domain))) (block_code inner body) in (
        a,
        (
          s,
          launch_fits m w inner n (is_space (typed w domain) && is_launch (shape_of w.tree w.scope (for_in_form demanded n domain body))) body points
              (free m, (c, (λ to. head, b))) (below, p) (omega (arith, h, k)) s,
        ),
      )
  form_fits m w (for_to_form demanded n from to body) p h =
      let k = both_nodes (parts_of_expression from) (parts_of_expression to ++ parts_of_block body) in
      let l = both_nodes (parts_of_expression to) (parts_of_block body) in
      let place = new_place w in
      let below : length w.scope.names ≤ m = omega (arith, h) in
      let x = slot_low m w place below in
      let c = counter_low m w place below in
      let s = beside_low m w place below in
      let a = expr_fits m w 0 from p (omega (arith, h, k, l)) in
      let f = expr_fits m w 0 to p (omega (arith, h, k, l)) in
      let b = block_fits m (looping w n (arithmetic_type (typed w from) (typed w to))) body (below, p)
      (omega (arith, h, k, l)) in
      let head = three_low m (counter w place) (beside w place) (slot w place) c s x in
      (a, (f, (s, (c, (λ go. head, b)))))
  form_fits m w (do_form body) p h = block_fits m w body p (omega (arith, h))
  form_fits m w (fill_form r fields e) p h =
      let n = both_nodes (nodes fields) (parts_of_expression e) in
      let l = spare_low m w 0 (omega (arith, h)) in
      let a = expr_fits m w 0 e p (omega (arith, h, n)) in
      let b = fill_fits m w (typed w e) (bound w r).static_type (slot_named w r) fields (named_low m w r p) l in
      (a, (l, b))
  form_fits m w (assert_form e) p h = (expr_fits m w 0 e p (omega (arith, h)), free m)
  form_fits m w (print_form alias format args) p h = (exprs_fits m w 0 [] args p (omega (arith, h)), free m)
  form_fits m w (call_form task args) p h =
      let a = exprs_fits m w 0 (params_at w.tree w.scope (task_named w.tree task) args) args p (omega (arith, h)) in
      (a, (free m, free m))
  form_fits m w (assign_form n steps how e) p h =
      let k = both_nodes (parts_of_steps steps) (parts_of_expression e) in
      assigned_either (Fits m) w (slot_named w n) _
      (right_fits m w n steps how e p (omega (arith, h, k)), target_fits m w n steps how p (omega (arith, h, k))) n steps how e
      (λ task args is keeps still. let same = ap (λ (j : Expression). number_of_nodes (parts_of_expression j)) is in
      let c = expr_fits m w 0 (call_expr task args) p (omega (arith, h, k, same)) in (c.0, (c.1.0, named_low m w n p)))
  form_fits m w (return_form None) p h = free m
  form_fits m w (return_form (Some e)) p h =
      let a = expr_fits m w 0 e p (omega (arith, h)) in
      (a, (converted_fits m w (typed w e) w.result, free m))

  arms_fits : (m : ℕ) (own w : Where) (arms : Arms) (other : Piece) →
      Placed m own.scope.names → Placed m w.scope.names →
      length own.scope.names + number_of_nodes (parts_of_arms arms) ≤ m →
      length w.scope.names + number_of_nodes (parts_of_arms arms) ≤ m →
      Fits m other → Fits m (arms_code own w arms other)
  arms_fits m own w no_arm other p q h k o = o
  arms_fits m own w (an_arm test body rest) other p q h k o =
      let n = both_nodes (parts_of_expression test) (parts_of_block body ++ parts_of_arms rest) in
      let l = both_nodes (parts_of_block body) (parts_of_arms rest) in
      let a = expr_fits m own 0 test p (omega (arith, h, n, l)) in
      let b = block_fits m w body q (omega (arith, k, n, l)) in
      let c = arms_fits m own (after_arm w body) rest other p q (omega (arith, h, n, l)) (omega (arith, k, n, l)) o in
      (a, (b, c))

  else_fits : (m : ℕ) (w : Where) (other : Otherwise) → Placed m w.scope.names →
      length w.scope.names + number_of_nodes (parts_of_otherwise other) ≤ m → Fits m (else_code w other)
  else_fits m w no_else p h = tt
  else_fits m w (else_block body) p h = block_fits m w body p h

  pub block_fits : (m : ℕ) (w : Where) (body : Block) → Placed m w.scope.names →
      length w.scope.names + number_of_nodes (parts_of_block body) ≤ m → Fits m (block_code w body)
  block_fits m w no_statement p h = tt
  block_fits m w (then_statement (a_statement line form) rest) p h =
      let n = both_nodes (parts_of_form form) (parts_of_block rest) in
      let more = after_length w.tree w.scope form in
      let next = after_placed m w.tree w.scope form p (omega (arith, h)) in (
        form_fits m (on_line w line) form p (omega (arith, h, n)),
        block_fits m (after_form w form) rest next (omega (arith, h, n, more)),
      )
