-- The launches in the code of statements stand on the lines of the loops whose shape is Launch.
use Rattle.std.proofs.Common.{◌≡◌, ◌∙◌, ℕ, List, [], ◌∷◌, ◌++◌, Bool, true, false, cond, flat_map, map, Option, Some, None, refl, sym, ap, append-nil, append_assoc, inl, inr}
use Rattle.std.specs.Prelude.{Contains, filter, pos, ◌&&◌}
use Rattle.std.proofs.lemmas.Bool.{false≢true}
use Rattle.std.proofs.lemmas.List.{map-append}
use Rattle.std.proofs.lemmas.List.Concat.{flat_map-append}
use Rattle.std.proofs.lemmas.List.Elements.{filter-append}
use Rattle.index_launch.specs.Shapes.{shape}
use Rattle.index_launch.specs.declared.view.LoopView.{LoopView}
use Rattle.regent_tree.proofs.Members.{Has, Has-append_left, Has-append_right}
use Rattle.regent_tree.specs.Scopes.{Scope}
use Rattle.regent_tree.specs.StaticTypes.{task_named}
use Rattle.regent_tree.specs.Syntax.{Arms, Block, Expression, Form, Name, Otherwise, TaskTree, Tree, a_statement, an_arm, assert_form, assign_form, call_form, do_form, else_block, fill_form, for_in_form, for_to_form, if_form, no_arm, no_else, no_statement, print_form, return_form, then_statement, var_form, while_form}
use Rattle.regent_tree.specs.Typing.{arithmetic_type, is_pointer, params_at, scope_after, taken_from, var_type}
use Rattle.task_code.specs.declared.instr.Instr.TheVariants as instr
use Rattle.check_rules.specs.Breaches.{breaches}
use Rattle.check_rules.specs.declared.loop_shape.LoopShape.{LoopShape}
use Rattle.check_rules.specs.launches.Shapes.{loop_at, shape_of}
use Rattle.check_rules.specs.launches.Views.{loop_view}
use Rattle.check_rules.specs.scopes.Variables.{scope_in_count, scope_in_loop}
use Rattle.check_rules.specs.scopes.Visits.{Visit}
use Rattle.check_rules.specs.types.KnownTypes.{known_type}
use Rattle.check_rules.specs.types.Sorts.{is_space, may_be}
use Rattle.check_laws.specs.MeantVisits.{meant_in, meant_in_arms, meant_in_else, meant_visits, meant_within}
use Rattle.code_rules.specs.Assignments.{right_code, target_code}
use Rattle.code_rules.specs.Expressions.{expr_code}
use Rattle.code_rules.specs.Initializers.{new_place}
use Rattle.code_rules.specs.Instructions.{one, place_of_task}
use Rattle.code_rules.specs.Launches.{LaunchedCall, args_of, is_launch, kept_code, launched_call}
use Rattle.code_rules.specs.Pieces.{Piece, branch, rounds, ◌⨟◌}
use Rattle.code_rules.specs.Slots.{Where, beside, bound, counter, slot, slot_named, typed}
use Rattle.code_rules.specs.Statements.{after_arm, after_arms, after_form, arms_code, begun_form, block_code, else_code, form_code, in_one_step, looping, on_line, points_code}
use Rattle.code_rules.proofs.KeptCalls.{assigned_either, begun_either}
use Rattle.launch_laws.specs.Launched.{launchable}
use Rattle.launch_laws.specs.Laws.{inside}
use Rattle.launch_laws.proofs.Calls.{has_call, heads, over_as}
use Rattle.launch_laws.proofs.Loops.{body_alone, call_by_shape, taken}
use Rattle.launch_laws.proofs.Pieces.{Makes, Quiet, behind, makes_both, makes_branch, makes_loop, makes_rounds, quiet_makes}
use Rattle.launch_laws.proofs.QuietExpressions.{converted_quiet, expr_quiet, exprs_quiet}
use Rattle.launch_laws.proofs.QuietStatements.{fill_quiet, fixed_quiet, initializer_quiet, right_quiet, target_quiet}

-- ---- the lines of loops

abbrev pub loop_lines : Tree → List Visit → List ℕ
loop_lines tree vs = launchable (flat_map (loop_at tree) vs)

launchable_append : (xs ys : List LoopShape) → launchable (xs ++ ys) ≡ launchable xs ++ launchable ys
launchable_append xs ys =
    let is : LoopShape → Bool = λ l. is_launch (Some l.shape) in
    ap (map (λ (l : LoopShape). l.line)) (filter-append is xs ys)
    ∙ map-append (λ (l : LoopShape). l.line) (filter is xs) (filter is ys)

pub lines_append : (tree : Tree) (us vs : List Visit) → loop_lines tree (us ++ vs) ≡ loop_lines tree us ++ loop_lines tree vs
lines_append tree us vs =
    ap launchable (flat_map-append (loop_at tree) us vs)
    ∙ launchable_append (flat_map (loop_at tree) us) (flat_map (loop_at tree) vs)

-- a loop is listed where its shape is Launch
listed : (b : Bool) (l : LoopShape) (rest : List LoopShape) → is_launch (Some l.shape) ≡ b →
    launchable (l ∷ rest) ≡ cond b (l.line ∷ launchable rest) (launchable rest)
listed true l rest e =
    let more = filter (λ (x : LoopShape). is_launch (Some x.shape)) rest in
    ap (λ c. map (λ (x : LoopShape). x.line) (cond c (l ∷ more) more)) e
listed false l rest e =
    let more = filter (λ (x : LoopShape). is_launch (Some x.shape)) rest in
    ap (λ c. map (λ (x : LoopShape). x.line) (cond c (l ∷ more) more)) e

-- ---- the statements of a tree

abbrev pub Visited : Tree → List Visit → Type 0
Visited tree vs = (v : Visit) → Has vs v → Contains (meant_visits tree) v

pub first_of : (tree : Tree) (us vs : List Visit) → Visited tree (us ++ vs) → Visited tree us
first_of tree us vs all v h = all v (Has-append_left us vs v h)

pub last_of : (tree : Tree) (us vs : List Visit) → Visited tree (us ++ vs) → Visited tree vs
last_of tree us vs all v h = all v (Has-append_right us vs v h)

abbrev visit : TaskTree → Where → Form → Visit
visit t w form = record { task = t; scope = w.scope; line = w.line; form = form }

abbrev here_and_below : TaskTree → Where → Form → List Visit
here_and_below t w form = visit t w form ∷ meant_within w.tree t w.scope form

below : (t : TaskTree) (w : Where) (form : Form) → Visited w.tree (here_and_below t w form) →
    Visited w.tree (meant_within w.tree t w.scope form)
below t w form all v h = all v (inr h)

-- ---- loops

points_make : (w : Where) (pointers : Bool) (body : Piece) (xs : List ℕ) → Makes body xs → Makes (points_code w pointers body) xs
points_make w pointers body xs m =
    let start = one w (instr.Store (counter w (new_place w))) in
    let next = instr.NextPoint (beside w (new_place w)) (counter w (new_place w)) (slot w (new_place w)) pointers in
    behind (one w (instr.Num (pos 0))) (start ⨟ rounds next w.line body) xs refl
    (behind start (rounds next w.line body) xs refl (makes_rounds next w.line body xs (λ to. refl) m))

-- a loop of numbers is no launch
counting : (tree : Tree) (s : Scope) (demanded : Bool) (i : Name) (from to : Expression) (body : Block) →
    is_launch (shape_of tree s (for_to_form demanded i from to body)) ≡ false
counting tree s demanded i from to body = told (is_launch (Some (shape view))) refl
  where
    view : LoopView
    view = loop_view tree (scope_in_count tree s i from to) i false body

    told : (b : Bool) → is_launch (Some (shape view)) ≡ b → is_launch (Some (shape view)) ≡ false
    told true e = absurd (false≢true (sym (over_as tree (scope_in_count tree s i from to) i false body) ∙ (heads view e).0))
    told false e = e

step_makes : (t : TaskTree) (w : Where) (demanded : Bool) (i : Name) (domain : Expression) (body : Block) (points : Piece) →
    has_call (launched_call w (for_in_form demanded i domain body) body)
    ≡ is_launch (shape_of w.tree w.scope (for_in_form demanded i domain body)) →
    Makes points (loop_lines w.tree (meant_in w.tree t (inside w i domain).scope body)) →
    Makes (in_one_step w (inside w i domain) i (launched_call w (for_in_form demanded i domain body) body) points)
    (loop_lines w.tree (here_and_below t w (for_in_form demanded i domain body)))
step_makes t w demanded i domain body points same m = by_call (launched_call w form body) refl
  where
    form : Form
    form = for_in_form demanded i domain body

    inner : Where
    inner = inside w i domain

    loop : LoopShape
    loop = record {
      line = w.line;
      shape = shape (loop_view w.tree (scope_in_loop w.tree w.scope i domain) i (may_be is_space (known_type w.tree w.scope domain)) body);
    }

    within : List LoopShape
    within = flat_map (loop_at w.tree) (meant_in w.tree t inner.scope body)

    by_call : (call : Option LaunchedCall) → launched_call w form body ≡ call →
        Makes (in_one_step w inner i call points) (loop_lines w.tree (here_and_below t w form))
    by_call None e pc = m pc ∙ sym (listed false loop within (sym same ∙ ap has_call e))
    by_call (Some c) e pc =
        let own = on_line inner c.line in
        let types = params_at own.tree own.scope (task_named own.tree c.task) c.args in
        let issue = one w (instr.Launch (place_of_task w.tree c.task) (beside w (new_place w)) c.line (args_of own i 0 c.args)) in
        let alone = body_alone body c (taken (is_space (typed w domain) && is_launch (shape_of w.tree w.scope form)) body c e) in
        let none = ap (λ b. loop_lines w.tree (meant_in w.tree t inner.scope b)) alone in
        behind (kept_code own i 0 types c.args) issue (w.line ∷ []) (fixed_quiet own i 0 types c.args) (λ at. refl) pc
        ∙ sym (listed true loop within (sym same ∙ ap has_call e) ∙ ap (λ xs. w.line ∷ xs) none)

-- ---- statements

mutual
  form_makes : (t : TaskTree) (w : Where) (form : Form) → breaches w.tree ≡ [] → Visited w.tree (here_and_below t w form) →
      Makes (form_code w form) (loop_lines w.tree (here_and_below t w form))
  form_makes t w (var_form n term i) sound all =
      quiet_makes (form_code w (var_form n term i)) (begun_either Quiet w (slot w (new_place w)) (begun_form w term i)
      (initializer_quiet w term (var_type w.tree w.scope term i) i, refl) (var_type w.tree w.scope term i) i
      (λ task args is. (exprs_quiet w 0 (params_at w.tree w.scope (task_named w.tree task) args) args, (refl, refl))))
  form_makes t w (if_form arms other) sound all =
      let after = after_arms w arms in
      let first = meant_in_arms w.tree t w.scope arms in
      let last = meant_in_else w.tree t after.scope other in
      let under = below t w (if_form arms other) all in
      let e = else_makes t after other sound (last_of w.tree first last under) in
      λ pc. arms_makes t w w arms (else_code after other) (loop_lines w.tree last) sound (first_of w.tree first last under) e pc
      ∙ sym (lines_append w.tree first last)
  form_makes t w (while_form test body) sound all =
      let ls = loop_lines w.tree (meant_in w.tree t w.scope body) in
      λ pc. makes_loop w.line (expr_code w 0 test) (block_code w body) ls []
      (block_makes t w body sound (below t w (while_form test body) all))
      (quiet_makes (expr_code w 0 test) (expr_quiet w 0 test)) pc ∙ append-nil ls
  form_makes t w (for_in_form demanded i domain body) sound all =
      let form = for_in_form demanded i domain body in
      let inner = inside w i domain in
      let pointers = is_pointer (taken_from (typed w domain)) in
      let points = points_code w pointers (block_code inner body) in
      let keep = one w (instr.Store (beside w (new_place w))) in
      let step = in_one_step w inner i (launched_call w form body) points in
      let ls = loop_lines w.tree (here_and_below t w form) in
      let b = block_makes t inner body sound (below t w form all) in
      let same = call_by_shape w t w.line demanded i domain body sound (all (visit t w form) (inl refl)) in
      let m = points_make w pointers (block_code inner body) (loop_lines w.tree (meant_in w.tree t inner.scope body)) b in
      behind (expr_code w 0 domain) (keep ⨟ step) ls (expr_quiet w 0 domain)
      (behind keep step ls refl (step_makes t w demanded i domain body points same m))
  form_makes t w (for_to_form demanded i from to body) sound all =
      let form = for_to_form demanded i from to body in
      let inner = looping w i (arithmetic_type (typed w from) (typed w to)) in
      let within = meant_in w.tree t inner.scope body in
      let ls = loop_lines w.tree within in
      let place = new_place w in
      let keep = one w (instr.Store (beside w place)) in
      let start = one w (instr.Store (counter w place)) in
      let next = instr.NextNumber (counter w place) (beside w place) (slot w place) in
      let turns = rounds next w.line (block_code inner body) in
      let b = block_makes t inner body sound (below t w form all) in
      let loop : LoopShape = record { line = w.line; shape = shape (loop_view w.tree (scope_in_count w.tree w.scope i from to) i false body) } in
      λ pc. behind (expr_code w 0 from) (expr_code w 0 to ⨟ keep ⨟ start ⨟ turns) ls (expr_quiet w 0 from)
      (behind (expr_code w 0 to) (keep ⨟ start ⨟ turns) ls (expr_quiet w 0 to)
      (behind keep (start ⨟ turns) ls refl (behind start turns ls refl
      (makes_rounds next w.line (block_code inner body) ls (λ go. refl) b)))) pc
      ∙ sym (listed false loop (flat_map (loop_at w.tree) within) (counting w.tree w.scope demanded i from to body))
  form_makes t w (do_form body) sound all = block_makes t w body sound (below t w (do_form body) all)
  form_makes t w (fill_form r fields e) sound all = quiet_makes (form_code w (fill_form r fields e))
      (expr_quiet w 0 e, (refl, fill_quiet w (typed w e) (bound w r).static_type (slot_named w r) fields))
  form_makes t w (assert_form e) sound all = quiet_makes (form_code w (assert_form e)) (expr_quiet w 0 e, refl)
  form_makes t w (print_form alias format args) sound all =
      quiet_makes (form_code w (print_form alias format args)) (exprs_quiet w 0 [] args, refl)
  form_makes t w (call_form task args) sound all = quiet_makes (form_code w (call_form task args))
      (exprs_quiet w 0 (params_at w.tree w.scope (task_named w.tree task) args) args, (refl, refl))
  form_makes t w (assign_form n steps how e) sound all = quiet_makes (form_code w (assign_form n steps how e))
      (assigned_either Quiet w (slot_named w n) (right_code w n steps how e ⨟ target_code w n steps how)
      (right_quiet w n steps how e, target_quiet w n steps how) n steps how e
      (λ task args is keeps still. (exprs_quiet w 0 (params_at w.tree w.scope (task_named w.tree task) args) args, (refl, refl))))
  form_makes t w (return_form None) sound all = quiet_makes (form_code w (return_form None)) refl
  form_makes t w (return_form (Some e)) sound all = quiet_makes (form_code w (return_form (Some e)))
      (expr_quiet w 0 e, (converted_quiet w (typed w e) w.result, refl))

  arms_makes : (t : TaskTree) (own w : Where) (arms : Arms) (other : Piece) (ys : List ℕ) → breaches w.tree ≡ [] →
      Visited w.tree (meant_in_arms w.tree t w.scope arms) → Makes other ys →
      Makes (arms_code own w arms other) (loop_lines w.tree (meant_in_arms w.tree t w.scope arms) ++ ys)
  arms_makes t own w no_arm other ys sound all h = h
  arms_makes t own w (an_arm test body rest) other ys sound all h =
      let after = after_arm w body in
      let first = meant_in w.tree t w.scope body in
      let last = meant_in_arms w.tree t after.scope rest in
      let xs = loop_lines w.tree first in
      let zs = loop_lines w.tree last in
      let more = arms_code own after rest other in
      let b = block_makes t w body sound (first_of w.tree first last all) in
      let m = arms_makes t own after rest other ys sound (last_of w.tree first last all) h in
      λ pc. behind (expr_code own 0 test) (branch w.line (block_code w body) more) (xs ++ (zs ++ ys)) (expr_quiet own 0 test)
      (makes_branch w.line (block_code w body) more xs (zs ++ ys) b m) pc
      ∙ sym (append_assoc xs zs ys) ∙ ap (λ ls. ls ++ ys) (sym (lines_append w.tree first last))

  else_makes : (t : TaskTree) (w : Where) (other : Otherwise) → breaches w.tree ≡ [] →
      Visited w.tree (meant_in_else w.tree t w.scope other) →
      Makes (else_code w other) (loop_lines w.tree (meant_in_else w.tree t w.scope other))
  else_makes t w no_else sound all = λ pc. refl
  else_makes t w (else_block body) sound all = block_makes t w body sound all

  pub block_makes : (t : TaskTree) (w : Where) (body : Block) → breaches w.tree ≡ [] →
      Visited w.tree (meant_in w.tree t w.scope body) →
      Makes (block_code w body) (loop_lines w.tree (meant_in w.tree t w.scope body))
  block_makes t w no_statement sound all = λ pc. refl
  block_makes t w (then_statement (a_statement line form) rest) sound all =
      let on = on_line w line in
      let first = here_and_below t on form in
      let last = meant_in w.tree t (scope_after w.tree w.scope form) rest in
      λ pc. makes_both (form_code on form) (block_code (after_form w form) rest) (loop_lines w.tree first) (loop_lines w.tree last)
      (form_makes t on form sound (first_of w.tree first last all))
      (block_makes t (after_form w form) rest sound (last_of w.tree first last all)) pc
      ∙ sym (lines_append w.tree first last)
