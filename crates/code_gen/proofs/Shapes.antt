-- In a program without a breach the shapes of all loops are those that the compiler comes to, one by one.
use Rattle.std.proofs.Common.{◌≡◌, ◌++◌, ◌∙◌, ◌∷◌, ℕ, Bool, List, None, [], ap, append-nil, append_assoc, cond, drop, flat_map, map, refl, sym}
use Rattle.std.specs.Prelude.{◌&&◌}
use Rattle.std.proofs.lemmas.List.Concat.{flat_map-append}
use Rattle.regent_tree.specs.Scopes.{scope_of}
use Rattle.regent_tree.specs.StaticTypes.{entry_name, spaces_of}
use Rattle.regent_tree.specs.Syntax.{Arms, Block, Form, ItemForm, ItemTree, Otherwise, TaskTree, Tree, a_statement, alias_item, an_arm, assert_form, assign_form, call_form, do_form, else_block, fill_form, for_in_form, for_to_form, if_form, import_item, no_arm, no_else, no_statement, print_form, return_form, space_item, start_item, task_item, then_statement, var_form, while_form}
use Rattle.regent_tree.specs.Typing.{arithmetic_type, is_pointer, scope_after, taken_from}
use Rattle.task_code.specs.declared.code.TaskCode.{TaskCode}
use Rattle.task_code.specs.declared.instr.Instr.TheVariants as instr
use Rattle.check_rules.specs.Breaches.{breaches}
use Rattle.check_rules.specs.declared.loop_shape.LoopShape.{LoopShape}
use Rattle.check_rules.specs.launches.Shapes.{loop_at, loops, shape_of}
use Rattle.check_rules.specs.scopes.Visits.{Visit}
use Rattle.check_rules.specs.types.Sorts.{is_space}
use Rattle.check_laws.specs.MeantVisits.{meant_in, meant_in_arms, meant_in_else, meant_of_item, meant_within}
use Rattle.check_laws.proofs.Trees.{statements_are_meant}
use Rattle.code_rules.specs.Expressions.{expr_code}
use Rattle.code_rules.specs.Initializers.{new_place}
use Rattle.code_rules.specs.Instructions.{one, place_of_task, tasks_of}
use Rattle.code_rules.specs.Launches.{is_launch, one_call}
use Rattle.code_rules.specs.Pieces.{Piece, branch, lines, loop, op, rounds, ◌⨟◌}
use Rattle.code_rules.specs.Programs.{code_of, place_of, space_code, task_code, task_with}
use Rattle.code_rules.specs.Slots.{Where, beside, counter, slot, typed}
use Rattle.code_rules.specs.Statements.{after_arm, after_arms, after_form, arms_code, block_code, else_code, form_code, in_one_step, looping, on_line, points_code}
use Rattle.compile_statements.specs.Shaped.{arms_by, block_by, else_by, first_is_launch, form_by, shapes_after_arms, shapes_after_block, shapes_after_else, shapes_after_form}
use Rattle.code_gen.specs.Shaped.{code_by, codes_by}

abbrev shapes_of : Tree → List Visit → List LoopShape
shapes_of tree vs = flat_map (loop_at tree) vs

-- shapes of two parts of a text
parted : (tree : Tree) (vs us : List Visit) (ls rest : List LoopShape) → ls ≡ shapes_of tree (vs ++ us) ++ rest →
    ls ≡ shapes_of tree vs ++ (shapes_of tree us ++ rest)
parted tree vs us ls rest h =
    h ∙ ap (λ (xs : List LoopShape). xs ++ rest) (flat_map-append (loop_at tree) vs us)
    ∙ append_assoc (shapes_of tree vs) (shapes_of tree us) rest

-- By the shapes of its loops a construct has its code, and the shapes of the loops behind it are left.
mutual
  form_as : (t : TaskTree) (w : Where) (line : ℕ) (form : Form) (ls rest : List LoopShape) →
      ls ≡ shapes_of w.tree (record { task = t; scope = w.scope; line = line; form = form } ∷ meant_within w.tree t w.scope form) ++ rest →
      (form_by ls w form ≡ form_code w form) × (shapes_after_form ls form ≡ rest)
  form_as t w line (if_form arms other) ls rest h =
      let after = after_arms w arms in
      let behind = shapes_of w.tree (meant_in_else w.tree t after.scope other) ++ rest in
      let a = arms_as t w w arms ls behind
      (parted w.tree (meant_in_arms w.tree t w.scope arms) (meant_in_else w.tree t after.scope other) ls rest h) in
      let b = else_as t after other (shapes_after_arms ls arms) rest a.1 in
      (a.0 (else_by (shapes_after_arms ls arms) after other) ∙ ap (arms_code w w arms) b.0, b.1)
  form_as t w line (while_form test body) ls rest h =
      let b = block_as t w body ls rest h in
      (ap (loop w.line (expr_code w 0 test)) b.0, b.1)
  form_as t w line (for_in_form demanded n domain body) ls rest h =
      let form = for_in_form demanded n domain body in
      let inner = looping w n (taken_from (typed w domain)) in
      let code : Bool → Piece → Piece = λ c p. expr_code w 0 domain ⨟ one w (instr.Store (beside w (new_place w)))
      ⨟ in_one_step w inner n (cond (is_space (typed w domain) && c) (one_call body) None) (points_code w (is_pointer (taken_from (typed w domain))) p) in
      let b = block_as t inner body (drop 1 ls) rest (ap (drop 1) h) in
      let first : first_is_launch ls ≡ is_launch (shape_of w.tree w.scope form) = ap first_is_launch h in
      (ap (λ (c : Bool). code c (block_by (drop 1 ls) inner body)) first ∙ ap (code (is_launch (shape_of w.tree w.scope form))) b.0, b.1)
  form_as t w line (for_to_form demanded n from to body) ls rest h =
      let inner = looping w n (arithmetic_type (typed w from) (typed w to)) in
      let b = block_as t inner body (drop 1 ls) rest (ap (drop 1) h) in (
        ap (λ (p : Piece). expr_code w 0 from ⨟ expr_code w 0 to
            ⨟ one w (instr.Store (beside w (new_place w))) ⨟ one w (instr.Store (counter w (new_place w)))
            ⨟ rounds (instr.NextNumber (counter w (new_place w)) (beside w (new_place w)) (slot w (new_place w))) w.line p) b.0,
        b.1,
      )
  form_as t w line (do_form body) ls rest h = block_as t w body ls rest h
  form_as t w line (var_form n term initializer) ls rest h = (refl, h)
  form_as t w line (fill_form r fields e) ls rest h = (refl, h)
  form_as t w line (assert_form e) ls rest h = (refl, h)
  form_as t w line (print_form alias format args) ls rest h = (refl, h)
  form_as t w line (call_form task args) ls rest h = (refl, h)
  form_as t w line (assign_form n steps how e) ls rest h = (refl, h)
  form_as t w line (return_form e) ls rest h = (refl, h)

  arms_as : (t : TaskTree) (own w : Where) (arms : Arms) (ls rest : List LoopShape) →
      ls ≡ shapes_of w.tree (meant_in_arms w.tree t w.scope arms) ++ rest →
      ((other : Piece) → arms_by ls own w arms other ≡ arms_code own w arms other) × (shapes_after_arms ls arms ≡ rest)
  arms_as t own w no_arm ls rest h = (λ other. refl, h)
  arms_as t own w (an_arm test body more) ls rest h =
      let after = after_arm w body in
      let behind = shapes_of w.tree (meant_in_arms w.tree t after.scope more) ++ rest in
      let a = block_as t w body ls behind
      (parted w.tree (meant_in w.tree t w.scope body) (meant_in_arms w.tree t after.scope more) ls rest h) in
      let b = arms_as t own after more (shapes_after_block ls body) rest a.1 in
      (λ other j. expr_code own 0 test ⨟ branch w.line (a.0 j) (b.0 other j), b.1)

  else_as : (t : TaskTree) (w : Where) (other : Otherwise) (ls rest : List LoopShape) →
      ls ≡ shapes_of w.tree (meant_in_else w.tree t w.scope other) ++ rest →
      (else_by ls w other ≡ else_code w other) × (shapes_after_else ls other ≡ rest)
  else_as t w no_else ls rest h = (refl, h)
  else_as t w (else_block body) ls rest h = block_as t w body ls rest h

  block_as : (t : TaskTree) (w : Where) (body : Block) (ls rest : List LoopShape) →
      ls ≡ shapes_of w.tree (meant_in w.tree t w.scope body) ++ rest →
      (block_by ls w body ≡ block_code w body) × (shapes_after_block ls body ≡ rest)
  block_as t w no_statement ls rest h = (refl, h)
  block_as t w (then_statement (a_statement line form) more) ls rest h =
      let v : Visit = record { task = t; scope = w.scope; line = line; form = form } in
      let after = meant_in w.tree t (scope_after w.tree w.scope form) more in
      let a = form_as t (on_line w line) line form ls (shapes_of w.tree after ++ rest)
      (parted w.tree (v ∷ meant_within w.tree t w.scope form) after ls rest h) in
      let b = block_as t (after_form w form) more (shapes_after_form ls form) rest a.1 in
      (λ j. a.0 j ⨟ b.0 j, b.1)

-- ---- tasks

abbrev visits_of : Tree → List ItemTree → List Visit
visits_of tree items = flat_map (λ (i : ItemTree). meant_of_item tree i.form) items

abbrev HasCodes : Tree → List ItemTree → List LoopShape → Type 0
HasCodes tree items rest = (ls : List LoopShape) → ls ≡ shapes_of tree (visits_of tree items) ++ rest →
    codes_by ls tree (tasks_of items) ≡ map (task_code tree) (tasks_of items)

item_as : (tree : Tree) (line : ℕ) (form : ItemForm) (items : List ItemTree) (rest : List LoopShape) → HasCodes tree items rest →
    HasCodes tree (record { line = line; form = form } ∷ items) rest
item_as tree line import_item items rest more ls h = more ls h
item_as tree line (alias_item n) items rest more ls h = more ls h
item_as tree line (space_item s) items rest more ls h = more ls h
item_as tree line (start_item n) items rest more ls h = more ls h
item_as tree line (task_item t) items rest more ls h =
    let a = block_as t (place_of tree t) t.body ls (shapes_of tree (visits_of tree items) ++ rest)
    (parted tree (meant_in tree t (scope_of tree t) t.body) (visits_of tree items) ls rest h) in
    let behind = more (shapes_after_block ls t.body) a.1 in
    λ j. task_with tree t (lines (a.0 j ⨟ op instr.Return 0) 0) ∷ behind j

items_as : (tree : Tree) (items : List ItemTree) (rest : List LoopShape) → HasCodes tree items rest
items_as tree [] rest ls h = refl
items_as tree (i ∷ items) rest ls h = item_as tree i.line i.form items rest (items_as tree items rest) ls h

-- By the shapes of its loops a program without a breach has its code.
pub code_as : (tree : Tree) → breaches tree ≡ [] → code_by (loops tree) tree ≡ code_of tree
code_as tree sound =
    let here : loops tree ≡ shapes_of tree (visits_of tree tree) ++ [] =
    ap (shapes_of tree) (statements_are_meant tree sound) ∙ sym (append-nil (shapes_of tree (visits_of tree tree))) in
    ap (λ (codes : List TaskCode). record {
      tasks = codes;
      spaces = map space_code (spaces_of tree);
      start = place_of_task tree (entry_name tree);
    }) (items_as tree tree [] (loops tree) here)
