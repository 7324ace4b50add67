-- An accepted program over scalars runs as it means, for all turns.
use Rattle.std.proofs.Common.{◌≡◌, ◌∙◌, List, [], ◌∷◌, ap, inr, subst, true, ℤ, arith}
use Rattle.std.specs.Prelude.{length, option_map, ◌==◌, ◌++◌}
use Rattle.std.specs.List.{list_all}
use Rattle.std.proofs.lemmas.Bool.{and_parts}
use Rattle.std.proofs.lemmas.List.{length-map}
use Rattle.std.proofs.lemmas.Option.{slice_get-map}
use Rattle.regent_tree.specs.Limits.{parts_of_block, parts_of_item, parts_of_params, parts_of_program, parts_of_type, tasks_in}
use Rattle.regent_tree.specs.Scopes.{scope_of}
use Rattle.regent_tree.specs.StaticTypes.{entry_name, task_named}
use Rattle.regent_tree.specs.Syntax.{ItemTree, Tree, task_item}
use Rattle.regent_tree.specs.Typing.{param_types, width_of_type}
use Rattle.regent_tree.specs.declared.types.Param.{Param}
use Rattle.regent_tree.specs.declared.typing.Bound.{Bound}
use Rattle.check_laws.proofs.Bodies.{body_told}
use Rattle.check_laws.proofs.Entries.{begins}
use Rattle.check_rules.specs.Acceptance.{input_widths}
use Rattle.code_rules.specs.Instructions.{place_of_task, tasks_of}
use Rattle.code_rules.specs.Programs.{task_code}
use Rattle.code_laws.specs.Programs.{IsTypedRun, scalar_forms}
use Rattle.code_laws.specs.ScalarPrograms.{IsScalarProgramRun, ScalarProgramsLeaveNoRoots, ScalarProgramsRunAsMeant}
use Rattle.code_laws.proofs.Entries.{AreIntegers, all_of, found, inputs_count, inputs_taken, kept_all, kept_item, no_clauses, params_integers, short_body, types_integers}
use Rattle.code_laws.proofs.LocalTrees.{item_stands, result_declared}
use Rattle.code_laws.proofs.Openings.{params_length, types_length}
use Rattle.code_laws.proofs.ScalarBlocks.{block_typed}
use Rattle.code_laws.proofs.Top.{scalars_leave_no_roots, scalars_run_as_meant}
use Rattle.code_laws.proofs.Typing.{AllScalar, AreKept, kept_right}
use Rattle.scalar_form.specs.ScalarForm.{is_empty, is_scalar_block, is_scalar_if_said, is_scalar_item, is_scalar_task, is_scalar_term}
use Rattle.code_laws.specs.Simple.{IsInteger, IsScalar, an_integer, scalar_integer}
use Rattle.regent_tree.specs.declared.typing.StaticType.{StaticType}

integer_scalar : (t : StaticType) → IsInteger t → IsScalar t
integer_scalar _ (an_integer w) = scalar_integer w

-- integers are numbers
integers_scalar : (bs : List Bound) → AreIntegers bs → AllScalar bs
integers_scalar [] a = tt
integers_scalar (b ∷ bs) a = (integer_scalar b.static_type a.0, integers_scalar bs a.1)

pub scalar_run : (tree : Tree) (inputs : List ℤ) → IsScalarProgramRun tree inputs → IsTypedRun scalar_forms tree inputs
scalar_run tree inputs p =
    let main = entry_name tree in
    let t = task_named tree main in
    let b = begins tree p.accepted in
    let f = found main tree b.there in
    let items = and_parts (list_all (λ (i : ItemTree). is_scalar_item i.form) tree) (tasks_in tree == 1) p.scalar in
    let item = f.stands.0 in
    let is : is_scalar_task t ≡ true =
    subst (λ form. is_scalar_item form ≡ true) f.stands.2 (all_of (λ i. is_scalar_item i.form) tree items.0 item f.stands.1) in
    let one = and_parts (list_all (λ (p : Param). is_scalar_term p.term) t.params) _ is in
    let two = and_parts (is_scalar_if_said t.result) _ one.1 in
    let three = and_parts (is_empty t.clauses) (is_scalar_block t.body) two.1 in
    let stands = item_stands tree item f.stands.1 t f.stands.2 in
    let told = body_told tree t p.accepted stands in
    let every = kept_all (parts_of_program tree) p.within.each in
    let parts : AreKept (parts_of_item (task_item t)) = subst (λ form. AreKept (parts_of_item form)) f.stands.2
    (kept_item tree (λ q h. every q (inr (inr h))) item f.stands.1) in
    let body = kept_right (parts_of_type t.result) (parts_of_block t.body)
    (kept_right (parts_of_params t.params) (parts_of_type t.result ++ parts_of_block t.body) (λ q h. parts q (inr h))) in
    let bound = params_integers tree t.params 0 t.params b.integers in
    let ts = param_types tree t in
    let long : length ts ≡ length t.params = types_length (scope_of tree t).names ∙ params_length tree t.params 0 t.params in record {
      start = slice_get-map (task_code tree) (tasks_of tree) (place_of_task tree main) ∙ ap (option_map (task_code tree)) f.at;
      needs = no_clauses tree t three.0;
      typed = block_typed tree t told.sound (length t.params) (result_declared tree p.accepted item f.stands.1 t f.stands.2) (scope_of tree t) 0 t.body three.1 body told.scope
          (integers_scalar (scope_of tree t).names bound) told.told;
      small = omega (arith, short_body tree (place_of_task tree main) t p.within f.at);
      taken = inputs_taken ts inputs (types_integers (scope_of tree t).names bound) p.numbers;
      count = inputs_count (input_widths tree) inputs p.numbers ∙ length-map ts width_of_type ∙ long;
    }

pub scalar_programs_run_as_meant : ScalarProgramsRunAsMeant
scalar_programs_run_as_meant tree inputs turns p = scalars_run_as_meant tree inputs turns (scalar_run tree inputs p)

pub scalar_programs_leave_no_roots : ScalarProgramsLeaveNoRoots
scalar_programs_leave_no_roots tree inputs turns p = scalars_leave_no_roots tree inputs turns (scalar_run tree inputs p)
