-- An accepted program runs as it means.
use Rattle.std.proofs.Common.{◌≡◌, ◌∙◌, List, [], ◌∷◌, None, Option, Some, true, false, ap, subst, refl, inr, ℕ, zero, suc, ℤ, length, arith}
use Rattle.std.specs.Prelude.{option_map, ◌++◌}
use Rattle.std.proofs.lemmas.List.{length-map}
use Rattle.std.proofs.lemmas.Option.{slice_get-map}
use Rattle.regent_tree.specs.Limits.{parts_of_block, parts_of_item, parts_of_params, parts_of_program, parts_of_type}
use Rattle.regent_tree.specs.Scopes.{scope_of}
use Rattle.regent_tree.specs.StaticTypes.{entry_name, task_named}
use Rattle.regent_tree.specs.Syntax.{Tree, task_item}
use Rattle.regent_tree.specs.Typing.{param_types, result_type, scope_after_block, width_of_type}
use Rattle.regent_tree.specs.declared.types.TypeTerm.{TypeTerm}
use Rattle.regent_tree.specs.declared.typing.StaticType.{StaticType}
use Rattle.check_laws.proofs.Bodies.{body_told}
use Rattle.check_rules.specs.Acceptance.{input_widths}
use Rattle.check_rules.specs.types.Sorts.{is_region, type_at}
use Rattle.code_rules.specs.Instructions.{place_of_task, tasks_of}
use Rattle.code_rules.specs.Programs.{task_code}
use Rattle.state_laws.proofs.Texts.{body_begins}
use Rattle.code_laws.proofs.LocalSpaced.{params_placed}
use Rattle.code_laws.specs.Handing.{AreTypedBy, forms_by, told_in}
use Rattle.code_laws.proofs.Told.{all_told, block_grows, told_before}
use Rattle.code_laws.specs.Simple.{IsInteger, an_integer}
use Rattle.code_laws.specs.Programs.{IsGiven, IsTypedRun, gives_index, gives_nothing, gives_scalar}
use Rattle.code_laws.specs.Pointers.{HasZero, zero_index, zero_scalar}
use Rattle.code_laws.proofs.LocalBlocks.{block_local}
use Rattle.code_laws.proofs.DeclaredNeeds.{needs_none}
use Rattle.code_laws.proofs.KnownHeads.{IsReady, head_begins}
use Rattle.code_laws.proofs.LocalParams.{params_among}
use Rattle.code_laws.proofs.LocalTells.{params_tell}
use Rattle.code_laws.proofs.LocalParts.{given_result}
use Rattle.code_laws.proofs.Openings.{params_length, types_length}
use Rattle.check_laws.proofs.Entries.{begins}
use Rattle.code_laws.proofs.Entries.{AllIntegers, found, inputs_count, inputs_taken, kept_all, kept_item, params_integers, short_body, types_integers}
use Rattle.code_laws.proofs.Top.{handing_programs_end_well, regions_are_handed_as_meant}
use Rattle.code_laws.proofs.Typing.{AreKept, kept_right}
use Rattle.code_laws.proofs.LocalTrees.{begins_kept, body_of_form, item_stands, local_tree, result_declared, task_stands}
use Rattle.code_laws.specs.AcceptedPrograms.{AcceptedProgramsEndWell, AcceptedProgramsRunAsMeant, IsProgramRun}
use Rattle.check_rules.specs.types.Declarations.{is_no_result_type}
use Rattle.code_laws.proofs.LocalNames.{IsLocalTree}
use Rattle.code_laws.proofs.WrittenForms.{written_program}

-- a result of numbers, truths or indices, or none
given_local : (tree : Tree) (r : Option TypeTerm) → is_no_result_type r ≡ false → IsGiven (result_type tree r)
given_local tree None e = gives_nothing
given_local tree (Some t) e = by (given_result tree (Some t) e refl)
  where
    by : {u : StaticType} → HasZero u → IsGiven u
    by (zero_scalar u s) = gives_scalar u s
    by (zero_index k) = gives_index k

-- none of these types is a region's
integer_no_region : (t : StaticType) → IsInteger t → is_region t ≡ false
integer_no_region _ (an_integer w) = refl

integers_no_region : (ts : List StaticType) → AllIntegers ts → (i : ℕ) → is_region (type_at ts i) ≡ false
integers_no_region [] a i = refl
integers_no_region (t ∷ ts) a zero = integer_no_region t a.0
integers_no_region (t ∷ ts) a (suc i) = integers_no_region ts a.1 i

-- a program of which nothing is told
module _ (tree : Tree) (inputs : List ℤ) (p : IsProgramRun tree inputs) where
  local : IsLocalTree tree
  local = local_tree tree p.within p.accepted

  pub local_tasks : AreTypedBy true true tree
  local_tasks k t at =
      let s = task_stands tree k t at in
      let item = s.0 in
      let stands = item_stands tree item s.1 t s.2 in
      let result = result_declared tree p.accepted item s.1 t s.2 in
      let told = body_told tree t p.accepted stands in
      let every = kept_all (parts_of_program tree) p.within.each in
      let parts : AreKept (parts_of_item (task_item t)) = subst (λ form. AreKept (parts_of_item form)) s.2
      (kept_item tree (λ q h. every q (inr (inr h))) item s.1) in
      let body = kept_right (parts_of_type t.result) (parts_of_block t.body)
      (kept_right (parts_of_params t.params) (parts_of_type t.result ++ parts_of_block t.body) (λ q h. parts q (inr h))) in
      let short = short_body tree k t p.within at in
      let ready : IsReady tree t (scope_of tree t) = record {
        names = begins_kept tree t (params_among tree t p.accepted p.within stands);
        head = record {
          facts = head_begins tree t told.sound_task (params_tell tree t told.scope.numbers);
          spaced = body_begins tree p.accepted p.within t stands;
          placed = params_placed tree t;
          told = told_before (told_in tree t) (scope_of tree t) (scope_after_block tree (scope_of tree t) t.body) (block_grows tree (scope_of tree t) t.body)
              (all_told (scope_after_block tree (scope_of tree t) t.body));
        };
      } in record {
        given = given_local tree t.result result;
        typed = (block_local tree t told.sound told.sound_task local (length t.params) result (scope_of tree t) 0 t.body
            (body_of_form tree (written_program tree p.written) item s.1 t s.2) body told.scope ready (all_told (scope_after_block tree (scope_of tree t) t.body)) told.told).0;
        small = omega (arith, short);
      }

  pub local_run : IsTypedRun (forms_by true true tree (task_named tree (entry_name tree))) tree inputs
  local_run =
      let main = entry_name tree in
      let t = task_named tree main in
      let b = begins tree p.accepted in
      let f = found main tree b.there in
      let task = local_tasks (place_of_task tree main) t f.at in
      let told = body_told tree t p.accepted (item_stands tree f.stands.0 f.stands.1 t f.stands.2) in
      let bound = params_integers tree t.params 0 t.params b.integers in
      let ts = param_types tree t in
      let integers = types_integers (scope_of tree t).names bound in
      let long : length ts ≡ length t.params = types_length (scope_of tree t).names ∙ params_length tree t.params 0 t.params in record {
        start = slice_get-map (task_code tree) (tasks_of tree) (place_of_task tree main) ∙ ap (option_map (task_code tree)) f.at;
        needs = needs_none tree t told.sound_task local.named (integers_no_region ts integers);
        typed = task.typed;
        small = task.small;
        taken = inputs_taken ts inputs integers p.numbers;
        count = inputs_count (input_widths tree) inputs p.numbers ∙ length-map ts width_of_type ∙ long;
      }

pub accepted_programs_run_as_meant : AcceptedProgramsRunAsMeant
accepted_programs_run_as_meant tree inputs turns few p = regions_are_handed_as_meant true tree inputs turns few
    (local_tasks tree inputs p) (local_run tree inputs p)

pub accepted_programs_end_well : AcceptedProgramsEndWell
accepted_programs_end_well tree inputs turns few p = handing_programs_end_well true tree inputs turns few
    (local_tasks tree inputs p) (local_run tree inputs p)
