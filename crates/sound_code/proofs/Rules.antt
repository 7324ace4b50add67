-- The code of tasks of an accepted program is sound by the rules.
use Rattle.std.proofs.Common.{◌≡◌, ℕ, zero, suc, ◌≤◌, ◌^◌, ℤ, pos, map, arith, List, [], ◌∷◌, ◌++◌, ◌∙◌, ap, None, Some, false, true, inl, inr, refl, sym, subst}
use Rattle.std.specs.List.{list_all}
use Rattle.std.proofs.lemmas.Bool.{and_parts, false≢true}
use Rattle.std.proofs.lemmas.Int.{ints}
use Rattle.std.proofs.lemmas.Option.{none-some, same_Some}
use Rattle.std.specs.Prelude.{length, slice_get}
use Rattle.lane_kernels.specs.declared.numbers.Width.{Width}
use Rattle.lane_kernels.specs.declared.numbers.Width.TheVariants.{W32, W64}
use Rattle.regent_tree.proofs.Members.{Has}
use Rattle.regent_tree.specs.declared.facts.Known.{Known}
use Rattle.regent_tree.specs.StaticTypes.{entry_name, no_task, task_named}
use Rattle.regent_tree.specs.Syntax.{task_item, TaskTree, Tree}
use Rattle.check_rules.specs.Acceptance.{input_widths}
use Rattle.check_rules.specs.Breaches.{breaches}
use Rattle.code_laws.specs.ScalarPrograms.{AreInputs}
use Rattle.check_laws.proofs.Bodies.{body_told}
use Rattle.code_rules.specs.Instructions.{tasks_of}
use Rattle.code_laws.specs.Handing.{AreTypedBy}
use Rattle.code_laws.specs.Programs.{call_forms, IsTypedRun}
use Rattle.fit_rules.specs.Marks.{Fact, Mark}
use Rattle.marked_code.proofs.Remarked.{remarked}
use Rattle.code_laws.proofs.Entries.{kept_all, kept_item}
use Rattle.code_laws.proofs.Typing.{AreKept, kept_behind, kept_left, kept_right}
use Rattle.regent_tree.specs.Limits.{parts_of_block, parts_of_item, parts_of_items, parts_of_params, parts_of_program, parts_of_type}
use Rattle.sound_code.proofs.Few.{program_few, task_few}
use Rattle.sound_code.proofs.Frees.{program_whole}
use Rattle.code_laws.proofs.LocalRuns.{local_run, local_tasks}
use Rattle.code_laws.proofs.PlainBodies.{plain_run, plain_tasks}
use Rattle.regent_tree.specs.Scopes.{scope_of}
use Rattle.code_rules.specs.Pieces.{lines}
use Rattle.code_rules.specs.Programs.{body_piece, place_of, task_code}
use Rattle.code_laws.specs.Above.{cut_told, first_told, or_other, whole_of}
use Rattle.code_laws.specs.Handing.{forms_by, taking_of, told_in}
use Rattle.code_laws.specs.Steps.{Forms}
use Rattle.code_laws.specs.Typed.{IsTypedBlock}
use Rattle.sound_code.specs.Programs.{AcceptedCodeKeepsRules, AcceptedTasksAreSound, HandingTasksAreSound, PlainProgramsAreSound, ProgramRunsSoundly, WholeProgramsAreSound, TasksKeepRules, BeginsWell}
use Rattle.sound_code.proofs.WholeTasks.{is_whole_program, is_whole_task}
use Rattle.code_laws.proofs.LocalParams.{pointers_among}
use Rattle.code_laws.proofs.LocalTrees.{item_stands, task_stands}
use Rattle.code_laws.specs.AcceptedPrograms.{IsProgramRun}
use Rattle.sound_code.proofs.Scoped.{is_by_rules, Scoped}
use Rattle.code_laws.specs.Pointers.{AllGoToParams}
use Rattle.sound_code.proofs.ScopedNames.{opening_scoped}
use Rattle.sound_code.proofs.Cuts.{Cut}
use Rattle.sound_code.proofs.CutParams.{opening_cut}
use Rattle.sound_code.proofs.Wholes.{Asks, not_kept}
use Rattle.sound_code.proofs.Asked.{Hands, hands_none, hands_taken}
use Rattle.sound_code.specs.Ways.{none_begun, Tops, Way, by_rules, opening_facts}
use Rattle.sound_code.proofs.Beginning.{are_tops, no_tops, tops_of}
use Rattle.sound_code.proofs.Parameters.{lows_same, params_low}
use Rattle.fit_rules.specs.Shapes.{Are}
use Rattle.fit_rules.specs.Ends.{called}
use Rattle.sound_code.proofs.Accepted.{begins_kept, body_without_breach, stands_in}
use Rattle.sound_code.proofs.Behind.{after_block_ground}
use Rattle.sound_code.proofs.Grounds.{IsTold, tells_apart, tells_begun, tells_made, tells_part, tells_within}
use Rattle.sound_code.proofs.Entries.{named_there}
use Rattle.sound_code.proofs.OfTree.{began_so, of_tree}
use Rattle.sound_code.proofs.Openings.{all, all_marked, all_sound, all_treated, begins_well, opened}
use Rattle.sound_code.proofs.InOrder.{never_breaks, run_keeps_all, sound_code}
use Rattle.regent_tree.specs.Typing.{param_types, result_type}
use Rattle.code_laws.specs.Programs.{IsGiven}
use Rattle.fit_rules.specs.Fits.{Program}
use Rattle.sound_code.proofs.Tasks.{bare, HasMarks, marks_of, treat}
use Rattle.expression_laws.specs.WrittenStatements.{AreWrittenTasks, IsWrittenBlock}

abbrev way : Tops → Way
way tops = by_rules tops no_task

module _ (tree : Tree) (tops : Tops) (given : (k : ℕ) (t : TaskTree) → slice_get (tasks_of tree) k ≡ Some t → IsGiven (result_type tree t.result))
    (marks_at : (k : ℕ) (t : TaskTree) → slice_get (tasks_of tree) k ≡ Some t → HasMarks tree (way tops) k t) where
  abbrev marks : ℕ → List Mark
  marks = all tree (way tops) marks_at

  abbrev g : Program
  g = remarked (bare tree (way tops)) (marks_of tree (way tops) marks)

  well : (forms : Forms) → BeginsWell forms tree g
  well forms inputs turns p few =
      begins_well tree (way tops) marks (all_marked tree (way tops) marks_at) forms (named_there tree (entry_name tree) _ p.start) inputs turns p few

  pub tasks_keep_rules : TasksKeepRules tree
  tasks_keep_rules = record {
    program = g;
    code = refl;
    of_tree = of_tree tree tops marks (all_treated tree (way tops) marks_at);
    sound = all_sound tree (way tops) marks_at;
    all = sound_code tree g refl given (λ k. refl) (all_sound tree (way tops) marks_at);
    segments = λ k t there. never_breaks _ _ _ (all_sound tree (way tops) marks_at k t there);
    opens = λ k t there x args turns depth few are told. opened tree (way tops) marks (all_marked tree (way tops) marks_at) k t there x args turns depth few
        (subst (λ ss. Are (called x args) ss args) (lows_same tops t (length t.params) (param_types tree t) (params_low tree t)) are) told;
    began = λ k t there x b f. began_so tree g (of_tree tree tops marks (all_treated tree (way tops) marks_at)) k t there x x.args f.machine.beside.begins;
    begins = well;
    runs = λ forms. run_keeps_all tree g refl given (λ k. refl) (all_sound tree (way tops) marks_at) forms (well forms);
  }

-- what is told by such facts tells of no region that it began as a part
tells_no_cut : (t : TaskTree) (params : ℕ) (ks : List Fact) (i : ℕ) (k : Known) → IsTold params (none_begun t) ks k → cut_told i k ≡ None
tells_no_cut t params ks i _ (tells_within a b la lb h) = refl
tells_no_cut t params ks i _ (tells_apart a b la lb h) = refl
tells_no_cut t params ks i _ (tells_part p r d) = refl
tells_no_cut t params ks i _ (tells_made s l e) = refl
tells_no_cut t params ks i _ (tells_begun j p q c l e) = absurd (none-some q e)

no_cut_told : (t : TaskTree) (params : ℕ) (ks : List Fact) (i : ℕ) (known : List Known) → ((k : Known) → Has known k → IsTold params (none_begun t) ks k) → first_told (cut_told i) known ≡ None
no_cut_told t params ks i [] h = refl
no_cut_told t params ks i (k ∷ known) h =
    ap (λ o. or_other o (first_told (cut_told i) known)) (tells_no_cut t params ks i k (h k (inl refl))) ∙ no_cut_told t params ks i known (λ j x. h j (inr x))

module _ (tree : Tree) (none : breaches tree ≡ []) where
  -- a task of which nothing is told, in these forms
  told_marks : (tops : Tops) (forms : Forms) (k : ℕ) (t : TaskTree) → slice_get (tasks_of tree) k ≡ Some t →
      ((i : ℕ) (q : ℕ × ℕ) → tops t i ≡ Some q → q.1 ≤ i) → Hands forms (task_code tree t) (by_rules tops t) tree →
      IsTypedBlock forms (place_of tree t) t.body → Scoped forms.keeps (by_rules tops t) (scope_of tree t).names →
      Cut forms.keeps (by_rules tops t) tree (length t.params) (opening_facts (by_rules tops t) tree t) (scope_of tree t).names → Asks forms.keeps (is_whole_task true tree t) →
      length (lines (body_piece tree t) 0) ≤ 2 ^ 32 → HasMarks tree (way tops) k t
  told_marks tops forms k t there falls hands typed scoped cut whole small =
      treat tree (way tops) forms k t there hands (begins_kept tree t (body_told tree t none (stands_in tree k t there)) tops falls)
      (body_without_breach tree none k t there) typed (λ q. is_by_rules tops t) scoped cut whole small

  -- where no pointers are kept, none of the regions of such a task began as a part
  none_above : (forms : Forms) → forms.keeps ≡ false → (k : ℕ) (t : TaskTree) → slice_get (tasks_of tree) k ≡ Some t → IsTypedBlock forms (place_of tree t) t.body →
      (i : ℕ) → (taking_of tree t).above i ≡ None
  none_above forms unkept k t there typed i =
      let h = after_block_ground forms (task_code tree t) (by_rules none_begun t) (place_of tree t) t.body typed (not_kept forms.keeps _ unkept)
      (λ i b. refl, λ keeps i r b l. absurd (false≢true (sym unkept ∙ keeps)))
      (begins_kept tree t (body_told tree t none (stands_in tree k t there)) none_begun (λ i q e. absurd (none-some q e))) in
      ap (whole_of (told_in tree t)) (no_cut_told t (length t.params) (opening_facts (by_rules none_begun t) tree t) i (told_in tree t) h.known)

  -- where tasks hand regions over and keep no pointers
  plain_handing : AreTypedBy true false tree → TasksKeepRules tree
  plain_handing typed = tasks_keep_rules tree none_begun (λ k t there. (typed k t there).given) (λ k t there.
      let h = typed k t there in
      let forms = forms_by true false tree t in
      told_marks none_begun forms k t there (λ i q e. absurd (none-some q e))
      (hands_taken none_begun t (taking_of tree t) refl refl refl refl refl (no_tops (taking_of tree t) t (none_above forms refl k t there h.typed)) (λ e i. refl))
      h.typed (λ q. absurd (false≢true q)) (λ q. absurd (false≢true q)) (not_kept false _ refl) h.small)

  -- where they keep pointers
  handing : AreTypedBy true true tree → is_whole_program true tree ≡ true →
      ((k : ℕ) (t : TaskTree) → slice_get (tasks_of tree) k ≡ Some t → AllGoToParams (scope_of tree t).names) → TasksKeepRules tree
  handing typed whole goals = tasks_keep_rules tree (tops_of tree) (λ k t there. (typed k t there).given) (λ k t there.
      let h = typed k t there in
      let are = are_tops tree t in
      told_marks (tops_of tree) (forms_by true true tree t) k t there are.falls
      (hands_taken (tops_of tree) t (taking_of tree t) refl refl refl refl refl are (λ e. absurd (false≢true (sym e))))
      h.typed (λ q. opening_scoped tree t (goals k t there)) (λ q. opening_cut tree t (tops_of tree t) (told_in tree t) (goals k t there)) (λ q. each_task (tasks_of tree) k whole there) h.small)
    where
      each_task : {t : TaskTree} (ts : List TaskTree) (k : ℕ) → list_all (is_whole_task true tree) ts ≡ true → slice_get ts k ≡ Some t → is_whole_task true tree t ≡ true
      each_task [] k h e = absurd (none-some _ e)
      each_task (u ∷ us) zero h e = subst (λ v. is_whole_task true tree v ≡ true) (same_Some _ _ e) (and_parts _ _ h).0
      each_task (u ∷ us) (suc k) h e = each_task us k (and_parts _ _ h).1 e

pub accepted_tasks_are_sound : AcceptedTasksAreSound
accepted_tasks_are_sound tree none typed = tasks_keep_rules tree none_begun (λ k t there. (typed k t there).given) (λ k t there.
    let h = typed k t there in told_marks tree none none_begun call_forms k t there (λ i q e. absurd (none-some q e)) (hands_none refl refl (λ i. refl)) h.typed (λ q. absurd (false≢true q)) (λ q. absurd (false≢true q)) (not_kept false _ refl) h.small)

pub handing_tasks_are_sound : HandingTasksAreSound
handing_tasks_are_sound tree none typed = plain_handing tree none typed

-- by the run of such tasks
begun_soundly : (forms : Forms) (tree : Tree) (inputs : List ℤ) → TasksKeepRules tree → IsTypedRun forms tree inputs → ProgramRunsSoundly tree inputs
begun_soundly forms tree inputs tasks run = record {
  tasks = tasks;
  first = λ turns few. tasks.begins forms inputs turns run few;
  runs = λ turns few. tasks.runs forms inputs turns run few;
}

pub plain_programs_are_sound : PlainProgramsAreSound
plain_programs_are_sound tree inputs p = begun_soundly (forms_by true false tree (task_named tree (entry_name tree))) tree inputs
    (handing_tasks_are_sound tree p.run.accepted (plain_tasks tree inputs p)) (plain_run tree inputs p)

-- in an accepted program the pointers of parameters go to parameters, and partitions are of such
local_goals : (tree : Tree) (inputs : List ℤ) → IsProgramRun tree inputs → (k : ℕ) (t : TaskTree) → slice_get (tasks_of tree) k ≡ Some t →
    AllGoToParams (scope_of tree t).names
local_goals tree inputs p k t at =
    let s = task_stands tree k t at in pointers_among tree t p.accepted p.within (item_stands tree s.0 s.1 t s.2)

-- within the limits of a text its pointers' types name few regions
module _ (tree : Tree) (inputs : List ℤ) (p : IsProgramRun tree inputs) where
  items_kept : AreKept (parts_of_items tree)
  items_kept = let every = kept_all (parts_of_program tree) p.within.each in λ q h. every q (inr (inr h))

  local_few : (k : ℕ) (t : TaskTree) → slice_get (tasks_of tree) k ≡ Some t → is_whole_task false tree t ≡ true → is_whole_task true tree t ≡ true
  local_few k t at =
      let s = task_stands tree k t at in
      let parts : AreKept (parts_of_item (task_item t)) = subst (λ form. AreKept (parts_of_item form)) s.2 (kept_item tree items_kept s.0 s.1) in
      let behind = parts_of_type t.result ++ parts_of_block t.body in
      let all = kept_behind _ (parts_of_params t.params ++ behind) parts in
      task_few tree items_kept (forms_by true true tree t) t (kept_left (parts_of_params t.params) behind all)
      (kept_right (parts_of_type t.result) (parts_of_block t.body) (kept_right (parts_of_params t.params) behind all)) (local_tasks tree inputs p k t at).typed

written_bodies : (tree : Tree) → AreWrittenTasks tree → (k : ℕ) (t : TaskTree) → slice_get (tasks_of tree) k ≡ Some t → IsWrittenBlock t.body
written_bodies tree written k t at =
    let i = task_stands tree k t at in written t (item_stands tree i.0 i.1 t i.2)

pub whole_programs_are_sound : WholeProgramsAreSound
whole_programs_are_sound tree inputs p = begun_soundly (forms_by true true tree (task_named tree (entry_name tree))) tree inputs
    (handing tree p.accepted (local_tasks tree inputs p)
    (program_few tree (items_kept tree inputs p) (local_few tree inputs p)
    (program_whole tree (λ t. forms_by true true tree t) (λ t. refl) (λ k t at. (local_tasks tree inputs p k t at).typed) (written_bodies tree p.written)))
    (local_goals tree inputs p)) (local_run tree inputs p)

-- there are inputs of any widths
abbrev zeros : (ws : List Width) → List ℤ
zeros ws = map (λ w. pos 0) ws

zeros_fit : (ws : List Width) → AreInputs ws (zeros ws)
zeros_fit [] = tt
zeros_fit (W32 ∷ ws) = (omega (arith, ints), zeros_fit ws)
zeros_fit (W64 ∷ ws) = (omega (arith, ints), zeros_fit ws)

-- so that nothing hangs on them
pub accepted_code_keeps_rules : AcceptedCodeKeepsRules
accepted_code_keeps_rules tree p =
    (whole_programs_are_sound tree (zeros (input_widths tree)) (record { within = p.within; accepted = p.accepted; written = p.written; numbers = zeros_fit (input_widths tree) })).tasks
