-- The frames that open fit: that of a call, and that in which a run begins. With the marks of its tasks a program is
-- sound.
use Rattle.std.proofs.Common.{◌≡◌, ◌⊎◌, inl, inr, ℕ, ◌<◌, ◌^◌, ◌-◌, ℤ, pos, List, [], ◌∷◌, ◌++◌, map, Bool, true, false, cond, Option, Some, None, refl, sym, ap, ◌∙◌, subst, arith}
use Rattle.std.specs.Prelude.{length, option_map, replicate, slice_get, ◌==◌}
use Rattle.std.proofs.lemmas.Bool.{eqb-true, eq-eqb, false≢true}
use Rattle.std.proofs.lemmas.Option.{none-some, same_Some, slice_get-map}
use Rattle.lane_kernels.specs.declared.numbers.Width.{Width}
use Rattle.regent_tree.specs.declared.typing.StaticType.{StaticType}
use Rattle.regent_tree.specs.Meaning.{inputs_of}
use Rattle.regent_tree.specs.StaticTypes.{entry_name, task_named}
use Rattle.regent_tree.specs.Syntax.{TaskTree, Tree}
use Rattle.regent_tree.specs.Typing.{param_types}
use Rattle.regent_tree.specs.Values.{a_number}
use Rattle.machine_terms.specs.declared.value.Value.{Value}
use Rattle.machine_terms.specs.declared.value.Value.TheVariants.{Number}
use Rattle.code_rules.specs.Instructions.{tasks_of}
use Rattle.code_rules.specs.Programs.{task_code}
use Rattle.code_laws.specs.Programs.{AreTypedTasks, IsTypedRun, call_forms, scalar_forms, region_forms}
use Rattle.code_laws.specs.Standing.{AreTaken, IsOf, of_integer}
use Rattle.code_laws.specs.Steps.{Forms}
use Rattle.code_laws.proofs.ScalarRuns.{scalar_run}
use Rattle.fit_rules.specs.Shapes.{NumberIs, World, is_number, Are, are_none, are_more}
use Rattle.fit_rules.specs.Marks.{Mark, Suits}
use Rattle.fit_rules.specs.Ends.{called, opening_machine}
use Rattle.fit_rules.specs.Fits.{Fits}
use Rattle.fit_rules.specs.Sound.{IsSound}
use Rattle.fit_laws.proofs.Calls.{opening_fits}
use Rattle.fit_rules.specs.Shapes.{Each}
use Rattle.fit_rules.specs.Marks.{Holds}
use Rattle.code_laws.specs.Simple.{IsSimple, simple_integer}
use Rattle.sound_code.specs.Ways.{Way, all_made, opening_facts, shape_in, shape_of}
use Rattle.sound_code.specs.Programs.{BeginsWell, CallsAreSound, entry_place, first_world, RegionTasksAreSound, RunsSoundly, ScalarTasksAreSound, ScalarProgramsAreSound, TasksRunSoundly}
use Rattle.sound_code.proofs.Asked.{hands_none, other}
use Rattle.sound_code.proofs.Calling.{args_many, opening_suits, simples_worth, some_body, types_many, worths_are, worths_named, worths_told}
use Rattle.sound_code.proofs.Entries.{named_there}
use Rattle.sound_code.proofs.InOrder.{never_breaks, run_keeps_all}
use Rattle.sound_code.proofs.Parameters.{params_settled}
use Rattle.sound_code.proofs.Wholes.{not_kept}
use Rattle.fit_laws.proofs.Taking.{all_there}
use Rattle.marked_code.proofs.Remarked.{remarked}
use Rattle.sound_code.proofs.Tasks.{bare, begins, first_of, HasMarks, is_at, IsMarked, marks_of, sound_task, Treated, treat}

number_of_type : (t : StaticType) (w : Width) (z : ℤ) → IsOf t (a_number w z) → NumberIs (shape_of t) z
number_of_type _ _ _ (of_integer w z p) = p

inputs_are : (x : World) (ts : List StaticType) (zs : List ℤ) → AreTaken IsOf ts (inputs_of ts zs) → length zs ≡ length ts →
    Are x (map shape_of ts) (map Number zs)
inputs_are x [] [] a e = are_none
inputs_are x [] (z ∷ zs) a e = absurd (omega (arith, e))
inputs_are x (t ∷ ts) [] a e = absurd (omega (arith, e))
inputs_are x (t ∷ ts) (z ∷ zs) a e =
    are_more _ _ _ _ (is_number (shape_of t) z (number_of_type t _ z a.0)) (inputs_are x ts zs a.1 (omega (arith, e)))

-- parameters that are given numbers are simple
number_simple : (t : StaticType) (w : Width) (z : ℤ) → IsOf t (a_number w z) → IsSimple t
number_simple _ _ _ (of_integer w z p) = simple_integer w

inputs_simple : (ts : List StaticType) (zs : List ℤ) → AreTaken IsOf ts (inputs_of ts zs) → length zs ≡ length ts → Each IsSimple ts
inputs_simple [] zs a e = tt
inputs_simple (t ∷ ts) [] a e = absurd (omega (arith, e))
inputs_simple (t ∷ ts) (z ∷ zs) a e = (number_simple t _ z a.0, inputs_simple ts zs a.1 (omega (arith, e)))

module _ (tree : Tree) (way : Way) (lists : ℕ → List Mark) (marked : IsMarked tree way lists) where
  -- a frame that opens with arguments of the parameters' shapes, of which holds what is told
  pub opened : (k : ℕ) (t : TaskTree) → slice_get (tasks_of tree) k ≡ Some t → (x : World) (args : List Value) (turns depth : ℕ) →
      turns < 2 ^ 64 → Are (called x args) (map (shape_in (other way t) (length t.params)) (param_types tree t)) args →
      Each (λ c. Holds c args) (opening_facts (other way t) tree t) →
      Fits (remarked (bare tree way) (marks_of tree way lists)) (called x args) (task_code tree t) k
      (opening_machine turns depth k (task_code tree t) args)
  opened k t there x args turns depth few a told =
      opening_fits (remarked (bare tree way) (marks_of tree way lists)) x k (task_code tree t) args turns depth few (some_body tree t)
      (all_there (called x args) _ args (params_settled (other way t) (length t.params) tree t) a)
      (begins tree way lists marked k (task_code tree t) (slice_get-map (task_code tree) (tasks_of tree) k ∙ ap (option_map (task_code tree)) there)) (
        args_many (other way t) tree t (called x args) args a,
        subst (λ y. Suits (called x args) (length t.params) (first_of tree way y)
            (args ++ replicate ((task_code tree t).slots - length args) (Number (pos 0))) []) (sym (is_at tree way k t there))
            (opening_suits (other way t) tree t x args a told),
      )

  -- with numbers, truths, indices and index spaces
  pub simply_opened : (k : ℕ) (t : TaskTree) → slice_get (tasks_of tree) k ≡ Some t → Each IsSimple (param_types tree t) → (x : World) (args : List Value)
      (turns depth : ℕ) → turns < 2 ^ 64 → Are x (map shape_of (param_types tree t)) args →
      Fits (remarked (bare tree way) (marks_of tree way lists)) (called x args) (task_code tree t) k
      (opening_machine turns depth k (task_code tree t) args)
  simply_opened k t there simples x args turns depth few a = opened k t there x args turns depth few
      (subst (λ y. Are (called x args) y args) (sym (worths_named (other way t) (length t.params) (param_types tree t) (simples_worth _ simples)))
      (worths_are x (called x args) (param_types tree t) args (simples_worth _ simples) a))
      (worths_told (other way t) tree t x (param_types tree t) args (simples_worth _ simples) a)

  pub begins_well : (forms : Forms) → slice_get (tasks_of tree) (entry_place tree) ≡ Some (task_named tree (entry_name tree)) →
      BeginsWell forms tree (remarked (bare tree way) (marks_of tree way lists))
  begins_well forms there inputs turns p few =
      let t = task_named tree (entry_name tree) in
      let count = p.count ∙ sym (types_many tree t) in
      simply_opened (entry_place tree) t there (inputs_simple (param_types tree t) inputs p.taken count) (first_world inputs) (map Number inputs) turns 1 few
      (inputs_are (first_world inputs) (param_types tree t) inputs p.taken count)

-- ---- programs of one task

module _ (forms : Forms) (plain : forms.takes ≡ None) (unkept : forms.keeps ≡ false) (tree : Tree) (inputs : List ℤ) (p : IsTypedRun forms tree inputs) where
  abbrev entry : TaskTree
  entry = task_named tree (entry_name tree)

  entry_there : slice_get (tasks_of tree) (entry_place tree) ≡ Some entry
  entry_there = named_there tree (entry_name tree) _ p.start

  entry_marks : HasMarks tree all_made (entry_place tree) entry
  entry_marks = treat tree all_made forms (entry_place tree) entry entry_there (hands_none plain unkept (λ i. tt)) tt tt p.typed (λ q. absurd (false≢true (sym unkept ∙ q))) (λ q. tt) (λ q. tt) (not_kept forms.keeps _ unkept) p.small

  -- the entry task alone has marks
  abbrev entry_alone : ℕ → List Mark
  entry_alone k = cond (k == entry_place tree) entry_marks.marks []

  entry_marked : IsMarked tree all_made entry_alone
  entry_marked k t there = of_test (k == entry_place tree) refl
    where
      of_test : (b : Bool) → k == entry_place tree ≡ b →
          (cond b entry_marks.marks [] ≡ []) ⊎ Treated tree all_made k t (cond b entry_marks.marks [])
      of_test false e = inl refl
      of_test true e =
          let same = eqb-true k (entry_place tree) e in
          inr (subst (λ y. Treated tree all_made k y entry_marks.marks)
          (same_Some entry t (sym entry_there ∙ ap (slice_get (tasks_of tree)) (sym same) ∙ there))
          (subst (λ y. Treated tree all_made y entry entry_marks.marks) (sym same) entry_marks.treated))

  entry_sound : IsSound (remarked (bare tree all_made) (marks_of tree all_made entry_alone)) (task_code tree entry) (entry_place tree)
  entry_sound = sound_task tree all_made entry_alone entry_marked (entry_place tree) entry entry_there
      (subst (λ b. Treated tree all_made (entry_place tree) entry (cond b entry_marks.marks [])) (sym (eq-eqb (entry_place tree) (entry_place tree) refl))
      entry_marks.treated)

  one_task : RunsSoundly forms tree
  one_task = record {
    program = remarked (bare tree all_made) (marks_of tree all_made entry_alone);
    code = refl;
    sound = entry_sound;
    segments = never_breaks _ _ _ entry_sound;
    begins = begins_well tree all_made entry_alone entry_marked forms entry_there;
  }

pub scalar_tasks_are_sound : ScalarTasksAreSound
scalar_tasks_are_sound tree inputs p = one_task scalar_forms refl refl tree inputs p

pub region_tasks_are_sound : RegionTasksAreSound
region_tasks_are_sound tree inputs p = one_task region_forms refl refl tree inputs p

pub scalar_programs_are_sound : ScalarProgramsAreSound
scalar_programs_are_sound tree inputs p = scalar_tasks_are_sound tree inputs (scalar_run tree inputs p)

-- ---- programs of more tasks

module _ (tree : Tree) (way : Way) (marks_at : (k : ℕ) (t : TaskTree) → slice_get (tasks_of tree) k ≡ Some t → HasMarks tree way k t) where
  -- each task has marks
  abbrev chosen : (k : ℕ) (o : Option TaskTree) → slice_get (tasks_of tree) k ≡ o → List Mark
  chosen k None e = []
  chosen k (Some t) e = (marks_at k t e).marks

  abbrev pub all : ℕ → List Mark
  all k = chosen k (slice_get (tasks_of tree) k) refl

  chosen_treated : (k : ℕ) (t : TaskTree) (o : Option TaskTree) (e : slice_get (tasks_of tree) k ≡ o) → o ≡ Some t →
      Treated tree way k t (chosen k o e)
  chosen_treated k t None e q = absurd (none-some t q)
  chosen_treated k t (Some u) e q = subst (λ y. Treated tree way k y (marks_at k u e).marks) (same_Some u t q) (marks_at k u e).treated

  pub all_treated : (k : ℕ) (t : TaskTree) → slice_get (tasks_of tree) k ≡ Some t → Treated tree way k t (all k)
  all_treated k t there = chosen_treated k t (slice_get (tasks_of tree) k) refl there

  pub all_marked : IsMarked tree way all
  all_marked k t there = inr (all_treated k t there)

  pub all_sound : (k : ℕ) (t : TaskTree) → slice_get (tasks_of tree) k ≡ Some t →
      IsSound (remarked (bare tree way) (marks_of tree way all)) (task_code tree t) k
  all_sound k t there = sound_task tree way all all_marked k t there (all_treated k t there)

module _ (tree : Tree) (typed : AreTypedTasks tree) where
  made_at : (k : ℕ) (t : TaskTree) → slice_get (tasks_of tree) k ≡ Some t → HasMarks tree all_made k t
  made_at k t there = let h = typed k t there in treat tree all_made call_forms k t there (hands_none refl refl (λ i. tt)) tt tt h.typed (λ q. absurd (false≢true q)) (λ q. tt) (λ q. tt) (not_kept false _ refl) h.small

  abbrev marks : ℕ → List Mark
  marks = all tree all_made made_at

  all_tasks : TasksRunSoundly tree
  all_tasks = record {
    program = remarked (bare tree all_made) (marks_of tree all_made marks);
    code = refl;
    sound = all_sound tree all_made made_at;
    segments = λ k t there. never_breaks _ _ _ (all_sound tree all_made made_at k t there);
    opens = simply_opened tree all_made marks (all_marked tree all_made made_at);
    begins = λ inputs turns p few.
        begins_well tree all_made marks (all_marked tree all_made made_at) call_forms (named_there tree (entry_name tree) _ p.start) inputs turns p few;
    runs = run_keeps_all tree (remarked (bare tree all_made) (marks_of tree all_made marks)) refl (λ k t there. let h = typed k t there in h.given) (λ k. refl)
        (all_sound tree all_made made_at) call_forms (λ inputs turns p few.
        begins_well tree all_made marks (all_marked tree all_made made_at) call_forms (named_there tree (entry_name tree) _ p.start) inputs turns p few);
  }

pub calls_are_sound : CallsAreSound
calls_are_sound tree typed = all_tasks tree typed
