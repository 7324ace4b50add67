-- The arguments of each task instance that a run opens fit its task, so each touch of it is covered.
use Rattle.std.proofs.Common.{Bool, List, [], ap, cond, false, length, map, refl, subst, true, ℕ, ℤ, suc, ◌≡◌, ◌∙◌}
use Rattle.regent_tree.proofs.Members.{Contains-from_Has}
use Rattle.regent_tree.specs.Lookup.{has_task}
use Rattle.regent_tree.specs.Meaning.{calls_at}
use Rattle.regent_tree.specs.Running.{Called, broke, came_back}
use Rattle.regent_tree.specs.StaticTypes.{entry_name, task_named}
use Rattle.regent_tree.specs.Store.{Store}
use Rattle.regent_tree.specs.Syntax.{ItemTree, Name, TaskTree, Tree, task_item}
use Rattle.regent_tree.specs.Values.{Value}
use Rattle.regent_tree.specs.declared.outcome.FaultKind.{FaultKind}
use Rattle.regent_tree.specs.declared.outcome.FaultKind.TheVariants.{Depth, Turns}
use Rattle.check_rules.specs.Breaches.{breaches}
use Rattle.check_rules.specs.scopes.Sound.{StandsIn}
use Rattle.check_laws.proofs.Entries.{begins}
use Rattle.alike_runs.specs.Alike.{instead, renamed_answer}
use Rattle.fact_laws.specs.Regions.{Interpretation}
use Rattle.expression_laws.proofs.Fitting.{standing_task}
use Rattle.expression_laws.specs.Needs.{IsCallWithin}
use Rattle.expression_laws.specs.Sound.{AreFitting, AreSoundAnswers, IsSoundAnswer, of_arguments}
use Rattle.statement_laws.specs.Laws.{state_of}
use Rattle.statement_laws.specs.Opened.{Call, Makes, Opened, OpenedCallsLieWithin, OpenedInstancesAreCovered, Opens, by_call, entry, probed, run_of_opened, run_with_calls}
use Rattle.expression_laws.specs.WrittenStatements.{AreWrittenTasks}
use Rattle.regent_tree.specs.Cover.{is_covered}
use Rattle.statement_laws.proofs.Answers.{answers_are_sound, instance_goes, instances_are_covered}
use Rattle.statement_laws.proofs.Entering.{entry_fits}
use Rattle.statement_laws.proofs.Probing.{all_pass, early_kind, given_by, kind_of}

other_kind : (k : FaultKind) → instead Turns k ≡ Depth → ⊥
other_kind Depth e = absurd cc
other_kind _ e = absurd cc

never_depth : (c : Called) → kind_of (renamed_answer Turns c) ≡ Depth → ⊥
never_depth (came_back v store text) e = absurd cc
never_depth (broke f text) e = other_kind f.kind e

still_sound : (m : Interpretation) (tree : Tree) (name : Name) (store : Store) (line : ℕ) (b : Bool) (c : Called) → IsSoundAnswer m tree name store c →
    IsSoundAnswer m tree name store (cond b (broke (record { kind = Depth; line = line }) []) (renamed_answer Turns c))
still_sound m tree name store line true c h = tt
still_sound m tree name store line false (came_back v after text) h = h
still_sound m tree name store line false (broke f text) h = tt

-- Depth is told by a call that passes the test
passing : (line : ℕ) (b : Bool) (c : Called) → kind_of (cond b (broke (record { kind = Depth; line = line }) []) (renamed_answer Turns c)) ≡ Depth → b ≡ true
passing line true c e = refl
passing line false c e = absurd (never_depth c e)

module _ (tree : Tree) (inputs : List ℤ) (turns : ℕ) (none : breaches tree ≡ []) (written : AreWrittenTasks tree)
    (counted : length inputs ≡ length (task_named tree (entry_name tree)).params) where
  -- an instance of a task of the program, whose arguments fit
  record IsFitting (task : TaskTree) (args : List Value) (store : Store) : Type 0 where
    stands : StandsIn tree task
    fits : AreFitting tree task args (length store)

  stands_there : (name : Name) → has_task tree name ≡ true → StandsIn tree (task_named tree name)
  stands_there name there = Contains-from_Has (map (λ (i : ItemTree). i.form) tree) (task_item (task_named tree name)) (standing_task tree name there)

  -- what is called fits, and its needs lie within the caller's
  record IsMet (more : ℕ) (task : TaskTree) (args : List Value) (store : Store) (c : Call) : Type 0 where
    fitting : IsFitting (task_named tree c.task) c.args c.store
    within : IsCallWithin (record { tree = tree; calls = calls_at tree turns more; task = task; args = args; roots = length store }) (task_named tree c.task) c.args

  called_met : (more : ℕ) (task : TaskTree) (args : List Value) (store : Store) (c : Call) → IsFitting task args store →
      Makes tree turns (record { more = more; task = task; args = args; store = store }) c → IsMet more task args store c
  called_met more task args store c fit makes =
      let calls = probed makes.test (calls_at tree turns more) in
      let r = run_with_calls tree turns calls (record { more = more; task = task; args = args; store = store }) in
      let sound : AreSoundAnswers (of_arguments args) tree calls = λ line name vs before there fits.
      still_sound (of_arguments args) tree name before line (makes.test (record { line = line; task = name; args = vs; store = before })) (calls_at tree turns more line name vs before)
      (answers_are_sound tree turns more (of_arguments args) none written line name vs before there fits) in
      let goes = instance_goes tree turns none written calls task args store fit.stands fit.fits sound in
      let given = given_by (record { tree = tree; calls = calls; task = task; args = args; roots = length store }) (of_arguments args) _ _ r goes (early_kind r makes.ends) in
      let of = given.1 in
      let d : Call = record { line = of.line; task = of.task; args = of.args; store = of.store } in
      let passes = passing of.line (makes.test d) (calls_at tree turns more of.line of.task of.args of.store) (ap kind_of of.gave ∙ given.2) in
      subst (λ (e : Call). IsMet more task args store e) (makes.only d passes) (record { fitting = record { stands = stands_there of.task of.there; fits = of.fits }; within = of.within })

  opened_fits : (i : Opened) → Opens tree inputs turns i → IsFitting i.task i.args i.store
  opened_fits _ entry = record { stands = stands_there (entry_name tree) (begins tree none).there; fits = entry_fits tree inputs none counted }
  opened_fits _ (by_call {more = more} {task = task} {args = args} {store = store} {c = c} opened makes) =
      (called_met (suc more) task args store c (opened_fits (record { more = suc more; task = task; args = args; store = store }) opened) makes).fitting

pub opened_instances_are_covered : OpenedInstancesAreCovered
opened_instances_are_covered tree inputs turns none written counted i opened =
    let fit = opened_fits tree inputs turns none written counted i opened in
    all_pass (is_covered tree (length i.store) i.task i.args) (state_of (run_of_opened tree turns i)).touches
    (λ t h. instances_are_covered tree turns i.more i.task i.args i.store none written fit.stands fit.fits t (Contains-from_Has (state_of (run_of_opened tree turns i)).touches t h))

pub opened_calls_lie_within : OpenedCallsLieWithin
opened_calls_lie_within tree inputs turns none written counted i c opened makes =
    (called_met tree inputs turns none written counted i.more i.task i.args i.store c (opened_fits tree inputs turns none written counted i opened) makes).within
