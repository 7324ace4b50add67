-- In a program without a breach a run whose calls are watched never gives an alarm: where the alarm is the fault
-- Depth, and nesting too deep has another fault, it doesn't end with Depth.
use Rattle.std.proofs.Common.{Bool, List, [], ◌∷◌, true, refl, ap, sym, subst, ℕ, zero, suc, ◌≡◌, ◌∙◌, inl, inr, length, map}
use Rattle.std.proofs.lemmas.Bool.{and_from}
use Rattle.std.specs.List.{list_all}
use Rattle.regent_tree.proofs.Members.{Contains-from_Has, Has}
use Rattle.regent_tree.specs.Cover.{is_covered}
use Rattle.regent_tree.specs.Execution.{Going}
use Rattle.regent_tree.specs.Lookup.{has_task}
use Rattle.regent_tree.specs.Meaning.{ended, run_task}
use Rattle.regent_tree.specs.Running.{Called, Calls, Result, broke, came_back, fails, gives}
use Rattle.regent_tree.specs.Scopes.{Scope, scope_of}
use Rattle.regent_tree.specs.StaticTypes.{task_named}
use Rattle.regent_tree.specs.Store.{Store, Touch}
use Rattle.regent_tree.specs.Syntax.{ItemTree, Name, TaskTree, Tree, task_item}
use Rattle.regent_tree.specs.Typing.{result_type, scope_after_block}
use Rattle.regent_tree.specs.Values.{Value}
use Rattle.regent_tree.specs.declared.outcome.Fault.{Fault}
use Rattle.regent_tree.specs.declared.outcome.FaultKind.{FaultKind}
use Rattle.regent_tree.specs.declared.outcome.FaultKind.TheVariants.{Depth, Turns}
use Rattle.regent_tree.specs.declared.typing.StaticType.{StaticType}
use Rattle.check_rules.specs.Breaches.{breaches}
use Rattle.check_rules.specs.scopes.Sound.{StandsIn}
use Rattle.check_laws.proofs.Bodies.{body_told}
use Rattle.fact_laws.specs.Regions.{Interpretation}
use Rattle.expression_laws.proofs.Fitting.{standing_task}
use Rattle.expression_laws.specs.Sound.{AreFitting, AreSoundAnswers, Instance, IsGivenFault, IsSoundAnswer, of_arguments}
use Rattle.statement_laws.specs.Laws.{state_of}
use Rattle.statement_laws.specs.Steady.{GoesOnSound}
use Rattle.alike_runs.specs.Alike.{EndsEarly}
use Rattle.statement_laws.specs.Watching.{keeps_privileges, unless_alarmed}
use Rattle.expression_laws.specs.WrittenStatements.{AreWrittenTasks}
use Rattle.statement_laws.proofs.Answers.{instance_goes, task_ended}
use Rattle.statement_laws.proofs.Tasks.{covered_there}

-- calls that are watched, with the fault Depth for an alarm, and with a kind of fault where they would nest too
-- deep
abbrev pub probing : FaultKind → Tree → ℕ → ℕ → Calls
probing kind tree turns zero line task vs store = broke (record { kind = kind; line = line }) []
probing kind tree turns (suc more) line task vs store =
    let t = task_named tree task in
    let r = run_task tree turns (probing kind tree turns more) t vs store in
    unless_alarmed (keeps_privileges tree (length store) t vs r) (ended (length store) (scope_of tree t) (result_type tree t.result) r)
    (broke (record { kind = Depth; line = line }) [])

pub all_pass : (test : Touch → Bool) (ts : List Touch) → ((t : Touch) → Has ts t → test t ≡ true) → list_all test ts ≡ true
all_pass test [] h = refl
all_pass test (t ∷ ts) h = and_from (test t) (list_all test ts) (h t (inl refl)) (all_pass test ts (λ y g. h y (inr g)))

-- the kind of the fault that a call gave
abbrev pub kind_of : Called → FaultKind
kind_of (came_back v store text) = Turns
kind_of (broke f text) = f.kind

abbrev pub kind_of_run : Result Going → FaultKind
kind_of_run (gives g u) = Turns
kind_of_run (fails f u) = f.kind

pub early_kind : (r : Result Going) → EndsEarly r → kind_of_run r ≡ Depth
early_kind (gives g u) e = absurd e
early_kind (fails f u) e = e

kind_ended : (roots : ℕ) (s : Scope) (t : StaticType) (r : Result Going) → kind_of (ended roots s t r) ≡ kind_of_run r
kind_ended roots s t (gives g u) = refl
kind_ended roots s t (fails f u) = refl

-- what a fault of depth is given by
pub given_by : (x : Instance) (m : Interpretation) (n : ℕ) (t : Scope) (r : Result Going) → GoesOnSound x m n t r → kind_of_run r ≡ Depth → (f : Fault) × IsGivenFault x f × (f.kind ≡ Depth)
given_by x m n t (gives g u) goes e = absurd cc
given_by x m n t (fails f u) goes e = (f, goes.depth e, e)

module _ (kind : FaultKind) (another : kind ≡ Depth → ⊥) (tree : Tree) (turns : ℕ) (none : breaches tree ≡ []) (written : AreWrittenTasks tree) where
  abbrev watched : ℕ → Calls
  watched more = probing kind tree turns more

  abbrev instance_of : ℕ → TaskTree → List Value → Store → Instance
  instance_of more task vs store = record { tree = tree; calls = watched more; task = task; args = vs; roots = length store }

  abbrev run_of : ℕ → TaskTree → List Value → Store → Result Going
  run_of more task vs store = run_task tree turns (watched more) task vs store

  abbrev Goes : ℕ → TaskTree → List Value → Store → Type 0
  Goes more task vs store =
      GoesOnSound (instance_of more task vs store) (of_arguments vs) (scope_of tree task).next (scope_after_block tree (scope_of tree task) task.body) (run_of more task vs store)

  -- the guard lets an instance pass that keeps what holds
  passes : (more : ℕ) (task : TaskTree) (vs : List Value) (store : Store) → Goes more task vs store → keeps_privileges tree (length store) task vs (run_of more task vs store) ≡ true
  passes more task vs store goes =
      all_pass (is_covered tree (length store) task vs) (state_of (run_of more task vs store)).touches (λ t h.
      covered_there (instance_of more task vs store) (of_arguments vs) (scope_of tree task).next (scope_after_block tree (scope_of tree task) task.body) (run_of more task vs store) goes
      t (Contains-from_Has (state_of (run_of more task vs store)).touches t h))

  pub stands_there : (name : Name) → has_task tree name ≡ true → StandsIn tree (task_named tree name)
  stands_there name there = Contains-from_Has (map (λ (i : ItemTree). i.form) tree) (task_item (task_named tree name)) (standing_task tree name there)

  answers : (more : ℕ) (m : Interpretation) → AreSoundAnswers m tree (watched more)
  answers zero m line name vs store there fit = tt
  answers (suc more) m line name vs store there fit =
      let t = task_named tree name in
      let stands = stands_there name there in
      let goes : Goes more t vs store = instance_goes tree turns none written (watched more) t vs store stands fit (answers more (of_arguments vs)) in
      let end = ended (length store) (scope_of tree t) (result_type tree t.result) (run_of more t vs store) in
      subst (λ b. IsSoundAnswer m tree name store (unless_alarmed b end (broke (record { kind = Depth; line = line }) []))) (sym (passes more t vs store goes))
      (task_ended tree turns none written (watched more) m (of_arguments vs) name vs store _ _ (body_told tree t none stands).sound_task.result (run_of more t vs store) goes)

  instance_keeps : (more : ℕ) (task : TaskTree) (vs : List Value) (store : Store) → StandsIn tree task → AreFitting tree task vs (length store) → Goes more task vs store
  instance_keeps more task vs store stands fit = instance_goes tree turns none written (watched more) task vs store stands fit (answers more (of_arguments vs))

  -- a call whose arguments fit never tells of depth
  quiet : (more line : ℕ) (name : Name) (vs : List Value) (store : Store) → has_task tree name ≡ true → AreFitting tree (task_named tree name) vs (length store) →
      kind_of (watched more line name vs store) ≡ Depth → ⊥
  quiet zero line name vs store there fit e = another e
  quiet (suc more) line name vs store there fit e =
      let t = task_named tree name in
      let goes : Goes more t vs store = instance_keeps more t vs store (stands_there name there) fit in
      let end = ended (length store) (scope_of tree t) (result_type tree t.result) (run_of more t vs store) in
      let passed : kind_of end ≡ Depth = subst (λ b. kind_of (unless_alarmed b end (broke (record { kind = Depth; line = line }) [])) ≡ Depth) (passes more t vs store goes) e in
      let given = given_by (instance_of more t vs store) (of_arguments vs) _ _ (run_of more t vs store) goes (sym (kind_ended (length store) (scope_of tree t) (result_type tree t.result) (run_of more t vs store)) ∙ passed) in
      let of = given.1 in
      quiet more of.line of.task of.args of.store of.there of.fits (ap kind_of of.gave ∙ given.2)

  -- nor does an instance whose arguments fit
  pub never_early : (more : ℕ) (task : TaskTree) (vs : List Value) (store : Store) → StandsIn tree task → AreFitting tree task vs (length store) → EndsEarly (run_of more task vs store) → ⊥
  never_early more task vs store stands fit early =
      let given = given_by (instance_of more task vs store) (of_arguments vs) _ _ (run_of more task vs store) (instance_keeps more task vs store stands fit) (early_kind (run_of more task vs store) early) in
      let of = given.1 in
      quiet more of.line of.task of.args of.store of.there of.fits (ap kind_of of.gave ∙ given.2)

  pub always_keeps : (more : ℕ) (task : TaskTree) (vs : List Value) (store : Store) → StandsIn tree task → AreFitting tree task vs (length store) →
      keeps_privileges tree (length store) task vs (run_of more task vs store) ≡ true
  always_keeps more task vs store stands fit = passes more task vs store (instance_keeps more task vs store stands fit)
