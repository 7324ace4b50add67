-- In a program without a breach a watched run is the program's own, whatever the alarm.
--
-- A probing run is like each of the two, but for the kind of fault where calls nest too deep. It never ends with
-- Depth, whichever kind that is; and two results are one where they agree under each of two such kinds.
use Rattle.std.proofs.Common.{Bool, List, [], true, false, refl, ap, sym, ℕ, ℤ, zero, suc, ◌≡◌, ◌∙◌, ◌⊎◌, inl, inr, length}
use Rattle.regent_tree.specs.Execution.{Going}
use Rattle.regent_tree.specs.Meaning.{body_of, calls_at, ended, opening, outcome, run_task}
use Rattle.regent_tree.specs.Running.{Called, Calls, Result, State, broke, fails, gives}
use Rattle.regent_tree.specs.Scopes.{scope_of}
use Rattle.regent_tree.specs.StaticTypes.{entry_name, task_named}
use Rattle.regent_tree.specs.Store.{Store}
use Rattle.regent_tree.specs.Syntax.{Name, TaskTree, Tree}
use Rattle.regent_tree.specs.Typing.{result_type}
use Rattle.regent_tree.specs.Values.{Value}
use Rattle.regent_tree.specs.declared.outcome.Fault.{Fault}
use Rattle.regent_tree.specs.declared.outcome.FaultKind.{FaultKind}
use Rattle.regent_tree.specs.declared.outcome.FaultKind.TheVariants.{Depth, NullPointer, Turns}
use Rattle.check_rules.specs.Breaches.{breaches}
use Rattle.check_laws.proofs.Entries.{begins}
use Rattle.alike_runs.specs.Alike.{AnswersAlike, AreAlike, BreaksEarly, EndsEarly, IsAlike, instead, renamed, renamed_answer}
use Rattle.alike_runs.proofs.Statements.{runs_alike}
use Rattle.statement_laws.specs.Watching.{ProgramsKeepPrivileges, entry_args, keeps_privileges, own_run, run_with, unless_alarmed, watched_calls, watched_run}
use Rattle.expression_laws.specs.WrittenStatements.{AreWrittenTasks}
use Rattle.statement_laws.proofs.Entering.{entry_fits}
use Rattle.statement_laws.proofs.Probing.{always_keeps, never_early, probing, stands_there}

-- ---- results that agree under two kinds of fault in place of Depth

one_kind : (k l : FaultKind) → instead Turns k ≡ instead Turns l → instead NullPointer k ≡ instead NullPointer l → k ≡ l
one_kind Depth Depth e d = refl
one_kind Depth _ e d = absurd cc
one_kind _ Depth e d = absurd cc
one_kind _ _ e d = e

abbrev fault_in : Fault → Result Going → Fault
fault_in f (gives g u) = f
fault_in f (fails h u) = h

abbrev state_in : Result Going → State
state_in (gives g u) = u
state_in (fails f u) = u

one_result : (r q : Result Going) → renamed Turns r ≡ renamed Turns q → renamed NullPointer r ≡ renamed NullPointer q → r ≡ q
one_result (gives g u) (gives h v) e d = e
one_result (gives g u) (fails f v) e d = absurd cc
one_result (fails f u) (gives g v) e d = absurd cc
one_result (fails f u) (fails g v) e d =
    ap (λ k. fails (record { kind = k; line = f.line }) u) (one_kind f.kind g.kind (ap (λ r. (fault_in f r).kind) e) (ap (λ r. (fault_in f r).kind) d))
    ∙ ap (λ l. fails (record { kind = g.kind; line = l }) u) (ap (λ r. (fault_in f r).line) e)
    ∙ ap (fails g) (ap state_in e)

-- ---- families of calls that answer as the meaning's where no alarm is due

module _ (tree : Tree) (turns : ℕ) where
  abbrev run_of : Calls → TaskTree → List Value → Store → Result Going
  run_of calls task vs store = run_task tree turns calls task vs store

  abbrev answer_of : Store → TaskTree → Result Going → Called
  answer_of store task r = ended (length store) (scope_of tree task) (result_type tree task.result) r

  record IsFaithful (family : ℕ → Calls) : Type 0 where
    none : (line : ℕ) (name : Name) (vs : List Value) (store : Store) → family zero line name vs store ≡ calls_at tree turns zero line name vs store
    answers : (more line : ℕ) (name : Name) (vs : List Value) (store : Store) →
        keeps_privileges tree (length store) (task_named tree name) vs (run_of (family more) (task_named tree name) vs store) ≡ true →
        family (suc more) line name vs store ≡ answer_of store (task_named tree name) (run_of (family more) (task_named tree name) vs store)

  own_faithful : IsFaithful (λ more. calls_at tree turns more)
  own_faithful = record { none = λ line name vs store. refl; answers = λ more line name vs store e. refl }

  watched_faithful : (alarm : Called) → IsFaithful (λ more. watched_calls alarm tree turns more)
  watched_faithful alarm = record {
    none = λ line name vs store. refl;
    answers = λ more line name vs store e. ap (λ b. unless_alarmed b (answer_of store (task_named tree name) (run_of (watched_calls alarm tree turns more) (task_named tree name) vs store)) alarm) e;
  }

  keeps_renamed : (kind : FaultKind) (roots : ℕ) (task : TaskTree) (vs : List Value) (r : Result Going) → keeps_privileges tree roots task vs (renamed kind r) ≡ keeps_privileges tree roots task vs r
  keeps_renamed kind roots task vs (gives g u) = refl
  keeps_renamed kind roots task vs (fails f u) = refl

  answer_renamed : (kind : FaultKind) (store : Store) (task : TaskTree) (r : Result Going) → answer_of store task (renamed kind r) ≡ renamed_answer kind (answer_of store task r)
  answer_renamed kind store task (gives g u) = refl
  answer_renamed kind store task (fails f u) = refl

  breaks_early : (store : Store) (task : TaskTree) (r : Result Going) → EndsEarly r → BreaksEarly (answer_of store task r)
  breaks_early store task (gives g u) e = absurd e
  breaks_early store task (fails f u) e = e

  -- a probing call is like one of such a family, where the runs of the instances are
  answers_alike : (kind : FaultKind) (line : ℕ) (task : TaskTree) (vs : List Value) (store : Store) (r q : Result Going) (c : Called) →
      IsAlike kind r q → (keeps_privileges tree (length store) task vs q ≡ true → c ≡ answer_of store task q) →
      (b : Bool) → keeps_privileges tree (length store) task vs r ≡ b →
      AnswersAlike kind (unless_alarmed b (answer_of store task r) (broke (record { kind = Depth; line = line }) [])) c
  answers_alike kind line task vs store r q c alike h false e = inl refl
  answers_alike kind line task vs store r q c (inl early) h true e = inl (breaks_early store task r early)
  answers_alike kind line task vs store r q c (inr same) h true e =
      let kept = sym (keeps_renamed kind (length store) task vs q) ∙ ap (keeps_privileges tree (length store) task vs) (sym same) ∙ e in
      inr (ap (answer_of store task) same ∙ answer_renamed kind store task q ∙ ap (renamed_answer kind) (sym (h kept)))

  family_alike : (kind : FaultKind) (family : ℕ → Calls) → IsFaithful family → (more : ℕ) → AreAlike kind (probing kind tree turns more) (family more)
  family_alike kind family faithful zero line name vs store = inr (ap (renamed_answer kind) (sym (faithful.none line name vs store)))
  family_alike kind family faithful (suc more) line name vs store =
      let t = task_named tree name in
      let like = runs_alike kind (body_of tree (probing kind tree turns more) t) (family more) (family_alike kind family faithful more) t.body (opening tree turns t vs store) in
      answers_alike kind line t vs store (run_of (probing kind tree turns more) t vs store) (run_of (family more) t vs store) (family (suc more) line name vs store) like
      (faithful.answers more line name vs store) (keeps_privileges tree (length store) t vs (run_of (probing kind tree turns more) t vs store)) refl

-- ---- the run of the entry task

later : {A B : Type 0} → (A → ⊥) → A ⊎ B → B
later never (inl a) = absurd (never a)
later never (inr b) = b

module _ (tree : Tree) (inputs : List ℤ) (turns : ℕ) (none : breaches tree ≡ []) (written : AreWrittenTasks tree)
    (counted : length inputs ≡ length (task_named tree (entry_name tree)).params) where
  abbrev entry : TaskTree
  entry = task_named tree (entry_name tree)

  abbrev probing_run : FaultKind → Result Going
  probing_run kind = run_with (probing kind tree turns 63) tree inputs turns

  -- the probing run is the run with such a family's calls, but for the kind of fault in place of Depth
  probed : (kind : FaultKind) → (kind ≡ Depth → ⊥) → (family : ℕ → Calls) → IsFaithful tree turns family → probing_run kind ≡ renamed kind (run_with (family 63) tree inputs turns)
  probed kind another family faithful = later
      (never_early kind another tree turns none written 63 entry (entry_args tree inputs) [] (stands_there kind another tree turns none written (entry_name tree) (begins tree none).there)
      (entry_fits tree inputs none counted))
      (runs_alike kind (body_of tree (probing kind tree turns 63) entry) (family 63) (family_alike tree turns kind family faithful 63) entry.body (opening tree turns entry (entry_args tree inputs) []))

  watched_is_own : (alarm : Called) → watched_run alarm tree inputs turns ≡ own_run tree inputs turns
  watched_is_own alarm = one_result (watched_run alarm tree inputs turns) (own_run tree inputs turns)
      (both Turns (λ e. absurd cc)) (both NullPointer (λ e. absurd cc))
    where
      both : (kind : FaultKind) → (kind ≡ Depth → ⊥) → renamed kind (watched_run alarm tree inputs turns) ≡ renamed kind (own_run tree inputs turns)
      both kind another =
          sym (probed kind another (λ more. watched_calls alarm tree turns more) (watched_faithful tree turns alarm))
          ∙ probed kind another (λ more. calls_at tree turns more) (own_faithful tree turns)

  entry_keeps : keeps_privileges tree 0 entry (entry_args tree inputs) (own_run tree inputs turns) ≡ true
  entry_keeps =
      sym (keeps_renamed tree turns Turns 0 entry (entry_args tree inputs) (own_run tree inputs turns))
      ∙ ap (keeps_privileges tree 0 entry (entry_args tree inputs)) (sym (probed Turns (λ e. absurd cc) (λ more. calls_at tree turns more) (own_faithful tree turns)))
      ∙ always_keeps Turns (λ e. absurd cc) tree turns none written 63 entry (entry_args tree inputs) []
      (stands_there Turns (λ e. absurd cc) tree turns none written (entry_name tree) (begins tree none).there) (entry_fits tree inputs none counted)

pub programs_keep_privileges : ProgramsKeepPrivileges
programs_keep_privileges tree inputs turns none written counted = record {
  entry = entry_keeps tree inputs turns none written counted;
  calls = watched_is_own tree inputs turns none written counted;
  meant = λ alarm. ap outcome (watched_is_own tree inputs turns none written counted alarm);
}
