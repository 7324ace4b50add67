-- From the run of a plan to what the program means.
use Rattle.std.proofs.Common.{◌≡◌, ◌↔◌, ◌∙◌, ◌<◌, ◌^◌, ◌++◌, ℕ, ℤ, Bool, true, false, List, [], ◌∷◌, Option, Some, unwrap_or, Result, Ok, Err, IfOk, ap, refl, subst, sym}
use Rattle.check_rules.specs.Acceptance.{input_widths}
use Rattle.check_rules.specs.Breaches.{breaches}
use Rattle.code_laws.proofs.LocalRuns.{accepted_programs_end_well, accepted_programs_run_as_meant}
use Rattle.code_laws.specs.AcceptedPrograms.{IsEnded, IsProgramRun}
use Rattle.code_laws.specs.Programs.{job_of}
use Rattle.code_laws.specs.ScalarPrograms as fitting
use Rattle.code_rules.specs.Programs.{code_of}
use Rattle.command_words.specs.Commands.{Run, turns_or_default, workers_or_default}
use Rattle.expression_laws.specs.WrittenStatements.{AreWrittenTasks}
use Rattle.lane_kernels.specs.declared.numbers.Width.{Width}
use Rattle.board_terms.specs.Replays.{replay}
use Rattle.machine_terms.specs.Jobs.{order_run}
use Rattle.parallel_run.specs.Runs.{HasEnded, IsInOrder, IsOfJob, in_order_line}
use Rattle.parallel_run.specs.declared.ran.Ran.{Ran}
use Rattle.parallel_run.specs.declared.ran.Ran.TheVariants.{ByWorkers, InOrder, NoResult, OtherJob}
use Rattle.regent_reader.specs.Texts.{Reads}
use Rattle.regent_tree.specs.Limits.{WithinLimits}
use Rattle.regent_tree.specs.Meaning.{meaning}
use Rattle.regent_tree.specs.Syntax.{Tree}
use Rattle.regent_tree.specs.declared.outcome.Ending.{Ending}
use Rattle.regent_tree.specs.declared.outcome.Ending.TheVariants.{Faulted, Finished}
use Rattle.regent_tree.specs.declared.outcome.Fault.{Fault}
use Rattle.regent_tree.specs.declared.outcome.Outcome.{Outcome}
use Rattle.regent_tree.specs.declared.outcome.RootImage.{RootImage}
use Rattle.run_report.specs.Dumps.{fits_spaces, roots_of}
use Rattle.task_code.specs.declared.job.Job.{Job}
use Rattle.regent_run.specs.declared.verdict.Verdict.{Verdict}
use Rattle.regent_run.specs.declared.verdict.Verdict.TheVariants as verdict
use Rattle.regent_run.specs.Inputs.{AreInputs}
use Rattle.regent_run.specs.Programs.{Finishes, IsFinished, IsRun, Means, faulted_with, finished_with}
use Rattle.regent_run.specs.Texts.{dump_by, dump_text}
use Rattle.regent_run.specs.Traces.{FinishesJob, IsJournalOf, IsTrace, by_workers, in_order, no_result, not_asked, other_job, serving, trace_by}
use Rattle.regent_run.specs.Verdicts.{IsOfOutcome, IsPlan, IsSound, Says, Tells, TellsPlan}
use Rattle.regent_run.specs.Words.{Request}
use Rattle.regent_run.specs.declared.plan.Plan.{Plan}
use Rattle.run_journal.specs.declared.entry.Entry.{Entry}

-- what a run comes to
pub record RunsWell (tree : Tree) (inputs : List ℤ) (turns : ℕ) (job : Job) (o : Outcome) : Type 0 where
  pub coded : job.code ≡ code_of tree
  pub means : o ≡ meaning tree inputs turns
  pub ended : IsEnded o.ending
  pub fits : fits_spaces job.code o ≡ true

pub runs_well : (tree : Tree) (inputs : List ℤ) (turns : ℕ) (job : Job) (o : Outcome) → turns < 2 ^ 64 → IsProgramRun tree inputs →
    job ≡ job_of tree inputs turns → o ≡ order_run job → RunsWell tree inputs turns job o
runs_well tree inputs turns job o few run same is =
    let coded : job.code ≡ code_of tree = ap (λ (j : Job). j.code) same in
    let means : o ≡ meaning tree inputs turns = is ∙ ap order_run same ∙ accepted_programs_run_as_meant tree inputs turns few run in
    let well = accepted_programs_end_well tree inputs turns few run in record {
      coded = coded;
      means = means;
      ended = subst (λ (w : Outcome). IsEnded w.ending) (sym means) well.ended;
      fits = ap (λ c. fits_spaces c o) coded ∙ ap (fits_spaces (code_of tree)) means ∙ well.fits;
    }

-- the run of a plan comes to what its program means
plan_means : (tree : Tree) (r : Run) (plan : Plan) (is : IsPlan tree r plan) → RunsWell tree is.inputs (turns_or_default r.turns_named) plan.job (order_run plan.job)
plan_means tree r plan is = runs_well tree is.inputs (turns_or_default r.turns_named) plan.job (order_run plan.job) is.few is.program is.job refl

-- it ends, and its roots are of the field spaces of its code
pub plan_ends : (plan : Plan) → IsSound plan → IsEnded (order_run plan.job).ending
plan_ends plan sound = (plan_means sound.tree sound.run plan sound.is_plan).ended

pub plan_fits : (plan : Plan) → IsSound plan → fits_spaces plan.job.code (order_run plan.job) ≡ true
plan_fits plan sound = (plan_means sound.tree sound.run plan sound.is_plan).fits

-- what holds of a value holds of it in another way, where there is one
pub ok_on : {T E : Type 0} {P Q : T → Type 0} (r : Result T E) → ((t : T) → P t → Q t) → IfOk r P → IfOk r Q
ok_on (Ok t) on h = on t h
ok_on (Err e) on h = tt

-- two that are found in one place are one
pub same_outcome : (o p : Outcome) (found : Option Outcome) → Some o ≡ found → found ≡ Some p → o ≡ p
same_outcome o p found is same = ap (λ x. unwrap_or x o) (is ∙ same)

-- what is told of the parts of an outcome is told of it
pub finished_told : (o : Outcome) (roots : List RootImage) (dump trace : List ℕ) (v : Verdict) → o.ending ≡ Finished roots →
    IsOfOutcome (finished_with o.text roots) dump trace v → IsOfOutcome o dump trace v
finished_told o roots dump trace v is h =
    subst (λ (e : Ending). IsOfOutcome (record { text = o.text; ending = e }) dump trace v) (sym is) h

pub faulted_told : (o : Outcome) (f : Fault) (dump trace : List ℕ) (v : Verdict) → o.ending ≡ Faulted f →
    IsOfOutcome (faulted_with o.text f) dump trace v → IsOfOutcome o dump trace v
faulted_told o f dump trace v is h =
    subst (λ (e : Ending). IsOfOutcome (record { text = o.text; ending = e }) dump trace v) (sym is) h

-- the trace of a run that is done
traced : (job : Job) (ran : Ran) (traces : Bool) (workers : ℕ) → HasEnded ran → IsOfJob job ran → IsInOrder ran ↔ (workers ≡ 0) → IsTrace (FinishesJob job) traces workers (trace_by traces ran)
traced job ran false workers ended of_job order = not_asked
traced job (InOrder o) true workers ended of_job order =
    subst (λ (n : ℕ). IsTrace (FinishesJob job) true n in_order_line) (sym (order.0 tt)) in_order
traced job (ByWorkers board) true workers ended of_job order =
    by_workers board.journal (λ none. order.1 none)
    (record { state = board.state; leads = subst (λ (j : Job). replay j board.journal ≡ Some board.state) of_job ended.1; finished = ended.0 })
traced job (OtherJob o) true workers ended of_job order = other_job (λ none. order.1 none)
traced job (NoResult o) true workers ended of_job order = no_result (λ none. order.1 none)

-- what is told of a run's outcome with its dump and its trace is told of the plan
pub plan_told : (serves : ℕ → ℕ) (plan : Plan) (ran : Ran) (v : Verdict) → HasEnded ran → IsOfJob plan.job ran → IsInOrder ran ↔ (serves plan.workers ≡ 0) →
    IsOfOutcome (order_run plan.job) (dump_by plan.dumps plan.job.code.spaces (roots_of (order_run plan.job).ending)) (trace_by plan.traces ran) v → TellsPlan serves plan v
plan_told serves plan ran verdict.Usage ended of_job order h = absurd h
plan_told serves plan ran verdict.Unread ended of_job order h = absurd h
plan_told serves plan ran verdict.NoMemory ended of_job order h = tt
plan_told serves plan ran (verdict.NoProgram message) ended of_job order h = absurd h
plan_told serves plan ran (verdict.PastLimit passed) ended of_job order h = absurd h
plan_told serves plan ran (verdict.Refused message) ended of_job order h = absurd h
plan_told serves plan ran verdict.OtherInputs ended of_job order h = absurd h
plan_told serves plan ran (verdict.Finished output trace) ended of_job order h =
    record { trace = trace_by plan.traces ran; traced = traced plan.job ran plan.traces (serves plan.workers) ended of_job order; told = h }
plan_told serves plan ran (verdict.Faulted printed message) ended of_job order h =
    record { trace = trace_by plan.traces ran; traced = traced plan.job ran plan.traces (serves plan.workers) ended of_job order; told = h }
plan_told serves plan ran verdict.Accepted ended of_job order h = absurd h

-- numbers of words fit their widths
all_fit : (ws : List Width) (words : List (List ℕ)) (zs : List ℤ) → AreInputs ws words zs → fitting.AreInputs ws zs
all_fit [] [] [] h = tt
all_fit [] [] (z ∷ zs) h = absurd h
all_fit [] (word ∷ words) zs h = absurd h
all_fit (w ∷ ws) [] zs h = absurd h
all_fit (w ∷ ws) (word ∷ words) [] h = absurd h
all_fit (w ∷ ws) (word ∷ words) (z ∷ zs) h = (h.0.2, all_fit ws words zs h.1)

-- an accepted program that was read, with the numbers that it takes, can be run
pub can_run : (tree : Tree) (ws : List Width) (words : List (List ℕ)) (inputs : List ℤ) → WithinLimits tree → breaches tree ≡ [] → AreWrittenTasks tree →
    ws ≡ input_widths tree → AreInputs ws words inputs → IsProgramRun tree inputs
can_run tree ws words inputs within sound written are given =
    record { within = within; accepted = sound; written = written; numbers = subst (λ us. fitting.AreInputs us inputs) are (all_fit ws words inputs given) }

-- the job of an accepted program, with the numbers that it takes, and what is asked for are a plan of its run
pub plan_is : (tree : Tree) (r : Run) (ws : List Width) (inputs : List ℤ) (plan : Plan) → WithinLimits tree → breaches tree ≡ [] → AreWrittenTasks tree → ws ≡ input_widths tree → AreInputs ws r.numbers inputs →
    turns_or_default r.turns_named < 2 ^ 64 → plan.job ≡ job_of tree inputs (turns_or_default r.turns_named) → plan.workers ≡ workers_or_default r.workers_named → plan.dumps ≡ r.dumps → plan.traces ≡ r.traces → IsPlan tree r plan
plan_is tree r ws inputs plan within sound written are given few job workers dumps traces = record {
  inputs = inputs;
  given = subst (λ us. AreInputs us r.numbers inputs) are given;
  program = can_run tree ws r.numbers inputs within sound written are given;
  job = job;
  few = few;
  workers = workers;
  dumps = dumps;
  traces = traces;
}

-- ---- the plan of a text's program

-- a trace with one kind of journals is a trace with another, where the one are of the other
trace_on : {P Q : List Entry → Type 0} (traces : Bool) (workers : ℕ) (trace : List ℕ) → ((journal : List Entry) → P journal → Q journal) → IsTrace P traces workers trace → IsTrace Q traces workers trace
trace_on traces workers trace on not_asked = not_asked
trace_on traces workers trace on in_order = in_order
trace_on traces workers trace on (by_workers journal some is) = by_workers journal some (on journal is)
trace_on traces workers trace on (other_job some) = other_job some
trace_on traces workers trace on (no_result some) = no_result some

-- the trace of a plan's run is one of the run of the text
text_traced : (serves : ℕ → ℕ) (text : List ℕ) (tree : Tree) (r : Run) (plan : Plan) (trace : List ℕ) → Reads text (Ok tree) → IsPlan tree r plan →
    IsTrace (FinishesJob plan.job) plan.traces (serves plan.workers) trace → IsTrace (λ journal. IsJournalOf text r journal) r.traces (serving serves r) trace
text_traced serves text tree r plan trace reads is h =
    let asked : IsTrace (FinishesJob plan.job) r.traces (serving serves r) trace =
    subst (λ (n : ℕ). IsTrace (FinishesJob plan.job) r.traces (serves n) trace) is.workers (subst (λ (b : Bool). IsTrace (FinishesJob plan.job) b (serves plan.workers) trace) is.traces h) in
    trace_on r.traces (serving serves r) trace
    (λ journal finishes. record { tree = tree; reads = reads; journal_is = record { inputs = is.inputs; given = is.given; finishes = subst (λ (j : Job). FinishesJob j journal) is.job finishes } })
    asked

-- what its run comes to is what the program means
plan_run : (tree : Tree) (r : Run) (plan : Plan) (o : Outcome) → IsPlan tree r plan → order_run plan.job ≡ o → Means tree r o
plan_run tree r plan o is comes =
    record { inputs = is.inputs; given = is.given; means = sym (plan_means tree r plan is).means ∙ comes }

plan_finishes : (tree : Tree) (r : Run) (plan : Plan) (printed output : List ℕ) (roots : List RootImage) → IsPlan tree r plan → order_run plan.job ≡ finished_with printed roots →
    output ≡ printed ++ dump_by plan.dumps plan.job.code.spaces (roots_of (order_run plan.job).ending) → Finishes tree r output
plan_finishes tree r plan printed output roots is comes gives =
    let coded : dump_by plan.dumps plan.job.code.spaces (roots_of (order_run plan.job).ending) ≡ dump_text r.dumps tree (roots_of (order_run plan.job).ending) =
    ap (λ c. dump_by plan.dumps c.spaces (roots_of (order_run plan.job).ending)) (plan_means tree r plan is).coded
    ∙ ap (λ (b : Bool). dump_text b tree (roots_of (order_run plan.job).ending)) is.dumps in
    record {
      printed = printed;
      roots = roots;
      means = plan_run tree r plan (finished_with printed roots) is comes;
      gives = gives ∙ ap (λ bytes. printed ++ bytes) coded ∙ ap (λ (o : Outcome). printed ++ dump_text r.dumps tree (roots_of o.ending)) comes;
    }

-- what is said before a run is told, where there is a run what is told of its plan
pub told_unrun : (serves : ℕ → ℕ) (asked : Option Request) (later : Option (List (List ℕ))) (before now : ℕ) (v : Verdict) → Says asked later before now (Err v) → Tells serves asked later before now v
told_unrun serves asked later before now verdict.Usage h = h
told_unrun serves asked later before now verdict.Unread h = h
told_unrun serves asked later before now verdict.NoMemory h = h
told_unrun serves asked later before now (verdict.NoProgram message) h = h
told_unrun serves asked later before now (verdict.PastLimit passed) h = h
told_unrun serves asked later before now (verdict.Refused message) h = h
told_unrun serves asked later before now verdict.OtherInputs h = h
told_unrun serves asked later before now (verdict.Finished output trace) h = absurd h.2.2
told_unrun serves asked later before now (verdict.Faulted printed message) h = absurd h.2.2
told_unrun serves asked later before now verdict.Accepted h = h

pub told_run : (serves : ℕ → ℕ) (asked : Option Request) (later : Option (List (List ℕ))) (before now : ℕ) (plan : Plan) (v : Verdict) → Says asked later before now (Ok plan) → TellsPlan serves plan v →
    Tells serves asked later before now v
told_run serves asked later before now plan verdict.Usage said h = absurd h.told
told_run serves asked later before now plan verdict.Unread said h = absurd h.told
told_run serves asked later before now plan verdict.NoMemory said h = tt
told_run serves asked later before now plan (verdict.NoProgram message) said h = absurd h.told
told_run serves asked later before now plan (verdict.PastLimit passed) said h = absurd h.told
told_run serves asked later before now plan (verdict.Refused message) said h = absurd h.told
told_run serves asked later before now plan verdict.OtherInputs said h = absurd h.told
told_run serves asked later before now plan (verdict.Finished output trace) said h =
    let of = said.2 in
    let p = of.2 in
    let t = h.told in
    let bytes : IsTrace (FinishesJob plan.job) plan.traces (serves plan.workers) trace.items = subst (λ (b : List ℕ). IsTrace (FinishesJob plan.job) plan.traces (serves plan.workers) b) (sym t.0) h.traced in
    let ends : IsFinished of.0 p.0 output =
    record { tree = p.2; reads = p.3; sound = p.4.program.accepted; finishes = plan_finishes p.2 p.0 plan t.1 output t.2 p.4 t.3 t.4 } in
    (said.0, said.1, (of.0, of.1, (p.0, p.1, text_traced serves of.0 p.2 p.0 plan trace.items p.3 p.4 bytes, ends)))
told_run serves asked later before now plan (verdict.Faulted printed message) said h =
    let of = said.2 in
    let p = of.2 in
    let t = h.told in
    let faults : IsRun of.0 p.0 (faulted_with printed t.0) =
    record { tree = p.2; reads = p.3; sound = p.4.program.accepted; means = plan_run p.2 p.0 plan (faulted_with printed t.0) p.4 t.2 } in
    (said.0, said.1, (of.0, of.1, (p.0, p.1, t.0, h.trace, t.1, text_traced serves of.0 p.2 p.0 plan h.trace p.3 p.4 h.traced, faults)))
told_run serves asked later before now plan verdict.Accepted said h = absurd h.told

-- it is the plan of a sound run
pub says_sound : (asked : Option Request) (later : Option (List (List ℕ))) (before now : ℕ) (plan : Plan) → Says asked later before now (Ok plan) → IsSound plan
says_sound asked later before now plan said = record { tree = said.2.2.2; run = said.2.2.0; is_plan = said.2.2.4 }
