-- The verdict of a call before it writes, and its output.
use Rattle.std.specs.Prelude.{◌≡◌, ◌<◌, ◌^◌, ◌⊎◌, ◌++◌, ℕ, ℤ, Contains, List, [], Option, Some, None, Result, Ok, Err, length, string_bytes}
use Rattle.run_io.specs.Faults.{Rose}
use Rattle.run_io.specs.Sink.{Adds, AddsPrefix}
use Rattle.regent_run.specs.Calls.{SinkChange}
use Rattle.regent_run.specs.declared.verdict.Verdict.{Verdict}
use Rattle.regent_run.specs.declared.verdict.Verdict.TheVariants.{Usage, Unread, NoMemory, NoProgram, PastLimit, Refused, OtherInputs, Finished, Faulted, Accepted}
use Rattle.command_words.specs.Commands.{Run, turns_or_default, workers_or_default}
use Rattle.regent_run.specs.Traces.{FinishesJob, IsJournalOf, IsTrace, serving}
use Rattle.regent_run.specs.Words.{AsksNoFile, Deed, Request, checks, runs}
use Rattle.regent_run.specs.Texts.{accepted_text, dump_by, usage_message, read_message, memory_message, syntax_message, breach_message, limit_message, inputs_message}
use Rattle.check_rules.specs.Acceptance.{input_widths}
use Rattle.check_rules.specs.Breaches.{breaches, breaks}
use Rattle.code_laws.specs.AcceptedPrograms.{IsProgramRun}
use Rattle.code_laws.specs.Programs.{job_of}
use Rattle.machine_terms.specs.Jobs.{order_run}
use Rattle.regent_tree.specs.declared.outcome.Fault.{Fault}
use Rattle.regent_tree.specs.declared.outcome.Outcome.{Outcome}
use Rattle.regent_tree.specs.declared.outcome.RootImage.{RootImage}
use Rattle.run_report.specs.Dumps.{roots_of}
use Rattle.run_report.specs.FaultLines.{fault_text}
use Rattle.regent_reader.specs.Texts.{Reads}
use Rattle.regent_run.specs.Inputs.{AreInputs}
use Rattle.regent_run.specs.Origins.{OfOneText, text_asked}
use Rattle.regent_run.specs.declared.plan.Plan.{Plan}
use Rattle.regent_tree.specs.Syntax.{Tree}
use Rattle.regent_reader.specs.declared.fault.ReadFault.{ReadFault}
use Rattle.regent_run.specs.Programs.{HasBreach, HasOtherInputs, HasSyntaxError, IsAccepted, IsFinished, IsRun, PassesLimit, TakesOthers, faulted_with, finished_with, limit_passed, syntax_line}

abbrev pub status_of : Verdict → ℕ
status_of Usage = 2
status_of Unread = 3
status_of NoMemory = 7
status_of (NoProgram message) = 5
status_of (PastLimit passed) = 8
status_of (Refused message) = 6
status_of OtherInputs = 9
status_of (Finished text trace) = 0
status_of (Faulted text message) = 1
status_of Accepted = 0

-- the text for the output, and that for the error output
abbrev pub out_text : Verdict → List ℕ
out_text (Finished text trace) = text
out_text (Faulted text message) = text
out_text Accepted = accepted_text
out_text _ = []

abbrev pub err_text : Verdict → List ℕ
err_text Usage = usage_message
err_text Unread = read_message
err_text NoMemory = memory_message
err_text (NoProgram message) = string_bytes message
err_text (PastLimit passed) = limit_message passed
err_text (Refused message) = string_bytes message
err_text OtherInputs = inputs_message
err_text (Finished text trace) = trace.items
err_text (Faulted text message) = message.items
err_text Accepted = []

-- ---- before a run: a plan of it (Ok), or a verdict without one (Err)

-- the plan of a run of an accepted program: its code, with its arguments in the words, and what is
-- requested
pub record IsPlan (tree : Tree) (r : Run) (plan : Plan) : Type 0 where
  pub inputs : List ℤ
  pub given : AreInputs (input_widths tree) r.numbers inputs
  pub program : IsProgramRun tree inputs
  pub job : plan.job ≡ job_of tree inputs (turns_or_default r.turns_named)
  pub few : turns_or_default r.turns_named < 2 ^ 64
  pub workers : plan.workers ≡ workers_or_default r.workers_named
  pub dumps : plan.dumps ≡ r.dumps
  pub traces : plan.traces ≡ r.traces

-- a plan of a run of some accepted program
pub record IsSound (plan : Plan) : Type 0 where
  pub tree : Tree
  pub run : Run
  pub is_plan : IsPlan tree run plan

-- a plan or verdict is right for a text and a deed
abbrev pub Judges : List ℕ → Deed → Result Plan Verdict → Type 0
Judges text deed (Ok plan) =
    (r : Run) × (deed ≡ runs r) × (tree : Tree) × Reads text (Ok tree) × IsPlan tree r plan
Judges text deed (Err NoMemory) = Unit {0}
Judges text deed (Err (NoProgram message)) =
    (line : ℕ) × (string_bytes message ≡ syntax_message line) × HasSyntaxError text line
Judges text deed (Err (PastLimit passed)) = PassesLimit text passed
Judges text deed (Err (Refused message)) = (rule : ℕ) × (line : ℕ)
    × (string_bytes message ≡ breach_message rule line) × HasBreach text rule line
Judges text deed (Err OtherInputs) = (r : Run) × (deed ≡ runs r) × HasOtherInputs text r.numbers
Judges text deed (Err Accepted) = (deed ≡ checks) × IsAccepted text
Judges text deed (Err _) = ⊥

-- for an accepted program that is run
abbrev pub JudgesRun : Tree → Run → Result Plan Verdict → Type 0
JudgesRun tree r (Ok plan) = IsPlan tree r plan
JudgesRun tree r (Err NoMemory) = Unit {0}
JudgesRun tree r (Err OtherInputs) = TakesOthers tree r.numbers
JudgesRun tree r (Err _) = ⊥

-- and for one with this deed
abbrev pub JudgesAccepted : Tree → Deed → Result Plan Verdict → Type 0
JudgesAccepted tree (runs r) judged = JudgesRun tree r judged
JudgesAccepted tree checks judged = judged ≡ Err Accepted

-- the message of a violation in the tree
pub record IsOfBreach (tree : Tree) (message : List ℕ) : Type 0 where
  pub rule : ℕ
  pub line : ℕ
  pub breach : Contains (breaches tree) (breaks rule line)
  pub told : message ≡ breach_message rule line

-- for a program that was read: it has a violation, or it is accepted
abbrev pub JudgesProgram : Tree → Deed → Result Plan Verdict → Type 0
JudgesProgram tree deed (Err NoMemory) = Unit {0}
JudgesProgram tree deed (Err (Refused message)) = IsOfBreach tree (string_bytes message)
JudgesProgram tree deed judged = (breaches tree ≡ []) × JudgesAccepted tree deed judged

-- a verdict is right for a fault that the reader finds
abbrev pub TellsFault : ReadFault → Verdict → Type 0
TellsFault fault NoMemory = Unit {0}
TellsFault fault (NoProgram message) =
    (line : ℕ) × (string_bytes message ≡ syntax_message line) × (syntax_line fault ≡ Some line)
TellsFault fault (PastLimit passed) = limit_passed fault ≡ Some passed
TellsFault fault _ = ⊥

-- the same for one text, which is the reported one, if there is one
abbrev pub SaysOfText : Option (List ℕ) → Deed → Result Plan Verdict → Type 0
SaysOfText told deed judged = OfOneText told (λ text. Judges text deed judged)

-- a file is asked for, and the source's count of faults rose
pub record CantBeRead (asked : Option Request) (before now : ℕ) : Type 0 where
  pub of_file : AsksNoFile asked → ⊥
  pub rose : Rose before now

-- For a request: there is none, or its text can't be read, or the plan or verdict is right for the
-- text, or memory ran out. The numbers are the source's count of faults before and after.
abbrev pub Says : Option Request → Option (List (List ℕ)) → ℕ → ℕ → Result Plan Verdict → Type 0
Says asked later before now (Err Usage) = asked ≡ None
Says asked later before now (Err Unread) = CantBeRead asked before now
Says asked later before now (Err NoMemory) = Unit {0}
Says asked later before now judged =
    (named : Request) × (asked ≡ Some named) × SaysOfText (text_asked asked later) named.deed judged

-- ---- with the run

-- a verdict is right for the outcome of a run, with this dump and this trace
abbrev pub IsOfOutcome : Outcome → List ℕ → List ℕ → Verdict → Type 0
IsOfOutcome o dump trace (Finished output told) = (told.items ≡ trace)
    × (printed : List ℕ) × (roots : List RootImage) × (o ≡ finished_with printed roots) × (output ≡ printed ++ dump)
IsOfOutcome o dump trace (Faulted printed message) =
    (f : Fault) × (message.items ≡ trace ++ fault_text f) × (o ≡ faulted_with printed f)
IsOfOutcome o dump trace _ = ⊥

-- it has the outcome of the job's run in order, with the dump and the trace that are requested
pub record IsOfRun (serves : ℕ → ℕ) (plan : Plan) (v : Verdict) : Type 0 where
  pub trace : List ℕ
  pub traced : IsTrace (FinishesJob plan.job) plan.traces (serves plan.workers) trace
  pub told : IsOfOutcome (order_run plan.job)
      (dump_by plan.dumps plan.job.code.spaces (roots_of (order_run plan.job).ending)) trace v

-- unless memory ran out
abbrev pub TellsPlan : (ℕ → ℕ) → Plan → Verdict → Type 0
TellsPlan serves plan NoMemory = Unit {0}
TellsPlan serves plan v = IsOfRun serves plan v

-- A verdict is right for a text, with this many workers serving.
abbrev pub TellsText : (ℕ → ℕ) → List ℕ → Deed → Verdict → Type 0
TellsText serves text deed (Finished printed trace) = (r : Run) × (deed ≡ runs r)
    × IsTrace (λ journal. IsJournalOf text r journal) r.traces (serving serves r) trace.items
    × IsFinished text r printed
TellsText serves text deed (Faulted printed message) = (r : Run) × (deed ≡ runs r) × (f : Fault) × (trace : List ℕ)
    × (message.items ≡ trace ++ fault_text f)
    × IsTrace (λ journal. IsJournalOf text r journal) r.traces (serving serves r) trace
    × IsRun text r (faulted_with printed f)
TellsText serves text deed v = Judges text deed (Err v)

-- for one text, which is the reported one, if there is one
abbrev pub TellsOfText : (ℕ → ℕ) → Option (List ℕ) → Deed → Verdict → Type 0
TellsOfText serves told deed v = OfOneText told (λ text. TellsText serves text deed v)

-- and for a request
abbrev pub Tells : (ℕ → ℕ) → Option Request → Option (List (List ℕ)) → ℕ → ℕ → Verdict → Type 0
Tells serves asked later before now Usage = asked ≡ None
Tells serves asked later before now Unread = CantBeRead asked before now
Tells serves asked later before now NoMemory = Unit {0}
Tells serves asked later before now v =
    (named : Request) × (asked ≡ Some named) × TellsOfText serves (text_asked asked later) named.deed v

-- the message of a line, unless memory ran out
abbrev pub IsNoProgram : ℕ → Verdict → Type 0
IsNoProgram line (NoProgram message) = string_bytes message ≡ syntax_message line
IsNoProgram line NoMemory = Unit {0}
IsNoProgram line _ = ⊥

abbrev pub IsRefused : ℕ → ℕ → Verdict → Type 0
IsRefused rule line (Refused message) = string_bytes message ≡ breach_message rule line
IsRefused rule line NoMemory = Unit {0}
IsRefused rule line _ = ⊥

-- ---- what is written

-- nothing failed, and the sink has gained the bytes
pub record HasGained (bytes : List ℕ) (sink : SinkChange) : Type 0 where
  pub steady : sink.faults_now ≡ sink.faults
  pub gained : Adds sink.held bytes sink.held_now

-- a write failed of which the sink wasn't sure, and a proper prefix of the bytes was added
pub record HasFailed (bytes : List ℕ) (sink : SinkChange) : Type 0 where
  pub cause : Rose sink.faults sink.faults_now
  pub unsure : sink.sure < length bytes
  pub prefix : AddsPrefix sink.held bytes sink.held_now

-- nothing was done
pub record IsUntouched (sink : SinkChange) : Type 0 where
  pub steady : sink.faults_now ≡ sink.faults
  pub kept : sink.held_now ≡ sink.held

-- all was written, and the status is the verdict's
pub record IsWritten (v : Verdict) (answer : ℕ) (out err : SinkChange) : Type 0 where
  pub status : answer ≡ status_of v
  pub output : HasGained (out_text v) out
  pub errors : HasGained (err_text v) err

-- a write to the output failed, and nothing was written after it
pub record OutFailed (v : Verdict) (answer : ℕ) (out err : SinkChange) : Type 0 where
  pub status : answer ≡ 4
  pub output : HasFailed (out_text v) out
  pub errors : IsUntouched err

-- all was written to the output, and then a write to the error output failed
pub record ErrFailed (v : Verdict) (answer : ℕ) (out err : SinkChange) : Type 0 where
  pub status : answer ≡ 4
  pub output : HasGained (out_text v) out
  pub errors : HasFailed (err_text v) err

abbrev pub IsDelivered : Verdict → ℕ → SinkChange → SinkChange → Type 0
IsDelivered v answer out err =
    IsWritten v answer out err ⊎ (OutFailed v answer out err ⊎ ErrFailed v answer out err)
