-- The result of a call, and its input and output.
use Rattle.std.specs.Prelude.{◌≡◌, ◌≢◌, ◌≤◌, ◌⊎◌, ◌++◌, ℕ, List, [], Some, None, IfSome, length}
use Rattle.std.specs.Option.{option_map}
use Rattle.run_io.specs.Faults.{Rose}
use Rattle.run_io.specs.Sink.{Adds}
use Rattle.run_io.specs.Source.{next_left}
use Rattle.regent_tree.specs.declared.outcome.Fault.{Fault}
use Rattle.command_words.specs.Commands.{Run}
use Rattle.run_report.specs.FaultLines.{fault_text}
use Rattle.regent_run.specs.Begins.{IsBegunFor, IsUnbegun}
use Rattle.regent_run.specs.Calls.{Call}
use Rattle.regent_run.specs.declared.limit.Limit.{Limit}
use Rattle.regent_run.specs.Origins.{begun_for, text_asked, text_from}
use Rattle.regent_run.specs.Programs.{Comes, HasBreach, HasOtherInputs, HasSyntaxError, IsAccepted, IsFinished, IsRun, PassesLimit, faulted_with}
use Rattle.regent_run.specs.Reading.{TakesAtMost}
use Rattle.regent_run.specs.Texts.{accepted_text, usage_message, read_message, memory_message, syntax_message, breach_message, limit_message, inputs_message}
use Rattle.regent_run.specs.Traces.{IsJournalOf, IsTrace, serving}
use Rattle.regent_run.specs.Verdicts.{CantBeRead, HasFailed, HasGained, IsUntouched}
use Rattle.regent_run.specs.Words.{Asks, Deed, Request, checks, request, runs}

-- This is the requested text: the one that the begin of the source leaves, if the source reports
-- it, or the sample.
pub record IsTheText (call : Call) (text : List ℕ) : Type 0 where
  pub named : Request
  pub is_asked : request call.words ≡ Some named
  pub told : IfSome (text_from named.origin call.source.later) (λ known. text ≡ known)

-- This holds for the text of the call, if the source reports it, or it is the sample.
abbrev pub IfTold : Call → (List ℕ → Type 0) → Type 0
IfTold call P = IfSome (text_asked (request call.words) call.source.later) P

-- ---- the outcome of a call, and how it ends

-- the trace of a run of the text in this call
abbrev pub IsTraced : Call → List ℕ → Run → List ℕ → Type 0
IsTraced call text r trace =
    IsTrace (λ journal. IsJournalOf text r journal) r.traces (serving call.serves r) trace

-- The output of a command, and its error output without an error, with its status. A run prints the
-- text that its program's meaning prints, to its end or up to the first fault, and after an end the
-- dump, if it is asked for. It reports its trace, if it is asked for, and the fault. A check prints
-- that the text is accepted. Status, print and trace are of one text.
pub data IsPrinted (call : Call) : ℕ → List ℕ → List ℕ → Type 0 where
  finished : (text : List ℕ) (r : Run) {printed trace : List ℕ} → IsTheText call text →
      Asks call.words (runs r) → IsFinished text r printed → IsTraced call text r trace →
      IsPrinted call 0 printed trace
  faulted : (text : List ℕ) (r : Run) {printed trace : List ℕ} (f : Fault) → IsTheText call text →
      Asks call.words (runs r) → IsRun text r (faulted_with printed f) → IsTraced call text r trace →
      IsPrinted call 1 printed (trace ++ fault_text f)
  accepted : (text : List ℕ) → IsTheText call text → Asks call.words checks → IsAccepted text →
      IsPrinted call 0 accepted_text []

-- the status of an error, and the line that reports it
pub data Fails (call : Call) : ℕ → List ℕ → Type 0 where
  usage : request call.words ≡ None → Fails call 2 usage_message
  unread : CantBeRead (request call.words) call.source.faults call.source.faults_now → Fails call 3 read_message
  syntax : (text : List ℕ) (deed : Deed) (line : ℕ) → IsTheText call text → Asks call.words deed →
      HasSyntaxError text line → Fails call 5 (syntax_message line)
  types : (text : List ℕ) (deed : Deed) (rule line : ℕ) → IsTheText call text → Asks call.words deed →
      HasBreach text rule line → Fails call 6 (breach_message rule line)
  no_memory : Fails call 7 memory_message
  limit : (text : List ℕ) (deed : Deed) (passed : Limit) → IsTheText call text → Asks call.words deed →
      PassesLimit text passed → Fails call 8 (limit_message passed)
  inputs : (text : List ℕ) (r : Run) → IsTheText call text → Asks call.words (runs r) →
      HasOtherInputs text r.numbers → Fails call 9 inputs_message

-- the output has gained the printed text, and the error output the reported one
pub record HasPrinted (printed told : List ℕ) (call : Call) : Type 0 where
  pub output : Adds call.out.held printed call.out.held_now
  pub errors : Adds call.err.held told call.err.held_now

-- the error output has gained the line, and the output nothing
pub record HasTold (message : List ℕ) (call : Call) : Type 0 where
  pub output : call.out.held_now ≡ call.out.held
  pub errors : Adds call.err.held message call.err.held_now

-- no call of the source failed
abbrev pub HasReadWell : Call → Type 0
HasReadWell call = call.source.faults_now ≡ call.source.faults

-- How a call ends, with its status. If a write failed of which its sink wasn't sure, the status is
-- 4, and nothing was written after it. Then no call of the source had failed, unless the line being
-- written was the one that reports such a failure.
pub data Ends (call : Call) : ℕ → Type 0 where
  prints : {status : ℕ} {printed told : List ℕ} → IsPrinted call status printed told →
      HasPrinted printed told call → Ends call status
  tells : {status : ℕ} {message : List ℕ} → Fails call status message → HasTold message call →
      Ends call status
  print_failed : {status : ℕ} {printed told : List ℕ} → IsPrinted call status printed told →
      HasReadWell call → HasFailed printed call.out → IsUntouched call.err → Ends call 4
  told_failed : {status : ℕ} {printed told : List ℕ} → IsPrinted call status printed told →
      HasReadWell call → HasGained printed call.out → HasFailed told call.err → Ends call 4
  line_failed : {status : ℕ} {message : List ℕ} → Fails call status message →
      (status ≢ 3 → HasReadWell call) → IsUntouched call.out → HasFailed message call.err → Ends call 4

-- ---- the status of a text

-- the status is this one, unless memory ran out or a write failed
abbrev pub UnlessStopped : ℕ → ℕ → Type 0
UnlessStopped status answer = (answer ≡ status) ⊎ ((answer ≡ 7) ⊎ (answer ≡ 4))

-- or the text couldn't be read
abbrev pub UnlessUnread : ℕ → ℕ → Type 0
UnlessUnread status answer = UnlessStopped status answer ⊎ (answer ≡ 3)

-- if the words ask for a text, its status is the only one, unless the call was stopped
abbrev pub ComesTo : Call → ℕ → Type 0
ComesTo call answer = (named : Request) → request call.words ≡ Some named →
    IfTold call (λ text. (n : ℕ) → Comes text named.deed n → UnlessUnread n answer)

-- no count of faults rose in the call
pub record NoneRose (call : Call) : Type 0 where
  pub source_kept : Rose call.source.faults call.source.faults_now → ⊥
  pub out_kept : Rose call.out.faults call.out.faults_now → ⊥
  pub err_kept : Rose call.err.faults call.err.faults_now → ⊥

-- then it is this status, unless memory ran out
abbrev pub IsComplete : Call → ℕ → Type 0
IsComplete call answer = NoneRose call → (named : Request) → request call.words ≡ Some named →
    IfTold call (λ text. (n : ℕ) → Comes text named.deed n → (answer ≡ n) ⊎ (answer ≡ 7))

-- ---- sinks that are sure

-- the output is sure of the printed text of the command
abbrev pub IsSureOfOutput : Call → Type 0
IsSureOfOutput call = (status : ℕ) (printed told : List ℕ) → IsPrinted call status printed told →
    length printed ≤ call.out.sure

-- the error output is sure of the reported text of the command, and of each error line of the call
pub record IsSureOfErrors (call : Call) : Type 0 where
  pub besides : (status : ℕ) (printed told : List ℕ) → IsPrinted call status printed told →
      length told ≤ call.err.sure
  pub lines : (status : ℕ) (message : List ℕ) → Fails call status message →
      length message ≤ call.err.sure

-- ---- input

-- the source wasn't begun
abbrev pub IsNotBegun : Call → Type 0
IsNotBegun call = IsUnbegun call.source

-- the source was begun once more, by the file that the words name, or not, if they ask for a sample
abbrev pub IsBegunOnce : Call → Type 0
IsBegunOnce call = IsBegunFor (request call.words) call.source

-- at most this many bytes were taken of what the begin leaves
abbrev pub Takes : ℕ → Call → Type 0
Takes most call =
    TakesAtMost most (option_map next_left call.source.later) call.source.left call.source.left_now

-- a file's text that isn't too long was read to its end
abbrev pub IsReadWhole : Call → Type 0
IsReadWhole call = IfSome (begun_for (request call.words) call.source.later)
    (λ text. length text ≤ 1048576 → IfSome call.source.left_now (λ rest. rest ≡ []))

-- the status of a text that was read: none of the statuses of other causes
abbrev pub IsOfText : ℕ → Type 0
IsOfText n = (n ≢ 2) × (n ≢ 3) × (n ≢ 4) × (n ≢ 7)

-- ---- the whole

-- A call with this result.
pub record IsAnswered (call : Call) (answer : ℕ) : Type 0 where
  -- It ends in one of the ways above: its output is right.
  pub ends : Ends call answer
  -- Words that are refused result in 2.
  pub refuses : request call.words ≡ None → UnlessStopped 2 answer
  -- A text with its command has at most one of the statuses 0, 1, 5, 6, 8 and 9, and that is the
  -- result unless the call was stopped. So if nothing failed, it is the result, or memory ran out.
  pub comes : ComesTo call answer
  pub complete : IsComplete call answer
  -- No write fails if the sinks are sure of all that may be written.
  pub sure : IsSureOfOutput call → IsSureOfErrors call → answer ≢ 4
  -- Nothing failed unless the status is 3 or 4.
  pub read : answer ≢ 3 → answer ≢ 4 → HasReadWell call
  pub steady : answer ≢ 4 →
      (call.out.faults_now ≡ call.out.faults) × (call.err.faults_now ≡ call.err.faults)
  -- The source is begun at most once, by the file that the words name, and not for a sample.
  pub begins : IsNotBegun call ⊎ IsBegunOnce call
  pub begun : IsOfText answer → IsBegunOnce call
  pub takes : Takes 1048577 call
  pub whole : IsOfText answer → IsReadWhole call
