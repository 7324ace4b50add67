-- The status of a text, for each deed.
use Rattle.std.specs.Prelude.{Contains, Err, List, None, Ok, Option, Some, [], ℕ, ℤ, ◌≡◌, ◌++◌, ◌⊎◌}
use Rattle.check_rules.specs.Acceptance.{input_widths}
use Rattle.check_rules.specs.Breaches.{breaches, breaks}
use Rattle.regent_lex.specs.declared.fault.LexKind.{LexKind}
use Rattle.regent_lex.specs.declared.fault.LexKind.TheVariants.{BadByte, Unclosed, NumberTooLarge, NameTooLong}
use Rattle.regent_tree.specs.declared.limits.Counted.{Counted}
use Rattle.regent_tree.specs.declared.limits.Counted.TheVariants as counted
use Rattle.regent_tree.specs.declared.outcome.Ending.TheVariants.{Faulted, Finished}
use Rattle.regent_tree.specs.declared.outcome.Fault.{Fault}
use Rattle.regent_tree.specs.declared.outcome.Outcome.{Outcome}
use Rattle.regent_tree.specs.declared.outcome.RootImage.{RootImage}
use Rattle.regent_tree.specs.Meaning.{meaning}
use Rattle.regent_tree.specs.Syntax.{Tree}
use Rattle.regent_reader.specs.declared.fault.ReadFault.{ReadFault}
use Rattle.regent_reader.specs.declared.fault.ReadFault.TheVariants.{TooLong, Lex, TooDeep, NoProgram, TooMany}
use Rattle.regent_reader.specs.Texts.{Reads}
use Rattle.regent_run.specs.declared.limit.Limit.{Limit}
use Rattle.regent_run.specs.declared.limit.Limit.TheVariants as limit
use Rattle.regent_run.specs.Inputs.{AreInputs}
use Rattle.command_words.specs.Commands.{Run, turns_or_default}
use Rattle.regent_run.specs.Texts.{dump_text}
use Rattle.regent_run.specs.Words.{Deed, checks, runs}

-- the line of a fault that is a syntax error
abbrev pub lex_line : LexKind → ℕ → Option ℕ
lex_line BadByte line = Some line
lex_line Unclosed line = Some line
lex_line NumberTooLarge line = None
lex_line NameTooLong line = None

abbrev pub syntax_line : ReadFault → Option ℕ
syntax_line (Lex kind line) = lex_line kind line
syntax_line (NoProgram line) = Some line
syntax_line _ = None

-- the limit that a fault exceeds
abbrev pub limit_counted : Counted → Limit
limit_counted counted.Tasks = limit.Tasks
limit_counted counted.Spaces = limit.Spaces
limit_counted counted.Fields = limit.Fields
limit_counted counted.Parameters = limit.Parameters
limit_counted counted.Regions = limit.Regions

abbrev pub limit_in_token : LexKind → Option Limit
limit_in_token BadByte = None
limit_in_token Unclosed = None
limit_in_token NumberTooLarge = Some limit.Number
limit_in_token NameTooLong = Some limit.Name

abbrev pub limit_passed : ReadFault → Option Limit
limit_passed TooLong = Some limit.Text
limit_passed (Lex kind line) = limit_in_token kind
limit_passed (TooDeep line) = Some limit.Nesting
limit_passed (TooMany what count) = Some (limit_counted what)
limit_passed _ = None

-- the text isn't a program, which is reported on this line
pub record HasSyntaxError (text : List ℕ) (line : ℕ) : Type 0 where
  pub fault : ReadFault
  pub reads : Reads text (Err fault)
  pub told : syntax_line fault ≡ Some line

-- the text exceeds a limit
pub record PassesLimit (text : List ℕ) (passed : Limit) : Type 0 where
  pub fault : ReadFault
  pub reads : Reads text (Err fault)
  pub told : limit_passed fault ≡ Some passed

-- the text is a program that violates a rule on a line
pub record HasBreach (text : List ℕ) (rule line : ℕ) : Type 0 where
  pub tree : Tree
  pub reads : Reads text (Ok tree)
  pub breach : Contains (breaches tree) (breaks rule line)

-- the text is a program that violates no rule
pub record IsAccepted (text : List ℕ) : Type 0 where
  pub tree : Tree
  pub reads : Reads text (Ok tree)
  pub sound : breaches tree ≡ []

-- the words aren't the program's arguments
abbrev pub TakesOthers : Tree → List (List ℕ) → Type 0
TakesOthers tree numbers = (inputs : List ℤ) → AreInputs (input_widths tree) numbers inputs → ⊥

pub record HasOtherInputs (text : List ℕ) (numbers : List (List ℕ)) : Type 0 where
  pub tree : Tree
  pub reads : Reads text (Ok tree)
  pub sound : breaches tree ≡ []
  pub takes : TakesOthers tree numbers

-- the words are the program's arguments, and this is its meaning, with these arguments and turns
pub record Means (tree : Tree) (r : Run) (o : Outcome) : Type 0 where
  pub inputs : List ℤ
  pub given : AreInputs (input_widths tree) r.numbers inputs
  pub means : meaning tree inputs (turns_or_default r.turns_named) ≡ o

-- the text is an accepted program, and this is the outcome of its run
pub record IsRun (text : List ℕ) (r : Run) (o : Outcome) : Type 0 where
  pub tree : Tree
  pub reads : Reads text (Ok tree)
  pub sound : breaches tree ≡ []
  pub means : Means tree r o

-- it prints this and finishes, with these roots; or it prints this up to its first fault
abbrev pub finished_with : List ℕ → List RootImage → Outcome
finished_with printed roots = record { text = printed; ending = Finished roots }

abbrev pub faulted_with : List ℕ → Fault → Outcome
faulted_with printed f = record { text = printed; ending = Faulted f }

-- a run that finishes, and its output: the printed text, followed by the dump if it is asked for
pub record Finishes (tree : Tree) (r : Run) (output : List ℕ) : Type 0 where
  pub printed : List ℕ
  pub roots : List RootImage
  pub means : Means tree r (finished_with printed roots)
  pub gives : output ≡ printed ++ dump_text r.dumps tree roots

-- the text is an accepted program whose run does so
pub record IsFinished (text : List ℕ) (r : Run) (output : List ℕ) : Type 0 where
  pub tree : Tree
  pub reads : Reads text (Ok tree)
  pub sound : breaches tree ≡ []
  pub finishes : Finishes tree r output

-- the status of a text for a deed
pub data Comes (text : List ℕ) : Deed → ℕ → Type 0 where
  finishes : {r : Run} {printed : List ℕ} {roots : List RootImage} → IsRun text r (finished_with printed roots) →
      Comes text (runs r) 0
  faults : {r : Run} {printed : List ℕ} {f : Fault} → IsRun text r (faulted_with printed f) → Comes text (runs r) 1
  is_accepted : IsAccepted text → Comes text checks 0
  is_no_program : {deed : Deed} {line : ℕ} → HasSyntaxError text line → Comes text deed 5
  has_a_breach : {deed : Deed} {rule line : ℕ} → HasBreach text rule line → Comes text deed 6
  passes_a_limit : {deed : Deed} {passed : Limit} → PassesLimit text passed → Comes text deed 8
  has_other_inputs : {r : Run} → HasOtherInputs text r.numbers → Comes text (runs r) 9

-- ---- laws of statuses

-- a text has at most one status for a deed
abbrev pub ComesToOneStatus : Type 0
ComesToOneStatus = (text : List ℕ) (deed : Deed) (m n : ℕ) → Comes text deed m → Comes text deed n →
    m ≡ n

-- A program that is run results in 0 or 1, if its words are its arguments: its meaning isn't
-- broken.
abbrev pub RunsComeToAnEnd : Type 0
RunsComeToAnEnd = (text : List ℕ) (r : Run) (o : Outcome) → IsRun text r o →
    Comes text (runs r) 0 ⊎ Comes text (runs r) 1

-- And each accepted text that is run results in one of these, or its words aren't its arguments.
abbrev pub AcceptedTextsAreRun : Type 0
AcceptedTextsAreRun = (text : List ℕ) (r : Run) → IsAccepted text →
    Comes text (runs r) 0 ⊎ (Comes text (runs r) 1 ⊎ Comes text (runs r) 9)
