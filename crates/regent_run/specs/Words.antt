-- The requests in the words of the command line.
use Rattle.std.specs.Prelude.{ℕ, ◌≡◌, List, Option, Some, None, option_map}
use Rattle.command_words.specs.Commands.{Command, Run, command}
use Rattle.command_words.specs.Commands as said
use Rattle.command_words.specs.Given.{run_given}
use Rattle.regent_run.specs.declared.requests.Deed.{Deed as LentDeed}
use Rattle.regent_run.specs.declared.requests.Deed.TheVariants as deed
use Rattle.regent_run.specs.declared.requests.Origin.{Origin as LentOrigin}
use Rattle.regent_run.specs.declared.requests.Origin.TheVariants as origin
use Rattle.regent_run.specs.declared.requests.Request.{Request as LentRequest}

-- the origin of a text: it is that of a file, or the sample with a number of colours
pub data Origin : Type 0 where
  file : List ℕ → Origin
  sample : ℕ → Origin

-- what to do with a text: run its program, or check it
pub data Deed : Type 0 where
  runs : Run → Deed
  checks : Deed

-- a text, and what to do with it
pub record Request : Type 0 where
  pub origin : Origin
  pub deed : Deed

abbrev pub asked_of_file : List ℕ → Deed → Request
asked_of_file name deed = record { origin = file name; deed = deed }

-- the request of a command
abbrev pub asked_by : Command → Request
asked_by (said.runs name r) = asked_of_file name (runs r)
asked_by (said.checks name) = asked_of_file name checks
asked_by (said.samples colours r) = record { origin = sample colours; deed = runs r }

-- The request in the words. None if they are refused: they are not a command.
abbrev pub request : List (List ℕ) → Option Request
request words = option_map asked_by (command words)

-- the words ask for this deed with some text
pub record Asks (words : List (List ℕ)) (deed : Deed) : Type 0 where
  pub named : Request
  pub words_name : request words ≡ Some named
  pub same : named.deed ≡ deed

-- no file is asked for: the words are refused, or ask for a sample
abbrev pub IsNoFile : Origin → Type 0
IsNoFile (file name) = ⊥
IsNoFile (sample colours) = Unit {0}

abbrev pub AsksNoFile : Option Request → Type 0
AsksNoFile None = Unit {0}
AsksNoFile (Some named) = IsNoFile named.origin

-- ---- the same in the code's types

abbrev pub origin_given : LentOrigin → Origin
origin_given (origin.File name) = file name.now
origin_given (origin.Sample colours) = sample colours

abbrev pub deed_given : LentDeed → Deed
deed_given (deed.Run r) = runs (run_given r.now)
deed_given deed.Check = checks

abbrev pub request_given : LentRequest → Request
request_given r = record { origin = origin_given r.origin; deed = deed_given r.deed }
