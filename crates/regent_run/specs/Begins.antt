-- How a call begins its source.
use Rattle.std.specs.Prelude.{◌≡◌, ◌⊎◌, ℕ, List, Option, Some, Result, Err}
use Rattle.std.specs.Option.{option_map}
use Rattle.run_io.specs.Faults.{one_more}
use Rattle.run_io.specs.Source.{with_name}
use Rattle.regent_run.specs.Calls.{SourceChange}
use Rattle.regent_run.specs.declared.plan.Plan.{Plan}
use Rattle.regent_run.specs.declared.verdict.Verdict.{Verdict}
use Rattle.regent_run.specs.declared.verdict.Verdict.TheVariants.{Usage, NoMemory}
use Rattle.regent_run.specs.Words.{Origin, Request, file, sample}

-- the source was begun once more, by this name
pub record IsBegunBy (name : List ℕ) (source : SourceChange) : Type 0 where
  pub counted : source.begins_now ≡ option_map one_more source.begins
  pub noted : source.names_now ≡ option_map (with_name name) source.names

-- the source wasn't begun
pub record IsUnbegun (source : SourceChange) : Type 0 where
  pub counted : source.begins_now ≡ source.begins
  pub noted : source.names_now ≡ source.names

-- a file begins the source by its name, and a sample doesn't
abbrev pub IsBegunFrom : Origin → SourceChange → Type 0
IsBegunFrom (file name) source = IsBegunBy name source
IsBegunFrom (sample colours) source = IsUnbegun source

-- begun as requested
pub record IsBegunFor (asked : Option Request) (source : SourceChange) : Type 0 where
  pub named : Request
  pub is_asked : asked ≡ Some named
  pub begun : IsBegunFrom named.origin source

-- If the words are refused, it isn't begun; if memory ran out, it may or may not be.
abbrev pub Begins : Option Request → SourceChange → Result Plan Verdict → Type 0
Begins asked source (Err Usage) = IsUnbegun source
Begins asked source (Err NoMemory) = IsUnbegun source ⊎ IsBegunFor asked source
Begins asked source _ = IsBegunFor asked source
