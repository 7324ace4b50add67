-- The effect of reading a text on its source.
use Rattle.std.specs.Prelude.{◌≡◌, ◌≤◌, ◌⊎◌, ℕ, List, [], Option, Result, Err, IfSome, length}
use Rattle.std.specs.Option.{option_map}
use Rattle.run_io.specs.Source.{Moves, next_left}
use Rattle.regent_run.specs.Begins.{Begins}
use Rattle.regent_run.specs.Calls.{SourceChange}
use Rattle.regent_run.specs.Origins.{begun_for}
use Rattle.regent_run.specs.Words.{Request}
use Rattle.regent_run.specs.declared.plan.Plan.{Plan}
use Rattle.regent_run.specs.declared.verdict.Verdict.{Verdict}
use Rattle.regent_run.specs.declared.verdict.Verdict.TheVariants.{Usage, Unread, NoMemory}

-- no call of the source failed, unless the text can't be read
abbrev pub IsSteady : ℕ → ℕ → Result Plan Verdict → Type 0
IsSteady before now (Err Unread) = Unit {0}
IsSteady before now _ = now ≡ before

-- At most this many bytes were taken of what the begin leaves; a begin that fails takes nothing of
-- what was left before.
abbrev pub TakesAtMost : ℕ → Option (List ℕ) → Option (List ℕ) → Option (List ℕ) → Type 0
TakesAtMost most begun before now =
    (now ≡ before) ⊎ ((moved : List ℕ) × (length moved ≤ most) × Moves begun moved now)

-- If a text was judged, all that the begin leaves was read, or the text is too long.
abbrev pub ReadsToEnd : Option (List ℕ) → Option (List ℕ) → Result Plan Verdict → Type 0
ReadsToEnd begun now (Err Usage) = Unit {0}
ReadsToEnd begun now (Err Unread) = Unit {0}
ReadsToEnd begun now (Err NoMemory) = Unit {0}
ReadsToEnd begun now _ =
    IfSome begun (λ text. length text ≤ 1048576 → IfSome now (λ left. left ≡ []))

-- The effect of a call on its source: if a text was judged, the source was begun as requested and
-- read to its end; the number of bytes taken is bounded, and no call of it failed unless the text
-- can't be read.
pub record UsesSource (asked : Option Request) (source : SourceChange) (judged : Result Plan Verdict) : Type 0 where
  pub begins : Begins asked source judged
  pub takes : TakesAtMost 1048577 (option_map next_left source.later) source.left source.left_now
  pub whole : ReadsToEnd (begun_for asked source.later) source.left_now judged
  pub steady : IsSteady source.faults source.faults_now judged
