-- What a give answers.
use Rattle.std.specs.Prelude.{◌≡◌, ◌≢◌, Option, Some}
use Rattle.machine_terms.specs.declared.frame.Before.{Before}
use Rattle.task_core.specs.declared.answers.Given.{Given}
use Rattle.task_core.specs.declared.answers.Given.TheVariants as given
use Rattle.task_core.specs.declared.giving.Judged.{Judged}
use Rattle.task_core.specs.declared.giving.Judged.TheVariants as judged

-- A run is taken that was made of what is kept for the claim, and no other one. What is kept for a claim that isn't
-- out is nothing.
abbrev pub IsAnswer : Option Before → Before → Given → Type 0
IsAnswer kept ran given.Taken = kept ≡ Some ran
IsAnswer kept ran (given.Stranger back other) = (kept ≢ Some ran) × ((back ≡ ran) × (other ≡ kept))

abbrev pub IsJudged : Option Before → Before → Judged → Type 0
IsJudged kept ran judged.Own = kept ≡ Some ran
IsJudged kept ran (judged.Strange other) = (kept ≢ Some ran) × (other ≡ kept)

-- whether a give was taken
abbrev pub IsTaken : Given → Type 0
IsTaken given.Taken = Unit {0}
IsTaken (given.Stranger back other) = ⊥
