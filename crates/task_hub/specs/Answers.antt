-- What a seat is answered under a hub's lock.
use Rattle.std.specs.Prelude.{◌≡◌, ◌≢◌, ℕ, Bool, true, false, Option, Some, None}
use Rattle.board_terms.specs.declared.claim.Claim.{Claim}
use Rattle.board_terms.specs.Outcomes.{result}
use Rattle.board_terms.specs.Stages.{may_be_claimed}
use Rattle.task_core.specs.Boards.{Standing}
use Rattle.task_core.specs.Desks.{Seated, after_work}
use Rattle.task_core.specs.declared.desk.Work.{Work}
use Rattle.task_core.specs.declared.desk.Work.TheVariants as work

-- ---- boards

-- it has come to its outcome
abbrev pub HasResult : Standing → Type 0
HasResult b = result b.state ≢ None

-- nothing is ready, and it hasn't
pub record IsIdle (b : Standing) : Type 0 where
  pub unready : (k : ℕ) → may_be_claimed b.state k ≡ false
  pub unfinished : result b.state ≡ None

-- ---- answers

-- where there is a claim to run
abbrev pub IfRun : Option Work → (Claim → Type 0) → Type 0
IfRun (Some (work.Run c)) P = P c
IfRun _ P = Unit {0}

abbrev pub is_run : Option Work → Bool
is_run (Some (work.Run c)) = true
is_run _ = false

-- what they make of a seat
abbrev pub after_claim : Option Work → Seated → Seated
after_claim (Some w) s = after_work w s
after_claim None s = s
