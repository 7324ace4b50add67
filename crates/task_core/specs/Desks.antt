-- What is seen of a seat, and what calls of a desk make of it.
use Rattle.std.specs.Prelude.{◌+◌, ◌-◌, ℕ, Bool, true, false, min}
use Rattle.task_core.specs.declared.answers.Copied.{Copied}
use Rattle.task_core.specs.declared.answers.Copied.TheVariants as copied
use Rattle.task_core.specs.declared.answers.Given.{Given}
use Rattle.task_core.specs.declared.answers.Given.TheVariants as given
use Rattle.task_core.specs.declared.desk.Work.{Work}
use Rattle.task_core.specs.declared.desk.Work.TheVariants as work

-- how many steps it made, how often it was told that all is over, and how many claims it has in hand
pub record Seated : Type 0 where
  pub steps : ℕ
  pub overs : ℕ
  pub claims : ℕ

-- it has made none, was told nothing and has nothing in hand
abbrev pub new_seat : Seated
new_seat = record { steps = 0; overs = 0; claims = 0 }

-- one step more
abbrev pub stepped : Seated → Seated
stepped s = record s { steps = s.steps + 1 }

-- claims are counted up to the greatest number of 64 bits
abbrev pub with_claim : Seated → Seated
with_claim s = record s { claims = min (s.claims + 1) 18446744073709551615 }

abbrev pub without_claim : Seated → Seated
without_claim s = record s { claims = s.claims - 1 }

-- ---- behind each answer

abbrev pub after_work : Work → Seated → Seated
after_work (work.Run claim) s = with_claim (stepped s)
after_work work.Over s = record s { overs = 1 }

abbrev pub after_copy : Copied → Seated → Seated
after_copy copied.More s = stepped s
after_copy (copied.Start before) s = stepped s
after_copy copied.Gone s = s

abbrev pub after_give : Given → Seated → Seated
after_give given.Taken s = without_claim (stepped s)
after_give (given.Stranger ran kept) s = s

abbrev pub after_back : Bool → Seated → Seated
after_back true s = without_claim (stepped s)
after_back false s = without_claim s
