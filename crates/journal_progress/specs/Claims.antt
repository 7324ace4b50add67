-- Claims on a board: where nothing is claimed and nothing has come out yet, something can be claimed, and a claim that is
-- taken back leaves the board as it was.
use Rattle.std.specs.Prelude.{◌≡◌, ◌++◌, ◌∷◌, ℕ, zero, suc, All, Bool, List, None, Some, [], false, true}
use Rattle.dependence_graph.specs.Issues.{IsFirstReady}
use Rattle.dependence_graph.specs.Knots.{knot_at, number}
use Rattle.task_code.specs.declared.job.Job.{Job}
use Rattle.run_journal.specs.declared.entry.Entry.{Entry}
use Rattle.run_journal.specs.declared.entry.StepKind.TheVariants.{Back, Claim, Copy}
use Rattle.board_terms.specs.Outcomes.{result}
use Rattle.board_terms.specs.Replays.{replay}
use Rattle.board_terms.specs.Stages.{Stage, filling, may_be_claimed, out, stage_at}
use Rattle.board_terms.specs.States.{State, operation_at}

-- it is Filling or Out
abbrev pub has_claim : Stage → Bool
has_claim filling = true
has_claim out = true
has_claim _ = false

-- Of every job: a board that has no result, and on which no claim is Filling or Out, has a ready operation, and so a least one.
abbrev pub SomeMayBeClaimed : Type 0
SomeMayBeClaimed = (job : Job) (journal : List Entry) (s : State) → replay job journal ≡ Some s → result s ≡ None →
    ((k : ℕ) → has_claim (stage_at s k) ≡ false) → (k : ℕ) × IsFirstReady s.waits.knots k

-- ---- claims that are taken back

abbrev pub copies_by : ℕ → ℕ → ℕ → List Entry
copies_by k seat zero = []
copies_by k seat (suc n) = record { kind = Copy; op = number k; seat = seat } ∷ copies_by k seat n

-- a seat claims an operation, and so many copies are made for it
abbrev pub claimed_by : ℕ → ℕ → ℕ → List Entry
claimed_by k seat n = record { kind = Claim; op = number k; seat = seat } ∷ copies_by k seat n

-- Regions, roots, their numbers and all operations are those of before; each operation stands where it stood, and is ready
-- where it was. Each other one waits for what it waited for. One claim more was counted.
pub record IsAsBefore (k : ℕ) (s u : State) : Type 0 where
  pub tree : u.tree ≡ s.tree
  pub roots : u.roots ≡ s.roots
  pub map : u.map ≡ s.map
  pub operations : u.operations ≡ s.operations
  pub listing : u.waits.listing ≡ s.waits.listing
  pub stages : (j : ℕ) → stage_at u j ≡ stage_at s j
  pub ready : (j : ℕ) → may_be_claimed u j ≡ may_be_claimed s j
  pub others : (j : ℕ) → ¬ (j ≡ k) → knot_at u.waits.knots j ≡ knot_at s.waits.knots j
  pub turns : u.turns ≡ suc s.turns

-- Of every job: after a claim and any number of copies that are all possible, the claim can be taken back, and behind that
-- all is as it was before the claim.
abbrev pub TakenBackAsBefore : Type 0
TakenBackAsBefore = (job : Job) (journal : List Entry) (s t : State) (k seat n : ℕ) → replay job journal ≡ Some s →
    replay job (journal ++ claimed_by k seat n) ≡ Some t →
    (u : State) × (replay job (journal ++ claimed_by k seat n ++ record { kind = Back; op = number k; seat = seat } ∷ []) ≡ Some u) × IsAsBefore k s u

-- ---- and with other steps between

-- a step on another operation, or a copy
abbrev pub IsBetween : ℕ → Entry → Type 0
IsBetween k e = e.op ≡ number k → e.kind ≡ Copy

pub record IsWhereItWas (k : ℕ) (s u : State) : Type 0 where
  pub operation : operation_at u k ≡ operation_at s k
  pub stage : stage_at u k ≡ stage_at s k
  pub ready : may_be_claimed u k ≡ true

-- Of every job: whatever steps follow a claim on other operations, and whatever copies, the claim can be taken back, and
-- behind that its operation is where it was before the claim, and ready again.
abbrev pub TakenBackWhereItWas : Type 0
TakenBackWhereItWas = (job : Job) (journal between : List Entry) (s t : State) (k seat : ℕ) → replay job journal ≡ Some s → All (IsBetween k) between →
    replay job (journal ++ record { kind = Claim; op = number k; seat = seat } ∷ between) ≡ Some t →
    (u : State) × (replay job (journal ++ (record { kind = Claim; op = number k; seat = seat } ∷ between) ++ record { kind = Back; op = number k; seat = seat } ∷ []) ≡ Some u)
    × IsWhereItWas k s u
