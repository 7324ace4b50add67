-- Operations of a board in progress don't interfere, and that is read off the table.
use Rattle.std.specs.Prelude.{◌≡◌, ◌⊎◌, ◌++◌, ℕ, All, Bool, zero, suc, List, Some, [], false, true}
use Rattle.std.specs.List.{Contains}
use Rattle.region_finder.specs.Listings.{Listed}
use Rattle.region_tree.specs.Needs.{requirements_of}
use Rattle.region_tree.specs.Requirements.{Requirement, interfere}
use Rattle.region_tree.specs.declared.needs.Need.{Need}
use Rattle.region_tree.specs.declared.tree.RootId.{RootId}
use Rattle.dependence_graph.specs.Knots.{number}
use Rattle.task_code.specs.declared.job.Job.{Job}
use Rattle.run_journal.specs.declared.entry.Entry.{Entry}
use Rattle.board_terms.specs.Claims.{requirements_at}
use Rattle.board_terms.specs.Replays.{replay}
use Rattle.board_terms.specs.Stages.{Stage, filling, is_in_progress, is_over, out, parked, stage_at, waiting}
use Rattle.board_terms.specs.States.{State, operation_at}

-- an operation's caller, and the caller's caller, so many up; main is its own caller
abbrev pub caller_up : State → ℕ → ℕ → ℕ
caller_up s zero k = k
caller_up s (suc n) k = (operation_at s (caller_up s n k)).parent.0

-- the one is the other, or an ancestor of it
abbrev pub IsAbove : State → ℕ → ℕ → Type 0
IsAbove s j k = (n : ℕ) × (caller_up s n k ≡ j)

-- Of every job, compiled or not, void or not, whatever steps the seats of its board make: the graph lists each operation
-- that isn't over, but main.
abbrev pub UnfinishedAreListed : Type 0
UnfinishedAreListed = (job : Job) (journal : List Entry) (s : State) → replay job journal ≡ Some s →
    (k : ℕ) → is_over (stage_at s k) ≡ false → (k ≡ 0) ⊎ ((x : Listed) × Contains s.waits.listing x × (x.op ≡ number k))

-- So of every job, too: two operations in progress, neither the other's ancestor, don't interfere by the needs with which
-- they were issued, all of which the graph keeps.
abbrev pub NoneInProgressInterfere : Type 0
NoneInProgressInterfere = (job : Job) (journal : List Entry) (s : State) → replay job journal ≡ Some s →
    (x y : Listed) → Contains s.waits.listing x → Contains s.waits.listing y →
    is_in_progress (stage_at s x.op.0) ≡ true → is_in_progress (stage_at s y.op.0) ≡ true →
    ¬ IsAbove s x.op.0 y.op.0 → ¬ IsAbove s y.op.0 x.op.0 →
    interfere (requirements_of s.tree x.issued) (requirements_of s.tree y.issued) ≡ false

-- a need of a root that the operation made itself
abbrev pub IsOfOwn : State → ℕ → Requirement → Type 0
IsOfOwn s k a = (r : RootId) × Contains (operation_at s k).frame.own r × (a.root ≡ r.0)

-- So it is with whatever they need, too, of roots that they made themselves, which the graph doesn't list.
abbrev pub OwnRootsAreApart : Type 0
OwnRootsAreApart = (job : Job) (journal : List Entry) (s : State) → replay job journal ≡ Some s →
    (x y : Listed) → Contains s.waits.listing x → Contains s.waits.listing y →
    is_in_progress (stage_at s x.op.0) ≡ true → is_in_progress (stage_at s y.op.0) ≡ true →
    ¬ IsAbove s x.op.0 y.op.0 → ¬ IsAbove s y.op.0 x.op.0 →
    (first second : List Requirement) → All (IsOfOwn s x.op.0) first → All (IsOfOwn s y.op.0) second →
    interfere (requirements_of s.tree x.issued ++ first) (requirements_of s.tree y.issued ++ second) ≡ false

-- ---- what an operation needs now

-- its own work hasn't ended
abbrev pub is_working : Stage → Bool
is_working waiting = true
is_working filling = true
is_working out = true
is_working parked = true
is_working _ = false

-- it was issued with these needs: main with none
abbrev pub WasIssued : State → ℕ → List Need → Type 0
WasIssued s k ns = ((k ≡ 0) × (ns ≡ [])) ⊎ ((x : Listed) × Contains s.waits.listing x × (x.op ≡ number k) × (x.issued ≡ ns))

-- it needs these, and beside them some of roots that it made itself
pub record NeedsBeside (s : State) (k : ℕ) (ns : List Need) : Type 0 where
  pub more : List Need
  pub needs : (operation_at s k).frame.needs.items ≡ ns ++ more
  pub of_own : All (λ (n : Need). Contains (operation_at s k).frame.own n.root) more

-- Of every job, whatever steps the seats of its board make: while its own work goes on, an operation needs what it was issued
-- with, and beside that what it made.
abbrev pub NeedsAreIssued : Type 0
NeedsAreIssued = (job : Job) (journal : List Entry) (s : State) → replay job journal ≡ Some s →
    (k : ℕ) (ns : List Need) → WasIssued s k ns → is_working (stage_at s k) ≡ true → NeedsBeside s k ns

-- So of two that are in progress, neither the other's ancestor, what they need now doesn't interfere.
abbrev pub CurrentNeedsAreApart : Type 0
CurrentNeedsAreApart = (job : Job) (journal : List Entry) (s : State) → replay job journal ≡ Some s →
    (j k : ℕ) → is_in_progress (stage_at s j) ≡ true → is_in_progress (stage_at s k) ≡ true → ¬ IsAbove s j k → ¬ IsAbove s k j →
    interfere (requirements_at s (operation_at s j)) (requirements_at s (operation_at s k)) ≡ false
