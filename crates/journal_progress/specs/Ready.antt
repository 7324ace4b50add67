-- Which operations are ready, by what hasn't ended: all needs with which operations were issued count.
use Rattle.std.specs.Prelude.{◌≡◌, ◌<◌, ◌⊎◌, ℕ, List, Some, false, length, slice_get, true}
use Rattle.std.specs.List.{Contains}
use Rattle.region_finder.specs.Listings.{Listed}
use Rattle.region_tree.specs.Needs.{requirements_of}
use Rattle.region_tree.specs.Requirements.{Requirement, interfere}
use Rattle.region_tree.specs.declared.tree.OpNumber.{OpNumber}
use Rattle.dependence_graph.specs.Knots.{number}
use Rattle.task_code.specs.declared.job.Job.{Job}
use Rattle.run_journal.specs.declared.entry.Entry.{Entry}
use Rattle.board_terms.specs.declared.operation.Wait.{Wait}
use Rattle.board_terms.specs.declared.operation.Wait.TheVariants as wait
use Rattle.board_terms.specs.Gives.{needs_on}
use Rattle.board_terms.specs.Replays.{replay}
use Rattle.board_terms.specs.Stages.{Stage, is_good, is_over, may_be_claimed, parked, stage_at, waiting}
use Rattle.board_terms.specs.States.{State, operation_at}

-- ---- what the graph lists

-- an entry is of a child of its context that hasn't ended, and is that child's only one
pub record IsEntry (s : State) (x : Listed) : Type 0 where
  pub child : Contains (operation_at s x.context.0).children x.op
  pub caller : (operation_at s x.op.0).parent ≡ x.context
  pub unended : is_good (stage_at s x.op.0) ≡ false
  pub one : (y : Listed) → Contains s.waits.listing y → y.op ≡ x.op → y ≡ x

-- a child's caller is the one whose child it is, and was issued before it
pub record IsChildOf (s : State) (j k : ℕ) : Type 0 where
  pub caller : (operation_at s k).parent ≡ number j
  pub later : j < k
  pub issued : k < length s.operations

pub record ListsUnended (s : State) : Type 0 where
  pub entries : (x : Listed) → Contains s.waits.listing x → IsEntry s x
  pub listed : (k : ℕ) → k < length s.operations → is_good (stage_at s k) ≡ false → (k ≡ 0) ⊎ ((x : Listed) × Contains s.waits.listing x × (x.op ≡ number k))
  pub children : (j : ℕ) (c : OpNumber) → Contains (operation_at s j).children c → IsChildOf s j c.0

-- Of every job, whatever steps the seats of its board make: the graph lists those operations that haven't ended, but main,
-- and no others; and callers and children are told alike.
abbrev pub UnendedAreListed : Type 0
UnendedAreListed = (job : Job) (journal : List Entry) (s : State) → replay job journal ≡ Some s → ListsUnended s

-- ---- what an operation waits for

-- an entry is of an earlier child of the operation's caller
abbrev pub IsEarlier : State → ℕ → Listed → Type 0
IsEarlier s k y = (y.context ≡ (operation_at s k).parent) × (y.op.0 < k)

-- and one is of its own child
abbrev pub IsOwnChild : ℕ → Listed → Type 0
IsOwnChild k y = y.context ≡ number k

-- of these that haven't ended none was issued with needs that interfere with such ones
abbrev pub NoneInterferes : State → (Listed → Type 0) → List Requirement → Type 0
NoneInterferes s Among needs = (y : Listed) → Contains s.waits.listing y → Among y → interfere (requirements_of s.tree y.issued) needs ≡ false

-- each earlier child of its caller with which it interferes has ended
abbrev pub EarlierHaveEnded : State → ℕ → Type 0
EarlierHaveEnded s k = (x : Listed) → Contains s.waits.listing x → x.op ≡ number k → NoneInterferes s (IsEarlier s k) (requirements_of s.tree x.issued)

-- what it needs of a field of a root
abbrev pub part_needed : State → ℕ → ℕ → ℕ → List Requirement
part_needed s k root field = requirements_of s.tree (needs_on (operation_at s k).frame root field).items

-- the child at a place has ended; one that isn't there isn't waited for
abbrev pub ChildHasEnded : State → ℕ → ℕ → Type 0
ChildHasEnded s k n = (c : OpNumber) → slice_get (operation_at s k).children n ≡ Some c → is_good (stage_at s c.0) ≡ true

-- It is ready in these cases and in no other: it is Waiting, and each earlier child of its caller that interferes has ended; it
-- is Parked for nothing, for a part, and each child of its own that interferes with that part has ended, or for a child that
-- has ended.
abbrev pub IsReady : State → ℕ → Stage → Wait → Type 0
IsReady s k waiting w = EarlierHaveEnded s k
IsReady s k parked wait.Nothing = Unit {0}
IsReady s k parked (wait.Part root field) = NoneInterferes s (IsOwnChild k) (part_needed s k root.0 field)
IsReady s k parked (wait.Child n) = ChildHasEnded s k n
IsReady s k _ _ = ⊥

-- Of every job, too: an operation can be claimed exactly where it is ready.
abbrev pub ReadyAreClaimed : Type 0
ReadyAreClaimed = (job : Job) (journal : List Entry) (s : State) → replay job journal ≡ Some s → (k : ℕ) →
    (may_be_claimed s k ≡ true → IsReady s k (stage_at s k) (operation_at s k).wait)
    × (IsReady s k (stage_at s k) (operation_at s k).wait → may_be_claimed s k ≡ true)

-- ---- and what it doesn't wait for in vain

-- of these that have failed or were dropped none was issued with needs that interfere with such ones
abbrev pub NoneOverInterferes : State → (Listed → Type 0) → List Requirement → Type 0
NoneOverInterferes s Among needs = NoneInterferes s (λ y. Among y × (is_over (stage_at s y.op.0) ≡ true)) needs

abbrev pub WaitsForOpen : State → ℕ → Stage → Wait → Type 0
WaitsForOpen s k waiting w = (x : Listed) → Contains s.waits.listing x → x.op ≡ number k → NoneOverInterferes s (IsEarlier s k) (requirements_of s.tree x.issued)
WaitsForOpen s k parked (wait.Part root field) = NoneOverInterferes s (IsOwnChild k) (part_needed s k root.0 field)
WaitsForOpen s k parked (wait.Child n) = (c : OpNumber) → slice_get (operation_at s k).children n ≡ Some c → is_over (stage_at s c.0) ≡ true → is_good (stage_at s c.0) ≡ true
WaitsForOpen s k _ _ = Unit {0}

-- Of every job, too: nothing that is Waiting or Parked waits for one that has failed or was dropped.
abbrev pub NoneWaitForFailed : Type 0
NoneWaitForFailed = (job : Job) (journal : List Entry) (s : State) → replay job journal ≡ Some s → (k : ℕ) → WaitsForOpen s k (stage_at s k) (operation_at s k).wait
