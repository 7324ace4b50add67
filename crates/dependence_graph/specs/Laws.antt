-- What is so of operations behind a failure.
use Rattle.std.specs.Prelude.{◌≡◌, ◌<◌, ◌⊎◌, Contains, List, false, length, true, ℕ}
use Rattle.dependence_graph.specs.Entries.{Knot}
use Rattle.dependence_graph.specs.Knots.{given_up, is_idle, knot_at, number, some_failed}
use Rattle.dependence_graph.specs.declared.stage.Stage.TheVariants.{Dropped, Parked, Stopped, Waiting}

-- what has not begun waits for earlier operations
abbrev pub WaitsForEarlier : List Knot → Type 0
WaitsForEarlier ks =
    (k j : ℕ) → (knot_at ks k).stage ≡ Waiting → Contains (knot_at ks k).on (number j) → j < k

-- nothing waits for one that has failed or was dropped
abbrev pub NoneWaitsInVain : List Knot → Type 0
NoneWaitsInVain ks =
    (k : ℕ) → is_idle (knot_at ks k).stage ≡ true → some_failed ks (knot_at ks k).on ≡ false

-- an operation gave up, as it waits for one that has failed or was dropped: it waited and is dropped, or was
-- parked and is stopped
pub record GaveUp (ks us : List Knot) (k : ℕ) : Type 0 where
  pub stages :
      (((knot_at ks k).stage ≡ Waiting) × ((knot_at us k).stage ≡ Dropped))
      ⊎ (((knot_at ks k).stage ≡ Parked) × ((knot_at us k).stage ≡ Stopped))
  pub parent : (knot_at us k).parent ≡ (knot_at ks k).parent
  pub on : (knot_at us k).on ≡ (knot_at ks k).on
  pub vain : some_failed us (knot_at us k).on ≡ true

-- a failure reaches all that wait for it, and those that wait for these; and it reaches no others
pub record ReachesAll (ks us : List Knot) : Type 0 where
  pub size : length us ≡ length ks
  pub reached : NoneWaitsInVain us
  pub others : (k : ℕ) → (knot_at us k ≡ knot_at ks k) ⊎ GaveUp ks us k

abbrev pub FailuresReachAll : Type 0
FailuresReachAll = (ks : List Knot) → WaitsForEarlier ks → ReachesAll ks (given_up ks)
