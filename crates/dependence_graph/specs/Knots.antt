-- Operations in order of issue, with what each waits for.
use Rattle.std.specs.Prelude.{◌∷◌, ◌&&◌, Bool, List, None, Option, Some, [], cond, false, get_or, length, nat_lt, set, suc, true, ℕ}
use Rattle.std.specs.List.{list_all, list_any}
use Rattle.plain_values.specs.Points.{points}
use Rattle.region_tree.specs.declared.tree.OpNumber.{OpNumber}
use Rattle.dependence_graph.specs.Entries.{Knot}
use Rattle.dependence_graph.specs.declared.stage.Stage.{Stage}
use Rattle.dependence_graph.specs.declared.stage.Stage.TheVariants.{Waiting, Begun, Parked, Stopped, Done, Failed, Dropped}

abbrev pub number : ℕ → OpNumber
number k = record { 0 = k }

-- a number that was never issued is none of these
abbrev pub no_knot : Knot
no_knot = record { parent = number 0; on = []; stage = Dropped }

abbrev pub knot_at : List Knot → ℕ → Knot
knot_at ks k = get_or ks k no_knot

abbrev pub stage_at : List Knot → ℕ → Option Stage
stage_at ks k = cond (nat_lt k (length ks)) (Some (knot_at ks k).stage) None

-- ---- stages

-- it waits for others
abbrev pub is_idle : Stage → Bool
is_idle Waiting = true
is_idle Parked = true
is_idle _ = false

-- it has begun and hasn't finished
abbrev pub is_in_progress : Stage → Bool
is_in_progress Begun = true
is_in_progress Parked = true
is_in_progress Stopped = true
is_in_progress _ = false

abbrev pub is_done : Option Stage → Bool
is_done (Some Done) = true
is_done _ = false

abbrev pub has_failed : Option Stage → Bool
has_failed (Some Failed) = true
has_failed (Some Dropped) = true
has_failed _ = false

abbrev pub same_stage : Stage → Stage → Bool
same_stage Waiting Waiting = true
same_stage Parked Parked = true
same_stage _ _ = false

-- ---- what is waited for

-- all of these are Done
abbrev pub all_done : List Knot → List OpNumber → Bool
all_done ks ops = list_all (λ (o : OpNumber). is_done (stage_at ks o.0)) ops

-- some of these has failed or was dropped
abbrev pub some_failed : List Knot → List OpNumber → Bool
some_failed ks ops = list_any (λ (o : OpNumber). has_failed (stage_at ks o.0)) ops

-- it waits, and all that it waits for is Done
abbrev pub is_ready : List Knot → ℕ → Bool
is_ready ks k = is_idle (knot_at ks k).stage && all_done ks (knot_at ks k).on

-- those in progress, in rising order, from a number on
abbrev pub in_progress_from : ℕ → List Knot → List OpNumber
in_progress_from k [] = []
in_progress_from k (x ∷ xs) =
    cond (is_in_progress x.stage) (number k ∷ in_progress_from (suc k) xs)
    (in_progress_from (suc k) xs)

abbrev pub all_in_progress : List Knot → List OpNumber
all_in_progress ks = in_progress_from 0 ks

-- ---- what a failure does

abbrev pub with_stage : List Knot → ℕ → Stage → List Knot
with_stage ks k s =
    set ks k (record { parent = (knot_at ks k).parent; on = (knot_at ks k).on; stage = s })

-- an operation in a stage of waiting gives up where something that it waits for has failed
abbrev pub give_up : Stage → Stage → List Knot → ℕ → List Knot
give_up from to ks k =
    cond (same_stage (knot_at ks k).stage from && some_failed ks (knot_at ks k).on)
    (with_stage ks k to) ks

-- one after the other
abbrev pub give_up_each : Stage → Stage → List Knot → List ℕ → List Knot
give_up_each from to ks [] = ks
give_up_each from to ks (n ∷ ns) = give_up_each from to (give_up from to ks n) ns

-- In order of issue each Waiting operation is dropped where one of the earlier ones that it waits for has
-- failed or was dropped; then each Parked one is stopped where one of its children has.
abbrev pub given_up : List Knot → List Knot
given_up ks =
    let dropped = give_up_each Waiting Dropped ks (points (length ks)) in
    give_up_each Parked Stopped dropped (points (length ks))
