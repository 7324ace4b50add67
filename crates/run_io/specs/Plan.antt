-- Planned faults.
use Rattle.std.specs.Prelude.{◌≡◌, ℕ, List, Result, OnErr, OnOk, Contains}
use Rattle.run_io.specs.Faults.{one_more}

-- the faults and the calls so far, and the numbers of the calls that fail
pub record Plan : Type 0 where
  pub faults : ℕ
  pub calls : ℕ
  pub fails : List ℕ

-- the number of the next call is listed
abbrev pub IsNextListed : Plan → Type 0
IsNextListed plan = Contains plan.fails (one_more plan.calls)

-- a call was counted, and a fault if and only if it failed
pub record CountsCall {T E : Type 0} (before now : Plan) (result : Result T E) : Type 0 where
  pub calls : now.calls ≡ one_more before.calls
  pub ok : OnOk result (now.faults ≡ before.faults)
  pub err : OnErr result (now.faults ≡ one_more before.faults)
  pub fails : now.fails ≡ before.fails
