-- What a worker makes of its seat while it works.
use Rattle.std.specs.Prelude.{◌≡◌, ◌-◌}
use Rattle.task_core.specs.Desks.{Seated}

-- it was told as much as before, and has as many claims in hand; it may have made steps
pub record IsAsBefore (before after : Seated) : Type 0 where
  pub overs : after.overs ≡ before.overs
  pub claims : after.claims ≡ before.claims

-- it was told as much as before, and has one claim less in hand
pub record IsWithoutClaim (before after : Seated) : Type 0 where
  pub overs : after.overs ≡ before.overs
  pub claims : after.claims ≡ before.claims - 1
