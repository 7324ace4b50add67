-- How many steps a claim may still make: each copy that is left, and its give or its end.
use Rattle.std.specs.Prelude.{ℕ, suc, ◌-◌, ◌/◌, List, Option, Some, None, sum_by}
use Rattle.logical_map.specs.Fills.{Filling, elements_of}
use Rattle.board_terms.specs.declared.operation.Activity.{Activity}
use Rattle.board_terms.specs.declared.operation.Activity.TheVariants as activity
use Rattle.board_terms.specs.declared.operation.Operation.{Operation}

-- of so many elements: one for 4,096 of them, and one at least
abbrev pub copies_for : ℕ → ℕ
copies_for elements = suc ((elements - 1) / 4096)

abbrev pub copies_left : Option Filling → ℕ
copies_left None = 1
copies_left (Some f) = copies_for (elements_of f.pieces - f.moved)

abbrev pub owed_of : Activity → ℕ
owed_of (activity.Filling claim fill) = suc (copies_left fill)
owed_of (activity.Out claim before) = 1
owed_of _ = 0

abbrev pub owed_by : List Operation → ℕ
owed_by os = sum_by (λ (o : Operation). owed_of o.activity) os
