-- What a task instance sees in a field at a point: what it holds there, over what the roots hold.
use Rattle.std.specs.Prelude.{ℕ, ℤ, List, Option, Some, None}
use Rattle.lane_kernels.specs.declared.numbers.FieldKind.{FieldKind}
use Rattle.lane_kernels.specs.declared.numbers.Mode.{Mode}
use Rattle.lane_kernels.specs.declared.numbers.Mode.TheVariants as mode
use Rattle.lane_kernels.specs.Numbers.{applied, width_of}
use Rattle.region_tree.specs.declared.piece.Part.{Part}
use Rattle.machine_terms.specs.declared.order.Contents.{Contents}
use Rattle.machine_terms.specs.Contents.{kept_at}
use Rattle.machine_terms.specs.Parts.{Cell, cell_at, part_of}

-- A number that is held for reading or writing hides the kept one; one of a reduction is folded into it.
abbrev pub seen_value : FieldKind → Mode → ℤ → ℤ → ℤ
seen_value kind mode.Read old z = z
seen_value kind mode.Write old z = z
seen_value kind (mode.Reduce o) old z = applied o (width_of kind) old z

abbrev pub seen_cell : FieldKind → ℤ → Option Cell → ℤ
seen_cell kind old None = old
seen_cell kind old (Some c) = seen_value kind c.mode old c.value

abbrev pub seen_part : ℤ → ℕ → Option Part → ℤ
seen_part old p None = old
seen_part old p (Some q) = seen_cell q.kind old (cell_at q.pieces p)

-- by the root's number
abbrev pub seen : Contents → List Part → ℕ → ℕ → ℕ → ℤ
seen contents parts root field p =
    seen_part (kept_at contents root field p) p (part_of parts root field)
