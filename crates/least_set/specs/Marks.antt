-- The marks of numbers and the heap that they stand in.
use Rattle.std.specs.Prelude.{◌≡◌, ◌<◌, ◌≤◌, ◌+◌, ℕ, Bool, true, false, All, List, get_or, length, map, count_by}
use Rattle.std.specs.List.{Contains}
use Rattle.std.specs.BinaryHeap.{IsHeap}
use Rattle.std.specs.Ordering.{nat_cmp}
use Rattle.std.specs.declared.cmp.Ordering.{Ordering}
use Rattle.std.specs.declared.cmp.Reverse.{Reverse}
use Rattle.least_set.specs.declared.mark.Mark.{Mark}
use Rattle.least_set.specs.declared.mark.Mark.TheVariants.{Absent, Left, Present}

abbrev pub is_present : Mark → Bool
is_present Absent = false
is_present Left = false
is_present Present = true

abbrev pub is_absent : Mark → Bool
is_absent Absent = true
is_absent Left = false
is_absent Present = false

abbrev pub mark_at : List Mark → ℕ → Mark
mark_at marks k = get_or marks k Absent

abbrev pub flags_of : List Mark → List Bool
flags_of marks = map is_present marks

-- the least number first
abbrev pub by_least : Reverse ℕ → Reverse ℕ → Ordering
by_least x y = nat_cmp y.0 x.0

-- The heap has room for the numbers that don't stand in it, and those with a mark stand in it. Others may
-- stand in it still.
pub record IsMarked (marks : List Mark) (items : List (Reverse ℕ)) (capacity : ℕ) : Type 0 where
  pub heap : IsHeap by_least items
  pub below : All (λ (x : Reverse ℕ). x.0 < length marks) items
  pub found : (k : ℕ) → is_absent (mark_at marks k) ≡ false → Contains items (record { 0 = k })
  pub room : length items + count_by is_absent marks ≤ capacity

-- the first in the heap is a member
abbrev pub IsTidy : List Mark → List (Reverse ℕ) → Type 0
IsTidy marks items =
    (x : Reverse ℕ) → 0 < length items → is_present (mark_at marks (get_or items 0 x).0) ≡ true
