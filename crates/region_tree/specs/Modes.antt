-- Words on the modes at a point.
use Rattle.std.specs.Prelude.{ℕ, Bool, true, false, not, ◌&&◌, ◌||◌, ◌≡◌, ◌==◌, List, [], ◌∷◌}
use Rattle.lane_kernels.specs.declared.numbers.Mode.{Mode}
use Rattle.plain_values.specs.Points.{has, within}
use Rattle.region_tree.specs.Requirements.{Requirement, is_of, modes_at, same_mode}
use Rattle.lane_kernels.specs.declared.numbers.Mode.TheVariants.{Write}
use Rattle.region_tree.specs.declared.needs.Need.{Need}

-- whether a mode is another one, or isn't
abbrev pub is_as : Mode → Bool → Mode → Bool
is_as m true n = same_mode m n
is_as m false n = not (same_mode m n)

-- whether there are modes at all
abbrev pub is_required : List Mode → Bool
is_required [] = false
is_required (m ∷ ms) = true

-- whether a need has another one's mode, if it is of that one's field
abbrev pub is_in_mode : Need → Need → Bool
is_in_mode n other =
    not ((other.root.0 == n.root.0) && (other.field == n.field)) || same_mode n.mode other.mode

-- a requirement writes all points of another one, in its field
pub record WritesAll (other r : Requirement) : Type 0 where
  pub same_field : is_of r.root r.field other ≡ true
  pub writes : other.mode ≡ Write
  pub points : within r.points other.points ≡ true

-- a requirement has all points of another one, in its field
pub record IsWider (other r : Requirement) : Type 0 where
  pub same_field : is_of r.root r.field other ≡ true
  pub points : within r.points other.points ≡ true

-- each point of a requirement is required by some of these, in its field
abbrev pub HasAllPoints : List Requirement → Requirement → Type 0
HasAllPoints rs r =
    (p : ℕ) → has r.points p ≡ true → is_required (modes_at rs r.root r.field p) ≡ true
