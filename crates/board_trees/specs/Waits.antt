-- What an operation waits for in the graph, and what it waits for in the tree.
use Rattle.std.specs.Prelude.{◌≡◌, ◌==◌, ◌⊎◌, ◌&&◌, ◌||◌, ℕ, zero, suc, List, [], ◌∷◌, Bool, true, not}
use Rattle.std.specs.List.{list_all, list_any}
use Rattle.lane_kernels.specs.declared.numbers.Mode.TheVariants.{Write}
use Rattle.plain_values.specs.Points.{within}
use Rattle.region_tree.specs.Requirements.{Requirement, interfere, same_mode}
use Rattle.region_tree.specs.declared.tree.OpNumber.{OpNumber}
use Rattle.dependence_graph.specs.Entries.{Knot}
use Rattle.dependence_graph.specs.Knots.{is_done, number, stage_at}

-- a child: its number, and the needs with which it was issued
pub record Sibling : Type 0 where
  pub op : ℕ
  pub needs : List Requirement

-- ---- what needs no waiting for

-- it doesn't interfere, or a later one that interferes does so with it too, and so waits for it
abbrev pub is_spared : List Requirement → Sibling → List Sibling → Bool
is_spared Q x later =
    not (interfere x.needs Q) || list_any (λ (y : Sibling). interfere y.needs Q && interfere x.needs y.needs) later

-- a requirement writes another one's field at all of its points; and one of later siblings does
abbrev pub writes_over : Requirement → Requirement → Bool
writes_over r q = same_mode q.mode Write && (q.root == r.root) && (q.field == r.field) && within r.points q.points

abbrev pub is_written_over : List Sibling → Requirement → Bool
is_written_over later r = list_any (λ (y : Sibling). list_any (writes_over r) y.needs) later

module _ (knots : List Knot) where
  abbrev pub has_ended : ℕ → Bool
  has_ended k = is_done (stage_at knots k)

  -- each of these that interferes has ended
  abbrev pub all_clear : List Requirement → List Sibling → Bool
  all_clear Q xs = list_all (λ (x : Sibling). has_ended x.op || not (interfere x.needs Q)) xs

  -- Such needs wait for these numbers: in order for each sibling that interferes, but maybe for some that have ended, and
  -- for some that a later one waits for.
  abbrev pub WaitsFor : List Requirement → List Sibling → List OpNumber → Type 0
  WaitsFor Q [] on = on ≡ []
  WaitsFor Q (x ∷ xs) on = (((has_ended x.op || is_spared Q x xs) ≡ true) × WaitsFor Q xs on)
      ⊎ ((rest : List OpNumber) × (on ≡ number x.op ∷ rest) × (interfere x.needs Q ≡ true) × WaitsFor Q xs rest)

  -- the child at a place is waited for, or has ended; one that isn't there isn't waited for
  abbrev pub WaitsForChild : ℕ → List Sibling → List OpNumber → Type 0
  WaitsForChild c [] on = on ≡ []
  WaitsForChild zero (x ∷ xs) on = (on ≡ number x.op ∷ []) ⊎ ((on ≡ []) × (has_ended x.op ≡ true))
  WaitsForChild (suc c) (x ∷ xs) on = WaitsForChild c xs on
