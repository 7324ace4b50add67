-- What a finder lists: operations with their contexts and needs, in rising order.
use Rattle.std.specs.Prelude.{◌≡◌, ◌==◌, ◌&&◌, ◌||◌, ℕ, Bool, not, cond, nat_lt, filter, map, All, List, [], ◌∷◌}
use Rattle.std.specs.List.{list_any}
use Rattle.std.specs.List.Sorted.{IsStrictlyIncreasing}
use Rattle.region_tree.specs.Needs.{IsNeed, requirements_of}
use Rattle.lane_kernels.specs.declared.numbers.Mode.TheVariants.{Write}
use Rattle.region_tree.specs.Requirements.{interfere, same_mode}
use Rattle.region_tree.specs.Trees.{RegionTree}
use Rattle.region_tree.specs.declared.needs.Need.{Need}
use Rattle.region_tree.specs.declared.tree.OpNumber.{OpNumber}
use Rattle.region_finder.specs.Forests.{Upward, way_up}

-- a need with the way up from its node
pub record PlacedNeed : Type 0 where
  pub need : Need
  pub way : List Upward

-- an operation, the operation in whose context it is, the needs with which it was added, and those of them that no later
-- operation covers
pub record Listed : Type 0 where
  pub op : OpNumber
  pub context : OpNumber
  pub issued : List Need
  pub needs : List PlacedNeed

-- ---- what is asked of a tree

-- the need's node is a region of the tree, with the need's root, and one goes up from there as it says
pub record IsPlaced (t : RegionTree) (n : PlacedNeed) : Type 0 where
  pub there : IsNeed t n.need
  pub way : n.way ≡ way_up t n.need.node.0

abbrev pub ArePlaced : RegionTree → Listed → Type 0
ArePlaced t l = All (IsPlaced t) l.needs

-- all listed needs are so
abbrev pub IsListingOf : RegionTree → List Listed → Type 0
IsListingOf t ls = All (ArePlaced t) ls

-- ---- how a listing changes

abbrev pub placed : RegionTree → Need → PlacedNeed
placed t n = record { need = n; way = way_up t n.node.0 }

abbrev pub listed : RegionTree → OpNumber → OpNumber → List Need → Listed
listed t context op needs =
    record { op = op; context = context; issued = needs; needs = map (placed t) needs }

-- in the place of its number
abbrev pub inserted : Listed → List Listed → List Listed
inserted e [] = e ∷ []
inserted e (l ∷ ls) = cond (nat_lt e.op.0 l.op.0) (e ∷ l ∷ ls) (l ∷ inserted e ls)

abbrev pub is_op : ℕ → Listed → Bool
is_op op l = l.op.0 == op

abbrev pub has_op : List Listed → ℕ → Bool
has_op ls op = list_any (is_op op) ls

-- all but the one operation
abbrev pub without : List Listed → ℕ → List Listed
without ls op = filter (λ l. not (is_op op l)) ls

-- numbers rise
abbrev pub AreRising : List OpNumber → Type 0
AreRising ops = IsStrictlyIncreasing (map (λ (o : OpNumber). o.0) ops)

abbrev pub listed_ops : List Listed → List OpNumber
listed_ops ls = map (λ (l : Listed). l.op) ls

-- ---- what interferes

abbrev pub needs_in : Listed → List Need
needs_in l = map (λ (n : PlacedNeed). n.need) l.needs

-- a listed operation is of the context, and its needs interfere with these by the points of the tree
abbrev pub interferes_in : RegionTree → ℕ → List Need → Listed → Bool
interferes_in t context needs l =
    (l.context.0 == context)
    && interfere (requirements_of t needs) (requirements_of t (needs_in l))

-- the listed operations that are so
abbrev pub earlier : RegionTree → List Listed → ℕ → List Need → List OpNumber
earlier t ls context needs = listed_ops (filter (interferes_in t context needs) ls)

-- ---- what is covered

-- a need writes a listed one's field at all of its points: its node is that one's, or stands above it
abbrev pub covers : PlacedNeed → Need → Bool
covers m n =
    same_mode n.mode Write && (n.root.0 == m.need.root.0) && (n.field == m.need.field)
    && ((n.node.0 == m.need.node.0) || list_any (λ (u : Upward). u.0.0 == n.node.0) m.way)

abbrev pub is_covered : List Need → PlacedNeed → Bool
is_covered needs m = list_any (covers m) needs

-- An operation of the context with a smaller number is listed with those needs alone that these don't cover (Legion,
-- SC 2012): whoever interferes with a covered one interferes with the operation that covers it.
abbrev pub uncovered : ℕ → ℕ → List Need → Listed → Listed
uncovered context op needs l =
    cond ((l.context.0 == context) && nat_lt l.op.0 op)
    (record l { needs = filter (λ (m : PlacedNeed). not (is_covered needs m)) l.needs }) l

abbrev pub all_uncovered : ℕ → ℕ → List Need → List Listed → List Listed
all_uncovered context op needs ls = map (uncovered context op needs) ls
