-- What a segment is left with, and what is known of lists of values.
use Rattle.std.proofs.Common.{◌≡◌, ℕ, ◌<◌, ℤ, List, [], ◌∷◌, Bool, false, Option}
use Rattle.plain_values.specs.Points.{points}
use Rattle.region_tree.specs.declared.needs.Need.{Need}
use Rattle.region_tree.specs.declared.piece.Part.{Part}
use Rattle.region_tree.specs.declared.tree.RootId.{RootId}
use Rattle.task_code.specs.declared.code.TaskCode.{TaskCode}
use Rattle.machine_terms.specs.declared.outcome.After.{After}
use Rattle.machine_terms.specs.declared.outcome.CallOut.{CallOut}
use Rattle.machine_terms.specs.declared.outcome.Made.TheVariants as made_as
use Rattle.machine_terms.specs.declared.outcome.Yield.TheVariants as yield
use Rattle.machine_terms.specs.declared.value.PartitionValue.{PartitionValue}
use Rattle.machine_terms.specs.declared.value.RegionValue.{RegionValue}
use Rattle.machine_terms.specs.declared.value.Value.{Value}
use Rattle.machine_terms.specs.declared.value.Value.TheVariants as value
use Rattle.machine_terms.specs.Machine.{Machine}
use Rattle.fit_rules.specs.Shapes.{IsRegion, Is, is_anything, is_number, is_region, Are, are_more, NumberIs, Origin, region, Shape, World}
use Rattle.fit_rules.specs.Fits.{Fits, PartFits, Program, root_claims, AreClaims}
use Rattle.fit_rules.specs.Ends.{AfterFits, CallsWell, IsLeft, IsMet, IsMadeOf, rooted, with_part, with_result, with_root, with_value}

-- ---- what a segment is left with

pub after_left : (g : Program) (x : World) (t : TaskCode) (k : ℕ) (a : After) → AfterFits g x t k a → IsLeft g x t k a.ends a.frame a.parts
after_left g x t k a (parts, left) = left

pub root_met : (g : Program) (x : World) (t : TaskCode) (k n sp : ℕ) (m : Machine) → IsMet g x t k (yield.Make (made_as.Root n sp)) m →
    (i : ℕ) × ((r : RegionValue) (ns : List Need) → x.there r.root.0 ≡ false → r.points ≡ points n → AreClaims ns (root_claims g r.root.0 sp (points n)) →
    Fits g (rooted x i r.root.0 sp n) t k (with_root r ns r.root m))
root_met g x t k n sp m (small, (i, met)) = (i, met)

pub partition_met : (g : Program) (x : World) (t : TaskCode) (k : ℕ) (r : RegionValue) (sets : List (List ℕ)) (flag : Bool) (m : Machine) →
    IsMet g x t k (yield.Make (made_as.Partition r sets flag)) m → (q : PartitionValue) → IsMadeOf r.root.0 flag sets q →
    Fits g x t k (with_value (value.Partition q) m)
partition_met g x t k r sets flag m (sound, met) = met

pub want_met : (g : Program) (x : World) (t : TaskCode) (k : ℕ) (root : RootId) (f : ℕ) (m : Machine) → IsMet g x t k (yield.Want root f) m →
    (q : Part) → q.root.0 ≡ root.0 → q.field ≡ f → PartFits g x t root.0 f q → Fits g x t k (with_part q m)
want_met g x t k root f m (fit, needed, none, met) = met

pub await_low : (g : Program) (x : World) (t : TaskCode) (k i : ℕ) (m : Machine) → IsMet g x t k (yield.Await i) m → i < x.children
await_low g x t k i m (fit, low, met) = low

pub await_met : (g : Program) (x : World) (t : TaskCode) (k i : ℕ) (m : Machine) → IsMet g x t k (yield.Await i) m →
    (z : ℤ) → NumberIs (x.results i) z → Fits g x t k (with_result i z m)
await_met g x t k i m (fit, low, met) = met

pub call_met : (g : Program) (x : World) (t : TaskCode) (k : ℕ) (c : CallOut) (m : Machine) → IsMet g x t k (yield.Calls (c ∷ [])) m → CallsWell g x t c
call_met g x t k c m ((well, rest), fit) = well

-- ---- what is known of a list of values

pub first_of : (x : World) (a : Shape) (ss : List Shape) (u : Value) (vs : List Value) → Are x (a ∷ ss) (u ∷ vs) → Is x a u
first_of x a ss u vs (are_more _ _ _ _ h more) = h

pub rest_of : (x : World) (a : Shape) (ss : List Shape) (u : Value) (vs : List Value) → Are x (a ∷ ss) (u ∷ vs) → Are x ss vs
rest_of x a ss u vs (are_more _ _ _ _ h more) = more

pub region_of : (x : World) (sp : Option ℕ) (o : Origin) (r : RegionValue) → Is x (region sp o) (value.Region r) → IsRegion x sp o r
region_of x sp o _ (is_region _ _ r i) = i

pub number_of : (x : World) (s : Shape) (z : ℤ) → Is x s (value.Number z) → NumberIs s z
number_of x _ z (is_anything _) = tt
number_of x s _ (is_number _ z h) = h
