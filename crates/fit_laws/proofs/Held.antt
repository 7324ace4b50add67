-- What stands around the stack: the world, with the slots that stay. What is known of values there stays where children are known as
-- before, and what tells of no child is known in any such world.
use Rattle.std.proofs.Common.{ℕ, ◌≤◌, List, [], Bool, Option, sym, subst}
use Rattle.std.specs.Prelude.{◌≡◌, slice_get, slice_set, Some, take}
use Rattle.std.proofs.lemmas.List.{take-set-le}
use Rattle.machine_terms.specs.declared.value.PartitionValue.{PartitionValue}
use Rattle.machine_terms.specs.declared.value.RegionValue.{RegionValue}
use Rattle.machine_terms.specs.declared.value.Value.{Value}
use Rattle.machine_terms.specs.Machine.{Machine}
use Rattle.machine_terms.specs.Pointers.{region_in}
use Rattle.fit_rules.specs.Shapes.{Are, are_more, are_none, argument, child_at, Colour, ComesFrom, held_at, holding, Is, is_anything, is_cut, is_number, is_partition, is_pending, is_region, is_space, IsChild, IsPartition, IsPlain, IsPlainOrigin, IsRegion, Origin, own_as, own_root, part, Shape, unknown, World}
use Rattle.fit_rules.specs.Marks.{around}
use Rattle.fit_rules.specs.Fits.{Program}

-- around the stack of a machine at its place
abbrev pub over : Program → World → ℕ → Machine → World
over g x k m = around x (g.marks k m.frame.pc) m.frame.slots

module _ (x : World) (us : List Value) where
  partition_held : (sp : Option ℕ) (d : Bool) (q : PartitionValue) → IsPartition x sp d q → IsPartition (holding x us) sp d q
  partition_held sp d q i = record {
    flag = i.flag;
    apart = i.apart;
    there = i.there;
    space = i.space;
    count = i.count;
    regions = λ r h. let q = (i.regions r h).1 in
        ((i.regions r h).0, record { there = q.there; space = q.space; set = q.set; points = q.points; origin = tt });
  }

  -- ---- what tells of no child

  plain_origin : (o : Origin) (r : RegionValue) → IsPlainOrigin o → ComesFrom x o r → ComesFrom (holding x us) o r
  plain_origin unknown r p c = c
  plain_origin (argument i) r p c = c
  plain_origin own_root r p c = c
  plain_origin (own_as i) r p c = c
  plain_origin (part o) r p c = (c.0, plain_origin o c.0 p c.1, c.2)
  plain_origin (child_at s d o) r p c = absurd p
  plain_origin (held_at s o) r p c = absurd p

  pub region_held : (sp : Option ℕ) (o : Origin) (r : RegionValue) → IsPlainOrigin o → IsRegion x sp o r → IsRegion (holding x us) sp o r
  region_held sp o r p i =
      record { there = i.there; space = i.space; set = i.set; points = i.points; origin = plain_origin o r p i.origin }

  pub plain_held : (s : Shape) (v : Value) → IsPlain s → Is x s v → Is (holding x us) s v
  plain_held _ _ p (is_anything v) = is_anything v
  plain_held _ _ p (is_number s z h) = is_number s z h
  plain_held _ _ p (is_space n h) = is_space n h
  plain_held _ _ p (is_region sp o r i) = is_region sp o r (region_held sp o r p i)
  plain_held _ _ p (is_partition sp d q i) = is_partition sp d q (partition_held sp d q i)
  plain_held _ _ p (is_cut sp d o q i c) = is_cut sp d o q (partition_held sp d q i)
      (record { parent = c.parent; origin = plain_origin o c.parent p c.origin; root = c.root; inside = c.inside })
  plain_held _ _ p (is_pending s i l h) = is_pending s i l h

  -- ---- what tells of children and regions that are known as before

  module _ (keeps : (s : ℕ) (c : Colour) (r : RegionValue) → IsChild x.held s c r → IsChild us s c r)
      (same : (s : ℕ) (r : RegionValue) → region_in (slice_get x.held s) ≡ Some r → region_in (slice_get us s) ≡ Some r) where
    origin_held : (o : Origin) (r : RegionValue) → ComesFrom x o r → ComesFrom (holding x us) o r
    origin_held unknown r c = c
    origin_held (argument i) r c = c
    origin_held own_root r c = c
    origin_held (own_as i) r c = c
    origin_held (part o) r c = (c.0, origin_held o c.0 c.1, c.2)
    origin_held (child_at s d o) r c = (c.0, origin_held o c.0 c.1, c.2, keeps s d r c.3)
    origin_held (held_at s o) r c = (origin_held o r c.0, same s r c.1)

    value_held : (s : Shape) (v : Value) → Is x s v → Is (holding x us) s v
    value_held _ _ (is_anything v) = is_anything v
    value_held _ _ (is_number s z h) = is_number s z h
    value_held _ _ (is_space n h) = is_space n h
    value_held _ _ (is_region sp o r i) = is_region sp o r
        (record { there = i.there; space = i.space; set = i.set; points = i.points; origin = origin_held o r i.origin })
    value_held _ _ (is_partition sp d q i) = is_partition sp d q (partition_held sp d q i)
    value_held _ _ (is_cut sp d o q i c) = is_cut sp d o q (partition_held sp d q i)
        (record { parent = c.parent; origin = origin_held o c.parent c.origin; root = c.root; inside = c.inside })
    value_held _ _ (is_pending s i l h) = is_pending s i l h

    pub are_held : (ss : List Shape) (vs : List Value) → Are x ss vs → Are (holding x us) ss vs
    are_held _ _ are_none = are_none
    are_held _ _ (are_more s v ss vs h a) = are_more s v ss vs (value_held s v h) (are_held ss vs a)

-- so where a slot is set behind those that stay
pub still_held : (x : World) (n : ℕ) (vs : List Value) (s : ℕ) (v : Value) (ss : List Shape) (st : List Value) → n ≤ s →
    Are (holding x (take n vs)) ss st → Are (holding x (take n (slice_set vs s v))) ss st
still_held x n vs s v ss st l = subst (λ us. Are (holding x us) ss st) (sym (take-set-le n vs s v l))

-- nothing is known of an empty stack
pub none_held : (x y : World) (st : List Value) → Are x [] st → Are y [] st
none_held x y _ are_none = are_none
