-- Shapes of names' slots: what is no number stands there as it is.
use Rattle.std.proofs.Common.{◌≡◌, ℕ, List, Bool, true, false, refl}
use Rattle.regent_tree.specs.declared.typing.Bound.{Bound}
use Rattle.regent_tree.specs.declared.typing.StaticType.{StaticType}
use Rattle.machine_terms.specs.declared.value.Value.{Value}
use Rattle.fit_rules.specs.Shapes.{Is, IsPlain, Shape, World, anything, awaited, cut_from, index, integer, is_anything, is_cut, is_number, is_partition, is_pending, is_region, is_space, partition, pointer, region, space, truth}
use Rattle.code_laws.specs.Pointers.{IsPointer, a_pointer_type}
use Rattle.code_laws.specs.Simple.{AreRegions, IsPartition, IsRegion, a_partition_type, a_region_type, two_regions}
use Rattle.sound_code.specs.Named.{IsNumbered, pended, slot_shape}
use Rattle.sound_code.specs.Ways.{Way, shape_in}

-- what is no number stands there as it is
pub slot_plain : (c : Bool) (s : Shape) → pended s ≡ s → slot_shape c s ≡ s
slot_plain true s e = refl
slot_plain false s e = e

pub region_plain : (way : Way) (params : ℕ) (u : StaticType) → IsRegion u → pended (shape_in way params u) ≡ shape_in way params u
region_plain way params _ (a_region_type k sp args r) = refl

pub partition_plain : (way : Way) (params : ℕ) (u : StaticType) → IsPartition u → pended (shape_in way params u) ≡ shape_in way params u
partition_plain way params _ (a_partition_type d r p) = refl

pub pointer_plain : (way : Way) (params : ℕ) (u : StaticType) → IsPointer u → pended (shape_in way params u) ≡ shape_in way params u
pointer_plain way params _ (a_pointer_type k sp args rs n) = refl

-- what is of a shape is of that of a slot, too
pub slot_is : (x : World) (c : Bool) (s : Shape) (v : Value) → Is x s v → Is x (slot_shape c s) v
slot_is x true s v h = h
slot_is x false _ _ (is_anything v) = is_anything v
slot_is x false (integer w) _ (is_number _ z p) = is_number (awaited (integer w)) z p
slot_is x false truth _ (is_number _ z p) = is_number (awaited truth) z p
slot_is x false index _ (is_number _ z p) = is_number (awaited index) z p
slot_is x false (pointer n) _ (is_number _ z p) = is_number (pointer n) z p
slot_is x false (awaited s) _ (is_number _ z p) = is_number (awaited s) z p
slot_is x false _ _ (is_space n l) = is_space n l
slot_is x false _ _ (is_region sp o r i) = is_region sp o r i
slot_is x false _ _ (is_partition sp d q i) = is_partition sp d q i
slot_is x false _ _ (is_cut sp d o q i j) = is_cut sp d o q i j
slot_is x false _ _ (is_pending s i l f) = is_pending s i l f
slot_is x false anything _ (is_number _ z p) = is_anything _
slot_is x false space _ (is_number _ z p) = absurd p
slot_is x false (region sp o) _ (is_number _ z p) = absurd p
slot_is x false (partition sp d) _ (is_number _ z p) = absurd p
slot_is x false (cut_from sp d o) _ (is_number _ z p) = absurd p

pub slot_numbered : (bs : List Bound) (c : Bool) (s : Shape) → IsNumbered bs s → IsNumbered bs (slot_shape c s)
slot_numbered bs true s h = h
slot_numbered bs false (integer w) h = tt
slot_numbered bs false truth h = tt
slot_numbered bs false index h = tt
slot_numbered bs false anything h = h
slot_numbered bs false (pointer n) h = h
slot_numbered bs false space h = h
slot_numbered bs false (region sp o) h = h
slot_numbered bs false (partition sp d) h = h
slot_numbered bs false (cut_from sp d o) h = h
slot_numbered bs false (awaited s) h = h

pub slot_bare : (c : Bool) (s : Shape) → IsPlain s → IsPlain (slot_shape c s)
slot_bare true s h = h
slot_bare false (integer w) h = tt
slot_bare false truth h = tt
slot_bare false index h = tt
slot_bare false anything h = h
slot_bare false (pointer n) h = h
slot_bare false space h = h
slot_bare false (region sp o) h = h
slot_bare false (partition sp d) h = h
slot_bare false (cut_from sp d o) h = h
slot_bare false (awaited s) h = h

pub regions_plain : (way : Way) (params : ℕ) (u p : StaticType) → AreRegions u p → pended (shape_in way params u) ≡ shape_in way params u
regions_plain way params _ _ (two_regions c d sp args brgs r q) = refl
