-- Examples: partitions.
use Rattle.std.specs.Prelude.{◌≡◌, ℕ, pos, List, [], ◌∷◌, Bool, true, false, map, length, nat_le, None}
use Rattle.lane_kernels.specs.declared.numbers.FieldKind.TheVariants.{Index}
use Rattle.lane_kernels.specs.declared.numbers.Mode.TheVariants as mode
use Rattle.region_tree.specs.declared.needs.Need.{Need}
use Rattle.region_tree.specs.declared.piece.Part.{Part}
use Rattle.regent_tree.specs.declared.outcome.FaultKind.TheVariants.{BadColor, BadSize}
use Rattle.task_code.specs.declared.instr.Instr.TheVariants as instr
use Rattle.machine_terms.specs.declared.frame.Before.{Before}
use Rattle.machine_terms.specs.declared.outcome.Made.TheVariants as made
use Rattle.machine_terms.specs.declared.outcome.Yield.TheVariants as yield
use Rattle.machine_terms.specs.declared.value.PartitionValue.{PartitionValue}
use Rattle.machine_terms.specs.declared.value.RegionValue.{RegionValue}
use Rattle.machine_terms.specs.declared.value.Value.{Value}
use Rattle.machine_terms.specs.declared.value.Value.TheVariants as value
use Rattle.machine_laws.specs.Words.{num, null, number, region_of, region, need, held, part, alone, ends, breaks, faults, gives}

-- a disjoint partition of a root
abbrev pub partition_of : ℕ → List (List ℕ) → PartitionValue
partition_of root sets =
    record { root = record { 0 = root }; disjoint = true; children = map (region_of root) sets }

abbrev pub partition : ℕ → List (List ℕ) → Value
partition root sets = value.Partition (partition_of root sets)

-- a partition of a region is made
abbrev pub makes : Before → RegionValue → List (List ℕ) → Bool → Type 0
makes b r sets disjoint = ends b (yield.Make (made.Partition r sets disjoint))

-- root 1 has the points 0, 1 and 2, and a field that may be read there
abbrev pub needs : List Need
needs = need 1 0 mode.Read ∷ []

abbrev pub parts : List Part
parts = part 1 0 Index (held (0 ∷ 1 ∷ 2 ∷ []) mode.Read (pos 5 ∷ pos 4 ∷ pos 4 ∷ []) ∷ []) ∷ []

-- ---- images and preimages

-- the image, into points of root 0, of a partition of a root by the field of some points
abbrev pub imaging : ℕ → List (List ℕ) → List ℕ → Before
imaging root sets ps = alone
    (region 0 (3 ∷ 4 ∷ 5 ∷ []) ∷ partition root sets ∷ region 1 ps ∷ []) needs parts
    (instr.Image 0 1 2 0 ∷ [])

abbrev pub image_is_made : Type 0
image_is_made = makes (imaging 1 ((0 ∷ []) ∷ (1 ∷ 2 ∷ []) ∷ []) (0 ∷ 1 ∷ 2 ∷ []))
    (region_of 0 (3 ∷ 4 ∷ 5 ∷ [])) ((5 ∷ []) ∷ (4 ∷ []) ∷ []) false

-- the partition is of another root, and it isn't within the region that is read
abbrev pub image_of_another_root_breaks : Type 0
image_of_another_root_breaks = breaks (imaging 2 ((0 ∷ []) ∷ []) (0 ∷ 1 ∷ 2 ∷ []))

abbrev pub image_past_the_region_breaks : Type 0
image_past_the_region_breaks = breaks (imaging 1 ((0 ∷ []) ∷ (1 ∷ 2 ∷ []) ∷ []) (0 ∷ 1 ∷ []))

-- the preimage, in points of a root, of a partition by the field of the points of root 1
abbrev pub preimaging : ℕ → List ℕ → List ℕ → Before
preimaging root parent ps = alone
    (region root parent ∷ partition 0 ((4 ∷ []) ∷ (5 ∷ []) ∷ []) ∷ region 1 ps ∷ []) needs parts
    (instr.Preimage 0 1 2 0 ∷ [])

abbrev pub preimage_is_made : Type 0
preimage_is_made = makes (preimaging 1 (0 ∷ 1 ∷ []) (0 ∷ 1 ∷ 2 ∷ []))
    (region_of 1 (0 ∷ 1 ∷ [])) ((1 ∷ []) ∷ (0 ∷ []) ∷ []) true

-- the parent is of another root, and it isn't within the region that is read
abbrev pub preimage_in_another_root_breaks : Type 0
preimage_in_another_root_breaks = breaks (preimaging 2 (0 ∷ 1 ∷ []) (0 ∷ 1 ∷ 2 ∷ []))

abbrev pub preimage_past_the_region_breaks : Type 0
preimage_past_the_region_breaks = breaks (preimaging 1 (0 ∷ 1 ∷ 2 ∷ []) (0 ∷ 1 ∷ []))

-- ---- by a field

-- the partition by the field of some points, into so many colours
abbrev pub by_field_of : List ℕ → ℕ → List Need → List Part → Before
by_field_of ps colours ns qs = alone (region 1 ps ∷ value.Space colours ∷ []) ns qs
    (instr.Load 1 ∷ instr.ByField 0 0 ∷ [])

abbrev pub by_field_is_made : Type 0
by_field_is_made = makes (by_field_of (0 ∷ 1 ∷ 2 ∷ []) 6 needs parts)
    (region_of 1 (0 ∷ 1 ∷ 2 ∷ []))
    ([] ∷ [] ∷ [] ∷ [] ∷ (1 ∷ 2 ∷ []) ∷ (0 ∷ []) ∷ []) true

-- too many colours come before the reads, a need before a part, and of no points nothing is read
abbrev pub by_field_tests_come_in_order : Type 0
by_field_tests_come_in_order = faults (by_field_of (0 ∷ []) 65537 [] []) BadSize 2
    × breaks (by_field_of (0 ∷ []) 1 [] [])
    × ends (by_field_of (0 ∷ []) 1 needs []) (yield.Want (record { 0 = 1 }) 0)
    × breaks (by_field_of (3 ∷ []) 1 needs parts)
    × makes (by_field_of [] 1 [] []) (region_of 1 []) ([] ∷ []) true

-- ---- colours

-- the region of a colour is pushed where there is one
abbrev pub colour_of : Value → Before
colour_of v = alone (partition 0 ((4 ∷ []) ∷ []) ∷ v ∷ region 0 (5 ∷ []) ∷ []) [] []
    (instr.Load 1 ∷ instr.Child 0 ∷ instr.Store 2 ∷ num 4 ∷ instr.At 2 ∷ instr.Point ∷ instr.ReturnValue ∷ [])

abbrev pub child_is_looked_up : Type 0
child_is_looked_up = gives (colour_of (number 0)) (pos 4)
    × faults (colour_of (number 1)) BadColor 2
    × faults (colour_of (value.Number null)) BadColor 2
    × breaks (colour_of (value.Space 1))

-- the colours of a partition, as a space
abbrev pub colours_of : Value → Before
colours_of v = alone (v ∷ []) [] [] (instr.Colors 0 ∷ instr.Return ∷ [])

abbrev pub colours_are_counted : Type 0
colours_are_counted = ends (colours_of (partition 0 ([] ∷ [] ∷ []))) (yield.End None)
    × breaks (colours_of (region 0 []))

abbrev pub too_many_colours_break : Type 0
too_many_colours_break = (p : PartitionValue) → nat_le (length p.children) 4194304 ≡ false →
    breaks (colours_of (value.Partition p))
