-- Roots and partitions that are made in a run in order.
use Rattle.std.specs.Prelude.{ℕ, zero, suc, List, [], ◌∷◌, ◌++◌, Bool, true, not, cond, length, map, ◌==◌, ◌&&◌, ◌||◌}
use Rattle.std.specs.List.{list_all}
use Rattle.plain_values.specs.Points.{points, within, meets}
use Rattle.lane_kernels.specs.declared.numbers.Mode.TheVariants.{Write}
use Rattle.region_tree.specs.declared.needs.Need.{Need}
use Rattle.region_tree.specs.Requirements.{Requirement}
use Rattle.regent_tree.specs.Store.{new_root}
use Rattle.task_code.specs.declared.code.Code.{Code}
use Rattle.machine_terms.specs.declared.frame.Frame.{Frame}
use Rattle.machine_terms.specs.declared.order.Instance.{Instance}
use Rattle.machine_terms.specs.declared.value.RegionValue.{RegionValue}
use Rattle.machine_terms.specs.declared.value.Value.{Value}
use Rattle.machine_terms.specs.declared.value.Value.TheVariants as value
use Rattle.machine_terms.specs.Contents.{kinds_of, with_root}

abbrev pub pushed : Value → Frame → Frame
pushed v f = record f { stack = v ∷ f.stack }

-- In a run in order regions have no node.
abbrev pub region_with : ℕ → List ℕ → RegionValue
region_with root xs = record { root = record { 0 = root }; node = record { 0 = 0 }; points = xs }

-- ---- roots

-- the first so many fields of a new root are needed for writing
abbrev pub root_needs : ℕ → ℕ → List Need
root_needs root zero = []
root_needs root (suc field) = root_needs root field
    ++ record { root = record { 0 = root }; node = record { 0 = 0 }; field = field; mode = Write } ∷ []

abbrev pub root_requirements : ℕ → List ℕ → ℕ → List Requirement
root_requirements root xs zero = []
root_requirements root xs (suc field) = root_requirements root xs field
    ++ record { root = root; points = xs; field = field; mode = Write } ∷ []

-- how many of its fields are needed: none where it has no points
abbrev pub fields_needed : Code → ℕ → ℕ → ℕ
fields_needed code size space = cond (size == 0) 0 (length (kinds_of code space))

abbrev pub make_root : Code → ℕ → ℕ → Instance → Instance
make_root code size space i =
    let root = i.contents.made in
    let fields = fields_needed code size space in
    record i {
      frame = record i.frame {
        stack = value.Region (region_with root (points size)) ∷ i.frame.stack;
        needs = record { items = i.frame.needs.items ++ root_needs root fields };
        own = i.frame.own ++ record { 0 = root } ∷ [];
      };
      contents = with_root (new_root space size (kinds_of code space)) i.contents;
      needs = i.needs ++ root_requirements root (points size) fields;
    }

-- ---- partitions

-- no two of these sets share a point
abbrev pub are_apart : List (List ℕ) → Bool
are_apart [] = true
are_apart (s ∷ ss) = list_all (λ t. not (meets s t)) ss && are_apart ss

-- the sets lie in the region, and are apart where they are said to be
abbrev pub is_sound : List ℕ → List (List ℕ) → Bool → Bool
is_sound parent sets disjoint =
    list_all (λ s. within s parent) sets && (not disjoint || are_apart sets)

abbrev pub make_partition : RegionValue → List (List ℕ) → Bool → Instance → Instance
make_partition r sets disjoint i = record i {
  frame = pushed (value.Partition (record {
    root = r.root;
    disjoint = disjoint;
    children = map (region_with r.root.0) sets;
  })) i.frame;
}
