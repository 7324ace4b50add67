-- What is seen of a root with two fields, by computing.
use Rattle.std.proofs.Common.{◌≡◌, ◌∷◌, [], List, pos, refl}
use Rattle.lane_kernels.specs.declared.numbers.FieldKind.TheVariants.{Int64, Pointer}
use Rattle.logical_map.specs.Maps.{number_at}
use Rattle.physical_instances.specs.Kept.{RootContents, map_of, spare_of}

abbrev example : List RootContents
example = record {
  root = 5;
  fields = record {
    column = record { points = 1 ∷ 2 ∷ []; kind = Int64; numbers = pos 8 ∷ pos 9 ∷ [] };
    spare = 3;
  } ∷ record {
    column = record { points = 1 ∷ 2 ∷ []; kind = Pointer; numbers = pos 1 ∷ pos 1 ∷ [] };
    spare = 0;
  } ∷ [];
} ∷ []

number_is_read : number_at (map_of example) 5 0 2 ≡ pos 9
number_is_read = refl

other_field_is_read : number_at (map_of example) 5 1 2 ≡ pos 1
other_field_is_read = refl

-- where nothing is, 0 is read
nothing_there : number_at (map_of example) 4 0 2 ≡ pos 0
nothing_there = refl

room_is_told : spare_of example 5 0 ≡ 3
room_is_told = refl

no_room_elsewhere : spare_of example 5 2 ≡ 0
no_room_elsewhere = refl
