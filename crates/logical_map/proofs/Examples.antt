-- What a few calls do to a small map, by computing.
use Rattle.std.proofs.Common.{◌≡◌, List, [], ◌∷◌, negsuc, pos, refl, false, ℕ, ℤ}
use Rattle.std.specs.Int.{int_wrap}
use Rattle.lane_kernels.specs.declared.numbers.FieldKind.TheVariants.{Int32, Int64, Pointer}
use Rattle.lane_kernels.specs.declared.numbers.Mode.TheVariants.{Read, Write, Reduce}
use Rattle.lane_kernels.specs.declared.numbers.Mode.{Mode}
use Rattle.lane_kernels.specs.declared.numbers.Op.TheVariants.{Least, Sum}
use Rattle.region_tree.specs.Pieces.{Held}
use Rattle.region_tree.specs.declared.piece.Part.{Part}
use Rattle.logical_map.specs.Fills.{moved_pieces, started}
use Rattle.logical_map.specs.Gives.{add_reduction, put_back, without_reductions}
use Rattle.logical_map.specs.Maps.{LogicalMap, closed, column_of, is_live, number_at, opened}

-- a root of three points with a field of 64 bits, one of pointers and one of 32 bits
abbrev start : LogicalMap
start = opened 5 (0 ∷ 1 ∷ 2 ∷ []) (Int64 ∷ Pointer ∷ Int32 ∷ []) []

abbrev piece : List ℕ → Mode → List ℤ → Held
piece points mode values = record { points = points; mode = mode; values = values }

abbrev part : ℕ → List Held → Part
part field pieces = record { root = record { 0 = 5 }; field = field; kind = Int64; pieces = pieces }

new_numbers : (column_of start 5 0).numbers ≡ pos 0 ∷ pos 0 ∷ pos 0 ∷ []
new_numbers = refl

new_pointer : number_at start 5 1 2 ≡ negsuc 0
new_pointer = refl

reduced : number_at (add_reduction (part 0 (piece (1 ∷ []) (Reduce Sum) (pos 4 ∷ []) ∷ [])) start) 5 0 1 ≡ pos 4
unfolding int_wrap
reduced = refl

-- pieces for reading and reductions don't go back as writes
written : (column_of (put_back (part 0 (piece (0 ∷ []) Read (pos 9 ∷ []) ∷ piece (1 ∷ 2 ∷ []) Write (pos 7 ∷ pos 8 ∷ []) ∷ piece (0 ∷ []) (Reduce Sum) (pos 1 ∷ []) ∷ [])) start) 5 0).numbers
    ≡ pos 0 ∷ pos 7 ∷ pos 8 ∷ []
written = refl

-- what is left of the part
left : (without_reductions (part 0 (piece (0 ∷ []) Read (pos 9 ∷ []) ∷ piece (1 ∷ []) (Reduce Sum) (pos 1 ∷ []) ∷ []))).pieces
    ≡ piece (0 ∷ []) Read (pos 9 ∷ []) ∷ []
left = refl

-- a sum wraps at 32 bits
wrapped : number_at (add_reduction (part 2 (piece (1 ∷ []) (Reduce Sum) (pos 1 ∷ []) ∷ []))
    (put_back (part 2 (piece (1 ∷ []) Write (pos 2147483647 ∷ []) ∷ [])) start)) 5 2 1 ≡ negsuc 2147483647
unfolding int_wrap
wrapped = refl

gone : is_live (closed 5 start) 5 ≡ false
gone = refl

-- two elements behind the first one: the last of one piece and the first of the next
moved : moved_pieces (column_of (put_back (part 0 (piece (0 ∷ 1 ∷ 2 ∷ []) Write (pos 4 ∷ pos 5 ∷ pos 6 ∷ []) ∷ [])) start) 5 0) 1 2
    (started 5 0 ((0 ∷ 1 ∷ [], Read) ∷ (1 ∷ 2 ∷ [], Reduce Least) ∷ []) start).pieces
    ≡ piece (0 ∷ 1 ∷ []) Read (pos 0 ∷ pos 5 ∷ []) ∷ piece (1 ∷ 2 ∷ []) (Reduce Least) (pos 9223372036854775807 ∷ pos 0 ∷ []) ∷ []
moved = refl
