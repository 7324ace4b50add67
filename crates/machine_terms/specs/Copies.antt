-- Parts that are copied out of the roots, and that go back into them.
use Rattle.std.specs.Prelude.{ℕ, ℤ, List, [], ◌∷◌, map, replicate, length}
use Rattle.lane_kernels.specs.declared.numbers.FieldKind.{FieldKind}
use Rattle.lane_kernels.specs.declared.numbers.Mode.{Mode}
use Rattle.lane_kernels.specs.declared.numbers.Mode.TheVariants as mode
use Rattle.lane_kernels.specs.Numbers.{applied, identity_of, width_of}
use Rattle.region_tree.specs.declared.piece.Part.{Part}
use Rattle.region_tree.specs.Pieces.{Held}
use Rattle.region_tree.specs.Requirements.{Requirement, part_of}
use Rattle.task_code.specs.declared.code.Code.{Code}
use Rattle.machine_terms.specs.declared.order.Contents.{Contents}
use Rattle.machine_terms.specs.Contents.{kept_at, keep, kind_of}

-- ---- out

-- what a point has in a piece: the number that is kept, or the identity of a reduction
abbrev pub piece_of : FieldKind → Contents → ℕ → ℕ → Mode → List ℕ → Held
piece_of kind contents root field (mode.Reduce o) points = record {
  points = points;
  mode = mode.Reduce o;
  values = replicate (length points) (identity_of o (width_of kind));
}
piece_of kind contents root field m points =
    record { points = points; mode = m; values = map (kept_at contents root field) points }

-- the part for a field of a root, by what is needed there
abbrev pub part_from : Code → Contents → List Requirement → ℕ → ℕ → Part
part_from code contents needs root field =
    let kind = kind_of code contents root field in record {
      root = record { 0 = root };
      field = field;
      kind = kind;
      pieces = map (λ q. piece_of kind contents root field q.1 q.0) (part_of needs root field);
    }

-- ---- back

-- a number that was written is kept, and one of a reduction is folded into what is kept
abbrev pub give_back : FieldKind → Mode → ℕ → ℕ → ℕ → ℤ → Contents → Contents
give_back kind mode.Read root field point z contents = contents
give_back kind mode.Write root field point z contents = keep contents root field point z
give_back kind (mode.Reduce o) root field point z contents = keep contents root field point
    (applied o (width_of kind) (kept_at contents root field point) z)

abbrev pub give_points : FieldKind → Mode → ℕ → ℕ → List ℕ → List ℤ → Contents → Contents
give_points kind m root field (x ∷ xs) (z ∷ zs) contents =
    give_points kind m root field xs zs (give_back kind m root field x z contents)
give_points kind m root field _ _ contents = contents

abbrev pub give_pieces : FieldKind → ℕ → ℕ → List Held → Contents → Contents
give_pieces kind root field [] contents = contents
give_pieces kind root field (h ∷ hs) contents = give_pieces kind root field hs
    (give_points kind h.mode root field h.points h.values contents)

abbrev pub give_parts : List Part → Contents → Contents
give_parts [] contents = contents
give_parts (q ∷ qs) contents =
    give_parts qs (give_pieces q.kind q.root.0 q.field q.pieces contents)
