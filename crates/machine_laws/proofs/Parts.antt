-- What a segment keeps of its parts, part by part.
use Rattle.std.proofs.Common.{◌≡◌, List, [], ◌∷◌, sym, ap, ◌∙◌, map}
use Rattle.std.specs.List.{AllZip}
use Rattle.std.specs.Prelude.{length}
use Rattle.std.proofs.lemmas.List.{length-map}
use Rattle.region_tree.specs.Pieces.{Held}
use Rattle.region_tree.specs.declared.piece.Part.{Part}
use Rattle.machine_terms.proofs.KeptParts.{bare_part, bare_piece}
use Rattle.machine_terms.specs.Segments.{stop_of}
use Rattle.machine_terms.proofs.Kept.{stop_fixed}
use Rattle.machine_laws.specs.Parts.{PieceIsKept, PartIsKept, SegmentsKeepParts}

each_kept : {A : Type 0} (bared : A → A) (R : A → A → Type 0) →
    ((old new : A) → bared new ≡ bared old → R old new) → (olds news : List A) →
    map bared news ≡ map bared olds → AllZip R olds news
each_kept bared R one [] [] e = tt
each_kept bared R one [] (n ∷ ns) e = absurd cc
each_kept bared R one (o ∷ os) [] e = absurd cc
each_kept bared R one (o ∷ os) (n ∷ ns) e = (one o n cc, each_kept bared R one os ns cc)

piece_kept : (old new : Held) → bare_piece new ≡ bare_piece old → PieceIsKept old new
piece_kept old new e = record {
  points = ap (λ (h : Held). h.points) e;
  mode = ap (λ (h : Held). h.mode) e;
  values = sym (length-map new.values _) ∙ ap (λ (h : Held). length h.values) e ∙ length-map old.values _;
}

part_kept : (old new : Part) → bare_part new ≡ bare_part old → PartIsKept old new
part_kept old new e = record {
  root = ap (λ (q : Part). q.root) e;
  field = ap (λ (q : Part). q.field) e;
  kind = ap (λ (q : Part). q.kind) e;
  pieces = each_kept bare_piece PieceIsKept piece_kept old.pieces new.pieces (ap (λ (q : Part). q.pieces) e);
}

pub segments_keep_parts : SegmentsKeepParts
segments_keep_parts b =
    each_kept bare_part PartIsKept part_kept b.parts (stop_of b).machine.parts (stop_fixed b).parts
