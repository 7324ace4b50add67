-- What is put at the end of nothing is the code of the piece.
use Rattle.std.proofs.Common.{◌≡◌, [], List}
use Rattle.task_code.specs.declared.code.Line.{Line}
use Rattle.code_rules.specs.Emitted.{emitted}
use Rattle.code_rules.specs.Pieces.{Piece, lines}
use Rattle.code_rules.proofs.Laid.{laid}

pub laid_from_nothing : (p : Piece) → emitted [] p ≡ lines p 0
laid_from_nothing p = laid p []
