-- Compiled code is tidy.
use Rattle.std.specs.Prelude.{ℕ, Bool, length, ◌≤◌, ◌^◌}
use Rattle.regent_tree.specs.Syntax.{TaskTree, Tree}
use Rattle.code_rules.specs.Pieces.{Piece, lines}
use Rattle.code_rules.specs.Programs.{body_piece, task_code}
use Rattle.eager_laws.specs.Pendings.{IsTidy}
use Rattle.tidy_code.specs.Pieces.{Tidy}
use Rattle.tidy_code.specs.Results.{is_result}

-- the lines of a tidy piece are tidy code
abbrev pub PiecesAreTidy : Type 0
PiecesAreTidy = (for_results : ℕ → Bool) (p : Piece) → Tidy for_results p → length (lines p 0) ≤ 2 ^ 32 →
    IsTidy for_results (lines p 0)

-- the same holds for the code of each task of each tree
abbrev pub BodiesAreTidy : Type 0
BodiesAreTidy = (tree : Tree) (t : TaskTree) → length (lines (body_piece tree t) 0) ≤ 2 ^ 32 →
    IsTidy (is_result (length t.params)) (task_code tree t).body
