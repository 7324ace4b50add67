use Rattle.std.proofs.Common.{◌≡◌, length, map}
use Rattle.std.specs.Prelude.{bytes_eq}
use Rattle.std.specs.Map.{lookup}
use Rattle.regent_lex.proofs.tables.looked_up.Given as goal

abbrev pub invariant-loop-table : goal.invariant-loop-table
invariant-loop-table g l =
    lookup (bytes_eq l.bytes) (map (λ row. (row.0.now, row.1)) l.table)
    ≡ lookup (bytes_eq l.bytes) (map (λ row. (row.0.now, row.1)) l.fn.table)

abbrev pub decreases-loop-table : goal.decreases-loop-table
decreases-loop-table g l = length l.table
