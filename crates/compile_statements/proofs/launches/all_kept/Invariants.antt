use Rattle.std.proofs.Common.{◌≡◌, drop}
use Rattle.regent_tree.specs.Plain.{expressions_in}
use Rattle.code_rules.specs.Emitted.{emitted}
use Rattle.code_rules.specs.Launches.{kept_code}
use Rattle.compile_types.specs.Here.{where_of}
use Rattle.compile_statements.proofs.launches.all_kept.Given as goal

abbrev pub invariant-loop-place : goal.invariant-loop-place
invariant-loop-place l =
    emitted l.body (kept_code (where_of l.here) l.variable l.place (drop l.place l.types) (expressions_in (drop l.place l.args)))
    ≡ emitted l.fn.body (kept_code (where_of l.here) l.variable 0 l.types (expressions_in l.args))
