use Rattle.std.proofs.Common.{◌≡◌, drop}
use Rattle.std.specs.Prelude.{◌++◌}
use Rattle.regent_tree.specs.Plain.{expressions_in}
use Rattle.code_rules.specs.Launches.{args_of}
use Rattle.compile_types.specs.Here.{where_of}
use Rattle.compile_statements.proofs.launches.args_of.Given as goal

abbrev pub invariant-loop-place : goal.invariant-loop-place
invariant-loop-place l = l.all ++ args_of (where_of l.here) l.variable l.place (expressions_in (drop l.place l.args))
    ≡ args_of (where_of l.here) l.variable 0 (expressions_in l.args)
