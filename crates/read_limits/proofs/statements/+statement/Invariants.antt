use Rattle.std.proofs.Common.{◌≡◌, drop}
use Rattle.regent_tree.specs.Limits.{first_excess, parts_of_arms, parts_of_block}
use Rattle.regent_tree.specs.PlainProgram.{arms_in, block_in}
use Rattle.read_limits.proofs.statements.+statement.Given as goal

abbrev pub invariant-in_arms-loop-arm : goal.invariant-in_arms-loop-arm
invariant-in_arms-loop-arm l =
    first_excess (parts_of_arms (arms_in (drop l.arm-index l.arms))) ≡ first_excess (parts_of_arms (arms_in l.arms))

abbrev pub invariant-in_statements-loop-statement : goal.invariant-in_statements-loop-statement
invariant-in_statements-loop-statement l =
    first_excess (parts_of_block (block_in (drop l.statement-index l.body)))
    ≡ first_excess (parts_of_block (block_in l.body))
