use Rattle.std.proofs.Common.{◌≡◌, ◌-◌, drop, length}
use Rattle.code_rules.specs.Emitted.{emitted}
use Rattle.code_rules.specs.Instructions.{signs_code}
use Rattle.compile_types.specs.Here.{where_of}
use Rattle.compile_expressions.proofs.single.all_signs.Given as goal

abbrev pub invariant-loop-after : goal.invariant-loop-after
invariant-loop-after l = record {
  count : l.count ≡ length l.signs;
  code : l.body ≡ emitted l.fn.body (signs_code (where_of l.here) l.t (drop (l.count - l.after) l.signs));
}
