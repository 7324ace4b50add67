use Rattle.std.proofs.Common.{◌≡◌, ◌-◌, drop, length, None}
use Rattle.check_rules.specs.first.FirstInExpressions.{first_of_signs}
use Rattle.check_rules.specs.types.KnownTypes.{known_type_after_signs}
use Rattle.check_expressions.proofs.expressions.prefixed.Given as goal

abbrev pub invariant-loop-after : goal.invariant-loop-after
invariant-loop-after l = record {
  count : l.count ≡ length l.signs;
  none : first_of_signs (drop (l.count - l.after) l.signs) l.fn.inner ≡ None;
  known : l.t ≡ known_type_after_signs (drop (l.count - l.after) l.signs) l.fn.inner;
}
