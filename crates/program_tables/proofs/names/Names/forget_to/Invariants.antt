use Rattle.std.proofs.Common.{◌≡◌, ◌-◌, ◌≤◌, length, drop, min}
use Rattle.program_tables.proofs.names.Names.forget_to.Given as goal

abbrev pub invariant-loop-self : goal.invariant-loop-self
invariant-loop-self l =
    (l.self ≡ drop (length l.initial.self - length l.self) l.initial.self) × (length l.self ≤ length l.initial.self) × (min l.len (length l.initial.self) ≤ length l.self)

abbrev pub decreases-loop-self : goal.decreases-loop-self
decreases-loop-self l = length l.self
