use Rattle.std.proofs.Common.{◌≡◌, ◌+◌, drop}
use Rattle.std.specs.Char.{is_ascii_digit}
use Rattle.std.specs.List.{prefix_len}
use Rattle.run_journal.proofs.numbers.count_digits.Given as goal

-- all before it are digits
abbrev pub invariant-loop-place : goal.invariant-loop-place
invariant-loop-place l =
    prefix_len is_ascii_digit l.text ≡ l.place + prefix_len is_ascii_digit (drop l.place l.text)
