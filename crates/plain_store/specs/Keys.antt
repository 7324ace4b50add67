-- Which fields of roots are lent.
use Rattle.std.specs.Prelude.{ℕ, List, Bool, ◌==◌, ◌&&◌}
use Rattle.std.specs.List.{list_any}
use Rattle.plain_store.specs.declared.loan.Loan.{Loan}

abbrev pub is_loan_of : ℕ → ℕ → Loan → Bool
is_loan_of root field l = (l.root.0 == root) && (l.field == field)

abbrev pub is_lent : List Loan → ℕ → ℕ → Bool
is_lent ls root field = list_any (is_loan_of root field) ls
