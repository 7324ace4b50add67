use Rattle.board_tests.proofs.seats.one_seat.Given as goal

abbrev pub ghosts-by_one_seat-L-Ledger : goal.ghosts-by_one_seat-L-Ledger
ghosts-by_one_seat-L-Ledger g a = record { name = a.steps.name; parts = a.steps.parts }

abbrev pub ghosts-by_one_seat-O-Ledger : goal.ghosts-by_one_seat-O-Ledger
ghosts-by_one_seat-O-Ledger g a = record { name = a.overs.name; parts = a.overs.parts }
