use Rattle.board_calls.proofs.issuing.issue.Given as goal

abbrev pub ghosts-issue_by : goal.ghosts-issue_by
ghosts-issue_by a = record { name = a.blank.name; parts = a.blank.parts }
