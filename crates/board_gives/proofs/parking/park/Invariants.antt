use Rattle.board_gives.proofs.parking.park.Given as goal

abbrev pub ghosts-park_by : goal.ghosts-park_by
ghosts-park_by a = record { name = a.blank.name; parts = a.blank.parts }
