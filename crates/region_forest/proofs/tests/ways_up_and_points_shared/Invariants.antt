use Rattle.region_forest.proofs.tests.ways_up_and_points_shared.Given as goal

abbrev pub ghosts-share : goal.ghosts-share
ghosts-share g a = record { name = a.blank.name; parts = a.blank.parts }
