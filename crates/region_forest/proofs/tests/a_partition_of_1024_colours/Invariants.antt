use Rattle.region_forest.proofs.tests.a_partition_of_1024_colours.Given as goal

abbrev pub ghosts-share : goal.ghosts-share
ghosts-share g a = record { name = a.blank.name; parts = a.blank.parts }
