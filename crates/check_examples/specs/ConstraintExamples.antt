-- Breaches of the rule on constraints: 12.
use Rattle.std.specs.Prelude.{[], codes, ◌∷◌, ◌≡◌}
use Rattle.regent_tree.specs.Syntax.{Tree}
use Rattle.regent_tree.specs.declared.program.Clause.TheVariants.{Within}
use Rattle.regent_tree.specs.declared.program.Grant.TheVariants.{Reads, Writes}
use Rattle.regent_tree.specs.declared.types.NumberTerm.TheVariants.{Int64}
use Rattle.worked_examples.specs.Words.{access, apart, at, call, equal, field_space, get, grants, int, item, line, new_region, number, param, region, space, space_of, task, var, var_from, whole}
use Rattle.check_rules.specs.Breaches.{breaches, breaks}

-- Two children for parameters that share no point: p[0] and p[1] are apart; p[0] with itself,
-- and with p[k], isn't known to be.
--     fspace f { x : int64 }
--     task t(a : region(ispace(int1d), f), b : region(ispace(int1d), f))
--     where reads writes(a), reads writes(b), a * b do end
--     task main()
--       var r = region(ispace(int1d, 4), f)
--       var p = partition(equal, r, ispace(int1d, 2))
--       t(p[0], p[1])
--       t(p[0], p[0])
--       var k = 1
--       t(p[0], p[k])
--     end
abbrev pub overlapping_children_program : Tree
overlapping_children_program =
    item 1 (field_space "f" [] (param 1 "x" (number Int64) ∷ []))
    ∷ item 2
    (task "t"
    (param 2 "a" (region (space_of "f" [])) ∷ param 2 "b" (region (space_of "f" [])) ∷ [])
    (grants (Reads ∷ Writes ∷ []) (whole "a" ∷ [])
    ∷ grants (Reads ∷ Writes ∷ []) (whole "b" ∷ [])
    ∷ apart "a" "b" ∷ []) [])
    ∷ item 4
    (task "main" [] []
    (line 5 (var_from "r" (new_region (space (int 4)) (space_of "f" [])))
    ∷ line 6 (var_from "p" (equal "r" (space (int 2))))
    ∷ line 7 (call "t" (access "p" (at (int 0) ∷ []) ∷ access "p" (at (int 1) ∷ []) ∷ []))
    ∷ line 8 (call "t" (access "p" (at (int 0) ∷ []) ∷ access "p" (at (int 0) ∷ []) ∷ []))
    ∷ line 9 (var "k" (int 1))
    ∷ line 10 (call "t" (access "p" (at (int 0) ∷ []) ∷ access "p" (at (get "k") ∷ []) ∷ []))
    ∷ []))
    ∷ []

abbrev pub overlapping_children_breaks : Type 0
overlapping_children_breaks =
    breaches overlapping_children_program ≡ breaks 12 8 ∷ breaks 12 10 ∷ []

-- A constraint `a <= b`, the right way round and the wrong one.
--     fspace f { x : int64 }
--     task t(a : region(ispace(int1d), f), b : region(ispace(int1d), f))
--     where a <= b do end
--     task main()
--       var r = region(ispace(int1d, 4), f)
--       var p = partition(equal, r, ispace(int1d, 2))
--       t(p[0], r)
--       t(r, p[0])
--     end
abbrev pub within_the_other_program : Tree
within_the_other_program =
    item 1 (field_space "f" [] (param 1 "x" (number Int64) ∷ []))
    ∷ item 2
    (task "t"
    (param 2 "a" (region (space_of "f" [])) ∷ param 2 "b" (region (space_of "f" [])) ∷ [])
    (Within (codes "a") (codes "b") ∷ []) [])
    ∷ item 4
    (task "main" [] []
    (line 5 (var_from "r" (new_region (space (int 4)) (space_of "f" [])))
    ∷ line 6 (var_from "p" (equal "r" (space (int 2))))
    ∷ line 7 (call "t" (access "p" (at (int 0) ∷ []) ∷ get "r" ∷ []))
    ∷ line 8 (call "t" (get "r" ∷ access "p" (at (int 0) ∷ []) ∷ [])) ∷ []))
    ∷ []

abbrev pub within_the_other_breaks : Type 0
within_the_other_breaks =
    breaches within_the_other_program ≡ breaks 12 8 ∷ []
