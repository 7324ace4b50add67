-- Partitions.
use Rattle.std.specs.Prelude.{◌≡◌, [], ◌∷◌, false}
use Rattle.lane_kernels.specs.declared.numbers.Op.TheVariants.{Sum}
use Rattle.regent_tree.specs.declared.expression.Arithmetic.TheVariants.{Subtract}
use Rattle.regent_tree.specs.declared.outcome.FaultKind.TheVariants.{BadColor}
use Rattle.regent_tree.specs.declared.program.Grant.TheVariants.{Reads}
use Rattle.regent_tree.specs.declared.types.NumberTerm.TheVariants.{Int64}
use Rattle.regent_tree.specs.Syntax.{Tree, convert_expr}
use Rattle.regent_tree.specs.Meaning.{meaning}
use Rattle.worked_examples.specs.Words.{int, dot, at, get, access, calc, space, number, space_of, region, partition, param, whole, grants, line, var, var_from, new_region, equal, by_field, both, either, set, reduce, print, call, each, item, field_space, task, prints, faults, root, naturals}

-- The sizes of an equal partition of ten points in four colours:
--     fspace f { x : int64 }
--     task main()
--       var r = region(ispace(int1d, 10), f)
--       var p = partition(equal, r, ispace(int1d, 4))
--       for c in p.colors do
--         var n = 0
--         for x in p[c] do n += 1 end
--         regentlib.c.printf("%d ", n)
--       end
--     end
abbrev pub equal_sizes_program : Tree
equal_sizes_program =
    item 1 (field_space "f" [] (param 1 "x" (number Int64) ∷ []))
    ∷ item 2
    (task "main" [] []
    (line 3 (var_from "r" (new_region (space (int 10)) (space_of "f" [])))
    ∷ line 4 (var_from "p" (equal "r" (space (int 4))))
    ∷ line 5
    (each "c" (access "p" (dot "colors" ∷ []))
    (line 6 (var "n" (int 0))
    ∷ line 7
    (each "x" (access "p" (at (get "c") ∷ []))
    (line 7 (reduce "n" [] Sum (int 1)) ∷ []))
    ∷ line 8 (print "%d " (get "n" ∷ []))
    ∷ []))
    ∷ []))
    ∷ []

abbrev pub equal_sizes_means : Type 0
equal_sizes_means =
    meaning equal_sizes_program [] 1000000 ≡ prints "2 3 2 3 "
    (root 0 10 (naturals (0 ∷ 0 ∷ 0 ∷ 0 ∷ 0 ∷ 0 ∷ 0 ∷ 0 ∷ 0 ∷ 0 ∷ []) ∷ []) ∷ [])

-- The sizes of a partition by a field:
--     fspace f { x : int64 }
--     task main()
--       var r = region(ispace(int1d, 4), f)
--       r[1].x = 7
--       r[2].x = 1
--       var p = partition(r.x, ispace(int1d, 2))
--       for c in p.colors do
--         var n = 0
--         for x in p[c] do n += 1 end
--         regentlib.c.printf("%d ", n)
--       end
--     end
abbrev pub sizes_by_field_program : Tree
sizes_by_field_program =
    item 1 (field_space "f" [] (param 1 "x" (number Int64) ∷ []))
    ∷ item 2
    (task "main" [] []
    (line 3 (var_from "r" (new_region (space (int 4)) (space_of "f" [])))
    ∷ line 4 (set "r" (at (int 1) ∷ dot "x" ∷ []) (int 7))
    ∷ line 5 (set "r" (at (int 2) ∷ dot "x" ∷ []) (int 1))
    ∷ line 6 (var_from "p" (by_field "r" "x" (space (int 2))))
    ∷ line 7
    (each "c" (access "p" (dot "colors" ∷ []))
    (line 8 (var "n" (int 0))
    ∷ line 9
    (each "x" (access "p" (at (get "c") ∷ []))
    (line 9 (reduce "n" [] Sum (int 1)) ∷ []))
    ∷ line 10 (print "%d " (get "n" ∷ []))
    ∷ []))
    ∷ []))
    ∷ []

abbrev pub sizes_by_field_means : Type 0
sizes_by_field_means =
    meaning sizes_by_field_program [] 1000000 ≡ prints "2 1 "
    (root 0 4 (naturals (0 ∷ 7 ∷ 1 ∷ 0 ∷ []) ∷ []) ∷ [])

-- The colours of a meet, a difference and a union:
--     fspace f { x : int64 }
--     task sizes(r : region(ispace(int1d), f), p : partition(aliased, r))
--     where reads(r) do
--       for c in p.colors do
--         for x in p[c] do regentlib.c.printf("%lld", int64(x)) end
--         regentlib.c.printf(" ")
--       end
--     end
--     task main()
--       var r = region(ispace(int1d, 4), f)
--       var p = partition(equal, r, ispace(int1d, 2))
--       r[0].x = 1
--       r[1].x = 1
--       r[3].x = 1
--       var q = partition(r.x, ispace(int1d, 2))
--       var m = p & q
--       var d = p - q
--       var j = p | q
--       sizes(r, m)
--       sizes(r, d)
--       sizes(r, j)
--     end
abbrev pub set_operations_program : Tree
set_operations_program =
    item 1 (field_space "f" [] (param 1 "x" (number Int64) ∷ []))
    ∷ item 2
    (task "sizes"
    (param 2 "r" (region (space_of "f" [])) ∷ param 2 "p" (partition false "r") ∷ [])
    (grants (Reads ∷ []) (whole "r" ∷ []) ∷ [])
    (line 4
    (each "c" (access "p" (dot "colors" ∷ []))
    (line 5
    (each "x" (access "p" (at (get "c") ∷ []))
    (line 5 (print "%lld" (convert_expr Int64 (get "x") ∷ [])) ∷ []))
    ∷ line 6 (print " " [])
    ∷ []))
    ∷ []))
    ∷ item 9
    (task "main" [] []
    (line 10 (var_from "r" (new_region (space (int 4)) (space_of "f" [])))
    ∷ line 11 (var_from "p" (equal "r" (space (int 2))))
    ∷ line 12 (set "r" (at (int 0) ∷ dot "x" ∷ []) (int 1))
    ∷ line 13 (set "r" (at (int 1) ∷ dot "x" ∷ []) (int 1))
    ∷ line 14 (set "r" (at (int 3) ∷ dot "x" ∷ []) (int 1))
    ∷ line 15 (var_from "q" (by_field "r" "x" (space (int 2))))
    ∷ line 16 (var_from "m" (both "p" "q"))
    ∷ line 17 (var "d" (calc (get "p") Subtract (get "q")))
    ∷ line 18 (var_from "j" (either "p" "q"))
    ∷ line 19 (call "sizes" (get "r" ∷ get "m" ∷ []))
    ∷ line 20 (call "sizes" (get "r" ∷ get "d" ∷ []))
    ∷ line 21 (call "sizes" (get "r" ∷ get "j" ∷ []))
    ∷ []))
    ∷ []

abbrev pub set_operations_means : Type 0
set_operations_means =
    meaning set_operations_program [] 1000000 ≡ prints " 3 01 2 012 0123 "
    (root 0 4 (naturals (1 ∷ 1 ∷ 0 ∷ 1 ∷ []) ∷ []) ∷ [])

-- A number that isn't a colour:
--     fspace f { x : int64 }
--     task main()
--       var r = region(ispace(int1d, 10), f)
--       var p = partition(equal, r, ispace(int1d, 4))
--       for x in p[4] do end
--     end
abbrev pub bad_colour_program : Tree
bad_colour_program =
    item 1 (field_space "f" [] (param 1 "x" (number Int64) ∷ []))
    ∷ item 2
    (task "main" [] []
    (line 3 (var_from "r" (new_region (space (int 10)) (space_of "f" [])))
    ∷ line 4 (var_from "p" (equal "r" (space (int 4))))
    ∷ line 5 (each "x" (access "p" (at (int 4) ∷ [])) [])
    ∷ []))
    ∷ []

abbrev pub bad_colour_means : Type 0
bad_colour_means =
    meaning bad_colour_program [] 1000000 ≡ faults "" BadColor 5
