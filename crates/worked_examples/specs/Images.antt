-- Images and preimages.
use Rattle.std.specs.Prelude.{◌≡◌, [], ◌∷◌}
use Rattle.lane_kernels.specs.declared.numbers.Op.TheVariants.{Sum}
use Rattle.regent_tree.specs.declared.expression.Arithmetic.TheVariants.{Add, Remainder}
use Rattle.regent_tree.specs.declared.program.Grant.TheVariants.{Reads, Writes}
use Rattle.regent_tree.specs.declared.types.NumberTerm.TheVariants.{Int64, Index}
use Rattle.regent_tree.specs.declared.types.Kind.TheVariants.{Int1d}
use Rattle.regent_tree.specs.Syntax.{Tree, import_item, convert_expr}
use Rattle.regent_tree.specs.Meaning.{meaning}
use Rattle.worked_examples.specs.Words.{int, dot, at, get, access, calc, space, number, space_of, region, param, fields, grants, line, var, var_as, var_from, new_region, equal, image, preimage, set, reduce, print, call, each, item, start, field_space, task, prints, root, naturals}

-- A preimage of an equal partition with empty colours:
--     fspace f { x : int64 }
--     fspace g { to : int1d }
--     task main()
--       var s = region(ispace(int1d, 4), f)
--       var q = partition(equal, s, ispace(int1d, 8))
--       var r = region(ispace(int1d, 4), g)
--       var w = preimage(r, q, r.to)
--       for x in w[0] do regentlib.c.printf("x") end
--     end
abbrev pub preimage_of_colour_0_program : Tree
preimage_of_colour_0_program =
    item 1 (field_space "f" [] (param 1 "x" (number Int64) ∷ []))
    ∷ item 2 (field_space "g" [] (param 2 "to" (number (Index Int1d)) ∷ []))
    ∷ item 3
    (task "main" [] []
    (line 4 (var_from "s" (new_region (space (int 4)) (space_of "f" [])))
    ∷ line 5 (var_from "q" (equal "s" (space (int 8))))
    ∷ line 6 (var_from "r" (new_region (space (int 4)) (space_of "g" [])))
    ∷ line 7 (var_from "w" (preimage "r" "q" "r" "to"))
    ∷ line 8 (each "x" (access "w" (at (int 0) ∷ [])) (line 8 (print "x" []) ∷ []))
    ∷ []))
    ∷ []

abbrev pub preimage_of_colour_0_means : Type 0
preimage_of_colour_0_means =
    meaning preimage_of_colour_0_program [] 1000000 ≡ prints ""
    (root 0 4 (naturals (0 ∷ 0 ∷ 0 ∷ 0 ∷ []) ∷ [])
    ∷ root 1 4 (naturals (0 ∷ 0 ∷ 0 ∷ 0 ∷ []) ∷ [])
    ∷ [])

-- A preimage of an equal partition with empty colours:
--     fspace f { x : int64 }
--     fspace g { to : int1d }
--     task main()
--       var s = region(ispace(int1d, 4), f)
--       var q = partition(equal, s, ispace(int1d, 8))
--       var r = region(ispace(int1d, 4), g)
--       var w = preimage(r, q, r.to)
--       for x in w[1] do regentlib.c.printf("x") end
--     end
abbrev pub preimage_of_colour_1_program : Tree
preimage_of_colour_1_program =
    item 1 (field_space "f" [] (param 1 "x" (number Int64) ∷ []))
    ∷ item 2 (field_space "g" [] (param 2 "to" (number (Index Int1d)) ∷ []))
    ∷ item 3
    (task "main" [] []
    (line 4 (var_from "s" (new_region (space (int 4)) (space_of "f" [])))
    ∷ line 5 (var_from "q" (equal "s" (space (int 8))))
    ∷ line 6 (var_from "r" (new_region (space (int 4)) (space_of "g" [])))
    ∷ line 7 (var_from "w" (preimage "r" "q" "r" "to"))
    ∷ line 8 (each "x" (access "w" (at (int 1) ∷ [])) (line 8 (print "x" []) ∷ []))
    ∷ []))
    ∷ []

abbrev pub preimage_of_colour_1_means : Type 0
preimage_of_colour_1_means =
    meaning preimage_of_colour_1_program [] 1000000 ≡ prints "xxxx"
    (root 0 4 (naturals (0 ∷ 0 ∷ 0 ∷ 0 ∷ []) ∷ [])
    ∷ root 1 4 (naturals (0 ∷ 0 ∷ 0 ∷ 0 ∷ []) ∷ [])
    ∷ [])

-- An image of a field, and a task that reads through it:
--     import "regent"
--     fspace cell { v : int64, w : int64, nbr : int1d }
--     task setup(r : region(ispace(int1d), cell), n : int64)
--     where writes(r.{v, nbr}) do
--       for x in r do
--         x.v = int64(x)
--         x.nbr = (x + 1) % n
--       end
--     end
--     task step(r : region(ispace(int1d), cell), g : region(ispace(int1d), cell))
--     where reads(r.{v, nbr}, g.v), writes(r.w) do
--       for x in r do x.w = x.v + g[x.nbr].v end
--     end
--     task main()
--       var r = region(ispace(int1d, 8), cell)
--       var c = ispace(int1d, 4)
--       var p = partition(equal, r, c)
--       for k in c do setup(p[k], 8) end
--       var g = image(r, p, r.nbr)
--       for k in c do step(p[k], g[k]) end
--       var t : int64 = 0
--       for x in r do
--         regentlib.c.printf("%lld ", x.w)
--         t += x.w
--       end
--       regentlib.c.printf("%lld", t)
--     end
--     regentlib.start(main)
abbrev pub neighbours_program : Tree
neighbours_program =
    item 1 import_item
    ∷ item 2
    (field_space "cell" []
    (param 2 "v" (number Int64)
    ∷ param 2 "w" (number Int64)
    ∷ param 2 "nbr" (number (Index Int1d))
    ∷ []))
    ∷ item 3
    (task "setup" (param 3 "r" (region (space_of "cell" [])) ∷ param 3 "n" (number Int64) ∷ [])
    (grants (Writes ∷ []) (fields "r" ("v" ∷ "nbr" ∷ []) ∷ []) ∷ [])
    (line 5
    (each "x" (get "r")
    (line 6 (set "x" (dot "v" ∷ []) (convert_expr Int64 (get "x")))
    ∷ line 7
    (set "x" (dot "nbr" ∷ [])
    (calc (calc (get "x") Add (int 1)) Remainder (get "n")))
    ∷ []))
    ∷ []))
    ∷ item 10
    (task "step"
    (param 10 "r" (region (space_of "cell" []))
    ∷ param 10 "g" (region (space_of "cell" []))
    ∷ [])
    (grants (Reads ∷ []) (fields "r" ("v" ∷ "nbr" ∷ []) ∷ fields "g" ("v" ∷ []) ∷ [])
    ∷ grants (Writes ∷ []) (fields "r" ("w" ∷ []) ∷ [])
    ∷ [])
    (line 12
    (each "x" (get "r")
    (line 12
    (set "x" (dot "w" ∷ [])
    (calc (access "x" (dot "v" ∷ [])) Add
    (access "g" (at (access "x" (dot "nbr" ∷ [])) ∷ dot "v" ∷ []))))
    ∷ []))
    ∷ []))
    ∷ item 14
    (task "main" [] []
    (line 15 (var_from "r" (new_region (space (int 8)) (space_of "cell" [])))
    ∷ line 16 (var "c" (space (int 4)))
    ∷ line 17 (var_from "p" (equal "r" (get "c")))
    ∷ line 18
    (each "k" (get "c")
    (line 18 (call "setup" (access "p" (at (get "k") ∷ []) ∷ int 8 ∷ [])) ∷ []))
    ∷ line 19 (var_from "g" (image "r" "p" "r" "nbr"))
    ∷ line 20
    (each "k" (get "c")
    (line 20
    (call "step"
    (access "p" (at (get "k") ∷ []) ∷ access "g" (at (get "k") ∷ []) ∷ []))
    ∷ []))
    ∷ line 21 (var_as "t" (number Int64) (int 0))
    ∷ line 22
    (each "x" (get "r")
    (line 23 (print "%lld " (access "x" (dot "w" ∷ []) ∷ []))
    ∷ line 24 (reduce "t" [] Sum (access "x" (dot "w" ∷ [])))
    ∷ []))
    ∷ line 26 (print "%lld" (get "t" ∷ []))
    ∷ []))
    ∷ item 28 (start "main")
    ∷ []

abbrev pub neighbours_means : Type 0
neighbours_means =
    meaning neighbours_program [] 1000000 ≡ prints "1 3 5 7 9 11 13 7 56"
    (root 0 8
    (naturals (0 ∷ 1 ∷ 2 ∷ 3 ∷ 4 ∷ 5 ∷ 6 ∷ 7 ∷ [])
    ∷ naturals (1 ∷ 3 ∷ 5 ∷ 7 ∷ 9 ∷ 11 ∷ 13 ∷ 7 ∷ [])
    ∷ naturals (1 ∷ 2 ∷ 3 ∷ 4 ∷ 5 ∷ 6 ∷ 7 ∷ 0 ∷ [])
    ∷ [])
    ∷ [])
