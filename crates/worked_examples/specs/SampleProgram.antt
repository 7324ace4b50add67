-- The sample program on few cells.
use Rattle.std.specs.Prelude.{◌≡◌, [], ◌∷◌, codes}
use Rattle.lane_kernels.specs.declared.numbers.Op.TheVariants.{Sum}
use Rattle.regent_tree.specs.declared.expression.Arithmetic.TheVariants.{Add, Remainder}
use Rattle.regent_tree.specs.declared.program.Grant.TheVariants.{Reads, Writes, Reduces}
use Rattle.regent_tree.specs.declared.types.NumberTerm.TheVariants.{Int64, Index}
use Rattle.regent_tree.specs.declared.types.Kind.TheVariants.{Int1d}
use Rattle.regent_tree.specs.Syntax.{Tree, import_item, convert_expr}
use Rattle.regent_tree.specs.Meaning.{meaning}
use Rattle.worked_examples.specs.Words.{int, dot, at, get, access, calc, space, number, space_of, region, param, fields, grants, line, var, var_from, new_region, equal, image, set, reduce, print, call, each, launch, count, item, start, field_space, task}

-- The sample program with 64 cells in 4 colours:
--     import "regent"
--     fspace cell { v : int64, w : int64, nbr : int1d }
--     fspace sum { s : int64 }
--     task setup(r : region(ispace(int1d), cell), n : int64)
--     where writes(r.{v, nbr}) do
--       for x in r do
--         x.v = int64(x)
--         x.nbr = (x + 1) % n
--       end
--     end
--     task step(r : region(ispace(int1d), cell), g : region(ispace(int1d), cell))
--     where reads(r.{v, nbr}, g.v), writes(r.w) do
--       for x in r do x.w = x.v + g[x.nbr].v end
--     end
--     task back(r : region(ispace(int1d), cell))
--     where reads(r.w), writes(r.v) do
--       for x in r do x.v = x.w end
--     end
--     task add(r : region(ispace(int1d), cell), t : region(ispace(int1d), sum))
--     where reads(r.v), reduces +(t.s) do
--       for x in r do t[0].s += x.v end
--     end
--     task main()
--       var r = region(ispace(int1d, 64), cell)
--       var t = region(ispace(int1d, 1), sum)
--       var c = ispace(int1d, 4)
--       var p = partition(equal, r, c)
--       __demand(__index_launch)
--       for k in c do setup(p[k], 64) end
--       var g = image(r, p, r.nbr)
--       for i = 0, 4 do
--         __demand(__index_launch)
--         for k in c do step(p[k], g[k]) end
--         __demand(__index_launch)
--         for k in c do back(p[k]) end
--       end
--       __demand(__index_launch)
--       for k in c do add(p[k], t) end
--       regentlib.c.printf("%lld cells, total %lld\n", 64, t[0].s)
--     end
--     regentlib.start(main)
abbrev pub sample_program : Tree
sample_program =
    item 1 import_item
    ∷ item 2
    (field_space "cell" []
    (param 2 "v" (number Int64)
    ∷ param 2 "w" (number Int64)
    ∷ param 2 "nbr" (number (Index Int1d))
    ∷ []))
    ∷ item 3 (field_space "sum" [] (param 3 "s" (number Int64) ∷ []))
    ∷ item 4
    (task "setup" (param 4 "r" (region (space_of "cell" [])) ∷ param 4 "n" (number Int64) ∷ [])
    (grants (Writes ∷ []) (fields "r" ("v" ∷ "nbr" ∷ []) ∷ []) ∷ [])
    (line 6
    (each "x" (get "r")
    (line 7 (set "x" (dot "v" ∷ []) (convert_expr Int64 (get "x")))
    ∷ line 8
    (set "x" (dot "nbr" ∷ [])
    (calc (calc (get "x") Add (int 1)) Remainder (get "n")))
    ∷ []))
    ∷ []))
    ∷ item 11
    (task "step"
    (param 11 "r" (region (space_of "cell" []))
    ∷ param 11 "g" (region (space_of "cell" []))
    ∷ [])
    (grants (Reads ∷ []) (fields "r" ("v" ∷ "nbr" ∷ []) ∷ fields "g" ("v" ∷ []) ∷ [])
    ∷ grants (Writes ∷ []) (fields "r" ("w" ∷ []) ∷ [])
    ∷ [])
    (line 13
    (each "x" (get "r")
    (line 13
    (set "x" (dot "w" ∷ [])
    (calc (access "x" (dot "v" ∷ [])) Add
    (access "g" (at (access "x" (dot "nbr" ∷ [])) ∷ dot "v" ∷ []))))
    ∷ []))
    ∷ []))
    ∷ item 15
    (task "back" (param 15 "r" (region (space_of "cell" [])) ∷ [])
    (grants (Reads ∷ []) (fields "r" ("w" ∷ []) ∷ [])
    ∷ grants (Writes ∷ []) (fields "r" ("v" ∷ []) ∷ [])
    ∷ [])
    (line 17
    (each "x" (get "r")
    (line 17 (set "x" (dot "v" ∷ []) (access "x" (dot "w" ∷ []))) ∷ []))
    ∷ []))
    ∷ item 19
    (task "add"
    (param 19 "r" (region (space_of "cell" []))
    ∷ param 19 "t" (region (space_of "sum" []))
    ∷ [])
    (grants (Reads ∷ []) (fields "r" ("v" ∷ []) ∷ [])
    ∷ grants (Reduces Sum ∷ []) (fields "t" ("s" ∷ []) ∷ [])
    ∷ [])
    (line 21
    (each "x" (get "r")
    (line 21 (reduce "t" (at (int 0) ∷ dot "s" ∷ []) Sum (access "x" (dot "v" ∷ [])))
    ∷ []))
    ∷ []))
    ∷ item 23
    (task "main" [] []
    (line 24 (var_from "r" (new_region (space (int 64)) (space_of "cell" [])))
    ∷ line 25 (var_from "t" (new_region (space (int 1)) (space_of "sum" [])))
    ∷ line 26 (var "c" (space (int 4)))
    ∷ line 27 (var_from "p" (equal "r" (get "c")))
    ∷ line 28
    (launch "k" (get "c")
    (line 29 (call "setup" (access "p" (at (get "k") ∷ []) ∷ int 64 ∷ [])) ∷ []))
    ∷ line 30 (var_from "g" (image "r" "p" "r" "nbr"))
    ∷ line 31
    (count "i" (int 0) (int 4)
    (line 32
    (launch "k" (get "c")
    (line 33
    (call "step"
    (access "p" (at (get "k") ∷ []) ∷ access "g" (at (get "k") ∷ []) ∷ []))
    ∷ []))
    ∷ line 34
    (launch "k" (get "c")
    (line 35 (call "back" (access "p" (at (get "k") ∷ []) ∷ [])) ∷ []))
    ∷ []))
    ∷ line 37
    (launch "k" (get "c")
    (line 38 (call "add" (access "p" (at (get "k") ∷ []) ∷ get "t" ∷ [])) ∷ []))
    ∷ line 39
    (print "%lld cells, total %lld\n"
    (int 64 ∷ access "t" (at (int 0) ∷ dot "s" ∷ []) ∷ []))
    ∷ []))
    ∷ item 41 (start "main")
    ∷ []

abbrev pub sample_means : Type 0
sample_means =
    (meaning sample_program [] 1000000).text ≡ codes "64 cells, total 32256\n"
