-- A program with pointers into children of partitions, results in expressions, and least and greatest
-- numbers in a variable.
use Rattle.std.specs.Prelude.{◌≡◌}
use Rattle.regent_tree.specs.Meaning.{meaning}
use Rattle.machine_terms.specs.Jobs.{order_run}
use Rattle.worked_examples.specs.Words.{prints, root, naturals}
use Rattle.code_laws.specs.Programs.{job_of}
use Rattle.std.specs.Prelude.{[], ◌∷◌}
use Rattle.lane_kernels.specs.declared.numbers.Op.TheVariants.{Sum, Least, Greatest}
use Rattle.regent_tree.specs.declared.expression.Arithmetic.TheVariants.{Add, Subtract, Multiply, Remainder}
use Rattle.regent_tree.specs.declared.expression.Comparison.TheVariants.{Greater}
use Rattle.regent_tree.specs.declared.program.Grant.TheVariants.{Reads}
use Rattle.regent_tree.specs.declared.types.Kind.TheVariants.{Int1d}
use Rattle.regent_tree.specs.declared.types.NumberTerm.TheVariants.{Int64, Index}
use Rattle.regent_tree.specs.Syntax.{Tree, convert_expr}
use Rattle.worked_examples.specs.Words.{int, dot, at, get, access, calc, compare, call_of, space, number, space_of, region, param, fields, grants, line, var, var_as, var_from, new_region, equal, set, reduce, print, repeat, give, each, item, field_space, task, task_giving}

--     fspace f { x : int64, n : int1d }
--     task total(r : region(ispace(int1d), f)) : int64 where reads(r.x) do
--       var t : int64 = 0
--       for y in r do t += y.x end
--       return t
--     end
--     task main()
--       var r = region(ispace(int1d, 6), f)
--       var c = ispace(int1d, 3)
--       var p = partition(equal, r, c)
--       for y in r do
--         y.x = 1 + int64(y) * 10
--         y.n = (y + 2) % 6
--       end
--       var a = p[1][2]
--       var b = a
--       regentlib.c.printf("%lld ", b.x)
--       b = p[1][3]
--       regentlib.c.printf("%lld ", b.x)
--       regentlib.c.printf("%lld ", p[2][p[0][1].n + 1].x)
--       for y in p[1] do
--         var z = y
--         regentlib.c.printf("%lld ", z.x + total(p[0]))
--       end
--       var m : int64 = 5
--       m min= 3
--       m max= total(p[2])
--       while m > 90 do m = m - 1 end
--       regentlib.c.printf("%lld", m)
--     end
abbrev pub children_program : Tree
children_program =
    item 1 (field_space "f" [] (param 1 "x" (number Int64) ∷ param 1 "n" (number (Index Int1d)) ∷ []))
    ∷ item 2
    (task_giving (number Int64) "total" (param 2 "r" (region (space_of "f" [])) ∷ [])
    (grants (Reads ∷ []) (fields "r" ("x" ∷ []) ∷ []) ∷ [])
    (line 3 (var_as "t" (number Int64) (int 0))
    ∷ line 4 (each "y" (get "r") (line 4 (reduce "t" [] Sum (access "y" (dot "x" ∷ []))) ∷ []))
    ∷ line 5 (give (get "t"))
    ∷ []))
    ∷ item 7
    (task "main" [] []
    (line 8 (var_from "r" (new_region (space (int 6)) (space_of "f" [])))
    ∷ line 9 (var "c" (space (int 3)))
    ∷ line 10 (var_from "p" (equal "r" (get "c")))
    ∷ line 11
    (each "y" (get "r")
    (line 12 (set "y" (dot "x" ∷ [])
    (calc (int 1) Add (calc (convert_expr Int64 (get "y")) Multiply (int 10))))
    ∷ line 13 (set "y" (dot "n" ∷ []) (calc (calc (get "y") Add (int 2)) Remainder (int 6)))
    ∷ []))
    ∷ line 15 (var "a" (access "p" (at (int 1) ∷ at (int 2) ∷ [])))
    ∷ line 16 (var "b" (get "a"))
    ∷ line 17 (print "%lld " (access "b" (dot "x" ∷ []) ∷ []))
    ∷ line 18 (set "b" [] (access "p" (at (int 1) ∷ at (int 3) ∷ [])))
    ∷ line 19 (print "%lld " (access "b" (dot "x" ∷ []) ∷ []))
    ∷ line 20
    (print "%lld "
    (access "p" (at (int 2)
    ∷ at (calc (access "p" (at (int 0) ∷ at (int 1) ∷ dot "n" ∷ [])) Add (int 1))
    ∷ dot "x" ∷ []) ∷ []))
    ∷ line 21
    (each "y" (access "p" (at (int 1) ∷ []))
    (line 22 (var "z" (get "y"))
    ∷ line 23
    (print "%lld "
    (calc (access "z" (dot "x" ∷ [])) Add (call_of "total" (access "p" (at (int 0) ∷ []) ∷ [])) ∷ []))
    ∷ []))
    ∷ line 25 (var_as "m" (number Int64) (int 5))
    ∷ line 26 (reduce "m" [] Least (int 3))
    ∷ line 27 (reduce "m" [] Greatest (call_of "total" (access "p" (at (int 2) ∷ []) ∷ [])))
    ∷ line 28 (repeat (compare (get "m") Greater (int 90)) (line 28 (set "m" [] (calc (get "m") Subtract (int 1))) ∷ []))
    ∷ line 29 (print "%lld" (get "m" ∷ []))
    ∷ []))
    ∷ []

abbrev pub children_mean : Type 0
children_mean = meaning children_program [] 1000 ≡ prints "21 31 41 33 43 90"
    (root 0 6 (naturals (1 ∷ 11 ∷ 21 ∷ 31 ∷ 41 ∷ 51 ∷ []) ∷ naturals (2 ∷ 3 ∷ 4 ∷ 5 ∷ 0 ∷ 1 ∷ []) ∷ []) ∷ [])

abbrev pub children_run : Type 0
children_run = order_run (job_of children_program [] 1000) ≡ prints "21 31 41 33 43 90"
    (root 0 6 (naturals (1 ∷ 11 ∷ 21 ∷ 31 ∷ 41 ∷ 51 ∷ []) ∷ naturals (2 ∷ 3 ∷ 4 ∷ 5 ∷ 0 ∷ 1 ∷ []) ∷ []) ∷ [])
