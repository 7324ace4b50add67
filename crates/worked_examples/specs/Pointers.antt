-- Pointers.
use Rattle.std.specs.Prelude.{◌≡◌, pos, [], ◌∷◌}
use Rattle.lane_kernels.specs.declared.numbers.Op.TheVariants.{Sum}
use Rattle.regent_tree.specs.declared.expression.Arithmetic.TheVariants.{Add, Subtract, Multiply, Remainder}
use Rattle.regent_tree.specs.declared.outcome.FaultKind.TheVariants.{OutOfRegion, NullPointer}
use Rattle.regent_tree.specs.declared.program.Grant.TheVariants.{Reads, Writes, Reduces}
use Rattle.regent_tree.specs.declared.types.NumberTerm.TheVariants.{Int32, Int64}
use Rattle.regent_tree.specs.Syntax.{Tree, is_null_expr, null_expr, convert_expr, cast_expr}
use Rattle.regent_tree.specs.Meaning.{meaning}
use Rattle.worked_examples.specs.Words.{int, dot, at, get, access, calc, minus, space, number, ref, space_of, region, pointer, points_into, param, whole, fields, grants, apart, line, var, var_from, new_region, equal, set, reduce, print, print_by, call, when, each, item, alias, start, field_space, task, prints, faults, root, naturals, below_zero}

-- A cast that finds its point, and one that results in null:
--     fspace f { x : int64 }
--     task main()
--       var r = region(ispace(int1d, 2), f)
--       var a = dynamic_cast(int1d(f, r), 1)
--       var b = dynamic_cast(int1d(f, r), 2)
--       a.x = 6
--       if isnull(b) then regentlib.c.printf("%lld", a.x) end
--       b.x = 1
--     end
abbrev pub null_pointer_program : Tree
null_pointer_program =
    item 1 (field_space "f" [] (param 1 "x" (number Int64) ∷ []))
    ∷ item 2
    (task "main" [] []
    (line 3 (var_from "r" (new_region (space (int 2)) (space_of "f" [])))
    ∷ line 4 (var "a" (cast_expr (pointer (space_of "f" []) (ref "r" ∷ [])) (int 1)))
    ∷ line 5 (var "b" (cast_expr (pointer (space_of "f" []) (ref "r" ∷ [])) (int 2)))
    ∷ line 6 (set "a" (dot "x" ∷ []) (int 6))
    ∷ line 7
    (when (is_null_expr (get "b"))
    (line 7 (print "%lld" (access "a" (dot "x" ∷ []) ∷ [])) ∷ []))
    ∷ line 8 (set "b" (dot "x" ∷ []) (int 1))
    ∷ []))
    ∷ []

abbrev pub null_pointer_means : Type 0
null_pointer_means =
    meaning null_pointer_program [] 1000000 ≡ faults "6" NullPointer 8

-- A point that a region lacks:
--     fspace f { x : int64 }
--     task main()
--       var r = region(ispace(int1d, 2), f)
--       var a = dynamic_cast(int1d(f, r), 1)
--       var b = dynamic_cast(int1d(f, r), 2)
--       a.x = 6
--       if isnull(b) then regentlib.c.printf("%lld", a.x) end
--       r[2].x = 1
--     end
abbrev pub outside_region_program : Tree
outside_region_program =
    item 1 (field_space "f" [] (param 1 "x" (number Int64) ∷ []))
    ∷ item 2
    (task "main" [] []
    (line 3 (var_from "r" (new_region (space (int 2)) (space_of "f" [])))
    ∷ line 4 (var "a" (cast_expr (pointer (space_of "f" []) (ref "r" ∷ [])) (int 1)))
    ∷ line 5 (var "b" (cast_expr (pointer (space_of "f" []) (ref "r" ∷ [])) (int 2)))
    ∷ line 6 (set "a" (dot "x" ∷ []) (int 6))
    ∷ line 7
    (when (is_null_expr (get "b"))
    (line 7 (print "%lld" (access "a" (dot "x" ∷ []) ∷ [])) ∷ []))
    ∷ line 8 (set "r" (at (int 2) ∷ dot "x" ∷ []) (int 1))
    ∷ []))
    ∷ []

abbrev pub outside_region_means : Type 0
outside_region_means =
    meaning outside_region_program [] 1000000 ≡ faults "6" OutOfRegion 8

-- In arithmetic, two pointers become their point numbers:
--     fspace f { x : int64 }
--     task main()
--       var r = region(ispace(int1d, 4), f)
--       var a = r[3]
--       var b = r[2]
--       regentlib.c.printf("%d %d %d", int(a + b), int(a * b), int(a - b))
--     end
abbrev pub pointer_arithmetic_program : Tree
pointer_arithmetic_program =
    item 1 (field_space "f" [] (param 1 "x" (number Int64) ∷ []))
    ∷ item 2
    (task "main" [] []
    (line 3 (var_from "r" (new_region (space (int 4)) (space_of "f" [])))
    ∷ line 4 (var "a" (access "r" (at (int 3) ∷ [])))
    ∷ line 5 (var "b" (access "r" (at (int 2) ∷ [])))
    ∷ line 6
    (print "%d %d %d"
    (convert_expr Int32 (calc (get "a") Add (get "b"))
    ∷ convert_expr Int32 (calc (get "a") Multiply (get "b"))
    ∷ convert_expr Int32 (calc (get "a") Subtract (get "b"))
    ∷ []))
    ∷ []))
    ∷ []

abbrev pub pointer_arithmetic_means : Type 0
pointer_arithmetic_means =
    meaning pointer_arithmetic_program [] 1000000
    ≡ prints "5 6 1" (root 0 4 (naturals (0 ∷ 0 ∷ 0 ∷ 0 ∷ []) ∷ []) ∷ [])

-- A null pointer on the right of an arithmetic operator, after a line that prints:
--     fspace f { x : int64 }
--     task main()
--       var r = region(ispace(int1d, 4), f)
--       var n = null(int1d(f, r))
--       regentlib.c.printf("a")
--       regentlib.c.printf("%d", int(r[3] + n))
--     end
abbrev pub null_on_the_right_program : Tree
null_on_the_right_program =
    item 1 (field_space "f" [] (param 1 "x" (number Int64) ∷ []))
    ∷ item 2
    (task "main" [] []
    (line 3 (var_from "r" (new_region (space (int 4)) (space_of "f" [])))
    ∷ line 4 (var "n" (null_expr (pointer (space_of "f" []) (ref "r" ∷ []))))
    ∷ line 5 (print "a" [])
    ∷ line 6
    (print "%d"
    (convert_expr Int32 (calc (access "r" (at (int 3) ∷ [])) Add (get "n")) ∷ []))
    ∷ []))
    ∷ []

abbrev pub null_on_the_right_means : Type 0
null_on_the_right_means =
    meaning null_on_the_right_program [] 1000000 ≡ faults "a" NullPointer 6

-- A null pointer on the left is a fault before the right side is evaluated; r has no point 9:
--     fspace f { x : int64 }
--     task main()
--       var r = region(ispace(int1d, 4), f)
--       var n = null(int1d(f, r))
--       regentlib.c.printf("%d", int(n + r[9]))
--     end
abbrev pub null_on_the_left_program : Tree
null_on_the_left_program =
    item 1 (field_space "f" [] (param 1 "x" (number Int64) ∷ []))
    ∷ item 2
    (task "main" [] []
    (line 3 (var_from "r" (new_region (space (int 4)) (space_of "f" [])))
    ∷ line 4 (var "n" (null_expr (pointer (space_of "f" []) (ref "r" ∷ []))))
    ∷ line 5
    (print "%d"
    (convert_expr Int32 (calc (get "n") Add (access "r" (at (int 9) ∷ []))) ∷ []))
    ∷ []))
    ∷ []

abbrev pub null_on_the_left_means : Type 0
null_on_the_left_means =
    meaning null_on_the_left_program [] 1000000 ≡ faults "" NullPointer 5

-- The least position at which a region of a list holds a pointer:
--     fspace f { x : int64 }
--     fspace g(a : region(ispace(int1d), f), b : region(ispace(int1d), f)) {
--       to : int1d(f, a, b)
--     }
--     task main()
--       var r = region(ispace(int1d, 3), f)
--       var p = partition(equal, r, ispace(int1d, 2))
--       var s = p[1]
--       var v = region(ispace(int1d, 2), g(s, r))
--       var w = region(ispace(int1d, 1), g(r, s))
--       v[0].to = s[2]
--       v[1].to = r[0]
--       w[0].to = s[2]
--     end
abbrev pub positions_program : Tree
positions_program =
    item 1 (field_space "f" [] (param 1 "x" (number Int64) ∷ []))
    ∷ item 2
    (field_space "g"
    (param 2 "a" (region (space_of "f" [])) ∷ param 2 "b" (region (space_of "f" [])) ∷ [])
    (param 3 "to" (points_into (pointer (space_of "f" []) (ref "a" ∷ ref "b" ∷ []))) ∷ []))
    ∷ item 5
    (task "main" [] []
    (line 6 (var_from "r" (new_region (space (int 3)) (space_of "f" [])))
    ∷ line 7 (var_from "p" (equal "r" (space (int 2))))
    ∷ line 8 (var "s" (access "p" (at (int 1) ∷ [])))
    ∷ line 9
    (var_from "v" (new_region (space (int 2)) (space_of "g" (ref "s" ∷ ref "r" ∷ []))))
    ∷ line 10
    (var_from "w" (new_region (space (int 1)) (space_of "g" (ref "r" ∷ ref "s" ∷ []))))
    ∷ line 11 (set "v" (at (int 0) ∷ dot "to" ∷ []) (access "s" (at (int 2) ∷ [])))
    ∷ line 12 (set "v" (at (int 1) ∷ dot "to" ∷ []) (access "r" (at (int 0) ∷ [])))
    ∷ line 13 (set "w" (at (int 0) ∷ dot "to" ∷ []) (access "s" (at (int 2) ∷ [])))
    ∷ []))
    ∷ []

abbrev pub positions_means : Type 0
positions_means =
    meaning positions_program [] 1000000 ≡ prints ""
    (root 0 3 (naturals (0 ∷ 0 ∷ 0 ∷ []) ∷ [])
    ∷ root 1 2 (naturals (4294967298 ∷ 8589934592 ∷ []) ∷ [])
    ∷ root 1 1 (naturals (4294967298 ∷ []) ∷ [])
    ∷ [])

-- Wires between nodes, with pointers, privileges and a constraint:
--     local c = regentlib.c
--     fspace node { c : int64, q : int64 }
--     fspace wire(rn : region(ispace(int1d), node)) {
--       a : int1d(node, rn), b : int1d(node, rn), i : int64
--     }
--     task flow(rn : region(ispace(int1d), node), rw : region(ispace(int1d), wire(rn)))
--     where reads(rn.c, rw.{a, b}), writes(rw.i), rn * rw do
--       for w in rw do w.i = w.a.c - w.b.c end
--     end
--     task spread(rn : region(ispace(int1d), node), rw : region(ispace(int1d), wire(rn)))
--     where reads(rw), reduces +(rn.q) do
--       for w in rw do
--         w.a.q += -w.i
--         w.b.q += w.i
--       end
--     end
--     task main()
--       var rn = region(ispace(int1d, 4), node)
--       var rw = region(ispace(int1d, 4), wire(rn))
--       for n in rn do n.c = 10 * int64(n) end
--       for w in rw do
--         w.a = dynamic_cast(int1d(node, rn), w)
--         w.b = dynamic_cast(int1d(node, rn), (w + 1) % 4)
--       end
--       var p = partition(equal, rw, ispace(int1d, 2))
--       for k in p.colors do flow(rn, p[k]) end
--       for k in p.colors do spread(rn, p[k]) end
--       for n in rn do c.printf("%lld ", n.q) end
--     end
--     regentlib.start(main)
abbrev pub circuit_program : Tree
circuit_program =
    item 1 (alias "c")
    ∷ item 2 (field_space "node" [] (param 2 "c" (number Int64) ∷ param 2 "q" (number Int64) ∷ []))
    ∷ item 3
    (field_space "wire" (param 3 "rn" (region (space_of "node" [])) ∷ [])
    (param 4 "a" (points_into (pointer (space_of "node" []) (ref "rn" ∷ [])))
    ∷ param 4 "b" (points_into (pointer (space_of "node" []) (ref "rn" ∷ [])))
    ∷ param 4 "i" (number Int64)
    ∷ []))
    ∷ item 6
    (task "flow"
    (param 6 "rn" (region (space_of "node" []))
    ∷ param 6 "rw" (region (space_of "wire" (ref "rn" ∷ [])))
    ∷ [])
    (grants (Reads ∷ []) (fields "rn" ("c" ∷ []) ∷ fields "rw" ("a" ∷ "b" ∷ []) ∷ [])
    ∷ grants (Writes ∷ []) (fields "rw" ("i" ∷ []) ∷ [])
    ∷ apart "rn" "rw"
    ∷ [])
    (line 8
    (each "w" (get "rw")
    (line 8
    (set "w" (dot "i" ∷ [])
    (calc (access "w" (dot "a" ∷ dot "c" ∷ [])) Subtract
    (access "w" (dot "b" ∷ dot "c" ∷ []))))
    ∷ []))
    ∷ []))
    ∷ item 10
    (task "spread"
    (param 10 "rn" (region (space_of "node" []))
    ∷ param 10 "rw" (region (space_of "wire" (ref "rn" ∷ [])))
    ∷ [])
    (grants (Reads ∷ []) (whole "rw" ∷ [])
    ∷ grants (Reduces Sum ∷ []) (fields "rn" ("q" ∷ []) ∷ [])
    ∷ [])
    (line 12
    (each "w" (get "rw")
    (line 13
    (reduce "w" (dot "a" ∷ dot "q" ∷ []) Sum (minus (access "w" (dot "i" ∷ []))))
    ∷ line 14 (reduce "w" (dot "b" ∷ dot "q" ∷ []) Sum (access "w" (dot "i" ∷ [])))
    ∷ []))
    ∷ []))
    ∷ item 17
    (task "main" [] []
    (line 18 (var_from "rn" (new_region (space (int 4)) (space_of "node" [])))
    ∷ line 19 (var_from "rw" (new_region (space (int 4)) (space_of "wire" (ref "rn" ∷ []))))
    ∷ line 20
    (each "n" (get "rn")
    (line 20
    (set "n" (dot "c" ∷ []) (calc (int 10) Multiply (convert_expr Int64 (get "n"))))
    ∷ []))
    ∷ line 21
    (each "w" (get "rw")
    (line 22
    (set "w" (dot "a" ∷ [])
    (cast_expr (pointer (space_of "node" []) (ref "rn" ∷ [])) (get "w")))
    ∷ line 23
    (set "w" (dot "b" ∷ [])
    (cast_expr (pointer (space_of "node" []) (ref "rn" ∷ []))
    (calc (calc (get "w") Add (int 1)) Remainder (int 4))))
    ∷ []))
    ∷ line 25 (var_from "p" (equal "rw" (space (int 2))))
    ∷ line 26
    (each "k" (access "p" (dot "colors" ∷ []))
    (line 26 (call "flow" (get "rn" ∷ access "p" (at (get "k") ∷ []) ∷ [])) ∷ []))
    ∷ line 27
    (each "k" (access "p" (dot "colors" ∷ []))
    (line 27 (call "spread" (get "rn" ∷ access "p" (at (get "k") ∷ []) ∷ [])) ∷ []))
    ∷ line 28
    (each "n" (get "rn")
    (line 28 (print_by "c" "%lld " (access "n" (dot "q" ∷ []) ∷ [])) ∷ []))
    ∷ []))
    ∷ item 30 (start "main")
    ∷ []

abbrev pub circuit_means : Type 0
circuit_means =
    meaning circuit_program [] 1000000 ≡ prints "40 0 0 -40 "
    (root 0 4
    (naturals (0 ∷ 10 ∷ 20 ∷ 30 ∷ []) ∷ (pos 40 ∷ pos 0 ∷ pos 0 ∷ below_zero 40 ∷ []) ∷ [])
    ∷ root 1 4
    (naturals (4294967296 ∷ 4294967297 ∷ 4294967298 ∷ 4294967299 ∷ [])
    ∷ naturals (4294967297 ∷ 4294967298 ∷ 4294967299 ∷ 4294967296 ∷ [])
    ∷ (below_zero 10 ∷ below_zero 10 ∷ below_zero 10 ∷ pos 30 ∷ [])
    ∷ [])
    ∷ [])
