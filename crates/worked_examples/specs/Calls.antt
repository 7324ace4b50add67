-- Calls that share a region.
use Rattle.std.specs.Prelude.{◌≡◌, [], ◌∷◌, false}
use Rattle.lane_kernels.specs.declared.numbers.Op.TheVariants.{Sum}
use Rattle.regent_tree.specs.declared.expression.Arithmetic.TheVariants.{Subtract, Multiply, Divide}
use Rattle.regent_tree.specs.declared.outcome.FaultKind.TheVariants.{DivideByZero, BadColor}
use Rattle.regent_tree.specs.declared.program.Grant.TheVariants.{Reads, Writes, Reduces}
use Rattle.regent_tree.specs.declared.types.NumberTerm.TheVariants.{Int64}
use Rattle.regent_tree.specs.Syntax.{Tree, truth_expr, convert_expr, assert_form}
use Rattle.regent_tree.specs.Meaning.{meaning}
use Rattle.worked_examples.specs.Words.{int, dot, at, get, access, calc, space, number, space_of, region, param, whole, fields, grants, line, var, var_as, var_from, new_region, equal, either, set, reduce, print, call, each, count, item, field_space, task, prints, faults, root, naturals}

-- Two calls that write the two halves of a region:
--     fspace f { x : int64 }
--     task w(r : region(ispace(int1d), f)) where writes(r.x) do
--       for y in r do y.x = 5 end
--     end
--     task main()
--       var r = region(ispace(int1d, 4), f)
--       var p = partition(equal, r, ispace(int1d, 2))
--       w(p[0]) w(p[1])
--       var t : int64 = 0
--       for y in r do t += y.x end
--       regentlib.c.printf("%lld", t)
--     end
abbrev pub writes_by_parts_program : Tree
writes_by_parts_program =
    item 1 (field_space "f" [] (param 1 "x" (number Int64) ∷ []))
    ∷ item 2
    (task "w" (param 2 "r" (region (space_of "f" [])) ∷ [])
    (grants (Writes ∷ []) (fields "r" ("x" ∷ []) ∷ []) ∷ [])
    (line 3 (each "y" (get "r") (line 3 (set "y" (dot "x" ∷ []) (int 5)) ∷ [])) ∷ []))
    ∷ item 5
    (task "main" [] []
    (line 6 (var_from "r" (new_region (space (int 4)) (space_of "f" [])))
    ∷ line 7 (var_from "p" (equal "r" (space (int 2))))
    ∷ line 8 (call "w" (access "p" (at (int 0) ∷ []) ∷ []))
    ∷ line 8 (call "w" (access "p" (at (int 1) ∷ []) ∷ []))
    ∷ line 9 (var_as "t" (number Int64) (int 0))
    ∷ line 10
    (each "y" (get "r") (line 10 (reduce "t" [] Sum (access "y" (dot "x" ∷ []))) ∷ []))
    ∷ line 11 (print "%lld" (get "t" ∷ []))
    ∷ []))
    ∷ []

abbrev pub writes_by_parts_means : Type 0
writes_by_parts_means =
    meaning writes_by_parts_program [] 1000000 ≡ prints "20"
    (root 0 4 (naturals (5 ∷ 5 ∷ 5 ∷ 5 ∷ []) ∷ []) ∷ [])

-- A task that reads through one argument what it reduced through another:
--     fspace f { x : int64 }
--     task g(a : region(ispace(int1d), f), b : region(ispace(int1d), f))
--     where reads(a.x), reduces +(b.x) do
--       b[0].x += 5
--       regentlib.c.printf("%lld", a[0].x)
--     end
--     task main()
--       var r = region(ispace(int1d, 2), f)
--       var p = partition(equal, r, ispace(int1d, 1))
--       var q = p | p
--       g(p[0], q[0])
--     end
abbrev pub overlapping_arguments_program : Tree
overlapping_arguments_program =
    item 1 (field_space "f" [] (param 1 "x" (number Int64) ∷ []))
    ∷ item 2
    (task "g"
    (param 2 "a" (region (space_of "f" [])) ∷ param 2 "b" (region (space_of "f" [])) ∷ [])
    (grants (Reads ∷ []) (fields "a" ("x" ∷ []) ∷ [])
    ∷ grants (Reduces Sum ∷ []) (fields "b" ("x" ∷ []) ∷ [])
    ∷ [])
    (line 4 (reduce "b" (at (int 0) ∷ dot "x" ∷ []) Sum (int 5))
    ∷ line 5 (print "%lld" (access "a" (at (int 0) ∷ dot "x" ∷ []) ∷ []))
    ∷ []))
    ∷ item 7
    (task "main" [] []
    (line 8 (var_from "r" (new_region (space (int 2)) (space_of "f" [])))
    ∷ line 9 (var_from "p" (equal "r" (space (int 1))))
    ∷ line 10 (var_from "q" (either "p" "p"))
    ∷ line 11 (call "g" (access "p" (at (int 0) ∷ []) ∷ access "q" (at (int 0) ∷ []) ∷ []))
    ∷ []))
    ∷ []

abbrev pub overlapping_arguments_means : Type 0
overlapping_arguments_means =
    meaning overlapping_arguments_program [] 1000000 ≡ prints "5"
    (root 0 2 (naturals (5 ∷ 0 ∷ []) ∷ []) ∷ [])

-- A call between two uses of a region by its caller:
--     fspace f { x : int64 }
--     task ten(r : region(ispace(int1d), f)) where reads(r.x), writes(r.x) do
--       r[0].x = r[0].x * 10
--     end
--     task main()
--       var r = region(ispace(int1d, 2), f)
--       var p = partition(equal, r, ispace(int1d, 2))
--       r[0].x = 1
--       ten(p[0])
--       r[0].x += 1
--       regentlib.c.printf("%lld", r[0].x)
--     end
abbrev pub call_between_program : Tree
call_between_program =
    item 1 (field_space "f" [] (param 1 "x" (number Int64) ∷ []))
    ∷ item 2
    (task "ten" (param 2 "r" (region (space_of "f" [])) ∷ [])
    (grants (Reads ∷ []) (fields "r" ("x" ∷ []) ∷ [])
    ∷ grants (Writes ∷ []) (fields "r" ("x" ∷ []) ∷ [])
    ∷ [])
    (line 3
    (set "r" (at (int 0) ∷ dot "x" ∷ [])
    (calc (access "r" (at (int 0) ∷ dot "x" ∷ [])) Multiply (int 10)))
    ∷ []))
    ∷ item 5
    (task "main" [] []
    (line 6 (var_from "r" (new_region (space (int 2)) (space_of "f" [])))
    ∷ line 7 (var_from "p" (equal "r" (space (int 2))))
    ∷ line 8 (set "r" (at (int 0) ∷ dot "x" ∷ []) (int 1))
    ∷ line 9 (call "ten" (access "p" (at (int 0) ∷ []) ∷ []))
    ∷ line 10 (reduce "r" (at (int 0) ∷ dot "x" ∷ []) Sum (int 1))
    ∷ line 11 (print "%lld" (access "r" (at (int 0) ∷ dot "x" ∷ []) ∷ []))
    ∷ []))
    ∷ []

abbrev pub call_between_means : Type 0
call_between_means =
    meaning call_between_program [] 1000000 ≡ prints "11"
    (root 0 2 (naturals (11 ∷ 0 ∷ []) ∷ []) ∷ [])

-- A fault at one colour, after the calls before it:
--     fspace f { x : int64 }
--     task t(r : region(ispace(int1d), f), k : int64) where reads(r) do
--       regentlib.c.printf("%lld", k)
--     end
--     task main()
--       var r = region(ispace(int1d, 4), f)
--       var p = partition(equal, r, ispace(int1d, 2))
--       var c = ispace(int1d, 3)
--       for k in c do t(p[k], int64(k)) end
--     end
abbrev pub fault_in_loop_program : Tree
fault_in_loop_program =
    item 1 (field_space "f" [] (param 1 "x" (number Int64) ∷ []))
    ∷ item 2
    (task "t" (param 2 "r" (region (space_of "f" [])) ∷ param 2 "k" (number Int64) ∷ [])
    (grants (Reads ∷ []) (whole "r" ∷ []) ∷ [])
    (line 3 (print "%lld" (get "k" ∷ [])) ∷ []))
    ∷ item 5
    (task "main" [] []
    (line 6 (var_from "r" (new_region (space (int 4)) (space_of "f" [])))
    ∷ line 7 (var_from "p" (equal "r" (space (int 2))))
    ∷ line 8 (var "c" (space (int 3)))
    ∷ line 9
    (each "k" (get "c")
    (line 9
    (call "t" (access "p" (at (get "k") ∷ []) ∷ convert_expr Int64 (get "k") ∷ []))
    ∷ []))
    ∷ []))
    ∷ []

abbrev pub fault_in_loop_means : Type 0
fault_in_loop_means =
    meaning fault_in_loop_program [] 1000000 ≡ faults "01" BadColor 9

-- The first fault in the order of the text is the outcome:
--     fspace f { x : int64 }
--     task a(r : region(ispace(int1d), f))
--     where reads writes(r) do
--       regentlib.c.printf("a")
--       for i = 0, 1000 do r[0].x += 1 end
--       r[0].x = 1 / (r[0].x - 1000)
--     end
--     task b(r : region(ispace(int1d), f)) where reads writes(r) do
--       regentlib.c.printf("b")
--       regentlib.assert(false, "b")
--     end
--     task main()
--       var r = region(ispace(int1d, 2), f)
--       var p = partition(equal, r, ispace(int1d, 2))
--       a(p[0]) b(p[1])
--     end
abbrev pub first_fault_program : Tree
first_fault_program =
    item 1 (field_space "f" [] (param 1 "x" (number Int64) ∷ []))
    ∷ item 2
    (task "a" (param 2 "r" (region (space_of "f" [])) ∷ [])
    (grants (Reads ∷ Writes ∷ []) (whole "r" ∷ []) ∷ [])
    (line 4 (print "a" [])
    ∷ line 5
    (count "i" (int 0) (int 1000)
    (line 5 (reduce "r" (at (int 0) ∷ dot "x" ∷ []) Sum (int 1)) ∷ []))
    ∷ line 6
    (set "r" (at (int 0) ∷ dot "x" ∷ [])
    (calc (int 1) Divide
    (calc (access "r" (at (int 0) ∷ dot "x" ∷ [])) Subtract (int 1000))))
    ∷ []))
    ∷ item 8
    (task "b" (param 8 "r" (region (space_of "f" [])) ∷ [])
    (grants (Reads ∷ Writes ∷ []) (whole "r" ∷ []) ∷ [])
    (line 9 (print "b" []) ∷ line 10 (assert_form (truth_expr false)) ∷ []))
    ∷ item 12
    (task "main" [] []
    (line 13 (var_from "r" (new_region (space (int 2)) (space_of "f" [])))
    ∷ line 14 (var_from "p" (equal "r" (space (int 2))))
    ∷ line 15 (call "a" (access "p" (at (int 0) ∷ []) ∷ []))
    ∷ line 15 (call "b" (access "p" (at (int 1) ∷ []) ∷ []))
    ∷ []))
    ∷ []

abbrev pub first_fault_means : Type 0
first_fault_means =
    meaning first_fault_program [] 1000000 ≡ faults "a" DivideByZero 6
