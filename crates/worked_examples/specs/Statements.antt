-- Blocks, choices and loops.
use Rattle.std.specs.Prelude.{◌≡◌, [], ◌∷◌}
use Rattle.lane_kernels.specs.declared.numbers.Op.TheVariants.{Sum}
use Rattle.regent_tree.specs.declared.expression.Arithmetic.TheVariants.{Add, Multiply}
use Rattle.regent_tree.specs.declared.expression.Comparison.TheVariants.{Equal, Less, AtLeast}
use Rattle.regent_tree.specs.declared.expression.Operator.TheVariants.{Or, And}
use Rattle.regent_tree.specs.declared.outcome.FaultKind.TheVariants.{AssertFailed}
use Rattle.regent_tree.specs.declared.program.Grant.TheVariants.{Reads}
use Rattle.regent_tree.specs.declared.types.NumberTerm.TheVariants.{Int32, Int64}
use Rattle.regent_tree.specs.Syntax.{Tree, is_null_expr, convert_expr, cast_expr, assert_form}
use Rattle.regent_tree.specs.Meaning.{meaning}
use Rattle.worked_examples.specs.Words.{int, int64, dot, at, get, access, calc, compare, connect, negation, minus, space, call_of, number, ref, space_of, region, pointer, param, fields, grants, line, var, var_from, new_region, set, reduce, print, when, arm, choose, repeat, scope, fill, give, each, item, field_space, task, task_giving, prints, faults, root, naturals}

-- A name that hides an earlier one, in a block and after it:
--     task main()
--       var x = 1
--       do
--         var x = x + 1
--         x = x * 10
--         regentlib.c.printf("%d ", x)
--       end
--       var x = x + 2
--       regentlib.c.printf("%d", x)
--     end
abbrev pub hidden_names_program : Tree
hidden_names_program =
    item 1
    (task "main" [] []
    (line 2 (var "x" (int 1))
    ∷ line 3
    (scope
    (line 4 (var "x" (calc (get "x") Add (int 1)))
    ∷ line 5 (set "x" [] (calc (get "x") Multiply (int 10)))
    ∷ line 6 (print "%d " (get "x" ∷ []))
    ∷ []))
    ∷ line 8 (var "x" (calc (get "x") Add (int 2)))
    ∷ line 9 (print "%d" (get "x" ∷ []))
    ∷ []))
    ∷ []

abbrev pub hidden_names_means : Type 0
hidden_names_means =
    meaning hidden_names_program [] 1000000 ≡ prints "20 3" []

-- A loop with a test, and a choice of three:
--     task main()
--       var n = 0
--       while n < 4 do
--         if n == 0 then
--           regentlib.c.printf("a")
--         elseif n == 1 or n == 3 then
--           regentlib.c.printf("b")
--         else
--           regentlib.c.printf("c")
--         end
--         n += 1
--       end
--     end
abbrev pub choices_program : Tree
choices_program =
    item 1
    (task "main" [] []
    (line 2 (var "n" (int 0))
    ∷ line 3
    (repeat (compare (get "n") Less (int 4))
    (line 4
    (choose
    (arm (compare (get "n") Equal (int 0)) (line 5 (print "a" []) ∷ [])
    ∷ arm
    (connect (compare (get "n") Equal (int 1)) Or
    (compare (get "n") Equal (int 3)))
    (line 7 (print "b" []) ∷ [])
    ∷ [])
    (line 9 (print "c" []) ∷ []))
    ∷ line 11 (reduce "n" [] Sum (int 1))
    ∷ []))
    ∷ []))
    ∷ []

abbrev pub choices_means : Type 0
choices_means =
    meaning choices_program [] 1000000 ≡ prints "abcb" []

-- A test that stops before a null pointer is used:
--     fspace f { x : int64 }
--     task main()
--       var r = region(ispace(int1d, 2), f)
--       var b = dynamic_cast(int1d(f, r), 2)
--       if not isnull(b) and b.x == 0 then regentlib.c.printf("point") end
--       if isnull(b) or b.x == 0 then regentlib.c.printf("null") end
--     end
abbrev pub early_stop_program : Tree
early_stop_program =
    item 1 (field_space "f" [] (param 1 "x" (number Int64) ∷ []))
    ∷ item 2
    (task "main" [] []
    (line 3 (var_from "r" (new_region (space (int 2)) (space_of "f" [])))
    ∷ line 4 (var "b" (cast_expr (pointer (space_of "f" []) (ref "r" ∷ [])) (int 2)))
    ∷ line 5
    (when
    (connect (negation (is_null_expr (get "b"))) And
    (compare (access "b" (dot "x" ∷ [])) Equal (int 0)))
    (line 5 (print "point" []) ∷ []))
    ∷ line 6
    (when
    (connect (is_null_expr (get "b")) Or
    (compare (access "b" (dot "x" ∷ [])) Equal (int 0)))
    (line 6 (print "null" []) ∷ []))
    ∷ []))
    ∷ []

abbrev pub early_stop_means : Type 0
early_stop_means =
    meaning early_stop_program [] 1000000 ≡ prints "null"
    (root 0 2 (naturals (0 ∷ 0 ∷ []) ∷ []) ∷ [])

-- A task that returns out of a loop:
--     fspace f { x : int64 }
--     task first(r : region(ispace(int1d), f), k : int64) : int64
--     where reads(r.x) do
--       for y in r do
--         if y.x >= k then return int64(y) end
--       end
--       return -1
--     end
--     task main()
--       var r = region(ispace(int1d, 4), f)
--       for y in r do y.x = 10 * int64(y) end
--       regentlib.c.printf("%lld %lld", first(r, 15), first(r, 99))
--     end
abbrev pub early_return_program : Tree
early_return_program =
    item 1 (field_space "f" [] (param 1 "x" (number Int64) ∷ []))
    ∷ item 2
    (task_giving (number Int64) "first"
    (param 2 "r" (region (space_of "f" [])) ∷ param 2 "k" (number Int64) ∷ [])
    (grants (Reads ∷ []) (fields "r" ("x" ∷ []) ∷ []) ∷ [])
    (line 4
    (each "y" (get "r")
    (line 5
    (when (compare (access "y" (dot "x" ∷ [])) AtLeast (get "k"))
    (line 5 (give (convert_expr Int64 (get "y"))) ∷ []))
    ∷ []))
    ∷ line 7 (give (minus (int 1)))
    ∷ []))
    ∷ item 9
    (task "main" [] []
    (line 10 (var_from "r" (new_region (space (int 4)) (space_of "f" [])))
    ∷ line 11
    (each "y" (get "r")
    (line 11
    (set "y" (dot "x" ∷ []) (calc (int 10) Multiply (convert_expr Int64 (get "y"))))
    ∷ []))
    ∷ line 12
    (print "%lld %lld"
    (call_of "first" (get "r" ∷ int 15 ∷ [])
    ∷ call_of "first" (get "r" ∷ int 99 ∷ [])
    ∷ []))
    ∷ []))
    ∷ []

abbrev pub early_return_means : Type 0
early_return_means =
    meaning early_return_program [] 1000000 ≡ prints "2 -1"
    (root 0 4 (naturals (0 ∷ 10 ∷ 20 ∷ 30 ∷ []) ∷ []) ∷ [])

-- A fill that wraps at the width of each field:
--     fspace f { x : int64, y : int32 }
--     task main()
--       var r = region(ispace(int1d, 2), f)
--       fill(r.{x, y}, 4294967297)
--       regentlib.c.printf("%lld %d", r[1].x, r[1].y)
--     end
abbrev pub filled_program : Tree
filled_program =
    item 1 (field_space "f" [] (param 1 "x" (number Int64) ∷ param 1 "y" (number Int32) ∷ []))
    ∷ item 2
    (task "main" [] []
    (line 3 (var_from "r" (new_region (space (int 2)) (space_of "f" [])))
    ∷ line 4 (fill "r" ("x" ∷ "y" ∷ []) (int64 4294967297))
    ∷ line 5
    (print "%lld %d"
    (access "r" (at (int 1) ∷ dot "x" ∷ [])
    ∷ access "r" (at (int 1) ∷ dot "y" ∷ [])
    ∷ []))
    ∷ []))
    ∷ []

abbrev pub filled_means : Type 0
filled_means =
    meaning filled_program [] 1000000 ≡ prints "4294967297 1"
    (root 0 2 (naturals (4294967297 ∷ 4294967297 ∷ []) ∷ naturals (1 ∷ 1 ∷ []) ∷ []) ∷ [])

-- An assertion that is false:
--     task main()
--       regentlib.c.printf("a")
--       regentlib.assert(1 == 2, "one is two")
--     end
abbrev pub false_assert_program : Tree
false_assert_program =
    item 1
    (task "main" [] []
    (line 2 (print "a" []) ∷ line 3 (assert_form (compare (int 1) Equal (int 2))) ∷ []))
    ∷ []

abbrev pub false_assert_means : Type 0
false_assert_means =
    meaning false_assert_program [] 1000000 ≡ faults "a" AssertFailed 3
