-- Reductions, in calls and in the task itself.
use Rattle.std.specs.Prelude.{◌≡◌, [], ◌∷◌}
use Rattle.lane_kernels.specs.declared.numbers.Op.TheVariants.{Sum, Least}
use Rattle.regent_tree.specs.declared.program.Grant.TheVariants.{Reduces}
use Rattle.regent_tree.specs.declared.types.NumberTerm.TheVariants.{Int32, Int64}
use Rattle.regent_tree.specs.Syntax.{Tree}
use Rattle.regent_tree.specs.Meaning.{meaning}
use Rattle.worked_examples.specs.Words.{int, int64, dot, at, get, access, minus, space, number, space_of, region, param, fields, grants, line, var_from, new_region, set, reduce, print, call, count, item, field_space, task, prints, root, naturals, below_zero}

-- Calls that each reduce by a sum:
--     fspace f { x : int64 }
--     task add(r : region(ispace(int1d), f), k : int64) where reduces +(r.x) do r[0].x += k end
--     task main()
--       var r = region(ispace(int1d, 1), f)
--       for k = 1, 5 do add(r, k) end
--       regentlib.c.printf("%lld\n", r[0].x)
--     end
abbrev pub reducing_calls_program : Tree
reducing_calls_program =
    item 1 (field_space "f" [] (param 1 "x" (number Int64) ∷ []))
    ∷ item 2
    (task "add" (param 2 "r" (region (space_of "f" [])) ∷ param 2 "k" (number Int64) ∷ [])
    (grants (Reduces Sum ∷ []) (fields "r" ("x" ∷ []) ∷ []) ∷ [])
    (line 2 (reduce "r" (at (int 0) ∷ dot "x" ∷ []) Sum (get "k")) ∷ []))
    ∷ item 3
    (task "main" [] []
    (line 4 (var_from "r" (new_region (space (int 1)) (space_of "f" [])))
    ∷ line 5 (count "k" (int 1) (int 5) (line 5 (call "add" (get "r" ∷ get "k" ∷ [])) ∷ []))
    ∷ line 6 (print "%lld\n" (access "r" (at (int 0) ∷ dot "x" ∷ []) ∷ []))
    ∷ []))
    ∷ []

abbrev pub reducing_calls_means : Type 0
reducing_calls_means =
    meaning reducing_calls_program [] 1000000 ≡ prints "10\n"
    (root 0 1 (naturals (10 ∷ []) ∷ []) ∷ [])

-- A sum that wraps at 64 bits:
--     fspace f { x : int64 }
--     task add(r : region(ispace(int1d), f), k : int64) where reduces +(r.x) do r[0].x += k end
--     task main()
--       var r = region(ispace(int1d, 1), f)
--       r[0].x = 9223372036854775807 add(r, 1)
--       regentlib.c.printf("%lld\n", r[0].x)
--     end
abbrev pub wrapping_reduction_program : Tree
wrapping_reduction_program =
    item 1 (field_space "f" [] (param 1 "x" (number Int64) ∷ []))
    ∷ item 2
    (task "add" (param 2 "r" (region (space_of "f" [])) ∷ param 2 "k" (number Int64) ∷ [])
    (grants (Reduces Sum ∷ []) (fields "r" ("x" ∷ []) ∷ []) ∷ [])
    (line 2 (reduce "r" (at (int 0) ∷ dot "x" ∷ []) Sum (get "k")) ∷ []))
    ∷ item 3
    (task "main" [] []
    (line 4 (var_from "r" (new_region (space (int 1)) (space_of "f" [])))
    ∷ line 5 (set "r" (at (int 0) ∷ dot "x" ∷ []) (int64 9223372036854775807))
    ∷ line 5 (call "add" (get "r" ∷ int 1 ∷ []))
    ∷ line 6 (print "%lld\n" (access "r" (at (int 0) ∷ dot "x" ∷ []) ∷ []))
    ∷ []))
    ∷ []

abbrev pub wrapping_reduction_means : Type 0
wrapping_reduction_means =
    meaning wrapping_reduction_program [] 1000000 ≡ prints "-9223372036854775808\n"
    (root 0 1 ((below_zero 9223372036854775808 ∷ []) ∷ []) ∷ [])

-- A minimum that is lowered twice:
--     fspace f { x : int64 }
--     task low(r : region(ispace(int1d), f), k : int64) where reduces min(r.x) do r[0].x min= k end
--     task main()
--       var r = region(ispace(int1d, 1), f)
--       r[0].x = 9
--       low(r, 7) low(r, 5)
--       regentlib.c.printf("%lld", r[0].x)
--     end
abbrev pub least_lowered_program : Tree
least_lowered_program =
    item 1 (field_space "f" [] (param 1 "x" (number Int64) ∷ []))
    ∷ item 2
    (task "low" (param 2 "r" (region (space_of "f" [])) ∷ param 2 "k" (number Int64) ∷ [])
    (grants (Reduces Least ∷ []) (fields "r" ("x" ∷ []) ∷ []) ∷ [])
    (line 2 (reduce "r" (at (int 0) ∷ dot "x" ∷ []) Least (get "k")) ∷ []))
    ∷ item 3
    (task "main" [] []
    (line 4 (var_from "r" (new_region (space (int 1)) (space_of "f" [])))
    ∷ line 5 (set "r" (at (int 0) ∷ dot "x" ∷ []) (int 9))
    ∷ line 6 (call "low" (get "r" ∷ int 7 ∷ []))
    ∷ line 6 (call "low" (get "r" ∷ int 5 ∷ []))
    ∷ line 7 (print "%lld" (access "r" (at (int 0) ∷ dot "x" ∷ []) ∷ []))
    ∷ []))
    ∷ []

abbrev pub least_lowered_means : Type 0
least_lowered_means =
    meaning least_lowered_program [] 1000000 ≡ prints "5" (root 0 1 (naturals (5 ∷ []) ∷ []) ∷ [])

-- A minimum that stays:
--     fspace f { x : int64 }
--     task low(r : region(ispace(int1d), f), k : int64) where reduces min(r.x) do r[0].x min= k end
--     task main()
--       var r = region(ispace(int1d, 1), f)
--       r[0].x = 3
--       low(r, 7) low(r, 5)
--       regentlib.c.printf("%lld", r[0].x)
--     end
abbrev pub least_kept_program : Tree
least_kept_program =
    item 1 (field_space "f" [] (param 1 "x" (number Int64) ∷ []))
    ∷ item 2
    (task "low" (param 2 "r" (region (space_of "f" [])) ∷ param 2 "k" (number Int64) ∷ [])
    (grants (Reduces Least ∷ []) (fields "r" ("x" ∷ []) ∷ []) ∷ [])
    (line 2 (reduce "r" (at (int 0) ∷ dot "x" ∷ []) Least (get "k")) ∷ []))
    ∷ item 3
    (task "main" [] []
    (line 4 (var_from "r" (new_region (space (int 1)) (space_of "f" [])))
    ∷ line 5 (set "r" (at (int 0) ∷ dot "x" ∷ []) (int 3))
    ∷ line 6 (call "low" (get "r" ∷ int 7 ∷ []))
    ∷ line 6 (call "low" (get "r" ∷ int 5 ∷ []))
    ∷ line 7 (print "%lld" (access "r" (at (int 0) ∷ dot "x" ∷ []) ∷ []))
    ∷ []))
    ∷ []

abbrev pub least_kept_means : Type 0
least_kept_means =
    meaning least_kept_program [] 1000000 ≡ prints "3" (root 0 1 (naturals (3 ∷ []) ∷ []) ∷ [])

-- The right side of a reduction wraps at the width of the field:
--     fspace f { x : int32 }
--     task main()
--       var r = region(ispace(int1d, 1), f)
--       r[0].x = 5
--       r[0].x min= -2147483649
--       regentlib.c.printf("%d", r[0].x)
--     end
abbrev pub narrow_least_program : Tree
narrow_least_program =
    item 1 (field_space "f" [] (param 1 "x" (number Int32) ∷ []))
    ∷ item 2
    (task "main" [] []
    (line 3 (var_from "r" (new_region (space (int 1)) (space_of "f" [])))
    ∷ line 4 (set "r" (at (int 0) ∷ dot "x" ∷ []) (int 5))
    ∷ line 5 (reduce "r" (at (int 0) ∷ dot "x" ∷ []) Least (minus (int64 2147483649)))
    ∷ line 6 (print "%d" (access "r" (at (int 0) ∷ dot "x" ∷ []) ∷ []))
    ∷ []))
    ∷ []

abbrev pub narrow_least_means : Type 0
narrow_least_means =
    meaning narrow_least_program [] 1000000 ≡ prints "5" (root 0 1 (naturals (5 ∷ []) ∷ []) ∷ [])
