-- Breaches of the rules on types, counts, places, targets and formats: 3 to 7.
use Rattle.std.specs.Prelude.{None, Some, [], codes, false, true, ◌∷◌, ◌≡◌}
use Rattle.lane_kernels.specs.declared.numbers.Op.TheVariants.{Sum}
use Rattle.regent_tree.specs.Syntax.{Tree, a_link, chain_expr, convert_expr, no_link, truth_expr, var_form}
use Rattle.regent_tree.specs.declared.expression.Arithmetic.TheVariants.{Add, Subtract}
use Rattle.regent_tree.specs.declared.expression.Operator.TheVariants.{Compute}
use Rattle.regent_tree.specs.declared.types.Kind.TheVariants.{Int1d}
use Rattle.regent_tree.specs.declared.types.NumberTerm.TheVariants.{Index, Int64}
use Rattle.worked_examples.specs.Words.{access, at, calc, call, call_of, count, dot, equal, field_space, get, int, item, line, new_region, number, param, print, reduce, region, repeat, set, space, space_of, task, var, var_as, var_from}
use Rattle.check_rules.specs.Breaches.{breaches, breaks}

-- A truth for an integer, an integer for a test, a sum of a truth, and neither type nor start
-- value.
--     task main()
--       var x : int64 = true
--       while 1 do end
--       x = x + false
--       var y
--     end
abbrev pub wrong_types_program : Tree
wrong_types_program =
    item 1
    (task "main" [] []
    (line 2 (var_as "x" (number Int64) (truth_expr true))
    ∷ line 3 (repeat (int 1) [])
    ∷ line 4 (set "x" [] (calc (get "x") Add (truth_expr false)))
    ∷ line 5 (var_form (codes "y") None None) ∷ []))
    ∷ []

abbrev pub wrong_types_breaks : Type 0
wrong_types_breaks =
    breaches wrong_types_program ≡ breaks 3 2 ∷ breaks 3 3 ∷ breaks 3 4 ∷ breaks 3 5 ∷ []

-- An integer fits an index; an index fits no integer.
--     task main()
--       var i : int1d = 3
--       var n : int64 = int64(i)
--       n = i
--     end
abbrev pub integer_for_index_program : Tree
integer_for_index_program =
    item 1
    (task "main" [] []
    (line 2 (var_as "i" (number (Index Int1d)) (int 3))
    ∷ line 3 (var_as "n" (number Int64) (convert_expr Int64 (get "i")))
    ∷ line 4 (set "n" [] (get "i")) ∷ []))
    ∷ []

abbrev pub integer_for_index_breaks : Type 0
integer_for_index_breaks =
    breaches integer_for_index_program ≡ breaks 3 4 ∷ []

-- A call with one argument too many, and a field space without its argument.
--     fspace f { x : int64 }
--     fspace w(r : region(ispace(int1d), f)) { a : int64 }
--     task t() end
--     task main()
--       t(1)
--       var s = region(ispace(int1d, 4), w)
--     end
abbrev pub wrong_count_program : Tree
wrong_count_program =
    item 1 (field_space "f" [] (param 1 "x" (number Int64) ∷ []))
    ∷ item 2
    (field_space "w" (param 2 "r" (region (space_of "f" [])) ∷ [])
    (param 2 "a" (number Int64) ∷ []))
    ∷ item 3 (task "t" [] [] [])
    ∷ item 4
    (task "main" [] []
    (line 5 (call "t" (int 1 ∷ []))
    ∷ line 6 (var_from "s" (new_region (space (int 4)) (space_of "w" []))) ∷ []))
    ∷ []

abbrev pub wrong_count_breaks : Type 0
wrong_count_breaks =
    breaches wrong_count_program ≡ breaks 4 5 ∷ breaks 4 6 ∷ []

-- A region in a sum, and as an initializer.
--     fspace f { x : int64 }
--     task main()
--       var r = region(ispace(int1d, 4), f)
--       var n = r + 1
--       var s = r
--     end
abbrev pub region_as_value_program : Tree
region_as_value_program =
    item 1 (field_space "f" [] (param 1 "x" (number Int64) ∷ []))
    ∷ item 2
    (task "main" [] []
    (line 3 (var_from "r" (new_region (space (int 4)) (space_of "f" [])))
    ∷ line 4 (var "n" (calc (get "r") Add (int 1)))
    ∷ line 5 (var "s" (get "r")) ∷ []))
    ∷ []

abbrev pub region_as_value_breaks : Type 0
region_as_value_breaks =
    breaches region_as_value_program ≡ breaks 3 4 ∷ breaks 5 4 ∷ breaks 5 5 ∷ []

-- A loop variable, a parameter, a region and an index as targets.
--     fspace f { x : int64 }
--     task t(k : int64) k = 1 end
--     task main()
--       for i = 0, 3 do i = 1 end
--       var r = region(ispace(int1d, 4), f)
--       r = 1
--       var c : int1d = 0
--       c += 1
--     end
abbrev pub fixed_targets_program : Tree
fixed_targets_program =
    item 1 (field_space "f" [] (param 1 "x" (number Int64) ∷ []))
    ∷ item 2 (task "t" (param 2 "k" (number Int64) ∷ []) [] (line 2 (set "k" [] (int 1)) ∷ []))
    ∷ item 3
    (task "main" [] []
    (line 4 (count "i" (int 0) (int 3) (line 4 (set "i" [] (int 1)) ∷ []))
    ∷ line 5 (var_from "r" (new_region (space (int 4)) (space_of "f" [])))
    ∷ line 6 (set "r" [] (int 1))
    ∷ line 7 (var_as "c" (number (Index Int1d)) (int 0))
    ∷ line 8 (reduce "c" [] Sum (int 1)) ∷ []))
    ∷ []

abbrev pub fixed_targets_breaks : Type 0
fixed_targets_breaks =
    breaches fixed_targets_program ≡ breaks 6 2 ∷ breaks 6 4 ∷ breaks 6 6 ∷ breaks 6 8 ∷ []

-- A `printf` with an argument too few, an argument that is a truth, and a `%x`.
--     task main()
--       regentlib.c.printf("%d")
--       regentlib.c.printf("%ld", true)
--       regentlib.c.printf("100%% %x")
--     end
abbrev pub wrong_formats_program : Tree
wrong_formats_program =
    item 1
    (task "main" [] []
    (line 2 (print "%d" [])
    ∷ line 3 (print "%ld" (truth_expr true ∷ []))
    ∷ line 4 (print "100%% %x" []) ∷ []))
    ∷ []

abbrev pub wrong_formats_breaks : Type 0
wrong_formats_breaks =
    breaches wrong_formats_program ≡ breaks 7 2 ∷ breaks 7 3 ∷ breaks 7 4 ∷ []

-- A region as a field: what is done with the field is no further breach.
--     fspace f { x : region(f) }
--     task main()
--       var r = region(ispace(int1d, 4), f)
--       r[0].x = true
--     end
abbrev pub field_of_bad_type_program : Tree
field_of_bad_type_program =
    item 1 (field_space "f" [] (param 1 "x" (region (space_of "f" [])) ∷ []))
    ∷ item 2
    (task "main" [] []
    (line 3 (var_from "r" (new_region (space (int 4)) (space_of "f" [])))
    ∷ line 4 (set "r" (at (int 0) ∷ dot "x" ∷ []) (truth_expr true)) ∷ []))
    ∷ []

abbrev pub field_of_bad_type_breaks : Type 0
field_of_bad_type_breaks =
    breaches field_of_bad_type_program ≡ breaks 3 1 ∷ []

-- A pointer into p[k] fits no type that names p[k] again, though a variable may begin with it;
-- into p[0] it does.
--     fspace f { x : int64 }
--     task main()
--       var r = region(ispace(int1d, 4), f)
--       var p = partition(equal, r, ispace(int1d, 2))
--       var k = 0
--       var a = p[0][0]
--       a = p[0][1]
--       var b = p[k][0]
--       b = p[k][1]
--     end
abbrev pub unknown_child_program : Tree
unknown_child_program =
    item 1 (field_space "f" [] (param 1 "x" (number Int64) ∷ []))
    ∷ item 2
    (task "main" [] []
    (line 3 (var_from "r" (new_region (space (int 4)) (space_of "f" [])))
    ∷ line 4 (var_from "p" (equal "r" (space (int 2))))
    ∷ line 5 (var "k" (int 0))
    ∷ line 6 (var "a" (access "p" (at (int 0) ∷ at (int 0) ∷ [])))
    ∷ line 7 (set "a" [] (access "p" (at (int 0) ∷ at (int 1) ∷ [])))
    ∷ line 8 (var "b" (access "p" (at (get "k") ∷ at (int 0) ∷ [])))
    ∷ line 9 (set "b" [] (access "p" (at (get "k") ∷ at (int 1) ∷ []))) ∷ []))
    ∷ []

abbrev pub unknown_child_breaks : Type 0
unknown_child_breaks =
    breaches unknown_child_program ≡ breaks 3 9 ∷ []

-- A difference of partitions is the whole of an initializer, of two names.
--     fspace f { x : int64 }
--     task main()
--       var r = region(ispace(int1d, 4), f)
--       var p = partition(equal, r, ispace(int1d, 2))
--       var q = p - p
--       var s = p - p - p
--       var n : int64 = p - p
--       var m = p
--     end
abbrev pub differences_program : Tree
differences_program =
    item 1 (field_space "f" [] (param 1 "x" (number Int64) ∷ []))
    ∷ item 2
    (task "main" [] []
    (line 3 (var_from "r" (new_region (space (int 4)) (space_of "f" [])))
    ∷ line 4 (var_from "p" (equal "r" (space (int 2))))
    ∷ line 5 (var "q" (calc (get "p") Subtract (get "p")))
    ∷ line 6
    (var "s"
    (chain_expr (get "p")
    (a_link (Compute Subtract) (get "p") (a_link (Compute Subtract) (get "p") no_link))))
    ∷ line 7 (var_as "n" (number Int64) (calc (get "p") Subtract (get "p")))
    ∷ line 8 (var "m" (get "p")) ∷ []))
    ∷ []

abbrev pub differences_breaks : Type 0
differences_breaks =
    breaches differences_program ≡ breaks 3 6
    ∷ breaks 3 7
    ∷ breaks 5 6
    ∷ breaks 5 7
    ∷ breaks 5 8 ∷ []

-- A call without a result in an expression, and a region without an initializer.
--     fspace f { x : int64 }
--     task t() end
--     task main()
--       t()
--       var n = t()
--       var r : region(ispace(int1d), f)
--     end
abbrev pub no_result_program : Tree
no_result_program =
    item 1 (field_space "f" [] (param 1 "x" (number Int64) ∷ []))
    ∷ item 2 (task "t" [] [] [])
    ∷ item 3
    (task "main" [] []
    (line 4 (call "t" [])
    ∷ line 5 (var "n" (call_of "t" []))
    ∷ line 6 (var_form (codes "r") (Some (region (space_of "f" []))) None) ∷ []))
    ∷ []

abbrev pub no_result_breaks : Type 0
no_result_breaks =
    breaches no_result_program ≡ breaks 3 5 ∷ breaks 5 6 ∷ []

-- Region variables that don't begin as they must: behind them nothing is told of them.
--     fspace f { x : int64 }
--     fspace g { y : int64 }
--     task main()
--       var r = region(ispace(int1d, 4), f)
--       var s = r
--       var t : region(ispace(int1d), f)
--       var u : region(ispace(int1d), f) = 1
--       var v : region(ispace(int1d), g) = region(ispace(int1d, 4), f)
--       s[0].x = 1
--       t[0].x = 1
--       u[0].x = 1
--       v[0].y = v[1].x
--     end
abbrev pub misbegun_regions_program : Tree
misbegun_regions_program =
    item 1 (field_space "f" [] (param 1 "x" (number Int64) ∷ []))
    ∷ item 2 (field_space "g" [] (param 2 "y" (number Int64) ∷ []))
    ∷ item 3
    (task "main" [] []
    (line 4 (var_from "r" (new_region (space (int 4)) (space_of "f" [])))
    ∷ line 5 (var "s" (get "r"))
    ∷ line 6 (var_form (codes "t") (Some (region (space_of "f" []))) None)
    ∷ line 7 (var_as "u" (region (space_of "f" [])) (int 1))
    ∷ line 8
    (var_form (codes "v") (Some (region (space_of "g" [])))
    (Some (new_region (space (int 4)) (space_of "f" []))))
    ∷ line 9 (set "s" (at (int 0) ∷ dot "x" ∷ []) (int 1))
    ∷ line 10 (set "t" (at (int 0) ∷ dot "x" ∷ []) (int 1))
    ∷ line 11 (set "u" (at (int 0) ∷ dot "x" ∷ []) (int 1))
    ∷ line 12 (set "v" (at (int 0) ∷ dot "y" ∷ []) (access "v" (at (int 1) ∷ dot "x" ∷ []))) ∷ []))
    ∷ []

abbrev pub misbegun_regions_breaks : Type 0
misbegun_regions_breaks =
    breaches misbegun_regions_program ≡ breaks 3 7
    ∷ breaks 3 8
    ∷ breaks 5 5
    ∷ breaks 5 6
    ∷ breaks 5 7 ∷ []

-- An element, and the colours of a partition, are no targets, also where something else is wrong.
--     fspace f { x : int64 }
--     task main()
--       var r = region(ispace(int1d, 4), f)
--       r[true] = 1
--       z[0] += 1
--       r[0].y[0] = 1
--       var p = partition(equal, r, ispace(int1d, 2))
--       p.colors = 1
--       p[true].x = 1
--     end
abbrev pub elements_as_targets_program : Tree
elements_as_targets_program =
    item 1 (field_space "f" [] (param 1 "x" (number Int64) ∷ []))
    ∷ item 2
    (task "main" [] []
    (line 3 (var_from "r" (new_region (space (int 4)) (space_of "f" [])))
    ∷ line 4 (set "r" (at (truth_expr true) ∷ []) (int 1))
    ∷ line 5 (reduce "z" (at (int 0) ∷ []) Sum (int 1))
    ∷ line 6 (set "r" (at (int 0) ∷ dot "y" ∷ at (int 0) ∷ []) (int 1))
    ∷ line 7 (var_from "p" (equal "r" (space (int 2))))
    ∷ line 8 (set "p" (dot "colors" ∷ []) (int 1))
    ∷ line 9 (set "p" (at (truth_expr true) ∷ dot "x" ∷ []) (int 1)) ∷ []))
    ∷ []

abbrev pub elements_as_targets_breaks : Type 0
elements_as_targets_breaks =
    breaches elements_as_targets_program ≡ breaks 1 5
    ∷ breaks 1 6
    ∷ breaks 3 4
    ∷ breaks 3 9
    ∷ breaks 6 4
    ∷ breaks 6 5
    ∷ breaks 6 6
    ∷ breaks 6 8 ∷ []

-- A region for a parameter that is a number.
--     fspace f { x : int64 }
--     task t(n : int64) end
--     task main()
--       var r = region(ispace(int1d, 4), f)
--       t(r)
--     end
abbrev pub region_for_number_program : Tree
region_for_number_program =
    item 1 (field_space "f" [] (param 1 "x" (number Int64) ∷ []))
    ∷ item 2 (task "t" (param 2 "n" (number Int64) ∷ []) [] [])
    ∷ item 3
    (task "main" [] []
    (line 4 (var_from "r" (new_region (space (int 4)) (space_of "f" [])))
    ∷ line 5 (call "t" (get "r" ∷ [])) ∷ []))
    ∷ []

abbrev pub region_for_number_breaks : Type 0
region_for_number_breaks =
    breaches region_for_number_program ≡ breaks 3 5 ∷ breaks 5 5 ∷ []
