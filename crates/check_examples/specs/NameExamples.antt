-- Breaches of the rules on names: 1, 2.
use Rattle.std.specs.Prelude.{[], codes, true, ◌∷◌, ◌≡◌}
use Rattle.regent_tree.specs.Syntax.{Tree, null_expr, truth_expr}
use Rattle.regent_tree.specs.declared.expression.Arithmetic.TheVariants.{Add}
use Rattle.regent_tree.specs.declared.expression.Operator.TheVariants.{And}
use Rattle.regent_tree.specs.declared.program.Clause.TheVariants.{Within}
use Rattle.regent_tree.specs.declared.program.Grant.TheVariants.{Reads, Writes}
use Rattle.regent_tree.specs.declared.types.NumberTerm.TheVariants.{Int64}
use Rattle.worked_examples.specs.Words.{access, at, both, calc, call, connect, dot, each, equal, field_space, fields, get, grants, int, item, line, new_region, number, param, partition, pointer, points_into, print, print_by, ref, region, scope, set, space, space_of, task, var, var_as, var_from, when, whole}
use Rattle.check_rules.specs.Breaches.{breaches, breaks}

-- A name that isn't bound: what follows from it is no breach.
--     task main()
--       var y = z
--       y = true
--       regentlib.c.printf("%d", y + y)
--     end
abbrev pub unbound_name_program : Tree
unbound_name_program =
    item 1
    (task "main" [] []
    (line 2 (var "y" (get "z"))
    ∷ line 3 (set "y" [] (truth_expr true))
    ∷ line 4 (print "%d" (calc (get "y") Add (get "y") ∷ [])) ∷ []))
    ∷ []

abbrev pub unbound_name_breaks : Type 0
unbound_name_breaks =
    breaches unbound_name_program ≡ breaks 1 2 ∷ []

-- A task, an alias, a field space and a field that aren't there.
--     fspace f { x : int64 }
--     task main()
--       go()
--       c.printf("")
--       var s = region(ispace(int1d, 4), g)
--       var r = region(ispace(int1d, 4), f)
--       r[0].y = 1
--     end
abbrev pub missing_things_program : Tree
missing_things_program =
    item 1 (field_space "f" [] (param 1 "x" (number Int64) ∷ []))
    ∷ item 2
    (task "main" [] []
    (line 3 (call "go" [])
    ∷ line 4 (print_by "c" "" [])
    ∷ line 5 (var_from "s" (new_region (space (int 4)) (space_of "g" [])))
    ∷ line 6 (var_from "r" (new_region (space (int 4)) (space_of "f" [])))
    ∷ line 7 (set "r" (at (int 0) ∷ dot "y" ∷ []) (int 1)) ∷ []))
    ∷ []

abbrev pub missing_things_breaks : Type 0
missing_things_breaks =
    breaches missing_things_program ≡ breaks 1 3 ∷ breaks 1 4 ∷ breaks 1 5 ∷ breaks 1 7 ∷ []

-- A name behind the end of its block.
--     task main()
--       do
--         var x = 1
--       end
--       x = 2
--     end
abbrev pub past_its_block_program : Tree
past_its_block_program =
    item 1
    (task "main" [] []
    (line 2 (scope (line 3 (var "x" (int 1)) ∷ [])) ∷ line 5 (set "x" [] (int 2)) ∷ []))
    ∷ []

abbrev pub past_its_block_breaks : Type 0
past_its_block_breaks =
    breaches past_its_block_program ≡ breaks 1 5 ∷ []

-- Two tasks, and two fields, of one name.
--     fspace f { x : int64,
--                x : int64 }
--     task main() end
--     task main() end
abbrev pub two_of_a_name_program : Tree
two_of_a_name_program =
    item 1 (field_space "f" [] (param 1 "x" (number Int64) ∷ param 2 "x" (number Int64) ∷ []))
    ∷ item 3 (task "main" [] [] [])
    ∷ item 4 (task "main" [] [] [])
    ∷ []

abbrev pub two_of_a_name_breaks : Type 0
two_of_a_name_breaks =
    breaches two_of_a_name_program ≡ breaks 2 4 ∷ breaks 2 2 ∷ []

-- What follows from a breach is none: of a parameter of a field space that isn't there, a
-- partition of a region that isn't bound, and a loop over it.
--     fspace f { x : int64 }
--     task t(r : region(ispace(int1d), g), k : int64) where reads(r.x) do
--       r[0].x = true
--     end
--     task main()
--       var q = partition(equal, z, ispace(int1d, 2))
--       t(q[0], 1)
--       for y in z do y.x = 1 end
--       var n : int64 = n
--       regentlib.c.printf("%d", q)
--     end
abbrev pub causes_alone_program : Tree
causes_alone_program =
    item 1 (field_space "f" [] (param 1 "x" (number Int64) ∷ []))
    ∷ item 2
    (task "t" (param 2 "r" (region (space_of "g" [])) ∷ param 2 "k" (number Int64) ∷ [])
    (grants (Reads ∷ []) (fields "r" ("x" ∷ []) ∷ []) ∷ [])
    (line 3 (set "r" (at (int 0) ∷ dot "x" ∷ []) (truth_expr true)) ∷ []))
    ∷ item 5
    (task "main" [] []
    (line 6 (var_from "q" (equal "z" (space (int 2))))
    ∷ line 7 (call "t" (access "q" (at (int 0) ∷ []) ∷ int 1 ∷ []))
    ∷ line 8 (each "y" (get "z") (line 8 (set "y" (dot "x" ∷ []) (int 1)) ∷ []))
    ∷ line 9 (var_as "n" (number Int64) (get "n"))
    ∷ line 10 (print "%d" (get "q" ∷ [])) ∷ []))
    ∷ []

abbrev pub causes_alone_breaks : Type 0
causes_alone_breaks =
    breaches causes_alone_program ≡ breaks 1 2 ∷ breaks 1 6 ∷ breaks 1 8 ∷ breaks 1 9 ∷ []

-- A number's name in a pointer type is no region there, and neither is a name that isn't bound, also
-- where the field space isn't there.
--     fspace f { x : int64 }
--     task main()
--       var k = 1
--       var a = null(int1d(f, k))
--       var b = null(int1d(f, z))
--       a.x = b.x
--       var c = null(int1d(g, k))
--       var r = region(ispace(int1d, 4), f)
--       var d = null(int1d(g, r))
--     end
abbrev pub pointer_to_number_program : Tree
pointer_to_number_program =
    item 1 (field_space "f" [] (param 1 "x" (number Int64) ∷ []))
    ∷ item 2
    (task "main" [] []
    (line 3 (var "k" (int 1))
    ∷ line 4 (var "a" (null_expr (pointer (space_of "f" []) (ref "k" ∷ []))))
    ∷ line 5 (var "b" (null_expr (pointer (space_of "f" []) (ref "z" ∷ []))))
    ∷ line 6 (set "a" (dot "x" ∷ []) (access "b" (dot "x" ∷ [])))
    ∷ line 7 (var "c" (null_expr (pointer (space_of "g" []) (ref "k" ∷ []))))
    ∷ line 8 (var_from "r" (new_region (space (int 4)) (space_of "f" [])))
    ∷ line 9 (var "d" (null_expr (pointer (space_of "g" []) (ref "r" ∷ [])))) ∷ []))
    ∷ []

abbrev pub pointer_to_number_breaks : Type 0
pointer_to_number_breaks =
    breaches pointer_to_number_program ≡ breaks 1 4
    ∷ breaks 1 5
    ∷ breaks 1 7
    ∷ breaks 1 9
    ∷ breaks 13 4
    ∷ breaks 13 5
    ∷ breaks 13 7 ∷ []

-- A breach beside an unbound name: a number in a conjunction.
--     task main()
--       if z and 5 then end
--     end
abbrev pub beside_the_unbound_program : Tree
beside_the_unbound_program =
    item 1 (task "main" [] [] (line 2 (when (connect (get "z") And (int 5)) []) ∷ []))
    ∷ []

abbrev pub beside_the_unbound_breaks : Type 0
beside_the_unbound_breaks =
    breaches beside_the_unbound_program ≡ breaks 1 2 ∷ breaks 3 2 ∷ []

-- What follows from an unknown partition or region is none: a set operation, a value, a region variable
-- with a declared type, and a call with it.
--     fspace f { x : int64 }
--     task t(r : region(ispace(int1d), f)) where reads(r) do end
--     task main()
--       var p = partition(equal, z, ispace(int1d, 2))
--       var q = p & p
--       var n : int64 = q
--       var s : region(ispace(int1d), f) = z[0]
--       t(s)
--     end
abbrev pub after_unknown_program : Tree
after_unknown_program =
    item 1 (field_space "f" [] (param 1 "x" (number Int64) ∷ []))
    ∷ item 2
    (task "t" (param 2 "r" (region (space_of "f" [])) ∷ [])
    (grants (Reads ∷ []) (whole "r" ∷ []) ∷ []) [])
    ∷ item 3
    (task "main" [] []
    (line 4 (var_from "p" (equal "z" (space (int 2))))
    ∷ line 5 (var_from "q" (both "p" "p"))
    ∷ line 6 (var_as "n" (number Int64) (get "q"))
    ∷ line 7 (var_as "s" (region (space_of "f" [])) (access "z" (at (int 0) ∷ [])))
    ∷ line 8 (call "t" (get "s" ∷ [])) ∷ []))
    ∷ []

abbrev pub after_unknown_breaks : Type 0
after_unknown_breaks =
    breaches after_unknown_program ≡ breaks 1 4 ∷ breaks 1 7 ∷ []

-- A clause on a name that is no parameter tells nothing of the regions that are made.
--     fspace f { x : int64 }
--     task t(r : region(ispace(int1d), f)) where r <= z do
--       var v = region(ispace(int1d, 4), f)
--       r[0].x = 1
--     end
--     task main() end
abbrev pub clause_on_nothing_program : Tree
clause_on_nothing_program =
    item 1 (field_space "f" [] (param 1 "x" (number Int64) ∷ []))
    ∷ item 2
    (task "t" (param 2 "r" (region (space_of "f" [])) ∷ []) (Within (codes "r") (codes "z") ∷ [])
    (line 3 (var_from "v" (new_region (space (int 4)) (space_of "f" [])))
    ∷ line 4 (set "r" (at (int 0) ∷ dot "x" ∷ []) (int 1)) ∷ []))
    ∷ item 6 (task "main" [] [] [])
    ∷ []

abbrev pub clause_on_nothing_breaks : Type 0
clause_on_nothing_breaks =
    breaches clause_on_nothing_program ≡ breaks 9 4 ∷ breaks 16 2 ∷ []

-- Two partitions that name each other as their regions.
--     task t(p : partition(disjoint, q),
--            q : partition(disjoint, p)) end
--     task main() end
abbrev pub named_by_each_other_program : Tree
named_by_each_other_program =
    item 1 (task "t" (param 1 "p" (partition true "q") ∷ param 2 "q" (partition true "p") ∷ []) [] [])
    ∷ item 3 (task "main" [] [] [])
    ∷ []

abbrev pub named_by_each_other_breaks : Type 0
named_by_each_other_breaks =
    breaches named_by_each_other_program ≡ breaks 1 1 ∷ breaks 1 2 ∷ []

-- A field space's parameter whose type says nothing: what a use gives for it is no breach.
--     fspace f { x : int64 }
--     task t(r : region(ispace(int1d), f), q : region(ispace(int1d), h(r))) end
--     fspace h(s : region(ispace(int1d), nope)) { y : int64 }
--     task main() end
abbrev pub parameter_of_no_type_program : Tree
parameter_of_no_type_program =
    item 1 (field_space "f" [] (param 1 "x" (number Int64) ∷ []))
    ∷ item 2
    (task "t"
    (param 2 "r" (region (space_of "f" []))
    ∷ param 2 "q" (region (space_of "h" (ref "r" ∷ []))) ∷ []) [] [])
    ∷ item 3
    (field_space "h" (param 3 "s" (region (space_of "nope" [])) ∷ [])
    (param 3 "y" (number Int64) ∷ []))
    ∷ item 4 (task "main" [] [] [])
    ∷ []

abbrev pub parameter_of_no_type_breaks : Type 0
parameter_of_no_type_breaks =
    breaches parameter_of_no_type_program ≡ breaks 1 3 ∷ []

-- A parameter that points into one whose type says nothing: its fields are asked no privilege.
--     fspace f { x : int64 }
--     task t(r : region(ispace(int1d), nope), y : int1d(f, r)) where reads(r.x) do
--       var v = y.x
--     end
--     task main() end
abbrev pub pointer_into_unknown_program : Tree
pointer_into_unknown_program =
    item 1 (field_space "f" [] (param 1 "x" (number Int64) ∷ []))
    ∷ item 2
    (task "t"
    (param 2 "r" (region (space_of "nope" []))
    ∷ param 2 "y" (points_into (pointer (space_of "f" []) (ref "r" ∷ []))) ∷ [])
    (grants (Reads ∷ []) (fields "r" ("x" ∷ []) ∷ []) ∷ [])
    (line 3 (var "v" (access "y" (dot "x" ∷ []))) ∷ []))
    ∷ item 4 (task "main" [] [] [])
    ∷ []

abbrev pub pointer_into_unknown_breaks : Type 0
pointer_into_unknown_breaks =
    breaches pointer_into_unknown_program ≡ breaks 1 2 ∷ []

-- In a task whose parameters share a name that name is of an unknown type.
--     fspace f { x : int64 }
--     task t(r : region(ispace(int1d), f),
--            r : region(ispace(int1d), f)) where reads writes(r.x) do
--       r[0].x = r[1].x + 1
--     end
--     task main() end
abbrev pub parameters_of_one_name_program : Tree
parameters_of_one_name_program =
    item 1 (field_space "f" [] (param 1 "x" (number Int64) ∷ []))
    ∷ item 2
    (task "t" (param 2 "r" (region (space_of "f" [])) ∷ param 3 "r" (region (space_of "f" [])) ∷ [])
    (grants (Reads ∷ Writes ∷ []) (fields "r" ("x" ∷ []) ∷ []) ∷ [])
    (line 4
    (set "r" (at (int 0) ∷ dot "x" ∷ [])
    (calc (access "r" (at (int 1) ∷ dot "x" ∷ [])) Add (int 1))) ∷ []))
    ∷ item 6 (task "main" [] [] [])
    ∷ []

abbrev pub parameters_of_one_name_breaks : Type 0
parameters_of_one_name_breaks =
    breaches parameters_of_one_name_program ≡ breaks 2 3 ∷ []
