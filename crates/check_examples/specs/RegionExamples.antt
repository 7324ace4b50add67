-- Breaches of the rules on pointers, field spaces and partitions: 13 to 15.
use Rattle.std.specs.Prelude.{[], codes, true, ◌∷◌, ◌≡◌}
use Rattle.regent_tree.specs.Syntax.{Tree, null_expr, space_expr}
use Rattle.regent_tree.specs.declared.program.Clause.TheVariants.{Within}
use Rattle.regent_tree.specs.declared.program.Grant.TheVariants.{Reads}
use Rattle.regent_tree.specs.declared.types.Kind.TheVariants.{Int1d, Ptr}
use Rattle.regent_tree.specs.declared.types.NumberTerm.TheVariants.{Index, Int64}
use Rattle.regent_tree.specs.declared.types.Ref.TheVariants.{Wild}
use Rattle.regent_tree.specs.declared.types.TypeTerm.TheVariants.{Truth}
use Rattle.worked_examples.specs.Words.{access, at, both, by_field, call, dot, either, equal, field_space, get, grants, image, int, item, line, new_region, number, param, partition, pointer, points_into, ref, region, set, space, space_of, task, var, var_as, var_from, whole}
use Rattle.check_rules.specs.Breaches.{breaches, breaks}

-- A field of a pointer whose list holds `wild`.
--     fspace f { x : int64 }
--     fspace w(r : region(ispace(int1d), f)) { a : int1d(f, r) }
--     task main()
--       var s = region(ispace(int1d, 4), w(wild))
--       s[0].a.x = 1
--     end
abbrev pub wild_pointer_program : Tree
wild_pointer_program =
    item 1 (field_space "f" [] (param 1 "x" (number Int64) ∷ []))
    ∷ item 2
    (field_space "w" (param 2 "r" (region (space_of "f" [])) ∷ [])
    (param 2 "a" (points_into (pointer (space_of "f" []) (ref "r" ∷ []))) ∷ []))
    ∷ item 3
    (task "main" [] []
    (line 4 (var_from "s" (new_region (space (int 4)) (space_of "w" (Wild ∷ []))))
    ∷ line 5 (set "s" (at (int 0) ∷ dot "a" ∷ dot "x" ∷ []) (int 1)) ∷ []))
    ∷ []

abbrev pub wild_pointer_breaks : Type 0
wild_pointer_breaks =
    breaches wild_pointer_program ≡ breaks 13 5 ∷ []

-- `wild` in a pointer type's own list, and a region of another field space.
--     fspace f { x : int64 }
--     fspace g { y : int64 }
--     task main()
--       var r = region(ispace(int1d, 4), f)
--       var a = null(int1d(f, wild))
--       var b = null(int1d(g, r))
--     end
abbrev pub wrong_pointers_program : Tree
wrong_pointers_program =
    item 1 (field_space "f" [] (param 1 "x" (number Int64) ∷ []))
    ∷ item 2 (field_space "g" [] (param 2 "y" (number Int64) ∷ []))
    ∷ item 3
    (task "main" [] []
    (line 4 (var_from "r" (new_region (space (int 4)) (space_of "f" [])))
    ∷ line 5 (var "a" (null_expr (pointer (space_of "f" []) (Wild ∷ []))))
    ∷ line 6 (var "b" (null_expr (pointer (space_of "g" []) (ref "r" ∷ [])))) ∷ []))
    ∷ []

abbrev pub wrong_pointers_breaks : Type 0
wrong_pointers_breaks =
    breaches wrong_pointers_program ≡ breaks 13 5 ∷ breaks 13 6 ∷ []

-- A region of another field space than the parameter's.
--     fspace f { x : int64 }
--     fspace g { y : int64 }
--     task t(s : region(ispace(int1d), g)) where reads(s) do end
--     task main()
--       var r = region(ispace(int1d, 4), f)
--       t(r)
--     end
abbrev pub other_space_program : Tree
other_space_program =
    item 1 (field_space "f" [] (param 1 "x" (number Int64) ∷ []))
    ∷ item 2 (field_space "g" [] (param 2 "y" (number Int64) ∷ []))
    ∷ item 3
    (task "t" (param 3 "s" (region (space_of "g" [])) ∷ [])
    (grants (Reads ∷ []) (whole "s" ∷ []) ∷ []) [])
    ∷ item 4
    (task "main" [] []
    (line 5 (var_from "r" (new_region (space (int 4)) (space_of "f" [])))
    ∷ line 6 (call "t" (get "r" ∷ [])) ∷ []))
    ∷ []

abbrev pub other_space_breaks : Type 0
other_space_breaks =
    breaches other_space_program ≡ breaks 14 6 ∷ []

-- An aliased partition for a disjoint parameter, and one of another region.
--     fspace f { x : int64 }
--     task t(r : region(ispace(int1d), f), p : partition(disjoint, r)) end
--     task main()
--       var r = region(ispace(int1d, 4), f)
--       var p = partition(equal, r, ispace(int1d, 2))
--       var q = p | p
--       var s = region(ispace(int1d, 4), f)
--       t(r, p)
--       t(r, q)
--       t(s, p)
--     end
abbrev pub aliased_for_disjoint_program : Tree
aliased_for_disjoint_program =
    item 1 (field_space "f" [] (param 1 "x" (number Int64) ∷ []))
    ∷ item 2
    (task "t" (param 2 "r" (region (space_of "f" [])) ∷ param 2 "p" (partition true "r") ∷ []) []
    [])
    ∷ item 3
    (task "main" [] []
    (line 4 (var_from "r" (new_region (space (int 4)) (space_of "f" [])))
    ∷ line 5 (var_from "p" (equal "r" (space (int 2))))
    ∷ line 6 (var_from "q" (either "p" "p"))
    ∷ line 7 (var_from "s" (new_region (space (int 4)) (space_of "f" [])))
    ∷ line 8 (call "t" (get "r" ∷ get "p" ∷ []))
    ∷ line 9 (call "t" (get "r" ∷ get "q" ∷ []))
    ∷ line 10 (call "t" (get "s" ∷ get "p" ∷ [])) ∷ []))
    ∷ []

abbrev pub aliased_for_disjoint_breaks : Type 0
aliased_for_disjoint_breaks =
    breaches aliased_for_disjoint_program ≡ breaks 15 9 ∷ breaks 15 10 ∷ []

-- An `image` of a partition of another region than the field's.
--     fspace f { x : int1d }
--     task main()
--       var r = region(ispace(int1d, 4), f)
--       var p = partition(equal, r, ispace(int1d, 2))
--       var s = region(ispace(int1d, 4), f)
--       var a = image(s, p, r.x)
--       var b = image(s, p, s.x)
--     end
abbrev pub image_of_another_program : Tree
image_of_another_program =
    item 1 (field_space "f" [] (param 1 "x" (number (Index Int1d)) ∷ []))
    ∷ item 2
    (task "main" [] []
    (line 3 (var_from "r" (new_region (space (int 4)) (space_of "f" [])))
    ∷ line 4 (var_from "p" (equal "r" (space (int 2))))
    ∷ line 5 (var_from "s" (new_region (space (int 4)) (space_of "f" [])))
    ∷ line 6 (var_from "a" (image "s" "p" "r" "x"))
    ∷ line 7 (var_from "b" (image "s" "p" "s" "x")) ∷ []))
    ∷ []

abbrev pub image_of_another_breaks : Type 0
image_of_another_breaks =
    breaches image_of_another_program ≡ breaks 15 7 ∷ []

-- A set operation of partitions of two regions, a partition by a truth, and colours of kind
-- `ptr`.
--     fspace f { x : int64, b : bool }
--     task main()
--       var r = region(ispace(int1d, 4), f)
--       var s = region(ispace(int1d, 4), f)
--       var p = partition(equal, r, ispace(int1d, 2))
--       var q = partition(equal, s, ispace(int1d, 2))
--       var a = p & q
--       var c = partition(r.b, ispace(int1d, 2))
--       var d = partition(equal, r, ispace(ptr, 2))
--     end
abbrev pub set_of_two_parents_program : Tree
set_of_two_parents_program =
    item 1 (field_space "f" [] (param 1 "x" (number Int64) ∷ param 1 "b" Truth ∷ []))
    ∷ item 2
    (task "main" [] []
    (line 3 (var_from "r" (new_region (space (int 4)) (space_of "f" [])))
    ∷ line 4 (var_from "s" (new_region (space (int 4)) (space_of "f" [])))
    ∷ line 5 (var_from "p" (equal "r" (space (int 2))))
    ∷ line 6 (var_from "q" (equal "s" (space (int 2))))
    ∷ line 7 (var_from "a" (both "p" "q"))
    ∷ line 8 (var_from "c" (by_field "r" "b" (space (int 2))))
    ∷ line 9 (var_from "d" (equal "r" (space_expr Ptr (int 2)))) ∷ []))
    ∷ []

abbrev pub set_of_two_parents_breaks : Type 0
set_of_two_parents_breaks =
    breaches set_of_two_parents_program ≡ breaks 15 7 ∷ breaks 15 8 ∷ breaks 15 9 ∷ []

-- A region whose field space has another region as its argument than the parameter says; `wild`
-- agrees with it.
--     fspace f { x : int64 }
--     fspace w(r : region(ispace(int1d), f)) { a : int1d(f, r) }
--     task t(r : region(ispace(int1d), f), s : region(ispace(int1d), w(r))) end
--     task u(s : region(ispace(int1d), w(wild))) end
--     task main()
--       var a = region(ispace(int1d, 4), f)
--       var b = region(ispace(int1d, 4), f)
--       var s = region(ispace(int1d, 4), w(a))
--       t(a, s) u(s)
--       t(b, s)
--     end
abbrev pub other_arguments_program : Tree
other_arguments_program =
    item 1 (field_space "f" [] (param 1 "x" (number Int64) ∷ []))
    ∷ item 2
    (field_space "w" (param 2 "r" (region (space_of "f" [])) ∷ [])
    (param 2 "a" (points_into (pointer (space_of "f" []) (ref "r" ∷ []))) ∷ []))
    ∷ item 3
    (task "t"
    (param 3 "r" (region (space_of "f" []))
    ∷ param 3 "s" (region (space_of "w" (ref "r" ∷ []))) ∷ []) [] [])
    ∷ item 4 (task "u" (param 4 "s" (region (space_of "w" (Wild ∷ []))) ∷ []) [] [])
    ∷ item 5
    (task "main" [] []
    (line 6 (var_from "a" (new_region (space (int 4)) (space_of "f" [])))
    ∷ line 7 (var_from "b" (new_region (space (int 4)) (space_of "f" [])))
    ∷ line 8 (var_from "s" (new_region (space (int 4)) (space_of "w" (ref "a" ∷ []))))
    ∷ line 9 (call "t" (get "a" ∷ get "s" ∷ []))
    ∷ line 9 (call "u" (get "s" ∷ []))
    ∷ line 10 (call "t" (get "b" ∷ get "s" ∷ [])) ∷ []))
    ∷ []

abbrev pub other_arguments_breaks : Type 0
other_arguments_breaks =
    breaches other_arguments_program ≡ breaks 14 10 ∷ []

-- Behind a region and a partition that don't begin as they must, nothing is told of what names them.
--     fspace f { x : int1d }
--     task t(a : region(ispace(int1d), f), b : region(ispace(int1d), f)) where a <= b do end
--     task main()
--       var r = region(ispace(int1d, 4), f)
--       var s = r
--       var p = partition(equal, s, ispace(int1d, 2))
--       var g = image(r, p, r.x)
--       var y : int1d(f, s) = null(int1d(f, s))
--       y.x = 1
--       var z : int1d(f, r) = y
--       var d = partition(equal, r, ispace(int1d, 2))
--       var e = d
--       t(d[0], e[0])
--     end
abbrev pub after_misbegun_program : Tree
after_misbegun_program =
    item 1 (field_space "f" [] (param 1 "x" (number (Index Int1d)) ∷ []))
    ∷ item 2
    (task "t" (param 2 "a" (region (space_of "f" [])) ∷ param 2 "b" (region (space_of "f" [])) ∷ [])
    (Within (codes "a") (codes "b") ∷ []) [])
    ∷ item 3
    (task "main" [] []
    (line 4 (var_from "r" (new_region (space (int 4)) (space_of "f" [])))
    ∷ line 5 (var "s" (get "r"))
    ∷ line 6 (var_from "p" (equal "s" (space (int 2))))
    ∷ line 7 (var_from "g" (image "r" "p" "r" "x"))
    ∷ line 8
    (var_as "y" (points_into (pointer (space_of "f" []) (ref "s" ∷ [])))
    (null_expr (pointer (space_of "f" []) (ref "s" ∷ []))))
    ∷ line 9 (set "y" (dot "x" ∷ []) (int 1))
    ∷ line 10 (var_as "z" (points_into (pointer (space_of "f" []) (ref "r" ∷ []))) (get "y"))
    ∷ line 11 (var_from "d" (equal "r" (space (int 2))))
    ∷ line 12 (var "e" (get "d"))
    ∷ line 13 (call "t" (access "d" (at (int 0) ∷ []) ∷ access "e" (at (int 0) ∷ []) ∷ [])) ∷ []))
    ∷ []

abbrev pub after_misbegun_breaks : Type 0
after_misbegun_breaks =
    breaches after_misbegun_program ≡ breaks 5 5 ∷ breaks 5 12 ∷ []
