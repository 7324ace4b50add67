-- Demanded loops that are index launches, and one for each reason against it.
use Rattle.std.specs.Prelude.{◌≡◌, [], ◌∷◌, Some, None}
use Rattle.regent_tree.specs.Syntax.{Tree, convert_expr}
use Rattle.regent_tree.specs.declared.program.Grant.TheVariants.{Reads, Writes}
use Rattle.regent_tree.specs.declared.types.NumberTerm.TheVariants.{Int64}
use Rattle.index_launch.specs.declared.view.LaunchShape.TheVariants.{Launch, Plain}
use Rattle.index_launch.specs.declared.view.Reason.TheVariants as reason
use Rattle.worked_examples.specs.Words.{access, at, call, count, each, equal, field_space, fields, get, grants, int, item, launch, line, new_region, number, param, region, space, space_of, task, var, var_from}
use Rattle.check_rules.specs.Breaches.{interference_lines, launch_lines}
use Rattle.check_rules.specs.launches.Shapes.{shape_on}

--     fspace f { x : int64 }
--     task w(r : region(ispace(int1d), f)) where reads writes(r.x) do end
--     task q(r : region(ispace(int1d), f)) where reads(r.x) do end
--     task n(k : int64) end
--     task u(a : region(ispace(int1d), f), b : region(ispace(int1d), f))
--     where reads writes(a.x), reads(b.x) do end
--     task main()
--       var r = region(ispace(int1d, 4), f)
--       var s = region(ispace(int1d, 4), f)
--       var c = ispace(int1d, 2)
--       var p = partition(equal, r, c)
--       <the loops below, under demands>
--     end
abbrev pub loops_program : Tree
loops_program =
    item 1 (field_space "f" [] (param 1 "x" (number Int64) ∷ []))
    ∷ item 2
    (task "w" (param 2 "r" (region (space_of "f" [])) ∷ [])
    (grants (Reads ∷ Writes ∷ []) (fields "r" ("x" ∷ []) ∷ []) ∷ []) [])
    ∷ item 3
    (task "q" (param 3 "r" (region (space_of "f" [])) ∷ [])
    (grants (Reads ∷ []) (fields "r" ("x" ∷ []) ∷ []) ∷ []) [])
    ∷ item 4 (task "n" (param 4 "k" (number Int64) ∷ []) [] [])
    ∷ item 5
    (task "u" (param 5 "a" (region (space_of "f" [])) ∷ param 5 "b" (region (space_of "f" [])) ∷ [])
    (grants (Reads ∷ Writes ∷ []) (fields "a" ("x" ∷ []) ∷ []) ∷ grants (Reads ∷ []) (fields "b" ("x" ∷ []) ∷ []) ∷ []) [])
    ∷ item 7
    (task "main" [] []
    (line 8 (var_from "r" (new_region (space (int 4)) (space_of "f" [])))
    ∷ line 9 (var_from "s" (new_region (space (int 4)) (space_of "f" [])))
    ∷ line 10 (var "c" (space (int 2)))
    ∷ line 11 (var_from "p" (equal "r" (get "c")))
    -- q(r), w(p[k]), n(k), n(int64(k)), n(7), u(p[k], s)
    ∷ line 12 (launch "k" (get "c") (line 12 (call "q" (get "r" ∷ [])) ∷ []))
    ∷ line 13 (launch "k" (get "c") (line 13 (call "w" (access "p" (at (get "k") ∷ []) ∷ [])) ∷ []))
    ∷ line 14 (launch "k" (get "c") (line 14 (call "n" (get "k" ∷ [])) ∷ []))
    ∷ line 15 (launch "k" (get "c") (line 15 (call "n" (convert_expr Int64 (get "k") ∷ [])) ∷ []))
    ∷ line 16 (launch "k" (get "c") (line 16 (call "n" (int 7 ∷ [])) ∷ []))
    ∷ line 17 (launch "k" (get "c") (line 17 (call "u" (access "p" (at (get "k") ∷ []) ∷ get "s" ∷ [])) ∷ []))
    -- w(r): the one region at each colour; u(p[k], r): other colours' points lie in the root too
    ∷ line 18 (launch "k" (get "c") (line 18 (call "w" (get "r" ∷ [])) ∷ []))
    ∷ line 19 (launch "k" (get "c") (line 19 (call "u" (access "p" (at (get "k") ∷ []) ∷ get "r" ∷ [])) ∷ []))
    -- over a region; two calls; a colour that is a number; a loop without a demand
    ∷ line 20 (launch "k" (get "r") (line 20 (call "q" (get "r" ∷ [])) ∷ []))
    ∷ line 21 (launch "k" (get "c") (line 21 (call "q" (get "r" ∷ [])) ∷ line 21 (call "q" (get "r" ∷ [])) ∷ []))
    ∷ line 22 (launch "k" (get "c") (line 22 (call "w" (access "p" (at (int 0) ∷ []) ∷ [])) ∷ []))
    ∷ line 23 (each "k" (get "c") (line 23 (call "w" (access "p" (at (int 0) ∷ []) ∷ [])) ∷ []))
    ∷ line 24 (count "i" (int 0) (int 4) (line 24 (call "n" (get "i" ∷ [])) ∷ []))
    ∷ []))
    ∷ []

abbrev pub LoopsAreTold : Type 0
LoopsAreTold = (launch_lines loops_program ≡ 20 ∷ 21 ∷ 22 ∷ []) × (interference_lines loops_program ≡ 18 ∷ 19 ∷ [])

-- all loops have shapes, whether they are under a demand or not
abbrev pub ShapesAreTold : Type 0
ShapesAreTold = (shape_on loops_program 17 0 ≡ Some Launch)
    × (shape_on loops_program 19 0 ≡ Some (Plain (reason.Interferes 0 1)))
    × (shape_on loops_program 23 0 ≡ Some (Plain (reason.Argument 0)))
    × (shape_on loops_program 24 0 ≡ Some (Plain reason.NotOverSpace))
    × (shape_on loops_program 24 1 ≡ None)
