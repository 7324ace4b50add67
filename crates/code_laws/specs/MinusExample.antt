-- An accepted program with a variable of a written partition type that begins with the difference of two partitions, and one of a
-- written region type that begins as a part of that.
use Rattle.std.specs.Prelude.{◌≡◌, [], ◌∷◌, true}
use Rattle.regent_tree.specs.Meaning.{meaning}
use Rattle.regent_tree.specs.Syntax.{Tree}
use Rattle.regent_tree.specs.declared.expression.Arithmetic.TheVariants.{Subtract}
use Rattle.regent_tree.specs.declared.types.NumberTerm.TheVariants.{Int64}
use Rattle.worked_examples.specs.Words.{access, at, calc, dot, each, equal, field_space, get, int, item, line, naturals, new_region, number, param, partition, prints, region, root, set, space, space_of, task, var_as, var_from}
use Rattle.code_laws.specs.AcceptedPrograms.{IsProgramRun}

--     fspace f { x : int64 }
--     task main()
--       var r = region(ispace(int1d, 3), f)
--       var p = partition(equal, r, ispace(int1d, 1))
--       var q = partition(equal, r, ispace(int1d, 3))
--       var d : partition(disjoint, r) = p - q
--       var s : region(ispace(int1d), f) = d[0]
--       for e in s do e.x = 7 end
--     end
abbrev pub minus_program : Tree
minus_program =
    item 1 (field_space "f" [] (param 1 "x" (number Int64) ∷ []))
    ∷ item 2
    (task "main" [] []
    (line 3 (var_from "r" (new_region (space (int 3)) (space_of "f" [])))
    ∷ line 4 (var_from "p" (equal "r" (space (int 1))))
    ∷ line 5 (var_from "q" (equal "r" (space (int 3))))
    ∷ line 6 (var_as "d" (partition true "r") (calc (get "p") Subtract (get "q")))
    ∷ line 7 (var_as "s" (region (space_of "f" [])) (access "d" (at (int 0) ∷ [])))
    ∷ line 8 (each "e" (get "s") (line 8 (set "e" (dot "x" ∷ []) (int 7)) ∷ []))
    ∷ []))
    ∷ []

-- Each premise of the law holds of it. What p has at its colour is taken off by what q has at the same one, which is the first point.
pub record MinusExampleHolds : Type 0 where
  pub run : IsProgramRun minus_program []
  pub end_is : meaning minus_program [] 100 ≡ prints "" (root 0 3 (naturals (0 ∷ 7 ∷ 7 ∷ []) ∷ []) ∷ [])
