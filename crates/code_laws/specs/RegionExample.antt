-- A program whose one task makes a root, and has accesses of every kind that the law on regions treats.
use Rattle.std.specs.Prelude.{◌≡◌, [], ◌∷◌, pos}
use Rattle.lane_kernels.specs.declared.numbers.Op.TheVariants.{Sum}
use Rattle.regent_tree.specs.Meaning.{meaning}
use Rattle.regent_tree.specs.Syntax.{Tree, convert_expr}
use Rattle.regent_tree.specs.declared.outcome.FaultKind.TheVariants.{OutOfRegion}
use Rattle.regent_tree.specs.declared.types.NumberTerm.TheVariants.{Int32, Int64}
use Rattle.worked_examples.specs.Words.{access, at, count, dot, each, faults, field_space, fill, get, int, item, line, naturals, new_region, number, param, print, prints, reduce, root, set, space, space_of, task, var_from}
use Rattle.code_laws.specs.Programs.{IsTypedRun, region_forms}

--     fspace f { x : int, y : int64 }
--     task main(n : int)
--       var r = region(ispace(int1d, 3), f)
--       fill(r.{x, y}, 7)
--       r[1].x = n
--       for k = 0, n do r[k].y += r[1].x end
--       for i in ispace(int1d, 2) do r[i].x += int(i) end
--       regentlib.c.printf("%d %lld\n", r[1].x, r[0].y)
--     end
abbrev pub regions_program : Tree
regions_program =
    item 1 (field_space "f" [] (param 1 "x" (number Int32) ∷ param 1 "y" (number Int64) ∷ []))
    ∷ item 2
    (task "main" (param 2 "n" (number Int32) ∷ []) []
    (line 3 (var_from "r" (new_region (space (int 3)) (space_of "f" [])))
    ∷ line 4 (fill "r" ("x" ∷ "y" ∷ []) (int 7))
    ∷ line 5 (set "r" (at (int 1) ∷ dot "x" ∷ []) (get "n"))
    ∷ line 6 (count "k" (int 0) (get "n")
    (line 6 (reduce "r" (at (get "k") ∷ dot "y" ∷ []) Sum (access "r" (at (int 1) ∷ dot "x" ∷ []))) ∷ []))
    ∷ line 7 (each "i" (space (int 2))
    (line 7 (reduce "r" (at (get "i") ∷ dot "x" ∷ []) Sum (convert_expr Int32 (get "i"))) ∷ []))
    ∷ line 8 (print "%d %lld\n" (access "r" (at (int 1) ∷ dot "x" ∷ []) ∷ access "r" (at (int 0) ∷ dot "y" ∷ []) ∷ []))
    ∷ []))
    ∷ []

-- The premises of the law hold of it. With 2 for its number it ends with its root, with 4 there is a point that
-- its region lacks.
pub record RegionExampleHolds : Type 0 where
  pub ends : IsTypedRun region_forms regions_program (pos 2 ∷ [])
  pub faults_too : IsTypedRun region_forms regions_program (pos 4 ∷ [])
  pub end_is : meaning regions_program (pos 2 ∷ []) 100 ≡ prints "3 9\n"
      (root 0 3 (naturals (7 ∷ 3 ∷ 7 ∷ []) ∷ naturals (9 ∷ 9 ∷ 7 ∷ []) ∷ []) ∷ [])
  pub fault_is : meaning regions_program (pos 4 ∷ []) 100 ≡ faults "" OutOfRegion 6
