-- An accepted program with loops that are index launches, so that the law on whole programs is a law of something there: the calls hand
-- over parts of a partition, a region, a partition and a pointer that have names, the colour, the same as a number, and a literal.
use Rattle.std.specs.Prelude.{◌≡◌, [], ◌∷◌, codes, pos, Some, true}
use Rattle.index_launch.specs.declared.view.LaunchShape.TheVariants.{Launch}
use Rattle.lane_kernels.specs.declared.numbers.Op.TheVariants.{Sum}
use Rattle.regent_tree.specs.Syntax.{convert_expr, Tree}
use Rattle.regent_tree.specs.declared.program.Clause.TheVariants as clause
use Rattle.regent_tree.specs.declared.program.Grant.TheVariants.{Reads, Writes}
use Rattle.regent_tree.specs.declared.types.Kind.TheVariants.{Int1d}
use Rattle.regent_tree.specs.declared.types.NumberTerm.TheVariants.{Index, Int64}
use Rattle.check_rules.specs.launches.Shapes.{shape_on}
use Rattle.worked_examples.specs.Words.{access, at, call, dot, each, equal, field_space, fields, fill, get, grants, int, item, line, new_region, number, param, partition, pointer, points_into, reduce, ref, region, space, space_of, task, var, var_from}
use Rattle.sound_code.specs.Programs.{ProgramRunsSoundly}
use Rattle.code_laws.specs.AcceptedPrograms.{IsProgramRun}

--     fspace f { x : int64, y : int64 }
--     task raise(s : region(ispace(int1d), f), a : region(ispace(int1d), f), p : partition(disjoint, a), e : int1d(f, a), i : int1d, k : int64, n : int64)
--     where reads writes(s.x), reads(a.y), s <= a do
--       for q in s do q.x += e.y end
--     end
--     task show(k : int64, n : int64)
--     end
--     task main(n : int64)
--       var r = region(ispace(int1d, 4), f)
--       fill(r.x, n)
--       fill(r.y, n)
--       var p = partition(equal, r, ispace(int1d, 2))
--       var e = r[1]
--       for c in p.colors do
--         raise(p[c], r, p, e, c, int64(c), 1)
--       end
--       for c in ispace(int1d, n) do
--         show(int64(c), n)
--       end
--     end
abbrev pub launched_program : Tree
launched_program =
    item 1 (field_space "f" [] (param 1 "x" (number Int64) ∷ param 1 "y" (number Int64) ∷ []))
    ∷ item 2
    (task "raise"
    (param 2 "s" (region (space_of "f" [])) ∷ param 2 "a" (region (space_of "f" [])) ∷ param 2 "p" (partition true "a")
    ∷ param 2 "e" (points_into (pointer (space_of "f" []) (ref "a" ∷ []))) ∷ param 2 "i" (number (Index Int1d)) ∷ param 2 "k" (number Int64)
    ∷ param 2 "n" (number Int64) ∷ [])
    (grants (Reads ∷ Writes ∷ []) (fields "s" ("x" ∷ []) ∷ []) ∷ grants (Reads ∷ []) (fields "a" ("y" ∷ []) ∷ [])
    ∷ clause.Within (codes "s") (codes "a") ∷ [])
    (line 4 (each "q" (get "s") (line 4 (reduce "q" (dot "x" ∷ []) Sum (access "e" (dot "y" ∷ []))) ∷ [])) ∷ []))
    ∷ item 6 (task "show" (param 6 "k" (number Int64) ∷ param 6 "n" (number Int64) ∷ []) [] [])
    ∷ item 8
    (task "main" (param 8 "n" (number Int64) ∷ []) []
    (line 9 (var_from "r" (new_region (space (int 4)) (space_of "f" [])))
    ∷ line 10 (fill "r" ("x" ∷ []) (get "n"))
    ∷ line 11 (fill "r" ("y" ∷ []) (get "n"))
    ∷ line 12 (var_from "p" (equal "r" (space (int 2))))
    ∷ line 13 (var "e" (access "r" (at (int 1) ∷ [])))
    ∷ line 14 (each "c" (access "p" (dot "colors" ∷ []))
    (line 15 (call "raise" (access "p" (at (get "c") ∷ []) ∷ get "r" ∷ get "p" ∷ get "e" ∷ get "c" ∷ convert_expr Int64 (get "c") ∷ int 1 ∷ [])) ∷ []))
    ∷ line 17 (each "c" (space (get "n")) (line 18 (call "show" (convert_expr Int64 (get "c") ∷ get "n" ∷ [])) ∷ []))
    ∷ []))
    ∷ []

-- the loops are launches, and each premise of the law holds of the program, and so it runs soundly
pub record LaunchedExampleHolds : Type 0 where
  pub first : shape_on launched_program 14 0 ≡ Some Launch
  pub second : shape_on launched_program 17 0 ≡ Some Launch
  pub run : IsProgramRun launched_program (pos 2 ∷ [])
  pub sound : ProgramRunsSoundly launched_program (pos 2 ∷ [])
