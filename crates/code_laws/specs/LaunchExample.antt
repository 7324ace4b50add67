-- A program whose loop is a launch over as many colours as its input says: all that a partition has, or more.
use Rattle.std.specs.Prelude.{◌≡◌, [], ◌∷◌, Some, pos}
use Rattle.index_launch.specs.declared.view.LaunchShape.TheVariants.{Launch}
use Rattle.regent_tree.specs.Meaning.{meaning}
use Rattle.regent_tree.specs.Syntax.{Tree, convert_expr}
use Rattle.regent_tree.specs.declared.outcome.FaultKind.TheVariants.{BadColor, Turns}
use Rattle.regent_tree.specs.declared.program.Grant.TheVariants.{Reads}
use Rattle.regent_tree.specs.declared.types.NumberTerm.TheVariants.{Int64}
use Rattle.machine_terms.specs.Jobs.{order_run}
use Rattle.check_rules.specs.launches.Shapes.{shape_on}
use Rattle.worked_examples.specs.Words.{access, at, call, each, equal, faults, field_space, fields, get, grants, int, item, line, naturals, new_region, number, param, print, prints, region, root, space, space_of, task, var_from}
use Rattle.code_laws.specs.AcceptedPrograms.{IsProgramRun}
use Rattle.code_laws.specs.Programs.{job_of}

--     fspace f { x : int64 }
--     task show(r : region(ispace(int1d), f), k : int64, n : int64) where reads(r.x) do
--       regentlib.c.printf("%lld of %lld\n", k, n)
--     end
--     task main(n : int64)
--       var a = region(ispace(int1d, 4), f)
--       var p = partition(equal, a, ispace(int1d, 2))
--       for c in ispace(int1d, n) do
--         show(p[c], int64(c), n)
--       end
--     end
abbrev pub launching_program : Tree
launching_program =
    item 1 (field_space "f" [] (param 1 "x" (number Int64) ∷ []))
    ∷ item 2
    (task "show" (param 2 "r" (region (space_of "f" [])) ∷ param 2 "k" (number Int64) ∷ param 2 "n" (number Int64) ∷ [])
    (grants (Reads ∷ []) (fields "r" ("x" ∷ []) ∷ []) ∷ [])
    (line 3 (print "%lld of %lld\n" (get "k" ∷ get "n" ∷ [])) ∷ []))
    ∷ item 5
    (task "main" (param 5 "n" (number Int64) ∷ []) []
    (line 6 (var_from "a" (new_region (space (int 4)) (space_of "f" [])))
    ∷ line 7 (var_from "p" (equal "a" (space (int 2))))
    ∷ line 8 (each "c" (space (get "n")) (line 9 (call "show" (access "p" (at (get "c") ∷ []) ∷ convert_expr Int64 (get "c") ∷ get "n" ∷ [])) ∷ []))
    ∷ []))
    ∷ []

-- The loop is a launch, and each premise of the law holds. With two colours all calls run. With five the calls at the first
-- two print, and the one in the middle is a fault, also where the code is run in order; with three turns the second call is one.
pub record LaunchExampleHolds : Type 0 where
  pub launched : shape_on launching_program 8 0 ≡ Some Launch
  pub run : IsProgramRun launching_program (pos 2 ∷ [])
  pub end_is : meaning launching_program (pos 2 ∷ []) 100 ≡ prints "0 of 2\n1 of 2\n" (root 0 4 (naturals (0 ∷ 0 ∷ 0 ∷ 0 ∷ []) ∷ []) ∷ [])
  pub fault_run : IsProgramRun launching_program (pos 5 ∷ [])
  pub fault_is : order_run (job_of launching_program (pos 5 ∷ []) 100) ≡ faults "0 of 5\n1 of 5\n" BadColor 9
  pub turns_are : order_run (job_of launching_program (pos 5 ∷ []) 3) ≡ faults "0 of 5\n" Turns 9
