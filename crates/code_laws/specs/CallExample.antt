-- A program whose task calls another that makes a root, with a result and without need of it.
use Rattle.std.specs.Prelude.{◌≡◌, [], ◌∷◌, pos}
use Rattle.regent_tree.specs.Meaning.{meaning}
use Rattle.regent_tree.specs.Syntax.{Tree}
use Rattle.regent_tree.specs.declared.expression.Arithmetic.TheVariants.{Add}
use Rattle.regent_tree.specs.declared.outcome.FaultKind.TheVariants.{Turns}
use Rattle.regent_tree.specs.declared.types.NumberTerm.TheVariants.{Int64}
use Rattle.worked_examples.specs.Words.{access, at, calc, call, call_of, dot, faults, field_space, get, give, int, item, line, naturals, new_region, number, param, print, prints, root, set, space, space_of, task, task_giving, var_from}
use Rattle.code_laws.specs.Programs.{AreTypedTasks, IsTypedRun, call_forms}

--     fspace f { x : int64 }
--     task twice(n : int64) : int64
--       var r = region(ispace(int1d, 1), f)
--       r[0].x = n + n
--       return r[0].x
--     end
--     task main(n : int64)
--       var r = region(ispace(int1d, 2), f)
--       r[0].x = twice(n)
--       twice(3)
--       r[1].x = twice(r[0].x)
--       regentlib.c.printf("%lld\n", r[1].x)
--     end
abbrev pub calls_program : Tree
calls_program =
    item 1 (field_space "f" [] (param 1 "x" (number Int64) ∷ []))
    ∷ item 2
    (task_giving (number Int64) "twice" (param 2 "n" (number Int64) ∷ []) []
    (line 3 (var_from "r" (new_region (space (int 1)) (space_of "f" [])))
    ∷ line 4 (set "r" (at (int 0) ∷ dot "x" ∷ []) (calc (get "n") Add (get "n")))
    ∷ line 5 (give (access "r" (at (int 0) ∷ dot "x" ∷ [])))
    ∷ []))
    ∷ item 7
    (task "main" (param 7 "n" (number Int64) ∷ []) []
    (line 8 (var_from "r" (new_region (space (int 2)) (space_of "f" [])))
    ∷ line 9 (set "r" (at (int 0) ∷ dot "x" ∷ []) (call_of "twice" (get "n" ∷ [])))
    ∷ line 10 (call "twice" (int 3 ∷ []))
    ∷ line 11 (set "r" (at (int 1) ∷ dot "x" ∷ []) (call_of "twice" (access "r" (at (int 0) ∷ dot "x" ∷ []) ∷ [])))
    ∷ line 12 (print "%lld\n" (access "r" (at (int 1) ∷ dot "x" ∷ []) ∷ []))
    ∷ []))
    ∷ []

-- The premises of the law hold of it. With five turns it ends, with two the third call is a fault.
pub record CallExampleHolds : Type 0 where
  pub tasks : AreTypedTasks calls_program
  pub run : IsTypedRun call_forms calls_program (pos 5 ∷ [])
  pub end_is : meaning calls_program (pos 5 ∷ []) 5 ≡ prints "20\n" (root 0 2 (naturals (10 ∷ 20 ∷ []) ∷ []) ∷ [])
  pub fault_is : meaning calls_program (pos 5 ∷ []) 2 ≡ faults "" Turns 11
