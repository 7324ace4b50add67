-- A program whose task calls another that loops over a region of its own.
use Rattle.std.specs.Prelude.{◌≡◌, [], ◌∷◌, pos}
use Rattle.lane_kernels.specs.declared.numbers.Op.TheVariants.{Sum}
use Rattle.regent_tree.specs.Meaning.{meaning}
use Rattle.regent_tree.specs.Syntax.{Tree, convert_expr}
use Rattle.regent_tree.specs.declared.outcome.FaultKind.TheVariants.{Turns}
use Rattle.regent_tree.specs.declared.types.NumberTerm.TheVariants.{Int32}
use Rattle.worked_examples.specs.Words.{access, call_of, dot, each, faults, field_space, get, give, int, item, line, new_region, number, param, print, prints, reduce, set, space, space_of, task, task_giving, var, var_from}
use Rattle.code_laws.specs.Programs.{AreTypedTasksOf, IsTypedRun, all_forms}

--     fspace f { x : int }
--     task total(n : int) : int
--       var r = region(ispace(int1d, n), f)
--       for p in r do p.x = int(p) end
--       var s = 0
--       for p in r do s += p.x end
--       return s
--     end
--     task main(n : int)
--       regentlib.c.printf("%d\n", total(n))
--     end
abbrev pub totals_program : Tree
totals_program =
    item 1 (field_space "f" [] (param 1 "x" (number Int32) ∷ []))
    ∷ item 2
    (task_giving (number Int32) "total" (param 2 "n" (number Int32) ∷ []) []
    (line 3 (var_from "r" (new_region (space (get "n")) (space_of "f" [])))
    ∷ line 4 (each "p" (get "r") (line 4 (set "p" (dot "x" ∷ []) (convert_expr Int32 (get "p"))) ∷ []))
    ∷ line 5 (var "s" (int 0))
    ∷ line 6 (each "p" (get "r") (line 6 (reduce "s" [] Sum (access "p" (dot "x" ∷ []))) ∷ []))
    ∷ line 7 (give (get "s"))
    ∷ []))
    ∷ item 9
    (task "main" (param 9 "n" (number Int32) ∷ []) []
    (line 10 (print "%d\n" (call_of "total" (get "n" ∷ []) ∷ []))
    ∷ []))
    ∷ []

-- The premises of the law hold of it. With twenty turns it ends, with five the second loop is a fault.
pub record PointerCallExampleHolds : Type 0 where
  pub tasks : AreTypedTasksOf all_forms totals_program
  pub run : IsTypedRun all_forms totals_program (pos 4 ∷ [])
  pub end_is : meaning totals_program (pos 4 ∷ []) 20 ≡ prints "6\n" []
  pub fault_is : meaning totals_program (pos 4 ∷ []) 5 ≡ faults "" Turns 6
