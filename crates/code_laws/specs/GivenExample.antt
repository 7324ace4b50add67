-- An accepted program with a task that gives an index, which a variable begins with and is assigned.
use Rattle.std.specs.Prelude.{◌≡◌, [], ◌∷◌, pos}
use Rattle.regent_tree.specs.Meaning.{meaning}
use Rattle.regent_tree.specs.Syntax.{Tree, convert_expr}
use Rattle.regent_tree.specs.declared.expression.Arithmetic.TheVariants.{Add, Remainder}
use Rattle.regent_tree.specs.declared.outcome.FaultKind.TheVariants.{DivideByZero}
use Rattle.regent_tree.specs.declared.types.Kind.TheVariants.{Int1d}
use Rattle.regent_tree.specs.declared.types.NumberTerm.TheVariants.{Index, Int32}
use Rattle.worked_examples.specs.Words.{calc, call_of, faults, get, give, int, item, line, number, param, print, prints, set, task, task_giving, var}
use Rattle.code_laws.specs.AcceptedPrograms.{IsProgramRun}

--     task next(k : int1d, n : int) : int1d
--       return (k + 1) % n
--     end
--     task main(n : int)
--       var k = next(2, n)
--       k = next(k, n)
--       regentlib.c.printf("%d\n", int(k))
--     end
abbrev pub giving_program : Tree
giving_program =
    item 1
    (task_giving (number (Index Int1d)) "next" (param 1 "k" (number (Index Int1d)) ∷ param 1 "n" (number Int32) ∷ []) []
    (line 2 (give (calc (calc (get "k") Add (int 1)) Remainder (get "n"))) ∷ []))
    ∷ item 4
    (task "main" (param 4 "n" (number Int32) ∷ []) []
    (line 5 (var "k" (call_of "next" (int 2 ∷ get "n" ∷ [])))
    ∷ line 6 (set "k" [] (call_of "next" (get "k" ∷ get "n" ∷ [])))
    ∷ line 7 (print "%d\n" (convert_expr Int32 (get "k") ∷ []))
    ∷ []))
    ∷ []

-- Each premise of the law holds of it. With 3 the program goes from 2 by 0 to 1, and
-- with 0 it divides by 0 in the called task.
pub record GivenExampleHolds : Type 0 where
  pub run : IsProgramRun giving_program (pos 3 ∷ [])
  pub end_is : meaning giving_program (pos 3 ∷ []) 100 ≡ prints "1\n" []
  pub fault_run : IsProgramRun giving_program (pos 0 ∷ [])
  pub fault_is : meaning giving_program (pos 0 ∷ []) 100 ≡ faults "" DivideByZero 2
