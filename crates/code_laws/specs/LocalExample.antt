-- An accepted program whose tasks keep their regions to themselves: a histogram, with a task that gives the bin of a number,
-- and one that makes a region of its own.
use Rattle.std.specs.Prelude.{◌≡◌, [], ◌∷◌, pos}
use Rattle.lane_kernels.specs.declared.numbers.Op.TheVariants.{Sum}
use Rattle.regent_tree.specs.Meaning.{meaning}
use Rattle.regent_tree.specs.Syntax.{Tree, assert_form}
use Rattle.regent_tree.specs.declared.expression.Arithmetic.TheVariants.{Add, Multiply, Remainder}
use Rattle.regent_tree.specs.declared.expression.Comparison.TheVariants.{Greater, Less}
use Rattle.regent_tree.specs.declared.outcome.FaultKind.TheVariants.{AssertFailed}
use Rattle.regent_tree.specs.declared.types.NumberTerm.TheVariants.{Int32, Int64}
use Rattle.worked_examples.specs.Words.{access, at, calc, call, call_of, compare, count, dot, each, faults, field_space, fill, get, give, int, item, line, naturals, new_region, number, param, print, prints, reduce, root, set, space, space_of, task, task_giving, var, var_from, when}
use Rattle.code_laws.specs.AcceptedPrograms.{IsProgramRun, IsPlainProgramRun}

--     fspace bin { count : int, share : int64 }
--     task bin_of(n : int) : int
--       return n % 3
--     end
--     task tell(n : int64)
--       var s = ispace(int1d, 2)
--       var r = region(s, bin)
--       fill(r.share, n)
--       regentlib.c.printf("%lld\n", r[1].share)
--     end
--     task main(n : int)
--       var s = ispace(int1d, 3)
--       var bins = region(s, bin)
--       for k = 0, n do
--         bins[bin_of(k)].count += 1
--       end
--       var total = 0
--       for i in s do
--         bins[i].share = bins[i].count * 10
--         if i > 0 then total = total + bins[i].count end
--       end
--       assert(total < 4)
--       tell(bins[0].share)
--       regentlib.c.printf("%d\n", total)
--     end
abbrev pub local_program : Tree
local_program =
    item 1 (field_space "bin" [] (param 1 "count" (number Int32) ∷ param 1 "share" (number Int64) ∷ []))
    ∷ item 2
    (task_giving (number Int32) "bin_of" (param 2 "n" (number Int32) ∷ []) []
    (line 3 (give (calc (get "n") Remainder (int 3))) ∷ []))
    ∷ item 5
    (task "tell" (param 5 "n" (number Int64) ∷ []) []
    (line 6 (var "s" (space (int 2)))
    ∷ line 7 (var_from "r" (new_region (get "s") (space_of "bin" [])))
    ∷ line 8 (fill "r" ("share" ∷ []) (get "n"))
    ∷ line 9 (print "%lld\n" (access "r" (at (int 1) ∷ dot "share" ∷ []) ∷ []))
    ∷ []))
    ∷ item 11
    (task "main" (param 11 "n" (number Int32) ∷ []) []
    (line 12 (var "s" (space (int 3)))
    ∷ line 13 (var_from "bins" (new_region (get "s") (space_of "bin" [])))
    ∷ line 14 (count "k" (int 0) (get "n")
    (line 15 (reduce "bins" (at (call_of "bin_of" (get "k" ∷ [])) ∷ dot "count" ∷ []) Sum (int 1)) ∷ []))
    ∷ line 17 (var "total" (int 0))
    ∷ line 18 (each "i" (get "s")
    (line 19 (set "bins" (at (get "i") ∷ dot "share" ∷ []) (calc (access "bins" (at (get "i") ∷ dot "count" ∷ [])) Multiply (int 10)))
    ∷ line 20 (when (compare (get "i") Greater (int 0))
    (line 20 (set "total" [] (calc (get "total") Add (access "bins" (at (get "i") ∷ dot "count" ∷ [])))) ∷ []))
    ∷ []))
    ∷ line 22 (assert_form (compare (get "total") Less (int 4)))
    ∷ line 23 (call "tell" (access "bins" (at (int 0) ∷ dot "share" ∷ []) ∷ []))
    ∷ line 24 (print "%d\n" (get "total" ∷ []))
    ∷ []))
    ∷ []

-- Each premise of the law holds of it. With 5 for its number it ends with its root, with 7 the assertion fails.
pub record LocalExampleHolds : Type 0 where
  pub run : IsProgramRun local_program (pos 5 ∷ [])
  pub plain : IsPlainProgramRun local_program (pos 5 ∷ [])
  pub end_is : meaning local_program (pos 5 ∷ []) 100 ≡ prints "20\n3\n"
      (root 0 3 (naturals (2 ∷ 2 ∷ 1 ∷ []) ∷ naturals (20 ∷ 20 ∷ 10 ∷ []) ∷ []) ∷ [])
  pub fault_run : IsProgramRun local_program (pos 7 ∷ [])
  pub fault_is : meaning local_program (pos 7 ∷ []) 100 ≡ faults "" AssertFailed 22
