-- An accepted program whose tasks keep indices and pointers, go over regions and parts of partitions and are given pointers and
-- parts, so that the law on whole programs is a law of something; and the circuit of worked_examples, whose fields go on behind fields, and
-- whose parts are handed over where a constraint speaks of them.
use Rattle.std.specs.Prelude.{[], ◌∷◌, pos}
use Rattle.regent_tree.specs.Syntax.{assert_form, cast_expr, is_null_expr, null_expr, Tree}
use Rattle.lane_kernels.specs.declared.numbers.Op.TheVariants.{Sum}
use Rattle.regent_tree.specs.declared.expression.Comparison.TheVariants.{Equal}
use Rattle.regent_tree.specs.declared.expression.Arithmetic.TheVariants.{Add}
use Rattle.regent_tree.specs.declared.program.Grant.TheVariants.{Reads, Writes}
use Rattle.regent_tree.specs.declared.types.Kind.TheVariants.{Int1d}
use Rattle.regent_tree.specs.declared.types.NumberTerm.TheVariants.{Index, Int64}
use Rattle.worked_examples.specs.Words.{access, at, calc, call, compare, dot, each, equal, field_space, fields, fill, get, grants, int, item, line, new_region, number, param, pointer, points_into, reduce, ref, region, set, space, space_of, task, var, var_as, var_from, when}
use Rattle.worked_examples.specs.Pointers.{circuit_program}
use Rattle.sound_code.specs.Programs.{ProgramRunsSoundly}
use Rattle.code_laws.specs.AcceptedPrograms.{IsProgramRun}

--     fspace f { x : int64, next : int1d }
--     task follow(r : region(ispace(int1d), f), p : int1d(f, r))
--     where reads writes(r.x), reads(r.next) do
--       p.x = r[p.next].x + 1
--       for q in r do q.x += 1 end
--     end
--     task raise(s : region(ispace(int1d), f)) where reads writes(s.x) do for q in s do q.x += 1 end end
--     task main(n : int64)
--       var r = region(ispace(int1d, 3), f)
--       fill(r.x, n)
--       var i : int1d = 1
--       fill(r.next, i)
--       i = i + 1
--       r[0].next = i
--       var p : int1d(f, r) = null(int1d(f, r))
--       if isnull(p) then p = r[i] end
--       follow(r, p)
--       for q in r do p = dynamic_cast(int1d(f, r), q.next) end
--       assert(p == r[1])
--       var halves = partition(equal, r, ispace(int1d, 2))
--       for c in halves.colors do i = c end
--       for c in halves.colors do
--         for q in halves[c] do
--           var s = q
--           s.x += 1
--           q.next = c
--         end
--         raise(halves[c])
--       end
--     end
abbrev pub follows_program : Tree
follows_program =
    item 1 (field_space "f" [] (param 1 "x" (number Int64) ∷ param 1 "next" (number (Index Int1d)) ∷ []))
    ∷ item 2
    (task "follow" (param 2 "r" (region (space_of "f" [])) ∷ param 2 "p" (points_into (pointer (space_of "f" []) (ref "r" ∷ []))) ∷ [])
    (grants (Reads ∷ Writes ∷ []) (fields "r" ("x" ∷ []) ∷ []) ∷ grants (Reads ∷ []) (fields "r" ("next" ∷ []) ∷ []) ∷ [])
    (line 4 (set "p" (dot "x" ∷ []) (calc (access "r" (at (access "p" (dot "next" ∷ [])) ∷ dot "x" ∷ [])) Add (int 1)))
    ∷ line 5 (each "q" (get "r") (line 5 (reduce "q" (dot "x" ∷ []) Sum (int 1)) ∷ []))
    ∷ []))
    ∷ item 6
    (task "raise" (param 6 "s" (region (space_of "f" [])) ∷ []) (grants (Reads ∷ Writes ∷ []) (fields "s" ("x" ∷ []) ∷ []) ∷ [])
    (line 6 (each "q" (get "s") (line 6 (reduce "q" (dot "x" ∷ []) Sum (int 1)) ∷ [])) ∷ []))
    ∷ item 7
    (task "main" (param 7 "n" (number Int64) ∷ []) []
    (line 8 (var_from "r" (new_region (space (int 3)) (space_of "f" [])))
    ∷ line 9 (fill "r" ("x" ∷ []) (get "n"))
    ∷ line 10 (var_as "i" (number (Index Int1d)) (int 1))
    ∷ line 11 (fill "r" ("next" ∷ []) (get "i"))
    ∷ line 12 (set "i" [] (calc (get "i") Add (int 1)))
    ∷ line 13 (set "r" (at (int 0) ∷ dot "next" ∷ []) (get "i"))
    ∷ line 14 (var_as "p" (points_into (pointer (space_of "f" []) (ref "r" ∷ []))) (null_expr (pointer (space_of "f" []) (ref "r" ∷ []))))
    ∷ line 15 (when (is_null_expr (get "p")) (line 15 (set "p" [] (access "r" (at (get "i") ∷ []))) ∷ []))
    ∷ line 16 (call "follow" (get "r" ∷ get "p" ∷ []))
    ∷ line 17 (each "q" (get "r")
    (line 17 (set "p" [] (cast_expr (pointer (space_of "f" []) (ref "r" ∷ [])) (access "q" (dot "next" ∷ [])))) ∷ []))
    ∷ line 18 (assert_form (compare (get "p") Equal (access "r" (at (int 1) ∷ []))))
    ∷ line 19 (var_from "halves" (equal "r" (space (int 2))))
    ∷ line 20 (each "c" (access "halves" (dot "colors" ∷ [])) (line 20 (set "i" [] (get "c")) ∷ []))
    ∷ line 21 (each "c" (access "halves" (dot "colors" ∷ []))
    (line 22 (each "q" (access "halves" (at (get "c") ∷ []))
    (line 23 (var "s" (get "q"))
    ∷ line 24 (reduce "s" (dot "x" ∷ []) Sum (int 1))
    ∷ line 25 (set "q" (dot "next" ∷ []) (get "c"))
    ∷ []))
    ∷ line 26 (call "raise" (access "halves" (at (get "c") ∷ []) ∷ []))
    ∷ []))
    ∷ []))
    ∷ []

-- each premise of the law holds of it, and so it runs soundly
pub record WholeExampleHolds : Type 0 where
  pub run : IsProgramRun follows_program (pos 2 ∷ [])
  pub sound : ProgramRunsSoundly follows_program (pos 2 ∷ [])

pub record CircuitIsSound : Type 0 where
  pub run : IsProgramRun circuit_program []
  pub sound : ProgramRunsSoundly circuit_program []
