-- An accepted program in whose calls constraints speak of two parts of one partition, so that the law on whole programs is a law of
-- something there: parts of different colours share no point, and a part lies within itself, by a number, by a loop's index and by the
-- point of a loop's pointer.
use Rattle.std.specs.Prelude.{[], ◌∷◌, codes, pos}
use Rattle.lane_kernels.specs.declared.numbers.Op.TheVariants.{Sum}
use Rattle.regent_tree.specs.Syntax.{Tree}
use Rattle.regent_tree.specs.declared.expression.Arithmetic.TheVariants.{Add}
use Rattle.regent_tree.specs.declared.program.Clause.TheVariants as clause
use Rattle.regent_tree.specs.declared.program.Grant.TheVariants.{Reads, Writes}
use Rattle.regent_tree.specs.declared.types.NumberTerm.TheVariants.{Int64}
use Rattle.worked_examples.specs.Words.{access, apart, at, calc, call, call_of, dot, each, equal, field_space, fields, fill, get, give, grants, int, item, line, new_region, number, param, reduce, region, space, space_of, task, task_giving, var_from}
use Rattle.sound_code.specs.Programs.{ProgramRunsSoundly}
use Rattle.code_laws.specs.AcceptedPrograms.{IsProgramRun}

--     fspace f { x : int64 }
--     task next(n : int64) : int64 return n + 1 end
--     task move(a : region(ispace(int1d), f), n : int64, b : region(ispace(int1d), f)) where reads writes(a.x), reads(b.x), a * b do
--       for q in a do q.x += n end
--     end
--     task keep(a : region(ispace(int1d), f), b : region(ispace(int1d), f)) where reads writes(b.x), a <= b do
--       for q in a do q.x += 1 end
--     end
--     task main(n : int64)
--       var r = region(ispace(int1d, 2), f)
--       fill(r.x, n)
--       var halves = partition(equal, r, ispace(int1d, 2))
--       move(halves[0], next(n), halves[1])
--       keep(halves[1], halves[1])
--       for c in halves.colors do keep(halves[c], halves[c]) end
--       for q in r do keep(halves[q], halves[q]) end
--     end
abbrev pub siblings_program : Tree
siblings_program =
    item 1 (field_space "f" [] (param 1 "x" (number Int64) ∷ []))
    ∷ item 2 (task_giving (number Int64) "next" (param 2 "n" (number Int64) ∷ []) [] (line 2 (give (calc (get "n") Add (int 1))) ∷ []))
    ∷ item 3
    (task "move" (param 3 "a" (region (space_of "f" [])) ∷ param 3 "n" (number Int64) ∷ param 3 "b" (region (space_of "f" [])) ∷ [])
    (grants (Reads ∷ Writes ∷ []) (fields "a" ("x" ∷ []) ∷ []) ∷ grants (Reads ∷ []) (fields "b" ("x" ∷ []) ∷ []) ∷ apart "a" "b" ∷ [])
    (line 4 (each "q" (get "a") (line 4 (reduce "q" (dot "x" ∷ []) Sum (get "n")) ∷ [])) ∷ []))
    ∷ item 6
    (task "keep" (param 6 "a" (region (space_of "f" [])) ∷ param 6 "b" (region (space_of "f" [])) ∷ [])
    (grants (Reads ∷ Writes ∷ []) (fields "b" ("x" ∷ []) ∷ []) ∷ clause.Within (codes "a") (codes "b") ∷ [])
    (line 7 (each "q" (get "a") (line 7 (reduce "q" (dot "x" ∷ []) Sum (int 1)) ∷ [])) ∷ []))
    ∷ item 9
    (task "main" (param 9 "n" (number Int64) ∷ []) []
    (line 10 (var_from "r" (new_region (space (int 2)) (space_of "f" [])))
    ∷ line 11 (fill "r" ("x" ∷ []) (get "n"))
    ∷ line 12 (var_from "halves" (equal "r" (space (int 2))))
    ∷ line 13 (call "move" (access "halves" (at (int 0) ∷ []) ∷ call_of "next" (get "n" ∷ []) ∷ access "halves" (at (int 1) ∷ []) ∷ []))
    ∷ line 14 (call "keep" (access "halves" (at (int 1) ∷ []) ∷ access "halves" (at (int 1) ∷ []) ∷ []))
    ∷ line 15 (each "c" (access "halves" (dot "colors" ∷ []))
    (line 15 (call "keep" (access "halves" (at (get "c") ∷ []) ∷ access "halves" (at (get "c") ∷ []) ∷ [])) ∷ []))
    ∷ line 16 (each "q" (get "r") (line 16 (call "keep" (access "halves" (at (get "q") ∷ []) ∷ access "halves" (at (get "q") ∷ []) ∷ [])) ∷ []))
    ∷ []))
    ∷ []

-- each premise of the law holds of it, and so it runs soundly
pub record SiblingsExampleHolds : Type 0 where
  pub run : IsProgramRun siblings_program (pos 2 ∷ [])
  pub sound : ProgramRunsSoundly siblings_program (pos 2 ∷ [])
