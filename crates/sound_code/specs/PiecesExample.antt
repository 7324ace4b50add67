-- An accepted program of which variables begin as parts, two of them of a written type, so that the law on whole programs is a law of
-- something there: such a one is filled, handed over and cut further, a variable begins as a part of that too, constraints say that it
-- lies within the first region, and within the one of which it is a part, which lies within itself, and that two parts of one partition
-- share no point, and a partition is handed over with the region that it is of. Parts that have no name are handed over beside these,
-- within one of which those that have lie.
use Rattle.std.specs.Prelude.{[], ◌∷◌, codes, pos, true}
use Rattle.lane_kernels.specs.declared.numbers.Op.TheVariants.{Sum}
use Rattle.regent_tree.specs.Syntax.{Tree}
use Rattle.regent_tree.specs.declared.program.Clause.TheVariants as clause
use Rattle.regent_tree.specs.declared.program.Grant.TheVariants.{Reads, Writes}
use Rattle.regent_tree.specs.declared.types.NumberTerm.TheVariants.{Int64}
use Rattle.worked_examples.specs.Words.{access, at, call, dot, each, equal, field_space, fields, fill, get, grants, int, item, line, new_region, number, param, partition, reduce, region, space, space_of, task, var, var_as, var_from}
use Rattle.sound_code.specs.Programs.{ProgramRunsSoundly}
use Rattle.code_laws.specs.AcceptedPrograms.{IsProgramRun}

--     fspace f { x : int64 }
--     task raise(a : region(ispace(int1d), f)) where reads writes(a.x) do
--       for e in a do e.x += 1 end
--     end
--     task keep(a : region(ispace(int1d), f), b : region(ispace(int1d), f)) where reads writes(b.x), a <= b do
--       for e in a do e.x += 1 end
--     end
--     task half(a : region(ispace(int1d), f), p : partition(disjoint, a)) where reads writes(a.x) do
--       var b = p[0]
--       for e in b do e.x += 1 end
--     end
--     task two(a : region(ispace(int1d), f), b : region(ispace(int1d), f)) where reads writes(a.x, b.x), a * b do
--       for e in a do e.x += 1 end
--       for e in b do e.x += 1 end
--     end
--     task main(n : int64)
--       var r = region(ispace(int1d, 4), f)
--       fill(r.x, n)
--       var p = partition(equal, r, ispace(int1d, 2))
--       var u : region(ispace(int1d), f) = p[0]
--       var v = p[1]
--       two(u, v)
--       for c in p.colors do
--         var q : region(ispace(int1d), f) = p[c]
--         fill(q.x, n)
--         raise(q)
--         var h = partition(equal, q, ispace(int1d, 2))
--         var a = h[0]
--         for e in a do e.x += 1 end
--         keep(a, r)
--         keep(a, q)
--         keep(q, q)
--         half(q, h)
--         raise(p[c])
--         keep(q, p[c])
--         keep(a, p[c])
--         keep(h[1], p[c])
--         keep(h[1], q)
--         keep(u, p[0])
--         two(u, p[1])
--       end
--     end
abbrev pub pieces_program : Tree
pieces_program =
    item 1 (field_space "f" [] (param 1 "x" (number Int64) ∷ []))
    ∷ item 2
    (task "raise" (param 2 "a" (region (space_of "f" [])) ∷ []) (grants (Reads ∷ Writes ∷ []) (fields "a" ("x" ∷ []) ∷ []) ∷ [])
    (line 3 (each "e" (get "a") (line 3 (reduce "e" (dot "x" ∷ []) Sum (int 1)) ∷ [])) ∷ []))
    ∷ item 5
    (task "keep" (param 5 "a" (region (space_of "f" [])) ∷ param 5 "b" (region (space_of "f" [])) ∷ [])
    (grants (Reads ∷ Writes ∷ []) (fields "b" ("x" ∷ []) ∷ []) ∷ clause.Within (codes "a") (codes "b") ∷ [])
    (line 6 (each "e" (get "a") (line 6 (reduce "e" (dot "x" ∷ []) Sum (int 1)) ∷ [])) ∷ []))
    ∷ item 8
    (task "half" (param 8 "a" (region (space_of "f" [])) ∷ param 8 "p" (partition true "a") ∷ [])
    (grants (Reads ∷ Writes ∷ []) (fields "a" ("x" ∷ []) ∷ []) ∷ [])
    (line 9 (var "b" (access "p" (at (int 0) ∷ [])))
    ∷ line 10 (each "e" (get "b") (line 10 (reduce "e" (dot "x" ∷ []) Sum (int 1)) ∷ []))
    ∷ []))
    ∷ item 12
    (task "two" (param 12 "a" (region (space_of "f" [])) ∷ param 12 "b" (region (space_of "f" [])) ∷ [])
    (grants (Reads ∷ Writes ∷ []) (fields "a" ("x" ∷ []) ∷ fields "b" ("x" ∷ []) ∷ []) ∷ clause.Apart (codes "a") (codes "b") ∷ [])
    (line 13 (each "e" (get "a") (line 13 (reduce "e" (dot "x" ∷ []) Sum (int 1)) ∷ []))
    ∷ line 14 (each "e" (get "b") (line 14 (reduce "e" (dot "x" ∷ []) Sum (int 1)) ∷ []))
    ∷ []))
    ∷ item 16
    (task "main" (param 16 "n" (number Int64) ∷ []) []
    (line 17 (var_from "r" (new_region (space (int 4)) (space_of "f" [])))
    ∷ line 18 (fill "r" ("x" ∷ []) (get "n"))
    ∷ line 19 (var_from "p" (equal "r" (space (int 2))))
    ∷ line 20 (var_as "u" (region (space_of "f" [])) (access "p" (at (int 0) ∷ [])))
    ∷ line 21 (var "v" (access "p" (at (int 1) ∷ [])))
    ∷ line 22 (call "two" (get "u" ∷ get "v" ∷ []))
    ∷ line 23 (each "c" (access "p" (dot "colors" ∷ []))
    (line 24 (var_as "q" (region (space_of "f" [])) (access "p" (at (get "c") ∷ [])))
    ∷ line 25 (fill "q" ("x" ∷ []) (get "n"))
    ∷ line 26 (call "raise" (get "q" ∷ []))
    ∷ line 27 (var_from "h" (equal "q" (space (int 2))))
    ∷ line 28 (var "a" (access "h" (at (int 0) ∷ [])))
    ∷ line 29 (each "e" (get "a") (line 29 (reduce "e" (dot "x" ∷ []) Sum (int 1)) ∷ []))
    ∷ line 30 (call "keep" (get "a" ∷ get "r" ∷ []))
    ∷ line 31 (call "keep" (get "a" ∷ get "q" ∷ []))
    ∷ line 32 (call "keep" (get "q" ∷ get "q" ∷ []))
    ∷ line 33 (call "half" (get "q" ∷ get "h" ∷ []))
    ∷ line 34 (call "raise" (access "p" (at (get "c") ∷ []) ∷ []))
    ∷ line 35 (call "keep" (get "q" ∷ access "p" (at (get "c") ∷ []) ∷ []))
    ∷ line 36 (call "keep" (get "a" ∷ access "p" (at (get "c") ∷ []) ∷ []))
    ∷ line 37 (call "keep" (access "h" (at (int 1) ∷ []) ∷ access "p" (at (get "c") ∷ []) ∷ []))
    ∷ line 38 (call "keep" (access "h" (at (int 1) ∷ []) ∷ get "q" ∷ []))
    ∷ line 39 (call "keep" (get "u" ∷ access "p" (at (int 0) ∷ []) ∷ []))
    ∷ line 40 (call "two" (get "u" ∷ access "p" (at (int 1) ∷ []) ∷ []))
    ∷ []))
    ∷ []))
    ∷ []

-- each premise of the law holds of it, and so it runs soundly
pub record PiecesExampleHolds : Type 0 where
  pub run : IsProgramRun pieces_program (pos 2 ∷ [])
  pub sound : ProgramRunsSoundly pieces_program (pos 2 ∷ [])
