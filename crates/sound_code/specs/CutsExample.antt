-- An accepted program that makes partitions in each way, also of those that a task is given, and hands one over, so that the law on
-- whole programs is a law of something there too.
use Rattle.std.specs.Prelude.{[], ◌∷◌, codes, pos, true}
use Rattle.regent_tree.specs.Syntax.{Tree}
use Rattle.regent_tree.specs.declared.expression.Arithmetic.TheVariants.{Subtract}
use Rattle.regent_tree.specs.declared.program.Clause.TheVariants as clause
use Rattle.regent_tree.specs.declared.program.Grant.TheVariants.{Reads}
use Rattle.regent_tree.specs.declared.types.Kind.TheVariants.{Int1d}
use Rattle.regent_tree.specs.declared.types.NumberTerm.TheVariants.{Index, Int64}
use Rattle.worked_examples.specs.Words.{access, at, both, by_field, calc, call, dot, each, either, equal, field_space, fields, fill, get, grants, image, int, item, line, new_region, number, param, partition, preimage, region, set, space, space_of, task, var, var_as, var_from}
use Rattle.sound_code.specs.Programs.{ProgramRunsSoundly}
use Rattle.code_laws.specs.AcceptedPrograms.{IsProgramRun}

--     fspace f { x : int64, to : int1d }
--     task look(r : region(ispace(int1d), f), s : region(ispace(int1d), f), p : partition(disjoint, s))
--     where reads(r.to), s <= r do
--       var q = image(s, p, r.to)
--       var u = preimage(s, q, r.to)
--       var v = p - u
--     end
--     task main(n : int64)
--       var r = region(ispace(int1d, 4), f)
--       fill(r.x, n)
--       var i : int1d = 1
--       fill(r.to, i)
--       var p = partition(equal, r, ispace(int1d, 2))
--       var q = partition(r.x, ispace(int1d, 2))
--       var a = p - q
--       var b = a & q
--       var c = a | b
--       var d = image(r, p, r.to)
--       var e = preimage(r, c, r.to)
--       for k in e.colors do r[k].to = i end
--       look(r, r, p)
--     end
abbrev pub cuts_program : Tree
cuts_program =
    item 1 (field_space "f" [] (param 1 "x" (number Int64) ∷ param 1 "to" (number (Index Int1d)) ∷ []))
    ∷ item 2
    (task "look"
    (param 2 "r" (region (space_of "f" [])) ∷ param 2 "s" (region (space_of "f" [])) ∷ param 2 "p" (partition true "s") ∷ [])
    (grants (Reads ∷ []) (fields "r" ("to" ∷ []) ∷ []) ∷ clause.Within (codes "s") (codes "r") ∷ [])
    (line 4 (var_from "q" (image "s" "p" "r" "to"))
    ∷ line 5 (var_from "u" (preimage "s" "q" "r" "to"))
    ∷ line 6 (var "v" (calc (get "p") Subtract (get "u")))
    ∷ []))
    ∷ item 8
    (task "main" (param 8 "n" (number Int64) ∷ []) []
    (line 9 (var_from "r" (new_region (space (int 4)) (space_of "f" [])))
    ∷ line 10 (fill "r" ("x" ∷ []) (get "n"))
    ∷ line 11 (var_as "i" (number (Index Int1d)) (int 1))
    ∷ line 12 (fill "r" ("to" ∷ []) (get "i"))
    ∷ line 13 (var_from "p" (equal "r" (space (int 2))))
    ∷ line 14 (var_from "q" (by_field "r" "x" (space (int 2))))
    ∷ line 15 (var "a" (calc (get "p") Subtract (get "q")))
    ∷ line 16 (var_from "b" (both "a" "q"))
    ∷ line 17 (var_from "c" (either "a" "b"))
    ∷ line 18 (var_from "d" (image "r" "p" "r" "to"))
    ∷ line 19 (var_from "e" (preimage "r" "c" "r" "to"))
    ∷ line 20 (each "k" (access "e" (dot "colors" ∷ [])) (line 20 (set "r" (at (get "k") ∷ dot "to" ∷ []) (get "i")) ∷ []))
    ∷ line 21 (call "look" (get "r" ∷ get "r" ∷ get "p" ∷ []))
    ∷ []))
    ∷ []

-- each premise of the law holds of it, and so it runs soundly
pub record CutsExampleHolds : Type 0 where
  pub run : IsProgramRun cuts_program (pos 2 ∷ [])
  pub sound : ProgramRunsSoundly cuts_program (pos 2 ∷ [])
