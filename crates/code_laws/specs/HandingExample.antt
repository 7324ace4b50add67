-- A program whose main task hands a region over to a task that writes in it, and hands it on. The tasks take it twice,
-- and need one of the two alone, within which the other lies.
use Rattle.std.specs.Prelude.{◌≡◌, [], ◌∷◌, codes, pos, false, true}
use Rattle.lane_kernels.specs.declared.numbers.Op.TheVariants.{Sum}
use Rattle.regent_tree.specs.Meaning.{meaning}
use Rattle.regent_tree.specs.StaticTypes.{entry_name, task_named}
use Rattle.regent_tree.specs.Syntax.{Tree}
use Rattle.regent_tree.specs.declared.expression.Arithmetic.TheVariants.{Add}
use Rattle.regent_tree.specs.declared.outcome.FaultKind.TheVariants.{OutOfRegion, Turns}
use Rattle.regent_tree.specs.declared.program.Clause.TheVariants.{Within}
use Rattle.regent_tree.specs.declared.program.Grant.TheVariants.{Reads, Writes}
use Rattle.regent_tree.specs.declared.types.NumberTerm.TheVariants.{Int64}
use Rattle.machine_terms.specs.Jobs.{order_run}
use Rattle.worked_examples.specs.Words.{access, at, calc, call, call_of, dot, faults, field_space, fields, get, give, grants, int, item, line, naturals, new_region, number, param, print, prints, reduce, region, root, set, space, space_of, task, task_giving, var_from}
use Rattle.code_laws.specs.Handing.{AreTypedBy, forms_by}
use Rattle.code_laws.specs.AcceptedPrograms.{IsProgramRun}
use Rattle.code_laws.specs.Programs.{IsTypedRun, job_of}

--     fspace f { x : int64 }
--     task total(r : region(ispace(int1d), f), s : region(ispace(int1d), f)) : int64
--     where s <= r, reads(r.x) do
--       return r[0].x + s[1].x
--     end
--     task change(r : region(ispace(int1d), f), s : region(ispace(int1d), f), n : int64)
--     where s <= r, reads writes(r.x) do
--       r[0].x = n
--       s[1].x += total(r, s)
--     end
--     task main(n : int64)
--       var a = region(ispace(int1d, n), f)
--       change(a, a, 5)
--       change(a, a, total(a, a))
--       regentlib.c.printf("%lld\n", a[1].x)
--     end
abbrev pub handing_program : Tree
handing_program =
    item 1 (field_space "f" [] (param 1 "x" (number Int64) ∷ []))
    ∷ item 2
    (task_giving (number Int64) "total" (param 2 "r" (region (space_of "f" [])) ∷ param 2 "s" (region (space_of "f" [])) ∷ [])
    (Within (codes "s") (codes "r") ∷ grants (Reads ∷ []) (fields "r" ("x" ∷ []) ∷ []) ∷ [])
    (line 4 (give (calc (access "r" (at (int 0) ∷ dot "x" ∷ [])) Add (access "s" (at (int 1) ∷ dot "x" ∷ []))))
    ∷ []))
    ∷ item 6
    (task "change" (param 6 "r" (region (space_of "f" [])) ∷ param 6 "s" (region (space_of "f" [])) ∷ param 6 "n" (number Int64) ∷ [])
    (Within (codes "s") (codes "r") ∷ grants (Reads ∷ Writes ∷ []) (fields "r" ("x" ∷ []) ∷ []) ∷ [])
    (line 8 (set "r" (at (int 0) ∷ dot "x" ∷ []) (get "n"))
    ∷ line 9 (reduce "s" (at (int 1) ∷ dot "x" ∷ []) Sum (call_of "total" (get "r" ∷ get "s" ∷ [])))
    ∷ []))
    ∷ item 11
    (task "main" (param 11 "n" (number Int64) ∷ []) []
    (line 12 (var_from "a" (new_region (space (get "n")) (space_of "f" [])))
    ∷ line 13 (call "change" (get "a" ∷ get "a" ∷ int 5 ∷ []))
    ∷ line 14 (call "change" (get "a" ∷ get "a" ∷ call_of "total" (get "a" ∷ get "a" ∷ []) ∷ []))
    ∷ line 15 (print "%lld\n" (access "a" (at (int 1) ∷ dot "x" ∷ []) ∷ []))
    ∷ []))
    ∷ []

-- It is accepted, and the premises of the laws hold of it, of accepted and of typed programs. With two points it ends, and
-- so does its code, run in order; with one point the task that is called by a called task faults; and with two turns the
-- third call is a fault.
pub record HandingExampleHolds : Type 0 where
  pub accepted : IsProgramRun handing_program (pos 2 ∷ [])
  pub runs : order_run (job_of handing_program (pos 2 ∷ []) 5) ≡ prints "20\n" (root 0 2 (naturals (10 ∷ 20 ∷ []) ∷ []) ∷ [])
  pub tasks : AreTypedBy true false handing_program
  pub run : IsTypedRun (forms_by true false handing_program (task_named handing_program (entry_name handing_program))) handing_program (pos 2 ∷ [])
  pub end_is : meaning handing_program (pos 2 ∷ []) 5 ≡ prints "20\n" (root 0 2 (naturals (10 ∷ 20 ∷ []) ∷ []) ∷ [])
  pub fault_is : meaning handing_program (pos 1 ∷ []) 5 ≡ faults "" OutOfRegion 4
  pub turns_are : meaning handing_program (pos 2 ∷ []) 2 ≡ faults "" Turns 14
