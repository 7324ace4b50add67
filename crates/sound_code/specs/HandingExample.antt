-- Accepted programs whose tasks hand regions on, so that the law on such programs is a law of something.
use Rattle.std.specs.Prelude.{◌≡◌, [], ◌∷◌, pos, List, codes, false, true, ◌==◌, ◌||◌}
use Rattle.regent_tree.specs.StaticTypes.{task_named}
use Rattle.regent_tree.specs.Syntax.{TaskTree, Tree}
use Rattle.regent_tree.specs.declared.expression.Arithmetic.TheVariants.{Add}
use Rattle.regent_tree.specs.declared.program.Clause.TheVariants as clause
use Rattle.regent_tree.specs.declared.program.Grant.TheVariants.{Reads, Writes}
use Rattle.regent_tree.specs.declared.types.NumberTerm.TheVariants.{Int64}
use Rattle.machine_terms.specs.declared.frame.Before.{Before}
use Rattle.machine_terms.specs.declared.outcome.Yield.TheVariants as yield
use Rattle.machine_terms.specs.declared.value.RegionValue.{RegionValue}
use Rattle.machine_terms.specs.declared.value.Value.{Value}
use Rattle.machine_terms.specs.declared.value.Value.TheVariants.{Number, Region}
use Rattle.machine_terms.specs.Makes.{region_with}
use Rattle.machine_terms.specs.Opening.{opening}
use Rattle.machine_terms.specs.Segments.{segment}
use Rattle.check_rules.specs.Breaches.{breaches}
use Rattle.code_rules.specs.Programs.{code_of, task_code}
use Rattle.worked_examples.specs.Words.{access, at, calc, call, call_of, dot, field_space, fields, get, give, grants, int, item, line, new_region, number, param, region, set, space, space_of, task, task_giving, var_from}
use Rattle.code_laws.specs.Handing.{AreTypedBy}
use Rattle.code_laws.specs.HandingExample.{handing_program}
use Rattle.fit_rules.specs.Shapes.{World}
use Rattle.fit_rules.specs.Ends.{called}
use Rattle.fit_rules.specs.Fits.{BeforeFits}
use Rattle.sound_code.specs.Programs.{ProgramRunsSoundly, TasksKeepRules}
use Rattle.sound_code.specs.RulesExample.{one_root}

--     fspace f { x : int64 }
--     task total(r : region(ispace(int1d), f), q : region(ispace(int1d), f)) : int64
--     where reads(r.x), r * q do
--       return r[0].x
--     end
--     task change(r : region(ispace(int1d), f), q : region(ispace(int1d), f), n : int64)
--     where reads writes(r.x), q * r do
--       r[1].x = total(r, q) + n
--     end
--     task main(n : int64)
--       var a = region(ispace(int1d, 2), f)
--       var b = region(ispace(int1d, 2), f)
--       change(b, a, n)
--     end
abbrev pub hands_program : Tree
hands_program =
    item 1 (field_space "f" [] (param 1 "x" (number Int64) ∷ []))
    ∷ item 2
    (task_giving (number Int64) "total" (param 2 "r" (region (space_of "f" [])) ∷ param 2 "q" (region (space_of "f" [])) ∷ [])
    (grants (Reads ∷ []) (fields "r" ("x" ∷ []) ∷ []) ∷ clause.Apart (codes "r") (codes "q") ∷ [])
    (line 4 (give (access "r" (at (int 0) ∷ dot "x" ∷ []))) ∷ []))
    ∷ item 6
    (task "change" (param 6 "r" (region (space_of "f" [])) ∷ param 6 "q" (region (space_of "f" [])) ∷ param 6 "n" (number Int64) ∷ [])
    (grants (Reads ∷ Writes ∷ []) (fields "r" ("x" ∷ []) ∷ []) ∷ clause.Apart (codes "q") (codes "r") ∷ [])
    (line 8 (set "r" (at (int 1) ∷ dot "x" ∷ []) (calc (call_of "total" (get "r" ∷ get "q" ∷ [])) Add (get "n"))) ∷ []))
    ∷ item 10
    (task "main" (param 10 "n" (number Int64) ∷ []) []
    (line 11 (var_from "a" (new_region (space (int 2)) (space_of "f" [])))
    ∷ line 12 (var_from "b" (new_region (space (int 2)) (space_of "f" [])))
    ∷ line 13 (call "change" (get "b" ∷ get "a" ∷ get "n" ∷ []))
    ∷ []))
    ∷ []

abbrev pub change : TaskTree
change = task_named hands_program (codes "change")

-- it is given the wholes of two roots of two points, and a number
abbrev pub first_root : RegionValue
first_root = region_with 3 (0 ∷ 1 ∷ [])

abbrev pub second_root : RegionValue
second_root = region_with 4 (0 ∷ 1 ∷ [])

abbrev pub change_args : List Value
change_args = Region first_root ∷ Region second_root ∷ Number (pos 7) ∷ []

abbrev pub two_roots : World
two_roots = record one_root { there = λ r. (r == 3) || (r == 4) }

abbrev pub change_before : Before
change_before = record {
  code = code_of hands_program;
  frame = opening 6 2 1 (task_code hands_program change) change_args;
  parts = [];
}

-- No rule is breached, and all tasks are typed, so that the code of each is sound. The frame of the task that is called
-- first fits when it opens, with regions that share no point, and its first segment ends where it hands them on. And the
-- code of a program is sound whose tasks hand on regions of which one lies within the other.
pub record HandsExampleHolds : Type 0 where
  pub accepted : breaches hands_program ≡ []
  pub typed : AreTypedBy true false hands_program
  pub sound : TasksKeepRules hands_program
  pub fits : BeforeFits sound.program (called two_roots change_args) (task_code hands_program change) 1 change_before
  pub hands : (segment change_before).ends ≡ yield.Calls (record { task = 0; args = Region first_root ∷ Region second_root ∷ [] } ∷ [])
  pub within : TasksKeepRules handing_program

-- so is the accepted one of code_laws, by its text alone
abbrev pub HandedIsSound : Type 0
HandedIsSound = ProgramRunsSoundly handing_program (pos 2 ∷ [])
