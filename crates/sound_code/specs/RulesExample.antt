-- An accepted program with a task that takes regions, so that the law by the rules is a law of something.
use Rattle.std.specs.Prelude.{◌≡◌, [], ◌∷◌, pos, ◌==◌, List, codes, None}
use Rattle.regent_tree.specs.StaticTypes.{task_named}
use Rattle.regent_tree.specs.Syntax.{TaskTree, Tree}
use Rattle.regent_tree.specs.declared.expression.Arithmetic.TheVariants.{Add}
use Rattle.regent_tree.specs.declared.program.Clause.TheVariants as clause
use Rattle.regent_tree.specs.declared.program.Grant.TheVariants.{Reads, Writes}
use Rattle.regent_tree.specs.declared.types.NumberTerm.TheVariants.{Int64}
use Rattle.machine_terms.specs.declared.frame.Before.{Before}
use Rattle.machine_terms.specs.declared.outcome.Yield.TheVariants as yield
use Rattle.machine_terms.specs.declared.value.Value.{Value}
use Rattle.machine_terms.specs.declared.value.Value.TheVariants.{Number, Region}
use Rattle.machine_terms.specs.Makes.{region_with}
use Rattle.machine_terms.specs.Opening.{opening}
use Rattle.machine_terms.specs.Segments.{segment}
use Rattle.check_rules.specs.Breaches.{breaches}
use Rattle.code_rules.specs.Programs.{code_of, task_code}
use Rattle.worked_examples.specs.Words.{access, at, calc, dot, field_space, fields, get, grants, int, item, line, new_region, number, param, region, set, space, space_of, task, var_from}
use Rattle.code_laws.specs.LocalExample.{local_program}
use Rattle.code_laws.specs.Programs.{AreTypedTasks}
use Rattle.fit_rules.specs.Shapes.{anything, World}
use Rattle.fit_rules.specs.Ends.{called}
use Rattle.fit_rules.specs.Fits.{BeforeFits}
use Rattle.sound_code.specs.Programs.{ProgramRunsSoundly, TasksKeepRules}

--     fspace f { x : int64 }
--     task raise(r : region(ispace(int1d), f), q : region(ispace(int1d), f), n : int64)
--     where reads writes(q.x), r <= q do
--       r[0].x = r[1].x + n
--     end
--     task main(n : int64)
--       var s = region(ispace(int1d, 2), f)
--       s[0].x = n
--     end
abbrev pub rules_program : Tree
rules_program =
    item 1 (field_space "f" [] (param 1 "x" (number Int64) ∷ []))
    ∷ item 2
    (task "raise" (param 2 "r" (region (space_of "f" [])) ∷ param 2 "q" (region (space_of "f" [])) ∷ param 2 "n" (number Int64) ∷ [])
    (grants (Reads ∷ Writes ∷ []) (fields "q" ("x" ∷ []) ∷ []) ∷ clause.Within (codes "r") (codes "q") ∷ [])
    (line 4 (set "r" (at (int 0) ∷ dot "x" ∷ []) (calc (access "r" (at (int 1) ∷ dot "x" ∷ [])) Add (get "n"))) ∷ []))
    ∷ item 6
    (task "main" (param 6 "n" (number Int64) ∷ []) []
    (line 7 (var_from "s" (new_region (space (int 2)) (space_of "f" [])))
    ∷ line 8 (set "s" (at (int 0) ∷ dot "x" ∷ []) (get "n"))
    ∷ []))
    ∷ []

abbrev pub raise : TaskTree
raise = task_named rules_program (codes "raise")

-- it is given the whole of a root of two points, twice, and a number
abbrev pub raise_args : List Value
raise_args = Region (region_with 3 (0 ∷ 1 ∷ [])) ∷ Region (region_with 3 (0 ∷ 1 ∷ [])) ∷ Number (pos 7) ∷ []

abbrev pub one_root : World
one_root = record {
  there = λ r. r == 3;
  spaces = λ r. 0;
  points = λ r. 0 ∷ 1 ∷ [];
  results = λ i. anything;
  children = 0;
  own = [];
  last = λ i. None;
  args = [];
  held = [];
}

abbrev pub raise_before : Before
raise_before = record {
  code = code_of rules_program;
  frame = opening 6 2 0 (task_code rules_program raise) raise_args;
  parts = [];
}

-- a histogram whose tasks keep their regions to themselves runs soundly
abbrev pub HistogramIsSound : Type 0
HistogramIsSound = ProgramRunsSoundly local_program (pos 5 ∷ [])

-- No rule is breached and all tasks are typed, so that the code of each is sound. The frame of the task that takes
-- regions fits when it opens, and its first segment ends where it wants the field that it reads.
pub record RulesExampleHolds : Type 0 where
  pub accepted : breaches rules_program ≡ []
  pub typed : AreTypedTasks rules_program
  pub sound : TasksKeepRules rules_program
  pub fits : BeforeFits sound.program (called one_root raise_args) (task_code rules_program raise) 0 raise_before
  pub ends : (segment raise_before).ends ≡ yield.Want (record { 0 = 3 }) 0
