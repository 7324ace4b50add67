-- What a program with marks has from its tree: the numbers of regions that pointers name, what tasks give, and what is known where the
-- code of each begins.
use Rattle.std.specs.Prelude.{◌≡◌, ℕ, ◌-◌, [], ◌++◌, length, map, replicate, Some, slice_get}
use Rattle.regent_tree.specs.StaticTypes.{field_term}
use Rattle.regent_tree.specs.Syntax.{TaskTree, Tree}
use Rattle.regent_tree.specs.Typing.{param_types, result_type}
use Rattle.value_laws.specs.Shapes.{regions_listed}
use Rattle.code_rules.specs.Instructions.{tasks_of}
use Rattle.code_rules.specs.Programs.{code_of, place_of, task_code}
use Rattle.code_rules.specs.Slots.{Where}
use Rattle.fit_rules.specs.Shapes.{anything}
use Rattle.fit_rules.specs.Marks.{Into, Mark}
use Rattle.fit_rules.specs.Fits.{Program}
use Rattle.sound_code.specs.Places.{BeginsAt, IsOfScope}
use Rattle.sound_code.specs.Ways.{by_rules, none_begun, opening_facts, shape_in, shape_of, Tops, Way}

-- The mark in which a task's body begins: the parameters have values of their types, with what is told of them, nothing is known of the
-- slots behind, and the stack is empty.
abbrev pub opening_mark : Way → Tree → TaskTree → Mark
opening_mark way tree t = record {
  slots = map (shape_in way (length t.params)) (param_types tree t) ++ replicate ((task_code tree t).slots - length t.params) anything;
  facts = opening_facts way tree t;
  stack = [];
  top = [];
  fixed = length t.params;
}

-- the one where the regions are given: each comes from its argument, and the constraints are told, and of which region each partition is
abbrev pub begins_by_rules : Tree → TaskTree → Mark
begins_by_rules tree t = opening_mark (by_rules none_begun t) tree t

-- The program is the tree's: its code is the compiled code, a pointer field has as many positions as its type lists regions, and a task
-- gives what is of its result type. A frame of a task begins with arguments of the parameters' types, of which the clauses hold, so at each
-- place of its code the frame that fits began so; and what suits such arguments suits the first mark. Where a statement of its body
-- begins, behind those before it, whether a run comes there or not, what suits a mark of the scope suits the code's mark.
pub record IsOfTree (tree : Tree) (g : Program) : Type 0 where
  pub code : g.code ≡ code_of tree
  pub positions : (sp f : ℕ) → g.positions sp f ≡ regions_listed (field_term tree sp f)
  pub results : (k : ℕ) (t : TaskTree) → slice_get (tasks_of tree) k ≡ Some t → g.results k ≡ shape_of (result_type tree t.result)
  pub begins : (k : ℕ) (t : TaskTree) → slice_get (tasks_of tree) k ≡ Some t → g.begins k ≡ begins_by_rules tree t
  pub first : (k : ℕ) (t : TaskTree) → slice_get (tasks_of tree) k ≡ Some t → Into (length t.params) (begins_by_rules tree t) (g.marks k 0)
  pub tops : Tops
  pub places : (k : ℕ) (t : TaskTree) → slice_get (tasks_of tree) k ≡ Some t → (v : Where) (q : ℕ) → BeginsAt (place_of tree t) t.body 0 v q →
      IsOfScope tops tree t v (g.marks k q)
