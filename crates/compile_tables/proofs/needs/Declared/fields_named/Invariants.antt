use Rattle.std.proofs.Common.{◌≡◌, take, map}
use Rattle.regent_tree.specs.PlainProgram.{tree_of}
use Rattle.regent_tree.specs.StaticTypes.{field_place}
use Rattle.compile_tables.proofs.needs.Declared.fields_named.Given as goal

abbrev pub invariant-loop-name : goal.invariant-loop-name
invariant-loop-name l = l.fields ≡ map (field_place (tree_of l.self.tables.now) l.space) (take l.name-index l.names)
