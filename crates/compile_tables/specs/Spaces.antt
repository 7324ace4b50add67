-- The code of a field of a field space.
use Rattle.regent_tree.specs.declared.types.Param.{Param}
use Rattle.regent_tree.specs.StaticTypes.{kind_said}
use Rattle.task_code.specs.declared.code.FieldCode.{FieldCode}

abbrev pub field_code : Param → FieldCode
field_code p = record { name = p.name; kind = kind_said p.term }
