-- What a type counts as.
use Rattle.std.specs.Prelude.{None, Option, Some}
use Rattle.regent_tree.specs.declared.types.Kind.{Kind}
use Rattle.regent_tree.specs.declared.typing.StaticType.{StaticType}
use Rattle.regent_tree.specs.declared.typing.StaticType.TheVariants.{Index as index_type, Pointer as pointer_type}

-- the kind of the index that a type counts as
abbrev pub kind_counted : StaticType → Option Kind
kind_counted (index_type k) = Some k
kind_counted (pointer_type k s args regions) = Some k
kind_counted t = None
