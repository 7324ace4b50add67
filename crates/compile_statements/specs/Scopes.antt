-- What the compiler's scopes mean.
use Rattle.std.specs.Prelude.{length, take}
use Rattle.regent_tree.specs.Scopes.{Scope}
use Rattle.regent_tree.specs.Syntax.{Tree}
use Rattle.regent_tree.specs.PlainProgram.{tree_of}
use Rattle.code_rules.specs.Slots.{Where}
use Rattle.compile_types.specs.Here.{where_at}
use Rattle.compile_statements.specs.declared.at.At.{At}
use Rattle.compile_statements.specs.declared.scope.Mark.{Mark}
use Rattle.compile_statements.specs.declared.scope.Scoped.{Scoped}

abbrev pub seen : Scoped → Scope
seen s = record { names = s.names; known = s.facts; next = s.next }

abbrev pub tree_at : At → Tree
tree_at at = tree_of at.site.now.symbols.now

abbrev pub where_in : At → Scoped → Where
where_in at s = where_at at.site.now (seen s) at.line

abbrev pub mark_of : Scope → Mark
mark_of s = record { names = length s.names; known = length s.known; next = s.next }

-- a scope as it was at a mark, where its names are the same again
abbrev pub as_of : Mark → Scope → Scope
as_of m s = record { names = s.names; known = take m.known s.known; next = m.next }
