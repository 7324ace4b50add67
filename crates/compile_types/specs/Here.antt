-- Where code is made: what the compiler's own records stand for.
use Rattle.std.specs.Prelude.{ℕ}
use Rattle.regent_tree.specs.PlainProgram.{tree_of}
use Rattle.regent_tree.specs.Scopes.{Scope}
use Rattle.code_rules.specs.Slots.{Where}
use Rattle.compile_types.specs.declared.here.Here.{Here}
use Rattle.compile_types.specs.declared.here.Site.{Site}

abbrev pub scope_at : Here → Scope
scope_at h = record { names = h.names.now; known = h.facts.now; next = h.next }

abbrev pub where_at : Site → Scope → ℕ → Where
where_at s scope line = record {
  tree = tree_of s.symbols.now;
  scope = scope;
  result = s.result.now;
  params = s.params;
  line = line;
}

abbrev pub where_of : Here → Where
where_of h = where_at h.site.now (scope_at h) h.line
