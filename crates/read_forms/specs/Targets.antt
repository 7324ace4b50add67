-- What an assignment writes to.
use Rattle.std.specs.Prelude.{map}
use Rattle.regent_grammar.specs.Nodes.{Accessed, steps_from}
use Rattle.read_forms.specs.declared.simple.Target.{Target}
use Rattle.read_terms.specs.Nodes.{stepped_of}

abbrev pub accessed_of : Target → Accessed
accessed_of t = record { name = t.name; steps = steps_from (map stepped_of t.steps.items) }
