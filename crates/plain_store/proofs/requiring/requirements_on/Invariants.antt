use Rattle.std.proofs.Common.{◌≡◌, drop}
use Rattle.machine_terms.specs.Opening.{requirements_on}
use Rattle.plain_store.proofs.Needing.{behind}
use Rattle.plain_store.proofs.requiring.requirements_on.Given as goal

abbrev pub invariant-loop-need : goal.invariant-loop-need
invariant-loop-need l =
    behind l.required.items (requirements_on l.code l.contents (drop l.need-index l.declared) l.values)
    ≡ requirements_on l.code l.contents l.declared l.values
