use Rattle.std.proofs.Common.{rules, ◌≡◌, ◌↔◌, true, sym, subst}
use Rattle.regent_tree.specs.Rights.{allows}
use Rattle.privilege_types.specs.Privileges.{IsAllowed}
use Rattle.privilege_types.proofs.Holding.{allowed-derivable}
use Rattle.privilege_types.proofs.rights.Held.allows.Goals as goal

pub returns-clause-derivable : goal.returns-clause-derivable
returns-clause-derivable c =
    let a = c.args in
    let found : c.is_allowed.result ≡ allows a.self.now a.facts.now a.term.now a.field a.access =
    search rules in
    subst (λ r. (r ≡ true) ↔ IsAllowed a.self.now a.facts.now a.term.now a.field a.access)
    (sym found) (allowed-derivable a.self.now a.facts.now a.term.now a.field a.access)
