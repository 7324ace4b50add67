use Rattle.std.proofs.Common.{ap, ◌∙◌, is_some, reverse}
use Rattle.program_tables.specs.Hiding.{bindings_of}
use Rattle.program_tables.proofs.Chains.{as_found, as_free, as_bound}
use Rattle.program_tables.proofs.names.Names.bound_as.Goals as goal

pub returns-in_err-entry-clause-found : goal.returns-in_err-entry-clause-found
returns-in_err-entry-clause-found c =
    let seen = ap (λ l. bindings_of (reverse l)) c.deref.ensures.value ∙ c.self.view_is in
    ap is_some c.from_residual.ensures ∙ as_found c.deref.result.now _ seen c.args.number _ c.in_err-entry.ensures

pub returns-in_err-entry-clause-free : goal.returns-in_err-entry-clause-free
returns-in_err-entry-clause-free c =
    let seen = ap (λ l. bindings_of (reverse l)) c.deref.ensures.value ∙ c.self.view_is in
    rw c.from_residual.ensures (as_free c.deref.result.now _ seen c.args.number c.in_err-entry.ensures)

pub returns-clause-found : goal.returns-clause-found
returns-clause-found c =
    let seen = ap (λ l. bindings_of (reverse l)) c.deref.ensures.value ∙ c.self.view_is in
    as_found c.deref.result.now _ seen c.args.number _ c.in_ok-entry.ensures

pub returns-clause-bound : goal.returns-clause-bound
returns-clause-bound c =
    let seen = ap (λ l. bindings_of (reverse l)) c.deref.ensures.value ∙ c.self.view_is in
    as_bound c.deref.result.now _ seen c.args.number c.in_ok-entry.entry.now c.in_ok-entry.ensures
