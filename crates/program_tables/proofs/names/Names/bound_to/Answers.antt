use Rattle.std.proofs.Common.{ap, sym, ◌∙◌, is_some, arith}
use Rattle.program_tables.proofs.Chains.{bound_found, bound_free, bound_within, bound_at}
use Rattle.program_tables.proofs.names.Names.bound_to.Goals as goal

pub returns-in_err-place-clause-found : goal.returns-in_err-place-clause-found
returns-in_err-place-clause-found c = ap is_some c.from_residual.ensures ∙ ap is_some c.in_err-place.ensures.value
    ∙ bound_found c.self.inside.innermost c.self.inside.entries.items _ c.self.view_is c.self.invariant c.args.name.now

pub returns-in_err-place-clause-free : goal.returns-in_err-place-clause-free
returns-in_err-place-clause-free c = rw c.from_residual.ensures
    (bound_free c.self.inside.innermost c.self.inside.entries.items _ c.self.view_is c.self.invariant c.args.name.now (sym c.in_err-place.ensures.value))

pub index-requires : goal.index-requires
index-requires c = let within = bound_within c.self.inside.innermost c.self.inside.entries.items _ c.self.view_is c.self.invariant c.args.name.now _ (sym c.in_ok-place.ensures.value) in
    omega (arith, within, c.self.inside.entries.ok.0)

pub returns-clause-found : goal.returns-clause-found
returns-clause-found c = ap is_some c.in_ok-place.ensures.value
    ∙ bound_found c.self.inside.innermost c.self.inside.entries.items _ c.self.view_is c.self.invariant c.args.name.now

pub returns-clause-bound : goal.returns-clause-bound
returns-clause-bound c = bound_at c.self.inside.innermost c.self.inside.entries.items _ c.self.view_is c.self.invariant c.args.name.now _ c.index.result.now
    (sym c.in_ok-place.ensures.value) c.index.ensures
