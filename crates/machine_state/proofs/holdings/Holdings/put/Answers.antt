use Rattle.std.proofs.Common.{sym, refl, get_or, arith}
use Rattle.region_tree.specs.declared.piece.Part.{Part}
use Rattle.machine_state.proofs.Hints.{known_put}
use Rattle.machine_state.proofs.holdings.Holdings.put.Goals as goal

pub invariant_of-self : goal.invariant_of-self
invariant_of-self c =
    let p : Part = record c.index_mut.result.now { pieces = c.put_in.new.pieces } in (
      c.self.invariant.0,
      λ k d l. known_put c.self.inside.needs.items c.self.inside.parts.items c.args.spot.part c.index_mut.result.now p
          (omega arith) (sym c.index_mut.ensures.value) refl refl (get_or c.self.inside.found k d) (c.self.invariant.1 k d l),
    )
