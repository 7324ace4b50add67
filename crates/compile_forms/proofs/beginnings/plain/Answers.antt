use Rattle.std.proofs.Common.{◌≡◌, refl}
use Rattle.regent_tree.specs.Plain.{expression_of, links_in}
use Rattle.regent_tree.specs.Syntax.{chain_expr}
use Rattle.regent_tree.proofs.Rows.{links_of_vec}
use Rattle.compile_types.specs.Here.{where_of}
use Rattle.compile_forms.proofs.Alone.{differs_at}
use Rattle.compile_forms.proofs.beginnings.plain.Goals as goal

pub returns-in-Partition-Chain : goal.returns-in-Partition-Chain
returns-in-Partition-Chain c =
    let first = expression_of c.deref.result.now in
    let rest = links_in c.as_slice.result.now in
    let is_chain : expression_of c.args.e.now ≡ chain_expr first rest =
    rw (c.in-Partition-Chain.is-1, links_of_vec c.in-Partition-Chain.rest, ← c.deref.ensures, ← c.as_slice.ensures.value) refl in
    rw (
      differs_at (where_of c.args.here.now) c.args.t.now c.in-Partition-Chain.disjoint-0 c.in-Partition-Chain.parent
          c.in-Partition-Chain.own-0 (expression_of c.args.e.now) first rest c.in-Partition-Chain.is-0 is_chain,
      ← c.name_alone.ensures,
      ← c.name_taken_off.ensures,
    )
    c.difference.ensures
