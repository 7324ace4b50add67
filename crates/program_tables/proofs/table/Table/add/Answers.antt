use Rattle.std.proofs.Common.{sym, ◌∙◌, arith}
use Rattle.std.proofs.lemmas.List.{map-append, length-append, length-map}
use Rattle.program_tables.proofs.Indexing.{IsIndexOf-kept, IsIndexOf-added}
use Rattle.program_tables.proofs.table.Table.add.Goals as goal
use Rattle.program_tables.proofs.table.Table.add.Goals.{then-not-contains_key+in_ok-key+in_ok-insert, else-not-contains_key}

pub invariant_of-self-2 : goal.invariant_of-self-2
invariant_of-self-2 g c =
    elim c.if-not-contains_key.branch [
      | then-not-contains_key+in_ok-key+in_ok-insert w ↦
          rw (c.in_ok-push.ensures.items, w.self-inside-is, c.in_ok-reserve.ensures.items, map-append)
          record {
            few = rw (length-append, length-map) (omega arith);
            indexed =
                (IsIndexOf-added g.T.Named.name c.self.inside.first _ c.args.item.now w.in_ok-key.key _ w.insert.new.self c.self.invariant.indexed (w.in_ok-key.ensures ∙ c.name-name.ensures) (rw w.in_ok-key.ensures (sym w.if-not-contains_key.ensures)) w.in_ok-insert.ensures.updates.0 (rw length-map (omega arith)));
          }
      | else-not-contains_key w ↦
          rw (c.in_ok-push.ensures.items, w.self-inside-is, c.in_ok-reserve.ensures.items, map-append)
          record {
            few = rw (length-append, length-map) (omega arith);
            indexed =
                (IsIndexOf-kept g.T.Named.name c.self.inside.first _ c.args.item.now c.name-name.result.now c.self.invariant.indexed c.name-name.ensures (sym w.if-not-contains_key.ensures));
          }
    ]
