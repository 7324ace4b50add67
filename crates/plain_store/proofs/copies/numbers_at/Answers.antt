use Rattle.std.proofs.Common.{rules, ◌≡◌, ◌++◌, ◌∷◌, [], get_or, pos}
use Rattle.plain_store.proofs.Walking.{mapped_next}
use Rattle.plain_store.proofs.copies.numbers_at.Goals as goal

pub loop-place-preserved : goal.loop-place-preserved
loop-place-preserved c =
    let pushed : c.push.new.self.items ≡ c.loop-place.numbers.items ++ c.number_in.result ∷ [] =
    search (rules) in
    mapped_next (λ p. get_or c.args.column.now p (pos 0)) c.args.points.now
    c.loop-place.place c.in-Some.point c.number_in.result c.loop-place.numbers.items
    c.push.new.self.items c.in-Some.ensures.value c.number_in.ensures pushed c.loop-place.invariant
