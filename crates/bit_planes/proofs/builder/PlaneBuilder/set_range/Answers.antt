use Rattle.std.proofs.Common.{ap, arith, leb, length, ltb, ◌&&◌, ◌-◌, ◌*◌, ◌||◌, ◌∙◌}
use Rattle.bit_planes.specs.Planes.{has_point}
use Rattle.bit_planes.specs.Words.{number_of, placed}
use Rattle.bit_planes.proofs.Joining.{added_further, written}
use Rattle.bit_planes.proofs.builder.PlaneBuilder.set_range.Goals as goal

pub returns-clause-set : goal.returns-clause-set
returns-clause-set c = λ z.
    let p = c.self.inside in
    let old = p.words.items in
    let new = c.set_ones.new.words in
    let same = c.as_mut_slice.ensures.value in
    ap (λ ws. has_point (placed p.first ws) z) (written new old p.words.len (omega (arith, p.words.ok.0)) (omega (arith, c.set_ones.ensures.length, ap length same)))
    ∙ added_further p.first c.args.start c.args.end (number_of old) (number_of new) (omega (arith, c.requires.low, ap (λ b. b.low) c.self.view_is)) (λ y. c.set_ones.ensures.set y ∙ ap (λ ws. has_point (number_of ws) y || (leb (c.args.start - 64 * p.first) y && ltb y (c.args.end - 64 * p.first))) same) z
    ∙ ap (λ b. has_point b.set z || (leb c.args.start z && ltb z c.args.end)) c.self.view_is
