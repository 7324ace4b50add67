use Rattle.std.proofs.Common.{◌≡◌, ◌+◌, ◌-◌, length, drop, ap, ◌∙◌, arith}
use Rattle.std.proofs.lemmas.List.{drop-drop, length-append, length-drop}
use Rattle.std.proofs.Math.Seq.{drop-append_seam}
use Rattle.program_tables.proofs.names.Names.forget_to.Goals as goal

pub loop-self-preserved : goal.loop-self-preserved
loop-self-preserved c =
    let all = c.args.self.now in
    let kept = c.loop-self.self in
    let next = c.forget_innermost.new.self in
    let one : length next ≡ length kept - 1 = ap length c.forget_innermost.ensures ∙ length-drop 1 kept in
    let more : (length all - length kept) + 1 ≡ length all - length next = omega arith in (
      c.forget_innermost.ensures ∙ ap (drop 1) c.loop-self.invariant.0 ∙ drop-drop 1 (length all - length kept) all ∙ ap (λ n. drop n all) more,
      omega arith,
      omega arith,
    )

pub returns-clause-back : goal.returns-clause-back
returns-clause-back c = λ inner outer split size.
    let all = c.args.self.now in
    let both : length all ≡ length inner + length outer = ap length split ∙ length-append inner outer in
    let gone : length all - length c.loop-self.self ≡ length inner = omega arith in
    c.loop-self.invariant.0 ∙ ap (λ n. drop n all) gone ∙ ap (drop (length inner)) split ∙ drop-append_seam inner outer
