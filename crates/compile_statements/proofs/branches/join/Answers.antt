use Rattle.std.proofs.Common.{◌≡◌, ℕ, ◌+◌, ◌-◌, ◌<◌, List, ap, arith, length, refl, subst, sym, take, ◌∙◌}
use Rattle.std.specs.Prelude.{get_or}
use Rattle.task_code.specs.declared.code.Line.{Line}
use Rattle.task_code.specs.declared.instr.Instr.TheVariants as instr
use Rattle.code_rules.specs.Emitted.{put_in}
use Rattle.compile_statements.specs.Branches.{joined}
use Rattle.compile_statements.proofs.Joined.{join_on}
use Rattle.compile_statements.proofs.branches.join.Goals as goal

pub loop-after-preserved : goal.loop-after-preserved
loop-after-preserved c =
    let line = c.args.line in
    let skips = c.args.skips.now in
    let b = c.loop-after.body in
    let total = joined line skips c.args.body.now in
    let more = c.loop-after-test.true in
    let k = length skips - 1 - c.loop-after.after in
    let lt : k < length skips = omega (arith, more) in
    let here : length skips - (c.loop-after.after + 1) ≡ k = omega (arith, more) in
    let next : length skips - c.loop-after.after ≡ k + 1 = omega (arith, more) in
    let so_far : joined line (take (k + 1) skips) b ≡ total =
    subst (λ (j : ℕ). joined line (take j skips) b ≡ total) next c.loop-after.invariant.code in
    let put : c.put.new.self ≡ put_in b (get_or skips k 0) (instr.Jump (length b)) line =
    c.put.ensures ∙ ap (λ (p : ℕ). put_in b (get_or skips k 0) (instr.Jump p) line) c.in_ok-past.ensures in
    record {
      count = refl;
      code = subst (λ (j : ℕ). joined line (take j skips) c.put.new.self ≡ total) (sym here)
          (ap (joined line (take k skips)) put ∙ join_on line skips k b total lt so_far);
    }
