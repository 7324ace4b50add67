use Rattle.std.proofs.Common.{◌≡◌, ◌+◌, ◌-◌, ◌<◌, ◌∙◌, ℕ, ap, arith, drop, flat_map, length, refl, subst, sym}
use Rattle.code_rules.specs.Used.{above_all, slots_named}
use Rattle.compile_tables.proofs.Named.{named_on}
use Rattle.compile_tables.proofs.used.above_args.Goals as goal

pub loop-after-preserved : goal.loop-after-preserved
loop-after-preserved c =
    let args = c.args.args.now in
    let more = c.loop-after-test.true in
    let k = length args - 1 - c.loop-after.after in
    let lt : k < length args = omega (arith, more) in
    let here : length args - (c.loop-after.after + 1) ≡ k = omega (arith, more) in
    let next : length args - c.loop-after.after ≡ k + 1 = omega (arith, more) in
    let rest = flat_map slots_named (drop (k + 1) args) in
    let so_far : c.loop-after.least ≡ above_all rest =
    subst (λ (j : ℕ). c.loop-after.least ≡ above_all (flat_map slots_named (drop j args))) next c.loop-after.invariant.least in
    let added = c.above_named-least.ensures rest so_far in
    record {
      count = refl;
      least = subst (λ (j : ℕ). c.above_named-least.result ≡ above_all (flat_map slots_named (drop j args))) (sym here)
          (added ∙ ap above_all (sym (named_on args k _ lt)));
    }
