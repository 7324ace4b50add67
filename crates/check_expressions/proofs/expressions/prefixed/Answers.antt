use Rattle.std.proofs.Common.{rules, ◌≡◌, ◌<◌, ◌+◌, ◌-◌, ℕ, None, drop, length, ◌∙◌, arith, refl}
use Rattle.regent_tree.specs.declared.expression.Sign.TheVariants.{Minus}
use Rattle.check_rules.specs.first.FirstInExpressions.{first_of_signs}
use Rattle.check_rules.specs.types.KnownTypes.{known_type_after_signs}
use Rattle.static_types.specs.Telling.{IsTold}
use Rattle.check_expressions.proofs.Prefixes.{after_on, none_on, told_on}
use Rattle.check_expressions.proofs.expressions.prefixed.Goals as goal

pub returns-in_err-signed : goal.returns-in_err-signed
returns-in_err-signed c =
    let signs = c.args.signs.now in
    let inner = c.args.inner in
    let i : ℕ = length signs - 1 - c.loop-after.after in
    let lt : i < length signs = omega (arith, c.loop-after-test.true) in
    let next : i + 1 ≡ length signs - c.loop-after.after = omega (arith, c.loop-after-test.true) in
    let known : c.loop-after.t ≡ known_type_after_signs (drop (i + 1) signs) inner =
    rw next c.loop-after.invariant.known in
    let none : first_of_signs (drop (i + 1) signs) inner ≡ None = rw next c.loop-after.invariant.none in
    let told : IsTold c.in_err-signed.field-0.0 (first_of_signs signs inner) =
    told_on signs i Minus c.loop-after.t inner c.in_err-signed.field-0.0 lt known none c.in_err-signed.ensures in
    search (rules, told)

pub loop-after-preserved : goal.loop-after-preserved
loop-after-preserved c =
    let signs = c.args.signs.now in
    let inner = c.args.inner in
    let i : ℕ = length signs - 1 - c.loop-after.after in
    let lt : i < length signs = omega (arith, c.loop-after-test.true) in
    let next : i + 1 ≡ length signs - c.loop-after.after = omega (arith, c.loop-after-test.true) in
    let same : length signs - (c.loop-after.after + 1) ≡ i = omega (arith, c.loop-after-test.true) in
    let known : c.loop-after.t ≡ known_type_after_signs (drop (i + 1) signs) inner =
    rw next c.loop-after.invariant.known in
    let none : first_of_signs (drop (i + 1) signs) inner ≡ None = rw next c.loop-after.invariant.none in
    record {
      count = refl;
      none = rw same (none_on signs i Minus c.loop-after.t inner lt known none c.in_ok-signed.ensures.0);
      known = rw same (c.after_sign-t.ensures ∙ after_on signs i Minus c.loop-after.t inner lt known);
    }
