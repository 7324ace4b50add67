use Rattle.std.proofs.Common.{rules, ◌≡◌, ◌∙◌, ◌-◌, ◌+◌, ℕ, ap, arith, length, sym}
use Rattle.region_tree.specs.declared.tree.OpNumber.{OpNumber}
use Rattle.board_terms.specs.Closings.{closed_up}
use Rattle.board_state.proofs.Closings.{last_level, last_up, next_up}
use Rattle.board_state.proofs.state.BoardState.follow.Goals as goal

pub loop-level-init : goal.loop-level-init
loop-level-init c =
    let all : length c.args.self.now.operations - 0 ≡ length c.args.self.now.operations = omega arith in
    ap (λ (n : ℕ). closed_up n c.args.self.now c.args.op.0) all

pub returns-then-not-may_close : goal.returns-then-not-may_close
returns-then-not-may_close c =
    let counted : c.len-level-end.result ≡ length c.args.self.now.operations = search (rules) in
    last_level (length c.args.self.now.operations - c.loop-level._level) c.loop-level.at.0 c.loop-level.self _
    (sym c.may_close.ensures ∙ c.if-not-may_close.true) (omega (arith, counted, c.loop-level-test.true)) c.loop-level.invariant

pub returns-then-at-eq0 : goal.returns-then-at-eq0
returns-then-at-eq0 c =
    let counted : c.len-level-end.result ≡ length c.args.self.now.operations = search (rules) in
    last_up (length c.args.self.now.operations - c.loop-level._level) c.loop-level.at.0 c.loop-level.self c.close.new.self _
    (sym c.may_close.ensures ∙ c.if-not-may_close.false) (omega (arith, counted, c.loop-level-test.true)) c.loop-level.invariant
    c.close.ensures c.if-at-eq0.true

pub loop-level-preserved : goal.loop-level-preserved
loop-level-preserved c =
    let counted : c.len-level-end.result ≡ length c.args.self.now.operations = search (rules) in
    let less : length c.args.self.now.operations - (c.loop-level._level + 1) ≡ length c.args.self.now.operations - c.loop-level._level - 1 = omega arith in
    ap (λ (n : ℕ). closed_up n c.close.new.self c.parent_of-at.result.0) less
    ∙ next_up (length c.args.self.now.operations - c.loop-level._level) c.loop-level.at.0 c.parent_of-at.result.0 c.loop-level.self c.close.new.self _
    (sym c.may_close.ensures ∙ c.if-not-may_close.false) (omega (arith, counted, c.loop-level-test.true)) c.loop-level.invariant
    c.close.ensures c.if-at-eq0.false (ap (λ (o : OpNumber). o.0) c.parent_of-at.ensures)

pub returns : goal.returns
returns c =
    let counted : c.len-level-end.result ≡ length c.args.self.now.operations = search (rules) in
    let none : length c.args.self.now.operations - c.loop-level._level ≡ 0 = omega (arith, counted, c.loop-level-test.false) in
    ap (λ (n : ℕ). closed_up n c.loop-level.self c.loop-level.at.0) (sym none) ∙ c.loop-level.invariant
