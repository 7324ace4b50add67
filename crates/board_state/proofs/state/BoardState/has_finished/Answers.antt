use Rattle.std.proofs.Common.{◌≡◌, ◌<◌, ◌∙◌, ◌+◌, ◌-◌, ℕ, Bool, ap, arith, length, rules, sym, true}
use Rattle.std.specs.List.{list_all}
use Rattle.plain_values.specs.Points.{counted_from}
use Rattle.board_terms.specs.Stages.{is_over, stage_at}
use Rattle.board_terms.specs.States.{State}
use Rattle.board_state.proofs.Numbers.{all_from}
use Rattle.board_state.proofs.state.BoardState.has_finished.Goals as goal

pub loop-place-preserved : goal.loop-place-preserved
loop-place-preserved c =
    let s = c.args.self.now in
    let n = length s.operations in
    let l = c.loop-place in
    let less : n - (l.place + 1) ≡ n - l.place - 1 = omega arith in
    let over : is_over (stage_at s l.place) ≡ true = search (rules) in
    ap (λ (m : ℕ). list_all (λ k. is_over (stage_at s k)) (counted_from (l.place + 1) m)) less
    ∙ sym (all_from (λ k. is_over (stage_at s k)) l.place (n - l.place) (omega (arith, c.loop-place-test.true, c.len-place-end.ensures, c.self.inside.operations.ok.0, ap (λ (t : State). length t.operations) c.self.view_is)) over)
    ∙ l.invariant
