use Rattle.std.proofs.Common.{◌∙◌, ap, arith, drop, get_or, length, sym, take}
use Rattle.std.proofs.lemmas.List.Sums.{prefix_len-le-length}
use Rattle.std.specs.Char.{is_ascii_digit}
use Rattle.run_journal.proofs.Fronts.{found, if_none, leading_zero, never_refused, no_number, utf8_front, word_is}
use Rattle.run_journal.proofs.numbers.number_at.Goals.{else-digits-gt1-via-then-digits-gt1+else-digits-eq48, else-digits-gt1-via-else-digits-gt1}
use Rattle.run_journal.proofs.numbers.number_at.Goals as goal

pub split_at-requires : goal.split_at-requires
split_at-requires c = omega (arith, c.count_digits.ensures, prefix_len-le-length is_ascii_digit c.args.text.now)

pub returns-then-digits-eq48-clause-none : goal.returns-then-digits-eq48-clause-none
returns-then-digits-eq48-clause-none c n rest =
    let front = c.split_at.ensures.front ∙ ap (λ k. take k c.args.text.now) c.count_digits.ensures in
    leading_zero c.args.text.now n rest (omega (arith, c.if-digits-gt1.true, ap length front))
    (ap (λ xs. get_or xs 0 0) (sym front) ∙ c.if-digits-eq48.true)

pub returns-in_err-word-clause-none : goal.returns-in_err-word-clause-none
returns-in_err-word-clause-none c = absurd (never_refused c.from_utf8.result _ _ _ c.from_utf8.ensures.cases
    (utf8_front c.args.text.now c.split_at.result.0.now (c.split_at.ensures.front ∙ ap (λ k. take k c.args.text.now) c.count_digits.ensures))
    (sym c.ok.ensures.value ∙ c.in_err-word.was))

pub returns-in_err-number-clause-none : goal.returns-in_err-number-clause-none
returns-in_err-number-clause-none c = if_none c.from_residual-in_err-number.result _
    (no_number c.args.text.now c.in_ok-word.word.now c.parse.result
    (word_is c.from_utf8.result c.in_ok-word.word c.split_at.result.0.now _ _ c.from_utf8.ensures.cases (sym c.ok.ensures.value ∙ c.in_ok-word.was)
    ∙ c.split_at.ensures.front ∙ ap (λ k. take k c.args.text.now) c.count_digits.ensures)
    c.parse.ensures.value.0 (sym c.ok-2.ensures.value ∙ c.in_err-number.was))

pub returns-clause-some : goal.returns-clause-some
returns-clause-some c =
    found c.args.text.now c.split_at.result.0.now c.in_ok-word.word.now c.split_at.result.1.now c.parse.result c.in_ok-number.number
    (c.split_at.ensures.front ∙ ap (λ k. take k c.args.text.now) c.count_digits.ensures)
    (c.split_at.ensures.back ∙ ap (λ k. drop k c.args.text.now) c.count_digits.ensures)
    (word_is c.from_utf8.result c.in_ok-word.word c.split_at.result.0.now _ _ c.from_utf8.ensures.cases (sym c.ok.ensures.value ∙ c.in_ok-word.was))
    (λ some z. elim c.else-digits-gt1.branch [
      | else-digits-gt1-via-then-digits-gt1+else-digits-eq48 w ↦ absurd (w.if-digits-eq48.false z)
      | else-digits-gt1-via-else-digits-gt1 w ↦ omega (arith, some, w.if-digits-gt1.false)
    ])
    c.parse.ensures.value.0 (sym c.ok-2.ensures.value ∙ c.in_ok-number.was)
