use Rattle.std.proofs.Common.{ap, arith, get_or, length, ◌-◌, ◌≡◌, ◌∙◌, ⊎_elim}
use Rattle.std.specs.Option.{unwrap_or}
use Rattle.std.proofs.lemmas.Bool.{cases_lt}
use Rattle.std.proofs.lemmas.Option.{unwrap_or-slice_get}
use Rattle.std.proofs.lemmas.List.{get_or_past}
use Rattle.bit_planes.proofs.Rising.{rising_le}
use Rattle.bit_planes.proofs.plane.ends_of.Goals as goal

pub returns : goal.returns
returns c =
    let xs = c.args.points.now in
    let first : c.unwrap_or-first.result ≡ get_or xs 0 0 = c.unwrap_or-first.ensures ∙ ap (λ o. unwrap_or o 0) (c.copied.ensures ∙ c.first.ensures.value) ∙ unwrap_or-slice_get xs 0 0 in
    let last : c.unwrap_or-last.result ≡ get_or xs (length xs - 1) 0 = c.unwrap_or-last.ensures ∙ ap (λ o. unwrap_or o 0) (c.copied-2.ensures ∙ c.last.ensures.value) ∙ unwrap_or-slice_get xs (length xs - 1) 0 in
    record {
      order = ⊎_elim (λ l. omega (arith, first, last, rising_le xs c.requires.rising 0 (length xs - 1) (omega arith) (omega arith))) (λ o. omega (arith, first, get_or_past xs 0 0 (omega arith))) (cases_lt 0 (length xs));
      below = ⊎_elim (λ l. omega (arith, last, c.requires.below (length xs - 1) 0 (omega arith))) (λ o. omega (arith, last, get_or_past xs (length xs - 1) 0 (omega arith))) (cases_lt 0 (length xs));
      first = λ k l. omega (arith, first, rising_le xs c.requires.rising 0 k (omega arith) l);
      last = λ k l. omega (arith, last, rising_le xs c.requires.rising k (length xs - 1) (omega arith) (omega arith));
    }
