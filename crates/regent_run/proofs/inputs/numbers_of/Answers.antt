use Rattle.std.proofs.Common.{◌∙◌, ◌<◌, length, map, arith}
use Rattle.std.proofs.lemmas.Int.{to_z-of_z}
use Rattle.std.proofs.lemmas.List.{length-map}
use Rattle.std.specs.Int.{w64}
use Rattle.regent_run.proofs.InputLaws.{as_many, each_input, fits_64, inputs_on}
use Rattle.regent_run.proofs.inputs.numbers_of.Goals as goal

pub returns-then-widths-words : goal.returns-then-widths-words
returns-then-widths-words c = λ zs h.
    absurd (c.if-widths-words.true (as_many c.args.widths.now (map (λ word. word.now) c.args.words.now) zs h ∙ length-map c.args.words.now (λ word. word.now)))

pub returns-in-None : goal.returns-in-None
returns-in-None c = λ zs h.
    let found = each_input (λ word. word.now) c.args.widths.now c.args.words.now zs c.loop-place.place _ _ c.loop-place-test.true h in
    c.in-None.ensures found.0 found.1

pub loop-place-preserved : goal.loop-place-preserved
loop-place-preserved c =
    let here : c.loop-place.place < length c.args.widths.now = c.loop-place-test.true in
    record {
      size = c.loop-place.invariant.size;
      so_far = rw c.in_ok-push-in-Some.ensures.ok (rw (to_z-of_z w64 c.in-Some.number (fits_64 _ c.in-Some.number c.in-Some.ensures.2))
          (inputs_on (λ word. word.now) c.args.widths.now c.args.words.now c.loop-place.place _ _ c.loop-place.numbers _
          here (omega (arith, here, c.loop-place.invariant.size)) c.in-Some.ensures c.loop-place.invariant.so_far));
    }
