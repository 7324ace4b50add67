use Rattle.std.proofs.Common.{◌≤◌, ◌++◌, ℕ, List, Result, Ok, Err, IfErr, length, take, refl, arith}
use Rattle.std.proofs.lemmas.List.{length-append, length-take}
use Rattle.std.proofs.lemmas.Grind.{common_steps}
use Rattle.run_io.specs.Rest.{TakesAtMost}
use Rattle.run_io.proofs.SourceLemmas.{moves_both}
use Rattle.run_io.proofs.rest.read_rest.Goals as goal

-- what holds anyhow holds of an error
if_error : {T E : Type 0} {P : Type 0} (r : Result T E) → P → IfErr r (λ _. P)
if_error (Ok x) p = tt
if_error (Err e) p = p

pub returns-in_err-extend_from_slice-clause-takes : goal.returns-in_err-extend_from_slice-clause-takes
returns-in_err-extend_from_slice-clause-takes g c =
    let more : List ℕ = take c.in_ok-count.count c.read.new.buf in
    let kept = c.read.auto.buf in
    let fits : length (c.turns.text.items ++ more) ≤ c.args.most =
    rw length-append (grind (arith, common_steps, c.in_ok-count.ensures.bound, kept, length-take {A = ℕ})) in
    let taken : TakesAtMost c.args.most (g.S.Source.left c.args.source.now) (g.S.Source.left c.read.new.self) =
    (c.turns.text.items ++ more, fits, moves_both _ _ _ _ _ _ c.turns.invariant.so_far c.in_ok-count.ensures.moved refl) in
    if_error _ taken
