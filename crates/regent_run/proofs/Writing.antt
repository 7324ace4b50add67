-- How a call ends: what was printed or told, and what a failed write leaves.
use Rattle.std.proofs.Common.{◌≡◌, ◌≢◌, ℕ, ◌≤◌, ◌<◌, ◌⊎◌, inl, inr, List, [], Option, Some, None, IfSome, length, refl, sym, ap, subst, ◌∙◌, arith}
use Rattle.std.proofs.lemmas.List.{append-nil}
use Rattle.run_io.specs.Sink.{Adds}
use Rattle.regent_run.specs.declared.verdict.Verdict.{Verdict}
use Rattle.regent_run.specs.declared.verdict.Verdict.TheVariants as verdict
use Rattle.regent_run.specs.Answers.{Ends, Fails, HasReadWell, IsPrinted, IsSureOfErrors, IsSureOfOutput, IsTheText, accepted, faulted, finished, inputs, limit, line_failed, no_memory, print_failed, prints, syntax, tells, told_failed, types, unread, usage}
use Rattle.regent_run.specs.Calls.{Call, SinkChange}
use Rattle.regent_run.specs.Origins.{text_asked}
use Rattle.regent_run.specs.Words.{Request, request}
use Rattle.regent_run.specs.Verdicts.{HasGained, HasFailed, IsDelivered, IsUntouched, IsWritten, Tells, out_text, err_text, status_of}

adds_nothing : (before now : Option (List ℕ)) → Adds before [] now → now ≡ before
adds_nothing None now h = h
adds_nothing (Some held) now h = let e : now ≡ Some _ = h in e ∙ ap Some (append-nil held)

no_failure : {X : Type 0} (sink : SinkChange) → HasFailed [] sink → X
no_failure sink h = let e : h.prefix.0 < 0 = h.prefix.1 in absurd (omega arith)

-- what has gained nothing is as it was
untouched : (sink : SinkChange) → HasGained [] sink → IsUntouched sink
untouched sink h = record { steady = h.steady; kept = adds_nothing sink.held sink.held_now h.gained }

-- no verdict's own status is that of a failed write
no_stop : (v : Verdict) → 4 ≡ status_of v → ⊥
no_stop verdict.Usage h = absurd cc
no_stop verdict.Unread h = absurd cc
no_stop verdict.NoMemory h = absurd cc
no_stop (verdict.NoProgram message) h = absurd cc
no_stop (verdict.PastLimit passed) h = absurd cc
no_stop (verdict.Refused message) h = absurd cc
no_stop verdict.OtherInputs h = absurd cc
no_stop (verdict.Finished text trace) h = absurd cc
no_stop (verdict.Faulted text message) h = absurd cc
no_stop verdict.Accepted h = absurd cc

-- a verdict prints, with its status, or it has a line and prints nothing
abbrev Printing : Call → Verdict → Type 0
Printing call v = IsPrinted call (status_of v) (out_text v) (err_text v)

abbrev Telling : Call → Verdict → Type 0
Telling call v = (out_text v ≡ []) × Fails call (status_of v) (err_text v)

-- the text that a verdict tells of is the one that is asked for
the_text : (call : Call) (named : Request) (text : List ℕ) → request call.words ≡ Some named →
    IfSome (text_asked (request call.words) call.source.later) (λ known. text ≡ known) → IsTheText call text
the_text call named text is told =
    record { named = named; is_asked = is; told = subst (λ (asked : Option Request). IfSome (text_asked asked call.source.later) (λ known. text ≡ known)) is told }

pub prints_or_tells : (call : Call) (v : Verdict) → Tells call.serves (request call.words) call.source.later call.source.faults call.source.faults_now v → Printing call v ⊎ Telling call v
prints_or_tells call verdict.Usage said = inr (refl, usage said)
prints_or_tells call verdict.Unread said = inr (refl, unread said)
prints_or_tells call verdict.NoMemory said = inr (refl, no_memory)
prints_or_tells call (verdict.NoProgram message) said =
    let of = said.2 in
    let told = of.2 in
    inr (
      refl,
      subst (λ (m : List ℕ). Fails call 5 m) (sym told.1)
          (syntax of.0 said.0.deed told.0 (the_text call said.0 of.0 said.1 of.1) (record { named = said.0; words_name = said.1; same = refl }) told.2),
    )
prints_or_tells call (verdict.PastLimit passed) said =
    let of = said.2 in
    inr (refl, limit of.0 said.0.deed passed (the_text call said.0 of.0 said.1 of.1) (record { named = said.0; words_name = said.1; same = refl }) of.2)
prints_or_tells call (verdict.Refused message) said =
    let of = said.2 in
    let told = of.2 in
    inr (
      refl,
      subst (λ (m : List ℕ). Fails call 6 m) (sym told.2)
          (types of.0 said.0.deed told.0 told.1 (the_text call said.0 of.0 said.1 of.1) (record { named = said.0; words_name = said.1; same = refl }) told.3),
    )
prints_or_tells call verdict.OtherInputs said =
    let of = said.2 in
    let told = of.2 in
    inr (refl, inputs of.0 told.0 (the_text call said.0 of.0 said.1 of.1) (record { named = said.0; words_name = said.1; same = told.1 }) told.2)
prints_or_tells call (verdict.Finished text trace) said =
    let of = said.2 in
    let told = of.2 in
    inl (finished of.0 told.0 (the_text call said.0 of.0 said.1 of.1) (record { named = said.0; words_name = said.1; same = told.1 }) told.3 told.2)
prints_or_tells call (verdict.Faulted text message) said =
    let of = said.2 in
    let told = of.2 in
    inl (subst (λ (m : List ℕ). IsPrinted call 1 text m) (sym told.4)
    (faulted of.0 told.0 told.2 (the_text call said.0 of.0 said.1 of.1) (record { named = said.0; words_name = said.1; same = told.1 }) told.6 told.5))
prints_or_tells call verdict.Accepted said =
    let of = said.2 in
    let told = of.2 in
    inl (accepted of.0 (the_text call said.0 of.0 said.1 of.1) (record { named = said.0; words_name = said.1; same = told.0 }) told.1)

-- what is printed isn't of a text that couldn't be read
no_print_unread : (call : Call) {status : ℕ} {printed told : List ℕ} → IsPrinted call status printed told → status ≢ 3
no_print_unread call (finished text r the asks done trace) is = absurd cc
no_print_unread call (faulted text r f the asks done trace) is = absurd cc
no_print_unread call (accepted text the asks done) is = absurd cc

pub ends_as : (call : Call) (v : Verdict) (answer : ℕ) → IsDelivered v answer call.out call.err → (status_of v ≢ 3 → HasReadWell call) → Printing call v ⊎ Telling call v → Ends call answer
ends_as call v answer (inl w) well (inl p) =
    subst (λ (n : ℕ). Ends call n) (sym w.status)
    (prints p (record { output = w.output.gained; errors = w.errors.gained }))
ends_as call v answer (inl w) well (inr t) =
    subst (λ (n : ℕ). Ends call n) (sym w.status)
    (tells t.1 (record {
      output = (untouched call.out (subst (λ (b : List ℕ). HasGained b call.out) t.0 w.output)).kept;
      errors = w.errors.gained;
    }))
ends_as call v answer (inr (inl o)) well (inl p) = subst (λ (n : ℕ). Ends call n) (sym o.status) (print_failed p (well (no_print_unread call p)) o.output o.errors)
ends_as call v answer (inr (inl o)) well (inr t) = no_failure call.out (subst (λ (b : List ℕ). HasFailed b call.out) t.0 o.output)
ends_as call v answer (inr (inr e)) well (inl p) = subst (λ (n : ℕ). Ends call n) (sym e.status) (told_failed p (well (no_print_unread call p)) e.output e.errors)
ends_as call v answer (inr (inr e)) well (inr t) =
    subst (λ (n : ℕ). Ends call n) (sym e.status)
    (line_failed t.1 well (untouched call.out (subst (λ (b : List ℕ). HasGained b call.out) t.0 e.output)) e.errors)

-- nothing fails where the sinks are sure of what may be written
pub sure_as : (call : Call) (v : Verdict) (answer : ℕ) → IsDelivered v answer call.out call.err → Printing call v ⊎ Telling call v →
    IsSureOfOutput call → IsSureOfErrors call → answer ≢ 4
sure_as call v answer (inl w) k output errors is = no_stop v (sym is ∙ w.status)
sure_as call v answer (inr (inl o)) (inl p) output errors is =
    let fits : length (out_text v) ≤ call.out.sure = output (status_of v) (out_text v) (err_text v) p in
    let unsure : call.out.sure < length (out_text v) = o.output.unsure in
    absurd (omega arith)
sure_as call v answer (inr (inl o)) (inr t) output errors is = no_failure call.out (subst (λ (b : List ℕ). HasFailed b call.out) t.0 o.output)
sure_as call v answer (inr (inr e)) (inl p) output errors is =
    let fits : length (err_text v) ≤ call.err.sure = errors.besides (status_of v) (out_text v) (err_text v) p in
    let unsure : call.err.sure < length (err_text v) = e.errors.unsure in
    absurd (omega arith)
sure_as call v answer (inr (inr e)) (inr t) output errors is =
    let fits : length (err_text v) ≤ call.err.sure = errors.lines (status_of v) (err_text v) t.1 in
    let unsure : call.err.sure < length (err_text v) = e.errors.unsure in
    absurd (omega arith)

-- where no write failed, all was written
pub written : (v : Verdict) (answer : ℕ) (out err : SinkChange) → IsDelivered v answer out err → answer ≢ 4 → IsWritten v answer out err
written v answer out err (inl w) isnt = w
written v answer out err (inr (inl o)) isnt = absurd (isnt o.status)
written v answer out err (inr (inr e)) isnt = absurd (isnt e.status)
