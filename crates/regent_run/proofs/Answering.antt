-- What a call answers, from what it comes to and what it wrote.
use Rattle.std.proofs.Common.{◌≡◌, ◌≢◌, ℕ, ◌⊎◌, inl, inr, List, Option, Some, None, Err, refl, sym, subst, ◌∙◌}
use Rattle.regent_run.specs.declared.verdict.Verdict.{Verdict}
use Rattle.regent_run.specs.declared.verdict.Verdict.TheVariants as verdict
use Rattle.regent_run.specs.Answers.{HasReadWell, IsAnswered, IsBegunOnce, IsNotBegun, IsOfText, IsReadWhole, UnlessStopped}
use Rattle.regent_run.specs.Begins.{Begins}
use Rattle.regent_run.specs.Calls.{Call}
use Rattle.regent_run.specs.Origins.{begun_for}
use Rattle.regent_run.specs.Reading.{IsSteady, ReadsToEnd, UsesSource}
use Rattle.regent_run.specs.Verdicts.{IsDelivered, Tells, status_of}
use Rattle.regent_run.specs.Words.{AsksNoFile, Request, request}
use Rattle.regent_run.proofs.Coming.{TellsIn, comes_to, complete_at}
use Rattle.regent_run.proofs.Writing.{ends_as, prints_or_tells, sure_as, written}

-- words that are refused name nothing
none_named : {X : Type 0} (asked : Option Request) (named : Request) → asked ≡ Some named → asked ≡ None → X
none_named asked named is none = let e : None ≡ Some named = sym none ∙ is in absurd cc

refused : (serves : ℕ → ℕ) (asked : Option Request) (later : Option (List (List ℕ))) (before now : ℕ) (v : Verdict) → Tells serves asked later before now v → asked ≡ None → (status_of v ≡ 2) ⊎ (status_of v ≡ 7)
refused serves asked later before now verdict.Usage said none = inl refl
refused serves asked later before now verdict.Unread said none = absurd (said.of_file (subst (λ (a : Option Request). AsksNoFile a) (sym none) tt))
refused serves asked later before now verdict.NoMemory said none = inr refl
refused serves asked later before now (verdict.NoProgram message) said none = none_named asked said.0 said.1 none
refused serves asked later before now (verdict.PastLimit passed) said none = none_named asked said.0 said.1 none
refused serves asked later before now (verdict.Refused message) said none = none_named asked said.0 said.1 none
refused serves asked later before now verdict.OtherInputs said none = none_named asked said.0 said.1 none
refused serves asked later before now (verdict.Finished text trace) said none = none_named asked said.0 said.1 none
refused serves asked later before now (verdict.Faulted text message) said none = none_named asked said.0 said.1 none
refused serves asked later before now verdict.Accepted said none = none_named asked said.0 said.1 none

stopped_or_two : (call : Call) (v : Verdict) (answer : ℕ) → IsDelivered v answer call.out call.err → (status_of v ≡ 2) ⊎ (status_of v ≡ 7) → UnlessStopped 2 answer
stopped_or_two call v answer (inl w) (inl two) = inl (w.status ∙ two)
stopped_or_two call v answer (inl w) (inr seven) = inr (inl (w.status ∙ seven))
stopped_or_two call v answer (inr (inl o)) two = inr (inr o.status)
stopped_or_two call v answer (inr (inr e)) two = inr (inr e.status)

-- the source had no fault, but where the text couldn't be read
steady_source : (before now : ℕ) (v : Verdict) → IsSteady before now (Err v) → status_of v ≢ 3 → now ≡ before
steady_source before now verdict.Usage h isnt = h
steady_source before now verdict.Unread h isnt = absurd (isnt refl)
steady_source before now verdict.NoMemory h isnt = h
steady_source before now (verdict.NoProgram message) h isnt = h
steady_source before now (verdict.PastLimit passed) h isnt = h
steady_source before now (verdict.Refused message) h isnt = h
steady_source before now verdict.OtherInputs h isnt = h
steady_source before now (verdict.Finished text trace) h isnt = h
steady_source before now (verdict.Faulted text message) h isnt = h
steady_source before now verdict.Accepted h isnt = h

-- ---- what was read

abbrev UsesIn : Call → Verdict → Type 0
UsesIn call v = UsesSource (request call.words) call.source (Err v)

-- a text that was read was begun
begun_as : (call : Call) (v : Verdict) → Begins (request call.words) call.source (Err v) → IsOfText (status_of v) → IsBegunOnce call
begun_as call verdict.Usage h is = absurd (is.0 refl)
begun_as call verdict.Unread h is = absurd (is.1 refl)
begun_as call verdict.NoMemory h is = absurd (is.3 refl)
begun_as call (verdict.NoProgram message) h is = h
begun_as call (verdict.PastLimit passed) h is = h
begun_as call (verdict.Refused message) h is = h
begun_as call verdict.OtherInputs h is = h
begun_as call (verdict.Finished text trace) h is = h
begun_as call (verdict.Faulted text message) h is = h
begun_as call verdict.Accepted h is = h

begins_in : (call : Call) (v : Verdict) → Begins (request call.words) call.source (Err v) → IsNotBegun call ⊎ IsBegunOnce call
begins_in call verdict.Usage h = inl h
begins_in call verdict.Unread h = inr h
begins_in call verdict.NoMemory h = h
begins_in call (verdict.NoProgram message) h = inr h
begins_in call (verdict.PastLimit passed) h = inr h
begins_in call (verdict.Refused message) h = inr h
begins_in call verdict.OtherInputs h = inr h
begins_in call (verdict.Finished text trace) h = inr h
begins_in call (verdict.Faulted text message) h = inr h
begins_in call verdict.Accepted h = inr h

-- a text that isn't too long was read to its end
whole_in : (call : Call) (v : Verdict) → ReadsToEnd (begun_for (request call.words) call.source.later) call.source.left_now (Err v) → IsOfText (status_of v) → IsReadWhole call
whole_in call verdict.Usage h is = absurd (is.0 refl)
whole_in call verdict.Unread h is = absurd (is.1 refl)
whole_in call verdict.NoMemory h is = absurd (is.3 refl)
whole_in call (verdict.NoProgram message) h is = h
whole_in call (verdict.PastLimit passed) h is = h
whole_in call (verdict.Refused message) h is = h
whole_in call verdict.OtherInputs h is = h
whole_in call (verdict.Finished text trace) h is = h
whole_in call (verdict.Faulted text message) h is = h
whole_in call verdict.Accepted h is = h

-- ---- the whole

-- the status of a text that was read is its verdict's
of_text : (call : Call) (v : Verdict) (answer : ℕ) → IsDelivered v answer call.out call.err → IsOfText answer → IsOfText (status_of v)
of_text call v answer d is = subst (λ (n : ℕ). IsOfText n) (written v answer call.out call.err d is.2).status is

pub answered : (call : Call) (v : Verdict) (answer : ℕ) → TellsIn call v → UsesIn call v → IsDelivered v answer call.out call.err → IsAnswered call answer
answered call v answer said uses d =
    let well : status_of v ≢ 3 → HasReadWell call = steady_source call.source.faults call.source.faults_now v uses.steady in record {
      ends = ends_as call v answer d well (prints_or_tells call v said);
      refuses = λ none. stopped_or_two call v answer d (refused call.serves (request call.words) call.source.later call.source.faults call.source.faults_now v said none);
      comes = comes_to call v answer said d;
      complete = complete_at call v answer said d;
      sure = sure_as call v answer d (prints_or_tells call v said);
      read = λ not3 not4. well (λ three. not3 ((written v answer call.out call.err d not4).status ∙ three));
      steady = λ not4. ((written v answer call.out call.err d not4).output.steady, (written v answer call.out call.err d not4).errors.steady);
      begins = begins_in call v uses.begins;
      begun = λ is. begun_as call v uses.begins (of_text call v answer d is);
      takes = uses.takes;
      whole = λ is. whole_in call v uses.whole (of_text call v answer d is);
    }
