-- What a call takes from its source.
use Rattle.std.proofs.Common.{◌≡◌, ◌≤◌, ◌+◌, ◌∙◌, ℕ, inl, inr, List, [], Option, Some, None, Result, Ok, Err, IfSome, length, refl, ap, arith}
use Rattle.std.specs.Option.{option_map}
use Rattle.std.proofs.lemmas.List.{length-append}
use Rattle.run_io.specs.Faults.{one_more}
use Rattle.run_io.specs.Source.{Moves, next_left, with_name}
use Rattle.run_io.specs.declared.source.Source.{Ghosts as SourceTells}
use Rattle.regent_run.specs.declared.plan.Plan.{Plan}
use Rattle.regent_run.specs.declared.verdict.Verdict.{Verdict}
use Rattle.regent_run.specs.declared.verdict.Verdict.TheVariants as verdict
use Rattle.regent_run.specs.Begins.{Begins, IsBegunFor}
use Rattle.regent_run.specs.Calls.{SourceChange, source_change}
use Rattle.regent_run.specs.Reading.{IsSteady, ReadsToEnd, TakesAtMost, UsesSource}
use Rattle.regent_run.specs.Origins.{begun_for}
use Rattle.regent_run.specs.Verdicts.{Judges, TellsPlan}
use Rattle.regent_run.proofs.Judging.{left_on}
use Rattle.regent_run.specs.Words.{Deed, Request, asked_of_file, sample}

-- words that are refused leave the source as it is, and so may want of memory
pub refused_unused : {S : Type 0} (asked : Option Request) (tells : SourceTells S) (s : S) → UsesSource asked (source_change tells s s) (Err verdict.Usage)
refused_unused asked tells s = record { begins = record { counted = refl; noted = refl }; takes = inl refl; whole = tt; steady = refl }

pub memory_unused : {S : Type 0} (asked : Option Request) (tells : SourceTells S) (s : S) → UsesSource asked (source_change tells s s) (Err verdict.NoMemory)
memory_unused asked tells s = record { begins = inl (record { counted = refl; noted = refl }); takes = inl refl; whole = tt; steady = refl }

-- a text that came to something was begun as it is asked for
begins_as : (text : List ℕ) (asked : Option Request) (deed : Deed) (source : SourceChange) (judged : Result Plan Verdict) → Judges text deed judged → IsBegunFor asked source → Begins asked source judged
begins_as text asked deed source (Ok plan) h b = b
begins_as text asked deed source (Err verdict.Usage) h b = absurd h
begins_as text asked deed source (Err verdict.Unread) h b = b
begins_as text asked deed source (Err verdict.NoMemory) h b = inr b
begins_as text asked deed source (Err (verdict.NoProgram message)) h b = b
begins_as text asked deed source (Err (verdict.PastLimit passed)) h b = b
begins_as text asked deed source (Err (verdict.Refused message)) h b = b
begins_as text asked deed source (Err verdict.OtherInputs) h b = b
begins_as text asked deed source (Err (verdict.Finished printed trace)) h b = b
begins_as text asked deed source (Err (verdict.Faulted printed message)) h b = b
begins_as text asked deed source (Err verdict.Accepted) h b = b

steady_as : (before now : ℕ) (judged : Result Plan Verdict) → now ≡ before → IsSteady before now judged
steady_as before now (Ok plan) e = e
steady_as before now (Err verdict.Usage) e = e
steady_as before now (Err verdict.Unread) e = tt
steady_as before now (Err verdict.NoMemory) e = e
steady_as before now (Err (verdict.NoProgram message)) e = e
steady_as before now (Err (verdict.PastLimit passed)) e = e
steady_as before now (Err (verdict.Refused message)) e = e
steady_as before now (Err verdict.OtherInputs) e = e
steady_as before now (Err (verdict.Finished printed trace)) e = e
steady_as before now (Err (verdict.Faulted printed message)) e = e
steady_as before now (Err verdict.Accepted) e = e

-- what was read to its end was so whatever it came to
abbrev IsWhole : Option (List ℕ) → Option (List ℕ) → Type 0
IsWhole begun left = IfSome begun (λ text. length text ≤ 1048576 → IfSome left (λ rest. rest ≡ []))

whole_as : (begun left : Option (List ℕ)) (judged : Result Plan Verdict) → IsWhole begun left → ReadsToEnd begun left judged
whole_as begun left (Ok plan) h = h
whole_as begun left (Err verdict.Usage) h = tt
whole_as begun left (Err verdict.Unread) h = tt
whole_as begun left (Err verdict.NoMemory) h = tt
whole_as begun left (Err (verdict.NoProgram message)) h = h
whole_as begun left (Err (verdict.PastLimit passed)) h = h
whole_as begun left (Err (verdict.Refused message)) h = h
whole_as begun left (Err verdict.OtherInputs) h = h
whole_as begun left (Err (verdict.Finished printed trace)) h = h
whole_as begun left (Err (verdict.Faulted printed message)) h = h
whole_as begun left (Err verdict.Accepted) h = h

whole_of : (begun : Option (List ℕ)) (read : List ℕ) (left : Option (List ℕ)) → Moves begun read left → (length read ≤ 1048576 → IfSome left (λ rest. rest ≡ [])) → IsWhole begun left
whole_of None read left moves whole = tt
whole_of (Some text) read left moves whole =
    let p = left_on text read left moves in
    let size : length text ≡ length read + length p.0 = ap length p.2 ∙ length-append read p.0 in
    λ short. whole (omega (arith, size, short))

-- a file is begun by its name
named_begun : (name : List ℕ) (deed : Deed) (source : SourceChange) → source.begins_now ≡ option_map one_more source.begins → source.names_now ≡ option_map (with_name name) source.names →
    IsBegunFor (Some (asked_of_file name deed)) source
named_begun name deed source counted noted = record { named = asked_of_file name deed; is_asked = refl; begun = record { counted = counted; noted = noted } }

-- where its text was read, whatever that came to
pub file_used : (name : List ℕ) (deed : Deed) (source : SourceChange) (read : List ℕ) (judged : Result Plan Verdict) →
    Moves (option_map next_left source.later) read source.left_now → length read ≤ 1048577 → (length read ≤ 1048576 → IfSome source.left_now (λ rest. rest ≡ [])) →
    source.faults_now ≡ source.faults → source.begins_now ≡ option_map one_more source.begins → source.names_now ≡ option_map (with_name name) source.names →
    Judges read deed judged → UsesSource (Some (asked_of_file name deed)) source judged
file_used name deed source read judged moves bound whole steady counted noted h = record {
  begins = begins_as read (Some (asked_of_file name deed)) deed source judged h (named_begun name deed source counted noted);
  takes = inr (read, bound, moves);
  whole = whole_as (option_map next_left source.later) source.left_now judged (whole_of (option_map next_left source.later) read source.left_now moves whole);
  steady = steady_as source.faults source.faults_now judged steady;
}

-- and where it couldn't be
pub file_failed : (name : List ℕ) (deed : Deed) (source : SourceChange) → TakesAtMost 1048577 (option_map next_left source.later) source.left source.left_now →
    source.begins_now ≡ option_map one_more source.begins → source.names_now ≡ option_map (with_name name) source.names → UsesSource (Some (asked_of_file name deed)) source (Err verdict.Unread)
file_failed name deed source takes counted noted = record { begins = named_begun name deed source counted noted; takes = takes; whole = tt; steady = tt }

pub file_without_memory : (name : List ℕ) (deed : Deed) (source : SourceChange) → TakesAtMost 1048577 (option_map next_left source.later) source.left source.left_now → source.faults_now ≡ source.faults →
    source.begins_now ≡ option_map one_more source.begins → source.names_now ≡ option_map (with_name name) source.names → UsesSource (Some (asked_of_file name deed)) source (Err verdict.NoMemory)
file_without_memory name deed source takes steady counted noted = record { begins = inr (named_begun name deed source counted noted); takes = takes; whole = tt; steady = steady }

-- a sample leaves the source as it is
pub sample_unused : {S : Type 0} (colours : ℕ) (deed : Deed) (tells : SourceTells S) (s : S) (text : List ℕ) (judged : Result Plan Verdict) → Judges text deed judged →
    UsesSource (Some (record { origin = sample colours; deed = deed })) (source_change tells s s) judged
sample_unused colours deed tells s text judged h =
    let asked : Option Request = Some (record { origin = sample colours; deed = deed }) in record {
      begins = begins_as text asked deed (source_change tells s s) judged h (record { named = record { origin = sample colours; deed = deed }; is_asked = refl; begun = record { counted = refl; noted = refl } });
      takes = inl refl;
      whole = whole_as None (tells.left s) judged tt;
      steady = steady_as (tells.faults s) (tells.faults s) judged refl;
    }

-- ---- the run of a plan

begins_told : (serves : ℕ → ℕ) (asked : Option Request) (source : SourceChange) (plan : Plan) (v : Verdict) → TellsPlan serves plan v → IsBegunFor asked source → Begins asked source (Err v)
begins_told serves asked source plan verdict.Usage h b = absurd h.told
begins_told serves asked source plan verdict.Unread h b = b
begins_told serves asked source plan verdict.NoMemory h b = inr b
begins_told serves asked source plan (verdict.NoProgram message) h b = b
begins_told serves asked source plan (verdict.PastLimit passed) h b = b
begins_told serves asked source plan (verdict.Refused message) h b = b
begins_told serves asked source plan verdict.OtherInputs h b = b
begins_told serves asked source plan (verdict.Finished printed trace) h b = b
begins_told serves asked source plan (verdict.Faulted printed message) h b = b
begins_told serves asked source plan verdict.Accepted h b = b

-- what it comes to leaves the source as the plan did
pub run_uses : (serves : ℕ → ℕ) (asked : Option Request) (source : SourceChange) (plan : Plan) (v : Verdict) → TellsPlan serves plan v → UsesSource asked source (Ok plan) → UsesSource asked source (Err v)
run_uses serves asked source plan v h uses = record {
  begins = begins_told serves asked source plan v h uses.begins;
  takes = uses.takes;
  whole = whole_as (begun_for asked source.later) source.left_now (Err v) uses.whole;
  steady = steady_as source.faults source.faults_now (Err v) uses.steady;
}
