-- From what is read to what is written.
use Rattle.std.proofs.Common.{◌≡◌, ◌<◌, ℕ, List, [], Option, Some, None, IfSome, arith, length, length-append, subst, sym}
use Rattle.run_io.proofs.SourceLemmas.{all_moved}
use Rattle.run_io.specs.Source.{Moves}
use Rattle.run_journal.specs.declared.entry.Entry.{Entry}
use Rattle.trace_picture.specs.declared.verdict.Verdict.{Verdict}
use Rattle.trace_picture.specs.declared.verdict.Verdict.TheVariants as verdict
use Rattle.trace_picture.specs.Verdicts.{IsDelivered, IsShown, Judges, Says}
use Rattle.trace_picture.specs.Views.{Ends, HasBadLine, IsJournal, IsPut, IsTooLong, IsUntouched, NothingButGood, SinkChange, Trace, bad_line, no_memory, shows, tells, too_long, trace_of, unread}

if_some : (o : Option (List ℕ)) (x : List ℕ) (P : List ℕ → Type 0) → IfSome o (λ t. t ≡ x) → P x → IfSome o P
if_some None x P e p = tt
if_some (Some t) x P e p = subst P (sym e) p

-- a text that is longer than what may be read was read in part
is_too_long : (before now : Option (List ℕ)) (text : List ℕ) → Moves before text now → 16777216 < length text → IfSome before IsTooLong
is_too_long before None text m l = subst (λ (o : Option (List ℕ)). IfSome o IsTooLong) (sym m) tt
is_too_long before (Some left) text m l =
    subst (λ (o : Option (List ℕ)). IfSome o IsTooLong) (sym m) (omega (arith, length-append text left, l))

pub judged : (text : List ℕ) (es : List Entry) (v : Verdict) → IsShown es v → IsJournal es text → Judges text v
judged text es (verdict.Shown picture) s j = (es, j, s)
judged text es (verdict.BadLine message) s j = absurd s
judged text es verdict.TooLong s j = absurd s
judged text es verdict.Unread s j = absurd s
judged text es verdict.NoMemory s j = tt

-- what is said of the text that was read is said of what the source has left
pub says : (before now : Option (List ℕ)) (faults faults_now : ℕ) (text : List ℕ) (v : Verdict) → Moves before text now →
    (length text < 16777217 → IfSome now (λ left. left ≡ [])) → Judges text v → Says (trace_of before faults faults_now) v
says before now f g text (verdict.Shown picture) m whole j =
    (j.0, if_some before text (IsJournal j.0) (all_moved before now text m (whole (omega (arith, j.1.fits)))) j.1, j.2)
says before now f g text (verdict.BadLine message) m whole j =
    (j.0, if_some before text (HasBadLine j.0) (all_moved before now text m (whole (omega (arith, j.1.fits)))) j.1, j.2)
says before now f g text verdict.TooLong m whole j = is_too_long before now text m j
says before now f g text verdict.Unread m whole j = absurd j
says before now f g text verdict.NoMemory m whole j = tt

pub ends : (trace : Trace) (v : Verdict) (out err : SinkChange) (answer : ℕ) → Says trace v → IsDelivered v out err answer → Ends trace out err answer
ends trace (verdict.Shown picture) out err answer s d = shows s.0 s.1 (subst (λ (b : List ℕ). IsPut 0 b out answer) s.2 d.0) d.1
ends trace (verdict.BadLine message) out err answer s d =
    tells 12 _ (bad_line s.0 s.1) (subst (λ (b : List ℕ). IsPut 12 b err answer) s.2 d.0) d.1
ends trace verdict.TooLong out err answer s d = tells 8 _ (too_long s) d.0 d.1
ends trace verdict.Unread out err answer s d = tells 3 _ (unread s) d.0 d.1
ends trace verdict.NoMemory out err answer s d = tells 7 _ no_memory d.0 d.1

never : (t : Option (List ℕ)) (es : List Entry) (P : Type 0) → IfSome t (IsJournal es) → IfSome t (λ x. ((ds : List Entry) → ¬ IsJournal ds x) → P)
never None es P j = tt
never (Some x) es P j = λ no. absurd (no es j)

anyhow : (t : Option (List ℕ)) (P : Type 0) → P → IfSome t (λ x. ((ds : List Entry) → ¬ IsJournal ds x) → P)
anyhow None P p = tt
anyhow (Some x) P p = λ no. p

-- the output is left alone but for a journal's picture
pub nothing_but_good : (trace : Trace) (out err : SinkChange) (answer : ℕ) → Ends trace out err answer → NothingButGood trace.text out
nothing_but_good trace out err answer (shows es j put kept) = never trace.text es (IsUntouched out) j
nothing_but_good trace out err answer (tells status message why put kept) = anyhow trace.text (IsUntouched out) kept
