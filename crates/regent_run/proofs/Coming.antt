-- The status that a verdict comes to, and that of the text.
use Rattle.std.proofs.Common.{◌≡◌, ℕ, ◌⊎◌, inl, inr, List, [], Option, Some, None, IfSome, unwrap_or, refl, sym, ap, subst, ◌∙◌}
use Rattle.run_io.specs.Faults.{Rose}
use Rattle.regent_run.specs.declared.verdict.Verdict.{Verdict}
use Rattle.regent_run.specs.declared.verdict.Verdict.TheVariants as verdict
use Rattle.regent_run.specs.Answers.{ComesTo, IsComplete, NoneRose, UnlessUnread}
use Rattle.regent_run.specs.Calls.{Call, SinkChange}
use Rattle.regent_run.specs.Origins.{text_asked}
use Rattle.regent_run.specs.Programs.{Comes, IsFinished, faults, finishes, has_a_breach, has_other_inputs, is_accepted, is_no_program, passes_a_limit}
use Rattle.regent_run.specs.Verdicts.{IsDelivered, Tells, TellsOfText, TellsText, status_of}
use Rattle.command_words.specs.Commands.{Run}
use Rattle.regent_run.specs.Words.{Deed, Request, request, runs}
use Rattle.regent_run.proofs.Statuses.{one_status}

-- what a text comes to that is run
says_run : (text : List ℕ) (deed : Deed) (r : Run) (n : ℕ) → deed ≡ runs r → Comes text (runs r) n → Comes text deed n
says_run text deed r n is c = subst (λ (d : Deed). Comes text d n) (sym is) c

-- a run that ends, whatever its output is
run_finishes : {text : List ℕ} {r : Run} {output : List ℕ} → IsFinished text r output → Comes text (runs r) 0
run_finishes p = finishes (record { tree = p.tree; reads = p.reads; sound = p.sound; means = p.finishes.means })

-- the verdict's status is what the text comes to, but where it can't be read or memory ran out
says_comes : (serves : ℕ → ℕ) (text : List ℕ) (deed : Deed) (v : Verdict) → TellsText serves text deed v → (status_of v ≡ 7) ⊎ Comes text deed (status_of v)
says_comes serves text deed verdict.Usage h = absurd h
says_comes serves text deed verdict.Unread h = absurd h
says_comes serves text deed verdict.NoMemory h = inl refl
says_comes serves text deed (verdict.NoProgram m) h = inr (is_no_program h.2)
says_comes serves text deed (verdict.PastLimit l) h = inr (passes_a_limit h)
says_comes serves text deed (verdict.Refused m) h = inr (has_a_breach h.3)
says_comes serves text deed verdict.OtherInputs h = inr (says_run text deed h.0 9 h.1 (has_other_inputs h.2))
says_comes serves text deed (verdict.Finished p trace) h = inr (says_run text deed h.0 0 h.1 (run_finishes h.3))
says_comes serves text deed (verdict.Faulted p message) h = inr (says_run text deed h.0 1 h.1 (faults h.6))
says_comes serves text deed verdict.Accepted h = inr (subst (λ (d : Deed). Comes text d 0) (sym h.0) (is_accepted h.1))

-- words ask for one text, and one thing to do with it
renamed : (serves : ℕ → ℕ) (asked : Option Request) (a b : Request) (told : Option (List ℕ)) (v : Verdict) → asked ≡ Some a → asked ≡ Some b →
    TellsOfText serves told b.deed v → TellsOfText serves told a.deed v
renamed serves asked a b told v p q h =
    let e : Some b ≡ Some a = sym q ∙ p in
    let same : b ≡ a = ap (λ o. unwrap_or o a) e in
    subst (λ (c : Request). TellsOfText serves told c.deed v) same h

-- where memory ran out nothing is told of the text
told_without_memory : (serves : ℕ → ℕ) (told : Option (List ℕ)) (deed : Deed) → TellsOfText serves told deed verdict.NoMemory
told_without_memory serves None deed = ([], tt, tt)
told_without_memory serves (Some text) deed = (text, refl, tt)

-- the text can't be read, or this is told of it
abbrev UnreadOr : ℕ → ℕ → Verdict → Type 0 → Type 0
UnreadOr before now v P = ((status_of v ≡ 3) × Rose before now) ⊎ P

-- a verdict is of the text that is asked for
says_named : (serves : ℕ → ℕ) (asked : Option Request) (later : Option (List (List ℕ))) (before now : ℕ) (v : Verdict) (named : Request) → asked ≡ Some named →
    Tells serves asked later before now v → UnreadOr before now v (TellsOfText serves (text_asked asked later) named.deed v)
says_named serves asked later before now verdict.Usage named is said = let e : None ≡ Some named = sym said ∙ is in absurd cc
says_named serves asked later before now verdict.Unread named is said = inl (refl, said.rose)
says_named serves asked later before now verdict.NoMemory named is said = inr (told_without_memory serves (text_asked asked later) named.deed)
says_named serves asked later before now (verdict.NoProgram m) named is said = inr (renamed serves asked named said.0 (text_asked asked later) (verdict.NoProgram m) is said.1 said.2)
says_named serves asked later before now (verdict.PastLimit l) named is said = inr (renamed serves asked named said.0 (text_asked asked later) (verdict.PastLimit l) is said.1 said.2)
says_named serves asked later before now (verdict.Refused m) named is said = inr (renamed serves asked named said.0 (text_asked asked later) (verdict.Refused m) is said.1 said.2)
says_named serves asked later before now verdict.OtherInputs named is said = inr (renamed serves asked named said.0 (text_asked asked later) verdict.OtherInputs is said.1 said.2)
says_named serves asked later before now (verdict.Finished p trace) named is said = inr (renamed serves asked named said.0 (text_asked asked later) (verdict.Finished p trace) is said.1 said.2)
says_named serves asked later before now (verdict.Faulted p message) named is said = inr (renamed serves asked named said.0 (text_asked asked later) (verdict.Faulted p message) is said.1 said.2)
says_named serves asked later before now verdict.Accepted named is said = inr (renamed serves asked named said.0 (text_asked asked later) verdict.Accepted is said.1 said.2)

-- in a call
abbrev text_of_call : Call → Option (List ℕ)
text_of_call call = text_asked (request call.words) call.source.later

abbrev pub TellsIn : Call → Verdict → Type 0
TellsIn call v = Tells call.serves (request call.words) call.source.later call.source.faults call.source.faults_now v

abbrev SaidIn : Call → Option (List ℕ) → Deed → Verdict → Type 0
SaidIn call told deed v = UnreadOr call.source.faults call.source.faults_now v (TellsOfText call.serves told deed v)

said_comes : (call : Call) (text : List ℕ) (deed : Deed) (v : Verdict) → SaidIn call (Some text) deed v →
    UnreadOr call.source.faults call.source.faults_now v ((status_of v ≡ 7) ⊎ Comes text deed (status_of v))
said_comes call text deed v (inl unread) = inl unread
said_comes call text deed v (inr told) = inr (says_comes call.serves text deed v (subst (λ (t : List ℕ). TellsText call.serves t deed v) told.1 told.2))

says_in : (call : Call) (v : Verdict) (named : Request) → request call.words ≡ Some named → TellsIn call v → SaidIn call (text_of_call call) named.deed v
says_in call v named is said = says_named call.serves (request call.words) call.source.later call.source.faults call.source.faults_now v named is said

comes_on : (text : List ℕ) (deed : Deed) (before now n answer : ℕ) (v : Verdict) (out err : SinkChange) → IsDelivered v answer out err → Comes text deed n →
    ((status_of v ≡ 3) × Rose before now) ⊎ ((status_of v ≡ 7) ⊎ Comes text deed (status_of v)) → UnlessUnread n answer
comes_on text deed before now n answer v out err (inl w) c (inl three) = inr (w.status ∙ three.0)
comes_on text deed before now n answer v out err (inl w) c (inr (inl seven)) = inl (inr (inl (w.status ∙ seven)))
comes_on text deed before now n answer v out err (inl w) c (inr (inr d)) = inl (inl (w.status ∙ one_status text deed (status_of v) n d c))
comes_on text deed before now n answer v out err (inr (inl o)) c s = inl (inr (inr o.status))
comes_on text deed before now n answer v out err (inr (inr e)) c s = inl (inr (inr e.status))

comes_of : (call : Call) (told : Option (List ℕ)) (deed : Deed) (v : Verdict) (answer : ℕ) → SaidIn call told deed v → IsDelivered v answer call.out call.err →
    IfSome told (λ text. (n : ℕ) → Comes text deed n → UnlessUnread n answer)
comes_of call None deed v answer said d = tt
comes_of call (Some text) deed v answer said d = λ n c.
    comes_on text deed call.source.faults call.source.faults_now n answer v call.out call.err d c (said_comes call text deed v said)

pub comes_to : (call : Call) (v : Verdict) (answer : ℕ) → TellsIn call v → IsDelivered v answer call.out call.err → ComesTo call answer
comes_to call v answer said d named is = comes_of call (text_of_call call) named.deed v answer (says_in call v named is said) d

-- where nothing failed, the answer is what the text comes to, or memory ran out
complete_on : (text : List ℕ) (deed : Deed) (call : Call) (n answer : ℕ) (v : Verdict) → IsDelivered v answer call.out call.err → NoneRose call → Comes text deed n →
    ((status_of v ≡ 3) × Rose call.source.faults call.source.faults_now) ⊎ ((status_of v ≡ 7) ⊎ Comes text deed (status_of v)) → (answer ≡ n) ⊎ (answer ≡ 7)
complete_on text deed call n answer v (inl w) none c (inl three) = absurd (none.source_kept three.1)
complete_on text deed call n answer v (inl w) none c (inr (inl seven)) = inr (w.status ∙ seven)
complete_on text deed call n answer v (inl w) none c (inr (inr d)) = inl (w.status ∙ one_status text deed (status_of v) n d c)
complete_on text deed call n answer v (inr (inl o)) none c s = absurd (none.out_kept o.output.cause)
complete_on text deed call n answer v (inr (inr e)) none c s = absurd (none.err_kept e.errors.cause)

complete_of : (call : Call) (told : Option (List ℕ)) (deed : Deed) (v : Verdict) (answer : ℕ) → SaidIn call told deed v → IsDelivered v answer call.out call.err → NoneRose call →
    IfSome told (λ text. (n : ℕ) → Comes text deed n → (answer ≡ n) ⊎ (answer ≡ 7))
complete_of call None deed v answer said d none = tt
complete_of call (Some text) deed v answer said d none = λ n c.
    complete_on text deed call n answer v d none c (said_comes call text deed v said)

pub complete_at : (call : Call) (v : Verdict) (answer : ℕ) → TellsIn call v → IsDelivered v answer call.out call.err → IsComplete call answer
complete_at call v answer said d none named is = complete_of call (text_of_call call) named.deed v answer (says_in call v named is said) d none
