-- What a text comes to.
use Rattle.std.proofs.Common.{◌≡◌, ℕ, ◌+◌, ◌≤◌, ◌<◌, ◌⊎◌, inl, inr, List, [], ◌++◌, Option, Some, None, IfSome, Result, Ok, Err, length, refl, sym, ap, subst, ◌∙◌, arith}
use Rattle.std.specs.Option.{option_map}
use Rattle.std.proofs.lemmas.Bool.{cases_lt}
use Rattle.std.proofs.lemmas.List.{append-nil, length-append}
use Rattle.run_io.specs.Source.{Moves, next_left}
use Rattle.regent_tree.specs.Syntax.{Tree}
use Rattle.regent_reader.specs.declared.fault.ReadFault.{ReadFault}
use Rattle.regent_reader.specs.declared.fault.ReadFault.TheVariants.{TooLong, Lex}
use Rattle.regent_reader.specs.Texts.{Outcome, Reads, is_long, has_tokens}
use Rattle.regent_run.specs.declared.plan.Plan.{Plan}
use Rattle.regent_run.specs.declared.verdict.Verdict.{Verdict}
use Rattle.regent_run.specs.declared.verdict.Verdict.TheVariants as verdict
use Rattle.regent_lex.specs.declared.fault.LexKind.{LexKind}
use Rattle.regent_lex.specs.declared.fault.LexKind.TheVariants.{BadByte, Unclosed, NumberTooLarge, NameTooLong}
use Rattle.regent_run.specs.Programs.{limit_in_token, syntax_line}
use Rattle.run_io.specs.Faults.{Rose}
use Rattle.regent_run.specs.Verdicts.{CantBeRead, IsNoProgram, Judges, JudgesAccepted, JudgesProgram, Says, SaysOfText, TellsFault}
use Rattle.regent_run.specs.Origins.{text_from}
use Rattle.command_words.specs.Commands.{Command, command}
use Rattle.regent_run.specs.Words.{Deed, Request, asked_by, asked_of_file, checks, request, runs, sample}
use Rattle.sample_maker.specs.Texts.{sample_text}
use Rattle.check_rules.specs.Breaches.{breaches}

-- a text that was read and has no breach comes to what its program comes to
accepted_judges : (text : List ℕ) (tree : Tree) (deed : Deed) (judged : Result Plan Verdict) → Reads text (Ok tree) → breaches tree ≡ [] → JudgesAccepted tree deed judged → Judges text deed judged
accepted_judges text tree checks judged reads sound h =
    subst (λ (w : Result Plan Verdict). Judges text checks w) (sym h) (refl, record { tree = tree; reads = reads; sound = sound })
accepted_judges text tree (runs r) (Ok plan) reads sound h = (r, refl, tree, reads, h)
accepted_judges text tree (runs r) (Err verdict.Usage) reads sound h = absurd h
accepted_judges text tree (runs r) (Err verdict.Unread) reads sound h = absurd h
accepted_judges text tree (runs r) (Err verdict.NoMemory) reads sound h = tt
accepted_judges text tree (runs r) (Err (verdict.NoProgram message)) reads sound h = absurd h
accepted_judges text tree (runs r) (Err (verdict.PastLimit passed)) reads sound h = absurd h
accepted_judges text tree (runs r) (Err (verdict.Refused message)) reads sound h = absurd h
accepted_judges text tree (runs r) (Err verdict.OtherInputs) reads sound h = (r, refl, record { tree = tree; reads = reads; sound = sound; takes = h })
accepted_judges text tree (runs r) (Err (verdict.Finished printed trace)) reads sound h = absurd h
accepted_judges text tree (runs r) (Err (verdict.Faulted printed message)) reads sound h = absurd h
accepted_judges text tree (runs r) (Err verdict.Accepted) reads sound h = absurd h

-- a text that was read comes to what its program comes to
pub program_judges : (text : List ℕ) (deed : Deed) (tree : Tree) (judged : Result Plan Verdict) → Reads text (Ok tree) → JudgesProgram tree deed judged → Judges text deed judged
program_judges text deed tree (Ok plan) reads h = accepted_judges text tree deed (Ok plan) reads h.0 h.1
program_judges text deed tree (Err verdict.Usage) reads h = accepted_judges text tree deed (Err verdict.Usage) reads h.0 h.1
program_judges text deed tree (Err verdict.Unread) reads h = accepted_judges text tree deed (Err verdict.Unread) reads h.0 h.1
program_judges text deed tree (Err verdict.NoMemory) reads h = tt
program_judges text deed tree (Err (verdict.NoProgram message)) reads h = accepted_judges text tree deed (Err (verdict.NoProgram message)) reads h.0 h.1
program_judges text deed tree (Err (verdict.PastLimit passed)) reads h = accepted_judges text tree deed (Err (verdict.PastLimit passed)) reads h.0 h.1
program_judges text deed tree (Err (verdict.Refused message)) reads h = (h.rule, h.line, h.told, record { tree = tree; reads = reads; breach = h.breach })
program_judges text deed tree (Err verdict.OtherInputs) reads h = accepted_judges text tree deed (Err verdict.OtherInputs) reads h.0 h.1
program_judges text deed tree (Err (verdict.Finished printed trace)) reads h = accepted_judges text tree deed (Err (verdict.Finished printed trace)) reads h.0 h.1
program_judges text deed tree (Err (verdict.Faulted printed message)) reads h = accepted_judges text tree deed (Err (verdict.Faulted printed message)) reads h.0 h.1
program_judges text deed tree (Err verdict.Accepted) reads h = accepted_judges text tree deed (Err verdict.Accepted) reads h.0 h.1

-- a text in which the reader finds a fault comes to what is told of that
pub fault_judges : (text : List ℕ) (deed : Deed) (fault : ReadFault) (v : Verdict) → Reads text (Err fault) → TellsFault fault v → Judges text deed (Err v)
fault_judges text deed fault verdict.Usage reads h = absurd h
fault_judges text deed fault verdict.Unread reads h = absurd h
fault_judges text deed fault verdict.NoMemory reads h = tt
fault_judges text deed fault (verdict.NoProgram message) reads h = (h.0, h.1, record { fault = fault; reads = reads; told = h.2 })
fault_judges text deed fault (verdict.PastLimit passed) reads h = record { fault = fault; reads = reads; told = h }
fault_judges text deed fault (verdict.Refused message) reads h = absurd h
fault_judges text deed fault verdict.OtherInputs reads h = absurd h
fault_judges text deed fault (verdict.Finished printed trace) reads h = absurd h
fault_judges text deed fault (verdict.Faulted printed message) reads h = absurd h
fault_judges text deed fault verdict.Accepted reads h = absurd h

-- ---- from the bytes that were read to the text that the begin left

-- the text is what was read and what is left of it
pub left_on : (text read : List ℕ) (left : Option (List ℕ)) → Moves (Some text) read left → (rest : List ℕ) × (left ≡ Some rest) × (text ≡ read ++ rest)
left_on text read None moves = let e : Some text ≡ None = moves in absurd cc
left_on text read (Some rest) moves = let e : Some text ≡ Some (read ++ rest) = moves in (rest, refl, cc)

-- a text that is too long comes to that alone, however it goes on
long_reads : (read : List ℕ) (outcome : Outcome) → 1048576 < length read → Reads read outcome → outcome ≡ Err TooLong
long_reads read outcome long (is_long h) = refl
long_reads read outcome long (has_tokens fits lexes of) = absurd (omega arith)

pub still_long : (text read rest : List ℕ) (outcome : Outcome) → text ≡ read ++ rest → 1048576 < length read → Reads read outcome → Reads text outcome
still_long text read rest outcome is long reads =
    let size : length text ≡ length read + length rest = ap length is ∙ length-append read rest in
    subst (λ (o : Outcome). Reads text o) (sym (long_reads read outcome long reads)) (is_long (omega (arith, size, long)))

long_judges : (text read rest : List ℕ) (deed : Deed) (judged : Result Plan Verdict) → text ≡ read ++ rest → 1048576 < length read → Judges read deed judged → Judges text deed judged
long_judges text read rest deed (Ok plan) is long h = (h.0, h.1, h.2, still_long text read rest _ is long h.3, h.4)
long_judges text read rest deed (Err verdict.Usage) is long h = absurd h
long_judges text read rest deed (Err verdict.Unread) is long h = absurd h
long_judges text read rest deed (Err verdict.NoMemory) is long h = tt
long_judges text read rest deed (Err (verdict.NoProgram message)) is long h =
    (h.0, h.1, record { fault = h.2.fault; reads = still_long text read rest _ is long h.2.reads; told = h.2.told })
long_judges text read rest deed (Err (verdict.PastLimit passed)) is long h = record { fault = h.fault; reads = still_long text read rest _ is long h.reads; told = h.told }
long_judges text read rest deed (Err (verdict.Refused message)) is long h =
    let b = h.3 in
    (h.0, h.1, h.2, record { tree = b.tree; reads = still_long text read rest _ is long b.reads; breach = b.breach })
long_judges text read rest deed (Err verdict.OtherInputs) is long h =
    let b = h.2 in
    (h.0, h.1, record { tree = b.tree; reads = still_long text read rest _ is long b.reads; sound = b.sound; takes = b.takes })
long_judges text read rest deed (Err (verdict.Finished printed trace)) is long h = absurd h
long_judges text read rest deed (Err (verdict.Faulted printed message)) is long h = absurd h
long_judges text read rest deed (Err verdict.Accepted) is long h =
    let b = h.1 in
    (h.0, record { tree = b.tree; reads = still_long text read rest _ is long b.reads; sound = b.sound })

says_on : (text read rest : List ℕ) (deed : Deed) (judged : Result Plan Verdict) → text ≡ read ++ rest → (length read ≤ 1048576 → rest ≡ []) →
    (1048576 < length read) ⊎ (length read ≤ 1048576) → Judges read deed judged → Judges text deed judged
says_on text read rest deed judged is whole (inl long) h = long_judges text read rest deed judged is long h
says_on text read rest deed judged is whole (inr short) h =
    subst (λ (t : List ℕ). Judges t deed judged) (sym (is ∙ ap (λ r. read ++ r) (whole short) ∙ append-nil read)) h

-- what is judged of the bytes that were read is said of the text
says_of_text : (told : Option (List ℕ)) (read : List ℕ) (left : Option (List ℕ)) (deed : Deed) (judged : Result Plan Verdict) →
    Moves told read left → (length read ≤ 1048576 → IfSome left (λ rest. rest ≡ [])) → Judges read deed judged → SaysOfText told deed judged
says_of_text None read left deed judged moves whole h = (read, tt, h)
says_of_text (Some text) read left deed judged moves whole h =
    let p = left_on text read left moves in (
      text,
      refl,
      says_on text read p.0 deed judged p.2
          (λ short. let w : IfSome (Some p.0) (λ rest. rest ≡ []) = subst (λ (o : Option (List ℕ)). IfSome o (λ rest. rest ≡ [])) p.1 (whole short) in w)
          (cases_lt 1048576 (length read)) h,
    )

-- of the text that is asked for
says_asked : (r : Request) (later : Option (List (List ℕ))) (before now : ℕ) (judged : Result Plan Verdict) → SaysOfText (text_from r.origin later) r.deed judged → Says (Some r) later before now judged
says_asked r later before now (Ok plan) h = (r, refl, h)
says_asked r later before now (Err verdict.Usage) h = absurd h.2
says_asked r later before now (Err verdict.Unread) h = absurd h.2
says_asked r later before now (Err verdict.NoMemory) h = tt
says_asked r later before now (Err (verdict.NoProgram message)) h = (r, refl, h)
says_asked r later before now (Err (verdict.PastLimit passed)) h = (r, refl, h)
says_asked r later before now (Err (verdict.Refused message)) h = (r, refl, h)
says_asked r later before now (Err verdict.OtherInputs) h = (r, refl, h)
says_asked r later before now (Err (verdict.Finished printed trace)) h = (r, refl, h)
says_asked r later before now (Err (verdict.Faulted printed message)) h = (r, refl, h)
says_asked r later before now (Err verdict.Accepted) h = (r, refl, h)

-- a file's
pub says_of_file : (name : List ℕ) (deed : Deed) (later : Option (List (List ℕ))) (read : List ℕ) (left : Option (List ℕ)) (judged : Result Plan Verdict) (before now : ℕ) →
    Moves (option_map next_left later) read left → (length read ≤ 1048576 → IfSome left (λ rest. rest ≡ [])) → Judges read deed judged → Says (Some (asked_of_file name deed)) later before now judged
says_of_file name deed later read left judged before now moves whole h =
    says_asked (asked_of_file name deed) later before now judged (says_of_text (option_map next_left later) read left deed judged moves whole h)

-- one that can't be read
pub cant_be_read : (name : List ℕ) (deed : Deed) (before now : ℕ) → Rose before now → CantBeRead (Some (asked_of_file name deed)) before now
cant_be_read name deed before now rose = record { of_file = λ none. none; rose = rose }

-- and a sample's
pub says_of_sample : (colours : ℕ) (deed : Deed) (later : Option (List (List ℕ))) (judged : Result Plan Verdict) (before now : ℕ) →
    Judges (sample_text colours) deed judged → Says (Some (record { origin = sample colours; deed = deed })) later before now judged
says_of_sample colours deed later judged before now h =
    says_asked (record { origin = sample colours; deed = deed }) later before now judged (sample_text colours, refl, h)

-- what words ask for that say a command
pub asked_is : (words : List (List ℕ)) (said : Command) (asked : Request) → command words ≡ Some said → asked ≡ asked_by said → request words ≡ Some asked
asked_is words said asked taken is = ap (option_map asked_by) taken ∙ ap Some (sym is)

-- a token's fault that passes no limit is an error of syntax
syntax_told : (kind : LexKind) (line : ℕ) → None ≡ limit_in_token kind → syntax_line (Lex kind line) ≡ Some line
syntax_told BadByte line h = refl
syntax_told Unclosed line h = refl
syntax_told NumberTooLarge line h = absurd cc
syntax_told NameTooLong line h = absurd cc

pub tells_token : (kind : LexKind) (line : ℕ) (v : Verdict) → None ≡ limit_in_token kind → IsNoProgram line v → TellsFault (Lex kind line) v
tells_token kind line verdict.Usage none h = h
tells_token kind line verdict.Unread none h = h
tells_token kind line verdict.NoMemory none h = tt
tells_token kind line (verdict.NoProgram message) none h = (line, h, syntax_told kind line none)
tells_token kind line (verdict.PastLimit passed) none h = absurd h
tells_token kind line (verdict.Refused message) none h = h
tells_token kind line verdict.OtherInputs none h = h
tells_token kind line (verdict.Finished printed trace) none h = h
tells_token kind line (verdict.Faulted printed message) none h = h
tells_token kind line verdict.Accepted none h = h
