-- The verdict on a trace, before anything is written.
use Rattle.std.specs.Prelude.{◌≡◌, ℕ, List, IfSome, string_bytes}
use Rattle.run_io.specs.Faults.{Rose}
use Rattle.run_journal.specs.declared.entry.Entry.{Entry}
use Rattle.trace_picture.specs.declared.verdict.Verdict.{Verdict}
use Rattle.trace_picture.specs.declared.verdict.Verdict.TheVariants.{BadLine, NoMemory, Shown, TooLong, Unread}
use Rattle.trace_picture.specs.Drawings.{picture_text}
use Rattle.trace_picture.specs.Pictures.{picture_of}
use Rattle.trace_picture.specs.Views.{Trace, HasBadLine, IsJournal, IsPut, IsTooLong, IsUntouched, SinkChange, bad_line_message, limit_message, memory_message, read_message}

-- the meaning of a verdict on a text
abbrev pub Judges : List ℕ → Verdict → Type 0
Judges text (Shown picture) = (es : List Entry) × IsJournal es text × (string_bytes picture ≡ picture_text (picture_of es))
Judges text (BadLine message) = (line : ℕ) × HasBadLine line text × (string_bytes message ≡ bad_line_message line)
Judges text TooLong = IsTooLong text
Judges text Unread = ⊥
Judges text NoMemory = Unit {0}

-- the same for the text that a source has left, if it reports that
abbrev pub Says : Trace → Verdict → Type 0
Says trace (Shown picture) = (es : List Entry) × IfSome trace.text (IsJournal es)
    × (string_bytes picture ≡ picture_text (picture_of es))
Says trace (BadLine message) = (line : ℕ) × IfSome trace.text (HasBadLine line)
    × (string_bytes message ≡ bad_line_message line)
Says trace TooLong = IfSome trace.text IsTooLong
Says trace Unread = Rose trace.faults trace.faults_now
Says trace NoMemory = Unit {0}

-- the output that a verdict leads to
abbrev pub IsDelivered : Verdict → SinkChange → SinkChange → ℕ → Type 0
IsDelivered (Shown picture) out err answer = IsPut 0 (string_bytes picture) out answer × IsUntouched err
IsDelivered (BadLine message) out err answer = IsPut 12 (string_bytes message) err answer × IsUntouched out
IsDelivered TooLong out err answer = IsPut 8 limit_message err answer × IsUntouched out
IsDelivered Unread out err answer = IsPut 3 read_message err answer × IsUntouched out
IsDelivered NoMemory out err answer = IsPut 7 memory_message err answer × IsUntouched out

-- ---- parts of it

abbrev pub IsBadLine : ℕ → Verdict → Type 0
IsBadLine line (BadLine message) = string_bytes message ≡ bad_line_message line
IsBadLine line NoMemory = Unit {0}
IsBadLine line _ = ⊥

abbrev pub IsShown : List Entry → Verdict → Type 0
IsShown es (Shown picture) = string_bytes picture ≡ picture_text (picture_of es)
IsShown es NoMemory = Unit {0}
IsShown es _ = ⊥
