-- A call that makes the picture of a trace: its output, and its status.
use Rattle.std.specs.Prelude.{◌≡◌, ◌≤◌, ◌<◌, ◌++◌, All, ℕ, List, Option, IfSome, codes, length}
use Rattle.std.specs.Fmt.{decimal}
use Rattle.run_io.specs.Faults.{Rose}
use Rattle.run_io.specs.Sink.{Adds, AddsPrefix}
use Rattle.run_io.specs.declared.sink.Sink.{Ghosts as SinkTells}
use Rattle.run_journal.specs.declared.entry.Entry.{Entry}
use Rattle.run_journal.specs.Journals.{IsEntry, IsFirstBad, text_of}
use Rattle.trace_picture.specs.Drawings.{picture_text}
use Rattle.trace_picture.specs.Pictures.{picture_of}

-- ---- the lines of errors

abbrev pub read_message : List ℕ
read_message = codes "error: read failed\n"

abbrev pub memory_message : List ℕ
memory_message = codes "error: out of memory\n"

abbrev pub limit_message : List ℕ
limit_message = codes "error: limit journal 16777216\n"

abbrev pub bad_line_message : ℕ → List ℕ
bad_line_message line = codes "error: journal line " ++ decimal line ++ codes "\n"

-- ---- the kinds of texts

-- the text is that of this journal, and isn't too long
pub record IsJournal (es : List Entry) (text : List ℕ) : Type 0 where
  pub is_text : text ≡ text_of es
  pub entries : All IsEntry es
  pub fits : length text ≤ 16777216

-- this is the number of its first line that isn't an entry's, and it isn't too long
pub record HasBadLine (line : ℕ) (text : List ℕ) : Type 0 where
  pub first : IsFirstBad text line
  pub fits : length text ≤ 16777216

abbrev pub IsTooLong : List ℕ → Type 0
IsTooLong text = 16777216 < length text

-- a trace: what its source has left before a call, if it reports that, and its count of faults
-- before and after
pub record Trace : Type 0 where
  pub text : Option (List ℕ)
  pub faults : ℕ
  pub faults_now : ℕ

abbrev pub trace_of : Option (List ℕ) → ℕ → ℕ → Trace
trace_of text faults faults_now = record { text = text; faults = faults; faults_now = faults_now }

-- why there is no picture: the status, and the line that reports it
pub data Refuses (trace : Trace) : ℕ → List ℕ → Type 0 where
  bad_line : (line : ℕ) → IfSome trace.text (HasBadLine line) → Refuses trace 12 (bad_line_message line)
  unread : Rose trace.faults trace.faults_now → Refuses trace 3 read_message
  too_long : IfSome trace.text IsTooLong → Refuses trace 8 limit_message
  no_memory : Refuses trace 7 memory_message

-- ---- output

-- the report of a sink before and after a call: its count of faults, and the bytes that it holds
pub record SinkChange : Type 0 where
  pub faults : ℕ
  pub faults_now : ℕ
  pub held : Option (List ℕ)
  pub held_now : Option (List ℕ)

abbrev pub change_of : {K : Type 0} → SinkTells K → K → K → SinkChange
change_of tells before now = record {
  faults = tells.faults before;
  faults_now = tells.faults now;
  held = tells.held before;
  held_now = tells.held now;
}

-- the bytes were added and the result is the status, or a write failed after some of them and the
-- result is 4
pub data IsPut (status : ℕ) (bytes : List ℕ) (sink : SinkChange) : ℕ → Type 0 where
  whole : Adds sink.held bytes sink.held_now → IsPut status bytes sink status
  cut : Rose sink.faults sink.faults_now → AddsPrefix sink.held bytes sink.held_now → IsPut status bytes sink 4

abbrev pub IsUntouched : SinkChange → Type 0
IsUntouched sink = (sink.held_now ≡ sink.held) × (sink.faults_now ≡ sink.faults)

-- How a call ends, by its result: the picture of the journal goes to the output, or a line to the
-- error output, and the other of the two is untouched.
pub data Ends (trace : Trace) (out err : SinkChange) (answer : ℕ) : Type 0 where
  shows : (es : List Entry) → IfSome trace.text (IsJournal es) → IsPut 0 (picture_text (picture_of es)) out answer →
      IsUntouched err → Ends trace out err answer
  tells : (status : ℕ) (message : List ℕ) → Refuses trace status message → IsPut status message err answer →
      IsUntouched out → Ends trace out err answer

-- a text that isn't a journal's leaves the output untouched
abbrev pub NothingButGood : Option (List ℕ) → SinkChange → Type 0
NothingButGood text out = IfSome text (λ t. ((es : List Entry) → ¬ IsJournal es t) → IsUntouched out)
