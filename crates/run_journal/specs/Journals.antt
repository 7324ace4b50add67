-- The text of a journal: a line for each entry.
use Rattle.std.specs.Prelude.{All, ◌≡◌, ◌≢◌, ◌<◌, ◌^◌, ◌++◌, ◌∷◌, ℕ, suc, List, [], codes, length}
use Rattle.std.specs.Fmt.{decimal}
use Rattle.std.specs.Prelude.{Result, Err}
use Rattle.run_journal.specs.declared.fault.JournalFault.{JournalFault}
use Rattle.run_journal.specs.declared.fault.JournalFault.TheVariants.{BadLine}
use Rattle.run_journal.specs.declared.entry.Entry.{Entry}
use Rattle.run_journal.specs.declared.entry.StepKind.{StepKind}
use Rattle.run_journal.specs.declared.entry.StepKind.TheVariants.{Back, Claim, Copy, Give}

abbrev pub word_of : StepKind → List ℕ
word_of Claim = codes "claim "
word_of Copy = codes "copy "
word_of Give = codes "give "
word_of Back = codes "back "

-- `claim OP by SEAT` and a line feed (10); likewise for the other kinds
abbrev pub line_of : Entry → List ℕ
line_of e = word_of e.kind ++ (decimal e.op.0 ++ (codes " by " ++ (decimal e.seat ++ 10 ∷ [])))

-- the empty journal has the empty text
abbrev pub text_of : List Entry → List ℕ
text_of [] = []
text_of (e ∷ es) = line_of e ++ text_of es

-- numbers of operations have 64 bits, and those of seats 16
pub record IsEntry (e : Entry) : Type 0 where
  pub op : e.op.0 < 2 ^ 64
  pub seat : e.seat < 2 ^ 16

-- lines of entries stand before the line with this number, and no line of an entry stands there
pub record IsFirstBad (text : List ℕ) (number : ℕ) : Type 0 where
  pub before : List Entry
  pub rest : List ℕ
  pub entries : All IsEntry before
  pub splits : text ≡ text_of before ++ rest
  pub counted : number ≡ suc (length before)
  pub more : rest ≢ []
  pub bad : (e : Entry) (tail : List ℕ) → IsEntry e → rest ≢ line_of e ++ tail

-- where a line is refused, this holds of its number
abbrev pub OnBad : {A : Type 0} → Result A JournalFault → (ℕ → Type 0) → Type 0
OnBad (Err (BadLine line)) P = P line
OnBad _ P = Unit {0}

-- ---- what texts tell

-- one text is that of one journal
abbrev pub TextsTell : Type 0
TextsTell = (es ds : List Entry) → All IsEntry es → All IsEntry ds → text_of es ≡ text_of ds → es ≡ ds

-- and has no bad line
abbrev pub TextsHaveNoBadLine : Type 0
TextsHaveNoBadLine = (es : List Entry) (number : ℕ) → All IsEntry es → ¬ IsFirstBad (text_of es) number
