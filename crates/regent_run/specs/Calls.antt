-- A call: its words, its workers, and the reports of its source and its sinks before and after it.
use Rattle.std.specs.Prelude.{ℕ, List, Option}
use Rattle.run_io.specs.declared.source.Source.{Ghosts as SourceTells}
use Rattle.run_io.specs.declared.sink.Sink.{Ghosts as SinkTells}

-- the report of a source before and after some calls: its number of faults, the bytes that are
-- left, how often it was begun and by which names; and, before them, the bytes that each later
-- begin leaves
pub record SourceChange : Type 0 where
  pub faults : ℕ
  pub faults_now : ℕ
  pub left : Option (List ℕ)
  pub left_now : Option (List ℕ)
  pub later : Option (List (List ℕ))
  pub begins : Option ℕ
  pub begins_now : Option ℕ
  pub names : Option (List (List ℕ))
  pub names_now : Option (List (List ℕ))

abbrev pub source_change : {S : Type 0} → SourceTells S → S → S → SourceChange
source_change tells before now =
    record {
      faults = tells.faults before;
      faults_now = tells.faults now;
      left = tells.left before;
      left_now = tells.left now;
      later = tells.later before;
      begins = tells.begins before;
      begins_now = tells.begins now;
      names = tells.names before;
      names_now = tells.names now;
    }

-- the report of a sink before and after: its number of faults, and the bytes that it holds; and,
-- before them, the number of bytes that it is sure to take
pub record SinkChange : Type 0 where
  pub faults : ℕ
  pub faults_now : ℕ
  pub sure : ℕ
  pub held : Option (List ℕ)
  pub held_now : Option (List ℕ)

abbrev pub sink_change : {K : Type 0} → SinkTells K → K → K → SinkChange
sink_change tells before now =
    record {
      faults = tells.faults before;
      faults_now = tells.faults now;
      sure = tells.sure before;
      held = tells.held before;
      held_now = tells.held now;
    }

-- the words, and the number of workers that serve for each number requested
pub record Call : Type 0 where
  pub words : List (List ℕ)
  pub serves : ℕ → ℕ
  pub source : SourceChange
  pub out : SinkChange
  pub err : SinkChange

abbrev pub call_of : List (List ℕ) → (ℕ → ℕ) → SourceChange → SinkChange → SinkChange → Call
call_of words serves source out err =
    record { words = words; serves = serves; source = source; out = out; err = err }
