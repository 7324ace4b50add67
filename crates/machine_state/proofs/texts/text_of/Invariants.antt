use Rattle.std.proofs.Common.{◌≡◌, ◌≤◌, drop}
use Rattle.machine_terms.specs.Calls.{before_text, text_of}
use Rattle.machine_state.proofs.texts.text_of.Given as goal

abbrev pub invariant-loop-part : goal.invariant-loop-part
invariant-loop-part l = record {
  few : l.place ≤ l.part-index;
  whole : before_text l.text (text_of (drop l.part-index l.parts) (drop l.place l.values)) ≡ text_of l.parts l.values;
}
