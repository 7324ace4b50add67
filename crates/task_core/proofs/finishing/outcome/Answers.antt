use Rattle.std.proofs.Common.{◌≡◌, ◌∙◌, ◌++◌, ℕ, Global, List, Vec, ap, arith, length, sym}
use Rattle.regent_tree.specs.declared.outcome.Ending.{Ending as RunEnding}
use Rattle.board_terms.specs.declared.operation.Operation.{Operation}
use Rattle.board_terms.specs.Outcomes.{Told, ending_by, told}
use Rattle.board_outcomes.proofs.Tellings.{told_by_list}
use Rattle.board_outcomes.specs.Tellings.{told_among}
use Rattle.task_core.proofs.finishing.outcome.Goals as goal

pub tell-stop-requires : goal.tell-stop-requires
tell-stop-requires c =
    let s = c.args.state.now in
    let same : told_among (length c.operations-operations.result.now) c.operations-operations.result.now 0 ≡ told s =
    ap (λ (os : List Operation). told_among (length os) os 0) c.operations-operations.ensures ∙ sym (told_by_list (length s.operations) s 0) in
    omega (
      arith,
      c.requires.room,
      ap (λ (t : Told). length t.text) same,
      c.replace-told.result.ok.0,
      ap (λ (v : Vec ℕ Global). length v.items) c.replace-told.ensures.value,
      ap length c.requires.empty,
      ap (λ (v : Vec ℕ Global). v.cap) c.replace-told.ensures.value,
    )

pub returns : goal.returns
returns c =
    let s = c.args.state.now in
    let among = told_among (length c.operations-operations.result.now) c.operations-operations.result.now 0 in
    let same : among ≡ told s =
    ap (λ (os : List Operation). told_among (length os) os 0) c.operations-operations.ensures ∙ sym (told_by_list (length s.operations) s 0) in
    let text : c.from_vec.result ≡ (told s).text =
    c.from_vec.ensures ∙ c.tell-stop.ensures.text
    ∙ ap (λ (xs : List ℕ). xs ++ among.text) (ap (λ (v : Vec ℕ Global). v.items) c.replace-told.ensures.value ∙ c.requires.empty)
    ∙ ap (λ (t : Told). t.text) same in
    let ending : c.ending_by.result ≡ ending_by s (told s).stop =
    c.ending_by.ensures ∙ ap (ending_by s) (c.tell-stop.ensures.stop ∙ ap (λ (t : Told). t.stop) same) in
    ap (λ (xs : List ℕ). record { text = xs; ending = c.ending_by.result }) text ∙ ap (λ (e : RunEnding). record { text = (told s).text; ending = e }) ending
