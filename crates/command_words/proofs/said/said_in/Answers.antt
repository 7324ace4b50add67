use Rattle.std.proofs.Common.{◌∙◌, [], codes}
use Rattle.std.specs.Prelude.{unwrap_or}
use Rattle.clap.specs.Words.{found_of}
use Rattle.clap.proofs.WalkLemmas.{first_value-rows, raw_values-rows}
use Rattle.command_words.proofs.said.said_in.Goals as goal

pub returns : goal.returns
returns c =
    let f = found_of c.args.found.now in
    let words = c.get_raw.ensures ∙ raw_values-rows f (codes "words") in
    let workers = c.get_str.ensures ∙ first_value-rows f (codes "workers") in
    let turns = c.get_str-2.ensures ∙ first_value-rows f (codes "turns") in
    λ i. record {
      words = unwrap_or (words i) [];
      workers_text = workers i;
      turns_text = turns i;
      dumps = c.is_set.ensures i;
      traces = c.is_set-2.ensures i;
    }
