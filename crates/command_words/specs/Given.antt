-- The commands and the meaning of words, in the code's types.
use Rattle.std.specs.Prelude.{List, [], unwrap_or, String, map, option_map, string_bytes}
use Rattle.command_words.specs.Commands.{Command, Run, Said, checks, runs, samples}
use Rattle.command_words.specs.Settings.{Text}
use Rattle.command_words.specs.declared.commands.Command.{Command as GivenCommand}
use Rattle.command_words.specs.declared.commands.Command.TheVariants as given
use Rattle.command_words.specs.declared.commands.Run.{Run as GivenRun}
use Rattle.command_words.specs.declared.said.Said.{Said as GivenSaid}

-- the bytes of each word
abbrev pub texts : {A : Type 0} → List (String A) → List Text
texts words = map string_bytes words

abbrev pub run_given : GivenRun → Run
run_given r = record {
  numbers = map (λ word. word.now) r.numbers.items;
  workers_named = r.workers;
  turns_named = r.turns;
  dumps = r.dump;
  traces = r.trace;
}

abbrev pub command_given : GivenCommand → Command
command_given (given.Run file r) = runs file.now (run_given r)
command_given (given.Check file) = checks file.now
command_given (given.Sample colours r) = samples colours (run_given r)

abbrev pub said_given : GivenSaid → Said
said_given s = record {
  words = unwrap_or (option_map (λ words. map (λ word. word.now) words.now) s.words) [];
  workers_text = option_map (λ text. text.now) s.workers;
  turns_text = option_map (λ text. text.now) s.turns;
  dumps = s.dump;
  traces = s.trace;
}
