-- The meaning of the words of the command line: a command, or None if they are refused.
use Rattle.std.specs.Prelude.{ℕ, ◌&&◌, ◌^◌, Bool, false, List, [], ◌∷◌, Option, Some, None, length, nat_le, option_and_then, option_map, unwrap_or, if◌then◌else◌}
use Rattle.std.specs.Char.{is_digit}
use Rattle.std.specs.List.{list_all}
use Rattle.std.specs.Str.Parse.{digits_value}
use Rattle.command_words.specs.Settings.{CommandName, Text, check, command_named, dump, run, sample, settings_of, trace, turns, workers}
use Rattle.command_words.specs.Uses.{Use, has_flag, is_single, positional_words, uses, value_of}

-- ---- numbers

-- 1 to 20 decimal digits, with leading zeros allowed
abbrev pub is_number : Text → Bool
is_number word = nat_le 1 (length word) && (nat_le (length word) 20 && list_all (λ b. is_digit b 10) word)

abbrev pub value : Text → ℕ
value word = digits_value 10 word

-- the number of a word, if it is one from `least` to `most`
abbrev pub number : ℕ → ℕ → Text → Option ℕ
number least most word =
    if is_number word && (nat_le least (value word) && nat_le (value word) most)
    then Some (value word) else None

-- The number given by an option. The outer None means that its value is refused, the inner one that
-- the option isn't used.
abbrev pub number_named : ℕ → Option Text → Option (Option ℕ)
number_named most None = Some None
number_named most (Some word) = option_map (λ n. Some n) (number 0 most word)

-- ---- limits, and defaults for options that aren't used

abbrev pub most_workers : ℕ
most_workers = 64

abbrev pub most_turns : ℕ
most_turns = 2 ^ 40

abbrev pub most_colours : ℕ
most_colours = 64

abbrev pub default_workers : ℕ
default_workers = 4

abbrev pub default_turns : ℕ
default_turns = 1000000

-- the number of workers and of turns, given or default
abbrev pub workers_or_default : Option ℕ → ℕ
workers_or_default named = unwrap_or named default_workers

abbrev pub turns_or_default : Option ℕ → ℕ
turns_or_default named = unwrap_or named default_turns

-- ---- commands

-- the options of a run: the words for its numbers, the given numbers of workers and turns, and what
-- is reported besides
pub record Run : Type 0 where
  pub numbers : List Text
  pub workers_named : Option ℕ
  pub turns_named : Option ℕ
  pub dumps : Bool
  pub traces : Bool

-- The program of a file is run; it is checked; or the sample of a number of colours is run.
pub data Command : Type 0 where
  runs : Text → Run → Command
  checks : Text → Command
  samples : ℕ → Run → Command

-- the meaning of the uses: the positional words, the values of the options and whether the flags
-- are given
pub record Said : Type 0 where
  pub words : List Text
  pub workers_text : Option Text
  pub turns_text : Option Text
  pub dumps : Bool
  pub traces : Bool

abbrev pub said_by : List Use → Said
said_by all = record {
  words = positional_words all;
  workers_text = value_of workers all;
  turns_text = value_of turns all;
  dumps = has_flag dump all;
  traces = has_flag trace all;
}

-- the `run` command: a file and numbers
abbrev pub run_of : Said → List Text → Option ℕ → Option ℕ → Option Command
run_of said [] w t = None
run_of said (file ∷ numbers) w t = Some (runs file (record {
  numbers = numbers;
  workers_named = w;
  turns_named = t;
  dumps = said.dumps;
  traces = said.traces;
}))

-- the `check` command: one file and no other word
abbrev pub check_of : List Text → Option Command
check_of [] = None
check_of (file ∷ []) = Some (checks file)
check_of (file ∷ word ∷ words) = None

-- the run of the sample: by the given number of workers, without numbers, with the default number
-- of turns
abbrev pub sample_run : Option ℕ → Run
sample_run w = record {
  numbers = [];
  workers_named = w;
  turns_named = None;
  dumps = false;
  traces = false;
}

-- the `sample` command: one number and no other word
abbrev pub sample_of : List Text → Option ℕ → Option Command
sample_of [] w = None
sample_of (colours ∷ []) w = option_map (λ n. samples n (sample_run w)) (number 1 most_colours colours)
sample_of (colours ∷ word ∷ words) w = None

-- the command of this name, given the meaning of the uses
abbrev pub command_of : CommandName → Said → Option Command
command_of run said = option_and_then (λ w. option_and_then (run_of said said.words w)
    (number_named most_turns said.turns_text)) (number_named most_workers said.workers_text)
command_of check said = check_of said.words
command_of sample said =
    option_and_then (sample_of said.words) (number_named most_workers said.workers_text)

-- no setting may be used twice
abbrev pub command_if_single : CommandName → List Use → Option Command
command_if_single name all = if is_single all then command_of name (said_by all) else None

-- the command of this name, with the words after it
abbrev pub named_command : CommandName → List Text → Option Command
named_command name words =
    option_and_then (command_if_single name) (uses (settings_of name) None words)

-- The meaning of words. The first is the program's name, and the second that of the command.
abbrev pub command : List Text → Option Command
command [] = None
command (program ∷ []) = None
command (program ∷ word ∷ words) =
    option_and_then (λ name. named_command name words) (command_named word)
