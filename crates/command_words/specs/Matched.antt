-- The meaning of the rows that clap found.
use Rattle.std.specs.Prelude.{ℕ, ◌≡◌, ◌≤◌, ◌<◌, ◌^◌, length, Bool, false, List, [], Option, Some, None, bytes_eq, codes, unwrap_or}
use Rattle.std.specs.Str.Parse.{IsNumeral, digits_value}
use Rattle.clap.specs.Walk.{Row, all_of, first_of}
use Rattle.command_words.specs.Commands.{Said}
use Rattle.command_words.specs.Settings.{Text}

-- a flag that is given has this value
abbrev pub is_set : Option Text → Bool
is_set None = false
is_set (Some text) = bytes_eq text (codes "true")

abbrev pub said_in : List Row → Said
said_in rows = record {
  words = unwrap_or (all_of (codes "words") rows) [];
  workers_text = first_of (codes "workers") rows;
  turns_text = first_of (codes "turns") rows;
  dumps = is_set (first_of (codes "dump") rows);
  traces = is_set (first_of (codes "trace") rows);
}

-- a word of 1 to 20 decimal digits
abbrev pub IsNumber : Text → Type 0
IsNumber word = IsNumeral 10 word × (length word ≤ 20)

-- the number of a word, if it is one of 64 bits
abbrev pub IsNumberOf : Text → Option ℕ → Type 0
IsNumberOf word None = ¬ (IsNumber word × (digits_value 10 word < 2 ^ 64))
IsNumberOf word (Some n) = IsNumber word × (n ≡ digits_value 10 word)
