-- Odd words, computed on the definition. Each sentence of the rules on words stands by one or two.
use Rattle.std.proofs.Common.{◌≡◌, List, [], ◌∷◌, Option, Some, None, true, false, codes, refl}
use Rattle.command_words.specs.Commands.{Command, checks, command, runs, sample_run, samples}
use Rattle.command_words.specs.Settings.{Text}

abbrev says : List Text → Option Command
says words = command (codes "regent" ∷ words)

-- an option anywhere behind the command, in both forms, with leading zeros
anywhere : says (codes "run" ∷ codes "--turns=007" ∷ codes "f" ∷ codes "5" ∷ codes "--workers" ∷ codes "0" ∷ codes "6" ∷ codes "--trace" ∷ [])
    ≡ Some (runs (codes "f") (record { numbers = codes "5" ∷ codes "6" ∷ []; workers_named = Some 0; turns_named = Some 7; dumps = false; traces = true }))
anywhere = refl

-- but not before it
before_command : says (codes "--dump" ∷ codes "run" ∷ codes "f" ∷ []) ≡ None
before_command = refl

-- once
twice : says (codes "run" ∷ codes "--workers=1" ∷ codes "f" ∷ codes "--workers" ∷ codes "1" ∷ []) ≡ None
twice = refl

flag_twice : says (codes "run" ∷ codes "--dump" ∷ codes "--dump" ∷ codes "f" ∷ []) ≡ None
flag_twice = refl

-- a flag takes no value, not even the empty one
flag_value : says (codes "run" ∷ codes "--trace=" ∷ codes "f" ∷ []) ≡ None
flag_value = refl

-- an option takes the next word, whichever it is, and that has to be a number
flag_as_value : says (codes "run" ∷ codes "--workers" ∷ codes "--dump" ∷ codes "f" ∷ []) ≡ None
flag_as_value = refl

separator_as_value : says (codes "run" ∷ codes "--workers" ∷ codes "--" ∷ codes "3" ∷ codes "f" ∷ []) ≡ None
separator_as_value = refl

no_value : says (codes "run" ∷ codes "f" ∷ codes "--turns" ∷ []) ≡ None
no_value = refl

-- behind `--` each word is positional, a second `--` too
behind : says (codes "run" ∷ codes "--" ∷ codes "--dump" ∷ codes "--" ∷ codes "-3" ∷ [])
    ≡ Some (runs (codes "--dump") (record { numbers = codes "--" ∷ codes "-3" ∷ []; workers_named = None; turns_named = None; dumps = false; traces = false }))
behind = refl

-- before it a word that begins with `-` is no positional one, but for `-` alone; the empty word is
minus_word : says (codes "run" ∷ codes "f" ∷ codes "-3" ∷ []) ≡ None
minus_word = refl

dash_and_empty : says (codes "run" ∷ codes "-" ∷ [] ∷ [])
    ≡ Some (runs (codes "-") (record { numbers = [] ∷ []; workers_named = None; turns_named = None; dumps = false; traces = false }))
dash_and_empty = refl

-- a name that is cut short, longer, or followed by `=` alone isn't known
short_name : says (codes "run" ∷ codes "--work=3" ∷ codes "f" ∷ []) ≡ None
short_name = refl

no_name : says (codes "run" ∷ codes "--=3" ∷ codes "f" ∷ []) ≡ None
no_name = refl

-- the value stands behind the first `=`
second_equals : says (codes "run" ∷ codes "--workers==3" ∷ codes "f" ∷ []) ≡ None
second_equals = refl

-- limits
most : says (codes "sample" ∷ codes "--workers" ∷ codes "64" ∷ codes "064" ∷ []) ≡ Some (samples 64 (sample_run (Some 64)))
most = refl

past_turns : says (codes "run" ∷ codes "--turns" ∷ codes "1099511627777" ∷ codes "f" ∷ []) ≡ None
past_turns = refl

no_colour : says (codes "sample" ∷ codes "0" ∷ []) ≡ None
no_colour = refl

-- a command knows its own settings alone
check_knows_none : says (codes "check" ∷ codes "f" ∷ codes "--trace" ∷ []) ≡ None
check_knows_none = refl

sample_without_turns : says (codes "sample" ∷ codes "--turns=1" ∷ codes "3" ∷ []) ≡ None
sample_without_turns = refl

check_one : says (codes "check" ∷ codes "run" ∷ []) ≡ Some (checks (codes "run"))
check_one = refl

-- help
help_word : says (codes "help" ∷ codes "run" ∷ []) ≡ None
help_word = refl

help_flag : says (codes "run" ∷ codes "--help" ∷ []) ≡ None
help_flag = refl

-- the program's name isn't looked at, and there has to be a command
any_name : command (codes "--" ∷ codes "check" ∷ codes "f" ∷ []) ≡ Some (checks (codes "f"))
any_name = refl

no_command : (says [] ≡ None) × (command [] ≡ None)
no_command = (refl, refl)
