-- The commands of the program, and the settings that each of them knows.
use Rattle.std.specs.Prelude.{ℕ, Bool, true, false, List, [], ◌∷◌, Option, Some, None, bytes_eq, codes, find, if◌then◌else◌}

abbrev pub Text : Type 0
Text = List ℕ

-- the setting that a word `--NAME` is for
pub data Setting : Type 0 where
  workers : Setting
  turns : Setting
  dump : Setting
  trace : Setting

abbrev pub name_of : Setting → Text
name_of workers = codes "workers"
name_of turns = codes "turns"
name_of dump = codes "dump"
name_of trace = codes "trace"

-- an option takes a value, and a flag takes none
abbrev pub takes_value : Setting → Bool
takes_value workers = true
takes_value turns = true
takes_value dump = false
takes_value trace = false

abbrev pub same_setting : Setting → Setting → Bool
same_setting s t = bytes_eq (name_of s) (name_of t)

pub data CommandName : Type 0 where
  run : CommandName
  check : CommandName
  sample : CommandName

abbrev pub command_named : Text → Option CommandName
command_named word =
    if bytes_eq (codes "run") word then Some run
    else if bytes_eq (codes "check") word then Some check
    else if bytes_eq (codes "sample") word then Some sample
    else None

-- the settings that a command knows
abbrev pub settings_of : CommandName → List Setting
settings_of run = workers ∷ turns ∷ dump ∷ trace ∷ []
settings_of check = []
settings_of sample = workers ∷ []

-- the setting of this name among those that are known
abbrev pub setting_named : List Setting → Text → Option Setting
setting_named known name = find (λ s. bytes_eq (name_of s) name) known
