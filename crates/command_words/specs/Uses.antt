-- The uses in the words after the command, one after the other: settings and positional words.
use Rattle.std.specs.Prelude.{◌==◌, ◌&&◌, Bool, true, false, not, List, [], ◌∷◌, Option, Some, None, map, option_map, if◌then◌else◌}
use Rattle.std.specs.List.{after_first, before_first, list_any}
use Rattle.command_words.specs.Settings.{Setting, Text, same_setting, setting_named, takes_value}

-- ---- one word

-- The form of a word before `--`: it is `--` itself, or `--NAME` or `--NAME=VALUE`, or another word
-- of two bytes or more that begins with `-`, or a plain word. So `-` alone and the empty word are
-- plain.
pub data Form : Type 0 where
  separator : Form
  setting : Text → Option Text → Form
  dashed : Form
  plain : Form

-- the name is before the first `=` (61), and the value after it
abbrev pub setting_form : Text → Form
setting_form text = setting (before_first (λ b. b == 61) text)
    (if list_any (λ b. b == 61) text then Some (after_first (λ b. b == 61) text) else None)

-- the text after `--`
abbrev pub double_form : Text → Form
double_form [] = separator
double_form (b ∷ text) = setting_form (b ∷ text)

-- `-` is 45
abbrev pub form_of : Text → Form
form_of [] = plain
form_of (b ∷ []) = plain
form_of (b ∷ c ∷ text) =
    if b == 45 then (if c == 45 then double_form text else dashed) else plain

abbrev pub is_plain : Form → Bool
is_plain plain = true
is_plain _ = false

-- ---- all the words

-- a flag, an option with its value, or a positional word
pub data Use : Type 0 where
  flag : Setting → Use
  option : Setting → Text → Use
  positional : Text → Use

abbrev pub Uses : Type 0
Uses = Option (List Use)

abbrev pub with_use : Use → Uses → Uses
with_use first uses = option_map (λ more. first ∷ more) uses

-- a setting, with the value in its own word; `rest` are the uses of the words after it, if an
-- option waits for its value or none does
abbrev pub at_option : Setting → Option Text → (Option Setting → Uses) → Uses
at_option s None rest = rest (Some s)
at_option s (Some value) rest = with_use (option s value) (rest None)

abbrev pub at_flag : Setting → Option Text → (Option Setting → Uses) → Uses
at_flag s None rest = with_use (flag s) (rest None)
at_flag s (Some value) rest = None

abbrev pub at_setting : Option Setting → Option Text → (Option Setting → Uses) → Uses
at_setting None value rest = None
at_setting (Some s) value rest =
    if takes_value s then at_option s value rest else at_flag s value rest

-- a word of this form, and the words after it
abbrev pub at_word : List Setting → Form → Text → List Text → (Option Setting → Uses) → Uses
at_word known separator word words rest = Some (map positional words)
at_word known (setting name value) word words rest =
    at_setting (setting_named known name) value rest
at_word known dashed word words rest = None
at_word known plain word words rest = with_use (positional word) (rest None)

-- The uses in the words, where `known` are the settings of the command, and an option may be
-- waiting for its value. Its value is the next word. That is a number, so a longer word that begins
-- with `-` isn't one. After `--` all words are positional.
abbrev pub uses : List Setting → Option Setting → List Text → Uses
uses known None [] = Some []
uses known None (word ∷ words) =
    at_word known (form_of word) word words (λ waiting. uses known waiting words)
uses known (Some s) [] = None
uses known (Some s) (word ∷ words) =
    if is_plain (form_of word) then with_use (option s word) (uses known None words) else None

-- ---- the meaning of the uses

abbrev pub is_of : Setting → Use → Bool
is_of s (flag t) = same_setting t s
is_of s (option t value) = same_setting t s
is_of s (positional word) = false

-- a later use of the same setting
abbrev pub is_repeated : Use → List Use → Bool
is_repeated (flag s) later = list_any (is_of s) later
is_repeated (option s value) later = list_any (is_of s) later
is_repeated (positional word) later = false

-- each setting is used at most once
abbrev pub is_single : List Use → Bool
is_single [] = true
is_single (first ∷ uses) = not (is_repeated first uses) && is_single uses

abbrev pub has_flag : Setting → List Use → Bool
has_flag s uses = list_any (is_of s) uses

abbrev pub value_in : Setting → Use → Option Text → Option Text
value_in s (flag t) later = later
value_in s (option t value) later = if same_setting t s then Some value else later
value_in s (positional word) later = later

-- the value of an option, if it is used
abbrev pub value_of : Setting → List Use → Option Text
value_of s [] = None
value_of s (first ∷ uses) = value_in s first (value_of s uses)

abbrev pub word_in : Use → List Text → List Text
word_in (flag s) later = later
word_in (option s value) later = later
word_in (positional word) later = word ∷ later

abbrev pub positional_words : List Use → List Text
positional_words [] = []
positional_words (first ∷ uses) = word_in first (positional_words uses)
