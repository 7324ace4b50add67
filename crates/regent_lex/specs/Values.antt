-- What tokens stand for: the value of a number, and the bytes of a string.
use Rattle.std.specs.Prelude.{ℕ, ◌-◌, Bool, true, false, List, [], ◌∷◌, length, take, drop, ◌==◌}
use Rattle.std.specs.Prelude.{if◌then◌else◌}
use Rattle.std.specs.List.{prefix_len}
use Rattle.regent_lex.specs.Bytes.{backslash, capital_l, line_feed, is_digit, next_are}
use Rattle.regent_lex.specs.Numbers.{value_of}

-- the number that the digits at the front spell
abbrev pub number_value : List ℕ → ℕ
number_value spelling = value_of (take (prefix_len is_digit spelling) spelling)

-- LL stands behind the digits at the front
abbrev pub has_suffix : List ℕ → Bool
has_suffix spelling = next_are capital_l capital_l (drop (prefix_len is_digit spelling) spelling)

-- what a byte stands for behind a backslash: n for a line feed, t for a tab, others for themselves
abbrev pub escaped : ℕ → ℕ
escaped c = if c == 110 then line_feed else if c == 116 then 9 else c

-- the bytes that a string's content stands for, behind a backslash or not
abbrev pub unescaped : Bool → List ℕ → List ℕ
unescaped behind [] = []
unescaped true (c ∷ bytes) = escaped c ∷ unescaped false bytes
unescaped false (b ∷ bytes) =
    if b == backslash then unescaped true bytes else b ∷ unescaped false bytes

-- the bytes that a string with its quotes stands for
abbrev pub quoted_bytes : List ℕ → List ℕ
quoted_bytes spelling = unescaped false (take (length spelling - 2) (drop 1 spelling))
