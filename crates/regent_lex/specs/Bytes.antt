-- Classes of bytes, and what stands at the front of a list of bytes.
use Rattle.std.specs.Prelude.{ℕ, Bool, true, false, List, [], ◌∷◌, ◌==◌, ◌&&◌, ◌||◌, nat_le}
use Rattle.std.specs.Prelude.{count_by, if◌then◌else◌, is_some}
use Rattle.regent_lex.specs.Tables.{mark_of}

-- bytes by name
abbrev pub line_feed : ℕ
line_feed = 10

abbrev pub quote_mark : ℕ
quote_mark = 34

abbrev pub dash : ℕ
dash = 45

abbrev pub dot : ℕ
dot = 46

abbrev pub equals_sign : ℕ
equals_sign = 61

abbrev pub capital_l : ℕ
capital_l = 76

abbrev pub opening_bracket : ℕ
opening_bracket = 91

abbrev pub backslash : ℕ
backslash = 92

abbrev pub closing_bracket : ℕ
closing_bracket = 93

-- a blank, a tab, a line feed or a carriage return
abbrev pub is_blank : ℕ → Bool
is_blank b = (b == 32) || (b == 9) || (b == 10) || (b == 13)

-- 0 to 9
abbrev pub is_digit : ℕ → Bool
is_digit b = nat_le 48 b && nat_le b 57

-- a to z, A to Z, or _
abbrev pub is_letter : ℕ → Bool
is_letter b = (nat_le 97 b && nat_le b 122) || (nat_le 65 b && nat_le b 90) || (b == 95)

-- what may stand in a name behind its first byte
abbrev pub is_word_byte : ℕ → Bool
is_word_byte b = is_letter b || is_digit b

-- any byte but a line feed
abbrev pub in_line : ℕ → Bool
in_line b = if b == line_feed then false else true

-- a sign of one byte
abbrev pub is_sign : ℕ → Bool
is_sign b = is_some (mark_of (b ∷ []))

-- the first byte of a sign of two bytes, whose second is an equals sign
abbrev pub takes_equals : ℕ → Bool
takes_equals b = is_some (mark_of (b ∷ equals_sign ∷ []))

-- the list has a first byte, which passes the test
abbrev pub next_is : (ℕ → Bool) → List ℕ → Bool
next_is p [] = false
next_is p (b ∷ bs) = p b

-- an equals sign comes next
abbrev pub next_is_equals : List ℕ → Bool
next_is_equals bs = next_is (λ c. c == equals_sign) bs

-- the list begins with the two bytes
abbrev pub next_are : ℕ → ℕ → List ℕ → Bool
next_are x y [] = false
next_are x y (b ∷ bs) = (b == x) && next_is (λ c. c == y) bs

-- the line feeds among the bytes
abbrev pub feeds : List ℕ → ℕ
feeds bs = count_by (λ b. b == line_feed) bs
