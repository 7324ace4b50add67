-- The effects of a begin and a read on the report of a source.
use Rattle.std.specs.Prelude.{◌≡◌, ◌++◌, ◌∷◌, [], ℕ, List, Option, take, option_map}

-- the bytes that the next begin will make available: nothing past the end of the list
abbrev pub next_left : List (List ℕ) → List ℕ
next_left [] = []
next_left (bytes ∷ later) = bytes

-- the bytes that the begins after the next one will make available
abbrev pub after_next : List (List ℕ) → List (List ℕ)
after_next [] = []
after_next (bytes ∷ later) = later

-- the first two names, after a begin by this name
abbrev pub with_name : List ℕ → List (List ℕ) → List (List ℕ)
with_name name names = take 2 (names ++ name ∷ [])

-- what was left is the moved bytes, followed by what is left now
abbrev pub Moves : Option (List ℕ) → List ℕ → Option (List ℕ) → Type 0
Moves before moved now = before ≡ option_map (λ left. moved ++ left) now
