-- Look-ups by name: the first item of a list with a name, and an index that gives its place.
use Rattle.std.specs.Prelude.{◌≡◌, ◌<◌, ◌^◌, length, ℕ, List, Bool, Option, bytes_eq, position}
use Rattle.std.specs.List.{list_any, find}
use Rattle.std.specs.HashMap.{HashMap, get}

module _ {X : Type 0} (name : X → List ℕ) where
  -- whether an item has a name
  abbrev pub is_named : List ℕ → X → Bool
  is_named n x = bytes_eq (name x) n

  -- the place of the first item with a name
  abbrev pub place_named : List X → List ℕ → Option ℕ
  place_named xs n = position (is_named n) xs

  -- the first item with a name
  abbrev pub first_named : List X → List ℕ → Option X
  first_named xs n = find (is_named n) xs

  -- whether an item has a name at all
  abbrev pub any_named : List X → List ℕ → Bool
  any_named xs n = list_any (is_named n) xs

  -- an index that gives the place of the first item of each name
  abbrev pub IsIndexOf : {S : Type 0} → HashMap (List ℕ) ℕ S → List X → Type 0
  IsIndexOf index xs = (n : List ℕ) → get bytes_eq index n ≡ place_named xs n

  -- an index of items that are few enough that a place fits 32 bits
  pub record IsTableOf {S : Type 0} (index : HashMap (List ℕ) ℕ S) (xs : List X) : Type 0 where
    pub indexed : IsIndexOf index xs
    pub few : length xs < 2 ^ 32
