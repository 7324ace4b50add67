-- The effect of a write on the contents of a sink.
use Rattle.std.specs.Prelude.{◌≡◌, ◌<◌, ◌++◌, ℕ, List, Option, take, length, option_map}

-- the sink holds what it held before, and then the bytes
abbrev pub Adds : Option (List ℕ) → List ℕ → Option (List ℕ) → Type 0
Adds before bytes now = now ≡ option_map (λ held. held ++ bytes) before

-- the first bytes were added, but not all
abbrev pub AddsPrefix : Option (List ℕ) → List ℕ → Option (List ℕ) → Type 0
AddsPrefix before bytes now = (count : ℕ) × (count < length bytes) × Adds before (take count bytes) now
