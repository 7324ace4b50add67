-- The names that a source keeps.
use Rattle.std.specs.Prelude.{ℕ, List, [], ◌∷◌, string_bytes}
use Rattle.run_io.specs.declared.names.Names.{Names}
use Rattle.run_io.specs.declared.names.Names.TheVariants.{Nothing, One, Two}

-- the bytes of each kept name, in the order of the begins
abbrev pub names_of : Names → List (List ℕ)
names_of Nothing = []
names_of (One first) = string_bytes first ∷ []
names_of (Two first second) = string_bytes first ∷ string_bytes second ∷ []
