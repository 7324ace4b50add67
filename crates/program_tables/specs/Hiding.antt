-- Names that hide names: of the bindings of a name, innermost first, the first is meant.
use Rattle.std.specs.Prelude.{◌≡◌, ℕ, List, [], ◌∷◌, Option, None, Some, Bool, ◌==◌, bytes_eq, cond, length, map}
use Rattle.std.specs.HashMap.{HashMap, get}
use Rattle.std.specs.List.{list_any}
use Rattle.regent_tree.specs.declared.typing.Bound.{Bound}
use Rattle.regent_tree.specs.Syntax.{Name}
use Rattle.program_tables.specs.declared.names.Entry.{Entry}

-- whether a binding has a number
abbrev pub has_number : List Bound → ℕ → Bool
has_number names i = list_any (λ (b : Bound). b.number == i) names

-- the bindings of entries
abbrev pub bindings_of : List Entry → List Bound
bindings_of entries = map (λ (e : Entry). e.bound) entries

-- how many bindings the innermost one of a name stands upon
abbrev pub newest : List Bound → Name → Option ℕ
newest [] n = None
newest (b ∷ bs) n = cond (bytes_eq b.name n) (Some (length bs)) (newest bs n)

-- each entry, innermost first, says which one it hides
abbrev pub TellHidden : List Entry → Type 0
TellHidden [] = Unit {0}
TellHidden (e ∷ es) = (e.hides ≡ newest (bindings_of es) e.bound.name) × TellHidden es

-- an index of entries, innermost first, by their names
pub record IsIndexed {S : Type 0} (index : HashMap Name ℕ S) (entries : List Entry) : Type 0 where
  pub innermost : (n : Name) → get bytes_eq index n ≡ newest (bindings_of entries) n
  pub hidden : TellHidden entries
