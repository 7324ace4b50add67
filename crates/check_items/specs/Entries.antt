-- The task that a program starts with.
use Rattle.std.specs.Prelude.{List, [], ℕ, ◌∷◌}
use Rattle.lane_kernels.specs.declared.numbers.Width.{Width}
use Rattle.lane_kernels.specs.declared.numbers.Width.TheVariants.{W32, W64}
use Rattle.regent_tree.specs.Syntax.{Name}
use Rattle.regent_tree.specs.declared.types.NumberTerm.TheVariants as number
use Rattle.regent_tree.specs.declared.types.TypeTerm.{TypeTerm}
use Rattle.regent_tree.specs.declared.types.TypeTerm.TheVariants as typed
use Rattle.check_rules.specs.rules.Repeats.{Given}
use Rattle.check_items.specs.declared.entry.Begin.{Begin}

-- what an item gives that says which task is started
abbrev pub given_by_begin : Begin → Given
given_by_begin b = record { name = b.name.now; line = b.line }

-- the name that the first of the starts says; without one it is "main"
abbrev pub entry_named : List Given → Name
entry_named [] = 109 ∷ 97 ∷ 105 ∷ 110 ∷ []
entry_named (g ∷ gs) = g.name

-- the width of an integer type that is written; of any other type it is that of 64 bits
abbrev pub width_of_term : TypeTerm → Width
width_of_term (typed.Number number.Int32) = W32
width_of_term t = W64

-- the line on which it is told that the entry task isn't there
abbrev pub entry_line : List Given → ℕ
entry_line [] = 1
entry_line (g ∷ gs) = g.line
