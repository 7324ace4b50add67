-- What the checker's scopes mean.
use Rattle.std.specs.Prelude.{List, [], ℕ, ◌∷◌}
use Rattle.regent_tree.specs.Scopes.{Scope}
use Rattle.regent_tree.specs.declared.facts.Known.{Known}
use Rattle.regent_tree.specs.declared.facts.Known.TheVariants.{Made}
use Rattle.check_expressions.specs.declared.scope.Scoped.{Scoped}

abbrev pub seen : Scoped → Scope
seen s = record { names = s.names; known = s.facts; next = s.next }

-- the regions that were made, by the numbers of their bindings
abbrev pub made_in : List Known → List ℕ
made_in [] = []
made_in (Made i ∷ ks) = i ∷ made_in ks
made_in (k ∷ ks) = made_in ks
