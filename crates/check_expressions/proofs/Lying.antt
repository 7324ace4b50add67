-- A region lies within one that was made, where it lies within one of those that are made by number.
use Rattle.std.proofs.Common.{◌≡◌, List, [], ◌∷◌, ◌||◌, refl, ap}
use Rattle.std.specs.List.{list_any}
use Rattle.regent_tree.specs.declared.facts.Known.{Known}
use Rattle.regent_tree.specs.declared.facts.Known.TheVariants.{Within, Apart, PartOf, Made}
use Rattle.regent_tree.specs.declared.facts.Term.{Term}
use Rattle.check_rules.specs.rules.Privileges.{made_above}
use Rattle.check_expressions.specs.Lying.{lies_in}
use Rattle.check_expressions.specs.Seen.{made_in}

pub made_above_any : (known ks : List Known) (t : Term) →
    list_any (made_above known t) ks ≡ list_any (lies_in known t) (made_in ks)
made_above_any known [] t = refl
made_above_any known (Within a b ∷ ks) t = made_above_any known ks t
made_above_any known (Apart a b ∷ ks) t = made_above_any known ks t
made_above_any known (PartOf p r d ∷ ks) t = made_above_any known ks t
made_above_any known (Made i ∷ ks) t =
    ap (λ more. lies_in known t i || more) (made_above_any known ks t)
