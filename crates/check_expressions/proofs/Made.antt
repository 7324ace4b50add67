-- The regions that are made, where one more fact is known.
use Rattle.std.proofs.Common.{◌≡◌, List, [], ◌∷◌, ◌++◌, refl, ap, ◌∙◌}
use Rattle.std.proofs.lemmas.List.{append-nil}
use Rattle.regent_tree.specs.declared.facts.Known.{Known}
use Rattle.regent_tree.specs.declared.facts.Known.TheVariants.{Within, Apart, PartOf, Made}
use Rattle.check_expressions.specs.Seen.{made_in}

pub made_with : (ks : List Known) (k : Known) → made_in (ks ++ k ∷ []) ≡ made_in ks ++ made_in (k ∷ [])
made_with [] k = refl
made_with (Within a b ∷ ks) k = made_with ks k
made_with (Apart a b ∷ ks) k = made_with ks k
made_with (PartOf p r d ∷ ks) k = made_with ks k
made_with (Made i ∷ ks) k = ap (λ is. i ∷ is) (made_with ks k)

pub made_without : (ks : List Known) (k : Known) → made_in (k ∷ []) ≡ [] → made_in (ks ++ k ∷ []) ≡ made_in ks
made_without ks k e = made_with ks k ∙ ap (λ is. made_in ks ++ is) e ∙ append-nil (made_in ks)
