-- Requirements gathered from one declared need after another.
use Rattle.std.proofs.Common.{◌≡◌, ℕ, Option, Some, None, List, [], ◌∷◌, ◌++◌, refl, sym, ap, ◌∙◌}
use Rattle.std.proofs.lemmas.List.{append_assoc}
use Rattle.region_tree.specs.Requirements.{Requirement}
use Rattle.machine_terms.specs.Opening.{required_before, with_points}

-- earlier requirements in front of the others, if these are there
abbrev pub behind : List Requirement → Option (List Requirement) → Option (List Requirement)
behind done (Some rest) = Some (done ++ rest)
behind done None = None

with_points_behind : (xs : List ℕ) (r : Requirement) (rest : List Requirement) →
    with_points xs r rest ≡ with_points xs r [] ++ rest
with_points_behind [] r rest = refl
with_points_behind (x ∷ xs) r rest = refl

-- one more of them
pub behind_next : (done after : List Requirement) (r : Requirement)
    (rest : Option (List Requirement)) → after ≡ done ++ with_points r.points r [] →
    behind after rest ≡ behind done (required_before (Some r) rest)
behind_next done after r (Some rest) e =
    ap (λ l. Some (l ++ rest)) e ∙ ap Some (append_assoc done (with_points r.points r []) rest) ∙
    ap (λ l. Some (done ++ l)) (sym (with_points_behind r.points r rest))
behind_next done after r None e = refl
