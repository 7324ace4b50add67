-- Rows that a new fact doesn't widen.
use Rattle.std.proofs.Common.{◌≡◌, Bool, false, List, [], ◌∷◌, ◌||◌, map, refl, cond}
use Rattle.std.specs.List.{list_any}
use Rattle.std.proofs.lemmas.Bool.{or_parts}
use Rattle.regent_tree.specs.Facts.{Row, raises, united, widened}
use Rattle.regent_tree.specs.declared.facts.Known.{Known}
use Rattle.regent_tree.specs.declared.facts.Term.{Term}

none_raised : (f : Term → Bool) → ((t : Term) → f t ≡ false) → (ts : List Term) → list_any f ts ≡ false
none_raised f none [] = refl
none_raised f none (t ∷ ts) = λ j. none t j || none_raised f none ts j

-- a fact that raises nothing widens no row
pub none_widened : (k : Known) → ((t : Term) → raises k t ≡ false) → (rows : List Row) →
    list_any (λ (row : Row). list_any (raises k) row.1) rows ≡ false
none_widened k none [] = refl
none_widened k none (row ∷ rows) = λ j. none_raised (raises k) none row.1 j || none_widened k none rows j

-- rows of which none is widened stay as they are
pub all_kept : (k : Known) (more : List Term) (rows : List Row) →
    list_any (λ (row : Row). list_any (raises k) row.1) rows ≡ false → map (widened k more) rows ≡ rows
all_kept k more [] e = refl
all_kept k more (row ∷ rows) e =
    let parts = or_parts (list_any (raises k) row.1) (list_any (λ (r : Row). list_any (raises k) r.1) rows) e in
    λ j. (row.0, cond (parts.0 j) (united row.1 more) row.1) ∷ all_kept k more rows parts.1 j
