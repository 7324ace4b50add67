-- The types of bound parameters are those that their terms say.
use Rattle.std.proofs.Common.{drop, false, zero, ◌≡◌, ℕ, suc, List, [], ◌∷◌, map, refl, ap, ◌∙◌}
use Rattle.std.proofs.lemmas.List.{map-append, reverse-append}
use Rattle.regent_tree.specs.declared.types.Param.{Param}
use Rattle.regent_tree.specs.declared.typing.Bound.{Bound}
use Rattle.regent_tree.specs.Syntax.{Tree}
use Rattle.regent_tree.specs.Scopes.{bound_params}
use Rattle.regent_tree.specs.StaticTypes.{among_params, type_said}
use Rattle.check_rules.specs.types.Params.{params_beside, says_no_type, term_at, type_unless, types_in_order, with_unknown}
use Rattle.static_types.specs.Params.{beside_from, said_from}

abbrev bound : Tree → List Param → ℕ → Param → Bound
bound tree all i p = record { name = p.name; number = i; place = i; static_type = type_said tree (among_params all) i p.term; by_loop = false }

pub types_as_said : (tree : Tree) (all : List Param) (i : ℕ) (ps : List Param) →
    types_in_order (bound_params tree all i ps) ≡ said_from tree all i ps
types_as_said tree all i [] = refl
types_as_said tree all i (p ∷ ps) =
    ap (λ (bs : List Bound). map (λ (b : Bound). b.static_type) bs) (reverse-append (bound_params tree all (suc i) ps) (bound tree all i p ∷ []))
    ∙ ap (λ ts. type_said tree (among_params all) i p.term ∷ ts) (types_as_said tree all (suc i) ps)

-- ---- where some are unknown

term_here : (all : List Param) (i : ℕ) (p : Param) (ps : List Param) → drop i all ≡ p ∷ ps →
    (term_at all i ≡ p.term) × (drop (suc i) all ≡ ps)
term_here [] zero p ps e = absurd cc
term_here [] (suc i) p ps e = absurd cc
term_here (x ∷ xs) zero p ps e = (ap (λ l. term_at l 0) e, ap (drop 1) e)
term_here (x ∷ xs) (suc i) p ps e = term_here xs i p ps e

module _ (tree : Tree) (names : List Bound) (all : List Param) where
  abbrev unknowing : Bound → Bound
  unknowing b = record b {
    static_type = type_unless (says_no_type tree names (term_at all b.number)) b.static_type;
  }

  beside_on : (i : ℕ) (ps : List Param) → drop i all ≡ ps →
      types_in_order (with_unknown (says_no_type tree names) all (bound_params tree all i ps)) ≡ beside_from tree names all i ps
  beside_on i [] e = refl
  beside_on i (p ∷ ps) e =
      let here = term_here all i p ps e in
      let rest = bound_params tree all (suc i) ps in
      ap types_in_order (map-append unknowing rest (bound tree all i p ∷ []))
      ∙ ap (λ (bs : List Bound). map (λ (b : Bound). b.static_type) bs) (reverse-append (map unknowing rest) (unknowing (bound tree all i p) ∷ []))
      ∙ (λ j. type_unless (says_no_type tree names (here.0 j)) (type_said tree (among_params all) i p.term) ∷ beside_on (suc i) ps here.1 j)

pub types_beside : (tree : Tree) (all : List Param) →
    types_in_order (params_beside tree all) ≡ beside_from tree (bound_params tree all 0 all) all 0 all
types_beside tree all = beside_on tree (bound_params tree all 0 all) all 0 all refl
