-- The field space that the type of a parameter at a place names.
use Rattle.std.proofs.Common.{◌≡◌, ℕ, zero, suc, ◌<◌, ◌≤◌, List, [], ◌∷◌, length, get_or, refl, ap, ◌∙◌, sym, arith}
use Rattle.regent_tree.specs.Accesses.{space_in}
use Rattle.regent_tree.specs.StaticTypes.{Looking, among_params, place_in, type_said}
use Rattle.regent_tree.specs.Syntax.{Name, TaskTree, Tree}
use Rattle.regent_tree.specs.Cover.{space_named}
use Rattle.regent_tree.specs.declared.types.Param.{Param}
use Rattle.regent_tree.specs.declared.typing.StaticType.{StaticType}
use Rattle.regent_tree.specs.declared.typing.StaticType.TheVariants.{Unknown as unknown_type}
use Rattle.static_types.proofs.SaidInOrder.{types_as_said}
use Rattle.static_types.specs.Params.{said_from}

there : (tree : Tree) (all : List Param) (i : ℕ) (ps : List Param) (j : ℕ) (q : Param) (s : ℕ) → j < length ps → q ≡ get_or ps j q →
    ((look : Looking) (own : ℕ) → s ≡ space_in (type_said tree look own q.term)) →
    s ≡ space_in (get_or (said_from tree all i ps) j unknown_type)
there tree all i [] j q s h is f = absurd (omega (arith, h))
there tree all i (p ∷ ps) zero q s h is f =
    f (among_params all) i ∙ ap (λ (r : Param). space_in (type_said tree (among_params all) i r.term)) is
there tree all i (p ∷ ps) (suc j) q s h is f = there tree all (suc i) ps j q s (omega (arith, h)) is f

past : (tree : Tree) (all : List Param) (i : ℕ) (ps : List Param) (j : ℕ) → length ps ≤ j →
    0 ≡ space_in (get_or (said_from tree all i ps) j unknown_type)
past tree all i [] zero h = refl
past tree all i [] (suc j) h = refl
past tree all i (p ∷ ps) zero h = absurd (omega (arith, h))
past tree all i (p ∷ ps) (suc j) h = past tree all (suc i) ps j (omega (arith, h))

-- the same of the list of parameters and of the place that code finds
behind : (tree : Tree) (t : TaskTree) (n : Name) (ps : List Param) (i s : ℕ) → ps ≡ t.params → i ≡ place_in ps n →
    s ≡ space_in (get_or (said_from tree t.params 0 ps) i unknown_type) → s ≡ space_named tree t n
behind tree t n ps i s same found h = h
    ∙ ap (λ (xs : List Param). space_in (get_or (said_from tree t.params 0 xs) i unknown_type)) same
    ∙ ap (λ (j : ℕ). space_in (get_or (said_from tree t.params 0 t.params) j unknown_type)) (found ∙ ap (λ (xs : List Param). place_in xs n) same)
    ∙ ap (λ (ts : List StaticType). space_in (get_or ts (place_in t.params n) unknown_type)) (sym (types_as_said tree t.params 0 t.params))

pub space_there : (tree : Tree) (t : TaskTree) (n : Name) (ps : List Param) (i : ℕ) (q : Param) (s : ℕ) → ps ≡ t.params → i ≡ place_in ps n →
    i < length ps → q ≡ get_or ps i q →
    ((look : Looking) (own : ℕ) → s ≡ space_in (type_said tree look own q.term)) → s ≡ space_named tree t n
space_there tree t n ps i q s same found h is f = behind tree t n ps i s same found (there tree t.params 0 ps i q s h is f)

pub space_past : (tree : Tree) (t : TaskTree) (n : Name) (ps : List Param) (i : ℕ) → ps ≡ t.params → i ≡ place_in ps n → length ps ≤ i →
    0 ≡ space_named tree t n
space_past tree t n ps i same found h = behind tree t n ps i 0 same found (past tree t.params 0 ps i h)
