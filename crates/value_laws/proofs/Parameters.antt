-- The types of a task's parameters, by the numbers of their bindings.
use Rattle.check_laws.proofs.Scopes.{differ}
use Rattle.std.proofs.Common.{List, [], ◌∷◌, ◌++◌, false, true, refl, ap, sym, ℕ, zero, suc, ◌≡◌, ◌∙◌, ◌<◌, ◌+◌, ◌==◌, ◌⊎◌, Bool, inl, inr, map, cond, arith}
use Rattle.std.proofs.lemmas.Bool.{eq-eqb, eqb-true}
use Rattle.std.proofs.lemmas.List.{append_assoc, reverse-append}
use Rattle.std.specs.Prelude.{length}
use Rattle.regent_tree.specs.Scopes.{bound_as, bound_params, unbound}
use Rattle.regent_tree.specs.StaticTypes.{among_params, type_said}
use Rattle.regent_tree.specs.Syntax.{Tree}
use Rattle.regent_tree.specs.declared.types.Param.{Param}
use Rattle.regent_tree.specs.declared.typing.Bound.{Bound}
use Rattle.check_rules.specs.types.Params.{types_in_order}
use Rattle.check_rules.specs.types.Sorts.{type_at}

abbrev bound : Tree → List Param → ℕ → Param → Bound
bound tree all i p = record { name = p.name; number = i; place = i; static_type = type_said tree (among_params all) i p.term; by_loop = false }

same_number : (a : ℕ) → (a == a) ≡ true
same_number a = eq-eqb a a refl

-- parameters have the numbers from a first one on
skips_params : (tree : Tree) (all : List Param) (i : ℕ) (ps : List Param) (more : List Bound) (r : ℕ) → r < i →
    bound_as (bound_params tree all i ps ++ more) r ≡ bound_as more r
skips_params tree all i [] more r l = refl
skips_params tree all i (p ∷ ps) more r l =
    ap (λ bs. bound_as bs r) (append_assoc (bound_params tree all (suc i) ps) (bound tree all i p ∷ []) more)
    ∙ skips_params tree all (suc i) ps (bound tree all i p ∷ more) r (omega (arith, l))
    ∙ ap (λ b. cond b (bound tree all i p) (bound_as more r)) (differ i r l)

last_is_other : (bs : List Bound) (b : Bound) (r : ℕ) → (b.number == r) ≡ false → bound_as (bs ++ b ∷ []) r ≡ bound_as bs r
last_is_other [] b r e = ap (λ c. cond c b unbound) e
last_is_other (x ∷ bs) b r e = ap (λ y. cond (x.number == r) x y) (last_is_other bs b r e)

in_order : (bs : List Bound) (b : Bound) → types_in_order (bs ++ b ∷ []) ≡ b.static_type ∷ types_in_order bs
in_order bs b = ap (map (λ (c : Bound). c.static_type)) (reverse-append bs (b ∷ []))

above : (a b : ℕ) → (a == (a + suc b)) ≡ false
above a b = search (arith)

-- the type of the binding with a number is the one at its place
pub param_at : (tree : Tree) (all : List Param) (i : ℕ) (ps : List Param) (j : ℕ) →
    (bound_as (bound_params tree all i ps) (i + j)).static_type ≡ type_at (types_in_order (bound_params tree all i ps)) j
param_at tree all i [] j = refl
param_at tree all i (p ∷ ps) zero =
    let zeroth : (i + zero) ≡ i = omega (arith) in
    let rest = bound_params tree all (suc i) ps in
    ap (λ (b : Bound). b.static_type) (ap (bound_as (rest ++ bound tree all i p ∷ [])) zeroth ∙ skips_params tree all (suc i) ps (bound tree all i p ∷ []) i (omega (arith))
    ∙ ap (λ c. cond c (bound tree all i p) unbound) (same_number i))
    ∙ sym (ap (λ ts. type_at ts 0) (in_order rest (bound tree all i p)))
param_at tree all i (p ∷ ps) (suc j) =
    let rest = bound_params tree all (suc i) ps in
    let moved : (i + suc j) ≡ (suc i + j) = omega (arith) in
    ap (λ (b : Bound). b.static_type) (last_is_other rest (bound tree all i p) (i + suc j) (above i j) ∙ ap (bound_as rest) moved)
    ∙ param_at tree all (suc i) ps j ∙ sym (ap (λ ts. type_at ts (suc j)) (in_order rest (bound tree all i p)))

pub params_long : (tree : Tree) (all : List Param) (i : ℕ) (ps : List Param) → length (types_in_order (bound_params tree all i ps)) ≡ length ps
params_long tree all i [] = refl
params_long tree all i (p ∷ ps) = ap length (in_order (bound_params tree all (suc i) ps) (bound tree all i p)) ∙ ap suc (params_long tree all (suc i) ps)

-- ---- parameters in their places

abbrev pub NumbersArePlaces : List Bound → Type 0
NumbersArePlaces [] = Unit {0}
NumbersArePlaces (b ∷ bs) = (b.place ≡ b.number) × NumbersArePlaces bs

pushed : (bs : List Bound) (b : Bound) → NumbersArePlaces bs → b.place ≡ b.number → NumbersArePlaces (bs ++ b ∷ [])
pushed [] b are is = (is, tt)
pushed (x ∷ bs) b are is = (are.0, pushed bs b are.1 is)

pub params_are : (tree : Tree) (all : List Param) (i : ℕ) (ps : List Param) → NumbersArePlaces (bound_params tree all i ps)
params_are tree all i [] = tt
params_are tree all i (p ∷ ps) = pushed (bound_params tree all (suc i) ps) _ (params_are tree all (suc i) ps) refl

pub at_place : (bs : List Bound) (i : ℕ) → NumbersArePlaces bs → (bound_as bs i ≡ unbound) ⊎ ((bound_as bs i).place ≡ i)
at_place [] i are = inl refl
at_place (b ∷ bs) i are = by (b.number == i) refl (at_place bs i are.1)
  where
    by : (c : Bool) → (b.number == i) ≡ c → (bound_as bs i ≡ unbound) ⊎ ((bound_as bs i).place ≡ i) → (cond c b (bound_as bs i) ≡ unbound) ⊎ ((cond c b (bound_as bs i)).place ≡ i)
    by true e rest = inr (are.0 ∙ eqb-true b.number i e)
    by false e rest = rest
