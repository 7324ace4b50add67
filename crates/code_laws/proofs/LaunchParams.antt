-- A parameter of an index type is known as such, wherever breaches stand: no name stands in its type.
use Rattle.std.proofs.Common.{◌≡◌, ℕ, zero, suc, ◌+◌, List, [], ◌∷◌, ◌++◌, Bool, true, false, refl, sym, ap, ◌∙◌, arith}
use Rattle.std.specs.Prelude.{map}
use Rattle.std.proofs.lemmas.List.{map-append, reverse-append}
use Rattle.regent_tree.specs.Scopes.{bound_params}
use Rattle.regent_tree.specs.StaticTypes.{Looking, among_params, task_named, type_said}
use Rattle.regent_tree.specs.Syntax.{Name, Tree}
use Rattle.regent_tree.specs.Typing.{param_types}
use Rattle.regent_tree.specs.declared.types.Kind.{Kind}
use Rattle.regent_tree.specs.declared.types.NumberTerm.{NumberTerm}
use Rattle.regent_tree.specs.declared.types.Param.{Param}
use Rattle.regent_tree.specs.declared.types.TypeTerm.{TypeTerm}
use Rattle.regent_tree.specs.declared.types.TypeTerm.TheVariants as written
use Rattle.regent_tree.specs.declared.typing.Bound.{Bound}
use Rattle.regent_tree.specs.declared.typing.StaticType.{StaticType}
use Rattle.regent_tree.specs.declared.typing.StaticType.TheVariants.{Index as index_type}
use Rattle.check_rules.specs.types.Declarations.{is_flawed_type, params_of}
use Rattle.check_rules.specs.types.Params.{params_beside, says_no_type, term_at, type_unless, types_in_order, with_unknown}
use Rattle.check_rules.specs.types.Sorts.{is_index, type_at}

typed_last : (bs : List Bound) (b : Bound) → types_in_order (bs ++ b ∷ []) ≡ b.static_type ∷ types_in_order bs
typed_last bs b = ap (map (λ (c : Bound). c.static_type)) (reverse-append bs (b ∷ []))

-- a type that says an index is a number's
index_said : (tree : Tree) (look : Looking) (own : ℕ) (j : Kind) (t : TypeTerm) → type_said tree look own t ≡ index_type j →
    (n : NumberTerm) × (t ≡ written.Number n)
index_said tree look own j (written.Number n) e = (n, refl)
index_said tree look own j _ e = absurd cc

module _ (tree : Tree) (all : List Param) (f g : TypeTerm → Bool) (plain : (n : NumberTerm) → (f (written.Number n) ≡ false) × (g (written.Number n) ≡ false)) where
  abbrev retyped : (TypeTerm → Bool) → Bound → Bound
  retyped flawed b = record b { static_type = type_unless (flawed (term_at all b.number)) b.static_type }

  retyped_last : (bs : List Bound) (b : Bound) →
      types_in_order (with_unknown g all (with_unknown f all (bs ++ b ∷ [])))
      ≡ (retyped g (retyped f b)).static_type ∷ types_in_order (with_unknown g all (with_unknown f all bs))
  retyped_last bs b =
      ap (λ cs. types_in_order (with_unknown g all cs)) (map-append (retyped f) bs (b ∷ []))
      ∙ ap types_in_order (map-append (retyped g) (map (retyped f) bs) (retyped f b ∷ []))
      ∙ typed_last (map (retyped g) (map (retyped f) bs)) (retyped g (retyped f b))

  still_index : (t : TypeTerm) (n : NumberTerm) (s : StaticType) → t ≡ written.Number n → is_index s ≡ true →
      is_index (type_unless (g t) (type_unless (f t) s)) ≡ true
  still_index t n s same e =
      ap (λ u. is_index (type_unless (g u) (type_unless (f u) s))) same
      ∙ ap (λ b. is_index (type_unless (g (written.Number n)) (type_unless b s))) (plain n).0
      ∙ ap (λ b. is_index (type_unless b s)) (plain n).1 ∙ e

  index_known : (i : ℕ) (ps : List Param) (k : ℕ) (j : Kind) → ((m : ℕ) → term_at all (i + m) ≡ term_at ps m) →
      type_at (types_in_order (bound_params tree all i ps)) k ≡ index_type j →
      is_index (type_at (types_in_order (with_unknown g all (with_unknown f all (bound_params tree all i ps)))) k) ≡ true
  index_known i [] k j at e = absurd cc
  index_known i (p ∷ ps) zero j at e =
      let bs = bound_params tree all (suc i) ps in
      let b : Bound = record { name = p.name; number = i; place = i; static_type = type_said tree (among_params all) i p.term; by_loop = false } in
      let said : type_said tree (among_params all) i p.term ≡ index_type j = sym (ap (λ ts. type_at ts 0) (typed_last bs b)) ∙ e in
      let number = index_said tree (among_params all) i j p.term said in
      let here : term_at all i ≡ written.Number number.0 = ap (term_at all) (none_more i) ∙ at 0 ∙ number.1 in
      ap (λ ts. is_index (type_at ts 0)) (retyped_last bs b)
      ∙ still_index (term_at all i) number.0 (type_said tree (among_params all) i p.term) here (ap is_index said)
    where
      none_more : (i : ℕ) → i ≡ (i + 0)
      none_more i = omega (arith)
  index_known i (p ∷ ps) (suc k) j at e =
      let bs = bound_params tree all (suc i) ps in
      let b : Bound = record { name = p.name; number = i; place = i; static_type = type_said tree (among_params all) i p.term; by_loop = false } in
      ap (λ ts. is_index (type_at ts (suc k))) (retyped_last bs b)
      ∙ index_known (suc i) ps k j (λ m. ap (term_at all) (moved i m) ∙ at (suc m)) (sym (ap (λ ts. type_at ts (suc k)) (typed_last bs b)) ∙ e)
    where
      moved : (i j : ℕ) → (suc i + j) ≡ (i + suc j)
      moved i j = omega (arith)

pub wanted_index : (tree : Tree) (n : Name) (k : ℕ) (j : Kind) → type_at (param_types tree (task_named tree n)) k ≡ index_type j →
    is_index (type_at (params_of tree n) k) ≡ true
wanted_index tree n k j e =
    let all = (task_named tree n).params in
    index_known tree all (says_no_type tree (bound_params tree all 0 all)) (is_flawed_type tree (params_beside tree all))
    (λ t. (refl, refl)) 0 all k j (λ m. ap (term_at all) (none_before m)) e
  where
    none_before : (m : ℕ) → (0 + m) ≡ m
    none_before m = omega (arith)
