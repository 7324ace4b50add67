-- The parameters of a task without a breach: no two share a name, and each name in a type is bound.
use Rattle.std.proofs.Common.{arith, Bool, List, [], ◌∷◌, ◌++◌, false, true, refl, ap, sym, subst, ℕ, suc, ◌+◌, ◌≡◌, ◌∙◌, ◌||◌, inl, inr, bytes_eq, cond}
use Rattle.std.proofs.lemmas.Bool.{or_parts}
use Rattle.std.proofs.lemmas.List.{append-nil, append_assoc}
use Rattle.std.specs.List.{list_any}
use Rattle.regent_tree.proofs.Members.{Has, Has-append_cases, Has-append_left, Has-append_right}
use Rattle.regent_tree.specs.Lookup.{is_bound}
use Rattle.regent_tree.specs.Scopes.{bound_params}
use Rattle.regent_tree.specs.StaticTypes.{among_params, type_said}
use Rattle.regent_tree.specs.Syntax.{Name, TaskTree, Tree}
use Rattle.regent_tree.specs.declared.types.Param.{Param}
use Rattle.regent_tree.specs.declared.types.TypeTerm.{TypeTerm}
use Rattle.regent_tree.specs.declared.typing.Bound.{Bound}
use Rattle.regent_tree.specs.declared.typing.StaticType.{StaticType}
use Rattle.regent_tree.specs.declared.typing.StaticType.TheVariants.{Unknown as unknown_type}
use Rattle.check_rules.proofs.Written.{written_known}
use Rattle.check_rules.specs.rules.Names.{unbound_name_in_type}
use Rattle.check_rules.specs.rules.Repeats.{Given, given_by, repeats_after, was_given}
use Rattle.check_rules.specs.scopes.Bodies.{known_once}
use Rattle.check_rules.specs.scopes.Sound.{IsSoundTask}
use Rattle.check_rules.specs.types.Declarations.{is_flawed_type}
use Rattle.check_rules.specs.types.Params.{params_beside, says_no_type, term_at, with_unknown}
use Rattle.check_rules.specs.types.Sorts.{is_unknown_type}
use Rattle.check_laws.proofs.Parameters.{AreWrittenParams, bound}
use Rattle.check_laws.proofs.Parts.{contrary}

-- ---- what isn't made unknown

abbrev others : List Bound → List Bound
others [] = []
others (b ∷ bs) = bs

abbrev first_type_of : List Bound → StaticType
first_type_of [] = unknown_type
first_type_of (b ∷ bs) = b.static_type

unless_said : (b : Bool) (t : StaticType) → is_unknown_type t ≡ false → cond b unknown_type t ≡ t → b ≡ false
unless_said true t known e = absurd (contrary (ap is_unknown_type e ∙ known))
unless_said false t known e = refl

unless_twice : (b c : Bool) (t : StaticType) → is_unknown_type t ≡ false → cond b unknown_type (cond c unknown_type t) ≡ t → c ≡ false
unless_twice true c t known e = absurd (contrary (ap is_unknown_type e ∙ known))
unless_twice false c t known e = unless_said c t known e

module _ (tree : Tree) (all : List Param) where
  said_known : (i : ℕ) (t : TypeTerm) → is_unknown_type (type_said tree (among_params all) i t) ≡ false
  said_known i t = written_known tree all i (record { name = []; term = t; line = 0 } ∷ []) [] refl

  params_said : (i : ℕ) (ps : List Param) (b : Bound) → Has (bound_params tree all i ps) b → is_unknown_type b.static_type ≡ false
  params_said i [] b h = absurd h
  params_said i (p ∷ ps) b h = elim (Has-append_cases (bound_params tree all (suc i) ps) (bound tree all i p ∷ []) b h) [
    | inl g ↦ params_said (suc i) ps b g
    | inr (inl e) ↦ subst (λ (c : Bound). is_unknown_type c.static_type ≡ false) e (said_known i p.term)
    | inr (inr g) ↦ absurd g
  ]

  -- ---- no two share a name

  known_tail : (xs ys : List Bound) → known_once (xs ++ ys) ≡ xs ++ ys → known_once ys ≡ ys
  known_tail [] ys e = e
  known_tail (x ∷ xs) ys e = known_tail xs ys (ap others e)

  once_back : (i : ℕ) (ps : List Param) (bs : List Bound) (earlier : List Given) → ((n : Name) → is_bound bs n ≡ list_any (λ (e : Given). bytes_eq e.name n) earlier) →
      known_once (bound_params tree all i ps ++ bs) ≡ bound_params tree all i ps ++ bs → repeats_after earlier (given_by ps) ≡ []
  once_back i [] bs earlier same e = refl
  once_back i (p ∷ ps) bs earlier same e =
      let b = bound tree all i p in
      let g : Given = record { name = p.name; line = p.line } in
      let joined : (bound_params tree all (suc i) ps ++ b ∷ []) ++ bs ≡ bound_params tree all (suc i) ps ++ (b ∷ bs) = append_assoc (bound_params tree all (suc i) ps) (b ∷ []) bs in
      let known = ap known_once (sym joined) ∙ e ∙ joined in
      let last = known_tail (bound_params tree all (suc i) ps) (b ∷ bs) known in
      let fresh : was_given earlier g ≡ false = sym (same p.name) ∙ unless_said (is_bound bs p.name) b.static_type (said_known i p.term) (ap first_type_of last) in
      ap (λ again. cond again (p.line ∷ []) [] ++ repeats_after (g ∷ earlier) (given_by ps)) fresh
      ∙ once_back (suc i) ps (b ∷ bs) (g ∷ earlier) (λ n j. bytes_eq p.name n || same n j) known

  -- ---- each name is bound

  unflawed : (f g : TypeTerm → Bool) (names : List Bound) → ((b : Bound) → Has names b → is_unknown_type b.static_type ≡ false) → with_unknown g all (with_unknown f all names) ≡ names →
      (b : Bound) → Has names b → f (term_at all b.number) ≡ false
  unflawed f g [] known e b h = absurd h
  unflawed f g (x ∷ xs) known e b (inl same) =
      subst (λ (c : Bound). f (term_at all c.number) ≡ false) same (unless_twice (g (term_at all x.number)) (f (term_at all x.number)) x.static_type (known x (inl refl)) (ap first_type_of e))
  unflawed f g (x ∷ xs) known e b (inr h) = unflawed f g xs (λ c k. known c (inr k)) (ap others e) b h

  named_back : (i : ℕ) (ps : List Param) → ((b : Bound) → Has (bound_params tree all i ps) b → unbound_name_in_type tree (bound_params tree all 0 all) (term_at all b.number) ≡ false) →
      ((j : ℕ) → term_at all (i + j) ≡ term_at ps j) → list_any (λ (p : Param). unbound_name_in_type tree (bound_params tree all 0 all) p.term) ps ≡ false
  named_back i [] h at = refl
  named_back i (p ∷ ps) h at =
      let names = bound_params tree all 0 all in
      let here = h (bound tree all i p) (Has-append_right (bound_params tree all (suc i) ps) (bound tree all i p ∷ []) (bound tree all i p) (inl refl)) in
      let first = ap (λ t. unbound_name_in_type tree names t) (sym (at 0) ∙ ap (term_at all) (none_more i)) ∙ here in
      let rest = named_back (suc i) ps (λ b g. h b (Has-append_left (bound_params tree all (suc i) ps) (bound tree all i p ∷ []) b g)) (λ j. ap (term_at all) (moved i j) ∙ at (suc j)) in
      λ j. first j || rest j
    where
      none_more : (i : ℕ) → (i + 0) ≡ i
      none_more i = omega (arith)

      moved : (i j : ℕ) → (suc i + j) ≡ (i + suc j)
      moved i j = omega (arith)

pub params_written : (tree : Tree) (t : TaskTree) → IsSoundTask tree t → AreWrittenParams tree t.params
params_written tree t sound =
    let all = t.params in
    let names = bound_params tree all 0 all in
    let end = append-nil names in
    let once : known_once names ≡ names = ap known_once (sym sound.params) ∙ sound.once ∙ sound.params in record {
      once = once_back tree all 0 all [] [] (λ n. refl) (ap known_once end ∙ once ∙ sym end);
      named = named_back tree all 0 all (λ b h. (or_parts _ _ (unflawed tree all (says_no_type tree names) (is_flawed_type tree (params_beside tree all)) names (params_said tree all 0 all) sound.params b h)).0) (λ j. ap (term_at all) (from_zero j));
    }
  where
    from_zero : (n : ℕ) → (0 + n) ≡ n
    from_zero n = omega (arith)
