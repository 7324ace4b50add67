-- Where a body begins, types of parameters tell of which parameters' regions their partitions are.
use Rattle.std.proofs.Common.{◌≡◌, inl, ℕ, ◌<◌, ◌≤◌, List, [], ◌∷◌, ◌++◌, Bool, true, false, cond, ◌&&◌, Option, refl, sym, ap, ◌∙◌, subst, arith, ⊎_elim}
use Rattle.std.specs.Prelude.{length, nat_lt, suc, ◌+◌, ◌==◌}
use Rattle.std.proofs.lemmas.Bool.{lt-ltb}
use Rattle.regent_tree.proofs.Members.{Has, Has-append_cases, Has-append_left, Has-append_right}
use Rattle.regent_tree.specs.Scopes.{bound_as, bound_params, known_of_params, known_of_type, scope_of}
use Rattle.regent_tree.specs.StaticTypes.{among_params, binding_of, type_said}
use Rattle.regent_tree.specs.Syntax.{TaskTree, Tree}
use Rattle.regent_tree.specs.declared.facts.Known.{Known}
use Rattle.regent_tree.specs.declared.facts.Known.TheVariants.{PartOf}
use Rattle.regent_tree.specs.declared.types.NumberTerm.TheVariants as number
use Rattle.regent_tree.specs.declared.types.Param.{Param}
use Rattle.regent_tree.specs.declared.types.TypeTerm.{TypeTerm}
use Rattle.regent_tree.specs.declared.types.TypeTerm.TheVariants as typing
use Rattle.regent_tree.specs.declared.typing.Bound.{Bound}
use Rattle.expression_laws.proofs.Calls.{flat_has}
use Rattle.code_laws.proofs.Entering.{ArePlacedBy, params_placed_by, placed_as_numbered}
use Rattle.code_laws.proofs.Openings.{params_length}
use Rattle.code_laws.specs.Pointers.{AllGoToParams, GoToParams}
use Rattle.code_laws.specs.Simple.{IsRegion}
use Rattle.fit_rules.specs.Shapes.{Among}
use Rattle.fit_rules.specs.Marks.{Fact, parted}
use Rattle.sound_code.specs.Named.{slot_at}
use Rattle.sound_code.specs.Ways.{by_rules, none_begun, opening_facts, told_by}
use Rattle.sound_code.proofs.Declaring.{has_among}
use Rattle.sound_code.proofs.ScopedNames.{go_both}
use Rattle.sound_code.proofs.Cuts.{AreCut, IsCut}

-- a region that is found by its number has a place among those that are bound
placed_low : (bs : List Bound) (i : ℕ) → ArePlacedBy bs → IsRegion (bound_as bs i).static_type → (bound_as bs i).place < length bs
placed_low [] i a r = absurd (elim r [ ])
placed_low (b ∷ bs) i a r = chosen (b.number == i) (placed_low bs i a.2) r
  where
    chosen : (c : Bool) → (IsRegion (bound_as bs i).static_type → (bound_as bs i).place < length bs) →
        IsRegion (cond c b (bound_as bs i)).static_type → (cond c b (bound_as bs i)).place < length (b ∷ bs)
    chosen true more r = omega (arith, a.1)
    chosen false more r = let low = more r in omega (arith, low)

cut_behind : (params : ℕ) (up : ℕ → Option (ℕ × ℕ)) (total : List Known) (ks : List Fact) (all bs : List Bound) (b : Bound) → AreCut params up total ks all bs → IsCut params up total ks all b.place b.static_type →
    AreCut params up total ks all (bs ++ b ∷ [])
cut_behind params up total ks all [] b a h = (h, tt)
cut_behind params up total ks all (c ∷ bs) b a h = (a.0, cut_behind params up total ks all bs b a.1 h)

-- what the last binding tells, and the others
tells_last : (bs : List Bound) (b : Bound) (k : Known) → Has (known_of_type b.static_type) k → Has (known_of_params (bs ++ b ∷ [])) k
tells_last [] b k h = h
tells_last (c ∷ bs) b k h = Has-append_left (known_of_params (bs ++ b ∷ [])) (known_of_type c.static_type) k (tells_last bs b k h)

tells_others : (bs : List Bound) (b : Bound) (k : Known) → Has (known_of_params bs) k → Has (known_of_params (bs ++ b ∷ [])) k
tells_others [] b k h = absurd h
tells_others (c ∷ bs) b k h = ⊎_elim (λ l. Has-append_left (known_of_params (bs ++ b ∷ [])) (known_of_type c.static_type) k (tells_others bs b k l))
    (λ r. Has-append_right (known_of_params (bs ++ b ∷ [])) (known_of_type c.static_type) k r)
    (Has-append_cases (known_of_params bs) (known_of_type c.static_type) k h)

module _ (tree : Tree) (t : TaskTree) (up : ℕ → Option (ℕ × ℕ)) (total : List Known) where
  abbrev all : List Bound
  all = (scope_of tree t).names

  abbrev ks : List Fact
  ks = opening_facts (by_rules none_begun t) tree t

  abbrev params : ℕ
  params = length t.params

  -- the fact of a parameter that is a partition
  part_fact : (p r : ℕ) (d : Bool) → Has (known_of_params all) (PartOf p r d) → p < params → r < params → Among ks (parted p r)
  part_fact p r d h lp lr = has_among ks (parted p r) (flat_has (told_by params) (scope_of tree t).known (PartOf p r d) (parted p r)
      (Has-append_left (known_of_params all) _ (PartOf p r d) h)
      (subst (λ y. Has (cond y (parted p r ∷ []) []) (parted p r))
      (sym (ap (λ y. y && nat_lt r params) (lt-ltb p params lp) ∙ lt-ltb r params lr)) (inl refl)))

  type_cut : (i : ℕ) (u : TypeTerm) → i < params → GoToParams all (record { name = []; number = i; place = i; static_type = type_said tree (among_params t.params) i u; by_loop = false } ∷ []) →
      ((k : Known) → Has (known_of_type (type_said tree (among_params t.params) i u)) k → Has (known_of_params all) k) →
      IsCut params up total ks all i (type_said tree (among_params t.params) i u)
  type_cut i (typing.Number number.Int32) l h told = tt
  type_cut i (typing.Number number.Int64) l h told = tt
  type_cut i (typing.Number (number.Index k)) l h told = tt
  type_cut i typing.Truth l h told = tt
  type_cut i (typing.Pointer p) l h told = tt
  type_cut i (typing.Ispace k) l h told = tt
  type_cut i (typing.Region k u) l h told = λ q high e. absurd (omega (arith, l, high))
  type_cut i (typing.Partition d r c) l h told =
      let q = binding_of (among_params t.params r) in
      let goal = h.0 in
      let placed = params_placed_by tree t.params in
      let place : (bound_as all q).place ≡ q = placed_as_numbered all q placed goal.1 ∙ goal.0 in
      let low : q < params = omega (arith, place, placed_low all q placed goal.1, params_length tree t.params 0 t.params) in
      let fact = part_fact i q d (told (PartOf i q d) (inl refl)) l low in (
        goal.1,
        subst (λ y. Among ks (parted y (slot_at params (bound_as all q).place))) (omega (arith, l))
            (subst (λ y. Among ks (parted i y)) (omega (arith, place, low, l)) fact),
      )

  params_cut : (i : ℕ) (qs : List Param) → i + length qs ≤ params → GoToParams all (bound_params tree t.params i qs) →
      ((k : Known) → Has (known_of_params (bound_params tree t.params i qs)) k → Has (known_of_params all) k) →
      AreCut params up total ks all (bound_params tree t.params i qs)
  params_cut i [] l h told = tt
  params_cut i (q ∷ qs) l h told =
      let bs = bound_params tree t.params (suc i) qs in
      let b : Bound = record { name = q.name; number = i; place = i; static_type = type_said tree (among_params t.params) i q.term; by_loop = false } in
      let both = go_both all bs b h in
      cut_behind params up total ks all bs b (params_cut (suc i) qs (omega (arith, l)) both.0 (λ k a. told k (tells_others bs b k a)))
      (type_cut i q.term (omega (arith, l)) (both.1, tt) (λ k a. told k (tells_last bs b k a)))

  -- the parameters of a task, whose partitions are of parameters
  pub opening_cut : AllGoToParams all → AreCut params up total ks all all
  opening_cut h = params_cut 0 t.params (omega arith) h (λ k a. a)
