-- The table of facts: beside each, all that its upper end lies within.
use Rattle.std.proofs.Common.{◌≡◌, Bool, true, List, [], ◌∷◌, ◌++◌, map, fold, refl, ap, sym, subst, ◌∙◌, ◌⊎◌, inl, inr, ◌↔◌}
use Rattle.std.specs.List.{Contains, list_any}
use Rattle.std.proofs.lemmas.Bool.{and_parts, and_from, or_cases, or_left, or_right, cases_Bool, cond-true, cond-false}
use Rattle.std.proofs.lemmas.List.{append-nil, append_assoc, map-append}
use Rattle.std.proofs.lemmas.List.Sums.{fold-append}
use Rattle.std.proofs.lemmas.List.Elements.{Contains-push}
use Rattle.regent_tree.specs.Facts.{alike, raises, Row, united, with_raised, all_above, above_end, widened, with_row, with_fact, closed, raises_to, any_above, is_below, is_certain, is_subregion}
use Rattle.regent_tree.specs.declared.facts.Known.{Known}
use Rattle.regent_tree.specs.declared.facts.Known.TheVariants.{Within, Apart, PartOf, Made}
use Rattle.regent_tree.specs.declared.facts.Term.{Term}
use Rattle.regent_tree.specs.declared.facts.Term.TheVariants.{Name}
use Rattle.constraint_check.specs.Derivations.{IsBelow, same, through, IsSubregion}
use Rattle.regent_tree.proofs.Members.{Has, Has-from_Contains, Contains-from_Has, Has-append_cases, Has-map, Has-map_cases, list_any-from_Has, Has-from_list_any}
use Rattle.constraint_check.proofs.Alike.{alike-refl, same-terms, united-kept, united-added, united-cases}
use Rattle.constraint_check.proofs.Steps.{EndsBelow, by_way_of, FirstStep, first_step, more_facts, without_new_fact, EndsBelow-new, EndsBelow-more}

-- ---- what stands in rows

-- some row whose fact raises t has y
pub record IsRaised (rows : List Row) (t y : Term) : Type 0 where
  pub row : Row
  pub stands : Has rows row
  pub raised : raises row.0 t ≡ true
  pub has : Has row.1 y

with_raised-kept : (t : Term) (ts : List Term) (row : Row) (y : Term) → Has ts y → Has (with_raised t ts row) y
with_raised-kept t ts row y h = elim (cases_Bool (raises row.0 t)) [
  | inl e ↦ rw (cond-true (raises row.0 t) (united ts row.1) ts e) (united-kept ts row.1 y h)
  | inr e ↦ rw (cond-false (raises row.0 t) (united ts row.1) ts e) h
]

with_raised-added : (t : Term) (ts : List Term) (row : Row) (y : Term) → raises row.0 t ≡ true → Has row.1 y → Has (with_raised t ts row) y
with_raised-added t ts row y e h = rw (cond-true (raises row.0 t) (united ts row.1) ts e) (united-added ts row.1 y h)

with_raised-cases : (t : Term) (ts : List Term) (row : Row) (y : Term) → Has (with_raised t ts row) y → Has ts y ⊎ ((raises row.0 t ≡ true) × Has row.1 y)
with_raised-cases t ts row y h = elim (cases_Bool (raises row.0 t)) [
  | inl e ↦ elim (united-cases ts row.1 y (rw (cond-true (raises row.0 t) (united ts row.1) ts e) at h)) [ inl g ↦ inl g | inr g ↦ inr (e, g) ]
  | inr e ↦ inl (rw (cond-false (raises row.0 t) (united ts row.1) ts e) at h)
]

gathered-kept : (t : Term) (ts : List Term) (rows : List Row) (y : Term) → Has ts y → Has (fold (with_raised t) ts rows) y
gathered-kept t ts [] y h = h
gathered-kept t ts (row ∷ rows) y h = gathered-kept t (with_raised t ts row) rows y (with_raised-kept t ts row y h)

gathered-added : (t : Term) (ts : List Term) (rows : List Row) (row : Row) (y : Term) → Has rows row → raises row.0 t ≡ true → Has row.1 y → Has (fold (with_raised t) ts rows) y
gathered-added t ts [] row y h e g = absurd h
gathered-added t ts (r ∷ rows) row y (inl q) e g =
    gathered-kept t (with_raised t ts r) rows y
    (subst (λ (x : Row). Has (with_raised t ts x) y) (sym q) (with_raised-added t ts row y e g))
gathered-added t ts (r ∷ rows) row y (inr h) e g = gathered-added t (with_raised t ts r) rows row y h e g

gathered-cases : (t : Term) (ts : List Term) (rows : List Row) (y : Term) → Has (fold (with_raised t) ts rows) y → Has ts y ⊎ IsRaised rows t y
gathered-cases t ts [] y h = inl h
gathered-cases t ts (row ∷ rows) y h = elim (gathered-cases t (with_raised t ts row) rows y h) [
  | inl g ↦ elim (with_raised-cases t ts row y g) [
    | inl k ↦ inl k
    | inr k ↦ inr (record { row = row; stands = inl refl; raised = k.0; has = k.1 })
  ]
  | inr r ↦ inr (record { row = r.row; stands = inr r.stands; raised = r.raised; has = r.has })
]

-- ---- the table of a list of facts

-- a row has exactly what its fact's upper end lies within
pub record IsExact (facts : List Known) (row : Row) : Type 0 where
  pub sound : (y : Term) → Has row.1 y → EndsBelow facts row.0 y
  pub complete : (y : Term) → EndsBelow facts row.0 y → Has row.1 y

pub record IsTable (facts : List Known) (rows : List Row) : Type 0 where
  pub facts_are : map (λ (row : Row). row.0) rows ≡ facts
  pub exact : (row : Row) → Has rows row → IsExact facts row

known_in : (facts : List Known) (rows : List Row) → IsTable facts rows → (row : Row) → Has rows row → Contains facts row.0
known_in facts rows t row h =
    subst (λ (ks : List Known). Contains ks row.0) t.facts_are
    (Contains-from_Has _ _ (Has-map (λ (r : Row). r.0) rows row h))

pub record RowOf (rows : List Row) (k : Known) : Type 0 where
  pub row : Row
  pub stands : Has rows row
  pub fact_is : row.0 ≡ k

row_of : (facts : List Known) (rows : List Row) → IsTable facts rows → (k : Known) → Contains facts k → RowOf rows k
row_of facts rows t k h =
    let here = subst (λ (ks : List Known). Has ks k) (sym t.facts_are) (Has-from_Contains facts k h) in
    let w = Has-map_cases (λ (r : Row). r.0) rows k here in
    record { row = w.0; stands = w.1; fact_is = w.2 }

-- what some row raises is derivable, and what is derivable in a step or more is raised by some row
raised-below : (facts : List Known) (rows : List Row) → IsTable facts rows → (a y : Term) → IsRaised rows a y → IsBelow facts a y
raised-below facts rows t a y r =
    by_way_of facts r.row.0 a y (known_in facts rows t r.row r.stands) r.raised
    ((t.exact r.row r.stands).sound y r.has)

step-raised : (facts : List Known) (rows : List Row) → IsTable facts rows → (a y : Term) → FirstStep facts a y → IsRaised rows a y
step-raised facts rows t a y s =
    let w = row_of facts rows t s.fact s.known in
    record {
      row = w.row;
      stands = w.stands;
      raised = subst (λ k. raises k a ≡ true) (sym w.fact_is) s.raised;
      has = (t.exact w.row w.stands).complete y
          (subst (λ k. EndsBelow facts k y) (sym w.fact_is) s.rest);
    }

pub all_above-below : (facts : List Known) (rows : List Row) → IsTable facts rows → (a y : Term) → Has (all_above rows a) y → IsBelow facts a y
all_above-below facts rows t a y h = found (gathered-cases a (a ∷ []) rows y h)
  where
    found : Has (a ∷ []) y ⊎ IsRaised rows a y → IsBelow facts a y
    found (inl (inl e)) = subst (λ x. IsBelow facts a x) e same
    found (inl (inr f)) = absurd f
    found (inr r) = raised-below facts rows t a y r

pub below-all_above : (facts : List Known) (rows : List Row) → IsTable facts rows → (a y : Term) → IsBelow facts a y → Has (all_above rows a) y
below-all_above facts rows t a y d = elim (first_step d) [
  | inl e ↦ gathered-kept a (a ∷ []) rows y (inl e)
  | inr s ↦ let r = step-raised facts rows t a y s in
      gathered-added a (a ∷ []) rows r.row y r.stands r.raised r.has
]

above_end-sound : (facts : List Known) (rows : List Row) → IsTable facts rows → (k : Known) (y : Term) → Has (above_end rows k) y → EndsBelow facts k y
above_end-sound facts rows t (Within a b) y h = record { end = b; is_end = refl; below = all_above-below facts rows t b y h }
above_end-sound facts rows t (Apart a b) y h = absurd h
above_end-sound facts rows t (PartOf p r d) y h = record { end = Name r; is_end = refl; below = all_above-below facts rows t (Name r) y h }
above_end-sound facts rows t (Made s) y h = absurd h

above_end-complete : (facts : List Known) (rows : List Row) → IsTable facts rows → (k : Known) (y : Term) → EndsBelow facts k y → Has (above_end rows k) y
above_end-complete facts rows t (Within a b) y w =
    below-all_above facts rows t b y (subst (λ x. IsBelow facts x y) (sym w.is_end) w.below)
above_end-complete facts rows t (Apart a b) y w = absurd w.is_end
above_end-complete facts rows t (PartOf p r d) y w =
    below-all_above facts rows t (Name r) y (subst (λ x. IsBelow facts x y) (sym w.is_end) w.below)
above_end-complete facts rows t (Made s) y w = absurd w.is_end

-- ---- one more fact

-- what widening does to a row's terms
pub widened-kept : (k : Known) (more : List Term) (row : Row) (y : Term) → Has row.1 y → Has (widened k more row).1 y
widened-kept k more row y h = elim (cases_Bool (list_any (raises k) row.1)) [
  | inl e ↦ rw (cond-true (list_any (raises k) row.1) (united row.1 more) row.1 e) (united-kept row.1 more y h)
  | inr e ↦ rw (cond-false (list_any (raises k) row.1) (united row.1 more) row.1 e) h
]

pub widened-added : (k : Known) (more : List Term) (row : Row) (z y : Term) → Has row.1 z → raises k z ≡ true → Has more y → Has (widened k more row).1 y
widened-added k more row z y h r g =
    let e = list_any-from_Has (raises k) row.1 z h r in
    rw (cond-true (list_any (raises k) row.1) (united row.1 more) row.1 e) (united-added row.1 more y g)

pub record IsWidened (k : Known) (more : List Term) (row : Row) (y : Term) : Type 0 where
  pub raised : Term
  pub stands : Has row.1 raised
  pub is_raised : raises k raised ≡ true
  pub new : Has more y

pub widened-cases : (k : Known) (more : List Term) (row : Row) (y : Term) → Has (widened k more row).1 y → Has row.1 y ⊎ IsWidened k more row y
widened-cases k more row y h = elim (cases_Bool (list_any (raises k) row.1)) [
  | inl e ↦ let w = Has-from_list_any (raises k) row.1 e in
      elim (united-cases row.1 more y (rw (cond-true (list_any (raises k) row.1) (united row.1 more) row.1 e) at h)) [
        | inl g ↦ inl g
        | inr g ↦ inr (record { raised = w.0; stands = w.1; is_raised = w.2; new = g })
      ]
  | inr e ↦ inl (rw (cond-false (list_any (raises k) row.1) (united row.1 more) row.1 e) at h)
]

widened-exact : (facts : List Known) (rows : List Row) → IsTable facts rows → (k : Known) (row : Row) → Has rows row → IsExact (facts ++ k ∷ []) (widened k (above_end rows k) row)
widened-exact facts rows t k row h = record { sound = sound; complete = complete }
  where
    is_exact : IsExact facts row
    is_exact = t.exact row h

    sound : (y : Term) → Has (widened k (above_end rows k) row).1 y → EndsBelow (facts ++ k ∷ []) row.0 y
    sound y g = elim (widened-cases k (above_end rows k) row y g) [
      | inl old ↦ EndsBelow-more facts (k ∷ []) row.0 y (is_exact.sound y old)
      | inr w ↦ let up = is_exact.sound w.raised w.stands in
          let on = EndsBelow-more facts (k ∷ []) k y (above_end-sound facts rows t k y w.new) in
          record {
            end = up.end;
            is_end = up.is_end;
            below = through (more_facts (k ∷ []) up.below)
                (by_way_of (facts ++ k ∷ []) k w.raised y (Contains-push facts k) w.is_raised on);
          }
    ]

    complete : (y : Term) → EndsBelow (facts ++ k ∷ []) row.0 y → Has (widened k (above_end rows k) row).1 y
    complete y w = elim (without_new_fact facts k w.below) [
      | inl d ↦ widened-kept k (above_end rows k) row y
          (is_exact.complete y (record { end = w.end; is_end = w.is_end; below = d }))
      | inr n ↦ widened-added k (above_end rows k) row n.raised y
          (is_exact.complete n.raised (record { end = w.end; is_end = w.is_end; below = n.before }))
          n.is_raised (above_end-complete facts rows t k y n.after)
    ]

new_row-exact : (facts : List Known) (rows : List Row) → IsTable facts rows → (k : Known) → IsExact (facts ++ k ∷ []) (k, above_end rows k)
new_row-exact facts rows t k = record {
  sound = λ y h. EndsBelow-more facts (k ∷ []) k y (above_end-sound facts rows t k y h);
  complete = λ y w. above_end-complete facts rows t k y (EndsBelow-new facts k y w);
}

pub facts_of-widened : (k : Known) (more : List Term) (rows : List Row) → map (λ (row : Row). row.0) (map (widened k more) rows) ≡ map (λ (row : Row). row.0) rows
facts_of-widened k more [] = refl
facts_of-widened k more (row ∷ rows) = ap (λ ks. row.0 ∷ ks) (facts_of-widened k more rows)

pub facts_of-with_row : (rows : List Row) (k : Known) (more : List Term) → map (λ (row : Row). row.0) (with_row rows k more) ≡ map (λ (row : Row). row.0) rows ++ k ∷ []
facts_of-with_row rows k more =
    map-append (λ (row : Row). row.0) (map (widened k more) rows) ((k, more) ∷ [])
    ∙ ap (λ ks. ks ++ k ∷ []) (facts_of-widened k more rows)

with_fact-table : (facts : List Known) (rows : List Row) → IsTable facts rows → (k : Known) → IsTable (facts ++ k ∷ []) (with_fact rows k)
with_fact-table facts rows t k = record {
  facts_are = facts_of-with_row rows k (above_end rows k) ∙ ap (λ ks. ks ++ k ∷ []) t.facts_are;
  exact = λ row h. cases row (Has-append_cases (map (widened k (above_end rows k)) rows) ((k, above_end rows k) ∷ []) row h);
}
  where
    cases : (row : Row) → Has (map (widened k (above_end rows k)) rows) row ⊎ Has ((k, above_end rows k) ∷ []) row → IsExact (facts ++ k ∷ []) row
    cases row (inl h) = let w = Has-map_cases (widened k (above_end rows k)) rows row h in
        subst (λ (r : Row). IsExact (facts ++ k ∷ []) r) w.2 (widened-exact facts rows t k w.0 w.1)
    cases row (inr (inl e)) = subst (λ (r : Row). IsExact (facts ++ k ∷ []) r) e (new_row-exact facts rows t k)
    cases row (inr (inr f)) = absurd f

folded-table : (facts : List Known) (rows : List Row) → IsTable facts rows → (more : List Known) → IsTable (facts ++ more) (fold with_fact rows more)
folded-table facts rows t [] = subst (λ ks. IsTable ks rows) (sym (append-nil facts)) t
folded-table facts rows t (k ∷ more) =
    subst (λ ks. IsTable ks (fold with_fact (with_fact rows k) more)) (append_assoc facts (k ∷ []) more)
    (folded-table (facts ++ k ∷ []) (with_fact rows k) (with_fact-table facts rows t k) more)

-- the rows of a list of facts are its table
pub closed-table : (facts : List Known) → IsTable facts (closed facts)
closed-table facts = folded-table [] [] (record { facts_are = refl; exact = λ row h. absurd h }) facts

pub closed-push : (facts : List Known) (k : Known) → closed (facts ++ k ∷ []) ≡ with_fact (closed facts) k
closed-push facts k = fold-append with_fact [] facts (k ∷ [])

-- ---- questions

-- some term that a lies within passes a test
pub record PassesAbove (facts : List Known) (test : Term → Bool) (a : Term) : Type 0 where
  pub term : Term
  pub below : IsBelow facts a term
  pub passes : test term ≡ true

pub any_above-sound : (facts : List Known) (test : Term → Bool) (a : Term) → any_above (closed facts) test a ≡ true → PassesAbove facts test a
any_above-sound facts test a e = elim (or_cases (test a) (list_any (raises_to test a) (closed facts)) e) [
  | inl p ↦ record { term = a; below = same; passes = p }
  | inr p ↦ in_row (Has-from_list_any (raises_to test a) (closed facts) p)
]
  where
    in_row : ((row : Row) × Has (closed facts) row × (raises_to test a row ≡ true)) → PassesAbove facts test a
    in_row (row, h, q) =
        let both = and_parts (raises row.0 a) (list_any test row.1) q in
        let w = Has-from_list_any test row.1 both.1 in
        record {
          term = w.0;
          passes = w.2;
          below = raised-below facts (closed facts) (closed-table facts) a w.0
              (record { row = row; stands = h; raised = both.0; has = w.1 });
        }

pub any_above-complete : (facts : List Known) (test : Term → Bool) (a x : Term) → IsBelow facts a x → test x ≡ true → any_above (closed facts) test a ≡ true
any_above-complete facts test a x d p = elim (first_step d) [
  | inl e ↦ or_left (test a) (list_any (raises_to test a) (closed facts)) (subst (λ y. test y ≡ true) (sym e) p)
  | inr s ↦ let r = step-raised facts (closed facts) (closed-table facts) a x s in
      or_right (test a) (list_any (raises_to test a) (closed facts))
      (list_any-from_Has (raises_to test a) (closed facts) r.row r.stands
      (and_from (raises r.row.0 a) (list_any test r.row.1) r.raised (list_any-from_Has test r.row.1 x r.has p)))
]

pub is_below-sound : (facts : List Known) (a b : Term) → is_below (closed facts) a b ≡ true → IsBelow facts a b
is_below-sound facts a b e =
    let w = any_above-sound facts (alike b) a e in
    subst (λ y. IsBelow facts a y) (sym (same-terms b w.term w.passes)) w.below

pub is_below-complete : (facts : List Known) (a b : Term) → IsBelow facts a b → is_below (closed facts) a b ≡ true
is_below-complete facts a b d = any_above-complete facts (alike b) a b d (alike-refl b)

-- the form that computes answers exactly what is derivable
pub is_subregion-derivable : (facts : List Known) (a b : Term) → (is_subregion facts a b ≡ true) ↔ IsSubregion facts a b
is_subregion-derivable facts a b = (sound, complete)
  where
    sound : is_subregion facts a b ≡ true → IsSubregion facts a b
    sound e = let both = and_parts (is_certain b) (is_below (closed facts) a b) e in
        record { below = is_below-sound facts a b both.1; certain = both.0 }

    complete : IsSubregion facts a b → is_subregion facts a b ≡ true
    complete w = and_from (is_certain b) (is_below (closed facts) a b) w.certain (is_below-complete facts a b w.below)
