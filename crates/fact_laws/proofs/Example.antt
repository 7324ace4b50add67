-- The example's facts hold of its regions.
use Rattle.std.proofs.Common.{arith, false, true, sym, ◌||◌, ◌==◌, ◌∙◌, refl, subst, ◌≡◌, ◌≢◌, ◌⊎◌, inl, inr}
use Rattle.std.proofs.lemmas.Bool.{eqb-true, or_cases}
use Rattle.std.specs.Prelude.{[], ◌∷◌, ℕ, ℤ, pos, negsuc, zero, suc}
use Rattle.plain_values.specs.Points.{has}
use Rattle.regent_tree.proofs.Members.{Has, Has-from_Contains}
use Rattle.regent_tree.specs.Values.{Region}
use Rattle.regent_tree.specs.declared.facts.Colour.TheVariants.{Constant}
use Rattle.regent_tree.specs.declared.facts.Known.{Known}
use Rattle.regent_tree.specs.declared.facts.Term.TheVariants.{Child, Name}
use Rattle.fact_laws.specs.Example.{ExampleFactsHold, ExampleIsAnswered, example_facts, example_interpretation, example_region, halves}
use Rattle.fact_laws.specs.Regions.{AllLieWithinSome, Holds, IsNew, LiesWithin, SharesNoPoint, child_at}
use Rattle.fact_laws.proofs.Facts.{other_roots_share_no_point}

one_of_two : (a b n : ℕ) → has (a ∷ b ∷ []) n ≡ true → (n ≡ a) ⊎ (n ≡ b)
one_of_two a b n e = elim (or_cases (n == a) ((n == b) || false) e) [
  | inl f ↦ inl (eqb-true n a f)
  | inr f ↦ elim (or_cases (n == b) false f) [
    | inl g ↦ inr (eqb-true n b g)
    | inr g ↦ absurd cc
  ]
]

-- each of two numbers is a point of a region
two_within : (a b : ℕ) (r : Region) → has r.points a ≡ true → has r.points b ≡ true → r.root ≡ 0 →
    LiesWithin (record { root = 0; points = a ∷ b ∷ [] }) r
two_within a b r x y same root n i = (
  same ∙ i.0,
  elim (one_of_two a b n i.1) [
    | inl e ↦ subst (λ k. has r.points k ≡ true) (sym e) x
    | inr e ↦ subst (λ k. has r.points k ≡ true) (sym e) y
  ],
)

half_within : (c : ℤ) → LiesWithin (child_at halves c) (example_region 0)
half_within (pos zero) = two_within 0 1 (example_region 0) refl refl refl
half_within (pos (suc zero)) = two_within 2 3 (example_region 0) refl refl refl
half_within (pos (suc (suc c))) = λ root n i. absurd cc
half_within (negsuc c) = λ root n i. absurd cc

halves_apart : SharesNoPoint (child_at halves (pos 0)) (child_at halves (pos 1))
halves_apart root n i j = elim (one_of_two 0 1 n i.1) [
  | inl e ↦ let there = subst (λ k. has (2 ∷ 3 ∷ []) k ≡ true) e j.1 in absurd cc
  | inr e ↦ let there = subst (λ k. has (2 ∷ 3 ∷ []) k ≡ true) e j.1 in absurd cc
]

children_apart : (c d : ℤ) → c ≢ d → SharesNoPoint (child_at halves c) (child_at halves d)
children_apart (pos zero) (pos zero) ne = absurd (ne refl)
children_apart (pos zero) (pos (suc zero)) ne = halves_apart
children_apart (pos zero) (pos (suc (suc d))) ne = λ root n i j. absurd cc
children_apart (pos zero) (negsuc d) ne = λ root n i j. absurd cc
children_apart (pos (suc zero)) (pos zero) ne = λ root n i j. halves_apart root n j i
children_apart (pos (suc zero)) (pos (suc zero)) ne = absurd (ne refl)
children_apart (pos (suc zero)) (pos (suc (suc d))) ne = λ root n i j. absurd cc
children_apart (pos (suc zero)) (negsuc d) ne = λ root n i j. absurd cc
children_apart (pos (suc (suc c))) d ne = λ root n i j. absurd cc
children_apart (negsuc c) d ne = λ root n i j. absurd cc

named_half : AllLieWithinSome example_interpretation (Name 2) (Child 1 (Constant (pos 0)))
named_half r stands = record {
  outer = child_at halves (pos 0);
  stands = record { number = pos 0; is_colour = refl; is_child = refl };
  lies = subst (λ x. LiesWithin x (child_at halves (pos 0))) stands (λ root n i. i);
}

made_last : IsNew example_interpretation 3
made_last zero h = other_roots_share_no_point (example_region 3) (example_region 0) (λ e. absurd cc)
made_last (suc zero) h = other_roots_share_no_point (example_region 3) (example_region 1) (λ e. absurd cc)
made_last (suc (suc zero)) h = other_roots_share_no_point (example_region 3) (example_region 2) (λ e. absurd cc)
made_last (suc (suc (suc r))) h = absurd (omega (arith, h))

each_holds : (k : Known) → Has example_facts k → Holds example_interpretation k
each_holds k (inl e) =
    subst (Holds example_interpretation) e (record { within = half_within; apart = λ d. children_apart })
each_holds k (inr (inl e)) = subst (Holds example_interpretation) e named_half
each_holds k (inr (inr (inl e))) = subst (Holds example_interpretation) e made_last
each_holds k (inr (inr (inr h))) = absurd h

pub example_facts_hold : ExampleFactsHold
example_facts_hold k h = each_holds k (Has-from_Contains example_facts k h)

pub example_is_answered : ExampleIsAnswered
example_is_answered = record { half_within = refl; halves_apart = refl; made_apart = refl }
