-- What is derived from what is known holds where what is known does: by induction on the derivation.
use Rattle.std.proofs.Common.{arith, List, true, refl, ap, sym, subst, ◌≡◌, ◌∙◌}
use Rattle.std.specs.Prelude.{[], ◌∷◌, IsTrue, get_or, length, suc, zero, ℕ, ◌≤◌}
use Rattle.plain_values.specs.Points.{has}
use Rattle.regent_tree.specs.Facts.{are_disjoint, is_certain, is_subregion}
use Rattle.regent_tree.specs.Values.{Region}
use Rattle.regent_tree.specs.declared.facts.Colour.TheVariants.{Constant, Loop, Unknown}
use Rattle.regent_tree.specs.declared.facts.Known.{Known}
use Rattle.regent_tree.specs.declared.facts.Term.{Term}
use Rattle.regent_tree.specs.declared.facts.Term.TheVariants.{Name, Child}
use Rattle.constraint_check.specs.Derivations.{IsBelow, same, told_within, through, child, variable, IsApart, told_apart, turned, children, inside, made, IsSubregion}
use Rattle.constraint_check.proofs.Table.{is_subregion-derivable}
use Rattle.constraint_check.proofs.Apartness.{are_disjoint-derivable}
use Rattle.fact_laws.specs.Laws.{AnswersHold, DerivedRelationsHold, LackingColoursAreEmpty, OtherRootsShareNoPoint}
use Rattle.fact_laws.specs.Regions.{AllHold, AllLieWithinEach, AllLieWithinSome, AreApart, Interpretation, LiesWithin, SharesNoPoint, StandsFor, child_at}

pub other_roots_share_no_point : OtherRootsShareNoPoint
other_roots_share_no_point a b differ root point x y = differ (x.0 ∙ sym y.0)

module _ (m : Interpretation) (facts : List Known) (hold : AllHold m facts) where
  pub below_holds : {a b : Term} → IsBelow facts a b → AllLieWithinSome m a b
  below_holds same r stands = record { outer = r; stands = stands; lies = λ root n i. i }
  below_holds (told_within h) r stands = hold _ h r stands
  below_holds (through d e) r stands =
      let first = below_holds d r stands in
      let second = below_holds e first.outer first.stands in
      record { outer = second.outer; stands = second.stands; lies = λ root n i. second.lies root n (first.lies root n i) }
  below_holds (child {p = p} {r = parent} h) r stands = record {
    outer = m.region parent;
    stands = refl;
    lies = subst (λ x. LiesWithin x (m.region parent)) stands.is_child ((hold _ h).within stands.number);
  }
  below_holds (variable h) r stands = hold _ h r stands

  pub apart_holds : {a b : Term} → IsApart facts a b → AreApart m a b
  apart_holds (told_apart h) r t x y = hold _ h r t x y
  apart_holds (turned d) r t x y = λ root n i j. apart_holds d t r y x root n j i
  apart_holds (children {p = p} {i = i} {j = j} h ne) r t x y =
      subst (λ u. SharesNoPoint u t) x.is_child (subst (λ u. SharesNoPoint (child_at (m.partition p) x.number) u) y.is_child
      ((hold _ h).apart refl x.number y.number (λ e. ne (x.is_colour ∙ e ∙ sym y.is_colour))))
  apart_holds (inside d e) r t x y =
      let first = below_holds d r x in
      λ root n i j. apart_holds e first.outer t first.stands y root n (first.lies root n i) j
  apart_holds (made {s = s} {r = earlier} h lt) r t x y =
      subst (λ u. SharesNoPoint u t) x (subst (λ u. SharesNoPoint (m.region s) u) y (hold _ h earlier lt))

pub derived_relations_hold : DerivedRelationsHold
derived_relations_hold m facts hold a b =
    record { within = λ d. below_holds m facts hold d; apart = λ d. apart_holds m facts hold d }

-- a term that is certain stands for one region
pub one_region : (m : Interpretation) (t : Term) → IsTrue (is_certain t) → (r u : Region) → StandsFor m t r → StandsFor m t u → r ≡ u
one_region m (Name i) c r u x y = sym x ∙ y
one_region m (Child p (Constant z)) c r u x y =
    sym x.is_child ∙ ap (child_at (m.partition p)) (sym x.is_colour ∙ y.is_colour) ∙ y.is_child
one_region m (Child p (Loop i)) c r u x y =
    sym x.is_child ∙ ap (child_at (m.partition p)) (sym x.is_colour ∙ y.is_colour) ∙ y.is_child
one_region m (Child p Unknown) c r u x y = absurd cc

pub subregion_holds : (m : Interpretation) (facts : List Known) → AllHold m facts → (a b : Term) → IsSubregion facts a b → AllLieWithinEach m a b
subregion_holds m facts hold a b h r outer x y =
    let found = below_holds m facts hold h.below r x in
    subst (LiesWithin r) (one_region m b h.certain found.outer outer found.stands y) found.lies

pub is_subregion_holds : (m : Interpretation) (facts : List Known) → AllHold m facts → (a b : Term) → is_subregion facts a b ≡ true → AllLieWithinEach m a b
is_subregion_holds m facts hold a b e = subregion_holds m facts hold a b ((is_subregion-derivable facts a b).0 e)

pub are_disjoint_holds : (m : Interpretation) (facts : List Known) → AllHold m facts → (a b : Term) → are_disjoint facts a b ≡ true → AreApart m a b
are_disjoint_holds m facts hold a b e = apart_holds m facts hold ((are_disjoint-derivable facts a b).0 e)

pub answers_hold : AnswersHold
answers_hold m facts hold a b =
    record { subregion = is_subregion_holds m facts hold a b; disjoint = are_disjoint_holds m facts hold a b }

-- ---- colours that a partition lacks

past_end : (sets : List (List ℕ)) (colour : ℕ) → length sets ≤ colour → get_or sets colour [] ≡ []
past_end [] zero h = refl
past_end [] (suc c) h = refl
past_end (s ∷ sets) zero h = absurd (omega (arith, h))
past_end (s ∷ sets) (suc c) h = past_end sets c (omega (arith, h))

pub lacking_colours_are_empty : LackingColoursAreEmpty
lacking_colours_are_empty p colour root point h i =
    let found = subst (λ (ns : List ℕ). has ns point ≡ true) (past_end p.sets colour h) i.1 in
    absurd cc
