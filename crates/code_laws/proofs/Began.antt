-- A region that began as a part lies within those within which its whole lies.
use Rattle.std.proofs.Common.{◌≡◌, ℕ, ◌<◌, inl, inr, Option, Some, None, refl, sym, ap, ◌∙◌, subst, arith, ⊎_elim}
use Rattle.std.specs.Prelude.{get_or}
use Rattle.regent_tree.specs.Running.{Here, State}
use Rattle.regent_tree.specs.Scopes.{bound_as}
use Rattle.regent_tree.specs.Values.{Region, Value, a_region, region_of}
use Rattle.regent_tree.specs.declared.facts.Term.{Term}
use Rattle.regent_tree.specs.declared.facts.Term.TheVariants as term
use Rattle.regent_tree.specs.declared.typing.Bound.{Bound}
use Rattle.regent_tree.specs.declared.typing.StaticType.{StaticType}
use Rattle.machine_terms.specs.declared.order.Instance.{Instance}
use Rattle.code_laws.specs.Arguments.{BeganWithin, HasBegunWithin, IsGivenPart, IsPart, LiesBelow}
use Rattle.code_laws.specs.Simple.{IsRegion, term_in}
use Rattle.code_laws.specs.Standing.{Agrees, AreUnder, Aside, IsInside, IsUnder, SlotsFit, nothing, where_of}
use Rattle.code_laws.specs.Steps.{Setting, Taking}
use Rattle.code_laws.specs.Taking.{AreParts, BeginsWhole, BeginsWithin, IsFresh, IsHad, IsHadBy, IsSubregion, LiesUp, given_region, pairs_taken, up_part}
use Rattle.code_laws.proofs.Pointing.{numbered}
use Rattle.code_laws.proofs.Reaching.{part_lies, region_had}
use Rattle.code_laws.proofs.Under.{lies_up, sub_itself, sub_through}

abbrev number_in : Term → ℕ
number_in (term.Name i) = i
number_in (term.Child p c) = 0

-- a region that is made names none that began as a part
pub whole_fresh : (o : Option Taking) (own : ℕ) → BeginsWhole o own → IsFresh o (term.Name own)
whole_fresh None own w = tt
whole_fresh (Some y) own w = w.0

-- a part is had as its whole is
pub part_had : (x : Setting) (o : Option Taking) (own r : ℕ) (q p : Region) → BeginsWithin o own r → IsSubregion q p → IsHadBy o x (term.Name r) p →
    IsHadBy o x (term.Name own) q
part_had x None own r q p begins sub had = let root = sub.0 in omega (arith, had, root)
part_had x (Some y) own r q p begins sub (inl is) = let root = sub.0 in let low = is.0 in inl (omega (arith, low, root), begins.0)
part_had x (Some y) own r q p begins sub (inr g) = inr (record {
  number = own;
  named = refl;
  place = g.place;
  up = up_part own r g.place begins.0 begins.1 (subst (λ n. LiesUp y n g.place) (sym (ap number_in g.named)) g.up);
  below = g.below;
  within = sub_through q p (given_region x.args g.place) sub g.within;
  is = λ low. let behind = begins.0 in absurd (omega (arith, low, behind));
})

module _ (x : Setting) (params slots : ℕ) (fit : SlotsFit x slots) {deep : ℕ} (aside : Aside deep) where
  -- what a parameter's name stands for is its argument
  given_as : (y : Taking) (i : ℕ) (q : Region) → i < y.params → IsHadBy (Some y) x (term.Name i) q → given_region x.args i ≡ q
  given_as y i q low (inl own) = absurd (omega (arith, low, own.1))
  given_as y i q low (inr g) =
      let same : i ≡ g.number = ap number_in g.named in ap (given_region x.args) same ∙ g.is (omega (arith, low, same))

  pub part_given : (y : Taking) (r u : Term) (q p : Region) → x.forms.takes ≡ Some y → IsPart y r u → IsHad x r q → IsHad x u p →
      AreParts x.args (pairs_taken x.forms.takes) → IsSubregion q p
  part_given y (term.Name i) (term.Name j) q p e is had there parts =
      subst (λ a. IsSubregion a p) (given_as y i q is.0 (subst (λ o. IsHadBy o x (term.Name i) q) e had))
      (subst (IsSubregion (given_region x.args i)) (given_as y j p is.1 (subst (λ o. IsHadBy o x (term.Name j) p) e there))
      (part_lies y x.args i j (subst (λ o. AreParts x.args (pairs_taken o)) e parts) is.2))
  part_given y (term.Name i) (term.Child _ _) q p e is had there parts = absurd is
  part_given y (term.Child _ _) u q p e is had there parts = absurd is

  -- the regions of a name, and of what it began within
  pub began_lies : (h : Here) (s : State) (i : Instance) (y : Taking) (t : StaticType) (v : Value) (b : Bound) (q p : Region) → x.forms.takes ≡ Some y → IsRegion t →
      v ≡ a_region q → get_or s.names b.place nothing ≡ a_region p → IsHad x (term_in b.static_type) p → IsUnder x.forms.takes h.scope.names s.names t v →
      BeganWithin y (where_of params h) (term_in t) b → Agrees x params slots aside h s i → IsSubregion q p
  began_lies h s i y t v b q p e region first second there under is g =
      let n = (subst (λ o. IsUnder o h.scope.names s.names t v) e under).0 is.number is.whole q region is.named is.behind is.began first in
      let up = lies_up y h.scope.next h.scope.names s.names is.numbers (subst (λ o. AreUnder o h.scope.names s.names) e g.under) is.whole is.upper is.up n.whole
      (record { is = n.is; named = n.named }) in
      let top = bound_as h.scope.names is.upper in
      let had : IsHad x (term.Name is.upper) up.0 = subst (λ r. IsHad x r up.0) up.1.named
      (region_had x s.store top.static_type up.0 up.1.is.region
      (subst (IsInside x s.store top.static_type) up.1.is.value (numbered (IsInside x s.store) h.scope.names s.names is.upper g.inside_store up.1.is.region).0)) in
      sub_through q n.whole p n.within (sub_through n.whole up.0 p up.2 (⊎_elim
      (λ same. subst (IsSubregion up.0)
      (ap region_of (sym up.1.is.value ∙ ap (λ k. get_or s.names k nothing) same ∙ second)) (sub_itself up.0))
      (λ part. part_given y (term.Name is.upper) (term_in b.static_type) up.0 p e part had there g.framed.parts) is.ends))

  -- the regions that two bindings have
  pub lies_below : (h : Here) (s : State) (i : Instance) (a b : Bound) (q p : Region) → get_or s.names a.place nothing ≡ a_region q →
      get_or s.names b.place nothing ≡ a_region p → IsRegion a.static_type → IsHad x (term_in a.static_type) q → IsHad x (term_in b.static_type) p →
      IsUnder x.forms.takes h.scope.names s.names a.static_type (get_or s.names a.place nothing) →
      LiesBelow x.forms.takes (where_of params h) a b → Agrees x params slots aside h s i → IsSubregion q p
  lies_below h s i a b q p first second region had there under (inl same) g =
      subst (IsSubregion q) (ap region_of (sym first ∙ ap (λ k. get_or s.names k nothing) same ∙ second)) (sub_itself q)
  lies_below h s i a b q p first second region had there under (inr (inl part)) g = by x.forms.takes refl part
    where
      by : (o : Option Taking) → x.forms.takes ≡ o → IsGivenPart o (term_in a.static_type) (term_in b.static_type) → IsSubregion q p
      by None e is = absurd is
      by (Some y) e is = part_given y (term_in a.static_type) (term_in b.static_type) q p e is had there g.framed.parts
  lies_below h s i a b q p first second region had there under (inr (inr began)) g = by x.forms.takes refl began
    where
      by : (o : Option Taking) → x.forms.takes ≡ o → HasBegunWithin o (where_of params h) (term_in a.static_type) b → IsSubregion q p
      by None e is = absurd is
      by (Some y) e is = began_lies h s i y a.static_type (get_or s.names a.place nothing) b q p e region first second there under is g
