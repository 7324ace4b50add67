-- What stands for a region of a call lies within a region that began as no part. What is derived of two terms holds of what stands for
-- them: one lies within the other, where that began as no part, or they share no point.
use Rattle.std.proofs.Common.{◌≡◌, inl, inr, ℕ, List, Bool, true, Some, refl, sym, ap, ◌∙◌, subst, arith, None, ◌≤◌, Option}
use Rattle.std.specs.Prelude.{length, slice_get, take}
use Rattle.std.proofs.lemmas.Option.{same_Some}
use Rattle.plain_values.specs.Points.{has}
use Rattle.regent_tree.proofs.Members.{Has}
use Rattle.regent_tree.specs.Facts.{is_subregion}
use Rattle.regent_tree.specs.Syntax.{TaskTree}
use Rattle.regent_tree.specs.declared.facts.Colour.{Colour}
use Rattle.regent_tree.specs.declared.facts.Known.{Known}
use Rattle.regent_tree.specs.declared.facts.Known.TheVariants.{PartOf, Within}
use Rattle.regent_tree.specs.declared.facts.Term.{Term}
use Rattle.regent_tree.specs.declared.facts.Term.TheVariants as term
use Rattle.regent_tree.specs.declared.typing.Bound.{Bound}
use Rattle.regent_tree.specs.declared.typing.StaticType.{StaticType}
use Rattle.task_code.specs.declared.code.TaskCode.{TaskCode}
use Rattle.machine_terms.specs.declared.value.RegionValue.{RegionValue}
use Rattle.machine_terms.specs.declared.value.Value.{Value}
use Rattle.constraint_check.proofs.Apartness.{are_disjoint-derivable}
use Rattle.fact_laws.specs.Regions.{SharesNoPoint}
use Rattle.code_rules.specs.Slots.{Where}
use Rattle.code_laws.specs.Simple.{a_region_type, IsRegion, term_in}
use Rattle.code_laws.specs.Steps.{Forms}
use Rattle.fit_rules.specs.Shapes.{Among, holding, Is, KnowsRoots, World}
use Rattle.fit_rules.specs.Marks.{around, Fact, Holds, LiesIn, Mark, Suits}
use Rattle.marked_code.proofs.Placed.{below}
use Rattle.sound_code.specs.Named.{AreNamed, slot_at}
use Rattle.sound_code.specs.Ways.{by_rules, opening_facts, shape_in, origin_in, Tops}
use Rattle.sound_code.proofs.Grounds.{HasFacts, Kept, OfType, begins_under, HasSaid, high_top, low_top, top_in, top_whole}
use Rattle.sound_code.proofs.Handed.{IsOf, region_numbered, given_from, named_of, of_number}
use Rattle.sound_code.proofs.Interpreting.{apart_by_number, meant, region_at}
use Rattle.sound_code.proofs.Lying.{above, Over, over_inside, over_same, reaches, Stands}
use Rattle.fit_laws.proofs.Lookup.{each_among}
use Rattle.regent_tree.specs.declared.typing.StaticType.TheVariants.{Region as region_type}
use Rattle.machine_terms.specs.Pointers.{region_in}
use Rattle.constraint_check.specs.Derivations.{IsApart}
use Rattle.sound_code.proofs.Under.{lies_through, LiesUnder, under_in}

-- whatever slots stay
knows_around : (b : World) (vs : List Value) → KnowsRoots b → KnowsRoots (holding b vs)
knows_around b vs h = record {
  own_there = h.own_there;
  args_there = h.args_there;
  last_own = h.last_own;
  one_number = h.one_number;
  args_other = h.args_other;
}

abbrev pub IsNamed : Term → Type 0
IsNamed (term.Name i) = Unit {0}
IsNamed (term.Child p c) = ⊥

-- which types are of regions that began as no parts
abbrev pub BeganWhole : ℕ → (ℕ → Option (ℕ × ℕ)) → StaticType → Type 0
BeganWhole params up (region_type k sp args (term.Name i)) = params ≤ i → up i ≡ None
BeganWhole params up (region_type k sp args (term.Child p c)) = ⊥
BeganWhole params up u = Unit {0}

module _ (tops : Tops) (task : TaskTree) (t : TaskCode) (w : Where) (kept : Kept t tops task w.tree w.params w.scope) (m : Mark)
    (facts : HasFacts (by_rules tops task) w.tree m.facts) (ep : w.params ≡ t.params) (named : AreNamed (by_rules tops task) w.params m.slots w.scope.names)
    (fixed : m.fixed ≡ slot_at w.params (length w.scope.names)) (base : World) (vs st : List Value) (knows : KnowsRoots base) (suits : Suits base t.params m vs st) where
  -- what stands around the arguments
  abbrev x : World
  x = around base m vs

  abbrev ks : List Fact
  ks = opening_facts (by_rules tops task) w.tree task

  abbrev known : List Known
  known = w.scope.known

  abbrev up : ℕ → Option (ℕ × ℕ)
  up = tops task

  abbrev begins : (i p : ℕ) (c : Colour) → Has known (Within (term.Name i) (term.Child p c)) → (r : ℕ) (d : Bool) → Has known (PartOf p r d) →
      up i ≡ Some (r, top_in w.params up r)
  begins = begins_under t tops task w.tree w.params w.scope kept

  -- Where an argument lies, by its type: within a region that began as no part. It is that one, where it began as none
  -- itself.
  pub record IsStood (forms : Forms) (u : StaticType) (r : RegionValue) : Type 0 where
    pub number : ℕ
    pub under : LiesUnder x w.params number r
    pub stands : Stands w.params up known (term_in u) number
    pub whole : w.params ≤ number → up number ≡ None
    pub exact : BeganWhole w.params up u → IsOf x w.params number r

  -- a region of a name
  pub named_stood : (forms : Forms) (b : Bound) → Has w.scope.names b → (u : StaticType) → b.static_type ≡ u → IsRegion u → OfType w.params b.place u → (v : Value) →
      Is x (shape_in (by_rules tops task) w.params u) v → (r : RegionValue) → region_in (Some v) ≡ Some r → IsStood forms u r
  named_stood forms b has _ same (a_region_type k sp args (term.Name i)) o v h r er =
      let from = given_from x sp (origin_in (by_rules tops task) w.params (term.Name i)) v h r er in
      let said = subst (HasSaid w.params known) same (kept.said b has) in record {
        number = top_in w.params up i;
        under = under_in tops task w.params i x r from;
        stands = refl;
        whole = top_whole t tops task w.tree w.params w.scope kept i said;
        exact = λ began. subst (λ n. IsOf x w.params n r) (sym (own_top i began)) (named_of tops task x w.params i r began from);
      }
    where
      own_top : (i : ℕ) → (w.params ≤ i → up i ≡ None) → top_in w.params up i ≡ i
      own_top i began = elim (below i w.params) [ inl low ↦ low_top w.params up i low | inr high ↦ high_top w.params up i None high (began high) ]
  named_stood forms b has _ same (a_region_type k sp args (term.Child p c)) o v h r er = absurd o

  -- what is derived of two regions that began as no parts holds of them
  pub lie_by_over : (i j : ℕ) (p q : RegionValue) → IsOf x w.params i p → IsOf x w.params j q → Over t.params w.params up ks m known i j → LiesIn p q
  lie_by_over i j p q op oq (over_same one) = elim (below i w.params) [
    | inl low ↦
        let same : p ≡ q = same_Some p q (sym (op.taken low) ∙ ap (λ n. region_in (slice_get x.args n)) one ∙ oq.taken (omega (arith, low, one))) in
        subst (LiesIn p) same (refl, λ n y. y)
    | inr high ↦
        let mine = op.mine high in
        let its = oq.mine (omega (arith, high, one)) in
        let root : p.root.0 ≡ q.root.0 = same_Some p.root.0 q.root.0 (sym mine.1 ∙ ap x.last one ∙ its.1) in
        let points : p.points ≡ q.points = mine.0.1 ∙ ap x.points root ∙ sym its.0.1 in
        (root, λ n h. subst (λ xs. has xs n ≡ true) points h)
  ]
  lie_by_over i j p q op oq (over_inside low high inside below) =
      let o = above t.params w.params up ks m known ep i j low (over_inside low high inside below) base vs st suits p (op.taken low) in
      subst (LiesIn p) (same_Some o.other q (sym o.at ∙ oq.taken o.low)) o.inside

  -- where one is derived to lie within another that began as no part, it lies there
  pub stood_within : (forms : Forms) (u v : StaticType) (r q : RegionValue) → IsRegion v → IsStood forms u r → IsStood forms v q → BeganWhole w.params up v →
      is_subregion known (term_in u) (term_in v) ≡ true → LiesIn r q
  stood_within forms u _ r q (a_region_type k sp args (term.Name j)) su sv began e =
      let to = reaches t.params w.params up ks m known facts kept.known begins (term_in u) (term.Name j) su.number su.stands e in
      let same : to.upper ≡ sv.number = sym to.stands ∙ sv.stands in
      let lies = lie_by_over su.number sv.number su.under.whole q (of_number x w.params su.number su.under.whole su.under.from) (sv.exact began)
      (subst (Over t.params w.params up ks m known su.number) same to.over) in
      lies_through r su.under.whole q su.under.inside lies
  stood_within forms u _ r q (a_region_type k sp args (term.Child p c)) su sv began e = absurd began

  pub apart_numbers : (i j : ℕ) (p q : RegionValue) → (w.params ≤ i → up i ≡ None) → (w.params ≤ j → up j ≡ None) → IsOf x w.params i p → IsOf x w.params j q →
      IsApart known (term.Name i) (term.Name j) → SharesNoPoint (meant p) (meant q)
  apart_numbers i j p q wi wj op oq e =
      subst (λ r. SharesNoPoint r (meant q)) (region_numbered x w.params up i p wi op)
      (subst (SharesNoPoint (region_at x w.params up i)) (region_numbered x w.params up j q wj oq)
      (apart_by_number x w.params up vs (knows_around base (take m.fixed vs) knows) (λ n l. suits.args n (omega (arith, l, ep))) ks held known kept.known i j
      ((are_disjoint-derivable known (term.Name i) (term.Name j)).1 e)))
    where
      held : (k : Fact) → Among ks k → Holds k vs
      held k h = each_among (λ f. Holds f vs) m.facts k (facts k h) suits.facts

  -- where two lie that share no point, they share none
  pub stood_apart : (forms : Forms) (u v : StaticType) (r q : RegionValue) (su : IsStood forms u r) (sv : IsStood forms v q) → IsApart known (term.Name su.number) (term.Name sv.number) →
      SharesNoPoint (meant r) (meant q)
  stood_apart forms u v r q su sv e =
      let a = su.under in
      let b = sv.under in
      let wholes = apart_numbers su.number sv.number a.whole b.whole su.whole sv.whole (of_number x w.params su.number a.whole a.from)
      (of_number x w.params sv.number b.whole b.from) e in
      λ root point i j. wholes root point (sym a.inside.0 ∙ i.0, a.inside.1 point i.1) (sym b.inside.0 ∙ j.0, b.inside.1 point j.1)
