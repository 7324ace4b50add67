-- What is derived of a region's name, or of a part, from what is known: it lies within one region that began as no part, as it
-- does itself, or that region lies within another parameter's, in which the other one lies.
use Rattle.std.proofs.Common.{◌≡◌, ℕ, ◌<◌, List, Bool, true, false, cond, None, Option, Some, refl, sym, ap, ◌∙◌, subst, arith}
use Rattle.std.specs.Prelude.{nat_le, slice_get}
use Rattle.regent_tree.proofs.Members.{Has, Has-from_Contains}
use Rattle.regent_tree.specs.Facts.{is_subregion}
use Rattle.regent_tree.specs.declared.facts.Colour.{Colour}
use Rattle.regent_tree.specs.declared.facts.Known.{Known}
use Rattle.regent_tree.specs.declared.facts.Known.TheVariants.{PartOf, Within}
use Rattle.regent_tree.specs.declared.facts.Term.{Term}
use Rattle.regent_tree.specs.declared.facts.Term.TheVariants.{Name, Child}
use Rattle.machine_terms.specs.declared.value.RegionValue.{RegionValue}
use Rattle.machine_terms.specs.declared.value.Value.{Value}
use Rattle.machine_terms.specs.Pointers.{region_in}
use Rattle.constraint_check.specs.Derivations.{IsBelow, same, told_within, through, child, variable}
use Rattle.constraint_check.proofs.Table.{is_subregion-derivable}
use Rattle.fit_rules.specs.Shapes.{Among, World}
use Rattle.fit_rules.specs.Marks.{Fact, Holds, in_slot, lies, LiesAt, LiesIn, Mark, Suits}
use Rattle.fit_laws.proofs.Lookup.{each_among}
use Rattle.sound_code.proofs.Grounds.{high_top, IsTold, low_top, tells_begun, tells_within, top_in}

pub top_none : (params j : ℕ) → top_in params (λ i. None) j ≡ j
top_none params j = of (nat_le params j)
  where
    of : (b : Bool) → cond b j j ≡ j
    of true = refl
    of false = refl

-- within which region, that began as no part, what a term stands for lies
abbrev pub Stands : ℕ → (ℕ → Option (ℕ × ℕ)) → List Known → Term → ℕ → Type 0
Stands params up known (Name i) k = top_in params up i ≡ k
Stands params up known (Child p c) k = (r : ℕ) (d : Bool) → Has known (PartOf p r d) → top_in params up r ≡ k

module _ (n params : ℕ) (up : ℕ → Option (ℕ × ℕ)) (ks : List Fact) (m : Mark) (known : List Known) where
  -- a parameter's region lies within that of another one
  abbrev Inside : ℕ → ℕ → Type 0
  Inside i j = (x : World) (vs st : List Value) → Suits x n m vs st → (r : RegionValue) →
      region_in (slice_get vs i) ≡ Some r → LiesAt vs r (in_slot j)

  -- of two regions that began as no parts: they are the same, or both are parameters'
  pub data Over (k u : ℕ) : Type 0 where
    over_same : k ≡ u → Over k u
    over_inside : k < params → u < params → Inside k u → IsBelow known (Name k) (Name u) → Over k u

  over_through : (k u v : ℕ) → Over k u → Over u v → Over k v
  over_through k u v (over_same e) o = subst (λ n. Over n v) (sym e) o
  over_through k u v (over_inside low high inside below) (over_same e) = subst (Over k) e (over_inside low high inside below)
  over_through k u v (over_inside low mid inside below) (over_inside lower high outside above) = over_inside low high
      (λ x vs st q r e.
      let one = inside x vs st q r e in
      let two = outside x vs st q one.other one.at in record {
        other = two.other;
        at = two.at;
        inside = (one.inside.0 ∙ two.inside.0, λ p y. two.inside.1 p (one.inside.1 p y));
      }) (through below above)

  pub record Reaches (k : ℕ) (b : Term) : Type 0 where
    pub upper : ℕ
    pub stands : Stands params up known b upper
    pub over : Over k upper

  module _ (facts : (k : Fact) → Among ks k → Among m.facts k) (told : (k : Known) → Has known k → IsTold params up ks k)
      (begins : (i p : ℕ) (c : Colour) → Has known (Within (Name i) (Child p c)) → (r : ℕ) (d : Bool) → Has known (PartOf p r d) →
      up i ≡ Some (r, top_in params up r)) where
    of_told : (a b : Term) → IsTold params up ks (Within a b) → IsBelow known a b → Has known (Within a b) → (k : ℕ) → Stands params up known a k → Reaches k b
    of_told _ _ (tells_within i j li lj h) below has k s = record {
      upper = j;
      stands = low_top params up j lj;
      over = subst (λ n. Over n j) (sym (low_top params up i li) ∙ s) (over_inside li lj
          (λ x vs st q r e. each_among (λ y. Holds y vs) m.facts (lies (in_slot i) (in_slot j)) (facts _ h) q.facts r e) below);
    }
    of_told _ _ (tells_begun i p q c high e) below has k s = record {
      upper = k;
      stands = λ r d h. sym (high_top params up i (Some (r, top_in params up r)) high (begins i p c has r d h)) ∙ s;
      over = over_same refl;
    }

    pub reach : {a b : Term} → IsBelow known a b → (k : ℕ) → Stands params up known a k → Reaches k b
    reach same k s = record { upper = k; stands = s; over = over_same refl }
    reach (told_within {a} {b} h) k s = let has = Has-from_Contains known (Within a b) h in of_told a b (told (Within a b) has) (told_within h) has k s
    reach (through h l) k s =
        let one = reach h k s in
        let two = reach l one.upper one.stands in
        record { upper = two.upper; stands = two.stands; over = over_through k one.upper two.upper one.over two.over }
    reach (child {p = p} {r = r} {disjoint = d} h) k s =
        record { upper = k; stands = s r d (Has-from_Contains known (PartOf p r d) h); over = over_same refl }
    reach (variable {s = i} {p = p} {c = c} h) k s =
        let has = Has-from_Contains known (Within (Name i) (Child p c)) h in of_told (Name i) (Child p c) (told (Within (Name i) (Child p c)) has) (variable h) has k s

    pub reaches : (a b : Term) (k : ℕ) → Stands params up known a k → is_subregion known a b ≡ true → Reaches k b
    reaches a b k s e = reach ((is_subregion-derivable known a b).0 e).below k s

  -- ---- so of arguments

  pub record IsAbove (x : World) (r : RegionValue) (j : ℕ) : Type 0 where
    pub other : RegionValue
    pub at : region_in (slice_get x.args j) ≡ Some other
    pub inside : LiesIn r other
    pub low : j < params

  pub above : params ≡ n → (k j : ℕ) → k < params → Over k j → (x : World) (vs st : List Value) → Suits x n m vs st →
      (r : RegionValue) → region_in (slice_get x.args k) ≡ Some r → IsAbove x r j
  above ep k j low (over_same e) x vs st h r er = record {
    other = r;
    at = ap (λ y. region_in (slice_get x.args y)) (sym e) ∙ er;
    inside = (refl, λ p y. y);
    low = omega (arith, e, low);
  }
  above ep k j low (over_inside _ high inside below) x vs st h r er =
      let w = inside x vs st h r (h.args k (omega (arith, low, ep)) ∙ er) in record {
        other = w.other;
        at = sym (h.args j (omega (arith, high, ep))) ∙ w.at;
        inside = w.inside;
        low = high;
      }
