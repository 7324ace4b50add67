-- What is known of slots stays where a slot is set of which it doesn't speak, and where slots are put behind.
use Rattle.std.proofs.Common.{◌≡◌, ℕ, zero, suc, ℤ, ◌<◌, ◌≤◌, List, [], ◌∷◌, Some, refl, sym, ap, ◌∙◌, subst, arith}
use Rattle.std.specs.Prelude.{slice_get, slice_set, length}
use Rattle.machine_terms.specs.declared.value.RegionValue.{RegionValue}
use Rattle.machine_terms.specs.declared.value.Value.{Value}
use Rattle.machine_terms.specs.Pointers.{region_in}
use Rattle.machine_terms.specs.Regions.{partition_in}
use Rattle.fit_rules.specs.Shapes.{Each, HasPoint, IsPlain, Shape, World, Is, Are, are_more}
use Rattle.fit_rules.specs.Marks.{AtMost, Colour, the_colour, colour_in, point_in, any_colour, Fact, lies, apart, parted, counts, HasColour, HasNumber, Holds, IsAt, Mark, Spot, in_slot, child_in, size_in, around, Stores}
use Rattle.fit_laws.proofs.Held.{plain_held, still_held}
use Rattle.fit_laws.proofs.Lookup.{set_at}

-- ---- slots that are set

pub get_set : {A : Type 0} (xs : List A) (i : ℕ) (a : A) → i < length xs → slice_get (slice_set xs i a) i ≡ Some a
get_set [] i a l = absurd (omega (arith, l))
get_set (x ∷ xs) zero a l = refl
get_set (x ∷ xs) (suc i) a l = get_set xs i a (omega (arith, l))

pub get_other : {A : Type 0} (xs : List A) (i j : ℕ) (a : A) → (i ≡ j → ⊥) →
    slice_get (slice_set xs i a) j ≡ slice_get xs j
get_other [] i j a n = refl
get_other (x ∷ xs) zero zero a n = absurd (n refl)
get_other (x ∷ xs) zero (suc j) a n = refl
get_other (x ∷ xs) (suc i) zero a n = refl
get_other (x ∷ xs) (suc i) (suc j) a n = get_other xs i j a (λ e. n (ap suc e))

-- ---- the slots of which a fact speaks

abbrev OfColour : (ℕ → Type 0) → Colour → Type 0
OfColour P (the_colour z) = Unit {0}
OfColour P (colour_in i) = P i
OfColour P (point_in i) = P i
OfColour P any_colour = Unit {0}

abbrev OfSpot : (ℕ → Type 0) → Spot → Type 0
OfSpot P (in_slot i) = P i
OfSpot P (child_in p c) = P p × OfColour P c

-- each slot of which a fact speaks is so
abbrev pub OfSlots : (ℕ → Type 0) → Fact → Type 0
OfSlots P (lies a b) = OfSpot P a × OfSpot P b
OfSlots P (apart a b) = OfSpot P a × OfSpot P b
OfSlots P (parted p s) = P p × P s
OfSlots P (counts c s) = P c × P s

module _ (P Q : ℕ → Type 0) (h : (i : ℕ) → P i → Q i) where
  colour_so : (c : Colour) → OfColour P c → OfColour Q c
  colour_so (the_colour z) o = tt
  colour_so (colour_in i) o = h i o
  colour_so (point_in i) o = h i o
  colour_so any_colour o = tt

  spot_so : (a : Spot) → OfSpot P a → OfSpot Q a
  spot_so (in_slot i) o = h i o
  spot_so (child_in p c) o = (h p o.0, colour_so c o.1)

  pub slots_so : (k : Fact) → OfSlots P k → OfSlots Q k
  slots_so (lies a b) o = (spot_so a o.0, spot_so b o.1)
  slots_so (apart a b) o = (spot_so a o.0, spot_so b o.1)
  slots_so (parted p s) o = (h p o.0, h s o.1)
  slots_so (counts c s) o = (h c o.0, h s o.1)

-- ---- facts of slots that hold the same

module _ (vs us : List Value) where
  abbrev pub Same : ℕ → Type 0
  Same i = slice_get us i ≡ slice_get vs i

  colour_there : (c : Colour) (z : ℤ) → OfColour Same c → HasColour vs c z → HasColour us c z
  colour_there (the_colour y) z o h = h
  colour_there (colour_in i) z o h = subst (HasNumber z) (sym o) h
  colour_there (point_in i) z o h = subst (HasPoint z) (sym o) h
  colour_there any_colour z o h = h

  colour_back : (c : Colour) (z : ℤ) → OfColour Same c → HasColour us c z → HasColour vs c z
  colour_back (the_colour y) z o h = h
  colour_back (colour_in i) z o h = subst (HasNumber z) o h
  colour_back (point_in i) z o h = subst (HasPoint z) o h
  colour_back any_colour z o h = h

  spot_there : (a : Spot) (r : RegionValue) → OfSpot Same a → IsAt vs a r → IsAt us a r
  spot_there (in_slot i) r o h = ap region_in o ∙ h
  spot_there (child_in p c) r o h = record {
    parts = h.parts;
    there = ap partition_in o.0 ∙ h.there;
    colour = h.colour;
    has_colour = colour_there c h.colour o.1 h.has_colour;
    child = h.child;
  }

  spot_back : (a : Spot) (r : RegionValue) → OfSpot Same a → IsAt us a r → IsAt vs a r
  spot_back (in_slot i) r o h = sym (ap region_in o) ∙ h
  spot_back (child_in p c) r o h = record {
    parts = h.parts;
    there = sym (ap partition_in o.0) ∙ h.there;
    colour = h.colour;
    has_colour = colour_back c h.colour o.1 h.has_colour;
    child = h.child;
  }

  pub same_holds : (k : Fact) → OfSlots Same k → Holds k vs → Holds k us
  same_holds (lies a b) o h = λ r e.
      let w = h r (spot_back a r o.0 e) in record { other = w.other; at = spot_there b w.other o.1 w.at; inside = w.inside }
  same_holds (apart a b) o h = λ r q e f. h r q (spot_back a r o.0 e) (spot_back b q o.1 f)
  same_holds (parted p s) o h = λ q e.
      let w = h q (sym (ap partition_in o.0) ∙ e) in record { parent = w.parent; at = ap region_in o.1 ∙ w.at; root = w.root; inside = w.inside }
  same_holds (counts c s) o h = subst (λ y. AtMost (size_in y) (slice_get us c)) (sym o.1)
      (subst (λ y. AtMost (size_in (slice_get vs s)) y) (sym o.0) h)

  pub same_each : (P : ℕ → Type 0) → ((i : ℕ) → P i → Same i) → (ks : List Fact) → Each (OfSlots P) ks → Each (λ k. Holds k vs) ks →
      Each (λ k. Holds k us) ks
  same_each P h [] o f = tt
  same_each P h (k ∷ ks) o f = (same_holds k (slots_so P Same h k o.0) f.0, same_each P h ks o.1 f.1)

-- facts that don't speak of a slot stay where it is set
pub set_each : (vs : List Value) (s : ℕ) (v : Value) (ks : List Fact) → Each (OfSlots (λ i. s ≡ i → ⊥)) ks →
    Each (λ k. Holds k vs) ks → Each (λ k. Holds k (slice_set vs s v)) ks
set_each vs s v ks o h = same_each vs (slice_set vs s v) (λ i. s ≡ i → ⊥) (λ i n. get_other vs s i v n) ks o h

-- ---- a value that is stored behind the parameters

pub are_first : (x : World) (a : Shape) (us : List Shape) (v : Value) (st : List Value) → Are x (a ∷ us) (v ∷ st) → Is x a v
are_first x _ _ _ _ (are_more a v us st h b) = h

pub are_others : (x : World) (a : Shape) (us : List Shape) (v : Value) (st : List Value) → Are x (a ∷ us) (v ∷ st) → Are x us st
are_others x _ _ _ _ (are_more a v us st h b) = b

-- the mark with another shape in a slot
abbrev pub set_mark : Mark → ℕ → Shape → List Shape → Mark
set_mark m s b us = record m { slots = slice_set m.slots s b; stack = us; top = [] }

pub stores_behind : (params : ℕ) (m : Mark) (s : ℕ) (a b : Shape) (us : List Shape) → m.stack ≡ a ∷ us → params ≤ s → m.fixed ≤ s → IsPlain b →
    ((vs : List Value) (v : Value) → Each (λ k. Holds k vs) m.facts → Each (λ k. Holds k (slice_set vs s v)) m.facts) →
    ((x : World) (v : Value) → Is x a v → Is x b v) → Stores params m s (set_mark m s b us)
stores_behind params m s a b us e l low plain kept h x vs st v q =
    let z = around x m vs in
    let stack = subst (λ y. Are z y (v ∷ st)) e q.stack in record {
      slots = set_at x m.slots vs s b v q.slots (plain_held z x.held b v plain (h z v (are_first z a us v st stack)));
      stack = still_held x m.fixed vs s v us st low (are_others z a us v st stack);
      facts = kept vs v q.facts;
      top = tt;
      args = λ i o. ap region_in (get_other vs s i v (λ d. omega (arith, d, o, l))) ∙ q.args i o;
    }
