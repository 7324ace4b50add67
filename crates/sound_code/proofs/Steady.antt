-- Facts of counters, of parameters, of partitions and of regions that began as parts stay where other slots are set.
use Rattle.std.proofs.Common.{◌≡◌, ℕ, ℤ, ◌<◌, ◌≤◌, ◌+◌, List, [], ◌∷◌, sym, ap, ◌∙◌, subst, arith, true}
use Rattle.std.specs.Prelude.{slice_get, slice_set}
use Rattle.machine_terms.specs.declared.value.RegionValue.{RegionValue}
use Rattle.machine_terms.specs.declared.value.Value.{Value}
use Rattle.machine_terms.specs.Pointers.{region_in}
use Rattle.machine_terms.specs.Regions.{partition_in}
use Rattle.fit_rules.specs.Shapes.{Each, Shape, HasPoint}
use Rattle.fit_rules.specs.Marks.{any_colour, AtMost, Colour, colour_in, ColoursStand, Fact, HasColour, Holds, IsChild, point_in, size_in, the_colour, HasNumber}
use Rattle.fit_laws.proofs.Keeping.{get_other}
use Rattle.sound_code.specs.Named.{slot_at, IsSteady, is_apart, is_begun, is_count, is_parted, is_piece, is_within, IsLoopSlot, IsSteadyColour}
use Rattle.code_laws.specs.Coloured.{IsBoundIn}
use Rattle.regent_tree.specs.declared.typing.Bound.{Bound}

-- the same regions and partitions stand in a slot
abbrev pub SameParts : List Value → List Value → ℕ → Type 0
SameParts vs us s = (region_in (slice_get us s) ≡ region_in (slice_get vs s)) × (partition_in (slice_get us s) ≡ partition_in (slice_get vs s))

-- and in those of names
abbrev pub SameNames : ℕ → ℕ → List Value → List Value → Type 0
SameNames params n vs us = (i : ℕ) → i < n → SameParts vs us (slot_at params i)

-- the same counters and domains stand beside the slots of loops' variables
abbrev pub SameCounts : ℕ → ℕ → List Value → List Value → Type 0
SameCounts params n vs us = (p : ℕ) → params ≤ p → p < n →
    (slice_get us (slot_at params p + 1) ≡ slice_get vs (slot_at params p + 1))
    × (slice_get us (slot_at params p + 2) ≡ slice_get vs (slot_at params p + 2))

-- and the same values in those of loops' variables
abbrev pub SameLoops : ℕ → List Bound → List Value → List Value → Type 0
SameLoops params bs vs us = (b : Bound) → IsBoundIn bs b → b.by_loop ≡ true → slice_get us (slot_at params b.place) ≡ slice_get vs (slot_at params b.place)

module _ (params n : ℕ) (low : params ≤ n) (bs : List Bound) (vs us : List Value) (counts : SameCounts params n vs us) (names : SameNames params n vs us)
    (loops : SameLoops params bs vs us) where
  regions : (i : ℕ) → i < params → region_in (slice_get us i) ≡ region_in (slice_get vs i)
  regions i l = (subst (SameParts vs us) (omega (arith, l)) (names i (omega (arith, l, low)))).0

  slot_same : (s : ℕ) → IsLoopSlot params bs s → slice_get vs s ≡ slice_get us s
  slot_same s w = ap (λ k. slice_get vs k) w.slot ∙ sym (loops w.variable w.there w.by_loop) ∙ ap (λ k. slice_get us k) (sym w.slot)

  colour_same : (c : Colour) (z : ℤ) → IsSteadyColour params bs c → HasColour vs c z → HasColour us c z
  colour_same (the_colour y) z w h = h
  colour_same (colour_in s) z w h = subst (HasNumber z) (slot_same s w) h
  colour_same (point_in s) z w h = subst (HasPoint z) (slot_same s w) h
  colour_same any_colour z w h = h

  child_same : (p : ℕ) (c : Colour) (r : RegionValue) → p < n → IsSteadyColour params bs c → IsChild vs (slot_at params p) c r → IsChild us (slot_at params p) c r
  child_same p c r lp w h = record {
    parts = h.parts;
    there = (names p lp).1 ∙ h.there;
    colour = h.colour;
    has_colour = colour_same c h.colour w h.has_colour;
    child = h.child;
  }

  one_holds : (k : Fact) → IsSteady params n bs k → Holds k vs → Holds k us
  one_holds _ (is_count p lo hi) h =
      let same = counts p lo hi in
      subst (λ y. AtMost (size_in (slice_get us (slot_at params p + 2))) y) (sym same.0)
      (subst (λ y. AtMost (size_in y) (slice_get vs (slot_at params p + 1))) (sym same.1) h)
  one_holds _ (is_within i j li lj) h = λ r e.
      let w = h r (sym (regions i li) ∙ e) in record { other = w.other; at = regions j lj ∙ w.at; inside = w.inside }
  one_holds _ (is_apart i j li lj) h = λ r q e f. h r q (sym (regions i li) ∙ e) (sym (regions j lj) ∙ f)
  one_holds _ (is_parted i j li lj) h = λ q e.
      let w = h q (sym (names i li).1 ∙ e) in record { parent = w.parent; at = (names j lj).0 ∙ w.at; root = w.root; inside = w.inside }
  one_holds _ (is_piece i p c li lp fixed) h = λ r e.
      let w = h r (sym (names i li).0 ∙ e) in record { other = w.other; at = child_same p c w.other lp fixed w.at; inside = w.inside }
  one_holds _ (is_begun i j li lj) h = λ r e.
      let w = h r (sym (names i li).0 ∙ e) in record { other = w.other; at = (names j lj).0 ∙ w.at; inside = w.inside }

  pub steady_holds : (ks : List Fact) → Each (IsSteady params n bs) ks → Each (λ k. Holds k vs) ks → Each (λ k. Holds k us) ks
  steady_holds [] a h = tt
  steady_holds (k ∷ ks) a h = (one_holds k a.0 h.0, steady_holds ks a.1 h.1)

-- among more names
pub colour_below : (params : ℕ) (bs cs : List Bound) (c : Colour) → ((b : Bound) → IsBoundIn bs b → IsBoundIn cs b) → IsSteadyColour params bs c → IsSteadyColour params cs c
colour_below params bs cs (the_colour z) more w = w
colour_below params bs cs (colour_in s) more w = record { variable = w.variable; there = more w.variable w.there; by_loop = w.by_loop; slot = w.slot }
colour_below params bs cs (point_in s) more w = record { variable = w.variable; there = more w.variable w.there; by_loop = w.by_loop; slot = w.slot }
colour_below params bs cs any_colour more w = w

pub steady_below : (params n o : ℕ) (bs cs : List Bound) (ks : List Fact) → n ≤ o → ((b : Bound) → IsBoundIn bs b → IsBoundIn cs b) →
    Each (IsSteady params n bs) ks → Each (IsSteady params o cs) ks
steady_below params n o bs cs [] l more h = tt
steady_below params n o bs cs (k ∷ ks) l more h = (one k h.0, steady_below params n o bs cs ks l more h.1)
  where
    one : (k : Fact) → IsSteady params n bs k → IsSteady params o cs k
    one _ (is_count p lo hi) = is_count p lo (omega (arith, hi, l))
    one _ (is_within i j li lj) = is_within i j li lj
    one _ (is_apart i j li lj) = is_apart i j li lj
    one _ (is_parted i j li lj) = is_parted i j (omega (arith, li, l)) (omega (arith, lj, l))
    one _ (is_piece i p c li lp w) = is_piece i p c (omega (arith, li, l)) (omega (arith, lp, l)) (colour_below params bs cs c more w)
    one _ (is_begun i j li lj) = is_begun i j (omega (arith, li, l)) (omega (arith, lj, l))

-- no colour is named below them
pub steady_stand : (params n : ℕ) (bs : List Bound) (ss : List Shape) (ks : List Fact) → Each (IsSteady params n bs) ks → Each (ColoursStand ss) ks
steady_stand params n bs ss [] h = tt
steady_stand params n bs ss (k ∷ ks) h = (one k h.0, steady_stand params n bs ss ks h.1)
  where
    one : (k : Fact) → IsSteady params n bs k → ColoursStand ss k
    one _ (is_count p lo hi) = tt
    one _ (is_within i j li lj) = tt
    one _ (is_apart i j li lj) = (tt, tt)
    one _ (is_parted i j li lj) = tt
    one _ (is_piece i p c li lp w) = tt
    one _ (is_begun i j li lj) = tt

-- a slot behind those of the names is no name's, no counter and no domain
pub behind_same : (params n s : ℕ) (vs : List Value) (v : Value) → params ≤ n → slot_at params n ≤ s →
    SameCounts params n vs (slice_set vs s v) × SameNames params n vs (slice_set vs s v)
behind_same params n s vs v low h = (
  λ p lo hi. (
    get_other vs s (slot_at params p + 1) v (λ e. omega (arith, h, lo, hi, e)),
    get_other vs s (slot_at params p + 2) v (λ e. omega (arith, h, lo, hi, e)),
  ),
  λ i l.
      let same = get_other vs s (slot_at params i) v (λ e. omega (arith, h, low, l, e)) in (ap region_in same, ap partition_in same),
)

-- the slot of a name is no counter and no domain
pub between_same : (params q n : ℕ) (vs : List Value) (v : Value) → SameCounts params n vs (slice_set vs (slot_at params q) v)
between_same params q n vs v p lo hi = (
  get_other vs (slot_at params q) (slot_at params p + 1) v (λ e. omega (arith, lo, e)),
  get_other vs (slot_at params q) (slot_at params p + 2) v (λ e. omega (arith, lo, e)),
)

-- so it is no loop's variable's
pub behind_loops : (params n s : ℕ) (bs : List Bound) (vs : List Value) (v : Value) → params ≤ n → slot_at params n ≤ s → ((b : Bound) → IsBoundIn bs b → b.place < n) →
    SameLoops params bs vs (slice_set vs s v)
behind_loops params n s bs vs v low h below b there loop =
    let l = below b there in get_other vs s (slot_at params b.place) v (λ e. omega (arith, h, low, l, e))

-- nor is the slot of another name
pub other_loops : (params q : ℕ) (bs : List Bound) (vs : List Value) (v : Value) → ((b : Bound) → IsBoundIn bs b → b.by_loop ≡ true → b.place ≡ q → ⊥) →
    SameLoops params bs vs (slice_set vs (slot_at params q) v)
other_loops params q bs vs v other b there loop =
    get_other vs (slot_at params q) (slot_at params b.place) v (λ e. other b there loop (omega (arith, e)))
