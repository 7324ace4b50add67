-- What is derived of two regions that share no point holds of those that lie within what stands in slots: two children of one disjoint
-- partition by different numbers, and a region that was made and one that was bound before it, among them.
use Rattle.std.proofs.Common.{◌≡◌, ◌≢◌, inl, inr, ℕ, ℤ, ◌<◌, ◌≤◌, List, [], ◌∷◌, Bool, true, false, None, Option, Some, refl, sym, ap, ◌∙◌, subst, arith}
use Rattle.std.specs.Prelude.{cond, length, slice_get, take}
use Rattle.std.proofs.lemmas.Bool.{false≢true}
use Rattle.std.proofs.lemmas.Option.{same_Some}
use Rattle.plain_values.specs.Points.{has}
use Rattle.regent_tree.proofs.Members.{Has, Has-from_Contains}
use Rattle.regent_tree.specs.Scopes.{bound_as}
use Rattle.regent_tree.specs.Syntax.{TaskTree}
use Rattle.regent_tree.specs.declared.facts.Known.{Known}
use Rattle.regent_tree.specs.declared.facts.Known.TheVariants.{Apart, Made, PartOf}
use Rattle.regent_tree.specs.declared.facts.Term.{Term}
use Rattle.regent_tree.specs.declared.facts.Term.TheVariants as term
use Rattle.regent_tree.specs.declared.typing.Bound.{Bound}
use Rattle.regent_tree.specs.declared.typing.StaticType.{StaticType}
use Rattle.regent_tree.specs.declared.typing.StaticType.TheVariants.{Partition as partition_type}
use Rattle.task_code.specs.declared.code.TaskCode.{TaskCode}
use Rattle.machine_terms.specs.declared.value.PartitionValue.{PartitionValue}
use Rattle.machine_terms.specs.declared.value.RegionValue.{RegionValue}
use Rattle.machine_terms.specs.declared.value.Value.{Value}
use Rattle.machine_terms.specs.Pointers.{region_in}
use Rattle.machine_terms.specs.Regions.{coloured, partition_in}
use Rattle.constraint_check.specs.Derivations.{children, inside, IsApart, made, told_apart, turned}
use Rattle.fact_laws.specs.Regions.{SharesNoPoint}
use Rattle.code_rules.specs.Slots.{slot_bound, Where}
use Rattle.code_laws.specs.Handing.{told_in}
use Rattle.code_laws.specs.Simple.{a_region_type, IsRegion, term_in}
use Rattle.marked_code.proofs.Placed.{below}
use Rattle.fit_laws.proofs.Apart.{children_apart}
use Rattle.fit_laws.proofs.Held.{region_held}
use Rattle.fit_laws.proofs.Lookup.{each_among, value_at}
use Rattle.fit_rules.specs.Shapes.{argument, ComesFrom, Is, is_number, is_partition, is_region, KnowsRoots, partition, Shape, World}
use Rattle.fit_rules.specs.Marks.{apart, around, Holds, in_slot, LiesIn, Mark, Suits}
use Rattle.std.proofs.Common.{◌||◌, nat_lt}
use Rattle.sound_code.proofs.SlotShapes.{partition_plain, pointer_plain, region_plain, slot_bare, slot_is, slot_numbered, slot_plain}
use Rattle.sound_code.specs.Named.{name_shape, slot_shape}
use Rattle.sound_code.specs.Named.{AreNamed, slot_at}
use Rattle.sound_code.specs.Ways.{by_rules, opening_facts, origin_behind, origin_in, shape_in, Tops, Way}
use Rattle.sound_code.proofs.Cuts.{AreCut}
use Rattle.sound_code.proofs.Grounds.{begins_under, HasFacts, IsTold, Kept, said_of, tells_apart, top_in, top_whole}
use Rattle.sound_code.proofs.Handed.{of_number}
use Rattle.sound_code.proofs.InSlots.{high_slot, in_below, InTerm, IsInSlot, low_slot, own_term, slot_of}
use Rattle.sound_code.proofs.Interpreting.{meant, not_below}
use Rattle.sound_code.proofs.Parting.{of_made}
use Rattle.sound_code.proofs.Plain.{plain_origin}
use Rattle.sound_code.proofs.Scoped.{AreScoped, partition_found, region_as, region_found}
use Rattle.sound_code.proofs.Stood.{apart_numbers}
use Rattle.sound_code.proofs.Under.{lies_through, LiesUnder, under_in}

-- what has a name has its shape in its slot
shape_has : (way : Way) (params : ℕ) (ss : List Shape) (bs : List Bound) (b : Bound) → AreNamed way params ss bs → Has bs b →
    slice_get ss (slot_at params b.place) ≡ Some (name_shape way params b)
shape_has way params ss [] b a h = absurd h
shape_has way params ss (c ∷ bs) b a (inl e) = subst (λ (d : Bound). slice_get ss (slot_at params d.place) ≡ Some (name_shape way params d)) e a.1
shape_has way params ss (c ∷ bs) b a (inr h) = shape_has way params ss bs b a.2 h

-- what lies within regions that share no point shares none
inside_apart : (p q r s : RegionValue) → LiesIn r p → LiesIn s q → SharesNoPoint (meant p) (meant q) → SharesNoPoint (meant r) (meant s)
inside_apart p q r s a b none root point i j = none root point (sym a.0 ∙ i.0, a.1 point i.1) (sym b.0 ∙ j.0, b.1 point j.1)

-- so no point is in both, point by point
pub none_there : (r q : RegionValue) → SharesNoPoint (meant r) (meant q) → r.root.0 ≡ q.root.0 → (p : ℕ) → has r.points p ≡ true → has q.points p ≡ false
none_there r q none same p ip = of (has q.points p) refl
  where
    of : (b : Bool) → has q.points p ≡ b → has q.points p ≡ false
    of true e = absurd (none r.root.0 p (refl, ip) (sym same, e))
    of false e = e

-- the children of a partition that is known to be disjoint
disjoint_children : (x : World) (v : Value) (q : PartitionValue) → Is x (partition None true) v → partition_in (Some v) ≡ Some q → (i j : ℤ) → i ≢ j → (r s : RegionValue) →
    coloured q.children i ≡ Some r → coloured q.children j ≡ Some s → (p : ℕ) → has r.points p ≡ true → has s.points p ≡ true → ⊥
disjoint_children x _ q (is_partition _ _ p i) e = subst (λ (y : PartitionValue). (i j : ℤ) → i ≢ j → (r s : RegionValue) → coloured y.children i ≡ Some r →
    coloured y.children j ≡ Some s → (p : ℕ) → has r.points p ≡ true → has s.points p ≡ true → ⊥) (same_Some p q e) (children_apart p (i.apart (i.flag refl)))
disjoint_children x _ q (is_number _ z h) e = absurd h

abbrev number_in : Term → ℕ
number_in (term.Name i) = i
number_in (term.Child p c) = 0

abbrev IsNamed : Term → Type 0
IsNamed (term.Name i) = Unit {0}
IsNamed (term.Child p c) = ⊥

module _ (tops : Tops) (task : TaskTree) (t : TaskCode) (w : Where) (kept : Kept t tops task w.tree w.params w.scope) (m : Mark)
    (facts : HasFacts (by_rules tops task) w.tree m.facts) (ep : w.params ≡ t.params) (named : AreNamed (by_rules tops task) w.params m.slots w.scope.names)
    (fixed : m.fixed ≡ slot_at w.params (length w.scope.names)) (scoped : AreScoped w.scope.names w.scope.names)
    (cuts : AreCut w.params (tops task) (told_in w.tree task) m.facts w.scope.names w.scope.names)
    (total : (k : Known) → Has w.scope.known k → Has (told_in w.tree task) k) (base : World) (vs st : List Value) (knows : KnowsRoots base)
    (suits : Suits base t.params m vs st) where
  abbrev x : World
  x = around base m vs

  abbrev known : List Known
  known = w.scope.known

  abbrev names : List Bound
  names = w.scope.names

  abbrev up : ℕ → Option (ℕ × ℕ)
  up = tops task

  abbrev In : RegionValue → Term → Type 0
  In = InTerm tops task t w kept m facts scoped cuts total vs suits.facts

  abbrev InSlot : RegionValue → ℕ → Type 0
  InSlot = IsInSlot tops task t w kept m facts scoped cuts total vs suits.facts

  -- ---- the region in a slot lies within one that began as no part

  comes_from : (i : ℕ) (u : StaticType) → IsRegion u → term_in u ≡ term.Name i → (v : Value) → Is base (shape_in (by_rules tops task) w.params u) v → (r : RegionValue) →
      region_in (Some v) ≡ Some r → ComesFrom x (origin_in (by_rules tops task) w.params (term.Name i)) r
  comes_from i _ (a_region_type k sp args (term.Child p c)) e v h r at = absurd (subst IsNamed (sym e) tt)
  comes_from i _ (a_region_type k sp args (term.Name j)) e _ (is_number _ z h) r at = absurd h
  comes_from i _ (a_region_type k sp args (term.Name j)) e _ (is_region _ o q h) r at =
      let from = (region_held base (take m.fixed vs) (Some sp) o q (plain_origin (by_rules tops task) w.params (term.Name j)) h).origin in
      subst (λ n. ComesFrom x (origin_in (by_rules tops task) w.params (term.Name n)) r) (ap number_in e)
      (subst (ComesFrom x (origin_in (by_rules tops task) w.params (term.Name j))) (same_Some q r at) from)

  slot_under : (i : ℕ) (r : RegionValue) → region_in (slice_get vs (slot_of w i)) ≡ Some r → (w.params ≤ i → IsRegion (bound_as names i).static_type) →
      LiesUnder x w.params (top_in w.params up i) r
  slot_under i r at is = under_in tops task w.params i x r (elim (below i w.params) [
    | inl low ↦ subst (λ b. ComesFrom x (cond b (origin_behind w.params i (up i)) (argument i)) r) (sym (not_below w.params i low))
        (sym (suits.args i (omega (arith, low, ep)))
        ∙ subst (λ s. region_in (slice_get vs s) ≡ Some r) (low_slot tops task t w kept m facts scoped cuts total vs suits.facts i low) at)
    | inr high ↦
        let b = bound_as names i in
        let v = value_at base m.slots vs (slot_bound w i) (shape_in (by_rules tops task) w.params b.static_type) suits.slots
        (region_as (by_rules tops task) w.params m.slots names i named (is high)) in
        comes_from i b.static_type (is high) (own_term tops task t w kept m facts scoped cuts total vs suits.facts i (is high)) v.value v.of r
        (sym (ap region_in v.at) ∙ subst (λ s. region_in (slice_get vs s) ≡ Some r) (high_slot tops task t w kept m facts scoped cuts total vs suits.facts i high) at)
  ])

  slot_whole : (i : ℕ) → (w.params ≤ i → IsRegion (bound_as names i).static_type) → w.params ≤ top_in w.params up i → up (top_in w.params up i) ≡ None
  slot_whole i is = top_whole t tops task w.tree w.params w.scope kept i (λ high.
      let b = bound_as names i in
      said_of w.params known b.static_type i (is high) (own_term tops task t w kept m facts scoped cuts total vs suits.facts i (is high))
      (kept.said b (region_found names i (is high)).0) high)

  -- ---- derivations

  of_made_here : (s r : ℕ) → IsTold w.params up (opening_facts (by_rules tops task) w.tree task) (Made s) → Has known (Made s) → r < s → (a b : RegionValue) →
      InSlot a s → InSlot b r → SharesNoPoint (meant a) (meant b)
  of_made_here s r told has l a b ia ib =
      let ua = slot_under s ia.other ia.at ia.named in
      let ub = slot_under r ib.other ib.at ib.named in
      let numbers = of_made t.params w.params up (opening_facts (by_rules tops task) w.tree task) m known facts kept.known
      (begins_under t tops task w.tree w.params w.scope kept) kept.falls s r told has l (top_in w.params up s) (top_in w.params up r) refl refl in
      inside_apart ua.whole ub.whole a b (lies_through a ia.other ua.whole ia.inside ua.inside) (lies_through b ib.other ub.whole ib.inside ub.inside)
      (apart_numbers tops task t w kept m facts ep named fixed base vs st knows suits (top_in w.params up s) (top_in w.params up r) ua.whole ub.whole
      (slot_whole s ia.named) (slot_whole r ib.named) (of_number x w.params (top_in w.params up s) ua.whole ua.from)
      (of_number x w.params (top_in w.params up r) ub.whole ub.from) numbers)

  of_told_here : (a b : Term) → IsTold w.params up (opening_facts (by_rules tops task) w.tree task) (Apart a b) → (r q : RegionValue) → In r a → In q b →
      SharesNoPoint (meant r) (meant q)
  of_told_here _ _ (tells_apart i j li lj h) r q ir iq =
      let f = each_among (λ k. Holds k vs) m.facts (apart (in_slot i) (in_slot j)) (facts _ h) suits.facts in
      inside_apart ir.other iq.other r q ir.inside iq.inside (λ root point d e. false≢true
      (sym (f ir.other iq.other (subst (λ s. region_in (slice_get vs s) ≡ Some ir.other) (low_slot tops task t w kept m facts scoped cuts total vs suits.facts i li) ir.at)
      (subst (λ s. region_in (slice_get vs s) ≡ Some iq.other) (low_slot tops task t w kept m facts scoped cuts total vs suits.facts j lj) iq.at)
      (d.0 ∙ sym e.0) point d.1) ∙ e.1))

  pub in_apart : {a b : Term} → IsApart known a b → (r q : RegionValue) → In r a → In q b → SharesNoPoint (meant r) (meant q)
  in_apart (told_apart {a} {b} h) r q ir iq = of_told_here a b (kept.known (Apart a b) (Has-from_Contains known (Apart a b) h)) r q ir iq
  in_apart (turned h) r q ir iq = let none = in_apart h q r iq ir in λ root point i j. none root point j i
  in_apart (inside l h) r q ir iq = in_apart h r q (in_below tops task t w kept m facts scoped cuts total vs suits.facts l r ir) iq
  in_apart (made {s = s} {r = n} h l) r q ir iq =
      let has = Has-from_Contains known (Made s) h in of_made_here s n (kept.known (Made s) has) has l r q ir iq
  in_apart (children {p = p} {r = z} {i = i} {j = j} h n) r q ir iq =
      let one = ir.1.1 in
      let two = iq.1.1 in
      let b = bound_as names p in
      let found = partition_found names p ir.1.0 in
      let type : b.static_type ≡ partition_type true z p = (kept.head.parts (PartOf p z true) (Has-from_Contains known (PartOf p z true) h)).one b found.0 found.1 in
      let v = value_at base m.slots vs (slot_bound w p) (partition None true) suits.slots
      (shape_has (by_rules tops task) w.params m.slots names b named found.0 ∙ ap (λ u. Some (slot_shape (b.by_loop || nat_lt b.place w.params) (shape_in (by_rules tops task) w.params u))) type
      ∙ ap (λ s. Some s) (slot_plain (b.by_loop || nat_lt b.place w.params) _ refl)) in
      let none = disjoint_children base v.value one.at.parts v.of (sym (ap partition_in v.at) ∙ one.at.there) in
      let parts = same_Some two.at.parts one.at.parts (sym two.at.there ∙ one.at.there) in
      inside_apart one.other two.other r q one.inside two.inside (λ root point d e.
      none i j n one.other two.other (subst (λ c. coloured one.at.parts.children c ≡ Some one.other) one.at.has_colour one.at.child)
      (subst (λ c. coloured one.at.parts.children c ≡ Some two.other) two.at.has_colour
      (subst (λ (y : PartitionValue). coloured y.children two.at.colour ≡ Some two.other) parts two.at.child)) point d.1 e.1)
