-- What is derived of two regions that have names holds of those in the names' slots: one lies within the other. A region that began as a
-- part lies, in its slot, within the one in another of which the partition is; and so does a part that is handed over.
use Rattle.std.proofs.Common.{◌≡◌, inl, inr, ℕ, ◌<◌, ◌≤◌, List, Bool, true, false, cond, Some, refl, sym, ap, ◌∙◌, subst, arith}
use Rattle.std.specs.Prelude.{nat_le, slice_get, take}
use Rattle.std.proofs.lemmas.Bool.{false≢true, le-leb}
use Rattle.std.proofs.lemmas.Option.{same_Some}
use Rattle.regent_tree.proofs.Members.{Has, Has-from_Contains}
use Rattle.regent_tree.specs.Facts.{is_subregion}
use Rattle.regent_tree.specs.Lookup.{is_bound}
use Rattle.regent_tree.specs.Scopes.{bound_as}
use Rattle.regent_tree.specs.Syntax.{Expression, Name, TaskTree}
use Rattle.regent_tree.specs.Typing.{colour_of}
use Rattle.regent_tree.specs.declared.facts.Colour.{Colour}
use Rattle.regent_tree.specs.declared.facts.Known.{Known}
use Rattle.regent_tree.specs.declared.facts.Known.TheVariants.{PartOf, Within}
use Rattle.regent_tree.specs.declared.facts.Term.{Term}
use Rattle.regent_tree.specs.declared.facts.Term.TheVariants as term
use Rattle.regent_tree.specs.declared.typing.Bound.{Bound}
use Rattle.regent_tree.specs.declared.typing.StaticType.{StaticType}
use Rattle.regent_tree.specs.declared.typing.StaticType.TheVariants.{Partition as partition_type}
use Rattle.task_code.specs.declared.code.TaskCode.{TaskCode}
use Rattle.machine_terms.specs.declared.value.RegionValue.{RegionValue}
use Rattle.machine_terms.specs.declared.value.Value.{Value}
use Rattle.machine_terms.specs.Pointers.{region_in}
use Rattle.machine_terms.specs.Regions.{partition_in}
use Rattle.check_laws.proofs.Scopes.{found_by_number}
use Rattle.check_laws.specs.SoundScopes.{Falls}
use Rattle.constraint_check.proofs.Table.{is_subregion-derivable}
use Rattle.constraint_check.specs.Derivations.{child, IsBelow, same, through, told_within, variable}
use Rattle.code_rules.specs.Slots.{bound, slot_bound, slot_named, Where}
use Rattle.code_laws.specs.Arguments.{IsCutName}
use Rattle.code_laws.specs.Handing.{told_in}
use Rattle.code_laws.specs.Simple.{a_region_type, IsPartition, IsRegion, term_in}
use Rattle.fit_laws.proofs.Lookup.{each_among}
use Rattle.fit_laws.proofs.Pointers.{among_coloured}
use Rattle.fit_rules.specs.Shapes.{Among, Each}
use Rattle.fit_rules.specs.Marks.{child_in, Fact, HasColour, Holds, in_slot, IsChild, lies, LiesAt, LiesIn, Mark, parted}
use Rattle.marked_code.proofs.Placed.{below}
use Rattle.sound_code.specs.Named.{slot_at}
use Rattle.sound_code.specs.Ways.{by_rules, opening_facts, Tops}
use Rattle.sound_code.proofs.Colours.{child_there, colour_at, colour_held, colour_untaken, held_of, IsUnder}
use Rattle.sound_code.proofs.Cuts.{AreCut, cut_has, cut_named, IsCut, IsPieceOf}
use Rattle.sound_code.proofs.Grounds.{begins_under, HasFacts, IsTold, Kept, OfType, tells_begun, tells_within, top_in}
use Rattle.sound_code.proofs.Interpreting.{not_below}
use Rattle.sound_code.proofs.Parts.{own_named}
use Rattle.sound_code.proofs.Scoped.{AreScoped, partition_found, placed_as, region_found, scoped_as}
use Rattle.sound_code.proofs.Under.{lies_through}

-- the slot of the region with a number: a parameter's is in its place, that of any other in its name's
abbrev pub slot_of : Where → ℕ → ℕ
slot_of w i = cond (nat_le w.params i) (slot_bound w i) i

-- a number of a name
abbrev number_in : Term → ℕ
number_in (term.Name i) = i
number_in (term.Child p c) = 0

abbrev IsNamed : Term → Type 0
IsNamed (term.Name i) = Unit {0}
IsNamed (term.Child p c) = ⊥

module _ (tops : Tops) (task : TaskTree) (t : TaskCode) (w : Where) (kept : Kept t tops task w.tree w.params w.scope) (m : Mark)
    (facts : HasFacts (by_rules tops task) w.tree m.facts) (scoped : AreScoped w.scope.names w.scope.names)
    (cuts : AreCut w.params (tops task) (told_in w.tree task) m.facts w.scope.names w.scope.names) (told : (k : Known) → Has w.scope.known k → Has (told_in w.tree task) k) (vs : List Value) (holds : Each (λ k. Holds k vs) m.facts) where
  abbrev names : List Bound
  names = w.scope.names

  abbrev known : List Known
  known = w.scope.known

  abbrev ks : List Fact
  ks = opening_facts (by_rules tops task) w.tree task

  -- ---- slots by numbers

  pub own_term : (i : ℕ) → IsRegion (bound_as names i).static_type → term_in (bound_as names i).static_type ≡ term.Name i
  own_term i is = own_named names (bound_as names i).static_type (bound_as names i).number i is (scoped_as names names i scoped is) (region_found names i is).1

  pub low_slot : (i : ℕ) → i < w.params → slot_of w i ≡ i
  low_slot i l = ap (λ b. cond b (slot_bound w i) i) (not_below w.params i l)

  pub high_slot : (i : ℕ) → w.params ≤ i → slot_of w i ≡ slot_bound w i
  high_slot i l = ap (λ b. cond b (slot_bound w i) i) (le-leb w.params i l)

  own_place : (i place : ℕ) (u : StaticType) → IsRegion u → term_in u ≡ term.Name i → OfType w.params place u → i < w.params → place ≡ i
  own_place i place _ (a_region_type k sp args (term.Name j)) e o l = let same : j ≡ i = ap number_in e in o (omega (arith, l, same)) ∙ same
  own_place i place _ (a_region_type k sp args (term.Child p c)) e o l = absurd (subst IsNamed (sym e) tt)

  -- the slot of a region that is found by its number is that of its name
  pub slot_found : (i : ℕ) → IsRegion (bound_as names i).static_type → slot_of w i ≡ slot_bound w i
  slot_found i is = of (nat_le w.params i) refl
    where
      of : (b : Bool) → nat_le w.params i ≡ b → cond b (slot_bound w i) i ≡ slot_bound w i
      of true e = refl
      of false e =
          let low : i < w.params = is_low e in
          let at = own_place i (bound_as names i).place (bound_as names i).static_type is (own_term i is) (placed_as w.params names i kept.placed is) low in
          omega (arith, at, low)
        where
          is_low : nat_le w.params i ≡ false → i < w.params
          is_low e = elim (below i w.params) [ inl l ↦ l | inr h ↦ absurd (false≢true (sym e ∙ le-leb w.params i h)) ]

  -- ---- regions within those in slots

  -- a region lies within the one in the slot of a number, which is a parameter's or has a name
  pub record IsInSlot (r : RegionValue) (i : ℕ) : Type 0 where
    pub other : RegionValue
    pub at : region_in (slice_get vs (slot_of w i)) ≡ Some other
    pub inside : LiesIn r other
    pub named : w.params ≤ i → IsRegion (bound_as names i).static_type

  -- so by a term: a part lies within the region of which its partition is, and within the child of its colour
  abbrev pub InChild : RegionValue → ℕ → Colour → Type 0
  InChild r p c = IsPartition (bound_as names p).static_type × LiesAt vs r (child_in (slot_bound w p) (held_of w.params names c))

  abbrev pub InTerm : RegionValue → Term → Type 0
  InTerm r (term.Name i) = IsInSlot r i
  InTerm r (term.Child p c) = ((q : ℕ) (d : Bool) → Has known (PartOf p q d) → IsInSlot r q) × InChild r p c

  -- a region that began as a part lies within the one in another slot
  record IsStepped (i r : ℕ) : Type 0 where
    region : IsRegion (bound_as names r).static_type
    fact : Among m.facts (lies (in_slot (slot_bound w i)) (in_slot (slot_bound w r)))
    pieces : IsPieceOf w.params (told_in w.tree task) m.facts names (bound_as names i).place i

  step : (i r n : ℕ) → IsRegion (bound_as names i).static_type → w.params ≤ i → tops task i ≡ Some (r, n) → IsStepped i r
  step i r n is high up =
      of (bound_as names i).static_type is (own_term i is) (cut_has w.params (tops task) (told_in w.tree task) m.facts names names (bound_as names i) cuts (region_found names i is).0)
    where
      of : (u : StaticType) → IsRegion u → term_in u ≡ term.Name i → IsCut w.params (tops task) (told_in w.tree task) m.facts names (bound_as names i).place u → IsStepped i r
      of _ (a_region_type k sp args (term.Name j)) e cut =
          let same : j ≡ i = ap number_in e in
          let there = cut (r, n) (omega (arith, high, same)) (ap (tops task) same ∙ up) in
          record {
            region = there.0;
            fact = there.1;
            pieces = subst (IsPieceOf w.params (told_in w.tree task) m.facts names (bound_as names i).place) same there.2;
          }
      of _ (a_region_type k sp args (term.Child p c)) e cut = absurd (subst IsNamed (sym e) tt)

  of_told : (a b : Term) → IsTold w.params (tops task) ks (Within a b) → Has known (Within a b) → (r : RegionValue) → InTerm r a → InTerm r b
  of_told _ _ (tells_within i j li lj h) has r q =
      let f = each_among (λ k. Holds k vs) m.facts (lies (in_slot i) (in_slot j)) (facts _ h) holds in
      let o = f q.other (subst (λ s. region_in (slice_get vs s) ≡ Some q.other) (low_slot i li) q.at) in record {
        other = o.other;
        at = subst (λ s. region_in (slice_get vs s) ≡ Some o.other) (sym (low_slot j lj)) o.at;
        inside = lies_through r q.other o.other q.inside o.inside;
        named = λ l. absurd (omega (arith, l, lj));
      }
  of_told _ _ (tells_begun i p k c high e) has r q = (
    λ z d h.
        let up = begins_under t tops task w.tree w.params w.scope kept i p c has z d h in
        let s = step i z (top_in w.params (tops task) z) (q.named high) high up in
        let f = each_among (λ k. Holds k vs) m.facts (lies (in_slot (slot_bound w i)) (in_slot (slot_bound w z))) s.fact holds in
        let o = f q.other (subst (λ s. region_in (slice_get vs s) ≡ Some q.other) (high_slot i high) q.at) in record {
          other = o.other;
          at = subst (λ s. region_in (slice_get vs s) ≡ Some o.other) (sym (slot_found z s.region)) o.at;
          inside = lies_through r q.other o.other q.inside o.inside;
          named = λ l. s.region;
        },
    child_of c has,
  )
    where
      child_of : (c : Colour) → Has known (Within (term.Name i) (term.Child p c)) → InChild r p c
      child_of c has =
          let f = (step i k.0 k.1 (q.named high) high e).pieces p c (told (Within (term.Name i) (term.Child p c)) has) in
          let o = each_among (λ k. Holds k vs) m.facts (lies (in_slot (slot_bound w i)) (child_in (slot_bound w p) (held_of w.params names c))) f.2 holds q.other
          (subst (λ s. region_in (slice_get vs s) ≡ Some q.other) (high_slot i high) q.at) in
          (f.0, record { other = o.other; at = o.at; inside = lies_through r q.other o.other q.inside o.inside })

  -- what is derived of terms holds of what lies within them
  pub in_below : {a b : Term} → IsBelow known a b → (r : RegionValue) → InTerm r a → InTerm r b
  in_below same r q = q
  in_below (told_within {a} {b} h) r q =
      let has = Has-from_Contains known (Within a b) h in of_told a b (kept.known (Within a b) has) has r q
  in_below (through h l) r q = in_below l r (in_below h r q)
  in_below (child {p = p} {r = z} {disjoint = d} h) r q = q.0 z d (Has-from_Contains known (PartOf p z d) h)
  in_below (variable {s = i} {p = p} {c = c} h) r q =
      let has = Has-from_Contains known (Within (term.Name i) (term.Child p c)) h in
      of_told (term.Name i) (term.Child p c) (kept.known (Within (term.Name i) (term.Child p c)) has) has r q

  -- the region in a slot lies within itself
  pub in_itself : (r : RegionValue) (i : ℕ) → region_in (slice_get vs (slot_of w i)) ≡ Some r → (w.params ≤ i → IsRegion (bound_as names i).static_type) → IsInSlot r i
  in_itself r i at named = record { other = r; at = at; inside = (refl, λ p y. y); named = named }

  -- so one lies within that of a name, where that is derived
  pub lies_named : (a : Term) (i : ℕ) (r q : RegionValue) → InTerm r a → region_in (slice_get vs (slot_of w i)) ≡ Some q →
      is_subregion known a (term.Name i) ≡ true → LiesIn r q
  lies_named a i r q h at e =
      let o = in_below ((is_subregion-derivable known a (term.Name i)).0 e).below r h in
      subst (LiesIn r) (same_Some o.other q (sym o.at ∙ at)) o.inside

  -- a part of a partition that has a name lies within the region of which that is
  pub part_in : (n : Name) (e : Expression) (r : RegionValue) → IsCutName w n → slot_named w n < m.fixed → IsUnder m.fixed (colour_at w e) →
      IsChild (take m.fixed vs) (slot_named w n) (colour_at w e) r → InTerm r (term.Child (bound w n).number (colour_of w.scope e))
  part_in n e r cut low under it = (
    λ z d h.
        let found = partition_found names number (subst (λ (b : Bound). IsPartition b.static_type) (sym at) cut.partition) in
        let type : (bound w n).static_type ≡ partition_type d z number =
        (kept.head.parts (PartOf number z d) h).one (bound w n) (subst (Has names) at found.0) refl in
        let is = subst (IsCut w.params (tops task) (told_in w.tree task) m.facts names (bound w n).place) type
        (cut_named w.params (tops task) (told_in w.tree task) m.facts names names n cuts cut.named) in
        let o = each_among (λ k. Holds k vs) m.facts (parted (slot_named w n) (slot_bound w z)) is.1 holds it.parts there in record {
          other = o.parent;
          at = subst (λ s. region_in (slice_get vs s) ≡ Some o.parent) (sym (slot_found z is.0)) o.at;
          inside = o.inside r (among_coloured it.parts.children it.colour r it.child);
          named = λ l. is.0;
        },
    child_of,
  )
    where
      number : ℕ
      number = (bound w n).number

      at : bound_as names number ≡ bound w n
      at = (found_by_number w.scope.next names n cut.numbers cut.named).0

      there : partition_in (slice_get vs (slot_named w n)) ≡ Some it.parts
      there = child_there m.fixed vs (slot_named w n) low (colour_at w e) r it

      child_of : InChild r number (colour_of w.scope e)
      child_of = (
        subst (λ (b : Bound). IsPartition b.static_type) (sym at) cut.partition,
        record {
          other = r;
          at = record {
            parts = it.parts;
            there = subst (λ (b : Bound). partition_in (slice_get vs (slot_at w.params b.place)) ≡ Some it.parts) (sym at) there;
            colour = it.colour;
            has_colour = subst (λ c. HasColour vs c it.colour) (colour_held w e cut.numbers).1 (colour_untaken m.fixed vs (colour_at w e) it.colour under it.has_colour);
            child = it.child;
          };
          inside = (refl, λ p y. y);
        },
      )

  -- the slot of a name in scope
  pub named_slot : (n : Name) (i : ℕ) → Falls w.scope.next names → is_bound names n ≡ true → IsRegion (bound w n).static_type → term_in (bound w n).static_type ≡ term.Name i →
      (slot_named w n ≡ slot_of w i) × IsRegion (bound_as names i).static_type
  named_slot n i falls there is e =
      let at = (found_by_number w.scope.next names n falls there).0 in
      let region : IsRegion (bound_as names (bound w n).number).static_type = subst (λ (b : Bound). IsRegion b.static_type) (sym at) is in
      let own : (bound w n).number ≡ i =
      ap number_in (sym (own_term (bound w n).number region) ∙ ap (λ (b : Bound). term_in b.static_type) at ∙ e) in
      subst (λ j. (slot_named w n ≡ slot_of w j) × IsRegion (bound_as names j).static_type) own
      (sym (slot_found (bound w n).number region ∙ ap (λ (b : Bound). slot_at w.params b.place) at), region)
