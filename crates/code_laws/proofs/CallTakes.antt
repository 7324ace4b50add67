-- What a call takes: what the called task requires of its arguments is there, and lies within what the caller has, and
-- its constraints hold of them.
use Rattle.std.proofs.Common.{◌≡◌, ℕ, ◌<◌, ℤ, List, [], ◌∷◌, inl, inr, Bool, true, false, Option, Some, None, refl, sym, ap, ◌∙◌, subst, arith, ⊎_elim}
use Rattle.std.specs.Prelude.{get_or, length, map, nat_abs, option_map, slice_get}
use Rattle.std.proofs.lemmas.Option.{get_or_from_slice_get, same_Some, slice_get-map}
use Rattle.plain_values.specs.Points.{has}
use Rattle.partitions.specs.Laws.{ArePartsOf}
use Rattle.region_tree.specs.Requirements.{is_within, mode_at}
use Rattle.regent_tree.proofs.Members.{Has, Has-from_Contains}
use Rattle.regent_tree.specs.Accesses.{space_in}
use Rattle.regent_tree.specs.Laws.{Shape}
use Rattle.regent_tree.specs.Running.{Here, State}
use Rattle.regent_tree.specs.Scopes.{bound_to, scope_of, bound_as}
use Rattle.regent_tree.specs.StaticTypes.{space_at, task_named}
use Rattle.regent_tree.specs.Store.{no_root}
use Rattle.regent_tree.specs.Syntax.{Expression, Expressions, Name, an_expr, no_expr}
use Rattle.regent_tree.specs.Typing.{param_types, parent_of, colour_of}
use Rattle.regent_tree.specs.Values.{Partition, Region, Value, a_partition, a_region, a_truth, partition_of, region_of}
use Rattle.regent_tree.specs.declared.facts.Term.TheVariants as term
use Rattle.regent_tree.specs.declared.typing.StaticType.{StaticType}
use Rattle.task_code.specs.declared.code.NeedCode.{NeedCode}
use Rattle.machine_terms.specs.declared.order.Instance.{Instance}
use Rattle.machine_terms.specs.Contents.{kinds_of}
use Rattle.machine_terms.specs.Copies.{give_parts}
use Rattle.machine_terms.specs.Makes.{region_with}
use Rattle.machine_terms.specs.Pointers.{region_in}
use Rattle.machine_terms.specs.declared.value.RegionValue.{RegionValue}
use Rattle.memory_laws.proofs.Given.{given_stands}
use Rattle.memory_laws.specs.Memory.{memory_of}
use Rattle.memory_laws.specs.Places.{number_at}
use Rattle.memory_laws.specs.Touches.{Covers}
use Rattle.fact_laws.specs.Regions.{LiesWithin}
use Rattle.code_rules.specs.Programs.{task_code}
use Rattle.code_rules.specs.Slots.{Where, typed}
use Rattle.code_laws.specs.Arguments.{AreMet, AreOneColour, AreParted, BeganWithin, IsPartBelow, IsCutName, IsMet, IsMetAt, IsMetPart, IsParted, LiesBelow, IsPartedAt, name_at, one_name, one_number, parent_bound, part_at, IsPieceBelow, LandsIn}
use Rattle.code_laws.specs.Pointers.{Passes, passes_plain, passes_pointer, IsOfName}
use Rattle.code_laws.specs.Simple.{AreRegions, IsPartition, IsRegion, a_partition_type, term_in, two_regions}
use Rattle.code_laws.specs.Standing.{Agrees, AreTaken, Aside, IsInside, IsOf, IsTaken, LiesIn, SlotsFit, Takes, machine_value, nothing, of_pointer, takes_partition, takes_pointer, takes_region, takes_value, where_of, AreUnder}
use Rattle.code_laws.specs.Steps.{Setting, Taking}
use Rattle.code_laws.specs.Taking.{AreParts, MayDo, given_region, pairs_in, IsSubregion}
use Rattle.code_laws.specs.Typed.{IsCallable}
use Rattle.code_laws.proofs.Arguments.{first_region, part_space}
use Rattle.code_laws.proofs.Began.{began_lies, lies_below, part_given}
use Rattle.code_laws.proofs.CallCuts.{divided_at, partition_inside, partition_there}
use Rattle.code_laws.proofs.CallValues.{by_name, by_part, value_at}
use Rattle.code_laws.proofs.Calling.{given_number}
use Rattle.code_laws.proofs.Handing.{AreGivenBy, IsGivenBy}
use Rattle.code_laws.proofs.Parts.{colour_seen, cut_of, parent_inside, part_at_colour, part_lies_in, part_within, point_of}
use Rattle.code_laws.proofs.Reaching.{a_region_there, field_there, kept_here, region_covered, region_had, region_lies_in}
use Rattle.code_laws.proofs.Requiring.{covered_within, requirements_there}
use Rattle.code_laws.proofs.Under.{under_named, under_numbered, IsOfNumber, lies_up}
use Rattle.code_laws.proofs.Values.{named}
use Rattle.code_laws.proofs.Wider.{into_simple}
use Rattle.code_laws.proofs.Pieced.{bound_there}
use Rattle.code_laws.proofs.SeenColours.{bound_once, written_seen}
use Rattle.regent_tree.specs.Lookup.{is_bound}
use Rattle.regent_tree.specs.declared.typing.Bound.{Bound}
use Rattle.check_laws.specs.SoundScopes.{Falls}
use Rattle.check_laws.proofs.Scopes.{found_by_number}

module _ (x : Setting) (params slots : ℕ) (fit : SlotsFit x slots) {deep : ℕ} (aside : Aside deep) where
  abbrev AreGiven : Here → List StaticType → Expressions → List Value → List Value → Type 0
  AreGiven h ps es vs names = AreGivenBy x params slots fit aside h ps es vs names

  -- ---- needs

  met_at : (keeps : Bool) (o : Option Taking) (w : Where) (es : Expressions) (ns : List NeedCode) (n : NeedCode) → AreMet keeps o w es ns → Has ns n →
      IsMetAt keeps o w es n
  met_at keeps o w es [] n a h = absurd h
  met_at keeps o w es (k ∷ ns) n a (inl e) = subst (λ k. IsMetAt keeps o w es k) e a.0
  met_at keeps o w es (k ∷ ns) n a (inr h) = met_at keeps o w es ns n a.1 h

  -- the region that a need is on lies within one that a name has
  record OnRegion (h : Here) (s : State) (vs : List Value) (n : NeedCode) : Type 0 where
    type : StaticType
    region : IsRegion type
    field : n.field < length (space_at h.tree (space_in type)).fields
    may : MayDo x.forms.takes (term_in type) n.field n.mode
    whole : Region
    inside : IsInside x s.store type (a_region whole)
    points : Region
    is : slice_get vs n.param ≡ Some (a_region points)
    root : points.root ≡ whole.root
    within : (k : ℕ) → has points.points k ≡ true → has whole.points k ≡ true

  on_name : (h : Here) (s : State) (i : Instance) (ps : List StaticType) (es : Expressions) (vs : List Value) (n : NeedCode) →
      (takes : Option Taking) → x.forms.takes ≡ takes → (o : Option Name) → name_at es n.param ≡ o → IsMet takes (where_of params h) n o →
      AreGiven h ps es vs s.names → Agrees x params slots aside h s i → OnRegion h s vs n
  on_name h s i ps es vs n None e o at m a g = absurd m
  on_name h s i ps es vs n (Some y) e None at m a g = absurd m
  on_name h s i ps es vs n (Some y) e (Some name) at m a g =
      let b = bound_to h.scope.names name in
      let v = get_or s.names b.place nothing in
      let q = a_region_there b.static_type v m.1 (named IsOf h.scope.names s.names name g.typed m.0).holding in record {
        type = b.static_type;
        region = m.1;
        field = m.2;
        may = subst (λ o. MayDo o (term_in b.static_type) n.field n.mode) (sym e) m.3;
        whole = q.0;
        inside = subst (IsInside x s.store b.static_type) q.2 (named (IsInside x s.store) h.scope.names s.names name g.inside_store m.0).holding;
        points = q.0;
        is = value_at x params slots fit aside h ps es vs s.names n.param name a at m.1 ∙ ap (λ u. Some u) q.2;
        root = refl;
        within = λ k e. e;
      }

  on_part : (h : Here) (s : State) (i : Instance) (ps : List StaticType) (es : Expressions) (vs : List Value) (n : NeedCode) →
      (takes : Option Taking) → x.forms.takes ≡ takes → (o : Option (Name × Expression)) → part_at es n.param ≡ o →
      IsMetPart takes (where_of params h) n o → AreGiven h ps es vs s.names → Agrees x params slots aside h s i → OnRegion h s vs n
  on_part h s i ps es vs n None e o at m a g = absurd m
  on_part h s i ps es vs n (Some y) e None at m a g = absurd m
  on_part h s i ps es vs n (Some y) e (Some p) at m a g =
      let t = (parent_bound (where_of params h) p.0).static_type in
      let b = by_part x params slots fit aside h ps es vs s.names n.param p a at m.0 in
      let k = b.coloured in
      let c = cut_of x params slots fit aside h s i p.0 k.partition m.0 k.has_it g in record {
        type = t;
        region = c.is.region;
        field = m.1;
        may = subst (λ o. MayDo o (term_in t) n.field n.mode) (sym e) m.2;
        whole = c.parent;
        inside = parent_inside x params slots fit aside h s i (parent_of (bound_to h.scope.names p.0).static_type) k.partition c g;
        points = part_at_colour k.partition k.colour;
        is = b.at ∙ ap (λ u. Some u) k.is;
        root = c.root;
        within = λ point e. part_within c.parent.points k.partition.sets k.colour point c.sets k.low e;
      }

  on_region : (h : Here) (s : State) (i : Instance) (ps : List StaticType) (es : Expressions) (vs : List Value) (n : NeedCode) → (keeps : Bool) →
      IsMetAt keeps x.forms.takes (where_of params h) es n → AreGiven h ps es vs s.names → Agrees x params slots aside h s i → OnRegion h s vs n
  on_region h s i ps es vs n false m a g = on_name h s i ps es vs n x.forms.takes refl (name_at es n.param) refl m a g
  on_region h s i ps es vs n true (inl m) a g = on_name h s i ps es vs n x.forms.takes refl (name_at es n.param) refl m a g
  on_region h s i ps es vs n true (inr m) a g = on_part h s i ps es vs n x.forms.takes refl (part_at es n.param) refl m a g

  taken_by : (h : Here) (s : State) (i : Instance) (ps : List StaticType) (es : Expressions) (vs : List Value) → AreGiven h ps es vs s.names →
      Agrees x params slots aside h s i → AreTaken (IsTaken x.forms.takes x.code s.store) ps vs
  taken_by h s i [] no_expr [] a g = tt
  taken_by h s i (p ∷ ps) (an_expr e es) (v ∷ vs) a g = (one a.0, taken_by h s i ps es vs a.1 g)
    where
      divided : (p : StaticType) (q : Partition) (y : Taking) → x.forms.takes ≡ Some y → IsPartition p → q.root < length s.store →
          IsTaken x.forms.takes x.code s.store p (a_partition q)
      divided _ q y takes (a_partition_type d r own) low = takes_partition y d r own q takes low

      passed_is : (t u p : StaticType) (v : Value) → Passes t u p → IsOf p v → IsTaken x.forms.takes x.code s.store p v
      passed_is t _ _ v (passes_plain _ u goes) o = takes_value u v (into_simple t u goes) o
      passed_is _ _ _ _ (passes_pointer _ k sp args brgs rs qs n e) (of_pointer _ _ _ _ tg regions o) = takes_pointer k sp args rs tg regions o

      region : (b p : StaticType) (q : Region) (y : Taking) → x.forms.takes ≡ Some y → AreRegions b p → LiesIn x.code s.store (space_in b) q →
          IsTaken x.forms.takes x.code s.store p (a_region q)
      region _ _ q y takes (two_regions k l sp args brgs r u) lies = takes_region y l sp brgs u q takes lies

      one : IsGivenBy x params slots fit aside h p e v s.names → IsTaken x.forms.takes x.code s.store p v
      one (inl c) = passed_is (typed (where_of params h) e) c.0 p v c.1 c.2
      one (inr (inr (inr is))) =
          let b = bound_to h.scope.names is.name in
          let u = get_or s.names b.place nothing in
          let q = partition_there b.static_type u is.cut.partition (named IsOf h.scope.names s.names is.name g.typed is.cut.named).holding in
          subst (IsTaken x.forms.takes x.code s.store p) (sym (is.is ∙ q.1))
          (divided p q.0 is.taking is.takes is.partition
          (partition_inside x s.store b.static_type q.0 is.cut.partition
          (subst (IsInside x s.store b.static_type) q.1 (named (IsInside x s.store) h.scope.names s.names is.name g.inside_store is.cut.named).holding)))
      one (inr (inr (inl is))) =
          let w = where_of params h in
          let k = is.coloured in
          let r = parent_of (bound_to h.scope.names is.name).static_type in
          let t = (parent_bound w is.name).static_type in
          let c = cut_of x params slots fit aside h s i is.name k.partition is.cut k.has_it g in
          let lies = part_lies_in x.code s.store (space_in t) c.parent k.partition k.colour c.root c.sets k.low
          (region_lies_in x s.store t c.parent c.is.region (parent_inside x params slots fit aside h s i r k.partition c g)) in
          subst (IsTaken x.forms.takes x.code s.store p) (sym k.is)
          (region (typed w e) p (part_at_colour k.partition k.colour) is.taking is.takes is.regions
          (subst (λ sp. LiesIn x.code s.store sp (part_at_colour k.partition k.colour))
          (sym (part_space w e (is.name, is.index) is.stands is.cut c.is.region)) lies))
      one (inr (inl is)) =
          let b = bound_to h.scope.names is.name in
          let u = get_or s.names b.place nothing in
          let q = a_region_there b.static_type u (first_region b.static_type p is.regions) (named IsOf h.scope.names s.names is.name g.typed is.there).holding in
          subst (IsTaken x.forms.takes x.code s.store p) (sym (is.is ∙ q.2))
          (region b.static_type p q.0 is.taking is.takes is.regions
          (region_lies_in x s.store b.static_type q.0 (first_region b.static_type p is.regions)
          (subst (IsInside x s.store b.static_type) q.2 (named (IsInside x s.store) h.scope.names s.names is.name g.inside_store is.there).holding)))
  taken_by h s i [] no_expr (v ∷ vs) a g = absurd a
  taken_by h s i [] (an_expr e es) vs a g = absurd a
  taken_by h s i (p ∷ ps) no_expr vs a g = absurd a
  taken_by h s i (p ∷ ps) (an_expr e es) [] a g = absurd a

  -- ---- constraints

  parted_lies : (h : Here) (s : State) (i : Instance) (ps : List StaticType) (es : Expressions) (vs : List Value) (y : Taking) (j k : ℕ) (o u : Option Name) →
      x.forms.takes ≡ Some y → name_at es j ≡ o → name_at es k ≡ u → IsParted y (where_of params h) o u → AreGiven h ps es vs s.names →
      Agrees x params slots aside h s i → IsSubregion (given_region vs j) (given_region vs k)
  parted_lies h s i ps es vs y j k None u e at there is a g = absurd is
  parted_lies h s i ps es vs y j k (Some m) None e at there is a g = absurd is
  parted_lies h s i ps es vs y j k (Some m) (Some n) e at there is a g =
      let b = by_name x params slots fit aside h s i ps es vs j m at is.0 is.2 a g in
      let c = by_name x params slots fit aside h s i ps es vs k n there is.1 is.3 a g in
      subst (λ q. IsSubregion q (given_region vs k)) (sym b.is)
      (subst (IsSubregion b.region) (sym c.is)
      (⊎_elim
      (λ same. subst (IsSubregion b.region)
      (ap region_of (sym b.value ∙ ap (λ n. get_or s.names (bound_to h.scope.names n).place nothing) same ∙ c.value)) (refl, λ root point in_it. in_it))
      (⊎_elim
      (λ part. part_given x params slots fit aside y (term_in (bound_to h.scope.names m).static_type) (term_in (bound_to h.scope.names n).static_type) b.region c.region e
      part b.had c.had g.framed.parts)
      (λ (began : BeganWithin y (where_of params h) (term_in (bound_to h.scope.names m).static_type) (bound_to h.scope.names n)).
      began_lies x params slots fit aside h s i y (bound_to h.scope.names m).static_type (get_or s.names (bound_to h.scope.names m).place nothing) (bound_to h.scope.names n)
      b.region c.region e is.2 b.value c.value c.had
      (under_named x.forms.takes h.scope.next h.scope.names s.names m began.numbers g.under is.0) began g)) is.4))

  -- a part lies within what its whole lies within, and within the part of the same colour
  within_whole : (parent : Region) (q : Partition) (c : ℕ) → q.root ≡ parent.root → ArePartsOf parent.points q.sets → c < length q.sets →
      LiesWithin (part_at_colour q c) parent
  within_whole parent q c root parts low r point e = (sym root ∙ e.0, part_within parent.points q.sets c point parts low e.1)

  one_seen : (h : Here) (e f : Expression) (names : List Value) → AreOneColour e f →
      (y : ℤ) × (colour_seen h e names ≡ Some y) × (colour_seen h f names ≡ Some y)
  one_seen h _ _ names (one_number z v w) = (z, refl, refl)
  one_seen h _ _ names (one_name n) = (point_of (get_or names (bound_to h.scope.names n).place nothing), refl, refl)

  below_lies : (h : Here) (s : State) (i : Instance) (ps : List StaticType) (es : Expressions) (vs : List Value) (y : Taking) (j k : ℕ)
      (p : Option (Name × Expression)) (o : Option Name) (u : Option (Name × Expression)) → x.forms.takes ≡ Some y → part_at es j ≡ p → name_at es k ≡ o →
      part_at es k ≡ u → IsPartBelow y (where_of params h) p o u → AreGiven h ps es vs s.names → Agrees x params slots aside h s i →
      IsSubregion (given_region vs j) (given_region vs k)
  below_lies h s i ps es vs y j k None o u e at there other is a g = absurd is
  below_lies h s i ps es vs y j k (Some p) None None e at there other is a g = absurd is
  below_lies h s i ps es vs y j k (Some p) (Some n) u e at there other is a g =
      let r = parent_of (bound_to h.scope.names p.0).static_type in
      let t = (parent_bound (where_of params h) p.0).static_type in
      let b = by_part x params slots fit aside h ps es vs s.names j p a at is.0 in
      let c = b.coloured in
      let d = cut_of x params slots fit aside h s i p.0 c.partition is.0 c.has_it g in
      let outer = by_name x params slots fit aside h s i ps es vs k n there is.1.named is.1.region a g in
      let whole : IsSubregion d.parent outer.region =
      lies_below x params slots fit aside h s i (parent_bound (where_of params h) p.0) (bound_to h.scope.names n) d.parent outer.region d.is.value outer.value d.is.region
      (region_had x s.store t d.parent d.is.region (parent_inside x params slots fit aside h s i r c.partition d g)) outer.had
      (under_numbered x.forms.takes h.scope.next h.scope.names s.names r is.0.numbers g.under d.is.region)
      (subst (λ o. LiesBelow o (where_of params h) (parent_bound (where_of params h) p.0) (bound_to h.scope.names n)) (sym e) is.2) g in
      subst (λ q. IsSubregion q (given_region vs k))
      (sym (ap region_of (get_or_from_slice_get vs j b.value (a_truth false) b.at ∙ c.is)))
      (subst (IsSubregion (part_at_colour c.partition c.colour)) (sym outer.is)
      (d.root ∙ whole.0, λ root point e. whole.1 root point (within_whole d.parent c.partition c.colour d.root d.sets c.low root point e)))
  below_lies h s i ps es vs y j k (Some p) None (Some q) e at there other is a g =
      let b = by_part x params slots fit aside h ps es vs s.names j p a at is.0 in
      let c = by_part x params slots fit aside h ps es vs s.names k q a other (subst (IsCutName (where_of params h)) is.1 is.0) in
      let bc = b.coloured in
      let cc = c.coloured in
      let partitions : bc.partition ≡ cc.partition =
      ap partition_of (sym bc.has_it ∙ ap (λ n. get_or s.names (bound_to h.scope.names n).place nothing) is.1 ∙ cc.has_it) in
      let o = one_seen h p.1 q.1 s.names is.2 in
      let colours : bc.colour ≡ cc.colour = ap nat_abs (sym (bc.seen o.0 o.1) ∙ cc.seen o.0 o.2) in
      let same : given_region vs j ≡ given_region vs k =
      ap region_of (get_or_from_slice_get vs j b.value (a_truth false) b.at ∙ bc.is)
      ∙ ap (λ q. part_at_colour q bc.colour) partitions ∙ ap (part_at_colour cc.partition) colours
      ∙ sym (ap region_of (get_or_from_slice_get vs k c.value (a_truth false) c.at ∙ cc.is)) in
      subst (IsSubregion (given_region vs j)) same (refl, λ root point in_it. in_it)

  -- a region lies within the part of a colour where it began as that one, or as a part of what lies within that
  landed : (h : Here) (s : State) (i : Instance) (ps : List StaticType) (es : Expressions) (vs : List Value) (y : Taking) (lower k : ℕ) (q : Name × Expression) (r : Region) →
      x.forms.takes ≡ Some y → IsOfNumber h.scope.names s.names lower r → LandsIn y (where_of params h) lower q → part_at es k ≡ Some q → AreGiven h ps es vs s.names →
      Agrees x params slots aside h s i → IsSubregion r (given_region vs k)
  landed h s i ps es vs y lower k q r e of l at a g =
      let names = h.scope.names in
      let falls = l.cut.numbers in
      let under = subst (λ o. AreUnder o names s.names) e g.under in
      let up = lies_up y h.scope.next names s.names falls under lower l.upper l.up r of in
      let top = bound_as names l.upper in
      let part = (under_numbered (Some y) h.scope.next names s.names l.upper falls under up.1.is.region).1 l.upper
      ((bound_to names q.0).number, colour_of h.scope q.1) up.0 up.1.is.region up.1.named l.behind l.piece up.1.is.value in
      let b = by_part x params slots fit aside h ps es vs s.names k q a at l.cut in
      let c = b.coloured in
      let same = bound_once h.scope.next names part.cut (bound_to names q.0) falls part.there (bound_there names q.0 l.cut.named) part.number in
      let partitions : part.partition ≡ c.partition =
      ap partition_of (sym part.has_it ∙ ap (λ (b : Bound). get_or s.names b.place nothing) same ∙ c.has_it) in
      let seen = written_seen h q.1 s.names part.colour falls l.certain part.is_colour in
      let colours : part.colour ≡ c.colour = ap nat_abs (sym seen.is ∙ c.seen seen.number seen.seen) in
      let is : up.0 ≡ given_region vs k =
      part.is ∙ ap (λ p. part_at_colour p part.colour) partitions ∙ ap (part_at_colour c.partition) colours
      ∙ sym (ap region_of (get_or_from_slice_get vs k b.value (a_truth false) b.at ∙ c.is)) in
      subst (IsSubregion r) is up.2

  -- the region that a name has
  named_number : (h : Here) (s : State) (n : Name) (r : Region) → is_bound h.scope.names n ≡ true → Falls h.scope.next h.scope.names → IsRegion (bound_to h.scope.names n).static_type →
      term_in (bound_to h.scope.names n).static_type ≡ term.Name (bound_to h.scope.names n).number → (bound_to h.scope.names n).place < length h.scope.names →
      get_or s.names (bound_to h.scope.names n).place nothing ≡ a_region r → IsOfNumber h.scope.names s.names (bound_to h.scope.names n).number r
  named_number h s n r there falls region own low value =
      let names = h.scope.names in
      let number = (bound_to names n).number in
      let is = subst (λ (b : Bound). IsOfName b (length names) s.names (space_in b.static_type) number r × (term_in b.static_type ≡ term.Name number))
      (sym (found_by_number h.scope.next names n falls there).0)
      (record { numbered = refl; region = region; space = refl; below = low; value = value }, own) in
      record { is = is.0; named = is.1 }

  piece_lies : (h : Here) (s : State) (i : Instance) (ps : List StaticType) (es : Expressions) (vs : List Value) (y : Taking) (j k : ℕ)
      (o : Option Name) (p u : Option (Name × Expression)) → x.forms.takes ≡ Some y → name_at es j ≡ o → part_at es j ≡ p → part_at es k ≡ u →
      IsPieceBelow y (where_of params h) o p u → AreGiven h ps es vs s.names → Agrees x params slots aside h s i → IsSubregion (given_region vs j) (given_region vs k)
  piece_lies h s i ps es vs y j k (Some m) p (Some q) e at part there is a g =
      let b = by_name x params slots fit aside h s i ps es vs j m at is.0.named is.0.region a g in
      let low = (named IsOf h.scope.names s.names m g.typed is.0.named).below in
      subst (λ r. IsSubregion r (given_region vs k)) (sym b.is)
      (landed h s i ps es vs y (bound_to h.scope.names m).number k q b.region e
      (named_number h s m b.region is.0.named is.0.numbers is.0.region is.1 low b.value) is.2 there a g)
  piece_lies h s i ps es vs y j k None (Some p) (Some q) e at part there is a g =
      let b = by_part x params slots fit aside h ps es vs s.names j p a part is.0 in
      let c = b.coloured in
      let d = cut_of x params slots fit aside h s i p.0 c.partition is.0 c.has_it g in
      let whole = landed h s i ps es vs y (parent_of (bound_to h.scope.names p.0).static_type) k q d.parent e (record { is = d.is; named = is.1 }) is.2 there a g in
      subst (λ r. IsSubregion r (given_region vs k)) (sym (ap region_of (get_or_from_slice_get vs j b.value (a_truth false) b.at ∙ c.is)))
      (d.root ∙ whole.0, λ root point e. whole.1 root point (within_whole d.parent c.partition c.colour d.root d.sets c.low root point e))
  piece_lies h s i ps es vs y j k (Some m) p None e at part there is a g = absurd is
  piece_lies h s i ps es vs y j k None (Some p) None e at part there is a g = absurd is
  piece_lies h s i ps es vs y j k None None u e at part there is a g = absurd is

  parted_at : (keeps : Bool) (y : Taking) (w : Where) (es : Expressions) (ps : List (ℕ × ℕ)) (p : ℕ × ℕ) → AreParted keeps (Some y) w es ps → Has ps p →
      IsPartedAt keeps y w es p
  parted_at keeps y w es [] p a h = absurd h
  parted_at keeps y w es (k ∷ ps) p a (inl e) = subst (IsPartedAt keeps y w es) e a.0
  parted_at keeps y w es (k ∷ ps) p a (inr h) = parted_at keeps y w es ps p a.1 h

  all_lies : (h : Here) (s : State) (i : Instance) (ps : List StaticType) (es : Expressions) (vs : List Value) (y : Taking) (p : ℕ × ℕ) (keeps : Bool) →
      x.forms.takes ≡ Some y → IsPartedAt keeps y (where_of params h) es p → AreGiven h ps es vs s.names → Agrees x params slots aside h s i →
      IsSubregion (given_region vs p.0) (given_region vs p.1)
  all_lies h s i ps es vs y p false e is a g = parted_lies h s i ps es vs y p.0 p.1 (name_at es p.0) (name_at es p.1) e refl refl is a g
  all_lies h s i ps es vs y p true e (inl is) a g = parted_lies h s i ps es vs y p.0 p.1 (name_at es p.0) (name_at es p.1) e refl refl is a g
  all_lies h s i ps es vs y p true e (inr (inr is)) a g =
      piece_lies h s i ps es vs y p.0 p.1 (name_at es p.0) (part_at es p.0) (part_at es p.1) e refl refl refl is a g
  all_lies h s i ps es vs y p true e (inr (inl is)) a g =
      below_lies h s i ps es vs y p.0 p.1 (part_at es p.0) (name_at es p.1) (part_at es p.1) e refl refl refl is a g

  -- a call takes what its arguments are, and requires no more than its caller has
  pub record CallTakes (h : Here) (task : Name) (vs : List Value) (s : State) (i : Instance) : Type 0 where
    pub takes : Takes x.forms.takes x.code h.tree task vs s.store (give_parts i.parts i.contents)
    pub within : is_within takes.needs i.needs ≡ true

  pub call_takes : (h : Here) (task : Name) (es : Expressions) (vs : List Value) (s : State) (i : Instance) →
      IsCallable x.forms (where_of params h) task es → AreGiven h (param_types h.tree (task_named h.tree task)) es vs s.names →
      Agrees x params slots aside h s i → CallTakes h task vs s i
  call_takes h task es vs s i fine a g =
      let w = where_of params h in
      let ps = param_types h.tree (task_named h.tree task) in
      let ns = (task_code h.tree (task_named h.tree task)).needs in
      let c = give_parts i.parts i.contents in
      let args = map (machine_value c) vs in
      let stands = given_stands x.code s.store (memory_of i) g.memory in
      let on : (n : NeedCode) → Has ns n → OnRegion h s vs n =
      λ n k. on_region h s i ps es vs n x.forms.keeps (met_at x.forms.keeps x.forms.takes w es ns n fine.1 k) a g in
      let region : (n : NeedCode) (k : Has ns n) → region_in (slice_get args n.param)
      ≡ Some (region_with (number_at c (on n k).points.root) (on n k).points.points) =
      λ n k. ap region_in (slice_get-map (machine_value c) vs n.param ∙ ap (option_map (machine_value c)) (on n k).is) in
      let there = requirements_there x.code c args ns (λ n k.
      let o = on n k in
      record {
        region = region_with (number_at c o.points.root) o.points.points;
        at = region n k;
        field = subst (λ sp. n.field < length (kinds_of x.code sp))
            (sym (ap (λ (s : Shape). s.space) (stands.shape o.points.root) ∙ ap (λ r. (get_or s.store r no_root).space) o.root
            ∙ (region_lies_in x s.store o.type o.whole o.region o.inside).of_space))
            (field_there x.code h.tree (space_in o.type) n.field g.spaces o.field);
      }) in
      let parts : (y : Taking) → x.forms.takes ≡ Some y → AreParts vs (pairs_in (scope_of h.tree (task_named h.tree task)).known) =
      λ y e p k. all_lies h s i ps es vs y p x.forms.keeps e
      (parted_at x.forms.keeps y w es (pairs_in (scope_of h.tree (task_named h.tree task)).known) p
      (subst (λ o. AreParted x.forms.keeps o w es (pairs_in (scope_of h.tree (task_named h.tree task)).known)) e fine.2)
      (Has-from_Contains (pairs_in (scope_of h.tree (task_named h.tree task)).known) p k)) a g in record {
        takes = record { there = fine.0; taken = taken_by h s i ps es vs a g; parts = parts; goals = fine.3; divided = divided_at x params slots fit aside h s i ps es vs a g 0 ps es vs (λ j. ap (name_at es) (omega arith)) a fine.4; kept = kept_here x params slots aside h s i g; needs = there.0; required = there.1 };
        within = covered_within x.code c args ns there.0 i.needs there.1 (λ root field point m k.
            let n = k.need in
            let o = on n k.among in
            let same : region_with (number_at c o.points.root) o.points.points ≡ k.region = same_Some _ k.region (sym (region n k.among) ∙ k.at) in
            let root_is : number_at i.contents o.whole.root ≡ root =
            given_number i.parts i.contents o.whole.root ∙ ap (number_at c) (sym o.root) ∙ ap (λ (v : RegionValue). v.root.0) same ∙ k.root_is in
            let covers : Covers n.mode (mode_at i.needs (number_at i.contents o.whole.root) n.field point) =
            region_covered x s.store (memory_of i) i.frame.own o.type o.whole n.field point n.mode o.region o.inside o.may g.framed
            (o.within point (ap (λ (v : RegionValue). has v.points point) same ∙ k.has_it)) (field_there x.code h.tree (space_in o.type) n.field g.spaces o.field) in
            subst (λ m. Covers m (mode_at i.needs root field point)) k.mode_is
            (subst (λ f. Covers n.mode (mode_at i.needs root f point)) k.field_is
            (subst (λ r. Covers n.mode (mode_at i.needs r n.field point)) root_is covers)));
      }
