-- What a launch hands over at a colour is alike to what the call of a round hands over whose frame has the colour in the loop's variable.
use Rattle.std.proofs.Common.{◌≡◌, inl, inr, ℕ, suc, ◌<◌, ◌+◌, pos, List, [], ◌∷◌, Bool, true, false, cond, None, Some, refl, sym, ap, ◌∙◌, subst, arith}
use Rattle.std.specs.Prelude.{bytes_eq, length, not, slice_get, take}
use Rattle.std.proofs.lemmas.Bool.{false≢true, not-true}
use Rattle.std.proofs.lemmas.Int.{ints}
use Rattle.std.proofs.lemmas.Option.{same_Some}
use Rattle.index_launch.specs.Points.{at_colour, call_at}
use Rattle.index_launch.specs.declared.points.LaunchArg.TheVariants as launch_arg
use Rattle.index_launch.specs.declared.points.PointArg.TheVariants as point
use Rattle.lane_kernels.specs.declared.numbers.Width.TheVariants.{W32, W64}
use Rattle.point_sets.proofs.Rising.{members_decide}
use Rattle.plain_values.specs.Points.{has}
use Rattle.regent_tree.specs.Lookup.{is_bound, type_named}
use Rattle.regent_tree.specs.Scopes.{with_name}
use Rattle.regent_tree.specs.StaticTypes.{number_type}
use Rattle.regent_tree.specs.Syntax.{Expression, Expressions, Name, access_expr, an_expr, at_step, convert_expr, no_expr, no_step}
use Rattle.regent_tree.specs.Typing.{parent_of}
use Rattle.regent_tree.specs.declared.facts.Term.TheVariants as term
use Rattle.regent_tree.specs.declared.types.Kind.{Kind}
use Rattle.regent_tree.specs.declared.types.NumberTerm.{NumberTerm}
use Rattle.regent_tree.specs.declared.types.NumberTerm.TheVariants as number
use Rattle.regent_tree.specs.declared.typing.Bound.{Bound}
use Rattle.regent_tree.specs.declared.typing.StaticType.{StaticType}
use Rattle.regent_tree.specs.declared.typing.StaticType.TheVariants.{Index as index_type, Region as region_type}
use Rattle.task_code.specs.declared.code.TaskCode.{TaskCode}
use Rattle.machine_terms.specs.declared.value.RegionValue.{RegionValue}
use Rattle.machine_terms.specs.declared.value.Value.{Value}
use Rattle.machine_terms.specs.declared.value.Value.TheVariants as value
use Rattle.machine_terms.specs.Launches.{argument, arguments}
use Rattle.machine_terms.specs.Pointers.{region_in}
use Rattle.machine_terms.specs.Regions.{partition_in}
use Rattle.check_rules.specs.types.Sorts.{type_at}
use Rattle.code_rules.specs.Launches.{arg_of, args_of, is_fixed, kept, varying_arg}
use Rattle.code_rules.specs.Slots.{Where, bound, slot_bound, slot_named, typed}
use Rattle.code_laws.specs.Arguments.{IsCutName, name_of}
use Rattle.code_laws.specs.Pointers.{a_pointer_type, fills_alike, fills_index, into_index, into_plain, into_space}
use Rattle.code_laws.specs.Simple.{AreRegions, IsNumber, IsPartition, number_index, number_integer, two_integers, two_regions, two_truths}
use Rattle.code_laws.specs.Steps.{Forms}
use Rattle.code_laws.specs.Typed.{ArePassed, IsIndexed, IsPassed, IsTyped}
use Rattle.code_laws.proofs.Arguments.{first_region, handed_name}
use Rattle.code_laws.proofs.LaunchShapes.{AreForms, IsLaunched, launched_child, launched_conversion, launched_name, launched_none, launched_number, launched_so, launched_truth, launched_variable}
use Rattle.code_laws.proofs.LaunchTypes.{conversion_no_access, cut_no_region, name_no_step, unknown_no_region}
use Rattle.code_laws.proofs.LaunchValues.{bound_own, variable}
use Rattle.fit_rules.specs.Shapes.{Among, any_colour, Are, are_more, are_none, cut_from, HasColour, HasNumber, held_at, Is, is_number, is_region, IsChild, NumberIs, partition, region, unknown, World}
use Rattle.fit_rules.specs.Marks.{around, Fact, Holds, in_slot, lies, Mark, parted, stacked, Suits}
use Rattle.fit_rules.specs.Fits.{Program}
use Rattle.fit_laws.proofs.Held.{region_held}
use Rattle.fit_laws.proofs.Keeping.{same_holds}
use Rattle.fit_laws.proofs.Launches.{both_there, handed_child}
use Rattle.fit_laws.proofs.Lookup.{as_long, each_among, value_at}
use Rattle.sound_code.proofs.SlotShapes.{regions_plain, slot_plain}
use Rattle.sound_code.specs.Named.{Ready, slot_at}
use Rattle.sound_code.specs.Ways.{origin_in, shape_in, shape_of, Way}
use Rattle.sound_code.proofs.Alike.{Alike, alike_regions, alike_same, AllAlike, more_alike, none_alike}
use Rattle.sound_code.proofs.Asked.{Asked}
use Rattle.sound_code.proofs.Calling.{worth_is}
use Rattle.sound_code.proofs.Colours.{colour_at, held_colour, IsUnder}
use Rattle.sound_code.proofs.Cutting.{child_within, cut_known, region_known}
use Rattle.sound_code.proofs.Handed.{all_handed, cut_handed, given_child, given_cut_is, handed, held_in, part_handed, region_handed, worth_handed}
use Rattle.sound_code.proofs.KeptMarks.{AreKept, cut_facts, cut_kept, IsKept, kept_facts, kept_shape, region_facts, region_kept, worth_kept}
use Rattle.sound_code.proofs.LaunchedNames.{cut_low, inside, low_outside, low_region, named_outside, no_cut_seen, no_own_cut, no_own_region, own_type, part_of_cut, turn, turn_outside}
use Rattle.sound_code.proofs.Parts.{cut_of, IsCutOf, parent_there, part_regions}
use Rattle.sound_code.proofs.Plain.{plain_origin}
use Rattle.sound_code.proofs.RoundFrames as rounds
use Rattle.sound_code.proofs.Truths.{same_truths}
use Rattle.sound_code.proofs.WholeTasks.{are_whole_arguments}
use Rattle.sound_code.proofs.Wholes.{Asks, asks_first, asks_second, AsksArgument, Becomes, becomes_plain, becomes_pointer, Enters, given_whole, IsWorth}

-- ---- a colour is a number of each type that an index becomes

converted_number : (t : NumberTerm) → IsNumber (number_type t)
converted_number number.Int32 = number_integer W32
converted_number number.Int64 = number_integer W64
converted_number (number.Index k) = number_index k

colour_is : (from u : StaticType) (c : ℕ) → c < 4194304 → IsNumber from → Becomes from u → NumberIs (shape_of u) (pos c)
colour_is _ _ c low n (becomes_plain _ _ (into_plain _ _ (fills_alike _ _ (two_integers a W32)))) = omega (arith, ints, low)
colour_is _ _ c low n (becomes_plain _ _ (into_plain _ _ (fills_alike _ _ (two_integers a W64)))) = omega (arith, ints, low)
colour_is _ _ c low n (becomes_plain _ _ (into_plain _ _ (fills_index _ k is))) = omega (arith, ints, low)
colour_is _ _ c low n (becomes_plain _ _ (into_plain _ _ (fills_alike _ _ two_truths))) = elim n [ ]
colour_is _ _ c low n (becomes_plain _ _ (into_index k sp args rs j)) = elim n [ ]
colour_is _ _ c low n (becomes_plain _ _ (into_space j k)) = elim n [ ]
colour_is _ _ c low n (becomes_pointer _ k sp args rs (a_pointer_type j sq brgs qs names)) = elim n [ ]

module _ (g : Program) (t : TaskCode) (k slots : ℕ) (forms : Forms) (way : Way) (w : Where) (i : Name) (kind : Kind) (line : ℕ) (m : Mark)
    (r : Ready way w.params w.scope.names m) (ep : w.params ≡ t.params) (hi : slot_at w.params (length w.scope.names) + 2 < length m.slots) where
  abbrev here : Where
  here = inside w i kind line

  abbrev top : ℕ
  top = slot_at w.params (length w.scope.names)

  abbrev round : Mark
  round = turn g t k way w m r ep hi

  module _ (asked : Asked g t k slots forms way here round) (t1 : StaticType) (o : Mark) (x : World) (vs : List Value) (c : ℕ) (small : c < 4194304)
      (before : Suits x t.params (stacked m []) vs []) (s : Suits x t.params (stacked o []) vs []) where
    abbrev seen : List Bound
    seen = (with_name w.scope i t1 true).names

    -- the frame of the round at the colour, and what stands around the arguments there
    abbrev pub us : List Value
    us = rounds.frame g t k way w.params w.scope.names m r ep hi vs c

    abbrev pub y : World
    y = around x round us

    pub in_round : Suits x t.params (stacked round []) us []
    in_round = rounds.round_suits g t k way w.params w.scope.names m r ep hi x vs c small before

    same_below : (q : ℕ) → q < top → slice_get us q ≡ slice_get vs q
    same_below q l = rounds.other_slot g t k way w.params w.scope.names m r ep hi vs c q (λ e. omega (arith, e, l)) (λ e. omega (arith, e, l)) (λ e. omega (arith, e, l))

    same_above : (q : ℕ) → top + 2 < q → slice_get us q ≡ slice_get vs q
    same_above q l = rounds.other_slot g t k way w.params w.scope.names m r ep hi vs c q (λ e. omega (arith, e, l)) (λ e. omega (arith, e, l)) (λ e. omega (arith, e, l))

    -- the value that the round's call hands over
    pub record Given (p : StaticType) (e : Expression) (z : Value) : Type 0 where
      pub it : Value
      pub of : Is y (handed way here p e) it
      pub like : Alike it z

    worth_given : (p : StaticType) (e : Expression) (z : Value) → IsWorth p → Is x (shape_of p) z → Given p e z
    worth_given p e z worth h =
        record { it = z; of = subst (λ a. Is y a z) (sym (worth_handed way here p e worth)) (worth_is x y p z worth h); like = alike_same z }

    -- ---- what waits in a slot

    module _ (place : ℕ) (p : StaticType) (e : Expression) (waits : IsKept way here i place p e o) (z : Value) (at : slice_get vs (kept here place) ≡ Some z) where
      kept_is : Is x (kept_shape way here p e) z
      kept_is =
          let v = value_at x o.slots vs (kept here place) (kept_shape way here p e) s.slots waits.shape in
          subst (Is x (kept_shape way here p e)) (same_Some v.value z (sym v.at ∙ at)) v.of

      kept_holds : (fs : List Fact) (f : Fact) → kept_facts way here (kept here place) p e ≡ fs → Among fs f → Holds f vs
      kept_holds fs f same a = each_among (λ q. Holds q vs) o.facts f (waits.facts f (subst (λ qs. Among qs f) (sym same) a)) s.facts

    -- ---- regions

    -- the region in another slot, which is the same one
    record Twin (u : StaticType) (q : ℕ) (z : Value) : Type 0 where
      it : Value
      of : Is y (held_in q (shape_in way w.params u)) it
      like : Alike it z

    twin : (u p : StaticType) (q d : ℕ) (z : Value) → AreRegions u p → q < top → slice_get m.slots q ≡ Some (shape_in way w.params u) →
        Holds (lies (in_slot d) (in_slot q)) vs → Holds (lies (in_slot q) (in_slot d)) vs → slice_get vs d ≡ Some z → Is x (shape_in way w.params u) z → Twin u q z
    twin _ _ q d z (two_regions a b sp args brgs a1 b1) low there up down at h =
        let v = value_at x m.slots vs q (region (Some sp) (origin_in way w.params a1)) before.slots there in of v.value z v.at at v.of h
      where
        of : (v z : Value) → slice_get vs q ≡ Some v → slice_get vs d ≡ Some z → Is x (region (Some sp) (origin_in way w.params a1)) v →
            Is x (region (Some sp) (origin_in way w.params a1)) z → Twin (region_type a sp args a1) q z
        of _ z av az (is_number _ n e) h = absurd e
        of v _ av az h (is_number _ n e) = absurd e
        of _ _ av az (is_region _ _ one i1) (is_region _ _ two i2) =
            let over = up two (ap region_in az) in
            let under = down one (ap region_in av) in
            let same : over.other ≡ one = same_Some over.other one (sym over.at ∙ ap region_in av) in
            let back : under.other ≡ two = same_Some under.other two (sym under.at ∙ ap region_in az) in
            record {
              it = value.Region one;
              of = region_known g t k line round x us q sp (origin_in way w.params a1) (value.Region one) (plain_origin way w.params a1) (omega (arith, low))
                  (same_below q low ∙ av) (is_region _ _ one i1);
              like = alike_regions one two (under.inside.0 ∙ ap (λ (n : RegionValue). n.root.0) back)
                  (members_decide one.points two.points i1.set.rising i2.set.rising (λ n. same_truths (has one.points n) (has two.points n)
                  (λ e. subst (λ (d : RegionValue). has d.points n ≡ true) back (under.inside.1 n e))
                  (λ e. subst (λ (d : RegionValue). has d.points n ≡ true) same (over.inside.1 n e))));
            }

    region_given : (p : StaticType) (n : Name) (place : ℕ) (z : Value) → AreRegions (bound here n).static_type p → bytes_eq n i ≡ false → is_bound here.scope.names n ≡ true →
        IsKept way here i place p (access_expr n no_step) o → slice_get vs (kept here place) ≡ Some z → Given p (access_expr n no_step) z
    region_given p n place z regions other there waits at =
        let e = access_expr n no_step in
        let low = low_outside w i kind line way m r n other there in
        let facts = region_facts way here (kept here place) n (bound here n).static_type p regions in
        let same = twin (bound here n).static_type p (slot_named here n) (kept here place) z regions low (named_outside w i kind line way m r n other there ∙ ap (λ s. Some s) (slot_plain _ _ (regions_plain way w.params _ p regions)))
        (kept_holds place p e waits z at _ _ facts (inl refl)) (kept_holds place p e waits z at _ _ facts (inr (inl refl))) at
        (subst (λ a. Is x a z) (region_kept way here n (bound here n).static_type p regions) (kept_is place p e waits z at)) in
        record { it = same.it; of = subst (λ a. Is y a same.it) (sym (region_handed way here n (bound here n).static_type p regions)) same.of; like = same.like }

    -- ---- partitions and their parts

    module _ (n : Name) (keeps : forms.keeps ≡ true) (cut : IsCutName here n) where
      abbrev parent : ℕ
      parent = parent_of (bound here n).static_type

      abbrev its : IsCutOf here round n parent
      its = cut_of g t k slots forms way here round asked n keeps cut

      low : slot_named here n < top
      low = cut_low w i kind line way m r n cut

      up : slot_bound here parent < top
      up = low_region w i kind line way m r parent its.region

      cut_given : (p : StaticType) (place : ℕ) (z : Value) → IsPartition p → IsKept way here i place p (access_expr n no_step) o → slice_get vs (kept here place) ≡ Some z →
          Given p (access_expr n no_step) z
      cut_given p place z is waits at =
          let e = access_expr n no_step in
          let d = kept here place in
          let origin = origin_in way w.params (term.Name parent) in
          let facts = cut_facts way here d n p is in
          let of = subst (λ a. Is x a z) (cut_kept way here n p is ∙ ap (partition None) its.is) (kept_is place p e waits z at) in
          let parts = same_holds vs us (parted d (slot_bound here parent)) (same_above d (omega arith), same_below (slot_bound here parent) up)
          (kept_holds place p e waits z at _ _ facts (inl refl)) in
          let known = cut_known g t k line round x us d (slot_bound here parent) _ its.disjoint origin z (plain_origin way w.params (term.Name parent)) (omega (arith, up)) parts in_round.slots
          (parent_there g t k slots forms way here round asked n keeps cut) (same_above d (omega arith) ∙ at) of in
          record {
            it = z;
            of = subst (λ a. Is y a z) (sym (cut_handed way here n p is ∙ given_cut_is way here (bound here n).static_type cut.partition))
                (subst (λ b. Is y (cut_from None b (held_at (slot_bound here parent) origin)) z) (sym its.is) known);
            like = alike_same z;
          }

      -- the child at the colour, which is that of the loop's variable
      part_given : (p : StaticType) (v : Name) (z : Value) → bytes_eq v i ≡ true → AreRegions (typed here (access_expr n (at_step (access_expr v no_step) no_step))) p →
          argument vs (point.Child (slot_named here n) c) ≡ Some z → Given p (access_expr n (at_step (access_expr v no_step) no_step)) z
      part_given p v z own regions arg =
          let e = access_expr v no_step in
          let origin = origin_in way w.params (term.Name parent) in
          let q = handed_child x m.slots vs None its.disjoint (slot_named here n) c z before.slots (sym (turn_outside g t k way w m r ep hi _ low) ∙ its.shape) arg in
          let h = q.child in
          let child : IsChild us (slot_named here n) (colour_at here e) q.region = record {
            parts = h.parts;
            there = ap partition_in (same_below (slot_named here n) low) ∙ h.there;
            colour = h.colour;
            has_colour = subst (HasColour us (colour_at here e)) (sym h.has_colour) (colour.0);
            child = h.child;
          } in
          let within = child_within g t k line round x us (slot_named here n) (slot_bound here parent) _ (colour_at here e) origin q.region (plain_origin way w.params (term.Name parent))
          (omega (arith, low)) colour.1 (each_among (λ f. Holds f us) round.facts _ its.fact in_round.facts) in_round.slots
          (parent_there g t k slots forms way here round asked n keeps cut) (region_held x (take round.fixed us) None unknown q.region tt q.of_space) child in
          record {
            it = z;
            of = subst (λ u. Is y (handed way here p (access_expr n (at_step e no_step))) u) (sym q.is)
                (subst (λ a. Is y a (value.Region q.region)) (sym (part_handed way here n e _ p regions))
                (subst (λ sp. Is y (given_child way here sp n e) (value.Region q.region)) (sym (part_regions here n e p cut.partition regions)) within));
            like = alike_same z;
          }
        where
          held : (b : Bound) → b ≡ variable w.scope i (index_type kind) → HasColour us (cond b.by_loop (held_colour b.static_type (slot_at w.params b.place)) any_colour) (pos c)
              × IsUnder round.fixed (cond b.by_loop (held_colour b.static_type (slot_at w.params b.place)) any_colour)
          held b same = subst (λ (b : Bound). HasColour us (cond b.by_loop (held_colour b.static_type (slot_at w.params b.place)) any_colour) (pos c)
              × IsUnder round.fixed (cond b.by_loop (held_colour b.static_type (slot_at w.params b.place)) any_colour)) (sym same)
              (subst (HasNumber (pos c)) (sym (rounds.own_slot g t k way w.params w.scope.names m r ep hi vs c (as_long x m.slots vs before.slots))) refl, omega arith)

          colour : HasColour us (colour_at here (access_expr v no_step)) (pos c) × IsUnder round.fixed (colour_at here (access_expr v no_step))
          colour = held (bound here v) (bound_own w.scope i (index_type kind) v own)

    -- ---- each argument

    kept_given : (place : ℕ) (u p wanted : StaticType) (e : Expression) (z : Value) → is_fixed i e ≡ true → IsPassed forms here u p e (IsTyped forms here e) (IsIndexed forms here e) →
        AsksArgument forms.keeps here p e → IsKept way here i place p e o → slice_get vs (kept here place) ≡ Some z → Given p e z
    kept_given place u p wanted e z fixed passed asks waits at =
        given_whole forms.keeps forms.takes here u p e (IsTyped forms here e) (IsIndexed forms here e) (Given p e z) asks
        (λ enters is. worth_given p e z enters.worth (subst (λ a. Is x a z) (worth_kept way here p e enters.worth) (kept_is place p e waits z at)))
        (λ y takes h.
        let q = handed_name y here u p e h in
        subst (λ d. IsKept way here i place p d o → Given p d z) (sym q.1)
        (λ waits. region_given p q.0 place z q.4 (not-true (bytes_eq q.0 i) (subst (λ d. is_fixed i d ≡ true) q.1 fixed)) q.2 waits at) waits)
        (λ keeps a. absurd (false≢true (subst (λ d. is_fixed i d ≡ true) a.is fixed)))
        (λ keeps a. subst (λ d. IsKept way here i place p d o → Given p d z) (sym a.is)
        (λ waits. cut_given a.name keeps a.cut p place z a.partition waits at) waits) passed

    -- a number that is the colour
    number_given : (u p : StaticType) (e : Expression) (z : Value) → IsNumber (typed here e) → Enters (typed here e) u p → argument vs (point.Number (pos c)) ≡ Some z → Given p e z
    number_given u p e z number enters arg =
        worth_given p e z enters.worth (subst (λ a. Is x a z) enters.same (subst (Is x (shape_of u)) (same_Some _ z arg)
        (is_number (shape_of u) (pos c) (colour_is (typed here e) u c small number enters.goes))))

    varying_given : (u p wanted : StaticType) (e : Expression) (z : Value) → IsLaunched seen i wanted e → is_fixed i e ≡ false →
        IsPassed forms here u p e (IsTyped forms here e) (IsIndexed forms here e) → AsksArgument forms.keeps here p e →
        argument vs (at_colour c (varying_arg here e)) ≡ Some z → Given p e z
    varying_given u p wanted _ z (launched_number a b) varies passed asks arg = absurd (false≢true (sym varies))
    varying_given u p wanted _ z (launched_truth b) varies passed asks arg = absurd (false≢true (sym varies))
    varying_given u p wanted _ z (launched_name n other plain) varies passed asks arg = absurd (false≢true (sym varies ∙ ap not other))
    varying_given u p wanted _ z (launched_variable n own) varies passed asks arg =
        let e = access_expr n no_step in
        given_whole forms.keeps forms.takes here u p e (IsTyped forms here e) (IsIndexed forms here e) (Given p e z) asks
        (λ enters is. number_given u p e z (subst IsNumber (sym (own_type w i kind line n own)) (number_index kind)) enters arg)
        (λ y takes h. absurd (no_own_region w i kind line n own (first_region _ p h.2)))
        (λ keeps a. absurd (name_no_step n a.name a.index a.is))
        (λ keeps a. absurd (no_own_cut w i kind line n own (subst (λ d. IsPartition (bound here d).static_type) (sym (same_Some n a.name (ap name_of a.is))) a.cut.partition))) passed
    varying_given u p wanted _ z (launched_child n v part own) varies passed asks arg =
        let e = access_expr n (at_step (access_expr v no_step) no_step) in
        let is = part_of_cut forms w i kind line t1 u p n (access_expr v no_step) (cut_no_region (type_named seen n) part) passed asks in
        part_given n is.keeps is.cut p v z own is.regions arg
    varying_given u p wanted _ z (launched_none n e none) varies passed asks arg =
        let is = part_of_cut forms w i kind line t1 u p n e (unknown_no_region (type_named seen n) none) passed asks in
        absurd (no_cut_seen w i kind line t1 n none is.cut.partition)
    varying_given u p wanted _ z (launched_conversion q n own) varies passed asks arg =
        let e = convert_expr q (access_expr n no_step) in
        given_whole forms.keeps forms.takes here u p e (IsTyped forms here e) (IsIndexed forms here e) (Given p e z) asks
        (λ enters is. number_given u p e z (converted_number q) enters arg)
        (λ y takes h. absurd h)
        (λ keeps a. absurd (conversion_no_access q (access_expr n no_step) a.name (at_step a.index no_step) a.is))
        (λ keeps a. absurd (conversion_no_access q (access_expr n no_step) a.name no_step a.is)) passed

    one_given : (place : ℕ) (u p wanted : StaticType) (e : Expression) (z : Value) → IsLaunched seen i wanted e →
        IsPassed forms here u p e (IsTyped forms here e) (IsIndexed forms here e) → AsksArgument forms.keeps here p e →
        (is_fixed i e ≡ true → IsKept way here i place p e o) → argument vs (at_colour c (arg_of here i place e)) ≡ Some z → Given p e z
    one_given place u p wanted e z form passed asks waits arg = of (is_fixed i e) refl arg
      where
        of : (b : Bool) → is_fixed i e ≡ b → argument vs (at_colour c (cond b (launch_arg.Keep (kept here place)) (varying_arg here e))) ≡ Some z → Given p e z
        of true fixed arg = kept_given place u p wanted e z fixed passed asks (waits fixed) arg
        of false varies arg = varying_given u p wanted e z form varies passed asks arg

    -- ---- all of them

    pub record AllGiven (ps : List StaticType) (es : Expressions) (zs : List Value) : Type 0 where
      pub are : List Value
      pub of : Are y (all_handed way here ps es) are
      pub like : AllAlike are zs

    pub all_given : (place : ℕ) (ts ps wanted : List StaticType) (es : Expressions) (zs : List Value) → AreForms seen i wanted place es → ArePassed forms here ts ps es →
        Asks forms.keeps (are_whole_arguments true here ps es) → AreKept way here i place ps es o → arguments vs (call_at (args_of here i place es) c) ≡ Some zs → AllGiven ps es zs
    all_given place [] [] wanted no_expr zs looks passed whole waits arg =
        subst (AllGiven [] no_expr) (same_Some [] zs arg) (record { are = []; of = are_none; like = none_alike })
    all_given place (u ∷ ts) (p ∷ ps) wanted (an_expr e es) zs looks passed whole waits arg =
        let two = both_there _ _ zs arg in
        let one = one_given place u p (type_at wanted place) e two.head (launched_so seen i (type_at wanted place) e looks.0) passed.0 (asks_first _ _ _ whole) waits.0 two.first in
        let rest = all_given (suc place) ts ps wanted es two.tail looks.1 passed.1 (asks_second _ _ _ whole) waits.1 two.more in
        subst (AllGiven (p ∷ ps) (an_expr e es)) two.are (record {
          are = one.it ∷ rest.are;
          of = are_more _ _ _ _ one.of rest.of;
          like = more_alike _ _ _ _ one.like rest.like;
        })
    all_given place [] [] wanted (an_expr e es) zs looks passed whole waits arg = absurd passed
    all_given place [] (p ∷ ps) wanted es zs looks passed whole waits arg = absurd passed
    all_given place (u ∷ ts) [] wanted es zs looks passed whole waits arg = absurd passed
    all_given place (u ∷ ts) (p ∷ ps) wanted no_expr zs looks passed whole waits arg = absurd passed
