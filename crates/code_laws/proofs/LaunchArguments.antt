-- The arguments of a launch at a colour are the values that the call of the loop's body has there.
use Rattle.std.proofs.Common.{◌≡◌, ◌⊎◌, inl, inr, ℕ, suc, ◌<◌, ◌≤◌, pos, List, [], ◌∷◌, ◌++◌, Bool, true, false, Some, None, refl, sym, ap, ◌∙◌, subst, arith}
use Rattle.std.specs.Prelude.{bytes_eq, cond, flat_map, get_or, length, map, nat_lt, not, option_map, slice_get}
use Rattle.std.proofs.lemmas.Bool.{false≢true, ltb-false, ltb-true}
use Rattle.std.proofs.lemmas.Option.{same_Some, slice_get-get_or, slice_get-map, slice_get_past}
use Rattle.std.proofs.Math.ListN.{get_or-append}
use Rattle.std.proofs.Math.Seq.{get_or-append_seam}
use Rattle.index_launch.specs.Points.{at_colour, call_at}
use Rattle.index_launch.specs.declared.points.LaunchArg.TheVariants as launch_arg
use Rattle.region_tree.specs.declared.tree.RootId.{RootId}
use Rattle.regent_tree.specs.Accesses.{converted, standing, take_child, take_element}
use Rattle.regent_tree.specs.Evaluation.{stepped, value, values}
use Rattle.regent_tree.specs.Lookup.{is_bound, type_named}
use Rattle.regent_tree.specs.Operators.{as_number}
use Rattle.regent_tree.specs.Running.{Here, State, and_then, fails, fault, given, gives, if_true}
use Rattle.regent_tree.specs.Scopes.{bound_to, with_name}
use Rattle.regent_tree.specs.StaticTypes.{number_type}
use Rattle.regent_tree.specs.Syntax.{Expression, Expressions, Name, access_expr, an_expr, at_step, convert_expr, no_expr, no_step}
use Rattle.regent_tree.specs.Values.{Partition, Value, a_partition, a_region, an_index, number_of}
use Rattle.regent_tree.specs.declared.outcome.Fault.{Fault}
use Rattle.regent_tree.specs.declared.outcome.FaultKind.TheVariants.{BadColor}
use Rattle.regent_tree.specs.declared.types.Kind.{Kind}
use Rattle.regent_tree.specs.declared.types.NumberTerm.{NumberTerm}
use Rattle.regent_tree.specs.declared.typing.Bound.{Bound}
use Rattle.regent_tree.specs.declared.typing.StaticType.{StaticType}
use Rattle.regent_tree.specs.declared.typing.StaticType.TheVariants.{Index as index_type}
use Rattle.machine_terms.specs.Launches.{and_argument, argument, arguments, child_in}
use Rattle.machine_terms.specs.Makes.{region_with}
use Rattle.machine_terms.specs.Regions.{partition_in}
use Rattle.machine_terms.specs.declared.order.Contents.{Contents}
use Rattle.machine_terms.specs.declared.order.Instance.{Instance}
use Rattle.machine_terms.specs.declared.value.Value.TheVariants as machine
use Rattle.memory_laws.specs.Places.{number_at}
use Rattle.check_rules.specs.types.Sorts.{is_region, is_unknown_type, type_at}
use Rattle.code_rules.specs.Expressions.{count}
use Rattle.code_rules.specs.Launches.{arg_of, args_of, is_fixed, kept, varying_arg}
use Rattle.code_rules.specs.Slots.{Where, slot, slot_named, typed}
use Rattle.code_rules.specs.Used.{above_all, slots_named}
use Rattle.code_laws.specs.Arguments.{IsCutName, name_of, part_of}
use Rattle.code_laws.specs.Pointers.{Passes}
use Rattle.code_laws.specs.Simple.{AreRegions, IsPartition, IsRegion}
use Rattle.code_laws.specs.Standing.{Agrees, Aside, IsOf, SlotsFit, blank, machine_value, nothing, where_of}
use Rattle.code_laws.specs.Steps.{HasMore, Setting, Taking}
use Rattle.code_laws.specs.Typed.{ArePassed, IsIndexed, IsPassed, IsTyped}
use Rattle.code_laws.proofs.Arguments.{Unchanged, given_by, handed_name, unchanged}
use Rattle.code_laws.proofs.CallCuts.{partition_there}
use Rattle.code_laws.proofs.Handing.{AreGivenBy, IsGivenBy}
use Rattle.code_laws.proofs.LaunchKept.{AreKept, Evaluates, Keeps, inner}
use Rattle.code_laws.proofs.LaunchShapes.{AreForms, IsLaunched, launched_child, launched_conversion, launched_name, launched_none, launched_number, launched_so, launched_truth, launched_variable}
use Rattle.code_laws.proofs.LaunchTypes.{a_region_is, above_parts, conversion_no_access, cut_known, cut_no_region, name_no_step, no_cut, no_region, no_region_type, step_no_name, unknown_no_region}
use Rattle.code_laws.proofs.LaunchValues.{bound_other, bound_own, colour_index, converted_colour, passed_colour, there_other, variable}
use Rattle.code_laws.proofs.Rows.{greatest_least}
use Rattle.code_laws.proofs.Parts.{part_at_colour, point_of}
use Rattle.code_laws.proofs.Values.{named}
use Rattle.code_laws.proofs.Wider.{passing}

module _ (x : Setting) (params slots : ℕ) (fit : SlotsFit x slots) (aside : Aside 0) (h : Here) (i : Name) (k0 : Kind) (line : ℕ) where
  abbrev here : Here
  here = inner x params slots fit aside h i (index_type k0) line

  abbrev within : Where
  within = where_of params here

  -- the fault at a colour that a partition lacks
  abbrev pub no_colour : Fault
  no_colour = record { kind = BadColor; line = line }

  own_type : (n : Name) → bytes_eq n i ≡ true → (bound_to here.scope.names n).static_type ≡ index_type k0
  own_type n own = ap (λ (b : Bound). b.static_type) (bound_own h.scope i (index_type k0) n own)

  -- what stands at a step of a name is the child of a partition, where that isn't known to be a region
  pub record IsChildOf (t p : StaticType) (name : Name) (e : Expression) : Type 0 where
    pub taking : Taking
    pub takes : x.forms.takes ≡ Some taking
    pub cut : IsCutName within name
    pub same : t ≡ p
    pub regions : AreRegions (typed within (access_expr name (at_step e no_step))) p

  module _ (t1 : StaticType) where
    abbrev seen : Name → StaticType
    seen name = type_named (with_name h.scope i t1 true).names name

    seen_other : (name : Name) → bytes_eq name i ≡ false → seen name ≡ (bound_to here.scope.names name).static_type
    seen_other name other = ap (λ (b : Bound). b.static_type) (bound_other h.scope i t1 name other ∙ sym (bound_other h.scope i (index_type k0) name other))

    no_region_there : (name : Name) (b : Bool) → bytes_eq name i ≡ b → is_region (seen name) ≡ false → IsRegion (bound_to here.scope.names name).static_type → ⊥
    no_region_there name true own plain region = no_region_type k0 (subst IsRegion (own_type name own) region)
    no_region_there name false other plain region =
        false≢true (sym plain ∙ ap is_region (seen_other name other) ∙ a_region_is (bound_to here.scope.names name).static_type region)

    pub no_cut_there : (name : Name) (b : Bool) → bytes_eq name i ≡ b → is_unknown_type (seen name) ≡ true → IsPartition (bound_to here.scope.names name).static_type → ⊥
    no_cut_there name true own unknown cut = no_cut k0 (subst IsPartition (own_type name own) cut)
    no_cut_there name false other unknown cut =
        false≢true (sym (cut_known (bound_to here.scope.names name).static_type cut) ∙ sym (ap is_unknown_type (seen_other name other)) ∙ unknown)

    pub child_of : (t p : StaticType) (name : Name) (e : Expression) → is_region (seen name) ≡ false →
        IsPassed x.forms within t p (access_expr name (at_step e no_step)) (IsTyped x.forms within (access_expr name (at_step e no_step)))
        (IsIndexed x.forms within (access_expr name (at_step e no_step))) → IsChildOf t p name e
    child_of t p name e plain passed =
        let it = access_expr name (at_step e no_step) in
        given_by x.forms.keeps x.forms.takes within t p it (IsTyped x.forms within it) (IsIndexed x.forms within it) (IsChildOf t p name e)
        (λ goes fine. absurd (no_region_there name (bytes_eq name i) refl plain fine.4))
        (λ y takes handed. absurd handed)
        (λ part.
        let name_is : name ≡ part.name = ap (λ (q : Name × Expression). q.0) (same_Some (name, e) (part.name, part.index) (ap part_of part.is)) in record {
          taking = part.taking;
          takes = part.takes;
          cut = subst (IsCutName within) (sym name_is) part.cut;
          same = part.same;
          regions = part.regions;
        })
        (λ cut. absurd (step_no_name name e cut.name cut.is)) passed

  -- what holds of a round that begins: of which colour it is, the state with that, and an instance that agrees without it
  module _ (c : ℕ) (low : c < 4194304) (s s1 : State) (j : Instance) (g : Agrees x params slots aside h s j) (names : s1.names ≡ s.names ++ an_index (pos c) ∷ []) where
    -- an argument's value is the machine's, or there is no such child
    pub record ArgumentAt (t p : StaticType) (e : Expression) (q : ℕ) : Type 0 where
      pub has : Value
      pub evaluates : Evaluates x params slots fit aside h i (index_type k0) line t e has s1
      pub argument_is : argument j.frame.slots (at_colour c (arg_of within i q e)) ≡ Some (machine_value j.contents has)
      pub is_given : IsGivenBy x params slots fit aside here p e has s1.names

    pub record NoChild (e : Expression) (q : ℕ) : Type 0 where
      pub fails_so : value here e s1 ≡ fails no_colour s1
      pub none : argument j.frame.slots (at_colour c (arg_of within i q e)) ≡ None

    -- the loop's variable
    own_there : (n : Name) → bytes_eq n i ≡ true → get_or s1.names (bound_to here.scope.names n).place nothing ≡ an_index (pos c)
    own_there n own =
        ap (λ ns. get_or ns (bound_to here.scope.names n).place nothing) names
        ∙ ap (λ (b : Bound). get_or (s.names ++ an_index (pos c) ∷ []) b.place nothing) (bound_own h.scope i (index_type k0) n own)
        ∙ ap (λ p. get_or (s.names ++ an_index (pos c) ∷ []) p nothing) (sym g.count)
        ∙ get_or-append_seam s.names (an_index (pos c)) [] nothing

    own_value : (n : Name) → bytes_eq n i ≡ true → value here (access_expr n no_step) s1 ≡ gives (an_index (pos c)) s1
    own_value n own = ap (λ v. gives v s1) (own_there n own)

    -- what isn't fixed is taken by the colour
    varies : (e : Expression) (q : ℕ) → is_fixed i e ≡ false →
        argument j.frame.slots (at_colour c (arg_of within i q e)) ≡ argument j.frame.slots (at_colour c (varying_arg within e))
    varies e q varying = ap (λ b. argument j.frame.slots (at_colour c (cond b (launch_arg.Keep (kept within q)) (varying_arg within e)))) varying

    -- what is fixed waits in its slot
    fixed_at : (t p : StaticType) (e : Expression) (q : ℕ) (names0 : List Value) (c0 : Contents) (own0 : List RootId) (u : Value) → is_fixed i e ≡ true → names0 ≡ s.names →
        Keeps x params slots fit aside h i (index_type k0) line names0 c0 own0 t p e u → get_or j.frame.slots (kept within q) blank ≡ machine_value c0 u →
        HasMore own0 j.frame.own → above_all (slots_named (arg_of within i q e)) ≤ slots → ArgumentAt t p e q
    fixed_at t p e q names0 c0 own0 u still same keeps there more fits =
        let room : suc (kept within q) ≤ slots =
        (greatest_least (suc (kept within q)) 0 slots
        (subst (λ b. above_all (slots_named (cond b (launch_arg.Keep (kept within q)) (varying_arg within e))) ≤ slots) still fits)).0 in
        let now : s1.names ≡ names0 ++ an_index (pos c) ∷ [] = names ∙ ap (λ ns. ns ++ an_index (pos c) ∷ []) (sym same) in record {
          has = u;
          evaluates = keeps.is (an_index (pos c)) s1 now;
          argument_is = ap (λ b. argument j.frame.slots (at_colour c (cond b (launch_arg.Keep (kept within q)) (varying_arg within e)))) still
              ∙ slice_get-get_or j.frame.slots (kept within q) blank (omega (arith, room, g.slots_are))
              ∙ ap (λ m. Some m) (there ∙ keeps.stays s j g more);
          is_given = subst (IsGivenBy x params slots fit aside here p e u) (sym now) (keeps.given (an_index (pos c)));
        }

    -- ---- the loop's variable, and conversions of it

    variable_at : (t p : StaticType) (n : Name) (q : ℕ) → bytes_eq n i ≡ true → is_fixed i (access_expr n no_step) ≡ false →
        IsPassed x.forms within t p (access_expr n no_step) (IsTyped x.forms within (access_expr n no_step)) (IsIndexed x.forms within (access_expr n no_step)) →
        ArgumentAt t p (access_expr n no_step) q
    variable_at t p n q own varying passed =
        let e = access_expr n no_step in
        let type = own_type n own in
        given_by x.forms.keeps x.forms.takes within t p e (IsTyped x.forms within e) (IsIndexed x.forms within e) (ArgumentAt t p e q)
        (λ goes fine.
        let passes = passing x.forms.keeps (typed within e) t p goes in
        let u = passed_colour here c (index_type k0) t p (an_index (pos c)) low (subst (λ f. Passes f t p) type passes) (colour_index k0) in record {
          has = u.to;
          evaluates = record {
            first = an_index (pos c);
            is = own_value n own;
            converted_is = ap (λ f. converted here f t [] (an_index (pos c)) s1) type ∙ u.is s1;
          };
          argument_is = varies e q varying ∙ ap (λ m. Some m) (sym (u.kept j.contents));
          is_given = inl (t, passes, u.typed);
        })
        (λ y takes handed.
        let h = handed_name y within t p e handed in
        let same : n ≡ h.0 = same_Some n h.0 (ap name_of h.1) in
        absurd (no_region k0 p (subst (λ f. AreRegions f p) (ap (λ m. (bound_to here.scope.names m).static_type) (sym same) ∙ type) h.4)))
        (λ part. absurd (name_no_step n part.name part.index part.is))
        (λ cut.
        let same : n ≡ cut.name = same_Some n cut.name (ap name_of cut.is) in
        absurd (no_cut k0 (subst IsPartition (ap (λ m. (bound_to here.scope.names m).static_type) (sym same) ∙ type) cut.cut.partition))) passed

    conversion_at : (t p : StaticType) (k : NumberTerm) (n : Name) (q : ℕ) → bytes_eq n i ≡ true →
        IsPassed x.forms within t p (convert_expr k (access_expr n no_step)) (IsTyped x.forms within (convert_expr k (access_expr n no_step)))
        (IsIndexed x.forms within (convert_expr k (access_expr n no_step))) → ArgumentAt t p (convert_expr k (access_expr n no_step)) q
    conversion_at t p k n q own passed =
        let e = convert_expr k (access_expr n no_step) in
        let to = converted_colour k c low in
        given_by x.forms.keeps x.forms.takes within t p e (IsTyped x.forms within e) (IsIndexed x.forms within e) (ArgumentAt t p e q)
        (λ goes fine.
        let passes = passing x.forms.keeps (typed within e) t p goes in
        let u = passed_colour here c (number_type k) t p to.to low passes to.colour in record {
          has = u.to;
          evaluates = record {
            first = to.to;
            is = ap (λ r. and_then r (λ v s. and_then (standing here v s) (λ w. given (as_number k w)))) (own_value n own) ∙ ap (λ v. gives v s1) to.is;
            converted_is = u.is s1;
          };
          argument_is = ap (λ m. Some m) (sym (u.kept j.contents));
          is_given = inl (t, passes, u.typed);
        })
        (λ y takes handed. absurd handed)
        (λ part. absurd (conversion_no_access k (access_expr n no_step) part.name (at_step part.index no_step) part.is))
        (λ cut. absurd (conversion_no_access k (access_expr n no_step) cut.name no_step cut.is)) passed

    -- ---- children

    -- what is under the step is the loop's variable
    child_value : (p n : Name) (q : Partition) → bytes_eq n i ≡ true → get_or s1.names (bound_to here.scope.names p).place nothing ≡ a_partition q →
        value here (access_expr p (at_step (access_expr n no_step) no_step)) s1 ≡ and_then (take_child here q (pos c) s1) (λ u. given u)
    child_value p n q own is =
        ap (λ v. stepped here (bound_to here.scope.names p).static_type v (at_step (access_expr n no_step) no_step) s1) is
        ∙ ap (λ r. and_then r (λ w s. and_then (standing here w s) (λ z s. and_then (take_element here (number_of z) (a_partition q) s) (λ u. given u)))) (own_value n own)

    child_at : (t p : StaticType) (name n : Name) (q : ℕ) (y : Taking) → x.forms.takes ≡ Some y → bytes_eq n i ≡ true → IsCutName within name → t ≡ p →
        AreRegions (typed within (access_expr name (at_step (access_expr n no_step) no_step))) p →
        above_all (slots_named (arg_of within i q (access_expr name (at_step (access_expr n no_step) no_step)))) ≤ slots →
        ArgumentAt t p (access_expr name (at_step (access_expr n no_step) no_step)) q ⊎ NoChild (access_expr name (at_step (access_expr n no_step) no_step)) q
    child_at t p name n q y takes own cut same regions fits = by_name (bytes_eq name i) refl
      where
        e : Expression
        e = access_expr name (at_step (access_expr n no_step) no_step)

        by_name : (b : Bool) → bytes_eq name i ≡ b → ArgumentAt t p e q ⊎ NoChild e q
        by_name true own_it = absurd (no_cut k0 (subst IsPartition (own_type name own_it) cut.partition))
        by_name false other = by_colour (nat_lt c (length q0.sets)) refl
          where
            b : Bound
            b = bound_to h.scope.names name

            bound_is : bound_to here.scope.names name ≡ b
            bound_is = bound_other h.scope i (index_type k0) name other

            there : is_bound h.scope.names name ≡ true
            there = there_other h.scope i (index_type k0) name other cut.named

            part : (q : Partition) × (get_or s.names b.place nothing ≡ a_partition q)
            part = partition_there b.static_type (get_or s.names b.place nothing) (subst (λ (c : Bound). IsPartition c.static_type) bound_is cut.partition)
                (named IsOf h.scope.names s.names name g.typed there).holding

            q0 : Partition
            q0 = part.0

            below : b.place < length s.names
            below = omega (arith, (named IsOf h.scope.names s.names name g.typed there).below, g.count)

            has_it : get_or s1.names (bound_to here.scope.names name).place nothing ≡ a_partition q0
            has_it = ap (λ ns. get_or ns (bound_to here.scope.names name).place nothing) names
                ∙ ap (λ (c2 : Bound). get_or (s.names ++ an_index (pos c) ∷ []) c2.place nothing) bound_is
                ∙ get_or-append s.names (an_index (pos c) ∷ []) nothing b.place below ∙ part.1

            slot_is : slice_get j.frame.slots (slot_named within name) ≡ Some (machine_value j.contents (a_partition q0))
            slot_is = slice_get-get_or j.frame.slots (slot_named within name) blank
                (omega (arith, (greatest_least (suc (slot_named within name)) 0 slots fits).0, g.slots_are))
                ∙ ap (λ m. Some m) (ap (λ (c2 : Bound). get_or j.frame.slots (slot within c2.place) blank) bound_is ∙ g.names b.place below ∙ ap (machine_value j.contents) part.1)

            taken : argument j.frame.slots (at_colour c (arg_of within i q e))
                ≡ option_map machine.Region (option_map (region_with (number_at j.contents q0.root)) (slice_get q0.sets c))
            taken = ap (λ o. child_in (partition_in o) c) slot_is
                ∙ ap (option_map machine.Region) (slice_get-map (region_with (number_at j.contents q0.root)) q0.sets c)

            from : StaticType
            from = typed within e

            plain : Unchanged here within from t
            plain = subst (Unchanged here within from) (sym same) (unchanged here within from from p regions)

            by_colour : (b2 : Bool) → nat_lt c (length q0.sets) ≡ b2 → ArgumentAt t p e q ⊎ NoChild e q
            by_colour true less =
                let under : c < length q0.sets = ltb-true c (length q0.sets) less in
                let u = a_region (part_at_colour q0 c) in inl (record {
                  has = u;
                  evaluates = record {
                    first = u;
                    is = child_value name n q0 own has_it ∙ ap (λ b2. and_then (if_true b2 (given u) (fault here BadColor) s1) (λ u. given u)) less;
                    converted_is = plain.value u s1;
                  };
                  argument_is = taken ∙ ap (λ o. option_map machine.Region (option_map (region_with (number_at j.contents q0.root)) o)) (slice_get-get_or q0.sets c [] under);
                  is_given = inr (inr (inl (record {
                    taking = y;
                    takes = takes;
                    name = name;
                    index = access_expr n no_step;
                    stands = refl;
                    cut = cut;
                    regions = regions;
                    coloured = record {
                      partition = q0;
                      has_it = has_it;
                      colour = c;
                      low = under;
                      is = refl;
                      seen = λ z d. sym (same_Some _ z d) ∙ ap point_of (own_there n own);
                    };
                  })));
                })
            by_colour false less =
                let over : length q0.sets ≤ c = ltb-false c (length q0.sets) less in inr (record {
                  fails_so = child_value name n q0 own has_it
                      ∙ ap (λ b2. and_then (if_true b2 (given (a_region (part_at_colour q0 c))) (fault here BadColor) s1) (λ u. given u)) less;
                  none = taken ∙ ap (λ o. option_map machine.Region (option_map (region_with (number_at j.contents q0.root)) o)) (slice_get_past q0.sets c over);
                })

    -- ---- an argument

    module _ (t1 : StaticType) where
      one_at : (t p wanted : StaticType) (e : Expression) (q : ℕ) (names0 : List Value) (c0 : Contents) (own0 : List RootId) → names0 ≡ s.names → HasMore own0 j.frame.own →
          IsLaunched (with_name h.scope i t1 true).names i wanted e →
          (is_fixed i e ≡ true → (u : Value) × Keeps x params slots fit aside h i (index_type k0) line names0 c0 own0 t p e u
          × (get_or j.frame.slots (kept within q) blank ≡ machine_value c0 u)) →
          IsPassed x.forms within t p e (IsTyped x.forms within e) (IsIndexed x.forms within e) → above_all (slots_named (arg_of within i q e)) ≤ slots →
          ArgumentAt t p e q ⊎ NoChild e q
      one_at t p wanted e q names0 c0 own0 same more form waits passed fits = by e (is_fixed i e) refl form waits passed fits
        where
          by : (e : Expression) (b : Bool) → is_fixed i e ≡ b → IsLaunched (with_name h.scope i t1 true).names i wanted e →
              (is_fixed i e ≡ true → (u : Value) × Keeps x params slots fit aside h i (index_type k0) line names0 c0 own0 t p e u
              × (get_or j.frame.slots (kept within q) blank ≡ machine_value c0 u)) →
              IsPassed x.forms within t p e (IsTyped x.forms within e) (IsIndexed x.forms within e) → above_all (slots_named (arg_of within i q e)) ≤ slots →
              ArgumentAt t p e q ⊎ NoChild e q
          by e true still form waits passed fits =
              let k = waits still in inl (fixed_at t p e q names0 c0 own0 k.0 still same k.1 k.2 more fits)
          by _ false varying (launched_number z w) waits passed fits = absurd (false≢true (sym varying))
          by _ false varying (launched_truth b) waits passed fits = absurd (false≢true (sym varying))
          by _ false varying (launched_name n other plain) waits passed fits = absurd (false≢true (sym varying ∙ ap not other))
          by _ false varying (launched_variable n own) waits passed fits = inl (variable_at t p n q own varying passed)
          by _ false varying (launched_child name n part own) waits passed fits =
              let k = child_of t1 t p name (access_expr n no_step) (cut_no_region (seen t1 name) part) passed in
              child_at t p name n q k.taking k.takes own k.cut k.same k.regions fits
          by _ false varying (launched_none name f unknown) waits passed fits =
              let k = child_of t1 t p name f (unknown_no_region (seen t1 name) unknown) passed in
              absurd (no_cut_there t1 name (bytes_eq name i) refl unknown k.cut.partition)
          by _ false varying (launched_conversion k n own) waits passed fits = inl (conversion_at t p k n q own passed)

      -- ---- all arguments

      -- they are evaluated in order, up to a child that isn't there
      pub record Given (ts ps : List StaticType) (es : Expressions) (q : ℕ) : Type 0 where
        pub have : List Value
        pub evaluate : values here ts es s1 ≡ gives have s1
        pub arguments_are : arguments j.frame.slots (call_at (args_of within i q es) c) ≡ Some (map (machine_value j.contents) have)
        pub are_given : AreGivenBy x params slots fit aside here ps es have s1.names
        pub many : length have ≡ count es

      pub record Lacking (ts : List StaticType) (es : Expressions) (q : ℕ) : Type 0 where
        pub fail_so : values here ts es s1 ≡ fails no_colour s1
        pub none_are : arguments j.frame.slots (call_at (args_of within i q es) c) ≡ None

      pub all_at : (q : ℕ) (ts ps wanted : List StaticType) (es : Expressions) (names0 : List Value) (c0 : Contents) (own0 : List RootId) → names0 ≡ s.names → HasMore own0 j.frame.own →
          AreForms (with_name h.scope i t1 true).names i wanted q es →
          AreKept x params slots fit aside h i (index_type k0) line names0 c0 own0 j.frame.slots q ts ps es → ArePassed x.forms within ts ps es →
          above_all (flat_map slots_named (args_of within i q es)) ≤ slots → Given ts ps es q ⊎ Lacking ts es q
      all_at q [] [] wanted no_expr names0 c0 own0 same more forms waits passed fits =
          inl (record { have = []; evaluate = refl; arguments_are = refl; are_given = tt; many = refl })
      all_at q (t ∷ ts) (p ∷ ps) wanted (an_expr e es) names0 c0 own0 same more forms waits passed fits =
          let apart = above_parts (slots_named (arg_of within i q e)) (flat_map slots_named (args_of within i (suc q) es)) slots fits in
          join (one_at t p (type_at wanted q) e q names0 c0 own0 same more (launched_so (with_name h.scope i t1 true).names i (type_at wanted q) e forms.0)
          waits.0 passed.0 apart.0) (all_at (suc q) ts ps wanted es names0 c0 own0 same more forms.1 waits.1 passed.1 apart.1)
        where
          join : ArgumentAt t p e q ⊎ NoChild e q → Given ts ps es (suc q) ⊎ Lacking ts es (suc q) → Given (t ∷ ts) (p ∷ ps) (an_expr e es) q ⊎ Lacking (t ∷ ts) (an_expr e es) q
          join (inr lack) rest = inr (record {
            fail_so = ap (λ r. and_then r (λ v s. and_then (converted here (typed within e) t [] v s) (λ u s. and_then (values here ts es s) (λ us. given (u ∷ us))))) lack.fails_so;
            none_are = ap (λ o. and_argument o (arguments j.frame.slots (call_at (args_of within i (suc q) es) c))) lack.none;
          })
          join (inl one) (inr lack) = inr (record {
            fail_so = ap (λ r. and_then r (λ v s. and_then (converted here (typed within e) t [] v s) (λ u s. and_then (values here ts es s) (λ us. given (u ∷ us))))) one.evaluates.is
                ∙ ap (λ r. and_then r (λ u s. and_then (values here ts es s) (λ us. given (u ∷ us)))) one.evaluates.converted_is
                ∙ ap (λ r. and_then r (λ us. given (one.has ∷ us))) lack.fail_so;
            none_are = ap (λ o. and_argument o (arguments j.frame.slots (call_at (args_of within i (suc q) es) c))) one.argument_is
                ∙ ap (and_argument (Some (machine_value j.contents one.has))) lack.none_are;
          })
          join (inl one) (inl rest) = inl (record {
            have = one.has ∷ rest.have;
            evaluate = ap (λ r. and_then r (λ v s. and_then (converted here (typed within e) t [] v s) (λ u s. and_then (values here ts es s) (λ us. given (u ∷ us))))) one.evaluates.is
                ∙ ap (λ r. and_then r (λ u s. and_then (values here ts es s) (λ us. given (u ∷ us)))) one.evaluates.converted_is
                ∙ ap (λ r. and_then r (λ us. given (one.has ∷ us))) rest.evaluate;
            arguments_are = ap (λ o. and_argument o (arguments j.frame.slots (call_at (args_of within i (suc q) es) c))) one.argument_is
                ∙ ap (and_argument (Some (machine_value j.contents one.has))) rest.arguments_are;
            are_given = (one.is_given, rest.are_given);
            many = ap suc rest.many;
          })
      all_at q _ _ wanted _ names0 c0 own0 same more forms waits passed fits = absurd passed
