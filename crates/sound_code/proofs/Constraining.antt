-- What a called task's clauses tell of its parameters holds of what is handed over, since nothing is told of the call: of regions that
-- have names, and of parts, which lie within such.
use Rattle.std.proofs.Common.{◌≡◌, inl, inr, ℕ, zero, suc, ◌<◌, ◌≤◌, List, Bool, true, false, Option, Some, refl, sym, ap, ◌∙◌, subst, None, ⊎_elim, ◌⊎◌}
use Rattle.std.specs.Prelude.{slice_get, length}
use Rattle.std.proofs.lemmas.Bool.{false≢true}
use Rattle.std.proofs.lemmas.Option.{same_Some}
use Rattle.plain_values.proofs.Plain.{option_or_parts}
use Rattle.regent_tree.proofs.Members.{Has}
use Rattle.regent_tree.specs.Facts.{are_disjoint, is_subregion}
use Rattle.regent_tree.specs.StaticTypes.{place_in, task_named}
use Rattle.regent_tree.specs.Syntax.{access_expr, an_expr, at_step, Expression, Expressions, Name, no_expr, no_step, TaskTree}
use Rattle.regent_tree.specs.Typing.{colour_of, is_disjoint, param_types, parent_of}
use Rattle.regent_tree.specs.Lookup.{is_bound}
use Rattle.regent_tree.specs.Scopes.{bound_as}
use Rattle.regent_tree.specs.declared.facts.Colour.{Colour}
use Rattle.regent_tree.specs.declared.facts.Known.{Known}
use Rattle.regent_tree.specs.declared.facts.Known.TheVariants.{PartOf, Within}
use Rattle.regent_tree.specs.declared.facts.Term.{Term}
use Rattle.regent_tree.specs.declared.facts.Term.TheVariants as term
use Rattle.regent_tree.specs.declared.program.Clause.TheVariants as clause
use Rattle.regent_tree.specs.declared.typing.Bound.{Bound}
use Rattle.regent_tree.specs.declared.typing.StaticType.{StaticType}
use Rattle.regent_tree.specs.declared.typing.StaticType.TheVariants.{Partition as partition_type}
use Rattle.task_code.specs.declared.code.TaskCode.{TaskCode}
use Rattle.machine_terms.specs.declared.value.PartitionValue.{PartitionValue}
use Rattle.machine_terms.specs.declared.value.RegionValue.{RegionValue}
use Rattle.machine_terms.specs.declared.value.Value.{Value}
use Rattle.machine_terms.specs.Pointers.{region_in}
use Rattle.machine_terms.specs.Regions.{partition_in}
use Rattle.check_laws.proofs.Blocks.{head_known}
use Rattle.check_laws.proofs.Scopes.{found_by_number}
use Rattle.check_rules.proofs.Written.{told_soundly}
use Rattle.check_rules.specs.first.FirstInExpressions.{first_in_args, first_in_expression}
use Rattle.check_rules.specs.rules.Constraints.{are_not_apart, breaks_clause, is_not_within}
use Rattle.check_rules.specs.rules.Partitions.{is_parent, mispartition_in, mispartitions}
use Rattle.check_rules.specs.scopes.Sound.{IsSoundTask}
use Rattle.check_rules.specs.types.KnownTypes.{known_types}
use Rattle.check_rules.specs.types.Params.{types_in_order}
use Rattle.check_rules.specs.types.Sorts.{is_region, type_at}
use Rattle.check_rules.specs.types.TypedForms.{calling}
use Rattle.expression_laws.proofs.Calls.{call_parts}
use Rattle.expression_laws.proofs.Params.{none_has}
use Rattle.constraint_check.proofs.Apartness.{are_disjoint-derivable}
use Rattle.constraint_check.specs.Derivations.{IsApart}
use Rattle.fact_laws.specs.Regions.{SharesNoPoint}
use Rattle.code_rules.specs.Slots.{bound, slot_bound, slot_named, typed, Where}
use Rattle.code_laws.specs.Simple.{a_partition_type, a_region_type, IsPartition, IsRegion, term_in}
use Rattle.code_laws.specs.Steps.{Forms, Taking}
use Rattle.code_laws.specs.Arguments.{IsCutName, name_at, part_at}
use Rattle.code_laws.specs.Handing.{told_in}
use Rattle.code_laws.proofs.LocalGoals.{bound_among}
use Rattle.code_laws.specs.Typed.{ArePassed, IsCallable}
use Rattle.code_laws.proofs.Arguments.{first_region}
use Rattle.code_laws.proofs.LocalDivided.{told_at}
use Rattle.code_laws.proofs.LocalGiven.{handed_at, IsHandedAt, IsPartAt}
use Rattle.fit_rules.specs.Shapes.{Are, cut_from, Each, held_at, Is, is_cut, IsChild, IsCutOf, is_number, KnowsRoots, Origin, World}
use Rattle.fit_rules.specs.Marks.{Fact, Holds, LiesIn, Mark, parted, Suits, around}
use Rattle.marked_code.proofs.Placed.{below}
use Rattle.sound_code.proofs.WholeTasks.{are_whole_arguments}
use Rattle.sound_code.specs.Ways.{by_rules, opening_facts, origin_in, Tops}
use Rattle.sound_code.proofs.Wholes.{Asks}
use Rattle.sound_code.proofs.Accepted.{stands_in}
use Rattle.sound_code.proofs.ArgumentTypes.{lies_apart, lies_within, ArgumentIs, name_is, parent_is, part_is_at, part_parent, part_term}
use Rattle.sound_code.proofs.Colours.{colour_at, named_low, slot_low, stays_at, colour_steady, IsUnder, steady_under}
use Rattle.sound_code.proofs.Cuts.{AreCut, place_as}
use Rattle.sound_code.proofs.Claims.{claims_apart, claims_parted, claims_within, each_claimed, IsClaimed}
use Rattle.sound_code.proofs.Grounds.{begins_under, HasFacts, high_top, IsSaid, Kept, low_top, OfType, said_of, top_in, top_whole}
use Rattle.sound_code.proofs.InApart.{in_apart, none_there}
use Rattle.sound_code.proofs.Siblings.{lies_child}
use Rattle.sound_code.proofs.InSlots.{in_itself, InTerm, lies_named, named_slot, part_in, slot_found, slot_of, in_below}
use Rattle.sound_code.proofs.Dividing.{cut_param, cut_region, parent_told}
use Rattle.sound_code.proofs.Handed.{all_handed, any_given, any_of, argument_at, cut_argument_at, given_cut_is, given_from, IsOf, part_argument_at}
use Rattle.sound_code.proofs.Interpreting.{meant}
use Rattle.sound_code.proofs.Lying.{Stands}
use Rattle.sound_code.proofs.Parts.{own_named}
use Rattle.sound_code.proofs.Placing.{placed_at}
use Rattle.sound_code.proofs.Scoped.{AreScoped, partition_found, region_found, scoped_as, scoped_named}
use Rattle.sound_code.proofs.Under.{under_part}
use Rattle.sound_code.proofs.Told.{ToldCall}
use Rattle.sound_code.specs.Named.{AreNamed, slot_at}
use Rattle.sound_code.proofs.Stood.{IsStood, stood_apart, BeganWhole, IsNamed, named_stood, stood_within}
use Rattle.sound_code.proofs.Looping.{place_low}
use Rattle.constraint_check.proofs.Table.{is_subregion-derivable}

module _ (tops : Tops) (task : TaskTree) (t : TaskCode) (w : Where) (kept : Kept t tops task w.tree w.params w.scope) (m : Mark)
    (facts : HasFacts (by_rules tops task) w.tree m.facts) (ep : w.params ≡ t.params) (named : AreNamed (by_rules tops task) w.params m.slots w.scope.names)
    (fixed : m.fixed ≡ slot_at w.params (length w.scope.names)) (base : World) (vs st ws : List Value) (knows : KnowsRoots base) (suits : Suits base t.params m vs st) where
  -- what stands around the arguments
  abbrev x : World
  x = around base m vs

  abbrev ks : List Fact
  ks = opening_facts (by_rules tops task) w.tree task

  abbrev known : List Known
  known = w.scope.known

  abbrev up : ℕ → Option (ℕ × ℕ)
  up = tops task

  abbrev begins : (i p : ℕ) (c : Colour) → Has known (Within (term.Name i) (term.Child p c)) → (r : ℕ) (d : Bool) → Has known (PartOf p r d) →
      up i ≡ Some (r, top_in w.params up r)
  begins = begins_under t tops task w.tree w.params w.scope kept

  abbrev Stood : Forms → StaticType → RegionValue → Type 0
  Stood = IsStood tops task t w kept m facts ep named fixed base vs st knows suits

  module _ (forms : Forms) (y : Taking) (takes : forms.takes ≡ Some y) (name : Name) (ts : List StaticType) (es : Expressions)
      (scoped : forms.keeps ≡ true → AreScoped w.scope.names w.scope.names) (is : IsCallable forms w name es)
      (passed : ArePassed forms w ts (param_types w.tree (task_named w.tree name)) es) (whole : Asks forms.keeps (are_whole_arguments true w (param_types w.tree (task_named w.tree name)) es))
      (cut : forms.keeps ≡ true → AreCut w.params (tops task) (told_in w.tree task) m.facts w.scope.names w.scope.names)
      (total : (k : Known) → Has w.scope.known k → Has (told_in w.tree task) k)
      (none : forms.keeps ≡ false → (i : ℕ) → tops task i ≡ None)
      (are : Are x (all_handed (by_rules tops task) w (param_types w.tree (task_named w.tree name)) es) ws) (told : ToldCall (by_rules tops task) w.tree w.scope name es) where
    abbrev callee : TaskTree
    callee = task_named w.tree name

    abbrev types : List StaticType
    types = param_types w.tree callee

    callee_sound : IsSoundTask w.tree callee
    callee_sound = kept.sound.tasks callee (stands_in w.tree _ callee is.0)

    -- the checker's type of an argument, which is a name or a part
    type_of_argument : (es : Expressions) (k : ℕ) (u : StaticType) → first_in_args w.tree task w.scope es ≡ None → ArgumentIs w es k u →
        type_at (known_types w.tree w.scope es) k ≡ u
    type_of_argument no_expr k u none at = absurd at
    type_of_argument (an_expr e es) zero u none at =
        (head_known w.tree task kept.sound w.scope told.0 e (option_or_parts (first_in_expression w.tree task w.scope e) _ none).0).1 ∙ at
    type_of_argument (an_expr e es) (suc k) u none at =
        type_of_argument es k u (option_or_parts (first_in_expression w.tree task w.scope e) _ none).1 at

    -- a region lies within what stands for a term in slots
    abbrev In : forms.keeps ≡ true → RegionValue → Term → Type 0
    In q = InTerm tops task t w kept m facts (scoped q) (cut q) total vs suits.facts

    -- it is the one in the slot of the name with a number
    abbrev IsSeated : RegionValue → ℕ → Type 0
    IsSeated r i = (region_in (slice_get vs (slot_of w i)) ≡ Some r) × IsRegion (bound_as w.scope.names i).static_type

    named_in : (q : forms.keeps ≡ true) (place : ℕ) (u : StaticType) (r : RegionValue) → IsRegion u → OfType w.params place u →
        ((i : ℕ) → term_in u ≡ term.Name i → IsSeated r i) → In q r (term_in u)
    named_in q place _ r (a_region_type k sp args (term.Name i)) o h =
        let at = h i refl in in_itself tops task t w kept m facts (scoped q) (cut q) total vs suits.facts r i at.0 (λ l. at.1)
    named_in q place _ r (a_region_type k sp args (term.Child p c)) o h = absurd o

    -- the slot of a name stays
    name_low : (n : Name) → is_bound w.scope.names n ≡ true → slot_named w n < m.fixed
    name_low n there = subst (λ l. slot_named w n < l) (sym fixed) (slot_low w.params (bound w n).place (length w.scope.names)
        (named_low (by_rules tops task) w.params m.slots w.scope.names n named there))

    -- so does that of a colour
    colour_low : (e : Expression) → IsUnder m.fixed (colour_at w e)
    colour_low e = subst (λ l. IsUnder l (colour_at w e)) (sym fixed)
        (steady_under w.params w.scope.names (colour_at w e) (place_low (by_rules tops task) w.params m.slots w.scope.names named) (colour_steady w e))

    seated : (n : Name) → is_bound w.scope.names n ≡ true → IsRegion (bound w n).static_type → (r : RegionValue) →
        region_in (slice_get x.held (slot_named w n)) ≡ Some r → forms.keeps ≡ true → (i : ℕ) → term_in (bound w n).static_type ≡ term.Name i → IsSeated r i
    seated n there is r held q i e =
        let s = named_slot tops task t w kept m facts (scoped q) (cut q) total vs suits.facts n i told.0.numbers there is e in (
          subst (λ y. region_in (slice_get vs y) ≡ Some r) s.0 (ap region_in (sym (stays_at m.fixed vs (slot_named w n) (name_low n there))) ∙ held),
          s.1,
        )

    -- an argument that is a name, by its type
    record IsNameAt (k : ℕ) (u : StaticType) : Type 0 where
      it : Name
      at : name_at es k ≡ Some it
      number : ℕ
      term : term_in u ≡ term.Name number

    -- or a part of a partition that has a name: it is the child by its colour
    record IsChildAt (k : ℕ) (u : StaticType) (r : RegionValue) : Type 0 where
      part : Name × Expression
      at : part_at es k ≡ Some part
      term : term_in u ≡ term.Child (bound w part.0).number (colour_of w.scope part.1)
      whose : IsCutName w part.0
      child : IsChild x.held (slot_named w part.0) (colour_at w part.1) r

    -- the argument for a parameter that is a region
    record IsRegionArgument (k : ℕ) : Type 0 where
      type : StaticType
      it : RegionValue
      at : region_in (slice_get ws k) ≡ Some it
      region : IsRegion type
      at_place : ArgumentIs w es k type
      stood : Stood forms type it
      given_as : IsNameAt k type ⊎ IsChildAt k type it
      within : (q : forms.keeps ≡ true) → In q it (term_in type)
      slot : forms.keeps ≡ true → (i : ℕ) → term_in type ≡ term.Name i → IsSeated it i
      unkept : forms.keeps ≡ false → BeganWhole w.params up type

    abbrev given : List StaticType
    given = known_types w.tree w.scope es

    known_typed : (k : ℕ) (a : IsRegionArgument k) → type_at given k ≡ a.type
    known_typed k a = type_of_argument es k a.type told.1 a.at_place

    none_whole : (place : ℕ) (u : StaticType) → IsRegion u → OfType w.params place u → forms.keeps ≡ false → BeganWhole w.params up u
    none_whole place _ (a_region_type k sp args (term.Name i)) o e = λ l. none e i
    none_whole place _ (a_region_type k sp args (term.Child p c)) o e = absurd o

    name_given : (k : ℕ) (n : Name) → name_at es k ≡ Some n → (place : ℕ) (u : StaticType) → IsRegion u → OfType w.params place u → IsNameAt k u
    name_given k n at place _ (a_region_type c sp args (term.Name i)) o = record { it = n; at = at; number = i; term = refl }
    name_given k n at place _ (a_region_type c sp args (term.Child p e)) o = absurd o

    of_name : (k : ℕ) → IsHandedAt w es k (type_at types k) → IsRegionArgument k
    of_name k a =
        let b = bound w a.name in
        let u = b.static_type in
        let r = first_region u (type_at types k) a.regions in
        let y = argument_at forms (by_rules tops task) w x ts types es ws k a.name passed whole are a.at r in
        let v = y.given in
        let q = any_given x (by_rules tops task) w.params u (type_at types k) v.it a.regions v.of in
        let at = ap region_in (v.at ∙ ap Some q.is) in
        let seat = seated a.name a.there r q.it (y.held q.it at) in
        let has = bound_among w.scope.names a.name a.there in
        let o = placed_at t (by_rules tops task) w.tree w.params w.scope a.name kept a.there in record {
          type = u;
          it = q.it;
          at = at;
          region = r;
          at_place = name_is w es k a.name a.at;
          stood = named_stood tops task t w kept m facts ep named fixed base vs st knows suits forms b has u refl r o v.it v.of q.it (ap region_in (ap Some q.is));
          given_as = inl (name_given k a.name a.at b.place u r o);
          within = λ keeps. named_in keeps b.place u q.it r o (seat keeps);
          slot = seat;
          unkept = none_whole b.place u r o;
        }

    -- a part's partition is of the region that its type names, whatever else is known of it
    part_stands : (n : Name) (c : Colour) → IsCutName w n →
        Stands w.params up known (term.Child (bound w n).number c) (top_in w.params up (parent_of (bound w n).static_type))
    part_stands n c cut r d h =
        let names = w.scope.names in
        let same = (found_by_number w.scope.next names n cut.numbers cut.named).0 in
        let found = partition_found names (bound w n).number (subst (λ (b : Bound). IsPartition b.static_type) (sym same) cut.partition) in
        ap (λ (u : StaticType). top_in w.params up (parent_of u))
        (sym ((kept.head.parts (PartOf (bound w n).number r d) h).one (bound w n) (subst (Has names) same found.0) refl))

    -- that region is a name's
    parent_said : (n : Name) → forms.keeps ≡ true → IsRegion (bound_as w.scope.names (parent_of (bound w n).static_type)).static_type →
        w.params ≤ parent_of (bound w n).static_type → IsSaid known (parent_of (bound w n).static_type)
    parent_said n keeps is =
        let names = w.scope.names in
        let r = parent_of (bound w n).static_type in
        let found = region_found names r is in
        said_of w.params known (bound_as names r).static_type r is
        (own_named names (bound_as names r).static_type (bound_as names r).number r is (scoped_as names names r (scoped keeps) is) found.1)
        (kept.said (bound_as names r) found.0)

    part_exact : (p : ℕ) (c : Colour) (u : StaticType) (r : RegionValue) (n : ℕ) → IsRegion u → term_in u ≡ term.Child p c → BeganWhole w.params up u → IsOf x w.params n r
    part_exact p c _ r n (a_region_type k sp args (term.Name i)) e began = absurd (subst IsNamed e tt)
    part_exact p c _ r n (a_region_type k sp args (term.Child q d)) e began = absurd began

    of_part : (k : ℕ) → IsPartAt forms w es k (type_at types k) → IsRegionArgument k
    of_part k a =
        let n = a.name in
        let u = typed w (access_expr n (at_step a.index no_step)) in
        let r = first_region u (type_at types k) a.regions in
        let d = part_argument_at forms (by_rules tops task) w x ts types es ws k (n, a.index) passed whole are a.at a.cut.partition in
        let v = any_of x d.space _ d.given.it d.given.of in
        let parent = parent_of (bound w n).static_type in
        let c = colour_of w.scope a.index in
        let term = part_term w n a.index a.cut.partition (scoped_named w.scope.names w.scope.names n (scoped a.keeps) a.cut.named) r in
        let from = given_from x d.space _ d.given.it d.given.of v.it (ap region_in (ap Some v.is)) in
        let at = ap region_in (d.given.at ∙ ap Some v.is) in
        let child = d.child v.it at in record {
          type = u;
          it = v.it;
          at = at;
          region = r;
          at_place = part_is_at w es k (n, a.index) a.at;
          stood = record {
            number = top_in w.params up parent;
            under = under_part tops task w.params parent x v.it from;
            stands = subst (λ b. Stands w.params up known b (top_in w.params up parent)) (sym term) (part_stands n c a.cut);
            whole = top_whole t tops task w.tree w.params w.scope kept parent (parent_said n a.keeps (part_parent w n a.index a.cut.partition r));
            exact = part_exact (bound w n).number c u v.it (top_in w.params up parent) r term;
          };
          given_as = inr (record { part = (n, a.index); at = a.at; term = term; whose = a.cut; child = child });
          within = λ q. subst (In q v.it) (sym term) (part_in tops task t w kept m facts (scoped q) (cut q) total vs suits.facts n a.index v.it a.cut
              (name_low n a.cut.named) (colour_low a.index) child);
          slot = λ q i e. absurd (subst IsNamed (sym e ∙ term) tt);
          unkept = λ e. absurd (false≢true (sym e ∙ a.keeps));
        }

    region_argument : (k : ℕ) → is_region (type_at types k) ≡ true → IsRegionArgument k
    region_argument k e = ⊎_elim (of_name k) (of_part k) (handed_at forms y takes w ts types es passed k e)

    -- a part that has no name is the child by its colour within which that is derived to lie
    lies_part : forms.keeps ≡ true → (ka kb : ℕ) (ra : IsRegionArgument ka) (rb : IsRegionArgument kb) → is_subregion known (term_in ra.type) (term_in rb.type) ≡ true →
        IsChildAt kb rb.type rb.it → LiesIn ra.it rb.it
    lies_part q ka kb ra rb lies upper =
        let n = upper.part.0 in
        let e = upper.part.1 in
        let below = (is_subregion-derivable known (term_in ra.type) (term.Child (bound w n).number (colour_of w.scope e))).0
        (subst (λ z. is_subregion known (term_in ra.type) z ≡ true) upper.term lies) in
        lies_child w m.fixed vs n e ra.it rb.it upper.whose below.certain (name_low n upper.whose.named) (colour_low e)
        (in_below tops task t w kept m facts (scoped q) (cut q) total vs suits.facts below.below ra.it (ra.within q)).1.1 upper.child

    -- where no pointers are kept none began as a part
    own_number : (u : StaticType) (r : RegionValue) (s : Stood forms u r) → IsRegion u → BeganWhole w.params up u → term_in u ≡ term.Name s.number
    own_number _ r s (a_region_type k sp args (term.Name i)) began = elim (below i w.params) [
      | inl low ↦ ap term.Name (sym (low_top w.params up i low) ∙ s.stands)
      | inr high ↦ ap term.Name (sym (high_top w.params up i None high (began high)) ∙ s.stands)
    ]
    own_number _ r s (a_region_type k sp args (term.Child p c)) began = absurd began

    -- ---- what the called task's head tells

    within_told : (a b : Name) (ra : IsRegionArgument (place_in callee.params a)) (rb : IsRegionArgument (place_in callee.params b)) →
        is_subregion known (term_in ra.type) (term_in rb.type) ≡ true → LiesIn ra.it rb.it
    within_told a b ra rb lies = of forms.keeps refl
      where
        of : (c : Bool) → forms.keeps ≡ c → LiesIn ra.it rb.it
        of true q = ⊎_elim
            (λ (n : IsNameAt (place_in callee.params b) rb.type).
            lies_named tops task t w kept m facts (scoped q) (cut q) total vs suits.facts (term_in ra.type) n.number ra.it rb.it (ra.within q) (rb.slot q n.number n.term).0
            (subst (λ z. is_subregion known (term_in ra.type) z ≡ true) n.term lies))
            (lies_part q (place_in callee.params a) (place_in callee.params b) ra rb lies) rb.given_as
        of false e = stood_within tops task t w kept m facts ep named fixed base vs st knows suits forms ra.type rb.type ra.it rb.it rb.region ra.stood rb.stood (rb.unkept e) lies

    apart_there : (ka kb : ℕ) (ra : IsRegionArgument ka) (rb : IsRegionArgument kb) → are_disjoint known (term_in ra.type) (term_in rb.type) ≡ true →
        SharesNoPoint (meant ra.it) (meant rb.it)
    apart_there ka kb ra rb lies = of forms.keeps refl ((are_disjoint-derivable known (term_in ra.type) (term_in rb.type)).0 lies)
      where
        of : (c : Bool) → forms.keeps ≡ c → IsApart known (term_in ra.type) (term_in rb.type) → SharesNoPoint (meant ra.it) (meant rb.it)
        of true q d = in_apart tops task t w kept m facts ep named fixed (scoped q) (cut q) total base vs st knows suits d ra.it rb.it (ra.within q) (rb.within q)
        of false e d = stood_apart tops task t w kept m facts ep named fixed base vs st knows suits forms ra.type rb.type ra.it rb.it ra.stood rb.stood
            (subst (λ a. IsApart known a (term.Name rb.stood.number)) (own_number ra.type ra.it ra.stood ra.region (ra.unkept e))
            (subst (IsApart known (term_in ra.type)) (own_number rb.type rb.it rb.stood rb.region (rb.unkept e)) d))

    parted_told : (p r : ℕ) (d : Bool) → type_at types p ≡ partition_type d r p → is_region (type_at types r) ≡ true → Holds (parted p r) ws
    parted_told p r d same sort = λ q eq.
        let c = cut_argument_at forms (by_rules tops task) w x ts types es ws p passed whole are (subst IsPartition (sym same) (a_partition_type d r p)) in
        let b = (bound w c.name).static_type in
        let a = region_argument r sort in
        let told_there : mispartitions given (type_at types p) (type_at given p) ≡ false =
        told_at given types given (subst (λ ts. mispartition_in given ts given ≡ false) (ap types_in_order (kept.sound.params name))
        (call_parts w.tree task w.scope (calling name given) told.2).parted) p in
        let parent = (parent_told given (partition_type d r p) b (a_partition_type d r p) c.is.partition
        (subst (λ u. mispartitions given (partition_type d r p) u ≡ false) (type_of_argument es p b told.1 (name_is w es p c.name c.at))
        (subst (λ u. mispartitions given u (type_at given p) ≡ false) same told_there))).1 in
        let i = parent_of b in
        let seat = a.slot c.keeps i (parent_is i a.type a.region (subst (λ u. is_parent i u ≡ true) (known_typed r a) parent)) in
        let o = cut_of_value (held_at (slot_bound w i) (origin_in (by_rules tops task) w.params (term.Name i))) (is_disjoint b) c.given.it q
        (sym (ap partition_in c.given.at) ∙ eq) (subst (λ s. Is x s c.given.it) (given_cut_is (by_rules tops task) w b c.is.partition) c.given.of) in
        let low : slot_bound w i < m.fixed = subst (λ l. slot_bound w i < l) (sym fixed) (slot_low w.params (bound_as w.scope.names i).place (length w.scope.names)
        (place_as (by_rules tops task) w.params m.slots w.scope.names i named seat.1)) in
        let at = slot_found tops task t w kept m facts (scoped c.keeps) (cut c.keeps) total vs suits.facts i seat.1 in
        let one : o.parent ≡ a.it = same_Some o.parent a.it (sym o.origin.1 ∙ ap region_in (stays_at m.fixed vs (slot_bound w i) low)
        ∙ subst (λ s. region_in (slice_get vs s) ≡ Some a.it) at seat.0) in record {
          parent = a.it;
          at = a.at;
          root = o.root ∙ ap (λ (z : RegionValue). z.root.0) one;
          inside = λ z h. subst (LiesIn z) one (o.inside z h);
        }
      where
        cut_of_value : (o : Origin) (e : Bool) (v : Value) (q : PartitionValue) → partition_in (Some v) ≡ Some q → Is x (cut_from None e o) v → IsCutOf x o q
        cut_of_value o e _ q at (is_cut _ _ _ c i h) = subst (IsCutOf x o) (same_Some c q at) h
        cut_of_value o e _ q at (is_number _ z h) = absurd h

    fact_told : (f : Fact) → IsClaimed w.tree callee callee_sound f → Holds f ws
    fact_told _ (claims_within a b h pa pb) = λ r er.
        let ka = place_in callee.params a in
        let kb = place_in callee.params b in
        let ra = region_argument ka pa.region in
        let rb = region_argument kb pb.region in
        let whole = none_has (breaks_clause known callee.params given) _ (clause.Within a b)
        (call_parts w.tree task w.scope (calling name given) told.2).constrained
        (subst (λ cs. Has cs (clause.Within a b)) (sym (told_soundly w.tree callee callee_sound.clauses)) h) in
        let lies = lies_within known ra.type rb.type ra.region rb.region
        (subst (λ u. is_not_within known ra.type u ≡ false) (known_typed kb rb)
        (subst (λ u. is_not_within known u (type_at given kb) ≡ false) (known_typed ka ra) whole)) in record {
          other = rb.it;
          at = rb.at;
          inside = subst (λ (q : RegionValue). LiesIn q rb.it) (same_Some ra.it r (sym ra.at ∙ er))
              (within_told a b ra rb lies);
        }
    fact_told _ (claims_apart a b h pa pb) = λ r q er eq same p ip.
        let ka = place_in callee.params a in
        let kb = place_in callee.params b in
        let ra = region_argument ka pa.region in
        let rb = region_argument kb pb.region in
        let whole = none_has (breaks_clause known callee.params given) _ (clause.Apart a b)
        (call_parts w.tree task w.scope (calling name given) told.2).constrained
        (subst (λ cs. Has cs (clause.Apart a b)) (sym (told_soundly w.tree callee callee_sound.clauses)) h) in
        let lies = lies_apart known ra.type rb.type ra.region rb.region
        (subst (λ u. are_not_apart known ra.type u ≡ false) (known_typed kb rb)
        (subst (λ u. are_not_apart known u (type_at given kb) ≡ false) (known_typed ka ra) whole)) in
        let apart = apart_there ka kb ra rb lies in
        let one : ra.it ≡ r = same_Some ra.it r (sym ra.at ∙ er) in
        let two : rb.it ≡ q = same_Some rb.it q (sym rb.at ∙ eq) in
        none_there r q (subst (λ o. SharesNoPoint (meant r) (meant o)) two (subst (λ o. SharesNoPoint (meant o) (meant rb.it)) one apart)) same p ip
    fact_told _ (claims_parted p r d h) = parted_told p r d (cut_param w.tree callee p r d h) (cut_region w.tree callee p r d h callee_sound)

    pub facts_told : Each (λ f. Holds f ws) (opening_facts (by_rules tops callee) w.tree callee)
    facts_told = each_claimed w.tree callee callee_sound (λ f. Holds f ws) fact_told
