-- Variables: what they begin with fits their types.
use Rattle.statement_laws.proofs.TypedVariables.{unless_both}
use Rattle.std.proofs.Common.{List, [], ◌∷◌, Bool, None, Option, Some, false, true, refl, ap, sym, subst, ℕ, ◌≡◌, ◌∙◌, ◌≤◌, ◌&&◌, map, cond, arith}
use Rattle.std.proofs.lemmas.Bool.{and_parts, eqb-true, not-false, or_parts}
use Rattle.std.proofs.lemmas.Int.{ints}
use Rattle.std.proofs.lemmas.List.{length-append}
use Rattle.std.proofs.lemmas.List.Elements.{All-nil}
use Rattle.std.proofs.lemmas.List.Folds.{list_any-append}
use Rattle.std.specs.List.{All, list_any}
use Rattle.std.specs.Prelude.{length}
use Rattle.plain_values.proofs.Plain.{option_or_parts}
use Rattle.plain_values.specs.Points.{points}
use Rattle.regent_tree.specs.Accesses.{converted, regions_reached, space_in}
use Rattle.regent_tree.specs.Evaluation.{typed, value}
use Rattle.regent_tree.specs.Execution.{Going, bind}
use Rattle.regent_tree.specs.Initializers.{initialized, make_root, zero_of}
use Rattle.regent_tree.specs.Laws.{Extends, Shape}
use Rattle.regent_tree.specs.Limits.{KeepsLimit, parts_of_expression, parts_of_form, parts_of_init, parts_of_term, parts_of_type}
use Rattle.regent_tree.specs.Running.{Here, Result, Run, State, and_then, fails, gives}
use Rattle.regent_tree.specs.Scopes.{in_scope}
use Rattle.regent_tree.specs.StaticTypes.{looked_up, place_of_space, type_said}
use Rattle.regent_tree.specs.Syntax.{Expression, Initializer, Name, TaskTree, plain_initializer, region_initializer, var_form}
use Rattle.regent_tree.specs.Typing.{initializer_type, owned, reaches_of, scope_after, var_type}
use Rattle.regent_tree.specs.Values.{Value, a_region, size_of}
use Rattle.regent_tree.specs.declared.types.NumberTerm.TheVariants as number
use Rattle.regent_tree.specs.declared.types.SpaceUse.{SpaceUse}
use Rattle.regent_tree.specs.declared.types.TypeTerm.{TypeTerm}
use Rattle.regent_tree.specs.declared.types.TypeTerm.TheVariants as typed_as
use Rattle.regent_tree.specs.declared.facts.Term.TheVariants as term
use Rattle.regent_tree.specs.declared.typing.Bound.{Bound}
use Rattle.regent_tree.specs.declared.typing.StaticType.{StaticType}
use Rattle.regent_tree.specs.declared.typing.StaticType.TheVariants.{Index as index_type, Integer as integer_type, Ispace as ispace_type, Nothing as no_type, Partition as partition_type, Pointer as pointer_type, Region as region_type, Truth as truth_type, Unknown as unknown_type}
use Rattle.check_rules.specs.first.FirstInExpressions.{first_in_expression, first_in_type}
use Rattle.check_rules.specs.first.FirstInStatements.{first_of_form}
use Rattle.check_rules.specs.first.Rules.{first_in}
use Rattle.check_rules.specs.rules.Partitions.{is_difference}
use Rattle.check_rules.specs.rules.Standing.{space_spot, stands, typed_spot}
use Rattle.check_rules.specs.rules.Types.{is_ill_typed_at_place}
use Rattle.check_rules.specs.scopes.Variables.{is_flawed_initializer, known_initializer, members_of, standing_in_initializer, stands_declared, variable_type}
use Rattle.check_rules.specs.types.Fitting.{fits, fits_known}
use Rattle.check_rules.specs.types.KnownTypes.{known_type}
use Rattle.check_rules.specs.types.Sorts.{is_collection, is_space, is_unknown_type}
use Rattle.check_laws.proofs.Parts.{contrary, surely, unless_false}
use Rattle.check_laws.proofs.Variables.{begun_sound, parts_of_form as parts_told, variable_known}
use Rattle.expression_laws.specs.Writing.{IsWritten}
use Rattle.state_laws.specs.Going.{GoesOnFit, IsPlaceOfRun}
use Rattle.state_laws.specs.Laws.{FormFits}
use Rattle.state_laws.proofs.Assignments.{known_fits}
use Rattle.state_laws.proofs.Going.{store_here, then_fits}
use Rattle.state_laws.proofs.Growing.{extends_none, fits_stays, names_more, names_new, stays_bound}
use Rattle.state_laws.proofs.Leaves.{evaluates}
use Rattle.state_laws.proofs.Made.{made_extends, made_fits, made_region, made_rooted, roots_made}
use Rattle.state_laws.proofs.Rooted.{EndsOfParent, IsOfParent, converted_ends, ends_named, gives_parent, no_parent, owned_ends, roots_new}
use Rattle.state_laws.proofs.VariableTypes.{BeginsSpaced, variable_begins}
use Rattle.value_laws.specs.Fitting.{Fits, IsGoal, fits_index, fits_integer, fits_partition, fits_pointer, fits_region, fits_space, fits_truth}
use Rattle.value_laws.specs.Keeping.{KeepsFit, StateFits}
use Rattle.value_laws.specs.Shapes.{AreRootsOfSpaces, IsRegionOf, most_points}
use Rattle.value_laws.proofs.Conversions.{converted_fits}
use Rattle.value_laws.proofs.Ends.{after, weaker}
use Rattle.value_laws.proofs.Limits.{all_left, all_right}
use Rattle.value_laws.proofs.Regions.{goals}
use Rattle.value_laws.proofs.Roots.{value_root}
use Rattle.value_laws.proofs.SameNames.{value_same}
use Rattle.value_laws.proofs.Spaced.{written_spaced}
use Rattle.value_laws.proofs.Types.{known}

-- ---- what is named by another number fits still

owned_fits : (roots : List Shape) (names : List Bound) (own : ℕ) (t : StaticType) (v : Value) → Fits roots names t v → Fits roots names (owned own t) v
owned_fits roots names own (region_type k space args q) v (fits_region is) = fits_region is
owned_fits roots names own (partition_type d r p) v (fits_partition is) = fits_partition is
owned_fits roots names own (integer_type w) v is = is
owned_fits roots names own truth_type v is = is
owned_fits roots names own (index_type k) v is = is
owned_fits roots names own (pointer_type k space args terms) v is = is
owned_fits roots names own (ispace_type k) v is = is
owned_fits roots names own no_type v is = is
owned_fits roots names own unknown_type v is = is

owned_unknown : (own : ℕ) (t : StaticType) → is_unknown_type (owned own t) ≡ is_unknown_type t
owned_unknown own (region_type k space args q) = refl
owned_unknown own (partition_type d r p) = refl
owned_unknown own (integer_type w) = refl
owned_unknown own truth_type = refl
owned_unknown own (index_type k) = refl
owned_unknown own (pointer_type k space args terms) = refl
owned_unknown own (ispace_type k) = refl
owned_unknown own no_type = refl
owned_unknown own unknown_type = refl

owned_fits_known : (known : _) (own : ℕ) (t wanted : StaticType) → fits_known known (owned own t) wanted ≡ true → fits_known known t wanted ≡ true
owned_fits_known known own (region_type k space args q) wanted e = e
owned_fits_known known own (partition_type d r p) wanted e = by wanted e
  where
    by : (wanted : StaticType) → fits_known known (partition_type d r own) wanted ≡ true → fits_known known (partition_type d r p) wanted ≡ true
    by (partition_type asked parent o) e = e
    by (integer_type w) e = absurd cc
    by truth_type e = absurd cc
    by (index_type k) e = absurd cc
    by (pointer_type k space args terms) e = absurd cc
    by (ispace_type k) e = absurd cc
    by (region_type k space args q) e = absurd cc
    by no_type e = absurd cc
    by unknown_type e = absurd cc
owned_fits_known known own (integer_type w) wanted e = e
owned_fits_known known own truth_type wanted e = e
owned_fits_known known own (index_type k) wanted e = e
owned_fits_known known own (pointer_type k space args terms) wanted e = e
owned_fits_known known own (ispace_type k) wanted e = e
owned_fits_known known own no_type wanted e = e
owned_fits_known known own unknown_type wanted e = e

module _ (task : TaskTree) where
  -- a value is bound to a new name
  pub bound_fits : (roots after : List Shape) (h : Here) (r : IsPlaceOfRun task roots h) (n : Name) (ty : StaticType) → BeginsSpaced h.tree h.scope ty → Extends roots after →
      AreRootsOfSpaces h.tree after → (v : Value) (u : State) → StateFits h.tree after h.scope.names u → Fits after h.scope.names ty v → IsOfParent h.scope.names u.names ty v →
      GoesOnFit h.tree roots (record { name = n; number = h.scope.next; place = length h.scope.names; static_type = ty; by_loop = false } ∷ h.scope.names) h.result (bind v u)
  bound_fits roots after h r n ty begins more rooted v u st is root =
      let b : Bound = record { name = n; number = h.scope.next; place = length h.scope.names; static_type = ty; by_loop = false } in
      let count = st.counted in record {
        after = after;
        extends = more;
        rooted = rooted;
        state_fits = record {
          names = names_new h.tree h.scope.next h.scope.names b r.place.scope.numbers refl after u.names v (refl, r.placed) st.counted r.place.spaced st.names
              (fits_stays h.scope.names (b ∷ h.scope.names) (stays_bound h.scope.next h.scope.names b r.place.scope.numbers refl) after ty v begins.parent is);
          counted = length-append u.names (v ∷ []) ∙ omega (arith, count);
          agree = roots_new h.tree h.scope.next h.scope.names b r.place.scope.numbers refl u.names v (refl, r.placed) st.counted r.place.spaced st.agree begins.parent begins.own root;
          store = st.store;
        };
      }

  -- a start value that makes no root
  pub started : (roots : List Shape) (h : Here) (r : IsPlaceOfRun task roots h) (n : Name) (ty : StaticType) → BeginsSpaced h.tree h.scope ty → (q : Result Value) →
      KeepsFit h.tree roots h.scope.names (Fits roots h.scope.names ty) q → EndsOfParent h.scope.names ty q →
      GoesOnFit h.tree roots (record { name = n; number = h.scope.next; place = length h.scope.names; static_type = ty; by_loop = false } ∷ h.scope.names) h.result (and_then q (λ v. bind v))
  started roots h r n ty begins (gives v u) fit root = bound_fits roots roots h r n ty begins (extends_none roots) r.place.rooted v u fit.0 fit.1 root
  started roots h r n ty begins (fails f u) fit root = store_here h.tree roots r.place.rooted u.store fit

  -- ---- what isn't told of a variable with a start value

  pub record IsToldStart (h : Here) (t : TypeTerm) (i : Initializer) : Type 0 where
    pub fit : fits_known h.scope.known (initializer_type h.tree h.scope h.scope.next i) (var_type h.tree h.scope (Some t) (Some i)) ≡ true
    pub known : is_unknown_type (initializer_type h.tree h.scope h.scope.next i) ≡ false

  pub start_told : (roots : List Shape) (h : Here) (r : IsPlaceOfRun task roots h) (n : Name) (t : TypeTerm) (i : Initializer) → first_of_form h.tree task h.scope (var_form n (Some t) (Some i)) ≡ None → IsToldStart h t i
  start_told roots h r n t i e =
      let s = h.scope in
      let parts = parts_told h.tree task s r.place.sound r.place.scope (var_form n (Some t) (Some i)) e in
      let b = begun_sound h.tree task s r.place.sound r.place.scope n (Some t) i e in
      let vt = variable_type h.tree s (Some t) (Some i) in
      let begun = initializer_type h.tree s s.next i in
      let variable = variable_known h.tree task s r.place.sound r.place.scope n (Some t) (Some i) e in
      let is_begun : known_initializer h.tree s i ≡ begun = unless_false (is_flawed_initializer h.tree s i) begun b.0 in
      let is_wanted : vt ≡ var_type h.tree s (Some t) (Some i) = sym (unless_both (is_collection vt) _ vt b.2) ∙ variable.0 in
      let stand = or_parts (list_any (is_ill_typed_at_place s.known) (standing_in_initializer h.tree s i)) (list_any (is_ill_typed_at_place s.known) (stands_declared (known_initializer h.tree s i) (Some t) vt))
      (sym (list_any-append (is_ill_typed_at_place s.known) (standing_in_initializer h.tree s i) (stands_declared (known_initializer h.tree s i) (Some t) vt)) ∙ parts.4) in
      let stood = not-false _ (or_parts (is_ill_typed_at_place s.known (stands (known_initializer h.tree s i) (typed_spot vt))) false stand.1).0 in
      let fit : fits s.known begun (var_type h.tree s (Some t) (Some i)) ≡ true = sym (λ j. fits s.known (is_begun j) (is_wanted j)) ∙ stood in
      record { fit = known_fits s.known begun (var_type h.tree s (Some t) (Some i)) variable.1.known fit; known = b.1.known }

  -- ---- without a start value

  valued : (vt ty : StaticType) (b : Bool) → is_collection vt ≡ b → cond (b && true) unknown_type vt ≡ ty → is_unknown_type ty ≡ false → is_collection ty ≡ false
  valued vt ty true q e known = absurd (contrary (ap is_unknown_type e ∙ known))
  valued vt ty false q e known = sym (ap is_collection e) ∙ q

  zero_fits : (roots : List Shape) (h : Here) (r : IsPlaceOfRun task roots h) (t : TypeTerm) → is_collection (type_said h.tree (in_scope h.scope) h.scope.next t) ≡ false →
      first_in_type h.tree h.scope.names t ≡ None → All KeepsLimit (parts_of_term t) → (u : State) → StateFits h.tree roots h.scope.names u →
      Fits roots h.scope.names (type_said h.tree (in_scope h.scope) h.scope.next t) (zero_of h.scope u.names (type_said h.tree (in_scope h.scope) h.scope.next t))
  zero_fits roots h r (typed_as.Number number.Int32) c told l u st = fits_integer (omega (arith, ints))
  zero_fits roots h r (typed_as.Number number.Int64) c told l u st = fits_integer (omega (arith, ints))
  zero_fits roots h r (typed_as.Number (number.Index k)) c told l u st = fits_index (omega (arith, ints))
  zero_fits roots h r typed_as.Truth c told l u st = fits_truth
  zero_fits roots h r (typed_as.Pointer p) c told l u st =
      fits_pointer tt (goals roots h.scope u.names st.names (place_of_space h.tree p.space.name) (map (looked_up (in_scope h.scope)) p.regions)
      (written_spaced h.tree h.scope r.place.scope p r.place.declared l told).regions)
  zero_fits roots h r (typed_as.Ispace k) c told l u st = absurd (contrary c)
  zero_fits roots h r (typed_as.Region k s) c told l u st = absurd (contrary c)
  zero_fits roots h r (typed_as.Partition d q s) c told l u st = absurd (contrary c)

  pub unset_fits : (n : Name) (t : TypeTerm) → FormFits task (var_form n (Some t) None)
  unset_fits n t roots h r e w wr limits u st =
      let variable = variable_known h.tree task h.scope r.place.sound r.place.scope n (Some t) None e in
      let plain = valued (variable_type h.tree h.scope (Some t) None) (var_type h.tree h.scope (Some t) None) _ refl variable.0 variable.1.known in
      let told = (option_or_parts (first_in_type h.tree h.scope.names t) None (parts_told h.tree task h.scope r.place.sound r.place.scope (var_form n (Some t) None) e).0).0 in
      let limit = all_left KeepsLimit (parts_of_term t) (parts_of_init None) limits in
      bound_fits roots roots h r n (var_type h.tree h.scope (Some t) None) (variable_begins task roots h r n (Some t) None e limits) (extends_none roots) r.place.rooted _ u st
      (zero_fits roots h r t plain told limit u st) (no_parent h.scope.names u.names (var_type h.tree h.scope (Some t) None) _ plain)

  -- ---- with an expression

  heads_told : (h : Here) (y : Expression) → is_difference h.scope.names y ≡ false →
      first_in (first_in_expression h.tree task h.scope) (cond (is_difference h.scope.names y) (members_of y) (y ∷ [])) ≡ None → first_in_expression h.tree task h.scope y ≡ None
  heads_told h y whole e =
      (option_or_parts (first_in_expression h.tree task h.scope y) _ (subst (λ b. first_in (first_in_expression h.tree task h.scope) (cond b (members_of y) (y ∷ [])) ≡ None) whole e)).0

  -- an expression gives what fits its type
  abbrev pub Evaluates : List Shape → Here → Expression → Type 0
  Evaluates roots h y = (u : State) → StateFits h.tree roots h.scope.names u → KeepsFit h.tree roots h.scope.names (Fits roots h.scope.names (typed h y)) (value h y u)

  -- and it is of the root that its type names
  abbrev pub IsRooted : List Shape → Here → Expression → Type 0
  IsRooted roots h y = (u : State) → StateFits h.tree roots h.scope.names u → EndsOfParent h.scope.names (typed h y) (value h y u)

  pub whole_rooted : (roots : List Shape) (h : Here) (r : IsPlaceOfRun task roots h) (y : Expression) → is_difference h.scope.names y ≡ false → IsWritten y →
      first_in (first_in_expression h.tree task h.scope) (cond (is_difference h.scope.names y) (members_of y) (y ∷ [])) ≡ None → IsRooted roots h y
  whole_rooted roots h r y whole wr heads u st =
      ends_named h.scope.names u.names (typed h y) (value h y u)
      (gives_parent h.scope.names u.names (typed h y) (value h y u) (value_root task roots h r.place u.names st.agree y wr (heads_told h y whole heads) u refl)) (value_same h u.names y u refl)

  pub whole_evaluates : (roots : List Shape) (h : Here) (r : IsPlaceOfRun task roots h) (y : Expression) → is_difference h.scope.names y ≡ false → IsWritten y → All KeepsLimit (parts_of_expression y) →
      first_in (first_in_expression h.tree task h.scope) (cond (is_difference h.scope.names y) (members_of y) (y ∷ [])) ≡ None → Evaluates roots h y
  whole_evaluates roots h r y whole wr limits heads u st = evaluates task roots h r y wr limits (heads_told h y whole heads) u st

  pub plain_fits : (n : Name) (y : Expression) (roots : List Shape) (h : Here) → IsPlaceOfRun task roots h →
      first_of_form h.tree task h.scope (var_form n None (Some (plain_initializer y))) ≡ None → All KeepsLimit (parts_of_expression y) → Evaluates roots h y → IsRooted roots h y →
      (u : State) → StateFits h.tree roots h.scope.names u →
      GoesOnFit h.tree roots (scope_after h.tree h.scope (var_form n None (Some (plain_initializer y)))).names h.result (and_then (value h y u) (λ v. bind v))
  plain_fits n y roots h r e limits evals rooted u st =
      started roots h r n (owned h.scope.next (typed h y)) (variable_begins task roots h r n None (Some (plain_initializer y)) e limits) (value h y u)
      (weaker h.tree roots h.scope.names (value h y u) (evals u st) (λ v is. owned_fits roots h.scope.names h.scope.next (typed h y) v is))
      (owned_ends h.scope.names h.scope.next (typed h y) (value h y u) (rooted u st))

  -- the regions that a written type has are of its field space
  written_goals : (roots : List Shape) (h : Here) (r : IsPlaceOfRun task roots h) (t : TypeTerm) → first_in_type h.tree h.scope.names t ≡ None → All KeepsLimit (parts_of_term t) →
      (u : State) → StateFits h.tree roots h.scope.names u →
      All (IsGoal roots (space_in (type_said h.tree (in_scope h.scope) h.scope.next t))) (regions_reached h.scope u.names (reaches_of (type_said h.tree (in_scope h.scope) h.scope.next t)))
  written_goals roots h r (typed_as.Pointer p) told l u st =
      goals roots h.scope u.names st.names (place_of_space h.tree p.space.name) (map (looked_up (in_scope h.scope)) p.regions)
      (written_spaced h.tree h.scope r.place.scope p r.place.declared l told).regions
  written_goals roots h r (typed_as.Number number.Int32) told l u st = All-nil (IsGoal roots 0)
  written_goals roots h r (typed_as.Number number.Int64) told l u st = All-nil (IsGoal roots 0)
  written_goals roots h r (typed_as.Number (number.Index k)) told l u st = All-nil (IsGoal roots 0)
  written_goals roots h r typed_as.Truth told l u st = All-nil (IsGoal roots 0)
  written_goals roots h r (typed_as.Ispace k) told l u st = All-nil (IsGoal roots 0)
  written_goals roots h r (typed_as.Region k s) told l u st = All-nil (IsGoal roots (place_of_space h.tree s.name))
  written_goals roots h r (typed_as.Partition d q s) told l u st = All-nil (IsGoal roots 0)

  pub typed_fits : (n : Name) (t : TypeTerm) (y : Expression) (roots : List Shape) (h : Here) → IsPlaceOfRun task roots h →
      first_of_form h.tree task h.scope (var_form n (Some t) (Some (plain_initializer y))) ≡ None → All KeepsLimit (parts_of_form (var_form n (Some t) (Some (plain_initializer y)))) →
      Evaluates roots h y → IsRooted roots h y →
      (u : State) → StateFits h.tree roots h.scope.names u →
      GoesOnFit h.tree roots (scope_after h.tree h.scope (var_form n (Some t) (Some (plain_initializer y)))).names h.result
      (and_then (initialized h (Some t) (var_type h.tree h.scope (Some t) (Some (plain_initializer y))) (plain_initializer y) u) (λ v. bind v))
  typed_fits n t y roots h r e limits evals rooted u st =
      let i = plain_initializer y in
      let wanted = var_type h.tree h.scope (Some t) (Some i) in
      let parts = parts_told h.tree task h.scope r.place.sound r.place.scope (var_form n (Some t) (Some i)) e in
      let start = start_told roots h r n t i e in
      let told = (option_or_parts (first_in_type h.tree h.scope.names t) None parts.0).0 in
      let limit = all_left KeepsLimit (parts_of_term t) (parts_of_init (Some i)) limits in
      let from_known = sym (owned_unknown h.scope.next (typed h y)) ∙ start.known in
      started roots h r n wanted (variable_begins task roots h r n (Some t) (Some i) e limits) (initialized h (Some t) wanted i u)
      (after (Fits roots h.scope.names wanted) (value h y u) (λ v z. converted h (typed h y) wanted (regions_reached h.scope z.names (reaches_of wanted)) v z)
      (evals u st) (λ v z st is.
      converted_fits h.tree roots h.scope.names h (typed h y) wanted (regions_reached h.scope z.names (reaches_of wanted)) v z from_known
      (owned_fits_known h.scope.known h.scope.next (typed h y) wanted start.fit) (written_goals roots h r t told limit z st) is st))
      (converted_ends h (typed h y) wanted from_known (owned_fits_known h.scope.known h.scope.next (typed h y) wanted start.fit) (value h y u) (rooted u st))

  -- ---- with a new region

  region_settles : (roots : List Shape) (names : List Bound) (known : _) (k : _) (space : ℕ) (args : _) (q : _) (wanted : StaticType) (v : Value) → fits_known known (region_type k space args q) wanted ≡ true →
      Fits roots names (region_type k space args q) v → Fits roots names wanted v
  region_settles roots names known k space args q (region_type j other others p) v e (fits_region {r = r} is) =
      fits_region (subst (λ n. IsRegionOf roots n r) (eqb-true space other (and_parts _ _ (and_parts _ _ e).0).1) is)
  region_settles roots names known k space args q (integer_type w) v e is = absurd cc
  region_settles roots names known k space args q truth_type v e is = absurd cc
  region_settles roots names known k space args q (index_type j) v e is = absurd cc
  region_settles roots names known k space args q (pointer_type j other others terms) v e is = absurd cc
  region_settles roots names known k space args q (ispace_type j) v e is = absurd cc
  region_settles roots names known k space args q (partition_type d p o) v e is = absurd cc
  region_settles roots names known k space args q no_type v e is = absurd cc
  region_settles roots names known k space args q unknown_type v e is = absurd cc

  sized : (roots : List Shape) (names : List Bound) (t : StaticType) (v : Value) → is_space t ≡ true → Fits roots names t v → size_of v ≤ most_points
  sized roots names (ispace_type k) v e (fits_space few) = few
  sized roots names (integer_type w) v e is = absurd cc
  sized roots names truth_type v e is = absurd cc
  sized roots names (index_type j) v e is = absurd cc
  sized roots names (pointer_type j other others terms) v e is = absurd cc
  sized roots names (region_type j other others p) v e is = absurd cc
  sized roots names (partition_type d p o) v e is = absurd cc
  sized roots names no_type v e is = absurd cc
  sized roots names unknown_type v e is = absurd cc

  -- the size of a new region is an index space's
  space_there : (roots : List Shape) (h : Here) (r : IsPlaceOfRun task roots h) (y : Expression) → first_in_expression h.tree task h.scope y ≡ None →
      is_ill_typed_at_place h.scope.known (stands (known_type h.tree h.scope y) space_spot) ≡ false → is_space (typed h y) ≡ true
  space_there roots h r y told e =
      let k = known task roots h r.place y told in
      subst (λ t. is_space t ≡ true) k.1 (surely is_space (known_type h.tree h.scope y) k.0.known (not-false _ e))

  declared_region : (roots after : List Shape) (h : Here) (r : IsPlaceOfRun task roots h) (n : Name) (t : Option TypeTerm) (y : Expression) (s : SpaceUse) →
      first_of_form h.tree task h.scope (var_form n t (Some (region_initializer y s))) ≡ None → (v : Value) →
      Fits after h.scope.names (initializer_type h.tree h.scope h.scope.next (region_initializer y s)) v → Fits after h.scope.names (var_type h.tree h.scope t (Some (region_initializer y s))) v
  declared_region roots after h r n None y s e v is = is
  declared_region roots after h r n (Some t) y s e v is =
      region_settles after h.scope.names h.scope.known _ _ _ _ (var_type h.tree h.scope (Some t) (Some (region_initializer y s))) v (start_told roots h r n t (region_initializer y s) e).fit is

  -- a new region is no partition
  region_parent : (names : List Bound) (vs : List Value) (known : _) (k : _) (space : ℕ) (args : _) (q : _) (wanted : StaticType) (v : Value) → fits_known known (region_type k space args q) wanted ≡ true → IsOfParent names vs wanted v
  region_parent names vs known k space args q (region_type j other others p) v e = tt
  region_parent names vs known k space args q (integer_type w) v e = tt
  region_parent names vs known k space args q truth_type v e = tt
  region_parent names vs known k space args q (index_type j) v e = tt
  region_parent names vs known k space args q (pointer_type j other others terms) v e = tt
  region_parent names vs known k space args q (ispace_type j) v e = tt
  region_parent names vs known k space args q (partition_type d p o) v e = absurd cc
  region_parent names vs known k space args q no_type v e = tt
  region_parent names vs known k space args q unknown_type v e = tt

  declared_parent : (roots : List Shape) (h : Here) (r : IsPlaceOfRun task roots h) (n : Name) (t : Option TypeTerm) (y : Expression) (s : SpaceUse) →
      first_of_form h.tree task h.scope (var_form n t (Some (region_initializer y s))) ≡ None → (vs : List Value) (v : Value) →
      IsOfParent h.scope.names vs (var_type h.tree h.scope t (Some (region_initializer y s))) v
  declared_parent roots h r n None y s e vs v = tt
  declared_parent roots h r n (Some t) y s e vs v =
      region_parent h.scope.names vs h.scope.known _ _ _ (term.Name h.scope.next) (var_type h.tree h.scope (Some t) (Some (region_initializer y s))) v (start_told roots h r n t (region_initializer y s) e).fit

  pub region_begun : (n : Name) (t : Option TypeTerm) (y : Expression) (s : SpaceUse) → FormFits task (var_form n t (Some (region_initializer y s)))
  region_begun n t y s roots h r e w wr limits u st =
      let i = region_initializer y s in
      let ty = var_type h.tree h.scope t (Some i) in
      let parts = parts_told h.tree task h.scope r.place.sound r.place.scope (var_form n t (Some i)) e in
      let told = (option_or_parts (first_in_expression h.tree task h.scope y) _ parts.2).0 in
      let stand = or_parts (is_ill_typed_at_place h.scope.known (stands (known_type h.tree h.scope y) space_spot)) _ parts.4 in
      let number = space_there roots h r y told stand.0 in
      in_turn (value h y u) (λ v. make_root h s (size_of v)) (λ v. bind v)
      (then_fits h.tree roots r.place.rooted h.scope.names (scope_after h.tree h.scope (var_form n t (Some i))).names h.result (value h y u) (λ v z. and_then (make_root h s (size_of v) z) (λ v. bind v))
      (evaluates task roots h r y wr (all_right KeepsLimit (parts_of_type t) (parts_of_expression y) limits) told u st) (λ v z st is.
      let space = place_of_space h.tree s.name in
      let few = sized roots h.scope.names (typed h y) v number is in
      let after = roots_made h.tree roots z.store space (size_of v) st.store r.place.rooted few in
      let more = made_extends h.tree roots z.store space (size_of v) st.store r.place.rooted few in
      bound_fits roots after h r n ty (variable_begins task roots h r n t (Some i) e limits) more (made_rooted h.tree roots z.store space (size_of v) st.store r.place.rooted few)
      (a_region (record { root = length z.store; points = points (size_of v) })) _ (record {
        names = names_more roots after more h.scope.names z.names st.names;
        counted = st.counted;
        agree = st.agree;
        store = made_fits h.tree roots z.store space (size_of v) st.store r.place.rooted few;
      }) (declared_region roots after h r n t y s e _ (fits_region (made_region h.tree roots z.store space (size_of v) st.store r.place.rooted few)))
      (declared_parent roots h r n t y s e z.names (a_region (record { root = length z.store; points = points (size_of v) })))))
    where
      in_turn : {A B : Type 0} (q : Result A) (f : A → Run B) (g : B → Run Going) →
          GoesOnFit h.tree roots (scope_after h.tree h.scope (var_form n t (Some (region_initializer y s)))).names h.result (and_then q (λ a u. and_then (f a u) g)) →
          GoesOnFit h.tree roots (scope_after h.tree h.scope (var_form n t (Some (region_initializer y s)))).names h.result (and_then (and_then q f) g)
      in_turn (gives a u) f g goes = goes
      in_turn (fails e u) f g goes = goes
