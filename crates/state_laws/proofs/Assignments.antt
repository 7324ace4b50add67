-- Assignments to variables and fields, and fills, of which nothing is told.
use Rattle.std.proofs.Common.{List, [], ◌∷◌, None, false, true, refl, ap, sym, subst, ℕ, ◌≡◌, ◌∙◌, ◌||◌, ◌⊎◌, inl, inr, not, get_or, ◌&&◌}
use Rattle.std.proofs.lemmas.Bool.{and_parts, not-false, or_parts}
use Rattle.std.proofs.lemmas.List.{length-set}
use Rattle.std.proofs.lemmas.List.Elements.{All-nil}
use Rattle.std.specs.List.{All, list_any}
use Rattle.std.specs.Prelude.{map, slice_set}
use Rattle.plain_values.proofs.Plain.{option_or_parts}
use Rattle.lane_kernels.proofs.Operators.{closed}
use Rattle.lane_kernels.specs.Numbers.{wrapped}
use Rattle.regent_tree.proofs.Members.{Has}
use Rattle.regent_tree.specs.Accesses.{aimed, converted, space_in}
use Rattle.regent_tree.specs.Evaluation.{named_value, stepped, typed, value}
use Rattle.regent_tree.specs.Execution.{before_last, fill_fields, last_field, right_side, updated, with_regions_of, write_field, write_name, write_to}
use Rattle.regent_tree.specs.Laws.{Shape}
use Rattle.regent_tree.specs.Limits.{KeepsLimit, nodes, parts_of_expression, parts_of_steps}
use Rattle.regent_tree.specs.Lookup.{has_field, is_bound, type_named}
use Rattle.regent_tree.specs.Running.{Here, State, and_then, ◌>>=◌}
use Rattle.regent_tree.specs.Scopes.{bound_as, bound_to, unbound}
use Rattle.regent_tree.specs.StaticTypes.{Looking, Reach, among_args, field_place, field_term, field_type, space_at, type_said}
use Rattle.regent_tree.specs.Syntax.{Expression, Name, Steps, TaskTree, Tree, access_expr, assign_form, at_step, field_step, fill_form, no_step}
use Rattle.regent_tree.specs.Typing.{stepped_type}
use Rattle.regent_tree.specs.Values.{Value, a_truth, number_of, region_of}
use Rattle.regent_tree.specs.declared.facts.Term.{Term}
use Rattle.regent_tree.specs.declared.statement.How.{How}
use Rattle.regent_tree.specs.declared.statement.How.TheVariants as how
use Rattle.regent_tree.specs.declared.types.Kind.{Kind}
use Rattle.regent_tree.specs.declared.types.NumberTerm.TheVariants as number
use Rattle.regent_tree.specs.declared.types.TypeTerm.{TypeTerm}
use Rattle.regent_tree.specs.declared.types.TypeTerm.TheVariants as typed_as
use Rattle.regent_tree.specs.declared.typing.Bound.{Bound}
use Rattle.regent_tree.specs.declared.typing.StaticType.{StaticType}
use Rattle.regent_tree.specs.declared.typing.StaticType.TheVariants.{Index as index_type, Integer as integer_type, Ispace as ispace_type, Nothing as no_type, Partition as partition_type, Pointer as pointer_type, Region as region_type, Truth as truth_type, Unknown as unknown_type}
use Rattle.check_rules.proofs.Untold.{rule_none}
use Rattle.check_rules.specs.first.FirstInExpressions.{first_in_expression, first_in_target_steps}
use Rattle.check_rules.specs.first.FirstInStatements.{first_of_form}
use Rattle.check_rules.specs.first.Rules.{rule_if}
use Rattle.check_rules.specs.rules.Standing.{stands, typed_spot}
use Rattle.check_rules.specs.rules.Statements.{standing_in_form}
use Rattle.check_rules.specs.rules.Targets.{ends_in_element, ends_in_no_place, is_fixed, is_no_integer, is_no_target, mistargets}
use Rattle.check_rules.specs.rules.Types.{is_ill_typed_at_place}
use Rattle.check_rules.specs.types.Declarations.{is_flawed_field, is_no_field_type, known_field}
use Rattle.check_rules.specs.types.Fitting.{fits, fits_known}
use Rattle.check_rules.specs.types.KnownTypes.{known_type}
use Rattle.check_rules.specs.types.Lookup.{names_a, region_has}
use Rattle.check_rules.specs.rules.Names.{is_unknown_region_field}
use Rattle.check_rules.specs.types.Params.{type_unless}
use Rattle.check_rules.specs.types.Sorts.{is_collection, is_integer, is_region, is_space, is_unknown_type}
use Rattle.check_rules.specs.declared.rule.Rule.TheVariants as rule
use Rattle.check_laws.proofs.Forms.{target_as_meant}
use Rattle.check_laws.proofs.Parts.{contrary, surely}
use Rattle.check_laws.proofs.Scopes.{found_by_number}
use Rattle.check_laws.proofs.Variables.{parts_of_form}
use Rattle.expression_laws.specs.Writing.{AreStepped, IsWritten}
use Rattle.statement_laws.proofs.Assignments.{same_place}
use Rattle.statement_laws.proofs.Leaves.{form_parts, region_like}
use Rattle.statement_laws.specs.Steady.{ArePlaced}
use Rattle.state_laws.specs.Going.{GoesOnFit, IsPlaceOfRun}
use Rattle.state_laws.specs.Laws.{FormFits}
use Rattle.state_laws.proofs.Going.{state_here, then_fits}
use Rattle.state_laws.proofs.Rooted.{roots_set}
use Rattle.state_laws.proofs.Leaves.{evaluates}
use Rattle.state_laws.proofs.Writes.{MayBePut, fill_fits, target_fits}
use Rattle.state_laws.proofs.Written.{set_cases}
use Rattle.value_laws.specs.Fitting.{Fits, IsGoal, NamesFit, fits_index, fits_integer, fits_nothing, fits_partition, fits_pointer, fits_region, fits_space, fits_truth, fits_unknown}
use Rattle.value_laws.specs.Keeping.{KeepsFit, StateFits}
use Rattle.value_laws.specs.Shapes.{IsRegionOf}
use Rattle.value_laws.specs.Spaces.{IsSpaced}
use Rattle.value_laws.proofs.Accesses.{field_said}
use Rattle.value_laws.proofs.Regions.{region_fits}
use Rattle.value_laws.proofs.Conversions.{converted_fits}
use Rattle.value_laws.proofs.Ends.{after, weaker}
use Rattle.value_laws.proofs.Limits.{all_left, all_right}
use Rattle.value_laws.proofs.Types.{known, known_meant, name_spaced}

-- ---- what a variable has then

module _ (roots : List Shape) (names : List Bound) where
  -- a pointer goes with the regions that the variable had
  kept_regions : (t : StaticType) (old v : Value) → Fits roots names t old → Fits roots names t v → Fits roots names t (with_regions_of old v)
  kept_regions (pointer_type k s args terms) old v (fits_pointer was go) (fits_pointer is other) = fits_pointer is go
  kept_regions (integer_type w) old v was (fits_integer f) = fits_integer f
  kept_regions truth_type old v was fits_truth = fits_truth
  kept_regions (index_type k) old v was (fits_index f) = fits_index f
  kept_regions (ispace_type k) old v was (fits_space f) = fits_space f
  kept_regions (region_type k s args t) old v was (fits_region is) = fits_region is
  kept_regions (partition_type d r p) old v was (fits_partition is) = fits_partition is
  kept_regions no_type old v was is = fits_nothing
  kept_regions unknown_type old v was is = fits_unknown

  reduced : (t : StaticType) (o : _) (old v : Value) → is_integer t ≡ true → Fits roots names t old → Fits roots names t (updated (how.Reduce o) old v)
  reduced (integer_type w) o old v e (fits_integer {z = z} f) = fits_integer (closed o w z (wrapped w (number_of v)))
  reduced truth_type o old v e is = absurd cc
  reduced (index_type k) o old v e is = absurd cc
  reduced (pointer_type k s args terms) o old v e is = absurd cc
  reduced (ispace_type k) o old v e is = absurd cc
  reduced (region_type k s args t) o old v e is = absurd cc
  reduced (partition_type d r p) o old v e is = absurd cc
  reduced no_type o old v e is = absurd cc
  reduced unknown_type o old v e is = absurd cc

  put_in_name : (k : How) (t : StaticType) (old v : Value) → MayBePut roots names k t v → Fits roots names t old → Fits roots names t (updated k old (with_regions_of old v))
  put_in_name how.Set t old v may was = kept_regions t old v was may
  put_in_name (how.Reduce o) t old v may was = reduced t o old (with_regions_of old v) may was

  -- one name's value changes to another that fits its type
  names_set : (vs : List Value) (b : Bound) (v : Value) → ArePlaced names → bound_as names b.number ≡ b → is_unknown_type b.static_type ≡ false →
      Fits roots names b.static_type v → NamesFit roots names vs → NamesFit roots names (slice_set vs b.place v)
  names_set vs b v placed found known is fit i = elim (set_cases vs b.place (bound_as names i).place v (a_truth false)) [
    | inl e ↦ subst (Fits roots names (bound_as names i).static_type) (sym e) (fit i)
    | inr e ↦ subst (Fits roots names (bound_as names i).static_type) (sym e.1) (there (same_place names placed i b.number (sym e.0 ∙ sym (ap (λ (c : Bound). c.place) found))))
  ]
    where
      there : (bound_as names i ≡ bound_as names b.number) ⊎ ((bound_as names i ≡ unbound) ⊎ (bound_as names b.number ≡ unbound)) →
          Fits roots names (bound_as names i).static_type v
      there (inl e) = subst (λ (c : Bound). Fits roots names c.static_type v) (sym (e ∙ found)) is
      there (inr (inl e)) = subst (λ (c : Bound). Fits roots names c.static_type v) (sym e) fits_unknown
      there (inr (inr e)) = absurd (contrary (sym (ap (λ (c : Bound). is_unknown_type c.static_type) (sym found ∙ e)) ∙ known))

-- a type that is known and fits, fits in earnest
pub known_fits : (known : _) (from wanted : StaticType) → is_unknown_type wanted ≡ false → fits known from wanted ≡ true → fits_known known from wanted ≡ true
known_fits known from wanted k e = sym (ap (λ b. b || fits_known known from wanted) k) ∙ e

-- a field of a region that is there is declared with a type that is known
said_is_known : (tree : Tree) (look : Looking) (t : TypeTerm) → is_no_field_type t ≡ false → is_unknown_type (type_said tree look 0 t) ≡ false
said_is_known tree look (typed_as.Number number.Int32) e = refl
said_is_known tree look (typed_as.Number number.Int64) e = refl
said_is_known tree look (typed_as.Number (number.Index k)) e = refl
said_is_known tree look typed_as.Truth e = refl
said_is_known tree look (typed_as.Pointer p) e = refl
said_is_known tree look (typed_as.Ispace k) e = absurd cc
said_is_known tree look (typed_as.Region k u) e = absurd cc
said_is_known tree look (typed_as.Partition d r c) e = absurd cc

module _ (task : TaskTree) where
  -- what isn't told of an assignment
  record IsToldTarget (h : Here) (n : Name) (steps : Steps) (k : How) (y : Expression) : Type 0 where
    bound : is_bound h.scope.names n ≡ true
    right : first_in_expression h.tree task h.scope y ≡ None
    known : is_unknown_type (typed h (access_expr n steps)) ≡ false
    meant : known_type h.tree h.scope (access_expr n steps) ≡ typed h (access_expr n steps)
    free : mistargets task h.scope.names n steps k (known_type h.tree h.scope (access_expr n steps)) ≡ false
    stand : list_any (is_ill_typed_at_place h.scope.known) (standing_in_form h.tree task h.scope (assign_form n steps k y)) ≡ false
    told : first_in_target_steps h.tree task h.scope (type_named h.scope.names n) steps ≡ None

  target_told : (roots : List Shape) (h : Here) (r : IsPlaceOfRun task roots h) (n : Name) (steps : Steps) (k : How) (y : Expression) →
      first_of_form h.tree task h.scope (assign_form n steps k y) ≡ None → IsToldTarget h n steps k y
  target_told roots h r n steps k y e =
      let parts = form_parts h.tree task h.scope (assign_form n steps k y) e in
      let targets = option_or_parts (rule_if (not (is_bound h.scope.names n)) rule.Name) _ parts.targets in
      let meant = target_as_meant h.tree task h.scope r.place.sound r.place.scope n steps parts.targets in record {
        bound = not-false (is_bound h.scope.names n) (rule_none _ rule.Name targets.0);
        right = (option_or_parts (first_in_expression h.tree task h.scope y) _ parts.heads).0;
        known = subst (λ t. is_unknown_type t ≡ false) meant.type meant.known.known;
        meant = meant.type;
        free = parts.targeted;
        stand = (parts_of_form h.tree task h.scope r.place.sound r.place.scope (assign_form n steps k y) e).4;
        told = targets.1;
      }

  -- the right side may be put there
  right_fits : (roots : List Shape) (h : Here) (r : IsPlaceOfRun task roots h) (n : Name) (steps : Steps) (k : How) (y : Expression) → IsToldTarget h n steps k y → IsWritten y →
      All KeepsLimit (parts_of_expression y) → (u : State) → StateFits h.tree roots h.scope.names u →
      KeepsFit h.tree roots h.scope.names (MayBePut roots h.scope.names k (typed h (access_expr n steps))) (right_side h n steps k y u)
  right_fits roots h r n steps (how.Reduce o) y t wr limits u st =
      let type = known_type h.tree h.scope (access_expr n steps) in
      let known : is_unknown_type type ≡ false = ap is_unknown_type t.meant ∙ t.known in
      let whole = surely is_integer type known (not-false _ (or_parts (is_no_target task h.scope.names n steps type) (is_no_integer (how.Reduce o) type) t.free).1) in
      weaker h.tree roots h.scope.names (value h y u) (evaluates task roots h r y wr limits t.right u st) (λ v is. sym (ap is_integer t.meant) ∙ whole)
  right_fits roots h r n steps how.Set y t wr limits u st =
      let type = known_type h.tree h.scope (access_expr n steps) in
      let wanted = typed h (access_expr n steps) in
      let k = known task roots h r.place y t.right in
      let stood = not-false _ (or_parts (is_ill_typed_at_place h.scope.known (stands (known_type h.tree h.scope y) (typed_spot (type_unless (mistargets task h.scope.names n steps how.Set type) type)))) false t.stand).0 in
      let plain : fits h.scope.known (known_type h.tree h.scope y) type ≡ true = sym (λ j. fits h.scope.known (known_type h.tree h.scope y) (type_unless (t.free j) type)) ∙ stood in
      let fit : fits h.scope.known (typed h y) wanted ≡ true = sym (λ j. fits h.scope.known (k.1 j) (t.meant j)) ∙ plain in
      after (MayBePut roots h.scope.names how.Set wanted) (value h y u) (λ v. converted h (typed h y) wanted [] v) (evaluates task roots h r y wr limits t.right u st) (λ v w st is.
      converted_fits h.tree roots h.scope.names h (typed h y) wanted [] v w (known_meant task roots h r.place y t.right).known
      (known_fits h.scope.known (typed h y) wanted t.known fit) (All-nil (IsGoal roots (space_in wanted))) is st)

  -- what is put is written to a field, or to a variable
  field_assigned : (roots : List Shape) (h : Here) (r : IsPlaceOfRun task roots h) (n : Name) (steps : Steps) (k : How) (y : Expression) → IsToldTarget h n steps k y → (steps ≡ no_step → ⊥) →
      ends_in_no_place steps (known_type h.tree h.scope (access_expr n steps)) ≡ false → AreStepped steps → All KeepsLimit (parts_of_steps steps) → (v : Value) (u : State) →
      StateFits h.tree roots h.scope.names u → MayBePut roots h.scope.names k (typed h (access_expr n steps)) v →
      GoesOnFit h.tree roots h.scope.names h.result (and_then (stepped h (type_named h.scope.names n) (get_or u.names (bound_to h.scope.names n).place (a_truth false)) (before_last steps) u)
      (λ q. write_field h (stepped_type h.tree h.scope (type_named h.scope.names n) (before_last steps)) (last_field steps) k v (aimed q)))
  field_assigned roots h r n steps k y t some ends wr limits v u st may =
      let type = type_named h.scope.names n in
      let parts = or_parts (ends_in_element steps) (is_space (known_type h.tree h.scope (access_expr n steps))) ends in
      target_fits task roots h r type steps k v (get_or u.names (bound_to h.scope.names n).place (a_truth false)) u some wr limits (r.place.scope.types n t.bound)
      (name_spaced task roots h r.place n t.bound) parts.0 (sym (ap is_space t.meant) ∙ parts.1) t.told may (name_fits h roots r n t.bound u st) st
    where
      name_fits : (h : Here) (roots : List Shape) (r : IsPlaceOfRun task roots h) (n : Name) → is_bound h.scope.names n ≡ true → (u : State) → StateFits h.tree roots h.scope.names u →
          Fits roots h.scope.names (type_named h.scope.names n) (get_or u.names (bound_to h.scope.names n).place (a_truth false))
      name_fits h roots r n b u st = subst (λ (c : Bound). Fits roots h.scope.names c.static_type (get_or u.names c.place (a_truth false)))
          (found_by_number h.scope.next h.scope.names n r.place.scope.numbers b).0 (st.names (bound_to h.scope.names n).number)

  -- a name that may be assigned is of no region, partition or index space
  no_collection : (names : List Bound) (n : Name) → is_bound names n ≡ true → (is_bound names n && is_fixed task (bound_to names n)) ≡ false → is_collection (bound_to names n).static_type ≡ false
  no_collection names n b e =
      let fixed : is_fixed task (bound_to names n) ≡ false = sym (λ j. b j && is_fixed task (bound_to names n)) ∙ e in
      (or_parts _ (is_collection (bound_to names n).static_type) fixed).1

  pub assign_fits : (n : Name) (steps : Steps) (k : How) (y : Expression) → FormFits task (assign_form n steps k y)
  assign_fits n no_step k y roots h r e w wr limits u st =
      let t = target_told roots h r n no_step k y e in
      let b = bound_to h.scope.names n in
      let found = (found_by_number h.scope.next h.scope.names n r.place.scope.numbers t.bound).0 in
      then_fits h.tree roots r.place.rooted h.scope.names h.scope.names h.result (right_side h n no_step k y u) (λ v. write_name h n k v)
      (right_fits roots h r n no_step k y t wr.0 limits u st) (λ v w st may.
      let old = get_or w.names b.place (a_truth false) in
      let was = subst (λ (c : Bound). Fits roots h.scope.names c.static_type (get_or w.names c.place (a_truth false))) found (st.names b.number) in
      state_here h.tree roots r.place.rooted h.scope.names _ (record {
        names = names_set roots h.scope.names w.names b (updated k old (with_regions_of old v)) r.placed found t.known
            (put_in_name roots h.scope.names k b.static_type old v may was) st.names;
        counted = length-set w.names b.place _ ∙ st.counted;
        agree = roots_set h.tree h.scope.names w.names b (updated k old (with_regions_of old v)) r.placed r.place.spaced found t.known (no_collection h.scope.names n t.bound (or_parts _ _ t.free).0) st.agree;
        store = st.store;
      }))
  assign_fits n (field_step f rest) k y roots h r e w wr limits u st =
      let t = target_told roots h r n (field_step f rest) k y e in
      let steps = field_step f rest in
      then_fits h.tree roots r.place.rooted h.scope.names h.scope.names h.result (right_side h n steps k y u) (λ v. write_to h n steps k v)
      (right_fits roots h r n steps k y t wr.0 (all_right KeepsLimit (parts_of_steps steps) (parts_of_expression y) limits) u st) (λ v w st may.
      field_assigned roots h r n steps k y t (λ q. absurd cc) (or_parts _ _ t.free).0 wr.1 (all_left KeepsLimit (parts_of_steps steps) (parts_of_expression y) limits) v w st may)
  assign_fits n (at_step z rest) k y roots h r e w wr limits u st =
      let t = target_told roots h r n (at_step z rest) k y e in
      let steps = at_step z rest in
      then_fits h.tree roots r.place.rooted h.scope.names h.scope.names h.result (right_side h n steps k y u) (λ v. write_to h n steps k v)
      (right_fits roots h r n steps k y t wr.0 (all_right KeepsLimit (parts_of_steps steps) (parts_of_expression y) limits) u st) (λ v w st may.
      field_assigned roots h r n steps k y t (λ q. absurd cc) (or_parts _ _ t.free).0 wr.1 (all_left KeepsLimit (parts_of_steps steps) (parts_of_expression y) limits) v w st may)

  -- ---- fills

  filled_types : (roots : List Shape) (h : Here) (r : IsPlaceOfRun task roots h) (from : StaticType) (k : Kind) (space : ℕ) (args : List Reach) (q : Term) (fs : List Name) →
      list_any (λ f. not (has_field h.tree space f)) fs ≡ false →
      list_any (is_ill_typed_at_place h.scope.known) (map (λ f. stands from (typed_spot (known_field h.tree (region_type k space args q) f))) fs) ≡ false →
      (f : Name) → Has fs f → fits_known h.scope.known from (field_type h.tree space args f) ≡ true
  filled_types roots h r from k space args q [] there stood f has = absurd has
  filled_types roots h r from k space args q (g ∷ fs) there stood f (inr has) =
      filled_types roots h r from k space args q fs (or_parts (not (has_field h.tree space g)) _ there).1
      (or_parts (is_ill_typed_at_place h.scope.known (stands from (typed_spot (known_field h.tree (region_type k space args q) g)))) _ stood).1 f has
  filled_types roots h r from k space args q (g ∷ fs) there stood f (inl same) =
      let no_field = (or_parts (not (has_field h.tree space g)) _ there).0 in
      let sound = r.place.sound.fields space g (not-false _ no_field) in
      let here = not-false _ (or_parts (is_ill_typed_at_place h.scope.known (stands from (typed_spot (known_field h.tree (region_type k space args q) g)))) _ stood).0 in
      let flawless : (not (has_field h.tree space g) || is_flawed_field h.tree space g) ≡ false = λ j. no_field j || sound j in
      let fit : fits h.scope.known from (field_type h.tree space args g) ≡ true = sym (λ j. fits h.scope.known from (type_unless (flawless j) (field_type h.tree space args g))) ∙ here in
      let said = field_said roots h r.place space g (not-false _ no_field) in
      subst (λ f. fits_known h.scope.known from (field_type h.tree space args f) ≡ true) same
      (known_fits h.scope.known from (field_type h.tree space args g)
      (said_is_known h.tree (among_args (space_at h.tree space).params args) (field_term h.tree space (field_place h.tree space g)) said) fit)

  fields_there : (tree : Tree) (names : List Bound) (n : Name) (k : Kind) (space : ℕ) (args : List Reach) (t : Term) (fs : List Name) → type_named names n ≡ region_type k space args t →
      list_any (is_unknown_region_field tree names n) fs ≡ false → list_any (λ f. not (has_field tree space f)) fs ≡ false
  fields_there tree names n k space args t [] same e = refl
  fields_there tree names n k space args t (f ∷ fs) same e =
      let parts = or_parts (is_unknown_region_field tree names n f) _ e in
      let here = (or_parts (not (names_a is_region names n)) _ parts.0).1 in
      let has = subst (λ q. not (region_has tree q f) ≡ false) same here in
      λ j. has j || fields_there tree names n k space args t fs same parts.1 j

  pub filled : (n : Name) (fs : List Name) (y : Expression) → FormFits task (fill_form n fs y)
  filled n fs y roots h r e w wr limits u st =
      let parts = form_parts h.tree task h.scope (fill_form n fs y) e in
      let named = or_parts (not (names_a is_region h.scope.names n)) _ parts.named in
      let both = and_parts (is_bound h.scope.names n) _ (not-false _ named.0) in
      let is = surely is_region (type_named h.scope.names n) (r.place.scope.types n both.0).known both.1 in
      let region = region_like (type_named h.scope.names n) is in
      let there = fields_there h.tree h.scope.names n region.kind region.space region.arguments region.term fs region.is named.1 in
      let told = (option_or_parts (first_in_expression h.tree task h.scope y) _ parts.heads).0 in
      let k = known task roots h r.place y told in
      let stood = subst (λ (t : StaticType × StaticType). list_any (is_ill_typed_at_place h.scope.known) (map (λ f. stands t.0 (typed_spot (known_field h.tree t.1 f))) fs) ≡ false) (λ j. (k.1 j, region.is j))
      (parts_of_form h.tree task h.scope r.place.sound r.place.scope (fill_form n fs y) e).4 in
      let spaced = subst (IsSpaced h.tree h.scope.names) region.is (name_spaced task roots h r.place n both.0) in
      then_fits h.tree roots r.place.rooted h.scope.names h.scope.names h.result (value h y u) (λ v. named_value h n >>= λ a. fill_fields h (typed h y) v (type_named h.scope.names n) (region_of a) fs)
      (evaluates task roots h r y wr.0 (all_right KeepsLimit (nodes fs) (parts_of_expression y) limits) told u st) (λ v w st got.
      let a = get_or w.names (bound_to h.scope.names n).place (a_truth false) in
      let named_fits = subst (λ (c : Bound). Fits roots h.scope.names c.static_type (get_or w.names c.place (a_truth false)))
      (found_by_number h.scope.next h.scope.names n r.place.scope.numbers both.0).0 (st.names (bound_to h.scope.names n).number) in
      let q = subst (λ t. IsRegionOf roots (space_in t) (region_of a)) region.is (region_fits roots h.scope.names (type_named h.scope.names n) a is named_fits) in
      subst (λ t. GoesOnFit h.tree roots h.scope.names h.result (fill_fields h (typed h y) v t (region_of a) fs w)) (sym region.is)
      (fill_fits task roots h r (typed h y) v region.kind region.space region.arguments region.term (region_of a) fs w (known_meant task roots h r.place y told).known there
      (filled_types roots h r (typed h y) region.kind region.space region.arguments region.term fs there stood) spaced.args q got st))
