-- Writes and reductions of fields, and fills: what is kept fits the field's type.
use Rattle.std.proofs.Common.{List, [], ◌∷◌, ◌++◌, Bool, None, Option, false, true, refl, sym, subst, ℕ, ℤ, zero, suc, ◌≡◌, ◌∙◌, ◌≤◌, not, inl, inr, get_or}
use Rattle.std.proofs.lemmas.Bool.{not-false, or_parts}
use Rattle.std.proofs.lemmas.List.Elements.{All-append, All-cons, All-nil}
use Rattle.std.specs.List.{All, list_any}
use Rattle.std.specs.Option.{option_or}
use Rattle.std.specs.Prelude.{length}
use Rattle.plain_values.proofs.Plain.{option_or_parts}
use Rattle.plain_values.specs.Points.{has}
use Rattle.lane_kernels.proofs.Operators.{closed}
use Rattle.lane_kernels.specs.Numbers.{wrapped}
use Rattle.lane_kernels.specs.declared.numbers.Width.TheVariants.{W32, W64}
use Rattle.regent_tree.specs.Accesses.{aimed, aimed_in, aimed_through, converted, space_in}
use Rattle.regent_tree.specs.Evaluation.{stepped}
use Rattle.regent_tree.specs.Execution.{Going, before_last, fill_fields, last_field, updated, write_field}
use Rattle.regent_tree.specs.Laws.{Shape}
use Rattle.regent_tree.specs.Limits.{KeepsLimit, most, node, parts_of_expression, parts_of_steps}
use Rattle.regent_tree.specs.Lookup.{has_field}
use Rattle.regent_tree.specs.Running.{Here, Result, State, and_then}
use Rattle.regent_tree.specs.StaticTypes.{Looking, Reach, among_args, field_place, field_term, field_type, kind_said, space_at, type_said}
use Rattle.regent_tree.specs.Store.{no_root}
use Rattle.regent_tree.specs.Syntax.{Expression, Name, Steps, TaskTree, Tree, at_step, field_step, no_step}
use Rattle.regent_tree.specs.Typing.{reaches_of, stepped_type, type_of_element, type_of_field}
use Rattle.regent_tree.specs.Values.{Region, Target, Value, kept_number, meant, no_region, null_target, number_of, point_target}
use Rattle.regent_tree.specs.declared.facts.Term.{Term}
use Rattle.regent_tree.specs.declared.limits.Counted.TheVariants.{Regions}
use Rattle.regent_tree.specs.declared.statement.How.{How}
use Rattle.regent_tree.specs.declared.statement.How.TheVariants as how
use Rattle.regent_tree.specs.declared.types.Kind.{Kind}
use Rattle.regent_tree.specs.declared.types.NumberTerm.TheVariants as number
use Rattle.regent_tree.specs.declared.types.TypeTerm.{TypeTerm}
use Rattle.regent_tree.specs.declared.types.TypeTerm.TheVariants as typed_as
use Rattle.regent_tree.specs.declared.typing.Bound.{Bound}
use Rattle.regent_tree.specs.declared.typing.StaticType.{StaticType}
use Rattle.regent_tree.specs.declared.typing.StaticType.TheVariants.{Index as index_type, Integer as integer_type, Ispace as ispace_type, Nothing as no_type, Partition as partition_type, Pointer as pointer_type, Region as region_type, Truth as truth_type, Unknown as unknown_type}
use Rattle.regent_tree.proofs.Members.{Has}
use Rattle.check_rules.specs.types.Fitting.{fits_known}
use Rattle.check_rules.specs.first.FirstInExpressions.{first_in_expression, first_in_steps, first_in_target_steps, first_of_step, first_of_taking}
use Rattle.check_rules.specs.rules.Targets.{ends_in_element}
use Rattle.check_rules.specs.types.Declarations.{is_no_field_type}
use Rattle.check_rules.specs.types.KnownTypes.{known_type, known_type_after_step}
use Rattle.check_rules.specs.types.Sorts.{is_integer, is_space, is_unknown_type}
use Rattle.check_rules.specs.types.TypedForms.{element_of, field_of}
use Rattle.check_laws.proofs.Parts.{contrary, element_known, field_known}
use Rattle.check_laws.specs.SoundScopes.{IsKnown}
use Rattle.check_laws.proofs.Forms.{unflawed}
use Rattle.expression_laws.specs.Writing.{AreStepped, IsWritten}
use Rattle.state_laws.specs.Going.{GoesOnFit, IsPlaceOfRun}
use Rattle.state_laws.proofs.Going.{state_here, store_here, then_fits}
use Rattle.state_laws.proofs.Written.{all_written, store_written}
use Rattle.value_laws.specs.Fitting.{Fits, IsGoal, fits_pointer}
use Rattle.value_laws.specs.Keeping.{StateFits}
use Rattle.value_laws.specs.Shapes.{IsKeptOf, IsRegionOf}
use Rattle.value_laws.specs.Spaces.{AreArgumentsOf, IsSpaced}
use Rattle.value_laws.proofs.Accesses.{field_said, taking_parts}
use Rattle.value_laws.proofs.Conversions.{converted_fits}
use Rattle.value_laws.proofs.Kept.{goal_at, kept_number_fits, same_space_of_root}
use Rattle.value_laws.proofs.Limits.{all_behind, all_left, all_right}
use Rattle.value_laws.proofs.Spaced.{field_spaced}
use Rattle.value_laws.proofs.Types.{known, steps_spaced}
use Rattle.value_laws.proofs.Values.{steps_are}

-- what may be put where a value of a type is: one that fits the type, or any number where an integer is reduced
abbrev pub MayBePut : List Shape → List Bound → How → StaticType → Value → Type 0
MayBePut roots names how.Set t v = Fits roots names t v
MayBePut roots names (how.Reduce o) t v = is_integer t ≡ true

module _ (roots : List Shape) (names : List Bound) (tree : Tree) (look : Looking) where
  -- the number that is kept then
  put_is_kept : (t : TypeTerm) (k : How) (z : ℤ) (v : Value) → is_no_field_type t ≡ false → length (reaches_of (type_said tree look 0 t)) ≤ most Regions →
      MayBePut roots names k (type_said tree look 0 t) v → IsKeptOf t (kept_number (updated k (meant (kind_said t) [] z) v))
  put_is_kept t how.Set z v e few is = kept_number_fits roots names tree look t v e few is
  put_is_kept (typed_as.Number number.Int32) (how.Reduce o) z v e few is = record { fits = closed o W32 z (wrapped W32 (number_of v)); same = refl; position = tt }
  put_is_kept (typed_as.Number number.Int64) (how.Reduce o) z v e few is = record { fits = closed o W64 z (wrapped W64 (number_of v)); same = refl; position = tt }
  put_is_kept (typed_as.Number (number.Index k)) (how.Reduce o) z v e few is = absurd cc
  put_is_kept typed_as.Truth (how.Reduce o) z v e few is = absurd cc
  put_is_kept (typed_as.Pointer p) (how.Reduce o) z v e few is = absurd cc
  put_is_kept (typed_as.Ispace k) (how.Reduce o) z v e few is = absurd cc
  put_is_kept (typed_as.Region k u) (how.Reduce o) z v e few is = absurd cc
  put_is_kept (typed_as.Partition d r c) (how.Reduce o) z v e few is = absurd cc

module _ (task : TaskTree) (roots : List Shape) (h : Here) (r : IsPlaceOfRun task roots h) where
  abbrev Goes : Result Going → Type 0
  Goes q = GoesOnFit h.tree roots h.scope.names h.result q

  abbrev State_fits : State → Type 0
  State_fits u = StateFits h.tree roots h.scope.names u

  -- a number that is kept of the field's type is written to a point of a region
  number_written : (space : ℕ) (q : Region) (field point : ℕ) (z : ℤ) (u : State) → IsRegionOf roots space q → IsKeptOf (field_term h.tree space field) z → State_fits u →
      IsKeptOf (field_term h.tree (get_or u.store q.root no_root).space field) z
  number_written space q field point z u is kept st =
      subst (λ n. IsKeptOf (field_term h.tree n field) z) (sym is.of_space ∙ same_space_of_root roots u.store q.root st.store.shapes_are) kept

  -- a value is put into a field of what a pointer aims at
  put_fits : (k : Kind) (space : ℕ) (args terms : List Reach) (f : Name) (o : How) (v : Value) (t : Target) (rs : List Region) (u : State) →
      has_field h.tree space f ≡ true → AreArgumentsOf h.tree h.scope.names space args → All (IsGoal roots space) rs →
      MayBePut roots h.scope.names o (field_type h.tree space args f) v → State_fits u →
      Goes (write_field h (pointer_type k space args terms) f o v (aimed_through rs t) u)
  put_fits k space args terms f o v null_target rs u there are go may st = store_here h.tree roots r.place.rooted u.store st.store
  put_fits k space args terms f o v (point_target n zero) rs u there are go may st = store_here h.tree roots r.place.rooted u.store st.store
  put_fits k space args terms f o v (point_target n (suc i)) rs u there are go may st = hit (has (get_or rs i no_region).points n) refl
    where
      hit : (b : Bool) → has (get_or rs i no_region).points n ≡ b →
          Goes (write_field h (pointer_type k space args terms) f o v (aimed_in b (get_or rs i no_region) n) u)
      hit true e =
          let q = get_or rs i no_region in
          let is = goal_at roots space rs i n go e in
          let said = field_said roots h r.place space f there in
          let few = (field_spaced h.tree h.scope.names space args are f r.place.declared there said).few in
          state_here h.tree roots r.place.rooted h.scope.names _ (record {
            names = st.names;
            counted = st.counted;
            agree = st.agree;
            store = store_written h.tree u.store q.root (field_place h.tree space f) n _ roots st.store
                (number_written space q (field_place h.tree space f) n _ u is
                (put_is_kept roots h.scope.names h.tree (among_args (space_at h.tree space).params args) (field_term h.tree space (field_place h.tree space f)) o _ v said few may) st);
          })
      hit false e = store_here h.tree roots r.place.rooted u.store st.store

  last_fits : (t : StaticType) (f : Name) (o : How) (v x : Value) (u : State) → first_of_taking h.tree (field_of t f) ≡ None → IsKnown h.scope t → IsSpaced h.tree h.scope.names t →
      is_space (type_of_field h.tree t f) ≡ false → MayBePut roots h.scope.names o (type_of_field h.tree t f) v → Fits roots h.scope.names t x → State_fits u →
      Goes (write_field h t f o v (aimed x) u)
  last_fits (pointer_type k space args terms) f o v x u e known spaced some may (fits_pointer {t = t} {rs = rs} is go) st =
      put_fits k space args terms f o v t rs u (not-false _ (taking_parts h.tree (field_of (pointer_type k space args terms) f) e).0) spaced.args go may st
  last_fits (partition_type d q p) f o v x u e known spaced some may is st = absurd (contrary some)
  last_fits (integer_type w) f o v x u e known spaced some may is st = absurd (contrary (taking_parts h.tree (field_of (integer_type w) f) e).1)
  last_fits truth_type f o v x u e known spaced some may is st = absurd (contrary (taking_parts h.tree (field_of truth_type f) e).1)
  last_fits (index_type k) f o v x u e known spaced some may is st = absurd (contrary (taking_parts h.tree (field_of (index_type k) f) e).1)
  last_fits (ispace_type k) f o v x u e known spaced some may is st = absurd (contrary (taking_parts h.tree (field_of (ispace_type k) f) e).1)
  last_fits (region_type k space args t) f o v x u e known spaced some may is st = absurd (contrary (taking_parts h.tree (field_of (region_type k space args t) f) e).1)
  last_fits no_type f o v x u e known spaced some may is st = absurd (contrary (taking_parts h.tree (field_of no_type f) e).1)
  last_fits unknown_type f o v x u e known spaced some may is st = absurd (contrary known.known)

  -- ---- targets

  abbrev Told_target : StaticType → Steps → Type 0
  Told_target t steps = first_in_target_steps h.tree task h.scope t steps ≡ None

  -- the steps of a target before the last one, and the last field
  record IsLastStep (t : StaticType) (steps before : Steps) (last : Name) : Type 0 where
    written : AreStepped before
    limited : All KeepsLimit (parts_of_steps before)
    told : first_in_steps h.tree task h.scope t before ≡ None
    is_known : IsKnown h.scope (stepped_type h.tree h.scope t before)
    taking : first_of_taking h.tree (field_of (stepped_type h.tree h.scope t before) last) ≡ None
    type : stepped_type h.tree h.scope t steps ≡ type_of_field h.tree (stepped_type h.tree h.scope t before) last

  none_or : {A : Type 0} (a b : Option A) → a ≡ None → b ≡ None → option_or a b ≡ None
  none_or a b p q = λ j. option_or (p j) (q j)

  -- where a step goes on, nothing is told of what comes behind it
  field_goes : (t : StaticType) (f : Name) → IsKnown h.scope t → first_of_step h.tree task h.scope (field_of t f) ≡ None →
      IsKnown h.scope (type_of_field h.tree t f) × (known_type_after_step h.tree (field_of t f) (type_of_field h.tree t f) ≡ type_of_field h.tree t f)
  field_goes t f k e =
      let here = option_or_parts (first_of_taking h.tree (field_of t f)) _ e in
      let next = field_known h.tree h.scope t f r.place.sound k here.0 in
      let same = unflawed _ (type_of_field h.tree t f) next.known in
      (subst (IsKnown h.scope) same next, same)

  element_goes : (t : StaticType) (y : Expression) → IsKnown h.scope t → first_in_expression h.tree task h.scope y ≡ None →
      first_of_step h.tree task h.scope (element_of t (known_type h.tree h.scope y)) ≡ None →
      IsKnown h.scope (type_of_element h.scope t y)
      × (known_type_after_step h.tree (element_of t (known_type h.tree h.scope y)) (type_of_element h.scope t y) ≡ type_of_element h.scope t y)
  element_goes t y k told e =
      let here = option_or_parts (first_of_taking h.tree (element_of t (known_type h.tree h.scope y))) _ e in
      let next = element_known h.tree h.scope t (known_type h.tree h.scope y) y k (known task roots h r.place y told).0.known here.0 in
      let same = unflawed _ (type_of_element h.scope t y) next.known in
      (subst (IsKnown h.scope) same next, same)

  field_more : (t : StaticType) (f : Name) (rest before : Steps) (last : Name) → IsKnown h.scope t →
      first_of_step h.tree task h.scope (field_of t f) ≡ None → IsLastStep (type_of_field h.tree t f) rest before last → IsLastStep t (field_step f rest) (field_step f before) last
  field_more t f rest before last k e more = record {
    written = more.written;
    limited = All-cons KeepsLimit node (parts_of_steps before) tt more.limited;
    told = none_or _ _ e (subst (λ q. first_in_steps h.tree task h.scope q before ≡ None) (sym (field_goes t f k e).1) more.told);
    is_known = more.is_known;
    taking = more.taking;
    type = more.type;
  }

  element_more : (t : StaticType) (y : Expression) (rest before : Steps) (last : Name) → IsWritten y → All KeepsLimit (parts_of_expression y) → IsKnown h.scope t →
      (told : first_in_expression h.tree task h.scope y ≡ None) → first_of_step h.tree task h.scope (element_of t (known_type h.tree h.scope y)) ≡ None →
      IsLastStep (type_of_element h.scope t y) rest before last → IsLastStep t (at_step y rest) (at_step y before) last
  element_more t y rest before last wr limits k told e more = record {
    written = (wr, more.written);
    limited = All-cons KeepsLimit node (parts_of_expression y ++ parts_of_steps before) tt
        (All-append KeepsLimit (parts_of_expression y) (parts_of_steps before) limits more.limited);
    told = none_or _ _ told (none_or _ _ e (subst (λ q. first_in_steps h.tree task h.scope q before ≡ None) (sym (element_goes t y k told e).1) more.told));
    is_known = more.is_known;
    taking = more.taking;
    type = more.type;
  }

  field_last : (t : StaticType) (f : Name) (rest : Steps) → IsKnown h.scope t → first_of_step h.tree task h.scope (field_of t f) ≡ None →
      first_in_target_steps h.tree task h.scope (known_type_after_step h.tree (field_of t f) (type_of_field h.tree t f)) rest ≡ None →
      (IsKnown h.scope (type_of_field h.tree t f) → Told_target (type_of_field h.tree t f) rest → IsLastStep (type_of_field h.tree t f) rest (before_last rest) (last_field rest)) →
      IsLastStep t (field_step f rest) (field_step f (before_last rest)) (last_field rest)
  field_last t f rest k e told more =
      let goes = field_goes t f k e in
      field_more t f rest (before_last rest) (last_field rest) k e (more goes.0 (subst (λ q. Told_target q rest) goes.1 told))

  element_last : (t : StaticType) (y : Expression) (rest : Steps) → IsWritten y → All KeepsLimit (parts_of_expression y ++ parts_of_steps rest) → IsKnown h.scope t → Told_target t (at_step y rest) →
      (IsKnown h.scope (type_of_element h.scope t y) → Told_target (type_of_element h.scope t y) rest → IsLastStep (type_of_element h.scope t y) rest (before_last rest) (last_field rest)) →
      IsLastStep t (at_step y rest) (at_step y (before_last rest)) (last_field rest)
  element_last t y rest wr limits k e more =
      let inner = option_or_parts (first_in_expression h.tree task h.scope y) _ e in
      let step = option_or_parts (first_of_step h.tree task h.scope (element_of t (known_type h.tree h.scope y))) _ inner.1 in
      let goes = element_goes t y k inner.0 step.0 in
      element_more t y rest (before_last rest) (last_field rest) wr (all_left KeepsLimit (parts_of_expression y) (parts_of_steps rest) limits) k inner.0 step.0
      (more goes.0 (subst (λ q. Told_target q rest) goes.1 step.1))

  last_step : (t : StaticType) (steps : Steps) → (steps ≡ no_step → ⊥) → AreStepped steps → All KeepsLimit (parts_of_steps steps) → IsKnown h.scope t → ends_in_element steps ≡ false →
      Told_target t steps → IsLastStep t steps (before_last steps) (last_field steps)
  last_step t no_step some wr l k ends e = absurd (some refl)
  last_step t (field_step f no_step) some wr l k ends e =
      record { written = tt; limited = All-nil KeepsLimit; told = refl; is_known = k; taking = e; type = refl }
  last_step t (field_step f (field_step g rest)) some wr l k ends e =
      let parts = option_or_parts (first_of_step h.tree task h.scope (field_of t f)) _ e in
      field_last t f (field_step g rest) k parts.0 parts.1
      (λ k e. last_step (type_of_field h.tree t f) (field_step g rest) (λ q. absurd cc) wr (all_behind KeepsLimit node (parts_of_steps (field_step g rest)) l) k ends e)
  last_step t (field_step f (at_step y rest)) some wr l k ends e =
      let parts = option_or_parts (first_of_step h.tree task h.scope (field_of t f)) _ e in
      field_last t f (at_step y rest) k parts.0 parts.1
      (λ k e. last_step (type_of_field h.tree t f) (at_step y rest) (λ q. absurd cc) wr (all_behind KeepsLimit node (parts_of_steps (at_step y rest)) l) k ends e)
  last_step t (at_step y no_step) some wr l k ends e = absurd (contrary ends)
  last_step t (at_step y (field_step g rest)) some wr l k ends e =
      let limits = all_behind KeepsLimit node (parts_of_expression y ++ parts_of_steps (field_step g rest)) l in
      element_last t y (field_step g rest) wr.0 limits k e
      (λ k e. last_step (type_of_element h.scope t y) (field_step g rest) (λ q. absurd cc) wr.1 (all_right KeepsLimit (parts_of_expression y) (parts_of_steps (field_step g rest)) limits) k ends e)
  last_step t (at_step y (at_step z rest)) some wr l k ends e =
      let limits = all_behind KeepsLimit node (parts_of_expression y ++ parts_of_steps (at_step z rest)) l in
      element_last t y (at_step z rest) wr.0 limits k e
      (λ k e. last_step (type_of_element h.scope t y) (at_step z rest) (λ q. absurd cc) wr.1 (all_right KeepsLimit (parts_of_expression y) (parts_of_steps (at_step z rest)) limits) k ends e)

  -- a value is put into the last field of an access
  pub target_fits : (t : StaticType) (steps : Steps) (o : How) (v x : Value) (u : State) → (steps ≡ no_step → ⊥) → AreStepped steps → All KeepsLimit (parts_of_steps steps) → IsKnown h.scope t →
      IsSpaced h.tree h.scope.names t → ends_in_element steps ≡ false → is_space (stepped_type h.tree h.scope t steps) ≡ false → Told_target t steps →
      MayBePut roots h.scope.names o (stepped_type h.tree h.scope t steps) v → Fits roots h.scope.names t x → State_fits u →
      Goes (and_then (stepped h t x (before_last steps) u) (λ q. write_field h (stepped_type h.tree h.scope t (before_last steps)) (last_field steps) o v (aimed q)))
  target_fits t steps o v x u some wr l k spaced ends no_space e may is st =
      let last = last_step t steps some wr l k ends e in
      let before = stepped_type h.tree h.scope t (before_last steps) in
      then_fits h.tree roots r.place.rooted h.scope.names h.scope.names h.result (stepped h t x (before_last steps) u) (λ q. write_field h before (last_field steps) o v (aimed q))
      (steps_are task roots h r.place t (before_last steps) last.written last.limited k spaced last.told x u st is) (λ q w st got.
      last_fits before (last_field steps) o v q w last.taking last.is_known (steps_spaced task roots h r.place t (before_last steps) k spaced last.told)
      (subst (λ y. is_space y ≡ false) last.type no_space) (subst (λ y. MayBePut roots h.scope.names o y v) last.type may) got st)

  -- ---- fills

  pub fill_fits : (from : StaticType) (v : Value) (k : Kind) (space : ℕ) (args : List Reach) (t : Term) (q : Region) (fs : List Name) (u : State) → is_unknown_type from ≡ false →
      list_any (λ f. not (has_field h.tree space f)) fs ≡ false → ((f : Name) → Has fs f → fits_known h.scope.known from (field_type h.tree space args f) ≡ true) →
      AreArgumentsOf h.tree h.scope.names space args → IsRegionOf roots space q → Fits roots h.scope.names from v → State_fits u →
      Goes (fill_fields h from v (region_type k space args t) q fs u)
  fill_fits from v k space args t q [] u known there fit are is value_is st = state_here h.tree roots r.place.rooted h.scope.names u st
  fill_fits from v k space args t q (f ∷ fs) u known there fit are is value_is st =
      let parts = or_parts (not (has_field h.tree space f)) _ there in
      let here = not-false _ parts.0 in
      let said = field_said roots h r.place space f here in
      let few = (field_spaced h.tree h.scope.names space args are f r.place.declared here said).few in
      then_fits h.tree roots r.place.rooted h.scope.names h.scope.names h.result (converted h from (field_type h.tree space args f) [] v u) _
      (converted_fits h.tree roots h.scope.names h from (field_type h.tree space args f) [] v u known (fit f (inl refl)) (All-nil (IsGoal roots (space_in (field_type h.tree space args f)))) value_is st) (λ a w st is_kept.
      fill_fits from v k space args t q fs _ known parts.1 (λ g has. fit g (inr has)) are is value_is (record {
        names = st.names;
        counted = st.counted;
        agree = st.agree;
        store = all_written h.tree roots w.store q.root (field_place h.tree space f) q.points (kept_number a) st.store
            (number_written space q (field_place h.tree space f) 0 (kept_number a) w is
            (kept_number_fits roots h.scope.names h.tree (among_args (space_at h.tree space).params args) (field_term h.tree space (field_place h.tree space f)) a said few is_kept) st);
      }))
