-- Calls of tasks, by recursion on how many more may nest.
use Rattle.std.proofs.Common.{List, [], ◌∷◌, ◌++◌, None, Option, Some, false, refl, ap, sym, subst, ℕ, zero, suc, pos, ◌≡◌, ◌∙◌, ◌⊎◌, inl, inr, get_or, arith}
use Rattle.std.proofs.lemmas.Int.{ints}
use Rattle.std.proofs.lemmas.List.{append_assoc, length-append, length-map}
use Rattle.std.proofs.lemmas.List.Elements.{All-nil}
use Rattle.std.specs.List.{All}
use Rattle.std.specs.Prelude.{length, take}
use Rattle.regent_tree.specs.Execution.{Going, goes_on, returned}
use Rattle.regent_tree.specs.Initializers.{zero_of}
use Rattle.regent_tree.specs.Laws.{Shape, shape_of, shapes}
use Rattle.regent_tree.specs.Meaning.{body_of, calls_at, ended, entered, entered_as, opening, run_task}
use Rattle.regent_tree.specs.Running.{Calls, Result, fails, gives}
use Rattle.regent_tree.specs.Scopes.{Scope, bound_as, bound_params, scope_of, unbound}
use Rattle.regent_tree.specs.StaticTypes.{Reach, entry_name, field_term, task_named}
use Rattle.regent_tree.specs.Store.{Store, no_root}
use Rattle.regent_tree.specs.Syntax.{TaskTree, Tree}
use Rattle.regent_tree.specs.Typing.{param_types, result_type, scope_after_block}
use Rattle.regent_tree.specs.Values.{Partition, Region, Value, a_number, a_partition, a_pointer, a_region, a_space, a_truth, an_index, partition_of, region_of}
use Rattle.regent_tree.specs.declared.facts.Term.TheVariants as term
use Rattle.regent_tree.specs.declared.outcome.RootImage.{RootImage}
use Rattle.regent_tree.specs.declared.types.NumberTerm.TheVariants as number
use Rattle.regent_tree.specs.declared.types.Param.{Param}
use Rattle.regent_tree.specs.declared.types.TypeTerm.{TypeTerm}
use Rattle.regent_tree.specs.declared.types.TypeTerm.TheVariants as typed_as
use Rattle.regent_tree.specs.declared.typing.Bound.{Bound}
use Rattle.regent_tree.specs.declared.typing.StaticType.{StaticType}
use Rattle.regent_tree.specs.declared.typing.StaticType.TheVariants.{Index as index_type, Integer as integer_type, Ispace as ispace_type, Nothing as no_type, Partition as partition_type, Pointer as pointer_type, Region as region_type, Truth as truth_type, Unknown as unknown_type}
use Rattle.check_rules.specs.scopes.Sound.{IsSound}
use Rattle.check_rules.specs.types.Declarations.{is_no_result_type}
use Rattle.check_rules.specs.types.Sorts.{type_at}
use Rattle.check_laws.proofs.Parts.{contrary}
use Rattle.statement_laws.specs.Steady.{ArePlaced}
use Rattle.state_laws.specs.Going.{GoesOnFit, IsPlaceOfRun, StoreStays}
use Rattle.state_laws.specs.Runs.{CallsFit, IsBodyOfFit, IsTextOfFit, RunsFit}
use Rattle.state_laws.proofs.Laws.{variable_fits}
use Rattle.state_laws.proofs.Made.{none_is_kept}
use Rattle.state_laws.proofs.Statements.{block_fits}
use Rattle.state_laws.proofs.Texts.{texts_fit}
use Rattle.state_laws.proofs.VariableTypes.{variable_spaced}
use Rattle.value_laws.specs.Fitting.{Fits, HasRootOfName, NamesFit, RootsAgree, fits_index, fits_integer, fits_nothing, fits_pointer, fits_truth, fits_unknown}
use Rattle.value_laws.specs.Keeping.{AnswerFits, AnswersFit, AreFit, ArgumentsFit, StateFits}
use Rattle.value_laws.specs.Shapes.{AreRootsOfSpaces, IsKeptOf, IsRootOfSpace, StoreFits}
use Rattle.value_laws.specs.Spaces.{HasSpacedDeclarations, NamesRegionOf}
use Rattle.value_laws.proofs.Parameters.{at_place, param_at, params_are, params_long}
use Rattle.value_laws.proofs.Regions.{goals}

-- the places of parameters count those before them
placed_from : (tree : Tree) (all : List Param) (i : ℕ) (ps : List Param) (more : List Bound) → length more ≡ i → ArePlaced more → ArePlaced (bound_params tree all i ps ++ more)
placed_from tree all i [] more len placed = placed
placed_from tree all i (p ∷ ps) more len placed =
    subst ArePlaced (sym (append_assoc (bound_params tree all (suc i) ps) (_ ∷ []) more)) (placed_from tree all (suc i) ps (_ ∷ more) (ap suc len) (sym len, placed))

module _ (tree : Tree) (t : TaskTree) (roots : List Shape) (vs : List Value) (body : IsBodyOfFit tree t) where
  abbrev s : Scope
  s = scope_of tree t

  fit_at : (types : List StaticType) (us : List Value) → AreFit roots s.names types us → (i : ℕ) → Fits roots s.names (type_at types i) (get_or us i (a_truth false))
  fit_at [] [] are i = fits_unknown
  fit_at [] (u ∷ us) are i = absurd are
  fit_at (q ∷ types) [] are i = absurd are
  fit_at (q ∷ types) (u ∷ us) are zero = are.0
  fit_at (q ∷ types) (u ∷ us) are (suc i) = fit_at types us are.1 i

  type_of_param : (i : ℕ) → (bound_as s.names i).static_type ≡ type_at (param_types tree t) i
  type_of_param i = subst (λ n. (bound_as s.names n).static_type ≡ type_at (param_types tree t) i) (omega (arith)) (param_at tree t.params 0 t.params i)

  params_fit : (us : List Value) → ((i : ℕ) → Fits roots s.names (type_at (param_types tree t) i) (get_or us i (a_truth false))) → NamesFit roots s.names us
  params_fit us fit i = by (at_place s.names i (params_are tree t.params 0 t.params))
    where
      by : (bound_as s.names i ≡ unbound) ⊎ ((bound_as s.names i).place ≡ i) → Fits roots s.names (bound_as s.names i).static_type (get_or us (bound_as s.names i).place (a_truth false))
      by (inl none) = subst (λ (c : Bound). Fits roots s.names c.static_type (get_or us c.place (a_truth false))) (sym none) fits_unknown
      by (inr same) = subst (λ n. Fits roots s.names (bound_as s.names i).static_type (get_or us n (a_truth false))) (sym same)
          (subst (λ q. Fits roots s.names q (get_or us i (a_truth false))) (sym (type_of_param i)) (fit i))

  -- a pointer goes with the regions of its parameter's type
  enters : (q : StaticType) (v : Value) → NamesFit roots s.names vs →
      ((k : _) (space : ℕ) (args terms : List Reach) → q ≡ pointer_type k space args terms → All (NamesRegionOf s.names space) terms) → Fits roots s.names q v → Fits roots s.names q (entered_as s vs q v)
  enters (pointer_type k space args terms) v fit regions (fits_pointer is go) = fits_pointer is (goals roots s vs fit space terms (regions k space args terms refl))
  enters (integer_type w) v fit regions is = is
  enters truth_type v fit regions is = is
  enters (index_type k) v fit regions is = is
  enters (ispace_type k) v fit regions is = is
  enters (region_type k space args q) v fit regions is = is
  enters (partition_type d r p) v fit regions is = is
  enters no_type v fit regions is = is
  enters unknown_type v fit regions is = is

  entered_at : (types : List StaticType) (us : List Value) → NamesFit roots s.names vs → AreFit roots s.names types us →
      ((i : ℕ) (k : _) (space : ℕ) (args terms : List Reach) → type_at types i ≡ pointer_type k space args terms → All (NamesRegionOf s.names space) terms) →
      (i : ℕ) → Fits roots s.names (type_at types i) (get_or (entered s vs types us) i (a_truth false))
  entered_at [] [] fit are regions i = fits_unknown
  entered_at [] (u ∷ us) fit are regions i = absurd are
  entered_at (q ∷ types) [] fit are regions i = absurd are
  entered_at (q ∷ types) (u ∷ us) fit are regions zero = enters q u fit (regions 0) are.0
  entered_at (q ∷ types) (u ∷ us) fit are regions (suc i) = entered_at types us fit are.1 (λ j. regions (suc j)) i

  entered_long : (types : List StaticType) (us : List Value) → AreFit roots s.names types us → length (entered s vs types us) ≡ length types
  entered_long [] [] are = refl
  entered_long [] (u ∷ us) are = absurd are
  entered_long (q ∷ types) [] are = absurd are
  entered_long (q ∷ types) (u ∷ us) are = ap suc (entered_long types us are.1)

  bound_long : (all : List Param) (i : ℕ) (ps : List Param) → length (bound_params tree all i ps) ≡ length ps
  bound_long all i [] = refl
  bound_long all i (p ∷ ps) = let rest = bound_long all (suc i) ps in length-append (bound_params tree all (suc i) ps) (_ ∷ []) ∙ omega (arith, rest)

  -- regions and partitions enter as they are
  entered_region : (q : StaticType) (v : Value) → region_of (entered_as s vs q v) ≡ region_of v
  entered_region (pointer_type k space args terms) (a_pointer x rs) = refl
  entered_region (pointer_type k space args terms) (a_number w z) = refl
  entered_region (pointer_type k space args terms) (a_truth b) = refl
  entered_region (pointer_type k space args terms) (an_index z) = refl
  entered_region (pointer_type k space args terms) (a_space n) = refl
  entered_region (pointer_type k space args terms) (a_region r) = refl
  entered_region (pointer_type k space args terms) (a_partition p) = refl
  entered_region (integer_type w) v = refl
  entered_region truth_type v = refl
  entered_region (index_type k) v = refl
  entered_region (ispace_type k) v = refl
  entered_region (region_type k space args q) v = refl
  entered_region (partition_type d r p) v = refl
  entered_region no_type v = refl
  entered_region unknown_type v = refl

  entered_partition : (q : StaticType) (v : Value) → partition_of (entered_as s vs q v) ≡ partition_of v
  entered_partition (pointer_type k space args terms) (a_pointer x rs) = refl
  entered_partition (pointer_type k space args terms) (a_number w z) = refl
  entered_partition (pointer_type k space args terms) (a_truth b) = refl
  entered_partition (pointer_type k space args terms) (an_index z) = refl
  entered_partition (pointer_type k space args terms) (a_space n) = refl
  entered_partition (pointer_type k space args terms) (a_region r) = refl
  entered_partition (pointer_type k space args terms) (a_partition p) = refl
  entered_partition (integer_type w) v = refl
  entered_partition truth_type v = refl
  entered_partition (index_type k) v = refl
  entered_partition (ispace_type k) v = refl
  entered_partition (region_type k space args q) v = refl
  entered_partition (partition_type d r p) v = refl
  entered_partition no_type v = refl
  entered_partition unknown_type v = refl

  entered_same : {A : Type 0} (f : Value → A) → ((q : StaticType) (v : Value) → f (entered_as s vs q v) ≡ f v) → (types : List StaticType) (us : List Value) (i : ℕ) →
      f (get_or (entered s vs types us) i (a_truth false)) ≡ f (get_or us i (a_truth false))
  entered_same f same [] us i = refl
  entered_same f same (q ∷ types) [] i = refl
  entered_same f same (q ∷ types) (u ∷ us) zero = same q u
  entered_same f same (q ∷ types) (u ∷ us) (suc i) = entered_same f same types us i

  entered_root : (types : List StaticType) (q : StaticType) (us : List Value) (place : ℕ) → HasRootOfName s.names us q (get_or us place (a_truth false)) →
      HasRootOfName s.names (entered s vs types us) q (get_or (entered s vs types us) place (a_truth false))
  entered_root types (partition_type d r p) us place root =
      ap (λ (p : Partition). p.root) (entered_same partition_of entered_partition types us place) ∙ root ∙ sym (ap (λ (r : Region). r.root) (entered_same region_of entered_region types us (bound_as s.names r).place))
  entered_root types (region_type k space args (term.Name j)) us place root =
      ap (λ (r : Region). r.root) (entered_same region_of entered_region types us place) ∙ root ∙ sym (ap (λ (r : Region). r.root) (entered_same region_of entered_region types us (bound_as s.names j).place))
  entered_root types (region_type k space args (term.Child p c)) us place root = tt
  entered_root types (integer_type w) us place root = tt
  entered_root types truth_type us place root = tt
  entered_root types (index_type k) us place root = tt
  entered_root types (pointer_type k space args terms) us place root = tt
  entered_root types (ispace_type k) us place root = tt
  entered_root types no_type us place root = tt
  entered_root types unknown_type us place root = tt

  -- a body begins in a state that fits
  opens : (turns : ℕ) (store : Store) → AreFit roots s.names (param_types tree t) vs → RootsAgree s.names vs → StoreFits tree roots store → StateFits tree roots s.names (opening tree turns t vs store)
  opens turns store are agree fit = record {
    names = params_fit (entered s vs (param_types tree t) vs)
        (entered_at (param_types tree t) vs (params_fit vs (fit_at (param_types tree t) vs are)) are body.regions);
    counted = entered_long (param_types tree t) vs are ∙ params_long tree t.params 0 t.params ∙ sym (bound_long t.params 0 t.params);
    agree = λ i. entered_root (param_types tree t) (bound_as s.names i).static_type _ (bound_as s.names i).place (agree i);
    store = fit;
  }

-- ---- what a call leaves

zero_result : (tree : Tree) (s : Scope) (roots : List Shape) (r : Option TypeTerm) → is_no_result_type r ≡ false → Fits roots [] (result_type tree r) (zero_of s [] (result_type tree r))
zero_result tree s roots None e = fits_nothing
zero_result tree s roots (Some (typed_as.Number number.Int32)) e = fits_integer (omega (arith, ints))
zero_result tree s roots (Some (typed_as.Number number.Int64)) e = fits_integer (omega (arith, ints))
zero_result tree s roots (Some (typed_as.Number (number.Index k))) e = fits_index (omega (arith, ints))
zero_result tree s roots (Some typed_as.Truth) e = fits_truth
zero_result tree s roots (Some (typed_as.Pointer p)) e = absurd (contrary e)
zero_result tree s roots (Some (typed_as.Ispace k)) e = absurd (contrary e)
zero_result tree s roots (Some (typed_as.Region k u)) e = absurd (contrary e)
zero_result tree s roots (Some (typed_as.Partition d r c)) e = absurd (contrary e)

any_roots : (tree : Tree) (roots : List Shape) (r : Option TypeTerm) (v : Value) → is_no_result_type r ≡ false → Fits [] [] (result_type tree r) v → Fits roots [] (result_type tree r) v
any_roots tree roots None v e is = fits_nothing
any_roots tree roots (Some (typed_as.Number number.Int32)) v e (fits_integer f) = fits_integer f
any_roots tree roots (Some (typed_as.Number number.Int64)) v e (fits_integer f) = fits_integer f
any_roots tree roots (Some (typed_as.Number (number.Index k))) v e (fits_index f) = fits_index f
any_roots tree roots (Some typed_as.Truth) v e fits_truth = fits_truth
any_roots tree roots (Some (typed_as.Pointer p)) v e is = absurd (contrary e)
any_roots tree roots (Some (typed_as.Ispace k)) v e is = absurd (contrary e)
any_roots tree roots (Some (typed_as.Region k u)) v e is = absurd (contrary e)
any_roots tree roots (Some (typed_as.Partition d r c)) v e is = absurd (contrary e)

take_cases : (store : Store) (n r : ℕ) → (get_or (take n store) r no_root ≡ get_or store r no_root) ⊎ (get_or (take n store) r no_root ≡ no_root)
take_cases store zero r = inr refl
take_cases [] (suc n) r = inl refl
take_cases (x ∷ store) (suc n) zero = inl refl
take_cases (x ∷ store) (suc n) (suc r) = take_cases store n r

take_shapes : (roots more : List Shape) (store : Store) → shapes store ≡ roots ++ more → shapes (take (length roots) store) ≡ roots
take_shapes [] more store e = refl
take_shapes (x ∷ roots) more [] e = absurd cc
take_shapes (x ∷ roots) more (y ∷ store) e = λ j. get_or (e j) 0 x ∷ take_shapes roots more store (ap tail_of e) j
  where
    tail_of : List Shape → List Shape
    tail_of [] = []
    tail_of (z ∷ zs) = zs

-- the caller's roots are left with numbers that fit
left_fits : (tree : Tree) (roots : List Shape) (store : Store) → StoreStays tree roots store → StoreFits tree roots (take (length roots) store)
left_fits tree roots store st = record {
  shapes_are = take_shapes roots st.extends.0 store (st.store_fits.shapes_are ∙ st.extends.1);
  numbers = λ r f p. elim (take_cases store (length roots) r) [
    | inl e ↦ subst (λ (i : RootImage). IsKeptOf (field_term tree i.space f) (get_or (get_or i.fields f []) p (pos 0))) (sym e) (st.store_fits.numbers r f p)
    | inr e ↦ subst (λ (i : RootImage). IsKeptOf (field_term tree i.space f) (get_or (get_or i.fields f []) p (pos 0))) (sym e) (none_is_kept (field_term tree 0 f))
  ];
}

ends_fit : (tree : Tree) (roots : List Shape) (names : List Bound) (s : Scope) (t : TaskTree) (n : ℕ) (q : Result Going) → n ≡ length roots → is_no_result_type t.result ≡ false →
    GoesOnFit tree roots names (result_type tree t.result) q → AnswerFits tree roots t (ended n s (result_type tree t.result) q)
ends_fit tree roots names s t n (gives goes_on u) same e st = (
  zero_result tree s roots t.result e,
  subst (λ k. StoreFits tree roots (take k u.store)) (sym same)
      (left_fits tree roots u.store (record { after = st.after; extends = st.extends; rooted = st.rooted; store_fits = st.state_fits.store })),
)
ends_fit tree roots names s t n (gives (returned v) u) same e st =
    (any_roots tree roots t.result v e st.1, subst (λ k. StoreFits tree roots (take k u.store)) (sym same) (left_fits tree roots u.store st.0))
ends_fit tree roots names s t n (fails f u) same e st = tt

append_none : (bs : List Bound) → bs ++ [] ≡ bs
append_none [] = refl
append_none (b ∷ bs) = ap (λ rest. b ∷ rest) (append_none bs)

-- a task's body runs in states that fit
task_fits : (tree : Tree) (t : TaskTree) → IsSound tree → HasSpacedDeclarations tree → IsBodyOfFit tree t → (turns : ℕ) (calls : Calls) → AnswersFit tree calls →
    (roots : List Shape) (vs : List Value) (store : Store) → AreRootsOfSpaces tree roots → StoreFits tree roots store → ArgumentsFit tree roots t vs →
    GoesOnFit tree roots (scope_after_block tree (scope_of tree t) t.body).names (result_type tree t.result) (run_task tree turns calls t vs store)
task_fits tree t sound declared body turns calls answers roots vs store rooted fit are =
    let place : IsPlaceOfRun t roots (body_of tree calls t) = record {
      place = record { sound = sound; declared = declared; scope = body.scope; spaced = body.spaced; rooted = rooted; answers = answers };
      placed = subst ArePlaced (append_none (scope_of tree t).names) (placed_from tree t.params 0 t.params [] refl tt);
      result = refl;
      sound_result = body.result;
    } in
    block_fits t (variable_fits t) (λ roots h n q start r e limits. variable_spaced t roots h r n q start e limits) t.body (body_of tree calls t) roots place body.told body.written body.limits
    (opening tree turns t vs store) (opens tree t roots vs body turns store are.0 are.1 fit)

nested_fit : (tree : Tree) → IsTextOfFit tree → (turns more : ℕ) → AnswersFit tree (calls_at tree turns more)
nested_fit tree text turns zero roots line task vs store rooted fit are = tt
nested_fit tree text turns (suc more) roots line task vs store rooted fit are =
    let t = task_named tree task in
    let calls = calls_at tree turns more in
    ends_fit tree roots _ (scope_of tree t) t (length store) (run_task tree turns calls t vs store) (sym (length-map store shape_of) ∙ ap length fit.shapes_are) (text.bodies task).result
    (task_fits tree t text.sound text.declared (text.bodies task) turns calls (nested_fit tree text turns more) roots vs store rooted fit are)

pub calls_fit : CallsFit
calls_fit tree none within written turns more = nested_fit tree (texts_fit tree none within written) turns more

no_store : (tree : Tree) → StoreFits tree [] []
no_store tree = record { shapes_are = refl; numbers = λ r f p. none_is_kept (field_term tree 0 f) }

pub runs_fit : RunsFit
runs_fit tree none within written turns inputs are =
    let n = entry_name tree in
    let text = texts_fit tree none within written in
    task_fits tree (task_named tree n) text.sound text.declared (text.bodies n) turns (calls_at tree turns 63) (nested_fit tree text turns 63) [] inputs [] (All-nil (IsRootOfSpace tree)) (no_store tree) are
