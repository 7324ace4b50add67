-- Where a body begins, what must hold there does, if the arguments fit.
use Rattle.std.proofs.Common.{arith, List, [], ◌∷◌, ◌++◌, false, true, refl, ap, sym, subst, ℕ, zero, suc, ◌+◌, ◌≡◌, ◌∙◌, ◌<◌, ◌≤◌, inl, inr, get_or, length, map, not}
use Rattle.std.proofs.lemmas.Bool.{cases_lt, or_parts}
use Rattle.std.proofs.lemmas.List.{length-append}
use Rattle.std.specs.List.{Contains, list_any}
use Rattle.regent_tree.proofs.Members.{Has, Has-append_cases, Has-from_Contains}
use Rattle.regent_tree.specs.Meaning.{entered, entered_as, opening}
use Rattle.regent_tree.specs.Running.{Calls}
use Rattle.regent_tree.specs.Scopes.{Scope, bound_as, bound_params, known_of_clause, known_of_clauses, known_of_params, known_of_type, scope_of, unbound}
use Rattle.regent_tree.specs.StaticTypes.{among_params, looked_up, place_in, type_said}
use Rattle.regent_tree.specs.Store.{Store}
use Rattle.regent_tree.specs.Syntax.{Name, TaskTree, Tree}
use Rattle.regent_tree.specs.Typing.{param_types, reaches_of}
use Rattle.regent_tree.specs.Values.{Value, a_truth}
use Rattle.regent_tree.specs.declared.facts.Known.{Known}
use Rattle.regent_tree.specs.declared.facts.Known.TheVariants.{Apart, Made, PartOf, Within}
use Rattle.regent_tree.specs.declared.program.Clause.{Clause}
use Rattle.regent_tree.specs.declared.program.Clause.TheVariants as clause
use Rattle.regent_tree.specs.declared.types.NumberTerm.TheVariants as number
use Rattle.regent_tree.specs.declared.types.Param.{Param}
use Rattle.regent_tree.specs.declared.types.Ref.{Ref}
use Rattle.regent_tree.specs.declared.types.Ref.TheVariants.{Named, Wild}
use Rattle.regent_tree.specs.declared.types.TypeTerm.{TypeTerm}
use Rattle.regent_tree.specs.declared.types.TypeTerm.TheVariants as typed
use Rattle.regent_tree.specs.declared.typing.Bound.{Bound}
use Rattle.regent_tree.specs.declared.typing.StaticType.{StaticType}
use Rattle.regent_tree.specs.declared.typing.StaticType.TheVariants.{Index as index_type, Integer as integer_type, Ispace as ispace_type, Nothing as no_type, Partition as partition_type, Pointer as pointer_type, Region as region_type, Truth as truth_type, Unknown as unknown_type}
use Rattle.check_rules.specs.rules.Clauses.{is_no_region, misdeclares}
use Rattle.check_rules.specs.rules.Names.{misses_region, misses_space, unbound_name_in_type, unbound_name_in_use}
use Rattle.check_rules.specs.types.Lookup.{names_a}
use Rattle.check_rules.specs.types.Sorts.{is_region, type_at}
use Rattle.check_laws.proofs.Bodies.{IsToldNone, body_told}
use Rattle.check_laws.proofs.Parts.{contrary}
use Rattle.check_laws.proofs.Parameters.{AreWrittenParams, bound, region_placed}
use Rattle.check_laws.proofs.Sounding.{params_written}
use Rattle.fact_laws.specs.Regions.{Interpretation}
use Rattle.expression_laws.proofs.Calls.{bound_count}
use Rattle.expression_laws.proofs.Names.{reached}
use Rattle.expression_laws.proofs.Params.{known_clause, known_param, none_has, numbered, numbered_by, numbered_member, numbered_past, numbered_place, param_as, param_type}
use Rattle.expression_laws.specs.Kinds.{AreArguments, IsOfType, IsWellScopedBinding, NamesFit, TypeBelow, is_pointer}
use Rattle.expression_laws.specs.Sound.{AreFitting, Instance, IsOfParent, of_arguments}
use Rattle.statement_laws.specs.Laws.{IsSoundOpening, OpeningsAreSound}
use Rattle.statement_laws.specs.Steady.{ArePlaced, FactBelow, IsStaticPlace}
use Rattle.statement_laws.proofs.States.{unbound_fits}
use Rattle.statement_laws.proofs.Types.{args_below, bound_below}

-- ---- places

-- places of names from a number on
abbrev PlacedFrom : ℕ → List Bound → Type 0
PlacedFrom n [] = Unit {0}
PlacedFrom n (b ∷ bs) = (b.place ≡ n + length bs) × PlacedFrom n bs

placed_before : (n : ℕ) (bs : List Bound) (b : Bound) → b.place ≡ n → PlacedFrom (suc n) bs → PlacedFrom n (bs ++ b ∷ [])
placed_before n [] b e are = (omega (arith, e), tt)
placed_before n (x ∷ xs) b e are =
    let l = are.0 in
    let long = length-append xs (b ∷ []) in
    (omega (arith, l, long), placed_before n xs b e are.1)

params_placed : (tree : Tree) (all : List Param) (i : ℕ) (ps : List Param) → PlacedFrom i (bound_params tree all i ps)
params_placed tree all i [] = tt
params_placed tree all i (p ∷ ps) = placed_before i (bound_params tree all (suc i) ps) (bound tree all i p) refl (params_placed tree all (suc i) ps)

placed_simply : (bs : List Bound) → PlacedFrom 0 bs → ArePlaced bs
placed_simply [] are = tt
placed_simply (b ∷ bs) are = let e = are.0 in (omega (arith, e), placed_simply bs are.1)

module _ (tree : Tree) (task : TaskTree) (told : IsToldNone tree task) where
  abbrev s : Scope
  s = scope_of tree task

  abbrev all : List Param
  all = task.params

  written : AreWrittenParams tree all
  written = params_written tree task told.sound_task

  -- ---- types of parameters

  named_param : (n : Name) → not (names_a is_region s.names n) ≡ false → (is_region (bound_as s.names (place_in all n)).static_type ≡ true) × (place_in all n < length all)
  named_param n e = region_placed tree all s refl refl written.once written.named n e

  refs_in : (refs : List Ref) → list_any (misses_region s.names) refs ≡ false → AreArguments s (map (looked_up (among_params all)) refs)
  refs_in [] e = tt
  refs_in (Wild ∷ refs) e = (tt, refs_in refs e)
  refs_in (Named n ∷ refs) e =
      let parts = or_parts (not (names_a is_region s.names n)) _ e in
      ((named_param n parts.0).0, refs_in refs parts.1)

  abbrev ParentBelow : StaticType → Type 0
  ParentBelow (partition_type d r p) = r < length all
  ParentBelow t = Unit {0}

  -- the binding of a parameter
  record IsParameter (i : ℕ) (b : Bound) : Type 0 where
    well : IsWellScopedBinding s i b
    parent : ParentBelow b.static_type
    reaches : AreArguments s (reaches_of b.static_type)

  said_param : (i : ℕ) (n : Name) (t : TypeTerm) → unbound_name_in_type tree s.names t ≡ false → i < length all →
      IsParameter i (record { name = n; number = i; place = i; static_type = type_said tree (among_params all) i t; by_loop = false })
  said_param i n (typed.Number number.Int32) e l = record { well = record { args = tt; own = tt; below = tt }; parent = tt; reaches = tt }
  said_param i n (typed.Number number.Int64) e l = record { well = record { args = tt; own = tt; below = tt }; parent = tt; reaches = tt }
  said_param i n (typed.Number (number.Index k)) e l = record { well = record { args = tt; own = tt; below = tt }; parent = tt; reaches = tt }
  said_param i n typed.Truth e l = record { well = record { args = tt; own = tt; below = tt }; parent = tt; reaches = tt }
  said_param i n (typed.Ispace k) e l = record { well = record { args = tt; own = tt; below = tt }; parent = tt; reaches = tt }
  said_param i n (typed.Pointer p) e l =
      let parts = or_parts (unbound_name_in_use tree s.names p.space) _ e in
      let terms = refs_in p.regions parts.1 in
      record { well = record { args = refs_in p.space.args (or_parts _ _ parts.0).1; own = tt; below = args_below s told.scope _ terms }; parent = tt; reaches = terms }
  said_param i n (typed.Region k u) e l = record { well = record { args = refs_in u.args (or_parts _ _ e).1; own = refl; below = l }; parent = tt; reaches = tt }
  said_param i n (typed.Partition d r c) e l =
      record { well = record { args = tt; own = refl; below = l }; parent = (named_param r (or_parts (not (names_a is_region s.names r)) (misses_space s.names c) e).0).1; reaches = tt }

  numbered_params : (i : ℕ) (ps : List Param) → list_any (λ (p : Param). unbound_name_in_type tree s.names p.term) ps ≡ false → (i + length ps) ≤ length all → (j k : ℕ) → k ≡ i + j →
      IsParameter k (get_or (numbered tree all i ps) j unbound)
  numbered_params i [] e l zero k same = record { well = record { args = tt; own = tt; below = tt }; parent = tt; reaches = tt }
  numbered_params i [] e l (suc j) k same = record { well = record { args = tt; own = tt; below = tt }; parent = tt; reaches = tt }
  numbered_params i (p ∷ ps) e l zero k same =
      let parts = or_parts (unbound_name_in_type tree s.names p.term) _ e in
      let is : k ≡ i = omega (arith, same) in
      subst (λ n. IsParameter n (bound tree all i p)) (sym is) (said_param i p.name p.term parts.0 (omega (arith, l)))
  numbered_params i (p ∷ ps) e l (suc j) k same =
      numbered_params (suc i) ps (or_parts (unbound_name_in_type tree s.names p.term) _ e).1 (omega (arith, l)) j k (omega (arith, same))

  parameter : (i : ℕ) → IsParameter i (bound_as s.names i)
  parameter i = subst (IsParameter i) (sym (param_as tree all i)) (numbered_params 0 all written.named (omega (arith)) i i (omega (arith)))

  -- ---- what is known

  -- a fact that a type or a clause tells is on parameters, and on nothing that was made
  abbrev IsOnParameters : Known → Type 0
  IsOnParameters (Made i) = ⊥
  IsOnParameters k = FactBelow (length all) k

  type_tells : (t : StaticType) (k : Known) → TypeBelow (length all) t → ParentBelow t → Has (known_of_type t) k → IsOnParameters k
  type_tells (partition_type d r p) k below parent (inl e) = subst IsOnParameters e (below, parent)
  type_tells (partition_type d r p) k below parent (inr h) = absurd h
  type_tells (integer_type w) k below parent h = absurd h
  type_tells truth_type k below parent h = absurd h
  type_tells (index_type j) k below parent h = absurd h
  type_tells (pointer_type j sp args terms) k below parent h = absurd h
  type_tells (ispace_type j) k below parent h = absurd h
  type_tells (region_type j sp args q) k below parent h = absurd h
  type_tells no_type k below parent h = absurd h
  type_tells unknown_type k below parent h = absurd h

  clause_named : (n : Name) → is_no_region (bound_params tree all 0 all) n ≡ false → place_in all n < length all
  clause_named n e = (named_param n e).1

  clause_tells : (c : Clause) (k : Known) → misdeclares tree s.names c ≡ false → Has (known_of_clause all c) k → IsOnParameters k
  clause_tells (clause.Within a b) k e (inl same) =
      let parts = or_parts (is_no_region s.names a) _ e in
      subst IsOnParameters same (clause_named a parts.0, clause_named b parts.1)
  clause_tells (clause.Within a b) k e (inr h) = absurd h
  clause_tells (clause.Apart a b) k e (inl same) =
      let parts = or_parts (is_no_region s.names a) _ e in
      subst IsOnParameters same (clause_named a parts.0, clause_named b parts.1)
  clause_tells (clause.Apart a b) k e (inr h) = absurd h
  clause_tells (clause.Grants grants places) k e h = absurd h

  on_parameters : (k : Known) → Contains s.known k → IsOnParameters k
  on_parameters k c = elim (Has-append_cases (known_of_params s.names) (known_of_clauses all task.clauses) k (Has-from_Contains s.known k c)) [
    | inl h ↦
        let b = known_param s.names k h in
        let j = numbered_member tree all 0 all b.0 b.1 in
        let is = subst (IsParameter j.0) (param_as tree all j.0 ∙ j.2) (parameter j.0) in
        type_tells b.0.static_type k is.well.below is.parent b.2
    | inr h ↦
        let c = known_clause all task.clauses k h in
        clause_tells c.0 k (none_has (misdeclares tree s.names) task.clauses c.0 (subst (λ names. list_any (misdeclares tree names) task.clauses ≡ false) told.sound_task.params told.sound_task.clauses) c.1) c.2
  ]

  below_all : (k : Known) → IsOnParameters k → FactBelow (length all) k
  below_all (Within a b) h = h
  below_all (Apart a b) h = h
  below_all (PartOf p r d) h = h
  below_all (Made i) h = absurd h

  pub static_opening : (calls : Calls) (vs : List Value) (count : ℕ) → IsStaticPlace (record { tree = tree; calls = calls; task = task; args = vs; roots = count }) s
  static_opening calls vs count = record {
    well_scoped = λ i. (parameter i).well;
    below = λ k c. below_all k (on_parameters k c);
    placed = placed_simply s.names (params_placed tree all 0 all);
    params = λ i e. bound_below s.next s.names told.scope.numbers i (ap is_region (param_type tree task i) ∙ e);
  }

  -- ---- values of parameters

  module _ (vs : List Value) (count : ℕ) (fit : AreFitting tree task vs count) where
    abbrev b : Interpretation
    b = of_arguments vs

    abbrev types : List StaticType
    types = param_types tree task

    -- values by the places of bindings are those by their numbers
    bound_values : (us : List Value) → ((i : ℕ) → IsOfType b (type_at types i) (get_or us i (a_truth false))) → NamesFit b s us
    bound_values us are i = elim (cases_lt i (length all)) [
      | inl l ↦ record {
        is_of = subst (λ t. IsOfType b t (get_or us (bound_as s.names i).place (a_truth false))) (sym (param_type tree task i))
            (subst (λ k. IsOfType b (type_at types i) (get_or us k (a_truth false))) (sym (ap (λ (c : Bound). c.place) (param_as tree all i) ∙ numbered_place tree all 0 all i l ∙ from_zero i)) (are i));
        colour = λ q. absurd (contrary (sym q ∙ ap (λ (c : Bound). c.by_loop) (param_as tree all i) ∙ numbered_by tree all 0 all i));
      }
      | inr g ↦ unbound_fits b i (bound_as s.names i) _ (param_as tree all i ∙ numbered_past tree all 0 all i g)
    ]
      where
        from_zero : (n : ℕ) → (0 + n) ≡ n
        from_zero n = omega (arith)

    as_given : NamesFit b s vs
    as_given = bound_values vs fit.types

    truth_enters : (t : StaticType) → entered_as s vs t (a_truth false) ≡ a_truth false
    truth_enters (integer_type w) = refl
    truth_enters truth_type = refl
    truth_enters (index_type j) = refl
    truth_enters (pointer_type j sp args terms) = refl
    truth_enters (ispace_type j) = refl
    truth_enters (region_type j sp args q) = refl
    truth_enters (partition_type d r p) = refl
    truth_enters no_type = refl
    truth_enters unknown_type = refl

    entered_at : (ts : List StaticType) (us : List Value) (i : ℕ) → get_or (entered s vs ts us) i (a_truth false) ≡ entered_as s vs (type_at ts i) (get_or us i (a_truth false))
    entered_at [] [] zero = refl
    entered_at [] [] (suc i) = refl
    entered_at [] (u ∷ us) zero = refl
    entered_at [] (u ∷ us) (suc i) = refl
    entered_at (t ∷ ts) [] zero = sym (truth_enters t)
    entered_at (t ∷ ts) [] (suc i) = sym (truth_enters (type_at ts i))
    entered_at (t ∷ ts) (u ∷ us) zero = refl
    entered_at (t ∷ ts) (u ∷ us) (suc i) = entered_at ts us i

    entered_long : (ts : List StaticType) (us : List Value) → length (entered s vs ts us) ≡ length us
    entered_long [] us = refl
    entered_long (t ∷ ts) [] = refl
    entered_long (t ∷ ts) (u ∷ us) = ap suc (entered_long ts us)

    enters : (t : StaticType) (v : Value) → AreArguments s (reaches_of t) → IsOfType b t v → IsOfType b t (entered_as s vs t v)
    enters (pointer_type j sp args terms) v are (is_pointer go) = is_pointer (reached b s vs (λ i. (parameter i).well) as_given terms are)
    enters (integer_type w) v are is = is
    enters truth_type v are is = is
    enters (index_type j) v are is = is
    enters (ispace_type j) v are is = is
    enters (region_type j sp args q) v are is = is
    enters (partition_type d r p) v are is = is
    enters no_type v are is = is
    enters unknown_type v are is = is

    as_entered : NamesFit b s (entered s vs types vs)
    as_entered = bound_values (entered s vs types vs) (λ i. subst (IsOfType b (type_at types i)) (sym (entered_at types vs i))
        (enters (type_at types i) (get_or vs i (a_truth false)) (subst (λ t. AreArguments s (reaches_of t)) (param_type tree task i) (parameter i).reaches) (fit.types i)))

  pub sound_opening : (calls : Calls) (turns : ℕ) (vs : List Value) (store : Store) → AreFitting tree task vs (length store) →
      IsSoundOpening (record { tree = tree; calls = calls; task = task; args = vs; roots = length store }) (of_arguments vs) (opening tree turns task vs store)
  sound_opening calls turns vs store fit =
      let x : Instance = record { tree = tree; calls = calls; task = task; args = vs; roots = length store } in record {
        static = static_opening calls vs (length store);
        place = record {
          holds = fit.holds;
          own = λ i c. absurd (on_parameters (Made i) c);
          params = λ i e. refl;
          parents = λ i. subst (IsOfParent (of_arguments vs) s.known) (sym (param_type tree task i)) (fit.parents i);
        };
        state = record {
          names = as_entered vs (length store) fit;
          counted = entered_long vs (length store) fit (param_types tree task) vs ∙ fit.counted ∙ sym (bound_count tree all 0 all);
          rooted = fit.stored;
          grown = omega (arith);
          covered = λ t c. absurd (Has-from_Contains [] t c);
        };
      }

pub openings_are_sound : OpeningsAreSound
openings_are_sound tree calls turns task args store none stands fit = sound_opening tree task (body_told tree task none stands) calls turns args store fit
