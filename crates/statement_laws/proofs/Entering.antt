-- The inputs of a program without a breach fit its entry task, which takes integers alone.
use Rattle.std.proofs.Common.{arith, List, [], ◌∷◌, false, true, refl, ap, sym, subst, ℕ, ℤ, zero, suc, ◌≡◌, ◌∙◌, inl, inr, get_or, length, map}
use Rattle.std.proofs.lemmas.Bool.{and_parts}
use Rattle.std.specs.List.{Contains, list_all, list_any}
use Rattle.regent_tree.proofs.Members.{Contains-from_Has, Has, Has-append_cases, Has-from_Contains}
use Rattle.regent_tree.specs.Meaning.{inputs_of}
use Rattle.regent_tree.specs.Scopes.{bound_as, bound_params, known_of_clause, known_of_clauses, known_of_params, known_of_type, scope_of, unbound}
use Rattle.regent_tree.specs.StaticTypes.{entry_name, place_in, task_named}
use Rattle.regent_tree.specs.Syntax.{ItemTree, Name, TaskTree, Tree, task_item}
use Rattle.regent_tree.specs.Typing.{param_types, width_of_type}
use Rattle.regent_tree.specs.Values.{Value, a_number, a_truth}
use Rattle.regent_tree.specs.declared.facts.Known.{Known}
use Rattle.regent_tree.specs.declared.program.Clause.{Clause}
use Rattle.regent_tree.specs.declared.program.Clause.TheVariants as clause
use Rattle.regent_tree.specs.declared.types.NumberTerm.TheVariants as number
use Rattle.regent_tree.specs.declared.types.Param.{Param}
use Rattle.regent_tree.specs.declared.types.TypeTerm.{TypeTerm}
use Rattle.regent_tree.specs.declared.types.TypeTerm.TheVariants as typed
use Rattle.regent_tree.specs.declared.typing.Bound.{Bound}
use Rattle.regent_tree.specs.declared.typing.StaticType.{StaticType}
use Rattle.regent_tree.specs.declared.typing.StaticType.TheVariants.{Index as index_type, Integer as integer_type, Ispace as ispace_type, Nothing as no_type, Partition as partition_type, Pointer as pointer_type, Region as region_type, Truth as truth_type, Unknown as unknown_type}
use Rattle.check_rules.specs.Breaches.{breaches}
use Rattle.check_rules.specs.rules.Clauses.{is_no_region, misdeclares}
use Rattle.check_rules.specs.rules.Entries.{is_integer_term}
use Rattle.check_rules.specs.types.Sorts.{is_region, type_at}
use Rattle.check_laws.proofs.Bodies.{IsToldNone, body_told}
use Rattle.check_laws.proofs.Entries.{begins}
use Rattle.check_laws.proofs.Parameters.{bound, region_placed}
use Rattle.check_laws.proofs.Parts.{contrary}
use Rattle.check_laws.proofs.Sounding.{params_written}
use Rattle.fact_laws.specs.Regions.{Interpretation}
use Rattle.expression_laws.proofs.Calls.{bound_long}
use Rattle.expression_laws.proofs.Fitting.{standing_task}
use Rattle.expression_laws.proofs.Params.{known_clause, known_param, none_has, numbered, numbered_member, param_as, param_type}
use Rattle.expression_laws.specs.Kinds.{IsOfType, is_number, is_unknown}
use Rattle.expression_laws.specs.Sound.{AreFitting, IsNoCollection, IsOfParent, of_arguments}
use Rattle.statement_laws.proofs.States.{plain_children, plain_region}
use Rattle.std.proofs.lemmas.Bool.{or_parts}

-- a type of an integer, or of nothing
abbrev IsInput : StaticType → Type 0
IsInput (integer_type w) = Unit {0}
IsInput unknown_type = Unit {0}
IsInput t = ⊥

module _ (tree : Tree) (inputs : List ℤ) (none : breaches tree ≡ []) (counted : length inputs ≡ length (task_named tree (entry_name tree)).params) where
  abbrev task : TaskTree
  task = task_named tree (entry_name tree)

  abbrev all : List Param
  all = task.params

  abbrev types : List StaticType
  types = param_types tree task

  abbrev vs : List Value
  vs = inputs_of types inputs

  told : IsToldNone tree task
  told = body_told tree task none (Contains-from_Has (map (λ (i : ItemTree). i.form) tree) (task_item task) (standing_task tree (entry_name tree) (begins tree none).there))

  -- ---- types of parameters

  said_input : (i : ℕ) (p : Param) → is_integer_term p.term ≡ true → IsInput (bound tree all i p).static_type
  said_input i p e = by p.term e
    where
      by : (t : TypeTerm) → is_integer_term t ≡ true → IsInput (bound tree all i (record { line = p.line; name = p.name; term = t })).static_type
      by (typed.Number number.Int32) e = tt
      by (typed.Number number.Int64) e = tt
      by (typed.Number (number.Index k)) e = absurd (contrary (sym e))
      by typed.Truth e = absurd (contrary (sym e))
      by (typed.Pointer q) e = absurd (contrary (sym e))
      by (typed.Ispace k) e = absurd (contrary (sym e))
      by (typed.Region k u) e = absurd (contrary (sym e))
      by (typed.Partition d r c) e = absurd (contrary (sym e))

  numbered_input : (i : ℕ) (ps : List Param) → list_all (λ (p : Param). is_integer_term p.term) ps ≡ true → (j : ℕ) → IsInput (get_or (numbered tree all i ps) j unbound).static_type
  numbered_input i [] e zero = tt
  numbered_input i [] e (suc j) = tt
  numbered_input i (p ∷ ps) e zero = said_input i p (and_parts (is_integer_term p.term) _ e).0
  numbered_input i (p ∷ ps) e (suc j) = numbered_input (suc i) ps (and_parts (is_integer_term p.term) _ e).1 j

  bound_input : (i : ℕ) → IsInput (bound_as (bound_params tree all 0 all) i).static_type
  bound_input i = subst (λ (b : Bound). IsInput b.static_type) (sym (param_as tree all i)) (numbered_input 0 all (begins tree none).integers i)

  input_type : (i : ℕ) → IsInput (type_at types i)
  input_type i = subst IsInput (param_type tree task i) (bound_input i)

  -- ---- what is known

  no_fact : (t : StaticType) (k : Known) → IsInput t → Has (known_of_type t) k → ⊥
  no_fact (integer_type w) k is h = h
  no_fact unknown_type k is h = h
  no_fact truth_type k is h = absurd is
  no_fact (index_type j) k is h = absurd is
  no_fact (pointer_type j s args terms) k is h = absurd is
  no_fact (ispace_type j) k is h = absurd is
  no_fact (region_type j s args q) k is h = absurd is
  no_fact (partition_type d r p) k is h = absurd is
  no_fact no_type k is h = absurd is

  no_region_type : (t : StaticType) → IsInput t → is_region t ≡ true → ⊥
  no_region_type (region_type j s args q) is e = is
  no_region_type (integer_type w) is e = contrary (sym e)
  no_region_type unknown_type is e = contrary (sym e)
  no_region_type truth_type is e = is
  no_region_type (index_type j) is e = is
  no_region_type (pointer_type j s args terms) is e = is
  no_region_type (ispace_type j) is e = is
  no_region_type (partition_type d r p) is e = is
  no_region_type no_type is e = is

  no_region : (n : Name) → is_no_region (bound_params tree all 0 all) n ≡ false → ⊥
  no_region n e =
      let written = params_written tree task told.sound_task in
      let placed = region_placed tree all (scope_of tree task) refl refl written.once written.named n e in
      no_region_type (bound_as (bound_params tree all 0 all) (place_in all n)).static_type (bound_input (place_in all n)) placed.0

  no_clause : (c : Clause) (k : Known) → misdeclares tree (bound_params tree all 0 all) c ≡ false → Has (known_of_clause all c) k → ⊥
  no_clause (clause.Within a b) k e h = no_region a (or_parts (is_no_region (bound_params tree all 0 all) a) _ e).0
  no_clause (clause.Apart a b) k e h = no_region a (or_parts (is_no_region (bound_params tree all 0 all) a) _ e).0
  no_clause (clause.Grants grants places) k e h = h

  nothing_known : (k : Known) → Contains (scope_of tree task).known k → ⊥
  nothing_known k c = elim (Has-append_cases (known_of_params (bound_params tree all 0 all)) (known_of_clauses all task.clauses) k (Has-from_Contains (scope_of tree task).known k c)) [
    | inl h ↦
        let b = known_param (bound_params tree all 0 all) k h in
        let j = numbered_member tree all 0 all b.0 b.1 in
        no_fact b.0.static_type k (subst (λ (x : Bound). IsInput x.static_type) (param_as tree all j.0 ∙ j.2) (bound_input j.0)) b.2
    | inr h ↦
        let c = known_clause all task.clauses k h in
        no_clause c.0 k (none_has (misdeclares tree (bound_params tree all 0 all)) task.clauses c.0
        (subst (λ names. list_any (misdeclares tree names) task.clauses ≡ false) told.sound_task.params told.sound_task.clauses) c.1) c.2
  ]

  -- ---- values

  inputs_long : (ts : List StaticType) (zs : List ℤ) → length zs ≡ length ts → length (inputs_of ts zs) ≡ length ts
  inputs_long [] zs e = refl
  inputs_long (t ∷ ts) [] e = absurd (omega (arith, e))
  inputs_long (t ∷ ts) (z ∷ zs) e = ap suc (inputs_long ts zs (omega (arith, e)))

  inputs_are : (b : Interpretation) (ts : List StaticType) (zs : List ℤ) → ((i : ℕ) → IsInput (type_at ts i)) → length zs ≡ length ts → (i : ℕ) → IsOfType b (type_at ts i) (get_or (inputs_of ts zs) i (a_truth false))
  inputs_are b [] zs are e zero = is_unknown
  inputs_are b [] zs are e (suc i) = is_unknown
  inputs_are b (t ∷ ts) [] are e i = absurd (omega (arith, e))
  inputs_are b (t ∷ ts) (z ∷ zs) are e zero = one t (are 0)
    where
      one : (t : StaticType) → IsInput t → IsOfType b t (a_number (width_of_type t) z)
      one (integer_type w) is = is_number
      one unknown_type is = is_unknown
      one truth_type is = absurd is
      one (index_type j) is = absurd is
      one (pointer_type j s args terms) is = absurd is
      one (ispace_type j) is = absurd is
      one (region_type j s args q) is = absurd is
      one (partition_type d r p) is = absurd is
      one no_type is = absurd is
  inputs_are b (t ∷ ts) (z ∷ zs) are e (suc i) = inputs_are b ts zs (λ j. are (suc j)) (omega (arith, e)) i

  plain_inputs : (ts : List StaticType) (zs : List ℤ) (i : ℕ) → IsNoCollection (get_or (inputs_of ts zs) i (a_truth false))
  plain_inputs [] zs zero = (refl, refl)
  plain_inputs [] zs (suc i) = (refl, refl)
  plain_inputs (t ∷ ts) [] zero = (refl, refl)
  plain_inputs (t ∷ ts) [] (suc i) = (refl, refl)
  plain_inputs (t ∷ ts) (z ∷ zs) zero = (refl, refl)
  plain_inputs (t ∷ ts) (z ∷ zs) (suc i) = plain_inputs ts zs i

  no_parent : (t : StaticType) → IsInput t → IsOfParent (of_arguments vs) (scope_of tree task).known t
  no_parent (integer_type w) is = tt
  no_parent unknown_type is = tt
  no_parent truth_type is = tt
  no_parent (index_type j) is = tt
  no_parent (pointer_type j s args terms) is = tt
  no_parent (ispace_type j) is = tt
  no_parent (region_type j s args q) is = tt
  no_parent (partition_type d r p) is = absurd is
  no_parent no_type is = tt

  types_long : length types ≡ length all
  types_long = bound_long tree all 0 all

  pub entry_fits : AreFitting tree (task_named tree (entry_name tree)) (inputs_of (param_types tree (task_named tree (entry_name tree))) inputs) 0
  entry_fits = record {
    counted = inputs_long types inputs (counted ∙ sym types_long) ∙ types_long;
    types = inputs_are (of_arguments vs) types inputs input_type (counted ∙ sym types_long);
    holds = λ k c. absurd (nothing_known k c);
    stored = record {
      regions = λ i. plain_region 0 (get_or vs i (a_truth false)) (plain_inputs types inputs i);
      children = λ i c. plain_children 0 (get_or vs i (a_truth false)) (plain_inputs types inputs i) c;
    };
    parents = λ i. no_parent (type_at types i) (input_type i);
  }
