-- Statements of which no breach is told: their parts, and what fits where it stands.
use Rattle.std.proofs.Common.{◌≡◌, Bool, List, [], ◌∷◌, None, Option, Some, false, true, refl, ap, sym, ℕ, suc, ◌∙◌, not}
use Rattle.std.specs.Option.{option_or}
use Rattle.lane_kernels.specs.declared.numbers.Width.TheVariants.{W32, W64}
use Rattle.code_rules.specs.Expressions.{count}
use Rattle.regent_tree.specs.declared.expression.Arithmetic.TheVariants.{Subtract}
use Rattle.regent_tree.specs.declared.expression.Operator.TheVariants.{Compute}
use Rattle.check_rules.specs.declared.rule.Rule.{Rule}
use Rattle.check_rules.specs.types.Fitting.{fits}
use Rattle.check_rules.specs.rules.Privileges.{lacks, writes_by, reductions_by}
use Rattle.check_rules.specs.Breaches.{has_no_type, wrong_initializer_at}
use Rattle.check_rules.specs.rules.Names.{unbound_name_in_form}
use Rattle.check_rules.specs.rules.Statements.{standing_in_form, known_result}
use Rattle.check_rules.specs.rules.Results.{misreturns}
use Rattle.check_rules.specs.rules.Targets.{mistargets_form}
use Rattle.check_rules.specs.types.Parts.{listed}
use Rattle.check_rules.specs.scopes.Variables.{members_of}
use Rattle.check_rules.specs.rules.Partitions.{is_difference}
use Rattle.check_rules.specs.scopes.Visits.{heads_of, initializer_at, declared_at, call_of_form}
use Rattle.std.specs.Prelude.{length, is_none, cond}
use Rattle.std.specs.List.{list_any}
use Rattle.std.proofs.lemmas.Bool.{and_parts, eqb-true, not-false, or_parts}
use Rattle.plain_values.proofs.Plain.{option_or_parts}
use Rattle.regent_tree.specs.Lookup.{is_bound, type_named}
use Rattle.regent_tree.specs.Scopes.{Scope}
use Rattle.regent_tree.specs.Syntax.{Expression, Expressions, Form, TaskTree, Tree, access_expr, an_expr, no_expr, no_step, chain_expr, a_link, no_link}
use Rattle.regent_tree.specs.Typing.{arithmetic_type, result_type}
use Rattle.regent_tree.specs.declared.facts.Known.{Known}
use Rattle.regent_tree.specs.declared.types.NumberTerm.TheVariants as number
use Rattle.regent_tree.specs.declared.types.TypeTerm.{TypeTerm}
use Rattle.regent_tree.specs.declared.types.TypeTerm.TheVariants as term
use Rattle.regent_tree.specs.declared.typing.Bound.{Bound}
use Rattle.regent_tree.specs.declared.typing.StaticType.{StaticType}
use Rattle.regent_tree.specs.declared.typing.StaticType.TheVariants.{Integer as integer_type, Truth as truth_type}
use Rattle.check_rules.specs.first.FirstInExpressions.{first_in_args, first_in_expression, first_in_type, first_of_call, first_of_standing}
use Rattle.check_rules.specs.first.FirstInStatements.{first_of_form, first_in_targets, first_of_initializer}
use Rattle.check_rules.specs.first.Rules.{first_in, rule_if}
use Rattle.check_rules.specs.rules.Formats.{is_count, misprints_form}
use Rattle.check_rules.specs.rules.Standing.{Standing}
use Rattle.check_rules.specs.rules.Types.{is_ill_typed_at_place, may_stand}
use Rattle.check_rules.specs.types.KnownTypes.{known_types}
use Rattle.check_rules.specs.types.Sorts.{may_be, is_partition}
use Rattle.check_rules.specs.declared.rule.Rule.TheVariants as rule
use Rattle.check_rules.proofs.Untold.{rule_none}
use Rattle.code_laws.specs.Pointers.{GivesBack, fills_alike, into_plain, zero_index, zero_scalar}
use Rattle.code_laws.specs.Simple.{IsInteger, IsScalar, an_integer, scalar_integer, scalar_truth}
use Rattle.code_laws.proofs.LocalValues.{IsValue, index_goes, value_fitting}
use Rattle.code_laws.proofs.Typing.{no_way, no_way_back}
use Rattle.check_rules.specs.types.Declarations.{is_no_result_type}
use Rattle.code_laws.proofs.LocalTaken.{IsCollection, collects_partition, collects_region}

pub sum_scalar : (t u : StaticType) → IsInteger t → IsInteger u → IsScalar (arithmetic_type t u)
sum_scalar _ _ (an_integer v) (an_integer w) = scalar_integer _

-- ---- what nothing is told of

-- no partition stands first in a chain
abbrev pub HasNoPartition : List Bound → Expression → Type 0
HasNoPartition bs (chain_expr (access_expr p no_step) rest) = is_bound bs p ≡ true → may_be is_partition (type_named bs p) ≡ false
HasNoPartition bs e = Unit {0}

module _ (tree : Tree) (task : TaskTree) (s : Scope) where
  abbrev told : Expression → Option Rule
  told e = first_in_expression tree task s e

  -- an initializer is told whole, where it is no difference of partitions
  no_difference : (e : Expression) → HasNoPartition s.names e → is_difference s.names e ≡ true → first_in told (members_of e) ≡ None → ⊥
  no_difference (chain_expr (access_expr p no_step) (a_link (Compute Subtract) (access_expr q no_step) no_link)) names d e =
      let bound = rule_none (not (is_bound s.names p)) rule.Name (option_or_parts _ _ (option_or_parts (told (access_expr p no_step)) _ e).0).0 in
      no_way (sym (and_parts (may_be is_partition (type_named s.names p)) (may_be is_partition (type_named s.names q)) d).0
      ∙ names (not-false (is_bound s.names p) bound))
  no_difference _ names d e = absurd cc

  pub initial_told : (e : Expression) → HasNoPartition s.names e →
      first_in told (cond (is_difference s.names e) (members_of e) (e ∷ [])) ≡ None → told e ≡ None
  initial_told e names heads = chosen (is_difference s.names e) refl heads
    where
      chosen : (b : Bool) → is_difference s.names e ≡ b → first_in told (cond b (members_of e) (e ∷ [])) ≡ None → told e ≡ None
      chosen true q heads = absurd (no_difference e names q heads)
      chosen false q heads = (option_or_parts (told e) _ heads).0

  -- arguments, one after the other
  pub listed_told : (es : Expressions) → first_in told (listed es) ≡ None → first_in_args tree task s es ≡ None
  listed_told no_expr e = refl
  listed_told (an_expr e es) none =
      let t = option_or_parts (told e) _ none in
      ap (λ o. option_or o (first_in_args tree task s es)) t.0 ∙ listed_told es t.1

  -- the target and the format of a statement, what it returns, and what it writes and reduces
  told_last : (form : Form) → first_of_form tree task s form ≡ None →
      (mistargets_form tree task s form ≡ false) × (misprints_form tree s form ≡ false) × (misreturns task form ≡ false)
      × (lacks tree task s (writes_by tree s form) ≡ false) × (lacks tree task s (reductions_by tree s form) ≡ false)
  told_last form e =
      let a = option_or_parts (first_in (first_in_type tree s.names) (declared_at form)) _ e in
      let b = option_or_parts (rule_if (has_no_type form) rule.Type) _ a.1 in
      let c = option_or_parts (first_in told (heads_of s.names form)) _ b.1 in
      let d = option_or_parts (first_in_targets tree task s form) _ c.1 in
      let f = option_or_parts (rule_if (unbound_name_in_form tree s.names form) rule.Name) _ d.1 in
      let g = option_or_parts (first_in (first_of_initializer tree task s) (initializer_at form)) _ f.1 in
      let h = option_or_parts (first_in (first_of_call tree task s) (call_of_form tree s form)) _ g.1 in
      let i = option_or_parts (first_in (first_of_standing s.known) (standing_in_form tree task s form)) _ h.1 in
      let k = option_or_parts (rule_if (wrong_initializer_at tree s form) rule.Place) _ i.1 in
      let l = option_or_parts (rule_if (mistargets_form tree task s form) rule.Target) _ k.1 in
      let m = option_or_parts (rule_if (misprints_form tree s form) rule.Format) _ l.1 in
      let n = option_or_parts (rule_if (lacks tree task s (writes_by tree s form)) rule.Write) _ m.1 in
      let o = option_or_parts (rule_if (lacks tree task s (reductions_by tree s form)) rule.Reduce) _ n.1 in
      let p = option_or_parts (rule_if (misreturns task form) rule.Return) _ o.1 in (
        rule_none (mistargets_form tree task s form) rule.Target l.0,
        rule_none (misprints_form tree s form) rule.Format m.0,
        rule_none (misreturns task form) rule.Return p.0,
        rule_none (lacks tree task s (writes_by tree s form)) rule.Write n.0,
        rule_none (lacks tree task s (reductions_by tree s form)) rule.Reduce o.0,
      )

  pub told_later : (form : Form) → first_of_form tree task s form ≡ None →
      (mistargets_form tree task s form ≡ false) × (misprints_form tree s form ≡ false) × (misreturns task form ≡ false)
  told_later form e = let t = told_last form e in (t.0, t.1, t.2)

  pub told_privileges : (form : Form) → first_of_form tree task s form ≡ None →
      (lacks tree task s (writes_by tree s form) ≡ false) × (lacks tree task s (reductions_by tree s form) ≡ false)
  told_privileges form e = let t = told_last form e in (t.3, t.4)

  -- the names of a statement, and the call that it is
  pub told_names : (form : Form) → first_of_form tree task s form ≡ None →
      (unbound_name_in_form tree s.names form ≡ false) × (first_in (first_of_call tree task s) (call_of_form tree s form) ≡ None)
  told_names form e =
      let a = option_or_parts (first_in (first_in_type tree s.names) (declared_at form)) _ e in
      let b = option_or_parts (rule_if (has_no_type form) rule.Type) _ a.1 in
      let c = option_or_parts (first_in told (heads_of s.names form)) _ b.1 in
      let d = option_or_parts (first_in_targets tree task s form) _ c.1 in
      let f = option_or_parts (rule_if (unbound_name_in_form tree s.names form) rule.Name) _ d.1 in
      let g = option_or_parts (first_in (first_of_initializer tree task s) (initializer_at form)) _ f.1 in
      let h = option_or_parts (first_in (first_of_call tree task s) (call_of_form tree s form)) _ g.1 in
      (rule_none (unbound_name_in_form tree s.names form) rule.Name f.0, h.0)

-- the first of what stands somewhere stands well
pub first_stands : (known : List Known) (a : Standing) (more : List Standing) → list_any (is_ill_typed_at_place known) (a ∷ more) ≡ false →
    (may_stand known a ≡ true) × (list_any (is_ill_typed_at_place known) more ≡ false)
first_stands known a more e =
    let p = or_parts (is_ill_typed_at_place known a) _ e in (not-false (may_stand known a) p.0, p.1)

-- as many numbers as arguments
pub count_types : (tree : Tree) (s : Scope) (es : Expressions) → length (known_types tree s es) ≡ count es
count_types tree s no_expr = refl
count_types tree s (an_expr e es) = ap suc (count_types tree s es)

pub counted : (n : ℕ) (o : Option ℕ) → is_count n o ≡ true → o ≡ Some n
counted n None e = absurd (no_way_back e)
counted n (Some m) e = ap Some (sym (eqb-true n m e))

-- a declared result and what fits it
pub result_fits : (keeping : Bool) (bs : List Bound) (tree : Tree) (known : List Known) (r : Option TypeTerm) (from : StaticType) → is_no_result_type r ≡ false → is_none r ≡ false →
    IsValue keeping bs from → fits known from (known_result tree r) ≡ true → GivesBack from (result_type tree r)
result_fits keeping bs tree known None from sc some value e = absurd (no_way some)
result_fits keeping bs tree known (Some (term.Number number.Int32)) from sc some value e =
    (into_plain from _ (fills_alike from _ (value_fitting keeping bs known from (integer_type W32) value (scalar_integer W32) e)), zero_scalar _ (scalar_integer W32))
result_fits keeping bs tree known (Some (term.Number number.Int64)) from sc some value e =
    (into_plain from _ (fills_alike from _ (value_fitting keeping bs known from (integer_type W64) value (scalar_integer W64) e)), zero_scalar _ (scalar_integer W64))
result_fits keeping bs tree known (Some (term.Number (number.Index k))) from sc some value e = (index_goes keeping bs known from k value e, zero_index k)
result_fits keeping bs tree known (Some term.Truth) from sc some value e =
    (into_plain from _ (fills_alike from _ (value_fitting keeping bs known from truth_type value scalar_truth e)), zero_scalar _ scalar_truth)
result_fits keeping bs tree known (Some (term.Pointer p)) from sc some value e = absurd (no_way sc)
result_fits keeping bs tree known (Some (term.Ispace k)) from sc some value e = absurd (no_way sc)
result_fits keeping bs tree known (Some (term.Region k u)) from sc some value e = absurd (no_way sc)
result_fits keeping bs tree known (Some (term.Partition d r c)) from sc some value e = absurd (no_way sc)

-- no region and no partition fits one
pub result_collected : (known : List Known) (tree : Tree) (r : Option TypeTerm) (t : StaticType) → is_no_result_type r ≡ false → is_none r ≡ false →
    IsCollection t → fits known t (known_result tree r) ≡ true → ⊥
result_collected known tree None t sc some c e = no_way some
result_collected known tree (Some (term.Number number.Int32)) _ sc some (collects_region k sp args r) e = no_way_back e
result_collected known tree (Some (term.Number number.Int64)) _ sc some (collects_region k sp args r) e = no_way_back e
result_collected known tree (Some (term.Number (number.Index j))) _ sc some (collects_region k sp args r) e = no_way_back e
result_collected known tree (Some term.Truth) _ sc some (collects_region k sp args r) e = no_way_back e
result_collected known tree (Some (term.Number number.Int32)) _ sc some (collects_partition d r p) e = no_way_back e
result_collected known tree (Some (term.Number number.Int64)) _ sc some (collects_partition d r p) e = no_way_back e
result_collected known tree (Some (term.Number (number.Index j))) _ sc some (collects_partition d r p) e = no_way_back e
result_collected known tree (Some term.Truth) _ sc some (collects_partition d r p) e = no_way_back e
result_collected known tree (Some (term.Pointer p)) t sc some c e = no_way sc
result_collected known tree (Some (term.Ispace k)) t sc some c e = no_way sc
result_collected known tree (Some (term.Region k u)) t sc some c e = no_way sc
result_collected known tree (Some (term.Partition d r q)) t sc some c e = no_way sc
