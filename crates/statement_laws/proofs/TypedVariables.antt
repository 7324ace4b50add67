-- A variable with a type and an initializer: its first value is converted to the type.
use Rattle.check_rules.proofs.Untold.{rule_none}
use Rattle.plain_values.proofs.Plain.{option_or_parts}
use Rattle.std.proofs.Common.{Bool, List, [], ◌∷◌, ◌++◌, None, Some, false, true, refl, sym, subst, ℕ, ◌≡◌, ◌∙◌, cond, length}
use Rattle.std.specs.List.{Contains}
use Rattle.regent_tree.specs.Evaluation.{value}
use Rattle.regent_tree.specs.Execution.{bind}
use Rattle.regent_tree.specs.Running.{Here, State, and_then}
use Rattle.regent_tree.specs.Scopes.{Scope, known_of_type}
use Rattle.regent_tree.specs.Syntax.{Expression, Name, Initializer, TaskTree, plain_initializer, var_form}
use Rattle.regent_tree.specs.Typing.{known_of_child, owned, scope_after, type_of, var_type}
use Rattle.regent_tree.specs.Values.{Value}
use Rattle.regent_tree.specs.declared.facts.Known.{Known}
use Rattle.regent_tree.specs.declared.facts.Known.TheVariants.{Made}
use Rattle.regent_tree.specs.declared.types.TypeTerm.{TypeTerm}
use Rattle.regent_tree.specs.declared.typing.StaticType.{StaticType}
use Rattle.regent_tree.proofs.Members.{Has-from_Contains}
use Rattle.check_rules.specs.first.FirstInExpressions.{first_in_expression}
use Rattle.check_laws.proofs.Variables.{parts_of_form}
use Rattle.regent_tree.specs.declared.typing.StaticType.TheVariants.{Index as index_type, Integer as integer_type, Ispace as ispace_type, Nothing as no_type, Partition as partition_type, Pointer as pointer_type, Region as region_type, Truth as truth_type, Unknown as unknown_type}
use Rattle.check_rules.specs.rules.Partitions.{is_difference}
use Rattle.check_rules.specs.first.FirstInStatements.{first_of_form}
use Rattle.check_rules.specs.first.Rules.{first_in}
use Rattle.check_rules.specs.scopes.Variables.{members_of}
use Rattle.statement_laws.proofs.States.{is_of_too}
use Rattle.expression_laws.specs.Kinds.{IsOfType, is_space}
use Rattle.fact_laws.specs.Regions.{Interpretation}
use Rattle.expression_laws.specs.Sound.{Instance, IsSoundState}
use Rattle.statement_laws.specs.Places.{FormGoes, IsReady}
use Rattle.statement_laws.proofs.Going.{then_goes}
use Rattle.statement_laws.proofs.Loops.{evaluates}
use Rattle.statement_laws.proofs.States.{put, put_agrees}
use Rattle.std.proofs.Common.{◌&&◌, map}
use Rattle.regent_tree.specs.Accesses.{regions_reached}
use Rattle.regent_tree.specs.Scopes.{in_scope}
use Rattle.regent_tree.specs.StaticTypes.{looked_up}
use Rattle.regent_tree.specs.declared.types.NumberTerm.TheVariants as number
use Rattle.regent_tree.specs.declared.types.TypeTerm.TheVariants as typed_as
use Rattle.check_rules.specs.first.FirstInExpressions.{first_in_type}
use Rattle.check_rules.specs.rules.Names.{unbound_name_in_type}
use Rattle.check_rules.specs.first.Rules.{rule_if}
use Rattle.check_rules.specs.types.Sorts.{is_collection, is_unknown_type}
use Rattle.check_rules.specs.scopes.Variables.{variable_type}
use Rattle.check_rules.specs.declared.rule.Rule.TheVariants as rule
use Rattle.check_laws.proofs.Variables.{variable_known}
use Rattle.expression_laws.proofs.Names.{pointer_args, reached}
use Rattle.statement_laws.proofs.Types.{args_below}
use Rattle.statement_laws.proofs.States.{plain_children, plain_region}
use Rattle.std.proofs.lemmas.Bool.{not-false, or_parts}
use Rattle.regent_tree.specs.Accesses.{converted}
use Rattle.regent_tree.specs.Evaluation.{typed}
use Rattle.regent_tree.specs.Typing.{reaches_of}
use Rattle.check_rules.specs.rules.Standing.{stands, typed_spot}
use Rattle.check_rules.specs.rules.Types.{is_ill_typed_at_place}
use Rattle.check_rules.specs.scopes.Variables.{is_flawed_initializer, known_initializer}
use Rattle.check_rules.specs.types.Fitting.{fits}
use Rattle.check_laws.proofs.Parts.{unless_false}
use Rattle.check_laws.proofs.Variables.{begun_sound}
use Rattle.expression_laws.specs.Kinds.{GoInto, TypeBelow}
use Rattle.expression_laws.specs.Sound.{KeepsSound}
use Rattle.statement_laws.proofs.Assignments.{converted_is}
use Rattle.statement_laws.proofs.Variables.{IsPlain, begun, in_turn_goes, tells_none, untold_parent}
use Rattle.regent_tree.specs.Values.{Region}
use Rattle.regent_tree.specs.Typing.{initializer_type}

-- what fits a type of values that are no collections isn't named by its own number, and tells nothing
fits_plain : (own : ℕ) (known : List Known) (from wanted : StaticType) → IsPlain wanted → fits known (owned own from) wanted ≡ true →
    (fits known from wanted ≡ true) × (known_of_child own from ≡ [])
fits_plain own known (integer_type w) wanted p e = (e, refl)
fits_plain own known truth_type wanted p e = (e, refl)
fits_plain own known (index_type k) wanted p e = (e, refl)
fits_plain own known (pointer_type k s args terms) wanted p e = (e, refl)
fits_plain own known (ispace_type k) wanted p e = (e, refl)
fits_plain own known no_type wanted p e = (e, refl)
fits_plain own known unknown_type wanted p e = (e, refl)
fits_plain own known (region_type k s args t) (integer_type w) p e = absurd cc
fits_plain own known (region_type k s args t) truth_type p e = absurd cc
fits_plain own known (region_type k s args t) (index_type j) p e = absurd cc
fits_plain own known (region_type k s args t) (pointer_type j u others terms) p e = absurd cc
fits_plain own known (region_type k s args t) (ispace_type j) p e = absurd cc
fits_plain own known (region_type k s args t) (region_type j u others z) p e = absurd p
fits_plain own known (region_type k s args t) (partition_type f z y) p e = absurd p
fits_plain own known (region_type k s args t) no_type p e = absurd cc
fits_plain own known (region_type k s args t) unknown_type p e = absurd p
fits_plain own known (partition_type d r q) (integer_type w) p e = absurd cc
fits_plain own known (partition_type d r q) truth_type p e = absurd cc
fits_plain own known (partition_type d r q) (index_type j) p e = absurd cc
fits_plain own known (partition_type d r q) (pointer_type j u others terms) p e = absurd cc
fits_plain own known (partition_type d r q) (ispace_type j) p e = absurd cc
fits_plain own known (partition_type d r q) (region_type j u others z) p e = absurd p
fits_plain own known (partition_type d r q) (partition_type f z y) p e = absurd p
fits_plain own known (partition_type d r q) no_type p e = absurd cc
fits_plain own known (partition_type d r q) unknown_type p e = absurd p

owned_known : (own : ℕ) (t : StaticType) → is_unknown_type (owned own t) ≡ false → is_unknown_type t ≡ false
owned_known own (integer_type w) e = refl
owned_known own truth_type e = refl
owned_known own (index_type k) e = refl
owned_known own (pointer_type k s args terms) e = refl
owned_known own (ispace_type k) e = refl
owned_known own (region_type k s args t) e = refl
owned_known own (partition_type d r p) e = refl
owned_known own no_type e = refl
owned_known own unknown_type e = e

pub unless_both : (b c : Bool) (t : StaticType) → c ≡ false → cond (b && c) unknown_type t ≡ t
unless_both true c t e = λ j. cond (e j) unknown_type t
unless_both false c t e = refl

space_from : (m : Interpretation) (known : List Known) (k : _) (from : StaticType) (v : Value) → is_unknown_type from ≡ false → fits known from (ispace_type k) ≡ true →
    IsOfType m from v → IsOfType m (ispace_type k) v
space_from m known k (ispace_type j) v l e is_space = is_space
space_from m known k truth_type v l e is = absurd cc
space_from m known k (integer_type w) v l e is = absurd cc
space_from m known k (index_type j) v l e is = absurd cc
space_from m known k (pointer_type j s args terms) v l e is = absurd cc
space_from m known k (region_type j s args t) v l e is = absurd cc
space_from m known k (partition_type d r p) v l e is = absurd cc
space_from m known k no_type v l e is = absurd cc
space_from m known k unknown_type v l e is = absurd cc

converted_plain : (x : Instance) (m : Interpretation) (s : Scope) (h : Here) (known : List Known) (from wanted : StaticType) (rs : List Region) (v : Value) (u : State) →
    is_unknown_type from ≡ false → IsPlain wanted → fits known from wanted ≡ true → GoInto m (reaches_of wanted) rs → IsOfType m from v → IsSoundState x m s u →
    KeepsSound x m s (IsOfType m wanted) (converted h from wanted rs v u)
converted_plain x m s h known from (integer_type w) rs v u k p e go is st = converted_is x m s h known from (integer_type w) rs v u k refl refl e go is st
converted_plain x m s h known from truth_type rs v u k p e go is st = converted_is x m s h known from truth_type rs v u k refl refl e go is st
converted_plain x m s h known from (index_type j) rs v u k p e go is st = converted_is x m s h known from (index_type j) rs v u k refl refl e go is st
converted_plain x m s h known from (pointer_type j sp args terms) rs v u k p e go is st = converted_is x m s h known from (pointer_type j sp args terms) rs v u k refl refl e go is st
converted_plain x m s h known from (ispace_type j) rs v u k p e go is st = (st, space_from m known j from v k e is)
converted_plain x m s h known from (region_type j sp args t) rs v u k p e go is st = absurd p
converted_plain x m s h known from (partition_type d r q) rs v u k p e go is st = absurd p
converted_plain x m s h known from no_type rs v u k p e go is st = converted_is x m s h known from no_type rs v u k refl refl e go is st
converted_plain x m s h known from unknown_type rs v u k p e go is st = absurd p

module _ (task : TaskTree) (args : List Value) (roots : ℕ) where
  abbrev inst : Here → Instance
  inst h = record { tree = h.tree; calls = h.calls; task = task; args = args; roots = roots }

  -- a type that is written is of bindings in scope
  record IsWrittenType (h : Here) (m : Interpretation) (t : TypeTerm) (wanted : StaticType) : Type 0 where
    below : TypeBelow h.scope.next wanted
    reach : (u : State) → IsSoundState (inst h) m h.scope u → GoInto m (reaches_of wanted) (regions_reached h.scope u.names (reaches_of wanted))

  written_type : (h : Here) (m : Interpretation) (t : TypeTerm) → IsReady task args roots m h → unbound_name_in_type h.tree h.scope.names t ≡ false →
      IsPlain (var_type h.tree h.scope (Some t) None) → IsWrittenType h m t (var_type h.tree h.scope (Some t) None)
  written_type h m (typed_as.Number number.Int32) r named p = record { below = tt; reach = λ u st. tt }
  written_type h m (typed_as.Number number.Int64) r named p = record { below = tt; reach = λ u st. tt }
  written_type h m (typed_as.Number (number.Index k)) r named p = record { below = tt; reach = λ u st. tt }
  written_type h m typed_as.Truth r named p = record { below = tt; reach = λ u st. tt }
  written_type h m (typed_as.Ispace k) r named p = record { below = tt; reach = λ u st. tt }
  written_type h m (typed_as.Pointer q) r named p =
      let are = pointer_args h.scope r.scope h.tree q named in
      let terms = map (looked_up (in_scope h.scope)) q.regions in record {
        below = args_below h.scope r.scope terms are.1;
        reach = λ u st. reached m h.scope u.names r.static.well_scoped st.names terms are.1;
      }
  written_type h m (typed_as.Region k s) r named p = absurd p
  written_type h m (typed_as.Partition d q s) r named p = absurd p

  -- what isn't told of a variable with a type and an expression
  pub record IsTyped (h : Here) (t : TypeTerm) (y : Expression) : Type 0 where
    pub right : first_in_expression h.tree task h.scope y ≡ None
    pub named : unbound_name_in_type h.tree h.scope.names t ≡ false
    pub known : is_unknown_type (type_of h.tree h.scope y) ≡ false
    pub fit : fits h.scope.known (owned h.scope.next (type_of h.tree h.scope y)) (var_type h.tree h.scope (Some t) None) ≡ true

  pub typed_parts : (n : Name) (t : TypeTerm) (y : Expression) (h : Here) (m : Interpretation) → IsReady task args roots m h → is_difference h.scope.names y ≡ false →
      first_of_form h.tree task h.scope (var_form n (Some t) (Some (plain_initializer y))) ≡ None → IsTyped h t y
  typed_parts n t y h m r whole told =
      let s = h.scope in
      let i : Initializer = plain_initializer y in
      let from = type_of h.tree s y in
      let parts = parts_of_form h.tree task s r.sound r.scope (var_form n (Some t) (Some i)) told in
      let b = begun_sound h.tree task s r.sound r.scope n (Some t) i told in
      let vt = variable_type h.tree s (Some t) (Some i) in
      let is_begun : known_initializer h.tree s i ≡ owned s.next from = unless_false (is_flawed_initializer h.tree s i) (initializer_type h.tree s s.next i) b.0 in
      let is_wanted : vt ≡ var_type h.tree s (Some t) None = sym (unless_both (is_collection vt) _ vt b.2) ∙ (variable_known h.tree task s r.sound r.scope n (Some t) (Some i) told).0 in
      let fit = not-false _ (or_parts (is_ill_typed_at_place s.known (stands (known_initializer h.tree s i) (typed_spot vt))) false parts.4).0 in
      let heads = subst (λ b. first_in (first_in_expression h.tree task s) (cond b (members_of y) (y ∷ [])) ≡ None) whole parts.2 in record {
        right = (option_or_parts (first_in_expression h.tree task s y) _ heads).0;
        named = rule_none (unbound_name_in_type h.tree s.names t) rule.Name (option_or_parts (rule_if (unbound_name_in_type h.tree s.names t) rule.Name) _ (option_or_parts (first_in_type h.tree s.names t) None parts.0).0).0;
        known = owned_known s.next from b.1.known;
        fit = sym (λ j. fits s.known (is_begun j) (is_wanted j)) ∙ fit;
      }

  -- `var x : t = e` of a number, truth, index, pointer or space
  pub typed_goes : (n : Name) (t : TypeTerm) (y : Expression) (h : Here) → IsPlain (var_type h.tree h.scope (Some t) None) → is_difference h.scope.names y ≡ false →
      FormGoes task args roots h (var_form n (Some t) (Some (plain_initializer y)))
  typed_goes n t y h plain whole m r told w wr st0 st =
      let s = h.scope in
      let i : Initializer = plain_initializer y in
      let wanted = var_type h.tree s (Some t) (Some i) in
      let from = type_of h.tree s y in
      let typing = typed_parts n t y h m r whole told in
      let both = fits_plain s.next s.known from wanted plain typing.fit in
      let written = written_type h m t r typing.named plain in
      let none = tells_none task args roots s wanted plain in
      let tells : known_of_child s.next from ++ known_of_type wanted ≡ [] = (λ j. both.1 j ++ known_of_type wanted) ∙ none.type in
      let after = scope_after h.tree s (var_form n (Some t) (Some i)) in
      in_turn_goes task args roots (inst h) m s.next after (value h y st0) (λ v z. converted h (typed h y) wanted (regions_reached s z.names (reaches_of wanted)) v z) (λ v. bind v)
      (then_goes (inst h) m s s.next after (value h y st0) (λ v z. and_then (converted h (typed h y) wanted (regions_reached s z.names (reaches_of wanted)) v z) (λ v. bind v))
      (evaluates task args roots h m y r wr typing.right st0 st) (λ v z st is.
      then_goes (inst h) m s s.next after (converted h (typed h y) wanted (regions_reached s z.names (reaches_of wanted)) v z) (λ v. bind v)
      (converted_plain (inst h) m s h s.known from wanted (regions_reached s z.names (reaches_of wanted)) v z typing.known plain both.0 (written.reach z st) is.is_of st) (λ a z st is.
      begun task args roots h m n (Some t) (Some i) r a z st (record {
        is_of = is_of_too s.next m (put s.next a m) (put_agrees s.next a m) wanted a written.below is;
        holds = λ k c. absurd (Has-from_Contains [] k (subst (λ ks. Contains ks k) tells c));
        own = λ i c. absurd (Has-from_Contains [] (Made i) (subst (λ ks. Contains ks (Made i)) tells c));
        kept = plain_region (length z.store) a (none.empty m a is);
        children = plain_children (length z.store) a (none.empty m a is);
        parent = untold_parent task args roots (put s.next a m) (known_of_child s.next from ++ known_of_type wanted) wanted none.type;
      }))))
