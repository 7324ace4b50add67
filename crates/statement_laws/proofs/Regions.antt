-- A variable that begins as a region that is there already: as a child of a partition, mostly.
use Rattle.regent_tree.specs.declared.facts.Known.{Known}
use Rattle.regent_tree.specs.Syntax.{Initializer}
use Rattle.regent_tree.specs.Accesses.{converted, regions_reached}
use Rattle.regent_tree.specs.Evaluation.{typed}
use Rattle.regent_tree.specs.Running.{and_then}
use Rattle.regent_tree.specs.Scopes.{in_scope}
use Rattle.regent_tree.specs.StaticTypes.{looked_up, place_of_space}
use Rattle.regent_tree.specs.Typing.{reaches_of}
use Rattle.regent_tree.specs.declared.types.SpaceUse.{SpaceUse}
use Rattle.regent_tree.specs.declared.types.TypeTerm.TheVariants as typed_as
use Rattle.check_rules.specs.types.Fitting.{fits}
use Rattle.check_rules.specs.types.Sorts.{is_region, is_unknown_type}
use Rattle.statement_laws.proofs.TypedVariables.{typed_parts}
use Rattle.statement_laws.proofs.Variables.{in_turn_goes}
use Rattle.std.proofs.Common.{map}
use Rattle.plain_values.proofs.Plain.{option_or_parts}
use Rattle.std.proofs.Common.{List, [], ◌∷◌, ◌++◌, None, Some, false, true, refl, sym, subst, ℕ, ◌≡◌, ◌∙◌, inl, inr, cond, length}
use Rattle.regent_tree.specs.Evaluation.{value}
use Rattle.regent_tree.specs.Execution.{bind}
use Rattle.regent_tree.specs.Running.{Here}
use Rattle.regent_tree.specs.Scopes.{known_of_type}
use Rattle.regent_tree.specs.Syntax.{Expression, Name, TaskTree, plain_initializer, var_form}
use Rattle.regent_tree.specs.Typing.{known_of_child, owned, scope_after, type_of}
use Rattle.regent_tree.specs.Values.{Value, a_region}
use Rattle.regent_tree.specs.declared.facts.Known.TheVariants.{Made}
use Rattle.regent_tree.specs.declared.typing.StaticType.{StaticType}
use Rattle.regent_tree.proofs.Members.{Has-from_Contains}
use Rattle.check_rules.specs.first.FirstInExpressions.{first_in_expression}
use Rattle.check_laws.proofs.Variables.{parts_of_form}
use Rattle.regent_tree.specs.declared.typing.StaticType.TheVariants.{Index as index_type, Integer as integer_type, Ispace as ispace_type, Nothing as no_type, Partition as partition_type, Pointer as pointer_type, Region as region_type, Truth as truth_type, Unknown as unknown_type}
use Rattle.check_rules.specs.rules.Partitions.{is_difference}
use Rattle.check_rules.specs.first.Rules.{first_in}
use Rattle.check_rules.specs.scopes.Variables.{members_of}
use Rattle.statement_laws.proofs.Types.{type_in}
use Rattle.expression_laws.specs.Kinds.{IsOfType, is_region_of}
use Rattle.fact_laws.specs.Regions.{Holds, Interpretation}
use Rattle.expression_laws.specs.Sound.{AreInStore, Instance}
use Rattle.statement_laws.specs.Places.{FormGoes}
use Rattle.statement_laws.proofs.Going.{then_goes}
use Rattle.statement_laws.proofs.Loops.{evaluates}
use Rattle.statement_laws.proofs.States.{put, put_agrees, put_region}
use Rattle.std.proofs.Common.{inl, inr}
use Rattle.statement_laws.proofs.Leaves.{region_like}
use Rattle.check_rules.specs.rules.Standing.{stands}
use Rattle.expression_laws.specs.Kinds.{TypeBelow}
use Rattle.statement_laws.proofs.Variables.{begun}
use Rattle.regent_tree.specs.Values.{Region}
use Rattle.regent_tree.specs.Typing.{known_of_child_term}
use Rattle.regent_tree.specs.declared.facts.Colour.{Colour}
use Rattle.regent_tree.specs.declared.facts.Known.TheVariants.{Within}
use Rattle.regent_tree.specs.declared.facts.Term.{Term}
use Rattle.regent_tree.specs.declared.facts.Term.TheVariants.{Child, Name as name_term}
use Rattle.fact_laws.specs.Regions.{AllLieWithinSome, IsChild, StandsFor}
use Rattle.expression_laws.specs.Kinds.{TermBelow}
use Rattle.expression_laws.specs.Sound.{AreInStore, IsInStore}
use Rattle.statement_laws.proofs.Agree.{child_in_store, stands_too}
use Rattle.statement_laws.proofs.Variables.{Begins}
use Rattle.regent_tree.specs.declared.types.Kind.{Kind}
use Rattle.regent_tree.specs.StaticTypes.{Reach}

module _ (task : TaskTree) (args : List Value) (roots : ℕ) where
  abbrev inst : Here → Instance
  inst h = record { tree = h.tree; calls = h.calls; task = task; args = args; roots = roots }

  child_begins : (h : Here) (m : Interpretation) (p : ℕ) (c : Colour) (k : Kind) (sp : ℕ) (types : List Reach) (q : Region) (count : ℕ) → TermBelow h.scope.next (Child p c) →
      AreInStore m count → IsChild m p c q →
      Begins task args roots h m (region_type k sp types (name_term h.scope.next)) (known_of_child_term h.scope.next (Child p c) ++ []) (a_region q) count
  child_begins h m p c k sp types q count below are stands =
      let n = h.scope.next in
      let v : Value = a_region q in
      let b = put n v m in
      let there : StandsFor b (Child p c) q = stands_too n m b (put_agrees n v m) (Child p c) q below stands in
      let within : AllLieWithinSome b (name_term n) (Child p c) = λ z is.
      record { outer = z; stands = subst (StandsFor b (Child p c)) (sym (put_region n v m) ∙ is) there; lies = λ root i at. at } in record {
        is_of = is_region_of (put_region n v m);
        holds = λ f g. elim (Has-from_Contains (Within (name_term n) (Child p c) ∷ []) f g) [
          | inl e ↦ subst (Holds b) e within
          | inr g ↦ absurd g
        ];
        own = λ i g. elim (Has-from_Contains (Within (name_term n) (Child p c) ∷ []) (Made i) g) [
          | inl e ↦ absurd cc
          | inr g ↦ absurd g
        ];
        kept = subst (IsInStore count) stands.is_child (are.children p stands.number);
        children = child_in_store count;
        parent = tt;
      }

  region_begins : (h : Here) (m : Interpretation) (t : Term) (j k : Kind) (sq sp : ℕ) (others types : List Reach) (v : Value) (count : ℕ) → TermBelow h.scope.next t →
      AreInStore m count → IsOfType m (region_type j sq others t) v →
      Begins task args roots h m (region_type k sp types (name_term h.scope.next)) (known_of_child_term h.scope.next t ++ []) v count
  region_begins h m (Child p c) j k sq sp others types v count below are (is_region_of {r = q} stands) =
      child_begins h m p c k sp types q count below are stands
  region_begins h m (name_term i) j k sq sp others types v count below are (is_region_of {r = q} stands) = record {
    is_of = is_region_of (put_region h.scope.next (a_region q) m);
    holds = λ f g. absurd (Has-from_Contains [] f g);
    own = λ z g. absurd (Has-from_Contains [] (Made z) g);
    kept = subst (IsInStore count) stands (are.regions i);
    children = child_in_store count;
    parent = tt;
  }

  -- `var s = p[k]`
  pub child_goes : (n : Name) (e : Expression) (h : Here) (k : Kind) (sp : ℕ) (types : List Reach) (t : Term) → type_of h.tree h.scope e ≡ region_type k sp types t →
      is_difference h.scope.names e ≡ false → FormGoes task args roots h (var_form n None (Some (plain_initializer e)))
  child_goes n e h k sp types t same whole m r told w wr st0 st =
      let s = h.scope in
      let parts = parts_of_form h.tree task s r.sound r.scope (var_form n None (Some (plain_initializer e))) told in
      let heads = subst (λ b. first_in (first_in_expression h.tree task s) (cond b (members_of e) (e ∷ [])) ≡ None) whole parts.2 in
      let told_e = (option_or_parts (first_in_expression h.tree task s e) _ heads).0 in
      let below = subst (TypeBelow s.next) same (type_in h.tree task s r.sound r.scope r.static.well_scoped e told_e).below in
      then_goes (inst h) m s s.next (scope_after h.tree s (var_form n None (Some (plain_initializer e)))) (value h e st0) (λ v. bind v)
      (evaluates task args roots h m e r wr told_e st0 st) (λ v z st is.
      begun task args roots h m n None (Some (plain_initializer e)) r v z st
      (subst (λ ty. Begins task args roots h m (owned s.next ty) (known_of_child s.next ty ++ known_of_type (owned s.next ty)) v (length z.store)) (sym same)
      (region_begins h m t k k sp sp types types v (length z.store) below st.rooted (subst (λ ty. IsOfType m ty v) same is.is_of))))

  region_fits : (own : ℕ) (known : List Known) (from : StaticType) (k : Kind) (sp : ℕ) (types : List Reach) (t : Term) → is_unknown_type from ≡ false →
      fits known (owned own from) (region_type k sp types t) ≡ true → is_region from ≡ true
  region_fits own known (region_type j sq others q) k sp types t l e = refl
  region_fits own known (integer_type w) k sp types t l e = absurd cc
  region_fits own known truth_type k sp types t l e = absurd cc
  region_fits own known (index_type j) k sp types t l e = absurd cc
  region_fits own known (pointer_type j sq others terms) k sp types t l e = absurd cc
  region_fits own known (ispace_type j) k sp types t l e = absurd cc
  region_fits own known (partition_type d q p) k sp types t l e = absurd cc
  region_fits own known no_type k sp types t l e = absurd cc
  region_fits own known unknown_type k sp types t l e = absurd cc

  -- the same with a type that is written
  pub typed_child_goes : (n : Name) (k : Kind) (use_of : SpaceUse) (y : Expression) (h : Here) → is_difference h.scope.names y ≡ false →
      FormGoes task args roots h (var_form n (Some (typed_as.Region k use_of)) (Some (plain_initializer y)))
  typed_child_goes n k use_of y h whole m r told w wr st0 st =
      let s = h.scope in
      let t = typed_as.Region k use_of in
      let i : Initializer = plain_initializer y in
      let sp = place_of_space h.tree use_of.name in
      let types = map (looked_up (in_scope s)) use_of.args in
      let wanted = region_type k sp types (name_term s.next) in
      let typing = typed_parts task args roots n t y h m r whole told in
      let like = region_like (type_of h.tree s y) (region_fits s.next s.known (type_of h.tree s y) k sp types (name_term s.next) typing.known typing.fit) in
      let below = subst (TypeBelow s.next) like.is (type_in h.tree task s r.sound r.scope r.static.well_scoped y typing.right).below in
      let after = scope_after h.tree s (var_form n (Some t) (Some i)) in
      in_turn_goes task args roots (inst h) m s.next after (value h y st0) (λ v z. converted h (typed h y) wanted (regions_reached s z.names (reaches_of wanted)) v z) (λ v. bind v)
      (then_goes (inst h) m s s.next after (value h y st0) (λ v z. and_then (converted h (typed h y) wanted (regions_reached s z.names (reaches_of wanted)) v z) (λ v. bind v))
      (evaluates task args roots h m y r wr typing.right st0 st) (λ v z st is.
      begun task args roots h m n (Some t) (Some i) r v z st
      (subst (λ ty. Begins task args roots h m wanted (known_of_child s.next ty ++ []) v (length z.store)) (sym like.is)
      (region_begins h m like.term like.kind k like.space sp like.arguments types v (length z.store) below st.rooted (subst (λ ty. IsOfType m ty v) like.is is.is_of)))))
