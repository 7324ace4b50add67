-- Variables: a new binding stands for its first value, and what it tells holds.
use Rattle.check_rules.proofs.Untold.{rule_none}
use Rattle.plain_values.proofs.Plain.{option_or_parts}
use Rattle.std.proofs.Common.{arith, ℤ, Bool, List, [], ◌∷◌, ◌++◌, None, Option, Some, false, true, refl, ap, sym, subst, ℕ, suc, ◌≡◌, ◌∙◌, ◌≤◌, inl, inr, cond, length}
use Rattle.std.proofs.lemmas.List.{length-append}
use Rattle.std.specs.List.{Contains}
use Rattle.plain_values.specs.Points.{points}
use Rattle.regent_tree.specs.Evaluation.{value}
use Rattle.regent_tree.specs.Execution.{Going, bind}
use Rattle.regent_tree.specs.Running.{Here, Result, Run, State, and_then, fails, gives}
use Rattle.point_sets.proofs.Rising.{rising-counted_from}
use Rattle.regent_tree.specs.Scopes.{Scope, bound_as, known_of_type}
use Rattle.regent_tree.specs.Initializers.{make_root}
use Rattle.regent_tree.specs.declared.facts.Term.TheVariants.{Name as name_term}
use Rattle.regent_tree.specs.declared.types.Kind.{Kind}
use Rattle.regent_tree.specs.StaticTypes.{Reach, field_kinds, place_of_space}
use Rattle.regent_tree.specs.Store.{new_root}
use Rattle.regent_tree.specs.Syntax.{Expression, Name, Initializer, TaskTree, plain_initializer, region_initializer, var_form}
use Rattle.regent_tree.specs.Typing.{known_of_child, known_of_initializer, owned, scope_after, type_of, var_type}
use Rattle.regent_tree.specs.Values.{Value, a_region, region_of, size_of}
use Rattle.regent_tree.specs.declared.facts.Known.{Known}
use Rattle.regent_tree.specs.declared.facts.Known.TheVariants.{Made}
use Rattle.regent_tree.specs.declared.types.SpaceUse.{SpaceUse}
use Rattle.regent_tree.specs.declared.types.TypeTerm.{TypeTerm}
use Rattle.regent_tree.specs.declared.typing.StaticType.{StaticType}
use Rattle.regent_tree.proofs.Members.{Has-from_Contains}
use Rattle.check_rules.specs.first.FirstInExpressions.{first_in_expression}
use Rattle.check_laws.proofs.Variables.{parts_of_form}
use Rattle.regent_tree.specs.Values.{partition_of}
use Rattle.regent_tree.specs.declared.typing.StaticType.TheVariants.{Index as index_type, Integer as integer_type, Ispace as ispace_type, Nothing as no_type, Partition as partition_type, Pointer as pointer_type, Region as region_type, Truth as truth_type, Unknown as unknown_type}
use Rattle.check_rules.specs.rules.Partitions.{is_difference}
use Rattle.check_rules.specs.first.Rules.{first_in}
use Rattle.check_rules.specs.scopes.Variables.{members_of}
use Rattle.statement_laws.proofs.States.{is_of_too}
use Rattle.statement_laws.proofs.Types.{type_in}
use Rattle.expression_laws.specs.Kinds.{IsOfType, is_index, is_nothing, is_number, is_pointer, is_region_of, is_space, is_truth}
use Rattle.fact_laws.specs.Regions.{Holds, IsIn, Interpretation, child_at}
use Rattle.expression_laws.specs.Sound.{IsInStore, IsNoCollection, IsOfParent, AreInStore, Instance, IsSoundState}
use Rattle.statement_laws.specs.Steady.{GoesOnSound}
use Rattle.statement_laws.proofs.Agree.{child_in_store, in_longer_store, given_too, holds_too, in_either, own_too, parent_among, parent_more, parent_too, parents_with}
use Rattle.statement_laws.specs.Places.{FormGoes, IsReady}
use Rattle.statement_laws.proofs.Going.{then_goes}
use Rattle.statement_laws.proofs.Loops.{evaluates}
use Rattle.statement_laws.proofs.States.{bound_fits, put, put_agrees, put_region, plain_children, plain_region, put_in_store}
use Rattle.std.proofs.Common.{◌&&◌, map}
use Rattle.regent_tree.specs.Execution.{exec}
use Rattle.regent_tree.specs.Accesses.{regions_reached}
use Rattle.regent_tree.specs.Scopes.{in_scope}
use Rattle.regent_tree.specs.StaticTypes.{looked_up, written_pointer}
use Rattle.regent_tree.specs.Values.{a_pointer, null_target}
use Rattle.regent_tree.specs.declared.types.NumberTerm.TheVariants as number
use Rattle.regent_tree.specs.declared.types.TypeTerm.TheVariants as typed_as
use Rattle.check_rules.specs.first.FirstInExpressions.{first_in_type}
use Rattle.check_rules.specs.rules.Names.{unbound_name_in_type}
use Rattle.check_rules.specs.first.Rules.{rule_if}
use Rattle.check_rules.specs.types.Sorts.{is_collection, is_unknown_type}
use Rattle.check_rules.specs.scopes.Variables.{bound_type, variable_type}
use Rattle.check_rules.specs.declared.rule.Rule.TheVariants as rule
use Rattle.check_laws.specs.SoundScopes.{IsKnown}
use Rattle.check_laws.proofs.Parts.{contrary}
use Rattle.check_laws.proofs.Variables.{variable_known}
use Rattle.expression_laws.proofs.Names.{pointer_args, reached}
use Rattle.statement_laws.proofs.Types.{args_below}
use Rattle.std.proofs.Common.{inl, inr}

-- a type of values that are no regions and no partitions
abbrev pub IsPlain : StaticType → Type 0
IsPlain (region_type k sp types t) = ⊥
IsPlain (partition_type d r p) = ⊥
IsPlain unknown_type = ⊥
IsPlain t = Unit {0}

abbrev number_made : Known → ℕ
number_made (Made i) = i
number_made k = 0

made_same : (a b : Known) → a ≡ b → number_made a ≡ number_made b
made_same a b e = ap number_made e

module _ (task : TaskTree) (args : List Value) (roots : ℕ) where
  abbrev inst : Here → Instance
  inst h = record { tree = h.tree; calls = h.calls; task = task; args = args; roots = roots }

  -- a type that tells nothing is no partition's
  pub untold_parent : (m : Interpretation) (known : List Known) (t : StaticType) → known_of_type t ≡ [] → IsOfParent m known t
  untold_parent m known (partition_type d r p) e = absurd cc
  untold_parent m known (pointer_type k sp terms others) e = tt
  untold_parent m known (region_type k sp terms t) e = tt
  untold_parent m known (integer_type w) e = tt
  untold_parent m known truth_type e = tt
  untold_parent m known (index_type k) e = tt
  untold_parent m known (ispace_type k) e = tt
  untold_parent m known no_type e = tt
  untold_parent m known unknown_type e = tt

  -- what a first value has to be
  pub record Begins (h : Here) (m : Interpretation) (ty : StaticType) (told : List Known) (v : Value) (count : ℕ) : Type 0 where
    pub is_of : IsOfType (put h.scope.next v m) ty v
    pub holds : (k : Known) → Contains told k → Holds (put h.scope.next v m) k
    pub own : (i : ℕ) → Contains told (Made i) → (root p : ℕ) → IsIn ((put h.scope.next v m).region i) root p → roots ≤ root
    pub kept : IsInStore count (region_of v)
    pub children : (c : ℤ) → IsInStore count (child_at (partition_of v) c)
    pub parent : IsOfParent (put h.scope.next v m) told ty

  pub begun : (h : Here) (m : Interpretation) (n : Name) (t : Option TypeTerm) (start : Option Initializer) → IsReady task args roots m h → (v : Value) (u : State) → IsSoundState (inst h) m h.scope u →
      Begins h m (var_type h.tree h.scope t start) (known_of_initializer h.tree h.scope h.scope.next start ++ known_of_type (var_type h.tree h.scope t start)) v (length u.store) →
      GoesOnSound (inst h) m h.scope.next (scope_after h.tree h.scope (var_form n t start)) (bind v u)
  begun h m n t start r v u st begins =
      let s = h.scope in
      let b = put s.next v m in
      let e = put_agrees s.next v m in
      let ty = var_type h.tree s t start in
      let told = known_of_initializer h.tree s s.next start ++ known_of_type ty in
      let count = st.counted in record {
        meant = b;
        agree = e;
        place = record {
          holds = λ k c. elim (in_either s.known told k c) [
            | inl g ↦ holds_too s.next m b e k (r.static.below k g) (r.place.holds k g)
            | inr g ↦ begins.holds k g
          ];
          own = λ i c root p is. elim (in_either s.known told (Made i) c) [
            | inl g ↦ own_too s.next m b e roots s.known r.static.below r.place.own i g root p is
            | inr g ↦ begins.own i g root p is
          ];
          params = given_too s.next m b e (inst h) s r.static (omega (arith)) r.place.params;
          parents = parents_with b (s.known ++ told) s n ty false (parent_among b s.known told ty begins.parent)
              (λ i. parent_more b s.known told (bound_as s.names i).static_type
              (parent_too s.next m b e s.known r.static.below (bound_as s.names i).static_type (r.place.parents i)));
        };
        state = record {
          names = bound_fits s n ty false m u.names v r.scope r.static.well_scoped r.static.placed st.counted st.names begins.is_of;
          counted = length-append u.names (v ∷ []) ∙ omega (arith, count);
          rooted = put_in_store s.next v m (length u.store) st.rooted begins.kept begins.children;
          grown = st.grown;
          covered = st.covered;
        };
      }

  -- a new region shares no point with those that are bound already
  new_apart : (i : ℕ) (v : Value) (m : Interpretation) (count : ℕ) → AreInStore m count → (region_of v).root ≡ count → Holds (put i v m) (Made i)
  new_apart i v m count are same j less root p a b =
      let first = subst (λ q. IsIn q root p) (put_region i v m) a in
      let second = subst (λ q. IsIn q root p) (sym ((put_agrees i v m).regions j less)) b in
      let below = (are.regions j).below root p second in
      let is = sym same ∙ first.0 in
      absurd (omega (arith, below, is))

  pub in_turn_goes : {A B : Type 0} (x : Instance) (m : Interpretation) (n : ℕ) (t : Scope) (r : Result A) (f : A → Run B) (g : B → Run Going) →
      GoesOnSound x m n t (and_then r (λ a u. and_then (f a u) g)) → GoesOnSound x m n t (and_then (and_then r f) g)
  in_turn_goes x m n t (gives a u) f g goes = goes
  in_turn_goes x m n t (fails e u) f g goes = goes

  -- `var r = region(..)`, where the variable is of a region
  pub region_goes : (n : Name) (written : Option TypeTerm) (e : Expression) (u : SpaceUse) (h : Here) (k : Kind) (sp : ℕ) (types : List Reach) →
      var_type h.tree h.scope written (Some (region_initializer e u)) ≡ region_type k sp types (name_term h.scope.next) →
      FormGoes task args roots h (var_form n written (Some (region_initializer e u)))
  region_goes n written e u h k sp types same m r told w wr st0 st =
      let s = h.scope in
      let t = scope_after h.tree s (var_form n written (Some (region_initializer e u))) in
      let parts = parts_of_form h.tree task s r.sound r.scope (var_form n written (Some (region_initializer e u))) told in
      in_turn_goes (inst h) m s.next t (value h e st0) (λ v. make_root h u (size_of v)) (λ v. bind v)
      (then_goes (inst h) m s s.next t (value h e st0) (λ v z. and_then (make_root h u (size_of v) z) (λ v. bind v))
      (evaluates task args roots h m e r wr (option_or_parts (first_in_expression h.tree task s e) _ parts.2).0 st0 st) (λ v z st is.
      made v z st))
    where
      made : (v : Value) (z : State) → IsSoundState (inst h) m h.scope z →
          GoesOnSound (inst h) m h.scope.next (scope_after h.tree h.scope (var_form n written (Some (region_initializer e u)))) (and_then (make_root h u (size_of v) z) (λ v. bind v))
      made v z st =
          let count = length z.store in
          let new : Value = a_region (record { root = count; points = points (size_of v) }) in
          let store = z.store ++ new_root (place_of_space h.tree u.name) (size_of v) (field_kinds h.tree (place_of_space h.tree u.name)) ∷ [] in
          let long : length store ≡ suc count = length-append z.store _ ∙ omega (arith) in
          let grown = st.grown in
          begun h m n written (Some (region_initializer e u)) r new (record z { store = store })
          (record {
            names = st.names;
            counted = st.counted;
            rooted = in_longer_store m count (length store) (omega (arith, long)) st.rooted;
            grown = omega (arith, long, grown);
            covered = st.covered;
          })
          (subst (λ ty. Begins h m ty (Made h.scope.next ∷ [] ++ known_of_type ty) new (length store)) (sym same) (record {
            is_of = is_region_of (put_region h.scope.next new m);
            holds = λ k c. elim (Has-from_Contains (Made h.scope.next ∷ []) k c) [
              | inl e ↦ subst (Holds (put h.scope.next new m)) e (new_apart h.scope.next new m count st.rooted refl)
              | inr g ↦ absurd g
            ];
            own = λ i c root p at. elim (Has-from_Contains (Made h.scope.next ∷ []) (Made i) c) [
              | inl e ↦
                  let first = subst (λ q. IsIn q root p) (put_region h.scope.next new m) (subst (λ j. IsIn ((put h.scope.next new m).region j) root p) (sym (made_same (Made h.scope.next) (Made i) e)) at) in
                  let is = first.0 in
                  omega (arith, is, grown)
              | inr g ↦ absurd g
            ];
            kept = record { below = λ root p at. let is = at.0 in omega (arith, long, is); rising = rising-counted_from 0 (size_of v) };
            children = child_in_store (length store);
            parent = tt;
          }))

  -- ---- values that are no collections

  -- a value of such a type is no region, and is bound with the type, which tells nothing
  pub record TellsNone (s : Scope) (t : StaticType) : Type 0 where
    pub same : owned s.next t ≡ t
    pub child : known_of_child s.next t ≡ []
    pub type : known_of_type t ≡ []
    pub empty : (m : Interpretation) (v : Value) → IsOfType m t v → IsNoCollection v

  pub tells_none : (s : Scope) (t : StaticType) → IsPlain t → TellsNone s t
  tells_none s (integer_type w) h = record { same = refl; child = refl; type = refl; empty = λ m v is. none m v is }
    where
      none : (m : Interpretation) (v : Value) → IsOfType m (integer_type w) v → IsNoCollection v
      none m v is_number = (refl, refl)
  tells_none s truth_type h = record { same = refl; child = refl; type = refl; empty = λ m v is. none m v is }
    where
      none : (m : Interpretation) (v : Value) → IsOfType m truth_type v → IsNoCollection v
      none m v is_truth = (refl, refl)
  tells_none s (index_type k) h = record { same = refl; child = refl; type = refl; empty = λ m v is. none m v is }
    where
      none : (m : Interpretation) (v : Value) → IsOfType m (index_type k) v → IsNoCollection v
      none m v is_index = (refl, refl)
  tells_none s (pointer_type k sp types terms) h = record { same = refl; child = refl; type = refl; empty = λ m v is. none m v is }
    where
      none : (m : Interpretation) (v : Value) → IsOfType m (pointer_type k sp types terms) v → IsNoCollection v
      none m v (is_pointer go) = (refl, refl)
  tells_none s (ispace_type k) h = record { same = refl; child = refl; type = refl; empty = λ m v is. none m v is }
    where
      none : (m : Interpretation) (v : Value) → IsOfType m (ispace_type k) v → IsNoCollection v
      none m v is_space = (refl, refl)
  tells_none s (region_type k sp types t) h = absurd h
  tells_none s (partition_type d r p) h = absurd h
  tells_none s no_type h = record { same = refl; child = refl; type = refl; empty = λ m v is. none m v is }
    where
      none : (m : Interpretation) (v : Value) → IsOfType m no_type v → IsNoCollection v
      none m v is_nothing = (refl, refl)
  tells_none s unknown_type h = absurd h

  nothing_told : (s : Scope) (t : StaticType) → TellsNone s t → known_of_child s.next t ++ known_of_type (owned s.next t) ≡ []
  nothing_told s t none = (λ j. none.child j ++ known_of_type (none.same j)) ∙ none.type

  -- `var x = e` of what is no region and no partition
  pub plain_goes : (n : Name) (e : Expression) (h : Here) → IsPlain (type_of h.tree h.scope e) → is_difference h.scope.names e ≡ false →
      FormGoes task args roots h (var_form n None (Some (plain_initializer e)))
  plain_goes n e h is_plain whole m r told w wr st0 st =
      let s = h.scope in
      let ty = type_of h.tree s e in
      let none = tells_none s ty is_plain in
      let parts = parts_of_form h.tree task s r.sound r.scope (var_form n None (Some (plain_initializer e))) told in
      let heads = subst (λ b. first_in (first_in_expression h.tree task s) (cond b (members_of e) (e ∷ [])) ≡ None) whole parts.2 in
      let told_e = (option_or_parts (first_in_expression h.tree task s e) _ heads).0 in
      let below = (type_in h.tree task s r.sound r.scope r.static.well_scoped e told_e).below in
      let tells : known_of_child s.next ty ++ known_of_type (owned s.next ty) ≡ [] = nothing_told s ty none in
      then_goes (inst h) m s s.next (scope_after h.tree s (var_form n None (Some (plain_initializer e)))) (value h e st0) (λ v. bind v)
      (evaluates task args roots h m e r wr told_e st0 st) (λ v z st is.
      begun h m n None (Some (plain_initializer e)) r v z st (record {
        is_of = subst (λ t. IsOfType (put s.next v m) t v) (sym none.same) (is_of_too s.next m (put s.next v m) (put_agrees s.next v m) ty v below is.is_of);
        holds = λ k c. absurd (Has-from_Contains [] k (subst (λ ks. Contains ks k) tells c));
        own = λ i c. absurd (Has-from_Contains [] (Made i) (subst (λ ks. Contains ks (Made i)) tells c));
        kept = plain_region (length z.store) v (none.empty m v is.is_of);
        children = plain_children (length z.store) v (none.empty m v is.is_of);
        parent = untold_parent (put s.next v m) (known_of_child s.next ty ++ known_of_type (owned s.next ty)) (owned s.next ty) (ap known_of_type none.same ∙ none.type);
      }))

  -- ---- variables without a start value

  valued : (vt ty : StaticType) (b : Bool) → is_collection vt ≡ b → cond (b && true) unknown_type vt ≡ ty → is_unknown_type ty ≡ false → is_collection ty ≡ false
  valued vt ty true q e known = absurd (contrary (ap is_unknown_type e ∙ known))
  valued vt ty false q e known = sym (ap is_collection e) ∙ q

  -- a first value of a type that tells nothing
  zero_goes : (h : Here) (m : Interpretation) (n : Name) (t : TypeTerm) → IsReady task args roots m h → (v : Value) (u : State) → IsSoundState (inst h) m h.scope u →
      known_of_type (var_type h.tree h.scope (Some t) None) ≡ [] → IsOfType (put h.scope.next v m) (var_type h.tree h.scope (Some t) None) v → IsNoCollection v →
      GoesOnSound (inst h) m h.scope.next (scope_after h.tree h.scope (var_form n (Some t) None)) (bind v u)
  zero_goes h m n t r v u st tells is none = begun h m n (Some t) None r v u st (record {
    is_of = is;
    holds = λ k c. absurd (Has-from_Contains [] k (subst (λ ks. Contains ks k) tells c));
    own = λ i c. absurd (Has-from_Contains [] (Made i) (subst (λ ks. Contains ks (Made i)) tells c));
    kept = plain_region (length u.store) v none;
    children = plain_children (length u.store) v none;
    parent = untold_parent (put h.scope.next v m) (known_of_type (var_type h.tree h.scope (Some t) None)) (var_type h.tree h.scope (Some t) None) tells;
  })

  -- `var x : t`
  pub unset_goes : (n : Name) (t : TypeTerm) (h : Here) → FormGoes task args roots h (var_form n (Some t) None)
  unset_goes n t h m r e w wr u st = by t (valued (variable_type h.tree h.scope (Some t) None) (var_type h.tree h.scope (Some t) None) _ refl known.0 known.1.known) named
    where
      known : (bound_type h.tree h.scope (Some t) None ≡ var_type h.tree h.scope (Some t) None) × IsKnown h.scope (var_type h.tree h.scope (Some t) None)
      known = let k = variable_known h.tree task h.scope r.sound r.scope n (Some t) None e in (k.0, k.1)

      named : unbound_name_in_type h.tree h.scope.names t ≡ false
      named =
          let told = (option_or_parts (first_in_type h.tree h.scope.names t) None (parts_of_form h.tree task h.scope r.sound r.scope (var_form n (Some t) None) e).0).0 in
          rule_none (unbound_name_in_type h.tree h.scope.names t) rule.Name (option_or_parts (rule_if (unbound_name_in_type h.tree h.scope.names t) rule.Name) _ told).0

      by : (q : TypeTerm) → is_collection (var_type h.tree h.scope (Some q) None) ≡ false → unbound_name_in_type h.tree h.scope.names q ≡ false →
          GoesOnSound (inst h) m h.scope.next (scope_after h.tree h.scope (var_form n (Some q) None)) (exec h (var_form n (Some q) None) u)
      by (typed_as.Number number.Int32) c named = zero_goes h m n (typed_as.Number number.Int32) r _ u st refl is_number (refl, refl)
      by (typed_as.Number number.Int64) c named = zero_goes h m n (typed_as.Number number.Int64) r _ u st refl is_number (refl, refl)
      by (typed_as.Number (number.Index k)) c named = zero_goes h m n (typed_as.Number (number.Index k)) r _ u st refl is_index (refl, refl)
      by typed_as.Truth c named = zero_goes h m n typed_as.Truth r _ u st refl is_truth (refl, refl)
      by (typed_as.Pointer p) c named =
          let are = pointer_args h.scope r.scope h.tree p named in
          let terms = map (looked_up (in_scope h.scope)) p.regions in
          let v : Value = a_pointer null_target (regions_reached h.scope u.names terms) in
          let is : IsOfType m (written_pointer h.tree (in_scope h.scope) p) v = is_pointer (reached m h.scope u.names r.static.well_scoped st.names terms are.1) in
          zero_goes h m n (typed_as.Pointer p) r v u st refl
          (is_of_too h.scope.next m (put h.scope.next v m) (put_agrees h.scope.next v m) (written_pointer h.tree (in_scope h.scope) p) v (args_below h.scope r.scope terms are.1) is) (refl, refl)
      by (typed_as.Ispace k) c named = absurd (contrary c)
      by (typed_as.Region k s) c named = absurd (contrary c)
      by (typed_as.Partition d q s) c named = absurd (contrary c)
