-- Assignments to fields of what fields go to, of which no breach is told.
use Rattle.std.proofs.Common.{◌≡◌, ◌⊎◌, inl, ⊎_elim, [], ◌∷◌, ◌++◌, None, false, true, refl, ap, subst, sym, ◌∙◌, ℕ, not, ◌&&◌, inr}
use Rattle.std.specs.Prelude.{cond}
use Rattle.std.specs.Option.{option_or}
use Rattle.std.proofs.lemmas.Bool.{and_from, and_parts, not-false, or_parts}
use Rattle.plain_values.proofs.Plain.{option_or_parts}
use Rattle.lane_kernels.specs.declared.numbers.Op.{Op}
use Rattle.regent_tree.specs.Accesses.{space_in}
use Rattle.regent_tree.specs.Execution.{before_last, last_field}
use Rattle.regent_tree.specs.Limits.{node, parts_of_expression, parts_of_form, parts_of_steps}
use Rattle.regent_tree.specs.Lookup.{is_bound, type_named}
use Rattle.regent_tree.specs.Scopes.{Scope}
use Rattle.regent_tree.specs.Syntax.{Expression, Name, Steps, TaskTree, Tree, access_expr, assign_form, at_step, field_step, no_step}
use Rattle.regent_tree.specs.Typing.{has_wild, reaches_of, result_type, type_of, type_of_element, type_of_field}
use Rattle.regent_tree.specs.declared.rights.Access.{Access}
use Rattle.regent_tree.specs.declared.rights.Access.TheVariants as access
use Rattle.regent_tree.specs.declared.statement.How.{How}
use Rattle.regent_tree.specs.declared.statement.How.TheVariants as how
use Rattle.regent_tree.specs.declared.types.TypeTerm.{TypeTerm}
use Rattle.regent_tree.specs.declared.typing.StaticType.{StaticType}
use Rattle.regent_tree.specs.declared.typing.StaticType.TheVariants.{Unknown as unknown_type, Region as region_type}
use Rattle.check_laws.proofs.Blocks.{head_known}
use Rattle.check_laws.proofs.Variables.{target_of_form, parts_of_form as told_of_form}
use Rattle.check_laws.specs.SoundScopes.{IsSoundScope}
use Rattle.check_rules.specs.first.FirstInExpressions.{first_in_expression, first_in_steps, first_in_target, first_in_target_steps, first_of_step, first_of_taking}
use Rattle.check_rules.specs.first.FirstInStatements.{first_of_form}
use Rattle.check_rules.specs.first.Rules.{rule_if}
use Rattle.check_rules.specs.rules.Privileges.{lacks, wanted_of_last, wanted_of_step}
use Rattle.check_rules.specs.rules.Standing.{integer_spot, stands, typed_spot}
use Rattle.check_rules.specs.rules.Statements.{spot_of_target}
use Rattle.check_rules.specs.rules.Targets.{is_no_target, mistargets}
use Rattle.check_rules.specs.rules.Types.{may_stand}
use Rattle.check_rules.specs.scopes.Sound.{IsSound, IsSoundTask}
use Rattle.check_rules.specs.types.KnownTypes.{known_type, known_type_after_step, known_type_after_steps, takings}
use Rattle.check_rules.specs.types.Sorts.{is_integer, may_be}
use Rattle.check_rules.specs.types.TypedForms.{element_of, field_of}
use Rattle.check_rules.specs.declared.rule.Rule.TheVariants as rule
use Rattle.code_rules.specs.Slots.{Where, typed}
use Rattle.code_laws.specs.WrittenForms.{are_written_steps, is_written_expression, is_written_form}
use Rattle.code_laws.specs.Handing.{forms_by}
use Rattle.code_laws.specs.Pointers.{AreNames, AreThere, Assigned}
use Rattle.code_laws.specs.Steps.{Forms}
use Rattle.code_laws.specs.Typed.{are_fields, AreReachable, IsPartElement, IsPointing, IsReducedThrough, IsSetThrough, IsThrough, IsTyped, IsTypedForm}
use Rattle.code_laws.proofs.FurtherWrites.{last_type}
use Rattle.code_laws.proofs.KnownGoals.{aimed_reach}
use Rattle.code_laws.proofs.KnownHeads.{IsReady}
use Rattle.code_laws.proofs.LocalElements.{points_by_form}
use Rattle.code_laws.proofs.LocalFronts.{fields_behind}
use Rattle.code_laws.proofs.LocalPrefixes.{kept_front, kept_together, kept_with}
use Rattle.code_laws.proofs.LocalFields.{IsHeld, held_assigned, held_integer, held_keeps, collected_held}
use Rattle.code_laws.proofs.LocalGoals.{among_there, goals_among}
use Rattle.code_laws.proofs.LocalNames.{IsLocalTree}
use Rattle.code_laws.proofs.LocalPlaces.{aimed_value, taking_told}
use Rattle.code_laws.proofs.LocalSpaced.{expression_spaced}
use Rattle.code_laws.proofs.Privileges.{mode_in}
use Rattle.code_laws.proofs.TypedStatements.{first_stands, told_later, told_privileges}
use Rattle.code_laws.proofs.Typing.{AreKept, kept_behind, kept_left, kept_right, no_way_back, no_way}
use Rattle.code_laws.proofs.Wider.{assigned}
use Rattle.check_rules.specs.types.Declarations.{is_no_result_type}
use Rattle.code_laws.proofs.LocalVariables.{headed, integer_head, stands_as, valued}
use Rattle.code_laws.proofs.LocalArguments.{IsArgument}
use Rattle.code_laws.proofs.LocalPoints.{IsWell}
use Rattle.code_laws.proofs.LocalParts.{is_pointing}
use Rattle.code_laws.specs.Simple.{IsInteger, IsRegion, a_region_type}

-- ---- the fields before the last one

pub fields_before : (rest : Steps) (g : Name) → are_fields rest ≡ true → are_fields (before_last (field_step g rest)) ≡ true
fields_before no_step g lo = refl
fields_before (field_step f rest) g lo = fields_before rest f lo
fields_before (at_step e rest) g lo = absurd (no_way_back lo)

-- they are local
pub fields_local : (steps : Steps) → are_fields steps ≡ true → are_written_steps steps ≡ true
fields_local no_step lo = refl
fields_local (field_step f rest) lo = fields_local rest lo
fields_local (at_step e rest) lo = absurd (no_way_back lo)

-- what they give goes to regions in scope
abbrev pub IsAccessed : Where → Expression → Type 0
IsAccessed w e = IsPointing w e ⊎ IsPartElement e

front_reachable : (w : Where) (n f g : Name) (rest : Steps) → are_fields rest ≡ true →
    IsAccessed w (access_expr n (before_last (field_step f (field_step g rest)))) →
    AreReachable w (typed w (access_expr n (before_last (field_step f (field_step g rest)))))
front_reachable w n f g no_step lo (inl p) = p
front_reachable w n f g (field_step k rest) lo (inl p) = p
front_reachable w n f g (at_step e rest) lo p = absurd (no_way_back lo)
front_reachable w n f g rest lo (inr p) = absurd p

element_reachable : (w : Where) (n : Name) (i : Expression) (f g : Name) (rest : Steps) → are_fields rest ≡ true →
    IsAccessed w (access_expr n (before_last (at_step i (field_step f (field_step g rest))))) →
    AreReachable w (typed w (access_expr n (before_last (at_step i (field_step f (field_step g rest))))))
element_reachable w n i f g no_step lo (inl p) = p
element_reachable w n i f g (field_step k rest) lo (inl p) = p
element_reachable w n i f g (at_step e rest) lo p = absurd (no_way_back lo)
element_reachable w n i f g rest lo (inr p) = absurd p

abbrev pub IsNoName : Expression → Type 0
IsNoName (access_expr n no_step) = ⊥
IsNoName e = Unit {0}

-- their parts
pub front_kept : (rest : Steps) (g : Name) → are_fields rest ≡ true → AreKept (parts_of_steps (field_step g rest)) →
    AreKept (parts_of_steps (before_last (field_step g rest)))
front_kept no_step g lo k = kept_behind node [] k
front_kept (field_step f rest) g lo k =
    λ q h. ⊎_elim (λ same. k q (inl same)) (λ more. front_kept rest f lo (kept_behind node (parts_of_steps (field_step f rest)) k) q more) h
front_kept (at_step e rest) g lo k = absurd (no_way_back lo)

module _ (tree : Tree) (task : TaskTree) (s : Scope) where
  -- what is told of a target is told of the access to what its last field is one of
  pub front_told : (rest : Steps) (t : StaticType) (g : Name) → are_fields rest ≡ true → first_in_target_steps tree task s t (field_step g rest) ≡ None →
      (first_in_steps tree task s t (before_last (field_step g rest)) ≡ None)
      × (first_of_taking tree (field_of (known_type_after_steps tree s t (before_last (field_step g rest))) (last_field (field_step g rest))) ≡ None)
  front_told no_step t g lo told = (refl, told)
  front_told (field_step f rest) t g lo told =
      let p = option_or_parts (first_of_step tree task s (field_of t g)) _ told in
      let next = known_type_after_step tree (field_of t g) (type_of_field tree t g) in
      let r = front_told rest next f lo p.1 in
      (ap (λ o. option_or o (first_in_steps tree task s next (before_last (field_step f rest)))) p.0 ∙ r.0, r.1)
  front_told (at_step e rest) t g lo told = absurd (no_way_back lo)

  -- the type of the whole, and what is wanted of it
  pub last_known : (rest : Steps) (t : StaticType) (g : Name) → are_fields rest ≡ true → known_type_after_steps tree s t (field_step g rest)
      ≡ known_type_after_step tree (field_of (known_type_after_steps tree s t (before_last (field_step g rest))) (last_field (field_step g rest)))
      (type_of_field tree (known_type_after_steps tree s t (before_last (field_step g rest))) (last_field (field_step g rest)))
  last_known no_step t g lo = refl
  last_known (field_step f rest) t g lo = last_known rest (known_type_after_step tree (field_of t g) (type_of_field tree t g)) f lo
  last_known (at_step e rest) t g lo = absurd (no_way_back lo)

  pub last_wanted : (a : Access) (rest : Steps) (t : StaticType) (g : Name) → are_fields rest ≡ true → wanted_of_last tree a (takings tree s t (field_step g rest))
      ≡ wanted_of_step tree a (field_of (known_type_after_steps tree s t (before_last (field_step g rest))) (last_field (field_step g rest)))
  last_wanted a no_step t g lo = refl
  last_wanted a (field_step f rest) t g lo = last_wanted a rest (known_type_after_step tree (field_of t g) (type_of_field tree t g)) f lo
  last_wanted a (at_step e rest) t g lo = absurd (no_way_back lo)

module _ (tree : Tree) (task : TaskTree) (sound : IsSound tree) (sound_task : IsSoundTask tree task)
    (local : IsLocalTree tree) (params : ℕ) (result : is_no_result_type task.result ≡ false) where
  abbrev forms : Forms
  forms = forms_by true true tree task

  abbrev Ready : Scope → Type 0
  Ready s = IsReady tree task s

  abbrev here : Scope → ℕ → Where
  here s line = record { tree = tree; scope = s; result = result_type tree task.result; params = params; line = line }

  abbrev front : Name → Steps → Expression
  front n steps = access_expr n (before_last steps)

  no_field_of_region : (t : StaticType) (f : Name) → IsRegion t → first_of_taking tree (field_of t f) ≡ None → ⊥
  no_field_of_region _ f (a_region_type k sp args r) e = no_way (taking_told tree (field_of (region_type k sp args r) f) e).1

  -- a target whose last field is one of what the access before it goes to
  pub record IsTarget (s : Scope) (line : ℕ) (n : Name) (steps rest : Steps) : Type 0 where
    keeps : true ≡ true
    term : TypeTerm
    held : IsHeld true term (type_of tree s (access_expr n steps))
    known : known_type tree s (access_expr n steps) ≡ type_of tree s (access_expr n steps)
    may : (a : Access) → lacks tree task s (wanted_of_last tree a (takings tree s (type_named s.names n) steps)) ≡ false →
        IsThrough forms (here s line) n steps rest (mode_in a)

  -- no field is taken of a region, and the access before the last field is no name
  front_well : (s : Scope) (line : ℕ) (y : Expression) (l : Name) → IsNoName y → (scope : IsSoundScope s) (ready : Ready s) →
      first_of_taking tree (field_of (type_of tree s y) l) ≡ None →
      IsArgument task (here s line) sound sound_task local scope ready.names ready.head y →
      IsWell task (here s line) sound sound_task local scope ready.names ready.head y
  front_well s line y l other scope ready told (inl a) = a
  front_well s line y l other scope ready told (inr (inl r)) = absurd (subst IsNoName r.is other)
  front_well s line y l other scope ready told (inr (inr (inl p))) =
      absurd (no_field_of_region (type_of tree s y) l (subst (λ y. IsRegion (type_of tree s y)) (sym p.is) p.region) told)
  front_well s line y l other scope ready told (inr (inr (inr c))) = absurd (subst IsNoName c.is other)

  pub target_is : (s : Scope) (line : ℕ) (n : Name) (steps rest : Steps) → are_fields rest ≡ true → is_written_expression (front n steps) ≡ true →
      IsNoName (front n steps) → is_pointing (front n steps) ≡ true → (IsAccessed (here s line) (front n steps) → AreReachable (here s line) (typed (here s line) (front n steps))) →
      AreKept (parts_of_expression (front n steps)) → IsSoundScope s → Ready s → first_in_expression tree task s (front n steps) ≡ None →
      first_of_taking tree (field_of (known_type tree s (front n steps)) (last_field steps)) ≡ None →
      known_type tree s (access_expr n steps) ≡ known_type_after_step tree (field_of (known_type tree s (front n steps)) (last_field steps))
      (type_of_field tree (known_type tree s (front n steps)) (last_field steps)) →
      type_of tree s (access_expr n steps) ≡ type_of_field tree (type_of tree s (front n steps)) (last_field steps) →
      ((a : Access) → wanted_of_last tree a (takings tree s (type_named s.names n) steps)
      ≡ wanted_of_step tree a (field_of (known_type tree s (front n steps)) (last_field steps))) → IsTarget s line n steps rest
  target_is s line n steps rest fields lo other points reach k scope names none taking whole same wants =
      let w = here s line in
      let t = type_of tree s (front n steps) in
      let l = last_field steps in
      let alike = (head_known tree task sound s scope (front n steps) none).1 in
      let told = subst (λ u. first_of_taking tree (field_of u l) ≡ None) alike taking in
      let a = front_well s line (front n steps) l other scope names told
      (headed tree task sound sound_task local params result s line (front n steps) lo k scope names none) in
      let spaced = expression_spaced tree task sound sound_task local.declared s (front n steps) scope names.head k none in
      let p = aimed_value tree sound local s.names names.names 0 t l spaced a.value told in
      let there : AreNames (reaches_of t) → AreThere s.names (space_in t) (reaches_of t) =
      λ n. subst (AreThere s.names (space_in t)) (sym (ap reaches_of p.is)) (among_there s.next s.names (space_in t) p.reaches scope.numbers
      (goals_among s.names (space_in t) p.reaches (subst AreNames (ap reaches_of p.is) n) p.among)) in record {
        keeps = p.keeps;
        term = _;
        held = subst (IsHeld true _) (sym same) p.held;
        known = whole ∙ ap (λ u. known_type_after_step tree (field_of u l) (type_of_field tree u l)) alike ∙ p.known ∙ sym same;
        may = λ b lacking. (
          fields,
          a.is,
          record {
            pointer = p.pointer;
            reachable = reach (points_by_form forms w (front n steps) scope.numbers there a.is points);
            certain = ap (λ u. has_wild (reaches_of u)) p.is ∙ p.certain;
            field = p.field;
            keeps = held_keeps true _ _ p.held;
            may = aimed_reach task w sound_task names.head scope.numbers t l b p
                (subst (λ u. lacks tree task s (wanted_of_step tree b (field_of u l)) ≡ false) alike
                (subst (λ ws. lacks tree task s ws ≡ false) (wants b) lacking));
          },
        );
      }

  -- what is assigned to a target whose type is known
  pub assigned_local : (s : Scope) (line : ℕ) (n : Name) (steps : Steps) (y : Expression) → is_written_expression y ≡ true → AreKept (parts_of_expression y) →
      IsSoundScope s → Ready s → first_of_form tree task s (assign_form n steps how.Set y) ≡ None → (d : TypeTerm) → IsHeld true d (type_of tree s (access_expr n steps)) →
      known_type tree s (access_expr n steps) ≡ type_of tree s (access_expr n steps) →
      Assigned (type_of tree s y) (type_of tree s (access_expr n steps)) × IsTyped forms (here s line) y
  assigned_local s line n steps y lo k scope names none d held known =
      let form = assign_form n steps how.Set y in
      let parts = told_of_form tree task s sound scope form none in
      let told = (option_or_parts (first_in_expression tree task s y) _ parts.2).0 in
      let out = type_of tree s (access_expr n steps) in
      let u = known_type tree s (access_expr n steps) in
      let spot = ap (λ b. typed_spot (cond b unknown_type u)) (told_later tree task s form none).0 ∙ ap typed_spot known in
      let fit = stands_as tree task sound sound_task local params result s y (typed_spot out) scope told (subst (λ p. may_stand s.known (stands (known_type tree s y) p) ≡ true) spot
      (first_stands s.known (stands (known_type tree s y) (spot_of_target (mistargets task s.names n steps how.Set u) how.Set u)) [] parts.4).0) in
      let a = valued tree task sound sound_task local params result s line y lo k scope names told
      (λ c. collected_held true s.known (type_of tree s y) d out c held fit) in
      (assigned true (type_of tree s y) out (held_assigned true s.names s.known (type_of tree s y) d out a.value held fit), a.is)

  -- and what reduces it
  pub reducing_local : (s : Scope) (line : ℕ) (n : Name) (steps : Steps) (o : Op) (y : Expression) → is_written_expression y ≡ true → AreKept (parts_of_expression y) →
      IsSoundScope s → Ready s → first_of_form tree task s (assign_form n steps (how.Reduce o) y) ≡ None → (d : TypeTerm) →
      IsHeld true d (type_of tree s (access_expr n steps)) → known_type tree s (access_expr n steps) ≡ type_of tree s (access_expr n steps) →
      IsInteger (type_of tree s y) × IsInteger (type_of tree s (access_expr n steps)) × IsTyped forms (here s line) y
  reducing_local s line n steps o y lo k scope names none d held known =
      let form = assign_form n steps (how.Reduce o) y in
      let parts = told_of_form tree task s sound scope form none in
      let told = (option_or_parts (first_in_expression tree task s y) _ parts.2).0 in
      let u = known_type tree s (access_expr n steps) in
      let whole = subst (λ v. may_be is_integer v ≡ true) known
      (not-false (may_be is_integer u) (or_parts (is_no_target task s.names n steps u) (not (may_be is_integer u)) (told_later tree task s form none).0).1) in
      let a = integer_head tree task sound sound_task local params result s line y lo k scope names told (first_stands s.known (stands (known_type tree s y) integer_spot) [] parts.4).0 in
      (a.0, held_integer true d (type_of tree s (access_expr n steps)) held whole, a.1)

  pub set_local : (s : Scope) (line : ℕ) (n : Name) (steps rest : Steps) (y : Expression) → is_written_expression y ≡ true → AreKept (parts_of_expression y) →
      IsSoundScope s → Ready s → first_of_form tree task s (assign_form n steps how.Set y) ≡ None → IsTarget s line n steps rest →
      IsSetThrough forms (here s line) n steps rest y
  set_local s line n steps rest y lo k scope names none target =
      let a = assigned_local s line n steps y lo k scope names none target.term target.held target.known in
      (target.keeps, a.0, a.1, target.may access.Write (told_privileges tree task s (assign_form n steps how.Set y) none).0)

  pub reduce_local : (s : Scope) (line : ℕ) (n : Name) (steps rest : Steps) (o : Op) (y : Expression) → is_written_expression y ≡ true → AreKept (parts_of_expression y) →
      IsSoundScope s → Ready s → first_of_form tree task s (assign_form n steps (how.Reduce o) y) ≡ None → IsTarget s line n steps rest →
      IsReducedThrough forms (here s line) n steps rest o y
  reduce_local s line n steps rest o y lo k scope names none target =
      let a = reducing_local s line n steps o y lo k scope names none target.term target.held target.known in
      (target.keeps, a.0, a.1, a.2, target.may (access.Reduce o) (told_privileges tree task s (assign_form n steps (how.Reduce o) y) none).1)

  -- ---- `p.f.g = y`, and of such of elements

  behind_target : (s : Scope) (line : ℕ) (n f g : Name) (rest : Steps) → are_fields rest ≡ true →
      AreKept (parts_of_steps (field_step f (field_step g rest))) → IsSoundScope s → Ready s →
      first_in_target tree task s n (field_step f (field_step g rest)) ≡ None → IsTarget s line n (field_step f (field_step g rest)) rest
  behind_target s line n f g rest lo k scope names none =
      let t = type_named s.names n in
      let told = option_or_parts (rule_if (not (is_bound s.names n)) rule.Name) (first_in_target_steps tree task s t (field_step f (field_step g rest))) none in
      let r = front_told tree task s (field_step g rest) t f lo told.1 in
      target_is s line n (field_step f (field_step g rest)) rest lo (fields_local (before_last (field_step g rest)) (fields_before rest g lo)) tt refl
      (front_reachable (here s line) n f g rest lo)
      (λ q h. ⊎_elim (λ same. k q (inl same)) (λ more. front_kept (field_step g rest) f lo k q more) h) scope names
      (ap (λ o. option_or o (first_in_steps tree task s t (before_last (field_step f (field_step g rest))))) told.0 ∙ r.0) r.1
      (last_known tree task s (field_step g rest) t f lo) (last_type tree s (field_step g rest) t f lo)
      (λ a. last_wanted tree task s a (field_step g rest) t f lo)

  element_target : (s : Scope) (line : ℕ) (n : Name) (i : Expression) (f g : Name) (rest : Steps) → is_written_expression i ≡ true → are_fields rest ≡ true →
      AreKept (parts_of_steps (at_step i (field_step f (field_step g rest)))) → IsSoundScope s → Ready s →
      first_in_target tree task s n (at_step i (field_step f (field_step g rest))) ≡ None →
      IsTarget s line n (at_step i (field_step f (field_step g rest))) rest
  element_target s line n i f g rest lo_i lo k scope names none =
      let fields = field_step f (field_step g rest) in
      let t = type_named s.names n in
      let taking = element_of t (known_type tree s i) in
      let next = known_type_after_step tree taking (type_of_element s t i) in
      let told = option_or_parts (rule_if (not (is_bound s.names n)) rule.Name) (first_in_target_steps tree task s t (at_step i fields)) none in
      let index = option_or_parts (first_in_expression tree task s i)
      (option_or (first_of_step tree task s taking) (first_in_target_steps tree task s next fields)) told.1 in
      let step = option_or_parts (first_of_step tree task s taking) (first_in_target_steps tree task s next fields) index.1 in
      let r = front_told tree task s (field_step g rest) next f lo step.1 in
      let more = kept_behind node (parts_of_expression i ++ parts_of_steps fields) k in
      let parts = kept_together (parts_of_expression i) (parts_of_steps (before_last fields)) (kept_left (parts_of_expression i) (parts_of_steps fields) more)
      (front_kept (field_step g rest) f lo (kept_right (parts_of_expression i) (parts_of_steps fields) more)) in
      let own : AreKept (node ∷ (parts_of_expression i ++ parts_of_steps (before_last fields))) =
      λ q h. ⊎_elim (λ same. k q (inl same)) (λ other. parts q other) h in
      target_is s line n (at_step i fields) rest lo (and_from (is_written_expression i) (are_written_steps (before_last (field_step g rest))) lo_i (fields_local (before_last (field_step g rest)) (fields_before rest g lo))) tt refl
      (element_reachable (here s line) n i f g rest lo) (λ q h. ⊎_elim (λ same. k q (inl same)) (λ other. own q other) h) scope names
      (ap (λ o. option_or o (first_in_steps tree task s t (before_last (at_step i fields)))) told.0
      ∙ ap (λ o. option_or o (option_or (first_of_step tree task s taking) (first_in_steps tree task s next (before_last fields)))) index.0
      ∙ ap (λ o. option_or o (first_in_steps tree task s next (before_last fields))) step.0 ∙ r.0) r.1
      (last_known tree task s (field_step g rest) next f lo) (last_type tree s (field_step g rest) (type_of_element s t i) f lo)
      (λ a. last_wanted tree task s a (field_step g rest) next f lo)

  pub behind_local : (s : Scope) (line : ℕ) (n f g : Name) (rest : Steps) (h : How) (y : Expression) →
      is_written_form (assign_form n (field_step f (field_step g rest)) h y) ≡ true → AreKept (parts_of_form (assign_form n (field_step f (field_step g rest)) h y)) →
      IsSoundScope s → Ready s → first_of_form tree task s (assign_form n (field_step f (field_step g rest)) h y) ≡ None →
      IsTypedForm forms (here s line) (assign_form n (field_step f (field_step g rest)) h y)
  behind_local s line n f g rest h y lo k scope names none =
      let steps = field_step f (field_step g rest) in
      let both = and_parts (are_written_steps rest) (is_written_expression y) lo in
      let parts = kept_left (parts_of_steps steps) (parts_of_expression y) k in
      let told = target_of_form tree task s sound scope (assign_form n steps h y) none in
      let fields = fields_behind tree task sound sound_task local params result s line n no_step (field_step g rest) f refl
      (kept_with node (parts_of_steps (field_step g rest)) [] parts (λ q h. absurd h)) tt scope names told in
      let target = behind_target s line n f g rest fields parts scope names told in
      by h target both.1 (kept_right (parts_of_steps steps) (parts_of_expression y) k) none
    where
      by : (h : How) → IsTarget s line n (field_step f (field_step g rest)) rest → is_written_expression y ≡ true → AreKept (parts_of_expression y) →
          first_of_form tree task s (assign_form n (field_step f (field_step g rest)) h y) ≡ None →
          IsTypedForm forms (here s line) (assign_form n (field_step f (field_step g rest)) h y)
      by how.Set target lo k none = set_local s line n (field_step f (field_step g rest)) rest y lo k scope names none target
      by (how.Reduce o) target lo k none = reduce_local s line n (field_step f (field_step g rest)) rest o y lo k scope names none target

  pub element_local : (s : Scope) (line : ℕ) (n : Name) (i : Expression) (f g : Name) (rest : Steps) (h : How) (y : Expression) →
      is_written_form (assign_form n (at_step i (field_step f (field_step g rest))) h y) ≡ true →
      AreKept (parts_of_form (assign_form n (at_step i (field_step f (field_step g rest))) h y)) →
      IsSoundScope s → Ready s → first_of_form tree task s (assign_form n (at_step i (field_step f (field_step g rest))) h y) ≡ None →
      IsTypedForm forms (here s line) (assign_form n (at_step i (field_step f (field_step g rest))) h y)
  element_local s line n i f g rest h y lo k scope names none =
      let steps = at_step i (field_step f (field_step g rest)) in
      let both = and_parts (is_written_expression i && are_written_steps rest) (is_written_expression y) lo in
      let own = and_parts (is_written_expression i) (are_written_steps rest) both.0 in
      let parts = kept_left (parts_of_steps steps) (parts_of_expression y) k in
      let told = target_of_form tree task s sound scope (assign_form n steps h y) none in
      let pre = at_step i no_step in
      let fields = fields_behind tree task sound sound_task local params result s line n pre (field_step g rest) f (and_from (is_written_expression i) true own.0 refl)
      (kept_front n i no_step (field_step f (field_step g rest)) parts) tt scope names told in
      let target = element_target s line n i f g rest own.0 fields parts scope names told in
      by h target both.1 (kept_right (parts_of_steps steps) (parts_of_expression y) k) none
    where
      by : (h : How) → IsTarget s line n (at_step i (field_step f (field_step g rest))) rest → is_written_expression y ≡ true → AreKept (parts_of_expression y) →
          first_of_form tree task s (assign_form n (at_step i (field_step f (field_step g rest))) h y) ≡ None →
          IsTypedForm forms (here s line) (assign_form n (at_step i (field_step f (field_step g rest))) h y)
      by how.Set target lo k none = set_local s line n (at_step i (field_step f (field_step g rest))) rest y lo k scope names none target
      by (how.Reduce o) target lo k none = reduce_local s line n (at_step i (field_step f (field_step g rest))) rest o y lo k scope names none target
