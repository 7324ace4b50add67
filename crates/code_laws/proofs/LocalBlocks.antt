-- Bodies of which no breach is told are typed.
use Rattle.std.proofs.Common.{◌≡◌, inr, List, [], ◌∷◌, ◌++◌, None, Option, Some, false, true, refl, sym, subst, ℕ, ◌∙◌, ◌&&◌}
use Rattle.std.specs.List.{list_any}
use Rattle.std.proofs.lemmas.Bool.{and_from, and_parts, or_parts}
use Rattle.plain_values.proofs.Plain.{option_or_parts}
use Rattle.regent_tree.specs.Limits.{node, nodes, parts_of_arms, parts_of_block, parts_of_expression, parts_of_form, parts_of_otherwise, parts_of_steps, parts_of_type}
use Rattle.regent_tree.specs.Scopes.{Scope, known_of_type, past, with_name}
use Rattle.regent_tree.specs.Syntax.{Arms, Block, Expression, Form, Initializer, Name, Otherwise, Steps, TaskTree, Tree, a_statement, an_arm, assert_form, assign_form, at_step, both_initializer, by_field_initializer, call_form, do_form, either_initializer, else_block, equal_initializer, field_step, fill_form, for_in_form, for_to_form, if_form, image_initializer, no_arm, no_else, no_statement, no_step, plain_initializer, preimage_initializer, print_form, region_initializer, return_form, then_statement, var_form, while_form, access_expr}
use Rattle.regent_tree.specs.Typing.{arithmetic_type, scope_after, scope_after_arms, scope_after_block, scope_after_else, taken_from, type_of}
use Rattle.regent_tree.specs.declared.statement.How.TheVariants as how
use Rattle.regent_tree.specs.declared.types.TypeTerm.{TypeTerm}
use Rattle.check_laws.proofs.Blocks.{count_scope, loop_scope}
use Rattle.check_laws.proofs.Onward.{arm_next, block_next, else_next}
use Rattle.regent_tree.specs.declared.statement.How.{How}
use Rattle.code_rules.specs.Slots.{Where}
use Rattle.check_laws.proofs.Variables.{parts_of_form as told_of_form, target_of_form}
use Rattle.check_laws.specs.SoundScopes.{IsSoundScope}
use Rattle.check_rules.specs.first.FirstInExpressions.{first_in_expression}
use Rattle.check_rules.specs.first.FirstInStatements.{first_in_arms, first_in_block, first_in_else, first_of_form, first_within}
use Rattle.check_rules.specs.first.Rules.{first_in}
use Rattle.check_rules.specs.rules.Standing.{domain_spot, integer_spot, stands, truth_spot}
use Rattle.check_rules.specs.rules.Statements.{all_stand}
use Rattle.check_rules.specs.rules.Types.{is_ill_typed_at_place}
use Rattle.check_rules.specs.scopes.Sound.{IsSound, IsSoundTask}
use Rattle.check_rules.specs.types.KnownTypes.{known_type}
use Rattle.check_rules.specs.types.Parts.{tests_of}
use Rattle.code_laws.specs.WrittenForms.{are_written_arms, are_written_steps, is_written_block, is_written_else, is_written_expression, is_written_form}
use Rattle.statement_laws.specs.Steady.{ArePlaced}
use Rattle.value_laws.specs.Spaces.{AreSpaced}
use Rattle.code_laws.specs.Handing.{forms_by, told_in}
use Rattle.code_laws.proofs.Told.{ToldUpTo, arms_grow, block_grows, else_grows, told_before}
use Rattle.code_laws.specs.Steps.{Forms}
use Rattle.code_laws.specs.Typed.{AreTypedArms, IsTypedBlock, IsTypedElse, IsTypedForm, IsIndexed, IsTyped}
use Rattle.code_laws.proofs.KnownHeads.{IsReady, KnowsFacts}
use Rattle.code_laws.proofs.KnownPlaces.{head_looping, head_past}
use Rattle.code_laws.proofs.LocalFronts.{fields_behind}
use Rattle.code_laws.proofs.LocalPartTargets.{part_local}
use Rattle.code_laws.proofs.LocalPrefixes.{kept_front, kept_with}
use Rattle.code_laws.proofs.LocalTargets.{behind_local, element_local}
use Rattle.code_laws.proofs.LocalAssignments.{reduce_behind_local, reduce_field_local, reduce_local, set_behind_local, set_field_local, set_local}
use Rattle.code_laws.proofs.LocalDomains.{domain_local}
use Rattle.code_laws.proofs.LocalStatements.{call_local, fill_local, print_local, return_local}
use Rattle.code_laws.proofs.LocalDifferences.{begun_local, said_local}
use Rattle.code_laws.proofs.LocalCuts.{both_local, by_field_local, either_local, equal_local}
use Rattle.code_laws.proofs.LocalImages.{image_local, preimage_local}
use Rattle.code_laws.proofs.LocalSpaced.{head_after, head_in_count, head_in_loop}
use Rattle.code_laws.proofs.LocalSaid.{region_local, written_region_local}
use Rattle.code_laws.proofs.LocalVariables.{VarTyped, at, unset_local, integer_head, truth_head}
use Rattle.code_laws.proofs.Names.{Grown, arms_names, block_grown, else_names}
use Rattle.regent_tree.proofs.Members.{Has, Has-append_right}
use Rattle.regent_tree.specs.declared.typing.Bound.{Bound}
use Rattle.regent_tree.specs.declared.typing.StaticType.{StaticType}
use Rattle.regent_tree.specs.declared.typing.StaticType.TheVariants.{Index as index_type, Integer as integer_type, Ispace as ispace_type, Nothing as no_type, Partition as partition_type, Pointer as pointer_type, Region as region_type, Truth as truth_type, Unknown as unknown_type}
use Rattle.code_laws.specs.Simple.{IsScalar, scalar_integer, scalar_truth}
use Rattle.code_laws.proofs.TypedStatements.{first_stands, sum_scalar, told_later}
use Rattle.code_laws.proofs.Typing.{AreKept, kept_behind, kept_left, kept_right, no_way, no_way_back}
use Rattle.code_laws.proofs.LocalValues.{any_looped, value_simple}
use Rattle.check_rules.specs.types.Declarations.{is_no_result_type}
use Rattle.code_laws.proofs.LocalNames.{AllKept, IsLocalTree, kept_more, kept_value}
use Rattle.code_laws.proofs.Values.{scalar_simple}
use Rattle.check_rules.specs.rules.Targets.{is_no_target, is_no_integer}

-- names are among those that have grown of them
grown_has : {before after : List Bound} → Grown before after → (b : Bound) → Has before b → Has after b
grown_has {before = before} g b h = subst (λ bs. Has bs b) (sym g.are) (Has-append_right g.more before b h)

-- what a loop takes tells nothing
taken_told : (t : StaticType) → known_of_type (taken_from t) ≡ []
taken_told (region_type k sp args r) = refl
taken_told (ispace_type k) = refl
taken_told (integer_type w) = refl
taken_told truth_type = refl
taken_told (index_type k) = refl
taken_told (pointer_type k sp args rs) = refl
taken_told (partition_type d r p) = refl
taken_told no_type = refl
taken_told unknown_type = refl

scalar_told : (t : StaticType) → IsScalar t → known_of_type t ≡ []
scalar_told _ (scalar_integer w) = refl
scalar_told _ scalar_truth = refl

module _ (tree : Tree) (task : TaskTree) (sound : IsSound tree) (sound_task : IsSoundTask tree task)
    (local : IsLocalTree tree) (params : ℕ) (result : is_no_result_type task.result ≡ false) where
  abbrev forms : Forms
  forms = forms_by true true tree task

  abbrev Ready : Scope → Type 0
  Ready s = IsReady tree task s

  abbrev here : Scope → ℕ → Where
  here s line = at tree task sound sound_task local params result s line

  -- what is told up to a place is told in the body
  abbrev Told : Scope → Type 0
  Told s = ToldUpTo (told_in tree task) s

  -- a statement is typed, and the place behind it is ready for the next
  abbrev FormTyped : Scope → ℕ → Form → Type 0
  FormTyped s line form = IsTypedForm forms (here s line) form × Ready (scope_after tree s form)

  -- a block is typed, and what is known behind it
  abbrev BlockTyped : Scope → ℕ → Block → Type 0
  BlockTyped s line body = IsTypedBlock forms (here s line) body × KnowsFacts tree task (scope_after_block tree s body)

  -- what is told behind a block is told at its end
  inner_told : (s inner : Scope) → Told (past s inner) → Told inner
  inner_told s inner up = record { more = up.more; known = up.known; behind = up.behind }

  -- behind a block the names are those before it
  behind : (s inner : Scope) → Grown s.names inner.names → Ready s → KnowsFacts tree task inner → Told (past s inner) → Ready (past s inner)
  behind s inner grown ready facts up = record {
    names = ready.names;
    head = record { facts = head_past tree task s inner (grown_has grown) facts; spaced = ready.head.spaced; placed = ready.head.placed; told = up };
  }

  -- so behind the block of a loop, which began with one name more
  behind_loop : (s : Scope) (n : Name) (t : StaticType) (body : Block) → Ready s → KnowsFacts tree task (scope_after_block tree (with_name s n t true) body) →
      Told (past s (scope_after_block tree (with_name s n t true) body)) → Ready (past s (scope_after_block tree (with_name s n t true) body))
  behind_loop s n t body ready facts up = record {
    names = ready.names;
    head = record {
      facts = head_past tree task s (scope_after_block tree (with_name s n t true) body)
          (λ b h. grown_has (block_grown tree (with_name s n t true) body) b (inr h)) facts;
      spaced = ready.head.spaced;
      placed = ready.head.placed;
      told = up;
    };
  }

  -- behind a variable that is typed, and of which it is known what it stands for
  var_ready : (s : Scope) (line : ℕ) (n : Name) (t : Option TypeTerm) (i : Option Initializer) → AreKept (parts_of_form (var_form n t i)) → IsSoundScope s → Ready s →
      Told (scope_after tree s (var_form n t i)) → first_of_form tree task s (var_form n t i) ≡ None → VarTyped tree task sound sound_task local params result s line n t i →
      FormTyped s line (var_form n t i)
  var_ready s line n t i k scope names up e v =
      (v.0, record { names = kept_more true _ s.names v.1 names.names; head = head_after tree task sound sound_task local.declared s n t i scope names.head e k v.2 up })

  var_local : (s : Scope) (line : ℕ) (n : Name) (t : Option TypeTerm) (i : Option Initializer) → is_written_form (var_form n t i) ≡ true →
      AreKept (parts_of_form (var_form n t i)) → IsSoundScope s → Ready s → Told (scope_after tree s (var_form n t i)) → first_of_form tree task s (var_form n t i) ≡ None →
      FormTyped s line (var_form n t i)
  var_local s line n None (Some (plain_initializer y)) lo k scope names up e =
      let v = begun_local tree task sound sound_task local params result s line n y lo k scope names up e in
      var_ready s line n None (Some (plain_initializer y)) k scope names up e v
  var_local s line n (Some t) (Some (plain_initializer y)) lo k scope names up e =
      let v = said_local tree task sound sound_task local params result s line n t y lo k scope names up e in
      var_ready s line n (Some t) (Some (plain_initializer y)) k scope names up e v
  var_local s line n (Some t) None lo k scope names up e =
      let v = unset_local tree task sound sound_task local params result s line n t scope names e in var_ready s line n (Some t) None k scope names up e v
  var_local s line n None None lo k scope names up e = absurd (no_way (told_of_form tree task s sound scope (var_form n None None) e).1)
  var_local s line n None (Some (region_initializer y u)) lo k scope names up e =
      let v = region_local tree task sound sound_task local params result s line n y u lo k scope names up e in
      var_ready s line n None (Some (region_initializer y u)) k scope names up e v
  var_local s line n (Some t) (Some (region_initializer y u)) lo k scope names up e =
      let v = written_region_local tree task sound sound_task local params result s line n t y u lo
      (kept_right (parts_of_type (Some t)) (parts_of_expression y) k) scope names up e in
      var_ready s line n (Some t) (Some (region_initializer y u)) k scope names up e v
  var_local s line n None (Some (equal_initializer r y)) lo k scope names up e =
      let v = equal_local tree task sound sound_task local params result s line n None r y lo k scope names e in
      var_ready s line n None (Some (equal_initializer r y)) k scope names up e v
  var_local s line n (Some t) (Some (equal_initializer r y)) lo k scope names up e =
      let v = equal_local tree task sound sound_task local params result s line n (Some t) r y lo (kept_right (parts_of_type (Some t)) (parts_of_expression y) k) scope names e in
      var_ready s line n (Some t) (Some (equal_initializer r y)) k scope names up e v
  var_local s line n None (Some (by_field_initializer r f y)) lo k scope names up e =
      let v = by_field_local tree task sound sound_task local params result s line n None r f y lo k scope names e in
      var_ready s line n None (Some (by_field_initializer r f y)) k scope names up e v
  var_local s line n (Some t) (Some (by_field_initializer r f y)) lo k scope names up e =
      let v = by_field_local tree task sound sound_task local params result s line n (Some t) r f y lo (kept_right (parts_of_type (Some t)) (parts_of_expression y) k) scope names e in
      var_ready s line n (Some t) (Some (by_field_initializer r f y)) k scope names up e v
  var_local s line n None (Some (both_initializer p q)) lo k scope names up e =
      let v = both_local tree task sound sound_task local params result s line n None p q scope names e in
      var_ready s line n None (Some (both_initializer p q)) k scope names up e v
  var_local s line n (Some t) (Some (both_initializer p q)) lo k scope names up e =
      let v = both_local tree task sound sound_task local params result s line n (Some t) p q scope names e in
      var_ready s line n (Some t) (Some (both_initializer p q)) k scope names up e v
  var_local s line n None (Some (either_initializer p q)) lo k scope names up e =
      let v = either_local tree task sound sound_task local params result s line n None p q scope names e in
      var_ready s line n None (Some (either_initializer p q)) k scope names up e v
  var_local s line n (Some t) (Some (either_initializer p q)) lo k scope names up e =
      let v = either_local tree task sound sound_task local params result s line n (Some t) p q scope names e in
      var_ready s line n (Some t) (Some (either_initializer p q)) k scope names up e v
  var_local s line n None (Some (image_initializer r p q f)) lo k scope names up e =
      let v = image_local tree task sound sound_task local params result s line n None r p q f scope names e in
      var_ready s line n None (Some (image_initializer r p q f)) k scope names up e v
  var_local s line n (Some t) (Some (image_initializer r p q f)) lo k scope names up e =
      let v = image_local tree task sound sound_task local params result s line n (Some t) r p q f scope names e in
      var_ready s line n (Some t) (Some (image_initializer r p q f)) k scope names up e v
  var_local s line n None (Some (preimage_initializer r p q f)) lo k scope names up e =
      let v = preimage_local tree task sound sound_task local params result s line n None r p q f scope names e in
      var_ready s line n None (Some (preimage_initializer r p q f)) k scope names up e v
  var_local s line n (Some t) (Some (preimage_initializer r p q f)) lo k scope names up e =
      let v = preimage_local tree task sound sound_task local params result s line n (Some t) r p q f scope names e in
      var_ready s line n (Some t) (Some (preimage_initializer r p q f)) k scope names up e v

  -- the parts of a step to a field of an element
  kept_element : (e : Expression) (f : Name) (y : Expression) → AreKept (parts_of_form (assign_form f (at_step e (field_step f no_step)) how.Set y)) →
      AreKept (parts_of_expression e) × AreKept (parts_of_expression y)
  kept_element e f y k =
      let steps = node ∷ (parts_of_expression e ++ (node ∷ [])) in (
        kept_left (parts_of_expression e) (node ∷ []) (kept_behind node (parts_of_expression e ++ (node ∷ [])) (kept_left steps (parts_of_expression y) k)),
        kept_right steps (parts_of_expression y) k,
      )

  kept_behind_field : (f : Name) (y : Expression) → AreKept (parts_of_form (assign_form f (field_step f no_step) how.Set y)) → AreKept (parts_of_expression y)
  kept_behind_field f y k = kept_right (node ∷ []) (parts_of_expression y) k

  -- no element is assigned
  no_element_set : (s : Scope) (n : Name) (steps : Steps) (h : How) (y : Expression) →
      is_no_target task s.names n steps (known_type tree s (access_expr n steps)) ≡ true → first_of_form tree task s (assign_form n steps h y) ≡ None → ⊥
  no_element_set s n steps h y ends e = no_way (sym ends ∙ (or_parts (is_no_target task s.names n steps (known_type tree s (access_expr n steps)))
      (is_no_integer h (known_type tree s (access_expr n steps))) (told_later tree task s (assign_form n steps h y) e).0).0)

  assign_local : (s : Scope) (line : ℕ) (n : Name) (steps : Steps) (h : How) (y : Expression) → is_written_form (assign_form n steps h y) ≡ true →
      AreKept (parts_of_form (assign_form n steps h y)) → IsSoundScope s → Ready s → first_of_form tree task s (assign_form n steps h y) ≡ None →
      IsTypedForm forms (here s line) (assign_form n steps h y)
  assign_local s line n no_step how.Set y lo k scope names e = set_local tree task sound sound_task local params result s line n y lo k scope names e
  assign_local s line n no_step (how.Reduce o) y lo k scope names e = reduce_local tree task sound sound_task local params result s line n o y lo k scope names e
  assign_local s line n (at_step x (field_step f no_step)) how.Set y lo k scope names e =
      let both = and_parts (is_written_expression x && true) (is_written_expression y) lo in
      let ks = kept_element x f y k in
      set_field_local tree task sound sound_task local params result s line n x f y (and_parts (is_written_expression x) true both.0).0 both.1 ks.0 ks.1 scope names e
  assign_local s line n (at_step x (field_step f no_step)) (how.Reduce o) y lo k scope names e =
      let both = and_parts (is_written_expression x && true) (is_written_expression y) lo in
      let ks = kept_element x f y k in
      reduce_field_local tree task sound sound_task local params result s line n x f o y (and_parts (is_written_expression x) true both.0).0 both.1 ks.0 ks.1 scope names e
  assign_local s line n (field_step f no_step) how.Set y lo k scope names e =
      set_behind_local tree task sound sound_task local params result s line n f y lo (kept_behind_field f y k) scope names e
  assign_local s line n (field_step f no_step) (how.Reduce o) y lo k scope names e =
      reduce_behind_local tree task sound sound_task local params result s line n f o y lo (kept_behind_field f y k) scope names e
  assign_local s line n (field_step f (field_step g rest)) h y lo k scope names e =
      behind_local tree task sound sound_task local params result s line n f g rest h y lo k scope names e
  assign_local s line n (field_step f (at_step d rest)) h y lo k scope names e =
      let steps = field_step f (at_step d rest) in
      absurd (no_way_back (fields_behind tree task sound sound_task local params result s line n no_step (at_step d rest) f refl
      (kept_with node (parts_of_steps (at_step d rest)) [] (kept_left (parts_of_steps steps) (parts_of_expression y) k) (λ q h. absurd h)) tt scope names
      (target_of_form tree task s sound scope (assign_form n steps h y) e)))
  assign_local s line n (at_step x no_step) h y lo k scope names e = absurd (no_element_set s n (at_step x no_step) h y refl e)
  assign_local s line n (at_step x (at_step d no_step)) h y lo k scope names e = absurd (no_element_set s n (at_step x (at_step d no_step)) h y refl e)
  assign_local s line n (at_step x (at_step d (field_step f rest))) h y lo k scope names e =
      part_local tree task sound sound_task local params result s line n x d (field_step f rest) h y lo k scope names e (λ q. absurd cc)
  assign_local s line n (at_step x (at_step d (at_step i rest))) h y lo k scope names e =
      part_local tree task sound sound_task local params result s line n x d (at_step i rest) h y lo k scope names e (λ q. absurd cc)
  assign_local s line n (at_step i (field_step f (field_step g rest))) h y lo k scope names e =
      element_local tree task sound sound_task local params result s line n i f g rest h y lo k scope names e
  assign_local s line n (at_step i (field_step f (at_step d rest))) h y lo k scope names e =
      let steps = at_step i (field_step f (at_step d rest)) in
      let own = and_parts (is_written_expression i) (are_written_steps (at_step d rest)) (and_parts (are_written_steps steps) (is_written_expression y) lo).0 in
      absurd (no_way_back (fields_behind tree task sound sound_task local params result s line n (at_step i no_step) (at_step d rest) f
      (and_from (is_written_expression i) true own.0 refl) (kept_front n i no_step (field_step f (at_step d rest)) (kept_left (parts_of_steps steps) (parts_of_expression y) k))
      tt scope names (target_of_form tree task s sound scope (assign_form n steps h y) e)))

  mutual
    pub form_local : (s : Scope) (line : ℕ) (form : Form) → is_written_form form ≡ true → AreKept (parts_of_form form) → IsSoundScope s →
        Ready s → Told (scope_after tree s form) → first_of_form tree task s form ≡ None → first_within tree task s form ≡ None → FormTyped s line form
    form_local s line (var_form n t i) lo k scope names up e w = var_local s line n t i lo k scope names up e
    form_local s line (assign_form n steps h y) lo k scope names up e w = (assign_local s line n steps h y lo k scope names e, names)
    form_local s line (print_form alias format args) lo k scope names up e w =
        (print_local tree task sound sound_task local params result s line alias format args lo k scope names e, names)
    form_local s line (call_form n args) lo k scope names up e w = (call_local tree task sound sound_task local params result s line n args lo k scope names e, names)
    form_local s line (fill_form r fields y) lo k scope names up e w =
        (fill_local tree task sound sound_task local params result s line r fields y lo (kept_right (nodes fields) (parts_of_expression y) k) scope names e, names)
    form_local s line (return_form y) lo k scope names up e w = (return_local tree task sound sound_task local params result s line y lo k scope names e, names)
    form_local s line (assert_form y) lo k scope names up e w =
        let parts = told_of_form tree task s sound scope (assert_form y) e in
        let told = (option_or_parts (first_in_expression tree task s y) _ parts.2).0 in (
          truth_head tree task sound sound_task local params result s line y lo k scope names told
              (first_stands s.known (stands (known_type tree s y) truth_spot) [] parts.4).0,
          names,
        )
    form_local s line (do_form body) lo k scope names up e w = let b = block_local s line body lo k scope names (inner_told s (scope_after_block tree s body) up) w in (b.0, behind s (scope_after_block tree s body) (block_grown tree s body) names b.1 up)
    form_local s line (while_form test body) lo k scope names up e w =
        let both = and_parts (is_written_expression test) (is_written_block body) lo in
        let parts = told_of_form tree task s sound scope (while_form test body) e in
        let told = (option_or_parts (first_in_expression tree task s test) _ parts.2).0 in
        let t = truth_head tree task sound sound_task local params result s line test both.0 (kept_left (parts_of_expression test) (parts_of_block body) k) scope names told
        (first_stands s.known (stands (known_type tree s test) truth_spot) [] parts.4).0 in
        let b = block_local s line body both.1 (kept_right (parts_of_expression test) (parts_of_block body) k) scope names (inner_told s (scope_after_block tree s body) up) w in
        ((t.0, t.1, b.0), behind s (scope_after_block tree s body) (block_grown tree s body) names b.1 up)
    form_local s line (for_in_form demanded n domain body) lo k scope names up e w =
        let two = and_parts (is_written_expression domain) (is_written_block body) lo in
        let parts = told_of_form tree task s sound scope (for_in_form demanded n domain body) e in
        let told = (option_or_parts (first_in_expression tree task s domain) _ parts.2).0 in
        let d = domain_local tree task sound sound_task local params result s line domain two.0
        (kept_left (parts_of_expression domain) (parts_of_block body) k) scope names told (first_stands s.known (stands (known_type tree s domain) domain_spot) [] parts.4).0 in
        let inner = loop_scope tree task sound s demanded n domain body scope e in
        let ty = taken_from (type_of tree s domain) in
        let first = with_name s n ty true in
        let inner_up = inner_told s (scope_after_block tree first body) up in
        let block = block_local first line body two.1 (kept_right (parts_of_expression domain) (parts_of_block body) k)
        (subst IsSoundScope inner.0 inner.1)
        (record {
          names = kept_more true _ s.names d.taken names.names;
          head = head_in_loop tree task sound sound_task local.declared s n domain scope names.head told (kept_left (parts_of_expression domain) (parts_of_block body) k)
              (head_looping tree task s n ty (taken_told (type_of tree s domain)) names.head.facts) (told_before (told_in tree task) first (scope_after_block tree first body) (block_grows tree first body) inner_up);
        })
        inner_up
        (subst (λ u. first_in_block tree task u body ≡ None) inner.0 w) in (
          any_looped true (here s line) domain (IsTyped forms (here s line) domain) (IsIndexed forms (here s line) domain) (IsTypedBlock forms (here first line) body) d.over block.0,
          behind_loop s n ty body names block.1 up,
        )
    form_local s line (for_to_form demanded n from to body) lo k scope names up e w =
        let one = and_parts (is_written_expression from) _ lo in
        let two = and_parts (is_written_expression to) (is_written_block body) one.1 in
        let k2 = kept_right (parts_of_expression from) (parts_of_expression to ++ parts_of_block body) k in
        let parts = told_of_form tree task s sound scope (for_to_form demanded n from to body) e in
        let first = option_or_parts (first_in_expression tree task s from) _ parts.2 in
        let second = option_or_parts (first_in_expression tree task s to) _ first.1 in
        let standing = first_stands s.known (stands (known_type tree s from) integer_spot) (stands (known_type tree s to) integer_spot ∷ []) parts.4 in
        let a = integer_head tree task sound sound_task local params result s line from one.0
        (kept_left (parts_of_expression from) (parts_of_expression to ++ parts_of_block body) k) scope names first.0 standing.0 in
        let b = integer_head tree task sound sound_task local params result s line to two.0 (kept_left (parts_of_expression to) (parts_of_block body) k2) scope names second.0
        (first_stands s.known (stands (known_type tree s to) integer_spot) [] standing.1).0 in
        let inner = count_scope tree task sound s demanded n from to body scope e in
        let ty = arithmetic_type (type_of tree s from) (type_of tree s to) in
        let loop = with_name s n ty true in
        let inner_up = inner_told s (scope_after_block tree loop body) up in
        let block = block_local loop line body two.1 (kept_right (parts_of_expression to) (parts_of_block body) k2)
        (subst IsSoundScope inner.0 inner.1)
        (let number = sum_scalar (type_of tree s from) (type_of tree s to) a.0 b.0 in record {
          names = kept_more true _ s.names (kept_value ty (value_simple ty (scalar_simple ty number))) names.names;
          head = head_in_count tree task sound sound_task local.declared s n ty scope names.head number (head_looping tree task s n ty (scalar_told ty number) names.head.facts)
              (told_before (told_in tree task) loop (scope_after_block tree loop body) (block_grows tree loop body) inner_up);
        })
        inner_up
        (subst (λ u. first_in_block tree task u body ≡ None) inner.0 w) in
        ((a.0, b.0, a.1, b.1, block.0), behind_loop s n ty body names block.1 up)
    form_local s line (if_form arms other) lo k scope names up e w =
        let both = and_parts (are_written_arms arms) (is_written_else other) lo in
        let parts = told_of_form tree task s sound scope (if_form arms other) e in
        let next = else_next tree task sound s arms other scope w in
        let up_arms = told_before (told_in tree task) (scope_after_arms tree s arms) (scope_after_else tree (scope_after_arms tree s arms) other) (else_grows tree (scope_after_arms tree s arms) other) up in
        let a = arms_local s s line arms both.0 (kept_left (parts_of_arms arms) (parts_of_otherwise other) k) scope names scope names up_arms next.0 parts.2 parts.4 in
        let o = else_local (scope_after_arms tree s arms) line other both.1 (kept_right (parts_of_arms arms) (parts_of_otherwise other) k)
        next.1 a.1 up next.2 in (
          (a.0, o.0),
          record {
            names = subst (AllKept true) (sym (else_names tree (scope_after_arms tree s arms) other ∙ arms_names tree s arms)) names.names;
            head = record {
              facts = o.1;
              spaced = subst (AreSpaced tree) (sym (else_names tree (scope_after_arms tree s arms) other ∙ arms_names tree s arms)) names.head.spaced;
              placed = subst ArePlaced (sym (else_names tree (scope_after_arms tree s arms) other ∙ arms_names tree s arms)) names.head.placed;
              told = up;
            };
          },
        )

    arms_local : (own s : Scope) (line : ℕ) (arms : Arms) → are_written_arms arms ≡ true → AreKept (parts_of_arms arms) → IsSoundScope own →
        Ready own → IsSoundScope s → Ready s → Told (scope_after_arms tree s arms) → first_in_arms tree task s arms ≡ None →
        first_in (first_in_expression tree task own) (tests_of arms) ≡ None →
        list_any (is_ill_typed_at_place own.known) (all_stand tree own truth_spot (tests_of arms)) ≡ false →
        AreTypedArms forms (here own line) (here s line) arms × Ready (scope_after_arms tree s arms)
    arms_local own s line no_arm lo k oscope onames scope names up e heads standing = (tt, names)
    arms_local own s line (an_arm test body rest) lo k oscope onames scope names up e heads standing =
        let one = and_parts (is_written_expression test) _ lo in
        let two = and_parts (is_written_block body) (are_written_arms rest) one.1 in
        let k2 = kept_right (parts_of_expression test) (parts_of_block body ++ parts_of_arms rest) k in
        let tests = option_or_parts (first_in_expression tree task own test) _ heads in
        let stood = first_stands own.known (stands (known_type tree own test) truth_spot) (all_stand tree own truth_spot (tests_of rest)) standing in
        let next = arm_next tree task sound s test body rest scope e in
        let t = truth_head tree task sound sound_task local params result own line test one.0
        (kept_left (parts_of_expression test) (parts_of_block body ++ parts_of_arms rest) k) oscope onames tests.0 stood.0 in
        let inner = past s (scope_after_block tree s body) in
        let up_in = told_before (told_in tree task) inner (scope_after_arms tree inner rest) (arms_grow tree inner rest) up in
        let b = block_local s line body two.0 (kept_left (parts_of_block body) (parts_of_arms rest) k2) scope names
        (inner_told s (scope_after_block tree s body) up_in) next.0 in
        let r = arms_local own (past s (scope_after_block tree s body)) line rest two.1 (kept_right (parts_of_block body) (parts_of_arms rest) k2)
        oscope onames next.1 (behind s (scope_after_block tree s body) (block_grown tree s body) names b.1 up_in) up next.2 tests.1 stood.1 in
        ((t.0, t.1, b.0, r.0), r.1)

    else_local : (s : Scope) (line : ℕ) (other : Otherwise) → is_written_else other ≡ true → AreKept (parts_of_otherwise other) → IsSoundScope s →
        Ready s → Told (scope_after_else tree s other) → first_in_else tree task s other ≡ None → IsTypedElse forms (here s line) other × KnowsFacts tree task (scope_after_else tree s other)
    else_local s line no_else lo k scope names up e = (tt, names.head.facts)
    else_local s line (else_block body) lo k scope names up e =
        let b = block_local s line body lo k scope names (inner_told s (scope_after_block tree s body) up) e in (b.0, head_past tree task s (scope_after_block tree s body) (grown_has (block_grown tree s body)) b.1)

    pub block_local : (s : Scope) (line : ℕ) (body : Block) → is_written_block body ≡ true → AreKept (parts_of_block body) → IsSoundScope s →
        Ready s → Told (scope_after_block tree s body) → first_in_block tree task s body ≡ None → BlockTyped s line body
    block_local s line no_statement lo k scope names up e = (tt, names.head.facts)
    block_local s line (then_statement (a_statement at_line form) rest) lo k scope names up e =
        let both = and_parts (is_written_form form) (is_written_block rest) lo in
        let k2 = kept_behind node (parts_of_form form ++ parts_of_block rest) k in
        let next = block_next tree task sound s at_line form rest scope e in
        let after = scope_after tree s form in
        let up_form = told_before (told_in tree task) after (scope_after_block tree after rest) (block_grows tree after rest) up in
        let f = form_local s at_line form both.0 (kept_left (parts_of_form form) (parts_of_block rest) k2) scope names up_form next.0 next.1 in
        let r = block_local after line rest both.1 (kept_right (parts_of_form form) (parts_of_block rest) k2) next.2 f.1 up next.3 in
        ((f.0, r.0), r.1)
