-- The text of a program without a breach: its declarations, and the scopes in which bodies begin.
use Rattle.std.proofs.Common.{[], ◌∷◌, ◌++◌, Bool, None, refl, subst, sym, ℕ, ◌<◌, ◌≡◌, ◌∙◌, false, inl, inr, length, true}
use Rattle.std.proofs.lemmas.Bool.{or_parts}
use Rattle.std.proofs.lemmas.List.{append-nil}
use Rattle.std.proofs.lemmas.List.Elements.{All-nil}
use Rattle.std.specs.List.{All}
use Rattle.regent_tree.proofs.Members.{Contains-from_Has, Has, Has-from_Contains}
use Rattle.regent_tree.specs.Limits.{KeepsLimit, WithinLimits, counted, parts_of_block, parts_of_params, parts_of_term, parts_of_type}
use Rattle.regent_tree.specs.Lookup.{has_field, space_used}
use Rattle.regent_tree.specs.Scopes.{Scope, bound_as, bound_params, scope_of}
use Rattle.regent_tree.specs.StaticTypes.{field_place, field_term, no_task, place_of_space, space_at, task_named}
use Rattle.regent_tree.specs.Syntax.{Name, TaskTree, Tree, space_item, task_item}
use Rattle.regent_tree.specs.Typing.{param_types}
use Rattle.regent_tree.specs.declared.limits.Counted.TheVariants.{Fields, Parameters}
use Rattle.regent_tree.specs.declared.program.FieldSpace.{FieldSpace}
use Rattle.regent_tree.specs.declared.types.PointerTerm.{PointerTerm}
use Rattle.regent_tree.specs.declared.types.TypeTerm.TheVariants as typed
use Rattle.regent_tree.specs.declared.typing.StaticType.{StaticType}
use Rattle.regent_tree.specs.declared.typing.StaticType.TheVariants.{Index as index_type, Integer as integer_type, Ispace as ispace_type, Nothing as no_type, Partition as partition_type, Pointer as pointer_type, Region as region_type, Truth as truth_type, Unknown as unknown_type}
use Rattle.check_rules.proofs.Written.{all_is_sound}
use Rattle.check_rules.specs.Breaches.{breaches}
use Rattle.check_rules.specs.first.FirstInItems.{first_declared, first_of_said, first_of_saying}
use Rattle.check_rules.specs.first.Rules.{first_in}
use Rattle.check_rules.specs.rules.Repeats.{given_by, repeats, repeats_within}
use Rattle.check_rules.specs.scopes.Sound.{IsSound, StandsIn}
use Rattle.check_rules.specs.scopes.Visits.{declarations_in}
use Rattle.check_rules.specs.types.Declarations.{is_flawed_type, is_no_field_type}
use Rattle.check_rules.specs.types.Params.{params_beside}
use Rattle.check_rules.specs.types.Sorts.{is_region, type_at}
use Rattle.check_rules.specs.declared.rule.Rule.TheVariants as rule
use Rattle.check_laws.proofs.Bodies.{body_told}
use Rattle.check_laws.proofs.Entries.{no_line, none_left}
use Rattle.check_laws.proofs.Trees.{declared_none}
use Rattle.check_laws.specs.SoundScopes.{IsPlaced}
use Rattle.expression_laws.proofs.Params.{param_type, parent_region}
use Rattle.state_laws.specs.Runs.{IsBodyOfFit, TextsFit}
use Rattle.expression_laws.specs.WrittenStatements.{AreWrittenTasks}
use Rattle.state_laws.proofs.Declared.{AreSoundParams, HasRegions, field_said, names_fine, no_params, params_said, sound_params, term_limit}
use Rattle.state_laws.proofs.Standing.{form_limits, form_untold, forms, space_stands, task_stands}
use Rattle.value_laws.proofs.Limits.{all_behind, all_left, all_right}
use Rattle.value_laws.proofs.Spaced.{no_arguments}
use Rattle.value_laws.specs.Spaces.{AreParamsSaid, AreSpaced, HasSpacedDeclarations, IsSpacedField}

-- a type is placed where the parent that it may have is
placed_type : (s : Scope) (t : StaticType) →
    ((d : Bool) (r p : ℕ) → t ≡ partition_type d r p → (is_region (bound_as s.names r).static_type ≡ true) × (r < s.next)) → IsPlaced s t
placed_type s (partition_type d r p) h = h d r p refl
placed_type s (integer_type w) h = tt
placed_type s truth_type h = tt
placed_type s (index_type k) h = tt
placed_type s (pointer_type k space args terms) h = tt
placed_type s (ispace_type k) h = tt
placed_type s (region_type k space args t) h = tt
placed_type s no_type h = tt
placed_type s unknown_type h = tt

-- where a name has no task
no_body : (tree : Tree) → IsBodyOfFit tree no_task
no_body tree = record {
  scope = record { numbers = tt; types = λ n b. absurd cc };
  spaced = λ i. no_arguments tree [] unknown_type tt;
  regions = λ i k space args terms e. absurd cc;
  result = refl;
  told = refl;
  written = tt;
  limits = All-nil KeepsLimit;
}

module _ (tree : Tree) (none : breaches tree ≡ []) (within : WithinLimits tree) where
  declared : first_in (first_declared tree) tree ≡ None
  declared = declared_none tree none

  sound : IsSound tree
  sound = all_is_sound tree declared

  -- ---- field spaces

  record IsFineSpace (s : FieldSpace) : Type 0 where
    pub params : AreSoundParams tree s.params
    pub limits : All KeepsLimit (parts_of_params s.fields)

  space_fine : (k : ℕ) → IsFineSpace (space_at tree k)
  space_fine k = elim (space_stands tree k) [
    | inl h ↦ let item = space_at tree k in
        let of = (form_untold tree (space_item item) none h).1 in
        let once = none_left (repeats (given_by item.params)) (repeats (given_by item.fields)) (no_line rule.Twice (repeats_within (space_item item)) of.twice) in
        let parts = parts_of_params item.params ++ parts_of_params item.fields in record {
          params = sound_params tree item.params item.fields declared once.0 of.saying of.said;
          limits = all_right KeepsLimit (parts_of_params item.params) (parts_of_params item.fields)
              (all_behind KeepsLimit (counted Parameters (length item.params)) parts
              (all_behind KeepsLimit (counted Fields (length item.fields)) (counted Parameters (length item.params) ∷ parts) (form_limits tree (space_item item) within h)));
        }
    | inr e ↦ subst IsFineSpace (sym e) (record { params = no_params tree; limits = All-nil KeepsLimit })
  ]

  params_are : AreParamsSaid tree
  params_are u i k there e = params_said tree (space_used tree u).params (space_fine (place_of_space tree u.name)).params i k e

  fields_are : (space : ℕ) (f : Name) (p : PointerTerm) → has_field tree space f ≡ true → field_term tree space (field_place tree space f) ≡ typed.Pointer p → IsSpacedField tree space p
  fields_are space f p there e =
      let all = (space_at tree space).params in
      let t = field_term tree space (field_place tree space f) in
      let fine = space_fine space in
      let flawless = (or_parts (is_no_field_type t) (is_flawed_type tree (params_beside tree all) t) (sound.fields space f there)).1 in
      field_said tree all fine.params space p refl params_are
      (subst (λ t. is_flawed_type tree (bound_params tree all 0 all) t ≡ false) e (subst (λ ns. is_flawed_type tree ns t ≡ false) fine.params.beside flawless))
      (subst (λ t. All KeepsLimit (parts_of_term t)) e (term_limit (space_at tree space).fields (field_place tree space f) fine.limits))

  -- ---- tasks

  record IsFineTask (t : TaskTree) : Type 0 where
    pub params : AreSoundParams tree t.params
    pub limits : All KeepsLimit (parts_of_params t.params)
    pub body : All KeepsLimit (parts_of_block t.body)

  standing_fine : (t : TaskTree) → Has (forms tree) (task_item t) → IsFineTask t
  standing_fine t h =
      let of = (form_untold tree (task_item t) none h).1 in
      let same = sym (append-nil t.params) in
      let inner = parts_of_type t.result ++ parts_of_block t.body in
      let limits = all_behind KeepsLimit (counted Parameters (length t.params)) (parts_of_params t.params ++ inner) (form_limits tree (task_item t) within h) in record {
        params = sound_params tree t.params [] declared (no_line rule.Twice (repeats (given_by t.params)) of.twice)
            (subst (λ all. first_in (first_of_saying tree) (declarations_in tree t.params all) ≡ None) same of.saying)
            (subst (λ all. first_in (first_of_said tree) (declarations_in tree t.params all) ≡ None) same of.said);
        limits = all_left KeepsLimit (parts_of_params t.params) inner limits;
        body = all_right KeepsLimit (parts_of_type t.result) (parts_of_block t.body) (all_right KeepsLimit (parts_of_params t.params) inner limits);
      }

  task_fine : (n : Name) → IsFineTask (task_named tree n)
  task_fine n = elim (task_stands tree n) [
    | inl h ↦ standing_fine (task_named tree n) h
    | inr e ↦ subst IsFineTask (sym e) (record { params = no_params tree; limits = All-nil KeepsLimit; body = All-nil KeepsLimit })
  ]

  tasks_are : (n : Name) (i : ℕ) → IsPlaced (scope_of tree (task_named tree n)) (type_at (param_types tree (task_named tree n)) i)
  tasks_are n i =
      let t = task_named tree n in
      placed_type (scope_of tree t) (type_at (param_types tree t) i) (λ d r p e. parent_region tree t.params (task_fine n).params.written i d r p (param_type tree t i ∙ e))

  -- the declarations are as the laws on places suppose
  pub declarations_are : HasSpacedDeclarations tree
  declarations_are = record { fields = fields_are; params = params_are; tasks = tasks_are }

  -- and so are the scopes in which the bodies of tasks begin
  pub body_begins : (t : TaskTree) → StandsIn tree t → AreSpaced tree (scope_of tree t).names
  body_begins t stands i =
      let fine = standing_fine t (Has-from_Contains (forms tree) (task_item t) stands) in
      (names_fine tree t.params fine.params params_are fine.limits i).0

  -- the regions of parameters' pointers are of their field spaces
  pub body_regions : (t : TaskTree) → StandsIn tree t → (i : ℕ) → HasRegions (scope_of tree t).names (bound_as (scope_of tree t).names i).static_type
  body_regions t stands i =
      let fine = standing_fine t (Has-from_Contains (forms tree) (task_item t) stands) in
      (names_fine tree t.params fine.params params_are fine.limits i).1

  body_fits : AreWrittenTasks tree → (n : Name) → IsBodyOfFit tree (task_named tree n)
  body_fits written n = elim (task_stands tree n) [
    | inl h ↦ let t = task_named tree n in
        let stands = Contains-from_Has (forms tree) (task_item t) h in
        let told = body_told tree t none stands in
        let fine = task_fine n in
        let names = names_fine tree t.params fine.params params_are fine.limits in record {
          scope = told.scope;
          spaced = λ i. (names i).0;
          regions = λ i k space args terms e. subst (HasRegions (scope_of tree t).names) (param_type tree t i ∙ e) (names i).1;
          result = told.sound_task.result;
          told = told.told;
          written = written t stands;
          limits = fine.body;
        }
    | inr e ↦ subst (IsBodyOfFit tree) (sym e) (no_body tree)
  ]

pub texts_fit : TextsFit
texts_fit tree none within written = record {
  sound = sound tree none within;
  declared = declarations_are tree none within;
  bodies = body_fits tree none within written;
}
