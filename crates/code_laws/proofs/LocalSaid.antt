-- Variables that begin with new regions or with partitions, with written types or without, of which no breach is told, are typed.
use Rattle.std.proofs.Common.{◌≡◌, inl, ⊎_elim, Bool, List, [], ◌∷◌, ◌++◌, None, Option, Some, false, true, ap, sym, subst, ℕ, ◌∙◌, refl}
use Rattle.std.specs.Prelude.{bytes_eq, map, ◌&&◌, not, ◌||◌, ◌==◌}
use Rattle.std.specs.List.{Contains, list_any}
use Rattle.std.proofs.lemmas.Bool.{and_parts, eqb-true, not-false, or_parts}
use Rattle.plain_values.proofs.Plain.{option_or_parts}
use Rattle.regent_tree.specs.Limits.{parts_of_expression}
use Rattle.regent_tree.specs.Lookup.{has_space}
use Rattle.regent_tree.specs.Scopes.{Scope, in_scope, known_of_type, knowing, with_name}
use Rattle.regent_tree.specs.StaticTypes.{Reach, binding_of, looked_up, place_of_space, spaces_of, type_said}
use Rattle.regent_tree.specs.Syntax.{Expression, Initializer, Name, TaskTree, Tree, plain_initializer, region_initializer, var_form}
use Rattle.regent_tree.specs.Typing.{initializer_type, kind_of_ispace, known_of_child, known_of_initializer, owned, scope_after, type_of, var_type}
use Rattle.regent_tree.specs.declared.facts.Known.{Known}
use Rattle.regent_tree.specs.declared.facts.Known.TheVariants.{Made}
use Rattle.regent_tree.specs.declared.facts.Term.TheVariants as place
use Rattle.regent_tree.specs.declared.program.FieldSpace.{FieldSpace}
use Rattle.regent_tree.specs.declared.types.Kind.{Kind}
use Rattle.regent_tree.specs.declared.types.Kind.TheVariants.{Int1d}
use Rattle.regent_tree.specs.declared.types.NumberTerm.TheVariants as number
use Rattle.regent_tree.specs.declared.types.SpaceUse.{SpaceUse}
use Rattle.regent_tree.specs.declared.types.TypeTerm.{TypeTerm}
use Rattle.regent_tree.specs.declared.types.TypeTerm.TheVariants as term
use Rattle.regent_tree.specs.declared.typing.StaticType.{StaticType}
use Rattle.regent_tree.specs.declared.typing.StaticType.TheVariants.{Partition as partition_type, Region as region_type}
use Rattle.check_laws.proofs.Parts.{unless_false}
use Rattle.check_laws.proofs.Variables.{begun_sound, parts_of_form as told_of_form}
use Rattle.check_laws.specs.SoundScopes.{IsSoundScope}
use Rattle.check_rules.specs.declared.rule.Rule.TheVariants as rule
use Rattle.check_rules.proofs.Untold.{rule_none}
use Rattle.check_rules.specs.first.FirstInExpressions.{first_in_expression, first_in_type}
use Rattle.check_rules.specs.first.FirstInStatements.{first_of_form, first_of_initializer}
use Rattle.check_rules.specs.first.Rules.{first_in, rule_if}
use Rattle.check_rules.specs.rules.Names.{unbound_name_in_type}
use Rattle.check_rules.specs.rules.Standing.{space_spot, stands, typed_spot}
use Rattle.check_rules.specs.rules.Types.{is_ill_typed_at_place}
use Rattle.check_rules.specs.scopes.Sound.{IsSound, IsSoundTask}
use Rattle.check_rules.specs.scopes.Variables.{declared_type, is_flawed_initializer, known_initializer, stands_declared, variable_type}
use Rattle.check_rules.specs.types.Fitting.{agree_all, fits}
use Rattle.check_rules.specs.types.Sorts.{same_kind}
use Rattle.check_rules.specs.types.KnownTypes.{known_type}
use Rattle.code_rules.specs.Slots.{Where}
use Rattle.code_laws.specs.WrittenForms.{is_written_expression}
use Rattle.code_laws.specs.Handing.{forms_by, takes_by, told_in}
use Rattle.code_laws.specs.Pointers.{IsLike, like_partition, like_region}
use Rattle.code_laws.specs.Steps.{Forms}
use Rattle.code_laws.specs.Taking.{BeginsWhole}
use Rattle.code_laws.specs.Typed.{IsBegunBy, IsTypedForm}
use Rattle.code_laws.proofs.KnownHeads.{IsReady, KnowsFacts, made_above_none, made_piece_none}
use Rattle.code_laws.proofs.Told.{ToldUpTo}
use Rattle.regent_tree.proofs.Members.{Contains-from_Has, Has-append_right}
use Rattle.code_laws.proofs.KnownPlaces.{head_cut, head_made, head_named}
use Rattle.code_laws.proofs.LocalNames.{IsKept, IsLocalTree, first_below, kept_partition, kept_region, kept_value}
use Rattle.code_laws.proofs.LocalNulls.{IsVariable, type_flawless, variable_said}
use Rattle.code_laws.proofs.LocalPoints.{IsWell}
use Rattle.code_laws.proofs.LocalTaken.{IsCollection, collected_value, value_apart}
use Rattle.code_laws.proofs.LocalValues.{IsRegionAmong, owned_value, value_tells}
use Rattle.code_laws.proofs.TypedStatements.{first_stands}
use Rattle.code_laws.proofs.Typing.{AreKept, no_way_back}
use Rattle.check_rules.specs.types.Declarations.{is_no_result_type}
use Rattle.code_laws.proofs.LocalVariables.{VarTyped, at, owned_collected, space_head}

-- how a variable begins, by its written type
abbrev IsStarted : Forms → Where → Option TypeTerm → Initializer → Type 0
IsStarted forms w None i = IsBegunBy forms w i
IsStarted forms w (Some t) i = (forms.keeps ≡ true) × IsLike (var_type w.tree w.scope (Some t) (Some i)) (initializer_type w.tree w.scope w.scope.next i)
    × IsBegunBy forms w i

started : (forms : Forms) (w : Where) (n : Name) (t : Option TypeTerm) (i : Initializer) → IsStarted forms w t i → IsTypedForm forms w (var_form n t (Some i))
started forms w n None (plain_initializer e) h = absurd h
started forms w n None i h = h
started forms w n (Some t) (plain_initializer e) h = absurd h.2
started forms w n (Some t) i h = h

-- a partition is disjoint where that is asked
as_asked : (c d : Bool) → (d || not c) ≡ true → c ≡ true → d ≡ true
as_asked c true e q = refl
as_asked c false e q = absurd (no_way_back (ap not (sym q) ∙ e))

module _ (tree : Tree) (task : TaskTree) (sound : IsSound tree) (sound_task : IsSoundTask tree task)
    (local : IsLocalTree tree) (params : ℕ) (result : is_no_result_type task.result ≡ false) where
  abbrev forms : Forms
  forms = forms_by true true tree task

  abbrev Ready : Scope → Type 0
  Ready s = IsReady tree task s

  abbrev here : Scope → ℕ → Where
  here s line = at tree task sound sound_task local params result s line

  abbrev Typed : Scope → ℕ → Name → Option TypeTerm → Initializer → Type 0
  Typed s line n t i = VarTyped tree task sound sound_task local params result s line n t (Some i)

  -- what is told of a written type: what a variable begins with fits it
  abbrev pub FitsSaid : Scope → Option TypeTerm → Initializer → Type 0
  FitsSaid s t i = list_any (is_ill_typed_at_place s.known) (stands_declared (known_initializer tree s i) t (variable_type tree s t (Some i))) ≡ false

  pub said_fits : (s : Scope) (n : Name) (t : TypeTerm) (i : Initializer) → IsSoundScope s → Ready s →
      first_of_form tree task s (var_form n (Some t) (Some i)) ≡ None → FitsSaid s (Some t) i →
      fits s.known (initializer_type tree s s.next i) (type_said tree (in_scope s) s.next t) ≡ true
  said_fits s n t i scope names e tail =
      let begun : known_initializer tree s i ≡ initializer_type tree s s.next i =
      unless_false (is_flawed_initializer tree s i) (initializer_type tree s s.next i) (begun_sound tree task s sound scope n (Some t) i e).0 in
      let none = (option_or_parts (first_in_type tree s.names t) _ (told_of_form tree task s sound scope (var_form n (Some t) (Some i)) e).0).0 in
      let fit = (first_stands s.known (stands (known_initializer tree s i) (typed_spot (declared_type tree s t))) [] tail).0 in
      subst (λ u. fits s.known (initializer_type tree s s.next i) u ≡ true) (type_flawless tree s scope names.names t none)
      (ap (λ u. fits s.known u (declared_type tree s t)) (sym begun) ∙ fit)

  -- ---- partitions

  -- a type that fits a partition is written as one of the same region
  record IsCutSaid (s : Scope) (t : TypeTerm) (d : Bool) (r : ℕ) : Type 0 where
    flag : Bool
    disjoint : flag ≡ true → d ≡ true
    is : type_said tree (in_scope s) s.next t ≡ partition_type flag r s.next

  cut_said : (s : Scope) (d : Bool) (r : ℕ) (t : TypeTerm) → fits s.known (partition_type d r s.next) (type_said tree (in_scope s) s.next t) ≡ true → IsCutSaid s t d r
  cut_said s d r (term.Partition c q k) e =
      let both = and_parts (d || not c) (r == binding_of (in_scope s q)) e in record {
        flag = c;
        disjoint = as_asked c d both.0;
        is = ap (λ j. partition_type c j s.next) (sym (eqb-true r (binding_of (in_scope s q)) both.1));
      }
  cut_said s d r (term.Number number.Int32) e = absurd (no_way_back e)
  cut_said s d r (term.Number number.Int64) e = absurd (no_way_back e)
  cut_said s d r (term.Number (number.Index k)) e = absurd (no_way_back e)
  cut_said s d r term.Truth e = absurd (no_way_back e)
  cut_said s d r (term.Pointer p) e = absurd (no_way_back e)
  cut_said s d r (term.Ispace k) e = absurd (no_way_back e)
  cut_said s d r (term.Region k u) e = absurd (no_way_back e)

  cut_facts : (s : Scope) (n : Name) (t : StaticType) (ks : List Known) (d : Bool) (r : ℕ) → t ≡ partition_type d r s.next → ks ≡ [] → IsSoundScope s → Ready s →
      KnowsFacts tree task (knowing (with_name s n t false) (ks ++ known_of_type t))
  cut_facts s n t ks d r is none scope names =
      subst (λ ks. KnowsFacts tree task (knowing (with_name s n t false) (ks ++ known_of_type t))) (sym none)
      (subst (λ u. KnowsFacts tree task (knowing (with_name s n u false) (known_of_type u))) (sym is)
      (head_cut tree task s n d r scope.numbers names.head.facts))

  -- one of a written type that begins with a partition of a region, and whose type is like that
  pub cut_written : (s : Scope) (line : ℕ) (n : Name) (t : TypeTerm) (i : Initializer) (d : Bool) (r : ℕ) →
      IsSoundScope s → Ready s → first_of_form tree task s (var_form n (Some t) (Some i)) ≡ None → initializer_type tree s s.next i ≡ partition_type d r s.next →
      known_of_initializer tree s s.next (Some i) ≡ [] → IsRegionAmong s.names r → FitsSaid s (Some t) i →
      (IsLike (type_said tree (in_scope s) s.next t) (initializer_type tree s s.next i) → IsTypedForm forms (here s line) (var_form n (Some t) (Some i))) →
      Typed s line n (Some t) i
  cut_written s line n t i d r scope names e is none among tail by =
      let said = cut_said s d r t (subst (λ u. fits s.known u (type_said tree (in_scope s) s.next t) ≡ true) is (said_fits s n t i scope names e tail)) in (
        by (subst (λ u. IsLike u (initializer_type tree s s.next i)) (sym said.is)
            (subst (IsLike (partition_type said.flag r s.next)) (sym is) (like_partition said.flag d r s.next said.disjoint))),
        subst (IsKept true s.names s.next) (sym said.is) (kept_partition said.flag r refl among),
        cut_facts s n (type_said tree (in_scope s) s.next t) (known_of_initializer tree s s.next (Some i)) said.flag r said.is none scope names,
      )

  -- a variable that begins with a partition of a region
  pub cut_typed : (s : Scope) (line : ℕ) (n : Name) (t : Option TypeTerm) (i : Initializer) (d : Bool) (r : ℕ) →
      IsSoundScope s → Ready s → first_of_form tree task s (var_form n t (Some i)) ≡ None → initializer_type tree s s.next i ≡ partition_type d r s.next →
      known_of_initializer tree s s.next (Some i) ≡ [] → IsRegionAmong s.names r → FitsSaid s t i → IsBegunBy forms (here s line) i → Typed s line n t i
  cut_typed s line n None i d r scope names e is none among tail by = (
    started forms (here s line) n None i by,
    subst (IsKept true s.names s.next) (sym is) (kept_partition d r refl among),
    cut_facts s n (initializer_type tree s s.next i) (known_of_initializer tree s s.next (Some i)) d r is none scope names,
  )
  cut_typed s line n (Some t) i d r scope names e is none among tail by =
      cut_written s line n t i d r scope names e is none among tail (λ like. started forms (here s line) n (Some t) i (refl, like, by))

  -- ---- regions

  -- a type that fits a region is written as one of the same field space
  pub record IsRegionSaid (s : Scope) (t : TypeTerm) (sp : ℕ) : Type 0 where
    pub kind : Kind
    pub args : List Reach
    pub is : type_said tree (in_scope s) s.next t ≡ region_type kind sp args (place.Name s.next)

  pub region_said : (s : Scope) (k : Kind) (sp : ℕ) (args : List Reach) (t : TypeTerm) →
      fits s.known (region_type k sp args (place.Name s.next)) (type_said tree (in_scope s) s.next t) ≡ true → IsRegionSaid s t sp
  region_said s k sp args (term.Region j u) e =
      let brgs = map (looked_up (in_scope s)) u.args in
      let both = and_parts (same_kind k j && (sp == place_of_space tree u.name)) (agree_all args brgs) e in record {
        kind = j;
        args = brgs;
        is = ap (λ p. region_type j p brgs (place.Name s.next))
            (sym (eqb-true sp (place_of_space tree u.name) (and_parts (same_kind k j) (sp == place_of_space tree u.name) both.0).1));
      }
  region_said s k sp args (term.Number number.Int32) e = absurd (no_way_back e)
  region_said s k sp args (term.Number number.Int64) e = absurd (no_way_back e)
  region_said s k sp args (term.Number (number.Index j)) e = absurd (no_way_back e)
  region_said s k sp args term.Truth e = absurd (no_way_back e)
  region_said s k sp args (term.Pointer p) e = absurd (no_way_back e)
  region_said s k sp args (term.Ispace j) e = absurd (no_way_back e)
  region_said s k sp args (term.Partition d r c) e = absurd (no_way_back e)

  -- what is made is named behind the parameters, and began as no part
  fresh : (b : Bool) (own : ℕ) (u : Scope) → KnowsFacts tree task u → ToldUpTo (told_in tree task) u → Contains u.known (Made own) → BeginsWhole (takes_by b tree task) own
  fresh false own u facts up made = tt
  fresh true own u facts up made = ((facts.made own made).high, made_above_none (told_in tree task) facts up own made, made_piece_none (told_in tree task) facts up own made)

  region_begun : (s : Scope) (line : ℕ) (n : Name) (t : Option TypeTerm) (y : Expression) (u : SpaceUse) → is_written_expression y ≡ true →
      AreKept (parts_of_expression y) → IsSoundScope s → Ready s → first_of_form tree task s (var_form n t (Some (region_initializer y u))) ≡ None →
      (BeginsWhole forms.takes s.next → IsBegunBy forms (here s line) (region_initializer y u)) × FitsSaid s t (region_initializer y u)
  region_begun s line n t y u lo k scope names e =
      let i = region_initializer y u in
      let parts = told_of_form tree task s sound scope (var_form n t (Some i)) e in
      let told = (option_or_parts (first_in_expression tree task s y) _ parts.2).0 in
      let stood = first_stands s.known (stands (known_type tree s y) space_spot) (stands_declared (known_initializer tree s i) t (variable_type tree s t (Some i))) parts.4 in
      let a = space_head tree task sound sound_task local params result s line y lo k scope names told stood.0 in
      let begins = option_or_parts (first_of_initializer tree task s i) _ parts.3 in
      let written = option_or_parts (first_in (first_in_type tree s.names) (term.Region Int1d u ∷ [])) _ begins.0 in
      let type = option_or_parts (first_in_type tree s.names (term.Region Int1d u)) _ written.0 in
      let bad = option_or_parts (rule_if (unbound_name_in_type tree s.names (term.Region Int1d u)) rule.Name) _ type.0 in
      let there = not-false (has_space tree u.name)
      (or_parts (not (has_space tree u.name)) _ (rule_none (unbound_name_in_type tree s.names (term.Region Int1d u)) rule.Name bad.0)).0 in (
        λ whole. (
          refl,
          a.0,
          a.1,
          record { there = first_below (λ (f : FieldSpace). bytes_eq f.name u.name) (spaces_of tree) there; few = local.few (place_of_space tree u.name) },
          whole,
        ),
        stood.1,
      )

  region_facts : (s : Scope) (n : Name) (t : StaticType) (k : Kind) (sp : ℕ) (args : List Reach) → t ≡ region_type k sp args (place.Name s.next) → Ready s →
      KnowsFacts tree task (knowing (with_name s n t false) (Made s.next ∷ known_of_type t))
  region_facts s n t k sp args is names =
      subst (λ u. KnowsFacts tree task (knowing (with_name s n u false) (Made s.next ∷ known_of_type u))) (sym is)
      (head_made tree task s n (region_type k sp args (place.Name s.next)) refl names.head.facts)

  -- one that begins with a new region
  pub region_local : (s : Scope) (line : ℕ) (n : Name) (y : Expression) (u : SpaceUse) → is_written_expression y ≡ true →
      AreKept (parts_of_expression y) → IsSoundScope s → Ready s → ToldUpTo (told_in tree task) (scope_after tree s (var_form n None (Some (region_initializer y u)))) →
      first_of_form tree task s (var_form n None (Some (region_initializer y u))) ≡ None → Typed s line n None (region_initializer y u)
  region_local s line n y u lo k scope names up e =
      let args = map (looked_up (in_scope s)) u.args in
      let facts = head_made tree task s n (var_type tree s None (Some (region_initializer y u))) refl names.head.facts in (
        (region_begun s line n None y u lo k scope names e).0 (fresh true s.next (scope_after tree s (var_form n None (Some (region_initializer y u)))) facts up
            (Contains-from_Has _ (Made s.next) (Has-append_right s.known (Made s.next ∷ []) (Made s.next) (inl refl)))),
        kept_region (kind_of_ispace (type_of tree s y)) (place_of_space tree u.name) args,
        facts,
      )

  pub written_region_local : (s : Scope) (line : ℕ) (n : Name) (t : TypeTerm) (y : Expression) (u : SpaceUse) →
      is_written_expression y ≡ true → AreKept (parts_of_expression y) → IsSoundScope s → Ready s →
      ToldUpTo (told_in tree task) (scope_after tree s (var_form n (Some t) (Some (region_initializer y u)))) →
      first_of_form tree task s (var_form n (Some t) (Some (region_initializer y u))) ≡ None → Typed s line n (Some t) (region_initializer y u)
  written_region_local s line n t y u lo k scope names up e =
      let i = region_initializer y u in
      let sp = place_of_space tree u.name in
      let kind = kind_of_ispace (type_of tree s y) in
      let args = map (looked_up (in_scope s)) u.args in
      let begun = region_begun s line n (Some t) y u lo k scope names e in
      let said = region_said s kind sp args t (said_fits s n t i scope names e begun.1) in
      let w = type_said tree (in_scope s) s.next t in
      let facts = region_facts s n w said.kind sp said.args said.is names in
      let whole = fresh true s.next (scope_after tree s (var_form n (Some t) (Some i))) facts up
      (Contains-from_Has _ (Made s.next) (Has-append_right s.known (Made s.next ∷ known_of_type w) (Made s.next) (inl refl))) in (
        (
          refl,
          subst (λ v. IsLike v (region_type kind sp args (place.Name s.next))) (sym said.is) (like_region said.kind kind sp said.args args (place.Name s.next)),
          begun.0 whole,
        ),
        subst (IsKept true s.names s.next) (sym said.is) (kept_region said.kind sp said.args),
        facts,
      )

  -- ---- expressions

  -- one that begins with an expression that has a value
  pub well_said : (s : Scope) (line : ℕ) (n : Name) (t : TypeTerm) (y : Expression) → (scope : IsSoundScope s) (names : Ready s) →
      first_of_form tree task s (var_form n (Some t) (Some (plain_initializer y))) ≡ None →
      IsWell task (here s line) sound sound_task local scope names.names names.head y → Typed s line n (Some t) (plain_initializer y)
  well_said s line n t y scope names e a =
      let parts = told_of_form tree task s sound scope (var_form n (Some t) (Some (plain_initializer y))) e in
      let from = type_of tree s y in
      let none = (option_or_parts (first_in_type tree s.names t) _ parts.0).0 in
      let wanted = type_said tree (in_scope s) s.next t in
      let fit = subst (λ u. fits s.known u wanted ≡ true) (owned_value true s.names s.next from a.value) (said_fits s n t (plain_initializer y) scope names e parts.4) in
      ⊎_elim
      (λ (is : IsVariable tree s scope names.names t wanted).
      let tells = (value_tells true s.names s.next wanted is.value).2 in (
        inl (is.begins from a.value fit, a.is),
        kept_value wanted is.value,
        head_named tree task s n wanted (known_of_child s.next from ++ known_of_type wanted) tells names.head.facts
            (ap (λ ks. ks ++ known_of_type wanted) (value_tells true s.names s.next from a.value).0 ∙ tells),
      ))
      (λ c. absurd (value_apart true s.names s.known from wanted a.value c fit)) (variable_said tree s scope names.names t none)

  -- what has none fits a region's or a partition's type alone
  pub collected_said : (s : Scope) (n : Name) (t : TypeTerm) (y : Expression) → IsSoundScope s → Ready s →
      first_of_form tree task s (var_form n (Some t) (Some (plain_initializer y))) ≡ None → IsCollection (type_of tree s y) →
      IsCollection (type_said tree (in_scope s) s.next t)
  collected_said s n t y scope names e c =
      let parts = told_of_form tree task s sound scope (var_form n (Some t) (Some (plain_initializer y))) e in
      let none = (option_or_parts (first_in_type tree s.names t) _ parts.0).0 in
      let wanted = type_said tree (in_scope s) s.next t in
      let fit = said_fits s n t (plain_initializer y) scope names e parts.4 in
      ⊎_elim
      (λ (is : IsVariable tree s scope names.names t wanted). absurd
      (collected_value true s.names s.known (owned s.next (type_of tree s y)) wanted (owned_collected s.next (type_of tree s y) c) is.value fit))
      (λ d. d) (variable_said tree s scope names.names t none)
