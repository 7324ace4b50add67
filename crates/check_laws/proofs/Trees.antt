-- Whole trees without a breach.
use Rattle.check_laws.proofs.Entries.{no_line}
use Rattle.std.proofs.Common.{List, None, Option, [], ◌++◌, ◌∷◌, ◌||◌, ◌≡◌, ap, false, flat_map, inl, inr, map, not, refl, subst, sym, ◌∙◌, ℕ}
use Rattle.std.proofs.lemmas.Bool.{or_parts}
use Rattle.std.specs.List.{Contains, list_any}
use Rattle.std.proofs.lemmas.List.{append-nil}
use Rattle.regent_tree.specs.Scopes.{Scope, bound_params, past, scope_of}
use Rattle.regent_tree.specs.Lookup.{is_bound, type_named}
use Rattle.regent_tree.specs.Syntax.{Arms, Block, Expression, Form, ItemForm, ItemTree, Name, Otherwise, Steps, TaskTree, Tree, a_statement, access_expr, alias_item, an_arm, assert_form, assign_form, call_form, do_form, else_block, fill_form, for_in_form, for_to_form, if_form, import_item, no_arm, no_else, no_statement, print_form, return_form, space_item, start_item, task_item, then_statement, var_form, while_form}
use Rattle.regent_tree.specs.Typing.{scope_after_block}
use Rattle.regent_tree.specs.declared.types.Param.{Param}
use Rattle.regent_tree.proofs.Members.{Contains-from_Has, Has, Has-append_cases, Has-from_Contains, Has-map, Has-map_cases}
use Rattle.check_rules.specs.scopes.Bodies.{body_scope}
use Rattle.check_rules.specs.Breaches.{breaches}
use Rattle.check_rules.specs.types.Declarations.{is_flawed_type}
use Rattle.check_rules.specs.first.FirstInExpressions.{first_in_expression, first_in_target}
use Rattle.check_rules.specs.first.FirstInItems.{first_breach, first_declared, first_in_body, first_of_said, first_of_saying}
use Rattle.check_rules.specs.first.FirstInStatements.{first_in_arms, first_in_block, first_in_else, first_in_targets, first_of_demand, first_of_form, first_within, told_on}
use Rattle.check_rules.specs.rules.Names.{unbound_name_in_type}
use Rattle.check_rules.specs.rules.Repeats.{given_by, repeats}
use Rattle.check_rules.specs.types.Parts.{subexpressions}
use Rattle.check_rules.specs.first.Rules.{first_in, rule_if}
use Rattle.check_rules.specs.scopes.Sound.{IsSound}
use Rattle.check_rules.specs.scopes.Variables.{known_scope_after, known_scope_after_arms, known_scope_after_block, scope_in_count, scope_in_loop}
use Rattle.check_rules.specs.scopes.Visits.{Visit, declarations_in, heads_of, targets_of, visits, visits_in, visits_in_arms, visits_in_else, visits_of_item, visits_within}
use Rattle.check_rules.specs.declared.rule.Rule.TheVariants as rule
use Rattle.check_rules.proofs.FirstInItems.{none_without_first}
use Rattle.check_rules.proofs.Written.{all_is_sound, all_sound, beside_written, body_scope_written, standing_sound, untold}
use Rattle.check_laws.specs.Laws.{AllIsKnown, BodiesAreMeant, IsAsMeant, StatementsAreMeant}
use Rattle.check_laws.specs.MeantVisits.{expressions_at, meant_in, meant_of_item}
use Rattle.check_laws.specs.SoundScopes.{IsSoundScope}
use Rattle.check_laws.proofs.Blocks.{arms_known, block_known, count_scope, form_known, loop_scope, nested}
use Rattle.check_laws.proofs.Forms.{expression_as_meant, target_as_meant}
use Rattle.check_laws.proofs.Meant.{block_meant}
use Rattle.check_laws.proofs.Parameters.{begins_soundly}
use Rattle.check_laws.proofs.Subexpressions.{untold_inside, untold_target}
use Rattle.check_laws.proofs.Variables.{parts_of_form, target_of_form}
use Rattle.plain_values.proofs.Plain.{option_or_parts}
use Rattle.check_rules.proofs.Untold.{told_none}

-- ---- lists of which nothing is told

pub none_of : {A B : Type 0} (f : A → Option B) (xs : List A) (x : A) → first_in f xs ≡ None → Has xs x → f x ≡ None
none_of f [] x e h = absurd h
none_of f (y ∷ ys) x e (inl is) = ap f (sym is) ∙ (option_or_parts (f y) _ e).0
none_of f (y ∷ ys) x e (inr h) = none_of f ys x (option_or_parts (f y) _ e).1 h

pub has_flat : {A B : Type 0} (f : A → List B) (xs : List A) (y : B) → Has (flat_map f xs) y → (x : A) × Has xs x × Has (f x) y
has_flat f [] y h = absurd h
has_flat f (x ∷ xs) y h = elim (Has-append_cases (f x) (flat_map f xs) y h) [
  | inl g ↦ (x, inl refl, g)
  | inr g ↦ let r = has_flat f xs y g in (r.0, inr r.1, r.2)
]

-- ---- visits

module _ (tree : Tree) (task : TaskTree) (sound : IsSound tree) where
  abbrev IsAllKnown : Visit → Type 0
  IsAllKnown v = IsSoundScope v.scope
      × ((e : Expression) → Contains (expressions_at v.scope.names v.form) e → IsAsMeant tree v.scope e)

  -- the target of an assignment, and the expressions in it
  in_target : (s : Scope) → IsSoundScope s → (n : Name) (steps : Steps) → first_in_target tree task s n steps ≡ None →
      (x : Expression) → Has (subexpressions (access_expr n steps)) x → IsAsMeant tree s x
  in_target s scope n steps e x (inl is) =
      subst (IsAsMeant tree s) is (target_as_meant tree task s sound scope n steps e)
  in_target s scope n steps e x (inr h) =
      let parts = option_or_parts (rule_if (not (is_bound s.names n)) rule.Name) _ e in
      expression_as_meant tree task s sound scope x (untold_target tree task s (type_named s.names n) steps parts.1 x h)

  in_targets : (s : Scope) → IsSoundScope s → (form : Form) → first_in_targets tree task s form ≡ None →
      (y : Expression) → Has (targets_of form) y → (x : Expression) → Has (subexpressions y) x → IsAsMeant tree s x
  in_targets s scope (assign_form n steps how a) e y (inl is) x h =
      in_target s scope n steps e x (subst (λ (z : Expression). Has (subexpressions z) x) (sym is) h)
  in_targets s scope (assign_form n steps how a) e y (inr g) x h = absurd g
  in_targets s scope (var_form n t start) e y g x h = absurd g
  in_targets s scope (if_form arms other) e y g x h = absurd g
  in_targets s scope (while_form test body) e y g x h = absurd g
  in_targets s scope (for_in_form demanded n domain body) e y g x h = absurd g
  in_targets s scope (for_to_form demanded n from to body) e y g x h = absurd g
  in_targets s scope (do_form body) e y g x h = absurd g
  in_targets s scope (fill_form r fields a) e y g x h = absurd g
  in_targets s scope (assert_form a) e y g x h = absurd g
  in_targets s scope (print_form alias format args) e y g x h = absurd g
  in_targets s scope (call_form t args) e y g x h = absurd g
  in_targets s scope (return_form a) e y g x h = absurd g

  at_form : (s : Scope) (line : ℕ) (form : Form) → IsSoundScope s → first_of_form tree task s form ≡ None →
      IsAllKnown (record { task = task; scope = s; line = line; form = form })
  at_form s line form scope e = (
    scope,
    λ x has.
        let found = has_flat subexpressions (heads_of s.names form ++ targets_of form) x
        (Has-from_Contains (expressions_at s.names form) x has) in
        elim (Has-append_cases (heads_of s.names form) (targets_of form) found.0 found.1) [
          | inl g ↦
              let untold = none_of (first_in_expression tree task s) (heads_of s.names form) found.0
              (parts_of_form tree task s sound scope form e).2 g in
              expression_as_meant tree task s sound scope x (untold_inside tree task s found.0 untold x found.2)
          | inr g ↦ in_targets s scope form (target_of_form tree task s sound scope form e) found.0 g x found.2
        ],
  )

  mutual
    visit_block : (s : Scope) (b : Block) → IsSoundScope s → first_in_block tree task s b ≡ None → (v : Visit) → Has (visits_in tree task s b) v → IsAllKnown v
    visit_block s no_statement scope e v h = absurd h
    visit_block s (then_statement (a_statement line form) rest) scope e v h =
        let parts = option_or_parts (told_on line (first_of_form tree task s form)) _ e in
        let more = option_or_parts (first_within tree task s form) _ parts.1 in
        let behind = option_or_parts (told_on line (first_of_demand tree s form)) _ more.1 in
        let here = told_none line _ parts.0 in
        let after = form_known tree task sound s form scope here more.0 in
        elim (Has-append_cases (record { task = task; scope = s; line = line; form = form } ∷ visits_within tree task s form)
        (visits_in tree task (known_scope_after tree s form) rest) v h) [
          | inl g ↦ elim g [
            | inl is ↦ subst IsAllKnown is (at_form s line form scope here)
            | inr k ↦ visit_within s form scope here more.0 v k
          ]
          | inr g ↦ visit_block (known_scope_after tree s form) rest after.1 behind.1 v g
        ]

    visit_within : (s : Scope) (form : Form) → IsSoundScope s → first_of_form tree task s form ≡ None → first_within tree task s form ≡ None →
        (v : Visit) → Has (visits_within tree task s form) v → IsAllKnown v
    visit_within s (if_form arms other) scope e w v h =
        let parts = option_or_parts (first_in_arms tree task s arms) _ w in
        elim (Has-append_cases (visits_in_arms tree task s arms) (visits_in_else tree task (known_scope_after_arms tree s arms) other) v h) [
          | inl g ↦ visit_arms s arms scope parts.0 v g
          | inr g ↦ visit_else (known_scope_after_arms tree s arms) other (arms_known tree task sound s arms scope parts.0).1 parts.1 v g
        ]
    visit_within s (while_form test body) scope e w v h = visit_block s body scope w v h
    visit_within s (for_in_form demanded n domain body) scope e w v h =
        visit_block (scope_in_loop tree s n domain) body (loop_scope tree task sound s demanded n domain body scope e).1 w v h
    visit_within s (for_to_form demanded n from to body) scope e w v h =
        visit_block (scope_in_count tree s n from to) body (count_scope tree task sound s demanded n from to body scope e).1 w v h
    visit_within s (do_form body) scope e w v h = visit_block s body scope w v h
    visit_within s (var_form n t initializer) scope e w v h = absurd h
    visit_within s (fill_form r fields x) scope e w v h = absurd h
    visit_within s (assert_form x) scope e w v h = absurd h
    visit_within s (print_form alias format args) scope e w v h = absurd h
    visit_within s (call_form t args) scope e w v h = absurd h
    visit_within s (assign_form n steps how x) scope e w v h = absurd h
    visit_within s (return_form x) scope e w v h = absurd h

    visit_arms : (s : Scope) (arms : Arms) → IsSoundScope s → first_in_arms tree task s arms ≡ None → (v : Visit) → Has (visits_in_arms tree task s arms) v → IsAllKnown v
    visit_arms s no_arm scope e v h = absurd h
    visit_arms s (an_arm test body rest) scope e v h =
        let parts = option_or_parts (first_in_block tree task s body) _ e in
        let inner = nested tree task sound s body scope (block_known tree task sound s body scope parts.0) in
        elim (Has-append_cases (visits_in tree task s body) (visits_in_arms tree task (past s (known_scope_after_block tree s body)) rest) v h) [
          | inl g ↦ visit_block s body scope parts.0 v g
          | inr g ↦ visit_arms (past s (known_scope_after_block tree s body)) rest inner.1 parts.1 v g
        ]

    visit_else : (s : Scope) (other : Otherwise) → IsSoundScope s → first_in_else tree task s other ≡ None → (v : Visit) → Has (visits_in_else tree task s other) v → IsAllKnown v
    visit_else s no_else scope e v h = absurd h
    visit_else s (else_block body) scope e v h = visit_block s body scope e v h

-- ---- tasks

-- a task of which nothing is told
module _ (tree : Tree) (declared : first_in (first_declared tree) tree ≡ None) where
  pub unbound_none : (ps : List Param) (names : _) → list_any (λ (p : Param). is_flawed_type tree names p.term) ps ≡ false →
      list_any (λ (p : Param). unbound_name_in_type tree names p.term) ps ≡ false
  unbound_none [] names e = refl
  unbound_none (p ∷ ps) names e =
      let parts = or_parts (is_flawed_type tree names p.term) (list_any (λ (q : Param). is_flawed_type tree names q.term) ps) e in
      let a = or_parts _ _ parts.0 in
      let b = or_parts _ _ a.0 in
      let c = or_parts _ _ b.0 in
      let d = or_parts (unbound_name_in_type tree names p.term) _ c.0 in
      λ j. d.0 j || unbound_none ps names parts.1 j

  scope_sound : (line : ℕ) (t : TaskTree) → Has tree (record { line = line; form = task_item t }) → IsSoundScope (scope_of tree t)
  scope_sound line t h =
      let of = untold tree (record { line = line; form = task_item t }) (none_of (first_declared tree) tree (record { line = line; form = task_item t }) declared h) in
      let once = no_line rule.Twice (repeats (given_by t.params)) of.twice in
      let same = sym (append-nil t.params) in
      let saying = subst (λ all. first_in (first_of_saying tree) (declarations_in tree t.params all) ≡ None) same of.saying in
      let said = subst (λ all. first_in (first_of_said tree) (declarations_in tree t.params all) ≡ None) same of.said in
      let flawless = (all_sound tree t.params [] saying said).0 in
      let written = beside_written tree t.params [] saying in
      let named = unbound_none t.params (bound_params tree t.params 0 t.params)
      (subst (λ names. list_any (λ (p : Param). is_flawed_type tree names p.term) t.params ≡ false) written flawless) in
      begins_soundly tree t.params (scope_of tree t) refl refl once named

first_none : (tree : Tree) → breaches tree ≡ [] → first_breach tree ≡ None
first_none tree none = (none_without_first tree).1 none

pub declared_none : (tree : Tree) → breaches tree ≡ [] → first_in (first_declared tree) tree ≡ None
declared_none tree none =
    let a = option_or_parts _ _ (first_none tree none) in
    let b = option_or_parts _ _ a.1 in
    (option_or_parts (first_in (first_declared tree) tree) _ b.1).0

bodies_none : (tree : Tree) → breaches tree ≡ [] → first_in (λ (i : ItemTree). first_in_body tree i.form) tree ≡ None
bodies_none tree none =
    let a = option_or_parts _ _ (first_none tree none) in
    let b = option_or_parts _ _ a.1 in
    let c = option_or_parts (first_in (first_declared tree) tree) _ b.1 in
    (option_or_parts (first_in (λ (i : ItemTree). first_in_body tree i.form) tree) _ c.1).0

-- the body of a task among the items
pub body_known : (tree : Tree) (none : breaches tree ≡ []) (line : ℕ) (t : TaskTree) → Has tree (record { line = line; form = task_item t }) →
    (body_scope tree t ≡ scope_of tree t) × IsSoundScope (body_scope tree t) × (first_in_block tree t (body_scope tree t) t.body ≡ None)
body_known tree none line t h =
    let declared = declared_none tree none in
    let stands = Contains-from_Has (map (λ (i : ItemTree). i.form) tree) (task_item t) (Has-map (λ (i : ItemTree). i.form) tree (record { line = line; form = task_item t }) h) in
    let same = body_scope_written tree t (standing_sound tree declared t stands) in
    let body = none_of (λ (i : ItemTree). first_in_body tree i.form) tree (record { line = line; form = task_item t }) (bodies_none tree none) h in
    (same, subst IsSoundScope (sym same) (scope_sound tree declared line t h), body)

pub bodies_are_meant : BodiesAreMeant
bodies_are_meant tree t none stands =
    let sound = all_is_sound tree (declared_none tree none) in
    let found = Has-map_cases (λ (i : ItemTree). i.form) tree (task_item t) (Has-from_Contains (map (λ (i : ItemTree). i.form) tree) (task_item t) stands) in
    let item = found.0 in
    let here = body_known tree none item.line t (subst (λ form. Has tree (record { line = item.line; form = form })) found.2 found.1) in
    (here.0, (block_known tree t sound (body_scope tree t) t.body here.1 here.2).0 ∙ ap (λ x. scope_after_block tree x t.body) here.0)

item_known : (tree : Tree) (none : breaches tree ≡ []) (line : ℕ) (form : ItemForm) → Has tree (record { line = line; form = form }) →
    (v : Visit) → Has (visits_of_item tree form) v →
    IsSoundScope v.scope
    × ((e : Expression) → Contains (expressions_at v.scope.names v.form) e → IsAsMeant tree v.scope e)
item_known tree none line (task_item t) h v k =
    let here = body_known tree none line t h in
    visit_block tree t (all_is_sound tree (declared_none tree none)) (body_scope tree t) t.body here.1 here.2 v k
item_known tree none line import_item h v k = absurd k
item_known tree none line (alias_item n) h v k = absurd k
item_known tree none line (space_item s) h v k = absurd k
item_known tree none line (start_item n) h v k = absurd k

-- ---- statements as the meaning has them

item_meant : (tree : Tree) (none : breaches tree ≡ []) (line : ℕ) (form : ItemForm) → Has tree (record { line = line; form = form }) →
    visits_of_item tree form ≡ meant_of_item tree form
item_meant tree none line (task_item t) h =
    let here = body_known tree none line t h in
    block_meant tree t (all_is_sound tree (declared_none tree none)) (body_scope tree t) t.body here.1 here.2
    ∙ ap (λ s. meant_in tree t s t.body) here.0
item_meant tree none line import_item h = refl
item_meant tree none line (alias_item n) h = refl
item_meant tree none line (space_item s) h = refl
item_meant tree none line (start_item n) h = refl

same_flat : {A B : Type 0} (f g : A → List B) (xs : List A) → ((x : A) → Has xs x → f x ≡ g x) → flat_map f xs ≡ flat_map g xs
same_flat f g [] h = refl
same_flat f g (x ∷ xs) h = λ j. h x (inl refl) j ++ same_flat f g xs (λ y k. h y (inr k)) j

pub statements_are_meant : StatementsAreMeant
statements_are_meant tree none =
    same_flat (λ (i : ItemTree). visits_of_item tree i.form) (λ (i : ItemTree). meant_of_item tree i.form) tree
    (λ i h. item_meant tree none i.line i.form h)

pub all_is_known : AllIsKnown
all_is_known tree v none stands =
    let visited = subst (λ vs. Contains vs v) (sym (statements_are_meant tree none)) stands in
    let found = has_flat (λ (i : ItemTree). visits_of_item tree i.form) tree v (Has-from_Contains (visits tree) v visited) in
    item_known tree none found.0.line found.0.form found.1 v found.2
