-- The first rule that an expression breaches, against the test of each rule on it and its parts.
use Rattle.std.proofs.Common.{◌≡◌, Bool, false, ◌||◌, not, List, [], ◌∷◌, ◌++◌, map, refl, ap, sym, ◌∙◌}
use Rattle.std.specs.List.{list_all, list_any, flat_map}
use Rattle.std.specs.Option.{option_or}
use Rattle.std.proofs.lemmas.List.{append-nil, map-append}
use Rattle.std.proofs.lemmas.List.Folds.{list_any-append}
use Rattle.regent_tree.specs.Lookup.{is_bound, type_named}
use Rattle.regent_tree.specs.Scopes.{Scope}
use Rattle.regent_tree.specs.Syntax.{Expression, Expressions, Links, Name, Steps, TaskTree, Tree, a_link, access_expr, an_expr, at_step, call_expr, cast_expr, chain_expr, convert_expr, field_step, is_null_expr, no_expr, no_link, no_step, null_expr, number_expr, prefix_expr, space_expr, truth_expr}
use Rattle.regent_tree.specs.Typing.{type_of_element, type_of_field}
use Rattle.regent_tree.specs.declared.expression.Operator.{Operator}
use Rattle.regent_tree.specs.declared.expression.Sign.{Sign}
use Rattle.regent_tree.specs.declared.expression.Sign.TheVariants.{Minus, Not}
use Rattle.regent_tree.specs.declared.facts.Known.{Known}
use Rattle.regent_tree.specs.declared.rights.Access.TheVariants.{Read}
use Rattle.regent_tree.specs.declared.rights.Wanted.{Wanted}
use Rattle.regent_tree.specs.declared.types.PointerTerm.{PointerTerm}
use Rattle.regent_tree.specs.declared.types.TypeTerm.{TypeTerm}
use Rattle.regent_tree.specs.declared.types.TypeTerm.TheVariants as typed
use Rattle.regent_tree.specs.declared.typing.Bound.{Bound}
use Rattle.regent_tree.specs.declared.typing.StaticType.{StaticType}
use Rattle.check_rules.specs.rules.Constraints.{breaks_constraint}
use Rattle.check_rules.specs.rules.Counts.{miscounts_call, miscounts_in_type}
use Rattle.check_rules.specs.types.Declarations.{params_of}
use Rattle.check_rules.specs.first.FirstInExpressions.{first_in_args, first_in_expression, first_in_links, first_in_steps, first_in_target, first_in_target_steps, first_in_type, first_of_call, first_of_operator, first_of_signs, first_of_standing, first_of_step, first_of_taking}
use Rattle.check_rules.specs.types.KnownTypes.{computings, known_type, known_types, typed_form_of, signings, takings, known_type_after_operator, known_type_after_signs, known_type_after_step}
use Rattle.check_rules.specs.rules.Names.{has_unbound_name, is_unknown_field, unbound_name_in_type, is_unknown_task}
use Rattle.check_rules.specs.rules.Partitions.{miscolours_in_type, mispartitions_call}
use Rattle.check_rules.specs.types.Parts.{subexpressions, parts_of_args, parts_of_links, parts_of_steps}
use Rattle.check_rules.specs.rules.Places.{misplaces, misplaces_in}
use Rattle.check_rules.specs.rules.Pointers.{takes_of_wild_in, wrong_region_in_type, takes_of_wild}
use Rattle.check_rules.specs.rules.Privileges.{lacks, may_do, read_steps, reads_in, rights_declared, wanted_by_call, wanted_of_step}
use Rattle.check_rules.specs.first.Rules.{rule_if}
use Rattle.check_rules.specs.types.TypedForms.{Calling, Computing, TypedForm, Signing, Taking, typed_access, call_in, typed_call, calling, typed_cast, typed_chain, computing, typed_constant, typed_convert, element_of, field_of, typed_is_null, typed_null, typed_prefix, typed_space, written_in}
use Rattle.check_rules.specs.types.Sorts.{is_collection}
use Rattle.check_rules.specs.rules.Spaces.{misfits_call, misfits_in_type}
use Rattle.check_rules.specs.rules.Standing.{Standing, integer_spot, number_spot, pointer_spot, spot_of_sign, standing_in_call, standing_in_chain, standing_in_step, stands}
use Rattle.check_rules.specs.rules.Types.{has_no_result, is_ill_typed_operation, is_ill_typed_at_place, is_ill_typed_step, mistypes}
use Rattle.check_rules.specs.declared.rule.Rule.{Rule}
use Rattle.check_rules.specs.declared.rule.Rule.TheVariants as rule
use Rattle.check_rules.proofs.Exchange.{Finding, Tells, any_finding, asked, asked_of_all, by_test, list_any_either, list_any_flat, list_any_mapped, list_any_never, list_any_same, not_all, only, or_crossed, or_nothing, or_regrouped, or_swapped, or_turned, tells_if, or_placed, or_same, tells_or, tells_same, tells_two}

-- what is wanted for each of a list
pub lacks_flat : {A : Type 0} (tree : Tree) (task : TaskTree) (s : Scope) (f : A → List Wanted) →
    (xs : List A) →
    lacks tree task s (flat_map f xs) ≡ list_any (λ x. lacks tree task s (f x)) xs
lacks_flat tree task s f xs =
    let may = may_do (rights_declared tree task) s.known in
    not_all may (flat_map f xs) ∙ list_any_flat (λ w. not (may w)) f xs
    ∙ list_any_same (λ x. list_any (λ w. not (may w)) (f x)) (λ x. not (list_all may (f x)))
    (λ x. sym (not_all may (f x))) xs

-- ---- written types, and what stands somewhere

abbrev pub type_test : Tree → List Bound → TypeTerm → Rule → Bool
type_test tree names t rule.Name = unbound_name_in_type tree names t
type_test tree names t rule.Count = miscounts_in_type tree t
type_test tree names t rule.Pointer = wrong_region_in_type tree names t
type_test tree names t rule.Spaces = misfits_in_type tree names t
type_test tree names t rule.Partition = miscolours_in_type names t
type_test tree names t q = false

abbrev pub type_findings : Tree → List Bound → TypeTerm → List Finding
type_findings tree names t = asked (unbound_name_in_type tree names t) rule.Name
    ∷ asked (miscounts_in_type tree t) rule.Count
    ∷ asked (wrong_region_in_type tree names t) rule.Pointer
    ∷ asked (misfits_in_type tree names t) rule.Spaces
    ∷ asked (miscolours_in_type names t) rule.Partition
    ∷ []

pub type_parts : (tree : Tree) (names : List Bound) (t : TypeTerm) (q : Rule) →
    any_finding (type_findings tree names t) q ≡ type_test tree names t q
type_parts tree names t rule.Name = or_nothing _
type_parts tree names t rule.Count = or_nothing _
type_parts tree names t rule.Pointer = or_nothing _
type_parts tree names t rule.Spaces = or_nothing _
type_parts tree names t rule.Partition = or_nothing _
type_parts tree names t q = refl

abbrev pub of_type : Tree → List Bound → TypeTerm → Finding
of_type tree names t = by_test (first_in_type tree names t) (type_test tree names t)
    (type_findings tree names t) refl (type_parts tree names t)

abbrev pub standing_test : List Known → Standing → Rule → Bool
standing_test known t rule.Place = misplaces t
standing_test known t rule.Type = is_ill_typed_at_place known t
standing_test known t q = false

abbrev pub standing_findings : List Known → Standing → List Finding
standing_findings known t =
    asked (misplaces t) rule.Place ∷ asked (is_ill_typed_at_place known t) rule.Type ∷ []

pub standing_parts : (known : List Known) (t : Standing) (q : Rule) →
    any_finding (standing_findings known t) q ≡ standing_test known t q
standing_parts known t rule.Place = or_nothing _
standing_parts known t rule.Type = or_nothing _
standing_parts known t q = refl

abbrev pub of_standing : List Known → Standing → Finding
of_standing known t = by_test (first_of_standing known t) (standing_test known t)
    (standing_findings known t) refl (standing_parts known t)

-- ---- parts of expressions

abbrev operator_test : Computing → Rule → Bool
operator_test c rule.Place = is_collection c.left || is_collection c.right
operator_test c rule.Type = is_ill_typed_operation c
operator_test c q = false

abbrev operator_findings : Computing → List Finding
operator_findings c = asked (is_collection c.left || is_collection c.right) rule.Place
    ∷ asked (is_ill_typed_operation c) rule.Type ∷ []

operator_parts : (c : Computing) (q : Rule) →
    any_finding (operator_findings c) q ≡ operator_test c q
operator_parts c rule.Place = or_nothing _
operator_parts c rule.Type = or_nothing _
operator_parts c q = refl

abbrev of_operator : Computing → Finding
of_operator c =
    by_test (first_of_operator c) (operator_test c) (operator_findings c) refl (operator_parts c)

-- a prefix looks at nothing that is known
abbrev sign_test : Signing → Rule → Bool
sign_test g q = standing_test [] (stands g.operand (spot_of_sign g.sign)) q

tells_signs : (signs : List Sign) (t : StaticType) →
    Tells (first_of_signs signs t) (λ q. list_any (λ g. sign_test g q) (signings signs t))
tells_signs [] t = λ q. refl
tells_signs (sign ∷ signs) t =
    let inner = stands (known_type_after_signs signs t) (spot_of_sign sign) in
    let test : Rule → Bool = λ q. list_any (λ g. sign_test g q) (signings signs t) in
    tells_two (first_of_signs signs t) (first_of_standing [] inner) test (standing_test [] inner)
    (λ q. standing_test [] inner q || test q)
    (λ q. or_swapped (test q) (standing_test [] inner q))
    (tells_signs signs t) (of_standing [] inner).tells

-- a step, but for the reading of a field
abbrev pub taking_test : Tree → Taking → Rule → Bool
taking_test tree taking rule.Name = is_unknown_field tree taking
taking_test tree taking rule.Type =
    is_ill_typed_step taking || list_any (is_ill_typed_at_place []) (standing_in_step taking)
taking_test tree taking rule.Place = list_any misplaces (standing_in_step taking)
taking_test tree taking rule.Pointer = takes_of_wild taking
taking_test tree taking q = false

abbrev pub taking_findings : Tree → Taking → List Finding
taking_findings tree taking = asked (is_unknown_field tree taking) rule.Name
    ∷ asked (is_ill_typed_step taking) rule.Type
    ∷ asked_of_all (of_standing []) (standing_in_step taking)
    ∷ asked (takes_of_wild taking) rule.Pointer
    ∷ []

pub taking_parts : (tree : Tree) (taking : Taking) (q : Rule) →
    any_finding (taking_findings tree taking) q ≡ taking_test tree taking q
taking_parts tree taking rule.Name = ap (λ b. is_unknown_field tree taking || (b || false))
    (list_any_never (standing_in_step taking)) ∙ or_nothing _
taking_parts tree taking rule.Type = ap (λ b. is_ill_typed_step taking || b) (or_nothing _)
taking_parts tree taking rule.Place = or_nothing _
taking_parts tree taking rule.Pointer =
    ap (λ b. b || (takes_of_wild taking || false)) (list_any_never (standing_in_step taking))
    ∙ or_nothing _
taking_parts tree taking q = or_nothing _ ∙ list_any_never (standing_in_step taking)

abbrev pub of_taking : Tree → Taking → Finding
of_taking tree taking = by_test (first_of_taking tree taking) (taking_test tree taking)
    (taking_findings tree taking) refl (taking_parts tree taking)

module _ (tree : Tree) (task : TaskTree) (s : Scope) where
  abbrev pub reading_test : Taking → Rule → Bool
  reading_test taking q = only rule.Read (lacks tree task s (wanted_of_step tree Read taking)) q

  abbrev pub step_test : Taking → Rule → Bool
  step_test taking q = taking_test tree taking q || reading_test taking q

  tells_step : (taking : Taking) →
      Tells (first_of_step tree task s taking) (step_test taking)
  tells_step taking = tells_or (first_of_taking tree taking) _ (taking_test tree taking)
      (reading_test taking) (of_taking tree taking).tells (tells_if _ rule.Read)

  abbrev pub call_test : Calling → Rule → Bool
  call_test c rule.Name = is_unknown_task tree c
  call_test c rule.Count = miscounts_call tree c
  call_test c rule.Place = list_any misplaces (standing_in_call tree c)
  call_test c rule.Type = list_any (is_ill_typed_at_place s.known) (standing_in_call tree c)
  call_test c rule.Spaces = misfits_call (params_of tree c.task) c
  call_test c rule.Partition = mispartitions_call (params_of tree c.task) c
  call_test c rule.CallPrivilege = lacks tree task s (wanted_by_call tree c)
  call_test c rule.CallConstraint = breaks_constraint tree s.known c
  call_test c q = false

  abbrev pub call_findings : Calling → List Finding
  call_findings c = asked (is_unknown_task tree c) rule.Name
      ∷ asked (miscounts_call tree c) rule.Count
      ∷ asked_of_all (of_standing s.known) (standing_in_call tree c)
      ∷ asked (misfits_call (params_of tree c.task) c) rule.Spaces
      ∷ asked (mispartitions_call (params_of tree c.task) c) rule.Partition
      ∷ asked (lacks tree task s (wanted_by_call tree c)) rule.CallPrivilege
      ∷ asked (breaks_constraint tree s.known c) rule.CallConstraint
      ∷ []

  -- a rule that is asked of the call alone
  alone_before : (c : Calling) (b : Bool) →
      (b || (list_any (λ t. false) (standing_in_call tree c) || false)) ≡ b
  alone_before c b = ap (λ n. b || (n || false)) (list_any_never (standing_in_call tree c))
      ∙ or_nothing b

  alone_after : (c : Calling) (b : Bool) →
      (list_any (λ t. false) (standing_in_call tree c) || (b || false)) ≡ b
  alone_after c b = ap (λ n. n || (b || false)) (list_any_never (standing_in_call tree c))
      ∙ or_nothing b

  pub call_parts : (c : Calling) (q : Rule) → any_finding (call_findings c) q ≡ call_test c q
  call_parts c rule.Name = alone_before c _
  call_parts c rule.Count = alone_before c _
  call_parts c rule.Place = or_nothing _
  call_parts c rule.Type = or_nothing _
  call_parts c rule.Spaces = alone_after c _
  call_parts c rule.Partition = alone_after c _
  call_parts c rule.CallPrivilege = alone_after c _
  call_parts c rule.CallConstraint = alone_after c _
  call_parts c q = or_nothing _ ∙ list_any_never (standing_in_call tree c)

  abbrev pub of_call : Calling → Finding
  of_call c = by_test (first_of_call tree task s c) (call_test c) (call_findings c) refl
      (call_parts c)

  -- ---- shapes

  -- the test of each rule on an expression alone
  abbrev pub typed_form_test : TypedForm → Rule → Bool
  typed_form_test typed_form rule.Name = has_unbound_name tree s.names typed_form
      || list_any (unbound_name_in_type tree s.names) (written_in typed_form)
  typed_form_test typed_form rule.Type = mistypes tree s.known typed_form
  typed_form_test typed_form rule.Count = list_any (miscounts_call tree) (call_in typed_form)
      || list_any (miscounts_in_type tree) (written_in typed_form)
  typed_form_test typed_form rule.Place = misplaces_in tree typed_form
  typed_form_test typed_form rule.Read = lacks tree task s (reads_in tree typed_form)
  typed_form_test typed_form rule.CallPrivilege =
      lacks tree task s (flat_map (wanted_by_call tree) (call_in typed_form))
  typed_form_test typed_form rule.CallConstraint =
      list_any (breaks_constraint tree s.known) (call_in typed_form)
  typed_form_test typed_form rule.Pointer =
      takes_of_wild_in typed_form || list_any (wrong_region_in_type tree s.names) (written_in typed_form)
  typed_form_test typed_form rule.Spaces =
      list_any (λ (c : Calling). misfits_call (params_of tree c.task) c) (call_in typed_form)
      || list_any (misfits_in_type tree s.names) (written_in typed_form)
  typed_form_test typed_form rule.Partition =
      list_any (λ (c : Calling). mispartitions_call (params_of tree c.task) c) (call_in typed_form)
      || list_any (miscolours_in_type s.names) (written_in typed_form)
  typed_form_test typed_form q = false

  chain_parts : (cs : List Computing) (q : Rule) →
      typed_form_test (typed_chain cs) q ≡ list_any (λ c. operator_test c q) cs
  chain_parts cs rule.Type = ap (λ b. list_any is_ill_typed_operation cs || b)
      (list_any_flat (is_ill_typed_at_place s.known) standing_in_chain cs ∙ list_any_never cs)
      ∙ or_nothing (list_any is_ill_typed_operation cs)
  chain_parts cs rule.Place = list_any_flat misplaces standing_in_chain cs
      ∙ list_any_same (λ c. list_any misplaces (standing_in_chain c))
      (λ (c : Computing). is_collection c.left || is_collection c.right)
      (λ (c : Computing). ap (λ b. is_collection c.left || b) (or_nothing (is_collection c.right)))
      cs
  chain_parts cs q = sym (list_any_never cs)

  prefix_parts : (gs : List Signing) (q : Rule) →
      typed_form_test (typed_prefix gs) q ≡ list_any (λ g. sign_test g q) gs
  prefix_parts gs rule.Type =
      let put : Signing → Standing = λ (g : Signing). stands g.operand (spot_of_sign g.sign) in
      list_any_mapped (is_ill_typed_at_place s.known) put gs
      ∙ list_any_same (λ g. is_ill_typed_at_place s.known (put g)) (λ g. is_ill_typed_at_place [] (put g))
      (λ (g : Signing). looks_at_none g.sign g.operand) gs
    where
      looks_at_none : (sign : Sign) (t : StaticType) →
          is_ill_typed_at_place s.known (stands t (spot_of_sign sign))
          ≡ is_ill_typed_at_place [] (stands t (spot_of_sign sign))
      looks_at_none Not t = refl
      looks_at_none Minus t = refl
  prefix_parts gs rule.Place = list_any_mapped misplaces
      (λ (g : Signing). stands g.operand (spot_of_sign g.sign)) gs
  prefix_parts gs q = sym (list_any_never gs)

  typed_call_parts : (c : Calling) (q : Rule) → typed_form_test (typed_call c) q
      ≡ (call_test c q || only rule.Type (has_no_result tree c) q)
  typed_call_parts c rule.Count = or_nothing _
  typed_call_parts c rule.Type =
      or_swapped (has_no_result tree c) (list_any (is_ill_typed_at_place s.known) (standing_in_call tree c))
  typed_call_parts c rule.Place = sym (or_nothing _)
  typed_call_parts c rule.CallPrivilege =
      ap (lacks tree task s) (append-nil (wanted_by_call tree c)) ∙ sym (or_nothing _)
  typed_call_parts c rule.Spaces = or_nothing _
  typed_call_parts c rule.Partition = or_nothing _
  typed_call_parts c q = refl

  -- a test of each step that no step's reading is for
  unread : (ts : List Taking) (b : Bool) → b ≡ (b || list_any (λ (t : Taking). false) ts)
  unread ts b = sym (ap (λ n. b || n) (list_any_never ts) ∙ or_nothing b)

  access_parts : (n : Name) (ts : List Taking) (q : Rule) → typed_form_test (typed_access n ts) q
      ≡ (only rule.Name (not (is_bound s.names n)) q
      || (list_any (λ t. taking_test tree t q) ts || list_any (λ t. reading_test t q) ts))
  access_parts n ts rule.Name = or_nothing _
      ∙ ap (λ b. not (is_bound s.names n) || b) (unread ts (list_any (is_unknown_field tree) ts))
  access_parts n ts rule.Type = ap (λ b. list_any is_ill_typed_step ts || b)
      (list_any_flat (is_ill_typed_at_place s.known) standing_in_step ts
      ∙ list_any_same (λ t. list_any (is_ill_typed_at_place s.known) (standing_in_step t))
      (λ t. list_any (is_ill_typed_at_place []) (standing_in_step t)) looks_at_none ts)
      ∙ sym (list_any_either is_ill_typed_step (λ t. list_any (is_ill_typed_at_place []) (standing_in_step t)) ts)
      ∙ unread ts _
    where
      looks_at_none : (t : Taking) → list_any (is_ill_typed_at_place s.known) (standing_in_step t)
          ≡ list_any (is_ill_typed_at_place []) (standing_in_step t)
      looks_at_none (field_of t f) = refl
      looks_at_none (element_of t e) = refl
  access_parts n ts rule.Place =
      list_any_flat misplaces standing_in_step ts ∙ unread ts _
  access_parts n ts rule.Pointer = or_nothing _ ∙ unread ts _
  access_parts n ts rule.Read = lacks_flat tree task s (wanted_of_step tree Read) ts
      ∙ sym (ap (λ b. b || list_any (λ t. lacks tree task s (wanted_of_step tree Read t)) ts)
      (list_any_never ts))
  access_parts n ts q = sym (ap (λ b. b || b) (list_any_never ts))

  convert_parts : (t : StaticType) (q : Rule) →
      typed_form_test (typed_convert t) q ≡ standing_test [] (stands t number_spot) q
  convert_parts t rule.Type = or_nothing _
  convert_parts t rule.Place = or_nothing _
  convert_parts t q = refl

  is_null_parts : (t : StaticType) (q : Rule) →
      typed_form_test (typed_is_null t) q ≡ standing_test [] (stands t pointer_spot) q
  is_null_parts t rule.Type = or_nothing _
  is_null_parts t rule.Place = or_nothing _
  is_null_parts t q = refl

  space_parts : (t : StaticType) (q : Rule) →
      typed_form_test (typed_space t) q ≡ standing_test [] (stands t integer_spot) q
  space_parts t rule.Type = or_nothing _
  space_parts t rule.Place = or_nothing _
  space_parts t q = refl

  null_parts : (p : PointerTerm) (q : Rule) →
      typed_form_test (typed_null p) q ≡ type_test tree s.names (typed.Pointer p) q
  null_parts p rule.Name = or_nothing _
  null_parts p rule.Count = or_nothing _
  null_parts p rule.Pointer = or_nothing _
  null_parts p rule.Spaces = or_nothing _
  null_parts p q = refl

  cast_parts : (p : PointerTerm) (t : StaticType) (q : Rule) → typed_form_test (typed_cast p t) q
      ≡ (standing_test [] (stands t number_spot) q || type_test tree s.names (typed.Pointer p) q)
  cast_parts p t rule.Name = or_nothing _
  cast_parts p t rule.Count = or_nothing _
  cast_parts p t rule.Pointer = or_nothing _
  cast_parts p t rule.Spaces = or_nothing _
  cast_parts p t q = refl

  -- ---- expressions

  -- the test of each rule on any of these expressions alone
  abbrev pub found : List Expression → Rule → Bool
  found es q = list_any (λ typed_form. typed_form_test typed_form q) (map (typed_form_of tree s) es)

  pub found-append : (es others : List Expression) (q : Rule) →
      found (es ++ others) q ≡ (found es q || found others q)
  found-append es others q = ap (list_any (λ typed_form. typed_form_test typed_form q))
      (map-append (typed_form_of tree s) es others)
      ∙ list_any-append (λ typed_form. typed_form_test typed_form q) (map (typed_form_of tree s) es)
      (map (typed_form_of tree s) others)

  -- an expression whose own test comes behind those of its parts
  headed : (e : Expression) (inner : List Expression) (own : Rule → Bool) →
      ((q : Rule) → typed_form_test (typed_form_of tree s e) q ≡ own q) → (q : Rule) →
      (found inner q || own q) ≡ found (e ∷ inner) q
  headed e inner own h q = or_swapped (found inner q) (own q)
      ∙ ap (λ b. b || found inner q) (sym (h q))

  constant_parts : (q : Rule) → false ≡ (typed_form_test typed_constant q || false)
  constant_parts rule.Name = refl
  constant_parts q = refl

  abbrev links_test : StaticType → Links → Rule → Bool
  links_test t rest q = list_any (λ c. operator_test c q) (computings tree s t rest)
      || found (parts_of_links rest) q

  abbrev steps_test : StaticType → Steps → Rule → Bool
  steps_test t steps q = list_any (λ k. step_test k q) (takings tree s t steps)
      || found (parts_of_steps steps) q

  chain_whole : (first : Expression) (rest : Links) (q : Rule) →
      (found (subexpressions first) q || links_test (known_type tree s first) rest q)
      ≡ found (subexpressions (chain_expr first rest)) q
  chain_whole first rest q = let cs = computings tree s (known_type tree s first) rest in
      or_turned (found (subexpressions first) q) (list_any (λ c. operator_test c q) cs)
      (found (parts_of_links rest) q)
      ∙ or_same (list_any (λ c. operator_test c q) cs) _ (typed_form_test (typed_chain cs) q) _
      (sym (chain_parts cs q)) (sym (found-append (subexpressions first) (parts_of_links rest) q))

  link_whole : (o : Operator) (t : StaticType) (e : Expression) (rest : Links) (q : Rule) →
      let c = computing o t (known_type tree s e) in
      (found (subexpressions e) q || (operator_test c q || links_test (known_type_after_operator c) rest q))
      ≡ links_test t (a_link o e rest) q
  link_whole o t e rest q = let c = computing o t (known_type tree s e) in
      let more = list_any (λ d. operator_test d q)
      (computings tree s (known_type_after_operator c) rest) in
      or_placed (found (subexpressions e) q) (operator_test c q) more (found (parts_of_links rest) q)
      ∙ ap (λ b. operator_test c q || more || b)
      (sym (found-append (subexpressions e) (parts_of_links rest) q))

  step_whole : (e : Expression) (k : Taking) (t : StaticType) (rest : Steps) (q : Rule) →
      (found (subexpressions e) q || (step_test k q || steps_test t rest q))
      ≡ (step_test k q || list_any (λ j. step_test j q) (takings tree s t rest)
      || found (subexpressions e ++ parts_of_steps rest) q)
  step_whole e k t rest q = let more = list_any (λ j. step_test j q) (takings tree s t rest) in
      or_placed (found (subexpressions e) q) (step_test k q) more (found (parts_of_steps rest) q)
      ∙ ap (λ b. step_test k q || more || b)
      (sym (found-append (subexpressions e) (parts_of_steps rest) q))

  access_whole : (n : Name) (steps : Steps) (q : Rule) →
      (only rule.Name (not (is_bound s.names n)) q || steps_test (type_named s.names n) steps q)
      ≡ found (subexpressions (access_expr n steps)) q
  access_whole n steps q =
      let ks = takings tree s (type_named s.names n) steps in
      let bound = only rule.Name (not (is_bound s.names n)) q in
      sym (or_regrouped bound (list_any (λ k. step_test k q) ks) (found (parts_of_steps steps) q))
      ∙ ap (λ b. b || found (parts_of_steps steps) q)
      (ap (λ b. bound || b)
      (list_any_either (λ k. taking_test tree k q) (λ k. reading_test k q) ks)
      ∙ sym (access_parts n ks q))

  mutual
    pub tells_expression : (e : Expression) →
        Tells (first_in_expression tree task s e) (found (subexpressions e))
    tells_expression (number_expr z w) = λ q. sym (constant_parts q)
    tells_expression (truth_expr b) = λ q. sym (constant_parts q)
    tells_expression (chain_expr first rest) = let t = known_type tree s first in
        tells_two (first_in_expression tree task s first) (first_in_links tree task s t rest)
        (found (subexpressions first)) (links_test t rest) (found (subexpressions (chain_expr first rest)))
        (chain_whole first rest) (tells_expression first) (tells_links t rest)
    tells_expression (prefix_expr signs e) = let t = known_type tree s e in
        let own : Rule → Bool = λ q. list_any (λ g. sign_test g q) (signings signs t) in
        tells_two (first_in_expression tree task s e) (first_of_signs signs t) (found (subexpressions e)) own
        (found (subexpressions (prefix_expr signs e)))
        (headed (prefix_expr signs e) (subexpressions e) own (prefix_parts (signings signs t)))
        (tells_expression e) (tells_signs signs t)
    tells_expression (call_expr name args) =
        let c = calling name (known_types tree s args) in
        let own : Rule → Bool = λ q. call_test c q || only rule.Type (has_no_result tree c) q in
        tells_two (first_in_args tree task s args)
        (option_or (first_of_call tree task s c) (rule_if (has_no_result tree c) rule.Type))
        (found (parts_of_args args)) own (found (subexpressions (call_expr name args)))
        (headed (call_expr name args) (parts_of_args args) own (typed_call_parts c))
        (tells_args args)
        (tells_or (first_of_call tree task s c) (rule_if (has_no_result tree c) rule.Type)
        (call_test c) (only rule.Type (has_no_result tree c)) (of_call c).tells
        (tells_if (has_no_result tree c) rule.Type))
    tells_expression (access_expr n steps) = let t = type_named s.names n in
        tells_two (rule_if (not (is_bound s.names n)) rule.Name)
        (first_in_steps tree task s t steps)
        (only rule.Name (not (is_bound s.names n))) (steps_test t steps)
        (found (subexpressions (access_expr n steps))) (access_whole n steps)
        (tells_if (not (is_bound s.names n)) rule.Name) (tells_steps t steps)
    tells_expression (convert_expr to e) = let t = stands (known_type tree s e) number_spot in
        tells_two (first_in_expression tree task s e) (first_of_standing [] t) (found (subexpressions e))
        (standing_test [] t) (found (subexpressions (convert_expr to e)))
        (headed (convert_expr to e) (subexpressions e) (standing_test [] t)
        (convert_parts (known_type tree s e)))
        (tells_expression e) (of_standing [] t).tells
    tells_expression (is_null_expr e) = let t = stands (known_type tree s e) pointer_spot in
        tells_two (first_in_expression tree task s e) (first_of_standing [] t) (found (subexpressions e))
        (standing_test [] t) (found (subexpressions (is_null_expr e)))
        (headed (is_null_expr e) (subexpressions e) (standing_test [] t)
        (is_null_parts (known_type tree s e)))
        (tells_expression e) (of_standing [] t).tells
    tells_expression (null_expr p) =
        let test = type_test tree s.names (typed.Pointer p) in
        tells_same (first_in_type tree s.names (typed.Pointer p)) test
        (found (subexpressions (null_expr p))) (headed (null_expr p) [] test (null_parts p))
        (of_type tree s.names (typed.Pointer p)).tells
    tells_expression (cast_expr p e) = let t = stands (known_type tree s e) number_spot in
        let written = type_test tree s.names (typed.Pointer p) in
        let own : Rule → Bool = λ q. standing_test [] t q || written q in
        tells_two (first_in_expression tree task s e)
        (option_or (first_of_standing [] t) (first_in_type tree s.names (typed.Pointer p)))
        (found (subexpressions e)) own (found (subexpressions (cast_expr p e)))
        (headed (cast_expr p e) (subexpressions e) own (cast_parts p (known_type tree s e)))
        (tells_expression e)
        (tells_or (first_of_standing [] t) (first_in_type tree s.names (typed.Pointer p))
        (standing_test [] t) written (of_standing [] t).tells
        (of_type tree s.names (typed.Pointer p)).tells)
    tells_expression (space_expr k e) = let t = stands (known_type tree s e) integer_spot in
        tells_two (first_in_expression tree task s e) (first_of_standing [] t) (found (subexpressions e))
        (standing_test [] t) (found (subexpressions (space_expr k e)))
        (headed (space_expr k e) (subexpressions e) (standing_test [] t)
        (space_parts (known_type tree s e)))
        (tells_expression e) (of_standing [] t).tells

    tells_links : (t : StaticType) (rest : Links) →
        Tells (first_in_links tree task s t rest) (links_test t rest)
    tells_links t no_link = λ q. refl
    tells_links t (a_link o e rest) = let c = computing o t (known_type tree s e) in
        let after = known_type_after_operator c in
        let rest_told = first_in_links tree task s after rest in
        tells_two (first_in_expression tree task s e) (option_or (first_of_operator c) rest_told)
        (found (subexpressions e)) (λ q. operator_test c q || links_test after rest q)
        (links_test t (a_link o e rest)) (link_whole o t e rest) (tells_expression e)
        (tells_or (first_of_operator c) rest_told (operator_test c) (links_test after rest)
        (of_operator c).tells (tells_links after rest))

    tells_args : (args : Expressions) →
        Tells (first_in_args tree task s args) (found (parts_of_args args))
    tells_args no_expr = λ q. refl
    tells_args (an_expr e es) =
        tells_two (first_in_expression tree task s e) (first_in_args tree task s es)
        (found (subexpressions e)) (found (parts_of_args es)) (found (parts_of_args (an_expr e es)))
        (λ q. sym (found-append (subexpressions e) (parts_of_args es) q))
        (tells_expression e) (tells_args es)

    tells_steps : (t : StaticType) (steps : Steps) →
        Tells (first_in_steps tree task s t steps) (steps_test t steps)
    tells_steps t no_step = λ q. refl
    tells_steps t (field_step f rest) = let k = field_of t f in
        let after = known_type_after_step tree k (type_of_field tree t f) in
        tells_two (first_of_step tree task s k) (first_in_steps tree task s after rest)
        (step_test k) (steps_test after rest) (steps_test t (field_step f rest))
        (λ q. sym (or_regrouped (step_test k q)
        (list_any (λ j. step_test j q) (takings tree s after rest))
        (found (parts_of_steps rest) q)))
        (tells_step k) (tells_steps after rest)
    tells_steps t (at_step e rest) = let k = element_of t (known_type tree s e) in
        let after = known_type_after_step tree k (type_of_element s t e) in
        let rest_told = first_in_steps tree task s after rest in
        tells_two (first_in_expression tree task s e)
        (option_or (first_of_step tree task s k) rest_told)
        (found (subexpressions e)) (λ q. step_test k q || steps_test after rest q)
        (steps_test t (at_step e rest)) (step_whole e k after rest) (tells_expression e)
        (tells_or (first_of_step tree task s k) rest_told (step_test k) (steps_test after rest)
        (tells_step k) (tells_steps after rest))

  -- ---- the target of an assignment

  -- all steps but for the reading of the field that is assigned
  abbrev target_steps_test : StaticType → Steps → Rule → Bool
  target_steps_test t steps q = list_any (λ k. taking_test tree k q) (takings tree s t steps)
      || list_any (λ k. reading_test k q) (takings tree s t (read_steps steps))
      || found (parts_of_steps steps) q

  -- a field before another step
  field_whole : (k : Taking) (u v t : Bool) (q : Rule) →
      (step_test k q || (u || v || t))
      ≡ (taking_test tree k q || u || (reading_test k q || v) || t)
  field_whole k u v t q = sym (or_regrouped (step_test k q) (u || v) t)
      ∙ ap (λ b. b || t) (or_crossed (taking_test tree k q) (reading_test k q) u v)

  element_whole : (e : Expression) (k : Taking) (u v : Bool) (rest : Steps) (q : Rule) →
      (found (subexpressions e) q || (step_test k q || (u || v || found (parts_of_steps rest) q)))
      ≡ (taking_test tree k q || u || (reading_test k q || v)
      || found (subexpressions e ++ parts_of_steps rest) q)
  element_whole e k u v rest q =
      or_placed (found (subexpressions e) q) (step_test k q) (u || v) (found (parts_of_steps rest) q)
      ∙ or_same (step_test k q || (u || v)) (found (subexpressions e) q || found (parts_of_steps rest) q)
      (taking_test tree k q || u || (reading_test k q || v))
      (found (subexpressions e ++ parts_of_steps rest) q)
      (or_crossed (taking_test tree k q) (reading_test k q) u v)
      (sym (found-append (subexpressions e) (parts_of_steps rest) q))

  last_whole : (a : Bool) → a ≡ (a || false || false || false)
  last_whole a = sym (or_nothing (a || false || false) ∙ or_nothing (a || false) ∙ or_nothing a)

  target_field : (t : StaticType) (f : Name) (rest : Steps) →
      let after = known_type_after_step tree (field_of t f) (type_of_field tree t f) in
      Tells (first_in_target_steps tree task s after rest) (target_steps_test after rest) →
      Tells (first_in_target_steps tree task s t (field_step f rest))
      (target_steps_test t (field_step f rest))
  target_field t f no_step h = tells_same (first_of_taking tree (field_of t f))
      (taking_test tree (field_of t f)) (target_steps_test t (field_step f no_step))
      (λ q. last_whole (taking_test tree (field_of t f) q)) (of_taking tree (field_of t f)).tells
  target_field t f (field_step g more) h = let k = field_of t f in
      let rest = field_step g more in
      let after = known_type_after_step tree k (type_of_field tree t f) in
      tells_two (first_of_step tree task s k) (first_in_target_steps tree task s after rest)
      (step_test k) (target_steps_test after rest) (target_steps_test t (field_step f rest))
      (λ q. field_whole k (list_any (λ j. taking_test tree j q) (takings tree s after rest))
      (list_any (λ j. reading_test j q) (takings tree s after (read_steps rest)))
      (found (parts_of_steps rest) q) q)
      (tells_step k) h
  target_field t f (at_step e more) h = let k = field_of t f in
      let rest = at_step e more in
      let after = known_type_after_step tree k (type_of_field tree t f) in
      tells_two (first_of_step tree task s k) (first_in_target_steps tree task s after rest)
      (step_test k) (target_steps_test after rest) (target_steps_test t (field_step f rest))
      (λ q. field_whole k (list_any (λ j. taking_test tree j q) (takings tree s after rest))
      (list_any (λ j. reading_test j q) (takings tree s after (read_steps rest)))
      (found (parts_of_steps rest) q) q)
      (tells_step k) h

  tells_target_steps : (t : StaticType) (steps : Steps) →
      Tells (first_in_target_steps tree task s t steps) (target_steps_test t steps)
  tells_target_steps t no_step = λ q. refl
  tells_target_steps t (field_step f rest) = target_field t f rest
      (tells_target_steps (known_type_after_step tree (field_of t f) (type_of_field tree t f)) rest)
  tells_target_steps t (at_step e rest) = let k = element_of t (known_type tree s e) in
      let after = known_type_after_step tree k (type_of_element s t e) in
      let rest_told = first_in_target_steps tree task s after rest in
      tells_two (first_in_expression tree task s e)
      (option_or (first_of_step tree task s k) rest_told)
      (found (subexpressions e)) (λ q. step_test k q || target_steps_test after rest q)
      (target_steps_test t (at_step e rest))
      (λ q. element_whole e k
      (list_any (λ j. taking_test tree j q) (takings tree s after rest))
      (list_any (λ j. reading_test j q) (takings tree s after (read_steps rest))) rest q)
      (tells_expression e)
      (tells_or (first_of_step tree task s k) rest_told (step_test k)
      (target_steps_test after rest) (tells_step k) (tells_target_steps after rest))

  -- what stands in the steps stands in those that are read
  read_field_parts : (f : Name) (rest : Steps) →
      parts_of_steps (read_steps rest) ≡ parts_of_steps rest →
      parts_of_steps (read_steps (field_step f rest)) ≡ parts_of_steps rest
  read_field_parts f no_step h = refl
  read_field_parts f (field_step g more) h = h
  read_field_parts f (at_step e more) h = h

  read_parts : (steps : Steps) → parts_of_steps (read_steps steps) ≡ parts_of_steps steps
  read_parts no_step = refl
  read_parts (field_step f rest) = read_field_parts f rest (read_parts rest)
  read_parts (at_step e rest) = ap (λ es. subexpressions e ++ es) (read_parts rest)

  -- a target's fields are read but for the last
  abbrev pub target_test : Name → Steps → Rule → Bool
  target_test n steps rule.Read = found (subexpressions (access_expr n (read_steps steps))) rule.Read
  target_test n steps q = found (subexpressions (access_expr n steps)) q

  -- a rule by which nothing is read
  not_of_reading : (n : Name) (steps : Steps) (q : Rule) →
      ((ks : List Taking) → list_any (λ k. reading_test k q) ks ≡ false) →
      (only rule.Name (not (is_bound s.names n)) q
      || target_steps_test (type_named s.names n) steps q)
      ≡ found (subexpressions (access_expr n steps)) q
  not_of_reading n steps q h = let t = type_named s.names n in
      let bound = only rule.Name (not (is_bound s.names n)) q in
      let taken = list_any (λ k. taking_test tree k q) (takings tree s t steps) in
      let inner = found (parts_of_steps steps) q in
      ap (λ b. bound || (taken || b || inner)) (h (takings tree s t (read_steps steps))
      ∙ sym (h (takings tree s t steps)))
      ∙ sym (or_regrouped bound
      (taken || list_any (λ k. reading_test k q) (takings tree s t steps)) inner)
      ∙ ap (λ b. b || inner) (sym (access_parts n (takings tree s t steps) q))

  target_whole : (n : Name) (steps : Steps) (q : Rule) →
      (only rule.Name (not (is_bound s.names n)) q
      || target_steps_test (type_named s.names n) steps q) ≡ target_test n steps q
  target_whole n steps rule.Read = let t = type_named s.names n in
      let read = takings tree s t (read_steps steps) in
      let reads = list_any (λ k. reading_test k rule.Read) read in
      ap (λ b. b || reads || found (parts_of_steps steps) rule.Read)
      (list_any_never (takings tree s t steps) ∙ sym (list_any_never read))
      ∙ or_same (list_any (λ (k : Taking). false) read || reads)
      (found (parts_of_steps steps) rule.Read)
      (typed_form_test (typed_access n read) rule.Read)
      (found (parts_of_steps (read_steps steps)) rule.Read)
      (sym (access_parts n read rule.Read))
      (ap (λ es. found es rule.Read) (sym (read_parts steps)))
  target_whole n steps rule.Name = not_of_reading n steps rule.Name list_any_never
  target_whole n steps q = not_of_reading n steps q list_any_never

  pub tells_target : (n : Name) (steps : Steps) →
      Tells (first_in_target tree task s n steps) (target_test n steps)
  tells_target n steps = let t = type_named s.names n in
      tells_two (rule_if (not (is_bound s.names n)) rule.Name)
      (first_in_target_steps tree task s t steps)
      (only rule.Name (not (is_bound s.names n))) (target_steps_test t steps)
      (target_test n steps) (target_whole n steps)
      (tells_if (not (is_bound s.names n)) rule.Name) (tells_target_steps t steps)
