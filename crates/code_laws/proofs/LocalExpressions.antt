-- Expressions of which no breach is told are typed.
use Rattle.std.proofs.Common.{◌≡◌, List, [], ◌∷◌, ◌++◌, None, false, true, refl, ap, subst, ◌∙◌, ◌⊎◌, inl, inr, not, arith, ⊎_elim}
use Rattle.std.specs.Prelude.{is_none, length, map, ◌&&◌, ◌||◌}
use Rattle.std.specs.List.{list_any}
use Rattle.std.proofs.lemmas.Bool.{and_parts, not-false, or_parts}
use Rattle.plain_values.proofs.Plain.{option_or_parts}
use Rattle.regent_tree.specs.Limits.{literal, node, nodes, parts_of_expression, parts_of_expressions, parts_of_links, parts_of_pointer, parts_of_steps}
use Rattle.regent_tree.specs.Lookup.{has_task, is_bound}
use Rattle.regent_tree.specs.StaticTypes.{task_named}
use Rattle.regent_tree.specs.Syntax.{Expression, Expressions, Links, Name, Steps, TaskTree, a_link, access_expr, an_expr, at_step, call_expr, cast_expr, chain_expr, convert_expr, field_step, is_null_expr, no_expr, no_link, no_step, null_expr, number_expr, prefix_expr, space_expr, truth_expr}
use Rattle.regent_tree.specs.Typing.{linked_type, operated, param_types, put_in, types_of}
use Rattle.regent_tree.specs.declared.expression.Operator.{Operator}
use Rattle.regent_tree.specs.declared.expression.Operator.TheVariants.{And, Compare, Compute, Or}
use Rattle.regent_tree.specs.declared.types.NumberTerm.{NumberTerm}
use Rattle.regent_tree.specs.declared.types.NumberTerm.TheVariants as number
use Rattle.regent_tree.specs.declared.typing.StaticType.{StaticType}
use Rattle.check_laws.specs.SoundScopes.{IsSoundScope}
use Rattle.check_rules.specs.first.FirstInExpressions.{first_in_args, first_in_expression, first_in_links, first_in_steps, first_of_call, first_of_operator, first_of_signs, first_of_standing, first_of_taking}
use Rattle.check_rules.specs.first.Rules.{rule_if}
use Rattle.check_rules.specs.rules.Spaces.{differs, misfit_in}
use Rattle.check_rules.specs.rules.Standing.{integer_spot, number_spot, param_spot, stand_at, stands, pointer_spot}
use Rattle.check_rules.specs.rules.Types.{has_no_result, is_ill_typed_at_place, operates_on}
use Rattle.check_rules.specs.scopes.Sound.{IsSound, IsSoundTask}
use Rattle.check_rules.specs.types.KnownTypes.{known_type, known_type_after_operator, known_types}
use Rattle.check_rules.specs.types.Sorts.{is_integer, is_region, may_be, is_collection}
use Rattle.check_rules.specs.types.TypedForms.{calling, computing, element_of}
use Rattle.check_rules.specs.declared.rule.Rule.TheVariants as rule
use Rattle.check_rules.proofs.Untold.{rule_none}
use Rattle.code_rules.specs.Slots.{Where, bound, typed}
use Rattle.code_laws.specs.WrittenForms.{are_written_expressions, are_written_links, are_written_steps, has_sign, is_written_expression}
use Rattle.expression_laws.specs.Writing.{has_link}
use Rattle.code_laws.specs.Handing.{forms_by}
use Rattle.code_laws.specs.Pointers.{term_index}
use Rattle.code_laws.specs.Simple.{IsSimple, simple_index, simple_space, simple_truth, term_32, term_64, simple_integer}
use Rattle.code_laws.specs.Steps.{Forms}
use Rattle.code_laws.specs.Typed.{AreNumbers, ArePassed, AreTypedLinks, IsTyped}
use Rattle.code_laws.proofs.KnownHeads.{KnowsHead}
use Rattle.code_laws.proofs.LocalSteps.{further_at, further_behind}
use Rattle.code_laws.proofs.LocalPartElements.{part_fields, part_point}
use Rattle.code_laws.proofs.LocalPrefixes.{access_told}
use Rattle.code_laws.proofs.LocalShapes.{no_index}
use Rattle.code_laws.proofs.LocalNulls.{cast_well, is_null_well, null_well}
use Rattle.code_laws.proofs.LocalParts.{and_then, given_result}
use Rattle.code_laws.proofs.Wider.{zero_simple}
use Rattle.code_laws.proofs.LocalNames.{AllKept, AreTakable, IsLocalTree, named_kept}
use Rattle.code_laws.proofs.TypedStatements.{first_stands}
use Rattle.check_laws.proofs.Widths.{literal_fits}
use Rattle.code_laws.proofs.Typing.{AreKept, kept_behind, kept_left, kept_right, no_way_back, operates, stands_well}
use Rattle.code_laws.proofs.LocalSigns.{signed_well, none_collected}
use Rattle.code_laws.proofs.LocalValues.{IsValue, integer_converts, value_after, value_compared, value_computed, value_integer, value_operated, value_simple, value_truths}
use Rattle.code_laws.proofs.LocalPoints.{IsWell, field_well, local_known, name_there, point_well, IsNumbered, simple_well}
use Rattle.code_laws.proofs.LocalArguments.{IsArgument, IsCallWell, call_well, given_one, part_of_name, name_argument, number_of, placed, well_of}
use Rattle.code_laws.proofs.LocalTaken.{IsCollection, collected_apart, collected_integer, collected_pointed}

module _ (task : TaskTree) (w : Where) (sound : IsSound w.tree) (sound_task : IsSoundTask w.tree task)
    (local : IsLocalTree w.tree) (scope : IsSoundScope w.scope) (names : AllKept true w.scope.names) (head : KnowsHead w.tree task w.scope) where
  abbrev forms : Forms
  forms = forms_by true true w.tree task

  abbrev Value : StaticType → Type 0
  Value t = IsValue true w.scope.names t

  abbrev Well : Expression → Type 0
  Well e = IsWell task w sound sound_task local scope names head e

  abbrev known : (e : Expression) → first_in_expression w.tree task w.scope e ≡ None → known_type w.tree w.scope e ≡ typed w e
  known e told = local_known task w sound sound_task local scope names head e told

  abbrev Any : Expression → Type 0
  Any e = IsArgument task w sound sound_task local scope names head e

  abbrev Numbered : Expression → Type 0
  Numbered e = IsNumbered task w sound sound_task local scope names head e

  abbrev well : (e : Expression) → Any e → (IsCollection (typed w e) → ⊥) → Well e
  well e a none = well_of task w sound sound_task local scope names head e a none

  abbrev simple : (e : Expression) → IsTyped forms w e → IsSimple (typed w e) → Well e
  simple e is s = simple_well task w sound sound_task local scope names head e is s

  -- behind what stands on the left; no operator gives a pointer
  record AreWellLinks (t : StaticType) (ls : Links) : Type 0 where
    are : AreTypedLinks forms w t ls
    gives : (has_link ls ≡ true) ⊎ IsSimple t → IsSimple (linked_type w.tree w.scope t ls)

  -- behind an operator
  by_operator : (o : Operator) (t : StaticType) (e : Expression) (rest : Links) → Value t → Well e → operates_on o t (typed w e) ≡ true →
      (IsSimple (operated o t (typed w e)) → AreWellLinks (operated o t (typed w e)) rest) → AreWellLinks t (a_link o e rest)
  by_operator Or t e rest value a does more =
      let both = value_truths true w.scope.names t (typed w e) value a.value does in
      let r = more simple_truth in
      record { are = (both.0, both.1, a.is, r.are); gives = λ c. r.gives (inr simple_truth) }
  by_operator And t e rest value a does more =
      let both = value_truths true w.scope.names t (typed w e) value a.value does in
      let r = more simple_truth in
      record { are = (both.0, both.1, a.is, r.are); gives = λ c. r.gives (inr simple_truth) }
  by_operator (Compare c) t e rest value a does more =
      let r = more simple_truth in
      record { are = (value_compared true w.scope.names c t (typed w e) value a.value does, a.is, r.are); gives = λ q. r.gives (inr simple_truth) }
  by_operator (Compute o) t e rest value a does more =
      let both = value_computed true w.scope.names t (typed w e) value a.value does in
      let number = value_operated true w.scope.names o t (typed w e) value a.value does in
      let r = more number in
      record { are = (both.0, both.1, a.is, r.are); gives = λ c. r.gives (inr number) }

  -- neither operand is a region or a partition
  left_apart : (o : Operator) (t u : StaticType) → first_of_operator (computing o t u) ≡ None → IsCollection t → ⊥
  left_apart o t u e c = collected_apart t c (or_parts (is_collection t) (is_collection u)
      (rule_none (is_collection t || is_collection u) rule.Place (option_or_parts (rule_if (is_collection t || is_collection u) rule.Place) _ e).0)).0

  right_apart : (o : Operator) (t u : StaticType) → first_of_operator (computing o t u) ≡ None → IsCollection u → ⊥
  right_apart o t u e c = collected_apart u c (or_parts (is_collection t) (is_collection u)
      (rule_none (is_collection t || is_collection u) rule.Place (option_or_parts (rule_if (is_collection t || is_collection u) rule.Place) _ e).0)).1

  -- what stands before a link is none
  link_apart : (t : StaticType) (ls : Links) → has_link ls ≡ true → first_in_links w.tree task w.scope t ls ≡ None → IsCollection t → ⊥
  link_apart t no_link some e c = no_way_back some
  link_apart t (a_link o e rest) some none c = left_apart o t (known_type w.tree w.scope e)
      (option_or_parts (first_of_operator (computing o t (known_type w.tree w.scope e))) _ (option_or_parts (first_in_expression w.tree task w.scope e) _ none).1).0 c

  -- what is converted is an integer or an index
  converted_well : (t : NumberTerm) (e : Expression) → Numbered e → Well (convert_expr t e)
  converted_well number.Int32 e a = simple (convert_expr number.Int32 e) (a.well.is, a.counts, integer_converts true _ term_32) (simple_integer _)
  converted_well number.Int64 e a = simple (convert_expr number.Int64 e) (a.well.is, a.counts, integer_converts true _ term_64) (simple_integer _)
  converted_well (number.Index k) e a =
      simple (convert_expr (number.Index k) e) (a.well.is, a.counts, (term_index k)) (simple_index k)

  -- what stands where a number does
  numbered : (e : Expression) → Any e → first_in_expression w.tree task w.scope e ≡ None →
      first_of_standing [] (stands (known_type w.tree w.scope e) number_spot) ≡ None → Numbered e
  numbered e a told stood = number_of task w sound sound_task local scope names head e a
      (stands_well [] (typed w e) number_spot (subst (λ u. first_of_standing [] (stands u number_spot) ≡ None) (known e told) stood))

  place : (t : StaticType) (e : Expression) → Any e → first_in_expression w.tree task w.scope e ≡ None →
      first_of_taking w.tree (element_of t (known_type w.tree w.scope e)) ≡ None → Numbered e
  place t e a told taking = placed task w sound sound_task local scope names head t e a told taking

  -- no index step stands behind a value
  none_behind : (e i : Expression) (rest : Steps) → first_in_expression w.tree task w.scope e ≡ None → Well e →
      first_in_steps w.tree task w.scope (known_type w.tree w.scope e) (at_step i rest) ≡ None → ⊥
  none_behind e i rest told a none = no_index w.tree task sound local w.scope names (typed w e) i rest a.value
      (subst (λ t. first_in_steps w.tree task w.scope t (at_step i rest) ≡ None) (known e told) none)

  -- the parts of what stands for indices
  kept_first : (n : Name) (e : Expression) (rest : Steps) → AreKept (parts_of_expression (access_expr n (at_step e rest))) → AreKept (parts_of_expression e)
  kept_first n e rest k =
      let parts = parts_of_expression e ++ parts_of_steps rest in
      kept_left (parts_of_expression e) (parts_of_steps rest) (kept_behind node parts (kept_behind node (node ∷ parts) k))

  kept_second : (n : Name) (e i : Expression) (rest : Steps) → AreKept (parts_of_expression (access_expr n (at_step e (at_step i rest)))) →
      AreKept (parts_of_expression i)
  kept_second n e i rest k =
      let parts = parts_of_expression e ++ parts_of_steps (at_step i rest) in
      let more = parts_of_expression i ++ parts_of_steps rest in
      kept_left (parts_of_expression i) (parts_of_steps rest)
      (kept_behind node more (kept_right (parts_of_expression e) (parts_of_steps (at_step i rest)) (kept_behind node parts (kept_behind node (node ∷ parts) k))))

  mutual
    pub local_any : (e : Expression) → is_written_expression e ≡ true → AreKept (parts_of_expression e) →
        first_in_expression w.tree task w.scope e ≡ None → Any e
    local_any (number_expr z v) lo k e = inl (simple (number_expr z v) (literal_fits z v (k (literal z v) (inr (inl refl)))) (simple_integer v))
    local_any (truth_expr b) lo k e = inl (simple (truth_expr b) tt simple_truth)
    local_any (chain_expr first rest) lo k none =
        let s = and_parts (is_written_expression first) (has_link rest && are_written_links rest) lo in
        let ls = and_parts (has_link rest) (are_written_links rest) s.1 in
        let told = option_or_parts (first_in_expression w.tree task w.scope first) _ none in
        let parts = kept_behind node (parts_of_expression first ++ parts_of_links rest) k in
        let more = subst (λ t. first_in_links w.tree task w.scope t rest ≡ None) (known first told.0) told.1 in
        let a = well first (local_any first s.0 (kept_left (parts_of_expression first) (parts_of_links rest) parts) told.0)
        (link_apart (typed w first) rest ls.0 more) in
        let l = local_links (typed w first) rest ls.1 (kept_right (parts_of_expression first) (parts_of_links rest) parts) a.value more in
        inl (simple (chain_expr first rest) (a.is, l.are) (l.gives (inl ls.0)))
    local_any (prefix_expr signs e) lo k none =
        let s = and_parts (has_sign signs) (is_written_expression e) lo in
        let told = option_or_parts (first_in_expression w.tree task w.scope e) _ none in
        let parts = kept_right (nodes signs) (parts_of_expression e) (kept_behind node (nodes signs ++ parts_of_expression e) k) in
        let signed = subst (λ t. first_of_signs signs t ≡ None) (known e told.0) told.1 in
        let a = well e (local_any e s.1 parts told.0) (λ c. none_collected (typed w e) c signs s.0 signed) in
        inl (signed_well task w sound sound_task local scope names head signs e a s.0 signed)
    local_any (access_expr n no_step) lo k e =
        let told = option_or_parts (rule_if (not (is_bound w.scope.names n)) rule.Name) _ e in
        let there = name_there task w sound sound_task local scope names head n told.0 in
        name_argument task w sound sound_task local scope names head n there (bound w n).static_type refl (named_kept true w.scope.names n names there)
    local_any (access_expr n (field_step f no_step)) lo k none = inl (field_well task w sound sound_task local scope names head n f none)
    local_any (access_expr n (field_step f (field_step g rest))) lo k none =
        inl (further_behind task w sound sound_task local scope names head n f g rest none)
    local_any (access_expr n (field_step f (at_step e rest))) lo k none =
        let told = access_told w.tree task w.scope n (field_step f no_step) (at_step e rest) none in
        let from = access_expr n (field_step f no_step) in
        absurd (none_behind from e rest told.0 (field_well task w sound sound_task local scope names head n f told.0) told.1)
    local_any (access_expr n (at_step e no_step)) lo k none =
        let s = and_parts (is_written_expression e) true lo in
        let parts = kept_first n e no_step k in
        part_of_name task w sound sound_task local scope names head n e none (λ own. local_any e s.0 parts own)
    local_any (access_expr n (at_step e (field_step f no_step))) lo k none =
        let s = and_parts (is_written_expression e) true lo in
        let parts = kept_first n e (field_step f no_step) k in
        inl (point_well task w sound sound_task local scope names head n e f none (λ own first. place (bound w n).static_type e (local_any e s.0 parts own) own first))
    local_any (access_expr n (at_step e (field_step f (field_step g rest)))) lo k none =
        let s = and_parts (is_written_expression e) (are_written_steps rest) lo in
        let parts = kept_first n e (field_step f (field_step g rest)) k in
        inl (further_at task w sound sound_task local scope names head n e f g rest none
        (λ own first. place (bound w n).static_type e (local_any e s.0 parts own) own first))
    local_any (access_expr n (at_step e (field_step f (at_step i rest)))) lo k none =
        let s = and_parts (is_written_expression e) (is_written_expression i && are_written_steps rest) lo in
        let parts = kept_first n e (field_step f (at_step i rest)) k in
        let told = access_told w.tree task w.scope n (at_step e (field_step f no_step)) (at_step i rest) none in
        let from = access_expr n (at_step e (field_step f no_step)) in
        absurd (none_behind from i rest told.0 (point_well task w sound sound_task local scope names head n e f told.0
        (λ own first. place (bound w n).static_type e (local_any e s.0 parts own) own first)) told.1)
    local_any (access_expr n (at_step e (at_step i no_step))) lo k none =
        let s = and_parts (is_written_expression e) (is_written_expression i && true) lo in
        let s2 = and_parts (is_written_expression i) true s.1 in
        let parts = kept_first n e (at_step i no_step) k in
        let parts2 = kept_second n e i no_step k in
        inl (part_point task w sound sound_task local scope names head n e i none
        (λ own first. place (bound w n).static_type e (local_any e s.0 parts own) own first)
        (λ t own second. place t i (local_any i s2.0 parts2 own) own second)).well
    local_any (access_expr n (at_step e (at_step i (field_step f rest)))) lo k none =
        let s = and_parts (is_written_expression e) (is_written_expression i && are_written_steps rest) lo in
        let s2 = and_parts (is_written_expression i) (are_written_steps rest) s.1 in
        let parts = kept_first n e (at_step i (field_step f rest)) k in
        let parts2 = kept_second n e i (field_step f rest) k in
        inl (part_fields task w sound sound_task local scope names head n e i f rest k none
        (λ own first. place (bound w n).static_type e (local_any e s.0 parts own) own first)
        (λ t own second. place t i (local_any i s2.0 parts2 own) own second))
    local_any (access_expr n (at_step e (at_step i (at_step d rest)))) lo k none =
        let s = and_parts (is_written_expression e) (is_written_expression i && (is_written_expression d && are_written_steps rest)) lo in
        let s2 = and_parts (is_written_expression i) (is_written_expression d && are_written_steps rest) s.1 in
        let parts = kept_first n e (at_step i (at_step d rest)) k in
        let parts2 = kept_second n e i (at_step d rest) k in
        let told = access_told w.tree task w.scope n (at_step e (at_step i no_step)) (at_step d rest) none in
        let from = access_expr n (at_step e (at_step i no_step)) in
        absurd (none_behind from d rest told.0 (part_point task w sound sound_task local scope names head n e i told.0
        (λ own first. place (bound w n).static_type e (local_any e s.0 parts own) own first)
        (λ t own second. place t i (local_any i s2.0 parts2 own) own second)).well told.1)
    local_any (convert_expr t e) lo k none =
        let told = option_or_parts (first_in_expression w.tree task w.scope e) _ none in
        inl (converted_well t e (numbered e (local_any e lo (kept_behind node (parts_of_expression e) k) told.0) told.0 told.1))
    local_any (call_expr n args) lo k none =
        let told = option_or_parts (first_in_args w.tree task w.scope args) _ none in
        let c = calling n (known_types w.tree w.scope args) in
        let called = option_or_parts (first_of_call w.tree task w.scope c) _ told.1 in
        let p = call_well task w sound sound_task local scope names head n args told.0 called.0
        (λ t. local_given (known_types w.tree w.scope args) (types_of w.tree w.scope args) (param_types w.tree (task_named w.tree n)) args lo
        (kept_behind node (parts_of_expressions args) k) (local.tasks n t.there).params told.0 t.standing t.fits t.many) in
        let given = rule_none (has_no_result w.tree c) rule.Type called.1 in
        let some = and_then (has_task w.tree n) (is_none (task_named w.tree n).result) p.there given in
        let zero = given_result w.tree (task_named w.tree n).result (local.tasks n p.there).result some in
        inl (simple (call_expr n args) (refl, zero, p.callable, p.passed) (zero_simple _ zero))
    local_any (space_expr kind e) lo k none =
        let told = option_or_parts (first_in_expression w.tree task w.scope e) _ none in
        let may = stands_well [] (typed w e) integer_spot
        (subst (λ u. first_of_standing [] (stands u integer_spot) ≡ None) (known e told.0) told.1) in
        let a = well e (local_any e lo (kept_behind node (parts_of_expression e) k) told.0) (λ c. collected_integer (typed w e) c may) in
        inl (simple (space_expr kind e) (a.is, value_integer true w.scope.names (typed w e) a.value may) (simple_space kind))
    local_any (is_null_expr e) lo k none =
        let told = option_or_parts (first_in_expression w.tree task w.scope e) _ none in
        let may = stands_well [] (typed w e) pointer_spot
        (subst (λ u. first_of_standing [] (stands u pointer_spot) ≡ None) (known e told.0) told.1) in
        let a = well e (local_any e lo (kept_behind node (parts_of_expression e) k) told.0) (λ c. collected_pointed (typed w e) c may) in
        inl (is_null_well task w sound sound_task local scope names head e a may)
    local_any (null_expr p) lo k none = inl (null_well task w sound sound_task local scope names head p none)
    local_any (cast_expr p e) lo k none =
        let told = option_or_parts (first_in_expression w.tree task w.scope e) _ none in
        let more = option_or_parts (first_of_standing [] (stands (known_type w.tree w.scope e) number_spot)) _ told.1 in
        let a = numbered e (local_any e lo (kept_right (parts_of_pointer p) (parts_of_expression e) (kept_behind node (parts_of_pointer p ++ parts_of_expression e) k)) told.0)
        told.0 more.0 in
        inl (cast_well task w sound sound_task local scope names head p e a more.1)

    local_links : (t : StaticType) (ls : Links) → are_written_links ls ≡ true → AreKept (parts_of_links ls) → Value t →
        first_in_links w.tree task w.scope t ls ≡ None → AreWellLinks t ls
    local_links t no_link lo k value e = record { are = tt; gives = λ c. ⊎_elim (λ some. absurd (no_way_back some)) (λ s. s) c }
    local_links t (a_link o e rest) lo k value none =
        let s = and_parts (is_written_expression e) (are_written_links rest) lo in
        let told = option_or_parts (first_in_expression w.tree task w.scope e) _ none in
        let u = typed w e in
        let more = option_or_parts (first_of_operator (computing o t (known_type w.tree w.scope e))) _ told.1 in
        let same = known e told.0 in
        let operator = subst (λ v. first_of_operator (computing o t v) ≡ None) same more.0 in
        let a = well e (local_any e s.0 (kept_left (parts_of_expression e) (parts_of_links rest) k) told.0) (right_apart o t u operator) in
        let does = operates o t u operator in
        let next = subst (λ v. first_in_links w.tree task w.scope v rest ≡ None)
        (ap (λ v. known_type_after_operator (computing o t v)) same ∙ value_after true w.scope.names o t u value a.value does) more.1 in
        by_operator o t e rest value a does
        (λ operand. local_links (operated o t u) rest s.1 (kept_right (parts_of_expression e) (parts_of_links rest) k)
        (value_simple (operated o t u) operand) next)

    local_given : (all types : List StaticType) (ps : List StaticType) (es : Expressions) → are_written_expressions es ≡ true → AreKept (parts_of_expressions es) →
        AreTakable true ps → first_in_args w.tree task w.scope es ≡ None →
        list_any (is_ill_typed_at_place w.scope.known) (stand_at all ps (known_types w.tree w.scope es)) ≡ false →
        misfit_in all ps (known_types w.tree w.scope es) ≡ false →
        length (known_types w.tree w.scope es) ≡ length ps → ArePassed forms w (map (put_in types) ps) ps es
    local_given all types [] no_expr lo k takable told standing fits many = tt
    local_given all types (p ∷ ps) no_expr lo k takable told standing fits many = absurd (omega (arith, many))
    local_given all types [] (an_expr e es) lo k takable told standing fits many = absurd (omega (arith, many))
    local_given all types (p ∷ ps) (an_expr e es) lo k takable told standing fits many =
        let s = and_parts (is_written_expression e) (are_written_expressions es) lo in
        let parts = option_or_parts (first_in_expression w.tree task w.scope e) _ told in
        let a = local_any e s.0 (kept_left (parts_of_expression e) (parts_of_expressions es) k) parts.0 in
        let type = known_type w.tree w.scope e in
        let stood = first_stands w.scope.known (stands type (param_spot (put_in all p))) (stand_at all ps (known_types w.tree w.scope es)) standing in
        let fit = or_parts (is_region p && differs all p type) _ fits in (
          given_one task w sound sound_task local scope names head all types e parts.0 p a takable.0 stood.0 fit.0,
          local_given all types ps es s.1 (kept_right (parts_of_expression e) (parts_of_expressions es) k) takable.1 parts.1 stood.1 fit.1
              (omega (arith, many)),
        )

  pub local_call : (n : Name) (args : Expressions) → are_written_expressions args ≡ true → AreKept (parts_of_expressions args) →
      first_in_args w.tree task w.scope args ≡ None → first_of_call w.tree task w.scope (calling n (known_types w.tree w.scope args)) ≡ None → IsCallWell task w sound sound_task local scope names head n args
  local_call n args lo k told e = call_well task w sound sound_task local scope names head n args told e
      (λ t. local_given (known_types w.tree w.scope args) (types_of w.tree w.scope args) (param_types w.tree (task_named w.tree n)) args lo k
      (local.tasks n t.there).params told t.standing t.fits t.many)

  -- numbers that are printed
  pub local_numbers : (es : Expressions) → are_written_expressions es ≡ true → AreKept (parts_of_expressions es) →
      first_in_args w.tree task w.scope es ≡ None →
      list_any (λ t. not (may_be is_integer t)) (known_types w.tree w.scope es) ≡ false → AreNumbers forms w es
  local_numbers no_expr lo k e whole = tt
  local_numbers (an_expr e es) lo k none whole =
      let s = and_parts (is_written_expression e) (are_written_expressions es) lo in
      let told = option_or_parts (first_in_expression w.tree task w.scope e) _ none in
      let both = or_parts (not (may_be is_integer (known_type w.tree w.scope e))) _ whole in
      let may = subst (λ t. may_be is_integer t ≡ true) (known e told.0) (not-false _ both.0) in
      let a = well e (local_any e s.0 (kept_left (parts_of_expression e) (parts_of_expressions es) k) told.0) (λ c. collected_integer (typed w e) c may) in (
        value_integer true w.scope.names (typed w e) a.value may,
        a.is,
        local_numbers es s.1 (kept_right (parts_of_expression e) (parts_of_expressions es) k) told.1 both.1,
      )
