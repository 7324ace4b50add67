-- What is told of an access is told of the steps that stand first, and of those behind them.
use Rattle.std.proofs.Common.{◌≡◌, List, [], ◌∷◌, ◌++◌, None, refl, ap, ◌∙◌, inl, not, ⊎_elim}
use Rattle.std.specs.Option.{option_or}
use Rattle.plain_values.proofs.Plain.{option_or_parts}
use Rattle.regent_tree.specs.Limits.{Part, node, parts_of_expression, parts_of_steps}
use Rattle.regent_tree.specs.Lookup.{is_bound, type_named}
use Rattle.regent_tree.specs.Scopes.{Scope}
use Rattle.regent_tree.specs.Syntax.{Expression, Name, Steps, TaskTree, Tree, access_expr, at_step, field_step, no_step}
use Rattle.regent_tree.specs.Typing.{type_of_element, type_of_field}
use Rattle.regent_tree.specs.declared.typing.StaticType.{StaticType}
use Rattle.check_rules.specs.declared.rule.Rule.TheVariants as rule
use Rattle.check_rules.specs.first.FirstInExpressions.{first_in_expression, first_in_steps, first_in_target, first_in_target_steps, first_of_step, first_of_taking}
use Rattle.check_rules.specs.first.Rules.{rule_if}
use Rattle.check_rules.specs.types.KnownTypes.{known_type, known_type_after_step, known_type_after_steps}
use Rattle.check_rules.specs.types.TypedForms.{element_of, field_of}
use Rattle.code_laws.proofs.Typing.{AreKept, kept_behind, kept_left, kept_right}

-- steps behind others
abbrev pub onward : Steps → Steps → Steps
onward no_step rest = rest
onward (field_step f more) rest = field_step f (onward more rest)
onward (at_step e more) rest = at_step e (onward more rest)

-- index steps alone
abbrev pub AreElements : Steps → Type 0
AreElements no_step = Unit {0}
AreElements (field_step f rest) = ⊥
AreElements (at_step e rest) = AreElements rest

-- ---- their parts

pub kept_together : (ps qs : List Part) → AreKept ps → AreKept qs → AreKept (ps ++ qs)
kept_together [] qs a b = b
kept_together (p ∷ ps) qs a b = λ q h. ⊎_elim (λ same. a q (inl same)) (λ more. kept_together ps qs (kept_behind p ps a) b q more) h

pub kept_with : (p : Part) (ps qs : List Part) → AreKept (p ∷ ps) → AreKept qs → AreKept (p ∷ qs)
kept_with p ps qs a b = λ q h. ⊎_elim (λ same. a q (inl same)) (λ more. b q more) h

kept_steps : (pre rest : Steps) → AreKept (parts_of_steps (onward pre rest)) → AreKept (parts_of_steps pre)
kept_steps no_step rest k = λ q h. absurd h
kept_steps (field_step f more) rest k =
    let all = parts_of_steps (onward more rest) in
    kept_with node all (parts_of_steps more) k (kept_steps more rest (kept_behind node all k))
kept_steps (at_step e more) rest k =
    let all = parts_of_expression e ++ parts_of_steps (onward more rest) in
    let behind = kept_behind node all k in
    kept_with node all (parts_of_expression e ++ parts_of_steps more) k
    (kept_together (parts_of_expression e) (parts_of_steps more) (kept_left (parts_of_expression e) (parts_of_steps (onward more rest)) behind)
    (kept_steps more rest (kept_right (parts_of_expression e) (parts_of_steps (onward more rest)) behind)))

pub kept_access : (n : Name) (pre rest : Steps) → AreKept (parts_of_expression (access_expr n (onward pre rest))) → AreKept (parts_of_expression (access_expr n pre))
kept_access n pre rest k =
    let all = parts_of_steps (onward pre rest) in kept_with node all (parts_of_steps pre) k (kept_steps pre rest (kept_behind node all k))

-- where an index step stands first
pub kept_front : (n : Name) (e : Expression) (more rest : Steps) → AreKept (parts_of_steps (at_step e (onward more rest))) →
    AreKept (parts_of_expression (access_expr n (at_step e more)))
kept_front n e more rest k =
    kept_with node (parts_of_expression e ++ parts_of_steps (onward more rest)) (parts_of_steps (at_step e more)) k (kept_steps (at_step e more) rest k)

-- ---- what is told

module _ (tree : Tree) (task : TaskTree) (s : Scope) where
  steps_told : (pre rest : Steps) (t : StaticType) → first_in_steps tree task s t (onward pre rest) ≡ None →
      (first_in_steps tree task s t pre ≡ None) × (first_in_steps tree task s (known_type_after_steps tree s t pre) rest ≡ None)
  steps_told no_step rest t none = (refl, none)
  steps_told (field_step f more) rest t none =
      let next = known_type_after_step tree (field_of t f) (type_of_field tree t f) in
      let p = option_or_parts (first_of_step tree task s (field_of t f)) (first_in_steps tree task s next (onward more rest)) none in
      let q = steps_told more rest next p.1 in
      (ap (λ o. option_or o (first_in_steps tree task s next more)) p.0 ∙ q.0, q.1)
  steps_told (at_step e more) rest t none =
      let taking = element_of t (known_type tree s e) in
      let next = known_type_after_step tree taking (type_of_element s t e) in
      let behind = first_in_steps tree task s next (onward more rest) in
      let a = option_or_parts (first_in_expression tree task s e) (option_or (first_of_step tree task s taking) behind) none in
      let b = option_or_parts (first_of_step tree task s taking) behind a.1 in
      let q = steps_told more rest next b.1 in (
        ap (λ o. option_or o (option_or (first_of_step tree task s taking) (first_in_steps tree task s next more))) a.0
            ∙ ap (λ o. option_or o (first_in_steps tree task s next more)) b.0 ∙ q.0,
        q.1,
      )

  -- of an access
  pub access_told : (n : Name) (pre rest : Steps) → first_in_expression tree task s (access_expr n (onward pre rest)) ≡ None →
      (first_in_expression tree task s (access_expr n pre) ≡ None) × (first_in_steps tree task s (known_type tree s (access_expr n pre)) rest ≡ None)
  access_told n pre rest none =
      let p = option_or_parts (rule_if (not (is_bound s.names n)) rule.Name) _ none in
      let q = steps_told pre rest (type_named s.names n) p.1 in
      (ap (λ o. option_or o (first_in_steps tree task s (type_named s.names n) pre)) p.0 ∙ q.0, q.1)

  -- and the other way round
  steps_on : (pre rest : Steps) (t : StaticType) → first_in_steps tree task s t pre ≡ None →
      first_in_steps tree task s (known_type_after_steps tree s t pre) rest ≡ None → first_in_steps tree task s t (onward pre rest) ≡ None
  steps_on no_step rest t first none = none
  steps_on (field_step f more) rest t first none =
      let next = known_type_after_step tree (field_of t f) (type_of_field tree t f) in
      let p = option_or_parts (first_of_step tree task s (field_of t f)) (first_in_steps tree task s next more) first in
      ap (λ o. option_or o (first_in_steps tree task s next (onward more rest))) p.0 ∙ steps_on more rest next p.1 none
  steps_on (at_step e more) rest t first none =
      let taking = element_of t (known_type tree s e) in
      let next = known_type_after_step tree taking (type_of_element s t e) in
      let before = first_in_steps tree task s next more in
      let a = option_or_parts (first_in_expression tree task s e) (option_or (first_of_step tree task s taking) before) first in
      let b = option_or_parts (first_of_step tree task s taking) before a.1 in
      ap (λ o. option_or o (option_or (first_of_step tree task s taking) (first_in_steps tree task s next (onward more rest)))) a.0
      ∙ ap (λ o. option_or o (first_in_steps tree task s next (onward more rest))) b.0 ∙ steps_on more rest next b.1 none

  pub told_on : (n : Name) (pre rest : Steps) → first_in_expression tree task s (access_expr n pre) ≡ None →
      first_in_steps tree task s (known_type tree s (access_expr n pre)) rest ≡ None → first_in_expression tree task s (access_expr n (onward pre rest)) ≡ None
  told_on n pre rest first none =
      let p = option_or_parts (rule_if (not (is_bound s.names n)) rule.Name) _ first in
      ap (λ o. option_or o (first_in_steps tree task s (type_named s.names n) (onward pre rest))) p.0
      ∙ steps_on pre rest (type_named s.names n) p.1 none

  elements_told : (pre rest : Steps) (t : StaticType) → AreElements pre → first_in_target_steps tree task s t (onward pre rest) ≡ None →
      (first_in_steps tree task s t pre ≡ None) × (first_in_target_steps tree task s (known_type_after_steps tree s t pre) rest ≡ None)
  elements_told no_step rest t are none = (refl, none)
  elements_told (field_step f more) rest t are none = absurd are
  elements_told (at_step e more) rest t are none =
      let taking = element_of t (known_type tree s e) in
      let next = known_type_after_step tree taking (type_of_element s t e) in
      let behind = first_in_target_steps tree task s next (onward more rest) in
      let a = option_or_parts (first_in_expression tree task s e) (option_or (first_of_step tree task s taking) behind) none in
      let b = option_or_parts (first_of_step tree task s taking) behind a.1 in
      let q = elements_told more rest next are b.1 in (
        ap (λ o. option_or o (option_or (first_of_step tree task s taking) (first_in_steps tree task s next more))) a.0
            ∙ ap (λ o. option_or o (first_in_steps tree task s next more)) b.0 ∙ q.0,
        q.1,
      )

  -- of a target, of which index steps stand first
  pub target_told : (n : Name) (pre rest : Steps) → AreElements pre → first_in_target tree task s n (onward pre rest) ≡ None →
      (first_in_expression tree task s (access_expr n pre) ≡ None)
      × (first_in_target_steps tree task s (known_type tree s (access_expr n pre)) rest ≡ None)
  target_told n pre rest are none =
      let p = option_or_parts (rule_if (not (is_bound s.names n)) rule.Name) _ none in
      let q = elements_told pre rest (type_named s.names n) are p.1 in
      (ap (λ o. option_or o (first_in_steps tree task s (type_named s.names n) pre)) p.0 ∙ q.0, q.1)

  -- of the step that comes first
  pub told_field : (t : StaticType) (f : Name) (rest : Steps) → first_in_target_steps tree task s t (field_step f rest) ≡ None →
      first_of_taking tree (field_of t f) ≡ None
  told_field t f no_step none = none
  told_field t f (field_step g rest) none =
      (option_or_parts (first_of_taking tree (field_of t f)) _ (option_or_parts (first_of_step tree task s (field_of t f)) _ none).0).0
  told_field t f (at_step e rest) none =
      (option_or_parts (first_of_taking tree (field_of t f)) _ (option_or_parts (first_of_step tree task s (field_of t f)) _ none).0).0

  pub told_element : (t : StaticType) (e : Expression) (rest : Steps) → first_in_target_steps tree task s t (at_step e rest) ≡ None →
      first_of_taking tree (element_of t (known_type tree s e)) ≡ None
  told_element t e rest none =
      let taking = element_of t (known_type tree s e) in
      let behind = first_in_target_steps tree task s (known_type_after_step tree taking (type_of_element s t e)) rest in
      let a = option_or_parts (first_in_expression tree task s e) (option_or (first_of_step tree task s taking) behind) none in
      (option_or_parts (first_of_taking tree taking) _ (option_or_parts (first_of_step tree task s taking) behind a.1).0).0

  pub read_element : (t : StaticType) (e : Expression) (rest : Steps) → first_in_steps tree task s t (at_step e rest) ≡ None →
      (first_in_expression tree task s e ≡ None) × (first_of_taking tree (element_of t (known_type tree s e)) ≡ None)
  read_element t e rest none =
      let taking = element_of t (known_type tree s e) in
      let behind = first_in_steps tree task s (known_type_after_step tree taking (type_of_element s t e)) rest in
      let a = option_or_parts (first_in_expression tree task s e) (option_or (first_of_step tree task s taking) behind) none in
      (a.0, (option_or_parts (first_of_taking tree taking) _ (option_or_parts (first_of_step tree task s taking) behind a.1).0).0)
