-- The laws of the definition.
use Rattle.std.proofs.Common.{◌≡◌, ℕ, Bool, true, false, ◌==◌, ◌||◌, not, cond, List, [], ◌∷◌, ◌++◌, refl, ap, sym, ◌∙◌, ◌⊎◌, inl, inr, subst}
use Rattle.std.specs.List.{list_any, fold}
use Rattle.std.proofs.lemmas.Bool.{and_parts, eqb-true, or_left, or_right}
use Rattle.regent_tree.proofs.Members.{Has, Contains-from_Has, Has-from_Contains, Has-append_left, Has-append_right, Has-append_cases, Has-from_list_any}
use Rattle.regent_tree.specs.declared.expression.Operator.{Operator}
use Rattle.regent_tree.specs.declared.expression.Sign.{Sign}
use Rattle.regent_tree.specs.declared.expression.Sign.TheVariants.{Minus, Not}
use Rattle.regent_tree.specs.Syntax.{Expression, Links, Name, Steps, number_expr, truth_expr, chain_expr, prefix_expr, call_expr, access_expr, convert_expr, is_null_expr, null_expr, cast_expr, space_expr, no_link, a_link, no_step, field_step, at_step, Tree}
use Rattle.regent_tree.specs.declared.typing.StaticType.{StaticType}
use Rattle.regent_tree.specs.declared.typing.StaticType.TheVariants.{Integer as integer_type, Truth as truth_type, Index as index_type, Pointer as pointer_type, Ispace as ispace_type, Region as region_type, Partition as partition_type, Nothing as no_type, Unknown as unknown_type}
use Rattle.regent_tree.specs.Scopes.{Scope}
use Rattle.regent_tree.specs.Lookup.{type_named}
use Rattle.regent_tree.specs.Typing.{counting_as, linked_type, operated, signed_type, stepped_type, type_of, type_of_element, type_of_field}
use Rattle.check_rules.specs.Breaches.{Breach, same_breach, with_breach, each_once}
use Rattle.check_rules.specs.types.Params.{type_unless}
use Rattle.check_rules.specs.types.KnownTypes.{known_type, takes_unknown, known_type_after_links, known_type_after_operator, known_type_after_sign, known_type_after_signs, known_type_after_step, known_type_after_steps}
use Rattle.check_rules.specs.rules.Names.{is_unknown_field}
use Rattle.check_rules.specs.rules.Pointers.{takes_of_wild}
use Rattle.check_rules.specs.types.TypedForms.{Taking, computing, element_of, field_of}
use Rattle.check_rules.specs.types.Sorts.{is_number, is_truth, is_unknown_type}
use Rattle.check_rules.specs.rules.Types.{is_ill_typed_operation, is_ill_typed_step}
use Rattle.check_rules.specs.Laws.{TypesAsMeant, PairsKept}

-- ---- types

-- as meant, or unknown
abbrev IsMeant : StaticType → StaticType → Type 0
IsMeant t meant = (t ≡ meant) ⊎ (t ≡ unknown_type)

type_unless-meant : (flawed : Bool) (t : StaticType) → IsMeant (type_unless flawed t) t
type_unless-meant true t = inr refl
type_unless-meant false t = inl refl

type_unless-true : (flawed : Bool) (t : StaticType) →
    flawed ≡ true → type_unless flawed t ≡ unknown_type
type_unless-true true t e = refl
type_unless-true false t e = absurd cc

operator-meant : (o : Operator) (t meant u meant_u : StaticType) → IsMeant t meant →
    IsMeant u meant_u → IsMeant (known_type_after_operator (computing o t u)) (operated o meant meant_u)
operator-meant o t meant u meant_u (inl e) (inl f) = subst
    (λ a. IsMeant (known_type_after_operator (computing o t u)) (operated o a meant_u)) e
    (subst (λ b. IsMeant (known_type_after_operator (computing o t u)) (operated o t b)) f
    (type_unless-meant (is_unknown_type t || is_unknown_type u || is_ill_typed_operation (computing o t u))
    (operated o t u)))
operator-meant o t meant u meant_u (inl e) (inr f) = inr (type_unless-true
    (is_unknown_type t || is_unknown_type u || is_ill_typed_operation (computing o t u)) (operated o t u)
    (or_left (is_unknown_type t || is_unknown_type u) (is_ill_typed_operation (computing o t u))
    (or_right (is_unknown_type t) (is_unknown_type u) (ap is_unknown_type f))))
operator-meant o t meant u meant_u (inr e) h = inr (type_unless-true
    (is_unknown_type t || is_unknown_type u || is_ill_typed_operation (computing o t u)) (operated o t u)
    (or_left (is_unknown_type t || is_unknown_type u) (is_ill_typed_operation (computing o t u))
    (or_left (is_unknown_type t) (is_unknown_type u) (ap is_unknown_type e))))

-- counting a pointer as an index, twice
counted-twice : (t : StaticType) → counting_as (counting_as t) ≡ counting_as t
counted-twice (integer_type w) = refl
counted-twice truth_type = refl
counted-twice (index_type k) = refl
counted-twice (pointer_type k s args regions) = refl
counted-twice (ispace_type k) = refl
counted-twice (region_type k s args r) = refl
counted-twice (partition_type d r p) = refl
counted-twice no_type = refl
counted-twice unknown_type = refl

minus-meant : (signs : List Sign) (t meant : StaticType) →
    IsMeant t (signed_type signs meant) →
    IsMeant (known_type_after_sign Minus t) (counting_as meant)
minus-meant signs t meant (inr e) = inr (ap (known_type_after_sign Minus) e)
minus-meant [] t meant (inl e) = subst
    (λ a. IsMeant (known_type_after_sign Minus t) (counting_as a)) e
    (type_unless-meant (not (is_number t)) (counting_as t))
minus-meant (Not ∷ signs) t meant (inl e) = inr (ap (known_type_after_sign Minus) e)
minus-meant (Minus ∷ signs) t meant (inl e) = subst
    (λ a. IsMeant (known_type_after_sign Minus t) a) (ap counting_as e ∙ counted-twice meant)
    (type_unless-meant (not (is_number t)) (counting_as t))

signs-meant : (signs : List Sign) (t meant : StaticType) → IsMeant t meant →
    IsMeant (known_type_after_signs signs t) (signed_type signs meant)
signs-meant [] t meant h = h
signs-meant (Not ∷ signs) t meant h =
    type_unless-meant (not (is_truth (known_type_after_signs signs t))) truth_type
signs-meant (Minus ∷ signs) t meant h =
    minus-meant signs (known_type_after_signs signs t) meant (signs-meant signs t meant h)

-- behind a step, from something whose type is as meant
step-meant : (tree : Tree) (taking : Taking) (t meant : StaticType) →
    (t ≡ meant) ⊎ (takes_unknown tree taking ≡ true) →
    IsMeant (known_type_after_step tree taking t) meant
step-meant tree taking t meant (inl e) = subst
    (λ a. IsMeant (known_type_after_step tree taking t) a) e
    (type_unless-meant (takes_unknown tree taking || is_unknown_field tree taking
    || is_ill_typed_step taking || takes_of_wild taking) t)
step-meant tree taking t meant (inr e) = inr (type_unless-true
    (takes_unknown tree taking || is_unknown_field tree taking || is_ill_typed_step taking
    || takes_of_wild taking) t
    (or_left (takes_unknown tree taking || is_unknown_field tree taking || is_ill_typed_step taking)
    (takes_of_wild taking)
    (or_left (takes_unknown tree taking || is_unknown_field tree taking) (is_ill_typed_step taking)
    (or_left (takes_unknown tree taking) (is_unknown_field tree taking) e))))

field-meant : (tree : Tree) (t meant : StaticType) (f : Name) → IsMeant t meant →
    IsMeant (known_type_after_step tree (field_of t f) (type_of_field tree t f))
    (type_of_field tree meant f)
field-meant tree t meant f (inl e) = step-meant tree (field_of t f) (type_of_field tree t f)
    (type_of_field tree meant f) (inl (ap (λ u. type_of_field tree u f) e))
field-meant tree t meant f (inr e) = step-meant tree (field_of t f) (type_of_field tree t f)
    (type_of_field tree meant f) (inr (ap (λ u. takes_unknown tree (field_of u f)) e))

element-meant : (tree : Tree) (s : Scope) (t meant : StaticType) (e : Expression) →
    IsMeant t meant →
    IsMeant (known_type_after_step tree (element_of t (known_type tree s e)) (type_of_element s t e))
    (type_of_element s meant e)
element-meant tree s t meant e (inl h) = step-meant tree (element_of t (known_type tree s e))
    (type_of_element s t e) (type_of_element s meant e) (inl (ap (λ u. type_of_element s u e) h))
element-meant tree s t meant e (inr h) = step-meant tree (element_of t (known_type tree s e))
    (type_of_element s t e) (type_of_element s meant e)
    (inr (ap (λ u. takes_unknown tree (element_of u (known_type tree s e))) h))

steps-meant : (tree : Tree) (s : Scope) (t meant : StaticType) (steps : Steps) →
    IsMeant t meant →
    IsMeant (known_type_after_steps tree s t steps) (stepped_type tree s meant steps)
steps-meant tree s t meant no_step h = h
steps-meant tree s t meant (field_step f rest) h = steps-meant tree s
    (known_type_after_step tree (field_of t f) (type_of_field tree t f)) (type_of_field tree meant f)
    rest (field-meant tree t meant f h)
steps-meant tree s t meant (at_step e rest) h = steps-meant tree s
    (known_type_after_step tree (element_of t (known_type tree s e)) (type_of_element s t e))
    (type_of_element s meant e) rest (element-meant tree s t meant e h)

mutual
  pub types_as_meant : TypesAsMeant
  types_as_meant tree s (number_expr z w) = inl refl
  types_as_meant tree s (truth_expr b) = inl refl
  types_as_meant tree s (chain_expr first rest) = links-meant tree s (known_type tree s first)
      (type_of tree s first) rest (types_as_meant tree s first)
  types_as_meant tree s (prefix_expr signs e) =
      signs-meant signs (known_type tree s e) (type_of tree s e) (types_as_meant tree s e)
  types_as_meant tree s (call_expr task args) = type_unless-meant _ _
  types_as_meant tree s (access_expr n steps) =
      steps-meant tree s (type_named s.names n) (type_named s.names n) steps (inl refl)
  types_as_meant tree s (convert_expr t e) = type_unless-meant _ _
  types_as_meant tree s (is_null_expr e) = type_unless-meant _ _
  types_as_meant tree s (null_expr p) = type_unless-meant _ _
  types_as_meant tree s (cast_expr p e) = type_unless-meant _ _
  types_as_meant tree s (space_expr k e) = type_unless-meant _ _

  links-meant : (tree : Tree) (s : Scope) (t meant : StaticType) (rest : Links) →
      IsMeant t meant →
      IsMeant (known_type_after_links tree s t rest) (linked_type tree s meant rest)
  links-meant tree s t meant no_link h = h
  links-meant tree s t meant (a_link o e rest) h = links-meant tree s
      (known_type_after_operator (computing o t (known_type tree s e)))
      (operated o meant (type_of tree s e)) rest
      (operator-meant o t meant (known_type tree s e) (type_of tree s e) h
      (types_as_meant tree s e))

-- ---- each pair once

same-breaches : (a b : Breach) → same_breach a b ≡ true → a ≡ b
same-breaches a b e =
    let both = and_parts (a.rule == b.rule) (a.line == b.line) e in
    let with_rule : ℕ → Breach = λ r. record { rule = r; line = a.line } in
    let with_line : ℕ → Breach = λ l. record { rule = b.rule; line = l } in
    ap with_rule (eqb-true a.rule b.rule both.0) ∙ ap with_line (eqb-true a.line b.line both.1)

-- what is in a list with one more breach
with_breach-cases : (found : Bool) (bs : List Breach) (b x : Breach) →
    Has (cond found bs (bs ++ b ∷ [])) x → Has bs x ⊎ (b ≡ x)
with_breach-cases true bs b x h = inl h
with_breach-cases false bs b x h = elim (Has-append_cases bs (b ∷ []) x h) [
  | inl g ↦ inl g
  | inr g ↦ elim g [ inl e ↦ inr e | inr f ↦ absurd f ]
]

with_breach-keeps : (found : Bool) (bs : List Breach) (b x : Breach) →
    Has bs x → Has (cond found bs (bs ++ b ∷ [])) x
with_breach-keeps true bs b x h = h
with_breach-keeps false bs b x h = Has-append_left bs (b ∷ []) x h

with_breach-has : (found : Bool) (bs : List Breach) (b : Breach) →
    list_any (same_breach b) bs ≡ found → Has (cond found bs (bs ++ b ∷ [])) b
with_breach-has true bs b e = let c = Has-from_list_any (same_breach b) bs e in
    subst (λ x. Has bs x) (sym (same-breaches b c.0 c.2)) c.1
with_breach-has false bs b e = Has-append_right bs (b ∷ []) b (inl refl)

once-cases : (acc bs : List Breach) (x : Breach) →
    Has (fold with_breach acc bs) x → Has acc x ⊎ Has bs x
once-cases acc [] x h = inl h
once-cases acc (b ∷ bs) x h = elim (once-cases (with_breach acc b) bs x h) [
  | inl g ↦ elim (with_breach-cases (list_any (same_breach b) acc) acc b x g) [
    | inl k ↦ inl k
    | inr e ↦ inr (inl e)
  ]
  | inr g ↦ inr (inr g)
]

once-keeps : (acc bs : List Breach) (x : Breach) →
    Has acc x ⊎ Has bs x → Has (fold with_breach acc bs) x
once-keeps acc [] x (inl h) = h
once-keeps acc [] x (inr h) = absurd h
once-keeps acc (b ∷ bs) x (inl h) = once-keeps (with_breach acc b) bs x
    (inl (with_breach-keeps (list_any (same_breach b) acc) acc b x h))
once-keeps acc (b ∷ bs) x (inr (inl e)) = once-keeps (with_breach acc b) bs x
    (inl (subst (λ y. Has (with_breach acc b) y) e
    (with_breach-has (list_any (same_breach b) acc) acc b refl)))
once-keeps acc (b ∷ bs) x (inr (inr h)) = once-keeps (with_breach acc b) bs x (inr h)

pub pairs_kept : PairsKept
pairs_kept bs b = (
  λ c. elim (once-cases [] bs b (Has-from_Contains (each_once bs) b c)) [
    | inl h ↦ absurd h
    | inr h ↦ Contains-from_Has bs b h
  ],
  λ c. Contains-from_Has (each_once bs) b (once-keeps [] bs b (inr (Has-from_Contains bs b c))),
)
