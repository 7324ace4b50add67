-- What an expression gives is of the root that its type names: a partition of its parent's, and a region with a name
-- of its name's. So partitions that are given to a task are of the roots of the regions that are given.
use Rattle.std.proofs.Common.{List, [], ◌∷◌, None, false, true, sym, subst, ℕ, ◌≡◌, ◌&&◌, ◌||◌, not, get_or, arith, map}
use Rattle.std.proofs.lemmas.Bool.{not-false, or_parts}
use Rattle.std.specs.List.{list_any}
use Rattle.std.specs.Prelude.{length}
use Rattle.plain_values.proofs.Plain.{option_or_parts}
use Rattle.regent_tree.specs.Accesses.{converted}
use Rattle.regent_tree.specs.Evaluation.{typed, value, values}
use Rattle.regent_tree.specs.Laws.{Shape}
use Rattle.regent_tree.specs.Lookup.{is_bound, type_named}
use Rattle.regent_tree.specs.Running.{Here, Result, Run, State, and_then, fails, given, gives, ◌>>=◌}
use Rattle.regent_tree.specs.Scopes.{bound_as, bound_to}
use Rattle.regent_tree.specs.StaticTypes.{Looking, field_place, field_term, task_named, type_said}
use Rattle.regent_tree.specs.Syntax.{Expression, Expressions, Links, Name, Steps, TaskTree, Tree, a_link, access_expr, an_expr, at_step, call_expr, cast_expr, chain_expr, convert_expr, field_step, is_null_expr, no_expr, no_link, no_step, null_expr, number_expr, prefix_expr, space_expr, truth_expr}
use Rattle.regent_tree.specs.Typing.{child_type, counting_as, linked_type, operated, put_in, result_type, stepped_type, type_of_element, type_of_field, types_of}
use Rattle.regent_tree.specs.Values.{Value, a_truth, partition_of}
use Rattle.regent_tree.specs.declared.expression.Operator.{Operator}
use Rattle.regent_tree.specs.declared.expression.Sign.TheVariants.{Minus, Not}
use Rattle.regent_tree.specs.declared.facts.Colour.{Colour}
use Rattle.regent_tree.specs.declared.facts.Known.{Known}
use Rattle.regent_tree.specs.declared.facts.Term.TheVariants as term
use Rattle.regent_tree.specs.declared.types.NumberTerm.TheVariants as number
use Rattle.regent_tree.specs.declared.types.TypeTerm.{TypeTerm}
use Rattle.regent_tree.specs.declared.types.TypeTerm.TheVariants as typed_as
use Rattle.regent_tree.specs.declared.typing.Bound.{Bound}
use Rattle.regent_tree.specs.declared.typing.StaticType.{StaticType}
use Rattle.regent_tree.specs.declared.typing.StaticType.TheVariants.{Index as index_type, Integer as integer_type, Ispace as ispace_type, Nothing as no_type, Partition as partition_type, Pointer as pointer_type, Region as region_type, Truth as truth_type, Unknown as unknown_type}
use Rattle.check_rules.proofs.Untold.{rule_none}
use Rattle.check_rules.specs.first.FirstInExpressions.{first_in_args, first_in_expression, first_in_links, first_in_steps, first_of_taking}
use Rattle.check_rules.specs.first.Rules.{rule_if}
use Rattle.check_rules.specs.rules.Partitions.{is_parent, mispartition_in, mispartitions}
use Rattle.check_rules.specs.rules.Standing.{param_spot, stand_at, stands}
use Rattle.check_rules.specs.rules.Types.{is_ill_typed_at_place}
use Rattle.check_rules.specs.types.Declarations.{is_no_field_type}
use Rattle.check_rules.specs.types.Fitting.{fits_param}
use Rattle.check_rules.specs.types.KnownTypes.{known_type}
use Rattle.check_rules.specs.types.Sorts.{is_collection, is_unknown_type, type_at}
use Rattle.check_rules.specs.types.TypedForms.{field_of}
use Rattle.check_rules.specs.declared.rule.Rule.TheVariants as rule
use Rattle.check_laws.proofs.Scopes.{found_by_number}
use Rattle.check_laws.specs.SoundScopes.{IsKnown}
use Rattle.expression_laws.proofs.Operators.{signs_value}
use Rattle.expression_laws.specs.Sound.{EndsIn}
use Rattle.expression_laws.specs.Writing.{AreWritten, IsWritten}
use Rattle.value_laws.proofs.Accesses.{field_said, taking_parts}
use Rattle.value_laws.proofs.SameNames.{KeepsNames, converted_same, value_same}
use Rattle.value_laws.proofs.Spaced.{HasNoArguments}
use Rattle.value_laws.proofs.Types.{counted_plain, element_taken, field_taken, known, known_meant, linking, name_spaced, number_plain, operated_plain, result_plain, value_collection}
use Rattle.value_laws.specs.Fitting.{HasRootOfName, RootsAgree, root_bound}
use Rattle.value_laws.specs.Laws.{IsPlaceOfFit}
use Rattle.value_laws.specs.Spaces.{IsSpaced}

-- ---- types that name no root

abbrev pub NamesNoRoot : StaticType → Type 0
NamesNoRoot (partition_type d r p) = ⊥
NamesNoRoot (region_type k space args (term.Name i)) = ⊥
NamesNoRoot t = Unit {0}

plain_no_root : (t : StaticType) → HasNoArguments t → NamesNoRoot t
plain_no_root (integer_type w) n = tt
plain_no_root truth_type n = tt
plain_no_root (index_type k) n = tt
plain_no_root (pointer_type k space args terms) n = tt
plain_no_root (ispace_type k) n = tt
plain_no_root (region_type k space args t) n = absurd n
plain_no_root (partition_type d r p) n = absurd n
plain_no_root no_type n = tt
plain_no_root unknown_type n = tt

said_no_root : (tree : Tree) (look : Looking) (t : TypeTerm) → is_no_field_type t ≡ false → NamesNoRoot (type_said tree look 0 t)
said_no_root tree look (typed_as.Number number.Int32) e = tt
said_no_root tree look (typed_as.Number number.Int64) e = tt
said_no_root tree look (typed_as.Number (number.Index k)) e = tt
said_no_root tree look typed_as.Truth e = tt
said_no_root tree look (typed_as.Pointer p) e = tt
said_no_root tree look (typed_as.Ispace k) e = absurd cc
said_no_root tree look (typed_as.Region k u) e = absurd cc
said_no_root tree look (typed_as.Partition d r c) e = absurd cc

child_no_root : (t : StaticType) (p : ℕ) (c : Colour) → NamesNoRoot (child_type t (term.Child p c))
child_no_root (region_type k space args t) p c = tt
child_no_root (integer_type w) p c = tt
child_no_root truth_type p c = tt
child_no_root (index_type k) p c = tt
child_no_root (pointer_type k space args terms) p c = tt
child_no_root (ispace_type k) p c = tt
child_no_root (partition_type d r q) p c = tt
child_no_root no_type p c = tt
child_no_root unknown_type p c = tt

pub any_root : (names : List Bound) (vs : List Value) (t : StaticType) (v : Value) → NamesNoRoot t → HasRootOfName names vs t v
any_root names vs (integer_type w) v n = tt
any_root names vs truth_type v n = tt
any_root names vs (index_type k) v n = tt
any_root names vs (pointer_type k space args terms) v n = tt
any_root names vs (ispace_type k) v n = tt
any_root names vs (region_type k space args (term.Name i)) v n = absurd n
any_root names vs (region_type k space args (term.Child p c)) v n = tt
any_root names vs (partition_type d r p) v n = absurd n
any_root names vs no_type v n = tt
any_root names vs unknown_type v n = tt

-- ---- what a step gives

abbrev pub Gives : {A : Type 0} → (A → Type 0) → Result A → Type 0
Gives Is r = EndsIn (λ v w. Is v) (λ f w. Unit {0}) r

pub gives_any : {A : Type 0} (Is : A → Type 0) (r : Result A) → ((a : A) → Is a) → Gives Is r
gives_any Is (gives a w) all = all a
gives_any Is (fails f w) all = tt

relayed : {A : Type 0} (Is : A → Type 0) (r : Result A) → Gives Is r → Gives Is (and_then r (λ v. given v))
relayed Is (gives v w) is = is
relayed Is (fails f w) is = tt

pub behind : {A B : Type 0} (vs : List Value) (Is : A → Type 0) (Js : B → Type 0) (r : Result A) (more : A → Run B) → Gives Is r → KeepsNames vs r →
    ((a : A) (w : State) → w.names ≡ vs → Is a → Gives Js (more a w)) → Gives Js (and_then r more)
behind vs Is Js (gives a w) more is same next = next a w same is
behind vs Is Js (fails f w) more is same next = tt

module _ (task : TaskTree) (roots : List Shape) (h : Here) (place : IsPlaceOfFit roots h) (vs : List Value) (agree : RootsAgree h.scope.names vs) where
  abbrev told : Expression → Type 0
  told y = first_in_expression h.tree task h.scope y ≡ None

  abbrev HasRoot : StaticType → Value → Type 0
  HasRoot t v = HasRootOfName h.scope.names vs t v

  links_no_root : (t : StaticType) (rest : Links) → IsKnown h.scope t → first_in_links h.tree task h.scope t rest ≡ None → NamesNoRoot t → NamesNoRoot (linked_type h.tree h.scope t rest)
  links_no_root t no_link k e n = n
  links_no_root t (a_link o y rest) k e n =
      let link = linking task roots h place o t y rest k e in
      let none = or_parts (is_collection t) (is_collection (typed h y)) (rule_none (is_collection t || is_collection (typed h y)) rule.Place (option_or_parts _ _ link.operates).0) in
      links_no_root (operated o t (typed h y)) rest link.known link.told (plain_no_root (operated o t (typed h y)) (operated_plain o t (typed h y) none.0 none.1))

  link_no_root : (t : StaticType) (o : Operator) (y : Expression) (rest : Links) → IsKnown h.scope t → first_in_links h.tree task h.scope t (a_link o y rest) ≡ None →
      NamesNoRoot (linked_type h.tree h.scope t (a_link o y rest))
  link_no_root t o y rest k e =
      let link = linking task roots h place o t y rest k e in
      let none = or_parts (is_collection t) (is_collection (typed h y)) (rule_none (is_collection t || is_collection (typed h y)) rule.Place (option_or_parts _ _ link.operates).0) in
      links_no_root (operated o t (typed h y)) rest link.known link.told (plain_no_root (operated o t (typed h y)) (operated_plain o t (typed h y) none.0 none.1))

  field_no_root : (t : StaticType) (f : Name) → first_of_taking h.tree (field_of t f) ≡ None → NamesNoRoot (type_of_field h.tree t f)
  field_no_root (pointer_type k space args terms) f e =
      said_no_root h.tree _ (field_term h.tree space (field_place h.tree space f)) (field_said roots h place space f (not-false _ (taking_parts h.tree (field_of (pointer_type k space args terms) f) e).0))
  field_no_root (partition_type d r p) f e = tt
  field_no_root (integer_type w) f e = tt
  field_no_root truth_type f e = tt
  field_no_root (index_type k) f e = tt
  field_no_root (ispace_type k) f e = tt
  field_no_root (region_type k space args t) f e = tt
  field_no_root no_type f e = tt
  field_no_root unknown_type f e = tt

  element_no_root : (t : StaticType) (y : Expression) → NamesNoRoot (type_of_element h.scope t y)
  element_no_root (region_type k space args t) y = tt
  element_no_root (partition_type d r p) y = child_no_root (bound_as h.scope.names r).static_type p _
  element_no_root (integer_type w) y = tt
  element_no_root truth_type y = tt
  element_no_root (index_type k) y = tt
  element_no_root (pointer_type k space args terms) y = tt
  element_no_root (ispace_type k) y = tt
  element_no_root no_type y = tt
  element_no_root unknown_type y = tt

  steps_no_root : (t : StaticType) (steps : Steps) → IsKnown h.scope t → IsSpaced h.tree h.scope.names t → first_in_steps h.tree task h.scope t steps ≡ None → NamesNoRoot t →
      NamesNoRoot (stepped_type h.tree h.scope t steps)
  steps_no_root t no_step k spaced e n = n
  steps_no_root t (field_step f rest) k spaced e n =
      let taken = field_taken task roots h place t f rest k spaced e in
      steps_no_root (type_of_field h.tree t f) rest taken.known taken.spaced taken.told (field_no_root t f taken.taken)
  steps_no_root t (at_step y rest) k spaced e n =
      let taken = element_taken task roots h place t y rest k spaced e in
      steps_no_root (type_of_element h.scope t y) rest taken.known taken.spaced taken.told (element_no_root t y)

  -- ---- expressions

  named_root : (n : Name) → is_bound h.scope.names n ≡ true → (u : State) → u.names ≡ vs → HasRoot (type_named h.scope.names n) (get_or u.names (bound_to h.scope.names n).place (a_truth false))
  named_root n b u same = subst (λ ns. HasRoot (type_named h.scope.names n) (get_or ns (bound_to h.scope.names n).place (a_truth false))) (sym same)
      (subst (λ (c : Bound). HasRoot c.static_type (get_or vs c.place (a_truth false))) (found_by_number h.scope.next h.scope.names n place.scope.numbers b).0 (agree (bound_to h.scope.names n).number))

  no_root : (y : Expression) (u : State) → NamesNoRoot (typed h y) → Gives (HasRoot (typed h y)) (value h y u)
  no_root y u n = gives_any (HasRoot (typed h y)) (value h y u) (λ v. any_root h.scope.names vs (typed h y) v n)

  pub value_root : (y : Expression) → IsWritten y → told y → (u : State) → u.names ≡ vs → Gives (HasRoot (typed h y)) (value h y u)
  value_root (number_expr z w) wr e u same = tt
  value_root (truth_expr b) wr e u same = tt
  value_root (chain_expr first no_link) wr e u same =
      relayed (HasRoot (typed h first)) (value h first u) (value_root first wr.0 (option_or_parts (first_in_expression h.tree task h.scope first) _ e).0 u same)
  value_root (chain_expr first (a_link o y rest)) wr e u same =
      let parts = option_or_parts (first_in_expression h.tree task h.scope first) _ e in
      no_root (chain_expr first (a_link o y rest)) u (link_no_root (typed h first) o y rest (known_meant task roots h place first parts.0)
      (subst (λ t. first_in_links h.tree task h.scope t (a_link o y rest) ≡ None) (known task roots h place first parts.0).1 parts.1))
  value_root (prefix_expr [] y) wr e u same = absurd wr
  value_root (prefix_expr (Not ∷ signs) y) wr e u same = no_root (prefix_expr (Not ∷ signs) y) u tt
  value_root (prefix_expr (Minus ∷ signs) y) wr e u same =
      let parts = option_or_parts (first_in_expression h.tree task h.scope y) _ e in
      let k = known task roots h place y parts.0 in
      let is = subst (λ t. is_collection t ≡ false) k.1 (value_collection (known_type h.tree h.scope y) (signs_value h.scope Minus signs (known_type h.tree h.scope y) k.0 parts.1)) in
      no_root (prefix_expr (Minus ∷ signs) y) u (plain_no_root (counting_as (typed h y)) (counted_plain (typed h y) is))
  value_root (call_expr name es) wr e u same =
      no_root (call_expr name es) u (plain_no_root (result_type h.tree (task_named h.tree name).result) (result_plain h.tree (task_named h.tree name).result (place.sound.results name)))
  value_root (access_expr n no_step) wr e u same =
      let parts = option_or_parts (rule_if (not (is_bound h.scope.names n)) rule.Name) _ e in
      named_root n (not-false (is_bound h.scope.names n) (rule_none _ rule.Name parts.0)) u same
  value_root (access_expr n (field_step f rest)) wr e u same =
      let parts = option_or_parts (rule_if (not (is_bound h.scope.names n)) rule.Name) _ e in
      let bound = not-false (is_bound h.scope.names n) (rule_none _ rule.Name parts.0) in
      let taken = field_taken task roots h place (type_named h.scope.names n) f rest (place.scope.types n bound) (name_spaced task roots h place n bound) parts.1 in
      no_root (access_expr n (field_step f rest)) u
      (steps_no_root (type_of_field h.tree (type_named h.scope.names n) f) rest taken.known taken.spaced taken.told (field_no_root (type_named h.scope.names n) f taken.taken))
  value_root (access_expr n (at_step y rest)) wr e u same =
      let parts = option_or_parts (rule_if (not (is_bound h.scope.names n)) rule.Name) _ e in
      let bound = not-false (is_bound h.scope.names n) (rule_none _ rule.Name parts.0) in
      let taken = element_taken task roots h place (type_named h.scope.names n) y rest (place.scope.types n bound) (name_spaced task roots h place n bound) parts.1 in
      no_root (access_expr n (at_step y rest)) u
      (steps_no_root (type_of_element h.scope (type_named h.scope.names n) y) rest taken.known taken.spaced taken.told (element_no_root (type_named h.scope.names n) y))
  value_root (convert_expr t y) wr e u same = no_root (convert_expr t y) u (plain_no_root _ (number_plain t))
  value_root (is_null_expr y) wr e u same = no_root (is_null_expr y) u tt
  value_root (null_expr p) wr e u same = tt
  value_root (cast_expr p y) wr e u same = no_root (cast_expr p y) u tt
  value_root (space_expr k y) wr e u same = no_root (space_expr k y) u tt

  -- ---- arguments

  -- what is given for a partition is of the root of what is given for its parent
  abbrev pub IsGivenRoot : List StaticType → StaticType → StaticType → Value → Type 0
  IsGivenRoot types (partition_type asked r own) t v = (parent : ℕ) × (is_parent parent (type_at types r) ≡ true) × ((partition_of v).root ≡ root_bound h.scope.names vs parent)
  IsGivenRoot types (region_type k space args q) t v = HasRoot t v
  IsGivenRoot types p t v = Unit {0}

  abbrev pub AreGivenRoots : List StaticType → List StaticType → List StaticType → List Value → Type 0
  AreGivenRoots types [] [] [] = Unit {0}
  AreGivenRoots types (p ∷ ps) (t ∷ ts) (u ∷ us) = IsGivenRoot types p t u × AreGivenRoots types ps ts us
  AreGivenRoots types ps ts us = ⊥

  partition_given : (known : List Known) (types : List StaticType) (asked : _) (r own : ℕ) (t : StaticType) (v : Value) → is_unknown_type t ≡ false →
      fits_param known t (partition_type asked r own) ≡ true → mispartitions types (partition_type asked r own) t ≡ false → HasRoot t v → IsGivenRoot types (partition_type asked r own) t v
  partition_given known types asked r own (partition_type d parent p) v l e m root = (parent, not-false _ (or_parts (asked && not d) _ m).1, root)
  partition_given known types asked r own (integer_type w) v l e m root = absurd cc
  partition_given known types asked r own truth_type v l e m root = absurd cc
  partition_given known types asked r own (index_type j) v l e m root = absurd cc
  partition_given known types asked r own (pointer_type j s args terms) v l e m root = absurd cc
  partition_given known types asked r own (ispace_type j) v l e m root = absurd cc
  partition_given known types asked r own (region_type j s args q) v l e m root = absurd cc
  partition_given known types asked r own no_type v l e m root = absurd cc
  partition_given known types asked r own unknown_type v l e m root = absurd cc

  given_root : (types : List StaticType) (p t : StaticType) (v : Value) (u : State) → is_unknown_type t ≡ false → fits_param h.scope.known t (put_in types p) ≡ true →
      mispartitions types p t ≡ false → HasRoot t v → Gives (IsGivenRoot types p t) (converted h t (put_in types p) [] v u)
  given_root types (partition_type asked r own) t v u l e m root = partition_given h.scope.known types asked r own t v l e m root
  given_root types (region_type k space args q) t v u l e m root = root
  given_root types (integer_type w) t v u l e m root = gives_any (λ a. Unit {0}) (converted h t (integer_type w) [] v u) (λ a. tt)
  given_root types truth_type t v u l e m root = gives_any (λ a. Unit {0}) (converted h t truth_type [] v u) (λ a. tt)
  given_root types (index_type k) t v u l e m root = gives_any (λ a. Unit {0}) (converted h t (index_type k) [] v u) (λ a. tt)
  given_root types (pointer_type k s args terms) t v u l e m root = gives_any (λ a. Unit {0}) (converted h t (put_in types (pointer_type k s args terms)) [] v u) (λ a. tt)
  given_root types (ispace_type k) t v u l e m root = gives_any (λ a. Unit {0}) (converted h t (ispace_type k) [] v u) (λ a. tt)
  given_root types no_type t v u l e m root = gives_any (λ a. Unit {0}) (converted h t no_type [] v u) (λ a. tt)
  given_root types unknown_type t v u l e m root = gives_any (λ a. Unit {0}) (converted h t unknown_type [] v u) (λ a. tt)

  pub args_given : (types ps : List StaticType) (es : Expressions) → AreWritten es → first_in_args h.tree task h.scope es ≡ None → length (types_of h.tree h.scope es) ≡ length ps →
      list_any (is_ill_typed_at_place h.scope.known) (stand_at types ps (types_of h.tree h.scope es)) ≡ false → mispartition_in types ps (types_of h.tree h.scope es) ≡ false →
      (u : State) → u.names ≡ vs → Gives (AreGivenRoots types ps (types_of h.tree h.scope es)) (values h (map (put_in types) ps) es u)
  args_given types [] no_expr wr e c d p u same = tt
  args_given types (q ∷ ps) no_expr wr e c d p u same = absurd (omega (arith, c))
  args_given types [] (an_expr y es) wr e c d p u same = absurd (omega (arith, c))
  args_given types (q ∷ ps) (an_expr y es) wr e c d p u same =
      let parts = option_or_parts (first_in_expression h.tree task h.scope y) _ e in
      let here = or_parts (is_ill_typed_at_place h.scope.known (stands (typed h y) (param_spot (put_in types q)))) _ d in
      let parted = or_parts (mispartitions types q (typed h y)) _ p in
      let result = AreGivenRoots types (q ∷ ps) (types_of h.tree h.scope (an_expr y es)) in
      behind vs (HasRoot (typed h y)) result (value h y u) (λ v. converted h (typed h y) (put_in types q) [] v >>= λ a. values h (map (put_in types) ps) es >>= λ us. given (a ∷ us))
      (value_root y wr.0 parts.0 u same) (value_same h vs y u same) (λ v w same root.
      behind vs (IsGivenRoot types q (typed h y)) result (converted h (typed h y) (put_in types q) [] v w) (λ a. values h (map (put_in types) ps) es >>= λ us. given (a ∷ us))
      (given_root types q (typed h y) v w (known_meant task roots h place y parts.0).known (not-false _ here.0) parted.0 root) (converted_same h vs (typed h y) (put_in types q) [] v w same) (λ a w same good.
      last types q ps y es a good (values h (map (put_in types) ps) es w) (args_given types ps es wr.1 parts.1 (omega (arith, c)) here.1 parted.1 w same)))
    where
      last : (types : List StaticType) (q : StaticType) (ps : List StaticType) (y : Expression) (es : Expressions) (a : Value) → IsGivenRoot types q (typed h y) a → (r : Result (List Value)) →
          Gives (AreGivenRoots types ps (types_of h.tree h.scope es)) r → Gives (AreGivenRoots types (q ∷ ps) (types_of h.tree h.scope (an_expr y es))) (and_then r (λ us. given (a ∷ us)))
      last types q ps y es a good (gives us w) are = (good, are)
      last types q ps y es a good (fails f w) are = tt
