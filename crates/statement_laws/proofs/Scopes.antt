-- Scopes behind statements of which nothing is told: what more is known there is of new bindings.
use Rattle.check_laws.proofs.Scopes.{differ}
use Rattle.plain_values.proofs.Plain.{option_or_parts}
use Rattle.std.proofs.Common.{arith, Bool, ◌++◌, None, false, true, refl, ap, sym, subst, ℕ, suc, ◌≡◌, ◌∙◌, ◌<◌, ◌≤◌, ◌||◌, ◌⊎◌, inl, inr, cond, length}
use Rattle.std.proofs.lemmas.Bool.{or_parts, not-false}
use Rattle.regent_tree.specs.Scopes.{Scope, bound_as, past, with_name}
use Rattle.regent_tree.specs.Syntax.{Arms, Block, Expression, Form, Name, Otherwise, TaskTree, Tree, a_statement, an_arm, assert_form, assign_form, call_form, do_form, else_block, fill_form, for_in_form, for_to_form, if_form, no_arm, no_else, no_statement, print_form, return_form, then_statement, var_form, while_form}
use Rattle.regent_tree.specs.Typing.{arithmetic_type, scope_after, scope_after_arms, scope_after_block, scope_after_else, taken_from, type_of, var_type}
use Rattle.regent_tree.specs.declared.typing.StaticType.{StaticType}
use Rattle.regent_tree.specs.declared.typing.StaticType.TheVariants.{Index as index_type, Integer as integer_type, Ispace as ispace_type, Nothing as no_type, Partition as partition_type, Pointer as pointer_type, Region as region_type, Truth as truth_type, Unknown as unknown_type}
use Rattle.check_rules.specs.first.FirstInExpressions.{first_in_expression}
use Rattle.check_rules.specs.first.FirstInStatements.{first_in_arms, first_in_block, first_in_else, first_of_form, first_within}
use Rattle.check_rules.specs.types.KnownTypes.{known_type}
use Rattle.check_rules.specs.types.Sorts.{is_integer, is_region, is_space}
use Rattle.lane_kernels.specs.declared.numbers.Width.{Width}
use Rattle.regent_tree.specs.Numbers.{wider}
use Rattle.check_rules.specs.scopes.Sound.{IsSound}
use Rattle.check_laws.specs.SoundScopes.{IsSoundScope}
use Rattle.check_laws.proofs.Blocks.{count_scope, head_known, loop_scope}
use Rattle.check_laws.proofs.Parts.{surely}
use Rattle.check_laws.proofs.Onward.{arm_next, block_next, else_next}
use Rattle.check_laws.proofs.Variables.{parts_of_form}
use Rattle.expression_laws.specs.Kinds.{ArgumentsInScope, IsNamedByOwnNumber, IsWellScoped, TypeBelow}
use Rattle.statement_laws.specs.Steady.{ArePlaced, KnowsMore, IsStaticPlace, IsTypeInScope}
use Rattle.expression_laws.specs.Sound.{Instance}
use Rattle.statement_laws.proofs.Agree.{fresh_less, grows_below, grows_none, grows_then, term_up}
use Rattle.statement_laws.proofs.Types.{said_more, said_past, type_in}
use Rattle.statement_laws.proofs.VariableTypes.{var_grows, var_said}

taken_said : (s : Scope) (t : StaticType) → IsTypeInScope s t → ArgumentsInScope s (taken_from t) × IsNamedByOwnNumber s.next (taken_from t) × TypeBelow (suc s.next) (taken_from t)
taken_said s (region_type k sp args r) h = (h.args, tt, (term_up s.next (suc s.next) r (omega (arith)) h.below, tt))
taken_said s (ispace_type k) h = (tt, tt, tt)
taken_said s (integer_type w) h = (tt, tt, tt)
taken_said s truth_type h = (tt, tt, tt)
taken_said s (index_type k) h = (tt, tt, tt)
taken_said s (pointer_type k sp args terms) h = (tt, tt, tt)
taken_said s (partition_type d r p) h = (tt, tt, tt)
taken_said s no_type h = (tt, tt, tt)
taken_said s unknown_type h = (tt, tt, tt)

pub is_whole : (t : StaticType) → is_integer t ≡ true → (w : _) × (t ≡ integer_type w)
is_whole (integer_type w) e = (w, refl)
is_whole truth_type e = absurd cc
is_whole (index_type k) e = absurd cc
is_whole (pointer_type k sp args terms) e = absurd cc
is_whole (ispace_type k) e = absurd cc
is_whole (region_type k sp args r) e = absurd cc
is_whole (partition_type d r p) e = absurd cc
is_whole no_type e = absurd cc
is_whole unknown_type e = absurd cc

-- the scope behind a block within a block
pub grows_past : (s first inner : Scope) → first.known ≡ s.known → s.next ≤ first.next → KnowsMore first inner → KnowsMore s (past s inner)
grows_past s first inner same less a = let l = a.next in record {
  more = a.more;
  known = a.known ∙ ap (λ ks. ks ++ a.more) same;
  next = omega (arith, l, less);
  fresh = λ k c. fresh_less first.next s.next k less (a.fresh k c);
  below = a.below;
}

abbrev pub IsVar : Form → Type 0
IsVar (var_form n t start) = Unit {0}
IsVar form = ⊥

-- the names of a scope are bound still in another
pub record IsMore (s t : Scope) : Type 0 where
  pub extends : (i : ℕ) → i < s.next → bound_as t.names i ≡ bound_as s.names i
  pub longer : length s.names ≤ length t.names
  pub placed : ArePlaced s.names → ArePlaced t.names

-- two integers give an integer
pub whole_sum : (t u : StaticType) → is_integer t ≡ true → is_integer u ≡ true → (w : Width) × (arithmetic_type t u ≡ integer_type w)
whole_sum t u e f =
    let a = is_whole t e in
    let b = is_whole u f in
    (wider a.0 b.0, (λ j. arithmetic_type (a.1 j) (b.1 j)))

module _ (tree : Tree) (task : TaskTree) (sound : IsSound tree) where
  -- a loop goes over a region or a space
  pub domain_sort : (s : Scope) (demanded : Bool) (n : Name) (domain : Expression) (body : Block) → IsSoundScope s →
      first_of_form tree task s (for_in_form demanded n domain body) ≡ None → (is_region (type_of tree s domain) || is_space (type_of tree s domain)) ≡ true
  domain_sort s demanded n domain body scope e =
      let parts = parts_of_form tree task s sound scope (for_in_form demanded n domain body) e in
      let head = head_known tree task sound s scope domain (option_or_parts (first_in_expression tree task s domain) _ parts.2).0 in
      let is = surely (λ u. is_region u || is_space u) (known_type tree s domain) head.0.known (not-false _ (or_parts _ false parts.4).0) in
      subst (λ t. (is_region t || is_space t) ≡ true) head.1 is

  -- ---- where nothing is told of what comes next

  pub loop_next : (s : Scope) (demanded : Bool) (n : Name) (domain : Expression) (body : Block) → IsSoundScope s → IsWellScoped s →
      first_of_form tree task s (for_in_form demanded n domain body) ≡ None → first_within tree task s (for_in_form demanded n domain body) ≡ None →
      IsSoundScope (with_name s n (taken_from (type_of tree s domain)) true) × IsWellScoped (with_name s n (taken_from (type_of tree s domain)) true)
      × (first_in_block tree task (with_name s n (taken_from (type_of tree s domain)) true) body ≡ None)
  loop_next s demanded n domain body scope well_scoped e w =
      let here = loop_scope tree task sound s demanded n domain body scope e in
      let parts = parts_of_form tree task s sound scope (for_in_form demanded n domain body) e in
      let is = taken_said s (type_of tree s domain) (type_in tree task s sound scope well_scoped domain (option_or_parts (first_in_expression tree task s domain) _ parts.2).0) in (
        subst IsSoundScope here.0 here.1,
        said_more s n (taken_from (type_of tree s domain)) true scope well_scoped is.0 is.1 is.2,
        subst (λ t. first_in_block tree task t body ≡ None) here.0 w,
      )

  -- the bounds of a counted loop are integers
  pub bounds_whole : (s : Scope) (demanded : Bool) (n : Name) (from to : Expression) (body : Block) → IsSoundScope s →
      first_of_form tree task s (for_to_form demanded n from to body) ≡ None →
      (is_integer (type_of tree s from) ≡ true) × (is_integer (type_of tree s to) ≡ true)
  bounds_whole s demanded n from to body scope e =
      let parts = parts_of_form tree task s sound scope (for_to_form demanded n from to body) e in
      let heads = option_or_parts (first_in_expression tree task s from) _ parts.2 in
      let first = head_known tree task sound s scope from heads.0 in
      let last = head_known tree task sound s scope to (option_or_parts (first_in_expression tree task s to) _ heads.1).0 in
      let stand = or_parts _ _ parts.4 in
      let a = surely is_integer (known_type tree s from) first.0.known (not-false _ stand.0) in
      let b = surely is_integer (known_type tree s to) last.0.known (not-false _ (or_parts _ false stand.1).0) in
      (subst (λ t. is_integer t ≡ true) first.1 a, subst (λ t. is_integer t ≡ true) last.1 b)

  whole_said : (s : Scope) (t u : StaticType) → is_integer t ≡ true → is_integer u ≡ true →
      ArgumentsInScope s (arithmetic_type t u) × IsNamedByOwnNumber s.next (arithmetic_type t u) × TypeBelow (suc s.next) (arithmetic_type t u)
  whole_said s t u e f =
      let a = is_whole t e in
      let b = is_whole u f in
      subst (λ q. ArgumentsInScope s (arithmetic_type q u) × IsNamedByOwnNumber s.next (arithmetic_type q u) × TypeBelow (suc s.next) (arithmetic_type q u)) (sym a.1)
      (subst (λ q. ArgumentsInScope s (arithmetic_type (integer_type a.0) q) × IsNamedByOwnNumber s.next (arithmetic_type (integer_type a.0) q) × TypeBelow (suc s.next) (arithmetic_type (integer_type a.0) q)) (sym b.1) (tt, tt, tt))

  pub count_next : (s : Scope) (demanded : Bool) (n : Name) (from to : Expression) (body : Block) → IsSoundScope s → IsWellScoped s →
      first_of_form tree task s (for_to_form demanded n from to body) ≡ None → first_within tree task s (for_to_form demanded n from to body) ≡ None →
      IsSoundScope (with_name s n (arithmetic_type (type_of tree s from) (type_of tree s to)) true)
      × IsWellScoped (with_name s n (arithmetic_type (type_of tree s from) (type_of tree s to)) true)
      × (first_in_block tree task (with_name s n (arithmetic_type (type_of tree s from) (type_of tree s to)) true) body ≡ None)
  count_next s demanded n from to body scope well_scoped e w =
      let here = count_scope tree task sound s demanded n from to body scope e in
      let whole = bounds_whole s demanded n from to body scope e in
      let is = whole_said s (type_of tree s from) (type_of tree s to) whole.0 whole.1 in (
        subst IsSoundScope here.0 here.1,
        said_more s n (arithmetic_type (type_of tree s from) (type_of tree s to)) true scope well_scoped is.0 is.1 is.2,
        subst (λ t. first_in_block tree task t body ≡ None) here.0 w,
      )

  -- ---- names behind statements

  pub names_arms : (s : Scope) (arms : Arms) → (scope_after_arms tree s arms).names ≡ s.names
  names_arms s no_arm = refl
  names_arms s (an_arm test body rest) = names_arms (past s (scope_after_block tree s body)) rest

  pub names_else : (s : Scope) (other : Otherwise) → (scope_after_else tree s other).names ≡ s.names
  names_else s no_else = refl
  names_else s (else_block body) = refl

  pub said_arms : (s : Scope) (arms : Arms) → s.next ≤ (scope_after_arms tree s arms).next → IsWellScoped s → IsWellScoped (scope_after_arms tree s arms)
  said_arms s arms less well_scoped = said_past s (scope_after_arms tree s arms) (names_arms s arms) less well_scoped

  pub said_after : (s : Scope) (form : Form) → IsSoundScope s → IsWellScoped s → first_of_form tree task s form ≡ None → s.next ≤ (scope_after tree s form).next → IsWellScoped (scope_after tree s form)
  said_after s (var_form n t start) scope well_scoped e less =
      let is = var_said tree task s sound scope well_scoped n t start e in
      said_past (with_name s n (var_type tree s t start) false) (scope_after tree s (var_form n t start)) refl (omega (arith))
      (said_more s n (var_type tree s t start) false scope well_scoped is.0 is.1 is.2)
  said_after s (if_form arms other) scope well_scoped e less =
      said_past s (scope_after tree s (if_form arms other)) (names_else (scope_after_arms tree s arms) other ∙ names_arms s arms) less well_scoped
  said_after s (while_form test body) scope well_scoped e less = said_past s (scope_after tree s (while_form test body)) refl less well_scoped
  said_after s (for_in_form demanded n domain body) scope well_scoped e less = said_past s (scope_after tree s (for_in_form demanded n domain body)) refl less well_scoped
  said_after s (for_to_form demanded n from to body) scope well_scoped e less = said_past s (scope_after tree s (for_to_form demanded n from to body)) refl less well_scoped
  said_after s (do_form body) scope well_scoped e less = said_past s (scope_after tree s (do_form body)) refl less well_scoped
  said_after s (fill_form r fields x) scope well_scoped e less = well_scoped
  said_after s (assert_form x) scope well_scoped e less = well_scoped
  said_after s (print_form alias format args) scope well_scoped e less = well_scoped
  said_after s (call_form t args) scope well_scoped e less = well_scoped
  said_after s (assign_form n steps how x) scope well_scoped e less = well_scoped
  said_after s (return_form x) scope well_scoped e less = well_scoped

  -- ---- what more is known

  mutual
    pub grown_form : (s : Scope) (form : Form) → IsSoundScope s → IsWellScoped s → first_of_form tree task s form ≡ None → first_within tree task s form ≡ None →
        KnowsMore s (scope_after tree s form)
    grown_form s (var_form n t start) scope well_scoped e w = var_grows tree task s sound scope well_scoped n t start e
    grown_form s (if_form arms other) scope well_scoped e w =
        let next = else_next tree task sound s arms other scope w in
        grows_then s (scope_after_arms tree s arms) (scope_after_else tree (scope_after_arms tree s arms) other)
        (grown_arms s arms scope well_scoped next.0)
        (grown_else (scope_after_arms tree s arms) other next.1 (said_arms s arms (grown_arms s arms scope well_scoped next.0).next well_scoped) next.2)
    grown_form s (while_form test body) scope well_scoped e w = grows_past s s (scope_after_block tree s body) refl (omega (arith)) (grown_block s body scope well_scoped w)
    grown_form s (for_in_form demanded n domain body) scope well_scoped e w =
        let next = loop_next s demanded n domain body scope well_scoped e w in
        let inner = with_name s n (taken_from (type_of tree s domain)) true in
        grows_past s inner (scope_after_block tree inner body) refl (omega (arith)) (grown_block inner body next.0 next.1 next.2)
    grown_form s (for_to_form demanded n from to body) scope well_scoped e w =
        let next = count_next s demanded n from to body scope well_scoped e w in
        let inner = with_name s n (arithmetic_type (type_of tree s from) (type_of tree s to)) true in
        grows_past s inner (scope_after_block tree inner body) refl (omega (arith)) (grown_block inner body next.0 next.1 next.2)
    grown_form s (do_form body) scope well_scoped e w = grows_past s s (scope_after_block tree s body) refl (omega (arith)) (grown_block s body scope well_scoped w)
    grown_form s (fill_form r fields x) scope well_scoped e w = grows_none s s refl (omega (arith))
    grown_form s (assert_form x) scope well_scoped e w = grows_none s s refl (omega (arith))
    grown_form s (print_form alias format args) scope well_scoped e w = grows_none s s refl (omega (arith))
    grown_form s (call_form t args) scope well_scoped e w = grows_none s s refl (omega (arith))
    grown_form s (assign_form n steps how x) scope well_scoped e w = grows_none s s refl (omega (arith))
    grown_form s (return_form x) scope well_scoped e w = grows_none s s refl (omega (arith))

    pub grown_block : (s : Scope) (b : Block) → IsSoundScope s → IsWellScoped s → first_in_block tree task s b ≡ None → KnowsMore s (scope_after_block tree s b)
    grown_block s no_statement scope well_scoped e = grows_none s s refl (omega (arith))
    grown_block s (then_statement (a_statement line form) rest) scope well_scoped e =
        let next = block_next tree task sound s line form rest scope e in
        grows_then s (scope_after tree s form) (scope_after_block tree (scope_after tree s form) rest)
        (grown_form s form scope well_scoped next.0 next.1)
        (grown_block (scope_after tree s form) rest next.2 (said_after s form scope well_scoped next.0 (grown_form s form scope well_scoped next.0 next.1).next) next.3)

    pub grown_arms : (s : Scope) (arms : Arms) → IsSoundScope s → IsWellScoped s → first_in_arms tree task s arms ≡ None → KnowsMore s (scope_after_arms tree s arms)
    grown_arms s no_arm scope well_scoped e = grows_none s s refl (omega (arith))
    grown_arms s (an_arm test body rest) scope well_scoped e =
        let next = arm_next tree task sound s test body rest scope e in
        let behind = past s (scope_after_block tree s body) in
        grows_then s behind (scope_after_arms tree behind rest)
        (grows_past s s (scope_after_block tree s body) refl (omega (arith)) (grown_block s body scope well_scoped next.0))
        (grown_arms behind rest next.1 (said_past s behind refl (grown_block s body scope well_scoped next.0).next well_scoped) next.2)

    pub grown_else : (s : Scope) (other : Otherwise) → IsSoundScope s → IsWellScoped s → first_in_else tree task s other ≡ None → KnowsMore s (scope_after_else tree s other)
    grown_else s no_else scope well_scoped e = grows_none s s refl (omega (arith))
    grown_else s (else_block body) scope well_scoped e = grows_past s s (scope_after_block tree s body) refl (omega (arith)) (grown_block s body scope well_scoped e)

  -- ---- names that stay

  pub names_after : (s : Scope) (form : Form) → (scope_after tree s form).names ≡ s.names ⊎ IsVar form
  names_after s (var_form n t start) = inr tt
  names_after s (if_form arms other) = inl (names_else (scope_after_arms tree s arms) other ∙ names_arms s arms)
  names_after s (while_form test body) = inl refl
  names_after s (for_in_form demanded n domain body) = inl refl
  names_after s (for_to_form demanded n from to body) = inl refl
  names_after s (do_form body) = inl refl
  names_after s (fill_form r fields x) = inl refl
  names_after s (assert_form x) = inl refl
  names_after s (print_form alias format args) = inl refl
  names_after s (call_form t args) = inl refl
  names_after s (assign_form n steps how x) = inl refl
  names_after s (return_form x) = inl refl

  var_more : (s : Scope) (form : Form) → IsVar form → IsMore s (scope_after tree s form)
  var_more s (var_form n t start) is = record {
    extends = λ i l. ap (λ c. cond c (record { name = n; number = s.next; place = length s.names; static_type = var_type tree s t start; by_loop = false }) (bound_as s.names i)) (differ s.next i l);
    longer = omega (arith);
    placed = λ p. (refl, p);
  }
  var_more s (if_form arms other) is = absurd is
  var_more s (while_form test body) is = absurd is
  var_more s (for_in_form demanded n domain body) is = absurd is
  var_more s (for_to_form demanded n from to body) is = absurd is
  var_more s (do_form body) is = absurd is
  var_more s (fill_form r fields x) is = absurd is
  var_more s (assert_form x) is = absurd is
  var_more s (print_form alias format args) is = absurd is
  var_more s (call_form t args) is = absurd is
  var_more s (assign_form n steps how x) is = absurd is
  var_more s (return_form x) is = absurd is

  pub same_more : (s t : Scope) → t.names ≡ s.names → IsMore s t
  same_more s t same = record {
    extends = λ i l. ap (λ names. bound_as names i) same;
    longer = let e = ap length same in omega (arith, e);
    placed = λ p. subst ArePlaced (sym same) p;
  }

  pub more_after : (s : Scope) (form : Form) → IsMore s (scope_after tree s form)
  more_after s form = elim (names_after s form) [ inl same ↦ same_more s (scope_after tree s form) same | inr is ↦ var_more s form is ]

  more_then : (s t u : Scope) → s.next ≤ t.next → IsMore s t → IsMore t u → IsMore s u
  more_then s t u less a b = let p = a.longer in let q = b.longer in record {
    extends = λ i l. b.extends i (omega (arith, l, less)) ∙ a.extends i l;
    longer = omega (arith, p, q);
    placed = λ k. b.placed (a.placed k);
  }

  pub more_block : (s : Scope) (b : Block) → IsSoundScope s → IsWellScoped s → first_in_block tree task s b ≡ None → IsMore s (scope_after_block tree s b)
  more_block s no_statement scope well_scoped e = same_more s s refl
  more_block s (then_statement (a_statement line form) rest) scope well_scoped e =
      let next = block_next tree task sound s line form rest scope e in
      let grown = grown_form s form scope well_scoped next.0 next.1 in
      more_then s (scope_after tree s form) (scope_after_block tree (scope_after tree s form) rest) grown.next (more_after s form)
      (more_block (scope_after tree s form) rest next.2 (said_after s form scope well_scoped next.0 grown.next) next.3)

  pub static_after : (x : Instance) (s : Scope) (form : Form) → IsSoundScope s → IsStaticPlace x s → first_of_form tree task s form ≡ None → first_within tree task s form ≡ None →
      IsStaticPlace x (scope_after tree s form)
  static_after x s form scope static e w =
      let grown = grown_form s form scope static.well_scoped e w in
      let less = grown.next in record {
        well_scoped = said_after s form scope static.well_scoped e less;
        below = grows_below s (scope_after tree s form) grown static.below;
        placed = (more_after s form).placed static.placed;
        params = λ i is. let l = static.params i is in omega (arith, l, less);
      }

  pub static_past : (x : Instance) (s t : Scope) → IsStaticPlace x s → KnowsMore s t → IsStaticPlace x (past s t)
  static_past x s t static grown =
      let less = grown.next in record {
        well_scoped = said_past s (past s t) refl less static.well_scoped;
        below = grows_below s t grown static.below;
        placed = static.placed;
        params = λ i is. let l = static.params i is in omega (arith, l, less);
      }
