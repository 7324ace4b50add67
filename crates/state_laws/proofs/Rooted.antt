-- Partitions stay of their parents' roots where names are bound, set and left.
use Rattle.std.proofs.Common.{List, [], ◌∷◌, ◌++◌, Bool, false, true, ap, sym, subst, ℕ, ◌≡◌, ◌∙◌, ◌<◌, ◌==◌, ◌||◌, ◌⊎◌, inl, inr, get_or, cond, not, arith}
use Rattle.std.proofs.lemmas.Bool.{and_parts, eq-eqb, eqb-true, or_left}
use Rattle.std.proofs.lemmas.List.{get_or_push}
use Rattle.std.specs.Prelude.{length, slice_set, take}
use Rattle.regent_tree.specs.Accesses.{converted, regions_reached}
use Rattle.regent_tree.specs.Running.{Here, Result, Run, State, and_then, fails, gives}
use Rattle.regent_tree.specs.Scopes.{bound_as, unbound}
use Rattle.regent_tree.specs.StaticTypes.{binding_of_term}
use Rattle.regent_tree.specs.Syntax.{Tree}
use Rattle.regent_tree.specs.Typing.{owned, reaches_of}
use Rattle.regent_tree.specs.Values.{Value, a_truth, partition_of, region_of}
use Rattle.regent_tree.specs.declared.facts.Known.{Known}
use Rattle.regent_tree.specs.declared.facts.Term.TheVariants as term
use Rattle.regent_tree.specs.declared.typing.Bound.{Bound}
use Rattle.regent_tree.specs.declared.typing.StaticType.{StaticType}
use Rattle.regent_tree.specs.declared.typing.StaticType.TheVariants.{Index as index_type, Integer as integer_type, Ispace as ispace_type, Nothing as no_type, Partition as partition_type, Pointer as pointer_type, Region as region_type, Truth as truth_type, Unknown as unknown_type}
use Rattle.check_rules.specs.types.Fitting.{fits_known}
use Rattle.check_rules.specs.types.Sorts.{is_collection, is_partition, is_region, is_space, is_unknown_type}
use Rattle.check_laws.proofs.Parts.{contrary}
use Rattle.check_laws.specs.SoundScopes.{Falls}
use Rattle.expression_laws.specs.Kinds.{IsNamedByOwnNumber}
use Rattle.statement_laws.proofs.Assignments.{same_place}
use Rattle.statement_laws.proofs.States.{placed_below}
use Rattle.statement_laws.specs.Steady.{ArePlaced}
use Rattle.state_laws.proofs.Growing.{StaysBound, region_stays, stays_bound, taken_before, value_before}
use Rattle.state_laws.proofs.Written.{set_cases}
use Rattle.expression_laws.specs.Sound.{EndsIn}
use Rattle.value_laws.proofs.Roots.{Gives}
use Rattle.value_laws.proofs.SameNames.{KeepsNames}
use Rattle.value_laws.specs.Fitting.{HasRootOfName, RootsAgree, root_bound}
use Rattle.value_laws.specs.Spaces.{AreSpaced, HasParent, HasSpaceOfName}

-- ---- one type

-- a partition is of its parent's root
abbrev pub IsOfParent : List Bound → List Value → StaticType → Value → Type 0
IsOfParent names vs (partition_type d r p) v = (partition_of v).root ≡ root_bound names vs r
IsOfParent names vs t v = Unit {0}

pub of_parent : (names : List Bound) (vs : List Value) (t : StaticType) (v : Value) → HasRootOfName names vs t v → IsOfParent names vs t v
of_parent names vs (partition_type d r p) v root = root
of_parent names vs (integer_type w) v root = tt
of_parent names vs truth_type v root = tt
of_parent names vs (index_type k) v root = tt
of_parent names vs (pointer_type k space args terms) v root = tt
of_parent names vs (ispace_type k) v root = tt
of_parent names vs (region_type k space args q) v root = tt
of_parent names vs no_type v root = tt
of_parent names vs unknown_type v root = tt

pub no_parent : (names : List Bound) (vs : List Value) (t : StaticType) (v : Value) → is_collection t ≡ false → IsOfParent names vs t v
no_parent names vs (partition_type d r p) v e = absurd cc
no_parent names vs (integer_type w) v e = tt
no_parent names vs truth_type v e = tt
no_parent names vs (index_type k) v e = tt
no_parent names vs (pointer_type k space args terms) v e = tt
no_parent names vs (ispace_type k) v e = tt
no_parent names vs (region_type k space args q) v e = tt
no_parent names vs no_type v e = tt
no_parent names vs unknown_type v e = tt

pub owned_of_parent : (names : List Bound) (vs : List Value) (own : ℕ) (t : StaticType) (v : Value) → IsOfParent names vs t v → IsOfParent names vs (owned own t) v
owned_of_parent names vs own (partition_type d r p) v is = is
owned_of_parent names vs own (integer_type w) v is = tt
owned_of_parent names vs own truth_type v is = tt
owned_of_parent names vs own (index_type k) v is = tt
owned_of_parent names vs own (pointer_type k space args terms) v is = tt
owned_of_parent names vs own (ispace_type k) v is = tt
owned_of_parent names vs own (region_type k space args q) v is = tt
owned_of_parent names vs own no_type v is = tt
owned_of_parent names vs own unknown_type v is = tt

-- where names of regions have the same roots
roots_move : (names a b : List Bound) (us vs : List Value) → ((i : ℕ) → is_region (bound_as names i).static_type ≡ true → root_bound b vs i ≡ root_bound a us i) →
    (t : StaticType) (v : Value) → HasParent names t → HasSpaceOfName names t → HasRootOfName a us t v → HasRootOfName b vs t v
roots_move names a b us vs same (partition_type d r p) v parent named root = root ∙ sym (same r parent)
roots_move names a b us vs same (region_type k space args (term.Name i)) v parent named root = root ∙ sym (same i named.region)
roots_move names a b us vs same (region_type k space args (term.Child p c)) v parent named root = tt
roots_move names a b us vs same (integer_type w) v parent named root = tt
roots_move names a b us vs same truth_type v parent named root = tt
roots_move names a b us vs same (index_type k) v parent named root = tt
roots_move names a b us vs same (pointer_type k space args terms) v parent named root = tt
roots_move names a b us vs same (ispace_type k) v parent named root = tt
roots_move names a b us vs same no_type v parent named root = tt
roots_move names a b us vs same unknown_type v parent named root = tt

-- a region's name is bound, at a place that is there
region_low : (names : List Bound) → ArePlaced names → (i : ℕ) → is_region (bound_as names i).static_type ≡ true → (bound_as names i).place < length names
region_low names placed i e = by (placed_below names placed i)
  where
    by : ((bound_as names i).place < length names) ⊎ (bound_as names i ≡ unbound) → (bound_as names i).place < length names
    by (inl low) = low
    by (inr none) = absurd (contrary (sym e ∙ ap (λ (b : Bound). is_region b.static_type) none))

-- ---- one name more

module _ (tree : Tree) (next : ℕ) (names : List Bound) (b : Bound) (falls : Falls next names) (number : b.number ≡ next) (vs : List Value) (v : Value)
    (placed : ArePlaced (b ∷ names)) (counted : length vs ≡ length names) where
  same_more : (i : ℕ) → is_region (bound_as names i).static_type ≡ true → root_bound (b ∷ names) (vs ++ v ∷ []) i ≡ root_bound names vs i
  same_more i e =
      let low = region_low names placed.1 i e in
      ap (λ (c : Bound). (region_of (get_or (vs ++ v ∷ []) c.place (a_truth false))).root) (region_stays names (b ∷ names) (stays_bound next names b falls number) i e)
      ∙ ap (λ x. (region_of x).root) (value_before vs v (a_truth false) (bound_as names i).place (omega (arith, low, counted)))

  new_root : (t : StaticType) → HasParent names t → IsNamedByOwnNumber next t → IsOfParent names vs t v → HasRootOfName (b ∷ names) (vs ++ v ∷ []) t v
  new_root (partition_type d r p) parent own is = is ∙ sym (same_more r parent)
  new_root (region_type k space args (term.Name j)) parent own is =
      let j_next : next ≡ j = sym (ap binding_of_term own) in
      let at : bound_as (b ∷ names) j ≡ b = ap (λ c. cond c b (bound_as names j)) (eq-eqb b.number j (number ∙ j_next)) in
      sym (ap (λ (c : Bound). (region_of (get_or (vs ++ v ∷ []) c.place (a_truth false))).root) at
      ∙ ap (λ x. (region_of x).root) (get_or_push vs v (a_truth false) b.place (counted ∙ sym placed.0)))
  new_root (region_type k space args (term.Child p c)) parent own is = tt
  new_root (integer_type w) parent own is = tt
  new_root truth_type parent own is = tt
  new_root (index_type k) parent own is = tt
  new_root (pointer_type k space args terms) parent own is = tt
  new_root (ispace_type k) parent own is = tt
  new_root no_type parent own is = tt
  new_root unknown_type parent own is = tt

  pub roots_new : AreSpaced tree names → RootsAgree names vs → HasParent names b.static_type → IsNamedByOwnNumber next b.static_type → IsOfParent names vs b.static_type v →
      RootsAgree (b ∷ names) (vs ++ v ∷ [])
  roots_new spaced agree parent own is i = by (b.number == i) (placed_below names placed.1 i)
    where
      by : (c : Bool) → ((bound_as names i).place < length names) ⊎ (bound_as names i ≡ unbound) →
          HasRootOfName (b ∷ names) (vs ++ v ∷ []) (cond c b (bound_as names i)).static_type (get_or (vs ++ v ∷ []) (cond c b (bound_as names i)).place (a_truth false))
      by true low = subst (HasRootOfName (b ∷ names) (vs ++ v ∷ []) b.static_type) (sym (get_or_push vs v (a_truth false) b.place (counted ∙ sym placed.0)))
          (new_root b.static_type parent own is)
      by false (inr none) = subst (λ (c : Bound). HasRootOfName (b ∷ names) (vs ++ v ∷ []) c.static_type (get_or (vs ++ v ∷ []) c.place (a_truth false))) (sym none) tt
      by false (inl low) = subst (HasRootOfName (b ∷ names) (vs ++ v ∷ []) (bound_as names i).static_type)
          (sym (value_before vs v (a_truth false) (bound_as names i).place (omega (arith, low, counted))))
          (roots_move names names (b ∷ names) vs (vs ++ v ∷ []) same_more (bound_as names i).static_type _ (spaced i).parent (spaced i).named (agree i))

-- ---- names that go

pub roots_left : (tree : Tree) (names inner : List Bound) (vs : List Value) → StaysBound names inner → ArePlaced names → AreSpaced tree names → RootsAgree inner vs →
    RootsAgree names (take (length names) vs)
roots_left tree names inner vs stays placed spaced agree i = by (stays i) (placed_below names placed i)
  where
    same : (j : ℕ) → is_region (bound_as names j).static_type ≡ true → root_bound names (take (length names) vs) j ≡ root_bound inner vs j
    same j e = ap (λ x. (region_of x).root) (taken_before vs (length names) (bound_as names j).place (a_truth false) (region_low names placed j e))
        ∙ sym (ap (λ (c : Bound). (region_of (get_or vs c.place (a_truth false))).root) (region_stays names inner stays j e))

    gone : bound_as names i ≡ unbound → HasRootOfName names (take (length names) vs) (bound_as names i).static_type (get_or (take (length names) vs) (bound_as names i).place (a_truth false))
    gone none = subst (λ (c : Bound). HasRootOfName names (take (length names) vs) c.static_type (get_or (take (length names) vs) c.place (a_truth false))) (sym none) tt

    by : (bound_as names i ≡ unbound) ⊎ (bound_as inner i ≡ bound_as names i) → ((bound_as names i).place < length names) ⊎ (bound_as names i ≡ unbound) →
        HasRootOfName names (take (length names) vs) (bound_as names i).static_type (get_or (take (length names) vs) (bound_as names i).place (a_truth false))
    by (inl none) low = gone none
    by (inr bound) (inr none) = gone none
    by (inr bound) (inl low) = subst (HasRootOfName names (take (length names) vs) (bound_as names i).static_type) (sym (taken_before vs (length names) (bound_as names i).place (a_truth false) low))
        (roots_move names inner names vs (take (length names) vs) same (bound_as names i).static_type _ (spaced i).parent (spaced i).named
        (subst (λ (c : Bound). HasRootOfName inner vs c.static_type (get_or vs c.place (a_truth false))) bound (agree i)))

-- ---- a name that is set

any_root_of : (names : List Bound) (vs : List Value) (t : StaticType) (v : Value) → is_collection t ≡ false → HasRootOfName names vs t v
any_root_of names vs (integer_type w) v e = tt
any_root_of names vs truth_type v e = tt
any_root_of names vs (index_type k) v e = tt
any_root_of names vs (pointer_type k space args terms) v e = tt
any_root_of names vs (ispace_type k) v e = tt
any_root_of names vs (region_type k space args q) v e = absurd cc
any_root_of names vs (partition_type d r p) v e = absurd cc
any_root_of names vs no_type v e = tt
any_root_of names vs unknown_type v e = tt

pub roots_set : (tree : Tree) (names : List Bound) (vs : List Value) (b : Bound) (v : Value) → ArePlaced names → AreSpaced tree names → bound_as names b.number ≡ b →
    is_unknown_type b.static_type ≡ false → is_collection b.static_type ≡ false → RootsAgree names vs → RootsAgree names (slice_set vs b.place v)
roots_set tree names vs b v placed spaced found known plain agree i =
    elim (set_cases vs b.place (bound_as names i).place v (a_truth false)) [
      | inl e ↦ subst (HasRootOfName names (slice_set vs b.place v) (bound_as names i).static_type) (sym e)
          (roots_move names names names vs (slice_set vs b.place v) same (bound_as names i).static_type _ (spaced i).parent (spaced i).named (agree i))
      | inr e ↦ any_root_of names (slice_set vs b.place v) (bound_as names i).static_type _ (alike i (sym e.0))
    ]
  where
    alike : (j : ℕ) → (bound_as names j).place ≡ b.place → is_collection (bound_as names j).static_type ≡ false
    alike j e = by (same_place names placed j b.number (e ∙ sym (ap (λ (c : Bound). c.place) found)))
      where
        by : (bound_as names j ≡ bound_as names b.number) ⊎ ((bound_as names j ≡ unbound) ⊎ (bound_as names b.number ≡ unbound)) → is_collection (bound_as names j).static_type ≡ false
        by (inl q) = ap (λ (c : Bound). is_collection c.static_type) (q ∙ found) ∙ plain
        by (inr (inl q)) = ap (λ (c : Bound). is_collection c.static_type) q
        by (inr (inr q)) = absurd (contrary (sym (ap (λ (c : Bound). is_unknown_type c.static_type) (sym found ∙ q)) ∙ known))

    same : (j : ℕ) → is_region (bound_as names j).static_type ≡ true → root_bound names (slice_set vs b.place v) j ≡ root_bound names vs j
    same j e = elim (set_cases vs b.place (bound_as names j).place v (a_truth false)) [
      | inl q ↦ ap (λ x. (region_of x).root) q
      | inr q ↦ absurd (contrary (sym (or_left (is_region (bound_as names j).static_type || is_partition (bound_as names j).static_type) (is_space (bound_as names j).static_type)
          (or_left (is_region (bound_as names j).static_type) (is_partition (bound_as names j).static_type) e)) ∙ alike j (sym q.0)))
    ]

-- ---- what begins a name

pub plain_parent : (names : List Bound) (t : StaticType) → is_collection t ≡ false → HasParent names t
plain_parent names (partition_type d r p) e = absurd cc
plain_parent names (integer_type w) e = tt
plain_parent names truth_type e = tt
plain_parent names (index_type k) e = tt
plain_parent names (pointer_type k space args terms) e = tt
plain_parent names (ispace_type k) e = tt
plain_parent names (region_type k space args q) e = tt
plain_parent names no_type e = tt
plain_parent names unknown_type e = tt

pub plain_own : (next : ℕ) (t : StaticType) → is_collection t ≡ false → IsNamedByOwnNumber next t
plain_own next (partition_type d r p) e = absurd cc
plain_own next (region_type k space args q) e = absurd cc
plain_own next (integer_type w) e = tt
plain_own next truth_type e = tt
plain_own next (index_type k) e = tt
plain_own next (pointer_type k space args terms) e = tt
plain_own next (ispace_type k) e = tt
plain_own next no_type e = tt
plain_own next unknown_type e = tt

-- what a step gives is of its parent's root in the state behind it
abbrev pub EndsOfParent : List Bound → StaticType → Result Value → Type 0
EndsOfParent names t r = EndsIn (λ v w. IsOfParent names w.names t v) (λ f w. Unit {0}) r

pub ends_named : (names : List Bound) (vs : List Value) (t : StaticType) (r : Result Value) → Gives (IsOfParent names vs t) r → KeepsNames vs r → EndsOfParent names t r
ends_named names vs t (gives v w) is same = subst (λ ns. IsOfParent names ns t v) (sym same) is
ends_named names vs t (fails f w) is same = tt

pub gives_parent : (names : List Bound) (vs : List Value) (t : StaticType) (r : Result Value) → Gives (HasRootOfName names vs t) r → Gives (IsOfParent names vs t) r
gives_parent names vs t (gives v w) is = of_parent names vs t v is
gives_parent names vs t (fails f w) is = tt

pub owned_ends : (names : List Bound) (own : ℕ) (t : StaticType) (r : Result Value) → EndsOfParent names t r → EndsOfParent names (owned own t) r
owned_ends names own t (gives v w) is = owned_of_parent names w.names own t v is
owned_ends names own t (fails f w) is = tt

pub then_ends : {A B : Type 0} (good : B → State → Type 0) (r : Result A) (more : A → Run B) → ((a : A) (w : State) → EndsIn good (λ f w. Unit {0}) (more a w)) →
    EndsIn good (λ f w. Unit {0}) (and_then r more)
then_ends good (gives a w) more next = next a w
then_ends good (fails f w) more next = tt

-- where a partition fits another type, that is of its parent too
pub wanted_parent : (names : List Bound) (vs : List Value) (known : List Known) (t wanted : StaticType) (v : Value) → is_unknown_type t ≡ false → fits_known known t wanted ≡ true →
    IsOfParent names vs t v → IsOfParent names vs wanted v
wanted_parent names vs known t (integer_type w) v k e is = tt
wanted_parent names vs known t truth_type v k e is = tt
wanted_parent names vs known t (index_type j) v k e is = tt
wanted_parent names vs known t (pointer_type j space args terms) v k e is = tt
wanted_parent names vs known t (ispace_type j) v k e is = tt
wanted_parent names vs known t (region_type j space args q) v k e is = tt
wanted_parent names vs known t no_type v k e is = tt
wanted_parent names vs known t unknown_type v k e is = tt
wanted_parent names vs known (partition_type d r p) (partition_type asked parent own) v k e is =
    is ∙ ap (root_bound names vs) (eqb-true r parent (and_parts (d || not asked) _ e).1)
wanted_parent names vs known (integer_type w) (partition_type asked parent own) v k e is = absurd cc
wanted_parent names vs known truth_type (partition_type asked parent own) v k e is = absurd cc
wanted_parent names vs known (index_type j) (partition_type asked parent own) v k e is = absurd cc
wanted_parent names vs known (pointer_type j space args terms) (partition_type asked parent own) v k e is = absurd cc
wanted_parent names vs known (ispace_type j) (partition_type asked parent own) v k e is = absurd cc
wanted_parent names vs known (region_type j space args q) (partition_type asked parent own) v k e is = absurd cc
wanted_parent names vs known no_type (partition_type asked parent own) v k e is = absurd cc
wanted_parent names vs known unknown_type (partition_type asked parent own) v k e is = absurd cc

pub wanted_ends : (names : List Bound) (known : List Known) (t wanted : StaticType) (r : Result Value) → is_unknown_type t ≡ false → fits_known known t wanted ≡ true →
    EndsOfParent names t r → EndsOfParent names wanted r
wanted_ends names known t wanted (gives v w) k e is = wanted_parent names w.names known t wanted v k e is
wanted_ends names known t wanted (fails f w) k e is = tt

any_ends : (r : Result Value) → EndsIn (λ v w. Unit {0}) (λ f w. Unit {0}) r
any_ends (gives v w) = tt
any_ends (fails f w) = tt

-- so it is where the value is converted to the type
pub converted_ends : (h : Here) (t wanted : StaticType) → is_unknown_type t ≡ false → fits_known h.scope.known t wanted ≡ true → (r : Result Value) → EndsOfParent h.scope.names t r →
    EndsOfParent h.scope.names wanted (and_then r (λ v z. converted h t wanted (regions_reached h.scope z.names (reaches_of wanted)) v z))
converted_ends h t (partition_type asked parent own) k e (gives v z) is = wanted_parent h.scope.names z.names h.scope.known t (partition_type asked parent own) v k e is
converted_ends h t (partition_type asked parent own) k e (fails f z) is = tt
converted_ends h t (integer_type w) k e r is = any_ends _
converted_ends h t truth_type k e r is = any_ends _
converted_ends h t (index_type j) k e r is = any_ends _
converted_ends h t (pointer_type j space args terms) k e r is = any_ends _
converted_ends h t (ispace_type j) k e r is = any_ends _
converted_ends h t (region_type j space args q) k e r is = any_ends _
converted_ends h t no_type k e r is = any_ends _
converted_ends h t unknown_type k e r is = any_ends _
