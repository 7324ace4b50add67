-- The regions beside pointers into parts: where more names come, some go, or slots and roots are others.
use Rattle.std.proofs.Common.{◌≡◌, ℕ, ◌<◌, ◌≤◌, List, [], ◌∷◌, ◌++◌, Bool, true, false, Some, refl, sym, ◌∙◌, subst, arith}
use Rattle.std.specs.Prelude.{bytes_eq, cond, get_or, length, slice_set, take, ◌==◌, ◌||◌}
use Rattle.std.proofs.lemmas.Bool.{eqb-false, eqb-true}
use Rattle.std.proofs.lemmas.List.{get_or-set_other, get_or-set_same, get_or-take}
use Rattle.regent_tree.specs.Lookup.{is_bound}
use Rattle.regent_tree.specs.Scopes.{bound_to}
use Rattle.regent_tree.specs.Syntax.{Name}
use Rattle.regent_tree.specs.Typing.{reaches_of}
use Rattle.regent_tree.specs.Values.{Region, Target, Value, a_number, a_partition, a_pointer, a_region, a_space, a_truth, an_index, regions_of}
use Rattle.regent_tree.specs.declared.facts.Colour.{Colour}
use Rattle.regent_tree.specs.declared.facts.Term.TheVariants as term
use Rattle.regent_tree.specs.declared.typing.Bound.{Bound}
use Rattle.regent_tree.specs.declared.typing.StaticType.{StaticType}
use Rattle.regent_tree.specs.declared.typing.StaticType.TheVariants.{Integer as integer_type, Truth as truth_type, Index as index_type, Pointer as pointer_type, Ispace as ispace_type, Region as region_type, Partition as partition_type, Nothing as no_type, Unknown as unknown_type}
use Rattle.machine_terms.specs.declared.order.Contents.{Contents}
use Rattle.machine_terms.specs.declared.value.Value.{Value as MachineValue}
use Rattle.code_laws.specs.Pointers.{AreThere, GoToParams, GoesToParams, IsWritten}
use Rattle.code_laws.specs.Simple.{IsPartition, IsRegion, IsSimple, a_partition_type, a_region_type, simple_index, simple_integer, simple_space, simple_truth}
use Rattle.code_laws.specs.Standing.{AreBeside, AreOf, GoesToPart, IsBeside, IsOf, machine_value, nothing}
use Rattle.code_laws.proofs.Pointing.{IsPlain}
use Rattle.code_laws.proofs.Values.{not_true}

-- ---- types of which no pointer goes into a part

pub none_there : (q : Region) → [] ≡ q ∷ [] → ⊥
none_there q e = absurd cc

abbrev pub HasNoPart : StaticType → Type 0
HasNoPart t = (p : ℕ) (c : Colour) → reaches_of t ≡ Some (term.Child p c) ∷ [] → ⊥

pub simple_no_part : (t : StaticType) → IsSimple t → HasNoPart t
simple_no_part _ (simple_integer w) p c e = absurd cc
simple_no_part _ simple_truth p c e = absurd cc
simple_no_part _ (simple_space k) p c e = absurd cc
simple_no_part _ (simple_index k) p c e = absurd cc

pub region_no_part : (t : StaticType) → IsRegion t → HasNoPart t
region_no_part _ (a_region_type k sp args r) p c e = absurd cc

pub partition_no_part : (t : StaticType) → IsPartition t → HasNoPart t
partition_no_part _ (a_partition_type d r k) p c e = absurd cc

pub there_no_part : (bs : List Bound) (sp : ℕ) (t : StaticType) → AreThere bs sp (reaches_of t) → HasNoPart t
there_no_part bs sp t there p c e = subst (AreThere bs sp) e there

pub written_no_part : (bs : List Bound) (t : StaticType) → IsWritten bs t → HasNoPart t
written_no_part bs t wr p c e = there_no_part bs _ t wr.1 p c e

param_no_part : (all : List Bound) (t : StaticType) → GoesToParams all t → HasNoPart t
param_no_part all (pointer_type k sp args rs) goals p c e = subst (AreThere all sp) e goals
param_no_part all (integer_type w) goals p c e = absurd cc
param_no_part all truth_type goals p c e = absurd cc
param_no_part all (index_type k) goals p c e = absurd cc
param_no_part all (ispace_type k) goals p c e = absurd cc
param_no_part all (region_type k sp args r) goals p c e = absurd cc
param_no_part all (partition_type d r q) goals p c e = absurd cc
param_no_part all no_type goals p c e = absurd cc
param_no_part all unknown_type goals p c e = absurd cc

-- a value that is no pointer goes nowhere
plain_nowhere : (t : StaticType) (v : Value) (q : Region) → IsPlain v → GoesToPart t v q → ⊥
plain_nowhere t (a_pointer tg rs) q p goes = p
plain_nowhere t (a_number w z) q p goes = absurd (none_there q goes.regions)
plain_nowhere t (a_truth b) q p goes = absurd (none_there q goes.regions)
plain_nowhere t (an_index z) q p goes = absurd (none_there q goes.regions)
plain_nowhere t (a_space n) q p goes = absurd (none_there q goes.regions)
plain_nowhere t (a_region r) q p goes = absurd (none_there q goes.regions)
plain_nowhere t (a_partition r) q p goes = p

pub plain_beside : (at : ℕ → MachineValue) (c : Contents) (params roots : ℕ) (bs : List Bound) (names : List Value) → AreOf (λ t v. IsPlain v) bs names →
    AreBeside at c params roots bs names
plain_beside at c params roots [] names a = tt
plain_beside at c params roots (b ∷ bs) names a = (
  λ q goes. absurd (plain_nowhere b.static_type (get_or names b.place nothing) q a.1 goes),
  plain_beside at c params roots bs names a.2,
)

-- what is asked of a value that is bound holds where its type has no part
pub no_part_goes : (m : MachineValue) (c : Contents) (roots : ℕ) (t : StaticType) (v : Value) → HasNoPart t → (q : Region) → GoesToPart t v q →
    (m ≡ machine_value c (a_region q)) × (q.root < roots)
no_part_goes m c roots t v none q goes = absurd (none goes.partition goes.colour goes.into)

-- nothing has to stand beside a value of such a type
pub none_beside : (at : ℕ → MachineValue) (c : Contents) (params roots p : ℕ) (t : StaticType) (v : Value) → HasNoPart t → IsBeside at c params roots p t v
none_beside at c params roots p t v none q goes = absurd (none goes.partition goes.colour goes.into)

-- so for parameters
pub params_beside : (at : ℕ → MachineValue) (c : Contents) (params roots : ℕ) (all bs : List Bound) (names : List Value) → GoToParams all bs →
    AreBeside at c params roots bs names
params_beside at c params roots all [] names goals = tt
params_beside at c params roots all (b ∷ bs) names goals = (
  none_beside at c params roots b.place b.static_type (get_or names b.place nothing) (param_no_part all b.static_type goals.0),
  params_beside at c params roots all bs names goals.1,
)

-- ---- other slots, roots and values

pub beside_changes : (at after : ℕ → MachineValue) (c d : Contents) (params roots more : ℕ) (bs : List Bound) (names values : List Value) →
    AreOf IsOf bs names → ((p : ℕ) → params ≤ p → p < length bs → after p ≡ at p) →
    ((q : Region) → q.root < roots → (machine_value d (a_region q) ≡ machine_value c (a_region q)) × (q.root < more)) →
    ((p : ℕ) (t : StaticType) (q : Region) → p < length bs → GoesToPart t (get_or values p nothing) q → GoesToPart t (get_or names p nothing) q) →
    AreBeside at c params roots bs names → AreBeside after d params more bs values
beside_changes at after c d params roots more [] names values o slots regions same a = tt
beside_changes at after c d params roots more (b ∷ bs) names values o slots regions same a = (
  λ q goes.
      let low : b.place < length (b ∷ bs) = omega (arith, o.0) in
      let was = a.0 q (same b.place b.static_type q low goes) in
      let now = regions q was.2 in
      (was.0, slots b.place was.0 low ∙ was.1 ∙ sym now.0, now.1),
  beside_changes at after c d params roots more bs names values o.2 (λ p l low. slots p l (omega (arith, low))) regions
      (λ p t q low. same p t q (omega (arith, low))) a.1,
)

-- other slots alone
pub beside_slots : (at after : ℕ → MachineValue) (c : Contents) (params roots : ℕ) (bs : List Bound) (names : List Value) →
    AreOf IsOf bs names → ((p : ℕ) → params ≤ p → p < length bs → after p ≡ at p) → AreBeside at c params roots bs names → AreBeside after c params roots bs names
beside_slots at after c params roots bs names o slots a =
    beside_changes at after c c params roots roots bs names names o slots (λ q low. (refl, low)) (λ p t q low goes. goes) a

-- other values alone
pub beside_values : (at : ℕ → MachineValue) (c : Contents) (params roots : ℕ) (bs : List Bound) (names values : List Value) → AreOf IsOf bs names →
    ((p : ℕ) → p < length bs → get_or values p nothing ≡ get_or names p nothing) → AreBeside at c params roots bs names → AreBeside at c params roots bs values
beside_values at c params roots bs names values o same a =
    beside_changes at at c c params roots roots bs names values o (λ p l low. refl) (λ q low. (refl, low))
    (λ p t q low goes. subst (λ v. GoesToPart t v q) (same p low) goes) a

-- other roots alone
pub beside_roots : (at : ℕ → MachineValue) (c d : Contents) (params roots more : ℕ) (bs : List Bound) (names : List Value) → AreOf IsOf bs names →
    ((q : Region) → q.root < roots → (machine_value d (a_region q) ≡ machine_value c (a_region q)) × (q.root < more)) →
    AreBeside at c params roots bs names → AreBeside at d params more bs names
beside_roots at c d params roots more bs names o regions a =
    beside_changes at at c d params roots more bs names names o (λ p l low. refl) regions (λ p t q low goes. goes) a

-- another value in the place of one, which goes into the same part
set_goes : (names : List Value) (k p : ℕ) (v : Value) (t : StaticType) (q : Region) → k < length names →
    (GoesToPart t v q → GoesToPart t (get_or names k nothing) q) → GoesToPart t (get_or (slice_set names k v) p nothing) q → GoesToPart t (get_or names p nothing) q
set_goes names k p v t q room same goes = by (k == p) refl
  where
    by : (c : Bool) → (k == p) ≡ c → GoesToPart t (get_or names p nothing) q
    by true c =
        let e : k ≡ p = eqb-true k p c in
        subst (λ n. GoesToPart t (get_or names n nothing) q) e
        (same (subst (λ u. GoesToPart t u q) (get_or-set_same names k v nothing room)
        (subst (λ n. GoesToPart t (get_or (slice_set names k v) n nothing) q) (sym e) goes)))
    by false c = subst (λ u. GoesToPart t u q) (get_or-set_other names k p v nothing (λ d. eqb-false k p c (sym d))) goes

pub beside_set : (at after : ℕ → MachineValue) (c : Contents) (params roots : ℕ) (bs : List Bound) (names : List Value) (k : ℕ) (v : Value) → AreOf IsOf bs names →
    k < length names → ((t : StaticType) (q : Region) → GoesToPart t v q → GoesToPart t (get_or names k nothing) q) →
    ((p : ℕ) → params ≤ p → p < length bs → after p ≡ at p) → AreBeside at c params roots bs names → AreBeside after c params roots bs (slice_set names k v)
beside_set at after c params roots bs names k v o room same slots a =
    beside_changes at after c c params roots roots bs names (slice_set names k v) o slots (λ q low. (refl, low))
    (λ p t q low goes. set_goes names k p v t q room (same t q) goes) a

-- the first names alone
pub beside_cut : (at : ℕ → MachineValue) (c : Contents) (params roots : ℕ) (bs : List Bound) (names : List Value) (n : ℕ) → length bs ≤ n → AreOf IsOf bs names →
    AreBeside at c params roots bs names → AreBeside at c params roots bs (take n names)
beside_cut at c params roots bs names n l o a =
    beside_values at c params roots bs names (take n names) o (λ p low. get_or-take n names p nothing (omega (arith, low, l))) a

-- a pointer keeps the regions of the one before it
pub goes_alike : (t : StaticType) (old : Value) (tg : Target) (q : Region) → GoesToPart t (a_pointer tg (regions_of old)) q → GoesToPart t old q
goes_alike t old tg q goes = record { partition = goes.partition; colour = goes.colour; into = goes.into; regions = goes.regions }

pub plain_alike : (t : StaticType) (old v : Value) (q : Region) → IsPlain v → GoesToPart t v q → GoesToPart t old q
plain_alike t old v q p goes = absurd (plain_nowhere t v q p goes)

-- fewer names
pub beside_fewer : (at : ℕ → MachineValue) (c : Contents) (params roots : ℕ) (more bs : List Bound) (names : List Value) →
    AreBeside at c params roots (more ++ bs) names → AreBeside at c params roots bs names
beside_fewer at c params roots [] bs names a = a
beside_fewer at c params roots (b ∷ more) bs names a = beside_fewer at c params roots more bs names a.1

-- that of a name
pub beside_named : (at : ℕ → MachineValue) (c : Contents) (params roots : ℕ) (bs : List Bound) (names : List Value) (n : Name) →
    AreBeside at c params roots bs names → is_bound bs n ≡ true →
    IsBeside at c params roots (bound_to bs n).place (bound_to bs n).static_type (get_or names (bound_to bs n).place nothing)
beside_named at c params roots [] names n a h = absurd (not_true h)
beside_named at c params roots (b ∷ bs) names n a h = chosen (bytes_eq b.name n) (beside_named at c params roots bs names n a.1) h
  where
    chosen : (d : Bool) → (is_bound bs n ≡ true →
        IsBeside at c params roots (bound_to bs n).place (bound_to bs n).static_type (get_or names (bound_to bs n).place nothing)) → (d || is_bound bs n) ≡ true →
        IsBeside at c params roots (cond d b (bound_to bs n)).place (cond d b (bound_to bs n)).static_type
        (get_or names (cond d b (bound_to bs n)).place nothing)
    chosen true more e = a.0
    chosen false more e = more e
