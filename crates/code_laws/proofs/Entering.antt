-- Parameters as a task has them where its body begins: the regions of their pointers are the values of parameters.
use Rattle.std.proofs.Common.{◌≡◌, ℕ, zero, suc, ◌+◌, List, ◌++◌, [], ◌∷◌, Bool, true, false, Some, None, refl, sym, ap, ◌∙◌, subst, arith}
use Rattle.std.specs.Prelude.{cond, get_or, length, ◌==◌}
use Rattle.std.proofs.lemmas.List.{get_or_default, length-append}
use Rattle.regent_tree.specs.Accesses.{region_bound, regions_reached, space_in}
use Rattle.regent_tree.specs.Meaning.{entered, entered_as}
use Rattle.regent_tree.specs.Scopes.{Scope, bound_as, bound_params}
use Rattle.regent_tree.specs.StaticTypes.{Reach}
use Rattle.regent_tree.specs.Syntax.{Tree}
use Rattle.regent_tree.specs.Values.{Partition, Region, Target, Value, a_partition, a_pointer, a_region, no_region, region_of}
use Rattle.regent_tree.specs.declared.facts.Term.TheVariants as term
use Rattle.regent_tree.specs.declared.types.Kind.{Kind}
use Rattle.regent_tree.specs.declared.types.Param.{Param}
use Rattle.regent_tree.specs.declared.typing.Bound.{Bound}
use Rattle.regent_tree.specs.declared.typing.StaticType.{StaticType}
use Rattle.regent_tree.specs.declared.typing.StaticType.TheVariants.{Index as index_type, Integer as integer_type, Ispace as ispace_type, Nothing as no_type, Partition as partition_type, Pointer as pointer_type, Region as region_type, Truth as truth_type, Unknown as unknown_type}
use Rattle.task_code.specs.declared.code.Code.{Code}
use Rattle.regent_tree.specs.Store.{Store}
use Rattle.code_laws.specs.Pointers.{IsCut, IsCutIn, ArePointedIn, AreReached, AreThere, GoToParams, GoesToParams, IsPointed, IsOfName}
use Rattle.code_laws.specs.Simple.{IsRegion, a_region_type}
use Rattle.code_laws.specs.Standing.{AreOf, AreTaken, IsOf, IsOfGiven, IsTaken, nothing, of_region, takes_partition, takes_pointer, takes_region, takes_value}
use Rattle.code_laws.specs.Taking.{given_region}
use Rattle.code_laws.proofs.Pointing.{IsPlain, numbered, plain_pointed, simple_plain}

-- ---- the values of parameters

-- a value as it is entered: no pointer, or one with the regions of the parameters that its type names
pub data Enters (s : Scope) (vs : List Value) : StaticType → Value → Type 0 where
  enters_plain : (t : StaticType) (v : Value) → IsPlain v → Enters s vs t v
  enters_pointer : (k : Kind) (sp : ℕ) (args rs : List Reach) (tg : Target) →
      Enters s vs (pointer_type k sp args rs) (a_pointer tg (regions_reached s vs rs))
  enters_cut : (d : Bool) (r p : ℕ) (q : Partition) → IsCutIn (given_region vs r) q → Enters s vs (partition_type d r p) (a_partition q)

pub plain_entered : (s : Scope) (vs : List Value) (t : StaticType) (v : Value) → IsPlain v → entered_as s vs t v ≡ v
plain_entered s vs (integer_type w) v p = refl
plain_entered s vs truth_type v p = refl
plain_entered s vs (index_type k) v p = refl
plain_entered s vs (ispace_type k) v p = refl
plain_entered s vs (region_type k sp args r) v p = refl
plain_entered s vs (partition_type d r q) v p = refl
plain_entered s vs no_type v p = refl
plain_entered s vs unknown_type v p = refl
plain_entered s vs (pointer_type k sp args rs) v p = by v p
  where
    by : (v : Value) → IsPlain v → entered_as s vs (pointer_type k sp args rs) v ≡ v
    by (a_pointer t qs) p = absurd p
    by v p = refl

pub taken_enters : (s : Scope) (all : List Value) (takes : _) (code : Code) (store : Store) (ts : List StaticType) (vs : List Value) →
    AreTaken (IsTaken takes code store) ts vs → AreTaken (IsOfGiven all) ts vs → AreTaken (Enters s all) ts (entered s all ts vs)
taken_enters s all takes code store [] [] a c = tt
taken_enters s all takes code store (t ∷ ts) (v ∷ vs) a c = (one t v a.0 c.0, taken_enters s all takes code store ts vs a.1 c.1)
  where
    plain : (t : StaticType) (v : Value) → IsPlain v → Enters s all t (entered_as s all t v)
    plain t v p = subst (Enters s all t) (sym (plain_entered s all t v p)) (enters_plain t v p)

    one : (t : StaticType) (v : Value) → IsTaken takes code store t v → IsOfGiven all t v → Enters s all t (entered_as s all t v)
    one _ _ (takes_value t v i o) c = plain t v (simple_plain t v i o)
    one _ _ (takes_pointer k sp args rs tg qs o) c = enters_pointer k sp args rs tg
    one _ _ (takes_partition y d r p q e l) c = enters_cut d r p q c
    one _ _ (takes_region y k sp args r q e l) c = plain (region_type k sp args r) (a_region q) tt
taken_enters s all takes code store [] (v ∷ vs) a c = absurd a
taken_enters s all takes code store (t ∷ ts) [] a c = absurd a

-- regions are entered as they are
region_entered : (s : Scope) (all : List Value) (ts : List StaticType) (vs : List Value) (k : ℕ) (q : Region) → get_or vs k nothing ≡ a_region q →
    get_or (entered s all ts vs) k nothing ≡ a_region q
region_entered s all [] [] k q e = e
region_entered s all [] (v ∷ vs) k q e = e
region_entered s all (t ∷ ts) [] k q e = e
region_entered s all (t ∷ ts) (v ∷ vs) zero q e =
    ap (entered_as s all t) e ∙ plain_entered s all t (a_region q) tt
region_entered s all (t ∷ ts) (v ∷ vs) (suc k) q e = region_entered s all ts vs k q e

-- ---- parameters by their numbers

-- each has the number of its place
abbrev pub ArePlacedBy : List Bound → Type 0
ArePlacedBy [] = Unit {0}
ArePlacedBy (b ∷ bs) = (b.number ≡ length bs) × (b.place ≡ length bs) × ArePlacedBy bs

abbrev ArePlacedFrom : ℕ → List Bound → Type 0
ArePlacedFrom i [] = Unit {0}
ArePlacedFrom i (b ∷ bs) = (b.number ≡ i + length bs) × (b.place ≡ i + length bs) × ArePlacedFrom i bs

placed_behind : (i : ℕ) (bs : List Bound) (b : Bound) → b.number ≡ i → b.place ≡ i → ArePlacedFrom (suc i) bs → ArePlacedFrom i (bs ++ b ∷ [])
placed_behind i [] b n p a = (omega (arith, n), omega (arith, p), tt)
placed_behind i (c ∷ bs) b n p a =
    let long = length-append bs (b ∷ []) in
    (omega (arith, a.0, long), omega (arith, a.1, long), placed_behind i bs b n p a.2)

params_from : (tree : Tree) (all : List Param) (i : ℕ) (ps : List Param) → ArePlacedFrom i (bound_params tree all i ps)
params_from tree all i [] = tt
params_from tree all i (p ∷ ps) = placed_behind i (bound_params tree all (suc i) ps) _ refl refl (params_from tree all (suc i) ps)

from_first : (bs : List Bound) → ArePlacedFrom 0 bs → ArePlacedBy bs
from_first [] a = tt
from_first (b ∷ bs) a = (omega (arith, a.0), omega (arith, a.1), from_first bs a.2)

pub params_placed_by : (tree : Tree) (ps : List Param) → ArePlacedBy (bound_params tree ps 0 ps)
params_placed_by tree ps = from_first (bound_params tree ps 0 ps) (params_from tree ps 0 ps)

-- a region that is found by its number has the place of that number
pub placed_as_numbered : (bs : List Bound) (i : ℕ) → ArePlacedBy bs → IsRegion (bound_as bs i).static_type → (bound_as bs i).place ≡ (bound_as bs i).number
placed_as_numbered [] i a r = elim r [ ]
placed_as_numbered (b ∷ bs) i a r = chosen (b.number == i) (placed_as_numbered bs i a.2) r
  where
    chosen : (c : Bool) → (IsRegion (bound_as bs i).static_type → (bound_as bs i).place ≡ (bound_as bs i).number) →
        IsRegion (cond c b (bound_as bs i)).static_type → (cond c b (bound_as bs i)).place ≡ (cond c b (bound_as bs i)).number
    chosen true more r = a.1 ∙ sym a.0
    chosen false more r = more r

is_region : (t : StaticType) (v : Value) → IsRegion t → IsOf t v → v ≡ a_region (region_of v)
is_region _ _ (a_region_type k sp args r) (of_region _ _ _ _ q) = refl

module _ (s : Scope) (ts : List StaticType) (vs : List Value) (many : length vs ≡ length s.names) (own : ArePlacedBy s.names)
    (typed : AreOf IsOf s.names vs) where
  abbrev us : List Value
  us = entered s vs ts vs

  -- the region of a parameter by its number
  record IsGoal (i : ℕ) : Type 0 where
    named : IsOfName (bound_as s.names i) (length s.names) us (space_in (bound_as s.names i).static_type) i (region_of (get_or vs i nothing))
    bound : region_bound s vs (term.Name i) ≡ region_of (get_or vs i nothing)

  goal_found : (i : ℕ) → (bound_as s.names i).number ≡ i → IsRegion (bound_as s.names i).static_type → IsGoal i
  goal_found i number region =
      let b = bound_as s.names i in
      let at : b.place ≡ i = placed_as_numbered s.names i own region ∙ number in
      let v = get_or vs i nothing in
      let held = numbered IsOf s.names vs i typed region in
      let is : v ≡ a_region (region_of v) = is_region b.static_type v region (subst (λ k. IsOf b.static_type (get_or vs k nothing)) at held.0) in record {
        named = record {
          numbered = number;
          region = region;
          space = refl;
          below = held.1;
          value = ap (λ k. get_or us k nothing) at ∙ region_entered s vs ts vs i (region_of v) is;
        };
        bound = ap (λ k. region_of (get_or vs k (a_region no_region))) at
            ∙ ap region_of (get_or_default vs i (a_region no_region) nothing (omega (arith, at, held.1, many)));
      }

  cut_found : (r : ℕ) (q : Partition) → (bound_as s.names r).number ≡ r → IsRegion (bound_as s.names r).static_type → IsCutIn (given_region vs r) q →
      IsCut s.names us r q
  cut_found r q number region c =
      record { parent = given_region vs r; is = (goal_found r number region).named; root = c.root; sets = c.sets; apart = c.apart; few = c.few }

  goals_reached : (sp : ℕ) (rs : List Reach) → AreThere s.names sp rs → AreReached s.names us sp rs (regions_reached s vs rs)
  goals_reached sp [] there = tt
  goals_reached sp (Some (term.Name i) ∷ rs) there =
      let goal = goal_found i there.0 there.1 in (
        subst (λ q. IsOfName (bound_as s.names i) (length s.names) us sp i q) (sym goal.bound)
            (subst (λ sp. IsOfName (bound_as s.names i) (length s.names) us sp i (region_of (get_or vs i nothing))) there.2 goal.named),
        goals_reached sp rs there.3,
      )
  goals_reached sp (Some (term.Child p c) ∷ rs) there = absurd there
  goals_reached sp (None ∷ rs) there = goals_reached sp rs there

  -- so the parameters' pointers go where their types say
  pub entered_pointed : (bs : List Bound) → AreOf (Enters s vs) bs us → GoToParams s.names bs → ArePointedIn s.names bs us
  entered_pointed [] enters goals = tt
  entered_pointed (b ∷ bs) enters goals = (one b.static_type (get_or us b.place nothing) enters.1 goals.0, entered_pointed bs enters.2 goals.1)
    where
      one : (t : StaticType) (v : Value) → Enters s vs t v → GoesToParams s.names t → IsPointed s.names us t v
      one _ _ (enters_plain t v p) g = plain_pointed s.names us t v p
      one _ _ (enters_cut d r p q c) g = cut_found r q g.0 g.1 c
      one _ _ (enters_pointer k sp args rs tg) g = goals_reached sp rs g
