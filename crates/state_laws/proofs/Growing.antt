-- What fits, fits still where more roots are there and more names are bound.
use Rattle.check_laws.proofs.Scopes.{differ_below}
use Rattle.std.proofs.Common.{List, [], ◌∷◌, ◌++◌, Bool, None, Some, false, true, refl, ap, sym, subst, ℕ, zero, suc, ◌≡◌, ◌∙◌, ◌<◌, ◌≤◌, ◌==◌, ◌⊎◌, inl, inr, get_or, cond, arith}
use Rattle.std.proofs.lemmas.Bool.{eqb-true}
use Rattle.std.proofs.lemmas.List.{get_or_append_left, get_or_push, length-append}
use Rattle.std.specs.List.{All}
use Rattle.std.specs.Prelude.{length, take}
use Rattle.plain_values.specs.Points.{IsPoints}
use Rattle.regent_tree.specs.Accesses.{args_in, space_in}
use Rattle.regent_tree.specs.Laws.{Extends, Shape}
use Rattle.regent_tree.specs.Scopes.{bound_as, unbound}
use Rattle.regent_tree.specs.StaticTypes.{Reach}
use Rattle.regent_tree.specs.Syntax.{Tree}
use Rattle.regent_tree.specs.Values.{Partition, Region, Value, a_truth}
use Rattle.regent_tree.specs.declared.facts.Term.TheVariants as term
use Rattle.regent_tree.specs.declared.typing.Bound.{Bound}
use Rattle.regent_tree.specs.declared.typing.StaticType.{StaticType}
use Rattle.regent_tree.specs.declared.typing.StaticType.TheVariants.{Index as index_type, Integer as integer_type, Ispace as ispace_type, Nothing as no_type, Partition as partition_type, Pointer as pointer_type, Region as region_type, Truth as truth_type, Unknown as unknown_type}
use Rattle.check_rules.specs.types.Sorts.{is_region}
use Rattle.check_laws.proofs.Parts.{contrary}
use Rattle.check_laws.specs.SoundScopes.{Falls}
use Rattle.statement_laws.proofs.States.{placed_below}
use Rattle.statement_laws.specs.Steady.{ArePlaced}
use Rattle.value_laws.specs.Fitting.{Fits, IsGoal, NamesFit, fits_index, fits_integer, fits_nothing, fits_partition, fits_pointer, fits_region, fits_space, fits_truth, fits_unknown, space_bound}
use Rattle.value_laws.specs.Shapes.{IsPartitionOf, IsRegionOf, no_shape}
use Rattle.value_laws.specs.Spaces.{AreSpaced, HasParent, HasSpaceOfName, IsRegionTypeOf, IsSpaced, NamesRegionOf}

-- ---- more roots

pub extends_none : {A : Type 0} (xs : List A) → Extends xs xs
extends_none [] = ([], refl)
extends_none (x ∷ xs) = let rest = extends_none xs in (rest.0, ap (λ ys. x ∷ ys) rest.1)

module _ (roots after : List Shape) (more : Extends roots after) where
  pub same_root : (i : ℕ) → i < length roots → get_or after i no_shape ≡ get_or roots i no_shape
  same_root i l = ap (λ rs. get_or rs i no_shape) more.1 ∙ get_or_append_left roots more.0 no_shape i l

  pub still_there : (i : ℕ) → i < length roots → i < length after
  still_there i l = let len = ap length more.1 ∙ length-append roots more.0 in omega (arith, l, len)

  pub region_more : (space : ℕ) (r : Region) → IsRegionOf roots space r → IsRegionOf after space r
  region_more space r is =
      let same = same_root r.root is.there in record {
        there = still_there r.root is.there;
        of_space = ap (λ (s : Shape). s.space) same ∙ is.of_space;
        points = subst (λ (s : Shape). IsPoints s.count r.points) (sym same) is.points;
      }

  partition_more : (space : ℕ) (d : Bool) (p : Partition) → IsPartitionOf roots space d p → IsPartitionOf after space d p
  partition_more space d p is =
      let same = same_root p.root is.there in record {
        there = still_there p.root is.there;
        of_space = ap (λ (s : Shape). s.space) same ∙ is.of_space;
        sets = subst (λ (s : Shape). All (IsPoints s.count) p.sets) (sym same) is.sets;
        few = is.few;
        flag = is.flag;
        apart = is.apart;
      }

  goal_more : (space : ℕ) (r : Region) → IsGoal roots space r → IsGoal after space r
  goal_more space r (inl same) = inl same
  goal_more space r (inr is) = inr (region_more space r is)

  pub fits_more : (names : List Bound) (t : StaticType) (v : Value) → Fits roots names t v → Fits after names t v
  fits_more names t v (fits_integer f) = fits_integer f
  fits_more names t v fits_truth = fits_truth
  fits_more names t v (fits_index f) = fits_index f
  fits_more names t v (fits_pointer {space = space} {rs = rs} is go) = fits_pointer is (λ i d l. goal_more space (get_or rs i d) (go i d l))
  fits_more names t v (fits_space f) = fits_space f
  fits_more names t v (fits_region {space = space} {r = r} is) = fits_region (region_more space r is)
  fits_more names t v (fits_partition {d = d} {parent = parent} {p = p} is) = fits_partition (partition_more (space_bound names parent) d p is)
  fits_more names t v fits_nothing = fits_nothing
  fits_more names t v fits_unknown = fits_unknown

  pub names_more : (names : List Bound) (vs : List Value) → NamesFit roots names vs → NamesFit after names vs
  names_more names vs fit i = fits_more names (bound_as names i).static_type _ (fit i)

-- ---- more names

-- what is bound in a list of names is bound so in another
abbrev pub StaysBound : List Bound → List Bound → Type 0
StaysBound names others = (i : ℕ) → (bound_as names i ≡ unbound) ⊎ (bound_as others i ≡ bound_as names i)

pub stays_none : (names others : List Bound) → others ≡ names → StaysBound names others
stays_none names others same i = inr (ap (λ bs. bound_as bs i) same)

pub stays_then : (a b c : List Bound) → StaysBound a b → StaysBound b c → StaysBound a c
stays_then a b c f g i = by (f i) (g i)
  where
    by : (bound_as a i ≡ unbound) ⊎ (bound_as b i ≡ bound_as a i) → (bound_as b i ≡ unbound) ⊎ (bound_as c i ≡ bound_as b i) →
        (bound_as a i ≡ unbound) ⊎ (bound_as c i ≡ bound_as a i)
    by (inl e) y = inl e
    by (inr e) (inl k) = inl (sym e ∙ k)
    by (inr e) (inr k) = inr (k ∙ e)

unbound_above : (next : ℕ) (names : List Bound) → Falls next names → (i : ℕ) → next ≤ i → bound_as names i ≡ unbound
unbound_above next [] f i l = refl
unbound_above next (b ∷ names) f i l =
    let low = f.0 in
    ap (λ c. cond c b (bound_as names i)) (differ_below b.number i (omega (arith, low, l))) ∙ unbound_above b.number names f.1 i (omega (arith, low, l))

-- a new name has a number that none had
pub stays_bound : (next : ℕ) (names : List Bound) (b : Bound) → Falls next names → b.number ≡ next → StaysBound names (b ∷ names)
stays_bound next names b f e i = by (b.number == i) refl
  where
    by : (c : Bool) → (b.number == i) ≡ c → (bound_as names i ≡ unbound) ⊎ (cond c b (bound_as names i) ≡ bound_as names i)
    by true k = let same = eqb-true b.number i k in inl (unbound_above next names f i (omega (arith, same, e)))
    by false k = inr refl

module _ (names others : List Bound) (stays : StaysBound names others) where
  pub region_stays : (i : ℕ) → is_region (bound_as names i).static_type ≡ true → bound_as others i ≡ bound_as names i
  region_stays i e = by (stays i)
    where
      by : (bound_as names i ≡ unbound) ⊎ (bound_as others i ≡ bound_as names i) → bound_as others i ≡ bound_as names i
      by (inl none) = absurd (contrary (sym e ∙ ap (λ (b : Bound). is_region b.static_type) none))
      by (inr same) = same

  pub space_stays : (i : ℕ) → is_region (bound_as names i).static_type ≡ true → space_bound others i ≡ space_bound names i
  space_stays i e = ap (λ (b : Bound). space_in b.static_type) (region_stays i e)

  pub fits_stays : (roots : List Shape) (t : StaticType) (v : Value) → HasParent names t → Fits roots names t v → Fits roots others t v
  fits_stays roots t v p (fits_integer f) = fits_integer f
  fits_stays roots t v p fits_truth = fits_truth
  fits_stays roots t v p (fits_index f) = fits_index f
  fits_stays roots t v p (fits_pointer is go) = fits_pointer is go
  fits_stays roots t v p (fits_space f) = fits_space f
  fits_stays roots t v p (fits_region is) = fits_region is
  fits_stays roots t v p (fits_partition {d = d} {parent = parent} {p = q} is) =
      fits_partition (subst (λ n. IsPartitionOf roots n d q) (sym (space_stays parent p)) is)
  fits_stays roots t v p fits_nothing = fits_nothing
  fits_stays roots t v p fits_unknown = fits_unknown

  region_type_stays : (i k : ℕ) → IsRegionTypeOf k (bound_as names i).static_type → IsRegionTypeOf k (bound_as others i).static_type
  region_type_stays i k is = subst (λ (b : Bound). IsRegionTypeOf k b.static_type) (sym (region_stays i is.region)) is

  pub named_stays : (k : ℕ) (r : Reach) → NamesRegionOf names k r → NamesRegionOf others k r
  named_stays k None n = tt
  named_stays k (Some (term.Name i)) n = region_type_stays i k n
  named_stays k (Some (term.Child p c)) n = absurd n

  space_of_name_stays : (t : StaticType) → HasSpaceOfName names t → HasSpaceOfName others t
  space_of_name_stays (region_type k space args (term.Name i)) n = region_type_stays i space n
  space_of_name_stays (region_type k space args (term.Child p c)) n = tt
  space_of_name_stays (integer_type w) n = tt
  space_of_name_stays truth_type n = tt
  space_of_name_stays (index_type k) n = tt
  space_of_name_stays (pointer_type k space args terms) n = tt
  space_of_name_stays (ispace_type k) n = tt
  space_of_name_stays (partition_type d r p) n = tt
  space_of_name_stays no_type n = tt
  space_of_name_stays unknown_type n = tt

  pub parent_stays : (t : StaticType) → HasParent names t → HasParent others t
  parent_stays (partition_type d r p) n = ap (λ (b : Bound). is_region b.static_type) (region_stays r n) ∙ n
  parent_stays (integer_type w) n = tt
  parent_stays truth_type n = tt
  parent_stays (index_type k) n = tt
  parent_stays (pointer_type k space args terms) n = tt
  parent_stays (ispace_type k) n = tt
  parent_stays (region_type k space args t) n = tt
  parent_stays no_type n = tt
  parent_stays unknown_type n = tt

  pub spaced_stays : (tree : Tree) (t : StaticType) → IsSpaced tree names t → IsSpaced tree others t
  spaced_stays tree t is = record {
    args = λ i k e. named_stays k (get_or (args_in t) i None) (is.args i k e);
    named = space_of_name_stays t is.named;
    parent = parent_stays t is.parent;
    few = is.few;
  }

-- ---- one name more

pub value_before : (vs : List Value) (v d : Value) (i : ℕ) → i < length vs → get_or (vs ++ v ∷ []) i d ≡ get_or vs i d
value_before vs v d i l = get_or_append_left vs (v ∷ []) d i l

module _ (tree : Tree) (next : ℕ) (names : List Bound) (b : Bound) (falls : Falls next names) (number : b.number ≡ next) where
  stays : StaysBound names (b ∷ names)
  stays = stays_bound next names b falls number

  -- the types of all names are spaced, the new one's too
  pub spaced_new : AreSpaced tree names → IsSpaced tree (b ∷ names) b.static_type → AreSpaced tree (b ∷ names)
  spaced_new spaced new i = by (b.number == i)
    where
      by : (c : Bool) → IsSpaced tree (b ∷ names) (cond c b (bound_as names i)).static_type
      by true = new
      by false = spaced_stays names (b ∷ names) stays tree (bound_as names i).static_type (spaced i)

  -- their values fit
  pub names_new : (roots : List Shape) (vs : List Value) (v : Value) → ArePlaced (b ∷ names) → length vs ≡ length names → AreSpaced tree names →
      NamesFit roots names vs → Fits roots (b ∷ names) b.static_type v → NamesFit roots (b ∷ names) (vs ++ v ∷ [])
  names_new roots vs v placed counted spaced fit new i = by (b.number == i) (placed_below names placed.1 i)
    where
      by : (c : Bool) → ((bound_as names i).place < length names) ⊎ (bound_as names i ≡ unbound) →
          Fits roots (b ∷ names) (cond c b (bound_as names i)).static_type (get_or (vs ++ v ∷ []) (cond c b (bound_as names i)).place (a_truth false))
      by true low = subst (Fits roots (b ∷ names) b.static_type) (sym (get_or_push vs v (a_truth false) b.place (counted ∙ sym placed.0))) new
      by false (inr none) = subst (λ (c : Bound). Fits roots (b ∷ names) c.static_type (get_or (vs ++ v ∷ []) c.place (a_truth false))) (sym none) fits_unknown
      by false (inl low) = subst (Fits roots (b ∷ names) (bound_as names i).static_type)
          (sym (value_before vs v (a_truth false) (bound_as names i).place (omega (arith, low, counted))))
          (fits_stays names (b ∷ names) stays roots (bound_as names i).static_type _ (spaced i).parent (fit i))

-- ---- names that go

pub taken_before : (vs : List Value) (n i : ℕ) (d : Value) → i < n → get_or (take n vs) i d ≡ get_or vs i d
taken_before vs zero i d l = absurd (omega (arith, l))
taken_before [] (suc n) i d l = refl
taken_before (v ∷ vs) (suc n) zero d l = refl
taken_before (v ∷ vs) (suc n) (suc i) d l = taken_before vs n i d (omega (arith, l))

-- behind a block the names before it have their values still
pub names_left : (tree : Tree) (roots : List Shape) (names inner : List Bound) (vs : List Value) → StaysBound names inner → ArePlaced names → AreSpaced tree names →
    NamesFit roots inner vs → NamesFit roots names (take (length names) vs)
names_left tree roots names inner vs stays placed spaced fit i = by (stays i) (placed_below names placed i)
  where
    gone : bound_as names i ≡ unbound → Fits roots names (bound_as names i).static_type (get_or (take (length names) vs) (bound_as names i).place (a_truth false))
    gone none = subst (λ (c : Bound). Fits roots names c.static_type (get_or (take (length names) vs) c.place (a_truth false))) (sym none) fits_unknown

    back : (t : StaticType) (v : Value) → HasParent names t → Fits roots inner t v → Fits roots names t v
    back t v p (fits_integer f) = fits_integer f
    back t v p fits_truth = fits_truth
    back t v p (fits_index f) = fits_index f
    back t v p (fits_pointer is go) = fits_pointer is go
    back t v p (fits_space f) = fits_space f
    back t v p (fits_region is) = fits_region is
    back t v p (fits_partition {d = d} {parent = parent} {p = q} is) =
        fits_partition (subst (λ n. IsPartitionOf roots n d q) (space_stays names inner stays parent p) is)
    back t v p fits_nothing = fits_nothing
    back t v p fits_unknown = fits_unknown

    by : (bound_as names i ≡ unbound) ⊎ (bound_as inner i ≡ bound_as names i) → ((bound_as names i).place < length names) ⊎ (bound_as names i ≡ unbound) →
        Fits roots names (bound_as names i).static_type (get_or (take (length names) vs) (bound_as names i).place (a_truth false))
    by (inl none) low = gone none
    by (inr same) (inr none) = gone none
    by (inr same) (inl low) =
        subst (Fits roots names (bound_as names i).static_type) (sym (taken_before vs (length names) (bound_as names i).place (a_truth false) low))
        (back (bound_as names i).static_type _ (spaced i).parent
        (subst (λ (c : Bound). Fits roots inner c.static_type (get_or vs c.place (a_truth false))) same (fit i)))
