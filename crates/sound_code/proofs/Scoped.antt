-- What the types of names in scope name is in scope: a region's type names the region itself, a partition's type the partition, and a
-- pointer's type regions that have names. So the regions of a pointer stand in their slots.
use Rattle.std.proofs.Common.{◌≡◌, inl, inr, ℕ, ◌<◌, ◌≤◌, List, [], ◌∷◌, Bool, true, false, cond, None, Some, refl, ap, ◌∙◌, subst, arith}
use Rattle.std.specs.Prelude.{bytes_eq, slice_get, ◌==◌, ◌||◌}
use Rattle.std.proofs.lemmas.Bool.{eqb-true, false≢true}
use Rattle.regent_tree.proofs.Members.{Has}
use Rattle.regent_tree.specs.Accesses.{space_in}
use Rattle.regent_tree.specs.Lookup.{is_bound}
use Rattle.regent_tree.specs.Scopes.{bound_as, bound_to}
use Rattle.regent_tree.specs.StaticTypes.{Reach}
use Rattle.regent_tree.specs.Syntax.{Name, TaskTree}
use Rattle.regent_tree.specs.Typing.{reaches_of}
use Rattle.regent_tree.specs.declared.facts.Term.TheVariants as term
use Rattle.regent_tree.specs.declared.typing.Bound.{Bound}
use Rattle.regent_tree.specs.declared.typing.StaticType.{StaticType}
use Rattle.regent_tree.specs.declared.typing.StaticType.TheVariants.{Partition as partition_type, Pointer as pointer_type, Region as region_type, Unknown as unknown_type}
use Rattle.check_laws.specs.SoundScopes.{Falls}
use Rattle.code_laws.specs.Pointers.{a_pointer_type, AreThere, IsPointer}
use Rattle.code_laws.specs.Simple.{a_region_type, IsPartition, IsRegion}
use Rattle.fit_rules.specs.Shapes.{Each, region, Shape}
use Rattle.sound_code.proofs.SlotShapes.{partition_plain, pointer_plain, region_plain, slot_bare, slot_is, slot_numbered, slot_plain}
use Rattle.sound_code.specs.Named.{name_shape, slot_shape}
use Rattle.sound_code.specs.Named.{AreNamed, slot_at}
use Rattle.sound_code.specs.Ways.{Tops, all_made, by_rules, origin_in, shape_in, shape_of, Way}
use Rattle.sound_code.proofs.Grounds.{IsPlaced, OfType}

-- the regions of a list, but for a part, which stands beside the pointer
abbrev pub Aims : List Bound → ℕ → List Reach → Type 0
Aims all sp (Some (term.Child p c) ∷ rs) = Unit {0}
Aims all sp rs = AreThere all sp rs

abbrev pub IsScoped : List Bound → ℕ → StaticType → Type 0
IsScoped all number (region_type k sp args r) = r ≡ term.Name number
IsScoped all number (pointer_type k sp args rs) = Aims all sp rs
IsScoped all number (partition_type d r p) = p ≡ number
IsScoped all number t = Unit {0}

abbrev pub AreScoped : List Bound → List Bound → Type 0
AreScoped all [] = Unit {0}
AreScoped all (b ∷ bs) = IsScoped all b.number b.static_type × AreScoped all bs

-- where a task is looked at by the rules
abbrev pub ScopedBy : Way → List Bound → Type 0
ScopedBy all_made bs = Unit {0}
ScopedBy (by_rules tops task) bs = AreScoped bs bs

-- and pointers may be kept
abbrev pub Scoped : Bool → Way → List Bound → Type 0
Scoped keeps way bs = keeps ≡ true → ScopedBy way bs

pub data IsByRules : Way → Type 0 where
  is_by_rules : (tops : Tops) (task : TaskTree) → IsByRules (by_rules tops task)

-- ---- regions by their numbers

-- what is bound with a number, a region or a partition, is among the bindings
no_region : IsRegion unknown_type → ⊥
no_region r = elim r [ ]

no_partition : IsPartition unknown_type → ⊥
no_partition r = elim r [ ]

module _ (Of : StaticType → Type 0) (none : Of unknown_type → ⊥) where
  number_low_of : (next i : ℕ) (bs : List Bound) → Falls next bs → Of (bound_as bs i).static_type → i < next
  number_low_of next i [] f r = absurd (none r)
  number_low_of next i (b ∷ bs) f r = chosen (b.number == i) refl (number_low_of b.number i bs f.1) r
    where
      chosen : (c : Bool) → b.number == i ≡ c → (Of (bound_as bs i).static_type → i < b.number) →
          Of (cond c b (bound_as bs i)).static_type → i < next
      chosen true e more r = let same = eqb-true b.number i e in omega (arith, same, f.0)
      chosen false e more r = let l = more r in omega (arith, l, f.0)

  same_as_of : (next : ℕ) (bs : List Bound) (b : Bound) → Falls next bs → next ≤ b.number → (i : ℕ) → Of (bound_as bs i).static_type → bound_as bs i ≡ bound_as (b ∷ bs) i
  same_as_of next bs b falls new i r = chosen (b.number == i) refl
    where
      chosen : (c : Bool) → b.number == i ≡ c → bound_as bs i ≡ cond c b (bound_as bs i)
      chosen true e =
          let same = eqb-true b.number i e in
          let low = number_low_of next i bs falls r in absurd (omega (arith, same, low, new))
      chosen false e = refl

  -- it is one of them, with that number
  pub found_as : (bs : List Bound) (i : ℕ) → Of (bound_as bs i).static_type → Has bs (bound_as bs i) × ((bound_as bs i).number ≡ i)
  found_as [] i r = absurd (none r)
  found_as (b ∷ bs) i r = chosen (b.number == i) refl (found_as bs i) r
    where
      chosen : (c : Bool) → b.number == i ≡ c → (Of (bound_as bs i).static_type → Has bs (bound_as bs i) × ((bound_as bs i).number ≡ i)) →
          Of (cond c b (bound_as bs i)).static_type → Has (b ∷ bs) (cond c b (bound_as bs i)) × ((cond c b (bound_as bs i)).number ≡ i)
      chosen true e more r = (inl refl, eqb-true b.number i e)
      chosen false e more r = let f = more r in (inr f.0, f.1)

pub region_found : (bs : List Bound) (i : ℕ) → IsRegion (bound_as bs i).static_type → Has bs (bound_as bs i) × ((bound_as bs i).number ≡ i)
region_found = found_as IsRegion no_region

pub partition_found : (bs : List Bound) (i : ℕ) → IsPartition (bound_as bs i).static_type → Has bs (bound_as bs i) × ((bound_as bs i).number ≡ i)
partition_found = found_as IsPartition no_partition

-- its slot has its shape
pub region_as : (way : Way) (params : ℕ) (ss : List Shape) (bs : List Bound) (i : ℕ) → AreNamed way params ss bs → IsRegion (bound_as bs i).static_type →
    slice_get ss (slot_at params (bound_as bs i).place) ≡ Some (shape_in way params (bound_as bs i).static_type)
region_as way params ss [] i a r = elim r [ ]
region_as way params ss (b ∷ bs) i a r = chosen (b.number == i) (region_as way params ss bs i a.2) r
  where
    chosen : (c : Bool) →
        (IsRegion (bound_as bs i).static_type → slice_get ss (slot_at params (bound_as bs i).place) ≡ Some (shape_in way params (bound_as bs i).static_type)) →
        IsRegion (cond c b (bound_as bs i)).static_type →
        slice_get ss (slot_at params (cond c b (bound_as bs i)).place) ≡ Some (shape_in way params (cond c b (bound_as bs i)).static_type)
    chosen true more r = a.1 ∙ ap (λ s. Some s) (slot_plain _ _ (region_plain way params b.static_type r))
    chosen false more r = more r

pub placed_as : (params : ℕ) (bs : List Bound) (i : ℕ) → Each (IsPlaced params) bs → IsRegion (bound_as bs i).static_type →
    OfType params (bound_as bs i).place (bound_as bs i).static_type
placed_as params [] i a r = elim r [ ]
placed_as params (b ∷ bs) i a r = chosen (b.number == i) (placed_as params bs i a.1) r
  where
    chosen : (c : Bool) → (IsRegion (bound_as bs i).static_type → OfType params (bound_as bs i).place (bound_as bs i).static_type) →
        IsRegion (cond c b (bound_as bs i)).static_type → OfType params (cond c b (bound_as bs i)).place (cond c b (bound_as bs i)).static_type
    chosen true more r = a.0
    chosen false more r = more r

pub scoped_as : (all bs : List Bound) (i : ℕ) → AreScoped all bs → IsRegion (bound_as bs i).static_type →
    IsScoped all (bound_as bs i).number (bound_as bs i).static_type
scoped_as all [] i a r = elim r [ ]
scoped_as all (b ∷ bs) i a r = chosen (b.number == i) (scoped_as all bs i a.1) r
  where
    chosen : (c : Bool) → (IsRegion (bound_as bs i).static_type → IsScoped all (bound_as bs i).number (bound_as bs i).static_type) →
        IsRegion (cond c b (bound_as bs i)).static_type → IsScoped all (cond c b (bound_as bs i)).number (cond c b (bound_as bs i)).static_type
    chosen true more r = a.0
    chosen false more r = more r

pub scoped_named : (all bs : List Bound) (n : Name) → AreScoped all bs → is_bound bs n ≡ true →
    IsScoped all (bound_to bs n).number (bound_to bs n).static_type
scoped_named all [] n a h = absurd (false≢true h)
scoped_named all (b ∷ bs) n a h = chosen (bytes_eq b.name n) (scoped_named all bs n a.1) h
  where
    chosen : (c : Bool) → (is_bound bs n ≡ true → IsScoped all (bound_to bs n).number (bound_to bs n).static_type) → (c || is_bound bs n) ≡ true →
        IsScoped all (cond c b (bound_to bs n)).number (cond c b (bound_to bs n)).static_type
    chosen true more e = a.0
    chosen false more e = more e

-- ---- one more name

module _ (next : ℕ) (bs : List Bound) (b : Bound) (falls : Falls next bs) (new : next ≤ b.number) where
  pub same_as : (i : ℕ) → IsRegion (bound_as bs i).static_type → bound_as bs i ≡ bound_as (b ∷ bs) i
  same_as i r = same_as_of IsRegion no_region next bs b falls new i r

  pub same_cut_as : (i : ℕ) → IsPartition (bound_as bs i).static_type → bound_as bs i ≡ bound_as (b ∷ bs) i
  same_cut_as i r = same_as_of IsPartition no_partition next bs b falls new i r

  pub there_more : (sp : ℕ) (rs : List Reach) → AreThere bs sp rs → AreThere (b ∷ bs) sp rs
  there_more sp [] h = tt
  there_more sp (Some (term.Name i) ∷ rs) h = (
    subst (λ (c : Bound). c.number ≡ i) (same_as i h.1) h.0,
    subst (λ (c : Bound). IsRegion c.static_type) (same_as i h.1) h.1,
    subst (λ (c : Bound). space_in c.static_type ≡ sp) (same_as i h.1) h.2,
    there_more sp rs h.3,
  )
  there_more sp (Some (term.Child p c) ∷ rs) h = absurd h
  there_more sp (None ∷ rs) h = there_more sp rs h

  aims_more : (sp : ℕ) (rs : List Reach) → Aims bs sp rs → Aims (b ∷ bs) sp rs
  aims_more sp [] h = tt
  aims_more sp (Some (term.Name i) ∷ rs) h = there_more sp (Some (term.Name i) ∷ rs) h
  aims_more sp (Some (term.Child p c) ∷ rs) h = tt
  aims_more sp (None ∷ rs) h = there_more sp rs h

  pub scoped_more : (number : ℕ) (t : StaticType) → IsScoped bs number t → IsScoped (b ∷ bs) number t
  scoped_more number (pointer_type k sp args rs) h = aims_more sp rs h
  scoped_more number (region_type k sp args r) h = h
  scoped_more number (partition_type d r p) h = h
  scoped_more number _ h = tt

  pub all_more : (cs : List Bound) → AreScoped bs cs → AreScoped (b ∷ bs) cs
  all_more [] h = tt
  all_more (c ∷ cs) h = (scoped_more c.number c.static_type h.0, all_more cs h.1)

  pub scoped_with : AreScoped bs bs → IsScoped bs b.number b.static_type → AreScoped (b ∷ bs) (b ∷ bs)
  scoped_with a h = (scoped_more b.number b.static_type h, all_more bs a)

-- ---- regions that name themselves

-- such a region's shape, and its place
module _ (tops : Tops) (task : TaskTree) (params : ℕ) (all : List Bound) where
  pub own_shape : (u : StaticType) (n i sp : ℕ) → IsRegion u → IsScoped all n u → n ≡ i → space_in u ≡ sp →
      shape_in (by_rules tops task) params u ≡ region (Some sp) (origin_in (by_rules tops task) params (term.Name i))
  own_shape _ n i sp (a_region_type k sq args r) h e es =
      ap (λ y. region (Some y) (origin_in (by_rules tops task) params r)) es
      ∙ ap (λ u. region (Some sp) (origin_in (by_rules tops task) params u)) (h ∙ ap term.Name e)

  pub own_place : (u : StaticType) (n i place : ℕ) → IsRegion u → IsScoped all n u → n ≡ i → OfType params place u → i < params → place ≡ i
  own_place _ n i place (a_region_type k sq args r) h e o = subst (λ u. OfType params place (region_type k sq args u)) (h ∙ ap term.Name e) o

-- ---- pointers

pub pointer_aims : (all : List Bound) (n : ℕ) (t : StaticType) → IsPointer t → IsScoped all n t → Aims all (space_in t) (reaches_of t)
pointer_aims all n _ (a_pointer_type k sp args rs names) h = h

pub aims_there : (all : List Bound) (sp : ℕ) (rs : List Reach) → AreThere all sp rs → Aims all sp rs
aims_there all sp [] h = tt
aims_there all sp (Some (term.Name i) ∷ rs) h = h
aims_there all sp (Some (term.Child p c) ∷ rs) h = tt
aims_there all sp (None ∷ rs) h = h

pub pointer_named : (way : Way) (params : ℕ) (t : StaticType) → IsPointer t → shape_in way params t ≡ shape_of t
pointer_named way params _ (a_pointer_type k sp args rs names) = refl
