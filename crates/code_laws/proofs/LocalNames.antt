-- What names stand for, and what an accepted program has.
use Rattle.std.proofs.Common.{◌≡◌, ◌⊎◌, inl, inr, Bool, List, [], ◌∷◌, None, false, true, refl, ap, sym, subst, ℕ, ◌<◌, ◌≤◌, ◌∙◌, cond}
use Rattle.std.specs.Prelude.{Some, bytes_eq, length, slice_get, ◌||◌}
use Rattle.regent_tree.specs.Lookup.{has_task, is_bound}
use Rattle.regent_tree.specs.Scopes.{bound_as, bound_to, scope_of}
use Rattle.code_laws.specs.Pointers.{AllGoToParams}
use Rattle.regent_tree.proofs.Members.{Has}
use Rattle.regent_tree.specs.StaticTypes.{Reach, space_at, task_named}
use Rattle.regent_tree.specs.Syntax.{Name, Tree}
use Rattle.regent_tree.specs.Typing.{is_disjoint, param_types, parent_of}
use Rattle.regent_tree.specs.declared.facts.Term.TheVariants as place
use Rattle.regent_tree.specs.declared.types.Kind.{Kind}
use Rattle.regent_tree.specs.declared.typing.Bound.{Bound}
use Rattle.regent_tree.specs.declared.typing.StaticType.{StaticType}
use Rattle.regent_tree.specs.declared.typing.StaticType.TheVariants.{Partition as partition_type, Region as region_type}
use Rattle.check_rules.specs.rules.Privileges.{fields_named}
use Rattle.check_rules.specs.scopes.Sound.{StandsIn}
use Rattle.check_rules.specs.types.Sorts.{is_integer, is_partition, is_region, may_be}
use Rattle.check_laws.specs.SoundScopes.{Falls}
use Rattle.code_laws.specs.Simple.{IsInteger, IsPartition, IsRegion, a_partition_type, simple_index, simple_integer, simple_space, simple_truth, term_in}
use Rattle.code_rules.specs.Instructions.{place_of_task, tasks_of}
use Rattle.value_laws.specs.Spaces.{HasSpacedDeclarations}
use Rattle.code_laws.proofs.LocalValues.{IsRegionAmong, IsValue, found_among, region_behind, value_behind, value_integer, value_no_partition, value_not_partition, value_pointer, value_simple}
use Rattle.code_laws.proofs.LocalTypes.{IsTakable}
use Rattle.code_laws.proofs.Typing.{no_way, no_way_back}
pub use Rattle.code_laws.proofs.Typing.{first_below}
use Rattle.check_rules.specs.types.Declarations.{is_no_result_type}

-- ---- what a program has

abbrev pub AreTakable : Bool → List StaticType → Type 0
AreTakable keeping [] = Unit {0}
AreTakable keeping (t ∷ ts) = IsTakable keeping t × AreTakable keeping ts

-- a task that is called takes numbers, truths, regions, indices, index spaces, pointers and partitions, which go to parameters,
-- and gives numbers, truths and indices
pub record IsLocalTask (tree : Tree) (n : Name) : Type 0 where
  pub stands : StandsIn tree (task_named tree n)
  pub called : slice_get (tasks_of tree) (place_of_task tree n) ≡ Some (task_named tree n)
  pub params : AreTakable true (param_types tree (task_named tree n))
  pub result : is_no_result_type (task_named tree n).result ≡ false
  pub goals : AllGoToParams (scope_of tree (task_named tree n)).names

-- Pointers in fields go to regions as their field spaces declare; fields are few, and each has a name of its own; and tasks are
-- such.
pub record IsLocalTree (tree : Tree) : Type 0 where
  pub declared : HasSpacedDeclarations tree
  pub few : (sp : ℕ) → length (space_at tree sp).fields ≤ 256
  pub named : (sp i : ℕ) → i < length (space_at tree sp).fields → Has (fields_named tree sp None) i
  pub tasks : (n : Name) → has_task tree n ≡ true → IsLocalTask tree n

-- ---- names

-- A name is bound with a number to a value, a number, truth, index, index space or pointer; or to the region or the partition of
-- that number. A pointer goes to regions among some names, and a partition is of one.
pub data IsKept (keeping : Bool) (bs : List Bound) (i : ℕ) : StaticType → Type 0 where
  kept_value : (t : StaticType) → IsValue keeping bs t → IsKept keeping bs i t
  kept_region : (k : Kind) (sp : ℕ) (args : List Reach) → IsKept keeping bs i (region_type k sp args (place.Name i))
  kept_partition : (d : Bool) (r : ℕ) → keeping ≡ true → IsRegionAmong bs r → IsKept keeping bs i (partition_type d r i)

abbrev pub AllKeptIn : Bool → List Bound → List Bound → Type 0
AllKeptIn keeping all [] = Unit {0}
AllKeptIn keeping all (b ∷ bs) = IsKept keeping all b.number b.static_type × AllKeptIn keeping all bs

abbrev pub AllKept : Bool → List Bound → Type 0
AllKept keeping bs = AllKeptIn keeping bs bs

module _ (keeping : Bool) where
  kept_behind_one : (b : Bound) (bs : List Bound) (i : ℕ) (t : StaticType) → IsKept keeping bs i t → IsKept keeping (b ∷ bs) i t
  kept_behind_one b bs i t (kept_value _ a) = kept_value t (value_behind keeping bs b t a)
  kept_behind_one b bs i _ (kept_region k sp args) = kept_region k sp args
  kept_behind_one b bs i _ (kept_partition d r q a) = kept_partition d r q (region_behind b bs r a)

  -- one more name
  all_behind_one : (c : Bound) (all bs : List Bound) → AllKeptIn keeping all bs → AllKeptIn keeping (c ∷ all) bs
  all_behind_one c all [] a = tt
  all_behind_one c all (b ∷ bs) a = (kept_behind_one c all b.number b.static_type a.0, all_behind_one c all bs a.1)

  pub kept_more : (b : Bound) (bs : List Bound) → IsKept keeping bs b.number b.static_type → AllKept keeping bs → AllKept keeping (b ∷ bs)
  kept_more b bs k a = (kept_behind_one b bs b.number b.static_type k, all_behind_one b bs bs a)

  named_in : (all bs : List Bound) (n : Name) → AllKeptIn keeping all bs → is_bound bs n ≡ true →
      IsKept keeping all (bound_to bs n).number (bound_to bs n).static_type
  named_in all [] n a h = absurd (no_way_back h)
  named_in all (b ∷ bs) n a h = chosen (bytes_eq b.name n) (named_in all bs n a.1) h
    where
      chosen : (c : Bool) → (is_bound bs n ≡ true → IsKept keeping all (bound_to bs n).number (bound_to bs n).static_type) →
          (c || is_bound bs n) ≡ true → IsKept keeping all (cond c b (bound_to bs n)).number (cond c b (bound_to bs n)).static_type
      chosen true more e = a.0
      chosen false more e = more e

  pub named_kept : (bs : List Bound) (n : Name) → AllKept keeping bs → is_bound bs n ≡ true →
      IsKept keeping bs (bound_to bs n).number (bound_to bs n).static_type
  named_kept bs n a h = named_in bs bs n a h

  module _ (bs : List Bound) (i : ℕ) where
    -- what is bound to a name that stands for a partition or not
    pub partition_or : (t : StaticType) → IsKept keeping bs i t → IsPartition t ⊎ (IsPartition t → ⊥)
    partition_or t (kept_value _ a) = inr (λ p. value_not_partition keeping bs t a p)
    partition_or _ (kept_region k sp args) = inr (λ p. elim p [ ])
    partition_or _ (kept_partition d r q a) = inl (a_partition_type d r i)

    -- what may be a partition is one
    pub partition_is : (t : StaticType) → IsKept keeping bs i t → may_be is_partition t ≡ true → IsPartition t
    partition_is t (kept_value _ a) e = absurd (no_way (sym e ∙ value_no_partition keeping bs t a))
    partition_is _ (kept_region k sp args) e = absurd (no_way_back e)
    partition_is _ (kept_partition d r q a) e = a_partition_type d r i

    -- the parent of a partition, by its number
    pub parent_among : (t : StaticType) → IsKept keeping bs i t → IsPartition t →
        IsRegionAmong bs (parent_of t) × (t ≡ partition_type (is_disjoint t) (parent_of t) i)
    parent_among t (kept_value _ a) p = absurd (value_not_partition keeping bs t a p)
    parent_among _ (kept_region k sp args) p = absurd (elim p [ ])
    parent_among _ (kept_partition d r q a) p = (a, refl)

    -- an integer that is reduced
    pub kept_integer : (t : StaticType) → IsKept keeping bs i t → may_be is_integer t ≡ true → IsInteger t
    kept_integer t (kept_value _ a) e = value_integer keeping bs t a e
    kept_integer _ (kept_region k sp args) e = absurd (no_way_back e)
    kept_integer _ (kept_partition d r q a) e = absurd (no_way_back e)

-- a region that is bound is found by its number
pub region_of_number : (next : ℕ) (bs : List Bound) (r : ℕ) → Falls next bs → IsRegionAmong bs r →
    IsRegion (bound_as bs r).static_type × (term_in (bound_as bs r).static_type ≡ place.Name r)
region_of_number next bs r falls a =
    let found : bound_as bs r ≡ a.named = subst (λ j. bound_as bs j ≡ a.named) a.number (found_among next bs a.named falls a.among).0 in
    (subst (λ (b : Bound). IsRegion b.static_type) (sym found) a.region, ap (λ (b : Bound). term_in b.static_type) found ∙ a.term)

pub value_no_region : (keeping : Bool) (bs : List Bound) (t : StaticType) → IsValue keeping bs t → may_be (λ u. is_region u || is_partition u) t ≡ false
value_no_region keeping bs _ (value_simple _ (simple_integer w)) = refl
value_no_region keeping bs _ (value_simple _ simple_truth) = refl
value_no_region keeping bs _ (value_simple _ (simple_space k)) = refl
value_no_region keeping bs _ (value_simple _ (simple_index k)) = refl
value_no_region keeping bs _ (value_pointer k sp args i q r) = refl
