-- Elements of regions that have names, which are pointers, of which no breach is told.
use Rattle.std.proofs.Common.{◌≡◌, List, true, ap, refl, sym, subst, ℕ, ⊎_elim, ◌⊎◌, ◌∙◌, inl, inr}
use Rattle.regent_tree.specs.Accesses.{space_in}
use Rattle.regent_tree.specs.Lookup.{is_bound}
use Rattle.regent_tree.specs.Scopes.{bound_as, bound_to}
use Rattle.regent_tree.specs.StaticTypes.{Reach}
use Rattle.regent_tree.specs.Syntax.{Expression, Name, Steps, TaskTree, access_expr, at_step, call_expr, cast_expr, chain_expr, convert_expr, field_step, is_null_expr, no_step, null_expr, number_expr, prefix_expr, space_expr, truth_expr, Tree}
use Rattle.regent_tree.specs.Typing.{parent_of, reaches_of, stepped_type, taken_from, type_of_element, type_of_field}
use Rattle.regent_tree.specs.declared.facts.Term.TheVariants as place
use Rattle.regent_tree.specs.declared.types.Kind.{Kind}
use Rattle.regent_tree.specs.declared.typing.Bound.{Bound}
use Rattle.regent_tree.specs.declared.typing.StaticType.{StaticType}
use Rattle.regent_tree.specs.declared.typing.StaticType.TheVariants.{Region as region_type}
use Rattle.check_laws.proofs.Scopes.{found_by_number}
use Rattle.check_laws.specs.SoundScopes.{Falls, IsSoundScope}
use Rattle.check_rules.specs.scopes.Sound.{IsSound, IsSoundTask}
use Rattle.code_rules.specs.Slots.{Where, bound, typed}
use Rattle.code_laws.specs.Handing.{forms_by}
use Rattle.code_laws.specs.Pointers.{IsCounting, AreNames, KeepsAs, keeps_index, keeps_plain, keeps_pointer}
use Rattle.code_laws.specs.Pointers.{AreThere}
use Rattle.code_laws.specs.Simple.{IsRegion, a_region_type, term_in, IsPartition, a_partition_type, fits_32, fits_64, fits_truth}
use Rattle.code_laws.specs.Steps.{Forms}
use Rattle.code_laws.specs.Typed.{AreFurther, IsOwnRegion, IsPartElement, IsPointing, IsTyped, IsBehind, MayGo, element_field, field_behind, part_element, IsOwnCut}
use Rattle.code_laws.proofs.KnownHeads.{KnowsHead}
use Rattle.code_laws.proofs.LocalNames.{AllKept, IsLocalTree}
use Rattle.code_laws.proofs.LocalPoints.{IsWell}
use Rattle.code_laws.proofs.LocalValues.{IsCutAmong, IsRegionAmong, IsValue, bound_among, found_among, value_pointer}
use Rattle.code_laws.proofs.PartTypes.{part_is}
use Rattle.code_laws.proofs.Typing.{no_way_back}
use Rattle.code_laws.proofs.Wider.{any_field}
use Rattle.code_laws.specs.Arguments.{IsCutName}
use Rattle.lane_kernels.specs.declared.numbers.FieldKind.{FieldKind}
use Rattle.lane_kernels.specs.declared.numbers.Mode.TheVariants as mode
use Rattle.code_laws.proofs.LocalParts.{is_pointing}

-- a field's type has no part
kept_names : (k : FieldKind) (n : ℕ) (t : StaticType) → KeepsAs k n t → AreNames (reaches_of t)
kept_names _ n _ (keeps_plain _ _ _ fits_32) = tt
kept_names _ n _ (keeps_plain _ _ _ fits_64) = tt
kept_names _ n _ (keeps_plain _ _ _ fits_truth) = tt
kept_names _ n _ (keeps_index _ k) = tt
kept_names _ _ _ (keeps_pointer k sp args rs names few) = names

colours_names : (tree : Tree) (t : StaticType) (f : Name) → IsPartition t → AreNames (reaches_of (type_of_field tree t f))
colours_names tree _ f (a_partition_type d r p) = tt

further_names : (forms : Forms) (w : Where) (rest : Steps) (t : StaticType) (f : Name) → AreFurther forms w t (field_step f rest) →
    AreNames (reaches_of (stepped_type w.tree w.scope t (field_step f rest)))
further_names forms w no_step t f fine = kept_names _ _ _ fine.0.keeps
further_names forms w (field_step g rest) t f fine = further_names forms w rest (type_of_field w.tree t f) g fine.1
further_names forms w (at_step e rest) t f fine = absurd fine.1

-- expressions that stand for pointers of which the regions are known, or elements of parts
pub points_by_form : (forms : Forms) (w : Where) (e : Expression) → Falls w.scope.next w.scope.names →
    (AreNames (reaches_of (typed w e)) → AreThere w.scope.names (space_in (typed w e)) (reaches_of (typed w e))) → IsTyped forms w e →
    is_pointing e ≡ true → IsPointing w e ⊎ IsPartElement e
points_by_form forms w (access_expr n no_step) falls there fine h = inl falls
points_by_form forms w (access_expr n (at_step e no_step)) falls there fine h = inl tt
points_by_form forms w (access_expr n (at_step e (field_step f no_step))) falls there fine h =
    inl (there (kept_names _ _ _ (any_field forms.keeps w n f (element_field w n e f) fine.3).keeps))
points_by_form forms w (access_expr n (field_step f no_step)) falls there fine h = inl (⊎_elim
    (λ (b : IsBehind w n f (field_behind w n f) × MayGo forms w n f mode.Read). there (kept_names _ _ _ b.0.keeps))
    (λ (c : IsCutName w n). there (colours_names w.tree (bound w n).static_type f c.partition)) fine.1)
points_by_form forms w (access_expr n (at_step e (field_step f (field_step g rest)))) falls there fine h =
    inl (there (further_names forms w rest (element_field w n e f) g fine.6))
points_by_form forms w (access_expr n (at_step e (field_step _ (at_step _ _)))) falls there fine h = absurd fine
points_by_form forms w (access_expr n (at_step e (at_step i no_step))) falls there fine h = inr tt
points_by_form forms w (access_expr n (at_step e (at_step i (field_step f no_step)))) falls there fine h = inl (there (kept_names _ _ _ fine.4.keeps))
points_by_form forms w (access_expr n (at_step e (at_step i (field_step f (field_step g rest))))) falls there fine h =
    inl (there (further_names forms w rest (type_of_field w.tree (part_element w n e i) f) g fine.5))
points_by_form forms w (access_expr n (at_step e (at_step i (field_step f (at_step _ _))))) falls there fine h = absurd fine.5
points_by_form forms w (access_expr n (at_step e (at_step _ (at_step _ _)))) falls there fine h = absurd fine
points_by_form forms w (access_expr n (field_step f (field_step g rest))) falls there fine h =
    inl (there (further_names forms w rest (field_behind w n f) g fine.3))
points_by_form forms w (access_expr n (field_step _ (at_step _ _))) falls there fine h = absurd fine
points_by_form forms w (number_expr _ _) falls there fine h = absurd (no_way_back h)
points_by_form forms w (truth_expr _) falls there fine h = absurd (no_way_back h)
points_by_form forms w (chain_expr _ _) falls there fine h = absurd (no_way_back h)
points_by_form forms w (prefix_expr _ _) falls there fine h = absurd (no_way_back h)
points_by_form forms w (call_expr _ _) falls there fine h = absurd (no_way_back h)
points_by_form forms w (convert_expr _ _) falls there fine h = absurd (no_way_back h)
points_by_form forms w (is_null_expr _) falls there fine h = absurd (no_way_back h)
points_by_form forms w (null_expr _) falls there fine h = inl tt
points_by_form forms w (cast_expr _ _) falls there fine h = inl tt
points_by_form forms w (space_expr _ _) falls there fine h = absurd (no_way_back h)

-- ---- a name that is bound to a region under its own number

module _ (next : ℕ) (bs : List Bound) (falls : Falls next bs) (n : Name) (there : is_bound bs n ≡ true) (k : Kind) (sp : ℕ) (args : List Reach)
    (same : (bound_to bs n).static_type ≡ region_type k sp args (place.Name (bound_to bs n).number)) where
  pub region_bound : IsRegion (bound_to bs n).static_type
  region_bound = subst IsRegion (sym same) (a_region_type k sp args (place.Name (bound_to bs n).number))

  pub region_found : bound_as bs (bound_to bs n).number ≡ bound_to bs n
  region_found = (found_by_number next bs n falls there).0

  pub region_typed : IsRegion (bound_as bs (bound_to bs n).number).static_type
  region_typed = subst IsRegion (sym (ap (λ (c : Bound). c.static_type) region_found)) region_bound

  pub region_among : IsRegionAmong bs (bound_to bs n).number
  region_among = record { named = bound_to bs n; among = bound_among bs n there; number = refl; region = region_bound; term = ap term_in same }

  pub region_of_space : space_in region_among.named.static_type ≡ sp
  unfolding region_among
  region_of_space = ap space_in same

pub own_region : (w : Where) → Falls w.scope.next w.scope.names → (n : Name) → is_bound w.scope.names n ≡ true → (k : Kind) (sp : ℕ) (args : List Reach) →
    (bound w n).static_type ≡ region_type k sp args (place.Name (bound w n).number) → IsOwnRegion w (bound w n) (bound w n).static_type
own_region w falls n there k sp args same =
    let found = region_found w.scope.next w.scope.names falls n there k sp args same in record {
      number = (bound w n).number;
      numbered = ap (λ (c : Bound). c.number) found;
      place = ap (λ (c : Bound). c.place) found;
      typed = region_typed w.scope.next w.scope.names falls n there k sp args same;
      space = ap (λ (c : Bound). space_in c.static_type) found;
      is = ap (λ t. reaches_of (taken_from t)) same;
    }

-- a part of a partition that has a name, into which pointers go
pub part_goal : (w : Where) → Falls w.scope.next w.scope.names → (n : Name) (e : Expression) → is_bound w.scope.names n ≡ true → (own : IsOwnCut w n) →
    IsRegionAmong w.scope.names (parent_of (bound w n).static_type) → (region : IsRegion (typed w (access_expr n (at_step e no_step)))) →
    IsCutAmong w.scope.names (part_is w n e own region).space (bound w n).number
part_goal w falls n e there own parent region =
    let r = parent_of (bound w n).static_type in
    let kind = part_is w n e own region in
    let found : bound_as w.scope.names r ≡ parent.named =
    subst (λ j. bound_as w.scope.names j ≡ parent.named) parent.number (found_among w.scope.next w.scope.names parent.named falls parent.among).0 in record {
      named = bound w n;
      among = bound_among w.scope.names n there;
      number = refl;
      is = own;
      parent = parent;
      space = ap (λ (c : Bound). space_in c.static_type) (sym found) ∙ sym kind.of_space;
    }

-- ---- elements

module _ (task : TaskTree) (w : Where) (sound : IsSound w.tree) (sound_task : IsSoundTask w.tree task)
    (local : IsLocalTree w.tree) (scope : IsSoundScope w.scope) (names : AllKept true w.scope.names) (head : KnowsHead w.tree task w.scope) where
  abbrev forms : Forms
  forms = forms_by true true w.tree task

  abbrev Well : Expression → Type 0
  Well e = IsWell task w sound sound_task local scope names head e

  abbrev element : Name → Expression → Expression
  element n e = access_expr n (at_step e no_step)

  -- of a name that is bound to a region under its own number
  pub of_region : (n : Name) (e : Expression) → is_bound w.scope.names n ≡ true → true ≡ true → (k : Kind) (sp : ℕ) (args : List Reach) →
      (bound w n).static_type ≡ region_type k sp args (place.Name (bound w n).number) → IsTyped forms w e → IsCounting (typed w e) → Well (element n e)
  of_region n e there keeps k sp args same is counts = record {
    is = (keeps, is, counts, there, region_bound w.scope.next w.scope.names scope.numbers n there k sp args same, own_region w scope.numbers n there k sp args same);
    value = subst (λ t. IsValue true w.scope.names (type_of_element w.scope t e)) (sym same)
        (value_pointer k sp args _ keeps (
          region_among w.scope.next w.scope.names scope.numbers n there k sp args same,
          region_of_space w.scope.next w.scope.names scope.numbers n there k sp args same,
          tt,
        ));
    points = λ q. refl;
  }
