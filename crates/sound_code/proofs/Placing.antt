-- Names in scope: the shapes in their slots, and where the regions of parameters stand.
use Rattle.std.proofs.Common.{◌≡◌, ℕ, List, [], ◌∷◌, Bool, true, false, cond, Some, refl}
use Rattle.std.specs.Prelude.{slice_get, bytes_eq, ◌||◌}
use Rattle.std.proofs.lemmas.Bool.{false≢true}
use Rattle.regent_tree.specs.Accesses.{space_in}
use Rattle.regent_tree.specs.declared.typing.Bound.{Bound}
use Rattle.regent_tree.specs.declared.typing.StaticType.{StaticType}
use Rattle.regent_tree.specs.Lookup.{is_bound}
use Rattle.regent_tree.specs.Scopes.{Scope, bound_to}
use Rattle.regent_tree.specs.Syntax.{Name, Tree}
use Rattle.task_code.specs.declared.code.TaskCode.{TaskCode}
use Rattle.code_laws.specs.Simple.{IsRegion, a_region_type, IsSimple, simple_index, simple_integer, simple_space, simple_truth}
use Rattle.fit_rules.specs.Shapes.{Each, Shape}
use Rattle.fit_rules.specs.Marks.{Mark}
use Rattle.fit_rules.specs.Sound.{HasRegion}
use Rattle.std.proofs.Common.{◌∙◌, ap, Some}
use Rattle.sound_code.specs.Named.{slot_at, AreNamed, name_shape, pended}
use Rattle.sound_code.proofs.SlotShapes.{slot_plain}
use Rattle.sound_code.specs.Ways.{Way, all_made, by_rules, origin_in, shape_in, shape_of}
use Rattle.sound_code.proofs.Granting.{InPlace}
use Rattle.sound_code.proofs.Grounds.{Ground, IsPlaced, OfType}

-- a name in scope has its shape in its slot
pub named_at : (way : Way) (params : ℕ) (ss : List Shape) (bs : List Bound) (n : Name) → AreNamed way params ss bs → is_bound bs n ≡ true →
    slice_get ss (slot_at params (bound_to bs n).place) ≡ Some (name_shape way params (bound_to bs n))
named_at way params ss [] n a h = absurd (false≢true h)
named_at way params ss (b ∷ bs) n a h = chosen (bytes_eq b.name n) (named_at way params ss bs n a.2) h
  where
    chosen : (c : Bool) →
        (is_bound bs n ≡ true → slice_get ss (slot_at params (bound_to bs n).place) ≡ Some (name_shape way params (bound_to bs n))) →
        (c || is_bound bs n) ≡ true →
        slice_get ss (slot_at params (cond c b (bound_to bs n)).place) ≡ Some (name_shape way params (cond c b (bound_to bs n)))
    chosen true more e = a.1
    chosen false more e = more e

-- so what is no number, as it is
pub named_as : (way : Way) (params : ℕ) (ss : List Shape) (bs : List Bound) (n : Name) → AreNamed way params ss bs → is_bound bs n ≡ true →
    pended (shape_in way params (bound_to bs n).static_type) ≡ shape_in way params (bound_to bs n).static_type →
    slice_get ss (slot_at params (bound_to bs n).place) ≡ Some (shape_in way params (bound_to bs n).static_type)
named_as way params ss bs n a h plain = named_at way params ss bs n a h ∙ ap (λ s. Some s) (slot_plain _ _ plain)

-- a simple type's shape is the same of a name
pub simple_named : (way : Way) (params : ℕ) (u : StaticType) → IsSimple u → shape_in way params u ≡ shape_of u
simple_named way params _ (simple_integer w) = refl
simple_named way params _ simple_truth = refl
simple_named way params _ (simple_space c) = refl
simple_named way params _ (simple_index c) = refl

-- a name of a region has one in its slot
pub region_named : (way : Way) (params : ℕ) (m : Mark) (s : ℕ) (u : StaticType) → IsRegion u → slice_get m.slots s ≡ Some (shape_in way params u) →
    HasRegion m (Some (space_in u)) s
region_named way params m s _ (a_region_type k sp args r) e = record { origin = origin_in way params r; shape = e }

-- a region of a name that has a parameter's number stands in its place
pub placed_at : (t : TaskCode) (way : Way) (tree : Tree) (params : ℕ) (s : Scope) (n : Name) → Ground t way tree params s → is_bound s.names n ≡ true →
    InPlace way params (bound_to s.names n).place (bound_to s.names n).static_type
placed_at t all_made tree params s n g h = tt
placed_at t (by_rules tops task) tree params s n g h = among s.names g.placed h
  where
    among : (bs : List Bound) → Each (IsPlaced params) bs → is_bound bs n ≡ true → OfType params (bound_to bs n).place (bound_to bs n).static_type
    among [] a h = absurd (false≢true h)
    among (b ∷ bs) a h = chosen (bytes_eq b.name n) (among bs a.1) h
      where
        chosen : (c : Bool) → (is_bound bs n ≡ true → OfType params (bound_to bs n).place (bound_to bs n).static_type) → (c || is_bound bs n) ≡ true →
            OfType params (cond c b (bound_to bs n)).place (cond c b (bound_to bs n)).static_type
        chosen true more e = a.0
        chosen false more e = more e
