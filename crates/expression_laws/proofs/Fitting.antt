-- The arguments of a call of which nothing is told fit the called task.
use Rattle.std.proofs.Common.{arith, Bool, List, [], ◌∷◌, None, false, true, refl, ap, sym, subst, ℕ, ℤ, zero, suc, ◌≡◌, ◌∙◌, ◌<◌, ◌&&◌, ◌||◌, inl, inr, bytes_eq, cond, length, map, not}
use Rattle.std.proofs.lemmas.Bool.{not-false, or_parts}
use Rattle.std.specs.List.{list_any}
use Rattle.regent_tree.proofs.Members.{Has}
use Rattle.regent_tree.specs.Lookup.{has_task}
use Rattle.regent_tree.specs.Scopes.{Scope}
use Rattle.regent_tree.specs.StaticTypes.{Reach, task_named}
use Rattle.regent_tree.specs.Syntax.{ItemForm, ItemTree, Name, TaskTree, Tree, alias_item, import_item, space_item, start_item, task_item}
use Rattle.regent_tree.specs.Typing.{put_in}
use Rattle.regent_tree.specs.Values.{Value, partition_of, region_of}
use Rattle.regent_tree.specs.declared.facts.Known.{Known}
use Rattle.regent_tree.specs.declared.facts.Term.{Term}
use Rattle.regent_tree.specs.declared.facts.Term.TheVariants.{Child, Name as term_name}
use Rattle.regent_tree.specs.declared.types.Kind.{Kind}
use Rattle.regent_tree.specs.declared.typing.StaticType.{StaticType}
use Rattle.regent_tree.specs.declared.typing.StaticType.TheVariants.{Index as index_type, Integer as integer_type, Ispace as ispace_type, Nothing as no_type, Partition as partition_type, Pointer as pointer_type, Region as region_type, Truth as truth_type, Unknown as unknown_type}
use Rattle.check_rules.specs.first.FirstInExpressions.{first_of_call}
use Rattle.check_rules.specs.rules.Partitions.{is_parent, mispartition_in, mispartitions}
use Rattle.check_rules.specs.rules.Standing.{param_spot, stand_at, stands}
use Rattle.check_rules.specs.rules.Types.{is_ill_typed_at_place}
use Rattle.check_rules.specs.types.Sorts.{is_region, is_unknown_type, type_at}
use Rattle.check_rules.specs.types.TypedForms.{Calling}
use Rattle.check_laws.proofs.Parts.{contrary}
use Rattle.fact_laws.specs.Regions.{Interpretation, StandsFor, child_at}
use Rattle.expression_laws.proofs.Calls.{call_parts}
use Rattle.expression_laws.proofs.Stores.{child_in_store, none_in_store}
use Rattle.expression_laws.specs.Kinds.{IsNamedByOwnNumber, IsOfType, is_index, is_nothing, is_number, is_partition_of, is_pointer, is_region_of, is_space, is_truth, is_unknown}
use Rattle.expression_laws.specs.Sound.{AreInStore, IsInStore, IsPassed}

-- ---- tasks that are there

pub standing_task : (tree : Tree) (n : Name) → has_task tree n ≡ true → Has (map (λ (i : ItemTree). i.form) tree) (task_item (task_named tree n))
standing_task [] n e = absurd cc
standing_task (i ∷ items) n e = by i.line i.form (λ k. standing_task items n k) e
  where
    by : (line : ℕ) (form : ItemForm) → (has_task items n ≡ true → Has (map (λ (j : ItemTree). j.form) items) (task_item (task_named items n))) →
        has_task (record { line = line; form = form } ∷ items) n ≡ true →
        Has (form ∷ map (λ (j : ItemTree). j.form) items) (task_item (task_named (record { line = line; form = form } ∷ items) n))
    by line (task_item t) rest e = here (bytes_eq t.name n) e
      where
        here : (b : Bool) → (b || has_task items n) ≡ true →
            Has (task_item t ∷ map (λ (j : ItemTree). j.form) items) (task_item (cond b t (task_named items n)))
        here true e = inl refl
        here false e = inr (rest e)
    by line import_item rest e = inr (rest e)
    by line (alias_item m) rest e = inr (rest e)
    by line (space_item m) rest e = inr (rest e)
    by line (start_item m) rest e = inr (rest e)

pub call_named : (tree : Tree) (task : TaskTree) (s : Scope) (c : Calling) → first_of_call tree task s c ≡ None → has_task tree c.task ≡ true
call_named tree task s c e = not-false (has_task tree c.task) (call_parts tree task s c e).named

-- ---- one argument

-- a value of a known type lies in the store
stored_value : (m : Interpretation) (t : StaticType) (v : Value) (count : ℕ) → is_unknown_type t ≡ false → IsOfType m t v → AreInStore m count →
    IsInStore count (region_of v) × ((c : ℤ) → IsInStore count (child_at (partition_of v) c))
stored_value m (integer_type w) v count l is_number are = (none_in_store count, λ c. child_in_store count c)
stored_value m truth_type v count l is_truth are = (none_in_store count, λ c. child_in_store count c)
stored_value m (index_type k) v count l is_index are = (none_in_store count, λ c. child_in_store count c)
stored_value m (pointer_type k s args terms) v count l (is_pointer go) are = (none_in_store count, λ c. child_in_store count c)
stored_value m (ispace_type k) v count l is_space are = (none_in_store count, λ c. child_in_store count c)
stored_value m (region_type k s args (term_name i)) v count l (is_region_of {r = q} stands) are = (subst (IsInStore count) stands (are.regions i), λ c. child_in_store count c)
stored_value m (region_type k s args (Child p c)) v count l (is_region_of {r = q} stands) are = (subst (IsInStore count) stands.is_child (are.children p stands.number), λ c. child_in_store count c)
stored_value m (partition_type d r p) v count l (is_partition_of {q = q} same) are = (none_in_store count, λ c. subst (λ x. IsInStore count (child_at x c)) same (are.children p c))
stored_value m no_type v count l is_nothing are = (none_in_store count, λ c. child_in_store count c)
stored_value m unknown_type v count l is are = absurd (contrary l)

stored_plain : (v w : Value) (count : ℕ) → w ≡ v → IsInStore count (region_of w) × ((c : ℤ) → IsInStore count (child_at (partition_of w) c)) →
    IsInStore count (region_of v) × ((c : ℤ) → IsInStore count (child_at (partition_of v) c))
stored_plain v w count e are = subst (λ x. IsInStore count (region_of x) × ((c : ℤ) → IsInStore count (child_at (partition_of x) c))) e are

pub stored_passed : (m : Interpretation) (types : List StaticType) (p t : StaticType) (v : Value) (count : ℕ) → is_unknown_type t ≡ false → IsPassed m t (put_in types p) v → AreInStore m count →
    IsInStore count (region_of v) × ((c : ℤ) → IsInStore count (child_at (partition_of v) c))
stored_passed m types (integer_type w) t v count l is are = stored_plain v _ count is.1 (none_in_store count, λ c. child_in_store count c)
stored_passed m types (index_type k) t v count l is are = stored_plain v _ count is.1 (none_in_store count, λ c. child_in_store count c)
stored_passed m types (pointer_type k s args terms) t v count l is are = stored_plain v _ count is.1 (none_in_store count, λ c. child_in_store count c)
stored_passed m types truth_type t v count l is are = stored_value m t v count l is are
stored_passed m types (ispace_type k) t v count l is are = stored_value m t v count l is are
stored_passed m types (region_type k s args q) t v count l is are = stored_value m t v count l is are
stored_passed m types (partition_type d r p) t v count l is are = stored_value m t v count l is are
stored_passed m types no_type t v count l is are = stored_value m t v count l is are
stored_passed m types unknown_type t v count l is are = stored_value m t v count l is are

-- what isn't told of an argument
pub record IsGiven (known : List Known) (types : List StaticType) (p t : StaticType) : Type 0 where
  pub known_type : is_unknown_type t ≡ false
  pub fits : is_ill_typed_at_place known (stands t (param_spot (put_in types p))) ≡ false
  pub parted : mispartitions types p t ≡ false

pub given_at : (known : List Known) (types params args : List StaticType) (i : ℕ) → i < length params → length args ≡ length params → list_any is_unknown_type args ≡ false →
    list_any (is_ill_typed_at_place known) (stand_at types params args) ≡ false → mispartition_in types params args ≡ false → IsGiven known types (type_at params i) (type_at args i)
given_at known types [] args i l len is st d = absurd (omega (arith, l))
given_at known types (p ∷ params) [] i l len is st d = absurd (omega (arith, len))
given_at known types (p ∷ params) (t ∷ args) zero l len is st d = record { known_type = (or_parts _ _ is).0; fits = (or_parts _ _ st).0; parted = (or_parts _ _ d).0 }
given_at known types (p ∷ params) (t ∷ args) (suc i) l len is st d = given_at known types params args i (omega (arith, l)) (omega (arith, len)) (or_parts _ _ is).1 (or_parts _ _ st).1 (or_parts _ _ d).1

-- an argument is of its parameter's type, where the parameter stands for it
pub given_value : (m b : Interpretation) (known : List Known) (types : List StaticType) (i : ℕ) (p t : StaticType) (v : Value) → IsGiven known types p t → IsNamedByOwnNumber i p →
    b.region i ≡ region_of v → b.partition i ≡ partition_of v → IsPassed m t (put_in types p) v → IsOfType b p v
given_value m b known types i (integer_type w) t v given own reg par is = subst (IsOfType b (integer_type w)) is.1 is_number
given_value m b known types i (index_type k) t v given own reg par is = subst (IsOfType b (index_type k)) is.1 is_index
given_value m b known types i (pointer_type k s args terms) t v given own reg par is = subst (IsOfType b (pointer_type k s args terms)) is.1 (is_pointer tt)
given_value m b known types i unknown_type t v given own reg par is = is_unknown
given_value m b known types i truth_type truth_type v given own reg par is_truth = is_truth
given_value m b known types i (ispace_type k) (ispace_type j) v given own reg par is_space = is_space
given_value m b known types i (region_type k s args r) (region_type j u others q) v given own reg par (is_region_of {r = x} stands) = is_region_of (subst (λ y. StandsFor b y x) (sym own) reg)
given_value m b known types i (partition_type d r p) (partition_type e a q) v given own reg par (is_partition_of {q = x} same) = is_partition_of (ap b.partition own ∙ par)
given_value m b known types i truth_type (integer_type w2) v given own reg par is = absurd (contrary given.fits)
given_value m b known types i truth_type (index_type k2) v given own reg par is = absurd (contrary given.fits)
given_value m b known types i truth_type (pointer_type k2 s2 args2 terms2) v given own reg par is = absurd (contrary given.fits)
given_value m b known types i truth_type (ispace_type k2) v given own reg par is = absurd (contrary given.fits)
given_value m b known types i truth_type (region_type k2 s2 args2 q2) v given own reg par is = absurd (contrary given.fits)
given_value m b known types i truth_type (partition_type d2 r2 p2) v given own reg par is = absurd (contrary given.fits)
given_value m b known types i truth_type no_type v given own reg par is = absurd (contrary given.fits)
given_value m b known types i truth_type unknown_type v given own reg par is = absurd (contrary given.known_type)
given_value m b known types i (ispace_type k) (integer_type w2) v given own reg par is = absurd (contrary given.fits)
given_value m b known types i (ispace_type k) truth_type v given own reg par is = absurd (contrary given.fits)
given_value m b known types i (ispace_type k) (index_type k2) v given own reg par is = absurd (contrary given.fits)
given_value m b known types i (ispace_type k) (pointer_type k2 s2 args2 terms2) v given own reg par is = absurd (contrary given.fits)
given_value m b known types i (ispace_type k) (region_type k2 s2 args2 q2) v given own reg par is = absurd (contrary given.fits)
given_value m b known types i (ispace_type k) (partition_type d2 r2 p2) v given own reg par is = absurd (contrary given.fits)
given_value m b known types i (ispace_type k) no_type v given own reg par is = absurd (contrary given.fits)
given_value m b known types i (ispace_type k) unknown_type v given own reg par is = absurd (contrary given.known_type)
given_value m b known types i (region_type k s args r) (integer_type w2) v given own reg par is = absurd (contrary given.fits)
given_value m b known types i (region_type k s args r) truth_type v given own reg par is = absurd (contrary given.fits)
given_value m b known types i (region_type k s args r) (index_type k2) v given own reg par is = absurd (contrary given.fits)
given_value m b known types i (region_type k s args r) (pointer_type k2 s2 args2 terms2) v given own reg par is = absurd (contrary given.fits)
given_value m b known types i (region_type k s args r) (ispace_type k2) v given own reg par is = absurd (contrary given.fits)
given_value m b known types i (region_type k s args r) (partition_type d2 r2 p2) v given own reg par is = absurd (contrary given.fits)
given_value m b known types i (region_type k s args r) no_type v given own reg par is = absurd (contrary given.fits)
given_value m b known types i (region_type k s args r) unknown_type v given own reg par is = absurd (contrary given.known_type)
given_value m b known types i (partition_type d r p) (integer_type w2) v given own reg par is = absurd (contrary given.fits)
given_value m b known types i (partition_type d r p) truth_type v given own reg par is = absurd (contrary given.fits)
given_value m b known types i (partition_type d r p) (index_type k2) v given own reg par is = absurd (contrary given.fits)
given_value m b known types i (partition_type d r p) (pointer_type k2 s2 args2 terms2) v given own reg par is = absurd (contrary given.fits)
given_value m b known types i (partition_type d r p) (ispace_type k2) v given own reg par is = absurd (contrary given.fits)
given_value m b known types i (partition_type d r p) (region_type k2 s2 args2 q2) v given own reg par is = absurd (contrary given.fits)
given_value m b known types i (partition_type d r p) no_type v given own reg par is = absurd (contrary given.fits)
given_value m b known types i (partition_type d r p) unknown_type v given own reg par is = absurd (contrary given.known_type)
given_value m b known types i no_type (integer_type w2) v given own reg par is = absurd (contrary given.fits)
given_value m b known types i no_type truth_type v given own reg par is = absurd (contrary given.fits)
given_value m b known types i no_type (index_type k2) v given own reg par is = absurd (contrary given.fits)
given_value m b known types i no_type (pointer_type k2 s2 args2 terms2) v given own reg par is = absurd (contrary given.fits)
given_value m b known types i no_type (ispace_type k2) v given own reg par is = absurd (contrary given.fits)
given_value m b known types i no_type (region_type k2 s2 args2 q2) v given own reg par is = absurd (contrary given.fits)
given_value m b known types i no_type (partition_type d2 r2 p2) v given own reg par is = absurd (contrary given.fits)
given_value m b known types i no_type no_type v given own reg par is = absurd (contrary given.fits)
given_value m b known types i no_type unknown_type v given own reg par is = absurd (contrary given.known_type)

-- ---- regions and partitions that are given

pub record IsRegionGiven (m : Interpretation) (t : StaticType) (v : Value) : Type 0 where
  pub kind : Kind
  pub space : ℕ
  pub arguments : List Reach
  pub term : Term
  pub is : t ≡ region_type kind space arguments term
  pub stands : StandsFor m term (region_of v)

pub region_given : (m : Interpretation) (known : List Known) (types : List StaticType) (p t : StaticType) (v : Value) → is_region p ≡ true → IsGiven known types p t → IsPassed m t (put_in types p) v →
    IsRegionGiven m t v
region_given m known types (region_type k s args r) (region_type j u others q) v e given (is_region_of stands) = record { kind = j; space = u; arguments = others; term = q; is = refl; stands = stands }
region_given m known types (region_type k s args r) (integer_type w2) v e given is = absurd (contrary given.fits)
region_given m known types (region_type k s args r) truth_type v e given is = absurd (contrary given.fits)
region_given m known types (region_type k s args r) (index_type k2) v e given is = absurd (contrary given.fits)
region_given m known types (region_type k s args r) (pointer_type k2 s2 args2 terms2) v e given is = absurd (contrary given.fits)
region_given m known types (region_type k s args r) (ispace_type k2) v e given is = absurd (contrary given.fits)
region_given m known types (region_type k s args r) (partition_type d2 r2 p2) v e given is = absurd (contrary given.fits)
region_given m known types (region_type k s args r) no_type v e given is = absurd (contrary given.fits)
region_given m known types (region_type k s args r) unknown_type v e given is = absurd (contrary given.known_type)
region_given m known types (integer_type w) t v e given is = absurd cc
region_given m known types truth_type t v e given is = absurd cc
region_given m known types (index_type k) t v e given is = absurd cc
region_given m known types (pointer_type k s args terms) t v e given is = absurd cc
region_given m known types (ispace_type k) t v e given is = absurd cc
region_given m known types (partition_type d r p) t v e given is = absurd cc
region_given m known types no_type t v e given is = absurd cc
region_given m known types unknown_type t v e given is = absurd cc

pub record IsPartitionGiven (m : Interpretation) (types : List StaticType) (d : Bool) (r : ℕ) (t : StaticType) (v : Value) : Type 0 where
  pub disjoint : Bool
  pub parent : ℕ
  pub own : ℕ
  pub is : t ≡ partition_type disjoint parent own
  pub less : d ≡ true → disjoint ≡ true
  pub beside : is_parent parent (type_at types r) ≡ true
  pub same : m.partition own ≡ partition_of v

pub partition_given : (m : Interpretation) (known : List Known) (types : List StaticType) (d : Bool) (r p : ℕ) (t : StaticType) (v : Value) → IsGiven known types (partition_type d r p) t →
    IsPassed m t (put_in types (partition_type d r p)) v → IsPartitionGiven m types d r t v
partition_given m known types d r p (partition_type e a q) v given (is_partition_of same) =
    let parts = or_parts (d && not e) (not (is_parent a (type_at types r))) given.parted in record {
      disjoint = e;
      parent = a;
      own = q;
      is = refl;
      less = λ h. not-false e (sym (λ j. h j && not e) ∙ parts.0);
      beside = not-false (is_parent a (type_at types r)) parts.1;
      same = same;
    }
partition_given m known types d r p (integer_type w2) v given is = absurd (contrary given.fits)
partition_given m known types d r p truth_type v given is = absurd (contrary given.fits)
partition_given m known types d r p (index_type k2) v given is = absurd (contrary given.fits)
partition_given m known types d r p (pointer_type k2 s2 args2 terms2) v given is = absurd (contrary given.fits)
partition_given m known types d r p (ispace_type k2) v given is = absurd (contrary given.fits)
partition_given m known types d r p (region_type k2 s2 args2 q2) v given is = absurd (contrary given.fits)
partition_given m known types d r p no_type v given is = absurd (contrary given.fits)
partition_given m known types d r p unknown_type v given is = absurd (contrary given.known_type)
