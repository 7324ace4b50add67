-- Beside pointers into parts stand the parts, also where slots behind are set, and among more names.
use Rattle.std.proofs.Common.{◌≡◌, ℕ, suc, ◌<◌, ◌≤◌, ◌+◌, List, [], ◌∷◌, ◌++◌, map, Bool, true, false, cond, None, Some, refl, sym, ◌∙◌, subst, arith}
use Rattle.std.specs.Prelude.{bytes_eq, length, slice_set, ◌||◌}
use Rattle.std.proofs.lemmas.Bool.{false≢true}
use Rattle.regent_tree.specs.Lookup.{is_bound}
use Rattle.regent_tree.specs.Scopes.{bound_as, bound_params, bound_to, in_scope, Scope}
use Rattle.regent_tree.specs.StaticTypes.{among_params, Looking, looked_up, Reach, type_said}
use Rattle.regent_tree.specs.Syntax.{Name, Tree}
use Rattle.regent_tree.specs.Typing.{parent_of, reaches_of}
use Rattle.regent_tree.specs.declared.facts.Term.TheVariants as term
use Rattle.regent_tree.specs.declared.types.NumberTerm.TheVariants as number
use Rattle.regent_tree.specs.declared.types.Param.{Param}
use Rattle.regent_tree.specs.declared.types.Ref.{Ref}
use Rattle.regent_tree.specs.declared.types.Ref.TheVariants.{Named, Wild}
use Rattle.regent_tree.specs.declared.types.TypeTerm.{TypeTerm}
use Rattle.regent_tree.specs.declared.types.TypeTerm.TheVariants as typing
use Rattle.regent_tree.specs.declared.typing.Bound.{Bound}
use Rattle.regent_tree.specs.declared.typing.StaticType.{StaticType}
use Rattle.regent_tree.specs.declared.typing.StaticType.TheVariants.{Integer as integer_type, Truth as truth_type, Index as index_type, Pointer as pointer_type, Ispace as ispace_type, Region as region_type, Partition as partition_type, Nothing as no_type, Unknown as unknown_type}
use Rattle.check_laws.specs.SoundScopes.{Falls}
use Rattle.code_rules.specs.Initializers.{names_child}
use Rattle.fit_rules.specs.Shapes.{Each, Shape}
use Rattle.fit_laws.proofs.Keeping.{get_other}
use Rattle.sound_code.specs.Named.{AreNamed, HasPartBeside, HavePartsBeside, IsPartBeside, parent_as, slot_at}
use Rattle.sound_code.specs.Ways.{Way}
use Rattle.sound_code.proofs.Scoped.{same_as, same_cut_as}

-- ---- types that name no part

abbrev pub NamesNoChild : StaticType → Type 0
NamesNoChild t = names_child (reaches_of t) ≡ false

reaches_beside : (way : Way) (params : ℕ) (ss : List Shape) (bs : List Bound) (place : ℕ) (k : _) (sp : ℕ) (args rs : List Reach) → names_child rs ≡ false →
    HasPartBeside way params ss bs place (pointer_type k sp args rs)
reaches_beside way params ss bs place k sp args [] h = tt
reaches_beside way params ss bs place k sp args (None ∷ rs) h = tt
reaches_beside way params ss bs place k sp args (Some (term.Name i) ∷ rs) h = tt
reaches_beside way params ss bs place k sp args (Some (term.Child p c) ∷ rs) h = absurd (false≢true (sym h))

pub none_beside : (way : Way) (params : ℕ) (ss : List Shape) (bs : List Bound) (place : ℕ) (t : StaticType) → NamesNoChild t →
    HasPartBeside way params ss bs place t
none_beside way params ss bs place (pointer_type k sp args rs) h = reaches_beside way params ss bs place k sp args rs h
none_beside way params ss bs place (integer_type w) h = tt
none_beside way params ss bs place truth_type h = tt
none_beside way params ss bs place (index_type k) h = tt
none_beside way params ss bs place (ispace_type k) h = tt
none_beside way params ss bs place (region_type k sp args r) h = tt
none_beside way params ss bs place (partition_type d r p) h = tt
none_beside way params ss bs place no_type h = tt
none_beside way params ss bs place unknown_type h = tt

-- a type that is written names regions alone
abbrev pub IsNameAt : Reach → Type 0
IsNameAt (Some (term.Name i)) = Unit {0}
IsNameAt (Some (term.Child p c)) = ⊥
IsNameAt None = Unit {0}

named_first : (r : Reach) (rs : List Reach) → IsNameAt r → names_child (r ∷ rs) ≡ false
named_first (Some (term.Name i)) rs h = refl
named_first (Some (term.Child p c)) rs h = absurd h
named_first None rs h = refl

module _ (tree : Tree) (look : Looking) (named : (n : Name) → IsNameAt (look n)) where
  refs_named : (rs : List Ref) → names_child (map (looked_up look) rs) ≡ false
  refs_named [] = refl
  refs_named (Wild ∷ rs) = refl
  refs_named (Named n ∷ rs) = named_first (look n) (map (looked_up look) rs) (named n)

  said_no_child : (i : ℕ) (t : TypeTerm) → NamesNoChild (type_said tree look i t)
  said_no_child i (typing.Number number.Int32) = refl
  said_no_child i (typing.Number number.Int64) = refl
  said_no_child i (typing.Number (number.Index k)) = refl
  said_no_child i typing.Truth = refl
  said_no_child i (typing.Pointer p) = refs_named p.regions
  said_no_child i (typing.Ispace k) = refl
  said_no_child i (typing.Region k u) = refl
  said_no_child i (typing.Partition d r c) = refl

pub written_no_child : (tree : Tree) (s : Scope) (i : ℕ) (t : TypeTerm) → NamesNoChild (type_said tree (in_scope s) i t)
written_no_child tree s i t = said_no_child tree (in_scope s) (λ n. tt) i t

-- ---- where a body begins

abbrev NoneNamesChild : List Bound → Type 0
NoneNamesChild bs = Each (λ (b : Bound). NamesNoChild b.static_type) bs

none_behind : (bs : List Bound) (b : Bound) → NoneNamesChild bs → NamesNoChild b.static_type → NoneNamesChild (bs ++ b ∷ [])
none_behind [] b a h = (h, tt)
none_behind (c ∷ bs) b a h = (a.0, none_behind bs b a.1 h)

params_no_child : (tree : Tree) (all : List Param) (i : ℕ) (ps : List Param) → NoneNamesChild (bound_params tree all i ps)
params_no_child tree all i [] = tt
params_no_child tree all i (p ∷ ps) = none_behind (bound_params tree all (suc i) ps) _ (params_no_child tree all (suc i) ps)
    (said_no_child tree (among_params all) (λ n. tt) i p.term)

all_beside : (way : Way) (params : ℕ) (ss : List Shape) (bs : List Bound) → NoneNamesChild bs → HavePartsBeside way params ss bs
all_beside way params ss [] h = tt
all_beside way params ss (b ∷ bs) h = (none_beside way params ss bs b.place b.static_type h.0, all_beside way params ss bs h.1)

pub params_beside : (way : Way) (params : ℕ) (ss : List Shape) (tree : Tree) (ps : List Param) → HavePartsBeside way params ss (bound_params tree ps 0 ps)
params_beside way params ss tree ps = all_beside way params ss (bound_params tree ps 0 ps) (params_no_child tree ps 0 ps)

-- ---- where a slot behind is set

set_one : (way : Way) (params : ℕ) (ss : List Shape) (bs : List Bound) (place i : ℕ) (s : Shape) → (params ≤ place → slot_at params place + 2 < i) →
    (t : StaticType) → HasPartBeside way params ss bs place t → HasPartBeside way params (slice_set ss i s) bs place t
set_one way params ss bs place i s low (pointer_type k sp args (Some (term.Child p c) ∷ rs)) h =
    let l = low h.behind in record {
      behind = h.behind;
      is_partition = h.is_partition;
      is_region = h.is_region;
      space = h.space;
      shape = get_other ss i (slot_at params place + 2) s (λ e. omega (arith, e, l)) ∙ h.shape;
    }
set_one way params ss bs place i s low (pointer_type k sp args (Some (term.Name j) ∷ rs)) h = tt
set_one way params ss bs place i s low (pointer_type k sp args (None ∷ rs)) h = tt
set_one way params ss bs place i s low (pointer_type k sp args []) h = tt
set_one way params ss bs place i s low (integer_type w) h = tt
set_one way params ss bs place i s low truth_type h = tt
set_one way params ss bs place i s low (index_type k) h = tt
set_one way params ss bs place i s low (ispace_type k) h = tt
set_one way params ss bs place i s low (region_type k sp args r) h = tt
set_one way params ss bs place i s low (partition_type d r p) h = tt
set_one way params ss bs place i s low no_type h = tt
set_one way params ss bs place i s low unknown_type h = tt

slot_under : (params p n : ℕ) → params ≤ p → p < n → slot_at params p + 2 < slot_at params n
slot_under params p n h l = omega (arith, h, l)

pub parts_behind : (way : Way) (params : ℕ) (ss : List Shape) (bs : List Bound) (i : ℕ) (s : Shape) → AreNamed way params ss bs →
    HavePartsBeside way params ss bs → slot_at params (length bs) ≤ i → HavePartsBeside way params (slice_set ss i s) bs
parts_behind way params ss [] i s a h l = tt
parts_behind way params ss (b ∷ bs) i s a h l = (
  set_one way params ss bs b.place i s (λ q. let under = slot_under params b.place (length (b ∷ bs)) q (omega (arith, a.0)) in omega (arith, under, l))
      b.static_type h.0,
  parts_behind way params ss bs i s a.2 h.1 (let low = slot_rises params (length bs) in omega (arith, l, low)),
)
  where
    slot_rises : (params n : ℕ) → slot_at params n ≤ slot_at params (suc n)
    slot_rises params n = omega arith

-- ---- among more names

module _ (way : Way) (params : ℕ) (ss : List Shape) (next : ℕ) (bs : List Bound) (b : Bound) (falls : Falls next bs) (new : next ≤ b.number) where
  part_more : (place sp p : ℕ) → IsPartBeside way params ss place sp (bound_as bs p) (parent_as bs p) →
      IsPartBeside way params ss place sp (bound_as (b ∷ bs) p) (parent_as (b ∷ bs) p)
  part_more place sp p h = subst (λ (c : Bound). IsPartBeside way params ss place sp c (bound_as (b ∷ bs) (parent_of c.static_type)))
      (same_cut_as next bs b falls new p h.is_partition)
      (subst (IsPartBeside way params ss place sp (bound_as bs p)) (same_as next bs b falls new (parent_of (bound_as bs p).static_type) h.is_region) h)

  one_more : (place : ℕ) (t : StaticType) → HasPartBeside way params ss bs place t → HasPartBeside way params ss (b ∷ bs) place t
  one_more place (pointer_type k sp args (Some (term.Child p c) ∷ rs)) h = part_more place sp p h
  one_more place (pointer_type k sp args (Some (term.Name j) ∷ rs)) h = tt
  one_more place (pointer_type k sp args (None ∷ rs)) h = tt
  one_more place (pointer_type k sp args []) h = tt
  one_more place (integer_type w) h = tt
  one_more place truth_type h = tt
  one_more place (index_type k) h = tt
  one_more place (ispace_type k) h = tt
  one_more place (region_type k sp args r) h = tt
  one_more place (partition_type d r p) h = tt
  one_more place no_type h = tt
  one_more place unknown_type h = tt

-- so it does of a name, by all names in scope
pub part_named : (way : Way) (params : ℕ) (ss : List Shape) (next : ℕ) (bs : List Bound) (n : Name) → Falls next bs → HavePartsBeside way params ss bs →
    is_bound bs n ≡ true → HasPartBeside way params ss bs (bound_to bs n).place (bound_to bs n).static_type
part_named way params ss next [] n f h e = absurd (false≢true e)
part_named way params ss next (b ∷ bs) n f h e = chosen (bytes_eq b.name n) (part_named way params ss b.number bs n f.1 h.1) e
  where
    more : (place : ℕ) (t : StaticType) → HasPartBeside way params ss bs place t → HasPartBeside way params ss (b ∷ bs) place t
    more = one_more way params ss b.number bs b f.1 (omega arith)

    chosen : (c : Bool) → (is_bound bs n ≡ true → HasPartBeside way params ss bs (bound_to bs n).place (bound_to bs n).static_type) → (c || is_bound bs n) ≡ true →
        HasPartBeside way params ss (b ∷ bs) (cond c b (bound_to bs n)).place (cond c b (bound_to bs n)).static_type
    chosen true rest e = more b.place b.static_type h.0
    chosen false rest e = more (bound_to bs n).place (bound_to bs n).static_type (rest e)
