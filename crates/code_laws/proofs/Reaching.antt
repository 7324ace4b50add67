-- A field at a point of a region that a name has: its kind is the one that is declared, and a touch of it is
-- allowed.
use Rattle.std.proofs.Common.{◌≡◌, ℕ, ◌^◌, ◌<◌, List, [], ◌∷◌, false, pos, true, Option, Some, None, inl, inr, refl, sym, ap, ◌∙◌, subst}
use Rattle.std.specs.Prelude.{get_or, length, map, ◌==◌, ◌&&◌}
use Rattle.std.specs.List.{Contains}
use Rattle.regent_tree.proofs.Members.{Contains-from_Has, Has-from_Contains, Has-from_list_any, Has-map_cases}
use Rattle.fact_laws.specs.Regions.{AllHold, Holds as Sure, Interpretation, LiesWithin}
use Rattle.fact_laws.proofs.Facts.{is_subregion_holds}
use Rattle.regent_tree.specs.declared.facts.Known.TheVariants.{Within}
use Rattle.regent_tree.specs.declared.facts.Term.TheVariants.{Name}
use Rattle.code_laws.proofs.Rooted.{one_root}
use Rattle.std.proofs.lemmas.List.{length-map}
use Rattle.std.proofs.lemmas.Simd.{map-map}
use Rattle.std.proofs.Math.ListN.{get_or-map}
use Rattle.std.proofs.lemmas.Bool.{and_from, and_parts, eq-eqb, le-leb}
use Rattle.plain_values.specs.Points.{has}
use Rattle.lane_kernels.specs.declared.numbers.FieldKind.TheVariants.{Truth}
use Rattle.lane_kernels.specs.declared.numbers.Mode.{Mode}
use Rattle.region_tree.specs.declared.piece.Part.{Part}
use Rattle.region_tree.specs.declared.tree.RootId.{RootId}
use Rattle.regent_tree.specs.Accesses.{space_in}
use Rattle.regent_tree.specs.declared.facts.Term.{Term}
use Rattle.regent_tree.specs.Laws.{SameRoots, Shape, shape_of}
use Rattle.regent_tree.specs.Running.{Here, State}
use Rattle.regent_tree.specs.StaticTypes.{field_kind, field_kinds, kind_said, space_at, spaces_of}
use Rattle.regent_tree.specs.Store.{Store, Touch, column, no_root}
use Rattle.regent_tree.specs.Syntax.{Tree}
use Rattle.regent_tree.specs.Values.{Region, Value, a_region, region_of}
use Rattle.regent_tree.specs.declared.types.Param.{Param}
use Rattle.regent_tree.specs.declared.types.TypeTerm.TheVariants as typed
use Rattle.regent_tree.specs.declared.typing.Bound.{Bound}
use Rattle.regent_tree.specs.declared.typing.StaticType.{StaticType}
use Rattle.task_code.specs.declared.code.Code.{Code}
use Rattle.task_code.specs.declared.code.FieldCode.{FieldCode}
use Rattle.task_code.specs.declared.code.SpaceCode.{SpaceCode}
use Rattle.machine_terms.specs.declared.order.Instance.{Instance}
use Rattle.machine_terms.specs.Contents.{kind_of, kinds_of, no_space}
use Rattle.code_rules.specs.Programs.{space_code}
use Rattle.memory_laws.specs.Memory.{Holds, Memory, memory_of}
use Rattle.value_laws.specs.Shapes.{KeepsNumbers}
use Rattle.memory_laws.specs.Places.{number_at}
use Rattle.memory_laws.specs.Touches.{IsCovered}
use Rattle.memory_laws.proofs.Covering.{covered_stays}
use Rattle.memory_laws.proofs.Shapes.{length_of, shapes_at}
use Rattle.code_laws.proofs.Shapes.{shaped_stays}
use Rattle.code_laws.specs.Standing.{Agrees, is_own, AreOf, Aside, IsFramed, IsInside, IsOf, LiesIn, nothing, of_index, of_integer, of_partition, of_pointer, of_region, of_space, of_truth, AreBeside, blank, where_of}
use Rattle.code_laws.specs.Simple.{IsRegion, a_region_type, term_in}
use Rattle.code_laws.specs.Steps.{Setting, Taking}
use Rattle.code_laws.specs.Taking.{AreParts, IsHad, IsHadBy, IsSubregion, MayDo, allows, given_region, is_asked, is_need, is_part, known_of_pairs, needs_taken, pairs_taken}
use Rattle.code_laws.proofs.Touching.{parted}
use Rattle.code_rules.specs.Slots.{beside}

-- ---- kinds of fields

-- the kinds of a field space's fields are those that its types say
pub kinds_are : (code : Code) (tree : Tree) (sp : ℕ) → code.spaces ≡ map space_code (spaces_of tree) →
    kinds_of code sp ≡ field_kinds tree sp
kinds_are code tree sp e =
    ap (λ ss. map (λ (f : FieldCode). f.kind) (get_or ss sp no_space).fields) e
    ∙ ap (λ (s : SpaceCode). map (λ (f : FieldCode). f.kind) s.fields) (get_or-map space_code (spaces_of tree) sp _)
    ∙ map-map (λ (f : FieldCode). f.kind) _ (space_at tree sp).fields

kind_in : (tree : Tree) (sp place : ℕ) → get_or (field_kinds tree sp) place Truth ≡ field_kind tree sp place
kind_in tree sp place =
    let ps = (space_at tree sp).fields in
    ap (λ ks. get_or ks place Truth) (sym (map-map kind_said (λ (p : Param). p.term) ps))
    ∙ get_or-map kind_said (map (λ (p : Param). p.term) ps) place typed.Truth

-- ---- what stays where no root is made

-- a region lies in its root still
lies_stays : (code : Code) (store after : Store) (sp : ℕ) (q : Region) → SameRoots store after →
    LiesIn code store sp q → LiesIn code after sp q
lies_stays code store after sp q same l = record {
  there = subst (λ n. q.root < n) (sym (length-map store shape_of) ∙ ap length (sym same) ∙ length-map after shape_of) l.there;
  of_space = ap (λ (s : Shape). s.space) (shapes_at store after q.root same) ∙ l.of_space;
  points = λ f n low h. subst (λ k. n < k)
      (sym (length_of (get_or after q.root no_root) (get_or store q.root no_root) f (shapes_at store after q.root same)))
      (l.points f n low h);
  small = l.small;
  set = l.set;
}

pub inside_stays : (x : Setting) (store after : Store) (t : StaticType) (v : Value) → SameRoots store after → IsOf t v →
    IsInside x store t v → IsInside x after t v
inside_stays x store after _ _ same (of_integer w z p) l = tt
inside_stays x store after _ _ same (of_truth b) l = tt
inside_stays x store after _ _ same (of_index k z p) l = tt
inside_stays x store after _ _ same (of_pointer k sp args rs t regions p) l = tt
inside_stays x store after _ _ same (of_space k n p) l = tt
inside_stays x store after _ _ same (of_region k sp args r q) l = (lies_stays x.code store after sp q same l.0, l.1)
inside_stays x store after _ _ same (of_partition d r p q) l =
    subst (λ n. q.root < n) (sym (length-map store shape_of) ∙ ap length (sym same) ∙ length-map after shape_of) l

pub region_stays : (x : Setting) (store after : Store) (t : StaticType) (q : Region) → IsRegion t → SameRoots store after →
    IsInside x store t (a_region q) → IsInside x after t (a_region q)
region_stays x store after _ q (a_region_type k sp args r) same l = inside_stays x store after _ _ same (of_region k sp args r q) l

pub all_inside : (x : Setting) (store after : Store) (bs : List Bound) (names : List Value) → SameRoots store after →
    AreOf IsOf bs names → AreOf (IsInside x store) bs names → AreOf (IsInside x after) bs names
all_inside x store after [] names same a l = tt
all_inside x store after (b ∷ bs) names same a l = (
  a.0,
  inside_stays x store after b.static_type (get_or names b.place nothing) same a.1 l.1,
  all_inside x store after bs names same a.2 l.2,
)

-- other numbers in the same roots, and other parts
pub rewritten : (x : Setting) (params slots : ℕ) {deep : ℕ} (aside : Aside deep) (h : Here) (s : State) (i : Instance) (ps : List Part)
    (ts : List Touch) (store : Store) → SameRoots s.store store → KeepsNumbers h.tree store → Agrees x params slots aside h s i →
    Holds x.code store (memory_of (parted ps i)) →
    Agrees x params slots aside h (record s { store = store; touches = ts }) (parted ps i)
rewritten x params slots aside h s i ps ts store same kept g holds = record {
  names = g.names;
  hidden = g.hidden;
  held = g.held;
  typed = g.typed;
  inside_store = all_inside x s.store store h.scope.names s.names same g.typed g.inside_store;
  pointed = g.pointed;
  steady = g.steady;
  under = g.under;
  besides = subst (λ n. AreBeside (λ p. get_or i.frame.slots (beside (where_of params h) p) blank) i.contents params n h.scope.names s.names)
      (sym (length-map s.store shape_of) ∙ ap length (sym same) ∙ length-map store shape_of) g.besides;
  count = g.count;
  inside = g.inside;
  slots_are = g.slots_are;
  turns = g.turns;
  bound = g.bound;
  text = g.text;
  ready = g.ready;
  calls = g.calls;
  result_is = g.result_is;
  answers = g.answers;
  spaces = g.spaces;
  tree_is = g.tree_is;
  memory = holds;
  framed = record {
    own_are = g.framed.own_are;
    none = g.framed.none;
    shaped = shaped_stays x.code.spaces (length x.before) s.store store same g.framed.shaped;
    allows = covered_stays x.code s.store store (memory_of i) (memory_of (parted ps i)) (is_own x) g.memory refl refl same g.framed.allows;
    given = λ n e. covered_stays x.code s.store store (memory_of i) (memory_of (parted ps i)) (is_asked x.args n) g.memory refl refl same (g.framed.given n e);
    parts = g.framed.parts;
    kept = subst (λ t. KeepsNumbers t store) g.tree_is kept;
  };
}

-- the store that an instance agrees with keeps numbers of its fields' types
pub kept_here : (x : Setting) (params slots : ℕ) {deep : ℕ} (aside : Aside deep) (h : Here) (s : State) (i : Instance) → Agrees x params slots aside h s i →
    KeepsNumbers h.tree s.store
kept_here x params slots aside h s i g = subst (λ t. KeepsNumbers t s.store) (sym g.tree_is) g.framed.kept

-- ---- a point that is reached

-- a field at a point of a region
pub record Reached (x : Setting) (tree : Tree) (i : Instance) (store : Store) (q : Region) (sp place n : ℕ) (a : Mode) : Type 0 where
  pub small : n < 2 ^ 32
  pub there : n < length (column store q.root place)
  pub of_space : (get_or store q.root no_root).space ≡ sp
  pub covers : IsCovered i.contents i.needs (record { root = q.root; field = place; point = n; access = a })
  pub kind_is : kind_of x.code i.contents (number_at i.contents q.root) place ≡ field_kind tree sp place

-- what parameters stand for
abbrev as_given : List Value → Interpretation
as_given args = record {
  region = given_region args;
  partition = λ i. record { root = 0; disjoint = false; sets = [] };
  number = λ i. pos 0;
}

pairs_hold : (args : List Value) (ps : List (ℕ × ℕ)) → AreParts args ps → AllHold (as_given args) (known_of_pairs ps)
pairs_hold args ps h fact there =
    let k = Has-map_cases (λ (p : ℕ × ℕ). Within (Name p.0) (Name p.1)) ps fact (Has-from_Contains (known_of_pairs ps) fact there) in
    subst (Sure (as_given args)) k.2 (λ r stands. record {
      outer = given_region args k.0.1;
      stands = refl;
      lies = subst (λ q. LiesWithin q (given_region args k.0.1)) stands (h k.0 (Contains-from_Has ps k.0 k.1)).1;
    })

-- what follows of parameters holds of their regions
pub part_lies : (y : Taking) (args : List Value) (i j : ℕ) → AreParts args y.within → is_part y i j ≡ true →
    IsSubregion (given_region args i) (given_region args j)
part_lies y args i j h e = (
  one_root args y.within i j h e,
  is_subregion_holds (as_given args) (known_of_pairs y.within) (pairs_hold args y.within h) (Name i) (Name j) e
      (given_region args i) (given_region args j) refl refl,
)

-- a touch of a region that an instance has is covered, where it may be made
touch_covered : (x : Setting) (store : Store) (m : Memory) (own : List RootId) (r : Term) (q : Region) (place n : ℕ) (a : Mode)
    (o : Option Taking) → x.forms.takes ≡ o → IsHadBy o x r q → MayDo o r place a → IsFramed x store own m → has q.points n ≡ true →
    n < length (column store q.root place) → IsCovered m.contents m.needs (record { root = q.root; field = place; point = n; access = a })
touch_covered x store m own r q place n a None e had may framed there is =
    framed.allows (record { root = q.root; field = place; point = n; access = a }) (le-leb (length x.before) q.root had) is
touch_covered x store m own r q place n a (Some y) e (inl had) may framed there is =
    framed.allows (record { root = q.root; field = place; point = n; access = a }) (le-leb (length x.before) q.root had.0) is
touch_covered x store m own r q place n a (Some y) e (inr p) may framed there is =
    let touch : Touch = record { root = q.root; field = place; point = n; access = a } in
    let f = Has-from_list_any (is_need y p.place place a) y.needs (subst (λ r. MayDo (Some y) r place a) p.named may p.place p.up p.below) in
    let d = f.0 in
    let one = and_parts (is_part y p.place d.param) ((d.field == place) && allows d.mode a) f.2 in
    let two = and_parts (d.field == place) (allows d.mode a) one.1 in
    let lies = (part_lies y x.args p.place d.param (subst (λ t. AreParts x.args (pairs_taken t)) e framed.parts) one.0).1 q.root n
    (p.within.1 q.root n (refl, there)) in
    framed.given d (subst (λ t. Contains (needs_taken t) d) (sym e) (Contains-from_Has y.needs d f.1)) touch
    (and_from (d.field == place) _ two.0 (and_from (allows d.mode a) _ two.1
    (and_from ((given_region x.args d.param).root == q.root) _ (eq-eqb (given_region x.args d.param).root q.root lies.0) lies.1))) is

-- a value of a region's type is a region
pub a_region_there : (t : StaticType) (v : Value) → IsRegion t → IsOf t v → (q : Region) × (region_of v ≡ q) × (v ≡ a_region q)
a_region_there _ _ (a_region_type k sp args r) (of_region _ _ _ _ q) = (q, refl, refl)

pub region_lies_in : (x : Setting) (store : Store) (t : StaticType) (q : Region) → IsRegion t → IsInside x store t (a_region q) →
    LiesIn x.code store (space_in t) q
region_lies_in x store _ q (a_region_type k sp args r) l = l.0

pub region_had : (x : Setting) (store : Store) (t : StaticType) (q : Region) → IsRegion t → IsInside x store t (a_region q) → IsHad x (term_in t) q
region_had x store _ q (a_region_type k sp args r) l = l.1

-- a field of a field space has a kind in the code
pub field_there : (code : Code) (tree : Tree) (sp place : ℕ) → code.spaces ≡ map space_code (spaces_of tree) →
    place < length (space_at tree sp).fields → place < length (kinds_of code sp)
field_there code tree sp place spaces low =
    subst (λ k. place < k) (sym (length-map (space_at tree sp).fields (λ (p : Param). kind_said p.term)) ∙ sym (ap length (kinds_are code tree sp spaces))) low

pub region_covered : (x : Setting) (store : Store) (m : Memory) (own : List RootId) (t : StaticType) (q : Region) (place n : ℕ) (a : Mode) →
    IsRegion t → IsInside x store t (a_region q) → MayDo x.forms.takes (term_in t) place a → IsFramed x store own m →
    has q.points n ≡ true → place < length (kinds_of x.code (space_in t)) →
    IsCovered m.contents m.needs (record { root = q.root; field = place; point = n; access = a })
region_covered x store m own _ q place n a (a_region_type k sp args r) l may framed e low =
    touch_covered x store m own r q place n a x.forms.takes refl l.1 may framed e (l.0.points place n low e)

pub reached : (x : Setting) (params slots : ℕ) {deep : ℕ} (aside : Aside deep) (h : Here) (s : State) (i : Instance) (q : Region)
    (t : StaticType) → IsRegion t → (place n : ℕ) (a : Mode) → Agrees x params slots aside h s i →
    IsInside x s.store t (a_region q) → MayDo x.forms.takes (term_in t) place a →
    place < length (space_at h.tree (space_in t)).fields → has q.points n ≡ true →
    Reached x h.tree i s.store q (space_in t) place n a
reached x params slots aside h s i q t region place n a g l may field e =
    let sp = space_in t in
    let lies = region_lies_in x s.store t q region l in
    let low = field_there x.code h.tree sp place g.spaces field in record {
      small = lies.small n e;
      there = lies.points place n low e;
      of_space = lies.of_space;
      covers = region_covered x s.store (memory_of i) i.frame.own t q place n a region l may g.framed e low;
      kind_is = ap (λ (s : Shape). get_or (kinds_of x.code s.space) place Truth) (g.memory.stands.shape q.root)
          ∙ ap (λ k. get_or (kinds_of x.code k) place Truth) lies.of_space
          ∙ ap (λ ks. get_or ks place Truth) (kinds_are x.code h.tree sp g.spaces) ∙ kind_in h.tree sp place;
    }
