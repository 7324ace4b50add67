-- Elements of a part that has no name: it is put aside, and is there still when the second index has been computed.
use Rattle.std.proofs.Common.{◌≡◌, ℕ, suc, ◌^◌, ◌<◌, ◌≤◌, List, [], ◌∷◌, true, refl, sym, ap, ◌∙◌, subst, arith}
use Rattle.std.specs.Prelude.{get_or, length}
use Rattle.std.proofs.lemmas.List.{get_or-set_same}
use Rattle.plain_values.specs.Points.{has}
use Rattle.regent_tree.proofs.Laws.{expressions_keep_names}
use Rattle.regent_tree.specs.Accesses.{space_in, standing, take_element}
use Rattle.regent_tree.specs.Evaluation.{stepped, value}
use Rattle.regent_tree.specs.Running.{Here, Result, Run, State, and_then, fails, given, gives}
use Rattle.regent_tree.specs.Scopes.{bound_as, bound_to}
use Rattle.regent_tree.specs.Syntax.{Expression, Name, Steps, access_expr, at_step, no_step}
use Rattle.regent_tree.specs.Typing.{parent_of, type_of_element}
use Rattle.regent_tree.specs.Values.{Partition, Region, Value, a_partition, a_pointer, a_region, kept_target, number_of, point_target}
use Rattle.regent_tree.specs.declared.typing.StaticType.{StaticType}
use Rattle.regent_tree.specs.declared.typing.StaticType.TheVariants.{Partition as partition_type}
use Rattle.task_code.specs.declared.code.Line.{Line}
use Rattle.machine_terms.specs.declared.order.Instance.{Instance}
use Rattle.machine_terms.specs.declared.value.Value.{Value as MachineValue}
use Rattle.machine_terms.specs.declared.value.Value.TheVariants as machine
use Rattle.memory_laws.specs.Places.{number_at}
use Rattle.code_rules.specs.Expressions.{expr_code, steps_code}
use Rattle.code_rules.specs.Instructions.{load_code, slot_after, standing_code}
use Rattle.code_rules.specs.Pieces.{past, ◌⨟◌}
use Rattle.code_rules.specs.Slots.{Where, own_slot, slot, spare, typed}
use Rattle.code_laws.specs.Arguments.{IsCutName}
use Rattle.code_laws.specs.Pointers.{IsCounting, IsOfPart}
use Rattle.code_laws.specs.Simple.{IsPartition, IsRegion, a_partition_type, a_region_type}
use Rattle.code_laws.specs.Standing.{Agrees, Aside, IsOf, LiesIn, SlotsFit, Stands, blank, machine_value, nothing, of_partition, where_of}
use Rattle.code_laws.specs.Steps.{Setting, placed}
use Rattle.code_laws.specs.Typed.{IsPiece}
use Rattle.code_laws.proofs.Accesses.{HasRegion}
use Rattle.code_laws.proofs.Good.{Gives, valued}
use Rattle.code_laws.proofs.Handing.{part_stays}
use Rattle.code_laws.proofs.Parts.{GoodPart, cut_of, parent_inside, part_at_colour, part_lies_in, part_of_name, steps_run}
use Rattle.code_laws.proofs.Reaching.{region_lies_in}
use Rattle.code_laws.proofs.Results.{spare_stored}
use Rattle.code_laws.proofs.Runs.{Said, then}
use Rattle.code_laws.proofs.States.{ready_value, stored, stores}
use Rattle.code_laws.proofs.Through.{region_slot_there}
use Rattle.code_laws.proofs.Values.{named}
use Rattle.code_laws.proofs.Writes.{element_points}

-- ---- what goes on behind a step

module _ (h : Here) {B : Type 0} (K : Value → Run B) where
  -- what goes on behind a step goes on behind the steps up to it
  given_on : (r : Result Value) → and_then (and_then r (λ y. given y)) K ≡ and_then r K
  given_on (gives y s) = refl
  given_on (fails e s) = refl

  take_on : (v : Value) (r : Result Value) →
      and_then (and_then r (λ z. λ s. and_then (take_element h (number_of z) v s) (λ y. given y))) K
      ≡ and_then r (λ z. λ s. and_then (take_element h (number_of z) v s) K)
  take_on v (gives z s) = given_on (take_element h (number_of z) v s)
  take_on v (fails e s) = refl

  at_on : (v : Value) (r : Result Value) →
      and_then (and_then r (λ w. λ s. and_then (standing h w s) (λ z. λ s1. and_then (take_element h (number_of z) v s1) (λ y. given y)))) K
      ≡ and_then r (λ w. λ s. and_then (standing h w s) (λ z. λ s1. and_then (take_element h (number_of z) v s1) K))
  at_on v (gives w s) = take_on v (standing h w s)
  at_on v (fails e s) = refl

-- so behind two
module _ (h : Here) (t : StaticType) (e i : Expression) {B : Type 0} (K : Value → Run B) where
  split_on : (r : Result Value) →
      and_then (and_then r (λ u. stepped h (type_of_element h.scope t e) u (at_step i no_step))) K
      ≡ and_then r (λ u. λ s. and_then (stepped h (type_of_element h.scope t e) u (at_step i no_step) s) K)
  split_on (gives u s) = refl
  split_on (fails f s) = refl

  pub elements_split : (v : Value) (s : State) →
      and_then (stepped h t v (at_step e (at_step i no_step)) s) K
      ≡ and_then (stepped h t v (at_step e no_step) s) (λ u. λ s. and_then (stepped h (type_of_element h.scope t e) u (at_step i no_step) s) K)
  elements_split v s =
      ap (λ r. and_then r K) (sym (at_on h (λ u. stepped h (type_of_element h.scope t e) u (at_step i no_step)) v (value h e s)))
      ∙ split_on (stepped h t v (at_step e no_step) s)

module _ (h : Here) (t : StaticType) (e i : Expression) (rest : Steps) where
  -- the steps behind the two
  abbrev pub after : Value → Run Value
  after u = stepped h (type_of_element h.scope (type_of_element h.scope t e) i) u rest

  second_on : (r : Result Value) →
      and_then r (λ u. λ s. and_then (stepped h (type_of_element h.scope t e) u (at_step i no_step) s) after)
      ≡ and_then r (λ u. stepped h (type_of_element h.scope t e) u (at_step i rest))
  second_on (gives u s) = at_on h after u (value h i s)
  second_on (fails f s) = refl

  pub elements_on : (v : Value) (s : State) →
      and_then (stepped h t v (at_step e (at_step i no_step)) s) after ≡ stepped h t v (at_step e (at_step i rest)) s
  elements_on v s = elements_split h t e i after v s ∙ second_on (stepped h t v (at_step e no_step) s)
      ∙ at_on h (λ u. stepped h (type_of_element h.scope t e) u (at_step i rest)) v (value h e s)

-- ---- the code of the second step

-- it goes through the slot in which the part is, and so does what comes behind it
pub record Second (body : List Line) (w : Where) (d : ℕ) (rt : StaticType) (sl : ℕ) (i : Expression) (rest : Steps) (pc : ℕ) : Type 0 where
  pub element : Stands body pc (steps_code w d rt sl (at_step i no_step))
  pub behind : Stands body (past (steps_code w d rt sl (at_step i no_step)) pc) (steps_code w (suc d) (type_of_element w.scope rt i) sl rest)
  pub ends : past (steps_code w (suc d) (type_of_element w.scope rt i) sl rest) (past (steps_code w d rt sl (at_step i no_step)) pc)
      ≡ past (steps_code w d rt sl (at_step i rest)) pc

second_stands : (body : List Line) (w : Where) (d : ℕ) (rt : StaticType) (sl : ℕ) (i : Expression) (rest : Steps) (pc : ℕ) → IsRegion rt →
    Stands body pc (steps_code w d rt sl (at_step i rest)) → Second body w d rt sl i rest pc
second_stands body w d _ sl i rest pc (a_region_type k sp args r) f =
    record { element = (f.0, (f.1.0, (f.1.1.0, (f.1.1.1.0, tt)))); behind = f.1.1.1.1; ends = refl }

pub slot_put : (w : Where) (d : ℕ) (t rt : StaticType) (s : ℕ) → IsPartition t → IsRegion rt → slot_after w (suc d) rt (slot_after w d t s) ≡ spare w d
slot_put w d _ _ s (a_partition_type c r own) (a_region_type k sp args u) = refl

-- ---- what is put aside

module _ (x : Setting) (params slots : ℕ) (fit : SlotsFit x slots) {deep : ℕ} (aside : Aside deep) where
  -- the spare slots up to a depth stay as they are
  abbrev pub deeper : Here → (d : ℕ) → Instance → Aside (suc d)
  deeper h d i = record {
    upto = aside.upto;
    slots = aside.slots;
    names = aside.names;
    turns = aside.turns;
    held = λ k. get_or i.frame.slots (spare (where_of params h) k) blank;
  }

  pub held_deeper : (h : Here) (d : ℕ) (s : State) (i : Instance) → Agrees x params slots aside h s i → Agrees x params slots (deeper h d i) h s i
  held_deeper h d s i g = record {
    names = g.names;
    hidden = g.hidden;
    held = λ k l. refl;
    typed = g.typed;
    inside_store = g.inside_store;
    pointed = g.pointed;
    steady = g.steady;
    under = g.under;
    besides = g.besides;
    count = g.count;
    inside = g.inside;
    slots_are = g.slots_are;
    turns = g.turns;
    bound = g.bound;
    text = g.text;
    ready = g.ready;
    calls = g.calls;
    result_is = g.result_is;
    answers = g.answers;
    spaces = g.spaces;
    tree_is = g.tree_is;
    memory = g.memory;
    framed = g.framed;
  }

  -- so what was put aside before is there still
  pub held_still : (h : Here) (d : ℕ) (s t : State) (i j : Instance) → deep ≤ d → Agrees x params slots aside h s i →
      Agrees x params slots (deeper h d i) h t j → Agrees x params slots aside h t j
  held_still h d s t i j low before g = record {
    names = g.names;
    hidden = g.hidden;
    held = λ k l. g.held k (omega (arith, l, low)) ∙ before.held k l;
    typed = g.typed;
    inside_store = g.inside_store;
    pointed = g.pointed;
    steady = g.steady;
    under = g.under;
    besides = g.besides;
    count = g.count;
    inside = g.inside;
    slots_are = g.slots_are;
    turns = g.turns;
    bound = g.bound;
    text = g.text;
    ready = g.ready;
    calls = g.calls;
    result_is = g.result_is;
    answers = g.answers;
    spaces = g.spaces;
    tree_is = g.tree_is;
    memory = g.memory;
    framed = g.framed;
  }

  -- ---- elements

  -- what is known of a part in a spare slot
  pub record IsPut (h : Here) (n : Name) (d : ℕ) (q : Region) (s : State) (j : Instance) : Type 0 where
    pub there : HasRegion j (spare (where_of params h) d) q
    pub small : (m : ℕ) → has q.points m ≡ true → m < 2 ^ 32
    pub low : q.root < length s.store
    pub lies : IsOfPart h.scope.names (bound_as h.scope.names (bound_to h.scope.names n).number) (length h.scope.names) s.names
        (space_in (bound_as h.scope.names (parent_of (bound_to h.scope.names n).static_type)).static_type) (bound_to h.scope.names n).number q

  -- the second index runs, whatever stays aside
  abbrev pub RunsDeeper : Here → ℕ → Expression → List MachineValue → Type 0
  RunsDeeper h d i st = (more : Aside (suc d)) (s : State) (j : Instance) (pc : ℕ) → Agrees x params slots more h s j →
      Stands x.body pc (expr_code (where_of params h) (suc d) i) →
      Gives x params slots fit more h (typed (where_of params h) i) (expr_code (where_of params h) (suc d) i) pc st st j (value h i s)

  -- a part of a name's partition lies in the store
  part_lies : (h : Here) (n : Name) (c : ℕ) (q : Partition) (s : State) (j : Instance) → IsCutName (where_of params h) n →
      get_or s.names (bound_to h.scope.names n).place nothing ≡ a_partition q → c < length q.sets → Agrees x params slots aside h s j →
      LiesIn x.code s.store (space_in (bound_as h.scope.names (parent_of (bound_to h.scope.names n).static_type)).static_type) (part_at_colour q c)
      × IsOfPart h.scope.names (bound_as h.scope.names (bound_to h.scope.names n).number) (length h.scope.names) s.names
      (space_in (bound_as h.scope.names (parent_of (bound_to h.scope.names n).static_type)).static_type) (bound_to h.scope.names n).number
      (part_at_colour q c)
  part_lies h n c q s j cut has_it low g =
      let r = parent_of (bound_to h.scope.names n).static_type in
      let parent = (bound_as h.scope.names r).static_type in
      let is = cut_of x params slots fit aside h s j n q cut has_it g in (
        part_lies_in x.code s.store (space_in parent) is.parent q c is.root is.sets low
            (region_lies_in x s.store parent is.parent is.is.region (parent_inside x params slots fit aside h s j r q is g)),
        part_of_name (where_of params h) s.names n q c cut low is,
      )

  -- what comes next is shown where the code of the steps behind the two begins
  abbrev pub Behind : {B : Type 0} → (Instance → Result B → Type 0) → (Value → Run B) → Here → ℕ → Name → StaticType → Expression → Steps → ℕ → List MachineValue → Type 0
  Behind T K h d n rt i rest done st = (m : ℕ) (q : Region) (s1 : State) (j : Instance) (b : ℕ) → IsPut h n d q s1 j → has q.points m ≡ true →
      Agrees x params slots aside h s1 j → Stands x.body b (steps_code (where_of params h) (suc (suc d)) (type_of_element h.scope rt i) (spare (where_of params h) d) rest) →
      past (steps_code (where_of params h) (suc (suc d)) (type_of_element h.scope rt i) (spare (where_of params h) d) rest) b ≡ done →
      T (placed b (machine.Number (kept_target (point_target m 1)) ∷ st) j) (K (a_pointer (point_target m 1) (q ∷ [])) s1)

  -- The part is put aside, and what comes next finds it there, with a pointer to one of its points on the stack.
  points_by : {B : Type 0} {T : Instance → Result B → Type 0} → Said x T → (h : Here) (d : ℕ) (t : StaticType) (p : ℕ) (v : Value) (n : Name)
      (e i : Expression) (rest : Steps) (s : State) (pc : ℕ) (st : List MachineValue) (j0 : Instance) (K : Value → Run B) → deep ≤ d →
      params ≤ length h.scope.names → IsCutName (where_of params h) n → IsPartition t → IsOf t v → get_or s.names p nothing ≡ v →
      (bound_to h.scope.names n).place ≡ p → p < length s.names → IsRegion (type_of_element h.scope t e) →
      ((pc : ℕ) → Stands x.body pc (expr_code (where_of params h) d e) →
      Gives x params slots fit aside h (typed (where_of params h) e) (expr_code (where_of params h) d e) pc st st j0 (value h e s)) →
      IsCounting (typed (where_of params h) e) → RunsDeeper h d i st → IsCounting (typed (where_of params h) i) →
      Stands x.body pc (load_code (where_of params h) t (slot (where_of params h) p) (at_step e (at_step i rest))
      ⨟ steps_code (where_of params h) d t (own_slot (where_of params h) t p) (at_step e (at_step i rest))) →
      Behind T K h d n (type_of_element h.scope t e) i rest (past (load_code (where_of params h) t (slot (where_of params h) p) (at_step e (at_step i rest))
      ⨟ steps_code (where_of params h) d t (own_slot (where_of params h) t p) (at_step e (at_step i rest))) pc) st →
      T (placed pc st j0) (and_then (stepped h t v (at_step e (at_step i no_step)) s) K)
  points_by {T = T} said h d _ p _ n e i rest s pc st j0 K within low cut (a_partition_type c r own) (of_partition _ _ _ q0) is place below region runs index
      runs2 index2 stands more =
      let w = where_of params h in
      let t = partition_type c r own in
      let rt = type_of_element h.scope t e in
      let a = suc (past (standing_code w (typed w e)) (past (expr_code w d e) pc)) in
      let k = spare w d in
      subst (T (placed pc st j0)) (sym (elements_split h t e i K (a_partition q0) s))
      (then x said (valued a st) (GoodPart x params slots fit aside h n e) (placed pc st j0) (stepped h t (a_partition q0) (at_step e no_step) s) _
      (steps_run x params slots fit aside h d t p (a_partition q0) n e s pc st j0 (a_partition_type c r own) (of_partition c r own q0) is place below
      runs index (stands.0, (stands.1.0, (stands.1.1.0, (stands.1.1.1.0, (tt, tt))))))
      (λ u s1 j g.
      let q = part_at_colour g.0.partition g.0.colour in
      let m = machine_value j.contents (a_region q) in
      let j1 = stored k m j in
      let store_at = stands.1.1.1.1.0 in
      let second = second_stands x.body w (suc d) rt k i rest (suc a) region stands.1.1.1.1.1 in
      let g1 = spare_stored x params slots fit aside h s1 j d m low within (ready_value j.contents (a_region q)) g.1 in
      let here = (part_lies h n g.0.colour g.0.partition s1 j cut g.0.has_it g.0.low g.1).0 in
      subst (λ u. T (valued a st u j) (and_then (stepped h rt u (at_step i no_step) s1) K)) (sym g.0.is)
      (said.before (valued a st (a_region q) j) (placed (suc a) st j1) _ (stores x params slots fit k a h.line m st j g.1.slots_are store_at)
      (element_points x params slots fit (deeper h d j1) T said h (suc d) rt k i q s1 (suc a) st j1 K region
      (runs2 (deeper h d j1) s1 j1 (suc a) (held_deeper h d s1 j1 g1) stands.1.1.1.1.1.0) index2 (expressions_keep_names h i s1)
      (λ s2 j2 names grown g2.
      region_slot_there j2.frame.slots k (machine_value j2.contents (a_region q)) q (number_at j2.contents q.root) refl
      (g2.held d (omega arith) ∙ get_or-set_same j.frame.slots k m blank (omega (arith, fit a _ store_at, g.1.slots_are))
      ∙ part_stays x params slots fit aside h s1 j g.1 q here.there s2 j2 (held_still h d s1 s2 j1 j2 within g1 g2) grown))
      second.element
      (λ m s2 j2 names b there g2.
      let g3 = held_still h d s1 s2 j1 j2 within g1 g2 in
      let now = part_lies h n g.0.colour g.0.partition s2 j2 cut
      (ap (λ ns. get_or ns (bound_to h.scope.names n).place nothing) names ∙ g.0.has_it) g.0.low g3 in
      more m q s2 j2 _ (record { there = there; small = now.0.small; low = now.0.there; lies = now.1 }) b g3 second.behind second.ends)))))

  -- so for a name
  pub part_points : {B : Type 0} {T : Instance → Result B → Type 0} → Said x T → (h : Here) (d : ℕ) (n : Name) (e i : Expression) (rest : Steps) (s : State) (pc : ℕ)
      (st : List MachineValue) (j0 : Instance) (K : Value → Run B) → deep ≤ d → params ≤ length h.scope.names → IsPiece (where_of params h) n e →
      ((pc : ℕ) → Stands x.body pc (expr_code (where_of params h) d e) →
      Gives x params slots fit aside h (typed (where_of params h) e) (expr_code (where_of params h) d e) pc st st j0 (value h e s)) →
      IsCounting (typed (where_of params h) e) → RunsDeeper h d i st → IsCounting (typed (where_of params h) i) → Agrees x params slots aside h s j0 →
      Stands x.body pc (expr_code (where_of params h) d (access_expr n (at_step e (at_step i rest)))) →
      Behind T K h d n (type_of_element h.scope (bound_to h.scope.names n).static_type e) i rest
      (past (expr_code (where_of params h) d (access_expr n (at_step e (at_step i rest)))) pc) st →
      T (placed pc st j0) (and_then (value h (access_expr n (at_step e (at_step i no_step))) s) K)
  part_points said h d n e i rest s pc st j0 K within low piece runs index runs2 index2 g stands more =
      let b = bound_to h.scope.names n in
      let m = named IsOf h.scope.names s.names n g.typed piece.0.named in
      points_by said h d b.static_type b.place (get_or s.names b.place nothing) n e i rest s pc st j0 K within low piece.0 piece.0.partition m.holding refl refl
      (omega (arith, m.below, g.count)) piece.2 runs index runs2 index2 stands more
