-- A part of a partition that has a name, as an argument: which region it is, and for what its colour stands.
use Rattle.std.proofs.Common.{◌≡◌, ℕ, suc, ◌<◌, ℤ, pos, negsuc, List, [], ◌∷◌, Bool, true, false, Option, Some, None, refl, sym, ap, ◌∙◌, subst, arith, ◌≤◌}
use Rattle.std.specs.Prelude.{get_or, length, map, nat_lt, option_map, slice_get}
use Rattle.std.proofs.lemmas.Bool.{ltb-false, ltb-true}
use Rattle.std.proofs.lemmas.List.Elements.{All-contains, All-from_get_or}
use Rattle.std.proofs.lemmas.Option.{none-some, same_Some, slice_get-get_or, slice_get-map, slice_get_past}
use Rattle.plain_values.specs.Points.{has}
use Rattle.point_sets.proofs.Rising.{Contains-from_has, has_get_or, within_each}
use Rattle.partitions.specs.Laws.{ArePartsOf}
use Rattle.check_laws.proofs.Scopes.{found_by_number}
use Rattle.regent_tree.specs.declared.typing.Bound.{Bound}
use Rattle.regent_tree.proofs.Laws.{expressions_keep_names}
use Rattle.regent_tree.specs.Accesses.{space_in, standing, take_child, take_element}
use Rattle.regent_tree.specs.Evaluation.{stepped, value}
use Rattle.regent_tree.specs.Laws.{Leaves, SameNames}
use Rattle.regent_tree.specs.Running.{Here, Result, State, and_then, fails, fault, given, gives, if_true}
use Rattle.regent_tree.specs.Scopes.{bound_as, bound_to}
use Rattle.regent_tree.specs.Store.{Store, column, no_root}
use Rattle.regent_tree.specs.Syntax.{Expression, Name, access_expr, at_step, call_expr, cast_expr, chain_expr, convert_expr, field_step, is_null_expr, no_step, null_expr, number_expr, prefix_expr, space_expr, truth_expr}
use Rattle.regent_tree.specs.Typing.{counting_as, parent_of}
use Rattle.regent_tree.specs.Values.{Partition, Region, Value, a_number, a_partition, a_pointer, a_region, a_space, a_truth, an_index, null_target, number_of, point_target}
use Rattle.regent_tree.specs.declared.outcome.FaultKind.TheVariants.{BadColor}
use Rattle.regent_tree.specs.declared.typing.StaticType.{StaticType}
use Rattle.task_code.specs.declared.code.Code.{Code}
use Rattle.task_code.specs.declared.instr.Instr.TheVariants as instr
use Rattle.machine_terms.specs.Machine.{on_number}
use Rattle.machine_terms.specs.Makes.{region_with}
use Rattle.machine_terms.specs.Regions.{child_at, coloured, partition_in, with_partition}
use Rattle.machine_terms.specs.Segments.{act}
use Rattle.machine_terms.specs.declared.order.Ended.TheVariants.{Broke}
use Rattle.machine_terms.specs.declared.order.Instance.{Instance}
use Rattle.machine_terms.specs.declared.order.Resumed.TheVariants.{IsOver}
use Rattle.machine_terms.specs.declared.value.PartitionValue.{PartitionValue}
use Rattle.machine_terms.specs.declared.value.RegionValue.{RegionValue}
use Rattle.machine_terms.specs.declared.value.Value.{Value as MachineValue}
use Rattle.machine_terms.specs.declared.value.Value.TheVariants as machine
use Rattle.memory_laws.specs.Places.{number_at}
use Rattle.code_rules.specs.Expressions.{expr_code, steps_code}
use Rattle.code_rules.specs.Instructions.{load_code, standing_code}
use Rattle.code_rules.specs.Pieces.{op, past, ◌⨟◌}
use Rattle.code_rules.specs.Slots.{Where, bound, own_slot, slot, typed}
use Rattle.code_laws.specs.Arguments.{IsCutName}
pub use Rattle.code_laws.specs.Coloured.{part_at_colour, point_of}
use Rattle.code_laws.specs.Pointers.{IsCounting, IsCut, IsOfPart, IsPointed}
use Rattle.code_laws.specs.Simple.{IsNumber, IsPartition, a_partition_type, number_index, number_integer}
use Rattle.code_laws.specs.Standing.{Agrees, Aside, Comes, IsInside, IsOf, LiesIn, SlotsFit, Stands, nothing, of_index, of_integer, of_partition, where_of}
use Rattle.code_laws.specs.Steps.{Setting, machine_of, on_step, placed}
use Rattle.code_laws.proofs.Counting.{stands_runs}
use Rattle.code_laws.proofs.Cuts.{value_there}
use Rattle.code_laws.proofs.Good.{Gives, Good, valued}
use Rattle.code_laws.proofs.Knowing.{GivesOnly, then_known}
use Rattle.code_laws.proofs.Pointing.{named_pointed, numbered}
use Rattle.code_laws.proofs.Runs.{comes_said, ends_by, leads_by}
use Rattle.code_laws.proofs.Values.{named}
use Rattle.code_laws.proofs.Wider.{counted}

-- ---- for what a colour stands

-- a number, or the one for which a name's value stands
abbrev pub colour_seen : Here → Expression → List Value → Option ℤ
colour_seen h (number_expr z w) names = Some z
colour_seen h (access_expr n no_step) names = Some (point_of (get_or names (bound_to h.scope.names n).place nothing))
colour_seen h e names = None

-- that is what stands for it
standing_point : (h : Here) (v : Value) (s : State) → GivesOnly (λ z t. (t ≡ s) × (number_of z ≡ point_of v)) (standing h v s)
standing_point h (a_number w z) s = (refl, refl)
standing_point h (a_truth b) s = (refl, refl)
standing_point h (an_index z) s = (refl, refl)
standing_point h (a_pointer null_target rs) s = tt
standing_point h (a_pointer (point_target n i) rs) s = (refl, refl)
standing_point h (a_space n) s = (refl, refl)
standing_point h (a_region q) s = (refl, refl)
standing_point h (a_partition q) s = (refl, refl)

none_seen : (r : Result Value) → GivesOnly (λ v t. (y : ℤ) → None ≡ Some y → y ≡ point_of v) r
none_seen (gives v t) = λ y e. absurd (none-some y e)
none_seen (fails f t) = tt

colour_known : (h : Here) (e : Expression) (s : State) →
    GivesOnly (λ v t. (y : ℤ) → colour_seen h e s.names ≡ Some y → y ≡ point_of v) (value h e s)
colour_known h (number_expr z w) s = λ y e. sym (same_Some z y e)
colour_known h (access_expr n no_step) s = λ y e. sym (same_Some (point_of (get_or s.names (bound_to h.scope.names n).place nothing)) y e)
colour_known h (access_expr n (field_step f rest)) s = none_seen (value h (access_expr n (field_step f rest)) s)
colour_known h (access_expr n (at_step e rest)) s = none_seen (value h (access_expr n (at_step e rest)) s)
colour_known h (truth_expr b) s = none_seen (value h (truth_expr b) s)
colour_known h (chain_expr first rest) s = none_seen (value h (chain_expr first rest) s)
colour_known h (prefix_expr signs e) s = none_seen (value h (prefix_expr signs e) s)
colour_known h (call_expr task args) s = none_seen (value h (call_expr task args) s)
colour_known h (convert_expr t e) s = none_seen (value h (convert_expr t e) s)
colour_known h (is_null_expr e) s = none_seen (value h (is_null_expr e) s)
colour_known h (null_expr t) s = none_seen (value h (null_expr t) s)
colour_known h (cast_expr t e) s = none_seen (value h (cast_expr t e) s)
colour_known h (space_expr k e) s = none_seen (value h (space_expr k e) s)

with_names : {A : Type 0} (Q : A → State → Type 0) (s : State) (r : Result A) → Leaves SameNames s r → GivesOnly Q r →
    GivesOnly (λ a t. (t.names ≡ s.names) × Q a t) r
with_names Q s (gives a t) same q = (same, q)
with_names Q s (fails f t) same q = tt

-- ---- parts

-- a value is a part of the partition that a name has, and where it can be told of which colour, it is of that one
pub record IsColoured (h : Here) (n : Name) (e : Expression) (v : Value) (names : List Value) : Type 0 where
  pub partition : Partition
  pub has_it : get_or names (bound_to h.scope.names n).place nothing ≡ a_partition partition
  pub colour : ℕ
  pub low : colour < length partition.sets
  pub is : v ≡ a_region (part_at_colour partition colour)
  pub seen : (y : ℤ) → colour_seen h e names ≡ Some y → y ≡ pos colour

module _ (x : Setting) (params slots : ℕ) (fit : SlotsFit x slots) {deep : ℕ} (aside : Aside deep) where
  abbrev pub GoodPart : Here → Name → Expression → Value → State → Instance → Type 0
  GoodPart h n e v s j = IsColoured h n e v s.names × Agrees x params slots aside h s j

  -- the part is taken by the number that stands for its colour
  child_runs : (h : Here) (n : Name) (e : Expression) (p a : ℕ) (q : Partition) (y : ℤ) (names : List Value) (s : State) (st : List MachineValue)
      (j : Instance) → get_or names p nothing ≡ a_partition q → (bound_to h.scope.names n).place ≡ p → p < length names → s.names ≡ names →
      ((z : ℤ) → colour_seen h e names ≡ Some z → z ≡ y) → Agrees x params slots aside h s j →
      Stands x.body a (op (instr.Child (slot (where_of params h) p)) h.line) →
      Comes x (placed a (machine.Number y ∷ st) j) (valued (suc a) st) (GoodPart h n e)
      (and_then (take_child h q y s) (λ u. given u))
  child_runs h n e p a q y names s st j is place low same seen g f = by_sign y seen
    where
      sl : ℕ
      sl = slot (where_of params h) p

      children : List RegionValue
      children = map (region_with (number_at j.contents q.root)) q.sets

      acts : (y : ℤ) → on_step x (placed a (machine.Number y ∷ st) j) (act x.code x.body (instr.Child sl) h.line (machine_of (placed a (machine.Number y ∷ st) j)))
          ≡ on_step x (placed a (machine.Number y ∷ st) j) (child_at (coloured children y) h.line st (machine_of (placed a (machine.Number y ∷ st) j)))
      acts y =
          let k = placed a (machine.Number y ∷ st) j in
          let m = machine_of k in
          ap (λ o. on_step x k (with_partition (partition_in o) m (λ (q : PartitionValue). on_number m.frame.stack m (λ z st.
          child_at (coloured q.children z) h.line st m))))
          (value_there x params slots fit aside h s j p (a_partition q) (ap (λ ns. get_or ns p nothing) same ∙ is)
          (subst (λ ns. p < length ns) (sym same) low) (omega (arith, fit a _ f)) g)

      found : (c : ℕ) → slice_get children c ≡ option_map (region_with (number_at j.contents q.root)) (slice_get q.sets c)
      found c = slice_get-map (region_with (number_at j.contents q.root)) q.sets c

      by_sign : (y : ℤ) → ((z : ℤ) → colour_seen h e names ≡ Some z → z ≡ y) →
          Comes x (placed a (machine.Number y ∷ st) j) (valued (suc a) st) (GoodPart h n e) (and_then (take_child h q y s) (λ u. given u))
      by_sign (negsuc c) seen = ends_by x _ _ (instr.Child sl) h.line f
          (acts (negsuc c) ∙ ap (λ t. IsOver (Broke (Some (record { kind = BadColor; line = h.line })) t)) g.text)
      by_sign (pos c) seen = by (nat_lt c (length q.sets)) refl
        where
          by : (b : Bool) → nat_lt c (length q.sets) ≡ b →
              Comes x (placed a (machine.Number (pos c) ∷ st) j) (valued (suc a) st) (GoodPart h n e)
              (and_then (if_true b (given (a_region (part_at_colour q c))) (fault h BadColor) s) (λ u. given u))
          by true less =
              let k = placed a (machine.Number (pos c) ∷ st) j in
              let under : c < length q.sets = ltb-true c (length q.sets) less in (
                j,
                leads_by x k _ (instr.Child sl) h.line f (acts (pos c)
                    ∙ ap (λ o. on_step x k (child_at o h.line st (machine_of k)))
                    (found c ∙ ap (option_map (region_with (number_at j.contents q.root))) (slice_get-get_or q.sets c [] under))),
                (
                  record {
                    partition = q;
                    has_it = ap (λ k. get_or s.names k nothing) place ∙ ap (λ ns. get_or ns p nothing) same ∙ is;
                    colour = c;
                    low = under;
                    is = refl;
                    seen = λ z d. seen z (ap (colour_seen h e) (sym same) ∙ d);
                  },
                  g,
                ),
              )
          by false less =
              let k = placed a (machine.Number (pos c) ∷ st) j in
              let over : length q.sets ≤ c = ltb-false c (length q.sets) less in
              ends_by x k _ (instr.Child sl) h.line f (acts (pos c)
              ∙ ap (λ o. on_step x k (child_at o h.line st (machine_of k)))
              (found c ∙ ap (option_map (region_with (number_at j.contents q.root))) (slice_get_past q.sets c over))
              ∙ ap (λ t. IsOver (Broke (Some (record { kind = BadColor; line = h.line })) t)) g.text)

  -- `p[e]`, by the type of p
  pub steps_run : (h : Here) (d : ℕ) (t : StaticType) (p : ℕ) (v : Value) (n : Name) (e : Expression) (s : State) (pc : ℕ) (st : List MachineValue)
      (i : Instance) → IsPartition t → IsOf t v → get_or s.names p nothing ≡ v → (bound_to h.scope.names n).place ≡ p → p < length s.names →
      ((pc : ℕ) → Stands x.body pc (expr_code (where_of params h) d e) →
      Gives x params slots fit aside h (typed (where_of params h) e) (expr_code (where_of params h) d e) pc st st i (value h e s)) →
      IsCounting (typed (where_of params h) e) →
      Stands x.body pc (load_code (where_of params h) t (slot (where_of params h) p) (at_step e no_step)
      ⨟ steps_code (where_of params h) d t (own_slot (where_of params h) t p) (at_step e no_step)) →
      Comes x (placed pc st i)
      (valued (past (load_code (where_of params h) t (slot (where_of params h) p) (at_step e no_step)
      ⨟ steps_code (where_of params h) d t (own_slot (where_of params h) t p) (at_step e no_step)) pc) st) (GoodPart h n e)
      (stepped h t v (at_step e no_step) s)
  steps_run h d _ p _ n e s pc st i (a_partition_type c r own) (of_partition _ _ _ q) is place low runs index stands =
      let w = where_of params h in
      let ty = typed w e in
      let shape = valued (suc (past (standing_code w ty) (past (expr_code w d e) pc))) st in
      let said = comes_said x shape (GoodPart h n e) in
      then_known x _ said (λ (v : Value) (t : State). (t.names ≡ s.names) × ((y : ℤ) → colour_seen h e s.names ≡ Some y → y ≡ point_of v))
      (valued (past (expr_code w d e) pc) st) (Good x params slots fit aside h ty) (placed pc st i) (value h e s) _
      (with_names (λ v t. (y : ℤ) → colour_seen h e s.names ≡ Some y → y ≡ point_of v) s (value h e s) (expressions_keep_names h e s) (colour_known h e s))
      (runs pc stands.1.0)
      (λ v s1 j k g. then_known x _ said (λ (z : Value) (t : State). (t ≡ s1) × (number_of z ≡ point_of v)) _ (Good x params slots fit aside h (counting_as ty)) _
      (standing h v s1) _ (standing_point h v s1)
      (stands_runs x params slots fit aside h ty v s1 _ st j index g.0 g.1 stands.1.1.0)
      (λ z s2 j2 k2 g2. by_number (counting_as ty) z (counted ty index) g2.0 s2 j2 (ap (λ (u : State). u.names) k2.0 ∙ k.0)
      (λ y d. k.1 y d ∙ sym k2.1) g2.1 (past (standing_code w ty) (past (expr_code w d e) pc)) stands.1.1.1.0))
    where
      by_number : (u : StaticType) (z : Value) → IsNumber u → IsOf u z → (s2 : State) (j2 : Instance) → s2.names ≡ s.names →
          ((y : ℤ) → colour_seen h e s.names ≡ Some y → y ≡ number_of z) → Agrees x params slots aside h s2 j2 → (a : ℕ) →
          Stands x.body a (op (instr.Child (slot (where_of params h) p)) h.line) →
          Comes x (valued a st z j2) (valued (suc a) st) (GoodPart h n e) (and_then (take_element h (number_of z) (a_partition q) s2) (λ u. given u))
      by_number _ _ (number_integer w) (of_integer _ z _) s2 j2 same seen g a f =
          child_runs h n e p a q z s.names s2 st j2 is place low same seen g f
      by_number _ _ (number_index k) (of_index _ z _) s2 j2 same seen g a f =
          child_runs h n e p a q z s.names s2 st j2 is place low same seen g f

  -- so for a name
  pub part_runs : (h : Here) (d : ℕ) (n : Name) (e : Expression) (s : State) (pc : ℕ) (st : List MachineValue) (i : Instance) →
      IsCutName (where_of params h) n → ((pc : ℕ) → Stands x.body pc (expr_code (where_of params h) d e) →
      Gives x params slots fit aside h (typed (where_of params h) e) (expr_code (where_of params h) d e) pc st st i (value h e s)) →
      IsCounting (typed (where_of params h) e) → Agrees x params slots aside h s i →
      Stands x.body pc (expr_code (where_of params h) d (access_expr n (at_step e no_step))) →
      Comes x (placed pc st i) (valued (past (expr_code (where_of params h) d (access_expr n (at_step e no_step))) pc) st) (GoodPart h n e)
      (value h (access_expr n (at_step e no_step)) s)
  part_runs h d n e s pc st i cut runs index g stands =
      let b = bound_to h.scope.names n in
      let m = named IsOf h.scope.names s.names n g.typed cut.named in
      steps_run h d b.static_type b.place (get_or s.names b.place nothing) n e s pc st i cut.partition m.holding refl refl
      (omega (arith, m.below, g.count)) runs index stands

  -- ---- what is known of parts

  -- the region of which a name's partition is
  pub cut_of : (h : Here) (s : State) (i : Instance) (n : Name) (q : Partition) → IsCutName (where_of params h) n →
      get_or s.names (bound_to h.scope.names n).place nothing ≡ a_partition q → Agrees x params slots aside h s i →
      IsCut h.scope.names s.names (parent_of (bound_to h.scope.names n).static_type) q
  cut_of h s i n q cut is g =
      subst (IsPointed h.scope.names s.names (bound_to h.scope.names n).static_type) is
      (named_pointed h.scope.next h.scope.names s.names n cut.numbers g.pointed cut.named)

  pub parent_inside : (h : Here) (s : State) (i : Instance) (r : ℕ) (q : Partition) (c : IsCut h.scope.names s.names r q) →
      Agrees x params slots aside h s i → IsInside x s.store (bound_as h.scope.names r).static_type (a_region c.parent)
  parent_inside h s i r q c g =
      subst (IsInside x s.store (bound_as h.scope.names r).static_type) c.is.value
      (numbered (IsInside x s.store) h.scope.names s.names r g.inside_store c.is.region).0

-- a part's points are among the whole's
pub part_within : (parent : List ℕ) (sets : List (List ℕ)) (c n : ℕ) → ArePartsOf parent sets → c < length sets → has (get_or sets c []) n ≡ true →
    has parent n ≡ true
part_within parent sets c n parts low e = within_each (get_or sets c []) parent (parts c [] low).1 n e

-- a part lies in its root too
pub part_lies_in : (code : Code) (store : Store) (sp : ℕ) (parent : Region) (q : Partition) (c : ℕ) → q.root ≡ parent.root →
    ArePartsOf parent.points q.sets → c < length q.sets → LiesIn code store sp parent → LiesIn code store sp (part_at_colour q c)
part_lies_in code store sp parent q c root parts low l = record {
  there = subst (λ r. r < length store) (sym root) l.there;
  of_space = ap (λ r. (get_or store r no_root).space) root ∙ l.of_space;
  points = λ f n few e. subst (λ r. n < length (column store r f)) (sym root) (l.points f n few (part_within parent.points q.sets c n parts low e));
  small = λ n e. l.small n (part_within parent.points q.sets c n parts low e);
  set = record {
    rising = (parts c [] low).0;
    below = All-from_get_or (λ y. y < 4194304) (get_or q.sets c []) 0 (λ k under.
        let y = get_or (get_or q.sets c []) k 0 in
        All-contains (λ y. y < 4194304) parent.points y l.set.below
        (Contains-from_has parent.points y (part_within parent.points q.sets c y parts low (has_get_or (get_or q.sets c []) k under))));
  };
}

-- a part lies within the region of which its partition is
pub part_of_name : (w : Where) (names : List Value) (n : Name) (q : Partition) (c : ℕ) → IsCutName w n → c < length q.sets →
    IsCut w.scope.names names (parent_of (bound w n).static_type) q →
    IsOfPart w.scope.names (bound_as w.scope.names (bound w n).number) (length w.scope.names) names
    (space_in (bound_as w.scope.names (parent_of (bound w n).static_type)).static_type) (bound w n).number (part_at_colour q c)
part_of_name w names n q c cut low is =
    subst (λ (b : Bound). IsOfPart w.scope.names b (length w.scope.names) names
    (space_in (bound_as w.scope.names (parent_of (bound w n).static_type)).static_type) (bound w n).number (part_at_colour q c))
    (sym (found_by_number w.scope.next w.scope.names n cut.numbers cut.named).0)
    (record {
      numbered = refl;
      partition = cut.partition;
      parent = is.parent;
      is = is.is;
      root = is.root;
      within = λ k e. part_within is.parent.points q.sets c k is.sets low e;
    })
