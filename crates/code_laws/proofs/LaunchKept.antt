-- What is the same at each colour of a launch is computed once, as the parameter wants it, and waits in a slot of its own.
use Rattle.std.proofs.Common.{◌≡◌, ℕ, suc, ◌+◌, ◌<◌, ◌≤◌, List, [], ◌∷◌, ◌++◌, Bool, true, false, Some, inl, inr, refl, sym, ap, ◌∙◌, subst, arith}
use Rattle.std.specs.Prelude.{bytes_eq, cond, get_or, length, not, slice_set, ◌&&◌}
use Rattle.std.proofs.lemmas.Bool.{false≢true}
use Rattle.std.proofs.lemmas.List.{get_or-set_other, get_or-set_same}
use Rattle.std.proofs.Math.ListN.{get_or-append}
use Rattle.region_tree.specs.declared.tree.RootId.{RootId}
use Rattle.regent_tree.specs.Accesses.{converted}
use Rattle.regent_tree.specs.Evaluation.{value}
use Rattle.regent_tree.specs.Execution.{looping, on_line}
use Rattle.regent_tree.specs.Lookup.{is_bound, type_named}
use Rattle.regent_tree.specs.Running.{Here, State, gives}
use Rattle.regent_tree.specs.Scopes.{bound_to, with_name}
use Rattle.regent_tree.specs.Store.{Store}
use Rattle.regent_tree.specs.Syntax.{Expression, Expressions, Name, access_expr, an_expr, no_expr, no_step, number_expr, truth_expr}
use Rattle.regent_tree.specs.Typing.{is_pointer}
use Rattle.regent_tree.specs.Values.{Value, a_number, a_truth}
use Rattle.regent_tree.specs.declared.typing.Bound.{Bound}
use Rattle.regent_tree.specs.declared.typing.StaticType.{StaticType}
use Rattle.task_code.specs.declared.instr.Instr.TheVariants as instr
use Rattle.machine_terms.specs.declared.order.Contents.{Contents}
use Rattle.machine_terms.specs.declared.order.Instance.{Instance}
use Rattle.machine_terms.specs.declared.value.Value.{Value as MachineValue}
use Rattle.check_rules.specs.types.Sorts.{is_index, type_at}
use Rattle.code_rules.specs.Expressions.{expr_code}
use Rattle.code_rules.specs.Instructions.{converted_code}
use Rattle.code_rules.specs.Launches.{fixed_code, is_fixed, kept, kept_code}
use Rattle.code_rules.specs.Pieces.{empty, op, past}
use Rattle.code_rules.specs.Slots.{Where, slot, spare, typed}
use Rattle.code_laws.specs.Arguments.{IsCutName}
use Rattle.code_laws.specs.Pointers.{Passes}
use Rattle.code_laws.specs.Standing.{Agrees, Aside, IsInside, IsOf, SlotsFit, Stands, blank, machine_value, nothing, of_integer, of_truth, where_of}
use Rattle.code_laws.specs.Simple.{AreRegions, IsPartition}
use Rattle.code_laws.specs.Steps.{HasMore, Leads, Setting, Taking, placed}
use Rattle.code_laws.specs.Typed.{ArePassed, IsIndexed, IsPassed, IsTyped}
use Rattle.code_laws.proofs.Arguments.{Unchanged, cut_unchanged, given_by, handed_name, unchanged}
use Rattle.code_laws.proofs.Good.{valued}
use Rattle.code_laws.proofs.Handing.{IsGivenBy, value_stays}
use Rattle.code_laws.proofs.LaunchShapes.{AreForms, IsLaunched, launched_child, launched_conversion, launched_name, launched_none, launched_number, launched_so, launched_truth, launched_variable}
use Rattle.code_laws.proofs.LaunchValues.{bound_other, converts_at, there_other}
use Rattle.code_laws.proofs.Operations.{named_loads}
use Rattle.code_laws.proofs.Passing.{passed_inside, passed_typed}
use Rattle.code_laws.proofs.Results.{spare_stored}
use Rattle.code_laws.proofs.Rows.{same_scope}
use Rattle.code_laws.proofs.Runs.{leads_by, leads_none, leads_twice}
use Rattle.code_laws.proofs.States.{ready_value, stores}
use Rattle.code_laws.proofs.Values.{named}
use Rattle.code_laws.proofs.Wider.{passing}

-- a slot is none that a pointer would need
plain_so : (b c d : Bool) → b && d ≡ false → (c ≡ true → d ≡ true) → b && c ≡ false
plain_so false c d e f = refl
plain_so true false d e f = refl
plain_so true true d e f = absurd (false≢true (sym e ∙ f refl))

not_fixed : (b : Bool) → not b ≡ true → b ≡ false
not_fixed true e = absurd (false≢true e)
not_fixed false e = refl

-- an instance with other slots
abbrev pub in_slots : List MachineValue → Instance → Instance
in_slots xs i = record i { frame = record i.frame { slots = xs } }

module _ (x : Setting) (params slots : ℕ) (fit : SlotsFit x slots) (aside : Aside 0) (h : Here) (i : Name) (t0 : StaticType) (line : ℕ) where
  -- where the arguments stand
  abbrev pub inner : Here
  inner = on_line (looping h i t0) line

  abbrev within : Where
  within = where_of params inner

  -- an argument has a value, and so it is as its parameter wants it
  pub record Evaluates (t : StaticType) (e : Expression) (u : Value) (s : State) : Type 0 where
    pub first : Value
    pub is : value inner e s ≡ gives first s
    pub converted_is : converted inner (typed within e) t [] first s ≡ gives u s

  -- so it has in each round, and the machine has the same value
  pub record Keeps (names : List Value) (c : Contents) (own : List RootId) (t p : StaticType) (e : Expression) (u : Value) : Type 0 where
    pub is : (a : Value) (s : State) → s.names ≡ names ++ a ∷ [] → Evaluates t e u s
    pub given : (a : Value) → IsGivenBy x params slots fit aside inner p e u (names ++ a ∷ [])
    pub stays : (s : State) (j : Instance) → Agrees x params slots aside h s j → HasMore own j.frame.own → machine_value c u ≡ machine_value j.contents u

  -- ---- the value, before it is converted

  record FixedValue (e : Expression) (names : List Value) (store : Store) (pc : ℕ) (j : Instance) : Type 0 where
    has : Value
    is : (a : Value) (s : State) → s.names ≡ names ++ a ∷ [] → value inner e s ≡ gives has s
    of_type : IsOf (typed within e) has
    inside : IsInside x store (typed within e) has
    leads : Stands x.body pc (expr_code within 0 e) → Leads x (placed pc [] j) (valued (past (expr_code within 0 e) pc) [] has j)

  name_there : (n : Name) (s : State) (j : Instance) → bytes_eq n i ≡ false → is_bound inner.scope.names n ≡ true → Agrees x params slots aside h s j → (a : Value) →
      get_or (s.names ++ a ∷ []) (bound_to inner.scope.names n).place nothing ≡ get_or s.names (bound_to h.scope.names n).place nothing
  name_there n s j other there g a =
      let b = bound_to h.scope.names n in
      let m = named IsOf h.scope.names s.names n g.typed (there_other h.scope i t0 n other there) in
      ap (λ (c : Bound). get_or (s.names ++ a ∷ []) c.place nothing) (bound_other h.scope i t0 n other)
      ∙ get_or-append s.names (a ∷ []) nothing b.place (omega (arith, m.below, g.count))

  name_value : (n : Name) (s : State) (pc : ℕ) (j : Instance) → bytes_eq n i ≡ false → is_bound inner.scope.names n ≡ true → Agrees x params slots aside h s j →
      FixedValue (access_expr n no_step) s.names s.store pc j
  name_value n s pc j other there g =
      let b = bound_to h.scope.names n in
      let same : bound_to inner.scope.names n ≡ b = bound_other h.scope i t0 n other in
      let bound = there_other h.scope i t0 n other there in
      let m = named IsOf h.scope.names s.names n g.typed bound in
      let inside = named (IsInside x s.store) h.scope.names s.names n g.inside_store bound in
      let v = get_or s.names b.place nothing in
      let g1 = same_scope x params slots aside h (on_line h line) s j (refl, refl) g in record {
        has = v;
        is = λ a s1 names. ap (λ u. gives u s1) (ap (λ ns. get_or ns (bound_to inner.scope.names n).place nothing) names
            ∙ name_there n s j other there g a);
        of_type = subst (λ (c : Bound). IsOf c.static_type v) (sym same) m.holding;
        inside = subst (λ (c : Bound). IsInside x s.store c.static_type v) (sym same) inside.holding;
        leads = λ f. named_loads x params slots fit aside (on_line h line) n s pc [] j bound g1
            (subst (λ (c : Bound). Stands x.body pc (op (instr.Load (slot (where_of params h) c.place)) line)) same f.0);
      }

  -- ---- as the parameter wants it

  record KeptBy (t p : StaticType) (e : Expression) (s : State) (pc : ℕ) (j : Instance) : Type 0 where
    has : Value
    keeps : Keeps s.names j.contents j.frame.own t p e has
    leads : Leads x (placed pc [] j) (valued (past (converted_code within (typed within e) t) (past (expr_code within 0 e) pc)) [] has j)

  passed_kept : (t p : StaticType) (e : Expression) (s : State) (pc : ℕ) (j : Instance) → Passes (typed within e) t p →
      is_pointer (typed within e) && is_index p ≡ false → Agrees x params slots aside h s j → FixedValue e s.names s.store pc j →
      Stands x.body pc (expr_code within 0 e) → Stands x.body (past (expr_code within 0 e) pc) (converted_code within (typed within e) t) →
      KeptBy t p e s pc j
  passed_kept t p e s pc j passes plain g v f f2 =
      let c = converts_at x params slots fit aside inner (typed within e) t p v.has (past (expr_code within 0 e) pc) [] j passes v.of_type plain f2 in record {
        has = c.to;
        keeps = record {
          is = λ a s1 names. record { first = v.has; is = v.is a s1 names; converted_is = c.is s1 };
          given = λ a. inl (t, passes, passed_typed (typed within e) t p c.to passes c.typed);
          stays = value_stays x params slots fit aside h s j g t c.to c.typed (passed_inside x s.store (typed within e) t p c.to passes c.typed);
        };
        leads = leads_twice x (v.leads f) c.leads;
      }

  -- what isn't converted
  plainly_kept : (t p : StaticType) (e : Expression) (s : State) (pc : ℕ) (j : Instance) → Unchanged inner within (typed within e) t →
      Agrees x params slots aside h s j → (v : FixedValue e s.names s.store pc j) →
      ((a : Value) → IsGivenBy x params slots fit aside inner p e v.has (s.names ++ a ∷ [])) →
      Stands x.body pc (expr_code within 0 e) → KeptBy t p e s pc j
  plainly_kept t p e s pc j same g v given f = record {
    has = v.has;
    keeps = record {
      is = λ a s1 names. record { first = v.has; is = v.is a s1 names; converted_is = same.value v.has s1 };
      given = given;
      stays = value_stays x params slots fit aside h s j g (typed within e) v.has v.of_type v.inside;
    };
    leads = subst (λ c. Leads x (placed pc [] j) (valued (past c (past (expr_code within 0 e) pc)) [] v.has j)) (sym same.code) (v.leads f);
  }

  -- by its form
  module _ (t1 wanted : StaticType) (s : State) (pc : ℕ) (j : Instance) (g : Agrees x params slots aside h s j) where
    abbrev seen : List Bound
    seen = (with_name h.scope i t1 true).names

    abbrev CodeOf : StaticType → Expression → Type 0
    CodeOf t e = Stands x.body pc (expr_code within 0 e) × Stands x.body (past (expr_code within 0 e) pc) (converted_code within (typed within e) t)

    number_so : (t p : StaticType) (e : Expression) → IsLaunched seen i wanted e → is_fixed i e ≡ true → (is_index p ≡ true → is_index wanted ≡ true) →
        Passes (typed within e) t p → IsTyped x.forms within e → CodeOf t e → KeptBy t p e s pc j
    number_so t p _ (launched_number z w) fixed link passes fine f =
        passed_kept t p (number_expr z w) s pc j passes refl g (record {
          has = a_number w z;
          is = λ a s1 names. refl;
          of_type = of_integer w z fine;
          inside = tt;
          leads = λ f. leads_by x _ _ (instr.Num z) line f refl;
        }) f.0 f.1
    number_so t p _ (launched_truth b) fixed link passes fine f =
        passed_kept t p (truth_expr b) s pc j passes refl g (record {
          has = a_truth b;
          is = λ a s1 names. refl;
          of_type = of_truth b;
          inside = tt;
          leads = λ f. leads_by x _ _ (instr.Num _) line f refl;
        }) f.0 f.1
    number_so t p _ (launched_name n other plain) fixed link passes fine f =
        let same : type_named seen n ≡ (bound_to inner.scope.names n).static_type =
        ap (λ (b : Bound). b.static_type) (bound_other h.scope i t1 n other ∙ sym (bound_other h.scope i t0 n other)) in
        passed_kept t p (access_expr n no_step) s pc j passes
        (plain_so (is_pointer (bound_to inner.scope.names n).static_type) (is_index p) (is_index wanted)
        (subst (λ u. is_pointer u && is_index wanted ≡ false) same plain) link) g (name_value n s pc j other fine.0 g) f.0 f.1
    number_so t p _ (launched_variable n own) fixed link passes fine f = absurd (false≢true (sym (not_fixed (bytes_eq n i) fixed) ∙ own))
    number_so t p _ (launched_child q n part own) fixed link passes fine f = absurd (false≢true fixed)
    number_so t p _ (launched_none q e none) fixed link passes fine f = absurd (false≢true fixed)
    number_so t p _ (launched_conversion u n own) fixed link passes fine f = absurd (false≢true fixed)

    handed_so : (t p : StaticType) (n : Name) (y : Taking) → x.forms.takes ≡ Some y → is_bound inner.scope.names n ≡ true → t ≡ p →
        AreRegions (bound_to inner.scope.names n).static_type p → is_fixed i (access_expr n no_step) ≡ true → CodeOf t (access_expr n no_step) →
        KeptBy t p (access_expr n no_step) s pc j
    unfolding name_value
    handed_so t p n y takes there same regions fixed f =
        let other = not_fixed (bytes_eq n i) fixed in
        let from = typed within (access_expr n no_step) in
        plainly_kept t p (access_expr n no_step) s pc j
        (subst (Unchanged inner within from) (sym same) (unchanged inner within from (bound_to inner.scope.names n).static_type p regions)) g
        (name_value n s pc j other there g)
        (λ a. inr (inl (record { taking = y; takes = takes; name = n; stands = refl; there = there; regions = regions; is = sym (name_there n s j other there g a) }))) f.0

    cut_so : (t p : StaticType) (n : Name) (y : Taking) → x.forms.takes ≡ Some y → IsCutName within n → t ≡ p → IsPartition p →
        is_fixed i (access_expr n no_step) ≡ true → CodeOf t (access_expr n no_step) → KeptBy t p (access_expr n no_step) s pc j
    unfolding name_value
    cut_so t p n y takes cut same partition fixed f =
        let other = not_fixed (bytes_eq n i) fixed in
        let from = typed within (access_expr n no_step) in
        plainly_kept t p (access_expr n no_step) s pc j
        (subst (Unchanged inner within from) (sym same) (cut_unchanged inner within from p partition)) g
        (name_value n s pc j other cut.named g)
        (λ a. inr (inr (inr (record { taking = y; takes = takes; name = n; stands = refl; cut = cut; partition = partition; is = sym (name_there n s j other cut.named g a) })))) f.0

    fixed_so : (t p : StaticType) (e : Expression) → IsLaunched seen i wanted e → is_fixed i e ≡ true → (is_index p ≡ true → is_index wanted ≡ true) →
        IsPassed x.forms within t p e (IsTyped x.forms within e) (IsIndexed x.forms within e) → CodeOf t e → KeptBy t p e s pc j
    fixed_so t p e form fixed link passed f =
        given_by x.forms.keeps x.forms.takes within t p e (IsTyped x.forms within e) (IsIndexed x.forms within e) (KeptBy t p e s pc j)
        (λ goes fine. number_so t p e form fixed link (passing x.forms.keeps (typed within e) t p goes) fine f)
        (λ y takes handed.
        let q = handed_name y within t p e handed in
        subst (λ e. is_fixed i e ≡ true → CodeOf t e → KeptBy t p e s pc j) (sym q.1) (handed_so t p q.0 y takes q.2 q.3 q.4) fixed f)
        (λ part. absurd (false≢true (subst (λ e. is_fixed i e ≡ true) part.is fixed)))
        (λ cut. subst (λ e. is_fixed i e ≡ true → CodeOf t e → KeptBy t p e s pc j) (sym cut.is)
        (cut_so t p cut.name cut.taking cut.takes cut.cut cut.same cut.partition) fixed f) passed

  -- ---- all of them

  -- those that are fixed wait in their slots
  abbrev pub AreKept : List Value → Contents → List RootId → List MachineValue → ℕ → List StaticType → List StaticType → Expressions → Type 0
  AreKept names c own xs q [] [] no_expr = Unit {0}
  AreKept names c own xs q (t ∷ ts) (p ∷ ps) (an_expr e es) =
      (is_fixed i e ≡ true → (u : Value) × Keeps names c own t p e u × (get_or xs (kept within q) blank ≡ machine_value c u))
      × AreKept names c own xs (suc q) ts ps es
  AreKept names c own xs q _ _ _ = ⊥

  -- the code leads to slots in which they do, and leaves those below as they are
  pub record KeptRun (q : ℕ) (ts ps : List StaticType) (es : Expressions) (s : State) (pc done : ℕ) (j : Instance) : Type 0 where
    pub slots_then : List MachineValue
    pub leads : Leads x (placed pc [] j) (placed done [] (in_slots slots_then j))
    pub agrees : Agrees x params slots aside h s (in_slots slots_then j)
    pub below : (k : ℕ) → k < kept within q → get_or slots_then k blank ≡ get_or j.frame.slots k blank
    pub are_kept : AreKept s.names j.contents j.frame.own slots_then q ts ps es

  kept_is : (q : ℕ) → params ≤ length h.scope.names → spare (where_of params h) (1 + q) ≡ kept within q
  kept_is q low = omega (arith, low)

  module _ (t1 : StaticType) (wanted : List StaticType) (low : params ≤ length h.scope.names) where
    pub kept_runs : (q : ℕ) (ts ps : List StaticType) (es : Expressions) (s : State) (pc : ℕ) (j : Instance) →
        AreForms (with_name h.scope i t1 true).names i wanted q es →
        ((k : ℕ) → is_index (type_at ps k) ≡ true → is_index (type_at wanted (q + k)) ≡ true) → ArePassed x.forms within ts ps es →
        Agrees x params slots aside h s j → Stands x.body pc (kept_code within i q ts es) →
        KeptRun q ts ps es s pc (past (kept_code within i q ts es) pc) j
    kept_runs q [] [] no_expr s pc j forms link passed g f =
        record { slots_then = j.frame.slots; leads = leads_none x _; agrees = g; below = λ k l. refl; are_kept = tt }
    kept_runs q (t ∷ ts) (p ∷ ps) (an_expr e es) s pc j forms link passed g f =
        by (is_fixed i e) refl (λ pc1 j1 g1 f1. kept_runs (suc q) ts ps es s pc1 j1 forms.1 further passed.1 g1 f1) f.0 f.1
      where
        moved : (q k : ℕ) → (q + suc k) ≡ (suc q + k)
        moved q k = omega (arith)

        none_more : (q : ℕ) → (q + 0) ≡ q
        none_more q = omega (arith)

        further : (k : ℕ) → is_index (type_at ps k) ≡ true → is_index (type_at wanted (suc q + k)) ≡ true
        further k e = subst (λ m. is_index (type_at wanted m) ≡ true) (moved q k) (link (suc k) e)

        by : (b : Bool) → is_fixed i e ≡ b →
            ((pc : ℕ) (j : Instance) → Agrees x params slots aside h s j → Stands x.body pc (kept_code within i (suc q) ts es) →
            KeptRun (suc q) ts ps es s pc (past (kept_code within i (suc q) ts es) pc) j) → Stands x.body pc (cond b (fixed_code within q t e) empty) →
            Stands x.body (past (cond b (fixed_code within q t e) empty) pc) (kept_code within i (suc q) ts es) →
            KeptRun q (t ∷ ts) (p ∷ ps) (an_expr e es) s pc (past (kept_code within i (suc q) ts es) (past (cond b (fixed_code within q t e) empty) pc)) j
        by false varying more f0 f1 =
            let rest = more pc j g f1 in record {
              slots_then = rest.slots_then;
              leads = rest.leads;
              agrees = rest.agrees;
              below = λ k l. rest.below k (omega (arith, l));
              are_kept = (λ still. absurd (false≢true (sym varying ∙ still)), rest.are_kept);
            }
        by true still more f0 f1 =
            let form = launched_so (with_name h.scope i t1 true).names i (type_at wanted q) e forms.0 in
            let one = fixed_so t1 (type_at wanted q) s pc j g t p e form still
            (λ is. subst (λ m. is_index (type_at wanted m) ≡ true) (none_more q) (link 0 is)) passed.0 (f0.0, f0.1.0) in
            let put = kept within q in
            let m = machine_value j.contents one.has in
            let pc1 = past (converted_code within (typed within e) t) (past (expr_code within 0 e) pc) in
            let room : put < length j.frame.slots = omega (arith, fit pc1 _ f0.1.1, g.slots_are) in
            let j1 = in_slots (slice_set j.frame.slots put m) j in
            let g1 : Agrees x params slots aside h s j1 = subst (λ n. Agrees x params slots aside h s (in_slots (slice_set j.frame.slots n m) j)) (kept_is q low)
            (spare_stored x params slots fit aside h s j (1 + q) m low (omega arith) (ready_value j.contents one.has) g) in
            let rest = more (suc pc1) j1 g1 f1 in record {
              slots_then = rest.slots_then;
              leads = leads_twice x one.leads (leads_twice x (stores x params slots fit put pc1 line m [] j g.slots_are f0.1.1) rest.leads);
              agrees = rest.agrees;
              below = λ k l. rest.below k (omega (arith, l)) ∙ get_or-set_other j.frame.slots put k m blank (λ same. omega (arith, same, l));
              are_kept = (
                λ still. (one.has, one.keeps, rest.below put (omega arith) ∙ get_or-set_same j.frame.slots put m blank room),
                rest.are_kept,
              );
            }
    kept_runs q _ _ _ s pc j forms link passed g f = absurd passed
