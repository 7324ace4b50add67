-- What statements do in a row: jumps, turns, tests, blocks, and the ends of a task.
use Rattle.std.proofs.Common.{◌≡◌, ℕ, zero, suc, ◌<◌, ◌≤◌, ⊎_elim, List, [], ◌∷◌, Bool, true, false, Some, refl, sym, ap, ◌∙◌, subst, arith}
use Rattle.std.specs.Prelude.{get_or, length, map, slice_set, nat_lt, cond}
use Rattle.std.proofs.lemmas.Bool.{lt-ltb, le-ltb, cases_lt}
use Rattle.regent_tree.specs.declared.outcome.FaultKind.TheVariants.{Turns, AssertFailed}
use Rattle.regent_tree.specs.declared.statement.How.TheVariants as how
use Rattle.regent_tree.specs.declared.typing.StaticType.{StaticType}
use Rattle.regent_tree.specs.declared.typing.StaticType.TheVariants.{Integer as integer_type, Index as index_type, Ispace as ispace_type, Truth as truth_type}
use Rattle.regent_tree.specs.Lookup.{is_bound}
use Rattle.regent_tree.specs.Scopes.{bound_to}
use Rattle.regent_tree.specs.Syntax.{Name, Expression, access_expr, no_step, Block, Tree}
use Rattle.regent_tree.specs.Typing.{owned, scope_after_block}
use Rattle.regent_tree.specs.Values.{Value, a_number, a_truth, an_index, truth_of, kept_truth}
use Rattle.regent_tree.specs.Running.{Calls, State, Here, Run, Result, gives, fails, given, and_then, if_true, fault, pay_from}
use Rattle.regent_tree.specs.Execution.{Going, goes_on, returned, going_on, leaving, scoped, with_regions_of, write_name, exec_block}
use Rattle.task_code.specs.declared.code.Line.{Line}
use Rattle.task_code.specs.declared.instr.Instr.TheVariants as instr
use Rattle.machine_terms.specs.Machine.{goes, when, broken, at, on_turn, next}
use Rattle.machine_terms.specs.Jumps.{fetch, goes_back}
use Rattle.machine_terms.specs.declared.order.Ended.TheVariants.{Broke}
use Rattle.machine_terms.specs.declared.order.Instance.{Instance}
use Rattle.machine_terms.specs.declared.order.Resumed.TheVariants.{IsOver}
use Rattle.code_rules.specs.Pieces.{empty, op, past}
use Rattle.code_rules.specs.Programs.{space_code}
use Rattle.regent_tree.specs.StaticTypes.{spaces_of}
use Rattle.code_rules.specs.Slots.{slot_named, beside}
use Rattle.code_rules.specs.Expressions.{expr_code}
use Rattle.code_rules.specs.Initializers.{beside_code, plain_code}
use Rattle.code_rules.specs.Used.{greatest, above_all}
use Rattle.code_laws.specs.Steps.{Setting, machine_of, placed, on_step, Leads, Ends}
use Rattle.code_laws.specs.Standing.{AreUnder, Answering, program_of, Stands, machine_value, IsInside, IsOf, AreOf, of_index, of_integer, of_space, of_truth, nothing, Aside, where_of, Agrees, SlotsFit, Does, AreBeside, blank}
use Rattle.code_laws.specs.Pointers.{ArePointed, HasZero, zero_index, zero_scalar}
use Rattle.code_laws.specs.Simple.{IsSimple, scalar_integer, scalar_truth, simple_index, simple_integer, simple_space, simple_truth}
use Rattle.code_laws.specs.Typed.{CountsDown}
use Rattle.code_laws.proofs.Runs.{Said, leads_twice, leads_end, leads_by, ends_by}
use Rattle.code_laws.proofs.Pointing.{simple_alike, simple_no_region, simple_plain}
use Rattle.code_laws.proofs.Values.{jump_later, named, simple_inside}
use Rattle.code_laws.proofs.Good.{valued}
use Rattle.code_laws.proofs.Names.{Grown, block_grown}
use Rattle.code_laws.proofs.States.{stored, stores, changed, cut}
use Rattle.code_laws.proofs.Besides.{plain_alike}
use Rattle.code_laws.proofs.Pieced.{simple_uncut}
use Rattle.code_laws.specs.Taking.{MayChange}

-- ---- plain start values

pub beside_empty : (params : ℕ) (h : Here) (t : StaticType) (e : Expression) → IsSimple t →
    beside_code (where_of params h) t e ≡ empty
beside_empty params h _ (access_expr n no_step) (simple_integer w) = refl
beside_empty params h _ (access_expr n no_step) simple_truth = refl
beside_empty params h _ (access_expr n no_step) (simple_space k) = refl
beside_empty params h _ (access_expr n no_step) (simple_index k) = refl
beside_empty params h _ e p = refl

pub owned_plain : (n : ℕ) (t : StaticType) → IsSimple t → t ≡ owned n t
owned_plain n _ (simple_integer w) = refl
owned_plain n _ simple_truth = refl
owned_plain n _ (simple_space k) = refl
owned_plain n _ (simple_index k) = refl

-- the code of a plain start value is that of the expression
pub plain_past : (params : ℕ) (h : Here) (t : StaticType) (e : Expression) (pc n : ℕ) → IsSimple t →
    past (plain_code (where_of params h) (owned n t) e) pc
    ≡ past (expr_code (where_of params h) 0 e) pc
plain_past params h _ e pc n (simple_integer w) =
    ap (λ p. past p (past (expr_code (where_of params h) 0 e) pc))
    (beside_empty params h (integer_type w) e (simple_integer w))
plain_past params h _ e pc n simple_truth =
    ap (λ p. past p (past (expr_code (where_of params h) 0 e) pc))
    (beside_empty params h truth_type e simple_truth)
plain_past params h _ e pc n (simple_space k) =
    ap (λ p. past p (past (expr_code (where_of params h) 0 e) pc))
    (beside_empty params h (ispace_type k) e (simple_space k))
plain_past params h _ e pc n (simple_index k) =
    ap (λ p. past p (past (expr_code (where_of params h) 0 e) pc))
    (beside_empty params h (index_type k) e (simple_index k))

pub plain_stands : (body : List Line) (params : ℕ) (h : Here) (t : StaticType) (e : Expression) (pc n : ℕ) →
    IsSimple t → Stands body pc (plain_code (where_of params h) (owned n t) e) →
    Stands body pc (expr_code (where_of params h) 0 e)
plain_stands body params h _ e pc n (simple_integer w) f = f.0
plain_stands body params h _ e pc n simple_truth f = f.0
plain_stands body params h _ e pc n (simple_space k) f = f.0
plain_stands body params h _ e pc n (simple_index k) f = f.0

-- a value that carries no regions
pub plain_kept : (u : StaticType) (old v : Value) → IsSimple u → IsOf u v → with_regions_of old v ≡ v
plain_kept _ old _ (simple_integer w) (of_integer _ z _) = refl
plain_kept _ old _ simple_truth (of_truth b) = refl
plain_kept _ old _ (simple_space k) (of_space _ n _) = refl
plain_kept _ old _ (simple_index k) (of_index _ z _) = refl

-- the greater of two numbers
pub greatest_least : (a b n : ℕ) → greatest a b ≤ n → (a ≤ n) × (b ≤ n)
greatest_least a b n l = ⊎_elim
    (λ e. let g : b ≤ n = subst (λ c. cond c b a ≤ n) (lt-ltb a b e) l in (omega (arith, e, g), g))
    (λ e. let g : a ≤ n = subst (λ c. cond c b a ≤ n) (le-ltb a b e) l in (g, omega (arith, e, g)))
    (cases_lt a b)

pub least_greatest : (a b n : ℕ) → a ≤ n → b ≤ n → greatest a b ≤ n
least_greatest a b n p q = by (nat_lt a b)
  where
    by : (c : Bool) → cond c b a ≤ n
    by true = q
    by false = p

pub three_least : (a b c n : ℕ) → above_all (a ∷ b ∷ c ∷ []) ≤ n → (suc a ≤ n) × (suc b ≤ n) × (suc c ≤ n)
three_least a b c n l =
    let p = greatest_least (suc a) (above_all (b ∷ c ∷ [])) n l in
    let q = greatest_least (suc b) (above_all (c ∷ [])) n p.1 in
    let r = greatest_least (suc c) 0 n q.1 in
    (p.0, q.0, r.0)

-- ---- the same state in another scope with the same names

-- two places of a program with the same names
abbrev pub IsAlike : Here → Here → Type 0
IsAlike h h2 = (h.scope.names ≡ h2.scope.names) × (program_of h2 ≡ program_of h)

pub same_scope : (x : Setting) (params slots : ℕ) (aside : Aside 0) (h h2 : Here) (s : State) (i : Instance) →
    IsAlike h h2 → Agrees x params slots aside h s i → Agrees x params slots aside h2 s i
same_scope x params slots aside h h2 s i e g = record {
  names = g.names;
  hidden = g.hidden;
  held = λ k l. absurd (omega (arith, l));
  typed = subst (λ bs. AreOf IsOf bs s.names) e.0 g.typed;
  inside_store = subst (λ bs. AreOf (IsInside x s.store) bs s.names) e.0 g.inside_store;
  pointed = subst (ArePointed params s.names) e.0 g.pointed;
  steady = g.steady;
  under = subst (λ bs. AreUnder x.forms.takes bs s.names) e.0 g.under;
  besides = subst (λ bs. AreBeside (λ p. get_or i.frame.slots (beside (where_of params h) p) blank) i.contents params (length s.store) bs s.names) e.0 g.besides;
  count = g.count ∙ ap length e.0;
  inside = g.inside;
  slots_are = g.slots_are;
  turns = g.turns;
  bound = g.bound;
  text = g.text;
  ready = g.ready;
  calls = g.calls;
  result_is = sym (ap (λ (p : Tree × Calls × StaticType). p.2) (sym e.1)) ∙ g.result_is;
  answers = λ c. subst (λ (p : Tree × Calls × StaticType). Answering x p.0 p.1) (sym e.1) (g.answers c);
  spaces = g.spaces ∙ ap (λ (p : Tree × Calls × StaticType). map space_code (spaces_of p.0)) (sym e.1);
  tree_is = ap (λ (p : Tree × Calls × StaticType). p.0) e.1 ∙ g.tree_is;
  memory = g.memory;
  framed = g.framed;
}

module _ (x : Setting) (params slots : ℕ) (fit : SlotsFit x slots) (counts : CountsDown) where
  -- ---- what is done, in a row

  pub does_before : (aside : Aside 0) (pc : ℕ) (h : Here) (i j : Instance) (r : Result Going) → Leads x i j →
      Does x params slots aside j pc h r → Does x params slots aside i pc h r
  does_before aside pc h i j (gives goes_on s) l d = (d.0, leads_twice x l d.1, d.2)
  does_before aside pc h i j (gives (returned v) s) l d = (d.0, d.1, leads_end x l d.2, d.3, d.4, d.5, d.6, d.7)
  does_before aside pc h i j (fails f s) l d = leads_end x l d

  pub does_said : (aside : Aside 0) (pc : ℕ) (h : Here) → Said x (λ i r. Does x params slots aside i pc h r)
  does_said aside pc h = record {
    before = λ i j r l d. does_before aside pc h i j r l d;
    failing = λ i f s e. e;
  }

  -- another statement behind one that goes on
  pub then_going : (aside aside2 : Aside 0) (pc pc2 : ℕ) (h h2 : Here) (i : Instance) (r : Result Going)
      (rest : Run Going) → Does x params slots aside i pc h r →
      ((s : State) (j : Instance) → Agrees x params slots aside h s j →
      Does x params slots aside2 (placed pc [] j) pc2 h2 (rest s)) →
      Does x params slots aside2 i pc2 h2 (and_then r (λ g. going_on rest g))
  then_going aside aside2 pc pc2 h h2 i (gives goes_on s) rest d more =
      does_before aside2 pc2 h2 i _ (rest s) d.1 (more s d.0 d.2)
  then_going aside aside2 pc pc2 h h2 i (gives (returned v) s) rest d more = d
  then_going aside aside2 pc pc2 h h2 i (fails f s) rest d more = d

  -- a jump behind a statement
  pub then_leads : (aside : Aside 0) (pc pc2 : ℕ) (h : Here) (i : Instance) (r : Result Going) →
      Does x params slots aside i pc h r →
      ((j : Instance) → Leads x (placed pc [] j) (placed pc2 [] j)) →
      Does x params slots aside i pc2 h r
  then_leads aside pc pc2 h i (gives goes_on s) d l = (d.0, leads_twice x d.1 (l d.0), d.2)
  then_leads aside pc pc2 h i (gives (returned v) s) d l = d
  then_leads aside pc pc2 h i (fails f s) d l = d

  -- another scope with the same names
  pub does_as : (aside : Aside 0) (pc : ℕ) (h h2 : Here) (i : Instance) (r : Result Going) →
      IsAlike h h2 → Does x params slots aside i pc h r →
      Does x params slots aside i pc h2 r
  does_as aside pc h h2 i (gives goes_on s) e d =
      (d.0, d.1, same_scope x params slots aside h h2 s d.0 e d.2)
  does_as aside pc h h2 i (gives (returned v) s) e d = d
  does_as aside pc h h2 i (fails f s) e d = d

  -- a block leaves its names
  pub does_cut : (aside : Aside 0) (pc n : ℕ) (h h2 : Here) (i : Instance) (r : Result Going) →
      params ≤ length h.scope.names → Grown h.scope.names h2.scope.names → program_of h2 ≡ program_of h → n ≡ length h.scope.names → aside.upto ≤ n →
      Does x params slots aside i pc h2 r → Does x params slots aside i pc h (leaving n r)
  does_cut aside pc n h h2 i (gives goes_on s) low w tree e up d =
      (d.0, d.1, cut x params slots fit aside h h2 n s d.0 low w tree e up d.2)
  does_cut aside pc n h h2 i (gives (returned v) s) low w tree e up d = (d.0, d.1, d.2, d.3, d.4, d.5, d.6, d.7)
  does_cut aside pc n h h2 i (fails f s) low w tree e up d = d

  -- ---- jumps

  pub jumps_later : (pc to line : ℕ) (i : Instance) → pc < to → Stands x.body pc (op (instr.Jump to) line) →
      Leads x (placed pc [] i) (placed to [] i)
  jumps_later pc to line i l f = leads_by x _ _ (instr.Jump to) line f
      (ap (on_step x (placed pc [] i)) (jump_later x.body to [] (machine_of (placed pc [] i)) l))

  -- a jump back to a turn
  pub jumps_back : (pc to line line2 : ℕ) (i : Instance) → Stands x.body to (op instr.Turn line2) →
      Stands x.body pc (op (instr.Jump to) line) → Leads x (placed pc [] i) (placed to [] i)
  jumps_back pc to line line2 i t f = leads_by x _ _ (instr.Jump to) line f
      (ap (λ b. on_step x (placed pc [] i) (when b (goes (at to [] (machine_of (placed pc [] i))))
      (broken (machine_of (placed pc [] i))))) (may (nat_lt pc to)))
    where
      may : (b : Bool) → elim b [ true ↦ true | false ↦ goes_back pc (fetch x.body to) ] ≡ true
      may true = refl
      may false = ap (goes_back pc) t

  -- a test: on true it goes on, on false it goes to a later place
  pub tests : (pc to line : ℕ) (i : Instance) (v : Value) (s : State) (A B : Run Going)
      (T : Instance → Result Going → Type 0) → Said x T → IsOf truth_type v → pc < to →
      Stands x.body pc (op (instr.JumpIfNot to) line) →
      T (placed (suc pc) [] i) (A s) → T (placed to [] i) (B s) →
      T (valued pc [] v i) (if_true (truth_of v) A B s)
  tests pc to line i _ s A B T said (of_truth true) l f this that =
      said.before _ _ _ (leads_by x _ _ (instr.JumpIfNot to) line f refl) this
  tests pc to line i _ s A B T said (of_truth false) l f this that =
      said.before _ _ _ (leads_by x _ _ (instr.JumpIfNot to) line f
      (ap (on_step x (valued pc [] (a_truth false) i))
      (jump_later x.body to [] (machine_of (valued pc [] (a_truth false) i)) l))) that

  -- ---- turns

  abbrev pub fewer_turns : ℕ → Instance → Instance
  fewer_turns n i = record i { frame = record i.frame { turns = n } }

  -- what agrees still does with fewer turns
  pub fewer : (n : ℕ) (aside : Aside 0) (h : Here) (s : State) (i : Instance) → n ≤ s.turns →
      Agrees x params slots aside h s i → Agrees x params slots aside h (record s { turns = n }) (fewer_turns n i)
  fewer n aside h s i l g = record {
    names = g.names;
    hidden = g.hidden;
    held = g.held;
    typed = g.typed;
    inside_store = g.inside_store;
    pointed = g.pointed;
    steady = g.steady;
    under = g.under;
    besides = g.besides;
    count = g.count;
    inside = g.inside;
    slots_are = g.slots_are;
    turns = refl;
    bound = omega (arith, g.bound, l);
    text = g.text;
    ready = g.ready;
    calls = record { few = omega (arith, g.calls.few, g.turns, l); children = g.calls.children; depth = g.calls.depth };
    result_is = g.result_is;
    answers = g.answers;
    spaces = g.spaces;
    memory = g.memory;
    tree_is = g.tree_is;
    framed = g.framed;
  }

  pub relimit : (aside : Aside 0) (k : ℕ) (h : Here) (s : State) (i : Instance) → s.turns ≤ k →
      Agrees x params slots aside h s i → Agrees x params slots (record aside { turns = k }) h s i
  relimit aside k h s i l g = record {
    names = g.names;
    hidden = g.hidden;
    held = g.held;
    typed = g.typed;
    inside_store = g.inside_store;
    pointed = g.pointed;
    steady = g.steady;
    under = g.under;
    besides = g.besides;
    count = g.count;
    inside = g.inside;
    slots_are = g.slots_are;
    turns = g.turns;
    bound = l;
    text = g.text;
    ready = g.ready;
    calls = g.calls;
    result_is = g.result_is;
    answers = g.answers;
    spaces = g.spaces;
    memory = g.memory;
    tree_is = g.tree_is;
    framed = g.framed;
  }

  -- a turn is paid, or there is none
  pub pays_from : (n : ℕ) (aside : Aside 0) (pc pc2 : ℕ) (h h2 : Here) (s : State) (i : Instance)
      (T : Instance → Result Going → Type 0) → Said x T → (K : Unit {0} → Run Going) →
      Agrees x params slots aside h s i → s.turns ≡ n → Stands x.body pc (op instr.Turn h.line) →
      ((s2 : State) (j : Instance) → suc s2.turns ≡ s.turns → Agrees x params slots aside h s2 j →
      T (placed (suc pc) [] j) (K tt s2)) →
      T (placed pc [] i) (and_then (pay_from n h s) K)
  pays_from zero aside pc pc2 h h2 s i T said K g e f more = said.failing _ _ s
      (ends_by x _ _ instr.Turn h.line f
      (ap (λ n. on_step x (placed pc [] i) (on_turn n h.line (machine_of (placed pc [] i)) (λ p. next [] p)))
      (g.turns ∙ e)
      ∙ ap (λ t. IsOver (Broke (Some (record { kind = Turns; line = h.line })) t)) g.text))
  pays_from (suc n) aside pc pc2 h h2 s i T said K g e f more = said.before _ _ _
      (leads_by x _ _ instr.Turn h.line f
      (ap (λ n. on_step x (placed pc [] i) (on_turn n h.line (machine_of (placed pc [] i)) (λ p. next [] p)))
      (g.turns ∙ e)))
      (more (record s { turns = n }) (fewer_turns n i) (sym e) (fewer n aside h s i (omega (arith, e)) g))

  pub no_turn : (aside : Aside 0) (pc : ℕ) (h : Here) (s : State) (i : Instance) →
      Agrees x params slots aside h s i → s.turns ≡ 0 → Stands x.body pc (op instr.Turn h.line) →
      Ends x (placed pc [] i) (Broke (Some (record { kind = Turns; line = h.line })) s.text)
  no_turn aside pc h s i g e f = ends_by x _ _ instr.Turn h.line f
      (ap (λ n. on_step x (placed pc [] i) (on_turn n h.line (machine_of (placed pc [] i)) (λ p. next [] p)))
      (g.turns ∙ e)
      ∙ ap (λ t. IsOver (Broke (Some (record { kind = Turns; line = h.line })) t)) g.text)

  -- ---- assignments

  pub writes_name : (aside : Aside 0) (h : Here) (n : Name) (v : Value) (s : State) (pc : ℕ) (i : Instance) →
      IsSimple (bound_to h.scope.names n).static_type → IsOf (bound_to h.scope.names n).static_type v →
      is_bound h.scope.names n ≡ true → MayChange x.forms.takes (bound_to h.scope.names n).by_loop → Agrees x params slots aside h s i →
      Stands x.body pc (op (instr.Store (slot_named (where_of params h) n)) h.line) →
      Does x params slots aside (valued pc [] v i) (suc pc) h (write_name h n how.Set v s)
  writes_name aside h n v s pc i p ty b free g f =
      let old = get_or s.names (bound_to h.scope.names n).place nothing in
      let k = slot_named (where_of params h) n in
      let room : k < slots = omega (arith, fit pc _ f) in
      subst (λ u. Does x params slots aside (valued pc [] v i) (suc pc) h
      (gives goes_on (record s { names = slice_set s.names (bound_to h.scope.names n).place u })))
      (sym (plain_kept _ old v p ty)) (
        stored k (machine_value i.contents v) i,
        stores x params slots fit k pc h.line (machine_value i.contents v) [] i g.slots_are f,
        changed x params slots fit aside h s i n v b free (simple_uncut _ old p (named IsOf h.scope.names s.names n g.typed b).holding) room ty (simple_inside x s.store _ v p)
            (simple_no_region _ old p (named IsOf h.scope.names s.names n g.typed b).holding) (simple_alike _ old v p ty)
            (λ t q goes. plain_alike t old v q (simple_plain _ v p ty) goes) g,
      )

  -- ---- asserts and returns

  pub asserts : (aside : Aside 0) (h : Here) (v : Value) (s : State) (pc : ℕ) (i : Instance) → IsOf truth_type v →
      Agrees x params slots aside h s i → Stands x.body pc (op instr.Assert h.line) →
      Does x params slots aside (valued pc [] v i) (suc pc) h
      (if_true (truth_of v) (given goes_on) (fault h AssertFailed) s)
  asserts aside h _ s pc i (of_truth true) g f = (i, leads_by x _ _ instr.Assert h.line f refl, g)
  asserts aside h _ s pc i (of_truth false) g f = ends_by x _ _ instr.Assert h.line f
      (ap (λ t. IsOver (Broke (Some (record { kind = AssertFailed; line = h.line })) t)) g.text)

  pub returns : (aside : Aside 0) (h : Here) (u : StaticType) (v : Value) (s : State) (pc pc2 : ℕ) (i : Instance) →
      HasZero u → u ≡ x.result → IsOf u v → Agrees x params slots aside h s i →
      Stands x.body pc (op instr.ReturnValue h.line) →
      Does x params slots aside (valued pc [] v i) pc2 h (gives (returned v) s)
  returns aside h _ _ s pc pc2 i (zero_scalar _ (scalar_integer w)) e (of_integer _ z p) g f = (
    Some z,
    valued pc [] (a_number w z) i,
    ends_by x _ _ instr.ReturnValue h.line f refl,
    refl,
    g.text,
    g.memory,
    g.framed,
    λ c q. subst (λ t. IsOf t (a_number w z)) e (of_integer w z p),
  )
  returns aside h _ _ s pc pc2 i (zero_scalar _ scalar_truth) e (of_truth b) g f = (
    Some (kept_truth b),
    valued pc [] (a_truth b) i,
    ends_by x _ _ instr.ReturnValue h.line f refl,
    refl,
    g.text,
    g.memory,
    g.framed,
    λ c q. subst (λ t. IsOf t (a_truth b)) e (of_truth b),
  )
  returns aside h _ _ s pc pc2 i (zero_index k) e (of_index _ z p) g f = (
    Some z,
    valued pc [] (an_index z) i,
    ends_by x _ _ instr.ReturnValue h.line f refl,
    refl,
    g.text,
    g.memory,
    g.framed,
    λ c q. subst (λ t. IsOf t (an_index z)) e (of_index k z p),
  )

  -- ---- blocks and loops

  -- a block in its own scope
  pub scoped_by : (aside : Aside 0) (h : Here) (body : Block) (s : State) (pc : ℕ) (i j : Instance) →
      params ≤ length h.scope.names → Agrees x params slots aside h s j →
      Does x params slots aside i pc (record h { scope = scope_after_block h.tree h.scope body })
      (exec_block h body s) →
      Does x params slots aside i pc h (scoped (exec_block h body) s)
  scoped_by aside h body s pc i j low g d =
      does_cut aside pc (length s.names) h (record h { scope = scope_after_block h.tree h.scope body }) i
      (exec_block h body s) low (block_grown h.tree h.scope body) refl g.count g.inside d
