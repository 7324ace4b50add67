-- Loops: the code of a loop does what its rounds mean.
use Rattle.check_laws.proofs.Widths.{wider_left, wider_right}
use Rattle.machine_terms.specs.declared.value.Value.{Value as MachineValue}
use Rattle.task_code.specs.declared.instr.Instr.{Instr}
use Rattle.machine_terms.specs.declared.order.Contents.{Contents}
use Rattle.code_laws.proofs.Rows.{does_before, does_said, fewer, fewer_turns, jumps_back, no_turn, relimit, tests, then_going, three_least, pays_from}
use Rattle.std.proofs.lemmas.Int.{ints}
use Rattle.lane_kernels.specs.declared.numbers.Width.TheVariants.{W32, W64}
use Rattle.lane_kernels.specs.Numbers.{FitsWidth}
use Rattle.std.proofs.Common.{◌≡◌, ℕ, zero, suc, ◌<◌, ◌≤◌, ℤ, pos, ◌+ℤ◌, [], ◌∷◌, ◌++◌, Bool, true, false, Some, refl, ap, ◌∙◌, subst, arith}
use Rattle.std.specs.Prelude.{length, take, slice_get, nat_lt, int_lt}
use Rattle.std.proofs.lemmas.Bool.{lt-ltb}
use Rattle.std.proofs.lemmas.Option.{slice_get-get_or, get_or_from_slice_get}
use Rattle.std.proofs.lemmas.List.{get_or-set_same, get_or-set_other, get_or-take}
use Rattle.std.proofs.Math.ListN.{get_or-append}
use Rattle.lane_kernels.specs.declared.numbers.Width.{Width}
use Rattle.regent_tree.specs.declared.outcome.FaultKind.TheVariants.{Turns}
use Rattle.regent_tree.specs.declared.typing.StaticType.{StaticType}
use Rattle.regent_tree.specs.Syntax.{Name, Expression}
use Rattle.regent_tree.specs.Typing.{arithmetic_type, width_of_type}
use Rattle.regent_tree.specs.Values.{Value, a_number, number_of, Region, a_region}
use Rattle.regent_tree.specs.Running.{State, Here, Run, Result, gives, fails, given, and_then, ◌>>=◌, fault, pay_from}
use Rattle.regent_tree.specs.Evaluation.{value}
use Rattle.regent_tree.specs.Execution.{Going, goes_on, returned, going_on, leaving, scoped, turning, counting, bind, looping}
use Rattle.task_code.specs.declared.instr.Instr.TheVariants as instr
use Rattle.regent_tree.specs.Numbers.{distance, wider}
use Rattle.machine_terms.specs.declared.value.Value.TheVariants as machine
use Rattle.machine_terms.specs.Segments.{act}
use Rattle.machine_terms.specs.Machine.{goes, when, broken, at, put, with_turns, on_turn, next}
use Rattle.machine_terms.specs.Jumps.{fetch, turns_back, goes_back, count_round, round, leave}
use Rattle.machine_terms.specs.declared.order.Ended.TheVariants.{Broke}
use Rattle.machine_terms.specs.declared.order.Instance.{Instance}
use Rattle.code_rules.specs.Pieces.{Piece, op, loop, rounds, past}
use Rattle.code_rules.specs.Slots.{typed, slot, counter, beside}
use Rattle.code_rules.specs.Expressions.{expr_code}
use Rattle.code_laws.specs.Steps.{Setting, machine_of, placed, on_step, Leads, Ends, HasMore}
use Rattle.code_laws.specs.Standing.{IsInside, program_of, Stands, machine_value, IsOf, of_integer, blank, nothing, Aside, where_of, Agrees, RegionsStay, SlotsFit, Does, GoesToPart}
use Rattle.code_laws.specs.Pointers.{IsPointed}
use Rattle.code_laws.specs.Simple.{IsInteger, an_integer, IsTruth}
use Rattle.code_laws.specs.Typed.{CountsDown, IsTyped}
use Rattle.code_laws.proofs.Runs.{leads_none, leads_end, leads_by, ends_by, then}
use Rattle.code_laws.proofs.Values.{number_inside, past_later}
use Rattle.code_laws.proofs.Good.{valued, Good}
use Rattle.code_laws.proofs.Operations.{truth_of_type}
use Rattle.code_laws.proofs.Expressions.{value_runs}
use Rattle.code_laws.proofs.Names.{Grown}
use Rattle.code_laws.proofs.Pointing.{IsNoRegion}
use Rattle.code_laws.proofs.Under.{value_under}
use Rattle.code_laws.proofs.States.{stored, bound_more, aside_stored, enters, leaves_round}
use Rattle.code_laws.proofs.Besides.{none_there}

-- ---- numbers that fit

next_fits : (w : Width) (z b : ℤ) → FitsWidth w z → FitsWidth w b → int_lt z b ≡ true → FitsWidth w (z +ℤ pos 1)
next_fits W32 z b p q e = grind (arith, ints)
next_fits W64 z b p q e = grind (arith, ints)

module _ (x : Setting) (params slots : ℕ) (fit : SlotsFit x slots) (counts : CountsDown) where
  -- a loop with a test, from the place of the test; its body is known to run
  pub turning_runs : (k : ℕ) (aside : Aside 0) (h : Here) (test : Expression) (body : Run Going)
      (code : Piece) (s : State) (pc : ℕ) (i : Instance) → params ≤ length h.scope.names →
      IsTruth (typed (where_of params h) test) → IsTyped x.forms (where_of params h) test →
      k ≤ aside.turns → Agrees x params slots (record aside { turns = k }) h s i →
      Stands x.body pc (loop h.line (expr_code (where_of params h) 0 test) code) →
      ((n : ℕ) (s1 : State) (j : Instance) → Agrees x params slots (record aside { turns = n }) h s1 j →
      Does x params slots (record aside { turns = n }) (placed (suc (suc pc)) [] j)
      (past code (suc (suc pc))) h (body s1)) →
      Does x params slots aside (placed (past code (suc (suc pc))) [] i)
      (past (loop h.line (expr_code (where_of params h) 0 test) code) pc) h
      (turning h k (value h test) body s)
  turning_runs zero aside h test body code s pc i low ty fine under g f more =
      let t = typed (where_of params h) test in
      let a = past code (suc (suc pc)) in
      let b = past (expr_code (where_of params h) 0 test) a in
      let none = record aside { turns = 0 } in
      let said = does_said x params slots fit counts aside (suc (suc b)) h in
      then x said (valued b []) (Good x params slots fit none h t) _ (value h test s) _
      (value_runs x params slots fit none h 0 low test s a [] i fine g f.3)
      (λ v s1 j k. tests x params slots fit counts b (suc (suc b)) h.line j v s1 (fault h Turns) (given goes_on) _ said
      (truth_of_type x params slots fit none t v ty k.0) (omega arith) f.4
      (leads_end x (jumps_back x params slots fit counts (suc b) (suc pc) h.line h.line j f.1 f.5)
      (no_turn x params slots fit counts none (suc pc) h s1 j k.1 (omega (arith, k.1.bound)) f.1))
      (j, leads_none x _, relimit x params slots fit counts none aside.turns h s1 j (omega (arith, k.1.bound)) k.1))
  turning_runs (suc n) aside h test body code s pc i low ty fine under g f more =
      let t = typed (where_of params h) test in
      let a = past code (suc (suc pc)) in
      let b = past (expr_code (where_of params h) 0 test) a in
      let some = record aside { turns = suc n } in
      let said = does_said x params slots fit counts aside (suc (suc b)) h in
      then x said (valued b []) (Good x params slots fit some h t) _ (value h test s) _
      (value_runs x params slots fit some h 0 low test s a [] i fine g f.3)
      (λ v s1 j k. tests x params slots fit counts b (suc (suc b)) h.line j v s1 _ (given goes_on) _ said
      (truth_of_type x params slots fit some t v ty k.0) (omega arith) f.4
      (does_before x params slots fit counts aside _ _ _ _ _ (jumps_back x params slots fit counts (suc b) (suc pc) h.line h.line j f.1 f.5)
      (pays_from x params slots fit counts s1.turns some (suc pc) (suc (suc b)) h h s1 j _ said _ k.1 refl f.1
      (λ s2 j2 e k2. then_going x params slots fit counts (record aside { turns = n }) aside a (suc (suc b)) h h _ (body s2) _
      (more n s2 j2 (relimit x params slots fit counts some n h s2 j2 (omega (arith, e, k.1.bound)) k2))
      (λ s3 j3 k3. turning_runs n aside h test body code s3 pc j3 low ty fine (omega (arith, under)) k3 f more))))
      (j, leads_none x _, relimit x params slots fit counts some aside.turns h s1 j (omega (arith, k.1.bound, under)) k.1))

  -- ---- counted loops

  -- what follows a round: its names are left
  then_round : (aside aside2 : Aside 0) (pc pc2 n : ℕ) (h2 h3 : Here) (i : Instance) (r : Result Going)
      (rest : Run Going) → Does x params slots aside i pc h2 r →
      ((s : State) (j : Instance) → Agrees x params slots aside h2 s j → HasMore i.frame.own j.frame.own →
      Does x params slots aside2 (placed pc [] j) pc2 h3 (rest (record s { names = take n s.names }))) →
      Does x params slots aside2 i pc2 h3 (and_then (leaving n r) (λ g. going_on rest g))
  then_round aside aside2 pc pc2 n h2 h3 i (gives goes_on s) rest d more =
      does_before x params slots fit counts aside2 pc2 h3 i _ (rest (record s { names = take n s.names })) d.1 (more s d.0 d.2 d.1.own)
  then_round aside aside2 pc pc2 n h2 h3 i (gives (returned v) s) rest d more = (d.0, d.1, d.2, d.3, d.4, d.5, d.6, d.7)
  then_round aside aside2 pc pc2 n h2 h3 i (fails f s) rest d more = d

  -- the instance after a loop's head
  abbrev pub headed : ℕ → ℕ → MachineValue → ℤ → ℕ → Instance → Instance
  headed c v put z n i =
      stored c (machine.Number (z +ℤ pos 1)) (stored v put (fewer_turns x params slots fit counts n i))

  -- the head: nothing is left, or there is no turn, or a round begins
  head_acts : (pc c l v to line : ℕ) (z b : ℤ) (i : Instance) →
      slice_get i.frame.slots c ≡ Some (machine.Number z) →
      slice_get i.frame.slots l ≡ Some (machine.Number b) →
      act x.code x.body (instr.NextNumber c l v to) line (machine_of (placed pc [] i))
      ≡ count_round c v to line (machine_of (placed pc [] i)) (Some (machine.Number z)) (Some (machine.Number b))
  head_acts pc c l v to line z b i e f =
      let m = machine_of (placed pc [] i) in
      ap (λ o. count_round c v to line m o (slice_get i.frame.slots l)) e
      ∙ ap (count_round c v to line m (Some (machine.Number z))) f

  head_leaves : (pc c l v to line : ℕ) (z b : ℤ) (i : Instance) → pc < to → int_lt z b ≡ false →
      slice_get i.frame.slots c ≡ Some (machine.Number z) →
      slice_get i.frame.slots l ≡ Some (machine.Number b) →
      Stands x.body pc (op (instr.NextNumber c l v to) line) →
      Leads x (placed pc [] i) (placed to [] i)
  head_leaves pc c l v to line z b i later none e f st =
      let m = machine_of (placed pc [] i) in
      leads_by x _ _ (instr.NextNumber c l v to) line st
      (ap (on_step x (placed pc [] i)) (head_acts pc c l v to line z b i e f
      ∙ ap (λ t. elim t [ true ↦ on_turn m.frame.turns line m (round c v z z) | false ↦ leave to m ]) none
      ∙ ap (λ t. when t (goes (at to [] m)) (broken m)) (lt-ltb pc to later)))

  head_faults : (pc c l v to line : ℕ) (z b : ℤ) (i : Instance) → int_lt z b ≡ true → i.frame.turns ≡ 0 →
      slice_get i.frame.slots c ≡ Some (machine.Number z) →
      slice_get i.frame.slots l ≡ Some (machine.Number b) →
      Stands x.body pc (op (instr.NextNumber c l v to) line) →
      Ends x (placed pc [] i) (Broke (Some (record { kind = Turns; line = line })) i.text)
  head_faults pc c l v to line z b i some t e f st =
      let m = machine_of (placed pc [] i) in
      ends_by x _ _ (instr.NextNumber c l v to) line st
      (ap (on_step x (placed pc [] i)) (head_acts pc c l v to line z b i e f
      ∙ ap (λ t. elim t [ true ↦ on_turn m.frame.turns line m (round c v z z) | false ↦ leave to m ]) some
      ∙ ap (λ k. on_turn k line m (round c v z z)) t))

  head_goes_on : (pc c l v to line n : ℕ) (z b : ℤ) (i : Instance) → int_lt z b ≡ true →
      i.frame.turns ≡ suc n → v < length i.frame.slots →
      slice_get i.frame.slots c ≡ Some (machine.Number z) →
      slice_get i.frame.slots l ≡ Some (machine.Number b) →
      Stands x.body pc (op (instr.NextNumber c l v to) line) →
      Leads x (placed pc [] i) (placed (suc pc) [] (headed c v (machine.Number z) z n i))
  head_goes_on pc c l v to line n z b i some t room e f st =
      let m = machine_of (placed pc [] i) in
      let p = with_turns n m in
      leads_by x _ _ (instr.NextNumber c l v to) line st
      (ap (on_step x (placed pc [] i)) (head_acts pc c l v to line z b i e f
      ∙ ap (λ t. elim t [ true ↦ on_turn m.frame.turns line m (round c v z z) | false ↦ leave to m ]) some
      ∙ ap (λ k. on_turn k line m (round c v z z)) t
      ∙ ap (λ q. when q (next [] (put c (machine.Number (z +ℤ pos 1)) (put v (machine.Number z) p))) (broken p))
      (lt-ltb v (length i.frame.slots) room)))

  -- a jump back to a head whose exit is behind the jump
  jumps_to_head : (pc to line line2 : ℕ) (head : Instr) (i : Instance) → turns_back pc head ≡ true →
      Stands x.body to (op head line2) →
      Stands x.body pc (op (instr.Jump to) line) → Leads x (placed pc [] i) (placed to [] i)
  jumps_to_head pc to line line2 head i back t f = leads_by x _ _ (instr.Jump to) line f
      (ap (λ b. on_step x (placed pc [] i) (when b (goes (at to [] (machine_of (placed pc [] i))))
      (broken (machine_of (placed pc [] i))))) (may (nat_lt pc to)))
    where
      may : (b : Bool) → elim b [ true ↦ true | false ↦ goes_back pc (fetch x.body to) ] ≡ true
      may true = refl
      may false = ap (goes_back pc) t ∙ back

  -- A loop's head at a place begins a round with a value, where there is a turn; a jump from the body's end
  -- may go back to it.
  pub record IsHead (h : Here) (head : Instr) (from pc : ℕ) (put : MachineValue) (z : ℤ) (i : Instance) : Type 0 where
    pub back : turns_back from head ≡ true
    pub counts_in : suc (counter (where_of params h) (length h.scope.names)) ≤ slots
    pub keeps_in : suc (beside (where_of params h) (length h.scope.names)) ≤ slots
    pub puts_in : suc (slot (where_of params h) (length h.scope.names)) ≤ slots
    pub faults : i.frame.turns ≡ 0 →
        Ends x (placed pc [] i) (Broke (Some (record { kind = Turns; line = h.line })) i.text)
    pub begins : (m : ℕ) → i.frame.turns ≡ suc m → Leads x (placed pc [] i)
        (placed (suc pc) [] (headed (counter (where_of params h) (length h.scope.names))
        (slot (where_of params h) (length h.scope.names)) put z m i))

  -- one round, and what comes after it
  pub one_round : (m : ℕ) (aside : Aside 0) (h h2 : Here) (n : Name) (t : StaticType) (item : Value)
      (body : Run Going) (code : Piece) (z : ℤ) (keeps : MachineValue) (head : ℕ → Instr) (s : State) (pc : ℕ) (i : Instance) →
      IsOf t item → IsInside x s.store t item → IsPointed h.scope.names s.names t item → IsNoRegion item →
      ((q : Region) → GoesToPart t item q → (keeps ≡ machine_value i.contents (a_region q)) × (q.root < length s.store)) → params ≤ length h.scope.names →
      IsHead h (head (suc (past code (suc pc)))) (past code (suc pc)) pc (machine_value i.contents item) z i →
      Agrees x params slots aside h s i →
      slice_get i.frame.slots (beside (where_of params h) (length h.scope.names)) ≡ Some keeps →
      Stands x.body pc (rounds head h.line code) →
      Grown h.scope.names h2.scope.names → program_of h2 ≡ program_of h →
      ((aside2 : Aside 0) (s1 : State) (j : Instance) → Agrees x params slots aside2 (looping h n t) s1 j →
      Does x params slots aside2 (placed (suc pc) [] j) (past code (suc pc)) h2 (body s1)) →
      (rest : Run Going) → s.turns ≡ m →
      ((s3 : State) (j3 : Instance) → Agrees x params slots aside h s3 j3 →
      slice_get j3.frame.slots (counter (where_of params h) (length h.scope.names))
      ≡ Some (machine.Number (z +ℤ pos 1)) →
      slice_get j3.frame.slots (beside (where_of params h) (length h.scope.names)) ≡ Some keeps →
      RegionsStay (length h.scope.names) s.names s3.names → HasMore i.frame.own j3.frame.own →
      Does x params slots aside (placed pc [] j3) (suc (past code (suc pc))) h (rest s3)) →
      Does x params slots aside (placed pc [] i) (suc (past code (suc pc))) h
      (and_then (and_then (pay_from m h s) (λ _. scoped (bind item >>= λ _. body)))
      (λ g. going_on rest g))
  one_round zero aside h h2 n t item body code z keeps head s pc i ty inside pointed none part low is g el f grown tree more rest q again =
      subst (λ u. Ends x (placed pc [] i) (Broke (Some (record { kind = Turns; line = h.line })) u)) g.text
      (is.faults (g.turns ∙ q))
  one_round (suc m) aside h h2 n t item body code z keeps head s pc i ty inside pointed none part low is g el f grown tree more rest q again =
      let w = where_of params h in
      let k = length h.scope.names in
      let c = counter w k in
      let l = beside w k in
      let v = slot w k in
      let put = machine_value i.contents item in
      let s1 = record s { turns = m } in
      let i1 = fewer_turns x params slots fit counts m i in
      let g1 = fewer x params slots fit counts m aside h s i (omega (arith, q)) g in
      let s2 = record s1 { names = s.names ++ item ∷ [] } in
      let i2 = stored v put i1 in
      let j = headed c v put z m i in
      let g2 = bound_more x params slots fit aside h s1 i1 n t true item low
      (omega (arith, is.puts_in)) ty inside pointed (value_under x.forms.takes h.scope.names s.names t item none) (λ q goes. (get_or_from_slice_get i.frame.slots l keeps blank el ∙ (part q goes).0, (part q goes).1)) g1 in
      let up : aside.upto ≤ k = omega (arith, g.inside, g.count) in
      let g3 = aside_stored x params slots fit aside (looping h n t) s2 i2 k 1 (machine.Number (z +ℤ pos 1))
      low up (omega arith) (omega arith) (omega arith) refl g2 in
      let aside2 : Aside 0 = record { upto = suc k; slots = j.frame.slots; names = s2.names; turns = m; held = λ p. blank } in
      let g4 = enters x params slots fit aside (looping h n t) s2 j (suc k) (omega (arith, g3.count)) g3 in
      let e = past code (suc pc) in
      does_before x params slots fit counts aside (suc e) h _ _ _ (is.begins m (g.turns ∙ q))
      (then_round aside2 aside e (suc e) (length s.names) h2 h _ (body s2) rest (more aside2 s2 j g4)
      (λ s3 j3 g5 more_own.
      let bigger : length j3.frame.slots ≡ slots = g5.slots_are in
      let kept_number = g5.hidden k low (omega arith) in
      let cs : slice_get j3.frame.slots c ≡ Some (machine.Number (z +ℤ pos 1)) =
      slice_get-get_or j3.frame.slots c blank (omega (arith, bigger, is.counts_in))
      ∙ ap Some (kept_number.0 ∙ get_or-set_same i2.frame.slots c (machine.Number (z +ℤ pos 1)) blank
      (omega (arith, is.counts_in, g2.slots_are))) in
      let ls : slice_get j3.frame.slots l ≡ Some keeps =
      slice_get-get_or j3.frame.slots l blank (omega (arith, bigger, is.keeps_in))
      ∙ ap Some (kept_number.1 ∙ get_or-set_other i2.frame.slots c l _ blank (λ q. omega (arith, q))
      ∙ get_or-set_other i.frame.slots v l _ blank (λ q. omega (arith, q))
      ∙ get_or_from_slice_get i.frame.slots l keeps blank el) in
      does_before x params slots fit counts aside (suc e) h _ _ _ (jumps_to_head e pc h.line h.line (head (suc e)) j3 is.back f.0 f.2)
      (again (record s3 { names = take (length s.names) s3.names }) j3
      (leaves_round x params slots fit aside aside2 h h2 (length s.names) s2 s3 j j3 low refl (omega (arith, up))
      (omega (arith, g.bound, q)) grown tree g.count (omega (arith, up, g.count)) g3.hidden g3.steady g5) cs ls
      (λ p q l d. get_or-take (length s.names) s3.names p nothing (omega (arith, l, g.count))
      ∙ g5.steady p q (omega (arith, l)) (get_or-append s.names (item ∷ []) nothing p (omega (arith, l, g.count)) ∙ d)) more_own)))

  -- from the head on
  pub counting_runs : (k : ℕ) (aside : Aside 0) (h h2 : Here) (n : Name) (t : StaticType) (wd : Width)
      (body : Run Going) (code : Piece) (z b : ℤ) (s : State) (pc : ℕ) (i : Instance) →
      ((y : ℤ) → FitsWidth wd y → IsOf t (a_number wd y)) → FitsWidth wd z → FitsWidth wd b → params ≤ length h.scope.names → distance z b ≡ k →
      Agrees x params slots aside h s i →
      slice_get i.frame.slots (counter (where_of params h) (length h.scope.names)) ≡ Some (machine.Number z) →
      slice_get i.frame.slots (beside (where_of params h) (length h.scope.names)) ≡ Some (machine.Number b) →
      Stands x.body pc (rounds (instr.NextNumber (counter (where_of params h) (length h.scope.names))
      (beside (where_of params h) (length h.scope.names)) (slot (where_of params h) (length h.scope.names))) h.line code) →
      Grown h.scope.names h2.scope.names → program_of h2 ≡ program_of h →
      ((aside2 : Aside 0) (s1 : State) (j : Instance) → Agrees x params slots aside2 (looping h n t) s1 j →
      Does x params slots aside2 (placed (suc pc) [] j) (past code (suc pc)) h2 (body s1)) →
      Does x params slots aside (placed pc [] i) (suc (past code (suc pc))) h
      (counting h k wd z body s)
  counting_runs zero aside h h2 n t wd body code z b s pc i ty fz fb low e g ec el f grown tree more =
      let later : pc < suc (past code (suc pc)) = omega (arith, past_later code (suc pc)) in
      (i, head_leaves pc _ _ _ _ h.line z b i later (counts.none z b e) ec el f.0, g)
  counting_runs (suc k) aside h h2 n t wd body code z b s pc i ty fz fb low e g ec el f grown tree more =
      let c = counts.some k z b e in
      let w = where_of params h in
      let m = length h.scope.names in
      let to = suc (past code (suc pc)) in
      let used = three_least (counter w m) (beside w m) (slot w m) slots (fit pc _ f.0) in
      one_round s.turns aside h h2 n t (a_number wd z) body code z (machine.Number b)
      (instr.NextNumber (counter w m) (beside w m) (slot w m)) s pc i (ty z fz) (number_inside x s.store t wd z (ty z fz)) tt (λ q e. absurd cc) (λ q goes. absurd (none_there q goes.regions)) low
      (record {
        back = lt-ltb (past code (suc pc)) to (omega arith);
        counts_in = used.0;
        keeps_in = used.1;
        puts_in = used.2;
        faults = λ none. head_faults pc _ _ _ to h.line z b i c.0 none ec el f.0;
        begins = λ more some. head_goes_on pc (counter w m) (beside w m) (slot w m) to h.line more z b i c.0 some
            (omega (arith, used.2, g.slots_are)) ec el f.0;
      }) g el f grown tree more
      (counting h k wd (z +ℤ pos 1) body) refl
      (λ s3 j3 g3 e3 f3 stay own. counting_runs k aside h h2 n t wd body code (z +ℤ pos 1) b s3 pc j3 ty (next_fits wd z b fz fb c.0) fb low c.1 g3
      e3 f3 f grown tree more)

  pub integer_kept : (c : Contents) (t : StaticType) (v : Value) → IsInteger t → IsOf t v →
      machine_value c v ≡ machine.Number (number_of v)
  integer_kept c _ _ (an_integer w) (of_integer _ z _) = refl

  pub loop_typed : (t u : StaticType) (y : ℤ) → IsInteger t → IsInteger u → FitsWidth (width_of_type (arithmetic_type t u)) y →
      IsOf (arithmetic_type t u) (a_number (width_of_type (arithmetic_type t u)) y)
  loop_typed _ _ y (an_integer a) (an_integer b) p = of_integer (wider a b) y p

  -- the bounds of a loop fit its width
  pub from_fits : (t u : StaticType) (v : Value) → IsInteger t → IsInteger u → IsOf t v →
      FitsWidth (width_of_type (arithmetic_type t u)) (number_of v)
  from_fits _ _ _ (an_integer a) (an_integer b) (of_integer _ z p) = wider_left a b z p

  pub to_fits : (t u : StaticType) (v : Value) → IsInteger t → IsInteger u → IsOf u v →
      FitsWidth (width_of_type (arithmetic_type t u)) (number_of v)
  to_fits _ _ _ (an_integer a) (an_integer b) (of_integer _ z p) = wider_right a b z p
