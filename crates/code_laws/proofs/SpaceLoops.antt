-- A loop over an index space: its variable is each index, in order.
use Rattle.std.proofs.Common.{◌≡◌, ℕ, zero, suc, ◌+◌, ◌<◌, ◌≤◌, pos, ◌+ℤ◌, [], ◌∷◌, true, false, None, Some, refl, ap, ◌∙◌, arith}
use Rattle.std.specs.Prelude.{cond, length, map, slice_get}
use Rattle.std.proofs.lemmas.Bool.{eq-eqb, lt-ltb, ne_eqb}
use Rattle.std.proofs.lemmas.Int.{ints}
use Rattle.plain_values.specs.Points.{counted_from}
use Rattle.lane_kernels.specs.Numbers.{FitsWidth}
use Rattle.lane_kernels.specs.declared.numbers.Width.TheVariants.{W64}
use Rattle.regent_tree.specs.Execution.{Going, items_of, looping, rounds as rounds_over}
use Rattle.regent_tree.specs.Running.{State, Here, Run}
use Rattle.regent_tree.specs.Syntax.{Name}
use Rattle.regent_tree.specs.Values.{Value, an_index}
use Rattle.regent_tree.specs.declared.types.Kind.{Kind}
use Rattle.regent_tree.specs.declared.typing.StaticType.TheVariants.{Index as index_type}
use Rattle.task_code.specs.declared.instr.Instr.TheVariants as instr
use Rattle.machine_terms.specs.declared.order.Instance.{Instance}
use Rattle.machine_terms.specs.declared.value.Value.TheVariants as machine
use Rattle.machine_terms.specs.Jumps.{leave, point_at, point_round, points_round, round, take_point}
use Rattle.machine_terms.specs.Machine.{at, broken, goes, next, on_turn, put, when, with_turns}
use Rattle.machine_terms.specs.Segments.{act}
use Rattle.code_rules.specs.Pieces.{Piece, op, past, rounds}
use Rattle.code_rules.specs.Slots.{beside, counter, slot}
use Rattle.code_laws.specs.Simple.{IsSpace, a_space_type}
use Rattle.code_laws.proofs.Good.{valued}
use Rattle.code_laws.proofs.States.{aside_stored, stored, stores}
use Rattle.regent_tree.specs.Typing.{is_pointer, taken_from}
use Rattle.regent_tree.specs.declared.typing.StaticType.{StaticType}
use Rattle.std.proofs.lemmas.List.{get_or-set_other, get_or-set_same}
use Rattle.std.proofs.lemmas.Option.{slice_get-get_or}
use Rattle.code_laws.specs.Standing.{Agrees, Aside, Does, IsOf, SlotsFit, Stands, blank, of_index, of_space, program_of, where_of}
use Rattle.code_laws.specs.Steps.{Setting, machine_of, placed, on_step, Leads}
use Rattle.code_laws.specs.Typed.{CountsDown}
use Rattle.code_laws.proofs.Loops.{one_round}
use Rattle.code_laws.proofs.Names.{Grown}
use Rattle.code_laws.proofs.Rows.{does_before, three_least}
use Rattle.code_laws.proofs.Runs.{ends_by, leads_by, leads_twice}
use Rattle.code_laws.proofs.Values.{past_later}
use Rattle.code_laws.proofs.Besides.{none_there}

module _ (x : Setting) (params slots : ℕ) (fit : SlotsFit x slots) (counts : CountsDown) where
  -- the head, with an index space and a counter in their slots
  head_acts : (pc s c v to line n k : ℕ) (i : Instance) → slice_get i.frame.slots s ≡ Some (machine.Space n) →
      slice_get i.frame.slots c ≡ Some (machine.Number (pos k)) →
      act x.code x.body (instr.NextPoint s c v false to) line (machine_of (placed pc [] i))
      ≡ point_round c v false to line k (machine_of (placed pc [] i)) (machine.Space n) (Some n)
  head_acts pc s c v to line n k i e f =
      let m = machine_of (placed pc [] i) in
      ap (λ o. points_round c v false to line m o (slice_get i.frame.slots c)) e
      ∙ ap (points_round c v false to line m (Some (machine.Space n))) f

  -- nothing is left
  head_leaves : (pc s c v to line n : ℕ) (i : Instance) → pc < to → slice_get i.frame.slots s ≡ Some (machine.Space n) →
      slice_get i.frame.slots c ≡ Some (machine.Number (pos n)) →
      Stands x.body pc (op (instr.NextPoint s c v false to) line) → Leads x (placed pc [] i) (placed to [] i)
  head_leaves pc s c v to line n i later e f st =
      let m = machine_of (placed pc [] i) in
      leads_by x _ _ (instr.NextPoint s c v false to) line st
      (ap (on_step x (placed pc [] i)) (head_acts pc s c v to line n n i e f
      ∙ ap (λ b. elim b [ true ↦ leave to m | false ↦ take_point c v false line n m (point_at (machine.Space n) n) ]) (eq-eqb n n refl)
      ∙ ap (λ b. when b (goes (at to [] m)) (broken m)) (lt-ltb pc to later)))

  -- there is an index
  takes : (pc s c v to line n k : ℕ) (i : Instance) → k < n → slice_get i.frame.slots s ≡ Some (machine.Space n) →
      slice_get i.frame.slots c ≡ Some (machine.Number (pos k)) →
      act x.code x.body (instr.NextPoint s c v false to) line (machine_of (placed pc [] i))
      ≡ on_turn i.frame.turns line (machine_of (placed pc [] i)) (round c v (pos k) (pos k))
  takes pc s c v to line n k i low e f =
      let m = machine_of (placed pc [] i) in
      head_acts pc s c v to line n k i e f
      ∙ ap (λ b. elim b [ true ↦ leave to m | false ↦ take_point c v false line k m (point_at (machine.Space n) k) ])
      (ne_eqb k n (λ q. omega (arith, q, low)))
      ∙ ap (λ b. take_point c v false line k m (cond b (Some k) None)) (lt-ltb k n low)

  -- from an index on
  pub over_space : (left k n : ℕ) (aside : Aside 0) (h h2 : Here) (name : Name) (kind : Kind) (body : Run Going) (code : Piece)
      (s : State) (pc : ℕ) (i : Instance) → k + left ≡ n → n ≤ 4194304 → params ≤ length h.scope.names →
      Agrees x params slots aside h s i →
      slice_get i.frame.slots (counter (where_of params h) (length h.scope.names)) ≡ Some (machine.Number (pos k)) →
      slice_get i.frame.slots (beside (where_of params h) (length h.scope.names)) ≡ Some (machine.Space n) →
      Stands x.body pc (rounds (instr.NextPoint (beside (where_of params h) (length h.scope.names))
      (counter (where_of params h) (length h.scope.names)) (slot (where_of params h) (length h.scope.names)) false) h.line code) →
      Grown h.scope.names h2.scope.names → program_of h2 ≡ program_of h →
      ((aside2 : Aside 0) (s1 : State) (j : Instance) → Agrees x params slots aside2 (looping h name (index_type kind)) s1 j →
      Does x params slots aside2 (placed (suc pc) [] j) (past code (suc pc)) h2 (body s1)) →
      Does x params slots aside (placed pc [] i) (suc (past code (suc pc))) h
      (rounds_over h (map (λ i. an_index (pos i)) (counted_from k left)) body s)
  over_space zero k n aside h h2 name kind body code s pc i e small low g ec es f grown same more =
      let w = where_of params h in
      let m = length h.scope.names in
      let later : pc < suc (past code (suc pc)) = omega (arith, past_later code (suc pc)) in
      let all : pos k ≡ pos n = ap pos (omega (arith, e)) in (
        i,
        head_leaves pc (beside w m) (counter w m) (slot w m) (suc (past code (suc pc))) h.line n i later es
            (ec ∙ ap (λ z. Some (machine.Number z)) all) f.0,
        g,
      )
  over_space (suc left) k n aside h h2 name kind body code s pc i e small low g ec es f grown same more =
      let w = where_of params h in
      let m = length h.scope.names in
      let c = counter w m in
      let l = beside w m in
      let v = slot w m in
      let to = suc (past code (suc pc)) in
      let below : k < n = omega (arith, e) in
      let used = three_least l c v slots (fit pc _ f.0) in
      let fits : FitsWidth W64 (pos k) = omega (arith, ints, below, small) in
      let next_is : pos k +ℤ pos 1 ≡ pos (suc k) = omega (arith, ints) in
      let room : v < length i.frame.slots = omega (arith, used.2, g.slots_are) in
      let m0 = machine_of (placed pc [] i) in
      one_round x params slots fit counts s.turns aside h h2 name (index_type kind) (an_index (pos k)) body code (pos k) (machine.Space n)
      (instr.NextPoint l c v false) s pc i (of_index kind (pos k) fits) tt tt (λ q e. absurd cc) (λ q goes. absurd (none_there q goes.regions)) low
      (record {
        back = lt-ltb (past code (suc pc)) to (omega arith);
        counts_in = used.1;
        keeps_in = used.0;
        puts_in = used.2;
        faults = λ none. ends_by x _ _ (instr.NextPoint l c v false to) h.line f.0
            (ap (on_step x (placed pc [] i)) (takes pc l c v to h.line n k i below es ec
            ∙ ap (λ t. on_turn t h.line m0 (round c v (pos k) (pos k))) none));
        begins = λ more some. leads_by x _ _ (instr.NextPoint l c v false to) h.line f.0
            (ap (on_step x (placed pc [] i)) (takes pc l c v to h.line n k i below es ec
            ∙ ap (λ t. on_turn t h.line m0 (round c v (pos k) (pos k))) some
            ∙ ap (λ q. when q (next [] (put c (machine.Number (pos k +ℤ pos 1)) (put v (machine.Number (pos k)) (with_turns more m0)))) (broken (with_turns more m0)))
            (lt-ltb v (length i.frame.slots) room)));
      }) g es f grown same more
      (rounds_over h (map (λ i. an_index (pos i)) (counted_from (suc k) left)) body) refl
      (λ s3 j3 g3 e3 f3 stay own. over_space left (suc k) n aside h h2 name kind body code s3 pc j3 (omega (arith, e)) small low g3
      (e3 ∙ ap (λ z. Some (machine.Number z)) next_is) f3 f grown same more)

  -- a loop over a space that stands on the stack
  pub spaces_run : (aside : Aside 0) (h h2 : Here) (name : Name) (t : StaticType) (v : Value) (body : Run Going) (code : Piece)
      (s : State) (pc : ℕ) (i : Instance) → IsSpace t → IsOf t v → params ≤ length h.scope.names →
      Agrees x params slots aside h s i →
      Stands x.body pc (op (instr.Store (beside (where_of params h) (length h.scope.names))) h.line) →
      Stands x.body (suc pc) (op (instr.Num (pos 0)) h.line) →
      Stands x.body (suc (suc pc)) (op (instr.Store (counter (where_of params h) (length h.scope.names))) h.line) →
      Stands x.body (suc (suc (suc pc))) (rounds (instr.NextPoint (beside (where_of params h) (length h.scope.names))
      (counter (where_of params h) (length h.scope.names)) (slot (where_of params h) (length h.scope.names)) (is_pointer (taken_from t))) h.line code) →
      Grown h.scope.names h2.scope.names → program_of h2 ≡ program_of h →
      ((aside2 : Aside 0) (s1 : State) (j : Instance) → Agrees x params slots aside2 (looping h name (taken_from t)) s1 j →
      Does x params slots aside2 (placed (suc (suc (suc (suc pc)))) [] j) (past code (suc (suc (suc (suc pc))))) h2 (body s1)) →
      Does x params slots aside (valued pc [] v i) (suc (past code (suc (suc (suc (suc pc)))))) h (rounds_over h (items_of v) body s)
  spaces_run aside h h2 name _ _ body code s pc i (a_space_type kind) (of_space _ n small) low g f1 f2 f3 f4 grown same more =
      let w = where_of params h in
      let k = length h.scope.names in
      let c = counter w k in
      let l = beside w k in
      let up : aside.upto ≤ k = omega (arith, g.inside, g.count) in
      let j3 = stored l (machine.Space n) i in
      let j4 = stored c (machine.Number (pos 0)) j3 in
      let g3 = aside_stored x params slots fit aside h s i k 2 (machine.Space n) low up (omega arith) (omega arith) (omega arith) refl g in
      let g4 = aside_stored x params slots fit aside h s j3 k 1 (machine.Number (pos 0)) low up (omega arith) (omega arith) (omega arith) refl g3 in
      let cs : slice_get j4.frame.slots c ≡ Some (machine.Number (pos 0)) =
      slice_get-get_or j4.frame.slots c blank (omega (arith, g4.slots_are, fit _ _ f3))
      ∙ ap Some (get_or-set_same j3.frame.slots c (machine.Number (pos 0)) blank (omega (arith, g3.slots_are, fit _ _ f3))) in
      let ls : slice_get j4.frame.slots l ≡ Some (machine.Space n) =
      slice_get-get_or j4.frame.slots l blank (omega (arith, g4.slots_are, fit _ _ f1))
      ∙ ap Some (get_or-set_other j3.frame.slots c l _ blank (λ q. omega (arith, q))
      ∙ get_or-set_same i.frame.slots l (machine.Space n) blank (omega (arith, g.slots_are, fit _ _ f1))) in
      does_before x params slots fit counts aside _ h _ _ _
      (leads_twice x (stores x params slots fit l pc h.line (machine.Space n) [] i g.slots_are f1)
      (leads_twice x (leads_by x (placed (suc pc) [] j3) (placed (suc (suc pc)) (machine.Number (pos 0) ∷ []) j3) (instr.Num (pos 0)) h.line f2 refl)
      (stores x params slots fit c (suc (suc pc)) h.line (machine.Number (pos 0)) [] j3 g3.slots_are f3)))
      (over_space n 0 n aside h h2 name kind body code s (suc (suc (suc pc))) j4 (omega arith) small low g4 cs ls f4 grown same more)
