-- A loop over a region: its variable is a pointer to each point, in order.
use Rattle.std.proofs.Common.{◌≡◌, ℕ, suc, ◌+◌, ◌^◌, ◌<◌, ◌≤◌, List, pos, ◌+ℤ◌, [], ◌∷◌, ◌++◌, true, false, Some, refl, sym, ap, ◌∙◌, arith, append_assoc, length-append, subst}
use Rattle.std.specs.Prelude.{length, map, slice_get, get_or}
use Rattle.std.proofs.lemmas.Bool.{eq-eqb, lt-ltb, ne_eqb}
use Rattle.std.proofs.lemmas.Int.{ints}
use Rattle.std.proofs.lemmas.List.{get_or-set_other, get_or-set_same}
use Rattle.std.proofs.lemmas.Option.{slice_get-get_or}
use Rattle.std.proofs.Math.Seq.{get_or-append_seam}
use Rattle.plain_values.specs.Points.{has}
use Rattle.point_sets.proofs.Rising.{has_head, has_tail}
use Rattle.regent_tree.specs.Execution.{Going, looping, rounds as rounds_over}
use Rattle.regent_tree.specs.Running.{State, Here, Run}
use Rattle.regent_tree.specs.StaticTypes.{Reach}
use Rattle.regent_tree.specs.Syntax.{Name}
use Rattle.regent_tree.specs.Values.{Region, Value, a_pointer, a_region, kept_target, point_target}
use Rattle.regent_tree.specs.declared.types.Kind.{Kind}
use Rattle.regent_tree.specs.declared.typing.StaticType.TheVariants.{Pointer as pointer_type}
use Rattle.task_code.specs.declared.instr.Instr.TheVariants as instr
use Rattle.machine_terms.specs.declared.order.Instance.{Instance}
use Rattle.machine_terms.specs.declared.value.RegionValue.{RegionValue}
use Rattle.machine_terms.specs.declared.value.Value.TheVariants as machine
use Rattle.machine_terms.specs.Jumps.{leave, point_at, point_round, points_round, round, take_point}
use Rattle.machine_terms.specs.Machine.{at, broken, goes, next, on_turn, put, when, with_turns}
use Rattle.machine_terms.specs.Makes.{region_with}
use Rattle.machine_terms.specs.Segments.{act}
use Rattle.code_rules.specs.Pieces.{Piece, op, past, rounds}
use Rattle.code_rules.specs.Slots.{beside, counter, slot}
use Rattle.memory_laws.specs.Places.{number_at}
use Rattle.code_laws.specs.Pointers.{AreReached}
use Rattle.code_laws.specs.Standing.{Agrees, Aside, Does, SlotsFit, Stands, blank, of_pointer, program_of, where_of, machine_value}
use Rattle.code_laws.specs.Steps.{Setting, machine_of, placed, on_step, Leads}
use Rattle.code_laws.specs.Typed.{CountsDown}
use Rattle.code_laws.proofs.Good.{valued}
use Rattle.code_laws.proofs.Loops.{one_round}
use Rattle.code_laws.proofs.Names.{Grown}
use Rattle.code_laws.proofs.Pointing.{reached_stays}
use Rattle.code_laws.proofs.Rows.{does_before, three_least}
use Rattle.code_laws.proofs.Runs.{ends_by, leads_by, leads_twice}
use Rattle.code_laws.proofs.States.{aside_stored, stored, stores}
use Rattle.code_laws.proofs.Values.{past_later}
use Rattle.code_laws.proofs.Staying.{numbers_stay, roots_stay}

-- the pointers to points of a region
abbrev pub pointers_to : Region → List ℕ → List Value
pointers_to q ns = map (λ n. a_pointer (point_target n 1) (q ∷ [])) ns

-- lists of one region
pub only_one : (q d : Region) → q ∷ [] ≡ d ∷ [] → q ≡ d
only_one q d e = ap (λ qs. get_or qs 0 q) e

module _ (x : Setting) (params slots : ℕ) (fit : SlotsFit x slots) (counts : CountsDown) where
  -- the head, with a region and a counter in their slots
  head_acts : (pc s c v to line k : ℕ) (r : RegionValue) (i : Instance) → slice_get i.frame.slots s ≡ Some (machine.Region r) →
      slice_get i.frame.slots c ≡ Some (machine.Number (pos k)) →
      act x.code x.body (instr.NextPoint s c v true to) line (machine_of (placed pc [] i))
      ≡ point_round c v true to line k (machine_of (placed pc [] i)) (machine.Region r) (Some (length r.points))
  head_acts pc s c v to line k r i e f =
      let m = machine_of (placed pc [] i) in
      ap (λ o. points_round c v true to line m o (slice_get i.frame.slots c)) e
      ∙ ap (points_round c v true to line m (Some (machine.Region r))) f

  -- nothing is left
  head_leaves : (pc s c v to line : ℕ) (r : RegionValue) (i : Instance) → pc < to → slice_get i.frame.slots s ≡ Some (machine.Region r) →
      slice_get i.frame.slots c ≡ Some (machine.Number (pos (length r.points))) →
      Stands x.body pc (op (instr.NextPoint s c v true to) line) → Leads x (placed pc [] i) (placed to [] i)
  head_leaves pc s c v to line r i later e f st =
      let m = machine_of (placed pc [] i) in
      let n = length r.points in
      leads_by x _ _ (instr.NextPoint s c v true to) line st
      (ap (on_step x (placed pc [] i)) (head_acts pc s c v to line n r i e f
      ∙ ap (λ b. elim b [ true ↦ leave to m | false ↦ take_point c v true line n m (point_at (machine.Region r) n) ]) (eq-eqb n n refl)
      ∙ ap (λ b. when b (goes (at to [] m)) (broken m)) (lt-ltb pc to later)))

  -- there is a point
  takes : (pc s c v to line k n : ℕ) (r : RegionValue) (i : Instance) → k < length r.points → slice_get r.points k ≡ Some n →
      slice_get i.frame.slots s ≡ Some (machine.Region r) → slice_get i.frame.slots c ≡ Some (machine.Number (pos k)) →
      act x.code x.body (instr.NextPoint s c v true to) line (machine_of (placed pc [] i))
      ≡ on_turn i.frame.turns line (machine_of (placed pc [] i)) (round c v (pos (2 ^ 32 + n)) (pos k))
  takes pc s c v to line k n r i low is e f =
      let m = machine_of (placed pc [] i) in
      head_acts pc s c v to line k r i e f
      ∙ ap (λ b. elim b [ true ↦ leave to m | false ↦ take_point c v true line k m (point_at (machine.Region r) k) ])
      (ne_eqb k (length r.points) (λ q. omega (arith, q, low)))
      ∙ ap (λ o. take_point c v true line k m o) is

  -- the point behind those that were taken
  point_behind : (done left : List ℕ) (n : ℕ) → slice_get (done ++ n ∷ left) (length done) ≡ Some n
  point_behind done left n =
      slice_get-get_or (done ++ n ∷ left) (length done) 0 (omega (arith, length-append done (n ∷ left)))
      ∙ ap (λ k. Some k) (get_or-append_seam done n left 0)

  -- from a point on
  over_points : (left done : List ℕ) (q : Region) (aside : Aside 0) (h h2 : Here) (name : Name) (kind : Kind) (sp : ℕ) (args : List Reach)
      (r : Reach) (body : Run Going) (code : Piece)
      (s : State) (pc : ℕ) (i : Instance) (ri : ℕ) → number_at i.contents q.root ≡ ri → q.root < length s.store → q.points ≡ done ++ left → ((n : ℕ) → has q.points n ≡ true → n < 2 ^ 32) →
      ((n : ℕ) → has left n ≡ true → has q.points n ≡ true) → params ≤ length h.scope.names →
      AreReached h.scope.names s.names sp (r ∷ []) (q ∷ []) →
      Agrees x params slots aside h s i →
      slice_get i.frame.slots (counter (where_of params h) (length h.scope.names)) ≡ Some (machine.Number (pos (length done))) →
      slice_get i.frame.slots (beside (where_of params h) (length h.scope.names)) ≡ Some (machine.Region (region_with ri q.points)) →
      Stands x.body pc (rounds (instr.NextPoint (beside (where_of params h) (length h.scope.names))
      (counter (where_of params h) (length h.scope.names)) (slot (where_of params h) (length h.scope.names)) true) h.line code) →
      Grown h.scope.names h2.scope.names → program_of h2 ≡ program_of h →
      ((aside2 : Aside 0) (s1 : State) (j : Instance) →
      Agrees x params slots aside2 (looping h name (pointer_type kind sp args (r ∷ []))) s1 j →
      Does x params slots aside2 (placed (suc pc) [] j) (past code (suc pc)) h2 (body s1)) →
      Does x params slots aside (placed pc [] i) (suc (past code (suc pc))) h (rounds_over h (pointers_to q left) body s)
  over_points [] done q aside h h2 name kind sp args r body code s pc i ri num there e small inner low reach g ec es f grown same more =
      let w = where_of params h in
      let m = length h.scope.names in
      let later : pc < suc (past code (suc pc)) = omega (arith, past_later code (suc pc)) in
      let all : length done ≡ length q.points = sym (ap length e ∙ length-append done [] ∙ omega arith) in (
        i,
        head_leaves pc (beside w m) (counter w m) (slot w m) (suc (past code (suc pc))) h.line (region_with ri q.points) i later es
            (ec ∙ ap (λ z. Some (machine.Number (pos z))) all) f.0,
        g,
      )
  over_points (n ∷ left) done q aside h h2 name kind sp args r body code s pc i ri num there e small inner low reach g ec es f grown same more =
      let w = where_of params h in
      let m = length h.scope.names in
      let c = counter w m in
      let l = beside w m in
      let v = slot w m in
      let k = length done in
      let t = pointer_type kind sp args (r ∷ []) in
      let item = a_pointer (point_target n 1) (q ∷ []) in
      let to = suc (past code (suc pc)) in
      let below : k < length q.points = omega (arith, ap length e, length-append done (n ∷ left)) in
      let at_k : slice_get q.points k ≡ Some n = ap (λ ns. slice_get ns k) e ∙ point_behind done left n in
      let used = three_least l c v slots (fit pc _ f.0) in
      let near : n < 2 ^ 32 = small n (inner n (has_head n left)) in
      let next_is : pos k +ℤ pos 1 ≡ pos (length (done ++ n ∷ [])) = omega (arith, ints, length-append done (n ∷ [])) in
      let kept_is : pos (2 ^ 32 + n) ≡ kept_target (point_target n 1) = ap pos (omega arith) in
      let room : v < length i.frame.slots = omega (arith, used.2, g.slots_are) in
      let m0 = machine_of (placed pc [] i) in
      let rv = region_with ri q.points in
      one_round x params slots fit counts s.turns aside h h2 name t item body code (pos k) (machine.Region rv)
      (instr.NextPoint l c v true) s pc i (of_pointer kind sp args (r ∷ []) (point_target n 1) (q ∷ []) (near, omega arith)) tt
      reach (λ d e. absurd cc)
      (λ d goes. subst (λ (c : Region). (machine.Region rv ≡ machine_value i.contents (a_region c)) × (c.root < length s.store)) (only_one q d goes.regions)
      (ap (λ k. machine.Region (region_with k q.points)) (sym num), there)) low
      (record {
        back = lt-ltb (past code (suc pc)) to (omega arith);
        counts_in = used.1;
        keeps_in = used.0;
        puts_in = used.2;
        faults = λ none. ends_by x _ _ (instr.NextPoint l c v true to) h.line f.0
            (ap (on_step x (placed pc [] i)) (takes pc l c v to h.line k n rv i below at_k es ec
            ∙ ap (λ t. on_turn t h.line m0 (round c v (pos (2 ^ 32 + n)) (pos k))) none));
        begins = λ more some. leads_by x _ _ (instr.NextPoint l c v true to) h.line f.0
            (ap (on_step x (placed pc [] i)) (takes pc l c v to h.line k n rv i below at_k es ec
            ∙ ap (λ t. on_turn t h.line m0 (round c v (pos (2 ^ 32 + n)) (pos k))) some
            ∙ ap (λ q. when q (next [] (put c (machine.Number (pos k +ℤ pos 1)) (put v (machine.Number (pos (2 ^ 32 + n))) (with_turns more m0)))) (broken (with_turns more m0)))
            (lt-ltb v (length i.frame.slots) room)
            ∙ ap (λ z. next [] (put c (machine.Number (pos k +ℤ pos 1)) (put v (machine.Number z) (with_turns more m0)))) kept_is));
      }) g es f grown same more
      (rounds_over h (pointers_to q left) body) refl
      (λ s3 j3 g3 e3 f3 stay own. over_points left (done ++ n ∷ []) q aside h h2 name kind sp args r body code s3 pc j3 ri
      (numbers_stay x params slots aside aside h h s s3 i j3 g g3 own q.root there ∙ num) (roots_stay x params slots aside aside h h s s3 i j3 g g3 own q.root there)
      (e ∙ sym (append_assoc done (n ∷ []) left)) small (λ p d. inner p (has_tail p n left d)) low
      (reached_stays h.scope.names s.names s3.names sp (r ∷ []) (q ∷ []) stay reach) g3
      (e3 ∙ ap (λ z. Some (machine.Number z)) next_is) f3 f grown same more)

  -- a loop over the region that stands on the stack
  pub regions_run : (aside : Aside 0) (h h2 : Here) (name : Name) (kind : Kind) (sp : ℕ) (args : List Reach) (r : Reach) (q : Region)
      (body : Run Going) (code : Piece) (s : State) (pc : ℕ) (i : Instance) → ((n : ℕ) → has q.points n ≡ true → n < 2 ^ 32) → q.root < length s.store →
      params ≤ length h.scope.names →
      AreReached h.scope.names s.names sp (r ∷ []) (q ∷ []) →
      Agrees x params slots aside h s i →
      Stands x.body pc (op (instr.Store (beside (where_of params h) (length h.scope.names))) h.line) →
      Stands x.body (suc pc) (op (instr.Num (pos 0)) h.line) →
      Stands x.body (suc (suc pc)) (op (instr.Store (counter (where_of params h) (length h.scope.names))) h.line) →
      Stands x.body (suc (suc (suc pc))) (rounds (instr.NextPoint (beside (where_of params h) (length h.scope.names))
      (counter (where_of params h) (length h.scope.names)) (slot (where_of params h) (length h.scope.names)) true) h.line code) →
      Grown h.scope.names h2.scope.names → program_of h2 ≡ program_of h →
      ((aside2 : Aside 0) (s1 : State) (j : Instance) →
      Agrees x params slots aside2 (looping h name (pointer_type kind sp args (r ∷ []))) s1 j →
      Does x params slots aside2 (placed (suc (suc (suc (suc pc)))) [] j) (past code (suc (suc (suc (suc pc))))) h2 (body s1)) →
      Does x params slots aside (valued pc [] (a_region q) i) (suc (past code (suc (suc (suc (suc pc)))))) h
      (rounds_over h (pointers_to q q.points) body s)
  regions_run aside h h2 name kind sp args r q body code s pc i small there low reach g f1 f2 f3 f4 grown same more =
      let w = where_of params h in
      let k = length h.scope.names in
      let c = counter w k in
      let l = beside w k in
      let rv = machine.Region (region_with (number_at i.contents q.root) q.points) in
      let up : aside.upto ≤ k = omega (arith, g.inside, g.count) in
      let j3 = stored l rv i in
      let j4 = stored c (machine.Number (pos 0)) j3 in
      let g3 = aside_stored x params slots fit aside h s i k 2 rv low up (omega arith) (omega arith) (omega arith) refl g in
      let g4 = aside_stored x params slots fit aside h s j3 k 1 (machine.Number (pos 0)) low up (omega arith) (omega arith) (omega arith) refl g3 in
      let cs : slice_get j4.frame.slots c ≡ Some (machine.Number (pos 0)) =
      slice_get-get_or j4.frame.slots c blank (omega (arith, g4.slots_are, fit _ _ f3))
      ∙ ap Some (get_or-set_same j3.frame.slots c (machine.Number (pos 0)) blank (omega (arith, g3.slots_are, fit _ _ f3))) in
      let ls : slice_get j4.frame.slots l ≡ Some rv =
      slice_get-get_or j4.frame.slots l blank (omega (arith, g4.slots_are, fit _ _ f1))
      ∙ ap Some (get_or-set_other j3.frame.slots c l _ blank (λ q. omega (arith, q))
      ∙ get_or-set_same i.frame.slots l rv blank (omega (arith, g.slots_are, fit _ _ f1))) in
      does_before x params slots fit counts aside _ h _ _ _
      (leads_twice x (stores x params slots fit l pc h.line rv [] i g.slots_are f1)
      (leads_twice x (leads_by x (placed (suc pc) [] j3) (placed (suc (suc pc)) (machine.Number (pos 0) ∷ []) j3) (instr.Num (pos 0)) h.line f2 refl)
      (stores x params slots fit c (suc (suc pc)) h.line (machine.Number (pos 0)) [] j3 g3.slots_are f3)))
      (over_points q.points [] q aside h h2 name kind sp args r body code s (suc (suc (suc pc))) j4 (number_at i.contents q.root) refl there refl small
      (λ n e. e) low reach g4 cs ls f4 grown same more)
