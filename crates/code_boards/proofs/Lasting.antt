-- The run in order over the code ends within a number of segments that the code and the turns tell.
use Rattle.std.proofs.Common.{◌≡◌, ◌&&◌, ℕ, zero, suc, ◌+◌, ◌*◌, ◌≤◌, ℤ, pos, List, [], ◌∷◌, ◌++◌, Bool, true, false, cond, Option, Some, None, refl, sym, ap, ◌∙◌, arith, map, option_map, eq-eqb}
use Rattle.std.specs.Prelude.{length, nat_lt, nat_le, slice_get}
use Rattle.std.proofs.Math.Nat.{suc-mul}
use Rattle.std.proofs.lemmas.Bool.{ltb-true}
use Rattle.std.proofs.lemmas.Option.{none-some, slice_get-map}
use Rattle.region_tree.specs.Requirements.{Requirement}
use Rattle.regent_tree.specs.Values.{Target, null_target, point_target, target_kept}
use Rattle.task_code.specs.declared.code.Code.{Code}
use Rattle.task_code.specs.declared.code.TaskCode.{TaskCode}
use Rattle.task_code.specs.declared.instr.Instr.{Instr}
use Rattle.task_code.specs.declared.instr.Instr.TheVariants as instr
use Rattle.machine_terms.specs.declared.frame.Frame.{Frame}
use Rattle.machine_terms.specs.declared.outcome.CallOut.{CallOut}
use Rattle.machine_terms.specs.declared.outcome.Made.{Made}
use Rattle.machine_terms.specs.declared.outcome.Made.TheVariants as made
use Rattle.machine_terms.specs.declared.outcome.Yield.{Yield}
use Rattle.machine_terms.specs.declared.outcome.Yield.TheVariants as yield
use Rattle.machine_terms.specs.declared.value.RegionValue.{RegionValue}
use Rattle.machine_terms.specs.declared.value.Value.{Value}
use Rattle.machine_terms.specs.declared.value.Value.TheVariants.{Number, Space, Region, Partition, Pending}
use Rattle.machine_terms.specs.Machine.{Machine}
use Rattle.machine_terms.specs.Pointers.{aim, aim_in, region_in as region_of, slot_at as region_at}
use Rattle.machine_terms.specs.Segments.{frame_after, stop_of}
use Rattle.board_rules.specs.Ground.{Ground}
use Rattle.board_rules.specs.Processes.{Map, Result, done, fails, prefix, spent}
use Rattle.board_rules.specs.NumberedRuns.{Counting, Making, Run, bind_run, children_run, go_run, go_then, just, numbered_run}
use Rattle.board_rules.specs.Running.{Call, Element, Machine as BoardMachine, answer_at, calls, filled, make}
use Rattle.regent_boards.specs.Laws as laws
use Rattle.regent_boards.specs.RegentMachine.{fields_of, grown_by, met_frame, met_value, needs_of_root, pushed_on, regent_ground, root_of}
use Rattle.region_tree.specs.declared.needs.Needs.{Needs}
use Rattle.machine_terms.specs.Parts.{is_needed}
use Rattle.regent_boards.specs.Frames as board
use Rattle.code_boards.specs.Views.{board_segment, called, called_with, frame_in, frame_out, last_frame, made_out, needs_in, numbers_in_parts, opened_with, parts_in, refused, spaces_of, region_in, region_out, required_all, value_in, value_out, with_numbers, yield_out, before_in}
use Rattle.machine_terms.proofs.StepKinds.{Fixed, key_of, slot_of, pointer_key, region_key, aimed_key, still}
use Rattle.machine_terms.proofs.Kept.{stop_fixed}
use Rattle.order_laws.proofs.Waits.{AfterStop, Answers, AsksAlike, Passed, Within, twice}
use Rattle.order_laws.proofs.Rounds.{ends_soon}
use Rattle.machine_terms.proofs.Fuel.{anywhere}
use Rattle.order_laws.proofs.Ends.{stop_sooner}
use Rattle.code_boards.proofs.Filled.{want_held}
use Rattle.segment_regions.proofs.Asked.{IsAsked, segments_ask}

-- ---- a frame that the board has seen asks for the same

abbrev plain : RegionValue → RegionValue
plain r = region_in (region_out r)

region_seen : (o : Option Value) → region_of (option_map value_in (option_map value_out o)) ≡ option_map plain (region_of o)
region_seen None = refl
region_seen (Some (Number z)) = refl
region_seen (Some (Space k)) = refl
region_seen (Some (Region r)) = refl
region_seen (Some (Partition p)) = refl
region_seen (Some (Pending i)) = refl

slots_seen : (slots : List Value) (s : ℕ) →
    slice_get (map value_in (map value_out slots)) s ≡ option_map value_in (option_map value_out (slice_get slots s))
slots_seen slots s = slice_get-map value_in (map value_out slots) s ∙ ap (option_map value_in) (slice_get-map value_out slots s)

regions_seen : (slots : List Value) (s : ℕ) →
    region_of (slice_get (map value_in (map value_out slots)) s) ≡ option_map plain (region_of (slice_get slots s))
regions_seen slots s = ap region_of (slots_seen slots s) ∙ region_seen (slice_get slots s)

key_plain : (g : ℕ) (o : Option RegionValue) → region_key g (option_map plain o) ≡ region_key g o
key_plain g None = refl
key_plain g (Some r) = refl

aim_plain : (o : Option RegionValue) (n : ℕ) → aim_in (option_map plain o) n ≡ aim_in o n
aim_plain None n = refl
aim_plain (Some r) n = choice (Rattle.plain_values.specs.Points.has r.points n)
  where
    choice : (b : Bool) → Rattle.machine_terms.specs.Pointers.aim_if b (plain r) n ≡ Rattle.machine_terms.specs.Pointers.aim_if b r n
    choice true = refl
    choice false = refl

module _ (g : board.Frame) (x : Frame) where
  region_at_seen : (o : Option ℕ) → region_at (map value_in (map value_out x.slots)) o ≡ option_map plain (region_at x.slots o)
  region_at_seen None = refl
  region_at_seen (Some s) = regions_seen x.slots s

  aim_seen : (rs : List ℕ) (t : Target) → aim (still (frame_in (frame_out g x))) rs t ≡ aim (still x) rs t
  aim_seen rs null_target = refl
  aim_seen rs (point_target n zero) = refl
  aim_seen rs (point_target n (suc i)) = ap (λ o. aim_in o n) (region_at_seen (slice_get rs i)) ∙ aim_plain (region_at x.slots (slice_get rs i)) n

  pointer_seen : (rs : List ℕ) (f : ℕ) (st : List Value) →
      pointer_key (frame_in (frame_out g x)) rs f (map value_in (map value_out st)) ≡ pointer_key x rs f st
  pointer_seen rs f [] = refl
  pointer_seen rs f (Number z ∷ st) = ap (aimed_key f) (aim_seen rs (target_kept z))
  pointer_seen rs f (Space k ∷ st) = refl
  pointer_seen rs f (Region r ∷ st) = refl
  pointer_seen rs f (Partition p ∷ st) = refl
  pointer_seen rs f (Pending i ∷ st) = refl

  region_key_seen : (f s : ℕ) → region_key f (region_of (slice_get (map value_in (map value_out x.slots)) s)) ≡ region_key f (region_of (slice_get x.slots s))
  region_key_seen f s = ap (region_key f) (regions_seen x.slots s) ∙ key_plain f (region_of (slice_get x.slots s))

  key_seen : (i : Instr) → key_of i (frame_in (frame_out g x)) ≡ key_of i x
  key_seen (instr.Read rs f) = pointer_seen rs f x.stack
  key_seen (instr.Write rs f w) = pointer_seen rs f x.stack
  key_seen (instr.Reduce rs f o w) = pointer_seen rs f x.stack
  key_seen (instr.Fill s f w) = region_key_seen f s
  key_seen (instr.ByField s f) = region_key_seen f s
  key_seen (instr.Image s p r f) = region_key_seen f r
  key_seen (instr.Preimage s p r f) = region_key_seen f r
  key_seen _ = refl

  asks_seen : AsksAlike x (frame_in (frame_out g x))
  asks_seen None = refl
  asks_seen (Some l) = key_seen l.instr

-- the number of an answer
abbrev answered : Option ℤ → ℤ
answered (Some z) = z
answered None = pos 0

met_self : (q : board.Spaces) (i : ℕ) (o : Option ℤ) → value_in (met_value q i o (board.pending i)) ≡ Number (answered o)
met_self q i (Some z) = ap (λ b. value_in (cond b (board.a_number z) (board.pending i))) (eq-eqb i i refl)
met_self q i None = ap (λ b. value_in (cond b (board.a_number (pos 0)) (board.pending i))) (eq-eqb i i refl)

slot_met : (q : board.Spaces) (i : ℕ) (o : Option ℤ) (slots : List Value) (s : ℕ) → slice_get slots s ≡ Some (Pending i) →
    slice_get (map value_in (map (met_value q i o) (map value_out slots))) s ≡ Some (Number (answered o))
slot_met q i o slots s e =
    slice_get-map value_in (map (met_value q i o) (map value_out slots)) s
    ∙ ap (option_map value_in) (slice_get-map (met_value q i o) (map value_out slots) s ∙ ap (option_map (met_value q i o)) (slice_get-map value_out slots s))
    ∙ ap (λ p. option_map value_in (option_map (met_value q i o) (option_map value_out p))) e
    ∙ ap (λ v. Some v) (met_self q i o)

answers_seen : (q : board.Spaces) (g : board.Frame) (x : Frame) (i : ℕ) (a : board.Answer) →
    Answers i (answered a.value) x (frame_in (met_frame q (frame_out g x) i a))
answers_seen q g x i a None e = absurd (none-some (Pending i) e)
answers_seen q g x i a (Some l) e = by_instr l.instr e
  where
    by_instr : (j : Instr) → slot_of j x ≡ Some (Pending i) → slot_of j (frame_in (met_frame q (frame_out g x) i a)) ≡ Some (Number (answered a.value))
    by_instr (instr.Load s) e = slot_met q i a.value x.slots s e
    by_instr _ e = absurd (none-some (Pending i) e)

-- ---- runs that end

module _ (code : Code) (turns : ℕ) where
  abbrev G : Ground
  G = regent_ground (spaces_of code)

  abbrev M : ℕ → BoardMachine G
  M = laws.by_number (spaces_of code) (board_segment code turns)

  prefix_spent : {A : Type 0} (t : List ℕ) (r : Result G A) → prefix G t r ≡ spent → r ≡ spent
  prefix_spent t (done a u m) e = absurd cc
  prefix_spent t (fails x u) e = absurd cc
  prefix_spent t spent e = refl

  bind_done : {A B : Type 0} (F : Counting G M A) (k : A → Counting G M B) (n : ℕ) (m : Map G) →
      ((F n m).result ≡ spent → ⊥) → ((a : A) (n : ℕ) (m : Map G) → (k a n m).result ≡ spent → ⊥) →
      (bind_run G M F k n m).result ≡ spent → ⊥
  bind_done {A = A} {B = B} F k n m h g = by_result (F n m).made (F n m).result h
    where
      by_result : (xs : List Making) (r : Result G A) → (r ≡ spent → ⊥) → (go_then G M {B = B} n xs r k).result ≡ spent → ⊥
      by_result xs (done a t m) h e = g a _ m (prefix_spent t _ e)
      by_result xs (fails x t) h e = absurd cc
      by_result xs spent h e = h refl

  cond_done : {A : Type 0} (b : Bool) (r q : Run G A) → (r.result ≡ spent → ⊥) → (q.result ≡ spent → ⊥) → (cond b r q).result ≡ spent → ⊥
  cond_done true r q h g = h
  cond_done false r q h g = g

  -- ---- calls

  record Good (depth : ℕ) (x : Call G) : Type 0 where
    task : TaskCode
    found : slice_get code.tasks x.frame.task ≡ Some task
    needs : x.frame.needs ≡ x.needs
    has_turns : x.frame.turns ≡ turns
    deeper : x.frame.depth ≡ suc depth

  -- where it may be made
  abbrev IfMade : ℕ → Call G → Type 0
  IfMade depth x = x.may ≡ true → Good depth x

  abbrev AllGood : ℕ → List (Call G) → Type 0
  AllGood depth [] = Unit {0}
  AllGood depth (x ∷ xs) = IfMade depth x × AllGood depth xs

  called_good : (depth : ℕ) (c : CallOut) → IfMade depth (called code turns depth c)
  called_good depth c = by_task (slice_get code.tasks c.task) refl
    where
      by_needs : (t : TaskCode) → slice_get code.tasks c.task ≡ Some t → (b : Bool) (q : Option (List Requirement)) →
          IfMade depth (cond b (opened_with code turns depth c.task t.slots (map value_out c.args) q) (refused code))
      by_needs t e true (Some q) made = record { task = t; found = e; needs = refl; has_turns = refl; deeper = refl }
      by_needs t e true None made = absurd cc
      by_needs t e false q made = absurd cc

      by_task : (o : Option TaskCode) → slice_get code.tasks c.task ≡ o → IfMade depth (called_with code turns depth c.task (map value_out c.args) o)
      by_task None e = λ made. absurd cc
      by_task (Some t) e = by_needs t e (nat_le (length (map value_out c.args)) t.slots) (required_all code t.needs (map value_out c.args))

  all_good : (depth : ℕ) (cs : List CallOut) → AllGood depth (map (called code turns depth) cs)
  all_good depth [] = tt
  all_good depth (c ∷ cs) = (called_good depth c, all_good depth cs)

  -- ---- the number of segments

  -- of an instance of a task, with its waits
  abbrev pub bound : TaskCode → ℕ
  bound t = twice code t.body (anywhere code t.body turns)

  abbrev pub most : List TaskCode → ℕ
  most [] = 0
  most (t ∷ ts) = bound t + most ts

  pub bound_most : (ts : List TaskCode) (k : ℕ) (t : TaskCode) → slice_get ts k ≡ Some t → bound t ≤ most ts
  bound_most [] k t e = absurd (none-some t e)
  bound_most (u ∷ ts) zero t e = let same = ap bound (same_task u t e) in omega (arith, same)
    where
      same_task : (u t : TaskCode) → Some u ≡ Some t → u ≡ t
      same_task u t e = ap (λ o. elim o as (λ q. TaskCode) [ Some v ↦ v | None ↦ u ]) e
  bound_most (u ∷ ts) (suc k) t e = omega (arith, bound_most ts k t e)

  -- ---- an instance ends

  abbrev pub here : board.Frame → List (Element G) → Machine
  here f ps = record { frame = frame_in f; parts = parts_in code ps }

  -- with so much room for segments, where an instance ends within a number of steps and so many calls may
  -- nest below it
  abbrev pub Lasts : ℕ → Type 0
  Lasts k = (e n : ℕ) (t : TaskCode) (p : List ℕ) (N : List Requirement) (i : ℕ) (f : board.Frame) (ps : List (Element G))
      (vs : List board.Answer) (c : ℕ) (m : Map G) → slice_get code.tasks f.task ≡ Some t → f.needs ≡ N →
      n + e * most code.tasks ≤ k → 64 ≤ f.depth + e → Within code t.body n (here f ps) →
      (numbered_run G M k p N i f ps vs c m).result ≡ spent → ⊥

  module _ (k : ℕ) (more : Lasts k) (e n : ℕ) (t : TaskCode) (p : List ℕ) (N : List Requirement) (i : ℕ) (f : board.Frame)
      (ps : List (Element G)) (vs : List board.Answer) (c : ℕ) (m : Map G) (found : slice_get code.tasks f.task ≡ Some t)
      (needs : f.needs ≡ N) (room : suc n + e * most code.tasks ≤ suc k) (deep : 64 ≤ f.depth + e) where
    -- a child
    child_done : (x : Call G) → Good f.depth x → nat_lt f.depth 64 ≡ true → (q : List ℕ) (d : ℕ) (u : Map G) →
        (numbered_run G M k q x.needs 0 x.frame [] [] d u).result ≡ spent → ⊥
    child_done x h shallow q d u = by_room e room deep
      where
        by_room : (e : ℕ) → suc n + e * most code.tasks ≤ suc k → 64 ≤ f.depth + e →
            (numbered_run G M k q x.needs 0 x.frame [] [] d u).result ≡ spent → ⊥
        by_room zero r l = absurd (omega (arith, l, ltb-true f.depth 64 shallow))
        by_room (suc e) r l = more e (bound h.task) h.task q x.needs 0 x.frame [] [] d u h.found h.needs
            (omega (arith, r, suc-mul e (most code.tasks), bound_most code.tasks x.frame.task h.task h.found))
            (omega (arith, l, h.deeper))
            (ends_soon code h.task.body turns (here x.frame []) h.has_turns)

    made_only : (b t : Bool) (r q : Run G (List board.Answer)) → (b ≡ true → r.result ≡ spent → ⊥) → (q.result ≡ spent → ⊥) →
        (cond (b && t) r q).result ≡ spent → ⊥
    made_only true t r q h g = cond_done t r q (h refl) g
    made_only false t r q h g = g

    children_done : (xs : List (Call G)) → AllGood f.depth xs → nat_lt f.depth 64 ≡ true → (b d : ℕ) (u : Map G) →
        (children_run G M (numbered_run G M k) p N b xs d u).result ≡ spent → ⊥
    children_done [] h shallow b d u = λ e. absurd cc
    children_done (x ∷ xs) h shallow b d u = made_only x.may ((M d).inside x.needs N) _ _
        (λ made. bind_done (numbered_run G M k (b ∷ p) x.needs 0 x.frame [] []) (λ v. bind_run G M (children_run G M (numbered_run G M k) p N (suc b) xs) (λ vs. just G M (v ∷ vs))) d u
        (child_done x (h.0 made) shallow (b ∷ p) d u)
        (λ v d u. bind_done (children_run G M (numbered_run G M k) p N (suc b) xs) (λ vs. just G M (v ∷ vs)) d u
        (children_done xs h.1 shallow (suc b) d u) (λ vs d u e. absurd cc)))
        (λ e. absurd cc)

    -- the instance goes on behind a stop
    module _ (x : Machine) (fx : Fixed (here f ps) x) where
      abbrev g : board.Frame
      g = frame_out f x.frame

      passed : Passed x.frame (frame_in g)
      passed = record { task = sym fx.task; pc = refl; turns = refl; depth = refl }

      on : (q : List (Element G)) (ws : List board.Answer) (d : ℕ) (u : Map G) → Within code t.body n (here g q) →
          (numbered_run G M k p N i g q ws d u).result ≡ spent → ⊥
      on q ws d u w = more e n t p N i g q ws d u found needs (omega (arith, room)) (omega (arith, deep, fx.depth)) w

      calls_done : (xs : List (Call G)) (q : List (Element G)) →
          ((d : ℕ) (u : Map G) → (children_run G M (numbered_run G M k) p N (length vs) xs d u).result ≡ spent → ⊥) →
          ((y : Machine) → Passed x.frame y.frame → Within code t.body n y) →
          (go_run G M (numbered_run G M k) p N i vs g q (calls xs) c m).result ≡ spent → ⊥
      calls_done xs q children w = bind_done (children_run G M (numbered_run G M k) p N (length vs) xs)
          (λ ws. numbered_run G M k p N i g [] (vs ++ ws)) c _
          (children c _)
          (λ ws d u. on [] (vs ++ ws) d u (w (here g []) passed))

      -- behind a making
      made_on : (d : board.Made) (q : List (Element G)) (u : Map G) → ((y : Machine) → Passed x.frame y.frame → Within code t.body n y) →
          Passed x.frame (frame_in (pushed_on (spaces_of code) c i d g)) → (pushed_on (spaces_of code) c i d g).needs ≡ grown_by (spaces_of code) c d N →
          64 ≤ (pushed_on (spaces_of code) c i d g).depth + e → slice_get code.tasks (pushed_on (spaces_of code) c i d g).task ≡ Some t →
          (numbered_run G M k p (grown_by (spaces_of code) c d N) (suc i) (pushed_on (spaces_of code) c i d g) q vs (suc c) u).result ≡ spent → ⊥
      made_on d q u w ready same low task = more e n t p (grown_by (spaces_of code) c d N) (suc i) (pushed_on (spaces_of code) c i d g) q vs (suc c) u
          task same (omega (arith, room)) low (w (here (pushed_on (spaces_of code) c i d g) q) ready)

      made_done : (d : Made) (q : List (Element G)) → ((y : Machine) → Passed x.frame y.frame → Within code t.body n y) →
          (go_run G M (numbered_run G M k) p N i vs g q (make (made_out d)) c m).result ≡ spent → ⊥
      made_done (made.Root size space) q w = made_on (made_out (made.Root size space)) q _ w
          (record { task = sym fx.task; pc = refl; turns = refl; depth = refl })
          (ap (λ rs. rs ++ needs_of_root (spaces_of code) (root_of space size c) size (fields_of (spaces_of code) space)) needs)
          (omega (arith, deep, fx.depth)) found
      made_done (made.Partition r sets disjoint) q w = cond_done ((M c).sound (made_out (made.Partition r sets disjoint))) _ _
          (made_on (made_out (made.Partition r sets disjoint)) q _ w (record { task = sym fx.task; pc = refl; turns = refl; depth = refl }) needs
          (omega (arith, deep, fx.depth)) found)
          (λ e. absurd cc)

      by_yield : (y : Yield) (q : List (Element G)) → IsAsked y x → AfterStop (Within code t.body n) y x →
          (go_run G M (numbered_run G M k) p N i vs (last_frame f (frame_after y x.frame)) q (yield_out code turns f y) c m).result ≡ spent → ⊥
      by_yield (yield.Calls []) q wanted w = calls_done [] q (λ d u e. absurd cc) w.1
      by_yield (yield.Calls (o ∷ cs)) q wanted w = calls_done (map (called code turns f.depth) (o ∷ cs)) q
          (children_done (map (called code turns f.depth) (o ∷ cs)) (all_good f.depth (o ∷ cs))
          (ap (λ d. nat_lt d 64) (sym fx.depth) ∙ w.0) (length vs))
          w.1
      by_yield (yield.Want r h) q wanted w =
          let more_parts = q ++ filled G (M c) ((M c).wanted N (record { root = r.0; field = h })) m in
          on more_parts vs c m (w (here g more_parts) passed (asks_seen f x.frame)
          (want_held code (M c) m N r.0 h q (ap (λ (rs : List Requirement). is_needed (needs_in rs) r.0 h) (sym needs)
          ∙ ap (λ (ns : Needs). is_needed ns.items r.0 h) (sym fx.needs) ∙ wanted.needed)))
      by_yield (yield.Await j) q wanted w =
          let v = answer_at G (M c) vs j in
          let met = met_frame (spaces_of code) g j v in
          more e n t p N i met q vs c m found needs (omega (arith, room)) (omega (arith, deep, fx.depth))
          (w (here met q) (answered v.value) (record { task = sym fx.task; pc = refl; turns = refl; depth = refl })
          (answers_seen (spaces_of code) f x.frame j v))
      by_yield (yield.Make d) q wanted w = made_done d q w
      by_yield (yield.End v) q wanted w = λ e. absurd cc
      by_yield (yield.Fault h) q wanted w = λ e. absurd cc
      by_yield yield.MachineFault q wanted w = λ e. absurd cc

  pub lasts : (k : ℕ) → Lasts k
  lasts zero e zero t p N i f ps vs c m found needs room deep w = absurd w
  lasts zero e (suc n) t p N i f ps vs c m found needs room deep w = absurd (omega (arith, room))
  lasts (suc k) e n t p N i f ps vs c m found needs room deep w = λ h.
      let s = stop_sooner (before_in code f ps) t n found w in
      by_yield k (lasts k) e s.steps t p N i f ps vs c m found needs (omega (arith, room, s.fewer)) deep
      (stop_of (before_in code f ps)).machine (stop_fixed (before_in code f ps)) (stop_of (before_in code f ps)).ends
      (with_numbers code ps (numbers_in_parts code (stop_of (before_in code f ps)).machine.parts)) (segments_ask (before_in code f ps)) s.goes_on
      (prefix_spent (stop_of (before_in code f ps)).text _ h)
