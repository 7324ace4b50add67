-- Step by step: one step of the eager run is one step of the machine, or a wait for a child and a step.
use Rattle.std.proofs.Common.{◌≡◌, ◌⊎◌, inl, inr, ℕ, zero, suc, ◌<◌, ◌≤◌, ◌+◌, ℤ, pos, List, [], ◌∷◌, ◌++◌, Bool, true, false, Option, Some, None, refl, sym, ap, ◌∙◌, subst, map, option_map, arith, length-append}
use Rattle.std.specs.Prelude.{slice_get, length, get_or, nat_lt, cond, ◌==◌}
use Rattle.std.proofs.lemmas.Bool.{eq-eqb, false≢true}
use Rattle.std.proofs.lemmas.List.{length-map, map-set}
use Rattle.std.proofs.lemmas.Option.{none-some, slice_get-map, slice_get-get_or}
use Rattle.regent_tree.specs.declared.outcome.Fault.{Fault}
use Rattle.task_code.specs.declared.code.Line.{Line}
use Rattle.task_code.specs.declared.instr.Instr.{Instr}
use Rattle.task_code.specs.declared.instr.Instr.TheVariants as instr
use Rattle.machine_terms.specs.declared.frame.Frame.{Frame}
use Rattle.machine_terms.specs.declared.order.Ended.{Ended}
use Rattle.machine_terms.specs.declared.order.Ended.TheVariants.{Broke}
use Rattle.machine_terms.specs.declared.order.Instance.{Instance}
use Rattle.machine_terms.specs.declared.order.Resumed.{Resumed}
use Rattle.machine_terms.specs.declared.order.Resumed.TheVariants.{GoesOn, IsOver}
use Rattle.machine_terms.specs.declared.outcome.CallOut.{CallOut}
use Rattle.machine_terms.specs.declared.outcome.Yield.TheVariants as yield
use Rattle.machine_terms.specs.declared.value.Value.{Value}
use Rattle.machine_terms.specs.declared.value.Value.TheVariants.{Number, Space, Region, Partition, Pending}
use Rattle.machine_terms.specs.Machine.{Machine, Stepped, goes, stops, at, put, next, broken, when}
use Rattle.machine_terms.specs.Jumps.{fetch}
use Rattle.machine_terms.specs.Numbers.{load, store, discard}
use Rattle.machine_terms.specs.Orders.{await, call_all, give_all, settled}
use Rattle.machine_terms.specs.Segments.{act, act_at}
use Rattle.eager_laws.specs.Steps.{Running, advance, advance_eager, behind, behind_line, behind_line_eager, behind_eager, due, has_machine, known, known_as, machine_of, now_or_due, on_step, resolved}
use Rattle.eager_laws.specs.Pendings.{AreSettled, ArePutAway, IsPut, IsTidy, IsTidyAt, OnStack, PutsAway, Suits, called_child, seen, settled_stack}
use Rattle.eager_laws.proofs.Seeing.{all_settled, slot_known, eager_machine, eager_step}
use Rattle.eager_laws.proofs.Slots.{child_put, waits}
use Rattle.eager_laws.proofs.Words.{Fine, Same}
use Rattle.eager_laws.proofs.Instructions.{IsPlain, act_same}
use Rattle.eager_laws.proofs.Meeting.{Alike, met, seen_settled, suits_settled}
use Rattle.eager_laws.proofs.Results.{Behind, Each, all_as_before, calls_dressed, calls_leave, dress, dressed, known_more, put_away_still, result_stays}
use Rattle.eager_laws.proofs.Calls.{Calling, call_same, calls_break, calls_many, calls_none, calls_one, launch_same}

-- ---- to an end

pub data Reaches (advances : Instance → Resumed) (e : Ended) : Instance → Type 0 where
  reaches_now : (i : Instance) → advances i ≡ IsOver e → Reaches advances e i
  reaches_on : (i j : Instance) → advances i ≡ GoesOn j → Reaches advances e j → Reaches advances e i

module _ (x : Running) (for_results : ℕ → Bool) where
  abbrev R : Ended → Instance → Type 0
  R e i = Reaches (advance x) e i

  -- what the eager run results in, the machine results in
  abbrev pub Follows : Instance → Resumed → Type 0
  Follows i (GoesOn f) = (j : Instance) × ((e : Ended) → R e j → R e i) × (f ≡ seen j) × Suits for_results x.body j
  Follows i (IsOver e) = R e i

  -- by one step
  by_step : (i : Instance) (t r : Resumed) → advance x i ≡ r → Alike x for_results t r → Follows i t
  by_step i (GoesOn f) (GoesOn j) e a = (j, (λ d z. reaches_on i j e z), a.0, a.1)
  by_step i (GoesOn f) (IsOver d) e a = absurd a
  by_step i (IsOver d) (GoesOn j) e a = absurd a
  by_step i (IsOver d) (IsOver b) e a = reaches_now i (e ∙ ap (λ d. IsOver d) (sym a))

  -- behind a step to an instance that follows
  step_before : (i j : Instance) (t : Resumed) → advance x i ≡ GoesOn j → Follows j t → Follows i t
  step_before i j (GoesOn f) e a = (a.0, (λ d z. reaches_on i j e (a.1 d z)), a.2, a.3)
  step_before i j (IsOver d) e a = reaches_on i j e a

  -- ---- what a step is on a line

  real_step : (i : Instance) (l : Line) → fetch x.body i.frame.pc ≡ Some l →
      advance x i ≡ behind l.instr (on_step x i (act x.code x.body l.instr l.line (machine_of i)))
  real_step i l e = ap (λ o. behind_line o (on_step x i (act_at x.code x.body o (machine_of i)))) e

  resolved_line : (i : Instance) (l : Line) → fetch x.body i.frame.pc ≡ Some l →
      advance_eager x i ≡ behind_eager l.instr (on_step x i (act x.code x.body l.instr l.line (machine_of i)))
  resolved_line i l e = ap (λ o. behind_line_eager o (on_step x i (act_at x.code x.body o (machine_of i)))) e

  seen_machine : (i : Instance) → AreSettled i.frame.stack → machine_of (seen i) ≡ eager_machine i.results (machine_of i)
  seen_machine i c = λ k. record {
    frame = record i.frame {
      slots = map (known i.results) i.frame.slots;
      stack = all_settled i.results i.frame.stack c k;
    };
    parts = i.parts;
  }

  fine_of : (i : Instance) → Suits for_results x.body i → AreSettled i.frame.stack → Fine i.results for_results (machine_of i)
  fine_of i h c = record { stack = c; slots = h.slots; children = h.children }

  -- ---- plain instructions

  plain_follows : (i : Instance) (l : Line) → fetch x.body i.frame.pc ≡ Some l → Suits for_results x.body i → AreSettled i.frame.stack →
      ((r : Resumed) → behind l.instr r ≡ r) → ((r : Resumed) → behind_eager l.instr r ≡ r) →
      IsPlain i.results for_results l.instr (machine_of i) → Follows i (advance_eager x (seen i))
  plain_follows i l e h c real tells plain =
      let m = machine_of i in
      let s = act_same i.results for_results x.code x.body l.instr l.line m (fine_of i h c) plain in
      let t = on_step x (seen i) (eager_step i.results (act x.code x.body l.instr l.line m)) in
      let comes : advance_eager x (seen i) ≡ t =
      resolved_line (seen i) l e ∙ tells _
      ∙ ap (λ n. on_step x (seen i) (act x.code x.body l.instr l.line n)) (seen_machine i c)
      ∙ ap (on_step x (seen i)) s.is in
      subst (Follows i) (sym comes) (by_step i t _ (real_step i l e ∙ real _) (met x for_results i _ s.fine))

  -- ---- a load of a child

  load_follows : (i : Instance) (l : Line) (s : ℕ) → fetch x.body i.frame.pc ≡ Some l → l.instr ≡ instr.Load s →
      Suits for_results x.body i → AreSettled i.frame.stack → (n : ℕ) → slice_get i.frame.slots s ≡ Some (Pending n) →
      Follows i (advance_eager x (seen i))
  load_follows i l s e is h c n there =
      let few : n < length i.results = (h.slots s n there).1 in
      let z = get_or i.results n (pos 0) in
      let j = await n i in
      let waited : advance x i ≡ GoesOn j =
      real_step i l e
      ∙ ap (λ u. behind u (on_step x i (act x.code x.body u l.line (machine_of i)))) is
      ∙ ap (λ o. on_step x i (load (machine_of i) o)) there in
      let suits : Suits for_results x.body j = record {
        slots = put_away_still i.results n few for_results (length i.results) i.frame.slots h.slots;
        stack = settled_stack i.frame.stack c;
        children = h.children;
      } in
      let has : slice_get j.frame.slots s ≡ Some (Number z) =
      slice_get-map (settled n z) i.frame.slots s ∙ ap (option_map (settled n z)) there
      ∙ ap (λ b. Some (cond b (Number z) (Pending n))) (eq-eqb n n refl) in
      let same : seen j ≡ seen i = λ k. record i {
        frame = record i.frame {
          slots = all_as_before i.results n few i.frame.slots k;
          stack = map (known i.results) i.frame.stack;
        };
      } in
      let plain : IsPlain i.results for_results l.instr (machine_of j) =
      subst (λ u. IsPlain i.results for_results u (machine_of j)) (sym is)
      (λ k q. false≢true (ap waits (sym has ∙ q))) in
      step_before i j (advance_eager x (seen i)) waited
      (subst (λ w. Follows j (advance_eager x w)) same
      (plain_follows j l e suits c (λ r. ap (λ u. behind u r) is) (λ r. ap (λ u. behind_eager u r) is) plain))

  -- ---- a child that is put away

  put_follows : (i : Instance) (l : Line) → fetch x.body i.frame.pc ≡ Some l → Suits for_results x.body i →
      (n : ℕ) (st : List Value) → i.frame.stack ≡ Pending n ∷ st → AreSettled st → n < length i.results →
      (u : Instr) → l.instr ≡ u → IsPut for_results u → Follows i (advance_eager x (seen i))
  put_follows i l e h n st stands c few (instr.Store s) is p =
      by (nat_lt s (length i.frame.slots)) refl
    where
      rs : List ℤ
      rs = i.results

      real : advance x i ≡ on_step x i (store s (Pending n ∷ st) (machine_of i))
      real = real_step i l e ∙ ap (λ u. behind u (on_step x i (act x.code x.body u l.line (machine_of i)))) is
          ∙ ap (λ v. on_step x i (store s v (machine_of i))) stands

      tells : advance_eager x (seen i) ≡ on_step x (seen i) (store s (known rs (Pending n) ∷ map (known rs) st) (machine_of (seen i)))
      tells = resolved_line (seen i) l e ∙ ap (λ u. behind_eager u (on_step x (seen i) (act x.code x.body u l.line (machine_of (seen i))))) is
          ∙ ap (λ v. on_step x (seen i) (store s (map (known rs) v) (machine_of (seen i)))) stands

      j : Instance
      j = has_machine (put s (Pending n) (at (suc i.frame.pc) st (machine_of i))) i

      by : (b : Bool) → nat_lt s (length i.frame.slots) ≡ b → Follows i (advance_eager x (seen i))
      by true q =
          let long : nat_lt s (length (map (known rs) i.frame.slots)) ≡ true =
          ap (nat_lt s) (length-map i.frame.slots (known rs)) ∙ q in
          by_step i _ (GoesOn j)
          (real ∙ ap (λ b. on_step x i (when b (goes (put s (Pending n) (at (suc i.frame.pc) st (machine_of i)))) (broken (machine_of i)))) q)
          (subst (λ t. Alike x for_results t (GoesOn j)) (sym (tells
          ∙ ap (λ b. on_step x (seen i) (when b (goes (put s (known rs (Pending n)) (at (suc i.frame.pc) (map (known rs) st) (machine_of (seen i)))))
          (broken (machine_of (seen i))))) long)) (
            (λ k. record i {
              frame = record i.frame {
                pc = suc i.frame.pc;
                slots = sym (map-set (known rs) i.frame.slots s (Pending n)) k;
                stack = map (known rs) st;
              };
            }),
            record {
              slots = child_put for_results (length rs) i.frame.slots s n p few h.slots;
              stack = settled_stack st c;
              children = h.children;
            },
          ))
      by false q =
          let long : nat_lt s (length (map (known rs) i.frame.slots)) ≡ false =
          ap (nat_lt s) (length-map i.frame.slots (known rs)) ∙ q in
          by_step i _ (IsOver (Broke None i.text))
          (real ∙ ap (λ b. on_step x i (when b (goes (put s (Pending n) (at (suc i.frame.pc) st (machine_of i)))) (broken (machine_of i)))) q)
          (subst (λ t. Alike x for_results t (IsOver (Broke None i.text))) (sym (tells
          ∙ ap (λ b. on_step x (seen i) (when b (goes (put s (known rs (Pending n)) (at (suc i.frame.pc) (map (known rs) st) (machine_of (seen i)))))
          (broken (machine_of (seen i))))) long)) refl)
  put_follows i l e h n st stands c few instr.Drop is p =
      let rs = i.results in
      let j = has_machine (at (suc i.frame.pc) st (machine_of i)) i in
      by_step i _ (GoesOn j)
      (real_step i l e ∙ ap (λ u. behind u (on_step x i (act x.code x.body u l.line (machine_of i)))) is
      ∙ ap (λ v. on_step x i (discard v (machine_of i))) stands)
      (subst (λ t. Alike x for_results t (GoesOn j)) (sym (resolved_line (seen i) l e
      ∙ ap (λ u. behind_eager u (on_step x (seen i) (act x.code x.body u l.line (machine_of (seen i))))) is
      ∙ ap (λ v. on_step x (seen i) (discard (map (known rs) v) (machine_of (seen i)))) stands))
      (refl, record { slots = h.slots; stack = settled_stack st c; children = h.children }))
  put_follows i l e h n st stands c few _ is p = absurd p

  -- ---- calls

  known_twice : (rs : List ℤ) (v : Value) → known rs (known rs v) ≡ known rs v
  known_twice rs (Number z) = refl
  known_twice rs (Space s) = refl
  known_twice rs (Region r) = refl
  known_twice rs (Partition p) = refl
  known_twice rs (Pending n) = by (slice_get rs n) refl
    where
      by : (o : Option ℤ) → slice_get rs n ≡ o → known rs (known_as o n) ≡ known_as o n
      by (Some z) e = refl
      by None e = ap (λ o. known_as o n) e

  -- what is seen so has nothing left to resolve
  resolved_seen : (j : Instance) → resolved (GoesOn (seen j)) ≡ GoesOn (seen j)
  resolved_seen j = by j.frame.stack refl
    where
      by : (st : List Value) → j.frame.stack ≡ st → resolved (GoesOn (seen j)) ≡ GoesOn (seen j)
      by [] e = ap (λ s. GoesOn (record (seen j) { frame = record (seen j).frame { stack = Rattle.eager_laws.specs.Steps.known_top j.results (map (known j.results) s) } })) e
          ∙ sym (ap (λ s. GoesOn (record (seen j) { frame = record (seen j).frame { stack = map (known j.results) s } })) e)
      by (v ∷ st) e = ap (λ s. GoesOn (record (seen j) { frame = record (seen j).frame { stack = Rattle.eager_laws.specs.Steps.known_top j.results (map (known j.results) s) } })) e
          ∙ ap (λ u. GoesOn (record (seen j) { frame = record (seen j).frame { stack = u ∷ map (known j.results) st } })) (known_twice j.results v)
          ∙ sym (ap (λ s. GoesOn (record (seen j) { frame = record (seen j).frame { stack = map (known j.results) s } })) e)

  resolved_alike : (t r : Resumed) → Alike x for_results t r → Alike x for_results (resolved t) r
  resolved_alike (GoesOn f) (GoesOn j) a = subst (λ g. Alike x for_results (resolved (GoesOn g)) (GoesOn j)) (sym a.0)
      (subst (λ t. Alike x for_results t (GoesOn j)) (sym (resolved_seen j)) (refl, a.1))
  resolved_alike (GoesOn f) (IsOver e) a = absurd a
  resolved_alike (IsOver d) (GoesOn j) a = absurd a
  resolved_alike (IsOver d) (IsOver e) a = a

  due_alike : (t r : Resumed) → Alike x for_results t r → Alike x for_results (due t) (due r)
  due_alike (GoesOn f) (GoesOn j) a = subst (λ g. Alike x for_results (due (GoesOn g)) (due (GoesOn j))) (sym a.0) (by j.frame.later)
    where
      by : (o : Option Fault) → Alike x for_results (now_or_due o (seen j)) (now_or_due o j)
      by None = (refl, a.1)
      by (Some k) = refl
  due_alike (GoesOn f) (IsOver e) a = absurd a
  due_alike (IsOver d) (GoesOn j) a = absurd a
  due_alike (IsOver d) (IsOver e) a = a

  -- a call whose child is on the stack then
  one_alike : (i : Instance) (m : Machine) (c : CallOut) (st : List Value) → PutsAway for_results (fetch x.body m.frame.pc) →
      m.frame.stack ≡ Pending (length i.results) ∷ st → AreSettled st → ArePutAway for_results (length i.results) m.frame.slots →
      m.frame.children ≡ suc (length i.results) →
      Alike x for_results (resolved (on_step x (seen i) (stops (yield.Calls (c ∷ [])) (eager_machine i.results m))))
      (on_step x i (stops (yield.Calls (c ∷ [])) m))
  one_alike i m c st puts stands clean slots children =
      subst (λ t. Alike x for_results (resolved t) (call_all x.code x.turns x.child (c ∷ []) k))
      (sym (calls_dressed x.code x.turns x.child (map (known i.results) m.frame.slots) m.frame.stack (c ∷ []) k))
      (by (call_all x.code x.turns x.child (c ∷ []) k) (calls_leave x.code x.turns x.child (c ∷ []) k))
    where
      k : Instance
      k = give_all (has_machine m i)

      by : (r : Resumed) → Each x.code x.turns x.child (Behind x.code x.turns x.child m.frame i.results 1) r →
          Alike x for_results (resolved (dress (map (known i.results) m.frame.slots) m.frame.stack r)) r
      by (IsOver e) w = refl
      by (GoesOn j) w =
          let long : length j.results ≡ suc (length i.results) =
          ap length w.results ∙ length-append i.results w.more ∙ omega (arith, w.count_is) in
          let stack : j.frame.stack ≡ Pending (length i.results) ∷ st = ap (λ (f : Frame). f.stack) w.frame ∙ stands in
          let slots_seen : map (known i.results) m.frame.slots ≡ map (known j.results) j.frame.slots =
          known_more i.results w.more for_results m.frame.slots slots
          ∙ ap (λ rs. map (known rs) m.frame.slots) (sym w.results)
          ∙ ap (λ (f : Frame). map (known j.results) f.slots) (sym w.frame) in
          let stack_seen : Rattle.eager_laws.specs.Steps.known_top j.results m.frame.stack ≡ map (known j.results) j.frame.stack =
          ap (Rattle.eager_laws.specs.Steps.known_top j.results) stands
          ∙ ap (λ vs. known j.results (Pending (length i.results)) ∷ vs) (sym (all_settled j.results st clean))
          ∙ ap (map (known j.results)) (sym stack) in (
            (λ p. record j { frame = record j.frame { slots = slots_seen p; stack = stack_seen p } }),
            record {
              slots = λ s n e.
                  let was = slots s n (ap (λ (f : Frame). slice_get f.slots s) (sym w.frame) ∙ e) in
                  (was.0, omega (arith, was.1, long));
              stack = subst (λ vs. OnStack for_results (length j.results) (fetch x.body j.frame.pc) vs) (sym stack)
                  (called_child (length i.results) st clean (omega (arith, long))
                  (subst (λ (f : Frame). PutsAway for_results (fetch x.body f.pc)) (sym w.frame) puts));
              children = ap (λ (f : Frame). f.children) w.frame ∙ children ∙ sym long;
            },
          )

  many_alike : (i : Instance) (m : Machine) (cs : List CallOut) → AreSettled m.frame.stack →
      ArePutAway for_results (length i.results) m.frame.slots → m.frame.children ≡ length i.results + length cs →
      Alike x for_results (on_step x (seen i) (stops (yield.Calls cs) (eager_machine i.results m))) (on_step x i (stops (yield.Calls cs) m))
  many_alike i m cs clean slots children =
      subst (λ t. Alike x for_results t (call_all x.code x.turns x.child cs k))
      (sym (calls_dressed x.code x.turns x.child (map (known i.results) m.frame.slots) m.frame.stack cs k))
      (by (call_all x.code x.turns x.child cs k) (calls_leave x.code x.turns x.child cs k))
    where
      k : Instance
      k = give_all (has_machine m i)

      by : (r : Resumed) → Each x.code x.turns x.child (Behind x.code x.turns x.child m.frame i.results (length cs)) r →
          Alike x for_results (dress (map (known i.results) m.frame.slots) m.frame.stack r) r
      by (IsOver e) w = refl
      by (GoesOn j) w =
          let long : length j.results ≡ length i.results + length cs =
          ap length w.results ∙ length-append i.results w.more ∙ omega (arith, w.count_is) in
          let settled_there : AreSettled j.frame.stack = subst (λ (f : Frame). AreSettled f.stack) (sym w.frame) clean in
          let slots_seen : map (known i.results) m.frame.slots ≡ map (known j.results) j.frame.slots =
          known_more i.results w.more for_results m.frame.slots slots
          ∙ ap (λ rs. map (known rs) m.frame.slots) (sym w.results)
          ∙ ap (λ (f : Frame). map (known j.results) f.slots) (sym w.frame) in
          let stack_seen : m.frame.stack ≡ map (known j.results) j.frame.stack =
          ap (λ (f : Frame). f.stack) (sym w.frame) ∙ sym (all_settled j.results j.frame.stack settled_there) in (
            (λ p. record j { frame = record j.frame { slots = slots_seen p; stack = stack_seen p } }),
            record {
              slots = λ s n e.
                  let was = slots s n (ap (λ (f : Frame). slice_get f.slots s) (sym w.frame) ∙ e) in
                  (was.0, omega (arith, was.1, long));
              stack = settled_stack j.frame.stack settled_there;
              children = ap (λ (f : Frame). f.children) w.frame ∙ children ∙ sym long;
            },
          )

  called_alike : (i : Instance) (s t : Stepped) → PutsAway for_results (fetch x.body (suc i.frame.pc)) →
      Calling i.results for_results true i.frame.pc s t → Alike x for_results (resolved (on_step x (seen i) s)) (on_step x i t)
  called_alike i _ _ puts (calls_none s t a) =
      subst (λ u. Alike x for_results (resolved (on_step x (seen i) u)) (on_step x i t)) (sym a.is)
      (resolved_alike _ _ (met x for_results i t a.fine))
  called_alike i _ _ puts (calls_break m' m) = refl
  called_alike i _ _ puts (calls_one m c st is place stands clean slots children) =
      one_alike i m c st (subst (λ pc. PutsAway for_results (fetch x.body pc)) (sym place) puts) stands clean slots children
  called_alike i _ _ puts (calls_many m cs is clean slots children) = absurd (false≢true (sym is))

  launched_alike : (i : Instance) (s t : Stepped) → Calling i.results for_results false i.frame.pc s t →
      Alike x for_results (on_step x (seen i) s) (on_step x i t)
  launched_alike i _ _ (calls_none s t a) =
      subst (λ u. Alike x for_results (on_step x (seen i) u) (on_step x i t)) (sym a.is) (met x for_results i t a.fine)
  launched_alike i _ _ (calls_break m' m) = refl
  launched_alike i _ _ (calls_one m c st is place stands clean slots children) = absurd (false≢true is)
  launched_alike i _ _ (calls_many m cs is clean slots children) = many_alike i m cs clean slots children

  call_follows : (i : Instance) (l : Line) (task k : ℕ) → fetch x.body i.frame.pc ≡ Some l → l.instr ≡ instr.Call task k →
      PutsAway for_results (fetch x.body (suc i.frame.pc)) → Suits for_results x.body i → AreSettled i.frame.stack →
      Follows i (advance_eager x (seen i))
  call_follows i l task k e is puts h c =
      let m = machine_of i in
      let o = slice_get x.code.tasks task in
      let s = call_same i.results for_results o task k l.line m (fine_of i h c) in
      let tells : advance_eager x (seen i) ≡ resolved (on_step x (seen i) (Rattle.machine_terms.specs.Calls.call_task o task k l.line (eager_machine i.results m))) =
      resolved_line (seen i) l e
      ∙ ap (λ u. behind_eager u (on_step x (seen i) (act x.code x.body u l.line (machine_of (seen i))))) is
      ∙ ap (λ n. resolved (on_step x (seen i) (act x.code x.body (instr.Call task k) l.line n))) (seen_machine i c) in
      subst (Follows i) (sym tells) (by_step i _ _
      (real_step i l e ∙ ap (λ u. behind u (on_step x i (act x.code x.body u l.line m))) is)
      (called_alike i _ _ puts s))

  launch_follows : (i : Instance) (l : Line) (task s line : ℕ) (args : List Rattle.index_launch.specs.declared.points.LaunchArg.LaunchArg) →
      fetch x.body i.frame.pc ≡ Some l → l.instr ≡ instr.Launch task s line args →
      Rattle.eager_laws.specs.Pendings.AreApart for_results args → Suits for_results x.body i → AreSettled i.frame.stack →
      Follows i (advance_eager x (seen i))
  launch_follows i l task s line args e is apart h c =
      let m = machine_of i in
      let o = slice_get x.code.tasks task in
      let r = launch_same i.results for_results o task s line args l.line m (fine_of i h c) apart in
      let tells : advance_eager x (seen i) ≡ due (on_step x (seen i) (Rattle.machine_terms.specs.Launches.launch_task o task s line args l.line (eager_machine i.results m))) =
      resolved_line (seen i) l e
      ∙ ap (λ u. behind_eager u (on_step x (seen i) (act x.code x.body u l.line (machine_of (seen i))))) is
      ∙ ap (λ n. due (on_step x (seen i) (act x.code x.body (instr.Launch task s line args) l.line n))) (seen_machine i c) in
      subst (Follows i) (sym tells) (by_step i _ _
      (real_step i l e ∙ ap (λ u. behind u (on_step x i (act x.code x.body u l.line m))) is)
      (due_alike _ _ (launched_alike i _ _ r)))

  -- ---- every instruction

  settled_follows : (i : Instance) (l : Line) → fetch x.body i.frame.pc ≡ Some l → Suits for_results x.body i →
      AreSettled i.frame.stack → (u : Instr) → l.instr ≡ u → IsTidyAt for_results u (fetch x.body (suc i.frame.pc)) →
      Follows i (advance_eager x (seen i))
  settled_follows i l e h c (instr.Load s) is q = by (slice_get i.frame.slots s) refl
    where
      plain : (o : Option Value) → slice_get i.frame.slots s ≡ o → ((n : ℕ) → o ≡ Some (Pending n) → ⊥) → Follows i (advance_eager x (seen i))
      plain o there none = plain_follows i l e h c (λ r. ap (λ u. behind u r) is) (λ r. ap (λ u. behind_eager u r) is)
          (subst (λ u. IsPlain i.results for_results u (machine_of i)) (sym is) (λ n d. none n (sym there ∙ d)))

      by : (o : Option Value) → slice_get i.frame.slots s ≡ o → Follows i (advance_eager x (seen i))
      by (Some (Pending n)) there = load_follows i l s e is h c n there
      by None there = plain None there (λ n d. none-some (Pending n) d)
      by (Some (Number z)) there = plain (Some (Number z)) there (λ n d. false≢true (ap waits d))
      by (Some (Space k)) there = plain (Some (Space k)) there (λ n d. false≢true (ap waits d))
      by (Some (Region r)) there = plain (Some (Region r)) there (λ n d. false≢true (ap waits d))
      by (Some (Partition p)) there = plain (Some (Partition p)) there (λ n d. false≢true (ap waits d))
  settled_follows i l e h c (instr.Call task k) is q = call_follows i l task k e is q h c
  settled_follows i l e h c (instr.Launch task s line args) is q = launch_follows i l task s line args e is q h c
  settled_follows i l e h c (instr.NextNumber k n v to) is q = plain_follows i l e h c
      (λ r. ap (λ u. behind u r) is) (λ r. ap (λ u. behind_eager u r) is)
      (subst (λ u. IsPlain i.results for_results u (machine_of i)) (sym is) q)
  settled_follows i l e h c (instr.NextPoint s k v ptr to) is q = plain_follows i l e h c
      (λ r. ap (λ u. behind u r) is) (λ r. ap (λ u. behind_eager u r) is)
      (subst (λ u. IsPlain i.results for_results u (machine_of i)) (sym is) q)
  settled_follows i l e h c _ is q = plain_follows i l e h c
      (λ r. ap (λ u. behind u r) is) (λ r. ap (λ u. behind_eager u r) is)
      (subst (λ u. IsPlain i.results for_results u (machine_of i)) (sym is) tt)

  pub follows : IsTidy for_results x.body → (i : Instance) → Suits for_results x.body i → Follows i (advance_eager x (seen i))
  follows tidy i h = by_line (fetch x.body i.frame.pc) refl
    where
      by_stack : (l : Line) → fetch x.body i.frame.pc ≡ Some l → (st : List Value) → i.frame.stack ≡ st →
          OnStack for_results (length i.results) (Some l) st → Follows i (advance_eager x (seen i))
      by_stack l e _ stands (settled_stack st c) = settled_follows i l e h (subst AreSettled (sym stands) c) l.instr refl (tidy i.frame.pc l e)
      by_stack l e _ stands (called_child n st c few p) = put_follows i l e h n st stands c few l.instr refl p

      by_line : (o : Option Line) → fetch x.body i.frame.pc ≡ o → Follows i (advance_eager x (seen i))
      by_line None e = by_step i _ (IsOver (Broke None i.text))
          (ap (λ o. behind_line o (on_step x i (act_at x.code x.body o (machine_of i)))) e)
          (subst (λ t. Alike x for_results t (IsOver (Broke None i.text)))
          (sym (ap (λ o. behind_line_eager o (on_step x (seen i) (act_at x.code x.body o (machine_of (seen i))))) e)) refl)
      by_line (Some l) e = by_stack l e i.frame.stack refl
          (subst (λ o. OnStack for_results (length i.results) o i.frame.stack) e h.stack)
