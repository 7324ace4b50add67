-- What calls leave of an instance, and what is known with more results.
use Rattle.std.proofs.Common.{◌≡◌, ℕ, zero, suc, ◌<◌, ◌≤◌, ◌+◌, ℤ, pos, List, [], ◌∷◌, ◌++◌, Bool, true, false, cond, Option, Some, None, refl, sym, ap, ◌∙◌, subst, map, option_map, arith, append_assoc, length-append, eqb-true}
use Rattle.std.specs.Prelude.{slice_get, length, get_or, nat_le, ◌==◌}
use Rattle.std.proofs.lemmas.Bool.{false≢true}
use Rattle.std.proofs.lemmas.List.{append-nil, get_or_append_left}
use Rattle.std.proofs.lemmas.Option.{none-some, slice_get-get_or, slice_get-map}
use Rattle.region_tree.specs.Requirements.{Requirement, is_within}
use Rattle.task_code.specs.declared.code.Code.{Code}
use Rattle.task_code.specs.declared.code.TaskCode.{TaskCode}
use Rattle.machine_terms.specs.declared.frame.Frame.{Frame}
use Rattle.machine_terms.specs.declared.order.Ended.{Ended}
use Rattle.machine_terms.specs.declared.order.Ended.TheVariants.{Broke, CameBack}
use Rattle.machine_terms.specs.declared.order.Instance.{Instance}
use Rattle.machine_terms.specs.declared.order.Resumed.{Resumed}
use Rattle.machine_terms.specs.declared.order.Resumed.TheVariants.{GoesOn, IsOver}
use Rattle.machine_terms.specs.declared.outcome.CallOut.{CallOut}
use Rattle.machine_terms.specs.declared.value.Value.{Value}
use Rattle.machine_terms.specs.declared.value.Value.TheVariants.{Number, Space, Region, Partition, Pending}
use Rattle.machine_terms.specs.Calls.{is_pending}
use Rattle.machine_terms.specs.Opening.{opening, requirements_on}
use Rattle.machine_terms.specs.Orders.{Runner, after_call, begun, breaks, call_all, call_task, call_within, on_resumed, settled}
use Rattle.eager_laws.specs.Steps.{known, known_as}
use Rattle.eager_laws.specs.Pendings.{ArePutAway}
use Rattle.eager_laws.proofs.Slots.{waits}

-- ---- calls look at no slot

abbrev pub dressed : List Value → List Value → Instance → Instance
dressed xs st i = record i { frame = record i.frame { slots = xs; stack = st } }

abbrev pub dress : List Value → List Value → Resumed → Resumed
dress xs st (GoesOn i) = GoesOn (dressed xs st i)
dress xs st (IsOver e) = IsOver e

module _ (code : Code) (turns : ℕ) (child : Runner) where
  call_within_dressed : (xs st : List Value) (f : Frame) (o : Option (List Requirement)) (i : Instance) →
      call_within child f o (dressed xs st i) ≡ dress xs st (call_within child f o i)
  call_within_dressed xs st f None i = refl
  call_within_dressed xs st f (Some needs) i = by (is_within needs i.needs) (child (begun f needs i.contents))
    where
      by : (b : Bool) (e : Ended) → cond b (after_call e (dressed xs st i)) (breaks (dressed xs st i))
          ≡ dress xs st (cond b (after_call e i) (breaks i))
      by true (CameBack v own contents text) = refl
      by true (Broke fault text) = refl
      by false e = refl

  call_task_dressed : (xs st : List Value) (c : CallOut) (o : Option TaskCode) (i : Instance) →
      call_task code turns child c o (dressed xs st i) ≡ dress xs st (call_task code turns child c o i)
  call_task_dressed xs st c None i = refl
  call_task_dressed xs st c (Some t) i = by (nat_le (length c.args) t.slots)
    where
      f : Frame
      f = opening turns (suc i.frame.depth) c.task t c.args

      o : Option (List Requirement)
      o = requirements_on code i.contents t.needs c.args

      by : (b : Bool) → cond b (call_within child f o (dressed xs st i)) (breaks (dressed xs st i))
          ≡ dress xs st (cond b (call_within child f o i) (breaks i))
      by true = call_within_dressed xs st f o i
      by false = refl

  pub calls_dressed : (xs st : List Value) (cs : List CallOut) (i : Instance) →
      call_all code turns child cs (dressed xs st i) ≡ dress xs st (call_all code turns child cs i)
  calls_dressed xs st [] i = refl
  calls_dressed xs st (c ∷ cs) i =
      ap (λ r. on_resumed r (call_all code turns child cs)) (call_task_dressed xs st c (slice_get code.tasks c.task) i)
      ∙ by (call_task code turns child c (slice_get code.tasks c.task) i) (λ j. calls_dressed xs st cs j)
    where
      by : (r : Resumed) → ((j : Instance) → call_all code turns child cs (dressed xs st j) ≡ dress xs st (call_all code turns child cs j)) →
          on_resumed (dress xs st r) (call_all code turns child cs) ≡ dress xs st (on_resumed r (call_all code turns child cs))
      by (GoesOn j) more = more j
      by (IsOver e) more = refl

  -- ---- the frame stays, and there is a result more for each

  pub record Behind (f : Frame) (rs : List ℤ) (count : ℕ) (j : Instance) : Type 0 where
    pub frame : j.frame ≡ f
    pub more : List ℤ
    pub results : j.results ≡ rs ++ more
    pub count_is : length more ≡ count

  abbrev pub Each : (Instance → Type 0) → Resumed → Type 0
  Each P (GoesOn i) = P i
  Each P (IsOver e) = Unit {0}

  within_leaves : (f : Frame) (o : Option (List Requirement)) (i : Instance) →
      Each (Behind i.frame i.results 1) (call_within child f o i)
  within_leaves f None i = tt
  within_leaves f (Some needs) i = by (is_within needs i.needs) (child (begun f needs i.contents))
    where
      by : (b : Bool) (e : Ended) → Each (Behind i.frame i.results 1) (cond b (after_call e i) (breaks i))
      by true (CameBack v own contents text) = record { frame = refl; more = _; results = refl; count_is = refl }
      by true (Broke fault text) = tt
      by false e = tt

  task_leaves : (c : CallOut) (o : Option TaskCode) (i : Instance) →
      Each (Behind i.frame i.results 1) (call_task code turns child c o i)
  task_leaves c None i = tt
  task_leaves c (Some t) i = by (nat_le (length c.args) t.slots)
    where
      f : Frame
      f = opening turns (suc i.frame.depth) c.task t c.args

      o : Option (List Requirement)
      o = requirements_on code i.contents t.needs c.args

      by : (b : Bool) → Each (Behind i.frame i.results 1) (cond b (call_within child f o i) (breaks i))
      by true = within_leaves f o i
      by false = tt

  pub calls_leave : (cs : List CallOut) (i : Instance) →
      Each (Behind i.frame i.results (length cs)) (call_all code turns child cs i)
  calls_leave [] i = record { frame = refl; more = []; results = sym (append-nil i.results); count_is = refl }
  calls_leave (c ∷ cs) i =
      by (call_task code turns child c (slice_get code.tasks c.task) i) (task_leaves c (slice_get code.tasks c.task) i) (λ j. calls_leave cs j)
    where
      last : (j : Instance) → Behind i.frame i.results 1 j → (r : Resumed) → Each (Behind j.frame j.results (length cs)) r →
          Each (Behind i.frame i.results (suc (length cs))) r
      last j h (GoesOn k) w = record {
        frame = w.frame ∙ h.frame;
        more = h.more ++ w.more;
        results = w.results ∙ ap (λ rs. rs ++ w.more) h.results ∙ append_assoc i.results h.more w.more;
        count_is = length-append h.more w.more ∙ omega (arith, h.count_is, w.count_is);
      }
      last j h (IsOver e) w = tt

      by : (r : Resumed) → Each (Behind i.frame i.results 1) r →
          ((j : Instance) → Each (Behind j.frame j.results (length cs)) (call_all code turns child cs j)) →
          Each (Behind i.frame i.results (suc (length cs))) (on_resumed r (call_all code turns child cs))
      by (GoesOn j) h more = last j h (call_all code turns child cs j) (more j)
      by (IsOver e) h more = tt

-- ---- what is known

-- a result that is there stays
pub result_stays : (rs more : List ℤ) (n : ℕ) → n < length rs → slice_get (rs ++ more) n ≡ slice_get rs n
result_stays rs more n l =
    slice_get-get_or (rs ++ more) n (pos 0) (omega (arith, l, length-append rs more))
    ∙ ap (λ z. Some z) (get_or_append_left rs more (pos 0) n l)
    ∙ sym (slice_get-get_or rs n (pos 0) l)

pub known_more : (rs more : List ℤ) (for_results : ℕ → Bool) (xs : List Value) → ArePutAway for_results (length rs) xs →
    map (known rs) xs ≡ map (known (rs ++ more)) xs
known_more rs more for_results [] h = refl
known_more rs more for_results (v ∷ xs) h =
    (λ i. one v (λ n e. (h zero n (ap (λ u. Some u) e)).1) i ∷ known_more rs more (λ s. for_results (suc s)) xs (λ s n e. h (suc s) n e) i)
  where
    one : (v : Value) → ((n : ℕ) → v ≡ Pending n → n < length rs) → known rs v ≡ known (rs ++ more) v
    one (Number z) l = refl
    one (Space s) l = refl
    one (Region r) l = refl
    one (Partition p) l = refl
    one (Pending n) l = ap (λ o. known_as o n) (sym (result_stays rs more n (l n refl)))

-- ---- a child that was awaited

module _ (rs : List ℤ) (n : ℕ) (there : n < length rs) where
  abbrev z : ℤ
  z = get_or rs n (pos 0)

  found : slice_get rs n ≡ Some (get_or rs n (pos 0))
  found = slice_get-get_or rs n (pos 0) there

  known_as_before : (v : Value) → known rs (settled n (get_or rs n (pos 0)) v) ≡ known rs v
  known_as_before (Number y) = refl
  known_as_before (Space s) = refl
  known_as_before (Region r) = refl
  known_as_before (Partition p) = refl
  known_as_before (Pending j) = by (n == j) refl
    where
      by : (b : Bool) → (n == j) ≡ b → known rs (cond b (Number (get_or rs n (pos 0))) (Pending j)) ≡ known rs (Pending j)
      by true e = sym (ap (λ k. known_as (slice_get rs k) k) (sym (eqb-true n j e)) ∙ ap (λ o. known_as o n) found)
      by false e = refl

  pub all_as_before : (xs : List Value) → map (known rs) (map (settled n (get_or rs n (pos 0))) xs) ≡ map (known rs) xs
  all_as_before [] = refl
  all_as_before (v ∷ xs) = λ i. known_as_before v i ∷ all_as_before xs i

  pending_before : (o : Option Value) (k : ℕ) → option_map (settled n (get_or rs n (pos 0))) o ≡ Some (Pending k) → o ≡ Some (Pending k)
  pending_before None k e = absurd (none-some (Pending k) e)
  pending_before (Some (Number y)) k e = absurd (false≢true (ap waits e))
  pending_before (Some (Space s)) k e = absurd (false≢true (ap waits e))
  pending_before (Some (Region r)) k e = absurd (false≢true (ap waits e))
  pending_before (Some (Partition p)) k e = absurd (false≢true (ap waits e))
  pending_before (Some (Pending j)) k e = by (n == j) e
    where
      by : (b : Bool) → Some (cond b (Number (get_or rs n (pos 0))) (Pending j)) ≡ Some (Pending k) → Some (Pending j) ≡ Some (Pending k)
      by true e = absurd (false≢true (ap waits e))
      by false e = e

  pub put_away_still : (for_results : ℕ → Bool) (count : ℕ) (xs : List Value) → ArePutAway for_results count xs →
      ArePutAway for_results count (map (settled n (get_or rs n (pos 0))) xs)
  put_away_still for_results count xs h s k e =
      h s k (pending_before (slice_get xs s) k (sym (slice_get-map (settled n (get_or rs n (pos 0))) xs s) ∙ e))
