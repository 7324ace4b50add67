-- What follows for an instance with the values of all its children is what follows by the answers that are kept.
use Rattle.std.proofs.Common.{arith, ◌≡◌, ◌<◌, ◌≤◌, ◌==◌, ◌++◌, ◌⊎◌, ℕ, ℤ, zero, suc, pos, Bool, true, false, cond, List, [], ◌∷◌, Option, Some, None, inl, inr, refl, sym, ap, subst, ◌∙◌, append_assoc, get_or, length, map, nat_le, slice_get}
use Rattle.std.specs.List.{Contains}
use Rattle.std.proofs.lemmas.Bool.{eqb-true}
use Rattle.std.proofs.lemmas.List.Elements.{Contains-append_cases, Contains-append_right}
use Rattle.region_tree.specs.Requirements.{Requirement, is_within}
use Rattle.region_tree.specs.declared.tree.RootId.{RootId}
use Rattle.task_code.specs.declared.code.Code.{Code}
use Rattle.task_code.specs.declared.code.TaskCode.{TaskCode}
use Rattle.machine_terms.specs.declared.frame.Frame.{Frame}
use Rattle.machine_terms.specs.declared.order.Ended.{Ended}
use Rattle.machine_terms.specs.declared.order.Ended.TheVariants.{Broke, CameBack}
use Rattle.machine_terms.specs.declared.order.Instance.{Instance}
use Rattle.machine_terms.specs.declared.order.Resumed.{Resumed}
use Rattle.machine_terms.specs.declared.order.Resumed.TheVariants.{GoesOn, IsOver}
use Rattle.machine_terms.specs.declared.outcome.After.{After}
use Rattle.machine_terms.specs.declared.outcome.CallOut.{CallOut}
use Rattle.machine_terms.specs.declared.outcome.Made.{Made}
use Rattle.machine_terms.specs.declared.outcome.Made.TheVariants as made
use Rattle.machine_terms.specs.declared.outcome.Yield.{Yield}
use Rattle.machine_terms.specs.declared.outcome.Yield.TheVariants as yield
use Rattle.machine_terms.specs.declared.value.Value.{Value}
use Rattle.machine_terms.specs.declared.value.Value.TheVariants as value
use Rattle.machine_terms.specs.Contents.{closed}
use Rattle.machine_terms.specs.Makes.{is_sound, make_partition}
use Rattle.machine_terms.specs.Opening.{opening, requirements_on}
use Rattle.machine_terms.specs.Orders.{Runner, after_call, await, begun, breaks, call_all, call_task, call_within, conclude, give_all, make, on_resumed, result_of, resume, resume_after, resume_in, settled}
use Rattle.segment_regions.specs.Pendings.{MayAsk}
use Rattle.plain_run.specs.Answers.{answer_in, await_answer, resume_after_by, resume_by, resume_in_by, with_results}
use Rattle.plain_run.specs.declared.answers.Answer.{Answer}

-- what follows, with the values of children that came back before
abbrev pub behind : List ℤ → Resumed → Resumed
behind rs (GoesOn i) = GoesOn (with_results (rs ++ i.results) i)
behind rs (IsOver e) = IsOver e

abbrev pub after : List ℤ → Instance → Instance
after rs i = with_results (rs ++ i.results) i

-- ---- calls

module _ (code : Code) (turns : ℕ) (child : Runner) (rs : List ℤ) where
  came_behind : (e : Ended) (i : Instance) → after_call e (after rs i) ≡ behind rs (after_call e i)
  came_behind (CameBack v own contents text) i =
      ap (λ (zs : List ℤ). GoesOn (with_results zs (record i { contents = closed own contents; text = i.text ++ text })))
      (append_assoc rs i.results (result_of v ∷ []))
  came_behind (Broke fault text) i = refl

  within_behind : (f : Frame) (o : Option (List Requirement)) (i : Instance) →
      call_within child f o (after rs i) ≡ behind rs (call_within child f o i)
  within_behind f None i = refl
  within_behind f (Some needs) i = go (is_within needs i.needs)
    where
      go : (b : Bool) →
          cond b (after_call (child (begun f needs i.contents)) (after rs i)) (breaks (after rs i))
          ≡ behind rs (cond b (after_call (child (begun f needs i.contents)) i) (breaks i))
      go true = came_behind (child (begun f needs i.contents)) i
      go false = refl

  task_behind : (c : CallOut) (o : Option TaskCode) (i : Instance) →
      call_task code turns child c o (after rs i) ≡ behind rs (call_task code turns child c o i)
  task_behind c None i = refl
  task_behind c (Some t) i = go (nat_le (length c.args) t.slots)
    where
      frame : Frame
      frame = opening turns (suc i.frame.depth) c.task t c.args

      needs : Option (List Requirement)
      needs = requirements_on code i.contents t.needs c.args

      go : (b : Bool) → cond b (call_within child frame needs (after rs i)) (breaks (after rs i))
          ≡ behind rs (cond b (call_within child frame needs i) (breaks i))
      go true = within_behind frame needs i
      go false = refl

  calls_behind : (cs : List CallOut) (i : Instance) →
      call_all code turns child cs (after rs i) ≡ behind rs (call_all code turns child cs i)
  calls_behind [] i = refl
  calls_behind (c ∷ cs) i =
      ap (λ (r : Resumed). on_resumed r (call_all code turns child cs)) (task_behind c (slice_get code.tasks c.task) i)
      ∙ on (call_task code turns child c (slice_get code.tasks c.task) i) (calls_behind cs)
    where
      on : (r : Resumed) → ((j : Instance) → call_all code turns child cs (after rs j) ≡ behind rs (call_all code turns child cs j)) →
          on_resumed (behind rs r) (call_all code turns child cs) ≡ behind rs (on_resumed r (call_all code turns child cs))
      on (GoesOn j) rest = rest j
      on (IsOver e) rest = refl

  -- ---- what is made

  made_behind : (m : Made) (i : Instance) → make code m (after rs i) ≡ behind rs (make code m i)
  made_behind (made.Root size space) i = refl
  made_behind (made.Partition r sets disjoint) i = go (is_sound r.points sets disjoint)
    where
      go : (b : Bool) →
          cond b (GoesOn (make_partition r sets disjoint (after rs i))) (breaks (after rs i))
          ≡ behind rs (cond b (GoesOn (make_partition r sets disjoint i)) (breaks i))
      go true = refl
      go false = refl

  concluded_behind : (y : Yield) (i : Instance) → conclude y (after rs i) ≡ conclude y i
  concluded_behind (yield.End v) i = refl
  concluded_behind (yield.Calls cs) i = refl
  concluded_behind (yield.Want r g) i = refl
  concluded_behind (yield.Await n) i = refl
  concluded_behind (yield.Make m) i = refl
  concluded_behind (yield.Fault k) i = refl
  concluded_behind yield.MachineFault i = refl

-- ---- values of children

here : (v : Value) (vs : List Value) → Contains (v ∷ vs) v
here v vs = (0, omega arith, refl)

there : (v w : Value) (vs : List Value) → Contains vs w → Contains (v ∷ vs) w
there v w vs c = Contains-append_right (v ∷ []) vs w c

-- whatever a child's value is taken to be, where no slot holds it as pending
settled_alike : (n : ℕ) (z y : ℤ) (vs : List Value) → (Contains vs (value.Pending n) → z ≡ y) →
    map (settled n z) vs ≡ map (settled n y) vs
settled_alike n z y [] same = refl
settled_alike n z y (v ∷ vs) same =
    both (one v same) (settled_alike n z y vs (λ c. same (there v (value.Pending n) vs c)))
  where
    both : {a b : Value} {xs ys : List Value} → a ≡ b → xs ≡ ys → (a ∷ xs) ≡ (b ∷ ys)
    both e f = cc

    one : (w : Value) → (Contains (w ∷ vs) (value.Pending n) → z ≡ y) →
        settled n z w ≡ settled n y w
    one (value.Number x) s = refl
    one (value.Space x) s = refl
    one (value.Region r) s = refl
    one (value.Partition p) s = refl
    one (value.Pending j) s = go (n == j) refl
      where
        go : (b : Bool) → (n == j) ≡ b →
            cond b (value.Number z) (value.Pending j) ≡ cond b (value.Number y) (value.Pending j)
        go true e =
            let same : n ≡ j = eqb-true n j e in
            ap value.Number (s (subst (λ (k : ℕ). Contains (value.Pending j ∷ vs) (value.Pending k)) (sym same) (here (value.Pending j) vs)))
        go false e = refl

-- ---- behind a segment

module _ (code : Code) (turns : ℕ) (child : Runner) (kept : List Answer) (rs : List ℤ) where
  -- the answers that are kept tell of each child that is pending in a slot what all values tell
  abbrev AreTold : Instance → List Value → Type 0
  AreTold i slots = (n : ℕ) → Contains slots (value.Pending n) →
      answer_in kept n ≡ get_or (rs ++ i.results) n (pos 0)

  resumed_behind : (y : Yield) (i : Instance) → AreTold i i.frame.slots →
      resume code turns child y (after rs i) ≡ behind rs (resume_by kept code turns child y i)
  resumed_behind (yield.Calls cs) i told = calls_behind code turns child rs cs (give_all i)
  resumed_behind (yield.Want r g) i told = refl
  resumed_behind (yield.Await n) i told =
      ap (λ (vs : List Value). GoesOn (record (after rs i) { frame = record i.frame { slots = vs } }))
      (settled_alike n (get_or (rs ++ i.results) n (pos 0)) (answer_in kept n) i.frame.slots (λ c. sym (told n c)))
  resumed_behind (yield.Make m) i told = made_behind code turns child rs m i
  resumed_behind (yield.End v) i told = refl
  resumed_behind (yield.Fault k) i told = refl
  resumed_behind yield.MachineFault i told = refl

  pub follows_behind : (a : After) (i : Instance) →
      ((f : Frame) → a.frame ≡ Some f → AreTold i f.slots) →
      resume_after code turns child a (after rs i) ≡ behind rs (resume_after_by kept code turns child a i)
  follows_behind a i told = go a.frame refl
    where
      go : (o : Option Frame) → a.frame ≡ o →
          resume_in code turns child o a.ends (record (after rs i) { parts = a.parts; text = i.text ++ a.text })
          ≡ behind rs (resume_in_by kept code turns child o a.ends (record i { parts = a.parts; text = i.text ++ a.text }))
      go (Some f) e = resumed_behind a.ends (record i { parts = a.parts; text = i.text ++ a.text; frame = f }) (told f e)
      go None e = ap IsOver (concluded_behind code turns child rs a.ends (record i { parts = a.parts; text = i.text ++ a.text }))

-- ---- what the frame asks for

-- an instance that goes on asks for no more than a frame
abbrev pub AsksNoMore : Frame → Resumed → Type 0
AsksNoMore f (GoesOn i) = (n : ℕ) → MayAsk i.frame n → MayAsk f n
AsksNoMore f (IsOver e) = Unit {0}

-- a value that is put on top, and isn't pending
topped : (f : Frame) (v : Value) (n : ℕ) → ((m : ℕ) → v ≡ value.Pending m → ⊥) →
    (Contains f.slots (value.Pending n) ⊎ Contains (v ∷ f.stack) (value.Pending n)) ⊎ (f.children ≤ n) → MayAsk f n
topped f v n other (inl (inl c)) = inl (inl c)
topped f v n other (inl (inr c)) = by (Contains-append_cases (v ∷ []) f.stack (value.Pending n) c)
  where
    by : Contains (v ∷ []) (value.Pending n) ⊎ Contains f.stack (value.Pending n) → MayAsk f n
    by (inl (zero, l, e)) = absurd (other n e)
    by (inl (suc k, l, e)) = absurd (omega (arith, l))
    by (inr d) = inl (inr d)
topped f v n other (inr l) = inr l

-- what is settled was pending before
settled_had : (n m : ℕ) (z : ℤ) (vs : List Value) →
    Contains (map (settled n z) vs) (value.Pending m) → Contains vs (value.Pending m)
settled_had n m z [] c = c
settled_had n m z (v ∷ vs) c =
    by v (Contains-append_cases (settled n z v ∷ []) (map (settled n z) vs) (value.Pending m) c) (settled_had n m z vs)
  where
    one : (w : Value) → settled n z w ≡ value.Pending m → w ≡ value.Pending m
    one (value.Number x) e = e
    one (value.Space x) e = e
    one (value.Region r) e = e
    one (value.Partition p) e = e
    one (value.Pending j) e = go (n == j) e
      where
        go : (b : Bool) → cond b (value.Number z) (value.Pending j) ≡ value.Pending m →
            value.Pending j ≡ value.Pending m
        go true q = absurd cc
        go false q = q

    by : (w : Value) → Contains (settled n z w ∷ []) (value.Pending m) ⊎ Contains (map (settled n z) vs) (value.Pending m) →
        (Contains (map (settled n z) vs) (value.Pending m) → Contains vs (value.Pending m)) →
        Contains (w ∷ vs) (value.Pending m)
    by w (inl (zero, l, e)) rest = subst (Contains (w ∷ vs)) (one w e) (here w vs)
    by w (inl (suc k, l, e)) rest = absurd (omega (arith, l))
    by w (inr d) rest = there w (value.Pending m) vs (rest d)

module _ (code : Code) (turns : ℕ) (child : Runner) (kept : List Answer) where
  abbrev same_frame : Instance → Resumed → Type 0
  same_frame i (GoesOn j) = j.frame ≡ i.frame
  same_frame i (IsOver e) = Unit {0}

  came_same : (e : Ended) (i : Instance) → same_frame i (after_call e i)
  came_same (CameBack v own contents text) i = refl
  came_same (Broke fault text) i = tt

  within_same : (f : Frame) (o : Option (List Requirement)) (i : Instance) →
      same_frame i (call_within child f o i)
  within_same f None i = tt
  within_same f (Some needs) i = go (is_within needs i.needs)
    where
      go : (b : Bool) →
          same_frame i (cond b (after_call (child (begun f needs i.contents)) i) (breaks i))
      go true = came_same (child (begun f needs i.contents)) i
      go false = tt

  task_same : (c : CallOut) (o : Option TaskCode) (i : Instance) →
      same_frame i (call_task code turns child c o i)
  task_same c None i = tt
  task_same c (Some t) i = go (nat_le (length c.args) t.slots)
    where
      frame : Frame
      frame = opening turns (suc i.frame.depth) c.task t c.args

      needs : Option (List Requirement)
      needs = requirements_on code i.contents t.needs c.args

      go : (b : Bool) → same_frame i (cond b (call_within child frame needs i) (breaks i))
      go true = within_same frame needs i
      go false = tt

  calls_same : (cs : List CallOut) (i : Instance) → same_frame i (call_all code turns child cs i)
  calls_same [] i = refl
  calls_same (c ∷ cs) i =
      on (call_task code turns child c (slice_get code.tasks c.task) i) (task_same c (slice_get code.tasks c.task) i) (calls_same cs)
    where
      then : (j : Instance) (r : Resumed) → j.frame ≡ i.frame → same_frame j r → same_frame i r
      then j (GoesOn k) e f = f ∙ e
      then j (IsOver over) e f = tt

      on : (r : Resumed) → same_frame i r →
          ((j : Instance) → same_frame j (call_all code turns child cs j)) →
          same_frame i (on_resumed r (call_all code turns child cs))
      on (GoesOn j) e rest = then j (call_all code turns child cs j) e (rest j)
      on (IsOver over) e rest = tt

  by_same : (i : Instance) (r : Resumed) → same_frame i r → AsksNoMore i.frame r
  by_same i (GoesOn j) e = λ n may. subst (λ (f : Frame). MayAsk f n) e may
  by_same i (IsOver over) e = tt

  resumed_asks : (y : Yield) (i : Instance) →
      AsksNoMore i.frame (resume_by kept code turns child y i)
  resumed_asks (yield.Calls cs) i =
      by_same i (call_all code turns child cs (give_all i)) (calls_same cs (give_all i))
  resumed_asks (yield.Want r g) i = λ n may. may
  resumed_asks (yield.Await m) i = λ n may. by n may
    where
      by : (n : ℕ) →
          MayAsk (record i.frame { slots = map (settled m (answer_in kept m)) i.frame.slots }) n →
          MayAsk i.frame n
      by n (inl (inl c)) = inl (inl (settled_had m n (answer_in kept m) i.frame.slots c))
      by n (inl (inr c)) = inl (inr c)
      by n (inr l) = inr l
  resumed_asks (yield.Make (made.Root size space)) i =
      λ n may. topped i.frame _ n (λ m e. absurd cc) may
  resumed_asks (yield.Make (made.Partition r sets disjoint)) i =
      go (is_sound r.points sets disjoint)
    where
      go : (b : Bool) →
          AsksNoMore i.frame (cond b (GoesOn (make_partition r sets disjoint i)) (breaks i))
      go true = λ n may. topped i.frame _ n (λ m e. absurd cc) may
      go false = tt
  resumed_asks (yield.End v) i = tt
  resumed_asks (yield.Fault k) i = tt
  resumed_asks yield.MachineFault i = tt

  -- behind a segment an instance asks for no more than the frame that the segment left
  pub asks_behind : (a : After) (i : Instance) (f : Frame) →
      ((g : Frame) → a.frame ≡ Some g → (n : ℕ) → MayAsk g n → MayAsk f n) →
      AsksNoMore f (resume_after_by kept code turns child a i)
  asks_behind a i f left = go a.frame refl
    where
      then : (g : Frame) (r : Resumed) → ((n : ℕ) → MayAsk g n → MayAsk f n) → AsksNoMore g r →
          AsksNoMore f r
      then g (GoesOn j) no_more asks = λ n may. no_more n (asks n may)
      then g (IsOver over) no_more asks = tt

      go : (o : Option Frame) → a.frame ≡ o → AsksNoMore f (resume_in_by kept code turns child o a.ends (record i { parts = a.parts; text = i.text ++ a.text }))
      go (Some g) e = then g _ (left g e) (resumed_asks a.ends (record i { parts = a.parts; text = i.text ++ a.text; frame = g }))
      go None e = tt
