-- What an instance is given behind a segment: it goes on in the frame that the segment left, or with
-- what it waited for.
use Rattle.std.proofs.Common.{◌≡◌, ℕ, suc, ℤ, pos, List, [], ◌∷◌, ◌++◌, Bool, true, false, cond, Option, Some, None, refl, ap, ◌∙◌, map, option_map, get_or, eq-eqb}
use Rattle.std.specs.Prelude.{length, nat_le, slice_get}
use Rattle.std.proofs.lemmas.Bool.{and_from}
use Rattle.std.proofs.lemmas.Option.{none-some, slice_get-map}
use Rattle.region_tree.specs.declared.piece.Part.{Part}
use Rattle.region_tree.specs.Requirements.{Requirement, is_within}
use Rattle.task_code.specs.declared.code.Code.{Code}
use Rattle.task_code.specs.declared.code.Line.{Line}
use Rattle.task_code.specs.declared.code.TaskCode.{TaskCode}
use Rattle.task_code.specs.declared.instr.Instr.{Instr}
use Rattle.task_code.specs.declared.instr.Instr.TheVariants as instr
use Rattle.machine_terms.specs.declared.frame.Frame.{Frame}
use Rattle.machine_terms.specs.declared.order.Ended.{Ended}
use Rattle.machine_terms.specs.declared.order.Ended.TheVariants.{CameBack, Broke}
use Rattle.machine_terms.specs.declared.order.Instance.{Instance}
use Rattle.machine_terms.specs.declared.order.Resumed.{Resumed}
use Rattle.machine_terms.specs.declared.order.Resumed.TheVariants.{GoesOn, IsOver}
use Rattle.machine_terms.specs.declared.outcome.CallOut.{CallOut}
use Rattle.machine_terms.specs.declared.outcome.Made.TheVariants as made
use Rattle.machine_terms.specs.declared.outcome.Yield.{Yield}
use Rattle.machine_terms.specs.declared.outcome.Yield.TheVariants as yield
use Rattle.machine_terms.specs.declared.value.Value.TheVariants.{Number, Pending}
use Rattle.machine_terms.specs.Copies.{part_from}
use Rattle.machine_terms.specs.Machine.{Machine}
use Rattle.machine_terms.specs.Makes.{is_sound, make_partition}
use Rattle.machine_terms.specs.Opening.{opening, requirements_on}
use Rattle.machine_terms.specs.Orders.{Runner, after_call, begun, breaks, call_all, call_task, call_within, give_all, on_resumed, resume_in, settled, until_over}
use Rattle.machine_terms.specs.Parts.{is_part_of, part_of}
use Rattle.machine_terms.specs.Segments.{frame_after}
use Rattle.machine_terms.proofs.StepKinds.{slot_of}
use Rattle.order_laws.proofs.Waits.{AfterStop, Answers, Passed, Within}

-- of the instance that goes on
abbrev pub Each : (Instance → Type 0) → Resumed → Type 0
Each P (GoesOn i) = P i
Each P (IsOver e) = Unit {0}

pub each_map : (P Q : Instance → Type 0) → ((i : Instance) → P i → Q i) → (r : Resumed) →
    Each P r → Each Q r
each_map P Q h (GoesOn i) w = h i w
each_map P Q h (IsOver e) w = tt

pub until_same : (r : Resumed) (f g : Instance → Ended) → Each (λ i. f i ≡ g i) r →
    until_over r f ≡ until_over r g
until_same (GoesOn i) f g e = e
until_same (IsOver e) f g w = refl

each_when : (P : Instance → Type 0) (b : Bool) (r : Resumed) (i : Instance) → Each P r →
    Each P (cond b r (breaks i))
each_when P true r i h = h
each_when P false r i h = tt

-- a part that was fetched is held
fetched : (qs : List Part) (q : Part) (root field : ℕ) → is_part_of root field q ≡ true →
    part_of (qs ++ q ∷ []) root field ≡ None → ⊥
fetched [] q root field e h = chosen (is_part_of root field q) e h
  where
    chosen : (b : Bool) → b ≡ true → cond b (Some q) None ≡ None → ⊥
    chosen true e h = cc
    chosen false e h = cc
fetched (p ∷ qs) q root field e h = chosen (is_part_of root field p) (fetched qs q root field e) h
  where
    chosen : (b : Bool) → (part_of (qs ++ q ∷ []) root field ≡ None → ⊥) →
        cond b (Some p) (part_of (qs ++ q ∷ []) root field) ≡ None → ⊥
    chosen true g h = cc
    chosen false g h = g h

-- the value of a child stands where the child was pending
settled_self : (n : ℕ) (z : ℤ) → settled n z (Pending n) ≡ Number z
settled_self n z = ap (λ b. cond b (Number z) (Pending n)) (eq-eqb n n refl)

answers : (n : ℕ) (z : ℤ) (f : Frame) → Answers n z f (record f { slots = map (settled n z) f.slots })
answers n z f None e = absurd (none-some (Pending n) e)
answers n z f (Some l) e = by_instr l.instr e
  where
    by_instr : (j : Instr) → slot_of j f ≡ Some (Pending n) →
        slot_of j (record f { slots = map (settled n z) f.slots }) ≡ Some (Number z)
    by_instr (instr.Load s) e =
        slice_get-map (settled n z) f.slots s ∙ ap (option_map (settled n z)) e
        ∙ ap (λ v. Some v) (settled_self n z)
    by_instr _ e = absurd (none-some (Pending n) e)

-- ---- calls leave the frame

module _ (code : Code) (turns : ℕ) (child : Runner) where
  abbrev Frames : Frame → Resumed → Type 0
  Frames f r = Each (λ i. i.frame ≡ f) r

  after_frames : (e : Ended) (i : Instance) → Frames i.frame (after_call e i)
  after_frames (CameBack v own contents text) i = refl
  after_frames (Broke e text) i = tt

  within_frames : (f : Frame) (o : Option (List Requirement)) (i : Instance) →
      Frames i.frame (call_within child f o i)
  within_frames f None i = tt
  within_frames f (Some needs) i =
      each_when _ (is_within needs i.needs) (after_call (child (begun f needs i.contents)) i) i
      (after_frames (child (begun f needs i.contents)) i)

  pub task_frames : (c : CallOut) (o : Option TaskCode) (i : Instance) →
      Frames i.frame (call_task code turns child c o i)
  task_frames c None i = tt
  task_frames c (Some t) i = each_when _ (nat_le (length c.args) t.slots) _ i
      (within_frames (opening turns (suc i.frame.depth) c.task t c.args)
      (requirements_on code i.contents t.needs c.args) i)

  on_frames : (f : Frame) (r : Resumed) (more : Instance → Resumed) → Frames f r →
      ((i : Instance) → i.frame ≡ f → Frames f (more i)) → Frames f (on_resumed r more)
  on_frames f (GoesOn i) more h k = k i h
  on_frames f (IsOver e) more h k = tt

  pub calls_frames : (cs : List CallOut) (f : Frame) (i : Instance) → i.frame ≡ f →
      Frames f (call_all code turns child cs i)
  calls_frames [] f i e = e
  calls_frames (c ∷ cs) f i e =
      let r = call_task code turns child c (slice_get code.tasks c.task) i in
      on_frames f r (call_all code turns child cs)
      (each_map (λ j. j.frame ≡ i.frame) (λ j. j.frame ≡ f) (λ j d. d ∙ e) r
      (task_frames c (slice_get code.tasks c.task) i))
      (λ j d. calls_frames cs f j d)

-- ---- behind a segment

abbrev pub here : Instance → Machine
here i = record { frame = i.frame; parts = i.parts }

passed_by : (f g : Frame) → g ≡ f → Passed f g
passed_by f g e = record {
  task = ap (λ (x : Frame). x.task) e;
  pc = ap (λ (x : Frame). x.pc) e;
  turns = ap (λ (x : Frame). x.turns) e;
  depth = ap (λ (x : Frame). x.depth) e;
}

-- an instance that goes on from a frame, and ends within so many steps
pub record Next (code : Code) (body : List Line) (n : ℕ) (f : Frame) (i : Instance) : Type 0 where
  pub passed : Passed f i.frame
  pub within : Within code body n (here i)

-- the instance with what a segment left
abbrev pub left_by : Machine → List ℕ → Instance → Instance
left_by m text i = record i { parts = m.parts; text = i.text ++ text }

module _ (code : Code) (turns : ℕ) (child : Runner) (body : List Line) (n : ℕ) where
  pub resumes : (y : Yield) (m : Machine) (text : List ℕ) (i : Instance) →
      AfterStop (Within code body n) y m →
      Each (Next code body n m.frame)
      (resume_in code turns child (frame_after y m.frame) y (left_by m text i))
  resumes (yield.Calls cs) m text i w =
      let j = give_all (record (left_by m text i) { frame = m.frame }) in
      each_map (λ x. x.frame ≡ m.frame) (Next code body n m.frame)
      (λ x e. let q = passed_by m.frame x.frame e in record { passed = q; within = w.1 (here x) q })
      (call_all code turns child cs j) (calls_frames code turns child cs m.frame j refl)
  resumes (yield.Want r g) m text i w = record {
    passed = passed_by m.frame m.frame refl;
    within = w _ (passed_by m.frame m.frame refl) (λ o. refl)
        (fetched m.parts (part_from code i.contents i.needs r.0 g) r.0 g
        (and_from _ _ (eq-eqb r.0 r.0 refl) (eq-eqb g g refl)));
  }
  resumes (yield.Await c) m text i w = record {
    passed = record { task = refl; pc = refl; turns = refl; depth = refl };
    within = w _ (get_or i.results c (pos 0))
        (record { task = refl; pc = refl; turns = refl; depth = refl })
        (answers c (get_or i.results c (pos 0)) m.frame);
  }
  resumes (yield.Make (made.Root size space)) m text i w = record {
    passed = record { task = refl; pc = refl; turns = refl; depth = refl };
    within = w _ (record { task = refl; pc = refl; turns = refl; depth = refl });
  }
  resumes (yield.Make (made.Partition r sets d)) m text i w =
      let j = record (left_by m text i) { frame = m.frame } in
      each_when (Next code body n m.frame) (is_sound r.points sets d)
      (GoesOn (make_partition r sets d j)) j (record {
        passed = record { task = refl; pc = refl; turns = refl; depth = refl };
        within = w _ (record { task = refl; pc = refl; turns = refl; depth = refl });
      })
  resumes (yield.End v) m text i w = tt
  resumes (yield.Fault f) m text i w = tt
  resumes yield.MachineFault m text i w = tt
