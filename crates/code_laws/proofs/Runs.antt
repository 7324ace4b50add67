-- Runs in a row.
use Rattle.std.proofs.Common.{◌≡◌, ℕ, suc, ◌+◌, false, Option, Some, refl, sym, ap, ◌∙◌, arith}
use Rattle.std.proofs.lemmas.Bool.{false≢true}
use Rattle.machine_terms.specs.Orders.{until_over}
use Rattle.regent_tree.specs.declared.outcome.Fault.{Fault}
use Rattle.regent_tree.specs.Laws.{Leaves}
use Rattle.regent_tree.specs.Running.{State, Run, Result, gives, fails, and_then}
use Rattle.task_code.specs.declared.code.Line.{Line}
use Rattle.task_code.specs.declared.instr.Instr.{Instr}
use Rattle.task_code.specs.declared.instr.Instr.TheVariants as instr
use Rattle.machine_terms.specs.Jumps.{fetch}
use Rattle.machine_terms.specs.Segments.{act, act_at}
use Rattle.machine_terms.specs.declared.order.Ended.{Ended}
use Rattle.machine_terms.specs.declared.order.Ended.TheVariants.{Broke}
use Rattle.machine_terms.specs.declared.order.Instance.{Instance}
use Rattle.machine_terms.specs.declared.order.Resumed.{Resumed}
use Rattle.machine_terms.specs.declared.order.Resumed.TheVariants.{GoesOn, IsOver}
use Rattle.code_rules.specs.Pieces.{line_of}
use Rattle.code_laws.specs.Steps.{Setting, is_issue, behind, behind_line, machine_of, on_step, run_steps, Leads, Ends}
use Rattle.code_laws.specs.Standing.{Comes}
use Rattle.code_laws.proofs.Growing.{goes_grow, more_none, more_twice}

module _ (x : Setting) where
  pub leads_none : (i : Instance) → Leads x i i
  leads_none i = record { steps = 0; by = λ k n e. let d : n ≡ k = omega arith in ap (λ m. run_steps x m i) d; own = more_none i.frame.own }

  pub leads_twice : {i j k : Instance} → Leads x i j → Leads x j k → Leads x i k
  leads_twice l m = record {
    steps = l.steps + m.steps;
    by = λ k n e. l.by (m.steps + k) n (omega arith) ∙ m.by k (m.steps + k) refl;
    own = more_twice _ _ _ l.own m.own;
  }

  pub leads_end : {i j : Instance} {e : Ended} → Leads x i j → Ends x j e → Ends x i e
  leads_end l m = record {
    steps = l.steps + m.steps;
    by = λ k n e. l.by (m.steps + k) n (omega arith) ∙ m.by k (m.steps + k) refl;
  }

  -- one instruction
  acted : (i : Instance) (o : Option Line) → fetch x.body i.frame.pc ≡ o → (k n : ℕ) → n ≡ 1 + k →
      run_steps x n i ≡ until_over (behind_line o (on_step x i (act_at x.code x.body o (machine_of i)))) (run_steps x k)
  acted i o f k n e =
      let d : n ≡ suc k = omega arith in
      ap (λ m. run_steps x m i) d
      ∙ ap (λ p. until_over (behind_line p (on_step x i (act_at x.code x.body p (machine_of i)))) (run_steps x k)) f

  pub leads_by : (i j : Instance) (ins : Instr) (line : ℕ) →
      fetch x.body i.frame.pc ≡ Some (line_of ins line) →
      behind ins (on_step x i (act x.code x.body ins line (machine_of i))) ≡ GoesOn j → Leads x i j
  leads_by i j ins line f e = record {
    steps = 1;
    by = λ k n d. acted i (Some (line_of ins line)) f k n d
        ∙ ap (λ r. until_over r (run_steps x k)) e;
    own = goes_grow x i j ins line e;
  }

  pub ends_by : (i : Instance) (e : Ended) (ins : Instr) (line : ℕ) →
      fetch x.body i.frame.pc ≡ Some (line_of ins line) →
      behind ins (on_step x i (act x.code x.body ins line (machine_of i))) ≡ IsOver e → Ends x i e
  ends_by i e ins line f d = record {
    steps = 1;
    by = λ k n c. acted i (Some (line_of ins line)) f k n c
        ∙ ap (λ r. until_over r (run_steps x k)) d;
  }

  -- behind an instruction that is no launch no fault is due, and where it is no call nothing is told
  pub behind_alone : (ins : Instr) → is_issue ins ≡ false → (r : Resumed) → behind ins r ≡ r
  behind_alone (instr.Launch task s line args) alone r = absurd (false≢true (sym alone))
  behind_alone (instr.Call task n) alone r = absurd (false≢true (sym alone))
  behind_alone _ alone r = refl

  pub leads_alone : (i j : Instance) (ins : Instr) (line : ℕ) → is_issue ins ≡ false →
      fetch x.body i.frame.pc ≡ Some (line_of ins line) →
      on_step x i (act x.code x.body ins line (machine_of i)) ≡ GoesOn j → Leads x i j
  leads_alone i j ins line alone f e = leads_by i j ins line f (behind_alone ins alone _ ∙ e)

  pub ends_alone : (i : Instance) (e : Ended) (ins : Instr) (line : ℕ) → is_issue ins ≡ false →
      fetch x.body i.frame.pc ≡ Some (line_of ins line) →
      on_step x i (act x.code x.body ins line (machine_of i)) ≡ IsOver e → Ends x i e
  ends_alone i e ins line alone f d = ends_by i e ins line f (behind_alone ins alone _ ∙ d)

  -- what is said of an instance and a result, and holds too of an instance that leads there
  pub record Said {B : Type 0} (T : Instance → Result B → Type 0) : Type 0 where
    pub before : (i j : Instance) (r : Result B) → Leads x i j → T j r → T i r
    pub failing : (i : Instance) (f : Fault) (s : State) →
        Ends x i (Broke (Some f) s.text) → T i (fails f s)

  -- one step of the meaning and then the next
  pub then : {A B : Type 0} {T : Instance → Result B → Type 0} (said : Said T)
      (shape : A → Instance → Instance) (Good : A → State → Instance → Type 0)
      (i : Instance) (r : Result A) (k : A → Run B) → Comes x i shape Good r →
      ((a : A) (s : State) (j : Instance) → Good a s j → T (shape a j) (k a s)) →
      T i (and_then r k)
  then said shape Good i (gives a s) k c more =
      said.before i (shape a c.0) _ c.1 (more a s c.0 c.2)
  then said shape Good i (fails f s) k c more = said.failing i f s c

  -- so, where it is known what the first step leaves of the state, and that the run leads there
  pub then_led : {A B : Type 0} {T : Instance → Result B → Type 0} (said : Said T) (R : State → State → Type 0)
      (shape : A → Instance → Instance) (Good : A → State → Instance → Type 0)
      (i : Instance) (s : State) (r : Result A) (k : A → Run B) → Leaves R s r → Comes x i shape Good r →
      ((a : A) (t : State) (j : Instance) → R s t → Leads x i (shape a j) → Good a t j → T (shape a j) (k a t)) →
      T i (and_then r k)
  then_led said R shape Good i s (gives a t) k kept c more =
      said.before i (shape a c.0) _ c.1 (more a t c.0 kept c.1 c.2)
  then_led said R shape Good i s (fails f t) k kept c more = said.failing i f t c

  pub comes_before : {A : Type 0} (shape : A → Instance → Instance)
      (Good : A → State → Instance → Type 0) (i j : Instance) (r : Result A) →
      Leads x i j → Comes x j shape Good r → Comes x i shape Good r
  comes_before shape Good i j (gives a s) l c = (c.0, leads_twice l c.1, c.2)
  comes_before shape Good i j (fails f s) l c = leads_end l c

  pub comes_said : {A : Type 0} (shape : A → Instance → Instance)
      (Good : A → State → Instance → Type 0) → Said (λ i r. Comes x i shape Good r)
  comes_said shape Good = record {
    before = λ i j r l c. comes_before shape Good i j r l c;
    failing = λ i f s e. e;
  }

  -- further on, with the same result
  pub comes_on : {A : Type 0} (shape shape2 : A → Instance → Instance)
      (Good Good2 : A → State → Instance → Type 0) (i : Instance) (r : Result A) → Comes x i shape Good r →
      ((a : A) (s : State) (j : Instance) → Good a s j →
      (k : Instance) × Leads x (shape a j) (shape2 a k) × Good2 a s k) → Comes x i shape2 Good2 r
  comes_on shape shape2 Good Good2 i (gives a s) c more =
      let m = more a s c.0 c.2 in (m.0, leads_twice c.1 m.1, m.2)
  comes_on shape shape2 Good Good2 i (fails f s) c more = c
