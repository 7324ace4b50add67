-- What a machine may be given where it stopped, and that an instruction waits at most once.
use Rattle.std.proofs.Common.{◌≡◌, ℕ, zero, suc, ◌+◌, ◌≤◌, ℤ, List, Option, Some, None, refl, sym, ap, ◌∙◌, subst, arith}
use Rattle.std.proofs.lemmas.Option.{none-some}
use Rattle.task_code.specs.declared.code.Code.{Code}
use Rattle.task_code.specs.declared.code.Line.{Line}
use Rattle.task_code.specs.declared.instr.Instr.{Instr}
use Rattle.task_code.specs.declared.instr.Instr.TheVariants as instr
use Rattle.machine_terms.specs.declared.frame.Frame.{Frame}
use Rattle.machine_terms.specs.declared.outcome.Yield.{Yield}
use Rattle.machine_terms.specs.declared.outcome.Yield.TheVariants as yield
use Rattle.machine_terms.specs.declared.value.Value.{Value}
use Rattle.machine_terms.specs.declared.value.Value.TheVariants.{Number, Pending}
use Rattle.machine_terms.specs.Machine.{Machine, Stepped, goes, prints, stops}
use Rattle.machine_terms.specs.Jumps.{fetch}
use Rattle.machine_terms.specs.Parts.{part_of}
use Rattle.machine_terms.specs.Segments.{step}
use Rattle.machine_terms.proofs.StepKinds.{Kind, over, called, makes, wants, awaits, nexted, printed, jumped, turned, IsOver, MayCall, key_of, slot_of}
use Rattle.machine_terms.proofs.Kept.{asked, key_at, slot_at, step_kind}

-- ---- what a machine is given

-- the frame of an instance that goes on where it stopped
pub record Passed (f g : Frame) : Type 0 where
  pub task : g.task ≡ f.task
  pub pc : g.pc ≡ f.pc
  pub turns : g.turns ≡ f.turns
  pub depth : g.depth ≡ f.depth

-- each instruction asks for the same field of a root
abbrev pub AsksAlike : Frame → Frame → Type 0
AsksAlike f g = (o : Option Line) → key_at o g ≡ key_at o f

-- a child that was pending in a slot has given its value
abbrev pub Answers : ℕ → ℤ → Frame → Frame → Type 0
Answers n z f g = (o : Option Line) → slot_at o f ≡ Some (Pending n) → slot_at o g ≡ Some (Number z)

-- whatever a machine is given where it stopped, this holds of it then
abbrev pub AfterStop : (Machine → Type 0) → Yield → Machine → Type 0
AfterStop P (yield.Calls cs) x =
    MayCall x.frame.depth cs × ((m : Machine) → Passed x.frame m.frame → P m)
AfterStop P (yield.Make d) x = (m : Machine) → Passed x.frame m.frame → P m
AfterStop P (yield.Want r g) x = (m : Machine) → Passed x.frame m.frame → AsksAlike x.frame m.frame →
    (part_of m.parts r.0 g ≡ None → ⊥) → P m
AfterStop P (yield.Await n) x =
    (m : Machine) (z : ℤ) → Passed x.frame m.frame → Answers n z x.frame m.frame → P m
AfterStop P _ x = Unit {0}

abbrev pub AfterStep : (Machine → Type 0) → Stepped → Type 0
AfterStep P (goes m) = P m
AfterStep P (prints t m) = P m
AfterStep P (stops y m) = AfterStop P y m

module _ (P Q : Machine → Type 0) (h : (m : Machine) → P m → Q m) where
  stop_map : (y : Yield) (x : Machine) → AfterStop P y x → AfterStop Q y x
  stop_map (yield.Calls cs) x w = (w.0, λ m e. h m (w.1 m e))
  stop_map (yield.Make d) x w = λ m e. h m (w m e)
  stop_map (yield.Want r g) x w = λ m e a k. h m (w m e a k)
  stop_map (yield.Await n) x w = λ m z e a. h m (w m z e a)
  stop_map (yield.End v) x w = tt
  stop_map (yield.Fault f) x w = tt
  stop_map yield.MachineFault x w = tt

  pub step_map : (s : Stepped) → AfterStep P s → AfterStep Q s
  step_map (goes m) w = h m w
  step_map (prints t m) w = h m w
  step_map (stops y m) w = stop_map y m w

pub over_stop : (P : Machine → Type 0) (y : Yield) (m : Machine) → IsOver y → AfterStop P y m
over_stop P (yield.Calls cs) m o = absurd o
over_stop P (yield.Make d) m o = absurd o
over_stop P (yield.Want r g) m o = absurd o
over_stop P (yield.Await n) m o = absurd o
over_stop P (yield.End v) m o = tt
over_stop P (yield.Fault f) m o = tt
over_stop P yield.MachineFault m o = tt

-- ---- steps that don't wait

abbrev pub Quiet : Stepped → Type 0
Quiet (stops (yield.Want r g) m) = ⊥
Quiet (stops (yield.Await n) m) = ⊥
Quiet _ = Unit {0}

over_quiet : (y : Yield) (m : Machine) → IsOver y → Quiet (stops y m)
over_quiet (yield.Calls cs) m o = absurd o
over_quiet (yield.Make d) m o = absurd o
over_quiet (yield.Want r g) m o = absurd o
over_quiet (yield.Await n) m o = absurd o
over_quiet (yield.End v) m o = tt
over_quiet (yield.Fault f) m o = tt
over_quiet yield.MachineFault m o = tt

-- an instruction that asks for what is pending in a slot asks for no field
only_slot : (i : Instr) (f g : Frame) (v : Value) → slot_of i f ≡ Some v → key_of i g ≡ None
only_slot (instr.Load s) f g v e = refl
only_slot _ f g v e = absurd (none-some v e)

slot_or_key : (o : Option Line) (f : Frame) (v : Value) → slot_at o f ≡ Some v → key_at o f ≡ None
slot_or_key None f v e = absurd (none-some v e)
slot_or_key (Some l) f v e = only_slot l.instr f f v e

abbrev field_in : ℕ × ℕ → Option (ℕ × ℕ) → ℕ × ℕ
field_in d (Some p) = p
field_in d None = d

number_pending : (z : ℤ) (n : ℕ) → Some (Number z) ≡ Some (Pending n) → ⊥
number_pending z n e = cc

module _ (body : List Line) where
  -- behind a part that was wanted
  quiet_part : (m : Machine) (root g : ℕ) (s : Stepped) → Kind (asked body m.frame) m s →
      (asked body m.frame).key ≡ Some (root, g) → (part_of m.parts root g ≡ None → ⊥) → Quiet s
  quiet_part m root g _ (over y x o f) e h = over_quiet y x o
  quiet_part m root g _ (called cs x f a b c k) e h = tt
  quiet_part m root g _ (makes d x f a b) e h = tt
  quiet_part m root g _ (wants r k x f a b c) e h =
      let same : (r.0, k) ≡ (root, g) = ap (field_in (root, g)) (sym b ∙ e) in
      h (subst (λ (p : ℕ × ℕ). part_of m.parts p.0 p.1 ≡ None) same c.none)
  quiet_part m root g _ (awaits n a) e h =
      none-some (root, g) (sym (slot_or_key (fetch body m.frame.pc) m.frame (Pending n) a) ∙ e)
  quiet_part m root g _ (nexted x f a b) e h = tt
  quiet_part m root g _ (printed t x f a b) e h = tt
  quiet_part m root g _ (jumped x f a b) e h = tt
  quiet_part m root g _ (turned x f a) e h = tt

  -- behind a child that was awaited
  quiet_child : (m : Machine) (z : ℤ) (s : Stepped) → Kind (asked body m.frame) m s →
      (asked body m.frame).slot ≡ Some (Number z) → Quiet s
  quiet_child m z _ (over y x o f) e = over_quiet y x o
  quiet_child m z _ (called cs x f a b c k) e = tt
  quiet_child m z _ (makes d x f a b) e = tt
  quiet_child m z _ (wants r k x f a b c) e =
      none-some (r.0, k) (sym (slot_or_key (fetch body m.frame.pc) m.frame (Number z) e) ∙ b)
  quiet_child m z _ (awaits n a) e = number_pending z n (sym e ∙ a)
  quiet_child m z _ (nexted x f a b) e = tt
  quiet_child m z _ (printed t x f a b) e = tt
  quiet_child m z _ (jumped x f a b) e = tt
  quiet_child m z _ (turned x f a) e = tt

-- ---- within a number of steps

module _ (code : Code) (body : List Line) where
  -- it ends within so many steps, whatever it is given at each stop
  abbrev pub Within : ℕ → Machine → Type 0
  Within zero m = ⊥
  Within (suc k) m = AfterStep (Within k) (step code body m)

  pub more : (k n : ℕ) (m : Machine) → n ≤ k → Within n m → Within k m
  more zero zero m l w = w
  more zero (suc n) m l w = absurd (omega (arith, l))
  more (suc k) zero m l w = absurd w
  more (suc k) (suc n) m l w = step_map (Within n) (Within k)
      (λ x v. more k n x (omega (arith, l)) v) (step code body m) w

  abbrev pub twice : ℕ → ℕ
  twice zero = zero
  twice (suc n) = suc (suc (twice n))

  pub twice_is : (n : ℕ) → twice n ≡ n + n
  twice_is zero = refl
  twice_is (suc n) = omega (arith, twice_is n)

  -- each instruction with its wait
  abbrev pub Rounds : ℕ → Machine → Type 0
  Rounds n m = Within (twice n) m

  pub weaker : (k n : ℕ) (m : Machine) → n ≤ k → Rounds n m → Rounds k m
  weaker k n m l w = more (twice k) (twice n) m (omega (arith, l, twice_is k, twice_is n)) w

  -- from each machine at this place with these turns whose step doesn't wait
  abbrev Onward : ℕ → Machine → Type 0
  Onward c m = (x : Machine) → x.frame.pc ≡ m.frame.pc → x.frame.turns ≡ m.frame.turns →
      Quiet (step code body x) → AfterStep (Rounds c) (step code body x)

  one_more : (c : ℕ) (s : Stepped) → AfterStep (Rounds c) s → AfterStep (Within (suc (twice c))) s
  one_more c s w = step_map (Rounds c) (Within (suc (twice c)))
      (λ y v. more (suc (twice c)) (twice c) y (omega arith) v) s w

  once : (c : ℕ) (m : Machine) (s : Stepped) → Kind (asked body m.frame) m s →
      Onward c m → (Quiet s → AfterStep (Rounds c) s) → AfterStep (Within (suc (twice c))) s
  once c m _ (wants r g x f e k p) h q = λ y a b d.
      let place = a.pc ∙ ap (λ (f : Frame). f.pc) e in
      h y place (a.turns ∙ ap (λ (f : Frame). f.turns) e)
      (quiet_part body y r.0 g (step code body y) (step_kind code body y)
      (ap (λ n. key_at (fetch body n) y.frame) place ∙ b (fetch body m.frame.pc)
      ∙ ap (key_at (fetch body m.frame.pc)) e ∙ k) d)
  once c m _ (awaits n p) h q = λ y z a b.
      h y a.pc a.turns (quiet_child body y z (step code body y) (step_kind code body y)
      (ap (λ n. slot_at (fetch body n) y.frame) a.pc ∙ b (fetch body m.frame.pc) p))
  once c m _ (over y x o f) h q = over_stop _ y x o
  once c m _ (called cs x f a b d k) h q = one_more c (stops (yield.Calls cs) x) (q tt)
  once c m _ (makes d x f a b) h q = one_more c (stops (yield.Make d) x) (q tt)
  once c m _ (nexted x f a b) h q = one_more c (goes x) (q tt)
  once c m _ (printed t x f a b) h q = one_more c (prints t x) (q tt)
  once c m _ (jumped x f a b) h q = one_more c (goes x) (q tt)
  once c m _ (turned x f a) h q = one_more c (goes x) (q tt)

  -- an instruction waits once at most
  pub settle : (c : ℕ) (m : Machine) → Onward c m → Rounds (suc c) m
  settle c m h = once c m (step code body m) (step_kind code body m) h (λ q. h m refl refl q)
