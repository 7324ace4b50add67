-- No instruction loses a root that the instance made: more may come behind those.
use Rattle.std.proofs.Common.{◌≡◌, List, [], ◌∷◌, ◌++◌, Bool, true, false, cond, Option, Some, None, ℕ, refl, sym, ap, ◌∙◌, subst}
use Rattle.std.proofs.lemmas.List.{append-nil, append_assoc}
use Rattle.region_tree.specs.declared.tree.RootId.{RootId}
use Rattle.regent_tree.specs.declared.outcome.Fault.{Fault}
use Rattle.task_code.specs.declared.instr.Instr.{Instr}
use Rattle.task_code.specs.declared.instr.Instr.TheVariants as instr
use Rattle.machine_terms.specs.declared.order.Instance.{Instance}
use Rattle.machine_terms.specs.declared.order.Resumed.{Resumed}
use Rattle.machine_terms.specs.declared.order.Resumed.TheVariants.{GoesOn, IsOver}
use Rattle.machine_terms.specs.declared.outcome.Made.{Made}
use Rattle.machine_terms.specs.declared.outcome.Made.TheVariants as made
use Rattle.machine_terms.specs.declared.outcome.Yield.{Yield}
use Rattle.machine_terms.specs.declared.outcome.Yield.TheVariants as yield
use Rattle.machine_terms.specs.Machine.{Machine, Stepped, stops}
use Rattle.machine_terms.specs.Makes.{is_sound, make_partition}
use Rattle.machine_terms.specs.Orders.{breaks, call_all, give_all, make}
use Rattle.machine_terms.specs.Segments.{act}
use Rattle.machine_terms.proofs.InstructionKinds.{act_kind}
use Rattle.machine_terms.proofs.StepKinds.{Asking, IsOver as IsLast, Kind, awaits, called, is_launch, jumped, key_of, makes, nexted, over, printed, slot_of, turned, wants}
use Rattle.order_laws.proofs.Resuming.{Each, calls_frames, each_map}
use Rattle.code_laws.specs.Steps.{HasMore, Setting, behind, due, has_machine, machine_of, now_or_due, on_step}

pub more_none : (own : List RootId) → HasMore own own
more_none own = record { more = []; are = sym (append-nil own) }

pub more_twice : (a b c : List RootId) → HasMore a b → HasMore b c → HasMore a c
more_twice a b c p q = record {
  more = p.more ++ q.more;
  are = q.are ∙ ap (λ ids. ids ++ q.more) p.are ∙ append_assoc a p.more q.more;
}

-- the same roots
more_same : (a b : List RootId) → b ≡ a → HasMore a b
more_same a b e = subst (HasMore a) (sym e) (more_none a)

module _ (x : Setting) where
  -- an instance that goes on has these roots, and maybe more
  abbrev Grows : List RootId → Resumed → Type 0
  Grows own r = Each (λ j. HasMore own j.frame.own) r

  makes_more : (own : List RootId) (k : Instance) (m : Made) → k.frame.own ≡ own → Grows own (make x.code m k)
  makes_more own k (made.Root size space) e = record {
    more = record { 0 = k.contents.made } ∷ [];
    are = ap (λ ids. ids ++ record { 0 = k.contents.made } ∷ []) e;
  }
  makes_more own k (made.Partition r sets disjoint) e = chosen (is_sound r.points sets disjoint)
    where
      chosen : (b : Bool) → Grows own (cond b (GoesOn (make_partition r sets disjoint k)) (breaks k))
      chosen true = more_same own k.frame.own e
      chosen false = tt

  stopped : (y : Yield) (m : Machine) (i : Instance) → IsLast y → Grows i.frame.own (on_step x i (stops y m))
  stopped (yield.End v) m i o = tt
  stopped (yield.Fault f) m i o = tt
  stopped yield.MachineFault m i o = tt
  stopped (yield.Calls cs) m i o = absurd o
  stopped (yield.Want r f) m i o = absurd o
  stopped (yield.Await n) m i o = absurd o
  stopped (yield.Make d) m i o = absurd o

  steps_grow : (ask : Asking) (i : Instance) (s : Stepped) → Kind ask (machine_of i) s → Grows i.frame.own (on_step x i s)
  steps_grow ask i _ (over y m o f) = stopped y m i o
  steps_grow ask i _ (called cs m f a b c k) =
      each_map (λ j. j.frame ≡ m.frame) (λ j. HasMore i.frame.own j.frame.own)
      (λ j e. more_same i.frame.own j.frame.own (ap (λ g. g.own) e ∙ f.own))
      (call_all x.code x.turns x.child cs (give_all (has_machine m i)))
      (calls_frames x.code x.turns x.child cs m.frame (give_all (has_machine m i)) refl)
  steps_grow ask i _ (makes d m f a b) = makes_more i.frame.own (has_machine m i) d f.own
  steps_grow ask i _ (wants r g m f a b c) = more_same i.frame.own m.frame.own f.own
  steps_grow ask i _ (awaits n a) = more_none i.frame.own
  steps_grow ask i _ (nexted m f a b) = more_same i.frame.own m.frame.own f.own
  steps_grow ask i _ (printed t m f a b) = more_same i.frame.own m.frame.own f.own
  steps_grow ask i _ (jumped m f a b) = more_same i.frame.own m.frame.own f.own
  steps_grow ask i _ (turned m f a) = more_same i.frame.own m.frame.own f.own

  due_grows : (own : List RootId) (r : Resumed) → Grows own r → Grows own (due r)
  due_grows own (IsOver e) g = tt
  due_grows own (GoesOn j) g = by_later j.frame.later
    where
      by_later : (o : Option Fault) → Grows own (now_or_due o j)
      by_later None = g
      by_later (Some f) = tt

  behind_grows : (own : List RootId) (ins : Instr) (r : Resumed) → Grows own r → Grows own (behind ins r)
  behind_grows own (instr.Launch task s line args) r g = due_grows own r g
  behind_grows own (instr.Call task n) (GoesOn j) g = g
  behind_grows own (instr.Call task n) (IsOver e) g = tt
  behind_grows own _ r g = g

  pub goes_grow : (i j : Instance) (ins : Instr) (line : ℕ) →
      behind ins (on_step x i (act x.code x.body ins line (machine_of i))) ≡ GoesOn j → HasMore i.frame.own j.frame.own
  goes_grow i j ins line e =
      let ask : Asking = record { body = x.body; key = key_of ins i.frame; slot = slot_of ins i.frame; launch = is_launch ins } in
      subst (Grows i.frame.own) e
      (behind_grows i.frame.own ins _
      (steps_grow ask i _ (act_kind ask x.code ins line (machine_of i) refl refl refl)))
