-- What is kept of the values of children that came back.
use Rattle.std.specs.Prelude.{◌≡◌, ◌<◌, ◌+◌, ◌∷◌, ◌++◌, ◌==◌, ◌||◌, ℕ, ℤ, pos, suc, true, All, Bool, List, [], None, Option, Some, cond, filter, get_or, length, map, nat_le}
use Rattle.std.specs.List.{list_any}
use Rattle.task_code.specs.declared.code.Code.{Code}
use Rattle.machine_terms.specs.declared.frame.Frame.{Frame}
use Rattle.machine_terms.specs.declared.order.Instance.{Instance}
use Rattle.machine_terms.specs.declared.order.Resumed.{Resumed}
use Rattle.machine_terms.specs.declared.order.Resumed.TheVariants.{GoesOn}
use Rattle.machine_terms.specs.declared.outcome.After.{After}
use Rattle.machine_terms.specs.declared.outcome.Yield.{Yield}
use Rattle.machine_terms.specs.declared.outcome.Yield.TheVariants as yield
use Rattle.machine_terms.specs.declared.value.Value.{Value}
use Rattle.machine_terms.specs.declared.value.Value.TheVariants as value
use Rattle.machine_terms.specs.Orders.{Runner, resume, resume_in, settled, with_parts}
use Rattle.segment_regions.specs.Pendings.{MayAsk}
use Rattle.plain_run.specs.declared.answers.Answer.{Answer}

-- ---- answers

-- the answers that are kept, and how many children have come back
pub record KeptAnswers : Type 0 where
  pub kept : List Answer
  pub count : ℕ

-- the value of a child; one that isn't kept counts as 0
abbrev pub answer_in : List Answer → ℕ → ℤ
answer_in [] n = pos 0
answer_in (a ∷ xs) n = cond (a.child == n) a.number (answer_in xs n)

-- the values of children from a number on
abbrev pub answers_from : ℕ → List ℤ → List Answer
answers_from n [] = []
answers_from n (z ∷ zs) = record { child = n; number = z } ∷ answers_from (suc n) zs

-- these values come behind those of the children before
abbrev pub with_numbers : List ℤ → KeptAnswers → KeptAnswers
with_numbers zs a = record { kept = a.kept ++ answers_from a.count zs; count = a.count + length zs }

-- what is kept serves a frame as the values of all children do: it tells the same of each that the frame may ask for
pub record Serves (a : KeptAnswers) (f : Frame) (results : List ℤ) : Type 0 where
  pub count : a.count ≡ length results
  pub below : All (λ (x : Answer). x.child < a.count) a.kept
  pub told : (n : ℕ) → MayAsk f n → answer_in a.kept n ≡ get_or results n (pos 0)

-- the children that are pending among values
abbrev pub pendings : List Value → List ℕ
pendings [] = []
pendings (value.Pending n ∷ vs) = n ∷ pendings vs
pendings (v ∷ vs) = pendings vs

-- a frame that has called so many children and holds these as pending may ask for one
abbrev pub may_ask : ℕ → List ℕ → ℕ → Bool
may_ask children pending n = nat_le children n || list_any (λ m. m == n) pending

-- Some answers were let go: of children alone that a frame can't ask for.
pub record LetGo (old new : KeptAnswers) (f : Frame) : Type 0 where
  pub stays : ℕ → Bool
  pub kept : new.kept ≡ filter (λ (x : Answer). stays x.child) old.kept
  pub count : new.count ≡ old.count
  pub asked : (n : ℕ) → MayAsk f n → stays n ≡ true

-- ---- what follows, by the answers that are kept

abbrev pub await_answer : List Answer → ℕ → Instance → Instance
await_answer kept n i = record i {
  frame = record i.frame { slots = map (settled n (answer_in kept n)) i.frame.slots };
}

abbrev pub resume_by : List Answer → Code → ℕ → Runner → Yield → Instance → Resumed
resume_by kept code turns child (yield.Await n) i = GoesOn (await_answer kept n i)
resume_by kept code turns child y i = resume code turns child y i

abbrev pub resume_in_by : List Answer → Code → ℕ → Runner → Option Frame → Yield → Instance → Resumed
resume_in_by kept code turns child (Some f) y i = resume_by kept code turns child y (record i { frame = f })
resume_in_by kept code turns child None y i = resume_in code turns child None y i

abbrev pub resume_after_by : List Answer → Code → ℕ → Runner → After → Instance → Resumed
resume_after_by kept code turns child a i = resume_in_by kept code turns child a.frame a.ends (with_parts a i)

-- the instance with the values of all its children
abbrev pub with_results : List ℤ → Instance → Instance
with_results rs i = record i { results = rs }
