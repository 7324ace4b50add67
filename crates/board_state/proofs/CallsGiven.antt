-- That what a method makes of calls is what board_terms says of a segment that ends in them.
use Rattle.std.specs.Prelude.{nat_lt, ◌==◌}
use Rattle.std.proofs.Common.{◌≡◌, ◌<◌, ◌∙◌, ◌++◌, ℕ, Bool, true, false, List, [], Option, Some, ap, length, map, refl, set, sym}
use Rattle.std.proofs.lemmas.List.{get_or-set_same, length-set, set-set}
use Rattle.dependence_graph.specs.Knots.{number}
use Rattle.task_code.specs.declared.code.Code.{Code}
use Rattle.machine_terms.specs.declared.frame.Frame.{Frame}
use Rattle.machine_terms.specs.declared.outcome.After.{After}
use Rattle.machine_terms.specs.declared.outcome.CallOut.{CallOut}
use Rattle.machine_terms.specs.declared.outcome.Yield.{Yield}
use Rattle.machine_terms.specs.declared.outcome.Yield.TheVariants as yield
use Rattle.machine_terms.specs.Segments.{frame_after, stop_of}
use Rattle.board_terms.specs.declared.operation.Operation.{Operation}
use Rattle.board_terms.specs.declared.operation.Wait.TheVariants.{Nothing}
use Rattle.board_terms.specs.Calls.{called, called_in, frames_before}
use Rattle.board_terms.specs.Gives.{behind_segment, frame_left, parts_given, with_parts, yielded}
use Rattle.board_terms.specs.States.{State, called_by, no_operation, operation_at, with_operation}
use Rattle.board_calls.proofs.Maps.{same_fields}
use Rattle.board_calls.proofs.Same.{same_frames}
use Rattle.board_calls.specs.Calls.{activity_by, are_all, called_operations, called_waits, caller_in, calls_in, frames_by, frames_in, frames_of, numbers_from, place}
use Rattle.board_state.proofs.Given.{changed_twice, left_at}
use Rattle.board_state.proofs.Gives.{left_there, run_from}
use Rattle.board_state.specs.Steps.{HasLeft, behind, called_with, given_by}

-- ---- parts that go back

-- the operation behind its segment, without parts
abbrev bare : Operation → After → Operation
bare o a = record (behind_segment o a) { parts = [] }

abbrev given_back : State → ℕ → After → State
given_back s k a = record (with_operation s k (bare (operation_at s k) a)) { map = with_parts a.parts s.map }

back_is : (s : State) (k : ℕ) (a : After) → k < length s.operations → parts_given (behind s k a) k ≡ given_back s k a
back_is s k a b =
    ap (λ (x : State). record x { map = with_parts (operation_at (behind s k a) k).parts s.map })
    (changed_twice s k (behind_segment (operation_at s k) a) (λ x. record x { parts = [] }) b)
    ∙ ap (λ (x : Operation). record (with_operation s k (bare (operation_at s k) a)) { map = with_parts x.parts s.map }) (left_at s k a b)

bare_at : (s : State) (k : ℕ) (a : After) → k < length s.operations → operation_at (given_back s k a) k ≡ bare (operation_at s k) a
bare_at s k a b = get_or-set_same s.operations k (bare (operation_at s k) a) no_operation b

-- ---- the frames of the calls

frames_are : (code : Code) (turns : ℕ) (s : State) (k : ℕ) (a : After) (f : Frame) (cs : List CallOut) → a.frame ≡ Some f →
    frames_before code turns (given_back s k a) (bare (operation_at s k) a) cs ≡ frames_in code turns s.tree s.map f cs
frames_are code turns s k a f cs e =
    let left : frame_left (operation_at s k).frame a.frame ≡ f = ap (frame_left (operation_at s k).frame) e in
    same_frames code turns (given_back s k a) (place s.tree s.map) (bare (operation_at s k) a) (caller_in f) refl
    (λ root field. ap (λ (n : ℕ). nat_lt field n) (same_fields a.parts s.map root))
    (ap (λ (g : Frame). g.depth) left) (ap (λ (g : Frame). g.needs) left) cs

frames_given : (code : Code) (turns : ℕ) (s : State) (a : After) (f : Frame) (cs : List CallOut) → a.frame ≡ Some f → a.ends ≡ yield.Calls cs →
    frames_of code turns s.tree s.map a ≡ frames_in code turns s.tree s.map f cs
frames_given code turns s a f cs e h =
    ap (λ (g : Option Frame). frames_by code turns s.tree s.map (calls_in a.ends) g) e
    ∙ ap (λ (y : Yield). frames_in code turns s.tree s.map f (calls_in y)) h

-- ---- what is issued

-- the state with these children, by the operations as they are
abbrev called_by_parts : State → ℕ → After → List Frame → Bool → State
called_by_parts s k a fs all = record s {
  map = with_parts a.parts s.map;
  operations = called_operations s.operations (number k) a fs all;
  waits = called_waits s.tree s.waits (number k) fs all;
}

-- the caller at its place, which was set before
abbrev with_more : Operation → ℕ → ℕ → Bool → Operation
with_more o first count all = record o {
  children = o.children ++ numbers_from first count;
  wait = Nothing;
  activity = activity_by all;
}

operations_are : (s : State) (k : ℕ) (a : After) (fs : List Frame) (all : Bool) → k < length s.operations →
    set (given_back s k a).operations k
    (with_more (operation_at (given_back s k a) k) (length (given_back s k a).operations) (length fs) all) ++ map (called_by (number k)) fs
    ≡ called_operations s.operations (number k) a fs all
operations_are s k a fs all b =
    let os = (given_back s k a).operations in
    let new = map (called_by (number k)) fs in
    let o = bare (operation_at s k) a in
    ap (λ (x : Operation). set os k (with_more x (length os) (length fs) all) ++ new) (bare_at s k a b)
    ∙ ap (λ (n : ℕ). set os k (with_more o n (length fs) all) ++ new) (length-set s.operations k o)
    ∙ ap (λ (xs : List Operation). xs ++ new) (set-set s.operations k o (with_more o (length s.operations) (length fs) all))

issued_is : (s : State) (k : ℕ) (a : After) (fs : List Frame) (all : Bool) → k < length s.operations →
    called_in (given_back s k a) k fs all ≡ called_by_parts s k a fs all
issued_is s k a fs true b =
    ap (λ (os : List Operation). record (called_by_parts s k a fs true) { operations = os }) (operations_are s k a fs true b)
issued_is s k a fs false b =
    ap (λ (os : List Operation). record (called_by_parts s k a fs false) { operations = os }) (operations_are s k a fs false b)

pub given_calls : (code : Code) (turns : ℕ) (s t : State) (k : ℕ) (a : After) (cs : List CallOut) → HasLeft (operation_at s k).activity a →
    a.ends ≡ yield.Calls cs → t ≡ called_with code turns s k a → t ≡ given_by code turns s k a
given_calls code turns s t k a cs l e h =
    let there = left_there s k a l in
    let run = run_from (operation_at s k).activity a l in
    let b = run.0 in
    let u = given_back s k a in
    let f = (stop_of b).machine.frame in
    let fs = frames_of code turns s.tree s.map a in
    let left : a.frame ≡ Some f = ap (λ (x : After). x.frame) run.1.1
    ∙ ap (λ (y : Yield). frame_after y f) (ap (λ (x : After). x.ends) (sym run.1.1) ∙ e) in
    let calls : cs ≡ calls_in a.ends = sym (ap calls_in e) in
    h ∙ sym (ap (λ (y : Yield). yielded code turns (behind s k a) k y) e
    ∙ ap (λ (x : State). called code turns x k cs) (back_is s k a there)
    ∙ ap (λ (o : Operation). called_in u k (frames_before code turns u o cs) (length (frames_before code turns u o cs) == length cs)) (bare_at s k a there)
    ∙ ap (λ (gs : List Frame). called_in u k gs (length gs == length cs))
    (frames_are code turns s k a f cs left ∙ sym (frames_given code turns s a f cs left e))
    ∙ ap (λ (ds : List CallOut). called_in u k fs (length fs == length ds)) calls
    ∙ issued_is s k a fs (are_all code turns s.tree s.map a) there)

pub calls_there : (y : Yield) (cs : List CallOut) → y ≡ yield.Calls cs → y ≡ yield.Calls (calls_in y)
calls_there y cs e = e ∙ ap (λ (ds : List CallOut). yield.Calls ds) (sym (ap calls_in e))
