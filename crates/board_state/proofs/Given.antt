-- That what methods make of a state is what board_terms says of a segment that is given back.
use Rattle.std.specs.Prelude.{OnOk, Result, Ok, Err}
use Rattle.std.proofs.Common.{◌≡◌, ◌<◌, ◌∙◌, ◌++◌, ◌∷◌, ℕ, Bool, true, false, List, [], Option, ℤ, ap, cond, filter, length, slice_get, subst, sym}
use Rattle.std.proofs.lemmas.List.{get_or-set_same, length-set, set-set}
use Rattle.region_tree.specs.declared.needs.Needs.{Needs}
use Rattle.region_tree.specs.declared.tree.RootId.{RootId}
use Rattle.plain_values.specs.Points.{points}
use Rattle.region_tree.specs.Trees.{with_partition, with_root}
use Rattle.logical_map.specs.Maps.{opened}
use Rattle.dependence_graph.specs.Graphs.{parked, parked_on}
use Rattle.dependence_graph.specs.declared.stage.Waiting.{Waiting}
use Rattle.dependence_graph.specs.declared.stage.Waiting.TheVariants as graph
use Rattle.regent_tree.specs.declared.outcome.Fault.{Fault}
use Rattle.task_code.specs.declared.code.Code.{Code}
use Rattle.machine_terms.proofs.Kept.{stop_fixed}
use Rattle.machine_terms.specs.declared.frame.Before.{Before}
use Rattle.machine_terms.specs.declared.frame.Frame.{Frame}
use Rattle.machine_terms.specs.declared.outcome.After.{After}
use Rattle.machine_terms.specs.declared.outcome.Made.TheVariants as made
use Rattle.machine_terms.specs.declared.value.RegionValue.{RegionValue}
use Rattle.machine_terms.specs.Contents.{kinds_of}
use Rattle.machine_terms.specs.declared.outcome.Yield.{Yield}
use Rattle.machine_terms.specs.declared.outcome.Yield.TheVariants as yield
use Rattle.machine_terms.specs.Segments.{frame_after, segment, stop_of}
use Rattle.board_terms.specs.declared.operation.Activity.TheVariants.{Closing}
use Rattle.board_terms.specs.declared.operation.Ending.{Ending}
use Rattle.board_terms.specs.declared.operation.Ending.TheVariants as ending
use Rattle.board_terms.specs.declared.operation.Operation.{Operation}
use Rattle.board_terms.specs.declared.operation.Wait.{Wait}
use Rattle.board_terms.specs.declared.operation.Wait.TheVariants as wait
use Rattle.board_terms.specs.Gives.{behind_segment, ended_by, frame_left, is_on, making, needs_on, parked_for, parts_given, waits_for, with_parts, yielded}
use Rattle.board_terms.specs.States.{State, no_operation, operation_at, with_operation}
use Rattle.board_state.specs.Kept.{IsKept}
use Rattle.board_terms.specs.Makes.{frame_with_root, partition_made}
use Rattle.board_gives.specs.Makes.{frame_with_partition, may_part}
use Rattle.board_state.specs.Steps.{HasLeft, behind, ended_in, given_by, parked_in, parted_in, parting_in, rooted_in}
use Rattle.board_state.proofs.Gives.{left_there, out_needs, run_from}

pub ok_then : {A E : Type 0} (r : Result A E) (P Q : Type 0) → OnOk r P → (P → Q) → OnOk r Q
ok_then (Ok a) P Q p f = f p
ok_then (Err e) P Q p f = tt

-- ---- one operation that is changed twice

pub changed_twice : (s : State) (k : ℕ) (o : Operation) (f : Operation → Operation) → k < length s.operations →
    with_operation (with_operation s k o) k (f (operation_at (with_operation s k o) k)) ≡ with_operation s k (f o)
changed_twice s k o f b =
    ap (λ (x : Operation). with_operation (with_operation s k o) k (f x)) (get_or-set_same s.operations k o no_operation b)
    ∙ ap (λ (os : List Operation). record s { operations = os }) (set-set s.operations k o (f o))

pub left_at : (s : State) (k : ℕ) (a : After) → k < length s.operations → operation_at (behind s k a) k ≡ behind_segment (operation_at s k) a
left_at s k a b = get_or-set_same s.operations k (behind_segment (operation_at s k) a) no_operation b

-- ---- its own work has ended

failed_is : (s : State) (k : ℕ) (a : After) (e : Ending) → k < length s.operations → ended_by (behind s k a) k e ≡ ended_in s k a e s.map
failed_is s k a e b = changed_twice s k (behind_segment (operation_at s k) a) (λ x. record x { parts = []; activity = Closing e }) b

ended_is : (s : State) (k : ℕ) (a : After) (e : Ending) → k < length s.operations →
    ended_by (parts_given (behind s k a) k) k e ≡ ended_in s k a e (with_parts a.parts s.map)
ended_is s k a e b =
    let t = behind s k a in
    let there : k < length t.operations = subst (λ (n : ℕ). k < n) (sym (length-set s.operations k (behind_segment (operation_at s k) a))) b in
    ap (λ (x : State). record x { map = with_parts (operation_at t k).parts s.map })
    (changed_twice t k (record (operation_at t k) { parts = [] }) (λ x. record x { parts = []; activity = Closing e }) there
    ∙ failed_is s k a e b)
    ∙ ap (λ (x : Operation). ended_in s k a e (with_parts x.parts s.map)) (left_at s k a b)

pub given_fault : (code : Code) (turns : ℕ) (s t : State) (k : ℕ) (a : After) (f : Fault) → k < length s.operations → a.ends ≡ yield.Fault f →
    t ≡ ended_in s k a (ending.Fault f) s.map → t ≡ given_by code turns s k a
given_fault code turns s t k a f b e h =
    h ∙ sym (ap (λ (y : Yield). yielded code turns (behind s k a) k y) e ∙ failed_is s k a (ending.Fault f) b)

pub given_broken : (code : Code) (turns : ℕ) (s t : State) (k : ℕ) (a : After) → k < length s.operations → a.ends ≡ yield.MachineFault →
    t ≡ ended_in s k a ending.Broken s.map → t ≡ given_by code turns s k a
given_broken code turns s t k a b e h =
    h ∙ sym (ap (λ (y : Yield). yielded code turns (behind s k a) k y) e ∙ failed_is s k a ending.Broken b)

pub given_end : (code : Code) (turns : ℕ) (s t : State) (k : ℕ) (a : After) (v : Option ℤ) → k < length s.operations → a.ends ≡ yield.End v →
    t ≡ ended_in s k a (ending.Value v) (with_parts a.parts s.map) → t ≡ given_by code turns s k a
given_end code turns s t k a v b e h =
    h ∙ sym (ap (λ (y : Yield). yielded code turns (behind s k a) k y) e ∙ ended_is s k a (ending.Value v) b)

-- ---- it waits

parked_is : (s : State) (k : ℕ) (a : After) (w : Wait) (on : Waiting) → k < length s.operations →
    parked_for (behind s k a) k w on ≡ parked_in s k a w on
parked_is s k a w on b =
    ap (λ (x : State). record x { waits = parked s.tree s.waits k on })
    (changed_twice s k (behind_segment (operation_at s k) a) (λ x. record x { wait = w }) b)

pub given_await : (code : Code) (turns : ℕ) (s t : State) (k : ℕ) (a : After) (n : ℕ) → k < length s.operations → a.ends ≡ yield.Await n →
    t ≡ parked_in s k a (wait.Child n) (waits_for (slice_get (operation_at s k).children n)) → t ≡ given_by code turns s k a
given_await code turns s t k a n b e h =
    h ∙ sym (ap (λ (y : Yield). yielded code turns (behind s k a) k y) e
    ∙ ap (λ (x : Operation). parked_for (behind s k a) k (wait.Child n) (waits_for (slice_get x.children n))) (left_at s k a b)
    ∙ parked_is s k a (wait.Child n) (waits_for (slice_get (operation_at s k).children n)) b)

-- a frame that wants a part has its needs yet
left_needs : (b : Before) (f : Frame) (root : RootId) (field : ℕ) → (segment b).ends ≡ yield.Want root field →
    (frame_left f (segment b).frame).needs ≡ b.frame.needs
left_needs b f root field e =
    ap (λ (y : Yield). (frame_left f (frame_after y (stop_of b).machine.frame)).needs) e ∙ (stop_fixed b).needs

pub given_want : (code : Code) (turns : ℕ) (s t : State) (k : ℕ) (a : After) (root : RootId) (field : ℕ) → IsKept s →
    HasLeft (operation_at s k).activity a → a.ends ≡ yield.Want root field →
    t ≡ parked_in s k a (wait.Part root field)
    (graph.Part (record { items = filter (is_on root.0 field) (operation_at s k).frame.needs.items })) →
    t ≡ given_by code turns s k a
given_want code turns s t k a root field kept l e h =
    let here = left_there s k a l in
    let run = run_from (operation_at s k).activity a l in
    let b = run.0 in
    let needs : (frame_left (operation_at s k).frame a.frame).needs ≡ (operation_at s k).frame.needs =
    ap (λ (x : After). (frame_left (operation_at s k).frame x.frame).needs) run.1.1
    ∙ left_needs b (operation_at s k).frame root field (ap (λ (x : After). x.ends) (sym run.1.1) ∙ e)
    ∙ out_needs s k b kept run.1.0 in
    h ∙ sym (ap (λ (y : Yield). yielded code turns (behind s k a) k y) e
    ∙ ap (λ (x : Operation). parked_for (behind s k a) k (wait.Part root field) (graph.Part (needs_on x.frame root.0 field))) (left_at s k a here)
    ∙ ap (λ (n : Needs). parked_for (behind s k a) k (wait.Part root field)
    (graph.Part (record { items = filter (is_on root.0 field) n.items }))) needs
    ∙ parked_is s k a (wait.Part root field)
    (graph.Part (record { items = filter (is_on root.0 field) (operation_at s k).frame.needs.items })) here)

-- ---- it made something

rooted_is : (code : Code) (size space : ℕ) (s : State) (k : ℕ) (a : After) → k < length s.operations →
    making code (made.Root size space) (behind s k a) k ≡ rooted_in code size space s k a
rooted_is code size space s k a b =
    let o = behind_segment (operation_at s k) a in
    let with_frame : Operation → Operation = λ x. record x {
      frame = frame_with_root code (record { 0 = s.tree.roots }) (length s.tree.nodes) size space x.frame;
    } in
    let around : State → State = λ x. record x {
      tree = with_root s.tree (points size);
      roots = s.roots ++ record { space = space; count = size } ∷ [];
      map = opened s.tree.roots (points size) (kinds_of code space) s.map;
      waits = parked_on s.waits k [];
    } in
    ap (λ (x : State). around (with_operation x k (record (operation_at x k) { wait = wait.Nothing }))) (changed_twice s k o with_frame b)
    ∙ ap around (changed_twice s k (with_frame o) (λ x. record x { wait = wait.Nothing }) b)

pub given_root : (code : Code) (turns : ℕ) (s t : State) (k : ℕ) (a : After) (size space : ℕ) → k < length s.operations →
    a.ends ≡ yield.Make (made.Root size space) → t ≡ rooted_in code size space s k a → t ≡ given_by code turns s k a
given_root code turns s t k a size space b e h =
    h ∙ sym (ap (λ (y : Yield). yielded code turns (behind s k a) k y) e ∙ rooted_is code size space s k a b)

parted_is : (r : RegionValue) (sets : List (List ℕ)) (disjoint : Bool) (s : State) (k : ℕ) (a : After) → k < length s.operations →
    parked_for (partition_made r sets disjoint (behind s k a) k) k wait.Nothing graph.Nothing ≡ parted_in r sets disjoint s k a
parted_is r sets disjoint s k a b =
    let o = behind_segment (operation_at s k) a in
    let with_frame : Operation → Operation = λ x. record x { frame = frame_with_partition (length s.tree.nodes) r.root sets disjoint x.frame } in
    let around : State → State = λ x. record x {
      tree = with_partition s.tree r.node.0 sets disjoint;
      waits = parked_on s.waits k [];
    } in
    ap (λ (x : State). around (with_operation x k (record (operation_at x k) { wait = wait.Nothing }))) (changed_twice s k o with_frame b)
    ∙ ap around (changed_twice s k (with_frame o) (λ x. record x { wait = wait.Nothing }) b)

pub given_partition : (code : Code) (turns : ℕ) (s t : State) (k : ℕ) (a : After) (r : RegionValue) (sets : List (List ℕ)) (disjoint : Bool) →
    k < length s.operations → a.ends ≡ yield.Make (made.Partition r sets disjoint) →
    t ≡ parting_in r sets disjoint s k a → t ≡ given_by code turns s k a
given_partition code turns s t k a r sets disjoint b e h =
    h ∙ sym (ap (λ (y : Yield). yielded code turns (behind s k a) k y) e
    ∙ ap (λ (x : State). cond (may_part s.tree r sets disjoint) x (ended_by (behind s k a) k ending.Broken)) (parted_is r sets disjoint s k a b)
    ∙ ap (λ (x : State). cond (may_part s.tree r sets disjoint) (parted_in r sets disjoint s k a) x) (failed_is s k a ending.Broken b))

pub made_it : (r : RegionValue) (sets : List (List ℕ)) (disjoint : Bool) (s t : State) (k : ℕ) (a : After) →
    may_part s.tree r sets disjoint ≡ true → t ≡ parted_in r sets disjoint s k a → t ≡ parting_in r sets disjoint s k a
made_it r sets disjoint s t k a m h =
    h ∙ sym (ap (λ (c : Bool). cond c (parted_in r sets disjoint s k a) (ended_in s k a ending.Broken s.map)) m)

pub broke_it : (r : RegionValue) (sets : List (List ℕ)) (disjoint : Bool) (s t : State) (k : ℕ) (a : After) →
    may_part s.tree r sets disjoint ≡ false → t ≡ ended_in s k a ending.Broken s.map → t ≡ parting_in r sets disjoint s k a
broke_it r sets disjoint s t k a m h =
    h ∙ sym (ap (λ (c : Bool). cond c (parted_in r sets disjoint s k a) (ended_in s k a ending.Broken s.map)) m)
