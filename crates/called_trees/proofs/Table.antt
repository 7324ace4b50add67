-- What a give that yields calls makes of the table: the calls are issued one after the other, and then what they cover is
-- listed no more, and the caller goes on or is broken.
use Rattle.std.proofs.Common.{◌≡◌, ◌<◌, ◌++◌, ◌∷◌, ◌∙◌, ◌==◌, ◌&&◌, ℕ, suc, List, None, Option, Some, [], ap, append-nil, append_assoc, arith, length, map, refl, sym}
use Rattle.std.specs.Prelude.{get_or, set, slice_get}
use Rattle.std.proofs.lemmas.List.{get_or-set_same, length-append, length-set, set-append_left, set-get_or}
use Rattle.plain_values.specs.Points.{counted_from}
use Rattle.region_tree.specs.declared.tree.OpNumber.{OpNumber}
use Rattle.dependence_graph.specs.Graphs.{covered_each, issued_each}
use Rattle.dependence_graph.specs.Knots.{number}
use Rattle.task_code.specs.declared.code.NeedCode.{NeedCode}
use Rattle.task_code.specs.declared.code.TaskCode.{TaskCode}
use Rattle.task_code.specs.declared.job.Job.{Job}
use Rattle.machine_terms.specs.declared.frame.Before.{Before}
use Rattle.machine_terms.specs.declared.frame.Frame.{Frame}
use Rattle.machine_terms.specs.declared.outcome.After.{After}
use Rattle.machine_terms.specs.declared.outcome.CallOut.{CallOut}
use Rattle.machine_terms.specs.declared.outcome.Yield.TheVariants as yield
use Rattle.machine_terms.specs.declared.value.RegionValue.{RegionValue}
use Rattle.machine_terms.specs.declared.value.Value.{Value}
use Rattle.machine_terms.specs.Pointers.{region_in as region_of}
use Rattle.machine_terms.specs.Segments.{segment}
use Rattle.board_terms.specs.declared.operation.Operation.{Operation}
use Rattle.board_terms.specs.Calls.{are_declared, called, called_in, frames_before, has_field, needs_of, opens}
use Rattle.board_terms.specs.Gives.{behind_segment, parts_given, with_parts, yielded}
use Rattle.board_terms.specs.States.{State, called_by, no_operation, operation_at, with_operation}
use Rattle.board_facts.proofs.Lists.{set_twice}
use Rattle.changed_trees.specs.Given.{yielded_by}
use Rattle.called_trees.proofs.Covering.{all_covered}
use Rattle.called_trees.proofs.Issuing.{all_issued, children_from}
use Rattle.called_trees.proofs.Opens.{all_declared, declared_on}
use Rattle.called_trees.proofs.Calling.{NewCall, caller, frame_of, with_child}

-- the declared needs are there
pub declared_is : (s : State) (ds : List NeedCode) (vs : List Value) → are_declared s ds vs ≡ all_declared s.tree s.map ds vs
declared_is s [] vs = refl
declared_is s (d ∷ ds) vs = λ i. by_region (region_of (slice_get vs d.param)) i && declared_is s ds vs i
  where
    by_region : (o : Option RegionValue) → has_field s d.field o ≡ declared_on s.tree s.map d o
    by_region None = refl
    by_region (Some r) = refl

-- ---- the calls that are issued

-- a call whose task may begin, and those behind it
abbrev pub add_call : Option Frame → Option TaskCode → CallOut → List NewCall → List NewCall
add_call None t c rest = []
add_call (Some f) None c rest = []
add_call (Some f) (Some t) c rest = record { out = c; task = t } ∷ rest

module _ (job : Job) (s : State) (k : ℕ) (within : k < length s.operations) (before : Before) where
  abbrev pub a : After
  a = segment before

  abbrev pub o : Operation
  o = operation_at s k

  -- behind its segment, with its parts given back
  abbrev pub left : Operation
  left = record (behind_segment o a) { parts = [] }

  -- the state then
  abbrev pub given : State
  given = record s { operations = set s.operations k left; map = with_parts a.parts s.map }

  given_is : parts_given (with_operation s k (behind_segment o a)) k ≡ given
  given_is =
      let here : operation_at (with_operation s k (behind_segment o a)) k ≡ behind_segment o a = get_or-set_same s.operations k (behind_segment o a) no_operation within in
      (λ i. record (with_operation (with_operation s k (behind_segment o a)) k (record (here i) { parts = [] })) { map = with_parts (here i).parts s.map })
      ∙ (λ i. record s { operations = set_twice s.operations k (behind_segment o a) left i; map = with_parts a.parts s.map })

  pub given_row : operation_at given k ≡ left
  given_row = get_or-set_same s.operations k left no_operation within

  abbrev pub opened : CallOut → Option Frame
  opened c = opens job.code job.turns given left c (slice_get job.code.tasks c.task)

  abbrev pub new_calls : List CallOut → List NewCall
  new_calls [] = []
  new_calls (c ∷ cs) = add_call (opened c) (slice_get job.code.tasks c.task) c (new_calls cs)

  -- what the table makes of the yield
  module _ (cs : List CallOut) (calls : (segment before).ends ≡ yield.Calls cs) where
    abbrev pub frames : List Frame
    frames = frames_before job.code job.turns given left cs

    pub called_is : yielded_by job s k before ≡ called_in given k frames (length frames == length cs)
    called_is =
        ap (yielded job.code job.turns (with_operation s k (behind_segment o a)) k) calls
        ∙ ap (λ t. called job.code job.turns t k cs) given_is
        ∙ ap (λ r. called_in given k (frames_before job.code job.turns given r cs) (length (frames_before job.code job.turns given r cs) == length cs)) given_row

-- ---- all at once

module _ (job : Job) (k : ℕ) (v : List ℕ) (name : ℕ → ℕ) (depth : ℕ) where
  abbrev pub begin : List NewCall → List Frame
  begin calls = map (frame_of job depth) calls

  abbrev all_children : State → List NewCall → List OpNumber
  all_children s calls = (operation_at s k).children ++ map number (counted_from (length s.operations) (length calls))

  abbrev pub issued_rows : State → List NewCall → List Operation
  issued_rows s calls = set s.operations k (record (operation_at s k) { children = all_children s calls }) ++ map (called_by (number k)) (begin calls)

  module _ (c : NewCall) (cs : List NewCall) (s : State) (l : k < length s.operations) where
    abbrev u : State
    u = with_child s k (frame_of job depth c)

    abbrev child : Operation
    child = called_by (number k) (frame_of job depth c)

    abbrev last : Operation
    last = record (operation_at s k) { children = all_children s (c ∷ cs) }

    long : length u.operations ≡ suc (length s.operations)
    long = length-append (set s.operations k (caller s k)) (child ∷ []) ∙ (let e = length-set s.operations k (caller s k) in omega (arith, e))

    still : k < length (set s.operations k (caller s k))
    still = let e = length-set s.operations k (caller s k) in omega (arith, e, l)

    here : operation_at u k ≡ caller s k
    here = ap (λ xs. get_or xs k no_operation) (sym (set-append_left s.operations (child ∷ []) k (caller s k) l))
        ∙ get_or-set_same (s.operations ++ child ∷ []) k (caller s k) no_operation (let e = length-append s.operations (child ∷ []) in omega (arith, e, l))

    children : all_children u cs ≡ all_children s (c ∷ cs)
    children = (λ i. (here i).children ++ map number (counted_from (long i) (length cs)))
        ∙ append_assoc (operation_at s k).children (number (length s.operations) ∷ []) (map number (counted_from (suc (length s.operations)) (length cs)))

    rows : issued_rows u cs ≡ issued_rows s (c ∷ cs)
    rows =
        (λ i. set u.operations k (record (here i) { children = children i }) ++ map (called_by (number k)) (begin cs))
        ∙ ap (λ xs. xs ++ map (called_by (number k)) (begin cs)) (set-append_left (set s.operations k (caller s k)) (child ∷ []) k last still
        ∙ ap (λ xs. xs ++ child ∷ []) (set_twice s.operations k (caller s k) last))
        ∙ append_assoc (set s.operations k last) (child ∷ []) (map (called_by (number k)) (begin cs))

  none_issued : (s : State) → s.operations ≡ issued_rows s []
  none_issued s = sym (append-nil (set s.operations k (record (operation_at s k) { children = (operation_at s k).children ++ [] }))
      ∙ ap (λ ks. set s.operations k (record (operation_at s k) { children = ks })) (append-nil (operation_at s k).children) ∙ set-get_or s.operations k no_operation)

  -- the rows and the graph behind calls that are issued one after the other
  pub issued_at_once : (calls : List NewCall) (s : State) → k < length s.operations →
      all_issued job k v name depth s calls ≡ record s { operations = issued_rows s calls; waits = issued_each s.tree s.waits (number k) (needs_of (begin calls)) }
  issued_at_once [] s l = λ i. record s { operations = none_issued s i }
  issued_at_once (c ∷ cs) s l =
      issued_at_once cs (u c cs s l) (omega (arith, l, long c cs s l))
      ∙ (λ i. record s { operations = rows c cs s l i; waits = issued_each s.tree s.waits (number k) (needs_of (begin (c ∷ cs))) })

  pub covered_at_once : (calls : List NewCall) (n : ℕ) (s : State) → all_covered job k v name depth s (children_from n calls) ≡ record s { waits = covered_each k (needs_of (begin calls)) s.waits n }
  covered_at_once [] n s = refl
  covered_at_once (c ∷ cs) n s = covered_at_once cs (suc n) _
