-- The frames in which calls begin.
use Rattle.std.specs.Prelude.{◌&&◌, nat_le, nat_lt, IfSome}
use Rattle.std.proofs.Common.{◌≡◌, ◌≤◌, ◌+◌, ℕ, suc, Bool, true, false, List, [], ◌∷◌, All, Option, Some, None, ap, arith, cond, length, slice_get, subst, refl, sym}
use Rattle.std.proofs.lemmas.Bool.{and_parts, eqb-true, ltb-true}
use Rattle.std.proofs.lemmas.List.Elements.{All-cons, All-nil}
use Rattle.region_tree.specs.Needs.{AreNeeds, IsNeed}
use Rattle.region_tree.specs.Trees.{RegionTree}
use Rattle.region_tree.specs.declared.needs.Need.{Need}
use Rattle.logical_map.specs.Maps.{LogicalMap}
use Rattle.task_code.specs.declared.code.Code.{Code}
use Rattle.task_code.specs.declared.code.NeedCode.{NeedCode}
use Rattle.task_code.specs.declared.code.TaskCode.{TaskCode}
use Rattle.machine_terms.specs.declared.frame.Frame.{Frame}
use Rattle.machine_terms.specs.declared.outcome.After.{After}
use Rattle.machine_terms.specs.declared.outcome.CallOut.{CallOut}
use Rattle.machine_terms.specs.declared.value.RegionValue.{RegionValue}
use Rattle.machine_terms.specs.declared.value.Value.{Value}
use Rattle.machine_terms.specs.Opening.{need_on, needs_on, with_points}
use Rattle.machine_terms.specs.Pointers.{region_in}
use Rattle.board_terms.specs.Calls.{are_declared, first_opens, has_field, opening_of, opens}
use Rattle.board_terms.specs.Makes.{is_here}
use Rattle.board_terms.specs.States.{State}
use Rattle.board_terms.specs.declared.operation.Operation.{Operation}
use Rattle.board_calls.specs.Calls.{HasNeedsOf, caller_in, calls_in, frames_by, frames_in, frames_of, place}

-- ---- what is declared and there is needed of the tree's regions

need_of : (t : RegionTree) (r : RegionValue) (n : NeedCode) → is_here t r ≡ true →
    IsNeed t (record { root = r.root; node = r.node; field = n.field; mode = n.mode })
need_of t r n h =
    let parts = and_parts (nat_lt r.node.0 (length t.nodes)) _ h in
    let more = and_parts _ _ parts.1 in
    record {
      region = record { there = ltb-true r.node.0 (length t.nodes) parts.0; kind = more.0 };
      root = sym (eqb-true _ r.root.0 more.1);
    }

behind_points : (t : RegionTree) (ps : List ℕ) (n : Need) (rest : List Need) → IsNeed t n → AreNeeds t rest → AreNeeds t (with_points ps n rest)
behind_points t [] n rest h a = a
behind_points t (p ∷ ps) n rest h a = All-cons (IsNeed t) n rest h a

behind_need : (s : State) (n : NeedCode) (r : Option RegionValue) (rest : List Need) → has_field s n.field r ≡ true → AreNeeds s.tree rest →
    AreNeeds s.tree (need_on n r rest)
behind_need s n None rest h a = a
behind_need s n (Some r) rest h a =
    behind_points s.tree r.points _ rest (need_of s.tree r n (and_parts (is_here s.tree r) _ h).0) a

pub declared_needs : (s : State) (ns : List NeedCode) (vs : List Value) → are_declared s ns vs ≡ true → AreNeeds s.tree (needs_on ns vs)
declared_needs s [] vs h = All-nil (IsNeed s.tree)
declared_needs s (n ∷ ns) vs h =
    let parts = and_parts (has_field s n.field (region_in (slice_get vs n.param))) _ h in
    behind_need s n (region_in (slice_get vs n.param)) (needs_on ns vs) parts.0 (declared_needs s ns vs parts.1)

-- ---- what opens

opened_needs : (s : State) (a b c : Bool) (f : Frame) → (b ≡ true → AreNeeds s.tree f.needs.items) →
    IfSome (cond (a && (b && c)) (Some f) None) (HasNeedsOf s.tree)
opened_needs s false b c f h = tt
opened_needs s true false c f h = tt
opened_needs s true true false f h = tt
opened_needs s true true true f h = h refl

opens_needs : (code : Code) (turns : ℕ) (s : State) (o : Operation) (c : CallOut) (t : Option TaskCode) →
    IfSome (opens code turns s o c t) (HasNeedsOf s.tree)
opens_needs code turns s o c None = tt
opens_needs code turns s o c (Some t) =
    opened_needs s (nat_le (length c.args) t.slots) (are_declared s t.needs c.args) _ (opening_of code turns o c t)
    (declared_needs s t.needs c.args)

first_needs : (t : RegionTree) (f : Option Frame) (fs : List Frame) → IfSome f (HasNeedsOf t) → All (HasNeedsOf t) fs →
    All (HasNeedsOf t) (first_opens f fs)
first_needs t None fs h a = All-nil (HasNeedsOf t)
first_needs t (Some f) fs h a = All-cons (HasNeedsOf t) f fs h a

pub frames_need : (code : Code) (turns : ℕ) (t : RegionTree) (map : LogicalMap) (f : Frame) (cs : List CallOut) →
    All (HasNeedsOf t) (frames_in code turns t map f cs)
frames_need code turns t map f [] = All-nil (HasNeedsOf t)
frames_need code turns t map f (c ∷ cs) =
    first_needs t (opens code turns (place t map) (caller_in f) c (slice_get code.tasks c.task)) (frames_in code turns t map f cs)
    (opens_needs code turns (place t map) (caller_in f) c (slice_get code.tasks c.task)) (frames_need code turns t map f cs)

-- ---- as many as calls at most

first_fewer : (f : Option Frame) (fs : List Frame) (n : ℕ) → length fs ≤ n → length (first_opens f fs) ≤ suc n
first_fewer None fs n h = omega arith
first_fewer (Some f) fs n h = omega (arith, h)

pub frames_fewer : (code : Code) (turns : ℕ) (t : RegionTree) (map : LogicalMap) (f : Frame) (cs : List CallOut) →
    length (frames_in code turns t map f cs) ≤ length cs
frames_fewer code turns t map f [] = omega arith
frames_fewer code turns t map f (c ∷ cs) =
    first_fewer (opens code turns (place t map) (caller_in f) c (slice_get code.tasks c.task)) (frames_in code turns t map f cs) (length cs)
    (frames_fewer code turns t map f cs)

-- ---- the same of a segment

needs_by : (code : Code) (turns : ℕ) (t : RegionTree) (map : LogicalMap) (cs : List CallOut) (f : Option Frame) →
    All (HasNeedsOf t) (frames_by code turns t map cs f)
needs_by code turns t map cs None = All-nil (HasNeedsOf t)
needs_by code turns t map cs (Some f) = frames_need code turns t map f cs

fewer_by : (code : Code) (turns : ℕ) (t : RegionTree) (map : LogicalMap) (cs : List CallOut) (f : Option Frame) →
    length (frames_by code turns t map cs f) ≤ length cs
fewer_by code turns t map cs None = omega arith
fewer_by code turns t map cs (Some f) = frames_fewer code turns t map f cs

pub frames_of_need : (code : Code) (turns : ℕ) (t : RegionTree) (map : LogicalMap) (a : After) →
    All (HasNeedsOf t) (frames_of code turns t map a)
frames_of_need code turns t map a = needs_by code turns t map (calls_in a.ends) a.frame

pub frames_of_fewer : (code : Code) (turns : ℕ) (t : RegionTree) (map : LogicalMap) (a : After) →
    length (frames_of code turns t map a) ≤ length (calls_in a.ends)
frames_of_fewer code turns t map a = fewer_by code turns t map (calls_in a.ends) a.frame

pub frames_as_needed : (code : Code) (turns : ℕ) (t : RegionTree) (map : LogicalMap) (a : After) (fs : List Frame) →
    fs ≡ frames_of code turns t map a → All (HasNeedsOf t) fs
frames_as_needed code turns t map a fs e = subst (All (HasNeedsOf t)) (sym e) (frames_of_need code turns t map a)

pub room_for_frames : (code : Code) (turns : ℕ) (t : RegionTree) (map : LogicalMap) (a : After) (fs : List Frame) (size room : ℕ) →
    fs ≡ frames_of code turns t map a → size + length (calls_in a.ends) ≤ room → size + length fs ≤ room
room_for_frames code turns t map a fs size room e h =
    omega (arith, h, frames_of_fewer code turns t map a, ap {B = ℕ} (λ (gs : List Frame). length gs) e)
