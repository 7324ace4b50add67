-- Each call that a segment hands over passes the tests of its board.
use Rattle.std.proofs.Common.{◌≡◌, ℕ, suc, ◌<◌, ◌≤◌, ◌-◌, ◌++◌, ◌&&◌, pos, List, [], ◌∷◌, true, cond, Some, None, refl, sym, ap, ◌∙◌, subst, arith, length}
use Rattle.std.specs.Prelude.{nat_le, replicate, slice_get}
use Rattle.std.proofs.lemmas.Bool.{and_from, le-leb, lt-ltb}
use Rattle.std.proofs.lemmas.List.{length-append, length-replicate}
use Rattle.region_tree.specs.Needs.{requirements_of}
use Rattle.region_tree.specs.Requirements.{is_within}
use Rattle.logical_map.specs.Maps.{columns_of, is_live}
use Rattle.task_code.specs.declared.code.NeedCode.{NeedCode}
use Rattle.task_code.specs.declared.code.TaskCode.{TaskCode}
use Rattle.machine_terms.specs.declared.outcome.CallOut.{CallOut}
use Rattle.machine_terms.specs.declared.value.RegionValue.{RegionValue}
use Rattle.machine_terms.specs.declared.value.Value.{Value}
use Rattle.machine_terms.specs.declared.value.Value.TheVariants.{Number}
use Rattle.machine_terms.specs.Pointers.{region_in}
use Rattle.board_terms.specs.declared.operation.Operation.{Operation}
use Rattle.board_terms.specs.Calls.{are_declared, first_opens, frames_before, has_field, is_there, needs_within, opening_of, opens}
use Rattle.board_terms.specs.Makes.{is_here}
use Rattle.board_terms.specs.States.{State}
use Rattle.fit_rules.specs.Shapes.{Each, World}
use Rattle.fit_rules.specs.Fits.{claims, count_at, declared_claims, Program}
use Rattle.fit_rules.specs.Ends.{called, CallsWell, IsNeeded}
use Rattle.fit_laws.proofs.Lookup.{as_long}
use Rattle.region_tree.proofs.Covering.{within_tells}
use Rattle.fit_runs.specs.Runs.{IsSoundCode}
use Rattle.fit_boards.specs.Fitting.{space_at}
use Rattle.fit_boards.specs.Steps.{ArePlaced}
use Rattle.fit_boards.proofs.Accepted.{AreLive}
use Rattle.fit_boards.proofs.Children.{needs_placed}

-- a call is issued
abbrev pub IsIssued : Program → ℕ → State → Operation → CallOut → Type 0
IsIssued g turns u o c = (t : TaskCode) × (slice_get g.code.tasks c.task ≡ Some t)
    × ((nat_le (length c.args) t.slots && (are_declared u t.needs c.args && needs_within u (opening_of g.code turns o c t) o)) ≡ true)

-- where each is, all frames are opened
pub all_opened : (g : Program) (turns : ℕ) (u : State) (o : Operation) (cs : List CallOut) → Each (IsIssued g turns u o) cs → length (frames_before g.code turns u o cs) ≡ length cs
all_opened g turns u o [] h = refl
all_opened g turns u o (c ∷ cs) h =
    let rest = frames_before g.code turns u o cs in
    ap (λ q. length (first_opens (opens g.code turns u o c q) rest)) h.0.1
    ∙ ap (λ b. length (first_opens (cond b (Some (opening_of g.code turns o c h.0.0)) None) rest)) h.0.2
    ∙ ap suc (all_opened g turns u o cs h.1)

-- the regions of arguments are here
abbrev pub AreHere : State → List Value → Type 0
AreHere u vs = (i : ℕ) (r : RegionValue) → region_in (slice_get vs i) ≡ Some r → is_here u.tree r ≡ true

module _ (g : Program) (sound : IsSoundCode g) (turns : ℕ) (u : State) (o : Operation) (x : World) (t : TaskCode) (required : requirements_of u.tree o.frame.needs.items ≡ claims g x t)
    (known : (r : ℕ) → x.there r ≡ true → x.spaces r ≡ space_at u.roots r) (whole : (r : ℕ) → is_live u.map r ≡ true → length (columns_of u.map r) ≡ count_at g (space_at u.roots r)) where
  all_declared : (args : List Value) → AreHere u args → AreLive u.map args → (ns : List NeedCode) → Each (IsNeeded g x args) ns → are_declared u ns args ≡ true
  all_declared args here live [] h = refl
  all_declared args here live (n ∷ ns) h =
      let q = h.0 in
      let fields : length (columns_of u.map q.region.root.0) ≡ count_at g (x.spaces q.region.root.0) =
      whole q.region.root.0 (live n.param q.region q.argument) ∙ ap (count_at g) (sym (known q.region.root.0 q.there)) in
      let there : is_there u.map q.region.root.0 n.field ≡ true = lt-ltb n.field (length (columns_of u.map q.region.root.0)) (subst (λ m. n.field < m) (sym fields) q.field) in
      and_from (has_field u n.field (region_in (slice_get args n.param))) (are_declared u ns args)
      (ap (has_field u n.field) q.argument ∙ and_from (is_here u.tree q.region) (is_there u.map q.region.root.0 n.field) (here n.param q.region q.argument) there)
      (all_declared args here live ns h.1)

  few_args : (c : CallOut) (w : CallsWell g x t c) → length c.args ≤ w.callee.slots
  few_args c w =
      let behind = replicate (w.callee.slots - length c.args) (Number (pos 0)) in
      let long = as_long (called x c.args) (g.marks c.task 0).slots (c.args ++ behind) (w.opens 0 0 (omega arith)).suits.slots in
      let slots = (sound.tasks c.task w.callee w.there).slots 0 in
      let both = length-append c.args behind in
      let more = length-replicate (w.callee.slots - length c.args) (Number (pos 0)) in omega (arith, long, slots, both, more)

  is_issued : (c : CallOut) → CallsWell g x t c → ArePlaced u.tree c.args → AreHere u c.args → AreLive u.map c.args → IsIssued g turns u o c
  is_issued c w placed here live =
      let within : needs_within u (opening_of g.code turns o c w.callee) o ≡ true =
      (λ i. is_within ((needs_placed u.tree c.args placed w.callee.needs).1 i) (required i)) ∙ (passes_within c w) in (
        w.callee,
        w.there,
        and_from (nat_le (length c.args) w.callee.slots) (are_declared u w.callee.needs c.args && needs_within u (opening_of g.code turns o c w.callee) o)
            (le-leb (length c.args) w.callee.slots (few_args c w))
            (and_from (are_declared u w.callee.needs c.args) (needs_within u (opening_of g.code turns o c w.callee) o) (all_declared c.args here live w.callee.needs w.needed) within),
      )
    where
      passes_within : (c : CallOut) (w : CallsWell g x t c) → is_within (declared_claims w.callee.needs c.args) (claims g x t) ≡ true
      passes_within c w = (within_tells (declared_claims w.callee.needs c.args) (claims g x t)).1 w.within

  pub all_issued : (cs : List CallOut) → Each (CallsWell g x t) cs → Each (λ (c : CallOut). ArePlaced u.tree c.args) cs → Each (λ (c : CallOut). AreHere u c.args) cs →
      Each (λ (c : CallOut). AreLive u.map c.args) cs → Each (IsIssued g turns u o) cs
  all_issued [] w p a l = tt
  all_issued (c ∷ cs) w p a l = (is_issued c w.0 p.0 a.0 l.0, all_issued cs w.1 p.1 a.1 l.1)
