-- Of a state no more counts for the frames of calls than its tree and which fields are there, and of the caller no more
-- than its depth and its needs.
use Rattle.std.specs.Prelude.{◌&&◌, nat_le}
use Rattle.std.proofs.Common.{◌≡◌, ◌∙◌, ℕ, suc, Bool, List, [], ◌∷◌, Option, Some, None, ap, cond, length, refl, slice_get}
use Rattle.region_tree.specs.Needs.{requirements_of}
use Rattle.region_tree.specs.Requirements.{is_within}
use Rattle.region_tree.specs.Trees.{RegionTree}
use Rattle.region_tree.specs.declared.needs.Needs.{Needs}
use Rattle.task_code.specs.declared.code.Code.{Code}
use Rattle.task_code.specs.declared.code.NeedCode.{NeedCode}
use Rattle.task_code.specs.declared.code.TaskCode.{TaskCode}
use Rattle.machine_terms.specs.declared.frame.Frame.{Frame}
use Rattle.machine_terms.specs.declared.outcome.CallOut.{CallOut}
use Rattle.machine_terms.specs.declared.value.RegionValue.{RegionValue}
use Rattle.machine_terms.specs.declared.value.Value.{Value}
use Rattle.machine_terms.specs.Opening.{opening}
use Rattle.machine_terms.specs.Pointers.{region_in}
use Rattle.board_terms.specs.Calls.{are_declared, first_opens, frames_before, has_field, is_there, needs_within, opening_of, opens}
use Rattle.board_terms.specs.Makes.{is_here}
use Rattle.board_terms.specs.States.{State}
use Rattle.board_terms.specs.declared.operation.Operation.{Operation}

module _ (code : Code) (turns : ℕ) (s u : State) (o p : Operation) (tree : s.tree ≡ u.tree)
    (there : (root field : ℕ) → is_there s.map root field ≡ is_there u.map root field)
    (depth : o.frame.depth ≡ p.frame.depth) (needs : o.frame.needs ≡ p.frame.needs) where
  same_field : (field : ℕ) (r : Option RegionValue) → has_field s field r ≡ has_field u field r
  same_field field None = refl
  same_field field (Some r) =
      ap (λ (t : RegionTree). is_here t r && is_there s.map r.root.0 field) tree
      ∙ ap (λ (b : Bool). is_here u.tree r && b) (there r.root.0 field)

  same_declared : (ns : List NeedCode) (vs : List Value) → are_declared s ns vs ≡ are_declared u ns vs
  same_declared [] vs = refl
  same_declared (n ∷ ns) vs =
      ap (λ (b : Bool). b && are_declared s ns vs) (same_field n.field (region_in (slice_get vs n.param)))
      ∙ ap (λ (b : Bool). has_field u n.field (region_in (slice_get vs n.param)) && b) (same_declared ns vs)

  same_opening : (c : CallOut) (t : TaskCode) → opening_of code turns o c t ≡ opening_of code turns p c t
  same_opening c t = ap (λ (d : ℕ). opening turns (suc d) c.task t c.args) depth

  same_within : (f : Frame) → needs_within s f o ≡ needs_within u f p
  same_within f =
      ap (λ (t : RegionTree). is_within (requirements_of t f.needs.items) (requirements_of t o.frame.needs.items)) tree
      ∙ ap (λ (n : Needs). is_within (requirements_of u.tree f.needs.items) (requirements_of u.tree n.items)) needs

  same_opens : (c : CallOut) (t : Option TaskCode) → opens code turns s o c t ≡ opens code turns u p c t
  same_opens c None = refl
  same_opens c (Some t) =
      ap (λ (b : Bool). cond (nat_le (length c.args) t.slots && (b && needs_within s (opening_of code turns o c t) o))
      (Some (opening_of code turns o c t)) None) (same_declared t.needs c.args)
      ∙ ap (λ (b : Bool). cond (nat_le (length c.args) t.slots && (are_declared u t.needs c.args && b))
      (Some (opening_of code turns o c t)) None) (same_within (opening_of code turns o c t))
      ∙ ap (λ (f : Frame). cond (nat_le (length c.args) t.slots && (are_declared u t.needs c.args && needs_within u f p))
      (Some f) None) (same_opening c t)

  pub same_frames : (cs : List CallOut) → frames_before code turns s o cs ≡ frames_before code turns u p cs
  same_frames [] = refl
  same_frames (c ∷ cs) =
      ap (λ (f : Option Frame). first_opens f (frames_before code turns s o cs)) (same_opens c (slice_get code.tasks c.task))
      ∙ ap (first_opens (opens code turns u p c (slice_get code.tasks c.task))) (same_frames cs)
