use Rattle.std.proofs.Common.{rules, ◌≡◌, ◌∙◌, List, ap, subst, sym, true}
use Rattle.region_tree.specs.Needs.{AreNeeds}
use Rattle.region_tree.specs.Trees.{RegionTree}
use Rattle.task_code.specs.declared.code.NeedCode.{NeedCode}
use Rattle.machine_terms.specs.declared.frame.Frame.{Frame}
use Rattle.physical_instances.specs.Kept.{map_of}
use Rattle.board_terms.specs.Calls.{are_declared}
use Rattle.board_calls.proofs.Frames.{declared_needs}
use Rattle.board_calls.specs.Calls.{place}
use Rattle.board_calls.proofs.opening.open.Goals as goal

pub within-requires-clause-first : goal.within-requires-clause-first
within-requires-clause-first c =
    let t = c.args.tree.now in
    let s = place t (map_of c.args.contents.now) in
    let declared : c.are_declared-declared.result ≡ true = search (rules) in
    let h : are_declared s c.args.task.now.needs c.in_ok-args.args ≡ true =
    ap (are_declared s c.args.task.now.needs) c.in_ok-args.ensures
    ∙ ap (λ (ns : List NeedCode). are_declared s ns c.as_slice-values.result.now) (sym c.as_slice.ensures)
    ∙ sym c.are_declared-declared.ensures ∙ declared in
    subst (λ (u : RegionTree). AreNeeds u c.in_ok-frame.frame.needs.items) (sym c.tree.ensures.tree)
    (subst (λ (f : Frame). AreNeeds t f.needs.items) (sym c.in_ok-frame.ensures)
    (declared_needs s c.args.task.now.needs c.in_ok-args.args h))
