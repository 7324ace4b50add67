use Rattle.std.proofs.Common.{ap, map, subst, to_z, w64, sym, ◌∙◌, ◌≡◌}
use Rattle.std.specs.Simd.Lanes.{zip2}
use Rattle.lane_kernels.specs.Numbers.{applied, wrapped}
use Rattle.lane_kernels.specs.declared.numbers.Width.TheVariants.{W64}
use Rattle.lane_kernels.proofs.Vectors.{copied, lanes_again, lanes_back, lanes_kept, lanes_told, lanes_updated, lanes_wrapped}
use Rattle.lane_kernels.proofs.update.Update.lanes.Goals as goal
use Rattle.lane_kernels.proofs.update.Update.lanes.Goals.{in-Fold, in-Copy}
use Rattle.lane_kernels.specs.Fronts.{AreLanes, updated}
use Rattle.lane_kernels.specs.declared.update.Update.TheVariants.{Fold}

pub fold_lanes-requires-clause-left : goal.fold_lanes-requires-clause-left
fold_lanes-requires-clause-left c = lanes_again c.args.a c.requires.left

pub fold_lanes-requires-clause-right : goal.fold_lanes-requires-clause-right
fold_lanes-requires-clause-right c = lanes_again c.args.b c.requires.right

pub wrap_lanes-requires : goal.wrap_lanes-requires
wrap_lanes-requires c =
    let folded = lanes_told (Fold c.in-Fold.op W64) c.fold_lanes.result c.args.a c.args.b c.requires.left c.requires.right c.fold_lanes.ensures in
    lanes_again c.fold_lanes.result (subst AreLanes (sym folded) (lanes_updated (Fold c.in-Fold.op W64) c.args.a c.args.b c.requires.left c.requires.right))

pub returns : goal.returns
returns c =
    let a = c.args.a in
    let b = c.args.b in
    let l = c.requires.left in
    let m = c.requires.right in
    elim c.match-self.branch [
      | in-Fold w ↦
          (let op = w.in-Fold.op in
          let width = w.in-Fold.width in
          let folded : w.fold_lanes.result ≡ zip2 (applied op W64) a b = lanes_told (Fold op W64) w.fold_lanes.result a b l m w.fold_lanes.ensures in
          let known : AreLanes w.fold_lanes.result = subst AreLanes (sym folded) (lanes_updated (Fold op W64) a b l m) in
          lanes_kept c.match-self.result w.wrap_lanes.result (zip2 (updated (Fold op width)) a b) (lanes_updated (Fold op width) a b l m) w.result-is
          (w.wrap_lanes.ensures ∙ ap (map (wrapped width)) (lanes_back w.fold_lanes.result known ∙ folded) ∙ lanes_wrapped op width a b)
          ∙ ap (λ u. zip2 (updated u) a b) (sym w.in-Fold.is))
      | in-Copy w ↦
          ap (map (to_z w64)) w.result-is ∙ lanes_back b m ∙ sym (copied a b (l.eight ∙ sym m.eight)) ∙ ap (λ u. zip2 (updated u) a b) (sym w.in-Copy.is)
    ]
