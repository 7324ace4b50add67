use Rattle.std.proofs.Common.{ap, arith, ℕ, inl, inr, ⊎_elim, ◌*◌, ◌+◌, ◌<◌, ◌≤◌, ◌⊎◌, length, subst, sym, ◌-◌, ◌∙◌}
use Rattle.std.proofs.lemmas.Simd.{length-zip2}
use Rattle.std.proofs.lemmas.Result.{IfOk-weaker}
use Rattle.std.specs.Int.{bit_not, w64}
use Rattle.std.specs.Prelude.{bit_and}
use Rattle.bit_planes.specs.Planes.{has_point}
use Rattle.bit_planes.specs.Words.{IsWindow, placed}
use Rattle.bit_planes.proofs.Joining.{lessened_by, written}
use Rattle.bit_planes.proofs.Sharing.{none_left}
use Rattle.bit_planes.proofs.plane.Plane.minus.Goals as goal

pub returns : goal.returns
returns c =
    let l = c.span-left.result in
    let from = c.span-left.result.start in
    let count = c.span-left.result.end - c.span-left.result.start in
    let zs = c.minus_words.new.into in
    let xs = c.as_mut_slice.result.now in
    let ys = c.as_slice.result.now in
    let wx = subst (IsWindow c.args.self.now from count) (sym c.as_mut_slice.ensures.value) c.in_ok-words.ensures in
    let wy = subst (IsWindow c.args.o.now from count) (sym c.as_slice.ensures.value) c.in_ok-other.ensures in
    let v = c.in_ok-words.words in
    let outside : (y : ℕ) → (y < 64 * from) ⊎ (64 * (from + count) ≤ y) → (y < 64 * l.start) ⊎ (64 * l.end ≤ y) = λ y o. ⊎_elim (λ u. inl (omega arith)) (λ g. inr (omega arith)) o in
    IfOk-weaker c.from_words.result _ _ (λ _ e z. ap (λ s. has_point s z) (e ∙ ap (placed from) (written zs v.items v.len (omega (arith, v.ok.0)) (ap length c.minus_words.ensures ∙ length-zip2 (λ a b. bit_and a (bit_not w64 b)) xs ys (wx.size ∙ sym wy.size) ∙ ap length c.as_mut_slice.ensures.value))) ∙ lessened_by c.args.self.now c.args.o.now from count xs ys zs wx wy c.minus_words.ensures (λ y o. none_left c.args.self.now c.args.o.now l.start l.end c.span-left.ensures y (outside y o)) z) c.from_words.ensures
