use Rattle.std.proofs.Common.{rules, ◌≡◌, ◌≤◌, ℕ, length, ap, arith, false, refl, subst, sym, ◌∙◌}
use Rattle.std.specs.Option.{IfSome}
use Rattle.std.proofs.lemmas.Bool.{true≢false}
use Rattle.plain_values.specs.Points.{IsPoints, counted_from, has}
use Rattle.point_sets.specs.Stretches.{IsStretchFrom}
use Rattle.point_sets.proofs.Rising.{length-counted_from}
use Rattle.point_sets.specs.declared.TheConstants.{POINT_LIMIT}
use Rattle.plain_store.proofs.Placing.{all_points, no_points, none_behind, none_is, none_of, stretch_of_all}
use Rattle.plain_store.proofs.copies.is_all.Goals as goal
use Rattle.plain_store.proofs.copies.is_all.Goals.{then-all-ne0-via-then-all-ne0, then-all-ne0-via-else-all-ne0+then-all-size}

-- src/copies.rt:61:9
pub returns-then-len-size : goal.returns-then-len-size
returns-then-len-size c =
    let counted : c.len.result ≡ length c.args.set.now = search (rules) in
    let other : c.len.result ≡ c.args.size → ⊥ = search (rules) in
    ((λ h. absurd (true≢false (sym h))), λ e. absurd (other (counted ∙ ap length e ∙ length-counted_from 0 c.args.size)))

-- src/copies.rt:64:9
pub returns-in_default : goal.returns-in_default
returns-in_default c =
    let set : IsPoints POINT_LIMIT c.args.set.now = search (rules) in
    let counted : length c.args.set.now ≡ c.args.size = search (rules) in
    ((λ h. no_points c.args.set.now POINT_LIMIT c.args.size set counted (c.stretch_from.ensures.none c.in_default.is)), λ e. refl)

-- src/copies.rt:67:9
pub returns-then-all-ne0 : goal.returns-then-all-ne0
returns-then-all-ne0 c =
    let stretch : IsStretchFrom c.args.set.now 0 c.in-Some.all.start c.in-Some.all.end = search (rules) in (
      (λ h. absurd (true≢false (sym h))),
      λ e.
          let found = stretch_of_all c.args.size c.in-Some.all.start c.in-Some.all.end
          (subst (λ xs. IsStretchFrom xs 0 c.in-Some.all.start c.in-Some.all.end) e stretch) in
          elim c.then-all-ne0.branch [
            | then-all-ne0-via-then-all-ne0 w ↦ absurd (w.if-all-ne0.true found.0)
            | then-all-ne0-via-else-all-ne0+then-all-size w ↦ absurd (w.if-all-size.true found.1)
          ],
    )

-- src/copies.rt:57:1
pub returns : goal.returns
returns c =
    let xs = c.args.set.now in
    let size = c.args.size in
    let set : IsPoints POINT_LIMIT xs = search (rules) in
    let stretch : IsStretchFrom xs 0 0 size = search (rules) in (
      (λ h.
          let over = none_of c.stretch_from-2.result c.is_none.result c.is_none.ensures h in
          let none : (z : ℕ) → size ≤ z → has xs z ≡ false =
          λ z l. c.stretch_from-2.ensures.none over z (omega (arith, c.if-all-size.false, l)) in
          all_points xs POINT_LIMIT size set stretch none),
      λ e.
          none_is c.stretch_from-2.result c.is_none.result c.is_none.ensures (λ x is.
          let further = subst (λ o. IfSome o (λ r. IsStretchFrom xs c.in-Some.all.end r.start r.end)) is c.stretch_from-2.ensures.stretch in
          none_behind size x.start x.end
          (subst (λ k. IsStretchFrom (counted_from 0 size) k x.start x.end) c.if-all-size.false
          (subst (λ ys. IsStretchFrom ys c.in-Some.all.end x.start x.end) e further))),
    )
