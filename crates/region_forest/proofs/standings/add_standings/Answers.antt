use Rattle.std.proofs.Common.{◌≡◌, ◌∙◌, ◌++◌, ◌+◌, ◌∷◌, [], ℕ, List, ap, append_assoc, arith, sym}
use Rattle.region_forest.specs.Standings.{child_standings}
use Rattle.region_forest.specs.declared.standing.Standing.{Standing}
use Rattle.region_forest.specs.declared.standing.Standing.TheVariants.{Child, Partition}
use Rattle.region_forest.proofs.Above.{children_push}
use Rattle.region_forest.proofs.standings.add_standings.Goals as goal

pub loop-colour-preserved : goal.loop-colour-preserved
loop-colour-preserved c =
    let first = c.args.standings.now.items in
    let p = c.args.partition in
    let k = c.loop-colour.colour in
    record {
      room = omega (arith, c.loop-colour.invariant.room, c.push_reserved-in-loop-colour.ensures.len, c.push_reserved-in-loop-colour.ensures.capacity);
      items = c.push_reserved-in-loop-colour.ensures.items
          ∙ ap (λ (ss : List Standing). ss ++ Child p k ∷ []) c.loop-colour.invariant.items
          ∙ append_assoc first (Partition c.args.region ∷ child_standings p 0 k) (Child p k ∷ [])
          ∙ ap (λ (n : ℕ). first ++ (Partition c.args.region ∷ (child_standings p 0 k ++ Child p n ∷ []))) (let e : k ≡ 0 + k = omega arith in e)
          ∙ sym (ap (λ (ss : List Standing). first ++ Partition c.args.region ∷ ss) (children_push p 0 k));
    }
