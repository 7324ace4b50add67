use Rattle.std.proofs.Common.{rules, ◌≡◌, ◌∙◌, List, ap, refl, sym, true, false, ℕ}
use Rattle.logical_map.specs.Gives.{is_write}
use Rattle.logical_map.proofs.Giving.{given_nothing}
use Rattle.physical_instances.specs.Instances.{written}
use Rattle.physical_instances.proofs.Columns.{more_passed, more_written}
use Rattle.physical_instances.proofs.instances.Instances.put_back.Goals as goal

pub loop-piece-init : goal.loop-piece-init
loop-piece-init c = record {
  points = refl;
  numbers = λ w. sym (given_nothing w c.args.self.now.points c.args.self.now.numbers);
}

pub loop-piece-preserved-then-is_write : goal.loop-piece-preserved-then-is_write
loop-piece-preserved-then-is_write c =
    let here : is_write c.in-Some.piece ≡ true = search (rules) in
    record {
      points = c.put.ensures.points ∙ c.loop-piece.invariant.points;
      numbers = λ w. more_written w c.loop-piece.yielded c.in-Some.piece c.args.self.now.points c.args.self.now.numbers c.loop-piece.self.numbers _
          here (c.loop-piece.invariant.numbers w)
          (c.put.ensures.numbers ∙ ap (λ (ps : List ℕ). written c.in-Some.piece ps c.loop-piece.self.numbers) c.loop-piece.invariant.points);
    }

pub loop-piece-preserved : goal.loop-piece-preserved
loop-piece-preserved c =
    let here : is_write c.in-Some.piece ≡ false = search (rules) in
    record {
      points = c.loop-piece.invariant.points;
      numbers = λ w. more_passed w c.loop-piece.yielded c.in-Some.piece c.args.self.now.points c.args.self.now.numbers c.loop-piece.self.numbers _
          here (c.loop-piece.invariant.numbers w) refl;
    }
