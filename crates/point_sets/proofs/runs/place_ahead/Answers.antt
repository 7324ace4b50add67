use Rattle.point_sets.proofs.RunSearch.{next_is_first}
use Rattle.point_sets.proofs.runs.place_ahead.Goals as goal

pub returns-then-runs-place : goal.returns-then-runs-place
returns-then-runs-place c =
    next_is_first c.args.runs.now c.args.place c.args.point _ c.requires.runs c.if-place-runs.true c.requires.passed c.if-runs-place.true c.requires.near
