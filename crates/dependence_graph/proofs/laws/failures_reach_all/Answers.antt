use Rattle.dependence_graph.proofs.Vain.{failures_reach_all}
use Rattle.dependence_graph.proofs.laws.failures_reach_all.Goals as goal

pub returns : goal.returns
returns c = failures_reach_all
