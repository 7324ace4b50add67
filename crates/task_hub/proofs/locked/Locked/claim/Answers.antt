use Rattle.std.proofs.Common.{rules, ◌∙◌, refl, subst, sym}
use Rattle.std.proofs.lemmas.Option.{none-some}
use Rattle.task_hub.specs.Answers.{IsIdle}
use Rattle.task_hub.proofs.locked.Locked.claim.Goals as goal

pub returns-in_default-clause-none : goal.returns-in_default-clause-none
returns-in_default-clause-none g c =
    let idle : IsIdle c.self.inside.board = record { unready = c.in_ok-claim.ensures.none.0 c.in_default.is; unfinished = search rules } in
    (λ e. subst IsIdle c.self.view_is idle, λ i. refl)

pub returns-clause-none : goal.returns-clause-none
returns-clause-none g c = (
  λ e. absurd (none-some _ (sym e)),
  λ i.
      let idle : IsIdle c.self.inside.board = subst IsIdle (sym c.self.view_is) i in
      absurd (none-some c.in-Some.claim (sym (c.in_ok-claim.ensures.none.1 idle.unready) ∙ c.in-Some.is)),
)
