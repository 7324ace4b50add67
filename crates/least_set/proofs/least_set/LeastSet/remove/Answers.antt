use Rattle.std.proofs.Common.{◌∙◌, Bool, List, ap, arith, false, length, set, sym, ℕ}
use Rattle.std.proofs.lemmas.List.{get_or_read, length-map, map-set}
use Rattle.least_set.specs.Marks.{is_present}
use Rattle.least_set.specs.declared.mark.Mark.TheVariants.{Absent, Left}
use Rattle.least_set.proofs.Marking.{unset}
use Rattle.least_set.proofs.least_set.LeastSet.remove.Goals as goal

pub returns-then-is_present : goal.returns-then-is_present
returns-then-is_present c =
    c.tidy.ensures.flags ∙ map-set is_present c.self.inside.marks.items c.args.number Left
    ∙ ap (λ (fs : List Bool). set fs c.args.number false) c.self.view_is

pub returns-else-is_present : goal.returns-else-is_present
returns-else-is_present c =
    let here = get_or_read c.self.inside.marks.items c.args.number c.index.result.now
    (omega (arith, c.requires, ap {B = ℕ} (λ (fs : List Bool). length fs) c.self.view_is, length-map c.self.inside.marks.items is_present))
    c.index.ensures Absent in
    unset c.self.inside.marks.items c.args.self.now c.args.number c.self.view_is
    (ap is_present (sym here) ∙ sym c.is_present.ensures ∙ c.if-is_present.false)
