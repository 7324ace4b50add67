use Rattle.std.proofs.Common.{rules, ◌≡◌, ◌++◌, [], None, Option, ◌≤◌, length, slice_get, sym, ap, ◌∙◌}
use Rattle.std.proofs.lemmas.Option.{slice_get_past}
use Rattle.machine_terms.specs.Opening.{need_on}
use Rattle.machine_terms.specs.Pointers.{region_in}
use Rattle.machine_terms.specs.declared.value.Value.{Value}
use Rattle.task_frames.proofs.needs.add_need.Goals as goal

pub returns-in-None : goal.returns-in-None
returns-in-None c =
    let before = c.args.needs.now.items in
    let past : length c.args.values.now ≤ c.args.declared.now.param = search (rules) in
    let none : slice_get c.args.values.now c.args.declared.now.param ≡ None =
    slice_get_past c.args.values.now c.args.declared.now.param past in
    let same : before ++ [] ≡ before = search (rules) in
    sym (ap (λ (o : Option Value). before ++ need_on c.args.declared.now (region_in o) []) none ∙ same)
