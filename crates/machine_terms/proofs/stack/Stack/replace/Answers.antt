use Rattle.std.proofs.Common.{◌≡◌, ◌∙◌, ap, ◌∷◌, drop, rules}
use Rattle.machine_terms.proofs.Tops.{put_for}
use Rattle.machine_terms.specs.declared.value.Value.TheVariants.{Number}
use Rattle.machine_terms.proofs.stack.Stack.replace.Goals as goal

pub returns : goal.returns
returns c =
    let wrote : c.set_number.new.self ≡ Number c.args.z = search rules in
    put_for c.self.inside.values.items c.args.self.now c.self.inside.top c.args.count c.self.view_is c.self.invariant c.requires.there c.set_number.new.self c.requires.some
    ∙ ap (λ v. v ∷ drop c.args.count c.args.self.now) wrote
