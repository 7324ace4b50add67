use Rattle.std.proofs.Common.{◌∷◌, [], reverse, ap, ◌∙◌, subst}
use Rattle.std.proofs.lemmas.List.{reverse-append}
use Rattle.program_tables.specs.Hiding.{IsIndexed}
use Rattle.program_tables.proofs.Chains.{IsIndexed-has, IsIndexed-forgot}
use Rattle.program_tables.proofs.names.Names.forget_innermost.Goals as goal

pub unhide-requires : goal.unhide-requires
unhide-requires c =
    let split = ap reverse c.in-Some.ensures.items ∙ reverse-append c.pop.new.self.items (c.in-Some.entry ∷ []) in
    IsIndexed-has c.self.inside.innermost (reverse c.pop.new.self.items) c.in-Some.entry (subst (IsIndexed c.self.inside.innermost) split c.self.invariant)

pub invariant_of-self : goal.invariant_of-self
invariant_of-self c =
    let split = ap reverse c.in-Some.ensures.items ∙ reverse-append c.pop.new.self.items (c.in-Some.entry ∷ []) in
    IsIndexed-forgot c.self.inside.innermost c.unhide.new.index (reverse c.pop.new.self.items) c.in-Some.entry (subst (IsIndexed c.self.inside.innermost) split c.self.invariant) c.unhide.ensures
