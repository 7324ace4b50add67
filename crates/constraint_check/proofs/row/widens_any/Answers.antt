use Rattle.std.proofs.Common.{refl, sym}
use Rattle.regent_tree.specs.declared.facts.Known.TheVariants.{Apart, Made}
use Rattle.constraint_check.proofs.Widening.{none_widened}
use Rattle.constraint_check.proofs.row.widens_any.Goals as goal

pub returns-in-Apart : goal.returns-in-Apart
returns-in-Apart c = rw c.in-Apart.is (sym (none_widened (Apart c.in-Apart.field-0 c.in-Apart.field-1) (λ t. refl) c.args.rows.now))

pub returns-in-Made : goal.returns-in-Made
returns-in-Made c = rw c.in-Made.is (sym (none_widened (Made c.in-Made.field-0) (λ t. refl) c.args.rows.now))
