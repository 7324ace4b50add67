-- What depends on whether an access has further steps.
use Rattle.std.proofs.Common.{◌≡◌, ℕ, List, [], ◌∷◌, length, refl, Bool, cond}
use Rattle.regent_tree.specs.Plain.{steps_in}
use Rattle.regent_tree.specs.declared.expression.Step.{Step, Field, At}
use Rattle.regent_tree.specs.declared.typing.StaticType.{StaticType}
use Rattle.regent_tree.specs.declared.typing.StaticType.TheVariants.{Partition as partition_type}
use Rattle.task_code.specs.declared.instr.Instr.TheVariants as instr
use Rattle.code_rules.specs.Instructions.{kept_code, load_code, one}
use Rattle.code_rules.specs.Pieces.{empty}
use Rattle.code_rules.specs.Slots.{Where, spare, stays}

pub kept_with_steps : (w : Where) (d : ℕ) (disjoint : Bool) (r p : ℕ) (steps : List Step) → (length steps ≡ 0 → ⊥) →
    kept_code w d (partition_type disjoint r p) (steps_in steps) ≡ one w (instr.Store (spare w d))
kept_with_steps w d disjoint r p [] h = absurd (h refl)
kept_with_steps w d disjoint r p (Field f ∷ rest) h = refl
kept_with_steps w d disjoint r p (At e ∷ rest) h = refl

pub load_with_steps : (w : Where) (t : StaticType) (s : ℕ) (steps : List Step) → (length steps ≡ 0 → ⊥) →
    load_code w t s (steps_in steps) ≡ cond (stays t) empty (one w (instr.Load s))
load_with_steps w t s [] h = absurd (h refl)
load_with_steps w t s (Field f ∷ rest) h = refl
load_with_steps w t s (At e ∷ rest) h = refl
