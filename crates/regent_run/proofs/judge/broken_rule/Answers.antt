use Rattle.std.proofs.Common.{◌≡◌, ◌∙◌, ◌++◌, ◌∷◌, ℕ, List, [], ap, append_assoc, sym}
use Rattle.std.specs.Prelude.{codes}
use Rattle.std.specs.Fmt.{decimal}
use Rattle.regent_run.proofs.judge.broken_rule.Goals as goal

-- the message, bracketed from the right
message_parts : (rule line : List ℕ) → rule ++ (codes " at line " ++ (line ++ 10 ∷ [])) ≡ rule ++ codes " at line " ++ line ++ 10 ∷ []
message_parts rule line =
    sym (append_assoc (rule ++ codes " at line ") line (10 ∷ []) ∙ append_assoc rule (codes " at line ") (line ++ 10 ∷ []))

pub returns-in-Ok : goal.returns-in-Ok
returns-in-Ok c =
    c.in-Ok.ensures.ok ∙ ap (λ bytes. codes "error: rule " ++ bytes) (message_parts (decimal c.args.rule) (decimal c.args.line))
