-- What is known of a board's outcome before it has finished.
use Rattle.std.specs.Prelude.{ℕ, zero, suc, List, [], ◌∷◌, ◌++◌, ◌==◌, cond, Option, Some, None, length}
use Rattle.region_tree.specs.declared.tree.OpNumber.{OpNumber}
use Rattle.regent_tree.specs.declared.outcome.Outcome.{Outcome}
use Rattle.board_rules.specs.Known.{Known, known_then, stops_at, unknown, whole, with_text}
use Rattle.board_terms.specs.declared.operation.Activity.{Activity}
use Rattle.board_terms.specs.declared.operation.Activity.TheVariants.{Closing}
use Rattle.board_terms.specs.declared.operation.Ending.{Ending}
use Rattle.board_terms.specs.declared.operation.Ending.TheVariants as ending
use Rattle.board_terms.specs.declared.operation.Said.{Said}
use Rattle.board_terms.specs.Outcomes.{ending_by}
use Rattle.board_terms.specs.States.{State, operation_at}

abbrev pub known_activity : Activity → Known ℕ Ending
known_activity (Closing (ending.Value v)) = whole []
known_activity (Closing e) = stops_at e []
known_activity _ = unknown

-- what was said before the next child, and that child with what follows; at last what was said behind all children
abbrev pub known_woven : (ℕ → Known ℕ Ending) → ℕ → List Said → List OpNumber → Known ℕ Ending
known_woven child i [] [] = whole []
known_woven child i (p ∷ ps) [] = with_text ℕ Ending p.text (known_woven child i ps [])
known_woven child i [] (c ∷ cs) = known_then ℕ Ending (child c.0) (known_woven child (suc i) [] cs)
known_woven child i (p ∷ ps) (c ∷ cs) = cond (p.children == i)
    (with_text ℕ Ending p.text (known_woven child i ps (c ∷ cs)))
    (known_then ℕ Ending (child c.0) (known_woven child (suc i) (p ∷ ps) cs))

-- of one with its children of so many levels
abbrev pub known_at : ℕ → State → ℕ → Known ℕ Ending
known_at zero s k = unknown
known_at (suc n) s k =
    let o = operation_at s k in
    known_then ℕ Ending (known_woven (known_at n s) 0 o.said o.children) (known_activity o.activity)

-- main with all below it
abbrev pub known : State → Known ℕ Ending
known s = known_at (length s.operations) s 0

-- the outcome is settled where a fault comes before all that isn't over
abbrev pub settled_by : State → Known ℕ Ending → Option Outcome
settled_by s (stops_at e t) = Some (record { text = t; ending = ending_by s (Some e) })
settled_by s _ = None

abbrev pub settled : State → Option Outcome
settled s = settled_by s (known s)
