-- What a board that has finished comes to.
use Rattle.std.specs.Prelude.{ℕ, zero, suc, List, [], ◌∷◌, ◌++◌, ◌==◌, cond, Option, Some, None, get_or, length, map}
use Rattle.region_tree.specs.declared.tree.OpNumber.{OpNumber}
use Rattle.region_tree.specs.declared.tree.RootId.{RootId}
use Rattle.regent_tree.specs.declared.outcome.Ending.{Ending as RunEnding}
use Rattle.regent_tree.specs.declared.outcome.Ending.TheVariants as run
use Rattle.regent_tree.specs.declared.outcome.Outcome.{Outcome}
use Rattle.regent_tree.specs.declared.outcome.RootImage.{RootImage}
use Rattle.logical_map.specs.Maps.{Column, columns_of}
use Rattle.board_terms.specs.declared.operation.Ending.{Ending}
use Rattle.board_terms.specs.declared.operation.Ending.TheVariants as ending
use Rattle.board_terms.specs.declared.operation.Said.{Said}
use Rattle.board_terms.specs.declared.operation.Activity.{Activity}
use Rattle.board_terms.specs.declared.operation.Activity.TheVariants.{Closing}
use Rattle.board_terms.specs.Stages.{has_finished}
use Rattle.board_terms.specs.States.{State, no_extent, operation_at}

-- ---- what an operation tells

-- the text of an operation with its children, and where it stops, if it does
pub record Told : Type 0 where
  pub text : List ℕ
  pub stop : Option Ending

abbrev pub nothing_told : Option Ending → Told
nothing_told e = record { text = []; stop = e }

-- text first
abbrev pub says_first : List ℕ → Told → Told
says_first text t = record t { text = text ++ t.text }

-- what stands behind, unless it stopped before
abbrev pub told_then : Told → Told → Told
told_then t rest = elim t.stop [ None ↦ says_first t.text rest | Some e ↦ t ]

-- where an operation's own work stopped
abbrev pub stop_of : Activity → Option Ending
stop_of (Closing (ending.Value v)) = None
stop_of (Closing e) = Some e
stop_of _ = None

-- What was said before the next child, and that child with what follows; at last what was said behind all children.
abbrev pub woven : (ℕ → Told) → ℕ → List Said → List OpNumber → Told → Told
woven child i [] [] last = last
woven child i (p ∷ ps) [] last = says_first p.text (woven child i ps [] last)
woven child i [] (c ∷ cs) last = told_then (child c.0) (woven child (suc i) [] cs last)
woven child i (p ∷ ps) (c ∷ cs) last = cond (p.children == i)
    (says_first p.text (woven child i ps (c ∷ cs) last))
    (told_then (child c.0) (woven child (suc i) (p ∷ ps) cs last))

-- with children of so many levels at most
abbrev pub told_at : ℕ → State → ℕ → Told
told_at zero s k = nothing_told None
told_at (suc n) s k =
    let o = operation_at s k in
    woven (told_at n s) 0 o.said o.children (nothing_told (stop_of o.activity))

-- a child has a larger number than its caller
abbrev pub told : State → Told
told s = told_at (length s.operations) s 0

-- ---- what a board comes to

-- what a root holds
abbrev pub image_of : State → RootId → RootImage
image_of s r = record {
  space = (get_or s.roots r.0 no_extent).space;
  count = (get_or s.roots r.0 no_extent).count;
  fields = map (λ (c : Column). c.numbers) (columns_of s.map r.0);
}

-- where it stopped it faulted or is broken, and else what main's own roots hold
abbrev pub ending_by : State → Option Ending → RunEnding
ending_by s None = run.Finished (map (image_of s) (operation_at s 0).frame.own)
ending_by s (Some (ending.Fault f)) = run.Faulted f
ending_by s (Some e) = run.Broken

abbrev pub outcome : State → Outcome
outcome s = record { text = (told s).text; ending = ending_by s (told s).stop }

-- there is one exactly where the board has finished
abbrev pub result : State → Option Outcome
result s = cond (has_finished s) (Some (outcome s)) None
