-- What a parse makes of the words behind a command, and of all the words.
use Rattle.std.proofs.Common.{◌≡◌, ◌∙◌, false, List, [], ◌∷◌, Some, None, refl, ap, ap₂, sym, fold}
use Rattle.clap.specs.Walk.{Held, Row, Walk, finished, idle, nothing_held, rows_after, settled, walk_from, walked, with_default}
use Rattle.clap.specs.Kinds.{Kinds, or_else}
use Rattle.clap.specs.Faults.{level_fault, settle_fault, turn_fault, walk_fault}
use Rattle.command_words.specs.Settings.{Setting, Text}
use Rattle.command_words.specs.Uses.{uses}
use Rattle.command_words.proofs.Rules.{level, rules}
use Rattle.command_words.proofs.Walking.{clean, guard, guard_both, rows_of_uses, walk_rows}
use Rattle.command_words.proofs.Steps.{AreTexts, ready_idle, walk_is}
use Rattle.command_words.proofs.Defaults.{checks_none, defaults_none}

-- ---- one command

or_else_assoc : (a b d : Kinds) → or_else (or_else a b) d ≡ or_else a (or_else b d)
or_else_assoc [] b d = refl
or_else_assoc (k ∷ ks) b d = refl

pub or_else_none : (a : Kinds) → or_else a [] ≡ a
or_else_none [] = refl
or_else_none (k ∷ ks) = refl

module _ (name : Text) (known : List Setting) where
  abbrev pub end_of : Walk → List Text → Held
  end_of w xs = (fold (walked (rules known) []) w xs).held

  -- the faults of a walk, and of what is pending at its end
  abbrev whole_fault : Walk → List Text → Kinds
  whole_fault w xs = or_else (walk_fault (level name known) [] w xs) (settle_fault (rules known) false (end_of w xs))

  whole_is : (xs : List Text) (w : Walk) → walk_rows name known w xs ≡ guard (clean (whole_fault w xs)) (Some (settled (rules known) (end_of w xs)).rows)
  unfolding walk_fault
  whole_is [] w = refl
  whole_is (x ∷ xs) w =
      let turn = turn_fault (level name known) [] w x in
      let next = walked (rules known) [] w x in
      ap (guard (clean turn)) (whole_is xs next)
      ∙ sym (guard_both turn (whole_fault next xs) (Some (settled (rules known) (end_of next xs)).rows))
      ∙ ap (λ k. guard (clean k) (Some (settled (rules known) (end_of next xs)).rows))
      (sym (or_else_assoc turn (walk_fault (level name known) [] next xs) (settle_fault (rules known) false (end_of next xs))))

  abbrev pub words_fault : List Text → Kinds
  words_fault xs = level_fault (level name known) [] nothing_held xs false []

  fault_is : (xs : List Text) → words_fault xs ≡ whole_fault (walk_from nothing_held) xs
  fault_is xs =
      let end = end_of (walk_from nothing_held) xs in
      ap₂ (λ a b. or_else (walk_fault (level name known) [] (walk_from nothing_held) xs) (or_else (settle_fault (rules known) false end) (or_else a b)))
      (defaults_none known (settled (rules known) end).rows) (checks_none name known (finished (rules known) end))
      ∙ ap (or_else (walk_fault (level name known) [] (walk_from nothing_held) xs)) (or_else_none (settle_fault (rules known) false end))

  abbrev pub start_rows : List Text → List Row
  start_rows xs = (settled (rules known) (end_of (walk_from nothing_held) xs)).rows

  -- the uses decide whether there is a fault, and which rows stand before the defaults
  pub uses_decide : (xs : List Text) → AreTexts xs → guard (clean (words_fault xs)) (Some (start_rows xs)) ≡ rows_of_uses [] (uses known None xs)
  uses_decide xs texts =
      ap (λ k. guard (clean k) (Some (start_rows xs))) (fault_is xs)
      ∙ sym (whole_is xs (walk_from nothing_held))
      ∙ (walk_is name known xs texts).0 [] None idle ready_idle

  pub rows_finished : (xs : List Text) → rows_after (rules known) [] xs ≡ fold with_default (start_rows xs) (rules known)
  rows_finished xs = refl
