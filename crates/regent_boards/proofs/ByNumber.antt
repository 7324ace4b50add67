-- Boards over the needs of Regent, with roots by numbers.
use Rattle.std.proofs.Common.{◌≡◌, ◌∙◌, ◌∷◌, ◌<◌, ◌⊎◌, List, [], ap, arith, inl, inr, map, pos, refl, sym, ℕ}
use Rattle.board_rules.specs.ByNumber.{Differ, Renamable}
use Rattle.board_rules.specs.Journals.{Job}
use Rattle.board_rules.specs.Running.{After, Element}
use Rattle.number_laws.proofs.ByNumber.{finished_by_number}
use Rattle.number_laws.proofs.Known.{settled_by_number}
use Rattle.number_codes.specs.Lists.{decoded_list}
use Rattle.number_codes.proofs.Lists.{lists_tell}
use Rattle.regent_boards.specs.Frames.{Frame, Spaces}
use Rattle.regent_boards.specs.Laws.{IsMain, KeepsParts, RegentByNumber, RegentSettled, RunsRenamed, by_maker, by_number, to_makers}
use Rattle.regent_boards.specs.RegentMachine.{base, behind_first, name_of, regent_ground, regent_roots}
use Rattle.regent_boards.specs.RootRenaming.{requirement_to}
use Rattle.regent_boards.proofs.NeedLaws.{regent_laws}
use Rattle.regent_boards.proofs.RootRenaming.{regent_renamed}

order : (n m : ℕ) → (n < m) ⊎ ((n ≡ m) ⊎ (m < n))
order n m = grind arith

abbrev head_of : List ℕ → ℕ
head_of [] = 0
head_of (x ∷ xs) = x

-- numbers whose makers or makings differ have different names
module _ (maker : ℕ → List ℕ) (making : ℕ → ℕ) (differ : Differ maker making) where
  lists : (n m : ℕ) → name_of (maker n) (making n) ≡ name_of (maker m) (making m) → making n ∷ maker n ≡ making m ∷ maker m
  lists n m e = sym (lists_tell (making n ∷ maker n)) ∙ ap decoded_list e ∙ lists_tell (making m ∷ maker m)

  pub names_differ : (n m : ℕ) → name_of (maker n) (making n) ≡ name_of (maker m) (making m) → n ≡ m
  names_differ n m e = elim (order n m) [
    | inl l ↦ absurd (differ n m l (ap behind_first (lists n m e)) (ap head_of (lists n m e)))
    | inr r ↦ elim r [
      | inl k ↦ k
      | inr l ↦ absurd (differ m n l (ap behind_first (sym (lists n m e))) (ap head_of (sym (lists n m e))))
    ]
  ]

module _ (spaces : Spaces) (segment : Frame → List (Element (regent_ground spaces)) → After (regent_ground spaces)) (keeps : KeepsParts spaces segment) (runs : RunsRenamed spaces segment) where
  pub can_rename : (job : Job (regent_ground spaces)) → IsMain spaces segment job → (twin : Job (regent_ground spaces))
      × Renamable base (regent_roots spaces) (regent_roots spaces) (by_number spaces segment) (by_maker spaces segment) (to_makers spaces segment) job twin
  can_rename job is = (
    record { frame = job.frame; needs = []; map = λ l. pos 0; needs_nothing = λ l. refl },
    record {
      renamed = λ maker making differ. regent_renamed spaces maker making (names_differ maker making differ) segment
          (runs (λ n. name_of (maker n) (making n)) (names_differ maker making differ));
      frame = λ maker making. is.frame (λ n. name_of (maker n) (making n));
      needs = λ maker making. ap (map (requirement_to (λ n. name_of (maker n) (making n)))) (sym is.needs);
      map = λ maker making l. sym (is.map l);
    },
  )

pub regent_by_number : RegentByNumber
regent_by_number spaces segment keeps runs =
    finished_by_number base (regent_roots spaces) (regent_roots spaces) (by_number spaces segment) (by_maker spaces segment) (to_makers spaces segment)
    (regent_laws spaces segment keeps) (IsMain spaces segment) (can_rename spaces segment keeps runs)

pub regent_settled : RegentSettled
regent_settled spaces segment keeps runs =
    settled_by_number base (regent_roots spaces) (regent_roots spaces) (by_number spaces segment) (by_maker spaces segment) (to_makers spaces segment)
    (regent_laws spaces segment keeps) (IsMain spaces segment) (can_rename spaces segment keeps runs)
