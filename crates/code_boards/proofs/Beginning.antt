-- The frame with which a board begins is the first task's, whatever names roots have.
use Rattle.std.proofs.Common.{◌≡◌, ℕ, zero, suc, ℤ, pos, List, [], ◌∷◌, ◌++◌, true, refl, sym, ap, ◌∙◌, map, arith, ◌==◌, eqb-true}
use Rattle.std.specs.Prelude.{length, nat_le, replicate, ◌-◌}
use Rattle.std.proofs.lemmas.Bool.{and_parts}
use Rattle.std.proofs.lemmas.List.{length-map, map-append}
use Rattle.task_code.specs.declared.code.NeedCode.{NeedCode}
use Rattle.task_code.specs.declared.code.TaskCode.{TaskCode}
use Rattle.task_code.specs.declared.job.Job.{Job}
use Rattle.machine_terms.specs.declared.value.Value.TheVariants.{Number}
use Rattle.machine_terms.specs.Jobs.{first_frame, may_start}
use Rattle.machine_terms.specs.Opening.{needs_on}
use Rattle.regent_boards.specs.Frames as board
use Rattle.segment_renaming.specs.Renaming.{Names, frame_to, need_to, value_to}
use Rattle.code_boards.specs.Laws.{main_frame}
use Rattle.code_boards.specs.Views.{frame_in, value_in}

no_needs : (ns : List NeedCode) → (length ns == 0) ≡ true → ns ≡ []
no_needs [] e = refl
no_needs (n ∷ ns) e = absurd (omega (arith, eqb-true (length (n ∷ ns)) 0 e))

module _ (names : Names) where
  inputs_seen : (zs : List ℤ) → map value_in (map board.a_number zs) ≡ map (value_to names) (map Number zs)
  inputs_seen [] = refl
  inputs_seen (z ∷ zs) = ap (λ vs. Number z ∷ vs) (inputs_seen zs)

  zeros_seen : (k : ℕ) → map value_in (replicate k (board.a_number (pos 0))) ≡ map (value_to names) (replicate k (Number (pos 0)))
  zeros_seen zero = refl
  zeros_seen (suc k) = ap (λ vs. Number (pos 0) ∷ vs) (zeros_seen k)

module _ (job : Job) (t : TaskCode) (may : may_start job t ≡ true) where
  pub none_needed : t.needs ≡ []
  none_needed = no_needs t.needs (and_parts (length t.needs == 0) _ (and_parts _ (nat_le t.params t.slots) may).0).0

  pub first_seen : (names : Names) → frame_in (main_frame job t) ≡ frame_to names (first_frame job t)
  first_seen names =
      let zs = job.inputs in
      let slots : map value_in (map board.a_number zs ++ replicate (t.slots - length zs) (board.a_number (pos 0)))
      ≡ map (value_to names) (map Number zs ++ replicate (t.slots - length (map Number zs)) (Number (pos 0))) =
      map-append value_in (map board.a_number zs) (replicate (t.slots - length zs) (board.a_number (pos 0)))
      ∙ (λ i. inputs_seen names zs i ++ zeros_seen names (t.slots - length zs) i)
      ∙ sym (map-append (value_to names) (map Number zs) (replicate (t.slots - length zs) (Number (pos 0))))
      ∙ ap (λ k. map (value_to names) (map Number zs ++ replicate (t.slots - k) (Number (pos 0)))) (sym (length-map zs Number)) in
      λ i. record (frame_to names (first_frame job t)) {
        slots = slots i;
        needs = record { items = ap (λ ns. map (need_to names) (needs_on ns (map Number zs))) (sym none_needed) i };
      }
