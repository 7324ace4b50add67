-- Room for the outcome behind steps that change what an operation does, and nothing else.
use Rattle.std.proofs.Common.{◌≡◌, ◌∙◌, ℕ, zero, suc, List, [], ◌∷◌, Option, ap, get_or, refl, set, subst, sym}
use Rattle.region_tree.specs.declared.tree.RootId.{RootId}
use Rattle.regent_tree.specs.declared.outcome.Outcome.{Outcome}
use Rattle.regent_tree.specs.declared.outcome.RootImage.{RootImage}
use Rattle.logical_map.specs.Maps.{LogicalMap}
use Rattle.task_code.specs.declared.code.Code.{Code}
use Rattle.machine_terms.specs.declared.frame.Frame.{Frame}
use Rattle.board_terms.specs.declared.extent.Extent.{Extent}
use Rattle.board_terms.specs.declared.operation.Activity.{Activity}
use Rattle.board_terms.specs.declared.operation.Activity.TheVariants as activity
use Rattle.board_terms.specs.declared.operation.Operation.{Operation}
use Rattle.board_terms.specs.Claims.{claim_made, claim_on, fill_for, taken_back}
use Rattle.board_terms.specs.States.{State, doing, no_extent, no_operation, operation_at}
use Rattle.board_state.specs.Steps.{copied_activity, copy_made}
use Rattle.board_facts.proofs.Lists.{sum_set_same}
use Rattle.board_facts.specs.Rooms.{IsRoomFor}
use Rattle.board_facts.specs.Texts.{said_by, said_in}
use Rattle.task_core.specs.Rooms.{AreRooms, IsReady, IsRoomOf}

seen_same : {A B : Type 0} (g : A → B) (xs : List A) (k j : ℕ) (y d : A) → g y ≡ g (get_or xs k d) → g (get_or (set xs k y) j d) ≡ g (get_or xs j d)
seen_same g [] k j y d e = refl
seen_same g (x ∷ xs) zero zero y d e = e
seen_same g (x ∷ xs) zero (suc j) y d e = refl
seen_same g (x ∷ xs) (suc k) zero y d e = refl
seen_same g (x ∷ xs) (suc k) (suc j) y d e = seen_same g xs k j y d e

-- an image is told from roots and map alone
room_same : (s t : State) (r : RootId) (x : RootImage) → t.roots ≡ s.roots → t.map ≡ s.map → IsRoomOf s r x → IsRoomOf t r x
room_same s t r x e m h = (
  h.0 ∙ ap (λ (es : List Extent). (get_or es r.0 no_extent).space) (sym e),
  (h.1.0 ∙ ap (λ (es : List Extent). (get_or es r.0 no_extent).count) (sym e), subst (λ (roots : LogicalMap). IsRoomFor roots r.0 x.fields) (sym m) h.1.1),
)

rooms_same : (s t : State) (rs : List RootId) (xs : List RootImage) → t.roots ≡ s.roots → t.map ≡ s.map → AreRooms s rs xs → AreRooms t rs xs
rooms_same s t [] [] e m h = tt
rooms_same s t (r ∷ rs) (x ∷ xs) e m h = (room_same s t r x e m h.0, rooms_same s t rs xs e m h.1)
rooms_same s t [] (x ∷ xs) e m h = absurd h
rooms_same s t (r ∷ rs) [] e m h = absurd h

module _ (s : State) (outcome : Option Outcome) (said : ℕ) (text : List ℕ) (capacity : ℕ) (images : List RootImage) where
  doing_ready : (t : State) (k : ℕ) (a : Activity) → t.operations ≡ (doing s k a).operations → t.roots ≡ s.roots → t.map ≡ s.map →
      IsReady outcome s said text capacity images → IsReady outcome t said text capacity images
  doing_ready t k a e roots map ready none =
      let room = ready none in
      let o : Operation = record (operation_at s k) { activity = a } in
      let same : (operation_at t 0).frame ≡ (operation_at s 0).frame =
      ap (λ (os : List Operation). (get_or os 0 no_operation).frame) e
      ∙ seen_same (λ (x : Operation). x.frame) s.operations k 0 o no_operation refl in
      record {
        said = room.said ∙ sym (ap said_in e ∙ sum_set_same said_by s.operations k o no_operation refl);
        empty = room.empty;
        room = room.room;
        images = subst (λ (f : Frame). AreRooms t f.own images) (sym same) (rooms_same s t (operation_at s 0).frame.own images roots map room.images);
      }

  pub claim_ready : (t : State) (k seat : ℕ) → t ≡ claim_made s k seat → IsReady outcome s said text capacity images → IsReady outcome t said text capacity images
  claim_ready t k seat e ready = subst (λ (u : State). IsReady outcome u said text capacity images) (sym e)
      (doing_ready (claim_made s k seat) k (activity.Filling (claim_on s k seat) (fill_for s (operation_at s k) (operation_at s k).wait)) refl refl refl ready)

  pub copy_ready : (code : Code) (t : State) (k : ℕ) → t ≡ copy_made code s k → IsReady outcome s said text capacity images → IsReady outcome t said text capacity images
  copy_ready code t k e ready = subst (λ (u : State). IsReady outcome u said text capacity images) (sym e)
      (doing_ready (copy_made code s k) k (copied_activity code s (operation_at s k) (operation_at s k).activity) refl refl refl ready)

  pub back_ready : (t : State) (k : ℕ) → t ≡ taken_back s k → IsReady outcome s said text capacity images → IsReady outcome t said text capacity images
  back_ready t k e ready = subst (λ (u : State). IsReady outcome u said text capacity images) (sym e)
      (doing_ready (taken_back s k) k activity.Idle refl refl refl ready)
