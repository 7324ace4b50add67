-- Images of main's own roots, filled one after the other.
use Rattle.std.proofs.Common.{◌≡◌, ◌<◌, ◌∙◌, ◌+◌, ℕ, zero, suc, List, [], ◌∷◌, ap, arith, get_or, length, map, refl, set, subst, sym}
use Rattle.std.proofs.Math.Seq.{paste}
use Rattle.std.proofs.lemmas.List.{get_or-map, length-map}
use Rattle.region_tree.specs.declared.tree.RootId.{RootId}
use Rattle.regent_tree.specs.declared.outcome.RootImage.{RootImage}
use Rattle.board_terms.specs.Outcomes.{image_of}
use Rattle.board_terms.specs.States.{State}
use Rattle.board_outcomes.proofs.Filling.{all_placed, next_item, one_more}
use Rattle.task_core.specs.Rooms.{AreRooms, IsRoomOf}

pub as_many : (s : State) (own : List RootId) (images : List RootImage) → AreRooms s own images → length own ≡ length images
as_many s [] [] h = refl
as_many s (r ∷ rs) (x ∷ xs) h = ap suc (as_many s rs xs h.1)
as_many s [] (x ∷ xs) h = absurd h
as_many s (r ∷ rs) [] h = absurd h

room_at : (s : State) (own : List RootId) (images : List RootImage) (place : ℕ) (r : RootId) (x : RootImage) → AreRooms s own images → place < length images →
    IsRoomOf s (get_or own place r) (get_or images place x)
room_at s [] [] place r x h b = absurd (omega (arith, b))
room_at s (q ∷ qs) (y ∷ ys) zero r x h b = h.0
room_at s (q ∷ qs) (y ∷ ys) (suc place) r x h b = room_at s qs ys place r x h.1 (omega (arith, b))
room_at s [] (y ∷ ys) place r x h b = absurd h
room_at s (q ∷ qs) [] place r x h b = absurd h

module _ (s : State) (own : List RootId) (images : List RootImage) (rooms : AreRooms s own images) where
  size : length (map (image_of s) own) ≡ length images
  size = length-map own (image_of s) ∙ as_many s own images rooms

  pub has_room : (place : ℕ) (r : RootId) (x : RootImage) → place < length images →
      IsRoomOf s (get_or own place r) (get_or (paste images 0 (map (image_of s) own) place) place x)
  has_room place r x b =
      subst (IsRoomOf s (get_or own place r)) (sym (next_item images (map (image_of s) own) place x b size)) (room_at s own images place r x rooms b)

  pub filled_more : (place : ℕ) (r : RootId) → place < length images →
      set (paste images 0 (map (image_of s) own) place) place (image_of s (get_or own place r)) ≡ paste images 0 (map (image_of s) own) (place + 1)
  filled_more place r b =
      ap (set (paste images 0 (map (image_of s) own) place) place)
      (sym (get_or-map (image_of s) own place r (image_of s r) (omega (arith, b, as_many s own images rooms))))
      ∙ one_more images (map (image_of s) own) place (image_of s r) b size

  pub all_filled : paste images 0 (map (image_of s) own) (length images) ≡ map (image_of s) own
  all_filled = all_placed images (map (image_of s) own) size
