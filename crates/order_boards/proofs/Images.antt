-- What a root holds, read from a map.
use Rattle.std.proofs.Common.{◌≡◌, ℕ, ◌<◌, pos, List, [], ◌∷◌, true, refl, sym, ap, ◌∙◌, subst, map, arith, get_or}
use Rattle.std.specs.Prelude.{length}
use Rattle.std.proofs.lemmas.List.{ext_get_or, get_or-map, length-map, length-replicate}
use Rattle.plain_values.specs.Points.{has, points}
use Rattle.point_sets.proofs.Rising.{get_or-counted_from, length-counted_from, has_head, has_tail}
use Rattle.region_tree.specs.declared.tree.RootId.{RootId}
use Rattle.regent_tree.specs.declared.outcome.RootImage.{RootImage}
use Rattle.task_code.specs.declared.code.Code.{Code}
use Rattle.machine_terms.specs.declared.order.Contents.{Contents}
use Rattle.machine_terms.specs.Contents.{image_of, kinds_of}
use Rattle.memory_laws.specs.Places.{column_of}
use Rattle.board_rules.specs.Processes.{Map}
use Rattle.regent_boards.specs.RegentMachine.{fields_of, regent_ground, size_of, space_of}
use Rattle.code_boards.specs.Views.{spaces_of}
use Rattle.order_boards.specs.Outcomes.{image_on}
use Rattle.order_boards.proofs.Stands.{IsLive, Stands, at, board_root, column_length, kinds_same, root_size, root_space}

-- a list by its places
pub listed : {A : Type 0} (f : ℕ → A) (d : A) (xs : List A) (n : ℕ) → length xs ≡ n → ((k : ℕ) → k < n → f k ≡ get_or xs k d) → map f (points n) ≡ xs
listed f d xs n l h = ext_get_or d (map f (points n)) xs (length-map (points n) f ∙ length-counted_from 0 n ∙ sym l)
    (λ k below.
    let low : k < n = omega (arith, below, length-map (points n) f, length-counted_from 0 n) in
    get_or-map f (points n) k 0 d (subst (λ c. k < c) (sym (length-counted_from 0 n)) low)
    ∙ ap f (get_or-counted_from 0 n k 0 low ∙ omega arith) ∙ h k low)

module _ (code : Code) (who : ℕ → ℕ) (n : ℕ) (c : Contents) (m : Map (regent_ground (spaces_of code))) (s : Stands code who n c m) where
  module _ (r : ℕ) (live : IsLive c r) where
    abbrev image : RootImage
    image = image_of c r

    column : (f : ℕ) → f < length (kinds_of code image.space) → map (λ p. m (at (board_root c who r) f p)) (points image.count) ≡ get_or image.fields f []
    column f l =
        let long : length (column_of c r f) ≡ image.count = column_length code c r f (s.shaped r live) l in
        listed (λ p. m (at (board_root c who r) f p)) (pos 0) (column_of c r f) image.count long
        (λ p k. sym (s.same r f p (subst (λ q. p < q) (sym long) k)))

    fields_long : length image.fields ≡ length (kinds_of code image.space)
    fields_long = sym (length-map image.fields length) ∙ ap length (s.shaped r live) ∙ length-replicate (length (kinds_of code image.space)) image.count

    -- a root that is there holds what stands on the map
    pub image_same : image_on (spaces_of code) m (board_root c who r) ≡ image
    image_same =
        let space = root_space image.space image.count (who r) in
        let size = root_size image.space image.count (who r) in
        let kinds : length (get_or (spaces_of code) (space_of (board_root c who r)) []) ≡ length (kinds_of code image.space) =
        ap (λ k. length (get_or (spaces_of code) k [])) space ∙ ap length (kinds_same code image.space) in
        let fields : map (λ f. map (λ p. m (at (board_root c who r) f p)) (points (size_of (board_root c who r)))) (fields_of (spaces_of code) (space_of (board_root c who r)))
        ≡ image.fields =
        (λ i. map (λ f. map (λ p. m (at (board_root c who r) f p)) (points (size i))) (points (kinds i)))
        ∙ listed (λ f. map (λ p. m (at (board_root c who r) f p)) (points image.count)) [] image.fields (length (kinds_of code image.space)) fields_long column in
        λ i. record { space = space i; count = size i; fields = fields i }

  abbrev pub roots_of : List RootId → List ℕ
  roots_of own = map (λ (r : RootId). board_root c who r.0) own

  pub images_same : (own : List RootId) → ((r : ℕ) → has (map (λ (k : RootId). k.0) own) r ≡ true → IsLive c r) →
      map (image_on (spaces_of code) m) (roots_of own) ≡ map (λ (r : RootId). image_of c r.0) own
  images_same [] live = refl
  images_same (r ∷ own) live = λ i. image_same r.0 (live r.0 (has_head r.0 (map (λ (k : RootId). k.0) own))) i
      ∷ images_same own (λ k e. live k (has_tail k r.0 (map (λ (x : RootId). x.0) own) e)) i
