-- Elements that are moved piece by piece are those that the tree takes from its spots.
use Rattle.std.proofs.Common.{◌≡◌, ◌≤◌, ◌+◌, ◌-◌, ◌++◌, ◌∷◌, ◌∙◌, ℕ, zero, suc, ℤ, List, [], ap, arith, length, map, refl, sym, ⊎_elim}
use Rattle.std.specs.Prelude.{All, drop, min, take}
use Rattle.std.proofs.lemmas.Bool.{cases_lt}
use Rattle.std.proofs.lemmas.List.{drop-drop, drop_all, length-append, take_all}
use Rattle.std.proofs.lemmas.List.Elements.{All-cons, All-head, All-nil, All-tail}
use Rattle.std.proofs.lemmas.List.Sums.{sum_by-cons}
use Rattle.std.proofs.Math.Nat.{min-eq_left, min-eq_right}
use Rattle.std.proofs.Math.Seq.{take-add}
use Rattle.lane_kernels.specs.declared.numbers.Mode.{Mode as FieldMode}
use Rattle.region_tree.specs.Pieces.{Held}
use Rattle.logical_map.specs.Fills.{elements_of, moved_beside, moved_pieces, number_for}
use Rattle.logical_map.specs.Maps.{Column}
use Rattle.task_code.specs.declared.code.Code.{Code}
use Rattle.board_rules.specs.Ground.{Ground}
use Rattle.board_rules.specs.Processes.{Map}
use Rattle.board_rules.specs.Running.{Element, Machine, filled, number_of, spots}
use Rattle.regent_boards.specs.RegentMachine.{as_held, regent_ground}
use Rattle.code_boards.specs.Pieces.{all_elements, elements}
use Rattle.code_boards.specs.Views.{spaces_of}

abbrev long : Held → ℕ
long h = length h.points

-- ---- the least of two numbers

pub take_min : {A : Type 0} (a n : ℕ) (xs : List A) → length xs ≡ n → take (min a n) xs ≡ take a xs
take_min a n xs e = ⊎_elim (λ l. let h : a ≤ n = omega (arith, l) in ap (λ k. take k xs) (min-eq_left h))
    (λ l. ap (λ k. take k xs) (min-eq_right l) ∙ take_all n xs (omega (arith, e)) ∙ sym (take_all a xs (omega (arith, e, l)))) (cases_lt a n)

pub drop_min : {A : Type 0} (a n : ℕ) (xs : List A) → length xs ≡ n → drop (min a n) xs ≡ drop a xs
drop_min a n xs e = ⊎_elim (λ l. let h : a ≤ n = omega (arith, l) in ap (λ k. drop k xs) (min-eq_left h))
    (λ l. ap (λ k. drop k xs) (min-eq_right l) ∙ drop_all n xs (omega (arith, e)) ∙ sym (drop_all a xs (omega (arith, e, l)))) (cases_lt a n)

module _ (code : Code) (M : Machine (regent_ground (spaces_of code))) (m : Map (regent_ground (spaces_of code))) where
  abbrev G : Ground
  G = regent_ground (spaces_of code)

  -- ---- spots

  pub spots_both : (xs ys : List (Element G)) → spots G (xs ++ ys) ≡ spots G xs ++ spots G ys
  spots_both [] ys = refl
  spots_both (x ∷ xs) ys = ap (λ ss. record { location = x.location; mode = x.mode } ∷ ss) (spots_both xs ys)

  pub take_spots : (n : ℕ) (xs : List (Element G)) → take n (spots G xs) ≡ spots G (take n xs)
  take_spots zero xs = refl
  take_spots (suc n) [] = refl
  take_spots (suc n) (x ∷ xs) = ap (λ ss. record { location = x.location; mode = x.mode } ∷ ss) (take_spots n xs)

  pub drop_spots : (n : ℕ) (xs : List (Element G)) → drop n (spots G xs) ≡ spots G (drop n xs)
  drop_spots zero xs = refl
  drop_spots (suc n) [] = refl
  drop_spots (suc n) (x ∷ xs) = drop_spots n xs

  -- ---- elements that are filled behind so many, so many of them

  abbrev filled_one : Element G → Element G
  filled_one x = record { location = x.location; mode = x.mode; number = number_of G M x.mode x.location m }

  abbrev pub fill_from : ℕ → ℕ → List (Element G) → List (Element G)
  fill_from (suc behind) next (x ∷ xs) = x ∷ fill_from behind next xs
  fill_from zero (suc next) (x ∷ xs) = filled_one x ∷ fill_from zero next xs
  fill_from _ _ xs = xs

  fill_none : (behind next : ℕ) → fill_from behind next [] ≡ []
  fill_none zero zero = refl
  fill_none zero (suc next) = refl
  fill_none (suc behind) next = refl

  fill_still : (xs : List (Element G)) → fill_from zero zero xs ≡ xs
  fill_still [] = refl
  fill_still (x ∷ xs) = refl

  pub fill_length : (behind next : ℕ) (xs : List (Element G)) → length (fill_from behind next xs) ≡ length xs
  fill_length behind next [] = ap length (fill_none behind next)
  fill_length (suc behind) next (x ∷ xs) = ap suc (fill_length behind next xs)
  fill_length zero (suc next) (x ∷ xs) = ap suc (fill_length zero next xs)
  fill_length zero zero (x ∷ xs) = refl

  fill_same : (a b c d : ℕ) (xs : List (Element G)) → a ≡ b → c ≡ d → fill_from a c xs ≡ fill_from b d xs
  fill_same a b c d xs e f = λ i. fill_from (e i) (f i) xs

  fill_append : (behind next : ℕ) (xs ys : List (Element G)) →
      fill_from behind next (xs ++ ys) ≡ fill_from behind next xs ++ fill_from (behind - length xs) (next - (length xs - behind)) ys
  fill_append behind next [] ys = fill_same behind (behind - 0) next (next - (0 - behind)) ys (omega arith) (omega arith)
      ∙ ap (λ xs. xs ++ fill_from (behind - 0) (next - (0 - behind)) ys) (sym (fill_none behind next))
  fill_append (suc behind) next (x ∷ xs) ys = ap (λ r. x ∷ r) (fill_append behind next xs ys
      ∙ ap (λ r. fill_from behind next xs ++ r) (fill_same (behind - length xs) (suc behind - suc (length xs)) (next - (length xs - behind)) (next - (suc (length xs) - suc behind)) ys (omega arith) (omega arith)))
  fill_append zero (suc next) (x ∷ xs) ys = ap (λ r. filled_one x ∷ r) (fill_append zero next xs ys
      ∙ ap (λ r. fill_from zero next xs ++ r) (fill_same (0 - length xs) (0 - suc (length xs)) (next - (length xs - 0)) (suc next - (suc (length xs) - 0)) ys (omega arith) (omega arith)))
  fill_append zero zero (x ∷ xs) ys = ap (λ r. (x ∷ xs) ++ r) (sym (fill_same (0 - suc (length xs)) 0 (0 - (suc (length xs) - 0)) 0 ys (omega arith) (omega arith) ∙ fill_still ys))

  -- those before, those that are filled, and those that are left
  fill_before : (behind next : ℕ) (xs : List (Element G)) → take behind (fill_from behind next xs) ≡ take behind xs
  fill_before zero next xs = refl
  fill_before (suc behind) next [] = refl
  fill_before (suc behind) next (x ∷ xs) = ap (λ r. x ∷ r) (fill_before behind next xs)

  fill_next : (behind next : ℕ) (xs : List (Element G)) → take next (drop behind (fill_from behind next xs)) ≡ filled G M (spots G (take next (drop behind xs))) m
  fill_next (suc behind) zero [] = refl
  fill_next (suc behind) (suc next) [] = refl
  fill_next (suc behind) next (x ∷ xs) = fill_next behind next xs
  fill_next zero zero xs = refl
  fill_next zero (suc next) [] = refl
  fill_next zero (suc next) (x ∷ xs) = ap (λ r. filled_one x ∷ r) (fill_next zero next xs)

  fill_left : (behind next : ℕ) (xs : List (Element G)) → drop next (drop behind (fill_from behind next xs)) ≡ drop next (drop behind xs)
  fill_left (suc behind) next [] = refl
  fill_left (suc behind) next (x ∷ xs) = fill_left behind next xs
  fill_left zero zero xs = fill_still xs
  fill_left zero (suc next) [] = refl
  fill_left zero (suc next) (x ∷ xs) = fill_left zero next xs

  pub fill_taken : (behind next : ℕ) (xs : List (Element G)) → take (behind + next) (fill_from behind next xs) ≡ take behind xs ++ filled G M (take next (spots G (drop behind xs))) m
  fill_taken behind next xs = take-add behind next (fill_from behind next xs)
      ∙ (λ i. fill_before behind next xs i ++ fill_next behind next xs i)
      ∙ ap (λ ss. take behind xs ++ filled G M ss m) (sym (take_spots next (drop behind xs)))

  pub fill_dropped : (behind next : ℕ) (xs : List (Element G)) → spots G (drop (behind + next) (fill_from behind next xs)) ≡ drop next (spots G (drop behind xs))
  fill_dropped behind next xs = ap (spots G) (sym (drop-drop next behind (fill_from behind next xs)) ∙ fill_left behind next xs) ∙ sym (drop_spots next (drop behind xs))

  -- ---- pieces

  module _ (root field : ℕ) (c : Column) where
    abbrev pub AreSized : List Held → Type 0
    AreSized hs = All (λ (h : Held). length h.values ≡ length h.points) hs

    pub elements_length : (md : FieldMode) (ps : List ℕ) (zs : List ℤ) → length zs ≡ length ps → length (elements code root field md ps zs) ≡ length ps
    elements_length md [] [] e = refl
    elements_length md [] (z ∷ zs) e = absurd (omega (arith, e))
    elements_length md (p ∷ ps) [] e = absurd (omega (arith, e))
    elements_length md (p ∷ ps) (z ∷ zs) e = ap suc (elements_length md ps zs (omega (arith, e)))

    pub all_length : (hs : List Held) → AreSized hs → length (all_elements code root field hs) ≡ elements_of hs
    all_length [] h = refl
    all_length (x ∷ hs) h = length-append (elements code root field x.mode x.points x.values) (all_elements code root field hs)
        ∙ (λ i. elements_length x.mode x.points x.values (All-head (λ (h : Held). length h.values ≡ length h.points) x hs h) i
        + all_length hs (All-tail (λ (h : Held). length h.values ≡ length h.points) x hs h) i)
        ∙ sym (sum_by-cons long x hs)

    module _ (P : ℕ → Type 0) (numbers : (md : FieldMode) (p : ℕ) → P p → number_for c md p ≡ number_of G M (as_held (spaces_of code) root field md) (record { root = root; field = field; point = p }) m) where
      piece_moved : (md : FieldMode) (behind next : ℕ) (ps : List ℕ) (zs : List ℤ) → All P ps → length zs ≡ length ps →
          elements code root field md ps (moved_beside (number_for c md) behind next ps zs) ≡ fill_from behind next (elements code root field md ps zs)
      piece_moved md behind next [] [] h e = sym (fill_none behind next)
      piece_moved md behind next [] (z ∷ zs) h e = absurd (omega (arith, e))
      piece_moved md behind next (p ∷ ps) [] h e = absurd (omega (arith, e))
      piece_moved md (suc behind) next (p ∷ ps) (z ∷ zs) h e =
          ap (λ r. record { location = record { root = root; field = field; point = p }; mode = as_held (spaces_of code) root field md; number = z } ∷ r)
          (piece_moved md behind next ps zs (All-tail P p ps h) (omega (arith, e)))
      piece_moved md zero (suc next) (p ∷ ps) (z ∷ zs) h e = λ i.
          record { location = record { root = root; field = field; point = p }; mode = as_held (spaces_of code) root field md; number = numbers md p (All-head P p ps h) i }
          ∷ piece_moved md zero next ps zs (All-tail P p ps h) (omega (arith, e)) i
      piece_moved md zero zero (p ∷ ps) (z ∷ zs) h e = refl

      pub pieces_moved : (behind next : ℕ) (hs : List Held) → All (λ (h : Held). All P h.points) hs → AreSized hs →
          all_elements code root field (moved_pieces c behind next hs) ≡ fill_from behind next (all_elements code root field hs)
      pieces_moved behind next [] g h = sym (fill_none behind next)
      pieces_moved behind next (x ∷ hs) g h =
          let sized = All-head (λ (h : Held). length h.values ≡ length h.points) x hs h in
          let long_is = elements_length x.mode x.points x.values sized in
          let xs = elements code root field x.mode x.points x.values in
          (λ i. piece_moved x.mode behind next x.points x.values (All-head (λ (h : Held). All P h.points) x hs g) sized i
          ++ pieces_moved (behind - length x.points) (next - (length x.points - behind)) hs (All-tail (λ (h : Held). All P h.points) x hs g) (All-tail (λ (h : Held). length h.values ≡ length h.points) x hs h) i)
          ∙ (λ i. fill_from behind next xs ++ fill_from (behind - sym long_is i) (next - (sym long_is i - behind)) (all_elements code root field hs))
          ∙ sym (fill_append behind next xs (all_elements code root field hs))

-- ---- what stays of pieces, and what fits

abbrev pub outline : Held → List ℕ × FieldMode
outline h = (h.points, h.mode)

module _ (c : Column) where
  pub outline_kept : (behind next : ℕ) (hs : List Held) → map outline (moved_pieces c behind next hs) ≡ map outline hs
  outline_kept behind next [] = refl
  outline_kept behind next (h ∷ hs) = ap (λ r. outline h ∷ r) (outline_kept (behind - length h.points) (next - (length h.points - behind)) hs)

  pub elements_kept : (behind next : ℕ) (hs : List Held) → elements_of (moved_pieces c behind next hs) ≡ elements_of hs
  elements_kept behind next [] = refl
  elements_kept behind next (h ∷ hs) = sum_by-cons long (record h { values = moved_beside (number_for c h.mode) behind next h.points h.values })
      (moved_pieces c (behind - length h.points) (next - (length h.points - behind)) hs)
      ∙ ap (λ n. length h.points + n) (elements_kept (behind - length h.points) (next - (length h.points - behind)) hs) ∙ sym (sum_by-cons long h hs)

  module _ (f : ℕ → ℤ) where
    beside_length : (behind next : ℕ) (ps : List ℕ) (zs : List ℤ) → length (moved_beside f behind next ps zs) ≡ length zs
    beside_length (suc behind) next [] zs = refl
    beside_length (suc behind) next (p ∷ ps) [] = refl
    beside_length (suc behind) next (p ∷ ps) (z ∷ zs) = ap suc (beside_length behind next ps zs)
    beside_length zero zero ps zs = refl
    beside_length zero (suc next) [] zs = refl
    beside_length zero (suc next) (p ∷ ps) [] = refl
    beside_length zero (suc next) (p ∷ ps) (z ∷ zs) = ap suc (beside_length zero next ps zs)

    module _ (Fits : ℤ → Type 0) (fits : (p : ℕ) → Fits (f p)) where
      beside_fits : (behind next : ℕ) (ps : List ℕ) (zs : List ℤ) → All Fits zs → All Fits (moved_beside f behind next ps zs)
      beside_fits (suc behind) next [] zs h = h
      beside_fits (suc behind) next (p ∷ ps) [] h = h
      beside_fits (suc behind) next (p ∷ ps) (z ∷ zs) h = All-cons Fits z (moved_beside f behind next ps zs) (All-head Fits z zs h) (beside_fits behind next ps zs (All-tail Fits z zs h))
      beside_fits zero zero ps zs h = h
      beside_fits zero (suc next) [] zs h = h
      beside_fits zero (suc next) (p ∷ ps) [] h = h
      beside_fits zero (suc next) (p ∷ ps) (z ∷ zs) h = All-cons Fits (f p) (moved_beside f zero next ps zs) (fits p) (beside_fits zero next ps zs (All-tail Fits z zs h))

  pub sized_kept : (behind next : ℕ) (hs : List Held) → All (λ (h : Held). length h.values ≡ length h.points) hs → All (λ (h : Held). length h.values ≡ length h.points) (moved_pieces c behind next hs)
  sized_kept behind next [] h = All-nil (λ (h : Held). length h.values ≡ length h.points)
  sized_kept behind next (x ∷ hs) h =
      All-cons (λ (h : Held). length h.values ≡ length h.points) (record x { values = moved_beside (number_for c x.mode) behind next x.points x.values })
      (moved_pieces c (behind - length x.points) (next - (length x.points - behind)) hs)
      (beside_length (number_for c x.mode) behind next x.points x.values ∙ All-head (λ (h : Held). length h.values ≡ length h.points) x hs h)
      (sized_kept (behind - length x.points) (next - (length x.points - behind)) hs (All-tail (λ (h : Held). length h.values ≡ length h.points) x hs h))

  pub fits_kept : (Fits : ℤ → Type 0) → ((md : FieldMode) (p : ℕ) → Fits (number_for c md p)) → (behind next : ℕ) (hs : List Held) → All (λ (h : Held). All Fits h.values) hs →
      All (λ (h : Held). All Fits h.values) (moved_pieces c behind next hs)
  fits_kept Fits fits behind next [] h = All-nil (λ (h : Held). All Fits h.values)
  fits_kept Fits fits behind next (x ∷ hs) h =
      All-cons (λ (h : Held). All Fits h.values) (record x { values = moved_beside (number_for c x.mode) behind next x.points x.values })
      (moved_pieces c (behind - length x.points) (next - (length x.points - behind)) hs)
      (beside_fits (number_for c x.mode) Fits (fits x.mode) behind next x.points x.values (All-head (λ (h : Held). All Fits h.values) x hs h))
      (fits_kept Fits fits (behind - length x.points) (next - (length x.points - behind)) hs (All-tail (λ (h : Held). All Fits h.values) x hs h))
