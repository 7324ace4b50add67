-- Room for what a root holds, filled field by field.
use Rattle.std.proofs.Common.{◌≡◌, ◌<◌, ◌∙◌, ◌+◌, ◌++◌, ◌⊎◌, ℕ, ℤ, List, [], None, Option, Some, ◌∷◌, ap, arith, drop, get_or, inl, inr, length, map, refl, replicate, set, sym, true}
use Rattle.std.proofs.Math.ListN.{drop_of_length-le, get_or-map}
use Rattle.std.proofs.Math.Seq.{paste}
use Rattle.std.proofs.lemmas.List.{append-nil, get_or-drop, get_or_default, length-map}
use Rattle.std.proofs.lemmas.List.Edits.{drop-paste, paste_all, paste_more}
use Rattle.logical_map.specs.Maps.{Column, LogicalMap, column_of, columns_of, no_column}
use Rattle.std.specs.Prelude.{IfSome}
use Rattle.std.specs.Option.{is_some}
use Rattle.std.proofs.lemmas.Bool.{false≢true}
use Rattle.lane_kernels.specs.declared.numbers.FieldKind.{FieldKind}
use Rattle.task_code.specs.declared.code.Code.{Code}
use Rattle.task_code.specs.declared.code.FieldCode.{FieldCode}
use Rattle.machine_terms.specs.Contents.{no_space}
use Rattle.board_facts.specs.Rooms.{IsRoomFor, shape_made, shape_of}
use Rattle.board_outcomes.specs.Images.{numbers_in}

-- ---- room for a new root

same_shape : (size : ℕ) (fs : List FieldCode) → map (λ (k : FieldKind). size) (map (λ (f : FieldCode). f.kind) fs) ≡ replicate (length fs) size
same_shape size [] = refl
same_shape size (f ∷ fs) = ap (λ ns. size ∷ ns) (same_shape size fs)

pub made_room : (code : Code) (size space n : ℕ) (rooms : List (List ℤ)) → n ≡ length (get_or code.spaces space no_space).fields →
    map length rooms ≡ replicate n size → map length rooms ≡ shape_made code size space
made_room code size space n rooms e h =
    h ∙ ap (λ (m : ℕ). replicate m size) e ∙ sym (same_shape size (get_or code.spaces space no_space).fields)

-- ---- items that take the place of others, one after the other

pub next_item : {A : Type 0} (xs ys : List A) (place : ℕ) (d : A) → place < length xs → length ys ≡ length xs →
    get_or (paste xs 0 ys place) place d ≡ get_or xs place d
next_item xs ys place d b as_many =
    let same : drop (0 + place) (paste xs 0 ys place) ≡ drop (0 + place) xs = drop-paste xs 0 ys place (omega arith) (omega (arith, b, as_many)) in
    let here : 0 + place + 0 ≡ place = omega arith in
    ap (λ (n : ℕ). get_or (paste xs 0 ys place) n d) (sym here) ∙ sym (get_or-drop (0 + place) (paste xs 0 ys place) 0 d)
    ∙ ap (λ zs. get_or zs 0 d) same ∙ get_or-drop (0 + place) xs 0 d ∙ ap (λ (n : ℕ). get_or xs n d) here

pub one_more : {A : Type 0} (xs ys : List A) (place : ℕ) (d : A) → place < length xs → length ys ≡ length xs →
    set (paste xs 0 ys place) place (get_or ys place d) ≡ paste xs 0 ys (place + 1)
one_more xs ys place d b as_many =
    let here : 0 + place ≡ place = omega arith in
    ap (λ (n : ℕ). set (paste xs 0 ys place) n (get_or ys place d)) (sym here)
    ∙ paste_more xs 0 ys place d (omega (arith, b)) (omega (arith, b, as_many))

pub all_placed : {A : Type 0} (xs ys : List A) → length ys ≡ length xs → paste xs 0 ys (length xs) ≡ ys
all_placed xs ys as_many =
    paste_all xs 0 ys (length xs) (sym as_many) ∙ ap (λ zs. ys ++ zs) (drop_of_length-le xs (omega arith)) ∙ append-nil ys

-- ---- room that is filled

pub if_there : {P : Type 0} (o : Option ℕ) → is_some o ≡ true → IfSome o (λ _. P) → P
if_there None e h = absurd (false≢true e)
if_there (Some n) e h = h

module _ (roots : LogicalMap) (root : ℕ) (fields : List (List ℤ)) (room : IsRoomFor roots root fields) (there : 0 < length (columns_of roots root)) where
  abbrev columns : List Column
  columns = columns_of roots root

  shaped : shape_of roots root ≡ map length fields
  shaped = by room.1
    where
      by : (shape_of roots root ≡ map length fields) ⊎ (columns_of roots root ≡ []) → shape_of roots root ≡ map length fields
      by (inl h) = h
      by (inr h) = absurd (omega (arith, there, ap length h))

  pub as_many : length (numbers_in columns) ≡ length fields
  as_many = length-map columns (λ (c : Column). c.numbers) ∙ sym (length-map columns (λ (c : Column). length c.points)) ∙ ap length shaped
      ∙ length-map fields length

  -- the next room has a place for each point of its field
  pub next_room : (place : ℕ) (d : List ℤ) → place < length fields →
      length (get_or (paste fields 0 (numbers_in columns) place) place d) ≡ length (column_of roots root place).points
  next_room place d b =
      ap length (next_item fields (numbers_in columns) place d b as_many ∙ get_or_default fields place d [] b)
      ∙ sym (get_or-map length fields place [])
      ∙ ap (λ (ns : List ℕ). get_or ns place 0) (sym shaped)
      ∙ get_or-map (λ (c : Column). length c.points) columns place no_column

  pub next_field : (place : ℕ) → place < length fields →
      set (paste fields 0 (numbers_in columns) place) place (column_of roots root place).numbers ≡ paste fields 0 (numbers_in columns) (place + 1)
  next_field place b =
      ap (set (paste fields 0 (numbers_in columns) place) place) (sym (get_or-map (λ (c : Column). c.numbers) columns place no_column))
      ∙ one_more fields (numbers_in columns) place [] b as_many
