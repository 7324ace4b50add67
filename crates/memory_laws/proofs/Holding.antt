-- What an instance holds: cells in the modes of its needs, which can be given back.
use Rattle.std.proofs.Common.{◌≡◌, ℕ, suc, ◌<◌, ℤ, List, [], ◌∷◌, Bool, true, false, Option, Some, None, refl, sym, ap, ◌∙◌, subst, arith}
use Rattle.std.specs.Prelude.{cond, map, length, get_or, ◌==◌, ◌&&◌}
use Rattle.std.specs.List.Sorted.{IsStrictlyIncreasing}
use Rattle.std.proofs.lemmas.Bool.{eqb-true, eqb-false, false≢true}
use Rattle.std.proofs.lemmas.Option.{none-some}
use Rattle.plain_values.specs.Points.{has, meets}
use Rattle.point_sets.proofs.Rising.{has_head, has_tail, has_other, rising_tail, rising_head, rising-filter, absent, meets_at}
use Rattle.lane_kernels.specs.declared.numbers.Mode.{Mode}
use Rattle.lane_kernels.specs.declared.numbers.Mode.TheVariants as mode
use Rattle.lane_kernels.specs.declared.numbers.Op.TheVariants.{Sum, Product, Least, Greatest}
use Rattle.region_tree.specs.declared.piece.Part.{Part}
use Rattle.region_tree.specs.Pieces.{Held}
use Rattle.region_tree.specs.Requirements as required
use Rattle.region_tree.specs.Requirements.{Requirement, mode_at, is_mode, all_modes, part_of_mode, parts_of_modes, points_joined, PartsAreApart, no_part, points_required}
use Rattle.region_tree.proofs.Dividing.{has-points_joined, rising-points_required}
use Rattle.region_tree.proofs.PartLaws.{part_apart}
use Rattle.task_code.specs.declared.code.Code.{Code}
use Rattle.machine_terms.specs.Parts.{Cell, value_beside, cell_of, cell_at}
use Rattle.machine_terms.specs.declared.order.Contents.{Contents}
use Rattle.memory_laws.specs.Parts.{Outline, outline_of, outline_in, IsHeld, AreHeld}
use Rattle.memory_laws.specs.Places.{column_of}
use Rattle.memory_laws.proofs.Giving.{NoRepeat, AreApart, AllBelow, PiecesBelow, CanGive}

-- ---- the mode of a cell

-- the mode of the first piece that has a point
abbrev mode_in : List Outline → ℕ → Option Mode
mode_in [] p = None
mode_in (u ∷ us) p = cond (has u.points p) (Some u.mode) (mode_in us p)

-- as many numbers as points
abbrev AreFull : List Outline → Type 0
AreFull [] = Unit {0}
AreFull (u ∷ us) = (u.count ≡ length u.points) × AreFull us

abbrev pub mode_of_cell : Option Cell → Option Mode
mode_of_cell None = None
mode_of_cell (Some c) = Some c.mode

has_at : (x p : ℕ) (xs : List ℕ) → has (x ∷ xs) p ≡ cond (x == p) true (has xs p)
has_at x p xs = chosen (x == p) refl
  where
    chosen : (b : Bool) → (x == p) ≡ b → has (x ∷ xs) p ≡ cond b true (has xs p)
    chosen true e = subst (λ k. has (x ∷ xs) k ≡ true) (eqb-true x p e) (has_head x xs)
    chosen false e = has_other p x xs (λ q. eqb-false x p e (sym q))

beside_mode : (m : Mode) (xs : List ℕ) (zs : List ℤ) (p : ℕ) (rest : Option Cell) → length zs ≡ length xs →
    mode_of_cell (cell_of m (value_beside xs zs p) rest) ≡ cond (has xs p) (Some m) (mode_of_cell rest)
beside_mode m [] zs p rest e = refl
beside_mode m (x ∷ xs) [] p rest e = absurd (omega (arith, e))
beside_mode m (x ∷ xs) (z ∷ zs) p rest e =
    chosen (x == p) (beside_mode m xs zs p rest (omega (arith, e)))
    ∙ ap (λ b. cond b (Some m) (mode_of_cell rest)) (sym (has_at x p xs))
  where
    chosen : (b : Bool) →
        mode_of_cell (cell_of m (value_beside xs zs p) rest) ≡ cond (has xs p) (Some m) (mode_of_cell rest) →
        mode_of_cell (cell_of m (cond b (Some z) (value_beside xs zs p)) rest)
        ≡ cond (cond b true (has xs p)) (Some m) (mode_of_cell rest)
    chosen true more = refl
    chosen false more = more

cell_mode : (hs : List Held) (p : ℕ) → AreFull (map outline_of hs) →
    mode_of_cell (cell_at hs p) ≡ mode_in (map outline_of hs) p
cell_mode [] p full = refl
cell_mode (h ∷ hs) p full =
    beside_mode h.mode h.points h.values p (cell_at hs p) full.0
    ∙ ap (cond (has h.points p) (Some h.mode)) (cell_mode hs p full.1)

-- ---- the parts of the needs

in_added : (xs : List ℕ) (m : Mode) (parts : List (List ℕ × Mode)) (p : ℕ) →
    mode_in (map outline_in (part_of_mode xs m parts)) p
    ≡ cond (has xs p) (Some m) (mode_in (map outline_in parts) p)
in_added [] m parts p = refl
in_added (x ∷ xs) m parts p = refl

-- the first of some modes that is the one
abbrev first_mode : List Mode → Option Mode → Option Mode
first_mode [] o = None
first_mode (m ∷ ms) o = cond (is_mode m o) (Some m) (first_mode ms o)

in_parts : (rs : List Requirement) (root f p : ℕ) (ms : List Mode) →
    mode_in (map outline_in (parts_of_modes rs root f ms)) p ≡ first_mode ms (mode_at rs root f p)
in_parts rs root f p [] = refl
in_parts rs root f p (m ∷ ms) =
    in_added (points_joined rs root f m) m (parts_of_modes rs root f ms) p
    ∙ ap (λ b. cond b (Some m) (mode_in (map outline_in (parts_of_modes rs root f ms)) p))
    (has-points_joined rs root f m p)
    ∙ ap (cond (is_mode m (mode_at rs root f p)) (Some m)) (in_parts rs root f p ms)

first_is : (o : Option Mode) → first_mode all_modes o ≡ o
first_is None = refl
first_is (Some mode.Read) = refl
first_is (Some mode.Write) = refl
first_is (Some (mode.Reduce Sum)) = refl
first_is (Some (mode.Reduce Product)) = refl
first_is (Some (mode.Reduce Least)) = refl
first_is (Some (mode.Reduce Greatest)) = refl

full_in : (qs : List (List ℕ × Mode)) → AreFull (map outline_in qs)
full_in [] = tt
full_in (q ∷ qs) = (refl, full_in qs)

-- a point is held in the mode of the needs
pub held_mode : (code : Code) (c : Contents) (needs : List Requirement) (q : Part) (p : ℕ) →
    IsHeld code c needs q → mode_of_cell (cell_at q.pieces p) ≡ mode_at needs q.root.0 q.field p
held_mode code c needs q p h =
    cell_mode q.pieces p (subst AreFull (sym h.outline) (full_in (required.part_of needs q.root.0 q.field)))
    ∙ ap (λ us. mode_in us p) h.outline
    ∙ in_parts needs q.root.0 q.field p all_modes ∙ first_is (mode_at needs q.root.0 q.field p)

-- ---- giving back

once : (xs : List ℕ) → IsStrictlyIncreasing xs → NoRepeat xs
once [] up = tt
once (x ∷ xs) up = (absent x xs (rising_head x xs up) x (omega arith), once xs (rising_tail x xs up))

-- parts in a row, by what they have
abbrev OutlinesApart : List Outline → Type 0
OutlinesApart [] = Unit {0}
OutlinesApart (u ∷ us) = NoRepeat u.points
    × ((p : ℕ) → has u.points p ≡ true → mode_in us p ≡ None) × OutlinesApart us

none_of : (xs : List ℕ) (qs : List (List ℕ × Mode)) →
    ((k : ℕ) → k < length qs → meets xs (get_or qs k no_part).0 ≡ false) →
    (p : ℕ) → has xs p ≡ true → mode_in (map outline_in qs) p ≡ None
none_of xs [] apart p e = refl
none_of xs (q ∷ qs) apart p e =
    chosen (has q.0 p) refl (none_of xs qs (λ k l. apart (suc k) (omega (arith, l))) p e)
  where
    chosen : (b : Bool) → has q.0 p ≡ b → mode_in (map outline_in qs) p ≡ None →
        cond b (Some q.1) (mode_in (map outline_in qs) p) ≡ None
    chosen true d more = absurd (false≢true (sym (apart 0 (omega arith))
        ∙ meets_at xs q.0 p (ap (λ b. b && has q.0 p) e ∙ d)))
    chosen false d more = more

abbrev AreRising : List (List ℕ × Mode) → Type 0
AreRising [] = Unit {0}
AreRising (q ∷ qs) = IsStrictlyIncreasing q.0 × AreRising qs

apart_in : (qs : List (List ℕ × Mode)) → AreRising qs → PartsAreApart qs → OutlinesApart (map outline_in qs)
apart_in [] up apart = tt
apart_in (q ∷ qs) up apart = (
  once q.0 up.0,
  none_of q.0 qs (λ k l. (apart 0 (suc k) (omega arith) (omega (arith, l))).0),
  apart_in qs up.1 (λ i j l k. apart (suc i) (suc j) (omega (arith, l)) (omega (arith, k))),
)

rising_added : (xs : List ℕ) (m : Mode) (parts : List (List ℕ × Mode)) → IsStrictlyIncreasing xs →
    AreRising parts → AreRising (part_of_mode xs m parts)
rising_added [] m parts up more = more
rising_added (x ∷ xs) m parts up more = (up, more)

rising_parts : (rs : List Requirement) (root f : ℕ) (ms : List Mode) → AreRising (parts_of_modes rs root f ms)
rising_parts rs root f [] = tt
rising_parts rs root f (m ∷ ms) = rising_added (points_joined rs root f m) m (parts_of_modes rs root f ms)
    (rising-filter _ (points_required rs root f) (rising-points_required rs root f)) (rising_parts rs root f ms)

no_mode : (o : Option Cell) → mode_of_cell o ≡ None → o ≡ None
no_mode None e = refl
no_mode (Some c) e = absurd (none-some c.mode (sym e))

apart_held : (hs : List Held) → AreFull (map outline_of hs) → OutlinesApart (map outline_of hs) → AreApart hs
apart_held [] full apart = tt
apart_held (h ∷ hs) full apart = (
  apart.0,
  λ p e. no_mode (cell_at hs p) (cell_mode hs p full.1 ∙ apart.1 p e),
  apart_held hs full.1 apart.2,
)

-- points below a bound
all_below : (n : ℕ) (xs : List ℕ) → ((p : ℕ) → has xs p ≡ true → p < n) → AllBelow n xs
all_below n [] low = tt
all_below n (x ∷ xs) low = (low x (has_head x xs), all_below n xs (λ p e. low p (has_tail p x xs e)))

below_held : (n : ℕ) (hs : List Held) → AreFull (map outline_of hs) →
    ((p : ℕ) (m : Mode) → mode_of_cell (cell_at hs p) ≡ Some m → p < n) → OutlinesApart (map outline_of hs) →
    PiecesBelow n hs
below_held n [] full low apart = tt
below_held n (h ∷ hs) full low apart = (
  all_below n h.points (λ p e. low p h.mode
      (cell_mode (h ∷ hs) p full ∙ ap (λ b. cond b (Some h.mode) (mode_in (map outline_of hs) p)) e)),
  below_held n hs full.1 (λ p m e. low p m (cell_mode (h ∷ hs) p full
      ∙ later p m (has h.points p) refl e)) apart.2,
)
  where
    later : (p : ℕ) (m : Mode) (b : Bool) → has h.points p ≡ b → mode_of_cell (cell_at hs p) ≡ Some m →
        cond b (Some h.mode) (mode_in (map outline_of hs) p) ≡ Some m
    later p m true d e = absurd (none-some m (sym (apart.1 p d) ∙ sym (cell_mode hs p full.1) ∙ e))
    later p m false d e = sym (cell_mode hs p full.1) ∙ e

pub can_give : (code : Code) (c : Contents) (needs : List Requirement) (qs : List Part) →
    ((root field point : ℕ) (m : Mode) → mode_at needs root field point ≡ Some m →
    point < length (column_of c root field)) →
    AreHeld code c needs qs → CanGive c qs
can_give code c needs [] low h = tt
can_give code c needs (q ∷ qs) low h =
    let root = q.root.0 in
    let f = q.field in
    let parts = required.part_of needs root f in
    let full = subst AreFull (sym h.0.outline) (full_in parts) in
    let apart = subst OutlinesApart (sym h.0.outline)
    (apart_in parts (rising_parts needs root f all_modes) (part_apart needs root f)) in (
      apart_held q.pieces full apart,
      below_held (length (column_of c root f)) q.pieces full
          (λ p m e. low root f p m (sym (held_mode code c needs q p h.0) ∙ e)) apart,
      h.1,
      can_give code c needs qs low h.2,
    )
