-- Reductions that are taken out of pieces one after the other.
use Rattle.std.proofs.Common.{◌≡◌, ◌∙◌, ◌≤◌, ◌<◌, ◌+◌, ◌++◌, true, false, not, cond, List, [], ◌∷◌, ap, arith, drop, filter, get_or, length, refl, suc, sym, take, zero, ℕ, ℤ}
use Rattle.std.proofs.lemmas.List.{append-nil, append_assoc, drop_all, drop_more, take_all, take_more}
use Rattle.std.proofs.Math.Numerals.{suc-eq-add-one}
use Rattle.std.proofs.lemmas.Bool.{false≢true}
use Rattle.lane_kernels.specs.declared.numbers.Mode.{Mode}
use Rattle.lane_kernels.specs.declared.numbers.Mode.TheVariants.{Read, Reduce, Write}
use Rattle.lane_kernels.specs.declared.numbers.Op.{Op}
use Rattle.region_tree.specs.Pieces.{Held}
use Rattle.logical_map.specs.Gives.{is_reduction}
use Rattle.reduction_folds.specs.declared.fold.Fold.{Fold}
use Rattle.physical_instances.specs.Instances.{fold_of, folds_of}

abbrev pub kept_of : List Held → List Held
kept_of hs = filter (λ (h : Held). not (is_reduction h)) hs

-- So far: of the pieces those from a place on are still to be looked at.
pub record Taken (all hs : List Held) (before now : List Fold) (had left place : ℕ) : Type 0 where
  pub within : place ≤ length hs
  pub pieces : take place hs ++ kept_of (drop place hs) ≡ kept_of all
  pub folds : now ++ folds_of (drop place hs) ≡ before ++ folds_of all
  pub room : length (filter is_reduction (drop place hs)) ≤ left
  pub spare : had + length (filter is_reduction (drop place hs)) ≤ left + length (filter is_reduction all)

pub none_taken : (all : List Held) (before : List Fold) (room : ℕ) → length (filter is_reduction all) ≤ room → Taken all all before before room room 0
none_taken all before room l = record {
  within = omega arith;
  pieces = refl;
  folds = refl;
  room = l;
  spare = omega arith;
}

-- the piece at the place
next : (hs : List Held) (place : ℕ) (h : Held) → place < length hs → h ≡ get_or hs place h → drop place hs ≡ h ∷ drop (suc place) hs
next hs place h l e = drop_more hs place h l ∙ ap (λ k. get_or hs place h ∷ drop k hs) (sym (suc-eq-add-one place)) ∙ ap (λ y. y ∷ drop (suc place) hs) (sym e)

-- where it is a reduction, it is taken out
removed : (hs : List Held) (place : ℕ) → place < length hs →
    (take place (take place hs ++ drop (suc place) hs) ≡ take place hs) × (drop place (take place hs ++ drop (suc place) hs) ≡ drop (suc place) hs)
removed [] place l = absurd (omega (arith, l))
removed (h ∷ hs) zero l = (refl, refl)
removed (h ∷ hs) (suc place) l =
    let rest = removed hs place (omega (arith, l)) in
    (ap (λ gs. h ∷ gs) rest.0, rest.1)

reduces_as : (h : Held) (op : Op) → h.mode ≡ Reduce op → is_reduction h ≡ true
reduces_as h op e = ap (λ (m : Mode). is_reduction (record { points = h.points; mode = m; values = h.values })) e

pub one_taken : (all hs new : List Held) (before now after : List Fold) (room left spare place : ℕ) (h : Held) (op : Op) (f : Fold) →
    Taken all hs before now room left place → place < length hs → h ≡ get_or hs place h → h.mode ≡ Reduce op →
    f ≡ record { op = op; points = h.points; values = h.values } → new ≡ take place hs ++ drop (place + 1) hs →
    after ≡ now ++ f ∷ [] → left ≤ spare + 1 → Taken all new before after room spare place
one_taken all hs new before now after room left spare place h op f t l e m is cut added less =
    let out : new ≡ take place hs ++ drop (suc place) hs = cut ∙ ap (λ k. take place hs ++ drop k hs) (sym (suc-eq-add-one place)) in
    let rest = next hs place h l e in
    let front : take place new ≡ take place hs = ap (take place) out ∙ (removed hs place l).0 in
    let back : drop place new ≡ drop (suc place) hs = ap (drop place) out ∙ (removed hs place l).1 in
    let r = reduces_as h op m in
    let counted : length (filter is_reduction (drop place hs)) ≡ suc (length (filter is_reduction (drop place new))) =
    ap (λ gs. length (filter is_reduction gs)) rest
    ∙ ap (λ b. length (cond b (h ∷ filter is_reduction (drop (suc place) hs)) (filter is_reduction (drop (suc place) hs)))) r
    ∙ ap (λ gs. suc (length (filter is_reduction gs))) (sym back) in
    record {
      within = omega (arith, l, ap length out, length_removed hs place l);
      pieces = ap (λ gs. gs ++ kept_of (drop place new)) front ∙ ap (λ gs. take place hs ++ kept_of gs) back
          ∙ sym (ap (λ b. take place hs ++ cond (not b) (h ∷ kept_of (drop (suc place) hs)) (kept_of (drop (suc place) hs))) r)
          ∙ sym (ap (λ gs. take place hs ++ kept_of gs) rest) ∙ t.pieces;
      folds = ap (λ fs. fs ++ folds_of (drop place new)) added ∙ append_assoc now (f ∷ []) (folds_of (drop place new))
          ∙ ap (λ g. now ++ g ∷ folds_of (drop place new)) is
          ∙ ap (λ gs. now ++ record { op = op; points = h.points; values = h.values } ∷ folds_of gs) back
          ∙ sym (ap (λ (k : Mode). now ++ (fold_of k h ++ folds_of (drop (suc place) hs))) m)
          ∙ sym (ap (λ gs. now ++ folds_of gs) rest) ∙ t.folds;
      room = omega (arith, counted, t.room, less);
      spare = omega (arith, counted, t.spare, less);
    }
  where
    length_removed : (hs : List Held) (place : ℕ) → place < length hs → suc (length (take place hs ++ drop (suc place) hs)) ≡ length hs
    length_removed [] place l = absurd (omega (arith, l))
    length_removed (h ∷ hs) zero l = omega arith
    length_removed (h ∷ hs) (suc place) l = omega (arith, length_removed hs place (omega (arith, l)))

-- then there is room for it
pub some_left : (all hs : List Held) (before now : List Fold) (had left place : ℕ) (h : Held) (op : Op) → Taken all hs before now had left place →
    place < length hs → h ≡ get_or hs place h → h.mode ≡ Reduce op → 0 < left
some_left all hs before now had left place h op t l e m = omega (
  arith,
  t.room,
  ap (λ gs. length (filter is_reduction gs)) (next hs place h l e),
  ap (λ b. length (cond b (h ∷ filter is_reduction (drop (suc place) hs)) (filter is_reduction (drop (suc place) hs)))) (reduces_as h op m),
)

pub reduces_not : (h : Held) → ((op : Op) → h.mode ≡ Reduce op → ⊥) → is_reduction h ≡ false
reduces_not h other = by_mode h.points h.mode h.values other
  where
    by_mode : (xs : List ℕ) (m : Mode) (vs : List ℤ) → ((op : Op) → m ≡ Reduce op → ⊥) →
        (let g : Held = record { points = xs; mode = m; values = vs } in is_reduction g ≡ false)
    by_mode xs Read vs o = refl
    by_mode xs Write vs o = refl
    by_mode xs (Reduce op) vs o = absurd (o op refl)

-- where it isn't, it stays
pub one_kept : (all hs : List Held) (before now : List Fold) (room left place : ℕ) (h : Held) → Taken all hs before now room left place →
    place < length hs → h ≡ get_or hs place h → is_reduction h ≡ false → Taken all hs before now room left (suc place)
one_kept all hs before now room left place h t l e r =
    let rest = next hs place h l e in
    let counted : length (filter is_reduction (drop place hs)) ≡ length (filter is_reduction (drop (suc place) hs)) =
    ap (λ gs. length (filter is_reduction gs)) rest
    ∙ ap (λ b. length (cond b (h ∷ filter is_reduction (drop (suc place) hs)) (filter is_reduction (drop (suc place) hs)))) r in
    record {
      within = omega (arith, l);
      pieces = ap (λ gs. gs ++ kept_of (drop (suc place) hs)) (ap (λ k. take k hs) (suc-eq-add-one place) ∙ take_more hs place h l ∙ ap (λ y. take place hs ++ y ∷ []) (sym e))
          ∙ append_assoc (take place hs) (h ∷ []) (kept_of (drop (suc place) hs)) ∙ ap (λ gs. take place hs ++ gs)
          (sym (ap (λ b. cond (not b) (h ∷ kept_of (drop (suc place) hs)) (kept_of (drop (suc place) hs))) r) ∙ sym (ap kept_of rest)) ∙ t.pieces;
      folds = ap (λ fs. now ++ (fs ++ folds_of (drop (suc place) hs))) (sym (no_fold h.points h.mode h.values r)) ∙ sym (ap (λ gs. now ++ folds_of gs) rest) ∙ t.folds;
      room = omega (arith, counted, t.room);
      spare = omega (arith, counted, t.spare);
    }
  where
    no_fold : (xs : List ℕ) (m : Mode) (vs : List ℤ) → (let g : Held = record { points = xs; mode = m; values = vs } in is_reduction g ≡ false) →
        (let g : Held = record { points = xs; mode = m; values = vs } in fold_of m g ≡ [])
    no_fold xs Read vs e = refl
    no_fold xs Write vs e = refl
    no_fold xs (Reduce op) vs e = absurd (false≢true (sym e))

-- all were looked at
pub all_taken : (all hs : List Held) (before now : List Fold) (room left place : ℕ) → Taken all hs before now room left place → length hs ≤ place →
    (hs ≡ kept_of all) × (now ≡ before ++ folds_of all) × (room ≤ left + length (filter is_reduction all))
all_taken all hs before now room left place t l =
    let none : drop place hs ≡ [] = drop_all place hs l in (
      sym (append-nil hs) ∙ ap (λ gs. gs ++ []) (sym (take_all place hs l)) ∙ ap (λ gs. take place hs ++ kept_of gs) (sym none) ∙ t.pieces,
      sym (append-nil now) ∙ ap (λ gs. now ++ folds_of gs) (sym none) ∙ t.folds,
      omega (arith, t.spare),
    )
