-- Numbers of a column: what was written, with the reductions that wait folded in.
use Rattle.std.proofs.Common.{◌≡◌, ◌∙◌, ◌++◌, ◌==◌, Bool, true, false, cond, List, [], ◌∷◌, None, Option, Some, ap, filter, length, pos, refl, suc, sym, ℕ, ℤ}
use Rattle.std.specs.Prelude.{unwrap_or}
use Rattle.std.proofs.lemmas.Bool.{eqb-true, false≢true}
use Rattle.std.proofs.lemmas.List.{append-nil}
use Rattle.std.specs.Option.{option_map}
use Rattle.lane_kernels.specs.declared.numbers.Mode.{Mode}
use Rattle.lane_kernels.specs.declared.numbers.Mode.TheVariants.{Read, Reduce, Write}
use Rattle.lane_kernels.specs.declared.numbers.Width.{Width}
use Rattle.region_tree.specs.Pieces.{Held}
use Rattle.logical_map.specs.Gives.{all_given_at, given, given_at, given_beside, is_reduction, is_write}
use Rattle.logical_map.specs.Maps.{Column, number_beside, number_or_zero}
use Rattle.logical_map.proofs.Beside.{beside_more, beside_no_number}
use Rattle.logical_map.proofs.Giving.{given_in_turn}
use Rattle.reduction_folds.specs.Folds.{all_at, all_beside, folded, folded_at}
use Rattle.reduction_folds.specs.declared.fold.Fold.{Fold}
use Rattle.lane_kernels.specs.declared.numbers.FieldKind.{FieldKind}
use Rattle.physical_instances.specs.Instances.{Beside, fold_of, folds_of, number_held, written}

-- ---- reductions that wait

pub none_waits : (w : Width) (ps : List ℕ) (zs : List ℤ) → all_beside w [] ps zs ≡ zs
none_waits w [] zs = refl
none_waits w (p ∷ ps) [] = refl
none_waits w (p ∷ ps) (z ∷ zs) = ap (λ ys. z ∷ ys) (none_waits w ps zs)

pub length_all_beside : (w : Width) (fs : List Fold) (ps : List ℕ) (zs : List ℤ) → length (all_beside w fs ps zs) ≡ length zs
length_all_beside w fs [] zs = refl
length_all_beside w fs (p ∷ ps) [] = refl
length_all_beside w fs (p ∷ ps) (z ∷ zs) = ap suc (length_all_beside w fs ps zs)

-- the number beside a point
pub folded_beside : (w : Width) (fs : List Fold) (ps : List ℕ) (zs : List ℤ) (p : ℕ) →
    number_beside ps (all_beside w fs ps zs) p ≡ option_map (all_at w fs p) (number_beside ps zs p)
folded_beside w fs [] zs p = refl
folded_beside w fs (q ∷ ps) [] p = beside_no_number (q ∷ ps) p ∙ ap (option_map (all_at w fs p)) (sym (beside_no_number (q ∷ ps) p))
folded_beside w fs (q ∷ ps) (z ∷ zs) p =
    beside_more q p ps (all_at w fs q z) (all_beside w fs ps zs) ∙
    ap (λ o. cond (q == p) (Some (all_at w fs q z)) o) (folded_beside w fs ps zs p) ∙
    by_case (q == p) refl ∙
    ap (option_map (all_at w fs p)) (sym (beside_more q p ps z zs))
  where
    by_case : (b : Bool) → (q == p) ≡ b → cond b (Some (all_at w fs q z)) (option_map (all_at w fs p) (number_beside ps zs p))
        ≡ option_map (all_at w fs p) (cond b (Some z) (number_beside ps zs p))
    by_case true e = ap (λ n. Some (all_at w fs n z)) (eqb-true q p e)
    by_case false e = refl

-- those that wait, and then others
all_in_turn : (w : Width) (fs gs : List Fold) (p : ℕ) (z : ℤ) → all_at w (fs ++ gs) p z ≡ all_at w gs p (all_at w fs p z)
all_in_turn w [] gs p z = refl
all_in_turn w (f ∷ fs) gs p z = all_in_turn w fs gs p (folded_at w f p z)

pub folded_in_turn : (w : Width) (fs gs : List Fold) (ps : List ℕ) (zs : List ℤ) →
    all_beside w (fs ++ gs) ps zs ≡ all_beside w gs ps (all_beside w fs ps zs)
folded_in_turn w fs gs [] zs = refl
folded_in_turn w fs gs (p ∷ ps) [] = refl
folded_in_turn w fs gs (p ∷ ps) (z ∷ zs) =
    ap (λ y. y ∷ all_beside w (fs ++ gs) ps zs) (all_in_turn w fs gs p z) ∙
    ap (λ ys. all_at w gs p (all_at w fs p z) ∷ ys) (folded_in_turn w fs gs ps zs)

-- a reduction that is folded later makes what it would have made at once
fold_given : (w : Width) (xs : List ℕ) (m : Mode) (vs : List ℤ) (p : ℕ) (z : ℤ) → let h : Held = record { points = xs; mode = m; values = vs } in
    all_at w (fold_of m h) p z ≡ all_given_at w (cond (is_reduction h) (h ∷ []) []) p z
fold_given w xs Read vs p z = refl
fold_given w xs Write vs p z = refl
fold_given w xs (Reduce op) vs p z = by_number (number_beside xs vs p)
  where
    by_number : (o : Option ℤ) → folded w op z o ≡ given w (Reduce op) z o
    by_number None = refl
    by_number (Some y) = refl

folds_given_at : (w : Width) (hs : List Held) (p : ℕ) (z : ℤ) → all_at w (folds_of hs) p z ≡ all_given_at w (filter is_reduction hs) p z
folds_given_at w [] p z = refl
folds_given_at w (h ∷ hs) p z =
    all_in_turn w (fold_of h.mode h) (folds_of hs) p z ∙
    ap (all_at w (folds_of hs) p) (fold_given w h.points h.mode h.values p z) ∙
    folds_given_at w hs p (all_given_at w (cond (is_reduction h) (h ∷ []) []) p z) ∙
    by_case (is_reduction h)
  where
    by_case : (b : Bool) → all_given_at w (filter is_reduction hs) p (all_given_at w (cond b (h ∷ []) []) p z)
        ≡ all_given_at w (cond b (h ∷ filter is_reduction hs) (filter is_reduction hs)) p z
    by_case true = refl
    by_case false = refl

folds_given : (w : Width) (hs : List Held) (ps : List ℕ) (zs : List ℤ) → all_beside w (folds_of hs) ps zs ≡ given_beside w (filter is_reduction hs) ps zs
folds_given w hs [] zs = refl
folds_given w hs (p ∷ ps) [] = refl
folds_given w hs (p ∷ ps) (z ∷ zs) =
    ap (λ y. y ∷ all_beside w (folds_of hs) ps zs) (folds_given_at w hs p z) ∙
    ap (λ ys. all_given_at w (filter is_reduction hs) p z ∷ ys) (folds_given w hs ps zs)

-- reductions of pieces behind those that wait
pub added_is_given : (w : Width) (fs new : List Fold) (hs : List Held) (ps : List ℕ) (zs : List ℤ) → new ≡ fs ++ folds_of hs →
    all_beside w new ps zs ≡ given_beside w (filter is_reduction hs) ps (all_beside w fs ps zs)
added_is_given w fs new hs ps zs is = ap (λ gs. all_beside w gs ps zs) is ∙ folded_in_turn w fs (folds_of hs) ps zs ∙ folds_given w hs ps (all_beside w fs ps zs)

-- ---- pieces for writing

write_given : (w : Width) (xs : List ℕ) (m : Mode) (vs : List ℤ) (p : ℕ) (z : ℤ) → let h : Held = record { points = xs; mode = m; values = vs } in
    is_write h ≡ true → number_held (Some h) p z ≡ given_at w h p z
write_given w xs Read vs p z e = absurd (false≢true e)
write_given w xs Write vs p z e = by_number (number_beside xs vs p)
  where
    by_number : (o : Option ℤ) → unwrap_or o z ≡ given w Write z o
    by_number None = refl
    by_number (Some y) = refl
write_given w xs (Reduce op) vs p z e = absurd (false≢true e)

pub written_is_given : (w : Width) (h : Held) (ps : List ℕ) (zs : List ℤ) → is_write h ≡ true → written h ps zs ≡ given_beside w (h ∷ []) ps zs
written_is_given w h [] zs e = refl
written_is_given w h (p ∷ ps) [] e = refl
written_is_given w h (p ∷ ps) (z ∷ zs) e =
    ap (λ y. y ∷ written h ps zs) (write_given w h.points h.mode h.values p z e) ∙
    ap (λ ys. given_at w h p z ∷ ys) (written_is_given w h ps zs e)

filter_one_more : (hs : List Held) (h : Held) → filter is_write (hs ++ h ∷ []) ≡ filter is_write hs ++ cond (is_write h) (h ∷ []) []
filter_one_more [] h = refl
filter_one_more (g ∷ hs) h = by_case (is_write g) (filter_one_more hs h)
  where
    by_case : (b : Bool) → filter is_write (hs ++ h ∷ []) ≡ filter is_write hs ++ cond (is_write h) (h ∷ []) [] →
        cond b (g ∷ filter is_write (hs ++ h ∷ [])) (filter is_write (hs ++ h ∷ []))
        ≡ cond b (g ∷ filter is_write hs) (filter is_write hs) ++ cond (is_write h) (h ∷ []) []
    by_case true e = ap (λ gs. g ∷ gs) e
    by_case false e = e

-- one piece more came back
pub more_written : (w : Width) (hs : List Held) (h : Held) (ps : List ℕ) (zs now new : List ℤ) → is_write h ≡ true →
    now ≡ given_beside w (filter is_write hs) ps zs → new ≡ written h ps now → new ≡ given_beside w (filter is_write (hs ++ h ∷ [])) ps zs
more_written w hs h ps zs now new e before is =
    is ∙ written_is_given w h ps now e ∙ ap (given_beside w (h ∷ []) ps) before ∙
    sym (given_in_turn w (filter is_write hs) (h ∷ []) ps zs) ∙
    ap (λ b. given_beside w (filter is_write hs ++ cond b (h ∷ []) []) ps zs) (sym e) ∙
    ap (λ gs. given_beside w gs ps zs) (sym (filter_one_more hs h))

-- one that isn't for writing
pub more_passed : (w : Width) (hs : List Held) (h : Held) (ps : List ℕ) (zs now new : List ℤ) → is_write h ≡ false →
    now ≡ given_beside w (filter is_write hs) ps zs → new ≡ now → new ≡ given_beside w (filter is_write (hs ++ h ∷ [])) ps zs
more_passed w hs h ps zs now new e before is =
    is ∙ before ∙ ap (λ gs. given_beside w gs ps zs) (sym (filter_one_more hs h ∙ ap (λ b. filter is_write hs ++ cond b (h ∷ []) []) e ∙ append-nil (filter is_write hs)))

-- ---- whole columns

abbrev pub column : List ℕ → FieldKind → List ℤ → Column
column ps kind zs = record { points = ps; kind = kind; numbers = zs }

pub column_is : (ps qs : List ℕ) (kind : FieldKind) (ys zs : List ℤ) → ps ≡ qs → ys ≡ zs → column ps kind ys ≡ column qs kind zs
column_is ps qs kind ys zs p z = ap (λ rs. column rs kind ys) p ∙ ap (column qs kind) z

-- where nothing waits any more
pub numbers_settled : (w : Width) (none fs : List Fold) (b new : Beside) → none ≡ [] → new.points ≡ b.points → new.numbers ≡ all_beside w fs b.points b.numbers →
    all_beside w none new.points new.numbers ≡ all_beside w fs b.points b.numbers
numbers_settled w none fs b new e p z =
    ap (λ gs. all_beside w gs new.points new.numbers) e ∙ none_waits w new.points new.numbers ∙ z

-- the number beside a point
pub number_folded : (w : Width) (fs : List Fold) (b : Beside) (p : ℕ) (z y : ℤ) → Some z ≡ number_beside b.points b.numbers p → y ≡ all_at w fs p z →
    y ≡ number_or_zero (number_beside b.points (all_beside w fs b.points b.numbers) p)
number_folded w fs b p z y e is =
    is ∙ ap (λ o. number_or_zero (option_map (all_at w fs p) o)) e ∙ ap number_or_zero (sym (folded_beside w fs b.points b.numbers p))

pub number_nowhere : (w : Width) (fs : List Fold) (b : Beside) (p : ℕ) → None ≡ number_beside b.points b.numbers p →
    pos 0 ≡ number_or_zero (number_beside b.points (all_beside w fs b.points b.numbers) p)
number_nowhere w fs b p e = ap (λ o. number_or_zero (option_map (all_at w fs p) o)) e ∙ ap number_or_zero (sym (folded_beside w fs b.points b.numbers p))
