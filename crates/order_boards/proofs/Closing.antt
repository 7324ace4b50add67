-- The own roots of a child that came back are closed.
use Rattle.std.proofs.Common.{◌≡◌, ℕ, zero, suc, ◌<◌, ◌≤◌, pos, List, [], ◌∷◌, Bool, true, false, cond, refl, sym, ap, ◌∙◌, subst, take, arith, ◌==◌, get_or, ⊎_elim}
use Rattle.std.specs.Prelude.{length}
use Rattle.std.proofs.lemmas.Bool.{eqb-false, false≢true}
use Rattle.std.proofs.lemmas.List.{take-map}
use Rattle.std.proofs.Math.Seq.{take-append_seam}
use Rattle.plain_values.specs.Points.{IsPoints, has}
use Rattle.point_sets.proofs.Rising.{has-cons_cases}
use Rattle.lane_kernels.specs.declared.numbers.FieldKind.TheVariants.{Truth}
use Rattle.lane_kernels.specs.Numbers.{FitsWidth, width_of}
use Rattle.region_tree.specs.declared.tree.RootId.{RootId}
use Rattle.regent_tree.specs.declared.outcome.RootImage.{RootImage}
use Rattle.regent_tree.specs.Laws.{shape_of}
use Rattle.task_code.specs.declared.code.Code.{Code}
use Rattle.machine_terms.specs.declared.order.Contents.{Contents}
use Rattle.machine_terms.specs.declared.order.Root.{Root}
use Rattle.machine_terms.specs.Contents.{closed, image_in, image_of, kinds_of}
use Rattle.memory_laws.specs.Closing.{AreOwn}
use Rattle.memory_laws.specs.Places.{column_of, numbers}
use Rattle.memory_laws.proofs.Closing.{first_left, ids_of, numbers_of}
use Rattle.memory_laws.proofs.Placing.{all_below, each_below}
use Rattle.board_rules.specs.Processes.{Map}
use Rattle.regent_boards.specs.RegentMachine.{regent_ground, root_of}
use Rattle.code_boards.specs.Views.{spaces_of}
use Rattle.order_boards.proofs.Stands.{IsLive, IsShaped, Stands, at, shown_live}

image_taken : (n : ℕ) (rs : List Root) (r : ℕ) → has (numbers_of (take n rs)) r ≡ true → image_in (take n rs) r ≡ image_in rs r
image_taken zero rs r e = absurd (false≢true e)
image_taken (suc n) [] r e = refl
image_taken (suc n) (k ∷ rs) r e = chosen (k.id.0 == r) refl (image_taken n rs r)
  where
    chosen : (b : Bool) → (k.id.0 == r) ≡ b → (has (numbers_of (take n rs)) r ≡ true → image_in (take n rs) r ≡ image_in rs r) → cond b k.image (image_in (take n rs) r) ≡ cond b k.image (image_in rs r)
    chosen true d more = refl
    chosen false d more = more (⊎_elim (λ q. absurd (eqb-false k.id.0 r d (sym q))) (λ q. q)
        (has-cons_cases r k.id.0 (numbers_of (take n rs)) e))

module _ (before : List ℕ) (own : List RootId) (d : Contents) (is : AreOwn before own d) (up : IsPoints d.made (numbers d)) where
  front : (closed own d).roots ≡ take (length before) d.roots
  front = first_left own before d.roots is up.rising

  pub left : numbers (closed own d) ≡ before
  left = ap numbers_of front ∙ sym (take-map (λ (r : Root). r.id.0) (length before) d.roots)
      ∙ ap (take (length before)) is ∙ take-append_seam before (ids_of own)

  -- a root that was there before is as it was
  pub image_left : (r : ℕ) → has before r ≡ true → image_of (closed own d) r ≡ image_of d r
  image_left r e = ap (λ rs. image_in rs r) front
      ∙ image_taken (length before) d.roots r (subst (λ rs. has (numbers_of rs) r ≡ true) front (subst (λ ns. has ns r ≡ true) (sym left) e))

  pub stands_closed : (code : Code) (who : ℕ → ℕ) (n k : ℕ) (m : Map (regent_ground (spaces_of code))) → IsPoints k before → k ≤ d.made →
      ((r : ℕ) → has before r ≡ true → has (numbers d) r ≡ true) → Stands code who n d m → Stands code who n (closed own d) m
  stands_closed code who n k m first more there s =
      let live : (r : ℕ) → IsLive (closed own d) r → has before r ≡ true = λ r l. subst (λ ns. has ns r ≡ true) left l in
      let image : (r f p : ℕ) → p < length (column_of (closed own d) r f) → image_of (closed own d) r ≡ image_of d r =
      λ r f p l. image_left r (live r (shown_live (closed own d) r f p l)) in
      let shown : (r f p : ℕ) → p < length (column_of (closed own d) r f) → p < length (column_of d r f) =
      λ r f p l. subst (λ (i : RootImage). p < length (get_or i.fields f [])) (image r f p l) l in record {
        below = s.below;
        rising = s.rising;
        numbered = subst (IsPoints d.made) (sym left) (record {
          rising = first.rising;
          below = all_below d.made before (λ x e. omega (arith, more, each_below k before first.below x e));
        });
        shaped = λ r l. subst (λ i. IsShaped code (shape_of i)) (sym (image_left r (live r l))) (s.shaped r (there r (live r l)));
        same = λ r f p l. ap (λ (i : RootImage). get_or (get_or i.fields f []) p (pos 0)) (image r f p l) ∙ s.same r f p (shown r f p l)
            ∙ ap (λ (i : RootImage). m (at (root_of i.space i.count (who r)) f p)) (sym (image r f p l));
        fits = λ r f p l. subst (λ (i : RootImage). FitsWidth (width_of (get_or (kinds_of code i.space) f Truth)) (get_or (get_or i.fields f []) p (pos 0)))
            (sym (image r f p l)) (s.fits r f p (shown r f p l));
      }
