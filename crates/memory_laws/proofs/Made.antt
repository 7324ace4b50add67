-- What the roots hold with one more, of zeros.
use Rattle.std.proofs.Common.{◌≡◌, ◌≢◌, ⊎_elim, ℕ, zero, suc, ◌<◌, ℤ, pos, List, [], ◌∷◌, ◌++◌, false, refl, sym, ap, ◌∙◌, subst, arith}
use Rattle.std.specs.Prelude.{cond, get_or, length, map, replicate, ◌==◌}
use Rattle.std.proofs.lemmas.Bool.{cases_lt, false≢true, ne_eqb, or_cases}
use Rattle.std.proofs.lemmas.Int.{ints}
use Rattle.std.proofs.lemmas.List.{get_or_default, get_or-replicate, length-map, length-replicate, map-append}
use Rattle.std.proofs.Math.ListN.{get_or-append, get_or-eq_default}
use Rattle.std.proofs.Math.Seq.{get_or-append_seam}
use Rattle.plain_values.specs.Points.{IsPoints, has}
use Rattle.point_sets.proofs.Rising.{Each, has-append, has-cons_cases, rising-append}
use Rattle.lane_kernels.specs.declared.numbers.FieldKind.{FieldKind}
use Rattle.lane_kernels.specs.declared.numbers.FieldKind.TheVariants.{Int32, Int64, Truth, Index, Pointer}
use Rattle.lane_kernels.specs.declared.numbers.Op.TheVariants.{Sum}
use Rattle.lane_kernels.specs.Numbers.{FitsWidth, width_of}
use Rattle.lane_kernels.proofs.Operators.{identity}
use Rattle.regent_tree.specs.declared.outcome.RootImage.{RootImage}
use Rattle.regent_tree.specs.Store.{new_root, no_root}
use Rattle.regent_tree.specs.Values.{kept_zero}
use Rattle.task_code.specs.declared.code.Code.{Code}
use Rattle.machine_terms.specs.declared.order.Contents.{Contents}
use Rattle.machine_terms.specs.declared.order.Root.{Root}
use Rattle.machine_terms.specs.Contents.{image_in, image_of, kinds_of, with_root}
use Rattle.memory_laws.specs.Memory.{IsKept}
use Rattle.memory_laws.specs.Places.{numbers, number_at}
use Rattle.memory_laws.proofs.Closed.{Fits}
use Rattle.memory_laws.proofs.Placing.{all_below, each_below, image_at, images}

-- ---- zeros

pub zero_kept : (k : FieldKind) → IsKept k (kept_zero k)
zero_kept Int32 = (omega (arith, ints), refl)
zero_kept Int64 = (omega (arith, ints), refl)
zero_kept Truth = (omega (arith, ints), refl)
zero_kept Index = (omega (arith, ints), refl)
zero_kept Pointer = (omega (arith, ints), refl)

abbrev pub zeros : ℕ → List FieldKind → List (List ℤ)
zeros size kinds = map (λ k. replicate size (kept_zero k)) kinds

pub zero_at : (kinds : List FieldKind) (size f p : ℕ) → p < length (get_or (zeros size kinds) f []) →
    get_or (get_or (zeros size kinds) f []) p (pos 0) ≡ kept_zero (get_or kinds f Truth)
zero_at [] size f p l = absurd (omega (arith, l))
zero_at (k ∷ kinds) size zero p l = get_or-replicate size p (kept_zero k) (pos 0)
    (subst (λ n. p < n) (length-replicate size (kept_zero k)) l)
zero_at (k ∷ kinds) size (suc f) p l = zero_at kinds size f p l

pub size_of : (kinds : List FieldKind) (size f : ℕ) → f < length kinds → length (get_or (zeros size kinds) f []) ≡ size
size_of [] size f l = absurd (omega (arith, l))
size_of (k ∷ kinds) size zero l = length-replicate size (kept_zero k)
size_of (k ∷ kinds) size (suc f) l = size_of kinds size f (omega (arith, l))

pub zeros_fit : (code : Code) (space size : ℕ) → Fits code (new_root space size (kinds_of code space))
zeros_fit code space size f p =
    let kinds = kinds_of code space in
    let column = get_or (zeros size kinds) f [] in
    let k = get_or kinds f Truth in
    ⊎_elim (λ l. subst (FitsWidth (width_of k)) (sym (zero_at kinds size f p l)) (zero_kept k).0)
    (λ l. subst (FitsWidth (width_of k)) (sym (get_or-eq_default column (pos 0) l)) (identity Sum (width_of k)).0)
    (cases_lt p (length column))

-- ---- the root with the others

image_other : (rs : List Root) (k : Root) (n : ℕ) → (k.id.0 == n) ≡ false →
    image_in (rs ++ k ∷ []) n ≡ image_in rs n
image_other [] k n e = ap (λ b. cond b k.image no_root) e
image_other (u ∷ rs) k n e = ap (cond (u.id.0 == n) u.image) (image_other rs k n e)

module _ (c : Contents) (image : RootImage) (n : IsPoints c.made (numbers c)) where
  abbrev pub d : Contents
  d = with_root image c

  pub numbers_more : numbers d ≡ numbers c ++ c.made ∷ []
  numbers_more = map-append (λ (r : Root). r.id.0) c.roots _

  pub numbered_more : IsPoints d.made (numbers d)
  numbered_more = subst (IsPoints d.made) (sym numbers_more) (record {
    rising = rising-append c.made (numbers c) (c.made ∷ []) low (λ y e. ⊎_elim (λ q. omega (arith, q)) (λ k. absurd (false≢true k)) (has-cons_cases y c.made [] e))
        n.rising (λ k l. absurd (omega (arith, l)));
    below = all_below d.made (numbers c ++ c.made ∷ []) (λ y e. ⊎_elim (λ k. omega (arith, low y k))
        (λ k. ⊎_elim (λ q. omega (arith, q)) (λ z. absurd (false≢true z)) (has-cons_cases y c.made [] k))
        (or_cases (has (numbers c) y) (has (c.made ∷ []) y) (sym (has-append (numbers c) (c.made ∷ []) y) ∙ e)));
  })
    where
      low : Each (λ y. y < c.made) (numbers c)
      low = each_below c.made (numbers c) n.below

  pub number_old : (r : ℕ) → r < length c.roots → number_at d r ≡ number_at c r
  number_old r l =
      let long : r < length (numbers c) = subst (λ k. r < k) (sym (length-map c.roots (λ (r : Root). r.id.0))) l in
      ap (λ ns. get_or ns r d.made) numbers_more
      ∙ get_or-append (numbers c) (c.made ∷ []) d.made r long
      ∙ get_or_default (numbers c) r d.made c.made long

  pub number_new : number_at d (length c.roots) ≡ c.made
  number_new = ap (λ k. get_or (numbers d) k d.made) (sym (length-map c.roots (λ (r : Root). r.id.0)))
      ∙ ap (λ ns. get_or ns (length (numbers c)) d.made) numbers_more
      ∙ get_or-append_seam (numbers c) c.made [] d.made

  -- roots of other numbers are as they were
  pub image_old : (root : ℕ) → root ≢ c.made → image_of d root ≡ image_of c root
  image_old root ne = image_other c.roots _ root (ne_eqb c.made root (λ q. ne (sym q)))

  pub images_more : (r : ℕ) → image_of d (number_at d r) ≡ get_or (images c ++ image ∷ []) r no_root
  images_more r = image_at d r numbered_more ∙ ap (λ is. get_or is r no_root) (map-append (λ (r : Root). r.image) c.roots _)

  pub image_made : image_of d c.made ≡ image
  image_made = ap (image_of d) (sym number_new) ∙ images_more (length c.roots)
      ∙ ap (λ k. get_or (images c ++ image ∷ []) k no_root) (sym (length-map c.roots (λ (r : Root). r.image)))
      ∙ get_or-append_seam (images c) image [] no_root
