-- What the roots hold where an instance's own ones are closed, and where all is given back.
use Rattle.std.proofs.Common.{◌≡◌, ◌⊎◌, inl, inr, ⊎_elim, ℕ, zero, suc, ◌<◌, ◌≤◌, ℤ, pos, List, All, [], ◌∷◌, ◌++◌, Bool, true, false, refl, sym, ap, ◌∙◌, subst, arith}
use Rattle.std.specs.Prelude.{cond, get_or, length, map, take, ◌==◌, ◌||◌}
use Rattle.std.specs.List.Sorted.{IsStrictlyIncreasing}
use Rattle.std.proofs.lemmas.Bool.{cases_lt}
use Rattle.std.proofs.lemmas.List.{ext_get_or, get_or_default, get_or-take, length-append, length-map, length-take-le, take-map}
use Rattle.std.proofs.lemmas.Simd.{map-map}
use Rattle.std.proofs.lemmas.List.Elements.{All-take}
use Rattle.std.proofs.Math.ListN.{get_or-eq_default, get_or-map}
use Rattle.std.proofs.Math.Seq.{take-append_seam}
use Rattle.plain_values.specs.Points.{IsPoints, has}
use Rattle.point_sets.proofs.Rising.{has-append, rising_cons, rising_head, rising_tail}
use Rattle.lane_kernels.specs.declared.numbers.FieldKind.{FieldKind}
use Rattle.lane_kernels.specs.declared.numbers.FieldKind.TheVariants.{Truth}
use Rattle.lane_kernels.specs.declared.numbers.Op.TheVariants.{Sum}
use Rattle.lane_kernels.specs.Numbers.{FitsWidth, width_of}
use Rattle.lane_kernels.proofs.Operators.{identity}
use Rattle.region_tree.specs.declared.tree.RootId.{RootId}
use Rattle.regent_tree.specs.declared.outcome.RootImage.{RootImage}
use Rattle.regent_tree.specs.declared.outcome.Ending.TheVariants.{Finished}
use Rattle.regent_tree.specs.Laws.{Shape, shape_of}
use Rattle.regent_tree.specs.Store.{no_root, read_at}
use Rattle.task_code.specs.declared.code.Code.{Code}
use Rattle.machine_terms.specs.declared.order.Contents.{Contents}
use Rattle.machine_terms.specs.declared.order.Root.{Root}
use Rattle.machine_terms.specs.Contents.{image_in, image_of, closed, kinds_of, kind_of}
use Rattle.memory_laws.specs.Closing.{ClosedStands, EndsWithStore}
use Rattle.memory_laws.specs.Giving.{AloneIsTheStore}
use Rattle.memory_laws.specs.Memory.{IsKept}
use Rattle.memory_laws.specs.Places.{numbers, number_at}
use Rattle.memory_laws.proofs.Closing.{first_left, numbers_of, ids_of}
use Rattle.memory_laws.proofs.Keeping.{root_below}
use Rattle.memory_laws.proofs.Shapes.{length_of}
use Rattle.memory_laws.proofs.Placing.{images, image_at}

-- ---- the front of the roots

rising_front : (xs ys : List ℕ) → IsStrictlyIncreasing (xs ++ ys) → IsStrictlyIncreasing xs
rising_front [] ys h = λ k l. absurd (omega (arith, l))
rising_front (x ∷ xs) ys h = rising_cons x xs
    (λ y e. rising_head x (xs ++ ys) h y (has-append xs ys y ∙ ap (λ b. b || has ys y) e))
    (rising_front xs ys (rising_tail x (xs ++ ys) h))

image_front : (n : ℕ) (rs : List Root) (root : ℕ) →
    (image_in (take n rs) root ≡ image_in rs root) ⊎ (image_in (take n rs) root ≡ no_root)
image_front zero rs root = inr refl
image_front (suc n) [] root = inl refl
image_front (suc n) (k ∷ rs) root = chosen (k.id.0 == root) (image_front n rs root)
  where
    chosen : (b : Bool) → (image_in (take n rs) root ≡ image_in rs root) ⊎ (image_in (take n rs) root ≡ no_root) →
        (cond b k.image (image_in (take n rs) root) ≡ cond b k.image (image_in rs root))
        ⊎ (cond b k.image (image_in (take n rs) root) ≡ no_root)
    chosen true more = inl refl
    chosen false more = more

-- ---- numbers of a root

-- the kind of a field, and its number at a point
abbrev pub kind_in : Code → RootImage → ℕ → FieldKind
kind_in code i f = get_or (kinds_of code i.space) f Truth

abbrev pub number_in : RootImage → ℕ → ℕ → ℤ
number_in i f p = get_or (get_or i.fields f []) p (pos 0)

abbrev pub Fits : Code → RootImage → Type 0
Fits code i = (f p : ℕ) → FitsWidth (width_of (kind_in code i f)) (number_in i f p)

pub no_root_fits : (code : Code) → Fits code no_root
no_root_fits code f p = subst (FitsWidth (width_of (kind_in code no_root f)))
    (sym (ap (λ zs. get_or zs p (pos 0)) (get_or-eq_default no_root.fields [] {n = f} (omega arith))
    ∙ get_or-eq_default {A = ℤ} [] (pos 0) {n = p} (omega arith))) (identity Sum (width_of (kind_in code no_root f))).0

-- ---- closing

pub closed_stands : ClosedStands
closed_stands code store c before own s is =
    let n = length before in
    let d = closed own c in
    let front : d.roots ≡ take n c.roots = first_left own before c.roots is s.numbered.rising in
    let ns : numbers d ≡ take n (numbers c) = ap numbers_of front ∙ sym (take-map (λ (r : Root). r.id.0) n c.roots) in
    let left : numbers d ≡ before = ns ∙ ap (take n) is ∙ take-append_seam before (ids_of own) in
    let long : n ≤ length c.roots = omega (
      arith,
      sym (length-map c.roots (λ (r : Root). r.id.0)) ∙ ap length is,
      length_both before (ids_of own),
    ) in
    let short : length (take n store) ≡ n = length-take-le n store (subst (λ k. n ≤ k) s.count long) in
    let numbered : IsPoints d.made (numbers d) = record {
      rising = subst IsStrictlyIncreasing (sym left) (rising_front before (ids_of own) (subst IsStrictlyIncreasing is s.numbered.rising));
      below = subst (All (λ x. x < c.made)) (sym ns) (All-take (λ x. x < c.made) n (numbers c) s.numbered.below);
    } in
    let at : (r : ℕ) → image_of d (number_at d r) ≡ get_or (take n (images c)) r no_root = λ r. image_at d r numbered
    ∙ ap (λ rs. get_or (map (λ (r : Root). r.image) rs) r no_root) front
    ∙ ap (λ is. get_or is r no_root) (sym (take-map (λ (r : Root). r.image) n c.roots)) in
    let same : (r : ℕ) → r < n → image_of d (number_at d r) ≡ image_of c (number_at c r) = λ r l.
    at r ∙ get_or-take n (images c) r no_root l ∙ sym (image_at c r s.numbered) in
    let stored = λ (r : ℕ) (l : r < n). get_or-take n store r no_root l in
    let low = λ (r f p : ℕ) (l : p < length (get_or (get_or (take n store) r no_root).fields f [])).
    subst (λ k. r < k) short (root_below (take n store) r f p l) in (
      record {
        count = ap length front ∙ length-take-le n c.roots long ∙ sym short;
        numbered = numbered;
        shape = λ r. ⊎_elim
            (λ l. ap shape_of (same r l) ∙ s.shape r ∙ ap shape_of (sym (stored r l)))
            (λ l. ap shape_of (at r
            ∙ get_or-eq_default (take n (images c)) no_root (omega (
              arith,
              l,
              length-take-le n (images c)
                  (subst (λ k. n ≤ k) (sym (length-map c.roots (λ (r : Root). r.image))) long),
            ))
            ∙ sym (get_or-eq_default (take n store) no_root (omega (arith, l, short)))))
            (cases_lt r n);
        same = λ r f p l. ap (λ i. number_in i f p) (stored r (low r f p l))
            ∙ s.same r f p (subst (λ (i : RootImage). p < length (get_or i.fields f [])) (stored r (low r f p l)) l)
            ∙ ap (λ i. number_in i f p) (sym (same r (low r f p l)));
        kept = λ r f p l. subst (λ i. IsKept (kind_in code i f) (read_at (take n store) r f p)) (sym (same r (low r f p l)))
            (subst (λ i. IsKept (kind_of code c (number_at c r) f) (number_in i f p)) (sym (stored r (low r f p l)))
            (s.kept r f p (subst (λ (i : RootImage). p < length (get_or i.fields f [])) (stored r (low r f p l)) l)));
        fits = λ r. ⊎_elim
            (λ e. subst (Fits code) (sym (ap (λ rs. image_in rs r) front ∙ e)) (s.fits r))
            (λ e. subst (Fits code) (sym (ap (λ rs. image_in rs r) front ∙ e)) (no_root_fits code))
            (image_front n c.roots r);
      },
      left,
    )
  where
    length_both : (xs ys : List ℕ) → length xs ≤ length (xs ++ ys)
    length_both xs ys = omega (arith, length-append xs ys)

-- ---- what stands alone is the store

same_root : (a b : RootImage) → a.space ≡ b.space → a.count ≡ b.count → a.fields ≡ b.fields → a ≡ b
same_root a b s n f = ap (λ k. record { space = k; count = a.count; fields = a.fields }) s
    ∙ ap (λ k. record { space = b.space; count = k; fields = a.fields }) n
    ∙ ap (λ k. record { space = b.space; count = b.count; fields = k }) f

pub alone_is_the_store : AloneIsTheStore
alone_is_the_store code store c s =
    ext_get_or no_root (images c) store (length-map c.roots (λ (r : Root). r.image) ∙ s.count)
    (λ r l. sym (image_at c r s.numbered) ∙ one r)
  where
    one : (r : ℕ) → image_of c (number_at c r) ≡ get_or store r no_root
    one r =
        let a = image_of c (number_at c r) in
        let b = get_or store r no_root in
        let e = s.shape r in
        same_root a b (ap (λ (s : Shape). s.space) e) (ap (λ (s : Shape). s.count) e)
        (ext_get_or [] a.fields b.fields
        (sym (length-map a.fields length) ∙ ap (λ (s : Shape). length s.lengths) e ∙ length-map b.fields length)
        (λ f k. ext_get_or (pos 0) (get_or a.fields f []) (get_or b.fields f []) (length_of a b f e)
        (λ p m. sym (s.same r f p (subst (λ n. p < n) (length_of a b f e) m)))))

-- each root by its number
images_by_number : (c : Contents) → IsPoints c.made (numbers c) → map (image_of c) (numbers c) ≡ images c
images_by_number c n = ext_get_or no_root (map (image_of c) (numbers c)) (images c)
    (length-map (numbers c) (image_of c) ∙ length-map c.roots (λ (r : Root). r.id.0)
    ∙ sym (length-map c.roots (λ (r : Root). r.image)))
    (λ r l. get_or_default (map (image_of c) (numbers c)) r no_root (image_of c c.made) l
    ∙ get_or-map (image_of c) (numbers c) r c.made ∙ image_at c r n)

pub ends_with_store : EndsWithStore
ends_with_store code store c own s is =
    ap Finished (sym (map-map (image_of c) (λ (r : RootId). r.0) own) ∙ ap (map (image_of c)) (sym is)
    ∙ images_by_number c s.numbered ∙ alone_is_the_store code store c s)
