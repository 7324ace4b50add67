-- Needs of a root that was made, behind those that were there.
use Rattle.std.proofs.Common.{◌≡◌, ⊎_elim, ℕ, zero, suc, ◌<◌, List, [], ◌∷◌, ◌++◌, Bool, true, false, Some, None, refl, sym, ap, ◌∙◌, arith}
use Rattle.std.specs.Prelude.{length, cond, filter, map, ◌==◌, ◌&&◌, ◌||◌}
use Rattle.std.proofs.lemmas.Bool.{and_parts, cases_lt, or_right, eqb-true, eqb-false, eq-eqb}
use Rattle.std.proofs.lemmas.List.{append_assoc, append-nil, length-append}
use Rattle.std.proofs.Math.Seq.{get_or-append_seam}
use Rattle.std.proofs.lemmas.List.Elements.{filter-append, filter_agree}
use Rattle.std.proofs.lemmas.List.Folds.{list_any-append}
use Rattle.std.proofs.lemmas.Option.{none-some}
use Rattle.plain_values.specs.Points.{has, union_of}
use Rattle.lane_kernels.specs.declared.numbers.Mode.{Mode}
use Rattle.lane_kernels.specs.declared.numbers.Mode.TheVariants.{Write}
use Rattle.region_tree.specs.declared.needs.Need.{Need}
use Rattle.region_tree.specs.Requirements.{Requirement, all_modes, is_at, is_mode, is_of, join_from, mode_at, part_of, part_of_mode, parts_of_modes, points_joined, points_required}
use Rattle.region_tree.proofs.Joins.{join-with_writer}
use Rattle.machine_terms.specs.Makes.{root_needs, root_requirements}
use Rattle.machine_terms.specs.Parts.{is_needed}

-- ---- one requirement more, of another field or root

module _ (rs : List Requirement) (x : Requirement) (r f : ℕ) where
  mode_beside : (p : ℕ) → is_at r f p x ≡ false → mode_at (rs ++ x ∷ []) r f p ≡ mode_at rs r f p
  mode_beside p e = ap (λ xs. join_from None (map (λ r. r.mode) xs))
      (filter-append (is_at r f p) rs (x ∷ [])
      ∙ ap (λ b. filter (is_at r f p) rs ++ cond b (x ∷ []) []) e ∙ append-nil (filter (is_at r f p) rs))

  points_beside : is_of r f x ≡ false → points_required (rs ++ x ∷ []) r f ≡ points_required rs r f
  points_beside e = by rs
    where
      by : (rs : List Requirement) → points_required (rs ++ x ∷ []) r f ≡ points_required rs r f
      by [] = ap (λ b. cond b (union_of x.points []) []) e
      by (q ∷ rs) = ap (λ ps. cond (is_of r f q) (union_of q.points ps) ps) (by rs)

  parts_beside : is_of r f x ≡ false → part_of (rs ++ x ∷ []) r f ≡ part_of rs r f
  parts_beside e = by all_modes
    where
      joined : (m : Mode) → points_joined (rs ++ x ∷ []) r f m ≡ points_joined rs r f m
      joined m = ap (filter (λ p. is_mode m (mode_at (rs ++ x ∷ []) r f p))) (points_beside e)
          ∙ filter_agree (λ p. is_mode m (mode_at (rs ++ x ∷ []) r f p)) (λ p. is_mode m (mode_at rs r f p))
          (λ p. ap (is_mode m) (mode_beside p (ap (λ b. b && has x.points p) e))) (points_required rs r f)

      by : (ms : List Mode) → parts_of_modes (rs ++ x ∷ []) r f ms ≡ parts_of_modes rs r f ms
      by [] = refl
      by (m ∷ ms) = ap (λ ps. part_of_mode ps m (parts_of_modes (rs ++ x ∷ []) r f ms)) (joined m)
          ∙ ap (part_of_mode (points_joined rs r f m) m) (by ms)

-- ---- the requirements of a new root

abbrev new_need : ℕ → List ℕ → ℕ → Requirement
new_need root xs field = record { root = root; points = xs; field = field; mode = Write }

module _ (rs : List Requirement) (root : ℕ) (xs : List ℕ) where
  abbrev pub all_needs : ℕ → List Requirement
  all_needs n = rs ++ root_requirements root xs n

  one_need : (n : ℕ) → all_needs (suc n) ≡ all_needs n ++ new_need root xs n ∷ []
  one_need n = sym (append_assoc rs (root_requirements root xs n) (new_need root xs n ∷ []))

  module _ (r f : ℕ) (ne : (root == r) ≡ false) where
    pub parts_other : (n : ℕ) → part_of (all_needs n) r f ≡ part_of rs r f
    parts_other zero = ap (λ rs. part_of rs r f) (append-nil rs)
    parts_other (suc n) = ap (λ rs. part_of rs r f) (one_need n)
        ∙ parts_beside (all_needs n) (new_need root xs n) r f (ap (λ b. b && (n == f)) ne) ∙ parts_other n

    pub mode_other : (n p : ℕ) → mode_at (all_needs n) r f p ≡ mode_at rs r f p
    mode_other zero p = ap (λ rs. mode_at rs r f p) (append-nil rs)
    mode_other (suc n) p = ap (λ rs. mode_at rs r f p) (one_need n)
        ∙ mode_beside (all_needs n) (new_need root xs n) r f p (ap (λ b. b && (n == f) && has xs p) ne)
        ∙ mode_other n p

  -- what is needed of it is a field of it at one of its points
  pub mode_new : (f p : ℕ) (m : Mode) → mode_at rs root f p ≡ None → (n : ℕ) →
      mode_at (all_needs n) root f p ≡ Some m → (f < n) × (has xs p ≡ true)
  mode_new f p m none zero e = absurd (none-some m (sym none ∙ sym (ap (λ rs. mode_at rs root f p) (append-nil rs)) ∙ e))
  mode_new f p m none (suc n) e = chosen (is_at root f p (new_need root xs n)) refl (mode_new f p m none n)
    where
      chosen : (b : Bool) → is_at root f p (new_need root xs n) ≡ b →
          (mode_at (all_needs n) root f p ≡ Some m → (f < n) × (has xs p ≡ true)) →
          (f < suc n) × (has xs p ≡ true)
      chosen true q more =
          let a = and_parts ((root == root) && (n == f)) (has xs p) q in
          let same = eqb-true n f (and_parts (root == root) (n == f) a.0).1 in
          (omega (arith, same), a.1)
      chosen false q more =
          let at = more
          (sym (mode_beside (all_needs n) (new_need root xs n) root f p q) ∙ sym (ap (λ rs. mode_at rs root f p) (one_need n)) ∙ e) in
          (omega (arith, at.0), at.1)

  -- and each field is needed for writing at all of them
  pub mode_written : (f p : ℕ) → has xs p ≡ true → (n : ℕ) → f < n → mode_at (all_needs n) root f p ≡ Some Write
  mode_written f p h zero l = absurd (omega (arith, l))
  mode_written f p h (suc n) l =
      ap (λ rs. mode_at rs root f p) (one_need n) ∙ chosen (n == f) refl (mode_written f p h n)
    where
      chosen : (b : Bool) → (n == f) ≡ b → (f < n → mode_at (all_needs n) root f p ≡ Some Write) →
          mode_at (all_needs n ++ new_need root xs n ∷ []) root f p ≡ Some Write
      chosen true e more =
          let x = new_need root xs n in
          let seam = get_or-append_seam (all_needs n) x [] x in
          join-with_writer (all_needs n ++ x ∷ []) (length (all_needs n)) x root f p None
          (omega (arith, length-append (all_needs n) (x ∷ [])))
          (ap (is_at root f p) seam ∙ ap (λ b. b && (n == f) && has xs p) (eq-eqb root root refl)
          ∙ ap (λ b. b && has xs p) e ∙ h) (ap (λ (r : Requirement). r.mode) seam)
      chosen false e more = mode_beside (all_needs n) (new_need root xs n) root f p
          (ap (λ b. b && (n == f) && has xs p) (eq-eqb root root refl) ∙ ap (λ b. b && has xs p) e)
          ∙ more (⊎_elim (λ k. k) (λ k. absurd (eqb-false n f e (omega (arith, k, l)))) (cases_lt f n))

-- ---- and its needs in the frame

abbrev is_for : ℕ → ℕ → Need → Bool
is_for root f n = (n.root.0 == root) && (n.field == f)

pub needed_still : (items more : List Need) (root f : ℕ) → is_needed items root f ≡ true → is_needed (items ++ more) root f ≡ true
needed_still items more root f e = list_any-append (is_for root f) items more
    ∙ ap (λ b. b || is_needed more root f) e

is_there : (root f n : ℕ) → f < n → is_needed (root_needs root n) root f ≡ true
is_there root f zero l = absurd (omega (arith, l))
is_there root f (suc n) l = list_any-append (is_for root f) (root_needs root n) _ ∙ chosen (n == f) refl (is_there root f n)
  where
    chosen : (b : Bool) → (n == f) ≡ b → (f < n → is_needed (root_needs root n) root f ≡ true) →
        (is_needed (root_needs root n) root f || (((root == root) && (n == f)) || false)) ≡ true
    chosen true e more = or_right (is_needed (root_needs root n) root f) _
        (ap (λ b. (b && (n == f)) || false) (eq-eqb root root refl) ∙ ap (λ b. b || false) e)
    chosen false e more = ap (λ b. b || (((root == root) && (n == f)) || false))
        (more (⊎_elim (λ k. k) (λ k. absurd (eqb-false n f e (omega (arith, k, l)))) (cases_lt f n)))

pub needed_new : (items : List Need) (root f n : ℕ) → f < n → is_needed (items ++ root_needs root n) root f ≡ true
needed_new items root f n l = list_any-append (is_for root f) items (root_needs root n)
    ∙ or_right (is_needed items root f) (is_needed (root_needs root n) root f) (is_there root f n l)
