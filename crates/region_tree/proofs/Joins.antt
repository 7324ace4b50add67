-- Joins of modes.
use Rattle.std.proofs.Common.{◌≡◌, ℕ, suc, zero, ◌<◌, true, false, ◌&&◌, cond, ⊎_elim, Option, Some}
use Rattle.std.proofs.Common.{None, List, [], ◌∷◌, length, get_or, map, filter, refl, sym, ap, ◌∙◌}
use Rattle.std.proofs.Common.{arith}
use Rattle.std.proofs.lemmas.Bool.{cond-true, cond-false, cases_Bool, false≢true}
use Rattle.std.specs.List.{list_all}
use Rattle.lane_kernels.specs.Modes.{joined}
use Rattle.lane_kernels.specs.declared.numbers.Mode.{Mode}
use Rattle.lane_kernels.specs.declared.numbers.Mode.TheVariants.{Read, Write, Reduce}
use Rattle.lane_kernels.proofs.SameOps.{same_op-itself, same_op-tells}
use Rattle.region_tree.specs.Requirements.{Requirement, is_at, modes_at, join_onto, join_from}
use Rattle.region_tree.specs.Requirements.{same_mode}

-- ---- equal modes

pub same_mode-itself : (m : Mode) → same_mode m m ≡ true
same_mode-itself Read = refl
same_mode-itself Write = refl
same_mode-itself (Reduce p) = same_op-itself p

pub same_mode-tells : (m n : Mode) → same_mode m n ≡ true → m ≡ n
same_mode-tells Read Read e = refl
same_mode-tells Write Write e = refl
same_mode-tells (Reduce p) (Reduce q) e = ap Reduce (same_op-tells p q e)
same_mode-tells Read Write e = absurd (false≢true e)
same_mode-tells Read (Reduce q) e = absurd (false≢true e)
same_mode-tells Write Read e = absurd (false≢true e)
same_mode-tells Write (Reduce q) e = absurd (false≢true e)
same_mode-tells (Reduce p) Read e = absurd (false≢true e)
same_mode-tells (Reduce p) Write e = absurd (false≢true e)

-- ---- the join of two

pub joined_is : (m n : Mode) → joined m n ≡ cond (same_mode m n) m Write
joined_is Read Read = refl
joined_is Write Write = refl
joined_is (Reduce p) (Reduce q) = refl
joined_is Read Write = refl
joined_is Read (Reduce q) = refl
joined_is Write Read = refl
joined_is Write (Reduce q) = refl
joined_is (Reduce p) Read = refl
joined_is (Reduce p) Write = refl

pub joined-itself : (m : Mode) → joined m m ≡ m
joined-itself m = joined_is m m ∙ cond-true (same_mode m m) m Write (same_mode-itself m)

joined-Write : (m : Mode) → joined m Write ≡ Write
joined-Write Read = refl
joined-Write Write = refl
joined-Write (Reduce p) = refl

Write-joined : (m : Mode) → joined Write m ≡ Write
Write-joined Read = refl
Write-joined Write = refl
Write-joined (Reduce p) = refl

pub onto_Write : (o : Option Mode) → join_onto o Write ≡ Some Write
onto_Write None = refl
onto_Write (Some n) = ap Some (joined-Write n)

-- ---- the join of a list

pub from_Write : (ms : List Mode) → join_from (Some Write) ms ≡ Some Write
from_Write [] = refl
from_Write (m ∷ ms) = ap (λ n. join_from (Some n) ms) (Write-joined m) ∙ from_Write ms

-- all the same, or Write
pub from_Some : (m : Mode) (ms : List Mode) →
    join_from (Some m) ms ≡ Some (cond (list_all (same_mode m) ms) m Write)
from_Some m [] = refl
from_Some m (n ∷ ms) =
    ⊎_elim (λ e. ap (λ k. join_from (Some k) ms)
    (joined_is m n ∙ cond-true (same_mode m n) m Write e) ∙ from_Some m ms ∙
    ap (λ b. Some (cond (b && list_all (same_mode m) ms) m Write)) (sym e))
    (λ e. ap (λ k. join_from (Some k) ms)
    (joined_is m n ∙ cond-false (same_mode m n) m Write e) ∙ from_Write ms ∙
    ap (λ b. Some (cond (b && list_all (same_mode m) ms) m Write)) (sym e))
    (cases_Bool (same_mode m n))

-- ---- the modes at a point

pub modes_at-cons : (r : Requirement) (rs : List Requirement) (root field point : ℕ) →
    modes_at (r ∷ rs) root field point ≡ cond (is_at root field point r)
    (r.mode ∷ modes_at rs root field point) (modes_at rs root field point)
modes_at-cons r rs root field point =
    ⊎_elim (λ e. ap (map (λ (x : Requirement). x.mode))
    (cond-true (is_at root field point r) (r ∷ filter (is_at root field point) rs)
    (filter (is_at root field point) rs) e) ∙
    sym (cond-true (is_at root field point r) (r.mode ∷ modes_at rs root field point)
    (modes_at rs root field point) e)) (λ e. ap (map (λ (x : Requirement). x.mode))
    (cond-false (is_at root field point r) (r ∷ filter (is_at root field point) rs)
    (filter (is_at root field point) rs) e) ∙
    sym (cond-false (is_at root field point r) (r.mode ∷ modes_at rs root field point)
    (modes_at rs root field point) e)) (cases_Bool (is_at root field point r))

pub modes_at-here : (r : Requirement) (rs : List Requirement) (root field point : ℕ) →
    is_at root field point r ≡ true → modes_at (r ∷ rs) root field point ≡ r.mode ∷ modes_at rs root
    field point
modes_at-here r rs root field point e =
    modes_at-cons r rs root field point ∙
    cond-true (is_at root field point r) (r.mode ∷ modes_at rs root field point)
    (modes_at rs root field point) e

pub modes_at-not : (r : Requirement) (rs : List Requirement) (root field point : ℕ) →
    is_at root field point r ≡ false → modes_at (r ∷ rs) root field point ≡ modes_at rs root field
    point
modes_at-not r rs root field point e =
    modes_at-cons r rs root field point ∙
    cond-false (is_at root field point r) (r.mode ∷ modes_at rs root field point)
    (modes_at rs root field point) e

-- a requirement that writes the point makes Write of all
pub join-with_writer : (rs : List Requirement) (i : ℕ) (d : Requirement) (root field point : ℕ)
    (o : Option Mode) → i < length rs → is_at root field point (get_or rs i d) ≡ true →
    (get_or rs i d).mode ≡ Write → join_from o (modes_at rs root field point) ≡ Some Write
join-with_writer [] i d root field point o l at w = absurd (omega arith)
join-with_writer (r ∷ rs) zero d root field point o l at w =
    ap (join_from o) (modes_at-here r rs root field point at) ∙
    ap (λ m. join_from (join_onto o m) (modes_at rs root field point)) w ∙
    ap (λ n. join_from n (modes_at rs root field point)) (onto_Write o) ∙
    from_Write (modes_at rs root field point)
join-with_writer (r ∷ rs) (suc i) d root field point o l at w =
    ⊎_elim (λ e. ap (join_from o) (modes_at-here r rs root field point e) ∙
    join-with_writer rs i d root field point (join_onto o r.mode) (omega arith) at w)
    (λ e. ap (join_from o) (modes_at-not r rs root field point e) ∙
    join-with_writer rs i d root field point o (omega arith) at w)
    (cases_Bool (is_at root field point r))
