-- Roots that are of field spaces: new ones are, and they stay so.
use Rattle.std.proofs.Common.{◌≡◌, ◌∙◌, Bool, List, [], ◌∷◌, ◌++◌, true, refl, ap, sym, subst, ℕ, suc, ◌<◌, ◌≤◌, arith, ⊎_elim, map}
use Rattle.std.specs.Prelude.{get_or, length, nat_lt, replicate, ◌&&◌, ◌==◌}
use Rattle.std.specs.List.{list_all}
use Rattle.std.proofs.lemmas.Bool.{cases_lt, eq-eqb, lt-ltb}
use Rattle.std.proofs.lemmas.List.{length-append, length-map, length-replicate}
use Rattle.std.proofs.Math.ListN.{get_or-append}
use Rattle.std.proofs.Math.Seq.{get_or-append_seam}
use Rattle.std.proofs.lemmas.List.Folds.{list_all-map}
use Rattle.lane_kernels.specs.declared.numbers.FieldKind.{FieldKind}
use Rattle.regent_tree.specs.Laws.{SameRoots, Shape, shape_of}
use Rattle.regent_tree.specs.Store.{Store, new_root, no_root}
use Rattle.regent_tree.specs.Values.{kept_zero}
use Rattle.regent_tree.specs.declared.outcome.RootImage.{RootImage}
use Rattle.task_code.specs.declared.code.Code.{Code}
use Rattle.task_code.specs.declared.code.FieldCode.{FieldCode}
use Rattle.task_code.specs.declared.code.SpaceCode.{SpaceCode}
use Rattle.machine_terms.specs.Contents.{kinds_of, no_space}
use Rattle.memory_laws.proofs.Shapes.{shapes_at}
use Rattle.run_report.specs.Dumps.{has_points, is_of_space}

-- ---- by shapes

-- whether a shape is of a field space
abbrev fits_shape : List SpaceCode → Shape → Bool
fits_shape spaces s = nat_lt s.space (length spaces)
    && (length s.lengths == length (get_or spaces s.space no_space).fields && list_all (λ n. n == s.count) s.lengths)

by_shape : (spaces : List SpaceCode) (r : RootImage) → is_of_space spaces r ≡ fits_shape spaces (shape_of r)
by_shape spaces r =
    ap (λ b. nat_lt r.space (length spaces) && (length r.fields == length (get_or spaces r.space no_space).fields && b)) (sym (list_all-map (λ n. n == r.count) length r.fields))
    ∙ ap (λ n. nat_lt r.space (length spaces) && (n == length (get_or spaces r.space no_space).fields && list_all (λ k. k == r.count) (map length r.fields)))
    (sym (length-map r.fields length))

-- ---- stores

-- each root from a place on is of a field space
abbrev pub AreShaped : List SpaceCode → ℕ → Store → Type 0
AreShaped spaces from store = (place : ℕ) → from ≤ place → place < length store → is_of_space spaces (get_or store place no_root) ≡ true

pub shaped_stays : (spaces : List SpaceCode) (from : ℕ) (store after : Store) → SameRoots store after → AreShaped spaces from store → AreShaped spaces from after
shaped_stays spaces from store after same are place low there =
    by_shape spaces (get_or after place no_root) ∙ ap (fits_shape spaces) (shapes_at store after place same)
    ∙ sym (by_shape spaces (get_or store place no_root))
    ∙ are place low (subst (λ n. place < n) (sym (length-map after shape_of) ∙ ap length same ∙ length-map store shape_of) there)

zeros_long : (size : ℕ) (kinds : List FieldKind) → has_points size (map (λ k. replicate size (kept_zero k)) kinds) ≡ true
zeros_long size [] = refl
zeros_long size (k ∷ kinds) =
    ap (λ b. b && has_points size (map (λ k. replicate size (kept_zero k)) kinds))
    (eq-eqb (length (replicate size (kept_zero k))) size (length-replicate size (kept_zero k))) ∙ zeros_long size kinds

pub new_shaped : (code : Code) (sp size : ℕ) → sp < length code.spaces → is_of_space code.spaces (new_root sp size (kinds_of code sp)) ≡ true
new_shaped code sp size low =
    let kinds = kinds_of code sp in
    let fields = (get_or code.spaces sp no_space).fields in
    ap (λ b. b && (length (new_root sp size kinds).fields == length fields && has_points size (new_root sp size kinds).fields)) (lt-ltb sp (length code.spaces) low)
    ∙ ap (λ b. b && has_points size (new_root sp size kinds).fields) (eq-eqb (length (new_root sp size kinds).fields) (length fields)
    (length-map kinds (λ k. replicate size (kept_zero k)) ∙ length-map fields (λ (f : FieldCode). f.kind)))
    ∙ zeros_long size kinds

pub shaped_more : (spaces : List SpaceCode) (from : ℕ) (store : Store) (image : RootImage) → is_of_space spaces image ≡ true → AreShaped spaces from store →
    AreShaped spaces from (store ++ image ∷ [])
shaped_more spaces from store image is are place low there = ⊎_elim
    (λ h. ap (is_of_space spaces) (get_or-append store (image ∷ []) no_root place h) ∙ are place low h)
    (λ h. let at : place ≡ length store = omega (arith, h, there, length-append store (image ∷ [])) in
    ap (λ n. is_of_space spaces (get_or (store ++ image ∷ []) n no_root)) at
    ∙ ap (is_of_space spaces) (get_or-append_seam store image [] no_root) ∙ is)
    (cases_lt place (length store))

-- so all of them are
pub all_shaped : (spaces : List SpaceCode) (store : Store) → AreShaped spaces 0 store → list_all (is_of_space spaces) store ≡ true
all_shaped spaces [] are = refl
all_shaped spaces (r ∷ rs) are =
    ap (λ b. b && list_all (is_of_space spaces) rs) (are 0 (omega (arith)) (omega (arith)))
    ∙ all_shaped spaces rs (λ place low there. are (suc place) (omega (arith)) (omega (arith, there)))
