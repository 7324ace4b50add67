-- A root that is opened and closed again.
use Rattle.std.specs.Prelude.{◌==◌, not}
use Rattle.std.proofs.Common.{◌≡◌, ◌∙◌, ℕ, Bool, true, false, List, [], ◌∷◌, All, ap, arith, cond, inl, inr, map, refl}
use Rattle.std.proofs.lemmas.Bool.{ne_eqb}
use Rattle.std.proofs.lemmas.Bool.Decides.{eqb_tells}
use Rattle.std.proofs.lemmas.List.Elements.{All-head, All-tail}
use Rattle.lane_kernels.specs.declared.numbers.FieldKind.{FieldKind}
use Rattle.logical_map.specs.Maps.{LogicalMap, closed, is_root, new_column, opened}
use Rattle.board_gives.specs.Makes.{IsRootBelow}

same_number : (n : ℕ) → (n == n) ≡ true
same_number n = elim (eqb_tells n n) [ inl h ↦ h.0 | inr h ↦ absurd (h.1 refl) ]

pub closed_opened : (root : ℕ) (points : List ℕ) (kinds : List FieldKind) (roots : LogicalMap) → All (IsRootBelow root) roots →
    closed root (opened root points kinds roots) ≡ roots
closed_opened root points kinds [] a =
    ap (λ (b : Bool). cond (not b) (record { root = root; columns = map (new_column points) kinds } ∷ []) []) (same_number root)
closed_opened root points kinds (r ∷ rs) a =
    let other : is_root root r ≡ false = ne_eqb r.root root (λ e. omega (arith, e, All-head (IsRootBelow root) r rs a)) in
    ap (λ (b : Bool). cond (not b) (r ∷ closed root (opened root points kinds rs)) (closed root (opened root points kinds rs))) other
    ∙ ap (λ (us : LogicalMap). r ∷ us) (closed_opened root points kinds rs (All-tail (IsRootBelow root) r rs a))
