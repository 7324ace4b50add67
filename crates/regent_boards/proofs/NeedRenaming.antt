-- Region requirements whose roots have other numbers, no two of them the same.
use Rattle.std.proofs.Common.{◌≡◌, ◌∙◌, ◌&&◌, ◌||◌, ◌==◌, Bool, List, None, [], ◌∷◌, ap, cond, filter, map, refl, ℕ}
use Rattle.std.specs.List.{list_all, list_any}
use Rattle.plain_values.specs.Points.{has, union_of}
use Rattle.lane_kernels.specs.Modes.{in_conflict}
use Rattle.lane_kernels.specs.declared.numbers.Mode.{Mode as FieldMode}
use Rattle.region_tree.specs.Requirements.{Requirement, all_modes, conflict, covers, interfere, is_at, is_subsumed, is_mode, is_of, is_within, join_from, mode_at, modes_at, part_of, part_of_mode, parts_of_modes, points_joined, points_required}
use Rattle.board_laws.proofs.Reaching.{by_test}

abbrev pub moved : (ℕ → ℕ) → Requirement → Requirement
moved to r = record { root = to r.root; points = r.points; field = r.field; mode = r.mode }

module _ (to : ℕ → ℕ) (same : (a b : ℕ) → (to a == to b) ≡ (a == b)) where
  conflict_to : (a b : Requirement) → conflict (moved to a) (moved to b) ≡ conflict a b
  conflict_to a b = λ i. same a.root b.root i && (a.field == b.field) && in_conflict a.mode b.mode && Rattle.plain_values.specs.Points.meets a.points b.points

  any_to : (f g : Requirement → Bool) → ((r : Requirement) → f (moved to r) ≡ g r) → (rs : List Requirement) → list_any f (map (moved to) rs) ≡ list_any g rs
  any_to f g h [] = refl
  any_to f g h (r ∷ rs) = λ i. h r i || any_to f g h rs i

  all_to : (f g : Requirement → Bool) → ((r : Requirement) → f (moved to r) ≡ g r) → (rs : List Requirement) → list_all f (map (moved to) rs) ≡ list_all g rs
  all_to f g h [] = refl
  all_to f g h (r ∷ rs) = λ i. h r i && all_to f g h rs i

  pub interfere_to : (a b : List Requirement) → interfere (map (moved to) a) (map (moved to) b) ≡ interfere a b
  interfere_to a b = any_to (λ x. list_any (conflict x) (map (moved to) b)) (λ x. list_any (conflict x) b) (λ r. any_to (conflict (moved to r)) (conflict r) (conflict_to r) b) a

  of_to : (root field : ℕ) (r : Requirement) → is_of (to root) field (moved to r) ≡ is_of root field r
  of_to root field r = λ i. same r.root root i && (r.field == field)

  modes_to : (root field p : ℕ) (N : List Requirement) → modes_at (map (moved to) N) (to root) field p ≡ modes_at N root field p
  modes_to root field p [] = refl
  modes_to root field p (r ∷ N) =
      (λ i. map (λ (x : Requirement). x.mode) (cond (of_to root field r i && has r.points p) (moved to r ∷ filter (is_at (to root) field p) (map (moved to) N)) (filter (is_at (to root) field p) (map (moved to) N))))
      ∙ by_test (is_at root field p r) (λ b. map (λ (x : Requirement). x.mode) (cond b (moved to r ∷ filter (is_at (to root) field p) (map (moved to) N)) (filter (is_at (to root) field p) (map (moved to) N)))
      ≡ map (λ (x : Requirement). x.mode) (cond b (r ∷ filter (is_at root field p) N) (filter (is_at root field p) N)))
      (λ e. ap (λ ms. r.mode ∷ ms) (modes_to root field p N)) (λ e. modes_to root field p N)

  pub mode_to : (root field p : ℕ) (N : List Requirement) → mode_at (map (moved to) N) (to root) field p ≡ mode_at N root field p
  mode_to root field p N = ap (join_from None) (modes_to root field p N)

  pub within_to : (a b : List Requirement) → is_within (map (moved to) a) (map (moved to) b) ≡ is_within a b
  within_to a b = all_to (covers (map (moved to) a) (map (moved to) b)) (covers a b) (λ r i. list_all (λ p. is_subsumed (mode_to r.root r.field p a i) (mode_to r.root r.field p b i)) r.points) a

  required_to : (root field : ℕ) (N : List Requirement) → points_required (map (moved to) N) (to root) field ≡ points_required N root field
  required_to root field [] = refl
  required_to root field (r ∷ N) = λ i. cond (of_to root field r i) (union_of r.points (required_to root field N i)) (required_to root field N i)

  joined_to : (root field : ℕ) (m : FieldMode) (N : List Requirement) → points_joined (map (moved to) N) (to root) field m ≡ points_joined N root field m
  joined_to root field m N = λ i. filter (λ p. is_mode m (mode_to root field p N i)) (required_to root field N i)

  parts_to : (root field : ℕ) (N : List Requirement) (ms : List FieldMode) → parts_of_modes (map (moved to) N) (to root) field ms ≡ parts_of_modes N root field ms
  parts_to root field N [] = refl
  parts_to root field N (m ∷ ms) = λ i. part_of_mode (joined_to root field m N i) m (parts_to root field N ms i)

  pub part_to : (root field : ℕ) (N : List Requirement) → part_of (map (moved to) N) (to root) field ≡ part_of N root field
  part_to root field N = parts_to root field N all_modes

  pub filter_to : (root field : ℕ) (N : List Requirement) → filter (is_of (to root) field) (map (moved to) N) ≡ map (moved to) (filter (is_of root field) N)
  filter_to root field [] = refl
  filter_to root field (r ∷ N) = (λ i. cond (of_to root field r i) (moved to r ∷ filter_to root field N i) (filter_to root field N i))
      ∙ by_test (is_of root field r) (λ b. cond b (moved to r ∷ map (moved to) (filter (is_of root field) N)) (map (moved to) (filter (is_of root field) N)) ≡ map (moved to) (cond b (r ∷ filter (is_of root field) N) (filter (is_of root field) N)))
      (λ e. refl) (λ e. refl)
