-- Frames of the board, in the machine's terms: as a segment leaves them, and with what an instance is given.
use Rattle.std.proofs.Common.{◌≡◌, ℕ, zero, suc, ◌+◌, ℤ, pos, List, [], ◌∷◌, ◌++◌, Bool, true, false, cond, Option, Some, None, refl, sym, ap, ◌∙◌, map, arith, ◌==◌}
use Rattle.std.specs.Prelude.{length, nat_lt}
use Rattle.std.proofs.lemmas.Bool.{lt-ltb, ne_eqb}
use Rattle.std.proofs.lemmas.List.{map-append}
use Rattle.plain_values.specs.Points.{counted_from, points}
use Rattle.lane_kernels.specs.declared.numbers.Mode.TheVariants.{Write}
use Rattle.region_tree.specs.declared.needs.Need.{Need}
use Rattle.region_tree.specs.Requirements.{Requirement}
use Rattle.task_code.specs.declared.code.Code.{Code}
use Rattle.machine_terms.specs.declared.frame.Frame.{Frame}
use Rattle.machine_terms.specs.declared.value.RegionValue.{RegionValue}
use Rattle.machine_terms.specs.declared.value.Value.{Value}
use Rattle.machine_terms.specs.declared.value.Value.TheVariants as value
use Rattle.machine_terms.specs.Contents.{kinds_of}
use Rattle.machine_terms.specs.Makes.{fields_needed, region_with, root_needs, root_requirements}
use Rattle.machine_terms.specs.Machine.{Machine}
use Rattle.machine_terms.specs.Orders.{result_of, settled}
use Rattle.machine_terms.proofs.StepKinds.{Fixed}
use Rattle.regent_boards.specs.Frames as board
use Rattle.regent_boards.specs.RegentMachine.{fields_of, met_frame, met_value, needs_of_root, pushed_on, root_of}
use Rattle.segment_renaming.specs.Renaming.{frame_to, need_to, region_to, root_to, value_to}
use Rattle.segment_renaming.specs.Resuming.{awaited, with_partition, with_root}
use Rattle.code_boards.specs.Views.{frame_in, frame_out, need_in, needs_in, region_in, region_out, root_in, spaces_of, value_in, value_out}
use Rattle.order_boards.proofs.Needs.{pointed}
use Rattle.order_boards.proofs.Renumbering.{names}
use Rattle.order_boards.proofs.Stands.{kinds_same}
use Rattle.region_tree.specs.declared.needs.Needs.{Needs}

-- ---- a frame that a segment left

module _ (s : ℕ → ℕ) where
  regions_seen : (rs : List RegionValue) → map region_in (map region_out (map (region_to (names s)) rs)) ≡ map (region_to (names s)) rs
  regions_seen [] = refl
  regions_seen (r ∷ rs) = ap (λ xs. region_to (names s) r ∷ xs) (regions_seen rs)

  value_seen : (v : Value) → value_in (value_out (value_to (names s) v)) ≡ value_to (names s) v
  value_seen (value.Number z) = refl
  value_seen (value.Space n) = refl
  value_seen (value.Region r) = refl
  value_seen (value.Partition p) = ap (λ rs. value.Partition (record { root = root_to (names s) p.root; disjoint = p.disjoint; children = rs })) (regions_seen p.children)
  value_seen (value.Pending i) = refl

  pub values_seen : (vs : List Value) → map value_in (map value_out (map (value_to (names s)) vs)) ≡ map (value_to (names s)) vs
  values_seen [] = refl
  values_seen (v ∷ vs) = λ i. value_seen v i ∷ values_seen vs i

  -- the board sees all of it
  pub frame_seen : (f : board.Frame) (g x : Machine) → frame_in f ≡ frame_to (names s) g.frame → Fixed g x →
      frame_in (frame_out f (frame_to (names s) x.frame)) ≡ frame_to (names s) x.frame
  frame_seen f g x e fixed = λ i. record {
    task = (ap (λ (h : Frame). h.task) e ∙ sym fixed.task) i;
    pc = x.frame.pc;
    slots = values_seen x.frame.slots i;
    stack = values_seen x.frame.stack i;
    turns = x.frame.turns;
    depth = x.frame.depth;
    needs = (ap (λ (h : Frame). h.needs) e ∙ ap (λ n. record { items = map (need_to (names s)) n }) (ap (λ (n : Needs). n.items) (sym fixed.needs))) i;
    own = (ap (λ (h : Frame). h.own) e ∙ ap (map (root_to (names s))) (sym fixed.own)) i;
    children = x.frame.children;
    later = x.frame.later;
  }

pub some_less : (n : ℕ) → nat_lt 0 (suc n) ≡ true
some_less n = lt-ltb 0 (suc n) (omega arith)

no_zero : (n : ℕ) → (suc n == 0) ≡ false
no_zero n = ne_eqb (suc n) 0 (λ e. omega (arith, e))

-- ---- what an instance is given

module _ (code : Code) where
  met_in : (c : ℕ) (o : Option ℤ) (v : board.Value) → value_in (met_value (spaces_of code) c o v) ≡ settled c (result_of o) (value_in v)
  met_in c (Some z) (board.pending j) = chosen (c == j)
    where
      chosen : (b : Bool) → value_in (cond b (board.a_number z) (board.pending j)) ≡ cond b (value.Number z) (value.Pending j)
      chosen true = refl
      chosen false = refl
  met_in c None (board.pending j) = chosen (c == j)
    where
      chosen : (b : Bool) → value_in (cond b (board.a_number (pos 0)) (board.pending j)) ≡ cond b (value.Number (pos 0)) (value.Pending j)
      chosen true = refl
      chosen false = refl
  met_in c (Some z) (board.a_number y) = refl
  met_in c None (board.a_number y) = refl
  met_in c (Some z) (board.a_space n) = refl
  met_in c None (board.a_space n) = refl
  met_in c (Some z) (board.a_region r) = refl
  met_in c None (board.a_region r) = refl
  met_in c (Some z) (board.a_partition p) = refl
  met_in c None (board.a_partition p) = refl

  all_met : (c : ℕ) (o : Option ℤ) (vs : List board.Value) → map value_in (map (met_value (spaces_of code) c o) vs) ≡ map (settled c (result_of o)) (map value_in vs)
  all_met c o [] = refl
  all_met c o (v ∷ vs) = λ i. met_in c o v i ∷ all_met c o vs i

  pub met_seen : (c : ℕ) (a : board.Answer) (f : board.Frame) → frame_in (met_frame (spaces_of code) f c a) ≡ awaited c (result_of a.value) (frame_in f)
  met_seen c a f = λ i. record (frame_in f) { slots = all_met c a.value f.slots i }

  -- ---- what was made

  sets_seen : (root : ℕ) (sets : List (List ℕ)) → map region_in (map (λ xs. record { root = root; points = xs }) sets) ≡ map (region_with root) sets
  sets_seen root [] = refl
  sets_seen root (x ∷ sets) = ap (λ rs. region_with root x ∷ rs) (sets_seen root sets)

  pub partition_seen : (n j : ℕ) (r : board.Region) (sets : List (List ℕ)) (d : Bool) (f : board.Frame) →
      frame_in (pushed_on (spaces_of code) n j (board.new_partition r sets d) f) ≡ with_partition (region_in r) sets d (frame_in f)
  partition_seen n j r sets d f = λ i. record (frame_in f) {
    stack = value.Partition (record { root = record { 0 = r.root }; disjoint = d; children = sets_seen r.root sets i }) ∷ map value_in f.stack;
  }

  pub needs_append : (a b : List Requirement) → needs_in (a ++ b) ≡ needs_in a ++ needs_in b
  needs_append [] b = refl
  needs_append (r ∷ a) b = ap (λ ds. cond (nat_lt 0 (length r.points)) (need_in r ∷ ds) ds) (needs_append a b) ∙ chosen (nat_lt 0 (length r.points))
    where
      chosen : (q : Bool) → cond q (need_in r ∷ needs_in a ++ needs_in b) (needs_in a ++ needs_in b) ≡ cond q (need_in r ∷ needs_in a) (needs_in a) ++ needs_in b
      chosen true = refl
      chosen false = refl

  counted_more : (first k : ℕ) → counted_from first (suc k) ≡ counted_from first k ++ (first + k) ∷ []
  counted_more first zero = ap (λ n. n ∷ []) (omega arith)
  counted_more first (suc k) = ap (λ ns. first ∷ ns) (counted_more (suc first) k ∙ ap (λ n. counted_from (suc first) k ++ n ∷ []) (omega arith))

  points_more : (k : ℕ) → points (suc k) ≡ points k ++ k ∷ []
  points_more k = counted_more 0 k ∙ ap (λ n. points k ++ n ∷ []) (omega arith)

  need_at : ℕ → ℕ → Need
  need_at root f = record { root = record { 0 = root }; node = record { 0 = 0 }; field = f; mode = Write }

  needs_listed : (root k : ℕ) → map (need_at root) (points k) ≡ root_needs root k
  unfolding need_at
  needs_listed root zero = refl
  needs_listed root (suc k) = ap (map (need_at root)) (points_more k) ∙ map-append (need_at root) (points k) (k ∷ [])
      ∙ ap (λ ds. ds ++ need_at root k ∷ []) (needs_listed root k)

  requirement_at : ℕ → List ℕ → ℕ → Requirement
  requirement_at root xs f = record { root = root; points = xs; field = f; mode = Write }

  requirements_listed : (root : ℕ) (xs : List ℕ) (k : ℕ) → map (requirement_at root xs) (points k) ≡ root_requirements root xs k
  unfolding requirement_at
  requirements_listed root xs zero = refl
  requirements_listed root xs (suc k) = ap (map (requirement_at root xs)) (points_more k) ∙ map-append (requirement_at root xs) (points k) (k ∷ [])
      ∙ ap (λ ds. ds ++ requirement_at root xs k ∷ []) (requirements_listed root xs k)

  new_needs : (root size : ℕ) (fs : List ℕ) → needs_in (needs_of_root (spaces_of code) root size fs) ≡ cond (size == 0) [] (map (need_at root) fs)
  unfolding need_at
  new_needs root zero [] = refl
  new_needs root zero (f ∷ fs) = new_needs root zero fs
  new_needs root (suc n) fs = each fs ∙ ap (λ b. cond b [] (map (need_at root) fs)) (sym (no_zero n))
    where
      each : (fs : List ℕ) → needs_in (needs_of_root (spaces_of code) root (suc n) fs) ≡ map (need_at root) fs
      each [] = refl
      each (f ∷ fs) = ap (λ b. cond b (need_at root f ∷ needs_in (needs_of_root (spaces_of code) root (suc n) fs)) (needs_in (needs_of_root (spaces_of code) root (suc n) fs)))
          (some_less (length (counted_from 1 n))) ∙ ap (λ ds. need_at root f ∷ ds) (each fs)

  new_requirements : (root size : ℕ) (fs : List ℕ) → pointed (needs_of_root (spaces_of code) root size fs) ≡ cond (size == 0) [] (map (requirement_at root (points size)) fs)
  unfolding requirement_at
  new_requirements root zero [] = refl
  new_requirements root zero (f ∷ fs) = new_requirements root zero fs
  new_requirements root (suc n) fs = each fs ∙ ap (λ b. cond b [] (map (requirement_at root (points (suc n))) fs)) (sym (no_zero n))
    where
      each : (fs : List ℕ) → pointed (needs_of_root (spaces_of code) root (suc n) fs) ≡ map (requirement_at root (points (suc n))) fs
      each [] = refl
      each (f ∷ fs) = ap (λ ds. requirement_at root (points (suc n)) f ∷ ds) (each fs)

  fields_are : (space : ℕ) → fields_of (spaces_of code) space ≡ points (length (kinds_of code space))
  fields_are space = ap (λ ks. points (length ks)) (kinds_same code space)

  needs_made : (root size space : ℕ) → needs_in (needs_of_root (spaces_of code) root size (fields_of (spaces_of code) space)) ≡ root_needs root (fields_needed code size space)
  needs_made root size space = new_needs root size (fields_of (spaces_of code) space)
      ∙ ap (λ fs. cond (size == 0) [] (map (need_at root) fs)) (fields_are space)
      ∙ ap (cond (size == 0) []) (needs_listed root (length (kinds_of code space))) ∙ chosen (size == 0)
    where
      chosen : (b : Bool) → cond b [] (root_needs root (length (kinds_of code space))) ≡ root_needs root (cond b 0 (length (kinds_of code space)))
      chosen true = refl
      chosen false = refl

  pub requirements_made : (root size space : ℕ) →
      pointed (needs_of_root (spaces_of code) root size (fields_of (spaces_of code) space)) ≡ root_requirements root (points size) (fields_needed code size space)
  requirements_made root size space = new_requirements root size (fields_of (spaces_of code) space)
      ∙ ap (λ fs. cond (size == 0) [] (map (requirement_at root (points size)) fs)) (fields_are space)
      ∙ ap (cond (size == 0) []) (requirements_listed root (points size) (length (kinds_of code space))) ∙ chosen (size == 0)
    where
      chosen : (b : Bool) → cond b [] (root_requirements root (points size) (length (kinds_of code space)))
          ≡ root_requirements root (points size) (cond b 0 (length (kinds_of code space)))
      chosen true = refl
      chosen false = refl

  pub root_seen : (n j space size : ℕ) (f : board.Frame) →
      frame_in (pushed_on (spaces_of code) n j (board.new_root space size) f)
      ≡ with_root (root_of space size n) (points size) (fields_needed code size space) (frame_in f)
  root_seen n j space size f =
      let root = root_of space size n in
      λ i. record (frame_in f) {
        stack = value.Region (region_with root (points size)) ∷ map value_in f.stack;
        needs = record {
          items = (needs_append f.needs (needs_of_root (spaces_of code) root size (fields_of (spaces_of code) space))
              ∙ ap (λ ds. needs_in f.needs ++ ds) (needs_made root size space)) i;
        };
        own = map-append root_in f.own (root ∷ []) i;
      }
