-- What the table reads of a root is what the board's map has of it.
use Rattle.std.proofs.Common.{◌≡◌, ◌<◌, ◌≤◌, ◌+◌, ◌∷◌, ◌∙◌, ℕ, zero, suc, ℤ, List, Some, [], ap, arith, cond, eq-eqb, get_or, length, map, ne_eqb, refl, sym}
use Rattle.std.proofs.lemmas.List.{get_or-map, length-map}
use Rattle.std.proofs.lemmas.List.Elements.{All-get_or}
use Rattle.plain_values.specs.Points.{counted_from, points}
use Rattle.point_sets.proofs.Rising.{length-counted_from}
use Rattle.logical_map.specs.Laws.{IsWhole}
use Rattle.logical_map.specs.Maps.{Column, column_of, columns_of, no_column, number_beside, number_or_zero}
use Rattle.logical_map.proofs.Beside.{beside_more}
use Rattle.task_code.specs.declared.job.Job.{Job}
use Rattle.board_rules.specs.Processes.{Map}
use Rattle.regent_boards.specs.RegentMachine.{fields_of, regent_ground, size_of, space_of}
use Rattle.code_boards.specs.Views.{spaces_of}
use Rattle.order_boards.specs.Outcomes.{image_on}
use Rattle.order_boards.proofs.Images.{listed}
use Rattle.order_boards.proofs.Stands.{at, kinds_same, root_size, root_space}
use Rattle.board_terms.specs.declared.extent.Extent.{Extent}
use Rattle.board_terms.specs.Outcomes.{image_of}
use Rattle.board_terms.specs.States.{State, no_extent}
use Rattle.board_trees.specs.Names.{name_of}
use Rattle.board_trees.specs.Shows.{HoldsMap}

-- the numbers beside points that follow one another are the list of numbers
read_back : (a n : ℕ) (zs : List ℤ) (g : ℕ → ℤ) → length zs ≡ n → ((p : ℕ) → a ≤ p → p < a + n → g p ≡ number_or_zero (number_beside (counted_from a n) zs p)) →
    map g (counted_from a n) ≡ zs
read_back a zero [] g l h = refl
read_back a zero (z ∷ zs) g l h = absurd (omega (arith, l))
read_back a (suc n) [] g l h = absurd (omega (arith, l))
read_back a (suc n) (z ∷ zs) g l h = λ i. (h a (omega arith) (omega arith) ∙ ap number_or_zero (beside_more a a (counted_from (suc a) n) z zs)
    ∙ ap (λ b. number_or_zero (cond b (Some z) (number_beside (counted_from (suc a) n) zs a))) (eq-eqb a a refl)) i
    ∷ read_back (suc a) n zs g (omega (arith, l)) (λ p m k. h p (omega (arith, m)) (omega (arith, k)) ∙ ap number_or_zero (beside_more a p (counted_from (suc a) n) z zs)
    ∙ ap (λ b. number_or_zero (cond b (Some z) (number_beside (counted_from (suc a) n) zs p))) (ne_eqb a p (λ e. omega (arith, e, m)))) i

module _ (job : Job) (s : State) (who : ℕ → ℕ) (m : Map (regent_ground (spaces_of job.code))) (r : ℕ) (h : HoldsMap job s.map s.roots who m r) where
  abbrev extent : Extent
  extent = get_or s.roots r no_extent

  abbrev root : ℕ
  root = name_of s.roots who r

  abbrev columns : List Column
  columns = columns_of s.map r

  column_read : (f : ℕ) → f < length columns → map (λ p. m (at root f p)) (points extent.count) ≡ (column_of s.map r f).numbers
  column_read f l =
      let points_are : (column_of s.map r f).points ≡ points extent.count = All-get_or (λ (c : Column). c.points ≡ points extent.count) columns f no_column l h.points_are in
      let whole : IsWhole (column_of s.map r f) = All-get_or IsWhole columns f no_column l h.whole in
      read_back 0 extent.count (column_of s.map r f).numbers (λ p. m (at root f p)) (whole ∙ ap length points_are ∙ length-counted_from 0 extent.count)
      (λ p a b. sym (h.numbers f p l (omega (arith, b))) ∙ ap (λ ps. number_or_zero (number_beside ps (column_of s.map r f).numbers p)) points_are)

  pub image_read : image_of s (record { 0 = r }) ≡ image_on (spaces_of job.code) m root
  image_read =
      let space = root_space extent.space extent.count (who r) in
      let size = root_size extent.space extent.count (who r) in
      let many : length (get_or (spaces_of job.code) (space_of root) []) ≡ length columns =
      ap (λ k. length (get_or (spaces_of job.code) k [])) space ∙ ap length (kinds_same job.code extent.space) ∙ sym (ap length h.kinds) ∙ length-map columns (λ (c : Column). c.kind) in
      let fields : map (λ f. map (λ p. m (at root f p)) (points (size_of root))) (fields_of (spaces_of job.code) (space_of root)) ≡ map (λ (c : Column). c.numbers) columns =
      (λ i. map (λ f. map (λ p. m (at root f p)) (points (size i))) (points (many i)))
      ∙ listed (λ f. map (λ p. m (at root f p)) (points extent.count)) [] (map (λ (c : Column). c.numbers) columns) (length columns) (length-map columns (λ (c : Column). c.numbers))
      (λ f l. column_read f l ∙ sym (get_or-map (λ (c : Column). c.numbers) columns f no_column [] l)) in
      λ i. record { space = sym space i; count = sym size i; fields = sym fields i }
