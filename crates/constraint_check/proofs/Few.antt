-- A few rows that stand for all.
use Rattle.std.proofs.Common.{◌≡◌, Bool, false, List, [], ◌∷◌, ◌++◌, ◌&&◌, ◌||◌, ◌==◌, ℕ, refl, ap, sym, suc, zero, ◌∙◌, take, drop}
use Rattle.std.specs.List.{list_any}
use Rattle.std.proofs.Math.Bool.{or-false}
use Rattle.std.proofs.lemmas.Bool.{or_parts}
use Rattle.std.proofs.lemmas.List.Folds.{list_any-append}
use Rattle.regent_tree.specs.Facts.{Row, alike, any_above, has_sibling_above, is_earlier, is_other_child, parts, parts_either, raises, raises_to}
use Rattle.regent_tree.specs.declared.facts.Known.{Known}
use Rattle.regent_tree.specs.declared.facts.Known.TheVariants.{Within, Apart, PartOf, Made}
use Rattle.regent_tree.specs.declared.facts.Term.{Term}
use Rattle.regent_tree.specs.declared.facts.Term.TheVariants.{Name, Child}
use Rattle.constraint_check.specs.Looking.{StandFor, parts_over}

abbrev raising : Term → Row → Bool
raising t row = raises row.0 t

-- rows that don't raise a term lead it to nothing
leads_nowhere : (t : Term) (test : Term → Bool) (rows : List Row) → list_any (raising t) rows ≡ false →
    list_any (raises_to test t) rows ≡ false
leads_nowhere t test [] e = refl
leads_nowhere t test (row ∷ rows) e =
    let p = or_parts (raises row.0 t) (list_any (raising t) rows) e in
    λ j. (p.0 j && list_any test row.1) || leads_nowhere t test rows p.1 j

parted : (n : ℕ) (rows : List Row) → take n rows ++ drop n rows ≡ rows
parted zero rows = refl
parted (suc n) [] = refl
parted (suc n) (row ∷ rows) = ap (λ (rs : List Row). row ∷ rs) (parted n rows)

both : (t : Term) (test : Term → Bool) (n : ℕ) (rows : List Row) →
    list_any (raises_to test t) rows
    ≡ (list_any (raises_to test t) (take n rows) || list_any (raises_to test t) (drop n rows))
both t test n rows =
    ap (list_any (raises_to test t)) (sym (parted n rows)) ∙ list_any-append (raises_to test t) (take n rows) (drop n rows)

-- rows up to the last that raises the term
pub front_stands : (t : Term) (n : ℕ) (rows : List Row) → list_any (raising t) (drop n rows) ≡ false → StandFor (take n rows) rows t
front_stands t n rows e test =
    ap (λ b. test t || b) (sym (or-false (list_any (raises_to test t) (take n rows)))
    ∙ ap (λ b. list_any (raises_to test t) (take n rows) || b) (sym (leads_nowhere t test (drop n rows) e))
    ∙ sym (both t test n rows))

-- rows from the first that raises it
pub back_stands : (t : Term) (n : ℕ) (rows : List Row) → list_any (raising t) (take n rows) ≡ false → StandFor (drop n rows) rows t
back_stands t n rows e test =
    ap (λ b. test t || b) (ap (λ b. b || list_any (raises_to test t) (drop n rows)) (sym (leads_nowhere t test (take n rows) e))
    ∙ sym (both t test n rows))

module _ (rows over_a over_b : List Row) (a b : Term) (few_a : StandFor over_a rows a) (few_b : StandFor over_b rows b) where
  siblings : (p : ℕ) (x : Term) → has_sibling_above over_b p b x ≡ has_sibling_above rows p b x
  siblings p (Name n) = refl
  siblings p (Child q c) = λ j. (p == q) && few_b (is_other_child p c) j

  pub few_part : (k : Known) → parts_over over_a over_b a b k ≡ parts rows a b k
  few_part (Within x y) = refl
  few_part (Apart x y) = λ j. few_a (alike x) j && few_b (alike y) j
  few_part (PartOf p r disjoint) =
      ap (λ b. disjoint && b) (few_a (has_sibling_above over_b p b)
      ∙ ap (λ (f : Term → Bool). any_above rows f a) (λ j x. siblings p x j))
  few_part (Made s) = λ j. few_a (alike (Name s)) j && few_b (is_earlier s) j

pub few_part_either : (rows over_a over_b : List Row) (a b : Term) → StandFor over_a rows a → StandFor over_b rows b → (k : Known) →
    (parts_over over_a over_b a b k || parts_over over_b over_a b a k) ≡ parts_either rows a b k
few_part_either rows over_a over_b a b few_a few_b k =
    λ j. few_part rows over_a over_b a b few_a few_b k j || few_part rows over_b over_a b a few_b few_a k j
