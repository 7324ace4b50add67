-- Where two paths part.
use Rattle.std.proofs.Common.{◌≡◌, ℕ, ◌+◌, ◌<◌, ◌≤◌, ◌⊎◌, inl, inr, ⊎_elim, List, [], ◌∷◌, length}
use Rattle.std.proofs.Common.{get_or, drop, cond, eqb, Some, None, refl, sym, ◌∙◌, arith, min, ap}
use Rattle.std.proofs.Common.{◌≢◌, ◌++◌}
use Rattle.std.proofs.lemmas.Bool.{cases_lt, cond-true, cond-false, eqb-true, eqb-false, eq-eqb}
use Rattle.std.proofs.lemmas.Bool.{ne_eqb, cases_Bool}
use Rattle.std.proofs.lemmas.List.{drop_more, at_drop_all}
use Rattle.region_tree.specs.Paths.{parting, PartAt}
use Rattle.region_tree.specs.declared.path.Step.{Step}
use Rattle.region_tree.specs.declared.content.Node.{Node}

-- one step on in both paths
pub parting_more : (ss ts : List Step) (i : ℕ) (d : Step) → i < length ss → i < length ts →
    parting (drop i ss) (drop i ts) ≡ cond
    (eqb (get_or ss i d).partition.0 (get_or ts i d).partition.0)
    (cond (eqb (get_or ss i d).colour (get_or ts i d).colour)
    (parting (drop (i + 1) ss) (drop (i + 1) ts)) (Some (get_or ss i d).partition)) None
parting_more ss ts i d l m = rw (drop_more ss i d l, drop_more ts i d m) refl

-- nothing is left of one of them
pub parting_none_left : (ss ts : List Step) (i : ℕ) → length ss ≤ i →
    parting (drop i ss) (drop i ts) ≡ None
parting_none_left ss ts i l = at_drop_all (λ xs. parting xs (drop i ts)) ss i l

parting_nil : (ss : List Step) → parting ss [] ≡ None
parting_nil [] = refl
parting_nil (s ∷ ss) = refl

pub parting_none_left_right : (ss ts : List Step) (i : ℕ) → length ts ≤ i →
    parting (drop i ss) (drop i ts) ≡ None
parting_none_left_right ss ts i l =
    at_drop_all (λ xs. parting (drop i ss) xs) ts i l ∙ parting_nil (drop i ss)

-- the shorter one is at its end
pub parting_at_end : (ss ts : List Step) (i : ℕ) → min (length ss) (length ts) ≤ i →
    parting (drop i ss) (drop i ts) ≡ parting ss ts → None ≡ parting ss ts
parting_at_end ss ts i l same =
    ⊎_elim (λ a. sym (parting_none_left ss ts i a) ∙ same)
    (λ b. sym (parting_none_left_right ss ts i b) ∙ same)
    (cases_min (length ss) (length ts) i l)
  where
    cases_min : (m n i : ℕ) → min m n ≤ i → (m ≤ i) ⊎ (n ≤ i)
    cases_min m n i l = ⊎_elim (λ a. inl (omega arith))
        (λ a. ⊎_elim (λ b. inr (omega arith)) (λ b. inl (omega arith)) (cases_lt n m))
        (cases_lt m i)

-- ---- the partition at which two paths part

same_steps : (s t : Step) → s.partition.0 ≡ t.partition.0 → s.colour ≡ t.colour → s ≡ t
same_steps s t e f =
    ap (λ n. record { partition = record { 0 = n }; colour = s.colour }) e ∙
    ap (λ k. record { partition = t.partition; colour = k }) f

same_nodes : (m n : Node) → m.0 ≡ n.0 → m ≡ n
same_nodes m n e = ap (λ k. record { 0 = k }) e

pub part_at-from_parting : (ss ts : List Step) (p : Node) → parting ss ts ≡ Some p → PartAt p ss ts
part_at-from_parting [] ts p e = absurd cc
part_at-from_parting (s ∷ ss) [] p e = absurd cc
part_at-from_parting (s ∷ ss) (t ∷ ts) p e =
    ⊎_elim (λ q. ⊎_elim (λ k. on
    (same_steps s t (eqb-true s.partition.0 t.partition.0 q) (eqb-true s.colour t.colour k))
    (part_at-from_parting ss ts p (sym
    (cond-true (eqb s.colour t.colour) (parting ss ts) (Some s.partition) k) ∙
    sym (cond-true (eqb s.partition.0 t.partition.0)
    (cond (eqb s.colour t.colour) (parting ss ts) (Some s.partition)) None q) ∙ e)))
    (λ k. here (eqb-true s.partition.0 t.partition.0 q) (eqb-false s.colour t.colour k)
    (sym (cond-false (eqb s.colour t.colour) (parting ss ts) (Some s.partition) k) ∙
    sym (cond-true (eqb s.partition.0 t.partition.0)
    (cond (eqb s.colour t.colour) (parting ss ts) (Some s.partition)) None q) ∙ e))
    (cases_Bool (eqb s.colour t.colour))) (λ q. let none : None ≡ Some p = sym
    (cond-false (eqb s.partition.0 t.partition.0)
    (cond (eqb s.colour t.colour) (parting ss ts) (Some s.partition)) None q) ∙ e in absurd cc)
    (cases_Bool (eqb s.partition.0 t.partition.0))
  where
    on : s ≡ t → PartAt p ss ts → PartAt p (s ∷ ss) (t ∷ ts)
    on same h = record {
      shared = s ∷ h.shared;
      one = h.one;
      other = h.other;
      rest = h.rest;
      other_rest = h.other_rest;
      first_path = ap (λ l. s ∷ l) h.first_path;
      second_path = ap (λ x. x ∷ ts) (sym same) ∙ ap (λ l. s ∷ l) h.second_path;
      of_one = h.of_one;
      of_other = h.of_other;
      colours = h.colours;
    }

    here : s.partition.0 ≡ t.partition.0 → s.colour ≢ t.colour → Some s.partition ≡ Some p →
        PartAt p (s ∷ ss) (t ∷ ts)
    here q k is =
        let at : s.partition ≡ p = cc in
        record {
          shared = [];
          one = s;
          other = t;
          rest = ss;
          other_rest = ts;
          first_path = refl;
          second_path = refl;
          of_one = at;
          of_other = same_nodes t.partition s.partition (sym q) ∙ at;
          colours = k;
        }

parting_behind : (shared : List Step) (s t : Step) (ss ts : List Step) →
    s.partition.0 ≡ t.partition.0 → s.colour ≢ t.colour →
    parting (shared ++ s ∷ ss) (shared ++ t ∷ ts) ≡ Some s.partition
parting_behind [] s t ss ts q k =
    cond-true (eqb s.partition.0 t.partition.0) (cond (eqb s.colour t.colour) (parting ss ts)
    (Some s.partition)) None (eq-eqb s.partition.0 t.partition.0 q) ∙
    cond-false (eqb s.colour t.colour) (parting ss ts) (Some s.partition)
    (ne_eqb s.colour t.colour k)
parting_behind (x ∷ xs) s t ss ts q k =
    let rest = parting (xs ++ s ∷ ss) (xs ++ t ∷ ts) in
    cond-true (eqb x.partition.0 x.partition.0)
    (cond (eqb x.colour x.colour) rest (Some x.partition)) None
    (eq-eqb x.partition.0 x.partition.0 refl) ∙
    cond-true (eqb x.colour x.colour) rest (Some x.partition) (eq-eqb x.colour x.colour refl) ∙
    parting_behind xs s t ss ts q k

pub parting-from_part_at : (ss ts : List Step) (p : Node) → PartAt p ss ts → parting ss ts ≡ Some p
parting-from_part_at ss ts p h =
    ap (λ l. parting l ts) h.first_path ∙
    ap (λ l. parting (h.shared ++ h.one ∷ h.rest) l) h.second_path ∙
    parting_behind h.shared h.one h.other h.rest h.other_rest
    (ap (λ (n : Node). n.0) (h.of_one ∙ sym h.of_other)) h.colours ∙ ap Some h.of_one
