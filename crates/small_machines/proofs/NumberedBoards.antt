-- The small machine over numbers of roots, renamed, is the one over names of roots.
use Rattle.std.proofs.Common.{◌≡◌, ◌∷◌, ◌<◌, ◌⊎◌, Bool, List, [], ap, arith, eq-eqb, eqb-true, false, inl, inr, nat_eq, refl, subst, sym, true, ℕ}
use Rattle.std.proofs.lemmas.Bool.{and_from, and_parts}
use Rattle.board_rules.specs.Running.{Laws}
use Rattle.board_rules.specs.Journals.{Job}
use Rattle.board_rules.specs.ByNumber.{Differ, Renamable}
use Rattle.board_rules.specs.NumberedRuns.{Making}
use Rattle.board_rules.specs.Renaming.{ground_over}
use Rattle.small_machines.specs.NumberedMachines.{Code, IsJob, base, by_name, by_number, called, job, naming, nothing, numbering, rename, same_list, same_making}
use Rattle.board_laws.proofs.Reaching.{by_test}
use Rattle.small_machines.proofs.Numbered.{renamed}
use Rattle.small_machines.proofs.NumberedLaws.{machine_laws}

list_is : (p q : List ℕ) → same_list p q ≡ true → p ≡ q
list_is [] [] e = refl
list_is [] (b ∷ q) e = absurd cc
list_is (a ∷ p) [] e = absurd cc
list_is (a ∷ p) (b ∷ q) e = let parts = and_parts (nat_eq a b) (same_list p q) e in λ i. eqb-true a b parts.0 i ∷ list_is p q parts.1 i

list_self : (p : List ℕ) → same_list p p ≡ true
list_self [] = refl
list_self (a ∷ p) = and_from _ _ (eq-eqb a a refl) (list_self p)

making_is : (a b : Making) → same_making a b ≡ true → a ≡ b
making_is a b e = let x = and_parts (nat_eq a.making b.making) (same_list a.maker b.maker) e in λ i. record { maker = list_is a.maker b.maker x.1 i; making = eqb-true a.making b.making x.0 i }

making_self : (a : Making) → same_making a a ≡ true
making_self a = and_from _ _ (eq-eqb a.making a.making refl) (list_self a.maker)

pub naming_laws : Laws (ground_over base by_name) naming
naming_laws = machine_laws Making same_making making_is making_self (λ x. x.maker) (λ x. x.making) (λ p i. record { maker = p; making = i }) (λ p i. refl) (λ p i. refl)

abbrev named : Code → Job (ground_over base by_name)
named c = record { frame = record { code = c; number = 0; roots = [] }; needs = nothing; map = λ l. 0; needs_nothing = λ l. refl }

order : (n m : ℕ) → (n < m) ⊎ ((n ≡ m) ⊎ (m < n))
order n m = grind arith

-- any naming by which no two numbers are named alike
pub renamable : (j : Job (ground_over base by_number)) → IsJob j → (twin : Job (ground_over base by_name)) × Renamable base by_number by_name numbering naming rename j twin
renamable j is = (named is.0, subst (λ x. Renamable base by_number by_name numbering naming rename x (named is.0)) (sym is.1) (of_program is.0))
  where
    to : (ℕ → List ℕ) → (ℕ → ℕ) → ℕ → Making
    to = called

    only_one : (maker : ℕ → List ℕ) (making : ℕ → ℕ) → Differ maker making → (n m : ℕ) → to maker making n ≡ to maker making m → n ≡ m
    only_one maker making differ n m e = elim (order n m) [
      | inl l ↦ absurd (differ n m l (ap (λ (x : Making). x.maker) e) (ap (λ (x : Making). x.making) e))
      | inr r ↦ elim r [
        | inl k ↦ k
        | inr l ↦ absurd (differ m n l (ap (λ (x : Making). x.maker) (sym e)) (ap (λ (x : Making). x.making) (sym e)))
      ]
    ]

    same_to : (maker : ℕ → List ℕ) (making : ℕ → ℕ) → Differ maker making → (n m : ℕ) → same_making (to maker making n) (to maker making m) ≡ nat_eq n m
    same_to maker making differ n m = by_test (nat_eq n m) (λ b. nat_eq n m ≡ b → same_making (to maker making n) (to maker making m) ≡ b)
        (λ e k. subst (λ x. same_making (to maker making n) (to maker making x) ≡ true) (eqb-true n m k) (making_self (to maker making n)))
        (λ e k. off (same_making (to maker making n) (to maker making m)) (λ h. absurd (clash k (eq-eqb n m (only_one maker making differ n m (making_is (to maker making n) (to maker making m) h)))))) refl
      where
        clash : nat_eq n m ≡ false → nat_eq n m ≡ true → ⊥
        clash a b = cc

        off : (b : Bool) → (b ≡ true → ⊥) → b ≡ false
        off true h = absurd (h refl)
        off false h = refl

    of_program : (c : Code) → Renamable base by_number by_name numbering naming rename (job c) (named c)
    of_program c = record {
      renamed = λ maker making differ. renamed ℕ nat_eq (λ n. []) (λ n. n) Making same_making (λ x. x.maker) (λ x. x.making) (to maker making) (same_to maker making differ)
          (λ p i. record { maker = p; making = i }) (λ n. n) maker making (λ n. refl);
      frame = λ maker making. refl;
      needs = λ maker making. refl;
      map = λ maker making l. refl;
    }
