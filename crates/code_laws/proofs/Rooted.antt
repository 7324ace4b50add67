-- Regions of parameters that lie within others by what is known of them have one root.
use Rattle.std.proofs.Common.{◌≡◌, ℕ, List, true, refl, subst, ◌∙◌}
use Rattle.std.specs.List.{Contains}
use Rattle.constraint_check.proofs.Table.{is_subregion-derivable}
use Rattle.constraint_check.specs.Derivations.{IsBelow, child, same, through, told_within, variable}
use Rattle.regent_tree.proofs.Members.{Contains-from_Has, Has-from_Contains, Has-map_cases}
use Rattle.regent_tree.specs.Facts.{is_subregion}
use Rattle.regent_tree.specs.Values.{Value}
use Rattle.regent_tree.specs.declared.facts.Known.{Known}
use Rattle.regent_tree.specs.declared.facts.Known.TheVariants.{Within}
use Rattle.regent_tree.specs.declared.facts.Term.{Term}
use Rattle.regent_tree.specs.declared.facts.Term.TheVariants.{Child, Name}
use Rattle.code_laws.specs.Taking.{AreParts, given_region, known_of_pairs}

-- the root of what a term names
abbrev root_named : List Value → Term → ℕ
root_named args (Name i) = (given_region args i).root
root_named args (Child p c) = 0

abbrev lower_root : List Value → Known → ℕ
lower_root args (Within a b) = root_named args a
lower_root args k = 0

abbrev upper_root : List Value → Known → ℕ
upper_root args (Within a b) = root_named args b
upper_root args k = 0

known_roots : (args : List Value) (ps : List (ℕ × ℕ)) → AreParts args ps → (k : Known) → Contains (known_of_pairs ps) k →
    lower_root args k ≡ upper_root args k
known_roots args ps h k there =
    let p = Has-map_cases (λ (p : ℕ × ℕ). Within (Name p.0) (Name p.1)) ps k (Has-from_Contains (known_of_pairs ps) k there) in
    subst (λ k. lower_root args k ≡ upper_root args k) p.2 (h p.0 (Contains-from_Has ps p.0 p.1)).0

abbrev IsPair : Known → Type 0
IsPair (Within (Name a) (Name b)) = Unit {0}
IsPair k = ⊥

known_pair : (ps : List (ℕ × ℕ)) (k : Known) → Contains (known_of_pairs ps) k → IsPair k
known_pair ps k there =
    subst IsPair (Has-map_cases (λ (p : ℕ × ℕ). Within (Name p.0) (Name p.1)) ps k (Has-from_Contains (known_of_pairs ps) k there)).2 tt

roots_same : (args : List Value) (ps : List (ℕ × ℕ)) → AreParts args ps → (a b : Term) → IsBelow (known_of_pairs ps) a b →
    root_named args a ≡ root_named args b
roots_same args ps h a _ same = refl
roots_same args ps h a b (told_within c) = known_roots args ps h (Within a b) c
roots_same args ps h a b (through p q) = roots_same args ps h a _ p ∙ roots_same args ps h _ b q
roots_same args ps h _ _ (child c) = absurd (known_pair ps _ c)
roots_same args ps h _ b (variable c) = absurd (known_pair ps _ c)

pub one_root : (args : List Value) (ps : List (ℕ × ℕ)) (i j : ℕ) → AreParts args ps → is_subregion (known_of_pairs ps) (Name i) (Name j) ≡ true →
    (given_region args i).root ≡ (given_region args j).root
one_root args ps i j h e = roots_same args ps h (Name i) (Name j) ((is_subregion-derivable (known_of_pairs ps) (Name i) (Name j)).0 e).below
