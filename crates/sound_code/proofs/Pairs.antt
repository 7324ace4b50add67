-- What is derived from what a task's head tells of its parameters: regions of parameters lie within others.
use Rattle.std.proofs.Common.{◌≡◌, ℕ, List, true, Option, sym, ◌∙◌, subst}
use Rattle.regent_tree.proofs.Members.{Has, Has-map_cases}
use Rattle.regent_tree.specs.Facts.{is_subregion}
use Rattle.regent_tree.specs.Scopes.{Scope, scope_of}
use Rattle.regent_tree.specs.Syntax.{TaskTree, Tree}
use Rattle.regent_tree.specs.declared.facts.Known.{Known}
use Rattle.regent_tree.specs.declared.facts.Known.TheVariants.{Apart, Made, PartOf, Within}
use Rattle.regent_tree.specs.declared.facts.Term.{Term}
use Rattle.regent_tree.specs.declared.facts.Term.TheVariants.{Child, Name}
use Rattle.task_code.specs.declared.code.TaskCode.{TaskCode}
use Rattle.code_laws.specs.Taking.{known_of_pairs, pairs_in}
use Rattle.fit_rules.specs.Marks.{Fact, Mark}
use Rattle.sound_code.specs.Ways.{by_rules, none_begun, opening_facts, Tops}
use Rattle.sound_code.proofs.Claims.{pairs_told}
use Rattle.sound_code.proofs.Grounds.{HasFacts, IsTold, Kept, tells_apart, tells_begun, tells_made, tells_part, tells_within}
use Rattle.sound_code.proofs.Lying.{Over, reaches, top_none}

abbrev IsName : Term → Type 0
IsName (Name i) = Unit {0}
IsName (Child p c) = ⊥

-- a fact of two names
abbrev IsPair : Known → Type 0
IsPair (Within a b) = IsName b
IsPair (Apart a b) = ⊥
IsPair (PartOf p r d) = ⊥
IsPair (Made s) = ⊥

is_pair : (ps : List (ℕ × ℕ)) (k : Known) → Has (known_of_pairs ps) k → IsPair k
is_pair ps k h = subst IsPair (Has-map_cases (λ (p : ℕ × ℕ). Within (Name p.0) (Name p.1)) ps k h).2 tt

-- such a fact is of parameters
pair_told : (params : ℕ) (up : ℕ → Option (ℕ × ℕ)) (none : ℕ → Option (ℕ × ℕ)) (ks : List Fact) (k : Known) → IsPair k → IsTold params up ks k → IsTold params none ks k
pair_told params up none ks _ p (tells_within a b la lb h) = tells_within a b la lb h
pair_told params up none ks _ p (tells_apart a b la lb h) = absurd p
pair_told params up none ks _ p (tells_part q r d) = absurd p
pair_told params up none ks _ p (tells_made i l e) = absurd p
pair_told params up none ks _ p (tells_begun i q k c l e) = absurd p

module _ (t : TaskCode) (tops : Tops) (task : TaskTree) (tree : Tree) (params : ℕ) (s : Scope) (kept : Kept t tops task tree params s) (m : Mark)
    (facts : HasFacts (by_rules tops task) tree m.facts) where
  -- what the head tells of two parameters
  abbrev pub paired : List Known
  paired = known_of_pairs (pairs_in (scope_of tree task).known)

  abbrev pub OverPair : ℕ → ℕ → Type 0
  OverPair i j = Over t.params params (none_begun task) (opening_facts (by_rules tops task) tree task) m paired i j

  pub pairs_over : (i j : ℕ) → is_subregion paired (Name i) (Name j) ≡ true → OverPair i j
  pairs_over i j e =
      let ps = pairs_in (scope_of tree task).known in
      let to = reaches t.params params (none_begun task) (opening_facts (by_rules tops task) tree task) m paired facts
      (λ k h. pair_told params (tops task) (none_begun task) _ k (is_pair ps k h) (kept.begun k (pairs_told (scope_of tree task).known k h)))
      (λ i p c h. absurd (is_pair ps (Within (Name i) (Child p c)) h)) (Name i) (Name j) i (top_none params i) e in
      subst (OverPair i) (sym to.stands ∙ top_none params j) to.over
