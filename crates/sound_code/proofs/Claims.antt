-- What is told of a task's parameters, as facts: each is told by one clause, of two parameters that are regions, or by the type of
-- one that is a partition.
use Rattle.std.proofs.Common.{◌≡◌, ⊎_elim, ℕ, List, [], ◌∷◌, Bool, true, false, ◌&&◌, cond, inl, inr, refl, sym, ap, subst}
use Rattle.std.specs.Prelude.{length, nat_lt}
use Rattle.std.proofs.lemmas.Bool.{or_parts}
use Rattle.regent_tree.proofs.Members.{Has, Has-append_cases, Has-map_cases}
use Rattle.regent_tree.specs.Scopes.{known_of_clause, known_of_clauses, known_of_params, known_of_type, scope_of}
use Rattle.regent_tree.specs.StaticTypes.{place_in}
use Rattle.regent_tree.specs.Syntax.{Name, TaskTree, Tree}
use Rattle.regent_tree.specs.declared.facts.Known.{Known}
use Rattle.regent_tree.specs.declared.facts.Known.TheVariants.{Within, Apart, PartOf, Made}
use Rattle.regent_tree.specs.declared.facts.Term.TheVariants as term
use Rattle.regent_tree.specs.declared.program.Clause.{Clause}
use Rattle.regent_tree.specs.declared.program.Clause.TheVariants as clause
use Rattle.regent_tree.specs.declared.typing.Bound.{Bound}
use Rattle.regent_tree.specs.declared.typing.StaticType.{StaticType}
use Rattle.regent_tree.specs.declared.typing.StaticType.TheVariants.{Integer as integer_type, Truth as truth_type, Index as index_type, Pointer as pointer_type, Ispace as ispace_type, Region as region_type, Partition as partition_type, Nothing as no_type, Unknown as unknown_type}
use Rattle.check_laws.proofs.Trees.{has_flat}
use Rattle.check_rules.specs.rules.Clauses.{is_no_region, misdeclares}
use Rattle.check_rules.specs.scopes.Sound.{IsSoundTask}
use Rattle.check_rules.specs.types.Declarations.{params_bound}
use Rattle.expression_laws.proofs.Params.{known_clause, none_has}
use Rattle.code_laws.proofs.DeclaredNeeds.{IsRegionParam, region_param}
use Rattle.code_laws.specs.Taking.{known_of_pairs, pairs_in}
use Rattle.fit_rules.specs.Shapes.{Among, Each}
use Rattle.fit_rules.specs.Marks.{apart, Fact, in_slot, lies, parted}
use Rattle.sound_code.specs.Ways.{by_rules, none_begun, opening_facts, told_by}

-- ---- what types tell is of partitions

abbrev IsPartition : Known → Type 0
IsPartition (PartOf p r d) = Unit {0}
IsPartition k = ⊥

type_tells : (t : StaticType) (k : Known) → Has (known_of_type t) k → IsPartition k
type_tells (partition_type d r p) k (inl e) = subst IsPartition e tt
type_tells (partition_type d r p) k (inr h) = absurd h
type_tells (integer_type w) k h = absurd h
type_tells truth_type k h = absurd h
type_tells (index_type c) k h = absurd h
type_tells (pointer_type c sp args rs) k h = absurd h
type_tells (ispace_type c) k h = absurd h
type_tells (region_type c sp args r) k h = absurd h
type_tells no_type k h = absurd h
type_tells unknown_type k h = absurd h

params_tell : (bs : List Bound) (k : Known) → Has (known_of_params bs) k → IsPartition k
params_tell [] k h = absurd h
params_tell (b ∷ bs) k h = ⊎_elim (params_tell bs k) (type_tells b.static_type k)
    (Has-append_cases (known_of_params bs) (known_of_type b.static_type) k h)

-- ---- facts

only_one : (b : Bool) (f q : Fact) → Has (cond b (f ∷ []) []) q → f ≡ q
only_one true f q (inl e) = e
only_one true f q (inr h) = absurd h
only_one false f q h = absurd h

among_has : (fs : List Fact) (f : Fact) → Among fs f → Has fs f
among_has [] f h = absurd h
among_has (q ∷ fs) f (inl e) = inl e
among_has (q ∷ fs) f (inr h) = inr (among_has fs f h)

module _ (tree : Tree) (u : TaskTree) (sound : IsSoundTask tree u) where
  abbrev place : Name → ℕ
  place n = place_in u.params n

  pub data IsClaimed : Fact → Type 0 where
    claims_within : (a b : Name) → Has u.clauses (clause.Within a b) → IsRegionParam tree u sound a → IsRegionParam tree u sound b →
        IsClaimed (lies (in_slot (place a)) (in_slot (place b)))
    claims_apart : (a b : Name) → Has u.clauses (clause.Apart a b) → IsRegionParam tree u sound a → IsRegionParam tree u sound b →
        IsClaimed (apart (in_slot (place a)) (in_slot (place b)))
    claims_parted : (p r : ℕ) (d : Bool) → Has (known_of_params (scope_of tree u).names) (PartOf p r d) → IsClaimed (parted p r)

  by_clause : (c : Clause) → Has u.clauses c → misdeclares tree (params_bound tree u.params) c ≡ false → (k : Known) →
      Has (known_of_clause u.params c) k → (f : Fact) → Has (told_by (length u.params) k) f → IsClaimed f
  by_clause (clause.Within a b) hc e k (inl same) f h =
      let parts = or_parts (is_no_region (params_bound tree u.params) a) _ e in
      let one = only_one (nat_lt (place a) (length u.params) && nat_lt (place b) (length u.params)) (lies (in_slot (place a)) (in_slot (place b))) f
      (subst (λ q. Has (told_by (length u.params) q) f) (sym same) h) in
      subst IsClaimed one (claims_within a b hc (region_param tree u sound a parts.0) (region_param tree u sound b parts.1))
  by_clause (clause.Within a b) hc e k (inr g) f h = absurd g
  by_clause (clause.Apart a b) hc e k (inl same) f h =
      let parts = or_parts (is_no_region (params_bound tree u.params) a) _ e in
      let one = only_one (nat_lt (place a) (length u.params) && nat_lt (place b) (length u.params)) (apart (in_slot (place a)) (in_slot (place b))) f
      (subst (λ q. Has (told_by (length u.params) q) f) (sym same) h) in
      subst IsClaimed one (claims_apart a b hc (region_param tree u sound a parts.0) (region_param tree u sound b parts.1))
  by_clause (clause.Apart a b) hc e k (inr g) f h = absurd g
  by_clause (clause.Grants grants places) hc e k g f h = absurd g

  by_type : (k : Known) (f : Fact) → IsPartition k → Has (known_of_params (scope_of tree u).names) k → Has (told_by (length u.params) k) f → IsClaimed f
  by_type (PartOf p r d) f i there h = subst IsClaimed (only_one (nat_lt p (length u.params) && nat_lt r (length u.params)) (parted p r) f h)
      (claims_parted p r d there)
  by_type (Within a b) f i there h = absurd i
  by_type (Apart a b) f i there h = absurd i
  by_type (Made s) f i there h = absurd i

  claimed : (f : Fact) → Has (opening_facts (by_rules none_begun u) tree u) f → IsClaimed f
  claimed f h =
      let k = has_flat (told_by (length u.params)) (scope_of tree u).known f h in
      ⊎_elim (λ p. by_type k.0 f (params_tell (scope_of tree u).names k.0 p) p k.2)
      (λ p.
      let c = known_clause u.params u.clauses k.0 p in
      by_clause c.0 c.1 (none_has (misdeclares tree (params_bound tree u.params)) u.clauses c.0 sound.clauses c.1) k.0 c.2 f k.2)
      (Has-append_cases (known_of_params (scope_of tree u).names) (known_of_clauses u.params u.clauses) k.0 k.1)

  -- what is so of each claim is so of each fact
  pub each_claimed : (P : Fact → Type 0) → ((f : Fact) → IsClaimed f → P f) → Each P (opening_facts (by_rules none_begun u) tree u)
  each_claimed P h = each (opening_facts (by_rules none_begun u) tree u) (λ f a. h f (claimed f a))
    where
      each : (fs : List Fact) → ((f : Fact) → Has fs f → P f) → Each P fs
      each [] q = tt
      each (f ∷ fs) q = (q f (inl refl), each fs (λ l i. q l (inr i)))

-- ---- pairs

pair_told : (ks : List Known) (p : ℕ × ℕ) → Has (pairs_in ks) p → Has ks (Within (term.Name p.0) (term.Name p.1))
pair_told [] p h = absurd h
pair_told (Within (term.Name a) (term.Name b) ∷ ks) p (inl same) =
    inl (ap (λ (q : ℕ × ℕ). Within (term.Name q.0) (term.Name q.1)) same)
pair_told (Within (term.Name a) (term.Name b) ∷ ks) p (inr h) = inr (pair_told ks p h)
pair_told (Within (term.Name a) (term.Child _ _) ∷ ks) p h = inr (pair_told ks p h)
pair_told (Within (term.Child _ _) b ∷ ks) p h = inr (pair_told ks p h)
pair_told (Apart a b ∷ ks) p h = inr (pair_told ks p h)
pair_told (PartOf q r d ∷ ks) p h = inr (pair_told ks p h)
pair_told (Made s ∷ ks) p h = inr (pair_told ks p h)

-- what pairs tell was told
pub pairs_told : (ks : List Known) (k : Known) → Has (known_of_pairs (pairs_in ks)) k → Has ks k
pairs_told ks k h =
    let p = Has-map_cases (λ (q : ℕ × ℕ). Within (term.Name q.0) (term.Name q.1)) (pairs_in ks) k h in
    subst (Has ks) p.2 (pair_told ks p.0 p.1)
