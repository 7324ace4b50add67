-- What the types of a task's parameters tell: of which regions those that are partitions are.
use Rattle.std.proofs.Common.{◌≡◌, ℕ, Bool, true, false, None, Some, ◌⊎◌, ⊎_elim, refl, ap, sym, subst, ◌∙◌, inl, inr, arith}
use Rattle.std.specs.Prelude.{cond, ◌==◌}
use Rattle.std.proofs.lemmas.Bool.{eq-eqb, eqb-true}
use Rattle.regent_tree.proofs.Members.{Has, Has-append_cases}
use Rattle.regent_tree.specs.Scopes.{bound_as, known_of_clause, known_of_clauses, known_of_params, known_of_type, scope_of}
use Rattle.regent_tree.specs.Typing.{parent_of}
use Rattle.regent_tree.specs.declared.program.Clause.{Clause}
use Rattle.regent_tree.specs.declared.program.Clause.TheVariants as clause
use Rattle.regent_tree.specs.Syntax.{TaskTree, Tree}
use Rattle.regent_tree.specs.declared.typing.Bound.{Bound}
use Rattle.regent_tree.specs.declared.typing.StaticType.{StaticType}
use Rattle.regent_tree.specs.declared.typing.StaticType.TheVariants.{Index as index_type, Integer as integer_type, Ispace as ispace_type, Nothing as no_type, Partition as partition_type, Pointer as pointer_type, Region as region_type, Truth as truth_type, Unknown as unknown_type}
use Rattle.check_laws.specs.SoundScopes.{Falls}
use Rattle.expression_laws.proofs.Params.{known_clause, known_param, own_numbered, param_as}
use Rattle.expression_laws.specs.Kinds.{IsNamedByOwnNumber}
use Rattle.regent_tree.specs.declared.facts.Known.{Known}
use Rattle.regent_tree.specs.declared.facts.Known.TheVariants.{PartOf}
use Rattle.code_laws.specs.Above.{first_told, whole_told}
use Rattle.code_laws.proofs.Told.{told_only}
use Rattle.code_laws.proofs.KnownHeads.{IsPartHere, IsToldHere, params_known}
use Rattle.code_laws.proofs.LocalValues.{found_among}

module _ (tree : Tree) (t : TaskTree) (falls : Falls (scope_of tree t).next (scope_of tree t).names) where
  own_type : (b : Bound) → Has (scope_of tree t).names b → IsNamedByOwnNumber b.number b.static_type
  own_type b h =
      let all = t.params in
      let found = (found_among (scope_of tree t).next (scope_of tree t).names b falls h).0 in
      subst (λ (c : Bound). IsNamedByOwnNumber b.number c.static_type) (sym (param_as tree all b.number) ∙ found)
      (own_numbered tree all 0 all b.number b.number (omega arith))

  -- of which region a partition is, by each fact that tells it
  same_parent : (b : Bound) → Has (scope_of tree t).names b → (d : Bool) (r p : ℕ) → b.static_type ≡ partition_type d r p → (c : Bound) → Has (scope_of tree t).names c →
      (u : StaticType) → c.static_type ≡ u → (k : Known) → Has (known_of_type u) k → (whole_told p k ≡ None) ⊎ (whole_told p k ≡ Some r)
  same_parent b h d r p is c g (partition_type e q n) like k (inl told) =
      subst (λ k. (whole_told p k ≡ None) ⊎ (whole_told p k ≡ Some r)) told (by (n == p) refl)
    where
      by : (f : Bool) → (n == p) ≡ f → (cond f (Some q) None ≡ None) ⊎ (cond f (Some q) None ≡ Some r)
      by false f = inl refl
      by true f =
          let own : p ≡ b.number = subst (IsNamedByOwnNumber b.number) is (own_type b h) in
          let other : n ≡ c.number = subst (IsNamedByOwnNumber c.number) like (own_type c g) in
          let one = (found_among (scope_of tree t).next (scope_of tree t).names b falls h).0 in
          let two = (found_among (scope_of tree t).next (scope_of tree t).names c falls g).0 in
          let same : c ≡ b = sym two ∙ ap (bound_as (scope_of tree t).names) (sym other ∙ eqb-true n p f ∙ own) ∙ one in
          inr (ap (λ u. Some (parent_of u)) (sym like ∙ ap (λ (b : Bound). b.static_type) same ∙ is))
  same_parent b h d r p is c g (partition_type e q n) like k (inr none) = absurd none
  same_parent b h d r p is c g (integer_type w) like k a = absurd a
  same_parent b h d r p is c g truth_type like k a = absurd a
  same_parent b h d r p is c g (index_type j) like k a = absurd a
  same_parent b h d r p is c g (ispace_type j) like k a = absurd a
  same_parent b h d r p is c g (pointer_type j sp args rs) like k a = absurd a
  same_parent b h d r p is c g (region_type j sp args q) like k a = absurd a
  same_parent b h d r p is c g no_type like k a = absurd a
  same_parent b h d r p is c g unknown_type like k a = absurd a

  clause_none : (p : ℕ) (c : Clause) (k : Known) → Has (known_of_clause t.params c) k → whole_told p k ≡ None
  clause_none p (clause.Within a b) k (inl e) = subst (λ k. whole_told p k ≡ None) e refl
  clause_none p (clause.Within a b) k (inr g) = absurd g
  clause_none p (clause.Apart a b) k (inl e) = subst (λ k. whole_told p k ≡ None) e refl
  clause_none p (clause.Apart a b) k (inr g) = absurd g
  clause_none p (clause.Grants grants places) k g = absurd g

  whole_first : (b : Bound) → Has (scope_of tree t).names b → (d : Bool) (r p : ℕ) → b.static_type ≡ partition_type d r p →
      first_told (whole_told p) (scope_of tree t).known ≡ Some r
  whole_first b h d r p is =
      let ks = known_of_params (scope_of tree t).names in
      let cs = known_of_clauses t.params t.clauses in
      told_only (whole_told p) (scope_of tree t).known r
      (λ k g. ⊎_elim
      (λ a. let c = known_param (scope_of tree t).names k a in same_parent b h d r p is c.0 c.1 c.0.static_type refl k c.2)
      (λ a. let c = known_clause t.params t.clauses k a in inl (clause_none p c.0 k c.2)) (Has-append_cases ks cs k g))
      (PartOf p r d) (params_known tree t b h (PartOf p r d) (subst (λ u. Has (known_of_type u) (PartOf p r d)) (sym is) (inl refl)))
      (ap (λ f. cond f (Some r) None) (eq-eqb p p refl))

  part_told : (b : Bound) → Has (scope_of tree t).names b → (u : StaticType) → b.static_type ≡ u → (k : Known) → Has (known_of_type u) k →
      IsToldHere (scope_of tree t) k
  part_told b h (partition_type d r p) same k (inl told) =
      let own : p ≡ b.number = subst (IsNamedByOwnNumber b.number) same (own_type b h) in
      let found = found_among (scope_of tree t).next (scope_of tree t).names b falls h in
      let low = found.1 in
      let here : IsPartHere (scope_of tree t) p r d = record {
        low = omega (arith, low, own);
        one = λ c there number.
            let other = (found_among (scope_of tree t).next (scope_of tree t).names c falls there).0 in
            ap (λ (b : Bound). b.static_type) (sym other ∙ ap (bound_as (scope_of tree t).names) (number ∙ own) ∙ found.0) ∙ same;
        told = whole_first b h d r p same;
      } in
      subst (IsToldHere (scope_of tree t)) told here
  part_told b h (partition_type d r p) same k (inr g) = absurd g
  part_told b h (integer_type w) same k g = absurd g
  part_told b h truth_type same k g = absurd g
  part_told b h (index_type j) same k g = absurd g
  part_told b h (ispace_type j) same k g = absurd g
  part_told b h (pointer_type j sp args rs) same k g = absurd g
  part_told b h (region_type j sp args r) same k g = absurd g
  part_told b h no_type same k g = absurd g
  part_told b h unknown_type same k g = absurd g

  pub params_tell : (b : Bound) → Has (scope_of tree t).names b → (k : Known) → Has (known_of_type b.static_type) k → IsToldHere (scope_of tree t) k
  params_tell b h = part_told b h b.static_type refl
