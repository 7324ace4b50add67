-- A variable begins with a new region or with a partition; one of a written type has a type like what it begins with.
use Rattle.std.proofs.Common.{◌≡◌, ℕ, suc, ◌≤◌, [], List, Some, Option, refl, sym, subst}
use Rattle.std.specs.Prelude.{length}
use Rattle.regent_tree.specs.Evaluation.{static_type_of, value}
use Rattle.regent_tree.specs.Execution.{after_statement, bind, exec}
use Rattle.regent_tree.specs.Initializers.{colours, initial_value, make_root, partitioned, read_all, region_named}
use Rattle.regent_tree.specs.Partitions.{both_flag, by_field_flag, by_field_sets, either_flag, equal_flag, equal_sets, preimage_flag}
use Rattle.regent_tree.specs.Running.{Here, Result, State, and_then, fails, given, gives}
use Rattle.regent_tree.specs.Scopes.{Scope, bound_to}
use Rattle.regent_tree.specs.Syntax.{Initializer, Name, Tree, both_initializer, by_field_initializer, either_initializer, equal_initializer, image_initializer, plain_initializer, preimage_initializer, region_initializer, var_form}
use Rattle.regent_tree.specs.Typing.{initializer_type, is_disjoint, var_type}
use Rattle.regent_tree.specs.Values.{Value, size_of}
use Rattle.regent_tree.specs.declared.facts.Term.TheVariants as term
use Rattle.regent_tree.specs.declared.types.TypeTerm.{TypeTerm}
use Rattle.regent_tree.specs.declared.typing.Bound.{Bound}
use Rattle.regent_tree.specs.declared.typing.StaticType.{StaticType}
use Rattle.regent_tree.specs.declared.typing.StaticType.TheVariants.{Partition as partition_type, Region as region_type}
use Rattle.task_code.specs.declared.instr.Instr.TheVariants as instr
use Rattle.machine_terms.specs.declared.order.Instance.{Instance}
use Rattle.code_rules.specs.Expressions.{expr_code}
use Rattle.code_rules.specs.Initializers.{new_place}
use Rattle.code_rules.specs.Pieces.{op, past}
use Rattle.code_rules.specs.Slots.{Where, slot, typed}
use Rattle.code_rules.specs.Statements.{form_code}
use Rattle.code_laws.specs.Pointers.{IsLike, IsPointed, like_partition, like_region}
use Rattle.code_laws.specs.Simple.{IsRegion, a_region_type, term_in}
use Rattle.code_laws.specs.Standing.{Agrees, Aside, Comes, Does, IsInside, IsOf, IsUnder, SlotsFit, Stands, of_partition, of_region, where_of}
use Rattle.code_laws.specs.Steps.{Forms, Setting, Taking, placed}
use Rattle.code_laws.specs.Taking.{BeginsWhole}
use Rattle.code_laws.specs.Typed.{CountsDown, IsBegunBy}
use Rattle.code_laws.proofs.Began.{whole_fresh}
use Rattle.code_laws.proofs.Besides.{HasNoPart, no_part_goes}
use Rattle.code_laws.proofs.Cuts.{GoodCut, equal_runs}
use Rattle.code_laws.proofs.Expressions.{value_runs}
use Rattle.code_laws.proofs.FieldCuts.{by_field_runs}
use Rattle.code_laws.proofs.Good.{Good, valued}
use Rattle.code_laws.proofs.ImageCuts.{image_runs, preimage_runs}
use Rattle.code_laws.proofs.Operations.{fetch_small}
use Rattle.code_laws.proofs.PairCuts.{both_runs, either_runs}
use Rattle.code_laws.proofs.Pointing.{region_pointed}
use Rattle.code_laws.proofs.Rows.{does_said}
use Rattle.code_laws.proofs.Runs.{comes_said, then}
use Rattle.code_laws.proofs.Under.{type_under, whole_under}
use Rattle.code_laws.proofs.Variables.{GoodInside, binds, region_runs}

-- ---- types that are alike

-- a variable without a written type has that of what it begins with
pub like_itself : (forms : Forms) (w : Where) (tree : Tree) (s : Scope) (own : ℕ) (start : Initializer) → IsBegunBy forms w start →
    IsLike (initializer_type tree s own start) (initializer_type tree s own start)
like_itself forms w tree s own (region_initializer e u) fine = like_region _ _ _ _ _ _
like_itself forms w tree s own (equal_initializer r e) fine = like_partition _ _ _ _ (λ q. q)
like_itself forms w tree s own (by_field_initializer r f e) fine = like_partition _ _ _ _ (λ q. q)
like_itself forms w tree s own (image_initializer a p r f) fine = like_partition _ _ _ _ (λ q. q)
like_itself forms w tree s own (preimage_initializer a p r f) fine = like_partition _ _ _ _ (λ q. q)
like_itself forms w tree s own (both_initializer p q) fine = like_partition _ _ _ _ (λ q. q)
like_itself forms w tree s own (either_initializer p q) fine = like_partition _ _ _ _ (λ q. q)
like_itself forms w tree s own (plain_initializer e) fine = absurd fine

like_no_part : (u t : StaticType) → IsLike u t → HasNoPart u
like_no_part _ _ (like_partition d e r q h) p c same = absurd cc
like_no_part _ _ (like_region j k sp args brgs r) p c same = absurd cc

-- what is of a type is of one like it
record IsSo (x : Setting) (s : State) (bs : List Bound) (t : StaticType) (v : Value) : Type 0 where
  typed : IsOf t v
  inside : IsInside x s.store t v
  pointed : IsPointed bs s.names t v

like_holds : (x : Setting) (s : State) (bs : List Bound) (u t : StaticType) (v : Value) → IsLike u t → IsOf t v → IsInside x s.store t v →
    IsPointed bs s.names t v → IsSo x s bs u v
like_holds x s bs _ _ _ (like_partition d e r p h) (of_partition _ _ _ q) i c = record { typed = of_partition d r p q; inside = i; pointed = c }
like_holds x s bs _ _ _ (like_region j k sp args brgs r) (of_region _ _ _ _ q) i c = record { typed = of_region j sp args r q; inside = i; pointed = c }

-- nor did it begin as a part
like_under : (takes : Option Taking) (bs : List Bound) (own : ℕ) (u t : StaticType) → IsLike u t → (IsRegion t → (term_in t ≡ term.Name own) × BeginsWhole takes own) →
    (names : List Value) (v : Value) → IsUnder takes bs names u v
like_under takes bs own _ _ (like_partition d e r p h) whole names v = type_under takes bs names (partition_type d r p) v (λ r. elim r [ ])
like_under takes bs own _ _ (like_region j k sp args brgs r) whole names v =
    let b = whole (a_region_type k sp brgs r) in
    subst (λ p. IsUnder takes bs names (region_type j sp args p) v) (sym b.0) (whole_under takes bs names j sp args own v b.1)

module _ (x : Setting) (params slots : ℕ) (fit : SlotsFit x slots) (counts : CountsDown) where
  -- a new region is one that a name may have
  region_comes : (aside : Aside 0) (h : Here) (t : StaticType) (to : ℕ) (i : Instance) (r : Result Value) → IsRegion t →
      Comes x i (valued to []) (GoodInside x params slots fit counts aside h t) r → Comes x i (valued to []) (GoodCut x params slots fit aside h t) r
  region_comes aside h t to i (gives v s) region c = (c.0, c.1, (c.2.0, c.2.1, region_pointed h.scope.names s.names t v region c.2.0, c.2.2))
  region_comes aside h t to i (fails f s) region c = c

  -- what it begins with is there, and the name is bound to it
  pub begins_as : (aside : Aside 0) (h : Here) (n : Name) (t : Option TypeTerm) (start : Initializer) (s : State) (pc to : ℕ) (i : Instance) →
      params ≤ length h.scope.names → IsLike (var_type h.tree h.scope t (Some start)) (initializer_type h.tree h.scope h.scope.next start) →
      (IsRegion (initializer_type h.tree h.scope h.scope.next start) →
      (term_in (initializer_type h.tree h.scope h.scope.next start) ≡ term.Name h.scope.next) × BeginsWhole x.forms.takes h.scope.next) →
      Comes x (placed pc [] i) (valued to []) (GoodCut x params slots fit aside h (initializer_type h.tree h.scope h.scope.next start))
      (initial_value h t (var_type h.tree h.scope t (Some start)) (Some start) s) →
      Stands x.body to (op (instr.Store (slot (where_of params h) (new_place (where_of params h)))) h.line) →
      Does x params slots aside (placed pc [] i) (suc to) (after_statement h (var_form n t (Some start))) (exec h (var_form n t (Some start)) s)
  begins_as aside h n t start s pc to i low like whole comes f =
      let u = var_type h.tree h.scope t (Some start) in
      let made = initializer_type h.tree h.scope h.scope.next start in
      then x (does_said x params slots fit counts aside (suc to) (after_statement h (var_form n t (Some start)))) (valued to [])
      (GoodCut x params slots fit aside h made) _ (initial_value h t u (Some start) s) (λ v. bind v) comes
      (λ v s1 j k.
      let so = like_holds x s1 h.scope.names u made v like k.0 k.1 k.2 in
      binds x params slots fit counts aside h n t (Some start) v s1 to j low so.typed so.inside so.pointed
      (like_under x.forms.takes h.scope.names h.scope.next u made like whole s1.names v)
      (no_part_goes _ j.contents (length s1.store) u v (like_no_part u made like)) k.3 f)

  pub begun_runs : (aside : Aside 0) (h : Here) (n : Name) (t : Option TypeTerm) (start : Initializer) (s : State) (pc : ℕ) (i : Instance) →
      params ≤ length h.scope.names → IsLike (var_type h.tree h.scope t (Some start)) (initializer_type h.tree h.scope h.scope.next start) →
      IsBegunBy x.forms (where_of params h) start → Agrees x params slots aside h s i →
      Stands x.body pc (form_code (where_of params h) (var_form n t (Some start))) →
      Does x params slots aside (placed pc [] i) (past (form_code (where_of params h) (var_form n t (Some start))) pc)
      (after_statement h (var_form n t (Some start))) (exec h (var_form n t (Some start)) s)
  begun_runs aside h n t (region_initializer e u) s pc i low like fine g f =
      let w = where_of params h in
      let a = past (expr_code w 0 e) pc in
      begins_as aside h n t (region_initializer e u) s pc (suc a) i low like (λ region. (refl, fine.4))
      (then x (comes_said x _ _) (valued a []) (Good x params slots fit aside h (typed w e)) _ (value h e s)
      (λ v. make_root h u (size_of v)) (value_runs x params slots fit aside h 0 low e s pc [] i fine.2 g f.0.0)
      (λ v s1 j k. region_comes aside h _ (suc a) _ (make_root h u (size_of v) s1) (a_region_type _ _ _ _)
      (region_runs x params slots fit counts aside h (typed w e) v u s1 a j _ _ _ fine.0 fine.1 fine.3 (whole_fresh x.forms.takes h.scope.next fine.4) k.0 k.1 f.0.1
      (fetch_small x.body (suc a) _ f.1)))) f.1
  begun_runs aside h n t (equal_initializer r e) s pc i low like fine g f =
      let w = where_of params h in
      let a = past (expr_code w 0 e) pc in
      begins_as aside h n t (equal_initializer r e) s pc (suc a) i low like (λ region. elim region [ ])
      (then x (comes_said x _ _) (valued a []) (Good x params slots fit aside h (typed w e)) _ (value h e s)
      (λ v. λ s1. and_then (colours h v s1) (λ k. λ s2. and_then (region_named h r s2) (λ q. given (partitioned q.root equal_flag (equal_sets q.points k)))))
      (value_runs x params slots fit aside h 0 low e s pc [] i fine.2 g f.0.0)
      (λ v s1 j k. equal_runs x params slots fit aside h (typed w e) v r h.scope.next s1 a j fine.1 fine.3 k.0 k.1 f.0.1
      (fetch_small x.body (suc a) _ f.1))) f.1
  begun_runs aside h n t (by_field_initializer r f2 e) s pc i low like fine g f =
      let w = where_of params h in
      let a = past (expr_code w 0 e) pc in
      begins_as aside h n t (by_field_initializer r f2 e) s pc (suc a) i low like (λ region. elim region [ ])
      (then x (comes_said x _ _) (valued a []) (Good x params slots fit aside h (typed w e)) _ (value h e s)
      (λ v. λ s1. and_then (colours h v s1) (λ k. λ s2. and_then (region_named h r s2) (λ q. λ s3. and_then (read_all h (static_type_of h r) q f2 s3)
      (λ c. given (partitioned q.root by_field_flag (by_field_sets q.points c.numbers k))))))
      (value_runs x params slots fit aside h 0 low e s pc [] i fine.2 g f.0.0)
      (λ v s1 j k. by_field_runs x params slots fit aside h (typed w e) v r f2 h.scope.next s1 a j fine.1 fine.3 k.0 k.1 f.0.1
      (fetch_small x.body (suc a) _ f.1))) f.1
  begun_runs aside h n t (image_initializer a p r f2) s pc i low like fine g f =
      begins_as aside h n t (image_initializer a p r f2) s pc (suc pc) i low like (λ region. elim region [ ])
      (image_runs x params slots fit aside h a p r f2 h.scope.next s pc i fine.1 fine.2 fine.3 fine.4 g f.0 (fetch_small x.body (suc pc) _ f.1)) f.1
  begun_runs aside h n t (preimage_initializer a p r f2) s pc i low like fine g f =
      begins_as aside h n t (preimage_initializer a p r f2) s pc (suc pc) i low like (λ region. elim region [ ])
      (preimage_runs x params slots fit aside h a p r f2 (preimage_flag (is_disjoint (bound_to h.scope.names p).static_type)) h.scope.next s pc i
      fine.1 fine.2 fine.3 fine.4 g f.0 (fetch_small x.body (suc pc) _ f.1)) f.1
  begun_runs aside h n t (both_initializer p q) s pc i low like fine g f =
      begins_as aside h n t (both_initializer p q) s pc (suc pc) i low like (λ region. elim region [ ])
      (both_runs x params slots fit aside h p q (both_flag (is_disjoint (bound_to h.scope.names p).static_type) (is_disjoint (bound_to h.scope.names q).static_type))
      h.scope.next s pc i fine.1 g f.0 (fetch_small x.body (suc pc) _ f.1)) f.1
  begun_runs aside h n t (either_initializer p q) s pc i low like fine g f =
      begins_as aside h n t (either_initializer p q) s pc (suc pc) i low like (λ region. elim region [ ])
      (either_runs x params slots fit aside h p q either_flag h.scope.next s pc i fine.1 g f.0 (fetch_small x.body (suc pc) _ f.1)) f.1
  begun_runs aside h n t (plain_initializer e) s pc i low like fine g f = absurd fine
