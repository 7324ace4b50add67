-- A variable that begins with the difference of two partitions.
use Rattle.std.proofs.Common.{◌≡◌, Bool, ℕ, suc, ◌≤◌, [], None, Some, refl, sym, ap, subst}
use Rattle.std.specs.Prelude.{length}
use Rattle.regent_tree.specs.Accesses.{converted, regions_reached}
use Rattle.regent_tree.specs.Evaluation.{value}
use Rattle.regent_tree.specs.Execution.{after_statement, bind, exec}
use Rattle.regent_tree.specs.Running.{Here, State}
use Rattle.regent_tree.specs.Scopes.{bound_to}
use Rattle.regent_tree.specs.Syntax.{Expression, Name, a_link, access_expr, chain_expr, no_link, no_step, plain_initializer, var_form}
use Rattle.regent_tree.specs.Typing.{initializer_type, is_disjoint, operated, owned, parent_of, reaches_of, var_type}
use Rattle.regent_tree.specs.declared.expression.Arithmetic.TheVariants.{Subtract}
use Rattle.regent_tree.specs.declared.expression.Operator.TheVariants.{Compute}
use Rattle.regent_tree.specs.declared.types.TypeTerm.{TypeTerm}
use Rattle.regent_tree.specs.declared.typing.StaticType.{StaticType}
use Rattle.regent_tree.specs.declared.typing.StaticType.TheVariants.{Partition as partition_type}
use Rattle.task_code.specs.declared.instr.Instr.TheVariants as instr
use Rattle.machine_terms.specs.declared.order.Instance.{Instance}
use Rattle.code_rules.specs.Initializers.{initializer_code, new_place, plain_code, written_code}
use Rattle.code_rules.specs.Instructions.{one}
use Rattle.code_rules.specs.Pieces.{Piece, op, past, ◌⨟◌}
use Rattle.code_rules.specs.Slots.{Where, slot, slot_bound, slot_named, typed}
use Rattle.code_rules.specs.Statements.{begun_form, form_code}
use Rattle.code_laws.specs.Pointers.{IsLike, IsPointed, like_partition}
use Rattle.code_laws.specs.Simple.{IsPartition, IsRegion, a_partition_type}
use Rattle.code_laws.specs.Standing.{Agrees, Aside, Comes, Does, IsInside, IsOf, SlotsFit, Stands, where_of}
use Rattle.code_laws.specs.Steps.{Setting, placed}
use Rattle.code_laws.specs.Typed.{CountsDown, IsDifference}
use Rattle.code_laws.proofs.Cuts.{GoodCut}
use Rattle.code_laws.proofs.Good.{valued}
use Rattle.code_laws.proofs.Operations.{fetch_small}
use Rattle.code_laws.proofs.PairCuts.{minus_runs}
use Rattle.code_laws.proofs.Rows.{does_said}
use Rattle.code_laws.proofs.Begun.{begins_as}
use Rattle.code_laws.proofs.Runs.{comes_said, leads_none, then}
use Rattle.code_laws.proofs.Variables.{binds}
use Rattle.code_laws.proofs.Besides.{HasNoPart, no_part_goes}
use Rattle.code_laws.proofs.Under.{type_under}

-- the code of a difference, and its type, by that of the first
difference_code : (w : Where) (p q : Name) (own : ℕ) (t u : StaticType) → IsPartition t →
    plain_code w (owned own (operated (Compute Subtract) t u)) (chain_expr (access_expr p no_step) (a_link (Compute Subtract) (access_expr q no_step) no_link))
    ≡ one w (instr.Minus (slot_named w p) (slot_named w q) (slot_bound w (parent_of t)))
difference_code w p q own _ u (a_partition_type d r k) = refl

pub difference_type : (own : ℕ) (t u : StaticType) → IsPartition t → owned own (operated (Compute Subtract) t u) ≡ partition_type (is_disjoint t) (parent_of t) own
difference_type own _ u (a_partition_type d r k) = refl

-- a type like a partition's is one of the same region
like_said : (u : StaticType) (e : Bool) (r p : ℕ) → IsLike u (partition_type e r p) → (d : Bool) × (u ≡ partition_type d r p)
like_said _ e r p (like_partition d _ _ _ h) = (d, refl)

no_region : (d : Bool) (r p : ℕ) → IsRegion (partition_type d r p) → ⊥
no_region d r p is = elim is [ ]

module _ (x : Setting) (params slots : ℕ) (fit : SlotsFit x slots) (counts : CountsDown) where
  -- one instruction makes the partition, which the name is bound to
  pub difference_begins : (aside : Aside 0) (h : Here) (n : Name) (e : Expression) (s : State) (pc : ℕ) (i : Instance) → params ≤ length h.scope.names →
      IsDifference (where_of params h) e → Agrees x params slots aside h s i →
      Stands x.body pc (begun_form (where_of params h) None (Some (plain_initializer e))) →
      Does x params slots aside (placed pc [] i) (past (begun_form (where_of params h) None (Some (plain_initializer e))) pc)
      (after_statement h (var_form n None (Some (plain_initializer e)))) (exec h (var_form n None (Some (plain_initializer e))) s)
  difference_begins aside h n (chain_expr (access_expr p no_step) (a_link (Compute Subtract) (access_expr q no_step) no_link)) s pc i low pair g f =
      let w = where_of params h in
      let a = (bound_to h.scope.names p).static_type in
      let b = (bound_to h.scope.names q).static_type in
      let start = Some (plain_initializer (chain_expr (access_expr p no_step) (a_link (Compute Subtract) (access_expr q no_step) no_link))) in
      let form = var_form n None start in
      let t = partition_type (is_disjoint a) (parent_of a) h.scope.next in
      let type : var_type h.tree h.scope None start ≡ t = difference_type h.scope.next a b pair.first.partition in
      let code : initializer_code w None (var_type h.tree h.scope None start) start ≡ one w (instr.Minus (slot_named w p) (slot_named w q) (slot_bound w (parent_of a))) =
      difference_code w p q h.scope.next a b pair.first.partition in
      let k = slot w (new_place w) in
      let there : past (initializer_code w None (var_type h.tree h.scope None start) start) pc ≡ suc pc = ap (λ c. past c pc) code in
      let f2 : Stands x.body (suc pc) (op (instr.Store k) h.line) = subst (λ p. Stands x.body p (op (instr.Store k) h.line)) there f.1 in
      subst (λ p. Does x params slots aside (placed pc [] i) (suc p) (after_statement h form) (exec h form s)) (sym there)
      (then x (does_said x params slots fit counts aside (suc (suc pc)) (after_statement h form)) (valued (suc pc) []) (GoodCut x params slots fit aside h t) _
      (value h (chain_expr (access_expr p no_step) (a_link (Compute Subtract) (access_expr q no_step) no_link)) s) (λ v. bind v)
      (minus_runs x params slots fit aside h p q (is_disjoint a) h.scope.next s pc i pair g (subst (Stands x.body pc) code f.0) (fetch_small x.body (suc pc) _ f2))
      (λ v s1 j k1. binds x params slots fit counts aside h n None start v s1 (suc pc) j low (subst (λ u. IsOf u v) (sym type) k1.0)
      (subst (λ u. IsInside x s1.store u v) (sym type) k1.1) (subst (λ u. IsPointed h.scope.names s1.names u v) (sym type) k1.2)
      (type_under x.forms.takes h.scope.names s1.names (var_type h.tree h.scope None start) v (subst (λ u. IsRegion u → ⊥) (sym type) (λ r. elim r [ ])))
      (no_part_goes _ j.contents (length s1.store) (var_type h.tree h.scope None start) v (subst HasNoPart (sym type) (λ p c e. absurd cc))) k1.3 f2))
  difference_begins aside h n _ s pc i low d g f = absurd d

  -- so where its type is written, which is like that of the difference
  pub difference_said : (aside : Aside 0) (h : Here) (n : Name) (t : TypeTerm) (e : Expression) (s : State) (pc : ℕ) (i : Instance) → params ≤ length h.scope.names →
      IsDifference (where_of params h) e →
      IsLike (var_type h.tree h.scope (Some t) (Some (plain_initializer e))) (initializer_type h.tree h.scope h.scope.next (plain_initializer e)) →
      Agrees x params slots aside h s i → Stands x.body pc (begun_form (where_of params h) (Some t) (Some (plain_initializer e))) →
      Does x params slots aside (placed pc [] i) (past (begun_form (where_of params h) (Some t) (Some (plain_initializer e))) pc)
      (after_statement h (var_form n (Some t) (Some (plain_initializer e)))) (exec h (var_form n (Some t) (Some (plain_initializer e))) s)
  difference_said aside h n t (chain_expr (access_expr p no_step) (a_link (Compute Subtract) (access_expr q no_step) no_link)) s pc i low pair like g f =
      let w = where_of params h in
      let e = chain_expr (access_expr p no_step) (a_link (Compute Subtract) (access_expr q no_step) no_link) in
      let a = (bound_to h.scope.names p).static_type in
      let b = (bound_to h.scope.names q).static_type in
      let start = plain_initializer e in
      let form = var_form n (Some t) (Some start) in
      let u = var_type h.tree h.scope (Some t) (Some start) in
      let made = initializer_type h.tree h.scope h.scope.next start in
      let cut = partition_type (is_disjoint a) (parent_of a) h.scope.next in
      let type : made ≡ cut = difference_type h.scope.next a b pair.first.partition in
      let said = like_said u (is_disjoint a) (parent_of a) h.scope.next (subst (IsLike u) type like) in
      let code : written_code w u e ≡ one w (instr.Minus (slot_named w p) (slot_named w q) (slot_bound w (parent_of a))) = ap (λ v. written_code w v e) said.1 in
      let store = one w (instr.Store (slot w (new_place w))) in
      let f2 : Stands x.body pc (one w (instr.Minus (slot_named w p) (slot_named w q) (slot_bound w (parent_of a))) ⨟ store) =
      subst (λ (c : Piece). Stands x.body pc (c ⨟ store)) code f in
      subst (λ (c : Piece). Does x params slots aside (placed pc [] i) (past (c ⨟ store) pc) (after_statement h form) (exec h form s)) (sym code)
      (begins_as x params slots fit counts aside h n (Some t) start s pc (suc pc) i low like
      (λ region. absurd (no_region (is_disjoint a) (parent_of a) h.scope.next (subst IsRegion type region)))
      (then x (comes_said x (valued (suc pc) []) (GoodCut x params slots fit aside h made)) (valued (suc pc) []) (GoodCut x params slots fit aside h made) _ (value h e s) _
      (subst (λ y. Comes x (placed pc [] i) (valued (suc pc) []) (GoodCut x params slots fit aside h y) (value h e s)) (sym type)
      (minus_runs x params slots fit aside h p q (is_disjoint a) h.scope.next s pc i pair g f2.0 (fetch_small x.body (suc pc) _ f2.1)))
      (λ v s1 j k. subst (λ y. Comes x (valued (suc pc) [] v j) (valued (suc pc) []) (GoodCut x params slots fit aside h made)
      (converted h (typed w e) y (regions_reached h.scope s1.names (reaches_of y)) v s1)) (sym said.1) (j, leads_none x _, k)))
      f2.1)
  difference_said aside h n t _ s pc i low d like g f = absurd d
