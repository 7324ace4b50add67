-- Loops over index spaces, over regions that have names, and over parts of partitions that have names.
use Rattle.std.proofs.Common.{◌≡◌, ◌⊎◌, inl, inr, ℕ, suc, ◌^◌, ◌<◌, ◌≤◌, [], ◌∷◌, ◌++◌, Bool, true, false, arith, pos, Option, Some, None, refl, sym, ap, ◌∙◌, subst, ⊎_elim}
use Rattle.std.specs.Prelude.{cond, get_or, length, ◌&&◌}
use Rattle.std.proofs.lemmas.Option.{none-some}
use Rattle.std.proofs.lemmas.List.{append_assoc, get_or-set_same}
use Rattle.plain_values.specs.Points.{has}
use Rattle.regent_tree.specs.Accesses.{space_in}
use Rattle.regent_tree.specs.Evaluation.{value}
use Rattle.regent_tree.specs.Execution.{Going, after_statement, exec, exec_block, items_of, looping, rounds as rounds_over}
use Rattle.regent_tree.specs.Running.{Here, Run, State}
use Rattle.regent_tree.specs.Scopes.{bound_as, bound_to, with_name}
use Rattle.regent_tree.specs.Syntax.{Name, Expression, number_expr, truth_expr, chain_expr, prefix_expr, call_expr, access_expr, convert_expr, is_null_expr, null_expr, cast_expr, space_expr, no_step, field_step, at_step, for_in_form, Form, Block, a_statement, call_form, no_statement, then_statement}
use Rattle.regent_tree.specs.Typing.{is_pointer, parent_of, reaches_of, scope_after_block, taken_from}
use Rattle.regent_tree.specs.Values.{Region, Value, a_region, region_of}
use Rattle.regent_tree.specs.declared.typing.StaticType.{StaticType}
use Rattle.task_code.specs.declared.instr.Instr.TheVariants as instr
use Rattle.machine_terms.specs.declared.order.Instance.{Instance}
use Rattle.machine_terms.specs.declared.value.Value.TheVariants as machine
use Rattle.check_rules.specs.launches.Shapes.{shape_of}
use Rattle.check_rules.specs.types.Declarations.{params_of}
use Rattle.check_rules.specs.types.KnownTypes.{known_type}
use Rattle.check_rules.specs.types.Sorts.{is_space}
use Rattle.code_rules.specs.Expressions.{expr_code}
use Rattle.code_rules.specs.Pieces.{Piece, op, past, rounds, ◌⨟◌}
use Rattle.code_rules.specs.Slots.{Where, beside, bound, counter, slot, typed}
use Rattle.code_rules.specs.Initializers.{new_place}
use Rattle.code_rules.specs.Instructions.{one}
use Rattle.code_rules.specs.Launches.{LaunchedCall, is_launch, launch_code, launched_call, one_call}
use Rattle.code_rules.specs.Statements.{block_code, form_code, in_one_step, looping as looping_in, on_line as on_code_line, points_code}
use Rattle.code_laws.specs.Arguments.{IsCutName}
use Rattle.code_laws.specs.Pointers.{AreReached, IsOfPart}
use Rattle.code_laws.specs.Simple.{IsRegion, IsSpace, a_region_type, a_space_type}
use Rattle.code_laws.specs.Standing.{Agrees, Aside, Does, IsInside, IsOf, SlotsFit, Stands, blank, nothing, of_region, of_space, program_of, where_of}
use Rattle.code_laws.specs.Steps.{Setting, placed}
use Rattle.code_laws.specs.Typed.{CountsDown, IsIndexed, IsNamedRegion, IsOwnCut, IsTyped, IsTypedBlock, LoopsOverPart, IsLooped, LoopsOver}
use Rattle.code_laws.proofs.Expressions.{value_runs}
use Rattle.code_laws.proofs.Good.{valued}
use Rattle.code_laws.proofs.LaunchRuns.{launch_runs}
use Rattle.code_laws.proofs.LaunchShapes.{AreForms, is_launched}
use Rattle.code_laws.proofs.Names.{Grown, block_grown}
use Rattle.code_laws.proofs.Operations.{named_runs}
pub use Rattle.code_laws.proofs.PartTypes.{IsChild, part_is}
use Rattle.code_laws.proofs.Parts.{GoodPart, IsColoured, cut_of, parent_inside, part_at_colour, part_lies_in, part_of_name, part_runs}
use Rattle.code_laws.proofs.Pointing.{own_reached}
use Rattle.code_laws.proofs.Reaching.{region_lies_in}
use Rattle.code_laws.proofs.RegionLoops.{regions_run}
use Rattle.code_laws.proofs.Rows.{does_as, does_before, does_said}
use Rattle.code_laws.proofs.Runs.{then}
use Rattle.code_laws.proofs.SpaceLoops.{spaces_run}
use Rattle.code_laws.proofs.States.{aside_stored, stored, stores}
use Rattle.code_laws.proofs.Values.{named}
use Rattle.code_laws.proofs.Wider.{loops_over, looped_over}

-- a region has a region's type
region_of_type : (t : StaticType) (q : Region) → IsRegion t → IsOf t (a_region q)
region_of_type _ q (a_region_type k sp args r) = of_region k sp args r q

-- and is no index space
no_space : (t : StaticType) → IsRegion t → is_space t ≡ false
no_space _ (a_region_type k sp args r) = refl

one_region : (d u : Region) → a_region d ≡ a_region u → d ≡ u
one_region d u e = ap region_of e

module _ (x : Setting) (params slots : ℕ) (fit : SlotsFit x slots) (counts : CountsDown) where
  -- a loop over a region that stands on the stack
  regions_over : (aside : Aside 0) (h h2 : Here) (name : Name) (t : StaticType) (v : Value) (body : Run Going) (code : Piece)
      (s : State) (pc : ℕ) (i : Instance) → IsRegion t → IsOf t v →
      ((q : Region) → v ≡ a_region q → ((n : ℕ) → has q.points n ≡ true → n < 2 ^ 32) × (q.root < length s.store)) →
      ((q : Region) → v ≡ a_region q → AreReached h.scope.names s.names (space_in t) (reaches_of (taken_from t)) (q ∷ [])) →
      params ≤ length h.scope.names → Agrees x params slots aside h s i →
      Stands x.body pc (op (instr.Store (beside (where_of params h) (length h.scope.names))) h.line) →
      Stands x.body (suc pc) (op (instr.Num (pos 0)) h.line) →
      Stands x.body (suc (suc pc)) (op (instr.Store (counter (where_of params h) (length h.scope.names))) h.line) →
      Stands x.body (suc (suc (suc pc))) (rounds (instr.NextPoint (beside (where_of params h) (length h.scope.names))
      (counter (where_of params h) (length h.scope.names)) (slot (where_of params h) (length h.scope.names)) (is_pointer (taken_from t))) h.line code) →
      Grown h.scope.names h2.scope.names → program_of h2 ≡ program_of h →
      ((aside2 : Aside 0) (s1 : State) (j : Instance) → Agrees x params slots aside2 (looping h name (taken_from t)) s1 j →
      Does x params slots aside2 (placed (suc (suc (suc (suc pc)))) [] j) (past code (suc (suc (suc (suc pc))))) h2 (body s1)) →
      Does x params slots aside (valued pc [] v i) (suc (past code (suc (suc (suc (suc pc)))))) h (rounds_over h (items_of v) body s)
  regions_over aside h h2 name _ _ body code s pc i (a_region_type k sp args r) (of_region _ _ _ _ q) inside reach low g f1 f2 f3 f4 grown same more =
      regions_run x params slots fit counts aside h h2 name k sp args (Some r) q body code s pc i (inside q refl).0 (inside q refl).1 low (reach q refl) g
      f1 f2 f3 f4 grown same more

  -- a loop point by point
  abbrev points_form : Here → Name → Expression → Block → Piece
  points_form h n domain body =
      let w = where_of params h in
      expr_code w 0 domain ⨟ one w (instr.Store (beside w (new_place w)))
      ⨟ points_code w (is_pointer (taken_from (typed w domain))) (block_code (looping_in w n (taken_from (typed w domain))) body)

  -- what a block of a loop comes to
  abbrev BlockRuns : Here → Block → Type 0
  BlockRuns h1 body = (aside2 : Aside 0) (s5 : State) (p : ℕ) (j5 : Instance) → Agrees x params slots aside2 h1 s5 j5 →
      Stands x.body p (block_code (where_of params h1) body) →
      Does x params slots aside2 (placed p [] j5) (past (block_code (where_of params h1) body) p)
      (record h1 { scope = scope_after_block h1.tree h1.scope body }) (exec_block h1 body s5)

  -- `for n in domain`, over an index space or a region that has a name
  points_run : (aside : Aside 0) (h : Here) (demanded : Bool) (n : Name) (domain : Expression) (body : Block) (s : State) (pc : ℕ)
      (i : Instance) → params ≤ length h.scope.names →
      IsSpace (typed (where_of params h) domain) ⊎ IsNamedRegion (where_of params h) domain → IsTyped x.forms (where_of params h) domain →
      Agrees x params slots aside h s i → Stands x.body pc (points_form h n domain body) →
      BlockRuns (looping h n (taken_from (typed (where_of params h) domain))) body →
      Does x params slots aside (placed pc [] i) (past (points_form h n domain body) pc)
      (after_statement h (for_in_form demanded n domain body)) (exec h (for_in_form demanded n domain body) s)
  points_run aside h demanded n domain body s pc i low (inl space) fine g f more =
      let w = where_of params h in
      let t = typed w domain in
      let a = past (expr_code w 0 domain) pc in
      let done = past (points_form h n domain body) pc in
      let h1 = looping h n (taken_from t) in
      let h2 = record h1 { scope = scope_after_block h.tree h1.scope body } in
      let grown = block_grown h.tree h1.scope body in
      does_as x params slots fit counts aside _ h (after_statement h (for_in_form demanded n domain body)) _ _ (refl, refl)
      (then x (does_said x params slots fit counts aside done h) _ _ _ (value h domain s) _
      (value_runs x params slots fit aside h 0 low domain s pc [] i fine g f.0)
      (λ v s1 j k1. spaces_run x params slots fit counts aside h h2 n t v (exec_block h1 body) (block_code (where_of params h1) body)
      s1 a j space k1.0 low k1.1 f.1.0 f.1.1.0 f.1.1.1.0 f.1.1.1.1
      (record { more = grown.more ++ _ ∷ []; are = grown.are ∙ sym (append_assoc grown.more (_ ∷ []) h.scope.names) }) refl
      (λ aside2 s5 j5 g5. more aside2 s5 (suc (suc (suc (suc a)))) j5 g5 f.1.1.1.1.1)))
  points_run aside h demanded n (access_expr q no_step) body s pc i low (inr p) fine g f more =
      let w = where_of params h in
      let domain = access_expr q no_step in
      let b = bound_to h.scope.names q in
      let t = b.static_type in
      let m = named IsOf h.scope.names s.names q g.typed fine.0 in
      let v = get_or s.names b.place nothing in
      let h1 = looping h n (taken_from t) in
      let h2 = record h1 { scope = scope_after_block h.tree h1.scope body } in
      let grown = block_grown h.tree h1.scope body in
      let r = named_runs x params slots fit aside h q s pc [] i fine.0 g f.0.0 in
      does_as x params slots fit counts aside _ h (after_statement h (for_in_form demanded n domain body)) _ _ (refl, refl)
      (does_before x params slots fit counts aside _ h _ _ _ r.1
      (regions_over aside h h2 n t v (exec_block h1 body) (block_code (where_of params h1) body) s (suc pc) r.0 p.0 m.holding
      (λ d e. let l = region_lies_in x s.store t d p.0 (subst (IsInside x s.store t) e (named (IsInside x s.store) h.scope.names s.names q g.inside_store fine.0).holding) in
      (λ k f. l.small k f, l.there))
      (λ d e. own_reached w b t s.names d p.1 g.typed e) low r.2.1 f.1.0 f.1.1.0 f.1.1.1.0 f.1.1.1.1
      (record { more = grown.more ++ _ ∷ []; are = grown.are ∙ sym (append_assoc grown.more (_ ∷ []) h.scope.names) }) refl
      (λ aside2 s5 j5 g5. more aside2 s5 (suc (suc (suc (suc (suc pc))))) j5 g5 f.1.1.1.1.1)))
  points_run aside h demanded n (access_expr q (field_step _ _)) body s pc i low (inr p) fine g f more = absurd p
  points_run aside h demanded n (access_expr q (at_step _ _)) body s pc i low (inr p) fine g f more = absurd p
  points_run aside h demanded n (number_expr _ _) body s pc i low (inr p) fine g f more = absurd p
  points_run aside h demanded n (truth_expr _) body s pc i low (inr p) fine g f more = absurd p
  points_run aside h demanded n (chain_expr _ _) body s pc i low (inr p) fine g f more = absurd p
  points_run aside h demanded n (prefix_expr _ _) body s pc i low (inr p) fine g f more = absurd p
  points_run aside h demanded n (call_expr _ _) body s pc i low (inr p) fine g f more = absurd p
  points_run aside h demanded n (convert_expr _ _) body s pc i low (inr p) fine g f more = absurd p
  points_run aside h demanded n (is_null_expr _) body s pc i low (inr p) fine g f more = absurd p
  points_run aside h demanded n (null_expr _) body s pc i low (inr p) fine g f more = absurd p
  points_run aside h demanded n (cast_expr _ _) body s pc i low (inr p) fine g f more = absurd p
  points_run aside h demanded n (space_expr _ _) body s pc i low (inr p) fine g f more = absurd p

  -- a part that stands on the stack
  part_over : (aside : Aside 0) (h : Here) (demanded : Bool) (n q : Name) (e : Expression) (body : Block) (v : Value) (s : State) (a : ℕ) (j : Instance) →
      params ≤ length h.scope.names → IsCutName (where_of params h) q → IsOwnCut (where_of params h) q →
      IsRegion (typed (where_of params h) (access_expr q (at_step e no_step))) → IsColoured h q e v s.names → Agrees x params slots aside h s j →
      Stands x.body a (op (instr.Store (beside (where_of params h) (length h.scope.names))) h.line) →
      Stands x.body (suc a) (op (instr.Num (pos 0)) h.line) →
      Stands x.body (suc (suc a)) (op (instr.Store (counter (where_of params h) (length h.scope.names))) h.line) →
      Stands x.body (suc (suc (suc a))) (rounds (instr.NextPoint (beside (where_of params h) (length h.scope.names))
      (counter (where_of params h) (length h.scope.names)) (slot (where_of params h) (length h.scope.names))
      (is_pointer (taken_from (typed (where_of params h) (access_expr q (at_step e no_step)))))) h.line
      (block_code (where_of params (looping h n (taken_from (typed (where_of params h) (access_expr q (at_step e no_step)))))) body)) →
      BlockRuns (looping h n (taken_from (typed (where_of params h) (access_expr q (at_step e no_step))))) body →
      Does x params slots aside (valued a [] v j)
      (suc (past (block_code (where_of params (looping h n (taken_from (typed (where_of params h) (access_expr q (at_step e no_step)))))) body)
      (suc (suc (suc (suc a)))))) h
      (rounds_over h (items_of v) (exec_block (looping h n (taken_from (typed (where_of params h) (access_expr q (at_step e no_step))))) body) s)
  part_over aside h demanded n q e body v s a j low cut own region coloured g f1 f2 f3 f4 more =
      let w = where_of params h in
      let t = typed w (access_expr q (at_step e no_step)) in
      let h1 = looping h n (taken_from t) in
      let h2 = record h1 { scope = scope_after_block h.tree h1.scope body } in
      let grown = block_grown h.tree h1.scope body in
      let r = parent_of (bound w q).static_type in
      let c = cut_of x params slots fit aside h s j q coloured.partition cut coloured.has_it g in
      let d = part_at_colour coloured.partition coloured.colour in
      let kind = part_is w q e own region in
      let lies = part_lies_in x.code s.store (space_in (bound_as h.scope.names r).static_type) c.parent coloured.partition coloured.colour c.root c.sets coloured.low
      (region_lies_in x s.store (bound_as h.scope.names r).static_type c.parent c.is.region
      (parent_inside x params slots fit aside h s j r coloured.partition c g)) in
      let reached : AreReached h.scope.names s.names (space_in t) (reaches_of (taken_from t)) (d ∷ []) =
      subst (λ u. AreReached h.scope.names s.names (space_in u) (reaches_of (taken_from u)) (d ∷ [])) (sym kind.is) (
        subst (λ sp. IsOfPart h.scope.names (bound_as h.scope.names (bound w q).number) (length h.scope.names) s.names sp (bound w q).number d) (sym kind.of_space)
            (part_of_name w s.names q coloured.partition coloured.colour cut coloured.low c),
        tt,
      ) in
      subst (λ v. Does x params slots aside (valued a [] v j) (suc (past (block_code (where_of params h1) body) (suc (suc (suc (suc a)))))) h
      (rounds_over h (items_of v) (exec_block h1 body) s)) (sym coloured.is)
      (regions_over aside h h2 n t (a_region d) (exec_block h1 body) (block_code (where_of params h1) body) s a j region (region_of_type t d region)
      (λ u same. subst (λ (u : Region). ((k : ℕ) → has u.points k ≡ true → k < 2 ^ 32) × (u.root < length s.store)) (one_region d u same) (λ k f. lies.small k f, lies.there))
      (λ u same. subst (λ (u : Region). AreReached h.scope.names s.names (space_in t) (reaches_of (taken_from t)) (u ∷ [])) (one_region d u same) reached) low g
      f1 f2 f3 f4
      (record { more = grown.more ++ _ ∷ []; are = grown.are ∙ sym (append_assoc grown.more (_ ∷ []) h.scope.names) }) refl
      (λ aside2 s5 j5 g5. more aside2 s5 (suc (suc (suc (suc a)))) j5 g5 f4.1))

  -- `for n in p[e]`
  parts_run : (aside : Aside 0) (h : Here) (demanded : Bool) (n : Name) (domain : Expression) (body : Block) (s : State) (pc : ℕ)
      (i : Instance) → params ≤ length h.scope.names → LoopsOverPart (where_of params h) domain (IsIndexed x.forms (where_of params h) domain) →
      Agrees x params slots aside h s i → Stands x.body pc (points_form h n domain body) →
      BlockRuns (looping h n (taken_from (typed (where_of params h) domain))) body →
      Does x params slots aside (placed pc [] i) (past (points_form h n domain body) pc)
      (after_statement h (for_in_form demanded n domain body)) (exec h (for_in_form demanded n domain body) s)
  parts_run aside h demanded n (access_expr q (at_step e no_step)) body s pc i low part g f more =
      let w = where_of params h in
      let domain = access_expr q (at_step e no_step) in
      let a = past (expr_code w 0 domain) pc in
      let done = past (points_form h n domain body) pc in
      does_as x params slots fit counts aside _ h (after_statement h (for_in_form demanded n domain body)) _ _ (refl, refl)
      (then x (does_said x params slots fit counts aside done h) (valued a []) (GoodPart x params slots fit aside h q e) _ (value h domain s) _
      (part_runs x params slots fit aside h 0 q e s pc [] i part.0
      (λ pc st. value_runs x params slots fit aside h 0 low e s pc [] i part.3.0 g st) part.3.1 g f.0)
      (λ v s1 j k. part_over aside h demanded n q e body v s1 a j low part.0 part.1 part.2 k.0 k.1 f.1.0 f.1.1.0 f.1.1.1.0 f.1.1.1.1 more))
  parts_run aside h demanded n (access_expr q (at_step e (field_step _ _))) body s pc i low part g f more = absurd part
  parts_run aside h demanded n (access_expr q (at_step e (at_step _ _))) body s pc i low part g f more = absurd part
  parts_run aside h demanded n (access_expr q no_step) body s pc i low part g f more = absurd part
  parts_run aside h demanded n (access_expr q (field_step _ _)) body s pc i low part g f more = absurd part
  parts_run aside h demanded n (number_expr _ _) body s pc i low part g f more = absurd part
  parts_run aside h demanded n (truth_expr _) body s pc i low part g f more = absurd part
  parts_run aside h demanded n (chain_expr _ _) body s pc i low part g f more = absurd part
  parts_run aside h demanded n (prefix_expr _ _) body s pc i low part g f more = absurd part
  parts_run aside h demanded n (call_expr _ _) body s pc i low part g f more = absurd part
  parts_run aside h demanded n (convert_expr _ _) body s pc i low part g f more = absurd part
  parts_run aside h demanded n (is_null_expr _) body s pc i low part g f more = absurd part
  parts_run aside h demanded n (null_expr _) body s pc i low part g f more = absurd part
  parts_run aside h demanded n (cast_expr _ _) body s pc i low part g f more = absurd part
  parts_run aside h demanded n (space_expr _ _) body s pc i low part g f more = absurd part

  -- a launch over a space that stands on the stack
  launched_run : (aside : Aside 0) (h : Here) (n : Name) (t1 t : StaticType) (v : Value) (c : LaunchedCall) (s : State) (a : ℕ) (j : Instance) → IsSpace t → IsOf t v →
      params ≤ length h.scope.names → Agrees x params slots aside h s j →
      AreForms (with_name h.scope n t1 true).names n (params_of h.tree c.task) 0 c.args →
      IsTypedBlock x.forms (where_of params (looping h n (taken_from t))) (then_statement (a_statement c.line (call_form c.task c.args)) no_statement) →
      Stands x.body a (op (instr.Store (beside (where_of params h) (length h.scope.names))) h.line) →
      Stands x.body (suc a) (launch_code (where_of params h) (on_code_line (looping_in (where_of params h) n (taken_from t)) c.line) n
      (beside (where_of params h) (length h.scope.names)) c) →
      Does x params slots aside (valued a [] v j)
      (past (launch_code (where_of params h) (on_code_line (looping_in (where_of params h) n (taken_from t)) c.line) n
      (beside (where_of params h) (length h.scope.names)) c) (suc a)) h
      (rounds_over h (items_of v) (exec_block (looping h n (taken_from t)) (then_statement (a_statement c.line (call_form c.task c.args)) no_statement)) s)
  launched_run aside h n t1 _ _ c s a j (a_space_type k0) (of_space _ m small) low g forms fine f1 f2 =
      let k = length h.scope.names in
      let l = beside (where_of params h) k in
      let up : aside.upto ≤ k = omega (arith, g.inside, g.count) in
      let g1 = aside_stored x params slots fit aside h s j k 2 (machine.Space m) low up (omega arith) (omega arith) (omega arith) refl g in
      does_before x params slots fit counts aside _ h _ _ _ (stores x params slots fit l a h.line (machine.Space m) [] j g.slots_are f1)
      (launch_runs x params slots fit counts aside h n k0 c.line c.task c.args t1 low m s (suc a) (stored l (machine.Space m) j) small forms fine.0 g1
      (get_or-set_same j.frame.slots l (machine.Space m) blank (omega (arith, g.slots_are, fit _ _ f1))) f2)

  pub domains_run : (aside : Aside 0) (h : Here) (demanded : Bool) (n : Name) (domain : Expression) (body : Block) (s : State) (pc : ℕ)
      (i : Instance) → params ≤ length h.scope.names →
      IsLooped x.forms.keeps (where_of params h) domain (IsTyped x.forms (where_of params h) domain) (IsIndexed x.forms (where_of params h) domain)
      (IsTypedBlock x.forms (where_of params (looping h n (taken_from (typed (where_of params h) domain)))) body) →
      Agrees x params slots aside h s i → Stands x.body pc (form_code (where_of params h) (for_in_form demanded n domain body)) →
      (IsTypedBlock x.forms (where_of params (looping h n (taken_from (typed (where_of params h) domain)))) body →
      BlockRuns (looping h n (taken_from (typed (where_of params h) domain))) body) →
      Does x params slots aside (placed pc [] i) (past (form_code (where_of params h) (for_in_form demanded n domain body)) pc)
      (after_statement h (for_in_form demanded n domain body)) (exec h (for_in_form demanded n domain body) s)
  domains_run aside h demanded n domain body s pc i low fine g f more = by (launched_call w form body) refl f
    where
      w : Where
      w = where_of params h

      form : Form
      form = for_in_form demanded n domain body

      t : StaticType
      t = typed w domain

      Body : Type 0
      Body = IsTypedBlock x.forms (where_of params (looping h n (taken_from t))) body

      points : Piece
      points = points_code w (is_pointer (taken_from t)) (block_code (looping_in w n (taken_from t)) body)

      piece : Option LaunchedCall → Piece
      piece o = expr_code w 0 domain ⨟ one w (instr.Store (beside w (new_place w))) ⨟ in_one_step w (looping_in w n (taken_from t)) n o points

      Goal : Option LaunchedCall → Type 0
      Goal o = Stands x.body pc (piece o) → Does x params slots aside (placed pc [] i) (past (piece o) pc) (after_statement h form) (exec h form s)

      none_over : IsRegion t → launched_call w form body ≡ None
      none_over region = ap (λ b. cond (b && is_launch (shape_of w.tree w.scope form)) (one_call body) None) (no_space t region)

      part_region : (e : Expression) → LoopsOverPart w e (IsIndexed x.forms w domain) → IsRegion (typed w e)
      part_region (access_expr q (at_step e no_step)) p = p.2
      part_region _ p = absurd p

      named_region : (e : Expression) → IsNamedRegion w e → IsRegion (typed w e)
      named_region (access_expr q no_step) p = p.0
      named_region _ p = absurd p

      by : (o : Option LaunchedCall) → launched_call w form body ≡ o → Goal (launched_call w form body)
      by None e = subst Goal (sym e) (λ f. ⊎_elim
          (λ (a : LoopsOver x.forms.keeps w domain × IsTyped x.forms w domain × Body).
          points_run aside h demanded n domain body s pc i low (loops_over x.forms.keeps w domain a.0) a.1 g f (more a.2))
          (λ (a : LoopsOverPart w domain (IsIndexed x.forms w domain) × Body). parts_run aside h demanded n domain body s pc i low a.0 g f (more a.1))
          (looped_over x.forms.keeps w domain _ _ Body fine))
      by (Some c) e = ⊎_elim
          (λ (a : LoopsOver x.forms.keeps w domain × IsTyped x.forms w domain × Body).
          ⊎_elim (λ space. subst Goal (sym e) (launches space a.1 a.2))
          (λ region. absurd (none-some c (sym (none_over (named_region domain region)) ∙ e))) (loops_over x.forms.keeps w domain a.0))
          (λ (a : LoopsOverPart w domain (IsIndexed x.forms w domain) × Body). absurd (none-some c (sym (none_over (part_region domain a.0)) ∙ e)))
          (looped_over x.forms.keeps w domain _ _ Body fine)
        where
          launches : IsSpace t → IsTyped x.forms w domain → Body → Goal (Some c)
          launches space fine_domain fine_body f =
              let is = is_launched w n domain c demanded body e in
              let done = past (piece (Some c)) pc in
              does_as x params slots fit counts aside _ h (after_statement h form) _ _ (refl, refl)
              (then x (does_said x params slots fit counts aside done h) _ _ _ (value h domain s) _
              (value_runs x params slots fit aside h 0 low domain s pc [] i fine_domain g f.0)
              (λ v s1 j k1. subst (λ b. Does x params slots aside (valued (past (expr_code w 0 domain) pc) [] v j) done h
              (rounds_over h (items_of v) (exec_block (looping h n (taken_from t)) b) s1)) (sym is.is)
              (launched_run aside h n (taken_from (known_type h.tree h.scope domain)) t v c s1 (past (expr_code w 0 domain) pc) j space k1.0 low k1.1 is.forms
              (subst (IsTypedBlock x.forms (where_of params (looping h n (taken_from t)))) is.is fine_body) f.1.0 f.1.1)))
