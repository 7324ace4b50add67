-- Single operations of expressions: arithmetic, comparisons, prefixes, names, jumps and conversions.
use Rattle.machine_terms.specs.Machine.{faults, next, when}
use Rattle.regent_tree.specs.declared.types.Kind.{Kind}
use Rattle.std.proofs.Common.{◌≡◌, ◌⊎◌, inl, inr, ℕ, suc, ◌^◌, ◌<◌, ℤ, negsuc, pos, List, ◌∷◌, Bool, true, false, Option, Some, None, refl, subst, sym, ap, ◌∙◌, arith}
use Rattle.lane_kernels.specs.declared.numbers.Width.TheVariants.{W32, W64}
use Rattle.regent_tree.specs.declared.types.NumberTerm.{NumberTerm}
use Rattle.std.proofs.lemmas.Int.{SFits-int_wrap, int_wrap_fits}
use Rattle.lane_kernels.specs.Numbers.{FitsWidth, std_width}
use Rattle.std.specs.Prelude.{get_or, length, not, nat_le, nat_lt, slice_get}
use Rattle.std.proofs.lemmas.Bool.{leb-true, ltb-true}
use Rattle.std.proofs.lemmas.Option.{slice_get-get_or, none-some}
use Rattle.lane_kernels.specs.declared.numbers.Width.{Width}
use Rattle.regent_tree.specs.declared.expression.Arithmetic.{Arithmetic}
use Rattle.regent_tree.specs.declared.expression.Comparison.{Comparison}
use Rattle.regent_tree.specs.declared.expression.Operator.TheVariants.{Compare, Compute}
use Rattle.regent_tree.specs.declared.expression.Sign.{Sign}
use Rattle.regent_tree.specs.declared.outcome.FaultKind.TheVariants.{BadSize, DivideByZero}
use Rattle.regent_tree.specs.declared.typing.StaticType.{StaticType}
use Rattle.regent_tree.specs.declared.typing.StaticType.TheVariants.{Index as index_type, Integer as integer_type, Ispace as ispace_type, Truth as truth_type}
use Rattle.regent_tree.specs.Lookup.{is_bound}
use Rattle.regent_tree.specs.Scopes.{bound_to}
use Rattle.regent_tree.specs.Syntax.{Name}
use Rattle.regent_tree.specs.Numbers.{computed, wider}
use Rattle.regent_tree.specs.Values.{Value, a_number, an_index, a_space, a_truth, number_of, truth_of, Region}
use Rattle.regent_tree.specs.StaticTypes.{number_type}
use Rattle.regent_tree.specs.Typing.{operated, signed_type}
use Rattle.regent_tree.specs.Running.{State, Here, Run, fault, given, if_true, gives}
use Rattle.regent_tree.specs.Operators.{unless_divided, all_signed, combined, negated, operand, as_number, space_of_size}
use Rattle.regent_tree.specs.Accesses.{standing, converted}
use Rattle.regent_tree.specs.Evaluation.{named_value}
use Rattle.task_code.specs.declared.instr.Instr.{Instr}
use Rattle.task_code.specs.declared.instr.Instr.TheVariants as instr
use Rattle.machine_terms.specs.declared.order.Contents.{Contents}
use Rattle.machine_terms.specs.declared.value.Value.{Value as MachineValue}
use Rattle.machine_terms.specs.declared.value.Value.TheVariants as machine
use Rattle.machine_terms.specs.Numbers.{divided, load}
use Rattle.machine_terms.specs.Segments.{act}
use Rattle.machine_terms.specs.declared.order.Ended.TheVariants.{Broke}
use Rattle.machine_terms.specs.declared.order.Instance.{Instance}
use Rattle.machine_terms.specs.declared.order.Resumed.TheVariants.{GoesOn, IsOver}
use Rattle.code_rules.specs.Pieces.{op, past}
use Rattle.task_code.specs.declared.code.Line.{Line}
use Rattle.machine_terms.specs.Jumps.{fetch}
use Rattle.code_rules.specs.Slots.{slot, slot_named}
use Rattle.code_rules.specs.Instructions.{converted_code, signs_code, standing_code, operand_code, computing, comparing, operating, one, as_number_code}
use Rattle.code_laws.specs.Steps.{is_issue}
use Rattle.code_laws.specs.Steps.{Setting, machine_of, placed, on_step, Leads}
use Rattle.code_laws.specs.Standing.{Stands, machine_value, IsOf, of_index, of_integer, of_space, of_truth, nothing, blank, Aside, SlotsFit, where_of, Agrees, Comes}
use Rattle.code_laws.specs.Simple.{AreComparable, compare_numbers, compare_truths, IsNumber, number_index, number_integer, IsInteger, an_integer, IsTruth, a_truth_type, AreAlike, two_integers, two_truths, IsScalar, scalar_integer, scalar_truth, SignsFit, of_a_truth, of_an_integer, not_before, minus_before, IsIntegerTerm, term_32, term_64}
use Rattle.code_laws.proofs.Runs.{behind_alone, leads_none, leads_twice, leads_by, ends_alone, ends_by, comes_before}
use Rattle.code_laws.proofs.Good.{valued, Good, Gives, pushes}
use Rattle.code_laws.proofs.Values.{jump_later, load_value, named, act_computing, act_comparing, comparing_alone, computing_alone, computed_fits}

-- an instruction stands at a place of 32 bits
pub fetch_small : (body : List Line) (pc : ℕ) (l : Line) → fetch body pc ≡ Some l → pc < 2 ^ 32
fetch_small body pc l e = by (nat_lt pc (2 ^ 32)) refl e
  where
    by : (b : Bool) → nat_lt pc (2 ^ 32) ≡ b →
        elim b [ true ↦ slice_get body pc | false ↦ None ] ≡ Some l → pc < 2 ^ 32
    by true q e = ltb-true pc (2 ^ 32) q
    by false q e = absurd (none-some l e)

module _ (x : Setting) (params slots : ℕ) (fit : SlotsFit x slots) {deep : ℕ} (aside : Aside deep) where
  -- ---- arithmetic

  pub divided_runs : (h : Here) (w : Width) (t : StaticType) (made : ℤ → Value) (s : State) (pc : ℕ)
      (before st : List MachineValue) (i : Instance) (ins : Instr) (line : ℕ) → is_issue ins ≡ false →
      ((z : ℤ) → FitsWidth w z → IsOf t (made z)) → ((z : ℤ) → machine_value i.contents (made z) ≡ machine.Number z) →
      h.line ≡ line → Stands x.body pc (op ins line) →
      Agrees x params slots aside h s i → (r : Option ℤ) → ((z : ℤ) → r ≡ Some z → FitsWidth w z) →
      act x.code x.body ins line (machine_of (placed pc before i))
      ≡ divided r line st (machine_of (placed pc before i)) →
      Gives x params slots fit aside h t (op ins line) pc before st i (unless_divided h made r s)
  divided_runs h w t made s pc before st i ins line alone typed number hl f a (Some z) fits e =
      pushes x params slots fit aside h t (made z) s pc before st i ins line f
      (typed z (fits z refl)) a
      (behind_alone x ins alone _ ∙ ap (on_step x (placed pc before i)) e ∙ ap (λ v. GoesOn (placed (suc pc) (v ∷ st) i)) (sym (number z)))
  divided_runs h w t made s pc before st i ins line alone typed number hl f a None fits e =
      ends_alone x _ _ ins line alone f
      (ap (on_step x (placed pc before i)) e
      ∙ ap (λ l. IsOver (Broke (Some (record { kind = DivideByZero; line = l })) i.text)) (sym hl)
      ∙ ap (λ u. IsOver (Broke (Some (record { kind = DivideByZero; line = h.line })) u)) a.text)

  -- the arithmetic of two numbers: of integers an integer, and else an index
  pub compute_runs : (c : Contents) (h : Here) (o : Arithmetic) (t u : StaticType) (v w : Value) (s : State) (pc : ℕ)
      (st : List MachineValue) (i : Instance) → IsNumber t → IsNumber u → IsOf t v → IsOf u w →
      Agrees x params slots aside h s i →
      Stands x.body pc (one (where_of params h) (operating (Compute o) t u)) →
      Gives x params slots fit aside h (operated (Compute o) t u) (one (where_of params h) (operating (Compute o) t u)) pc
      (machine_value i.contents w ∷ machine_value c v ∷ st) st i (combined h (Compute o) v w s)
  compute_runs c h o _ _ _ _ s pc st i (number_integer a) (number_integer b) (of_integer _ y _) (of_integer _ z _) g f =
      divided_runs h (wider a b) (integer_type (wider a b)) (a_number (wider a b)) s pc (machine.Number z ∷ machine.Number y ∷ st) st i
      (computing o (wider a b)) h.line (computing_alone o (wider a b)) (λ r p. of_integer (wider a b) r p) (λ r. refl) refl f
      g (computed o (wider a b) y z) (computed_fits o (wider a b) y z)
      (act_computing x.code x.body o (wider a b) h.line _)
  compute_runs c h o _ _ _ _ s pc st i (number_index k) (number_integer b) (of_index _ y _) (of_integer _ z _) g f =
      divided_runs h W64 (index_type k) an_index s pc (machine.Number z ∷ machine.Number y ∷ st) st i
      (computing o W64) h.line (computing_alone o W64) (λ r p. of_index k r p) (λ r. refl) refl f
      g (computed o W64 y z) (computed_fits o W64 y z) (act_computing x.code x.body o W64 h.line _)
  compute_runs c h o _ _ _ _ s pc st i (number_integer a) (number_index k) (of_integer _ y _) (of_index _ z _) g f =
      divided_runs h W64 (index_type k) an_index s pc (machine.Number z ∷ machine.Number y ∷ st) st i
      (computing o W64) h.line (computing_alone o W64) (λ r p. of_index k r p) (λ r. refl) refl f
      g (computed o W64 y z) (computed_fits o W64 y z) (act_computing x.code x.body o W64 h.line _)
  compute_runs c h o _ _ _ _ s pc st i (number_index k) (number_index n) (of_index _ y _) (of_index _ z _) g f =
      divided_runs h W64 (index_type k) an_index s pc (machine.Number z ∷ machine.Number y ∷ st) st i
      (computing o W64) h.line (computing_alone o W64) (λ r p. of_index k r p) (λ r. refl) refl f
      g (computed o W64 y z) (computed_fits o W64 y z) (act_computing x.code x.body o W64 h.line _)

  -- ---- comparisons

  pub compare_runs : (below : Contents) (h : Here) (c : Comparison) (t u : StaticType) (v w : Value) (s : State) (pc : ℕ)
      (st : List MachineValue) (i : Instance) → AreComparable t u → IsOf t v → IsOf u w →
      Agrees x params slots aside h s i →
      Stands x.body pc (one (where_of params h) (operating (Compare c) t u)) →
      Gives x params slots fit aside h truth_type (one (where_of params h) (operating (Compare c) t u)) pc
      (machine_value i.contents w ∷ machine_value below v ∷ st) st i (combined h (Compare c) v w s)
  compare_runs below h c _ _ _ _ s pc st i (compare_numbers _ _ (number_integer a) (number_integer b)) (of_integer _ y _) (of_integer _ z _) g f =
      pushes x params slots fit aside h truth_type _ s pc _ st i (comparing c false) h.line f (of_truth _) g
      (behind_alone x (comparing c false) (comparing_alone c) _ ∙ ap (on_step x (placed pc (machine.Number z ∷ machine.Number y ∷ st) i)) (act_comparing x.code x.body c h.line _))
  compare_runs below h c _ _ _ _ s pc st i (compare_numbers _ _ (number_integer a) (number_index n)) (of_integer _ y _) (of_index _ z _) g f =
      pushes x params slots fit aside h truth_type _ s pc _ st i (comparing c false) h.line f (of_truth _) g
      (behind_alone x (comparing c false) (comparing_alone c) _ ∙ ap (on_step x (placed pc (machine.Number z ∷ machine.Number y ∷ st) i)) (act_comparing x.code x.body c h.line _))
  compare_runs below h c _ _ _ _ s pc st i (compare_numbers _ _ (number_index k) (number_integer b)) (of_index _ y _) (of_integer _ z _) g f =
      pushes x params slots fit aside h truth_type _ s pc _ st i (comparing c false) h.line f (of_truth _) g
      (behind_alone x (comparing c false) (comparing_alone c) _ ∙ ap (on_step x (placed pc (machine.Number z ∷ machine.Number y ∷ st) i)) (act_comparing x.code x.body c h.line _))
  compare_runs below h c _ _ _ _ s pc st i (compare_numbers _ _ (number_index k) (number_index n)) (of_index _ y _) (of_index _ z _) g f =
      pushes x params slots fit aside h truth_type _ s pc _ st i (comparing c false) h.line f (of_truth _) g
      (behind_alone x (comparing c false) (comparing_alone c) _ ∙ ap (on_step x (placed pc (machine.Number z ∷ machine.Number y ∷ st) i)) (act_comparing x.code x.body c h.line _))
  compare_runs below h c _ _ _ _ s pc st i compare_truths (of_truth a) (of_truth b) g f =
      pushes x params slots fit aside h truth_type _ s pc _ st i (comparing c false) h.line f (of_truth _) g
      (behind_alone x (comparing c false) (comparing_alone c) _ ∙ ap (on_step x (placed pc (machine_value i.contents (a_truth b) ∷ machine_value below (a_truth a) ∷ st) i)) (act_comparing x.code x.body c h.line _))

  -- ---- prefixes

  pub not_runs : (u : Value) (pc line : ℕ) (st : List MachineValue) (i : Instance) →
      IsOf truth_type u → Stands x.body pc (op instr.Not line) →
      Leads x (valued pc st u i) (valued (suc pc) st (a_truth (not (truth_of u))) i)
  not_runs _ pc line st i (of_truth true) f = leads_by x _ _ instr.Not line f refl
  not_runs _ pc line st i (of_truth false) f = leads_by x _ _ instr.Not line f refl

  pub minus_runs : (w : Width) (u : Value) (pc line : ℕ) (st : List MachineValue) (i : Instance) →
      IsOf (integer_type w) u → Stands x.body pc (op (instr.Neg w) line) →
      Leads x (valued pc st u i) (valued (suc pc) st (negated u) i)
  minus_runs w _ pc line st i (of_integer _ z _) f = leads_by x _ _ (instr.Neg w) line f refl

  pub minus_typed : (w : Width) (u : Value) → IsOf (integer_type w) u → IsOf (integer_type w) (negated u)
  minus_typed w _ (of_integer _ z _) = of_integer w _ (SFits-int_wrap (std_width w) _)

  pub signs_typed : (t : StaticType) (signs : List Sign) (v : Value) → SignsFit t signs → IsOf t v →
      IsOf t (all_signed signs v)
  signs_typed _ _ v of_a_truth o = o
  signs_typed _ _ v (of_an_integer w) o = o
  signs_typed _ _ v (not_before ss fit) o = of_truth _
  signs_typed _ _ v (minus_before w ss fit) o = minus_typed w _ (signs_typed _ ss v fit o)

  pub signs_run : (h : Here) (t : StaticType) (signs : List Sign) (v : Value) (pc : ℕ)
      (st : List MachineValue) (i : Instance) → SignsFit t signs → IsOf t v →
      Stands x.body pc (signs_code (where_of params h) t signs) →
      Leads x (valued pc st v i)
      (valued (past (signs_code (where_of params h) t signs) pc) st (all_signed signs v) i)
  signs_run h _ _ v pc st i of_a_truth o f = leads_none x _
  signs_run h _ _ v pc st i (of_an_integer w) o f = leads_none x _
  signs_run h _ _ v pc st i (not_before ss fit) o f =
      leads_twice x (signs_run h _ ss v pc st i fit o f.0)
      (not_runs _ _ h.line st i (signs_typed _ ss v fit o) f.1)
  signs_run h _ _ v pc st i (minus_before w ss fit) o f =
      leads_twice x (signs_run h _ ss v pc st i fit o f.0)
      (minus_runs w _ _ h.line st i (signs_typed _ ss v fit o) f.1)

  -- integers and truths have the type of what prefixes make of them
  pub same_type : (t : StaticType) (signs : List Sign) → SignsFit t signs → t ≡ signed_type signs t
  same_type _ _ of_a_truth = refl
  same_type _ _ (of_an_integer w) = refl
  same_type _ _ (not_before ss fit) = refl
  same_type _ _ (minus_before w ss fit) = refl

  -- ---- operands that are no pointers

  pub plain_signs : (t : StaticType) (signs : List Sign) → SignsFit t signs → IsScalar t
  plain_signs _ _ of_a_truth = scalar_truth
  plain_signs _ _ (of_an_integer w) = scalar_integer w
  plain_signs _ _ (not_before ss fit) = scalar_truth
  plain_signs _ _ (minus_before w ss fit) = scalar_integer w

  -- a value that stands for itself
  pub standing_runs : (h : Here) (t : StaticType) (v : Value) (s : State) (pc : ℕ)
      (st : List MachineValue) (i : Instance) → IsScalar t → IsOf t v → Agrees x params slots aside h s i →
      Gives x params slots fit aside h t (standing_code (where_of params h) t) pc (machine_value i.contents v ∷ st) st i (standing h v s)
  standing_runs h _ _ s pc st i (scalar_integer w) (of_integer _ z p) g =
      (i, leads_none x _, (of_integer w z p, g))
  standing_runs h _ _ s pc st i scalar_truth (of_truth b) g = (i, leads_none x _, (of_truth b, g))

  pub alike_right : (t u : StaticType) → AreAlike t u → IsScalar u
  alike_right _ _ (two_integers a b) = scalar_integer b
  alike_right _ _ two_truths = scalar_truth

  pub truth_of_type : (t : StaticType) (v : Value) → IsTruth t → IsOf t v → IsOf truth_type v
  truth_of_type _ v a_truth_type o = o

  -- ---- names

  -- the value of a name goes on the stack
  pub named_loads : (h : Here) (n : Name) (s : State) (pc : ℕ) (st : List MachineValue) (i : Instance) →
      is_bound h.scope.names n ≡ true → Agrees x params slots aside h s i →
      Stands x.body pc (one (where_of params h) (instr.Load (slot_named (where_of params h) n))) →
      Leads x (placed pc st i) (valued (suc pc) st (get_or s.names (bound_to h.scope.names n).place nothing) i)
  named_loads h n s pc st i b g f =
      let w = where_of params h in
      let m = named IsOf h.scope.names s.names n g.typed b in
      let place = (bound_to h.scope.names n).place in
      let v = get_or s.names place nothing in
      let there : slot w place < length i.frame.slots = omega (arith, fit pc _ f, g.slots_are) in
      let below : place < length s.names = omega (arith, m.below, g.count) in
      leads_by x (placed pc st i) (valued (suc pc) st v i) _ h.line f
      (ap (on_step x (placed pc st i))
      (ap (load (machine_of (placed pc st i)))
      (slice_get-get_or i.frame.slots (slot w place) blank there ∙ ap Some (g.names place below))
      ∙ load_value i.contents v (machine_of (placed pc st i))))

  pub named_runs : (h : Here) (n : Name) (s : State) (pc : ℕ) (st : List MachineValue) (i : Instance) →
      is_bound h.scope.names n ≡ true → Agrees x params slots aside h s i →
      Stands x.body pc (one (where_of params h) (instr.Load (slot_named (where_of params h) n))) →
      Gives x params slots fit aside h (bound_to h.scope.names n).static_type
      (one (where_of params h) (instr.Load (slot_named (where_of params h) n))) pc st st i
      (named_value h n s)
  named_runs h n s pc st i b g f =
      (i, named_loads h n s pc st i b g f, ((named IsOf h.scope.names s.names n g.typed b).holding, g))

  -- ---- and, or

  pub or_jumps : (h : Here) (pc to : ℕ) (st : List MachineValue) (i : Instance) → pc < to →
      Stands x.body pc (op (instr.OrJump to) h.line) →
      Leads x (valued pc st (a_truth true) i) (valued to st (a_truth true) i)
  or_jumps h pc to st i l f = leads_by x _ _ (instr.OrJump to) h.line f
      (ap (on_step x (valued pc st (a_truth true) i))
      (jump_later x.body to (machine.Number (pos 1) ∷ st) (machine_of (valued pc st (a_truth true) i)) l))

  pub or_goes_on : (h : Here) (pc to : ℕ) (st : List MachineValue) (i : Instance) →
      Stands x.body pc (op (instr.OrJump to) h.line) →
      Leads x (valued pc st (a_truth false) i) (placed (suc pc) st i)
  or_goes_on h pc to st i f = leads_by x _ _ (instr.OrJump to) h.line f refl

  pub and_jumps : (h : Here) (pc to : ℕ) (st : List MachineValue) (i : Instance) → pc < to →
      Stands x.body pc (op (instr.AndJump to) h.line) →
      Leads x (valued pc st (a_truth false) i) (valued to st (a_truth false) i)
  and_jumps h pc to st i l f = leads_by x _ _ (instr.AndJump to) h.line f
      (ap (on_step x (valued pc st (a_truth false) i))
      (jump_later x.body to (machine.Number (pos 0) ∷ st) (machine_of (valued pc st (a_truth false) i)) l))

  pub and_goes_on : (h : Here) (pc to : ℕ) (st : List MachineValue) (i : Instance) →
      Stands x.body pc (op (instr.AndJump to) h.line) →
      Leads x (valued pc st (a_truth true) i) (placed (suc pc) st i)
  and_goes_on h pc to st i f = leads_by x _ _ (instr.AndJump to) h.line f refl

  -- `or` and `and`, where the jump stands before the right side
  pub or_runs : (h : Here) (pc to : ℕ) (st : List MachineValue) (i : Instance) (v : Value) (s : State)
      (A B : Run Value) (shape : Value → Instance → Instance) (G : Value → State → Instance → Type 0) →
      IsOf truth_type v → pc < to → Stands x.body pc (op (instr.OrJump to) h.line) →
      Comes x (valued to st v i) shape G (A s) → Comes x (placed (suc pc) st i) shape G (B s) →
      Comes x (valued pc st v i) shape G (if_true (truth_of v) A B s)
  or_runs h pc to st i _ s A B shape G (of_truth true) l f this that =
      comes_before x shape G _ _ (A s) (or_jumps h pc to st i l f) this
  or_runs h pc to st i _ s A B shape G (of_truth false) l f this that =
      comes_before x shape G _ _ (B s) (or_goes_on h pc to st i f) that

  pub and_runs : (h : Here) (pc to : ℕ) (st : List MachineValue) (i : Instance) (v : Value) (s : State)
      (A B : Run Value) (shape : Value → Instance → Instance) (G : Value → State → Instance → Type 0) →
      IsOf truth_type v → pc < to → Stands x.body pc (op (instr.AndJump to) h.line) →
      Comes x (placed (suc pc) st i) shape G (A s) → Comes x (valued to st v i) shape G (B s) →
      Comes x (valued pc st v i) shape G (if_true (truth_of v) A B s)
  and_runs h pc to st i _ s A B shape G (of_truth true) l f this that =
      comes_before x shape G _ _ (A s) (and_goes_on h pc to st i f) this
  and_runs h pc to st i _ s A B shape G (of_truth false) l f this that =
      comes_before x shape G _ _ (B s) (and_jumps h pc to st i l f) that

  -- ---- conversions and arguments

  -- a conversion to an integer type wraps
  pub wraps_run : (h : Here) (t : NumberTerm) (from : StaticType) (v : Value) (s : State) (pc : ℕ)
      (st : List MachineValue) (i : Instance) → IsIntegerTerm t → IsNumber from → IsOf from v →
      Agrees x params slots aside h s i → Stands x.body pc (as_number_code (where_of params h) t) →
      Gives x params slots fit aside h (number_type t) (as_number_code (where_of params h) t) pc
      (machine_value i.contents v ∷ st) st i (gives (as_number t v) s)
  wraps_run h _ _ _ s pc st i term_32 (number_integer w) (of_integer _ z _) g f =
      pushes x params slots fit aside h (integer_type W32) _ s pc _ st i (instr.Wrap W32) h.line f
      (of_integer W32 _ (SFits-int_wrap (std_width W32) z)) g refl
  wraps_run h _ _ _ s pc st i term_64 (number_integer w) (of_integer _ z _) g f =
      pushes x params slots fit aside h (integer_type W64) _ s pc _ st i (instr.Wrap W64) h.line f
      (of_integer W64 _ (SFits-int_wrap (std_width W64) z)) g refl
  wraps_run h _ _ _ s pc st i term_32 (number_index k) (of_index _ z _) g f =
      pushes x params slots fit aside h (integer_type W32) _ s pc _ st i (instr.Wrap W32) h.line f
      (of_integer W32 _ (SFits-int_wrap (std_width W32) z)) g refl
  wraps_run h _ _ _ s pc st i term_64 (number_index k) (of_index _ z _) g f =
      pushes x params slots fit aside h (integer_type W64) _ s pc _ st i (instr.Wrap W64) h.line f
      (of_integer W64 _ (SFits-int_wrap (std_width W64) z)) g refl

  -- an integer or an index stands for itself
  pub standing_number : (h : Here) (t : StaticType) (v : Value) (s : State) (pc : ℕ)
      (st : List MachineValue) (i : Instance) → IsNumber t → IsOf t v → Agrees x params slots aside h s i →
      Gives x params slots fit aside h t (standing_code (where_of params h) t) pc (machine_value i.contents v ∷ st) st i (standing h v s)
  standing_number h _ _ s pc st i (number_integer w) (of_integer _ z p) g = (i, leads_none x _, (of_integer w z p, g))
  standing_number h _ _ s pc st i (number_index k) (of_index _ z p) g = (i, leads_none x _, (of_index k z p, g))

  -- an operand of a comparison, which stands for itself
  pub compared_left : (t u : StaticType) → AreComparable t u → IsScalar t ⊎ IsNumber t
  compared_left t u (compare_numbers _ _ n m) = inr n
  compared_left _ _ compare_truths = inl scalar_truth

  pub compared_right : (t u : StaticType) → AreComparable t u → IsScalar u ⊎ IsNumber u
  compared_right t u (compare_numbers _ _ n m) = inr m
  compared_right _ _ compare_truths = inl scalar_truth

  pub compared_operand : (h : Here) (b : Bool) (t : StaticType) (v : Value) (s : State) (pc : ℕ)
      (st : List MachineValue) (i : Instance) → IsScalar t ⊎ IsNumber t → IsOf t v → Agrees x params slots aside h s i →
      Gives x params slots fit aside h t (operand_code (where_of params h) b t) pc (machine_value i.contents v ∷ st) st i (operand h b v s)
  compared_operand h true t v s pc st i p o g = (i, leads_none x _, (o, g))
  compared_operand h false t v s pc st i (inl p) o g = standing_runs h t v s pc st i p o g
  compared_operand h false t v s pc st i (inr p) o g = standing_number h t v s pc st i p o g

  pub converted_runs : (h : Here) (t u : StaticType) (rs : List Region) (v : Value) (s : State) (pc : ℕ)
      (st : List MachineValue) (i : Instance) → AreAlike t u → IsOf t v → Agrees x params slots aside h s i →
      Stands x.body pc (converted_code (where_of params h) t u) →
      Comes x (valued pc st v i) (valued (past (converted_code (where_of params h) t u) pc) st)
      (Good x params slots fit aside h u) (converted h t u rs v s)
  converted_runs h _ _ rs _ s pc st i (two_integers W32 W32) (of_integer _ z p) g f =
      subst (λ y. Comes x (valued pc st (a_number W32 z) i) (valued pc st) (Good x params slots fit aside h (integer_type W32)) (gives (a_number W32 y) s))
      (sym (int_wrap_fits (std_width W32) z p)) (i, leads_none x _, (of_integer W32 z p, g))
  converted_runs h _ _ rs _ s pc st i (two_integers W32 W64) (of_integer _ z _) g f =
      pushes x params slots fit aside h (integer_type W64) _ s pc _ st i (instr.Wrap W64) h.line f
      (of_integer W64 _ (SFits-int_wrap (std_width W64) z)) g refl
  converted_runs h _ _ rs _ s pc st i (two_integers W64 W32) (of_integer _ z _) g f =
      pushes x params slots fit aside h (integer_type W32) _ s pc _ st i (instr.Wrap W32) h.line f
      (of_integer W32 _ (SFits-int_wrap (std_width W32) z)) g refl
  converted_runs h _ _ rs _ s pc st i (two_integers W64 W64) (of_integer _ z p) g f =
      subst (λ y. Comes x (valued pc st (a_number W64 z) i) (valued pc st) (Good x params slots fit aside h (integer_type W64)) (gives (a_number W64 y) s))
      (sym (int_wrap_fits (std_width W64) z p)) (i, leads_none x _, (of_integer W64 z p, g))
  converted_runs h _ _ rs _ s pc st i two_truths (of_truth b) g f =
      (i, leads_none x _, (of_truth b, g))

  -- an index space of a size; too large a one, or one of a number below 0, is a fault
  pub space_runs : (h : Here) (k : Kind) (from : StaticType) (v : Value) (s : State) (pc : ℕ)
      (st : List MachineValue) (i : Instance) → IsInteger from → IsOf from v →
      Agrees x params slots aside h s i → Stands x.body pc (op instr.Space h.line) →
      Gives x params slots fit aside h (ispace_type k) (op instr.Space h.line) pc
      (machine_value i.contents v ∷ st) st i (space_of_size h (number_of v) s)
  space_runs h k _ _ s pc st i (an_integer w) (of_integer _ (negsuc n) _) g f =
      ends_by x _ _ instr.Space h.line f
      (ap (λ t. IsOver (Broke (Some (record { kind = BadSize; line = h.line })) t)) g.text)
  space_runs h k _ _ s pc st i (an_integer w) (of_integer _ (pos n) _) g f = by (nat_le n 4194304) refl
    where
      acts : (b : Bool) → nat_le n 4194304 ≡ b →
          on_step x (placed pc (machine.Number (pos n) ∷ st) i) (act x.code x.body instr.Space h.line (machine_of (placed pc (machine.Number (pos n) ∷ st) i)))
          ≡ on_step x (placed pc (machine.Number (pos n) ∷ st) i) (when b (next (machine.Space n ∷ st) (machine_of (placed pc (machine.Number (pos n) ∷ st) i)))
          (faults BadSize h.line (machine_of (placed pc (machine.Number (pos n) ∷ st) i))))
      acts b e = ap (λ b. on_step x (placed pc (machine.Number (pos n) ∷ st) i) (when b (next (machine.Space n ∷ st) (machine_of (placed pc (machine.Number (pos n) ∷ st) i)))
          (faults BadSize h.line (machine_of (placed pc (machine.Number (pos n) ∷ st) i))))) e

      by : (b : Bool) → nat_le n 4194304 ≡ b →
          Gives x params slots fit aside h (ispace_type k) (op instr.Space h.line) pc (machine.Number (pos n) ∷ st) st i
          (if_true b (given (a_space n)) (fault h BadSize) s)
      by true e = pushes x params slots fit aside h (ispace_type k) (a_space n) s pc _ st i instr.Space h.line f
          (of_space k n (leb-true n 4194304 e)) g (acts true e)
      by false e = ends_by x _ _ instr.Space h.line f
          (acts false e ∙ ap (λ t. IsOver (Broke (Some (record { kind = BadSize; line = h.line })) t)) g.text)
