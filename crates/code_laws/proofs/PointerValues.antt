-- Expressions that give pointers: `r[e]`, null, and casts; and whether a pointer is null.
use Rattle.std.proofs.Common.{◌≡◌, ℕ, zero, suc, ◌+◌, ◌^◌, ◌<◌, ℤ, pos, negsuc, List, [], ◌∷◌, Bool, true, false, Some, None, refl, sym, ap, ◌∙◌, subst, arith}
use Rattle.std.specs.Prelude.{cond, get_or, length, map, nat_abs}
use Rattle.std.proofs.lemmas.List.{get_or_default}
use Rattle.plain_values.specs.Points.{has}
use Rattle.regent_tree.specs.Accesses.{regions_reached}
use Rattle.regent_tree.specs.Evaluation.{stepped, value}
use Rattle.regent_tree.specs.Laws.{Leaves, SameNames}
use Rattle.regent_tree.specs.Operators.{cast_to}
use Rattle.regent_tree.specs.Running.{Here, Result, State, and_then, fails, given, gives}
use Rattle.regent_tree.specs.Scopes.{Scope, bound_as}
use Rattle.regent_tree.specs.StaticTypes.{Reach}
use Rattle.regent_tree.specs.Syntax.{Expression, at_step, no_step}
use Rattle.regent_tree.specs.Typing.{has_wild, type_of_element}
use Rattle.regent_tree.specs.Values.{Region, Target, Value, a_pointer, a_region, a_truth, first_holding, holds, is_null_target, kept_target, kept_truth, no_region, null_target, point_target, region_of, target_kept, target_of}
use Rattle.regent_tree.specs.declared.facts.Term.TheVariants as term
use Rattle.regent_tree.specs.declared.types.Kind.{Kind}
use Rattle.regent_tree.specs.declared.typing.Bound.{Bound}
use Rattle.regent_tree.specs.declared.typing.StaticType.{StaticType}
use Rattle.regent_tree.specs.declared.typing.StaticType.TheVariants.{Pointer as pointer_type, Region as region_type, Truth as truth_type}
use Rattle.task_code.specs.declared.instr.Instr.TheVariants as instr
use Rattle.machine_terms.specs.declared.order.Instance.{Instance}
use Rattle.machine_terms.specs.declared.order.Resumed.TheVariants.{GoesOn}
use Rattle.machine_terms.specs.declared.value.Value.{Value as MachineValue}
use Rattle.machine_terms.specs.declared.value.Value.TheVariants as machine
use Rattle.machine_terms.specs.Pointers.{both_found, cast, cast_pointer, plain_of, region_in, regions_in}
use Rattle.code_rules.specs.Expressions.{expr_code, steps_code}
use Rattle.code_rules.specs.Instructions.{cast_code, load_code}
use Rattle.code_rules.specs.Pieces.{op, past, ◌⨟◌}
use Rattle.code_rules.specs.Slots.{own_slot, slot, slots_of, typed}
use Rattle.memory_laws.specs.Places.{number_at}
use Rattle.value_laws.specs.Shapes.{IsPosition}
use Rattle.code_laws.proofs.Values.{not_true}
use Rattle.code_laws.specs.Pointers.{AreNames, AreReached, AreThere, IsCounting, IsPointer, a_pointer_type, counts_number, counts_pointer}
use Rattle.code_laws.specs.Simple.{IsRegion, a_region_type, number_index, number_integer}
use Rattle.code_laws.specs.Standing.{AreOf, Agrees, Aside, Comes, IsInside, IsOf, SlotsFit, Stands, machine_value, nothing, of_index, of_integer, of_pointer, of_region, of_truth, where_of}
use Rattle.code_laws.specs.Steps.{Setting, machine_of, on_step, placed}
use Rattle.code_laws.proofs.Accesses.{kept_round, region_there}
use Rattle.code_laws.proofs.Good.{Gives, Good, pushes, valued}
use Rattle.code_laws.proofs.Pointing.{numbered}
use Rattle.code_laws.proofs.Runs.{comes_said, leads_none}
use Rattle.code_laws.proofs.Through.{name_there}
use Rattle.code_laws.proofs.Writes.{element_points}

-- ---- regions that a written type names

pub there_names : (bs : List Bound) (sp : ℕ) (rs : List Reach) → AreThere bs sp rs → AreNames rs
there_names bs sp [] a = tt
there_names bs sp (Some (term.Name i) ∷ rs) a = there_names bs sp rs a.3
there_names bs sp (Some (term.Child p c) ∷ rs) a = absurd a
there_names bs sp (None ∷ rs) a = there_names bs sp rs a

region_value : (t : StaticType) (v : Value) → IsRegion t → IsOf t v → v ≡ a_region (region_of v)
region_value _ _ (a_region_type k sp args r) (of_region _ _ _ _ q) = refl

-- they have the values that are found for them
pub there_reached : (s : Scope) (names : List Value) (sp : ℕ) (rs : List Reach) → AreOf IsOf s.names names → length names ≡ length s.names →
    AreThere s.names sp rs → AreReached s.names names sp rs (regions_reached s names rs)
there_reached s names sp [] o long a = tt
there_reached s names sp (Some (term.Name i) ∷ rs) o long a =
    let m = numbered IsOf s.names names i o a.1 in
    let p = (bound_as s.names i).place in (
      record {
        numbered = a.0;
        region = a.1;
        space = a.2;
        below = m.1;
        value = region_value (bound_as s.names i).static_type (get_or names p nothing) a.1 m.0
            ∙ ap (λ v. a_region (region_of v)) (get_or_default names p nothing (a_region no_region) (omega (arith, m.1, long)));
      },
      there_reached s names sp rs o long a.3,
    )
there_reached s names sp (Some (term.Child p c) ∷ rs) o long a = absurd a
there_reached s names sp (None ∷ rs) o long a = there_reached s names sp rs o long a

-- ---- casts

-- the regions that slots have, by the roots' numbers
abbrev by_number : (ℕ → ℕ) → Region → Region
by_number f q = record { root = f q.root; points = q.points }

first_same : (f : ℕ → ℕ) (i : ℕ) (qs : List Region) (z : ℤ) → first_holding i (map (by_number f) qs) z ≡ first_holding i qs z
first_same f i [] z = refl
first_same f i (q ∷ qs) z = ap (λ t. cond (holds q.points z) (point_target (nat_abs z) (suc i)) t) (first_same f (suc i) qs z)

-- the first one that holds a number is one of so many
first_target : (i : ℕ) (qs : List Region) (z : ℤ) → ((q : ℕ) (n : ℕ) → has (get_or qs q no_region).points n ≡ true → n < 2 ^ 32) →
    IsPosition (i + length qs) (first_holding i qs z)
first_target i [] z small = tt
first_target i (q ∷ qs) z small = chosen (holds q.points z) refl (first_target (suc i) qs z (λ k n d. small (suc k) n d))
  where
    by_sign : (z : ℤ) → holds q.points z ≡ true → nat_abs z < 2 ^ 32
    by_sign (pos n) e = small 0 n e
    by_sign (negsuc n) e = absurd cc

    wider : (t : Target) (m n : ℕ) → m ≡ n → IsPosition m t → IsPosition n t
    wider t m n e p = subst (λ k. IsPosition k t) e p

    chosen : (b : Bool) → holds q.points z ≡ b → IsPosition (suc i + length qs) (first_holding (suc i) qs z) →
        IsPosition (i + length (q ∷ qs)) (cond b (point_target (nat_abs z) (suc i)) (first_holding (suc i) qs z))
    chosen true e more = (by_sign z e, omega arith)
    chosen false e more = wider (first_holding (suc i) qs z) (suc i + length qs) (i + length (q ∷ qs)) (omega arith) more

module _ (x : Setting) (params slots : ℕ) (fit : SlotsFit x slots) {deep : ℕ} (aside : Aside deep) where
  -- each slot has its region, so the machine finds all
  regions_there : (h : Here) (k : Kind) (own sp : ℕ) (args rs : List Reach) (qs : List Region) (s : State) (j : Instance) → AreNames rs → has_wild rs ≡ false →
      AreReached h.scope.names s.names sp rs qs → Agrees x params slots aside h s j →
      regions_in j.frame.slots (slots_of (where_of params h) own (pointer_type k sp args rs)) ≡ Some (map (by_number (number_at j.contents)) qs)
  regions_there h k own sp args [] [] s j n c a g = refl
  regions_there h k own sp args [] (q ∷ qs) s j n c a g = absurd a
  regions_there h k own sp args (Some (term.Name b) ∷ rs) (q ∷ qs) s j n c a g =
      ap (λ o. both_found (plain_of (region_in o)) (regions_in j.frame.slots (slots_of (where_of params h) own (pointer_type k sp args rs))))
      (name_there x params slots fit aside h b sp q s j a.0 g).0
      ∙ ap (both_found (Some (by_number (number_at j.contents) q))) (regions_there h k own sp args rs qs s j n c a.1 g)
  regions_there h k own sp args (Some (term.Name b) ∷ rs) [] s j n c a g = absurd a
  regions_there h k own sp args (Some (term.Child p d) ∷ rs) qs s j n c a g = absurd n
  regions_there h k own sp args (None ∷ rs) qs s j n c a g = absurd (not_true (sym c))

  -- their points are numbers of 32 bits
  names_small : (h : Here) (sp : ℕ) (rs : List Reach) (qs : List Region) (s : State) (j : Instance) → AreNames rs → has_wild rs ≡ false →
      AreReached h.scope.names s.names sp rs qs → Agrees x params slots aside h s j → (i n : ℕ) →
      has (get_or qs i no_region).points n ≡ true → n < 2 ^ 32
  names_small h sp [] [] s j n c a g zero m e = absurd cc
  names_small h sp [] [] s j n c a g (suc i) m e = absurd cc
  names_small h sp [] (q ∷ qs) s j n c a g i m e = absurd a
  names_small h sp (Some (term.Name b) ∷ rs) (q ∷ qs) s j n c a g zero m e = (name_there x params slots fit aside h b sp q s j a.0 g).1.small m e
  names_small h sp (Some (term.Name b) ∷ rs) (q ∷ qs) s j n c a g (suc i) m e = names_small h sp rs qs s j n c a.1 g i m e
  names_small h sp (Some (term.Name b) ∷ rs) [] s j n c a g i m e = absurd a
  names_small h sp (Some (term.Child p d) ∷ rs) qs s j n c a g i m e = absurd n
  names_small h sp (None ∷ rs) qs s j n c a g i m e = absurd (not_true (sym c))

  reached_many : (bs : List Bound) (names : List Value) (sp : ℕ) (rs : List Reach) (qs : List Region) → AreNames rs →
      AreReached bs names sp rs qs → length qs ≡ length rs
  reached_many bs names sp [] [] n a = refl
  reached_many bs names sp [] (q ∷ qs) n a = absurd a
  reached_many bs names sp (Some (term.Name b) ∷ rs) (q ∷ qs) n a = ap (λ k. suc k) (reached_many bs names sp rs qs n a.1)
  reached_many bs names sp (Some (term.Name b) ∷ rs) [] n a = absurd a
  reached_many bs names sp (Some (term.Child p c) ∷ rs) qs n a = absurd n
  reached_many bs names sp (None ∷ rs) (q ∷ qs) n a = ap (λ k. suc k) (reached_many bs names sp rs qs n a)
  reached_many bs names sp (None ∷ rs) [] n a = absurd a

  -- the pointer of the first region that holds a number
  first_fits : (h : Here) (sp : ℕ) (rs : List Reach) (qs : List Region) (z : ℤ) (s : State) (j : Instance) → AreNames rs → has_wild rs ≡ false →
      AreReached h.scope.names s.names sp rs qs → Agrees x params slots aside h s j → IsPosition (length rs) (first_holding 0 qs z)
  first_fits h sp rs qs z s j n c a g = subst (λ k. IsPosition k (first_holding 0 qs z)) (reached_many h.scope.names s.names sp rs qs n a)
      (subst (λ k. IsPosition k (first_holding 0 qs z)) (omega arith) (first_target 0 qs z (names_small h sp rs qs s j n c a g)))

  -- a cast of what counts as a number, to a type whose regions are in scope
  pub cast_runs : (h : Here) (t : StaticType) (k : Kind) (sp : ℕ) (args rs : List Reach) (v : Value) (s : State) (pc : ℕ)
      (st : List MachineValue) (i : Instance) → IsCounting t → IsOf t v → AreThere h.scope.names sp rs → has_wild rs ≡ false → Agrees x params slots aside h s i →
      Stands x.body pc (cast_code (where_of params h) t (pointer_type k sp args rs)) →
      Gives x params slots fit aside h (pointer_type k sp args rs) (cast_code (where_of params h) t (pointer_type k sp args rs)) pc
      (machine_value i.contents v ∷ st) st i (gives (cast_to (regions_reached h.scope s.names rs) v) s)
  cast_runs h t k sp args rs v s pc st i counts o there certain g stands = by_value t v counts o stands
    where
      ns : AreNames rs
      ns = there_names h.scope.names sp rs there

      ours : AreReached h.scope.names s.names sp rs (regions_reached h.scope s.names rs)
      ours = there_reached h.scope s.names sp rs g.typed g.count there

      found : regions_in i.frame.slots (slots_of (where_of params h) 0 (pointer_type k sp args rs))
          ≡ Some (map (by_number (number_at i.contents)) (regions_reached h.scope s.names rs))
      found = regions_there h k 0 sp args rs (regions_reached h.scope s.names rs) s i ns certain ours g

      fits : (z : ℤ) → IsOf (pointer_type k sp args rs) (a_pointer (first_holding 0 (regions_reached h.scope s.names rs) z) (regions_reached h.scope s.names rs))
      fits z = of_pointer k sp args rs _ _ (first_fits h sp rs (regions_reached h.scope s.names rs) z s i ns certain ours g)

      by_number_runs : (z : ℤ) → Stands x.body pc (op (instr.Cast (slots_of (where_of params h) 0 (pointer_type k sp args rs))) h.line) →
          Gives x params slots fit aside h (pointer_type k sp args rs)
          (op (instr.Cast (slots_of (where_of params h) 0 (pointer_type k sp args rs))) h.line) pc (machine.Number z ∷ st) st i
          (gives (a_pointer (first_holding 0 (regions_reached h.scope s.names rs) z) (regions_reached h.scope s.names rs)) s)
      by_number_runs z stands =
          let j = placed pc (machine.Number z ∷ st) i in
          pushes x params slots fit aside h (pointer_type k sp args rs) _ s pc (machine.Number z ∷ st) st i
          (instr.Cast (slots_of (where_of params h) 0 (pointer_type k sp args rs))) h.line stands (fits z) g
          (ap (λ o. on_step x j (cast o z st (machine_of j))) found
          ∙ ap (λ t. GoesOn (placed (suc pc) (machine.Number (kept_target t) ∷ st) i))
          (first_same (number_at i.contents) 0 (regions_reached h.scope s.names rs) z))

      by_value : (t : StaticType) (v : Value) → IsCounting t → IsOf t v →
          Stands x.body pc (cast_code (where_of params h) t (pointer_type k sp args rs)) →
          Gives x params slots fit aside h (pointer_type k sp args rs) (cast_code (where_of params h) t (pointer_type k sp args rs)) pc
          (machine_value i.contents v ∷ st) st i (gives (cast_to (regions_reached h.scope s.names rs) v) s)
      by_value _ _ (counts_number _ (number_integer w)) (of_integer _ z p) stands = by_number_runs z stands
      by_value _ _ (counts_number _ (number_index c)) (of_index _ z p) stands = by_number_runs z stands
      by_value _ _ (counts_pointer c sp2 args2 rs2) (of_pointer _ _ _ _ null_target us p) stands =
          let j = placed pc (machine.Number (negsuc 0) ∷ st) i in
          pushes x params slots fit aside h (pointer_type k sp args rs) (a_pointer null_target (regions_reached h.scope s.names rs)) s pc
          (machine.Number (negsuc 0) ∷ st) st i (instr.CastPtr (slots_of (where_of params h) 0 (pointer_type k sp args rs))) h.line stands
          (of_pointer k sp args rs null_target _ tt) g
          (ap (λ o. on_step x j (cast_pointer o null_target st (machine_of j))) found)
      by_value _ _ (counts_pointer c sp2 args2 rs2) (of_pointer _ _ _ _ (point_target n m) us p) stands =
          let z = kept_target (point_target n m) in
          let j = placed pc (machine.Number z ∷ st) i in
          pushes x params slots fit aside h (pointer_type k sp args rs)
          (a_pointer (first_holding 0 (regions_reached h.scope s.names rs) (pos n)) (regions_reached h.scope s.names rs)) s pc
          (machine.Number z ∷ st) st i (instr.CastPtr (slots_of (where_of params h) 0 (pointer_type k sp args rs))) h.line stands
          (fits (pos n)) g
          (ap (λ o. on_step x j (cast_pointer o (target_kept z) st (machine_of j))) found
          ∙ ap (λ t. on_step x j (cast_pointer (Some (map (by_number (number_at i.contents)) (regions_reached h.scope s.names rs))) t st (machine_of j)))
          (kept_round n m p.0)
          ∙ ap (λ t. GoesOn (placed (suc pc) (machine.Number (kept_target t) ∷ st) i))
          (first_same (number_at i.contents) 0 (regions_reached h.scope s.names rs) (pos n)))

  -- ---- null

  pub null_runs : (h : Here) (t : StaticType) (v : Value) (s : State) (pc : ℕ) (st : List MachineValue) (i : Instance) → IsPointer t →
      IsOf t v → Agrees x params slots aside h s i → Stands x.body pc (op instr.IsNull h.line) →
      Gives x params slots fit aside h truth_type (op instr.IsNull h.line) pc (machine_value i.contents v ∷ st) st i
      (gives (a_truth (is_null_target (target_of v))) s)
  null_runs h _ _ s pc st i (a_pointer_type k sp args rs n) (of_pointer _ _ _ _ null_target qs p) g f =
      pushes x params slots fit aside h truth_type (a_truth true) s pc _ st i instr.IsNull h.line f (of_truth true) g refl
  null_runs h _ _ s pc st i (a_pointer_type k sp args rs n) (of_pointer _ _ _ _ (point_target m c) qs p) g f =
      let z = kept_target (point_target m c) in
      pushes x params slots fit aside h truth_type (a_truth false) s pc (machine.Number z ∷ st) st i instr.IsNull h.line f (of_truth false) g
      (ap (λ t. GoesOn (placed (suc pc) (machine.Number (kept_truth (is_null_target t)) ∷ st) i)) (kept_round m c p.0))

  -- ---- an element as a pointer

  pub without_given : (shape : Value → Instance → Instance) (P : Value → State → Instance → Type 0) (i : Instance) (r : Result Value) →
      Comes x i shape P (and_then r (λ v. given v)) → Comes x i shape P r
  without_given shape P i (gives v s) c = c
  without_given shape P i (fails f s) c = c

  -- `r[e]` of a name that has a region
  pub element_runs : (h : Here) (d : ℕ) (t : StaticType) (p : ℕ) (v : Value) (e : Expression) (s : State) (pc : ℕ)
      (st : List MachineValue) (i : Instance) → IsRegion t → IsOf t v → get_or s.names p nothing ≡ v → p < length s.names →
      ((pc : ℕ) → Stands x.body pc (expr_code (where_of params h) d e) →
      Gives x params slots fit aside h (typed (where_of params h) e) (expr_code (where_of params h) d e) pc st st i (value h e s)) →
      IsCounting (typed (where_of params h) e) → Leaves SameNames s (value h e s) →
      ((s1 : State) (j : Instance) → Agrees x params slots aside h s1 j → IsInside x s1.store t (get_or s1.names p nothing)) →
      Stands x.body pc (load_code (where_of params h) t (slot (where_of params h) p) (at_step e no_step)
      ⨟ steps_code (where_of params h) d t (own_slot (where_of params h) t p) (at_step e no_step)) →
      Gives x params slots fit aside h (type_of_element h.scope t e)
      (load_code (where_of params h) t (slot (where_of params h) p) (at_step e no_step)
      ⨟ steps_code (where_of params h) d t (own_slot (where_of params h) t p) (at_step e no_step)) pc st st i
      (stepped h t v (at_step e no_step) s)
  element_runs h d _ p _ e s pc st i (a_region_type k sp args r) (of_region _ _ _ _ q) is low runs index same lies stands =
      let t = region_type k sp args r in
      let w = where_of params h in
      let sl = slot w p in
      let room : sl < slots = omega (arith, fit _ _ stands.1.1.1.0) in
      let shape = valued (past (load_code w t sl (at_step e no_step) ⨟ steps_code w d t (own_slot w t p) (at_step e no_step)) pc) st in
      let pt = type_of_element h.scope t e in
      without_given shape (Good x params slots fit aside h pt) _ (stepped h t (a_region q) (at_step e no_step) s)
      (element_points x params slots fit aside _ (comes_said x shape (Good x params slots fit aside h pt)) h d t sl e q s pc st i (λ v. given v)
      (a_region_type k sp args r) (runs pc stands.1.0) index same
      (λ s1 j names more g. region_there x params slots fit aside h s1 j p q (ap (λ ns. get_or ns p nothing) names ∙ is)
      (subst (λ ns. p < length ns) (sym names) low) room g) stands.1
      (λ n s1 j names b there g.
      let lie = subst (IsInside x s1.store t) (ap (λ ns. get_or ns p nothing) names ∙ is) (lies s1 j g) in
      (j, leads_none x _, (of_pointer k sp args (Some r ∷ []) (point_target n 1) (q ∷ []) (lie.0.small n b, omega arith), g))))
