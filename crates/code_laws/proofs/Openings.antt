-- Where the body of a task begins, its instance agrees with the meaning's state.
use Rattle.std.proofs.Common.{◌≡◌, ⊎_elim, ℕ, zero, suc, ◌+◌, ◌-◌, ◌^◌, ◌<◌, ◌≤◌, List, [], ◌∷◌, ◌++◌, Bool, true, false, Some, None, refl, sym, ap, ◌∙◌, subst, arith, length-append}
use Rattle.std.specs.Prelude.{cond, get_or, length, map, reverse, replicate, slice_get, nat_lt}
use Rattle.std.proofs.lemmas.Bool.{cases_lt, leb-true, lt-ltb, le-ltb}
use Rattle.std.proofs.lemmas.List.{append-nil, length-map, length-replicate, reverse-append, map-append}
use Rattle.std.proofs.lemmas.Option.{none-some, same_Some}
use Rattle.std.proofs.Math.ListN.{get_or-append, get_or-map}
use Rattle.std.proofs.Math.Seq.{get_or-append_seam}
use Rattle.regent_tree.specs.declared.types.Param.{Param}
use Rattle.regent_tree.specs.declared.typing.Bound.{Bound}
use Rattle.regent_tree.specs.declared.typing.StaticType.{StaticType}
use Rattle.regent_tree.specs.Meaning.{entered_as, entered, body_of, opening}
use Rattle.regent_tree.specs.Running.{Calls}
use Rattle.regent_tree.specs.Scopes.{Scope, scope_of, bound_params}
use Rattle.regent_tree.specs.Syntax.{TaskTree, Tree}
use Rattle.regent_tree.specs.Typing.{param_types}
use Rattle.regent_tree.specs.Values.{Value}
use Rattle.task_code.specs.declared.code.Line.{Line}
use Rattle.regent_tree.specs.Store.{Store}
use Rattle.machine_terms.specs.declared.order.Contents.{Contents}
use Rattle.machine_terms.specs.declared.order.Instance.{Instance}
use Rattle.machine_terms.specs.Jumps.{fetch}
use Rattle.machine_terms.specs.Opening as frames
use Rattle.machine_terms.specs.Orders.{begun}
use Rattle.code_rules.specs.Programs.{code_of, task_code}
use Rattle.code_rules.specs.Slots.{slot, beside}
use Rattle.code_rules.specs.Used.{greatest, slots_of_lines, slots_used}
use Rattle.value_laws.specs.Shapes.{KeepsNumbers}
use Rattle.code_laws.specs.Programs.{called_setting}
use Rattle.code_laws.specs.Taking.{AreParts, is_asked, needs_taken, pairs_taken}
use Rattle.memory_laws.specs.Covering.{AreCovered}
use Rattle.region_tree.specs.Requirements.{Requirement}
use Rattle.std.specs.List.{Contains}
use Rattle.task_code.specs.declared.code.NeedCode.{NeedCode}
use Rattle.memory_laws.proofs.Keeping.{root_below}
use Rattle.memory_laws.specs.Memory.{Holds, memory_of}
use Rattle.memory_laws.specs.Places.{numbers}
use Rattle.machine_terms.specs.declared.order.Root.{Root}
use Rattle.machine_terms.specs.declared.value.Value.{Value as MachineValue}
use Rattle.code_laws.specs.Standing.{AreUnder, Answering, AreTaken, Agrees, AreOf, AreReady, Aside, IsInside, IsOf, SlotsFit, blank, machine_value, nothing, of_index, of_integer, of_partition, of_pointer, of_region, of_space, of_truth, where_of, AreBeside}
use Rattle.code_laws.specs.Steps.{Forms, Setting}
use Rattle.code_laws.proofs.States.{ready_value}
use Rattle.code_laws.proofs.Names.{typed_more}
use Rattle.code_laws.specs.Pointers.{ArePointed}

-- ---- arguments as a task has them

entered_value : (c : Contents) (s : Scope) (vs : List Value) (t : StaticType) (v : Value) → IsOf t v →
    (IsOf t (entered_as s vs t v)) × (machine_value c (entered_as s vs t v) ≡ machine_value c v)
entered_value c s vs _ _ (of_integer w z p) = (of_integer w z p, refl)
entered_value c s vs _ _ (of_truth b) = (of_truth b, refl)
entered_value c s vs _ _ (of_index k z p) = (of_index k z p, refl)
entered_value c s vs _ _ (of_pointer k sp args rs t regions p) = (of_pointer k sp args rs t _ p, refl)
entered_value c s vs _ _ (of_space k n l) = (of_space k n l, refl)
entered_value c s vs _ _ (of_region k sp args r q) = (of_region k sp args r q, refl)
entered_value c s vs _ _ (of_partition d r p q) = (of_partition d r p q, refl)

entered_taken : (c : Contents) (s : Scope) (vs : List Value) (ts : List StaticType) (us : List Value) → AreTaken IsOf ts us →
    AreTaken IsOf ts (entered s vs ts us) × (map (machine_value c) (entered s vs ts us) ≡ map (machine_value c) us)
entered_taken c s vs [] [] a = (tt, refl)
entered_taken c s vs (t ∷ ts) (u ∷ us) a =
    let one = entered_value c s vs t u a.0 in
    let more = entered_taken c s vs ts us a.1 in (
      (one.0, more.0),
      ap (λ v. v ∷ map (machine_value c) (entered s vs ts us)) one.1 ∙ ap (λ ms. machine_value c u ∷ ms) more.1,
    )
entered_taken c s vs [] (u ∷ us) a = absurd a
entered_taken c s vs (t ∷ ts) [] a = absurd a

-- regions and partitions go as they are
entered_inside : (x : Setting) (store : Store) (s : Scope) (vs : List Value) (ts : List StaticType) (us : List Value) →
    AreTaken IsOf ts us → AreTaken (IsInside x store) ts us → AreTaken (IsInside x store) ts (entered s vs ts us)
entered_inside x store s vs [] [] a b = tt
entered_inside x store s vs (t ∷ ts) (u ∷ us) a b =
    (one t u a.0 b.0, entered_inside x store s vs ts us a.1 b.1)
  where
    one : (t : StaticType) (v : Value) → IsOf t v → IsInside x store t v → IsInside x store t (entered_as s vs t v)
    one _ _ (of_integer w z p) b = tt
    one _ _ (of_truth v) b = tt
    one _ _ (of_index k z p) b = tt
    one _ _ (of_pointer k sp args rs t regions p) b = tt
    one _ _ (of_space k n l) b = tt
    one _ _ (of_region k sp args r q) b = b
    one _ _ (of_partition d r p q) b = b
entered_inside x store s vs [] (u ∷ us) a b = absurd a
entered_inside x store s vs (t ∷ ts) [] a b = absurd a

-- names in the places of their order
abbrev pub AreFrom : ℕ → List Bound → Type 0
AreFrom i [] = Unit {0}
AreFrom i (b ∷ bs) = (b.place ≡ i + length bs) × AreFrom i bs

from_behind : (i : ℕ) (bs : List Bound) (b : Bound) → b.place ≡ i → AreFrom (suc i) bs → AreFrom i (bs ++ b ∷ [])
from_behind i [] b e a = (omega (arith, e), tt)
from_behind i (c ∷ bs) b e a =
    (omega (arith, a.0, length-append bs (b ∷ [])), from_behind i bs b e a.1)

pub params_from : (tree : Tree) (all : List Param) (i : ℕ) (ps : List Param) → AreFrom i (bound_params tree all i ps)
params_from tree all i [] = tt
params_from tree all i (p ∷ ps) =
    from_behind i (bound_params tree all (suc i) ps) _ refl (params_from tree all (suc i) ps)

length_one : {A : Type 0} (xs : List A) (a : A) → length (xs ++ a ∷ []) ≡ suc (length xs)
length_one [] a = refl
length_one (x ∷ xs) a = ap (λ n. suc n) (length_one xs a)

pub params_length : (tree : Tree) (all : List Param) (i : ℕ) (ps : List Param) →
    length (bound_params tree all i ps) ≡ length ps
params_length tree all i [] = refl
params_length tree all i (p ∷ ps) =
    length_one (bound_params tree all (suc i) ps) _ ∙ ap (λ n. suc n) (params_length tree all (suc i) ps)

-- values of types, where the last comes first
record TakenLast (Holding : StaticType → Value → Type 0) (ts : List StaticType) (t : StaticType) (vs : List Value) : Type 0 where
  before : List Value
  last : Value
  are : vs ≡ before ++ last ∷ []
  taken : AreTaken Holding ts before
  typed : Holding t last

taken_last : (Holding : StaticType → Value → Type 0) (ts : List StaticType) (t : StaticType) (vs : List Value) → AreTaken Holding (ts ++ t ∷ []) vs → TakenLast Holding ts t vs
taken_last Holding [] t (v ∷ []) a = record { before = []; last = v; are = refl; taken = tt; typed = a.0 }
taken_last Holding [] t (v ∷ (u ∷ vs)) a = absurd a.1
taken_last Holding [] t [] a = absurd a
taken_last Holding (s ∷ ts) t [] a = absurd a
taken_last Holding (s ∷ ts) t (v ∷ vs) a =
    let m = taken_last Holding ts t vs a.1 in
    record { before = v ∷ m.before; last = m.last; are = ap (λ us. v ∷ us) m.are; taken = (a.0, m.taken); typed = m.typed }

pub taken_length : (Holding : StaticType → Value → Type 0) (ts : List StaticType) (vs : List Value) → AreTaken Holding ts vs → length vs ≡ length ts
taken_length Holding [] [] a = refl
taken_length Holding (t ∷ ts) (v ∷ vs) a = ap (λ n. suc n) (taken_length Holding ts vs a.1)
taken_length Holding [] (v ∷ vs) a = absurd a
taken_length Holding (t ∷ ts) [] a = absurd a

abbrev pub types_in : List Bound → List StaticType
types_in bs = map (λ (b : Bound). b.static_type) (reverse bs)

pub types_cons : (b : Bound) (bs : List Bound) → types_in (b ∷ bs) ≡ types_in bs ++ b.static_type ∷ []
types_cons b bs = ap (map (λ (b : Bound). b.static_type)) (reverse-append (b ∷ []) bs)
    ∙ map-append (λ (b : Bound). b.static_type) (reverse bs) (b ∷ [])

pub types_length : (bs : List Bound) → length (types_in bs) ≡ length bs
types_length [] = refl
types_length (b ∷ bs) = ap length (types_cons b bs)
    ∙ length-append (types_in bs) (b.static_type ∷ []) ∙ omega (arith, types_length bs)

pub names_typed : (Holding : StaticType → Value → Type 0) (bs : List Bound) (vs : List Value) → AreFrom 0 bs → AreTaken Holding (types_in bs) vs → AreOf Holding bs vs
names_typed Holding [] vs from a = tt
names_typed Holding (b ∷ bs) vs from a =
    let m = taken_last Holding (types_in bs) b.static_type vs (subst (λ ts. AreTaken Holding ts vs) (types_cons b bs) a) in
    let long : length m.before ≡ length bs = taken_length Holding (types_in bs) m.before m.taken ∙ types_length bs in
    let place : b.place ≡ length m.before = omega (arith, from.0, long) in
    subst (AreOf Holding (b ∷ bs)) (sym m.are) (
      omega (arith, from.0),
      subst (Holding b.static_type) (sym (ap (λ p. get_or (m.before ++ m.last ∷ []) p nothing) place
          ∙ get_or-append_seam m.before m.last [] nothing)) m.typed,
      typed_more Holding bs m.before (m.last ∷ []) (omega (arith, long)) (names_typed Holding bs m.before from.1 m.taken),
    )

-- each line's slots are there
pub greatest_left : (a b : ℕ) → (a ≤ greatest a b) × (b ≤ greatest a b)
greatest_left a b = ⊎_elim
    (λ e. subst (λ c. (a ≤ cond c b a) × (b ≤ cond c b a)) (sym (lt-ltb a b e)) (omega (arith, e), omega arith))
    (λ e. subst (λ c. (a ≤ cond c b a) × (b ≤ cond c b a)) (sym (le-ltb a b e)) (omega arith, omega (arith, e)))
    (cases_lt a b)

pub least_slots : (least : ℕ) (ls : List Line) → least ≤ slots_of_lines least ls
least_slots least [] = omega arith
least_slots least (l ∷ ls) = omega (arith, least_slots least ls, (greatest_left (slots_used l.instr) (slots_of_lines least ls)).1)

slots_there : (least : ℕ) (ls : List Line) (k : ℕ) (l : Line) → slice_get ls k ≡ Some l →
    slots_used l.instr ≤ slots_of_lines least ls
slots_there least [] k l e = absurd (none-some l e)
slots_there least (m ∷ ls) zero l e =
    subst (λ (k : Line). slots_used k.instr ≤ greatest (slots_used m.instr) (slots_of_lines least ls)) (same_Some m l e)
    (greatest_left (slots_used m.instr) (slots_of_lines least ls)).0
slots_there least (m ∷ ls) (suc k) l e =
    omega (arith, slots_there least ls k l e, (greatest_left (slots_used m.instr) (slots_of_lines least ls)).1)

-- the slots of a task are enough for each of its lines
pub fits_slots : (x : Setting) (tree : Tree) (t : TaskTree) → x.body ≡ (task_code tree t).body →
    SlotsFit x (task_code tree t).slots
fits_slots x tree t e pc l f = by (nat_lt pc (2 ^ 32)) (subst (λ b. fetch b pc ≡ Some l) e f)
  where
    by : (b : Bool) → elim b [ true ↦ slice_get (task_code tree t).body pc | false ↦ None ] ≡ Some l →
        slots_used l.instr ≤ (task_code tree t).slots
    by true e = slots_there (length t.params) _ pc l e
    by false e = absurd (none-some l e)

-- nothing is put aside where a task begins
abbrev pub before_all : ℕ → Aside 0
before_all turns = record { upto = 0; slots = []; names = []; turns = turns; held = λ p. blank }

-- ---- slots where a task begins

ready_append : (xs ys : List MachineValue) → AreReady xs → AreReady ys → AreReady (xs ++ ys)
ready_append [] ys a b k = b k
ready_append (x ∷ xs) ys a b zero = a 0
ready_append (x ∷ xs) ys a b (suc k) = ready_append xs ys (λ n. a (suc n)) b k

ready_values : (c : Contents) (vs : List Value) → AreReady (map (machine_value c) vs)
ready_values c [] zero = refl
ready_values c [] (suc k) = refl
ready_values c (v ∷ vs) zero = ready_value c v
ready_values c (v ∷ vs) (suc k) = ready_values c vs k

ready_blanks : (n : ℕ) → AreReady (replicate n blank)
ready_blanks zero zero = refl
ready_blanks zero (suc k) = refl
ready_blanks (suc n) zero = refl
ready_blanks (suc n) (suc k) = ready_blanks n k

-- a task that begins at a depth, with these roots
module _ (tree : Tree) (turns more depth : ℕ) (t : TaskTree) (place : ℕ) (vs : List Value) (store : Store) (c : Contents)
    (needs : List Requirement) (args : List Value) where
  abbrev pub begins : Instance
  begins = begun (frames.opening turns depth place (task_code tree t) (map (machine_value c) vs)) needs c

  pub opens : (forms : Forms) (calls : Calls) →
      (forms.calls ≡ true → Answering (called_setting forms tree turns more depth (numbers c) args t) tree calls) → AreTaken IsOf (param_types tree t) vs →
      AreTaken (IsInside (called_setting forms tree turns more depth (numbers c) args t) store) (param_types tree t) vs →
      ArePointed (length t.params) (entered (scope_of tree t) vs (param_types tree t) vs) (scope_of tree t).names →
      AreUnder forms.takes (scope_of tree t).names (entered (scope_of tree t) vs (param_types tree t) vs) →
      ((at : ℕ → MachineValue) → AreBeside at c (length t.params) (length store) (scope_of tree t).names (entered (scope_of tree t) vs (param_types tree t) vs)) → length vs ≤ (task_code tree t).slots → Holds (code_of tree) store (memory_of begins) →
      ((n : NeedCode) → Contains (needs_taken forms.takes) n → AreCovered (is_asked args n) store (memory_of begins)) →
      AreParts args (pairs_taken forms.takes) → KeepsNumbers tree store →
      Agrees (called_setting forms tree turns more depth (numbers c) args t) (length t.params) (task_code tree t).slots
      (before_all turns) (body_of tree calls t) (opening tree turns t vs store) begins
  opens forms calls answers takes inside pointed under besides room holds given parts kept =
      let x = called_setting forms tree turns more depth (numbers c) args t in
      let code = task_code tree t in
      let sc = scope_of tree t in
      let e = entered_taken c sc vs (param_types tree t) vs takes in
      let us = entered sc vs (param_types tree t) vs in
      let w = where_of (length t.params) (body_of tree calls t) in
      let ms = map (machine_value c) vs in
      let blanks = replicate (code.slots - length ms) blank in
      let long : length us ≡ length t.params = taken_length IsOf (param_types tree t) us e.0 ∙ types_length sc.names
      ∙ params_length tree t.params 0 t.params in
      let same : length ms ≡ length us = ap length (sym e.1) ∙ length-map us (machine_value c) in
      record {
        names = λ k l.
            let low : k < length t.params = omega (arith, l, long) in
            let at : slot w k ≡ k = omega (arith, low) in
            ap (λ n. get_or (ms ++ blanks) n blank) at
            ∙ get_or-append ms blanks blank k (omega (arith, l, same))
            ∙ ap (λ ys. get_or ys k blank) (sym e.1) ∙ get_or-map (machine_value c) us k nothing;
        hidden = λ k a b. absurd (omega (arith, b));
        held = λ k l. absurd (omega (arith, l));
        typed = names_typed IsOf sc.names us (params_from tree t.params 0 t.params) e.0;
        inside_store = names_typed (IsInside x store) sc.names us (params_from tree t.params 0 t.params)
            (entered_inside x store sc vs (param_types tree t) vs takes inside);
        steady = λ k q l e. absurd (omega (arith, l));
        besides = besides (λ p. get_or (ms ++ blanks) (beside w p) blank);
        pointed = pointed;
        under = under;
        count = taken_length IsOf (param_types tree t) us e.0 ∙ types_length sc.names;
        inside = omega arith;
        slots_are = length-append ms blanks
            ∙ ap (λ n. length ms + n) (length-replicate (code.slots - length ms) blank)
            ∙ omega (arith, subst (λ n. n ≤ code.slots) (sym (length-map vs (machine_value c))) room);
        turns = refl;
        bound = omega arith;
        text = refl;
        ready = ready_append ms blanks (ready_values c vs) (ready_blanks (code.slots - length ms));
        calls = record { few = omega arith; children = refl; depth = refl };
        result_is = refl;
        answers = answers;
        spaces = refl;
        tree_is = refl;
        memory = holds;
        framed = record {
          own_are = sym (append-nil (numbers c));
          none = λ e. refl;
          shaped = λ k own low. absurd (omega (arith, own, low, length-map c.roots (λ (r : Root). r.id.0), holds.stands.count));
          allows = λ u own l. absurd (omega (
            arith,
            leb-true (length (numbers c)) u.root own,
            root_below store u.root u.field u.point l,
            length-map c.roots (λ (r : Root). r.id.0),
            holds.stands.count,
          ));
          given = given;
          parts = parts;
          kept = kept;
        };
      }
