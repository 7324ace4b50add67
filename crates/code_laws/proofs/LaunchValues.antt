-- Arguments of a launch as a parameter wants them: what is converted without a fault, and a colour.
use Rattle.std.proofs.Common.{◌≡◌, ℕ, ◌<◌, pos, List, [], Bool, true, false, refl, sym, ap, ◌∙◌, arith}
use Rattle.std.specs.Prelude.{bytes_eq, cond, length, ◌&&◌, ◌||◌}
use Rattle.std.proofs.lemmas.Bool.{false≢true}
use Rattle.std.proofs.lemmas.Int.{SFits-int_wrap, int_wrap_fits, ints}
use Rattle.std.proofs.lemmas.Slice.Eq.{bytes_eq-Decides}
use Rattle.lane_kernels.specs.Numbers.{FitsWidth, std_width}
use Rattle.lane_kernels.specs.declared.numbers.Width.{Width}
use Rattle.lane_kernels.specs.declared.numbers.Width.TheVariants.{W32, W64}
use Rattle.regent_tree.specs.Accesses.{converted}
use Rattle.regent_tree.specs.Lookup.{is_bound}
use Rattle.regent_tree.specs.Operators.{as_number}
use Rattle.regent_tree.specs.Running.{Here, State, gives}
use Rattle.regent_tree.specs.Scopes.{Scope, bound_to, with_name}
use Rattle.regent_tree.specs.StaticTypes.{number_type}
use Rattle.regent_tree.specs.Syntax.{Name}
use Rattle.regent_tree.specs.Typing.{is_pointer, positions}
use Rattle.regent_tree.specs.Values.{Value, a_number, a_pointer, a_space, a_truth, an_index, moved}
use Rattle.regent_tree.specs.declared.types.Kind.{Kind}
use Rattle.regent_tree.specs.declared.types.NumberTerm.{NumberTerm}
use Rattle.regent_tree.specs.declared.types.NumberTerm.TheVariants as number
use Rattle.regent_tree.specs.declared.typing.Bound.{Bound}
use Rattle.regent_tree.specs.declared.typing.StaticType.{StaticType}
use Rattle.regent_tree.specs.declared.typing.StaticType.TheVariants.{Index as index_type, Integer as integer_type}
use Rattle.task_code.specs.declared.instr.Instr.TheVariants as instr
use Rattle.machine_terms.specs.declared.order.Contents.{Contents}
use Rattle.machine_terms.specs.declared.order.Instance.{Instance}
use Rattle.machine_terms.specs.declared.value.Value.{Value as MachineValue}
use Rattle.machine_terms.specs.declared.value.Value.TheVariants as machine
use Rattle.check_rules.specs.types.Sorts.{is_index}
use Rattle.code_rules.specs.Instructions.{converted_code}
use Rattle.code_rules.specs.Pieces.{past}
use Rattle.code_laws.specs.Pointers.{Passes, a_pointer_type, fills_alike, fills_index, into_index, into_plain, into_space, passes_plain, passes_pointer}
use Rattle.code_laws.specs.Simple.{number_index, number_integer, two_integers, two_truths}
use Rattle.code_laws.specs.Standing.{Aside, IsOf, SlotsFit, Stands, machine_value, of_index, of_integer, of_pointer, of_space, of_truth, where_of}
use Rattle.code_laws.specs.Steps.{Leads, Setting}
use Rattle.code_laws.proofs.Accesses.{index_fits}
use Rattle.code_laws.proofs.Good.{valued}
use Rattle.code_laws.proofs.Moving.{moved_small, moves, positions_many, positions_small}
use Rattle.code_laws.proofs.Runs.{leads_by, leads_none}

-- ---- the loop's variable is the innermost name

bytes_flip : (a b : Name) (c : Bool) → bytes_eq a b ≡ c → bytes_eq b a ≡ c
bytes_flip a b true e = (bytes_eq-Decides b a).1 (sym ((bytes_eq-Decides a b).0 e))
bytes_flip a b false e = by (bytes_eq b a) refl
  where
    by : (c : Bool) → bytes_eq b a ≡ c → c ≡ false
    by false q = refl
    by true q = absurd (false≢true (sym e ∙ (bytes_eq-Decides a b).1 (sym ((bytes_eq-Decides b a).0 q))))

module _ (s : Scope) (i : Name) (t : StaticType) where
  abbrev pub variable : Bound
  variable = record { name = i; number = s.next; place = length s.names; static_type = t; by_loop = true }

  pub bound_own : (n : Name) → bytes_eq n i ≡ true → bound_to (with_name s i t true).names n ≡ variable
  bound_own n e = ap (λ c. cond c variable (bound_to s.names n)) (bytes_flip n i true e)

  pub bound_other : (n : Name) → bytes_eq n i ≡ false → bound_to (with_name s i t true).names n ≡ bound_to s.names n
  bound_other n e = ap (λ c. cond c variable (bound_to s.names n)) (bytes_flip n i false e)

  pub there_other : (n : Name) → bytes_eq n i ≡ false → is_bound (with_name s i t true).names n ≡ true → is_bound s.names n ≡ true
  there_other n e there = ap (λ c. c || is_bound s.names n) (sym (bytes_flip n i false e)) ∙ there

-- ---- what is passed without a fault

module _ (x : Setting) (params slots : ℕ) (fit : SlotsFit x slots) {deep : ℕ} (aside : Aside deep) where
  -- a conversion gives a value in each state, and its code puts that on the stack
  pub record ConvertsAt (h : Here) (t u : StaticType) (v : Value) (pc : ℕ) (st : List MachineValue) (i : Instance) : Type 0 where
    pub to : Value
    pub is : (s : State) → converted h t u [] v s ≡ gives to s
    pub typed : IsOf u to
    pub leads : Leads x (valued pc st v i) (valued (past (converted_code (where_of params h) t u) pc) st to i)

  -- all but a pointer where an index is wanted
  pub converts_at : (h : Here) (t u p : StaticType) (v : Value) (pc : ℕ) (st : List MachineValue) (i : Instance) → Passes t u p → IsOf t v →
      is_pointer t && is_index p ≡ false → Stands x.body pc (converted_code (where_of params h) t u) → ConvertsAt h t u v pc st i
  converts_at h _ _ _ _ pc st i (passes_plain _ _ (into_plain _ _ (fills_alike _ _ (two_integers W32 W32)))) (of_integer _ z p) plain f =
      record { to = a_number W32 z; is = λ s. ap (λ y. gives (a_number W32 y) s) (int_wrap_fits (std_width W32) z p); typed = of_integer W32 z p; leads = leads_none x _ }
  converts_at h _ _ _ _ pc st i (passes_plain _ _ (into_plain _ _ (fills_alike _ _ (two_integers W32 W64)))) (of_integer _ z p) plain f =
      record { to = _; is = λ s. refl; typed = of_integer W64 _ (SFits-int_wrap (std_width W64) z); leads = leads_by x _ _ (instr.Wrap W64) h.line f refl }
  converts_at h _ _ _ _ pc st i (passes_plain _ _ (into_plain _ _ (fills_alike _ _ (two_integers W64 W32)))) (of_integer _ z p) plain f =
      record { to = _; is = λ s. refl; typed = of_integer W32 _ (SFits-int_wrap (std_width W32) z); leads = leads_by x _ _ (instr.Wrap W32) h.line f refl }
  converts_at h _ _ _ _ pc st i (passes_plain _ _ (into_plain _ _ (fills_alike _ _ (two_integers W64 W64)))) (of_integer _ z p) plain f =
      record { to = a_number W64 z; is = λ s. ap (λ y. gives (a_number W64 y) s) (int_wrap_fits (std_width W64) z p); typed = of_integer W64 z p; leads = leads_none x _ }
  converts_at h _ _ _ _ pc st i (passes_plain _ _ (into_plain _ _ (fills_alike _ _ two_truths))) (of_truth b) plain f =
      record { to = a_truth b; is = λ s. refl; typed = of_truth b; leads = leads_none x _ }
  converts_at h _ _ _ _ pc st i (passes_plain _ _ (into_plain _ _ (fills_index _ j (number_integer w)))) (of_integer _ z p) plain f =
      record { to = an_index z; is = λ s. refl; typed = of_index j z (index_fits w z p); leads = leads_none x _ }
  converts_at h _ _ _ _ pc st i (passes_plain _ _ (into_plain _ _ (fills_index _ j (number_index k)))) (of_index _ z p) plain f =
      record { to = an_index z; is = λ s. refl; typed = of_index j z p; leads = leads_none x _ }
  converts_at h _ _ _ _ pc st i (passes_plain _ _ (into_index k sp args qs j)) (of_pointer _ _ _ _ tg regions p) plain f = absurd (false≢true (sym plain))
  converts_at h _ _ _ _ pc st i (passes_plain _ _ (into_space j k)) (of_space _ n p) plain f =
      record { to = a_space n; is = λ s. refl; typed = of_space k n p; leads = leads_none x _ }
  converts_at h _ _ _ _ pc st i (passes_pointer _ k sp args brgs rs qs (a_pointer_type j sq crgs us n) e) (of_pointer _ _ _ _ tg regions o) plain f =
      let js = positions h.scope.known us qs in record {
        to = a_pointer (moved js tg) [];
        is = λ s. refl;
        typed = of_pointer k sp brgs qs (moved js tg) [] (moved_small js (length us) (length qs) tg (positions_small h.scope.known us qs) o);
        leads = moves x params slots fit aside js (length us) h.line tg pc st i (positions_many h.scope.known us qs) o f;
      }

-- ---- colours

colour_fits : (w : Width) (c : ℕ) → c < 4194304 → FitsWidth w (pos c)
colour_fits W32 c low = omega (arith, ints, low)
colour_fits W64 c low = omega (arith, ints, low)

-- a colour as an index or an integer
pub data IsColourOf (c : ℕ) : StaticType → Value → Type 0 where
  colour_index : (k : Kind) → IsColourOf c (index_type k) (an_index (pos c))
  colour_integer : (w : Width) → IsColourOf c (integer_type w) (a_number w (pos c))

-- the loop's variable, converted to a number type
pub record ConvertedColour (t : NumberTerm) (c : ℕ) : Type 0 where
  pub to : Value
  pub is : as_number t (an_index (pos c)) ≡ to
  pub colour : IsColourOf c (number_type t) to

pub converted_colour : (t : NumberTerm) (c : ℕ) → c < 4194304 → ConvertedColour t c
converted_colour number.Int32 c low = record {
  to = a_number W32 (pos c);
  is = ap (a_number W32) (int_wrap_fits (std_width W32) (pos c) (colour_fits W32 c low));
  colour = colour_integer W32;
}
converted_colour number.Int64 c low = record {
  to = a_number W64 (pos c);
  is = ap (a_number W64) (int_wrap_fits (std_width W64) (pos c) (colour_fits W64 c low));
  colour = colour_integer W64;
}
converted_colour (number.Index k) c low = record { to = an_index (pos c); is = refl; colour = colour_index k }

-- what is passed of a colour is the colour
pub record PassedColour (h : Here) (c : ℕ) (t u p : StaticType) (v : Value) : Type 0 where
  pub to : Value
  pub is : (s : State) → converted h t u [] v s ≡ gives to s
  pub typed : IsOf p to
  pub kept : (cs : Contents) → machine_value cs to ≡ machine.Number (pos c)

pub passed_colour : (h : Here) (c : ℕ) (t u p : StaticType) (v : Value) → c < 4194304 → Passes t u p → IsColourOf c t v → PassedColour h c t u p v
passed_colour h c _ _ _ _ low (passes_plain _ _ (into_plain _ _ (fills_alike _ _ (two_integers a b)))) (colour_integer _) = record {
  to = a_number b (pos c);
  is = λ s. ap (λ z. gives (a_number b z) s) (int_wrap_fits (std_width b) (pos c) (colour_fits b c low));
  typed = of_integer b (pos c) (colour_fits b c low);
  kept = λ cs. refl;
}
passed_colour h c _ _ _ _ low (passes_plain _ _ (into_plain _ _ (fills_index _ j (number_integer w)))) (colour_integer _) =
    record { to = an_index (pos c); is = λ s. refl; typed = of_index j (pos c) (colour_fits W64 c low); kept = λ cs. refl }
passed_colour h c _ _ _ _ low (passes_plain _ _ (into_plain _ _ (fills_index _ j (number_index k)))) (colour_index _) =
    record { to = an_index (pos c); is = λ s. refl; typed = of_index j (pos c) (colour_fits W64 c low); kept = λ cs. refl }
passed_colour h c _ _ _ v low (passes_plain _ _ (into_plain _ _ (fills_alike _ _ two_truths))) colour = elim colour [ ]
passed_colour h c _ _ _ v low (passes_plain _ _ (into_index k sp args rs j)) colour = elim colour [ ]
passed_colour h c _ _ _ v low (passes_plain _ _ (into_space j k)) colour = elim colour [ ]
passed_colour h c _ _ _ v low (passes_pointer _ k sp args brgs rs qs (a_pointer_type j sq crgs us n) e) colour = elim colour [ ]
