-- What loops and variables bind: widths, domains, and the shapes of roots.
use Rattle.std.proofs.Common.{◌≡◌, ℕ, ℤ, pos, List, Bool, refl, arith}
use Rattle.std.proofs.lemmas.Int.{ints}
use Rattle.lane_kernels.specs.declared.numbers.Width.{Width}
use Rattle.lane_kernels.specs.declared.numbers.Width.TheVariants.{W32, W64}
use Rattle.lane_kernels.specs.Numbers.{FitsWidth}
use Rattle.regent_tree.specs.Numbers.{wider}
use Rattle.regent_tree.specs.declared.typing.StaticType.{StaticType}
use Rattle.regent_tree.specs.declared.typing.StaticType.TheVariants.{Integer as integer_type}
use Rattle.regent_tree.specs.Syntax.{Expression, Name, if_form, Block, Arms, Otherwise}
use Rattle.regent_tree.specs.Typing.{arithmetic_type, owned, taken_from}
use Rattle.task_code.specs.declared.instr.Instr.TheVariants as instr
use Rattle.machine_terms.specs.declared.value.Value.{Value}
use Rattle.code_rules.specs.Initializers.{new_place, plain_code}
use Rattle.code_rules.specs.Instructions.{one}
use Rattle.task_code.specs.declared.code.Line.{Line}
use Rattle.code_rules.specs.Pieces.{Piece, ◌⨟◌, rounds}
use Rattle.code_rules.specs.Slots.{Where, beside, counter, slot}
use Rattle.code_rules.specs.Statements.{looping, block_code}
use Rattle.code_laws.specs.Standing.{Stands}
use Rattle.fit_rules.specs.Shapes.{integer, World, Is, is_number}
use Rattle.code_rules.specs.Expressions.{expr_code}
use Rattle.code_laws.specs.Simple.{simple_integer, simple_truth, simple_space, simple_index, IsInteger, an_integer}
use Rattle.regent_tree.specs.Scopes.{Scope}
use Rattle.regent_tree.specs.Syntax.{Tree}
use Rattle.regent_tree.specs.Typing.{scope_after_arms}
use Rattle.check_laws.specs.MeantVisits.{meant_in_arms, meant_in_else, meant_within}
use Rattle.sound_code.specs.Ways.{Way, shape_of}
use Rattle.code_laws.specs.Pointers.{a_pointer_type}
use Rattle.sound_code.proofs.Told.{ToldAll, told_both}
use Rattle.sound_code.proofs.Wholes.{IsKept, kept_pointer, kept_simple}

-- ---- widths

widened : (a b : Width) (z : ℤ) → FitsWidth a z → FitsWidth (wider a b) z
widened W32 W32 z h = h
widened W32 W64 z h = omega (arith, ints, h)
widened W64 b z h = h

widened_right : (a b : Width) (z : ℤ) → FitsWidth b z → FitsWidth (wider a b) z
widened_right W32 b z h = h
widened_right W64 W32 z h = omega (arith, ints, h)
widened_right W64 W64 z h = h

pub record Widens (u v : StaticType) : Type 0 where
  pub width : Width
  pub is : arithmetic_type u v ≡ integer_type width
  pub left : (x : World) (a : Value) → Is x (shape_of u) a → Is x (integer width) a
  pub right : (x : World) (a : Value) → Is x (shape_of v) a → Is x (integer width) a

of_width : (x : World) (a w : Width) (v : Value) → ((z : ℤ) → FitsWidth a z → FitsWidth w z) → Is x (integer a) v →
    Is x (integer w) v
of_width x a w _ h (is_number _ z i) = is_number (integer w) z (h z i)

pub widens : (u v : StaticType) → IsInteger u → IsInteger v → Widens u v
widens _ _ (an_integer a) (an_integer b) = record {
  width = wider a b;
  is = refl;
  left = λ x v. of_width x a (wider a b) v (widened a b);
  right = λ x v. of_width x b (wider a b) v (widened_right a b);
}

-- ---- code

-- the code of a loop over points, behind its domain
abbrev pub over_points : Where → Name → StaticType → Block → Bool → Piece
over_points w x u body p =
    one w (instr.Store (beside w (new_place w)))
    ⨟ one w (instr.Num (pos 0)) ⨟ one w (instr.Store (counter w (new_place w)))
    ⨟ rounds (instr.NextPoint (beside w (new_place w)) (counter w (new_place w)) (slot w (new_place w)) p) w.line
    (block_code (looping w x (taken_from u)) body)

-- the statements in the arms and behind them
pub parts_told : (tree : Tree) (way : Way) (s : Scope) (arms : Arms) (other : Otherwise) → ToldAll way tree (λ task. meant_within tree task s (if_form arms other)) →
    ToldAll way tree (λ task. meant_in_arms tree task s arms) × ToldAll way tree (λ task. meant_in_else tree task (scope_after_arms tree s arms) other)
parts_told tree way s arms other h = told_both tree way (λ task. meant_in_arms tree task s arms) (λ task. meant_in_else tree task (scope_after_arms tree s arms) other) h

-- the value of an initializer stands first in its code
pub plain_stands : (body : List Line) (w : Where) (e : Expression) (i : ℕ) (u : StaticType) (pc : ℕ) → IsKept u →
    Stands body pc (plain_code w (owned i u) e) → Stands body pc (expr_code w 0 e)
plain_stands body w e i _ pc (kept_simple _ (simple_integer v)) st = st.0
plain_stands body w e i _ pc (kept_simple _ simple_truth) st = st.0
plain_stands body w e i _ pc (kept_simple _ (simple_space c)) st = st.0
plain_stands body w e i _ pc (kept_simple _ (simple_index c)) st = st.0
plain_stands body w e i _ pc (kept_pointer _ (a_pointer_type c sp args rs names)) st = st.0
