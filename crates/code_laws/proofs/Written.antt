-- The code of a variable of a written type that begins with no partition: what it begins with is converted.
use Rattle.std.proofs.Common.{◌≡◌, ◌⊎◌, List, inl, inr, refl}
use Rattle.regent_tree.specs.Syntax.{Expression}
use Rattle.regent_tree.specs.declared.typing.Bound.{Bound}
use Rattle.regent_tree.specs.declared.typing.StaticType.{StaticType}
use Rattle.code_rules.specs.Expressions.{expr_code}
use Rattle.code_rules.specs.Initializers.{written_code}
use Rattle.code_rules.specs.Instructions.{converted_code}
use Rattle.code_rules.specs.Pieces.{◌⨟◌}
use Rattle.code_rules.specs.Slots.{Where, typed}
use Rattle.code_laws.specs.Pointers.{Begins, IsPointer, a_pointer_type, begins_plain, begins_pointer}
use Rattle.code_laws.specs.Simple.{IsSimple, simple_index, simple_integer, simple_space, simple_truth}
use Rattle.code_laws.proofs.Wider.{into_simple}

simple_written : (w : Where) (t : StaticType) (e : Expression) → IsSimple t ⊎ IsPointer t →
    written_code w t e ≡ (expr_code w 0 e ⨟ converted_code w (typed w e) t)
simple_written w _ e (inl (simple_integer v)) = refl
simple_written w _ e (inl simple_truth) = refl
simple_written w _ e (inl (simple_space k)) = refl
simple_written w _ e (inl (simple_index k)) = refl
simple_written w _ e (inr (a_pointer_type k sp args rs names)) = refl

pub begins_written : (bs : List Bound) (w : Where) (t u : StaticType) (e : Expression) → Begins bs t u →
    written_code w u e ≡ (expr_code w 0 e ⨟ converted_code w (typed w e) u)
begins_written bs w t u e (begins_plain _ _ into) = simple_written w u e (inl (into_simple t u into))
begins_written bs w t u e (begins_pointer _ _ p wr) = simple_written w u e (inr wr.0)
