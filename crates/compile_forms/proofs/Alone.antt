-- Expressions that are names, and what stands behind the first member of a chain.
use Rattle.std.proofs.Common.{◌≡◌, ℕ, Bool, List, [], ◌∷◌, None, Some, get_or, length, refl, ap, sym}
use Rattle.regent_tree.specs.Plain.{expression_of, links_in, steps_in}
use Rattle.regent_tree.specs.Syntax.{Expression, Links, Name, a_link, access_expr, at_step, call_expr, cast_expr, chain_expr, convert_expr, field_step, is_null_expr, no_link, no_step, null_expr, number_expr, prefix_expr, space_expr, truth_expr}
use Rattle.regent_tree.specs.declared.expression.Arithmetic.TheVariants.{Add, Divide, Multiply, Remainder, Subtract}
use Rattle.regent_tree.specs.declared.expression.Link.{Link}
use Rattle.regent_tree.specs.declared.expression.Operator.{Operator}
use Rattle.regent_tree.specs.declared.expression.Operator.TheVariants.{And, Compare, Compute, Or}
use Rattle.regent_tree.specs.declared.expression.Step.{At, Field, Step}
use Rattle.regent_tree.specs.declared.typing.StaticType.{StaticType}
use Rattle.regent_tree.specs.declared.typing.StaticType.TheVariants.{Partition as partition_type}
use Rattle.code_rules.specs.Initializers.{beside_code, plain_code}
use Rattle.code_rules.specs.Slots.{Where}
use Rattle.compile_forms.specs.Alone.{beside_where, difference_code, name_alone, name_taken_off}

pub alone_without : (n : Name) (steps : List Step) → length steps ≡ 0 →
    name_alone (access_expr n (steps_in steps)) ≡ Some n
alone_without n [] h = refl
alone_without n (x ∷ rest) h = absurd cc

pub alone_with : (n : Name) (steps : List Step) → (length steps ≡ 0 → ⊥) →
    name_alone (access_expr n (steps_in steps)) ≡ None
alone_with n [] h = absurd (h refl)
alone_with n (Field f ∷ rest) h = refl
alone_with n (At e ∷ rest) h = refl

pub other_links : (links : List Link) → (length links ≡ 1 → ⊥) → name_taken_off (links_in links) ≡ None
other_links [] h = refl
other_links (l ∷ []) h = absurd (h refl)
other_links (l ∷ m ∷ rest) h = after l.operator
  where
    after : (o : Operator) → name_taken_off (a_link o (expression_of l.operand)
        (a_link m.operator (expression_of m.operand) (links_in rest))) ≡ None
    after Or = refl
    after And = refl
    after (Compare c) = refl
    after (Compute Add) = refl
    after (Compute Subtract) = refl
    after (Compute Multiply) = refl
    after (Compute Divide) = refl
    after (Compute Remainder) = refl

pub one_link : (links : List Link) (l : Link) → length links ≡ 1 → l ≡ get_or links 0 l →
    name_taken_off (links_in links) ≡ name_taken_off (a_link l.operator (expression_of l.operand) no_link)
one_link [] l h e = absurd cc
one_link (k ∷ []) l h e = ap (λ (m : Link). name_taken_off (a_link m.operator (expression_of m.operand) no_link)) (sym e)
one_link (k ∷ m ∷ rest) l h e = absurd cc

-- beside a variable goes what goes beside the name that is all of its expression
pub beside_alone : (w : Where) (t : StaticType) (e : Expression) → beside_code w t e ≡ beside_where w t (name_alone e)
beside_alone w t (number_expr z v) = refl
beside_alone w t (truth_expr b) = refl
beside_alone w t (chain_expr first rest) = refl
beside_alone w t (prefix_expr signs e) = refl
beside_alone w t (call_expr task args) = refl
beside_alone w t (convert_expr k e) = refl
beside_alone w t (is_null_expr e) = refl
beside_alone w t (null_expr k) = refl
beside_alone w t (cast_expr k e) = refl
beside_alone w t (space_expr k e) = refl
beside_alone w t (access_expr n no_step) = refl
beside_alone w t (access_expr n (field_step f rest)) = refl
beside_alone w t (access_expr n (at_step e rest)) = refl

-- ---- differences

abbrev IsDifference : Where → Bool → ℕ → ℕ → Expression → Links → Type 0
IsDifference w d r own first rest = plain_code w (partition_type d r own) (chain_expr first rest)
    ≡ difference_code w (partition_type d r own) r (chain_expr first rest) (name_alone first) (name_taken_off rest)

taken_off : (w : Where) (d : Bool) (r own : ℕ) (p : Name) (e : Expression) (more : Links) →
    IsDifference w d r own (access_expr p no_step) (a_link (Compute Subtract) e more)
taken_off w d r own p (number_expr z v) no_link = refl
taken_off w d r own p (number_expr z v) (a_link o f more) = refl
taken_off w d r own p (truth_expr b) no_link = refl
taken_off w d r own p (truth_expr b) (a_link o f more) = refl
taken_off w d r own p (chain_expr first others) no_link = refl
taken_off w d r own p (chain_expr first others) (a_link o f more) = refl
taken_off w d r own p (prefix_expr signs e) no_link = refl
taken_off w d r own p (prefix_expr signs e) (a_link o f more) = refl
taken_off w d r own p (call_expr task args) no_link = refl
taken_off w d r own p (call_expr task args) (a_link o f more) = refl
taken_off w d r own p (convert_expr k e) no_link = refl
taken_off w d r own p (convert_expr k e) (a_link o f more) = refl
taken_off w d r own p (is_null_expr e) no_link = refl
taken_off w d r own p (is_null_expr e) (a_link o f more) = refl
taken_off w d r own p (null_expr k) no_link = refl
taken_off w d r own p (null_expr k) (a_link o f more) = refl
taken_off w d r own p (cast_expr k e) no_link = refl
taken_off w d r own p (cast_expr k e) (a_link o f more) = refl
taken_off w d r own p (space_expr k e) no_link = refl
taken_off w d r own p (space_expr k e) (a_link o f more) = refl
taken_off w d r own p (access_expr q no_step) no_link = refl
taken_off w d r own p (access_expr q no_step) (a_link o f more) = refl
taken_off w d r own p (access_expr q (field_step f rest)) no_link = refl
taken_off w d r own p (access_expr q (field_step f rest)) (a_link o g more) = refl
taken_off w d r own p (access_expr q (at_step e rest)) no_link = refl
taken_off w d r own p (access_expr q (at_step e rest)) (a_link o f more) = refl

behind_name : (w : Where) (d : Bool) (r own : ℕ) (p : Name) (rest : Links) →
    IsDifference w d r own (access_expr p no_step) rest
behind_name w d r own p no_link = refl
behind_name w d r own p (a_link Or e more) = refl
behind_name w d r own p (a_link And e more) = refl
behind_name w d r own p (a_link (Compare c) e more) = refl
behind_name w d r own p (a_link (Compute Add) e more) = refl
behind_name w d r own p (a_link (Compute Multiply) e more) = refl
behind_name w d r own p (a_link (Compute Divide) e more) = refl
behind_name w d r own p (a_link (Compute Remainder) e more) = refl
behind_name w d r own p (a_link (Compute Subtract) e more) = taken_off w d r own p e more

differs : (w : Where) (d : Bool) (r own : ℕ) (first : Expression) (rest : Links) → IsDifference w d r own first rest
differs w d r own (number_expr z v) rest = refl
differs w d r own (truth_expr b) rest = refl
differs w d r own (chain_expr before others) rest = refl
differs w d r own (prefix_expr signs e) rest = refl
differs w d r own (call_expr task args) rest = refl
differs w d r own (convert_expr k e) rest = refl
differs w d r own (is_null_expr e) rest = refl
differs w d r own (null_expr k) rest = refl
differs w d r own (cast_expr k e) rest = refl
differs w d r own (space_expr k e) rest = refl
differs w d r own (access_expr p no_step) rest = behind_name w d r own p rest
differs w d r own (access_expr p (field_step f steps)) rest = refl
differs w d r own (access_expr p (at_step e steps)) rest = refl

pub differs_at : (w : Where) (t : StaticType) (d : Bool) (r own : ℕ) (e first : Expression) (rest : Links) →
    t ≡ partition_type d r own → e ≡ chain_expr first rest →
    plain_code w t e ≡ difference_code w t r e (name_alone first) (name_taken_off rest)
differs_at w t d r own e first rest is_partition is_chain = rw (is_partition, is_chain) (differs w d r own first rest)
