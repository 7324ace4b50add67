-- The code of a statement without blocks has no launch, and neither has what is computed before one.
use Rattle.std.proofs.Common.{ℕ, suc, List, [], ◌∷◌, Option, Some, None, refl}
use Rattle.lane_kernels.specs.declared.numbers.Op.TheVariants.{Greatest, Least, Product, Sum}
use Rattle.lane_kernels.specs.declared.numbers.Op.{Op}
use Rattle.lane_kernels.specs.declared.numbers.Width.{Width}
use Rattle.regent_tree.specs.Accesses.{args_in, space_in}
use Rattle.regent_tree.specs.Evaluation.{first_type, other_types}
use Rattle.regent_tree.specs.Execution.{before_last, last_field}
use Rattle.regent_tree.specs.StaticTypes.{field_type}
use Rattle.regent_tree.specs.Syntax.{Name, Expression, Expressions, access_expr, an_expr, no_expr, Initializer, region_initializer, equal_initializer, by_field_initializer, image_initializer, preimage_initializer, both_initializer, either_initializer, plain_initializer, Steps, at_step, field_step, no_step}
use Rattle.regent_tree.specs.Typing.{reaches_of, stepped_type, width_of_type}
use Rattle.regent_tree.specs.declared.statement.How.{How}
use Rattle.regent_tree.specs.declared.statement.How.TheVariants as how
use Rattle.regent_tree.specs.declared.types.TypeTerm.{TypeTerm}
use Rattle.regent_tree.specs.declared.typing.StaticType.{StaticType}
use Rattle.task_code.specs.declared.instr.Instr.TheVariants as instr
use Rattle.code_rules.specs.Assignments.{fill_code, fold_code, put_code, right_code, set_code, slot_behind, target_code}
use Rattle.code_rules.specs.Initializers.{beside_code, declared_code, initializer_code, names_child, new_place, plain_code}
use Rattle.code_rules.specs.Expressions.{expr_code}
use Rattle.code_rules.specs.Instructions.{one}
use Rattle.code_rules.specs.Launches.{fixed_code, is_fixed, kept_code}
use Rattle.code_rules.specs.Pieces.{empty, ◌⨟◌}
use Rattle.code_rules.specs.Slots.{Where, beside, bound, own_slot, slot_named, typed}
use Rattle.code_rules.proofs.PlainCode.{plain_either, written_either}
use Rattle.launch_laws.proofs.Pieces.{Quiet}
use Rattle.launch_laws.proofs.QuietExpressions.{converted_quiet, either_quiet, expr_quiet}

-- ---- initializers

beside_quiet : (w : Where) (t : StaticType) (e : Expression) → Quiet (beside_code w t e)
beside_quiet w t (access_expr n no_step) =
    let copied = one w (instr.Load (beside w (bound w n).place)) ⨟ one w (instr.Store (beside w (new_place w))) in
    either_quiet (names_child (reaches_of t)) copied empty (refl, refl) tt
beside_quiet w t (access_expr n (field_step f rest)) = tt
beside_quiet w t (access_expr n (at_step e rest)) = tt
beside_quiet w t _ = tt

plain_quiet : (w : Where) (t : StaticType) (e : Expression) → Quiet (plain_code w t e)
plain_quiet w t e = plain_either w t e Quiet (expr_quiet w 0 e, beside_quiet w t e) (λ p q i. refl)

declared_quiet : (w : Where) (term : Option TypeTerm) (t : StaticType) (e : Expression) → Quiet (declared_code w term t e)
declared_quiet w None t e = plain_quiet w t e
declared_quiet w (Some term) t e =
    written_either w t e Quiet (plain_quiet w t e) (expr_quiet w 0 e, converted_quiet w (typed w e) t)

pub initializer_quiet : (w : Where) (term : Option TypeTerm) (t : StaticType) (i : Option Initializer) →
    Quiet (initializer_code w term t i)
initializer_quiet w term t None = refl
initializer_quiet w term t (Some (region_initializer e u)) = (expr_quiet w 0 e, refl)
initializer_quiet w term t (Some (equal_initializer r e)) = (expr_quiet w 0 e, refl)
initializer_quiet w term t (Some (by_field_initializer r f e)) = (expr_quiet w 0 e, refl)
initializer_quiet w term t (Some (image_initializer s q r f)) = refl
initializer_quiet w term t (Some (preimage_initializer s q r f)) = refl
initializer_quiet w term t (Some (both_initializer q r)) = refl
initializer_quiet w term t (Some (either_initializer q r)) = refl
initializer_quiet w term t (Some (plain_initializer e)) = declared_quiet w term t e

-- ---- assignments and fills

fold_quiet : (w : Where) (x : ℕ) (o : Op) (v : Width) → Quiet (fold_code w x o v)
fold_quiet w x Sum v = (refl, (refl, (refl, refl)))
fold_quiet w x Product v = (refl, (refl, (refl, refl)))
fold_quiet w x Least v = (refl, (refl, (refl, (refl, (refl, (λ to. refl, (refl, refl)))))))
fold_quiet w x Greatest v = (refl, (refl, (refl, (refl, (refl, (λ to. refl, (refl, refl)))))))

set_quiet : (w : Where) (x : ℕ) (h : How) (t : StaticType) → Quiet (set_code w x h t)
set_quiet w x how.Set t = refl
set_quiet w x (how.Reduce o) t = fold_quiet w x o (width_of_type t)

put_quiet : (w : Where) (t : StaticType) (s : ℕ) (f : Name) (h : How) → Quiet (put_code w t s f h)
put_quiet w t s f how.Set = refl
put_quiet w t s f (how.Reduce o) = refl

stepped_quiet : (w : Where) (n : Name) (steps : Steps) (h : How) →
    let t = (bound w n).static_type in
    Quiet (expr_code w 0 (access_expr n (before_last steps))
    ⨟ put_code w (stepped_type w.tree w.scope t (before_last steps))
    (slot_behind w 0 t (own_slot w t (bound w n).place) (before_last steps)) (last_field steps) h)
stepped_quiet w n steps h =
    let t = (bound w n).static_type in (
      expr_quiet w 0 (access_expr n (before_last steps)),
      put_quiet w (stepped_type w.tree w.scope t (before_last steps))
          (slot_behind w 0 t (own_slot w t (bound w n).place) (before_last steps)) (last_field steps) h,
    )

pub target_quiet : (w : Where) (n : Name) (steps : Steps) (h : How) → Quiet (target_code w n steps h)
target_quiet w n no_step h = set_quiet w (slot_named w n) h (bound w n).static_type
target_quiet w n (field_step f rest) h = stepped_quiet w n (field_step f rest) h
target_quiet w n (at_step e rest) h = stepped_quiet w n (at_step e rest) h

pub right_quiet : (w : Where) (n : Name) (steps : Steps) (h : How) (e : Expression) → Quiet (right_code w n steps h e)
right_quiet w n steps how.Set e = (expr_quiet w 0 e, converted_quiet w (typed w e) (typed w (access_expr n steps)))
right_quiet w n steps (how.Reduce o) e = expr_quiet w 0 e

pub fill_quiet : (w : Where) (from t : StaticType) (r : ℕ) (fs : List Name) → Quiet (fill_code w from t r fs)
fill_quiet w from t r [] = tt
fill_quiet w from t r (f ∷ fs) =
    (refl, (converted_quiet w from (field_type w.tree (space_in t) (args_in t) f), (refl, fill_quiet w from t r fs)))

-- ---- what is computed once, before a launch

pub fixed_quiet : (w : Where) (i : Name) (place : ℕ) (types : List StaticType) (es : Expressions) →
    Quiet (kept_code w i place types es)
fixed_quiet w i place types no_expr = tt
fixed_quiet w i place types (an_expr e es) =
    let code : Quiet (fixed_code w place (first_type types) e) = (expr_quiet w 0 e, (converted_quiet w (typed w e) (first_type types), refl)) in (
      either_quiet (is_fixed i e) (fixed_code w place (first_type types) e) empty code tt,
      fixed_quiet w i (suc place) (other_types types) es,
    )
