-- Where the type of its domain is known, a loop over points has a call to launch exactly where its shape is Launch.
use Rattle.std.proofs.Common.{◌≡◌, ℕ, List, [], ◌∷◌, ◌++◌, Bool, true, false, Option, Some, None, refl, sym, ap, ◌∙◌}
use Rattle.std.specs.Prelude.{cond, not, ◌&&◌, ◌||◌}
use Rattle.std.proofs.lemmas.Bool.{false≢true}
use Rattle.index_launch.specs.Shapes.{first, of_arguments, of_pairs, reasons, shape, shape_for, where_so}
use Rattle.index_launch.specs.declared.view.LoopView.{LoopView}
use Rattle.index_launch.specs.declared.view.Reason.{Reason}
use Rattle.index_launch.specs.declared.view.Reason.TheVariants.{NotOneCall, NotOverSpace}
use Rattle.regent_tree.specs.Scopes.{Scope}
use Rattle.regent_tree.specs.Syntax.{Block, Expression, Form, Name, Tree, a_statement, call_form, for_in_form, no_statement, then_statement}
use Rattle.regent_tree.specs.declared.typing.StaticType.{StaticType}
use Rattle.check_rules.specs.launches.Shapes.{shape_of}
use Rattle.check_rules.specs.launches.Views.{loop_view}
use Rattle.check_rules.specs.scopes.Variables.{scope_in_loop}
use Rattle.check_rules.specs.types.KnownTypes.{known_type}
use Rattle.check_rules.specs.types.Sorts.{is_space, is_unknown_type, may_be}
use Rattle.code_rules.specs.Launches.{LaunchedCall, call_on, is_launch, launched_call, one_call}
use Rattle.code_rules.specs.Slots.{Where, typed}

abbrev pub has_call : Option LaunchedCall → Bool
has_call (Some c) = true
has_call None = false

-- ---- what a shape of Launch says of the loop

empty_parts : (xs ys : List Reason) → xs ++ ys ≡ [] → (xs ≡ []) × (ys ≡ [])
empty_parts [] ys e = (refl, e)
empty_parts (x ∷ xs) ys e = absurd cc

so : (b : Bool) (r : Reason) → where_so (not b) r ≡ [] → b ≡ true
so true r e = refl
so false r e = absurd cc

no_reason : (rs : List Reason) → is_launch (Some (shape_for (first rs))) ≡ true → rs ≡ []
no_reason [] e = refl
no_reason (r ∷ rs) e = absurd (false≢true e)

-- it goes over a space, and is one call
pub heads : (view : LoopView) → is_launch (Some (shape view)) ≡ true → (view.over_space ≡ true) × (view.one_call ≡ true)
heads view e =
    let over = where_so (not view.over_space) NotOverSpace in
    let one = where_so (not view.one_call) NotOneCall in
    let forms = of_arguments 0 view.args in
    let none = empty_parts ((over ++ one) ++ forms) (of_pairs view.apart 0 view.args) (no_reason (reasons view) e) in
    let two = empty_parts (over ++ one) forms none.0 in
    let parts = empty_parts over one two.0 in
    (so view.over_space NotOverSpace parts.0, so view.one_call NotOneCall parts.1)

module _ (tree : Tree) (s : Scope) (i : Name) (over : Bool) where
  form_has : (line : ℕ) (form : Form) →
      has_call (call_on line form) ≡ (loop_view tree s i over (then_statement (a_statement line form) no_statement)).one_call
  form_has line (call_form task args) = refl
  form_has line _ = refl

  body_has : (body : Block) → has_call (one_call body) ≡ (loop_view tree s i over body).one_call
  body_has no_statement = refl
  body_has (then_statement (a_statement line form) no_statement) = form_has line form
  body_has (then_statement (a_statement line form) (then_statement t rest)) = refl

  pub over_as : (body : Block) → (loop_view tree s i over body).over_space ≡ over
  over_as no_statement = refl
  over_as (then_statement (a_statement line (call_form task args)) no_statement) = refl
  over_as (then_statement (a_statement line _) no_statement) = refl
  over_as (then_statement (a_statement line form) (then_statement t rest)) = refl

-- ---- the call that the code launches

space_so : (t : StaticType) → is_unknown_type t ≡ false → may_be is_space t ≡ is_space t
space_so t e = ap (λ b. b || is_space t) e

no_call : (c : Bool) (body : Block) → has_call (cond (c && false) (one_call body) None) ≡ false
no_call true body = refl
no_call false body = refl

pub calls_by_shape : (w : Where) (demanded : Bool) (i : Name) (domain : Expression) (body : Block) →
    known_type w.tree w.scope domain ≡ typed w domain → is_unknown_type (typed w domain) ≡ false →
    has_call (launched_call w (for_in_form demanded i domain body) body)
    ≡ is_launch (shape_of w.tree w.scope (for_in_form demanded i domain body))
calls_by_shape w demanded i domain body known e = by_shape (is_launch (shape_of w.tree w.scope form)) refl
  where
    form : Form
    form = for_in_form demanded i domain body

    inner : Scope
    inner = scope_in_loop w.tree w.scope i domain

    over : Bool
    over = may_be is_space (known_type w.tree w.scope domain)

    over_is : over ≡ is_space (typed w domain)
    over_is = ap (may_be is_space) known ∙ space_so (typed w domain) e

    by_shape : (b : Bool) → is_launch (shape_of w.tree w.scope form) ≡ b →
        has_call (cond (is_space (typed w domain) && b) (one_call body) None) ≡ b
    by_shape false q = no_call (is_space (typed w domain)) body
    by_shape true q =
        let h = heads (loop_view w.tree inner i over body) q in
        let space = sym over_is ∙ sym (over_as w.tree inner i over body) ∙ h.0 in
        ap (λ c. has_call (cond (c && true) (one_call body) None)) space ∙ body_has w.tree inner i over body ∙ h.1
