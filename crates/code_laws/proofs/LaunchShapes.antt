-- What the shape of a loop tells that is a launch: its body is one call, and of which forms the arguments are.
use Rattle.std.proofs.Common.{◌≡◌, ℕ, suc, ℤ, List, [], ◌∷◌, ◌++◌, Bool, true, false, Some, None, refl, ap, ◌∙◌, subst}
use Rattle.std.specs.Prelude.{bytes_eq, cond, not, ◌&&◌}
use Rattle.std.proofs.lemmas.Bool.{false≢true}
use Rattle.std.proofs.lemmas.Option.{same_Some}
use Rattle.index_launch.specs.Shapes.{first, is_other, of_arguments, of_pairs, reasons, shape, shape_for, where_so}
use Rattle.index_launch.specs.declared.view.ArgKind.TheVariants.{Fixed, Other, Point}
use Rattle.index_launch.specs.declared.view.LoopView.{LoopView}
use Rattle.index_launch.specs.declared.view.Reason.{Reason}
use Rattle.index_launch.specs.declared.view.Reason.TheVariants.{NotOverSpace, NotOneCall, Argument}
use Rattle.lane_kernels.specs.declared.numbers.Width.{Width}
use Rattle.regent_tree.specs.Lookup.{type_named}
use Rattle.regent_tree.specs.StaticTypes.{task_named}
use Rattle.regent_tree.specs.Syntax.{Block, Expression, Expressions, Form, Name, access_expr, a_statement, an_expr, at_step, call_form, convert_expr, for_in_form, no_expr, no_statement, no_step, number_expr, then_statement, truth_expr}
use Rattle.regent_tree.specs.Typing.{is_pointer}
use Rattle.regent_tree.specs.declared.rights.Right.{Right}
use Rattle.regent_tree.specs.declared.types.NumberTerm.{NumberTerm}
use Rattle.regent_tree.specs.declared.typing.Bound.{Bound}
use Rattle.regent_tree.specs.declared.typing.StaticType.{StaticType}
use Rattle.regent_tree.specs.declared.typing.StaticType.TheVariants as typing
use Rattle.check_rules.specs.launches.Shapes.{shape_of}
use Rattle.check_rules.specs.launches.Views.{argument_views, is_variable, kind_of, kind_of_element, kind_of_name, loop_view}
use Rattle.check_rules.specs.rules.Privileges.{rights_told}
use Rattle.check_rules.specs.scopes.Variables.{scope_in_loop}
use Rattle.check_rules.specs.types.Declarations.{params_of}
use Rattle.check_rules.specs.types.KnownTypes.{known_type, known_types}
use Rattle.check_rules.specs.types.Sorts.{is_index, is_partition, is_space, is_unknown_type, may_be, type_at}
use Rattle.code_rules.specs.Launches.{LaunchedCall, call_on, is_launch, launched_call, one_call}
use Rattle.code_rules.specs.Slots.{Where, typed}

-- ---- no reason speaks against it

empty_parts : (xs ys : List Reason) → xs ++ ys ≡ [] → (xs ≡ []) × (ys ≡ [])
empty_parts [] ys e = (refl, e)
empty_parts (x ∷ xs) ys e = absurd cc

not_so : (b : Bool) (r : Reason) → where_so b r ≡ [] → b ≡ false
not_so true r e = absurd cc
not_so false r e = refl

no_reason : (rs : List Reason) → is_launch (Some (shape_for (first rs))) ≡ true → rs ≡ []
no_reason [] e = refl
no_reason (r ∷ rs) e = absurd (false≢true e)

-- each argument has one of the forms
abbrev pub AreForms : List Bound → Name → List StaticType → ℕ → Expressions → Type 0
AreForms names i params place no_expr = Unit {0}
AreForms names i params place (an_expr e es) =
    (is_other (kind_of names i (type_at params place) e) ≡ false) × AreForms names i params (suc place) es

forms_of : (names : List Bound) (i : Name) (params : List StaticType) (rights : List Right) (types : List StaticType) (place : ℕ) (es : Expressions) →
    of_arguments place (argument_views names i params rights types place es) ≡ [] → AreForms names i params place es
forms_of names i params rights types place no_expr e = tt
forms_of names i params rights types place (an_expr x es) e =
    let b = is_other (kind_of names i (type_at params place) x) in
    let parts = empty_parts (where_so b (Argument place)) (of_arguments (suc place) (argument_views names i params rights types (suc place) es)) e in
    (not_so b (Argument place) parts.0, forms_of names i params rights types (suc place) es parts.1)

-- so of the arguments that are looked at
args_of_view : (view : LoopView) → is_launch (Some (shape view)) ≡ true → of_arguments 0 view.args ≡ []
args_of_view view e =
    let two = where_so (not view.over_space) NotOverSpace ++ where_so (not view.one_call) NotOneCall in
    let forms = of_arguments 0 view.args in
    (empty_parts two forms (empty_parts (two ++ forms) (of_pairs view.apart 0 view.args) (no_reason (reasons view) e)).0).1

-- ---- a loop that is a launch

-- its body is the call, whose arguments have these forms
pub record IsLaunch (w : Where) (i : Name) (domain : Expression) (body : Block) (c : LaunchedCall) : Type 0 where
  pub is : body ≡ then_statement (a_statement c.line (call_form c.task c.args)) no_statement
  pub forms : AreForms (scope_in_loop w.tree w.scope i domain).names i (params_of w.tree c.task) 0 c.args

both : (a b : Bool) → a && b ≡ true → b ≡ true
both true b e = e
both false b e = absurd (false≢true e)

module _ (w : Where) (i : Name) (domain : Expression) (c : LaunchedCall) where
  abbrev LaunchOf : Block → Type 0
  LaunchOf body = is_launch (Some (shape (loop_view w.tree (scope_in_loop w.tree w.scope i domain) i
      (may_be is_space (known_type w.tree w.scope domain)) body))) ≡ true

  by_form : (line : ℕ) (form : Form) → call_on line form ≡ Some c → LaunchOf (then_statement (a_statement line form) no_statement) →
      IsLaunch w i domain (then_statement (a_statement line form) no_statement) c
  by_form line (call_form task args) e launch =
      subst (IsLaunch w i domain (then_statement (a_statement line (call_form task args)) no_statement)) (same_Some _ c e) (record {
        is = refl;
        forms = forms_of (scope_in_loop w.tree w.scope i domain).names i (params_of w.tree task) (rights_told w.tree (task_named w.tree task))
            (known_types w.tree (scope_in_loop w.tree w.scope i domain) args) 0 args (args_of_view (loop_view w.tree (scope_in_loop w.tree w.scope i domain) i
            (may_be is_space (known_type w.tree w.scope domain)) (then_statement (a_statement line (call_form task args)) no_statement)) launch);
      })
  by_form line _ e launch = absurd cc

  by_body : (body : Block) → one_call body ≡ Some c → LaunchOf body → IsLaunch w i domain body c
  by_body no_statement e launch = absurd cc
  by_body (then_statement (a_statement line form) no_statement) e launch = by_form line form e launch
  by_body (then_statement (a_statement line form) (then_statement s rest)) e launch = absurd cc

  pub is_launched : (demanded : Bool) (body : Block) → launched_call w (for_in_form demanded i domain body) body ≡ Some c → IsLaunch w i domain body c
  is_launched demanded body e = by_test (is_space (typed w domain) && is_launch (shape_of w.tree w.scope (for_in_form demanded i domain body))) refl e
    where
      by_test : (b : Bool) → is_space (typed w domain) && is_launch (shape_of w.tree w.scope (for_in_form demanded i domain body)) ≡ b →
          cond b (one_call body) None ≡ Some c → IsLaunch w i domain body c
      by_test true q e = by_body body e (both (is_space (typed w domain)) _ q)
      by_test false q e = absurd cc

-- ---- the forms

-- A literal; a name that isn't the loop's variable, and no pointer where an index is wanted; that variable; the child of a
-- partition by it; and a conversion of it. Of what is unknown nothing is told.
pub data IsLaunched (names : List Bound) (i : Name) (wanted : StaticType) : Expression → Type 0 where
  launched_number : (z : ℤ) (w : Width) → IsLaunched names i wanted (number_expr z w)
  launched_truth : (b : Bool) → IsLaunched names i wanted (truth_expr b)
  launched_name : (n : Name) → bytes_eq n i ≡ false → is_pointer (type_named names n) && is_index wanted ≡ false →
      IsLaunched names i wanted (access_expr n no_step)
  launched_variable : (n : Name) → bytes_eq n i ≡ true → IsLaunched names i wanted (access_expr n no_step)
  launched_child : (p n : Name) → is_partition (type_named names p) ≡ true → bytes_eq n i ≡ true → IsLaunched names i wanted (access_expr p (at_step (access_expr n no_step) no_step))
  launched_none : (p : Name) (e : Expression) → is_unknown_type (type_named names p) ≡ true → IsLaunched names i wanted (access_expr p (at_step e no_step))
  launched_conversion : (t : NumberTerm) (n : Name) → bytes_eq n i ≡ true → IsLaunched names i wanted (convert_expr t (access_expr n no_step))

module _ (names : List Bound) (i : Name) (wanted : StaticType) where
  named_so : (n : Name) (b : Bool) → bytes_eq n i ≡ b → is_other (kind_of_name b wanted (type_named names n)) ≡ false →
      IsLaunched names i wanted (access_expr n no_step)
  named_so n true q e = launched_variable n q
  named_so n false q e = launched_name n q (by_test (is_pointer (type_named names n) && is_index wanted) e)
    where
      by_test : (c : Bool) → is_other (cond c Other Fixed) ≡ false → c ≡ false
      by_test false e = refl
      by_test true e = absurd cc

  -- what stands at the step is the loop's variable
  variable_so : (p : Name) (e : Expression) (b : Bool) → is_partition (type_named names p) ≡ true → is_variable i e ≡ b → b ≡ true →
      IsLaunched names i wanted (access_expr p (at_step e no_step))
  variable_so p (access_expr n no_step) b part q t = launched_child p n part (q ∙ t)
  variable_so p _ b part q t = absurd (false≢true (q ∙ t))

  element_so : (p : Name) (e : Expression) (t : StaticType) → type_named names p ≡ t → is_other (kind_of_element t (is_variable i e)) ≡ false →
      IsLaunched names i wanted (access_expr p (at_step e no_step))
  element_so p e (typing.Partition d r own) q h = variable_so p e (is_variable i e) (ap is_partition q) refl (by_test (is_variable i e) h)
    where
      by_test : (b : Bool) → is_other (kind_of_element (typing.Partition d r own) b) ≡ false → b ≡ true
      by_test true h = refl
      by_test false h = absurd cc
  element_so p e typing.Unknown q h = launched_none p e (ap is_unknown_type q)
  element_so p e _ q h = absurd cc

  converted_so : (t : NumberTerm) (e : Expression) → is_other (cond (is_variable i e) Point Other) ≡ false → IsLaunched names i wanted (convert_expr t e)
  converted_so t (access_expr n no_step) h = by_test (bytes_eq n i) refl h
    where
      by_test : (b : Bool) → bytes_eq n i ≡ b → is_other (cond b Point Other) ≡ false → IsLaunched names i wanted (convert_expr t (access_expr n no_step))
      by_test true q h = launched_conversion t n q
      by_test false q h = absurd cc
  converted_so t _ h = absurd cc

  pub launched_so : (e : Expression) → is_other (kind_of names i wanted e) ≡ false → IsLaunched names i wanted e
  launched_so (number_expr z w) h = launched_number z w
  launched_so (truth_expr b) h = launched_truth b
  launched_so (access_expr n no_step) h = named_so n (bytes_eq n i) refl h
  launched_so (access_expr n (at_step e no_step)) h = element_so n e (type_named names n) refl h
  launched_so (convert_expr t e) h = converted_so t e h
  launched_so _ h = absurd cc
