-- In a program without a breach a loop over points is launched exactly where its shape is Launch.
use Rattle.std.proofs.Common.{◌≡◌, ◌∙◌, ℕ, [], ◌++◌, Bool, true, false, Option, Some, None, refl, sym, ap, inl}
use Rattle.std.specs.Prelude.{cond, ◌&&◌}
use Rattle.std.proofs.lemmas.Bool.{false≢true}
use Rattle.regent_tree.proofs.Members.{Contains-from_Has, Has}
use Rattle.index_launch.specs.declared.view.LaunchShape.{LaunchShape}
use Rattle.index_launch.specs.declared.view.LaunchShape.TheVariants.{Launch, Plain}
use Rattle.regent_tree.specs.Syntax.{Block, Expression, Form, Name, TaskTree, a_statement, access_expr, call_expr, call_form, cast_expr, chain_expr, convert_expr, for_in_form, is_null_expr, no_statement, null_expr, number_expr, prefix_expr, space_expr, then_statement, truth_expr}
use Rattle.regent_tree.specs.Typing.{is_pointer, taken_from}
use Rattle.task_code.specs.declared.instr.Instr.TheVariants as instr
use Rattle.check_rules.specs.Breaches.{breaches}
use Rattle.check_rules.specs.launches.Shapes.{shape_of}
use Rattle.check_rules.specs.scopes.Visits.{Visit}
use Rattle.check_rules.specs.types.Parts.{subexpressions}
use Rattle.check_rules.specs.types.Sorts.{is_space, is_unknown_type}
use Rattle.check_laws.proofs.Trees.{all_is_known}
use Rattle.code_rules.specs.Expressions.{expr_code}
use Rattle.code_rules.specs.Initializers.{new_place}
use Rattle.code_rules.specs.Instructions.{one}
use Rattle.code_rules.specs.Launches.{LaunchedCall, call_on, is_launch, launched_call, one_call}
use Rattle.code_rules.specs.Pieces.{Piece, op, ◌⨟◌}
use Rattle.code_rules.specs.Slots.{Where, beside, typed}
use Rattle.code_rules.specs.Statements.{block_code, in_one_step, points_code}
use Rattle.launch_laws.specs.Laws.{Exactly, GoesPointByPoint, IsLaunched, LoopsAreLaunchedByShape, Not, StandsThere, inside}
use Rattle.launch_laws.proofs.Calls.{calls_by_shape, has_call}

-- ---- a call that is launched is the loop's body

call_alone : (line : ℕ) (form : Form) (c : LaunchedCall) → call_on line form ≡ Some c →
    then_statement (a_statement line form) no_statement ≡ then_statement (a_statement c.line (call_form c.task c.args)) no_statement
call_alone line (call_form task args) c e = ap (λ x. body_of x (record { line = line; task = task; args = args })) e
  where
    body_of : Option LaunchedCall → LaunchedCall → Block
    body_of (Some x) y = then_statement (a_statement x.line (call_form x.task x.args)) no_statement
    body_of None y = no_statement
call_alone line _ c e = absurd cc

pub body_alone : (body : Block) (c : LaunchedCall) → one_call body ≡ Some c →
    body ≡ then_statement (a_statement c.line (call_form c.task c.args)) no_statement
body_alone no_statement c e = absurd cc
body_alone (then_statement (a_statement line form) no_statement) c e = call_alone line form c e
body_alone (then_statement (a_statement line form) (then_statement s rest)) c e = absurd cc

pub taken : (b : Bool) (body : Block) (c : LaunchedCall) → cond b (one_call body) None ≡ Some c → one_call body ≡ Some c
taken true body c e = e
taken false body c e = absurd cc

-- ---- shapes

pub is_the_launch : (s : Option LaunchShape) → is_launch s ≡ true → s ≡ Some Launch
is_the_launch (Some Launch) e = refl
is_the_launch (Some (Plain reason)) e = absurd (false≢true e)
is_the_launch None e = absurd (false≢true e)

-- ---- the domain is an expression of the loop itself

itself : (e : Expression) → Has (subexpressions e ++ []) e
itself (number_expr z w) = inl refl
itself (truth_expr b) = inl refl
itself (chain_expr first rest) = inl refl
itself (prefix_expr signs e) = inl refl
itself (call_expr task args) = inl refl
itself (access_expr n steps) = inl refl
itself (convert_expr t e) = inl refl
itself (is_null_expr e) = inl refl
itself (null_expr p) = inl refl
itself (cast_expr p e) = inl refl
itself (space_expr k e) = inl refl

pub call_by_shape : (w : Where) (t : TaskTree) (line : ℕ) (demanded : Bool) (i : Name) (domain : Expression) (body : Block) →
    breaches w.tree ≡ [] → StandsThere w t line (for_in_form demanded i domain body) →
    has_call (launched_call w (for_in_form demanded i domain body) body)
    ≡ is_launch (shape_of w.tree w.scope (for_in_form demanded i domain body))
call_by_shape w t line demanded i domain body sound there =
    let v : Visit = record { task = t; scope = w.scope; line = line; form = for_in_form demanded i domain body } in
    let as_meant = (all_is_known w.tree v sound there).1 domain (Contains-from_Has (subexpressions domain ++ []) domain (itself domain)) in
    calls_by_shape w demanded i domain body as_meant.type
    (sym (ap is_unknown_type as_meant.type) ∙ as_meant.known.known)

-- ---- the code by the call

-- whether a piece ends with an instruction alone, as a launch does and a loop doesn't
abbrev ends_alone : Piece → Bool
ends_alone (op i line) = true
ends_alone (a ⨟ b) = ends_alone b
ends_alone _ = false

module _ (w : Where) (demanded : Bool) (i : Name) (domain : Expression) (body : Block) where
  abbrev form : Form
  form = for_in_form demanded i domain body

  abbrev whole : Option LaunchedCall → Piece
  whole call = expr_code w 0 domain ⨟ one w (instr.Store (beside w (new_place w)))
      ⨟ in_one_step w (inside w i domain) i call (points_code w (is_pointer (taken_from (typed w domain))) (block_code (inside w i domain) body))

  with_call : (call : Option LaunchedCall) → launched_call w form body ≡ call → has_call call ≡ true → IsLaunched w demanded i domain body
  with_call (Some c) e h = record {
    call = c;
    body_is = body_alone body c (taken (is_space (typed w domain) && is_launch (shape_of w.tree w.scope form)) body c e);
    code_is = ap whole e;
  }
  with_call None e h = absurd (false≢true h)

  without_call : (call : Option LaunchedCall) → launched_call w form body ≡ call → has_call call ≡ false → GoesPointByPoint w demanded i domain body
  without_call None e h = ap whole e
  without_call (Some c) e h = absurd (false≢true (sym h))

  not_both : IsLaunched w demanded i domain body → GoesPointByPoint w demanded i domain body → ⊥
  not_both launched points = absurd (false≢true (ap ends_alone (sym points ∙ launched.code_is)))

  pub by_shape : has_call (launched_call w form body) ≡ is_launch (shape_of w.tree w.scope form) →
      Exactly (shape_of w.tree w.scope form ≡ Some Launch) (IsLaunched w demanded i domain body)
      × Exactly (Not (shape_of w.tree w.scope form ≡ Some Launch)) (GoesPointByPoint w demanded i domain body)
  by_shape same = told (is_launch (shape_of w.tree w.scope form)) refl
    where
      launched : is_launch (shape_of w.tree w.scope form) ≡ true → IsLaunched w demanded i domain body
      launched e = with_call (launched_call w form body) refl (same ∙ e)

      told : (b : Bool) → is_launch (shape_of w.tree w.scope form) ≡ b →
          Exactly (shape_of w.tree w.scope form ≡ Some Launch) (IsLaunched w demanded i domain body)
          × Exactly (Not (shape_of w.tree w.scope form ≡ Some Launch)) (GoesPointByPoint w demanded i domain body)
      told true e =
          let of = is_the_launch (shape_of w.tree w.scope form) e in
          ((λ s. launched e, λ l. of), (λ no. absurd (no of), λ points s. not_both (launched e) points))
      told false e =
          let points = without_call (launched_call w form body) refl (same ∙ e) in
          let no : Not (shape_of w.tree w.scope form ≡ Some Launch) = λ s. false≢true (sym e ∙ ap is_launch s) in
          ((λ s. absurd (no s), λ l. absurd (not_both l points)), (λ n. points, λ p. no))

pub loops_are_launched_by_shape : LoopsAreLaunchedByShape
loops_are_launched_by_shape w t line demanded i domain body sound there =
    by_shape w demanded i domain body (call_by_shape w t line demanded i domain body sound there)
