-- Behind a statement the names are those before it, with some more in front of them, and what was known is
-- known still.
use Rattle.std.proofs.Common.{◌≡◌, ◌-◌, ℕ, List, [], ◌∷◌, ◌++◌, length, drop, take, refl, ap, sym, ◌∙◌, arith, true, append_assoc, append-nil}
use Rattle.std.proofs.lemmas.List.{length-append}
use Rattle.std.proofs.Math.Seq.{drop-append_seam, take-append_seam}
use Rattle.regent_tree.specs.Scopes.{Scope, knowing, past, with_name}
use Rattle.regent_tree.specs.Syntax.{Arms, Block, Form, Name, Otherwise, Tree, a_statement, an_arm, do_form, else_block, for_in_form, for_to_form, if_form, no_arm, no_else, no_statement, then_statement, var_form, while_form}
use Rattle.regent_tree.specs.Typing.{arithmetic_type, scope_after, scope_after_arms, scope_after_block, scope_after_else, taken_from, type_of, var_type}
use Rattle.regent_tree.specs.declared.facts.Known.{Known}
use Rattle.regent_tree.specs.declared.typing.Bound.{Bound}
use Rattle.regent_tree.specs.declared.typing.StaticType.{StaticType}
use Rattle.compile_statements.specs.Scopes.{as_of, mark_of, seen}
use Rattle.compile_statements.specs.declared.scope.Mark.{Mark}
use Rattle.compile_statements.specs.declared.scope.Scoped.{Scoped}

-- ---- names

abbrev pub HasNames : Scope → Scope → Type 0
HasNames s t = (more : List Bound) × (t.names ≡ more ++ s.names)

-- ---- what is known

abbrev pub HasKnown : Scope → Scope → Type 0
HasKnown s t = (more : List Known) × (t.known ≡ s.known ++ more)

knows_same : (s t : Scope) → t.known ≡ s.known → HasKnown s t
knows_same s t e = ([], e ∙ sym (append-nil s.known))

knows_more : (s t u : Scope) → HasKnown s t → HasKnown t u → HasKnown s u
knows_more s t u a b = (
  a.0 ++ b.0,
  b.1 ∙ ap (λ (ks : List Known). ks ++ b.0) a.1 ∙ append_assoc s.known a.0 b.0,
)

mutual
  pub form_knows : (tree : Tree) (s : Scope) (form : Form) → HasKnown s (scope_after tree s form)
  form_knows tree s (var_form n t initializer) = (_, refl)
  form_knows tree s (if_form arms other) = knows_more s (scope_after_arms tree s arms)
      (scope_after_else tree (scope_after_arms tree s arms) other)
      (arms_know tree s arms) (else_knows tree (scope_after_arms tree s arms) other)
  form_knows tree s (while_form test body) = block_knows tree s body
  form_knows tree s (for_in_form demanded n domain body) =
      block_knows tree (with_name s n (taken_from (type_of tree s domain)) true) body
  form_knows tree s (for_to_form demanded n from to body) =
      block_knows tree (with_name s n (arithmetic_type (type_of tree s from) (type_of tree s to)) true) body
  form_knows tree s (do_form body) = block_knows tree s body
  form_knows tree s form = knows_same s s refl

  pub block_knows : (tree : Tree) (s : Scope) (b : Block) → HasKnown s (scope_after_block tree s b)
  block_knows tree s no_statement = knows_same s s refl
  block_knows tree s (then_statement (a_statement line form) rest) = knows_more s (scope_after tree s form)
      (scope_after_block tree (scope_after tree s form) rest)
      (form_knows tree s form) (block_knows tree (scope_after tree s form) rest)

  pub arms_know : (tree : Tree) (s : Scope) (arms : Arms) → HasKnown s (scope_after_arms tree s arms)
  arms_know tree s no_arm = knows_same s s refl
  arms_know tree s (an_arm test body rest) = knows_more s (past s (scope_after_block tree s body))
      (scope_after_arms tree (past s (scope_after_block tree s body)) rest)
      (block_knows tree s body) (arms_know tree (past s (scope_after_block tree s body)) rest)

  pub else_knows : (tree : Tree) (s : Scope) (other : Otherwise) → HasKnown s (scope_after_else tree s other)
  else_knows tree s no_else = knows_same s s refl
  else_knows tree s (else_block body) = block_knows tree s body

-- ---- names

arms_names : (tree : Tree) (s : Scope) (arms : Arms) → (scope_after_arms tree s arms).names ≡ s.names
arms_names tree s no_arm = refl
arms_names tree s (an_arm test body rest) = arms_names tree (past s (scope_after_block tree s body)) rest

else_names : (tree : Tree) (s : Scope) (other : Otherwise) → (scope_after_else tree s other).names ≡ s.names
else_names tree s no_else = refl
else_names tree s (else_block body) = refl

form_names : (tree : Tree) (s : Scope) (form : Form) → HasNames s (scope_after tree s form)
form_names tree s (var_form n t initializer) = (_ ∷ [], refl)
form_names tree s (if_form arms other) =
    ([], else_names tree (scope_after_arms tree s arms) other ∙ arms_names tree s arms)
form_names tree s (while_form test body) = ([], refl)
form_names tree s (for_in_form demanded n domain body) = ([], refl)
form_names tree s (for_to_form demanded n from to body) = ([], refl)
form_names tree s (do_form body) = ([], refl)
form_names tree s form = ([], refl)

pub block_names : (tree : Tree) (s : Scope) (b : Block) → HasNames s (scope_after_block tree s b)
block_names tree s no_statement = ([], refl)
block_names tree s (then_statement (a_statement line form) rest) =
    let here = form_names tree s form in
    let more = block_names tree (scope_after tree s form) rest in (
      more.0 ++ here.0,
      more.1 ∙ ap (λ (bs : List Bound). more.0 ++ bs) here.1 ∙ sym (append_assoc more.0 here.0 s.names),
    )

-- and those behind the block of a loop, with its variable
pub loop_names : (tree : Tree) (s : Scope) (n : Name) (t : StaticType) (b : Block) →
    HasNames s (scope_after_block tree (with_name s n t true) b)
loop_names tree s n t b =
    let more = block_names tree (with_name s n t true) b in
    let bound : Bound = record { name = n; number = s.next; place = length s.names; static_type = t; by_loop = true } in
    (more.0 ++ bound ∷ [], more.1 ∙ sym (append_assoc more.0 (bound ∷ []) s.names))

added_length : (added outer : List Bound) → length (added ++ outer) - length outer ≡ length added
added_length added outer = let whole = length-append added outer in omega (arith, whole)

ends : (names added outer : List Bound) → names ≡ added ++ outer → drop (length names - length outer) names ≡ outer
ends names added outer e =
    ap (λ (bs : List Bound). drop (length bs - length outer) bs) e
    ∙ ap (λ (n : ℕ). drop n (added ++ outer)) (added_length added outer)
    ∙ drop-append_seam added outer

-- the scope that is left at a block's end
pub block_left : (s inner : Scope) (now after : Scoped) → seen now ≡ inner → HasNames s inner →
    after ≡ record now { names = drop (length now.names - length s.names) now.names } → seen after ≡ past s inner
block_left s inner now after e more f =
    ap seen f ∙ (λ j. record {
      names = ends now.names more.0 s.names (ap (λ (x : Scope). x.names) e ∙ more.1) j;
      known = (e j).known;
      next = (e j).next;
    })

-- ---- the scope as it was

-- with the names of a scope again, and all that was known then
pub record IsPast (s t : Scope) : Type 0 where
  pub named : t.names ≡ s.names
  pub told : HasKnown s t

pub past_itself : (s : Scope) → IsPast s s
past_itself s = record { named = refl; told = knows_same s s refl }

pub past_block : (tree : Tree) (s t : Scope) (b : Block) → IsPast s t → IsPast s (past t (scope_after_block tree t b))
past_block tree s t b p = record {
  named = p.named;
  told = knows_more s t (scope_after_block tree t b) p.told (block_knows tree t b);
}

-- it is that scope again as of its mark
pub again : (s t : Scope) → IsPast s t → as_of (mark_of s) t ≡ s
again s t p = λ j. record {
  names = p.named j;
  known = (ap (λ (ks : List Known). take (length s.known) ks) p.told.1 ∙ take-append_seam s.known p.told.0) j;
  next = s.next;
}

-- behind a block too
pub again_behind : (tree : Tree) (s : Scope) (b : Block) → as_of (mark_of s) (past s (scope_after_block tree s b)) ≡ s
again_behind tree s b = again s (past s (scope_after_block tree s b)) (past_block tree s s b (past_itself s))
