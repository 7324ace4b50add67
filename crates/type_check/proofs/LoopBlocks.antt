-- Loops whose block is one call: it leaves the scope as it was, and is looked at behind the block.
use Rattle.std.proofs.Common.{Bool, false, List, None, Option, Result, [], ◌++◌, ◌∷◌, ◌≡◌, ap, append_assoc, length, refl, subst, sym, true, ◌∙◌, ℕ}
use Rattle.std.proofs.Math.Seq.{set-append_seam}
use Rattle.std.proofs.lemmas.List.{append-nil}
use Rattle.std.proofs.lemmas.List.Concat.{flat_map-append}
use Rattle.std.specs.Option.{option_or}
use Rattle.std.specs.Prelude.{Err, Ok, Some, slice_set}
use Rattle.regent_tree.specs.Scopes.{Scope, past, with_name}
use Rattle.regent_tree.specs.PlainProgram.{form_of}
use Rattle.regent_tree.specs.Syntax.{Block, Form, Name, TaskTree, Tree, a_statement, call_form, do_form, for_in_form, for_to_form, if_form, no_statement, then_statement, while_form}
use Rattle.regent_tree.specs.declared.statement.Stmt.{Stmt}
use Rattle.index_launch.specs.Shapes.{shape}
use Rattle.check_rules.specs.Breaches.{Breach}
use Rattle.check_rules.specs.declared.loop_shape.LoopShape.{LoopShape}
use Rattle.check_rules.specs.declared.rule.Rule.{Rule}
use Rattle.check_rules.specs.first.FirstInStatements.{first_in_block, first_of_demand, first_of_form, first_within, told_on}
use Rattle.check_rules.specs.launches.Shapes.{loop_at}
use Rattle.check_rules.specs.launches.Views.{loop_view, only_call}
use Rattle.check_rules.specs.scopes.Variables.{known_scope_after, known_scope_after_block}
use Rattle.check_rules.specs.scopes.Visits.{Visit, visits_in, visits_within}
use Rattle.check_rules.proofs.Untold.{told_none}
use Rattle.check_items.specs.Halting.{IsToldAt, TellsAt, halted}
use Rattle.check_items.specs.declared.halt.Halt.{Halt}
use Rattle.launch_views.specs.Firsts.{first_of_only}
use Rattle.plain_values.proofs.Plain.{option_or_none, option_or_parts}
use Rattle.static_types.specs.Telling.{IsTold, Tells}
use Rattle.static_types.specs.declared.stop.Stop.{Stop}
use Rattle.static_types.specs.declared.stop.Stop.TheVariants as stop
use Rattle.type_check.specs.Lines.{on_line}
use Rattle.check_forms.specs.Heads.{has_block}
use Rattle.type_check.specs.Loops.{first_of_shape, first_of_statement, loops_of, shape_in, visits_of}
use Rattle.check_forms.specs.declared.heads.LoopHead.{LoopHead}
use Rattle.type_check.proofs.Blocks.{err_value, told_here}
use Rattle.check_forms.proofs.ByForm.{call_first}

module _ (tree : Tree) where
  view_behind : (s : Scope) (i : Name) (over : Bool) (b : Block) →
      loop_view tree (known_scope_after_block tree s b) i over b ≡ loop_view tree s i over b
  view_behind s i over no_statement = refl
  view_behind s i over (then_statement (a_statement line (call_form n args)) no_statement) = refl
  view_behind s i over (then_statement (a_statement line form) no_statement) = refl
  view_behind s i over (then_statement (a_statement line form) (then_statement x rest)) = refl

  pub shape_behind : (s : Scope) (i : Name) (over : Bool) (b : Block) →
      shape_in tree (known_scope_after_block tree s b) i over b ≡ shape_in tree s i over b
  shape_behind s i over b = ap shape (view_behind s i over b)

  only_behind : (task : TaskTree) (s : Scope) (b : Block) →
      first_of_only tree task (known_scope_after_block tree s b) (only_call b) ≡ first_of_only tree task s (only_call b)
  only_behind task s no_statement = refl
  only_behind task s (then_statement (a_statement line (call_form n args)) no_statement) = refl
  only_behind task s (then_statement (a_statement line form) no_statement) = refl
  only_behind task s (then_statement (a_statement line form) (then_statement x rest)) = refl

  only_untold : (task : TaskTree) (s : Scope) (b : Block) → first_in_block tree task s b ≡ None →
      first_of_only tree task s (only_call b) ≡ None
  only_untold task s no_statement e = refl
  only_untold task s (then_statement (a_statement line (call_form n args)) no_statement) e =
      let parts = option_or_parts (told_on line (first_of_form tree task s (call_form n args))) _ e in
      sym (call_first tree task s n args) ∙ told_none line _ parts.0
  only_untold task s (then_statement (a_statement line form) no_statement) e = refl
  only_untold task s (then_statement (a_statement line form) (then_statement x rest)) e = refl

  -- where nothing is told of a block, nothing is told of the call that it is
  pub untold_behind : (task : TaskTree) (s : Scope) (b : Block) → first_in_block tree task s b ≡ None →
      first_of_only tree task (known_scope_after_block tree s b) (only_call b) ≡ None
  untold_behind task s b e = only_behind task s b ∙ only_untold task s b e

-- where nothing can be told, it was found or memory ran out
pub found_behind : {A : Type 0} (Found Wanted : A → Type 0) (line : ℕ) (r : Result A Stop) (q : Result A Halt) (only : Option Rule) (first : Option Breach) →
    q ≡ on_line line r → only ≡ None → first ≡ None → Tells Found r only → ((x : A) → Found x → Wanted x) → TellsAt Wanted q first
found_behind Found Wanted line (Ok x) q only first is none untold told so = subst (λ a. TellsAt Wanted a first) (sym is) (untold, so x told.1)
found_behind Found Wanted line (Err (stop.Breach rule)) q only first is none untold told so = absurd (some_none (sym told ∙ none))
  where
    some_none : Some rule ≡ None → ⊥
    some_none e = cc
found_behind Found Wanted line (Err (stop.Memory error)) q only first is none untold told so = subst (λ a. TellsAt Wanted a first) (sym is) tt

-- what is told with nothing behind it
pub told_alone : {A : Type 0} (Found : A → Type 0) (r : Result A Halt) (a : Option Breach) → TellsAt Found r a → TellsAt Found r (option_or a None)
told_alone Found r a h = subst (TellsAt Found r) (sym (option_or_none a)) h

pub stops_alone : (h : Halt) (a : Option Breach) → IsToldAt h a → IsToldAt h (option_or a None)
stops_alone h a told = subst (IsToldAt h) (sym (option_or_none a)) told

-- by other words of what is found
pub found_as : {A : Type 0} (Found Wanted : A → Type 0) (r : Result A Halt) (o : Option Breach) →
    ((x : A) → Found x → Wanted x) → TellsAt Found r o → TellsAt Wanted r o
found_as Found Wanted (Ok x) o so h = (h.0, so x h.1)
found_as Found Wanted (Err halt) o so h = h

halted_told : (line : ℕ) (stop : Stop) (first : Option Rule) → IsTold stop first → IsToldAt (halted line stop) (told_on line first)
halted_told line (stop.Breach q) first told = ap (told_on line) told
halted_told line (stop.Memory error) first told = tt

-- what is told on a line
pub line_stops : {A : Type 0} (Found : A → Type 0) (line : ℕ) (r : Result A Stop) (h : Halt) (first : Option Rule) →
    Err h ≡ on_line line r → Tells Found r first → IsToldAt h (told_on line first)
line_stops Found line (Ok x) h first is told = absurd cc
line_stops Found line (Err (stop.Breach q)) h first is told =
    subst (λ (g : Halt). IsToldAt g (told_on line first)) (sym (ap (err_value h) is)) (ap (told_on line) told)
line_stops Found line (Err (stop.Memory error)) h first is told =
    subst (λ (g : Halt). IsToldAt g (told_on line first)) (sym (ap (err_value h) is)) tt

-- what is told of a loop behind its head, by what its head says
abbrev pub ToldOfLoop : Tree → TaskTree → Scope → Name → ℕ → Block → List LoopShape → Scope → List LoopShape → Result Unit Halt → LoopHead → Type 0
ToldOfLoop tree task s n line body before now found r head =
    let own = with_name s n head.taken true in
    let shape = shape_in tree own n head.over_space body in
    TellsAt (λ _. (now ≡ past s (known_scope_after_block tree own body))
    × (found ≡ before ++ record { line = line; shape = shape } ∷ loops_of tree (visits_in tree task own body))) r
    (option_or (first_in_block tree task own body) (told_on line (first_of_shape head.demanded shape)))

-- ---- statements without blocks

plain_parts : (tree : Tree) (task : TaskTree) (s : Scope) (line : ℕ) (form : Form) → has_block form ≡ false →
    (option_or (first_within tree task s form) (told_on line (first_of_demand tree s form)) ≡ None)
    × (loops_of tree (record { task = task; scope = s; line = line; form = form } ∷ visits_within tree task s form) ≡ [])
plain_parts tree task s line (if_form arms other) e = absurd cc
plain_parts tree task s line (while_form test body) e = absurd cc
plain_parts tree task s line (for_in_form demanded n domain body) e = absurd cc
plain_parts tree task s line (for_to_form demanded n from to body) e = absurd cc
plain_parts tree task s line (do_form body) e = absurd cc
plain_parts tree task s line form e = (refl, refl)

-- nothing is found in them, and all that is told of them is told of their form
pub plain_statement : (tree : Tree) (task : TaskTree) (s now : Scope) (x : Stmt) (before found : List LoopShape) (r : Result Unit Stop) (q : Result Unit Halt) →
    has_block (form_of x.what) ≡ false → found ≡ before → q ≡ on_line x.line r →
    Tells (λ _. now ≡ known_scope_after tree s (form_of x.what)) r (first_of_form tree task s (form_of x.what)) →
    TellsAt (λ _. (now ≡ known_scope_after tree s (form_of x.what)) × (found ≡ before ++ loops_of tree (visits_of tree task s x))) q (first_of_statement tree task s x)
plain_statement tree task s now x before found (Ok y) q plain same is told =
    let parts = plain_parts tree task s x.line (form_of x.what) plain in
    subst (λ a. TellsAt (λ _. (now ≡ known_scope_after tree s (form_of x.what)) × (found ≡ before ++ loops_of tree (visits_of tree task s x))) a (first_of_statement tree task s x))
    (sym is) (
      ap (λ o. option_or (told_on x.line o) (option_or (first_within tree task s (form_of x.what)) (told_on x.line (first_of_demand tree s (form_of x.what))))) told.0 ∙ parts.0,
      (told.1, same ∙ sym (append-nil before) ∙ ap (λ (ls : List LoopShape). before ++ ls) (sym parts.1)),
    )
plain_statement tree task s now x before found (Err stop) q plain same is told =
    subst (λ a. TellsAt (λ _. (now ≡ known_scope_after tree s (form_of x.what)) × (found ≡ before ++ loops_of tree (visits_of tree task s x))) a (first_of_statement tree task s x))
    (sym is) (told_here (halted x.line stop) (told_on x.line (first_of_form tree task s (form_of x.what))) _ (halted_told x.line stop (first_of_form tree task s (form_of x.what)) told))

-- ---- the shapes that are found

-- a loop stands before those that were found behind it
pub placed : (before : List LoopShape) (y x : LoopShape) (more pushed whole now : List LoopShape) (place : ℕ) →
    place ≡ length before → pushed ≡ before ++ y ∷ [] → whole ≡ pushed ++ more → now ≡ slice_set whole place x → now ≡ before ++ x ∷ more
placed before y x more pushed whole now place at push all is =
    let seam : whole ≡ before ++ y ∷ more = all ∙ ap (λ (ls : List LoopShape). ls ++ more) push ∙ append_assoc before (y ∷ []) more in
    is ∙ (λ j. slice_set (seam j) (at j) x) ∙ set-append_seam before y more x

-- two parts, one behind the other
pub found_both : (tree : Tree) (vs others : List Visit) (before between now : List LoopShape) →
    between ≡ before ++ loops_of tree vs → now ≡ between ++ loops_of tree others → now ≡ before ++ loops_of tree (vs ++ others)
found_both tree vs others before between now first last =
    last ∙ ap (λ (ls : List LoopShape). ls ++ loops_of tree others) first ∙ append_assoc before (loops_of tree vs) (loops_of tree others)
    ∙ ap (λ (ls : List LoopShape). before ++ ls) (sym (flat_map-append (loop_at tree) vs others))

pub found_first : (tree : Tree) (vs : List Visit) (before now : List LoopShape) →
    now ≡ before ++ loops_of tree vs → now ≡ before ++ loops_of tree (vs ++ [])
found_first tree vs before now is = is ∙ ap (λ (ws : List Visit). before ++ loops_of tree ws) (sym (append-nil vs))
