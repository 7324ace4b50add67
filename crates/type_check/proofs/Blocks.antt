-- Names that a block binds end with it.
use Rattle.std.proofs.Common.{List, None, Option, Result, [], ◌++◌, ◌-◌, ◌∷◌, ◌≡◌, ap, arith, drop, length, refl, subst, sym, true, ◌∙◌}
use Rattle.std.proofs.lemmas.List.{length-append}
use Rattle.std.proofs.Math.Seq.{drop-append_seam}
use Rattle.std.specs.Option.{option_or}
use Rattle.std.specs.Prelude.{Err, Ok, ℕ}
use Rattle.regent_tree.specs.Scopes.{Scope, past, with_name}
use Rattle.regent_tree.specs.Syntax.{Arms, Block, Form, Name, Otherwise, Tree, a_statement, an_arm, do_form, else_block, for_in_form, for_to_form, if_form, no_arm, no_else, no_statement, then_statement, var_form, while_form}
use Rattle.regent_tree.specs.declared.typing.Bound.{Bound}
use Rattle.regent_tree.specs.declared.typing.StaticType.{StaticType}
use Rattle.check_rules.specs.Breaches.{Breach}
use Rattle.check_rules.specs.first.FirstInStatements.{told_on}
use Rattle.check_rules.specs.scopes.Variables.{known_scope_after, known_scope_after_arms, known_scope_after_block, known_scope_after_else}
use Rattle.check_rules.specs.declared.rule.Rule.{Rule}
use Rattle.check_items.specs.Halting.{IsToldAt, TellsAt, halted}
use Rattle.check_items.specs.declared.halt.Halt.{Halt}
use Rattle.check_items.specs.declared.halt.Halt.TheVariants as halt
use Rattle.check_expressions.specs.Seen.{seen}
use Rattle.check_expressions.specs.declared.scope.Scoped.{Scoped}
use Rattle.static_types.specs.Telling.{Anything, Tells}
use Rattle.static_types.specs.declared.stop.Stop.{Stop}
use Rattle.static_types.specs.declared.stop.Stop.TheVariants as stop
use Rattle.type_check.specs.Lines.{on_line}

-- ---- scopes

-- the names are those of before, and some more before them
abbrev pub Extends : List Bound → List Bound → Type 0
Extends now before = (added : List Bound) × (now ≡ added ++ before)

arms_names : (tree : Tree) (s : Scope) (arms : Arms) → (known_scope_after_arms tree s arms).names ≡ s.names
arms_names tree s no_arm = refl
arms_names tree s (an_arm test body rest) = arms_names tree (past s (known_scope_after_block tree s body)) rest

else_names : (tree : Tree) (s : Scope) (other : Otherwise) → (known_scope_after_else tree s other).names ≡ s.names
else_names tree s no_else = refl
else_names tree s (else_block body) = refl

names_after : (tree : Tree) (s : Scope) (form : Form) → Extends (known_scope_after tree s form).names s.names
names_after tree s (var_form n t initializer) = (_ ∷ [], refl)
names_after tree s (if_form arms other) =
    ([], else_names tree (known_scope_after_arms tree s arms) other ∙ arms_names tree s arms)
names_after tree s (while_form test body) = ([], refl)
names_after tree s (for_in_form demanded n domain body) = ([], refl)
names_after tree s (for_to_form demanded n from to body) = ([], refl)
names_after tree s (do_form body) = ([], refl)
names_after tree s form = ([], refl)

append_grouped : (xs ys zs : List Bound) → xs ++ (ys ++ zs) ≡ (xs ++ ys) ++ zs
append_grouped [] ys zs = refl
append_grouped (x ∷ xs) ys zs = ap (λ (bs : List Bound). x ∷ bs) (append_grouped xs ys zs)

pub block_names : (tree : Tree) (s : Scope) (b : Block) → Extends (known_scope_after_block tree s b).names s.names
block_names tree s no_statement = ([], refl)
block_names tree s (then_statement (a_statement line form) rest) =
    let here = names_after tree s form in
    let more = block_names tree (known_scope_after tree s form) rest in (
      more.0 ++ here.0,
      more.1 ∙ ap (λ (bs : List Bound). more.0 ++ bs) here.1 ∙ append_grouped more.0 here.0 s.names,
    )

-- and those behind the block of a loop, with its variable
pub loop_names : (tree : Tree) (s : Scope) (n : Name) (t : StaticType) (b : Block) →
    Extends (known_scope_after_block tree (with_name s n t true) b).names s.names
loop_names tree s n t b =
    let more = block_names tree (with_name s n t true) b in
    let bound : Bound = record { name = n; number = s.next; place = length s.names; static_type = t; by_loop = true } in
    (more.0 ++ bound ∷ [], more.1 ∙ append_grouped more.0 (bound ∷ []) s.names)

added_length : (added outer : List Bound) → length (added ++ outer) - length outer ≡ length added
added_length added outer = let whole = length-append added outer in omega (arith, whole)

ends : (names added outer : List Bound) → names ≡ added ++ outer → drop (length names - length outer) names ≡ outer
ends names added outer e =
    ap (λ (bs : List Bound). drop (length bs - length outer) bs) e
    ∙ ap (λ (n : ℕ). drop n (added ++ outer)) (added_length added outer)
    ∙ drop-append_seam added outer

-- the scope that is left at a block's end
pub block_left : (s inner : Scope) (now after : Scoped) → seen now ≡ inner → Extends inner.names s.names →
    after ≡ record now { names = drop (length now.names - length s.names) now.names } → seen after ≡ past s inner
block_left s inner now after e extends f =
    ap seen f ∙ (λ j. record {
      names = ends now.names extends.0 s.names (ap (λ (x : Scope). x.names) e ∙ extends.1) j;
      known = (e j).known;
      next = (e j).next;
    })

-- ---- what is told

-- what is told of the first is told of both
pub told_here : (h : Halt) (a b : Option Breach) → IsToldAt h a → IsToldAt h (option_or a b)
told_here (halt.Breach r line) a b e = ap (λ o. option_or o b) e
told_here (halt.Memory error) a b e = tt

-- where nothing is told of the first, it is what is told of the second
pub told_after : {A : Type 0} (Found : A → Type 0) (r : Result A Halt) (a b : Option Breach) → a ≡ None →
    TellsAt Found r b → TellsAt Found r (option_or a b)
told_after Found r a b e h = subst (TellsAt Found r) (ap (λ o. option_or o b) (sym e)) h

abbrev ok_value : {A : Type 0} → A → Result A Halt → A
ok_value y (Ok x) = x
ok_value y (Err h) = y

abbrev pub err_value : {A : Type 0} → Halt → Result A Halt → Halt
err_value g (Ok x) = g
err_value g (Err h) = h

-- what is told of the head of a statement
pub head_stops : {A : Type 0} (Found : A → Type 0) (line : ℕ) (r : Result A Stop) (h : Halt) (first other : Option Rule) (rest : Option Breach) →
    Err h ≡ on_line line r → first ≡ other → Tells Found r other → IsToldAt h (option_or (told_on line first) rest)
head_stops Found line (Ok x) h first other rest is same told = absurd cc
head_stops Found line (Err (stop.Breach q)) h first other rest is same told =
    subst (λ (g : Halt). IsToldAt g (option_or (told_on line first) rest)) (sym (ap (err_value h) is))
    (told_here (halted line (stop.Breach q)) (told_on line first) rest (ap (told_on line) (same ∙ told)))
head_stops Found line (Err (stop.Memory error)) h first other rest is same told =
    subst (λ (g : Halt). IsToldAt g (option_or (told_on line first) rest)) (sym (ap (err_value h) is)) tt

-- where nothing is told of the head, it is what is told of the blocks
pub head_passes : {A B : Type 0} (Head : B → Type 0) (Found : A → Type 0) (line : ℕ) (x : B) (head : Result B Stop) (r : Result A Halt)
    (first other : Option Rule) (blocks : Option Breach) → Ok x ≡ on_line line head → first ≡ other → Tells Head head other →
    TellsAt Found r blocks → TellsAt Found r (option_or (told_on line first) blocks)
head_passes Head Found line x (Ok y) r first other blocks is same told h =
    told_after Found r (told_on line first) blocks (ap (told_on line) (same ∙ told.0)) h
head_passes Head Found line x (Err (stop.Breach q)) r first other blocks is same told h = absurd cc
head_passes Head Found line x (Err (stop.Memory error)) r first other blocks is same told h = absurd cc

-- and what was found in the head
pub head_found : {B : Type 0} (Head : B → Type 0) (line : ℕ) (x : B) (head : Result B Stop) (other : Option Rule) →
    Ok x ≡ on_line line head → Tells Head head other → Head x
head_found Head line x (Ok y) other is told = subst Head (sym (ap (ok_value y) is)) told.1
head_found Head line x (Err (stop.Breach q)) other is told = absurd cc
head_found Head line x (Err (stop.Memory error)) other is told = absurd cc

pub head_none : {B : Type 0} (Head : B → Type 0) (line : ℕ) (x : B) (head : Result B Stop) (first other : Option Rule) →
    Ok x ≡ on_line line head → first ≡ other → Tells Head head other → told_on line first ≡ None
head_none Head line x (Ok y) first other is same told = ap (told_on line) (same ∙ told.0)
head_none Head line x (Err (stop.Breach q)) first other is same told = absurd cc
head_none Head line x (Err (stop.Memory error)) first other is same told = absurd cc

-- where nothing is told of the first, what is told of the second is told of both
pub stops_after : (h : Halt) (a b : Option Breach) → a ≡ None → IsToldAt h b → IsToldAt h (option_or a b)
stops_after h a b none told = subst (IsToldAt h) (ap (λ o. option_or o b) (sym none)) told

pub none_of_both : (a b : Option Breach) → a ≡ None → b ≡ None → option_or a b ≡ None
none_of_both a b e f = λ j. option_or (e j) (f j)

found_too : {A : Type 0} (Found : A → Type 0) (r : Result A Stop) (other : Option Rule) → ((x : A) → Found x) →
    Tells Anything r other → Tells Found r other
found_too Found (Ok x) other all h = (h.0, all x)
found_too Found (Err s) other all h = h

-- of a statement without blocks, by what is told of its form
pub told_by : {A : Type 0} (Found : A → Type 0) (r : Result A Stop) (first other : Option Rule) → first ≡ other →
    Tells Found r other → Tells Found r first
told_by Found r first other same h = subst (Tells Found r) (sym same) h

-- where what is found is so anyway
pub found_by : {A : Type 0} (Found : A → Type 0) (r : Result A Stop) (first other : Option Rule) → first ≡ other →
    ((x : A) → Found x) → Tells Anything r other → Tells Found r first
found_by Found r first other same all h = told_by Found r first other same (found_too Found r other all h)
