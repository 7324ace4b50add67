-- Statements, and the blocks of an `if`, one after the other.
use Rattle.std.proofs.Common.{List, None, Option, ◌+◌, ◌++◌, ◌<◌, ◌∷◌, ◌≡◌, ap, append_assoc, drop, flat_map, get_or, length, map, refl, sym, ◌∙◌, ℕ}
use Rattle.std.specs.Option.{option_or}
use Rattle.std.proofs.lemmas.List.{drop_more}
use Rattle.std.proofs.lemmas.List.Concat.{flat_map-append}
use Rattle.regent_tree.specs.PlainProgram.{arms_in, block_in, form_of, item_tree_of}
use Rattle.regent_tree.specs.Scopes.{Scope, past}
use Rattle.regent_tree.specs.Syntax.{Arms, Block, ItemTree, TaskTree, Tree}
use Rattle.regent_tree.specs.declared.program.Item.{Item}
use Rattle.regent_tree.specs.declared.statement.Arm.{Arm, out-Arm}
use Rattle.regent_tree.specs.declared.statement.Stmt.{Stmt}
use Rattle.regent_tree.proofs.Rows.{arm_read}
use Rattle.check_rules.specs.Breaches.{Breach}
use Rattle.check_rules.specs.declared.loop_shape.LoopShape.{LoopShape}
use Rattle.check_rules.specs.first.FirstInStatements.{first_in_arms, first_in_block, first_of_demand, first_of_form, first_within, told_on}
use Rattle.check_rules.specs.launches.Shapes.{loop_at}
use Rattle.check_rules.specs.scopes.Variables.{known_scope_after, known_scope_after_arms, known_scope_after_block}
use Rattle.check_rules.specs.scopes.Visits.{Visit, visits_in, visits_in_arms, visits_of_item}
use Rattle.check_items.specs.Halting.{IsToldAt}
use Rattle.check_items.specs.declared.halt.Halt.{Halt}
use Rattle.type_check.specs.Loops.{first_of_statement, loops_of, visits_of}
use Rattle.type_check.proofs.Blocks.{told_here}
use Rattle.plain_values.proofs.Plain.{option_or_assoc_left}

module _ (tree : Tree) (task : TaskTree) where
  -- ---- statements

  abbrev told_of : Scope → Stmt → Option Breach
  told_of s x = first_of_statement tree task s x

  abbrev pub after : Scope → Stmt → Scope
  after s x = known_scope_after tree s (form_of x.what)

  parts : (s : Scope) (x : Stmt) (xs : List Stmt) →
      first_in_block tree task s (block_in (x ∷ xs))
      ≡ option_or (told_of s x) (first_in_block tree task (after s x) (block_in xs))
  parts s x xs =
      let own = told_on x.line (first_of_form tree task s (form_of x.what)) in
      let within = first_within tree task s (form_of x.what) in
      let demand = told_on x.line (first_of_demand tree s (form_of x.what)) in
      let rest = first_in_block tree task (after s x) (block_in xs) in
      ap (option_or own) (option_or_assoc_left within demand rest) ∙ option_or_assoc_left own (option_or within demand) rest

  pub block_on : (body : List Stmt) (i : ℕ) (x : Stmt) (s u : Scope) (total : Option Breach) →
      i < length body → x ≡ get_or body i x → told_of s x ≡ None → u ≡ after s x →
      first_in_block tree task s (block_in (drop i body)) ≡ total →
      first_in_block tree task u (block_in (drop (i + 1) body)) ≡ total
  block_on body i x s u total lt is none known so_far =
      let here : first_in_block tree task s (block_in (drop i body))
      ≡ first_in_block tree task u (block_in (drop (i + 1) body)) =
      rw (drop_more body i x lt, ← is, parts s x (drop (i + 1) body), none, known) refl in
      sym here ∙ so_far

  pub after_on : (body : List Stmt) (i : ℕ) (x : Stmt) (s u total : Scope) →
      i < length body → x ≡ get_or body i x → u ≡ after s x →
      known_scope_after_block tree s (block_in (drop i body)) ≡ total →
      known_scope_after_block tree u (block_in (drop (i + 1) body)) ≡ total
  after_on body i x s u total lt is known so_far =
      let here : known_scope_after_block tree s (block_in (drop i body))
      ≡ known_scope_after_block tree u (block_in (drop (i + 1) body)) =
      rw (drop_more body i x lt, ← is, known) refl in
      sym here ∙ so_far

  pub block_stop : (body : List Stmt) (i : ℕ) (x : Stmt) (s : Scope) (halt : Halt) (total : Option Breach) →
      i < length body → x ≡ get_or body i x → IsToldAt halt (told_of s x) →
      first_in_block tree task s (block_in (drop i body)) ≡ total → IsToldAt halt total
  block_stop body i x s halt total lt is told so_far =
      let here : first_in_block tree task s (block_in (drop i body))
      ≡ option_or (told_of s x) (first_in_block tree task (after s x) (block_in (drop (i + 1) body))) =
      rw (drop_more body i x lt, ← is) (parts s x (drop (i + 1) body)) in
      rw (← so_far, here) (told_here halt (told_of s x) _ told)

  found_parts : (s : Scope) (x : Stmt) (xs : List Stmt) →
      loops_of tree (visits_in tree task s (block_in (x ∷ xs)))
      ≡ loops_of tree (visits_of tree task s x) ++ loops_of tree (visits_in tree task (after s x) (block_in xs))
  found_parts s x xs = flat_map-append (loop_at tree) (visits_of tree task s x) (visits_in tree task (after s x) (block_in xs))

  pub found_on : (body : List Stmt) (i : ℕ) (x : Stmt) (s u : Scope) (before now total : List LoopShape) →
      i < length body → x ≡ get_or body i x → u ≡ after s x → now ≡ before ++ loops_of tree (visits_of tree task s x) →
      before ++ loops_of tree (visits_in tree task s (block_in (drop i body))) ≡ total →
      now ++ loops_of tree (visits_in tree task u (block_in (drop (i + 1) body))) ≡ total
  found_on body i x s u before now total lt is known found so_far =
      let rest = loops_of tree (visits_in tree task u (block_in (drop (i + 1) body))) in
      let here : before ++ loops_of tree (visits_in tree task s (block_in (drop i body)))
      ≡ (before ++ loops_of tree (visits_of tree task s x)) ++ rest =
      rw (drop_more body i x lt, ← is, known)
      (ap (λ (ls : List LoopShape). before ++ ls) (found_parts s x (drop (i + 1) body)) ∙ sym (append_assoc before _ _)) in
      ap (λ (ls : List LoopShape). ls ++ rest) found ∙ sym here ∙ so_far

  -- ---- the blocks of an `if`

  abbrev pub body_in : Arm → Block
  body_in a = block_in (out-Arm a).body.items

  abbrev pub after_arm : Scope → Arm → Scope
  after_arm s a = past s (known_scope_after_block tree s (body_in a))

  arm_parts : (s : Scope) (a : Arm) (rest : List Arm) →
      first_in_arms tree task s (arms_in (a ∷ rest))
      ≡ option_or (first_in_block tree task s (body_in a)) (first_in_arms tree task (after_arm s a) (arms_in rest))
  arm_parts s a rest = ap (first_in_arms tree task s) (arm_read a (arms_in rest))

  arm_after : (s : Scope) (a : Arm) (rest : List Arm) →
      known_scope_after_arms tree s (arms_in (a ∷ rest)) ≡ known_scope_after_arms tree (after_arm s a) (arms_in rest)
  arm_after s a rest = ap (known_scope_after_arms tree s) (arm_read a (arms_in rest))

  pub arms_on : (arms : List Arm) (i : ℕ) (a : Arm) (s u : Scope) (total : Option Breach) →
      i < length arms → a ≡ get_or arms i a → first_in_block tree task s (body_in a) ≡ None → u ≡ after_arm s a →
      first_in_arms tree task s (arms_in (drop i arms)) ≡ total →
      first_in_arms tree task u (arms_in (drop (i + 1) arms)) ≡ total
  arms_on arms i a s u total lt is none known so_far =
      let here : first_in_arms tree task s (arms_in (drop i arms))
      ≡ first_in_arms tree task u (arms_in (drop (i + 1) arms)) =
      rw (drop_more arms i a lt, ← is, arm_parts s a (drop (i + 1) arms), none, known) refl in
      sym here ∙ so_far

  pub after_arms_on : (arms : List Arm) (i : ℕ) (a : Arm) (s u total : Scope) →
      i < length arms → a ≡ get_or arms i a → u ≡ after_arm s a →
      known_scope_after_arms tree s (arms_in (drop i arms)) ≡ total →
      known_scope_after_arms tree u (arms_in (drop (i + 1) arms)) ≡ total
  after_arms_on arms i a s u total lt is known so_far =
      let here : known_scope_after_arms tree s (arms_in (drop i arms))
      ≡ known_scope_after_arms tree u (arms_in (drop (i + 1) arms)) =
      rw (drop_more arms i a lt, ← is, arm_after s a (drop (i + 1) arms), known) refl in
      sym here ∙ so_far

  arm_found : (s : Scope) (a : Arm) (rest : List Arm) →
      loops_of tree (visits_in_arms tree task s (arms_in (a ∷ rest)))
      ≡ loops_of tree (visits_in tree task s (body_in a)) ++ loops_of tree (visits_in_arms tree task (after_arm s a) (arms_in rest))
  arm_found s a rest =
      ap (λ (arms : Arms). loops_of tree (visits_in_arms tree task s arms)) (arm_read a (arms_in rest))
      ∙ flat_map-append (loop_at tree) (visits_in tree task s (body_in a)) (visits_in_arms tree task (after_arm s a) (arms_in rest))

  pub found_arms_on : (arms : List Arm) (i : ℕ) (a : Arm) (s u : Scope) (before now total : List LoopShape) →
      i < length arms → a ≡ get_or arms i a → u ≡ after_arm s a → now ≡ before ++ loops_of tree (visits_in tree task s (body_in a)) →
      before ++ loops_of tree (visits_in_arms tree task s (arms_in (drop i arms))) ≡ total →
      now ++ loops_of tree (visits_in_arms tree task u (arms_in (drop (i + 1) arms))) ≡ total
  found_arms_on arms i a s u before now total lt is known found so_far =
      let rest = loops_of tree (visits_in_arms tree task u (arms_in (drop (i + 1) arms))) in
      let here : before ++ loops_of tree (visits_in_arms tree task s (arms_in (drop i arms)))
      ≡ (before ++ loops_of tree (visits_in tree task s (body_in a))) ++ rest =
      rw (drop_more arms i a lt, ← is, known)
      (ap (λ (ls : List LoopShape). before ++ ls) (arm_found s a (drop (i + 1) arms)) ∙ sym (append_assoc before _ _)) in
      ap (λ (ls : List LoopShape). ls ++ rest) found ∙ sym here ∙ so_far

  pub arms_stop : (arms : List Arm) (i : ℕ) (a : Arm) (s : Scope) (halt : Halt) (total : Option Breach) →
      i < length arms → a ≡ get_or arms i a → IsToldAt halt (first_in_block tree task s (body_in a)) →
      first_in_arms tree task s (arms_in (drop i arms)) ≡ total → IsToldAt halt total
  arms_stop arms i a s halt total lt is told so_far =
      let here : first_in_arms tree task s (arms_in (drop i arms))
      ≡ option_or (first_in_block tree task s (body_in a)) (first_in_arms tree task (after_arm s a) (arms_in (drop (i + 1) arms))) =
      rw (drop_more arms i a lt, ← is) (arm_parts s a (drop (i + 1) arms)) in
      rw (← so_far, here) (told_here halt (first_in_block tree task s (body_in a)) _ told)

  -- ---- the bodies of tasks

  abbrev visits_in_items : List Item → List Visit
  visits_in_items items = flat_map (λ (i : ItemTree). visits_of_item tree i.form) (map item_tree_of items)

  pub found_item_on : (items : List Item) (i : ℕ) (x : Item) (before now total : List LoopShape) → i < length items → x ≡ get_or items i x →
      now ≡ before ++ loops_of tree (visits_of_item tree (item_tree_of x).form) →
      before ++ loops_of tree (visits_in_items (drop i items)) ≡ total → now ++ loops_of tree (visits_in_items (drop (i + 1) items)) ≡ total
  found_item_on items i x before now total lt is found so_far =
      let rest = loops_of tree (visits_in_items (drop (i + 1) items)) in
      let here : before ++ loops_of tree (visits_in_items (drop i items)) ≡ (before ++ loops_of tree (visits_of_item tree (item_tree_of x).form)) ++ rest =
      rw (drop_more items i x lt, ← is)
      (ap (λ (ls : List LoopShape). before ++ ls)
      (flat_map-append (loop_at tree) (visits_of_item tree (item_tree_of x).form) (visits_in_items (drop (i + 1) items)))
      ∙ sym (append_assoc before _ _)) in
      ap (λ (ls : List LoopShape). ls ++ rest) found ∙ sym here ∙ so_far
