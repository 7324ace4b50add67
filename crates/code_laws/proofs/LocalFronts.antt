-- What stands in targets of which no breach is told: before the first field index steps, and behind it fields alone.
use Rattle.std.proofs.Common.{◌≡◌, ◌⊎◌, inl, inr, None, true, false, subst, sym, ℕ}
use Rattle.regent_tree.specs.Limits.{parts_of_expression}
use Rattle.regent_tree.specs.Scopes.{Scope}
use Rattle.regent_tree.specs.Syntax.{Expression, Name, Steps, TaskTree, Tree, access_expr, at_step, field_step, no_step}
use Rattle.regent_tree.specs.Typing.{result_type, type_of}
use Rattle.check_laws.proofs.Blocks.{head_known}
use Rattle.check_laws.specs.SoundScopes.{IsSoundScope}
use Rattle.check_rules.specs.first.FirstInExpressions.{first_in_expression, first_in_target, first_in_target_steps}
use Rattle.check_rules.specs.scopes.Sound.{IsSound, IsSoundTask}
use Rattle.check_rules.specs.types.Declarations.{is_no_result_type}
use Rattle.check_rules.specs.types.KnownTypes.{known_type}
use Rattle.code_rules.specs.Slots.{Where}
use Rattle.code_laws.specs.WrittenForms.{are_written_steps}
use Rattle.code_laws.specs.Typed.{are_fields}
use Rattle.code_laws.proofs.KnownHeads.{IsReady}
use Rattle.code_laws.proofs.LocalArguments.{IsArgument, collected}
use Rattle.code_laws.proofs.LocalNames.{IsLocalTree}
use Rattle.code_laws.proofs.LocalPoints.{IsWell}
use Rattle.code_laws.proofs.LocalPrefixes.{AreElements, onward, target_told, told_element}
use Rattle.code_laws.proofs.LocalShapes.{no_element, target_fields}
use Rattle.code_laws.proofs.LocalSpaced.{expression_spaced}
use Rattle.code_laws.proofs.LocalTaken.{IsCollection}
use Rattle.code_laws.proofs.LocalValues.{IsValue}
use Rattle.code_laws.proofs.LocalVariables.{headed}
use Rattle.code_laws.proofs.Typing.{AreKept}

-- a name, or what is taken of one
abbrev IsShort : Expression → Type 0
IsShort (access_expr n no_step) = Unit {0}
IsShort (access_expr n (at_step e no_step)) = Unit {0}
IsShort e = ⊥

module _ (tree : Tree) (task : TaskTree) (sound : IsSound tree) (sound_task : IsSoundTask tree task)
    (local : IsLocalTree tree) (params : ℕ) (result : is_no_result_type task.result ≡ false) where
  abbrev Ready : Scope → Type 0
  Ready s = IsReady tree task s

  abbrev here : Scope → ℕ → Where
  here s line = record { tree = tree; scope = s; result = result_type tree task.result; params = params; line = line }

  value_or : (s : Scope) (line : ℕ) (y : Expression) → (scope : IsSoundScope s) (ready : Ready s) →
      IsArgument task (here s line) sound sound_task local scope ready.names ready.head y → IsValue true s.names (type_of tree s y) ⊎ IsCollection (type_of tree s y)
  value_or s line y scope ready (inl a) = inl a.value
  value_or s line y scope ready (inr c) = inr (collected task (here s line) sound sound_task local scope ready.names ready.head y c)

  -- behind a field of what index steps give stand fields alone
  pub fields_behind : (s : Scope) (line : ℕ) (n : Name) (pre more : Steps) (f : Name) → are_written_steps pre ≡ true → AreKept (parts_of_expression (access_expr n pre)) →
      AreElements pre → IsSoundScope s → Ready s → first_in_target tree task s n (onward pre (field_step f more)) ≡ None → are_fields more ≡ true
  fields_behind s line n pre more f lo k are scope ready none =
      let y = access_expr n pre in
      let told = target_told tree task s n pre (field_step f more) are none in
      target_fields tree task sound local s ready.names more (type_of tree s y) f
      (expression_spaced tree task sound sound_task local.declared s y scope ready.head k told.0)
      (value_or s line y scope ready (headed tree task sound sound_task local params result s line y lo k scope ready told.0))
      (subst (λ t. first_in_target_steps tree task s t (field_step f more) ≡ None) (head_known tree task sound s scope y told.0).1 told.1)

  -- an element of a part
  element_well : (s : Scope) (line : ℕ) (y : Expression) → (IsShort y → ⊥) → (scope : IsSoundScope s) (ready : Ready s) →
      IsArgument task (here s line) sound sound_task local scope ready.names ready.head y →
      IsWell task (here s line) sound sound_task local scope ready.names ready.head y
  element_well s line y long scope ready (inl a) = a
  element_well s line y long scope ready (inr (inl r)) = absurd (long (subst IsShort (sym r.is) tt))
  element_well s line y long scope ready (inr (inr (inl p))) = absurd (long (subst IsShort (sym p.is) tt))
  element_well s line y long scope ready (inr (inr (inr c))) = absurd (long (subst IsShort (sym c.is) tt))

  pub element_head : (s : Scope) (line : ℕ) (n : Name) (e i : Expression) → are_written_steps (at_step e (at_step i no_step)) ≡ true →
      AreKept (parts_of_expression (access_expr n (at_step e (at_step i no_step)))) → (scope : IsSoundScope s) (ready : Ready s) →
      first_in_expression tree task s (access_expr n (at_step e (at_step i no_step))) ≡ None →
      IsWell task (here s line) sound sound_task local scope ready.names ready.head (access_expr n (at_step e (at_step i no_step)))
  element_head s line n e i lo k scope ready none =
      let y = access_expr n (at_step e (at_step i no_step)) in
      element_well s line y (λ q. q) scope ready (headed tree task sound sound_task local params result s line y lo k scope ready none)

  -- of which no element is taken
  pub no_third : (s : Scope) (line : ℕ) (n : Name) (e i d : Expression) (rest : Steps) → are_written_steps (at_step e (at_step i no_step)) ≡ true →
      AreKept (parts_of_expression (access_expr n (at_step e (at_step i no_step)))) → IsSoundScope s → Ready s →
      first_in_target tree task s n (at_step e (at_step i (at_step d rest))) ≡ None → ⊥
  no_third s line n e i d rest lo k scope ready none =
      let y = access_expr n (at_step e (at_step i no_step)) in
      let told = target_told tree task s n (at_step e (at_step i no_step)) (at_step d rest) tt none in
      no_element tree task sound local s ready.names (type_of tree s y) (known_type tree s d)
      (element_head s line n e i lo k scope ready told.0).value
      (told_element tree task s (type_of tree s y) d rest
      (subst (λ t. first_in_target_steps tree task s t (at_step d rest) ≡ None) (head_known tree task sound s scope y told.0).1 told.1))
