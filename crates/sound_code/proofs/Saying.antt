-- A variable of a written type that begins with a value, which is converted.
use Rattle.std.proofs.Common.{Some, [], refl, subst, sym, true, ℕ, ◌&&◌, ◌∷◌}
use Rattle.regent_tree.specs.Syntax.{Expression, Name, plain_initializer, var_form}
use Rattle.regent_tree.specs.Typing.{var_type}
use Rattle.task_code.specs.declared.code.TaskCode.{TaskCode}
use Rattle.task_code.specs.declared.instr.Instr.TheVariants as instr
use Rattle.code_rules.specs.Initializers.{new_place}
use Rattle.code_rules.specs.Pieces.{Piece, ◌⨟◌}
use Rattle.code_rules.specs.Slots.{slot, typed, Where}
use Rattle.code_rules.specs.Statements.{begun_form, after_form, form_code}
use Rattle.code_laws.specs.Standing.{Stands}
use Rattle.fit_rules.specs.Shapes.{Is}
use Rattle.fit_rules.specs.Fits.{Program}
use Rattle.fit_rules.specs.Marks.{Mark}
use Rattle.std.proofs.Common.{Bool, false, nat_lt, true}
use Rattle.std.proofs.lemmas.Bool.{le-ltb}
use Rattle.regent_tree.specs.Syntax.{Expressions, call_expr}
use Rattle.code_rules.specs.Instructions.{keeps_number}
use Rattle.code_rules.specs.Statements.{put_call}
use Rattle.fit_rules.specs.Shapes.{Is, awaited}
use Rattle.std.proofs.Common.{◌≡◌}
use Rattle.std.proofs.Common.{length}
use Rattle.sound_code.specs.Ways.{shape_in}
use Rattle.sound_code.specs.Named.{slot_shape}
use Rattle.sound_code.proofs.Combining.{kept_is}
use Rattle.sound_code.proofs.Expressions.{call_left}
use Rattle.sound_code.proofs.Statements.{bind_by}
use Rattle.sound_code.proofs.Asked.{Asked}
use Rattle.code_laws.specs.Steps.{Forms}
use Rattle.code_laws.specs.Typed.{IsTyped}
use Rattle.code_laws.proofs.Wider.{beginning}
use Rattle.sound_code.specs.Named.{HasSlots}
use Rattle.sound_code.proofs.WholeTasks.{is_value, is_whole_expression}
use Rattle.sound_code.specs.Ways.{Way, shape_of}
use Rattle.sound_code.proofs.Wholes.{Asks, asks_first, asks_second, begins_becomes, said_worth, worth_few, worth_named, worth_numbered}
use Rattle.sound_code.proofs.ScopedNames.{said_scoped, scoped_bound}
use Rattle.sound_code.proofs.Cuts.{cut_plain}
use Rattle.sound_code.proofs.NoCuts.{worth_no_partition}
use Rattle.sound_code.proofs.Besides.{written_no_child}
use Rattle.sound_code.proofs.Told.{ToldForm, told_heads, told_plain}
use Rattle.sound_code.proofs.Combining.{both}
use Rattle.sound_code.proofs.Expressions.{converted_marked, stored}
use Rattle.sound_code.proofs.Statements.{Followed, bind_marked, new_name, value_marked}
use Rattle.regent_tree.specs.declared.types.TypeTerm.{TypeTerm}
use Rattle.code_laws.specs.Pointers.{BeginsWith}
use Rattle.code_laws.proofs.Written.{begins_written}
use Rattle.code_rules.specs.Instructions.{one}

module _ (g : Program) (t : TaskCode) (k slots : ℕ) (have : HasSlots t slots) (forms : Forms) (way : Way) (w : Where) (m : Mark)
    (asked : Asked g t k slots forms way w m) where
  -- a variable of a written type that begins with a value, which is converted
  pub said_marked : (x : Name) (term : TypeTerm) (e : Expression) →
      BeginsWith forms.keeps w.scope.names (typed w e) (var_type w.tree w.scope (Some term) (Some (plain_initializer e))) → IsTyped forms w e →
      Asks forms.keeps (is_value true (var_type w.tree w.scope (Some term) (Some (plain_initializer e))) && is_whole_expression true w e) →
      ToldForm way w.tree w.scope (var_form x (Some term) (Some (plain_initializer e))) → (pc : ℕ) → Stands t.body pc (begun_form w (Some term) (Some (plain_initializer e))) →
      Followed g t k forms.keeps way w.tree w.params (after_form w (var_form x (Some term) (Some (plain_initializer e)))).scope.names m
      (begun_form w (Some term) (Some (plain_initializer e)))
  said_marked x term e with_it fine whole told pc st =
      let inside = asks_second forms.keeps _ (is_whole_expression true w e) whole in
      let u = var_type w.tree w.scope (Some term) (Some (plain_initializer e)) in
      let begins = beginning forms.keeps w.scope.names (typed w e) u with_it in
      let is = said_worth forms.keeps w.scope.names (typed w e) u with_it (asks_first _ _ _ whole) in
      let b = new_name g t k slots have forms way w m asked x u in
      let store = one w (instr.Store (slot w (new_place w))) in
      let same = begins_written w.scope.names w (typed w e) u e begins in
      let stands = subst (λ (c : Piece). Stands t.body pc (c ⨟ store)) same st in
      subst (λ (c : Piece). Followed g t k forms.keeps way w.tree w.params (after_form w (var_form x (Some term) (Some (plain_initializer e)))).scope.names m (c ⨟ store)) (sym same)
      (bind_marked g t k slots have forms way w m asked x (shape_of u) u _ (λ x v. subst (λ s. Is x s v) (sym (worth_named way w.params u is)))
      (worth_numbered way w.params (b ∷ w.scope.names) u is)
      (scoped_bound forms.keeps way w.tree w.scope (var_form x (Some term) (Some (plain_initializer e))) b refl told asked.scoped
      (λ all. said_scoped w.scope.names w.scope.next (typed w e) u begins))
      (cut_plain forms.keeps way w.tree w.scope (var_form x (Some term) (Some (plain_initializer e))) b w.params m.facts m.facts refl told (λ l h. h) asked.cut
      (worth_no_partition u is)) (written_no_child w.tree w.scope w.scope.next term)
      (both g t k (value_marked g t k slots have forms way w m asked e [] fine inside
      (told_plain way forms w e fine inside (told_heads w.tree w.scope way (var_form x (Some term) (Some (plain_initializer e))) told)) pc stands.0.0)
      (converted_marked g t k slots have forms way w m asked _ _ [] (begins_becomes w.scope.names _ u begins) (worth_few u is)))
      (stored g t k slots have forms way w m asked _ _ stands.1))

  -- so one that begins with a call's result as it comes
  pub said_called : (x : Name) (term : TypeTerm) (task : Name) (args : Expressions) →
      BeginsWith forms.keeps w.scope.names (typed w (call_expr task args)) (var_type w.tree w.scope (Some term) (Some (plain_initializer (call_expr task args)))) → IsTyped forms w (call_expr task args) →
      Asks forms.keeps (is_value true (var_type w.tree w.scope (Some term) (Some (plain_initializer (call_expr task args)))) && is_whole_expression true w (call_expr task args)) →
      ToldForm way w.tree w.scope (var_form x (Some term) (Some (plain_initializer (call_expr task args)))) →
      keeps_number (typed w (call_expr task args)) (var_type w.tree w.scope (Some term) (Some (plain_initializer (call_expr task args)))) ≡ true → (pc : ℕ) →
      Stands t.body pc (put_call w (slot w (new_place w)) task args) →
      Followed g t k forms.keeps way w.tree w.params (after_form w (var_form x (Some term) (Some (plain_initializer (call_expr task args))))).scope.names m
      (put_call w (slot w (new_place w)) task args)
  said_called x term task args with_it fine whole told keeps pc st =
      let e = call_expr task args in
      let form = var_form x (Some term) (Some (plain_initializer e)) in
      let inside = asks_second forms.keeps _ (is_whole_expression true w e) whole in
      let u = var_type w.tree w.scope (Some term) (Some (plain_initializer e)) in
      let begins = beginning forms.keeps w.scope.names (typed w e) u with_it in
      let is = said_worth forms.keeps w.scope.names (typed w e) u with_it (asks_first _ _ _ whole) in
      let b = new_name g t k slots have forms way w m asked x u in
      let still : nat_lt (length w.scope.names) w.params ≡ false = le-ltb (length w.scope.names) w.params asked.ready.low in
      bind_by g t k slots have forms way w m asked x (awaited (shape_of (typed w e))) u (put_call w (slot w (new_place w)) task args)
      (λ y v h. subst (λ c. Is y (slot_shape c (shape_in way w.params u)) v) (sym still)
      (subst (λ s. Is y (slot_shape false s) v) (sym (worth_named way w.params u is)) (kept_is y (typed w e) u keeps v h)))
      (worth_numbered way w.params (b ∷ w.scope.names) u is)
      (scoped_bound forms.keeps way w.tree w.scope form b refl told asked.scoped
      (λ all. said_scoped w.scope.names w.scope.next (typed w e) u begins))
      (cut_plain forms.keeps way w.tree w.scope form b w.params m.facts m.facts refl told (λ l h. h) asked.cut
      (worth_no_partition u is)) (written_no_child w.tree w.scope w.scope.next term)
      (λ o h. call_left g t k slots have forms way w m asked task args [] fine inside (told_plain way forms w e fine inside (told_heads w.tree w.scope way form told)) pc st.0 _ o h)
      (stored g t k slots have forms way w m asked _ _ st.1.1)
