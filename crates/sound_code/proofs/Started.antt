-- Variables that begin with new roots and partitions, with written types or without, have marks.
use Rattle.std.proofs.Common.{ℕ, true, List, ◌∷◌, Option, Some, None, refl, sym, ◌∙◌, subst}
use Rattle.std.specs.Prelude.{map}
use Rattle.regent_tree.specs.Partitions.{both_flag, by_field_flag, either_flag, equal_flag, image_flag, preimage_flag}
use Rattle.regent_tree.specs.Scopes.{in_scope}
use Rattle.regent_tree.specs.StaticTypes.{Reach, looked_up, place_of_space}
use Rattle.regent_tree.specs.Syntax.{Expression, Initializer, Name, both_initializer, by_field_initializer, either_initializer, equal_initializer, image_initializer, plain_initializer, preimage_initializer, region_initializer, var_form}
use Rattle.regent_tree.specs.Typing.{initializer_type, is_disjoint, kind_of_ispace, var_type}
use Rattle.regent_tree.specs.declared.facts.Term.TheVariants as term
use Rattle.regent_tree.specs.declared.types.Kind.{Kind}
use Rattle.regent_tree.specs.declared.types.SpaceUse.{SpaceUse}
use Rattle.regent_tree.specs.declared.types.TypeTerm.{TypeTerm}
use Rattle.regent_tree.specs.declared.typing.StaticType.TheVariants.{Region as region_type}
use Rattle.task_code.specs.declared.code.TaskCode.{TaskCode}
use Rattle.code_rules.specs.Slots.{Where, bound, typed}
use Rattle.code_rules.specs.Statements.{after_form, form_code}
use Rattle.code_laws.specs.Pointers.{IsLike}
use Rattle.code_laws.specs.Standing.{Stands}
use Rattle.code_laws.specs.Steps.{Forms}
use Rattle.code_laws.specs.Typed.{IsBegunBy}
use Rattle.fit_rules.specs.Fits.{Program}
use Rattle.fit_rules.specs.Marks.{Mark}
use Rattle.fit_rules.specs.Shapes.{own_as, region}
use Rattle.sound_code.specs.Named.{HasSlots}
use Rattle.sound_code.proofs.WholeTasks.{is_whole_expression, is_whole_form}
use Rattle.sound_code.specs.Ways.{Way}
use Rattle.sound_code.proofs.Asked.{Asked, begins_wholly}
use Rattle.sound_code.proofs.CutForms.{by_field_marked, equal_marked, image_marked, join_marked, meet_marked, preimage_marked, said_cut}
use Rattle.sound_code.proofs.Cuts.{cut_bound}
use Rattle.sound_code.proofs.Grounds.{BeginsWholly}
use Rattle.std.proofs.lemmas.Option.{none-some}
use Rattle.sound_code.proofs.Expressions.{stored}
use Rattle.sound_code.proofs.Liking.{like_root}
use Rattle.sound_code.proofs.Numbering.{free_number}
use Rattle.sound_code.proofs.ScopedNames.{scoped_bound}
use Rattle.sound_code.proofs.Statements.{Followed, bind_marked, new_name, root_marked}
use Rattle.sound_code.proofs.Told.{ToldForm, told_head}
use Rattle.sound_code.proofs.Wholes.{Asks}

module _ (g : Program) (t : TaskCode) (k slots : ℕ) (have : HasSlots t slots) (forms : Forms) (way : Way) (w : Where) (m : Mark)
    (a : Asked g t k slots forms way w m) where
  -- a new root is bound to a name
  root_begun : (x : Name) (said : Option TypeTerm) (e : Expression) (u : SpaceUse) (kind : Kind) (args : List Reach) →
      IsBegunBy forms w (region_initializer e u) → Asks forms.keeps (is_whole_expression true w e) →
      ToldForm way w.tree w.scope (var_form x said (Some (region_initializer e u))) → (pc : ℕ) →
      Stands t.body pc (form_code w (var_form x said (Some (region_initializer e u)))) →
      Followed g t k forms.keeps way w.tree w.params
      (new_name g t k slots have forms way w m a x (region_type kind (place_of_space w.tree u.name) args (term.Name w.scope.next)) ∷ w.scope.names) m
      (form_code w (var_form x said (Some (region_initializer e u))))
  root_begun x said e u kind args f whole told pc st =
      let form = var_form x said (Some (region_initializer e u)) in
      let sp = place_of_space w.tree u.name in
      let v = region_type kind sp args (term.Name w.scope.next) in
      let b = new_name g t k slots have forms way w m a x v in
      let free = free_number t way w.tree w.params w.scope form m.slots kind sp args (begins_wholly forms t way w.tree w.scope.next a.hands f.4) a.ground told a.ready.numbered in
      bind_marked g t k slots have forms way w m a x (region (Some sp) (own_as free.number)) v _ free.becomes
      (free.named b refl)
      (scoped_bound forms.keeps way w.tree w.scope form b refl told a.scoped (λ all. refl))
      (cut_bound forms.keeps way w.tree w.scope form b w.params m.facts m.facts refl told (λ l h. h) a.cut
      (λ tops task by q l e. absurd (none-some q (sym (subst (λ v. BeginsWholly v w.scope.next) by (begins_wholly forms t way w.tree w.scope.next a.hands f.4)) ∙ e)))) refl
      (root_marked g t k slots have forms way w m a e sp free.number free.others f.1 f.2 whole
      (told_head w.tree w.scope way form e refl told) f.3 pc st.0.0) (stored g t k slots have forms way w m a _ _ st.1)

  pub started : (x : Name) (start : Initializer) → IsBegunBy forms w start → Asks forms.keeps (is_whole_form true w (var_form x None (Some start))) →
      ToldForm way w.tree w.scope (var_form x None (Some start)) → (pc : ℕ) → Stands t.body pc (form_code w (var_form x None (Some start))) →
      Followed g t k forms.keeps way w.tree w.params (after_form w (var_form x None (Some start))).scope.names m (form_code w (var_form x None (Some start)))
  started x (plain_initializer e) f whole told pc st = absurd f
  started x (region_initializer e u) f whole told pc st =
      root_begun x None e u (kind_of_ispace (typed w e)) (map (looked_up (in_scope w.scope)) u.args) f whole told pc st
  started x (equal_initializer r e) f whole told pc st =
      equal_marked g t k slots have forms way w m a x None equal_flag r e told (λ y. y) f.1 f.2 whole f.3 pc st.0.0 (stored g t k slots have forms way w m a _ _ st.1)
  started x (by_field_initializer r l e) f whole told pc st =
      by_field_marked g t k slots have forms way w m a x None by_field_flag r l e told (λ y. y) f.1 f.2 whole f.3 pc st.0.0 (stored g t k slots have forms way w m a _ _ st.1)
  started x (image_initializer s p r l) f whole told pc st =
      image_marked g t k slots have forms way w m a x None image_flag s p r l told (λ y. y) f.0 f.1 f.2 f.3 f.4 (stored g t k slots have forms way w m a _ _ st.1)
  started x (preimage_initializer s p r l) f whole told pc st =
      preimage_marked g t k slots have forms way w m a x None (preimage_flag (is_disjoint (bound w p).static_type)) s p r l told (λ y. y) f.0 f.1 f.2 f.3 f.4 (stored g t k slots have forms way w m a _ _ st.1)
  started x (both_initializer p q) f whole told pc st =
      meet_marked g t k slots have forms way w m a x None (both_flag (is_disjoint (bound w p).static_type) (is_disjoint (bound w q).static_type)) p q told (λ y. y) f.0 f.1 (stored g t k slots have forms way w m a _ _ st.1)
  started x (either_initializer p q) f whole told pc st =
      join_marked g t k slots have forms way w m a x None either_flag p q told (λ y. y) f.0 f.1 (stored g t k slots have forms way w m a _ _ st.1)

  -- so those of a written type, which is like that of what they begin with
  pub said_started : (x : Name) (said : TypeTerm) (start : Initializer) →
      IsLike (var_type w.tree w.scope (Some said) (Some start)) (initializer_type w.tree w.scope w.scope.next start) → IsBegunBy forms w start →
      Asks forms.keeps (is_whole_form true w (var_form x (Some said) (Some start))) → ToldForm way w.tree w.scope (var_form x (Some said) (Some start)) →
      (pc : ℕ) → Stands t.body pc (form_code w (var_form x (Some said) (Some start))) →
      Followed g t k forms.keeps way w.tree w.params (after_form w (var_form x (Some said) (Some start))).scope.names m
      (form_code w (var_form x (Some said) (Some start)))
  said_started x said (plain_initializer e) like f whole told pc st = absurd f
  said_started x said (region_initializer e u) like f whole told pc st =
      let is = like_root _ _ _ _ _ like in
      subst (λ v. Followed g t k forms.keeps way w.tree w.params (new_name g t k slots have forms way w m a x v ∷ w.scope.names) m
      (form_code w (var_form x (Some said) (Some (region_initializer e u))))) (sym is.is)
      (root_begun x (Some said) e u is.kind is.args f whole told pc st)
  said_started x said (equal_initializer r e) like f whole told pc st =
      said_cut g t k slots have forms way w m a x said (equal_initializer r e) _ _ like (λ c flag.
      equal_marked g t k slots have forms way w m a x (Some said) c r e told flag f.1 f.2 whole f.3 pc st.0.0 (stored g t k slots have forms way w m a _ _ st.1))
  said_started x said (by_field_initializer r l e) like f whole told pc st =
      said_cut g t k slots have forms way w m a x said (by_field_initializer r l e) _ _ like (λ c flag.
      by_field_marked g t k slots have forms way w m a x (Some said) c r l e told flag f.1 f.2 whole f.3 pc st.0.0 (stored g t k slots have forms way w m a _ _ st.1))
  said_started x said (image_initializer s p r l) like f whole told pc st =
      said_cut g t k slots have forms way w m a x said (image_initializer s p r l) _ _ like (λ c flag.
      image_marked g t k slots have forms way w m a x (Some said) c s p r l told flag f.0 f.1 f.2 f.3 f.4 (stored g t k slots have forms way w m a _ _ st.1))
  said_started x said (preimage_initializer s p r l) like f whole told pc st =
      said_cut g t k slots have forms way w m a x said (preimage_initializer s p r l) _ _ like (λ c flag.
      preimage_marked g t k slots have forms way w m a x (Some said) c s p r l told flag f.0 f.1 f.2 f.3 f.4 (stored g t k slots have forms way w m a _ _ st.1))
  said_started x said (both_initializer p q) like f whole told pc st =
      said_cut g t k slots have forms way w m a x said (both_initializer p q) _ _ like (λ c flag.
      meet_marked g t k slots have forms way w m a x (Some said) c p q told flag f.0 f.1 (stored g t k slots have forms way w m a _ _ st.1))
  said_started x said (either_initializer p q) like f whole told pc st =
      said_cut g t k slots have forms way w m a x said (either_initializer p q) _ _ like (λ c flag.
      join_marked g t k slots have forms way w m a x (Some said) c p q told flag f.0 f.1 (stored g t k slots have forms way w m a _ _ st.1))
