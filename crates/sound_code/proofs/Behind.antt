-- What is known where a task is looked at by the rules is so behind each statement.
use Rattle.std.proofs.Common.{◌≡◌, ℕ, ◌<◌, Bool, List, [], ◌∷◌, ◌++◌, ◌&&◌, false, None, Some, ap, refl, subst, sym, ⊎_elim, true}
use Rattle.regent_tree.specs.Scopes.{bound_as, knowing, known_of_type, Scope, with_name}
use Rattle.regent_tree.specs.declared.facts.Known.TheVariants.{Made}
use Rattle.regent_tree.specs.declared.typing.StaticType.{StaticType}
use Rattle.regent_tree.specs.declared.typing.StaticType.TheVariants.{Partition as partition_type, Region as region_type}
use Rattle.regent_tree.specs.StaticTypes.{Reach}
use Rattle.regent_tree.specs.declared.facts.Term.TheVariants as place
use Rattle.regent_tree.specs.declared.types.Kind.{Kind}
use Rattle.regent_tree.specs.declared.expression.Arithmetic.TheVariants.{Subtract}
use Rattle.regent_tree.specs.declared.expression.Operator.TheVariants.{Compute}
use Rattle.regent_tree.specs.Syntax.{a_link, access_expr, at_step, chain_expr, Expression, Name, no_link, no_step, plain_initializer, region_initializer, both_initializer, by_field_initializer, either_initializer, equal_initializer, image_initializer, preimage_initializer, a_statement, Form, var_form, if_form, while_form, for_in_form, for_to_form, do_form, fill_form, call_form, assert_form, print_form, assign_form, return_form, Block, no_statement, then_statement, Arms, no_arm, an_arm, Otherwise, no_else, else_block}
use Rattle.regent_tree.specs.Typing.{colour_of, initializer_type, is_disjoint, parent_of, known_of_child, operated, owned, arithmetic_type, scope_after, scope_after_arms, scope_after_block, scope_after_else, taken_from, var_type}
use Rattle.task_code.specs.declared.code.TaskCode.{TaskCode}
use Rattle.regent_tree.specs.declared.types.TypeTerm.{TypeTerm}
use Rattle.code_rules.specs.Slots.{bound, Where, typed}
use Rattle.code_rules.specs.Statements.{after_arm, after_arms, after_form, looping, on_line}
use Rattle.code_laws.specs.Simple.{a_partition_type, IsPartition, IsInteger, an_integer, IsSimple, simple_integer, number_index, number_integer, two_integers, two_truths}
use Rattle.check_laws.specs.SoundScopes.{Falls}
use Rattle.code_laws.specs.Steps.{Forms}
use Rattle.code_laws.specs.Typed.{BeginsAsPart, IsDifference, IsIndexed, IsKeepable, IsTyped, IsTypedForm, AreTypedArms, IsTypedElse, IsTypedBlock}
use Rattle.code_laws.proofs.Wider.{beginning}
use Rattle.code_laws.specs.Pointers.{a_pointer_type, Begins, begins_plain, begins_pointer, BeginsWith, fills_alike, fills_index, into_index, into_plain, into_space, IsLike}
use Rattle.regent_tree.specs.declared.typing.Bound.{Bound}
use Rattle.sound_code.specs.Ways.{Way}
use Rattle.code_laws.proofs.Domains.{part_is}
use Rattle.code_laws.proofs.LocalGoals.{bound_among, found_among}
use Rattle.sound_code.proofs.ArgumentTypes.{part_parent}
use Rattle.code_laws.specs.Taking.{BeginsWhole, BeginsWithin}
use Rattle.sound_code.proofs.Scoped.{region_found}
use Rattle.sound_code.proofs.WholeTasks.{is_value, are_whole_arms, is_whole_block, is_whole_else, is_whole_expression, is_whole_form}
use Rattle.sound_code.proofs.Wholes.{Asks, asks_first, asks_second, begun_whole, begun_worth, said_worth, worth_simple, zero_worth}
use Rattle.sound_code.proofs.SaidWholes.{said_whole}
use Rattle.sound_code.proofs.Liking.{like_cut, like_root}
use Rattle.sound_code.proofs.Taken.{looped_parts, taken_worth}
use Rattle.sound_code.proofs.Grounds.{BeginsUnder, BeginsWholly, Ground}
use Rattle.sound_code.proofs.Grown.{ground_block, ground_cut, ground_declared, ground_looping, ground_piece, ground_plain, ground_root, ground_rounds, ground_said}

-- what loops bind is simple
pub counted_simple : (t u : StaticType) → IsInteger t → IsInteger u → IsSimple (arithmetic_type t u)
counted_simple _ _ (an_integer a) (an_integer b) = simple_integer _

-- what is written tells nothing of its value's type
begins_nothing : (i : ℕ) (bs : List Bound) (t u : StaticType) → Begins bs t u → known_of_child i t ≡ []
begins_nothing i bs _ _ (begins_plain _ _ (into_plain _ _ (fills_alike _ _ (two_integers v w)))) = refl
begins_nothing i bs _ _ (begins_plain _ _ (into_plain _ _ (fills_alike _ _ two_truths))) = refl
begins_nothing i bs _ _ (begins_plain _ _ (into_plain _ _ (fills_index _ k (number_integer v)))) = refl
begins_nothing i bs _ _ (begins_plain _ _ (into_plain _ _ (fills_index _ k (number_index j)))) = refl
begins_nothing i bs _ _ (begins_plain _ _ (into_index k sp args rs j)) = refl
begins_nothing i bs _ _ (begins_plain _ _ (into_space j k)) = refl
begins_nothing i bs _ _ (begins_pointer _ _ (a_pointer_type k sp args rs names) q) = refl

module _ (forms : Forms) (t : TaskCode) (way : Way) where
  abbrev On : Where → Scope → Type 0
  On w s = Ground t way w.tree w.params s

  -- a difference of partitions
  minus_by : (w : Where) (n : Name) (u v : StaticType) → IsPartition u → Falls w.scope.next w.scope.names → On w w.scope →
      On w (knowing (with_name w.scope n (owned w.scope.next (operated (Compute Subtract) u v)) false)
      (known_of_child w.scope.next (operated (Compute Subtract) u v) ++ known_of_type (owned w.scope.next (operated (Compute Subtract) u v))))
  minus_by w n _ v (a_partition_type d r p) falls g = ground_cut t w.tree w.params way w.scope n d r falls g

  minus_ground : (w : Where) (n : Name) (e : Expression) → IsDifference w e → On w w.scope → On w (scope_after w.tree w.scope (var_form n None (Some (plain_initializer e))))
  minus_ground w n (chain_expr (access_expr p no_step) (a_link (Compute Subtract) (access_expr q no_step) no_link)) d g =
      minus_by w n (bound w p).static_type (bound w q).static_type d.first.partition d.first.numbers g
  minus_ground w n _ d g = absurd d

  -- a partition of a written type
  cut_ground : (w : Where) (n : Name) (u : StaticType) (d : Bool) (r : ℕ) → IsLike u (partition_type d r w.scope.next) → Falls w.scope.next w.scope.names →
      On w w.scope → On w (knowing (with_name w.scope n u false) (known_of_type u))
  cut_ground w n u d r like falls g =
      let is = like_cut u d r w.scope.next like in
      subst (λ v. On w (knowing (with_name w.scope n v false) (known_of_type v))) (sym is.is) (ground_cut t w.tree w.params way w.scope n is.flag r falls g)

  minus_like : (w : Where) (n : Name) (ty u v : StaticType) → IsPartition u → IsLike ty (owned w.scope.next (operated (Compute Subtract) u v)) →
      Falls w.scope.next w.scope.names → On w w.scope →
      On w (knowing (with_name w.scope n ty false) (known_of_child w.scope.next (operated (Compute Subtract) u v) ++ known_of_type ty))
  minus_like w n ty _ v (a_partition_type d r p) like falls g = cut_ground w n ty d r like falls g

  minus_said : (w : Where) (n : Name) (term : TypeTerm) (e : Expression) → IsDifference w e →
      IsLike (var_type w.tree w.scope (Some term) (Some (plain_initializer e))) (initializer_type w.tree w.scope w.scope.next (plain_initializer e)) →
      On w w.scope → On w (scope_after w.tree w.scope (var_form n (Some term) (Some (plain_initializer e))))
  minus_said w n term (chain_expr (access_expr p no_step) (a_link (Compute Subtract) (access_expr q no_step) no_link)) d like g =
      minus_like w n _ (bound w p).static_type (bound w q).static_type d.first.partition like d.first.numbers g
  minus_said w n term _ d like g = absurd d

  -- how regions begin is told of the task
  abbrev pub BeginsSo : Where → Type 0
  BeginsSo w = ((i : ℕ) → BeginsWhole forms.takes i → BeginsWholly way i)
      × (forms.keeps ≡ true → (i r : ℕ) → BeginsWithin forms.takes i r → r < i → BeginsUnder way w.params i r)

  -- a part of a name's partition, that a name of a region's type keeps
  part_ground : (w : Where) (n q : Name) (i : Expression) (j : Kind) (sp : ℕ) (args : List Reach) → forms.keeps ≡ true →
      BeginsAsPart forms.takes w (access_expr q (at_step i no_step)) (IsIndexed forms w (access_expr q (at_step i no_step))) → BeginsSo w → On w w.scope →
      On w (knowing (with_name w.scope n (region_type j sp args (place.Name w.scope.next)) false)
      (known_of_child w.scope.next (typed w (access_expr q (at_step i no_step))) ++ known_of_type (region_type j sp args (place.Name w.scope.next))))
  part_ground w n q i j sp args keeps b h g =
      let s = w.scope in
      let kind = part_is w q i b.0.1 b.0.2 in
      let u = region_type j sp args (place.Name s.next) in
      let r = parent_of (bound w q).static_type in
      let is = part_parent w q i b.0.0.partition b.0.2 in
      let found = region_found s.names r is in
      let low : r < s.next = subst (λ n. n < s.next) found.1 (found_among s.next s.names (bound_as s.names r) b.0.0.numbers found.0).1 in
      subst (λ t. On w (knowing (with_name s n u false) (known_of_child s.next t ++ known_of_type u))) (sym kind.is)
      (ground_piece t w.tree w.params way s n j sp args (bound w q).number r (is_disjoint (bound w q).static_type) (colour_of s i)
      (h.1 keeps s.next r b.2 low) (bound_as s.names r).static_type is b.1 (bound_as s.names r) found.0 refl
      (bound w q) (bound_among s.names q b.0.0.named) b.0.1 g)

  piece_ground : (w : Where) (n : Name) (e : Expression) → forms.keeps ≡ true → BeginsAsPart forms.takes w e (IsIndexed forms w e) → BeginsSo w → On w w.scope →
      On w (scope_after w.tree w.scope (var_form n None (Some (plain_initializer e))))
  piece_ground w n (access_expr q (at_step i no_step)) keeps b h g =
      let kind = part_is w q i b.0.1 b.0.2 in
      subst (λ u. On w (knowing (with_name w.scope n u false) (known_of_child w.scope.next (typed w (access_expr q (at_step i no_step))) ++ known_of_type u)))
      (sym (ap (owned w.scope.next) kind.is)) (part_ground w n q i kind.kind kind.space kind.args keeps b h g)
  piece_ground w n _ keeps b h g = absurd b

  -- so of a written type
  piece_said : (w : Where) (n : Name) (term : TypeTerm) (e : Expression) → forms.keeps ≡ true → BeginsAsPart forms.takes w e (IsIndexed forms w e) →
      IsLike (var_type w.tree w.scope (Some term) (Some (plain_initializer e))) (initializer_type w.tree w.scope w.scope.next (plain_initializer e)) →
      BeginsSo w → On w w.scope → On w (scope_after w.tree w.scope (var_form n (Some term) (Some (plain_initializer e))))
  piece_said w n term (access_expr q (at_step i no_step)) keeps b like h g =
      let kind = part_is w q i b.0.1 b.0.2 in
      let u = var_type w.tree w.scope (Some term) (Some (plain_initializer (access_expr q (at_step i no_step)))) in
      let is = like_root u kind.kind kind.space kind.args (place.Name w.scope.next) (subst (IsLike u) (ap (owned w.scope.next) kind.is) like) in
      subst (λ u. On w (knowing (with_name w.scope n u false) (known_of_child w.scope.next (typed w (access_expr q (at_step i no_step))) ++ known_of_type u)))
      (sym is.is) (part_ground w n q i is.kind kind.space is.args keeps b h g)
  piece_said w n term _ keeps b like h g = absurd b

  mutual
    pub after_form_ground : (w : Where) (form : Form) → IsTypedForm forms w form → Asks forms.keeps (is_whole_form true w form) → BeginsSo w → On w w.scope → On w (scope_after w.tree w.scope form)
    after_form_ground w (var_form n None (Some (plain_initializer e))) f whole told g =
        ⊎_elim (λ (begun : (IsKeepable forms.keeps w e × IsTyped forms w e) × Asks forms.keeps (is_value true (owned w.scope.next (typed w e)) && is_whole_expression true w e)).
        ground_plain t w.tree w.params way w.scope n (typed w e) (begun_worth forms.keeps w e w.scope.next begun.0.0 (asks_first _ _ _ begun.1)) g)
        (λ d. ⊎_elim (λ m. minus_ground w n e m g) (λ b. piece_ground w n e d.0 b.0 told g) d.1) (begun_whole forms.keeps forms.takes w e (is_whole_expression true w e) (IsTyped forms w e) (IsIndexed forms w e) f whole)
    after_form_ground w (var_form n None (Some (region_initializer e u))) f whole told g = ground_root t w.tree w.params way w.scope n _ _ _ (told.0 w.scope.next f.4) g
    after_form_ground w (var_form n (Some term) (Some (plain_initializer e))) f whole told g =
        let u = var_type w.tree w.scope (Some term) (Some (plain_initializer e)) in
        ⊎_elim
        (λ (b : (BeginsWith forms.keeps w.scope.names (typed w e) u × IsTyped forms w e) × Asks forms.keeps (is_value true u && is_whole_expression true w e)).
        ground_said t w.tree w.params way w.scope n (typed w e) u (begins_nothing w.scope.next w.scope.names _ u (beginning forms.keeps w.scope.names _ u b.0.0))
        (said_worth forms.keeps w.scope.names _ u b.0.0 (asks_first _ _ _ b.1)) g)
        (λ d. ⊎_elim (λ m. minus_said w n term e m d.2 g) (λ b. piece_said w n term e d.0 b.0 d.2 told g) d.1)
        (said_whole forms.keeps forms.takes w e u (is_whole_expression true w e) (IsTyped forms w e) (IsIndexed forms w e) f whole)
    after_form_ground w (var_form n (Some term) None) f whole told g =
        let u = var_type w.tree w.scope (Some term) None in
        ground_declared t w.tree w.params way w.scope n u (zero_worth forms.keeps w.scope.names u f whole) g
    after_form_ground w (if_form arms other) f whole told g = after_else_ground (after_arms w arms) other f.1 (asks_second _ _ _ whole)
        told (after_arms_ground w w arms f.0 (asks_first _ _ _ whole) told g)
    after_form_ground w (while_form test body) f whole told g =
        ground_block t w.tree w.params way w.scope body g (after_block_ground w body f.2 (asks_second _ _ _ whole) told g)
    after_form_ground w (for_in_form demanded n domain body) looped whole told g =
        let f = looped_parts forms.keeps w domain _ _ _ looped in
        ground_rounds t w.tree w.params way w.scope n (taken_from (typed w domain)) body g
        (after_block_ground (looping w n (taken_from (typed w domain))) body f.1 (asks_second _ _ _ whole) told
        (ground_looping t w.tree w.params way w.scope n (taken_from (typed w domain)) (taken_worth forms.keeps w domain _ _ f.0) g))
    after_form_ground w (for_to_form demanded n from to body) f whole told g =
        let rest = asks_second forms.keeps _ (is_whole_expression true w to && is_whole_block true (looping w n (arithmetic_type (typed w from) (typed w to))) body) whole in
        ground_rounds t w.tree w.params way w.scope n (arithmetic_type (typed w from) (typed w to)) body g
        (after_block_ground (looping w n (arithmetic_type (typed w from) (typed w to))) body f.4 (asks_second _ _ _ rest) told
        (ground_looping t w.tree w.params way w.scope n (arithmetic_type (typed w from) (typed w to)) (worth_simple _ (counted_simple _ _ f.0 f.1)) g))
    after_form_ground w (do_form body) f whole told g = ground_block t w.tree w.params way w.scope body g (after_block_ground w body f whole told g)
    after_form_ground w (fill_form r fields e) f whole told g = g
    after_form_ground w (call_form task args) f whole told g = g
    after_form_ground w (assert_form e) f whole told g = g
    after_form_ground w (print_form alias format args) f whole told g = g
    after_form_ground w (assign_form x steps h e) f whole told g = g
    after_form_ground w (return_form e) f whole told g = g
    after_form_ground w (var_form n None (Some (equal_initializer r e))) f whole told g = ground_cut t w.tree w.params way w.scope n _ _ f.3.numbers g
    after_form_ground w (var_form n None (Some (by_field_initializer r l e))) f whole told g = ground_cut t w.tree w.params way w.scope n _ _ f.3.parent.numbers g
    after_form_ground w (var_form n None (Some (image_initializer a p r l))) f whole told g = ground_cut t w.tree w.params way w.scope n _ _ f.1.numbers g
    after_form_ground w (var_form n None (Some (preimage_initializer a p r l))) f whole told g = ground_cut t w.tree w.params way w.scope n _ _ f.1.numbers g
    after_form_ground w (var_form n None (Some (both_initializer p q))) f whole told g = ground_cut t w.tree w.params way w.scope n _ _ f.1.first.numbers g
    after_form_ground w (var_form n None (Some (either_initializer p q))) f whole told g = ground_cut t w.tree w.params way w.scope n _ _ f.1.first.numbers g
    after_form_ground w (var_form n (Some said) (Some (region_initializer e u))) f whole told g =
        let like = like_root _ _ _ _ _ f.1 in
        subst (λ v. On w (knowing (with_name w.scope n v false) (Made w.scope.next ∷ known_of_type v))) (sym like.is)
        (ground_root t w.tree w.params way w.scope n like.kind _ like.args (told.0 w.scope.next f.2.4) g)
    after_form_ground w (var_form n (Some said) (Some (equal_initializer r e))) f whole told g = cut_ground w n _ _ _ f.1 f.2.3.numbers g
    after_form_ground w (var_form n (Some said) (Some (by_field_initializer r l e))) f whole told g = cut_ground w n _ _ _ f.1 f.2.3.parent.numbers g
    after_form_ground w (var_form n (Some said) (Some (image_initializer a p r l))) f whole told g = cut_ground w n _ _ _ f.1 f.2.1.numbers g
    after_form_ground w (var_form n (Some said) (Some (preimage_initializer a p r l))) f whole told g = cut_ground w n _ _ _ f.1 f.2.1.numbers g
    after_form_ground w (var_form n (Some said) (Some (both_initializer p q))) f whole told g = cut_ground w n _ _ _ f.1 f.2.1.first.numbers g
    after_form_ground w (var_form n (Some said) (Some (either_initializer p q))) f whole told g = cut_ground w n _ _ _ f.1 f.2.1.first.numbers g
    after_form_ground w _ f whole told g = absurd f

    pub after_block_ground : (w : Where) (b : Block) → IsTypedBlock forms w b → Asks forms.keeps (is_whole_block true w b) → BeginsSo w → On w w.scope →
        On w (scope_after_block w.tree w.scope b)
    after_block_ground w no_statement f whole told g = g
    after_block_ground w (then_statement (a_statement line form) rest) f whole told g =
        after_block_ground (after_form w form) rest f.1 (asks_second _ _ _ whole) told (after_form_ground (on_line w line) form f.0 (asks_first _ _ _ whole) told g)

    pub after_arms_ground : (own w : Where) (arms : Arms) → AreTypedArms forms own w arms → Asks forms.keeps (are_whole_arms true own w arms) → BeginsSo w → On w w.scope →
        On w (scope_after_arms w.tree w.scope arms)
    after_arms_ground own w no_arm f whole told g = g
    after_arms_ground own w (an_arm test body rest) f whole told g =
        let inner = asks_second forms.keeps _ (is_whole_block true w body && are_whole_arms true own (after_arm w body) rest) whole in
        after_arms_ground own (after_arm w body) rest f.3 (asks_second _ _ _ inner) told
        (ground_block t w.tree w.params way w.scope body g (after_block_ground w body f.2 (asks_first _ _ _ inner) told g))

    after_else_ground : (w : Where) (other : Otherwise) → IsTypedElse forms w other → Asks forms.keeps (is_whole_else true w other) → BeginsSo w → On w w.scope →
        On w (scope_after_else w.tree w.scope other)
    after_else_ground w no_else f whole told g = g
    after_else_ground w (else_block body) f whole told g = ground_block t w.tree w.params way w.scope body g (after_block_ground w body f whole told g)
