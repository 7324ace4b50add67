-- Every variable keeps what holds, by what it begins with.
use Rattle.std.proofs.Common.{Bool, List, None, Option, Some, false, true, refl, ap, sym, subst, ℕ, ◌≡◌, ◌∙◌, ◌&&◌, not}
use Rattle.std.proofs.lemmas.Bool.{or_parts}
use Rattle.regent_tree.specs.Execution.{exec}
use Rattle.regent_tree.specs.Running.{Here}
use Rattle.regent_tree.specs.StaticTypes.{Reach}
use Rattle.regent_tree.specs.Syntax.{Expression, Form, Initializer, Name, TaskTree, a_link, access_expr, assert_form, assign_form, at_step, both_initializer, by_field_initializer, call_form, chain_expr, do_form, either_initializer, equal_initializer, field_step, fill_form, for_in_form, for_to_form, if_form, image_initializer, no_link, no_step, plain_initializer, preimage_initializer, print_form, region_initializer, return_form, var_form, while_form}
use Rattle.regent_tree.specs.Typing.{initializer_type, owned, scope_after, type_of, var_type}
use Rattle.regent_tree.specs.Values.{Value}
use Rattle.regent_tree.specs.declared.expression.Arithmetic.TheVariants.{Subtract}
use Rattle.regent_tree.specs.declared.expression.Operator.TheVariants.{Compute}
use Rattle.regent_tree.specs.declared.facts.Known.{Known}
use Rattle.regent_tree.specs.declared.facts.Term.TheVariants.{Name as name_term}
use Rattle.regent_tree.specs.declared.types.Kind.{Kind}
use Rattle.regent_tree.specs.declared.types.NumberTerm.TheVariants as number
use Rattle.regent_tree.specs.declared.types.SpaceUse.{SpaceUse}
use Rattle.regent_tree.specs.declared.types.TypeTerm.{TypeTerm}
use Rattle.regent_tree.specs.declared.types.TypeTerm.TheVariants as typed_as
use Rattle.regent_tree.specs.declared.typing.Bound.{Bound}
use Rattle.regent_tree.specs.declared.typing.StaticType.{StaticType}
use Rattle.regent_tree.specs.declared.typing.StaticType.TheVariants.{Index as index_type, Integer as integer_type, Ispace as ispace_type, Nothing as no_type, Partition as partition_type, Pointer as pointer_type, Region as region_type, Truth as truth_type, Unknown as unknown_type}
use Rattle.check_rules.specs.rules.Partitions.{is_difference}
use Rattle.check_rules.specs.rules.Places.{has_wrong_initializer}
use Rattle.check_rules.specs.scopes.Variables.{is_flawed_initializer, known_initializer, variable_type}
use Rattle.check_rules.specs.types.Fitting.{fits}
use Rattle.check_rules.specs.types.Sorts.{is_collection, is_partition, is_region, is_unknown_type}
use Rattle.check_laws.specs.SoundScopes.{IsKnown}
use Rattle.check_laws.proofs.Parts.{contrary, unless_false}
use Rattle.check_laws.proofs.Variables.{begun_sound, parts_of_form, variable_known}
use Rattle.expression_laws.specs.Kinds.{IsNamedByOwnNumber}
use Rattle.expression_laws.specs.Sound.{Instance}
use Rattle.statement_laws.specs.Places.{FormGoes}
use Rattle.statement_laws.specs.Steady.{GoesOnSound}
use Rattle.statement_laws.proofs.Assignments.{set_goes}
use Rattle.statement_laws.proofs.Cuttings.{asked_of, both_cuts, either_cuts, equal_cuts, field_cuts, flawless, image_cuts, partition_like, preimage_cuts}
use Rattle.statement_laws.proofs.CutVariables.{cut_goes, declared_fits, minus, minus_cuts, typed_cuts}
use Rattle.statement_laws.proofs.Leaves.{IsRest, region_like}
use Rattle.statement_laws.proofs.Regions.{child_goes, typed_child_goes}
use Rattle.statement_laws.proofs.TypedVariables.{typed_goes, unless_both}
use Rattle.statement_laws.proofs.Variables.{IsPlain, plain_goes, region_goes, unset_goes}
use Rattle.statement_laws.proofs.VariableTypes.{var_said}

module _ (task : TaskTree) (args : List Value) (roots : ℕ) where
  abbrev inst : Here → Instance
  inst h = record { tree = h.tree; calls = h.calls; task = task; args = args; roots = roots }

  -- a partition begins with nothing else than a partition operation
  wrong_partition : (names : List Bound) (wanted begins : StaticType) (y : Expression) → is_unknown_type begins ≡ false → is_partition wanted ≡ true → is_difference names y ≡ false →
      has_wrong_initializer names wanted begins (plain_initializer y) ≡ false → ⊥
  wrong_partition names wanted begins y known is whole e =
      let like = partition_like wanted is in
      contrary (sym (λ j. not (known j) && not (whole j)) ∙ subst (λ t. has_wrong_initializer names t begins (plain_initializer y) ≡ false) like.is e)

  -- `var r : t = region(..)`
  typed_region_goes : (n : Name) (t : TypeTerm) (y : Expression) (use_of : SpaceUse) (h : Here) → FormGoes task args roots h (var_form n (Some t) (Some (region_initializer y use_of)))
  typed_region_goes n t y use_of h m r told w wr u st =
      let s = h.scope in
      let i : Initializer = region_initializer y use_of in
      let wanted = var_type h.tree s (Some t) (Some i) in
      let like = region_like wanted (region_asked s.known _ _ _ s.next wanted (variable_known h.tree task s r.sound r.scope n (Some t) (Some i) told).1.known (declared_fits task args roots h m r n t i told)) in
      let own : like.term ≡ name_term s.next = subst (IsNamedByOwnNumber s.next) like.is (var_said h.tree task s r.sound r.scope r.static.well_scoped n (Some t) (Some i) told).1 in
      region_goes task args roots n (Some t) y use_of h like.kind like.space like.arguments (like.is ∙ ap (region_type like.kind like.space like.arguments) own) m r told w wr u st
    where
      region_asked : (known : List Known) (k : Kind) (sp : ℕ) (types : List Reach) (own : ℕ) (wanted : StaticType) → is_unknown_type wanted ≡ false →
          fits known (region_type k sp types (name_term own)) wanted ≡ true → is_region wanted ≡ true
      region_asked known k sp types own (region_type j sq others q) l e = refl
      region_asked known k sp types own (integer_type w) l e = absurd cc
      region_asked known k sp types own truth_type l e = absurd cc
      region_asked known k sp types own (index_type j) l e = absurd cc
      region_asked known k sp types own (pointer_type j sq others terms) l e = absurd cc
      region_asked known k sp types own (ispace_type j) l e = absurd cc
      region_asked known k sp types own (partition_type d q p) l e = absurd cc
      region_asked known k sp types own no_type l e = absurd cc
      region_asked known k sp types own unknown_type l e = absurd cc

  -- `var r = p - q`, whether or not a type is written
  difference_goes : (n : Name) (t : Option TypeTerm) (y : Expression) (h : Here) → is_difference h.scope.names y ≡ true → FormGoes task args roots h (var_form n t (Some (plain_initializer y)))
  difference_goes n None (chain_expr (access_expr p no_step) (a_link (Compute Subtract) (access_expr q no_step) no_link)) h whole m r told w wr u st =
      let i : Initializer = plain_initializer (minus p q) in
      cut_goes task args roots n None i h m r (minus_cuts task args roots h m r _ p q (flawless task args roots h m r n None i told) whole) told u st
  difference_goes n (Some t) (chain_expr (access_expr p no_step) (a_link (Compute Subtract) (access_expr q no_step) no_link)) h whole m r told w wr u st =
      let s = h.scope in
      let i : Initializer = plain_initializer (minus p q) in
      let wanted = var_type h.tree s (Some t) (Some i) in
      let cuts = minus_cuts task args roots h m r wanted p q (flawless task args roots h m r n (Some t) i told) whole in
      let asked = asked_of s.known cuts.disjoint cuts.parent s.next wanted (variable_known h.tree task s r.sound r.scope n (Some t) (Some i) told).1.known
      (subst (λ ty. fits s.known ty wanted ≡ true) cuts.type (declared_fits task args roots h m r n t i told)) (var_said h.tree task s r.sound r.scope r.static.well_scoped n (Some t) (Some i) told).1 in
      cut_goes task args roots n (Some t) i h m r (typed_cuts task args roots h m t wanted wanted (minus p q) r (ap is_partition asked.is) cuts) told u st
  difference_goes n t y h whole m r told w wr u st = absurd (contrary (sym whole))

  -- `var x = e`
  plain_starts : (n : Name) (y : Expression) (h : Here) → is_difference h.scope.names y ≡ false → FormGoes task args roots h (var_form n None (Some (plain_initializer y)))
  plain_starts n y h whole m r told w wr u st = by (type_of h.tree h.scope y) refl
    where
      begun : (is_flawed_initializer h.tree h.scope (plain_initializer y) ≡ false) × IsKnown h.scope (owned h.scope.next (type_of h.tree h.scope y))
      begun = let b = begun_sound h.tree task h.scope r.sound r.scope n None (plain_initializer y) told in (b.0, b.1)

      plain : IsPlain (type_of h.tree h.scope y) → GoesOnSound (inst h) m h.scope.next (scope_after h.tree h.scope (var_form n None (Some (plain_initializer y)))) (exec h (var_form n None (Some (plain_initializer y))) u)
      plain is = plain_goes task args roots n y h is whole m r told w wr u st

      by : (t : StaticType) → type_of h.tree h.scope y ≡ t →
          GoesOnSound (inst h) m h.scope.next (scope_after h.tree h.scope (var_form n None (Some (plain_initializer y)))) (exec h (var_form n None (Some (plain_initializer y))) u)
      by (region_type k sp types t) same = child_goes task args roots n y h k sp types t same whole m r told w wr u st
      by (partition_type d q p) same =
          let is_begun : known_initializer h.tree h.scope (plain_initializer y) ≡ partition_type d q h.scope.next = unless_false _ (owned h.scope.next (type_of h.tree h.scope y)) begun.0 ∙ ap (owned h.scope.next) same in
          let wrong = (or_parts _ false (parts_of_form h.tree task h.scope r.sound r.scope (var_form n None (Some (plain_initializer y))) told).5).0 in
          absurd (wrong_partition h.scope.names (partition_type d q h.scope.next) (partition_type d q h.scope.next) y refl refl whole
          (subst (λ t. has_wrong_initializer h.scope.names t t (plain_initializer y) ≡ false) is_begun wrong))
      by (integer_type z) same = plain (subst IsPlain (sym same) tt)
      by truth_type same = plain (subst IsPlain (sym same) tt)
      by (index_type k) same = plain (subst IsPlain (sym same) tt)
      by (pointer_type k sp types terms) same = plain (subst IsPlain (sym same) tt)
      by (ispace_type k) same = plain (subst IsPlain (sym same) tt)
      by no_type same = plain (subst IsPlain (sym same) tt)
      by unknown_type same = absurd (contrary (ap (λ t. is_unknown_type (owned h.scope.next t)) (sym same) ∙ begun.1.known))

  -- `var x : t = e`
  typed_starts : (n : Name) (t : TypeTerm) (y : Expression) (h : Here) → is_difference h.scope.names y ≡ false → FormGoes task args roots h (var_form n (Some t) (Some (plain_initializer y)))
  typed_starts n (typed_as.Number number.Int32) y h whole m r told w wr z st = typed_goes task args roots n (typed_as.Number number.Int32) y h tt whole m r told w wr z st
  typed_starts n (typed_as.Number number.Int64) y h whole m r told w wr z st = typed_goes task args roots n (typed_as.Number number.Int64) y h tt whole m r told w wr z st
  typed_starts n (typed_as.Number (number.Index k)) y h whole m r told w wr z st = typed_goes task args roots n (typed_as.Number (number.Index k)) y h tt whole m r told w wr z st
  typed_starts n typed_as.Truth y h whole m r told w wr z st = typed_goes task args roots n typed_as.Truth y h tt whole m r told w wr z st
  typed_starts n (typed_as.Pointer p) y h whole m r told w wr z st = typed_goes task args roots n (typed_as.Pointer p) y h tt whole m r told w wr z st
  typed_starts n (typed_as.Ispace k) y h whole m r told w wr z st = typed_goes task args roots n (typed_as.Ispace k) y h tt whole m r told w wr z st
  typed_starts n (typed_as.Region k u) y h whole m r told w wr z st = typed_child_goes task args roots n k u y h whole m r told w wr z st
  typed_starts n (typed_as.Partition d p c) y h whole m r told w wr u st =
      let s = h.scope in
      let t = typed_as.Partition d p c in
      let i : Initializer = plain_initializer y in
      let b = begun_sound h.tree task s r.sound r.scope n (Some t) i told in
      let vt = variable_type h.tree s (Some t) (Some i) in
      let is_begun = unless_false (is_flawed_initializer h.tree s i) (initializer_type h.tree s s.next i) b.0 in
      let is_wanted : vt ≡ var_type h.tree s (Some t) (Some i) = sym (unless_both (is_collection vt) _ vt b.2) ∙ (variable_known h.tree task s r.sound r.scope n (Some t) (Some i) told).0 in
      let wrong = (or_parts _ false (parts_of_form h.tree task s r.sound r.scope (var_form n (Some t) (Some i)) told).5).0 in
      absurd (wrong_partition s.names vt (known_initializer h.tree s i) y (ap is_unknown_type is_begun ∙ b.1.known) (ap is_partition is_wanted) whole wrong)

  plain_start_goes : (b : Bool) (n : Name) (t : Option TypeTerm) (y : Expression) (h : Here) → is_difference h.scope.names y ≡ b → FormGoes task args roots h (var_form n t (Some (plain_initializer y)))
  plain_start_goes true n t y h whole = difference_goes n t y h whole
  plain_start_goes false n None y h whole = plain_starts n y h whole
  plain_start_goes false n (Some t) y h whole = typed_starts n t y h whole

  starts_go : (n : Name) (t : Option TypeTerm) (i : Initializer) (h : Here) → FormGoes task args roots h (var_form n t (Some i))
  starts_go n None (region_initializer y use_of) h m r e w wr u st = region_goes task args roots n None y use_of h _ _ _ refl m r e w wr u st
  starts_go n (Some t) (region_initializer y use_of) h m r e w wr u st = typed_region_goes n t y use_of h m r e w wr u st
  starts_go n t (equal_initializer a y) h m r e w wr u st =
      let i : Initializer = equal_initializer a y in
      cut_goes task args roots n t i h m r (equal_cuts task args roots h m r t (var_type h.tree h.scope t (Some i)) a y wr (flawless task args roots h m r n t i e)) e u st
  starts_go n t (by_field_initializer a f y) h m r e w wr u st =
      let i : Initializer = by_field_initializer a f y in
      cut_goes task args roots n t i h m r (field_cuts task args roots h m r t (var_type h.tree h.scope t (Some i)) a f y wr (flawless task args roots h m r n t i e)) e u st
  starts_go n t (image_initializer a p b f) h m r e w wr u st =
      let i : Initializer = image_initializer a p b f in
      cut_goes task args roots n t i h m r (image_cuts task args roots h m r t (var_type h.tree h.scope t (Some i)) a p b f (flawless task args roots h m r n t i e)) e u st
  starts_go n t (preimage_initializer a p b f) h m r e w wr u st =
      let i : Initializer = preimage_initializer a p b f in
      cut_goes task args roots n t i h m r (preimage_cuts task args roots h m r t (var_type h.tree h.scope t (Some i)) a p b f (flawless task args roots h m r n t i e)) e u st
  starts_go n t (both_initializer p q) h m r e w wr u st =
      let i : Initializer = both_initializer p q in
      cut_goes task args roots n t i h m r (both_cuts task args roots h m r t (var_type h.tree h.scope t (Some i)) p q (flawless task args roots h m r n t i e)) e u st
  starts_go n t (either_initializer p q) h m r e w wr u st =
      let i : Initializer = either_initializer p q in
      cut_goes task args roots n t i h m r (either_cuts task args roots h m r t (var_type h.tree h.scope t (Some i)) p q (flawless task args roots h m r n t i e)) e u st
  starts_go n t (plain_initializer y) h m r e w wr u st = plain_start_goes (is_difference h.scope.names y) n t y h refl m r e w wr u st

  pub variables_go : (form : Form) (h : Here) → IsRest task args roots form → FormGoes task args roots h form
  variables_go (assign_form n no_step k y) h rest m r e w wr u st = set_goes task args roots n k y h m r e w wr u st
  variables_go (var_form n t (Some i)) h rest m r e w wr u st = starts_go n t i h m r e w wr u st
  variables_go (var_form n (Some t) None) h rest m r e w wr u st = unset_goes task args roots n t h m r e w wr u st
  variables_go (var_form n None None) h rest m r e w wr u st = absurd (contrary (parts_of_form h.tree task h.scope r.sound r.scope (var_form n None None) e).1)
  variables_go (assign_form n (field_step f steps) k y) h rest m r e w wr u st = absurd rest
  variables_go (assign_form n (at_step z steps) k y) h rest m r e w wr u st = absurd rest
  variables_go (if_form arms other) h rest m r e w wr u st = absurd rest
  variables_go (while_form test body) h rest m r e w wr u st = absurd rest
  variables_go (for_in_form d n domain body) h rest m r e w wr u st = absurd rest
  variables_go (for_to_form d n from to body) h rest m r e w wr u st = absurd rest
  variables_go (do_form body) h rest m r e w wr u st = absurd rest
  variables_go (fill_form n fs y) h rest m r e w wr u st = absurd rest
  variables_go (assert_form y) h rest m r e w wr u st = absurd rest
  variables_go (print_form alias format es) h rest m r e w wr u st = absurd rest
  variables_go (call_form f es) h rest m r e w wr u st = absurd rest
  variables_go (return_form y) h rest m r e w wr u st = absurd rest
