-- Assignments to fields of elements of parts that have no name, of which no breach is told.
use Rattle.std.proofs.Common.{◌≡◌, ◌∷◌, ◌++◌, None, true, false, refl, ap, subst, ◌∙◌, ℕ, inl, inr, ◌&&◌}
use Rattle.std.proofs.lemmas.Bool.{and_from, and_parts}
use Rattle.regent_tree.specs.Execution.{before_last}
use Rattle.regent_tree.specs.Limits.{node, parts_of_expression, parts_of_form, parts_of_steps}
use Rattle.regent_tree.specs.Lookup.{type_named}
use Rattle.regent_tree.specs.Scopes.{Scope}
use Rattle.regent_tree.specs.Syntax.{Expression, Name, Steps, TaskTree, Tree, access_expr, assign_form, at_step, field_step, no_step}
use Rattle.regent_tree.specs.Typing.{result_type, type_of, type_of_element, type_of_field}
use Rattle.regent_tree.specs.declared.rights.Access.{Access}
use Rattle.regent_tree.specs.declared.rights.Access.TheVariants as access
use Rattle.regent_tree.specs.declared.statement.How.{How}
use Rattle.regent_tree.specs.declared.statement.How.TheVariants as how
use Rattle.regent_tree.specs.declared.types.TypeTerm.{TypeTerm}
use Rattle.check_laws.proofs.Blocks.{head_known}
use Rattle.check_laws.proofs.Variables.{target_of_form}
use Rattle.check_laws.specs.SoundScopes.{IsSoundScope}
use Rattle.check_rules.specs.first.FirstInExpressions.{first_in_target, first_of_taking}
use Rattle.check_rules.specs.first.FirstInStatements.{first_of_form}
use Rattle.check_rules.specs.rules.Privileges.{lacks, wanted_of_last, wanted_of_step}
use Rattle.check_rules.specs.scopes.Sound.{IsSound, IsSoundTask}
use Rattle.check_rules.specs.types.Declarations.{is_no_result_type}
use Rattle.check_rules.specs.types.KnownTypes.{known_type, known_type_after_step, takings}
use Rattle.check_rules.specs.types.TypedForms.{field_of}
use Rattle.code_rules.specs.Slots.{Where, typed}
use Rattle.code_laws.specs.WrittenForms.{are_written_steps, is_written_expression, is_written_form}
use Rattle.code_laws.specs.Handing.{forms_by}
use Rattle.code_laws.specs.Steps.{Forms}
use Rattle.code_laws.specs.Typed.{are_fields, AreReachable, IsTyped, IsTypedForm, MayUse, part_element}
use Rattle.code_laws.proofs.FurtherWrites.{last_type}
use Rattle.code_laws.proofs.KnownHeads.{IsReady}
use Rattle.code_laws.proofs.LocalFields.{IsHeld}
use Rattle.code_laws.proofs.LocalFronts.{element_head, fields_behind, no_third}
use Rattle.code_laws.proofs.LocalNames.{IsLocalTree}
use Rattle.code_laws.proofs.LocalPartElements.{part_field}
use Rattle.code_laws.proofs.LocalPrefixes.{kept_front, kept_together, kept_with, target_told, told_on}
use Rattle.code_laws.proofs.LocalTargets.{IsAccessed, IsTarget, assigned_local, fields_before, fields_local, front_kept, front_told, last_known, last_wanted, reduce_local, reducing_local, set_local, target_is}
use Rattle.code_laws.proofs.Privileges.{mode_in}
use Rattle.code_laws.proofs.TypedStatements.{told_privileges}
use Rattle.code_laws.proofs.Typing.{AreKept, kept_behind, kept_left, kept_right, no_way_back}

part_reachable : (w : Where) (n : Name) (e i : Expression) (f g : Name) (rest : Steps) → are_fields rest ≡ true →
    IsAccessed w (access_expr n (before_last (at_step e (at_step i (field_step f (field_step g rest)))))) →
    AreReachable w (typed w (access_expr n (before_last (at_step e (at_step i (field_step f (field_step g rest)))))))
part_reachable w n e i f g no_step lo (inl p) = p
part_reachable w n e i f g (field_step k rest) lo (inl p) = p
part_reachable w n e i f g (at_step d rest) lo p = absurd (no_way_back lo)
part_reachable w n e i f g rest lo (inr p) = absurd p

module _ (tree : Tree) (task : TaskTree) (sound : IsSound tree) (sound_task : IsSoundTask tree task)
    (local : IsLocalTree tree) (params : ℕ) (result : is_no_result_type task.result ≡ false) where
  abbrev forms : Forms
  forms = forms_by true true tree task

  abbrev Ready : Scope → Type 0
  Ready s = IsReady tree task s

  abbrev here : Scope → ℕ → Where
  here s line = record { tree = tree; scope = s; result = result_type tree task.result; params = params; line = line }

  abbrev element : Name → Expression → Expression → Expression
  element n e i = access_expr n (at_step e (at_step i no_step))

  abbrev with_field : Expression → Expression → Name → Steps → Steps
  with_field e i f rest = at_step e (at_step i (field_step f rest))

  -- what stands for the indices is local
  elements_local : (e i : Expression) (more : Steps) → are_written_steps (at_step e (at_step i more)) ≡ true → are_written_steps (at_step e (at_step i no_step)) ≡ true
  elements_local e i more lo =
      let own = and_parts (is_written_expression e) (is_written_expression i && are_written_steps more) lo in
      let second = and_parts (is_written_expression i) (are_written_steps more) own.1 in
      and_from (is_written_expression e) (is_written_expression i && true) own.0 (and_from (is_written_expression i) true second.0 refl)

  -- ---- `p[e][i].f = y`

  record IsPlace (s : Scope) (line : ℕ) (n : Name) (e i : Expression) (f : Name) : Type 0 where
    is : IsTyped forms (here s line) (element n e i)
    term : TypeTerm
    held : IsHeld true term (type_of tree s (access_expr n (with_field e i f no_step)))
    known : known_type tree s (access_expr n (with_field e i f no_step)) ≡ type_of tree s (access_expr n (with_field e i f no_step))
    may : (a : Access) → lacks tree task s (wanted_of_last tree a (takings tree s (type_named s.names n) (with_field e i f no_step))) ≡ false →
        MayUse forms (here s line) (part_element (here s line) n e i) f (mode_in a)

  place_is : (s : Scope) (line : ℕ) (n : Name) (e i : Expression) (f : Name) → are_written_steps (at_step e (at_step i no_step)) ≡ true →
      AreKept (parts_of_steps (with_field e i f no_step)) → IsSoundScope s → Ready s → first_in_target tree task s n (with_field e i f no_step) ≡ None →
      IsPlace s line n e i f
  place_is s line n e i f lo k scope names none =
      let w = here s line in
      let y = element n e i in
      let kept = kept_front n e (at_step i no_step) (field_step f no_step) k in
      let told = target_told tree task s n (at_step e (at_step i no_step)) (field_step f no_step) tt none in
      let alike = (head_known tree task sound s scope y told.0).1 in
      let a = element_head tree task sound sound_task local params result s line n e i lo kept scope names told.0 in
      let field = part_field task w sound sound_task local scope names.names names.head n e i f kept told.0 a
      (subst (λ u. first_of_taking tree (field_of u f) ≡ None) alike told.1) in record {
        is = a.is;
        term = _;
        held = field.aimed.held;
        known = ap (λ u. known_type_after_step tree (field_of u f) (type_of_field tree u f)) alike ∙ field.aimed.known;
        may = λ b lacking. field.may b (subst (λ u. lacks tree task s (wanted_of_step tree b (field_of u f)) ≡ false) alike lacking);
      }

  place_local : (s : Scope) (line : ℕ) (n : Name) (e i : Expression) (f : Name) (h : How) (y : Expression) → is_written_expression y ≡ true →
      AreKept (parts_of_expression y) → IsSoundScope s → Ready s → first_of_form tree task s (assign_form n (with_field e i f no_step) h y) ≡ None →
      IsPlace s line n e i f → IsTypedForm forms (here s line) (assign_form n (with_field e i f no_step) h y)
  place_local s line n e i f how.Set y lo k scope names none p =
      let steps = with_field e i f no_step in
      let a = assigned_local tree task sound sound_task local params result s line n steps y lo k scope names none p.term p.held p.known in
      (refl, a.0, a.1, p.is.1, p.is.2, p.is.3, p.may access.Write (told_privileges tree task s (assign_form n steps how.Set y) none).0)
  place_local s line n e i f (how.Reduce o) y lo k scope names none p =
      let steps = with_field e i f no_step in
      let a = reducing_local tree task sound sound_task local params result s line n steps o y lo k scope names none p.term p.held p.known in
      (refl, a.0, a.1, a.2, p.is.1, p.is.2, p.is.3, p.may (access.Reduce o) (told_privileges tree task s (assign_form n steps (how.Reduce o) y) none).1)

  -- ---- `p[e][i].f.g = y`

  part_target : (s : Scope) (line : ℕ) (n : Name) (e i : Expression) (f g : Name) (rest : Steps) → are_written_steps (at_step e (at_step i no_step)) ≡ true →
      are_fields rest ≡ true → AreKept (parts_of_steps (with_field e i f (field_step g rest))) → IsSoundScope s → Ready s →
      first_in_target tree task s n (with_field e i f (field_step g rest)) ≡ None →
      IsTarget tree task sound sound_task local params result s line n (with_field e i f (field_step g rest)) rest
  part_target s line n e i f g rest lo fields k scope names none =
      let more = field_step f (field_step g rest) in
      let steps = at_step e (at_step i more) in
      let y = element n e i in
      let u = type_of_element s (type_of_element s (type_named s.names n) e) i in
      let known = known_type tree s y in
      let told = target_told tree task s n (at_step e (at_step i no_step)) more tt none in
      let r = front_told tree task s (field_step g rest) known f fields told.1 in
      let own = and_parts (is_written_expression e) (is_written_expression i && true) lo in
      let second = and_parts (is_written_expression i) true own.1 in
      let front_lo = fields_local (before_last (field_step g rest)) (fields_before rest g fields) in
      target_is tree task sound sound_task local params result s line n steps rest fields
      (and_from (is_written_expression e) (is_written_expression i && are_written_steps (before_last (field_step g rest))) own.0
      (and_from (is_written_expression i) (are_written_steps (before_last (field_step g rest))) second.0 front_lo)) tt refl
      (part_reachable (here s line) n e i f g rest fields) (kept e i f g rest fields k) scope names
      (told_on tree task s n (at_step e (at_step i no_step)) (before_last more) told.0 r.0) r.1
      (last_known tree task s (field_step g rest) known f fields) (last_type tree s (field_step g rest) u f fields)
      (λ a. last_wanted tree task s a (field_step g rest) known f fields)
    where
      kept : (e i : Expression) (f g : Name) (rest : Steps) → are_fields rest ≡ true → AreKept (parts_of_steps (with_field e i f (field_step g rest))) →
          AreKept (parts_of_expression (access_expr n (before_last (with_field e i f (field_step g rest)))))
      kept e i f g rest fields k =
          let more = field_step f (field_step g rest) in
          let second = parts_of_expression i ++ parts_of_steps more in
          let first = parts_of_expression e ++ (node ∷ second) in
          let front = parts_of_steps (before_last more) in
          let k1 = kept_behind node first k in
          let k2 = kept_right (parts_of_expression e) (node ∷ second) k1 in
          let k3 = kept_behind node second k2 in
          let inner = kept_together (parts_of_expression i) front (kept_left (parts_of_expression i) (parts_of_steps more) k3)
          (front_kept (field_step g rest) f fields (kept_right (parts_of_expression i) (parts_of_steps more) k3)) in
          let outer = kept_together (parts_of_expression e) (node ∷ (parts_of_expression i ++ front)) (kept_left (parts_of_expression e) (node ∷ second) k1)
          (kept_with node second (parts_of_expression i ++ front) k2 inner) in
          kept_with node first (node ∷ (parts_of_expression e ++ (node ∷ (parts_of_expression i ++ front)))) k
          (kept_with node first (parts_of_expression e ++ (node ∷ (parts_of_expression i ++ front))) k outer)

  -- ---- assignments

  -- its steps behind two indices
  part_behind : (s : Scope) (line : ℕ) (n : Name) (e i : Expression) (more : Steps) (h : How) (y : Expression) → are_written_steps (at_step e (at_step i more)) ≡ true →
      is_written_expression y ≡ true → AreKept (parts_of_steps (at_step e (at_step i more))) → AreKept (parts_of_expression y) → IsSoundScope s → Ready s →
      first_of_form tree task s (assign_form n (at_step e (at_step i more)) h y) ≡ None → first_in_target tree task s n (at_step e (at_step i more)) ≡ None →
      (more ≡ no_step → ⊥) → IsTypedForm forms (here s line) (assign_form n (at_step e (at_step i more)) h y)
  part_behind s line n e i no_step h y lo lo_y k k_y scope names none target some = absurd (some refl)
  part_behind s line n e i (at_step d rest) h y lo lo_y k k_y scope names none target some =
      absurd (no_third tree task sound sound_task local params result s line n e i d rest (elements_local e i (at_step d rest) lo)
      (kept_front n e (at_step i no_step) (at_step d rest) k) scope names target)
  part_behind s line n e i (field_step f no_step) h y lo lo_y k k_y scope names none target some =
      place_local s line n e i f h y lo_y k_y scope names none (place_is s line n e i f (elements_local e i (field_step f no_step) lo) k scope names target)
  part_behind s line n e i (field_step f (field_step g rest)) h y lo lo_y k k_y scope names none target some =
      let own = elements_local e i (field_step f (field_step g rest)) lo in
      let fields = fields_behind tree task sound sound_task local params result s line n (at_step e (at_step i no_step)) (field_step g rest) f own
      (kept_front n e (at_step i no_step) (field_step f (field_step g rest)) k) tt scope names target in
      by h (part_target s line n e i f g rest own fields k scope names target) none
    where
      by : (h : How) → IsTarget tree task sound sound_task local params result s line n (with_field e i f (field_step g rest)) rest →
          first_of_form tree task s (assign_form n (with_field e i f (field_step g rest)) h y) ≡ None →
          IsTypedForm forms (here s line) (assign_form n (with_field e i f (field_step g rest)) h y)
      by how.Set p none = set_local tree task sound sound_task local params result s line n (with_field e i f (field_step g rest)) rest y lo_y k_y scope names none p
      by (how.Reduce o) p none = reduce_local tree task sound sound_task local params result s line n (with_field e i f (field_step g rest)) rest o y lo_y k_y scope names none p
  part_behind s line n e i (field_step f (at_step d rest)) h y lo lo_y k k_y scope names none target some =
      absurd (no_way_back (fields_behind tree task sound sound_task local params result s line n (at_step e (at_step i no_step)) (at_step d rest) f
      (elements_local e i (field_step f (at_step d rest)) lo) (kept_front n e (at_step i no_step) (field_step f (at_step d rest)) k) tt scope names target))

  pub part_local : (s : Scope) (line : ℕ) (n : Name) (e i : Expression) (more : Steps) (h : How) (y : Expression) →
      is_written_form (assign_form n (at_step e (at_step i more)) h y) ≡ true → AreKept (parts_of_form (assign_form n (at_step e (at_step i more)) h y)) →
      IsSoundScope s → Ready s → first_of_form tree task s (assign_form n (at_step e (at_step i more)) h y) ≡ None → (more ≡ no_step → ⊥) →
      IsTypedForm forms (here s line) (assign_form n (at_step e (at_step i more)) h y)
  part_local s line n e i more h y lo k scope names none some =
      let steps = at_step e (at_step i more) in
      let both = and_parts (are_written_steps steps) (is_written_expression y) lo in
      part_behind s line n e i more h y both.0 both.1 (kept_left (parts_of_steps steps) (parts_of_expression y) k) (kept_right (parts_of_steps steps) (parts_of_expression y) k)
      scope names none (target_of_form tree task s sound scope (assign_form n steps h y) none) some
