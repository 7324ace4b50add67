-- Accesses to fields at points of regions that have names, of which no breach is told, are granted.
use Rattle.std.proofs.Common.{◌≡◌, inl, inr, ℕ, ◌<◌, List, [], ◌∷◌, Bool, true, false, ◌&&◌, ◌||◌, not, None, Some, refl, sym, ap, ◌∙◌, subst, cond, arith, Option}
use Rattle.std.specs.Prelude.{bytes_eq, flat_map, length, ◌+◌, suc}
use Rattle.std.specs.List.{position_or_len}
use Rattle.std.specs.List.{list_all, list_any}
use Rattle.std.proofs.lemmas.Bool.{and_parts, not-false}
use Rattle.plain_values.proofs.Plain.{option_or_parts}
use Rattle.regent_tree.specs.Accesses.{space_in}
use Rattle.regent_tree.specs.Lookup.{has_field, is_bound}
use Rattle.regent_tree.specs.Scopes.{Scope}
use Rattle.regent_tree.specs.StaticTypes.{field_place, space_at}
use Rattle.regent_tree.specs.Syntax.{Expression, Form, Name, TaskTree, Tree, access_expr, assign_form, at_step, field_step, fill_form, Initializer, no_step, var_form}
use Rattle.regent_tree.specs.Typing.{type_of_element}
use Rattle.regent_tree.specs.declared.rights.Access.{Access}
use Rattle.regent_tree.specs.declared.rights.Access.TheVariants as access
use Rattle.regent_tree.specs.declared.types.TypeTerm.{TypeTerm}
use Rattle.regent_tree.specs.declared.statement.How.{How}
use Rattle.regent_tree.specs.declared.statement.How.TheVariants as how
use Rattle.regent_tree.specs.declared.typing.StaticType.{StaticType}
use Rattle.regent_tree.proofs.Members.{Has}
use Rattle.check_rules.specs.rules.Names.{unbound_name_in_initializer}
use Rattle.check_rules.specs.rules.Partitions.{mispartitions_initializer}
use Rattle.check_rules.specs.rules.Partitions.{miscolours_initializer}
use Rattle.check_rules.specs.scopes.Variables.{types_in_initializer}
use Rattle.check_rules.specs.scopes.Variables.{written_in_initializer}
use Rattle.check_rules.specs.Breaches.{has_no_type, wrong_initializer_at}
use Rattle.check_rules.specs.rules.Names.{unbound_name_in_form}
use Rattle.check_rules.specs.rules.Statements.{standing_in_form}
use Rattle.check_rules.specs.rules.Targets.{mistargets_form}
use Rattle.check_rules.specs.rules.Formats.{misprints_form}
use Rattle.check_rules.specs.scopes.Visits.{call_of_form, declared_at, heads_of, initializer_at}
use Rattle.check_rules.specs.first.FirstInExpressions.{first_in_expression, first_in_type, first_of_call, first_of_standing, first_of_step, first_of_taking}
use Rattle.check_rules.specs.first.FirstInStatements.{first_in_targets, first_of_form, first_of_initializer}
use Rattle.check_rules.specs.first.Rules.{first_in, rule_if}
use Rattle.check_rules.specs.rules.Privileges.{lacks, may_do, reads_in_initializer, reductions_by, rights_declared, wanted_of_region, wanted_of_step, wanting, writes_by}
use Rattle.check_rules.specs.scopes.Sound.{IsSound}
use Rattle.check_rules.specs.types.KnownTypes.{known_type, known_type_after_step}
use Rattle.check_rules.specs.types.Sorts.{is_number}
use Rattle.check_rules.specs.types.TypedForms.{element_of, field_of}
use Rattle.check_rules.specs.declared.rule.Rule.TheVariants as rule
use Rattle.check_rules.proofs.Untold.{rule_none}
use Rattle.check_laws.specs.SoundScopes.{IsSoundScope}
use Rattle.check_laws.proofs.Blocks.{head_known}
use Rattle.check_laws.proofs.Variables.{target_of_form}
use Rattle.expression_laws.proofs.Calls.{flat_has}
use Rattle.expression_laws.proofs.Steps.{all_has}
use Rattle.code_rules.specs.Slots.{Where, bound, typed}
use Rattle.code_laws.specs.Pointers.{counts_number, counts_pointer, IsCounting}
use Rattle.code_laws.specs.Simple.{IsRegion, a_region_type}
use Rattle.code_laws.proofs.LocalPlaces.{taking_told}
use Rattle.code_laws.proofs.LocalTypes.{number_is}
use Rattle.lane_kernels.specs.declared.numbers.Op.{Op}
use Rattle.regent_tree.specs.declared.types.Param.{Param}
use Rattle.regent_tree.specs.declared.typing.StaticType.TheVariants.{Region as region_type}
use Rattle.task_code.specs.declared.code.TaskCode.{TaskCode}
use Rattle.check_rules.specs.types.Params.{type_unless}
use Rattle.sound_code.specs.Ways.{Way, all_made, by_rules}
use Rattle.sound_code.proofs.Grounds.{Ground}
use Rattle.sound_code.proofs.Granting.{May, term_in}
use Rattle.sound_code.proofs.Told.{Told, ToldForm}

-- ---- lists

-- what stands before the end of a list is there
pub below_any : {A : Type 0} (p : A → Bool) (xs : List A) → position_or_len p xs < length xs → list_any p xs ≡ true
below_any p [] l = absurd (omega (arith, l))
below_any p (x ∷ xs) l = chosen (p x) l (below_any p xs)
  where
    chosen : (b : Bool) → cond (not b) (1 + position_or_len p xs) 0 < suc (length xs) → (position_or_len p xs < length xs → list_any p xs ≡ true) →
        (b || list_any p xs) ≡ true
    chosen true l more = refl
    chosen false l more = more (omega (arith, l))

-- ---- statements

module _ (tree : Tree) (task : TaskTree) (s : Scope) where
  -- what a statement writes and reduces isn't lacking
  pub not_lacking : (form : Form) → first_of_form tree task s form ≡ None →
      (lacks tree task s (writes_by tree s form) ≡ false) × (lacks tree task s (reductions_by tree s form) ≡ false)
  not_lacking form e =
      let a = option_or_parts (first_in (first_in_type tree s.names) (declared_at form)) _ e in
      let b = option_or_parts (rule_if (has_no_type form) rule.Type) _ a.1 in
      let c = option_or_parts (first_in (first_in_expression tree task s) (heads_of s.names form)) _ b.1 in
      let d = option_or_parts (first_in_targets tree task s form) _ c.1 in
      let f = option_or_parts (rule_if (unbound_name_in_form tree s.names form) rule.Name) _ d.1 in
      let g = option_or_parts (first_in (first_of_initializer tree task s) (initializer_at form)) _ f.1 in
      let h = option_or_parts (first_in (first_of_call tree task s) (call_of_form tree s form)) _ g.1 in
      let i = option_or_parts (first_in (first_of_standing s.known) (standing_in_form tree task s form)) _ h.1 in
      let k = option_or_parts (rule_if (wrong_initializer_at tree s form) rule.Place) _ i.1 in
      let l = option_or_parts (rule_if (mistargets_form tree task s form) rule.Target) _ k.1 in
      let m = option_or_parts (rule_if (misprints_form tree s form) rule.Format) _ l.1 in
      let n = option_or_parts (rule_if (lacks tree task s (writes_by tree s form)) rule.Write) _ m.1 in
      let o = option_or_parts (rule_if (lacks tree task s (reductions_by tree s form)) rule.Reduce) _ n.1 in (
        rule_none (lacks tree task s (writes_by tree s form)) rule.Write n.0,
        rule_none (lacks tree task s (reductions_by tree s form)) rule.Reduce o.0,
      )

-- ---- an element of a region that has a name

counting_is : (t : StaticType) → IsCounting t → is_number t ≡ true
counting_is t (counts_number _ h) = number_is t h
counting_is _ (counts_pointer k sp args rs) = refl

module _ (w : Where) (n : Name) (e : Expression) (f : Name) (number : IsCounting (typed w e)) (is : IsRegion (bound w n).static_type) where
  -- what is taken of it
  abbrev taken : StaticType → StaticType
  taken u = known_type_after_step w.tree (element_of u (known_type w.tree w.scope e)) (type_of_element w.scope u e)

  abbrev place : StaticType → ℕ
  place u = field_place w.tree (space_in u) f

  module _ (task : TaskTree) (sound : IsSound w.tree) where
    granted : IsSoundScope w.scope → first_in_expression w.tree task w.scope e ≡ None → (u : StaticType) → IsRegion u → (a : Access) →
        first_of_taking w.tree (field_of (taken u) f) ≡ None → lacks w.tree task w.scope (wanted_of_step w.tree a (field_of (taken u) f)) ≡ false →
        may_do (rights_declared w.tree task) w.scope.known (wanting (place u) a (term_in u)) ≡ true
    granted scope told _ (a_region_type q sp args r) a none lacking =
        let u = region_type q sp args r in
        let num : is_number (known_type w.tree w.scope e) ≡ true = ap is_number (head_known w.tree task sound w.scope scope e told).1 ∙ counting_is _ number in
        let same : taken u ≡ type_of_element w.scope u e =
        ap (λ b. type_unless (not b || false || false || false) (type_of_element w.scope u e)) num in
        let there = not-false (has_field w.tree sp f)
        (taking_told w.tree (field_of (type_of_element w.scope u e) f) (subst (λ y. first_of_taking w.tree (field_of y f) ≡ None) same none)).0 in
        let known : lacks w.tree task w.scope (wanted_of_step w.tree a (field_of (type_of_element w.scope u e) f)) ≡ false =
        subst (λ y. lacks w.tree task w.scope (wanted_of_step w.tree a (field_of y f)) ≡ false) same lacking in
        let all : lacks w.tree task w.scope (wanting (place u) a r ∷ []) ≡ false =
        ap (λ b. lacks w.tree task w.scope (cond (b && true) (wanting (place u) a r ∷ []) [])) (sym there) ∙ known in
        (and_parts (may_do (rights_declared w.tree task) w.scope.known (wanting (place u) a r)) true (not-false _ all)).0

    read_granted : IsSoundScope w.scope → first_in_expression w.tree task w.scope (access_expr n (at_step e (field_step f no_step))) ≡ None →
        may_do (rights_declared w.tree task) w.scope.known (wanting (place (bound w n).static_type) access.Read (term_in (bound w n).static_type)) ≡ true
    read_granted scope h =
        let a = option_or_parts (rule_if (not (is_bound w.scope.names n)) rule.Name) _ h in
        let b = option_or_parts (first_in_expression w.tree task w.scope e) _ a.1 in
        let c = option_or_parts (first_of_step w.tree task w.scope (element_of (bound w n).static_type (known_type w.tree w.scope e))) _ b.1 in
        let d = option_or_parts (first_of_step w.tree task w.scope (field_of (taken (bound w n).static_type) f)) _ c.1 in
        let s = option_or_parts (first_of_taking w.tree (field_of (taken (bound w n).static_type) f)) _ d.0 in
        granted scope b.0 (bound w n).static_type is access.Read s.0 (rule_none _ rule.Read s.1)

    -- a target
    pub target_parts : (o : How) (y : Expression) (scope : IsSoundScope w.scope) →
        first_of_form w.tree task w.scope (assign_form n (at_step e (field_step f no_step)) o y) ≡ None →
        (first_in_expression w.tree task w.scope e ≡ None) × (first_of_taking w.tree (field_of (taken (bound w n).static_type) f) ≡ None)
    target_parts o y scope h =
        let t = target_of_form w.tree task w.scope sound scope (assign_form n (at_step e (field_step f no_step)) o y) h in
        let a = option_or_parts (rule_if (not (is_bound w.scope.names n)) rule.Name) _ t in
        let b = option_or_parts (first_in_expression w.tree task w.scope e) _ a.1 in
        let c = option_or_parts (first_of_step w.tree task w.scope (element_of (bound w n).static_type (known_type w.tree w.scope e))) _ b.1 in
        (b.0, c.1)

  module _ (t : TaskCode) (way : Way) (ground : Ground t way w.tree w.params w.scope) where
    pub may_read : Told way w.tree w.scope (access_expr n (at_step e (field_step f no_step))) →
        May way w.tree w.scope (bound w n).static_type (place (bound w n).static_type) access.Read
    may_read h = by way ground h
      where
        by : (way : Way) → Ground t way w.tree w.params w.scope → Told way w.tree w.scope (access_expr n (at_step e (field_step f no_step))) →
            May way w.tree w.scope (bound w n).static_type (place (bound w n).static_type) access.Read
        by all_made g h = tt
        by (by_rules tops task) g h = read_granted task g.sound h.0 h.1

    pub told_index : (o : How) (y : Expression) → ToldForm way w.tree w.scope (assign_form n (at_step e (field_step f no_step)) o y) →
        Told way w.tree w.scope e
    told_index o y h = by way ground h
      where
        by : (way : Way) → Ground t way w.tree w.params w.scope → ToldForm way w.tree w.scope (assign_form n (at_step e (field_step f no_step)) o y) →
            Told way w.tree w.scope e
        by all_made g h = tt
        by (by_rules tops task) g h = (h.1.scope, (target_parts task g.sound o y h.1.scope h.1.form).0)

    pub may_write : (y : Expression) → ToldForm way w.tree w.scope (assign_form n (at_step e (field_step f no_step)) how.Set y) →
        May way w.tree w.scope (bound w n).static_type (place (bound w n).static_type) access.Write
    may_write y h = by way ground h
      where
        by : (way : Way) → Ground t way w.tree w.params w.scope → ToldForm way w.tree w.scope (assign_form n (at_step e (field_step f no_step)) how.Set y) →
            May way w.tree w.scope (bound w n).static_type (place (bound w n).static_type) access.Write
        by all_made g h = tt
        by (by_rules tops task) g h =
            let parts = target_parts task g.sound how.Set y h.1.scope h.1.form in
            granted task g.sound h.1.scope parts.0 (bound w n).static_type is access.Write parts.1
            (not_lacking w.tree task w.scope (assign_form n (at_step e (field_step f no_step)) how.Set y) h.1.form).0

    pub may_reduce : (o : Op) (y : Expression) → ToldForm way w.tree w.scope (assign_form n (at_step e (field_step f no_step)) (how.Reduce o) y) →
        May way w.tree w.scope (bound w n).static_type (place (bound w n).static_type) (access.Reduce o)
    may_reduce o y h = by way ground h
      where
        by : (way : Way) → Ground t way w.tree w.params w.scope → ToldForm way w.tree w.scope (assign_form n (at_step e (field_step f no_step)) (how.Reduce o) y) →
            May way w.tree w.scope (bound w n).static_type (place (bound w n).static_type) (access.Reduce o)
        by all_made g h = tt
        by (by_rules tops task) g h =
            let parts = target_parts task g.sound (how.Reduce o) y h.1.scope h.1.form in
            granted task g.sound h.1.scope parts.0 (bound w n).static_type is (access.Reduce o) parts.1
            (not_lacking w.tree task w.scope (assign_form n (at_step e (field_step f no_step)) (how.Reduce o) y) h.1.form).1

-- ---- fills

-- each of these fields of a region of a type may be written
abbrev pub MayFill : Way → Tree → Scope → StaticType → List Name → Type 0
MayFill all_made tree s u fs = Unit {0}
MayFill (by_rules tops task) tree s u fs = (f : Name) → Has fs f → has_field tree (space_in u) f ≡ true →
    may_do (rights_declared tree task) s.known (wanting (field_place tree (space_in u) f) access.Write (term_in u)) ≡ true

pub may_fill : (way : Way) (w : Where) (r : Name) (fs : List Name) (e : Expression) → IsRegion (bound w r).static_type →
    ToldForm way w.tree w.scope (fill_form r fs e) → MayFill way w.tree w.scope (bound w r).static_type fs
may_fill all_made w r fs e is h = tt
may_fill (by_rules tops task) w r fs e is h = each (bound w r).static_type is (not_lacking w.tree task w.scope (fill_form r fs e) h.1.form).0
  where
    each : (u : StaticType) → IsRegion u → lacks w.tree task w.scope (flat_map (wanted_of_region w.tree access.Write u) fs) ≡ false →
        (f : Name) → Has fs f → has_field w.tree (space_in u) f ≡ true →
        may_do (rights_declared w.tree task) w.scope.known (wanting (field_place w.tree (space_in u) f) access.Write (term_in u)) ≡ true
    each _ (a_region_type q sp args r) lacking f i there =
        let u = region_type q sp args r in
        all_has (may_do (rights_declared w.tree task) w.scope.known) (flat_map (wanted_of_region w.tree access.Write u) fs)
        (wanting (field_place w.tree sp f) access.Write r) (not-false _ lacking)
        (flat_has (wanted_of_region w.tree access.Write u) fs f (wanting (field_place w.tree sp f) access.Write r) i
        (subst (λ b. Has (cond b (wanting (field_place w.tree sp f) access.Write r ∷ []) []) (wanting (field_place w.tree sp f) access.Write r)) (sym there) (inl refl)))

pub may_fill_first : (way : Way) (tree : Tree) (s : Scope) (u : StaticType) (f : Name) (fs : List Name) → MayFill way tree s u (f ∷ fs) →
    field_place tree (space_in u) f < length (space_at tree (space_in u)).fields →
    May way tree s u (field_place tree (space_in u) f) access.Write × MayFill way tree s u fs
may_fill_first all_made tree s u f fs h l = (tt, tt)
may_fill_first (by_rules tops task) tree s u f fs h l =
    (h f (inl refl) (below_any (λ (p : Param). bytes_eq p.name f) (space_at tree (space_in u)).fields l), λ k i. h k (inr i))

-- ---- fields that partitions are made by

-- the field by which a partition of a region of a type is made may be read
pub may_scan : (way : Way) (w : Where) (x : Name) (st : Option TypeTerm) (r f : Name) (init : Initializer) → IsRegion (bound w r).static_type →
    field_place w.tree (space_in (bound w r).static_type) f < length (space_at w.tree (space_in (bound w r).static_type)).fields →
    reads_in_initializer w.tree w.scope.names init ≡ wanted_of_region w.tree access.Read (bound w r).static_type f →
    ToldForm way w.tree w.scope (var_form x st (Some init)) →
    May way w.tree w.scope (bound w r).static_type (field_place w.tree (space_in (bound w r).static_type) f) access.Read
may_scan all_made w x st r f init is l same h = tt
may_scan (by_rules tops task) w x st r f init is l same h =
    of (bound w r).static_type is l (subst (λ ws. lacks w.tree task w.scope ws ≡ false) same (rule_none _ rule.Read (scanned h.1.form)))
  where
    scanned : first_of_form w.tree task w.scope (var_form x st (Some init)) ≡ None →
        rule_if (lacks w.tree task w.scope (reads_in_initializer w.tree w.scope.names init)) rule.Read ≡ None
    scanned q =
        let form = var_form x st (Some init) in
        let a = option_or_parts (first_in (first_in_type w.tree w.scope.names) (declared_at form)) _ q in
        let b = option_or_parts (rule_if (has_no_type form) rule.Type) _ a.1 in
        let c = option_or_parts (first_in (first_in_expression w.tree task w.scope) (heads_of w.scope.names form)) _ b.1 in
        let d = option_or_parts (first_in_targets w.tree task w.scope form) _ c.1 in
        let u = option_or_parts (rule_if (unbound_name_in_form w.tree w.scope.names form) rule.Name) _ d.1 in
        let i = option_or_parts (first_in (first_of_initializer w.tree task w.scope) (init ∷ [])) _ u.1 in
        let o = option_or_parts (first_of_initializer w.tree task w.scope init) _ i.0 in
        let v = option_or_parts (first_in (first_in_type w.tree w.scope.names) (written_in_initializer init)) _ o.0 in
        let y = option_or_parts (rule_if (unbound_name_in_initializer w.tree w.scope.names init) rule.Name) _ v.1 in
        let z = option_or_parts (rule_if (mispartitions_initializer w.tree w.scope init) rule.Partition) _ y.1 in
        let n = option_or_parts (rule_if (miscolours_initializer init (types_in_initializer w.tree w.scope init)) rule.Partition) _ z.1 in
        (option_or_parts (rule_if (lacks w.tree task w.scope (reads_in_initializer w.tree w.scope.names init)) rule.Read) _ n.1).0

    of : (u : StaticType) → IsRegion u → field_place w.tree (space_in u) f < length (space_at w.tree (space_in u)).fields →
        lacks w.tree task w.scope (wanted_of_region w.tree access.Read u f) ≡ false →
        may_do (rights_declared w.tree task) w.scope.known (wanting (field_place w.tree (space_in u) f) access.Read (term_in u)) ≡ true
    of _ (a_region_type k sp args q) l none =
        let there : has_field w.tree sp f ≡ true = below_any (λ (p : Param). bytes_eq p.name f) (space_at w.tree sp).fields l in
        let all = subst (λ b. list_all (may_do (rights_declared w.tree task) w.scope.known) (cond b (wanting (field_place w.tree sp f) access.Read q ∷ []) []) ≡ true) there (not-false _ none) in
        (and_parts (may_do (rights_declared w.tree task) w.scope.known (wanting (field_place w.tree sp f) access.Read q)) true all).0
