-- Variables that begin with partitions, of which no breach is told, are typed.
use Rattle.std.proofs.Common.{◌≡◌, Bool, [], None, Option, Some, false, true, refl, ℕ, not}
use Rattle.std.specs.Prelude.{◌||◌}
use Rattle.std.specs.List.{list_any}
use Rattle.std.proofs.lemmas.Bool.{and_parts, eqb-true, not-false, or_parts}
use Rattle.plain_values.proofs.Plain.{option_or_parts}
use Rattle.expression_laws.proofs.Steps.{all_has}
use Rattle.regent_tree.specs.Accesses.{space_in}
use Rattle.regent_tree.specs.Limits.{parts_of_expression}
use Rattle.regent_tree.specs.Lookup.{is_bound, type_named}
use Rattle.regent_tree.specs.Partitions.{both_flag, by_field_flag, either_flag, equal_flag}
use Rattle.regent_tree.specs.Scopes.{Scope, bound_to}
use Rattle.regent_tree.specs.StaticTypes.{field_place}
use Rattle.regent_tree.specs.Syntax.{Expression, Initializer, Name, TaskTree, Tree, both_initializer, by_field_initializer, either_initializer, equal_initializer, var_form}
use Rattle.regent_tree.specs.Typing.{initializer_type, is_disjoint, known_of_initializer, parent_of}
use Rattle.regent_tree.specs.declared.rights.Access.TheVariants as access
use Rattle.regent_tree.specs.declared.types.TypeTerm.{TypeTerm}
use Rattle.regent_tree.specs.declared.typing.StaticType.{StaticType}
use Rattle.regent_tree.specs.declared.typing.StaticType.TheVariants.{Partition as partition_type}
use Rattle.check_laws.proofs.Variables.{parts_of_form as told_of_form}
use Rattle.check_laws.specs.SoundScopes.{IsSoundScope}
use Rattle.check_rules.specs.declared.rule.Rule.TheVariants as rule
use Rattle.check_rules.proofs.Untold.{rule_none}
use Rattle.check_rules.specs.first.FirstInExpressions.{first_in_expression, first_in_type}
use Rattle.check_rules.specs.first.FirstInStatements.{first_of_form, first_of_initializer}
use Rattle.check_rules.specs.first.Rules.{first_in, rule_if}
use Rattle.check_rules.specs.rules.Names.{are_partitions, unbound_name_in_initializer}
use Rattle.check_rules.specs.rules.Partitions.{have_other_parents, miscolours_initializer, mispartitions_initializer}
use Rattle.check_rules.specs.rules.Privileges.{lacks, may_do, reads_in_initializer, rights_declared, wanted_of_region, wanting}
use Rattle.check_rules.specs.rules.Standing.{space_spot, stands}
use Rattle.check_rules.specs.rules.Types.{is_ill_typed_at_place}
use Rattle.check_rules.specs.scopes.Sound.{IsSound, IsSoundTask}
use Rattle.check_rules.specs.scopes.Variables.{known_initializer, stands_declared, types_in_initializer, variable_type, written_in_initializer}
use Rattle.check_rules.specs.types.KnownTypes.{known_type}
use Rattle.check_rules.specs.types.Lookup.{names_a, region_has}
use Rattle.check_rules.specs.types.Sorts.{is_partition, is_region, may_be}
use Rattle.code_laws.specs.WrittenForms.{is_written_expression}
use Rattle.code_laws.specs.Arguments.{ArePaired}
use Rattle.code_laws.specs.Handing.{forms_by}
use Rattle.code_laws.specs.Simple.{IsPartition, IsRegion, a_partition_type, term_in}
use Rattle.code_laws.specs.Steps.{Forms}
use Rattle.code_laws.specs.Typed.{IsBegunBy, IsScanned}
use Rattle.code_rules.specs.Slots.{Where}
use Rattle.code_laws.proofs.KnownHeads.{IsReady, kept_may}
use Rattle.code_laws.proofs.LocalCalls.{kept_term}
use Rattle.code_laws.proofs.LocalNames.{IsKept, IsLocalTree, named_kept, parent_among, partition_is}
use Rattle.code_laws.proofs.LocalPlaces.{field_is, region_is, spaced_name}
use Rattle.code_laws.proofs.LocalParts.{region_wants}
use Rattle.code_laws.proofs.LocalSaid.{cut_typed}
use Rattle.code_laws.proofs.LocalValues.{IsRegionAmong, bound_among}
use Rattle.code_laws.proofs.TypedStatements.{first_stands}
use Rattle.code_laws.proofs.Typing.{AreKept}
use Rattle.check_rules.specs.types.Declarations.{is_no_result_type}
use Rattle.code_laws.proofs.LocalVariables.{VarTyped, at, space_head}

-- two partitions have one parent where the rules don't tell otherwise
pub parents_same : (t u : StaticType) → IsPartition t → IsPartition u → have_other_parents t u ≡ false → parent_of t ≡ parent_of u
parents_same _ _ (a_partition_type d r p) (a_partition_type e s q) h = eqb-true r s (not-false _ h)

module _ (tree : Tree) (task : TaskTree) (sound : IsSound tree) (sound_task : IsSoundTask tree task)
    (local : IsLocalTree tree) (params : ℕ) (result : is_no_result_type task.result ≡ false) where
  abbrev forms : Forms
  forms = forms_by true true tree task

  abbrev Ready : Scope → Type 0
  Ready s = IsReady tree task s

  abbrev here : Scope → ℕ → Where
  here s line = at tree task sound sound_task local params result s line

  abbrev pub Begins : Scope → ℕ → Name → Option TypeTerm → Initializer → Type 0
  Begins s line n t i = VarTyped tree task sound sound_task local params result s line n t (Some i)

  -- ---- what is told of an initializer

  pub record IsUntold (s : Scope) (i : Initializer) : Type 0 where
    pub names : unbound_name_in_initializer tree s.names i ≡ false
    pub partitions : mispartitions_initializer tree s i ≡ false
    pub reads : lacks tree task s (reads_in_initializer tree s.names i) ≡ false

  pub untold : (s : Scope) (i : Initializer) → first_of_initializer tree task s i ≡ None → IsUntold s i
  untold s i e =
      let a = option_or_parts (first_in (first_in_type tree s.names) (written_in_initializer i)) _ e in
      let b = option_or_parts (rule_if (unbound_name_in_initializer tree s.names i) rule.Name) _ a.1 in
      let c = option_or_parts (rule_if (mispartitions_initializer tree s i) rule.Partition) _ b.1 in
      let d = option_or_parts (rule_if (miscolours_initializer i (types_in_initializer tree s i)) rule.Partition) _ c.1 in
      let f = option_or_parts (rule_if (lacks tree task s (reads_in_initializer tree s.names i)) rule.Read) _ d.1 in record {
        names = rule_none (unbound_name_in_initializer tree s.names i) rule.Name b.0;
        partitions = rule_none (mispartitions_initializer tree s i) rule.Partition c.0;
        reads = rule_none (lacks tree task s (reads_in_initializer tree s.names i)) rule.Read f.0;
      }

  -- ---- what names have

  -- a region
  pub record HasRegion (s : Scope) (r : Name) : Type 0 where
    pub there : is_bound s.names r ≡ true
    pub may : may_be is_region (type_named s.names r) ≡ true
    pub kept : IsKept true s.names (bound_to s.names r).number (bound_to s.names r).static_type
    pub region : IsRegion (bound_to s.names r).static_type

  pub has_region : (s : Scope) (r : Name) → Ready s → names_a is_region s.names r ≡ true → HasRegion s r
  has_region s r names e =
      let there = and_parts (is_bound s.names r) (may_be is_region (type_named s.names r)) e in
      let b = bound_to s.names r in
      let kept = named_kept true s.names r names.names there.0 in
      record { there = there.0; may = there.1; kept = kept; region = region_is tree sound local s.names names.names b.number b.static_type kept there.1 }

  -- which a partition may be of
  pub region_there : (s : Scope) (r : Name) → HasRegion s r → IsRegionAmong s.names (bound_to s.names r).number
  region_there s r h =
      let b = bound_to s.names r in record {
        named = b;
        among = bound_among s.names r h.there;
        number = refl;
        region = h.region;
        term = kept_term true s.names b.number b.static_type h.kept h.region;
      }

  -- a variable that begins with a partition
  pub cut_begun : (s : Scope) (line : ℕ) (n : Name) (t : Option TypeTerm) (i : Initializer) (d : Bool) (r : ℕ) →
      IsSoundScope s → Ready s → first_of_form tree task s (var_form n t (Some i)) ≡ None → initializer_type tree s s.next i ≡ partition_type d r s.next →
      known_of_initializer tree s s.next (Some i) ≡ [] → IsRegionAmong s.names r →
      list_any (is_ill_typed_at_place s.known) (stands_declared (known_initializer tree s i) t (variable_type tree s t (Some i))) ≡ false →
      IsBegunBy forms (here s line) i → Begins s line n t i
  cut_begun s line n t i d r = cut_typed tree task sound sound_task local params result s line n t i d r

  -- a partition
  pub record HasPartition (s : Scope) (n : Name) : Type 0 where
    pub there : is_bound s.names n ≡ true
    pub kept : IsKept true s.names (bound_to s.names n).number (bound_to s.names n).static_type
    pub partition : IsPartition (bound_to s.names n).static_type

  pub has_partition : (s : Scope) (n : Name) → Ready s → names_a is_partition s.names n ≡ true → HasPartition s n
  has_partition s n names e =
      let there = and_parts (is_bound s.names n) (may_be is_partition (type_named s.names n)) e in
      let b = bound_to s.names n in
      let kept = named_kept true s.names n names.names there.0 in
      record { there = there.0; kept = kept; partition = partition_is true s.names b.number b.static_type kept there.1 }

  -- a field of a region, which may be read
  pub scanned : (s : Scope) (line : ℕ) (r f : Name) → IsSoundScope s → Ready s → HasRegion s r → region_has tree (type_named s.names r) f ≡ true →
      lacks tree task s (wanted_of_region tree access.Read (type_named s.names r) f) ≡ false → IsScanned forms (here s line) r f
  scanned s line r f scope names h has lacking =
      let b = bound_to s.names r in
      let t = b.static_type in
      let field = field_is tree sound local s.names names.names b.number t f (spaced_name tree s.next s.names r scope.numbers h.there names.head.spaced) h.kept h.may has in record {
        parent = record { named = h.there; numbers = scope.numbers; region = h.region };
        field = field.field;
        may = kept_may tree task s sound_task names.head s.names b.number t h.kept h.region (field_place tree (space_in t) f) access.Read
            (all_has (may_do (rights_declared tree task) s.known) (wanted_of_region tree access.Read t f) (wanting (field_place tree (space_in t) f) access.Read (term_in t))
            (not-false _ lacking) (region_wants tree access.Read t f h.region has));
      }

  -- ---- partitions with a colour space

  -- equal parts of a region that has a name
  pub equal_local : (s : Scope) (line : ℕ) (n : Name) (t : Option TypeTerm) (r : Name) (y : Expression) → is_written_expression y ≡ true →
      AreKept (parts_of_expression y) → IsSoundScope s → Ready s → first_of_form tree task s (var_form n t (Some (equal_initializer r y))) ≡ None →
      Begins s line n t (equal_initializer r y)
  equal_local s line n t r y lo k scope names e =
      let i = equal_initializer r y in
      let parts = told_of_form tree task s sound scope (var_form n t (Some i)) e in
      let stood = first_stands s.known (stands (known_type tree s y) space_spot) (stands_declared (known_initializer tree s i) t (variable_type tree s t (Some i))) parts.4 in
      let c = space_head tree task sound sound_task local params result s line y lo k scope names (option_or_parts (first_in_expression tree task s y) _ parts.2).0 stood.0 in
      let u = untold s i (option_or_parts (first_of_initializer tree task s i) _ parts.3).0 in
      let h = has_region s r names (not-false (names_a is_region s.names r) u.names) in
      cut_begun s line n t i equal_flag (bound_to s.names r).number scope names e refl refl (region_there s r h) stood.1
      (refl, c.0, c.1, record { named = h.there; numbers = scope.numbers; region = h.region })

  -- by a field of it
  pub by_field_local : (s : Scope) (line : ℕ) (n : Name) (t : Option TypeTerm) (r f : Name) (y : Expression) → is_written_expression y ≡ true →
      AreKept (parts_of_expression y) → IsSoundScope s → Ready s → first_of_form tree task s (var_form n t (Some (by_field_initializer r f y))) ≡ None →
      Begins s line n t (by_field_initializer r f y)
  by_field_local s line n t r f y lo k scope names e =
      let i = by_field_initializer r f y in
      let parts = told_of_form tree task s sound scope (var_form n t (Some i)) e in
      let stood = first_stands s.known (stands (known_type tree s y) space_spot) (stands_declared (known_initializer tree s i) t (variable_type tree s t (Some i))) parts.4 in
      let c = space_head tree task sound sound_task local params result s line y lo k scope names (option_or_parts (first_in_expression tree task s y) _ parts.2).0 stood.0 in
      let u = untold s i (option_or_parts (first_of_initializer tree task s i) _ parts.3).0 in
      let known = or_parts (not (names_a is_region s.names r)) (not (region_has tree (type_named s.names r) f)) u.names in
      let h = has_region s r names (not-false (names_a is_region s.names r) known.0) in
      cut_begun s line n t i by_field_flag (bound_to s.names r).number scope names e refl refl (region_there s r h) stood.1
      (refl, c.0, c.1, scanned s line r f scope names h (not-false (region_has tree (type_named s.names r) f) known.1) u.reads)

  -- ---- partitions of two others

  -- two partitions that a set operation takes
  record IsPair (s : Scope) (line : ℕ) (p q : Name) : Type 0 where
    first : HasPartition s p
    are : ArePaired (here s line) p q

  paired : (s : Scope) (line : ℕ) (p q : Name) → IsSoundScope s → Ready s → not (are_partitions s.names p q) ≡ false →
      (have_other_parents (type_named s.names p) (type_named s.names q) || false) ≡ false → IsPair s line p q
  paired s line p q scope names unknown other =
      let there = and_parts (names_a is_partition s.names p) (names_a is_partition s.names q) (not-false (are_partitions s.names p q) unknown) in
      let a = has_partition s p names there.0 in
      let b = has_partition s q names there.1 in record {
        first = a;
        are = record {
          first = record { named = a.there; numbers = scope.numbers; partition = a.partition };
          second = record { named = b.there; numbers = scope.numbers; partition = b.partition };
          parents = parents_same (type_named s.names p) (type_named s.names q) a.partition b.partition
              (or_parts (have_other_parents (type_named s.names p) (type_named s.names q)) false other).0;
        };
      }

  -- the region of one
  parent_there : (s : Scope) (p : Name) → HasPartition s p → IsRegionAmong s.names (parent_of (bound_to s.names p).static_type)
  parent_there s p h = let b = bound_to s.names p in (parent_among true s.names b.number b.static_type h.kept h.partition).0

  pub both_local : (s : Scope) (line : ℕ) (n : Name) (t : Option TypeTerm) (p q : Name) → IsSoundScope s → Ready s → first_of_form tree task s (var_form n t (Some (both_initializer p q))) ≡ None →
      Begins s line n t (both_initializer p q)
  both_local s line n t p q scope names e =
      let i = both_initializer p q in
      let parts = told_of_form tree task s sound scope (var_form n t (Some i)) e in
      let u = untold s i (option_or_parts (first_of_initializer tree task s i) _ parts.3).0 in
      let pair = paired s line p q scope names u.names u.partitions in
      let d = both_flag (is_disjoint (bound_to s.names p).static_type) (is_disjoint (bound_to s.names q).static_type) in
      cut_begun s line n t i d (parent_of (bound_to s.names p).static_type) scope names e refl refl (parent_there s p pair.first) parts.4 (refl, pair.are)

  pub either_local : (s : Scope) (line : ℕ) (n : Name) (t : Option TypeTerm) (p q : Name) → IsSoundScope s → Ready s → first_of_form tree task s (var_form n t (Some (either_initializer p q))) ≡ None →
      Begins s line n t (either_initializer p q)
  either_local s line n t p q scope names e =
      let i = either_initializer p q in
      let parts = told_of_form tree task s sound scope (var_form n t (Some i)) e in
      let u = untold s i (option_or_parts (first_of_initializer tree task s i) _ parts.3).0 in
      let pair = paired s line p q scope names u.names u.partitions in
      cut_begun s line n t i either_flag (parent_of (bound_to s.names p).static_type) scope names e refl refl (parent_there s p pair.first) parts.4 (refl, pair.are)
