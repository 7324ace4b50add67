-- Variables that begin with images and preimages, of which no breach is told, are typed: what the
-- field is read for lies within the field's region.
use Rattle.std.proofs.Common.{◌≡◌, Bool, List, None, Option, Some, false, true, refl, ap, subst, ℕ, not}
use Rattle.std.specs.Prelude.{◌&&◌, ◌||◌}
use Rattle.std.proofs.lemmas.Bool.{and_from, not-false, or_parts}
use Rattle.plain_values.proofs.Plain.{option_or_parts}
use Rattle.regent_tree.specs.Facts.{is_subregion}
use Rattle.regent_tree.specs.Lookup.{type_named}
use Rattle.regent_tree.specs.Partitions.{image_flag, preimage_flag}
use Rattle.regent_tree.specs.Scopes.{Scope, bound_as, bound_to}
use Rattle.regent_tree.specs.Syntax.{Initializer, Name, TaskTree, Tree, image_initializer, preimage_initializer, var_form}
use Rattle.regent_tree.specs.Typing.{is_disjoint, parent_of}
use Rattle.regent_tree.specs.declared.facts.Known.{Known}
use Rattle.regent_tree.specs.declared.facts.Term.TheVariants as place
use Rattle.regent_tree.specs.declared.rights.Access.TheVariants as access
use Rattle.regent_tree.specs.declared.types.TypeTerm.{TypeTerm}
use Rattle.regent_tree.specs.declared.typing.Bound.{Bound}
use Rattle.regent_tree.specs.declared.typing.StaticType.{StaticType}
use Rattle.check_laws.proofs.Scopes.{found_by_number}
use Rattle.check_laws.proofs.Variables.{parts_of_form as told_of_form}
use Rattle.check_laws.specs.SoundScopes.{IsSoundScope}
use Rattle.check_rules.specs.first.FirstInStatements.{first_of_form, first_of_initializer}
use Rattle.check_rules.specs.rules.Names.{is_unknown_region_field}
use Rattle.check_rules.specs.rules.Partitions.{is_outside, parent_is_outside, tells_points}
use Rattle.check_rules.specs.rules.Privileges.{lacks, wanted_of_region}
use Rattle.check_rules.specs.scopes.Sound.{IsSound, IsSoundTask}
use Rattle.check_rules.specs.types.Declarations.{known_field, is_no_result_type}
use Rattle.check_rules.specs.types.Lookup.{names_a, region_has}
use Rattle.check_rules.specs.types.Sorts.{is_partition, is_region, is_unknown_type}
use Rattle.code_rules.specs.Slots.{Where}
use Rattle.code_laws.specs.Arguments.{LiesBelow}
use Rattle.code_laws.specs.Handing.{forms_by, takes_by}
use Rattle.code_laws.specs.Simple.{IsPartition, IsRegion, a_partition_type, a_region_type, term_in}
use Rattle.code_laws.specs.Steps.{Forms}
use Rattle.code_laws.specs.Typed.{IsScanned}
use Rattle.code_laws.proofs.KnownHeads.{IsReady}
use Rattle.code_laws.proofs.LocalBegan.{below_told}
use Rattle.code_laws.proofs.LocalCalls.{kept_term}
use Rattle.code_laws.proofs.LocalCuts.{Begins, HasPartition, HasRegion, cut_begun, has_partition, has_region, region_there, scanned, untold}
use Rattle.code_laws.proofs.LocalNames.{IsLocalTree, parent_among, region_of_number}
use Rattle.code_laws.proofs.LocalParts.{and_then}
use Rattle.code_laws.proofs.LocalVariables.{at}
use Rattle.code_laws.proofs.Typing.{no_way_back}

-- a region lies within another where it isn't told to be outside
within_told : (known : List Known) (i : ℕ) (t : StaticType) → IsRegion t → is_outside known i t ≡ false → is_subregion known (place.Name i) (term_in t) ≡ true
within_told known i _ (a_region_type k sp args r) e = not-false (is_subregion known (place.Name i) r) e

-- so does a partition's parent
parent_told : (known : List Known) (t u : StaticType) → IsPartition t → parent_is_outside known t u ≡ false → is_outside known (parent_of t) u ≡ false
parent_told known _ u (a_partition_type d r p) e = e

region_known : (t : StaticType) → IsRegion t → is_unknown_type t ≡ false
region_known _ (a_region_type k sp args r) = refl

module _ (tree : Tree) (task : TaskTree) (sound : IsSound tree) (sound_task : IsSoundTask tree task)
    (local : IsLocalTree tree) (params : ℕ) (result : is_no_result_type task.result ≡ false) where
  abbrev forms : Forms
  forms = forms_by true true tree task

  abbrev Ready : Scope → Type 0
  Ready s = IsReady tree task s

  abbrev here : Scope → ℕ → Where
  here s line = at tree task sound sound_task local params result s line

  abbrev Starts : Scope → ℕ → Name → Option TypeTerm → Initializer → Type 0
  Starts s line n t i = Begins tree task sound sound_task local params result s line n t i

  abbrev Region : Scope → Name → Type 0
  Region s r = HasRegion tree task sound sound_task local params result s r

  abbrev Cut : Scope → Name → Type 0
  Cut s p = HasPartition tree task sound sound_task local params result s p

  -- what the names of an image or a preimage have: the new partition's region, the partition, and the region of the field
  record AreMapped (s : Scope) (line : ℕ) (a p r f : Name) : Type 0 where
    parent : Region s a
    cut : Cut s p
    source : Region s r
    scan : IsScanned forms (here s line) r f

  mapped : (s : Scope) (line : ℕ) (a p r f : Name) → IsSoundScope s → Ready s →
      (not (names_a is_region s.names a) || not (names_a is_partition s.names p) || is_unknown_region_field tree s.names r f) ≡ false →
      lacks tree task s (wanted_of_region tree access.Read (type_named s.names r) f) ≡ false → AreMapped s line a p r f
  mapped s line a p r f scope names unknown lacking =
      let both = or_parts (not (names_a is_region s.names a) || not (names_a is_partition s.names p)) (is_unknown_region_field tree s.names r f) unknown in
      let first = or_parts (not (names_a is_region s.names a)) (not (names_a is_partition s.names p)) both.0 in
      let known = or_parts (not (names_a is_region s.names r)) (not (region_has tree (type_named s.names r) f)) both.1 in
      let h = has_region tree task sound sound_task local params result s r names (not-false (names_a is_region s.names r) known.0) in record {
        parent = has_region tree task sound sound_task local params result s a names (not-false (names_a is_region s.names a) first.0);
        cut = has_partition tree task sound sound_task local params result s p names (not-false (names_a is_partition s.names p) first.1);
        source = h;
        scan = scanned tree task sound sound_task local params result s line r f scope names h
            (not-false (region_has tree (type_named s.names r) f) known.1) lacking;
      }

  -- one region lies within another, by their numbers
  lies_below : (h : Bool) → h ≡ true → (s : Scope) (line : ℕ) → IsSoundScope s → Ready s → (i j : ℕ) (a b : Bound) → bound_as s.names i ≡ a → bound_as s.names j ≡ b →
      term_in a.static_type ≡ place.Name i → term_in b.static_type ≡ place.Name j → is_subregion s.known (place.Name i) (place.Name j) ≡ true →
      LiesBelow (takes_by h tree task) (here s line) a b
  lies_below false q s line scope names i j a b fa fb ta tb e = absurd (no_way_back q)
  lies_below true q s line scope names i j a b fa fb ta tb e = below_told task (here s line) names.head scope.numbers i j a b fa fb ta tb e

  -- the region of the field
  of_source : (s : Scope) (r : Name) → Region s r → term_in (bound_to s.names r).static_type ≡ place.Name (bound_to s.names r).number
  of_source s r h = kept_term true s.names (bound_to s.names r).number (bound_to s.names r).static_type h.kept h.region

  -- the points that a field names at those of a partition
  pub image_local : (s : Scope) (line : ℕ) (n : Name) (st : Option TypeTerm) (a p r f : Name) → IsSoundScope s → Ready s → first_of_form tree task s (var_form n st (Some (image_initializer a p r f))) ≡ None →
      Starts s line n st (image_initializer a p r f)
  image_local s line n st a p r f scope names e =
      let i = image_initializer a p r f in
      let parts = told_of_form tree task s sound scope (var_form n st (Some i)) e in
      let u = untold tree task sound sound_task local params result s i (option_or_parts (first_of_initializer tree task s i) _ parts.3).0 in
      let are = mapped s line a p r f scope names u.names u.reads in
      let t = (bound_to s.names p).static_type in
      let v = (bound_to s.names r).static_type in
      let among = (parent_among true s.names (bound_to s.names p).number t are.cut.kept are.cut.partition).0 in
      let parent = region_of_number s.next s.names (parent_of t) scope.numbers among in
      let inside = within_told s.known (parent_of t) v are.source.region (parent_told s.known t v are.cut.partition
      (or_parts (parent_is_outside s.known t v) (not (tells_points (known_field tree v f))) u.partitions).0) in
      let below = lies_below true refl s line scope names (parent_of t) (bound_to s.names r).number (bound_as s.names (parent_of t)) (bound_to s.names r) refl
      (found_by_number s.next s.names r scope.numbers are.source.there).0 parent.1 (of_source s r are.source)
      (subst (λ w. is_subregion s.known (place.Name (parent_of t)) w ≡ true) (of_source s r are.source) inside) in
      cut_begun tree task sound sound_task local params result s line n st i image_flag (bound_to s.names a).number scope names e refl refl
      (region_there tree task sound sound_task local params result s a are.parent) parts.4 (
        refl,
        record { named = are.parent.there; numbers = scope.numbers; region = are.parent.region },
        record { named = are.cut.there; numbers = scope.numbers; partition = are.cut.partition },
        are.scan,
        below,
      )

  -- the points at which a field names those of a partition
  pub preimage_local : (s : Scope) (line : ℕ) (n : Name) (st : Option TypeTerm) (a p r f : Name) → IsSoundScope s → Ready s → first_of_form tree task s (var_form n st (Some (preimage_initializer a p r f))) ≡ None →
      Starts s line n st (preimage_initializer a p r f)
  preimage_local s line n st a p r f scope names e =
      let i = preimage_initializer a p r f in
      let parts = told_of_form tree task s sound scope (var_form n st (Some i)) e in
      let u = untold tree task sound sound_task local params result s i (option_or_parts (first_of_initializer tree task s i) _ parts.3).0 in
      let are = mapped s line a p r f scope names u.names u.reads in
      let b = bound_to s.names a in
      let v = (bound_to s.names r).static_type in
      let d = preimage_flag (is_disjoint (bound_to s.names p).static_type) in
      let named = and_from (names_a is_region s.names a) (not (is_unknown_type b.static_type)) (and_from _ _ are.parent.there are.parent.may)
      (ap not (region_known b.static_type are.parent.region)) in
      let inside = within_told s.known b.number v are.source.region (and_then (names_a is_region s.names a && not (is_unknown_type b.static_type)) (is_outside s.known b.number v) named
      (or_parts (names_a is_region s.names a && not (is_unknown_type b.static_type) && is_outside s.known b.number v) (not (tells_points (known_field tree v f))) u.partitions).0) in
      let below = lies_below true refl s line scope names b.number (bound_to s.names r).number b (bound_to s.names r)
      (found_by_number s.next s.names a scope.numbers are.parent.there).0 (found_by_number s.next s.names r scope.numbers are.source.there).0
      (of_source s a are.parent) (of_source s r are.source)
      (subst (λ w. is_subregion s.known (place.Name b.number) w ≡ true) (of_source s r are.source) inside) in
      cut_begun tree task sound sound_task local params result s line n st i d b.number scope names e refl refl
      (region_there tree task sound sound_task local params result s a are.parent) parts.4 (
        refl,
        record { named = are.parent.there; numbers = scope.numbers; region = are.parent.region },
        record { named = are.cut.there; numbers = scope.numbers; partition = are.cut.partition },
        are.scan,
        below,
      )
