-- Variables that begin with a partition operation: the new partition is cut of its parent.
use Rattle.check_rules.proofs.Untold.{rule_none}
use Rattle.plain_values.proofs.Plain.{option_or_parts}
use Rattle.std.proofs.Common.{Bool, List, [], None, Option, Some, false, true, refl, ap, sym, subst, ℕ, ℤ, ◌≡◌, ◌∙◌, ◌<◌, ◌||◌, ◌==◌, inl, inr, get_or, length, not}
use Rattle.std.proofs.lemmas.Bool.{and_parts, eqb-true, not-false, or_cases, or_parts}
use Rattle.std.specs.List.Sorted.{IsStrictlyIncreasing}
use Rattle.std.specs.Prelude.{nat_le}
use Rattle.regent_tree.specs.Evaluation.{static_type_of, value}
use Rattle.regent_tree.specs.Initializers.{Column, colours, initialized, partitioned, read_all}
use Rattle.regent_tree.specs.Lookup.{has_field, is_bound, type_named}
use Rattle.regent_tree.specs.Partitions.{both_flag, by_field_flag, by_field_sets, either_flag, equal_flag, image_flag, image_sets, preimage_flag, preimage_sets}
use Rattle.regent_tree.specs.Running.{Here, State, fault, given, if_true}
use Rattle.regent_tree.specs.Scopes.{bound_to}
use Rattle.regent_tree.specs.Syntax.{Expression, Initializer, Name, TaskTree, both_initializer, by_field_initializer, either_initializer, equal_initializer, image_initializer, preimage_initializer, var_form}
use Rattle.regent_tree.specs.Typing.{initializer_type, is_disjoint, known_of_initializer, parent_of}
use Rattle.regent_tree.specs.Values.{Partition, Region, Value, a_partition, a_truth, partition_of, region_of, size_of}
use Rattle.regent_tree.specs.declared.facts.Known.{Known}
use Rattle.regent_tree.specs.declared.facts.Known.TheVariants.{PartOf}
use Rattle.regent_tree.specs.declared.facts.Term.TheVariants.{Name as term_name}
use Rattle.check_rules.specs.rules.Names.{unbound_name_in_initializer}
use Rattle.regent_tree.specs.declared.outcome.FaultKind.TheVariants.{BadSize}
use Rattle.regent_tree.specs.declared.rights.Access.TheVariants.{Read}
use Rattle.regent_tree.specs.declared.types.TypeTerm.{TypeTerm}
use Rattle.regent_tree.specs.declared.typing.Bound.{Bound}
use Rattle.regent_tree.specs.declared.typing.StaticType.{StaticType}
use Rattle.regent_tree.specs.declared.typing.StaticType.TheVariants.{Index as index_type, Integer as integer_type, Ispace as ispace_type, Nothing as no_type, Partition as partition_type, Pointer as pointer_type, Region as region_type, Truth as truth_type, Unknown as unknown_type}
use Rattle.check_rules.specs.first.FirstInExpressions.{first_in_expression}
use Rattle.check_rules.specs.first.FirstInStatements.{first_of_form, first_of_initializer}
use Rattle.check_rules.specs.first.Rules.{first_in, rule_if}
use Rattle.check_rules.specs.rules.Names.{is_unknown_region_field}
use Rattle.check_rules.specs.rules.Partitions.{have_other_parents, mispartitions_initializer}
use Rattle.check_rules.specs.rules.Privileges.{lacks, reads_in_initializer, wanted_of_region}
use Rattle.check_rules.specs.scopes.Variables.{expressions_in_initializer}
use Rattle.check_rules.specs.types.Fitting.{fits}
use Rattle.check_rules.specs.types.Lookup.{names_a, region_has}
use Rattle.check_rules.specs.types.Sorts.{is_partition, is_region, is_unknown_type}
use Rattle.check_rules.specs.declared.rule.Rule.TheVariants as rule
use Rattle.check_laws.proofs.Parts.{contrary}
use Rattle.check_laws.proofs.Scopes.{found_by_number}
use Rattle.check_laws.proofs.Variables.{both_named, named, parts_of_form}
use Rattle.fact_laws.specs.Regions.{Interpretation, StandsFor}
use Rattle.expression_laws.specs.Kinds.{IsNamedByOwnNumber, IsOfType, is_partition_of}
use Rattle.expression_laws.specs.Sound.{Instance, IsOfParent, IsSoundState, KeepsSound}
use Rattle.expression_laws.specs.Writing.{IsWritten}
use Rattle.expression_laws.proofs.Names.{named_fits, region_value, said_named}
use Rattle.expression_laws.proofs.Operators.{after}
use Rattle.expression_laws.proofs.Writes.{column_is}
use Rattle.statement_laws.specs.Places.{IsReady}
use Rattle.statement_laws.proofs.Leaves.{IsRegionType, region_like}
use Rattle.statement_laws.proofs.Loops.{evaluates}
use Rattle.statement_laws.proofs.Parts.{IsCut, both_cut, cut_known, either_cut, equal_cut, field_cut, image_cut, preimage_cut}

pub record IsPartitionType (t : StaticType) : Type 0 where
  pub disjoint : Bool
  pub parent : ℕ
  pub own : ℕ
  pub is : t ≡ partition_type disjoint parent own

pub partition_like : (t : StaticType) → is_partition t ≡ true → IsPartitionType t
partition_like (partition_type d r p) e = record { disjoint = d; parent = r; own = p; is = refl }
partition_like (region_type k s args t) e = absurd cc
partition_like (integer_type w) e = absurd cc
partition_like truth_type e = absurd cc
partition_like (index_type k) e = absurd cc
partition_like (pointer_type k s args terms) e = absurd cc
partition_like (ispace_type k) e = absurd cc
partition_like no_type e = absurd cc
partition_like unknown_type e = absurd cc

-- what a value of a partition's type is
partition_value : (m : Interpretation) (d : Bool) (r i : ℕ) (v : Value) → IsOfType m (partition_type d r i) v → m.partition i ≡ partition_of v
partition_value m d r i v (is_partition_of same) = same

-- a type that a partition's fits asks for no more
pub record IsAsked (d : Bool) (r own : ℕ) (wanted : StaticType) : Type 0 where
  pub asked : Bool
  pub is : wanted ≡ partition_type asked r own
  pub less : asked ≡ true → d ≡ true

pub asked_of : (known : List Known) (d : Bool) (r own : ℕ) (wanted : StaticType) → is_unknown_type wanted ≡ false → fits known (partition_type d r own) wanted ≡ true →
    IsNamedByOwnNumber own wanted → IsAsked d r own wanted
asked_of known d r own (partition_type e s p) k fit named =
    let both = and_parts (d || not e) (r == s) fit in
    let same = sym (eqb-true r s both.1) in record {
      asked = e;
      is = (λ j. partition_type e (same j) (named j));
      less = λ h. elim (or_cases d (not e) both.0) [ inl l ↦ l | inr n ↦ absurd (contrary (sym n ∙ ap not h)) ];
    }
asked_of known d r own (region_type k s args t) l fit named = absurd cc
asked_of known d r own (integer_type w) l fit named = absurd cc
asked_of known d r own truth_type l fit named = absurd cc
asked_of known d r own (index_type k) l fit named = absurd cc
asked_of known d r own (pointer_type k s args terms) l fit named = absurd cc
asked_of known d r own (ispace_type k) l fit named = absurd cc
asked_of known d r own no_type l fit named = absurd cc
asked_of known d r own unknown_type l fit named = absurd cc

module _ (task : TaskTree) (args : List Value) (roots : ℕ) where
  abbrev inst : Here → Instance
  inst h = record { tree = h.tree; calls = h.calls; task = task; args = args; roots = roots }

  abbrev pub had : Here → Name → State → Value
  had h n u = get_or u.names (bound_to h.scope.names n).place (a_truth false)

  abbrev number : Here → Name → ℕ
  number h n = (bound_to h.scope.names n).number

  -- ---- names of regions and of partitions

  record IsRegionName (h : Here) (m : Interpretation) (n : Name) : Type 0 where
    like : IsRegionType (type_named h.scope.names n)
    own : like.term ≡ term_name (number h n)
    less : number h n < h.scope.next
    is : (u : State) → IsSoundState (inst h) m h.scope u → m.region (number h n) ≡ region_of (had h n u)

  region_name : (h : Here) (m : Interpretation) → IsReady task args roots m h → (n : Name) → not (names_a is_region h.scope.names n) ≡ false → IsRegionName h m n
  region_name h m r n e =
      let s = h.scope in
      let bound = named h.tree task s r.sound r.scope is_region n e in
      let found = found_by_number s.next s.names n r.scope.numbers bound.0 in
      let said = said_named s r.scope r.static.well_scoped n bound.0 in
      let like = region_like (type_named s.names n) bound.1 in record {
        like = like;
        own = subst (IsNamedByOwnNumber (number h n)) like.is said.own;
        less = found.1;
        is = λ u st. region_value m (number h n) (type_named s.names n) (had h n u) bound.1 said.own (named_fits s r.scope m u.names st.names n bound.0).is_of;
      }

  pub record IsPartitionName (h : Here) (m : Interpretation) (n : Name) : Type 0 where
    pub disjoint : Bool
    pub parent : ℕ
    pub is : type_named h.scope.names n ≡ partition_type disjoint parent (number h n)
    pub less : parent < h.scope.next
    pub value : (u : State) → IsSoundState (inst h) m h.scope u → IsOfType m (partition_type disjoint parent (number h n)) (had h n u)
    pub cut : (u : State) → IsSoundState (inst h) m h.scope u → IsCut (m.region parent) disjoint (partition_of (had h n u))

  pub bound_partition : (h : Here) (m : Interpretation) → IsReady task args roots m h → (n : Name) → is_bound h.scope.names n ≡ true → is_partition (type_named h.scope.names n) ≡ true → IsPartitionName h m n
  bound_partition h m r n bound e =
      let s = h.scope in
      let found = found_by_number s.next s.names n r.scope.numbers bound in
      let said = said_named s r.scope r.static.well_scoped n bound in
      let like = partition_like (type_named s.names n) e in
      let own : like.own ≡ number h n = subst (IsNamedByOwnNumber (number h n)) like.is said.own in
      let same : type_named s.names n ≡ partition_type like.disjoint like.parent (number h n) = like.is ∙ ap (partition_type like.disjoint like.parent) own in
      let of_parent = subst (IsOfParent m s.known) (ap (λ (b : Bound). b.static_type) found.0 ∙ same) (r.place.parents (number h n)) in
      let value = λ (u : State) (st : IsSoundState (inst h) m s u). subst (λ t. IsOfType m t (had h n u)) same (named_fits s r.scope m u.names st.names n bound).is_of in record {
        disjoint = like.disjoint;
        parent = like.parent;
        is = same;
        less = (r.static.below (PartOf (number h n) like.parent like.disjoint) of_parent.0).1;
        value = value;
        cut = λ u st. subst (IsCut (m.region like.parent) like.disjoint) (partition_value m like.disjoint like.parent (number h n) (had h n u) (value u st))
            (cut_known m (number h n) like.parent like.disjoint (length u.store) (r.place.holds (PartOf (number h n) like.parent like.disjoint) of_parent.0) of_parent.1 st.rooted);
      }

  partition_name : (h : Here) (m : Interpretation) → IsReady task args roots m h → (n : Name) → not (names_a is_partition h.scope.names n) ≡ false → IsPartitionName h m n
  partition_name h m r n e =
      let bound = named h.tree task h.scope r.sound r.scope is_partition n e in
      bound_partition h m r n bound.0 bound.1

  -- ---- what an initializer gives

  -- a partition that is cut of a region
  abbrev pub IsCutValue : Region → Bool → Value → Type 0
  IsCutValue parent d v = (q : Partition) × (a_partition q ≡ v) × IsCut parent d q

  -- an initializer that gives a new partition
  pub record Cuts (h : Here) (m : Interpretation) (t : Option TypeTerm) (wanted : StaticType) (i : Initializer) : Type 0 where
    pub parent : ℕ
    pub disjoint : Bool
    pub type : initializer_type h.tree h.scope h.scope.next i ≡ partition_type disjoint parent h.scope.next
    pub less : parent < h.scope.next
    pub told : known_of_initializer h.tree h.scope h.scope.next (Some i) ≡ []
    pub gives_cut : (u : State) → IsSoundState (inst h) m h.scope u → KeepsSound (inst h) m h.scope (IsCutValue (m.region parent) disjoint) (initialized h t wanted i u)

  -- what isn't told of an initializer
  pub record IsFlawless (h : Here) (i : Initializer) : Type 0 where
    pub heads : first_in (first_in_expression h.tree task h.scope) (expressions_in_initializer h.scope.names i) ≡ None
    pub names : unbound_name_in_initializer h.tree h.scope.names i ≡ false
    pub parts : mispartitions_initializer h.tree h.scope i ≡ false
    pub reads : lacks h.tree task h.scope (reads_in_initializer h.tree h.scope.names i) ≡ false

  pub flawless : (h : Here) (m : Interpretation) → IsReady task args roots m h → (n : Name) (t : Option TypeTerm) (i : Initializer) → first_of_form h.tree task h.scope (var_form n t (Some i)) ≡ None →
      IsFlawless h i
  flawless h m r n t i e =
      let s = h.scope in
      let parts = parts_of_form h.tree task s r.sound r.scope (var_form n t (Some i)) e in
      let a = option_or_parts _ _ (option_or_parts (first_of_initializer h.tree task s i) _ parts.3).0 in
      let b = option_or_parts (rule_if (unbound_name_in_initializer h.tree s.names i) rule.Name) _ a.1 in
      let c = option_or_parts (rule_if (mispartitions_initializer h.tree s i) rule.Partition) _ b.1 in
      let d = option_or_parts _ _ c.1 in record {
        heads = parts.2;
        names = rule_none (unbound_name_in_initializer h.tree s.names i) rule.Name b.0;
        parts = rule_none (mispartitions_initializer h.tree s i) rule.Partition c.0;
        reads = rule_none (lacks h.tree task s (reads_in_initializer h.tree s.names i)) rule.Read (option_or_parts _ _ d.1).0;
      }

  rises : (h : Here) (m : Interpretation) (n : Name) → IsRegionName h m n → (u : State) → IsSoundState (inst h) m h.scope u → IsStrictlyIncreasing (region_of (had h n u)).points
  rises h m n name u st = subst (λ (q : Region). IsStrictlyIncreasing q.points) (name.is u st) (st.rooted.regions (number h n)).rising

  cut_of_name : (h : Here) (m : Interpretation) (n : Name) → IsRegionName h m n → (d : Bool) (q : Partition) (u : State) → IsSoundState (inst h) m h.scope u → IsCut (region_of (had h n u)) d q →
      IsCut (m.region (number h n)) d q
  cut_of_name h m n name d q u st cut = subst (λ a. IsCut a d q) (sym (name.is u st)) cut

  colours_are : (h : Here) (m : Interpretation) (v : Value) (u : State) → IsSoundState (inst h) m h.scope u → KeepsSound (inst h) m h.scope (λ k. Unit {0}) (colours h v u)
  colours_are h m v u st = by (nat_le (size_of v) 65536)
    where
      by : (b : Bool) → KeepsSound (inst h) m h.scope (λ k. Unit {0}) (if_true b (given (size_of v)) (fault h BadSize) u)
      by true = (st, tt)
      by false = record { covered = st.covered; depth = λ e. absurd cc }

  -- the column of a region that is named
  column_named : (h : Here) (m : Interpretation) → IsReady task args roots m h → (n f : Name) → IsRegionName h m n → is_unknown_region_field h.tree h.scope.names n f ≡ false →
      lacks h.tree task h.scope (wanted_of_region h.tree Read (type_named h.scope.names n) f) ≡ false → (u : State) → IsSoundState (inst h) m h.scope u →
      KeepsSound (inst h) m h.scope (λ c. Unit {0}) (read_all h (static_type_of h n) (region_of (had h n u)) f u)
  column_named h m r n f name there lacking u st =
      let like = name.like in
      let t = region_type like.kind like.space like.arguments like.term in
      let field = not-false (has_field h.tree like.space f) (subst (λ q. not (region_has h.tree q f) ≡ false) like.is (or_parts (not (names_a is_region h.scope.names n)) _ there).1) in
      let lacks_it = subst (λ q. lacks h.tree task h.scope (wanted_of_region h.tree Read q f) ≡ false) like.is lacking in
      let stands_for = subst (λ q. StandsFor m q (region_of (had h n u))) (sym name.own) (name.is u st) in
      subst (λ q. KeepsSound (inst h) m h.scope (λ c. Unit {0}) (read_all h q (region_of (had h n u)) f u)) (sym like.is)
      (column_is task args roots m h r.sound r.sound_task r.scope r.static.well_scoped r.place r.answers like.kind like.space like.arguments like.term f (region_of (had h n u)) u field lacks_it stands_for st)

  -- ---- the operations

  pub equal_cuts : (h : Here) (m : Interpretation) → IsReady task args roots m h → (t : Option TypeTerm) (wanted : StaticType) (a : Name) (y : Expression) → IsWritten y →
      IsFlawless h (equal_initializer a y) → Cuts h m t wanted (equal_initializer a y)
  equal_cuts h m r t wanted a y wr is =
      let name = region_name h m r a is.names in record {
        parent = number h a;
        disjoint = equal_flag;
        type = refl;
        less = name.less;
        told = refl;
        gives_cut = λ u st.
            after (IsCutValue (m.region (number h a)) equal_flag) (value h y u) _ (evaluates task args roots h m y r wr (option_or_parts (first_in_expression h.tree task h.scope y) _ is.heads).0 u st) (λ v w st is.
            after (IsCutValue (m.region (number h a)) equal_flag) (colours h v w) _ (colours_are h m v w st) (λ n z st is.
            (st, (_, refl, cut_of_name h m a name equal_flag _ z st (equal_cut (region_of (had h a z)) n (rises h m a name z st))))));
      }

  pub field_cuts : (h : Here) (m : Interpretation) → IsReady task args roots m h → (t : Option TypeTerm) (wanted : StaticType) (a f : Name) (y : Expression) → IsWritten y →
      IsFlawless h (by_field_initializer a f y) → Cuts h m t wanted (by_field_initializer a f y)
  field_cuts h m r t wanted a f y wr is =
      let name = region_name h m r a (or_parts (not (names_a is_region h.scope.names a)) _ is.names).0 in
      let Is = IsCutValue (m.region (number h a)) by_field_flag in record {
        parent = number h a;
        disjoint = by_field_flag;
        type = refl;
        less = name.less;
        told = refl;
        gives_cut = λ u st.
            after Is (value h y u) _ (evaluates task args roots h m y r wr (option_or_parts (first_in_expression h.tree task h.scope y) _ is.heads).0 u st) (λ v w st k.
            after Is (colours h v w) _ (colours_are h m v w st) (λ n z st k.
            let cut = λ (zs : List ℤ). cut_of_name h m a name by_field_flag _ z st (field_cut (region_of (had h a z)) zs n (rises h m a name z st)) in
            after {Is = λ x. Unit {0}} Is (read_all h (static_type_of h a) (region_of (had h a z)) f z)
            (λ (c : Column). given (partitioned (region_of (had h a z)).root by_field_flag (by_field_sets (region_of (had h a z)).points c.numbers n))) (column_named h m r a f name is.names is.reads z st) (λ c x st k.
            (st, (_, refl, cut c.numbers)))));
      }

  pub image_cuts : (h : Here) (m : Interpretation) → IsReady task args roots m h → (t : Option TypeTerm) (wanted : StaticType) (a p b f : Name) →
      IsFlawless h (image_initializer a p b f) → Cuts h m t wanted (image_initializer a p b f)
  image_cuts h m r t wanted a p b f is =
      let first = or_parts (not (names_a is_region h.scope.names a) || not (names_a is_partition h.scope.names p)) (is_unknown_region_field h.tree h.scope.names b f) is.names in
      let name = region_name h m r a (or_parts (not (names_a is_region h.scope.names a)) _ first.0).0 in
      let other = region_name h m r b (or_parts (not (names_a is_region h.scope.names b)) _ first.1).0 in
      let Is = IsCutValue (m.region (number h a)) image_flag in record {
        parent = number h a;
        disjoint = image_flag;
        type = refl;
        less = name.less;
        told = refl;
        gives_cut = λ u st.
            let parent = region_of (had h a u) in
            let sets = (partition_of (had h p u)).sets in
            let read = region_of (had h b u) in
            after {Is = λ x. Unit {0}} Is (read_all h (static_type_of h b) read f u) (λ (c : Column). given (partitioned parent.root image_flag (image_sets parent.points sets read.points c.numbers c.pointers)))
            (column_named h m r b f other first.1 is.reads u st) (λ c x kept k.
            (kept, (_, refl, cut_of_name h m a name image_flag _ u st (image_cut parent sets read.points c.numbers c.pointers (rises h m a name u st)))));
      }

  pub preimage_cuts : (h : Here) (m : Interpretation) → IsReady task args roots m h → (t : Option TypeTerm) (wanted : StaticType) (a p b f : Name) →
      IsFlawless h (preimage_initializer a p b f) → Cuts h m t wanted (preimage_initializer a p b f)
  preimage_cuts h m r t wanted a p b f is =
      let first = or_parts (not (names_a is_region h.scope.names a) || not (names_a is_partition h.scope.names p)) (is_unknown_region_field h.tree h.scope.names b f) is.names in
      let both = or_parts (not (names_a is_region h.scope.names a)) (not (names_a is_partition h.scope.names p)) first.0 in
      let name = region_name h m r a both.0 in
      let part = partition_name h m r p both.1 in
      let other = region_name h m r b (or_parts (not (names_a is_region h.scope.names b)) _ first.1).0 in
      let Is = IsCutValue (m.region (number h a)) (preimage_flag part.disjoint) in record {
        parent = number h a;
        disjoint = preimage_flag part.disjoint;
        type = ap (λ q. partition_type (preimage_flag (is_disjoint q)) (number h a) h.scope.next) part.is;
        less = name.less;
        told = refl;
        gives_cut = λ u st.
            let parent = region_of (had h a u) in
            let old = partition_of (had h p u) in
            let read = region_of (had h b u) in
            after {Is = λ x. Unit {0}} Is (read_all h (static_type_of h b) read f u)
            (λ (c : Column). given (partitioned parent.root (preimage_flag old.disjoint) (preimage_sets parent.points old.sets read.points c.numbers c.pointers)))
            (column_named h m r b f other first.1 is.reads u st) (λ c x kept k. (
              kept,
              (
                _,
                refl,
                cut_of_name h m a name (preimage_flag part.disjoint) _ u st
                    (preimage_cut parent part.disjoint old.disjoint old.sets read.points c.numbers c.pointers (rises h m a name u st) (rises h m b other u st) (part.cut u st).apart),
              ),
            ));
      }

  -- the parents of two partitions are the same
  same_parents : (d e : Bool) (r s i j : ℕ) (t u : StaticType) → t ≡ partition_type d r i → u ≡ partition_type e s j → (have_other_parents t u || false) ≡ false → r ≡ s
  same_parents d e r s i j t u a b h =
      eqb-true r s (not-false (r == s) (sym (λ k. have_other_parents (a k) (b k)) ∙ (or_parts (have_other_parents t u) false h).0))

  pub both_cuts : (h : Here) (m : Interpretation) → IsReady task args roots m h → (t : Option TypeTerm) (wanted : StaticType) (p q : Name) → IsFlawless h (both_initializer p q) →
      Cuts h m t wanted (both_initializer p q)
  both_cuts h m r t wanted p q is =
      let two = both_named h.tree task h.scope r.sound r.scope p q is.names in
      let first = partition_name h m r p two.0 in
      let second = partition_name h m r q two.1 in
      let same = same_parents first.disjoint second.disjoint first.parent second.parent (number h p) (number h q) _ _ first.is second.is is.parts in record {
        parent = first.parent;
        disjoint = both_flag first.disjoint second.disjoint;
        type = λ j. partition_type (both_flag (is_disjoint (first.is j)) (is_disjoint (second.is j))) (parent_of (first.is j)) h.scope.next;
        less = first.less;
        told = refl;
        gives_cut = λ u st. (
          st,
          (
            _,
            refl,
            both_cut (m.region first.parent) first.disjoint second.disjoint _ (partition_of (had h p u)) (partition_of (had h q u)) (first.cut u st)
                (subst (λ i. IsCut (m.region i) second.disjoint (partition_of (had h q u))) (sym same) (second.cut u st)),
          ),
        );
      }

  pub either_cuts : (h : Here) (m : Interpretation) → IsReady task args roots m h → (t : Option TypeTerm) (wanted : StaticType) (p q : Name) → IsFlawless h (either_initializer p q) →
      Cuts h m t wanted (either_initializer p q)
  either_cuts h m r t wanted p q is =
      let two = both_named h.tree task h.scope r.sound r.scope p q is.names in
      let first = partition_name h m r p two.0 in
      let second = partition_name h m r q two.1 in
      let same = same_parents first.disjoint second.disjoint first.parent second.parent (number h p) (number h q) _ _ first.is second.is is.parts in record {
        parent = first.parent;
        disjoint = either_flag;
        type = λ j. partition_type either_flag (parent_of (first.is j)) h.scope.next;
        less = first.less;
        told = refl;
        gives_cut = λ u st. (
          st,
          (
            _,
            refl,
            either_cut (m.region first.parent) first.disjoint second.disjoint _ (partition_of (had h p u)) (partition_of (had h q u)) (first.cut u st)
                (subst (λ i. IsCut (m.region i) second.disjoint (partition_of (had h q u))) (sym same) (second.cut u st)),
          ),
        );
      }
