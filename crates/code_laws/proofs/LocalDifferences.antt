-- Variables that begin with an expression, with a difference of partitions, or as a part, of a written type or not, of which no
-- breach is told, are typed.
use Rattle.std.proofs.Common.{◌≡◌, inl, inr, Bool, List, [], ◌∷◌, ◌++◌, None, Option, Some, false, true, refl, sym, subst, ℕ, not, cond}
use Rattle.std.specs.Prelude.{◌||◌}
use Rattle.std.specs.List.{list_any}
use Rattle.std.proofs.lemmas.Bool.{and_parts, not-false, or_parts}
use Rattle.plain_values.proofs.Plain.{option_or_parts}
use Rattle.regent_tree.specs.Limits.{parts_of_expression, parts_of_form, parts_of_type}
use Rattle.regent_tree.specs.Lookup.{is_bound, type_named}
use Rattle.regent_tree.specs.Scopes.{Scope, bound_to, in_scope, knowing, known_of_type, with_name}
use Rattle.regent_tree.specs.StaticTypes.{type_said}
use Rattle.regent_tree.specs.Syntax.{Expression, Initializer, Name, TaskTree, Tree, a_link, access_expr, chain_expr, no_link, no_step, plain_initializer, var_form}
use Rattle.regent_tree.specs.Typing.{is_disjoint, known_of_child, operated, owned, parent_of, scope_after, type_of}
use Rattle.regent_tree.specs.declared.expression.Arithmetic.TheVariants.{Subtract}
use Rattle.regent_tree.specs.declared.expression.Operator.TheVariants.{Compute}
use Rattle.regent_tree.specs.declared.types.TypeTerm.{TypeTerm}
use Rattle.regent_tree.specs.declared.typing.Bound.{Bound}
use Rattle.regent_tree.specs.declared.typing.StaticType.{StaticType}
use Rattle.check_laws.proofs.Parts.{unless_false}
use Rattle.check_laws.proofs.Variables.{begun_sound, parts_of_form as told_of_form}
use Rattle.check_laws.specs.SoundScopes.{IsSoundScope}
use Rattle.check_rules.specs.declared.rule.Rule.TheVariants as rule
use Rattle.check_rules.proofs.Untold.{rule_none}
use Rattle.check_rules.specs.first.FirstInExpressions.{first_in_expression, first_in_type}
use Rattle.check_rules.specs.first.FirstInStatements.{first_of_form, first_of_initializer}
use Rattle.check_rules.specs.first.Rules.{first_in, rule_if}
use Rattle.check_rules.specs.rules.Partitions.{have_other_parents, may_be_partitions, is_difference}
use Rattle.check_rules.specs.scopes.Sound.{IsSound, IsSoundTask}
use Rattle.check_rules.specs.scopes.Variables.{declared_type, members_of, is_flawed_initializer, known_initializer}
use Rattle.check_rules.specs.types.Sorts.{is_partition, may_be}
use Rattle.code_laws.specs.WrittenForms.{is_written_expression}
use Rattle.code_laws.specs.Arguments.{ArePaired}
use Rattle.code_laws.specs.Handing.{forms_by, told_in}
use Rattle.code_laws.proofs.Told.{ToldUpTo}
use Rattle.code_laws.specs.Simple.{IsPartition, a_partition_type}
use Rattle.code_laws.specs.Steps.{Forms}
use Rattle.code_laws.specs.Typed.{IsKeepable, IsTyped}
use Rattle.code_rules.specs.Slots.{Where}
use Rattle.code_laws.proofs.KnownHeads.{IsReady, KnowsFacts}
use Rattle.code_laws.proofs.KnownPlaces.{head_cut}
use Rattle.code_laws.proofs.LocalCuts.{Begins, parents_same, untold}
use Rattle.code_laws.proofs.LocalValues.{IsRegionAmong}
use Rattle.code_laws.proofs.Typing.{AreKept, kept_right, no_way_back, no_way}
use Rattle.code_laws.proofs.Wider.{begun_apart, said_apart}
use Rattle.code_laws.proofs.Differences.{difference_type}
use Rattle.code_laws.proofs.LocalNulls.{type_flawless}
use Rattle.code_laws.proofs.LocalSaid.{collected_said, cut_written, well_said}
use Rattle.code_laws.proofs.LocalTaken.{IsCollection, collects_partition, collects_region}
use Rattle.check_rules.specs.types.Declarations.{is_no_result_type}
use Rattle.code_laws.proofs.LocalPieces.{part_starts, said_starts}
use Rattle.code_laws.proofs.LocalArguments.{IsArgument, IsCollected, collected}
use Rattle.code_laws.proofs.LocalVariables.{Heads, at, headed, owned_collected, well_local, whole_told}
use Rattle.code_laws.proofs.LocalNames.{IsKept, IsLocalTree, kept_partition, named_kept, parent_among, partition_is}
use Rattle.check_rules.specs.rules.Places.{has_wrong_initializer}

-- the names of a difference
difference_names : (bs : List Bound) (e : Expression) → is_difference bs e ≡ true →
    (p : Name) × (q : Name) × (e ≡ chain_expr (access_expr p no_step) (a_link (Compute Subtract) (access_expr q no_step) no_link)) × (may_be_partitions bs p q ≡ true)
difference_names bs (chain_expr (access_expr p no_step) (a_link (Compute Subtract) (access_expr q no_step) no_link)) h = (p, q, refl, h)
difference_names bs _ h = absurd cc

-- a difference tells of no child
difference_child : (own : ℕ) (t u : StaticType) → IsPartition t → known_of_child own (operated (Compute Subtract) t u) ≡ []
difference_child own _ u (a_partition_type d r p) = refl

-- no variable begins with a region's or a partition's name
no_name_begins : (bs : List Bound) (wanted t : StaticType) (r : Name) → IsCollection wanted → IsCollection t →
    has_wrong_initializer bs wanted t (plain_initializer (access_expr r no_step)) ≡ false → ⊥
no_name_begins bs _ _ r (collects_region k sp args u) (collects_region j sq brgs v) e = no_way e
no_name_begins bs _ _ r (collects_region k sp args u) (collects_partition d v q) e = no_way e
no_name_begins bs _ _ r (collects_partition c u p) (collects_region j sq brgs v) e = no_way e
no_name_begins bs _ _ r (collects_partition c u p) (collects_partition d v q) e = no_way e

module _ (tree : Tree) (task : TaskTree) (sound : IsSound tree) (sound_task : IsSoundTask tree task)
    (local : IsLocalTree tree) (params : ℕ) (result : is_no_result_type task.result ≡ false) where
  abbrev forms : Forms
  forms = forms_by true true tree task

  abbrev Ready : Scope → Type 0
  Ready s = IsReady tree task s

  abbrev here : Scope → ℕ → Where
  here s line = at tree task sound sound_task local params result s line

  abbrev Starts : Scope → ℕ → Name → Initializer → Type 0
  Starts s line n i = Begins tree task sound sound_task local params result s line n None i

  abbrev SaidStarts : Scope → ℕ → Name → TypeTerm → Initializer → Type 0
  SaidStarts s line n t i = Begins tree task sound sound_task local params result s line n (Some t) i

  -- a name that is an operand
  record IsOperand (s : Scope) (n : Name) : Type 0 where
    there : is_bound s.names n ≡ true
    kept : IsKept true s.names (bound_to s.names n).number (bound_to s.names n).static_type

  an_operand : (s : Scope) (n : Name) → Ready s → first_in_expression tree task s (access_expr n no_step) ≡ None → IsOperand s n
  an_operand s n names told =
      let there = not-false (is_bound s.names n)
      (rule_none (not (is_bound s.names n)) rule.Name (option_or_parts (rule_if (not (is_bound s.names n)) rule.Name) _ told).0) in
      record { there = there; kept = named_kept true s.names n names.names there }

  -- of what begins with a difference, by the first one's type
  cut_begun : (s : Scope) (n : Name) (t u : StaticType) → IsPartition t → IsRegionAmong s.names (parent_of t) → IsSoundScope s → Ready s →
      IsKept true s.names s.next (owned s.next (operated (Compute Subtract) t u))
      × KnowsFacts tree task (knowing (with_name s n (owned s.next (operated (Compute Subtract) t u)) false)
      (known_of_child s.next (operated (Compute Subtract) t u) ++ known_of_type (owned s.next (operated (Compute Subtract) t u))))
  cut_begun s n _ u (a_partition_type d r p) among scope names =
      (kept_partition d r refl among, head_cut tree task s n d r scope.numbers names.head.facts)

  module _ (s : Scope) (line : ℕ) (n p q : Name) (scope : IsSoundScope s) (names : Ready s) where
    abbrev difference : Expression
    difference = chain_expr (access_expr p no_step) (a_link (Compute Subtract) (access_expr q no_step) no_link)

    abbrev tp : StaticType
    tp = type_named s.names p

    abbrev tq : StaticType
    tq = type_named s.names q

    -- two partitions
    record AreCut : Type 0 where
      pair : ArePaired (here s line) p q
      among : IsRegionAmong s.names (parent_of tp)

    are_cut : may_be_partitions s.names p q ≡ true → first_in (first_in_expression tree task s) (members_of difference) ≡ None →
        (have_other_parents tp tq || false) ≡ false → AreCut
    are_cut may told other =
        let both = and_parts (may_be is_partition tp) (may_be is_partition tq) may in
        let first = option_or_parts (first_in_expression tree task s (access_expr p no_step)) _ told in
        let second = option_or_parts (first_in_expression tree task s (access_expr q no_step)) _ first.1 in
        let a = an_operand s p names first.0 in
        let b = an_operand s q names second.0 in
        let ca = partition_is true s.names (bound_to s.names p).number tp a.kept both.0 in
        let cb = partition_is true s.names (bound_to s.names q).number tq b.kept both.1 in record {
          pair = record {
            first = record { named = a.there; numbers = scope.numbers; partition = ca };
            second = record { named = b.there; numbers = scope.numbers; partition = cb };
            parents = parents_same tp tq ca cb (or_parts (have_other_parents tp tq) false other).0;
          };
          among = (parent_among true s.names (bound_to s.names p).number tp a.kept ca).0;
        }

    -- a variable that begins with one taken off the other
    cut_apart : AreCut → Starts s line n (plain_initializer difference)
    cut_apart c =
        let begun = cut_begun s n tp tq c.pair.first.partition c.among scope names in (
          begun_apart true (here s line) difference (IsKeepable true (here s line) difference × IsTyped forms (here s line) difference) _ refl (inl c.pair),
          begun.0,
          begun.1,
        )

    -- so of a written type
    cut_said : (t : TypeTerm) → first_of_form tree task s (var_form n (Some t) (Some (plain_initializer difference))) ≡ None → AreCut →
        SaidStarts s line n t (plain_initializer difference)
    cut_said t e c =
        let cut = c.pair.first.partition in
        cut_written tree task sound sound_task local params result s line n t (plain_initializer difference) (is_disjoint tp) (parent_of tp) scope names e
        (difference_type s.next tp tq cut) (difference_child s.next tp tq cut) c.among
        (told_of_form tree task s sound scope (var_form n (Some t) (Some (plain_initializer difference))) e).4
        (λ like. said_apart true (here s line) difference _ _ _ refl (inl c.pair, like))

  -- one of a written type begins with no name of a region or a partition
  no_name_said : (s : Scope) (line : ℕ) (n : Name) (t : TypeTerm) (y : Expression) (r : Name) → (scope : IsSoundScope s) (names : Ready s) →
      first_of_form tree task s (var_form n (Some t) (Some (plain_initializer y))) ≡ None →
      has_wrong_initializer s.names (type_said tree (in_scope s) s.next t) (owned s.next (type_of tree s y)) (plain_initializer y) ≡ false →
      IsCollected task (here s line) sound sound_task local scope names.names names.head y → y ≡ access_expr r no_step → ⊥
  no_name_said s line n t y r scope names e right a same =
      let u = owned s.next (type_of tree s y) in
      let v = type_said tree (in_scope s) s.next t in
      let c = collected task (here s line) sound sound_task local scope names.names names.head y a in
      no_name_begins s.names v u r (collected_said tree task sound sound_task local params result s n t y scope names e c) (owned_collected s.next (type_of tree s y) c)
      (subst (λ x. has_wrong_initializer s.names v u (plain_initializer x) ≡ false) same right)

  -- what a variable begins with, by what it stands for
  begun_by : (s : Scope) (line : ℕ) (n : Name) (y : Expression) → (scope : IsSoundScope s) (names : Ready s) →
      ToldUpTo (told_in tree task) (scope_after tree s (var_form n None (Some (plain_initializer y)))) →
      has_wrong_initializer s.names (owned s.next (type_of tree s y)) (owned s.next (type_of tree s y)) (plain_initializer y) ≡ false →
      IsArgument task (here s line) sound sound_task local scope names.names names.head y → Starts s line n (plain_initializer y)
  begun_by s line n y scope names up right (inl a) = well_local tree task sound sound_task local params result s line n y scope names a
  begun_by s line n y scope names up right (inr (inr (inl a))) = subst (λ y. Starts s line n (plain_initializer y)) (sym a.is)
      (part_starts tree task sound sound_task local params result s line n y scope names up a)
  begun_by s line n y scope names up right (inr (inl r)) =
      let t = owned s.next (type_of tree s y) in
      let c = owned_collected s.next (type_of tree s y) (collected task (here s line) sound sound_task local scope names.names names.head y (inl r)) in
      absurd (no_name_begins s.names t t r.name c c (subst (λ x. has_wrong_initializer s.names t t (plain_initializer x) ≡ false) r.is right))
  begun_by s line n y scope names up right (inr (inr (inr r))) =
      let t = owned s.next (type_of tree s y) in
      let c = owned_collected s.next (type_of tree s y) (collected task (here s line) sound sound_task local scope names.names names.head y (inr (inr r))) in
      absurd (no_name_begins s.names t t r.name c c (subst (λ x. has_wrong_initializer s.names t t (plain_initializer x) ≡ false) r.is right))

  -- so one of a written type
  said_by : (s : Scope) (line : ℕ) (n : Name) (t : TypeTerm) (y : Expression) → (scope : IsSoundScope s) (names : Ready s) →
      ToldUpTo (told_in tree task) (scope_after tree s (var_form n (Some t) (Some (plain_initializer y)))) →
      first_of_form tree task s (var_form n (Some t) (Some (plain_initializer y))) ≡ None →
      has_wrong_initializer s.names (type_said tree (in_scope s) s.next t) (owned s.next (type_of tree s y)) (plain_initializer y) ≡ false →
      IsArgument task (here s line) sound sound_task local scope names.names names.head y → SaidStarts s line n t (plain_initializer y)
  said_by s line n t y scope names up e right (inl a) = well_said tree task sound sound_task local params result s line n t y scope names e a
  said_by s line n t y scope names up e right (inr (inr (inl a))) = subst (λ y. SaidStarts s line n t (plain_initializer y)) (sym a.is)
      (said_starts tree task sound sound_task local params result s line n t y scope names up e a)
  said_by s line n t y scope names up e right (inr (inl r)) =
      absurd (no_name_said s line n t y r.name scope names e right (inl r) r.is)
  said_by s line n t y scope names up e right (inr (inr (inr r))) =
      absurd (no_name_said s line n t y r.name scope names e right (inr (inr r)) r.is)

  -- what an initializer begins with has the type that is known of it
  begun_type : (s : Scope) (n : Name) (t : Option TypeTerm) (y : Expression) → IsSoundScope s → first_of_form tree task s (var_form n t (Some (plain_initializer y))) ≡ None →
      known_initializer tree s (plain_initializer y) ≡ owned s.next (type_of tree s y)
  begun_type s n t y scope e =
      unless_false (is_flawed_initializer tree s (plain_initializer y)) (owned s.next (type_of tree s y)) (begun_sound tree task s sound scope n t (plain_initializer y) e).0

  -- the difference that an expression is
  differs : (s : Scope) (line : ℕ) (n : Name) (t : Option TypeTerm) (p q : Name) → (scope : IsSoundScope s) (names : Ready s) → may_be_partitions s.names p q ≡ true →
      first_of_form tree task s (var_form n t (Some (plain_initializer (difference s line n p q scope names)))) ≡ None → AreCut s line n p q scope names
  differs s line n t p q scope names may e =
      let y = difference s line n p q scope names in
      let parts = told_of_form tree task s sound scope (var_form n t (Some (plain_initializer y))) e in
      let u = untold tree task sound sound_task local params result s (plain_initializer y) (option_or_parts (first_of_initializer tree task s (plain_initializer y)) _ parts.3).0 in
      are_cut s line n p q scope names may
      (subst (λ b. Heads tree task sound sound_task local params result s b y) may parts.2)
      (subst (λ b. list_any (λ (pq : Name × Name). have_other_parents (type_named s.names pq.0) (type_named s.names pq.1)) (cond b ((p, q) ∷ []) []) ≡ false) may u.partitions)

  -- a variable that begins with an expression, with a difference, or as a part
  pub begun_local : (s : Scope) (line : ℕ) (n : Name) (y : Expression) → is_written_expression y ≡ true → AreKept (parts_of_expression y) → IsSoundScope s → Ready s →
      ToldUpTo (told_in tree task) (scope_after tree s (var_form n None (Some (plain_initializer y)))) →
      first_of_form tree task s (var_form n None (Some (plain_initializer y))) ≡ None → Starts s line n (plain_initializer y)
  begun_local s line n y lo k scope names up e = by (is_difference s.names y) refl
    where
      by : (b : Bool) → is_difference s.names y ≡ b → Starts s line n (plain_initializer y)
      by false same =
          let i = plain_initializer y in
          let parts = told_of_form tree task s sound scope (var_form n None (Some i)) e in
          begun_by s line n y scope names up
          (subst (λ t. has_wrong_initializer s.names t t i ≡ false) (begun_type s n None y scope e)
          (or_parts (has_wrong_initializer s.names (known_initializer tree s i) (known_initializer tree s i) i) false parts.5).0)
          (headed tree task sound sound_task local params result s line y lo k scope names
          (whole_told tree task sound sound_task local params result s y false same (λ q. no_way_back q) parts.2))
      by true same =
          let is = difference_names s.names y same in
          subst (λ y. first_of_form tree task s (var_form n None (Some (plain_initializer y))) ≡ None → Starts s line n (plain_initializer y)) (sym is.2)
          (λ e. cut_apart s line n is.0 is.1 scope names (differs s line n None is.0 is.1 scope names is.3 e)) e

  -- so one of a written type
  pub said_local : (s : Scope) (line : ℕ) (n : Name) (t : TypeTerm) (y : Expression) → is_written_expression y ≡ true →
      AreKept (parts_of_form (var_form n (Some t) (Some (plain_initializer y)))) → IsSoundScope s → Ready s →
      ToldUpTo (told_in tree task) (scope_after tree s (var_form n (Some t) (Some (plain_initializer y)))) →
      first_of_form tree task s (var_form n (Some t) (Some (plain_initializer y))) ≡ None → SaidStarts s line n t (plain_initializer y)
  said_local s line n t y lo k scope names up e = by (is_difference s.names y) refl
    where
      by : (b : Bool) → is_difference s.names y ≡ b → SaidStarts s line n t (plain_initializer y)
      by false same =
          let i = plain_initializer y in
          let parts = told_of_form tree task s sound scope (var_form n (Some t) (Some i)) e in
          let none = (option_or_parts (first_in_type tree s.names t) _ parts.0).0 in
          said_by s line n t y scope names up e
          (subst (λ u. has_wrong_initializer s.names u (owned s.next (type_of tree s y)) i ≡ false) (type_flawless tree s scope names.names t none)
          (subst (λ u. has_wrong_initializer s.names (declared_type tree s t) u i ≡ false) (begun_type s n (Some t) y scope e)
          (or_parts (has_wrong_initializer s.names (declared_type tree s t) (known_initializer tree s i) i) false parts.5).0))
          (headed tree task sound sound_task local params result s line y lo (kept_right (parts_of_type (Some t)) (parts_of_expression y) k) scope names
          (whole_told tree task sound sound_task local params result s y false same (λ q. no_way_back q) parts.2))
      by true same =
          let is = difference_names s.names y same in
          subst (λ y. first_of_form tree task s (var_form n (Some t) (Some (plain_initializer y))) ≡ None → SaidStarts s line n t (plain_initializer y)) (sym is.2)
          (λ e. cut_said s line n is.0 is.1 scope names t e (differs s line n (Some t) is.0 is.1 scope names is.3 e)) e
