-- Variables that begin as parts of partitions, of which no breach is told, are typed, also those of a written type.
use Rattle.std.proofs.Common.{◌≡◌, ◌⊎◌, Bool, List, [], ◌∷◌, ◌++◌, None, Some, false, true, refl, ap, sym, subst, ℕ, ◌∙◌, inl, inr}
use Rattle.std.specs.List.{Contains}
use Rattle.regent_tree.proofs.Members.{Contains-from_Has, Has, Has-append_left, Has-append_right}
use Rattle.regent_tree.specs.Scopes.{Scope, bound_to, in_scope, knowing, known_of_type, with_name}
use Rattle.regent_tree.specs.StaticTypes.{Reach, type_said}
use Rattle.regent_tree.specs.Syntax.{Expression, Name, TaskTree, Tree, access_expr, at_step, no_step, plain_initializer, var_form}
use Rattle.regent_tree.specs.Typing.{colour_of, is_disjoint, known_of_child, owned, parent_of, scope_after, type_of}
use Rattle.regent_tree.specs.declared.facts.Known.TheVariants.{PartOf, Within}
use Rattle.regent_tree.specs.declared.facts.Term.{Term}
use Rattle.regent_tree.specs.declared.facts.Term.TheVariants as place
use Rattle.regent_tree.specs.declared.types.Kind.{Kind}
use Rattle.regent_tree.specs.declared.types.TypeTerm.{TypeTerm}
use Rattle.regent_tree.specs.declared.typing.StaticType.{StaticType}
use Rattle.regent_tree.specs.declared.typing.StaticType.TheVariants.{Region as region_type}
use Rattle.check_laws.proofs.Variables.{parts_of_form as told_of_form}
use Rattle.check_laws.specs.SoundScopes.{IsSoundScope}
use Rattle.check_rules.specs.first.FirstInStatements.{first_of_form}
use Rattle.check_rules.specs.scopes.Sound.{IsSound, IsSoundTask}
use Rattle.check_rules.specs.types.Fitting.{fits}
use Rattle.code_rules.specs.Slots.{Where}
use Rattle.code_laws.specs.Above.{cut_told, first_told, piece_told}
use Rattle.code_laws.specs.Handing.{forms_by, takes_by, told_in}
use Rattle.code_laws.specs.Pointers.{IsLike, like_region}
use Rattle.code_laws.specs.Steps.{Forms}
use Rattle.code_laws.specs.Taking.{BeginsWithin, BeginsAt}
use Rattle.code_laws.specs.Typed.{BeginsAsPart, IsIndexed, IsKeepable, IsTyped}
use Rattle.code_laws.proofs.Domains.{part_is}
use Rattle.code_laws.proofs.KnownHeads.{IsPair, IsPiece, IsReady, KnowsFacts, above_by, told_here}
use Rattle.code_laws.proofs.KnownPlaces.{head_piece}
use Rattle.code_laws.proofs.LocalArguments.{IsPartName}
use Rattle.code_laws.proofs.LocalGoals.{bound_among}
use Rattle.code_laws.proofs.LocalNames.{IsKept, IsLocalTree, kept_region, region_of_number}
use Rattle.code_laws.proofs.LocalSaid.{region_said, said_fits}
use Rattle.code_laws.proofs.LocalVariables.{VarTyped, at}
use Rattle.code_laws.proofs.Told.{ToldUpTo}
use Rattle.code_laws.proofs.Wider.{begun_apart, said_apart}
use Rattle.regent_tree.specs.declared.facts.Colour.{Colour}
use Rattle.regent_tree.specs.declared.facts.Colour.TheVariants.{Unknown}
use Rattle.check_rules.specs.types.Declarations.{is_no_result_type}

abbrev number_in : Term → ℕ
number_in (place.Name i) = i
number_in (place.Child p c) = 0

abbrev cut_in : Term → ℕ
cut_in (place.Name i) = 0
cut_in (place.Child p c) = p

abbrev colour_in : Term → Colour
colour_in (place.Name i) = Unknown
colour_in (place.Child p c) = c

abbrev IsChild : Term → Type 0
IsChild (place.Name i) = ⊥
IsChild (place.Child p c) = Unit {0}

-- two types of regions of one field space and term are alike
alike_regions : (u v : StaticType) (j k : Kind) (sp : ℕ) (args brgs : List Reach) (r : Term) → u ≡ region_type j sp args r → v ≡ region_type k sp brgs r → IsLike u v
alike_regions u v j k sp args brgs r e f =
    subst (IsLike u) (sym f) (subst (λ u. IsLike u (region_type k sp brgs r)) (sym e) (like_region j k sp args brgs r))

module _ (tree : Tree) (task : TaskTree) (sound : IsSound tree) (sound_task : IsSoundTask tree task)
    (local : IsLocalTree tree) (params : ℕ) (result : is_no_result_type task.result ≡ false) where
  abbrev forms : Forms
  forms = forms_by true true tree task

  abbrev Ready : Scope → Type 0
  Ready s = IsReady tree task s

  abbrev here : Scope → ℕ → Where
  here s line = at tree task sound sound_task local params result s line

  abbrev Starts : Scope → ℕ → Name → Expression → Type 0
  Starts s line n y = VarTyped tree task sound sound_task local params result s line n None (Some (plain_initializer y))

  abbrev SaidStarts : Scope → ℕ → Name → TypeTerm → Expression → Type 0
  SaidStarts s line n t y = VarTyped tree task sound sound_task local params result s line n (Some t) (Some (plain_initializer y))

  -- the scope behind a variable of a type that begins with an expression of another
  abbrev behind : Scope → Name → StaticType → StaticType → Scope
  behind s n u t = knowing (with_name s n u false) (known_of_child s.next t ++ known_of_type u)

  abbrev IsTaken : (s : Scope) (line : ℕ) → IsSoundScope s → Ready s → Expression → Type 0
  IsTaken s line scope ready y = IsPartName task (here s line) sound sound_task local scope ready.names ready.head y

  -- so is the type of a part
  part_owned : (s : Scope) (line : ℕ) (x : Expression) (scope : IsSoundScope s) (ready : Ready s) (a : IsTaken s line scope ready x) →
      let kind = part_is (here s line) a.name a.index a.own a.region in
      owned s.next (type_of tree s x) ≡ region_type kind.kind kind.space kind.args (place.Name s.next)
  part_owned s line x scope ready a =
      ap (λ z. owned s.next (type_of tree s z)) a.is ∙ ap (owned s.next) (part_is (here s line) a.name a.index a.own a.region).is

  -- where its facts are told, it began within the region of which the partition is
  begins : (b : Bool) (s u : Scope) (p r : ℕ) (d : Bool) → KnowsFacts tree task s → KnowsFacts tree task u → ToldUpTo (told_in tree task) u →
      first_told (cut_told s.next) u.known ≡ Some p → Contains u.known (PartOf p r d) → BeginsWithin (takes_by b tree task) s.next r
  begins false s u p r d facts after up told cut = tt
  begins true s u p r d facts after up told cut = (facts.next, above_by (told_in tree task) after up s.next p r d told cut)

  -- as that part
  begins_at : (b : Bool) (u : Scope) (i p : ℕ) (c : Colour) → ToldUpTo (told_in tree task) u → first_told (piece_told i) u.known ≡ Some (p, c) →
      BeginsAt (takes_by b tree task) i p c
  begins_at false u i p c told piece = tt
  begins_at true u i p c told piece = told_here (told_in tree task) told (piece_told i) (p, c) piece

  first_piece : (s u : Scope) (p : ℕ) (c : Colour) → IsPair tree task (place.Name s.next) (place.Child p c) ⊎ IsPiece task u (place.Name s.next) (place.Child p c) →
      first_told (piece_told s.next) u.known ≡ Some (p, c)
  first_piece s u p c (inl a) = absurd (subst IsChild a.is_upper tt)
  first_piece s u p c (inr a) =
      subst (λ i. first_told (piece_told i) u.known ≡ Some (p, c)) (sym (ap number_in a.is_lower))
      (subst (λ b. first_told (piece_told a.own) u.known ≡ Some (cut_in b, colour_in b)) (sym a.is_upper) a.piece)

  -- the partition is that of the first fact
  first_cut : (s u : Scope) (b : Term) (p : ℕ) → IsChild b → cut_in b ≡ p → IsPair tree task (place.Name s.next) b ⊎ IsPiece task u (place.Name s.next) b →
      first_told (cut_told s.next) u.known ≡ Some p
  first_cut s u b p child same (inl a) = absurd (subst IsChild a.is_upper child)
  first_cut s u b p child same (inr a) =
      subst (λ i. first_told (cut_told i) u.known ≡ Some p) (sym (ap number_in a.is_lower))
      (a.told ∙ ap (λ n. Some n) (sym (ap cut_in a.is_upper) ∙ same))

  -- a name of a region's type begins as the part, and what is known behind it
  part_begins : (s : Scope) (line : ℕ) (n : Name) (x : Expression) (scope : IsSoundScope s) (ready : Ready s) (a : IsTaken s line scope ready x)
      (j : Kind) (sp : ℕ) (args : List Reach) → ToldUpTo (told_in tree task) (behind s n (region_type j sp args (place.Name s.next)) (type_of tree s x)) →
      BeginsAsPart forms.takes (here s line) (access_expr a.name (at_step a.index no_step)) (IsIndexed forms (here s line) (access_expr a.name (at_step a.index no_step)))
      × KnowsFacts tree task (behind s n (region_type j sp args (place.Name s.next)) (type_of tree s (access_expr a.name (at_step a.index no_step))))
  part_begins s line n x scope ready a j sp args up =
      let w = here s line in
      let q = a.name in
      let b = bound_to s.names q in
      let r = parent_of b.static_type in
      let c = colour_of s a.index in
      let kind = part_is w q a.index a.own a.region in
      let u = region_type j sp args (place.Name s.next) in
      let after = behind s n u (region_type kind.kind kind.space kind.args (place.Child b.number c)) in
      let facts : KnowsFacts tree task after = head_piece tree task s n u b.number c refl ready.head.facts in
      let known = facts.within (place.Name s.next) (place.Child b.number c)
      (Contains-from_Has _ _ (Has-append_right s.known (Within (place.Name s.next) (place.Child b.number c) ∷ []) _ (inl refl))) in
      let told = first_cut s after (place.Child b.number c) b.number tt refl known in
      let cut : Has s.known (PartOf b.number r (is_disjoint b.static_type)) =
      ready.head.facts.cuts b (bound_among s.names q a.cut.named) (PartOf b.number r (is_disjoint b.static_type))
      (subst (λ u. Has (known_of_type u) (PartOf b.number r (is_disjoint b.static_type))) (sym a.own) (inl refl)) in
      let up2 : ToldUpTo (told_in tree task) after =
      subst (λ t. ToldUpTo (told_in tree task) (behind s n u t)) kind.is
      (subst (λ x. ToldUpTo (told_in tree task) (behind s n u (type_of tree s x))) a.is up) in
      let begun = begins true s after b.number r (is_disjoint b.static_type) ready.head.facts facts up2 told
      (Contains-from_Has _ _ (Has-append_left s.known _ (PartOf b.number r (is_disjoint b.static_type)) cut)) in
      let at = begins_at true after s.next b.number c up2 (first_piece s after b.number c known) in
      let parent = region_of_number s.next s.names r scope.numbers a.parent in (
        ((a.cut, a.own, a.region, (a.indexed, a.counts)), parent.1, begun, at),
        subst (λ t. KnowsFacts tree task (behind s n u t)) (sym kind.is) facts,
      )

  pub part_starts : (s : Scope) (line : ℕ) (n : Name) (x : Expression) → (scope : IsSoundScope s) (ready : Ready s) →
      ToldUpTo (told_in tree task) (scope_after tree s (var_form n None (Some (plain_initializer x)))) → (a : IsTaken s line scope ready x) →
      Starts s line n (access_expr a.name (at_step a.index no_step))
  part_starts s line n x scope ready up a =
      let w = here s line in
      let y = access_expr a.name (at_step a.index no_step) in
      let kind = part_is w a.name a.index a.own a.region in
      let is = ap (owned s.next) kind.is in
      let b = part_begins s line n x scope ready a kind.kind kind.space kind.args
      (subst (λ u. ToldUpTo (told_in tree task) (behind s n u (type_of tree s x))) (part_owned s line x scope ready a) up) in (
        begun_apart true w y (IsKeepable true w y × IsTyped forms w y) _ refl (inr b.0),
        subst (IsKept true s.names s.next) (sym is) (kept_region kind.kind kind.space kind.args),
        subst (λ u. KnowsFacts tree task (behind s n u (type_of tree s y))) (sym is) b.1,
      )

  -- so of a written type, which is like that of the part
  pub said_starts : (s : Scope) (line : ℕ) (n : Name) (t : TypeTerm) (x : Expression) → (scope : IsSoundScope s) (ready : Ready s) →
      ToldUpTo (told_in tree task) (scope_after tree s (var_form n (Some t) (Some (plain_initializer x)))) →
      first_of_form tree task s (var_form n (Some t) (Some (plain_initializer x))) ≡ None → (a : IsTaken s line scope ready x) →
      SaidStarts s line n t (access_expr a.name (at_step a.index no_step))
  said_starts s line n t x scope ready up none a =
      let w = here s line in
      let y = access_expr a.name (at_step a.index no_step) in
      let kind = part_is w a.name a.index a.own a.region in
      let own = place.Name s.next in
      let v = type_said tree (in_scope s) s.next t in
      let tail = (told_of_form tree task s sound scope (var_form n (Some t) (Some (plain_initializer x))) none).4 in
      let said = region_said tree task sound sound_task local params result s kind.kind kind.space kind.args t
      (subst (λ u. fits s.known u v ≡ true) (part_owned s line x scope ready a)
      (said_fits tree task sound sound_task local params result s n t (plain_initializer x) scope ready none tail)) in
      let b = part_begins s line n x scope ready a said.kind kind.space said.args
      (subst (λ u. ToldUpTo (told_in tree task) (behind s n u (type_of tree s x))) said.is up) in (
        said_apart true w y _ _ _ refl (
          inr b.0,
          alike_regions v (owned s.next (type_of tree s y)) said.kind kind.kind kind.space said.args kind.args own said.is (ap (owned s.next) kind.is),
        ),
        subst (IsKept true s.names s.next) (sym said.is) (kept_region said.kind kind.space said.args),
        subst (λ u. KnowsFacts tree task (behind s n u (type_of tree s y))) (sym said.is) b.1,
      )
