-- Each privilege that a task declares is among the needs of its code.
use Rattle.std.proofs.Common.{◌≡◌, inl, inr, ℕ, ◌<◌, ◌+◌, List, [], ◌∷◌, map, true, None, Option, Some, refl, sym, ap, ◌∙◌, subst, arith}
use Rattle.std.specs.Prelude.{bytes_eq, filter, length}
use Rattle.std.proofs.Math.ListN.{get_or-eq_default}
use Rattle.std.proofs.lemmas.Slice.Eq.{bytes_eq-Decides}
use Rattle.plain_values.specs.Points.{points}
use Rattle.lane_kernels.specs.declared.numbers.Mode.{Mode}
use Rattle.regent_tree.specs.Accesses.{space_in}
use Rattle.regent_tree.specs.Cover.{space_named}
use Rattle.regent_tree.specs.Lookup.{has_field}
use Rattle.regent_tree.specs.StaticTypes.{field_place, place_in, space_at}
use Rattle.regent_tree.specs.Syntax.{Name, TaskTree, Tree}
use Rattle.regent_tree.specs.Typing.{param_types}
use Rattle.regent_tree.specs.declared.program.Clause.{Clause}
use Rattle.regent_tree.specs.declared.program.Clause.TheVariants as clause
use Rattle.regent_tree.specs.declared.program.Grant.{Grant}
use Rattle.regent_tree.specs.declared.program.Grant.TheVariants.{Reads, Writes, Reduces}
use Rattle.regent_tree.specs.declared.program.Place.{Place}
use Rattle.regent_tree.specs.declared.rights.Right.{Right}
use Rattle.regent_tree.specs.declared.types.Param.{Param}
use Rattle.regent_tree.specs.declared.typing.StaticType.TheVariants.{Unknown as unknown_type}
use Rattle.regent_tree.proofs.Members.{Has, Has-append_left, Has-append_right, Has-map, Has-map_cases, list_any-from_Has}
use Rattle.task_code.specs.declared.code.NeedCode.{NeedCode}
use Rattle.check_rules.specs.rules.Privileges.{access_of_grant, fields_named, rights_declared, rights_of_clause, rights_of_place}
use Rattle.check_rules.specs.scopes.Sound.{IsSoundTask}
use Rattle.check_rules.specs.types.Declarations.{params_bound}
use Rattle.check_rules.specs.types.Params.{types_in_order}
use Rattle.check_rules.specs.types.Sorts.{is_region, type_at}
use Rattle.check_laws.proofs.Trees.{has_flat}
use Rattle.expression_laws.specs.Needs.{mode_of}
use Rattle.expression_laws.proofs.Covers.{has_filtered, on_region}
use Rattle.code_rules.specs.Needs.{fields_said, needs_of_clause, needs_of_clauses, needs_of_grants, needs_of_place, needs_of_places, mode_of as mode_of_grant}
use Rattle.code_laws.proofs.LocalNames.{first_below}
use Rattle.code_laws.proofs.Typing.{no_way_back}
use Rattle.fit_rules.specs.Shapes.{Among}
use Rattle.fit_laws.proofs.Cover.{in_counted}
use Rattle.marked_code.proofs.Placed.{below}
use Rattle.sound_code.proofs.Calling.{types_many}

-- ---- lists

among_has : {A : Type 0} (xs : List A) (y : A) → Among xs y → Has xs y
among_has [] y h = absurd h
among_has (x ∷ xs) y (inl e) = inl e
among_has (x ∷ xs) y (inr h) = inr (among_has xs y h)

pub has_among : {A : Type 0} (xs : List A) (y : A) → Has xs y → Among xs y
has_among [] y h = absurd h
has_among (x ∷ xs) y (inl e) = inl e
has_among (x ∷ xs) y (inr h) = inr (has_among xs y h)

-- ---- fields

same_mode : (g : Grant) → mode_of (access_of_grant g) ≡ mode_of_grant g
same_mode Reads = refl
same_mode Writes = refl
same_mode (Reduces o) = refl

said_field : (tree : Tree) (s : ℕ) (fs : Option (List Name)) (f : ℕ) → Has (fields_named tree s fs) f → Has (fields_said tree s fs) f
said_field tree s None f h =
    let ps = (space_at tree s).fields in
    let p = Has-map_cases (λ (p : Param). field_place tree s p.name) ps f h in
    let there = list_any-from_Has (λ (q : Param). bytes_eq q.name p.0.name) ps p.0 p.1 ((bytes_eq-Decides p.0.name p.0.name).1 refl) in
    let low : field_place tree s p.0.name < length ps = first_below (λ (q : Param). bytes_eq q.name p.0.name) ps there in
    among_has (points (length ps)) f (in_counted 0 (length ps) f (omega arith) (subst (λ i. i < 0 + length ps) p.2 (omega (arith, low))))
said_field tree s (Some names) f h =
    let n = Has-map_cases (field_place tree s) (filter (has_field tree s) names) f h in
    subst (Has (map (field_place tree s) names)) n.2 (Has-map (field_place tree s) names n.0 (has_filtered (has_field tree s) names n.0 n.1))

-- ---- needs

module _ (tree : Tree) (t : TaskTree) where
  at_place : (m : Mode) (ps : List Place) (p : Place) (n : NeedCode) → Has ps p → Has (needs_of_place tree t m p) n →
      Has (needs_of_places tree t m ps) n
  at_place m [] p n h i = absurd h
  at_place m (q ∷ ps) p n (inl e) i = Has-append_left (needs_of_place tree t m q) (needs_of_places tree t m ps) n
      (subst (λ y. Has (needs_of_place tree t m y) n) (sym e) i)
  at_place m (q ∷ ps) p n (inr h) i = Has-append_right (needs_of_place tree t m q) (needs_of_places tree t m ps) n (at_place m ps p n h i)

  at_grant : (gs : List Grant) (ps : List Place) (g : Grant) (n : NeedCode) → Has gs g → Has (needs_of_places tree t (mode_of_grant g) ps) n →
      Has (needs_of_grants tree t gs ps) n
  at_grant [] ps g n h i = absurd h
  at_grant (q ∷ gs) ps g n (inl e) i = Has-append_left (needs_of_places tree t (mode_of_grant q) ps) (needs_of_grants tree t gs ps) n
      (subst (λ y. Has (needs_of_places tree t (mode_of_grant y) ps) n) (sym e) i)
  at_grant (q ∷ gs) ps g n (inr h) i = Has-append_right (needs_of_places tree t (mode_of_grant q) ps) (needs_of_grants tree t gs ps) n (at_grant gs ps g n h i)

  at_clause : (cs : List Clause) (c : Clause) (n : NeedCode) → Has cs c → Has (needs_of_clause tree t c) n → Has (needs_of_clauses tree t cs) n
  at_clause [] c n h i = absurd h
  at_clause (d ∷ cs) c n (inl e) i = Has-append_left (needs_of_clause tree t d) (needs_of_clauses tree t cs) n
      (subst (λ y. Has (needs_of_clause tree t y) n) (sym e) i)
  at_clause (d ∷ cs) c n (inr h) i = Has-append_right (needs_of_clause tree t d) (needs_of_clauses tree t cs) n (at_clause cs c n h i)

  -- a privilege as a need
  abbrev pub need_of : Right → NeedCode
  need_of right = record { param = right.region; field = right.field; mode = mode_of right.access }

  -- it is a need, and on a parameter
  pub record IsNeed (right : Right) : Type 0 where
    pub there : Among (needs_of_clauses tree t t.clauses) (need_of right)
    pub low : right.region < length t.params

  module _ (sound : IsSoundTask tree t) where
    same_types : types_in_order (params_bound tree t.params) ≡ param_types tree t
    same_types = ap types_in_order sound.params

    within_types : (i : ℕ) → is_region (type_at (param_types tree t) i) ≡ true → i < length t.params
    within_types i e = elim (below i (length (param_types tree t))) [
      | inl l ↦ let many = types_many tree t in omega (arith, l, many)
      | inr h ↦ absurd (no_way_back (sym (ap is_region (get_or-eq_default (param_types tree t) unknown_type h)) ∙ e))
    ]

    of_place : (grants : List Grant) (p : Place) (right : Right) → Has (rights_of_place tree t.params grants p) right →
        (g : Grant) × Has grants g × Has (needs_of_place tree t (mode_of_grant g) p) (need_of right) × (right.region < length t.params)
    of_place grants p right h =
        let i = place_in t.params p.region in
        let u = type_at (types_in_order (params_bound tree t.params)) i in
        let found = on_region tree u i grants p.fields right h in
        let type : u ≡ type_at (param_types tree t) i = ap (λ ts. type_at ts i) same_types in
        let field = said_field tree (space_in u) p.fields found.field found.has_field in
        let there : Has (fields_said tree (space_named tree t p.region) p.fields) found.field =
        subst (λ y. Has (fields_said tree (space_in y) p.fields) found.field) type field in
        let need : NeedCode = record { param = i; field = found.field; mode = mode_of_grant found.grant } in
        let same : need ≡ need_of right = ap (λ m. record { param = i; field = found.field; mode = m }) (sym (same_mode found.grant)) ∙ ap need_of found.is in
        let low = within_types i (ap is_region (sym type) ∙ found.region) in (
          found.grant,
          found.has_grant,
          subst (Has (needs_of_place tree t (mode_of_grant found.grant) p)) same
              (Has-map (λ f. record { param = i; field = f; mode = mode_of_grant found.grant }) (fields_said tree (space_named tree t p.region) p.fields) found.field there),
          subst (λ j. j < length t.params) (ap (λ (r : Right). r.region) found.is) low,
        )

    pub is_need : (right : Right) → Has (rights_declared tree t) right → IsNeed right
    is_need right h =
        let c = has_flat (rights_of_clause tree t.params) t.clauses right h in of_clause c.0 c.1 c.2
      where
        of_clause : (c : Clause) → Has t.clauses c → Has (rights_of_clause tree t.params c) right → IsNeed right
        of_clause (clause.Grants grants places) hc hr =
            let p = has_flat (rights_of_place tree t.params grants) places right hr in
            let n = of_place grants p.0 right p.2 in record {
              there = has_among _ _ (at_clause t.clauses (clause.Grants grants places) (need_of right) hc
                  (at_grant grants places n.0 (need_of right) n.1 (at_place (mode_of_grant n.0) places p.0 (need_of right) p.1 n.2)));
              low = n.3;
            }
        of_clause (clause.Within a b) hc hr = absurd hr
        of_clause (clause.Apart a b) hc hr = absurd hr
