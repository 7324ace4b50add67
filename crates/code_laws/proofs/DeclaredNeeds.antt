-- What a task's code needs it declares, of parameters that are regions, and so it is with the constraints on them.
use Rattle.std.proofs.Common.{◌≡◌, ℕ, zero, suc, ◌+◌, ◌<◌, List, [], ◌∷◌, inl, inr, true, false, Option, Some, None, refl, sym, ap, ◌∙◌, subst, arith, ⊎_elim}
use Rattle.std.specs.Prelude.{Bool, bytes_eq, cond, filter, length, map, not}
use Rattle.std.specs.List.{list_all}
use Rattle.std.proofs.lemmas.Bool.{and_parts, not-false, or_parts}
use Rattle.lane_kernels.specs.declared.numbers.Mode.{Mode}
use Rattle.plain_values.specs.Points.{counted_from}
use Rattle.regent_tree.proofs.Members.{Has, Has-append_cases, Has-map, Has-map_cases}
use Rattle.regent_tree.specs.Accesses.{space_in}
use Rattle.regent_tree.specs.Cover.{space_named}
use Rattle.regent_tree.specs.Lookup.{has_field, is_bound, type_named}
use Rattle.regent_tree.specs.Scopes.{bound_as, bound_params, bound_to, known_of_clause, known_of_type, scope_of}
use Rattle.regent_tree.specs.StaticTypes.{field_place, place_in, space_at}
use Rattle.regent_tree.specs.Syntax.{Name, TaskTree, Tree}
use Rattle.regent_tree.specs.Typing.{param_types}
use Rattle.regent_tree.specs.declared.facts.Known.{Known}
use Rattle.regent_tree.specs.declared.facts.Known.TheVariants.{Apart, Made, PartOf, Within}
use Rattle.regent_tree.specs.declared.facts.Term.{Term}
use Rattle.regent_tree.specs.declared.facts.Term.TheVariants as term
use Rattle.regent_tree.specs.declared.program.Clause.{Clause}
use Rattle.regent_tree.specs.declared.program.Clause.TheVariants as clause
use Rattle.regent_tree.specs.declared.program.Grant.{Grant}
use Rattle.regent_tree.specs.declared.program.Place.{Place}
use Rattle.regent_tree.specs.declared.rights.Access.{Access}
use Rattle.regent_tree.specs.declared.types.Param.{Param}
use Rattle.regent_tree.specs.declared.typing.Bound.{Bound}
use Rattle.regent_tree.specs.declared.typing.StaticType.{StaticType}
use Rattle.regent_tree.specs.declared.typing.StaticType.TheVariants.{Index as index_type, Integer as integer_type, Ispace as ispace_type, Nothing as no_type, Partition as partition_type, Pointer as pointer_type, Region as region_type, Truth as truth_type, Unknown as unknown_type}
use Rattle.check_laws.proofs.Parameters.{AreWrittenParams, begins_soundly, number_is_place, region_placed}
use Rattle.check_laws.proofs.Scopes.{found_by_number}
use Rattle.check_laws.proofs.Sounding.{params_written}
use Rattle.check_rules.specs.rules.Clauses.{is_no_region, lacks_fields, misdeclares, misdeclares_place}
use Rattle.check_rules.specs.rules.Privileges.{a_right, access_of_grant, fields_named, rights_declared, rights_of_clause, rights_of_place, rights_on}
use Rattle.check_rules.specs.scopes.Sound.{IsSoundTask}
use Rattle.check_rules.specs.types.Declarations.{params_bound}
use Rattle.check_rules.specs.types.Lookup.{names_a, region_has}
use Rattle.check_rules.specs.types.Params.{types_in_order}
use Rattle.check_rules.specs.types.Sorts.{is_region, type_at}
use Rattle.expression_laws.proofs.Calls.{flat_has}
use Rattle.expression_laws.proofs.Params.{known_clause, known_param, none_has, param_type}
use Rattle.expression_laws.proofs.Steps.{all_has}
use Rattle.task_code.specs.declared.code.NeedCode.{NeedCode}
use Rattle.code_rules.specs.Needs.{fields_said, mode_of, needs_of_clause, needs_of_clauses, needs_of_grants, needs_of_place, needs_of_places}
use Rattle.code_laws.specs.Taking.{pairs_in}
use Rattle.code_laws.proofs.Privileges.{granted_mode, mode_in}
use Rattle.code_laws.proofs.Typing.{first_below, no_way_back}

-- ---- lists

has_filter : {A : Type 0} (test : A → Bool) (xs : List A) (y : A) → Has xs y → test y ≡ true → Has (filter test xs) y
has_filter test [] y h e = absurd h
has_filter test (x ∷ xs) y (inl same) e =
    subst (λ b. Has (cond b (x ∷ filter test xs) (filter test xs)) y) (sym (ap test same ∙ e)) (inl same)
has_filter test (x ∷ xs) y (inr h) e = chosen (test x) (has_filter test xs y h e)
  where
    chosen : (b : Bool) → Has (filter test xs) y → Has (cond b (x ∷ filter test xs) (filter test xs)) y
    chosen true g = inr g
    chosen false g = g

counted_below : (first n k : ℕ) → Has (counted_from first n) k → k < first + n
counted_below first zero k h = absurd h
counted_below first (suc n) k (inl same) = omega (arith, same)
counted_below first (suc n) k (inr h) = let l = counted_below (suc first) n k h in omega (arith, l)

-- ---- by the type of a parameter

rights_at : (tree : Tree) (u : StaticType) → is_region u ≡ true → (i : ℕ) (grants : List Grant) (fs : Option (List Name)) (g : Grant) (f : ℕ) → Has grants g →
    Has (fields_named tree (space_in u) fs) f → Has (rights_on tree u i grants fs) (a_right i f (access_of_grant g))
rights_at tree (region_type k sp args r) e i grants fs g f hg hf =
    flat_has (λ g. map (λ f. a_right i f (access_of_grant g)) (fields_named tree sp fs)) grants g (a_right i f (access_of_grant g)) hg
    (Has-map (λ f. a_right i f (access_of_grant g)) (fields_named tree sp fs) f hf)
rights_at tree (integer_type _) e i grants fs g f hg hf = absurd (no_way_back e)
rights_at tree truth_type e i grants fs g f hg hf = absurd (no_way_back e)
rights_at tree (index_type _) e i grants fs g f hg hf = absurd (no_way_back e)
rights_at tree (pointer_type _ _ _ _) e i grants fs g f hg hf = absurd (no_way_back e)
rights_at tree (ispace_type _) e i grants fs g f hg hf = absurd (no_way_back e)
rights_at tree (partition_type _ _ _) e i grants fs g f hg hf = absurd (no_way_back e)
rights_at tree no_type e i grants fs g f hg hf = absurd (no_way_back e)
rights_at tree unknown_type e i grants fs g f hg hf = absurd (no_way_back e)

named_has : (tree : Tree) (u : StaticType) (f : Name) → is_region u ≡ true → region_has tree u f ≡ true → has_field tree (space_in u) f ≡ true
named_has tree (region_type k sp args r) f e has = has
named_has tree (integer_type _) f e has = absurd (no_way_back e)
named_has tree truth_type f e has = absurd (no_way_back e)
named_has tree (index_type _) f e has = absurd (no_way_back e)
named_has tree (pointer_type _ _ _ _) f e has = absurd (no_way_back e)
named_has tree (ispace_type _) f e has = absurd (no_way_back e)
named_has tree (partition_type _ _ _) f e has = absurd (no_way_back e)
named_has tree no_type f e has = absurd (no_way_back e)
named_has tree unknown_type f e has = absurd (no_way_back e)

abbrev IsPart : Known → Type 0
IsPart (PartOf p r d) = Unit {0}
IsPart (Within a b) = ⊥
IsPart (Apart a b) = ⊥
IsPart (Made s) = ⊥

-- a parameter's type doesn't tell that one region lies within another
pub none_within : (u : StaticType) (k : Known) → Has (known_of_type u) k → (a b : Term) → k ≡ Within a b → ⊥
none_within (partition_type d r p) k (inl same) a b e = absurd (subst IsPart (same ∙ e) tt)
none_within (partition_type d r p) k (inr h) a b e = h
none_within (region_type _ _ _ _) k h a b e = h
none_within (integer_type _) k h a b e = h
none_within truth_type k h a b e = h
none_within (index_type _) k h a b e = h
none_within (pointer_type _ _ _ _) k h a b e = h
none_within (ispace_type _) k h a b e = h
none_within no_type k h a b e = h
none_within unknown_type k h a b e = h

-- nor that one was made
pub none_made : (u : StaticType) (k : Known) → Has (known_of_type u) k → (i : ℕ) → k ≡ Made i → ⊥
none_made (partition_type d r p) k (inl same) i e = absurd (subst IsPart (same ∙ e) tt)
none_made (partition_type d r p) k (inr h) i e = h
none_made (region_type _ _ _ _) k h i e = h
none_made (integer_type _) k h i e = h
none_made truth_type k h i e = h
none_made (index_type _) k h i e = h
none_made (pointer_type _ _ _ _) k h i e = h
none_made (ispace_type _) k h i e = h
none_made no_type k h i e = h
none_made unknown_type k h i e = h

-- a pair that is told is listed
pub pair_listed : (ks : List Known) (i j : ℕ) → Has ks (Within (term.Name i) (term.Name j)) → Has (pairs_in ks) (i, j)
pair_listed [] i j h = absurd h
pair_listed (k ∷ ks) i j (inl same) =
    subst (λ q. Has (pairs_in (q ∷ ks)) (i, j)) (sym same) (inl refl)
pair_listed (Within (term.Name a) (term.Name b) ∷ ks) i j (inr h) = inr (pair_listed ks i j h)
pair_listed (Within (term.Name a) (term.Child _ _) ∷ ks) i j (inr h) = pair_listed ks i j h
pair_listed (Within (term.Child _ _) b ∷ ks) i j (inr h) = pair_listed ks i j h
pair_listed (Apart a b ∷ ks) i j (inr h) = pair_listed ks i j h
pair_listed (PartOf q r d ∷ ks) i j (inr h) = pair_listed ks i j h
pair_listed (Made s ∷ ks) i j (inr h) = pair_listed ks i j h

-- a pair is told
pair_told : (ks : List Known) (p : ℕ × ℕ) → Has (pairs_in ks) p → Has ks (Within (term.Name p.0) (term.Name p.1))
pair_told [] p h = absurd h
pair_told (Within (term.Name a) (term.Name b) ∷ ks) p (inl same) =
    inl (ap (λ (q : ℕ × ℕ). Within (term.Name q.0) (term.Name q.1)) same)
pair_told (Within (term.Name a) (term.Name b) ∷ ks) p (inr h) = inr (pair_told ks p h)
pair_told (Within (term.Name a) (term.Child _ _) ∷ ks) p h = inr (pair_told ks p h)
pair_told (Within (term.Child _ _) b ∷ ks) p h = inr (pair_told ks p h)
pair_told (Apart a b ∷ ks) p h = inr (pair_told ks p h)
pair_told (PartOf q r d ∷ ks) p h = inr (pair_told ks p h)
pair_told (Made s ∷ ks) p h = inr (pair_told ks p h)

-- ---- a task

module _ (tree : Tree) (t : TaskTree) (sound : IsSoundTask tree t) where
  abbrev names : List Bound
  names = bound_params tree t.params 0 t.params

  written : AreWrittenParams tree t.params
  written = params_written tree t sound

  -- a name of a clause is a parameter that is a region
  pub record IsRegionParam (n : Name) : Type 0 where
    pub low : place_in t.params n < length t.params
    pub region : is_region (type_at (param_types tree t) (place_in t.params n)) ≡ true
    pub typed : type_named (params_bound tree t.params) n ≡ type_at (param_types tree t) (place_in t.params n)

  pub region_param : (n : Name) → is_no_region (params_bound tree t.params) n ≡ false → IsRegionParam n
  region_param n e =
      let here : not (names_a is_region names n) ≡ false = subst (λ bs. is_no_region bs n ≡ false) sound.params e in
      let placed = region_placed tree t.params (scope_of tree t) refl refl written.once written.named n here in
      let bound = (and_parts (is_bound names n) _ (not-false (names_a is_region names n) here)).0 in
      let scope = begins_soundly tree t.params (scope_of tree t) refl refl written.once written.named in
      let number : (bound_to names n).number ≡ place_in t.params n =
      number_is_place tree t.params 0 t.params [] written.once n bound ∙ omega arith in
      let type = param_type tree t (place_in t.params n) in record {
        low = placed.1;
        region = ap is_region (sym type) ∙ placed.0;
        typed = ap (λ bs. type_named bs n) sound.params
            ∙ ap (λ (b : Bound). b.static_type) (sym (found_by_number (length t.params) names n scope.numbers bound).0)
            ∙ ap (λ i. (bound_as names i).static_type) number ∙ type;
      }

  -- ---- constraints

  abbrev number_in : Term → ℕ
  number_in (term.Name i) = i
  number_in (term.Child p c) = 0

  abbrev lower_in : Known → ℕ
  lower_in (Within a b) = number_in a
  lower_in k = 0

  abbrev upper_in : Known → ℕ
  upper_in (Within a b) = number_in b
  upper_in k = 0

  abbrev IsWithin : Known → Type 0
  IsWithin (Within a b) = Unit {0}
  IsWithin k = ⊥

  -- a pair is told by a clause, of two parameters that are regions
  pub record IsConstrained (p : ℕ × ℕ) : Type 0 where
    pub lower : Name
    pub upper : Name
    pub told : Has t.clauses (clause.Within lower upper)
    pub low : IsRegionParam lower
    pub high : IsRegionParam upper
    pub are : (place_in t.params lower ≡ p.0) × (place_in t.params upper ≡ p.1)

  abbrev told_pair : ℕ × ℕ → Known
  told_pair p = Within (term.Name p.0) (term.Name p.1)

  pub pair_constrained : (p : ℕ × ℕ) → Has (pairs_in (scope_of tree t).known) p → IsConstrained p
  pair_constrained p h = ⊎_elim
      (λ a. let b = known_param names (told_pair p) a in absurd (none_within b.0.static_type (told_pair p) b.2 (term.Name p.0) (term.Name p.1) refl))
      (λ a. let c = known_clause t.params t.clauses (told_pair p) a in
      by_clause c.0 c.1 (none_has (misdeclares tree (params_bound tree t.params)) t.clauses c.0 sound.clauses c.1) c.2)
      (Has-append_cases _ _ (told_pair p) (pair_told (scope_of tree t).known p h))
    where
      by_clause : (c : Clause) → Has t.clauses c → misdeclares tree (params_bound tree t.params) c ≡ false → Has (known_of_clause t.params c) (told_pair p) → IsConstrained p
      by_clause (clause.Within a b) hc e (inl same) =
          let parts = or_parts (is_no_region (params_bound tree t.params) a) _ e in record {
            lower = a;
            upper = b;
            told = hc;
            low = region_param a parts.0;
            high = region_param b parts.1;
            are = (ap lower_in same, ap upper_in same);
          }
      by_clause (clause.Within a b) hc e (inr g) = absurd g
      by_clause (clause.Apart a b) hc e (inl same) = absurd (subst IsWithin (sym same) tt)
      by_clause (clause.Apart a b) hc e (inr g) = absurd g
      by_clause (clause.Grants grants places) hc e g = absurd g

  -- ---- needs

  module _ (named : (sp i : ℕ) → i < length (space_at tree sp).fields → Has (fields_named tree sp None) i) where
    -- a need is declared as a privilege on a parameter that is a region
    pub record IsDeclared (n : NeedCode) : Type 0 where
      pub access : Access
      pub mode : mode_in access ≡ n.mode
      pub right : Has (rights_declared tree t) (a_right n.param n.field access)
      pub region : is_region (type_at (param_types tree t) n.param) ≡ true
      pub field : n.field < length (space_at tree (space_in (type_at (param_types tree t) n.param))).fields

    -- a field that a place says, it names
    said_named : (u : StaticType) → is_region u ≡ true → (fs : Option (List Name)) → lacks_fields tree u fs ≡ false → (f : ℕ) →
        Has (fields_said tree (space_in u) fs) f → Has (fields_named tree (space_in u) fs) f × (f < length (space_at tree (space_in u)).fields)
    said_named u e None lacking f h =
        let l = counted_below 0 (length (space_at tree (space_in u)).fields) f h in
        let low : f < length (space_at tree (space_in u)).fields = omega (arith, l) in
        (named (space_in u) f low, low)
    said_named u e (Some fs) lacking f h =
        let n = Has-map_cases (field_place tree (space_in u)) fs f h in
        let there = named_has tree u n.0 e (all_has (region_has tree u) fs n.0 (not-false (list_all (region_has tree u) fs) lacking) n.1) in (
          subst (Has (map (field_place tree (space_in u)) (filter (has_field tree (space_in u)) fs))) n.2
              (Has-map (field_place tree (space_in u)) (filter (has_field tree (space_in u)) fs) n.0 (has_filter (has_field tree (space_in u)) fs n.0 n.1 there)),
          subst (λ k. k < length (space_at tree (space_in u)).fields) n.2
              (first_below (λ (p : Param). bytes_eq p.name n.0) (space_at tree (space_in u)).fields there),
        )

    of_place : (grants : List Grant) (g : Grant) (p : Place) (n : NeedCode) → Has grants g → misdeclares_place tree (params_bound tree t.params) p ≡ false →
        Has (needs_of_place tree t (mode_of g) p) n → (Has (rights_of_place tree t.params grants p) (a_right n.param n.field (access_of_grant g)))
        × (mode_in (access_of_grant g) ≡ n.mode) × (is_region (type_at (param_types tree t) n.param) ≡ true)
        × (n.field < length (space_at tree (space_in (type_at (param_types tree t) n.param))).fields)
    of_place grants g p n hg e h =
        let parts = or_parts (is_no_region (params_bound tree t.params) p.region) _ e in
        let i = place_in t.params p.region in
        let is = region_param p.region parts.0 in
        let u = type_at (param_types tree t) i in
        let f = Has-map_cases (λ f. record { param = i; field = f; mode = mode_of g }) (fields_said tree (space_named tree t p.region) p.fields) n h in
        let field = said_named u is.region p.fields (subst (λ v. lacks_fields tree v p.fields ≡ false) is.typed parts.1) f.0 f.1 in
        let order : types_in_order (params_bound tree t.params) ≡ param_types tree t = ap types_in_order sound.params in
        let right = rights_at tree u is.region i grants p.fields g f.0 hg field.0 in
        subst (λ (n : NeedCode). (Has (rights_of_place tree t.params grants p) (a_right n.param n.field (access_of_grant g)))
        × (mode_in (access_of_grant g) ≡ n.mode) × (is_region (type_at (param_types tree t) n.param) ≡ true)
        × (n.field < length (space_at tree (space_in (type_at (param_types tree t) n.param))).fields)) f.2 (
          subst (λ ts. Has (rights_on tree (type_at ts i) i grants p.fields) (a_right i f.0 (access_of_grant g))) (sym order) right,
          sym (granted_mode g),
          is.region,
          field.1,
        )

    at_place : (m : Mode) (ps : List Place) (n : NeedCode) → Has (needs_of_places tree t m ps) n → (p : Place) × Has ps p × Has (needs_of_place tree t m p) n
    at_place m [] n h = absurd h
    at_place m (p ∷ ps) n h = ⊎_elim (λ a. (p, inl refl, a)) (λ a. let r = at_place m ps n a in (r.0, inr r.1, r.2))
        (Has-append_cases (needs_of_place tree t m p) (needs_of_places tree t m ps) n h)

    at_grant : (gs : List Grant) (ps : List Place) (n : NeedCode) → Has (needs_of_grants tree t gs ps) n →
        (g : Grant) × Has gs g × Has (needs_of_places tree t (mode_of g) ps) n
    at_grant [] ps n h = absurd h
    at_grant (g ∷ gs) ps n h = ⊎_elim (λ a. (g, inl refl, a)) (λ a. let r = at_grant gs ps n a in (r.0, inr r.1, r.2))
        (Has-append_cases (needs_of_places tree t (mode_of g) ps) (needs_of_grants tree t gs ps) n h)

    at_clause : (cs : List Clause) (n : NeedCode) → Has (needs_of_clauses tree t cs) n → (c : Clause) × Has cs c × Has (needs_of_clause tree t c) n
    at_clause [] n h = absurd h
    at_clause (c ∷ cs) n h = ⊎_elim (λ a. (c, inl refl, a)) (λ a. let r = at_clause cs n a in (r.0, inr r.1, r.2))
        (Has-append_cases (needs_of_clause tree t c) (needs_of_clauses tree t cs) n h)

    pub need_declared : (n : NeedCode) → Has (needs_of_clauses tree t t.clauses) n → IsDeclared n
    need_declared n h =
        let c = at_clause t.clauses n h in
        by_clause c.0 c.1 (none_has (misdeclares tree (params_bound tree t.params)) t.clauses c.0 sound.clauses c.1) c.2
      where
        by_clause : (c : Clause) → Has t.clauses c → misdeclares tree (params_bound tree t.params) c ≡ false → Has (needs_of_clause tree t c) n → IsDeclared n
        by_clause (clause.Within a b) hc e k = absurd k
        by_clause (clause.Apart a b) hc e k = absurd k
        by_clause (clause.Grants grants places) hc e k =
            let g = at_grant grants places n k in
            let p = at_place (mode_of g.0) places n g.2 in
            let is = of_place grants g.0 p.0 n g.1 (none_has (misdeclares_place tree (params_bound tree t.params)) places p.0 e p.1) p.2 in
            let right = a_right n.param n.field (access_of_grant g.0) in record {
              access = access_of_grant g.0;
              mode = is.1;
              right = flat_has (rights_of_clause tree t.params) t.clauses (clause.Grants grants places) right hc
                  (flat_has (rights_of_place tree t.params grants) places p.0 right p.1 is.0);
              region = is.2;
              field = is.3;
            }

    -- where no parameter is a region nothing is needed
    pub needs_none : ((i : ℕ) → is_region (type_at (param_types tree t) i) ≡ false) → needs_of_clauses tree t t.clauses ≡ []
    needs_none none = by_needs (needs_of_clauses tree t t.clauses) refl
      where
        by_needs : (ns : List NeedCode) → needs_of_clauses tree t t.clauses ≡ ns → ns ≡ []
        by_needs [] e = refl
        by_needs (n ∷ ns) e =
            let d = need_declared n (subst (λ ms. Has ms n) (sym e) (inl refl)) in absurd (no_way_back (sym (none n.param) ∙ d.region))
