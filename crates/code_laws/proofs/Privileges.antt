-- What the rules allow a task to do with a region that it took, its code needs.
use Rattle.std.proofs.Common.{◌≡◌, ◌⊎◌, ℕ, zero, suc, ◌<◌, ◌≤◌, List, [], ◌∷◌, inl, inr, true, Option, refl, sym, ap, ◌∙◌, subst, arith, ⊎_elim}
use Rattle.std.specs.Prelude.{Bool, IsTrue, get_or, length, map, ◌==◌, ◌&&◌, ◌||◌}
use Rattle.std.specs.List.{Contains, list_any}
use Rattle.std.proofs.lemmas.Bool.{and_from, and_parts, or_cases, or_left, or_right}
use Rattle.lane_kernels.specs.declared.numbers.Mode.{Mode}
use Rattle.lane_kernels.specs.declared.numbers.Mode.TheVariants as mode
use Rattle.lane_kernels.specs.declared.numbers.Op.{Op}
use Rattle.lane_kernels.proofs.SameOps.{same_op-tells}
use Rattle.region_tree.proofs.Joins.{same_mode-itself}
use Rattle.region_tree.specs.Requirements.{same_mode}
use Rattle.constraint_check.proofs.Table.{is_subregion-derivable}
use Rattle.constraint_check.specs.Derivations.{IsBelow, child, same, through, told_within, variable}
use Rattle.regent_tree.proofs.Members.{Contains-from_Has, Has, Has-from_Contains, Has-from_list_any, Has-map, Has-map_cases, list_any-from_Has}
use Rattle.regent_tree.specs.Accesses.{space_in}
use Rattle.regent_tree.specs.Cover.{space_named}
use Rattle.regent_tree.specs.Facts.{is_certain, is_subregion}
use Rattle.regent_tree.specs.Rights.{gives, is_held, same_access}
use Rattle.regent_tree.specs.Scopes.{scope_of}
use Rattle.regent_tree.specs.StaticTypes.{place_in}
use Rattle.regent_tree.specs.Syntax.{Name, TaskTree, Tree}
use Rattle.regent_tree.specs.Typing.{param_types}
use Rattle.regent_tree.specs.declared.facts.Colour.{Colour}
use Rattle.regent_tree.specs.declared.facts.Known.{Known}
use Rattle.regent_tree.specs.declared.facts.Known.TheVariants.{Apart, Made, PartOf, Within}
use Rattle.regent_tree.specs.declared.facts.Term.{Term}
use Rattle.regent_tree.specs.declared.facts.Term.TheVariants as term
use Rattle.regent_tree.specs.declared.program.Clause.{Clause}
use Rattle.regent_tree.specs.declared.program.Clause.TheVariants as clause
use Rattle.regent_tree.specs.declared.program.Grant.{Grant}
use Rattle.regent_tree.specs.declared.program.Grant.TheVariants.{Reads, Reduces, Writes}
use Rattle.regent_tree.specs.declared.program.Place.{Place}
use Rattle.regent_tree.specs.declared.rights.Access.{Access}
use Rattle.regent_tree.specs.declared.rights.Access.TheVariants as access
use Rattle.regent_tree.specs.declared.rights.Right.{Right}
use Rattle.regent_tree.specs.declared.typing.StaticType.{StaticType}
use Rattle.regent_tree.specs.declared.typing.StaticType.TheVariants.{Index as index_type, Integer as integer_type, Ispace as ispace_type, Nothing as no_type, Partition as partition_type, Pointer as pointer_type, Region as region_type, Truth as truth_type, Unknown as unknown_type}
use Rattle.check_laws.proofs.Trees.{has_flat}
use Rattle.check_rules.specs.rules.Privileges.{a_right, access_of_grant, fields_named, made_above, may_do, rights_declared, rights_of_clause, rights_of_place, rights_on, wanting}
use Rattle.check_rules.specs.scopes.Sound.{IsSoundTask}
use Rattle.check_rules.specs.types.Declarations.{params_bound}
use Rattle.check_rules.specs.types.Params.{types_in_order}
use Rattle.check_rules.specs.types.Sorts.{is_region, type_at}
use Rattle.task_code.specs.declared.code.NeedCode.{NeedCode}
use Rattle.code_rules.specs.Needs.{fields_said, mode_of, needs_of_clause, needs_of_clauses, needs_of_place}
use Rattle.code_laws.specs.Handing.{taking_of}
use Rattle.code_laws.specs.Privileges.{AllowedIsNeeded, BeganAsPart, IsKnownBehind}
use Rattle.code_laws.specs.Steps.{Taking}
use Rattle.code_laws.specs.Taking.{LiesUp, allows, is_need, is_part, known_of_pairs, pairs_in, up_itself, up_part}
use Rattle.code_laws.proofs.Openings.{params_length, types_length}
use Rattle.code_laws.proofs.Values.{not_true}
use Rattle.code_laws.proofs.NeedsListed.{clauses_have, fields_are, grants_have, places_have}

-- ---- declared privileges are needs

-- the mode of an access
abbrev pub mode_in : Access → Mode
mode_in access.Read = mode.Read
mode_in access.Write = mode.Write
mode_in (access.Reduce o) = mode.Reduce o

pub granted_mode : (g : Grant) → mode_of g ≡ mode_in (access_of_grant g)
granted_mode Reads = refl
granted_mode Writes = refl
granted_mode (Reduces o) = refl

abbrev need_of : Right → NeedCode
need_of r = record { param = r.region; field = r.field; mode = mode_in r.access }

-- a region's type among others has a place below their number
region_there : (ts : List StaticType) (i : ℕ) → is_region (get_or ts i unknown_type) ≡ true → i < length ts
region_there [] i e = absurd (not_true e)
region_there (t ∷ ts) zero e = omega arith
region_there (t ∷ ts) (suc i) e = let more = region_there ts i e in omega (arith, more)

module _ (tree : Tree) (t : TaskTree) (sound : IsSoundTask tree t) where
  params_many : length (param_types tree t) ≡ length t.params
  params_many = types_length (scope_of tree t).names ∙ params_length tree t.params 0 t.params

  -- the privilege of a place, by its parameter's type
  right_needed : (u : StaticType) (grants : List Grant) (p : Place) (right : Right) →
      get_or (param_types tree t) (place_in t.params p.region) unknown_type ≡ u → Has (rights_on tree u (place_in t.params p.region) grants p.fields) right →
      (g : Grant) × Has grants g × Has (needs_of_place tree t (mode_of g) p) (need_of right)
  right_needed (region_type k sp args r) grants p right typed h =
      let i = place_in t.params p.region in
      let g = has_flat (λ g. map (λ f. a_right i f (access_of_grant g)) (fields_named tree sp p.fields)) grants right h in
      let f = Has-map_cases (λ f. a_right i f (access_of_grant g.0)) (fields_named tree sp p.fields) right g.2 in (
        g.0,
        g.1,
        subst (Has (needs_of_place tree t (mode_of g.0) p)) (ap (λ m. record { param = i; field = f.0; mode = m }) (granted_mode g.0) ∙ ap need_of f.2)
            (Has-map (λ f. record { param = i; field = f; mode = mode_of g.0 }) (fields_said tree (space_named tree t p.region) p.fields) f.0
            (subst (λ s. Has (fields_said tree s p.fields) f.0) (sym (ap space_in typed)) (fields_are tree sp p.fields f.0 f.1))),
      )
  right_needed (integer_type _) grants p right typed h = absurd h
  right_needed truth_type grants p right typed h = absurd h
  right_needed (index_type _) grants p right typed h = absurd h
  right_needed (pointer_type _ _ _ _) grants p right typed h = absurd h
  right_needed (ispace_type _) grants p right typed h = absurd h
  right_needed (partition_type _ _ _) grants p right typed h = absurd h
  right_needed no_type grants p right typed h = absurd h
  right_needed unknown_type grants p right typed h = absurd h

  clause_needed : (c : Clause) (right : Right) → Has (rights_of_clause tree t.params c) right → Has (needs_of_clause tree t c) (need_of right)
  clause_needed (clause.Within a b) right h = absurd h
  clause_needed (clause.Apart a b) right h = absurd h
  clause_needed (clause.Grants grants places) right h =
      let p = has_flat (rights_of_place tree t.params grants) places right h in
      let i = place_in t.params p.0.region in
      let order : types_in_order (params_bound tree t.params) ≡ param_types tree t = ap types_in_order sound.params in
      let n = right_needed (get_or (param_types tree t) i unknown_type) grants p.0 right refl
      (subst (λ ts. Has (rights_on tree (type_at ts i) i grants p.0.fields) right) order p.2) in
      grants_have tree t grants places n.0 (need_of right) n.1 (places_have tree t (mode_of n.0) places p.0 (need_of right) p.1 n.2)

  rights_needed : (right : Right) → Has (rights_declared tree t) right → Has (needs_of_clauses tree t t.clauses) (need_of right)
  rights_needed right h =
      let c = has_flat (rights_of_clause tree t.params) t.clauses right h in
      clauses_have tree t t.clauses c.0 (need_of right) c.1 (clause_needed c.0 right c.2)

  -- and is a parameter's
  right_low : (u : StaticType) (i : ℕ) (grants : List Grant) (o : Option (List Name)) (right : Right) → (is_region u ≡ true → i < length t.params) →
      Has (rights_on tree u i grants o) right → right.region < length t.params
  right_low (region_type k sp args r) i grants o right low h =
      let g = has_flat (λ g. map (λ f. a_right i f (access_of_grant g)) (fields_named tree sp o)) grants right h in
      let f = Has-map_cases (λ f. a_right i f (access_of_grant g.0)) (fields_named tree sp o) right g.2 in
      let there = low refl in
      let same : i ≡ right.region = ap (λ (v : Right). v.region) f.2 in omega (arith, there, same)
  right_low (integer_type _) i grants o right low h = absurd h
  right_low truth_type i grants o right low h = absurd h
  right_low (index_type _) i grants o right low h = absurd h
  right_low (pointer_type _ _ _ _) i grants o right low h = absurd h
  right_low (ispace_type _) i grants o right low h = absurd h
  right_low (partition_type _ _ _) i grants o right low h = absurd h
  right_low no_type i grants o right low h = absurd h
  right_low unknown_type i grants o right low h = absurd h

  clause_low : (c : Clause) (right : Right) → Has (rights_of_clause tree t.params c) right → right.region < length t.params
  clause_low (clause.Within a b) right h = absurd h
  clause_low (clause.Apart a b) right h = absurd h
  clause_low (clause.Grants grants places) right h =
      let p = has_flat (rights_of_place tree t.params grants) places right h in
      let i = place_in t.params p.0.region in
      let order : types_in_order (params_bound tree t.params) ≡ param_types tree t = ap types_in_order sound.params in
      right_low (get_or (param_types tree t) i unknown_type) i grants p.0.fields right
      (λ region. let there = region_there (param_types tree t) i region in let long = params_many in omega (arith, there, long))
      (subst (λ ts. Has (rights_on tree (type_at ts i) i grants p.0.fields) right) order p.2)

  rights_low : (right : Right) → Has (rights_declared tree t) right → right.region < length t.params
  rights_low right h =
      let c = has_flat (rights_of_clause tree t.params) t.clauses right h in clause_low c.0 right c.2

  -- ---- what is derived of parameters, is derived of what the head tells

  module _ (known : List Known) (head : IsKnownBehind tree t known) where
    abbrev pairs : List (ℕ × ℕ)
    pairs = pairs_in (scope_of tree t).known

    abbrev IsName : Term → Type 0
    IsName (term.Name i) = Unit {0}
    IsName (term.Child p c) = ⊥

    abbrev number_in : Term → ℕ
    number_in (term.Name i) = i
    number_in (term.Child p c) = 0

    -- a term is a parameter's, within whose region a parameter's lies
    record Above (i : ℕ) (b : Term) : Type 0 where
      number : ℕ
      is : b ≡ term.Name number
      low : number < length t.params
      below : IsBelow (known_of_pairs pairs) (term.Name i) (term.Name number)

    restricted : (a b : Term) → IsBelow known a b → (i : ℕ) → a ≡ term.Name i → i < length t.params → Above i b
    restricted a _ same i e l = record { number = i; is = e; low = l; below = same }
    restricted a b (told_within c) i e l =
        let w = head.within i b l (subst (λ a. Contains known (Within a b)) e c) in record {
          number = w.0;
          is = w.1;
          low = w.2;
          below = told_within (Contains-from_Has (known_of_pairs pairs) (Within (term.Name i) (term.Name w.0))
              (Has-map (λ (p : ℕ × ℕ). Within (term.Name p.0) (term.Name p.1)) pairs (i, w.0) (Has-from_Contains pairs (i, w.0) w.3)));
        }
    restricted a b (through p q) i e l =
        let m = restricted a _ p i e l in
        let n = restricted _ b q m.number m.is m.low in
        record { number = n.number; is = n.is; low = n.low; below = through m.below n.below }
    restricted _ _ (child c) i e l = absurd (subst IsName (sym e) tt)
    restricted a b (variable c) i e l =
        let w = head.within i b l (subst (λ a. Contains known (Within a b)) e c) in absurd (subst IsName (sym w.1) tt)

    pub part_of : (i j : ℕ) → i < length t.params → is_subregion known (term.Name i) (term.Name j) ≡ true →
        (j < length t.params) × (is_subregion (known_of_pairs pairs) (term.Name i) (term.Name j) ≡ true)
    part_of i j l e =
        let s = (is_subregion-derivable known (term.Name i) (term.Name j)).0 e in
        let r = restricted (term.Name i) (term.Name j) s.below i refl l in
        let same_number : j ≡ r.number = ap number_in r.is in (
          omega (arith, r.low, same_number),
          (is_subregion-derivable (known_of_pairs pairs) (term.Name i) (term.Name j)).1 (record {
            below = subst (λ n. IsBelow (known_of_pairs pairs) (term.Name i) (term.Name n)) (sym same_number) r.below;
            certain = s.certain;
          }),
        )

    access_tells : (a b : Access) → same_access a b ≡ true → a ≡ b
    access_tells access.Read access.Read e = refl
    access_tells access.Write access.Write e = refl
    access_tells (access.Reduce p) (access.Reduce q) e = ap access.Reduce (same_op-tells p q e)
    access_tells access.Read access.Write e = absurd (not_true e)
    access_tells access.Read (access.Reduce q) e = absurd (not_true e)
    access_tells access.Write access.Read e = absurd (not_true e)
    access_tells access.Write (access.Reduce q) e = absurd (not_true e)
    access_tells (access.Reduce p) access.Read e = absurd (not_true e)
    access_tells (access.Reduce p) access.Write e = absurd (not_true e)

    abbrev y : Taking
    y = taking_of tree t

    -- a privilege that is held is among the needs
    held_needed : (i field : ℕ) (a : Access) (m : Mode) → i < length t.params → is_held (rights_declared tree t) known (term.Name i) field a ≡ true →
        allows (mode_in a) m ≡ true → list_any (is_need y i field m) y.needs ≡ true
    held_needed i field a m l e ok =
        let f = Has-from_list_any (gives known (term.Name i) field a) (rights_declared tree t) e in
        let one = and_parts ((f.0.field == field) && same_access f.0.access a) (is_subregion known (term.Name i) (term.Name f.0.region)) f.2 in
        let two = and_parts (f.0.field == field) (same_access f.0.access a) one.0 in
        let n = need_of f.0 in
        list_any-from_Has (is_need y i field m) y.needs n (rights_needed f.0 f.1)
        (and_from (is_part y i n.param) ((n.field == field) && allows n.mode m) (part_of i f.0.region l one.1).1
        (and_from (n.field == field) (allows n.mode m) two.0 (subst (λ a. allows (mode_in a) m ≡ true) (sym (access_tells f.0.access a two.1)) ok)))

    none_made : (i : ℕ) → i < length t.params → list_any (made_above known (term.Name i)) known ≡ true → ⊥
    none_made i l e =
        let k = Has-from_list_any (made_above known (term.Name i)) known e in by_fact k.0 k.1 k.2
      where
        by_fact : (k : Known) → Has known k → made_above known (term.Name i) k ≡ true → ⊥
        by_fact (Made s) h e = absurd (omega (arith, (part_of i s l e).0, head.made s (Contains-from_Has known (Made s) h)))
        by_fact (Within a b) h e = not_true e
        by_fact (Apart a b) h e = not_true e
        by_fact (PartOf p r d) h e = not_true e

    itself : (m : Mode) → allows m m ≡ true
    itself m = or_left (same_mode m m) (same_mode m mode.Write) (same_mode-itself m)

    pub reads : (i field : ℕ) → may_do (rights_declared tree t) known (wanting field access.Read (term.Name i)) ≡ true →
        i < length t.params → list_any (is_need y i field mode.Read) y.needs ≡ true
    reads i field e l = ⊎_elim (λ held. held_needed i field access.Read mode.Read l held (itself mode.Read)) (λ made. absurd (none_made i l made))
        (or_cases _ (list_any (made_above known (term.Name i)) known) e)

    pub writes : (i field : ℕ) → may_do (rights_declared tree t) known (wanting field access.Write (term.Name i)) ≡ true →
        i < length t.params → list_any (is_need y i field mode.Write) y.needs ≡ true
    writes i field e l = ⊎_elim (λ held. held_needed i field access.Write mode.Write l held (itself mode.Write)) (λ made. absurd (none_made i l made))
        (or_cases _ (list_any (made_above known (term.Name i)) known) e)

    pub reduces : (i field : ℕ) (o : Op) → may_do (rights_declared tree t) known (wanting field (access.Reduce o) (term.Name i)) ≡ true →
        i < length t.params → list_any (is_need y i field (mode.Reduce o)) y.needs ≡ true
    reduces i field o e l = ⊎_elim
        (λ granted. ⊎_elim
        (λ held. held_needed i field (access.Reduce o) (mode.Reduce o) l held (itself (mode.Reduce o)))
        (λ both. held_needed i field access.Write (mode.Reduce o) l (and_parts (is_held (rights_declared tree t) known (term.Name i) field access.Read) _ both).1 refl)
        (or_cases (is_held (rights_declared tree t) known (term.Name i) field (access.Reduce o)) _ granted))
        (λ made. absurd (none_made i l made))
        (or_cases _ (list_any (made_above known (term.Name i)) known) e)

    -- ---- what may be done with a region that began as a part, may be done with the whole

    module _ (i r : ℕ) (high : length t.params ≤ i) (began : BeganAsPart known i r) where
      part_up : (a b : Term) → IsBelow known a b → (p : ℕ) (c : Colour) → a ≡ term.Child p c → ((q : ℕ) (d : Bool) → Contains known (PartOf p q d) → q ≡ r) →
          (b ≡ term.Child p c) ⊎ IsBelow known (term.Name r) b
      part_up a _ same p c e sole = inl e
      part_up a b (told_within k) p c e sole = absurd (head.lower p c b (subst (λ a. Contains known (Within a b)) e k))
      part_up a b (through x z) p c e sole = ⊎_elim (λ d. part_up _ b z p c d sole) (λ below. inr (through below z)) (part_up a _ x p c e sole)
      part_up _ _ (child k) p c e sole = over_child _ _ _ _ k p c e sole
        where
          partition_in : Term → ℕ
          partition_in (term.Name n) = 0
          partition_in (term.Child p c) = p

          over_child : (q u : ℕ) (f : Colour) (d : Bool) → Contains known (PartOf q u d) → (p : ℕ) (c : Colour) → term.Child q f ≡ term.Child p c →
              ((q : ℕ) (d : Bool) → Contains known (PartOf p q d) → q ≡ r) → (term.Name u ≡ term.Child p c) ⊎ IsBelow known (term.Name r) (term.Name u)
          over_child q u f d k p c e sole =
              inr (subst (λ n. IsBelow known (term.Name r) (term.Name n)) (sym (sole u d (subst (λ n. Contains known (PartOf n u d)) (ap partition_in e) k))) same)
      part_up _ b (variable k) p c e sole = absurd (subst IsName e tt)

      -- up to the region itself, to a part, or to what the whole lies within
      data Reaches (b : Term) : Type 0 where
        reaches_itself : b ≡ term.Name i → Reaches b
        reaches_part : (p : ℕ) (c : Colour) → b ≡ term.Child p c → ((q : ℕ) (d : Bool) → Contains known (PartOf p q d) → q ≡ r) → Reaches b
        reaches_whole : IsBelow known (term.Name r) b → Reaches b

      name_up : (a b : Term) → IsBelow known a b → a ≡ term.Name i → Reaches b
      name_up a _ same e = reaches_itself e
      name_up a b (told_within k) e =
          let u = began.upper b (subst (λ a. Contains known (Within a b)) e k) in reaches_part u.0 u.1 u.2 u.3
      name_up a b (variable k) e =
          let u = began.upper b (subst (λ a. Contains known (Within a b)) e k) in reaches_part u.0 u.1 u.2 u.3
      name_up _ _ (child k) e = absurd (subst IsName (sym e) tt)
      name_up a b (through x z) e = onward (name_up a _ x e) z (λ d. name_up _ b z d)
        where
          onward : {m : Term} → Reaches m → IsBelow known m b → (m ≡ term.Name i → Reaches b) → Reaches b
          onward (reaches_itself d) z more = more d
          onward (reaches_part p c d sole) z more = ⊎_elim (λ f. reaches_part p c f sole) (λ below. reaches_whole below) (part_up _ b z p c d sole)
          onward (reaches_whole below) z more = reaches_whole (through below z)

      above_whole : (j : ℕ) → (j ≡ i → ⊥) → is_subregion known (term.Name i) (term.Name j) ≡ true → is_subregion known (term.Name r) (term.Name j) ≡ true
      above_whole j other e =
          let s = (is_subregion-derivable known (term.Name i) (term.Name j)).0 e in by s.certain (name_up (term.Name i) (term.Name j) s.below refl)
        where
          by : IsTrue (is_certain (term.Name j)) → Reaches (term.Name j) → is_subregion known (term.Name r) (term.Name j) ≡ true
          by sure (reaches_itself d) = absurd (other (ap number_in d))
          by sure (reaches_part p c d sole) = absurd (subst IsName d tt)
          by sure (reaches_whole below) = (is_subregion-derivable known (term.Name r) (term.Name j)).1 (record { below = below; certain = sure })

      held_whole : (field : ℕ) (a : Access) → is_held (rights_declared tree t) known (term.Name i) field a ≡ true →
          is_held (rights_declared tree t) known (term.Name r) field a ≡ true
      held_whole field a e =
          let f = Has-from_list_any (gives known (term.Name i) field a) (rights_declared tree t) e in
          let one = and_parts ((f.0.field == field) && same_access f.0.access a) (is_subregion known (term.Name i) (term.Name f.0.region)) f.2 in
          let low = rights_low f.0 f.1 in
          list_any-from_Has (gives known (term.Name r) field a) (rights_declared tree t) f.0 f.1
          (and_from ((f.0.field == field) && same_access f.0.access a) (is_subregion known (term.Name r) (term.Name f.0.region)) one.0
          (above_whole f.0.region (λ d. omega (arith, low, high, d)) one.1))

      made_whole : list_any (made_above known (term.Name i)) known ≡ true → list_any (made_above known (term.Name r)) known ≡ true
      made_whole e =
          let k = Has-from_list_any (made_above known (term.Name i)) known e in list_any-from_Has (made_above known (term.Name r)) known k.0 k.1 (by_fact k.0 k.1 k.2)
        where
          by_fact : (k : Known) → Has known k → made_above known (term.Name i) k ≡ true → made_above known (term.Name r) k ≡ true
          by_fact (Made s) h e = above_whole s (λ d. began.made (subst (λ n. Contains known (Made n)) d (Contains-from_Has known (Made s) h))) e
          by_fact (Within a b) h e = absurd (not_true e)
          by_fact (Apart a b) h e = absurd (not_true e)
          by_fact (PartOf p r d) h e = absurd (not_true e)

      either_whole : (a b c d : Bool) → (a ≡ true → c ≡ true) → (b ≡ true → d ≡ true) → (a || b) ≡ true → (c || d) ≡ true
      either_whole a b c d f g e = ⊎_elim (λ h. or_left c d (f h)) (λ h. or_right c d (g h)) (or_cases a b e)

      whole_done : (field : ℕ) (a : Access) → may_do (rights_declared tree t) known (wanting field a (term.Name i)) ≡ true →
          may_do (rights_declared tree t) known (wanting field a (term.Name r)) ≡ true
      whole_done field access.Read e = either_whole _ _ _ _ (held_whole field access.Read) made_whole e
      whole_done field access.Write e = either_whole _ _ _ _ (held_whole field access.Write) made_whole e
      whole_done field (access.Reduce o) e = either_whole _ _ _ _
          (λ h. either_whole _ _ _ _ (held_whole field (access.Reduce o))
          (λ g. let both = and_parts (is_held (rights_declared tree t) known (term.Name i) field access.Read) (is_held (rights_declared tree t) known (term.Name i) field access.Write) g in
          and_from (is_held (rights_declared tree t) known (term.Name r) field access.Read) (is_held (rights_declared tree t) known (term.Name r) field access.Write)
          (held_whole field access.Read both.0) (held_whole field access.Write both.1)) h)
          made_whole e

    -- so with each region within which it began
    pub done_up : (field : ℕ) (a : Access) (i j : ℕ) → LiesUp y i j → may_do (rights_declared tree t) known (wanting field a (term.Name i)) ≡ true →
        may_do (rights_declared tree t) known (wanting field a (term.Name j)) ≡ true
    done_up field a i _ (up_itself _) e = e
    done_up field a i j (up_part _ r _ high above up) e = done_up field a r j up (whole_done i r high (head.parts i r high above) field a e)

pub allowed_is_needed : AllowedIsNeeded
allowed_is_needed tree t known sound head i field = record {
  reads = λ e j up low. reads tree t sound known head j field (done_up tree t sound known head field access.Read i j up e) low;
  writes = λ e j up low. writes tree t sound known head j field (done_up tree t sound known head field access.Write i j up e) low;
  reduces = λ o e j up low. reduces tree t sound known head j field o (done_up tree t sound known head field (access.Reduce o) i j up e) low;
}
