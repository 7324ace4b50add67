-- What the rules on privileges allow at a place is covered by what the task declares.
use Rattle.std.proofs.Common.{List, [], ◌∷◌, Bool, None, Option, Some, false, true, refl, ap, sym, subst, ℕ, ◌≡◌, ◌∙◌, inl, inr, ◌&&◌, ◌==◌, filter, map, cond}
use Rattle.std.proofs.lemmas.Bool.{and_from, and_parts, eqb-true, eq-eqb, or_cases, or_left, or_right, le-leb}
use Rattle.std.specs.List.{list_any}
use Rattle.std.specs.Prelude.{nat_le}
use Rattle.lane_kernels.specs.Modes.{same_op}
use Rattle.lane_kernels.specs.declared.numbers.Mode.{Mode}
use Rattle.lane_kernels.specs.declared.numbers.Op.{Op}
use Rattle.lane_kernels.specs.declared.numbers.Op.TheVariants.{Sum, Product, Least, Greatest}
use Rattle.regent_tree.specs.Accesses.{space_in}
use Rattle.regent_tree.specs.Cover.{argument_named, grants_it, is_access_covered, is_at, is_covered, is_declared, is_for, names_field, space_named}
use Rattle.regent_tree.specs.Lookup.{has_field}
use Rattle.regent_tree.specs.Rights.{allows, gives, is_granted, is_held, same_access}
use Rattle.regent_tree.specs.Scopes.{Scope}
use Rattle.regent_tree.specs.StaticTypes.{field_place, place_in}
use Rattle.regent_tree.specs.Store.{Touch}
use Rattle.regent_tree.specs.Syntax.{Name, Tree}
use Rattle.regent_tree.specs.Typing.{param_types}
use Rattle.regent_tree.specs.Values.{Region}
use Rattle.regent_tree.specs.declared.facts.Known.{Known}
use Rattle.regent_tree.specs.declared.facts.Known.TheVariants.{Within, Apart, PartOf, Made}
use Rattle.regent_tree.specs.declared.facts.Term.{Term}
use Rattle.regent_tree.specs.declared.facts.Term.TheVariants as term
use Rattle.regent_tree.specs.declared.program.Clause.{Clause}
use Rattle.regent_tree.specs.declared.program.Clause.TheVariants as clause
use Rattle.regent_tree.specs.declared.program.Grant.{Grant}
use Rattle.regent_tree.specs.declared.program.Grant.TheVariants.{Reads, Reduces, Writes}
use Rattle.regent_tree.specs.declared.program.Place.{Place}
use Rattle.regent_tree.specs.declared.rights.Access.{Access}
use Rattle.regent_tree.specs.declared.rights.Access.TheVariants.{Read, Write, Reduce}
use Rattle.regent_tree.specs.declared.rights.Right.{Right}
use Rattle.regent_tree.specs.declared.rights.Wanted.{Wanted}
use Rattle.regent_tree.specs.declared.typing.StaticType.{StaticType}
use Rattle.regent_tree.specs.declared.typing.StaticType.TheVariants.{Index as index_type, Integer as integer_type, Ispace as ispace_type, Nothing as no_type, Partition as partition_type, Pointer as pointer_type, Region as region_type, Truth as truth_type, Unknown as unknown_type}
use Rattle.regent_tree.proofs.Members.{Contains-from_Has, Has, Has-from_list_any, Has-map_cases, list_any-from_Has}
use Rattle.check_rules.specs.types.Declarations.{params_bound}
use Rattle.check_rules.specs.types.Params.{types_in_order}
use Rattle.check_rules.specs.rules.Privileges.{a_right, access_of_grant, fields_named, made_above, may_do, rights_declared, rights_of_clause, rights_of_place, rights_on}
use Rattle.check_rules.specs.types.Sorts.{is_region, type_at}
use Rattle.check_rules.specs.scopes.Sound.{IsSoundTask}
use Rattle.expression_laws.specs.Needs.{mode_of}
use Rattle.fact_laws.specs.Regions.{IsIn, Interpretation, StandsFor}
use Rattle.expression_laws.specs.Sound.{Instance, IsSoundPlace}
pub use Rattle.check_laws.proofs.Trees.{has_flat}
use Rattle.fact_laws.proofs.Facts.{is_subregion_holds}

-- ---- lists

pub has_filtered : {A : Type 0} (p : A → Bool) (xs : List A) (y : A) → Has (filter p xs) y → Has xs y
has_filtered p [] y h = absurd h
has_filtered p (x ∷ xs) y h = here (p x) (has_filtered p xs y) h
  where
    here : (b : Bool) → (Has (filter p xs) y → Has xs y) → Has (cond b (x ∷ filter p xs) (filter p xs)) y → Has (x ∷ xs) y
    here true rest (inl e) = inl e
    here true rest (inr g) = inr (rest g)
    here false rest g = inr (rest g)

-- ---- accesses and modes

same_op-turned : (p q : Op) → same_op p q ≡ same_op q p
same_op-turned Sum Sum = refl
same_op-turned Sum Product = refl
same_op-turned Sum Least = refl
same_op-turned Sum Greatest = refl
same_op-turned Product Sum = refl
same_op-turned Product Product = refl
same_op-turned Product Least = refl
same_op-turned Product Greatest = refl
same_op-turned Least Sum = refl
same_op-turned Least Product = refl
same_op-turned Least Least = refl
same_op-turned Least Greatest = refl
same_op-turned Greatest Sum = refl
same_op-turned Greatest Product = refl
same_op-turned Greatest Least = refl
same_op-turned Greatest Greatest = refl

is_for_grant : (a : Access) (g : Grant) → same_access (access_of_grant g) a ≡ true → is_for (mode_of a) g ≡ true
is_for_grant Read Reads e = refl
is_for_grant Read Writes e = absurd cc
is_for_grant Read (Reduces o) e = absurd cc
is_for_grant Write Reads e = absurd cc
is_for_grant Write Writes e = refl
is_for_grant Write (Reduces o) e = absurd cc
is_for_grant (Reduce p) Reads e = absurd cc
is_for_grant (Reduce p) Writes e = absurd cc
is_for_grant (Reduce p) (Reduces o) e = same_op-turned p o ∙ e

-- ---- declared privileges

-- a privilege that a place of a clause gives
pub record OnRegion (tree : Tree) (t : StaticType) (i : ℕ) (grants : List Grant) (fs : Option (List Name)) (right : Right) : Type 0 where
  pub region : is_region t ≡ true
  pub grant : Grant
  pub has_grant : Has grants grant
  pub field : ℕ
  pub has_field : Has (fields_named tree (space_in t) fs) field
  pub is : a_right i field (access_of_grant grant) ≡ right

pub on_region : (tree : Tree) (t : StaticType) (i : ℕ) (grants : List Grant) (fs : Option (List Name)) (right : Right) →
    Has (rights_on tree t i grants fs) right → OnRegion tree t i grants fs right
on_region tree (region_type k s args r) i grants fs right h =
    let g = has_flat (λ g. map (λ f. a_right i f (access_of_grant g)) (fields_named tree s fs)) grants right h in
    let f = Has-map_cases (λ f. a_right i f (access_of_grant g.0)) (fields_named tree s fs) right g.2 in
    record { region = refl; grant = g.0; has_grant = g.1; field = f.0; has_field = f.1; is = f.2 }
on_region tree (integer_type w) i grants fs right h = absurd h
on_region tree truth_type i grants fs right h = absurd h
on_region tree (index_type k) i grants fs right h = absurd h
on_region tree (pointer_type k s args terms) i grants fs right h = absurd h
on_region tree (ispace_type k) i grants fs right h = absurd h
on_region tree (partition_type d r p) i grants fs right h = absurd h
on_region tree no_type i grants fs right h = absurd h
on_region tree unknown_type i grants fs right h = absurd h

named_field : (tree : Tree) (s : ℕ) (fs : Option (List Name)) (f : ℕ) → Has (fields_named tree s fs) f → names_field tree s f fs ≡ true
named_field tree s None f h = refl
named_field tree s (Some names) f h =
    let n = Has-map_cases (field_place tree s) (filter (has_field tree s) names) f h in
    list_any-from_Has (λ n. field_place tree s n == f) names n.0 (has_filtered (has_field tree s) names n.0 n.1) (eq-eqb _ f n.2)

module _ (x : Instance) (m : Interpretation) (s : Scope) (task : IsSoundTask x.tree x.task) (place : IsSoundPlace x m s) where
  -- a touch of a field at a point
  abbrev a_touch : ℕ → ℕ → ℕ → Mode → Touch
  a_touch root field point access = record { root = root; field = field; point = point; access = access }

  same_types : types_in_order (params_bound x.tree x.task.params) ≡ param_types x.tree x.task
  same_types = ap types_in_order task.params

  at_place : (c : Place) (grants : List Grant) (right : Right) (a : Access) (root point : ℕ) →
      Has (rights_of_place x.tree x.task.params grants c) right → same_access right.access a ≡ true →
      IsIn (m.region right.region) root point →
      (list_any (is_for (mode_of a)) grants ≡ true)
      × (is_at x.tree x.task x.args (a_touch root right.field point (mode_of a)) c ≡ true)
  at_place c grants right a root point h same is_in =
      let i = place_in x.task.params c.region in
      let found = on_region x.tree (type_at (types_in_order (params_bound x.tree x.task.params)) i) i grants c.fields right h in
      let same_region : i ≡ right.region = ap (λ (r : Right). r.region) found.is in
      let same_field : found.field ≡ right.field = ap (λ (r : Right). r.field) found.is in
      let same_grant : access_of_grant found.grant ≡ right.access = ap (λ (r : Right). r.access) found.is in
      let type : type_at (types_in_order (params_bound x.tree x.task.params)) i ≡ type_at (param_types x.tree x.task) i =
      ap (λ ts. type_at ts i) same_types in
      let given = place.params i (sym (ap is_region type) ∙ found.region) in
      let inside : IsIn (argument_named x.task x.args c.region) root point =
      subst (λ r. IsIn r root point) given (subst (λ j. IsIn (m.region j) root point) (sym same_region) is_in) in
      let named = named_field x.tree (space_in (type_at (types_in_order (params_bound x.tree x.task.params)) i)) c.fields found.field found.has_field in
      let field : names_field x.tree (space_named x.tree x.task c.region) right.field c.fields ≡ true =
      subst (λ f. names_field x.tree (space_named x.tree x.task c.region) f c.fields ≡ true) same_field
      (subst (λ t. names_field x.tree (space_in t) found.field c.fields ≡ true) type named) in (
        list_any-from_Has (is_for (mode_of a)) grants found.grant found.has_grant
            (is_for_grant a found.grant (ap (λ b. same_access b a) same_grant ∙ same)),
        and_from _ _ (and_from _ _ (eq-eqb _ root inside.0) inside.1) field,
      )

  -- a privilege that is held allows a touch within its region
  declared : (right : Right) (a : Access) (root point : ℕ) → Has (rights_declared x.tree x.task) right →
      same_access right.access a ≡ true → IsIn (m.region right.region) root point →
      is_declared x.tree x.task x.args (a_touch root right.field point (mode_of a)) (mode_of a) ≡ true
  declared right a root point h same is_in =
      let c = has_flat (rights_of_clause x.tree x.task.params) x.task.clauses right h in
      list_any-from_Has (grants_it x.tree x.task x.args (a_touch root right.field point (mode_of a)) (mode_of a)) x.task.clauses c.0 c.1 (granted c.0 c.2)
    where
      granted : (c : Clause) → Has (rights_of_clause x.tree x.task.params c) right →
          grants_it x.tree x.task x.args (a_touch root right.field point (mode_of a)) (mode_of a) c ≡ true
      granted (clause.Grants grants places) g =
          let p = has_flat (rights_of_place x.tree x.task.params grants) places right g in
          let both = at_place p.0 grants right a root point p.2 same is_in in
          and_from _ _ both.0 (list_any-from_Has (is_at x.tree x.task x.args (a_touch root right.field point (mode_of a))) places p.0 p.1 both.1)
      granted (clause.Within a b) g = absurd g
      granted (clause.Apart a b) g = absurd g

  -- what is held on a term is declared at each point of its regions
  held : (t : Term) (f : ℕ) (a : Access) (r : Region) (root point : ℕ) → StandsFor m t r → IsIn r root point →
      is_held (rights_declared x.tree x.task) s.known t f a ≡ true →
      is_declared x.tree x.task x.args (a_touch root f point (mode_of a)) (mode_of a) ≡ true
  held t f a r root point stands is_in e =
      let found = Has-from_list_any (gives s.known t f a) (rights_declared x.tree x.task) e in
      let right : Right = found.0 in
      let last = and_parts ((right.field == f) && same_access right.access a) _ found.2 in
      let first = and_parts (right.field == f) _ last.0 in
      let lies = is_subregion_holds m s.known place.holds t (term.Name right.region) last.1 r (m.region right.region) stands refl in
      subst (λ g. is_declared x.tree x.task x.args (a_touch root g point (mode_of a)) (mode_of a) ≡ true) (eqb-true right.field f first.0)
      (declared right a root point found.1 first.1 (lies root point is_in))

  -- whether an access is declared doesn't depend on that of the touch
  pub declared_alike : (root f point : ℕ) (a b c : Mode) →
      is_declared x.tree x.task x.args (a_touch root f point a) c ≡ is_declared x.tree x.task x.args (a_touch root f point b) c
  declared_alike root f point a b c = refl

  granted_covers : (w : Wanted) (r : Region) (root point : ℕ) → StandsFor m w.term r → IsIn r root point →
      is_granted (rights_declared x.tree x.task) s.known w ≡ true →
      is_access_covered x.tree x.task x.args (a_touch root w.field point (mode_of w.access)) (mode_of w.access) ≡ true
  granted_covers w r root point stands is_in e = by w.access e
    where
      by : (a : Access) → allows (rights_declared x.tree x.task) s.known w.term w.field a ≡ true →
          is_access_covered x.tree x.task x.args (a_touch root w.field point (mode_of a)) (mode_of a) ≡ true
      by Read g = held w.term w.field Read r root point stands is_in g
      by Write g = held w.term w.field Write r root point stands is_in g
      by (Reduce o) g = elim (or_cases _ _ g) [
        | inl h ↦ or_left _ _ (held w.term w.field (Reduce o) r root point stands is_in h)
        | inr h ↦
            let both = and_parts _ _ h in
            or_right _ _ (and_from _ _ (held w.term w.field Read r root point stands is_in both.0)
            (held w.term w.field Write r root point stands is_in both.1))
      ]

  -- a touch of a field, as is wanted of a term, at a point of a region that the term stands for
  pub may_covers : (w : Wanted) (r : Region) (root point : ℕ) → StandsFor m w.term r → IsIn r root point →
      may_do (rights_declared x.tree x.task) s.known w ≡ true →
      is_covered x.tree x.roots x.task x.args (a_touch root w.field point (mode_of w.access)) ≡ true
  may_covers w r root point stands is_in e = elim (or_cases _ _ e) [
    | inl g ↦ or_right _ _ (granted_covers w r root point stands is_in g)
    | inr g ↦ or_left _ _ (own_root (Has-from_list_any (made_above s.known w.term) s.known g))
  ]
    where
      own_root : ((k : Known) × Has s.known k × (made_above s.known w.term k ≡ true)) → nat_le x.roots root ≡ true
      own_root (Made i, h, above) =
          let lies = is_subregion_holds m s.known place.holds w.term (term.Name i) above r (m.region i) stands refl in
          le-leb x.roots root (place.own i (Contains-from_Has s.known (Made i) h) root point (lies root point is_in))
      own_root (Within a b, h, above) = absurd cc
      own_root (Apart a b, h, above) = absurd cc
      own_root (PartOf p r d, h, above) = absurd cc
