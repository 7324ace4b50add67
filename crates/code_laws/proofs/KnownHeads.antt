-- What is known at a place of a task's body, where each region in it has a name or is a part: what the task's head tells
-- of its parameters, what was made behind them, what began as parts, and of which regions partitions are. So what the rules allow may be done.
use Rattle.std.proofs.Common.{◌≡◌, Bool, List, [], ◌∷◌, None, Option, Some, false, true, refl, ap, sym, subst, ℕ, ◌<◌, ◌≤◌, ◌∙◌, cond, map, arith, ◌⊎◌, inl, inr, ⊎_elim}
use Rattle.std.specs.Prelude.{length, ◌&&◌}
use Rattle.std.specs.List.{Contains, list_all}
use Rattle.std.proofs.lemmas.Bool.{and_parts, not-false, or_parts}
use Rattle.std.proofs.lemmas.Option.{none-some, same_Some}
use Rattle.regent_tree.proofs.Members.{Contains-from_Has, Has, Has-append_cases, Has-append_left, Has-append_right, Has-from_Contains}
use Rattle.regent_tree.specs.Accesses.{space_in}
use Rattle.regent_tree.specs.Lookup.{has_field}
use Rattle.regent_tree.specs.Scopes.{Scope, known_of_clause, known_of_clauses, known_of_params, known_of_type, scope_of}
use Rattle.regent_tree.specs.StaticTypes.{Reach, field_place, place_in}
use Rattle.regent_tree.specs.Syntax.{Expression, Name, TaskTree, Tree}
use Rattle.regent_tree.specs.Typing.{type_of_element}
use Rattle.regent_tree.specs.declared.facts.Colour.{Colour}
use Rattle.regent_tree.specs.declared.facts.Known.{Known}
use Rattle.regent_tree.specs.declared.facts.Known.TheVariants.{Apart, Made, PartOf, Within}
use Rattle.regent_tree.specs.declared.facts.Term.{Term}
use Rattle.regent_tree.specs.declared.facts.Term.TheVariants as place
use Rattle.regent_tree.specs.declared.program.Clause.{Clause}
use Rattle.regent_tree.specs.declared.program.Clause.TheVariants as clause
use Rattle.regent_tree.specs.declared.rights.Access.{Access}
use Rattle.regent_tree.specs.declared.rights.Access.TheVariants as access
use Rattle.regent_tree.specs.declared.typing.StaticType.{StaticType}
use Rattle.check_rules.specs.rules.Clauses.{is_no_region, misdeclares}
use Rattle.check_rules.specs.rules.Privileges.{lacks, may_do, regions_named, rights_declared, wanted_of_step, wanting}
use Rattle.check_rules.specs.scopes.Sound.{IsSoundTask}
use Rattle.check_rules.specs.types.Declarations.{params_bound}
use Rattle.check_rules.specs.types.TypedForms.{field_of}
use Rattle.expression_laws.proofs.Params.{known_clause, known_param, none_has}
use Rattle.code_laws.specs.Above.{above_in, cut_told, first_told, piece_in, piece_told, whole_of, whole_told}
use Rattle.code_laws.specs.Handing.{forms_by, takes_by, told_in}
use Rattle.code_laws.specs.Privileges.{BeganAsPart, IsKnownBehind}
use Rattle.code_laws.proofs.Told.{ToldUpTo, cut_behind, piece_none, piece_untold, told_left, told_none, told_right}
use Rattle.check_laws.specs.SoundScopes.{Falls}
use Rattle.code_rules.specs.Slots.{Where}
use Rattle.code_laws.specs.Simple.{IsRegion, a_region_type, term_in}
use Rattle.code_laws.specs.Typed.{MayReach}
use Rattle.regent_tree.specs.declared.typing.Bound.{Bound}
use Rattle.regent_tree.specs.declared.typing.StaticType.TheVariants.{Partition as partition_type}
use Rattle.statement_laws.specs.Steady.{ArePlaced}
use Rattle.value_laws.specs.Spaces.{AreSpaced}
use Rattle.code_laws.proofs.LocalValues.{AreAmong, value_other}
use Rattle.code_laws.specs.Taking.{MayDo, pairs_in}
use Rattle.code_laws.proofs.DeclaredNeeds.{none_made, none_within, pair_listed, region_param}
use Rattle.code_laws.proofs.LocalNames.{AllKept, IsKept, kept_partition, kept_region, kept_value, region_of_number}
use Rattle.code_laws.proofs.Privileges.{allowed_is_needed, mode_in}

-- parameters, of which the head of a task tells that one lies within another
pub record IsPair (tree : Tree) (task : TaskTree) (a b : Term) : Type 0 where
  pub lower : ℕ
  pub upper : ℕ
  pub is_lower : a ≡ place.Name lower
  pub is_upper : b ≡ place.Name upper
  pub low : lower < length task.params
  pub high : upper < length task.params
  pub among : Contains (pairs_in (scope_of tree task).known) (lower, upper)

-- a variable that began as a part: no other part is told of it
pub record IsPiece (task : TaskTree) (s : Scope) (a b : Term) : Type 0 where
  pub own : ℕ
  pub cut : ℕ
  pub colour : Colour
  pub is_lower : a ≡ place.Name own
  pub is_upper : b ≡ place.Child cut colour
  pub high : length task.params ≤ own
  pub low : own < s.next
  pub told : first_told (cut_told own) s.known ≡ Some cut
  pub piece : first_told (piece_told own) s.known ≡ Some (cut, colour)

-- a region that was made is behind the parameters, and began as no part
pub record IsMadeHere (task : TaskTree) (s : Scope) (i : ℕ) : Type 0 where
  pub high : length task.params ≤ i
  pub low : i < s.next
  pub whole : first_told (cut_told i) s.known ≡ None

-- A partition's number isn't used again, and the name that is bound with it, if it is in scope still, has its type.
pub record IsPartHere (s : Scope) (p r : ℕ) (d : Bool) : Type 0 where
  pub low : p < s.next
  pub one : (b : Bound) → Has s.names b → b.number ≡ p → b.static_type ≡ partition_type d r p
  pub told : first_told (whole_told p) s.known ≡ Some r

abbrev pub IsToldHere : Scope → Known → Type 0
IsToldHere s (PartOf p r d) = IsPartHere s p r d
IsToldHere s (Within a b) = Unit {0}
IsToldHere s (Apart a b) = Unit {0}
IsToldHere s (Made i) = Unit {0}

-- At a place of a task's body nothing is known but what its head tells of its parameters, which regions were made behind
-- them, which began as parts, and of which regions partitions are, of each in scope. Names that are bound there are behind them too.
pub record KnowsFacts (tree : Tree) (task : TaskTree) (s : Scope) : Type 0 where
  pub within : (a b : Term) → Contains s.known (Within a b) → IsPair tree task a b ⊎ IsPiece task s a b
  pub made : (i : ℕ) → Contains s.known (Made i) → IsMadeHere task s i
  pub parts : (k : Known) → Has s.known k → IsToldHere s k
  pub cuts : (b : Bound) → Has s.names b → (k : Known) → Has (known_of_type b.static_type) k → Has s.known k
  pub next : length task.params ≤ s.next

-- Also the types of all names there have arguments as their field spaces declare, each name has its place, and what is told
-- there is the first that is told in the body.
pub record KnowsHead (tree : Tree) (task : TaskTree) (s : Scope) : Type 0 where
  pub facts : KnowsFacts tree task s
  pub spaced : AreSpaced tree s.names
  pub placed : ArePlaced s.names
  pub told : ToldUpTo (told_in tree task) s

abbrev pub number_in : Term → ℕ
number_in (place.Name i) = i
number_in (place.Child p c) = 0

abbrev cut_in : Term → ℕ
cut_in (place.Name i) = 0
cut_in (place.Child p c) = p

abbrev pub IsName : Term → Type 0
IsName (place.Name i) = Unit {0}
IsName (place.Child p c) = ⊥

module _ (total : List Known) where
  -- what is told of a place is the first that is told in the body
  pub told_here : {A : Type 0} {s : Scope} → ToldUpTo total s → (f : Known → Option A) (n : A) → first_told f s.known ≡ Some n → first_told f total ≡ Some n
  told_here {s = s} up f n e = ap (first_told f) up.known ∙ told_left f s.known up.more n e

  -- a region that was made began as no part
  pub made_above_none : {tree : Tree} {task : TaskTree} {s : Scope} → KnowsFacts tree task s → ToldUpTo total s → (i : ℕ) → Contains s.known (Made i) →
      above_in total i ≡ None
  made_above_none {s = s} facts up i c =
      let made = facts.made i c in
      ap (whole_of total) (ap (first_told (cut_told i)) up.known ∙ told_right (cut_told i) s.known up.more made.whole
      ∙ told_none (cut_told i) up.more (λ k g. cut_behind s.next i k made.low (up.behind k g)))

  pub made_piece_none : {tree : Tree} {task : TaskTree} {s : Scope} → KnowsFacts tree task s → ToldUpTo total s → (i : ℕ) → Contains s.known (Made i) →
      piece_in total i ≡ None
  made_piece_none {s = s} facts up i c =
      let made = facts.made i c in
      ap (first_told (piece_told i)) up.known ∙ told_right (piece_told i) s.known up.more (piece_none i s.known made.whole)
      ∙ told_none (piece_told i) up.more (λ k g. piece_untold s.next i k made.low (up.behind k g))

  -- within which region a region began, by what is told of it
  pub above_by : {tree : Tree} {task : TaskTree} {s : Scope} → KnowsFacts tree task s → ToldUpTo total s → (i p r : ℕ) (d : Bool) →
      first_told (cut_told i) s.known ≡ Some p → Contains s.known (PartOf p r d) → above_in total i ≡ Some r
  above_by {s = s} facts up i p r d cut c =
      ap (whole_of total) (told_here up (cut_told i) p cut)
      ∙ told_here up (whole_told p) r (facts.parts (PartOf p r d) (Has-from_Contains s.known (PartOf p r d) c)).told

pub above_told : {tree : Tree} {task : TaskTree} {s : Scope} → KnowsHead tree task s → (i p r : ℕ) (d : Bool) →
    first_told (cut_told i) s.known ≡ Some p → Contains s.known (PartOf p r d) → above_in (told_in tree task) i ≡ Some r
above_told {tree = tree} {task = task} h i p r d cut c = above_by (told_in tree task) h.facts h.told i p r d cut c

-- what is known of a region that began as a part of one
piece_known : {tree : Tree} {task : TaskTree} {s : Scope} → KnowsHead tree task s → (i r : ℕ) → length task.params ≤ i →
    above_in (told_in tree task) i ≡ Some r → BeganAsPart s.known i r
piece_known {tree = tree} {task = task} {s = s} h i r high above = record {
  upper = λ b c. ⊎_elim
      (λ p. let low = p.low in let same : p.lower ≡ i = sym (ap number_in p.is_lower) in absurd (omega (arith, low, high, same)))
      (λ p.
      let same : p.own ≡ i = sym (ap number_in p.is_lower) in
      let cut : first_told (cut_told i) s.known ≡ Some p.cut = subst (λ n. first_told (cut_told n) s.known ≡ Some p.cut) same p.told in (
        p.cut,
        p.colour,
        p.is_upper,
        λ q d k. same_Some q r (sym (above_told h i p.cut q d cut k) ∙ above),
      )) (h.facts.within (place.Name i) b c);
  made = λ c. absurd (none-some r (sym (made_above_none (told_in tree task) h.facts h.told i c) ∙ above));
}

pub known_behind : (tree : Tree) (task : TaskTree) (s : Scope) → KnowsHead tree task s → IsKnownBehind tree task s.known
known_behind tree task s h = record {
  within = λ i b low c. ⊎_elim
      (λ p.
      let same : p.lower ≡ i = sym (ap number_in p.is_lower) in
      (p.upper, p.is_upper, p.high, subst (λ k. Contains (pairs_in (scope_of tree task).known) (k, p.upper)) same p.among))
      (λ p. let high = p.high in let same : p.own ≡ i = sym (ap number_in p.is_lower) in absurd (omega (arith, low, high, same)))
      (h.facts.within (place.Name i) b c);
  made = λ i c. (h.facts.made i c).high;
  parts = λ i r high above. piece_known h i r high above;
  lower = λ p c b k. ⊎_elim (λ d. absurd (subst IsName (sym d.is_lower) tt)) (λ d. absurd (subst IsName (sym d.is_lower) tt)) (h.facts.within (place.Child p c) b k);
}

-- what the rules allow of a region with a number may be done with it
pub may_touch : (tree : Tree) (task : TaskTree) (s : Scope) → IsSoundTask tree task → KnowsHead tree task s → (i field : ℕ) (a : Access) →
    may_do (rights_declared tree task) s.known (wanting field a (place.Name i)) ≡ true → MayDo (takes_by true tree task) (place.Name i) field (mode_in a)
may_touch tree task s sound h i field access.Read e = (allowed_is_needed tree task s.known sound (known_behind tree task s h) i field).reads e
may_touch tree task s sound h i field access.Write e = (allowed_is_needed tree task s.known sound (known_behind tree task s h) i field).writes e
may_touch tree task s sound h i field (access.Reduce o) e = (allowed_is_needed tree task s.known sound (known_behind tree task s h) i field).reduces o e

-- so of a region that a name has
pub kept_may : (tree : Tree) (task : TaskTree) (s : Scope) → IsSoundTask tree task → KnowsHead tree task s → (bs : List Bound) (i : ℕ) (t : StaticType) →
    IsKept true bs i t → IsRegion t → (field : ℕ) (a : Access) → may_do (rights_declared tree task) s.known (wanting field a (term_in t)) ≡ true →
    MayDo (takes_by true tree task) (term_in t) field (mode_in a)
kept_may tree task s sound h bs i t (kept_value _ k) r field a e = absurd (value_other true bs t k r)
kept_may tree task s sound h bs i _ (kept_region k sp args) r field a e = may_touch tree task s sound h i field a e
kept_may tree task s sound h bs i _ (kept_partition d p keeps among) r field a e = absurd (elim r [ ])

-- what is wanted of a field of an element is allowed where nothing is told
pub granted_at : (tree : Tree) (task : TaskTree) (s : Scope) (t : StaticType) (e : Expression) (f : Name) (a : Access) → IsRegion t →
    has_field tree (space_in t) f ≡ true → lacks tree task s (wanted_of_step tree a (field_of (type_of_element s t e) f)) ≡ false →
    may_do (rights_declared tree task) s.known (wanting (field_place tree (space_in t) f) a (term_in t)) ≡ true
granted_at tree task s _ e f a (a_region_type k sp args r) there lacking =
    let want = wanting (field_place tree sp f) a r in
    let all : lacks tree task s (want ∷ []) ≡ false = ap (λ b. lacks tree task s (cond (b && true) (want ∷ []) [])) (sym there) ∙ lacking in
    (and_parts (may_do (rights_declared tree task) s.known want) true (not-false _ all)).0

-- so of each region that a pointer may go to
pub reach_may : (task : TaskTree) (w : Where) → IsSoundTask w.tree task → KnowsHead w.tree task w.scope → Falls w.scope.next w.scope.names →
    (field sp : ℕ) (a : Access) (rs : List Reach) → AreAmong w.scope.names sp rs →
    list_all (may_do (rights_declared w.tree task) w.scope.known) (map (wanting field a) (regions_named rs)) ≡ true →
    MayReach (forms_by true true w.tree task) w rs field (mode_in a)
reach_may task w sound h falls field sp a [] among e = tt
reach_may task w sound h falls field sp a (Some (place.Name i) ∷ rs) among e =
    let both = and_parts (may_do (rights_declared w.tree task) w.scope.known (wanting field a (place.Name i))) _ e in
    let own = (region_of_number w.scope.next w.scope.names i falls among.0).1 in (
      subst (λ u. MayDo (takes_by true w.tree task) u field (mode_in a)) (sym own) (may_touch w.tree task w.scope sound h i field a both.0),
      reach_may task w sound h falls field sp a rs among.2 both.1,
    )
reach_may task w sound h falls field sp a (Some (place.Child p c) ∷ rs) among e = absurd among
reach_may task w sound h falls field sp a (None ∷ rs) among e = reach_may task w sound h falls field sp a rs among e

abbrev IsMade : Known → Type 0
IsMade (Made i) = Unit {0}
IsMade (Within a b) = ⊥
IsMade (Apart a b) = ⊥
IsMade (PartOf p r d) = ⊥

abbrev IsApart : Known → Type 0
IsApart (Apart a b) = Unit {0}
IsApart (Within a b) = ⊥
IsApart (Made i) = ⊥
IsApart (PartOf p r d) = ⊥

abbrev IsPartFact : Known → Type 0
IsPartFact (PartOf p r d) = Unit {0}
IsPartFact (Within a b) = ⊥
IsPartFact (Apart a b) = ⊥
IsPartFact (Made i) = ⊥

abbrev lower_term : Known → Term
lower_term (Within a b) = a
lower_term (Apart a b) = a
lower_term (Made i) = place.Name i
lower_term (PartOf p r d) = place.Name p

abbrev upper_term : Known → Term
upper_term (Within a b) = b
upper_term (Apart a b) = b
upper_term (Made i) = place.Name i
upper_term (PartOf p r d) = place.Name r

-- where a body begins, by what the types of its parameters tell
-- what each parameter's type tells is known
among_params : (bs : List Bound) (b : Bound) → Has bs b → (k : Known) → Has (known_of_type b.static_type) k → Has (known_of_params bs) k
among_params [] b h k g = absurd h
among_params (c ∷ bs) b (inl e) k g =
    Has-append_right (known_of_params bs) (known_of_type c.static_type) k (subst (λ (b : Bound). Has (known_of_type b.static_type) k) (sym e) g)
among_params (c ∷ bs) b (inr h) k g = Has-append_left (known_of_params bs) (known_of_type c.static_type) k (among_params bs b h k g)

pub params_known : (tree : Tree) (t : TaskTree) (b : Bound) → Has (scope_of tree t).names b → (k : Known) → Has (known_of_type b.static_type) k → Has (scope_of tree t).known k
params_known tree t b h k g =
    Has-append_left (known_of_params (scope_of tree t).names) (known_of_clauses t.params t.clauses) k (among_params (scope_of tree t).names b h k g)

pub head_begins : (tree : Tree) (t : TaskTree) → IsSoundTask tree t →
    ((b : Bound) → Has (scope_of tree t).names b → (k : Known) → Has (known_of_type b.static_type) k → IsToldHere (scope_of tree t) k) →
    KnowsFacts tree t (scope_of tree t)
head_begins tree t sound told = record {
  within = λ a b c. ⊎_elim
      (λ p. let d = known_param (scope_of tree t).names (Within a b) p in absurd (none_within d.0.static_type (Within a b) d.2 a b refl))
      (λ p. let d = known_clause t.params t.clauses (Within a b) p in
      inl (by_clause a b d.0 (none_has (misdeclares tree (params_bound tree t.params)) t.clauses d.0 sound.clauses d.1) d.2 (Has-from_Contains (scope_of tree t).known (Within a b) c)))
      (Has-append_cases (known_of_params (scope_of tree t).names) (known_of_clauses t.params t.clauses) (Within a b) (Has-from_Contains (scope_of tree t).known (Within a b) c));
  made = λ i c. ⊎_elim
      (λ p. let d = known_param (scope_of tree t).names (Made i) p in absurd (none_made d.0.static_type (Made i) d.2 i refl))
      (λ p. let d = known_clause t.params t.clauses (Made i) p in absurd (none_told i d.0 d.2))
      (Has-append_cases (known_of_params (scope_of tree t).names) (known_of_clauses t.params t.clauses) (Made i) (Has-from_Contains (scope_of tree t).known (Made i) c));
  parts = λ k c. ⊎_elim
      (λ p. let d = known_param (scope_of tree t).names k p in told d.0 d.1 k d.2)
      (λ p. let d = known_clause t.params t.clauses k p in by_kind k d.0 d.2)
      (Has-append_cases (known_of_params (scope_of tree t).names) (known_of_clauses t.params t.clauses) k c);
  cuts = params_known tree t;
  next = omega (arith);
}
  where
    by_kind : (k : Known) (c : Clause) → Has (known_of_clause t.params c) k → IsToldHere (scope_of tree t) k
    by_kind (Within a b) c h = tt
    by_kind (Apart a b) c h = tt
    by_kind (Made i) c h = tt
    by_kind (PartOf p r d) (clause.Within a b) (inl same) = absurd (subst IsPartFact (sym same) tt)
    by_kind (PartOf p r d) (clause.Within a b) (inr g) = absurd g
    by_kind (PartOf p r d) (clause.Apart a b) (inl same) = absurd (subst IsPartFact (sym same) tt)
    by_kind (PartOf p r d) (clause.Apart a b) (inr g) = absurd g
    by_kind (PartOf p r d) (clause.Grants grants places) g = absurd g

    none_told : (i : ℕ) (c : Clause) → Has (known_of_clause t.params c) (Made i) → ⊥
    none_told i (clause.Within a b) (inl same) = absurd (subst IsMade (sym same) tt)
    none_told i (clause.Within a b) (inr g) = g
    none_told i (clause.Apart a b) (inl same) = absurd (subst IsMade (sym same) tt)
    none_told i (clause.Apart a b) (inr g) = g
    none_told i (clause.Grants grants places) g = g

    by_clause : (a b : Term) (c : Clause) → misdeclares tree (params_bound tree t.params) c ≡ false → Has (known_of_clause t.params c) (Within a b) →
        Has (scope_of tree t).known (Within a b) → IsPair tree t a b
    by_clause a b (clause.Within x y) e (inl same) there =
        let parts = or_parts (is_no_region (params_bound tree t.params) x) _ e in
        let one = region_param tree t sound x parts.0 in
        let two = region_param tree t sound y parts.1 in
        let i = place_in t.params x in
        let j = place_in t.params y in record {
          lower = i;
          upper = j;
          is_lower = sym (ap lower_term same);
          is_upper = sym (ap upper_term same);
          low = one.low;
          high = two.low;
          among = Contains-from_Has (pairs_in (scope_of tree t).known) (i, j) (pair_listed (scope_of tree t).known i j (subst (Has (scope_of tree t).known) (sym same) there));
        }
    by_clause a b (clause.Within x y) e (inr g) there = absurd g
    by_clause a b (clause.Apart x y) e (inl same) there = absurd (subst IsApart same tt)
    by_clause a b (clause.Apart x y) e (inr g) there = absurd g
    by_clause a b (clause.Grants grants places) e g there = absurd g

-- ---- from place to place

-- what the names at a place stand for is known, and no more is known there
pub record IsReady (tree : Tree) (task : TaskTree) (s : Scope) : Type 0 where
  pub names : AllKept true s.names
  pub head : KnowsHead tree task s
