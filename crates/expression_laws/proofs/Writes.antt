-- What assignments, `fill` and partition operations do to fields is covered.
use Rattle.plain_values.proofs.Plain.{option_or_parts}
use Rattle.std.proofs.Common.{List, [], ◌∷◌, ◌++◌, Bool, None, Option, false, true, refl, ap, sym, subst, ℕ, ℤ, zero, suc, ◌≡◌, ◌∙◌, ◌&&◌, ◌==◌, ◌≤◌, length, not, inl, inr, get_or, cond, flat_map}
use Rattle.std.proofs.lemmas.Bool.{and_parts, or_parts, eq-eqb, not-false}
use Rattle.std.proofs.lemmas.List.{length-set}
use Rattle.std.specs.List.{list_any}
use Rattle.plain_values.specs.Points.{has}
use Rattle.regent_tree.specs.Accesses.{aimed, aimed_in, aimed_through, converted}
use Rattle.regent_tree.specs.Cover.{is_covered}
use Rattle.regent_tree.specs.Evaluation.{stepped}
use Rattle.regent_tree.specs.Execution.{Going, access_of, before_last, fill_fields, goes_on, last_field, write_field}
use Rattle.regent_tree.specs.Lookup.{has_field}
use Rattle.regent_tree.specs.Running.{Here, Result, State, and_then}
use Rattle.regent_tree.specs.Initializers.{read_all}
use Rattle.regent_tree.specs.StaticTypes.{Reach, field_place, field_type}
use Rattle.regent_tree.specs.Store.{Store, Touch, touch_all, write_all, write_at}
use Rattle.regent_tree.specs.Syntax.{Expression, Name, Steps, TaskTree, at_step, field_step, no_step}
use Rattle.regent_tree.specs.Typing.{has_wild, stepped_type, type_of_element, type_of_field}
use Rattle.regent_tree.specs.Values.{Region, Target, Value, no_region, null_target, point_target}
use Rattle.regent_tree.specs.declared.facts.Term.{Term}
use Rattle.regent_tree.specs.declared.rights.Access.{Access}
use Rattle.regent_tree.specs.declared.rights.Access.TheVariants.{Read, Write, Reduce}
use Rattle.regent_tree.specs.declared.rights.Wanted.{Wanted}
use Rattle.regent_tree.specs.declared.statement.How.{How}
use Rattle.regent_tree.specs.declared.statement.How.TheVariants as how
use Rattle.regent_tree.specs.declared.types.Kind.{Kind}
use Rattle.regent_tree.specs.declared.typing.StaticType.{StaticType}
use Rattle.regent_tree.specs.declared.typing.StaticType.TheVariants.{Index as index_type, Integer as integer_type, Ispace as ispace_type, Nothing as no_type, Partition as partition_type, Pointer as pointer_type, Region as region_type, Truth as truth_type, Unknown as unknown_type}
use Rattle.regent_tree.proofs.Members.{Contains-from_Has, Has, Has-append_cases, Has-from_Contains, Has-map_cases, list_any-from_Has}
use Rattle.check_rules.specs.first.FirstInExpressions.{first_in_expression, first_in_steps, first_in_target_steps, first_of_step, first_of_taking}
use Rattle.check_rules.specs.types.KnownTypes.{known_type, takings, known_type_after_step}
use Rattle.check_rules.specs.rules.Privileges.{lacks, may_do, rights_declared, wanted_of_last, wanted_of_region, wanted_of_step, wanting}
use Rattle.check_rules.specs.types.TypedForms.{element_of, field_of}
use Rattle.check_rules.specs.scopes.Sound.{IsSound, IsSoundTask}
use Rattle.check_rules.specs.rules.Targets.{ends_in_element}
use Rattle.check_laws.specs.SoundScopes.{IsKnown, IsSoundScope}
use Rattle.check_laws.proofs.Parts.{contrary, element_known, field_known}
use Rattle.expression_laws.specs.Kinds.{ArgumentsInScope, GoInto, IsOfType, IsWellScoped, is_pointer, is_partition_of}
use Rattle.expression_laws.specs.Needs.{mode_of}
use Rattle.fact_laws.specs.Regions.{Interpretation, StandsFor}
use Rattle.expression_laws.specs.Sound.{AreInStore, AreSoundAnswers, AreCovered, Instance, IsSoundPlace, IsSoundState, KeepsSound}
use Rattle.expression_laws.specs.Writing.{AreStepped, IsWritten}
use Rattle.expression_laws.proofs.Covers.{may_covers}
use Rattle.expression_laws.proofs.Operators.{after, converted_passes, weaker}
use Rattle.expression_laws.proofs.Steps.{one_covered, taking_parts, use_covered, wanted_granted}
use Rattle.check_laws.proofs.Forms.{unflawed}
use Rattle.expression_laws.proofs.Values.{steps_are}
use Rattle.expression_laws.proofs.Knowing.{known_as_meant}
use Rattle.std.specs.Option.{option_or}

abbrev pub access_how : How → Access
access_how how.Set = Write
access_how (how.Reduce o) = Reduce o

mode_how : (k : How) → mode_of (access_how k) ≡ access_of k
mode_how how.Set = refl
mode_how (how.Reduce o) = refl

write_long : (store : Store) (root field point : ℕ) (z : ℤ) → length (write_at store root field point z) ≡ length store
write_long store root field point z = length-set store root _

fill_long : (store : Store) (root field : ℕ) (xs : List ℕ) (z : ℤ) → length (write_all store root field xs z) ≡ length store
fill_long store root field [] z = refl
fill_long store root field (x ∷ xs) z = fill_long (write_at store root field x z) root field xs z ∙ write_long store root field x z

module _ (task : TaskTree) (args : List Value) (roots : ℕ) (m : Interpretation) (h : Here) (sound : IsSound h.tree) (sound_task : IsSoundTask h.tree task)
    (scope : IsSoundScope h.scope) (well_scoped : IsWellScoped h.scope) (place : IsSoundPlace (record { tree = h.tree; calls = h.calls; task = task; args = args; roots = roots }) m h.scope)
    (answers : AreSoundAnswers m h.tree h.calls) where
  abbrev x : Instance
  x = record { tree = h.tree; calls = h.calls; task = task; args = args; roots = roots }

  -- ---- all points of a region

  pub many_covered : (touches more : List Touch) → AreCovered x touches → ((t : Touch) → Has more t → is_covered h.tree roots task args t ≡ true) → AreCovered x (touches ++ more)
  many_covered touches more are all y c = elim (Has-append_cases touches more y (Has-from_Contains (touches ++ more) y c)) [
    | inl g ↦ are y (Contains-from_Has touches y g)
    | inr g ↦ all y g
  ]

  -- a use of a field at all points of a region that a type's term stands for
  region_covered : (a : Access) (k : Kind) (sp : ℕ) (types : List Reach) (t : Term) (f : Name) (r : Region) →
      has_field h.tree sp f ≡ true → lacks h.tree task h.scope (wanted_of_region h.tree a (region_type k sp types t) f) ≡ false → StandsFor m t r →
      (y : Touch) → Has (touch_all r.root (field_place h.tree sp f) (mode_of a) r.points) y → is_covered h.tree roots task args y ≡ true
  region_covered a k sp types t f r there lacking stands y g =
      let point = Has-map_cases (λ n. record { root = r.root; field = field_place h.tree sp f; point = n; access = mode_of a }) r.points y g in
      let w : Wanted = wanting (field_place h.tree sp f) a t in
      let all : lacks h.tree task h.scope (w ∷ []) ≡ false = sym (λ j. lacks h.tree task h.scope (cond (there j) (w ∷ []) [])) ∙ lacking in
      let may = wanted_granted task args roots m h sound sound_task scope well_scoped place (w ∷ []) w all (inl refl) in
      let inside = list_any-from_Has (λ q. point.0 == q) r.points point.0 point.1 (eq-eqb point.0 point.0 refl) in
      subst (λ z. is_covered h.tree roots task args z ≡ true) point.2
      (may_covers x m h.scope sound_task place w r r.root point.0 stands (refl, inside) may)

  -- the column that a partition operation reads
  pub column_is : (k : Kind) (sp : ℕ) (types : List Reach) (t : Term) (f : Name) (r : Region) (u : State) →
      has_field h.tree sp f ≡ true → lacks h.tree task h.scope (wanted_of_region h.tree Read (region_type k sp types t) f) ≡ false → StandsFor m t r →
      IsSoundState x m h.scope u → KeepsSound x m h.scope (λ c. Unit {0}) (read_all h (region_type k sp types t) r f u)
  column_is k sp types t f r u there lacking stands st = (
    record { names = st.names; counted = st.counted; rooted = st.rooted; grown = st.grown; covered = many_covered u.touches _ st.covered (region_covered Read k sp types t f r there lacking stands) },
    tt,
  )

  lacks_parts : (ws more : List Wanted) → lacks h.tree task h.scope (ws ++ more) ≡ false →
      (lacks h.tree task h.scope ws ≡ false) × (lacks h.tree task h.scope more ≡ false)
  lacks_parts [] more e = (refl, e)
  lacks_parts (w ∷ ws) more e =
      let parts = and_parts (may_do (rights_declared h.tree task) h.scope.known w) _ (not-false _ e) in
      let rest = lacks_parts ws more (ap not parts.1) in
      ((λ j. not (parts.0 j && not-false _ rest.0 j)), rest.1)

  -- a `fill`
  abbrev GoesOnSound : Result Going → Type 0
  GoesOnSound r = KeepsSound x m h.scope (λ g. goes_on ≡ g) r

  converted_any : (from wanted : StaticType) (rs : List Region) (v : Value) (u : State) → IsSoundState x m h.scope u →
      KeepsSound x m h.scope (λ a. Unit {0}) (converted h from wanted rs v u)
  converted_any from wanted rs v u st = weaker x m h.scope _ (converted_passes x m h.scope h from wanted rs v u st) (λ a g. tt)

  pub fill_is : (from : StaticType) (v : Value) (k : Kind) (sp : ℕ) (types : List Reach) (t : Term) (r : Region) (fs : List Name) (u : State) →
      list_any (λ f. not (has_field h.tree sp f)) fs ≡ false →
      lacks h.tree task h.scope (flat_map (wanted_of_region h.tree Write (region_type k sp types t)) fs) ≡ false → StandsFor m t r →
      IsSoundState x m h.scope u → GoesOnSound (fill_fields h from v (region_type k sp types t) r fs u)
  fill_is from v k sp types t r [] u there lacking stands st = (st, refl)
  fill_is from v k sp types t r (f ∷ fs) u there lacking stands st =
      let parts = or_parts (not (has_field h.tree sp f)) _ there in
      let here = not-false _ parts.0 in
      let ws = wanted_of_region h.tree Write (region_type k sp types t) f in
      let split = lacks_parts ws (flat_map (wanted_of_region h.tree Write (region_type k sp types t)) fs) lacking in
      after (λ g. goes_on ≡ g) (converted h from (field_type h.tree sp types f) [] v u) _ (converted_any from (field_type h.tree sp types f) [] v u st) (λ a w st is.
      fill_is from v k sp types t r fs _ parts.1 split.1 stands
      (record { names = st.names; counted = st.counted; rooted = subst (λ c. AreInStore m c) (sym (fill_long w.store r.root _ r.points _)) st.rooted; grown = subst (λ c. roots ≤ c) (sym (fill_long w.store r.root _ r.points _)) st.grown; covered = many_covered w.touches _ st.covered (region_covered Write k sp types t f r here split.0 stands) }))

  -- ---- targets

  abbrev Told_target : StaticType → Steps → Type 0
  Told_target t steps = first_in_target_steps h.tree task h.scope t steps ≡ None

  -- the steps of a target before the last one, and the last field
  record IsLast (a : Access) (t : StaticType) (before : Steps) (last : Name) : Type 0 where
    written : AreStepped before
    told : first_in_steps h.tree task h.scope t before ≡ None
    is_known : IsKnown h.scope (stepped_type h.tree h.scope t before)
    taking : first_of_taking h.tree (field_of (stepped_type h.tree h.scope t before) last) ≡ None
    lacking : lacks h.tree task h.scope (wanted_of_step h.tree a (field_of (stepped_type h.tree h.scope t before) last)) ≡ false

  none_or : {A : Type 0} (a b : Option A) → a ≡ None → b ≡ None → option_or a b ≡ None
  none_or a b p q = λ j. option_or (p j) (q j)

  -- where a step goes on, nothing is told of what comes behind it
  field_goes : (t : StaticType) (f : Name) (rest : Steps) → IsKnown h.scope t → first_of_step h.tree task h.scope (field_of t f) ≡ None →
      IsKnown h.scope (type_of_field h.tree t f) × (known_type_after_step h.tree (field_of t f) (type_of_field h.tree t f) ≡ type_of_field h.tree t f)
  field_goes t f rest k e =
      let here = option_or_parts (first_of_taking h.tree (field_of t f)) _ e in
      let next = field_known h.tree h.scope t f sound k here.0 in
      let same = unflawed _ (type_of_field h.tree t f) next.known in
      (subst (IsKnown h.scope) same next, same)

  element_goes : (t : StaticType) (y : Expression) → IsKnown h.scope t → first_in_expression h.tree task h.scope y ≡ None →
      first_of_step h.tree task h.scope (element_of t (known_type h.tree h.scope y)) ≡ None →
      IsKnown h.scope (type_of_element h.scope t y)
      × (known_type_after_step h.tree (element_of t (known_type h.tree h.scope y)) (type_of_element h.scope t y) ≡ type_of_element h.scope t y)
  element_goes t y k told e =
      let here = option_or_parts (first_of_taking h.tree (element_of t (known_type h.tree h.scope y))) _ e in
      let key = known_as_meant h.tree task h.scope y sound scope told in
      let next = element_known h.tree h.scope t (known_type h.tree h.scope y) y k key.0.known here.0 in
      let same = unflawed _ (type_of_element h.scope t y) next.known in
      (subst (IsKnown h.scope) same next, same)

  field_more : (a : Access) (t : StaticType) (f : Name) (before : Steps) (last : Name) → IsKnown h.scope t →
      first_of_step h.tree task h.scope (field_of t f) ≡ None → IsLast a (type_of_field h.tree t f) before last → IsLast a t (field_step f before) last
  field_more a t f before last k e rest = record {
    written = rest.written;
    told = none_or _ _ e (subst (λ q. first_in_steps h.tree task h.scope q before ≡ None) (sym (field_goes t f before k e).1) rest.told);
    is_known = rest.is_known;
    taking = rest.taking;
    lacking = rest.lacking;
  }

  element_more : (a : Access) (t : StaticType) (y : Expression) (before : Steps) (last : Name) → IsWritten y → IsKnown h.scope t →
      (told : first_in_expression h.tree task h.scope y ≡ None) → first_of_step h.tree task h.scope (element_of t (known_type h.tree h.scope y)) ≡ None →
      IsLast a (type_of_element h.scope t y) before last → IsLast a t (at_step y before) last
  element_more a t y before last wr k told e rest = record {
    written = (wr, rest.written);
    told = none_or _ _ told (none_or _ _ e (subst (λ q. first_in_steps h.tree task h.scope q before ≡ None) (sym (element_goes t y k told e).1) rest.told));
    is_known = rest.is_known;
    taking = rest.taking;
    lacking = rest.lacking;
  }

  abbrev Lacks_last : Access → StaticType → Steps → Type 0
  Lacks_last a t steps = lacks h.tree task h.scope (wanted_of_last h.tree a (takings h.tree h.scope t steps)) ≡ false

  last_told : (a : Access) (t : StaticType) (steps : Steps) → (steps ≡ no_step → ⊥) → AreStepped steps → IsKnown h.scope t → ends_in_element steps ≡ false →
      Told_target t steps → Lacks_last a t steps → IsLast a t (before_last steps) (last_field steps)
  last_told a t no_step some wr k ends e lacking = absurd (some refl)
  last_told a t (field_step f no_step) some wr k ends e lacking = record { written = tt; told = refl; is_known = k; taking = e; lacking = lacking }
  last_told a t (field_step f (field_step g rest)) some wr k ends e lacking =
      let parts = option_or_parts (first_of_step h.tree task h.scope (field_of t f)) _ e in
      let goes = field_goes t f rest k parts.0 in
      field_more a t f (before_last (field_step g rest)) (last_field (field_step g rest)) k parts.0
      (last_told a (type_of_field h.tree t f) (field_step g rest) (λ q. absurd cc) wr goes.0 ends
      (subst (λ q. Told_target q (field_step g rest)) goes.1 parts.1) (subst (λ q. Lacks_last a q (field_step g rest)) goes.1 lacking))
  last_told a t (field_step f (at_step y rest)) some wr k ends e lacking =
      let parts = option_or_parts (first_of_step h.tree task h.scope (field_of t f)) _ e in
      let goes = field_goes t f rest k parts.0 in
      field_more a t f (before_last (at_step y rest)) (last_field (at_step y rest)) k parts.0
      (last_told a (type_of_field h.tree t f) (at_step y rest) (λ q. absurd cc) wr goes.0 ends
      (subst (λ q. Told_target q (at_step y rest)) goes.1 parts.1) (subst (λ q. Lacks_last a q (at_step y rest)) goes.1 lacking))
  last_told a t (at_step y no_step) some wr k ends e lacking = absurd (contrary ends)
  last_told a t (at_step y (field_step g rest)) some wr k ends e lacking =
      let inner = option_or_parts (first_in_expression h.tree task h.scope y) _ e in
      let step = option_or_parts (first_of_step h.tree task h.scope (element_of t (known_type h.tree h.scope y))) _ inner.1 in
      let on = element_goes t y k inner.0 step.0 in
      element_more a t y (before_last (field_step g rest)) (last_field (field_step g rest)) wr.0 k inner.0 step.0
      (last_told a (type_of_element h.scope t y) (field_step g rest) (λ q. absurd cc) wr.1 on.0 ends
      (subst (λ q. Told_target q (field_step g rest)) on.1 step.1) (subst (λ q. Lacks_last a q (field_step g rest)) on.1 lacking))
  last_told a t (at_step y (at_step z rest)) some wr k ends e lacking =
      let inner = option_or_parts (first_in_expression h.tree task h.scope y) _ e in
      let step = option_or_parts (first_of_step h.tree task h.scope (element_of t (known_type h.tree h.scope y))) _ inner.1 in
      let on = element_goes t y k inner.0 step.0 in
      element_more a t y (before_last (at_step z rest)) (last_field (at_step z rest)) wr.0 k inner.0 step.0
      (last_told a (type_of_element h.scope t y) (at_step z rest) (λ q. absurd cc) wr.1 on.0 ends
      (subst (λ q. Told_target q (at_step z rest)) on.1 step.1) (subst (λ q. Lacks_last a q (at_step z rest)) on.1 lacking))

  -- writing the field of a pointer
  write_pointer : (a : How) (k : Kind) (sp : ℕ) (types terms : List Reach) (f : Name) (v : Value) (t : Target) (rs : List Region) (u : State) →
      has_field h.tree sp f ≡ true → has_wild terms ≡ false →
      lacks h.tree task h.scope (wanted_of_step h.tree (access_how a) (field_of (pointer_type k sp types terms) f)) ≡ false →
      GoInto m terms rs → IsSoundState x m h.scope u → GoesOnSound (write_field h (pointer_type k sp types terms) f a v (aimed_through rs t) u)
  write_pointer a k sp types terms f v null_target rs u there wild lacking go st = record { covered = st.covered; depth = λ e. absurd cc }
  write_pointer a k sp types terms f v (point_target n zero) rs u there wild lacking go st = record { covered = st.covered; depth = λ e. absurd cc }
  write_pointer a k sp types terms f v (point_target n (suc i)) rs u there wild lacking go st = hit (has (get_or rs i no_region).points n) refl
    where
      hit : (b : Bool) → has (get_or rs i no_region).points n ≡ b →
          GoesOnSound (write_field h (pointer_type k sp types terms) f a v (aimed_in b (get_or rs i no_region) n) u)
      hit true e = (
        record {
          names = st.names;
          counted = st.counted;
          rooted = subst (λ c. AreInStore m c) (sym (write_long u.store (get_or rs i no_region).root _ n _)) st.rooted;
          grown = subst (λ c. roots ≤ c) (sym (write_long u.store (get_or rs i no_region).root _ n _)) st.grown;
          covered = one_covered task args roots m h sound sound_task scope well_scoped place u.touches _ st.covered
              (subst (λ c. is_covered h.tree roots task args (record { root = (get_or rs i no_region).root; field = field_place h.tree sp f; point = n; access = c }) ≡ true)
              (mode_how a) (use_covered task args roots m h sound sound_task scope well_scoped place (access_how a) k sp types terms f rs i n there wild lacking go e));
        },
        refl,
      )
      hit false e = record { covered = st.covered; depth = λ e. absurd cc }

  write_is : (a : How) (t : StaticType) (f : Name) (v p : Value) (u : State) → first_of_taking h.tree (field_of t f) ≡ None →
      lacks h.tree task h.scope (wanted_of_step h.tree (access_how a) (field_of t f)) ≡ false → IsKnown h.scope t → IsOfType m t p → IsSoundState x m h.scope u →
      GoesOnSound (write_field h t f a v (aimed p) u)
  write_is a (pointer_type k sp types terms) f v p u e lacking known (is_pointer {t = t} {rs = rs} go) st =
      let parts = taking_parts task args roots m h sound sound_task scope well_scoped place (field_of (pointer_type k sp types terms) f) e in
      write_pointer a k sp types terms f v t rs u (not-false _ parts.0) parts.2 lacking go st
  write_is a (partition_type d r q) f v p u e lacking known (is_partition_of same) st = record { covered = st.covered; depth = λ e. absurd cc }
  write_is a (integer_type w) f v p u e lacking known is st = absurd (contrary (taking_parts task args roots m h sound sound_task scope well_scoped place (field_of (integer_type w) f) e).1)
  write_is a truth_type f v p u e lacking known is st = absurd (contrary (taking_parts task args roots m h sound sound_task scope well_scoped place (field_of truth_type f) e).1)
  write_is a (index_type k) f v p u e lacking known is st = absurd (contrary (taking_parts task args roots m h sound sound_task scope well_scoped place (field_of (index_type k) f) e).1)
  write_is a (ispace_type k) f v p u e lacking known is st = absurd (contrary (taking_parts task args roots m h sound sound_task scope well_scoped place (field_of (ispace_type k) f) e).1)
  write_is a (region_type k sp types t) f v p u e lacking known is st = absurd (contrary (taking_parts task args roots m h sound sound_task scope well_scoped place (field_of (region_type k sp types t) f) e).1)
  write_is a no_type f v p u e lacking known is st = absurd (contrary (taking_parts task args roots m h sound sound_task scope well_scoped place (field_of no_type f) e).1)
  write_is a unknown_type f v p u e lacking known is st = absurd (contrary known.known)

  -- a value that is written to the last field of an access
  pub target_is : (a : How) (t : StaticType) (steps : Steps) (v p : Value) (u : State) → (steps ≡ no_step → ⊥) → AreStepped steps → IsKnown h.scope t → ArgumentsInScope h.scope t →
      ends_in_element steps ≡ false → Told_target t steps → Lacks_last (access_how a) t steps → IsOfType m t p → IsSoundState x m h.scope u →
      GoesOnSound (and_then (stepped h t p (before_last steps) u) (λ q. write_field h (stepped_type h.tree h.scope t (before_last steps)) (last_field steps) a v (aimed q)))
  target_is a t steps v p u some wr k are ends e lacking is st =
      let last = last_told (access_how a) t steps some wr k ends e lacking in
      after (λ g. goes_on ≡ g) (stepped h t p (before_last steps) u) _
      (steps_are task args roots m h sound sound_task scope well_scoped place answers t (before_last steps) last.written k are last.told p u st is) (λ q w st is.
      write_is a (stepped_type h.tree h.scope t (before_last steps)) (last_field steps) v q w last.taking last.lacking last.is_known is st)
