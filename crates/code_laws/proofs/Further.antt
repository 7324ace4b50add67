-- Fields of what fields go to: the code reads one after the other.
use Rattle.std.proofs.Common.{◌≡◌, false, inl, ℕ, suc, ◌<◌, List, ◌∷◌, refl, subst}
use Rattle.std.specs.Prelude.{get_or, length}
use Rattle.lane_kernels.specs.declared.numbers.Mode.TheVariants as mode
use Rattle.regent_tree.specs.Accesses.{space_in, standing, take_element, take_field}
use Rattle.regent_tree.specs.Evaluation.{stepped, value}
use Rattle.regent_tree.specs.Running.{Here, Result, Run, State, and_then, fails, given, gives}
use Rattle.regent_tree.specs.Scopes.{bound_to}
use Rattle.regent_tree.specs.StaticTypes.{field_place, field_term, space_at}
use Rattle.regent_tree.specs.Syntax.{Expression, Name, Steps, access_expr, at_step, field_step, no_step}
use Rattle.regent_tree.specs.Typing.{has_wild, reaches_of, stepped_type, type_of_element, type_of_field}
use Rattle.regent_tree.specs.Values.{Value, a_region, number_of}
use Rattle.regent_tree.specs.declared.typing.StaticType.{StaticType}
use Rattle.regent_tree.specs.declared.typing.StaticType.TheVariants.{Pointer as pointer_type, Region as region_type}
use Rattle.machine_terms.specs.declared.order.Instance.{Instance}
use Rattle.machine_terms.specs.declared.value.Value.{Value as MachineValue}
use Rattle.code_rules.specs.Expressions.{expr_code, steps_code}
use Rattle.code_rules.specs.Instructions.{field_code, load_code}
use Rattle.code_rules.specs.Pieces.{Piece, past, ◌⨟◌}
use Rattle.code_rules.specs.Slots.{own_slot, slot, typed}
use Rattle.code_laws.specs.Pointers.{FieldKeeps, IsPointed, IsPointer, a_pointer_type}
use Rattle.code_laws.specs.Simple.{IsRegion, a_region_type}
use Rattle.code_laws.specs.Standing.{Agrees, Aside, Comes, IsOf, SlotsFit, Stands, machine_value, nothing, of_pointer, of_region, where_of}
use Rattle.code_laws.specs.Steps.{Setting, placed}
use Rattle.code_laws.specs.Typed.{AreFurther, AreReachable, IsBehind, MayGo, MayReach, field_behind}
use Rattle.code_laws.proofs.Behind.{behind_reads, then_given}
use Rattle.code_laws.proofs.Besides.{there_no_part}
use Rattle.code_laws.proofs.Good.{Gives, Good, valued}
use Rattle.code_laws.proofs.Knowing.{GivesOnly, behind_pointed, field_pointed, only_given, taken_pointed, then_known}
use Rattle.code_laws.proofs.Runs.{comes_said}
use Rattle.code_laws.proofs.Through.{pointer_reads}
use Rattle.code_laws.proofs.Values.{named}

-- what goes on behind a step goes on behind the steps up to it
module _ (h : Here) (t : StaticType) (f : Name) (K : Value → Run Value) where
  given_on : (r : Result Value) → and_then (and_then r (λ y. given y)) K ≡ and_then r K
  given_on (gives y s) = refl
  given_on (fails e s) = refl

  field_on : (r : Result Value) →
      and_then (and_then r (λ y. λ s. and_then (take_field h t f y s) (λ z. given z))) K ≡ and_then r (λ y. λ s. and_then (take_field h t f y s) K)
  field_on (gives y s) = given_on (take_field h t f y s)
  field_on (fails e s) = refl

  standing_on : (v : Value) (r : Result Value) →
      and_then (and_then r (λ z. λ s. and_then (take_element h (number_of z) v s) (λ y. λ s1. and_then (take_field h t f y s1) (λ u. given u)))) K
      ≡ and_then r (λ z. λ s. and_then (take_element h (number_of z) v s) (λ y. λ s1. and_then (take_field h t f y s1) K))
  standing_on v (gives z s) = field_on (take_element h (number_of z) v s)
  standing_on v (fails e s) = refl

  element_on : (v : Value) (r : Result Value) →
      and_then (and_then r (λ w. λ s. and_then (standing h w s) (λ z. λ s1. and_then (take_element h (number_of z) v s1)
      (λ y. λ s2. and_then (take_field h t f y s2) (λ u. given u))))) K
      ≡ and_then r (λ w. λ s. and_then (standing h w s) (λ z. λ s1. and_then (take_element h (number_of z) v s1)
      (λ y. λ s2. and_then (take_field h t f y s2) K)))
  element_on v (gives w s) = standing_on v (standing h w s)
  element_on v (fails e s) = refl

module _ (x : Setting) (params slots : ℕ) (fit : SlotsFit x slots) {deep : ℕ} (aside : Aside deep) where
  -- a field of what a pointer goes to, which stands on the stack
  pointer_field : (h : Here) (t : StaticType) (f : Name) (out : StaticType) (v : Value) (s : State) (pc : ℕ) (st : List MachineValue) (i : Instance) →
      IsPointer t → AreReachable (where_of params h) t → has_wild (reaches_of t) ≡ false →
      field_place h.tree (space_in t) f < length (space_at h.tree (space_in t)).fields →
      FieldKeeps (field_term h.tree (space_in t) (field_place h.tree (space_in t) f)) out →
      MayReach x.forms (where_of params h) (reaches_of t) (field_place h.tree (space_in t) f) mode.Read → IsOf t v →
      IsPointed h.scope.names s.names t v → Agrees x params slots aside h s i → Stands x.body pc (field_code (where_of params h) t 0 f) →
      Gives x params slots fit aside h out (field_code (where_of params h) t 0 f) pc (machine_value i.contents v ∷ st) st i (take_field h t f v s)
  pointer_field h _ f out _ s pc st i (a_pointer_type k sp args rs names) there certain field keeps may (of_pointer _ _ _ _ tg qs o) pointed g stands =
      pointer_reads x params slots fit aside h k sp 0 args rs f tg qs out s pc st i names certain pointed
      (λ p c is q to. absurd (there_no_part h.scope.names sp (pointer_type k sp args rs) there p c is)) o field may keeps g stands

  -- one field after the other
  further_reads : (h : Here) (d : ℕ) (rest : Steps) (t : StaticType) (f : Name) (v : Value) (s : State) (pc : ℕ) (st : List MachineValue) (i : Instance) →
      AreFurther x.forms (where_of params h) t (field_step f rest) → IsOf t v → IsPointed h.scope.names s.names t v → Agrees x params slots aside h s i →
      Stands x.body pc (steps_code (where_of params h) d t 0 (field_step f rest)) →
      Gives x params slots fit aside h (stepped_type h.tree h.scope t (field_step f rest)) (steps_code (where_of params h) d t 0 (field_step f rest)) pc
      (machine_value i.contents v ∷ st) st i (stepped h t v (field_step f rest) s)
  further_reads h d no_step t f v s pc st i fine o pointed g stands =
      let w = where_of params h in
      let u = type_of_field h.tree t f in
      then_given x params slots fit aside (valued (past (field_code w t 0 f) pc) st) (Good x params slots fit aside h u)
      (placed pc (machine_value i.contents v ∷ st) i) (take_field h t f v s)
      (pointer_field h t f u v s pc st i fine.0.pointer fine.0.reachable fine.0.certain fine.0.field fine.0.keeps fine.0.may o pointed g stands.0)
  further_reads h d (field_step more rest) t f v s pc st i fine o pointed g stands =
      let w = where_of params h in
      let u = type_of_field h.tree t f in
      let a = past (field_code w t 0 f) pc in
      let out = stepped_type h.tree h.scope u (field_step more rest) in
      let done = past (steps_code w d u 0 (field_step more rest)) a in
      then_known x (λ i r. Comes x i (valued done st) (Good x params slots fit aside h out) r) (comes_said x _ _)
      (λ y s1. IsPointed h.scope.names s1.names u y) (valued a st) (Good x params slots fit aside h u)
      (placed pc (machine_value i.contents v ∷ st) i) (take_field h t f v s) (λ y. stepped h u y (field_step more rest))
      (only_given (λ y s1. IsPointed h.scope.names s1.names u y) (take_field h t f v s)
      (taken_pointed h t f v s fine.0.pointer (g.typed, g.count, fine.1.0.reachable)))
      (pointer_field h t f u v s pc st i fine.0.pointer fine.0.reachable fine.0.certain fine.0.field fine.0.keeps fine.0.may o pointed g stands.0)
      (λ y s1 j to k. further_reads h d rest u more y s1 a st j fine.1 k.0 to k.1 stands.1)
  further_reads h d (at_step e rest) t f v s pc st i fine o pointed g stands = absurd fine.1

  -- behind what gives a pointer
  pub then_further : (h : Here) (d : ℕ) (t : StaticType) (f : Name) (rest : Steps) (i : Instance) (a : ℕ) (st : List MachineValue) (r : Result Value) →
      AreFurther x.forms (where_of params h) t (field_step f rest) → GivesOnly (λ y s1. IsPointed h.scope.names s1.names t y) r →
      Comes x i (valued a st) (Good x params slots fit aside h t) r → Stands x.body a (steps_code (where_of params h) d t 0 (field_step f rest)) →
      Comes x i (valued (past (steps_code (where_of params h) d t 0 (field_step f rest)) a) st)
      (Good x params slots fit aside h (stepped_type h.tree h.scope t (field_step f rest))) (and_then r (λ y. stepped h t y (field_step f rest)))
  then_further h d t f rest i a st r fine known reads stands =
      let done = past (steps_code (where_of params h) d t 0 (field_step f rest)) a in
      then_known x (λ i r. Comes x i (valued done st) (Good x params slots fit aside h (stepped_type h.tree h.scope t (field_step f rest))) r)
      (comes_said x _ _) (λ y s1. IsPointed h.scope.names s1.names t y) (valued a st) (Good x params slots fit aside h t) i r
      (λ y. stepped h t y (field_step f rest)) known reads
      (λ y s1 j to k. further_reads h d rest t f y s1 a st j fine k.0 to k.1 stands)

  -- `p.f.g`
  pub behind_further : (h : Here) (d : ℕ) (n f more : Name) (rest : Steps) (s : State) (pc : ℕ) (st : List MachineValue) (i : Instance) →
      IsBehind (where_of params h) n f (field_behind (where_of params h) n f) → MayGo x.forms (where_of params h) n f mode.Read →
      AreFurther x.forms (where_of params h) (field_behind (where_of params h) n f) (field_step more rest) → Agrees x params slots aside h s i →
      Stands x.body pc (expr_code (where_of params h) d (access_expr n (field_step f (field_step more rest)))) →
      Gives x params slots fit aside h (typed (where_of params h) (access_expr n (field_step f (field_step more rest))))
      (expr_code (where_of params h) d (access_expr n (field_step f (field_step more rest)))) pc st st i
      (value h (access_expr n (field_step f (field_step more rest))) s)
  behind_further h d n f more rest s pc st i behind may fine g stands =
      let w = where_of params h in
      let u = field_behind w n f in
      let b = bound_to h.scope.names n in
      let v = get_or s.names b.place nothing in
      let a = past (expr_code w d (access_expr n (field_step f no_step))) pc in
      let done = past (steps_code w d u 0 (field_step more rest)) a in
      subst (λ r. Comes x (placed pc st i) (valued done st) (Good x params slots fit aside h (stepped_type h.tree h.scope u (field_step more rest))) r)
      (given_on h b.static_type f (λ y. stepped h u y (field_step more rest)) (take_field h b.static_type f v s))
      (then_further h d u more rest (placed pc st i) a st (value h (access_expr n (field_step f no_step)) s) fine
      (behind_pointed h b.static_type f v s (inl behind.pointer) (named IsOf h.scope.names s.names n g.typed behind.named).holding
      (g.typed, g.count, fine.0.reachable))
      (behind_reads x params slots fit aside h d n f u s pc st i behind may g (stands.0, (stands.1.0, tt))) stands.1.1)

  -- the code of an access of a name
  abbrev access_piece : Here → ℕ → StaticType → ℕ → Steps → Piece
  access_piece h d t p steps = load_code (where_of params h) t (slot (where_of params h) p) steps
      ⨟ steps_code (where_of params h) d t (own_slot (where_of params h) t p) steps

  -- `r[e].f.g`, where `r[e].f` is read
  pub access_further : (h : Here) (d : ℕ) (t : StaticType) (p : ℕ) (v : Value) (e : Expression) (f more : Name) (rest : Steps) (s : State) (pc : ℕ)
      (st : List MachineValue) (i : Instance) → IsRegion t → IsOf t v →
      AreFurther x.forms (where_of params h) (type_of_field h.tree (type_of_element h.scope t e) f) (field_step more rest) →
      Agrees x params slots aside h s i →
      (Stands x.body pc (access_piece h d t p (at_step e (field_step f no_step))) →
      Gives x params slots fit aside h (type_of_field h.tree (type_of_element h.scope t e) f) (access_piece h d t p (at_step e (field_step f no_step)))
      pc st st i (stepped h t v (at_step e (field_step f no_step)) s)) →
      Stands x.body pc (access_piece h d t p (at_step e (field_step f (field_step more rest)))) →
      Gives x params slots fit aside h (stepped_type h.tree h.scope t (at_step e (field_step f (field_step more rest))))
      (access_piece h d t p (at_step e (field_step f (field_step more rest)))) pc st st i (stepped h t v (at_step e (field_step f (field_step more rest))) s)
  access_further h d _ p _ e f more rest s pc st i (a_region_type k sp args r) (of_region _ _ _ _ q) fine g reads stands =
      let w = where_of params h in
      let t = region_type k sp args r in
      let v = a_region q in
      let own = type_of_element h.scope t e in
      let u = type_of_field h.tree own f in
      let a = past (access_piece h d t p (at_step e (field_step f no_step))) pc in
      let done = past (steps_code w (suc d) u 0 (field_step more rest)) a in
      subst (λ r. Comes x (placed pc st i) (valued done st) (Good x params slots fit aside h (stepped_type h.tree h.scope u (field_step more rest))) r)
      (element_on h own f (λ y. stepped h u y (field_step more rest)) v (value h e s))
      (then_further h (suc d) u more rest (placed pc st i) a st (stepped h t v (at_step e (field_step f no_step)) s) fine
      (field_pointed h t v e f s (a_region_type k sp args r) (of_region k sp args r q) (g.typed, g.count, fine.0.reachable))
      (reads (stands.0, (stands.1.0, (stands.1.1.0, (stands.1.1.1.0, (stands.1.1.1.1.0, (stands.1.1.1.1.1.0, tt)))))))
      stands.1.1.1.1.1.1)
