-- Arguments of a call: numbers, truths, regions that have names and parts of partitions that have names.
use Rattle.std.proofs.Common.{◌≡◌, ℕ, suc, ◌<◌, List, [], ◌∷◌, ◌⊎◌, true, Some, refl, sym, subst}
use Rattle.std.specs.Prelude.{get_or, length}
use Rattle.regent_tree.proofs.Expressions.{values_kept}
use Rattle.regent_tree.proofs.Laws.{any_calls, names_law}
use Rattle.regent_tree.specs.Evaluation.{value, values}
use Rattle.regent_tree.specs.Accesses.{converted}
use Rattle.regent_tree.specs.Laws.{Leaves, SameNames}
use Rattle.regent_tree.specs.Lookup.{is_bound}
use Rattle.regent_tree.specs.Running.{Here, Result, Run, State, and_then}
use Rattle.regent_tree.specs.Scopes.{bound_as, bound_to}
use Rattle.regent_tree.specs.Store.{no_root}
use Rattle.regent_tree.specs.Syntax.{Expression, Expressions, Name, access_expr, an_expr, at_step, no_expr, no_step}
use Rattle.regent_tree.specs.Typing.{parent_of}
use Rattle.regent_tree.specs.Values.{Region, Value, a_region}
use Rattle.regent_tree.specs.declared.typing.StaticType.{StaticType}
use Rattle.machine_terms.specs.declared.order.Instance.{Instance}
use Rattle.machine_terms.specs.declared.value.Value.{Value as MachineValue}
use Rattle.code_rules.specs.Expressions.{expr_code}
use Rattle.code_rules.specs.Instructions.{converted_code}
use Rattle.code_rules.specs.Pieces.{past}
use Rattle.code_rules.specs.Slots.{typed}
use Rattle.code_laws.specs.Arguments.{IsCutName, IsHanded, name_of, part_of}
use Rattle.code_laws.specs.Pointers.{IsCounting}
use Rattle.code_laws.specs.Pointers.{Passes}
use Rattle.code_laws.specs.Simple.{AreRegions, IsPartition}
use Rattle.code_laws.specs.Standing.{Agrees, Aside, IsInside, IsOf, SlotsFit, Stands, machine_value, nothing, where_of}
use Rattle.code_laws.specs.Steps.{HasMore, Setting, Taking, placed}
use Rattle.code_laws.proofs.Arguments.{IsCutArgument, IsPartArgument, Unchanged, cut_unchanged, handed_name, unchanged}
use Rattle.code_laws.proofs.Good.{Gives, valued}
use Rattle.code_laws.proofs.Making.{same_value}
use Rattle.code_laws.proofs.Operations.{named_runs}
use Rattle.code_laws.proofs.Parts.{GoodPart, IsColoured, cut_of, parent_inside, part_at_colour, part_runs}
use Rattle.code_laws.proofs.Reaching.{region_lies_in}
use Rattle.code_laws.proofs.Runs.{Said, then}
use Rattle.code_laws.proofs.Values.{named}
use Rattle.code_laws.proofs.Staying.{numbers_stay, region_same}

-- arguments leave the names as they were
pub arguments_keep_names : (h : Here) (ts : List StaticType) (es : Expressions) (s : State) → Leaves SameNames s (values h ts es s)
arguments_keep_names h ts es s = (values_kept names_law h (any_calls h.calls) ts es).all s

-- ---- what arguments are

module _ (x : Setting) (params slots : ℕ) (fit : SlotsFit x slots) {deep : ℕ} (aside : Aside deep) where
  -- a region that has a name is the value of the name
  pub record IsHandedAs (h : Here) (p : StaticType) (e : Expression) (v : Value) (names : List Value) : Type 0 where
    pub taking : Taking
    pub takes : x.forms.takes ≡ Some taking
    pub name : Name
    pub stands : name_of e ≡ Some name
    pub there : is_bound h.scope.names name ≡ true
    pub regions : AreRegions (bound_to h.scope.names name).static_type p
    pub is : v ≡ get_or names (bound_to h.scope.names name).place nothing

  -- so is a part of what a name has
  pub record IsPartAs (h : Here) (p : StaticType) (e : Expression) (v : Value) (names : List Value) : Type 0 where
    pub taking : Taking
    pub takes : x.forms.takes ≡ Some taking
    pub name : Name
    pub index : Expression
    pub stands : part_of e ≡ Some (name, index)
    pub cut : IsCutName (where_of params h) name
    pub regions : AreRegions (typed (where_of params h) e) p
    pub coloured : IsColoured h name index v names

  -- and a partition that has a name
  pub record IsCutGiven (h : Here) (p : StaticType) (e : Expression) (v : Value) (names : List Value) : Type 0 where
    pub taking : Taking
    pub takes : x.forms.takes ≡ Some taking
    pub name : Name
    pub stands : name_of e ≡ Some name
    pub cut : IsCutName (where_of params h) name
    pub partition : IsPartition p
    pub is : v ≡ get_or names (bound_to h.scope.names name).place nothing

  -- the value of an argument: what is given to a parameter of its type, such a region, such a part, or such a partition
  abbrev pub IsGivenBy : Here → StaticType → Expression → Value → List Value → Type 0
  IsGivenBy h p e v names =
      ((t : StaticType) × Passes (typed (where_of params h) e) t p × IsOf p v)
      ⊎ (IsHandedAs h p e v names ⊎ (IsPartAs h p e v names ⊎ IsCutGiven h p e v names))

  abbrev pub AreGivenBy : Here → List StaticType → Expressions → List Value → List Value → Type 0
  AreGivenBy h [] no_expr [] names = Unit {0}
  AreGivenBy h (p ∷ ps) (an_expr e es) (v ∷ vs) names = IsGivenBy h p e v names × AreGivenBy h ps es vs names
  AreGivenBy h _ _ _ names = ⊥

  -- values are the same for the machine as the run goes on
  abbrev pub Stays : Here → State → Instance → Value → Type 0
  Stays h s i v = (t : State) (j : Instance) → Agrees x params slots aside h t j → HasMore i.frame.own j.frame.own →
      machine_value i.contents v ≡ machine_value j.contents v

  pub value_stays : (h : Here) (s : State) (i : Instance) → Agrees x params slots aside h s i → (u : StaticType) (v : Value) → IsOf u v →
      IsInside x s.store u v → Stays h s i v
  value_stays h s i g u v typed inside t j k more =
      sym (same_value x s.store no_root i.contents j.contents (numbers_stay x params slots aside aside h h s t i j g k more) u v typed inside)

  pub part_stays : (h : Here) (s : State) (i : Instance) → Agrees x params slots aside h s i → (q : Region) → q.root < length s.store →
      Stays h s i (a_region q)
  part_stays h s i g q low t j k more =
      sym (region_same x params slots aside aside h h s t i j g k more q low)

  -- a region that has a name goes on the stack
  named_handed : {B : Type 0} {T : Instance → Result B → Type 0} → Said x T → (h : Here) (d : ℕ) (y : Taking) (t p : StaticType) (n : Name)
      (s : State) (pc : ℕ) (st : List MachineValue) (i : Instance) (K : Value → Run B) → x.forms.takes ≡ Some y →
      is_bound h.scope.names n ≡ true → t ≡ p → AreRegions (bound_to h.scope.names n).static_type p → Agrees x params slots aside h s i →
      Stands x.body pc (expr_code (where_of params h) d (access_expr n no_step)) →
      ((v : Value) (j : Instance) → IsHandedAs h p (access_expr n no_step) v s.names → Stays h s j v → Agrees x params slots aside h s j →
      T (valued (past (converted_code (where_of params h) (typed (where_of params h) (access_expr n no_step)) t)
      (past (expr_code (where_of params h) d (access_expr n no_step)) pc)) st v j) (K v s)) →
      T (placed pc st i) (and_then (value h (access_expr n no_step) s) (λ v. λ s1. and_then (converted h (typed (where_of params h) (access_expr n no_step)) t [] v s1) K))
  named_handed {T = T} said h d y t p n s pc st i K takes there same regions g stands more =
      let w = where_of params h in
      let b = (bound_to h.scope.names n).static_type in
      let v = get_or s.names (bound_to h.scope.names n).place nothing in
      let plain : Unchanged h w b t = subst (Unchanged h w b) (sym same) (unchanged h w b b p regions) in
      let c = named_runs x params slots fit aside h n s pc st i there g stands.0 in
      let done = more v c.0 (record { taking = y; takes = takes; name = n; stands = refl; there = there; regions = regions; is = refl })
      (value_stays h s c.0 c.2.1 b v c.2.0 (named (IsInside x s.store) h.scope.names s.names n g.inside_store there).holding) c.2.1 in
      said.before (placed pc st i) (valued (suc pc) st v c.0) _ c.1
      (subst (λ r. T (valued (suc pc) st v c.0) (and_then r K)) (sym (plain.value v s))
      (subst (λ q. T (valued (past q (suc pc)) st v c.0) (K v s)) plain.code done))

  pub handed_run : {B : Type 0} {T : Instance → Result B → Type 0} → Said x T → (h : Here) (d : ℕ) (y : Taking) (t p : StaticType) (e : Expression)
      (s : State) (pc : ℕ) (st : List MachineValue) (i : Instance) (K : Value → Run B) → x.forms.takes ≡ Some y →
      IsHanded (Some y) (where_of params h) t p e → Agrees x params slots aside h s i →
      Stands x.body pc (expr_code (where_of params h) d e) →
      ((v : Value) (j : Instance) → IsHandedAs h p e v s.names → Stays h s j v → Agrees x params slots aside h s j →
      T (valued (past (converted_code (where_of params h) (typed (where_of params h) e) t) (past (expr_code (where_of params h) d e) pc)) st v j) (K v s)) →
      T (placed pc st i) (and_then (value h e s) (λ v. λ s1. and_then (converted h (typed (where_of params h) e) t [] v s1) K))
  handed_run {T = T} said h d y t p e s pc st i K takes is g =
      let w = where_of params h in
      let q = handed_name y w t p e is in
      subst (λ e. Stands x.body pc (expr_code w d e) →
      ((v : Value) (j : Instance) → IsHandedAs h p e v s.names → Stays h s j v → Agrees x params slots aside h s j →
      T (valued (past (converted_code w (typed w e) t) (past (expr_code w d e) pc)) st v j) (K v s)) →
      T (placed pc st i) (and_then (value h e s) (λ v. λ s1. and_then (converted h (typed w e) t [] v s1) K))) (sym q.1)
      (named_handed said h d y t p q.0 s pc st i K takes q.2 q.3 q.4 g)

  -- so does a partition that has a name
  named_cut : {B : Type 0} {T : Instance → Result B → Type 0} → Said x T → (h : Here) (d : ℕ) (y : Taking) (t p : StaticType) (n : Name)
      (s : State) (pc : ℕ) (st : List MachineValue) (i : Instance) (K : Value → Run B) → x.forms.takes ≡ Some y →
      IsCutName (where_of params h) n → t ≡ p → IsPartition p → Agrees x params slots aside h s i →
      Stands x.body pc (expr_code (where_of params h) d (access_expr n no_step)) →
      ((v : Value) (j : Instance) → IsCutGiven h p (access_expr n no_step) v s.names → Stays h s j v → Agrees x params slots aside h s j →
      T (valued (past (converted_code (where_of params h) (typed (where_of params h) (access_expr n no_step)) t)
      (past (expr_code (where_of params h) d (access_expr n no_step)) pc)) st v j) (K v s)) →
      T (placed pc st i) (and_then (value h (access_expr n no_step) s) (λ v. λ s1. and_then (converted h (typed (where_of params h) (access_expr n no_step)) t [] v s1) K))
  named_cut {T = T} said h d y t p n s pc st i K takes cut same partition g stands more =
      let w = where_of params h in
      let b = (bound_to h.scope.names n).static_type in
      let v = get_or s.names (bound_to h.scope.names n).place nothing in
      let plain : Unchanged h w b t = subst (Unchanged h w b) (sym same) (cut_unchanged h w b p partition) in
      let c = named_runs x params slots fit aside h n s pc st i cut.named g stands.0 in
      let done = more v c.0 (record { taking = y; takes = takes; name = n; stands = refl; cut = cut; partition = partition; is = refl })
      (value_stays h s c.0 c.2.1 b v c.2.0 (named (IsInside x s.store) h.scope.names s.names n g.inside_store cut.named).holding) c.2.1 in
      said.before (placed pc st i) (valued (suc pc) st v c.0) _ c.1
      (subst (λ r. T (valued (suc pc) st v c.0) (and_then r K)) (sym (plain.value v s))
      (subst (λ q. T (valued (past q (suc pc)) st v c.0) (K v s)) plain.code done))

  pub cut_passed : {B : Type 0} {T : Instance → Result B → Type 0} → Said x T → (h : Here) (d : ℕ) (t p : StaticType) (e : Expression)
      (s : State) (pc : ℕ) (st : List MachineValue) (i : Instance) (K : Value → Run B) → IsCutArgument x.forms.takes (where_of params h) t p e →
      Agrees x params slots aside h s i → Stands x.body pc (expr_code (where_of params h) d e) →
      ((v : Value) (j : Instance) → IsCutGiven h p e v s.names → Stays h s j v → Agrees x params slots aside h s j →
      T (valued (past (converted_code (where_of params h) (typed (where_of params h) e) t) (past (expr_code (where_of params h) d e) pc)) st v j) (K v s)) →
      T (placed pc st i) (and_then (value h e s) (λ v. λ s1. and_then (converted h (typed (where_of params h) e) t [] v s1) K))
  cut_passed {T = T} said h d t p e s pc st i K a g =
      let w = where_of params h in
      subst (λ e. Stands x.body pc (expr_code w d e) →
      ((v : Value) (j : Instance) → IsCutGiven h p e v s.names → Stays h s j v → Agrees x params slots aside h s j →
      T (valued (past (converted_code w (typed w e) t) (past (expr_code w d e) pc)) st v j) (K v s)) →
      T (placed pc st i) (and_then (value h e s) (λ v. λ s1. and_then (converted h (typed w e) t [] v s1) K))) (sym a.is)
      (named_cut said h d a.taking t p a.name s pc st i K a.takes a.cut a.same a.partition g)

  -- ---- parts

  -- what stands for a part's colour runs, and counts as a number
  abbrev pub IndexRuns : Here → ℕ → Expression → State → List MachineValue → Instance → Type 0
  IndexRuns h d (access_expr n (at_step e no_step)) s st i = ((pc : ℕ) → Stands x.body pc (expr_code (where_of params h) d e) →
      Gives x params slots fit aside h (typed (where_of params h) e) (expr_code (where_of params h) d e) pc st st i (value h e s))
      × IsCounting (typed (where_of params h) e)
  IndexRuns h d e s st i = ⊥

  -- a part of a name's partition goes on the stack
  named_part : {B : Type 0} {T : Instance → Result B → Type 0} → Said x T → (h : Here) (d : ℕ) (y : Taking) (t p : StaticType) (n : Name)
      (e : Expression) (s : State) (pc : ℕ) (st : List MachineValue) (i : Instance) (K : Value → Run B) → x.forms.takes ≡ Some y →
      IsCutName (where_of params h) n → t ≡ p → AreRegions (typed (where_of params h) (access_expr n (at_step e no_step))) p →
      Agrees x params slots aside h s i → IndexRuns h d (access_expr n (at_step e no_step)) s st i →
      Stands x.body pc (expr_code (where_of params h) d (access_expr n (at_step e no_step))) →
      ((v : Value) (s1 : State) (j : Instance) → IsPartAs h p (access_expr n (at_step e no_step)) v s1.names → Stays h s1 j v → Agrees x params slots aside h s1 j →
      T (valued (past (converted_code (where_of params h) (typed (where_of params h) (access_expr n (at_step e no_step))) t)
      (past (expr_code (where_of params h) d (access_expr n (at_step e no_step))) pc)) st v j) (K v s1)) →
      T (placed pc st i) (and_then (value h (access_expr n (at_step e no_step)) s)
      (λ v. λ s1. and_then (converted h (typed (where_of params h) (access_expr n (at_step e no_step))) t [] v s1) K))
  named_part {T = T} said h d y t p n e s pc st i K takes cut same regions g runs stands more =
      let w = where_of params h in
      let from = access_expr n (at_step e no_step) in
      let b = typed w from in
      let plain : Unchanged h w b t = subst (Unchanged h w b) (sym same) (unchanged h w b b p regions) in
      then x said (valued (past (expr_code w d from) pc) st) (GoodPart x params slots fit aside h n e) (placed pc st i) (value h from s) _
      (part_runs x params slots fit aside h d n e s pc st i cut runs.0 runs.1 g stands)
      (λ v s1 j k.
      let q = k.0.partition in
      let c = cut_of x params slots fit aside h s1 j n q cut k.0.has_it k.1 in
      let parent = (bound_as h.scope.names (parent_of (bound_to h.scope.names n).static_type)).static_type in
      let lies = region_lies_in x s1.store parent c.parent c.is.region (parent_inside x params slots fit aside h s1 j (parent_of (bound_to h.scope.names n).static_type) q c k.1) in
      let low : q.root < length s1.store = subst (λ r. r < length s1.store) (sym c.root) lies.there in
      let done = more v s1 j (record { taking = y; takes = takes; name = n; index = e; stands = refl; cut = cut; regions = regions; coloured = k.0 })
      (subst (Stays h s1 j) (sym k.0.is) (part_stays h s1 j k.1 (part_at_colour q k.0.colour) low)) k.1 in
      subst (λ r. T (valued (past (expr_code w d from) pc) st v j) (and_then r K)) (sym (plain.value v s1))
      (subst (λ u. T (valued (past u (past (expr_code w d from) pc)) st v j) (K v s1)) plain.code done))

  pub part_passed : {B : Type 0} {T : Instance → Result B → Type 0} → Said x T → (h : Here) (d : ℕ) (t p : StaticType) (e : Expression) (Part : Type 0)
      (s : State) (pc : ℕ) (st : List MachineValue) (i : Instance) (K : Value → Run B) → IsPartArgument x.forms.takes (where_of params h) t p e Part →
      Agrees x params slots aside h s i → IndexRuns h d e s st i → Stands x.body pc (expr_code (where_of params h) d e) →
      ((v : Value) (s1 : State) (j : Instance) → IsPartAs h p e v s1.names → Stays h s1 j v → Agrees x params slots aside h s1 j →
      T (valued (past (converted_code (where_of params h) (typed (where_of params h) e) t) (past (expr_code (where_of params h) d e) pc)) st v j) (K v s1)) →
      T (placed pc st i) (and_then (value h e s) (λ v. λ s1. and_then (converted h (typed (where_of params h) e) t [] v s1) K))
  part_passed {T = T} said h d t p e Part s pc st i K a g =
      let w = where_of params h in
      subst (λ e. IndexRuns h d e s st i → Stands x.body pc (expr_code w d e) →
      ((v : Value) (s1 : State) (j : Instance) → IsPartAs h p e v s1.names → Stays h s1 j v → Agrees x params slots aside h s1 j →
      T (valued (past (converted_code w (typed w e) t) (past (expr_code w d e) pc)) st v j) (K v s1)) →
      T (placed pc st i) (and_then (value h e s) (λ v. λ s1. and_then (converted h (typed w e) t [] v s1) K))) (sym a.is)
      (named_part said h d a.taking t p a.name a.index s pc st i K a.takes a.cut a.same
      (subst (λ e. AreRegions (typed w e) p) a.is a.regions) g)
