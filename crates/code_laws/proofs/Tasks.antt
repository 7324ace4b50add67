-- What a call of a task means, its child comes to: by induction on how many more calls may nest.
use Rattle.value_laws.specs.Shapes.{KeepsNumbers}
use Rattle.code_laws.proofs.Variables.{zero_fits}
use Rattle.std.proofs.Common.{inr, ◌≡◌, ℕ, zero, suc, ◌+◌, ◌^◌, ◌<◌, ◌≤◌, ℤ, pos, List, [], ◌∷◌, ◌++◌, Option, Some, None, refl, sym, ap, ◌∙◌, subst, arith}
use Rattle.std.specs.Prelude.{Bool, get_or, length, map, take, true, false}
use Rattle.std.specs.List.{Contains}
use Rattle.lane_kernels.specs.declared.numbers.Width.TheVariants.{W64}
use Rattle.std.proofs.lemmas.List.{reverse-append}
use Rattle.std.proofs.lemmas.Option.{none-some, same_Some}
use Rattle.std.proofs.lemmas.Bool.{eq-eqb}
use Rattle.region_tree.specs.declared.tree.RootId.{RootId}
use Rattle.regent_tree.specs.Execution.{Going, goes_on, returned}
use Rattle.regent_tree.specs.Initializers.{zero_of}
use Rattle.regent_tree.specs.Laws.{Answers, SameRoots}
use Rattle.regent_tree.specs.Meaning.{body_of, calls_at, ended, entered, opening, run_task}
use Rattle.regent_tree.specs.Running.{Called, Result, State, came_back, fails, gives}
use Rattle.regent_tree.proofs.Members.{Has, Has-from_Contains}
use Rattle.regent_tree.specs.Scopes.{Scope, bound_params, scope_of}
use Rattle.regent_tree.specs.StaticTypes.{Looking, among_params, task_named, type_said}
use Rattle.regent_tree.specs.Store.{Store}
use Rattle.regent_tree.specs.Syntax.{Name, TaskTree, Tree}
use Rattle.regent_tree.specs.Typing.{param_types, result_type, scope_after_block}
use Rattle.regent_tree.specs.Values.{Region, Value, a_truth, kept_number, region_of}
use Rattle.regent_tree.specs.declared.facts.Term.{Term}
use Rattle.regent_tree.specs.declared.facts.Term.TheVariants.{Child as Child_term, Name as Name_term}
use Rattle.regent_tree.specs.declared.types.NumberTerm.TheVariants as number
use Rattle.regent_tree.specs.declared.types.Param.{Param}
use Rattle.regent_tree.specs.declared.types.TypeTerm.{TypeTerm}
use Rattle.regent_tree.specs.declared.types.TypeTerm.TheVariants as term
use Rattle.regent_tree.specs.declared.typing.Bound.{Bound}
use Rattle.regent_tree.specs.declared.typing.StaticType.TheVariants.{Region as region_type}
use Rattle.task_code.specs.declared.code.Code.{Code}
use Rattle.task_code.specs.declared.code.NeedCode.{NeedCode}
use Rattle.regent_tree.specs.declared.typing.StaticType.{StaticType}
use Rattle.regent_tree.proofs.Laws.{calls_drop_roots}
use Rattle.task_code.specs.declared.instr.Instr.TheVariants as instr
use Rattle.machine_terms.specs.declared.order.Contents.{Contents}
use Rattle.machine_terms.specs.declared.order.Ended.{Ended}
use Rattle.machine_terms.specs.declared.order.Ended.TheVariants.{Broke}
use Rattle.machine_terms.specs.declared.order.Instance.{Instance}
use Rattle.machine_terms.specs.Copies.{give_parts}
use Rattle.machine_terms.specs.Orders.{result_of, runs}
use Rattle.code_rules.specs.Instructions.{place_of_task}
use Rattle.code_rules.specs.Pieces.{op, past}
use Rattle.code_rules.specs.Programs.{body_piece, code_of, place_of, task_code}
use Rattle.code_rules.specs.Statements.{block_code}
use Rattle.memory_laws.specs.Memory.{Holds, memory_of}
use Rattle.memory_laws.specs.Places.{numbers}
use Rattle.memory_laws.proofs.Given.{given_keeps_numbers, given_stands}
use Rattle.code_laws.specs.Handing.{AreTypedBy, forms_by, takes_by, taking_of}
use Rattle.code_laws.specs.Pointers.{HasZero, given_pointed, zero_index, zero_scalar}
use Rattle.code_laws.specs.Programs.{IsGiven, called_setting, gives_index, gives_nothing, gives_scalar}
use Rattle.code_laws.specs.Simple.{IsRegion, a_region_type, scalar_integer, scalar_truth, term_in}
use Rattle.code_laws.specs.Standing.{AreFollowed, Answering, AreTaken, AreUnder, Does, IsFramed, IsInside, IsOf, IsTaken, LiesIn, Matches, machine_value, Returns, Stands, Takes, back, both_back, both_broke, called_with, of_index, of_integer, of_partition, of_pointer, of_region, of_truth, takes_partition, takes_pointer, takes_region, takes_value}
use Rattle.code_laws.specs.Steps.{Ends, Setting, Taking, placed}
use Rattle.code_laws.specs.Taking.{AreParts, IsGivenAs, IsHadBy, IsSubregion, given_region, needs_taken, pairs_in, pairs_taken, up_itself}
use Rattle.code_laws.proofs.Under.{sub_itself}
use Rattle.code_laws.proofs.Calling.{code_there, room_for}
use Rattle.code_laws.proofs.Counts.{counts_down}
use Rattle.code_laws.proofs.Entering.{Enters, entered_pointed, params_placed_by, taken_enters}
use Rattle.code_laws.proofs.Openings.{before_all, fits_slots, names_typed, opens, params_from, params_length, taken_length, types_in, types_length}
use Rattle.code_laws.proofs.Requiring.{asked_covered}
use Rattle.code_laws.proofs.LaunchFollowed.{launches_followed}
use Rattle.code_laws.proofs.Places.{stands_alone}
use Rattle.code_laws.proofs.Runs.{ends_by, leads_end}
use Rattle.code_laws.proofs.EagerRuns.{match_whole, eager_gives, values_settled}
use Rattle.tidy_code.specs.Results.{is_result}
use Rattle.tidy_code.proofs.Statements.{bodies_tidy}
use Rattle.code_laws.proofs.Statements.{block_runs}
use Rattle.code_laws.proofs.Values.{simple_inside}
use Rattle.code_laws.proofs.Besides.{params_beside}

-- ---- arguments and results

taken_typed : (takes : Option Taking) (code : Code) (store : Store) (ts : List StaticType) (vs : List Value) →
    AreTaken (IsTaken takes code store) ts vs → AreTaken IsOf ts vs
taken_typed takes code store [] [] a = tt
taken_typed takes code store (t ∷ ts) (v ∷ vs) a = (one t v a.0, taken_typed takes code store ts vs a.1)
  where
    one : (t : StaticType) (v : Value) → IsTaken takes code store t v → IsOf t v
    one _ _ (takes_value t v s o) = o
    one _ _ (takes_pointer k sp args rs tg qs o) = of_pointer k sp args rs tg qs o
    one _ _ (takes_partition y d r p q e l) = of_partition d r p q
    one _ _ (takes_region y k sp args r q e l) = of_region k sp args r q
taken_typed takes code store [] (v ∷ vs) a = absurd a
taken_typed takes code store (t ∷ ts) [] a = absurd a

-- a parameter of a region's type is named by its place
abbrev IsOwnTerm : ℕ → StaticType → Type 0
IsOwnTerm i (region_type k sp args r) = r ≡ Name_term i
IsOwnTerm i t = Unit {0}

abbrev AreOwnTerms : ℕ → List StaticType → Type 0
AreOwnTerms i [] = Unit {0}
AreOwnTerms i (t ∷ ts) = IsOwnTerm i t × AreOwnTerms (suc i) ts

said_own : (tree : Tree) (look : Looking) (i : ℕ) (t : TypeTerm) → IsOwnTerm i (type_said tree look i t)
said_own tree look i (term.Number number.Int32) = tt
said_own tree look i (term.Number number.Int64) = tt
said_own tree look i (term.Number (number.Index k)) = tt
said_own tree look i term.Truth = tt
said_own tree look i (term.Pointer t) = tt
said_own tree look i (term.Ispace k) = tt
said_own tree look i (term.Region k s) = refl
said_own tree look i (term.Partition d r c) = tt

types_last : (bs : List Bound) (b : Bound) → types_in (bs ++ b ∷ []) ≡ b.static_type ∷ types_in bs
types_last bs b = ap (map (λ (b : Bound). b.static_type)) (reverse-append bs (b ∷ []))

params_own : (tree : Tree) (all : List Param) (i : ℕ) (ps : List Param) → AreOwnTerms i (types_in (bound_params tree all i ps))
params_own tree all i [] = tt
params_own tree all i (p ∷ ps) =
    subst (AreOwnTerms i) (sym (types_last (bound_params tree all (suc i) ps) _))
    (said_own tree (among_params all) i p.term, params_own tree all (suc i) ps)

-- the regions of parameters began as no parts
abbrev AreLow : ℕ → List Bound → Type 0
AreLow n [] = Unit {0}
AreLow n (b ∷ bs) = ((k : ℕ) → IsRegion b.static_type → term_in b.static_type ≡ Name_term k → k < n) × AreLow n bs

low_last : (n : ℕ) (bs : List Bound) (b : Bound) → AreLow n bs → ((k : ℕ) → IsRegion b.static_type → term_in b.static_type ≡ Name_term k → k < n) → AreLow n (bs ++ b ∷ [])
low_last n [] b a c = (c, tt)
low_last n (d ∷ bs) b a c = (a.0, low_last n bs b a.1 c)

abbrev number_of_term : Term → ℕ
number_of_term (Name_term i) = i
number_of_term (Child_term p c) = 0

own_low : (i n : ℕ) (t : StaticType) → i < n → IsOwnTerm i t → (k : ℕ) → IsRegion t → term_in t ≡ Name_term k → k < n
own_low i n _ low own k (a_region_type _ _ _ r) e = let same : i ≡ k = ap number_of_term (sym own ∙ e) in omega (arith, low, same)

params_low : (tree : Tree) (all : List Param) (i n : ℕ) (ps : List Param) → i + length ps ≤ n → AreLow n (bound_params tree all i ps)
params_low tree all i n [] l = tt
params_low tree all i n (p ∷ ps) l =
    low_last n (bound_params tree all (suc i) ps) _ (params_low tree all (suc i) n ps (omega (arith, l)))
    (own_low i n (type_said tree (among_params all) i p.term) (omega (arith, l)) (said_own tree (among_params all) i p.term))

low_under : (handing : Bool) (tree : Tree) (t : TaskTree) (bs : List Bound) (names : List Value) → AreLow (length t.params) bs → AreUnder (takes_by handing tree t) bs names
low_under handing tree t [] names a = tt
low_under false tree t (b ∷ bs) names a = (tt, low_under false tree t bs names a.1)
low_under true tree t (b ∷ bs) names a = (
  (
    λ i r q region named behind above is. let low = a.0 i region named in absurd (omega (arith, low, behind)),
    λ i k q region named behind piece is. let low = a.0 i region named in absurd (omega (arith, low, behind)),
  ),
  low_under true tree t bs names a.1,
)

-- what is taken lies in the store, and is the parameter's
taken_inside : (x : Setting) (all : List Value) (takes : Option Taking) (code : Code) (store : Store) (i n : ℕ) (ts : List StaticType) (vs : List Value) →
    x.code ≡ code → x.args ≡ all → ((y : Taking) → takes ≡ Some y → (z : Taking) × (x.forms.takes ≡ Some z) × (z.params ≡ n)) →
    i + length vs ≡ n → ((k : ℕ) → get_or all (i + k) (a_truth false) ≡ get_or vs k (a_truth false)) → AreOwnTerms i ts →
    AreTaken (IsTaken takes code store) ts vs → AreTaken (IsInside x store) ts vs
taken_inside x all takes code store i n [] [] ec ea has long at own a = tt
taken_inside x all takes code store i n (t ∷ ts) (v ∷ vs) ec ea has long at own a = (
  one t v own.0 (ap (λ k. get_or all k (a_truth false)) (omega arith) ∙ at 0) a.0,
  taken_inside x all takes code store (suc i) n ts vs ec ea has (omega (arith, long))
      (λ k. ap (λ j. get_or all j (a_truth false)) (omega arith) ∙ at (suc k)) own.1 a.1,
)
  where
    had : (o : Option Taking) (z : Taking) (r : Term) (q : Region) → o ≡ Some z → IsGivenAs x.args z r q → IsHadBy o x r q
    had None z r q e g = absurd (none-some z e)
    had (Some y) z r q e g = inr (subst (λ (y : Taking). IsGivenAs x.args y r q) (sym (same_Some y z e)) g)

    one : (t : StaticType) (v : Value) → IsOwnTerm i t → get_or all i (a_truth false) ≡ v → IsTaken takes code store t v → IsInside x store t v
    one _ _ own here (takes_value t v s o) = simple_inside x store t v s
    one _ _ own here (takes_pointer k sp args rs tg qs o) = tt
    one _ _ own here (takes_partition y d r p q e l) = l
    one _ _ own here (takes_region y k sp args r q e l) =
        let z = has y e in
        let same : given_region x.args i ≡ q = ap (λ vs. region_of (get_or vs i (a_truth false))) ea ∙ ap region_of here in (
          subst (λ c. LiesIn c store sp q) (sym ec) l,
          had x.forms.takes z.0 r q z.1 (record {
            number = i;
            named = own;
            place = i;
            up = up_itself i;
            below = omega (arith, long, z.2);
            within = subst (IsSubregion q) (sym same) (sub_itself q);
            is = λ low. same;
          }),
        )
taken_inside x all takes code store i n [] (v ∷ vs) ec ea has long at own a = absurd a
taken_inside x all takes code store i n (t ∷ ts) [] ec ea has long at own a = absurd a

zero_typed : (sc : Scope) (t : StaticType) → HasZero t → IsOf t (zero_of sc [] t)
zero_typed sc _ (zero_scalar _ (scalar_integer w)) = of_integer w (pos 0) (zero_fits w)
zero_typed sc _ (zero_scalar _ scalar_truth) = of_truth _
zero_typed sc _ (zero_index k) = of_index k (pos 0) (zero_fits W64)

zero_given : (sc : Scope) (t : StaticType) → IsGiven t → kept_number (zero_of sc [] t) ≡ pos 0
zero_given sc _ (gives_scalar _ (scalar_integer w)) = refl
zero_given sc _ (gives_scalar _ scalar_truth) = refl
zero_given sc _ (gives_index k) = refl
zero_given sc _ gives_nothing = refl

-- where one task takes regions, each does
all_take : (handing : Bool) (tree : Tree) (t u : TaskTree) (y : Taking) → takes_by handing tree t ≡ Some y →
    (z : Taking) × (takes_by handing tree u ≡ Some z) × (z.params ≡ length u.params)
all_take false tree t u y e = absurd (none-some y e)
all_take true tree t u y e = (taking_of tree u, refl, refl)

-- it needs what it declares
needs_are : (handing : Bool) (tree : Tree) (t : TaskTree) (n : NeedCode) → Contains (needs_taken (takes_by handing tree t)) n →
    Has (task_code tree t).needs n
needs_are false tree t n h = absurd (Has-from_Contains [] n h)
needs_are true tree t n h = Has-from_Contains (task_code tree t).needs n h

-- its constraints are those that it declares
parts_are : (handing : Bool) (tree : Tree) (u t : TaskTree) (vs : List Value) →
    ((y : Taking) → takes_by handing tree u ≡ Some y → AreParts vs (pairs_in (scope_of tree t).known)) →
    AreParts vs (pairs_taken (takes_by handing tree t))
parts_are false tree u t vs h = λ p there. absurd (Has-from_Contains [] p there)
parts_are true tree u t vs h = h (taking_of tree u) refl

module _ (handing keeping : Bool) (tree : Tree) (turns : ℕ) (few : turns < 2 ^ 64) (are : AreTypedBy handing keeping tree) where
  -- a task's end, by the meaning and by the run
  matches_end : (x : Setting) (task : Name) (store : Store) (before : List ℕ) (v : Value) (s : State) (j : Instance) (result : Option ℤ) →
      x.code ≡ code_of tree → x.tree ≡ tree → x.before ≡ before → Returns tree task v → result_of result ≡ kept_number v → j.text ≡ s.text →
      Holds x.code s.store (memory_of j) → IsFramed x s.store j.frame.own (memory_of j) →
      SameRoots store (take (length store) s.store) →
      Matches tree x.code (Returns tree task) store before (came_back v (take (length store) s.store) s.text) (back result j)
  matches_end x task store before v s j result ec et eb typed value text holds framed same =
      subst (λ t. Matches tree x.code (Returns tree task) store before (came_back v (take (length store) s.store) t) (back result j)) text
      (both_back v s.store j.text result j.frame.own (give_parts j.parts j.contents) typed value same
      (subst (λ t. KeepsNumbers t s.store) et framed.kept)
      (given_stands x.code s.store (memory_of j) holds)
      ((given_keeps_numbers j.parts j.contents).0 ∙ framed.own_are ∙ ap (λ ns. ns ++ map (λ (id : RootId). id.0) j.frame.own) eb))

  abbrev setting : ℕ → ℕ → Contents → Name → List Value → Setting
  setting more depth c task args =
      called_setting (forms_by handing keeping tree (task_named tree task)) tree turns more depth (numbers c) args (task_named tree task)

  -- what a call of a task means where its body came to a result
  abbrev meant_by : Name → Store → Result Going → Called
  meant_by task store r =
      ended (length store) (scope_of tree (task_named tree task)) (result_type tree (task_named tree task).result) r

  by_end : (more depth : ℕ) (task : Name) (args : List Value) (store : Store) (c : Contents) (i : Instance) (r : Result Going) →
      IsGiven (result_type tree (task_named tree task).result) →
      Does (setting more depth c task args) (length (task_named tree task).params) (task_code tree (task_named tree task)).slots
      (before_all turns) i (past (block_code (place_of tree (task_named tree task)) (task_named tree task).body) 0)
      (record (body_of tree (calls_at tree turns more) (task_named tree task)) {
        scope = scope_after_block tree (scope_of tree (task_named tree task)) (task_named tree task).body;
      }) r →
      Stands (task_code tree (task_named tree task)).body
      (past (block_code (place_of tree (task_named tree task)) (task_named tree task).body) 0) (op instr.Return 0) →
      Answers SameRoots store (meant_by task store r) →
      (e : Ended) × Ends (setting more depth c task args) i e
      × Matches tree (code_of tree) (Returns tree task) store (numbers c) (meant_by task store r) e
  by_end more depth task args store c i (gives goes_on s) given d f same =
      let x = setting more depth c task args in
      let t = task_named tree task in
      let sc = scope_of tree t in
      let k = placed (past (block_code (place_of tree t) t.body) 0) [] d.0 in (
        back None k,
        leads_end x d.1 (ends_by x k (back None k) instr.Return 0 f refl),
        matches_end x task store (numbers c) (zero_of sc [] (result_type tree t.result)) s k None refl refl refl
            (zero_typed sc (result_type tree t.result)) (sym (zero_given sc (result_type tree t.result) given)) d.2.text d.2.memory d.2.framed same,
      )
  by_end more depth task args store c i (gives (returned v) s) given d f same = (
    back d.0 d.1,
    d.2,
    matches_end (setting more depth c task args) task store (numbers c) v s d.1 d.0 refl refl refl (d.7 refl) d.3 d.4 d.5 d.6 same,
  )
  by_end more depth task args store c i (fails k s) given d f same = (Broke (Some k) s.text, d, both_broke k s.text)

  -- the body of a task comes to what it means
  body_matches : (more depth : ℕ) (takes : Option Taking) (u : TaskTree) (task : Name) (vs : List Value) (store : Store) (c : Contents) →
      takes ≡ takes_by handing tree u → (takes_it : Takes takes (code_of tree) tree task vs store c) →
      Holds (code_of tree) store (memory_of (called_with tree turns depth task vs takes_it.needs c)) →
      Answering (setting more depth c task vs) tree (calls_at tree turns more) →
      Answers SameRoots store (meant_by task store (run_task tree turns (calls_at tree turns more) (task_named tree task) vs store)) →
      Matches tree (code_of tree) (Returns tree task) store (numbers c)
      (meant_by task store (run_task tree turns (calls_at tree turns more) (task_named tree task) vs store))
      (runs (code_of tree) turns (suc more) (called_with tree turns depth task vs takes_it.needs c))
  body_matches more depth takes u task vs store c from takes_it holds answers same =
      let x = setting more depth c task vs in
      let t = task_named tree task in
      let code = task_code tree t in
      let h = body_of tree (calls_at tree turns more) t in
      let i = called_with tree turns depth task vs takes_it.needs c in
      let r = run_task tree turns (calls_at tree turns more) t vs store in
      let ts = param_types tree t in
      let sc = scope_of tree t in
      let placed = params_placed_by tree t.params in
      let from_first = params_from tree t.params 0 t.params in
      let many : length vs ≡ length sc.names = taken_length (IsTaken takes (code_of tree) store) ts vs takes_it.taken ∙ types_length sc.names in
      let room = room_for h task vs takes (code_of tree) store c takes_it in
      let g = opens tree turns more depth t (place_of_task tree task) vs store c takes_it.needs vs (forms_by handing keeping tree t) (calls_at tree turns more) (λ e. answers)
      (taken_typed takes (code_of tree) store ts vs takes_it.taken)
      (taken_inside x vs takes (code_of tree) store 0 (length t.params) ts vs refl refl
      (λ y e. all_take handing tree u t y (sym from ∙ e)) (omega (arith, room.0)) (λ k. ap (λ j. get_or vs j (a_truth false)) (omega arith)) (params_own tree t.params 0 t.params) takes_it.taken)
      (given_pointed sc.names (params_length tree t.params 0 t.params) (entered_pointed sc ts vs many placed (names_typed IsOf sc.names vs from_first (taken_typed takes (code_of tree) store ts vs takes_it.taken)) sc.names
      (names_typed (Enters sc vs) sc.names (entered sc vs ts vs) from_first (taken_enters sc vs takes (code_of tree) store ts vs takes_it.taken takes_it.divided)) takes_it.goals))
      (low_under handing tree t sc.names (entered sc vs ts vs) (params_low tree t.params 0 (length t.params) t.params (omega arith)))
      (λ at. params_beside at c (length t.params) (length store) sc.names sc.names (entered sc vs ts vs) takes_it.goals) room.1 holds
      (λ n h. asked_covered (code_of tree) c vs code.needs store (memory_of i) refl takes_it.required n (needs_are handing tree t n h))
      (parts_are handing tree u t vs (λ y e. takes_it.parts y (from ∙ e))) takes_it.kept in
      let low : length t.params ≤ length h.scope.names = omega (arith, params_length tree t.params 0 t.params) in
      let task_is = are (place_of_task tree task) t takes_it.there in
      let stands = stands_alone (body_piece tree t) task_is.small in
      let done = by_end more depth task vs store c i r task_is.given
      (block_runs x (length t.params) code.slots (fits_slots x tree t refl) counts_down
      (before_all turns) h t.body (opening tree turns t vs store) 0 i low task_is.typed g stands.0) stands.1 same in
      let ran : runs (code_of tree) turns (suc more) i ≡ done.0 =
      eager_gives x (is_result (length t.params)) (bodies_tidy tree t task_is.small) code turns depth (place_of_task tree task) (map (machine_value c) vs)
      takes_it.needs c (values_settled c vs) (code_there tree task takes_it.there) refl (eq-eqb (length i.frame.slots) code.slots g.slots_are) done.0
      (match_whole tree (code_of tree) (Returns tree task) store (numbers c) (meant_by task store r) done.0 done.2) done.1 in
      subst (Matches tree (code_of tree) (Returns tree task) store (numbers c) (meant_by task store r)) (sym ran) done.2

  -- calls are answered at each depth
  pub answering : (more depth : ℕ) (before : List ℕ) (args : List Value) (t : TaskTree) → AreFollowed (task_code tree t).body → depth + more ≡ 64 →
      Answering (called_setting (forms_by handing keeping tree t) tree turns more depth before args t) tree (calls_at tree turns more)
  answering zero depth before args t behind e = record {
    code_is = refl;
    few = few;
    followed = behind;
    at_end = λ deep line task vs store. refl;
    below = λ shallow line task vs store c takes holds. absurd (omega (arith, e, shallow));
  }
  answering (suc more) depth before args t behind e = record {
    code_is = refl;
    few = few;
    followed = behind;
    at_end = λ deep line task vs store. absurd (omega (arith, e, deep));
    below = λ shallow line task vs store c takes holds.
        body_matches more (suc depth) (takes_by handing tree t) t task vs store c refl takes holds
        (answering more (suc depth) (numbers c) vs (task_named tree task)
        (launches_followed tree (task_named tree task) (are (place_of_task tree task) (task_named tree task) takes.there).small) (omega (arith, e)))
        (calls_drop_roots tree turns (suc more) line task vs store);
  }
