-- The run in order of a program over scalars is what the program means.
use Rattle.std.proofs.Common.{◌≡◌, ℕ, ◌≤◌, ◌<◌, ◌^◌, ℤ, List, [], ◌∷◌, ◌++◌, Bool, true, false, refl, sym, ap, ◌∙◌, arith, subst}
use Rattle.std.specs.Prelude.{None, cond, length, map, nat_le, ◌==◌, ◌&&◌}
use Rattle.std.proofs.lemmas.Bool.{and_parts, le-leb, eq-eqb}
use Rattle.regent_tree.specs.Execution.{Going, goes_on, returned}
use Rattle.regent_tree.specs.Meaning.{body_of, calls_at, entered, inputs_of, meaning, opening, outcome}
use Rattle.regent_tree.specs.Running.{Result, State, fails, gives}
use Rattle.regent_tree.specs.Scopes.{Scope, scope_of}
use Rattle.regent_tree.specs.Values.{Value, a_number}
use Rattle.regent_tree.specs.StaticTypes.{entry_name, task_named}
use Rattle.regent_tree.specs.Syntax.{TaskTree, Tree}
use Rattle.regent_tree.specs.Typing.{param_types, scope_after_block, width_of_type}
use Rattle.regent_tree.specs.declared.outcome.Ending.TheVariants.{Finished}
use Rattle.regent_tree.specs.declared.typing.StaticType.{StaticType}
use Rattle.task_code.specs.declared.instr.Instr.TheVariants as instr
use Rattle.machine_terms.specs.declared.order.Ended.{Ended}
use Rattle.machine_terms.specs.declared.value.Value.TheVariants as machine
use Rattle.machine_terms.specs.Copies.{give_parts}
use Rattle.machine_terms.specs.Jobs.{images_of, may_start, outcome as run_outcome, run_first, void_outcome}
use Rattle.machine_terms.specs.Opening as frames
use Rattle.machine_terms.specs.Orders.{begun, runs}
use Rattle.machine_terms.specs.Contents.{no_contents}
use Rattle.region_tree.specs.declared.tree.RootId.{RootId}
use Rattle.code_rules.specs.Instructions.{place_of_task}
use Rattle.code_rules.specs.Pieces.{op, past}
use Rattle.code_rules.specs.Programs.{body_piece, code_of, place_of, task_code}
use Rattle.code_rules.specs.Statements.{block_code}
use Rattle.memory_laws.proofs.Beginning.{first_holds}
use Rattle.memory_laws.proofs.Closed.{ends_with_store}
use Rattle.memory_laws.proofs.Given.{given_keeps_numbers, given_stands}
use Rattle.memory_laws.specs.Memory.{Holds, memory_of}
use Rattle.regent_tree.specs.Store.{Store}
use Rattle.regent_tree.specs.declared.outcome.Ending.{Ending}
use Rattle.regent_tree.specs.declared.outcome.RootImage.{RootImage}
use Rattle.machine_terms.specs.declared.order.Instance.{Instance}
use Rattle.code_laws.proofs.Kept.{none_kept}
use Rattle.code_laws.proofs.LaunchFollowed.{launches_followed}
use Rattle.code_laws.proofs.Tasks.{answering}
use Rattle.code_laws.proofs.Values.{not_true, number_inside}
use Rattle.task_code.specs.declared.code.NeedCode.{NeedCode}
use Rattle.regent_tree.specs.Store.{Touch}
use Rattle.code_laws.specs.Handing.{AreTypedBy, HandingProgramsEndWell, RegionsAreHandedAsMeant, forms_by}
use Rattle.code_laws.specs.AcceptedPrograms.{IsEnded}
use Rattle.code_laws.specs.Taking.{allows, given_region, is_asked}
use Rattle.code_laws.specs.Pointers.{given_pointed}
use Rattle.code_laws.specs.Programs.{AreTypedTasks, PointerCallsRunAsMeant, CallsRunAsMeant, call_forms, IsTypedRun, LeavesNoRoots, PointersRunAsMeant, RegionsRunAsMeant, RunsAsMeant, ScalarsRunAsMeant, entry_setting, job_of, pointer_forms, region_forms, scalar_forms}
use Rattle.code_laws.specs.Standing.{Answering, AreTaken, Does, IsFramed, IsInside, IsOf, Stands, machine_value}
use Rattle.code_laws.specs.Steps.{Ends, Forms, Setting, placed}
use Rattle.code_laws.proofs.Counts.{counts_down}
use Rattle.code_laws.proofs.Openings.{before_all, begins, fits_slots, least_slots, names_typed, opens, params_from, params_length, taken_length, types_length}
use Rattle.code_laws.proofs.Shapes.{all_shaped}
use Rattle.run_report.specs.Dumps.{fits_spaces}
use Rattle.code_laws.proofs.Places.{stands_alone}
use Rattle.code_laws.proofs.Pointing.{IsNoRegion, IsPlain, all_plain}
use Rattle.code_laws.proofs.Under.{none_under}
use Rattle.code_laws.proofs.Entering.{plain_entered}
use Rattle.code_laws.proofs.Runs.{ends_by, leads_end}
use Rattle.eager_laws.specs.Laws.{IsWhole}
use Rattle.code_laws.proofs.EagerRuns.{back_whole, fault_whole, eager_gives, values_settled}
use Rattle.tidy_code.specs.Results.{is_result}
use Rattle.tidy_code.proofs.Statements.{bodies_tidy}
use Rattle.code_laws.proofs.Statements.{block_runs}
use Rattle.code_laws.proofs.Besides.{plain_beside}

-- the inputs are numbers
inputs_kept : (ts : List StaticType) (zs : List ℤ) → length zs ≡ length ts →
    map (machine_value no_contents) (inputs_of ts zs) ≡ map machine.Number zs
inputs_kept [] [] e = refl
inputs_kept [] (z ∷ zs) e = absurd (omega (arith, e))
inputs_kept (t ∷ ts) [] e = absurd (omega (arith, e))
inputs_kept (t ∷ ts) (z ∷ zs) e = ap (λ vs. machine.Number z ∷ vs) (inputs_kept ts zs (omega (arith, e)))

inputs_inside : (x : Setting) (store : Store) (ts : List StaticType) (zs : List ℤ) → AreTaken IsOf ts (inputs_of ts zs) →
    AreTaken (IsInside x store) ts (inputs_of ts zs)
inputs_inside x store [] [] a = tt
inputs_inside x store [] (z ∷ zs) a = tt
inputs_inside x store (t ∷ ts) [] a = absurd a
inputs_inside x store (t ∷ ts) (z ∷ zs) a =
    (number_inside x store t (width_of_type t) z a.0, inputs_inside x store ts zs a.1)

inputs_plain : (s : Scope) (all : List Value) (ts : List StaticType) (zs : List ℤ) → AreTaken IsOf ts (inputs_of ts zs) →
    AreTaken (λ u v. IsPlain v) ts (entered s all ts (inputs_of ts zs))
inputs_plain s all [] [] a = tt
inputs_plain s all [] (z ∷ zs) a = tt
inputs_plain s all (t ∷ ts) [] a = absurd a
inputs_plain s all (t ∷ ts) (z ∷ zs) a =
    (subst IsPlain (sym (plain_entered s all t (a_number (width_of_type t) z) tt)) tt, inputs_plain s all ts zs a.1)

inputs_no_region : (s : Scope) (all : List Value) (ts : List StaticType) (zs : List ℤ) → AreTaken IsOf ts (inputs_of ts zs) →
    AreTaken (λ u v. IsNoRegion v) ts (entered s all ts (inputs_of ts zs))
inputs_no_region s all [] [] a = tt
inputs_no_region s all [] (z ∷ zs) a = tt
inputs_no_region s all (t ∷ ts) [] a = absurd a
inputs_no_region s all (t ∷ ts) (z ∷ zs) a =
    (subst IsNoRegion (sym (plain_entered s all t (a_number (width_of_type t) z) tt)) (λ q e. absurd cc), inputs_no_region s all ts zs a.1)

-- at the end of the first task what its roots hold is the store
roots_are : (x : Setting) (s : State) (j : Instance) → x.before ≡ [] → Holds x.code s.store (memory_of j) →
    IsFramed x s.store j.frame.own (memory_of j) →
    images_of j.frame.own (give_parts j.parts j.contents) ≡ Finished s.store
roots_are x s j e h f =
    ends_with_store x.code s.store (give_parts j.parts j.contents) j.frame.own (given_stands x.code s.store (memory_of j) h)
    ((given_keeps_numbers j.parts j.contents).0 ∙ f.own_are ∙ ap (λ ns. ns ++ map (λ (id : RootId). id.0) j.frame.own) e)

-- the roots of an end
abbrev roots_in : Ending → List RootImage
roots_in (Finished roots) = roots
roots_in _ = []

-- without own roots the store is empty
no_roots : (x : Setting) (s : State) (j : Instance) → x.before ≡ [] → x.forms.makes ≡ false → Holds x.code s.store (memory_of j) →
    IsFramed x s.store j.frame.own (memory_of j) → s.store ≡ []
no_roots x s j e m h f = ap roots_in (sym (roots_are x s j e h f)
    ∙ ap (λ own. images_of own (give_parts j.parts j.contents)) (f.none m))

module _ (forms : Forms) (tree : Tree) (turns : ℕ) (t : TaskTree) where
  abbrev x : Setting
  x = entry_setting forms tree turns t

  -- what the body comes to is told as the meaning tells it
  abbrev IsTold : Result Going → Ended → Type 0
  IsTold r e = (run_outcome e ≡ outcome r) × (forms.makes ≡ false → LeavesNoRoots (outcome r).ending) × (fits_spaces (code_of tree) (outcome r) ≡ true)

  by_end : (i : _) (r : Result Going) → Does x (length t.params) (task_code tree t).slots (before_all turns) i
      (past (block_code (place_of tree t) t.body) 0)
      (record (body_of tree (calls_at tree turns 63) t) { scope = scope_after_block tree (scope_of tree t) t.body }) r →
      Stands (task_code tree t).body (past (block_code (place_of tree t) t.body) 0) (op instr.Return 0) →
      (e : Ended) × Ends x i e × IsTold r e × IsWhole e
  by_end i (gives goes_on s) d f =
      let k = placed (past (block_code (place_of tree t) t.body) 0) [] d.0 in (
        _,
        leads_end x d.1 (ends_by x k _ instr.Return 0 f refl),
        (
          ap (λ text. record { text = text; ending = images_of d.0.frame.own (give_parts d.0.parts d.0.contents) }) d.2.text
              ∙ ap (λ e. record { text = s.text; ending = e }) (roots_are x s d.0 refl d.2.memory d.2.framed),
          λ m. no_roots x s d.0 refl m d.2.memory d.2.framed,
          all_shaped (code_of tree).spaces s.store d.2.framed.shaped,
        ),
        back_whole None k.frame.own (give_parts k.parts k.contents) k.text,
      )
  by_end i (gives (returned v) s) d f = (
    _,
    d.2,
    (
      ap (λ text. record { text = text; ending = images_of d.1.frame.own (give_parts d.1.parts d.1.contents) }) d.4
          ∙ ap (λ e. record { text = s.text; ending = e }) (roots_are x s d.1 refl d.5 d.6),
      λ m. no_roots x s d.1 refl m d.5 d.6,
      all_shaped (code_of tree).spaces s.store d.6.shaped,
    ),
    back_whole d.0 d.1.frame.own (give_parts d.1.parts d.1.contents) d.1.text,
  )
  by_end i (fails k s) d f = (_, d, (refl, λ m. tt, refl), fault_whole k s.text)

-- nothing is asked of the first task's arguments
nothing_asked : (n : NeedCode) (u : Touch) → is_asked [] n u ≡ true → ⊥
nothing_asked n u e =
    let q = given_region [] n.param in
    let one = and_parts (n.field == u.field) _ e in
    let two = and_parts (allows n.mode u.access) _ one.1 in
    not_true (and_parts (q.root == u.root) _ two.1).1

pub typed_run_ends : (forms : Forms) (tree : Tree) (inputs : List ℤ) (turns : ℕ) →
    (forms.calls ≡ true → Answering (entry_setting forms tree turns (task_named tree (entry_name tree))) tree (calls_at tree turns 63)) →
    IsTypedRun forms tree inputs →
    RunsAsMeant tree inputs turns × (forms.makes ≡ false → LeavesNoRoots (meaning tree inputs turns).ending)
    × (fits_spaces (code_of tree) (meaning tree inputs turns) ≡ true)
typed_run_ends forms tree inputs turns answers p =
    let t = task_named tree (entry_name tree) in
    let code = task_code tree t in
    let place = place_of_task tree (entry_name tree) in
    let job = job_of tree inputs turns in
    let ts = param_types tree t in
    let vs = inputs_of ts inputs in
    let sc = scope_of tree t in
    let x = entry_setting forms tree turns t in
    let h = body_of tree (calls_at tree turns 63) t in
    let i = begins tree turns 63 1 t place vs [] no_contents [] [] in
    let params : length ts ≡ length t.params = types_length (scope_of tree t).names ∙ params_length tree t.params 0 t.params in
    let same : map (machine_value no_contents) vs ≡ map machine.Number inputs = inputs_kept ts inputs (p.count ∙ sym params) in
    let room : length t.params ≤ code.slots = least_slots (length t.params) code.body in
    let few : length vs ≤ code.slots = omega (arith, taken_length IsOf ts vs p.taken, params, room) in
    let g = opens tree turns 63 1 t place vs [] no_contents [] [] forms (calls_at tree turns 63) answers p.taken (inputs_inside x [] ts inputs p.taken)
    (given_pointed sc.names (params_length tree t.params 0 t.params) (all_plain sc.names sc.names (entered sc vs ts vs) (names_typed (λ u v. IsPlain v) sc.names (entered sc vs ts vs) (params_from tree t.params 0 t.params) (inputs_plain sc vs ts inputs p.taken))))
    (none_under forms.takes sc.names (entered sc vs ts vs) (names_typed (λ u v. IsNoRegion v) sc.names (entered sc vs ts vs) (params_from tree t.params 0 t.params) (inputs_no_region sc vs ts inputs p.taken)))
    (λ at. plain_beside at no_contents (length t.params) 0 sc.names (entered sc vs ts vs)
    (names_typed (λ u v. IsPlain v) sc.names (entered sc vs ts vs) (params_from tree t.params 0 t.params) (inputs_plain sc vs ts inputs p.taken))) few
    (first_holds (code_of tree) i.frame) (λ n h u asked. absurd (nothing_asked n u asked))
    (λ q h. (refl, λ root point is. absurd (not_true is.1))) (none_kept tree) in
    let low : length t.params ≤ length h.scope.names = omega (arith, params_length tree t.params 0 t.params) in
    let stands = stands_alone (body_piece tree t) p.small in
    let done = by_end forms tree turns t i _ (block_runs x (length t.params) code.slots (fits_slots x tree t refl) counts_down
    (before_all turns) h t.body (opening tree turns t vs []) 0 i low p.typed g stands.0) stands.1 in
    let many : (length i.frame.slots == code.slots) ≡ true = eq-eqb (length i.frame.slots) code.slots g.slots_are in
    let ran : runs (code_of tree) turns 64 i ≡ done.0 =
    eager_gives x (is_result (length t.params)) (bodies_tidy tree t p.small) code turns 1 place (map (machine_value no_contents) vs) [] no_contents
    (values_settled no_contents vs) p.start refl many done.0 done.3 done.1 in
    let begins : may_start job code ≡ true =
    ap (λ ns. (length ns == 0) && (length inputs == length t.params) && nat_le (length t.params) code.slots) p.needs
    ∙ ap (λ b. b && nat_le (length t.params) code.slots) (eq-eqb (length inputs) (length t.params) p.count)
    ∙ le-leb (length t.params) code.slots room in (
      ap (run_first job) p.start
          ∙ ap (λ b. cond b (run_outcome (runs (code_of tree) turns 64 (begun (frames.opening turns 1 place code (map machine.Number inputs)) [] no_contents))) void_outcome) begins
          ∙ ap (λ ms. run_outcome (runs (code_of tree) turns 64 (begun (frames.opening turns 1 place code ms) [] no_contents))) (sym same)
          ∙ ap run_outcome ran
          ∙ done.2.0,
      done.2.1,
      done.2.2,
    )

pub scalars_run_as_meant : ScalarsRunAsMeant
scalars_run_as_meant tree inputs turns p = (typed_run_ends scalar_forms tree inputs turns (λ e. absurd (not_true e)) p).0

pub pointers_run_as_meant : PointersRunAsMeant
pointers_run_as_meant tree inputs turns p = (typed_run_ends pointer_forms tree inputs turns (λ e. absurd (not_true e)) p).0

pub regions_run_as_meant : RegionsRunAsMeant
regions_run_as_meant tree inputs turns p = (typed_run_ends region_forms tree inputs turns (λ e. absurd (not_true e)) p).0

-- by what calls are answered
handed_end : (handing keeping : Bool) (tree : Tree) (inputs : List ℤ) (turns : ℕ) → turns < 2 ^ 64 → AreTypedBy handing keeping tree →
    IsTypedRun (forms_by handing keeping tree (task_named tree (entry_name tree))) tree inputs →
    RunsAsMeant tree inputs turns × (true ≡ false → LeavesNoRoots (meaning tree inputs turns).ending)
    × (fits_spaces (code_of tree) (meaning tree inputs turns) ≡ true)
handed_end handing keeping tree inputs turns few are p =
    let t = task_named tree (entry_name tree) in
    typed_run_ends (forms_by handing keeping tree t) tree inputs turns (λ e. answering handing keeping tree turns few are 63 1 [] [] t (launches_followed tree t p.small) refl) p

pub regions_are_handed_as_meant : RegionsAreHandedAsMeant
regions_are_handed_as_meant keeping tree inputs turns few are p = (handed_end true keeping tree inputs turns few are p).0

-- no outcome of a run of the meaning is broken
pub is_ended : (r : Result Going) → IsEnded (outcome r).ending
is_ended (gives g s) = tt
is_ended (fails f s) = tt

pub handing_programs_end_well : HandingProgramsEndWell
handing_programs_end_well keeping tree inputs turns few are p = record {
  ended = is_ended _;
  fits = (handed_end true keeping tree inputs turns few are p).2;
}

calls_end : (tree : Tree) (inputs : List ℤ) (turns : ℕ) → turns < 2 ^ 64 → AreTypedTasks tree → IsTypedRun call_forms tree inputs →
    RunsAsMeant tree inputs turns × (true ≡ false → LeavesNoRoots (meaning tree inputs turns).ending)
    × (fits_spaces (code_of tree) (meaning tree inputs turns) ≡ true)
calls_end tree inputs turns few are p =
    handed_end false false tree inputs turns few (λ k t e. let a = are k t e in record { given = a.given; typed = a.typed; small = a.small }) p

pub pointer_calls_run_as_meant : PointerCallsRunAsMeant
pointer_calls_run_as_meant tree inputs turns few are p =
    (handed_end false true tree inputs turns few (λ k t e. let a = are k t e in record { given = a.given; typed = a.typed; small = a.small }) p).0

pub calls_run_as_meant : CallsRunAsMeant
calls_run_as_meant tree inputs turns few are p = (calls_end tree inputs turns few are p).0

pub calls_fit_spaces : (tree : Tree) (inputs : List ℤ) (turns : ℕ) → turns < 2 ^ 64 → AreTypedTasks tree → IsTypedRun call_forms tree inputs →
    fits_spaces (code_of tree) (meaning tree inputs turns) ≡ true
calls_fit_spaces tree inputs turns few are p = (calls_end tree inputs turns few are p).2

pub scalars_leave_no_roots : (tree : Tree) (inputs : List ℤ) (turns : ℕ) → IsTypedRun scalar_forms tree inputs →
    LeavesNoRoots (meaning tree inputs turns).ending
scalars_leave_no_roots tree inputs turns p = (typed_run_ends scalar_forms tree inputs turns (λ e. absurd (not_true e)) p).1 refl
