-- A text comes to one status alone.
use Rattle.std.proofs.Common.{◌≡◌, ℕ, ℤ, ◌<◌, ◌⊎◌, inl, inr, List, [], Some, Ok, Err, length, refl, sym, ap, subst, ◌∙◌, arith}
use Rattle.std.specs.Prelude.{Contains}
use Rattle.check_rules.specs.Acceptance.{input_widths}
use Rattle.check_rules.specs.Breaches.{breaches}
use Rattle.regent_tree.specs.declared.outcome.Ending.{Ending}
use Rattle.regent_tree.specs.declared.outcome.Ending.TheVariants.{Broken, Faulted, Finished}
use Rattle.regent_tree.specs.declared.outcome.Fault.{Fault}
use Rattle.regent_tree.specs.declared.outcome.Outcome.{Outcome as RunOutcome}
use Rattle.regent_tree.specs.declared.outcome.RootImage.{RootImage}
use Rattle.regent_tree.specs.Execution.{Going}
use Rattle.regent_tree.specs.Meaning.{calls_at, inputs_of, meaning, outcome, run_task}
use Rattle.regent_tree.specs.Running.{Result, fails, gives}
use Rattle.regent_tree.specs.StaticTypes.{entry_name, task_named}
use Rattle.regent_tree.specs.Syntax.{Tree}
use Rattle.regent_tree.specs.Typing.{param_types}
use Rattle.regent_lex.specs.declared.fault.LexKind.TheVariants as lex
use Rattle.regent_reader.specs.declared.fault.ReadFault.{ReadFault}
use Rattle.regent_reader.specs.declared.fault.ReadFault.TheVariants as fault
use Rattle.regent_reader.specs.Texts.{Outcome, Reads}
use Rattle.regent_reader.proofs.TextLaws.{one_outcome}
use Rattle.regent_run.specs.declared.limit.Limit.{Limit}
use Rattle.regent_run.specs.Inputs.{AreInputs}
use Rattle.regent_run.specs.Programs.{AcceptedTextsAreRun, Comes, HasBreach, HasOtherInputs, HasSyntaxError, IsRun, Means, PassesLimit, RunsComeToAnEnd, faulted_with, faults, finished_with, finishes, has_a_breach, has_other_inputs, is_accepted, is_no_program, limit_passed, passes_a_limit, syntax_line}
use Rattle.command_words.specs.Commands.{Run, turns_or_default}
use Rattle.regent_run.specs.Words.{Deed, runs}
use Rattle.regent_run.proofs.InputLaws.{inputs_or_not, one_inputs}

same_tree : (text : List ℕ) (t u : Tree) → Reads text (Ok t) → Reads text (Ok u) → t ≡ u
same_tree text t u p q =
    let x : Outcome = Ok t in
    let y : Outcome = Ok u in
    let e : x ≡ y = one_outcome text x y p q in
    cc

same_fault : (text : List ℕ) (f g : ReadFault) → Reads text (Err f) → Reads text (Err g) → f ≡ g
same_fault text f g p q =
    let x : Outcome = Err f in
    let y : Outcome = Err g in
    let e : x ≡ y = one_outcome text x y p q in
    cc

never_both : (text : List ℕ) (t : Tree) (f : ReadFault) → Reads text (Ok t) → Reads text (Err f) → ⊥
never_both text t f p q =
    let x : Outcome = Ok t in
    let y : Outcome = Err f in
    let e : x ≡ y = one_outcome text x y p q in
    absurd cc

-- a fault isn't both an error of syntax and a passed limit
one_kind : (f : ReadFault) (line : ℕ) (l : Limit) → syntax_line f ≡ Some line → limit_passed f ≡ Some l → ⊥
one_kind fault.TooLong line l p q = absurd cc
one_kind (fault.Lex lex.BadByte at) line l p q = absurd cc
one_kind (fault.Lex lex.Unclosed at) line l p q = absurd cc
one_kind (fault.Lex lex.NumberTooLarge at) line l p q = absurd cc
one_kind (fault.Lex lex.NameTooLong at) line l p q = absurd cc
one_kind (fault.TooDeep at) line l p q = absurd cc
one_kind (fault.NoProgram at) line l p q = absurd cc
one_kind (fault.TooMany what count) line l p q = absurd cc
one_kind (fault.Memory e) line l p q = absurd cc

-- a list without a breach has none
none_there : {A : Type 0} (bs : List A) (b : A) → bs ≡ [] → Contains bs b → ⊥
none_there bs b none there =
    let size : length bs ≡ 0 = ap length none in
    let within : there.0 < length bs = there.1 in
    absurd (omega (arith, size, within))

-- a program has one meaning with the words
one_meaning : (t u : Tree) (r : Run) (o w : RunOutcome) → t ≡ u → Means t r o → Means u r w → o ≡ w
one_meaning t u r o w e m n =
    let l : Means u r o = subst (λ (v : Tree). Means v r o) e m in
    sym l.means ∙ ap (λ zs. meaning u zs (turns_or_default r.turns_named)) (one_inputs (input_widths u) r.numbers l.inputs n.inputs l.given n.given) ∙ n.means

module _ (text : List ℕ) where
  -- no accepted text has a breach
  breach_or_sound : (t : Tree) {rule line : ℕ} → Reads text (Ok t) → breaches t ≡ [] → HasBreach text rule line → ⊥
  breach_or_sound t reads sound b =
      none_there (breaches b.tree) _ (ap breaches (same_tree text b.tree t b.reads reads) ∙ sound) b.breach

  run_or_other : (r : Run) {o : RunOutcome} → IsRun text r o → HasOtherInputs text r.numbers → ⊥
  run_or_other r p q =
      q.takes p.means.inputs
      (subst (λ (t : Tree). AreInputs (input_widths t) r.numbers p.means.inputs) (same_tree text p.tree q.tree p.reads q.reads) p.means.given)

  one_run : (r : Run) {o w : RunOutcome} → IsRun text r o → IsRun text r w → o ≡ w
  one_run r p q = one_meaning p.tree q.tree r _ _ (same_tree text p.tree q.tree p.reads q.reads) p.means q.means

  -- a run that finishes doesn't fault
  ends_or_faults : (r : Run) (a b : List ℕ) (roots : List RootImage) (f : Fault) → IsRun text r (finished_with a roots) → IsRun text r (faulted_with b f) → ⊥
  ends_or_faults r a b roots f p q = let e : Finished roots ≡ Faulted f = ap (λ (o : RunOutcome). o.ending) (one_run r p q) in absurd cc

  line_or_limit : {line : ℕ} {passed : Limit} → HasSyntaxError text line → PassesLimit text passed → ⊥
  line_or_limit p q = one_kind q.fault _ _ (subst (λ (f : ReadFault). syntax_line f ≡ Some _) (same_fault text p.fault q.fault p.reads q.reads) p.told) q.told

  -- a text comes to one status alone
  pub one_status : (deed : Deed) (m n : ℕ) → Comes text deed m → Comes text deed n → m ≡ n
  one_status deed m n (finishes p) (finishes q) = refl
  one_status deed m n (finishes p) (faults q) = absurd (ends_or_faults _ _ _ _ _ p q)
  one_status deed m n (finishes p) (is_no_program q) = absurd (never_both text p.tree q.fault p.reads q.reads)
  one_status deed m n (finishes p) (has_a_breach q) = absurd (breach_or_sound p.tree p.reads p.sound q)
  one_status deed m n (finishes p) (passes_a_limit q) = absurd (never_both text p.tree q.fault p.reads q.reads)
  one_status deed m n (finishes p) (has_other_inputs q) = absurd (run_or_other _ p q)
  one_status deed m n (faults p) (finishes q) = absurd (ends_or_faults _ _ _ _ _ q p)
  one_status deed m n (faults p) (faults q) = refl
  one_status deed m n (faults p) (is_no_program q) = absurd (never_both text p.tree q.fault p.reads q.reads)
  one_status deed m n (faults p) (has_a_breach q) = absurd (breach_or_sound p.tree p.reads p.sound q)
  one_status deed m n (faults p) (passes_a_limit q) = absurd (never_both text p.tree q.fault p.reads q.reads)
  one_status deed m n (faults p) (has_other_inputs q) = absurd (run_or_other _ p q)
  one_status deed m n (is_accepted p) (is_accepted q) = refl
  one_status deed m n (is_accepted p) (is_no_program q) = absurd (never_both text p.tree q.fault p.reads q.reads)
  one_status deed m n (is_accepted p) (has_a_breach q) = absurd (breach_or_sound p.tree p.reads p.sound q)
  one_status deed m n (is_accepted p) (passes_a_limit q) = absurd (never_both text p.tree q.fault p.reads q.reads)
  one_status deed m n (is_no_program p) (finishes q) = absurd (never_both text q.tree p.fault q.reads p.reads)
  one_status deed m n (is_no_program p) (faults q) = absurd (never_both text q.tree p.fault q.reads p.reads)
  one_status deed m n (is_no_program p) (is_accepted q) = absurd (never_both text q.tree p.fault q.reads p.reads)
  one_status deed m n (is_no_program p) (is_no_program q) = refl
  one_status deed m n (is_no_program p) (has_a_breach q) = absurd (never_both text q.tree p.fault q.reads p.reads)
  one_status deed m n (is_no_program p) (passes_a_limit q) = absurd (line_or_limit p q)
  one_status deed m n (is_no_program p) (has_other_inputs q) = absurd (never_both text q.tree p.fault q.reads p.reads)
  one_status deed m n (has_a_breach p) (finishes q) = absurd (breach_or_sound q.tree q.reads q.sound p)
  one_status deed m n (has_a_breach p) (faults q) = absurd (breach_or_sound q.tree q.reads q.sound p)
  one_status deed m n (has_a_breach p) (is_accepted q) = absurd (breach_or_sound q.tree q.reads q.sound p)
  one_status deed m n (has_a_breach p) (is_no_program q) = absurd (never_both text p.tree q.fault p.reads q.reads)
  one_status deed m n (has_a_breach p) (has_a_breach q) = refl
  one_status deed m n (has_a_breach p) (passes_a_limit q) = absurd (never_both text p.tree q.fault p.reads q.reads)
  one_status deed m n (has_a_breach p) (has_other_inputs q) = absurd (breach_or_sound q.tree q.reads q.sound p)
  one_status deed m n (passes_a_limit p) (finishes q) = absurd (never_both text q.tree p.fault q.reads p.reads)
  one_status deed m n (passes_a_limit p) (faults q) = absurd (never_both text q.tree p.fault q.reads p.reads)
  one_status deed m n (passes_a_limit p) (is_accepted q) = absurd (never_both text q.tree p.fault q.reads p.reads)
  one_status deed m n (passes_a_limit p) (is_no_program q) = absurd (line_or_limit q p)
  one_status deed m n (passes_a_limit p) (has_a_breach q) = absurd (never_both text q.tree p.fault q.reads p.reads)
  one_status deed m n (passes_a_limit p) (passes_a_limit q) = refl
  one_status deed m n (passes_a_limit p) (has_other_inputs q) = absurd (never_both text q.tree p.fault q.reads p.reads)
  one_status deed m n (has_other_inputs p) (finishes q) = absurd (run_or_other _ q p)
  one_status deed m n (has_other_inputs p) (faults q) = absurd (run_or_other _ q p)
  one_status deed m n (has_other_inputs p) (is_no_program q) = absurd (never_both text p.tree q.fault p.reads q.reads)
  one_status deed m n (has_other_inputs p) (has_a_breach q) = absurd (breach_or_sound p.tree p.reads p.sound q)
  one_status deed m n (has_other_inputs p) (passes_a_limit q) = absurd (never_both text p.tree q.fault p.reads q.reads)
  one_status deed m n (has_other_inputs p) (has_other_inputs q) = refl

-- ---- runs come to an end

-- what is told of a run isn't broken
never_broken : (r : Result Going) (text : List ℕ) → outcome r ≡ record { text = text; ending = Broken } → ⊥
never_broken (gives g s) text h = let e : Finished s.store ≡ Broken = ap (λ (o : RunOutcome). o.ending) h in absurd cc
never_broken (fails f s) text h = let e : Faulted f ≡ Broken = ap (λ (o : RunOutcome). o.ending) h in absurd cc

never_means_broken : (tree : Tree) (inputs : List ℤ) (turns : ℕ) (text : List ℕ) → meaning tree inputs turns ≡ record { text = text; ending = Broken } → ⊥
never_means_broken tree inputs turns text h =
    let t = task_named tree (entry_name tree) in
    never_broken (run_task tree turns (calls_at tree turns 63) t (inputs_of (param_types tree t) inputs) []) text h

by_ending : (text : List ℕ) (r : Run) (printed : List ℕ) (ending : Ending) → IsRun text r (record { text = printed; ending = ending }) →
    Comes text (runs r) 0 ⊎ Comes text (runs r) 1
by_ending text r printed (Finished roots) p = inl (finishes p)
by_ending text r printed (Faulted f) p = inr (faults p)
by_ending text r printed Broken p = absurd (never_means_broken p.tree p.means.inputs (turns_or_default r.turns_named) printed p.means.means)

pub runs_end : RunsComeToAnEnd
runs_end text r o p = by_ending text r o.text o.ending p

pub accepted_run : AcceptedTextsAreRun
accepted_run text r p = by (inputs_or_not (input_widths p.tree) r.numbers)
  where
    ended : Comes text (runs r) 0 ⊎ Comes text (runs r) 1 → Comes text (runs r) 0 ⊎ (Comes text (runs r) 1 ⊎ Comes text (runs r) 9)
    ended (inl c) = inl c
    ended (inr c) = inr (inl c)

    by : ((zs : List ℤ) × AreInputs (input_widths p.tree) r.numbers zs) ⊎ ((zs : List ℤ) → AreInputs (input_widths p.tree) r.numbers zs → ⊥) →
        Comes text (runs r) 0 ⊎ (Comes text (runs r) 1 ⊎ Comes text (runs r) 9)
    by (inl is) =
        ended (runs_end text r (meaning p.tree is.0 (turns_or_default r.turns_named))
        (record { tree = p.tree; reads = p.reads; sound = p.sound; means = record { inputs = is.0; given = is.1; means = refl } }))
    by (inr none) = inr (inr (has_other_inputs (record { tree = p.tree; reads = p.reads; sound = p.sound; takes = none })))
