-- The run in order of a job ends, and a finished board has its outcome.
use Rattle.std.proofs.Common.{◌≡◌, ℕ, zero, suc, ◌+◌, ◌*◌, ℤ, pos, List, [], ◌∷◌, ◌++◌, refl, sym, ap, ◌∙◌, arith, map}
use Rattle.std.specs.Prelude.{length, replicate, ◌-◌}
use Rattle.std.proofs.Math.Nat.{suc-mul}
use Rattle.task_code.specs.declared.job.Job.{Job}
use Rattle.task_code.specs.declared.code.Line.{Line}
use Rattle.task_code.specs.declared.code.TaskCode.{TaskCode}
use Rattle.board_rules.specs.Journals.{shown, unfinished}
use Rattle.board_rules.specs.Processes.{Result, done, fails, spent}
use Rattle.regent_boards.specs.Laws.{by_number}
use Rattle.regent_boards.specs.RegentMachine.{regent_ground}
use Rattle.regent_boards.specs.RootRenaming.{renamed_frame, renamed_value}
use Rattle.regent_boards.specs.Frames as board
use Rattle.code_boards.specs.Laws.{JobsFinishInOrder, JobsSettleInOrder, OrderRunsEnd, main_frame, main_of, room, segments_of, segments_of_all}
use Rattle.code_boards.specs.Views.{board_segment, spaces_of}
use Rattle.code_boards.proofs.Lasting.{bound, bound_most, here, lasts, most}
use Rattle.order_laws.proofs.Rounds.{ends_soon}
use Rattle.order_laws.proofs.Waits.{twice_is}
use Rattle.machine_terms.proofs.Fuel.{anywhere}
use Rattle.code_boards.proofs.Boards.{boards_finish_in_order, boards_settle_in_order}

-- ---- the number of segments

pub anywhere_is : (code : _) (body : List Line) (n : ℕ) → anywhere code body n ≡ 2 * (n + 1) * (length body + 1)
anywhere_is code body zero = omega arith
anywhere_is code body (suc n) =
    let a = length body + 1 in
    let k = 2 * (n + 1) in
    let more : 2 * (suc n + 1) ≡ suc (suc k) = omega arith in
    omega (arith, anywhere_is code body n, ap (λ m. m * a) more, suc-mul (suc k) a, suc-mul k a)

bound_is : (code : _) (turns : ℕ) (t : TaskCode) → bound code turns t ≡ segments_of turns t
bound_is code turns t = omega (arith, twice_is code t.body (anywhere code t.body turns), anywhere_is code t.body turns)

most_is : (code : _) (turns : ℕ) (ts : List TaskCode) → most code turns ts ≡ segments_of_all turns ts
most_is code turns [] = refl
most_is code turns (t ∷ ts) = λ i. bound_is code turns t i + most_is code turns ts i

-- ---- jobs

names_no_number : (name : ℕ → ℕ) (zs : List ℤ) → map board.a_number zs ≡ map (renamed_value name) (map board.a_number zs)
names_no_number name [] = refl
names_no_number name (z ∷ zs) = ap (λ vs. board.a_number z ∷ vs) (names_no_number name zs)

names_no_zero : (name : ℕ → ℕ) (k : ℕ) → replicate k (board.a_number (pos 0)) ≡ map (renamed_value name) (replicate k (board.a_number (pos 0)))
names_no_zero name zero = refl
names_no_zero name (suc k) = ap (λ vs. board.a_number (pos 0) ∷ vs) (names_no_zero name k)

names_append : (name : ℕ → ℕ) (vs ws : List board.Value) → vs ≡ map (renamed_value name) vs → ws ≡ map (renamed_value name) ws →
    vs ++ ws ≡ map (renamed_value name) (vs ++ ws)
names_append name vs ws e d = (λ i. e i ++ d i) ∙ sym (Rattle.std.proofs.lemmas.List.map-append (renamed_value name) vs ws)

pub main_names_no_root : (job : Job) (t : TaskCode) (name : ℕ → ℕ) → main_frame job t ≡ renamed_frame name (main_frame job t)
main_names_no_root job t name = λ i. record (main_frame job t) {
  slots = names_append name (map board.a_number job.inputs) (replicate (t.slots - length job.inputs) (board.a_number (pos 0)))
      (names_no_number name job.inputs) (names_no_zero name (t.slots - length job.inputs)) i;
}

pub order_runs_end : OrderRunsEnd
order_runs_end job t found e =
    lasts job.code job.turns (room job) 64 (bound job.code job.turns t) t [] [] 0 (main_frame job t) [] [] 0 (λ l. pos 0) found refl
    (omega (arith, bound_most job.code job.turns job.code.tasks job.code.start t found, most_is job.code job.turns job.code.tasks))
    (omega arith)
    (ends_soon job.code t.body job.turns (here job.code job.turns (main_frame job t) []) refl)
    (not_shown _ e)
  where
    not_shown : (r : Result (regent_ground (spaces_of job.code)) board.Answer) →
        shown (regent_ground (spaces_of job.code)) (by_number (spaces_of job.code) (board_segment job.code job.turns) 0) r ≡ unfinished → r ≡ spent
    not_shown (done v s m) h = absurd cc
    not_shown (fails x s) h = absurd cc
    not_shown spent h = refl

pub jobs_finish_in_order : JobsFinishInOrder
jobs_finish_in_order job t steps b found made finished =
    boards_finish_in_order job.code job.turns (main_of job t)
    (record { frame = main_names_no_root job t; needs = refl; map = λ l. refl }) steps b (room job) made finished
    (order_runs_end job t found)

pub jobs_settle_in_order : JobsSettleInOrder
jobs_settle_in_order job t steps b x text found made settled =
    boards_settle_in_order job.code job.turns (main_of job t)
    (record { frame = main_names_no_root job t; needs = refl; map = λ l. refl }) steps b (room job) x text made settled
    (order_runs_end job t found)
