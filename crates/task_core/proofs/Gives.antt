-- What a board keeps behind a run that was given back.
use Rattle.std.specs.Prelude.{IfNone}
use Rattle.std.proofs.Common.{◌≡◌, ◌≢◌, ◌<◌, ◌≤◌, ◌∙◌, ◌+◌, ◌-◌, ◌++◌, ◌==◌, ℕ, zero, suc, Bool, true, false, List, [], ◌∷◌, None, Option, Some, ap, arith, cond, get_or, length, map, refl, set, subst, sym}
use Rattle.std.proofs.Math.Seq.{get_or-append_seam}
use Rattle.std.proofs.lemmas.Bool.{false≢true}
use Rattle.std.proofs.lemmas.Option.{none-some, same_Some}
use Rattle.std.proofs.lemmas.List.{append-nil, get_or-set_other, get_or-set_same, get_or_append_left, length-set}
use Rattle.std.proofs.lemmas.List.Elements.{All-get_or, All-head, All-tail}
use Rattle.region_tree.specs.declared.tree.RootId.{RootId}
use Rattle.regent_tree.specs.declared.outcome.Outcome.{Outcome}
use Rattle.regent_tree.specs.declared.outcome.RootImage.{RootImage}
use Rattle.dependence_graph.specs.Knots.{number}
use Rattle.task_code.specs.declared.code.Code.{Code}
use Rattle.task_code.specs.declared.job.Job.{Job}
use Rattle.run_journal.specs.declared.entry.Entry.{Entry}
use Rattle.run_journal.specs.declared.entry.StepKind.TheVariants as step
use Rattle.machine_terms.specs.Segments.{segment}
use Rattle.machine_terms.specs.declared.frame.Before.{Before}
use Rattle.machine_terms.specs.declared.outcome.After.{After}
use Rattle.machine_terms.specs.declared.outcome.Made.TheVariants as made
use Rattle.machine_terms.specs.declared.outcome.Yield.{Yield}
use Rattle.machine_terms.specs.declared.outcome.Yield.TheVariants as yield
use Rattle.board_terms.specs.declared.claim.Claim.{Claim}
use Rattle.board_terms.specs.declared.extent.Extent.{Extent}
use Rattle.board_terms.specs.declared.operation.Activity.{Activity}
use Rattle.board_terms.specs.declared.operation.Activity.TheVariants as activity
use Rattle.board_terms.specs.declared.operation.Operation.{Operation}
use Rattle.board_terms.specs.Gives.{frame_left, given_after, given_in}
use Rattle.board_terms.specs.Makes.{next_root}
use Rattle.board_terms.specs.Outcomes.{result, told}
use Rattle.board_terms.specs.Replays.{replay, stepped}
use Rattle.board_terms.specs.States.{State, called_by, no_extent, no_operation, operation_at}
use Rattle.board_state.specs.Kept.{IsKept, is_claimed}
use Rattle.board_state.specs.Owed.{owed_by, owed_of}
use Rattle.board_state.specs.Steps.{before_by, before_out, same_claim}
use Rattle.board_facts.proofs.Families.{own_is_left, sum_given, text_grows_by_what_is_printed}
use Rattle.board_facts.proofs.Giving.{segments_are_given}
use Rattle.board_facts.proofs.Held.{shaped_behind}
use Rattle.board_facts.proofs.Replays.{out_there, replays_are_sound}
use Rattle.board_facts.proofs.Telling.{text_is_what_was_said}
use Rattle.board_facts.specs.Families.{AreMade, HasMadeOwn, IsSound}
use Rattle.board_facts.specs.Given.{IsGiven, IsHeldBehind, IsMadeIn, IsUnclaimed}
use Rattle.board_facts.specs.Rooms.{IsShaped}
use Rattle.task_core.proofs.Finished.{claimed_open}
use Rattle.task_core.proofs.Steps.{replay_more, seat_of}
use Rattle.task_core.specs.Boards.{IsBoard, step_by}
use Rattle.task_core.specs.Rooms.{AreRooms, HasOutcomeRoom, IsImageFor, IsRoomOf, listed, main_makes}

-- ---- the step

-- a claim's segment is run from what is out under it
out_by : (c : Claim) (a : Activity) (b : Before) → before_by c a ≡ Some b → (before_out a ≡ Some b) × (is_claimed a ≡ true)
out_by c (activity.Out d x) b e = either (same_claim c d) e
  where
    either : (h : Bool) → cond h (Some x) None ≡ Some b → (Some x ≡ Some b) × (true ≡ true)
    either true h = (h, refl)
    either false h = absurd (none-some b h)
out_by c (activity.Filling d f) b e = absurd (none-some b e)
out_by c activity.Idle b e = absurd (none-some b e)
out_by c (activity.Closing x) b e = absurd (none-some b e)

pub given_out : (s : State) (c : Claim) (b : Before) → before_by c (operation_at s c.op.0).activity ≡ Some b →
    before_out (operation_at s c.op.0).activity ≡ Some b
given_out s c b e = (out_by c (operation_at s c.op.0).activity b e).0

pub given_open : (s : State) (c : Claim) (b : Before) → IsKept s → before_by c (operation_at s c.op.0).activity ≡ Some b → result s ≡ None
given_open s c b kept e = claimed_open s c.op.0 kept (out_by c (operation_at s c.op.0).activity b e).1

given_by : (job : Job) (s : State) (c : Claim) (a : Activity) (b : Before) → before_by c a ≡ Some b →
    given_in job.code job.turns s c.op.0 c.seat a ≡ Some (given_after job.code job.turns s c.op.0 (segment b))
given_by job s c (activity.Out d x) b e = either (same_claim c d) refl e
  where
    either : (h : Bool) → same_claim c d ≡ h → cond h (Some x) None ≡ Some b →
        cond (d.seat == c.seat) (Some (given_after job.code job.turns s c.op.0 (segment x))) None
        ≡ Some (given_after job.code job.turns s c.op.0 (segment b))
    either true h g =
        ap (λ (y : Bool). cond y (Some (given_after job.code job.turns s c.op.0 (segment x))) None) (seat_of c d h)
        ∙ ap (λ (y : Before). Some (given_after job.code job.turns s c.op.0 (segment y))) (same_Some x b g)
    either false h g = absurd (none-some b g)
given_by job s c (activity.Filling d f) b e = absurd (none-some b e)
given_by job s c activity.Idle b e = absurd (none-some b e)
given_by job s c (activity.Closing x) b e = absurd (none-some b e)

pub give_stepped : (job : Job) (s : State) (c : Claim) (b : Before) → before_by c (operation_at s c.op.0).activity ≡ Some b →
    stepped job s (step_by step.Give c.op c.seat) ≡ Some (given_after job.code job.turns s c.op.0 (segment b))
give_stepped job s c b e = given_by job s c (operation_at s c.op.0).activity b e

-- ---- what is owed

unclaimed_owes : (a : Activity) → IsUnclaimed a → owed_of a ≡ 0
unclaimed_owes (activity.Filling c f) h = absurd h
unclaimed_owes (activity.Out c b) h = absurd h
unclaimed_owes activity.Idle h = refl
unclaimed_owes (activity.Closing e) h = refl

out_owes : (a : Activity) (b : Before) → before_out a ≡ Some b → owed_of a ≡ 1
out_owes (activity.Out c x) b e = refl
out_owes (activity.Filling c f) b e = absurd (none-some b e)
out_owes activity.Idle b e = absurd (none-some b e)
out_owes (activity.Closing x) b e = absurd (none-some b e)

-- the claim of an operation that is out
out_claim : (a : Activity) (b : Before) → before_out a ≡ Some b → (P : Type 0) → ((c : Claim) → a ≡ activity.Out c b → P) → P
out_claim (activity.Out c x) b e P f = f c (ap (activity.Out c) (same_Some x b e))
out_claim (activity.Filling c y) b e P f = absurd (none-some b e)
out_claim activity.Idle b e P f = absurd (none-some b e)
out_claim (activity.Closing x) b e P f = absurd (none-some b e)

-- ---- extents and images of roots that were made before

extents_more : (s t : State) (r : ℕ) (e : Extent) → t.roots ≡ s.roots ++ e ∷ [] → r < length s.roots → get_or t.roots r no_extent ≡ get_or s.roots r no_extent
extents_more s t r e h b = ap (λ (xs : List Extent). get_or xs r no_extent) h ∙ get_or_append_left s.roots (e ∷ []) no_extent r b

extents_same : (s t : State) (r : ℕ) → t.roots ≡ s.roots → get_or t.roots r no_extent ≡ get_or s.roots r no_extent
extents_same s t r h = ap (λ (xs : List Extent). get_or xs r no_extent) h

extents_kept : (code : Code) (y : Yield) (s t : State) (left own : List RootId) (r : ℕ) → IsMadeIn code y s left t own → r < length s.roots →
    get_or t.roots r no_extent ≡ get_or s.roots r no_extent
extents_kept code (yield.Make (made.Root size space)) s t left own r m b = extents_more s t r (record { space = space; count = size }) m.1.0 b
extents_kept code (yield.Make (made.Partition x sets disjoint)) s t left own r m b = extents_same s t r m.1.0
extents_kept code (yield.Calls cs) s t left own r m b = extents_same s t r m.1.0
extents_kept code (yield.Want root field) s t left own r m b = extents_same s t r m.1.0
extents_kept code (yield.Await n) s t left own r m b = extents_same s t r m.1.0
extents_kept code (yield.End v) s t left own r m b = extents_same s t r m.1.0
extents_kept code (yield.Fault f) s t left own r m b = extents_same s t r m.1.0
extents_kept code yield.MachineFault s t left own r m b = extents_same s t r m.1.0

room_behind : (s t : State) (r : RootId) (x : RootImage) → get_or t.roots r.0 no_extent ≡ get_or s.roots r.0 no_extent → IsHeldBehind s.map t.map r.0 →
    IsRoomOf s r x → IsRoomOf t r x
room_behind s t r x e held h = (
  h.0 ∙ ap (λ (y : Extent). y.space) (sym e),
  (h.1.0 ∙ ap (λ (y : Extent). y.count) (sym e), (h.1.1.0, shaped_behind (map length x.fields) s.map t.map r.0 h.1.1.1 held)),
)

rooms_behind : (s t : State) (n : ℕ) (rs : List RootId) (xs : List RootImage) → AreMade n rs →
    ((r : ℕ) → r < n → get_or t.roots r no_extent ≡ get_or s.roots r no_extent) → ((r : ℕ) → r < n → IsHeldBehind s.map t.map r) →
    AreRooms s rs xs → AreRooms t rs xs
rooms_behind s t n [] [] made e held h = tt
rooms_behind s t n (r ∷ rs) (x ∷ xs) made e held h = (
  room_behind s t r x (e r.0 (All-head (λ (y : RootId). y.0 < n) r rs made)) (held r.0 (All-head (λ (y : RootId). y.0 < n) r rs made)) h.0,
  rooms_behind s t n rs xs (All-tail (λ (y : RootId). y.0 < n) r rs made) e held h.1,
)
rooms_behind s t n [] (x ∷ xs) made e held h = absurd h
rooms_behind s t n (r ∷ rs) [] made e held h = absurd h

one_room_more : (t : State) (rs : List RootId) (xs : List RootImage) (r : RootId) (x : RootImage) → AreRooms t rs xs → IsRoomOf t r x →
    AreRooms t (rs ++ r ∷ []) (xs ++ x ∷ [])
one_room_more t [] [] r x h g = (g, tt)
one_room_more t (q ∷ qs) (y ∷ ys) r x h g = (h.0, one_room_more t qs ys r x h.1 g)
one_room_more t [] (y ∷ ys) r x h g = absurd h
one_room_more t (q ∷ qs) [] r x h g = absurd h

-- ---- the room of main's own roots

-- main, where another operation's segment is given back, and where its own is
main_stays : (code : Code) (s t : State) (k : ℕ) (a : After) (g : IsGiven code s k a t) → 0 < length s.operations → k ≢ 0 →
    operation_at t 0 ≡ operation_at s 0
main_stays code s t k a g b other =
    ap (λ (os : List Operation). get_or os 0 no_operation) g.operations
    ∙ get_or_append_left (set s.operations k g.operation) (map (called_by (number k)) g.frames) no_operation 0
    (omega (arith, b, length-set s.operations k g.operation))
    ∙ get_or-set_other s.operations k 0 g.operation no_operation (λ e. other (sym e))

main_given : (code : Code) (s t : State) (a : After) (g : IsGiven code s 0 a t) → 0 < length s.operations → operation_at t 0 ≡ g.operation
main_given code s t a g b =
    ap (λ (os : List Operation). get_or os 0 no_operation) g.operations
    ∙ get_or_append_left (set s.operations 0 g.operation) (map (called_by (number 0)) g.frames) no_operation 0
    (omega (arith, b, length-set s.operations 0 g.operation))
    ∙ get_or-set_same s.operations 0 g.operation no_operation b

no_image : (code : Code) (image : Option RootImage) → IsImageFor code None image → image ≡ None
no_image code None h = refl
no_image code (Some x) h = absurd h

module _ (code : Code) (s t : State) (a : After) (sound : IsSound s) (there : 0 < length s.operations) (g : IsGiven code s 0 a t)
    (kept : (frame_left (operation_at s 0).frame a.frame).own ≡ (operation_at s 0).frame.own) (images : List RootImage)
    (rooms : AreRooms s (operation_at s 0).frame.own images) where
  abbrev own : List RootId
  own = (operation_at s 0).frame.own

  before : AreRooms t own images
  before = rooms_behind s t s.tree.roots own images (All-get_or (HasMadeOwn s.tree.roots) s.operations 0 no_operation there sound.own)
      (λ r b. extents_kept code a.ends s t (frame_left (operation_at s 0).frame a.frame).own g.operation.frame.own r g.made (omega (arith, b, sound.extents)))
      (λ r b. g.held r (λ e. omega (arith, e, b))) rooms

  same : (h : g.operation.frame.own ≡ (frame_left (operation_at s 0).frame a.frame).own) (image : Option RootImage) → IsImageFor code None image →
      AreRooms t g.operation.frame.own (images ++ listed image)
  same h image i =
      subst (λ (rs : List RootId). AreRooms t rs (images ++ listed image)) (sym (h ∙ kept))
      (subst (λ (xs : List RootImage). AreRooms t own xs) (sym (ap (λ (o : Option RootImage). images ++ listed o) (no_image code image i) ∙ append-nil images)) before)

  image_made : (size space : ℕ) (x : RootImage) → IsImageFor code (Some (size, space)) (Some x) →
      t.roots ≡ s.roots ++ record { space = space; count = size } ∷ [] → IsShaped (map length x.fields) t.map s.tree.roots → IsRoomOf t (next_root s) x
  image_made size space x i e shaped =
      let e2 : Extent = record { space = space; count = size } in
      let here : get_or t.roots s.tree.roots no_extent ≡ e2 =
      ap (λ (xs : List Extent). get_or xs s.tree.roots no_extent) e ∙ ap (λ (n : ℕ). get_or (s.roots ++ e2 ∷ []) n no_extent) (sym sound.extents)
      ∙ get_or-append_seam s.roots e2 [] no_extent in (
        i.0 ∙ sym (ap (λ (y : Extent). y.space) here),
        (i.1.0 ∙ sym (ap (λ (y : Extent). y.count) here), (i.1.1.0, shaped)),
      )

  by_yield : (y : Yield) → IsMadeIn code y s (frame_left (operation_at s 0).frame a.frame).own t g.operation.frame.own → (image : Option RootImage) →
      IsImageFor code (main_makes 0 y) image → AreRooms t g.operation.frame.own (images ++ listed image)
  by_yield (yield.Make (made.Root size space)) m None i = absurd i
  by_yield (yield.Make (made.Root size space)) m (Some x) i =
      subst (λ (rs : List RootId). AreRooms t rs (images ++ x ∷ [])) (sym (m.1.1.0 ∙ ap (λ (rs : List RootId). rs ++ next_root s ∷ []) kept))
      (one_room_more t own images (next_root s) x before (image_made size space x i m.1.0
      (subst (λ (ns : List ℕ). IsShaped ns t.map s.tree.roots) (sym i.1.1.1) m.1.1.1)))
  by_yield (yield.Make (made.Partition r sets disjoint)) m image i = same m.1.1.0 image i
  by_yield (yield.Calls cs) m image i = same m.1.1.0 image i
  by_yield (yield.Want root field) m image i = same m.1.1.0 image i
  by_yield (yield.Await n) m image i = same m.1.1.0 image i
  by_yield (yield.End v) m image i = same m.1.1.0 image i
  by_yield (yield.Fault f) m image i = same m.1.1.0 image i
  by_yield yield.MachineFault m image i = same m.1.1.0 image i

rooms_given : (code : Code) (s t : State) (k : ℕ) (a : After) → IsSound s → k < length s.operations → (g : IsGiven code s k a t) →
    (frame_left (operation_at s k).frame a.frame).own ≡ (operation_at s k).frame.own → (images : List RootImage) →
    AreRooms s (operation_at s 0).frame.own images → (image : Option RootImage) → IsImageFor code (main_makes k a.ends) image →
    AreRooms t (operation_at t 0).frame.own (images ++ listed image)
rooms_given code s t zero a sound there g kept images rooms image i =
    subst (λ (o : Operation). AreRooms t o.frame.own (images ++ listed image)) (sym (main_given code s t a g there))
    (by_yield code s t a sound there g kept images rooms a.ends g.made image i)
rooms_given code s t (suc k) a sound there g kept images rooms image i =
    let first : 0 < length s.operations = omega (arith, there) in
    subst (λ (o : Operation). AreRooms t o.frame.own (images ++ listed image)) (sym (main_stays code s t (suc k) a g first (λ e. omega (arith, e))))
    (subst (λ (xs : List RootImage). AreRooms t (operation_at s 0).frame.own xs)
    (sym (ap (λ (o : Option RootImage). images ++ listed o) (no_image code image i) ∙ append-nil images))
    (rooms_behind s t s.tree.roots (operation_at s 0).frame.own images (All-get_or (HasMadeOwn s.tree.roots) s.operations 0 no_operation first sound.own)
    (λ r b. extents_kept code a.ends s t (frame_left (operation_at s (suc k)).frame a.frame).own g.operation.frame.own r g.made (omega (arith, b, sound.extents)))
    (λ r b. g.held r (λ e. omega (arith, e, b))) rooms))

-- ---- all of it

module _ (job : Job) (es : List Entry) (s : State) (owed : ℕ) (c : Claim) (b : Before) (board : IsBoard job es s None owed)
    (out : before_by c (operation_at s c.op.0).activity ≡ Some b) where
  abbrev k : ℕ
  k = c.op.0

  abbrev a : After
  a = segment b

  abbrev behind : State
  behind = given_after job.code job.turns s k a

  sound : IsSound s
  sound = replays_are_sound job es s board.replayed

  is_out : before_out (operation_at s k).activity ≡ Some b
  is_out = given_out s c b out

  there : k < length s.operations
  there = out_claim (operation_at s k).activity b is_out (k < length s.operations)
      (λ d e. out_there s k (activity.Out d b) e (λ i. false≢true (ap is_claimed (sym i))))

  given : IsGiven job.code s k a behind
  given = segments_are_given job.code job.turns s k a sound there

  owns : (frame_left (operation_at s k).frame a.frame).own ≡ (operation_at s k).frame.own
  owns = out_claim (operation_at s k).activity b is_out ((frame_left (operation_at s k).frame a.frame).own ≡ (operation_at s k).frame.own)
      (λ d e. own_is_left s k d b sound there e)

  replayed : replay job (es ++ step_by step.Give c.op c.seat ∷ []) ≡ Some behind
  replayed = replay_more job es (step_by step.Give c.op c.seat) s behind board.replayed (give_stepped job s c b out)

  owes : (owed_by behind.operations ≡ owed - 1) × (0 < owed)
  owes =
      let moved : owed_by behind.operations + owed_of (operation_at s k).activity ≡ owed_by s.operations + owed_of given.operation.activity =
      sum_given (λ (o : Operation). owed_of o.activity) job.code s behind k a given there (λ f. refl) in
      let one = out_owes (operation_at s k).activity b is_out in
      let free = unclaimed_owes given.operation.activity given.unclaimed in
      (omega (arith, moved, one, free, board.owes), omega (arith, moved, one, free, board.owes))

  -- what is owed, and the outcome that is told of it
  pub board_given : (new : List Entry) (t : State) (outcome : Option Outcome) → new ≡ es ++ step_by step.Give c.op c.seat ∷ [] → t ≡ behind →
      outcome ≡ result t → IsBoard job new t outcome (owed - 1) × (0 < owed)
  board_given new t outcome n m told = (
    record {
      replayed = ap (replay job) n ∙ replayed ∙ ap (λ (x : State). Some x) (sym m);
      told = told;
      owes = sym owes.0 ∙ ap (λ (x : State). owed_by x.operations) (sym m);
    },
    owes.1,
  )

  -- room for the outcome
  pub room_given : (said : ℕ) (text : List ℕ) (capacity : ℕ) (images : List RootImage) (t : State) (more : ℕ) (image : Option RootImage) →
      HasOutcomeRoom s said text capacity images → t ≡ behind → more ≡ said + length a.text → (roomy : ℕ) → more ≤ roomy →
      IsImageFor job.code (main_makes k a.ends) image → HasOutcomeRoom t more [] roomy (images ++ listed image)
  room_given said text capacity images t more image room m e roomy l i =
      subst (λ (x : State). HasOutcomeRoom x more [] roomy (images ++ listed image)) (sym m) (record {
        said = e ∙ ap (λ (n : ℕ). n + length a.text) room.said ∙ sym (text_grows_by_what_is_printed job.code s behind k a there given);
        empty = refl;
        room = l;
        images = rooms_given job.code s behind k a sound there given owns images room.images image i;
      })

  -- no more is told than there is room for
  pub told_room : (said : ℕ) (text : List ℕ) (capacity : ℕ) (images : List RootImage) (t : State) (more : ℕ) →
      HasOutcomeRoom s said text capacity images → t ≡ behind → more ≡ said + length a.text → length (told t).text ≤ more
  told_room said text capacity images t more room m e =
      let family = replays_are_sound job (es ++ step_by step.Give c.op c.seat ∷ []) behind replayed in
      subst (λ (x : State). length (told x).text ≤ more) (sym m)
      (omega (arith, text_is_what_was_said behind family.family, text_grows_by_what_is_printed job.code s behind k a there given, room.said, e))

pub when_none : {A P : Type 0} (o : Option A) → IfNone o P → o ≡ None → P
when_none None h e = h
when_none (Some x) h e = absurd (none-some x (sym e))
