use Rattle.std.proofs.Common.{◌∙◌, ◌+◌, ◌++◌, ◌-◌, ℕ, List, ap, arith, drop, get_or, length, rules, sym}
use Rattle.std.proofs.lemmas.List.{length-append}
use Rattle.std.specs.Vec.{vec_capacity}
use Rattle.board_outcomes.specs.Tellings.{said_before, said_behind, told_among}
use Rattle.board_terms.specs.declared.operation.Said.{Said}
use Rattle.board_terms.specs.Outcomes.{nothing_told, says_first, stop_of, woven}
use Rattle.board_outcomes.proofs.Tellings.{room_at_last, room_for_child, room_to_say, stopped, told_stop, told_text, went_on}
use Rattle.board_outcomes.proofs.telling.+tell.Goals as goal

pub loop-place-init : goal.loop-place-init
loop-place-init t c = search (rules)

pub say_before-said-requires : goal.say_before-said-requires
say_before-said-requires t c =
    let l = c.loop-place in
    let last = nothing_told (stop_of c.in_ok-operation.operation.now.activity) in
    let w = told_among c.args.levels c.args.operations.now c.args.op.0 in
    let room = room_to_say (told_among (c.args.levels - 1) c.args.operations.now) l.place l.said.now c.as_slice-children.result.now (record { 0 = 0 }) last w
    l.text.items c.args.text.now.items c.loop-place-test.true l.invariant.0 (vec_capacity c.args.text.now)
    (omega (arith, c.requires, c.args.text.now.ok.0)) in
    omega (arith, room, l.text.ok.0, l.invariant.1)

pub tell-stop-requires : goal.tell-stop-requires
tell-stop-requires t c =
    let l = c.loop-place in
    let last = nothing_told (stop_of c.in_ok-operation.operation.now.activity) in
    let w = told_among c.args.levels c.args.operations.now c.args.op.0 in
    let room = room_for_child (told_among (c.args.levels - 1) c.args.operations.now) l.place l.said.now c.as_slice-children.result.now (record { 0 = 0 }) last w
    l.text.items c.args.text.now.items c.loop-place-test.true l.invariant.0 (vec_capacity c.args.text.now)
    (omega (arith, c.requires, c.args.text.now.ok.0)) in
    let v = c.say_before-said.new.text in
    (omega (arith, c.decreases, c.if-levels-eq0.false), omega (arith, room, v.ok.0, ap length c.say_before-said.ensures.text, c.say_before-said.ensures.capacity, l.invariant.1, length-append l.text.items (said_before l.place l.said.now)))

pub returns-then-is_some-clause-text : goal.returns-then-is_some-clause-text
returns-then-is_some-clause-text t c =
    let l = c.loop-place in
    let last = nothing_told (stop_of c.in_ok-operation.operation.now.activity) in
    let w = told_among c.args.levels c.args.operations.now c.args.op.0 in
    let child = told_among (c.args.levels - 1) c.args.operations.now in
    c.tell-stop.ensures.text
    ∙ ap (λ (xs : List ℕ). xs ++ (child (get_or c.as_slice-children.result.now l.place (record { 0 = 0 })).0).text) c.say_before-said.ensures.text
    ∙ (stopped child l.place l.said.now c.as_slice-children.result.now (record { 0 = 0 }) last w l.text.items c.args.text.now.items c.loop-place-test.true l.invariant.0
    c.tell-stop.result c.tell-stop.ensures.stop (sym c.is_some.ensures ∙ c.if-is_some.true)).0

pub returns-then-is_some-clause-stop : goal.returns-then-is_some-clause-stop
returns-then-is_some-clause-stop t c =
    let l = c.loop-place in
    let last = nothing_told (stop_of c.in_ok-operation.operation.now.activity) in
    let w = told_among c.args.levels c.args.operations.now c.args.op.0 in
    let child = told_among (c.args.levels - 1) c.args.operations.now in
    (stopped child l.place l.said.now c.as_slice-children.result.now (record { 0 = 0 }) last w l.text.items c.args.text.now.items c.loop-place-test.true l.invariant.0
    c.tell-stop.result c.tell-stop.ensures.stop (sym c.is_some.ensures ∙ c.if-is_some.true)).1

pub loop-place-preserved : goal.loop-place-preserved
loop-place-preserved t c =
    let l = c.loop-place in
    let last = nothing_told (stop_of c.in_ok-operation.operation.now.activity) in
    let w = told_among c.args.levels c.args.operations.now c.args.op.0 in
    let child = told_among (c.args.levels - 1) c.args.operations.now in
    let others = woven child (l.place + 1) (said_behind l.place l.said.now) (drop (l.place + 1) c.as_slice-children.result.now) last in
    let this = child (get_or c.as_slice-children.result.now l.place (record { 0 = 0 })).0 in (
      ap (λ (ps : List Said). says_first c.tell-stop.new.text.items (woven child (l.place + 1) ps (drop (l.place + 1) c.as_slice-children.result.now) last)) c.say_before-said.ensures.rest
          ∙ ap (λ (xs : List ℕ). says_first xs others)
          (c.tell-stop.ensures.text ∙ ap (λ (xs : List ℕ). xs ++ this.text) c.say_before-said.ensures.text)
          ∙ went_on child l.place l.said.now c.as_slice-children.result.now (record { 0 = 0 }) last w l.text.items c.args.text.now.items c.loop-place-test.true l.invariant.0
          c.tell-stop.result c.tell-stop.ensures.stop (sym c.is_some.ensures ∙ c.if-is_some.false),
      c.tell-stop.ensures.capacity ∙ c.say_before-said.ensures.capacity ∙ l.invariant.1,
    )

pub say_rest-requires : goal.say_rest-requires
say_rest-requires t c =
    let l = c.loop-place in
    let w = told_among c.args.levels c.args.operations.now c.args.op.0 in
    let room = room_at_last (told_among (c.args.levels - 1) c.args.operations.now) l.place l.said.now c.as_slice-children.result.now
    (stop_of c.in_ok-operation.operation.now.activity) w l.text.items c.args.text.now.items (omega (arith, c.loop-place-test.false)) l.invariant.0
    (vec_capacity c.args.text.now) (omega (arith, c.requires, c.args.text.now.ok.0)) in
    omega (arith, room, l.text.ok.0, l.invariant.1)

pub returns-clause-text : goal.returns-clause-text
returns-clause-text t c =
    let l = c.loop-place in
    let w = told_among c.args.levels c.args.operations.now c.args.op.0 in
    c.say_rest.ensures.text
    ∙ told_text (told_among (c.args.levels - 1) c.args.operations.now) l.place l.said.now c.as_slice-children.result.now
    (stop_of c.in_ok-operation.operation.now.activity) w l.text.items c.args.text.now.items (omega (arith, c.loop-place-test.false)) l.invariant.0

pub returns-clause-stop : goal.returns-clause-stop
returns-clause-stop t c =
    let l = c.loop-place in
    let w = told_among c.args.levels c.args.operations.now c.args.op.0 in
    c.stop_of.ensures
    ∙ told_stop (told_among (c.args.levels - 1) c.args.operations.now) l.place l.said.now c.as_slice-children.result.now
    (stop_of c.in_ok-operation.operation.now.activity) w l.text.items c.args.text.now.items (omega (arith, c.loop-place-test.false)) l.invariant.0
