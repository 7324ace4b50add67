use Rattle.std.proofs.Common.{◌≡◌, ◌∙◌, ◌+◌, ◌++◌, List, None, Option, Some, ap, arith, length, refl, subst, sym}
use Rattle.std.specs.Vec.{vec_capacity}
use Rattle.regent_tree.specs.declared.outcome.Outcome.{Outcome}
use Rattle.regent_tree.specs.declared.outcome.RootImage.{RootImage}
use Rattle.task_code.specs.declared.code.Code.{Code}
use Rattle.run_journal.specs.declared.entry.StepKind.TheVariants as step
use Rattle.machine_terms.specs.Segments.{segment}
use Rattle.machine_terms.specs.declared.outcome.After.{After}
use Rattle.board_terms.specs.Gives.{given_after}
use Rattle.board_terms.specs.States.{State, operation_at}
use Rattle.board_state.specs.Kept.{IsKept}
use Rattle.board_state.specs.Steps.{before_by}
use Rattle.task_core.proofs.Gives.{board_given, give_stepped, given_open, room_given, told_room, when_none}
use Rattle.task_core.specs.Boards.{HasMade, IsBoard, Standing, step_by}
use Rattle.task_core.specs.Rooms.{AreRooms, IsImageFor, listed, main_makes}
use Rattle.task_core.proofs.board.Board.take.Goals as goal

pub finished-requires-clause-empty : goal.finished-requires-clause-empty
finished-requires-clause-empty c =
    let b = c.self.inside in
    let s = b.state in
    let own : before_by c.args.claim (operation_at s c.args.claim.op.0).activity ≡ Some c.args.ran =
    ap (λ (x : Standing). before_by c.args.claim (operation_at x.state c.args.claim.op.0).activity) c.self.view_is ∙ c.requires.own in
    let kept : IsKept s = subst (λ (x : Standing). IsKept x.state) (sym c.self.view_is) c.requires.kept in
    let none : b.outcome ≡ None = c.self.invariant.0.told ∙ given_open s c.args.claim c.args.ran kept own in
    let board : IsBoard b.job b.journal.items s None b.owed = subst (λ (o : Option Outcome). IsBoard b.job b.journal.items s o b.owed) none c.self.invariant.0 in
    let ready = c.self.invariant.1.1 none in
    c.make_room-made.ensures.text ∙ ready.empty

pub finished-requires-clause-room : goal.finished-requires-clause-room
finished-requires-clause-room c =
    let b = c.self.inside in
    let s = b.state in
    let own : before_by c.args.claim (operation_at s c.args.claim.op.0).activity ≡ Some c.args.ran =
    ap (λ (x : Standing). before_by c.args.claim (operation_at x.state c.args.claim.op.0).activity) c.self.view_is ∙ c.requires.own in
    let kept : IsKept s = subst (λ (x : Standing). IsKept x.state) (sym c.self.view_is) c.requires.kept in
    let none : b.outcome ≡ None = c.self.invariant.0.told ∙ given_open s c.args.claim c.args.ran kept own in
    let board : IsBoard b.job b.journal.items s None b.owed = subst (λ (o : Option Outcome). IsBoard b.job b.journal.items s o b.owed) none c.self.invariant.0 in
    let ready = c.self.invariant.1.1 none in
    let behind : c.give.new.self ≡ given_after b.job.code b.job.turns s c.args.claim.op.0 (segment c.args.ran) =
    c.in_ok-give.ensures.given ∙ ap (λ (x : Code). given_after x b.job.turns s c.args.claim.op.0 (segment c.args.ran)) c.get-2.ensures in
    let more : c.in-Ok.room.said ≡ b.said + length (segment c.args.ran).text =
    c.in-Ok.ensures.said ∙ ap (λ (x : After). b.said + length x.text) c.after.ensures in
    let told = told_room b.job b.journal.items s b.owed c.args.claim c.args.ran board own b.said b.text.items (vec_capacity b.text) b.images.items
    c.give.new.self c.in-Ok.room.said ready behind more in
    omega (arith, told, c.in-Ok.ensures.room)

pub finished-requires-clause-images : goal.finished-requires-clause-images
finished-requires-clause-images c =
    let b = c.self.inside in
    let s = b.state in
    let own : before_by c.args.claim (operation_at s c.args.claim.op.0).activity ≡ Some c.args.ran =
    ap (λ (x : Standing). before_by c.args.claim (operation_at x.state c.args.claim.op.0).activity) c.self.view_is ∙ c.requires.own in
    let kept : IsKept s = subst (λ (x : Standing). IsKept x.state) (sym c.self.view_is) c.requires.kept in
    let none : b.outcome ≡ None = c.self.invariant.0.told ∙ given_open s c.args.claim c.args.ran kept own in
    let board : IsBoard b.job b.journal.items s None b.owed = subst (λ (o : Option Outcome). IsBoard b.job b.journal.items s o b.owed) none c.self.invariant.0 in
    let ready = c.self.invariant.1.1 none in
    let behind : c.give.new.self ≡ given_after b.job.code b.job.turns s c.args.claim.op.0 (segment c.args.ran) =
    c.in_ok-give.ensures.given ∙ ap (λ (x : Code). given_after x b.job.turns s c.args.claim.op.0 (segment c.args.ran)) c.get-2.ensures in
    let more : c.in-Ok.room.said ≡ b.said + length (segment c.args.ran).text =
    c.in-Ok.ensures.said ∙ ap (λ (x : After). b.said + length x.text) c.after.ensures in
    let image : IsImageFor b.job.code (main_makes c.args.claim.op.0 (segment c.args.ran).ends) c.in-Ok.room.image =
    subst (λ (x : Code). IsImageFor x (main_makes c.args.claim.op.0 (segment c.args.ran).ends) c.in-Ok.room.image) c.get.ensures
    (subst (λ (x : After). IsImageFor c.get.result.now (main_makes c.args.claim.op.0 x.ends) c.in-Ok.room.image) c.after.ensures c.in-Ok.ensures.image) in
    let room = room_given b.job b.journal.items s b.owed c.args.claim c.args.ran board own b.said b.text.items (vec_capacity b.text) b.images.items
    c.give.new.self c.in-Ok.room.said c.in-Ok.room.image ready behind more (vec_capacity c.make_room-made.new.text) c.in-Ok.ensures.room image in
    let images : c.push_image.new.images.items ≡ b.images.items ++ listed c.in-Ok.room.image =
    c.push_image.ensures ∙ ap (λ (xs : List RootImage). xs ++ listed c.in-Ok.room.image) c.make_room-made.ensures.images in
    subst (λ (xs : List RootImage). AreRooms c.give.new.self (operation_at c.give.new.self 0).frame.own xs) (sym images) room.images

pub invariant_of-self-2 : goal.invariant_of-self-2
invariant_of-self-2 c =
    let b = c.self.inside in
    let s = b.state in
    let own : before_by c.args.claim (operation_at s c.args.claim.op.0).activity ≡ Some c.args.ran =
    ap (λ (x : Standing). before_by c.args.claim (operation_at x.state c.args.claim.op.0).activity) c.self.view_is ∙ c.requires.own in
    let kept : IsKept s = subst (λ (x : Standing). IsKept x.state) (sym c.self.view_is) c.requires.kept in
    let none : b.outcome ≡ None = c.self.invariant.0.told ∙ given_open s c.args.claim c.args.ran kept own in
    let board : IsBoard b.job b.journal.items s None b.owed = subst (λ (o : Option Outcome). IsBoard b.job b.journal.items s o b.owed) none c.self.invariant.0 in
    let ready = c.self.invariant.1.1 none in
    let behind : c.give.new.self ≡ given_after b.job.code b.job.turns s c.args.claim.op.0 (segment c.args.ran) =
    c.in_ok-give.ensures.given ∙ ap (λ (x : Code). given_after x b.job.turns s c.args.claim.op.0 (segment c.args.ran)) c.get-2.ensures in
    let more : c.in-Ok.room.said ≡ b.said + length (segment c.args.ran).text =
    c.in-Ok.ensures.said ∙ ap (λ (x : After). b.said + length x.text) c.after.ensures in
    let image : IsImageFor b.job.code (main_makes c.args.claim.op.0 (segment c.args.ran).ends) c.in-Ok.room.image =
    subst (λ (x : Code). IsImageFor x (main_makes c.args.claim.op.0 (segment c.args.ran).ends) c.in-Ok.room.image) c.get.ensures
    (subst (λ (x : After). IsImageFor c.get.result.now (main_makes c.args.claim.op.0 x.ends) c.in-Ok.room.image) c.after.ensures c.in-Ok.ensures.image) in
    let room = room_given b.job b.journal.items s b.owed c.args.claim c.args.ran board own b.said b.text.items (vec_capacity b.text) b.images.items
    c.give.new.self c.in-Ok.room.said c.in-Ok.room.image ready behind more (vec_capacity c.make_room-made.new.text) c.in-Ok.ensures.room image in
    let images : c.push_image.new.images.items ≡ b.images.items ++ listed c.in-Ok.room.image =
    c.push_image.ensures ∙ ap (λ (xs : List RootImage). xs ++ listed c.in-Ok.room.image) c.make_room-made.ensures.images in
    let given = board_given b.job b.journal.items s b.owed c.args.claim c.args.ran board own c.push_reserved.new.self.items c.give.new.self
    c.finished.result c.push_reserved.ensures.items behind c.finished.ensures.outcome in (
      given.0,
      (
        omega (arith, given.1, c.self.invariant.1.0, c.push_reserved.ensures.len, c.push_reserved.ensures.capacity),
        λ n.
            let text = when_none c.finished.result c.finished.ensures.text n in
            let same = when_none c.finished.result c.finished.ensures.images n in
            record {
              said = room.said;
              empty = text.0;
              room = omega (arith, c.in-Ok.ensures.room, text.1);
              images = subst (λ (xs : List RootImage). AreRooms c.give.new.self (operation_at c.give.new.self 0).frame.own xs)
                  (sym (same ∙ images)) room.images;
            },
      ),
    )

pub returns-clause-made : goal.returns-clause-made
returns-clause-made c =
    let b = c.self.inside in
    let s = b.state in
    let own : before_by c.args.claim (operation_at s c.args.claim.op.0).activity ≡ Some c.args.ran =
    ap (λ (x : Standing). before_by c.args.claim (operation_at x.state c.args.claim.op.0).activity) c.self.view_is ∙ c.requires.own in
    let kept : IsKept s = subst (λ (x : Standing). IsKept x.state) (sym c.self.view_is) c.requires.kept in
    let behind : c.give.new.self ≡ given_after b.job.code b.job.turns s c.args.claim.op.0 (segment c.args.ran) =
    c.in_ok-give.ensures.given ∙ ap (λ (x : Code). given_after x b.job.turns s c.args.claim.op.0 (segment c.args.ran)) c.get-2.ensures in
    subst (λ (x : Standing). HasMade x (step_by step.Give c.args.claim.op c.args.claim.seat) (record {
      job = b.job;
      journal = c.push_reserved.new.self.items;
      state = c.give.new.self;
    })) c.self.view_is (record {
      job = refl;
      journal = c.push_reserved.ensures.items;
      state = give_stepped b.job s c.args.claim c.args.ran own ∙ ap (λ (x : State). Some x) (sym behind);
      unfinished = given_open s c.args.claim c.args.ran kept own;
    })
