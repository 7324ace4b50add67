use Rattle.std.proofs.Common.{◌≡◌, ◌<◌, ◌∙◌, ℕ, Global, List, Vec, ap, arith, get_or, length, map, set, subst, sym}
use Rattle.std.proofs.Math.Seq.{paste}
use Rattle.std.proofs.lemmas.List.{length-set}
use Rattle.region_tree.specs.declared.tree.RootId.{RootId}
use Rattle.regent_tree.specs.declared.outcome.RootImage.{RootImage}
use Rattle.board_terms.specs.Outcomes.{image_of}
use Rattle.board_terms.specs.States.{operation_at}
use Rattle.task_core.specs.Rooms.{AreRooms, IsRoomOf}
use Rattle.task_core.proofs.Imaging.{all_filled, as_many, filled_more, has_room}
use Rattle.task_core.proofs.finishing.fill_images.Goals as goal

pub bounds-own-place : goal.bounds-own-place
bounds-own-place c =
    let many = as_many c.args.state.now (operation_at c.args.state.now 0).frame.own c.args.images.now.items c.requires in
    omega (
      arith,
      many,
      ap (λ (rs : List RootId). length rs) c.main_roots-own.ensures,
      c.loop-place-test.true,
      c.len-place-end.ensures,
      c.replace-filled.result.ok.0,
      ap (λ (v : Vec RootImage Global). length v.items) c.replace-filled.ensures.value,
    )

pub fill_root-requires : goal.fill_root-requires
fill_root-requires c =
    let s = c.args.state.now in
    let images = c.args.images.now.items in
    let own = c.main_roots-own.result.now in
    let l = c.loop-place in
    let rooms : AreRooms s own images = subst (λ (rs : List RootId). AreRooms s rs images) (sym c.main_roots-own.ensures) c.requires in
    let less : l.place < length images = omega (
      arith,
      c.loop-place-test.true,
      c.len-place-end.ensures,
      c.replace-filled.result.ok.0,
      ap (λ (v : Vec RootImage Global). length v.items) c.replace-filled.ensures.value,
    ) in
    subst (IsRoomOf s (get_or own l.place (record { 0 = 0 })))
    (sym (c.index_mut.ensures.value ∙ ap (λ (xs : List RootImage). get_or xs l.place c.index_mut.result.now) l.invariant.0
    ∙ ap (λ (rs : List RootId). get_or (paste images 0 (map (image_of s) rs) l.place) l.place c.index_mut.result.now) (sym c.main_roots-own.ensures)))
    (has_room s own images rooms l.place (record { 0 = 0 }) c.index_mut.result.now less)

pub loop-place-preserved : goal.loop-place-preserved
loop-place-preserved c =
    let s = c.args.state.now in
    let images = c.args.images.now.items in
    let own = (operation_at s 0).frame.own in
    let l = c.loop-place in
    let less : l.place < length images = omega (
      arith,
      c.loop-place-test.true,
      c.len-place-end.ensures,
      c.replace-filled.result.ok.0,
      ap (λ (v : Vec RootImage Global). length v.items) c.replace-filled.ensures.value,
    ) in (
      ap (set l.filled.items l.place) (c.fill_root.ensures ∙ ap (λ (rs : List RootId). image_of s (get_or rs l.place (record { 0 = 0 }))) c.main_roots-own.ensures)
          ∙ ap (λ (xs : List RootImage). set xs l.place (image_of s (get_or own l.place (record { 0 = 0 })))) l.invariant.0
          ∙ filled_more s own images c.requires l.place (record { 0 = 0 }) less,
      length-set l.filled.items l.place c.fill_root.new.image ∙ l.invariant.1,
    )

pub returns : goal.returns
returns c =
    let s = c.args.state.now in
    let images = c.args.images.now.items in
    let own = (operation_at s 0).frame.own in
    let l = c.loop-place in
    let last : l.place ≡ length images = omega (
      arith,
      c.loop-place-test.false,
      l.auto.place-end,
      c.len-place-end.ensures,
      c.replace-filled.result.ok.0,
      ap (λ (v : Vec RootImage Global). length v.items) c.replace-filled.ensures.value,
    ) in
    c.from_vec.ensures ∙ l.invariant.0 ∙ ap (λ (n : ℕ). paste images 0 (map (image_of s) own) n) last ∙ all_filled s own images c.requires
