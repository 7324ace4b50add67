use Rattle.std.proofs.Common.{rules, ◌≡◌, ◌∙◌, ◌≤◌, ◌<◌, arith, get_or, length, subst, sym, take, ℕ}
use Rattle.std.proofs.Math.Numerals.{suc-eq-add-one}
use Rattle.std.proofs.lemmas.List.{take_all}
use Rattle.logical_map.specs.Gives.{reductions_on}
use Rattle.logical_map.specs.Maps.{IsThere, LogicalMap}
use Rattle.physical_instances.specs.Kept.{spare_of}
use Rattle.physical_instances.proofs.Room.{HasRoom, HaveRoom, all_room, more_room}
use Rattle.physical_instances.proofs.contents.Contents.reserve.Goals as goal

pub loop-part-preserved : goal.loop-part-preserved
loop-part-preserved c =
    let parts = c.args.parts.now in
    let before = c.args.self.now in
    let now = c.loop-part.self in
    let after = c.reserve_on.new.self in
    let i = c.loop-part.part-index in
    let p = c.part-item.result in
    let below : i < length parts = search (rules) in
    let here : p ≡ get_or parts i p = search (rules) in
    let count : c.in-Some.count ≡ reductions_on parts p.root.0 p.field = search (rules) in
    let room : HasRoom parts before after p = λ there.
    let more : c.in-Some.count ≤ spare_of after p.root.0 p.field =
    c.in_ok-reserve_on.ensures.more (subst (λ (m : LogicalMap). IsThere m p.root.0 p.field) (sym c.loop-part.invariant.map) there) in
    omega (arith, count, more) in
    record {
      map = c.reserve_on.ensures.map ∙ c.loop-part.invariant.map;
      spare = λ root field.
          let old : spare_of before root field ≤ spare_of now root field = c.loop-part.invariant.spare root field in
          let new : spare_of now root field ≤ spare_of after root field = c.reserve_on.ensures.spare root field in
          omega (arith, old, new);
      room = subst (λ (k : ℕ). HaveRoom parts before after (take k parts)) (suc-eq-add-one i)
          (more_room parts before now after parts i p below here c.reserve_on.ensures.spare room c.loop-part.invariant.room);
    }

pub returns-clause-room : goal.returns-clause-room
returns-clause-room c root field there =
    let parts = c.args.parts.now in
    let past : length parts ≤ c.loop-part.part-index = search (rules) in
    all_room parts c.args.self.now c.loop-part.self root field
    (subst (λ ps. HaveRoom parts c.args.self.now c.loop-part.self ps) (take_all c.loop-part.part-index parts past) c.loop-part.invariant.room) there
