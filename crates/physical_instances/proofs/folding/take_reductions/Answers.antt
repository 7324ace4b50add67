use Rattle.std.proofs.Common.{rules, ◌≡◌, ◌∙◌, ◌≤◌, ◌<◌, ◌+◌, ◌++◌, ◌∷◌, [], ap, arith, drop, get_or, length, refl, subst, take}
use Rattle.std.proofs.lemmas.Bool.{false≢true}
use Rattle.std.proofs.lemmas.Option.{get_or_from_slice_get, slice_get_read}
use Rattle.std.proofs.Math.Numerals.{suc-eq-add-one}
use Rattle.lane_kernels.specs.declared.numbers.Mode.TheVariants.{Reduce}
use Rattle.region_tree.specs.Pieces.{Held}
use Rattle.reduction_folds.specs.declared.fold.Fold.{Fold}
use Rattle.physical_instances.proofs.Taking.{Taken, all_taken, none_taken, one_kept, one_taken, reduces_not, some_left}
use Rattle.physical_instances.proofs.folding.take_reductions.Goals as goal

pub loop-place-init : goal.loop-place-init
loop-place-init c = none_taken c.args.pieces.now.items c.args.pending.now.folds c.args.pending.now.spare c.requires

pub loop-place-preserved-in-Ok-1 : goal.loop-place-preserved-in-Ok-1
loop-place-preserved-in-Ok-1 c =
    let hs = c.loop-place.pieces.items in
    let place = c.loop-place.place in
    let h = c.remove.result in
    let below : place < length hs = search (rules) in
    let here : h ≡ get_or hs place h = search (rules) in
    let seen : c.index.result.now.mode ≡ Reduce c.in-Reduce.op = search (rules) in
    let same : h ≡ c.index.result.now = here ∙ get_or_from_slice_get hs place c.index.result.now h (slice_get_read hs (length hs) place c.index.result.now refl below c.index.ensures) in
    let mode : h.mode ≡ Reduce c.in-Reduce.op = ap (λ (g : Held). g.mode) same ∙ seen in
    let out : c.remove.new.self.items ≡ take place hs ++ drop (place + 1) hs = search (rules) in
    let f : Fold = record { op = c.in-Reduce.op; points = c.points.inside.points; values = c.into_vec.result.items } in
    let is : f ≡ record { op = c.in-Reduce.op; points = h.points; values = h.values } = search (rules) in
    let added : c.add.new.self.folds ≡ c.loop-place.pending.folds ++ f ∷ [] = search (rules) in
    let less : c.loop-place.pending.spare ≤ c.add.new.self.spare + 1 = search (rules) in
    one_taken c.args.pieces.now.items hs c.remove.new.self.items c.args.pending.now.folds c.loop-place.pending.folds c.add.new.self.folds
    c.args.pending.now.spare c.loop-place.pending.spare c.add.new.self.spare place h c.in-Reduce.op f c.loop-place.invariant below here mode is out added less

pub unreachable-requires : goal.unreachable-requires
unreachable-requires c =
    let hs = c.loop-place.pieces.items in
    let place = c.loop-place.place in
    let below : place < length hs = search (rules) in
    let seen : c.index.result.now.mode ≡ Reduce c.in-Reduce.op = search (rules) in
    false≢true (c.in_default-add.ensures.sure (some_left c.args.pieces.now.items hs c.args.pending.now.folds c.loop-place.pending.folds c.args.pending.now.spare
    c.loop-place.pending.spare place c.index.result.now c.in-Reduce.op c.loop-place.invariant below c.index.ensures seen))

pub loop-place-smaller : goal.loop-place-smaller
loop-place-smaller c = let below : c.loop-place.place < length c.loop-place.pieces.items = search (rules) in omega (arith, below)

pub loop-place-preserved : goal.loop-place-preserved
loop-place-preserved c =
    let hs = c.loop-place.pieces.items in
    let place = c.loop-place.place in
    let h = c.index.result.now in
    let below : place < length hs = search (rules) in
    let here : h ≡ get_or hs place h = search (rules) in
    let other = reduces_not h (λ op e. c.in_default.not-Reduce op (ap (λ (g : Held). g.mode) c.behind-pieces.view_is ∙ e)) in
    subst (Taken c.args.pieces.now.items hs c.args.pending.now.folds c.loop-place.pending.folds c.args.pending.now.spare c.loop-place.pending.spare) (suc-eq-add-one place)
    (one_kept c.args.pieces.now.items hs c.args.pending.now.folds c.loop-place.pending.folds c.args.pending.now.spare c.loop-place.pending.spare
    place h c.loop-place.invariant below here other)

pub returns-clause-folds : goal.returns-clause-folds
returns-clause-folds c =
    let past : length c.loop-place.pieces.items ≤ c.loop-place.place = search (rules) in
    (all_taken _ _ _ _ _ _ _ c.loop-place.invariant past).1

pub returns-clause-pieces : goal.returns-clause-pieces
returns-clause-pieces c =
    let past : length c.loop-place.pieces.items ≤ c.loop-place.place = search (rules) in
    (all_taken _ _ _ _ _ _ _ c.loop-place.invariant past).0

pub returns-clause-spare : goal.returns-clause-spare
returns-clause-spare c =
    let past : length c.loop-place.pieces.items ≤ c.loop-place.place = search (rules) in
    (all_taken _ _ _ _ _ _ _ c.loop-place.invariant past).2
