use Rattle.std.proofs.Common.{◌≡◌, sym, subst, ap, ◌∙◌, arith, length, ◌<◌, get_or, List}
use Rattle.region_tree.specs.declared.piece.Part.{Part}
use Rattle.machine_state.specs.Holding.{Holding}
use Rattle.machine_terms.specs.Parts.{found, found_cell}
use Rattle.machine_state.proofs.Spots.{IsPartAt, find_at, part_at, part_within, put_found}
use Rattle.machine_state.proofs.holdings.Holdings.find.Goals as goal

pub index-requires : goal.index-requires
index-requires c =
    let e : c.self.inside.parts.items ≡ c.args.self.now.parts = ap (λ (v : Holding). v.parts) (c.self.view_is ∙ c.place.ensures.same) in
    let within : c.in-Ok.place < length c.args.self.now.parts = part_within c.args.self.now.parts c.args.root.0 c.args.field c.in-Ok.place c.in-Ok.ensures.place in
    let inside : c.in-Ok.place < length c.self.inside.parts.items = subst (λ (qs : List Part). c.in-Ok.place < length qs) (sym e) within in
    omega (arith, c.self.inside.parts.ok.0)

pub returns-in_default-clause-err : goal.returns-in_default-clause-err
returns-in_default-clause-err c =
    let e : c.self.inside.parts.items ≡ c.args.self.now.parts = ap (λ (v : Holding). v.parts) (c.self.view_is ∙ c.place.ensures.same) in
    let w : IsPartAt c.args.self.now.parts c.args.root.0 c.args.field c.in-Ok.place c.index.result.now =
    part_at c.args.self.now.parts c.args.root.0 c.args.field c.in-Ok.place c.index.result.now c.in-Ok.ensures.place
    (ap (λ (qs : List Part). get_or qs c.in-Ok.place c.index.result.now) (sym e) ∙ sym c.index.ensures) in
    find_at c.args.self.now.needs c.args.self.now.parts c.args.root.0 c.args.field c.args.point c.in-Ok.place c.index.result.now c.in-Ok.ensures.needed w
    ∙ ap (found_cell c.index.result.now.kind) c.in_default.ensures.none

pub returns-clause-ok : goal.returns-clause-ok
returns-clause-ok c =
    let e : c.self.inside.parts.items ≡ c.args.self.now.parts = ap (λ (v : Holding). v.parts) (c.self.view_is ∙ c.place.ensures.same) in
    let w : IsPartAt c.args.self.now.parts c.args.root.0 c.args.field c.in-Ok.place c.index.result.now =
    part_at c.args.self.now.parts c.args.root.0 c.args.field c.in-Ok.place c.index.result.now c.in-Ok.ensures.place
    (ap (λ (qs : List Part). get_or qs c.in-Ok.place c.index.result.now) (sym e) ∙ sym c.index.ensures) in
    find_at c.args.self.now.needs c.args.self.now.parts c.args.root.0 c.args.field c.args.point c.in-Ok.place c.index.result.now c.in-Ok.ensures.needed w
    ∙ ap (found_cell c.index.result.now.kind) c.in-Some.ensures.some
    ∙ ap (λ k. found k (record { mode = c.in-Some.element.mode; value = c.in-Some.element.value })) (sym c.in-Some.ensures.kind)

pub returns-clause-set : goal.returns-clause-set
returns-clause-set c =
    let e : c.self.inside.parts.items ≡ c.args.self.now.parts = ap (λ (v : Holding). v.parts) (c.self.view_is ∙ c.place.ensures.same) in
    let w : IsPartAt c.args.self.now.parts c.args.root.0 c.args.field c.in-Ok.place c.index.result.now =
    part_at c.args.self.now.parts c.args.root.0 c.args.field c.in-Ok.place c.index.result.now c.in-Ok.ensures.place
    (ap (λ (qs : List Part). get_or qs c.in-Ok.place c.index.result.now) (sym e) ∙ sym c.index.ensures) in
    put_found c.args.self.now.parts c.args.root.0 c.args.field c.args.point c.in-Some.element.spot c.index.result.now
    (subst (λ k. IsPartAt c.args.self.now.parts c.args.root.0 c.args.field k c.index.result.now) (sym c.in-Some.ensures.part) w)
    c.in-Some.ensures.set
