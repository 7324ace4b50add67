use Rattle.std.proofs.Common.{rules, ◌≡◌, ◌<◌, ◌∙◌, ℕ, false, refl, ap}
use Rattle.std.proofs.lemmas.Result.{IfOk-weaker}
use Rattle.lane_kernels.specs.declared.numbers.FieldKind.{FieldKind}
use Rattle.region_tree.specs.Requirements.{part_of}
use Rattle.plain_store.specs.Columns.{column_of}
use Rattle.plain_store.specs.Keys.{is_lent}
use Rattle.plain_store.specs.Loans.{copied_out, lent_out}
use Rattle.plain_store.proofs.Fetching.{copied_fetched, if_both, lent_fetched, whole_found}
use Rattle.plain_store.proofs.copies.fetch_part.Goals as goal

pub returns-then-is_whole : goal.returns-then-is_whole
returns-then-is_whole c =
    let h = c.args.holder.now in
    let root : ℕ = c.args.root.0 in
    let field : ℕ = c.args.field in
    let others : is_lent h.loans root field ≡ false = search (rules) in
    let made : root < h.instance.contents.made = search (rules) in
    let found : c.as_slice-then-root-holder.result.now ≡ part_of h.instance.needs root field = search (rules) in
    let all = whole_found c.column_of-column.result.now (column_of h.instance.contents root field)
    c.as_slice-then-root-holder.result.now (part_of h.instance.needs root field)
    (c.if-is_whole.ensures.0 refl) c.column_of-column.ensures found in
    if_both c.lend.result _ _ _ (λ _ there is k st.
    lent_fetched c.args.code.now root field k h st others there made all c.lend.new.holder
    (is ∙ ap (λ (kind : FieldKind). lent_out kind root field h) c.kind_of-kind.ensures))
    c.lend.ensures.there c.lend.ensures.holder

pub returns-else-root-holder : goal.returns-else-root-holder
returns-else-root-holder c =
    let h = c.args.holder.now in
    let root : ℕ = c.args.root.0 in
    let field : ℕ = c.args.field in
    let others : is_lent h.loans root field ≡ false = search (rules) in
    let parts = c.in_ok-found.found.items in
    let found : parts ≡ part_of h.instance.needs root field = search (rules) in
    IfOk-weaker c.copy_out.result _ _ (λ _ is k st.
    copied_fetched c.args.code.now root field k h parts st others found c.copy_out.new.holder
    (is ∙ ap (λ (kind : FieldKind). copied_out kind root field parts h) c.kind_of-kind.ensures))
    c.copy_out.ensures
