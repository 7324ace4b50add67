use Rattle.std.proofs.Common.{rules, ◌≡◌, ◌∙◌, ap, arith, filter, get_or, not}
use Rattle.std.proofs.lemmas.Fn.{filter_same}
use Rattle.physical_instances.specs.Kept.{RootContents, is_kept, map_of, no_field, spare_of}
use Rattle.physical_instances.proofs.Keeping.{others_stay, root_closed}
use Rattle.physical_instances.proofs.contents.Contents.close_root.Goals as goal

pub returns-clause-map : goal.returns-clause-map
returns-clause-map c =
    let left : c.retain.new.self.items ≡ filter (λ (r : RootContents). not (is_kept c.args.root.0 r)) c.args.self.now =
    filter_same _ (λ (r : RootContents). not (is_kept c.args.root.0 r)) _ (λ x b f' k. search rules) _ _ c.retain.ensures.filtered ∙
    ap (filter (λ (r : RootContents). not (is_kept c.args.root.0 r))) c.self.view_is in
    ap map_of left ∙ root_closed c.args.self.now c.args.root.0

pub returns-clause-spare : goal.returns-clause-spare
returns-clause-spare c other field apart =
    let left : c.retain.new.self.items ≡ filter (λ (r : RootContents). not (is_kept c.args.root.0 r)) c.args.self.now =
    filter_same _ (λ (r : RootContents). not (is_kept c.args.root.0 r)) _ (λ x b f' k. search rules) _ _ c.retain.ensures.filtered ∙
    ap (filter (λ (r : RootContents). not (is_kept c.args.root.0 r))) c.self.view_is in
    let same : spare_of c.retain.new.self.items other field ≡ spare_of c.args.self.now other field =
    ap (λ roots. spare_of roots other field) left ∙
    ap (λ fs. (get_or fs field no_field).spare) (others_stay c.args.self.now c.args.root.0 other apart) in
    omega (arith, same)
