use Rattle.std.proofs.Common.{rules, ◌≡◌, Some, None, get_or}
use Rattle.std.specs.List.{position}
use Rattle.std.proofs.lemmas.Option.{IfSome_then}
use Rattle.physical_instances.specs.Kept.{is_kept}
use Rattle.physical_instances.proofs.Keeping.{IfNone_then, column_found, field_missing, root_missing, there_found}
use Rattle.physical_instances.proofs.contents.Contents.field_of.Goals as goal

pub returns-in-Some-clause-some : goal.returns-in-Some-clause-some
returns-in-Some-clause-some c =
    let roots = c.args.self.now in
    let r = c.index.result.now in
    let place : position (is_kept c.args.root.0) roots ≡ Some c.in-Some.place = search (rules) in
    let here : r ≡ get_or roots c.in-Some.place r = search (rules) in
    IfSome_then c.field.result c.field.ensures.some
    (λ f is. column_found roots c.args.root.0 c.args.field c.in-Some.place r f.now place here is)

pub returns-in-Some-clause-found : goal.returns-in-Some-clause-found
returns-in-Some-clause-found c =
    let roots = c.args.self.now in
    let r = c.index.result.now in
    let place : position (is_kept c.args.root.0) roots ≡ Some c.in-Some.place = search (rules) in
    let here : r ≡ get_or roots c.in-Some.place r = search (rules) in
    IfSome_then c.field.result c.field.ensures.some
    (λ f is. there_found roots c.args.root.0 c.args.field c.in-Some.place r f.now place here is)

pub returns-in-Some-clause-there : goal.returns-in-Some-clause-there
returns-in-Some-clause-there c =
    let roots = c.args.self.now in
    let r = c.index.result.now in
    let place : position (is_kept c.args.root.0) roots ≡ Some c.in-Some.place = search (rules) in
    let here : r ≡ get_or roots c.in-Some.place r = search (rules) in
    IfNone_then c.field.result c.field.ensures.none
    (λ is. (field_missing roots c.args.root.0 c.args.field c.in-Some.place r place here is).0)

pub returns-in-Some-clause-none : goal.returns-in-Some-clause-none
returns-in-Some-clause-none c =
    let roots = c.args.self.now in
    let r = c.index.result.now in
    let place : position (is_kept c.args.root.0) roots ≡ Some c.in-Some.place = search (rules) in
    let here : r ≡ get_or roots c.in-Some.place r = search (rules) in
    IfNone_then c.field.result c.field.ensures.none
    (λ is. (field_missing roots c.args.root.0 c.args.field c.in-Some.place r place here is).1)

pub returns-in-None-clause-there : goal.returns-in-None-clause-there
returns-in-None-clause-there c =
    let place : position (is_kept c.args.root.0) c.args.self.now ≡ None = search (rules) in
    (root_missing c.args.self.now c.args.root.0 c.args.field place).0

pub returns-in-None-clause-none : goal.returns-in-None-clause-none
returns-in-None-clause-none c =
    let place : position (is_kept c.args.root.0) c.args.self.now ≡ None = search (rules) in
    (root_missing c.args.self.now c.args.root.0 c.args.field place).1
