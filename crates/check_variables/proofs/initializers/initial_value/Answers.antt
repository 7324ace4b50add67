use Rattle.std.proofs.Common.{refl}
use Rattle.regent_tree.specs.Plain.{expression_of}
use Rattle.regent_tree.specs.Syntax.{both_initializer, by_field_initializer, either_initializer, equal_initializer, image_initializer, preimage_initializer}
use Rattle.check_expressions.specs.Seen.{seen}
use Rattle.check_expressions.specs.Sites.{task_at, tree_at}
use Rattle.check_variables.specs.Beginning.{first_in_initializer}
use Rattle.check_variables.proofs.InitializerForms.{begun_tells}
use Rattle.check_variables.proofs.initializers.initial_value.Goals as goal

pub returns-in-Equal : goal.returns-in-Equal
returns-in-Equal c =
    let tree = tree_at c.args.site.now in
    let s = seen c.args.scope.now in
    let i = equal_initializer c.in-Equal.region (expression_of c.in-Equal.colours) in
    rw c.in-Equal.is (begun_tells tree s i c.equal.result c.begun_by_partition.result
    (first_in_initializer tree (task_at c.args.site.now) s i) c.begun_by_partition.ensures refl c.equal.ensures)

pub returns-in-ByField : goal.returns-in-ByField
returns-in-ByField c =
    let tree = tree_at c.args.site.now in
    let s = seen c.args.scope.now in
    let i = by_field_initializer c.in-ByField.region c.in-ByField.field (expression_of c.in-ByField.colours) in
    rw c.in-ByField.is (begun_tells tree s i c.by_field.result c.begun_by_partition-in-ByField.result
    (first_in_initializer tree (task_at c.args.site.now) s i) c.begun_by_partition-in-ByField.ensures refl c.by_field.ensures)

pub returns-in-Image : goal.returns-in-Image
returns-in-Image c =
    let tree = tree_at c.args.site.now in
    let s = seen c.args.scope.now in
    let i = image_initializer c.in-Image.parent c.in-Image.partition c.in-Image.region c.in-Image.field in
    rw c.in-Image.is (begun_tells tree s i c.image.result c.begun_by_partition-in-Image.result
    (first_in_initializer tree (task_at c.args.site.now) s i) c.begun_by_partition-in-Image.ensures refl c.image.ensures)

pub returns-in-Preimage : goal.returns-in-Preimage
returns-in-Preimage c =
    let tree = tree_at c.args.site.now in
    let s = seen c.args.scope.now in
    let i = preimage_initializer c.in-Preimage.parent c.in-Preimage.partition c.in-Preimage.region c.in-Preimage.field in
    rw c.in-Preimage.is (begun_tells tree s i c.preimage.result c.begun_by_partition-in-Preimage.result
    (first_in_initializer tree (task_at c.args.site.now) s i) c.begun_by_partition-in-Preimage.ensures refl c.preimage.ensures)

pub returns-in-Both : goal.returns-in-Both
returns-in-Both c =
    let tree = tree_at c.args.site.now in
    let s = seen c.args.scope.now in
    let i = both_initializer c.in-Both.p c.in-Both.q in
    rw c.in-Both.is (begun_tells tree s i c.both.result c.begun_by_partition-in-Both.result
    (first_in_initializer tree (task_at c.args.site.now) s i) c.begun_by_partition-in-Both.ensures refl c.both.ensures)

pub returns-in-Either : goal.returns-in-Either
returns-in-Either c =
    let tree = tree_at c.args.site.now in
    let s = seen c.args.scope.now in
    let i = either_initializer c.in-Either.p c.in-Either.q in
    rw c.in-Either.is (begun_tells tree s i c.either.result c.begun_by_partition-in-Either.result
    (first_in_initializer tree (task_at c.args.site.now) s i) c.begun_by_partition-in-Either.ensures refl c.either.ensures)
