use Rattle.std.proofs.Common.{◌≡◌, ◌++◌, drop, map, replicate}
use Rattle.regent_tree.specs.Values.{kept_zero}
use Rattle.task_code.specs.declared.code.FieldCode.{FieldCode}
use Rattle.plain_store.proofs.roots.new_columns.Given as goal

abbrev pub invariant-loop-field : goal.invariant-loop-field
invariant-loop-field l = l.columns.items ++ map (λ k. replicate l.size (kept_zero k))
    (map (λ (f : FieldCode). f.kind) (drop l.field-index l.fields))
    ≡ map (λ k. replicate l.size (kept_zero k)) (map (λ (f : FieldCode). f.kind) l.fields)
