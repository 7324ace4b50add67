-- Code compares equal exactly where it is the same.
use Rattle.std.proofs.Common.{rules}
use Rattle.std.specs.Prelude.{◌≡◌, Bool, true, ℤ, List, nat_eq}
use Rattle.std.specs.Ordering.{int_eq}
use mathlib.Core.Bool.{◌&&◌}
use Rattle.std.specs.Cmp.{first_so, second_so}
use Rattle.std.specs.Cmp.Lexicographic.{pointwise, pointwise_decides}
use Rattle.lane_kernels.specs.declared.numbers.FieldKind.{FieldKind}
use Rattle.lane_kernels.specs.contracts.numbers.FieldKindPartialEq.TheImpl.{eq-value as kind_eq}
use Rattle.lane_kernels.specs.declared.numbers.Mode.{Mode}
use Rattle.lane_kernels.specs.contracts.numbers.ModePartialEq.TheImpl.{eq-value as mode_eq}
use Rattle.task_code.specs.declared.code.FieldCode.{FieldCode}
use Rattle.task_code.specs.contracts.code.FieldCodePartialEq.TheImpl.{eq-value as field_eq}
use Rattle.task_code.specs.declared.code.SpaceCode.{SpaceCode}
use Rattle.task_code.specs.contracts.code.SpaceCodePartialEq.TheImpl.{eq-value as space_eq}
use Rattle.task_code.specs.declared.code.NeedCode.{NeedCode}
use Rattle.task_code.specs.contracts.code.NeedCodePartialEq.TheImpl.{eq-value as need_eq}
use Rattle.task_code.specs.declared.code.Line.{Line}
use Rattle.task_code.specs.contracts.code.LinePartialEq.TheImpl.{eq-value as line_eq}
use Rattle.task_code.specs.declared.code.TaskCode.{TaskCode}
use Rattle.task_code.specs.contracts.code.TaskCodePartialEq.TheImpl.{eq-value as task_eq}
use Rattle.task_code.specs.declared.code.Code.{Code}
use Rattle.task_code.specs.contracts.code.CodePartialEq.TheImpl.{eq-value as code_eq}
use Rattle.task_code.proofs.Parts.{op_exact}
use Rattle.task_code.proofs.Exact.{instr_exact}

kind_exact : (x y : FieldKind) → (kind_eq.it x y ≡ true → x ≡ y) × (x ≡ y → kind_eq.it x y ≡ true)
kind_exact x y = search (rules)

mode_exact : (x y : Mode) → (mode_eq.it x y ≡ true → x ≡ y) × (x ≡ y → mode_eq.it x y ≡ true)
mode_exact x y = search (rules, op_exact)

field_exact : (x y : FieldCode) → (field_eq.it x y ≡ true → x ≡ y) × (x ≡ y → field_eq.it x y ≡ true)
field_exact x y = search (rules, pointwise_decides, kind_exact)

pub space_exact : (x y : SpaceCode) → (space_eq.it x y ≡ true → x ≡ y) × (x ≡ y → space_eq.it x y ≡ true)
space_exact x y = search (rules, pointwise_decides, field_exact)

need_exact : (x y : NeedCode) → (need_eq.it x y ≡ true → x ≡ y) × (x ≡ y → need_eq.it x y ≡ true)
need_exact x y = search (rules, mode_exact)

line_exact : (x y : Line) → (line_eq.it x y ≡ true → x ≡ y) × (x ≡ y → line_eq.it x y ≡ true)
line_exact x y = search (rules, instr_exact)

pub task_exact : (x y : TaskCode) → (task_eq.it x y ≡ true → x ≡ y) × (x ≡ y → task_eq.it x y ≡ true)
task_exact x y = search (rules, pointwise_decides, need_exact, line_exact)

tasks_exact : (xs ys : List TaskCode) → (pointwise task_eq.it xs ys ≡ true → xs ≡ ys) × (xs ≡ ys → pointwise task_eq.it xs ys ≡ true)
tasks_exact xs ys = pointwise_decides task_exact xs ys

spaces_exact : (xs ys : List SpaceCode) → (pointwise space_eq.it xs ys ≡ true → xs ≡ ys) × (xs ≡ ys → pointwise space_eq.it xs ys ≡ true)
spaces_exact xs ys = pointwise_decides space_exact xs ys

code_same : (x y : Code) → code_eq.it x y ≡ true → x ≡ y
code_same x y h =
    let behind = pointwise space_eq.it x.spaces y.spaces && nat_eq x.start y.start in
    let tasks : x.tasks ≡ y.tasks = (tasks_exact x.tasks y.tasks).0 (first_so (pointwise task_eq.it x.tasks y.tasks) behind h) in
    let rest : behind ≡ true = second_so (pointwise task_eq.it x.tasks y.tasks) behind h in
    let spaces : x.spaces ≡ y.spaces = (spaces_exact x.spaces y.spaces).0 (first_so (pointwise space_eq.it x.spaces y.spaces) (nat_eq x.start y.start) rest) in
    let starts : nat_eq x.start y.start ≡ true = second_so (pointwise space_eq.it x.spaces y.spaces) (nat_eq x.start y.start) rest in
    let start : x.start ≡ y.start = search (rules) in
    λ i. record { tasks = tasks i; spaces = spaces i; start = start i }

code_own : (x y : Code) → x ≡ y → code_eq.it x y ≡ true
code_own x y h =
    let tasks : pointwise task_eq.it x.tasks y.tasks ≡ true = (tasks_exact x.tasks y.tasks).1 (λ i. (h i).tasks) in
    let spaces : pointwise space_eq.it x.spaces y.spaces ≡ true = (spaces_exact x.spaces y.spaces).1 (λ i. (h i).spaces) in
    let start : x.start ≡ y.start = λ i. (h i).start in
    let starts : nat_eq x.start y.start ≡ true = search (rules) in
    λ i. tasks i && (spaces i && starts i)

pub code_exact : (x y : Code) → (code_eq.it x y ≡ true → x ≡ y) × (x ≡ y → code_eq.it x y ≡ true)
code_exact x y = (code_same x y, code_own x y)

pub numbers_exact : (xs ys : List ℤ) → (pointwise int_eq xs ys ≡ true → xs ≡ ys) × (xs ≡ ys → pointwise int_eq xs ys ≡ true)
numbers_exact xs ys = search (rules, pointwise_decides)
