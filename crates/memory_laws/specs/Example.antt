-- Roots, parts and cells of which each premise of the laws holds, by computing.
use Rattle.std.specs.Prelude.{◌≡◌, pos, List, [], ◌∷◌, Some, None, map}
use Rattle.lane_kernels.specs.declared.numbers.FieldKind.{FieldKind}
use Rattle.lane_kernels.specs.declared.numbers.FieldKind.TheVariants.{Int32, Int64}
use Rattle.lane_kernels.specs.declared.numbers.Mode.TheVariants as mode
use Rattle.lane_kernels.specs.declared.numbers.Op.TheVariants.{Sum}
use Rattle.lane_kernels.specs.declared.numbers.Width.TheVariants.{W32}
use Rattle.region_tree.specs.Requirements.{Requirement}
use Rattle.regent_tree.specs.Store.{Store, new_root, write_at}
use Rattle.task_code.specs.declared.code.Code.{Code}
use Rattle.task_code.specs.declared.code.NeedCode.{NeedCode}
use Rattle.machine_terms.specs.declared.frame.Frame.{Frame}
use Rattle.machine_terms.specs.declared.order.Contents.{Contents}
use Rattle.machine_terms.specs.declared.order.Instance.{Instance}
use Rattle.machine_terms.specs.declared.order.Root.{Root}
use Rattle.machine_terms.specs.declared.value.Value.{Value}
use Rattle.machine_terms.specs.declared.value.Value.TheVariants as value
use Rattle.machine_terms.specs.Contents.{closed, no_contents, with_root}
use Rattle.machine_terms.specs.Makes.{make_root, region_with}
use Rattle.machine_terms.specs.Opening.{needs_on, requirements_on}
use Rattle.machine_terms.specs.Orders.{begun, fetch_part, give_all}
use Rattle.machine_terms.specs.Parts.{found, find, missing, set_part}
use Rattle.machine_terms.specs.Pointers.{written}
use Rattle.memory_laws.specs.Memory.{memory_of, Holds}
use Rattle.memory_laws.specs.Places.{numbers}
use Rattle.memory_laws.specs.Seen.{seen}
use Rattle.memory_laws.specs.Touches.{IsCovered}

-- one field space, of a narrow and a wide field
abbrev pub kinds : List FieldKind
kinds = Int32 ∷ Int64 ∷ []

abbrev pub code : Code
code = record {
  tasks = [];
  spaces = record {
    name = [];
    fields = record { name = []; kind = Int32 } ∷ record { name = []; kind = Int64 } ∷ [];
  } ∷ [];
  start = 0;
}

abbrev pub frame : Frame
frame = record {
  task = 0;
  pc = 0;
  slots = [];
  stack = [];
  turns = 9;
  depth = 1;
  needs = record { items = [] };
  own = [];
  children = 0;
  later = None;
}

-- ---- two roots, with a number between theirs

-- The first task makes a root of four points; a child makes another, which is closed behind it; then
-- the first task makes one of three points.
abbrev pub first : Instance
first = make_root code 4 0 (begun frame [] no_contents)

abbrev pub between : Contents
between = with_root (new_root 0 1 kinds) first.contents

abbrev pub second : Instance
second = make_root code 3 0 (record first { contents = closed (record { 0 = 1 } ∷ []) between })

-- it writes 3 at point 2 of that root
abbrev pub wanted : Instance
wanted = fetch_part code 2 0 second

abbrev pub caller : Instance
caller = record wanted { parts = set_part wanted.parts 2 0 2 (pos 3) }

-- ---- a child that writes one point and reduces another

abbrev pub declared : List NeedCode
declared = record { param = 0; field = 0; mode = mode.Write }
    ∷ record { param = 1; field = 0; mode = mode.Reduce Sum } ∷ []

abbrev pub args : List Value
args = value.Region (region_with 2 (0 ∷ 1 ∷ [])) ∷ value.Region (region_with 2 (2 ∷ [])) ∷ []

abbrev pub needs : List Requirement
needs = record { root = 2; points = 0 ∷ 1 ∷ []; field = 0; mode = mode.Write }
    ∷ record { root = 2; points = 2 ∷ []; field = 0; mode = mode.Reduce Sum } ∷ []

abbrev pub child : Instance
child = begun (record frame { needs = record { items = needs_on declared args } }) needs (give_all caller).contents

abbrev pub fetched : Instance
fetched = fetch_part code 2 0 child

-- 7 is written at point 1, and 5 is added at point 2
abbrev pub writing : Instance
writing = record fetched { parts = set_part fetched.parts 2 0 1 (pos 7) }

abbrev pub adding : Instance
adding = record writing { parts = set_part writing.parts 2 0 2 (pos 5) }

-- ---- the store beside it

abbrev pub made : Store
made = new_root 0 4 kinds ∷ new_root 0 3 kinds ∷ []

abbrev pub before : Store
before = write_at made 1 0 2 (pos 3)

abbrev pub after : Store
after = write_at (write_at before 1 0 1 (pos 7)) 1 0 2 (pos 8)

-- ---- what holds

pub record ExampleHolds : Type 0 where
  pub numbers_are : numbers second.contents ≡ 0 ∷ 2 ∷ []
  pub required : requirements_on code (give_all caller).contents declared args ≡ Some needs
  pub covers_write : IsCovered child.contents child.needs
      (record { root = 1; field = 0; point = 1; access = mode.Write })
  pub covers_reduction : IsCovered child.contents child.needs
      (record { root = 1; field = 0; point = 2; access = mode.Reduce Sum })
  pub is_missing : find child.frame.needs.items child.parts 2 0 1 ≡ missing
  pub writes : find fetched.frame.needs.items fetched.parts 2 0 1
      ≡ found Int32 (record { mode = mode.Write; value = pos 0 })
  pub written_is : written mode.Write mode.Write W32 (pos 0) (pos 7) ≡ Some (pos 7)
  pub reduces : find writing.frame.needs.items writing.parts 2 0 2
      ≡ found Int32 (record { mode = mode.Reduce Sum; value = pos 0 })
  pub reduced_is : written (mode.Reduce Sum) (mode.Reduce Sum) W32 (pos 0) (pos 5) ≡ Some (pos 5)
  pub sees_written : seen adding.contents adding.parts 2 0 1 ≡ pos 7
  pub sees_reduced : seen adding.contents adding.parts 2 0 2 ≡ pos 8
  pub given : map (λ (r : Root). r.image) (give_all adding).contents.roots ≡ after
  pub begins : Holds code before (memory_of child)
  pub holds : Holds code after (memory_of adding)
