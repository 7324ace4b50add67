-- The output of a check and a dump, and the messages for the error output. Each ends with a line
-- feed (10).
use Rattle.std.specs.Prelude.{ℕ, Bool, true, false, List, [], ◌∷◌, ◌++◌, codes, map}
use Rattle.std.specs.Fmt.{decimal}
use Rattle.code_rules.specs.Programs.{space_code}
use Rattle.regent_tree.specs.declared.outcome.RootImage.{RootImage}
use Rattle.regent_tree.specs.StaticTypes.{spaces_of}
use Rattle.regent_tree.specs.Syntax.{Tree}
use Rattle.run_report.specs.Dumps.{roots_from}
use Rattle.task_code.specs.declared.code.SpaceCode.{SpaceCode}
use Rattle.regent_run.specs.declared.limit.Limit.{Limit}
use Rattle.regent_run.specs.declared.limit.Limit.TheVariants.{Text, Name, Number, Nesting, Tasks, Spaces, Fields, Parameters, Regions}

abbrev pub accepted_text : List ℕ
accepted_text = codes "accepted" ++ 10 ∷ []

-- the dump of roots by field spaces, each with its fields, if it is asked for
abbrev pub dump_by : Bool → List SpaceCode → List RootImage → List ℕ
dump_by true spaces roots = roots_from 0 spaces roots
dump_by false spaces roots = []

-- by those of a program
abbrev pub dump_text : Bool → Tree → List RootImage → List ℕ
dump_text dumps tree roots = dump_by dumps (map space_code (spaces_of tree)) roots

abbrev pub usage_message : List ℕ
usage_message = codes "error: usage" ++ 10 ∷ []

abbrev pub read_message : List ℕ
read_message = codes "error: read failed" ++ 10 ∷ []

abbrev pub memory_message : List ℕ
memory_message = codes "error: out of memory" ++ 10 ∷ []

abbrev pub syntax_message : ℕ → List ℕ
syntax_message line = codes "error: syntax at line " ++ decimal line ++ 10 ∷ []

abbrev pub breach_message : ℕ → ℕ → List ℕ
breach_message rule line =
    codes "error: rule " ++ decimal rule ++ codes " at line " ++ decimal line ++ 10 ∷ []

-- the kind and the number of each limit
abbrev pub limit_named : Limit → List ℕ
limit_named Text = codes "text 1048576"
limit_named Name = codes "name 64"
limit_named Number = codes "number 9223372036854775807"
limit_named Nesting = codes "nesting 64"
limit_named Tasks = codes "tasks 256"
limit_named Spaces = codes "spaces 256"
limit_named Fields = codes "fields 16"
limit_named Parameters = codes "parameters 16"
limit_named Regions = codes "regions 4"

abbrev pub limit_message : Limit → List ℕ
limit_message l = codes "error: limit " ++ limit_named l ++ 10 ∷ []

abbrev pub inputs_message : List ℕ
inputs_message = codes "error: inputs" ++ 10 ∷ []
