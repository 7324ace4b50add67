-- An instruction that is put past the end of a body changes nothing.
use Rattle.std.proofs.Common.{◌≡◌, ◌≤◌, ℕ, List, length, slice_set}
use Rattle.std.proofs.lemmas.List.{set_past}
use Rattle.task_code.specs.declared.code.Line.{Line}

pub put_past : (body : List Line) (place : ℕ) (l : Line) → length body ≤ place → slice_set body place l ≡ body
put_past body place l h = set_past body place l h
