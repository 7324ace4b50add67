-- Roots by numbers, renamed to roots by names.
use Rattle.std.specs.Prelude.{◌≡◌, map, ℕ}
use Rattle.region_tree.specs.Requirements.{Requirement}
use Rattle.board_rules.specs.Renaming.{Renames}
use Rattle.regent_boards.specs.RegentMachine.{base, regent_roots, root_of, size_of, space_of, who_of}
use Rattle.regent_boards.specs.Frames.{Frame, Made, Region, Spaces, Value, a_number, a_partition, a_region, a_space, new_partition, new_root, pending}

module _ (name : ℕ → ℕ) where
  abbrev pub IsOneToOne : Type 0
  IsOneToOne = (a b : ℕ) → name a ≡ name b → a ≡ b

  abbrev pub root_to : ℕ → ℕ
  root_to r = root_of (space_of r) (size_of r) (name (who_of r))

  abbrev pub requirement_to : Requirement → Requirement
  requirement_to r = record { root = root_to r.root; points = r.points; field = r.field; mode = r.mode }

  abbrev pub region_to : Region → Region
  region_to r = record { root = root_to r.root; points = r.points }

  abbrev pub renamed_value : Value → Value
  renamed_value (a_number z) = a_number z
  renamed_value (a_space n) = a_space n
  renamed_value (a_region r) = a_region (region_to r)
  renamed_value (a_partition q) = a_partition (record { root = root_to q.root; disjoint = q.disjoint; children = map region_to q.children })
  renamed_value (pending c) = pending c

  abbrev pub renamed_frame : Frame → Frame
  renamed_frame f = record {
    task = f.task;
    pc = f.pc;
    slots = map renamed_value f.slots;
    stack = map renamed_value f.stack;
    turns = f.turns;
    depth = f.depth;
    needs = map requirement_to f.needs;
    own = map root_to f.own;
    makings = f.makings;
    children = f.children;
    later = f.later;
  }

  abbrev pub renamed_made : Made → Made
  renamed_made (new_root space size) = new_root space size
  renamed_made (new_partition r sets disjoint) = new_partition (region_to r) sets disjoint

  abbrev pub renaming : (spaces : Spaces) → Renames base (regent_roots spaces) (regent_roots spaces)
  renaming spaces = record {
    loc = λ l. record { root = root_to l.root; field = l.field; point = l.point };
    needs = map requirement_to;
    frame = renamed_frame;
    key = λ k. record { root = root_to k.root; field = k.field };
    made = renamed_made;
  }
