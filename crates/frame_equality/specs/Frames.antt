-- The numbers of a frame.
use Rattle.std.specs.Prelude.{ℕ}
use Rattle.machine_terms.specs.declared.frame.Frame.{Frame}

-- where it stands, what is left to it and how much it has called
pub record Numbers : Type 0 where
  pub task : ℕ
  pub pc : ℕ
  pub turns : ℕ
  pub depth : ℕ
  pub children : ℕ

abbrev pub numbers_of : Frame → Numbers
numbers_of f = record { task = f.task; pc = f.pc; turns = f.turns; depth = f.depth; children = f.children }
