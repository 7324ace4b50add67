-- What those speak of that let workers share a hub: a board as contracts see it, and a seat of which no call was made.
pub use Rattle.task_core.specs.Boards.{Standing}
pub use Rattle.task_core.specs.Desks.{new_seat}
