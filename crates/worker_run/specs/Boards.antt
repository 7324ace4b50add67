-- What those speak of that use the board which workers leave: a board as contracts see it.
pub use Rattle.task_hub.specs.Boards.{Standing}
