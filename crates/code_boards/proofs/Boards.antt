-- Boards over the segments of a code.
use Rattle.regent_boards.proofs.Boards.{regent_boards}
use Rattle.regent_boards.proofs.ByNumber.{regent_by_number, regent_settled}
use Rattle.code_boards.specs.Laws.{BoardsFinishInOrder, BoardsKeepOrder, BoardsSettleInOrder}
use Rattle.code_boards.specs.Views.{board_segment, spaces_of}
use Rattle.code_boards.proofs.Views.{board_keeps, board_runs_renamed}

pub boards_keep_order : BoardsKeepOrder
boards_keep_order code turns = regent_boards (spaces_of code) (board_segment code turns) (board_keeps code turns)

pub boards_finish_in_order : BoardsFinishInOrder
boards_finish_in_order code turns = regent_by_number (spaces_of code) (board_segment code turns) (board_keeps code turns) (board_runs_renamed code turns)

pub boards_settle_in_order : BoardsSettleInOrder
boards_settle_in_order code turns = regent_settled (spaces_of code) (board_segment code turns) (board_keeps code turns) (board_runs_renamed code turns)
