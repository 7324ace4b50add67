-- Boards over the needs of Regent.
use Rattle.board_laws.proofs.Apart.{in_progress_apart}
use Rattle.board_laws.proofs.Backs.{taken_back}
use Rattle.board_laws.proofs.Held.{filled_from_map, held_apart}
use Rattle.board_laws.proofs.Outcomes.{finished_as_ordered}
use Rattle.board_laws.proofs.Ready.{some_ready}
use Rattle.regent_boards.specs.Laws.{RegentBoards}
use Rattle.regent_boards.specs.RegentMachine.{name_of, regent_ground, regent_machine}
use Rattle.regent_boards.proofs.NeedLaws.{regent_laws}

pub regent_boards : RegentBoards
regent_boards spaces segment keeps =
    let laws = regent_laws spaces segment keeps in
    let G = regent_ground spaces in
    let M = regent_machine spaces name_of segment in
    record {
      finished = finished_as_ordered G M laws;
      in_progress = in_progress_apart G M laws;
      ready = some_ready G M laws;
      held = held_apart G M laws;
      filled = filled_from_map G M laws;
      taken_back = taken_back G M laws;
    }
