use Rattle.trace_picture.proofs.Counts.{boxes_are_in_order, each_box_has_a_lane, each_claim_has_one_box, each_marked_entry_has_one_mark, line_tells_progress}
use Rattle.trace_picture.proofs.Segments.{boxes_tell_segments, marks_tell_entries}
use Rattle.trace_picture.proofs.laws.pictures_tell_journals.Goals as goal

pub returns-clause-one_box : goal.returns-clause-one_box
returns-clause-one_box c = each_claim_has_one_box

pub returns-clause-order : goal.returns-clause-order
returns-clause-order c = boxes_are_in_order

pub returns-clause-segments : goal.returns-clause-segments
returns-clause-segments c = boxes_tell_segments

pub returns-clause-one_mark : goal.returns-clause-one_mark
returns-clause-one_mark c = each_marked_entry_has_one_mark

pub returns-clause-marks : goal.returns-clause-marks
returns-clause-marks c = marks_tell_entries

pub returns-clause-lanes : goal.returns-clause-lanes
returns-clause-lanes c = each_box_has_a_lane

pub returns-clause-line : goal.returns-clause-line
returns-clause-line c = line_tells_progress
