-- The SVG text of a picture. Lengths are in em, of 10 pixels each: an entry of the journal is 1 em wide, a lane 3 em high.
use Rattle.std.specs.Prelude.{◌≡◌, ◌<◌, ◌+◌, ◌-◌, ◌*◌, ◌/◌, ◌^◌, ◌++◌, ℕ, zero, suc, List, [], ◌∷◌, codes, max, min}
use Rattle.std.specs.Fmt.{decimal}
use Rattle.trace_picture.specs.declared.boxes.Ending.{Ending}
use Rattle.trace_picture.specs.declared.boxes.Ending.TheVariants.{Given, TakenBack, Unended}
use Rattle.trace_picture.specs.declared.marks.MarkKind.{MarkKind}
use Rattle.trace_picture.specs.declared.marks.MarkKind.TheVariants as mark
use Rattle.trace_picture.specs.Pictures.{Box, Mark, Picture, Step, falls, rises, stays}
use Rattle.trace_picture.specs.Styles.{dark_text, legend_text, light_text}

-- ---- parts of elements

-- all pieces in order
abbrev pub joined : List (List ℕ) → List ℕ
joined [] = []
joined (piece ∷ pieces) = piece ++ joined pieces

-- the start of a title
unfoldable pub title_text : ℕ → ℕ → List ℕ
title_text op seat = joined (codes "<title>operation " ∷ decimal op ∷ codes " by seat " ∷ decimal seat ∷ codes ": " ∷ [])

-- ---- boxes

-- the segment ends at this place
abbrev pub IsAt : ℕ → Ending → Type 0
IsAt place (Given at) = at ≡ place
IsAt place (TakenBack at) = at ≡ place
IsAt place Unended = ⊥

-- the segment ends in a journal with this many entries, or not at all
abbrev pub IsWithin : ℕ → Ending → Type 0
IsWithin entries (Given place) = place < entries
IsWithin entries (TakenBack place) = place < entries
IsWithin entries Unended = Unit {0}

-- the place after a segment; one that doesn't end reaches the end of the journal
abbrev pub place_behind : ℕ → Ending → ℕ
place_behind entries (Given place) = place + 1
place_behind entries (TakenBack place) = place + 1
place_behind entries Unended = entries

abbrev pub ending_class : Ending → List ℕ
ending_class (Given place) = codes "given"
ending_class (TakenBack place) = codes "back"
ending_class Unended = codes "unended"

-- lines are counted from 1
abbrev pub ending_words : Ending → List ℕ
ending_words (Given place) = joined (codes ", give on line " ∷ decimal (place + 1) ∷ [])
ending_words (TakenBack place) = joined (codes ", back on line " ∷ decimal (place + 1) ∷ [])
ending_words Unended = codes ", without an end"

-- the place and the size of a box: in its seat's lane, from its first entry on
unfoldable pub frame_text : ℕ → ℕ → ℕ → List ℕ
frame_text seat begin width = joined (
    codes "<svg class=\"box\" x=\"" ∷ decimal begin ∷ codes "em\" y=\"" ∷ decimal (3 * seat)
    ∷ codes "em\" width=\"" ∷ decimal width ∷ codes "em\" height=\"2em\">" ∷ [])

-- its visible part: its colour, and the operation's number
unfoldable pub face_text : ℕ → Ending → List ℕ
face_text op ending = joined (
    codes "<rect class=\"" ∷ ending_class ending
    ∷ codes "\" width=\"100%\" height=\"100%\"/><text x=\"50%\" y=\"50%\">" ∷ decimal op ∷ codes "</text></svg>\n" ∷ [])

-- the lines on which it begins and ends
abbrev pub span_text : ℕ → Ending → List ℕ
span_text begin ending = joined (
    codes "claim on line " ∷ decimal (begin + 1) ∷ ending_words ending ∷ codes "</title>" ∷ [])

-- a box goes from its claim to its end; its title says what it is, on which lines
abbrev pub box_text : ℕ → Box → List ℕ
box_text entries b = joined (
    frame_text b.seat b.begin (place_behind entries b.ending - b.begin) ∷ title_text b.op b.seat
    ∷ span_text b.begin b.ending ∷ face_text b.op b.ending ∷ [])

abbrev pub boxes_text : ℕ → List Box → List ℕ
boxes_text entries [] = []
boxes_text entries (b ∷ bs) = box_text entries b ++ boxes_text entries bs

-- ---- marks

abbrev pub mark_word : MarkKind → List ℕ
mark_word mark.Copy = codes "copy"
mark_word mark.Back = codes "back"

-- a mark's shape, in its seat's lane at its place
unfoldable pub shape_text : Mark → List ℕ
shape_text m = joined (
    codes "<use href=\"#" ∷ mark_word m.kind ∷ codes "\" x=\"" ∷ decimal m.place
    ∷ codes "em\" y=\"" ∷ decimal (3 * m.seat) ∷ codes "em\">" ∷ [])

-- its meaning, and its line
unfoldable pub note_text : MarkKind → ℕ → List ℕ
note_text kind place = joined (mark_word kind ∷ codes " on line " ∷ decimal (place + 1) ∷ codes "</title></use>\n" ∷ [])

abbrev pub mark_text : Mark → List ℕ
mark_text m = joined (shape_text m ∷ title_text m.op m.seat ∷ note_text m.kind m.place ∷ [])

abbrev pub marks_text : List Mark → List ℕ
marks_text [] = []
marks_text (m ∷ ms) = mark_text m ++ marks_text ms

-- ---- the line of the number in progress

-- one place to the right, after 2 em up or down if the number changes
abbrev pub step_text : Step → List ℕ
step_text rises = codes "v-20h10"
step_text stays = codes "h10"
step_text falls = codes "v20h10"

abbrev pub steps_text : List Step → List ℕ
steps_text [] = []
steps_text (s ∷ ss) = step_text s ++ steps_text ss

-- the position of the number 0: below the lanes, and one number for each lane
abbrev pub zero_line : ℕ → ℕ
zero_line lanes = 5 * lanes + 1

-- the start of the line
unfoldable pub start_text : ℕ → List ℕ
start_text lanes = joined (
    codes "<svg y=\"" ∷ decimal (zero_line lanes) ∷ codes "em\"><path class=\"line\" d=\"M0 0" ∷ [])

abbrev pub line_text : ℕ → List Step → List ℕ
line_text lanes steps = joined (start_text lanes ∷ steps_text steps ∷ codes "\"/></svg>\n" ∷ [])

-- ---- lanes, and the background

-- the lane of a seat
unfoldable pub lane_text : ℕ → ℕ → List ℕ
lane_text entries seat = joined (
    codes "<rect class=\"lane\" y=\"" ∷ decimal (3 * seat) ∷ codes "em\" width=\"" ∷ decimal entries
    ∷ codes "em\" height=\"2em\"/><text class=\"side\" x=\"-1em\" y=\"" ∷ decimal (3 * seat + 1)
    ∷ codes "em\">seat " ∷ decimal seat ∷ codes "</text>\n" ∷ [])

-- the line for a number in progress
unfoldable pub level_text : ℕ → ℕ → ℕ → List ℕ
level_text entries lanes number = joined (
    codes "<svg y=\"" ∷ decimal (zero_line lanes - 2 * number) ∷ codes "em\"><line class=\"grid\" x2=\""
    ∷ decimal entries ∷ codes "em\"/><text class=\"side\" x=\"-1em\">" ∷ decimal number
    ∷ codes "</text></svg>\n" ∷ [])

-- for each seat below the first number its lane, and the line for one more
abbrev pub lanes_text : ℕ → ℕ → ℕ → List ℕ
lanes_text entries lanes zero = []
lanes_text entries lanes (suc seat) = lanes_text entries lanes seat
    ++ lane_text entries seat ++ level_text entries lanes (seat + 1)

-- the line after each tenth entry
unfoldable pub tick_text : ℕ → ℕ → List ℕ
tick_text lanes tens = joined (
    codes "<svg x=\"" ∷ decimal (10 * tens) ∷ codes "em\"><line class=\"grid\" y1=\"-1em\" y2=\""
    ∷ decimal (zero_line lanes) ∷ codes "em\"/><text class=\"tick\" y=\"-1.5em\">" ∷ decimal (10 * tens)
    ∷ codes "</text></svg>\n" ∷ [])

abbrev pub ticks_text : ℕ → ℕ → List ℕ
ticks_text lanes zero = []
ticks_text lanes (suc tens) = ticks_text lanes tens ++ tick_text lanes (tens + 1)

-- ---- the whole

-- wide enough for the legend; it saturates at 64 bits
abbrev pub width_of : ℕ → ℕ
width_of entries = min (max entries 56 + 10) (2 ^ 64 - 1)

abbrev pub height_of : ℕ → ℕ
height_of lanes = 5 * lanes + 9

-- the start of a picture of this width and height
unfoldable pub head_text : ℕ → ℕ → List ℕ
head_text width height = joined (
    codes "<svg xmlns=\"http://www.w3.org/2000/svg\" width=\"" ∷ decimal width ∷ codes "0\" height=\"" ∷ decimal height
    ∷ codes "0\" viewBox=\"0 0 " ∷ decimal width ∷ codes "0 " ∷ decimal height ∷ codes "0\" font-size=\"10\">\n" ∷ [])

-- the background of boxes and line
abbrev pub ground_text : ℕ → ℕ → List ℕ
ground_text entries lanes = joined (
    light_text ∷ dark_text ∷ legend_text ∷ lanes_text entries lanes lanes ∷ level_text entries lanes 0
    ∷ ticks_text lanes (entries / 10) ∷ [])

abbrev pub foot_text : List ℕ
foot_text = codes "</svg>\n</svg>\n"

abbrev pub picture_text : Picture → List ℕ
picture_text p = joined (
    head_text (width_of p.entries) (height_of p.lanes) ∷ ground_text p.entries p.lanes ∷ boxes_text p.entries p.boxes
    ∷ marks_text p.marks ∷ line_text p.lanes p.steps ∷ foot_text ∷ [])
