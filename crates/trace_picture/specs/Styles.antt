-- The parts of a picture's text that are the same in each: colours for light and dark pages, the shapes of marks, and the legend.
use Rattle.std.specs.Prelude.{ℕ, List, ◌++◌, codes}

-- the colours on a light page, and the style of texts
unfoldable pub light_text : List ℕ
light_text =
    codes "<style>\n"
    ++ codes "text { font-family: system-ui, sans-serif; fill: #1f2328 }\n"
    ++ codes "svg svg { overflow: visible }\n"
    ++ codes ".box { overflow: hidden }\n"
    ++ codes ".box text { text-anchor: middle; dominant-baseline: central }\n"
    ++ codes ".side { text-anchor: end; dominant-baseline: central }\n"
    ++ codes ".tick { text-anchor: middle }\n"
    ++ codes ".page { fill: #ffffff }\n"
    ++ codes ".lane { fill: #eef1f4 }\n"
    ++ codes ".grid { stroke: #d1d9e0 }\n"
    ++ codes ".given { fill: #b6d7ff; stroke: #0550ae }\n"
    ++ codes ".back { fill: #ffd8b5; stroke: #bc4c00 }\n"
    ++ codes ".unended { fill: none; stroke: #0550ae; stroke-dasharray: 3 2 }\n"
    ++ codes "#copy { fill: #1a7f37 }\n"
    ++ codes "#back { stroke: #bc4c00; stroke-width: 2 }\n"
    ++ codes ".line { fill: none; stroke: #8250df; stroke-width: 2 }\n"

-- the colours on a dark page
unfoldable pub dark_text : List ℕ
dark_text =
    codes "@media (prefers-color-scheme: dark) {\n"
    ++ codes "text { fill: #f0f6fc }\n"
    ++ codes ".page { fill: #0d1117 }\n"
    ++ codes ".lane { fill: #21262d }\n"
    ++ codes ".grid { stroke: #3d444d }\n"
    ++ codes ".given { fill: #1b3f72; stroke: #79c0ff }\n"
    ++ codes ".back { fill: #6b3410; stroke: #ffa657 }\n"
    ++ codes ".unended { stroke: #79c0ff }\n"
    ++ codes "#copy { fill: #56d364 }\n"
    ++ codes "#back { stroke: #ffa657 }\n"
    ++ codes ".line { stroke: #d2a8ff }\n"
    ++ codes "}\n"
    ++ codes "</style>\n"

-- the shapes of marks, the page and the legend; the last line opens the element of the picture
-- itself
unfoldable pub legend_text : List ℕ
legend_text =
    codes "<defs>\n"
    ++ codes "<path id=\"copy\" d=\"M5 21l4 4l-4 4l-4-4z\"/>\n"
    ++ codes "<path id=\"back\" d=\"M2 22l6 6m0-6l-6 6\"/>\n"
    ++ codes "</defs>\n"
    ++ codes "<rect class=\"page\" width=\"100%\" height=\"100%\"/>\n"
    ++ codes "<svg x=\"8em\" y=\"1em\">\n"
    ++ codes "<rect class=\"given\" width=\"3em\" height=\"1.2em\"/><text x=\"3.5em\" y=\"1em\">claim to give</text>\n"
    ++ codes "<rect class=\"back\" x=\"12em\" width=\"3em\" height=\"1.2em\"/><text x=\"15.5em\" y=\"1em\">claim to back</text>\n"
    ++ codes "<rect class=\"unended\" x=\"24em\" width=\"3em\" height=\"1.2em\"/><text x=\"27.5em\" y=\"1em\">no end</text>\n"
    ++ codes "<use href=\"#copy\" x=\"34em\" y=\"-1.9em\"/><text x=\"35.5em\" y=\"1em\">copy</text>\n"
    ++ codes "<use href=\"#back\" x=\"40em\" y=\"-1.9em\"/><text x=\"41.5em\" y=\"1em\">back</text>\n"
    ++ codes "<path class=\"line\" d=\"M460 6h20\"/><text x=\"48.5em\" y=\"1em\">in progress</text>\n"
    ++ codes "</svg>\n"
    ++ codes "<svg x=\"8em\" y=\"6em\">\n"
