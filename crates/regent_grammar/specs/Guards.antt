-- When a rule surely takes a terminal, and when it comes to a named production before it has taken
-- one.
-- Reading ends by this: each further time of a `many`, and each production inside itself, is behind
-- a terminal.
use Rattle.std.specs.Prelude.{Bool, true, false, ◌&&◌, ◌||◌, not}
use Rattle.regent_grammar.specs.Rules.{Sort, Nonterminal, an_expression, a_block, Rule, gives, here, one, both, when◌then◌else◌, many, use'}

-- an expression takes a terminal, a block may be empty
abbrev pub takes_named : Nonterminal → Bool
takes_named an_expression = true
takes_named a_block = false

-- each text that the rule spells has a terminal
unfoldable pub takes : {s : Sort} → Rule s → Bool
takes (gives x) = false
takes here = false
takes (one table) = true
takes (both f r q) = takes r || takes q
takes (when test then r else q) = takes r && takes q
takes (many test r) = false
takes (use' n) = takes_named n

-- the rule may come to a named production at once
unfoldable pub leads : {s : Sort} → Rule s → Bool
leads (gives x) = false
leads here = false
leads (one table) = false
leads (both f r q) = leads r || (not (takes r) && leads q)
leads (when test then r else q) = leads r || leads q
leads (many test r) = leads r
leads (use' n) = true

-- what is repeated takes a terminal each time
unfoldable pub is_sound : {s : Sort} → Rule s → Bool
is_sound (gives x) = true
is_sound here = true
is_sound (one table) = true
is_sound (both f r q) = is_sound r && is_sound q
is_sound (when test then r else q) = is_sound r && is_sound q
is_sound (many test r) = takes r && is_sound r
is_sound (use' n) = true
