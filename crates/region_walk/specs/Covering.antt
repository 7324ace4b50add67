-- What the needs of an operation cover of what is kept.
use Rattle.std.specs.Prelude.{◌==◌, ◌&&◌, Bool, List, map, nat_lt, ℕ}
use Rattle.region_finder.specs.Listings.{is_covered, uncovered}
use Rattle.region_tree.specs.declared.needs.Need.{Need}
use Rattle.region_walk.specs.Users.{ListedNeed}
use Rattle.region_walk.specs.declared.entries.Kept.{Kept}

-- an entry without what is covered of it
abbrev pub uncovered_entry : ℕ → ℕ → List Need → Kept → Kept
uncovered_entry context op needs k = record { entry = uncovered context op needs k.entry; ended = k.ended }

-- entries without it
abbrev pub uncovered_entries : ℕ → ℕ → List Need → List Kept → List Kept
uncovered_entries context op needs ks = map (uncovered_entry context op needs) ks

-- a user of a smaller operation of the context is covered
abbrev pub is_dominated : ℕ → ℕ → List Need → ListedNeed → Bool
is_dominated context op needs u = ((u.context.0 == context) && nat_lt u.op.0 op) && is_covered needs u.placed
