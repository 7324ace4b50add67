-- The text of a call: what the next begin of the source leaves, or the requested sample.
use Rattle.std.specs.Prelude.{◌≡◌, ℕ, List, Option, Some, None, IfSome}
use Rattle.std.specs.Option.{option_map}
use Rattle.run_io.specs.Source.{next_left}
use Rattle.sample_maker.specs.Texts.{sample_text}
use Rattle.regent_run.specs.Words.{Origin, Request, file, sample}

-- The text of an origin, if the source reports what each later begin leaves. A sample is known in
-- any case.
abbrev pub text_from : Origin → Option (List (List ℕ)) → Option (List ℕ)
text_from (file name) later = option_map next_left later
text_from (sample colours) later = Some (sample_text colours)

-- the requested text
abbrev pub text_asked : Option Request → Option (List (List ℕ)) → Option (List ℕ)
text_asked None later = None
text_asked (Some named) later = text_from named.origin later

-- This holds for a text that is read, which is the reported one, if there is one.
abbrev pub OfOneText : Option (List ℕ) → (List ℕ → Type 0) → Type 0
OfOneText told P = (text : List ℕ) × IfSome told (λ known. text ≡ known) × P text

-- what the begin for an origin leaves; a sample needs no begin
abbrev pub begun_from : Origin → Option (List (List ℕ)) → Option (List ℕ)
begun_from (file name) later = option_map next_left later
begun_from (sample colours) later = None

abbrev pub begun_for : Option Request → Option (List (List ℕ)) → Option (List ℕ)
begun_for None later = None
begun_for (Some named) later = begun_from named.origin later
