-- Fields of roots that are lent. A part over all points of its root holds the list of their numbers
-- itself, and the list that is kept for the field is empty until the part goes back. So what is kept is
-- what the roots hold with the lists of all lent fields taken out, and of a lent field the numbers in
-- the part count, as far as they go back at all.
use Rattle.std.specs.Prelude.{◌≡◌, ◌<◌, ℕ, List, [], ◌∷◌, ◌++◌, None, Option, Some, false, length, map}
use Rattle.lane_kernels.specs.declared.numbers.FieldKind.{FieldKind}
use Rattle.lane_kernels.specs.declared.numbers.Mode.{Mode}
use Rattle.lane_kernels.specs.declared.numbers.Mode.TheVariants.{Write}
use Rattle.plain_values.specs.Points.{points}
use Rattle.machine_terms.specs.declared.order.Contents.{Contents}
use Rattle.machine_terms.specs.declared.order.Ended.{Ended}
use Rattle.machine_terms.specs.declared.order.Instance.{Instance}
use Rattle.machine_terms.specs.declared.order.Resumed.{Resumed}
use Rattle.machine_terms.specs.declared.order.Resumed.TheVariants as resumed
use Rattle.plain_store.specs.declared.holder.Holder.{Holder}
use Rattle.plain_store.specs.declared.loan.Loan.{Loan}
use Rattle.plain_store.specs.Columns.{IsThere, column_of, piece_on, put_column}
use Rattle.plain_store.specs.Keys.{is_lent}

-- a field can be lent: its root is there once, and it has as many numbers as the loan says
pub record MayBeLent (contents : Contents) (l : Loan) : Type 0 where
  pub there : IsThere contents l.root.0 l.field
  pub count : length (column_of contents l.root.0 l.field) ≡ l.count
  pub made : l.root.0 < contents.made

-- one field more than others is lent, once
pub record IsLentBefore (contents : Contents) (l : Loan) (ls : List Loan) (Others : Type 0) : Type 0 where
  pub first : MayBeLent contents l
  pub once : is_lent ls l.root.0 l.field ≡ false
  pub others : Others

-- what is kept of some contents while these fields are lent
abbrev pub AreLent : List Loan → Contents → Contents → Type 0
AreLent [] contents kept = kept ≡ contents
AreLent (l ∷ ls) contents kept =
    IsLentBefore contents l ls (AreLent ls (put_column l.root.0 l.field [] contents) kept)

-- ---- instances that hold parts

-- the instance, where the roots hold this
abbrev pub whole : Contents → Holder → Instance
whole contents h = record h.instance { contents = contents }

abbrev pub Stands : Contents → Holder → Type 0
Stands contents h = AreLent h.loans contents h.instance.contents

-- with a part over all points of its root, for which the field is lent
abbrev pub lent_out : FieldKind → ℕ → ℕ → Holder → Holder
lent_out kind root field h = let column = column_of h.instance.contents root field in record {
  instance = record h.instance {
    parts = h.instance.parts ++ record {
      root = record { 0 = root };
      field = field;
      kind = kind;
      pieces = record { points = points (length column); mode = Write; values = column } ∷ [];
    } ∷ [];
    contents = put_column root field [] h.instance.contents;
  };
  loans = h.loans ++ record { root = record { 0 = root }; field = field; count = length column } ∷ [];
}

-- with a part of pieces that are copied out
abbrev pub copied_out : FieldKind → ℕ → ℕ → List (List ℕ × Mode) → Holder → Holder
copied_out kind root field found h = record h {
  instance = record h.instance {
    parts = h.instance.parts ++ record {
      root = record { 0 = root };
      field = field;
      kind = kind;
      pieces = map (λ (q : List ℕ × Mode). piece_on kind (column_of h.instance.contents root field) q.1 q.0) found;
    } ∷ [];
  };
}

-- what follows for a holder is what follows for its instance
pub record GoesOnAs (h : Holder) (r : Resumed) : Type 0 where
  pub contents : Contents
  pub instance : r ≡ resumed.GoesOn (whole contents h)
  pub stands : Stands contents h

-- a holder that goes on unless its instance is over
abbrev pub Follows : Option Ended → Holder → Resumed → Type 0
Follows None h r = GoesOnAs h r
Follows (Some e) h r = r ≡ resumed.IsOver e
