-- What follows from what is known of regions: that one lies within another, and that two share no
-- point. A left fold over the known facts keeps beside each fact `a <= b` all that b lies within.
use Rattle.std.specs.Prelude.{ℕ, ℤ, List, [], ◌∷◌, ◌++◌, map, fold, Bool, true, false, not, ◌&&◌, ◌||◌, ◌==◌, nat_lt, cond}
use Rattle.std.specs.List.{list_any}
use Rattle.std.specs.Ordering.{int_eq}
use Rattle.regent_tree.specs.declared.facts.Colour.{Colour}
use Rattle.regent_tree.specs.declared.facts.Colour.TheVariants.{Constant, Loop, Unknown}
use Rattle.regent_tree.specs.declared.facts.Term.{Term}
use Rattle.regent_tree.specs.declared.facts.Term.TheVariants.{Name, Child}
use Rattle.regent_tree.specs.declared.facts.Known.{Known}
use Rattle.regent_tree.specs.declared.facts.Known.TheVariants.{Within, Apart, PartOf, Made}

-- ---- terms as they are written

-- whether a colour is written as this number, as this loop variable, as anything else
abbrev pub is_constant : ℤ → Colour → Bool
is_constant i (Constant j) = int_eq i j
is_constant i _ = false

abbrev pub is_loop : ℕ → Colour → Bool
is_loop n (Loop m) = n == m
is_loop n _ = false

abbrev pub is_unknown : Colour → Bool
is_unknown Unknown = true
is_unknown _ = false

-- whether two colours are written alike
abbrev pub alike_colours : Colour → Colour → Bool
alike_colours (Constant i) d = is_constant i d
alike_colours (Loop n) d = is_loop n d
alike_colours Unknown d = is_unknown d

-- whether a term is this name, is a child of this partition, is this child of it
abbrev pub is_name : ℕ → Term → Bool
is_name a (Name b) = a == b
is_name a (Child q d) = false

abbrev pub is_child_of : ℕ → Term → Bool
is_child_of p (Name b) = false
is_child_of p (Child q d) = p == q

abbrev pub is_child : ℕ → Colour → Term → Bool
is_child p c (Name b) = false
is_child p c (Child q d) = (p == q) && alike_colours c d

-- whether two terms are written alike
abbrev pub alike : Term → Term → Bool
alike (Name a) t = is_name a t
alike (Child p c) t = is_child p c t

-- whether a term stands for one region: a child of an unknown colour is the same as nothing
abbrev pub is_certain : Term → Bool
is_certain (Name a) = true
is_certain (Child p c) = not (is_unknown c)

-- ---- `a <= b`

-- whether a fact says that a term lies within the fact's upper end: within the region b of
-- `a <= b`, or within the parent of a partition whose child the term is, of any colour
abbrev pub raises : Known → Term → Bool
raises (Within a b) t = alike a t
raises (Apart a b) t = false
raises (PartOf p r disjoint) t = is_child_of p t
raises (Made s) t = false

-- a fact, and all that its upper end lies within, the upper end included
abbrev pub Row : Type 0
Row = Known × List Term

-- terms, and those of a second list that are not among them
abbrev pub with_term : List Term → Term → List Term
with_term ts t = cond (list_any (alike t) ts) ts (ts ++ t ∷ [])

abbrev pub united : List Term → List Term → List Term
united ts more = fold with_term ts more

-- a term, and all that it lies within: what stands in the rows whose facts raise it
abbrev pub with_raised : Term → List Term → Row → List Term
with_raised t ts row = cond (raises row.0 t) (united ts row.1) ts

abbrev pub all_above : List Row → Term → List Term
all_above rows t = fold (with_raised t) (t ∷ []) rows

-- the upper end of a fact, and all that it lies within
abbrev pub above_end : List Row → Known → List Term
above_end rows (Within a b) = all_above rows b
above_end rows (Apart a b) = []
above_end rows (PartOf p r disjoint) = all_above rows (Name r)
above_end rows (Made s) = []

-- a row when a fact is added, and what is above that fact's upper end: if the new fact raises one
-- of the row's terms, then the row's upper end lies within all of that too
abbrev pub widened : Known → List Term → Row → Row
widened k more row = (row.0, cond (list_any (raises k) row.1) (united row.1 more) row.1)

abbrev pub with_row : List Row → Known → List Term → List Row
with_row rows k more = map (widened k more) rows ++ (k, more) ∷ []

abbrev pub with_fact : List Row → Known → List Row
with_fact rows k = with_row rows k (above_end rows k)

-- the rows of these facts
abbrev pub closed : List Known → List Row
closed facts = fold with_fact [] facts

-- whether a term passes a test, or one that it lies within does
abbrev pub raises_to : (Term → Bool) → Term → Row → Bool
raises_to test a row = raises row.0 a && list_any test row.1

abbrev pub any_above : List Row → (Term → Bool) → Term → Bool
any_above rows test a = test a || list_any (raises_to test a) rows

abbrev pub is_below : List Row → Term → Term → Bool
is_below rows a b = any_above rows (alike b) a

-- whether `a <= b` follows
abbrev pub is_subregion : List Known → Term → Term → Bool
is_subregion facts a b = is_certain b && is_below (closed facts) a b

-- ---- `a * b`

-- whether two colours are two different numbers
abbrev pub is_other_constant : ℤ → Colour → Bool
is_other_constant i (Constant j) = not (int_eq i j)
is_other_constant i _ = false

abbrev pub differ : Colour → Colour → Bool
differ (Constant i) d = is_other_constant i d
differ _ d = false

-- whether a term is a child of p whose colour differs from c
abbrev pub is_other_child : ℕ → Colour → Term → Bool
is_other_child p c (Name b) = false
is_other_child p c (Child q d) = (p == q) && differ c d

-- whether a term is a name that was bound before
abbrev pub is_earlier : ℕ → Term → Bool
is_earlier s (Name r) = nat_lt r s
is_earlier s (Child q d) = false

-- whether x is a child of p, and b lies within another one
abbrev pub has_sibling_above : List Row → ℕ → Term → Term → Bool
has_sibling_above rows p b (Name a) = false
has_sibling_above rows p b (Child q c) = (p == q) && any_above rows (is_other_child p c) b

-- whether a fact parts a from b, in this order: it tells of two regions that share no point, of a
-- region that was made when the others were bound already, or of a disjoint partition, and a lies
-- within the one and b within the other
abbrev pub parts : List Row → Term → Term → Known → Bool
parts rows a b (Within x y) = false
parts rows a b (Apart x y) = is_below rows a x && is_below rows b y
parts rows a b (PartOf p r disjoint) = disjoint && any_above rows (has_sibling_above rows p b) a
parts rows a b (Made s) = is_below rows a (Name s) && any_above rows (is_earlier s) b

abbrev pub parts_either : List Row → Term → Term → Known → Bool
parts_either rows a b k = parts rows a b k || parts rows b a k

-- whether `a * b` follows
abbrev pub are_disjoint : List Known → Term → Term → Bool
are_disjoint facts a b = list_any (parts_either (closed facts) a b) facts
