-- The first excess in parts one behind the other, and in a list that a loop goes through.
use Rattle.std.proofs.Common.{◌≡◌, ℕ, ◌+◌, ◌<◌, Bool, true, false, List, [], ◌∷◌, ◌++◌, Option, Some, None, refl, sym, ◌∙◌, length, drop, get_or}
use Rattle.std.specs.Prelude.{nat_lt, cond}
use Rattle.std.specs.Option.{option_or}
use Rattle.std.proofs.lemmas.List.{drop_more}
use Rattle.regent_tree.specs.declared.limits.Excess.{Excess}
use Rattle.regent_tree.specs.Limits.{Part, node, literal, counted, nodes, first_excess, most}

cond_later : (b : Bool) (e : Excess) (x y : Option Excess) → cond b (Some e) (option_or x y) ≡ option_or (cond b (Some e) x) y
cond_later true e x y = refl
cond_later false e x y = refl

pub first_excess_append : (ps qs : List Part) → first_excess (ps ++ qs) ≡ option_or (first_excess ps) (first_excess qs)
first_excess_append [] qs = refl
first_excess_append (node ∷ ps) qs = first_excess_append ps qs
first_excess_append (literal v w ∷ ps) qs = first_excess_append ps qs
first_excess_append (counted what n ∷ ps) qs = rw (first_excess_append ps qs) (cond_later (nat_lt (most what) n) _ _ _)

-- what is told of the first parts is told of all
pub in_first : (ps qs : List Part) (e : Excess) → Some e ≡ first_excess ps → Some e ≡ first_excess (ps ++ qs)
in_first ps qs e h = rw (first_excess_append ps qs, ← h) refl

-- what is told of the rest is told of all, where there is none in the first parts
pub in_rest : (ps qs : List Part) (o : Option Excess) → None ≡ first_excess ps → o ≡ first_excess qs → o ≡ first_excess (ps ++ qs)
in_rest ps qs o h g = rw (first_excess_append ps qs, ← h) g

pub both : (ps qs : List Part) (a b r : Option Excess) → r ≡ option_or a b → a ≡ first_excess ps → b ≡ first_excess qs → r ≡ first_excess (ps ++ qs)
both ps qs a b r h f g = rw (first_excess_append ps qs, ← f, ← g) h

pub nodes_pass : {A : Type 0} (xs : List A) (ps : List Part) → first_excess (nodes xs ++ ps) ≡ first_excess ps
nodes_pass [] ps = refl
nodes_pass (x ∷ xs) ps = nodes_pass xs ps

-- the parts of a list are those of its items, one behind the other
pub record PartsOfItems {A : Type 0} (parts : A → List Part) (all : List A → List Part) : Type 0 where
  pub one_more : (x : A) (xs : List A) → all (x ∷ xs) ≡ parts x ++ all xs

pub item_found : {A : Type 0} {parts : A → List Part} {all : List A → List Part} → PartsOfItems parts all →
    (xs : List A) (i : ℕ) (x : A) (e : Excess) (total : Option Excess) → i < length xs → x ≡ get_or xs i x →
    Some e ≡ first_excess (parts x) → first_excess (all (drop i xs)) ≡ total → Some e ≡ total
item_found {parts = parts} {all = all} p xs i x e total lt is h so_far =
    let this : first_excess (all (drop i xs)) ≡ Some e = rw (drop_more xs i x lt, ← is, p.one_more x (drop (i + 1) xs)) (sym (in_first (parts x) (all (drop (i + 1) xs)) e h)) in
    sym this ∙ so_far

pub item_passed : {A : Type 0} {parts : A → List Part} {all : List A → List Part} → PartsOfItems parts all →
    (xs : List A) (i : ℕ) (x : A) (total : Option Excess) → i < length xs → x ≡ get_or xs i x →
    None ≡ first_excess (parts x) → first_excess (all (drop i xs)) ≡ total → first_excess (all (drop (i + 1) xs)) ≡ total
item_passed {parts = parts} {all = all} p xs i x total lt is h so_far =
    let this : first_excess (all (drop i xs)) ≡ first_excess (all (drop (i + 1) xs)) = rw (drop_more xs i x lt, ← is, p.one_more x (drop (i + 1) xs)) (sym (in_rest (parts x) (all (drop (i + 1) xs)) _ h refl)) in
    sym this ∙ so_far
