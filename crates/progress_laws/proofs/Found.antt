-- What a way leads to in a renamed tree, and what is read there.
use Rattle.std.proofs.Common.{◌≡◌, ◌++◌, ◌∷◌, ◌∙◌, ◌||◌, List, Option, Some, [], ap, option_map, refl, subst, suc, sym, zero, ℕ}
use Rattle.std.specs.Prelude.{All, drop, get_or}
use Rattle.std.proofs.lemmas.List.Elements.{All-cons, All-head, All-nil, All-tail}
use Rattle.board_rules.specs.Apart.{ApartWhileOpen, children_in, children_of, claimed_by, filled_by, find, find_among, in_progress, needs_now, parts_of}
use Rattle.board_rules.specs.Boards.{Items, Operation, Stage, child, child_op, closing, dropped, filling, first, idle, is_over, needs_of, no_item, nothing, op, out, over, part, said, stage_of}
use Rattle.board_rules.specs.Ground.{Ground, Mode, reads, reduces, writes}
use Rattle.board_rules.specs.Processes.{Apart, Map}
use Rattle.board_rules.specs.Ready.{claims_among, claims_in, is_claimed}
use Rattle.board_rules.specs.Renaming.{Base, Renames, Roots, element, elements, ground_over, items_to, node_to, spots_to, stage_to}
use Rattle.board_rules.specs.Running.{Element, Machine, Spot, filled, number_of, spots}

module _ (B : Base) (X Y : Roots B) (R : Renames B X Y) where
  abbrev G : Ground
  G = ground_over B X

  abbrev H : Ground
  H = ground_over B Y

  mutual
    pub find_to : (way : List ℕ) (a : Operation G) → find H way (node_to B X Y R a) ≡ option_map (node_to B X Y R) (find G way a)
    find_to [] (op D N i f ps st is) = refl
    find_to (c ∷ way) (op D N i f ps st is) = among_to c way is

    among_to : (c : ℕ) (way : List ℕ) (is : Items G) → find_among H c way (items_to B X Y R is) ≡ option_map (node_to B X Y R) (find_among G c way is)
    among_to c way no_item = refl
    among_to c way (said t is) = among_to c way is
    among_to zero way (child_op a is) = find_to way a
    among_to (suc c) way (child_op a is) = among_to c way is

  pub found_to : (way : List ℕ) (t a : Operation G) → find G way t ≡ Some a → find H way (node_to B X Y R t) ≡ Some (node_to B X Y R a)
  found_to way t a e = find_to way t ∙ ap (option_map (node_to B X Y R)) e

  pub over_to : (a : Operation G) → is_over H (stage_of H (node_to B X Y R a)) ≡ is_over G (stage_of G a)
  over_to (op D N i f ps (idle w) is) = refl
  over_to (op D N i f ps (filling w d l) is) = refl
  over_to (op D N i f ps (out w d) is) = refl
  over_to (op D N i f ps (closing e) is) = refl
  over_to (op D N i f ps (over e) is) = refl
  over_to (op D N i f ps dropped is) = refl

  pub progress_to : (a : Operation G) → in_progress H (node_to B X Y R a) ≡ in_progress G a
  progress_to (op D N i f ps (idle first) is) = refl
  progress_to (op D N i f ps (idle nothing) is) = refl
  progress_to (op D N i f ps (idle (part k)) is) = refl
  progress_to (op D N i f ps (idle (child c)) is) = refl
  progress_to (op D N i f ps (filling w d l) is) = refl
  progress_to (op D N i f ps (out w d) is) = refl
  progress_to (op D N i f ps (closing e) is) = refl
  progress_to (op D N i f ps (over e) is) = refl
  progress_to (op D N i f ps dropped is) = refl

  claimed_to : (st : Stage G) → is_claimed H (stage_to B X Y R st) ≡ is_claimed G st
  claimed_to (idle w) = refl
  claimed_to (filling w d l) = refl
  claimed_to (out w d) = refl
  claimed_to (closing e) = refl
  claimed_to (over e) = refl
  claimed_to dropped = refl

  mutual
    pub claims_to : (a : Operation G) → claims_in H (node_to B X Y R a) ≡ claims_in G a
    claims_to (op D N i f ps st is) = λ r. claimed_to st r || claims_in_items is r

    claims_in_items : (is : Items G) → claims_among H (items_to B X Y R is) ≡ claims_among G is
    claims_in_items no_item = refl
    claims_in_items (said t is) = claims_in_items is
    claims_in_items (child_op a is) = λ r. claims_to a r || claims_in_items is r

  -- ---- needs at locations

  -- what is needed at a location is needed, renamed, at the renamed location
  abbrev pub Stays : Type 0
  Stays = (N : X.Needs) (l : X.Location) → Y.at (R.needs N) (R.loc l) ≡ X.at N l

  pub needs_to : Stays → (a : Operation G) (l : X.Location) → Y.at (needs_now H (node_to B X Y R a)) (R.loc l) ≡ X.at (needs_now G a) l
  needs_to stays (op D N i f ps st is) l = stays N l

  pub issued_to : Stays → (a : Operation G) (l : X.Location) → Y.at (needs_of H (node_to B X Y R a)) (R.loc l) ≡ X.at (needs_of G a) l
  issued_to stays (op D N i f ps st is) l = stays D l

  -- ---- what is held

  spots_of_elements : (xs : List (Element G)) → spots H (elements B X Y R xs) ≡ spots_to B X Y R (spots G xs)
  spots_of_elements [] = refl
  spots_of_elements (x ∷ xs) = ap (λ ys. record { location = R.loc x.location; mode = x.mode } ∷ ys) (spots_of_elements xs)

  spots_append : (xs ys : List (Spot G)) → spots_to B X Y R xs ++ spots_to B X Y R ys ≡ spots_to B X Y R (xs ++ ys)
  spots_append [] ys = refl
  spots_append (x ∷ xs) ys = ap (λ zs. record { location = R.loc x.location; mode = x.mode } ∷ zs) (spots_append xs ys)

  pub parts_to : (a : Operation G) → spots H (parts_of H (node_to B X Y R a)) ≡ spots_to B X Y R (spots G (parts_of G a))
  parts_to (op D N i f ps st is) = spots_of_elements ps

  pub claimed_spots_to : (a : Operation G) → claimed_by H (stage_of H (node_to B X Y R a)) ≡ spots_to B X Y R (claimed_by G (stage_of G a))
  claimed_spots_to (op D N i f ps (idle w) is) = refl
  claimed_spots_to (op D N i f ps (filling w d l) is) = ap (λ xs. xs ++ spots_to B X Y R l) (spots_of_elements d) ∙ spots_append (spots G d) l
  claimed_spots_to (op D N i f ps (out w d) is) = spots_of_elements d
  claimed_spots_to (op D N i f ps (closing e) is) = refl
  claimed_spots_to (op D N i f ps (over e) is) = refl
  claimed_spots_to (op D N i f ps dropped is) = refl

  -- ---- what was filled

  pub filled_to : (a : Operation G) → filled_by H (stage_of H (node_to B X Y R a)) ≡ elements B X Y R (filled_by G (stage_of G a))
  filled_to (op D N i f ps (idle w) is) = refl
  filled_to (op D N i f ps (filling w d l) is) = refl
  filled_to (op D N i f ps (out w d) is) = refl
  filled_to (op D N i f ps (closing e) is) = refl
  filled_to (op D N i f ps (over e) is) = refl
  filled_to (op D N i f ps dropped is) = refl

  module _ (M : Machine G) (K : Machine H) (m : Map G) (v : Map H) (same : (l : X.Location) → v (R.loc l) ≡ m l) where
    number_back : (o : Mode B.Op) (l : X.Location) → number_of G M o l m ≡ number_of H K o (R.loc l) v
    number_back reads l = sym (same l)
    number_back writes l = sym (same l)
    number_back (reduces o) l = refl

    -- elements that, renamed, are what would be filled from the renamed map are what would be filled from the map
    pub filled_back : (xs : List (Element G)) → filled H K (spots H (elements B X Y R xs)) v ≡ elements B X Y R xs → filled G M (spots G xs) m ≡ xs
    filled_back [] e = refl
    filled_back (x ∷ xs) e =
        let head : number_of H K x.mode (R.loc x.location) v ≡ x.number = ap (λ (ys : List (Element H)). (get_or ys 0 (element B X Y R x)).number) e in
        let tail : filled H K (spots H (elements B X Y R xs)) v ≡ elements B X Y R xs = ap (drop 1) e in
        λ i. record { location = x.location; mode = x.mode; number = (number_back x.mode x.location ∙ head) i } ∷ filled_back xs tail i

  abbrev nodes_to : List (Operation G) → List (Operation H)
  nodes_to [] = []
  nodes_to (b ∷ bs) = node_to B X Y R b ∷ nodes_to bs

  children_in_to : (is : Items G) → children_in H (items_to B X Y R is) ≡ nodes_to (children_in G is)
  children_in_to no_item = refl
  children_in_to (said t is) = children_in_to is
  children_in_to (child_op a is) = ap (λ bs. node_to B X Y R a ∷ bs) (children_in_to is)

  children_to : (a : Operation G) → children_of H (node_to B X Y R a) ≡ nodes_to (children_of G a)
  children_to (op D N i f ps st is) = children_in_to is

  module _ (stays : Stays) where
    abbrev ApartThere : Operation G → Spot H → Type 0
    ApartThere b x = Apart H (Some x.mode) (Y.at (needs_now H (node_to B X Y R b)) x.location)

    abbrev ApartHere : Operation G → Spot G → Type 0
    ApartHere b x = Apart G (Some x.mode) (X.at (needs_now G b) x.location)

    spots_back : (xs : List (Spot G)) (b : Operation G) → All (ApartThere b) (spots_to B X Y R xs) → All (ApartHere b) xs
    spots_back [] b h = All-nil (ApartHere b)
    spots_back (x ∷ xs) b h =
        let there : Spot H = record { location = R.loc x.location; mode = x.mode } in
        All-cons (ApartHere b) x xs (subst (λ (o : Option (Mode B.Op)). Apart G (Some x.mode) o) (needs_to stays b x.location) (All-head (ApartThere b) there (spots_to B X Y R xs) h))
        (spots_back xs b (All-tail (ApartThere b) there (spots_to B X Y R xs) h))

    open_back : (xs : List (Spot G)) (b : Operation G) → ApartWhileOpen H (spots_to B X Y R xs) (node_to B X Y R b) → ApartWhileOpen G xs b
    open_back xs b h e = spots_back xs b (h (over_to b ∙ e))

    all_open_back : (xs : List (Spot G)) (bs : List (Operation G)) → All (ApartWhileOpen H (spots_to B X Y R xs)) (nodes_to bs) → All (ApartWhileOpen G xs) bs
    all_open_back xs [] h = All-nil (ApartWhileOpen G xs)
    all_open_back xs (b ∷ bs) h =
        let there = ApartWhileOpen H (spots_to B X Y R xs) in
        All-cons (ApartWhileOpen G xs) b bs (open_back xs b (All-head there (node_to B X Y R b) (nodes_to bs) h)) (all_open_back xs bs (All-tail there (node_to B X Y R b) (nodes_to bs) h))

    -- what holds of the children of what is renamed holds of the children
    pub held_back : (xs : List (Spot G)) (ys : List (Spot H)) (a : Operation G) → ys ≡ spots_to B X Y R xs →
        All (ApartWhileOpen H ys) (children_of H (node_to B X Y R a)) → All (ApartWhileOpen G xs) (children_of G a)
    held_back xs ys a e h = all_open_back xs (children_of G a) (subst (λ (bs : List (Operation H)). All (ApartWhileOpen H (spots_to B X Y R xs)) bs) (children_to a)
        (subst (λ (zs : List (Spot H)). All (ApartWhileOpen H zs) (children_of H (node_to B X Y R a))) e h))
