-- Laws of the real needs that the board wants.
use Rattle.std.proofs.Common.{All, append-nil, get_or, ℤ, ◌≡◌, ◌∙◌, ◌++◌, ◌∷◌, ◌&&◌, ◌==◌, ◌⊎◌, Bool, List, None, Option, Some, [], ap, arith, cond, eq-eqb, eqb-true, false, filter, inl, inr, map, nat_eq, option_map, refl, subst, suc, sym, true, true≢false, ℕ}
use Rattle.std.proofs.lemmas.Bool.{and_from, and_parts, or_left, or_right}
use Rattle.std.proofs.lemmas.List.Elements.{All-head, All-tail}
use Rattle.std.specs.List.{Contains}
use Rattle.plain_values.specs.Points.{has, points}
use Rattle.lane_kernels.specs.Modes.{Commute, joined, same_op}
use Rattle.lane_kernels.specs.declared.numbers.Mode.{Mode as FieldMode}
use Rattle.lane_kernels.specs.declared.numbers.Mode.TheVariants.{Read, Reduce, Write}
use Rattle.lane_kernels.specs.declared.numbers.Op.{Op}
use Rattle.region_tree.specs.Requirements.{IsPartOf, Requirement, interfere, is_at, is_mode, is_of, is_within, join_from, join_onto, mode_at, modes_at, part_of}
use Rattle.region_tree.proofs.Covering.{within_tells}
use Rattle.region_tree.proofs.Interfering.{interfere_tells}
use Rattle.region_tree.proofs.Joins.{same_mode-tells}
use Rattle.lane_kernels.proofs.SameOps.{same_op-itself, same_op-tells}
use Rattle.region_tree.proofs.PartLaws.{parts_exact}
use Rattle.regent_boards.proofs.Folds.{folds_swap}
use Rattle.number_codes.proofs.Lists.{lists_tell}
use Rattle.board_rules.specs.Ground.{Ground, Mode, writes}
use Rattle.board_rules.specs.Processes.{Apart, Effect, Inside, Together, fold_in, put}
use Rattle.board_rules.specs.Running.{After, Element, Held, Laws, MadeAt, Spot, spots}
use Rattle.board_laws.proofs.Reaching.{by_test}
use Rattle.regent_boards.specs.RegentMachine.{as_held, behind_first, fields_of, grown_by, maker_of, making_of, name_of, needs_of_root, regent_ground, regent_machine, root_of, spots_of, who_of, zeros_for, zeros_of}
use Rattle.number_codes.specs.Lists.{decoded_list}
use Rattle.number_codes.specs.Pairs.{pair_code, second_of}
use Rattle.number_codes.proofs.Pairs.{pairs_tell}
use Rattle.regent_boards.specs.Frames.{Frame, Location, Made, OpAt, Spaces, new_partition, new_root}

-- ---- modes that all commute join to modes that commute

joined_self : (m : FieldMode) → joined m m ≡ m
joined_self Read = refl
joined_self Write = refl
joined_self (Reduce o) = ap (λ b. cond b (Reduce o) Write) (same_op-itself o)

abbrev AllAre : FieldMode → List FieldMode → Type 0
AllAre k [] = Unit {0}
AllAre k (m ∷ ms) = (m ≡ k) × AllAre k ms

join_same : (k : FieldMode) (ms : List FieldMode) → AllAre k ms → join_from (Some k) ms ≡ Some k
join_same k [] h = refl
join_same k (m ∷ ms) h = ap (λ o. join_from o ms) (ap (λ n. Some (joined k n)) h.0 ∙ ap (λ n. Some n) (joined_self k)) ∙ join_same k ms h.1

from_each : (k : FieldMode) (ms : List FieldMode) → ((m : FieldMode) → Contains ms m → m ≡ k) → AllAre k ms
from_each k [] h = tt
from_each k (m ∷ ms) h = (h m (0, omega arith, refl), from_each k ms (λ n c. h n (suc c.0, omega (arith, c.1), c.2)))

-- what commutes with a mode that commutes with this one is this one
same_mode_of : (a b : FieldMode) → Commute a b → (c : FieldMode) → Commute c b → c ≡ a
same_mode_of a b (inl e) c (inl f) = f.0 ∙ sym e.0
same_mode_of a b (inl e) c (inr f) = absurd (no (sym e.1 ∙ f.2))
  where
    no : Read ≡ Reduce f.0 → ⊥
    no e = cc
same_mode_of a b (inr e) c (inl f) = absurd (no (sym f.1 ∙ e.2))
  where
    no : Read ≡ Reduce e.0 → ⊥
    no e = cc
same_mode_of a b (inr e) c (inr f) = f.1 ∙ ap (λ o. Reduce o) (op_of (sym f.2 ∙ e.2)) ∙ sym e.1
  where
    op_in : Op → FieldMode → Op
    op_in d (Reduce o) = o
    op_in d _ = d

    op_of : Reduce f.0 ≡ Reduce e.0 → f.0 ≡ e.0
    op_of h = ap (op_in f.0) h

commuting_with : (m n : FieldMode) → ¬ (¬ Commute m n) → Commute m n
commuting_with Read Read h = inl (refl, refl)
commuting_with Read Write h = absurd (h (λ c. elim c [ inl e ↦ cc | inr e ↦ cc ]))
commuting_with Read (Reduce q) h = absurd (h (λ c. elim c [ inl e ↦ cc | inr e ↦ cc ]))
commuting_with Write n h = absurd (h (λ c. elim c [ inl e ↦ cc | inr e ↦ cc ]))
commuting_with (Reduce p) Read h = absurd (h (λ c. elim c [ inl e ↦ cc | inr e ↦ cc ]))
commuting_with (Reduce p) Write h = absurd (h (λ c. elim c [ inl e ↦ cc | inr e ↦ cc ]))
commuting_with (Reduce p) (Reduce q) h = by_test (same_op p q) (λ b. same_op p q ≡ b → Commute (Reduce p) (Reduce q))
    (λ e k. inr (p, refl, ap (λ o. Reduce o) (sym (same_op-tells p q k))))
    (λ e k. absurd (h (λ c. elim c [ inl e ↦ cc | inr e ↦ true≢false (sym (ap (same_op p) (same e.0 e.1 e.2) ∙ same_op-itself p) ∙ k) ]))) refl
  where
    op_in : Op → FieldMode → Op
    op_in d (Reduce o) = o
    op_in d _ = d

    same : (o : Op) → Reduce p ≡ Reduce o → Reduce q ≡ Reduce o → q ≡ p
    same o a b = ap (op_in q) b ∙ sym (ap (op_in p) a)

module _ (spaces : Spaces) where
  abbrev G : Ground
  G = regent_ground spaces

  held_together : (root field : ℕ) (m n : FieldMode) → Commute m n → Together G (as_held spaces root field m) (as_held spaces root field n)
  held_together root field Read Read c = tt
  held_together root field Read Write (inl e) = absurd cc
  held_together root field Read Write (inr e) = absurd cc
  held_together root field Read (Reduce q) (inl e) = absurd cc
  held_together root field Read (Reduce q) (inr e) = absurd cc
  held_together root field Write n (inl e) = absurd cc
  held_together root field Write n (inr e) = absurd cc
  held_together root field (Reduce p) Read (inl e) = absurd cc
  held_together root field (Reduce p) Read (inr e) = absurd cc
  held_together root field (Reduce p) Write (inl e) = absurd cc
  held_together root field (Reduce p) Write (inr e) = absurd cc
  held_together root field (Reduce p) (Reduce q) (inl e) = absurd cc
  held_together root field (Reduce p) (Reduce q) (inr e) = ap (λ m. width_in m) (e.1 ∙ sym e.2)
    where
      width_in : FieldMode → OpAt
      width_in (Reduce o) = record { op = o; width = Rattle.lane_kernels.specs.Numbers.width_of (Rattle.regent_boards.specs.RegentMachine.kind_of spaces root field) }
      width_in Read = record { op = p; width = Rattle.lane_kernels.specs.Numbers.width_of (Rattle.regent_boards.specs.RegentMachine.kind_of spaces root field) }
      width_in Write = record { op = p; width = Rattle.lane_kernels.specs.Numbers.width_of (Rattle.regent_boards.specs.RegentMachine.kind_of spaces root field) }

  -- lists of modes that commute pairwise
  lists_apart : (root field : ℕ) (ms ns : List FieldMode) → ((m n : FieldMode) → Contains ms m → Contains ns n → Commute m n) →
      Apart G (option_map (as_held spaces root field) (join_from None ms)) (option_map (as_held spaces root field) (join_from None ns))
  lists_apart root field [] ns h = tt
  lists_apart root field (m ∷ ms) [] h = none (option_map (as_held spaces root field) (join_from (Some m) ms))
    where
      none : (x : Option (Mode OpAt)) → Apart G x None
      none None = tt
      none (Some x) = tt
  lists_apart root field (m ∷ ms) (n ∷ ns) h =
      subst (λ o. Apart G (option_map (as_held spaces root field) o) (option_map (as_held spaces root field) (join_from (Some n) ns))) (sym (join_same m ms (from_each m ms (λ k c. same_mode_of m n both k (h k n (later ms k m c) (first n ns))))))
      (subst (λ o. Apart G (Some (as_held spaces root field m)) (option_map (as_held spaces root field) o)) (sym (join_same n ns (from_each n ns (λ k c. same_mode_of n m (turned m n both) k (turned m k (h m k (first m ms) (later ns k n c)))))))
      (held_together root field m n both))
    where
      first : (m : FieldMode) (ms : List FieldMode) → Contains (m ∷ ms) m
      first m ms = (0, omega arith, refl)

      later : (ms : List FieldMode) (k m : FieldMode) → Contains ms k → Contains (m ∷ ms) k
      later ms k m c = (suc c.0, omega (arith, c.1), c.2)

      both : Commute m n
      both = h m n (first m ms) (first n ns)

      turned : (a b : FieldMode) → Commute a b → Commute b a
      turned a b (inl e) = inl (e.1, e.0)
      turned a b (inr e) = inr (e.0, e.2, e.1)

  pub needs_apart : (a b : List Requirement) → interfere a b ≡ false → (l : Location) → Apart G (G.at a l) (G.at b l)
  needs_apart a b e l = lists_apart l.root l.field (modes_at a l.root l.field l.point) (modes_at b l.root l.field l.point)
      (λ m n c d. commuting_with m n (λ no. true≢false (sym ((interfere_tells (interfere a b) a b refl).1 (record { root = l.root; field = l.field; point = l.point; one = m; other = n; first_has = c; second_has = d; conflicts = no })) ∙ e)))

  pub needs_inside : (a b : List Requirement) → is_within a b ≡ true → (l : Location) → Inside G (G.at a l) (G.at b l)
  needs_inside a b e l = by_case (mode_at a l.root l.field l.point) (mode_at b l.root l.field l.point) ((within_tells a b).0 e l.root l.field l.point)
    where
      by_case : (x y : Option FieldMode) → (x ≡ None) ⊎ ((x ≡ y) ⊎ (y ≡ Some Write)) → Inside G (option_map (as_held spaces l.root l.field) x) (option_map (as_held spaces l.root l.field) y)
      by_case None y h = tt
      by_case (Some m) y (inl h) = absurd cc
      by_case (Some m) y (inr (inl h)) = inl (ap (option_map (as_held spaces l.root l.field)) (sym h))
      by_case (Some m) y (inr (inr h)) = inr (ap (option_map (as_held spaces l.root l.field)) h)

  -- ---- parts

  held_append : (f : _) (xs ys : List (Spot G)) → Held G f xs → Held G f ys → Held G f (xs ++ ys)
  held_append f [] ys h k = k
  held_append f (x ∷ xs) ys h k = (h.0, held_append f xs ys h.1 k)

  spots_held : (f : Location → Option (Mode OpAt)) (root field : ℕ) (m : FieldMode) (ps : List ℕ) →
      ((p : ℕ) → has ps p ≡ true → f (record { root = root; field = field; point = p }) ≡ Some (as_held spaces root field m)) →
      Held G f (map (λ p. record { location = record { root = root; field = field; point = p }; mode = as_held spaces root field m }) ps)
  spots_held f root field m [] h = tt
  spots_held f root field m (p ∷ ps) h = (inl (h p (or_left _ _ (eq-eqb p p refl))), spots_held f root field m ps (λ q e. h q (or_right _ _ e)))

  is_mode_some : (m : FieldMode) (o : Option FieldMode) → is_mode m o ≡ true → o ≡ Some m
  is_mode_some m None e = absurd cc
  is_mode_some m (Some n) e = ap (λ k. Some k) (sym (same_mode-tells m n e))

  pieces_held : (N : List Requirement) (root field : ℕ) (qs : List (List ℕ × FieldMode)) → All (IsPartOf N root field) qs → Held G (G.at N) (spots_of spaces root field qs)
  pieces_held N root field [] h = tt
  pieces_held N root field (q ∷ qs) h = held_append (G.at N) _ _
      (spots_held (G.at N) root field q.1 q.0 (λ p e. ap (option_map (as_held spaces root field)) (is_mode_some q.1 (mode_at N root field p) (sym ((All-head (IsPartOf N root field) q qs h).exact p) ∙ e))))
      (pieces_held N root field qs (All-tail (IsPartOf N root field) q qs h))

  pub wants_held : (N : List Requirement) (root field : ℕ) → Held G (G.at N) (spots_of spaces root field (part_of N root field))
  wants_held N root field = pieces_held N root field (part_of N root field) (parts_exact N root field)

  -- ---- the needs on one field of a root

  filter_twice : (root field p : ℕ) (N : List Requirement) → filter (is_at root field p) (filter (is_of root field) N) ≡ filter (is_at root field p) N
  filter_twice root field p [] = refl
  filter_twice root field p (r ∷ N) = by_test (is_of root field r)
      (λ b. filter (is_at root field p) (cond b (r ∷ filter (is_of root field) N) (filter (is_of root field) N)) ≡ cond (b && has r.points p) (r ∷ filter (is_at root field p) N) (filter (is_at root field p) N))
      (λ e. (λ i. cond (is_at root field p r) (r ∷ filter_twice root field p N i) (filter_twice root field p N i)) ∙ ap (λ b. cond (b && has r.points p) (r ∷ filter (is_at root field p) N) (filter (is_at root field p) N)) e)
      (λ e. filter_twice root field p N)

  mode_narrowed : (root field p : ℕ) (N : List Requirement) → mode_at (filter (is_of root field) N) root field p ≡ mode_at N root field p
  mode_narrowed root field p N = ap (λ rs. join_from None (map (λ (r : Requirement). r.mode) rs)) (filter_twice root field p N)

  narrowed_pieces : (N O : List Requirement) (root field : ℕ) → ((p : ℕ) → mode_at O root field p ≡ mode_at N root field p) → (qs : List (List ℕ × FieldMode)) → All (IsPartOf N root field) qs → Held G (G.at O) (spots_of spaces root field qs)
  narrowed_pieces N O root field same [] h = tt
  narrowed_pieces N O root field same (q ∷ qs) h = held_append (G.at O) _ _
      (spots_held (G.at O) root field q.1 q.0 (λ p e. ap (option_map (as_held spaces root field)) (same p ∙ is_mode_some q.1 (mode_at N root field p) (sym ((All-head (IsPartOf N root field) q qs h).exact p) ∙ e))))
      (narrowed_pieces N O root field same qs (All-tail (IsPartOf N root field) q qs h))

  pub narrowed_held : (N : List Requirement) (root field : ℕ) → Held G (G.at (filter (is_of root field) N)) (spots_of spaces root field (part_of N root field))
  narrowed_held N root field = narrowed_pieces N (filter (is_of root field) N) root field (λ p. mode_narrowed root field p N) (part_of N root field) (parts_exact N root field)

  -- ---- makings

  modes_append : (root field p : ℕ) (N O : List Requirement) → modes_at (N ++ O) root field p ≡ modes_at N root field p ++ modes_at O root field p
  modes_append root field p [] O = refl
  modes_append root field p (r ∷ N) O = by_test (is_at root field p r)
      (λ b. map (λ (x : Requirement). x.mode) (cond b (r ∷ filter (is_at root field p) (N ++ O)) (filter (is_at root field p) (N ++ O))) ≡ map (λ (x : Requirement). x.mode) (cond b (r ∷ filter (is_at root field p) N) (filter (is_at root field p) N)) ++ modes_at O root field p)
      (λ e. ap (λ ms. r.mode ∷ ms) (modes_append root field p N O)) (λ e. modes_append root field p N O)

  join_append : (o : Option FieldMode) (ms ns : List FieldMode) → join_from o (ms ++ ns) ≡ join_from (join_from o ms) ns
  join_append o [] ns = refl
  join_append o (m ∷ ms) ns = join_append (join_onto o m) ms ns

  writes_join : (o : Option FieldMode) (ns : List FieldMode) → AllAre Write ns → (join_from o ns ≡ o) ⊎ (join_from o ns ≡ Some Write)
  writes_join o [] h = inl refl
  writes_join o (n ∷ ns) h = inr (ap (λ x. join_from x ns) (ap (join_onto o) h.0 ∙ onto o) ∙ join_same Write ns h.1)
    where
      onto : (o : Option FieldMode) → join_onto o Write ≡ Some Write
      onto None = refl
      onto (Some Read) = refl
      onto (Some Write) = refl
      onto (Some (Reduce q)) = refl

  new_writes : (r size root field p : ℕ) (fs : List ℕ) → AllAre Write (modes_at (needs_of_root spaces r size fs) root field p)
  new_writes r size root field p [] = tt
  new_writes r size root field p (f ∷ fs) = by_test (is_at root field p (record { root = r; points = points size; field = f; mode = Write }))
      (λ b. AllAre Write (map (λ (x : Requirement). x.mode) (cond b (record { root = r; points = points size; field = f; mode = Write } ∷ filter (is_at root field p) (needs_of_root spaces r size fs)) (filter (is_at root field p) (needs_of_root spaces r size fs)))))
      (λ e. (refl, new_writes r size root field p fs)) (λ e. new_writes r size root field p fs)

  new_elsewhere : (r size root field p : ℕ) (fs : List ℕ) → (r == root) ≡ false → modes_at (needs_of_root spaces r size fs) root field p ≡ []
  new_elsewhere r size root field p [] e = refl
  new_elsewhere r size root field p (f ∷ fs) e = ap (λ b. map (λ (x : Requirement). x.mode) (cond (b && (f == field) && has (points size) p) (record { root = r; points = points size; field = f; mode = Write } ∷ filter (is_at root field p) (needs_of_root spaces r size fs)) (filter (is_at root field p) (needs_of_root spaces r size fs)))) e
      ∙ new_elsewhere r size root field p fs e

  self : (a : Option (Mode OpAt)) → Inside G a a
  self None = tt
  self (Some a) = inl refl

  pub grown_more : (p : List ℕ) (i : ℕ) (d : Made) (N : List Requirement) (l : Location) → Inside G (G.at N l) (G.at (grown_by spaces (name_of p i) d N) l)
  grown_more p i (new_partition r sets disjoint) N l = self (G.at N l)
  grown_more p i (new_root space size) N l =
      subst (λ o. Inside G (G.at N l) (option_map (as_held spaces l.root l.field) o)) (sym whole)
      (by_writes (mode_at N l.root l.field l.point) (writes_join (mode_at N l.root l.field l.point) new (new_writes (root_of space size (name_of p i)) size l.root l.field l.point (fields_of spaces space))))
    where
      new : List FieldMode
      new = modes_at (needs_of_root spaces (root_of space size (name_of p i)) size (fields_of spaces space)) l.root l.field l.point

      whole : mode_at (grown_by spaces (name_of p i) (new_root space size) N) l.root l.field l.point ≡ join_from (mode_at N l.root l.field l.point) new
      whole = ap (join_from None) (modes_append l.root l.field l.point N (needs_of_root spaces (root_of space size (name_of p i)) size (fields_of spaces space))) ∙ join_append None (modes_at N l.root l.field l.point) new

      writes_in : (a : Option (Mode OpAt)) → Inside G a (Some writes)
      writes_in None = tt
      writes_in (Some a) = inr refl

      by_writes : (o : Option FieldMode) → (join_from o new ≡ o) ⊎ (join_from o new ≡ Some Write) → Inside G (option_map (as_held spaces l.root l.field) o) (option_map (as_held spaces l.root l.field) (join_from o new))
      by_writes o (inl e) = subst (λ x. Inside G (option_map (as_held spaces l.root l.field) o) (option_map (as_held spaces l.root l.field) x)) (sym e) (self (option_map (as_held spaces l.root l.field) o))
      by_writes o (inr e) = subst (λ x. Inside G (option_map (as_held spaces l.root l.field) o) (option_map (as_held spaces l.root l.field) x)) (sym e) (writes_in (option_map (as_held spaces l.root l.field) o))

  who_told : (space size who : ℕ) → who_of (root_of space size who) ≡ who
  who_told space size who = ap second_of (pairs_tell space (pair_code size who)).1 ∙ (pairs_tell size who).1

  list_told : (p : List ℕ) (i space size : ℕ) → decoded_list (who_of (root_of space size (name_of p i))) ≡ i ∷ p
  list_told p i space size = ap decoded_list (who_told space size (name_of p i)) ∙ lists_tell (i ∷ p)

  maker_told : (p : List ℕ) (i space size : ℕ) → maker_of (root_of space size (name_of p i)) ≡ p
  maker_told p i space size = ap behind_first (list_told p i space size)

  making_told : (p : List ℕ) (i space size : ℕ) → making_of (root_of space size (name_of p i)) ≡ i
  making_told p i space size = ap (λ xs. get_or xs 0 0) (list_told p i space size)

  pub grown_at : (p : List ℕ) (i : ℕ) (d : Made) (N : List Requirement) (l : Location) → (G.at (grown_by spaces (name_of p i) d N) l ≡ G.at N l) ⊎ ((maker_of l.root ≡ p) × (making_of l.root ≡ i))
  grown_at p i (new_partition r sets disjoint) N l = inl refl
  grown_at p i (new_root space size) N l = by_root (root_of space size (name_of p i) == l.root) refl
    where
      r : ℕ
      r = root_of space size (name_of p i)

      by_root : (b : Bool) → (r == l.root) ≡ b → (G.at (grown_by spaces (name_of p i) (new_root space size) N) l ≡ G.at N l) ⊎ ((maker_of l.root ≡ p) × (making_of l.root ≡ i))
      by_root true e = inr (ap maker_of (sym (eqb-true r l.root e)) ∙ maker_told p i space size, ap making_of (sym (eqb-true r l.root e)) ∙ making_told p i space size)
      by_root false e = inl (ap (option_map (as_held spaces l.root l.field)) (ap (join_from None) (modes_append l.root l.field l.point N (needs_of_root spaces r size (fields_of spaces space))
          ∙ ap (λ ms. modes_at N l.root l.field l.point ++ ms) (new_elsewhere r size l.root l.field l.point (fields_of spaces space) e) ∙ append-nil (modes_at N l.root l.field l.point))))

  mine_append : (p : List ℕ) (i : ℕ) (es ds : List (Effect G)) → MadeAt G p i es → MadeAt G p i ds → MadeAt G p i (es ++ ds)
  mine_append p i [] ds h g = g
  mine_append p i (put l v ∷ es) ds h g = (h.0, h.1, mine_append p i es ds h.2 g)
  mine_append p i (fold_in o l v ∷ es) ds h g = absurd h

  points_mine : (p : List ℕ) (i space size f : ℕ) (z : ℤ) (xs : List ℕ) → MadeAt G p i (map (λ x. put (record { root = root_of space size (name_of p i); field = f; point = x }) z) xs)
  points_mine p i space size f z [] = tt
  points_mine p i space size f z (x ∷ xs) = (maker_told p i space size, making_told p i space size, points_mine p i space size f z xs)

  fields_mine : (p : List ℕ) (i space size : ℕ) (fs : List ℕ) → MadeAt G p i (zeros_of spaces (root_of space size (name_of p i)) size fs)
  fields_mine p i space size [] = tt
  fields_mine p i space size (f ∷ fs) = mine_append p i _ _ (points_mine p i space size f _ (points size)) (fields_mine p i space size fs)

  pub zeros_mine : (p : List ℕ) (i : ℕ) (d : Made) → MadeAt G p i (zeros_for spaces (name_of p i) d)
  zeros_mine p i (new_root space size) = fields_mine p i space size (fields_of spaces space)
  zeros_mine p i (new_partition r sets disjoint) = tt

  -- ---- places and operators

  same_is : (a b : Location) → G.same a b ≡ true → a ≡ b
  same_is a b e = let x = and_parts (nat_eq a.root b.root) (nat_eq a.field b.field && nat_eq a.point b.point) e in let y = and_parts (nat_eq a.field b.field) (nat_eq a.point b.point) x.1 in
      λ j. record { root = eqb-true a.root b.root x.0 j; field = eqb-true a.field b.field y.0 j; point = eqb-true a.point b.point y.1 j }

  same_self : (a : Location) → G.same a a ≡ true
  same_self a = and_from _ _ (eq-eqb a.root a.root refl) (and_from _ _ (eq-eqb a.field a.field refl) (eq-eqb a.point a.point refl))

  -- all that the board asks of the machine, where its segment gives back the parts that it was given
  pub regent_laws : (segment : Frame → List (Element G) → After G) → ((f : Frame) (ps : List (Element G)) → spots G (segment f ps).parts ≡ spots G ps) → Laws G (regent_machine spaces name_of segment)
  regent_laws segment keeps = record {
    terms = record { same_is = same_is; same_self = same_self; swaps = λ o a b c. folds_swap o.op o.width a b c };
    segment_keeps = keeps;
    apart = needs_apart;
    is_inside = needs_inside;
    wanted_held = λ N k. wants_held N k.root k.field;
    narrowed_held = λ N k. narrowed_held N k.root k.field;
    zeros_mine = zeros_mine;
    grown_more = grown_more;
    grown_at = grown_at;
  }
