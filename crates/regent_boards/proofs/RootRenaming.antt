-- Roots by numbers and by names: the real needs, makings and frames, renamed.
use Rattle.std.proofs.Common.{◌≡◌, ◌∙◌, ◌++◌, ◌+◌, ◌∷◌, ◌&&◌, ◌||◌, ◌==◌, Bool, List, None, Option, Some, [], ap, arith, cond, eq-eqb, eqb-true, false, filter, map, nat_eq, ne_eqb, not, option_map, refl, subst, sym, true, zero, suc, ℕ, ℤ}
use Rattle.plain_values.specs.Points.{points}
use Rattle.lane_kernels.specs.declared.numbers.Mode.{Mode as FieldMode}
use Rattle.lane_kernels.specs.declared.numbers.Mode.TheVariants.{Read, Reduce, Write}
use Rattle.region_tree.specs.Requirements.{Requirement, part_of}
use Rattle.number_codes.specs.Pairs.{first_of, pair_code, second_of}
use Rattle.number_codes.proofs.Pairs.{pairs_are_all, pairs_tell}
use Rattle.board_rules.specs.Processes.{Effect, put}
use Rattle.board_rules.specs.Running.{After, Element, Spot}
use Rattle.board_rules.specs.Renaming.{Renamed, after_to, effects_to, elements, spots_to}
use Rattle.board_laws.proofs.Reaching.{by_test}
use Rattle.regent_boards.specs.RegentMachine.{apart_all, as_held, base, fields_of, is_sound, kind_of, met_frame, met_value, name_of, needs_of_root, own_roots, pushed_on, regent_ground, regent_machine, regent_roots, root_of, size_of, space_of, spots_of, who_of, zero_of, zeros_of}
use Rattle.regent_boards.proofs.NeedRenaming.{filter_to, interfere_to, part_to, within_to}
use Rattle.regent_boards.specs.RootRenaming.{region_to, renamed_frame, renamed_made, renamed_value, renaming, requirement_to, root_to}
use Rattle.regent_boards.specs.Frames.{Frame, Made, Spaces, Value, a_number, a_partition, a_region, a_space, new_partition, new_root, pending}

-- a naming of numbers, no two alike
module _ (spaces : Spaces) (name : ℕ → ℕ) (one : (a b : ℕ) → name a ≡ name b → a ≡ b) where
  pub space_to : (r : ℕ) → space_of (root_to name r) ≡ space_of r
  space_to r = (pairs_tell (space_of r) (pair_code (size_of r) (name (who_of r)))).0

  size_to : (r : ℕ) → size_of (root_to name r) ≡ size_of r
  size_to r = ap first_of (pairs_tell (space_of r) (pair_code (size_of r) (name (who_of r)))).1 ∙ (pairs_tell (size_of r) (name (who_of r))).0

  who_to : (r : ℕ) → who_of (root_to name r) ≡ name (who_of r)
  who_to r = ap second_of (pairs_tell (space_of r) (pair_code (size_of r) (name (who_of r)))).1 ∙ (pairs_tell (size_of r) (name (who_of r))).1

  whole : (r : ℕ) → root_of (space_of r) (size_of r) (who_of r) ≡ r
  whole r = ap (pair_code (first_of r)) (pairs_are_all (second_of r)) ∙ pairs_are_all r

  pub to_one : (a b : ℕ) → root_to name a ≡ root_to name b → a ≡ b
  to_one a b e = sym (whole a)
      ∙ (λ i. root_of ((sym (space_to a) ∙ ap space_of e ∙ space_to b) i) ((sym (size_to a) ∙ ap size_of e ∙ size_to b) i) (one (who_of a) (who_of b) (sym (who_to a) ∙ ap who_of e ∙ who_to b) i))
      ∙ whole b

  pub to_same : (a b : ℕ) → (root_to name a == root_to name b) ≡ (a == b)
  to_same a b = by_test (a == b) (λ t. (a == b) ≡ t → (root_to name a == root_to name b) ≡ t)
      (λ e k. eq-eqb (root_to name a) (root_to name b) (ap (root_to name) (eqb-true a b k))) (λ e k. ne_eqb (root_to name a) (root_to name b) (λ q. clash k (eq-eqb a b (to_one a b q)))) refl
    where
      clash : (a == b) ≡ false → (a == b) ≡ true → ⊥
      clash x y = cc

  to_named : (space size n : ℕ) → root_to name (root_of space size n) ≡ root_of space size (name n)
  to_named space size n = λ i. root_of ((pairs_tell space (pair_code size n)).0 i) ((ap first_of (pairs_tell space (pair_code size n)).1 ∙ (pairs_tell size n).0) i) (name ((ap second_of (pairs_tell space (pair_code size n)).1 ∙ (pairs_tell size n).1) i))

  pub held_to : (root field : ℕ) (m : FieldMode) → as_held spaces (root_to name root) field m ≡ as_held spaces root field m
  held_to root field Read = refl
  held_to root field Write = refl
  held_to root field (Reduce o) = λ i. Rattle.board_rules.specs.Ground.reduces (record { op = o; width = Rattle.lane_kernels.specs.Numbers.width_of (Rattle.std.proofs.Common.get_or (Rattle.std.proofs.Common.get_or spaces (space_to root i) []) field Rattle.lane_kernels.specs.declared.numbers.FieldKind.TheVariants.Int64) })

  pub kind_to : (root field : ℕ) → kind_of spaces (root_to name root) field ≡ kind_of spaces root field
  kind_to root field = λ i. Rattle.std.proofs.Common.get_or (Rattle.std.proofs.Common.get_or spaces (space_to root i) []) field Rattle.lane_kernels.specs.declared.numbers.FieldKind.TheVariants.Int64

  -- ---- frames

  met_to : (c : ℕ) (o : Option ℤ) (v : Value) → met_value spaces c o (renamed_value name v) ≡ renamed_value name (met_value spaces c o v)
  met_to c (Some z) (pending d) = by_test (nat_eq c d) (λ b. cond b (a_number z) (pending d) ≡ renamed_value name (cond b (a_number z) (pending d))) (λ e. refl) (λ e. refl)
  met_to c None (pending d) = by_test (nat_eq c d) (λ b. cond b (a_number (Rattle.std.proofs.Common.pos 0)) (pending d) ≡ renamed_value name (cond b (a_number (Rattle.std.proofs.Common.pos 0)) (pending d))) (λ e. refl) (λ e. refl)
  met_to c (Some z) (a_number x) = refl
  met_to c None (a_number x) = refl
  met_to c (Some z) (a_space n) = refl
  met_to c None (a_space n) = refl
  met_to c (Some z) (a_region r) = refl
  met_to c None (a_region r) = refl
  met_to c (Some z) (a_partition q) = refl
  met_to c None (a_partition q) = refl

  slots_to : (c : ℕ) (o : Option ℤ) (vs : List Value) → map (met_value spaces c o) (map (renamed_value name) vs) ≡ map (renamed_value name) (map (met_value spaces c o) vs)
  slots_to c o [] = refl
  slots_to c o (v ∷ vs) = λ i. met_to c o v i ∷ slots_to c o vs i

  points_to : (root field : ℕ) (m : FieldMode) (ps : List ℕ) (rest : List (Spot (regent_ground spaces))) →
      map (λ p. record { location = record { root = root_to name root; field = field; point = p }; mode = as_held spaces (root_to name root) field m }) ps ++ spots_to base (regent_roots spaces) (regent_roots spaces) (renaming name spaces) rest
      ≡ spots_to base (regent_roots spaces) (regent_roots spaces) (renaming name spaces) (map (λ p. record { location = record { root = root; field = field; point = p }; mode = as_held spaces root field m }) ps ++ rest)
  points_to root field m [] rest = refl
  points_to root field m (p ∷ ps) rest = λ i. record { location = record { root = root_to name root; field = field; point = p }; mode = held_to root field m i } ∷ points_to root field m ps rest i

  pieces_to : (root field : ℕ) (qs : List (List ℕ × FieldMode)) → spots_of spaces (root_to name root) field qs ≡ spots_to base (regent_roots spaces) (regent_roots spaces) (renaming name spaces) (spots_of spaces root field qs)
  pieces_to root field [] = refl
  pieces_to root field (q ∷ qs) = ap (λ xs. map (λ p. record { location = record { root = root_to name root; field = field; point = p }; mode = as_held spaces (root_to name root) field q.1 }) q.0 ++ xs) (pieces_to root field qs)
      ∙ points_to root field q.1 q.0 (spots_of spaces root field qs)

  append_to : (N O : List Requirement) → map (requirement_to name) N ++ map (requirement_to name) O ≡ map (requirement_to name) (N ++ O)
  append_to [] O = refl
  append_to (r ∷ N) O = ap (λ xs. requirement_to name r ∷ xs) (append_to N O)

  -- what is told of own roots is the same under all numbers
  pub own_roots_to : (rs is : List ℕ) → own_roots (map (root_to name) rs) is ≡ own_roots rs is
  own_roots_to [] is = refl
  own_roots_to (r ∷ rs) [] = refl
  own_roots_to (r ∷ rs) (j ∷ is) = λ i. record { making = j; space = space_to r i; size = size_to r i } ∷ own_roots_to rs is i

  own_to : (xs : List ℕ) (r : ℕ) → map (root_to name) xs ++ root_to name r ∷ [] ≡ map (root_to name) (xs ++ r ∷ [])
  own_to [] r = refl
  own_to (x ∷ xs) r = ap (λ ys. root_to name x ∷ ys) (own_to xs r)

  new_needs_to : (r size : ℕ) (fs : List ℕ) → needs_of_root spaces (root_to name r) size fs ≡ map (requirement_to name) (needs_of_root spaces r size fs)
  new_needs_to r size [] = refl
  new_needs_to r size (f ∷ fs) = ap (λ xs. record { root = root_to name r; points = points size; field = f; mode = Write } ∷ xs) (new_needs_to r size fs)

  zero_points_to : (r field : ℕ) (ps : List ℕ) (rest : List (Effect (regent_ground spaces))) →
      map (λ p. put (record { root = root_to name r; field = field; point = p }) (zero_of spaces (kind_of spaces (root_to name r) field))) ps ++ effects_to base (regent_roots spaces) (regent_roots spaces) (renaming name spaces) rest
      ≡ effects_to base (regent_roots spaces) (regent_roots spaces) (renaming name spaces) (map (λ p. put (record { root = r; field = field; point = p }) (zero_of spaces (kind_of spaces r field))) ps ++ rest)
  zero_points_to r field [] rest = refl
  zero_points_to r field (p ∷ ps) rest = λ i. put (record { root = root_to name r; field = field; point = p }) (zero_of spaces (kind_to r field i)) ∷ zero_points_to r field ps rest i

  zeros_to : (r size : ℕ) (fs : List ℕ) → zeros_of spaces (root_to name r) size fs ≡ effects_to base (regent_roots spaces) (regent_roots spaces) (renaming name spaces) (zeros_of spaces r size fs)
  zeros_to r size [] = refl
  zeros_to r size (f ∷ fs) = ap (λ xs. map (λ p. put (record { root = root_to name r; field = f; point = p }) (zero_of spaces (kind_of spaces (root_to name r) f))) (points size) ++ xs) (zeros_to r size fs)
      ∙ zero_points_to r f (points size) (zeros_of spaces r size fs)

-- What the board asks of the machine over names is what it asks over numbers, renamed, where the segment is.
module _ (spaces : Spaces) (maker : ℕ → List ℕ) (making : ℕ → ℕ) (one : (a b : ℕ) → name_of (maker a) (making a) ≡ name_of (maker b) (making b) → a ≡ b) where
  abbrev name : ℕ → ℕ
  name n = name_of (maker n) (making n)

  named : (space size n i : ℕ) (p : List ℕ) → maker n ≡ p → making n ≡ i → root_to name (root_of space size n) ≡ root_of space size (name_of p i)
  named space size n i p a b = to_named spaces name one space size n ∙ (λ j. root_of space size (name_of (a j) (b j)))

  sound_to : (d : Made) → is_sound spaces (renamed_made name d) ≡ is_sound spaces d
  sound_to (new_root space size) = refl
  sound_to (new_partition r sets disjoint) = refl

  pushed_to : (n i : ℕ) (p : List ℕ) (d : Made) (f : Frame) → maker n ≡ p → making n ≡ i →
      pushed_on spaces (name_of p i) i (renamed_made name d) (renamed_frame name f) ≡ renamed_frame name (pushed_on spaces n i d f)
  pushed_to n i p (new_partition r sets disjoint) f a b = ap (λ rs. record (renamed_frame name f) {
    stack = a_partition (record { root = root_to name r.root; disjoint = disjoint; children = rs }) ∷ map (renamed_value name) f.stack;
  }) (sets_to r.root sets)
    where
      sets_to : (root : ℕ) (sets : List (List ℕ)) → map (λ xs. record { root = root_to name root; points = xs }) sets
          ≡ map (region_to name) (map (λ xs. record { root = root; points = xs }) sets)
      sets_to root [] = refl
      sets_to root (s ∷ ss) = ap (λ rs. record { root = root_to name root; points = s } ∷ rs) (sets_to root ss)
  pushed_to n i p (new_root space size) f a b =
      (λ j. pushed_with (sym (named space size n i p a b) j)) ∙ (λ j. record {
        task = f.task;
        pc = f.pc;
        slots = map (renamed_value name) f.slots;
        stack = a_region (record { root = root_to name (root_of space size n); points = points size }) ∷ map (renamed_value name) f.stack;
        turns = f.turns;
        depth = f.depth;
        needs = (ap (λ xs. map (requirement_to name) f.needs ++ xs) (new_needs_to spaces name one (root_of space size n) size (fields_of spaces space)) ∙ append_to spaces name one f.needs (needs_of_root spaces (root_of space size n) size (fields_of spaces space))) j;
        own = own_to spaces name one f.own (root_of space size n) j;
        makings = f.makings ++ i ∷ [];
        children = f.children;
        later = f.later;
      })
    where
      pushed_with : ℕ → Frame
      pushed_with r = record {
        task = f.task;
        pc = f.pc;
        slots = map (renamed_value name) f.slots;
        stack = a_region (record { root = r; points = points size }) ∷ map (renamed_value name) f.stack;
        turns = f.turns;
        depth = f.depth;
        needs = map (requirement_to name) f.needs ++ needs_of_root spaces r size (fields_of spaces space);
        own = map (root_to name) f.own ++ r ∷ [];
        makings = f.makings ++ i ∷ [];
        children = f.children;
        later = f.later;
      }

  grown_to : (n i : ℕ) (p : List ℕ) (d : Made) (N : List Requirement) → maker n ≡ p → making n ≡ i →
      Rattle.regent_boards.specs.RegentMachine.grown_by spaces (name_of p i) (renamed_made name d) (map (requirement_to name) N) ≡ map (requirement_to name) (Rattle.regent_boards.specs.RegentMachine.grown_by spaces n d N)
  grown_to n i p (new_partition r sets disjoint) N a b = refl
  grown_to n i p (new_root space size) N a b =
      (λ j. map (requirement_to name) N ++ needs_of_root spaces (sym (named space size n i p a b) j) size (fields_of spaces space))
      ∙ ap (λ xs. map (requirement_to name) N ++ xs) (new_needs_to spaces name one (root_of space size n) size (fields_of spaces space))
      ∙ append_to spaces name one N (needs_of_root spaces (root_of space size n) size (fields_of spaces space))

  made_zeros_to : (n i : ℕ) (p : List ℕ) (d : Made) → maker n ≡ p → making n ≡ i →
      Rattle.regent_boards.specs.RegentMachine.zeros_for spaces (name_of p i) (renamed_made name d) ≡ effects_to base (regent_roots spaces) (regent_roots spaces) (renaming name spaces) (Rattle.regent_boards.specs.RegentMachine.zeros_for spaces n d)
  made_zeros_to n i p (new_partition r sets disjoint) a b = refl
  made_zeros_to n i p (new_root space size) a b =
      (λ j. zeros_of spaces (sym (named space size n i p a b) j) size (fields_of spaces space)) ∙ zeros_to spaces name one (root_of space size n) size (fields_of spaces space)

  pub regent_renamed : (segment : Frame → List (Element (regent_ground spaces)) → After (regent_ground spaces)) →
      ((f : Frame) (ps : List (Element (regent_ground spaces))) → segment (renamed_frame name f) (elements base (regent_roots spaces) (regent_roots spaces) (renaming name spaces) ps) ≡ after_to base (regent_roots spaces) (regent_roots spaces) (renaming name spaces) (segment f ps)) →
      Renamed base (regent_roots spaces) (regent_roots spaces) (λ n. regent_machine spaces (λ p i. n) segment) (regent_machine spaces name_of segment) (renaming name spaces) maker making
  regent_renamed segment runs = record {
    same = λ a b i. to_same spaces name one a.root b.root i && (nat_eq a.field b.field && nat_eq a.point b.point);
    segment = λ n f ps. runs f ps;
    met = λ n f c v i. record {
      task = f.task;
      pc = f.pc;
      slots = slots_to spaces name one c v.value f.slots i;
      stack = map (renamed_value name) f.stack;
      turns = f.turns;
      depth = f.depth;
      needs = map (requirement_to name) f.needs;
      own = map (root_to name) f.own;
      makings = f.makings;
      children = f.children;
      later = f.later;
    };
    no_answer = λ n. refl;
    meets = λ n a b. interfere_to (root_to name) (to_same spaces name one) a b;
    inside = λ n a b. within_to (root_to name) (to_same spaces name one) a b;
    wanted = λ n N k. ap (spots_of spaces (root_to name k.root) k.field) (part_to (root_to name) (to_same spaces name one) k.root k.field N) ∙ pieces_to spaces name one k.root k.field (part_of N k.root k.field);
    narrowed = λ n N k. filter_to (root_to name) (to_same spaces name one) k.root k.field N;
    chunk = λ n. refl;
    sound = λ n d. sound_to d;
    pushed = λ n i p d f a b. pushed_to n i p d f a b;
    grown = λ n i p d N a b. grown_to n i p d N a b;
    zeros = λ n i p d a b. made_zeros_to n i p d a b;
  }
