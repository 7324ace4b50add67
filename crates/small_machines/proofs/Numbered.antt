-- Over numbers of roots and over names of roots the small machine does the same, renamed.
use Rattle.std.proofs.Common.{◌≡◌, ◌++◌, ◌∷◌, ◌∙◌, ◌&&◌, Bool, List, None, Option, Some, [], ap, cond, nat_eq, not, refl, suc, sym, zero, ℕ, true}
use Rattle.board_rules.specs.Ground.{Mode, writes}
use Rattle.board_rules.specs.Processes.{put}
use Rattle.board_rules.specs.Running.{After, Element, Machine, calls, stops, want}
use Rattle.board_rules.specs.Renaming.{Renamed, Renames, Roots, after_to, effects_to, elements, ground_over, spots_to}
use Rattle.small_machines.specs.Small.{Op, clash, covered, join, stored}
use Rattle.small_machines.specs.NumberedMachines.{Code, Frame, Location, Needs, Touch, Wants, base, call, each, ended, failed, hear, load, machine, meets_number, need, needed, needs_of, new_needs, new_root, new_zeros, no_part, no_root, none, nothing, number_at, one_need, one_spot, print, root_at, roots, same_loc, segment, set, some_of, store, store_at, touch, touch_part, touch_root, yields}

-- ---- renaming: of names of which no two become alike

module _ (A : Type 0) (sa : A → A → Bool) (am : A → List ℕ) (an : A → ℕ)
    (C : Type 0) (sc : C → C → Bool) (cm : C → List ℕ) (cn : C → ℕ)
    (to : A → C) (same_to : (a b : A) → sc (to a) (to b) ≡ sa a b) where
  abbrev XA : Roots base
  XA = roots A sa am an

  abbrev YC : Roots base
  YC = roots C sc cm cn

  abbrev loc_to : Location A → Location C
  loc_to = Rattle.small_machines.specs.NumberedMachines.loc_to A sa am an C sc cm cn to

  abbrev needs_to : Needs A → Needs C
  needs_to = Rattle.small_machines.specs.NumberedMachines.needs_to A sa am an C sc cm cn to

  abbrev roots_to : List A → List C
  roots_to = Rattle.small_machines.specs.NumberedMachines.roots_to A sa am an C sc cm cn to

  abbrev frame_to : Frame A → Frame C
  frame_to = Rattle.small_machines.specs.NumberedMachines.frame_to A sa am an C sc cm cn to

  abbrev renames : Renames base XA YC
  renames = Rattle.small_machines.specs.NumberedMachines.renames A sa am an C sc cm cn to

  module _ (names : List ℕ → ℕ → C) (number : A) where
    abbrev MA : Machine (ground_over base XA)
    MA = machine A sa am an (λ p i. number)

    abbrev KC : Machine (ground_over base YC)
    KC = machine C sc cm cn names

    same_alike : (a b : Location A) → same_loc C sc (loc_to a) (loc_to b) ≡ same_loc A sa a b
    same_alike a b = ap (λ t. nat_eq a.point b.point && t) (same_to a.root b.root)

    needed_alike : (N : Needs A) (l : Location A) → needed C sc (needs_to N) (loc_to l) ≡ needed A sa N l
    needed_alike nothing l = refl
    needed_alike (need k a N) l = λ i. cond (same_alike k l i) (join a (needed_alike N l i)) (needed_alike N l i)

    each_alike : (f : Location A → Bool) (g : Location C → Bool) → ((l : Location A) → g (loc_to l) ≡ f l) → (N : Needs A) → each C sc cm cn names g (needs_to N) ≡ each A sa am an (λ p i. number) f N
    each_alike f g h nothing = refl
    each_alike f g h (need l a N) = λ i. h l i && each_alike f g h N i

    number_alike : (l : Location A) (ps : List (Element (ground_over base XA))) → number_at C sc cm cn names (loc_to l) (elements base XA YC renames ps) ≡ number_at A sa am an (λ p i. number) l ps
    number_alike l [] = refl
    number_alike l (x ∷ xs) = λ i. cond (same_alike x.location l i) (Some x.number) (number_alike l xs i)

    store_alike : (l : Location A) (n : ℕ) (ps : List (Element (ground_over base XA))) → store_at C sc cm cn names (loc_to l) n (elements base XA YC renames ps) ≡ elements base XA YC renames (store_at A sa am an (λ p i. number) l n ps)
    store_alike l n [] = refl
    store_alike l n (x ∷ xs) = λ i. record { location = loc_to x.location; mode = x.mode; number = cond (same_alike x.location l i) (stored x.mode x.number n) x.number } ∷ store_alike l n xs i

    root_to : Option A → Option C
    root_to None = None
    root_to (Some r) = Some (to r)

    root_alike : (rs : List A) (c : ℕ) → root_at C sc cm cn names (roots_to rs) c ≡ root_to (root_at A sa am an (λ p i. number) rs c)
    unfolding root_to
    root_alike [] c = refl
    root_alike (r ∷ rs) zero = refl
    root_alike (r ∷ rs) (suc c) = root_alike rs c

    wants_alike : (rs : List A) (w : Wants) → needs_of C sc cm cn names (roots_to rs) w ≡ needs_to (needs_of A sa am an (λ p i. number) rs w)
    unfolding root_to
    wants_alike rs none = refl
    wants_alike rs (some_of c x a w) = (λ i. elim (root_alike rs c i) [ Some r ↦ need (record { root = r; point = x }) a (wants_alike rs w i) | None ↦ wants_alike rs w i ]) ∙ by_root (root_at A sa am an (λ p i. number) rs c)
      where
        by_root : (o : Option A) → (elim (root_to o) as (λ y. Needs C) [ Some r ↦ need (record { root = r; point = x }) a (needs_to (needs_of A sa am an (λ p i. number) rs w)) | None ↦ needs_to (needs_of A sa am an (λ p i. number) rs w) ])
            ≡ needs_to (elim o as (λ y. Needs A) [ Some r ↦ need (record { root = r; point = x }) a (needs_of A sa am an (λ p i. number) rs w) | None ↦ needs_of A sa am an (λ p i. number) rs w ])
        by_root None = refl
        by_root (Some r) = refl

    touch_to : Touch A → Touch C
    touch_to no_root = no_root
    touch_to (no_part l) = no_part (loc_to l)
    touch_to (meets_number l v) = meets_number (loc_to l) v

    part_alike : (l : Location A) (o : Option ℕ) → touch_part C sc cm cn names (loc_to l) o ≡ touch_to (touch_part A sa am an (λ p i. number) l o)
    unfolding touch_to
    part_alike l None = refl
    part_alike l (Some v) = refl

    touch_alike : (rs : List A) (ps : List (Element (ground_over base XA))) (c x : ℕ) → touch C sc cm cn names (roots_to rs) (elements base XA YC renames ps) c x ≡ touch_to (touch A sa am an (λ p i. number) rs ps c x)
    unfolding touch_to root_to
    touch_alike rs ps c x = ap (touch_root C sc cm cn names (elements base XA YC renames ps) x) (root_alike rs c) ∙ by_root (root_at A sa am an (λ p i. number) rs c)
      where
        by_root : (o : Option A) → touch_root C sc cm cn names (elements base XA YC renames ps) x (root_to o) ≡ touch_to (touch_root A sa am an (λ p i. number) ps x o)
        by_root None = refl
        by_root (Some r) = ap (touch_part C sc cm cn names (loc_to (record { root = r; point = x }))) (number_alike (record { root = r; point = x }) ps)
            ∙ part_alike (record { root = r; point = x }) (number_at A sa am an (λ p i. number) (record { root = r; point = x }) ps)

    -- the segment of what is renamed is the segment, renamed
    pub segment_alike : (k : Code) (t : List ℕ) (n : ℕ) (rs : List A) (ps : List (Element (ground_over base XA))) →
        segment C sc cm cn names k t n (roots_to rs) (elements base XA YC renames ps) ≡ after_to base XA YC renames (segment A sa am an (λ p i. number) k t n rs ps)
    unfolding touch_to
    segment_alike ended t n rs ps = refl
    segment_alike (failed x) t n rs ps = refl
    segment_alike (print k) t n rs ps = segment_alike k (t ++ n ∷ []) n rs ps
    segment_alike (set v k) t n rs ps = segment_alike k t v rs ps
    segment_alike (load c x k) t n rs ps =
        (λ i. elim (touch_alike rs ps c x i) as (λ y. After (ground_over base YC)) [
          | no_root ↦ yields C sc cm cn names t ended n (roots_to rs) (elements base XA YC renames ps) (stops 0)
          | no_part l ↦ yields C sc cm cn names t (load c x k) n (roots_to rs) (elements base XA YC renames ps) (want l)
          | meets_number l v ↦ segment C sc cm cn names k t v (roots_to rs) (elements base XA YC renames ps)
        ]) ∙ by_touch (λ v. segment_alike k t v rs ps) (touch A sa am an (λ p i. number) rs ps c x)
      where
        by_touch : ((v : ℕ) → segment C sc cm cn names k t v (roots_to rs) (elements base XA YC renames ps) ≡ after_to base XA YC renames (segment A sa am an (λ p i. number) k t v rs ps)) → (o : Touch A) →
            (elim (touch_to o) as (λ y. After (ground_over base YC)) [
              | no_root ↦ yields C sc cm cn names t ended n (roots_to rs) (elements base XA YC renames ps) (stops 0)
              | no_part l ↦ yields C sc cm cn names t (load c x k) n (roots_to rs) (elements base XA YC renames ps) (want l)
              | meets_number l v ↦ segment C sc cm cn names k t v (roots_to rs) (elements base XA YC renames ps)
            ]) ≡ after_to base XA YC renames (elim o as (λ y. After (ground_over base XA)) [
              | no_root ↦ yields A sa am an (λ p i. number) t ended n rs ps (stops 0)
              | no_part l ↦ yields A sa am an (λ p i. number) t (load c x k) n rs ps (want l)
              | meets_number l v ↦ segment A sa am an (λ p i. number) k t v rs ps
            ])
        by_touch h no_root = refl
        by_touch h (no_part l) = refl
        by_touch h (meets_number l v) = h v
    segment_alike (store c x k) t n rs ps =
        (λ i. elim (touch_alike rs ps c x i) as (λ y. After (ground_over base YC)) [
          | no_root ↦ yields C sc cm cn names t ended n (roots_to rs) (elements base XA YC renames ps) (stops 0)
          | no_part l ↦ yields C sc cm cn names t (store c x k) n (roots_to rs) (elements base XA YC renames ps) (want l)
          | meets_number l v ↦ segment C sc cm cn names k t n (roots_to rs) (store_at C sc cm cn names l n (elements base XA YC renames ps))
        ]) ∙ by_touch (λ l. ap (segment C sc cm cn names k t n (roots_to rs)) (store_alike l n ps) ∙ segment_alike k t n rs (store_at A sa am an (λ p i. number) l n ps)) (touch A sa am an (λ p i. number) rs ps c x)
      where
        by_touch : ((l : Location A) → segment C sc cm cn names k t n (roots_to rs) (store_at C sc cm cn names (loc_to l) n (elements base XA YC renames ps))
            ≡ after_to base XA YC renames (segment A sa am an (λ p i. number) k t n rs (store_at A sa am an (λ p i. number) l n ps))) → (o : Touch A) →
            (elim (touch_to o) as (λ y. After (ground_over base YC)) [
              | no_root ↦ yields C sc cm cn names t ended n (roots_to rs) (elements base XA YC renames ps) (stops 0)
              | no_part l ↦ yields C sc cm cn names t (store c x k) n (roots_to rs) (elements base XA YC renames ps) (want l)
              | meets_number l v ↦ segment C sc cm cn names k t n (roots_to rs) (store_at C sc cm cn names l n (elements base XA YC renames ps))
            ]) ≡ after_to base XA YC renames (elim o as (λ y. After (ground_over base XA)) [
              | no_root ↦ yields A sa am an (λ p i. number) t ended n rs ps (stops 0)
              | no_part l ↦ yields A sa am an (λ p i. number) t (store c x k) n rs ps (want l)
              | meets_number l v ↦ segment A sa am an (λ p i. number) k t n rs (store_at A sa am an (λ p i. number) l n ps)
            ])
        by_touch h no_root = refl
        by_touch h (no_part l) = refl
        by_touch h (meets_number l v) = h l
    segment_alike (call w c k) t n rs ps = λ i. yields C sc cm cn names t k n (roots_to rs) (elements base XA YC renames ps) (calls (record { may = true; needs = wants_alike rs w i; frame = record { code = c; number = n; roots = roots_to rs } } ∷ []))
    segment_alike (hear c k) t n rs ps = refl
    segment_alike (new_root size k) t n rs ps = refl

    spot_alike : (l : Location A) (o : Option (Mode Op)) → one_spot C sc cm cn names (loc_to l) o ≡ spots_to base XA YC renames (one_spot A sa am an (λ p i. number) l o)
    spot_alike l None = refl
    spot_alike l (Some a) = refl

    need_alike : (l : Location A) (o : Option (Mode Op)) → one_need C sc cm cn names (loc_to l) o ≡ needs_to (one_need A sa am an (λ p i. number) l o)
    need_alike l None = refl
    need_alike l (Some a) = refl

    append_alike : (rs : List A) (r : A) → roots_to rs ++ to r ∷ [] ≡ roots_to (rs ++ r ∷ [])
    append_alike [] r = refl
    append_alike (x ∷ rs) r = ap (λ ys. to x ∷ ys) (append_alike rs r)

    new_alike : (r : A) (n : ℕ) (N : Needs A) → new_needs C sc cm cn names (to r) n (needs_to N) ≡ needs_to (new_needs A sa am an (λ p i. number) r n N)
    new_alike r zero N = refl
    new_alike r (suc n) N = ap (λ O. need (record { root = to r; point = n }) writes O) (new_alike r n N)

    zeros_alike : (r : A) (n : ℕ) → new_zeros C sc cm cn names (to r) n ≡ effects_to base XA YC renames (new_zeros A sa am an (λ p i. number) r n)
    zeros_alike r zero = refl
    zeros_alike r (suc n) = ap (λ es. put (record { root = to r; point = n }) 0 ∷ es) (zeros_alike r n)

  -- what a machine over names does to what is renamed
  module _ (names : List ℕ → ℕ → C) (number : ℕ → A) (maker : ℕ → List ℕ) (making : ℕ → ℕ) (named : (n : ℕ) → names (maker n) (making n) ≡ to (number n)) where
    named_at : (n i : ℕ) (p : List ℕ) → maker n ≡ p → making n ≡ i → names p i ≡ to (number n)
    named_at n i p a b = (λ j. names (sym a j) (sym b j)) ∙ named n

    pub renamed : Renamed base XA YC (λ n. machine A sa am an (λ p i. number n)) (machine C sc cm cn names) renames maker making
    renamed = record {
      same = same_alike names (number 0);
      segment = λ n f ps. segment_alike names (number n) f.code [] f.number f.roots ps;
      met = λ n f c v. refl;
      no_answer = λ n. refl;
      meets = λ n a b. ap not (each_alike names (number n) _ _ (λ l i. not (clash (needed_alike names (number n) a l i) (needed_alike names (number n) b l i))) a);
      inside = λ n a b. each_alike names (number n) _ _ (λ l i. covered (needed_alike names (number n) a l i) (needed_alike names (number n) b l i)) a;
      wanted = λ n N k. ap (one_spot C sc cm cn names (loc_to k)) (needed_alike names (number n) N k) ∙ spot_alike names (number n) k (needed A sa N k);
      narrowed = λ n N k. ap (one_need C sc cm cn names (loc_to k)) (needed_alike names (number n) N k) ∙ need_alike names (number n) k (needed A sa N k);
      chunk = λ n. refl;
      sound = λ n d. refl;
      pushed = λ n i p d f a b. (λ j. record { code = f.code; number = f.number; roots = roots_to f.roots ++ named_at n i p a b j ∷ [] }) ∙ (λ j. record { code = f.code; number = f.number; roots = append_alike names (number n) f.roots (number n) j });
      grown = λ n i p d N a b. ap (λ r. new_needs C sc cm cn names r d (needs_to N)) (named_at n i p a b) ∙ new_alike names (number n) (number n) d N;
      zeros = λ n i p d a b. ap (λ r. new_zeros C sc cm cn names r d) (named_at n i p a b) ∙ zeros_alike names (number n) (number n) d;
    }
