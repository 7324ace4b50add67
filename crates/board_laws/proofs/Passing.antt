-- What finishing the children of an operation passes and keeps, and what it answers.
use Rattle.std.proofs.Common.{◌≡◌, ◌++◌, ◌∷◌, ◌∙◌, ◌⊎◌, List, None, Option, Some, [], ap, append-nil, cond, inl, inr, refl, subst, suc, sym, true, ℕ}
use Rattle.board_rules.specs.Ground.{Ground, Mode, reads, reduces, writes}
use Rattle.board_rules.specs.Processes.{Apart, Effect, Footprint, Foreign, Inside, Keeps, Map, Process, Quiet, Result, and_then, bind, done, fails, gives, mode_of, on_map, location_of, prefix, run, run_all, spent}
use Rattle.board_rules.specs.Running.{Held, Laws, Machine, Path, Spot, filled, number_of, reach, under}
use Rattle.board_rules.specs.Boards.{◌+++◌, Items, finish, finish_items, is_over, child_op, needs_of, no_item, said, stage_of}
use Rattle.board_laws.proofs.Processes.{map_map, prefix_none, then_prefix, then_then}
use Rattle.board_laws.proofs.Reaching.{by_test}
use Rattle.board_laws.proofs.Turns.{Below, below_prefix}
use Rattle.board_laws.proofs.Good.{FreeOf, GoodItems, OwnOf, Rooted, needs_above, reach_needs}
use Rattle.board_laws.proofs.Finishing.{ChildrenInside, items_within, open_reach}

module _ (G : Ground) (M : Machine G) (L : Laws G M) where
  -- ---- an effect that meets no unfinished child

  abbrev pub ForeignChildren : Effect G → Path G → ℕ → Items G → Type 0
  ForeignChildren e p j no_item = Unit {0}
  ForeignChildren e p j (said t is) = ForeignChildren e p j is
  ForeignChildren e p j (child_op n is) = Foreign G (open_reach G M L (j ∷ p) n) e × ForeignChildren e p (suc j) is

  -- the widest that doesn't conflict with a mode
  abbrev friend : Mode G.Op → Option (Mode G.Op)
  friend reads = Some reads
  friend writes = None
  friend (reduces o) = Some (reduces o)

  befriends : (a : Mode G.Op) (b : Option (Mode G.Op)) → Apart G (Some a) b → Inside G b (friend a)
  befriends a None h = tt
  befriends reads (Some reads) h = inl refl
  befriends reads (Some writes) h = absurd h
  befriends reads (Some (reduces o)) h = absurd h
  befriends writes (Some reads) h = absurd h
  befriends writes (Some writes) h = absurd h
  befriends writes (Some (reduces o)) h = absurd h
  befriends (reduces o) (Some reads) h = absurd h
  befriends (reduces o) (Some writes) h = absurd h
  befriends (reduces o) (Some (reduces q)) h = inl (ap (λ x. Some (reduces x)) h)

  friend_apart : (a : Mode G.Op) → Apart G (Some a) (friend a)
  friend_apart reads = tt
  friend_apart writes = tt
  friend_apart (reduces o) = refl

  inside_writes : (a : Option (Mode G.Op)) → Inside G a (Some writes)
  inside_writes None = tt
  inside_writes (Some a) = inr refl

  -- everywhere but at one place
  abbrev all_but : G.Location → Option (Mode G.Op) → Footprint G
  all_but l a k = cond (G.same l k) a (Some writes)

  inside_but : (l : G.Location) (a : Option (Mode G.Op)) (f : Footprint G) → Inside G (f l) a → (k : G.Location) → Inside G (f k) (all_but l a k)
  inside_but l a f h k = by_test (G.same l k) (λ b. Inside G (f k) (cond b a (Some writes)))
      (λ e. subst (λ x. Inside G (f x) a) (L.terms.same_is l k e) h) (λ e. inside_writes (f k))

  at_but : (l : G.Location) (a : Option (Mode G.Op)) → all_but l a l ≡ a
  at_but l a = ap (λ b. cond b a (Some writes)) (L.terms.same_self l)

  foreign_inside : (e : Effect G) (p : Path G) (j : ℕ) (is : Items G) → ForeignChildren e p j is → ChildrenInside G M L (all_but (location_of G e) (friend (mode_of G e))) p j is
  foreign_inside e p j no_item h = tt
  foreign_inside e p j (said t is) h = foreign_inside e p j is h
  foreign_inside e p j (child_op n is) h = (
    inside_but (location_of G e) (friend (mode_of G e)) (open_reach G M L (j ∷ p) n) (befriends (mode_of G e) (open_reach G M L (j ∷ p) n (location_of G e)) h.0),
    foreign_inside e p (suc j) is h.1,
  )

  pub items_pass : (K : ℕ) (m : Map G) (p : Path G) (N : G.Needs) (j : ℕ) (is : Items G) (e : Effect G) → GoodItems G M L m p N j is → ForeignChildren e p j is →
      (n : Map G) → finish_items G M K p j is (run G e n) ≡ on_map G (run G e) (finish_items G M K p j is n)
  items_pass K m p N j is e g h n = (items_within G M L K m p N j is (all_but (location_of G e) (friend (mode_of G e))) g (foreign_inside e p j is h)).passes e
      (subst (Apart G (Some (mode_of G e))) (sym (at_but (location_of G e) (friend (mode_of G e)))) (friend_apart (mode_of G e))) n

  abbrev pub AllForeignChildren : List (Effect G) → Path G → ℕ → Items G → Type 0
  AllForeignChildren [] p j is = Unit {0}
  AllForeignChildren (e ∷ es) p j is = ForeignChildren e p j is × AllForeignChildren es p j is

  pub items_pass_all : (K : ℕ) (m : Map G) (p : Path G) (N : G.Needs) (j : ℕ) (is : Items G) (es : List (Effect G)) → GoodItems G M L m p N j is → AllForeignChildren es p j is →
      (n : Map G) → finish_items G M K p j is (run_all G es n) ≡ on_map G (run_all G es) (finish_items G M K p j is n)
  items_pass_all K m p N j is [] g h n = sym (same (finish_items G M K p j is n))
    where
      same : {A : Type 0} (r : Result G A) → on_map G (λ n. n) r ≡ r
      same (done a u n) = refl
      same (fails x u) = refl
      same spent = refl
  items_pass_all K m p N j is (e ∷ es) g h n =
      items_pass_all K m p N j is es g h.1 (run G e n)
      ∙ ap (on_map G (run_all G es)) (items_pass K m p N j is e g h.0 n) ∙ map_map G (run G e) (run_all G es) (finish_items G M K p j is n)

  -- ---- what a result holds

  abbrev pub Holds : {A : Type 0} → (A → Map G → Type 0) → Result G A → Type 0
  Holds P (done a t m) = P a m
  Holds P (fails f t) = Unit {0}
  Holds P spent = Unit {0}

  pub below_holding : {A B : Type 0} (P : A → Map G → Type 0) (r : Result G A) (k j : A → Process G B) → Holds P r →
      ((a : A) (m : Map G) → P a m → Below G (k a m) (j a m)) → Below G (and_then G r k) (and_then G r j)
  below_holding P (done a t m) k j h g = below_prefix G t (k a m) (j a m) (g a m h)
  below_holding P (fails f t) k j h g = inr refl
  below_holding P spent k j h g = inl refl

  pub holds_both : {A : Type 0} (P Q : A → Map G → Type 0) (r : Result G A) → Holds P r → Holds Q r → Holds (λ a m. P a m × Q a m) r
  holds_both P Q (done a t m) h g = (h, g)
  holds_both P Q (fails f t) h g = tt
  holds_both P Q spent h g = tt

  -- ---- spots that meet no unfinished child are filled alike before and after

  quiet_but : (a : Mode G.Op) (b : Option (Mode G.Op)) → Apart G (Some a) b → (a ≡ reads) ⊎ (a ≡ writes) → Inside G b (Some reads)
  quiet_but reads None h c = tt
  quiet_but reads (Some reads) h c = inl refl
  quiet_but reads (Some writes) h c = absurd h
  quiet_but reads (Some (reduces o)) h c = absurd h
  quiet_but writes None h c = tt
  quiet_but writes (Some reads) h c = absurd h
  quiet_but writes (Some writes) h c = absurd h
  quiet_but writes (Some (reduces o)) h c = absurd h
  quiet_but (reduces o) None h c = tt
  quiet_but (reduces o) (Some b) h (inl e) = absurd cc
  quiet_but (reduces o) (Some b) h (inr e) = absurd cc

  -- no unfinished child changes the number at a place
  abbrev pub QuietChildren : G.Location → Path G → ℕ → Items G → Type 0
  QuietChildren l p j no_item = Unit {0}
  QuietChildren l p j (said t is) = QuietChildren l p j is
  QuietChildren l p j (child_op n is) = Inside G (open_reach G M L (j ∷ p) n l) (Some reads) × QuietChildren l p (suc j) is

  quiet_inside : (l : G.Location) (p : Path G) (j : ℕ) (is : Items G) → QuietChildren l p j is → ChildrenInside G M L (all_but l (Some reads)) p j is
  quiet_inside l p j no_item h = tt
  quiet_inside l p j (said t is) h = quiet_inside l p j is h
  quiet_inside l p j (child_op n is) h = (inside_but l (Some reads) (open_reach G M L (j ∷ p) n) h.0, quiet_inside l p (suc j) is h.1)

  items_keep : (K : ℕ) (m : Map G) (p : Path G) (N : G.Needs) (j : ℕ) (is : Items G) (l : G.Location) → GoodItems G M L m p N j is → QuietChildren l p j is →
      (n : Map G) → Keeps G l n (finish_items G M K p j is n)
  items_keep K m p N j is l g h n = (items_within G M L K m p N j is (all_but l (Some reads)) g (quiet_inside l p j is h)).steady l
      (subst (Quiet G) (sym (at_but l (Some reads))) tt) n

  pub quiet_children : (x : Spot G) (xs : List (Spot G)) (p : Path G) (j : ℕ) (is : Items G) → under G (G.maker x.location) p ≡ true → FreeOf G (x ∷ xs) is →
      (x.mode ≡ reads) ⊎ (x.mode ≡ writes) → QuietChildren x.location p j is
  quiet_children x xs p j no_item u h c = tt
  quiet_children x xs p j (said t is) u h c = quiet_children x xs p j is u h c
  quiet_children x xs p j (child_op n is) u h c = (
    by_test (is_over G (stage_of G n)) (λ b. is_over G (stage_of G n) ≡ b → Inside G (cond b None (reach G (j ∷ p) (needs_of G n) x.location)) (Some reads))
        (λ e k. tt)
        (λ e k. quiet_but x.mode _ (subst (Apart G (Some x.mode)) (sym (reach_needs G p j (needs_of G n) x.location u)) (h.0 k).0) c) refl,
    quiet_children x xs p (suc j) is u h.1 c,
  )

  pub free_tail : (x : Spot G) (xs : List (Spot G)) (is : Items G) → FreeOf G (x ∷ xs) is → FreeOf G xs is
  free_tail x xs no_item h = tt
  free_tail x xs (said t is) h = free_tail x xs is h
  free_tail x xs (child_op n is) h = (λ e. (h.0 e).1, free_tail x xs is h.1)

  -- the places of held spots were made at the holder's place or above it
  abbrev pub Above : Path G → List (Spot G) → Type 0
  Above p [] = Unit {0}
  Above p (x ∷ xs) = (under G (G.maker x.location) p ≡ true) × Above p xs

  pub held_above : (p : Path G) (i : ℕ) (D N : G.Needs) → Rooted G p D → OwnOf G p i D N → (xs : List (Spot G)) → Held G (G.at N) xs → Above p xs
  held_above p i D N r o [] h = tt
  held_above p i D N r o (x ∷ xs) h = (needs_above G p i D N x.location x.mode r o h.0, held_above p i D N r o xs h.1)

  number_kept : {A : Type 0} (a : Mode G.Op) (l : G.Location) (n : Map G) (r : Result G A) → ((a ≡ reads) ⊎ (a ≡ writes) → Keeps G l n r) →
      Holds (λ v o. number_of G M a l o ≡ number_of G M a l n) r
  number_kept reads l n (done v t o) h = h (inl refl)
  number_kept writes l n (done v t o) h = h (inr refl)
  number_kept (reduces q) l n (done v t o) h = refl
  number_kept a l n (fails f t) h = tt
  number_kept a l n spent h = tt

  holds_filled : {A : Type 0} (x : Spot G) (xs : List (Spot G)) (n : Map G) (r : Result G A) → Holds (λ v o. number_of G M x.mode x.location o ≡ number_of G M x.mode x.location n) r →
      Holds (λ v o. filled G M xs o ≡ filled G M xs n) r → Holds (λ v o. filled G M (x ∷ xs) o ≡ filled G M (x ∷ xs) n) r
  holds_filled x xs n (done v t o) h g = λ i. record { location = x.location; mode = x.mode; number = h i } ∷ g i
  holds_filled x xs n (fails f t) h g = tt
  holds_filled x xs n spent h g = tt

  holds_none : {A : Type 0} (n : Map G) (r : Result G A) → Holds (λ v o. filled G M [] o ≡ filled G M [] n) r
  holds_none n (done v t o) = refl
  holds_none n (fails f t) = tt
  holds_none n spent = tt

  pub items_fill : (K : ℕ) (m : Map G) (p : Path G) (N : G.Needs) (j : ℕ) (is : Items G) (xs : List (Spot G)) → GoodItems G M L m p N j is → FreeOf G xs is → Above p xs →
      (n : Map G) → Holds (λ vs o. filled G M xs o ≡ filled G M xs n) (finish_items G M K p j is n)
  items_fill K m p N j is [] g h u n = holds_none n (finish_items G M K p j is n)
  items_fill K m p N j is (x ∷ xs) g h u n = holds_filled x xs n (finish_items G M K p j is n)
      (number_kept x.mode x.location n (finish_items G M K p j is n) (λ c. items_keep K m p N j is x.location g (quiet_children x xs p j is u.0 h c) n))
      (items_fill K m p N j is xs g (free_tail x xs is h) u.1 n)

  -- ---- items in a row

  abbrev pub past : ℕ → Items G → ℕ
  past j no_item = j
  past j (said t is) = past j is
  past j (child_op n is) = past (suc j) is

  pub items_append : (K : ℕ) (p : Path G) (j : ℕ) (is js : Items G) (m : Map G) →
      finish_items G M K p j (◌+++◌ G is js) m ≡ and_then G (finish_items G M K p j is m) (λ vs. bind G (finish_items G M K p (past j is) js) (λ ws. gives G (vs ++ ws)))
  items_append K p j no_item js m = sym (prefix_none G _ ∙ end (finish_items G M K p j js m))
    where
      end : (r : Result G (List G.Answer)) → and_then G r (λ ws. gives G ws) ≡ r
      end (done a t o) = λ i. done a (append-nil t i) o
      end (fails x t) = refl
      end spent = refl
  items_append K p j (said t is) js m = ap (prefix G t) (items_append K p j is js m) ∙ sym (then_prefix G t (finish_items G M K p j is m) _)
  items_append K p j (child_op n is) js m =
      ap (and_then G (finish G M K (j ∷ p) n m)) (λ i v o. and_then G (items_append K p (suc j) is js o i) (λ vs. gives G (v ∷ vs)))
      ∙ ap (and_then G (finish G M K (j ∷ p) n m)) (λ i v o. inner v o i)
      ∙ sym (then_then G (finish G M K (j ∷ p) n m) _ _)
    where
      again : List G.Answer → Process G (List G.Answer)
      again vs = bind G (finish_items G M K p (past (suc j) is) js) (λ ws. gives G (vs ++ ws))

      inner : (v : G.Answer) (o : Map G) →
          and_then G (and_then G (finish_items G M K p (suc j) is o) (λ vs. bind G (finish_items G M K p (past (suc j) is) js) (λ ws. gives G (vs ++ ws)))) (λ vs. gives G (v ∷ vs))
          ≡ and_then G (and_then G (finish_items G M K p (suc j) is o) (λ vs. gives G (v ∷ vs))) (λ vs. bind G (finish_items G M K p (past (suc j) is) js) (λ ws. gives G (vs ++ ws)))
      inner v o = then_then G (finish_items G M K p (suc j) is o) _ _
          ∙ ap (and_then G (finish_items G M K p (suc j) is o)) (λ i vs u. step v vs u i)
          ∙ sym (then_then G (finish_items G M K p (suc j) is o) _ _)
        where
          step : (v : G.Answer) (vs : List G.Answer) (u : Map G) →
              and_then G (and_then G (finish_items G M K p (past (suc j) is) js u) (λ ws. gives G (vs ++ ws))) (λ vs. gives G (v ∷ vs))
              ≡ prefix G [] (and_then G (finish_items G M K p (past (suc j) is) js u) (λ ws. gives G (v ∷ (vs ++ ws))))
          step v vs u = then_then G (finish_items G M K p (past (suc j) is) js u) _ _ ∙ sym (prefix_none G _)
