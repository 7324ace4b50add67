-- Each step of a journal is good, wherever in the tree it is made.
use Rattle.std.proofs.Common.{◌≡◌, ◌∷◌, ◌∙◌, ◌⊎◌, ◌&&◌, ◌<◌, Bool, List, None, Option, Some, [], ap, arith, cond, false, inl, inr, not, refl, subst, suc, sym, true, zero, ℕ}
use Rattle.std.proofs.lemmas.Bool.{and_from, or_parts}
use Rattle.board_rules.specs.Ground.{Ground, Mode, reads, reduces, writes}
use Rattle.board_rules.specs.Processes.{AllForeign, Apart, Effect, Footprint, Inside, Keeps, Map, Process, Quiet, Result, Together, Within, and_then, bind, done, fails, gives, mode_of, location_of, run_all, spent}
use Rattle.board_rules.specs.Running.{Element, Held, Laws, Machine, Path, Spot, filled, number_of, reach, spots, under}
use Rattle.board_rules.specs.Apart.{claimed_by}
use Rattle.board_rules.specs.Boards.{Kind, as_child, behind, in_op, meets_any, settle, step_among, step_in, still_open, is_ended, Items, Operation, Stage, Stepped, Wait, answer_of, child, closing, dropped, filling, finish, finish_items, first, given_by, idle, is_over, is_waiting, child_op, needs_of, no_item, nothing, op, out, over, part, said, stage_of}
use Rattle.board_laws.proofs.Processes.{passes_all}
use Rattle.board_laws.proofs.Reaching.{AllOwned, Agree, agree_narrower, apart_inside, inside_inside, by_test, child_reach, owned_steady}
use Rattle.board_laws.proofs.Turns.{Below, below_prefix, below_same, below_then, below_through}
use Rattle.board_laws.proofs.Good.{ApartNeeds, is_running, ApartFrom, NoItem, reach_apart, AllApart, Answered, FreeOf, Good, GoodItems, GoodOp, Rooted, StageGood, apart_turned, reach_needs}
use Rattle.board_laws.proofs.Finishing.{finish_within, held_parts, open_reach, reach_inside, wants_held}
use Rattle.board_laws.proofs.Passing.{Above, Holds, below_holding, free_tail, held_above}
use Rattle.board_laws.proofs.Giving.{free_parts}
use Rattle.board_laws.proofs.Gives.{then_map}
use Rattle.board_laws.proofs.Settling.{settle_finishes}
use Rattle.board_laws.proofs.Keeping.{settle_good, waiting_none}
use Rattle.board_laws.proofs.Moving.{good_run_all}
use Rattle.board_laws.proofs.OwnGood.{IfStep, StepGood, not_false, own_good, unended_open}

module _ (G : Ground) (M : Machine G) (L : Laws G M) where
  -- ---- the child to which a step leads

  abbrev pub foot_of : ℕ → Path G → ℕ → Items G → Footprint G
  foot_of c p j no_item = λ l. None
  foot_of c p j (said t is) = foot_of c p j is
  foot_of zero p j (child_op n is) = reach G (j ∷ p) (needs_of G n)
  foot_of (suc c) p j (child_op n is) = foot_of c p (suc j) is

  -- it is in progress, or all that it interferes with before it is Ended
  abbrev pub Begun : List G.Needs → ℕ → Items G → Type 0
  Begun Ns c no_item = ⊥
  Begun Ns c (said t is) = Begun Ns c is
  Begun Ns zero (child_op n is) = (is_over G (stage_of G n) ≡ false) × ((is_running G (stage_of G n) ≡ true) ⊎ (not (meets_any G M Ns (needs_of G n)) ≡ true))
  Begun Ns (suc c) (child_op n is) = Begun (still_open G M n Ns) c is

  abbrev pub ApartTo : Operation G → ℕ → Items G → Type 0
  ApartTo q c no_item = Unit {0}
  ApartTo q c (said t is) = ApartTo q c is
  ApartTo q zero (child_op n is) = ApartNeeds G (needs_of G q) (needs_of G n)
  ApartTo q (suc c) (child_op n is) = ApartTo q c is

  pub record AmongGood (m : Map G) (p : Path G) (N : G.Needs) (j c : ℕ) (Ns : List G.Needs) (is : Items G) (s : Stepped G (Items G)) : Type 0 where
    pub begun : Begun Ns c is
    pub owned : AllOwned G (foot_of c p j is) s.effects
    pub good : GoodItems G M L (run_all G s.effects m) p N j s.left
    pub finishes : (K : ℕ) (u : Map G) → Agree G M L (foot_of c p j is) u m → Below G (finish_items G M (suc K) p j is u) (finish_items G M (suc K) p j s.left (run_all G s.effects u))
    pub frees : (xs : List (Spot G)) → FreeOf G xs is → FreeOf G xs s.left
    pub aparts : (q : Operation G) → ApartFrom G q is → (is_over G (stage_of G q) ≡ false → ApartTo q c is) → ApartFrom G q s.left
    pub answers : (x : ℕ) (v : G.Answer) → answer_of G M is x ≡ Some v → answer_of G M s.left x ≡ Some v

  -- ---- what is apart

  abbrev pub In : G.Needs → List G.Needs → Type 0
  In D [] = ⊥
  In D (N ∷ Ns) = (N ≡ D) ⊎ In D Ns

  in_open : (D : G.Needs) (n : Operation G) (Ns : List G.Needs) → In D Ns → In D (still_open G M n Ns)
  in_open D n Ns h = by_test (is_ended G (stage_of G n)) (λ b. In D (cond b Ns (needs_of G n ∷ Ns))) (λ e. h) (λ e. inr h)

  open_in : (n : Operation G) (Ns : List G.Needs) → is_over G (stage_of G n) ≡ false → In (needs_of G n) (still_open G M n Ns)
  open_in n Ns e = subst (λ b. In (needs_of G n) (cond b Ns (needs_of G n ∷ Ns))) (sym (unended_open G M L (stage_of G n) e)) (inl refl)

  meets_none : (D Q : G.Needs) (Ns : List G.Needs) → In D Ns → meets_any G M Ns Q ≡ false → M.meets D Q ≡ false
  meets_none D Q [] h e = absurd h
  meets_none D Q (N ∷ Ns) (inl s) e = subst (λ x. M.meets x Q ≡ false) s (or_parts (M.meets N Q) (meets_any G M Ns Q) e).0
  meets_none D Q (N ∷ Ns) (inr h) e = meets_none D Q Ns h (or_parts (M.meets N Q) (meets_any G M Ns Q) e).1

  apart_to : (q : Operation G) (c : ℕ) (Ns : List G.Needs) (is : Items G) → is_over G (stage_of G q) ≡ false → ApartFrom G q is → In (needs_of G q) Ns → Begun Ns c is → ApartTo q c is
  apart_to q c Ns no_item o a h b = tt
  apart_to q c Ns (said t is) o a h b = apart_to q c Ns is o a h b
  apart_to q zero Ns (child_op n is) o a h b = elim b.1 [
    | inl runs ↦ a.0 o runs
    | inr clear ↦ L.apart (needs_of G q) (needs_of G n) (meets_none (needs_of G q) (needs_of G n) Ns h (not_false G M L _ clear))
  ]
  apart_to q (suc c) Ns (child_op n is) o a h b = apart_to q c (still_open G M n Ns) is o a.1 (in_open (needs_of G q) n Ns h) b

  pub node_rooted : (m : Map G) (p : Path G) (n : Operation G) → Good G M L m p n → Rooted G p (needs_of G n)
  node_rooted m p (op D N i f ps st is) g = g.0.rooted

  pub differ : (j k : ℕ) → j < k → ¬ (j ≡ k)
  differ j k h e = omega arith

  foot_apart : (m : Map G) (p : Path G) (N : G.Needs) (a : ℕ) (C : G.Needs) (q : Operation G) (j c : ℕ) (is : Items G) → needs_of G q ≡ C → Rooted G (a ∷ p) C → a < j → GoodItems G M L m p N j is → ApartTo q c is →
      (l : G.Location) → Apart G (reach G (a ∷ p) C l) (foot_of c p j is l)
  foot_apart m p N a C q j c no_item e r h g to l = none (reach G (a ∷ p) C l)
    where
      none : (x : Option (Mode G.Op)) → Apart G x None
      none None = tt
      none (Some x) = tt
  foot_apart m p N a C q j c (said t is) e r h g to l = foot_apart m p N a C q j c is e r h g to l
  foot_apart m p N a C q j zero (child_op n is) e r h g to l = reach_apart G p a j C (needs_of G n) (differ a j h) r (node_rooted m (j ∷ p) n g.0) (subst (λ x. ApartNeeds G x (needs_of G n)) e to) l
  foot_apart m p N a C q j (suc c) (child_op n is) e r h g to l = foot_apart m p N a C q (suc j) c is e r (omega arith) g.3 to l

  open_apart : (p : Path G) (j : ℕ) (n : Operation G) (f : Footprint G) → (is_over G (stage_of G n) ≡ false → (l : G.Location) → Apart G (reach G (j ∷ p) (needs_of G n) l) (f l)) → (l : G.Location) → Apart G (open_reach G M L (j ∷ p) n l) (f l)
  open_apart p j n f h l = by_test (is_over G (stage_of G n)) (λ b. is_over G (stage_of G n) ≡ b → Apart G (cond b None (reach G (j ∷ p) (needs_of G n) l)) (f l)) (λ e k. tt) (λ e k. h k l) refl

  all_foreign : (f g : Footprint G) (es : List (Effect G)) → ((l : G.Location) → Apart G (f l) (g l)) → AllOwned G g es → AllForeign G f es
  all_foreign f g [] a h = tt
  all_foreign f g (e ∷ es) a h = (apart_turned G (f (location_of G e)) (Some (mode_of G e)) (apart_inside G (f (location_of G e)) (Some (mode_of G e)) (g (location_of G e)) (a (location_of G e)) h.0), all_foreign f g es a h.1)

  owned_wider : (f g : Footprint G) (es : List (Effect G)) → ((l : G.Location) → Inside G (f l) (g l)) → AllOwned G f es → AllOwned G g es
  owned_wider f g [] i h = tt
  owned_wider f g (e ∷ es) i h = (inside_inside G (Some (mode_of G e)) (f (location_of G e)) (g (location_of G e)) h.0 (i (location_of G e)), owned_wider f g es i h.1)

  foot_inside : (m : Map G) (p : Path G) (N : G.Needs) (j c : ℕ) (is : Items G) → GoodItems G M L m p N j is → (l : G.Location) → Inside G (foot_of c p j is l) (reach G p N l)
  foot_inside m p N j c no_item g l = tt
  foot_inside m p N j c (said t is) g l = foot_inside m p N j c is g l
  foot_inside m p N j zero (child_op n is) g l = child_reach G M L p j (needs_of G n) N g.1 l
  foot_inside m p N j (suc c) (child_op n is) g l = foot_inside m p N (suc j) c is g.3 l

  -- ---- those beside the child to which the step leads

  -- of one that waits nothing is said of the map
  waiting_still : (m o : Map G) (p : Path G) (n : Operation G) → is_waiting G (stage_of G n) ≡ true → Good G M L m p n → Good G M L o p n
  waiting_still m o p (op D N i f ps (idle first) is) e g =
      (record { rooted = g.0.rooted; own = g.0.own; held = g.0.held; stage = g.0.stage; free = g.0.free; free_claimed = g.0.free_claimed }, no_items is g.0.stage)
    where
      no_items : (is : Items G) → NoItem G is → GoodItems G M L o p N 0 is
      no_items no_item h = tt
      no_items (said t is) h = absurd h
      no_items (child_op n is) h = absurd h
  waiting_still m o p (op D N i f ps (idle nothing) is) e g = absurd cc
  waiting_still m o p (op D N i f ps (idle (part k)) is) e g = absurd cc
  waiting_still m o p (op D N i f ps (idle (child c)) is) e g = absurd cc
  waiting_still m o p (op D N i f ps (filling w d l) is) e g = absurd cc
  waiting_still m o p (op D N i f ps (out w d) is) e g = absurd cc
  waiting_still m o p (op D N i f ps (closing x) is) e g = absurd cc
  waiting_still m o p (op D N i f ps (over x) is) e g = absurd cc
  waiting_still m o p (op D N i f ps dropped is) e g = absurd cc

  later_good : (es : List (Effect G)) (m : Map G) (p : Path G) (N : G.Needs) (a : ℕ) (q : Operation G) (j : ℕ) (is : Items G) → is_over G (stage_of G q) ≡ false → Rooted G (a ∷ p) (needs_of G q) → a < j →
      AllOwned G (reach G (a ∷ p) (needs_of G q)) es → ApartFrom G q is → GoodItems G M L m p N j is → GoodItems G M L (run_all G es m) p N j is
  later_good es m p N a q j no_item o r h w t g = tt
  later_good es m p N a q j (said u is) o r h w t g = later_good es m p N a q j is o r h w t g
  later_good es m p N a q j (child_op n is) o r h w t g = (
    by_test (is_waiting G (stage_of G n)) (λ b. is_waiting G (stage_of G n) ≡ b → Good G M L (run_all G es m) (j ∷ p) n)
        (λ e k. waiting_still m (run_all G es m) (j ∷ p) n k g.0)
        (λ e k. good_run_all G M L es m (j ∷ p) n g.0 (all_foreign (open_reach G M L (j ∷ p) n) (reach G (a ∷ p) (needs_of G q)) es
        (open_apart p j n (reach G (a ∷ p) (needs_of G q)) (λ v l. apart_turned G _ _ (reach_apart G p a j (needs_of G q) (needs_of G n) (differ a j h) r (node_rooted m (j ∷ p) n g.0)
        (t.0 o (and_from _ _ (ap not k) (ap not v))) l))) w)) refl,
    g.1,
    g.2,
    later_good es m p N a q (suc j) is o r (omega arith) w t.1 g.3,
  )

  quiet_from : (a : Mode G.Op) (x y : Option (Mode G.Op)) → (a ≡ reads) ⊎ (a ≡ writes) → Apart G x y → Inside G (Some a) y → Quiet G x
  quiet_from a None y c h i = tt
  quiet_from a (Some reads) y c h i = tt
  quiet_from a (Some writes) None c h (inl e) = absurd cc
  quiet_from a (Some writes) None c h (inr e) = absurd cc
  quiet_from a (Some writes) (Some b) c h i = absurd (by_mode b h)
    where
      by_mode : (b : Mode G.Op) → Together G writes b → ⊥
      by_mode reads h = h
      by_mode writes h = h
      by_mode (reduces o) h = h
  quiet_from a (Some (reduces q)) None c h (inl e) = absurd cc
  quiet_from a (Some (reduces q)) None c h (inr e) = absurd cc
  quiet_from a (Some (reduces q)) (Some reads) c h i = absurd h
  quiet_from a (Some (reduces q)) (Some writes) c h i = absurd h
  quiet_from reads (Some (reduces q)) (Some (reduces o)) c h (inl e) = absurd cc
  quiet_from writes (Some (reduces q)) (Some (reduces o)) c h (inl e) = absurd cc
  quiet_from (reduces u) (Some (reduces q)) (Some (reduces o)) (inl d) h (inl e) = absurd cc
  quiet_from (reduces u) (Some (reduces q)) (Some (reduces o)) (inr d) h (inl e) = absurd cc
  quiet_from a (Some (reduces q)) (Some (reduces o)) c h (inr e) = absurd cc

  -- what a process leaves still agrees where it is apart
  agree_after : {A : Type 0} (f g : Footprint G) (F : Process G A) (u m : Map G) → Within G f F → ((l : G.Location) → Apart G (f l) (g l)) → Agree G M L g u m → Holds G M L (λ v o. Agree G M L g o m) (F u)
  agree_after f g F u m w a h = kept (F u) (λ l c k. w.steady l k u)
    where
      kept : {A : Type 0} (r : Result G A) → ((l : G.Location) → Unit {0} → Quiet G (f l) → Keeps G l u r) → Holds G M L (λ v o. Agree G M L g o m) r
      kept (done v t o) k = λ l a i. at_mode l a i (λ c. k l tt (quiet_from a (f l) (g l) c (a_at l) i))
        where
          a_at : (l : G.Location) → Apart G (f l) (g l)
          a_at = a

          at_mode : (l : G.Location) (b : Mode G.Op) → Inside G (Some b) (g l) → ((b ≡ reads) ⊎ (b ≡ writes) → o l ≡ u l) → number_of G M b l o ≡ number_of G M b l m
          at_mode l reads i e = e (inl refl) ∙ h l reads i
          at_mode l writes i e = e (inr refl) ∙ h l writes i
          at_mode l (reduces q) i e = refl
      kept (fails x t) k = tt
      kept spent k = tt

  open_gives : (st : Stage G) (v : G.Answer) → is_over G st ≡ false → given_by G M st ≡ Some v → ⊥
  open_gives (idle w) v e h = cc
  open_gives (filling w d l) v e h = cc
  open_gives (out w d) v e h = cc
  open_gives (closing x) v e h = cc
  open_gives (over x) v e h = cc
  open_gives dropped v e h = cc

  -- ---- the spots of one in whose child a step is

  spot_apart : (p : Path G) (j c : ℕ) (Ns : List G.Needs) (is : Items G) (x : Spot G) (xs : List (Spot G)) → under G (G.maker x.location) p ≡ true → Begun Ns c is → FreeOf G (x ∷ xs) is →
      Apart G (Some x.mode) (foot_of c p j is x.location)
  spot_apart p j c Ns no_item x xs u b f = absurd b
  spot_apart p j c Ns (said t is) x xs u b f = spot_apart p j c Ns is x xs u b f
  spot_apart p j zero Ns (child_op n is) x xs u b f = subst (Apart G (Some x.mode)) (sym (reach_needs G p j (needs_of G n) x.location u)) (f.0 b.0).0
  spot_apart p j (suc c) Ns (child_op n is) x xs u b f = spot_apart p (suc j) c (still_open G M n Ns) is x xs u b f.1

  number_still : (f : Footprint G) (es : List (Effect G)) (a : Mode G.Op) (l : G.Location) (m : Map G) → Apart G (Some a) (f l) → AllOwned G f es → number_of G M a l (run_all G es m) ≡ number_of G M a l m
  number_still f es reads l m h w = owned_steady G L.terms f l es (quiet (f l) h) w m
    where
      quiet : (x : Option (Mode G.Op)) → Apart G (Some reads) x → Quiet G x
      quiet None h = tt
      quiet (Some reads) h = tt
      quiet (Some writes) h = absurd h
      quiet (Some (reduces o)) h = absurd h
  number_still f es writes l m h w = owned_steady G L.terms f l es (quiet (f l) h) w m
    where
      quiet : (x : Option (Mode G.Op)) → Apart G (Some writes) x → Quiet G x
      quiet None h = tt
      quiet (Some reads) h = absurd h
      quiet (Some writes) h = absurd h
      quiet (Some (reduces o)) h = absurd h
  number_still f es (reduces o) l m h w = refl

  filled_still : (p : Path G) (j c : ℕ) (Ns : List G.Needs) (is : Items G) (xs : List (Spot G)) (es : List (Effect G)) (m : Map G) → Above G M L p xs → Begun Ns c is → FreeOf G xs is →
      AllOwned G (foot_of c p j is) es → filled G M xs (run_all G es m) ≡ filled G M xs m
  filled_still p j c Ns is [] es m u b f w = refl
  filled_still p j c Ns is (x ∷ xs) es m u b f w = λ i. record {
    location = x.location;
    mode = x.mode;
    number = number_still (foot_of c p j is) es x.mode x.location m (spot_apart p j c Ns is x xs u.0 b f) w i;
  } ∷ filled_still p j c Ns is xs es m u.1 b (free_tail G M L x xs is f) w i

  -- ---- the walk

  if_behind : (g : Items G → Items G) (o : Option (Stepped G (Items G))) (P Q : Stepped G (Items G) → Type 0) → IfStep G M L o P →
      ((s : Stepped G (Items G)) → P s → Q (record { left = g s.left; effects = s.effects })) → IfStep G M L (behind G M g o) Q
  if_behind g None P Q h k = tt
  if_behind g (Some s) P Q h k = k s h

  if_child : (is : Items G) (o : Option (Stepped G (Operation G))) (P : Stepped G (Operation G) → Type 0) (Q : Stepped G (Items G) → Type 0) → IfStep G M L o P →
      ((s : Stepped G (Operation G)) → P s → Q (record { left = child_op s.left is; effects = s.effects })) → IfStep G M L (as_child G M is o) Q
  if_child is None P Q h k = tt
  if_child is (Some s) P Q h k = k s h

  if_op : (D N : G.Needs) (i : ℕ) (f : G.Frame) (ps : List (Element G)) (st : Stage G) (o : Option (Stepped G (Items G))) (P : Stepped G (Items G) → Type 0) (Q : Stepped G (Operation G) → Type 0) → IfStep G M L o P →
      ((s : Stepped G (Items G)) → P s → Q (record { left = settle G M (op D N i f ps st s.left); effects = s.effects })) → IfStep G M L (in_op G M D N i f ps st o) Q
  if_op D N i f ps st None P Q h k = tt
  if_op D N i f ps st (Some s) P Q h k = k s h

  said_good : (m : Map G) (p : Path G) (N : G.Needs) (j c : ℕ) (Ns : List G.Needs) (t : List G.Byte) (is : Items G) (s : Stepped G (Items G)) → AmongGood m p N j c Ns is s →
      AmongGood m p N j c Ns (said t is) (record { left = said t s.left; effects = s.effects })
  said_good m p N j c Ns t is s g = record {
    begun = g.begun;
    owned = g.owned;
    good = g.good;
    finishes = λ K u a. below_prefix G t _ _ (g.finishes K u a);
    frees = g.frees;
    aparts = g.aparts;
    answers = g.answers;
  }

  child_good : (m : Map G) (p : Path G) (N : G.Needs) (j : ℕ) (Ns : List G.Needs) (n : Operation G) (is : Items G) (s : Stepped G (Operation G)) → GoodItems G M L m p N j (child_op n is) →
      StepGood G M L m (j ∷ p) (not (meets_any G M Ns (needs_of G n))) n s → AmongGood m p N j zero Ns (child_op n is) (record { left = child_op s.left is; effects = s.effects })
  child_good m p N j Ns n is s h g = record {
    begun = (g.was_open, g.began);
    owned = g.owned;
    good = (
      g.good,
      λ l. subst (λ x. Inside G (G.at x l) (G.at N l)) (sym g.same_needs) (h.1 l),
      same_apart is h.2,
      later_good s.effects m p N j n (suc j) is g.was_open (node_rooted m (j ∷ p) n h.0) (omega arith) g.owned h.2 h.3,
    );
    finishes = λ K u a. below_then G (finish G M (suc K) (j ∷ p) n u) (finish G M (suc K) (j ∷ p) s.left (run_all G s.effects u)) _ _ (g.finishes K u a) (λ v o. inr refl);
    frees = λ xs f. (λ e. subst (λ x. AllApart G x xs) (sym g.same_needs) (f.0 g.was_open), f.1);
    aparts = λ q a t. (λ o r. subst (ApartNeeds G (needs_of G q)) (sym g.same_needs) (t o), a.1);
    answers = by_place;
  }
    where
      same_apart : (js : Items G) → ApartFrom G n js → ApartFrom G s.left js
      same_apart no_item a = tt
      same_apart (said t js) a = same_apart js a
      same_apart (child_op d js) a = (λ o r. subst (λ x. ApartNeeds G x (needs_of G d)) (sym g.same_needs) (a.0 g.was_open r), same_apart js a.1)

      by_place : (x : ℕ) (v : G.Answer) → answer_of G M (child_op n is) x ≡ Some v → answer_of G M (child_op s.left is) x ≡ Some v
      by_place zero v e = absurd (open_gives (stage_of G n) v g.was_open e)
      by_place (suc x) v e = e

  behind_good : (m : Map G) (p : Path G) (N : G.Needs) (j c : ℕ) (Ns : List G.Needs) (n : Operation G) (is : Items G) (s : Stepped G (Items G)) → GoodItems G M L m p N j (child_op n is) →
      AmongGood m p N (suc j) c (still_open G M n Ns) is s → AmongGood m p N j (suc c) Ns (child_op n is) (record { left = child_op n s.left; effects = s.effects })
  behind_good m p N j c Ns n is s h g = record {
    begun = g.begun;
    owned = g.owned;
    good = (
      good_run_all G M L s.effects m (j ∷ p) n h.0 (all_foreign (open_reach G M L (j ∷ p) n) foot s.effects apart g.owned),
      h.1,
      g.aparts n h.2 (λ o. apart_to n c (still_open G M n Ns) is o h.2 (open_in n Ns o) g.begun),
      g.good,
    );
    finishes = λ K u a. below_through G _ _ _
        (below_holding G M L (λ v o. Agree G M L foot o m) (finish G M (suc K) (j ∷ p) n u) _
        (λ v o. and_then G (finish_items G M (suc K) p (suc j) s.left (run_all G s.effects o)) (λ vs. gives G (v ∷ vs)))
        (agree_after (open_reach G M L (j ∷ p) n) foot (finish G M (suc K) (j ∷ p) n) u m (finish_within G M L (suc K) m (j ∷ p) n h.0) apart a)
        (λ v o k. below_then G (finish_items G M (suc K) p (suc j) is o) (finish_items G M (suc K) p (suc j) s.left (run_all G s.effects o)) _ _ (g.finishes K o k) (λ vs w. inr refl)))
        (below_same G _ _ (sym (ap (λ r. and_then G r (λ v. bind G (finish_items G M (suc K) p (suc j) s.left) (λ vs. gives G (v ∷ vs))))
        (passes_all G (open_reach G M L (j ∷ p) n) (finish G M (suc K) (j ∷ p) n) (finish_within G M L (suc K) m (j ∷ p) n h.0) s.effects (all_foreign (open_reach G M L (j ∷ p) n) foot s.effects apart g.owned) u)
        ∙ then_map G M L (run_all G s.effects) (finish G M (suc K) (j ∷ p) n u) _)));
    frees = λ xs f. (f.0, g.frees xs f.1);
    aparts = λ q a t. (a.0, g.aparts q a.1 t);
    answers = by_place;
  }
    where
      foot : Footprint G
      foot = foot_of c p (suc j) is

      apart : (l : G.Location) → Apart G (open_reach G M L (j ∷ p) n l) (foot_of c p (suc j) is l)
      apart = open_apart p j n (foot_of c p (suc j) is) (λ o. foot_apart m p N j (needs_of G n) n (suc j) c is refl (node_rooted m (j ∷ p) n h.0) (omega arith) h.3
          (apart_to n c (still_open G M n Ns) is o h.2 (open_in n Ns o) g.begun))

      by_place : (x : ℕ) (v : G.Answer) → answer_of G M (child_op n is) x ≡ Some v → answer_of G M (child_op n s.left) x ≡ Some v
      by_place zero v e = e
      by_place (suc x) v e = g.answers x v e

  answered_still : (w : Wait G) (is js : Items G) → (NoItem G is → ⊥) → ((x : ℕ) (v : G.Answer) → answer_of G M is x ≡ Some v → answer_of G M js x ≡ Some v) → Answered G M L w is → Answered G M L w js
  answered_still first is js n h a = absurd (n a)
  answered_still nothing is js n h a = tt
  answered_still (part k) is js n h a = tt
  answered_still (child c) is js n h a = (a.0, h c a.0 a.1)

  begun_item : (Ns : List G.Needs) (c : ℕ) (is : Items G) → Begun Ns c is → NoItem G is → ⊥
  begun_item Ns c no_item b h = b
  begun_item Ns c (said t is) b h = h
  begun_item Ns c (child_op n is) b h = h

  op_stage : (m : Map G) (p : Path G) (D N : G.Needs) (i : ℕ) (ps : List (Element G)) (st : Stage G) (is : Items G) (c : ℕ) (s : Stepped G (Items G)) → is_over G st ≡ false → GoodOp G M L m p D N i ps st is →
      AmongGood m p N 0 c [] is s → StageGood G M L (run_all G s.effects m) N st s.left
  op_stage m p D N i ps (idle first) is c s e g a = absurd (begun_item [] c is a.begun g.stage)
  op_stage m p D N i ps (idle nothing) is c s e g a = tt
  op_stage m p D N i ps (idle (part k)) is c s e g a = tt
  op_stage m p D N i ps (idle (child x)) is c s e g a = tt
  op_stage m p D N i ps (filling w d l) is c s e g a = (
    filled_still p 0 c [] is (spots G d) s.effects m
        (held_above G M L p i D N g.rooted g.own (spots G d) (held_parts G M L (G.at N) (spots G d) l (subst (Held G (G.at N)) (sym g.stage.1) (wants_held G M L N w))).0)
        a.begun (free_parts G M L (spots G d) l is g.free_claimed).0 a.owned ∙ g.stage.0,
    g.stage.1,
    answered_still w is s.left (begun_item [] c is a.begun) a.answers g.stage.2,
  )
  op_stage m p D N i ps (out w d) is c s e g a = (
    filled_still p 0 c [] is (spots G d) s.effects m
        (held_above G M L p i D N g.rooted g.own (spots G d) (subst (Held G (G.at N)) (sym g.stage.1) (wants_held G M L N w)))
        a.begun g.free_claimed a.owned ∙ g.stage.0,
    g.stage.1,
    answered_still w is s.left (begun_item [] c is a.begun) a.answers g.stage.2,
  )
  op_stage m p D N i ps (closing x) is c s e g a = tt
  op_stage m p D N i ps (over x) is c s e g a = absurd cc
  op_stage m p D N i ps dropped is c s e g a = absurd cc

  op_good : (m : Map G) (p : Path G) (before : Bool) (D N : G.Needs) (i : ℕ) (f : G.Frame) (ps : List (Element G)) (st : Stage G) (is : Items G) (c : ℕ) (s : Stepped G (Items G)) → is_over G st ≡ false →
      Good G M L m p (op D N i f ps st is) → AmongGood m p N 0 c [] is s → StepGood G M L m p before (op D N i f ps st is) (record { left = settle G M (op D N i f ps st s.left); effects = s.effects })
  op_good m p before D N i f ps st is c s e g a = record {
    was_open = e;
    began = inl (by_test (is_waiting G st) (λ b. is_waiting G st ≡ b → (not b && not (is_over G st)) ≡ true)
        (λ t k. absurd (begun_item [] c is a.begun (waiting_none G M L m N st is k g.0.stage))) (λ t k. ap not e) refl);
    same_needs = refl;
    owned = owned_wider (foot_of c p 0 is) (reach G p D) s.effects inside a.owned;
    good = settle_good G M L (run_all G s.effects m) p (op D N i f ps st s.left) (
      record {
        rooted = g.0.rooted;
        own = g.0.own;
        held = g.0.held;
        stage = op_stage m p D N i ps st is c s e g.0 a;
        free = a.frees (spots G ps) g.0.free;
        free_claimed = a.frees (claimed_by G st) g.0.free_claimed;
      },
      a.good,
    );
    finishes = λ K u h. below_through G _ _ _
        (below_then G (finish_items G M (suc K) p 0 is u) (finish_items G M (suc K) p 0 s.left (run_all G s.effects u)) _ _ (a.finishes K u (agree_narrower G M L (foot_of c p 0 is) (reach G p D) u m inside h)) (λ vs o. inr refl))
        (below_same G _ _ (sym (settle_finishes G M L (suc K) p (op D N i f ps st s.left) (run_all G s.effects u))));
  }
    where
      inside : (l : G.Location) → Inside G (foot_of c p 0 is l) (reach G p D l)
      inside l = inside_inside G (foot_of c p 0 is l) (reach G p N l) (reach G p D l) (foot_inside m p N 0 c is g.1 l) (reach_inside G M L p D N i g.0.own l)

  mutual
    pub step_good : (k : Kind) (way : List ℕ) (p : Path G) (before : Bool) (m : Map G) (n : Operation G) → Good G M L m p n → IfStep G M L (step_in G M k way p before m n) (StepGood G M L m p before n)
    step_good k [] p before m (op D N i f ps st is) g = own_good G M L k m p before (op D N i f ps st is) g
    step_good k (c ∷ way) p before m (op D N i f ps st is) g = by_test (is_over G st)
        (λ b. is_over G st ≡ b → IfStep G M L (cond b None (in_op G M D N i f ps st (step_among G M k c way p 0 [] m is))) (StepGood G M L m p before (op D N i f ps st is)))
        (λ e h. tt)
        (λ e h. if_op D N i f ps st (step_among G M k c way p 0 [] m is) (AmongGood m p N 0 c [] is) (StepGood G M L m p before (op D N i f ps st is)) (among_good k c way p N 0 [] m is g.1)
        (λ s a. op_good m p before D N i f ps st is c s h g a)) refl

    pub among_good : (k : Kind) (c : ℕ) (way : List ℕ) (p : Path G) (N : G.Needs) (j : ℕ) (Ns : List G.Needs) (m : Map G) (is : Items G) → GoodItems G M L m p N j is →
        IfStep G M L (step_among G M k c way p j Ns m is) (AmongGood m p N j c Ns is)
    among_good k c way p N j Ns m no_item g = tt
    among_good k c way p N j Ns m (said t is) g = if_behind (said t) (step_among G M k c way p j Ns m is) (AmongGood m p N j c Ns is) (AmongGood m p N j c Ns (said t is)) (among_good k c way p N j Ns m is g)
        (λ s a. said_good m p N j c Ns t is s a)
    among_good k zero way p N j Ns m (child_op n is) g = if_child is (step_in G M k way (j ∷ p) (not (meets_any G M Ns (needs_of G n))) m n) (StepGood G M L m (j ∷ p) (not (meets_any G M Ns (needs_of G n))) n) (AmongGood m p N j zero Ns (child_op n is))
        (step_good k way (j ∷ p) (not (meets_any G M Ns (needs_of G n))) m n g.0) (λ s a. child_good m p N j Ns n is s g a)
    among_good k (suc c) way p N j Ns m (child_op n is) g = if_behind (child_op n) (step_among G M k c way p (suc j) (still_open G M n Ns) m is) (AmongGood m p N (suc j) c (still_open G M n Ns) is) (AmongGood m p N j (suc c) Ns (child_op n is))
        (among_good k c way p N (suc j) (still_open G M n Ns) m is g.3) (λ s a. behind_good m p N j c Ns n is s g a)
