-- Effects that don't conflict commute; processes within a footprint, and what is made of them.
use Rattle.std.proofs.Common.{◌≡◌, ◌++◌, ◌∷◌, ◌∙◌, Bool, List, [], ap, append_assoc, cond, false, refl, subst, sym, true}
use Rattle.board_rules.specs.Ground.{Ground, Sound}
use Rattle.board_rules.specs.Processes.{AllForeign, Effect, Footprint, Keeps, Map, Process, Result, Together, Within, act, and_then, bind, done, fails, faults, fold_in, gives, mode_of, on_map, location_of, prefix, put, run, run_all, says, spent}

module _ (G : Ground) where
  acts_swap : Sound G → (e d : Effect G) → Together G (mode_of G e) (mode_of G d) → (x : G.Number) → act G e (act G d x) ≡ act G d (act G e x)
  acts_swap S (put a v) (put b w) h x = absurd h
  acts_swap S (put a v) (fold_in o b w) h x = absurd h
  acts_swap S (fold_in o a v) (put b w) h x = absurd h
  acts_swap S (fold_in o a v) (fold_in p b w) h x = subst (λ q. G.applied o (G.applied q x w) v ≡ G.applied q (G.applied o x v) w) h (S.swaps o x w v)

  both : (b c : Bool) (x : G.Number) (f g : G.Number → G.Number) → (b ≡ true → c ≡ true → f (g x) ≡ g (f x)) →
      cond b (f (cond c (g x) x)) (cond c (g x) x) ≡ cond c (g (cond b (f x) x)) (cond b (f x) x)
  both true true x f g h = h refl refl
  both true false x f g h = refl
  both false true x f g h = refl
  both false false x f g h = refl

  pub runs_swap : Sound G → (e d : Effect G) → (location_of G e ≡ location_of G d → Together G (mode_of G e) (mode_of G d)) → (m : Map G) → run G e (run G d m) ≡ run G d (run G e m)
  runs_swap S e d h m = λ i l. both (G.same (location_of G e) l) (G.same (location_of G d) l) (m l) (act G e) (act G d)
      (λ p q. acts_swap S e d (h (S.same_is _ _ p ∙ sym (S.same_is _ _ q))) (m l)) i

  -- ---- results

  pub prefix_prefix : {A : Type 0} (t u : List G.Byte) (r : Result G A) → prefix G t (prefix G u r) ≡ prefix G (t ++ u) r
  prefix_prefix t u (done a v m) = λ i. done a (sym (append_assoc t u v) i) m
  prefix_prefix t u (fails f v) = λ i. fails f (sym (append_assoc t u v) i)
  prefix_prefix t u spent = refl

  pub prefix_none : {A : Type 0} (r : Result G A) → prefix G [] r ≡ r
  prefix_none (done a v m) = refl
  prefix_none (fails f v) = refl
  prefix_none spent = refl

  pub then_prefix : {A B : Type 0} (t : List G.Byte) (r : Result G A) (k : A → Process G B) → and_then G (prefix G t r) k ≡ prefix G t (and_then G r k)
  then_prefix t (done a u m) k = sym (prefix_prefix t u (k a m))
  then_prefix t (fails f u) k = refl
  then_prefix t spent k = refl

  pub then_then : {A B C : Type 0} (r : Result G A) (k : A → Process G B) (j : B → Process G C) → and_then G (and_then G r k) j ≡ and_then G r (λ a. bind G (k a) j)
  then_then (done a u m) k j = then_prefix u (k a m) j
  then_then (fails f u) k j = refl
  then_then spent k j = refl

  pub map_prefix : {A : Type 0} (g : Map G → Map G) (t : List G.Byte) (r : Result G A) → on_map G g (prefix G t r) ≡ prefix G t (on_map G g r)
  map_prefix g t (done a u m) = refl
  map_prefix g t (fails f u) = refl
  map_prefix g t spent = refl

  pub map_map : {A : Type 0} (g h : Map G → Map G) (r : Result G A) → on_map G h (on_map G g r) ≡ on_map G (λ m. h (g m)) r
  map_map g h (done a u m) = refl
  map_map g h (fails f u) = refl
  map_map g h spent = refl

  pub keeps_prefix : {A : Type 0} (l : G.Location) (m : Map G) (t : List G.Byte) (r : Result G A) → Keeps G l m r → Keeps G l m (prefix G t r)
  keeps_prefix l m t (done a u n) h = h
  keeps_prefix l m t (fails f u) h = tt
  keeps_prefix l m t spent h = tt

  pub keeps_then : {A B : Type 0} (l : G.Location) (m : Map G) (r : Result G A) (k : A → Process G B) → Keeps G l m r → ((a : A) (n : Map G) → Keeps G l n (k a n)) → Keeps G l m (and_then G r k)
  keeps_then l m (done a u n) k h g = keeps_prefix l m u (k a n) (carry (k a n) (g a n))
    where
      carry : {B : Type 0} (r : Result G B) → Keeps G l n r → Keeps G l m r
      carry (done b v o) e = e ∙ h
      carry (fails f v) e = tt
      carry spent e = tt
  keeps_then l m (fails f u) k h g = tt
  keeps_then l m spent k h g = tt

  -- ---- processes within a footprint

  module _ (f : Footprint G) where
    pub within_gives : {A : Type 0} (a : A) → Within G f (gives G a)
    within_gives a = record { passes = λ e h m. refl; steady = λ l h m. refl }

    pub within_faults : {A : Type 0} (x : G.Fault) → Within G f (faults G {A = A} x)
    within_faults x = record { passes = λ e h m. refl; steady = λ l h m. tt }

    pub within_spent : {A : Type 0} → Within G {A = A} f (λ m. spent)
    within_spent = record { passes = λ e h m. refl; steady = λ l h m. tt }

    pub within_says : {A : Type 0} (t : List G.Byte) (F : Process G A) → Within G f F → Within G f (says G t F)
    within_says t F w = record {
      passes = λ e h m. ap (prefix G t) (w.passes e h m) ∙ sym (map_prefix (run G e) t (F m));
      steady = λ l h m. keeps_prefix l m t (F m) (w.steady l h m);
    }

    pub passes_then : {A B : Type 0} (e : Effect G) (r : Result G A) (k : A → Process G B) → ((a : A) (m : Map G) → k a (run G e m) ≡ on_map G (run G e) (k a m)) →
        and_then G (on_map G (run G e) r) k ≡ on_map G (run G e) (and_then G r k)
    passes_then e (done a t m) k h = ap (prefix G t) (h a m) ∙ sym (map_prefix (run G e) t (k a m))
    passes_then e (fails x t) k h = refl
    passes_then e spent k h = refl

    pub within_bind : {A B : Type 0} (F : Process G A) (k : A → Process G B) → Within G f F → ((a : A) → Within G f (k a)) → Within G f (bind G F k)
    within_bind F k w v = record {
      passes = λ e h m. ap (λ r. and_then G r k) (w.passes e h m) ∙ passes_then e (F m) k (λ a n. (v a).passes e h n);
      steady = λ l h m. keeps_then l m (F m) k (w.steady l h m) (λ a n. (v a).steady l h n);
    }

  -- a process passes a list of effects
  pub passes_all : {A : Type 0} (f : Footprint G) (F : Process G A) → Within G f F → (es : List (Effect G)) → AllForeign G f es → (m : Map G) → F (run_all G es m) ≡ on_map G (run_all G es) (F m)
  passes_all f F w [] h m = sym (same (F m))
    where
      same : {A : Type 0} (r : Result G A) → on_map G (λ n. n) r ≡ r
      same (done a u n) = refl
      same (fails x u) = refl
      same spent = refl
  passes_all f F w (e ∷ es) h m = passes_all f F w es h.1 (run G e m) ∙ ap (on_map G (run_all G es)) (w.passes e h.0 m) ∙ map_map (run G e) (run_all G es) (F m)
