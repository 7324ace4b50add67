-- The four steps of an operation leave what finishing it comes to as it was.
use Rattle.std.proofs.Common.{◌≡◌, ◌++◌, ◌∷◌, ◌∙◌, List, [], ap, append_assoc, append-nil, drop, refl, subst, suc, sym, take, take-append-drop, ℕ}
use Rattle.board_rules.specs.Ground.{Ground}
use Rattle.board_rules.specs.Processes.{Map, Result, and_then, done, fails, spent}
use Rattle.board_rules.specs.Running.{Element, Held, Laws, Machine, Path, Spot, filled, reach, run_on, spots}
use Rattle.board_rules.specs.Boards.{Items, Stage, Wait, copied, filling, finish, finish_items, heard, idle, met_by, op, out, remaining, resume, wants}
use Rattle.board_laws.proofs.Reaching.{Agree, filled_same, held_wider}
use Rattle.board_laws.proofs.Turns.{Below, below_same}
use Rattle.board_laws.proofs.Good.{FreeOf, GoodItems, GoodOp}
use Rattle.board_laws.proofs.Finishing.{held_parts, inside_own, wants_held}
use Rattle.board_laws.proofs.Passing.{Holds, below_holding, held_above, items_fill}
use Rattle.board_laws.proofs.Giving.{filled_append, free_parts}

module _ (G : Ground) (M : Machine G) (L : Laws G M) where
  copied_remaining : (K : ℕ) (p : Path G) (N : G.Needs) (i : ℕ) (f : G.Frame) (ps : List (Element G)) (w : Wait G) (d : List (Element G)) (l : List (Spot G)) (vs : List G.Answer) →
      remaining G M K p N i f ps (copied G M w d l) vs ≡ resume G M K p N i f ps vs w d l
  copied_remaining K p N i f ps w d [] vs = refl
  copied_remaining K p N i f ps w d (x ∷ l) vs = refl

  module _ (K : ℕ) (m n : Map G) (p : Path G) (D N : G.Needs) (i : ℕ) (f : G.Frame) (ps : List (Element G)) (is : Items G)
      (agree : Agree G M L (reach G p D) n m) (child_count : GoodItems G M L m p N 0 is) where
    -- spots that are free are filled in the end as they are now
    fill_now : (st : Stage G) (xs : List (Spot G)) → GoodOp G M L m p D N i ps st is → Held G (G.at N) xs → FreeOf G xs is →
        Holds G M L (λ vs o. filled G M xs o ≡ filled G M xs m) (finish_items G M (suc K) p 0 is n)
    fill_now st xs g h free = then_now (finish_items G M (suc K) p 0 is n) (items_fill G M L (suc K) m p N 0 is xs child_count free (held_above G M L p i D N g.rooted g.own xs h) n)
      where
        now : filled G M xs n ≡ filled G M xs m
        now = filled_same G M L (reach G p D) xs n m (held_wider G (G.at N) (reach G p D) xs (inside_own G M L p D N i g.own) h) agree

        then_now : {A : Type 0} (r : Result G A) → Holds G M L (λ vs o. filled G M xs o ≡ filled G M xs n) r → Holds G M L (λ vs o. filled G M xs o ≡ filled G M xs m) r
        then_now (done a t o) e = e ∙ now
        then_now (fails x t) e = tt
        then_now spent e = tt

    pub copy_finishes : (w : Wait G) (d : List (Element G)) (l : List (Spot G)) → GoodOp G M L m p D N i ps (filling w d l) is →
        Below G (finish G M (suc K) p (op D N i f ps (filling w d l) is) n)
        (finish G M (suc K) p (op D N i f ps (copied G M w (d ++ filled G M (take M.chunk l) m) (drop M.chunk l)) is) n)
    copy_finishes w d l g = below_holding G M L _ (finish_items G M (suc K) p 0 is n) _ _ (fill_now (filling w d l) (take M.chunk l) g held_now free_now)
        (λ vs o h. below_same G _ _ (ap (λ xs. run_on G M (suc K) p N i (met_by G M w f (heard G M w vs)) (ps ++ xs) vs o) (same o h)
        ∙ ap (λ F. F o) (sym (copied_remaining (suc K) p N i f ps w (d ++ filled G M (take M.chunk l) m) (drop M.chunk l) vs))))
      where
        all_held : Held G (G.at N) l
        all_held = (held_parts G M L (G.at N) (spots G d) l (subst (Held G (G.at N)) (sym g.stage.1) (wants_held G M L N w))).1

        held_now : Held G (G.at N) (take M.chunk l)
        held_now = (held_parts G M L (G.at N) (take M.chunk l) (drop M.chunk l) (subst (Held G (G.at N)) (sym (take-append-drop M.chunk l)) all_held)).0

        free_now : FreeOf G (take M.chunk l) is
        free_now = (free_parts G M L (take M.chunk l) (drop M.chunk l) is (subst (λ xs. FreeOf G xs is) (sym (take-append-drop M.chunk l)) (free_parts G M L (spots G d) l is g.free_claimed).1)).0

        same : (o : Map G) → filled G M (take M.chunk l) o ≡ filled G M (take M.chunk l) m →
            d ++ filled G M l o ≡ (d ++ filled G M (take M.chunk l) m) ++ filled G M (drop M.chunk l) o
        same o h = ap (λ xs. d ++ xs) (ap (λ xs. filled G M xs o) (sym (take-append-drop M.chunk l)) ∙ filled_append G M L (take M.chunk l) (drop M.chunk l) o ∙ ap (λ xs. xs ++ filled G M (drop M.chunk l) o) h)
            ∙ sym (append_assoc d (filled G M (take M.chunk l) m) (filled G M (drop M.chunk l) o))

    -- what was filled would be filled alike again
    back_finishes : (w : Wait G) (d : List (Element G)) (l : List (Spot G)) (st : Stage G) → GoodOp G M L m p D N i ps st is → Held G (G.at N) (spots G d) → FreeOf G (spots G d) is →
        filled G M (spots G d) m ≡ d → spots G d ++ l ≡ wants G M N w →
        Below G (and_then G (finish_items G M (suc K) p 0 is n) (λ vs. resume G M (suc K) p N i f ps vs w d l)) (finish G M (suc K) p (op D N i f ps (idle w) is) n)
    back_finishes w d l st g held free was all = below_holding G M L _ (finish_items G M (suc K) p 0 is n) _ _ (fill_now st (spots G d) g held free)
        (λ vs o h. below_same G _ _ (ap (λ xs. run_on G M (suc K) p N i (met_by G M w f (heard G M w vs)) (ps ++ xs) vs o) (same o h)))
      where
        same : (o : Map G) → filled G M (spots G d) o ≡ filled G M (spots G d) m → d ++ filled G M l o ≡ filled G M (wants G M N w) o
        same o h = ap (λ xs. xs ++ filled G M l o) (sym (h ∙ was)) ∙ sym (filled_append G M L (spots G d) l o) ∙ ap (λ xs. filled G M xs o) all

    pub back_from_filling : (w : Wait G) (d : List (Element G)) (l : List (Spot G)) → GoodOp G M L m p D N i ps (filling w d l) is →
        Below G (finish G M (suc K) p (op D N i f ps (filling w d l) is) n) (finish G M (suc K) p (op D N i f ps (idle w) is) n)
    back_from_filling w d l g = back_finishes w d l (filling w d l) g
        (held_parts G M L (G.at N) (spots G d) l (subst (Held G (G.at N)) (sym g.stage.1) (wants_held G M L N w))).0
        (free_parts G M L (spots G d) l is g.free_claimed).0 g.stage.0 g.stage.1

    pub back_from_out : (w : Wait G) (d : List (Element G)) → GoodOp G M L m p D N i ps (out w d) is →
        Below G (finish G M (suc K) p (op D N i f ps (out w d) is) n) (finish G M (suc K) p (op D N i f ps (idle w) is) n)
    back_from_out w d g = back_finishes w d [] (out w d) g (subst (Held G (G.at N)) (sym g.stage.1) (wants_held G M L N w)) g.free_claimed g.stage.0 (append-nil (spots G d) ∙ g.stage.1)
