-- The order run with roots by numbers: the number of a new root is how many were made before it, in
-- program order.
use Rattle.std.specs.Prelude.{◌&&◌, ◌++◌, ◌+◌, ◌∷◌, List, [], cond, length, suc, zero, ℕ}
use Rattle.board_rules.specs.Ground.{Ground}
use Rattle.board_rules.specs.Processes.{Map, Result, done, fails, prefix, run_all, spent}
use Rattle.board_rules.specs.Running.{Call, Element, Machine, Path, Yield, answer_at, await, calls, ends, filled, make, puts, stops, want}
use Rattle.board_rules.specs.Journals.{Job, Outcome, shown}

-- a root that was made: the place of its maker, innermost first, and which of its roots it is
pub record Making : Type 0 where
  pub maker : List ℕ
  pub making : ℕ

-- what was made, in order, and the result
pub record Run (G : Ground) (A : Type 0) : Type 0 where
  pub made : List Making
  pub result : Result G A

module _ (G : Ground) (M : ℕ → Machine G) where
  -- from the number of roots that were made before, and the map
  abbrev pub Counting : Type 0 → Type 0
  Counting A = ℕ → Map G → Run G A

  abbrev pub go_then : {A B : Type 0} → ℕ → List Making → Result G A → (A → Counting B) → Run G B
  go_then n xs (done a t m) k = record { made = xs ++ (k a (n + length xs) m).made; result = prefix G t (k a (n + length xs) m).result }
  go_then n xs (fails x t) k = record { made = xs; result = fails x t }
  go_then n xs spent k = record { made = xs; result = spent }

  abbrev pub bind_run : {A B : Type 0} → Counting A → (A → Counting B) → Counting B
  bind_run F k n m = go_then n (F n m).made (F n m).result k

  abbrev pub just : {A : Type 0} → A → Counting A
  just a n m = record { made = []; result = done a [] m }

  abbrev pub faulty : {A : Type 0} → G.Fault → Counting A
  faulty x n m = record { made = []; result = fails x [] }

  abbrev pub RestRun : Type 0
  RestRun = Path G → G.Needs → ℕ → G.Frame → List (Element G) → List G.Answer → Counting G.Answer

  abbrev pub children_run : RestRun → Path G → G.Needs → ℕ → List (Call G) → Counting (List G.Answer)
  children_run rest p N c [] = just []
  children_run rest p N c (x ∷ xs) = λ n m. cond (x.may && (M n).inside x.needs N)
      (bind_run (rest (c ∷ p) x.needs 0 x.frame [] []) (λ v. bind_run (children_run rest p N (suc c) xs) (λ vs. just (v ∷ vs))) n m)
      (faulty G.broken n m)

  abbrev pub makes_then : Making → Run G G.Answer → Run G G.Answer
  makes_then x r = record { made = x ∷ r.made; result = r.result }

  abbrev pub go_run : RestRun → Path G → G.Needs → ℕ → List G.Answer → G.Frame → List (Element G) → Yield G → Counting G.Answer
  go_run rest p N i vs f ps (calls xs) n m = bind_run (children_run rest p N (length vs) xs) (λ ws. rest p N i f [] (vs ++ ws)) n (run_all G (puts G (M n) ps) m)
  go_run rest p N i vs f ps (want k) n m = rest p N i f (ps ++ filled G (M n) ((M n).wanted N k) m) vs n m
  go_run rest p N i vs f ps (await c) n m = rest p N i ((M n).met f c (answer_at G (M n) vs c)) ps vs n m
  go_run rest p N i vs f ps (make d) n m = cond ((M n).sound d)
      (makes_then (record { maker = p; making = i }) (rest p ((M n).grown p i d N) (suc i) ((M n).pushed p i d f) ps vs (suc n) (run_all G ((M n).zeros p i d) m)))
      (faulty G.broken n m)
  go_run rest p N i vs f ps (ends v) n m = record { made = []; result = done v [] (run_all G (puts G (M n) ps) m) }
  go_run rest p N i vs f ps (stops x) n m = faulty x n m

  abbrev pub says_run : List G.Byte → Run G G.Answer → Run G G.Answer
  says_run t r = record { made = r.made; result = prefix G t r.result }

  abbrev pub numbered_run : ℕ → RestRun
  numbered_run zero p N i f ps vs n m = record { made = []; result = spent }
  numbered_run (suc k) p N i f ps vs n m =
      says_run ((M n).segment f ps).text (go_run (numbered_run k) p N i vs ((M n).segment f ps).frame ((M n).segment f ps).parts ((M n).segment f ps).yields n m)

  abbrev pub numbered_order_run : ℕ → Job G → Outcome G
  numbered_order_run k job = shown G (M 0) (numbered_run k [] job.needs 0 job.frame [] [] 0 job.map).result
