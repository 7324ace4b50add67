-- What a machine is, what is asked of it, and operations that run on in program order, each child whole
-- where it is called.
--
-- An operation stands at a place: the places of children that lead to it, innermost first.
use Rattle.std.specs.Prelude.{◌≡◌, ◌++◌, ◌∷◌, ◌⊎◌, Bool, List, Some, [], cond, false, length, suc, true, zero, ◌||◌, ◌&&◌, nat_eq, ℕ}
use Rattle.board_rules.specs.Ground.{Ground, Mode, Sound, reads, reduces, writes}
use Rattle.board_rules.specs.Processes.{Apart, Effect, Footprint, Inside, Map, Process, after, bind, faults, fold_in, gives, put, says, spent}

-- an element of a part
pub record Element (G : Ground) : Type 0 where
  pub location : G.Location
  pub mode : Mode G.Op
  pub number : G.Number

-- where an element stands and how it is held
pub record Spot (G : Ground) : Type 0 where
  pub location : G.Location
  pub mode : Mode G.Op

-- a call: whether it may be made at all, what the child needs, and its opening frame
pub record Call (G : Ground) : Type 0 where
  pub may : Bool
  pub needs : G.Needs
  pub frame : G.Frame

pub data Yield (G : Ground) : Type 0 where
  calls : List (Call G) → Yield G
  want : G.Key → Yield G
  await : ℕ → Yield G
  make : G.Made → Yield G
  ends : G.Answer → Yield G
  stops : G.Fault → Yield G

pub record After (G : Ground) : Type 0 where
  pub text : List G.Byte
  pub frame : G.Frame
  pub parts : List (Element G)
  pub yields : Yield G

module _ (G : Ground) where
  -- where the elements of parts stand, and how they are held
  abbrev pub spots : List (Element G) → List (Spot G)
  spots [] = []
  spots (x ∷ xs) = record { location = x.location; mode = x.mode } ∷ spots xs

  abbrev pub Path : Type 0
  Path = List ℕ

  abbrev pub same_path : Path → Path → Bool
  same_path [] [] = true
  same_path (a ∷ p) (b ∷ q) = nat_eq a b && same_path p q
  same_path _ _ = false

  -- q is p, or a place below it
  abbrev pub under : Path → Path → Bool
  under p [] = same_path p []
  under p (j ∷ q) = same_path p (j ∷ q) || under p q

  -- what an operation at a place may reach: its needs, and all that is made at its place or below it
  abbrev pub reach : Path → G.Needs → Footprint G
  reach p N l = cond (under p (G.maker l)) (Some writes) (G.at N l)

  -- each spot is within the footprint
  abbrev pub Held : Footprint G → List (Spot G) → Type 0
  Held f [] = Unit {0}
  Held f (x ∷ xs) = Inside G (Some x.mode) (f x.location) × Held f xs

  -- the zeros of what the operation at a place made
  abbrev pub MadeAt : Path → ℕ → List (Effect G) → Type 0
  MadeAt p i [] = Unit {0}
  MadeAt p i (put l v ∷ es) = (G.maker l ≡ p) × (G.making l ≡ i) × MadeAt p i es
  MadeAt p i (fold_in o l v ∷ es) = ⊥

-- what runs an operation's code, and how it deals with needs and with what is made
pub record Machine (G : Ground) : Type 1 where
  pub segment : G.Frame → List (Element G) → After G
  -- an awaited answer stands in every slot that held the child
  pub met : G.Frame → ℕ → G.Answer → G.Frame
  pub no_answer : G.Answer
  -- needs
  pub meets : G.Needs → G.Needs → Bool
  pub inside : G.Needs → G.Needs → Bool
  pub wanted : G.Needs → G.Key → List (Spot G)
  -- the needs on what a key names
  pub narrowed : G.Needs → G.Key → G.Needs
  -- how many elements are filled at once
  pub chunk : ℕ
  -- what an operation makes: whether it is sound, its value in the frame, the needs on it, and its zeros
  pub sound : G.Made → Bool
  pub pushed : Path G → ℕ → G.Made → G.Frame → G.Frame
  pub grown : Path G → ℕ → G.Made → G.Needs → G.Needs
  pub zeros : Path G → ℕ → G.Made → List (Effect G)

-- what is asked of the machine
pub record Laws (G : Ground) (M : Machine G) : Type 0 where
  pub terms : Sound G
  pub segment_keeps : (f : G.Frame) (ps : List (Element G)) → spots G (M.segment f ps).parts ≡ spots G ps
  pub apart : (a b : G.Needs) → M.meets a b ≡ false → (l : G.Location) → Apart G (G.at a l) (G.at b l)
  pub is_inside : (a b : G.Needs) → M.inside a b ≡ true → (l : G.Location) → Inside G (G.at a l) (G.at b l)
  pub wanted_held : (N : G.Needs) (k : G.Key) → Held G (G.at N) (M.wanted N k)
  pub narrowed_held : (N : G.Needs) (k : G.Key) → Held G (G.at (M.narrowed N k)) (M.wanted N k)
  pub zeros_mine : (p : Path G) (i : ℕ) (d : G.Made) → MadeAt G p i (M.zeros p i d)
  pub grown_more : (p : Path G) (i : ℕ) (d : G.Made) (N : G.Needs) (l : G.Location) → Inside G (G.at N l) (G.at (M.grown p i d N) l)
  pub grown_at : (p : Path G) (i : ℕ) (d : G.Made) (N : G.Needs) (l : G.Location) →
      (G.at (M.grown p i d N) l ≡ G.at N l) ⊎ ((G.maker l ≡ p) × (G.making l ≡ i))

module _ (G : Ground) (M : Machine G) where
  -- how an operation at a place goes on: with its needs, the number of its makings, its frame, its
  -- parts and the answers of its children so far
  abbrev pub Rest : Type 0
  Rest = Path G → G.Needs → ℕ → G.Frame → List (Element G) → List G.Answer → Process G G.Answer

  -- the number that an element is filled with
  abbrev pub number_of : Mode G.Op → G.Location → Map G → G.Number
  number_of reads l m = m l
  number_of writes l m = m l
  number_of (reduces o) l m = G.identity o

  abbrev pub filled : List (Spot G) → Map G → List (Element G)
  filled [] m = []
  filled (x ∷ xs) m = record { location = x.location; mode = x.mode; number = number_of x.mode x.location m } ∷ filled xs m

  -- what the parts change when they go back
  abbrev pub back_with : Mode G.Op → G.Location → G.Number → List (Effect G) → List (Effect G)
  back_with reads l v es = es
  back_with writes l v es = put l v ∷ es
  back_with (reduces o) l v es = fold_in o l v ∷ es

  abbrev pub puts : List (Element G) → List (Effect G)
  puts [] = []
  puts (x ∷ xs) = back_with x.mode x.location x.number (puts xs)

  -- the answer of a child by its place
  abbrev pub answer_at : List G.Answer → ℕ → G.Answer
  answer_at [] c = M.no_answer
  answer_at (v ∷ vs) zero = v
  answer_at (v ∷ vs) (suc c) = answer_at vs c

  -- children one by one, each whole
  abbrev pub children : Rest → Path G → G.Needs → ℕ → List (Call G) → Process G (List G.Answer)
  children rest p N c [] = gives G []
  children rest p N c (x ∷ xs) =
      cond (x.may && M.inside x.needs N)
      (bind G (rest (c ∷ p) x.needs 0 x.frame [] []) (λ v. bind G (children rest p N (suc c) xs) (λ vs. gives G (v ∷ vs))))
      (faults G G.broken)

  -- what follows a segment
  abbrev pub go_on : Rest → Path G → G.Needs → ℕ → List G.Answer → G.Frame → List (Element G) → Yield G → Process G G.Answer
  go_on rest p N i vs f ps (calls xs) =
      after G (puts ps) (bind G (children rest p N (length vs) xs) (λ ws. rest p N i f [] (vs ++ ws)))
  go_on rest p N i vs f ps (want k) = λ m. rest p N i f (ps ++ filled (M.wanted N k) m) vs m
  go_on rest p N i vs f ps (await c) = rest p N i (M.met f c (answer_at vs c)) ps vs
  go_on rest p N i vs f ps (make d) =
      cond (M.sound d) (after G (M.zeros p i d) (rest p (M.grown p i d N) (suc i) (M.pushed p i d f) ps vs)) (faults G G.broken)
  go_on rest p N i vs f ps (ends v) = after G (puts ps) (gives G v)
  go_on rest p N i vs f ps (stops x) = faults G x

  -- an operation runs on, for at most so many segments one within or behind another
  abbrev pub run_on : ℕ → Rest
  run_on zero p N i f ps vs = λ m. spent
  run_on (suc k) p N i f ps vs =
      says G (M.segment f ps).text (go_on (run_on k) p N i vs (M.segment f ps).frame (M.segment f ps).parts (M.segment f ps).yields)
