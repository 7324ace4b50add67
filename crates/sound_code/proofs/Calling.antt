-- Code of calls has marks: the arguments are pushed one after the other, and the frame that a call opens suits the
-- mark in which the task's body begins.
use Rattle.std.proofs.Common.{◌≡◌, inl, ℕ, zero, suc, ◌<◌, ◌-◌, ◌+◌, pos, List, [], ◌∷◌, ◌++◌, map, Bool, true, false, ◌&&◌, cond, None, Some, refl, sym, ap, ◌∙◌, subst, arith, length-append, Option, ⊎_elim}
use Rattle.std.specs.Prelude.{flat_map, length, nat_lt, replicate, slice_get}
use Rattle.std.proofs.lemmas.List.{append-nil, length-map}
use Rattle.regent_tree.specs.declared.typing.StaticType.{StaticType}
use Rattle.regent_tree.specs.Scopes.{scope_of}
use Rattle.regent_tree.specs.Syntax.{TaskTree, Tree, Expressions, no_expr, an_expr}
use Rattle.regent_tree.specs.Typing.{param_types}
use Rattle.region_tree.specs.Requirements.{IsWithin}
use Rattle.task_code.specs.declared.code.TaskCode.{TaskCode}
use Rattle.task_code.specs.declared.instr.Instr.TheVariants as instr
use Rattle.machine_terms.specs.declared.value.Value.{Value}
use Rattle.machine_terms.specs.declared.value.Value.TheVariants.{Number}
use Rattle.machine_terms.specs.Pointers.{region_in}
use Rattle.machine_terms.specs.Regions.{partition_in}
use Rattle.code_rules.specs.Expressions.{count}
use Rattle.code_rules.specs.Instructions.{tasks_of}
use Rattle.code_rules.specs.Pieces.{Piece, op, ◌⨟◌, past, lines}
use Rattle.code_rules.specs.Programs.{place_of, task_code}
use Rattle.code_rules.specs.Statements.{block_code}
use Rattle.code_rules.specs.Slots.{Where}
use Rattle.code_laws.specs.Pointers.{HasZero, zero_index, zero_scalar}
use Rattle.code_laws.specs.Simple.{AreAlike, two_integers, two_truths, IsScalar, scalar_integer, scalar_truth, IsSimple, simple_integer, simple_truth, simple_index, simple_space}
use Rattle.task_code.specs.declared.code.NeedCode.{NeedCode}
use Rattle.code_laws.specs.Steps.{Forms, Taking}
use Rattle.code_laws.specs.Arguments.{AreMet, IsMetAt}
use Rattle.code_laws.specs.Typed.{ArePassed, IsIndexed, IsTyped}
use Rattle.code_laws.proofs.Openings.{params_length, types_length}
use Rattle.fit_rules.specs.Shapes.{Each, Shape, anything, Numeric, numeric_index, numeric_integer, numeric_truth, World, Is, is_anything, is_number, is_space, Are, are_none, are_more}
use Rattle.fit_rules.specs.Marks.{Mark, Suits, around}
use Rattle.fit_rules.specs.Fits.{claims, declared_claims, Program}
use Rattle.fit_rules.specs.Ends.{called, IsNeeded}
use Rattle.fit_rules.specs.Sound.{Opens, Settled, Takes, takes_none, takes_more, settled_number}
use Rattle.fit_laws.proofs.Lookup.{as_long}
use Rattle.sound_code.specs.Ways.{Way, all_made, by_rules, opening_facts, shape_in, shape_of, told_by}
use Rattle.sound_code.specs.Named.{IsSteady, is_apart, is_begun, is_count, is_parted, is_piece, is_within, slot_at}
use Rattle.sound_code.proofs.Steady.{steady_holds}
use Rattle.fit_rules.specs.Marks.{apart, Fact, Holds, in_slot, lies, parted}
use Rattle.std.proofs.lemmas.Bool.{ltb-true}
use Rattle.std.proofs.lemmas.Option.{none-some}
use Rattle.regent_tree.specs.Scopes.{scope_of}
use Rattle.regent_tree.specs.declared.facts.Known.{Known as RegionKnown}
use Rattle.regent_tree.specs.declared.facts.Known.TheVariants.{Within, Apart, PartOf}
use Rattle.regent_tree.specs.declared.facts.Term.TheVariants.{Name as TermName}
use Rattle.sound_code.proofs.WholeTasks.{are_whole_arguments}
use Rattle.sound_code.specs.Marks.{opening_mark}
use Rattle.sound_code.proofs.Asked.{other, Known}
use Rattle.sound_code.proofs.Wholes.{Asks, asks_first, asks_second, given_whole, IsWorth, worth_named, worth_pointer, worth_simple}

pub scalar_numeric : (t : StaticType) → IsScalar t → Numeric (shape_of t)
scalar_numeric _ (scalar_integer w) = numeric_integer w
scalar_numeric _ scalar_truth = numeric_truth

pub zero_numeric : (t : StaticType) → HasZero t → Numeric (shape_of t)
zero_numeric _ (zero_scalar _ s) = scalar_numeric _ s
zero_numeric _ (zero_index k) = numeric_index

pub alike_first : (t u : StaticType) → AreAlike t u → IsScalar t
alike_first _ _ (two_integers a b) = scalar_integer a
alike_first _ _ two_truths = scalar_truth

-- ---- values that are pushed one after the other

abbrev pub onto : List Shape → List Shape → List Shape
onto [] us = us
onto (s ∷ ss) us = onto ss (s ∷ us)

takes_onto : (ss us acc args rest : List Shape) (n : ℕ) → Each Settled ss → Takes n us (ss ++ acc) args rest →
    Takes (length ss + n) (onto ss us) acc args rest
takes_onto [] us acc args rest n h t = subst (λ y. Takes y us acc args rest) (omega arith) t
takes_onto (s ∷ ss) us acc args rest n h t =
    let same : length ss + suc n ≡ suc (length ss) + n = omega arith in
    subst (λ y. Takes y (onto ss (s ∷ us)) acc args rest) same
    (takes_onto ss (s ∷ us) acc args rest (suc n) h.1 (takes_more n s us (ss ++ acc) args rest h.0 t))

pub takes_settled : (ss us : List Shape) → Each Settled ss → Takes (length ss) (onto ss us) [] ss us
takes_settled ss us h =
    let same : length ss + 0 ≡ length ss = omega arith in
    subst (λ y. Takes y (onto ss us) [] ss us) same
    (takes_onto ss us [] ss us 0 h (subst (λ l. Takes 0 us l ss us) (sym (append-nil ss)) (takes_none us ss)))

numbers_settled : (ss : List Shape) → Each Numeric ss → Each Settled ss
numbers_settled [] h = tt
numbers_settled (s ∷ ss) h = (settled_number s h.0, numbers_settled ss h.1)

pub takes_pushed : (ss us : List Shape) → Each Numeric ss → Takes (length ss) (onto ss us) [] ss us
takes_pushed ss us h = takes_settled ss us (numbers_settled ss h)

-- ---- the frame that opens

are_both : (x : World) (ss us : List Shape) (vs ws : List Value) → Are x ss vs → Are x us ws → Are x (ss ++ us) (vs ++ ws)
are_both x _ us _ ws are_none b = b
are_both x _ us _ ws (are_more s v ss vs h a) b = are_more s v _ _ h (are_both x ss us vs ws a b)

blanks_are : (x : World) (n : ℕ) → Are x (replicate n anything) (replicate n (Number (pos 0)))
blanks_are x zero = are_none
blanks_are x (suc n) = are_more anything _ _ _ (is_anything _) (blanks_are x n)

get_front : (vs ws : List Value) (i : ℕ) → i < length vs → slice_get (vs ++ ws) i ≡ slice_get vs i
get_front [] ws i l = absurd (omega (arith, l))
get_front (v ∷ vs) ws zero l = refl
get_front (v ∷ vs) ws (suc i) l = get_front vs ws i (omega (arith, l))

-- as many types as parameters
pub types_many : (tree : Tree) (t : TaskTree) → length (param_types tree t) ≡ length t.params
types_many tree t = types_length (scope_of tree t).names ∙ params_length tree t.params 0 t.params

-- what clauses tell speaks of parameters alone
both_told : (params a b : ℕ) (f : Fact) → (a < params → b < params → IsSteady params params [] f) →
    Each (IsSteady params params []) (cond (nat_lt a params && nat_lt b params) (f ∷ []) [])
both_told params a b f h = chosen (nat_lt a params) refl (nat_lt b params) refl
  where
    chosen : (c : Bool) → nat_lt a params ≡ c → (d : Bool) → nat_lt b params ≡ d → Each (IsSteady params params []) (cond (c && d) (f ∷ []) [])
    chosen true p true q = (h (ltb-true a params p) (ltb-true b params q), tt)
    chosen true p false q = tt
    chosen false p d q = tt

told_steady : (params : ℕ) (k : RegionKnown) → Each (IsSteady params params []) (told_by params k)
told_steady params (Within (TermName a) (TermName b)) = both_told params a b (lies (in_slot a) (in_slot b)) (is_within a b)
told_steady params (Apart (TermName a) (TermName b)) = both_told params a b (apart (in_slot a) (in_slot b)) (is_apart a b)
told_steady params (PartOf p r d) = both_told params p r (parted p r) (λ l k.
    subst (λ q. IsSteady params params [] (parted q r)) (omega (arith, l))
    (subst (λ q. IsSteady params params [] (parted (slot_at params p) q)) (omega (arith, k)) (is_parted p r l k)))
told_steady params _ = tt

each_both : (P : Fact → Type 0) (xs ys : List Fact) → Each P xs → Each P ys → Each P (xs ++ ys)
each_both P [] ys a b = b
each_both P (x ∷ xs) ys a b = (a.0, each_both P xs ys a.1 b)

all_steady : (params : ℕ) (ks : List RegionKnown) → Each (IsSteady params params []) (flat_map (told_by params) ks)
all_steady params [] = tt
all_steady params (k ∷ ks) = each_both (IsSteady params params []) (told_by params k) (flat_map (told_by params) ks) (told_steady params k) (all_steady params ks)

pub opening_steady : (way : Way) (tree : Tree) (t : TaskTree) → Each (IsSteady (length t.params) (length t.params) []) (opening_facts way tree t)
opening_steady all_made tree t = tt
opening_steady (by_rules tops task) tree t = all_steady (length t.params) (scope_of tree t).known

opening_kept : (way : Way) (tree : Tree) (t : TaskTree) (ws us : List Value) → length ws ≡ length t.params → Each (λ k. Holds k ws) (opening_facts way tree t) →
    Each (λ k. Holds k (ws ++ us)) (opening_facts way tree t)
opening_kept way tree t ws us long h = steady_holds (length t.params) (length t.params) (omega arith) [] ws (ws ++ us)
    (λ p lo hi. absurd (omega (arith, lo, hi)))
    (λ i l.
    let same = get_front ws us (slot_at (length t.params) i) (omega (arith, l, long)) in (ap region_in same, ap partition_in same)) (λ b h. absurd h)
    (opening_facts way tree t) (opening_steady way tree t) h

-- and back, by the slots in which the arguments stand
pub facts_kept : (way : Way) (tree : Tree) (t : TaskTree) (ws us : List Value) → length ws ≡ length t.params →
    Each (λ k. Holds k (ws ++ us)) (opening_facts way tree t) → Each (λ k. Holds k ws) (opening_facts way tree t)
facts_kept way tree t ws us long h = steady_holds (length t.params) (length t.params) (omega arith) [] (ws ++ us) ws
    (λ p lo hi. absurd (omega (arith, lo, hi)))
    (λ i l.
    let same = sym (get_front ws us (slot_at (length t.params) i) (omega (arith, l, long))) in (ap region_in same, ap partition_in same)) (λ b h. absurd h)
    (opening_facts way tree t) (opening_steady way tree t) h

-- arguments of the parameters' shapes are as many as these
pub args_many : (way : Way) (tree : Tree) (t : TaskTree) (x : World) (ws : List Value) →
    Are x (map (shape_in way (length t.params)) (param_types tree t)) ws → length ws ≡ length t.params
args_many way tree t x ws a = as_long x _ ws a ∙ length-map (param_types tree t) (shape_in way (length t.params)) ∙ types_many tree t

-- what a frame has that opens with arguments of the parameters' shapes suits the mark
pub opening_suits : (way : Way) (tree : Tree) (t : TaskTree) (x : World) (ws : List Value) →
    Are (called x ws) (map (shape_in way (length t.params)) (param_types tree t)) ws → Each (λ k. Holds k ws) (opening_facts way tree t) →
    Suits (called x ws) (length t.params) (opening_mark way tree t)
    (ws ++ replicate ((task_code tree t).slots - length ws) (Number (pos 0))) []
opening_suits way tree t x ws a told =
    let long = args_many way tree t (called x ws) ws a in
    let same : (task_code tree t).slots - length t.params ≡ (task_code tree t).slots - length ws = omega (arith, long) in
    subst (λ n. Suits (called x ws) (length t.params) (opening_mark way tree t) (ws ++ replicate n (Number (pos 0))) [])
    same
    (record {
      slots = are_both (called x ws) _ _ ws _ a (blanks_are (called x ws) ((task_code tree t).slots - length t.params));
      stack = are_none;
      facts = opening_kept way tree t ws _ long told;
      top = tt;
      args = λ i l. ap region_in (get_front ws _ i (omega (arith, l, long)));
    })

-- numbers, truths, indices, pointers and index spaces are so around every frame
pub worth_is : (x y : World) (t : StaticType) (v : Value) → IsWorth t → Is x (shape_of t) v → Is y (shape_of t) v
worth_is x y _ _ (worth_simple _ (simple_integer w)) (is_number _ z p) = is_number _ z p
worth_is x y _ _ (worth_simple _ simple_truth) (is_number _ z p) = is_number _ z p
worth_is x y _ _ (worth_simple _ (simple_index k)) (is_number _ z p) = is_number _ z p
worth_is x y _ _ (worth_simple _ (simple_space k)) (is_space n l) = is_space n l
worth_is x y _ _ (worth_simple _ (simple_space k)) (is_number _ z p) = absurd p
worth_is x y _ _ (worth_pointer k sp args rs few) (is_number _ z p) = is_number _ z p

pub worths_are : (x y : World) (ts : List StaticType) (ws : List Value) → Each IsWorth ts → Are x (map shape_of ts) ws →
    Are y (map shape_of ts) ws
worths_are x y [] _ h are_none = are_none
worths_are x y (t ∷ ts) _ h (are_more _ v _ vs i a) = are_more (shape_of t) v _ vs (worth_is x y t v h.0 i) (worths_are x y ts vs h.1 a)

pub simples_worth : (ts : List StaticType) → Each IsSimple ts → Each IsWorth ts
simples_worth [] h = tt
simples_worth (t ∷ ts) h = (worth_simple t h.0, simples_worth ts h.1)

-- ---- calls

pub passed_worth : (forms : Forms) (plain : forms.takes ≡ None) (w : Where) (ts ps : List StaticType) (es : Expressions) → ArePassed forms w ts ps es →
    Asks forms.keeps (are_whole_arguments true w ps es) → Each IsWorth ps
passed_worth forms plain w [] [] no_expr h asks = tt
passed_worth forms plain w (t ∷ ts) (p ∷ ps) (an_expr e es) h asks = (
  given_whole forms.keeps forms.takes w t p e (IsTyped forms w e) (IsIndexed forms w e) (IsWorth p) (asks_first _ _ _ asks)
      (λ enters is. enters.worth)
      (λ y takes q. absurd (none-some y (sym plain ∙ takes))) (λ b a. absurd (none-some a.taking (sym plain ∙ a.takes)))
      (λ b a. absurd (none-some a.taking (sym plain ∙ a.takes))) h.0,
  passed_worth forms plain w ts ps es h.1 (asks_second _ _ _ asks),
)
passed_worth forms plain w [] [] (an_expr e es) h asks = absurd h
passed_worth forms plain w [] (p ∷ ps) es h asks = absurd h
passed_worth forms plain w (t ∷ ts) [] es h asks = absurd h
passed_worth forms plain w (t ∷ ts) (p ∷ ps) no_expr h asks = absurd h

pub passed_many : (forms : Forms) (w : Where) (ts ps : List StaticType) (es : Expressions) → ArePassed forms w ts ps es →
    length ps ≡ count es
passed_many forms w [] [] no_expr h = refl
passed_many forms w (t ∷ ts) (p ∷ ps) (an_expr e es) h = ap suc (passed_many forms w ts ps es h.1)
passed_many forms w [] [] (an_expr e es) h = absurd h
passed_many forms w [] (p ∷ ps) es h = absurd h
passed_many forms w (t ∷ ts) [] es h = absurd h
passed_many forms w (t ∷ ts) (p ∷ ps) no_expr h = absurd h

-- where no regions are handed over, a task that is called needs nothing
none_met : (b : Bool) (w : Where) (es : Expressions) (n : NeedCode) → IsMetAt b None w es n → ⊥
none_met false w es n m = m
none_met true w es n m = ⊎_elim (λ a. a) (λ a. a) m

pub nothing_needed : (b : Bool) (o : Option Taking) → o ≡ None → (w : Where) (ps : List StaticType) (es : Expressions) (ns : List NeedCode) →
    Asks b (are_whole_arguments true w ps es) → AreMet b o w es ns → ns ≡ []
nothing_needed b o e w ps es [] asks a = refl
nothing_needed b o e w ps es (n ∷ ns) asks a = absurd (none_met b w es n (subst (λ o. IsMetAt b o w es n) e a.0))

-- a task's body has an instruction at least
some_lines : (p : Piece) (line : ℕ) → 0 < length (lines (p ⨟ op instr.Return line) 0)
some_lines p line = let e = length-append (lines p 0) (lines (op instr.Return line) (past p 0)) in omega (arith, e)

pub some_body : (tree : Tree) (u : TaskTree) → 0 < length (task_code tree u).body
some_body tree u = some_lines (block_code (place_of tree u) u.body) 0

-- shapes of such types are the same of names
pub worths_named : (way : Way) (params : ℕ) (ts : List StaticType) → Each IsWorth ts → map (shape_in way params) ts ≡ map shape_of ts
worths_named way params [] h = refl
worths_named way params (t ∷ ts) h = ap (λ s. s ∷ map (shape_in way params) ts) (worth_named way params t h.0)
    ∙ ap (λ l. shape_of t ∷ l) (worths_named way params ts h.1)

-- of values that are no regions and no partitions each fact of parameters holds
no_regions : (x : World) (ts : List StaticType) (ws : List Value) → Each IsWorth ts → Are x (map shape_of ts) ws → (i : ℕ) →
    (region_in (slice_get ws i) ≡ None) × (partition_in (slice_get ws i) ≡ None)
no_regions x [] _ h are_none i = (refl, refl)
no_regions x (t ∷ ts) _ h (are_more _ v _ vs q a) zero = one t v h.0 q
  where
    one : (t : StaticType) (v : Value) → IsWorth t → Is x (shape_of t) v → (region_in (Some v) ≡ None) × (partition_in (Some v) ≡ None)
    one _ _ (worth_simple _ (simple_integer w)) (is_number _ z p) = (refl, refl)
    one _ _ (worth_simple _ simple_truth) (is_number _ z p) = (refl, refl)
    one _ _ (worth_simple _ (simple_index k)) (is_number _ z p) = (refl, refl)
    one _ _ (worth_simple _ (simple_space k)) (is_space n l) = (refl, refl)
    one _ _ (worth_simple _ (simple_space k)) (is_number _ z p) = (refl, refl)
    one _ _ (worth_pointer k sp args rs few) (is_number _ z p) = (refl, refl)
no_regions x (t ∷ ts) _ h (are_more _ v _ vs q a) (suc i) = no_regions x ts vs h.1 a i

pub worths_told : (way : Way) (tree : Tree) (t : TaskTree) (x : World) (ts : List StaticType) (ws : List Value) → Each IsWorth ts → Are x (map shape_of ts) ws →
    Each (λ k. Holds k ws) (opening_facts way tree t)
worths_told way tree t x ts ws h a = each (opening_facts way tree t) (opening_steady way tree t)
  where
    none : (i : ℕ) → (region_in (slice_get ws i) ≡ None) × (partition_in (slice_get ws i) ≡ None)
    none = no_regions x ts ws h a

    one : (k : Fact) → IsSteady (length t.params) (length t.params) [] k → Holds k ws
    one _ (is_count p lo hi) = absurd (omega (arith, lo, hi))
    one _ (is_within i j li lj) = λ r e. absurd (none-some r (sym (none i).0 ∙ e))
    one _ (is_apart i j li lj) = λ r q e f. absurd (none-some r (sym (none i).0 ∙ e))
    one _ (is_parted i j li lj) = λ q e. absurd (none-some q (sym (none (slot_at (length t.params) i)).1 ∙ e))
    one _ (is_piece i p c li lp w) = λ r e. absurd (none-some r (sym (none (slot_at (length t.params) i)).0 ∙ e))
    one _ (is_begun i j li lj) = λ r e. absurd (none-some r (sym (none (slot_at (length t.params) i)).0 ∙ e))

    each : (ks : List Fact) → Each (IsSteady (length t.params) (length t.params) []) ks → Each (λ k. Holds k ws) ks
    each [] s = tt
    each (k ∷ ks) s = (one k s.0, each ks s.1)

module _ (g : Program) (t : TaskCode) (k : ℕ) (way : Way) (w : Where) (known : Known way g w.tree) where
  pub opens : (m : Mark) (task : ℕ) (u : TaskTree) → slice_get (tasks_of w.tree) task ≡ Some u → (task_code w.tree u).needs ≡ [] →
      Each IsWorth (param_types w.tree u) → Opens g t m task (task_code w.tree u) (map shape_of (param_types w.tree u))
  opens m task u there none worth = (
    known.first task u there,
    λ x vs st ws knows s a.
        let are = subst (λ y. Are (called x ws) y ws) (sym (worths_named (other way u) (length u.params) (param_types w.tree u) worth))
        (worths_are (around x m vs) (called x ws) (param_types w.tree u) ws worth a) in (
          (
            args_many (other way u) w.tree u (called x ws) ws are,
            subst (λ y. Suits (called x ws) (length u.params) y (ws ++ replicate ((task_code w.tree u).slots - length ws) (Number (pos 0))) [])
                (sym (known.begins task u there))
                (opening_suits (other way u) w.tree u x ws are (worths_told (other way u) w.tree u (around x m vs) (param_types w.tree u) ws worth a)),
          ),
          subst (λ ns. Each (IsNeeded g x ws) ns) (sym none) tt,
          subst (λ ns. IsWithin (declared_claims ns ws) (claims g x t)) (sym none) (λ root field point. inl refl),
        ),
  )
