-- Names in scope have their places: each its own, below those that come.
use Rattle.std.proofs.Common.{◌≡◌, inl, inr, ℕ, ◌<◌, List, [], ◌∷◌, true, false, sym, ap, ◌∙◌, subst, arith}
use Rattle.std.specs.Prelude.{length, nat_lt, ◌||◌}
use Rattle.std.proofs.lemmas.Bool.{false≢true, or_parts}
use Rattle.regent_tree.specs.Lookup.{is_bound}
use Rattle.regent_tree.specs.Scopes.{bound_to, Scope}
use Rattle.regent_tree.specs.Syntax.{Name, access_expr, assign_form, Expression, no_step, Tree}
use Rattle.regent_tree.specs.declared.typing.Bound.{Bound}
use Rattle.code_laws.specs.Coloured.{IsBoundIn}
use Rattle.code_laws.proofs.Pieced.{bound_there}
use Rattle.fit_rules.specs.Shapes.{Shape}
use Rattle.sound_code.specs.Named.{AreNamed, loops_in}
use Rattle.sound_code.specs.Ways.{Way, all_made, by_rules}
use Rattle.regent_tree.specs.declared.statement.How.{How}
use Rattle.check_rules.specs.rules.Targets.{is_fixed, is_no_target}
use Rattle.check_rules.specs.types.KnownTypes.{known_type}
use Rattle.check_rules.specs.types.Sorts.{is_collection}
use Rattle.code_laws.proofs.LocalParts.{and_then}
use Rattle.code_laws.proofs.TypedStatements.{told_later}
use Rattle.sound_code.proofs.Told.{ToldForm}

pub place_low : (way : Way) (params : ℕ) (ss : List Shape) (bs : List Bound) → AreNamed way params ss bs → (b : Bound) → IsBoundIn bs b → b.place < length bs
place_low way params ss [] a b h = absurd h
place_low way params ss (c ∷ bs) a b (inl e) = subst (λ (b : Bound). b.place < length (c ∷ bs)) e (omega (arith, a.0))
place_low way params ss (c ∷ bs) a b (inr h) = let low = place_low way params ss bs a.2 b h in omega (arith, low)

one_place : (way : Way) (params : ℕ) (ss : List Shape) (bs : List Bound) → AreNamed way params ss bs → (b c : Bound) → IsBoundIn bs b → IsBoundIn bs c →
    b.place ≡ c.place → b ≡ c
one_place way params ss [] a b c h k e = absurd h
one_place way params ss (d ∷ bs) a b c (inl f) (inl g) e = sym f ∙ g
one_place way params ss (d ∷ bs) a b c (inl f) (inr k) e =
    let low = place_low way params ss bs a.2 c k in let same = ap (λ (x : Bound). x.place) f in absurd (omega (arith, low, a.0, same, e))
one_place way params ss (d ∷ bs) a b c (inr h) (inl g) e =
    let low = place_low way params ss bs a.2 b h in let same = ap (λ (x : Bound). x.place) g in absurd (omega (arith, low, a.0, same, e))
one_place way params ss (d ∷ bs) a b c (inr h) (inr k) e = one_place way params ss bs a.2 b c h k e

-- those whose slots may name colours are among the names, and stay where more names come
loop_there : (way : Way) (bs : List Bound) (b : Bound) → IsBoundIn (loops_in way bs) b → IsBoundIn bs b
loop_there all_made bs b h = absurd h
loop_there (by_rules tops task) bs b h = h

pub loop_low : (way : Way) (params : ℕ) (ss : List Shape) (bs : List Bound) → AreNamed way params ss bs → (b : Bound) → IsBoundIn (loops_in way bs) b → b.place < length bs
loop_low way params ss bs a b h = place_low way params ss bs a b (loop_there way bs b h)

pub loop_more : (way : Way) (b : Bound) (bs : List Bound) (c : Bound) → IsBoundIn (loops_in way bs) c → IsBoundIn (loops_in way (b ∷ bs)) c
loop_more all_made b bs c h = absurd h
loop_more (by_rules tops task) b bs c h = inr h

-- a name that may be assigned: by the rules no loop bound it
abbrev pub MayStore : Way → Bound → Type 0
MayStore all_made b = Unit {0}
MayStore (by_rules tops task) b = b.by_loop ≡ false

-- its place is that of none of these
pub no_loop : (way : Way) (params : ℕ) (ss : List Shape) (bs : List Bound) (n : Name) → AreNamed way params ss bs → is_bound bs n ≡ true → MayStore way (bound_to bs n) →
    (b : Bound) → IsBoundIn (loops_in way bs) b → b.by_loop ≡ true → b.place ≡ (bound_to bs n).place → ⊥
no_loop all_made params ss bs n a h free b there loop e = absurd there
no_loop (by_rules tops task) params ss bs n a h free b there loop e =
    let same = one_place (by_rules tops task) params ss bs a b (bound_to bs n) there (bound_there bs n h) e in
    absurd (false≢true (sym free ∙ sym (ap (λ (c : Bound). c.by_loop) same) ∙ loop))

-- what is told of an assignment
pub may_store : (way : Way) (tree : Tree) (s : Scope) (n : Name) (how : How) (e : Expression) → ToldForm way tree s (assign_form n no_step how e) → is_bound s.names n ≡ true →
    MayStore way (bound_to s.names n)
may_store all_made tree s n how e told there = tt
may_store (by_rules tops task) tree s n how e told there =
    let b = bound_to s.names n in
    let free = and_then (is_bound s.names n) (is_fixed task b) there
    (or_parts (is_no_target task s.names n no_step (known_type tree s (access_expr n no_step))) _ (told_later tree task s (assign_form n no_step how e) told.1.form).0).0 in
    (or_parts b.by_loop (nat_lt b.number (length task.params)) (or_parts (b.by_loop || nat_lt b.number (length task.params)) (is_collection b.static_type) free).0).0
