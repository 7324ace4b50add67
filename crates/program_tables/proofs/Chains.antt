-- Names that hide names, as entries are added and taken away.
use Rattle.std.proofs.Common.{◌≡◌, ℕ, ◌+◌, ◌<◌, List, [], ◌∷◌, ◌++◌, reverse, length, get_or, refl, sym, ap, ◌∙◌, subst, Bool, true, false, cond, Option, None, Some, is_some, IsSome, arith, true≢false, unwrap_or, ◌||◌}
use Rattle.std.specs.Prelude.{bytes_eq, IfSome, ◌==◌}
use Rattle.std.specs.HashMap.{HashMap, get}
use Rattle.std.specs.List.{find}
use Rattle.std.proofs.lemmas.List.{length-map, length-reverse, reverse-append, reverse-reverse, get_or_append_left, get_or_at}
use Rattle.std.proofs.lemmas.Slice.Eq.{bytes_eq-Decides}
use Rattle.regent_tree.specs.Lookup.{is_bound}
use Rattle.regent_tree.specs.Scopes.{bound_as, bound_to, unbound}
use Rattle.regent_tree.specs.Syntax.{Name}
use Rattle.regent_tree.specs.declared.typing.Bound.{Bound}
use Rattle.program_tables.specs.Hiding.{bindings_of, has_number, newest, IsIndexed}
use Rattle.program_tables.specs.declared.names.Entry.{Entry}

-- one more entry
pub IsIndexed-bound : {S : Type 0} (index new : HashMap Name ℕ S) (es : List Entry) (e : Entry) (key : Name) (i : ℕ) →
    IsIndexed index es → key ≡ e.bound.name → i ≡ length es → e.hides ≡ get bytes_eq index key →
    ((n : Name) → get bytes_eq new n ≡ cond (bytes_eq key n) (Some i) (get bytes_eq index n)) → IsIndexed new (e ∷ es)
IsIndexed-bound index new es e key i is same at hides put = record {
  innermost = λ n. put n ∙ (λ j. cond (bytes_eq (same j) n) (Some (at j)) (is.innermost n j))
      ∙ ap (λ l. cond (bytes_eq e.bound.name n) (Some l) (newest (bindings_of es) n)) (sym (length-map es (λ (x : Entry). x.bound)));
  hidden = (hides ∙ is.innermost key ∙ ap (newest (bindings_of es)) same, is.hidden);
}

-- one entry less
pub IsIndexed-forgot : {S : Type 0} (index new : HashMap Name ℕ S) (es : List Entry) (e : Entry) →
    IsIndexed index (e ∷ es) → ((n : Name) → get bytes_eq new n ≡ cond (bytes_eq e.bound.name n) e.hides (get bytes_eq index n)) → IsIndexed new es
IsIndexed-forgot index new es e is put = record {
  innermost = λ n. put n ∙ ap (cond (bytes_eq e.bound.name n) e.hides) (is.innermost n)
      ∙ by (bytes_eq e.bound.name n) n (λ h. is.hidden.0 ∙ ap (newest (bindings_of es)) ((bytes_eq-Decides e.bound.name n).0 h));
  hidden = is.hidden.1;
}
  where
    by : (b : Bool) (n : Name) → (b ≡ true → e.hides ≡ newest (bindings_of es) n) →
        cond b e.hides (cond b (Some (length (bindings_of es))) (newest (bindings_of es) n)) ≡ newest (bindings_of es) n
    by true n h = h refl
    by false n h = refl

-- an index has the name of the innermost entry
pub IsIndexed-has : {S : Type 0} (index : HashMap Name ℕ S) (es : List Entry) (e : Entry) → IsIndexed index (e ∷ es) → IsSome (get bytes_eq index e.bound.name)
IsIndexed-has index es e is = ap is_some (is.innermost e.bound.name ∙ ap (λ b. cond b (Some (length (bindings_of es))) (newest (bindings_of es) e.bound.name)) ((bytes_eq-Decides e.bound.name e.bound.name).1 refl))

-- what a name is bound to, by the index
pub newest_found : (bs : List Bound) (n : Name) → is_some (newest bs n) ≡ is_bound bs n
newest_found [] n = refl
newest_found (b ∷ bs) n = by (bytes_eq b.name n) (newest_found bs n)
  where
    by : (t : Bool) → is_some (newest bs n) ≡ is_bound bs n → is_some (cond t (Some (length bs)) (newest bs n)) ≡ (t || is_bound bs n)
    by true h = refl
    by false h = h

pub newest_free : (bs : List Bound) (n : Name) → newest bs n ≡ None → bound_to bs n ≡ unbound
newest_free [] n e = refl
newest_free (b ∷ bs) n e = by (bytes_eq b.name n) e (newest_free bs n)
  where
    by : (t : Bool) → cond t (Some (length bs)) (newest bs n) ≡ None → (newest bs n ≡ None → bound_to bs n ≡ unbound) → cond t b (bound_to bs n) ≡ unbound
    by true e h = absurd (true≢false (ap is_some e))
    by false e h = h e

-- the entry at the place that an index has for a name
pub record IsAt (es : List Entry) (n : Name) (p : ℕ) : Type 0 where
  pub within : p < length es
  pub entry : (d : Entry) → (get_or (reverse es) p d).bound ≡ bound_to (bindings_of es) n

pub newest_at : (es : List Entry) (n : Name) (p : ℕ) → newest (bindings_of es) n ≡ Some p → IsAt es n p
newest_at [] n p e = absurd (true≢false (sym (ap is_some e)))
newest_at (x ∷ es) n p e =
    let h = by (bytes_eq x.bound.name n) e (newest_at es n p) in record {
      within = omega (arith, h.0);
      entry = λ d. ap (λ l. (get_or l p d).bound) (reverse-append (x ∷ []) es) ∙ h.1 d;
    }
  where
    by : (t : Bool) → cond t (Some (length (bindings_of es))) (newest (bindings_of es) n) ≡ Some p → (newest (bindings_of es) n ≡ Some p → IsAt es n p) →
        (p < length es + 1) × ((d : Entry) → (get_or (reverse es ++ x ∷ []) p d).bound ≡ cond t x.bound (bound_to (bindings_of es) n))
    by true e h =
        let at : length es ≡ p = sym (length-map es (λ (y : Entry). y.bound)) ∙ ap (λ o. unwrap_or o p) e in
        (omega arith, λ d. ap (λ (y : Entry). y.bound) (get_or_at (reverse es) x [] d p (length-reverse es ∙ at)))
    by false e h =
        let within : p < length (reverse es) = rw length-reverse (h e).within in
        (omega (arith, (h e).within), λ d. ap (λ (y : Entry). y.bound) (get_or_append_left (reverse es) (x ∷ []) d p within) ∙ (h e).entry d)

-- the binding with a number
abbrev has : ℕ → Entry → Bool
has i e = e.bound.number == i

pub number_found : (es : List Entry) (i : ℕ) → is_some (find (has i) es) ≡ has_number (bindings_of es) i
number_found [] i = refl
number_found (e ∷ es) i = by (has i e) (number_found es i)
  where
    by : (t : Bool) → is_some (find (has i) es) ≡ has_number (bindings_of es) i → is_some (cond t (Some e) (find (has i) es)) ≡ (t || has_number (bindings_of es) i)
    by true h = refl
    by false h = h

pub number_bound : (es : List Entry) (i : ℕ) → IfSome (find (has i) es) (λ e. e.bound ≡ bound_as (bindings_of es) i)
number_bound [] i = tt
number_bound (e ∷ es) i = by (has i e) (number_bound es i)
  where
    by : (t : Bool) → IfSome (find (has i) es) (λ x. x.bound ≡ bound_as (bindings_of es) i) →
        IfSome (cond t (Some e) (find (has i) es)) (λ x. x.bound ≡ cond t e.bound (bound_as (bindings_of es) i))
    by true h = refl
    by false h = h

pub number_free : (es : List Entry) (i : ℕ) → find (has i) es ≡ None → bound_as (bindings_of es) i ≡ unbound
number_free [] i h = refl
number_free (e ∷ es) i h = by (has i e) h (number_free es i)
  where
    by : (t : Bool) → cond t (Some e) (find (has i) es) ≡ None → (find (has i) es ≡ None → bound_as (bindings_of es) i ≡ unbound) →
        cond t e.bound (bound_as (bindings_of es) i) ≡ unbound
    by true h k = absurd (true≢false (ap is_some h))
    by false h k = k h

-- ---- what the entries, outermost first, and their index tell of the names in scope

module _ {S : Type 0} (index : HashMap Name ℕ S) (items : List Entry) (names : List Bound) (seen : bindings_of (reverse items) ≡ names) where
  pub bound_found : IsIndexed index (reverse items) → (n : Name) → is_some (get bytes_eq index n) ≡ is_bound names n
  bound_found is n = ap is_some (is.innermost n) ∙ newest_found (bindings_of (reverse items)) n ∙ ap (λ l. is_bound l n) seen

  pub bound_free : IsIndexed index (reverse items) → (n : Name) → get bytes_eq index n ≡ None → bound_to names n ≡ unbound
  bound_free is n none = ap (λ l. bound_to l n) (sym seen) ∙ newest_free (bindings_of (reverse items)) n (sym (is.innermost n) ∙ none)

  pub bound_within : IsIndexed index (reverse items) → (n : Name) (p : ℕ) → get bytes_eq index n ≡ Some p → p < length items
  bound_within is n p some = let at = newest_at (reverse items) n p (sym (is.innermost n) ∙ some) in
      subst (λ l. p < l) (length-reverse items) at.within

  pub bound_at : IsIndexed index (reverse items) → (n : Name) (p : ℕ) (x : Entry) → get bytes_eq index n ≡ Some p → x ≡ get_or items p x → x.bound ≡ bound_to names n
  bound_at is n p x some read = let at = newest_at (reverse items) n p (sym (is.innermost n) ∙ some) in
      ap (λ (e : Entry). e.bound) read ∙ ap (λ l. (get_or l p x).bound) (sym (reverse-reverse items)) ∙ at.entry x ∙ ap (λ l. bound_to l n) seen

module _ (items : List Entry) (names : List Bound) (seen : bindings_of (reverse items) ≡ names) (i : ℕ) where
  pub as_found : (o : Option Entry) → o ≡ find (has i) (reverse items) → is_some o ≡ has_number names i
  as_found o is = ap is_some is ∙ number_found (reverse items) i ∙ ap (λ l. has_number l i) seen

  pub as_free : None ≡ find (has i) (reverse items) → bound_as names i ≡ unbound
  as_free is = ap (λ l. bound_as l i) (sym seen) ∙ number_free (reverse items) i (sym is)

  pub as_bound : (e : Entry) → Some e ≡ find (has i) (reverse items) → e.bound ≡ bound_as names i
  as_bound e is = subst (λ o. IfSome o (λ x. x.bound ≡ bound_as (bindings_of (reverse items)) i)) (sym is) (number_bound (reverse items) i) ∙ ap (λ l. bound_as l i) seen
