-- Elements of lists, by recursion on the list.
use Rattle.std.proofs.Common.{◌≡◌, zero, suc, Bool, true, false, ◌||◌, ◌&&◌, List, [], ◌∷◌, ◌++◌, map, refl, ap, ◌∙◌, ◌⊎◌, inl, inr, arith}
use Rattle.std.specs.List.{Contains, list_any}
use Rattle.std.proofs.lemmas.Bool.{or_cases, or_left, or_right}

-- x is an element of the list
abbrev pub Has : {X : Type 0} → List X → X → Type 0
Has [] y = ⊥
Has (x ∷ xs) y = (x ≡ y) ⊎ Has xs y

pub Contains-from_Has : {X : Type 0} (xs : List X) (y : X) → Has xs y → Contains xs y
Contains-from_Has [] y h = absurd h
Contains-from_Has (x ∷ xs) y (inl e) = (zero, omega arith, e)
Contains-from_Has (x ∷ xs) y (inr h) =
    let c = Contains-from_Has xs y h in (suc c.0, omega (arith, c.1), c.2)

pub Has-from_Contains : {X : Type 0} (xs : List X) (y : X) → Contains xs y → Has xs y
Has-from_Contains [] y (k, l, e) = absurd (omega arith)
Has-from_Contains (x ∷ xs) y (zero, l, e) = inl e
Has-from_Contains (x ∷ xs) y (suc k, l, e) = inr (Has-from_Contains xs y (k, omega arith, e))

pub Has-append_left : {X : Type 0} (xs ys : List X) (y : X) → Has xs y → Has (xs ++ ys) y
Has-append_left [] ys y h = absurd h
Has-append_left (x ∷ xs) ys y (inl e) = inl e
Has-append_left (x ∷ xs) ys y (inr h) = inr (Has-append_left xs ys y h)

pub Has-append_right : {X : Type 0} (xs ys : List X) (y : X) → Has ys y → Has (xs ++ ys) y
Has-append_right [] ys y h = h
Has-append_right (x ∷ xs) ys y h = inr (Has-append_right xs ys y h)

pub Has-append_cases : {X : Type 0} (xs ys : List X) (y : X) → Has (xs ++ ys) y → Has xs y ⊎ Has ys y
Has-append_cases [] ys y h = inr h
Has-append_cases (x ∷ xs) ys y (inl e) = inl (inl e)
Has-append_cases (x ∷ xs) ys y (inr h) =
    elim (Has-append_cases xs ys y h) [ inl g ↦ inl (inr g) | inr g ↦ inr g ]

pub Has-map : {X Y : Type 0} (f : X → Y) (xs : List X) (x : X) → Has xs x → Has (map f xs) (f x)
Has-map f [] x h = absurd h
Has-map f (z ∷ xs) x (inl e) = inl (ap f e)
Has-map f (z ∷ xs) x (inr h) = inr (Has-map f xs x h)

pub Has-map_cases : {X Y : Type 0} (f : X → Y) (xs : List X) (y : Y) → Has (map f xs) y → (x : X) × Has xs x × (f x ≡ y)
Has-map_cases f [] y h = absurd h
Has-map_cases f (z ∷ xs) y (inl e) = (z, inl refl, e)
Has-map_cases f (z ∷ xs) y (inr h) = let c = Has-map_cases f xs y h in (c.0, inr c.1, c.2)

pub list_any-from_Has : {X : Type 0} (p : X → Bool) (xs : List X) (x : X) → Has xs x → p x ≡ true → list_any p xs ≡ true
list_any-from_Has p [] x h e = absurd h
list_any-from_Has p (z ∷ xs) x (inl g) e = or_left (p z) (list_any p xs) (ap p g ∙ e)
list_any-from_Has p (z ∷ xs) x (inr h) e = or_right (p z) (list_any p xs) (list_any-from_Has p xs x h e)

pub Has-from_list_any : {X : Type 0} (p : X → Bool) (xs : List X) → list_any p xs ≡ true → (x : X) × Has xs x × (p x ≡ true)
Has-from_list_any p [] e = absurd cc
Has-from_list_any p (z ∷ xs) e = elim (or_cases (p z) (list_any p xs) e) [
  | inl g ↦ (z, inl refl, g)
  | inr g ↦ let c = Has-from_list_any p xs g in (c.0, inr c.1, c.2)
]

-- a first test that settles nothing
pub and-true : (a b : Bool) → a ≡ true → b ≡ (a && b)
and-true true b e = refl
and-true false b e = absurd cc

pub or-false : (a b : Bool) → a ≡ false → b ≡ (a || b)
or-false true b e = absurd cc
or-false false b e = refl

pub list_any-map : {X Y : Type 0} (p : Y → Bool) (f : X → Y) (xs : List X) → list_any (λ x. p (f x)) xs ≡ list_any p (map f xs)
list_any-map p f [] = refl
list_any-map p f (x ∷ xs) = ap (λ b. p (f x) || b) (list_any-map p f xs)
