-- The greatest of a list by a measure, the first among equals: of the strength checks that a row has, the one that governs, and of the rows of a schedule.
-- Assumes nothing.
use Rattle.std.specs.Prelude.{ℕ, ◌≡◌, Bool, cond, List, [], ◌∷◌, ◌⊎◌, leb, Option, Some, None}

-- x is one of the list
abbrev pub Among : {A : Type 0} → A → List A → Type 0
Among x [] = ⊥
Among x (y ∷ list) = (x ≡ y) ⊎ Among x list

-- the one of greater measure, the first among equals
abbrev pub greater_by : {A : Type 0} → (A → ℕ) → A → A → A
greater_by measure x y = cond (leb (measure y) (measure x)) x y

-- the greater of x and what comes after it, x where nothing does
abbrev pub or_greater : {A : Type 0} → (A → ℕ) → A → Option A → A
or_greater measure x None = x
or_greater measure x (Some y) = greater_by measure x y

-- the greater of what was found before y, the earlier among equals, and y; y where nothing was
abbrev pub greater_after : {A : Type 0} → (A → ℕ) → Option A → A → A
greater_after measure None y = y
greater_after measure (Some x) y = greater_by measure x y

-- of the elements that count, the one of greatest measure, the first among equals; none where none counts
unfoldable pub greatest : {A : Type 0} → (A → Bool) → (A → ℕ) → List A → Option A
greatest counts measure [] = None
greatest counts measure (x ∷ list) =
    cond (counts x) (Some (or_greater measure x (greatest counts measure list))) (greatest counts measure list)
