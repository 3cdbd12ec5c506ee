-- The lowest of numbered things that fail: of the cells that break a rule, the one that a refusal names.
-- Assumes nothing.
use Rattle.std.specs.Prelude.{ℕ, ◌+◌, Bool, cond, List, [], ◌∷◌}

-- the number of the first element that fails, where the list starts with number n; 0 where none fails
unfoldable pub lowest : {A : Type 0} → (ℕ → A → Bool) → ℕ → List A → ℕ
lowest fails n [] = 0
lowest fails n (x ∷ xs) = cond (fails n x) n (lowest fails (n + 1) xs)
