-- Tickets: the numbers from 1 on, each free or taken.
use Rattle.std.specs.Prelude.{ℕ, ◌≡◌, ◌≢◌, ◌+◌, ◌<◌, ◌≤◌, ◌==◌, List, [], ◌∷◌, if◌then◌else◌}
use Rattle.std.specs.Ordering.{nat_cmp}
use Rattle.std.specs.BinaryHeap.{IsHeap}
use Rattle.std.specs.declared.cmp.Reverse.{Reverse}

-- the least number that was never taken, and those below it that are free
pub record Pool : Type 0 where
  pub next : ℕ
  pub free : List ℕ

abbrev pub numbers_of : List (Reverse ℕ) → List ℕ
numbers_of [] = []
numbers_of (x ∷ xs) = x.0 ∷ numbers_of xs

-- how often a number stands in a list
abbrev pub times : ℕ → List ℕ → ℕ
times n [] = 0
times n (x ∷ xs) = (if n == x then 1 else 0) + times n xs

-- a ticket is taken
pub record IsTaken (pool : Pool) (ticket : ℕ) : Type 0 where
  pub from_one : 1 ≤ ticket
  pub below_next : ticket < pool.next
  pub not_free : times ticket pool.free ≡ 0

-- it is free, and all before it are taken
pub record IsLeastFree (pool : Pool) (ticket : ℕ) : Type 0 where
  pub from_one : 1 ≤ ticket
  pub free : ¬ IsTaken pool ticket
  pub least : (other : ℕ) → 1 ≤ other → other < ticket → IsTaken pool other

-- one more is taken
pub record TakesOne (old new : Pool) (ticket : ℕ) : Type 0 where
  pub this : IsTaken new ticket
  pub kept : (other : ℕ) → IsTaken old other → IsTaken new other
  pub no_other : (other : ℕ) → other ≢ ticket → IsTaken new other → IsTaken old other

-- one more is free
pub record GivesOne (old new : Pool) (ticket : ℕ) : Type 0 where
  pub this : ¬ IsTaken new ticket
  pub kept : (other : ℕ) → IsTaken new other → IsTaken old other
  pub no_other : (other : ℕ) → other ≢ ticket → IsTaken old other → IsTaken new other

-- the free numbers stand in a heap, the least first, each once and below `next`, and each number below `next` has room there
pub record IsPool (next : ℕ) (free : List (Reverse ℕ)) (room : ℕ) : Type 0 where
  pub ordered : IsHeap (λ x y. nat_cmp y.0 x.0) free
  pub some : 1 ≤ next
  pub spacious : next ≤ room + 1
  pub once : (n : ℕ) → times n (numbers_of free) ≤ 1
  pub within : (n : ℕ) → 0 < times n (numbers_of free) → (1 ≤ n) × (n < next)
