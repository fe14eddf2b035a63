-- A region of bytes that begins with `./`.
use Rattle.std.specs.Prelude.{◌≡◌, ℕ, ◌+◌, ◌≤◌, ◌<◌, ◌^◌, List, [], length, take, codes}
use Rattle.std.specs.Prelude.{if◌then◌else◌, ◌==◌}

-- its bytes, and how many more it takes without asking for memory
pub record Contents : Type 0 where
  pub bytes : List ℕ
  pub spare : ℕ

-- The bytes of a region, by what it keeps in memory: a fresh one keeps none yet.
abbrev pub bytes_of : List ℕ → List ℕ
bytes_of kept = if length kept == 0 then codes "./" else kept

-- The bytes begin with `./` and leave the spare ones below 2^32, and the memory at hand holds both
-- what is kept and the spare ones. A fresh region has no spare ones.
pub record IsRegion (kept : List ℕ) (spare capacity : ℕ) : Type 0 where
  pub begins : take 2 (bytes_of kept) ≡ codes "./"
  pub short : length (bytes_of kept) + spare < 2 ^ 32
  pub backed : length kept + spare ≤ capacity
  pub fresh : kept ≡ [] → spare ≡ 0
