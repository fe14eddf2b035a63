-- Counting, and the rest behind lines.
use Rattle.std.proofs.Common.{◌≡◌, ℕ, ◌≤◌, Bool, true, false, nat_lt, refl, ap, ◌∙◌, arith}
use Rattle.std.proofs.lemmas.Bool.Decides.{nat_tests}
use Rattle.mk_blocks.specs.Outcomes.{done, refused, ◌>>=◌}
use Rattle.mk_blocks.specs.Runs as runs
use Rattle.mk_blocks.specs.Runs.{After, IsCounted, Reads, Run, after, run_at}
use Rattle.mk_blocks.specs.declared.fault.FileFault.TheVariants.{TooManyLines}
use Rattle.mk_blocks.proofs.OutcomeLemmas.{bind-bind, bind-same, bind-done}

pub counted-ok : {S W F : Type 0} (s : S) (count more : ℕ) → IsCounted count more
    → runs.counted {W = W} {F = F} (run_at s count) ≡ done (run_at s more)
counted-ok s count more counts =
    let below : nat_lt count runs.max_lines ≡ true = grind (arith, nat_tests, counts.0) in
    rw (below, counts.1) refl

pub counted-err : {S W F : Type 0} (s : S) (count : ℕ) → runs.max_lines ≤ count
    → runs.counted {W = W} {F = F} (run_at s count) ≡ refused TooManyLines
counted-err s count full =
    let over : nat_lt count runs.max_lines ≡ false = grind (arith, nat_tests, full) in rw over refl

module _ {S W F : Type 0} where
  -- what is counted, and then the rest
  pub counted-then : {A : Type 0} (s : S) (count more : ℕ) (next : Run S → Reads W F A)
      → IsCounted count more → (runs.counted (run_at s count) >>= next) ≡ next (run_at s more)
  counted-then s count more next counts = ap (λ o. o >>= next) (counted-ok s count more counts)

  pub counted-not : {A : Type 0} (s : S) (count : ℕ) (next : Run S → Reads W F A)
      → runs.max_lines ≤ count → (runs.counted (run_at s count) >>= next) ≡ refused TooManyLines
  counted-not s count next full = ap (λ o. o >>= next) (counted-err s count full)

  next_if-next : (b : Bool) (r : Run S) (first second : Run S → Reads W F (After S))
      → (runs.next_if b r first >>= runs.next second) ≡ runs.next_if b r
      (λ q. first q >>= runs.next second)
  next_if-next true r first second = refl
  next_if-next false r first second = refl

  pub next-next : (o : Reads W F (After S)) (first second : Run S → Reads W F (After S))
      → ((o >>= runs.next first) >>= runs.next second) ≡ (o >>= runs.next
      (λ q. first q >>= runs.next second))
  next-next o first second =
      bind-bind o (runs.next first) (runs.next second)
      ∙ bind-same o _ _ (λ a. next_if-next a.goes_on a.run first second)

  next_if-same : (b : Bool) (r : Run S) (first second : Run S → Reads W F (After S))
      → ((r : Run S) → first r ≡ second r) → runs.next_if b r first ≡ runs.next_if b r second
  next_if-same true r first second same = same r
  next_if-same false r first second same = refl

  pub next-same : (o : Reads W F (After S)) (first second : Run S → Reads W F (After S))
      → ((r : Run S) → first r ≡ second r) → (o >>= runs.next first) ≡ (o >>= runs.next second)
  next-same o first second same =
      bind-same o _ _ (λ a. next_if-same a.goes_on a.run first second same)

  next_if-goes_on : (b : Bool) (r : Run S) → runs.next_if {W = W} {F = F} b r runs.goes_on ≡ done
      (after b r)
  next_if-goes_on true r = refl
  next_if-goes_on false r = refl

  pub next-goes_on : (o : Reads W F (After S)) → (o >>= runs.next runs.goes_on) ≡ o
  next-goes_on o = bind-same o _ _ (λ a. next_if-goes_on a.goes_on a.run) ∙ bind-done o
