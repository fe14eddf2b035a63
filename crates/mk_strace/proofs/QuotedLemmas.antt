-- Texts in quotes, one byte after the other.
use Rattle.std.proofs.Common.{◌≡◌, ℕ, ◌<◌, ◌-◌, ◌≤◌, List, [], ◌∷◌, ◌++◌, length, take, drop, get_or}
use Rattle.std.proofs.Common.{Option, Some, None, refl, ap, arith, append_assoc}
use Rattle.std.specs.Option.{option_map}
use Rattle.mk_strace.specs.Quoted.{bytes_of, bytes_meant, last_of, meant_by, unquoted_behind}
use Rattle.mk_strace.specs.declared.quoted.Escape.{Escape}
use Rattle.mk_strace.specs.declared.quoted.Meant.{Meant}
use Rattle.mk_strace.proofs.ScanLemmas.{rest_is}

-- what is read behind bytes
abbrev pub behind_bytes : List ℕ → Option (List ℕ) → Option (List ℕ)
behind_bytes bytes found = option_map (λ more. bytes ++ more) found

behind_bytes-more : (first second : List ℕ) (found : Option (List ℕ))
    → behind_bytes (first ++ second) found
    ≡ behind_bytes first (option_map (λ more. second ++ more) found)
behind_bytes-more first second None = refl
behind_bytes-more first second (Some bytes) = ap Some (append_assoc first second bytes)

-- a byte is read, and the rest is left
pub byte-read : (out next : List ℕ) (escape : Escape) (one : Meant) (rest : List ℕ)
    → 1 ≤ length rest → Some one ≡ meant_by escape (get_or rest 0 0)
    → next ≡ out ++ bytes_meant one
    → behind_bytes next (unquoted_behind one.escape (take (length rest - 1) (drop 1 rest)))
    ≡ behind_bytes out (unquoted_behind escape rest)
unfolding unquoted_behind
byte-read out next escape one [] some is next_is = absurd (omega arith)
byte-read out next escape one (byte ∷ rest) some is next_is =
    rw (next_is, ← is, rest_is 1 (byte ∷ rest))
    (behind_bytes-more out (bytes_meant one) (unquoted_behind one.escape rest))

pub byte-refused : (out : List ℕ) (escape : Escape) (rest : List ℕ) → 1 ≤ length rest
    → None ≡ meant_by escape (get_or rest 0 0)
    → None ≡ behind_bytes out (unquoted_behind escape rest)
unfolding unquoted_behind
byte-refused out escape [] some is = absurd (omega arith)
byte-refused out escape (byte ∷ rest) some is = rw (← is) refl

pub text-ends : (out next : List ℕ) (escape : Escape) (last : Option ℕ) (rest : List ℕ)
    → length rest < 1 → Some last ≡ last_of escape → next ≡ out ++ bytes_of last
    → Some next ≡ behind_bytes out (unquoted_behind escape rest)
unfolding unquoted_behind
text-ends out next escape last [] none is next_is = rw (next_is, ← is) refl
text-ends out next escape last (byte ∷ rest) none is next_is = absurd (omega arith)

pub text-open : (out : List ℕ) (escape : Escape) (rest : List ℕ) → length rest < 1
    → None ≡ last_of escape → None ≡ behind_bytes out (unquoted_behind escape rest)
unfolding unquoted_behind
text-open out escape [] none is = rw (← is) refl
text-open out escape (byte ∷ rest) none is = absurd (omega arith)
