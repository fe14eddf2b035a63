-- Lines that follow one another, as they are read and as they are written.
use Rattle.std.proofs.Common.{◌≡◌, ℕ, zero, suc, ◌<◌, ◌≤◌, List, [], ◌∷◌, ◌++◌, length}
use Rattle.std.proofs.Common.{flat_map}
use Rattle.std.proofs.Common.{Option, Some, None, IfSome, refl, sym, ◌∙◌, ap, arith}
use Rattle.std.proofs.Common.{append_assoc}
use Rattle.std.proofs.Common.{Bor, subst, length-append}
use Rattle.std.proofs.lemmas.List.{append-nil}
use Rattle.std.specs.List.{AllByRecursion}
use Rattle.std.specs.Option.{option_map}
use Rattle.mk_meta.specs.Reading.{IsTaken, Read, Many, first_of, many, all_of}

abbrev with_items : {A : Type 0} → List A → Many A → Many A
with_items front (items, rest) = (front ++ items, rest)

-- the items so far and those of the rest are all
pub record IsGoing {A : Type 0} (one : List ℕ → Read A) (text : List ℕ) (items : List A)
    (rest : List ℕ) : Type 0 where
  pub most : ℕ
  pub enough : length rest ≤ most
  pub all : with_items items (many one most rest) ≡ all_of one text

pub going-begins : {A : Type 0} (one : List ℕ → Read A) (text : List ℕ) → IsGoing one text [] text
going-begins one text = record {
  most = length text;
  enough = omega arith;
  all = refl;
}

with_items-item : {A : Type 0} (items : List A) (item : A) (found : Many A)
    → with_items (items ++ item ∷ []) found ≡ with_items items (item ∷ found.0, found.1)
with_items-item items item (more, rest) =
    ap (λ all. (all, rest)) (append_assoc items (item ∷ []) more)

many-first : {A : Type 0} (one : List ℕ → Read A) (most : ℕ) (text : List ℕ)
    → many one (suc most) text ≡ first_of text (many one most) (one text)
unfolding many
many-first one most text = refl

pub going-on : {A : Type 0} (one : List ℕ → Read A) (text : List ℕ) (items : List A)
    (rest : List ℕ) (item : A) (after : List ℕ) → IsGoing one text items rest
    → Some (item, after) ≡ one rest → length after < length rest
    → IsGoing one text (items ++ item ∷ []) after
going-on one text items rest item after going is shorter =
    go going.most going.enough going.all
  where
    go : (most : ℕ) → length rest ≤ most → with_items items (many one most rest) ≡ all_of one text
        → IsGoing one text (items ++ item ∷ []) after
    go zero enough all = absurd (omega arith)
    go (suc most) enough all = record {
      most = most;
      enough = omega arith;
      all = with_items-item items item (many one most after)
          ∙ ap (with_items items) (sym (many-first one most rest
          ∙ ap (first_of rest (many one most)) (sym is)))
          ∙ all;
    }

many-none : {A : Type 0} (one : List ℕ → Read A) (most : ℕ) (text : List ℕ) → None ≡ one text
    → many one most text ≡ ([], text)
unfolding many
many-none one zero text none = refl
many-none one (suc most) text none = ap (first_of text (many one most)) (sym none)

pub going-ends : {A : Type 0} (one : List ℕ → Read A) (text : List ℕ) (items : List A)
    (rest : List ℕ) → IsGoing one text items rest → None ≡ one rest
    → (items, rest) ≡ all_of one text
going-ends one text items rest going none =
    ap (λ all. (all, rest)) (sym (append-nil items))
    ∙ ap (with_items items) (sym (many-none one going.most rest none)) ∙ going.all

-- the same by what a reader of the code answers
abbrev pub seen : {A : Type 0} → Option (A × Bor (List ℕ)) → Read A
seen found = option_map (λ read. (read.0, read.1.now)) found

-- an item that was taken in
pub going-taken : {A : Type 0} (one : List ℕ → Read A) (text : List ℕ) (items new : List A)
    (rest : List ℕ) (found : Option (A × Bor (List ℕ))) (after : Bor (List ℕ))
    → IsGoing one text items rest → seen found ≡ one rest
    → IfSome found (λ read. length read.1.now < length rest) → IsTaken found items new (Some after)
    → IsGoing one text new after.now
going-taken one text items new rest None after going read shorter taken = absurd cc
going-taken one text items new rest (Some (item, next)) after going read shorter taken =
    let same : next ≡ after = cc in
    subst (λ (left : Bor (List ℕ)). IsGoing one text new left.now) same
    (subst (λ all. IsGoing one text all next.now) (sym taken.0)
    (going-on one text items rest item next.now going read shorter))

pub taken-shorter : {A : Type 0} (items new : List A) (rest : List ℕ)
    (found : Option (A × Bor (List ℕ))) (after : Bor (List ℕ))
    → IfSome found (λ read. length read.1.now < length rest) → IsTaken found items new (Some after)
    → length after.now < length rest
taken-shorter items new rest None after shorter taken = absurd cc
taken-shorter items new rest (Some (item, next)) after shorter taken =
    let same : next ≡ after = cc in
    subst (λ (left : Bor (List ℕ)). length left.now < length rest) same shorter

-- there was none
pub going-over : {A : Type 0} (one : List ℕ → Read A) (text : List ℕ) (items new : List A)
    (rest : List ℕ) (found : Option (A × Bor (List ℕ))) → IsGoing one text items rest
    → seen found ≡ one rest → IsTaken found items new None → (new, rest) ≡ all_of one text
going-over one text items new rest None going read taken =
    subst (λ all. (all, rest) ≡ all_of one text) (sym taken.0)
    (going-ends one text items rest going read)
going-over one text items new rest (Some (item, next)) going read taken = absurd cc

-- What is written line by line is read so, where what follows is no further line.
many-again : {A : Type 0} (one : List ℕ → Read A) (spell : A → List ℕ) (P : A → Type 0)
    → ((item : A) (rest : List ℕ) → P item → one (spell item ++ rest) ≡ Some (item, rest))
    → (items : List A) (rest : List ℕ) (most : ℕ) → AllByRecursion P items → length items ≤ most
    → one rest ≡ None → many one most (flat_map spell items ++ rest) ≡ (items, rest)
many-again one spell P again [] rest most each enough none = many-none one most rest (sym none)
many-again one spell P again (item ∷ items) rest zero each enough none = absurd (omega arith)
many-again one spell P again (item ∷ items) rest (suc most) each enough none =
    let more = flat_map spell items ++ rest in
    ap (many one (suc most)) (append_assoc (spell item) (flat_map spell items) rest)
    ∙ many-first one most (spell item ++ more)
    ∙ ap (first_of (spell item ++ more) (many one most)) (again item more each.0)
    ∙ ap (λ found. (item ∷ found.0, found.1))
    (many-again one spell P again items rest most each.1 (omega arith) none)

-- each line has a byte at least
long : {A : Type 0} (spell : A → List ℕ) → ((item : A) → 0 < length (spell item))
    → (items : List A) (rest : List ℕ) → length items ≤ length (flat_map spell items ++ rest)
long spell some [] rest = omega arith
long spell some (item ∷ items) rest =
    let more = long spell some items rest in
    let first = some item in
    simp (append_assoc, length-append) (omega (arith, simp length-append at more))

pub all-again : {A : Type 0} (one : List ℕ → Read A) (spell : A → List ℕ) (P : A → Type 0)
    → ((item : A) (rest : List ℕ) → P item → one (spell item ++ rest) ≡ Some (item, rest))
    → ((item : A) → 0 < length (spell item))
    → (items : List A) (rest : List ℕ) → AllByRecursion P items → one rest ≡ None
    → all_of one (flat_map spell items ++ rest) ≡ (items, rest)
all-again one spell P again some items rest each none =
    many-again one spell P again items rest (length (flat_map spell items ++ rest)) each
    (long spell some items rest) none

-- what is read line by line is written so
pub record AreWritten {A : Type 0} (spell : A → List ℕ) (P : A → Type 0) (text : List ℕ)
    (found : Many A) : Type 0 where
  pub is : text ≡ flat_map spell found.0 ++ found.1
  pub each : AllByRecursion P found.0

pub record IsWritten {A : Type 0} (spell : A → List ℕ) (P : A → Type 0) (text : List ℕ) (item : A)
    (rest : List ℕ) : Type 0 where
  pub is : text ≡ spell item ++ rest
  pub right : P item

pub many-written : {A : Type 0} → (one : List ℕ → Read A) (spell : A → List ℕ) (P : A → Type 0)
    → ((text : List ℕ) (item : A) (rest : List ℕ) → one text ≡ Some (item, rest)
    → IsWritten spell P text item rest)
    → (most : ℕ) (text : List ℕ) → AreWritten spell P text (many one most text)
unfolding many
many-written {A} one spell P written zero text = record { is = refl; each = tt }
many-written {A} one spell P written (suc most) text =
    go (many-written one spell P written most) (one text) refl
  where
    go : ((more : List ℕ) → AreWritten spell P more (many one most more))
        → (read : Read A) → one text ≡ read
        → AreWritten spell P text (first_of text (many one most) read)
    go rest None is = record { is = refl; each = tt }
    go rest (Some (item, after)) is =
        let first = written text item after is in
        let more = rest after in
        record {
          is = first.is ∙ ap (λ t. spell item ++ t) more.is
              ∙ sym (append_assoc (spell item) (flat_map spell (many one most after).0)
              (many one most after).1);
          each = (first.right, more.each);
        }
