-- What is left of a word in the alternatives of groups, one byte after the other.
use Rattle.std.proofs.Common.{◌≡◌, ℕ, zero, suc, ◌+◌, ◌-◌, ◌<◌, ◌==◌, Bool, true, false, List, [], ◌∷◌, ◌++◌}
use Rattle.std.proofs.Common.{Option, Some, None, length, take, drop, refl, sym, ap, subst, ◌∙◌, append_assoc, arith}
use Rattle.std.proofs.Math.Seq.{take-append-add, drop-append-add}
use Rattle.std.proofs.lemmas.Bool.{and_parts, and_right, eqb-true}
use Rattle.std.proofs.lemmas.Bool.Decides.{nat_tests}
use Rattle.std.specs.Option.{option_map}
use Rattle.mk_bytes.specs.Bytes.{curly_open, curly_close}
use Rattle.mk_depline.specs.Braces.{comma, depth_behind, first_of, group_end, left}
use Rattle.mk_depline.specs.Braces.{left_to, place_from}
use Rattle.mk_depline.specs.Braces.{place_of, stops}

-- a place, counted from so many bytes before
abbrev pub shift : ℕ → Option ℕ → Option ℕ
shift count found = option_map (λ k. count + k) found

shift-zero : (found : Option ℕ) → shift 0 found ≡ found
shift-zero None = refl
shift-zero (Some k) = ap Some (omega arith)

shift-suc : (count : ℕ) (found : Option ℕ) → option_map suc (shift count found) ≡ shift (suc count) found
shift-suc count None = refl
shift-suc count (Some k) = ap Some (omega arith)

-- a text in which so many braces that are open before are closed, and no more
abbrev pub Closed : ℕ → List ℕ → Type 0
Closed depth [] = depth ≡ 0
Closed depth (byte ∷ rest) =
    (stops curly_close depth byte ≡ false) × Closed (depth_behind depth byte) rest

-- one brace more is open behind a byte as it is before
deeper : (depth byte : ℕ) (opening closing : Bool) → (byte == curly_open) ≡ opening
    → (byte == curly_close) ≡ closing → stops curly_close depth byte ≡ false
    → depth_behind (suc depth) byte ≡ suc (depth_behind depth byte)
deeper depth byte true closing opens closes none = rw opens (omega arith)
deeper zero byte false true opens closes none = let no = rw closes at none in cc
deeper (suc depth) byte false true opens closes none = rw (opens, closes) (omega arith)
deeper depth byte false false opens closes none = rw (opens, closes) refl

pub never : (wanted depth byte : ℕ) → stops wanted (suc depth) byte ≡ false
never wanted depth byte =
    let none : (suc depth == 0) ≡ false = grind (arith, nat_tests) in
    and_right (byte == wanted) (suc depth == 0) none

-- behind a text that is closed a place is sought as behind its brace
pub place-closed : (wanted depth : ℕ) (inside behind : List ℕ) → Closed depth inside
    → place_from wanted (suc depth) (inside ++ behind) ≡ shift (length inside) (place_from wanted 1 behind)
unfolding place_from
place-closed wanted depth [] behind closed = rw closed (sym (shift-zero (place_from wanted 1 behind)))
place-closed wanted depth (byte ∷ inside) behind closed =
    rw (
      never wanted depth byte,
      deeper depth byte (byte == curly_open) (byte == curly_close) refl refl closed.0,
      place-closed wanted (depth_behind depth byte) inside behind closed.1,
    ) (shift-suc (length inside) (place_from wanted 1 behind))

-- its brace is the first that closes none of its own
pub place-close : (depth : ℕ) (inside behind : List ℕ) → Closed depth inside
    → place_from curly_close depth (inside ++ curly_close ∷ behind) ≡ Some (length inside)
unfolding place_from
place-close depth [] behind closed = rw closed refl
place-close depth (byte ∷ inside) behind closed =
    rw (closed.0, place-close (depth_behind depth byte) inside behind closed.1) refl

-- a text up to the place of a brace, and behind it
pub record Cut (depth : ℕ) (text : List ℕ) (at : ℕ) : Type 0 where
  pub inside : List ℕ
  pub behind : List ℕ
  pub whole : text ≡ inside ++ curly_close ∷ behind
  pub long : length inside ≡ at
  pub closed : Closed depth inside

cut-here : (depth byte : ℕ) (rest : List ℕ) → stops curly_close depth byte ≡ true
    → Cut depth (byte ∷ rest) 0
cut-here depth byte rest is =
    let parts = and_parts (byte == curly_close) (depth == 0) is in
    record {
      inside = [];
      behind = rest;
      whole = ap (λ b. b ∷ rest) (eqb-true byte curly_close parts.0);
      long = refl;
      closed = eqb-true depth 0 parts.1;
    }

cut-later : (depth byte : ℕ) (rest : List ℕ) (at : ℕ) → stops curly_close depth byte ≡ false
    → Cut (depth_behind depth byte) rest at → Cut depth (byte ∷ rest) (suc at)
cut-later depth byte rest at is cut = record {
  inside = byte ∷ cut.inside;
  behind = cut.behind;
  whole = ap (λ more. byte ∷ more) cut.whole;
  long = ap suc cut.long;
  closed = (is, cut.closed);
}

-- a text that is cut at a place, if there is one
abbrev CutAt : ℕ → List ℕ → Option ℕ → Type 0
CutAt depth text None = Unit {0}
CutAt depth text (Some at) = Cut depth text at

cut_at-later : (depth byte : ℕ) (rest : List ℕ) (found : Option ℕ)
    → stops curly_close depth byte ≡ false
    → CutAt (depth_behind depth byte) rest found → CutAt depth (byte ∷ rest) (option_map suc found)
cut_at-later depth byte rest None is cut = tt
cut_at-later depth byte rest (Some at) is cut = cut-later depth byte rest at is cut

cut_at-byte : (depth byte : ℕ) (rest : List ℕ) (here : Bool) → stops curly_close depth byte ≡ here
    → CutAt (depth_behind depth byte) rest (place_from curly_close (depth_behind depth byte) rest)
    → CutAt depth (byte ∷ rest) (place_from curly_close depth (byte ∷ rest))
unfolding place_from
cut_at-byte depth byte rest true is cut = rw is (cut-here depth byte rest is)
cut_at-byte depth byte rest false is cut =
    rw is (cut_at-later depth byte rest (place_from curly_close (depth_behind depth byte) rest) is cut)

cut_at : (depth : ℕ) (text : List ℕ) → CutAt depth text (place_from curly_close depth text)
unfolding place_from
cut_at depth [] = tt
cut_at depth (byte ∷ rest) =
    cut_at-byte depth byte rest (stops curly_close depth byte) refl (cut_at (depth_behind depth byte) rest)

pub cut_of : (text : List ℕ) (at : ℕ) → place_of curly_close text ≡ Some at → Cut 0 text at
cut_of text at is = let cut = cut_at 0 text in rw is at cut

pub none_map : (found : Option ℕ) → option_map suc found ≡ None → found ≡ None
none_map None is = refl
none_map (Some k) is = cc

-- a brace that is not closed hides those before it
unclosed-byte : (depth byte : ℕ) (rest : List ℕ) (here : Bool) → stops curly_close depth byte ≡ here
    → place_from curly_close depth (byte ∷ rest) ≡ None
    → (here ≡ false) × (place_from curly_close (depth_behind depth byte) rest ≡ None)
unfolding place_from
unclosed-byte depth byte rest true is none = let no = rw is at none in cc
unclosed-byte depth byte rest false is none =
    let more = rw is at none in
    (refl, none_map (place_from curly_close (depth_behind depth byte) rest) more)

pub place-unclosed : (wanted depth : ℕ) (text : List ℕ) → place_from curly_close depth text ≡ None
    → place_from wanted (suc depth) text ≡ None
unfolding place_from
place-unclosed wanted depth [] none = refl
place-unclosed wanted depth (byte ∷ rest) none =
    let more = unclosed-byte depth byte rest (stops curly_close depth byte) refl none in
    rw (
      never wanted depth byte,
      deeper depth byte (byte == curly_open) (byte == curly_close) refl refl more.0,
      place-unclosed wanted (depth_behind depth byte) rest more.1,
    ) refl

-- What is left

-- the first alternative that begins with a group of its own
first-group : (inside behind : List ℕ) (found : Option ℕ) → found ≡ place_of comma behind
    → Closed 0 inside
    → first_of (curly_open ∷ (inside ++ curly_close ∷ behind))
    ≡ curly_open ∷ (inside ++ curly_close ∷ first_of behind)
unfolding place_from
first-group inside behind None is closed =
    rw (place-closed comma 0 inside (curly_close ∷ behind) closed, ← is) refl
first-group inside behind (Some at) is closed =
    rw (place-closed comma 0 inside (curly_close ∷ behind) closed, ← is)
    (ap (λ more. curly_open ∷ more) (take-append-add inside (curly_close ∷ behind) (suc at)))

-- a group, and what is left behind it
left-group-at : (depth : ℕ) (inside behind : List ℕ) (found : Option ℕ)
    → place_of curly_close behind ≡ found → Closed 0 inside
    → left_to (curly_open ∷ (inside ++ curly_close ∷ behind)) (left depth)
    (option_map suc (shift (length inside) (option_map suc found)))
    ≡ curly_open ∷ (inside ++ curly_close ∷ left_to behind (left depth) found)
left-group-at depth inside behind None is closed = refl
left-group-at depth inside behind (Some at) is closed =
    let long : suc (length inside + suc at) ≡ length inside + suc (suc at) = omega arith in
    rw (
      take-append-add inside (curly_close ∷ behind) (suc at),
      first-group inside (take at behind) (place_of comma (take at behind)) refl closed,
      long,
      drop-append-add inside (curly_close ∷ behind) (suc (suc at)),
    ) (ap (λ more. curly_open ∷ more)
    (append_assoc inside (curly_close ∷ first_of (take at behind)) (left depth (drop (suc at) behind))))

pub left-group : (depth : ℕ) (inside behind : List ℕ) → Closed 0 inside
    → left depth (curly_open ∷ (inside ++ curly_close ∷ behind))
    ≡ curly_open ∷ (inside ++ curly_close ∷ left depth behind)
unfolding left place_from
left-group zero inside behind closed = refl
left-group (suc depth) inside behind closed =
    rw (place-closed curly_close 0 inside (curly_close ∷ behind) closed)
    (left-group-at depth inside behind (place_of curly_close behind) refl closed)

-- a group that is not closed
pub left-unclosed : (depth : ℕ) (rest : List ℕ) → place_of curly_close rest ≡ None
    → left depth (curly_open ∷ rest) ≡ curly_open ∷ rest
unfolding left place_from
left-unclosed zero rest none = refl
left-unclosed (suc depth) rest none = rw (place-unclosed curly_close 0 rest none) refl

-- one byte of an alternative
first-byte : (byte : ℕ) (rest : List ℕ) (found : Option ℕ) → found ≡ place_of comma rest
    → place_of comma (byte ∷ rest) ≡ option_map suc found
    → first_of (byte ∷ rest) ≡ byte ∷ first_of rest
first-byte byte rest None is next = rw (next, ← is) refl
first-byte byte rest (Some at) is next = rw (next, ← is) refl

-- a byte that ends no alternative and opens no group
left-next : (depth byte : ℕ) (rest : List ℕ) (found : Option ℕ) → found ≡ place_of curly_close rest
    → place_of curly_close (byte ∷ rest) ≡ option_map suc found
    → ((text : List ℕ) → first_of (byte ∷ text) ≡ byte ∷ first_of text)
    → left (suc depth) (byte ∷ rest) ≡ byte ∷ left (suc depth) rest
unfolding left
left-next depth byte rest None is next first = rw (next, ← is) refl
left-next depth byte rest (Some at) is next first = rw (next, ← is, first (take at rest)) refl

stays : (wanted byte : ℕ) (text : List ℕ) → (byte == curly_open) ≡ false
    → (byte == curly_close) ≡ false → (byte == wanted) ≡ false
    → place_of wanted (byte ∷ text) ≡ option_map suc (place_of wanted text)
unfolding place_from
stays wanted byte text opens closes none = rw (none, opens, closes) refl

left-plain : (depth byte : ℕ) (rest : List ℕ) → (byte == curly_open) ≡ false
    → (byte == comma) ≡ false → (byte == curly_close) ≡ false
    → left (suc depth) (byte ∷ rest) ≡ byte ∷ left (suc depth) rest
left-plain depth byte rest opens parts closes =
    left-next depth byte rest (place_of curly_close rest) refl
    (stays curly_close byte rest opens closes closes)
    (λ text. first-byte byte text (place_of comma text) refl (stays comma byte text opens closes parts))

-- a comma in a group that is not closed
left-comma : (depth : ℕ) (rest : List ℕ) → place_of curly_close (comma ∷ rest) ≡ None
    → left (suc depth) (comma ∷ rest) ≡ comma ∷ left (suc depth) rest
unfolding left place_from
left-comma depth rest none = rw (none_map (place_of curly_close rest) none) refl

never_none : (byte : ℕ) (rest : List ℕ) → byte ≡ curly_close → place_of curly_close (byte ∷ rest) ≡ None → ⊥
unfolding place_from
never_none byte rest is none = let no = rw is at none in cc

left-byte-in : (depth byte : ℕ) (rest : List ℕ) (parts closes : Bool)
    → (byte == comma) ≡ parts → (byte == curly_close) ≡ closes → (byte == curly_open) ≡ false
    → group_end (suc depth) (byte ∷ rest) ≡ None
    → left (suc depth) (byte ∷ rest) ≡ byte ∷ left (suc depth) rest
left-byte-in depth byte rest true closes is-comma is-close opens none =
    let none = rw is-comma at none in
    let P : ℕ → Type 0 = λ b. place_of curly_close (b ∷ rest) ≡ None
    → left (suc depth) (b ∷ rest) ≡ b ∷ left (suc depth) rest in
    subst P (sym (eqb-true byte comma is-comma)) (left-comma depth rest) none
left-byte-in depth byte rest false true is-comma is-close opens none =
    let none = rw (is-comma, is-close) at none in
    absurd (never_none byte rest (eqb-true byte curly_close is-close) none)
left-byte-in depth byte rest false false is-comma is-close opens none =
    left-plain depth byte rest opens is-comma is-close

pub left-byte : (depth byte : ℕ) (rest : List ℕ) → (byte == curly_open) ≡ false
    → group_end depth (byte ∷ rest) ≡ None → left depth (byte ∷ rest) ≡ byte ∷ left depth rest
unfolding left
left-byte zero byte rest opens none = refl
left-byte (suc depth) byte rest opens none =
    left-byte-in depth byte rest (byte == comma) (byte == curly_close) refl refl opens none

-- the end of an alternative
end-comma : (depth : ℕ) (rest : List ℕ) (found : Option ℕ) (at : ℕ)
    → place_of curly_close rest ≡ found → option_map suc found ≡ Some at
    → left_to (comma ∷ rest) (left depth) (Some at) ≡ left depth (drop (suc at) (comma ∷ rest))
unfolding place_from
end-comma depth rest None at is some = cc
end-comma depth rest (Some k) zero is some = cc
end-comma depth rest (Some k) (suc at) is some = refl

left-end-comma : (depth : ℕ) (rest : List ℕ) (at : ℕ)
    → place_of curly_close (comma ∷ rest) ≡ Some at
    → left (suc depth) (comma ∷ rest) ≡ left depth (drop (suc at) (comma ∷ rest))
unfolding left place_from
left-end-comma depth rest at some =
    rw some (end-comma depth rest (place_of curly_close rest) at refl some)

left-end-close : (depth : ℕ) (rest : List ℕ) (at : ℕ)
    → place_of curly_close (curly_close ∷ rest) ≡ Some at
    → left (suc depth) (curly_close ∷ rest) ≡ left depth (drop (suc at) (curly_close ∷ rest))
unfolding left place_from
left-end-close depth rest zero some = refl
left-end-close depth rest (suc at) some = cc

left-end-in : (depth byte : ℕ) (rest : List ℕ) (at : ℕ) (parts closes : Bool)
    → (byte == comma) ≡ parts → (byte == curly_close) ≡ closes
    → group_end (suc depth) (byte ∷ rest) ≡ Some at
    → left (suc depth) (byte ∷ rest) ≡ left depth (drop (suc at) (byte ∷ rest))
left-end-in depth byte rest at true closes is-comma is-close some =
    let some = rw is-comma at some in
    let P : ℕ → Type 0 = λ b. place_of curly_close (b ∷ rest) ≡ Some at
    → left (suc depth) (b ∷ rest) ≡ left depth (drop (suc at) (b ∷ rest)) in
    subst P (sym (eqb-true byte comma is-comma)) (left-end-comma depth rest at) some
left-end-in depth byte rest at false true is-comma is-close some =
    let some = rw (is-comma, is-close) at some in
    let P : ℕ → Type 0 = λ b. place_of curly_close (b ∷ rest) ≡ Some at
    → left (suc depth) (b ∷ rest) ≡ left depth (drop (suc at) (b ∷ rest)) in
    subst P (sym (eqb-true byte curly_close is-close)) (left-end-close depth rest at) some
left-end-in depth byte rest at false false is-comma is-close some =
    let some = rw (is-comma, is-close) at some in cc

pub left-end : (depth : ℕ) (text : List ℕ) (at : ℕ) → group_end depth text ≡ Some at
    → left depth text ≡ left (depth - 1) (drop (suc at) text)
left-end zero text at some = cc
left-end (suc depth) [] at some = cc
left-end (suc depth) (byte ∷ rest) at some =
    let less : suc depth - 1 ≡ depth = omega arith in
    rw less (left-end-in depth byte rest at (byte == comma) (byte == curly_close) refl refl some)

-- an alternative is closed, and so is what stands behind its comma
abbrev ClosedBehind : List ℕ → ℕ → Type 0
ClosedBehind inside at = Closed 0 (drop (suc at) inside) × (at < length inside)

comma-later : (depth byte : ℕ) (inside : List ℕ) (at : ℕ) (found : Option ℕ)
    → ((k : ℕ) → place_from comma depth inside ≡ Some k → ClosedBehind inside k)
    → place_from comma depth inside ≡ found → option_map suc found ≡ Some at
    → ClosedBehind (byte ∷ inside) at
comma-later depth byte inside at None next is some = cc
comma-later depth byte inside zero (Some k) next is some = cc
comma-later depth byte inside (suc at) (Some k) next is some =
    let same : k ≡ at = cc in
    let behind = next at (is ∙ ap Some same) in
    (behind.0, omega (arith, behind.1))

comma-here : (depth byte : ℕ) (inside : List ℕ) → byte ≡ comma → depth ≡ 0
    → Closed (depth_behind depth byte) inside → Closed 0 inside
comma-here depth byte inside is none closed = rw (is, none) at closed

comma-byte : (depth byte : ℕ) (inside : List ℕ) (at : ℕ) (here : Bool) → stops comma depth byte ≡ here
    → ((k : ℕ) → place_from comma (depth_behind depth byte) inside ≡ Some k → ClosedBehind inside k)
    → place_from comma depth (byte ∷ inside) ≡ Some at → Closed depth (byte ∷ inside)
    → ClosedBehind (byte ∷ inside) at
unfolding place_from
comma-byte depth byte inside zero true is next some closed =
    let parts = and_parts (byte == comma) (depth == 0) is in
    (comma-here depth byte inside (eqb-true byte comma parts.0) (eqb-true depth 0 parts.1) closed.1, omega arith)
comma-byte depth byte inside (suc at) true is next some closed = let no = rw is at some in cc
comma-byte depth byte inside at false is next some closed =
    comma-later (depth_behind depth byte) byte inside at
    (place_from comma (depth_behind depth byte) inside) next refl (rw is at some)

pub closed-comma : (depth : ℕ) (inside : List ℕ) (at : ℕ) → place_from comma depth inside ≡ Some at
    → Closed depth inside → ClosedBehind inside at
unfolding place_from
closed-comma depth [] at some closed = cc
closed-comma depth (byte ∷ inside) at some closed =
    comma-byte depth byte inside at (stops comma depth byte) refl
    (λ k is. closed-comma (depth_behind depth byte) inside k is closed.1) some closed
