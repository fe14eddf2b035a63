-- Groups of braces and their alternatives.
use Rattle.std.proofs.Common.{◌≡◌, ℕ, zero, suc, ◌+◌, ◌-◌, ◌<◌, ◌≤◌, Bool, true, false, List, [], ◌∷◌, ◌++◌}
use Rattle.std.proofs.Common.{Option, Some, None, Result, Ok, Err, take, drop, refl, sym, ap, inl, inr}
use Rattle.std.proofs.Common.{append_assoc, ◌∙◌, arith}
use Rattle.std.proofs.lemmas.List.{append-nil}
use Rattle.std.specs.List.{onto_first}
use Rattle.std.specs.Option.{option_map}
use Rattle.mk_bytes.specs.Agrees.{AgreesErr, ◌>>=◌}
use Rattle.mk_depline.specs.Braces.{Group, IsPlaced, Placed, added, alternatives, alternatives_from, comma, depth_behind}
use Rattle.mk_depline.specs.Braces.{all_pending, all_steps, both_spelled, each_spelled, each_steps}
use Rattle.mk_depline.specs.Braces.{group_of, pending_steps, pending_words, place_from, place_of}
use Rattle.mk_depline.specs.Braces.{spelled_in, steps_left, stops, word_steps, words_left}
use Rattle.mk_bytes.specs.Words.{words_among}
use Rattle.mk_depline.specs.declared.brace.Pending.{Pending}
use Rattle.mk_depline.specs.declared.fault.DepFault.{DepFault}
use Rattle.mk_depline.specs.declared.fault.DepFault.TheVariants.{NoMemory}

-- a text, cut at the place of its first comma
abbrev cut_at : Option ℕ → List ℕ → List (List ℕ)
cut_at None text = text ∷ []
cut_at (Some at) text = take at text ∷ alternatives (drop (at + 1) text)

cut_at-suc : (byte : ℕ) (rest : List ℕ) (found : Option ℕ)
    → onto_first byte (cut_at found rest) ≡ cut_at (option_map suc found) (byte ∷ rest)
cut_at-suc byte rest None = refl
cut_at-suc byte rest (Some at) =
    let next : suc at + 1 ≡ suc (at + 1) = omega arith in rw next refl

abbrev IsCut : ℕ → List ℕ → Type 0
IsCut depth text = alternatives_from depth text ≡ cut_at (place_from comma depth text) text

IsCut-byte : (depth byte : ℕ) (rest : List ℕ) (here : Bool) → stops comma depth byte ≡ here
    → IsCut (depth_behind depth byte) rest → IsCut depth (byte ∷ rest)
unfolding alternatives_from place_from
IsCut-byte depth byte rest true is behind = rw is refl
IsCut-byte depth byte rest false is behind =
    rw (is, behind) (cut_at-suc byte rest (place_from comma (depth_behind depth byte) rest))

is_cut : (depth : ℕ) (text : List ℕ) → IsCut depth text
unfolding alternatives_from place_from
is_cut depth [] = refl
is_cut depth (byte ∷ rest) =
    IsCut-byte depth byte rest (stops comma depth byte) refl (is_cut (depth_behind depth byte) rest)

-- the alternative before the first comma, and those behind it
pub alternatives-comma : (text : List ℕ) (at : ℕ) → place_of comma text ≡ Some at
    → alternatives text ≡ take at text ∷ alternatives (drop (at + 1) text)
alternatives-comma text at is = rw (is_cut 0 text, is) refl

pub alternatives-last : (text : List ℕ) → place_of comma text ≡ None
    → alternatives text ≡ text ∷ []
alternatives-last text is = rw (is_cut 0 text, is) refl

-- a word without a group stands for itself
pub spelled-none : (most : ℕ) (word : List ℕ) → group_of word ≡ Ok None
    → spelled_in most word ≡ Ok (words_among (word ∷ []))
unfolding spelled_in
spelled-none zero word is = rw is refl
spelled-none (suc most) word is = rw is refl

pub spelled-group : (most : ℕ) (word : List ℕ) (group : Group)
    → 0 < most → group_of word ≡ Ok (Some group)
    → spelled_in most word ≡ each_spelled (spelled_in (most - 1)) group.before group.behind
    (alternatives group.inside)
unfolding spelled_in
spelled-group zero word group some is = absurd (omega (arith, some))
spelled-group (suc most) word group some is =
    let less : suc most - 1 ≡ most = omega arith in rw (is, less) refl

-- the words of an alternative, and of those behind it
pub added-both : (names now : List (List ℕ)) (found others : Result (List (List ℕ)) DepFault)
    → added names found ≡ Ok now
    → added names (found >>= λ words. others >>= λ more. Ok (words ++ more)) ≡ added now others
added-both names now (Ok words) (Ok more) is =
    let grown : names ++ words ≡ now = cc in
    rw (← grown) (ap (λ all. Ok all) (sym (append_assoc names words more)))
added-both names now (Ok words) (Err fault) is = refl
added-both names now (Err fault) others is = cc

pub added-none : (names : List (List ℕ)) → added names (Ok []) ≡ Ok names
added-none names = ap (λ all. Ok all) (append-nil names)

-- a word with a brace that is not closed
pub spelled-fault : (most : ℕ) (word : List ℕ) (fault : DepFault)
    → AgreesErr NoMemory fault (group_of word) → AgreesErr NoMemory fault (spelled_in most word)
unfolding spelled_in
spelled-fault most word fault (inl want) = inl want
spelled-fault zero word fault (inr is) = rw is (inr refl)
spelled-fault (suc most) word fault (inr is) = rw is (inr refl)

-- the fault of a first word is that of all
pub first-fault : (names : List (List ℕ)) (first : Result (List (List ℕ)) DepFault)
    (behind : Result (List (List ℕ)) DepFault) (fault : DepFault)
    → AgreesErr NoMemory fault first
    → AgreesErr NoMemory fault (added names (both_spelled first behind))
first-fault names first behind fault (inl want) = inl want
first-fault names first behind fault (inr is) = rw is (inr refl)

pub both-assoc : (a b c : Result (List (List ℕ)) DepFault)
    → both_spelled (both_spelled a b) c ≡ both_spelled a (both_spelled b c)
both-assoc (Ok a) (Ok b) (Ok c) = ap (λ all. Ok all) (append_assoc a b c)
both-assoc (Ok a) (Ok b) (Err fault) = refl
both-assoc (Ok a) (Err fault) c = refl
both-assoc (Err fault) b c = refl

pub both-none : (words : Result (List (List ℕ)) DepFault) → both_spelled words (Ok []) ≡ words
both-none (Ok words) = ap (λ all. Ok all) (append-nil words)
both-none (Err fault) = refl

pub none-both : (words : Result (List (List ℕ)) DepFault) → both_spelled (Ok []) words ≡ words
none-both (Ok words) = refl
none-both (Err fault) = refl

pub pending-push : (word : List ℕ) (waiting : List Pending) (p : Pending)
    → all_pending word (waiting ++ p ∷ [])
    ≡ both_spelled (pending_words word p) (all_pending word waiting)
pending-push word [] p = none-both (pending_words word p) ∙ sym (both-none (pending_words word p))
pending-push word (q ∷ waiting) p =
    ap (λ inner. both_spelled inner (pending_words word q)) (pending-push word waiting p)
    ∙ both-assoc (pending_words word p) (all_pending word waiting) (pending_words word q)

pub steps-push : (word : List ℕ) (waiting : List Pending) (p : Pending)
    → all_steps word (waiting ++ p ∷ []) ≡ all_steps word waiting + pending_steps word p
steps-push word [] p = omega arith
steps-push word (q ∷ waiting) p = omega (arith, steps-push word waiting p)

pub placed-push : (word : List ℕ) (waiting : List Pending) (p : Pending) → Placed word waiting
    → IsPlaced word p.before p.at (p.depth + 1) → Placed word (waiting ++ p ∷ [])
placed-push word [] p all one = (one, tt)
placed-push word (q ∷ waiting) p all one = (all.0, placed-push word waiting p all.1 one)

pub placed-pop : (word : List ℕ) (waiting : List Pending) (p : Pending)
    → Placed word (waiting ++ p ∷ [])
    → Placed word waiting × IsPlaced word p.before p.at (p.depth + 1)
placed-pop word [] p all = (tt, all.0)
placed-pop word (q ∷ waiting) p all =
    let more = placed-pop word waiting p all.1 in ((all.0, more.0), more.1)

pub steps-group : (most : ℕ) (word : List ℕ) (group : Group)
    → 0 < most → group_of word ≡ Ok (Some group)
    → word_steps most word ≡ each_steps (word_steps (most - 1)) group.before group.behind
    (alternatives group.inside)
unfolding word_steps
steps-group zero word group some is = absurd (omega (arith, some))
steps-group (suc most) word group some is =
    let less : suc most - 1 ≡ most = omega arith in rw (is, less) refl

-- a group whose first word is taken, with those that are left put back
pub popped : (word : List ℕ) (waiting rest pushed : List Pending) (words : Pending) (one : List ℕ)
    (left : Option Pending)
    → waiting ≡ rest ++ words ∷ []
    → pending_words word words ≡ both_spelled (spelled_in words.most one) (words_left word left)
    → all_pending word pushed ≡ both_spelled (words_left word left) (all_pending word rest)
    → all_pending word waiting ≡ both_spelled (spelled_in words.most one) (all_pending word pushed)
popped word waiting rest pushed words one left pops first puts =
    rw (pops, pending-push word rest words, first, puts)
    (both-assoc (spelled_in words.most one) (words_left word left) (all_pending word rest))

pub steps_popped : (word : List ℕ) (waiting rest pushed new : List Pending) (words : Pending)
    (one : List ℕ) (left : Option Pending)
    → waiting ≡ rest ++ words ∷ []
    → pending_steps word words ≡ 1 + (word_steps words.most one + steps_left word left)
    → all_steps word pushed ≡ all_steps word rest + steps_left word left
    → all_steps word new ≤ all_steps word pushed + word_steps words.most one
    → all_steps word new < all_steps word waiting
steps_popped word waiting rest pushed new words one left pops first puts fewer =
    rw (pops, steps-push word rest words) (omega (arith, first, puts, fewer))
