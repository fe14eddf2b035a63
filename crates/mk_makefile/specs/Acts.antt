-- What reading does outside, by the questions that it asks and the messages that it writes.
use Rattle.std.specs.Prelude.{◌≡◌, ℕ, List, [], ◌∷◌, ◌++◌, Option, Some, None}
use Rattle.std.proofs.Common.{refl, sym, ap, subst, ◌∙◌, append_assoc}
use Rattle.std.proofs.lemmas.List.{append-nil}
use Rattle.mk_blocks.specs.Acts.{Act, wrote, looked, dated, listed, ran}
use Rattle.mk_values.specs.declared.facts.Asked.{Asked}
use Rattle.mk_world.specs.Sinks.{Begins, Gains}
use Rattle.mk_world.proofs.SinkLemmas.{Gains-nothing, Gains-then}
use Rattle.mk_makefile.specs.Questions.{Question, AreTimes, bytes_of, time_of, names_of, output_of}
use Rattle.mk_makefile.specs.Questions.{cut, times_in}

-- The files, times, listings and commands that questions ask for, each an act, in order. A command
-- that was not answered is one of them.
abbrev pub acts_of : List Question → List Act
acts_of [] = []
acts_of (bytes_of path found ∷ more) = looked path ∷ acts_of more
acts_of (time_of path when ∷ more) = dated path ∷ acts_of more
acts_of (names_of dir names ∷ more) = listed dir ∷ acts_of more
acts_of (output_of cmd ended ∷ more) = ran cmd ∷ acts_of more
acts_of (cut cmd ∷ more) = ran cmd ∷ acts_of more

-- the times of these questions of `exists`, as acts
abbrev pub dates : List Asked → List Act
dates [] = []
dates (one ∷ more) = dated one.path ∷ dates more

-- the files, times, listings and commands among acts
abbrev pub asked_in : List Act → List Act
asked_in [] = []
asked_in (wrote message ∷ acts) = asked_in acts
asked_in (looked path ∷ acts) = looked path ∷ asked_in acts
asked_in (dated path ∷ acts) = dated path ∷ asked_in acts
asked_in (listed dir ∷ acts) = listed dir ∷ asked_in acts
asked_in (ran cmd ∷ acts) = ran cmd ∷ asked_in acts

-- the bytes of the messages among acts
abbrev pub written : List Act → List ℕ
written [] = []
written (wrote message ∷ acts) = message ++ written acts
written (looked path ∷ acts) = written acts
written (dated path ∷ acts) = written acts
written (listed dir ∷ acts) = written acts
written (ran cmd ∷ acts) = written acts

-- Exactly these acts were done: a sink gained their messages, and their files, times, listings and
-- commands were asked for behind those before, in their order.
pub record Did (before after : Option (List ℕ)) (asked asked_now acts : List Act) : Type 0 where
  pub gains : Gains before after (written acts)
  pub asks : asked_now ≡ asked ++ asked_in acts

-- A beginning of the first of these acts, where that is a message.
abbrev pub IsBegun : List ℕ → List Act → Type 0
IsBegun piece [] = piece ≡ []
IsBegun piece (wrote message ∷ acts) = Begins piece message
IsBegun piece (looked path ∷ acts) = piece ≡ []
IsBegun piece (dated path ∷ acts) = piece ≡ []
IsBegun piece (listed dir ∷ acts) = piece ≡ []
IsBegun piece (ran cmd ∷ acts) = piece ≡ []

-- One first part of the acts was done, of messages, files, times, listings and commands alike, and
-- of a message behind it perhaps a beginning. Behind it there may be further times: those that the
-- last evaluation asked for before the outside failed in it, or memory ran out. So whatever call of
-- the outside fails, the messages before it are written, and none behind it.
pub record DidPart (before after : Option (List ℕ)) (asked asked_now acts : List Act) : Type 0 where
  pub part : List Act
  pub rest : List Act
  pub whole : acts ≡ part ++ rest
  pub piece : List ℕ
  pub begun : IsBegun piece rest
  pub gains : Gains before after (written part ++ piece)
  pub looks : List Asked
  pub asks : asked_now ≡ asked ++ (asked_in part ++ dates looks)

pub acts_of-append : (first second : List Question)
    → acts_of (first ++ second) ≡ acts_of first ++ acts_of second
acts_of-append [] second = refl
acts_of-append (bytes_of path found ∷ more) second =
    ap (λ (l : List Act). looked path ∷ l) (acts_of-append more second)
acts_of-append (time_of path when ∷ more) second =
    ap (λ (l : List Act). dated path ∷ l) (acts_of-append more second)
acts_of-append (names_of dir names ∷ more) second =
    ap (λ (l : List Act). listed dir ∷ l) (acts_of-append more second)
acts_of-append (output_of cmd ended ∷ more) second =
    ap (λ (l : List Act). ran cmd ∷ l) (acts_of-append more second)
acts_of-append (cut cmd ∷ more) second =
    ap (λ (l : List Act). ran cmd ∷ l) (acts_of-append more second)

-- questions of `exists` are acts of times, and write nothing

pub acts_of-times : (questions : List Question) → AreTimes questions
    → acts_of questions ≡ dates (times_in questions)
acts_of-times [] times = refl
acts_of-times (time_of path when ∷ more) times =
    ap (λ (l : List Act). dated path ∷ l) (acts_of-times more times)
acts_of-times (bytes_of path found ∷ more) times = absurd times
acts_of-times (names_of dir names ∷ more) times = absurd times
acts_of-times (output_of cmd ended ∷ more) times = absurd times
acts_of-times (cut cmd ∷ more) times = absurd times

pub asked_in-dates : (looks : List Asked) → asked_in (dates looks) ≡ dates looks
asked_in-dates [] = refl
asked_in-dates (one ∷ more) = ap (λ (l : List Act). dated one.path ∷ l) (asked_in-dates more)

pub written-dates : (looks : List Asked) → written (dates looks) ≡ []
written-dates [] = refl
written-dates (one ∷ more) = written-dates more

asked_in-append : (first second : List Act)
    → asked_in (first ++ second) ≡ asked_in first ++ asked_in second
asked_in-append [] second = refl
asked_in-append (wrote message ∷ more) second = asked_in-append more second
asked_in-append (looked path ∷ more) second =
    ap (λ (l : List Act). looked path ∷ l) (asked_in-append more second)
asked_in-append (dated path ∷ more) second =
    ap (λ (l : List Act). dated path ∷ l) (asked_in-append more second)
asked_in-append (listed dir ∷ more) second =
    ap (λ (l : List Act). listed dir ∷ l) (asked_in-append more second)
asked_in-append (ran cmd ∷ more) second =
    ap (λ (l : List Act). ran cmd ∷ l) (asked_in-append more second)

written-append : (first second : List Act)
    → written (first ++ second) ≡ written first ++ written second
written-append [] second = refl
written-append (wrote message ∷ more) second =
    ap (λ l. message ++ l) (written-append more second)
    ∙ sym (append_assoc message (written more) (written second))
written-append (looked path ∷ more) second = written-append more second
written-append (dated path ∷ more) second = written-append more second
written-append (listed dir ∷ more) second = written-append more second
written-append (ran cmd ∷ more) second = written-append more second

-- nothing is a beginning of any act
pub begun-nothing : (acts : List Act) → IsBegun [] acts
begun-nothing [] = refl
begun-nothing (wrote message ∷ acts) = record { rest = message; is = refl }
begun-nothing (looked path ∷ acts) = refl
begun-nothing (dated path ∷ acts) = refl
begun-nothing (listed dir ∷ acts) = refl
begun-nothing (ran cmd ∷ acts) = refl

begun-more : (piece : List ℕ) (acts more : List Act) → IsBegun piece acts
    → IsBegun piece (acts ++ more)
begun-more piece [] more none = subst (λ l. IsBegun l more) (sym none) (begun-nothing more)
begun-more piece (wrote message ∷ acts) more begun = begun
begun-more piece (looked path ∷ acts) more begun = begun
begun-more piece (dated path ∷ acts) more begun = begun
begun-more piece (listed dir ∷ acts) more begun = begun
begun-more piece (ran cmd ∷ acts) more begun = begun

pub Did-nothing : (held : Option (List ℕ)) (asked : List Act) → Did held held asked asked []
Did-nothing held asked = record { gains = Gains-nothing held; asks = sym (append-nil asked) }

module _ (a b c : Option (List ℕ)) (k l m first second : List Act) where
  pub Did-both : Did a b k l first → Did b c l m second → Did a c k m (first ++ second)
  Did-both did more = record {
    gains = subst (Gains a c) (sym (written-append first second))
        (Gains-then a b c (written first) (written second) did.gains more.gains);
    asks = more.asks ∙ ap (λ s. s ++ asked_in second) did.asks
        ∙ append_assoc k (asked_in first) (asked_in second)
        ∙ ap (λ s. k ++ s) (sym (asked_in-append first second));
  }

  pub DidPart-behind : Did a b k l first → DidPart b c l m second
      → DidPart a c k m (first ++ second)
  DidPart-behind did more = record {
    part = first ++ more.part;
    rest = more.rest;
    whole = ap (λ s. first ++ s) more.whole ∙ sym (append_assoc first more.part more.rest);
    piece = more.piece;
    begun = more.begun;
    gains = subst (Gains a c)
        (sym (append_assoc (written first) (written more.part) more.piece)
        ∙ ap (λ s. s ++ more.piece) (sym (written-append first more.part)))
        (Gains-then a b c (written first) (written more.part ++ more.piece) did.gains more.gains);
    looks = more.looks;
    asks = more.asks ∙ ap (λ s. s ++ (asked_in more.part ++ dates more.looks)) did.asks
        ∙ append_assoc k (asked_in first) (asked_in more.part ++ dates more.looks)
        ∙ ap (λ s. k ++ s)
        (sym (append_assoc (asked_in first) (asked_in more.part) (dates more.looks))
        ∙ ap (λ s. s ++ dates more.looks) (sym (asked_in-append first more.part)));
  }

module _ (a b : Option (List ℕ)) (k l : List Act) where
  pub DidPart-whole : (acts : List Act) → Did a b k l acts → DidPart a b k l acts
  DidPart-whole acts did = record {
    part = acts;
    rest = [];
    whole = sym (append-nil acts);
    piece = [];
    begun = refl;
    gains = subst (Gains a b) (sym (append-nil (written acts))) did.gains;
    looks = [];
    asks = did.asks ∙ ap (λ s. k ++ s) (sym (append-nil (asked_in acts)));
  }

  pub DidPart-more : (part more : List Act) → DidPart a b k l part → DidPart a b k l (part ++ more)
  DidPart-more part more did = record {
    part = did.part;
    rest = did.rest ++ more;
    whole = ap (λ s. s ++ more) did.whole ∙ append_assoc did.part did.rest more;
    piece = did.piece;
    begun = begun-more did.piece did.rest more did.begun;
    gains = did.gains;
    looks = did.looks;
    asks = did.asks;
  }
