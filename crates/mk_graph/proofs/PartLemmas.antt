-- The sources of a target, one after the other.
use Rattle.std.proofs.Common.{◌≡◌, ℕ, zero, suc, ◌+◌, ◌<◌, ◌≤◌, inl, inr, true, false}
use Rattle.std.proofs.Common.{nat_eq, List, [], ◌∷◌, ◌++◌, length, get_or, set, drop}
use Rattle.std.proofs.Common.{Option, Some, None, refl, sym, ◌∙◌, arith, length-append, eq-eqb}
use Rattle.std.proofs.Common.{drop-cons, add-one}
use Rattle.std.proofs.lemmas.Bool.{cases_eq, cond_both, ne_eqb, or_right}
use Rattle.std.proofs.lemmas.List.{get_or-set_same, get_or-set_other, drop-append-le, drop_all}
use Rattle.mk_graph.specs.Macros.{macro_at, Parted, all_parted, parted, sources_parted}
use Rattle.mk_graph.specs.Parts.{State, gone_by, gone}
use Rattle.mk_graph.specs.Walks.{is_among}
use Rattle.mk_graph.specs.declared.links.Links.{Links}
use Rattle.mk_graph.proofs.AmongLemmas.{or-false, is_among-append, IsPath, IsPath-none}
use Rattle.mk_graph.proofs.AmongLemmas.{IsPath-append, path_length}

-- What is left of the sources parts as all of them do. A node has this target's stamp exactly where
-- it was taken.
pub record IsPart (macros : List (Option Links)) (stamp : ℕ) (state : State) (rest : List ℕ)
    (whole : Parted) : Type 0 where
  pub room : ℕ
  pub rooms : room + length state.taken ≡ suc (length macros)
  pub path : IsPath (length macros) state.taken
  pub stamps_are : (n : ℕ) → n < length macros
      → nat_eq (get_or state.stamps n 0) stamp ≡ is_among state.taken n
  pub same : parted room macros state.kept state.taken rest ≡ whole

-- by the first source that is left
pub parted-plain : (room : ℕ) (macros : List (Option Links)) (kept taken : List ℕ) (n : ℕ)
    (more : List ℕ) → macro_at macros n ≡ None
    → parted (suc room) macros kept taken (n ∷ more)
    ≡ parted (suc room) macros (kept ++ n ∷ []) taken more
unfolding parted all_parted
parted-plain room macros kept taken n more is = rw is refl

parted-again : (room : ℕ) (macros : List (Option Links)) (kept taken : List ℕ) (n : ℕ)
    (more : List ℕ) (links : Links) → macro_at macros n ≡ Some links → is_among taken n ≡ true
    → parted (suc room) macros kept taken (n ∷ more) ≡ parted (suc room) macros kept taken more
unfolding parted all_parted
parted-again room macros kept taken n more links is again = rw (is, again) refl

parted-taken : (room : ℕ) (macros : List (Option Links)) (kept taken : List ℕ) (n : ℕ)
    (more : List ℕ) (links : Links) → macro_at macros n ≡ Some links → is_among taken n ≡ false
    → parted (suc room) macros kept taken (n ∷ more)
    ≡ parted room macros kept (taken ++ n ∷ []) (more ++ links.sources)
unfolding parted all_parted
parted-taken room macros kept taken n more links is new = rw (is, new) refl

-- there is room for one more
with_room : (macros : List (Option Links)) (taken : List ℕ) (room : ℕ) (P : ℕ → Type 0)
    → room + length taken ≡ suc (length macros) → IsPath (length macros) taken
    → ((less : ℕ) → less + length taken ≡ length macros → P (suc less)) → P room
with_room macros taken zero P rooms path goes =
    absurd (omega (arith, path_length (length macros) taken path))
with_room macros taken (suc room) P rooms path goes = goes room (omega arith)

-- a source that is no macro
IsPart-plain : (macros : List (Option Links)) (stamp : ℕ) (state : State) (n : ℕ)
    (more : List ℕ) (whole : Parted) → macro_at macros n ≡ None
    → IsPart macros stamp state (n ∷ more) whole
    → IsPart macros stamp (record state { kept = state.kept ++ n ∷ [] }) more whole
IsPart-plain macros stamp state n more whole is part =
    with_room macros state.taken part.room
    (λ room. parted room macros state.kept state.taken (n ∷ more) ≡ whole
    → IsPart macros stamp (record state { kept = state.kept ++ n ∷ [] }) more whole)
    part.rooms part.path
    (λ less rooms same. record {
      room = suc less;
      rooms = omega (arith, rooms);
      path = part.path;
      stamps_are = part.stamps_are;
      same = sym (parted-plain less macros state.kept state.taken n more is) ∙ same;
    })
    part.same

-- a macro that was taken
IsPart-again : (macros : List (Option Links)) (stamp : ℕ) (state : State) (n : ℕ)
    (more : List ℕ) (whole : Parted) (links : Links) → macro_at macros n ≡ Some links
    → is_among state.taken n ≡ true → IsPart macros stamp state (n ∷ more) whole
    → IsPart macros stamp state more whole
IsPart-again macros stamp state n more whole links is again part =
    with_room macros state.taken part.room
    (λ room. parted room macros state.kept state.taken (n ∷ more) ≡ whole
    → IsPart macros stamp state more whole)
    part.rooms part.path
    (λ less rooms same. record {
      room = suc less;
      rooms = omega (arith, rooms);
      path = part.path;
      stamps_are = part.stamps_are;
      same = sym (parted-again less macros state.kept state.taken n more links is again) ∙ same;
    })
    part.same

-- the stamps, once a node is taken
stamps-taken : (bound : ℕ) (stamp : ℕ) (stamps taken : List ℕ) (n : ℕ) → length stamps ≡ bound
    → n < bound
    → ((m : ℕ) → m < bound → nat_eq (get_or stamps m 0) stamp ≡ is_among taken m)
    → (m : ℕ) → m < bound
    → nat_eq (get_or (set stamps n stamp) m 0) stamp ≡ is_among (taken ++ n ∷ []) m
stamps-taken bound stamp stamps taken n as_many within are m less =
    elim (cases_eq m n) [
      | inl same ↦
          let at = get_or-set_same stamps n stamp 0 (omega (arith, as_many)) in
          let among = is_among-append taken n m in
          let here = or_right (is_among taken m) (nat_eq m n) (eq-eqb m n same) in
          let itself = eq-eqb stamp stamp refl in
          rw (among, here, same, at) itself
      | inr other ↦
          let at = get_or-set_other stamps n m stamp 0 other in
          let among = is_among-append taken n m in
          let apart = ne_eqb m n other in
          rw (at, among, apart, or-false (is_among taken m)) (are m less)
    ]

-- a macro that is taken now
IsPart-taken : (macros : List (Option Links)) (stamp : ℕ) (state : State) (n : ℕ)
    (more : List ℕ) (whole : Parted) (links : Links) → macro_at macros n ≡ Some links
    → length state.stamps ≡ length macros → n < length macros
    → is_among state.taken n ≡ false → IsPart macros stamp state (n ∷ more) whole
    → IsPart macros stamp (record {
      queue = state.queue ++ links.sources;
      kept = state.kept;
      taken = state.taken ++ n ∷ [];
      stamps = set state.stamps n stamp;
    }) (more ++ links.sources) whole
IsPart-taken macros stamp state n more whole links is as_many within new part =
    let longer = length-append state.taken (n ∷ []) in
    with_room macros state.taken part.room
    (λ room. parted room macros state.kept state.taken (n ∷ more) ≡ whole
    → IsPart macros stamp (record {
      queue = state.queue ++ links.sources;
      kept = state.kept;
      taken = state.taken ++ n ∷ [];
      stamps = set state.stamps n stamp;
    }) (more ++ links.sources) whole)
    part.rooms part.path
    (λ less rooms same. record {
      room = less;
      rooms = omega (arith, rooms, longer);
      path = IsPath-append (length macros) state.taken n part.path new within;
      stamps_are = stamps-taken (length macros) stamp state.stamps state.taken n as_many within
          part.stamps_are;
      same = sym (parted-taken less macros state.kept state.taken n more links is new) ∙ same;
    })
    part.same

-- a source is gone through
gone_by-part : (macros : List (Option Links)) (stamp : ℕ) (state : State) (n place : ℕ)
    (whole : Parted) (macro : Option Links) → macro_at macros n ≡ macro
    → place < length state.queue → n < length macros → length state.stamps ≡ length macros
    → IsPart macros stamp state (n ∷ drop (place + 1) state.queue) whole
    → IsPart macros stamp (gone_by stamp state n macro)
    (drop (place + 1) (gone_by stamp state n macro).queue) whole
gone_by-part macros stamp state n place whole None is less within as_many part =
    IsPart-plain macros stamp state n (drop (place + 1) state.queue) whole is part
gone_by-part macros stamp state n place whole (Some links) is less within as_many part =
    let taken : State = record {
      queue = state.queue ++ links.sources;
      kept = state.kept;
      taken = state.taken ++ n ∷ [];
      stamps = set state.stamps n stamp;
    } in
    cond_both (nat_eq (get_or state.stamps n 0) stamp) state taken
    (λ s. IsPart macros stamp s (drop (place + 1) s.queue) whole)
    (λ again. IsPart-again macros stamp state n (drop (place + 1) state.queue) whole links is
    (sym (part.stamps_are n within) ∙ again) part)
    (λ new.
    let more = drop-append-le (place + 1) state.queue links.sources (omega arith) in
    rw more (IsPart-taken macros stamp state n (drop (place + 1) state.queue) whole links is
    as_many within (sym (part.stamps_are n within) ∙ new) part))

-- any source
pub IsPart-gone : (macros : List (Option Links)) (stamp : ℕ) (state : State) (n place : ℕ)
    (whole : Parted) → n ≡ get_or state.queue place 0 → place < length state.queue
    → n < length macros → length state.stamps ≡ length macros
    → IsPart macros stamp state (drop place state.queue) whole
    → IsPart macros stamp (gone macros stamp state n)
    (drop (place + 1) (gone macros stamp state n).queue) whole
IsPart-gone macros stamp state n place whole at less within as_many part =
    let parts : drop place state.queue ≡ n ∷ drop (place + 1) state.queue =
    rw (drop-cons state.queue place 0 less, add-one, at) refl in
    gone_by-part macros stamp state n place whole (macro_at macros n) refl less within as_many
    (rw parts at part)

-- before the first source
pub IsPart-first : (macros : List (Option Links)) (stamp : ℕ) (sources stamps : List ℕ)
    → ((n : ℕ) → get_or stamps n 0 < stamp)
    → IsPart macros stamp
    (record { queue = sources; kept = []; taken = []; stamps = stamps }) sources
    (sources_parted macros sources)
IsPart-first macros stamp sources stamps fresh = record {
  room = suc (length macros);
  rooms = omega arith;
  path = IsPath-none (length macros);
  stamps_are = λ n within.
      let less = fresh n in
      ne_eqb (get_or stamps n 0) stamp (λ is. absurd (omega (arith, less, is)));
  same = refl;
}

-- behind the last one
pub parted-over : (room : ℕ) (macros : List (Option Links)) (kept taken : List ℕ)
    → parted room macros kept taken [] ≡ record { kept = kept; taken = taken }
unfolding parted all_parted
parted-over zero macros kept taken = refl
parted-over (suc room) macros kept taken = refl

-- so the sources are parted
pub IsPart-over : (macros : List (Option Links)) (stamp : ℕ) (state : State) (place : ℕ)
    (whole : Parted) → length state.queue ≤ place
    → IsPart macros stamp state (drop place state.queue) whole
    → ◌≡◌ {A = Parted} (record { kept = state.kept; taken = state.taken }) whole
IsPart-over macros stamp state place whole past part =
    let none = drop_all place state.queue past in
    let same = rw none at part.same in
    sym (parted-over part.room macros state.kept state.taken) ∙ same
