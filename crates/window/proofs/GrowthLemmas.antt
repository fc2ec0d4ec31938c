-- A list that gets one piece longer.
use Rattle.std.proofs.Common.{◌≡◌, ℕ, ◌+◌, ◌<◌, ◌≤◌, ◌||◌, Bool, true, false, List, [], ◌∷◌, ◌++◌, length, take, get_or, bytes_eq, Some, slice_get, refl, sym, ap, ◌∙◌, append_assoc, arith, inl, inr}
use Rattle.std.specs.List.{list_any}
use Rattle.std.proofs.lemmas.List.{take_more, length-replicate}
use Rattle.std.proofs.lemmas.Bool.{cases_lt}
use Rattle.std.proofs.lemmas.List.Folds.{list_any_at}
use Rattle.std.proofs.lemmas.Option.{slice_get_within, get_or_from_slice_get}
use Rattle.trace_rules.proofs.Counts.{list_any_push}
use Rattle.rapid_text.specs.declared.event.Event.{Event}
use Rattle.rapid_text.specs.declared.event.Op.TheVariants.{Read, Write, Acquire, Release}
use Rattle.rapid_text.specs.Recording.{Recording}
use Rattle.window.specs.Cuts.{HasNoNewName, IsNewName, is_taken, name_with}
use Rattle.window.proofs.PrologueLemmas.{replicate_more}
use Rattle.window.specs.Made.{does, chain_of, reads_of}

module _ {X : Type 0} where
  -- what was begun goes on
  pub goes_on : (old cur new piece all more : List X) → new ≡ cur ++ piece → cur ≡ old ++ all → all ++ piece ≡ more → new ≡ old ++ more
  goes_on old cur new piece all more last before whole =
      last ∙ ap (λ l. l ++ piece) before ∙ append_assoc old all piece ∙ ap (λ l. old ++ l) whole

  -- what is made goes on
  pub made_on : (cur new piece right all more : List X) → new ≡ cur ++ piece → cur ≡ all → piece ≡ right → all ++ right ≡ more → new ≡ more
  made_on cur new piece right all more last before same whole =
      last ∙ ap (λ l. l ++ piece) before ∙ ap (λ l. all ++ l) same ∙ whole

chain-append : (x lock : ℕ) (front back : List (ℕ × ℕ)) → chain_of x lock (front ++ back) ≡ chain_of x lock front ++ chain_of x lock back
chain-append x lock [] back = refl
chain-append x lock (h ∷ front) back =
    ap (λ (es : List Event). does h.0 (Acquire lock) ∷ does h.0 (Read x) ∷ does h.0 (Release lock) ∷ does h.0 (Acquire h.1) ∷ does h.0 (Acquire lock) ∷ does h.0 (Write x) ∷ does h.0 (Release lock) ∷ es)
    (chain-append x lock front back)

pub chain_more : (x lock : ℕ) (holds : List (ℕ × ℕ)) (i : ℕ) (d : ℕ × ℕ) → i < length holds
    → chain_of x lock (take i holds) ++ chain_of x lock (get_or holds i d ∷ []) ≡ chain_of x lock (take (i + 1) holds)
chain_more x lock holds i d lt = sym (ap (chain_of x lock) (take_more holds i d lt) ∙ chain-append x lock (take i holds) (get_or holds i d ∷ []))

reads-append : (x lock : ℕ) (front back : List ℕ) → reads_of x lock (front ++ back) ≡ reads_of x lock front ++ reads_of x lock back
reads-append x lock [] back = refl
reads-append x lock (t ∷ front) back =
    ap (λ (es : List Event). does t (Acquire lock) ∷ does t (Read x) ∷ does t (Release lock) ∷ es) (reads-append x lock front back)

pub reads_more : (x lock : ℕ) (readers : List ℕ) (i : ℕ) (d : ℕ) → i < length readers
    → reads_of x lock (take i readers) ++ reads_of x lock (get_or readers i d ∷ []) ≡ reads_of x lock (take (i + 1) readers)
reads_more x lock readers i d lt = sym (ap (reads_of x lock) (take_more readers i d lt) ∙ reads-append x lock (take i readers) (get_or readers i d ∷ []))

-- names that are compared one after another
pub name_found : (names : List (List ℕ)) (name other : List ℕ) (i : ℕ) → slice_get names i ≡ Some other → bytes_eq name other ≡ true → true ≡ list_any (bytes_eq name) names
name_found names name other i at same =
    sym (list_any_at (bytes_eq name) names i other (slice_get_within names i other at) (ap (bytes_eq name) (get_or_from_slice_get names i other other at) ∙ same))

pub name_not : (names : List (List ℕ)) (name other : List ℕ) (i : ℕ) → slice_get names i ≡ Some other → list_any (bytes_eq name) (take i names) ≡ false → bytes_eq name other ≡ false
    → list_any (bytes_eq name) (take (i + 1) names) ≡ false
name_not names name other i at before not =
    ap (list_any (bytes_eq name)) (take_more names i other (slice_get_within names i other at))
    ∙ list_any_push (bytes_eq name) (take i names) (get_or names i other)
    ∙ both_false (list_any (bytes_eq name) (take i names)) (bytes_eq name (get_or names i other)) before (ap (bytes_eq name) (get_or_from_slice_get names i other other at) ∙ not)
  where
    both_false : (a b : Bool) → a ≡ false → b ≡ false → (a || b) ≡ false
    both_false true b h k = h
    both_false false b h k = k

-- one underscore more
pub name_more : (j : ℕ) → name_with j ++ 95 ∷ [] ≡ name_with (j + 1)
name_more j = ap (λ xs. 119 ∷ 105 ∷ 110 ∷ 100 ∷ 111 ∷ 119 ∷ xs) (replicate_more j 95)

-- the names that were tried
module _ (r : Recording) (name new : List ℕ) (j : ℕ) where
  pub tried_more : name ≡ name_with j → new ≡ name ++ 95 ∷ [] → ((i : ℕ) → i < j → is_taken r (name_with i) ≡ true) → is_taken r name ≡ true
      → (k : ℕ) × (new ≡ name_with k) × ((i : ℕ) → i < k → is_taken r (name_with i) ≡ true)
  tried_more is longer before now = (
    j + 1,
    longer ∙ ap (λ l. l ++ 95 ∷ []) is ∙ name_more j,
    λ i lt. elim (cases_lt i j) [
      | inl low ↦ before i low
      | inr le ↦
          let same : i ≡ j = omega (arith, lt, le) in
          ap (λ n. is_taken r (name_with n)) same ∙ ap (is_taken r) (sym is) ∙ now
    ],
  )

  -- the first that is new
  pub first_new : name ≡ name_with j → length name ≤ 255 → ((i : ℕ) → i < j → is_taken r (name_with i) ≡ true) → is_taken r name ≡ false → IsNewName r name
  first_new is short before now = record {
    underscores = j;
    is = is;
    short = short;
    new = now;
    fewest = before;
  }

  -- none is new
  pub none_new : name ≡ name_with j → 255 < length name → ((i : ℕ) → i < j → is_taken r (name_with i) ≡ true) → HasNoNewName r
  none_new is long before i short =
      before i (omega (arith, short, long, ap (λ (l : List ℕ). length l) is, length-replicate {A = ℕ} i 95, length-replicate {A = ℕ} j 95))
