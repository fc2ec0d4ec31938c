-- What a bench keeps of its rows and inverses, after one more entry.
use Rattle.std.proofs.Common.{◌≡◌, ◌≢◌, ℕ, zero, suc, ◌+◌, ◌<◌, ◌≤◌, List, [], ◌∷◌, ◌++◌, Option, Some, All, length, reverse, set, slice_get, refl, sym, ap, ◌∙◌, subst, arith, length-set}
use Rattle.std.proofs.lemmas.List.{length_push, reverse-append, reverse-reverse}
use Rattle.std.proofs.lemmas.List.Elements.{All-nil, All-cons, All-head, All-tail, All-append}
use Rattle.std.proofs.lemmas.Option.{slice_get_within}
use Rattle.rapid_text.specs.Recording.{Recording}
use Rattle.moves.specs.declared.board.Proposal.{Proposal}
use Rattle.moves.specs.declared.command.Command.{Command}
use Rattle.moves.specs.declared.inverse.Inverse.{Inverse}
use Rattle.moves.specs.declared.row.Row.{Row}
use Rattle.moves.specs.Batches.{Runs, Turns, CanTurnAll, IsTurnedAll, AreOfTrace}
use Rattle.moves.specs.Commands.{writes}
use Rattle.moves.specs.Fold.{Numbered, numbered}
use Rattle.moves.specs.Ages.{age}
use Rattle.moves.specs.Inverses.{turned, Fits, IsStepOf}
use Rattle.moves.specs.Rows.{Rows, row_of, with_row, IsFree, Below}
use Rattle.moves.proofs.CallerLemmas.{IsPlain, plain_end, plain_nil, leads_other, get_longer, runs_leads, StepsBack}
use Rattle.inverse_log.specs.declared.entry.Entry.{Entry}
use Rattle.inverse_log.specs.declared.entry.Entry.TheVariants.{Undid, Proposed}
use Rattle.inverse_log.specs.declared.kept.Held.{Held}
use Rattle.inverse_log.specs.declared.kept.Held.TheVariants.{Nothing}
use Rattle.inverse_log.specs.Log.{Live, done_by, done_in, commands_in, commands_at, births_of, steps_of, live_of, board_of, rows_of}
use Rattle.inverse_log.specs.Kept.{HasInverse, IsKept, IsUnblocked}
use Rattle.inverse_log.specs.Steps.{inverses_of}
use Rattle.inverse_log.proofs.LiveLemmas.{IsShort, rises_steps, rises_split, live_without, live_there, others_numbered, get_before, get_last}
use Rattle.inverse_log.proofs.NumberedLemmas.{among_lives}
use Rattle.inverse_log.proofs.LawLemmas.{All-reverse, board_done, board_undid, board_proposed, proposal, comes_done, comes_proposed, comes_undid, rows_come}

-- the commands of an entry stay when the log grows
commands_before : (L : List Entry) (e : Entry) (k : ℕ) → k < length L → commands_at (L ++ e ∷ []) k ≡ commands_at L k
commands_before L e k h = ap (λ o. commands_in (done_in o)) (get_before L e k h)

module _ (T : Recording) (L : List Entry) (e : Entry) (steps : List Held) (h : Held) where
  -- with one more entry, and what is kept for it
  longer_one : (n : Numbered) (b a : Option Row) → HasInverse T L steps n b a → HasInverse T (L ++ e ∷ []) (steps ++ h ∷ []) n b a
  longer_one n b a has =
      let same : commands_at (L ++ e ∷ []) has.entry ≡ commands_at L has.entry = commands_before L e has.entry has.there in
      record {
        entry = has.entry;
        place = has.place;
        birth = has.birth;
        low = has.low;
        there = omega (arith, has.there, length_push L e);
        held = has.held;
        kept = get_longer steps (h ∷ []) has.entry has.held has.kept;
        whole = rw same has.whole;
        inverse = has.inverse;
        at = rw same has.at;
        name = has.name;
        fits = has.fits;
        of = has.of;
      }

  longer : (E : List Numbered) → All (λ (n : Numbered). (b a : Option Row) → HasInverse T L steps n b a → HasInverse T (L ++ e ∷ []) (steps ++ h ∷ []) n b a) E
  longer [] = All-nil (λ (n : Numbered). (b a : Option Row) → HasInverse T L steps n b a → HasInverse T (L ++ e ∷ []) (steps ++ h ∷ []) n b a)
  longer (n ∷ E) = All-cons (λ (n : Numbered). (b a : Option Row) → HasInverse T L steps n b a → HasInverse T (L ++ e ∷ []) (steps ++ h ∷ []) n b a) n E (longer_one n) (longer E)

get_end : (xs : List Held) (y : Held) → slice_get (xs ++ y ∷ []) (length xs) ≡ Some y
get_end [] y = refl
get_end (x ∷ xs) y = get_end xs y

-- a run has an inverse for each command
runs_long : (T : Recording) (B : List Proposal) (D : List Command) (I : List Inverse) (n : ℕ) (W V : Rows) → Runs T B n D I W V → length I ≡ length D
runs_long T B [] [] n W V runs = refl
runs_long T B [] (i ∷ I) n W V runs = absurd runs
runs_long T B (d ∷ D) [] n W V runs = absurd runs
runs_long T B (d ∷ D) (i ∷ I) n W V runs = let rest = runs_long T B D I (n + 1) (with_row W (writes d) runs.0) V runs.4 in omega (arith, rest)

of_at : (T : Recording) (I : List Inverse) (j : ℕ) (i : Inverse) → AreOfTrace T I → slice_get I j ≡ Some i → IsStepOf T i.step
of_at T [] j i all at = absurd cc
of_at T (g ∷ I) zero i all at = let same : g ≡ i = cc in subst (λ (x : Inverse). IsStepOf T x.step) same (All-head (λ (x : Inverse). IsStepOf T x.step) g I all)
of_at T (g ∷ I) (suc j) i all at = of_at T I j i (All-tail (λ (x : Inverse). IsStepOf T x.step) g I all) at

module _ (T : Recording) (L : List Entry) (W : Rows) (B : List Proposal) (steps : List Held) (kept : IsKept T L W B steps) where
  pub kept_rows : rows_of T L ≡ W
  kept_rows = rows_come T (HasInverse T L steps) L W kept.rows

  module _ (short : All IsShort (live_of L)) where
    pub kept_plain : IsPlain (age (length L) 0) W
    kept_plain = plain_end T (board_of T L) (HasInverse T L steps) (steps_of (live_of L)) [] W 0 (age (length L) 0) plain_nil (rises_steps L (live_of L) short refl) kept.rows

    pub stays_below : (n : ℕ) → n ≡ length L → Below (age n 0) W
    stays_below n number = rw number kept_plain.low

  -- new commands, and their inverses
  pub kept_done : (M : List Entry) (V : Rows) (n c : ℕ) (e : Entry) (D : List Command) (I : List Inverse) (h : Held) (later : List Held) → n ≡ length L → done_by e ≡ Some (c, D) → length D ≤ 64
      → Runs T B (age n 0) D I W V → inverses_of h D ≡ I → AreOfTrace T I → later ≡ steps ++ h ∷ [] → M ≡ L ++ e ∷ [] → IsKept T M V B later
  kept_done M V n c e D I h later number did short runs held of inv log =
      let new : List Held = steps ++ h ∷ [] in
      let N : List Entry = L ++ e ∷ [] in
      let mine : commands_at N (length L) ≡ D = ap (λ o. commands_in (done_in o)) (get_last L e) ∙ ap commands_in did in
      let at : slice_get new (length L) ≡ Some h = rw (← kept.long) (get_end steps h) in
      let all : inverses_of h (commands_at N (length L)) ≡ I = ap (inverses_of h) mine ∙ held in
      let run : Runs T (board_of T L) (age (length L) 0) D I W V = rw (← kept.board, ← number) runs in
      let whole : length I ≡ length D = runs_long T (board_of T L) D I (age (length L) 0) W V run in
      let has : (j : ℕ) (d : Command) (i : Inverse) (before after : Option Row) → slice_get D j ≡ Some d → slice_get I j ≡ Some i → i.name ≡ writes d → Fits i.step before after → HasInverse T N new (age (length L) 0 + j, d) before after = λ j d i before after there here name fits.
      let within : j < length D = slice_get_within D j d there in
      record {
        entry = length L;
        place = j;
        birth = omega arith;
        low = omega (arith, within, short);
        there = omega (arith, length_push L e);
        held = h;
        kept = at;
        whole = ap length all ∙ whole ∙ sym (ap length mine);
        inverse = i;
        at = ap (λ X. slice_get X j) all ∙ here;
        name = name;
        fits = fits;
        of = of_at T I j i of here;
      } in
      let leads = runs_leads T (board_of T L) (HasInverse T N new) D I (age (length L) 0) W V has run in
      let before = leads_other T (board_of T L) (HasInverse T L steps) (HasInverse T N new) (steps_of (live_of L)) [] W (longer T L e steps h (steps_of (live_of L))) kept.rows in
      rw (log, inv) (record {
        rows = comes_done T (HasInverse T N new) L e c D W V did before leads;
        board = kept.board ∙ sym (board_done T L e (c, D) did);
        long = omega (arith, kept.long, length_push steps h, length_push L e);
      })

  -- a new proposal
  pub kept_proposed : (M : List Entry) (c a b : ℕ) (P : List ℕ) (D : List Proposal) (later : List Held) → D ≡ B ++ proposal T a b P ∷ []
      → later ≡ steps ++ Nothing ∷ [] → M ≡ L ++ Proposed c a b P ∷ [] → IsKept T M W D later
  kept_proposed M c a b P D later board inv log = rw (log, inv, board) (record {
    rows = comes_proposed T (HasInverse T (L ++ Proposed c a b P ∷ []) (steps ++ Nothing ∷ [])) L c a b P W
        (leads_other T (board_of T L) (HasInverse T L steps) (HasInverse T (L ++ Proposed c a b P ∷ []) (steps ++ Nothing ∷ [])) (steps_of (live_of L)) [] W (longer T L (Proposed c a b P) steps Nothing (steps_of (live_of L))) kept.rows);
    board = ap (λ X. X ++ proposal T a b P ∷ []) kept.board ∙ sym (board_proposed T L c a b P);
    long = omega (arith, kept.long, length_push steps Nothing, length_push L (Proposed c a b P));
  })

get_other : (xs : List Held) (k j : ℕ) (y : Held) → j ≢ k → slice_get (set xs k y) j ≡ slice_get xs j
get_other [] k j y apart = refl
get_other (x ∷ xs) zero zero y apart = absurd (apart refl)
get_other (x ∷ xs) zero (suc j) y apart = refl
get_other (x ∷ xs) (suc k) zero y apart = refl
get_other (x ∷ xs) (suc k) (suc j) y apart = get_other xs k j y (λ e. apart (ap suc e))

pub set_back : (xs : List Held) (k : ℕ) (y z : Held) → slice_get xs k ≡ Some y → set (set xs k z) k y ≡ xs
set_back [] k y z at = refl
set_back (x ∷ xs) zero y z at = let is : x ≡ y = cc in ap (λ v. v ∷ xs) (sym is)
set_back (x ∷ xs) (suc k) y z at = ap (λ v. x ∷ v) (set_back xs k y z at)

-- births of entries with few commands are alike only where entries and places are
same_entry : (k j n i : ℕ) → age k j ≡ age n i → j < 4294967296 → i < 4294967296 → (k ≡ n) × (j ≡ i)
same_entry k j n i is jl il = (omega (arith, is, jl, il), omega (arith, is, jl, il))

-- a command that is none of entry k
abbrev IsOther : ℕ → Numbered → Type 0
IsOther k e = (n j : ℕ) × (e.0 ≡ age n j) × (j < 4294967296) × (n ≢ k)

others_from : (k n i a : ℕ) (D : List Command) → a ≡ age n i → i + length D < 4294967296 → n ≢ k → All (IsOther k) (numbered a D)
others_from k n i a [] at low apart = All-nil (IsOther k)
others_from k n i a (d ∷ D) at low apart = All-cons (IsOther k) (a, d) (numbered (a + 1) D) (n, i, at, omega (arith, low), apart) (others_from k n (i + 1) (a + 1) D (omega (arith, at)) (omega (arith, low)) apart)

others_all : (k : ℕ) (E : List Live) → All IsShort E → All (λ (p : Live). p.number ≢ k) E → All (IsOther k) (steps_of E)
others_all k [] short all = All-nil (IsOther k)
others_all k (e ∷ E) short all =
    let few = All-head IsShort e E short in
    All-append (IsOther k) (births_of e) (steps_of E) (others_from k e.number 0 (age e.number 0) e.commands refl (omega (arith, few.1)) (All-head (λ (p : Live). p.number ≢ k) e E all))
    (others_all k E (All-tail IsShort e E short) (All-tail (λ (p : Live). p.number ≢ k) e E all))

-- the inverses of other entries, where what is kept for entry k is taken out
module _ (T : Recording) (L : List Entry) (steps : List Held) (c k : ℕ) where
  abbrev Later : Numbered → Option Row → Option Row → Type 0
  Later e b a = HasInverse T (L ++ Undid c k ∷ []) (set steps k Nothing ++ Nothing ∷ []) e b a

  other_has : (e : Numbered) → IsOther k e → (b a : Option Row) → HasInverse T L steps e b a → Later e b a
  other_has e other b a has =
      let alike = same_entry other.0 other.1 has.entry has.place (sym other.2 ∙ has.birth) other.3 has.low in
      let apart : has.entry ≢ k = λ is. other.4 (alike.0 ∙ is) in
      let same : commands_at (L ++ Undid c k ∷ []) has.entry ≡ commands_at L has.entry = commands_before L (Undid c k) has.entry has.there in
      record {
        entry = has.entry;
        place = has.place;
        birth = has.birth;
        low = has.low;
        there = omega (arith, has.there, length_push L (Undid c k));
        held = has.held;
        kept = get_longer (set steps k Nothing) (Nothing ∷ []) has.entry has.held (get_other steps k has.entry Nothing apart ∙ has.kept);
        whole = rw same has.whole;
        inverse = has.inverse;
        at = rw same has.at;
        name = has.name;
        fits = has.fits;
        of = has.of;
      }

  others_have : (E : List Numbered) → All (IsOther k) E → All (λ (e : Numbered). (b a : Option Row) → HasInverse T L steps e b a → Later e b a) E
  others_have [] all = All-nil (λ (e : Numbered). (b a : Option Row) → HasInverse T L steps e b a → Later e b a)
  others_have (e ∷ E) all =
      All-cons (λ (e : Numbered). (b a : Option Row) → HasInverse T L steps e b a → Later e b a) e E (other_has e (All-head (IsOther k) e E all)) (others_have E (All-tail (IsOther k) e E all))

-- Commands with inverses, one for each, of which R tells that they fit.
module _ (T : Recording) (B : List Proposal) (R : Numbered → Option Row → Option Row → Type 0) where
  abbrev IsInverse : Numbered → Inverse → Type 0
  IsInverse e i = (b a : Option Row) → R e b a → (i.name ≡ writes e.1) × Fits i.step b a × IsStepOf T i.step

  abbrev Paired : List Numbered → List Inverse → Type 0
  Paired [] [] = Unit {0}
  Paired [] (i ∷ I) = ⊥
  Paired (e ∷ X) [] = ⊥
  Paired (e ∷ X) (i ∷ I) = IsInverse e i × Paired X I

  paired_push : (X : List Numbered) (I : List Inverse) (e : Numbered) (i : Inverse) → Paired X I → IsInverse e i → Paired (X ++ e ∷ []) (I ++ i ∷ [])
  paired_push [] [] e i p q = (q, tt)
  paired_push [] (j ∷ I) e i p q = absurd p
  paired_push (f ∷ X) [] e i p q = absurd p
  paired_push (f ∷ X) (j ∷ I) e i p q = (p.0, paired_push X I e i p.1 q)

  paired_turned : (X : List Numbered) (I : List Inverse) → Paired X I → Paired (reverse X) (reverse I)
  paired_turned [] [] p = tt
  paired_turned [] (i ∷ I) p = absurd p
  paired_turned (e ∷ X) [] p = absurd p
  paired_turned (e ∷ X) (i ∷ I) p =
      let rest = paired_push (reverse X) (reverse I) e i (paired_turned X I p.1) p.0 in
      subst (λ A. Paired A (reverse (i ∷ I))) (sym (reverse-append (e ∷ []) X)) (subst (Paired (reverse X ++ e ∷ [])) (sym (reverse-append (i ∷ []) I)) rest)

  -- what is taken back by R is taken back by the inverses
  back_turns : (X : List Numbered) (I : List Inverse) (V U : Rows) → Paired X I → StepsBack T B R X V U → Turns I V U × AreOfTrace T I
  back_turns [] [] V U p back = (sym back, All-nil (λ (i : Inverse). IsStepOf T i.step))
  back_turns [] (i ∷ I) V U p back = absurd p
  back_turns (e ∷ X) [] V U p back = absurd p
  back_turns (e ∷ X) (i ∷ I) V U p back =
      let o = back.0 in
      let is = p.0 o (row_of V (writes e.1)) back.1 in
      let rest = back_turns X I (with_row V (writes e.1) o) U p.1 back.3 in (
        subst (λ x. (o : Option Row) × (turned i.step (row_of V x) ≡ Some o) × IsFree V x o × Turns I (with_row V x o) U) (sym is.0) (o, is.1.0, back.2, rest.0),
        All-cons (λ (i : Inverse). IsStepOf T i.step) i I is.2 rest.1,
      )

  -- paired by their places
  paired_at : (D : List Command) (I : List Inverse) (n : ℕ) → length I ≡ length D → ((j : ℕ) (d : Command) (i : Inverse) → slice_get D j ≡ Some d → slice_get I j ≡ Some i → IsInverse (n + j, d) i) → Paired (numbered n D) I
  paired_at [] [] n long all = tt
  paired_at [] (i ∷ I) n long all = absurd (omega (arith, long))
  paired_at (d ∷ D) [] n long all = absurd (omega (arith, long))
  paired_at (d ∷ D) (i ∷ I) n long all =
      let first : n + 0 ≡ n = omega arith in (
        subst (λ a. IsInverse (a, d) i) first (all 0 d i refl refl),
        paired_at D I (n + 1) (omega (arith, long)) (λ j e g at there. let later : n + (j + 1) ≡ n + 1 + j = omega arith in subst (λ a. IsInverse (a, e) g) later (all (j + 1) e g (next d D j at) (next i I j there))),
      )
    where
      next : {X : Type 0} (x : X) {y : X} (xs : List X) (j : ℕ) → slice_get xs j ≡ Some y → slice_get (x ∷ xs) (j + 1) ≡ Some y
      next x xs j at = let up : j + 1 ≡ suc j = omega arith in ap (slice_get (x ∷ xs)) up ∙ at

-- where the inverses lead is determined
turns_once : (I : List Inverse) (W U V : Rows) → Turns I W U → Turns I W V → U ≡ V
turns_once [] W U V one two = sym one ∙ two
turns_once (i ∷ I) W U V one two =
    let same : two.0 ≡ one.0 = let e : Some two.0 ≡ Some one.0 = sym two.1 ∙ one.1 in cc in
    turns_once I (with_row W i.name one.0) U V one.3 (subst (λ o. Turns I (with_row W i.name o) V) same two.3)

-- commands of entry k
abbrev IsMine : ℕ → Numbered → Type 0
IsMine k e = (j : ℕ) × (e.0 ≡ age k j) × (j < 4294967296)

mine_from : (k i a : ℕ) (D : List Command) → a ≡ age k i → i + length D < 4294967296 → All (IsMine k) (numbered a D)
mine_from k i a [] at low = All-nil (IsMine k)
mine_from k i a (d ∷ D) at low = All-cons (IsMine k) (a, d) (numbered (a + 1) D) (i, at, omega (arith, low)) (mine_from k (i + 1) (a + 1) D (omega (arith, at)) (omega (arith, low)))

numbered_long : (n : ℕ) (D : List Command) → length (numbered n D) ≡ length D
numbered_long n [] = refl
numbered_long n (d ∷ D) = let rest = numbered_long (n + 1) D in omega (arith, rest)

reverse_long : (X : List Numbered) → length (reverse X) ≡ length X
reverse_long [] = refl
reverse_long (e ∷ X) = let rest = reverse_long X in ap length (reverse-append (e ∷ []) X) ∙ (let more : length (reverse X ++ e ∷ []) ≡ suc (length X) = omega (arith, rest, length_push (reverse X) e) in more)

All-without : (P : Live → Type 0) (E F : List Live) (g : Live) → All P (E ++ g ∷ F) → All P (E ++ F)
All-without P [] F g all = All-tail P g F all
All-without P (e ∷ E) F g all = All-cons P e (E ++ F) (All-head P e (E ++ g ∷ F) all) (All-without P E F g (All-tail P e (E ++ g ∷ F) all))

module _ (T : Recording) (L : List Entry) (W : Rows) (B : List Proposal) (steps : List Held) (c : ℕ) (g : Live) where
  abbrev R : Numbered → Option Row → Option Row → Type 0
  R = HasInverse T L steps

  -- what is kept can be taken back, and what is kept after it
  pub record IsUndoable : Type 0 where
    pub held : Held
    pub at : slice_get steps g.number ≡ Some held
    pub can : CanTurnAll (inverses_of held g.commands) W
    pub of : AreOfTrace T (inverses_of held g.commands)
    pub long : length (inverses_of held g.commands) ≡ length g.commands
    pub after : (V : Rows) → IsTurnedAll (inverses_of held g.commands) W V → IsKept T (L ++ Undid c g.number ∷ []) V B (set steps g.number Nothing ++ Nothing ∷ [])

  -- what is kept for the entry, by its commands
  record IsWhole : Type 0 where
    held : Held
    at : slice_get steps g.number ≡ Some held
    long : length (inverses_of held g.commands) ≡ length g.commands

  module _ (mine : commands_at L g.number ≡ g.commands) (few : (1 ≤ length g.commands) × (length g.commands ≤ 64)) where
    whole : (V U : Rows) → StepsBack T (board_of T L) R (reverse (births_of g)) V U → IsWhole
    whole V U back =
        let all : All (IsMine g.number) (reverse (births_of g)) = All-reverse (IsMine g.number) (births_of g) (mine_from g.number 0 (age g.number 0) g.commands refl (omega (arith, few.1))) in
        let some : 1 ≤ length (reverse (births_of g)) = omega (arith, reverse_long (births_of g), numbered_long (age g.number 0) g.commands, few.0) in
        by (reverse (births_of g)) V some all back
      where
        by : (X : List Numbered) (V : Rows) → 1 ≤ length X → All (IsMine g.number) X → StepsBack T (board_of T L) R X V U → IsWhole
        by [] V some all back = absurd (omega (arith, some))
        by (e ∷ X) V some all back =
            let at = All-head (IsMine g.number) e X all in
            let has : HasInverse T L steps e back.0 (row_of V (writes e.1)) = back.1 in
            let entry : has.entry ≡ g.number = (same_entry has.entry has.place g.number at.0 (sym has.birth ∙ at.1) has.low at.2).0 in
            let same : commands_at L has.entry ≡ g.commands = ap (commands_at L) entry ∙ mine in
            record {
              held = has.held;
              at = subst (λ k. slice_get steps k ≡ Some has.held) entry has.kept;
              long = subst (λ X. length (inverses_of has.held X) ≡ length X) same has.whole;
            }

    module _ (held : Held) (at : slice_get steps g.number ≡ Some held) where
      abbrev I : List Inverse
      I = inverses_of held g.commands

      inverse_at : (j : ℕ) (d : Command) (i : Inverse) → slice_get g.commands j ≡ Some d → slice_get I j ≡ Some i → IsInverse T (board_of T L) R (age g.number 0 + j, d) i
      inverse_at j d i here there b a has =
          let within : j < length g.commands = slice_get_within g.commands j d here in
          let alike = same_entry has.entry has.place g.number j (sym has.birth ∙ (let up : age g.number 0 + j ≡ age g.number j = omega arith in up)) has.low (omega (arith, within, few.1)) in
          let kept : Some has.held ≡ Some held = sym has.kept ∙ ap (slice_get steps) alike.0 ∙ at in
          let one : has.held ≡ held = cc in
          let all : inverses_of has.held (commands_at L has.entry) ≡ I = ap (λ h. inverses_of h (commands_at L has.entry)) one ∙ ap (λ k. inverses_of held (commands_at L k)) alike.0 ∙ ap (inverses_of held) mine in
          let found : Some has.inverse ≡ Some i = sym has.at ∙ ap (λ X. slice_get X has.place) all ∙ ap (slice_get I) alike.1 ∙ there in
          let same : has.inverse ≡ i = cc in
          subst (λ (x : Inverse). (x.name ≡ writes d) × Fits x.step b a × IsStepOf T x.step) same (has.name, has.fits, has.of)

      turned_back : (V U : Rows) → length I ≡ length g.commands → StepsBack T (board_of T L) R (reverse (births_of g)) V U → IsTurnedAll I V U × AreOfTrace T I
      turned_back V U long back =
          let pairs = paired_at T (board_of T L) R g.commands I (age g.number 0) long inverse_at in
          let both = back_turns T (board_of T L) R (reverse (births_of g)) (reverse I) V U (paired_turned T (board_of T L) R (births_of g) I pairs) back in
          (both.0, subst (AreOfTrace T) (reverse-reverse I) (All-reverse (λ (i : Inverse). IsStepOf T i.step) (reverse I) both.1))

  pub undoable : IsKept T L W B steps → All IsShort (live_of L) → IsUnblocked L g → IsUndoable
  undoable kept short free =
      let E : List Live = free.earlier in
      let F : List Live = free.later in
      let is : live_of L ≡ E ++ g ∷ F = free.split in
      let M : List Entry = L ++ Undid c g.number ∷ [] in
      let new : List Held = set steps g.number Nothing ++ Nothing ∷ [] in
      let u = comes_undid T R L c g W E F short is free.free kept.rows in
      let mine : commands_at L g.number ≡ g.commands = ap commands_in (live_there L g E F is) in
      let cut : All IsShort (E ++ g ∷ F) = subst (All IsShort) is short in
      let few = among_lives IsShort E F g cut in
      let w = whole mine few W u.rows u.back in
      let t = turned_back mine few w.held w.at W u.rows w.long u.back in
      let long : length new ≡ length M = omega (arith, kept.long, length_push (set steps g.number Nothing) Nothing, length_push L (Undid c g.number), length-set steps g.number Nothing) in
      let live : live_of M ≡ E ++ F = live_without L c g E F is in
      let apart : All (λ (p : Live). p.number ≢ g.number) (live_of M) = rw live (others_numbered E F g 0 (length L) (rises_split L E F g is)) in
      let others : All IsShort (live_of M) = rw live (All-without IsShort E F g cut) in
      record {
        held = w.held;
        at = w.at;
        can = (u.rows, t.0);
        of = t.1;
        long = w.long;
        after = λ V turned.
            let same : V ≡ u.rows = turns_once (reverse (inverses_of w.held g.commands)) W V u.rows turned t.0 in
            rw same (record {
              rows = leads_other T (board_of T M) R (HasInverse T M new) (steps_of (live_of M)) [] u.rows (others_have T L steps c g.number (steps_of (live_of M)) (others_all g.number (live_of M) others apart)) u.comes;
              board = kept.board ∙ sym (board_undid T L c g.number);
              long = long;
            });
      }

module _ (T : Recording) (L : List Entry) (W : Rows) (B : List Proposal) (steps : List Held) (c : ℕ) (g : Live) (kept : IsKept T L W B steps) (short : All IsShort (live_of L)) (free : IsUnblocked L g) where
  pub undo_within : g.number < length steps
  undo_within = let u = undoable T L W B steps c g kept short free in slice_get_within steps g.number u.held u.at

  module _ (h : Held) (taken : slice_get steps g.number ≡ Some h) where
    same_held : (undoable T L W B steps c g kept short free).held ≡ h
    same_held = let u = undoable T L W B steps c g kept short free in let at : Some u.held ≡ Some h = sym u.at ∙ taken in cc

    pub undo_can : CanTurnAll (inverses_of h g.commands) W
    undo_can = subst (λ (j : Held). CanTurnAll (inverses_of j g.commands) W) same_held (undoable T L W B steps c g kept short free).can

    pub undo_of : AreOfTrace T (inverses_of h g.commands)
    undo_of = subst (λ (j : Held). AreOfTrace T (inverses_of j g.commands)) same_held (undoable T L W B steps c g kept short free).of

    pub undo_whole : length (inverses_of h g.commands) ≡ length g.commands
    undo_whole = subst (λ (j : Held). length (inverses_of j g.commands) ≡ length g.commands) same_held (undoable T L W B steps c g kept short free).long

    pub undo_kept : (V : Rows) → IsTurnedAll (inverses_of h g.commands) W V → IsKept T (L ++ Undid c g.number ∷ []) V B (set steps g.number Nothing ++ Nothing ∷ [])
    undo_kept V turned = (undoable T L W B steps c g kept short free).after V (subst (λ (j : Held). IsTurnedAll (inverses_of j g.commands) W V) (sym same_held) turned)
