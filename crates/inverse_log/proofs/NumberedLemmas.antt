-- An undo by number: whether the entry is the client's, and whether it was not undone.
use Rattle.std.proofs.Common.{◌≡◌, inl, inr, ℕ, ◌<◌, Bool, true, false, eqb, List, [], ◌∷◌, ◌++◌, Option, Some, None, Err, All, length, map, filter, slice_get, sym, ap, ◌∙◌, subst, refl, arith}
use Rattle.std.specs.Arc.{arc_value}
use Rattle.std.specs.List.{list_any, range_with_len}
use Rattle.std.specs.Option.{IfSome}
use Rattle.std.proofs.lemmas.Bool.{cases_Bool, eqb-true, eq-eqb, lt-ltb, false≢true}
use Rattle.std.proofs.lemmas.List.Elements.{All-head, All-tail}
use Rattle.std.proofs.lemmas.Option.{slice_get_past, slice_get_cases}
use Rattle.rapid_text.specs.Recording.{Recording}
use Rattle.moves.specs.declared.command.Command.{Command}
use Rattle.dependence.specs.Lists.{of_client}
use Rattle.inverse_log.specs.declared.bench.Bench.TheInside.{Inside}
use Rattle.inverse_log.specs.declared.call.Call.TheVariants.{UndoAt}
use Rattle.inverse_log.specs.declared.entry.Entry.{Entry}
use Rattle.inverse_log.specs.declared.refusal.Refusal.TheVariants.{NoSuchEntry, NotOwn, NotLive}
use Rattle.inverse_log.specs.Answer.{answer_of, limited, undo_at_or, undo_own_or, undo_live_or, undone_or}
use Rattle.inverse_log.specs.Kept.{IsLive, live_there}
use Rattle.inverse_log.specs.Log.{Live, live, live_by, live_at, live_of, is_undone, is_by, done_in, commands_in, commands_at, is_client, is_own, blocker_of}
use Rattle.inverse_log.specs.Touching.{entry_number, own_live}
use Rattle.inverse_log.proofs.Inner.{Keeps}
use Rattle.inverse_log.proofs.LiveLemmas.{live_by_number, All-kept, IsAmong, among_more, among_live}

-- whose entry it is, by the test
own_did : (c : ℕ) (o : Option (ℕ × List Command)) → true ≡ is_client c o → o ≡ Some (c, commands_in o)
own_did c None h = absurd cc
own_did c (Some p) h = ap (λ a. Some (a, p.1)) (eqb-true p.0 c (sym h))

-- what stands under a number that is listed
number_among : (c k : ℕ) (E : List Live) → list_any (eqb k) (map entry_number (filter (is_by c) E)) ≡ true → (g : Live) × (g.number ≡ k) × (g.client ≡ c) × IsAmong E g
number_among c k [] h = absurd (false≢true h)
number_among c k (e ∷ E) h = elim (cases_Bool (is_by c e)) [
  | inl own ↦ elim (cases_Bool (eqb k e.number)) [
    | inl t ↦ (e, sym (eqb-true k e.number t), eqb-true e.client c own, ([], E, refl))
    | inr t ↦ let rest = number_among c k E (rw (own, t) at h) in (rest.0, rest.1, rest.2, among_more (Some e) E rest.0 rest.3)
  ]
  | inr other ↦ let rest = number_among c k E (rw other at h) in (rest.0, rest.1, rest.2, among_more (Some e) E rest.0 rest.3)
]

among_number : (c k : ℕ) (g : Live) (A C : List Live) → g.number ≡ k → g.client ≡ c → list_any (eqb k) (map entry_number (filter (is_by c) (A ++ g ∷ C))) ≡ true
among_number c k g [] C number own = rw (eq-eqb g.client c own, eq-eqb k g.number (sym number)) refl
among_number c k g (e ∷ A) C number own = elim (cases_Bool (is_by c e)) [
  | inl t ↦ elim (cases_Bool (eqb k e.number)) [ inl u ↦ rw (t, u) refl | inr u ↦ rw (t, u) (among_number c k g A C number own) ]
  | inr t ↦ rw t (among_number c k g A C number own)
]

-- a live entry is the one of its number
pub lives_at : (L : List Entry) → All (λ (p : Live). live_at L p.number ≡ Some p) (live_of L)
lives_at L = All-kept (λ (p : Live). live_at L p.number ≡ Some p) (live_at L) (range_with_len 0 (length L)) (λ k. by k (live_at L k) refl (live_by_number k (is_undone L k) (done_in (slice_get L k))))
  where
    by : (k : ℕ) (o : Option Live) → live_at L k ≡ o → IfSome o (λ (p : Live). p.number ≡ k) → IfSome o (λ (p : Live). live_at L p.number ≡ Some p)
    by k None is h = tt
    by k (Some p) is h = ap (live_at L) h ∙ is

pub among_lives : (P : Live → Type 0) (A C : List Live) (g : Live) → All P (A ++ g ∷ C) → P g
among_lives P [] C g all = All-head P g C all
among_lives P (e ∷ A) C g all = among_lives P A C g (All-tail P e (A ++ g ∷ C) all)

-- its number, and its entry
pub at_number : (L : List Entry) (k : ℕ) (e : Live) → live_at L k ≡ Some e → e.number ≡ k
at_number L k e at = by (is_undone L k) (done_in (slice_get L k)) at
  where
    by : (u : Bool) (o : Option (ℕ × List Command)) → live_by k u o ≡ Some e → e.number ≡ k
    by true o h = absurd cc
    by false None h = absurd cc
    by false (Some p) h = let is : Some (live k p.0 p.1) ≡ Some e = h in let same : live k p.0 p.1 ≡ e = cc in ap (λ (p : Live). p.number) (sym same)

pub at_there : (L : List Entry) (k : ℕ) (e : Live) → live_at L k ≡ Some e → done_in (slice_get L k) ≡ Some (e.client, e.commands)
at_there L k e at = by (is_undone L k) (done_in (slice_get L k)) at
  where
    by : (u : Bool) (o : Option (ℕ × List Command)) → live_by k u o ≡ Some e → o ≡ Some (e.client, e.commands)
    by true o h = absurd cc
    by false None h = absurd cc
    by false (Some p) h = let is : Some (live k p.0 p.1) ≡ Some e = h in let same : live k p.0 p.1 ≡ e = cc in ap (λ (p : Live). Some (p.client, p.commands)) same

did_live : (k c : ℕ) (D : List Command) (u : Bool) (g : Live) → live_by k u (Some (c, D)) ≡ Some g → g ≡ live k c D
did_live k c D true g h = absurd cc
did_live k c D false g h = let is : Some (live k c D) ≡ Some g = h in let same : live k c D ≡ g = cc in sym same

module _ (L : List Entry) (c k : ℕ) (D : List Command) (at : done_in (slice_get L k) ≡ Some (c, D)) where
  -- listed under the client: live
  listed_live : list_any (eqb k) (own_live L c) ≡ true → IsLive L (live k c D) × (live_at L k ≡ Some (live k c D))
  listed_live h =
      let m = number_among c k (live_of L) h in
      let g : Live = m.0 in
      let there : live_at L k ≡ Some g = ap (live_at L) (sym m.1) ∙ among_lives (λ (p : Live). live_at L p.number ≡ Some p) m.3.0 m.3.1 g (subst (All (λ (p : Live). live_at L p.number ≡ Some p)) m.3.2 (lives_at L)) in
      let same : g ≡ live k c D = did_live k c D (is_undone L k) g (sym (ap (live_by k (is_undone L k)) at) ∙ there) in (
        record { earlier = m.3.0; later = m.3.1; split = m.3.2 ∙ ap (λ (e : Live). m.3.0 ++ e ∷ m.3.1) same },
        there ∙ ap Some same,
      )

  -- not listed: not live
  unlisted_none : k < length L → list_any (eqb k) (own_live L c) ≡ false → live_at L k ≡ None
  unlisted_none within h = by (is_undone L k) refl
    where
      by : (u : Bool) → is_undone L k ≡ u → live_at L k ≡ None
      by true is = rw is refl
      by false is =
          let there : live_at L k ≡ Some (live k c D) = rw (is, at) refl in
          let m = among_live L k (live k c D) within there in
          let yes' : list_any (eqb k) (own_live L c) ≡ true = ap (λ E. list_any (eqb k) (map entry_number (filter (is_by c) E))) m.2 ∙ among_number c k (live k c D) m.0 m.1 refl refl in
          absurd (false≢true (sym h ∙ yes'))

module _ (own : Inside) (b : Keeps own) (n c k : ℕ) (is : n ≡ length own.log.items) (room : n < 1000000) where
  abbrev T : Recording
  T = arc_value own.indexed

  abbrev L : List Entry
  L = own.log.items

  asks : answer_of T L c (UndoAt k) ≡ undo_at_or L c k (slice_get L k)
  asks = rw (lt-ltb (length L) 1000000 (omega (arith, room, is))) refl

  pub at_past : ¬ (k < n) → answer_of T L c (UndoAt k) ≡ Err NoSuchEntry
  at_past past = asks ∙ ap (undo_at_or L c k) (slice_get_past L k (omega (arith, is)))

  pub at_other : k < n → false ≡ is_own c (slice_get L k) → answer_of T L c (UndoAt k) ≡ Err NotOwn
  at_other within none = asks ∙ by (slice_get L k) refl none
    where
      by : (o : Option Entry) → slice_get L k ≡ o → false ≡ is_own c o → undo_at_or L c k o ≡ Err NotOwn
      by None at h = elim (slice_get_cases L k).1 [
        | inl s ↦ let e : None ≡ Some s.0 = sym at ∙ s.2 in absurd cc
        | inr p ↦ absurd (omega (arith, is, p.0))
      ]
      by (Some e) at h = ap (undo_own_or L k) (sym h)

  module _ (mine : true ≡ is_own c (slice_get L k)) where
    abbrev D : List Command
    D = commands_at L k

    there : done_in (slice_get L k) ≡ Some (c, D)
    there = own_did c (done_in (slice_get L k)) mine

    found : undo_at_or L c k (slice_get L k) ≡ undo_live_or L (live_at L k)
    found = by (slice_get L k) mine
      where
        by : (o : Option Entry) → true ≡ is_own c o → undo_at_or L c k o ≡ undo_live_or L (live_at L k)
        by None h = absurd cc
        by (Some e) h = ap (undo_own_or L k) (sym h)

    listed : (r : Bool) → r ≡ list_any (eqb k) (of_client own.clients c) → list_any (eqb k) (own_live L c) ≡ r
    listed r h = sym (h ∙ ap (list_any (eqb k)) (b.listed.clients c))

    pub at_undone : k < n → false ≡ list_any (eqb k) (of_client own.clients c) → answer_of T L c (UndoAt k) ≡ Err NotLive
    at_undone within h = asks ∙ found ∙ ap (undo_live_or L) (unlisted_none L c k D there (omega (arith, is)) (listed false h))

    pub at_live : true ≡ list_any (eqb k) (of_client own.clients c) → IsLive L (live_there L c k)
    at_live h = (listed_live L c k D there (listed true h)).0

    pub at_asks : true ≡ list_any (eqb k) (of_client own.clients c) → answer_of T L c (UndoAt k) ≡ limited L (undone_or (length L) (live_there L c k) (blocker_of L (live_there L c k)))
    at_asks h = ap (limited L) (found ∙ ap (undo_live_or L) (listed_live L c k D there (listed true h)).1)
