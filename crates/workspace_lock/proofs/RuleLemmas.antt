-- What the rule says of a place, and the rule again where one place and at most one word changed.
use Rattle.std.proofs.Common.{◌≡◌, ◌≢◌, ◌⊎◌, ◌==◌, Bool, cond, ℕ, ◌<◌, ◌≤◌, List, [], ◌∷◌, ◌++◌, length, get_or, set, sym, refl, ap, ◌∙◌, subst, inl, inr, ⊎_elim, arith, eq-eqb, ne_eqb, Option, All, sum_by}
use Rattle.std.proofs.lemmas.List.Sums.{get_or-le-sum_by}
use Rattle.std.proofs.lemmas.List.Elements.{All-cons, All-nil}
use mathlib.Core.Logic.{dite}
use mathlib.Core.Option as maybe
use mathlib.Core.Option.{some, none, some-injective}
use native.Mathlib.Decide.{ℕ_discrete}
use lib.ListN.{get_elem?}
use Rattle.atomic_table.specs.Table.{State}
use Rattle.atomic_table.proofs.Lists.{at_set, at_snoc, at_longer, set_else}
use Rattle.rapid_text.specs.Recording.{Recording}
use Rattle.inverse_log.specs.declared.entry.Entry.{Entry}
use Rattle.inverse_log.specs.Answer.{IsLegal}
use Rattle.inverse_log.specs.Log.{Benched}
use Rattle.workspace_lock.specs.Turns.{Mark, Past, Sees}
use Rattle.workspace_lock.specs.Places.{Stage, idle, waits, holds, PlaceView, saw, first_mark}
use Rattle.workspace_lock.specs.Rule.{claims_in, claims, has_drawn, draws, turns_of, parts_of, Fits, Current, Known, AtHome, IsOut, Counted, Kept}
use Rattle.workspace_lock.proofs.SumLemmas.{sum_kept, sum_two, sum_le}
use Rattle.workspace_lock.proofs.LogLemmas.{prefix_self}

-- what the slot may hold
abbrev pub W : Type 0
W = Option Benched

-- the lock's words, its slot, and what the places know
abbrev pub St : Type 0
St = State W PlaceView

abbrev pub Homes : Type 0
Homes = List (maybe.Option W)

-- 1 where it is so
abbrev pub one_where : Bool → ℕ
one_where b = cond b 1 0

pub one_if : (k t : ℕ) → k ≡ t → one_where (k == t) ≡ 1
one_if k t e = rw (eq-eqb k t e) refl

pub none_if : (k t : ℕ) → k ≢ t → one_where (k == t) ≡ 0
none_if k t n = rw (ne_eqb k t n) refl

-- a place is found among the others after one is set
pub at_other : {A : Type 0} (l : List A) (i j : ℕ) (a b : A) (P : A → Type 0) → P a → ((k : ℕ) (x : A) → k ≢ i → get_elem? l k ≡ some x → P x) → get_elem? (set l i a) j ≡ some b → P b
at_other l i j a b P mine others e = ⊎_elim (λ t. subst P t.1 mine) (λ t. others j b t.0 t.1) (at_set l i j a b e)

pub same_place : {A : Type 0} (l : List A) (i j : ℕ) (a b : A) → get_elem? l i ≡ some a → get_elem? l j ≡ some b → j ≡ i → a ≡ b
same_place l i j a b e g n = some-injective a b (sym e ∙ (ap (λ k. get_elem? l k) (sym n) ∙ g))

-- the turn is not held at this stage
abbrev pub IsFree : Stage → Type 0
IsFree st = (t : ℕ) → st ≡ holds t → ⊥

pub idle_free : IsFree idle
idle_free t e = cc e

pub waits_free : (k : ℕ) → IsFree (waits k)
waits_free k t e = cc e

pub free_idle : (st : Stage) → st ≡ idle → IsFree st
free_idle st is = subst IsFree (sym is) idle_free

pub holder_apart : (l : List PlaceView) (i j : ℕ) (v w : PlaceView) (t : ℕ) → get_elem? l i ≡ some v → get_elem? l j ≡ some w → IsFree v.stage → w.stage ≡ holds t → j ≢ i
holder_apart l i j v w t e g free has n = free t (ap (λ (x : PlaceView). x.stage) (same_place l i j v w e g n) ∙ has)

-- who has the turn has a mark, has the ticket that is served, and has seen the whole log
pub held : (serving : ℕ) (log : List Entry) (ms : List Mark) (st : Stage) (t : ℕ) → Current serving log ms st → st ≡ holds t → (0 < length ms) × (t ≡ serving) × ((first_mark ms).seen ≡ log)
held serving log ms st t c e = subst (Current serving log ms) e c

pub current_idle : (serving : ℕ) (log : List Entry) (ms : List Mark) (st : Stage) → st ≡ idle → Current serving log ms st
current_idle serving log ms st e = subst (Current serving log ms) (sym e) tt

-- a view that holds nothing is as current at any log
pub current_stays : (serving serving' : ℕ) (log log' : List Entry) (ms : List Mark) (st : Stage) → Current serving log ms st → IsFree st → Current serving' log' ms st
current_stays serving serving' log log' ms idle c n = tt
current_stays serving serving' log log' ms (waits t) c n = c
current_stays serving serving' log log' ms (holds t) c n = absurd (n t refl)

-- who has a ticket has a mark
pub drawer_marked : (serving : ℕ) (log : List Entry) (t : ℕ) (ms : List Mark) (st : Stage) → Current serving log ms st → 1 ≤ has_drawn t st → 0 < length ms
drawer_marked serving log t ms idle c h = absurd (omega arith)
drawer_marked serving log t ms (waits k) c h = c
drawer_marked serving log t ms (holds k) c h = c.0

pub draws_held : (t serving : ℕ) (st : Stage) → st ≡ holds t → t ≡ serving → has_drawn serving st ≡ 1
draws_held t serving st e is = ap (has_drawn serving) e ∙ one_if t serving is

pub undrawn : (t : ℕ) (v : PlaceView) → v.stage ≡ idle → draws t v ≡ 0
undrawn t v is = ap (has_drawn t) is

-- a mark's client is claimed
pub claimed : (ms : List Mark) (k : ℕ) (d : Mark) → k < length ms → 1 ≤ claims_in (get_or ms k d).number ms
claimed ms k d lt = subst (λ n. n ≤ claims_in (get_or ms k d).number ms) (one_if (get_or ms k d).number (get_or ms k d).number refl)
    (get_or-le-sum_by (λ (x : Mark). one_where (x.number == (get_or ms k d).number)) ms k d lt)

pub all_claimed : (P Q : Mark → Type 0) (ms : List Mark) → ((m : Mark) → 1 ≤ claims_in m.number ms → P m → Q m) → All P ms → All Q ms
all_claimed P Q ms f h k d lt = f (get_or ms k d) (claimed ms k d lt) (h k d lt)

pub all_one : (P : Mark → Type 0) (m : Mark) → P m → All P (m ∷ [])
all_one P m p = All-cons P m [] p (All-nil P)

-- what a client that has seen the whole log knows fits it
pub fits_now : (start : Benched) (clients : ℕ) (log after : List Entry) (m : Mark) → Fits start clients log m → Fits start clients after (saw m after)
fits_now start clients log after m f = record { start_is = f.start_is; clients_are = f.clients_are; low = f.low; high = f.high; begins = prefix_self after; same = refl }

-- two lists of views with the same sums
pub record SameSums (vs ws : List PlaceView) : Type 0 where
  pub turns : sum_by turns_of ws ≡ sum_by turns_of vs
  pub parts : sum_by parts_of ws ≡ sum_by parts_of vs
  pub clients : (c : ℕ) → sum_by (claims c) ws ≡ sum_by (claims c) vs
  pub tickets : (t : ℕ) → sum_by (draws t) ws ≡ sum_by (draws t) vs

pub counted_same : (clients ticket serving : ℕ) (vs ws : List PlaceView) → SameSums vs ws → Counted clients ticket serving vs → Counted clients ticket serving ws
counted_same clients ticket serving vs ws e k = record {
  counted = e.turns ∙ k.counted;
  shared = e.parts ∙ k.shared;
  apart = λ c. subst (λ n. n ≤ 1) (sym (e.clients c)) (k.apart c);
  drawn = λ t low high. e.tickets t ∙ k.drawn t low high;
  early = λ t low. e.tickets t ∙ k.early t low;
  late = λ t high. e.tickets t ∙ k.late t high;
}

-- the slot is where it was when a place that has no turn gets another such view, or one more is made
module _ (trace : Recording) (log : List Entry) (homes : Homes) (vs : List PlaceView) where
  pub home_set : (id : ℕ) (v w : PlaceView) → get_elem? vs id ≡ some v → IsFree v.stage → IsFree w.stage → AtHome trace log homes vs ⊎ IsOut homes vs → AtHome trace log homes (set vs id w) ⊎ IsOut homes (set vs id w)
  home_set id v w at free free' (inl h) = inl (h.0, λ j d t. at_other vs id j w d (λ d. d.stage ≡ holds t → ⊥) (free' t) (λ k x _ e. h.1 k x t e))
  home_set id v w at free free' (inr h) = inr (h.0, (h.1.0, h.1.1, h.1.2, set_else vs id h.1.0 w (holder_apart vs id h.1.0 v h.1.1 h.1.2 at h.1.3 free h.1.4) ∙ h.1.3, h.1.4))

  pub home_more : (w : PlaceView) → IsFree w.stage → AtHome trace log homes vs ⊎ IsOut homes vs → AtHome trace log homes (vs ++ w ∷ []) ⊎ IsOut homes (vs ++ w ∷ [])
  home_more w free (inl h) = inl (h.0, λ j d t e is. ⊎_elim (λ p. h.1 j d t p is) (λ q. free t (ap (λ (x : PlaceView). x.stage) q ∙ is)) (at_snoc vs w d j e))
  home_more w free (inr h) = inr (h.0, (h.1.0, h.1.1, h.1.2, at_longer vs (w ∷ []) h.1.0 h.1.1 h.1.3, h.1.4))

module _ (start : Benched) (clients : ℕ) where
  abbrev pub Rule : St → Type 0
  Rule = Kept start clients

  -- One place and at most one word changed: the rule holds again where the words, the sums, the place's own view, the others at the
  -- new log and the slot are as it asks.
  pub framed : (s : St) (r : Rule s) (id : ℕ) (w : PlaceView) (words : List ℕ) (homes : Homes) (ticket serving : ℕ) (log : List Entry)
      → words ≡ ticket ∷ serving ∷ length log ∷ [] → serving ≤ ticket → IsLegal start.trace log × Past start.log clients log → Counted clients ticket serving (set s.views id w)
      → Known start clients serving log w → ((j : ℕ) (d : PlaceView) → j ≢ id → get_elem? s.views j ≡ some d → Known start clients serving log d)
      → AtHome start.trace log homes (set s.views id w) ⊎ IsOut homes (set s.views id w) → Rule record { words = words; homes = homes; views = set s.views id w }
  framed s r id w words homes ticket serving log is order good counts mine others home = record {
    ticket = ticket;
    serving = serving;
    log = log;
    words = is;
    order = order;
    few = r.few;
    legal = good.0;
    past = good.1;
    counts = counts;
    each = λ j d. at_other s.views id j w d (Known start clients serving log) mine others;
    home = home;
  }

  -- only views changed
  pub settled : (s : St) (r : Rule s) (views : List PlaceView) → SameSums s.views views → ((j : ℕ) (d : PlaceView) → get_elem? views j ≡ some d → Known start clients r.serving r.log d)
      → AtHome start.trace r.log s.homes views ⊎ IsOut s.homes views → Rule record { words = s.words; homes = s.homes; views = views }
  settled s r views same each home = record {
    ticket = r.ticket;
    serving = r.serving;
    log = r.log;
    words = r.words;
    order = r.order;
    few = r.few;
    legal = r.legal;
    past = r.past;
    counts = counted_same clients r.ticket r.serving s.views views same r.counts;
    each = each;
    home = home;
  }

  -- a place that drew no ticket and stands for the same clients leaves what is counted
  pub counts_kept : (s : St) (r : Rule s) (id : ℕ) (v w : PlaceView) → get_elem? s.views id ≡ some v → turns_of w ≡ turns_of v → parts_of w ≡ parts_of v → ((c : ℕ) → claims c w ≡ claims c v) → ((t : ℕ) → draws t w ≡ draws t v)
      → Counted clients r.ticket r.serving (set s.views id w)
  counts_kept s r id v w at turns parts own tickets = counted_same clients r.ticket r.serving s.views (set s.views id w) record {
    turns = sum_kept turns_of s.views id v w at turns;
    parts = sum_kept parts_of s.views id v w at parts;
    clients = λ c. sum_kept (claims c) s.views id v w at (own c);
    tickets = λ t. sum_kept (draws t) s.views id v w at (tickets t);
  } r.counts

  -- a log that the rule has is one that a client may see whose mark fits it
  pub sees_fit : (s : St) (r : Rule s) (m : Mark) → Fits start clients r.log m → Sees m r.log
  sees_fit s r m f = record {
    legal = subst (λ (b : Benched). IsLegal b.trace r.log) (sym f.start_is) r.legal;
    past = subst (λ (z : Benched × ℕ). Past z.0.log z.1 r.log) (λ i. (sym f.start_is i, sym f.clients_are i)) r.past;
    begins = f.begins;
    same = f.same;
  }

  -- the number of tickets is far below the end of a word
  pub ticket_small : (s : St) (r : Rule s) → r.ticket ≤ 137438953472
  ticket_small s r = let h = sum_le turns_of parts_of 4294967296 s.views (λ j v e. (r.each j v e).fair) in let c = r.counts.counted in let p = r.counts.shared in let f = r.few in omega arith

  -- who has the ticket that is served has it alone
  pub alone : (s : St) (r : Rule s) (i j : ℕ) (v w : PlaceView) → get_elem? s.views i ≡ some v → get_elem? s.views j ≡ some w → draws r.serving v ≡ 1 → draws r.serving w ≡ 1 → i ≢ j → ⊥
  alone s r i j v w at at' d d' n = let two = sum_two (draws r.serving) s.views i j v w n at at' in
      dite (ℕ_discrete r.serving r.ticket) (λ e. let z = r.counts.late r.serving (omega arith) in omega arith) (λ ne. let o = r.order in let z = r.counts.drawn r.serving (omega arith) (omega arith) in omega arith)

  -- the others while a place holds the slot: none of them holds it, and none is of its client
  pub none_else : (s : St) (r : Rule s) (id j : ℕ) (v w : PlaceView) (t : ℕ) → get_elem? s.views id ≡ some v → get_elem? s.views j ≡ some w → v.stage ≡ holds t → j ≢ id → IsFree w.stage
  none_else s r id j v w t at at' is n t' is' = let a = held r.serving r.log v.marks v.stage t (r.each id v at).current is in let b = held r.serving r.log w.marks w.stage t' (r.each j w at').current is' in
      alone s r id j v w at at' (draws_held t r.serving v.stage is a.1) (draws_held t' r.serving w.stage is' b.1) (λ e. n (sym e))

  pub other_client : (s : St) (r : Rule s) (id j : ℕ) (k : Mark) (ks : List Mark) (v w : PlaceView) (c : ℕ) → get_elem? s.views id ≡ some v → get_elem? s.views j ≡ some w → j ≢ id → v.marks ≡ k ∷ ks → 1 ≤ claims c w → k.number ≢ c
  other_client s r id j k ks v w c at at' n is one e = let two = sum_two (claims c) s.views id j v w (λ h. n (sym h)) at at' in let a = r.counts.apart c in
      let mine : 1 ≤ claims c v = subst (λ (z : ℕ × List Mark). 1 ≤ claims_in z.0 z.1) (λ i. (e i, sym is i)) (claimed (k ∷ ks) 0 k (omega arith)) in omega arith

  pub out_with : (s : St) (r : Rule s) (id t : ℕ) (v : PlaceView) → get_elem? s.views id ≡ some v → v.stage ≡ holds t → s.homes ≡ none ∷ []
  out_with s r id t v at is = ⊎_elim (λ h. absurd (h.1 id v t at is)) (λ h. h.0) r.home
