-- Places are made from the first one, and joined again.
use Rattle.std.proofs.Common.{◌≡◌, ◌==◌, Bool, true, false, ℕ, zero, suc, ◌+◌, ◌<◌, ◌≤◌, List, [], ◌∷◌, ◌++◌, length, set, take, drop, sym, refl, ap, ◌∙◌, subst, inl, ⊎_elim, arith, length-append, take-append-drop, Some, All}
use Rattle.std.proofs.lemmas.List.Sums.{sum_by-cons, sum_by-append, sum_by_push, sum_by-take-drop}
use Rattle.std.proofs.lemmas.List.Elements.{All-nil, All-cons, All-append, All-take, All-drop}
use mathlib.Core.Logic.{dite}
use mathlib.Core.Option.{some, some-injective}
use native.Mathlib.Decide.{ℕ_discrete}
use lib.ListN.{get_elem?}
use Rattle.atomic_table.specs.Table.{Splits, Joins, opening}
use Rattle.atomic_table.proofs.Lists.{at_snoc, set_else}
use Rattle.inverse_log.specs.Answer.{IsLegal}
use Rattle.inverse_log.specs.Log.{Benched}
use Rattle.workspace_lock.specs.Turns.{Mark, mark}
use Rattle.workspace_lock.specs.Places.{idle, holds, PlaceView, blank}
use Rattle.workspace_lock.specs.Rule.{claims_in, claims, draws, turns_of, parts_of, Fits, Known, Kept, fresh_marks, opened}
use Rattle.workspace_lock.specs.Steps.{stays, goes_off, joined}
use Rattle.workspace_lock.proofs.SumLemmas.{sum_set}
use Rattle.workspace_lock.proofs.LogLemmas.{prefix_self, past_self}
use Rattle.workspace_lock.proofs.RuleLemmas.{one_where, undrawn, at_other, none_if, idle_free, free_idle, current_idle, home_set, home_more, settled}

abbrev of_client : ℕ → Mark → ℕ
of_client c m = one_where (m.number == c)

claims_cons : (c : ℕ) (m : Mark) (ms : List Mark) → claims_in c (m ∷ ms) ≡ of_client c m + claims_in c ms
claims_cons c m ms = sum_by-cons (of_client c) m ms

one_le : (b : Bool) (n : ℕ) → n ≡ 0 → one_where b + n ≤ 1
one_le true n e = omega arith
one_le false n e = omega arith

module _ (start : Benched) (clients : ℕ) where
  -- B2
  pub splits : (id : ℕ) (v : PlaceView) → v.stage ≡ idle → v.turns ≡ 0 → Splits (Kept start clients) id v (stays v) (goes_off v)
  splits id v is fresh s r at =
      let l : PlaceView = stays v in let g : PlaceView = goes_off v in let vs : List PlaceView = set s.views id l in
      let parts : length (take 1 v.marks) + length (drop 1 v.marks) ≡ length v.marks = sym (length-append (take 1 v.marks) (drop 1 v.marks)) ∙ ap length (take-append-drop 1 v.marks) in
      let Fit = Fits start clients r.log in let At = Known start clients r.serving r.log in let known = r.each id v at in
      settled start clients s r (vs ++ g ∷ [])
      record {
        turns = let h = sum_set turns_of s.views id v l at in let e = sum_by_push turns_of vs g in omega arith;
        parts = let h = sum_set parts_of s.views id v l at in let e = sum_by_push parts_of vs g in omega arith;
        clients = λ c. let h = sum_set (claims c) s.views id v l at in let e = sum_by_push (claims c) vs g in
            let cut : claims c g + claims c l ≡ claims c v = sum_by-take-drop (of_client c) v.marks 1 in omega arith;
        tickets = λ t. let h = sum_set (draws t) s.views id v l at in let e = sum_by_push (draws t) vs g in omega arith;
      }
      (λ j d e. ⊎_elim
      (λ p. at_other s.views id j l d At record { marked = All-drop Fit 1 v.marks known.marked; fair = omega arith; current = current_idle r.serving r.log (drop 1 v.marks) v.stage is } (λ k d _ e. r.each k d e) p)
      (λ q. subst At q record { marked = All-take Fit 1 v.marks known.marked; fair = omega arith; current = tt }) (at_snoc vs g d j e))
      (home_more start.trace r.log s.homes vs g idle_free (home_set start.trace r.log s.homes s.views id v l at (free_idle v.stage is) (free_idle v.stage is) r.home))

  -- B3
  pub joins : (id : ℕ) (v : PlaceView) (other : ℕ) (w : PlaceView) → v.stage ≡ idle → w.stage ≡ idle → Joins (Kept start clients) id v other w (joined v w) blank
  joins id v other w is is' s r at apart there' =
      let b : PlaceView = joined v w in let vs : List PlaceView = set s.views id b in let at' : get_elem? s.views other ≡ some w = sym (set_else s.views id other b apart) ∙ there' in
      let Fit = Fits start clients r.log in let At = Known start clients r.serving r.log in
      let known = r.each id v at in let known' = r.each other w at' in let parts = length-append v.marks w.marks in
      settled start clients s r (set vs other blank)
      record {
        turns = let h = sum_set turns_of s.views id v b at in let e = sum_set turns_of vs other w blank there' in omega arith;
        parts = let h = sum_set parts_of s.views id v b at in let e = sum_set parts_of vs other w blank there' in omega arith;
        clients = λ c. let h = sum_set (claims c) s.views id v b at in let e = sum_set (claims c) vs other w blank there' in
            let both : claims c b ≡ claims c v + claims c w = sum_by-append (of_client c) v.marks w.marks in omega arith;
        tickets = λ t. let h = sum_set (draws t) s.views id v b at in let e = sum_set (draws t) vs other w blank there' in let n = undrawn t w is' in omega arith;
      }
      (λ j d. at_other vs other j blank d At record { marked = All-nil Fit; fair = omega arith; current = tt }
      (λ k x _. at_other s.views id k b x At
      record { marked = All-append Fit v.marks w.marks known.marked known'.marked; fair = let a = known.fair in let c = known'.fair in omega arith; current = current_idle r.serving r.log (v.marks ++ w.marks) v.stage is }
      (λ k d _ e. r.each k d e)))
      (home_set start.trace r.log s.homes vs other w blank there' (free_idle w.stage is') idle_free (home_set start.trace r.log s.homes s.views id v b at (free_idle v.stage is) (free_idle v.stage is) r.home))

  -- at the start
  pub length_fresh : (n k : ℕ) → length (fresh_marks start clients n k) ≡ k
  length_fresh n zero = refl
  length_fresh n (suc k) = let r = length_fresh (suc n) k in omega arith

  claims_below : (c n k : ℕ) → c < n → claims_in c (fresh_marks start clients n k) ≡ 0
  claims_below c n zero h = refl
  claims_below c n (suc k) h = let no = none_if n c (λ e. omega arith) in let r = claims_below c (suc n) k (omega arith) in
      claims_cons c (mark start clients n start.log) (fresh_marks start clients (suc n) k) ∙ omega arith

  claims_fresh : (c n k : ℕ) → claims_in c (fresh_marks start clients n k) ≤ 1
  claims_fresh c n zero = omega arith
  claims_fresh c n (suc k) = subst (λ z. z ≤ 1) (sym (claims_cons c (mark start clients n start.log) (fresh_marks start clients (suc n) k)))
      (dite (ℕ_discrete n c) (λ e. one_le (n == c) (claims_in c (fresh_marks start clients (suc n) k)) (claims_below c (suc n) k (omega arith))) (λ e. let no = none_if n c e in let r = claims_fresh c (suc n) k in omega arith))

  fits_fresh : (n k : ℕ) → 0 < n → n + k ≤ clients + 1 → All (Fits start clients start.log) (fresh_marks start clients n k)
  fits_fresh n zero low high = All-nil (Fits start clients start.log)
  fits_fresh n (suc k) low high = All-cons (Fits start clients start.log) (mark start clients n start.log) (fresh_marks start clients (suc n) k)
      record { start_is = refl; clients_are = refl; low = low; high = omega arith; begins = prefix_self start.log; same = refl } (fits_fresh (suc n) k (omega arith) (omega arith))

  only_one : (j : ℕ) (v d : PlaceView) (P : PlaceView → Type 0) → P v → get_elem? (v ∷ []) j ≡ some d → P d
  only_one zero v d P p e = subst P (some-injective v d e) p
  only_one (suc j) v d P p e = absurd (cc e)

  pub opens : IsLegal start.trace start.log → clients ≤ 32 → Kept start clients (opening (0 ∷ 0 ∷ length start.log ∷ []) (Some start ∷ []) (opened start clients))
  opens legal few = record {
    ticket = 0;
    serving = 0;
    log = start.log;
    words = refl;
    order = omega arith;
    few = few;
    legal = legal;
    past = past_self start.log clients;
    counts = record {
      counted = refl;
      shared = let e = length_fresh 1 clients in omega arith;
      apart = λ c. let e = claims_fresh c 1 clients in omega arith;
      drawn = λ t low high. absurd (omega arith);
      early = λ t low. absurd (omega arith);
      late = λ t high. refl;
    };
    each = λ j d. only_one j (opened start clients) d (Known start clients 0 start.log) record { marked = fits_fresh 1 clients (omega arith) (omega arith); fair = omega arith; current = tt };
    home = inl (refl, λ j d t. only_one j (opened start clients) d (λ d. d.stage ≡ holds t → ⊥) (idle_free t));
  }
