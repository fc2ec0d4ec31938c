-- Beginnings of a log, and a client's entries in it.
use Rattle.std.proofs.Common.{◌≡◌, ◌≢◌, ℕ, ◌<◌, ◌≤◌, List, [], ◌∷◌, ◌++◌, sym, subst, ap, ◌∙◌, append_assoc, ne_eqb, length, arith, length-append, inl, inr}
use Rattle.std.proofs.lemmas.List.{append-nil}
use Rattle.std.proofs.lemmas.List.Elements.{filter-append, All-nil, All-push}
use Rattle.std.specs.Prelude.{◌==◌}
use mathlib.Core.List.{IsPrefix}
use Rattle.inverse_log.specs.declared.entry.Entry.{Entry}
use Rattle.inverse_log.specs.Log.{own_entries, client_of}
use Rattle.inverse_log.specs.Answer.{Grown}
use Rattle.workspace_lock.specs.Turns.{HasSeat, Past}

module _ {A : Type 0} where
  pub prefix_self : (xs : List A) → IsPrefix xs xs
  prefix_self xs = ([], append-nil xs)

  pub prefix_trans : (xs ys zs : List A) → IsPrefix xs ys → IsPrefix ys zs → IsPrefix xs zs
  prefix_trans xs ys zs p q = (p.0 ++ q.0, sym (append_assoc xs p.0 q.0) ∙ (ap (λ w. w ++ q.0) p.1 ∙ q.1))

pub grown_begins : (log : List Entry) (c : ℕ) (after : List Entry) → Grown log c after → IsPrefix log after
grown_begins log c after (inl is) = subst (IsPrefix log) (sym is) (prefix_self log)
grown_begins log c after (inr more) = (more.0 ∷ [], sym more.1)

own_more : (log : List Entry) (k : ℕ) (e : Entry) → client_of e ≢ k → own_entries (log ++ e ∷ []) k ≡ own_entries log k
own_more log k e n = filter-append (λ x. client_of x == k) log (e ∷ []) ∙ rw (ne_eqb (client_of e) k n) (append-nil (own_entries log k))

pub grown_own : (log : List Entry) (c : ℕ) (after : List Entry) (k : ℕ) → c ≢ k → Grown log c after → own_entries after k ≡ own_entries log k
grown_own log c after k n (inl is) = ap (λ l. own_entries l k) is
grown_own log c after k n (inr more) = ap (λ l. own_entries l k) more.1 ∙ own_more log k more.0 (λ h. n (sym more.2 ∙ h))

pub past_self : (log : List Entry) (n : ℕ) → Past log n log
past_self log n = ([], append-nil log, All-nil (HasSeat n))

pub past_grows : (first : List Entry) (n : ℕ) (log : List Entry) (c : ℕ) (after : List Entry) → Past first n log → 0 < c → c ≤ n → Grown log c after → Past first n after
past_grows first n log c after p low high (inl is) = subst (Past first n) (sym is) p
past_grows first n log c after p low high (inr more) =
    let e = more.0 in (
      p.0 ++ e ∷ [],
      sym (append_assoc first p.0 (e ∷ [])) ∙ ap (λ w. w ++ e ∷ []) p.1 ∙ sym more.1,
      All-push (HasSeat n) p.0 e p.2 (subst (λ z. 0 < z) (sym more.2) low, subst (λ z. z ≤ n) (sym more.2) high),
    )

pub grown_more : (log : List Entry) (c : ℕ) (after : List Entry) → Grown log c after → length log < length after → (e : Entry) × (after ≡ log ++ e ∷ []) × (client_of e ≡ c)
grown_more log c after (inl is) h = let same = ap length is in absurd (omega arith)
grown_more log c after (inr more) h = more

pub grown_same : (log : List Entry) (c : ℕ) (after : List Entry) → Grown log c after → length after ≤ length log → after ≡ log
grown_same log c after (inl is) h = is
grown_same log c after (inr more) h = let longer = ap length more.1 in let l = length-append log (more.0 ∷ []) in absurd (omega arith)
