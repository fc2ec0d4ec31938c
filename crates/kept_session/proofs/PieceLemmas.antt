-- The lines of a piece, answered one after another.
use Rattle.std.proofs.Common.{◌≡◌, ℕ, List, [], ◌∷◌, ◌++◌, All, Option, refl, sym, ap, ◌∙◌, subst, append_assoc, append-nil}
use Rattle.rapid_text.specs.Recording.{Recording}
use Rattle.inverse_log.specs.declared.entry.Entry.{Entry}
use Rattle.kept_log.specs.Lines.{IsLine}
use Rattle.kept_session.specs.Sessions.{log_behind, AreLogged, number_after, number_behind, IsLineAnswered}
use Rattle.kept_session.specs.Steps.{LineAnswered, PieceAnswered}
use Rattle.kept_session.proofs.LineLemmas.{line_within}
use Rattle.kept_session.proofs.LogLemmas.{log_behind-append, AreLogged-append, answered_more, number_behind-push}

module _ (T : Recording) (client : Option ℕ) (first : ℕ) (raws : List (List ℕ)) (L : List Entry) (out : List ℕ) (block : List (List ℕ)) where
  -- lines were answered, and these are left
  pub record IsUnderway (left : List (List ℕ)) (number : ℕ) (M : List Entry) (out_now : List ℕ) (block_now : List (List ℕ)) : Type 0 where
    pub done : List (List ℕ)
    pub split : raws ≡ done ++ left
    pub so_far : PieceAnswered T client first done L M out out_now block block_now
    pub next : number ≡ number_behind first done

  pub underway-start : IsUnderway raws first L out block
  underway-start = record {
    done = [];
    split = refl;
    so_far = record { text = []; lines = []; answered = (refl, refl); told = sym (append-nil out); kept = sym (append-nil block); gained = refl; logged = tt };
    next = refl;
  }

  pub underway-line : (left more : List (List ℕ)) (raw : List ℕ) (number : ℕ) (M : List Entry) (out_now : List ℕ) (block_now : List (List ℕ))
      → IsUnderway left number M out_now block_now → left ≡ raw ∷ more → All IsLine raws → IsLine raw
  underway-line left more raw number M out_now block_now h is are = line_within h.done raw more (subst (All IsLine) (h.split ∙ ap (λ (ls : List (List ℕ)). h.done ++ ls) is) are)

  pub underway-more : (left more : List (List ℕ)) (raw : List ℕ) (number : ℕ) (M N : List Entry) (out_now out_then : List ℕ) (block_now block_then : List (List ℕ))
      → IsUnderway left number M out_now block_now → left ≡ raw ∷ more
      → LineAnswered T client number raw M N out_now out_then block_now block_then
      → (n : ℕ) → n ≡ number_after number → IsUnderway more n N out_then block_then
  underway-more left more raw number M N out_now out_then block_now block_then h is one n next = record {
    done = h.done ++ raw ∷ [];
    split = h.split ∙ ap (λ (ls : List (List ℕ)). h.done ++ ls) is ∙ sym (append_assoc h.done (raw ∷ []) more);
    so_far = record {
      text = h.so_far.text ++ one.text;
      lines = h.so_far.lines ++ one.lines;
      answered = answered_more T client first h.done raw L M N h.so_far.text one.text h.so_far.answered (subst (λ k. here k) h.next one.answered);
      told = one.told ∙ ap (λ (t : List ℕ). t ++ one.text) h.so_far.told ∙ append_assoc out h.so_far.text one.text;
      kept = one.kept ∙ ap (λ (b : List (List ℕ)). b ++ one.lines) h.so_far.kept ∙ append_assoc block h.so_far.lines one.lines;
      gained = log_behind-append T L h.so_far.lines one.lines ∙ ap (λ (X : List Entry). log_behind T X one.lines) h.so_far.gained ∙ one.gained;
      logged = AreLogged-append T L h.so_far.lines one.lines h.so_far.logged (subst (λ X. AreLogged T X one.lines) (sym h.so_far.gained) one.logged);
    };
    next = next ∙ ap number_after h.next ∙ sym (number_behind-push first h.done raw);
  }
    where
      here : ℕ → Type 0
      here k = IsLineAnswered T client k raw M one.text N

  pub underway-end : (left : List (List ℕ)) (number : ℕ) (M : List Entry) (out_now : List ℕ) (block_now : List (List ℕ)) → IsUnderway left number M out_now block_now → left ≡ []
      → PieceAnswered T client first raws L M out out_now block block_now × (number ≡ number_behind first raws)
  underway-end left number M out_now block_now h is =
      let all : h.done ≡ raws = sym (h.split ∙ ap (λ (ls : List (List ℕ)). h.done ++ ls) is ∙ append-nil h.done) in (
        subst (λ ls. PieceAnswered T client first ls L M out out_now block block_now) all h.so_far,
        h.next ∙ ap (number_behind first) all,
      )
