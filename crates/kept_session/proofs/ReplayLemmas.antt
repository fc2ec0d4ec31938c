-- A replay of the lines of a log.
use Rattle.std.proofs.Common.{◌≡◌, ℕ, suc, ◌+◌, List, [], ◌∷◌, ◌++◌, All, Option, Some, None, Result, Ok, Err, IsOk, is_ok, is_err, codes, filter, flat_map, length, refl, sym, ap, ◌∙◌, subst, append_assoc, append-nil, arith}
use Rattle.std.specs.List.{slice_split}
use Rattle.std.specs.Io.KnownBytes.{Appends}
use Rattle.std.proofs.lemmas.List.Elements.{All-cons, All-head, All-nil, All-tail}
use Rattle.std.proofs.lemmas.List.Splits.{slice_split_none}
use Rattle.rapid_text.specs.Recording.{Recording}
use Rattle.rapid_text.specs.Reading.{is_line_feed}
use Rattle.inverse_log.specs.Answer.{answer_of, log_after, logged}
use Rattle.inverse_log.specs.declared.call.Call.{Call}
use Rattle.inverse_log.specs.declared.entry.Entry.{Entry}
use Rattle.inverse_log.specs.declared.refusal.Refusal.{Refusal}
use Rattle.inverse_log.specs.declared.reply.Reply.{Reply}
use Rattle.script_language.specs.Scripts.{Asked, AreRead, asked_by, asked_behind, script_line_reading}
use Rattle.script_language.specs.declared.refusal.ScriptCause.{ScriptCause}
use Rattle.client_scripts.specs.Joint.{ended}
use Rattle.client_scripts.specs.Replay.{answers_behind, script_text, tally_of}
use Rattle.client_scripts.specs.Traces.{trace_of}
use Rattle.client_scripts.specs.declared.fault.ReplayFault.{ReplayFault}
use Rattle.kept_log.specs.Lines.{IsLine}
use Rattle.kept_session.specs.Laws.{LinesAreScript, ReplayLeavesLog, log_left, all_accepted}
use Rattle.kept_session.specs.Sessions.{log_by, log_behind, log_of, IsLogged, AreLogged}
use Rattle.kept_session.proofs.LogLemmas.{no_more}
use Rattle.kept_session.proofs.SplitLemmas.{split-feed}

-- the lines of a text of whole lines, and nothing behind them
pub split-ended : (lines : List (List ℕ)) → All IsLine lines → slice_split is_line_feed (flat_map ended lines) ≡ lines ++ [] ∷ []
split-ended [] are = refl
split-ended (line ∷ lines) are =
    ap (slice_split is_line_feed) (append_assoc line (codes "\n") (flat_map ended lines))
    ∙ split-feed line (flat_map ended lines)
    ∙ ap (λ (ls : List (List ℕ)). ls ++ slice_split is_line_feed (flat_map ended lines)) (slice_split_none is_line_feed line (All-head IsLine line lines are))
    ∙ ap (λ (ls : List (List ℕ)). line ∷ ls) (split-ended lines (All-tail IsLine line lines are))

-- What calls are answered and leave: each is accepted, and the log is that.
record AreAccepted (T : Recording) (L : List Entry) (asked : List Asked) (count : ℕ) (M : List Entry) : Type 0 where
  pub calls : length (answers_behind T L asked) ≡ count
  pub accepted : length (filter is_ok (answers_behind T L asked)) ≡ count
  pub refused : length (filter is_err (answers_behind T L asked)) ≡ 0
  pub left : log_left T L asked ≡ M

-- one call more, which was accepted
accepted-more : (T : Recording) (L M : List Entry) (asked : Asked) (more : List Asked) (count : ℕ) (reply : Reply) → answer_of T L asked.client asked.call ≡ Ok reply
    → AreAccepted T (log_after T L asked.client asked.call) more count M → AreAccepted T L (asked ∷ more) (suc count) M
accepted-more T L M asked more count reply is h =
    let rest = answers_behind T (log_after T L asked.client asked.call) more in
    let one : answers_behind T L (asked ∷ more) ≡ Ok reply ∷ rest = ap (λ (a : Result Reply Refusal). a ∷ rest) is in
    record {
      calls = ap length one ∙ ap suc h.calls;
      accepted = ap (λ (rs : List (Result Reply Refusal)). length (filter is_ok rs)) one ∙ ap suc h.accepted;
      refused = ap (λ (rs : List (Result Reply Refusal)). length (filter is_err rs)) one ∙ h.refused;
      left = h.left;
    }

-- a call that adds an entry is accepted
is_accepted : (T : Recording) (L : List Entry) (c : ℕ) (call : Call) → length (log_after T L c call) ≡ length L + 1 → (reply : Reply) × (answer_of T L c call ≡ Ok reply)
is_accepted T L c call one = from (answer_of T L c call) refl
  where
    from : (a : Result Reply Refusal) → answer_of T L c call ≡ a → (reply : Reply) × (answer_of T L c call ≡ Ok reply)
    from (Ok reply) is = (reply, is)
    from (Err why) is =
        let none : length (log_after T L c call) ≡ length L = ap (λ (a : Result Reply Refusal). length (L ++ logged c call a)) is ∙ ap length (append-nil L) in
        absurd (omega (arith, one, none))

-- What the lines of a log say as a script, and an empty line behind them. `n` lines stand before them.
record IsReplayed (T : Recording) (L : List Entry) (lines : List (List ℕ)) (n : ℕ) : Type 0 where
  pub read : AreRead (lines ++ [] ∷ [])
  pub made : AreAccepted T L (asked_behind n (lines ++ [] ∷ [])) (length lines) (log_behind T L lines)

replayed-more : (T : Recording) (L : List Entry) (line : List ℕ) (lines : List (List ℕ)) (n : ℕ) → IsLogged T L line → IsReplayed T (log_by T L (script_line_reading line)) lines (n + 1)
    → IsReplayed T L (line ∷ lines) n
replayed-more T L line lines n one h = from (script_line_reading line) refl
  where
    from : (r : Result (Option (ℕ × Call)) ScriptCause) → script_line_reading line ≡ r → IsReplayed T L (line ∷ lines) n
    from (Ok (Some (c, call))) is =
        let asked : Asked = record { line = n + 1; client = c; call = call } in
        let grown : length (log_after T L c call) ≡ length L + 1 = sym (ap (λ (r : Result (Option (ℕ × Call)) ScriptCause). length (log_by T L r)) is) ∙ one in
        let answer = is_accepted T L c call grown in
        let rest : AreAccepted T (log_after T L c call) (asked_behind (n + 1) (lines ++ [] ∷ [])) (length lines) (log_behind T (log_after T L c call) lines) =
        subst (λ (M : List Entry). AreAccepted T M (asked_behind (n + 1) (lines ++ [] ∷ [])) (length lines) (log_behind T M lines)) (ap (log_by T L) is) h.made in
        let more = accepted-more T L (log_behind T (log_after T L c call) lines) asked (asked_behind (n + 1) (lines ++ [] ∷ [])) (length lines) answer.0 answer.1 rest in
        record {
          read = All-cons (λ (l : List ℕ). IsOk (script_line_reading l)) line (lines ++ [] ∷ []) (subst (λ (r : Result (Option (ℕ × Call)) ScriptCause). IsOk r) (sym is) refl) h.read;
          made = subst
              (λ (r : Result (Option (ℕ × Call)) ScriptCause). AreAccepted T L (asked_by (n + 1) r ++ asked_behind (n + 1) (lines ++ [] ∷ [])) (suc (length lines)) (log_behind T (log_by T L r) lines))
              (sym is) more;
        }
    from (Ok None) is = absurd (no_more L (sym (ap (λ (r : Result (Option (ℕ × Call)) ScriptCause). length (log_by T L r)) is) ∙ one))
    from (Err why) is = absurd (no_more L (sym (ap (λ (r : Result (Option (ℕ × Call)) ScriptCause). length (log_by T L r)) is) ∙ one))

replayed : (T : Recording) (L : List Entry) (lines : List (List ℕ)) (n : ℕ) → AreLogged T L lines → IsReplayed T L lines n
replayed T L [] n all = record {
  read = All-cons (λ (l : List ℕ). IsOk (script_line_reading l)) [] [] refl (All-nil (λ (l : List ℕ). IsOk (script_line_reading l)));
  made = record { calls = refl; accepted = refl; refused = refl; left = refl };
}
replayed T L (line ∷ lines) n all = replayed-more T L line lines n all.0 (replayed T (log_by T L (script_line_reading line)) lines (n + 1) all.1)

tally_is : (T : Recording) (asked : List Asked) (count : ℕ) (M : List Entry) → AreAccepted T [] asked count M → tally_of T asked ≡ all_accepted count
tally_is T asked count M h = λ i. record { calls = h.calls i; accepted = h.accepted i; refused = h.refused i }

pub script_law : LinesAreScript
script_law T lines are all =
    let h = replayed T [] lines 0 all in
    let parts = split-ended lines are in (
      asked_behind 0 (lines ++ [] ∷ []),
      (subst AreRead (sym parts) h.read, ap (asked_behind 0) (sym parts)),
      h.made.left,
      tally_is T (asked_behind 0 (lines ++ [] ∷ [])) (length lines) (log_of T lines) h.made,
    )

same_trace : (S T : Recording) (r : Result Recording ReplayFault) → r ≡ Ok S → r ≡ Ok T → S ≡ T
same_trace S T r one two = let e : Ok S ≡ Ok T = sym one ∙ two in cc

pub replay_law : ReplayLeavesLog
replay_law T lines t old new tally are all trace script (said, wrote, told) =
    let same : said.trace ≡ T = same_trace said.trace T (trace_of t.trace) said.trace_is trace in
    let parts : slice_split is_line_feed t.script ≡ lines ++ [] ∷ [] = ap (slice_split is_line_feed) script ∙ split-ended lines are in
    let asked : said.asked ≡ asked_behind 0 (lines ++ [] ∷ []) = said.script_is.1 ∙ ap (asked_behind 0) parts in
    let h = replayed T [] lines 0 all in (
      said.asked,
      said.script_is,
      ap (log_left T []) asked ∙ h.made.left,
      told ∙ ap (λ (S : Recording). tally_of S said.asked) same ∙ ap (tally_of T) asked ∙ tally_is T (asked_behind 0 (lines ++ [] ∷ [])) (length lines) (log_of T lines) h.made,
      subst (λ (S : Recording). Appends old new (script_text S said.asked)) same wrote,
    )
