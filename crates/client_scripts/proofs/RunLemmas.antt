-- Calls that are made one after another, whose answers are kept back and written in pieces.
use Rattle.std.proofs.Common.{◌≡◌, ℕ, suc, ◌+◌, ◌-◌, ◌<◌, ◌≤◌, Bool, true, false, cond, List, [], ◌∷◌, ◌++◌, length, filter, take, drop, Option, Some, None, option_map, Result, Ok, Err, IfOk, OnOk, is_ok, is_err, refl, sym, ap, ◌∙◌, subst, arith, append_assoc, append-nil, drop-cons, slice_get}
use Rattle.std.specs.Io.KnownBytes.{Appends}
use Rattle.std.specs.Int.{from_bool}
use Rattle.std.proofs.lemmas.List.{take-append-drop, drop_all}
use Rattle.std.proofs.lemmas.Option.{slice_get_within, get_or_from_slice_get}
use Rattle.rapid_text.specs.Recording.{Recording}
use Rattle.rapid_text.specs.declared.memory.OutOfMemory.{OutOfMemory}
use Rattle.inverse_log.specs.Answer.{answer_of, log_after}
use Rattle.inverse_log.specs.declared.call.Call.{Call}
use Rattle.inverse_log.specs.declared.entry.Entry.{Entry}
use Rattle.inverse_log.specs.declared.refusal.Refusal.{Refusal}
use Rattle.inverse_log.specs.declared.reply.Reply.{Reply}
use Rattle.client_scripts.specs.Replay.{AppendsPart, answer_text, answers_behind, answers_text, script_text, tally_of}
use Rattle.script_language.specs.Scripts.{Asked}
use Rattle.client_scripts.specs.Steps.{HandsOn, IsRun, MakesCall}
use Rattle.client_scripts.specs.declared.fault.ReplayFault.{ReplayFault}
use Rattle.client_scripts.specs.declared.fault.ReplayFault.TheVariants.{Write, OutOfMemory as NoMemory}
use Rattle.client_scripts.specs.declared.fault.Tally.{Tally}
use Rattle.script_language.proofs.CallerLemmas.{option_map-some}
use Rattle.client_scripts.proofs.KnownBytesLemmas.{Appends-then}

abbrev Answer : Type 0
Answer = Result Reply Refusal

-- how many replies there are
abbrev pub reply_count : List (Result Reply Refusal) → ℕ
reply_count answers = length (filter is_ok answers)

-- The calls before place i were made, and left this log. What they wrote, what is kept back and what is left to
-- answer are the whole text, and their replies with those that are left are all replies.
pub record IsUnderway (T : Recording) (calls : List Asked) (i : ℕ) (log : List Entry) (kept : List ℕ) (accepted : ℕ) (old now : Option (List ℕ)) : Type 0 where
  pub written : List ℕ
  pub wrote : Appends old now written
  pub text : written ++ (kept ++ answers_text T (answers_behind T log (drop i calls))) ≡ script_text T calls
  pub replies : accepted + reply_count (answers_behind T log (drop i calls)) ≡ reply_count (answers_behind T [] calls)

-- nothing is appended
pub Appends-nothing : (known : Option (List ℕ)) → Appends known known []
Appends-nothing None = tt
Appends-nothing (Some xs) = sym (append-nil xs)

pub nothing-part : (known : Option (List ℕ)) (bytes : List ℕ) → AppendsPart known known bytes
nothing-part known bytes = (0, Appends-nothing known)

pub underway-start : (T : Recording) (calls : List Asked) (log : List Entry) (kept : List ℕ) (old : Option (List ℕ)) → log ≡ [] → kept ≡ [] → IsUnderway T calls 0 log kept 0 old old
underway-start T calls log kept old l k =
    record {
      written = [];
      wrote = Appends-nothing old;
      text = ap (λ s. s ++ answers_text T (answers_behind T log calls)) k ∙ ap (λ x. answers_text T (answers_behind T x calls)) l;
      replies = omega (arith, ap (λ x. reply_count (answers_behind T x calls)) l);
    }

take-front : {X : Type 0} (xs ys : List X) → take (length xs) (xs ++ ys) ≡ xs
take-front [] ys = refl
take-front (x ∷ xs) ys = ap (λ s. x ∷ s) (take-front xs ys)

-- what was appended is a beginning of the bytes that it begins
pub part-from : (old new : Option (List ℕ)) (front rest bytes : List ℕ) → front ++ rest ≡ bytes → Appends old new front → AppendsPart old new bytes
part-from old new front rest bytes e h =
    (length front, subst (λ s. Appends old new s) (sym (take-front front rest) ∙ ap (take (length front)) e) h)

-- what was written so far is a beginning of the text
pub underway-part : (T : Recording) (calls : List Asked) (i : ℕ) (log : List Entry) (kept : List ℕ) (accepted : ℕ) (old now : Option (List ℕ)) → IsUnderway T calls i log kept accepted old now → AppendsPart old now (script_text T calls)
underway-part T calls i log kept accepted old now h = part-from old now h.written _ (script_text T calls) h.text h.wrote

take-drop : (n : ℕ) (xs : List ℕ) → take n xs ++ drop n xs ≡ xs
take-drop n xs = take-append-drop n xs

-- so is it where a part of what is kept was written too
pub kept-part : (old now new : Option (List ℕ)) (written kept rest bytes : List ℕ) → Appends old now written → written ++ (kept ++ rest) ≡ bytes → AppendsPart now new kept → AppendsPart old new bytes
kept-part old now new written kept rest bytes w e part =
    let n = part.0 in
    part-from old new (written ++ take n kept) (drop n kept ++ rest) bytes
    (append_assoc written (take n kept) (drop n kept ++ rest)
    ∙ ap (λ s. written ++ s) (sym (append_assoc (take n kept) (drop n kept) rest))
    ∙ ap (λ s. written ++ (s ++ rest)) (take-drop n kept)
    ∙ e)
    (Appends-then old now new written (take n kept) w part.1)

-- a call that was made is the script's
pub makes-call : (T : Recording) (calls : List Asked) (at : ℕ) (log : List Entry) (r : Result Bool OutOfMemory) (old : List ℕ) (after : List Entry) (new : List ℕ) (asked : ℕ × Call) → option_map (λ (a : Asked). (a.client, a.call)) (slice_get calls at) ≡ Some asked
    → OnOk r (new ≡ old ++ answer_text T (answer_of T log asked.0 asked.1)) → IfOk r (λ accepted. accepted ≡ is_ok (answer_of T log asked.0 asked.1)) → OnOk r (after ≡ log_after T log asked.0 asked.1)
    → IfOk r (λ accepted. MakesCall T calls at log accepted old after new)
makes-call T calls at log (Ok accepted) old after new asked there text reply logged =
    record {
      asked = asked;
      there = there;
      text = text;
      reply = reply;
      logged = logged;
    }
makes-call T calls at log (Err refused) old after new asked there text reply logged = tt

reply_count-cons : (answer : Answer) (answers : List Answer) → reply_count (answer ∷ answers) ≡ cond (is_ok answer) 1 0 + reply_count answers
reply_count-cons (Ok reply) answers = omega arith
reply_count-cons (Err why) answers = omega arith

-- one call more is made
module _ (T : Recording) (calls : List Asked) (i : ℕ) (log : List Entry) (kept : List ℕ) (accepted : ℕ) (old now : Option (List ℕ)) (h : IsUnderway T calls i log kept accepted old now) (asked : ℕ × Call) (is : option_map (λ (a : Asked). (a.client, a.call)) (slice_get calls i) ≡ Some asked) where
  answers_left : answers_behind T log (drop i calls) ≡ answer_of T log asked.0 asked.1 ∷ answers_behind T (log_after T log asked.0 asked.1) (drop (i + 1) calls)
  answers_left =
      let next = option_map-some (λ (a : Asked). (a.client, a.call)) (slice_get calls i) asked is in
      let more : suc i ≡ i + 1 = omega arith in
      ap (answers_behind T log)
      (drop-cons calls i next.0 (slice_get_within calls i next.0 next.1)
      ∙ ap (λ x. x ∷ drop (suc i) calls) (get_or_from_slice_get calls i next.0 next.0 next.1)
      ∙ ap (λ n. next.0 ∷ drop n calls) more)
      ∙ ap (λ (p : ℕ × Call). answer_of T log p.0 p.1 ∷ answers_behind T (log_after T log p.0 p.1) (drop (i + 1) calls)) next.2

  -- the text with the call's own line among what is kept
  text-called : (kept_more : List ℕ) → kept_more ≡ kept ++ answer_text T (answer_of T log asked.0 asked.1) → h.written ++ (kept_more ++ answers_text T (answers_behind T (log_after T log asked.0 asked.1) (drop (i + 1) calls))) ≡ script_text T calls
  text-called kept_more k =
      let rest = answers_text T (answers_behind T (log_after T log asked.0 asked.1) (drop (i + 1) calls)) in
      let line = answer_text T (answer_of T log asked.0 asked.1) in
      ap (λ s. h.written ++ (s ++ rest)) k
      ∙ ap (λ s. h.written ++ s) (append_assoc kept line rest)
      ∙ ap (λ more. h.written ++ (kept ++ answers_text T more)) (sym answers_left)
      ∙ h.text

  pub underway-more : (kept_more kept_now : List ℕ) (new : Option (List ℕ)) (log_new : List Entry) (accepted_now : ℕ) → kept_more ≡ kept ++ answer_text T (answer_of T log asked.0 asked.1) → HandsOn now new kept_more kept_now [] → log_new ≡ log_after T log asked.0 asked.1 → accepted_now ≡ accepted + cond (is_ok (answer_of T log asked.0 asked.1)) 1 0 → IsUnderway T calls (i + 1) log_new kept_now accepted_now old new
  underway-more kept_more kept_now new log_new accepted_now k hands d a =
      let out = hands.0 in
      let left = answers_behind T (log_after T log asked.0 asked.1) (drop (i + 1) calls) in
      let rest = answers_text T left in
      record {
        written = h.written ++ out;
        wrote = Appends-then old now new h.written out h.wrote hands.1;
        text =
            append_assoc h.written out (kept_now ++ answers_text T (answers_behind T log_new (drop (i + 1) calls)))
            ∙ ap (λ x. h.written ++ (out ++ (kept_now ++ answers_text T (answers_behind T x (drop (i + 1) calls))))) d
            ∙ ap (λ s. h.written ++ s) (sym (append_assoc out kept_now rest))
            ∙ ap (λ s. h.written ++ (s ++ rest)) (hands.2 ∙ append-nil kept_more)
            ∙ text-called kept_more k;
        replies = omega (arith, a, ap (λ x. reply_count (answers_behind T x (drop (i + 1) calls))) d, reply_count-cons (answer_of T log asked.0 asked.1) left, ap reply_count answers_left, h.replies);
      }

  -- where a part of what is kept was written, a beginning of the text was
  pub called-part : (kept_more : List ℕ) (new : Option (List ℕ)) → kept_more ≡ kept ++ answer_text T (answer_of T log asked.0 asked.1) → AppendsPart now new kept_more → AppendsPart old new (script_text T calls)
  called-part kept_more new k part =
      kept-part old now new h.written kept_more _ (script_text T calls) h.wrote (text-called kept_more k) part

-- after the last call
module _ (T : Recording) (calls : List Asked) (i : ℕ) (log : List Entry) (kept : List ℕ) (accepted : ℕ) (old now : Option (List ℕ)) (h : IsUnderway T calls i log kept accepted old now) (all : length calls ≤ i) where
  none_left : answers_behind T log (drop i calls) ≡ []
  none_left = ap (answers_behind T log) (drop_all i calls all)

  pub text-ended : h.written ++ (kept ++ []) ≡ script_text T calls
  text-ended = ap (λ more. h.written ++ (kept ++ answers_text T more)) (sym none_left) ∙ h.text

  pub ended-part : (new : Option (List ℕ)) → AppendsPart now new kept → AppendsPart old new (script_text T calls)
  ended-part new part = kept-part old now new h.written kept [] (script_text T calls) h.wrote text-ended part

  pub ended-whole : (new : Option (List ℕ)) → Appends now new kept → Appends old new (script_text T calls)
  ended-whole new w =
      subst (λ s. Appends old new s) (ap (λ s. h.written ++ s) (sym (append-nil kept)) ∙ text-ended) (Appends-then old now new h.written kept h.wrote w)

  pub replies-ended : accepted ≡ reply_count (answers_behind T [] calls)
  replies-ended = omega (arith, h.replies, ap reply_count none_left)

-- each call has an answer
answers-length : (T : Recording) (log : List Entry) (calls : List Asked) → length (answers_behind T log calls) ≡ length calls
answers-length T log [] = refl
answers-length T log (asked ∷ calls) = ap suc (answers-length T (log_after T log asked.client asked.call) calls)

-- an answer is a reply or a refusal
both : (answers : List Answer) → length (filter is_ok answers) + length (filter is_err answers) ≡ length answers
both [] = refl
both (Ok reply ∷ answers) = omega (arith, both answers)
both (Err why ∷ answers) = omega (arith, both answers)

pub tally-ended : (T : Recording) (calls : List Asked) (count accepted refused : ℕ) → count ≡ length calls → accepted ≡ reply_count (answers_behind T [] calls) → refused ≡ count - accepted → record { calls = count; accepted = accepted; refused = refused } ≡ tally_of T calls
tally-ended T calls count accepted refused c a r =
    let answers = answers_behind T [] calls in
    let counted : count ≡ length answers = omega (arith, c, answers-length T [] calls) in
    let others : refused ≡ length (filter is_err answers) = omega (arith, r, a, counted, both answers) in
    cc

-- no more replies than calls
pub replies-few : (T : Recording) (calls : List Asked) → reply_count (answers_behind T [] calls) ≤ length calls
replies-few T calls =
    omega (arith, answers-length T [] calls, both (answers_behind T [] calls))

-- a reply counts as one
pub from_bool-cond : (b : Bool) → from_bool b ≡ cond b 1 0
from_bool-cond true = refl
from_bool-cond false = refl

pub cond-one : (b : Bool) → cond b 1 0 ≤ 1
cond-one true = omega arith
cond-one false = omega arith

-- the calls stopped for this fault, with a beginning of the text written
pub run-memory : (T : Recording) (calls : List Asked) (old new : Option (List ℕ)) (r : Result Tally ReplayFault) → r ≡ Err NoMemory → AppendsPart old new (script_text T calls) → IsRun T calls old new r
run-memory T calls old new r e part = subst (IsRun T calls old new) (sym e) part

pub run-write : (T : Recording) (calls : List Asked) (old new : Option (List ℕ)) (r : Result Tally ReplayFault) → r ≡ Err Write → AppendsPart old new (script_text T calls) → IsRun T calls old new r
run-write T calls old new r e part = subst (IsRun T calls old new) (sym e) part
