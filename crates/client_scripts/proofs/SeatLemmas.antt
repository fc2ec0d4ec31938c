-- Calls of a script that are made through a seat, one after another, with the lines of their answers.
use Rattle.std.proofs.Common.{◌≡◌, ℕ, ◌+◌, ◌<◌, ◌≤◌, List, [], ◌∷◌, ◌++◌, length, take, Option, Some, option_map, slice_get, Result, Ok, Err, refl, sym, ap, ◌∙◌, subst, arith, append-nil, length-append}
use Rattle.std.specs.Result.{OnErr}
use Rattle.std.proofs.lemmas.List.{take_more, take_all, map-append, flat_map_more}
use Rattle.std.proofs.lemmas.Option.{slice_get_within, get_or_from_slice_get}
use Rattle.rapid_text.specs.Recording.{Recording}
use Rattle.inverse_log.specs.declared.call.Call.{Call}
use Rattle.inverse_log.specs.declared.reply.Reply.{Reply}
use Rattle.inverse_log.specs.declared.refusal.SeatRefusal.{SeatRefusal}
use Rattle.workspace_lock.specs.Seating.{SeatView}
use Rattle.workspace_lock.specs.Runs.{Ran, Runs}
use Rattle.workspace_lock.proofs.CallerLemmas.{runs_snoc}
use Rattle.script_language.specs.Scripts.{Asked}
use Rattle.client_scripts.specs.Seats.{seat_text, seat_texts, calls_asked, RunsScript, StopsInScript}
use Rattle.script_language.proofs.CallerLemmas.{option_map-some}

-- the calls before place i were made through the seat s, which is n then, and the lines of their answers were appended
pub record IsSeated (T : Recording) (script : List Asked) (i : ℕ) (s : SeatView) (old : List ℕ) (n : SeatView) (new : List ℕ) : Type 0 where
  pub answers : List (Result Reply SeatRefusal)
  pub run : Runs s (calls_asked (take i script)) answers n
  pub text : new ≡ old ++ seat_texts T answers
  pub made : length answers ≡ i

-- what holds anyway holds where it is refused
pub on_err : {A E : Type 0} (r : Result A E) (P : Type 0) → P → OnErr r P
on_err (Ok x) P p = tt
on_err (Err e) P p = p

pub seated-start : (T : Recording) (script : List Asked) (s : SeatView) (old : List ℕ) → IsSeated T script 0 s old s old
seated-start T script s old = record { answers = []; run = refl; text = sym (append-nil old); made = refl }

-- the calls up to place i and the one there
calls-more : (script : List Asked) (i : ℕ) (c : Call) → option_map (λ (a : Asked). a.call) (slice_get script i) ≡ Some c → calls_asked (take (i + 1) script) ≡ calls_asked (take i script) ++ c ∷ []
calls-more script i c is =
    let next = option_map-some (λ (a : Asked). a.call) (slice_get script i) c is in
    ap calls_asked (take_more script i next.0 (slice_get_within script i next.0 next.1) ∙ ap (λ x. take i script ++ x ∷ []) (get_or_from_slice_get script i next.0 next.0 next.1))
    ∙ map-append (λ (a : Asked). a.call) (take i script) (next.0 ∷ [])
    ∙ ap (λ x. calls_asked (take i script) ++ x ∷ []) next.2

-- one call more is made
module _ (T : Recording) (script : List Asked) (i : ℕ) (s : SeatView) (old : List ℕ) (m : SeatView) (mid : List ℕ) (h : IsSeated T script i s old m mid) (c : Call) (is : option_map (λ (a : Asked). a.call) (slice_get script i) ≡ Some c) (a : Result Reply SeatRefusal) (n : SeatView) (one : Ran m c a n) where
  called : Runs s (calls_asked (take (i + 1) script)) (h.answers ++ a ∷ []) n
  called =
      subst (λ cs. Runs s cs (h.answers ++ a ∷ []) n) (sym (calls-more script i c is)) (runs_snoc s (calls_asked (take i script)) h.answers m n c a h.run one)

  -- and its line is appended
  pub seated-more : (new : List ℕ) → new ≡ mid ++ seat_text T a → IsSeated T script (i + 1) s old n new
  seated-more new e =
      record {
        answers = h.answers ++ a ∷ [];
        run = called;
        text = e ∙ ap (λ l. l ++ seat_text T a) h.text ∙ flat_map_more (seat_text T) old h.answers a;
        made = omega (arith, h.made, length-append h.answers (a ∷ []));
      }

  -- and the memory for its line is refused
  pub seated-untold : (new : List ℕ) → new ≡ mid → i < length script → StopsInScript T script s old n new
  seated-untold new e more =
      record {
        told = h.answers;
        untold = a;
        run = subst (λ k. Runs s (calls_asked (take (k + 1) script)) (h.answers ++ a ∷ []) n) (sym h.made) called;
        text = e ∙ h.text;
        made = omega (arith, h.made, more);
      }

-- after the last call
pub seated-whole : (T : Recording) (script : List Asked) (i : ℕ) (s : SeatView) (old : List ℕ) (n : SeatView) (new : List ℕ) → IsSeated T script i s old n new → length script ≤ i → RunsScript T script s old n new
seated-whole T script i s old n new h all =
    record {
      answers = h.answers;
      run = subst (λ l. Runs s (calls_asked l) h.answers n) (take_all i script all) h.run;
      text = h.text;
    }
